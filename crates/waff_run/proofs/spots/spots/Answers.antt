use Rattle.std.proofs.Common.{◌≡◌, Contains, sym, subst}
use Rattle.std.specs.List.{dedup}
use Rattle.std.proofs.lemmas.List.Filters.{dedup_is}
use Rattle.std.proofs.lemmas.List.Kept.{Contains-dedup, Contains-from_dedup, IsStrictlySortedBy-dedup}
use Rattle.std.proofs.lemmas.List.Sorted.{Contains-permutation, IsPermutation-sym}
use Rattle.waff_run.proofs.Listing.{spot_cmp_total, spot_eq, spot_eq_equiv, spot_eq_same, spot_eq_ties}
use Rattle.waff_run.proofs.spots.spots.Goals as goal

pub returns : goal.returns
returns c =
    let spots = c.in_ok-spots.ensures in
    let moved = c.sort_unstable.ensures.permutation in
    let sorted = c.sort_unstable.new.self.items in
    let is : c.dedup.new.self.items ≡ dedup spot_eq sorted = dedup_is spot_eq sorted c.dedup.new.self.items c.dedup.ensures.filtered in
    record {
      each = λ spot. (
        λ has.
            subst (λ xs. Contains xs spot) spots
            (Contains-permutation _ _ spot (IsPermutation-sym _ _ moved)
            (Contains-from_dedup spot_eq sorted spot (subst (λ xs. Contains xs spot) is has))),
        λ named.
            subst (λ xs. Contains xs spot) (sym is)
            (Contains-dedup spot_eq_equiv spot_eq_same sorted spot
            (Contains-permutation _ _ spot moved (subst (λ xs. Contains xs spot) (sym spots) named))),
      );
      rising = rw is (IsStrictlySortedBy-dedup spot_cmp_total spot_eq_ties sorted c.sort_unstable.ensures.sorted);
    }
