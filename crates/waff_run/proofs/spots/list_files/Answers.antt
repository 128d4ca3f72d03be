use Rattle.std.proofs.Common.{◌≡◌, Contains, eqb, map, sym, subst, ◌∙◌, ap, arith}
use Rattle.std.specs.List.{dedup}
use Rattle.std.proofs.lemmas.Cmp.{nat_cmp_total, nat_eq_equiv}
use Rattle.std.proofs.lemmas.Bool.{eqb-true}
use Rattle.std.proofs.lemmas.List.{take_all}
use Rattle.std.proofs.lemmas.List.Filters.{dedup_is}
use Rattle.std.proofs.lemmas.List.Kept.{Contains-dedup, Contains-from_dedup, IsStrictlySortedBy-dedup}
use Rattle.std.proofs.lemmas.List.Sorted.{Contains-permutation, IsPermutation-sym}
use Rattle.waff_run.specs.declared.places.Spot.{Spot}
use Rattle.waff_run.proofs.Listing.{nat_eq_ties}
use Rattle.waff_run.proofs.spots.list_files.Goals as goal

pub returns : goal.returns
returns c =
    let all = map (λ (spot : Spot). spot.file) c.args.spots.now in
    let files : c.loop-at.files.items ≡ all
    = c.loop-at.invariant ∙ ap (λ spots. map (λ (spot : Spot). spot.file) spots) (take_all c.loop-at.at c.args.spots.now (omega arith)) in
    let moved = c.sort_unstable.ensures.permutation in
    let sorted = c.sort_unstable.new.self.items in
    let is : c.dedup.new.self.items ≡ dedup eqb sorted = dedup_is eqb sorted c.dedup.new.self.items c.dedup.ensures.filtered in
    record {
      each = λ file. (
        λ has.
            subst (λ xs. Contains xs file) files
            (Contains-permutation _ _ file (IsPermutation-sym _ _ moved)
            (Contains-from_dedup eqb sorted file (subst (λ xs. Contains xs file) is has))),
        λ named.
            subst (λ xs. Contains xs file) (sym is)
            (Contains-dedup nat_eq_equiv eqb-true sorted file
            (Contains-permutation _ _ file moved (subst (λ xs. Contains xs file) (sym files) named))),
      );
      rising = rw is (IsStrictlySortedBy-dedup nat_cmp_total nat_eq_ties sorted c.sort_unstable.ensures.sorted);
    }
