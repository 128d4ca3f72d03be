use Rattle.std.proofs.Common.{◌≡◌, ◌++◌, [], Contains, eqb, sym, subst, ◌∙◌, ap, arith}
use Rattle.std.specs.List.{dedup}
use Rattle.std.proofs.lemmas.Cmp.{nat_cmp_total, nat_eq_equiv}
use Rattle.std.proofs.lemmas.Bool.{eqb-true}
use Rattle.std.proofs.lemmas.List.{take_all}
use Rattle.std.proofs.lemmas.List.Filters.{dedup_is}
use Rattle.std.proofs.lemmas.List.Kept.{Contains-dedup, Contains-from_dedup, IsStrictlySortedBy-dedup}
use Rattle.std.proofs.lemmas.List.Sorted.{Contains-permutation, IsPermutation-sym}
use Rattle.waff_run.specs.Places.{spot_of}
use Rattle.waff_run.specs.Syncing.{cells_synced, files_synced, files_with}
use Rattle.waff_run.proofs.Listing.{made_more, nat_eq_ties}
use Rattle.waff_run.proofs.syncing.list_synced.Goals as goal

pub loop-at-preserved : goal.loop-at-preserved
loop-at-preserved c =
    let which = c.args.which in
    c.in_ok-push_synced.ensures
    ∙ ap (λ files. files ++ files_with c.args.places.now (cells_synced which c.get.result)) c.loop-at.invariant
    ∙ made_more (λ cell. (spot_of c.args.places.now cell).file) (cells_synced which) [] c.args.ops.now c.loop-at.at c.get.result c.get.ensures

pub returns : goal.returns
returns c =
    let all = files_synced c.args.places.now c.args.which c.args.ops.now in
    let files : c.loop-at.files.items ≡ all
    = c.loop-at.invariant ∙ ap (λ ops. files_synced c.args.places.now c.args.which ops) (take_all c.loop-at.at c.args.ops.now (omega arith)) in
    let moved = c.sort_unstable.ensures.permutation in
    let sorted = c.sort_unstable.new.self.items in
    let is : c.dedup.new.self.items ≡ dedup eqb sorted = dedup_is eqb sorted c.dedup.new.self.items c.dedup.ensures.filtered in
    record {
      each = λ file. (
        λ has.
            subst (λ xs. Contains xs file) files
            (Contains-permutation _ _ file (IsPermutation-sym _ _ moved)
            (Contains-from_dedup eqb sorted file (subst (λ xs. Contains xs file) is has))),
        λ named.
            subst (λ xs. Contains xs file) (sym is)
            (Contains-dedup nat_eq_equiv eqb-true sorted file
            (Contains-permutation _ _ file moved (subst (λ xs. Contains xs file) (sym files) named))),
      );
      rising = rw is (IsStrictlySortedBy-dedup nat_cmp_total nat_eq_ties sorted c.sort_unstable.ensures.sorted);
    }
