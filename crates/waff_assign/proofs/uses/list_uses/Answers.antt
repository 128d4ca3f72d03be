use Rattle.std.proofs.Common.{◌≡◌, ◌++◌, ◌∷◌, [], ◌+◌, take, sym, ◌∙◌, ap, arith}
use Rattle.std.proofs.lemmas.List.{flat_map_more, take_all, take_more}
use Rattle.std.proofs.lemmas.Option.{slice_get_within, get_or_from_slice_get}
use Rattle.waff_model.specs.Layout.{IsCell}
use Rattle.waff_model.proofs.OpCells.{cells_of_one}
use Rattle.waff_assign.specs.Uses.{seen_by, seen_in, uses_from}
use Rattle.waff_assign.proofs.UseLists.{listed_op, lists_uses, some_use}
use Rattle.waff_assign.proofs.uses.list_uses.Goals as goal

pub see-requires-clause-cells : goal.see-requires-clause-cells
see-requires-clause-cells c = cells_of_one (IsCell c.args.layout.now.spaces) c.args.ops.now c.loop-index.index c.get.result c.get.ensures c.requires.cells

pub see-requires-clause-listed : goal.see-requires-clause-listed
see-requires-clause-listed c =
    let ops = c.args.ops.now in
    let op = c.get.result in
    listed_op c.args.layout.now.spaces c.args.locks.now ops op
    (c.loop-index.index, slice_get_within ops c.loop-index.index op c.get.ensures, get_or_from_slice_get ops c.loop-index.index op op c.get.ensures)
    c.requires.listed

pub loop-index-preserved : goal.loop-index-preserved
loop-index-preserved c =
    let ops = c.args.ops.now in
    let op = c.get.result in
    let i = c.loop-index.index in
    let by = seen_by c.args.layout.now.spaces c.args.locks.now in
    let more : take (i + 1) ops ≡ take i ops ++ op ∷ []
    = take_more ops i op (slice_get_within ops i op c.get.ensures) ∙ ap (λ x. take i ops ++ x ∷ []) (get_or_from_slice_get ops i op op c.get.ensures) in
    c.in_ok-see.ensures
    ∙ ap (λ seen. seen ++ by op) c.loop-index.invariant
    ∙ flat_map_more by [] (take i ops) op
    ∙ ap (seen_in c.args.layout.now.spaces c.args.locks.now) (sym more)

pub returns-clause-uses : goal.returns-clause-uses
returns-clause-uses c =
    let spaces = c.args.layout.now.spaces in
    let ops = c.args.ops.now in
    let locks = c.args.locks.now in
    let sorted = c.sort_unstable.new.self.items in
    let whole : take c.loop-index.index ops ≡ ops = take_all c.loop-index.index ops (omega arith) in
    let seen : c.loop-index.seen.items ≡ seen_in spaces locks ops = c.loop-index.invariant ∙ ap (seen_in spaces locks) whole in
    let is : c.push_each.new.uses.items ≡ uses_from 0 sorted
    = c.in_ok-push_each.ensures ∙ ap (λ xs. xs ++ uses_from 0 c.deref.result.now) c.clear-2.ensures.items ∙ ap (uses_from 0) c.deref.ensures.value in
    rw is
    (lists_uses c.args.layout.now ops locks c.requires.rising c.requires.listed c.requires.locked sorted c.sort_unstable.ensures.sorted
    (rw (← seen) c.sort_unstable.ensures.permutation))

pub returns-clause-some : goal.returns-clause-some
returns-clause-some c =
    let spaces = c.args.layout.now.spaces in
    let ops = c.args.ops.now in
    let locks = c.args.locks.now in
    let sorted = c.sort_unstable.new.self.items in
    let whole : take c.loop-index.index ops ≡ ops = take_all c.loop-index.index ops (omega arith) in
    let seen : c.loop-index.seen.items ≡ seen_in spaces locks ops = c.loop-index.invariant ∙ ap (seen_in spaces locks) whole in
    let is : c.push_each.new.uses.items ≡ uses_from 0 sorted
    = c.in_ok-push_each.ensures ∙ ap (λ xs. xs ++ uses_from 0 c.deref.result.now) c.clear-2.ensures.items ∙ ap (uses_from 0) c.deref.ensures.value in
    rw is
    (some_use c.args.layout.now ops locks c.requires.rising c.requires.listed c.requires.locked sorted c.sort_unstable.ensures.sorted
    (rw (← seen) c.sort_unstable.ensures.permutation))
