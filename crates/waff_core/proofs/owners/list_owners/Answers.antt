use Rattle.std.proofs.Common.{◌≡◌, ◌+◌, ◌-◌, ◌*◌, ◌≤◌, ◌++◌, ◌∷◌, [], List, ℕ, length, get_or, arith, ◌∙◌, ap, sym, subst}
use Rattle.std.proofs.lemmas.List.{length-map}
use Rattle.std.proofs.lemmas.List.Sums.{sum_by-le}
use Rattle.waff_model.specs.Cells.{cells_of}
use Rattle.waff_model.specs.declared.limits.TheConstants.{MAX_OPS}
use Rattle.waff_model.specs.declared.message.Message.{Message}
use Rattle.waff_model.proofs.TraceLemmas.{max_ops-most}
use Rattle.waff_assign.proofs.Assignments.{cells_of_layout}
use Rattle.waff_cells.specs.Serial.{operations}
use Rattle.waff_core.specs.Job.{ListsOwners}
use Rattle.waff_core.specs.Owners.{AreAdded, owners_in}
use Rattle.waff_core.proofs.Listing.{lists_owners, owners_one_more, owners_all, few_owners, operations_at}
use Rattle.waff_core.proofs.owners.list_owners.Goals as goal

pub push_owners-requires : goal.push_owners-requires
push_owners-requires c = record {
  layout = c.requires.layout;
  count = c.clear.ensures.count ∙ c.loop-n.invariant.0;
  cells = cells_of_layout c.args.trace.now.sizes c.args.table.now.spaces (cells_of c.message.result.now.ops) c.requires.fits c.message.ensures.within.cells;
}

pub push-requires : goal.push-requires
push-requires c =
    let spaces = c.args.table.now.spaces in
    let ops = c.message.result.now.ops in
    let short : length ops ≤ MAX_OPS = omega (arith, c.message.ensures.within.within_ops, max_ops-most c.args.trace.now.version) in
    let kept = c.in_ok-push_owners.ensures.added.few in
    let none = ap (λ (xs : List ℕ). length xs) c.clear.ensures.none in
    let before = sum_by-le length (2 * MAX_OPS) c.loop-n.lists c.loop-n.invariant.1.few in
    omega (arith, kept, none, few_owners spaces ops, short, before, ap length c.as_slice.ensures, c.loop-n.invariant.1.count, c.len.ensures.few, c.len.ensures.count)

pub loop-n-preserved : goal.loop-n-preserved
loop-n-preserved c =
    let spaces = c.args.table.now.spaces in
    let n = c.loop-n.n - 1 in
    let messages = c.args.trace.now.messages in
    let ops = c.message.result.now.ops in
    let kept = c.push_owners.new.owners.owners in
    let is : ops ≡ get_or (operations messages) n [] = sym (operations_at messages n c.message.result.now c.message.ensures.message) in
    let next : n + 1 ≡ c.loop-n.n + 1 - 1 = omega arith in
    let added : AreAdded (owners_in spaces (cells_of ops)) [] kept
    = subst (λ xs. AreAdded (owners_in spaces (cells_of ops)) xs kept) c.clear.ensures.none c.in_ok-push_owners.ensures.added in
    let few = added.few in
    let short : length ops ≤ MAX_OPS = omega (arith, c.message.ensures.within.within_ops, max_ops-most c.args.trace.now.version) in
    let bound : length kept ≤ 2 * MAX_OPS = omega (arith, few, few_owners spaces ops, short) in
    let pushed : c.push.new.self ≡ c.loop-n.lists ++ kept ∷ [] = c.in_ok-push.ensures.pushed ∙ ap (λ xs. c.loop-n.lists ++ xs ∷ []) c.as_slice.ensures in (
      c.in_ok-push_owners.ensures.count ∙ c.clear.ensures.count ∙ c.loop-n.invariant.0,
      rw (pushed, ← next)
          (owners_one_more spaces (operations messages) c.loop-n.lists n kept c.loop-n.invariant.1
          (subst (λ xs. ListsOwners spaces xs kept) is (lists_owners spaces ops kept added)) bound),
    )

pub returns-clause-owners : goal.returns-clause-owners
returns-clause-owners c =
    let count = length-map c.args.trace.now.messages (λ (m : Message). m.ops) in
    owners_all c.args.table.now.spaces (operations c.args.trace.now.messages) c.loop-n.lists (c.loop-n.n - 1) (omega (arith, count)) c.loop-n.invariant.1
