use Rattle.std.proofs.Common.{◌≡◌, ◌+◌, ◌^◌, ◌<◌, ◌++◌, ◌∷◌, [], ℕ, List, length, sum_by, eqb, IsTrue, Some, option_map, arith, ◌↔◌, sym, ◌∙◌, ap, subst}
use Rattle.std.specs.Prelude.{if◌then◌else◌}
use Rattle.std.proofs.lemmas.List.Filters.{dedup_is}
use Rattle.waff_model.specs.declared.tree.AffinityId.{AffinityId}
use Rattle.waff_model.specs.declared.limits.TheConstants.{MAX_MESSAGES}
use Rattle.waff_assign.specs.Held.{Held, IsHeldWithin}
use Rattle.waff_assign.specs.Order.{held_of}
use Rattle.waff_assign.specs.declared.held.LockUse.{LockUse}
use Rattle.waff_order.specs.Gathering.{latest_after, needs_in, opened_after}
use Rattle.waff_order.specs.Joined.{Joined, HaveJoined, root_of}
use Rattle.waff_order.specs.Takers.{AreStates, AreTouched, needs_by, note_uses, opened_by}
use Rattle.waff_order.proofs.OneMore.{joined_more}
use Rattle.waff_order.proofs.Taking.{gathered}
use Rattle.waff_order.proofs.joining.Joining.join.Goals as goal

pub returns-clause-joined : goal.returns-clause-joined
returns-clause-joined c = λ tree assigned joined.
    let spans = c.args.spans.now in
    let inside : Joined = record {
      needs = c.self.inside.lists;
      opened = c.self.inside.frontier.opened;
      latest = c.self.inside.frontier.latest;
      locks = c.self.inside.takers.locks.items;
      chain = c.self.inside.takers.chain.items;
      touched = c.self.inside.takers.touched.items;
    } in
    let next : Joined = record {
      needs = c.push.new.self;
      opened = c.add.new.self.opened;
      latest = c.add.new.self.latest;
      locks = c.take.new.self.locks.items;
      chain = c.take.new.self.chain.items;
      touched = c.take.new.self.touched.items;
    } in
    let h : HaveJoined tree spans assigned inside = subst (HaveJoined tree spans assigned) (sym c.self.view_is) joined in
    let held : Held = held_of c.args.assigned.now c.args.n in
    let within : IsHeldWithin (length tree) held = subst (λ k. IsHeldWithin k held) h.nested.count c.requires.known in
    let number = option_map (λ (a : AffinityId). a.0) c.affinity-affinity.result in
    let affinity : number ≡ held.affinity = c.affinity-affinity.ensures in
    let is_root = c.is_root-is_root.result in
    let tells : IsTrue is_root ↔ (held.affinity ≡ Some 0) = subst (λ o. IsTrue is_root ↔ (o ≡ Some 0)) affinity c.is_root-is_root.ensures in
    let root : ℕ = root_of spans inside.latest in
    let uses : c.uses-uses.result.now ≡ held.uses = c.uses-uses.ensures in
    let pick = λ (us : List LockUse). if is_root then opened_by root h.states inside.touched else needs_by root h.states us in
    let listed : c.take.new.needs.items ≡ pick held.uses
    = c.in_ok-take.ensures.needs h.states h.are_states ∙ ap (λ xs. xs ++ pick c.uses-uses.result.now) c.clear.ensures.items
    ∙ ap pick uses in
    let raw = pick held.uses ++ needs_in spans inside.opened inside.latest held.affinity in
    let all : c.add.new.needs.items ≡ raw
    = c.in_ok-add.ensures.needs ∙ ap (λ xs. xs ++ needs_in spans inside.opened inside.latest number) listed
    ∙ ap (λ o. pick held.uses ++ needs_in spans inside.opened inside.latest o) affinity in
    let list = c.dedup.new.self.items in
    let gathers = gathered raw c.add.new.needs.items c.sort_unstable.new.self.items list all c.sort_unstable.ensures.permutation
    c.sort_unstable.ensures.sorted (dedup_is eqb c.sort_unstable.new.self.items list c.dedup.ensures.filtered) (omega (arith, c.dedup.ensures.bound)) in
    let before : length c.args.self.now.needs ≡ length inside.needs = ap (λ (j : Joined). length j.needs) (sym c.self.view_is) in
    let fewer : length assigned < MAX_MESSAGES = omega (arith, before, c.requires.room, h.needs.count) in
    let short : sum_by length inside.needs + length list < 2 ^ 32
    = omega (arith, c.if-len-total.false, c.total.ensures, c.len-2.ensures, h.lists.short) in
    let m : c.len.result + 1 ≡ length assigned + 1 = omega (arith, c.len.ensures, h.needs.count) in
    joined_more tree spans assigned inside h held within is_root tells list gathers fewer short next
    (c.in_ok-push.ensures.pushed ∙ ap (λ xs. inside.needs ++ xs ∷ []) c.as_slice.ensures.value)
    (c.in_ok-add.ensures.opened ∙ ap (λ k. opened_after spans inside.opened k number) m ∙ ap (opened_after spans inside.opened (length assigned + 1)) affinity)
    (c.in_ok-add.ensures.latest ∙ ap (λ k. latest_after spans inside.latest k number) m ∙ ap (latest_after spans inside.latest (length assigned + 1)) affinity)
    (subst (λ k. AreStates next.locks next.chain (note_uses k h.states held.uses)) m
    (subst (λ us. AreStates next.locks next.chain (note_uses (c.len.result + 1) h.states us)) uses (c.in_ok-take.ensures.kept h.states h.are_states)))
    (subst (λ k. AreTouched (if is_root then k else root) h.states (if is_root then [] else inside.touched)
    → AreTouched (if is_root then k else root) (note_uses k h.states held.uses) next.touched) m
    (subst (λ us. AreTouched (if is_root then c.len.result + 1 else root) h.states (if is_root then [] else inside.touched)
    → AreTouched (if is_root then c.len.result + 1 else root) (note_uses (c.len.result + 1) h.states us) next.touched) uses
    (c.in_ok-take.ensures.touched h.states h.are_states)))
