use Rattle.std.proofs.Common.{◌≡◌, ℕ, ◌+◌, ◌-◌, ◌++◌, ◌∷◌, [], List, length, map, ap, sym, ◌∙◌, arith}
use Rattle.std.specs.List.{range_with_len}
use Rattle.std.proofs.lemmas.List.{length-map}
use Rattle.waff_model.specs.Versions.{has_clients}
use Rattle.waff_assign.specs.Order.{held_of}
use Rattle.waff_line.proofs.Going.{first_more}
use Rattle.waff_line.proofs.Keeping.{first_by_number, held_within, range_more}
use Rattle.waff_line.proofs.queue.first_order.Goals as goal

pub join-requires-clause-number : goal.join-requires-clause-number
join-requires-clause-number c = record { from = omega arith; to = omega arith }

pub join-requires-clause-known : goal.join-requires-clause-known
join-requires-clause-known c =
    held_within c.args.case.now.tree.now c.loop-m.order.spans.now c.args.case.now.assigned.now c.loop-m.invariant.joined.nested
    c.args.case.now.known c.loop-m.m (record { from = omega arith; to = omega arith })

pub join-requires-clause-joined : goal.join-requires-clause-joined
join-requires-clause-joined c =
    (c.args.case.now.tree.now, map (held_of c.args.case.now.assigned.now) c.loop-m.order.messages.items, c.loop-m.invariant.joined)

pub join-requires-clause-count : goal.join-requires-clause-count
join-requires-clause-count c =
    c.loop-m.invariant.joined.needs.count ∙ length-map c.loop-m.order.messages.items (held_of c.args.case.now.assigned.now)

pub loop-m-preserved : goal.loop-m-preserved
loop-m-preserved c =
    let assigned = c.args.case.now.assigned.now in
    let tree = c.args.case.now.tree.now in
    let order = c.loop-m.order in
    let m = c.loop-m.m in
    let next : m - 1 + 1 ≡ m + 1 - 1 = omega arith in
    let sum : 1 + (m - 1) ≡ m = omega arith in
    record {
      joined = first_more tree order.spans.now c.join.new.self.spans.now assigned order.messages.items c.join.new.self.messages.items m
          c.join.new.self.joining c.in_ok-join.ensures.spans c.in_ok-join.ensures.messages
          (c.in_ok-join.ensures.joined tree (map (held_of assigned) order.messages.items) c.loop-m.invariant.joined);
      messages = c.in_ok-join.ensures.messages
          ∙ ap (λ (xs : List ℕ). xs ++ m ∷ []) c.loop-m.invariant.messages
          ∙ sym (range_more 1 (m - 1) m sum)
          ∙ ap (λ (n : ℕ). range_with_len 1 n) next;
    }

pub returns-clause-messages : goal.returns-clause-messages
returns-clause-messages c =
    let version = c.args.case.now.trace.now.version in
    let count = length c.args.case.now.assigned.now in
    let all : c.loop-m.m - 1 ≡ count = omega arith in
    c.loop-m.invariant.messages
    ∙ ap (λ (n : ℕ). range_with_len 1 n) all
    ∙ sym (first_by_number version count (ap has_clients (sym c.version.ensures) ∙ sym c.has_clients.ensures ∙ c.if-has_clients.false))
