-- The next message has its place, and waits for its needs that have not ended.
use Rattle.std.proofs.Common.{ℕ, List, ◌∷◌, Contains, sym, subst, arith}
use Rattle.std.proofs.lemmas.List.Sorted.{length_permutation}
use Rattle.waff_model.specs.declared.message.Version.{Version}
use Rattle.waff_line.specs.Entered.{ready_in}
use Rattle.waff_line.specs.Machine.{HasCome}
use Rattle.waff_line.proofs.Joins.{joins_assigned, joins_entered, joins_lined, joins_needs, joins_place, joins_waits}
use Rattle.waff_line.proofs.Keeping.{held_within}
use Rattle.waff_line.proofs.queue.Queue.join.Goals as goal
use Rattle.waff_line.proofs.queue.Queue.join.Goals.{In-Some}

pub returns-in_default-clause-none : goal.returns-in_default-clause-none
returns-in_default-clause-none c = λ _ r there come.
    let version = c.args.self.now.case.trace.now.version in
    c.in_default.ensures.1 r (subst (λ (due : List (ℕ × ℕ)). Contains due r) c.in_default.ensures.0 there)
    (subst (λ (v : Version). HasCome v r.0 c.clock-2.result) (sym c.version-version.ensures)
    (subst (λ (k : ℕ). HasCome version r.0 k) (sym c.clock-2.ensures) come))

-- its issue has come
come : (c : In-Some) → HasCome c.args.self.now.case.trace.now.version c.in-Some.issue c.args.notes.now.0.clock
come c =
    subst (λ (k : ℕ). HasCome c.args.self.now.case.trace.now.version c.in-Some.issue k) c.clock-2.ensures
    (subst (λ (v : Version). HasCome v c.in-Some.issue c.clock-2.result) c.version-version.ensures c.in-Some.ensures.0)

pub place-requires-clause-number : goal.place-requires-clause-number
place-requires-clause-number c =
    joins_assigned c.args.self.now c.args.notes.now.1 c.args.notes.now.0 c.requires c.if-self.false (c.in-Some.issue, c.in-Some.message)
    c.take_come.new.due c.in-Some.ensures.1 (come (goal.at.place-requires-clause-number c).In-Some)

pub place-requires-clause-known : goal.place-requires-clause-known
place-requires-clause-known c =
    let q = c.args.self.now in
    held_within q.case.tree.now q.order.spans.now q.case.assigned.now (c.requires.lined c.if-self.false).joined.nested q.case.known c.in-Some.message
    (joins_assigned q c.args.notes.now.1 c.args.notes.now.0 c.requires c.if-self.false (c.in-Some.issue, c.in-Some.message)
    c.take_come.new.due c.in-Some.ensures.1 (come (goal.at.place-requires-clause-known c).In-Some))

pub enter-requires-clause-place : goal.enter-requires-clause-place
enter-requires-clause-place c =
    joins_place c.args.self.now c.args.notes.now.1 c.args.notes.now.0 c.requires c.if-self.false (c.in-Some.issue, c.in-Some.message)
    c.take_come.new.due c.in-Some.ensures.1 (come (goal.at.enter-requires-clause-place c).In-Some)
    c.place.new.self c.in-Ok.place c.in-Ok.ensures.spans c.in-Ok.ensures.by_issue c.in-Ok.ensures.by_number

pub enter-requires-clause-number : goal.enter-requires-clause-number
enter-requires-clause-number c =
    joins_waits c.args.self.now c.args.notes.now.1 c.args.notes.now.0 c.requires c.if-self.false (c.in-Some.issue, c.in-Some.message)
    c.take_come.new.due c.in-Some.ensures.1 (come (goal.at.enter-requires-clause-number c).In-Some)

pub enter-requires-clause-needs : goal.enter-requires-clause-needs
enter-requires-clause-needs c =
    joins_needs c.args.self.now c.args.notes.now.1 c.args.notes.now.0 c.requires c.if-self.false (c.in-Some.issue, c.in-Some.message)
    c.take_come.new.due c.in-Some.ensures.1 (come (goal.at.enter-requires-clause-needs c).In-Some)
    c.place.new.self c.in-Ok.place c.in-Ok.ensures.spans c.in-Ok.ensures.by_issue c.in-Ok.ensures.by_number

pub returns-clause-queue : goal.returns-clause-queue
returns-clause-queue c =
    let q = c.args.self.now in
    let n = c.args.notes.now in
    let came = come (goal.at.returns-clause-queue c).In-Some in
    record {
      many = c.requires.many;
      timings = c.requires.timings;
      awaiting = λ _. c.requires.awaiting c.if-self.false;
      lined = λ _.
          joins_lined q n.1 n.0 c.requires c.if-self.false (c.in-Some.issue, c.in-Some.message) c.take_come.new.due c.in-Some.ensures.1 came
          c.place.new.self c.in-Ok.place c.in-Ok.ensures.spans c.in-Ok.ensures.by_issue c.in-Ok.ensures.by_number;
      entered = λ _.
          joins_entered q n.1 n.0 c.requires c.if-self.false (c.in-Some.issue, c.in-Some.message) c.take_come.new.due c.in-Some.ensures.1 came
          c.place.new.self c.in-Ok.place c.in-Ok.ensures.spans c.in-Ok.ensures.by_issue c.in-Ok.ensures.by_number
          c.enter.new.self.waits c.in-Ok-enter.ensures.enters (ready_in c.enter.new.self) c.in-Ok-enter.ensures.ready;
    }

pub returns-clause-fewer : goal.returns-clause-fewer
returns-clause-fewer c = λ _.
    let long = length_permutation c.args.self.now.due ((c.in-Some.issue, c.in-Some.message) ∷ c.take_come.new.due) c.in-Some.ensures.1.rest in
    omega (arith, long)
