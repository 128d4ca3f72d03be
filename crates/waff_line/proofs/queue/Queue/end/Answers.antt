use Rattle.std.proofs.Common.{ℕ, List, length, sym, subst, arith}
use Rattle.waff_waits.specs.Waits.{IsFree, waiting_for}
use Rattle.waff_plan.specs.Timing.{work_of}
use Rattle.waff_plan.specs.Work.{IsAmongFirst}
use Rattle.waff_plan.specs.declared.timing.Timing.{Timing}
use Rattle.waff_plan.proofs.AwaitingLemmas.{waiting_number, waits_count}
use Rattle.waff_line.specs.Lined.{AreOpened, issue_noted}
use Rattle.waff_line.specs.Machine.{State}
use Rattle.waff_line.specs.Queued.{course_of}
use Rattle.waff_line.specs.Scaled.{scaled}
use Rattle.waff_line.proofs.Going.{queue_ended}
use Rattle.waff_line.proofs.Keeping.{is_course, running_number}
use Rattle.waff_line.proofs.queue.Queue.end.Goals as goal

pub let_go-requires-clause-number : goal.let_go-requires-clause-number
let_go-requires-clause-number c =
    let q = c.args.self.now in
    let n = c.args.notes.now in
    let is = is_course q n.1 n.0 c.requires.queue c.end-finish.ensures.staffed in
    let awaiting = c.requires.queue.awaiting c.if-was_over.false in
    let number = running_number q n.1 n.0 c.requires.queue c.end-finish.ensures.staffed c.requires.reached c.args.m c.requires.running in
    record { from = number.from; to = omega (arith, number.to, waits_count (course_of q n.1).work is.earlier awaiting.ended q.awaits awaiting.awaiting) }

pub let_go-requires-clause-numbers : goal.let_go-requires-clause-numbers
let_go-requires-clause-numbers c d waits =
    let q = c.args.self.now in
    let n = c.args.notes.now in
    let is = is_course q n.1 n.0 c.requires.queue c.end-finish.ensures.staffed in
    let awaiting = c.requires.queue.awaiting c.if-was_over.false in
    subst (λ (ts : List Timing). IsAmongFirst (length ts) d) (sym c.as_slice.ensures.value)
    (waiting_number (course_of q n.1).work is.earlier awaiting.ended q.awaits awaiting.awaiting c.args.m d waits)

pub finish-requires : goal.finish-requires
finish-requires c =
    let q = c.args.self.now in
    let n = c.args.notes.now in
    let are = (c.requires.queue.entered c.if-was_over.false).waiting in
    let number = running_number q n.1 n.0 c.requires.queue c.end-finish.ensures.staffed c.requires.reached c.args.m c.requires.running in
    record { number = record { from = number.from; to = omega (arith, number.to, are.waits.count, are.count) } }

pub returns-clause-queue : goal.returns-clause-queue
returns-clause-queue c =
    let q = c.args.self.now in
    let Opened = λ (ts : List Timing) (p : State × ℕ).
    AreOpened (issue_noted (scaled q.tick (work_of ts)) p.0) (IsFree (waiting_for q.awaits c.args.m) c.let_go.new.awaits) q.due c.let_go.new.due in
    rw c.end-finish.ensures.ended
    (queue_ended q c.args.notes.now c.requires.queue c.end-finish.ensures.staffed c.requires.reached c.args.m c.args.now c.requires.running c.if-was_over.false
    c.let_go.new.awaits c.let_go.new.due c.in_ok-let_go.ensures.waits
    (subst (λ (p : State × ℕ). Opened q.timings.items p) c.end-finish.ensures.ended
    (subst (λ (ts : List Timing). Opened ts c.end-finish.new.self) c.as_slice.ensures.value c.in_ok-let_go.ensures.opened))
    c.finish.new.self c.in_ok-finish.ensures.waits c.in_ok-finish.ensures.ready)
