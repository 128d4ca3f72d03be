-- What has come joins, and a message that is ready begins; where none does, none may.
use Rattle.std.proofs.Common.{◌≡◌, ℕ, ap, sym, ◌∙◌, subst}
use Rattle.waff_model.specs.Numbers.{IsAmongFirst}
use Rattle.waff_line.specs.Lined.{LineValue, course_in}
use Rattle.waff_line.specs.Machine.{Course, IsFree, MayBegin, NobodyMayBegin, State, begun_on}
use Rattle.waff_line.specs.Queued.{course_of}
use Rattle.waff_line.proofs.Going.{Stands, begins, stands_begun, stands_joined}
use Rattle.waff_line.proofs.Keeping.{course_same, queue_can, queue_none, value_same}
use Rattle.waff_line.proofs.line.Line.begin.Goals as goal
use Rattle.waff_line.proofs.line.Line.begin.Goals.{In-Some, In_ok-join_all}

stands : (c : In_ok-join_all) → Stands c.join_all.new.self c.self.inside.notes
stands c =
    let told = c.in_ok-join_all.ensures in
    stands_joined c.self.inside.queue c.self.inside.notes c.self.invariant c.join_all.new.self told.case told.timings told.tick told.queue

-- of what the line is of
same : (c : In_ok-join_all) → course_of c.join_all.new.self c.self.inside.notes.1 ≡ course_of c.self.inside.queue c.self.inside.notes.1
same c =
    let told = c.in_ok-join_all.ensures in
    course_same c.self.inside.queue c.join_all.new.self c.self.inside.notes.1 told.case told.timings told.tick

free : (c : In-Some) → IsAmongFirst c.self.inside.notes.1 c.args.worker × IsFree c.self.inside.notes.0 c.args.worker
free c = c.is_free.ensures.0 c.if-not-is_free.false

may : (c : In-Some) → Stands c.join_all.new.self c.self.inside.notes
    → MayBegin (course_of c.join_all.new.self c.self.inside.notes.1) c.self.inside.notes.0 c.args.worker c.in-Some.m
may c h =
    begins c.join_all.new.self c.self.inside.notes h c.in_ok-join_all.ensures.goes_on c.args.worker c.in-Some.m (free c)
    c.pop.new.self c.in-Some.ensures.ready

pub returns-in_default-clause-begun : goal.returns-in_default-clause-begun
returns-in_default-clause-begun c =
    let f = (goal.at.returns-in_default-clause-begun c).In_ok-join_all in
    let told = c.in_ok-join_all.ensures in
    let n = c.self.inside.notes in
    let q = c.self.inside.queue in
    let none = queue_none c.join_all.new.self n.1 n.0 told.queue told.goes_on c.in_default.ensures.ready.0 told.none c.args.worker in (
      value_same q c.join_all.new.self n told.case told.timings told.tick (told.goes_on ∙ sym told.going) ∙ c.self.view_is,
      subst (λ (line : LineValue). NobodyMayBegin (course_in line) line.state c.args.worker) c.self.view_is
          (subst (λ (course : Course). NobodyMayBegin course n.0 c.args.worker) (same f) none),
    )

pub begin-requires : goal.begin-requires
begin-requires c =
    let f = (goal.at.begin-requires c).In-Some in
    let h = stands (goal.at.begin-requires c).In_ok-join_all in
    let n = c.self.inside.notes in
    queue_can c.join_all.new.self n.1 n.0 c.in_ok-join_all.ensures.queue c.in_ok-join_all.ensures.early h.1 c.args.worker c.in-Some.m (may f h)

pub invariant_of-self-2 : goal.invariant_of-self-2
invariant_of-self-2 c =
    let f = (goal.at.invariant_of-self-2 c).In-Some in
    stands_begun c.join_all.new.self c.self.inside.notes (stands (goal.at.invariant_of-self-2 c).In_ok-join_all) c.in_ok-join_all.ensures.goes_on c.args.worker c.in-Some.m (free f)
    c.pop.new.self c.in-Some.ensures.waits c.in-Some.ensures.ready c.begin.new.self c.begin.ensures

pub returns-clause-begun : goal.returns-clause-begun
returns-clause-begun c =
    let f = (goal.at.returns-clause-begun c).In-Some in
    let g = (goal.at.returns-clause-begun c).In_ok-join_all in
    let n = c.self.inside.notes in
    let worker = c.args.worker in
    let m = c.in-Some.m in
    subst (λ (line : LineValue). MayBegin (course_in line) line.state worker m × (c.begin.new.self.0 ≡ begun_on line.state worker m)) c.self.view_is (
      subst (λ (course : Course). MayBegin course n.0 worker m) (same g) (may f (stands g)),
      ap (λ (p : State × ℕ). p.0) c.begin.ensures,
    )
