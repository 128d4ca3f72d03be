-- What the events of a run left, where they have ended all messages, is a plan.
use Rattle.std.proofs.Common.{◌≡◌, ℕ, List, length, sym}
use Rattle.waff_model.specs.Tree.{Node}
use Rattle.waff_model.specs.declared.message.Version.{Version}
use Rattle.waff_model.specs.declared.message.Version.TheVariants.{V1, V2, V3, V4}
use Rattle.waff_assign.specs.Held.{Held}
use Rattle.waff_assign.specs.Order.{IsOrdered}
use Rattle.waff_plan.specs.Apart.{AreApart}
use Rattle.waff_plan.specs.Obeys.{EachRuns, Obeys}
use Rattle.waff_plan.specs.Serving.{served_before}
use Rattle.waff_plan.specs.Work.{Work}
use Rattle.waff_plan.proofs.ApartLaws.{apart_where_finished}
use Rattle.waff_plan.proofs.StartOrder.{served_apart}
use Rattle.waff_line.specs.Laws.{AreAllEnded, EachHasRun, OneAfterAnother, RunIsWorkerPlan, RunsEachOnce, WorkersAreThere}
use Rattle.waff_line.specs.Machine.{Course, IsCourse, Reaches, Runs, State, measured, opening, start_in}
use Rattle.waff_line.specs.Turns.{ArePlanned}
use Rattle.waff_line.specs.declared.event.Event.{Event}
use Rattle.waff_line.proofs.Sound.{sound_reached}

-- the laws of the machine that make a plan of a run
pub record AreLaws (course : Course) : Type 0 where
  pub plan : RunIsWorkerPlan course
  pub runs : EachHasRun course
  pub there : WorkersAreThere course
  pub after : OneAfterAnother course
  pub once : RunsEachOnce course

-- in the order of service no two messages that exclude each other run at a common tick
apart : (version : Version) (tree : List Node) (assigned : List Held) (work : Work) (start : ℕ → ℕ) → length assigned ≡ work.count → EachRuns work
    → Obeys (served_before version tree assigned work start) work start → AreApart (IsOrdered tree assigned) work start
apart V1 tree assigned work start long runs obeys = λ i j pair. apart_where_finished work start i j (obeys.ordered i j pair.ordered) pair.together
apart V2 tree assigned work start long runs obeys = λ i j pair. apart_where_finished work start i j (obeys.ordered i j pair.ordered) pair.together
apart V3 tree assigned work start long runs obeys = served_apart tree assigned work long runs start obeys
apart V4 tree assigned work start long runs obeys = served_apart tree assigned work long runs start obeys

pub planned : (course : Course) → IsCourse course → AreLaws course → (events : List Event) (s : State) → Runs course (opening course) events s
    → AreAllEnded course s → ArePlanned course events s
planned course is laws events s run all =
    let reached : Reaches course s = (events, run) in
    let sound = sound_reached course is s reached in
    let plan = laws.plan s reached all in
    let runs = laws.runs s reached all in
    record {
      plan = plan;
      runs = runs;
      once = λ n number.
          let once = laws.once events s run n in
          record { begun = once.begun (sound.ended n (all n number)).begun; ended = once.ended (all n number) };
      seated = λ n number. record {
        worker = laws.there s reached n (sound.ended n (all n number)).begun;
        alone = λ m other unlike same. laws.after s reached m n unlike (all m other) (all n number) same;
      };
      apart = apart course.version course.tree course.assigned (measured course s) (start_in s) (sym is.many) runs plan.obeys;
    }
