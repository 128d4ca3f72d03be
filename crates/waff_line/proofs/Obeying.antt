-- What a run leaves is a plan that obeys, and messages that run do not exclude each other.
use Rattle.std.proofs.Common.{◌≡◌, ℕ, inl, inr, sym, arith}
use Rattle.waff_assign.specs.Held.{ExcludeEachOther}
use Rattle.waff_assign.specs.Order.{held_of}
use Rattle.waff_assign.proofs.Holding.{exclude_sym}
use Rattle.waff_plan.specs.Order.{ComesBefore}
use Rattle.waff_plan.specs.Work.{finish_of}
use Rattle.waff_plan.proofs.Orders.{served_by_key}
use Rattle.waff_plan.proofs.Places.{one_is_keyed_first}
use Rattle.waff_line.specs.Laws.{AreAllEnded, EachHasRun, RunObeys, RunningExcludeNobody}
use Rattle.waff_line.specs.Machine.{Course, IsCourse, State, IsIssued, IsRunning, finish_in, issue_in, key_in, measured, start_in}
use Rattle.waff_line.proofs.Issuing.{come-le}
use Rattle.waff_line.proofs.Sound.{HasEndedWell, IsServedBefore, Sound, runs_on, sound_reached}
use Rattle.waff_line.proofs.Turns.{begun_number}

-- of a message that has ended the measured finish is the noted one
pub finish_is : (course : Course) (s : State) (n : ℕ) → HasEndedWell s n → finish_of (measured course s) (start_in s) n ≡ finish_in s n
finish_is course s n well = omega (arith, well.ran)

-- where all have ended, all are issued
all_issued : (course : Course) → IsCourse course → (s : State) → AreAllEnded course s → (n : ℕ) → IsIssued course s n
all_issued course is s all n f awaited =
    let earlier = is.earlier f n awaited in
    all f (record { from = earlier.from; to = omega (arith, earlier.earlier, earlier.to) })

pub run_obeys : (course : Course) → IsCourse course → RunObeys course
run_obeys course is s reached all =
    let sound = sound_reached course is s reached in
    record {
      issued = λ n number.
          let begun = (sound.ended n (all n number)).begun in
          come-le course.version (issue_in course s n) (start_in s n) (sound.begun n begun).come;
      ordered = λ i j before.
          let served = (served_by_key course.tree course.assigned (measured course s) (sym is.many) course.version (start_in s) i j).1 before in
          let begun = (sound.ended j (all j served.second)).begun in
          let first = (sound.begun j begun).after i (all_issued course is s all i) served in
          omega (arith, finish_is course s i (sound.ended i first.0), first.1);
    }

pub each_has_run : (course : Course) → IsCourse course → EachHasRun course
each_has_run course is s reached all n number =
    omega (arith, ((sound_reached course is s reached).ended n (all n number)).ran)

-- of two messages that run and exclude each other neither is served first
none_first : (course : Course) (s : State) → Sound course s → (i j : ℕ) → IsRunning s i → IsRunning s j
    → ExcludeEachOther course.tree (held_of course.assigned i) (held_of course.assigned j) → ComesBefore (key_in course s) i j → ⊥
none_first course s sound i j runs_i runs_j excludes before =
    let number_i = begun_number s i runs_i.begun in
    let number_j = begun_number s j runs_j.begun in
    let served : IsServedBefore course s i j = record {
      first = record { from = number_i.from; to = omega (arith, number_i.to, sound.many) };
      second = record { from = number_j.from; to = omega (arith, number_j.to, sound.many) };
      precedes = before;
      excludes = excludes;
    } in
    runs_on s i runs_i ((sound.begun j runs_j.begun).after i (sound.begun i runs_i.begun).issued served).0

pub running_exclude_nobody : (course : Course) → IsCourse course → RunningExcludeNobody course
running_exclude_nobody course is s reached i j unlike runs_i runs_j excludes =
    let sound = sound_reached course is s reached in
    elim (one_is_keyed_first (key_in course s) i j) [
      | inl same ↦ unlike same
      | inr (inl first) ↦ none_first course s sound i j runs_i runs_j excludes first
      | inr (inr second) ↦ none_first course s sound j i runs_j runs_i (exclude_sym course.tree (held_of course.assigned i) (held_of course.assigned j) excludes) second
    ]
