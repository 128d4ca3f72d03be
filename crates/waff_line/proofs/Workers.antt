-- What the workers of a run do.
use Rattle.std.proofs.Common.{◌≡◌, ◌≢◌, ℕ, ◌+◌, ◌-◌, ◌<◌, ◌≤◌, inl, inr, true, arith}
use Rattle.std.proofs.lemmas.Bool.Decides.{nat_tests}
use Rattle.waff_plan.specs.Work.{Work, IsAmongFirst, finish_of}
use Rattle.waff_plan.specs.Workers.{running, runs_at}
use Rattle.waff_line.specs.Laws.{AreAllEnded, OneAfterAnother, RunIsWorkerPlan, WorkersAreOwn, WorkersAreThere}
use Rattle.waff_line.specs.Machine.{Course, IsCourse, State, finish_in, measured, start_in, turn_of}
use Rattle.waff_line.proofs.Obeying.{finish_is, run_obeys}
use Rattle.waff_line.proofs.Seating.{few_run}
use Rattle.waff_line.proofs.Sound.{Sound, runs_on, sound_reached}

pub workers_are_there : (course : Course) → IsCourse course → WorkersAreThere course
workers_are_there course is s reached n begun = ((sound_reached course is s reached).begun n begun).worker

pub workers_are_own : (course : Course) → IsCourse course → WorkersAreOwn course
workers_are_own course is s reached i j unlike runs_i runs_j same =
    elim ((sound_reached course is s reached).apart i j runs_i.begun runs_j.begun unlike same) [
      | inl first ↦ runs_on s i runs_i first.0
      | inr second ↦ runs_on s j runs_j second.0
    ]

pub one_after_another : (course : Course) → IsCourse course → OneAfterAnother course
one_after_another course is s reached i j unlike ended_i ended_j same =
    let sound = sound_reached course is s reached in
    elim (sound.apart i j (sound.ended i ended_i).begun (sound.ended j ended_j).begun unlike same) [
      | inl first ↦ inl first.1
      | inr second ↦ inr second.1
    ]

-- a message that runs at a tick has started and has not finished
runs_parts : (work : Work) (start : ℕ → ℕ) (t n : ℕ) → runs_at work start t n ≡ true → (start n ≤ t) × (t < finish_of work start n)
runs_parts work start t n runs = (grind (arith, nat_tests), grind (arith, nat_tests))

module _ (course : Course) (is : IsCourse course) (s : State) (sound : Sound course s) (all : AreAllEnded course s) (t : ℕ) where
  at : (n : ℕ) → IsAmongFirst course.work.count n → runs_at (measured course s) (start_in s) t n ≡ true → (start_in s n ≤ t) × (t < finish_in s n)
  at n number runs =
      let parts = runs_parts (measured course s) (start_in s) t n runs in
      (parts.0, omega (arith, parts.1, finish_is course s n (sound.ended n (all n number))))

  worker_there : (n : ℕ) → IsAmongFirst course.work.count n → IsAmongFirst course.workers (turn_of s n).worker
  worker_there n number = (sound.begun n (sound.ended n (all n number)).begun).worker

  own_seats : (i j : ℕ) → 1 ≤ i → i < j → j < 1 + course.work.count → runs_at (measured course s) (start_in s) t i ≡ true
      → runs_at (measured course s) (start_in s) t j ≡ true → (turn_of s i).worker - 1 ≢ (turn_of s j).worker - 1
  own_seats i j low less high runs_i runs_j same =
      let number_i : IsAmongFirst course.work.count i = record { from = low; to = omega (arith, less, high) } in
      let number_j : IsAmongFirst course.work.count j = record { from = omega (arith, low, less); to = omega (arith, high) } in
      let at_i = at i number_i runs_i in
      let at_j = at j number_j runs_j in
      let worker : (turn_of s i).worker ≡ (turn_of s j).worker = omega (arith, same, (worker_there i number_i).from, (worker_there j number_j).from) in
      elim (sound.apart i j (sound.ended i (all i number_i)).begun (sound.ended j (all j number_j)).begun (λ is_one. omega (arith, is_one, less)) worker) [
        | inl first ↦ omega (arith, at_i.1, at_j.0, first.1)
        | inr second ↦ omega (arith, at_j.1, at_i.0, second.1)
      ]

  within : running (measured course s) (start_in s) t ≤ course.workers
  within =
      few_run (runs_at (measured course s) (start_in s) t) (λ n. (turn_of s n).worker - 1) 1 course.work.count course.workers own_seats
      (λ n low high runs. let there = worker_there n (record { from = low; to = omega (arith, high) }) in omega (arith, there.from, there.to))

pub run_is_worker_plan : (course : Course) → IsCourse course → RunIsWorkerPlan course
run_is_worker_plan course is s reached all = record {
  obeys = run_obeys course is s reached all;
  within = within course is s (sound_reached course is s reached) all;
}
