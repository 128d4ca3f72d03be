-- A run can always go on to its end: each message that ends is one less that has not.
use Rattle.std.proofs.Common.{ℕ, zero, suc, ◌-◌, ◌<◌, ◌≤◌, inl, inr, List, [], ◌∷◌, eqb, sum_by, refl, ap, arith}
use Rattle.std.specs.List.{range_with_len}
use Rattle.std.proofs.lemmas.Bool.{cond-true, eq-eqb}
use Rattle.waff_plan.proofs.Places.{sum_by-range_with_len-lt}
use Rattle.waff_plan.proofs.Ticks.{sum_by-range_with_len-le}
use Rattle.waff_line.specs.Laws.{AreAllEnded, BeginsWhenTold, CanEnd}
use Rattle.waff_line.specs.Machine.{Course, IsCourse, State, Turn, IsRunning, MayBegin, Runs, begun_on, ended_at, told, turn_of}
use Rattle.waff_line.specs.declared.event.Event.{Event}
use Rattle.waff_line.specs.declared.event.Event.TheVariants.{Tell, Begin, End}
use Rattle.waff_line.proofs.Counting.{at_most_one, begin_adds, end_adds, has_ended}
use Rattle.waff_line.proofs.GoingOn.{goes_on}
use Rattle.waff_line.proofs.Sound.{Sound, begun_self, sound_begun, sound_ended, sound_reached, sound_told}
use Rattle.waff_line.proofs.Turns.{begun_number}

-- how many messages have not ended
abbrev left : Course → State → ℕ
left course s = sum_by (λ n. 1 - has_ended s n) (range_with_len 1 course.work.count)

-- some events lead from the state to one in which all have ended
abbrev Ends : Course → State → Type 0
Ends course s = (events : List Event) × (t : State) × Runs course s events t × AreAllEnded course t

module _ (course : Course) (is : IsCourse course) where
  begun_left : (s : State) (x m : ℕ) → Sound course s → MayBegin course s x m → left course (begun_on s x m) ≤ left course s
  begun_left s x m sound may =
      sum_by-range_with_len-le (λ n. 1 - has_ended (begun_on s x m) n) (λ n. 1 - has_ended s n) 1 course.work.count
      (λ n from to. omega (arith, (begin_adds course s x m sound may n).ended_is))

  ended_left : (s : State) (m now : ℕ) → Sound course s → IsRunning s m → left course (ended_at s m now) < left course s
  ended_left s m now sound running =
      let number = begun_number s m running.begun in
      let here = (end_adds course is s m now sound running m).ended_is in
      sum_by-range_with_len-lt (λ n. 1 - has_ended (ended_at s m now) n) (λ n. 1 - has_ended s n) 1 course.work.count m
      (λ n from to. omega (arith, (end_adds course is s m now sound running n).ended_is))
      number.from (omega (arith, number.to, sound.many))
      (omega (arith, here, cond-true {A = ℕ} (eqb m m) 1 0 (eq-eqb m m refl), at_most_one (turn_of (ended_at s m now) m).ended))

  -- a message that runs ends first
  running_ends : (s : State) (k m : ℕ) → Sound course s → IsRunning s m → left course s < suc k
      → ((t : State) → Sound course t → left course t < k → Ends course t) → Ends course s
  running_ends s k m sound running few rest =
      let then = rest (ended_at s m 0) (sound_ended course is s m 0 sound running) (omega (arith, ended_left s m 0 sound running, few)) in
      (End m 0 ∷ then.0, then.1, (ended_at s m 0, (running, refl), then.2), then.3)

  -- or one begins first, once it is late enough
  begin_ends : (s : State) (k : ℕ) → Sound course s → BeginsWhenTold course s → left course s < suc k
      → ((t : State) → Sound course t → left course t < k → Ends course t) → Ends course s
  begin_ends s k sound begins few rest =
      let told_s = told s begins.now in
      let sound_s = sound_told course s begins.now sound in
      let t = begun_on told_s begins.worker begins.message in
      let self = begun_self course told_s begins.worker begins.message sound_s begins.may in
      let running : IsRunning t begins.message = record {
        begun = omega (arith, begins.may.worker.from, ap (λ (turn : Turn). turn.worker) self);
        runs = ap (λ (turn : Turn). turn.ended) self;
      } in
      let fewer : left course t < suc k = omega (arith, begun_left told_s begins.worker begins.message sound_s begins.may, few) in
      let then = running_ends t k begins.message (sound_begun course told_s begins.worker begins.message sound_s begins.may) running fewer rest in
      (Tell begins.now ∷ Begin begins.worker begins.message ∷ then.0, then.1, (told_s, refl, (t, (begins.may, refl), then.2)), then.3)

  ends_within : (k : ℕ) (s : State) → Sound course s → left course s < k → Ends course s
  ends_within zero s sound few = absurd (omega (arith, few))
  ends_within (suc k) s sound few = elim (goes_on course is s sound) [
    | inl all ↦ ([], s, refl, all)
    | inr (inl running) ↦ running_ends s k running.0 sound running.1 few (ends_within k)
    | inr (inr begins) ↦ begin_ends s k sound begins few (ends_within k)
  ]

pub can_end : (course : Course) → IsCourse course → CanEnd course
can_end course is s reached =
    ends_within course is (suc (left course s)) s (sound_reached course is s reached) (omega arith)
