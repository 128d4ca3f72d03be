-- Every state that is reached has the cells of arrival order.
use Rattle.std.proofs.Common.{◌≡◌, ◌≢◌, ℕ, ◌-◌, ◌<◌, ◌≤◌, inl, inr, true, length, Some, refl, ap, sym, ◌∙◌, subst, arith, ⊎_elim}
use Rattle.std.proofs.lemmas.Bool.{cases_eq, cases_order, true≢false}
use Rattle.waff_model.specs.Layout.{owner_of}
use Rattle.waff_assign.specs.Held.{ExcludeEachOther}
use Rattle.waff_assign.specs.Order.{IsOrdered, held_of}
use Rattle.waff_assign.proofs.Holding.{exclude_sym}
use Rattle.waff_cells.specs.Serial.{ops_of, serial}
use Rattle.waff_core.specs.Job.{JobValue, IsJob, IsIn, IsOwner, RunsAbove}
use Rattle.waff_core.specs.Machine.{Core, IsClear, phase_of}
use Rattle.waff_core.specs.Settled.{IsLast}
use Rattle.waff_core.specs.Laws.{AwayWithOne, BeginsAtHome, Reaches, MayRun, DrawsAreFew, NeedsAreEnough, RunningDoNotExclude, AlwaysSerial, EachCellIsSerial, AllDoneIsSerial, BeginsSettled}
use Rattle.waff_core.specs.declared.actors.Phase.TheVariants.{Drawn, Running}
use Rattle.waff_core.proofs.Phases.{Has, ended, ended_few}
use Rattle.waff_core.proofs.Settling.{above_cell, exclude_at_one, ordered_at_one, serial_same, clear_settled, ended_settled}
use Rattle.waff_core.proofs.Sound.{Sound, sound_reached, seats_stay, drawn_is_in}
use Rattle.waff_core.proofs.OrderLength.{order_is_short}
use Rattle.waff_core.proofs.Clearings.{listed_needs_are_enough}
use Rattle.waff_core.proofs.Determined.{last_is_one, same_running}

module _ (job : JobValue) (is : IsJob job) where
  pub sound_at : (seats : ℕ) (s : Core) → Reaches job seats s → Sound job s
  sound_at seats s reaches = sound_reached job is seats reaches.0 s reaches.1

  pub draws_are_few : DrawsAreFew job
  draws_are_few seats s reaches =
      let bound = (sound_at seats s reaches).draws in
      let few : ended s.phases ≤ length s.phases = ended_few s.phases in
      let seated : length s.phases ≡ seats = seats_stay job seats reaches.0 s reaches.1 in
      let short : length job.order ≤ length job.needs = order_is_short job.needs job.order is.order in
      let count : length job.needs ≡ length job.assigned = is.needs.count in
      let also : length job.assigned ≡ length job.ops = is.count in
      omega arith

  pub needs_suffice : NeedsAreEnough job
  needs_suffice seats s reaches = listed_needs_are_enough job is s (sound_at seats s reaches)

  -- of two messages that run the earlier does not exclude the later, since it is not done
  running_apart : (s : Core) → Sound job s → (x y m n : ℕ) → phase_of s.phases x ≡ Some (Running m) → phase_of s.phases y ≡ Some (Running n)
      → IsOrdered job.layout.tree job.assigned m n → ⊥
  running_apart s sound x y m n first second ordered =
      true≢false (sym (sound.running_clear y n second m ordered) ∙ sound.undone x m (inr first))

  pub running_do_not_exclude : RunningDoNotExclude job
  running_do_not_exclude seats s reaches x y m n apart first second excludes =
      let sound = sound_at seats s reaches in
      let m_within = drawn_is_in job is s.drawn m (sound.held x m (inr first)) in
      let n_within = drawn_is_in job is s.drawn n (sound.held y n (inr second)) in
      let count : length job.assigned ≡ length job.ops = is.count in
      let m_to : m ≤ length job.ops = m_within.to in
      let n_to : n ≤ length job.ops = n_within.to in
      ⊎_elim {C = ⊥}
      (λ (same : m ≡ n). apart (sound.alone x y n (inr (subst (λ k. phase_of s.phases x ≡ Some (Running k)) same first)) (inr second)))
      (⊎_elim {C = ⊥}
      (λ (before : m < n).
      running_apart s sound x y m n first second (record { from = m_within.from; earlier = before; to = omega arith; excludes = excludes }))
      (λ (after : n < m).
      running_apart s sound y x n m second first
      (record { from = n_within.from; earlier = after; to = omega arith; excludes = exclude_sym job.layout.tree (held_of job.assigned m) (held_of job.assigned n) excludes })))
      (cases_order m n)

  -- a message runs in an affinity at or above the owners of its footprint
  pub above_owner : (m a : ℕ) → IsIn job m → IsOwner job.layout.spaces (ops_of job.ops m) a → RunsAbove job m a
  above_owner m a within owner =
      subst (λ o. RunsAbove job m o) owner.owned (above_cell job is m within owner.cell owner.named)

  pub away_with_one : AwayWithOne job
  away_with_one seats s reaches a one other =
      let sound = sound_at seats s reaches in
      let x = one.actor in
      let y = other.actor in
      let m = one.message in
      let n = other.message in
      let m_within = drawn_is_in job is s.drawn m (sound.held x m (inr one.running)) in
      let n_within = drawn_is_in job is s.drawn n (sound.held y n (inr other.running)) in
      let excludes : ExcludeEachOther job.layout.tree (held_of job.assigned m) (held_of job.assigned n)
      = exclude_at_one job is a m n (above_owner m a m_within one.owner) (above_owner n a n_within other.owner) in
      let same_actor : x ≡ y =
      ⊎_elim {C = x ≡ y}
      (λ (same : x ≡ y). same)
      (λ (apart : x ≢ y). absurd (running_do_not_exclude seats s reaches x y m n apart one.running other.running excludes))
      (cases_eq x y) in
      (same_actor, same_running (phase_of s.phases x) m n one.running (subst (λ z. phase_of s.phases z ≡ Some (Running n)) (sym same_actor) other.running))

  pub begins_at_home : BeginsAtHome job
  begins_at_home seats s reaches x m holds clear a owner away =
      let sound = sound_at seats s reaches in
      let y = away.actor in
      let n = away.message in
      let m_within = drawn_is_in job is s.drawn m (sound.held x m (inl holds)) in
      let n_within = drawn_is_in job is s.drawn n (sound.held y n (inr away.running)) in
      let m_above = above_owner m a m_within owner in
      let n_above = above_owner n a n_within away.owner in
      ⊎_elim {C = ⊥}
      (λ (same : m ≡ n).
      let one : x ≡ y = sound.alone x y m (inl holds) (inr (subst (λ k. phase_of s.phases y ≡ Some (Running k)) (sym same) away.running)) in
      let also : phase_of s.phases y ≡ Some (Drawn m) = subst (λ z. phase_of s.phases z ≡ Some (Drawn m)) one holds in
      let running : phase_of s.phases y ≡ Some (Running n) = away.running in
      cc)
      (⊎_elim {C = ⊥}
      (λ (before : m < n).
      true≢false
      (sym (sound.running_clear y n away.running m (ordered_at_one job is a m n m_within.from before n_within.to m_above n_above))
      ∙ sound.undone x m (inl holds)))
      (λ (after : n < m).
      true≢false (sym (clear n (ordered_at_one job is a n m n_within.from after m_within.to n_above m_above)) ∙ sound.undone y n (inr away.running))))
      (cases_order m n)

  pub cells_are_serial : AlwaysSerial job
  cells_are_serial seats s reaches = (sound_at seats s reaches).cells

  pub each_cell_is_serial : EachCellIsSerial job
  each_cell_is_serial seats s reaches cell is_cell last is_last =
      let settled = cells_are_serial seats s reaches (owner_of job.layout.spaces cell) in
      let same : settled.0 ≡ last = last_is_one job s (owner_of job.layout.spaces cell) settled.0 last settled.1 is_last in
      settled.2 cell is_cell refl ∙ ap (λ n. serial job.ops n cell) same

  pub all_done_is_serial : AllDoneIsSerial job
  all_done_is_serial seats s reaches all cell is_cell =
      let a = owner_of job.layout.spaces cell in
      let settled = cells_are_serial seats s reaches a in
      let last = settled.0 in
      let is_last : IsLast job s a last = settled.1 in
      let count : length job.assigned ≡ length job.ops = is.count in
      let within : last ≤ length job.ops =
      ⊎_elim {C = last ≤ length job.ops}
      (λ (none : last ≡ 0). omega arith)
      (λ (some : last ≢ 0). let to : last ≤ length job.assigned = (is_last.is (omega arith)).to in omega arith)
      (cases_eq last 0) in
      settled.2 cell is_cell refl
      ∙ sym (serial_same job is a last (length job.ops) within (omega arith)
      (λ i after to above.
      let done : s.done i ≡ true = all i (record { from = omega arith; to = to }) in
      let bound : i ≤ last = is_last.greatest i (record { from = omega arith; to = omega arith; done = done; above = above }) in
      omega arith)
      cell is_cell refl)

  -- a message that may run is clear, not done, and one of the job
  may_run_clear : (s : Core) → Sound job s → (x m : ℕ) → MayRun job s x m → IsClear job s m × Has s.phases x m
  may_run_clear s sound x m (inl (holds, clear)) = (clear, inl holds)
  may_run_clear s sound x m (inr runs) = (sound.running_clear x m runs, inr runs)

  pub begins_settled : BeginsSettled job
  begins_settled seats s reaches x m may a owner =
      let sound = sound_at seats s reaches in
      let state = may_run_clear s sound x m may in
      let within = drawn_is_in job is s.drawn m (sound.held x m state.1) in
      let undone = sound.undone x m state.1 in
      let from : 1 ≤ m = within.from in
      let above = above_owner m a within owner in (
        clear_settled job is s m within state.0 undone sound.done_clear (m - 1) a (omega arith) above sound.cells,
        ended_settled job is s m within state.0 undone sound.done_clear a above sound.cells,
      )
