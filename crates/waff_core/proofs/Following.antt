-- The draws, the phases and what is done decide a state that is reached.
use Rattle.std.proofs.Common.{◌≡◌, ◌↔◌, ℕ, inr, Bool, true, false, List, [], ◌∷◌, refl, sym, ◌∙◌, subst, ⊎_elim, ◌<◌, ◌≤◌, arith}
use Rattle.std.proofs.lemmas.Bool.{cases_lt}
use Rattle.std.proofs.Math.Path.{fun_ext}
use Rattle.waff_model.specs.Layout.{IsCell, size_at, owner_of}
use Rattle.waff_model.specs.declared.cell.Cell.{Cell}
use Rattle.waff_cells.specs.Serial.{ops_of}
use Rattle.waff_cells.proofs.MeaningLaws.{meaning_other}
use Rattle.waff_core.specs.Job.{JobValue, IsJob, IsIn}
use Rattle.waff_core.specs.Machine.{Core, Runs, Steps, opening}
use Rattle.waff_core.specs.Laws.{CellsFollow, Reaches}
use Rattle.waff_core.specs.declared.actors.Event.{Event}
use Rattle.waff_core.specs.declared.actors.Event.TheVariants.{Draw, Begin, End}
use Rattle.waff_core.proofs.Arrival.{cells_are_serial, each_cell_is_serial}
use Rattle.waff_core.proofs.Listing.{cell_listed}
use Rattle.waff_core.proofs.Settling.{last_kept}
use Rattle.waff_core.proofs.Sound.{Sound, sound_opening, sound_step, sound_reached, drawn_is_in}

same_truth : (a b : Bool) → (a ≡ true) ↔ (b ≡ true) → a ≡ b
same_truth true b both = sym (both.0 refl)
same_truth false true both = both.1 refl
same_truth false false both = refl

-- cells that are not of the layout are 0
abbrev AreOutside : JobValue → Core → Type 0
AreOutside job s = (cell : Cell) → ¬ IsCell job.layout.spaces cell → s.cells cell ≡ 0

module _ (job : JobValue) (is : IsJob job) where
  outside_step : (s : Core) (event : Event) (t : Core) → Sound job s → Steps job s event t → AreOutside job s → AreOutside job t
  outside_step s (Draw x) t sound step zero = subst (λ u. AreOutside job u) (sym step.1) zero
  outside_step s (Begin x) t sound step zero = subst (λ u. AreOutside job u) (sym step.3) zero
  outside_step s (End x) t sound step zero =
      subst (λ u. AreOutside job u) (sym step.2)
      (λ cell outside.
      meaning_other (ops_of job.ops step.0) s.cells cell
      (λ named. outside (cell_listed job is step.0 (drawn_is_in job is s.drawn step.0 (sound.held x step.0 (inr step.1))) cell named))
      ∙ zero cell outside)

  outside_runs : (s : Core) (events : List Event) (t : Core) → Sound job s → Runs job s events t → AreOutside job s → AreOutside job t
  outside_runs s [] t sound same zero = subst (λ u. AreOutside job u) same zero
  outside_runs s (event ∷ events) t sound (u, step, rest) zero =
      outside_runs u events t (sound_step job is s event u sound step) rest (outside_step s event u sound step zero)

  outside : (seats : ℕ) (s : Core) → Reaches job seats s → AreOutside job s
  outside seats s (events, runs) = outside_runs (opening seats) events s (sound_opening job seats) runs (λ cell none. refl)

  -- what is done is a message
  done_is_in : (seats : ℕ) (s : Core) → Reaches job seats s → (m : ℕ) → s.done m ≡ true → IsIn job m
  done_is_in seats s (events, runs) m done = drawn_is_in job is s.drawn m ((sound_reached job is seats events s runs).over m done)

  pub cells_follow : CellsFollow job
  cells_follow seats s t one other drawn phases done =
      λ i. record { drawn = drawn i; phases = phases i; done = fun_ext same i; cells = fun_ext cells i }
    where
      same : (m : ℕ) → s.done m ≡ t.done m
      same m = same_truth (s.done m) (t.done m) (
        (λ is_done. (done m (done_is_in seats s one m is_done)).0 is_done),
        (λ is_done. (done m (done_is_in seats t other m is_done)).1 is_done),
      )

      cells : (cell : Cell) → s.cells cell ≡ t.cells cell
      cells cell = ⊎_elim {C = s.cells cell ≡ t.cells cell}
          (λ (is_cell : cell.index < size_at job.layout.spaces cell.space).
          let a = owner_of job.layout.spaces cell in
          let last = cells_are_serial job is seats s one a in
          each_cell_is_serial job is seats s one cell is_cell last.0 last.1
          ∙ sym (each_cell_is_serial job is seats t other cell is_cell last.0 (last_kept job s t a last.0 same last.1)))
          (λ (past : size_at job.layout.spaces cell.space ≤ cell.index).
          let none : ¬ IsCell job.layout.spaces cell = (λ there. absurd (omega (arith, there, past))) in
          outside seats s one cell none ∙ sym (outside seats t other cell none))
          (cases_lt cell.index (size_at job.layout.spaces cell.space))
