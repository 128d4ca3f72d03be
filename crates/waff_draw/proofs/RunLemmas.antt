-- The runs of bars, one bar after the other.
use Rattle.std.proofs.Common.{◌≡◌, ℕ, ◌==◌, ◌&&◌, true, false, inl, inr, cond, List, [], ◌∷◌, ◌++◌, flat_map, refl, sym, ◌∙◌, ap, ap₂}
use Rattle.std.proofs.lemmas.Bool.{and_parts, cases_Bool, cases_eq, true≢false}
use Rattle.waff_draw.specs.Runs.{both_as_one, outlines, run_text, runs_of, touches, with_run}
use Rattle.waff_draw.specs.declared.runs.Run.{Run}
use Rattle.waff_draw.proofs.LaneLemmas.{other_tests}

equal_from : (a b : ℕ) → (a == b) ≡ true → a ≡ b
equal_from a b h = elim (cases_eq a b) [
  | inl same ↦ same
  | inr other ↦ absurd (true≢false (sym h ∙ other_tests a b other))
]

-- what a bar and the runs behind it are, by whether it touches the first of them
when_touching : (bar next : Run) (runs : List Run) → touches bar next ≡ true → with_run bar (next ∷ runs) ≡ both_as_one bar next ∷ runs
when_touching bar next runs met = ap (λ b. cond b (both_as_one bar next ∷ runs) (bar ∷ next ∷ runs)) met

when_apart : (bar next : Run) (runs : List Run) → touches bar next ≡ false → with_run bar (next ∷ runs) ≡ bar ∷ next ∷ runs
when_apart bar next runs parted = ap (λ b. cond b (both_as_one bar next ∷ runs) (bar ∷ next ∷ runs)) parted

-- a run that touches the bar behind it is one with it, whatever follows
joins : (run bar : Run) (runs : List Run) → touches run bar ≡ true
    → with_run run (with_run bar runs) ≡ with_run (both_as_one run bar) runs
joins run bar [] meet = when_touching run bar [] meet
joins run bar (next ∷ runs) meet =
    let row : run.row ≡ bar.row = equal_from run.row bar.row (and_parts (run.row == bar.row) (run.right == bar.left) meet).0 in
    let same : touches (both_as_one run bar) next ≡ touches bar next = ap (λ (r : ℕ). r == next.row && bar.right == next.left) row in
    elim (cases_Bool (touches bar next)) [
      | inl met ↦
          ap (with_run run) (when_touching bar next runs met)
          ∙ when_touching run (both_as_one bar next) runs meet
          ∙ sym (when_touching (both_as_one run bar) next runs (same ∙ met))
      | inr parted ↦
          ap (with_run run) (when_apart bar next runs parted)
          ∙ when_touching run bar (next ∷ runs) meet
          ∙ sym (when_apart (both_as_one run bar) next runs (same ∙ parted))
    ]

-- and one that does not touch it ends before it
ends : (run bar : Run) (runs : List Run) → touches run bar ≡ false → with_run run (with_run bar runs) ≡ run ∷ with_run bar runs
ends run bar [] apart = when_apart run bar [] apart
ends run bar (next ∷ runs) apart =
    elim (cases_Bool (touches bar next)) [
      | inl met ↦
          ap (with_run run) (when_touching bar next runs met)
          ∙ when_apart run (both_as_one bar next) runs apart
          ∙ ap (λ rs. run ∷ rs) (sym (when_touching bar next runs met))
      | inr parted ↦
          ap (with_run run) (when_apart bar next runs parted)
          ∙ when_apart run bar (next ∷ runs) apart
          ∙ ap (λ rs. run ∷ rs) (sym (when_apart bar next runs parted))
    ]

pub outlines_joined : (run bar : Run) (bars : List Run) → touches run bar ≡ true
    → outlines (both_as_one run bar ∷ bars) ≡ outlines (run ∷ bar ∷ bars)
outlines_joined run bar bars meet = ap (flat_map run_text) (sym (joins run bar (runs_of bars) meet))

pub outlines_apart : (run bar : Run) (bars : List Run) → touches run bar ≡ false
    → run_text run ++ outlines (bar ∷ bars) ≡ outlines (run ∷ bar ∷ bars)
outlines_apart run bar bars apart = ap (flat_map run_text) (sym (ends run bar (runs_of bars) apart))

-- a run that has no width, before all bars, has no outline
abbrev run_from : ℕ → ℕ → ℕ → Run
run_from row left right = record { row = row; left = left; right = right }

abbrev pub nothing : Run
nothing = run_from 0 0 0

none_before : (runs : List Run) → flat_map run_text (with_run nothing runs) ≡ flat_map run_text runs
none_before [] = refl
none_before (next ∷ runs) =
    elim (cases_Bool (touches nothing next)) [
      | inl met ↦
          let parts = and_parts (0 == next.row) (0 == next.left) met in
          let same : both_as_one nothing next ≡ next
          = ap₂ (λ row left. run_from row left next.right) (equal_from 0 next.row parts.0) (equal_from 0 next.left parts.1) in
          ap (flat_map run_text) (when_touching nothing next runs met) ∙ ap (λ (run : Run). run_text run ++ flat_map run_text runs) same
      | inr parted ↦ ap (flat_map run_text) (when_apart nothing next runs parted)
    ]

pub outlines_begin : (bars : List Run) → outlines (nothing ∷ bars) ≡ outlines bars
outlines_begin bars = none_before (runs_of bars)
