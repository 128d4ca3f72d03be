-- What a number draws, and what the seat then is.
use Rattle.std.proofs.Common.{◌≡◌, ℕ, ◌<◌, ◌≤◌, Option, Some, None, IfNone, length, slice_get, ap, ◌∙◌, arith}
use Rattle.std.proofs.lemmas.Option.{slice_get_past, slice_get-get_or}
use Rattle.std.specs.Prelude.{get_or}
use Rattle.waff_core.specs.Job.{JobValue, IsJob}
use Rattle.waff_core.specs.Machine.{phase_drawn}
use Rattle.waff_core.specs.declared.actors.Phase.TheVariants.{Drawn, Ended}
use Rattle.waff_board.specs.Plays.{drawn_view}
use Rattle.waff_board.specs.declared.view.View.{View}
use Rattle.waff_board.proofs.Known.{order_count}

pub first_same : {A B : Type 0} (p q : A × B) → p ≡ q → p.0 ≡ q.0
first_same p q same = λ i. (same i).0

pub second_same : {A B : Type 0} (p q : A × B) → p ≡ q → p.1 ≡ q.1
second_same p q same = λ i. (same i).1

-- past the number of messages nothing is drawn
pub none_past : (job : JobValue) → IsJob job → (n : ℕ) → length job.ops ≤ n → slice_get job.order n ≡ None
none_past job is n past = slice_get_past job.order n (let count = order_count job is in omega (arith, past, count))

pub none_is_past : (job : JobValue) → IsJob job → (n : ℕ) (found : Option ℕ) → found ≡ slice_get job.order n → n < length job.ops
    → IfNone found (length job.ops ≤ n)
none_is_past job is n (Some m) same within = tt
none_is_past job is n None same within =
    let there : slice_get job.order n ≡ Some (get_or job.order n 0)
    = slice_get-get_or job.order n 0 (let count = order_count job is in omega (arith, within, count)) in
    let clash : None ≡ Some (get_or job.order n 0) = same ∙ there in
    cc

module _ (v w : View) (job : JobValue) (p : ℕ) (view : w ≡ drawn_view v p) (same : v.job ≡ job) where
  pub drawn_job : w.job ≡ job
  drawn_job = ap (λ (u : View). u.job) view ∙ same

  phase_is : (found : Option ℕ) → slice_get job.order p ≡ found → w.phase ≡ phase_drawn found
  phase_is found at = ap (λ (u : View). u.phase) view
      ∙ ap (λ (j : JobValue). phase_drawn (slice_get j.order p)) same ∙ ap (λ f. phase_drawn f) at

  pub drawn_phase : (m : ℕ) → slice_get job.order p ≡ Some m → w.phase ≡ Drawn m
  drawn_phase m at = phase_is (Some m) at

  pub ended_phase : slice_get job.order p ≡ None → w.phase ≡ Ended
  ended_phase at = phase_is None at
