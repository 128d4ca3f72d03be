-- What holds of a plan in which the check finds no fault.
use Rattle.std.proofs.Common.{◌≡◌, ℕ, Some, length, inl, inr, arith}
use Rattle.std.proofs.lemmas.Bool.{cases_eq}
use Rattle.waff_plan.specs.Work.{IsNumber, finish_of}
use Rattle.waff_check.specs.Faults.{HasWrongFinish}
use Rattle.waff_check.specs.Promises as promises
use Rattle.waff_check.specs.Promises.{Promises}
use Rattle.waff_check.specs.Verdicts.{Claim, IsVerdict, start_in, told_finish, work_of_claim, workers_in}
use Rattle.waff_check.specs.declared.verdict.Verdict.{Verdict}
use Rattle.waff_check.specs.declared.verdict.Verdict.TheVariants as verdict
use Rattle.waff_record.specs.Runs.{IsKept}

module _ (claim : Claim) (k : ℕ) (v : Verdict) (is : IsVerdict claim v) (good : promises.Accepts v) where
  -- no row tells a wrong finish
  finishes : (n : ℕ) → IsNumber (work_of_claim claim) n → told_finish claim.plan n ≡ finish_of (work_of_claim claim) (start_in claim) n
  finishes n number = elim (cases_eq (told_finish claim.plan n) (finish_of (work_of_claim claim) (start_in claim) n)) [
    | inl same ↦ same
    | inr other ↦ absurd (free v is good (record { number = number; wrong = other }))
  ]
    where
      free : (w : Verdict) → IsVerdict claim w → promises.Accepts w → HasWrongFinish (work_of_claim claim) (start_in claim) (told_finish claim.plan) n → ⊥
      free verdict.Obeys h a = h.free (verdict.Finish n) (omega arith)
      free verdict.Shortest h a = h.free (verdict.Finish n) (omega arith)
      free verdict.Tight h a = h.free (verdict.Finish n) (omega arith)
      free verdict.WithinBound h a = h.free (verdict.Finish n) (omega arith)
      free _ h a = absurd a

  pub is_kept : Promises claim v → workers_in claim ≡ Some k → length claim.plan.rows ≡ length claim.instance.trace.messages → IsKept claim k
  is_kept promised workers rows = record {
    verdict = v;
    workers = workers;
    is_verdict = is;
    no_fault = good;
    promises = promised;
    once = rows;
    finishes = finishes;
    issued = (promised.obeys good).issued;
    within = (promised.worker_plan good k workers).within;
    seated = promised.one_at_a_time good k workers;
    apart = promised.apart good;
  }
