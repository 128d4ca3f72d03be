-- Messages that are those of another trace, one after another.
use Rattle.std.proofs.Common.{◌≡◌, ℕ, ◌+◌, ◌<◌, ◌≤◌, List, length, inl, inr, arith, ap, ap₂, sym, subst}
use Rattle.std.proofs.lemmas.Bool.{cases_eq}
use Rattle.waff_model.specs.Messages.{Arrivals}
use Rattle.waff_plan.specs.Timetable.{Timetable, message_of, timings_of, work_in}
use Rattle.waff_plan.specs.Timing.{work_of}
use Rattle.waff_plan.specs.declared.timing.Timing.{Timing}
use Rattle.waff_record.specs.Left.{IsCutTo, IsIssuedAmong, IsToldAmong, number_at}

-- those before message k are
pub record AreCutBelow (kept : List ℕ) (trace cut : Arrivals) (plan cut_plan : Timetable) (k : ℕ) : Type 0 where
  pub told : (j : ℕ) → 1 ≤ j → j < k → IsToldAmong kept (message_of trace.messages (number_at kept j)) (message_of cut.messages j)
  pub issued : (j : ℕ) → 1 ≤ j → j < k → IsIssuedAmong kept (work_in plan) (work_in cut_plan) j

module _ (kept : List ℕ) (trace cut : Arrivals) (plan cut_plan : Timetable) where
  pub cut_none : AreCutBelow kept trace cut plan cut_plan 1
  cut_none = record {
    told = λ j from less. absurd (omega (arith, from, less));
    issued = λ j from less. absurd (omega (arith, from, less));
  }

  pub cut_more : (k : ℕ) → AreCutBelow kept trace cut plan cut_plan k
      → IsToldAmong kept (message_of trace.messages (number_at kept k)) (message_of cut.messages k)
      → IsIssuedAmong kept (work_in plan) (work_in cut_plan) k → AreCutBelow kept trace cut plan cut_plan (k + 1)
  cut_more k below told issued = record {
    told = λ j from less. elim (cases_eq j k) [
      | inl at ↦ subst (λ i. IsToldAmong kept (message_of trace.messages (number_at kept i)) (message_of cut.messages i)) (sym at) told
      | inr off ↦ below.told j from (omega (arith, less, off))
    ];
    issued = λ j from less. elim (cases_eq j k) [
      | inl at ↦ subst (IsIssuedAmong kept (work_in plan) (work_in cut_plan)) (sym at) issued
      | inr off ↦ below.issued j from (omega (arith, less, off))
    ];
  }

  pub cut_all : (k : ℕ) → length kept < k → cut.version ≡ trace.version → length cut.messages ≡ length kept → plan.timings ≡ timings_of trace.messages
      → cut_plan.timings ≡ timings_of cut.messages → AreCutBelow kept trace cut plan cut_plan k → IsCutTo trace kept cut
  cut_all k past version count timings cut_timings below = record {
    version = version;
    count = count;
    each = λ j number. below.told j number.from (omega (arith, number.to, past));
    issued = λ j number.
        subst (λ (ts : List Timing). IsIssuedAmong kept (work_of ts) (work_of (timings_of cut.messages)) j) timings
        (subst (λ (ts : List Timing). IsIssuedAmong kept (work_of plan.timings) (work_of ts) j) cut_timings
        (below.issued j number.from (omega (arith, number.to, past))));
  }
