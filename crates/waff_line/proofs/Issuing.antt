-- The issues of messages: what has been issued keeps its issue, and what is issued later comes later.
use Rattle.std.proofs.Common.{◌≡◌, ℕ, ◌+◌, ◌-◌, ◌<◌, ◌≤◌, inl, inr, true, false, refl, ap, sym, ◌∙◌, arith}
use Rattle.std.proofs.lemmas.Bool.{cases_Bool, cond-false, cond-true, false≢true}
use Rattle.waff_model.specs.Versions.{has_clients}
use Rattle.waff_model.specs.declared.message.Version.{Version}
use Rattle.waff_model.specs.declared.message.Version.TheVariants.{V1, V2, V3, V4}
use Rattle.waff_plan.specs.Obeys.{AwaitsNone}
use Rattle.waff_plan.specs.Order.{ComesBefore, key_of}
use Rattle.waff_plan.specs.Work.{Work, IsAwaited, finish_of, issue_of}
use Rattle.waff_plan.proofs.FollowLemmas.{none_awaited}
use Rattle.waff_plan.proofs.Holding.{awaited-le-issue, issue_again}
use Rattle.waff_line.specs.Machine.{Course, State, Turn, HasCome, HasEnded, IsIssued, issue_in, key_in, measured, start_in, turn_of}

-- where what has ended keeps its turn, what has been issued keeps its issue
pub issue_kept : (course : Course) (s t : State) → ((f : ℕ) → HasEnded s f → turn_of t f ≡ turn_of s f) → (n : ℕ) → IsIssued course s n
    → issue_in course t n ≡ issue_in course s n
issue_kept course s t same n issued =
    issue_again (finish_of (measured course t) (start_in t)) (finish_of (measured course s) (start_in s)) (course.work.floor n) (course.work.awaits n)
    (λ f awaited. ap (λ (turn : Turn). turn.start + (turn.finish - turn.start)) (same f (issued f awaited)))

-- of messages of clients the key is the issue, else it is the same of all
pub key_with : (version : Version) (work : Work) (start : ℕ → ℕ) (n : ℕ) → has_clients version ≡ true → key_of version work start n ≡ issue_of work start n
key_with V1 work start n has = absurd (false≢true has)
key_with V2 work start n has = absurd (false≢true has)
key_with V3 work start n has = refl
key_with V4 work start n has = refl

pub key_without : (version : Version) (work : Work) (start : ℕ → ℕ) (n : ℕ) → has_clients version ≡ false → key_of version work start n ≡ 0
key_without V1 work start n none = refl
key_without V2 work start n none = refl
key_without V3 work start n none = absurd (false≢true (sym none))
key_without V4 work start n none = absurd (false≢true (sym none))

-- what has been issued keeps its key
pub key_kept : (course : Course) (s t : State) → ((f : ℕ) → HasEnded s f → turn_of t f ≡ turn_of s f) → (n : ℕ) → IsIssued course s n
    → key_in course t n ≡ key_in course s n
key_kept course s t same n issued = elim (cases_Bool (has_clients course.version)) [
  | inl has ↦
      key_with course.version (measured course t) (start_in t) n has ∙ issue_kept course s t same n issued
      ∙ sym (key_with course.version (measured course s) (start_in s) n has)
  | inr none ↦
      key_without course.version (measured course t) (start_in t) n none ∙ sym (key_without course.version (measured course s) (start_in s) n none)
]

-- what comes first by one key does so by another that is the same of both
pub comes_same : (key other : ℕ → ℕ) (i j : ℕ) → key i ≡ other i → key j ≡ other j → ComesBefore key i j → ComesBefore other i j
comes_same key other i j first second (inl sooner) = inl (omega (arith, sooner, first, second))
comes_same key other i j first second (inr same) = inr (omega (arith, same.0, first, second), same.1)

-- what has come is no later
pub come-le : (version : Version) (issue clock : ℕ) → HasCome version issue clock → issue ≤ clock
come-le version issue clock come = omega (arith, come)

-- what is late enough has come
pub comes_by : (version : Version) (issue clock : ℕ) → (has_clients version ≡ true → issue < clock) → (has_clients version ≡ false → issue ≤ clock)
    → HasCome version issue clock
comes_by version issue clock by_issue by_number = elim (cases_Bool (has_clients version)) [
  | inl has ↦ omega (arith, by_issue has, cond-true {A = ℕ} (has_clients version) 1 0 has)
  | inr none ↦ omega (arith, by_number none, cond-false {A = ℕ} (has_clients version) 1 0 none)
]

pub come_from : (version : Version) (issue clock : ℕ) → issue < clock → HasCome version issue clock
come_from version issue clock earlier = comes_by version issue clock (λ _. earlier) (λ _. omega (arith, earlier))

-- and of messages of clients it is earlier
pub come_before : (version : Version) (issue clock : ℕ) → has_clients version ≡ true → HasCome version issue clock → issue < clock
come_before version issue clock has come = omega (arith, come, cond-true {A = ℕ} (has_clients version) 1 0 has)

-- what awaits one that finishes when the issue of message n has come is served no sooner than message n
pub issued_late : (version : Version) (work : Work) (start : ℕ → ℕ) (i n f clock : ℕ) → (has_clients version ≡ false → AwaitsNone work) → IsAwaited (work.awaits i) f
    → HasCome version (issue_of work start n) clock → clock ≤ finish_of work start f → ComesBefore (key_of version work start) i n → ⊥
issued_late version work start i n f clock alone awaited come late before = elim (cases_Bool (has_clients version)) [
  | inr none ↦ none_awaited (work.awaits i) f (alone none i) awaited
  | inl has ↦
      let less : issue_of work start n < issue_of work start i
      = omega (arith, come, late, awaited-le-issue work start f i awaited, cond-true {A = ℕ} (has_clients version) 1 0 has) in
      never_before (comes_same (key_of version work start) (issue_of work start) i n (key_with version work start i has) (key_with version work start n has) before) less
]
  where
    never_before : ComesBefore (issue_of work start) i n → issue_of work start n < issue_of work start i → ⊥
    never_before (inl sooner) less = omega (arith, sooner, less)
    never_before (inr same) less = omega (arith, same.0, less)
