-- What holds a message back longest: the latest message before it, or one of those that it awaits.
use Rattle.std.proofs.Common.{◌≡◌, ℕ, ◌+◌, ◌≤◌, ◌⊎◌, inl, inr, Option, Some, None, List, [], ◌∷◌, arith, ltb, refl, ap}
use Rattle.std.proofs.lemmas.Bool.{cases_eq, cases_lt, cond_both, ltb-true, ltb-false}
use Rattle.waff_assign.specs.Order.{Relation}
use Rattle.waff_plan.specs.Waited.{IsWaitedFor}
use Rattle.waff_plan.specs.Waits.{IsWait, wait_of}
use Rattle.waff_plan.specs.Work.{Await, Work, IsAwaited, finish_of, gap_after, holds_until, issue_of}
use Rattle.waff_plan.specs.Obeys.{IsLinked}
use Rattle.waff_plan.specs.Latest.{IsFound, is_later, later_of}
use Rattle.waff_plan.specs.Links.{IsLink, held_by, link_of}
use Rattle.waff_plan.specs.declared.latest.Latest.{Latest}
use Rattle.waff_plan.specs.declared.waits.Since.{Since}
use Rattle.waff_plan.specs.declared.waits.Since.TheVariants.{Release, Issue}
use Rattle.waff_plan.proofs.Holding.{gap_other, gap_same}
use Rattle.waff_plan.proofs.Latests.{found_again, found_same, is_later_false, is_later_true}

-- of two kinds of messages, each with ticks of its own: a message of both has the greater
module _ (P Q : ℕ → Type 0) (f g h : ℕ → ℕ) (p_low : (i : ℕ) → P i → f i ≤ h i) (q_low : (i : ℕ) → Q i → g i ≤ h i)
    (either : (i : ℕ) → P i ⊎ Q i → (P i × (h i ≡ f i)) ⊎ (Q i × (h i ≡ g i))) where
  -- what is latest of one kind, and no later than it is any of the other
  one_latest : (l : Latest) → IsFound P f (Some l) → ((i : ℕ) → Q i → (g i ≤ l.finish) × (g i ≡ l.finish → l.number ≤ i)) → IsFound (λ i. P i ⊎ Q i) h (Some l)
  one_latest l found others =
      let up : (i : ℕ) → P i ⊎ Q i → (h i ≤ l.finish) × (h i ≡ l.finish → l.number ≤ i)
      = λ i both. elim (either i both) [
        | inl p ↦ (
          omega (arith, p.1, found.number.latest i p.0, found.finish_is),
          λ same. found.number.lowest i p.0 (omega (arith, same, p.1, found.finish_is)),
        )
        | inr q ↦ (omega (arith, q.1, (others i q.0).0), λ same. (others i q.0).1 (omega (arith, same, q.1)))
      ] in
      let is : l.finish ≡ h l.number = omega (arith, found.finish_is, p_low l.number found.number.one, (up l.number (inl found.number.one)).0) in
      record {
        number = record {
          one = inl found.number.one;
          latest = λ i both. omega (arith, is, (up i both).0);
          lowest = λ i both same. (up i both).1 (omega (arith, is, same));
        };
        finish_is = is;
      }

turn : {A B : Type 0} → A ⊎ B → B ⊎ A
turn (inl a) = inr a
turn (inr b) = inl b

module _ (P Q : ℕ → Type 0) (f g h : ℕ → ℕ) (p_low : (i : ℕ) → P i → f i ≤ h i) (q_low : (i : ℕ) → Q i → g i ≤ h i)
    (either : (i : ℕ) → P i ⊎ Q i → (P i × (h i ≡ f i)) ⊎ (Q i × (h i ≡ g i))) where
  turned : (l : Option Latest) → IsFound (λ i. Q i ⊎ P i) h l → IsFound (λ i. P i ⊎ Q i) h l
  turned l found = found_same (λ i. Q i ⊎ P i) (λ i. P i ⊎ Q i) h l (λ i both. turn both) (λ i both. turn both) found

  -- the latest of both kinds is the later of the latest of each
  found_joined : (one other : Option Latest) → IsFound P f one → IsFound Q g other → IsFound (λ i. P i ⊎ Q i) h (later_of one other)
  found_joined None None none neither = λ i both. elim both [ inl p ↦ none i p | inr q ↦ neither i q ]
  found_joined None (Some l) none found =
      turned (Some l) (one_latest Q P g f h q_low p_low (λ i both. turn (either i (turn both))) l found (λ i p. absurd (none i p)))
  found_joined (Some l) None found none = one_latest P Q f g h p_low q_low either l found (λ i q. absurd (none i q))
  found_joined (Some l) (Some o) found other =
      cond_both (is_later l o) (Some o) (Some l) (λ x. IsFound (λ i. P i ⊎ Q i) h x)
      (λ later.
      let order = is_later_true l.finish o.finish l.number o.number later in
      turned (Some o) (one_latest Q P g f h q_low p_low (λ i both. turn (either i (turn both))) o other
      (λ i p. (
        omega (arith, found.number.latest i p, found.finish_is, order.0),
        λ same.
            let low = found.number.lowest i p (omega (arith, same, found.number.latest i p, found.finish_is, order.0)) in
            let first = order.1 (omega (arith, same, found.number.latest i p, found.finish_is, order.0)) in
            omega (arith, low, first),
      ))))
      (λ not_later.
      let order = is_later_false l.finish o.finish l.number o.number not_later in
      one_latest P Q f g h p_low q_low either l found
      (λ i q. (
        omega (arith, other.number.latest i q, other.finish_is, order.0),
        λ same.
            let low = other.number.lowest i q (omega (arith, same, other.number.latest i q, other.finish_is, order.0)) in
            let first = order.1 (omega (arith, same, other.number.latest i q, other.finish_is, order.0)) in
            omega (arith, low, first),
      )))

-- a message that is not awaited has no gap
pub gap_or_awaited : (i : ℕ) (awaits : List Await) → (gap_after i awaits ≡ 0) ⊎ IsAwaited awaits i
gap_or_awaited i [] = inl refl
gap_or_awaited i (a ∷ rest) = elim (cases_eq a.message i) [
  | inl same ↦ inr (inl same)
  | inr other ↦ elim (gap_or_awaited i rest) [
    | inl none ↦ inl (omega (arith, none, gap_other a i other))
    | inr awaited ↦ inr (inr awaited)
  ]
]

module _ (before : ℕ → Type 0) (finish : ℕ → ℕ) where
  abbrev Linked : List Await → ℕ → Type 0
  Linked awaits i = before i ⊎ IsAwaited awaits i

  abbrev holds : List Await → ℕ → ℕ
  holds awaits i = finish i + gap_after i awaits

  -- the latest of those before a message and of those that it awaits is what holds it back longest
  found_held : (latest : Option Latest) → IsFound before finish latest → (awaits : List Await) → IsFound (Linked awaits) (holds awaits) (held_by finish latest awaits)
  found_held latest found [] =
      found_same before (Linked []) (holds []) latest (λ i p. inl p) (λ i linked. elim linked [ inl p ↦ p | inr never ↦ absurd never ])
      (found_again before finish (holds []) latest (λ i p. omega arith) found)
  found_held latest found (a ∷ rest) =
      let alone : IsFound (λ i. a.message ≡ i) (λ i. finish i + a.gap) (Some (record { finish = finish a.message + a.gap; number = a.message }))
      = record {
        number = record {
          one = refl;
          latest = λ i same. omega (arith, ap finish same);
          lowest = λ i same equal. omega (arith, same);
        };
        finish_is = refl;
      } in
      found_same (λ i. Linked rest i ⊎ (a.message ≡ i)) (Linked (a ∷ rest)) (holds (a ∷ rest)) (held_by finish latest (a ∷ rest))
      (λ i both. elim both [
        | inl linked ↦ elim linked [ inl p ↦ inl p | inr awaited ↦ inr (inr awaited) ]
        | inr same ↦ inr (inl same)
      ])
      (λ i linked. elim linked [
        | inl p ↦ inl (inl p)
        | inr awaited ↦ elim awaited [ inl same ↦ inr same | inr more ↦ inl (inr more) ]
      ])
      (found_joined (Linked rest) (λ i. a.message ≡ i) (holds rest) (λ i. finish i + a.gap) (holds (a ∷ rest))
      (λ i linked. omega arith)
      (λ i same. omega (arith, gap_same a i same))
      (λ i both. elim (cases_eq a.message i) [
        | inl same ↦ elim (gap_or_awaited i rest) [
          | inl none ↦ inr (same, omega (arith, gap_same a i same, none))
          | inr awaited ↦ wins i same awaited
        ]
        | inr other ↦ elim both [
          | inl linked ↦ inl (linked, omega (arith, gap_other a i other))
          | inr same ↦ absurd (other same)
        ]
      ])
      (held_by finish latest rest) (Some (record { finish = finish a.message + a.gap; number = a.message }))
      (found_held latest found rest) alone)
    where
      wins : (i : ℕ) → a.message ≡ i → IsAwaited rest i
          → (Linked rest i × (holds (a ∷ rest) i ≡ holds rest i)) ⊎ ((a.message ≡ i) × (holds (a ∷ rest) i ≡ finish i + a.gap))
      wins i same awaited = elim (cases_lt a.gap (gap_after i rest)) [
        | inl less ↦ inl (inr awaited, omega (arith, gap_same a i same, less))
        | inr not_less ↦ inr (same, omega (arith, gap_same a i same, not_less))
      ]

module _ (before : Relation) (work : Work) (start : ℕ → ℕ) (m : ℕ) where
  -- the link of m is what holds it back longest, where that is after its floor
  link_of_found : (latest : Option Latest) → IsFound (λ i. IsLinked before work i m) (holds_until work start m) latest
      → IsLink before work start m (link_of latest (work.floor m))
  link_of_found None none = λ i linked. absurd (none i linked)
  link_of_found (Some l) found =
      cond_both (ltb (work.floor m) l.finish) (Some l.number) None (λ link. IsLink before work start m link)
      (λ waits. (found.number, omega (arith, ltb-true (work.floor m) l.finish waits, found.finish_is)))
      (λ released i linked. omega (arith, ltb-false (work.floor m) l.finish released, found.finish_is, found.number.latest i linked))

  -- what m waits for, where the latest message before it is found
  pub is_wait : (since : Since) (latest : Option Latest) → IsFound (λ i. before i m) (finish_of work start) latest
      → IsWait since before work start m (wait_of since work start m latest)
  is_wait Release latest found =
      link_of_found (held_by (finish_of work start) latest (work.awaits m)) (found_held (λ i. before i m) (finish_of work start) latest found (work.awaits m))
  is_wait Issue None none = λ i pair. absurd (none i pair)
  is_wait Issue (Some l) found =
      cond_both (ltb (issue_of work start m) l.finish) (Some l.number) None (λ link. IsWaitedFor before work start m link)
      (λ waits. (found.number, omega (arith, ltb-true (issue_of work start m) l.finish waits, found.finish_is)))
      (λ issued i pair. omega (arith, ltb-false (issue_of work start m) l.finish issued, found.finish_is, found.number.latest i pair))
