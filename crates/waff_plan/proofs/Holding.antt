-- What holds a message back: its floor, the messages before it, and those that it awaits.
use Rattle.std.proofs.Common.{◌≡◌, ℕ, ◌+◌, ◌≤◌, ◌⊎◌, inl, inr, eqb, List, [], ◌∷◌, cond, arith, refl, ap}
use Rattle.std.proofs.lemmas.Bool.{cases_eq, eq-eqb, ne_eqb, cond-true, cond-false}
use Rattle.waff_assign.specs.Order.{Relation}
use Rattle.waff_plan.specs.Work.{Await, Work, IsAwaited, IsNumber, finish_of, gap_after, holds_until, issue_after, issue_of}
use Rattle.waff_plan.specs.Obeys.{IsLinked, Obeys}

-- the gap of one that is awaited, where it is message i, and where it is another
pub gap_same : (a : Await) (i : ℕ) → a.message ≡ i → cond (eqb a.message i) a.gap 0 ≡ a.gap
gap_same a i same = cond-true (eqb a.message i) a.gap 0 (eq-eqb a.message i same)

pub gap_other : (a : Await) (i : ℕ) → (a.message ≡ i → ⊥) → cond (eqb a.message i) a.gap 0 ≡ 0
gap_other a i other = cond-false (eqb a.message i) a.gap 0 (ne_eqb a.message i other)

-- what has finished by a tick by which the message is issued holds it back no longer
done : (finish : ℕ → ℕ) (floor i s : ℕ) (awaits : List Await) → issue_after finish floor awaits ≤ s → finish i ≤ s → finish i + gap_after i awaits ≤ s
done finish floor i s [] issued is_done = omega (arith, is_done)
done finish floor i s (a ∷ rest) issued is_done =
    let more = done finish floor i s rest (omega (arith, issued)) is_done in
    elim (cases_eq a.message i) [
      | inl same ↦ omega (arith, more, issued, gap_same a i same, ap finish same)
      | inr other ↦ omega (arith, more, is_done, gap_other a i other)
    ]

-- and so has one that is awaited
awaited_done : (finish : ℕ → ℕ) (floor i s : ℕ) (awaits : List Await) → issue_after finish floor awaits ≤ s → IsAwaited awaits i → finish i ≤ s
awaited_done finish floor i s [] issued never = absurd never
awaited_done finish floor i s (a ∷ rest) issued (inl same) = omega (arith, issued, ap finish same)
awaited_done finish floor i s (a ∷ rest) issued (inr awaited) = awaited_done finish floor i s rest (omega (arith, issued)) awaited

-- what is issued by a tick has been held back no longer
held : (finish : ℕ → ℕ) (floor i s : ℕ) (awaits : List Await) → issue_after finish floor awaits ≤ s → (finish i ≤ s) ⊎ IsAwaited awaits i
    → finish i + gap_after i awaits ≤ s
held finish floor i s awaits issued (inl is_done) = done finish floor i s awaits issued is_done
held finish floor i s awaits issued (inr awaited) = done finish floor i s awaits issued (awaited_done finish floor i s awaits issued awaited)

-- a message is issued when its floor and those that it awaits allow it
pub issued_by : (finish : ℕ → ℕ) (floor t : ℕ) (awaits : List Await) → floor ≤ t → ((i : ℕ) → IsAwaited awaits i → finish i + gap_after i awaits ≤ t)
    → issue_after finish floor awaits ≤ t
issued_by finish floor t [] released after = released
issued_by finish floor t (a ∷ rest) released after =
    let first = after a.message (inl refl) in
    let more = issued_by finish floor t rest released (λ i awaited. let one = after i (inr awaited) in omega (arith, one)) in
    omega (arith, first, more, gap_same a a.message refl)

issued_after : (finish : ℕ → ℕ) (floor : ℕ) (awaits : List Await) → floor ≤ issue_after finish floor awaits
issued_after finish floor [] = omega arith
issued_after finish floor (a ∷ rest) = let more = issued_after finish floor rest in omega (arith, more)

-- what awaits another is issued no sooner than the gap after that one has finished
pub awaited-le-issue : (work : Work) (start : ℕ → ℕ) (i m : ℕ) → IsAwaited (work.awaits m) i → holds_until work start m i ≤ issue_of work start m
awaited-le-issue work start i m awaited =
    held (finish_of work start) (work.floor m) i (issue_of work start m) (work.awaits m) (omega arith) (inr awaited)

module _ (before : Relation) (work : Work) (start : ℕ → ℕ) where
  -- no message is issued before its floor
  pub floor-le-issue : (m : ℕ) → work.floor m ≤ issue_of work start m
  floor-le-issue m = issued_after (finish_of work start) (work.floor m) (work.awaits m)

  -- a message is issued by a tick up to which nothing holds it back
  pub issue-le : (m t : ℕ) → work.floor m ≤ t → ((i : ℕ) → IsLinked before work i m → holds_until work start m i ≤ t) → issue_of work start m ≤ t
  issue-le m t released after =
      issued_by (finish_of work start) (work.floor m) t (work.awaits m) released (λ i awaited. after i (inr awaited))

  -- in an obeying plan no message starts before its floor, nor while another holds it back
  pub released : Obeys before work start → (m : ℕ) → IsNumber work m → work.floor m ≤ start m
  released obeys m number = omega (arith, floor-le-issue m, obeys.issued m number)

  pub held_until : Obeys before work start → (i m : ℕ) → IsNumber work m → IsLinked before work i m → holds_until work start m i ≤ start m
  held_until obeys i m number linked =
      held (finish_of work start) (work.floor m) i (start m) (work.awaits m) (obeys.issued m number)
      (elim linked [ inl before ↦ inl (obeys.ordered i m before) | inr awaited ↦ inr awaited ])

  -- a message has finished when it holds back another no longer
  pub finish-le-holds : (i m : ℕ) → finish_of work start i ≤ holds_until work start m i
  finish-le-holds i m = omega arith

  -- what a message that is issued by a tick has to wait for by then holds it back no longer
  pub held-le : (i m s : ℕ) → issue_of work start m ≤ s → (before i m → finish_of work start i ≤ s) → IsLinked before work i m → holds_until work start m i ≤ s
  held-le i m s issued after linked =
      held (finish_of work start) (work.floor m) i s (work.awaits m) issued
      (elim linked [ inl pair ↦ inl (after pair) | inr awaited ↦ inr awaited ])

  -- a plan obeys where no message starts before its floor, nor while another holds it back
  pub obeys_held : ((m : ℕ) → IsNumber work m → work.floor m ≤ start m)
      → ((i m : ℕ) → IsLinked before work i m → IsNumber work m)
      → ((i m : ℕ) → IsLinked before work i m → holds_until work start m i ≤ start m) → Obeys before work start
  obeys_held released number after = record {
    issued = λ m is. issue-le m (start m) (released m is) (λ i linked. after i m linked);
    ordered = λ i m pair. omega (arith, finish-le-holds i m, after i m (inl pair));
  }

-- a message that finishes no later holds back another no longer
pub holds-le : (work : Work) (start other : ℕ → ℕ) (i m : ℕ) → start i ≤ other i → holds_until work start m i ≤ holds_until work other m i
holds-le work start other i m sooner = omega (arith, sooner)

pub holds-same : (work : Work) (start other : ℕ → ℕ) (i m : ℕ) → start i ≡ other i → holds_until work start m i ≡ holds_until work other m i
holds-same work start other i m same = omega (arith, same)

-- what awaits messages that finish no later is issued no later
pub issue_sooner : (finish other : ℕ → ℕ) (floor : ℕ) (awaits : List Await) → ((i : ℕ) → IsAwaited awaits i → finish i ≤ other i)
    → issue_after finish floor awaits ≤ issue_after other floor awaits
issue_sooner finish other floor [] sooner = omega arith
issue_sooner finish other floor (a ∷ rest) sooner =
    let more = issue_sooner finish other floor rest (λ i awaited. sooner i (inr awaited)) in
    omega (arith, more, sooner a.message (inl refl))

-- the issue with the same finishes is the same
pub issue_again : (finish other : ℕ → ℕ) (floor : ℕ) (awaits : List Await) → ((i : ℕ) → IsAwaited awaits i → finish i ≡ other i)
    → issue_after finish floor awaits ≡ issue_after other floor awaits
issue_again finish other floor [] same = refl
issue_again finish other floor (a ∷ rest) same =
    let more = issue_again finish other floor rest (λ i awaited. same i (inr awaited)) in
    omega (arith, more, same a.message (inl refl))

pub same_issue : (work : Work) (start other : ℕ → ℕ) (m : ℕ) → ((i : ℕ) → IsAwaited (work.awaits m) i → start i ≡ other i)
    → issue_of work start m ≡ issue_of work other m
same_issue work start other m same =
    issue_again (finish_of work start) (finish_of work other) (work.floor m) (work.awaits m)
    (λ i awaited. ap (λ s. s + work.cost i) (same i awaited))
