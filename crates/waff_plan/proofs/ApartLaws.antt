-- Whether messages that exclude each other run at a common tick, one message after another by their
-- starts.
use Rattle.std.proofs.Common.{◌≡◌, ◌≢◌, inl, inr, ℕ, zero, suc, ◌+◌, ◌-◌, ◌<◌, ◌≤◌, true, false, Bool, cond, List, [], ◌∷◌, ◌++◌, length, get_or, map, All, Contains, nat_le, nat_lt, nat_eq, eqb, arith, refl, sym, ◌∙◌, ap, subst}
use Rattle.std.specs.Cmp.{nat_cmp_is}
use Rattle.std.specs.List.{IsDistinct, range_with_len}
use Rattle.std.specs.List.Sorted.{IsPermutation}
use Rattle.std.specs.Ordering.{nat_cmp, is_lt}
use Rattle.std.specs.declared.cmp.Ordering.TheVariants.{Less, Equal, Greater}
use Rattle.std.proofs.lemmas.Bool.{and_parts, and_from, cases_lt, cond-true, eq-eqb, ne_eqb, false≢true, ltb-true, leb-true, le-leb, lt-ltb}
use Rattle.std.proofs.lemmas.Bool.Decides.{nat_tests}
use Rattle.std.proofs.lemmas.List.FromFn.{get_or-map-range_with_len, length-map-range_with_len, map-range_with_len_more}
use Rattle.std.proofs.lemmas.List.Sorted.{All-permutation, Contains-permutation, IsPermutation-refl, length_permutation}
use Rattle.std.proofs.lemmas.Map.Keys.{IsDistinct-IsPermutation, IsDistinct-from_apart, apart_from_distinct}
use Rattle.waff_plan.specs.Apart.{RunTogether}
use Rattle.waff_plan.specs.ByStart.{AreByStart, IsStart, started_at, started_of}
use Rattle.waff_plan.specs.Work.{Work, IsNumber, finish_of, numbers}
use Rattle.waff_plan.specs.Workers.{runs_at}
use Rattle.waff_plan.specs.declared.sequence.Started.{Started}

module _ (work : Work) (start : ℕ → ℕ) where
  -- what a message that runs at a tick says of its start and its finish
  pub runs_parts : (t m : ℕ) → runs_at work start t m ≡ true → (start m ≤ t) × (t < finish_of work start m)
  runs_parts t m h = let p = and_parts (nat_le (start m) t) (nat_lt t (finish_of work start m)) h in (leb-true _ _ p.0, ltb-true _ _ p.1)

  pub runs_from : (t m : ℕ) → start m ≤ t → t < finish_of work start m → runs_at work start t m ≡ true
  runs_from t m le lt = and_from (nat_le (start m) t) (nat_lt t (finish_of work start m)) (le-leb _ _ le) (lt-ltb _ _ lt)

  pub turned : (i m : ℕ) → RunTogether work start i m → RunTogether work start m i
  turned i m together = (together.0, together.2, together.1)

  -- messages of which one has finished when the other starts run at no common tick
  pub apart_where_finished : (i m : ℕ) → finish_of work start i ≤ start m → RunTogether work start i m → ⊥
  apart_where_finished i m done together =
      let one = runs_parts together.0 i together.1 in
      let other = runs_parts together.0 m together.2 in
      omega (arith, done, one.1, other.0)

  -- where a message runs when it starts, and another one has started and not finished by then, they run
  -- at a common tick
  pub together_where_running : (i m : ℕ) → start i ≤ start m → start m < finish_of work start i → start m < finish_of work start m → RunTogether work start i m
  together_where_running i m early late runs = (start m, runs_from (start m) i early late, runs_from (start m) m (omega arith) runs)

-- the message at a place
pub number_here : (work : Work) (start : ℕ → ℕ) (started : List Started) → AreByStart work start started → (p : ℕ) → p < length started → IsNumber work (started_at started p).number
number_here work start started are p less = (are.only p (record { start = 0; number = 0 }) less).number

-- one more message with its start
pub started_more : (start : ℕ → ℕ) (n first : ℕ) (old : List Started) → 1 ≤ n → old ≡ map (started_of start) (range_with_len 1 (n - 1)) → first ≡ start n
    → old ++ record { start = first; number = n } ∷ [] ≡ map (started_of start) (range_with_len 1 (n + 1 - 1))
started_more start n first old from so_far is =
    let next : n + 1 - 1 ≡ n - 1 + 1 = omega arith in
    rw (so_far, is, next) (sym (map-range_with_len_more (started_of start) 1 (n - 1) n (omega arith)))

-- what a sort says of neighbours: the starts do not fall
abbrev pub started_less : Started → Started → Bool
started_less a b = is_lt (nat_cmp a.start b.start)

not_less : (a b : Started) → started_less a b ≡ false → b.start ≤ a.start
not_less a b h = elim (cases_lt a.start b.start) [
  | inl lt ↦ absurd (false≢true (sym h ∙ ap is_lt (cond-true (nat_lt a.start b.start) Less (cond (nat_eq a.start b.start) Equal Greater) (lt-ltb a.start b.start lt))))
  | inr ge ↦ ge
]

abbrev same_number : Started → Started → Bool
same_number s t = eqb s.number t.number

same_number-sym : (s t : Started) → same_number s t ≡ same_number t s
same_number-sym s t = grind (arith, nat_tests)

-- all messages with their starts, in whatever order their starts rise
module _ (work : Work) (start : ℕ → ℕ) (new : List Started) (moved : IsPermutation (map (started_of start) (numbers work)) new)
    (sorted : (i : ℕ) → i + 1 < length new → started_less (started_at new (i + 1)) (started_at new i) ≡ false) where
  abbrev old : List Started
  old = map (started_of start) (numbers work)

  old_at : (p : ℕ) (d : Started) → p < length old → get_or old p d ≡ started_of start (p + 1)
  old_at p d lt =
      get_or-map-range_with_len (started_of start) 1 work.count p (p + 1) d
      (omega (arith, lt, length-map-range_with_len (started_of start) 1 work.count)) (omega arith)

  each_there : (n : ℕ) → IsNumber work n → Contains new (started_of start n)
  each_there n number =
      let short : n - 1 < length old = omega (arith, number.from, number.to, length-map-range_with_len (started_of start) 1 work.count) in
      let same : n - 1 + 1 ≡ n = omega (arith, number.from) in
      Contains-permutation old new (started_of start n) moved
      (n - 1, short, old_at (n - 1) (started_of start n) short ∙ ap (started_of start) same)

  only_there : All (IsStart work start) new
  only_there =
      All-permutation (IsStart work start) old new moved
      (λ p d lt. subst (IsStart work start) (sym (old_at p d lt)) (record {
        number = record { from = omega arith; to = omega (arith, lt, length-map-range_with_len (started_of start) 1 work.count) };
        start_is = refl;
      }))

  once_there : (p q : ℕ) → p < q → q < length new → (started_at new p).number ≢ (started_at new q).number
  once_there p q before lt same =
      let distinct : IsDistinct same_number old = IsDistinct-from_apart same_number old (λ i j d less within.
      let one = old_at i d (omega (arith, less, within)) in
      let two = old_at j d within in
      rw (one, two) (ne_eqb (i + 1) (j + 1) (omega (arith, less)))) in
      let apart = apart_from_distinct same_number new p q (record { start = 0; number = 0 })
      (IsDistinct-IsPermutation same_number same_number-sym old new moved distinct) before lt in
      false≢true (sym apart ∙ eq-eqb _ _ same)

  rises_by : (p k : ℕ) → p + k < length new → (started_at new p).start ≤ (started_at new (p + k)).start
  rises_by p zero lt = let same : p + 0 ≡ p = omega arith in rw same (omega arith)
  rises_by p (suc k) lt =
      let old = rises_by p k (omega arith) in
      let step = not_less (started_at new (p + k + 1)) (started_at new (p + k)) (sorted (p + k) (omega arith)) in
      let next : p + suc k ≡ p + k + 1 = omega arith in
      rw next (omega arith)

  pub by_start : AreByStart work start new
  by_start = record {
    long = length_permutation old new moved ∙ length-map-range_with_len (started_of start) 1 work.count;
    each = each_there;
    only = only_there;
    once = once_there;
    rising = λ p q le lt.
        let at : p + (q - p) ≡ q = omega arith in
        subst (λ n. (started_at new p).start ≤ (started_at new n).start) at (rises_by p (q - p) (omega arith));
  }

-- the messages below n are all, sorted
not_less_number : (i : ℕ) → started_less (started_of (λ m. m) (i + 2)) (started_of (λ m. m) (i + 1)) ≡ false
not_less_number i = sym (ap is_lt (nat_cmp_is (i + 2) (i + 1) Greater (omega arith)))

pub sorted_by_start : (work : Work) (start : ℕ → ℕ) (n : ℕ) (old new : List Started) → n ≡ work.count + 1 → old ≡ map (started_of start) (range_with_len 1 (n - 1))
    → IsPermutation old new → ((i : ℕ) → i + 1 < length new → started_less (started_at new (i + 1)) (started_at new i) ≡ false) → AreByStart work start new
sorted_by_start work start n old new all so_far moved sorted =
    let count : n - 1 ≡ work.count = omega (arith, all) in
    by_start work start new (subst (λ xs. IsPermutation xs new) (so_far ∙ ap (λ k. map (started_of start) (range_with_len 1 k)) count) moved) sorted

-- the messages by number are sorted as they stand
pub numbers_by_start : (work : Work) (n : ℕ) (old : List Started) → n ≡ work.count + 1 → old ≡ map (started_of (λ m. m)) (range_with_len 1 (n - 1))
    → AreByStart work (λ m. m) old
numbers_by_start work n old all is =
    sorted_by_start work (λ m. m) n old old all is (IsPermutation-refl old)
    (rw is (λ i less.
    let short : i + 1 < n - 1 = omega (arith, less, length-map-range_with_len (started_of (λ m. m)) 1 (n - 1)) in
    let one = get_or-map-range_with_len (started_of (λ m. m)) 1 (n - 1) i (i + 1) (record { start = 0; number = 0 }) (omega (arith, short)) (omega arith) in
    let next = get_or-map-range_with_len (started_of (λ m. m)) 1 (n - 1) (i + 1) (i + 2) (record { start = 0; number = 0 }) short (omega arith) in
    rw (one, next) (not_less_number i)))
