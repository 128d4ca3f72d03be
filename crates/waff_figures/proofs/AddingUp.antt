-- The costs of the affinities and of none add up; costs below an affinity, by messages and by affinities.
use Rattle.std.proofs.Common.{◌≡◌, ℕ, zero, suc, ◌+◌, ◌-◌, ◌<◌, ◌↔◌, inl, inr, Bool, IsTrue, true, false, cond, nat_lt, List, length, get_or, Option, Some, None, sum_by, unwrap_or, arith, refl, sym, ◌∙◌, ap, subst}
use Rattle.std.specs.List.{range_with_len}
use Rattle.std.proofs.lemmas.Bool.{cases_lt, false≢true}
use Rattle.std.proofs.lemmas.Bool.Decides.{nat_tests, same_from_decides}
use Rattle.std.proofs.lemmas.List.{get_or_past}
use Rattle.std.proofs.lemmas.List.Sums.{sum_by-cons, sum_by_push}
use Rattle.std.proofs.lemmas.Option.{none-some}
use Rattle.waff_model.specs.Tree.{Node, AtOrAbove}
use Rattle.waff_assign.specs.Held.{AreKnown, Held, nothing}
use Rattle.waff_assign.specs.Order.{affinity_of}
use Rattle.waff_plan.specs.Work.{Work, IsNumber, numbers}
use Rattle.waff_plan.proofs.Longest.{range_with_len_more}
use Rattle.waff_figures.specs.Below.{IsSumBelow}
use Rattle.waff_figures.specs.ByAffinity.{IsCostBelow, affinity_number, affinity_numbers, runs_in}
use Rattle.waff_figures.specs.Laws.{ChainAddsUp, CostsAddUp, MessagesAddUp}
use Rattle.waff_figures.specs.Tally.{cost_among}
use Rattle.waff_figures.proofs.SumLemmas.{sum_of_parts, sum_same}

-- the affinity of each message is one of the tree's, if it has one
pub affinity_within : (tree : List Node) (assigned : List Held) → AreKnown tree assigned → (m a : ℕ) → affinity_of assigned m ≡ Some a
    → a < length tree
affinity_within tree assigned known m a is = elim (cases_lt (m - 1) (length assigned)) [
  | inl inside ↦ (known (m - 1) nothing inside).affinity a is
  | inr past ↦ absurd (none-some a (sym (ap (λ (h : Held). h.affinity) (get_or_past assigned (m - 1) nothing past)) ∙ is))
]

-- and so its number is one of those
pub number_of_some : (affinity : Option ℕ) (n : ℕ) → ((a : ℕ) → affinity ≡ Some a → a < n) → unwrap_or affinity n < n + 1
number_of_some None n within = omega arith
number_of_some (Some a) n within = omega (arith, within a refl)

pub number_within : (tree : List Node) (assigned : List Held) → AreKnown tree assigned → (m : ℕ) → affinity_number tree assigned m < length tree + 1
number_within tree assigned known m =
    number_of_some (affinity_of assigned m) (length tree) (affinity_within tree assigned known m)

-- of numbers up to that of none, those of affinities that are meant
abbrev meant_below : ℕ → (ℕ → Bool) → ℕ → Bool
meant_below n is_meant c = cond (nat_lt c n) (is_meant c) false

meant_is : (n : ℕ) (is_meant : ℕ → Bool) (c : ℕ) → c < n → meant_below n is_meant c ≡ is_meant c
meant_is n is_meant c low = let pass : nat_lt c n ≡ true = grind (arith, nat_tests, low) in ap (λ b. cond b (is_meant c) false) pass

meant_none : (n : ℕ) (is_meant : ℕ → Bool) → meant_below n is_meant n ≡ false
meant_none n is_meant = let fails : nat_lt n n ≡ false = grind (arith, nat_tests) in ap (λ b. cond b (is_meant n) false) fails

meant_tells : (affinity : Option ℕ) (n : ℕ) (is_meant : ℕ → Bool) (P : ℕ → Type 0) → ((a : ℕ) → affinity ≡ Some a → a < n)
    → ((a : ℕ) → a < n → IsTrue (is_meant a) ↔ P a) → IsTrue (meant_below n is_meant (unwrap_or affinity n)) ↔ ((b : ℕ) × (affinity ≡ Some b) × P b)
meant_tells None n is_meant P within tells = (
  λ pass. absurd (false≢true (subst IsTrue (meant_none n is_meant) pass)),
  λ has. absurd (none-some has.0 has.1),
)
meant_tells (Some a) n is_meant P within tells =
    let low : a < n = within a refl in
    let same = meant_is n is_meant a low in (
      λ pass. (a, refl, (tells a low).0 (subst IsTrue same pass)),
      λ has. subst IsTrue (sym same) ((tells a low).1 (subst P (sym (ap (λ o. unwrap_or o 0) has.1)) has.2)),
    )

-- a sum with one term more
sum_more : (f : ℕ → ℕ) (n : ℕ) → sum_by f (range_with_len 0 (n + 1)) ≡ sum_by f (range_with_len 0 n) + f n
sum_more f n = ap (sum_by f) (range_with_len_more 0 n n (omega arith)) ∙ sum_by_push f (range_with_len 0 n) n

module _ (tree : List Node) (assigned : List Held) (work : Work) (known : AreKnown tree assigned) where
  -- over all affinities and none
  pub all_parts : (messages : List ℕ) → sum_by (λ a. cost_among work (runs_in tree assigned a) messages) (affinity_numbers tree) ≡ sum_by work.cost messages
  all_parts messages =
      sum_of_parts (affinity_number tree assigned) work.cost (λ c. true) (length tree + 1) (number_within tree assigned known) messages

  -- over the affinities at or below one
  pub below_by_messages : (numbers_at : List ℕ) → length numbers_at ≡ length tree
      → ((a : ℕ) → a < length tree → get_or numbers_at a 0 ≡ cost_among work (runs_in tree assigned a) (numbers work))
      → (a sum : ℕ) → IsSumBelow tree numbers_at a sum → IsCostBelow tree assigned work a sum
  below_by_messages numbers_at long are a sum below =
      let n = length tree in
      let meant : ℕ → Bool = meant_below n below.is_below in
      let term : ℕ → ℕ = λ c. cond (meant c) (cost_among work (runs_in tree assigned c) (numbers work)) 0 in
      let last : term n ≡ 0
      = ap (λ b. cond b (cost_among work (runs_in tree assigned n) (numbers work)) 0) (meant_none n below.is_below) in
      let more : sum_by term (range_with_len 0 (n + 1)) ≡ sum_by term (range_with_len 0 n) = omega (arith, sum_more term n, last) in
      record {
        is_below = λ m. meant (affinity_number tree assigned m);
        tells = λ m number.
            meant_tells (affinity_of assigned m) n below.is_below (AtOrAbove tree a) (affinity_within tree assigned known m)
            (λ c low. below.tells c (omega (arith, low, long)));
        sum = below.sum_is
            ∙ ap (λ k. sum_by (λ c. cond (below.is_below c) (get_or numbers_at c 0) 0) (range_with_len 0 k)) long
            ∙ sum_same (λ c. cond (below.is_below c) (get_or numbers_at c 0) 0) term 0 n
            (λ c from to.
            let low : c < n = omega (arith, to) in
            ap (λ x. cond (below.is_below c) x 0) (are c low)
            ∙ ap (λ b. cond b (cost_among work (runs_in tree assigned c) (numbers work)) 0) (sym (meant_is n below.is_below c low)))
            ∙ sym more
            ∙ sum_of_parts (affinity_number tree assigned) work.cost meant (n + 1) (number_within tree assigned known) (numbers work);
      }

pub sum_of_ones : (a n : ℕ) → sum_by (λ m. 1) (range_with_len a n) ≡ n
sum_of_ones a zero = refl
sum_of_ones a (suc n) = omega (arith, sum_of_ones (a + 1) n, sum_by-cons (λ m. 1) a (range_with_len (a + 1) n))

pub messages_add_up : (tree : List Node) (assigned : List Held) (work : Work) (chain : List ℕ) → AreKnown tree assigned
    → MessagesAddUp tree assigned work chain
messages_add_up tree assigned work chain known =
    sum_of_parts (affinity_number tree assigned) (λ m. 1) (λ c. true) (length tree + 1) (number_within tree assigned known) (numbers work)
    ∙ sum_of_ones 1 work.count

pub costs_add_up : (tree : List Node) (assigned : List Held) (work : Work) (chain : List ℕ) → AreKnown tree assigned
    → CostsAddUp tree assigned work chain
costs_add_up tree assigned work chain known = all_parts tree assigned work known (numbers work)

pub chain_adds_up : (tree : List Node) (assigned : List Held) (work : Work) (chain : List ℕ) → AreKnown tree assigned
    → ChainAddsUp tree assigned work chain
chain_adds_up tree assigned work chain known = all_parts tree assigned work known chain

-- the cost below an affinity is one
pub cost_below_is_one : (tree : List Node) (assigned : List Held) (work : Work) (a one other : ℕ) → IsCostBelow tree assigned work a one
    → IsCostBelow tree assigned work a other → one ≡ other
cost_below_is_one tree assigned work a one other first second =
    first.sum
    ∙ sum_same (λ m. cond (first.is_below m) (work.cost m) 0) (λ m. cond (second.is_below m) (work.cost m) 0) 1 work.count
    (λ m from to.
    let number : IsNumber work m = record { from = from; to = omega (arith, to) } in
    ap (λ b. cond b (work.cost m) 0) (same_from_decides (first.is_below m) (second.is_below m) (first.tells m number) (second.tells m number)))
    ∙ sym second.sum
