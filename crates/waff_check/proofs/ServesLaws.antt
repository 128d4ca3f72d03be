-- The plans that serve as an obeying plan does are those that obey its order.
use Rattle.std.proofs.Common.{◌↔◌, ◌⊎◌, ℕ, ◌<◌, ◌≤◌, inl, inr, List, length, arith}
use Rattle.std.proofs.lemmas.Bool.{cases_lt, cases_order}
use Rattle.waff_model.specs.Tree.{Node}
use Rattle.waff_model.specs.declared.message.Version.{Version}
use Rattle.waff_model.specs.declared.message.Version.TheVariants.{V1, V2, V3, V4}
use Rattle.waff_assign.specs.Order.{IsOrdered, held_of}
use Rattle.waff_plan.specs.Apart.{AreApart}
use Rattle.waff_plan.specs.Obeys.{KeepsOrder, Obeys}
use Rattle.waff_plan.specs.ServesAs.{ServesAs}
use Rattle.waff_plan.specs.Serving.{IsStartedBefore, started_before}
use Rattle.waff_plan.specs.Work.{IsAmongFirst, Work, finish_of}
use Rattle.waff_plan.proofs.ApartLaws.{apart_where_finished, together_where_running, turned}
use Rattle.waff_plan.proofs.Exclusion.{excludes_back}
use Rattle.waff_check.proofs.ServedLaws.{AllRun}
use Rattle.waff_assign.specs.Held.{Held}

first_of : (tree : List Node) (assigned : List Held) (i j : ℕ) → IsOrdered tree assigned i j → IsAmongFirst (length assigned) i
first_of tree assigned i j pair =
    let from : 1 ≤ i = pair.from in
    let earlier : i < j = pair.earlier in
    let to : j ≤ length assigned = pair.to in
    record { from = from; to = omega arith }

second_of : (tree : List Node) (assigned : List Held) (i j : ℕ) → IsOrdered tree assigned i j → IsAmongFirst (length assigned) j
second_of tree assigned i j pair =
    let from : 1 ≤ i = pair.from in
    let earlier : i < j = pair.earlier in
    let to : j ≤ length assigned = pair.to in
    record { from = omega arith; to = to }

module _ (tree : List Node) (assigned : List Held) (work : Work) (start : ℕ → ℕ) (run : AllRun work assigned) where
  -- of two messages that exclude each other one starts first
  one_starts : AreApart (IsOrdered tree assigned) work start → (i j : ℕ) → IsOrdered tree assigned i j → (start i < start j) ⊎ (start j < start i)
  one_starts apart i j pair = elim (cases_order (start i) (start j)) [
    | inl same ↦
        let one : 1 ≤ work.cost i = run i (first_of tree assigned i j pair) in
        let two : 1 ≤ work.cost j = run j (second_of tree assigned i j pair) in
        absurd (apart i j (record {
          ordered = pair;
          together = together_where_running work start i j (omega (arith, same)) (omega (arith, same, one)) (omega (arith, two));
        }))
    | inr one ↦ one
  ]

  -- what is before another message starts first
  rises : (version : Version) → KeepsOrder (started_before version tree assigned start) work start → (i j : ℕ) → started_before version tree assigned start i j
      → start i < start j
  rises V1 order i j pair =
      let one : 1 ≤ work.cost i = run i (first_of tree assigned i j pair) in omega (arith, one, order i j pair)
  rises V2 order i j pair =
      let one : 1 ≤ work.cost i = run i (first_of tree assigned i j pair) in omega (arith, one, order i j pair)
  rises V3 order i j before = before.precedes
  rises V4 order i j before = before.precedes

  -- by their starts one is before the other
  one_first : AreApart (IsOrdered tree assigned) work start → (i j : ℕ) → IsOrdered tree assigned i j
      → IsStartedBefore tree assigned start i j ⊎ IsStartedBefore tree assigned start j i
  one_first apart i j pair = elim (one_starts apart i j pair) [
    | inl less ↦ inl (record { first = first_of tree assigned i j pair; second = second_of tree assigned i j pair; precedes = less; excludes = pair.excludes })
    | inr more ↦ inr (record {
      first = second_of tree assigned i j pair;
      second = first_of tree assigned i j pair;
      precedes = more;
      excludes = excludes_back tree (held_of assigned i) (held_of assigned j) pair.excludes;
    })
  ]

  -- of two messages that exclude each other one is before the other
  one_before : (version : Version) → AreApart (IsOrdered tree assigned) work start → (i j : ℕ) → IsOrdered tree assigned i j
      → started_before version tree assigned start i j ⊎ started_before version tree assigned start j i
  one_before V1 apart i j pair = inl pair
  one_before V2 apart i j pair = inl pair
  one_before V3 apart i j pair = one_first apart i j pair
  one_before V4 apart i j pair = one_first apart i j pair

  -- what starts before another message that it excludes
  started_pair : (i j : ℕ) → IsStartedBefore tree assigned start i j → IsOrdered tree assigned i j ⊎ IsOrdered tree assigned j i
  started_pair i j before = elim (cases_order i j) [
    | inl same ↦ absurd (let later : start i < start j = before.precedes in let none : start j < start j = rw same at later in omega (arith, none))
    | inr (inl less) ↦ inl (record { from = before.first.from; earlier = less; to = before.second.to; excludes = before.excludes })
    | inr (inr more) ↦ inr (record {
      from = before.second.from;
      earlier = more;
      to = before.first.to;
      excludes = excludes_back tree (held_of assigned i) (held_of assigned j) before.excludes;
    })
  ]

  -- what is before another message excludes it
  a_pair : (version : Version) (i j : ℕ) → started_before version tree assigned start i j → IsOrdered tree assigned i j ⊎ IsOrdered tree assigned j i
  a_pair V1 i j pair = inl pair
  a_pair V2 i j pair = inl pair
  a_pair V3 i j before = started_pair i j before
  a_pair V4 i j before = started_pair i j before

  module _ (version : Version) (obeys : Obeys (started_before version tree assigned start) work start) (apart : AreApart (IsOrdered tree assigned) work start) where
    -- a plan that obeys the order keeps messages apart that exclude each other
    other_apart : (other : ℕ → ℕ) → Obeys (started_before version tree assigned start) work other → AreApart (IsOrdered tree assigned) work other
    other_apart other o i j pair = elim (one_before version apart i j pair.ordered) [
      | inl before ↦ apart_where_finished work other i j (o.ordered i j before) pair.together
      | inr after ↦ apart_where_finished work other j i (o.ordered j i after) (turned work other i j pair.together)
    ]

    -- and starts them in the same order
    same_order : (other : ℕ → ℕ) → Obeys (started_before version tree assigned start) work other → (i j : ℕ) → IsOrdered tree assigned i j
        → (start i < start j) ↔ (other i < other j)
    same_order other o i j pair =
        let one : 1 ≤ work.cost i = run i (first_of tree assigned i j pair) in
        let two : 1 ≤ work.cost j = run j (second_of tree assigned i j pair) in
        elim (one_before version apart i j pair) [
          | inl before ↦ (λ less. omega (arith, one, o.ordered i j before), λ less. rises version obeys.ordered i j before)
          | inr after ↦ (
            let begun : start j < start i = rises version obeys.ordered j i after in λ less. absurd (omega (arith, begun, less)),
            λ less. absurd (omega (arith, two, less, o.ordered j i after)),
          )
        ]

    -- a plan that serves so obeys the order
    in_order : (other : ℕ → ℕ) → ServesAs tree assigned work start other → KeepsOrder (started_before version tree assigned start) work other
    in_order other serves i j before =
        let begun : start i < start j = rises version obeys.ordered i j before in
        elim (cases_lt (other j) (finish_of work other i)) [
          | inl early ↦ elim (a_pair version i j before) [
            | inl pair ↦
                let soon : other i < other j = (serves.same i j pair).0 begun in
                let two : 1 ≤ work.cost j = run j (second_of tree assigned i j pair) in
                absurd (serves.other_obeys.apart i j (record {
                  ordered = pair;
                  together = together_where_running work other i j (omega (arith, soon)) early (omega (arith, two));
                }))
            | inr pair ↦
                let two : 1 ≤ work.cost j = run j (first_of tree assigned j i pair) in
                elim (cases_lt (other j) (other i)) [
                  | inl less ↦ (let turned_round : start j < start i = (serves.same j i pair).1 less in absurd (omega (arith, begun, turned_round)))
                  | inr soon ↦ absurd (serves.other_obeys.apart j i (record {
                    ordered = pair;
                    together = turned work other i j (together_where_running work other i j soon early (omega (arith, two)));
                  }))
                ]
          ]
          | inr late ↦ late
        ]

    pub serves_where_obeys : (other : ℕ → ℕ) → ServesAs tree assigned work start other ↔ Obeys (started_before version tree assigned start) work other
    serves_where_obeys other = (
      λ serves. record { issued = serves.other_obeys.issued; ordered = in_order other serves },
      λ o. record {
        obeys = record { issued = obeys.issued; apart = apart };
        other_obeys = record { issued = o.issued; apart = other_apart other o };
        same = same_order other o;
      },
    )
