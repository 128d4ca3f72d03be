-- The order of starts: a message starts before those that await it, and what starts first goes forward in it.
use Rattle.std.proofs.Common.{◌≡◌, ◌≢◌, ℕ, ◌<◌, ◌≤◌, ◌↔◌, ◌⊎◌, inl, inr, List, length, arith, ap}
use Rattle.std.proofs.lemmas.Bool.{cases_lt, cases_order}
use Rattle.waff_model.specs.Tree.{Node}
use Rattle.waff_assign.specs.Held.{ExcludeEachOther, Held}
use Rattle.waff_assign.specs.Order.{IsOrdered, Relation, held_of}
use Rattle.waff_plan.specs.Apart.{AreApart}
use Rattle.waff_plan.specs.Issues.{IsServedBefore}
use Rattle.waff_plan.specs.Obeys.{EachRuns, AwaitsEarlier, IsAmong, IsForward, IsLeast, IsLinked, Obeys, StartsIssued}
use Rattle.waff_plan.specs.ServesAs.{ObeysApart, ServesAs}
use Rattle.waff_plan.specs.Serving.{IsStartedBefore}
use Rattle.waff_plan.specs.Work.{Work, IsAmongFirst, IsAwaited, IsNumber, finish_of}
use Rattle.waff_plan.proofs.ApartLaws.{apart_where_finished, together_where_running, turned}
use Rattle.waff_plan.proofs.Exclusion.{excludes_back}
use Rattle.waff_plan.proofs.Holding.{awaited-le-issue}
use Rattle.waff_plan.proofs.IssueOrder.{one_is_issued_first}
use Rattle.waff_plan.proofs.Orders.{precedes_forward}

-- a least plan is least by another order that tells the same
pub least_again : (before other : Relation) (work : Work) (start : ℕ → ℕ) → ((i j : ℕ) → before i j → other i j) → ((i j : ℕ) → other i j → before i j)
    → IsLeast before work start → IsLeast other work start
least_again before other work start to from least = record {
  obeys = record { issued = least.obeys.issued; ordered = λ i j pair. least.obeys.ordered i j (from i j pair) };
  least = λ plan obeys m number. least.least plan (record { issued = obeys.issued; ordered = λ i j pair. obeys.ordered i j (to i j pair) }) m number;
}

module _ (tree : List Node) (assigned : List Held) (work : Work) (same : length assigned ≡ work.count) (runs : EachRuns work) where
  number_of : (m : ℕ) → IsAmongFirst (length assigned) m → IsNumber work m
  number_of m among = record { from = among.from; to = omega (arith, among.to, same) }

  -- of two messages one of which is among the first, where those run apart from all, the one that starts no later has finished when the
  -- other starts
  pub apart_finish_among : (start : ℕ → ℕ) (count : ℕ) → AreApart (IsAmong count (IsOrdered tree assigned)) work start → (i j : ℕ) → i ≢ j
      → IsAmongFirst (length assigned) i → IsAmongFirst (length assigned) j → (i ≤ count) ⊎ (j ≤ count)
      → ExcludeEachOther tree (held_of assigned i) (held_of assigned j) → start i ≤ start j → finish_of work start i ≤ start j
  apart_finish_among start count apart i j other first second among excludes sooner = elim (cases_lt (start j) (finish_of work start i)) [
    | inl early ↦
        let together = together_where_running work start i j sooner early (omega (arith, runs j (number_of j second))) in
        elim (cases_order i j) [
          | inl one ↦ absurd (other one)
          | inr (inl less) ↦
              absurd (apart i j (record {
                ordered = record {
                  ordered = record { from = first.from; earlier = less; to = second.to; excludes = excludes };
                  within = elim among [ inl one ↦ one | inr also ↦ (omega (arith, also, less)) ];
                };
                together = together;
              }))
          | inr (inr more) ↦
              absurd (apart j i (record {
                ordered = record {
                  ordered = record { from = second.from; earlier = more; to = first.to; excludes = excludes_back tree (held_of assigned i) (held_of assigned j) excludes };
                  within = elim among [ inl one ↦ (omega (arith, one, more)) | inr also ↦ also ];
                };
                together = turned work start i j together;
              }))
        ]
    | inr done ↦ done
  ]

  pub apart_finish : (start : ℕ → ℕ) → AreApart (IsOrdered tree assigned) work start → (i j : ℕ) → i ≢ j → IsAmongFirst (length assigned) i
      → IsAmongFirst (length assigned) j → ExcludeEachOther tree (held_of assigned i) (held_of assigned j) → start i ≤ start j → finish_of work start i ≤ start j
  apart_finish start apart i j other first second excludes sooner =
      apart_finish_among start (length assigned) (λ i j pair. apart i j (record { ordered = pair.ordered.ordered; together = pair.together })) i j other first second
      (inl first.to) excludes sooner

  apart_started : (start : ℕ → ℕ) → AreApart (IsOrdered tree assigned) work start → (i j : ℕ) → IsStartedBefore tree assigned start i j
      → finish_of work start i ≤ start j
  apart_started start apart i j before =
      apart_finish start apart i j (λ one. omega (arith, before.precedes, ap start one)) before.first before.second before.excludes (omega (arith, before.precedes))

  -- a plan that obeys in whatever order obeys that in which it starts messages
  pub apart_obeys : (start : ℕ → ℕ) → ObeysApart tree assigned work start → Obeys (IsStartedBefore tree assigned start) work start
  apart_obeys start obeys = record { issued = obeys.issued; ordered = apart_started start obeys.apart }

  -- a plan that serves as another obeys the order in which that one starts messages
  pub serving_obeys : (start other : ℕ → ℕ) → ServesAs tree assigned work start other → Obeys (IsStartedBefore tree assigned start) work other
  serving_obeys start other serves = record {
    issued = serves.other_obeys.issued;
    ordered = λ i j before.
        apart_started other serves.other_obeys.apart i j (record {
          first = before.first;
          second = before.second;
          precedes = sooner i j before;
          excludes = before.excludes;
        });
  }
    where
      sooner : (i j : ℕ) → IsStartedBefore tree assigned start i j → other i < other j
      sooner i j before = elim (cases_order i j) [
        | inl one ↦ absurd (omega (arith, before.precedes, ap start one))
        | inr (inl less) ↦
            (serves.same i j (record { from = before.first.from; earlier = less; to = before.second.to; excludes = before.excludes })).0 before.precedes
        | inr (inr more) ↦ elim (cases_lt (other i) (other j)) [
          | inl less ↦ less
          | inr late ↦
              let excludes = excludes_back tree (held_of assigned i) (held_of assigned j) before.excludes in
              let done = apart_finish other serves.other_obeys.apart j i (λ one. omega (arith, more, one)) before.second before.first excludes late in
              let first : other j < other i = omega (arith, done, runs j (number_of j before.second)) in
              let turned_first = (serves.same j i (record { from = before.second.from; earlier = more; to = before.first.to; excludes = excludes })).1 first in
              absurd (omega (arith, turned_first, before.precedes))
        ]
      ]

  -- a plan that obeys the order in which it issues messages runs them apart
  pub served_apart : (start : ℕ → ℕ) → Obeys (IsServedBefore tree assigned work start) work start → AreApart (IsOrdered tree assigned) work start
  served_apart start obeys i j pair =
      let ordered = pair.ordered in
      let first : IsNumber work i = record { from = ordered.from; to = omega (arith, ordered.earlier, ordered.to, same) } in
      let second : IsNumber work j = record { from = omega (arith, ordered.from, ordered.earlier); to = omega (arith, ordered.to, same) } in
      elim (one_is_issued_first work start i j) [
        | inl one ↦ omega (arith, ordered.earlier, one)
        | inr (inl issued) ↦
            apart_where_finished work start i j (obeys.ordered i j (record { first = first; second = second; precedes = issued; excludes = ordered.excludes })) pair.together
        | inr (inr issued) ↦
            apart_where_finished work start j i
            (obeys.ordered j i (record {
              first = second;
              second = first;
              precedes = issued;
              excludes = excludes_back tree (held_of assigned i) (held_of assigned j) ordered.excludes;
            })) (turned work start i j pair.together)
      ]

  -- and starts first what it issues first
  pub served_starts : (start : ℕ → ℕ) → Obeys (IsServedBefore tree assigned work start) work start → (i j : ℕ)
      → IsServedBefore tree assigned work start i j ↔ IsStartedBefore tree assigned start i j
  served_starts start obeys i j = (
    λ served. record {
      first = record { from = served.first.from; to = omega (arith, served.first.to, same) };
      second = record { from = served.second.from; to = omega (arith, served.second.to, same) };
      precedes = omega (arith, obeys.ordered i j served, runs i served.first);
      excludes = served.excludes;
    },
    λ before.
        let first = number_of i before.first in
        let second = number_of j before.second in
        record {
          first = first;
          second = second;
          precedes = elim (one_is_issued_first work start i j) [
            | inl one ↦ absurd (omega (arith, before.precedes, ap start one))
            | inr (inl issued) ↦ issued
            | inr (inr issued) ↦
                let late = obeys.ordered j i (record {
                  first = second;
                  second = first;
                  precedes = issued;
                  excludes = excludes_back tree (held_of assigned i) (held_of assigned j) before.excludes;
                }) in
                absurd (omega (arith, late, before.precedes, runs j second))
          ];
          excludes = before.excludes;
        },
  )

  module _ (start : ℕ → ℕ) (issued : StartsIssued work start) (follows : AwaitsEarlier work) where
    -- along a client starts rise
    pub start_rises : (i m : ℕ) → IsAwaited (work.awaits m) i → start i < start m
    start_rises i m follow =
        let earlier = follows i m follow in
        let first : IsNumber work i = record { from = earlier.from; to = omega (arith, earlier.earlier, earlier.to) } in
        let second : IsNumber work m = record { from = omega (arith, earlier.from, earlier.earlier); to = earlier.to } in
        omega (arith, awaited-le-issue work start i m follow, issued m second, runs i first)

    pub started_first : (i m : ℕ) → IsLinked (IsStartedBefore tree assigned start) work i m → start i < start m
    started_first i m (inl before) = before.precedes
    started_first i m (inr follow) = start_rises i m follow

    -- what starts first goes forward
    pub IsStartedBefore_forward : IsForward (IsStartedBefore tree assigned start) work
    IsStartedBefore_forward =
        precedes_forward tree assigned work (length assigned) same (λ i j. start i < start j) start (λ i j sooner. inl sooner) follows
        (λ i m follow. inl (start_rises i m follow))
