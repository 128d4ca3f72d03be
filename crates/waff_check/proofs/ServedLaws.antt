-- What a plan serves before what, by the version of its trace, and pairs that overlap.
use Rattle.std.proofs.Common.{◌≡◌, ◌≢◌, ℕ, ◌-◌, ◌<◌, ◌≤◌, inl, inr, List, [], ◌∷◌, length, arith, refl, ◌∙◌, ap}
use Rattle.std.proofs.lemmas.Bool.{cases_lt, cases_order}
use Rattle.waff_model.specs.Messages.{Arrivals, IsTrace}
use Rattle.waff_model.specs.Tree.{Node}
use Rattle.waff_model.specs.Versions.{has_clients}
use Rattle.waff_model.specs.declared.message.Version.{Version}
use Rattle.waff_model.specs.declared.message.Version.TheVariants.{V1, V2, V3, V4}
use Rattle.waff_assign.specs.Order.{IsOrdered, Relation, held_of}
use Rattle.waff_plan.specs.Apart.{AreApart}
use Rattle.waff_plan.specs.IssueLaws.{StartsIssued}
use Rattle.waff_plan.specs.Obeys.{KeepsOrder}
use Rattle.waff_plan.specs.Serving.{IsStartedBefore, started_before}
use Rattle.waff_plan.specs.Timetable.{timings_of, work_of_messages}
use Rattle.waff_plan.specs.Timing.{await_of, no_timing}
use Rattle.waff_plan.specs.Work.{IsAmongFirst, Work, finish_of, gap_after}
use Rattle.waff_plan.proofs.ApartLaws.{apart_where_finished, together_where_running, turned}
use Rattle.waff_plan.proofs.Exclusion.{excludes_back}
use Rattle.waff_plan.proofs.FollowLemmas.{awaits_one}
use Rattle.waff_plan.proofs.Holding.{floor-le-issue, gap_same}
use Rattle.waff_plan.proofs.TimingLemmas.{are_timings, length-timings_of}
use Rattle.waff_check.specs.Faults.{NoneOf, Overlaps, OverlapsWhere, StartsEarly}
use Rattle.waff_assign.specs.Held.{Held}

-- each message runs at a tick
abbrev pub AllRun : Work → List Held → Type 0
AllRun work assigned = (m : ℕ) → IsAmongFirst (length assigned) m → 1 ≤ work.cost m

-- no pair overlaps
abbrev pub NoneOverlap : Version → Relation → Work → (ℕ → ℕ) → Type 0
NoneOverlap version before work start = (i j : ℕ) → OverlapsWhere (has_clients version) before work start i j → ⊥

module _ (tree : List Node) (assigned : List Held) (work : Work) (start : ℕ → ℕ) where
  in_order : ((i j : ℕ) → Overlaps (IsOrdered tree assigned) work start i j → ⊥) → KeepsOrder (IsOrdered tree assigned) work start
  in_order none i j pair = elim (cases_lt (start j) (finish_of work start i)) [
    | inl early ↦ absurd (none i j (record { ordered = pair; early = early }))
    | inr late ↦ late
  ]

  -- what is apart is served in the order of starts
  pub served_apart : AllRun work assigned → AreApart (IsOrdered tree assigned) work start → KeepsOrder (IsStartedBefore tree assigned start) work start
  served_apart run apart i j before = elim (cases_lt (start j) (finish_of work start i)) [
    | inl early ↦
        let soon : start i ≤ start j = omega (arith, before.precedes) in
        let together = together_where_running work start i j soon early (omega (arith, run j before.second)) in
        elim (cases_order i j) [
          | inl same ↦ absurd (let later : start i < start j = before.precedes in let none : start j < start j = rw same at later in omega (arith, none))
          | inr (inl less) ↦ absurd (apart i j (record { ordered = record { from = before.first.from; earlier = less; to = before.second.to; excludes = before.excludes }; together = together }))
          | inr (inr more) ↦ absurd (apart j i (record {
            ordered = record { from = before.second.from; earlier = more; to = before.first.to; excludes = excludes_back tree (held_of assigned i) (held_of assigned j) before.excludes };
            together = turned work start i j together;
          }))
        ]
    | inr late ↦ late
  ]

  pub order_is_kept : (version : Version) → AllRun work assigned → NoneOverlap version (IsOrdered tree assigned) work start
      → KeepsOrder (started_before version tree assigned start) work start
  order_is_kept V1 run none = in_order none
  order_is_kept V2 run none = in_order none
  order_is_kept V3 run none = served_apart run none
  order_is_kept V4 run none = served_apart run none

  ordered_apart : KeepsOrder (IsOrdered tree assigned) work start → AreApart (IsOrdered tree assigned) work start
  ordered_apart order i j pair = apart_where_finished work start i j (order i j pair.ordered) pair.together

  pub none_together : (version : Version) → NoneOverlap version (IsOrdered tree assigned) work start → AreApart (IsOrdered tree assigned) work start
  none_together V1 none = ordered_apart (in_order none)
  none_together V2 none = ordered_apart (in_order none)
  none_together V3 none = none
  none_together V4 none = none

-- a message that is issued when it starts is not early
pub none_early : (work : Work) (start : ℕ → ℕ) → StartsIssued work start → NoneOf (StartsEarly work start)
none_early work start issued m early = omega (arith, floor-le-issue (λ i j. ⊥) work start m, issued m early.number, early.early)

-- the gap after the message that another follows is the think time
pub gap_after_one : (n think : ℕ) → n ≢ 0 → gap_after n (await_of n think) ≡ think
gap_after_one n think some = ap (gap_after n) (awaits_one n think some) ∙ alone
  where
    alone : gap_after n (record { message = n; gap = think } ∷ []) ≡ think
    alone = omega (arith, gap_same (record { message = n; gap = think }) n refl)

-- in a trace each message runs at a tick
pub all_run : (trace : Arrivals) → IsTrace trace → (assigned : List Held) → length trace.messages ≡ length assigned → AllRun (work_of_messages trace.messages) assigned
all_run trace is assigned long m number =
    let within : m - 1 < length (timings_of trace.messages) = omega (arith, number.from, number.to, long, length-timings_of trace.messages) in
    ((are_timings trace is).small (m - 1) no_timing within).some_cost
