-- Graham's argument: at each tick from the release of the first message of the printed chain to the length either k messages run, or a
-- message of the chain does, but in the gaps between two messages of the chain.
use Rattle.std.proofs.Common.{◌≡◌, ℕ, zero, suc, ◌+◌, ◌-◌, ◌*◌, ◌<◌, ◌≤◌, ◌⊎◌, inl, inr, List, [], ◌∷◌, true, sum_by, count_by, Contains, arith, ap, sym, subst, mul-zero, mul-suc}
use Rattle.std.proofs.lemmas.Bool.{cases_lt}
use Rattle.std.proofs.lemmas.List.Sums.{sum_by-le-sum_by}
use Rattle.std.proofs.Math.Nat.{mul-le-mul_left}
use Rattle.waff_assign.specs.Order.{Relation}
use Rattle.waff_plan.specs.Work.{Work, IsNumber, numbers, finish_of, length_of, gap_of, holds_until}
use Rattle.waff_plan.specs.Obeys.{IsForward, IsLinked}
use Rattle.waff_plan.specs.Chain.{LeadsToEnd, gaps_after}
use Rattle.waff_plan.specs.Workers.{runs_at, running}
use Rattle.waff_plan.proofs.Holding.{released, issue-le, finish-le-holds, held_until}
use Rattle.waff_plan.proofs.Longest.{finish_of-le-length_of, length_of-le}
use Rattle.waff_plan.proofs.Ticks.{ticks_below, run_below, run_below-suc}
use Rattle.waff_list.specs.ListRule.{IsReady}
use Rattle.waff_list.specs.Bound.{IsBusyPlan, BusyPlansAreWithinBound}
use Rattle.waff_waits.proofs.TimesLemmas.{count_some as listed_some}
use Rattle.waff_waits.proofs.Each.{contains_first, contains_more}
use Rattle.waff_list.proofs.Pigeonhole.{count_some}
use Rattle.waff_list.proofs.Running.{runs_from}

-- where one message runs at t, the running are at least 1
pub running_one : (work : Work) (start : ℕ → ℕ) (t m : ℕ) → IsNumber work m → runs_at work start t m ≡ true → 1 ≤ running work start t
running_one work start t m number runs = count_some (runs_at work start t) 1 work.count m number.from (omega (arith, number.to)) runs

-- the first message of what leads to the end is a message
leads_from_number : (before : Relation) (work : Work) → IsForward before work → (start : ℕ → ℕ) (m : ℕ) (rest : List ℕ)
    → LeadsToEnd before work start m rest → IsNumber work m
leads_from_number before work forward start m [] h = h.one
leads_from_number before work forward start m (next ∷ rest) h = forward.first m next h.0.one

-- at t either k messages run, or a message of the list does
abbrev pub IsUsed : Work → (ℕ → ℕ) → ℕ → ℕ → List ℕ → Type 0
IsUsed work start k t chain = (running work start t ≡ k) ⊎ ((1 ≤ running work start t) × (1 ≤ count_by (runs_at work start t) chain))

-- a tick that is used adds at least k to k - 1 times the work of the chain and the work of all
used_adds : (k all more chain chain_more ran : ℕ) → 1 ≤ k → (all + ran ≡ more) → (ran ≡ k) ⊎ ((1 ≤ ran) × (chain + 1 ≤ chain_more)) → chain ≤ chain_more
    → k + all + (k - 1) * chain ≤ more + (k - 1) * chain_more
used_adds k all more chain chain_more ran some step (inl full) grows =
    let part : (k - 1) * chain ≤ (k - 1) * chain_more = mul-le-mul_left (k - 1) grows in
    omega arith
used_adds k all more chain chain_more ran some step (inr (one, longer)) grows =
    let part : (k - 1) * (chain + 1) ≤ (k - 1) * chain_more = mul-le-mul_left (k - 1) longer in
    omega arith

-- no more is done than there is to do
run_below-le-cost : (work : Work) (start : ℕ → ℕ) (t : ℕ) (messages : List ℕ) → run_below work start t messages ≤ sum_by work.cost messages
run_below-le-cost work start t messages =
    sum_by-le-sum_by (λ m. ticks_below (start m) (work.cost m) t) work.cost messages (λ m. omega arith)

-- and no less by a later tick
run_below-later : (work : Work) (start : ℕ → ℕ) (t later : ℕ) (messages : List ℕ) → t ≤ later → run_below work start t messages ≤ run_below work start later messages
run_below-later work start t later messages on =
    sum_by-le-sum_by (λ m. ticks_below (start m) (work.cost m) t) (λ m. ticks_below (start m) (work.cost m) later) messages (λ m. omega arith)

module _ (before : Relation) (work : Work) (forward : IsForward before work) (k : ℕ) (start : ℕ → ℕ) (some : 1 ≤ k)
    (plan : IsBusyPlan before work k start) (chain : List ℕ) where
  -- the work that is done below t, and k - 1 times that of the chain
  abbrev done : ℕ → ℕ
  done t = run_below work start t (numbers work) + (k - 1) * run_below work start t chain

  done-later : (t later : ℕ) → t ≤ later → done t ≤ done later
  done-later t later on =
      let part = mul-le-mul_left (k - 1) (run_below-later work start t later chain on) in
      omega (arith, part, run_below-later work start t later (numbers work) on)

  -- in d used ticks from the tick r on, at least k * d is done
  used_sum : (r d : ℕ) → ((t : ℕ) → r ≤ t → t < r + d → IsUsed work start k t chain) → k * d + done r ≤ done (r + d)
  used_sum r zero used =
      let here : r + 0 ≡ r = omega arith in
      subst (λ t. k * 0 + done r ≤ done t) (sym here) (omega (arith, mul-zero k))
  used_sum r (suc d) used =
      let t = r + d in
      let so_far = used_sum r d (λ t late short. used t late (omega arith)) in
      let all = run_below-suc work start t (numbers work) in
      let more = run_below-suc work start t chain in
      let tick : (running work start t ≡ k) ⊎ ((1 ≤ running work start t) × (run_below work start t chain + 1 ≤ run_below work start (suc t) chain))
      = elim (used t (omega arith) (omega arith)) [ inl full ↦ inl full | inr both ↦ inr (both.0, omega (arith, both.1, more)) ] in
      let adds = used_adds k (run_below work start t (numbers work)) (run_below work start (suc t) (numbers work))
      (run_below work start t chain) (run_below work start (suc t) chain) (running work start t) some (sym all) tick (omega (arith, more)) in
      let next : suc t ≡ r + suc d = omega arith in
      subst (λ t. k * suc d + done r ≤ done t) next (omega (arith, mul-suc k d, so_far, adds))

  -- from a tick on up to which m is held back, each tick is used until m has finished
  used_until_finish : (m s : ℕ) → IsNumber work m → Contains chain m → work.floor m ≤ s
      → ((i : ℕ) → IsLinked before work i m → holds_until work start m i ≤ s)
      → (t : ℕ) → s ≤ t → t < finish_of work start m → IsUsed work start k t chain
  used_until_finish m s number there released held t late unfinished =
      elim (cases_lt t (start m)) [
        | inl waiting ↦
            let ready : IsReady before work start t m = record {
              number = number;
              issued = issue-le before work start m t (omega arith) (λ i linked. omega (arith, held i linked, late));
              free = λ i is_before. omega (arith, finish-le-holds before work start i m, held i (inl is_before), late);
            } in
            inl (plan.busy t m ready waiting)
        | inr started ↦
            let runs = runs_from work start t m started unfinished in
            inr (running_one work start t m number runs, listed_some (runs_at work start t) chain m there runs)
      ]

  -- so at least k ticks of work are done in each tick up to its finish
  until_finish : (m s : ℕ) → IsNumber work m → Contains chain m → s ≤ start m → work.floor m ≤ s
      → ((i : ℕ) → IsLinked before work i m → holds_until work start m i ≤ s)
      → k * (finish_of work start m - s) + done s ≤ done (finish_of work start m)
  until_finish m s number there early released held =
      let d : ℕ = finish_of work start m - s in
      let end : s + d ≡ finish_of work start m = omega arith in
      subst (λ t. k * d + done s ≤ done t) end
      (used_sum s d (λ t late short. used_until_finish m s number there released held t late (omega arith)))

  -- and in each tick up to the length but the gaps of the chain
  leads_done : (m : ℕ) (rest : List ℕ) (s : ℕ) → LeadsToEnd before work start m rest → ((x : ℕ) → Contains (m ∷ rest) x → Contains chain x)
      → s ≤ start m → work.floor m ≤ s → ((i : ℕ) → IsLinked before work i m → holds_until work start m i ≤ s)
      → k * length_of work start + done s ≤ done (length_of work start) + k * (s + gaps_after work m rest)
  leads_done m [] s leads there early released held =
      let until = until_finish m s leads.one (there m (contains_first m [])) early released held in
      let end : finish_of work start m ≡ length_of work start
      = omega (arith, length_of-le work start (finish_of work start m) leads.latest, finish_of-le-length_of work start m leads.one) in
      let within : k * (length_of work start - s) + done s ≤ done (length_of work start) = subst (λ t. k * (t - s) + done s ≤ done t) end until in
      let split : length_of work start ≡ (length_of work start - s) + s = omega (arith, end) in
      let whole : k * length_of work start ≡ k * ((length_of work start - s) + s) = ap (λ n. k * n) split in
      omega (arith, within, whole)
  leads_done m (next ∷ rest) s leads there early released held =
      let linked = leads.0.one in
      let number = forward.first m next linked in
      let next_number = forward.second m next linked in
      let finish : ℕ = finish_of work start m in
      let gap : ℕ = gap_of work m next in
      let until : k * (finish - s) + done s ≤ done finish = until_finish m s number (there m (contains_first m (next ∷ rest))) early released held in
      let after = leads_done next rest (finish + gap) leads.2 (λ x is. there x (contains_more m x (next ∷ rest) is))
      (held_until before work start plan.within.obeys m next next_number linked) (omega (arith, leads.1)) leads.0.latest in
      let on : done finish ≤ done (finish + gap) = done-later finish (finish + gap) (omega arith) in
      let split : finish ≡ (finish - s) + s = omega arith in
      let whole : k * finish ≡ k * ((finish - s) + s) = ap (λ n. k * n) split in
      omega (arith, until, after, on, whole)

pub list_plans_are_within_bound : (before : Relation) (work : Work) → IsForward before work → BusyPlansAreWithinBound before work
list_plans_are_within_bound before work forward k start [] some plan none =
    let bound = length_of-le work start 0 (λ m h. absurd (omega (arith, h.from, h.to, none))) in
    omega (arith, mul-zero k, mul-le-mul_left k bound)
list_plans_are_within_bound before work forward k start (m ∷ rest) some plan printed =
    let chain = m ∷ rest in
    let r = work.floor m in
    let number : IsNumber work m = leads_from_number before work forward start m rest printed.1 in
    let all = leads_done before work forward k start some plan chain m rest r printed.1 (λ x is. is) (released before work start plan.within.obeys m number) (omega arith) printed.0 in
    let part = mul-le-mul_left (k - 1) (run_below-le-cost work start (length_of work start) chain) in
    omega (arith, all, part, run_below-le-cost work start (length_of work start) (numbers work))
