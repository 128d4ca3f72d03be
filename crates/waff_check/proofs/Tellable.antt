-- A plan of a trace that is not too long can be told by a text, and what the check finds of that text is true of the plan.
use Rattle.std.proofs.Common.{◌≡◌, ℕ, ◌+◌, ◌-◌, ◌*◌, ◌<◌, ◌≤◌, true, List, [], ◌∷◌, length, map, get_or, Option, Some, None, IfSome, refl, sym, ap, ◌∙◌, arith, subst}
use Rattle.std.specs.Prelude.{All, option_map, sum_by, unwrap_or}
use Rattle.std.proofs.lemmas.List.Elements.{All-head, All-tail}
use Rattle.std.proofs.lemmas.List.FromFn.{get_or-map-range_with_len, get_or-range_with_len, length-map-range_with_len, length-range_with_len}
use Rattle.std.proofs.lemmas.List.Sums.{sum_by-cons}
use Rattle.std.proofs.lemmas.Option.{slice_get-get_or}
use Rattle.waff_model.specs.Messages.{Arrivals, IsTrace}
use Rattle.waff_model.specs.Names.{is_name}
use Rattle.waff_model.specs.Tree.{IsTree, Node, name_of}
use Rattle.waff_model.specs.Versions.{has_clients, has_releases}
use Rattle.waff_model.specs.declared.limits.TheConstants.{MAX_COST, MAX_MESSAGES, MAX_RELEASE, MAX_THINK, MAX_TICK}
use Rattle.waff_model.specs.declared.message.Version.{Version}
use Rattle.waff_model.specs.declared.message.Version.TheVariants.{V1}
use Rattle.waff_model.proofs.TraceLemmas.{few_messages}
use Rattle.waff_assign.specs.Held.{AreKnown, Held}
use Rattle.waff_assign.specs.Instance.{Instance}
use Rattle.waff_assign.specs.Order.{affinity_name, affinity_of, name_or_hyphen}
use Rattle.waff_assign.proofs.Holding.{affinity_known}
use Rattle.waff_plan.specs.Bound.{IsWorkers}
use Rattle.waff_plan.specs.Chain.{IsListed, chain_cost, chain_release, gaps_after}
use Rattle.waff_plan.specs.Instances.{work_of_instance}
use Rattle.waff_plan.specs.Obeys.{AwaitsNone}
use Rattle.waff_plan.specs.Timetable.{timings_of, work_of_messages}
use Rattle.waff_plan.specs.Timing.{IsTiming, no_timing, timing_of}
use Rattle.waff_plan.specs.Totals.{totals_of}
use Rattle.waff_plan.specs.Work.{IsAmongFirst, IsNumber, Work, gap_of, length_of, numbers, total_of}
use Rattle.waff_plan.specs.declared.timing.Awaited.TheVariants.{Every}
use Rattle.waff_plan.proofs.FollowLemmas.{gap_limit}
use Rattle.waff_plan.proofs.Longest.{finish_of-le-length_of}
use Rattle.waff_plan.proofs.NoClients.{chain_release_is_first}
use Rattle.waff_plan.proofs.TimingLemmas.{are_timings, floor_alone, length-timings_of, message_at}
use Rattle.waff_plan_text.specs.Given.{IsGiven}
use Rattle.waff_plan_text.specs.Laws.{IsTellable, plan_told, row_told}
use Rattle.waff_plan_text.specs.Rows.{IsWithinLimit}
use Rattle.waff_check.specs.OwnPlans.{claim_told}
use Rattle.waff_check.specs.Promises.{Promises}
use Rattle.waff_check.specs.Verdicts.{IsVerdict}
use Rattle.waff_check.specs.declared.verdict.Verdict.{Verdict}
use Rattle.waff_check.proofs.PromiseLaws.{promises}

-- work within the limits of traces
pub record IsModest (version : Version) (work : Work) : Type 0 where
  pub few : work.count ≤ MAX_MESSAGES
  pub some_cost : (m : ℕ) → IsNumber work m → 1 ≤ work.cost m
  pub cost : (m : ℕ) → IsNumber work m → work.cost m ≤ MAX_COST
  pub floor : (m : ℕ) → IsNumber work m → work.floor m ≤ MAX_RELEASE
  pub gap : (i m : ℕ) → IsNumber work m → gap_of work i m ≤ MAX_THINK
  pub alone : version ≡ V1 → AwaitsNone work
  pub no_release : version ≡ V1 → (m : ℕ) → IsNumber work m → work.floor m ≡ 0

-- that of a trace is
pub modest : (trace : Arrivals) → IsTrace trace → IsModest trace.version (work_of_messages trace.messages)
modest trace is_trace =
    let messages = trace.messages in
    let are = are_timings trace is_trace in
    let count = length-timings_of messages in
    let timing : (m : ℕ) → IsNumber (work_of_messages messages) m → IsTiming (timing_of (timings_of messages) m)
    = λ m number. are.small (m - 1) no_timing (omega (arith, number.from, number.to)) in
    record {
      few = omega (arith, count, few_messages trace is_trace);
      some_cost = λ m number. (timing m number).some_cost;
      cost = λ m number. (timing m number).cost;
      floor = λ m number. (timing m number).floor;
      gap = λ i m number. gap_limit Every (timing_of (timings_of messages) m) i (timing m number);
      alone = λ first. are.alone (ap has_clients first);
      no_release = λ first m number.
          let among : IsAmongFirst (length messages) m = record { from = number.from; to = omega (arith, number.to, count) } in
          let message = message_at trace is_trace m among in
          let alone = ap has_clients first in
          floor_alone messages m among (message.no_client alone) (message.no_think alone) ∙ message.no_release (ap has_releases first);
    }

-- sums of costs within the limit
few_costs : (f : ℕ → ℕ) (xs : List ℕ) → All (λ m. f m ≤ MAX_COST) xs → sum_by f xs ≤ length xs * MAX_COST
few_costs f [] each = omega arith
few_costs f (x ∷ xs) each =
    let first : f x ≤ MAX_COST = All-head (λ m. f m ≤ MAX_COST) x xs each in
    let rest = few_costs f xs (All-tail (λ m. f m ≤ MAX_COST) x xs each) in
    omega (arith, first, rest, sum_by-cons f x xs)

-- gaps within the limit
few_gaps : (work : Work) → ((i m : ℕ) → IsNumber work m → gap_of work i m ≤ MAX_THINK) → (m : ℕ) (rest : List ℕ) → All (IsNumber work) rest
    → gaps_after work m rest ≤ length rest * MAX_THINK
few_gaps work gaps m [] numbers = omega arith
few_gaps work gaps m (next ∷ rest) numbers =
    let gap = gaps m next (All-head (IsNumber work) next rest numbers) in
    omega (arith, gap, few_gaps work gaps next rest (All-tail (IsNumber work) next rest numbers))

module _ (version : Version) (work : Work) (modest : IsModest version work) where
  pub total_within : total_of work ≤ MAX_MESSAGES * MAX_COST
  total_within =
      let sum = few_costs work.cost (numbers work) (λ k d within. number_cost k d within) in
      omega (arith, sum, modest.few, length-range_with_len 1 work.count)
    where
      number_cost : (k d : ℕ) → k < length (numbers work) → work.cost (get_or (numbers work) k d) ≤ MAX_COST
      number_cost k d within =
          let count = length-range_with_len 1 work.count in
          let is : get_or (numbers work) k d ≡ 1 + k = get_or-range_with_len 1 work.count k d (omega (arith, count)) in
          modest.cost (get_or (numbers work) k d) (record { from = omega (arith, is); to = omega (arith, is, count) })

  release_of : (chain : List ℕ) → All (IsNumber work) chain → chain_release work chain ≤ MAX_RELEASE + length chain * MAX_THINK
  release_of [] numbers = omega arith
  release_of (m ∷ rest) numbers =
      let first = modest.floor m (All-head (IsNumber work) m rest numbers) in
      omega (arith, first, few_gaps work modest.gap m rest (All-tail (IsNumber work) m rest numbers))

  no_release_of : version ≡ V1 → (chain : List ℕ) → All (IsNumber work) chain → chain_release work chain ≡ 0
  no_release_of first [] numbers = refl
  no_release_of first (m ∷ rest) numbers =
      chain_release_is_first work (modest.alone first) m rest ∙ modest.no_release first m (All-head (IsNumber work) m rest numbers)

  module _ (chain : List ℕ) (listed : IsListed work.count chain) where
    pub chain_cost_within : chain_cost work chain ≤ MAX_MESSAGES * MAX_COST
    chain_cost_within =
        let sum = few_costs work.cost chain (λ k d within. modest.cost (get_or chain k d) (listed.each k d within)) in
        omega (arith, sum, listed.few, modest.few)

    pub chain_release_within : chain_release work chain ≤ MAX_RELEASE + MAX_MESSAGES * MAX_THINK
    chain_release_within =
        let release = release_of chain listed.each in
        omega (arith, release, listed.few, modest.few)

    -- a plan that is not too long can be told
    pub tellable : (tree : List Node) (assigned : List Held) (workers : Option ℕ) (start : ℕ → ℕ) (worker : ℕ → Option ℕ)
        → ((n : ℕ) → IsNumber work n → is_name (affinity_name tree assigned n) ≡ true)
        → ((n : ℕ) → IsNumber work n → IfSome (worker n) (λ w. w ≤ MAX_TICK)) → IfSome workers IsWorkers
        → length_of work start ≤ MAX_TICK → (totals_of workers work start chain).left ≤ MAX_TICK → (totals_of workers work start chain).right ≤ MAX_TICK
        → IsTellable version tree assigned work workers start worker chain
    tellable tree assigned workers start worker named seats are short left right =
        let cost = chain_cost_within in
        let release = chain_release_within in
        let total = total_within in
        record {
          few = modest.few;
          rows = λ n number.
              let ends : start n + work.cost n ≤ length_of work start = finish_of-le-length_of work start n number in
              record {
                named = named n number;
                times = record { start = omega (arith, ends, short); finish = omega (arith, ends, short) };
                worker = seats n number;
              };
          known = are;
          listed = listed;
          totals = record {
            total = omega (arith, total);
            length = short;
            release = omega (arith, release);
            cost = omega (arith, cost);
            left = left;
            right = right;
            no_release = λ first. no_release_of first chain listed.each;
          };
        }

-- such a plan is what the reader of plans gives
pub given_of : (version : Version) (tree : List Node) (assigned : List Held) (work : Work) (workers : Option ℕ) (start : ℕ → ℕ) (worker : ℕ → Option ℕ)
    (chain : List ℕ) → IsTellable version tree assigned work workers start worker chain → IsGiven (plan_told version tree assigned work workers start worker chain)
given_of version tree assigned work workers start worker chain can =
    let row = row_told tree assigned work start worker in
    let count = length-map-range_with_len row 1 work.count in
    record {
      count = omega (arith, count, can.few);
      within = λ k d within.
          let below : k < work.count = omega (arith, count, within) in
          let is = get_or-map-range_with_len row 1 work.count k (k + 1) d below (omega arith) in
          let fits = can.rows (k + 1) (record { from = omega arith; to = omega arith }) in
          subst IsWithinLimit (sym is) fits.times;
      workers = can.known;
      chain = record { each = rw count can.listed.each; few = rw count can.listed.few };
    }

-- where affinities have names, what is told of that of a message is one: a hyphen is too
name_is_one : (tree : List Node) → All (λ (node : Node). is_name node.name ≡ true) tree → (o : Option ℕ) → ((a : ℕ) → o ≡ Some a → a < length tree)
    → is_name (name_or_hyphen tree o) ≡ true
name_is_one tree names None within = refl
name_is_one tree names (Some a) within =
    let no_node : Node = record { name = []; parent = None } in
    let there = within a refl in
    let is : name_of tree a ≡ (get_or tree a no_node).name =
    ap (λ o. unwrap_or (option_map (λ (node : Node). node.name) o) []) (slice_get-get_or tree a no_node there) in
    ap is_name is ∙ names a no_node there

pub told_names : (tree : List Node) (assigned : List Held) → All (λ (node : Node). is_name node.name ≡ true) tree → AreKnown tree assigned
    → (n : ℕ) → IsAmongFirst (length assigned) n → is_name (affinity_name tree assigned n) ≡ true
told_names tree assigned names known n among =
    name_is_one tree names (affinity_of assigned n) (λ a is. affinity_known tree assigned n a known among.from among.to is)

-- a plan that is told of an instance of a trace
module _ (instance : Instance) (is_trace : IsTrace instance.trace) (count : length instance.assigned ≡ length instance.trace.messages)
    (known : AreKnown instance.tree instance.assigned) where
  abbrev work : Work
  work = work_of_instance instance

  pub count_in : work.count ≡ length instance.trace.messages
  count_in = length-timings_of instance.trace.messages

  -- has a row for each message
  pub rows_told : (start : ℕ → ℕ) (worker : ℕ → Option ℕ)
      → length (map (row_told instance.tree instance.assigned work start worker) (numbers work)) ≡ length instance.trace.messages
  rows_told start worker = length-map-range_with_len (row_told instance.tree instance.assigned work start worker) 1 work.count ∙ count_in

  -- each message runs
  runs : (m : ℕ) → IsAmongFirst (length instance.assigned) m → 1 ≤ work.cost m
  runs m among =
      let to : m ≤ length instance.assigned = among.to in
      (modest instance.trace is_trace).some_cost m (record { from = among.from; to = omega (arith, to, count, count_in) })

  -- and what a verdict on it implies holds
  pub told_promises : IsTree instance.tree → (workers : Option ℕ) (start : ℕ → ℕ) (worker : ℕ → Option ℕ) (chain : List ℕ)
      → IsTellable instance.trace.version instance.tree instance.assigned work workers start worker chain
      → (v : Verdict) → IsVerdict (claim_told instance workers start worker chain) v → Promises (claim_told instance workers start worker chain) v
  told_promises tree workers start worker chain can v is =
      promises (claim_told instance workers start worker chain) (record { lengths = sym count; rows = rows_told start worker; known = known })
      runs (are_timings instance.trace is_trace).earlier tree
      (given_of instance.trace.version instance.tree instance.assigned work workers start worker chain can) v is
