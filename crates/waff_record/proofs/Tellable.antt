-- A plan for k workers can be told by a text, where no message of it finishes later than a run may last.
use Rattle.std.proofs.Common.{◌≡◌, ℕ, ◌+◌, ◌-◌, ◌*◌, ◌≤◌, true, List, Option, Some, IfSome, arith}
use Rattle.std.proofs.Math.Nat.{mul-le-mul}
use Rattle.waff_model.specs.Names.{is_name}
use Rattle.waff_model.specs.Tree.{Node}
use Rattle.waff_model.specs.declared.limits.TheConstants.{MAX_COST, MAX_MESSAGES, MAX_RELEASE, MAX_THINK, MAX_TICK, MAX_WORKERS}
use Rattle.waff_model.specs.declared.message.Version.{Version}
use Rattle.waff_assign.specs.Held.{Held}
use Rattle.waff_assign.specs.Order.{affinity_name}
use Rattle.waff_plan.specs.Bound.{IsWorkers}
use Rattle.waff_plan.specs.Chain.{IsListed, chain_cost, chain_release}
use Rattle.waff_plan.specs.Work.{IsNumber, Work, finish_of, length_of}
use Rattle.waff_plan.proofs.Longest.{length_of-le}
use Rattle.waff_plan_text.specs.Laws.{IsTellable}
use Rattle.waff_check.proofs.Tellable.{IsModest, chain_cost_within, chain_release_within, tellable, total_within}
use Rattle.waff_record.specs.declared.rounding.TheConstants.{MAX_RUN}

module _ (version : Version) (work : Work) (modest : IsModest version work) (chain : List ℕ) (listed : IsListed work.count chain) where
  pub run_tellable : (tree : List Node) (assigned : List Held) (k : ℕ) (start : ℕ → ℕ) (worker : ℕ → Option ℕ)
      → ((n : ℕ) → IsNumber work n → is_name (affinity_name tree assigned n) ≡ true)
      → ((n : ℕ) → IsNumber work n → IfSome (worker n) (λ w. w ≤ MAX_TICK)) → IsWorkers k
      → ((n : ℕ) → IsNumber work n → finish_of work start n ≤ MAX_RUN)
      → IsTellable version tree assigned work (Some k) start worker chain
  run_tellable tree assigned k start worker named seats workers timely =
      let cost = chain_cost_within version work modest chain listed in
      let release = chain_release_within version work modest chain listed in
      let total = total_within version work modest in
      let to : k ≤ MAX_WORKERS = workers.to in
      let fewer : k - 1 ≤ MAX_WORKERS - 1 = omega (arith, to) in
      let releases : k * chain_release work chain ≤ MAX_WORKERS * (MAX_RELEASE + MAX_MESSAGES * MAX_THINK) = mul-le-mul to release in
      let costs : (k - 1) * chain_cost work chain ≤ (MAX_WORKERS - 1) * (MAX_MESSAGES * MAX_COST) = mul-le-mul fewer cost in
      let short : length_of work start ≤ MAX_RUN = length_of-le work start MAX_RUN timely in
      let left : k * length_of work start ≤ MAX_WORKERS * MAX_RUN = mul-le-mul to short in
      tellable version work modest chain listed tree assigned (Some k) start worker named seats workers
      (omega (arith, short)) (omega (arith, left)) (omega (arith, total, releases, costs))
