-- Pairs with the same paths have the same list plans.
use Rattle.std.proofs.Common.{ℕ, zero, suc, ◌+◌, ◌≤◌, List, arith}
use Rattle.waff_model.specs.Tree.{Node}
use Rattle.waff_assign.specs.Order.{IsOrdered, PathBy, Path, Relation}
use Rattle.waff_plan.specs.Work.{Work, finish_of}
use Rattle.waff_order.specs.Needs.{IsNeed, AreNeeds}
use Rattle.waff_order.proofs.NeedLemmas.{path_one, path_weaker}
use Rattle.waff_list.specs.ListRule.{IsReady, IsListPlan, HaveSamePaths}
use Rattle.waff_list.specs.Unique.{ListPlansAreShared}
use Rattle.waff_assign.specs.Held.{Held}

-- along a path that a plan keeps, the last starts only when the first has finished
path_by_ordered : (before : Relation) (work : Work) (start : ℕ → ℕ) → ((i j : ℕ) → before i j → finish_of work start i ≤ start j)
    → (n i j : ℕ) → PathBy before n i j → finish_of work start i ≤ start j
path_by_ordered before work start ordered zero i j h = ordered i j h
path_by_ordered before work start ordered (suc n) i j (m, first, rest) =
    let one : start i + work.cost i ≤ start m = ordered i m first in
    let others : start m + work.cost m ≤ start j = path_by_ordered before work start ordered n m j rest in
    omega arith

-- along a path whose last pairs have finished by t, the first has
path_by_free : (before : Relation) (work : Work) (start : ℕ → ℕ) (t m : ℕ) → ((i j : ℕ) → before i j → finish_of work start i ≤ start j)
    → ((i : ℕ) → before i m → finish_of work start i ≤ t) → (n i : ℕ) → PathBy before n i m → finish_of work start i ≤ t
path_by_free before work start t m ordered free zero i h = free i h
path_by_free before work start t m ordered free (suc n) i (j, first, rest) =
    let one : start i + work.cost i ≤ start j = ordered i j first in
    let others : start j + work.cost j ≤ t = path_by_free before work start t m ordered free n j rest in
    omega arith

pub same_paths_same_plans : (near before : Relation) (work : Work) → HaveSamePaths near before → (first : Relation) (k : ℕ) (start : ℕ → ℕ)
    → IsListPlan near first work k start → IsListPlan before first work k start
same_paths_same_plans near before work same first k start h = record {
  within = record {
    obeys = record { issued = h.within.obeys.issued; ordered = ordered };
    within = h.within.within;
  };
  follows = record {
    busy = λ t m ready. h.follows.busy t m (ready_near t m ready);
    in_turn = λ t m other ready. h.follows.in_turn t m other (ready_near t m ready);
  };
}
  where
    ordered : (i j : ℕ) → before i j → finish_of work start i ≤ start j
    ordered i j pair = let path = same.to i j pair in path_by_ordered near work start h.within.obeys.ordered path.0 i j path.1

    ready_near : (t m : ℕ) → IsReady before work start t m → IsReady near work start t m
    ready_near t m ready = record {
      number = ready.number;
      issued = ready.issued;
      free = λ i pair. let path = same.from i m pair in path_by_free before work start t m ordered ready.free path.0 i path.1;
    }

pub shared_plans : (near before first : Relation) (work : Work) → ListPlansAreShared near before first work
shared_plans near before first work same k start = (
  same_paths_same_plans near before work same first k start,
  same_paths_same_plans before near work (record { to = same.from; from = same.to }) first k start,
)

-- needs have the same paths as the paths through them, and those as the ordered pairs
pub paths_of_needs : (tree : List Node) (assigned : List Held) (needs : List (List ℕ)) → AreNeeds tree assigned needs → HaveSamePaths (Path (IsNeed needs)) (IsOrdered tree assigned)
paths_of_needs tree assigned needs are = record {
  to = λ i j pair. path_one (Path (IsNeed needs)) i j (are.paths i j pair);
  from = λ i j path. path_weaker (IsNeed needs) (IsOrdered tree assigned) are.ordered i j path;
}

-- paths through needs and the ordered pairs
pub plan_over_pairs : (tree : List Node) (assigned : List Held) (needs : List (List ℕ)) (work : Work) (first : Relation) (k : ℕ) (start : ℕ → ℕ) → AreNeeds tree assigned needs
    → IsListPlan (Path (IsNeed needs)) first work k start → IsListPlan (IsOrdered tree assigned) first work k start
plan_over_pairs tree assigned needs work first k start are h =
    same_paths_same_plans (Path (IsNeed needs)) (IsOrdered tree assigned) work (paths_of_needs tree assigned needs are) first k start h

pub plan_over_needs : (tree : List Node) (assigned : List Held) (needs : List (List ℕ)) (work : Work) (first : Relation) (k : ℕ) (start : ℕ → ℕ) → AreNeeds tree assigned needs
    → IsListPlan (IsOrdered tree assigned) first work k start → IsListPlan (Path (IsNeed needs)) first work k start
plan_over_needs tree assigned needs work first k start are h =
    let same = paths_of_needs tree assigned needs are in
    same_paths_same_plans (IsOrdered tree assigned) (Path (IsNeed needs)) work (record { to = same.from; from = same.to }) first k start h
