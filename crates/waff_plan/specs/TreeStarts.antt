-- Starts that a tree of affinities allows, in whatever order: the messages of each affinity one after another, after all of those in
-- the affinities above it.
use Rattle.std.specs.Prelude.{◌≡◌, ℕ, ◌+◌, ◌-◌, List, length, map, sum_by, None, option_map, unwrap_or}
use Rattle.std.specs.List.{range_with_len}
use Rattle.waff_model.specs.Tree.{IsTree, Node, parent_of}
use Rattle.waff_assign.specs.Order.{affinity_of}
use Rattle.waff_plan.specs.LowerBound.{ObeysInSomeOrder, cost_in, of_parent, path_cost}
use Rattle.waff_plan.specs.Obeys.{AwaitsNone}
use Rattle.waff_plan.specs.Work.{IsNumber, Work, greatest, length_of}
use Rattle.waff_assign.specs.Held.{AreKnown, Held}
use Rattle.waff_assign.specs.Held.{AreUnlocked}

-- the sum of the costs of the messages before message m that run in affinity a
abbrev pub cost_before : List Held → Work → ℕ → ℕ → ℕ
cost_before assigned work a m = sum_by (cost_in assigned work a) (range_with_len 1 (m - 1))

-- the start of message m, where it runs in affinity a
abbrev pub start_in : List Node → List Held → Work → ℕ → ℕ → ℕ
start_in tree assigned work m a =
    of_parent (path_cost tree assigned work) (parent_of tree a) + cost_before assigned work a m

-- the start of message m
abbrev pub tree_start : List Node → List Held → Work → ℕ → ℕ
tree_start tree assigned work m =
    unwrap_or (option_map (start_in tree assigned work m) (affinity_of assigned m)) 0

-- where no message has a release, awaits another or uses a lock, they obey, and the greatest sum of the costs in an affinity and above it is
-- their length
abbrev pub TreeIsReached : List Node → List Held → Work → Type 0
TreeIsReached tree assigned work =
    IsTree tree → length assigned ≡ work.count → AreKnown tree assigned → AreUnlocked assigned → AwaitsNone work
    → ((m : ℕ) → IsNumber work m → work.floor m ≡ 0)
    → ObeysInSomeOrder tree assigned work None (tree_start tree assigned work)
    × (length_of work (tree_start tree assigned work) ≡ greatest (map (path_cost tree assigned work) (range_with_len 0 (length tree))))
