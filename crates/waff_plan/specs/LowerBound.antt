-- A lower bound on the length of plans that obey in whatever order: none is shorter than a worker's
-- share of the work, than what messages that await one another need, than what runs on one path of affinities, or than what messages
-- need of one lock.
use Rattle.std.specs.Prelude.{◌≡◌, ℕ, zero, suc, ◌+◌, ◌≤◌, ◌==◌, ◌&&◌, ◌||◌, not, max, List, flat_map, length, map, sum_by, Option}
use Rattle.std.specs.Prelude.{Some, None, Bool, false, IfSome, if◌then◌else◌}
use Rattle.std.specs.List.{list_any, range_with_len}
use Rattle.waff_model.specs.Tree.{IsTree, Node, parent_of}
use Rattle.waff_assign.specs.Order.{IsOrdered, affinity_of, held_of}
use Rattle.waff_plan.specs.Apart.{AreApart}
use Rattle.waff_plan.specs.Bound.{IsWorkers}
use Rattle.waff_plan.specs.IssueLaws.{StartsIssued}
use Rattle.waff_plan.specs.Laws.{share_of}
use Rattle.waff_plan.specs.Obeys.{AwaitsEarlier}
use Rattle.waff_plan.specs.Work.{Work, greatest, issue_after, length_of, numbers, total_of}
use Rattle.waff_plan.specs.Workers.{running}
use Rattle.waff_assign.specs.Held.{Held}

-- a plan in which each message is issued when it starts, no two that exclude each other run at a common
-- tick, and at no tick more run than there are workers: in whatever order it serves
pub record ObeysInSomeOrder (tree : List Node) (assigned : List Held) (work : Work)
    (workers : Option ℕ) (start : ℕ → ℕ) : Type 0 where
  pub issued : StartsIssued work start
  pub apart : AreApart (IsOrdered tree assigned) work start
  pub within : (k t : ℕ) → workers ≡ Some k → running work start t ≤ k

-- the finish of message m where each message starts as soon as it is issued, by at most so many that are
-- awaited one after another
abbrev pub finish_by : Work → ℕ → ℕ → ℕ
finish_by work zero m = work.floor m + work.cost m
finish_by work (suc n) m =
    issue_after (finish_by work n) (work.floor m) (work.awaits m) + work.cost m

-- the finish of message m where it waits for what it awaits alone: that comes earlier, so fewer than m
-- messages do one after another
abbrev pub earliest_finish : Work → ℕ → ℕ
earliest_finish work m = finish_by work m m

-- whether it is this number
abbrev pub option_is : ℕ → Option ℕ → Bool
option_is a None = false
option_is a (Some b) = b == a

-- the cost of message m, if it runs in affinity a
abbrev pub cost_in : List Held → Work → ℕ → ℕ → ℕ
cost_in assigned work a m = if option_is a (affinity_of assigned m) then work.cost m else 0

-- the sum of the costs of the messages that run in affinity a
abbrev pub own_cost : List Held → Work → ℕ → ℕ
own_cost assigned work a = sum_by (cost_in assigned work a) (numbers work)

-- where there is a parent, what it has
abbrev pub of_parent : (ℕ → ℕ) → Option ℕ → ℕ
of_parent cost None = 0
of_parent cost (Some parent) = cost parent

-- the sum of the costs in affinity a and above it, by at most so many steps to the parent
abbrev pub cost_by : List Node → List Held → Work → ℕ → ℕ → ℕ
cost_by tree assigned work zero a = own_cost assigned work a
cost_by tree assigned work (suc n) a =
    own_cost assigned work a + of_parent (cost_by tree assigned work n) (parent_of tree a)

-- the sum of the costs of the messages that run in affinity a or above it: parents have lower numbers
abbrev pub path_cost : List Node → List Held → Work → ℕ → ℕ
path_cost tree assigned work a = cost_by tree assigned work a a

-- whether a message uses the lock; whether alone
abbrev pub uses_lock : ℕ → Held → Bool
uses_lock lock held = list_any (λ u. u.lock == lock) held.uses

abbrev pub uses_alone : ℕ → Held → Bool
uses_alone lock held = list_any (λ u. (u.lock == lock) && u.alone) held.uses

-- whether it lets no other message use the lock: it uses it alone, or runs in the root
abbrev pub keeps_lock : ℕ → Held → Bool
keeps_lock lock held = option_is 0 held.affinity || uses_alone lock held

-- whether it shares it with others
abbrev pub shares_lock : ℕ → Held → Bool
shares_lock lock held = not (keeps_lock lock held) && uses_lock lock held

-- the cost of message m, if it keeps the lock; if it shares it
abbrev pub kept_cost : List Held → Work → ℕ → ℕ → ℕ
kept_cost assigned work lock m = if keeps_lock lock (held_of assigned m) then work.cost m else 0

abbrev pub shared_cost : List Held → Work → ℕ → ℕ → ℕ
shared_cost assigned work lock m = if shares_lock lock (held_of assigned m) then work.cost m else 0

-- what messages need of a lock: the costs of those that keep it, and the greatest of one that shares it; 0 where none uses it
abbrev pub lock_cost : List Held → Work → ℕ → ℕ
lock_cost assigned work lock =
    if list_any (uses_lock lock) assigned
    then sum_by (kept_cost assigned work lock) (numbers work) + greatest (map (shared_cost assigned work lock) (numbers work))
    else 0

-- the greatest of a lock that is used
abbrev pub greatest_lock : List Held → Work → ℕ
greatest_lock assigned work = greatest (map (λ u. lock_cost assigned work u.lock) (flat_map (λ held. held.uses) assigned))

-- the share of one of k workers, rounded up; 0 without workers
abbrev pub share_in : Option ℕ → ℕ → ℕ
share_in None total = 0
share_in (Some k) total = share_of total k

-- the greatest of the four
abbrev pub lower_bound_of : Option ℕ → List Node → List Held → Work → ℕ
lower_bound_of workers tree assigned work =
    max (share_in workers (total_of work))
    (max (greatest (map (earliest_finish work) (numbers work)))
    (max (greatest (map (path_cost tree assigned work) (range_with_len 0 (length tree)))) (greatest_lock assigned work)))

-- no plan that obeys in whatever order is shorter
abbrev pub NoneIsBelow : Option ℕ → List Node → List Held → Work → Type 0
NoneIsBelow workers tree assigned work =
    IsTree tree → length assigned ≡ work.count → IfSome workers IsWorkers → AwaitsEarlier work
    → (start : ℕ → ℕ) → ObeysInSomeOrder tree assigned work workers start
    → lower_bound_of workers tree assigned work ≤ length_of work start
