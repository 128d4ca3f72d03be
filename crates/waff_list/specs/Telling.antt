-- What a message that is ready is taken by.
use Rattle.std.specs.Prelude.{ℕ, List}
use Rattle.waff_model.specs.Tree.{Node}
use Rattle.waff_model.specs.declared.preorder.Span.{Span}
use Rattle.waff_plan.specs.Work.{Work}
use Rattle.waff_list.specs.Orders.{Order, by_issue, by_number}
use Rattle.waff_list.specs.Tasks.{tail_in}
use Rattle.waff_list.specs.declared.service.Service.{Service}
use Rattle.waff_list.specs.declared.service.Service.TheVariants.{ByNumber, ByIssue}
use Rattle.waff_list.specs.declared.task.Task.{Task}
use Rattle.waff_assign.specs.Held.{Held}

-- what the order of service goes by: the needs of all messages; or a tree, and what the messages hold
pub data Basis : Type 0 where
  of_needs : List (List ℕ) → Basis
  of_tree : List Node → List Span → List Held → Basis

abbrev pub basis_of : Service → Basis
basis_of (ByNumber needs) = of_needs needs.now
basis_of (ByIssue issued) =
    of_tree issued.case.tree.now issued.spans.now issued.case.assigned.now

abbrev pub order_by : Basis → Work → Order
order_by (of_needs needs) work = by_number needs
order_by (of_tree tree spans assigned) work = by_issue tree spans assigned work

-- the key by which message m is taken in this order of service
abbrev pub key_in : Service → Work → (ℕ → ℕ) → ℕ → ℕ
key_in service work = (order_by (basis_of service) work).key

-- the priority of message m
abbrev pub priority_in : Task → ℕ → ℕ
priority_in task m = tail_in task.tails m
