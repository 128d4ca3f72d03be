-- Orders of service: what is served before what, the key by which a message that is ready is taken, and
-- the needs that are known of the messages that are issued.
use Rattle.std.specs.Prelude.{◌≡◌, ℕ, ◌<◌, ◌≤◌, ◌⊎◌, List, map, Contains}
use Rattle.waff_model.specs.Tree.{Node}
use Rattle.waff_model.specs.declared.preorder.Span.{Span}
use Rattle.waff_assign.specs.Held.{Held}
use Rattle.waff_assign.specs.Order.{Path, Relation, held_of}
use Rattle.waff_order.specs.Joined.{Joined, HaveJoined}
use Rattle.waff_order.specs.Needs.{IsNeed}
use Rattle.waff_plan.specs.Issues.{IsServedBefore}
use Rattle.waff_plan.specs.Order.{ComesBefore}
use Rattle.waff_plan.specs.Work.{Work, IsNumber, issue_of}
use Rattle.waff_list.specs.Issuing.{AreNeedsByNumber, AreServed}
use Rattle.waff_plan.specs.declared.due.TheConstants.{NEVER}

-- an order of service: in a plan with these starts, what is served before what, and the key by which a
-- message that is ready is taken; and of the messages that are issued so far, which needs they have
pub record Order : Type 1 where
  pub before : (ℕ → ℕ) → Relation
  pub key : (ℕ → ℕ) → ℕ → ℕ
  pub knows : List ℕ → List (List ℕ) → Type 0

-- needs as messages that hold this have joined one another, by number
pub record AreOfJoined (tree : List Node) (spans : List Span) (assigned : List Held) (count : ℕ)
    (issued : List ℕ) (needs : List (List ℕ)) : Type 0 where
  pub joined : Joined
  pub have : HaveJoined tree spans (map (held_of assigned) issued) joined
  pub told : AreNeedsByNumber count issued joined needs

-- by number, through given needs
abbrev pub by_number : List (List ℕ) → Order
by_number given = record {
  before = λ start. Path (IsNeed given);
  key = λ start m. 0;
  knows = λ issued needs. needs ≡ given;
}

-- by issue
abbrev pub by_issue : List Node → List Span → List Held → Work → Order
by_issue tree spans assigned work = record {
  before = IsServedBefore tree assigned work;
  key = issue_of work;
  knows = AreOfJoined tree spans assigned work.count;
}

-- what is issued by now in the one plan is issued at the same tick in the other
abbrev pub AgreeBy : Work → (ℕ → ℕ) → (ℕ → ℕ) → ℕ → Type 0
AgreeBy work start later now =
    (m : ℕ) → issue_of work start m ≤ now → issue_of work start m ≡ issue_of work later m

-- the needs that are known lead to all that is served before a message that is issued: each is served
-- before the message that needs it, and what is served before one that is issued has a path through needs
-- to it
pub record AreNeedsIn (before : Relation) (issued : List ℕ) (needs : List (List ℕ)) : Type 0 where
  pub sound : (i m : ℕ) → IsNeed needs i m → before i m
  pub covers : (i m : ℕ) → before i m → Contains issued m → Path (IsNeed needs) i m

-- an order that a planner can follow: what is before another message has an earlier place, and a known
-- issue where the other has; two plans that issue the same by a tick serve the same, by the same keys; and
-- needs tell all, and are those of messages whose issue is known
pub record IsServiceOrder (work : Work) (order : Order) : Type 0 where
  pub numbers : (start : ℕ → ℕ) (i m : ℕ) → order.before start i m → IsNumber work i × IsNumber work m
  pub place : (ℕ → ℕ) → ℕ → ℕ
  pub to : (start : ℕ → ℕ) (m : ℕ) → IsNumber work m → place start m ≤ work.count
  pub earlier : (start : ℕ → ℕ) (i m : ℕ) → order.before start i m → place start i < place start m
  pub known : (start : ℕ → ℕ) (i m : ℕ) → order.before start i m
      → issue_of work start m < NEVER → issue_of work start i < NEVER
  pub kept : (start later : ℕ → ℕ) (now : ℕ) → AgreeBy work start later now → (i m : ℕ)
      → issue_of work start m ≤ now → order.before start i m → order.before later i m
  pub keyed : (start later : ℕ → ℕ) (m : ℕ) → issue_of work start m ≡ issue_of work later m
      → order.key start m ≡ order.key later m
  pub serves : (start : ℕ → ℕ) (now : ℕ) (issued : List ℕ) (needs : List (List ℕ))
      → AreServed work start now issued → order.knows issued needs
      → AreNeedsIn (order.before start) issued needs
  pub due : (start : ℕ → ℕ) (now : ℕ) (issued : List ℕ) (needs : List (List ℕ)) → now < NEVER
      → AreServed work start now issued → order.knows issued needs → (i m : ℕ) → IsNeed needs i m
      → issue_of work start m < NEVER

-- of two ready messages i is taken first: its priority is higher, or they have the same and i comes first
-- by the key
abbrev pub TakesFirst : (ℕ → ℕ) → (ℕ → ℕ) → Relation
TakesFirst priority key i j =
    (priority j < priority i) ⊎ ((priority i ≡ priority j) × ComesBefore key i j)
