-- What holds of plans in the order of issue.
use Rattle.std.specs.Prelude.{◌≡◌, ℕ, ◌<◌, ◌≤◌, ◌↔◌, ◌⊎◌, List, [], ◌++◌, length, map, All}
use Rattle.std.specs.List.{range_with_len}
use Rattle.waff_model.specs.Messages.{no_client}
use Rattle.waff_model.specs.declared.message.Message.{Message}
use Rattle.waff_model.specs.Tree.{Node}
use Rattle.waff_assign.specs.Order.{Relation, IsOrdered}
use Rattle.waff_plan.specs.Work.{Work, IsAwaited, IsNumber}
pub use Rattle.waff_plan.specs.Obeys.{StartsIssued}
use Rattle.waff_plan.specs.Clients.{one_before}
use Rattle.waff_plan.specs.Obeys.{AwaitsNone}
use Rattle.waff_plan.specs.Timetable.{clients_of, floor_of, message_of}
use Rattle.waff_plan.specs.Timing.{await_of}
use Rattle.waff_plan.specs.Issues.{IsIssuedBefore, IsServedBefore, IsLeastByIssue}
use Rattle.waff_plan.specs.AtOnce.{AllStartAtOnce}
use Rattle.waff_plan.specs.Laws.{ChainsAreWithinLength, LeastIsShortest, PrintedIsChain}
use Rattle.waff_plan.specs.Laws.{PrintedIsAsLong, TotalIsWithinWorkers, NoneIsShorter}
use Rattle.waff_plan.specs.Bound.{BoundIsWithinTwice, BoundIsWithinRatio}
use Rattle.waff_plan.specs.Unique.{AreSame, LeastIsOne, PrintedIsOne}
use Rattle.waff_assign.specs.Held.{Held}

-- the laws of plans hold of those that obey this order
pub record IsLawful (before : Relation) (work : Work) : Type 0 where
  pub chains : ChainsAreWithinLength before work
  pub shortest : LeastIsShortest before work
  pub is_chain : PrintedIsChain before work
  pub as_long : PrintedIsAsLong before work
  pub total : TotalIsWithinWorkers before work
  pub none_shorter : NoneIsShorter before work
  pub twice : BoundIsWithinTwice before work
  pub ratio : BoundIsWithinRatio before work
  pub one_least : LeastIsOne before work
  pub one_printed : PrintedIsOne before work

-- messages of no client, which no client thinks about, and which have no lists
abbrev pub AreOfNoClient : List Message → Type 0
AreOfNoClient messages =
    All (λ message. (message.client ≡ no_client) × ((message.think ≡ 0) × (message.after ≡ []))) messages

-- message n as one of no client, whose list has all that it awaits: the one before it of its client, by its think
-- time, and those of its own list. Its release is its floor
abbrev pub by_list : List Message → ℕ → Message
by_list messages n = record {
  name = (message_of messages n).name;
  cost = (message_of messages n).cost;
  release = floor_of (message_of messages n) (one_before (clients_of messages) n);
  client = no_client;
  think = 0;
  after = await_of (one_before (clients_of messages) n) (message_of messages n).think
      ++ (message_of messages n).after;
  ops = (message_of messages n).ops;
}

-- all messages like that
abbrev pub all_by_list : List Message → List Message
all_by_list messages = map (by_list messages) (range_with_len 1 (length messages))

-- of both works each message runs as long, may start as soon and awaits the same
pub record AreSameWork (one other : Work) : Type 0 where
  pub count : one.count ≡ other.count
  pub costs : (m : ℕ) → IsNumber other m → one.cost m ≡ other.cost m
  pub floors : (m : ℕ) → IsNumber other m → one.floor m ≡ other.floor m
  pub awaits : (m : ℕ) → IsNumber other m → one.awaits m ≡ other.awaits m

-- the order of issue is total: no message is issued before itself; what is issued before another is
-- issued before all that this one is issued before; and of two messages one is issued before the other
pub record IssueIsTotal (work : Work) (start : ℕ → ℕ) : Type 0 where
  pub not_itself : (i : ℕ) → IsIssuedBefore work start i i → ⊥
  pub on : (i j k : ℕ) → IsIssuedBefore work start i j → IsIssuedBefore work start j k
      → IsIssuedBefore work start i k
  pub one_first : (i j : ℕ)
      → (i ≡ j) ⊎ (IsIssuedBefore work start i j ⊎ IsIssuedBefore work start j i)

-- a message is issued before those that await it
abbrev pub IssueRises : Work → (ℕ → ℕ) → Type 0
IssueRises work start =
    (i m : ℕ) → IsAwaited (work.awaits m) i → IsIssuedBefore work start i m

-- the unlimited plan in the order of issue is that in which each message starts at the greatest of
-- its issue and the finishes of the messages that exclude it and are issued before it
abbrev pub LeastStartsAtOnce : List Node → List Held → Work → (ℕ → ℕ) → Type 0
LeastStartsAtOnce tree assigned work start =
    IsLeastByIssue tree assigned work start
    ↔ AllStartAtOnce (IsServedBefore tree assigned work start) work start

-- there is one such plan
abbrev pub LeastByIssueIsOne : List Node → List Held → Work → Type 0
LeastByIssueIsOne tree assigned work =
    (start other : ℕ → ℕ) → IsLeastByIssue tree assigned work start
    → IsLeastByIssue tree assigned work other → AreSame work start other

-- where no message awaits another and releases do not fall, what is served in the order of issue is
-- served in that of the trace
abbrev pub IssueIsArrival : List Node → List Held → Work → (ℕ → ℕ) → Type 0
IssueIsArrival tree assigned work start =
    length assigned ≡ work.count → AwaitsNone work
    → ((i j : ℕ) → i < j → work.floor i ≤ work.floor j)
    → (i j : ℕ) → IsServedBefore tree assigned work start i j ↔ IsOrdered tree assigned i j
