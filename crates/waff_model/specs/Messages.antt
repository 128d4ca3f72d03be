-- Messages and traces, and the limits that they keep.
use Rattle.std.specs.Prelude.{◌≡◌, ℕ, ◌≤◌, false, true, List, [], length, All}
use Rattle.std.specs.List.{sum_by}
pub use Rattle.waff_model.specs.Layout.{sizes_of}
pub use Rattle.waff_model.specs.Clients.{no_client}
use Rattle.waff_model.specs.Awaits.{AreLists, awaited_in}
use Rattle.waff_model.specs.Names.{is_name}
use Rattle.waff_model.specs.Cells.{cells_of, LiesIn}
use Rattle.waff_model.specs.Versions.{has_after, has_clients, has_releases, max_messages, max_ops}
use Rattle.waff_model.specs.declared.limits.TheConstants.{MAX_ALL_OPS, MAX_AWAITED, MAX_COST, MAX_RELEASE}
use Rattle.waff_model.specs.declared.limits.TheConstants.{MAX_THINK}
use Rattle.waff_model.specs.declared.message.Message.{Message}
use Rattle.waff_model.specs.declared.message.Version.{Version}

-- a trace: its version, the sizes of the spaces in which its cells lie, and its messages in the
-- order of arrival
pub record Arrivals : Type 0 where
  pub version : Version
  pub sizes : List ℕ
  pub messages : List Message

-- the message is within the limits, and its cells lie in spaces of these sizes
pub record IsMessage (version : Version) (sizes : List ℕ) (message : Message) : Type 0 where
  pub named : is_name message.name ≡ true
  pub some_cost : 1 ≤ message.cost
  pub within_cost : message.cost ≤ MAX_COST
  pub within_release : message.release ≤ MAX_RELEASE
  pub no_release : has_releases version ≡ false → message.release ≡ 0
  pub named_client : is_name message.client ≡ true
  pub no_client : has_clients version ≡ false → message.client ≡ no_client
  pub within_think : message.think ≤ MAX_THINK
  pub no_think : has_clients version ≡ false → message.think ≡ 0
  pub no_list : has_after version ≡ false → message.after ≡ []
  pub some_ops : 1 ≤ length message.ops
  pub within_ops : length message.ops ≤ max_ops version
  pub cells : All (LiesIn sizes) (cells_of message.ops)

-- how many operations messages have
abbrev pub ops_in : List Message → ℕ
ops_in messages = sum_by (λ message. length message.ops) messages

-- every message is within the limits, and so are their lists, their number, and those of their operations and of
-- the messages that their lists have
pub record IsTrace (trace : Arrivals) : Type 0 where
  pub messages : All (IsMessage trace.version trace.sizes) trace.messages
  pub few : length trace.messages ≤ max_messages trace.version
  pub few_ops : ops_in trace.messages ≤ MAX_ALL_OPS
  pub lists : AreLists 1 trace.messages
  pub few_awaited : awaited_in trace.messages ≤ MAX_AWAITED
