-- A plan that a text gives.
use Rattle.std.specs.Prelude.{ℕ, ◌-◌, ◌^◌, ◌<◌, List, [], length, slice_index_or, All, Option, None}
use Rattle.std.specs.Prelude.{IfSome}
use Rattle.waff_model.specs.declared.message.Version.{Version}
use Rattle.waff_plan.specs.Bound.{IsWorkers}
use Rattle.waff_plan.specs.Chain.{IsListed}
use Rattle.waff_plan.specs.declared.totals.Totals.{Totals}
use Rattle.waff_plan_text.specs.Rows.{IsWithinLimit}
use Rattle.waff_plan_text.specs.declared.row.Row.{Row}

-- the lines of a summary
pub record SummaryLines : Type 0 where
  pub workers : Option ℕ
  pub chain : List ℕ
  pub totals : Totals

-- what a text says: its rows in the order of the messages, and its summary
pub record Given : Type 0 where
  pub version : Version
  pub rows : List Row
  pub summary : SummaryLines

-- of no message
abbrev pub no_row : Row
no_row = record { affinity = []; start = 0; finish = 0; worker = None }

-- the row of message n, from 1
abbrev pub row_at : List Row → ℕ → Row
row_at rows n = slice_index_or rows (n - 1) no_row

-- what the text of a plan keeps
pub record IsGiven (plan : Given) : Type 0 where
  pub count : length plan.rows < 2 ^ 32
  pub within : All IsWithinLimit plan.rows
  pub workers : IfSome plan.summary.workers IsWorkers
  pub chain : IsListed (length plan.rows) plan.summary.chain
