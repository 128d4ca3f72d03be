-- What `why` prints for the bytes of its files.
use Rattle.std.specs.Prelude.{◌≡◌, ℕ, List, length, sum_by}
use Rattle.waff_model.specs.Layout.{Hierarchy}
use Rattle.waff_assign.specs.Instance.{Instance}
use Rattle.waff_plan_text.specs.Lines.{text_of}
use Rattle.waff_figures.specs.ByName.{message_names}
use Rattle.waff_figures.specs.WaitText.{are_alike}
use Rattle.waff_figures.specs.declared.grouping.Grouping.{Grouping}
use Rattle.waff_limits.specs.Lifted.{AreLifts}
use Rattle.waff_limits.specs.WhyLines.{why_lines}
use Rattle.waff_limits.specs.WhyRows.{AreRows, same_kind}
use Rattle.waff_limits.specs.declared.lifted.Lift.{Lift}
use Rattle.waff_limits.specs.declared.why_rows.Row.{Row}

-- the text of why messages run so high: a line for each kind of those that run high, by affinity or by
-- affinity and name. It tells of every one, once
pub record TellsWhy (grouping : Grouping) (layout : Hierarchy) (instance : Instance)
    (text : List ℕ) : Type 0 where
  pub lifts : List Lift
  pub rows : List Row
  pub are_lifts : AreLifts layout instance.trace.messages instance.assigned lifts
  pub are_rows : AreRows (same_kind
      (are_alike grouping instance.assigned (message_names instance.trace.messages)) layout.spaces)
      lifts rows
  pub messages_add_up : sum_by (λ row. row.messages) rows ≡ length lifts
  pub costs_add_up : sum_by (λ row. row.cost) rows ≡ sum_by (λ lift. lift.cost) lifts
  pub lines : text ≡ text_of (why_lines grouping layout instance.assigned
      (message_names instance.trace.messages) rows)
