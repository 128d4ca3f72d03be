-- What is told of why messages run so high is the text of the files, and there is one.
use Rattle.std.proofs.Common.{◌≡◌, ℕ, Bool, List, sym, ◌∙◌, ap, subst}
use Rattle.std.specs.Cmp.{IsEquivalence}
use Rattle.waff_model.specs.Layout.{Hierarchy}
use Rattle.waff_model.specs.Unique.{AtMostOne}
use Rattle.waff_assign.specs.Instance.{Instance}
use Rattle.waff_plan_text.specs.Lines.{text_of}
use Rattle.waff_figures.specs.ByName.{message_names}
use Rattle.waff_figures.specs.WaitText.{are_alike}
use Rattle.waff_figures.specs.declared.grouping.Grouping.{Grouping}
use Rattle.waff_figures.proofs.WaitUnique.{alike_laws}
use Rattle.waff_limits.specs.Lifted.{AreLifts}
use Rattle.waff_limits.specs.LiftedLaws.{AreTold}
use Rattle.waff_limits.specs.WhyLines.{why_lines}
use Rattle.waff_limits.specs.WhyRows.{AreRows, same_kind}
use Rattle.waff_limits.specs.declared.lifted.Lift.{Lift}
use Rattle.waff_limits.specs.declared.why_rows.Row.{Row}
use Rattle.waff_limits.proofs.LiftRows.{kinds_are}
use Rattle.waff_limits.proofs.LiftedLists.{lifts_are_one}
use Rattle.waff_limits.proofs.WhyOrder.{rows_are_one}
use Rattle.waff_tool.specs.WhyText.{TellsWhy}

module _ (grouping : Grouping) (layout : Hierarchy) (instance : Instance) where
  abbrev kind : Lift → Lift → Bool
  kind = same_kind (are_alike grouping instance.assigned (message_names instance.trace.messages)) layout.spaces

  kind_laws : IsEquivalence kind
  kind_laws =
      let names = message_names instance.trace.messages in
      kinds_are (are_alike grouping instance.assigned names) layout.spaces (alike_laws grouping instance.assigned names)

  -- what is told of these rows
  pub told_text : (text : List ℕ)
      → ((alike : Lift → Lift → Bool) (lifts : List Lift) (rows : List Row) → IsEquivalence alike → AreRows alike lifts rows → AreTold alike lifts rows)
      → (lifts : List Lift) × (rows : List Row) × AreLifts layout instance.trace.messages instance.assigned lifts
      × AreRows (same_kind (are_alike grouping instance.assigned (message_names instance.trace.messages)) layout.spaces) lifts rows
      × (text ≡ text_of (why_lines grouping layout instance.assigned (message_names instance.trace.messages) rows))
      → TellsWhy grouping layout instance text
  told_text text adds (lifts, rows, are_lifts, are_rows, lines) =
      let told = adds kind lifts rows kind_laws are_rows in
      record {
        lifts = lifts;
        rows = rows;
        are_lifts = are_lifts;
        are_rows = are_rows;
        messages_add_up = told.messages;
        costs_add_up = told.costs;
        lines = lines;
      }

  pub why_is_one : AtMostOne (TellsWhy grouping layout instance)
  why_is_one text other p q =
      let names = message_names instance.trace.messages in
      let lifts = lifts_are_one layout instance.trace.messages instance.assigned p.lifts q.lifts p.are_lifts q.are_lifts in
      let rows = rows_are_one kind q.lifts p.rows q.rows (subst (λ ls. AreRows kind ls p.rows) lifts p.are_rows) q.are_rows in
      p.lines ∙ ap (λ rs. text_of (why_lines grouping layout instance.assigned names rs)) rows ∙ sym q.lines
