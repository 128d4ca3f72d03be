-- Each start of a row is within the limit.
use Rattle.std.proofs.Common.{◌≤◌, ◌∙◌}
use Rattle.std.proofs.lemmas.List.Elements.{All-map}
use Rattle.waff_model.specs.declared.limits.TheConstants.{MAX_TICK}
use Rattle.waff_plan_text.specs.declared.row.Row.{Row}
use Rattle.waff_plan_text.proofs.given.GivenPlan.plan.Goals as goal

pub of_starts-requires-clause-printable : goal.of_starts-requires-clause-printable
of_starts-requires-clause-printable c =
    let s = c.in_ok-starts.ensures in
    let same = c.as_slice.ensures.value ∙ s.starts in
    let rows = c.args.self.now.rows in
    rw same (All-map (λ start. start ≤ MAX_TICK) (λ (row : Row). row.start) rows (λ k d lt. (s.given.within k d lt).start))
