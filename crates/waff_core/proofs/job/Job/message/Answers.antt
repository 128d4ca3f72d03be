use Rattle.std.proofs.Common.{◌≡◌, ◌-◌, ◌<◌, [], length, All, arith, sym, ◌∙◌, ap, subst}
use Rattle.waff_model.specs.Cells.{cells_of}
use Rattle.waff_model.specs.Layout.{IsCell}
use Rattle.waff_cells.specs.Serial.{operations, ops_of}
use Rattle.waff_core.specs.Job.{JobValue, IsJob}
use Rattle.waff_core.proofs.Listing.{ops_of-at, operations_at}
use Rattle.waff_core.proofs.job.Job.message.Goals as goal

pub returns-clause-ops : goal.returns-clause-ops
returns-clause-ops c =
    let messages = c.self.inside.trace.messages in
    let here : ops_of (operations messages) c.args.n ≡ c.message.result.now.ops
    = ops_of-at (operations messages) c.args.n c.requires.number.from ∙ operations_at messages (c.args.n - 1) c.message.result.now c.message.ensures.message in
    sym here ∙ ap (λ (job : JobValue). ops_of job.ops c.args.n) c.self.view_is

pub returns-clause-cells : goal.returns-clause-cells
returns-clause-cells c =
    let job = c.args.self.now in
    let is : IsJob job = subst IsJob c.self.view_is c.self.invariant in
    let within : c.args.n - 1 < length job.ops = omega (arith, c.requires.number.from, c.requires.number.to) in
    let same = returns-clause-ops c ∙ ops_of-at job.ops c.args.n c.requires.number.from in
    subst (λ ops. All (IsCell job.layout.spaces) (cells_of ops)) (sym same) (is.cells (c.args.n - 1) [] within)
