use Rattle.std.proofs.Common.{ℕ, [], ◌∷◌, ◌++◌, cond, max, sym, subst}
use Rattle.waff_model.specs.declared.cell.Cell.{Cell}
use Rattle.waff_limits.specs.Edges.{place_of}
use Rattle.waff_limits.specs.Readings.{AreRead}
use Rattle.waff_limits.specs.Runs.{is_in_run}
use Rattle.waff_limits.proofs.RunLemmas.{cell_of}
use Rattle.waff_limits.proofs.SkyLemmas.{reading_of, run_read}
use Rattle.waff_limits.proofs.readings.Readings.add_run.Goals as goal

pub returns : goal.returns
returns c = λ peak are.
    let run = c.args.run in
    let all = c.push.new.self.items in
    let next : Cell → ℕ = λ cell. max (peak cell) (cond (is_in_run run cell) c.args.cost 0) in
    subst (λ p. AreRead (all ++ reading_of p c.place_of-last.result c.args.cost ∷ []) next) (sym c.place_of-first.ensures.place)
    (subst (λ p. AreRead (all ++ reading_of (place_of (cell_of run.space run.first)) p c.args.cost ∷ []) next) (sym c.place_of-last.ensures.place)
    (run_read all run.space run.first run.last c.args.cost peak c.place_of-first.ensures.small c.place_of-last.ensures.small
    (subst (λ rs. AreRead rs peak) (sym c.in_ok-push.ensures.items) are)))
