use Rattle.std.proofs.Common.{◌-◌, ◌<◌, length, sym, ◌∙◌, arith}
use Rattle.std.proofs.lemmas.Bool.{eq-eqb, eqb-true}
use Rattle.std.proofs.lemmas.List.{get_or_default}
use Rattle.waff_model.specs.Numbers.{IsAmongFirst}
use Rattle.waff_line.proofs.Noting.{free_idle, idle_free}
use Rattle.waff_line.proofs.notes.Notes.is_free.Goals as goal

pub returns : goal.returns
returns c =
    let inside = c.self.inside in
    let runs = inside.runs.items in
    let x = c.args.worker in
    let worker : IsAmongFirst (length runs) x = record {
      from = omega (arith, c.if-worker-eq0.false);
      to = omega (arith, c.if-worker-len.false, c.len.ensures, inside.runs.ok);
    } in
    let within : x - 1 < length runs = omega (arith, worker.from, worker.to) in
    let read = get_or_default runs (x - 1) c.index.result.now 0 within in (
      λ idle. idle_free inside.clock inside.turns.items runs c.args.self.now c.self.view_is c.self.invariant x worker
          (sym read ∙ sym c.index.ensures ∙ eqb-true c.index.result.now 0 idle),
      λ free. eq-eqb c.index.result.now 0
          (c.index.ensures ∙ read ∙ free_idle inside.clock inside.turns.items runs c.args.self.now c.self.view_is c.self.invariant x worker free),
    )
