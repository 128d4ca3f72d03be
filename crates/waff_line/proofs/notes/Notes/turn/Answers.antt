use Rattle.std.proofs.Common.{◌≡◌, ℕ, ap, sym, ◌∙◌, arith}
use Rattle.waff_line.specs.Machine.{State, Turn, turn_of}
use Rattle.waff_line.specs.Noted.{shown, state_of}
use Rattle.waff_line.proofs.Noting.{turn_at}
use Rattle.waff_line.proofs.notes.Notes.turn.Goals as goal

pub returns : goal.returns
returns c =
    let inside = c.self.inside in
    let m = c.args.m in
    let there = sym (turn_at inside.clock inside.turns.items m c.index.result.now (omega (arith, c.if-place-eq0.false)) (omega (arith, c.if-place-len.false, c.len.ensures, inside.turns.ok))) in
    let turn : shown c.index.result.now ≡ turn_of (state_of inside.clock inside.turns.items) m = ap shown c.index.ensures ∙ there in
    record {
      turn = turn ∙ ap (λ (p : State × ℕ). turn_of p.0 m) c.self.view_is;
      past = omega (arith, ap (λ (t : Turn). t.finish) turn, c.self.invariant.past m, ap (λ (p : State × ℕ). p.0.clock) c.self.view_is);
    }
