use Rattle.std.proofs.Common.{get_or, sym, ◌∙◌}
use Rattle.std.proofs.lemmas.List.{length-set}
use Rattle.waff_locks.proofs.Choosing.{locked_all, locked_more}
use Rattle.waff_locks.proofs.candidates.locked_too.Goals as goal

pub loop-i-preserved : goal.loop-i-preserved
loop-i-preserved c = record {
  count = length-set c.loop-i.locked.items (get_or c.args.spaces.now c.loop-i.i 0) c.args.kind ∙ c.loop-i.invariant.count;
  rest = sym (locked_more c.args.kind c.args.spaces.now c.loop-i.i 0 c.loop-i.locked.items c.loop-i-test.true) ∙ c.loop-i.invariant.rest;
}

pub returns : goal.returns
returns c =
    sym (locked_all c.args.kind c.args.spaces.now c.loop-i.i c.loop-i.locked.items c.loop-i-test.false) ∙ c.loop-i.invariant.rest
