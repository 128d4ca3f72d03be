use Rattle.std.proofs.Common.{◌<◌, true, get_or, length, set, take, arith, sym, ◌∙◌, subst, length-set}
use Rattle.std.proofs.lemmas.List.{take_more}
use Rattle.waff_draw.proofs.LaneLemmas.{Tells, tells_more}
use Rattle.waff_draw.proofs.marks.marks.Goals as goal

pub loop-number-preserved : goal.loop-number-preserved
loop-number-preserved c =
    let marks = c.loop-number.marks.items in
    let numbers = c.args.numbers.now in
    let i = c.loop-number.number-index in
    let n = get_or numbers i 0 in
    let low : n < length marks = omega (arith, c.loop-number.invariant.count, c.requires i 0 c.loop-number-test.true) in
    record {
      count = length-set marks n true ∙ c.loop-number.invariant.count;
      tells = subst (Tells (set marks n true)) (sym (take_more numbers i 0 c.loop-number-test.true))
          (tells_more marks (take i numbers) n low c.loop-number.invariant.tells);
    }
