use Rattle.std.proofs.Common.{◌≡◌, ℕ, List, [], ◌∷◌, ◌++◌, get_or, take, arith, sym, ap, subst}
use Rattle.std.proofs.lemmas.List.{get_or_default, take_all, take_more}
use Rattle.std.proofs.lemmas.Result.{on_ok_weaker}
use Rattle.waff_model.specs.declared.cell.Cell.{Cell}
use Rattle.waff_limits.specs.Edges.{AreUsed, edges_of}
use Rattle.waff_limits.specs.Readings.{ArePeaks, peak_at, with_peak}
use Rattle.waff_limits.specs.declared.readings.Reading.{Reading}
use Rattle.waff_limits.proofs.Skyline.{AreLaid, none_yet, one_laid}
use Rattle.waff_limits.proofs.readings.lay_all.Goals as goal

-- the reading at a place, from 0
abbrev reading_at : List Reading → ℕ → Reading
reading_at readings at = get_or readings at (record { first = 0; last = 0; cost = 0 })

pub loop-i-init : goal.loop-i-init
loop-i-init c =
    let edges = edges_of c.args.edges.now in
    record {
      laid = subst (λ going. AreLaid edges edges going [] 0) (sym c.none-going.ensures) (none_yet edges);
      small = omega arith;
      ahead = λ j d from low. omega arith;
    }

pub loop-i-preserved : goal.loop-i-preserved
loop-i-preserved c =
    let readings = c.args.readings.now in
    let i = c.loop-i.i in
    let within = c.loop-i-test.true in
    let reading : Reading = reading_at readings i in
    let first = edges_of c.args.edges.now in
    let now = edges_of c.loop-i.edges in
    let next = edges_of c.lay_until.new.edges in
    let going = c.loop-i.going in
    let ended = c.lay_until.new.going in
    let begun = c.begin.new.self in
    let at = c.loop-i.at in
    let laying = subst (λ n. (used : Cell → ℕ) (peak : ℕ → ℕ) → AreUsed now (with_peak used peak at) → ArePeaks going peak at → AreUsed next (with_peak used peak n))
    c.first-next.ensures.first c.in_ok-lay_until.ensures.laid in
    let going_on = subst (λ n. (peak : ℕ → ℕ) → ArePeaks going peak at → ArePeaks ended peak n) c.first-next.ensures.first c.in_ok-lay_until.ensures.go_on in
    let laid = one_laid first now next going ended begun (take i readings) at reading c.loop-i.invariant.laid (omega (arith, c.last-last.ensures.last, c.last-last.ensures.small))
    laying going_on c.in_ok-begin.ensures in
    record {
      laid = subst (λ rs. AreLaid first next begun rs c.first-next.result) (sym (take_more readings i (record { first = 0; last = 0; cost = 0 }) within))
          (subst (λ n. AreLaid first next begun (take i readings ++ reading ∷ []) n) (sym c.first-next.ensures.first) laid);
      small = c.first-next.ensures.small;
      ahead = λ j d from low.
          let rises = c.requires.rising i j d (omega (arith, from)) low in
          let same : (get_or readings i d).first ≡ reading.first = ap (λ (r : Reading). r.first) (get_or_default readings i d _ within) in
          omega (arith, rises, same, c.first-next.ensures.first);
    }

pub returns : goal.returns
returns c =
    let readings = c.args.readings.now in
    let first = edges_of c.args.edges.now in
    let now = edges_of c.loop-i.edges in
    let are = subst (λ rs. AreLaid first now c.loop-i.going rs c.loop-i.at) (take_all c.loop-i.i readings c.loop-i-test.false) c.loop-i.invariant.laid in
    on_ok_weaker c.lay_until-2.result
    (λ told used is. (told used (peak_at readings) (are.laid used is) are.go_on, are.none))
    c.lay_until-2.ensures.laid
