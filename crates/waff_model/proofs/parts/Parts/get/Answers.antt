-- The message is in the first part that has a place for it.
use Rattle.std.proofs.Common.{◌≡◌, ◌<◌, Some, Vec, Global, List, arith, subst, length, length-append, ap}
use Rattle.std.specs.List.{flat_map, slice_get}
use Rattle.std.proofs.lemmas.List.{take_all}
use Rattle.waff_model.specs.declared.message.Message.{Message}
use Rattle.waff_model.proofs.PartLemmas.{in_last, in_part, left_behind}
use Rattle.waff_model.proofs.parts.Parts.get.Goals as goal

abbrev items : Vec Message Global → List Message
items part = part.items

pub loop-part-init : goal.loop-part-init
loop-part-init c = omega arith

pub returns-then-left-len : goal.returns-then-left-len
returns-then-left-len c =
    let part = c.part-item.result in
    let within : c.loop-part.left < length part.items = omega (arith, c.if-left-len.true, c.len.ensures, part.ok.0) in
    subst (λ all. slice_get all c.args.place ≡ Some c.index.result.now) c.self.view_is
    (rw (← c.deref-part-items.ensures.value)
    (in_part items c.deref-part-items.result.now c.self.inside.last.items c.args.place c.loop-part.left c.loop-part.part-index c.loop-part.invariant
    part c.index.result.now c.loop-part-test.true c.part-item.is within c.index.ensures))

pub loop-part-preserved : goal.loop-part-preserved
loop-part-preserved c =
    let part = c.part-item.result in
    let long : length part.items ≡ c.len-left.result = omega (arith, c.len-left.ensures, part.ok.0) in
    rw (← long)
    (left_behind items c.deref-part-items.result.now c.self.inside.last.items c.args.place c.loop-part.left c.loop-part.part-index c.loop-part.invariant
    part c.loop-part-test.true c.part-item.is (omega (arith, c.if-left-len.false, c.len.ensures, part.ok.0)))

pub index-requires-2 : goal.index-requires-2
index-requires-2 c =
    let all = take_all c.loop-part.part-index c.deref-part-items.result.now c.loop-part-test.false in
    let count = rw all at c.loop-part.invariant in
    let whole = c.self.view_is in
    omega (arith, c.requires, count, ap length whole, length-append (flat_map items c.self.inside.front.items) c.self.inside.last.items, ap (λ ps. length (flat_map items ps)) c.deref-part-items.ensures.value, c.self.inside.last.ok.0)

pub returns : goal.returns
returns c =
    let within : c.loop-part.left < length c.self.inside.last.items = omega (arith, index-requires-2 c.before, c.self.inside.last.ok.0) in
    subst (λ all. slice_get all c.args.place ≡ Some c.index-2.result.now) c.self.view_is
    (rw (← c.deref-part-items.ensures.value)
    (in_last items c.deref-part-items.result.now c.self.inside.last.items c.args.place c.loop-part.left c.loop-part.part-index c.loop-part.invariant
    c.index-2.result.now c.loop-part-test.false within c.index-2.ensures))
