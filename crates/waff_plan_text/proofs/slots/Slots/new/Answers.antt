use Rattle.std.proofs.Common.{◌≡◌, ◌++◌, arith, ap, length, ◌∙◌, replicate, [], ◌∷◌}
use Rattle.std.proofs.lemmas.List.{length-replicate, replicate-append-replicate}
use Rattle.waff_plan_text.proofs.SlotLaws.{All-replicate, no_slot}
use Rattle.waff_plan_text.proofs.slots.Slots.new.Goals as goal

pub loop-message-init : goal.loop-message-init
loop-message-init c = record { places = c.in_ok-places.ensures.items; room = c.in_ok-places.ensures.capacity }

pub loop-message-preserved : goal.loop-message-preserved
loop-message-preserved c = record {
  places = c.push_reserved.ensures.items ∙ ap (λ l. l ++ no_slot ∷ []) c.loop-message.invariant.places ∙ replicate-append-replicate c.loop-message._message 1 no_slot;
  room = rw c.push_reserved.ensures.capacity c.loop-message.invariant.room;
}

pub push_reserved-requires : goal.push_reserved-requires
push_reserved-requires c =
    let i = c.loop-message.invariant in
    let len = ap length i.places ∙ length-replicate c.loop-message._message no_slot in
    omega (arith, len, i.room)

all : goal.invariant_of-result
all c =
    let n : c.loop-message._message ≡ c.args.messages = omega arith in
    let i = c.loop-message.invariant.places in
    let len = ap length i ∙ length-replicate c.loop-message._message no_slot in
    let f = c.ranges.messages.fits in
    (omega (arith, len), rw i (All-replicate c.loop-message._message))

pub invariant_of-result : goal.invariant_of-result
invariant_of-result c = all c

pub returns : goal.returns
returns c = let n : c.loop-message._message ≡ c.args.messages = omega arith in c.loop-message.invariant.places ∙ ap (λ k. replicate k no_slot) n
