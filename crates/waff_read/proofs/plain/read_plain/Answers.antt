-- The messages so far, and those of the rest, are those of all records.
use Rattle.std.proofs.Common.{refl, sym, ap, ◌∙◌, arith, rules}
use Rattle.std.proofs.lemmas.Bool.{eqb-true}
use Rattle.waff_model.proofs.TraceLemmas.{max_messages-most}
use Rattle.waff_parse.proofs.Laws.{with_front-nil}
use Rattle.waff_read.specs.Places.{behind, next_place, place_at}
use Rattle.waff_read.specs.Plain.{records_in}
use Rattle.waff_read.specs.declared.place.Place.{Place}
use Rattle.waff_read.proofs.PlainLaws.{none_is_plain, records_in-end, records_of-text}
use Rattle.waff_read.proofs.TraceLaws.{behind-awaited, behind-ops, behind-push, next-fits, walk-message, whole-messages}
use Rattle.waff_read.proofs.plain.read_plain.Goals as goal

pub loop-rest-init : goal.loop-rest-init
unfolding behind
loop-rest-init c =
    let none = c.new-list.ensures.items in
    (search rules, rw c.in-Ok.ensures.cases.0 (none_is_plain c.args.bytes.now c.memchr2.result c.memchr2.ensures (sym c.is_some.ensures ∙ c.if-is_some.false)), rw (none, c.at-place.ensures) refl, rw c.at-place.ensures (omega arith), rw (none, c.at-place.ensures) (with_front-nil _))

pub next-place-requires-clause-at : goal.next-place-requires-clause-at
next-place-requires-clause-at c =
    let fits = next-fits c.args.version c.args.spaces.now c.loop-rest.place (records_in c.loop-rest.rest.now) (records_in c.in_ok-message.others.now) c.in_ok-message.message c.in_ok-message.ensures.message in
    omega (arith, fits.counted, max_messages-most c.args.version)

pub next-place-requires-clause-ops : goal.next-place-requires-clause-ops
next-place-requires-clause-ops c =
    let fits = next-fits c.args.version c.args.spaces.now c.loop-rest.place (records_in c.loop-rest.rest.now) (records_in c.in_ok-message.others.now) c.in_ok-message.message c.in_ok-message.ensures.message in
    fits.room

pub next-place-requires-clause-awaited : goal.next-place-requires-clause-awaited
next-place-requires-clause-awaited c =
    let fits = next-fits c.args.version c.args.spaces.now c.loop-rest.place (records_in c.loop-rest.rest.now) (records_in c.in_ok-message.others.now) c.in_ok-message.message c.in_ok-message.ensures.message in
    omega (arith, fits.after.few, c.loop-rest.invariant.3)

pub loop-rest-preserved : goal.loop-rest-preserved
loop-rest-preserved c =
    let pushed = rw (sym c.in_ok-ok.ensures.variant) at c.push.ensures.items in
    let fits = next-fits c.args.version c.args.spaces.now c.loop-rest.place (records_in c.loop-rest.rest.now) (records_in c.in_ok-message.others.now) c.in_ok-message.message c.in_ok-message.ensures.message in
    let before = c.loop-rest.invariant in (
      search rules,
      c.in_ok-message.ensures.plain,
      rw pushed (c.next-place.ensures ∙ ap (λ (p : Place). next_place p c.in_ok-message.message) before.2 ∙ sym (behind-push (place_at c.args.at) c.loop-rest.list.items c.in_ok-message.message)),
      rw c.next-place.ensures (omega (arith, fits.after.few, before.3)),
      rw (pushed, c.next-place.ensures)
          (walk-message c.args.version c.args.spaces.now c.loop-rest.place c.loop-rest.list.items (records_in c.loop-rest.rest.now) (records_in c.in_ok-message.others.now) c.in_ok-message.message c.in_ok-message.ensures.message
          ∙ before.4),
    )

pub returns-clause-messages : goal.returns-clause-messages
returns-clause-messages c =
    let none = records_in-end c.loop-rest.rest.now (eqb-true _ 0 (sym c.is_empty.ensures ∙ c.loop-rest-test.false)) in
    rw (c.of.ensures, records_of-text c.args.bytes.now (sym c.begins_as_mark.ensures ∙ c.if-begins_as_mark.false))
    (whole-messages c.args.version c.args.spaces.now c.loop-rest.place (place_at c.args.at) c.loop-rest.list.items (records_in c.loop-rest.rest.now) (records_in c.args.bytes.now) none
    (rw c.in-Ok.ensures.cases.0 at c.loop-rest.invariant.4))

pub returns-clause-ops : goal.returns-clause-ops
returns-clause-ops c =
    let here = ap (λ (p : Place). p.ops) c.loop-rest.invariant.2 in
    rw c.of.ensures (omega (arith, here, behind-ops (place_at c.args.at) c.loop-rest.list.items))

pub returns-clause-awaited : goal.returns-clause-awaited
returns-clause-awaited c =
    let here = ap (λ (p : Place). p.awaited) c.loop-rest.invariant.2 in
    rw c.of.ensures (omega (arith, here, behind-awaited (place_at c.args.at) c.loop-rest.list.items))
