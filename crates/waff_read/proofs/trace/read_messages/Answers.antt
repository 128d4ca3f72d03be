-- The messages so far, and those of the records left, are those of all records.
use Rattle.std.proofs.Common.{refl, sym, ap, ◌∙◌, arith}
use Rattle.std.proofs.lemmas.Result.{err_from_is_err_and}
use Rattle.waff_model.proofs.TraceLemmas.{max_messages-most}
use Rattle.waff_parse.specs.Rows.{records_left}
use Rattle.waff_parse.proofs.Laws.{with_front-nil}
use Rattle.waff_read.specs.Places.{behind, next_place, place_at}
use Rattle.waff_read.specs.declared.place.Place.{Place}
use Rattle.waff_read.proofs.TraceLaws.{behind-awaited, behind-ops, behind-push, error-messages, next-fits, walk-message, whole-messages}
use Rattle.waff_read.proofs.trace.read_messages.Goals as goal

pub loop-list-init : goal.loop-list-init
unfolding behind
loop-list-init c =
    let none = c.new-list.ensures.items in record {
      reads = c.requires;
      place = rw (none, c.at-place.ensures) refl;
      awaited = rw c.at-place.ensures (omega arith);
      messages = rw (none, c.at-place.ensures) (with_front-nil _);
    }

pub returns-in_err-message-clause-messages : goal.returns-in_err-message-clause-messages
returns-in_err-message-clause-messages c =
    let p = err_from_is_err_and c.from_residual.result c.from_residual.ensures.1 in
    rw (p.1, p.2) (error-messages c.args.version c.args.spaces.now c.loop-list.place (place_at c.args.at) c.loop-list.list.items (records_left c.loop-list.rdr) (records_left c.next_message.new.rdr) (records_left c.args.rdr.now) c.in_err-message.field-0.0
    c.in_err-message.ensures.message c.loop-list.invariant.messages)

pub next-place-requires-clause-at : goal.next-place-requires-clause-at
next-place-requires-clause-at c =
    let given = rw c.in-Some.is at c.in_ok-message.ensures.message in
    let fits = next-fits c.args.version c.args.spaces.now c.loop-list.place (records_left c.loop-list.rdr) (records_left c.next_message.new.rdr) c.in-Some.message given in
    omega (arith, fits.counted, max_messages-most c.args.version)

pub next-place-requires-clause-ops : goal.next-place-requires-clause-ops
next-place-requires-clause-ops c =
    let given = rw c.in-Some.is at c.in_ok-message.ensures.message in
    let fits = next-fits c.args.version c.args.spaces.now c.loop-list.place (records_left c.loop-list.rdr) (records_left c.next_message.new.rdr) c.in-Some.message given in
    fits.room

pub next-place-requires-clause-awaited : goal.next-place-requires-clause-awaited
next-place-requires-clause-awaited c =
    let given = rw c.in-Some.is at c.in_ok-message.ensures.message in
    let fits = next-fits c.args.version c.args.spaces.now c.loop-list.place (records_left c.loop-list.rdr) (records_left c.next_message.new.rdr) c.in-Some.message given in
    omega (arith, fits.after.few, c.loop-list.invariant.awaited)

pub loop-list-preserved : goal.loop-list-preserved
loop-list-preserved c =
    let given = rw c.in-Some.is at c.in_ok-message.ensures.message in
    let fits = next-fits c.args.version c.args.spaces.now c.loop-list.place (records_left c.loop-list.rdr) (records_left c.next_message.new.rdr) c.in-Some.message given in
    let pushed = c.in_ok-push.ensures.items in
    let before = c.loop-list.invariant in record {
      reads = c.in_ok-message.ensures.reads;
      place = rw pushed
          (c.next-place.ensures ∙ ap (λ (p : Place). next_place p c.in-Some.message) before.place
          ∙ sym (behind-push (place_at c.args.at) c.loop-list.list.items c.in-Some.message));
      awaited = rw c.next-place.ensures (omega (arith, fits.after.few, before.awaited));
      messages = rw (pushed, c.next-place.ensures)
          (walk-message c.args.version c.args.spaces.now c.loop-list.place c.loop-list.list.items (records_left c.loop-list.rdr) (records_left c.next_message.new.rdr) c.in-Some.message given ∙ before.messages);
    }

pub returns-clause-messages : goal.returns-clause-messages
returns-clause-messages c =
    let none = rw c.in_default.is at c.in_ok-message.ensures.message in
    rw c.of.ensures (whole-messages c.args.version c.args.spaces.now c.loop-list.place (place_at c.args.at) c.loop-list.list.items (records_left c.loop-list.rdr) (records_left c.args.rdr.now)
    none c.loop-list.invariant.messages)

pub returns-clause-ops : goal.returns-clause-ops
returns-clause-ops c =
    let here = ap (λ (p : Place). p.ops) c.loop-list.invariant.place in
    rw c.of.ensures (omega (arith, here, behind-ops (place_at c.args.at) c.loop-list.list.items))

pub returns-clause-awaited : goal.returns-clause-awaited
returns-clause-awaited c =
    let here = ap (λ (p : Place). p.awaited) c.loop-list.invariant.place in
    rw c.of.ensures (omega (arith, here, behind-awaited (place_at c.args.at) c.loop-list.list.items))
