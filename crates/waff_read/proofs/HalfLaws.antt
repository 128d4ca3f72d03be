-- The messages of a text from those of its parts.
use Rattle.std.proofs.Common.{◌≡◌, ℕ, ◌+◌, ◌≤◌, List, [], ◌∷◌, ◌++◌, length, Bool, true, false, Option, Some, None, Result, Ok, Err, refl, sym, ap, subst, ◌∙◌, arith}
use Rattle.std.specs.Prelude.{IfOk, IfSome, ◌-◌, ◌==◌, if◌then◌else◌}
use Rattle.std.specs.Result.{result_ok}
use Rattle.std.proofs.lemmas.List.{nil_from_length}
use Rattle.std.proofs.lemmas.List.Sums.{sum_by-append}
use Rattle.waff_model.specs.Awaits.{awaited_in}
use Rattle.waff_model.specs.Layout.{Space}
use Rattle.waff_model.specs.Messages.{Arrivals, ops_in, sizes_of}
use Rattle.waff_model.specs.Versions.{has_after, max_messages}
use Rattle.waff_model.specs.declared.limits.TheConstants.{MAX_ALL_OPS, MAX_AWAITED}
use Rattle.waff_model.specs.declared.message.Message.{Message}
use Rattle.waff_model.specs.declared.message.Version.{Version}
use Rattle.waff_parse.specs.Fields.{field_of}
use Rattle.waff_parse.specs.Refusals.{◌>>=◌, told}
use Rattle.waff_parse.specs.Rows.{Record, is_text, records_of}
use Rattle.waff_parse.specs.Stopping.{Gives}
use Rattle.waff_parse.specs.declared.stop.Stop.{Stop}
use Rattle.waff_read.specs.Laws.{IsAfter}
use Rattle.waff_read.specs.Messages.{Columns, columns_of, columns_with, header_row, message_of, message_of_columns, message_of_row}
use Rattle.waff_read.specs.Places.{first_place, most_awaited, most_ops, next_place, place_at}
use Rattle.waff_read.specs.Traces.{header_of, message_at, messages_at, trace_of, trace_of_records, Spells}
use Rattle.waff_read.specs.TraceFaults.{at_record}
use Rattle.waff_read.specs.declared.place.Place.{Place}
use Rattle.waff_read.specs.declared.trace.Messages.{Messages}
use Rattle.waff_read.specs.declared.trace_fault.TraceFault.{TraceFault}
use Rattle.waff_read.specs.declared.trace_fault.TraceError.{TraceError}
use Rattle.waff_read.proofs.ExactLaws.{columns-read, read-columns}
use Rattle.waff_read.proofs.MessageLaws.{fits-most}
use Rattle.waff_read.proofs.TraceLaws.{awaited_in-cons, fits-message, is-ok, message_at-no-text, message_at-text, none_read, ops_in-cons, parts_of}

-- what is known of an answer is known of its value
pub some-has : {A : Type 0} (P : A → Type 0) (o : Option A) (x : A) → o ≡ Some x → IfSome o P → P x
some-has P o x is h = rw is at h

pub ok-has : {A E : Type 0} (P : A → Type 0) (r : Result A E) (x : A) → Some x ≡ result_ok r → IfOk r P → P x
ok-has P (Ok y) x is h =
    let same : x ≡ y = cc in
    rw same h
ok-has P (Err e) x is h = absurd (cc is)

pub read-is : {F X : Type 0} (r : Result X (Stop F)) (x : X) (read : Result X F) → Some x ≡ result_ok r → Gives (λ y. y) r read → read ≡ Ok x
read-is (Ok y) x read is h =
    let same : x ≡ y = cc in
    rw same h
read-is (Err e) x read is h = absurd (cc is)

-- of a version without lists there is no field for one
no_field : (version : Version) (row : Record) (columns : Columns) → has_after version ≡ false → columns_of version row ≡ Some columns → columns.after ≡ None
no_field version row columns none is = by (length row == length (header_row version)) is
  where
    there : Columns
    there = columns_with version (field_of row 0) (field_of row 1) (field_of row 2) (field_of row 3) (field_of row 4) (field_of row 5) (field_of row (length row - 1))

    by : (b : Bool) → (if b then Some there else None) ≡ Some columns → columns.after ≡ None
    by true e =
        let same : there ≡ columns = cc in
        ap (λ (c : Columns). c.after) (sym same) ∙ rw none refl
    by false e = absurd (cc)

-- two places have the same number, so far as it counts: it does for lists alone
abbrev HasNumberOf : Version → Place → Place → Type 0
HasNumberOf version place to = has_after version ≡ true → place.at ≡ to.at

-- so a record is the same message at any place of its number where neither it nor its operations nor its list are too many
columns-anywhere : (version : Version) (spaces : List Space) (place to : Place) (row : Record) (columns : Columns) (message : Message)
    → columns_of version row ≡ Some columns → HasNumberOf version place to
    → message_of_columns version spaces place columns ≡ Ok message → to.at ≤ max_messages version + 1 → length message.ops ≤ most_ops version to
    → length message.after ≤ most_awaited to
    → message_of_columns version spaces to columns ≡ Ok message
columns-anywhere version spaces place to row columns message is numbered h few room free =
    let s = columns-read version spaces place columns message h in
    read-columns version spaces to columns message (record {
      named = s.named;
      name = s.name;
      cost = s.cost;
      some_cost = s.some_cost;
      within_cost = s.within_cost;
      filled = s.filled;
      ops = s.ops;
      within_ops = room;
      counted = few;
      release = s.release;
      client = s.client;
      think = s.think;
      after = by (has_after version) refl s.after;
      within_after = free;
    })
  where
    by : (b : Bool) → has_after version ≡ b → IsAfter (place.at - 1) columns.after message.after → IsAfter (to.at - 1) columns.after message.after
    by true has list = subst (λ (at : ℕ). IsAfter (at - 1) columns.after message.after) (numbered has) list
    by false none list =
        let no = no_field version row columns none is in
        rw no (rw no at list)

module _ (version : Version) (spaces : List Space) where
  message-anywhere : (place to : Place) (row : Record) (message : Message) → HasNumberOf version place to
      → message_of version spaces place row ≡ Ok message → to.at ≤ max_messages version + 1 → length message.ops ≤ most_ops version to
      → length message.after ≤ most_awaited to
      → message_of version spaces to row ≡ Ok message
  message-anywhere place to row message numbered h few room free = by (columns_of version row) refl h
    where
      by : (o : Option Columns) → columns_of version row ≡ o → message_of_row version spaces place o ≡ Ok message → message_of_row version spaces to o ≡ Ok message
      by None is e = absurd (cc e)
      by (Some columns) is e = columns-anywhere version spaces place to row columns message is numbered e few room free

  record-anywhere : (place to : Place) (row : Record) (message : Message) → HasNumberOf version place to
      → message_at version spaces place row ≡ Ok message → to.at ≤ max_messages version + 1 → to.ops + length message.ops ≤ MAX_ALL_OPS
      → to.awaited + length message.after ≤ MAX_AWAITED
      → message_at version spaces to row ≡ Ok message
  record-anywhere place to row message numbered h few room free =
      let fits = fits-message version spaces place row message h in
      by (fits-most version to (length message.ops) fits.within.within_ops room) (is_text row) refl
    where
      untold : (r : Result Message TraceFault) → told (at_record place.at) r ≡ Ok message → r ≡ Ok message
      untold (Ok m) e = ap Ok (is-ok m message e)
      untold (Err e) f = absurd (cc f)

      by : length message.ops ≤ most_ops version to → (b : Bool) → is_text row ≡ b → message_at version spaces to row ≡ Ok message
      by most true t =
          let read = untold (message_of version spaces place row) (sym (message_at-text version spaces place row t) ∙ h) in
          message_at-text version spaces to row t ∙ rw (message-anywhere place to row message numbered read few most (omega (arith, free))) refl
      by most false t = absurd (cc (sym (message_at-no-text version spaces place row t) ∙ h))

  -- so are records in a row
  records-anywhere : (place to : Place) (rows : List Record) (messages : List Message) → HasNumberOf version place to
      → messages_at version spaces place rows ≡ Ok messages → to.at + length messages ≤ max_messages version + 2 → to.ops + ops_in messages ≤ MAX_ALL_OPS
      → to.awaited + awaited_in messages ≤ MAX_AWAITED
      → messages_at version spaces to rows ≡ Ok messages
  unfolding messages_at
  records-anywhere place to [] messages numbered h few room free = h
  records-anywhere place to (row ∷ rows) messages numbered h few room free =
      let p = parts_of version spaces place row rows messages h in
      let few_parts : to.at + length (p.first ∷ p.others) ≤ max_messages version + 2 = subst (λ (all : List Message). to.at + length all ≤ max_messages version + 2) (sym p.is) few in
      let room_parts : to.ops + ops_in (p.first ∷ p.others) ≤ MAX_ALL_OPS = subst (λ (all : List Message). to.ops + ops_in all ≤ MAX_ALL_OPS) (sym p.is) room in
      let free_parts : to.awaited + awaited_in (p.first ∷ p.others) ≤ MAX_AWAITED = subst (λ (all : List Message). to.awaited + awaited_in all ≤ MAX_AWAITED) (sym p.is) free in
      let sum = ops_in-cons p.first p.others in
      let lists = awaited_in-cons p.first p.others in
      let first = record-anywhere place to row p.first numbered p.read (omega (arith, few_parts)) (omega (arith, room_parts, sum)) (omega (arith, free_parts, lists)) in
      let others =
      records-anywhere (next_place place p.first) (next_place to p.first) rows p.others (λ has. ap (λ (at : ℕ). at + 1) (numbered has)) p.more (omega (arith, few_parts))
      (omega (arith, room_parts, sum)) (omega (arith, free_parts, lists)) in
      rw (first, others) (ap Ok p.is)

  -- the messages of two parts, none of them and of their operations and lists being too many, are those of the whole, where the second was read for
  -- the number that is behind the first
  messages-append : (place from : Place) (xs ys : List Record) (ms ns : List Message)
      → (has_after version ≡ true → from.at ≡ place.at + length ms)
      → messages_at version spaces place xs ≡ Ok ms → messages_at version spaces from ys ≡ Ok ns
      → place.at + length ms + length ns ≤ max_messages version + 2 → place.ops + ops_in ms + ops_in ns ≤ MAX_ALL_OPS
      → place.awaited + awaited_in ms + awaited_in ns ≤ MAX_AWAITED
      → messages_at version spaces place (xs ++ ys) ≡ Ok (ms ++ ns)
  unfolding messages_at
  messages-append place from [] ys ms ns behind h k few room free =
      let empty : [] ≡ ms = none_read version spaces place ms h in
      let few_none : place.at + length ns ≤ max_messages version + 2 = omega (arith, few) in
      let room_none : place.ops + ops_in ns ≤ MAX_ALL_OPS = omega (arith, room) in
      let free_none : place.awaited + awaited_in ns ≤ MAX_AWAITED = omega (arith, free) in
      let here : HasNumberOf version from place = λ has. subst (λ (none : List Message). from.at ≡ place.at + length none) (sym empty) (behind has) ∙ omega arith in
      rw (← empty) (records-anywhere from place ys ns here k few_none room_none free_none)
  messages-append place from (row ∷ xs) ys ms ns behind h k few room free =
      let p = parts_of version spaces place row xs ms h in
      let few_parts : place.at + length (p.first ∷ p.others) + length ns ≤ max_messages version + 2 = subst (λ (all : List Message). place.at + length all + length ns ≤ max_messages version + 2) (sym p.is) few in
      let room_parts : place.ops + ops_in (p.first ∷ p.others) + ops_in ns ≤ MAX_ALL_OPS = subst (λ (all : List Message). place.ops + ops_in all + ops_in ns ≤ MAX_ALL_OPS) (sym p.is) room in
      let free_parts : place.awaited + awaited_in (p.first ∷ p.others) + awaited_in ns ≤ MAX_AWAITED = subst (λ (all : List Message). place.awaited + awaited_in all + awaited_in ns ≤ MAX_AWAITED) (sym p.is) free in
      let sum = ops_in-cons p.first p.others in
      let lists = awaited_in-cons p.first p.others in
      let one_less : has_after version ≡ true → from.at ≡ place.at + 1 + length p.others =
      λ has. subst (λ (all : List Message). from.at ≡ place.at + length all) (sym p.is) (behind has) ∙ omega arith in
      let more =
      messages-append (next_place place p.first) from xs ys p.others ns one_less p.more k (omega (arith, few_parts)) (omega (arith, room_parts, sum))
      (omega (arith, free_parts, lists)) in
      rw (p.read, more) (ap (λ (l : List Message). Ok (l ++ ns)) p.is)

-- the trace of a header alone, and messages behind it
trace-append : (newest : Version) (spaces : List Space) (xs ys : List Record) (trace : Arrivals) (ns : List Message)
    → trace_of_records newest spaces xs ≡ Ok trace → trace.messages ≡ [] → messages_at trace.version spaces first_place ys ≡ Ok ns
    → trace_of_records newest spaces (xs ++ ys) ≡ Ok (record { version = trace.version; sizes = sizes_of spaces; messages = ns })
unfolding trace_of_records
trace-append newest spaces [] ys trace ns h none k = absurd (cc h)
trace-append newest spaces (header ∷ xs) ys trace ns h none k = by (header_of newest (header ∷ xs)) refl
  where
    made : Version → List Message → Arrivals
    made version ms = record { version = version; sizes = sizes_of spaces; messages = ms }

    no_rows : (version : Version) (rows : List Record) → messages_at version spaces first_place rows ≡ Ok [] → rows ≡ []
    no_rows version [] p = refl
    no_rows version (row ∷ rows) p = let parts = parts_of version spaces first_place row rows [] p in let is = parts.is in absurd (cc)

    read : (version : Version) (r : Result (List Message) TraceError) → messages_at version spaces first_place xs ≡ r
        → r >>= (λ ms. Ok (made version ms)) ≡ Ok trace
        → messages_at version spaces first_place (xs ++ ys) >>= (λ ms. Ok (made version ms)) ≡ Ok (made trace.version ns)
    read version (Ok ms) p e =
        let is : made version ms ≡ trace = is-ok (made version ms) trace e in
        let v : version ≡ trace.version = ap (λ (t : Arrivals). t.version) is in
        let m : ms ≡ [] = ap (λ (t : Arrivals). t.messages) is ∙ none in
        let rows : xs ≡ [] = no_rows version xs (p ∙ ap Ok m) in
        let whole : messages_at version spaces first_place (xs ++ ys) ≡ Ok ns = rw (rows, v) k in
        rw (whole, ← v) refl
    read version (Err f) p e = absurd (cc e)

    by : (r : Result Version TraceError) → header_of newest (header ∷ xs) ≡ r
        → header_of newest (header ∷ xs) >>= (λ version. messages_at version spaces first_place (xs ++ ys) >>= (λ ms. Ok (made version ms))) ≡ Ok (made trace.version ns)
    by (Ok version) p = rw p (read version (messages_at version spaces first_place xs) refl (rw p at h))
    by (Err e) p = absurd (cc (rw p at h))

-- the messages of two parts of a text
spells-append : (version : Version) (spaces : List Space) (at behind : ℕ) (text first second : List ℕ) (ms ns all : List Message)
    → records_of text ≡ records_of first ++ records_of second
    → Spells version spaces at first ms → Spells version spaces behind second ns → (has_after version ≡ true → behind ≡ at + length ms)
    → at + length ms + length ns ≤ max_messages version + 2 → all ≡ ms ++ ns → ops_in all ≤ MAX_ALL_OPS → awaited_in all ≤ MAX_AWAITED
    → Spells version spaces at text all
spells-append version spaces at behind text first second ms ns all parts h k number few both room free =
    let small : ops_in ms + ops_in ns ≤ MAX_ALL_OPS = omega (arith, sum_by-append (λ (m : Message). length m.ops) ms ns, ap ops_in both, room) in
    let short : awaited_in ms + awaited_in ns ≤ MAX_AWAITED = omega (arith, sum_by-append (λ (m : Message). length m.after) ms ns, ap awaited_in both, free) in
    rw (parts, both)
    (messages-append version spaces (place_at at) (place_at behind) (records_of first) (records_of second) ms ns number h k few (omega (arith, small)) (omega (arith, short)))

pub spells-both : (version : Version) (spaces : List Space) (at behind : ℕ) (text first second : List ℕ) (ms ns : List Message) (read : Option Messages)
    → records_of text ≡ records_of first ++ records_of second
    → Spells version spaces at first ms → Spells version spaces behind second ns → (has_after version ≡ true → behind ≡ at + length ms)
    → at + length ms + length ns ≤ max_messages version + 2
    → IfSome read (λ all. all.list ≡ ms ++ ns) → IfSome read (λ all. ops_in all.list ≤ MAX_ALL_OPS) → IfSome read (λ all. awaited_in all.list ≤ MAX_AWAITED)
    → IfSome read (λ all. Spells version spaces at text all.list)
spells-both version spaces at behind text first second ms ns None parts h k number few both room free = tt
spells-both version spaces at behind text first second ms ns (Some all) parts h k number few both room free =
    spells-append version spaces at behind text first second ms ns all.list parts h k number few both room free

-- the trace of a text whose header is read by itself
pub trace-behind : (newest : Version) (spaces : List Space) (text first rows : List ℕ) (header : Arrivals) (ns : List Message)
    → records_of text ≡ records_of first ++ records_of rows
    → trace_of newest spaces first ≡ Ok header → length header.messages ≡ 0 → Spells header.version spaces 2 rows ns
    → trace_of newest spaces text ≡ Ok (record { version = header.version; sizes = sizes_of spaces; messages = ns })
trace-behind newest spaces text first rows header ns parts h none k =
    rw parts (trace-append newest spaces (records_of first) (records_of rows) header ns h (nil_from_length header.messages none) k)

-- the trace that is made of what was read
pub made-long : (newest : Version) (spaces : List Space) (text : List ℕ) (all : Arrivals) {E : Type 0} (r : Result Arrivals E) (o : Option Arrivals)
    → o ≡ result_ok r → IfOk r (λ trace. trace ≡ all) → trace_of newest spaces text ≡ Ok all
    → IfSome o (λ trace. trace_of newest spaces text ≡ Ok trace)
made-long newest spaces text all (Ok trace) o is made read = rw (is, made) read
made-long newest spaces text all (Err e) o is made read = rw is tt
