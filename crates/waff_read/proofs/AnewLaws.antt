-- A trace that is told anew is read as the messages that it tells.
use Rattle.std.proofs.Common.{◌≡◌, ℕ, zero, suc, ◌+◌, ◌-◌, ◌<◌, ◌≤◌, ◌^◌, List, [], ◌∷◌, length, drop, take, get_or, Bool, true, false, Some, None, Result, Ok, Err, slice_get, refl, sym, ap, subst, ◌∙◌, arith}
use Rattle.std.specs.Prelude.{All, IsSome, nat_le, ◌==◌, if◌then◌else◌}
use Rattle.std.specs.Fmt.{decimal}
use Rattle.std.specs.List.{flat_map, sum_by}
use Rattle.std.specs.Str.{is_utf8}
use Rattle.std.proofs.lemmas.Bool.{and_parts, leb-true}
use Rattle.std.proofs.lemmas.List.Elements.{All-cons, All-nil}
use Rattle.std.proofs.lemmas.List.Sums.{sum_by-cons}
use Rattle.std.proofs.lemmas.Option.{slice_get-get_or, slice_get_within}
use Rattle.csv.specs.Records.{field_at}
use Rattle.csv.specs.Writing.{default_writer, read_back, row_text}
use Rattle.waff_model.specs.Awaits.{AreLists, IsList, awaited_in}
use Rattle.waff_model.specs.Layout.{Space}
use Rattle.waff_model.specs.Messages.{Arrivals, ops_in}
use Rattle.waff_model.specs.Versions as versions
use Rattle.waff_model.specs.Versions.{has_after, has_clients, has_releases, max_messages, max_ops}
use Rattle.waff_model.specs.declared.awaits.Await.{Await}
use Rattle.waff_model.specs.declared.limits.TheConstants.{MAX_ALL_OPS, MAX_AWAITED}
use Rattle.waff_model.specs.declared.message.Message.{Message}
use Rattle.waff_model.specs.declared.message.Version.{Version}
use Rattle.waff_model.specs.declared.message.Version.TheVariants.{V1, V2, V3, V4}
use Rattle.waff_model.proofs.TraceLemmas.{max_messages-most}
use Rattle.waff_parse.specs.Fields.{Field, field_of}
use Rattle.waff_parse.specs.Refusals.{◌>>=◌, told}
use Rattle.waff_parse.specs.Rows.{Record, is_text, records_of}
use Rattle.waff_parse.proofs.WrittenRows.{number_of-decimal}
use Rattle.waff_read.specs.Anew.{IsToldAnew, columns_anew, fields_anew, row_anew, rows_anew, text_anew}
use Rattle.waff_read.specs.Laws.{AreRows, IsAfter, IsClient, IsReadAs, IsRelease, IsThink, RowsAreText, SpellOps, Spells, TraceAnewIsRead}
use Rattle.waff_read.specs.Messages.{Columns, columns_of, columns_with, header_row, known, message_of, only, row_of, told_version}
use Rattle.waff_read.specs.Places.{behind, first_place, most_awaited, most_ops, next_place}
use Rattle.waff_read.specs.Spellings.{after_spelled}
use Rattle.waff_read.specs.TraceFaults.{at_record}
use Rattle.waff_read.specs.Traces.{header_of, message_at, messages_at, trace_of, trace_of_records}
use Rattle.waff_read.specs.declared.place.Place.{Place}
use Rattle.waff_read.specs.declared.trace_fault.TraceFault.{TraceFault}
use Rattle.waff_read.specs.declared.trace_fault.TraceFault.TheVariants as fault
use Rattle.waff_read.proofs.ColumnLaws.{columns_there}
use Rattle.waff_read.proofs.ExactLaws.{record_is_exact}
use Rattle.waff_read.proofs.FaultLaws.{each_read, trace_is_exact}
use Rattle.waff_read.proofs.LimitLaws.{trace_is_within_limits}
use Rattle.waff_read.proofs.MessageLaws.{fits-most}
use Rattle.waff_read.proofs.SpellingLaws.{after_is_spelled, list_is_small}
use Rattle.waff_read.proofs.TraceLaws.{awaited_in-cons, fits-message, lists-head, lists-tail, message_at-no-text, message_at-text, ops_in-cons, parts_of}
use Rattle.waff_read.proofs.TraceSpellings.{after_is_text, header_is_read, literal_is_text, no_mark, number_is_text, records_of-unmarked, row_back, row_is_text, rows_read}

-- the fields of a record of text are text, and so is the empty one that stands for each behind them
field_is_text : (row : Record) (k : ℕ) → is_text row ≡ true → is_utf8 (field_of row k) ≡ true
unfolding field_at
field_is_text [] k is = literal_is_text [] refl
field_is_text (field ∷ more) zero is = (and_parts (is_utf8 field) (is_text more) is).0
field_is_text (field ∷ more) (suc k) is = field_is_text more k (and_parts (is_utf8 field) (is_text more) is).1

-- the fields of a record, by their places
abbrev fields_in : Version → Record → Columns
fields_in version row =
    columns_with version (field_of row 0) (field_of row 1) (field_of row 2) (field_of row 3) (field_of row 4) (field_of row 5) (field_of row (length row - 1))

columns_are : (version : Version) (row : Record) (columns : Columns) → columns_of version row ≡ Some columns → fields_in version row ≡ columns
columns_are version row columns h = by (length row == length (header_row version)) h
  where
    by : (b : Bool) → (if b then Some (fields_in version row) else None) ≡ Some columns → fields_in version row ≡ columns
    by true e = cc
    by false e = absurd (cc)

-- of the columns of a version the cost and the list are other ones
with_anew : (version : Version) (name cost release client think after ops : Field) (n : ℕ) (list : List Await)
    → columns_anew (columns_with version name cost release client think after ops) n list ≡ columns_with version name (decimal n) release client think (after_spelled list) ops
with_anew V1 name cost release client think after ops n list = refl
with_anew V2 name cost release client think after ops n list = refl
with_anew V3 name cost release client think after ops n list = refl
with_anew V4 name cost release client think after ops n list = refl

-- a record that is read as a message at some place
module _ (version : Version) (spaces : List Space) (from : Place) (row : Record) (old : Message) (read : message_at version spaces from row ≡ Ok old) where
  read_is_text : is_text row ≡ true
  read_is_text = by (is_text row) refl
    where
      by : (b : Bool) → is_text row ≡ b → is_text row ≡ true
      by true is = is
      by false is = let refused = sym read ∙ message_at-no-text version spaces from row is in absurd (cc)

  message_is : message_of version spaces from row ≡ Ok old
  message_is = by (message_of version spaces from row) (sym (message_at-text version spaces from row read_is_text) ∙ read)
    where
      by : (r : Result Message TraceFault) → told (at_record from.at) r ≡ Ok old → r ≡ Ok old
      by (Ok m) e = let same : m ≡ old = cc in ap Ok same
      by (Err d) e = absurd (cc)

  has_columns : columns_of version row ≡ Some (fields_in version row)
  has_columns =
      let s = (record_is_exact version spaces from row old).0 message_is in
      s.1 ∙ ap Some (sym (columns_are version row s.0 s.1))

  spelled : Spells version spaces from (fields_in version row) old
  spelled =
      let s = (record_is_exact version spaces from row old).0 message_is in
      subst (λ columns. Spells version spaces from columns old) (sym (columns_are version row s.0 s.1)) s.2

  -- the fields that tell another message anew
  module _ (message : Message) where
    abbrev fields_told : Columns
    fields_told =
        columns_with version (field_of row 0) (decimal message.cost) (field_of row 2) (field_of row 3) (field_of row 4) (after_spelled message.after)
        (field_of row (length row - 1))

    anew_is : row_anew version row message ≡ row_of fields_told
    anew_is =
        ap (λ columns. fields_anew columns message) has_columns
        ∙ ap row_of
        (with_anew version (field_of row 0) (field_of row 1) (field_of row 2) (field_of row 3) (field_of row 4) (field_of row 5)
        (field_of row (length row - 1)) message.cost message.after)

    anew_back : read_back (row_anew version row message) ≡ row_anew version row message
    anew_back = rw anew_is (row_back fields_told)

    module _ (anew : IsToldAnew old message) (place : Place) (counted : place.at ≤ max_messages version + 1) (few : length message.ops ≤ most_ops version place)
        (list : IsList (place.at - 1) message.after) (few_awaited : length message.after ≤ most_awaited place) where
      below : place.at - 1 < 2 ^ 64
      below = omega (arith, counted, max_messages-most version)

      small_cost : message.cost < 2 ^ 64
      small_cost = omega (arith, anew.within_cost)

      listed : (b : Bool) → has_after version ≡ b → IsAfter (place.at - 1) (only b (after_spelled message.after)) message.after
      listed true has = (after_is_spelled (place.at - 1) message.after list below, list)
      listed false none = anew.no_list ((fits-message version spaces from row old read).within.no_list none)

      anew_spells : Spells version spaces place fields_told message
      anew_spells = record {
        named = spelled.named;
        name = anew.name ∙ spelled.name;
        cost = number_of-decimal message.cost small_cost;
        some_cost = anew.some_cost;
        within_cost = anew.within_cost;
        filled = spelled.filled;
        ops = subst (SpellOps version spaces (field_of row (length row - 1))) (sym anew.ops) spelled.ops;
        within_ops = few;
        counted = counted;
        release = subst (IsRelease (only (has_releases version) (field_of row 2))) (sym anew.release) spelled.release;
        client = subst (IsClient (only (has_clients version) (field_of row 3))) (sym anew.client) spelled.client;
        think = subst (IsThink (only (has_clients version) (field_of row 4))) (sym anew.think) spelled.think;
        after = listed (has_after version) refl;
        within_after = few_awaited;
      }

      anew_is_text : is_text (row_of fields_told) ≡ true
      anew_is_text =
          row_is_text version (field_of row 0) (decimal message.cost) (field_of row 2) (field_of row 3) (field_of row 4) (after_spelled message.after)
          (field_of row (length row - 1)) (field_is_text row 0 read_is_text) (number_is_text message.cost small_cost) (field_is_text row 2 read_is_text)
          (field_is_text row 3 read_is_text) (field_is_text row 4 read_is_text) (after_is_text message.after (list_is_small (place.at - 1) message.after list below))
          (field_is_text row (length row - 1) read_is_text)

      -- so it is read as this message
      anew_is_read : message_at version spaces place (row_anew version row message) ≡ Ok message
      anew_is_read =
          ap (message_at version spaces place) anew_is
          ∙ message_at-text version spaces place (row_of fields_told) anew_is_text
          ∙ ap (told (at_record place.at))
          ((record_is_exact version spaces place (row_of fields_told) message).1 (
            fields_told,
            columns_there version (field_of row 0) (decimal message.cost) (field_of row 2) (field_of row 3) (field_of row 4) (after_spelled message.after)
                (field_of row (length row - 1)),
            anew_spells,
          ))

-- records that are read as messages
module _ (version : Version) (spaces : List Space) where
  each_is_text : (place : Place) (rows : List Record) (messages : List Message) → messages_at version spaces place rows ≡ Ok messages
      → All (λ row. is_text row ≡ true) rows
  each_is_text place [] messages read = All-nil (λ (row : Record). is_text row ≡ true)
  each_is_text place (row ∷ rows) messages read =
      let p = parts_of version spaces place row rows messages read in
      All-cons (λ row. is_text row ≡ true) row rows (read_is_text version spaces place row p.first p.read)
      (each_is_text (next_place place p.first) rows p.others p.more)

  each_has_columns : (place : Place) (rows : List Record) (messages : List Message) → messages_at version spaces place rows ≡ Ok messages
      → All (λ row. IsSome (columns_of version row)) rows
  each_has_columns place [] messages read = All-nil (λ (row : Record). IsSome (columns_of version row))
  each_has_columns place (row ∷ rows) messages read =
      let p = parts_of version spaces place row rows messages read in
      All-cons (λ row. IsSome (columns_of version row)) row rows (rw (has_columns version spaces place row p.first p.read) refl)
      (each_has_columns (next_place place p.first) rows p.others p.more)

  -- a record is read as a message at some place, and another message tells that one anew
  pub record IsTold (row : Record) (message : Message) : Type 0 where
    pub from : Place
    pub old : Message
    pub read : message_at version spaces from row ≡ Ok old
    pub anew : IsToldAnew old message

  pub record AreTold (rows : List Record) (messages : List Message) : Type 0 where
    pub count : length messages ≡ length rows
    pub each : (k : ℕ) (row : Record) (message : Message) → slice_get rows k ≡ Some row → slice_get messages k ≡ Some message → IsTold row message

  told_back : (rows : List Record) (messages : List Message) → AreTold rows messages → All (λ row. read_back row ≡ row) (rows_anew version rows messages)
  told_back [] messages are = All-nil (λ (row : Record). read_back row ≡ row)
  told_back (row ∷ rows) [] are = All-nil (λ (row : Record). read_back row ≡ row)
  told_back (row ∷ rows) (message ∷ messages) are =
      let is = are.each 0 row message refl refl in
      All-cons (λ row. read_back row ≡ row) (row_anew version row message) (rows_anew version rows messages)
      (anew_back version spaces is.from row is.old is.read message)
      (told_back rows messages (record { count = omega (arith, are.count); each = λ k. are.each (suc k) }))

  -- records that tell messages within the limits are read as these
  told_are_read : (place : Place) (rows : List Record) (messages : List Message) → AreTold rows messages → place.at + length messages ≤ max_messages version + 2
      → place.ops + ops_in messages ≤ MAX_ALL_OPS → 1 ≤ place.at → AreLists (place.at - 1) messages → place.awaited + awaited_in messages ≤ MAX_AWAITED
      → messages_at version spaces place (rows_anew version rows messages) ≡ Ok messages
  unfolding messages_at
  told_are_read place [] [] are few few_ops some lists few_awaited = refl
  told_are_read place [] (message ∷ messages) are few few_ops some lists few_awaited = absurd (omega (arith, are.count))
  told_are_read place (row ∷ rows) [] are few few_ops some lists few_awaited = absurd (omega (arith, are.count))
  told_are_read place (row ∷ rows) (message ∷ messages) are few few_ops some lists few_awaited =
      let is = are.each 0 row message refl refl in
      let sum = ops_in-cons message messages in
      let awaited = awaited_in-cons message messages in
      let within = (fits-message version spaces is.from row is.old is.read).within in
      let few_here : length message.ops ≤ max_ops version = rw is.anew.ops within.within_ops in
      let first = anew_is_read version spaces is.from row is.old is.read message is.anew place (omega (arith, few))
      (fits-most version place (length message.ops) few_here (omega (arith, few_ops, sum))) (lists-head (place.at - 1) message messages lists)
      (omega (arith, few_awaited, awaited)) in
      let others = told_are_read (next_place place message) rows messages (record { count = omega (arith, are.count); each = λ k. are.each (suc k) })
      (omega (arith, few)) (omega (arith, few_ops, sum)) (omega arith)
      (subst (λ (n : ℕ). AreLists n messages) (omega (arith, some)) (lists-tail (place.at - 1) message messages lists)) (omega (arith, few_awaited, awaited)) in
      rw (first, others) refl

-- the header of a trace that is read is one of a version up to the newest
module _ (newest : Version) where
  known_version : (rows : List Record) (version : Version) → header_of newest rows ≡ Ok version → versions.number version ≤ versions.number newest
  known_version [] version is = absurd (cc)
  known_version (header ∷ rows) version is = by (is_text header) (told_version header) is
    where
      limited : (v : Version) (b : Bool) → nat_le (versions.number v) (versions.number newest) ≡ b → told (at_record 1) (if b then Ok v else Err fault.Header) ≡ Ok version
          → versions.number version ≤ versions.number newest
      limited v true p e =
          let same : v ≡ version = cc in
          rw (← same) (leb-true (versions.number v) (versions.number newest) p)
      limited v false p e = absurd (cc)

      by : (b : Bool) (r : Result Version TraceFault) → told (at_record 1) (if b then (r >>= known newest) else Err fault.Csv) ≡ Ok version
          → versions.number version ≤ versions.number newest
      by false r e = absurd (cc)
      by true (Err d) e = absurd (cc)
      by true (Ok v) e = limited v (nat_le (versions.number v) (versions.number newest)) refl e

  header_is_text : (header : Record) (rows : List Record) (version : Version) → header_of newest (header ∷ rows) ≡ Ok version → is_text header ≡ true
  header_is_text header rows version is = by (is_text header) refl is
    where
      by : (b : Bool) → is_text header ≡ b → told (at_record 1) (if b then (told_version header >>= known newest) else Err fault.Csv) ≡ Ok version → is_text header ≡ true
      by true p e = p
      by false p e = absurd (cc)

-- the records of a text that tells a trace anew
records_of-anew : (version : Version) (rows : List Record) → All (λ row. read_back row ≡ row) rows
    → records_of (flat_map (row_text default_writer) (header_row version ∷ rows)) ≡ header_row version ∷ rows
records_of-anew version rows back =
    records_of-unmarked (flat_map (row_text default_writer) (header_row version ∷ rows)) (no_mark version (flat_map (row_text default_writer) rows))
    ∙ rows_read (header_row version ∷ rows) (All-cons (λ row. read_back row ≡ row) (header_row version) rows refl back)

-- a trace that is read
module _ (newest : Version) (spaces : List Space) (bytes : List ℕ) (trace : Arrivals) (read : trace_of newest spaces bytes ≡ Ok trace) where
  pub reads : IsReadAs newest spaces (records_of bytes) trace
  reads = (trace_is_exact newest spaces bytes trace).0 read

  messages_are : messages_at trace.version spaces first_place (drop 1 (records_of bytes)) ≡ Ok trace.messages
  messages_are = each_read trace.version spaces first_place (drop 1 (records_of bytes)) trace.messages reads.count reads.messages

  -- and one that has messages within the limits and is told by some of its records
  pub told_is_read : (rows : List Record) (messages : List Message) → AreTold trace.version spaces rows messages → length messages ≤ max_messages trace.version
      → ops_in messages ≤ MAX_ALL_OPS → AreLists 1 messages → awaited_in messages ≤ MAX_AWAITED
      → trace_of newest spaces (text_anew trace.version rows messages) ≡ Ok (record trace { messages = messages })
  unfolding trace_of_records
  told_is_read rows messages are few few_ops lists few_awaited =
      let found = told_are_read trace.version spaces first_place rows messages are (omega (arith, few)) (omega (arith, few_ops)) (omega arith) lists
      (omega (arith, few_awaited)) in
      let upto = known_version newest (records_of bytes) trace.version reads.version in
      ap (trace_of_records newest spaces)
      (records_of-anew trace.version (rows_anew trace.version rows messages) (told_back trace.version spaces rows messages are))
      ∙ rw (header_is_read newest trace.version (rows_anew trace.version rows messages) upto, found, ← reads.sizes) refl

  are_rows : AreRows trace (records_of bytes)
  are_rows = record {
    header = some (records_of bytes) reads.version;
    count = sym reads.count;
    are_text = each (records_of bytes) reads.version (each_is_text trace.version spaces first_place (drop 1 (records_of bytes)) trace.messages messages_are);
    columns = each_has_columns trace.version spaces first_place (drop 1 (records_of bytes)) trace.messages messages_are;
  }
    where
      some : (rows : List Record) → header_of newest rows ≡ Ok trace.version → 1 ≤ length rows
      some [] is = absurd (cc)
      some (header ∷ rows) is = omega arith

      each : (rows : List Record) → header_of newest rows ≡ Ok trace.version → All (λ row. is_text row ≡ true) (drop 1 rows) → All (λ row. is_text row ≡ true) rows
      each [] is more = All-nil (λ (row : Record). is_text row ≡ true)
      each (header ∷ rows) is more = All-cons (λ row. is_text row ≡ true) header rows (header_is_text newest header rows trace.version is) more

pub rows_are_text : (newest : Version) (spaces : List Space) (bytes : List ℕ) (trace : Arrivals) → RowsAreText newest spaces bytes trace
rows_are_text newest spaces bytes trace read = are_rows newest spaces bytes trace read

-- what is told of each message as it was is told so of all
same_sum : (f : Message → ℕ) (messages again : List Message) → length again ≡ length messages
    → ((k : ℕ) (message other : Message) → slice_get messages k ≡ Some message → slice_get again k ≡ Some other → f other ≡ f message)
    → sum_by f again ≡ sum_by f messages
same_sum f [] [] count each = refl
same_sum f [] (other ∷ again) count each = absurd (omega (arith, count))
same_sum f (message ∷ messages) [] count each = absurd (omega (arith, count))
same_sum f (message ∷ messages) (other ∷ again) count each =
    let here = each 0 message other refl refl in
    let rest = same_sum f messages again (omega (arith, count)) (λ k. each (suc k)) in
    omega (arith, here, rest, sum_by-cons f message messages, sum_by-cons f other again)

pub trace_anew_is_read : (newest : Version) (spaces : List Space) (bytes : List ℕ) (trace : Arrivals) (again : List Message) → TraceAnewIsRead newest spaces bytes trace again
trace_anew_is_read newest spaces bytes trace again read are =
    let within = trace_is_within_limits newest spaces bytes trace read in
    let is = reads newest spaces bytes trace read in
    let few_ops : ops_in again ≡ ops_in trace.messages =
    same_sum (λ m. length m.ops) trace.messages again are.count (λ k message other there here. ap length (are.each k message other there here).ops) in
    let few_awaited : awaited_in again ≡ awaited_in trace.messages =
    same_sum (λ m. length m.after) trace.messages again are.count (λ k message other there here. ap length (are.lists k message other there here)) in
    told_is_read newest spaces bytes trace read (drop 1 (records_of bytes)) again
    (record {
      count = are.count ∙ is.count;
      each = λ k row other there here.
          let old = get_or trace.messages k other in
          let at = old_at k other here in
          record {
            from = behind first_place (take k trace.messages);
            old = old;
            read = is.messages k row old there at;
            anew = are.each k old other at here;
          };
    })
    (omega (arith, are.count, within.few)) (omega (arith, few_ops, within.few_ops))
    (λ k other here.
    let old = get_or trace.messages k other in
    let at = old_at k other here in
    subst (IsList (1 + k)) (sym (are.lists k old other at here)) (within.lists k old at))
    (omega (arith, few_awaited, within.few_awaited))
  where
    old_at : (k : ℕ) (other : Message) → slice_get again k ≡ Some other → slice_get trace.messages k ≡ Some (get_or trace.messages k other)
    old_at k other here = slice_get-get_or trace.messages k other (omega (arith, are.count, slice_get_within again k other here))
