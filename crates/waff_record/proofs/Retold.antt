-- The trace with the costs that are told of a run: its text is read as it.
use Rattle.std.proofs.Common.{◌≡◌, ℕ, ◌+◌, ◌-◌, ◌<◌, ◌≤◌, List, [], ◌∷◌, drop, length, get_or, true, Some, Ok, refl, sym, ◌∙◌, ap, subst, arith}
use Rattle.std.specs.Prelude.{All, IsSome, Vec, slice_get}
use Rattle.std.specs.Global.{Global}
use Rattle.std.proofs.lemmas.List.{drop_all, drop_more, get_or-drop, length-drop}
use Rattle.std.proofs.lemmas.List.Elements.{All-get_or}
use Rattle.std.proofs.lemmas.List.FromFn.{get_or-map-range_with_len, length-map-range_with_len}
use Rattle.std.proofs.lemmas.Option.{get_or_from_slice_get, slice_get_within}
use Rattle.csv.specs.declared.writer.Writer.{Writer}
use Rattle.waff_model.specs.Messages.{Arrivals, IsTrace}
use Rattle.waff_model.specs.Numbers.{IsAmongFirst}
use Rattle.waff_model.specs.declared.message.Message.{Message}
use Rattle.waff_model.specs.declared.message.Version.{Version}
use Rattle.waff_parse.specs.Rows.{Record, is_text, records_of}
use Rattle.waff_plan.specs.Timetable.{IsTimetable, Timetable, message_of, no_message}
use Rattle.waff_plan.specs.Timing.{IsTiming, no_timing, timing_of}
use Rattle.waff_plan.specs.declared.timing.Timing.{Timing}
use Rattle.waff_inputs.specs.Known.{newest, trace_of}
use Rattle.waff_read.specs.Anew.{AreToldAnew, IsToldAnew, row_anew, rows_anew, text_anew}
use Rattle.waff_read.specs.Laws.{AreRows, TraceAnewIsRead}
use Rattle.waff_read.specs.Messages.{columns_of}
use Rattle.waff_read.proofs.LimitLaws.{trace_is_within_limits}
use Rattle.waff_record.specs.Ran.{IsToldRun}
use Rattle.waff_record.specs.Runs.{IsMeasured, IsSameButCost, IsToldTrace, message_told, messages_told, trace_told}
use Rattle.waff_record.specs.Writing.{BeginsWithText, Completes}
use Rattle.waff_record.specs.declared.told_run.ToldRun.{ToldRun}

-- a message that is told, and how many
pub told_long : (messages : List Message) (timings : List Timing) → length (messages_told messages timings) ≡ length messages
told_long messages timings = length-map-range_with_len (λ n. message_told (message_of messages n) (timing_of timings n).cost) 1 (length messages)

pub told_place : (messages : List Message) (timings : List Timing) (k n : ℕ) → k < length messages → 1 + k ≡ n
    → get_or (messages_told messages timings) k no_message ≡ message_told (message_of messages n) (timing_of timings n).cost
told_place messages timings k n within is =
    get_or-map-range_with_len (λ n. message_told (message_of messages n) (timing_of timings n).cost) 1 (length messages) k n no_message within is

told_at : (messages : List Message) (timings : List Timing) (n : ℕ) → IsAmongFirst (length messages) n
    → message_of (messages_told messages timings) n ≡ message_told (message_of messages n) (timing_of timings n).cost
told_at messages timings n number =
    told_place messages timings (n - 1) n (omega (arith, number.from, number.to)) (omega (arith, number.from))

-- it has the messages of the trace, with the costs of the plan
pub is_measured : (trace : Arrivals) (plan : Timetable) → IsMeasured trace (trace_told trace plan)
is_measured trace plan = record {
  version = refl;
  count = told_long trace.messages plan.timings;
  each = λ n number.
      subst (IsSameButCost (message_of trace.messages n)) (sym (told_at trace.messages plan.timings n number))
      (record { name = refl; release = refl; client = refl; think = refl; after = refl; ops = refl });
}

pub is_told_trace : (trace : Arrivals) (plan : Timetable) → IsToldTrace trace plan (trace_told trace plan)
is_told_trace trace plan = record {
  measured = is_measured trace plan;
  costs = λ n number. ap (λ (message : Message). message.cost) (told_at trace.messages plan.timings n number);
}

-- one more record of the trace is told
pub further : (version : Version) (messages : List Message) (timings : List Timing) (n : ℕ) (there left : List Record) (fields row : Record)
    (text more : Writer (Vec ℕ Global)) (whole : List ℕ) → 1 ≤ n → n ≤ length messages → there ≡ fields ∷ left
    → row ≡ row_anew version fields (message_told (message_of messages n) (timing_of timings n).cost)
    → ((rows : List Record) (whole : List ℕ) → Completes text (row ∷ rows) whole → Completes more rows whole)
    → Completes text (rows_anew version there (drop (n - 1) (messages_told messages timings))) whole
    → Completes more (rows_anew version left (drop (n + 1 - 1) (messages_told messages timings))) whole
further version messages timings n there left fields row text more whole from to read is wrote completes =
    let told = messages_told messages timings in
    let message = message_told (message_of messages n) (timing_of timings n).cost in
    let next : n - 1 + 1 ≡ n + 1 - 1 = omega (arith, from) in
    let rest : drop (n - 1) told ≡ message ∷ drop (n + 1 - 1) told
    = drop_more told (n - 1) no_message (omega (arith, from, to, told_long messages timings))
    ∙ (ap (λ (m : Message). m ∷ drop (n - 1 + 1) told) (told_place messages timings (n - 1) n (omega (arith, from, to)) (omega (arith, from)))
    ∙ ap (λ k. message ∷ drop k told) next) in
    let here : Completes text (rows_anew version (fields ∷ left) (message ∷ drop (n + 1 - 1) told)) whole
    = subst (λ rows. Completes text (rows_anew version rows (message ∷ drop (n + 1 - 1) told)) whole) read
    (subst (λ ms. Completes text (rows_anew version there ms) whole) rest completes) in
    wrote (rows_anew version left (drop (n + 1 - 1) told)) whole
    (subst (λ r. Completes text (r ∷ rows_anew version left (drop (n + 1 - 1) told)) whole) (sym is) here)

-- no record more is told
rows_none : (version : Version) (left : List Record) → rows_anew version left [] ≡ []
rows_none version [] = refl
rows_none version (row ∷ left) = refl

pub none_left : (version : Version) (messages : List Message) (timings : List Timing) (n : ℕ) (left : List Record) (text : Writer (Vec ℕ Global)) (whole : List ℕ)
    → length messages ≤ n - 1 → Completes text (rows_anew version left (drop (n - 1) (messages_told messages timings))) whole → Completes text [] whole
none_left version messages timings n left text whole past completes =
    let none : drop (n - 1) (messages_told messages timings) ≡ [] = drop_all (n - 1) (messages_told messages timings) (omega (arith, past, told_long messages timings)) in
    subst (λ rows. Completes text rows whole) (ap (rows_anew version left) none ∙ rows_none version left) completes

-- the records of a trace that is read
module _ (trace : Arrivals) (records : List Record) (are : AreRows trace records) where
  pub first_is_text : BeginsWithText records
  first_is_text =
      let header = are.header in (
        get_or records 0 [],
        drop 1 records,
        drop_more records 0 [] header,
        All-get_or (λ row. is_text row ≡ true) records 0 [] header are.are_text,
      )

  -- the record of a message
  row_there : (n : ℕ) → 1 ≤ n → n ≤ length trace.messages → n - 1 < length (drop 1 records)
  row_there n from to = omega (arith, from, to, are.count)

  pub next_is_text : (n : ℕ) (left : List Record) → 1 ≤ n → n ≤ length trace.messages → left ≡ drop (n - 1) (drop 1 records) → BeginsWithText left
  next_is_text n left from to is =
      let rows = drop 1 records in
      let there = row_there n from to in
      let here : n < length records = omega (arith, there, length-drop 1 records) in (
        get_or rows (n - 1) [],
        drop (n - 1 + 1) rows,
        is ∙ drop_more rows (n - 1) [] there,
        subst (λ row. is_text row ≡ true) (sym (get_or-drop 1 records (n - 1) []))
            (All-get_or (λ row. is_text row ≡ true) records (1 + (n - 1)) [] (omega (arith, from, here)) are.are_text),
      )

  -- what is read of it, and what is left
  pub next_has_columns : (n : ℕ) (there left : List Record) (fields : Record) → 1 ≤ n → n ≤ length trace.messages → there ≡ drop (n - 1) (drop 1 records)
      → there ≡ fields ∷ left → IsSome (columns_of trace.version fields)
  next_has_columns n there left fields from to is read =
      let rows = drop 1 records in
      let within = row_there n from to in
      let first : fields ≡ get_or rows (n - 1) [] = ap (λ (l : List Record). get_or l 0 []) (sym read ∙ (is ∙ drop_more rows (n - 1) [] within)) in
      subst (λ row. IsSome (columns_of trace.version row)) (sym first)
      (All-get_or (λ row. IsSome (columns_of trace.version row)) rows (n - 1) [] within are.columns)

  pub next_leaves : (n : ℕ) (there left : List Record) (fields : Record) → 1 ≤ n → n ≤ length trace.messages → there ≡ drop (n - 1) (drop 1 records)
      → there ≡ fields ∷ left → left ≡ drop (n + 1 - 1) (drop 1 records)
  next_leaves n there left fields from to is read =
      let rows = drop 1 records in
      let within = row_there n from to in
      let next : n - 1 + 1 ≡ n + 1 - 1 = omega (arith, from) in
      ap (λ (l : List Record). drop 1 l) (sym read ∙ (is ∙ drop_more rows (n - 1) [] within)) ∙ ap (λ k. drop k rows) next

-- the costs that are told are within the limits
module _ (told : ToldRun) (is : IsToldRun told) (table : IsTimetable told.plan.now) where
  abbrev trace : Arrivals
  trace = told.run.case.trace.now

  abbrev plan : Timetable
  plan = told.plan.now

  same_at : (k : ℕ) (message other : Message) → slice_get trace.messages k ≡ Some message → slice_get (messages_told trace.messages plan.timings) k ≡ Some other
      → other ≡ message_told message (timing_of plan.timings (k + 1)).cost
  same_at k message other first second =
      let within : k < length trace.messages = slice_get_within trace.messages k message first in
      let here : k + 1 - 1 ≡ k = omega arith in
      sym (get_or_from_slice_get (messages_told trace.messages plan.timings) k other no_message second)
      ∙ (told_place trace.messages plan.timings k (k + 1) within (omega arith)
      ∙ ap (λ m. message_told m (timing_of plan.timings (k + 1)).cost)
      (ap (λ i. get_or trace.messages i no_message) here ∙ get_or_from_slice_get trace.messages k message no_message first))

  cost_within : (k : ℕ) → k < length trace.messages → IsTiming (timing_of plan.timings (k + 1))
  cost_within k within =
      All-get_or IsTiming plan.timings (k + 1 - 1) no_timing (omega (arith, within, is.timings.count)) table.timings.small

  are_told : AreToldAnew trace.messages (messages_told trace.messages plan.timings)
  are_told = record {
    count = told_long trace.messages plan.timings;
    each = λ k message other first second.
        let cost = cost_within k (slice_get_within trace.messages k message first) in
        subst (λ m. IsToldAnew message m) (sym (same_at k message other first second))
        (record { name = refl; some_cost = cost.some_cost; within_cost = cost.cost; release = refl; client = refl; think = refl; no_list = λ none. none; ops = refl });
    lists = λ k message other first second. ap (λ (m : Message). m.after) (same_at k message other first second);
  }

  -- so the text is read as that trace
  module _ (law : TraceAnewIsRead newest told.run.layout.now.spaces told.run.bytes.now trace (messages_told trace.messages plan.timings)) where
    pub told_is_read : trace_of told.run.layout.now.spaces (text_anew trace.version (drop 1 (records_of told.run.bytes.now)) (messages_told trace.messages plan.timings))
        ≡ Ok (trace_told trace plan)
    told_is_read = law told.run.spelled are_told

    pub told_within : IsTrace (trace_told trace plan)
    told_within =
        trace_is_within_limits newest told.run.layout.now.spaces
        (text_anew trace.version (drop 1 (records_of told.run.bytes.now)) (messages_told trace.messages plan.timings)) (trace_told trace plan) told_is_read
