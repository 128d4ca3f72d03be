-- A plan is read from the text that is written of it: its lines spell the plan.
use Rattle.std.proofs.Common.{◌≡◌, ℕ, ◌+◌, ◌<◌, ◌≤◌, ◌^◌, List, [], ◌∷◌, ◌++◌, length, map, drop, true, false, Option, Some, None, Ok, IfSome, refl, sym, ap, ◌∙◌, subst, arith, inl, inr, slice_get}
use Rattle.std.specs.Prelude.{All, Contains, codes, ◌-◌}
use Rattle.std.specs.Fmt.{decimal}
use Rattle.std.specs.List.{flat_map, list_all}
use Rattle.std.proofs.lemmas.Bool.{and_parts}
use Rattle.std.proofs.lemmas.Bool.Decides.{nat_tests}
use Rattle.std.proofs.lemmas.Fmt.{decimal_nonempty}
use Rattle.std.proofs.lemmas.List.{length-append}
use Rattle.std.proofs.lemmas.List.Elements.{All-append, All-cons, All-contains, All-head, All-nil, All-tail}
use Rattle.std.proofs.lemmas.List.FromFn.{get_or-map-range_with_len, length-map-range_with_len}
use Rattle.std.proofs.lemmas.Option.{get_or_from_slice_get, slice_get-get_or, slice_get_within}
use Rattle.csv.specs.Reading.{strip_bom}
use Rattle.waff_model.specs.Names.{is_name, is_name_byte}
use Rattle.waff_model.specs.Tree.{Node}
use Rattle.waff_model.specs.Versions.{has_releases}
use Rattle.waff_model.specs.declared.limits.TheConstants.{MAX_MESSAGES, MAX_TICK, MAX_WORKERS}
use Rattle.waff_model.specs.declared.message.Version.{Version}
use Rattle.waff_model.specs.declared.message.Version.TheVariants.{V1, V2, V3, V4}
use Rattle.waff_assign.specs.Held.{Held}
use Rattle.waff_assign.specs.Order.{affinity_name}
use Rattle.waff_plan.specs.Bound.{IsWorkers}
use Rattle.waff_plan.specs.Chain.{IsListed, IsAmongFirst}
use Rattle.waff_plan.specs.Totals.{totals_of}
use Rattle.waff_plan.specs.Work.{Work, IsNumber, finish_of, numbers}
use Rattle.waff_plan.specs.declared.totals.Totals.{Totals}
use Rattle.waff_parse.specs.Fields.{Field}
use Rattle.waff_parse.specs.Rows.{Record, records_of}
use Rattle.waff_parse.specs.Texts.{number_of}
use Rattle.waff_parse.proofs.WrittenRows.{IsBare, IsSimple, all_if, bare_is_text, decimal_differs, is_simple, number_of-decimal, parts-numbers, records_of-rows, simple_decimal, simple_literal, simple_numbers}
use Rattle.waff_plan_text.specs.Exact.{HasOneRow, IsReadAs, IsRowIn, rows_in_front}
use Rattle.waff_plan_text.specs.Given.{SummaryLines, no_row, row_at}
use Rattle.waff_plan_text.specs.Laws.{AreTotals, IsRow, WrittenIsRead, plan_told, row_told}
use Rattle.waff_plan_text.specs.Lines.{text_of}
use Rattle.waff_plan_text.specs.PlanTexts.{header_of}
use Rattle.waff_plan_text.specs.Refused.{HasSmallNumbers, IsRowOf, IsWorkerField, summary_in}
use Rattle.waff_plan_text.specs.SpelledLines.{AreNumbers, IsPair, IsWorkersField}
use Rattle.waff_plan_text.specs.SpelledSummaries.{AreLinesOf, IsLineOf, SpellsSummary}
use Rattle.waff_plan_text.specs.Spelling.{message_row, numbers_field, plan_header, plan_row, summary_line, summary_lines, worker_field}
use Rattle.waff_plan_text.specs.Summaries.{begins_summary}
use Rattle.waff_plan_text.specs.Table.{line_name, lines_of}
use Rattle.waff_plan_text.specs.declared.table.Line.{Line}
use Rattle.waff_plan_text.specs.declared.table.Line.TheVariants.{Bound, Chain, Cost, Length, Release, Total, Workers}
use Rattle.waff_plan_text.specs.declared.row.Row.{Row}
use Rattle.waff_plan_text.proofs.ExactLaws.{plan_is_exact}
use Rattle.waff_plan_text.proofs.PlaceLaws.{place_of}
use Rattle.waff_plan_text.proofs.RowLaws.{one_message}

-- a number that a plan text has fits 64 bits
small_tick : (n : ℕ) → n ≤ MAX_TICK → n < 2 ^ 64
small_tick n within = omega arith

-- the fields of written lines call for no quotes
name_is_simple : (b : ℕ) → is_name_byte b ≡ true → is_simple b ≡ true
name_is_simple b named = grind (arith, nat_tests)

simple_name : (name : List ℕ) → is_name name ≡ true → IsSimple name
simple_name name named = all_if (λ b. is_simple b ≡ true) is_name_byte name_is_simple name (and_parts _ (list_all is_name_byte name) named).1

simple_worker : (worker : Option ℕ) → IfSome worker (λ w. w < 2 ^ 64) → IsSimple (worker_field worker)
simple_worker None small = simple_literal (codes "-") refl
simple_worker (Some w) small = simple_decimal w small

two : (one other : Field) → IsSimple one → IsSimple other → All IsSimple (one ∷ other ∷ [])
two one other h k = All-cons IsSimple one (other ∷ []) h (All-cons IsSimple other [] k (All-nil IsSimple))

three : (one other last : Field) → IsSimple one → IsSimple other → IsSimple last → All IsSimple (one ∷ other ∷ last ∷ [])
three one other last h k l = All-cons IsSimple one (other ∷ last ∷ []) h (two other last k l)

simple_row : (n s f : ℕ) (name : List ℕ) (worker : Option ℕ) → n < 2 ^ 64 → is_name name ≡ true → s < 2 ^ 64 → f < 2 ^ 64
    → IfSome worker (λ w. w < 2 ^ 64) → All IsSimple (plan_row n name s f worker)
simple_row n s f name worker n_small named s_small f_small w_small =
    All-cons IsSimple (decimal n) (name ∷ decimal s ∷ decimal f ∷ worker_field worker ∷ []) (simple_decimal n n_small)
    (All-cons IsSimple name (decimal s ∷ decimal f ∷ worker_field worker ∷ []) (simple_name name named)
    (three (decimal s) (decimal f) (worker_field worker) (simple_decimal s s_small) (simple_decimal f f_small) (simple_worker worker w_small)))

pub simple_header : All IsSimple plan_header
simple_header =
    All-cons IsSimple (codes "message") (codes "affinity" ∷ codes "start" ∷ codes "finish" ∷ codes "worker" ∷ []) (simple_literal (codes "message") refl)
    (All-cons IsSimple (codes "affinity") (codes "start" ∷ codes "finish" ∷ codes "worker" ∷ []) (simple_literal (codes "affinity") refl)
    (three (codes "start") (codes "finish") (codes "worker") (simple_literal (codes "start") refl) (simple_literal (codes "finish") refl) (simple_literal (codes "worker") refl)))

-- a worker is read
small_worker : (worker : Option ℕ) → IfSome worker (λ w. w ≤ MAX_TICK) → IfSome worker (λ w. w < 2 ^ 64)
small_worker None within = tt
small_worker (Some w) within = small_tick w within

-- a number and a worker are spelled
tick_told : (n : ℕ) → n ≤ MAX_TICK → number_of (decimal n) ≡ Some n
tick_told n within = number_of-decimal n (small_tick n within)

worker_told : (worker : Option ℕ) → IfSome worker (λ w. w ≤ MAX_TICK) → IsWorkerField (worker_field worker) worker
worker_told None within = refl
worker_told (Some w) within = tick_told w within

-- records of which none begins the summary stand in front of it
front_is : (rows : List Record) (first : Record) (more : List Record) → All (λ row. begins_summary row ≡ false) rows → begins_summary first ≡ true
    → (rows_in_front (rows ++ first ∷ more) ≡ rows) × (summary_in (rows ++ first ∷ more) ≡ first ∷ more)
front_is [] first more none begins = (rw begins refl, rw begins refl)
front_is (row ∷ rows) first more none begins =
    let other = All-head (λ row. begins_summary row ≡ false) row rows none in
    let others = front_is rows first more (All-tail (λ row. begins_summary row ≡ false) row rows none) begins in
    (rw (other, others.0) refl, rw other others.1)

-- the lines of messages are their rows
module _ (version : Version) (tree : List Node) (assigned : List Held) (work : Work) (start : ℕ → ℕ) (worker : ℕ → Option ℕ)
    (few_messages : work.count ≤ MAX_MESSAGES) (tellable : (n : ℕ) → IsNumber work n → IsRow (row_told tree assigned work start worker n)) where
  line : ℕ → Record
  line = message_row tree assigned work start worker

  told : ℕ → Row
  told = row_told tree assigned work start worker

  line_is_simple : (n : ℕ) → IsNumber work n → All IsSimple (line n)
  unfolding line
  line_is_simple n number =
      let is = tellable n number in
      let to : n ≤ work.count = number.to in
      simple_row n (start n) (finish_of work start n) (affinity_name tree assigned n) (worker n) (omega arith) is.named
      (small_tick (start n) is.times.start) (small_tick (finish_of work start n) is.times.finish) (small_worker (worker n) is.worker)

  line_is_row : (n : ℕ) → IsNumber work n → IsRowOf work.count (line n) n (told n)
  unfolding line told
  line_is_row n number =
      let is = tellable n number in
      let to : n ≤ work.count = number.to in
      record {
        number = number_of-decimal n (omega arith);
        from = number.from;
        to = to;
        named = is.named;
        affinity = refl;
        start = tick_told (start n) is.times.start;
        finish = tick_told (finish_of work start n) is.times.finish;
        worker = worker_told (worker n) is.worker;
      }

  line_begins_none : (n : ℕ) → IsNumber work n → begins_summary (line n) ≡ false
  unfolding line
  line_begins_none n number = let to : n ≤ work.count = number.to in decimal_differs (codes "workers") refl n (omega arith)

  line_is_bare : (n : ℕ) → IsNumber work n → IsBare (line n)
  unfolding line
  line_is_bare n number = record { some = omega arith; each = line_is_simple n number }

  -- the lines, and what they tell
  lines : List Record
  lines = map line (numbers work)

  all_lines : (P : Record → Type 0) → ((n : ℕ) → IsNumber work n → P (line n)) → All P lines
  unfolding lines
  all_lines P each = λ k d within.
      let count : length (map line (numbers work)) ≡ work.count = length-map-range_with_len line 1 work.count in
      let number : IsNumber work (k + 1) = record { from = omega arith; to = omega arith } in
      subst P (sym (get_or-map-range_with_len line 1 work.count k (k + 1) d (omega arith) (omega arith))) (each (k + 1) number)

  line_at : (k : ℕ) (fields : Record) → slice_get lines k ≡ Some fields → (fields ≡ line (k + 1)) × IsNumber work (k + 1)
  unfolding lines
  line_at k fields there =
      let count : length (map line (numbers work)) ≡ work.count = length-map-range_with_len line 1 work.count in
      let within : k < length (map line (numbers work)) = slice_get_within lines k fields there in (
        sym (get_or_from_slice_get lines k fields fields there) ∙ get_or-map-range_with_len line 1 work.count k (k + 1) fields (omega arith) (omega arith),
        record { from = omega arith; to = omega arith },
      )

  line_there : (n : ℕ) → IsNumber work n → slice_get lines (n - 1) ≡ Some (line n)
  unfolding lines
  line_there n number =
      let count : length (map line (numbers work)) ≡ work.count = length-map-range_with_len line 1 work.count in
      let from : 1 ≤ n = number.from in
      let to : n ≤ work.count = number.to in
      slice_get-get_or lines (n - 1) [] (omega arith) ∙ ap Some (get_or-map-range_with_len line 1 work.count (n - 1) n [] (omega arith) (omega arith))

  row_is_told : (n : ℕ) → IsNumber work n → row_at (map told (numbers work)) n ≡ told n
  row_is_told n number =
      let from : 1 ≤ n = number.from in
      let to : n ≤ work.count = number.to in
      get_or-map-range_with_len told 1 work.count (n - 1) n no_row (omega arith) (omega arith)

  lines_are_rows : (fields : Record) → Contains lines fields → IsRowIn work.count (map told (numbers work)) fields
  unfolding told
  lines_are_rows fields among =
      let place = place_of lines fields among in
      let at = line_at place.0 fields place.1 in
      let n : ℕ = place.0 + 1 in
      let is = tellable n at.1 in (
        n,
        subst (λ row. IsRowOf work.count fields n row) (sym (row_is_told n at.1))
            (subst (λ fields. IsRowOf work.count fields n (told n)) (sym at.0) (line_is_row n at.1)),
        subst HasSmallNumbers (sym (row_is_told n at.1)) (record { times = is.times; worker = is.worker }),
      )

  one_line : (n : ℕ) → 1 ≤ n → n ≤ work.count → HasOneRow work.count lines n
  one_line n from to =
      let number : IsNumber work n = record { from = from; to = to } in
      record {
        place = n - 1;
        fields = line n;
        row = told n;
        there = line_there n number;
        is = line_is_row n number;
        only = λ other another says there is.
            let at = line_at other another there in
            let same : n ≡ other + 1 = one_message work.count (line (other + 1)) n (other + 1) says (told (other + 1))
            (subst (λ fields. IsRowOf work.count fields n says) at.0 is) (line_is_row (other + 1) at.1) in
            omega (arith, same);
      }

-- the fields of the summary are spelled
workers_told : (workers : Option ℕ) → IfSome workers IsWorkers → IsWorkersField (worker_field workers) workers
workers_told None is = refl
workers_told (Some k) is = let to : k ≤ MAX_WORKERS = is.to in (number_of-decimal k (omega arith), is)

small_chain : (messages : ℕ) (chain : List ℕ) → messages ≤ MAX_MESSAGES → All (IsAmongFirst messages) chain → All (λ m. m < 2 ^ 64) chain
small_chain messages chain few_messages each = λ k d within. let is = each k d within in let to = is.to in omega arith

chain_told : (messages : ℕ) (chain : List ℕ) → messages ≤ MAX_MESSAGES → All (IsAmongFirst messages) chain → AreNumbers (numbers_field chain) chain
chain_told messages [] few_messages each = inl (refl, refl)
chain_told messages (m ∷ more) few_messages each =
    let small = small_chain messages (m ∷ more) few_messages each in
    let first : 0 < length (decimal m) = decimal_nonempty m (All-head (λ m. m < 2 ^ 64) m more small) in
    inr (
      λ none. absurd (omega (arith, ap length none, length-append (decimal m) (flat_map (λ n. (32 ∷ []) ++ decimal n) more))),
      ap (map number_of) (parts-numbers 32 refl m more small) ∙ all_told (m ∷ more) small,
    )
  where
    all_told : (numbers : List ℕ) → All (λ m. m < 2 ^ 64) numbers → map number_of (map decimal numbers) ≡ map Some numbers
    all_told [] small = refl
    all_told (n ∷ more) small =
        rw (number_of-decimal n (All-head (λ m. m < 2 ^ 64) n more small), all_told more (All-tail (λ m. m < 2 ^ 64) n more small)) refl

-- the lines of a summary spell it, and call for no quotes
module _ (version : Version) (messages : ℕ) (workers : Option ℕ) (chain : List ℕ) (totals : Totals)
    (few_messages : messages ≤ MAX_MESSAGES) (known : IfSome workers IsWorkers) (listed : IsListed messages chain) (within : AreTotals version totals) where
  abbrev summary : SummaryLines
  summary = record { workers = workers; chain = chain; totals = totals }

  number_told : (name : Field) (n : ℕ) → n ≤ MAX_TICK → IsPair name (λ text. number_of text ≡ Some n) (name ∷ decimal n ∷ []) × (n ≤ MAX_TICK)
  number_told name n small = ((decimal n, refl, tick_told n small), small)

  line_told : (line : Line) → IsLineOf messages summary line (summary_line summary line)
  line_told Workers = ((worker_field workers, refl, workers_told workers known), tt)
  line_told Total = number_told (line_name Total) totals.total within.total
  line_told Length = number_told (line_name Length) totals.length within.length
  line_told Chain = ((numbers_field chain, refl, (chain_told messages chain few_messages listed.each, listed)), tt)
  line_told Release = number_told (line_name Release) totals.release within.release
  line_told Cost = number_told (line_name Cost) totals.cost within.cost
  line_told Bound =
      ((decimal totals.left, decimal totals.right, refl, tick_told totals.left within.left, tick_told totals.right within.right), (within.left, within.right))

  lines_told : (lines : List Line) → AreLinesOf messages summary lines (map (summary_line summary) lines)
  lines_told [] = tt
  lines_told (line ∷ lines) = (line_told line, lines_told lines)

  summary_told : SpellsSummary version messages (summary_lines version workers chain totals) summary
  unfolding summary_lines
  summary_told = record { lines = lines_told (lines_of version); no_release = λ none. within.no_release (first_version version none) }
    where
      first_version : (version : Version) → has_releases version ≡ false → version ≡ V1
      first_version V1 none = refl
      first_version V2 none = absurd (cc)
      first_version V3 none = absurd (cc)
      first_version V4 none = absurd (cc)

  small_workers : (workers : Option ℕ) → IfSome workers IsWorkers → IfSome workers (λ k. k < 2 ^ 64)
  small_workers None is = tt
  small_workers (Some k) is = let to : k ≤ MAX_WORKERS = is.to in omega arith

  bare_pair : (name text : Field) → list_all is_simple name ≡ true → IsSimple text → IsBare (name ∷ text ∷ [])
  bare_pair name text named simple = record { some = omega arith; each = two name text (simple_literal name named) simple }

  bare_number : (name : Field) (n : ℕ) → list_all is_simple name ≡ true → n ≤ MAX_TICK → IsBare (name ∷ decimal n ∷ [])
  bare_number name n named small = bare_pair name (decimal n) named (simple_decimal n (small_tick n small))

  bare_line : (line : Line) → IsBare (summary_line summary line)
  bare_line Workers = bare_pair (line_name Workers) (worker_field workers) refl (simple_worker workers (small_workers workers known))
  bare_line Total = bare_number (line_name Total) totals.total refl within.total
  bare_line Length = bare_number (line_name Length) totals.length refl within.length
  bare_line Chain =
      bare_pair (line_name Chain) (numbers_field chain) refl (simple_numbers 32 refl chain (small_chain messages chain few_messages listed.each))
  bare_line Release = bare_number (line_name Release) totals.release refl within.release
  bare_line Cost = bare_number (line_name Cost) totals.cost refl within.cost
  bare_line Bound = record {
    some = omega arith;
    each = three (line_name Bound) (decimal totals.left) (decimal totals.right) (simple_literal (line_name Bound) refl)
        (simple_decimal totals.left (small_tick totals.left within.left)) (simple_decimal totals.right (small_tick totals.right within.right));
  }

  bare_lines : (lines : List Line) → All IsBare (map (summary_line summary) lines)
  bare_lines [] = All-nil IsBare
  bare_lines (line ∷ lines) = All-cons IsBare (summary_line summary line) (map (summary_line summary) lines) (bare_line line) (bare_lines lines)

-- a text that begins with the header begins with no byte order mark
no_mark : (rows : List Record) → strip_bom (text_of (plan_header ∷ rows)) ≡ text_of (plan_header ∷ rows)
unfolding strip_bom
no_mark rows = refl

pub written_is_read : (version : Version) (tree : List Node) (assigned : List Held) (work : Work) (workers : Option ℕ) (start : ℕ → ℕ) (worker : ℕ → Option ℕ)
    (chain : List ℕ) → WrittenIsRead version tree assigned work workers start worker chain
unfolding line told lines summary_lines
written_is_read version tree assigned work workers start worker chain tellable =
    let totals = totals_of workers work start chain in
    let summary : List Record = summary_lines version workers chain totals in
    let rows : List Record = map (message_row tree assigned work start worker) (numbers work) in
    let records : List Record = plan_header ∷ rows ++ summary in
    let bare_end = bare_lines version work.count workers chain totals tellable.few tellable.known tellable.listed tellable.totals (lines_of version) in
    let bare : All IsBare (rows ++ summary) = All-append IsBare rows summary
    (all_lines version tree assigned work start worker tellable.few tellable.rows IsBare
    (line_is_bare version tree assigned work start worker tellable.few tellable.rows)) bare_end in
    let read : records_of (text_of records) ≡ records =
    records_of-rows records (All-cons IsBare plan_header (rows ++ summary) (record { some = omega arith; each = simple_header }) bare) (no_mark (rows ++ summary)) in
    let front = front_is rows (codes "workers" ∷ worker_field workers ∷ []) (drop 1 summary)
    (all_lines version tree assigned work start worker tellable.few tellable.rows (λ row. begins_summary row ≡ false)
    (line_begins_none version tree assigned work start worker tellable.few tellable.rows)) refl in
    let is : IsReadAs version work.count (rows ++ summary) (plan_told version tree assigned work workers start worker chain) = record {
      text = λ fields among. bare_is_text fields (All-contains IsBare (rows ++ summary) fields bare among).each;
      rows = rw front.0 (lines_are_rows version tree assigned work start worker tellable.few tellable.rows);
      once = rw front.0 (one_line version tree assigned work start worker tellable.few tellable.rows);
      count = length-map-range_with_len (row_told tree assigned work start worker) 1 work.count;
      summary = rw front.1 (summary_told version work.count workers chain totals tellable.few tellable.known tellable.listed tellable.totals);
      of_version = refl;
    } in
    let headed : header_of records ≡ Ok tt = rw (bare_is_text plan_header simple_header) refl in
    (plan_is_exact version work.count (text_of records) (plan_told version tree assigned work workers start worker chain)).1
    (ap header_of read ∙ headed, subst (λ (rs : List Record). IsReadAs version work.count (drop 1 rs) (plan_told version tree assigned work workers start worker chain)) (sym read) is)
