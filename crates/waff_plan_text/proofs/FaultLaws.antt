-- The first record with a fault decides, and of its faults the one of least number.
use Rattle.std.proofs.Common.{◌≡◌, ◌⊎◌, ℕ, suc, ◌+◌, ◌<◌, ◌≤◌, List, [], ◌∷◌, ◌++◌, length, map, drop, take, replicate, get_or, Bool, true, false, Option, Some, None, IsSome, Result, Ok, Err, slice_get, refl, ap, sym, ◌∙◌, subst, arith, inl, inr}
use Rattle.std.specs.Prelude.{◌-◌, ◌==◌, ◌↔◌, is_some, if◌then◌else◌}
use Rattle.std.proofs.lemmas.Bool.{cases_eq, cases_order}
use Rattle.std.proofs.lemmas.List.{length-take-le}
use Rattle.std.proofs.lemmas.Option.{slice_get_past}
use Rattle.waff_model.specs.declared.message.Version.{Version}
use Rattle.waff_parse.specs.Fields.{five_of}
use Rattle.waff_parse.specs.Refusals.{◌>>=◌, told}
use Rattle.waff_parse.specs.Rows.{Record, is_text, records_of}
use Rattle.waff_plan_text.specs.Given.{Given, SummaryLines}
use Rattle.waff_plan_text.specs.PlanTexts.{header_of, plan_after, plan_of_end, plan_of_records, plan_of_rows, plan_of_summary, put, rows_in}
use Rattle.waff_plan_text.specs.Refusals.{at_record}
use Rattle.waff_plan_text.specs.Refused.{FirstFaultDecides, HasRow, HasSmallNumbers, HasFault, HoldsAtEnd, HoldsOf, IsFirstFault, IsMissing, IsNotLine, IsRefusedPlan, IsRowOf, IsTooLargeLine, IsTooLargeRow, next_of, number, number_behind, refusal_of, refused, summary_in}
use Rattle.waff_plan_text.specs.Rows.{Slots, row_of, slot_of}
use Rattle.waff_plan_text.specs.Summaries.{begins_summary, no_summary, summary_of}
use Rattle.waff_plan_text.specs.Table.{lines_of}
use Rattle.waff_plan_text.specs.declared.refusal.PlanTextError.{PlanTextError}
use Rattle.waff_plan_text.specs.declared.refusal.PlanTextError.TheVariants as error
use Rattle.waff_plan_text.specs.declared.refusal.Refusal.{Refusal}
use Rattle.waff_plan_text.specs.declared.refusal.Refusal.TheVariants as refusal
use Rattle.waff_plan_text.specs.declared.row.NumberedRow.{NumberedRow}
use Rattle.waff_plan_text.specs.declared.row.Row.{Row}
use Rattle.waff_plan_text.specs.declared.table.Line.{Line}
use Rattle.waff_plan_text.proofs.KeptLaws.{Kept, RowsAre, kept_put, kept_start, rows_are, slot_filled}
use Rattle.waff_plan_text.proofs.PlaceLaws.{at_end, is_at, summary_more, summary_none}
use Rattle.waff_plan_text.proofs.RowLaws.{ReadAs, RefusedAs, one_message, one_row, row_read, row_within}
use Rattle.waff_plan_text.proofs.SummaryLaws.{LineOnly, line_only, lines_refusal, lines_refused, ok_last, or_else}

-- what a check of a record of the summary says
abbrev LineFault : ℕ → Option Line → Record → PlanTextError → Type 0
LineFault messages next row (error.Summary at) = IsNotLine messages next row
LineFault messages next row (error.TooLarge at) = IsTooLargeLine messages next row
LineFault messages next row _ = ⊥

-- and of a record before it
abbrev RowFault : ℕ → List Record → Record → PlanTextError → Type 0
RowFault messages before row (error.Row at) = (n : ℕ) (says : Row) → IsRowOf messages row n says → ⊥
RowFault messages before row (error.Twice at) = (n : ℕ) × (says : Row) × IsRowOf messages row n says × HasRow messages before n
RowFault messages before row (error.TooLarge at) = IsTooLargeRow messages row
RowFault messages before row _ = ⊥

line_least : (messages : ℕ) (next : Option Line) (row : Record) (e : PlanTextError) → LineFault messages next row e → 6 ≤ number e
line_least messages next row (error.Summary at) h = omega arith
line_least messages next row (error.TooLarge at) h = omega arith
line_least messages next row _ h = absurd h

large_least : (messages : ℕ) (line : Line) (row : Record) → refused messages line row ≡ Some refusal.TooLarge → (e : PlanTextError) → LineFault messages (Some line) row e → 7 ≤ number e
large_least messages line row is (error.Summary at) h = absurd (cc)
large_least messages line row is (error.TooLarge at) h = omega arith
large_least messages line row is _ h = absurd h

line_clean : (messages : ℕ) (line : Line) (row : Record) → refused messages line row ≡ None → (e : PlanTextError) → LineFault messages (Some line) row e → ⊥
line_clean messages line row is (error.Summary at) h = absurd (cc)
line_clean messages line row is (error.TooLarge at) h = absurd (cc)
line_clean messages line row is _ h = h

any_least : (e : PlanTextError) → 1 ≤ number e
any_least error.Memory = omega arith
any_least _ = omega arith

row_least : (messages : ℕ) (before : List Record) (row : Record) (e : PlanTextError) → RowFault messages before row e → 3 ≤ number e
row_least messages before row (error.Row at) h = omega arith
row_least messages before row (error.Twice at) h = omega arith
row_least messages before row (error.TooLarge at) h = omega arith
row_least messages before row _ h = absurd h

twice_least : (messages : ℕ) (before : List Record) (row : Record) → (((n : ℕ) (says : Row) → IsRowOf messages row n says → ⊥) → ⊥)
    → (e : PlanTextError) → RowFault messages before row e → 5 ≤ number e
twice_least messages before row is (error.Row at) h = absurd (is h)
twice_least messages before row is (error.Twice at) h = omega arith
twice_least messages before row is (error.TooLarge at) h = omega arith
twice_least messages before row is _ h = absurd h

abbrev IsSecond : ℕ → List Record → Record → Type 0
IsSecond messages before row = (n : ℕ) × (says : Row) × IsRowOf messages row n says × HasRow messages before n

too_large_least : (messages : ℕ) (before : List Record) (row : Record) → (((n : ℕ) (says : Row) → IsRowOf messages row n says → ⊥) → ⊥)
    → (IsSecond messages before row → ⊥) → (e : PlanTextError) → RowFault messages before row e → 7 ≤ number e
too_large_least messages before row is one (error.Row at) h = absurd (is h)
too_large_least messages before row is one (error.Twice at) h = absurd (one h)
too_large_least messages before row is one (error.TooLarge at) h = omega arith
too_large_least messages before row is one _ h = absurd h

row_clean : (messages : ℕ) (before : List Record) (row : Record) → (((n : ℕ) (says : Row) → IsRowOf messages row n says → ⊥) → ⊥)
    → (IsSecond messages before row → ⊥) → (IsTooLargeRow messages row → ⊥) → (e : PlanTextError) → RowFault messages before row e → ⊥
row_clean messages before row is one small (error.Row at) h = is h
row_clean messages before row is one small (error.Twice at) h = one h
row_clean messages before row is one small (error.TooLarge at) h = small h
row_clean messages before row is one small _ h = h

abbrev IsComplete : ℕ → List Record → Type 0
IsComplete messages before = summary_in before ≡ [] → (message : ℕ) → IsMissing messages before message → ⊥

-- what holds at the end
module _ (version : Version) (messages : ℕ) (before : List Record) where
  end_least : (e : PlanTextError) → HoldsAtEnd version messages before e → 4 ≤ number e
  end_least (error.Missing message) h = omega arith
  end_least (error.Summary at) h = omega arith
  end_least _ h = absurd h

  complete_least : IsComplete messages before → (e : PlanTextError) → HoldsAtEnd version messages before e → 6 ≤ number e
  complete_least complete (error.Missing message) h = absurd (complete h.0 message h.1)
  complete_least complete (error.Summary at) h = omega arith
  complete_least complete _ h = absurd h

  end_clean : IsComplete messages before → next_of version before ≡ None → (e : PlanTextError) → HoldsAtEnd version messages before e → ⊥
  end_clean complete last (error.Missing message) h = complete h.0 message h.1
  end_clean complete last (error.Summary at) h = let more : is_some (next_of version before) ≡ false = rw last refl in let h1 = h.1 in absurd (cc)
  end_clean complete last _ h = h

module _ (version : Version) (messages : ℕ) (before : List Record) (row : Record) (text : is_text row ≡ true) where
  in_summary : (next : Option Line) → 1 ≤ length (summary_in (before ++ row ∷ [])) → next_of version before ≡ next
      → (summary_in before ≡ [] → (message : ℕ) → IsMissing messages before message → ⊥)
      → (e : PlanTextError) → HoldsOf version messages before row e → LineFault messages next row e
  in_summary next some is complete (error.Csv at) h = let not : is_text row ≡ false = h.1 in absurd (cc)
  in_summary next some is complete (error.Row at) h = let none = ap length h.1 in absurd (omega (arith, some, none))
  in_summary next some is complete (error.Missing message) h = complete h.0 message h.2
  in_summary next some is complete (error.Twice at) h = let none = ap length h.1 in absurd (omega (arith, some, none))
  in_summary next some is complete (error.Summary at) h = subst (λ n. IsNotLine messages n row) is h.2
  in_summary next some is complete (error.TooLarge at) h = by h.1
    where
      by : ((summary_in (before ++ row ∷ []) ≡ []) × IsTooLargeRow messages row)
          ⊎ ((1 ≤ length (summary_in (before ++ row ∷ []))) × IsTooLargeLine messages (next_of version before) row)
          → IsTooLargeLine messages next row
      by (inl k) = let none = ap length k.0 in absurd (omega (arith, some, none))
      by (inr k) = subst (λ n. IsTooLargeLine messages n row) is k.1
  in_summary next some is complete _ h = h

  begin_least : 1 ≤ length (summary_in (before ++ row ∷ [])) → (e : PlanTextError) → HoldsOf version messages before row e → 4 ≤ number e
  begin_least some (error.Csv at) h = let not : is_text row ≡ false = h.1 in absurd (cc)
  begin_least some (error.Header at) h = absurd h
  begin_least some (error.Row at) h = let none = ap length h.1 in absurd (omega (arith, some, none))
  begin_least some error.Memory h = absurd h
  begin_least some _ h = omega arith

  among_rows : summary_in (before ++ row ∷ []) ≡ [] → begins_summary row ≡ false
      → (e : PlanTextError) → HoldsOf version messages before row e → RowFault messages before row e
  among_rows none begins (error.Csv at) h = let not : is_text row ≡ false = h.1 in absurd (cc)
  among_rows none begins (error.Row at) h = h.2
  among_rows none begins (error.Missing message) h = let yes : begins_summary row ≡ true = h.1 in absurd (cc)
  among_rows none begins (error.Twice at) h = h.2
  among_rows none begins (error.Summary at) h = let no = ap length none in let some = h.1 in absurd (omega (arith, some, no))
  among_rows none begins (error.TooLarge at) h = by h.1
    where
      by : ((summary_in (before ++ row ∷ []) ≡ []) × IsTooLargeRow messages row)
          ⊎ ((1 ≤ length (summary_in (before ++ row ∷ []))) × IsTooLargeLine messages (next_of version before) row)
          → IsTooLargeRow messages row
      by (inl k) = k.1
      by (inr k) = let no = ap length none in let some = k.0 in absurd (omega (arith, some, no))
  among_rows none begins _ h = h

module _ (version : Version) (messages : ℕ) (rows : List Record) where
  abbrev pub HoldsAt : ℕ → PlanTextError → Type 0
  HoldsAt k e = HasFault version messages (take k rows) (slice_get rows k) e

  -- no check holds before a place
  abbrev pub Clean : ℕ → Type 0
  Clean k = (j : ℕ) (e : PlanTextError) → j < k → HoldsAt j e → ⊥

  abbrev pub Decides : Option PlanTextError → Type 0
  Decides (Some e) = (place : ℕ) × IsFirstFault version messages rows place e
  Decides None = Clean (suc (length rows))

  clean_more : (k : ℕ) → Clean k → ((e : PlanTextError) → HoldsAt k e → ⊥) → Clean (suc k)
  clean_more k clean here j e lt holds = by (cases_order j k)
    where
      by : (j ≡ k) ⊎ ((j < k) ⊎ (k < j)) → ⊥
      by (inl same) = here e (subst (λ j. HoldsAt j e) same holds)
      by (inr (inl below)) = clean j e below holds
      by (inr (inr above)) = absurd (omega (arith, lt, above))

  -- a place with a record, and the end
  module _ (k : ℕ) (within : k ≤ length rows) (clean : Clean k) where
    pub number_is : k + 2 ≡ number_behind (take k rows)
    number_is = let l = length-take-le k rows within in omega (arith, l)

    fault_of : (row : Record) (e : PlanTextError) → slice_get rows k ≡ Some row → HoldsOf version messages (take k rows) row e
        → ((other : PlanTextError) → HoldsOf version messages (take k rows) row other → number e ≤ number other) → Decides (Some e)
    fault_of row e there holds least = (
      k,
      record {
        there = within;
        holds = rw there holds;
        least = λ other h. least other (subst (λ o. HasFault version messages (take k rows) o other) there h);
        before = clean;
      },
    )

    clean_of : (row : Record) → slice_get rows k ≡ Some row → ((e : PlanTextError) → HoldsOf version messages (take k rows) row e → ⊥) → Clean (suc k)
    clean_of row there none = clean_more k clean (λ e h. none e (subst (λ o. HasFault version messages (take k rows) o e) there h))

    fault_at_end : (e : PlanTextError) → slice_get rows k ≡ None → HoldsAtEnd version messages (take k rows) e
        → ((other : PlanTextError) → HoldsAtEnd version messages (take k rows) other → number e ≤ number other) → Decides (Some e)
    fault_at_end e there holds least = (
      k,
      record {
        there = within;
        holds = rw there holds;
        least = λ other h. least other (subst (λ o. HasFault version messages (take k rows) o other) there h);
        before = clean;
      },
    )

    clean_at_end : length rows ≤ k → slice_get rows k ≡ None → ((e : PlanTextError) → HoldsAtEnd version messages (take k rows) e → ⊥) → Clean (suc (length rows))
    clean_at_end past there none =
        let same : k ≡ length rows = omega (arith, past, within) in
        subst (λ n. Clean (suc n)) same (clean_more k clean (λ e h. none e (subst (λ o. HasFault version messages (take k rows) o e) there h)))

    csv_decides : (row : Record) → slice_get rows k ≡ Some row → is_text row ≡ false → Decides (Some (error.Csv (k + 2)))
    csv_decides row there bad = fault_of row (error.Csv (k + 2)) there (number_is, bad) (λ other h. any_least other)

  -- the lines of the summary
  next_none : (k i : ℕ) → length (summary_in (take k rows)) ≡ i → drop i (lines_of version) ≡ [] → next_of version (take k rows) ≡ None
  next_none k i count l =
      ap (slice_get (lines_of version)) count ∙ slice_get_past (lines_of version) i (at_end (lines_of version) i l)

  next_some : (k i : ℕ) (line : Line) (lines : List Line) → length (summary_in (take k rows)) ≡ i → drop i (lines_of version) ≡ line ∷ lines
      → next_of version (take k rows) ≡ Some line
  next_some k i line lines count l =
      ap (slice_get (lines_of version)) count ∙ (is_at (lines_of version) i line lines l).there

  lines_decide : (left : List Record) (lines : List Line) (k i : ℕ) → drop k rows ≡ left → k ≤ length rows → drop i (lines_of version) ≡ lines
      → length (summary_in (take k rows)) ≡ i
      → ((row : Record) (more : List Record) → left ≡ row ∷ more → length (summary_in (take k rows ++ row ∷ [])) ≡ suc i)
      → IsComplete messages (take k rows) → Clean k → Decides (lines_refusal messages lines (k + 2) left)
  lines_decide [] [] k i d within l count opened complete clean =
      let past = at_end rows k d in
      clean_at_end k within clean past (slice_get_past rows k past)
      (end_clean version messages (take k rows) complete (next_none k i count l))
  lines_decide [] (line ∷ lines) k i d within l count opened complete clean =
      let past = at_end rows k d in
      let next = next_some k i line lines count l in
      fault_at_end k within clean (error.Summary (k + 2)) (slice_get_past rows k past)
      (number_is k within clean, rw next refl) (complete_least version messages (take k rows) complete)
  lines_decide (row ∷ more) [] k i d within l count opened complete clean = by (is_text row) refl
    where
      by : (t : Bool) → is_text row ≡ t → Decides (Some (at_record (k + 2) (if t then refusal.Summary else refusal.Csv)))
      by false bad = csv_decides k within clean row (is_at rows k row more d).there bad
      by true text =
          let there = (is_at rows k row more d).there in
          let next = next_none k i count l in
          let starts = opened row more refl in
          let some : 1 ≤ length (summary_in (take k rows ++ row ∷ [])) = omega (arith, starts) in
          fault_of k within clean row (error.Summary (k + 2)) there (number_is k within clean, some, subst (λ n. IsNotLine messages n row) (sym next) tt)
          (λ other h. line_least messages None row other (in_summary version messages (take k rows) row text None some next complete other h))
  lines_decide (row ∷ more) (line ∷ lines) k i d within l count opened complete clean =
      let at = is_at rows k row more d in
      let starts = opened row more refl in
      let count_more : length (summary_in (take (suc k) rows)) ≡ suc i = ap (λ rs. length (summary_in rs)) at.before ∙ starts in
      by (is_text row) refl
      (λ clean. subst (λ n. Decides (lines_refusal messages lines n more)) (omega arith)
      (lines_decide more lines (suc k) (suc i) at.behind at.within (is_at (lines_of version) i line lines l).behind count_more
      (λ other others same. summary_more (take (suc k) rows) other i count_more)
      (λ none message missing. let zero_long = ap length none in absurd (omega (arith, zero_long, count_more))) clean))
    where
      read : is_text row ≡ true → (Clean (suc k) → Decides (lines_refusal messages lines (k + 2 + 1) more)) → (o : Option Refusal) → refused messages line row ≡ o → LineOnly o
          → Decides (or_else o (k + 2) (lines_refusal messages lines (k + 2 + 1) more))
      read text others None is h =
          let starts = opened row more refl in
          others (clean_of k within clean row (is_at rows k row more d).there
          (λ e holds. line_clean messages line row is e
          (in_summary version messages (take k rows) row text (Some line) (omega (arith, starts)) (next_some k i line lines count l) complete e holds)))
      read text others (Some refusal.Summary) is h =
          let starts = opened row more refl in
          let next = next_some k i line lines count l in
          let some : 1 ≤ length (summary_in (take k rows ++ row ∷ [])) = omega (arith, starts) in
          fault_of k within clean row (error.Summary (k + 2)) (is_at rows k row more d).there
          (number_is k within clean, some, subst (λ n. IsNotLine messages n row) (sym next) is)
          (λ other holds. line_least messages (Some line) row other (in_summary version messages (take k rows) row text (Some line) some next complete other holds))
      read text others (Some refusal.TooLarge) is h =
          let starts = opened row more refl in
          let next = next_some k i line lines count l in
          let some : 1 ≤ length (summary_in (take k rows ++ row ∷ [])) = omega (arith, starts) in
          fault_of k within clean row (error.TooLarge (k + 2)) (is_at rows k row more d).there
          (number_is k within clean, inr (some, subst (λ n. IsTooLargeLine messages n row) (sym next) is))
          (λ other holds. large_least messages line row is other (in_summary version messages (take k rows) row text (Some line) some next complete other holds))
      read text others (Some _) is h = absurd h

      by : (t : Bool) → is_text row ≡ t → (Clean (suc k) → Decides (lines_refusal messages lines (k + 2 + 1) more))
          → Decides (if t then or_else (refused messages line row) (k + 2) (lines_refusal messages lines (k + 2 + 1) more) else Some (error.Csv (k + 2)))
      by false bad others = csv_decides k within clean row (is_at rows k row more d).there bad
      by true text others = read text others (refused messages line row) refl (line_only messages line row)

  -- the rows so far, where one is missing, and where none is
  pub missing_of : (slots : Slots) (before : List Record) (j : ℕ) → Kept messages slots before → j < length slots → get_or slots j None ≡ None
      → ((i : ℕ) → i < j → (row : Row) × (get_or slots i None ≡ Some row)) → IsMissing messages before (j + 1)
  missing_of slots before j so_far lt free all =
      let count = so_far.count in
      let place : j + 1 - 1 ≡ j = omega arith in
      let free_slot : slot_of slots (j + 1) ≡ None = ap (λ n. get_or slots n None) place ∙ free in
      record {
        from = omega arith;
        to = omega (arith, lt, count);
        none = λ (fields, row, among, is). let filled : slot_of slots (j + 1) ≡ Some row = so_far.kept fields (j + 1) row among is in absurd (cc);
        least = λ n from below.
            let filled = all (n - 1) (omega (arith, from, below)) in
            let found = so_far.has n filled.0 from (omega (arith, lt, count, below)) filled.1 in
            (found.0, filled.0, found.1, found.2);
      }

  complete_of : (slots : Slots) (before : List Record) (says : List Row) → Kept messages slots before → slots ≡ map Some says
      → (message : ℕ) → IsMissing messages before message → ⊥
  complete_of slots before says so_far are message missing =
      let count = so_far.count in
      let from : 1 ≤ message = missing.from in
      let to : message ≤ messages = missing.to in
      let filled = slot_filled says slots message are from (omega (arith, to, count)) in
      let found = so_far.has message filled.0 from to filled.1 in
      missing.none (found.0, filled.0, found.1, found.2)

  end_decides : (k : ℕ) (slots : Slots) → drop k rows ≡ [] → k ≤ length rows → summary_in (take k rows) ≡ [] → Kept messages slots (take k rows) → Clean k
      → Decides (refusal_of (plan_of_end (k + 2) slots))
  unfolding plan_of_end
  end_decides k slots d within none so_far clean = by (rows_in slots) (rows_are 0 slots)
    where
      by : (r : Result (List Row) PlanTextError) → RowsAre 0 slots r
          → Decides (refusal_of (r >>= (λ _. let failed : Result Given PlanTextError = Err (error.Summary (k + 2)) in failed)))
      by (Ok says) are =
          let complete : IsComplete messages (take k rows) = λ none. complete_of slots (take k rows) says so_far are in
          let next : next_of version (take k rows) ≡ slice_get (lines_of version) 0 =
          ap (λ (rs : List Record). slice_get (lines_of version) (length rs)) none in
          fault_at_end k within clean (error.Summary (k + 2)) (slice_get_past rows k (at_end rows k d))
          (number_is k within clean, subst (λ (o : Option Line). IsSome o) (sym next) refl)
          (complete_least version messages (take k rows) complete)
      by (Err e) (j, is, lt, free, all) =
          subst (λ e. Decides (Some e)) (ap error.Missing (omega arith) ∙ sym is)
          (fault_at_end k within clean (error.Missing (j + 1)) (slice_get_past rows k (at_end rows k d))
          (none, missing_of slots (take k rows) j so_far lt free all) (end_least version messages (take k rows)))

  summary_decides : (k : ℕ) (slots : Slots) (row : Record) (more : List Record) → drop k rows ≡ row ∷ more → k ≤ length rows → summary_in (take k rows) ≡ []
      → is_text row ≡ true → begins_summary row ≡ true → Kept messages slots (take k rows) → Clean k
      → Decides (refusal_of (plan_of_summary version messages (k + 2) slots (row ∷ more)))
  unfolding plan_of_summary
  summary_decides k slots row more d within none text begins so_far clean = by (rows_in slots) (rows_are 0 slots)
    where
      starts : length (summary_in (take k rows ++ row ∷ [])) ≡ 1
      starts = ap length (summary_none (take k rows) row none ∙ ap (λ b. if b then row ∷ [] else []) begins)

      by : (r : Result (List Row) PlanTextError) → RowsAre 0 slots r
          → Decides (refusal_of (r >>= (λ says. summary_of version messages (k + 2) (row ∷ more)
          >>= (λ (summary : SummaryLines). let plan : Given = record { version = version; rows = says; summary = summary } in Ok plan))))
      by (Ok says) are =
          let whole : SummaryLines → Given = λ summary. record { version = version; rows = says; summary = summary } in
          subst Decides (sym (ok_last (summary_of version messages (k + 2) (row ∷ more)) whole ∙ lines_refused messages (lines_of version) (k + 2) (row ∷ more) no_summary))
          (lines_decide (row ∷ more) (lines_of version) k 0 d within refl (ap length none)
          (λ other others same. let this : row ≡ other = cc in ap (λ r. length (summary_in (take k rows ++ r ∷ []))) (sym this) ∙ starts)
          (λ none. complete_of slots (take k rows) says so_far are) clean)
      by (Err e) (j, is, lt, free, all) =
          subst (λ e. Decides (Some e)) (ap error.Missing (omega arith) ∙ sym is)
          (fault_of k within clean row (error.Missing (j + 1)) (is_at rows k row more d).there
          (none, begins, missing_of slots (take k rows) j so_far lt free all)
          (begin_least version messages (take k rows) row text (omega (arith, starts))))

  -- a row
  row_spells : (slots : Slots) (row : Record) (n : ℕ) (says : Row) → length slots ≡ messages → IsRowOf (length slots) row n says → IsRowOf messages row n says
  row_spells slots row n says count h = subst (λ m. IsRowOf m row n says) count h

  not_second : (slots : Slots) (before : List Record) (row : Record) (n : ℕ) (says : Row) → Kept messages slots before → IsRowOf messages row n says
      → slot_of slots n ≡ None → IsSecond messages before row → ⊥
  not_second slots before row n says so_far is free (m, other, spells, (fields, third, among, earlier)) =
      let same : m ≡ n = one_message messages row m n other says spells is in
      let filled : slot_of slots m ≡ Some third = so_far.kept fields m third among earlier in
      let here : slot_of slots m ≡ None = ap (slot_of slots) same ∙ free in
      absurd (cc)

  row_refused : (k : ℕ) (slots : Slots) (row : Record) (more : List Record) → drop k rows ≡ row ∷ more → k ≤ length rows
      → summary_in (take k rows ++ row ∷ []) ≡ [] → is_text row ≡ true → begins_summary row ≡ false → Kept messages slots (take k rows) → Clean k
      → (e : Refusal) → RefusedAs slots (five_of row) e → Decides (Some (at_record (k + 2) e))
  row_refused k slots row more d within among text begins so_far clean refusal.Row h =
      fault_of k within clean row (error.Row (k + 2)) (is_at rows k row more d).there
      (number_is k within clean, among, λ n says spells. h n says (subst (λ m. IsRowOf m row n says) (sym so_far.count) spells))
      (λ other holds. row_least messages (take k rows) row other (among_rows version messages (take k rows) row text among begins other holds))
  row_refused k slots row more d within among text begins so_far clean refusal.Twice (n, says, other, spells, filled) =
      let is = row_spells slots row n says so_far.count spells in
      let w = row_within messages row n says is in
      let found = so_far.has n other w.0 w.1 filled in
      fault_of k within clean row (error.Twice (k + 2)) (is_at rows k row more d).there
      (number_is k within clean, among, (n, says, is, (found.0, other, found.1, found.2)))
      (λ other holds. twice_least messages (take k rows) row (λ not. not n says is) other
      (among_rows version messages (take k rows) row text among begins other holds))
  row_refused k slots row more d within among text begins so_far clean refusal.TooLarge (n, says, spells, large, free) =
      let is = row_spells slots row n says so_far.count spells in
      fault_of k within clean row (error.TooLarge (k + 2)) (is_at rows k row more d).there
      (number_is k within clean, inl (among, (n, says, is, large)))
      (λ other holds. too_large_least messages (take k rows) row (λ not. not n says is)
      (not_second slots (take k rows) row n says so_far is free) other
      (among_rows version messages (take k rows) row text among begins other holds))
  row_refused k slots row more d within among text begins so_far clean _ h = absurd h

  abbrev Others : ℕ → List Record → Type 0
  Others k more =
      (next : Slots) → summary_in (take (suc k) rows) ≡ [] → Kept messages next (take (suc k) rows) → Clean (suc k)
      → Decides (refusal_of (plan_after version messages (k + 2 + 1) next more))

  rows_decide : (left : List Record) (k : ℕ) (slots : Slots) → drop k rows ≡ left → k ≤ length rows → summary_in (take k rows) ≡ []
      → Kept messages slots (take k rows) → Clean k → Decides (refusal_of (plan_after version messages (k + 2) slots left))
  unfolding plan_after
  rows_decide [] k slots d within none so_far clean = end_decides k slots d within none so_far clean
  rows_decide (row ∷ more) k slots d within none so_far clean =
      let at = is_at rows k row more d in
      by (is_text row) refl (begins_summary row) refl
      (λ next none so_far clean. subst (λ n. Decides (refusal_of (plan_after version messages n next more))) (omega arith)
      (rows_decide more (suc k) next at.behind at.within none so_far clean))
    where
      read : summary_in (take k rows ++ row ∷ []) ≡ [] → is_text row ≡ true → begins_summary row ≡ false → Others k more
          → (r : Result NumberedRow Refusal) → ReadAs slots (five_of row) r
          → Decides (refusal_of (told (at_record (k + 2)) r >>= (λ given. plan_after version messages (k + 2 + 1) (put slots given) more)))
      read among text begins others (Err e) h = row_refused k slots row more d within among text begins so_far clean e h
      read among text begins others (Ok given) (spells, small, free) =
          let at = is_at rows k row more d in
          let is = row_spells slots row given.message given.row so_far.count spells in
          others (put slots given) (ap summary_in at.before ∙ among)
          (rw at.before (kept_put messages slots (take k rows) row given so_far is free))
          (clean_of k within clean row at.there
          (λ e holds. row_clean messages (take k rows) row (λ not. not given.message given.row is)
          (not_second slots (take k rows) row given.message given.row so_far is free)
          (λ (n, says, other, large). large (subst HasSmallNumbers (one_row messages row given.message n given.row says is other) small)) e
          (among_rows version messages (take k rows) row text among begins e holds)))

      by : (t : Bool) → is_text row ≡ t → (b : Bool) → begins_summary row ≡ b → Others k more
          → Decides (refusal_of (if t then (if b then plan_of_summary version messages (k + 2) slots (row ∷ more)
          else (told (at_record (k + 2)) (row_of slots row) >>= (λ given. plan_after version messages (k + 2 + 1) (put slots given) more)))
          else Err (error.Csv (k + 2))))
      by false bad b begins others = csv_decides k within clean row (is_at rows k row more d).there bad
      by true text true begins others = summary_decides k slots row more d within none text begins so_far clean
      by true text false begins others = read (summary_none (take k rows) row none ∙ ap (λ b. if b then row ∷ [] else []) begins) text begins others (row_of slots row) (row_read slots row)

  pub rows_decided : Decides (refusal_of (plan_of_rows version messages rows))
  rows_decided = rows_decide rows 0 (replicate messages None) refl (omega arith) refl (kept_start messages) (λ j e lt. absurd (omega (arith, lt)))

-- errors of one number that hold at one place are one error
abbrev named : ℕ → ℕ → PlanTextError
named n at =
    if n == 1 then error.Csv at else if n == 2 then error.Header at else if n == 3 then error.Row at
    else if n == 5 then error.Twice at else if n == 6 then error.Summary at else error.TooLarge at

module _ (version : Version) (messages : ℕ) (before : List Record) where
  named_of : (row : Record) (e : PlanTextError) → HoldsOf version messages before row e → (number e ≡ 4 → ⊥) → e ≡ named (number e) (number_behind before)
  named_of row (error.Csv at) h differs = ap error.Csv h.0
  named_of row (error.Row at) h differs = ap error.Row h.0
  named_of row (error.Missing message) h differs = absurd (differs refl)
  named_of row (error.Twice at) h differs = ap error.Twice h.0
  named_of row (error.Summary at) h differs = ap error.Summary h.0
  named_of row (error.TooLarge at) h differs = ap error.TooLarge h.0
  named_of row _ h differs = absurd h

  named_at_end : (e : PlanTextError) → HoldsAtEnd version messages before e → (number e ≡ 4 → ⊥) → e ≡ named (number e) (number_behind before)
  named_at_end (error.Missing message) h differs = absurd (differs refl)
  named_at_end (error.Summary at) h differs = ap error.Summary h.0
  named_at_end _ h differs = absurd h

  named_here : (entry : Option Record) (e : PlanTextError) → HasFault version messages before entry e → (number e ≡ 4 → ⊥) → e ≡ named (number e) (number_behind before)
  named_here None e h differs = named_at_end e h differs
  named_here (Some row) e h differs = named_of row e h differs

  missing_here : (entry : Option Record) (message : ℕ) → HasFault version messages before entry (error.Missing message) → IsMissing messages before message
  missing_here None message h = h.1
  missing_here (Some row) message h = h.2

  one_missing : (a b : ℕ) → IsMissing messages before a → IsMissing messages before b → a ≡ b
  one_missing a b p q = by (cases_order a b)
    where
      by : (a ≡ b) ⊎ ((a < b) ⊎ (b < a)) → a ≡ b
      by (inl same) = same
      by (inr (inl below)) = absurd (p.none (q.least a p.from below))
      by (inr (inr above)) = absurd (q.none (p.least b q.from above))

  is_missing : (e : PlanTextError) → number e ≡ 4 → (message : ℕ) × (e ≡ error.Missing message)
  is_missing (error.Missing message) h = (message, refl)
  is_missing _ h = absurd (omega (arith, h))

  same_error : (entry : Option Record) (e other : PlanTextError) → HasFault version messages before entry e → HasFault version messages before entry other
      → number e ≡ number other → e ≡ other
  same_error entry e other h k same = by (cases_eq (number e) 4)
    where
      by : (number e ≡ 4) ⊎ (number e ≡ 4 → ⊥) → e ≡ other
      by (inl four) =
          let a = is_missing e four in
          let b = is_missing other (sym same ∙ four) in
          let first = missing_here entry a.0 (subst (HasFault version messages before entry) a.1 h) in
          let second = missing_here entry b.0 (subst (HasFault version messages before entry) b.1 k) in
          a.1 ∙ ap error.Missing (one_missing a.0 b.0 first second) ∙ sym b.1
      by (inr differs) =
          named_here entry e h differs ∙ ap (λ n. named n (number_behind before)) same
          ∙ sym (named_here entry other k (λ four. differs (same ∙ four)))

module _ (version : Version) (messages : ℕ) (rows : List Record) where
  unique : (e other : PlanTextError) (p q : ℕ) → IsFirstFault version messages rows p e → IsFirstFault version messages rows q other → e ≡ other
  unique e other p q first second = by (cases_order p q)
    where
      by : (p ≡ q) ⊎ ((p < q) ⊎ (q < p)) → e ≡ other
      by (inl same) =
          let here : IsFirstFault version messages rows p other = subst (λ n. IsFirstFault version messages rows n other) (sym same) second in
          let a = first.least other here.holds in
          let b = here.least e first.holds in
          same_error version messages (take p rows) (slice_get rows p) e other first.holds here.holds (omega (arith, a, b))
      by (inr (inl below)) = absurd (second.before p e below first.holds)
      by (inr (inr above)) = absurd (first.before q other above second.holds)

  decided : (r : Result Given PlanTextError) → Decides version messages rows (refusal_of r) → (e : PlanTextError)
      → (r ≡ Err e) ↔ ((place : ℕ) × IsFirstFault version messages rows place e)
  decided (Ok plan) clean e = (λ h. absurd (cc), λ (place, first). let within = first.there in absurd (clean place e (omega (arith, within)) first.holds))
  decided (Err d) (place, is) e = (
    λ h. let same : d ≡ e = cc in (place, subst (λ e. IsFirstFault version messages rows place e) same is),
    λ (other, first). ap Err (unique d e place other is first),
  )

module _ (version : Version) (messages : ℕ) (records : List Record) (e : PlanTextError) where
  body : (plan_of_rows version messages (drop 1 records) ≡ Err e) ↔ ((place : ℕ) × IsFirstFault version messages (drop 1 records) place e)
  body = decided version messages (drop 1 records) (plan_of_rows version messages (drop 1 records)) (rows_decided version messages (drop 1 records)) e

  plan_refused : plan_of_records version messages records ≡ Err e → IsRefusedPlan version messages records e
  unfolding plan_of_records
  plan_refused h = by (header_of records) refl h
    where
      by : (r : Result (Unit {0}) PlanTextError) → header_of records ≡ r → (r >>= (λ _. plan_of_rows version messages (drop 1 records))) ≡ Err e
          → IsRefusedPlan version messages records e
      by (Ok done) is same = inr (is, body.0 same)
      by (Err d) is same = inl (is ∙ cc)

  refuse : IsRefusedPlan version messages records e → plan_of_records version messages records ≡ Err e
  unfolding plan_of_records
  refuse (inl bad) = rw bad refl
  refuse (inr (is, first)) = rw is (body.1 first)

pub first_fault_decides : (version : Version) (messages : ℕ) (bytes : List ℕ) → FirstFaultDecides version messages bytes
first_fault_decides version messages bytes e = (plan_refused version messages (records_of bytes) e, refuse version messages (records_of bytes) e)
