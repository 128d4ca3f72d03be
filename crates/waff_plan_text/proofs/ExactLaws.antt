-- A text is read as a plan exactly where it is one.
use Rattle.std.proofs.Common.{◌≡◌, ◌⊎◌, ℕ, zero, suc, ◌+◌, ◌<◌, ◌≤◌, List, [], ◌∷◌, ◌++◌, length, map, drop, take, replicate, get_or, Bool, true, false, Option, Some, None, Result, Ok, Err, slice_get, refl, ap, sym, ◌∙◌, subst, arith, inl, inr}
use Rattle.std.specs.Prelude.{◌-◌, Contains, if◌then◌else◌}
use Rattle.std.proofs.lemmas.Bool.{cases_order}
use Rattle.std.proofs.lemmas.List.{ext_get_or, get_or-replicate, length-map, length-replicate, length-take-le}
use Rattle.std.proofs.lemmas.Option.{slice_get_within}
use Rattle.std.proofs.Math.Seq.{take-length}
use Rattle.waff_model.specs.declared.message.Version.{Version}
use Rattle.waff_parse.specs.Fields.{five_of}
use Rattle.waff_parse.specs.Refusals.{◌>>=◌, told}
use Rattle.waff_parse.specs.Rows.{Record, is_text, records_of}
use Rattle.waff_plan_text.specs.Exact.{HasOneRow, IsReadAs, IsRowIn, PlanIsExact, rows_in_front}
use Rattle.waff_plan_text.specs.Given.{Given, SummaryLines, no_row, row_at}
use Rattle.waff_plan_text.specs.PlanTexts.{header_of, plan_after, plan_of_end, plan_of_records, plan_of_rows, plan_of_summary, put, rows_in}
use Rattle.waff_plan_text.specs.Refusals.{at_record}
use Rattle.waff_plan_text.specs.Refused.{HasSmallNumbers, HoldsOf, IsRowOf, number_behind, refusal_of, summary_in}
use Rattle.waff_plan_text.specs.Rows.{Slots, row_of, slot_of}
use Rattle.waff_plan_text.specs.SpelledSummaries.{AreTexts}
use Rattle.waff_plan_text.specs.Summaries.{begins_summary, summary_of, with_lines}
use Rattle.waff_plan_text.specs.declared.refusal.PlanTextError.{PlanTextError}
use Rattle.waff_plan_text.specs.declared.refusal.PlanTextError.TheVariants as error
use Rattle.waff_plan_text.specs.declared.refusal.Refusal.{Refusal}
use Rattle.waff_plan_text.specs.declared.refusal.Refusal.TheVariants as refusal
use Rattle.waff_plan_text.specs.declared.row.NumberedRow.{NumberedRow}
use Rattle.waff_plan_text.specs.declared.row.Row.{Row}
use Rattle.waff_plan_text.proofs.FaultLaws.{Clean, Decides, missing_of, rows_decided}
use Rattle.waff_plan_text.proofs.KeptLaws.{Kept, RowsAre, kept_put, kept_start, rows_are, slot_filled}
use Rattle.waff_plan_text.proofs.PlaceLaws.{IsAt, among, at_end, front_same, in_all, is_at, left_at, none_before, parted, place_of, summary_none, taken, taken_at}
use Rattle.waff_plan_text.proofs.SpelledLaws.{summary_is_exact}
use Rattle.waff_plan_text.proofs.RowLaws.{ReadAs, one_message, one_row, row_read, row_within}

-- the row of a message, among those of all
slot_row : (says : List Row) (slots : Slots) (n : ℕ) (row : Row) → slots ≡ map Some says → slot_of slots n ≡ Some row → row_at says n ≡ row
slot_row says slots n row = by (n - 1) says slots
  where
    by : (i : ℕ) (says : List Row) (slots : Slots) → slots ≡ map Some says → get_or slots i None ≡ Some row → get_or says i no_row ≡ row
    by i [] [] are is = absurd (cc)
    by i [] (slot ∷ slots) are is = absurd (cc)
    by i (first ∷ says) [] are is = absurd (cc)
    by zero (first ∷ says) (slot ∷ slots) are is = let one : slot ≡ Some first = cc in let two : slot ≡ Some row = is in cc
    by (suc i) (first ∷ says) (slot ∷ slots) are is = let others : slots ≡ map Some says = cc in by i says slots others is

all_taken : {A : Type 0} (items : List A) (k : ℕ) → k ≤ length items → drop k items ≡ [] → take k items ≡ items
all_taken items k within h =
    let past = at_end items k h in
    let same : k ≡ length items = omega (arith, past, within) in
    ap (λ n. take n items) same ∙ take-length items

module _ (version : Version) (messages : ℕ) (rows : List Record) where
  -- where no check holds, each record is text, and each before the summary is a row within the limit, of a message of its own
  module _ (clean : Clean version messages rows (suc (length rows))) where
    never : (k : ℕ) (row : Record) (e : PlanTextError) → slice_get rows k ≡ Some row → HoldsOf version messages (take k rows) row e → ⊥
    never k row e there holds =
        let within = slice_get_within rows k row there in
        clean k e (omega (arith, within)) (rw there holds)

    number_at : (k : ℕ) (row : Record) → slice_get rows k ≡ Some row → k + 2 ≡ number_behind (take k rows)
    number_at k row there =
        let within = slice_get_within rows k row there in
        let l = length-take-le k rows (omega (arith, within)) in
        omega (arith, l)

    text_at : (k : ℕ) (row : Record) → slice_get rows k ≡ Some row → is_text row ≡ true
    text_at k row there = by (is_text row) refl
      where
        by : (t : Bool) → is_text row ≡ t → t ≡ true
        by true is = refl
        by false bad = absurd (never k row (error.Csv (k + 2)) there (number_at k row there, bad))

    row_here : (k : ℕ) (row : Record) → slice_get rows k ≡ Some row → summary_in (take k rows ++ row ∷ []) ≡ []
        → (n : ℕ) × (says : Row) × IsRowOf messages row n says × HasSmallNumbers says
    row_here k row there none = by (row_of free row) (row_read free row)
      where
        free : Slots
        free = replicate messages None

        count : length free ≡ messages
        count = length-replicate messages (let slot : Option Row = None in slot)

        by : (r : Result NumberedRow Refusal) → ReadAs free (five_of row) r → (n : ℕ) × (says : Row) × IsRowOf messages row n says × HasSmallNumbers says
        by (Ok given) (spells, small, fresh) = (given.message, given.row, subst (λ m. IsRowOf m row given.message given.row) count spells, small)
        by (Err refusal.Row) h =
            absurd (never k row (error.Row (k + 2)) there
            (number_at k row there, none, λ n says is. h n says (subst (λ m. IsRowOf m row n says) (sym count) is)))
        by (Err refusal.Twice) (n, says, other, spells, filled) =
            let is = subst (λ m. IsRowOf m row n says) count spells in
            let w = row_within messages row n says is in
            let fresh : slot_of free n ≡ None = get_or-replicate messages (n - 1) None None (omega (arith, w.0, w.1)) in
            absurd (cc)
        by (Err refusal.TooLarge) (n, says, spells, large, fresh) =
            absurd (never k row (error.TooLarge (k + 2)) there
            (number_at k row there, inl (none, (n, says, subst (λ m. IsRowOf m row n says) count spells, large))))
        by (Err _) h = absurd h

    no_second : (i j n : ℕ) (a b : Record) (r s : Row) → slice_get rows i ≡ Some a → slice_get rows j ≡ Some b → i < j → summary_in (take j rows ++ b ∷ []) ≡ []
        → IsRowOf messages a n r → IsRowOf messages b n s → ⊥
    no_second i j n a b r s first second lt none is other =
        never j b (error.Twice (j + 2)) second
        (number_at j b second, none, (n, s, other, (a, r, among (take j rows) i a (taken rows j i a first lt), is)))

    -- in front of a place behind which the summary begins
    module _ (place : ℕ) (within : place ≤ length rows) (none : summary_in (take place rows) ≡ []) where
      none_with : (k : ℕ) (row : Record) → slice_get rows k ≡ Some row → k < place → summary_in (take k rows ++ row ∷ []) ≡ []
      none_with k row there lt =
          let left = left_at rows k row there in
          sym (ap summary_in (is_at rows k row left.0 left.1).before) ∙ none_before rows place (suc k) none (omega (arith, lt))

      row_in_front : (fields : Record) → Contains (take place rows) fields → (n : ℕ) × (says : Row) × IsRowOf messages fields n says × HasSmallNumbers says
      row_in_front fields is =
          let at = place_of (take place rows) fields is in
          let t = taken_at rows place at.0 fields at.1 in
          row_here at.0 fields t.0 (none_with at.0 fields t.0 t.1)

      one_place : (i j n : ℕ) (a b : Record) (r s : Row) → slice_get (take place rows) i ≡ Some a → slice_get (take place rows) j ≡ Some b
          → IsRowOf messages a n r → IsRowOf messages b n s → i ≡ j
      one_place i j n a b r s first second is other =
          let f = taken_at rows place i a first in
          let t = taken_at rows place j b second in
          by f t (cases_order i j)
        where
          by : (slice_get rows i ≡ Some a) × (i < place) → (slice_get rows j ≡ Some b) × (j < place) → (i ≡ j) ⊎ ((i < j) ⊎ (j < i)) → i ≡ j
          by f t (inl same) = same
          by f t (inr (inl below)) = absurd (no_second i j n a b r s f.0 t.0 below (none_with j b t.0 t.1) is other)
          by f t (inr (inr above)) = absurd (no_second j i n b a s r t.0 f.0 above (none_with i a f.0 f.1) other is)

  -- a plan that was read: its rows are those in front of a record that begins the summary
  record Walked (plan : Given) : Type 0 where
    place : ℕ
    row : Record
    more : List Record
    slots : Slots
    left : drop place rows ≡ row ∷ more
    within : place ≤ length rows
    none : summary_in (take place rows) ≡ []
    begins : begins_summary row ≡ true
    so_far : Kept messages slots (take place rows)
    are : slots ≡ map Some plan.rows
    summary : summary_of version messages (place + 2) (row ∷ more) ≡ Ok plan.summary
    of_version : plan.version ≡ version

  module _ (plan : Given) where
    end_refuses : (at : ℕ) (slots : Slots) → plan_of_end at slots ≡ Ok plan → ⊥
    unfolding plan_of_end
    end_refuses at slots h = by (rows_in slots) h
      where
        by : (r : Result (List Row) PlanTextError) → (r >>= (λ _. let failed : Result Given PlanTextError = Err (error.Summary at) in failed)) ≡ Ok plan → ⊥
        by (Ok says) same = absurd (cc)
        by (Err e) same = absurd (cc)

    summary_walked : (k : ℕ) (slots : Slots) (row : Record) (more : List Record) → drop k rows ≡ row ∷ more → k ≤ length rows → summary_in (take k rows) ≡ []
        → begins_summary row ≡ true → Kept messages slots (take k rows) → plan_of_summary version messages (k + 2) slots (row ∷ more) ≡ Ok plan → Walked plan
    unfolding plan_of_summary
    summary_walked k slots row more d within none begins so_far h = by (rows_in slots) (rows_are 0 slots) (summary_of version messages (k + 2) (row ∷ more)) refl h
      where
        by : (r : Result (List Row) PlanTextError) → RowsAre 0 slots r → (s : Result SummaryLines PlanTextError)
            → summary_of version messages (k + 2) (row ∷ more) ≡ s
            → (r >>= (λ says. s >>= (λ (summary : SummaryLines). let plan : Given = record { version = version; rows = says; summary = summary } in
            let read : Result Given PlanTextError = Ok plan in read))) ≡ Ok plan → Walked plan
        by (Err e) are s is same = absurd (cc)
        by (Ok says) are (Err e) is same = absurd (cc)
        by (Ok says) are (Ok summary) is same =
            let whole : ◌≡◌ {A = Given} (record { version = version; rows = says; summary = summary }) plan = cc in
            subst Walked whole (record {
              place = k;
              row = row;
              more = more;
              slots = slots;
              left = d;
              within = within;
              none = none;
              begins = begins;
              so_far = so_far;
              are = are;
              summary = is;
              of_version = refl;
            })

    walked : (left : List Record) (k : ℕ) (slots : Slots) → drop k rows ≡ left → k ≤ length rows → summary_in (take k rows) ≡ []
        → Kept messages slots (take k rows) → plan_after version messages (k + 2) slots left ≡ Ok plan → Walked plan
    unfolding plan_after
    walked [] k slots d within none so_far h = absurd (end_refuses (k + 2) slots h)
    walked (row ∷ more) k slots d within none so_far h =
        let at = is_at rows k row more d in
        by (is_text row) (begins_summary row) refl
        (λ next none so_far h. walked more (suc k) next at.behind at.within none so_far (ap (λ n. plan_after version messages n next more) (omega arith) ∙ h)) h
      where
        read : summary_in (take k rows ++ row ∷ []) ≡ []
            → ((next : Slots) → summary_in (take (suc k) rows) ≡ [] → Kept messages next (take (suc k) rows)
            → plan_after version messages (k + 2 + 1) next more ≡ Ok plan → Walked plan)
            → (r : Result NumberedRow Refusal) → ReadAs slots (five_of row) r
            → (told (at_record (k + 2)) r >>= (λ given. plan_after version messages (k + 2 + 1) (put slots given) more)) ≡ Ok plan → Walked plan
        read none others (Err e) is h = absurd (cc)
        read none others (Ok given) (spells, small, free) h =
            let at = is_at rows k row more d in
            let is = subst (λ m. IsRowOf m row given.message given.row) so_far.count spells in
            others (put slots given) (ap summary_in at.before ∙ none) (rw at.before (kept_put messages slots (take k rows) row given so_far is free)) h

        by : (t b : Bool) → begins_summary row ≡ b
            → ((next : Slots) → summary_in (take (suc k) rows) ≡ [] → Kept messages next (take (suc k) rows)
            → plan_after version messages (k + 2 + 1) next more ≡ Ok plan → Walked plan)
            → (if t then (if b then plan_of_summary version messages (k + 2) slots (row ∷ more)
            else (told (at_record (k + 2)) (row_of slots row) >>= (λ given. plan_after version messages (k + 2 + 1) (put slots given) more)))
            else Err (error.Csv (k + 2))) ≡ Ok plan → Walked plan
        by false b begins others h = absurd (cc)
        by true true begins others h = summary_walked k slots row more d within none begins so_far h
        by true false begins others h =
            read (summary_none (take k rows) row none ∙ ap (λ b. if b then row ∷ [] else []) begins) others (row_of slots row) (row_read slots row) h

    walked_reads : Clean version messages rows (suc (length rows)) → Walked plan → IsReadAs version messages rows plan
    walked_reads clean w =
        let front = parted rows w.place w.row w.more w.left w.none w.begins in
        let count = length-map plan.rows (λ (row : Row). let slot : Option Row = Some row in slot) in
        let all = ap length w.are in
        let kept = w.so_far.count in
        let texts : AreTexts rows = λ fields is. let at = place_of rows fields is in text_at clean at.0 fields at.1 in
        record {
          text = texts;
          rows = λ fields is.
              let inside : Contains (take w.place rows) fields = subst (λ rs. Contains rs fields) front.0 is in
              let found = row_in_front clean w.place w.within w.none fields inside in
              let filled = w.so_far.kept fields found.0 found.1 inside found.2 in
              let same = slot_row plan.rows w.slots found.0 found.1 w.are filled in
              (found.0, subst (IsRowOf messages fields found.0) (sym same) found.2, subst HasSmallNumbers (sym same) found.3);
          once = λ n from to.
              let filled = slot_filled plan.rows w.slots n w.are from (omega (arith, to, kept)) in
              let found = w.so_far.has n filled.0 from to filled.1 in
              let at = place_of (take w.place rows) found.0 found.1 in
              subst (λ rs. HasOneRow messages rs n) (sym front.0) (record {
                place = at.0;
                fields = found.0;
                row = filled.0;
                there = at.1;
                is = found.2;
                only = λ other another says there is.
                    one_place clean w.place w.within w.none other at.0 n another found.0 says filled.0 there at.1 is found.2;
              });
          count = omega (arith, count, all, kept);
          summary = (summary_is_exact version messages (w.place + 2) (summary_in rows) plan.summary (λ fields is. texts fields (in_all rows fields is))).0
              (ap (summary_of version messages (w.place + 2)) front.1 ∙ w.summary);
          of_version = w.of_version;
        }

summary_none_refused : (version : Version) (messages at : ℕ) (summary : SummaryLines) → summary_of version messages at [] ≡ Ok summary → ⊥
unfolding with_lines
summary_none_refused version messages at summary h = absurd (cc)

-- records that are a plan are read as it
module _ (version : Version) (messages : ℕ) (rows : List Record) (plan : Given) (reads : IsReadAs version messages rows plan) where
  -- the row of a message, at a place behind which the summary begins
  module _ (k : ℕ) (within : k ≤ length rows) (none : summary_in (take k rows) ≡ []) where
    in_front : (j : ℕ) (fields : Record) → slice_get rows j ≡ Some fields → j < k → slice_get (rows_in_front rows) j ≡ Some fields
    in_front j fields there lt = front_same rows k j none lt ∙ there

    says_of : (j n : ℕ) (fields : Record) (row : Row) → slice_get rows j ≡ Some fields → j < k → IsRowOf messages fields n row
        → (row_at plan.rows n ≡ row) × HasSmallNumbers row
    says_of j n fields row there lt is =
        let found = reads.rows fields (among (rows_in_front rows) j fields (in_front j fields there lt)) in
        let same : found.0 ≡ n = one_message messages fields found.0 n (row_at plan.rows found.0) row found.1 is in
        let value : row_at plan.rows found.0 ≡ row = one_row messages fields found.0 n (row_at plan.rows found.0) row found.1 is in
        (ap (row_at plan.rows) (sym same) ∙ value, subst HasSmallNumbers value found.2)

    one_there : (i j n : ℕ) (a b : Record) (r s : Row) → slice_get rows i ≡ Some a → slice_get rows j ≡ Some b → i < k → j < k
        → IsRowOf messages a n r → IsRowOf messages b n s → i ≡ j
    one_there i j n a b r s first second i_lt j_lt is other =
        let w = row_within messages a n r is in
        let once = reads.once n w.0 w.1 in
        once.only i a r (in_front i a first i_lt) is ∙ sym (once.only j b s (in_front j b second j_lt) other)

  lines_read : (at : ℕ) → summary_of version messages at (summary_in rows) ≡ Ok plan.summary
  lines_read at = (summary_is_exact version messages at (summary_in rows) plan.summary (λ fields is. reads.text fields (in_all rows fields is))).1 reads.summary

  -- all rows are there
  rows_read : (k : ℕ) (slots : Slots) (row : Record) (more : List Record) → drop k rows ≡ row ∷ more → k ≤ length rows → summary_in (take k rows) ≡ []
      → begins_summary row ≡ true → Kept messages slots (take k rows) → (r : Result (List Row) PlanTextError) → RowsAre 0 slots r → r ≡ Ok plan.rows
  rows_read k slots row more d within none begins so_far (Err e) (j, is, lt, free, all) =
      let missing = missing_of version messages rows slots (take k rows) j so_far lt free all in
      let once = reads.once (j + 1) missing.from missing.to in
      let front = parted rows k row more d none begins in
      let there : slice_get (take k rows) once.place ≡ Some once.fields = ap (λ (rs : List Record). slice_get rs once.place) (sym front.0) ∙ once.there in
      absurd (missing.none (once.fields, once.row, among (take k rows) once.place once.fields there, once.is))
  rows_read k slots row more d within none begins so_far (Ok says) are =
      ap Ok (ext_get_or no_row says plan.rows long (λ i lt. each i (omega (arith, lt, kept, all, count))))
    where
      count : length (map (λ (row : Row). let slot : Option Row = Some row in slot) says) ≡ length says
      count = length-map says (λ (row : Row). let slot : Option Row = Some row in slot)

      all : length slots ≡ length (map (λ (row : Row). let slot : Option Row = Some row in slot) says)
      all = ap length are

      kept : length slots ≡ messages
      kept = so_far.count

      long : length says ≡ length plan.rows
      long = let own = reads.count in omega (arith, count, all, kept, own)

      each : (i : ℕ) → i < messages → get_or says i no_row ≡ get_or plan.rows i no_row
      each i lt =
          let once = reads.once (i + 1) (omega arith) (omega (arith, lt)) in
          let front = parted rows k row more d none begins in
          let there : slice_get (take k rows) once.place ≡ Some once.fields = ap (λ (rs : List Record). slice_get rs once.place) (sym front.0) ∙ once.there in
          let t = taken_at rows k once.place once.fields there in
          let filled = so_far.kept once.fields (i + 1) once.row (among (take k rows) once.place once.fields there) once.is in
          let mine = slot_row says slots (i + 1) once.row are filled in
          let own = says_of k within none once.place (i + 1) once.fields once.row t.0 t.1 once.is in
          let place : i + 1 - 1 ≡ i = omega arith in
          ap (λ n. get_or says n no_row) (sym place) ∙ mine ∙ sym own.0 ∙ ap (λ n. get_or plan.rows n no_row) place

  summary_read : (k : ℕ) (slots : Slots) (row : Record) (more : List Record) → drop k rows ≡ row ∷ more → k ≤ length rows → summary_in (take k rows) ≡ []
      → begins_summary row ≡ true → Kept messages slots (take k rows) → plan_of_summary version messages (k + 2) slots (row ∷ more) ≡ Ok plan
  unfolding plan_of_summary
  summary_read k slots row more d within none begins so_far =
      let front = parted rows k row more d none begins in
      let says = rows_read k slots row more d within none begins so_far (rows_in slots) (rows_are 0 slots) in
      let summary : summary_of version messages (k + 2) (row ∷ more) ≡ Ok plan.summary =
      ap (summary_of version messages (k + 2)) (sym front.1) ∙ lines_read (k + 2) in
      let whole : ◌≡◌ {A = Given} (record { version = version; rows = plan.rows; summary = plan.summary }) plan = rw (← reads.of_version) refl in
      rw (says, summary) (ap Ok whole)

  row_reads : (k : ℕ) (slots : Slots) (row : Record) (more : List Record) → drop k rows ≡ row ∷ more → k ≤ length rows → summary_in (take k rows ++ row ∷ []) ≡ []
      → Kept messages slots (take k rows) → (r : Result NumberedRow Refusal) → ReadAs slots (five_of row) r
      → (given : NumberedRow) × (r ≡ Ok given) × IsRowOf messages row given.message given.row × (slot_of slots given.message ≡ None)
  row_reads k slots row more d within none so_far = by
    where
      at : IsAt rows k row more
      at = is_at rows k row more d

      none_more : summary_in (take (suc k) rows) ≡ []
      none_more = ap summary_in at.before ∙ none

      found : IsRowIn messages plan.rows row
      found = reads.rows row (among (rows_in_front rows) k row (front_same rows (suc k) k none_more (omega arith) ∙ at.there))

      by : (r : Result NumberedRow Refusal) → ReadAs slots (five_of row) r
          → (given : NumberedRow) × (r ≡ Ok given) × IsRowOf messages row given.message given.row × (slot_of slots given.message ≡ None)
      by (Ok given) (spells, small, free) = (given, refl, subst (λ m. IsRowOf m row given.message given.row) so_far.count spells, free)
      by (Err refusal.Row) h =
          absurd (h found.0 (row_at plan.rows found.0) (subst (λ m. IsRowOf m row found.0 (row_at plan.rows found.0)) (sym so_far.count) found.1))
      by (Err refusal.Twice) (n, says, other, spells, filled) =
          let is = subst (λ m. IsRowOf m row n says) so_far.count spells in
          let w = row_within messages row n says is in
          let earlier = so_far.has n other w.0 w.1 filled in
          let place = place_of (take k rows) earlier.0 earlier.1 in
          let t = taken_at rows k place.0 earlier.0 place.1 in
          let same = one_there (suc k) at.within none_more place.0 k n earlier.0 row other says t.0 at.there (omega (arith, t.1)) (omega arith) earlier.2 is in
          absurd (omega (arith, same, t.1))
      by (Err refusal.TooLarge) (n, says, spells, large, free) =
          let is = subst (λ m. IsRowOf m row n says) so_far.count spells in
          absurd (large (says_of (suc k) at.within none_more k n row says at.there (omega arith) is).1)
      by (Err _) h = absurd h

  plan_read : (left : List Record) (k : ℕ) (slots : Slots) → drop k rows ≡ left → k ≤ length rows → summary_in (take k rows) ≡ []
      → Kept messages slots (take k rows) → plan_after version messages (k + 2) slots left ≡ Ok plan
  unfolding plan_after
  plan_read [] k slots d within none so_far =
      let no_summary : summary_in rows ≡ [] = ap summary_in (sym (all_taken rows k within d)) ∙ none in
      absurd (summary_none_refused version messages (k + 2) plan.summary (ap (summary_of version messages (k + 2)) (sym no_summary) ∙ lines_read (k + 2)))
  plan_read (row ∷ more) k slots d within none so_far =
      let at = is_at rows k row more d in
      by (is_text row) (reads.text row (among rows k row at.there)) (begins_summary row) refl
      (λ next none so_far. ap (λ n. plan_after version messages n next more) (omega arith) ∙ plan_read more (suc k) next at.behind at.within none so_far)
    where
      by : (t : Bool) → t ≡ true → (b : Bool) → begins_summary row ≡ b
          → ((next : Slots) → summary_in (take (suc k) rows) ≡ [] → Kept messages next (take (suc k) rows)
          → plan_after version messages (k + 2 + 1) next more ≡ Ok plan)
          → (if t then (if b then plan_of_summary version messages (k + 2) slots (row ∷ more)
          else (told (at_record (k + 2)) (row_of slots row) >>= (λ given. plan_after version messages (k + 2 + 1) (put slots given) more)))
          else Err (error.Csv (k + 2))) ≡ Ok plan
      by false text b begins others = absurd (cc)
      by true text true begins others = summary_read k slots row more d within none begins so_far
      by true text false begins others =
          let at = is_at rows k row more d in
          let alone = summary_none (take k rows) row none ∙ ap (λ b. if b then row ∷ [] else []) begins in
          let r = row_reads k slots row more d within alone so_far (row_of slots row) (row_read slots row) in
          ap (λ r. told (at_record (k + 2)) r >>= (λ given. plan_after version messages (k + 2 + 1) (put slots given) more)) r.1
          ∙ others (put slots r.0) (ap summary_in at.before ∙ alone)
          (rw at.before (kept_put messages slots (take k rows) row r.0 so_far r.2 r.3))

module _ (version : Version) (messages : ℕ) (records : List Record) (plan : Given) where
  body_read : plan_of_rows version messages (drop 1 records) ≡ Ok plan → IsReadAs version messages (drop 1 records) plan
  body_read h =
      let rows = drop 1 records in
      let clean : Clean version messages rows (suc (length rows)) = subst (λ r. Decides version messages rows (refusal_of r)) h (rows_decided version messages rows) in
      walked_reads version messages rows plan clean
      (walked version messages rows plan rows 0 (replicate messages None) refl (omega arith) refl (kept_start messages) h)

  read_body : IsReadAs version messages (drop 1 records) plan → plan_of_rows version messages (drop 1 records) ≡ Ok plan
  read_body reads =
      plan_read version messages (drop 1 records) plan reads (drop 1 records) 0 (replicate messages None) refl (omega arith) refl (kept_start messages)

  read_as : plan_of_records version messages records ≡ Ok plan → (header_of records ≡ Ok tt) × IsReadAs version messages (drop 1 records) plan
  unfolding plan_of_records
  read_as h = by (header_of records) refl h
    where
      by : (r : Result (Unit {0}) PlanTextError) → header_of records ≡ r → (r >>= (λ _. plan_of_rows version messages (drop 1 records))) ≡ Ok plan
          → (header_of records ≡ Ok tt) × IsReadAs version messages (drop 1 records) plan
      by (Ok done) is same = (is, body_read same)
      by (Err d) is same = absurd (cc)

  as_read : (header_of records ≡ Ok tt) × IsReadAs version messages (drop 1 records) plan → plan_of_records version messages records ≡ Ok plan
  unfolding plan_of_records
  as_read (is, reads) = rw is (read_body reads)

pub plan_is_exact : (version : Version) (messages : ℕ) (bytes : List ℕ) (plan : Given) → PlanIsExact version messages bytes plan
plan_is_exact version messages bytes plan = (read_as version messages (records_of bytes) plan, as_read version messages (records_of bytes) plan)
