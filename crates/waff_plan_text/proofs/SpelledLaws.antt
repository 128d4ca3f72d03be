-- A summary is read exactly where it is spelled.
use Rattle.std.proofs.Common.{◌≡◌, ◌≢◌, ℕ, suc, ◌+◌, ◌≤◌, List, [], ◌∷◌, All, length, map, Bool, true, false, Option, Some, None, Result, Ok, Err, codes, refl, sym, ap, ◌∙◌, subst, arith, inl, inr}
use Rattle.std.specs.Prelude.{◌==◌, is_some, nat_le, ok_or, option_map, if◌then◌else◌}
use Rattle.std.specs.Str.{bytes_eq}
use Rattle.std.proofs.lemmas.Bool.{and_parts, eqb-true, eqb-false, le-leb, leb-true, le-ltb, ne_eqb}
use Rattle.std.proofs.lemmas.List.{nil_from_length}
use Rattle.std.proofs.lemmas.List.Elements.{All-cons, All-head, All-nil, All-tail}
use Rattle.std.proofs.lemmas.Slice.Eq.{bytes_eq-Decides}
use Rattle.waff_model.specs.declared.limits.TheConstants.{MAX_TICK, MAX_WORKERS}
use Rattle.waff_model.specs.declared.message.Version.{Version}
use Rattle.waff_model.specs.declared.message.Version.TheVariants.{V1, V2, V3, V4}
use Rattle.waff_model.specs.Versions.{has_releases}
use Rattle.waff_parse.specs.Fields.{Field, two_of}
use Rattle.waff_parse.specs.Refusals.{◌>>=◌, told}
use Rattle.waff_parse.specs.Rows.{Record, is_text}
use Rattle.waff_parse.specs.Texts.{number_of, number_within, parts}
use Rattle.waff_parse.specs.Walks.{walk}
use Rattle.waff_plan.specs.Chain.{IsListed, IsAmongFirst}
use Rattle.waff_plan_text.specs.Fields.{is_dash, number_within_limit}
use Rattle.waff_plan_text.specs.Given.{SummaryLines}
use Rattle.waff_plan_text.specs.Refusals.{at_record}
use Rattle.waff_plan_text.specs.SpelledLines.{AreNumbers, IsLine, IsPair, IsSmall, IsWorkersField}
use Rattle.waff_plan_text.specs.SpelledSummaries.{AreLinesOf, AreTexts, SpellsSummary, SummaryIsExact}
use Rattle.waff_plan_text.specs.Summaries.{bound_line, chain_line, chain_of, few, is_bound, link_of, no_summary, read_line, same, summary_of, tick_line, tick_of, value_of, with_lines, workers_line, workers_of}
use Rattle.waff_plan_text.specs.Table.{Told, lines_of, line_name, told_of, with_told}
use Rattle.waff_plan_text.specs.declared.refusal.Refusal.{Refusal}
use Rattle.waff_plan_text.specs.declared.refusal.Refusal.TheVariants as refusal
use Rattle.waff_plan_text.specs.declared.table.Line.{Line}
use Rattle.waff_plan_text.specs.declared.table.Line.TheVariants.{Bound, Chain, Cost, Length, Release, Total, Workers}
use Rattle.waff_plan_text.proofs.RowLaws.{NumberIn, number_in}

-- what a reading gave, by two names
same_read : {F A : Type 0} (a b : A) → ◌≡◌ {A = Result A F} (Ok a) (Ok b) → a ≡ b
same_read a b h = cc

-- one reading after the other, both of which gave a value
bind_ok : {F A B : Type 0} (r : Result A F) (f : A → Result B F) (b : B) → (r >>= f) ≡ Ok b → (a : A) × (r ≡ Ok a) × (f a ≡ Ok b)
bind_ok (Ok a) f b h = (a, refl, h)
bind_ok (Err e) f b h = absurd (cc)

-- the value of a line with a name
pub value_ok : (name : Field) (row : Record) (text : Field) → value_of name (two_of row) ≡ Ok text → row ≡ name ∷ text ∷ []
value_ok name (a ∷ b ∷ []) text h = by (bytes_eq a name) refl h
  where
    by : (t : Bool) → bytes_eq a name ≡ t → (if t then Ok b else Err refusal.Summary) ≡ Ok text → a ∷ b ∷ [] ≡ name ∷ text ∷ []
    by true is same =
        let one : a ≡ name = (bytes_eq-Decides a name).0 is in
        let two : b ≡ text = cc in
        rw (one, two) refl
    by false is same = absurd (cc)
value_ok name _ text h = absurd (cc)

pub ok_value : (name text : Field) → value_of name (two_of (name ∷ text ∷ [])) ≡ Ok text
ok_value name text = rw ((bytes_eq-Decides name name).1 refl) refl

-- a field writes a number, which is within the limit
pub record IsTick (text : Field) (n : ℕ) : Type 0 where
  pub number : number_of text ≡ Some n
  pub within : n ≤ MAX_TICK

limit_ok : (text : Field) (n : ℕ) → number_within_limit text ≡ Ok n → IsTick text n
limit_ok text n h = by (number_within 0 MAX_TICK text) (number_in 0 MAX_TICK text) h
  where
    by : (o : Option ℕ) → NumberIn 0 MAX_TICK text o → ok_or o refusal.TooLarge ≡ Ok n → IsTick text n
    by None none same = absurd (cc)
    by (Some m) found same =
        let one : m ≡ n = cc in
        record { number = found.0 ∙ ap Some one; within = rw (← one) found.2 }

within_is : (low high : ℕ) (text : Field) (n : ℕ) → number_of text ≡ Some n → low ≤ n → n ≤ high → number_within low high text ≡ Some n
within_is low high text n is from to = rw (is, le-ltb n low from, le-ltb high n to) refl

pub ok_limit : (text : Field) (n : ℕ) → IsTick text n → number_within_limit text ≡ Ok n
ok_limit text n is = rw (within_is 0 MAX_TICK text n is.number (omega arith) is.within) refl

tick_ok : (name : Field) (row : Record) (n : ℕ) → tick_line name row ≡ Ok n → (text : Field) × (row ≡ name ∷ text ∷ []) × IsTick text n
tick_ok name row n h =
    let value = bind_ok (value_of name (two_of row)) tick_of n h in
    (value.0, value_ok name row value.0 value.1, by value.0 (is_some (number_of value.0)) value.2)
  where
    by : (text : Field) (t : Bool) → (if t then number_within_limit text else Err refusal.Summary) ≡ Ok n → IsTick text n
    by text true same = limit_ok text n same
    by text false same = absurd (cc)

pub ok_tick : (name text : Field) (n : ℕ) → IsTick text n → tick_line name (name ∷ text ∷ []) ≡ Ok n
ok_tick name text n is =
    let some : is_some (number_of text) ≡ true = ap is_some is.number in
    ap (λ r. r >>= tick_of) (ok_value name text) ∙ ap (λ t. if t then number_within_limit text else Err refusal.Summary) some ∙ ok_limit text n is

number_ok : (name : Field) (row : Record) (n : ℕ) → tick_line name row ≡ Ok n → IsPair name (λ text. number_of text ≡ Some n) row × (n ≤ MAX_TICK)
number_ok name row n h = let is = tick_ok name row n h in ((is.0, is.1, is.2.number), is.2.within)

ok_number : (name : Field) (row : Record) (n : ℕ) → IsPair name (λ text. number_of text ≡ Some n) row → n ≤ MAX_TICK → tick_line name row ≡ Ok n
ok_number name row n (text, is, number) small = ap (tick_line name) is ∙ ok_tick name text n (record { number = number; within = small })

-- the workers
pub workers_ok : (row : Record) (workers : Option ℕ) → workers_line row ≡ Ok workers → (text : Field) × (row ≡ codes "workers" ∷ text ∷ []) × IsWorkersField text workers
workers_ok row workers h =
    let value = bind_ok (value_of (codes "workers") (two_of row)) workers_of workers h in
    (value.0, value_ok (codes "workers") row value.0 value.1, by value.0 (is_dash value.0) refl value.2)
  where
    number : (text : Field) (o : Option ℕ) → NumberIn 1 MAX_WORKERS text o
        → ok_or (option_map (λ (n : ℕ). let some : Option ℕ = Some n in some) o) refusal.Summary ≡ Ok workers → IsWorkersField text workers
    number text None none same = absurd (cc)
    number text (Some k) found same =
        let one : Some k ≡ workers = cc in
        subst (IsWorkersField text) one (found.0, record { from = found.1; to = found.2 })

    by : (text : Field) (t : Bool) → is_dash text ≡ t
        → (if t then Ok None else ok_or (option_map (λ (n : ℕ). let some : Option ℕ = Some n in some) (number_within 1 MAX_WORKERS text)) refusal.Summary) ≡ Ok workers
        → IsWorkersField text workers
    by text true dash same =
        let one : None ≡ workers = cc in
        subst (IsWorkersField text) one ((bytes_eq-Decides text (codes "-")).0 dash)
    by text false other same = number text (number_within 1 MAX_WORKERS text) (number_in 1 MAX_WORKERS text) same

not_dash : (text : Field) (k : ℕ) → number_of text ≡ Some k → is_dash text ≡ false
not_dash text k is = by (is_dash text) refl
  where
    by : (t : Bool) → is_dash text ≡ t → t ≡ false
    by false other = refl
    by true dash =
        let same : text ≡ codes "-" = (bytes_eq-Decides text (codes "-")).0 dash in
        let none : number_of (codes "-") ≡ None = refl in
        let some : number_of (codes "-") ≡ Some k = ap number_of (sym same) ∙ is in
        absurd (cc)

pub ok_workers : (text : Field) (workers : Option ℕ) → IsWorkersField text workers → workers_line (codes "workers" ∷ text ∷ []) ≡ Ok workers
ok_workers text None is = rw is refl
ok_workers text (Some k) (is, within) = rw (not_dash text k is, within_is 1 MAX_WORKERS text k is within.from within.to) refl

-- the chain
walk_ok : (messages : ℕ) (texts : List Field) (numbers : List ℕ) → walk link_of same messages texts ≡ Ok numbers
    → (map number_of texts ≡ map Some numbers) × All (IsAmongFirst messages) numbers
unfolding walk
walk_ok messages [] numbers h = let none : [] ≡ numbers = cc in (rw (← none) refl, rw (← none) (All-nil (IsAmongFirst messages)))
walk_ok messages (text ∷ more) numbers h =
    by (number_within 1 messages text) (number_in 1 messages text) (walk link_of same messages more) (walk_ok messages more) h
  where
    by : (o : Option ℕ) → NumberIn 1 messages text o → (r : Result (List ℕ) Refusal)
        → ((ns : List ℕ) → r ≡ Ok ns → (map number_of more ≡ map Some ns) × All (IsAmongFirst messages) ns)
        → (ok_or o refusal.Summary >>= (λ n. r >>= (λ ns. Ok (n ∷ ns)))) ≡ Ok numbers
        → (number_of text ∷ map number_of more ≡ map Some numbers) × All (IsAmongFirst messages) numbers
    by None none r others same = absurd (cc)
    by (Some n) found (Err e) others same = absurd (cc)
    by (Some n) found (Ok ns) others same =
        let whole : n ∷ ns ≡ numbers = cc in
        let o = others ns refl in
        (rw (← whole, found.0, o.0) refl, rw (← whole) (All-cons (IsAmongFirst messages) n ns (record { from = found.1; to = found.2 }) o.1))

ok_walk : (messages : ℕ) (texts : List Field) (numbers : List ℕ) → map number_of texts ≡ map Some numbers → All (IsAmongFirst messages) numbers
    → walk link_of same messages texts ≡ Ok numbers
unfolding walk
ok_walk messages [] [] h each = refl
ok_walk messages [] (n ∷ ns) h each = absurd (cc)
ok_walk messages (text ∷ more) [] h each = absurd (cc)
ok_walk messages (text ∷ more) (n ∷ ns) h each =
    let first : number_of text ≡ Some n = cc in
    let others : map number_of more ≡ map Some ns = cc in
    let is = All-head (IsAmongFirst messages) n ns each in
    rw (within_is 1 messages text n first is.from is.to, ok_walk messages more ns others (All-tail (IsAmongFirst messages) n ns each)) refl

chain_text_ok : (messages : ℕ) (text : Field) (chain : List ℕ) → chain_of messages text ≡ Ok chain → AreNumbers text chain × IsListed messages chain
chain_text_ok messages text chain h = by (length text == 0) refl (walk link_of same messages (parts 32 text)) (walk_ok messages (parts 32 text)) h
  where
    some : (ns : List ℕ) → text ≢ [] → (map number_of (parts 32 text) ≡ map Some ns) × All (IsAmongFirst messages) ns → (t : Bool) → nat_le (length ns) messages ≡ t
        → (if t then Ok ns else Err refusal.Summary) ≡ Ok chain → AreNumbers text chain × IsListed messages chain
    some ns filled are false le same = absurd (cc)
    some ns filled are true le same =
        let whole : ns ≡ chain = cc in
        (inr (filled, rw (← whole) are.0), rw (← whole) (record { each = are.1; few = leb-true (length ns) messages le }))

    by : (t : Bool) → (length text == 0) ≡ t → (r : Result (List ℕ) Refusal)
        → ((ns : List ℕ) → r ≡ Ok ns → (map number_of (parts 32 text) ≡ map Some ns) × All (IsAmongFirst messages) ns)
        → (if t then Ok [] else (r >>= few messages)) ≡ Ok chain → AreNumbers text chain × IsListed messages chain
    by true none r are same =
        let whole : [] ≡ chain = cc in
        (inl (nil_from_length text (eqb-true (length text) 0 none), sym whole), rw (← whole) (record { each = All-nil (IsAmongFirst messages); few = omega arith }))
    by false is (Err e) are same = absurd (cc)
    by false is (Ok ns) are same =
        some ns (λ none. eqb-false (length text) 0 is (ap length none)) (are ns refl) (nat_le (length ns) messages) refl same

ok_chain_text : (messages : ℕ) (text : Field) (chain : List ℕ) → AreNumbers text chain → IsListed messages chain → chain_of messages text ≡ Ok chain
ok_chain_text messages text chain (inl (no_text, none)) listed = rw (no_text, none) refl
ok_chain_text messages text chain (inr (filled, are)) listed =
    let long : (length text == 0) ≡ false = ne_eqb (length text) 0 (λ none. filled (nil_from_length text none)) in
    rw (long, ok_walk messages (parts 32 text) chain are listed.each, le-leb (length chain) messages listed.few) refl

pub chain_ok : (messages : ℕ) (row : Record) (chain : List ℕ) → chain_line messages row ≡ Ok chain
    → (text : Field) × (row ≡ codes "chain" ∷ text ∷ []) × AreNumbers text chain × IsListed messages chain
chain_ok messages row chain h =
    let value = bind_ok (value_of (codes "chain") (two_of row)) (chain_of messages) chain h in
    let are = chain_text_ok messages value.0 chain value.2 in
    (value.0, value_ok (codes "chain") row value.0 value.1, are.0, are.1)

pub ok_chain : (messages : ℕ) (text : Field) (chain : List ℕ) → AreNumbers text chain → IsListed messages chain
    → chain_line messages (codes "chain" ∷ text ∷ []) ≡ Ok chain
ok_chain messages text chain are listed = ap (λ r. r >>= chain_of messages) (ok_value (codes "chain") text) ∙ ok_chain_text messages text chain are listed

-- the bound
bound_ok : (row : Record) (sides : ℕ × ℕ) → bound_line row ≡ Ok sides
    → (left : Field) × (right : Field) × (row ≡ codes "bound" ∷ left ∷ right ∷ []) × IsTick left sides.0 × IsTick right sides.1
bound_ok (a ∷ b ∷ c ∷ []) sides h = by (is_bound a b c) refl (number_within_limit b) (number_within_limit c) refl refl h
  where
    by : (t : Bool) → is_bound a b c ≡ t → (l r : Result ℕ Refusal) → number_within_limit b ≡ l → number_within_limit c ≡ r
        → (if t then (l >>= (λ left. r >>= (λ right. let sides : ℕ × ℕ = (left, right) in Ok sides))) else Err refusal.Summary) ≡ Ok sides
        → (left : Field) × (right : Field) × (a ∷ b ∷ c ∷ [] ≡ codes "bound" ∷ left ∷ right ∷ []) × IsTick left sides.0 × IsTick right sides.1
    by true is (Ok l) (Ok r) p q same =
        let name : a ≡ codes "bound" = (bytes_eq-Decides a (codes "bound")).0 (and_parts (bytes_eq a (codes "bound")) _ is).0 in
        let whole = same_read (l, r) sides same in
        (b, c, ap (λ n. n ∷ b ∷ c ∷ []) name, subst (λ (s : ℕ × ℕ). IsTick b s.0) whole (limit_ok b l p), subst (λ (s : ℕ × ℕ). IsTick c s.1) whole (limit_ok c r q))
    by _ _ _ _ _ _ same = absurd (cc)
bound_ok _ sides h = absurd (cc)

pub ok_bound : (left_text right_text : Field) (left right : ℕ) → IsTick left_text left → IsTick right_text right
    → bound_line (codes "bound" ∷ left_text ∷ right_text ∷ []) ≡ Ok (left, right)
ok_bound left_text right_text left right l r =
    rw (
      l.number,
      r.number,
      le-ltb left 0 (omega arith),
      le-ltb right 0 (omega arith),
      le-ltb MAX_TICK left l.within,
      le-ltb MAX_TICK right r.within,
    ) refl

-- a record is read as a line exactly where it is that line, within the limit
pub line_ok : (messages : ℕ) (line : Line) (row : Record) (value : Told line) → read_line messages line row ≡ Ok value
    → IsLine messages line row value × IsSmall line value
line_ok messages Workers row workers h = (workers_ok row workers h, tt)
line_ok messages Total row n h = number_ok (line_name Total) row n h
line_ok messages Length row n h = number_ok (line_name Length) row n h
line_ok messages Chain row chain h = let is = chain_ok messages row chain h in ((is.0, is.1, (is.2, is.3)), tt)
line_ok messages Release row n h = number_ok (line_name Release) row n h
line_ok messages Cost row n h = number_ok (line_name Cost) row n h
line_ok messages Bound row sides h =
    let is = bound_ok row sides h in
    ((is.0, is.1, is.2, is.3.number, is.4.number), (is.3.within, is.4.within))

pub ok_line : (messages : ℕ) (line : Line) (row : Record) (value : Told line) → IsLine messages line row value → IsSmall line value
    → read_line messages line row ≡ Ok value
ok_line messages Workers row workers (text, is, field) small = ap workers_line is ∙ ok_workers text workers field
ok_line messages Total row n is small = ok_number (line_name Total) row n is small
ok_line messages Length row n is small = ok_number (line_name Length) row n is small
ok_line messages Chain row chain (text, is, are) small = ap (chain_line messages) is ∙ ok_chain messages text chain are.0 are.1
ok_line messages Release row n is small = ok_number (line_name Release) row n is small
ok_line messages Cost row n is small = ok_number (line_name Cost) row n is small
ok_line messages Bound row sides (left, right, is, l, r) small =
    ap bound_line is
    ∙ ok_bound left right sides.0 sides.1 (record { number = l; within = small.0 }) (record { number = r; within = small.1 })

-- values of lines, and the summary with them
abbrev Values : List Line → Type 0
Values [] = Unit {0}
Values (line ∷ lines) = Told line × Values lines

abbrev with_all : (lines : List Line) → Values lines → SummaryLines → SummaryLines
with_all [] values summary = summary
with_all (line ∷ lines) values summary = with_all lines values.1 (with_told line values.0 summary)

abbrev Has : (lines : List Line) → Values lines → SummaryLines → Type 0
Has [] values summary = Unit {0}
Has (line ∷ lines) values summary = (told_of line summary ≡ values.0) × Has lines values.1 summary

-- records are read as lines with some values: they are the lines of each summary that has these
record AreRead (messages : ℕ) (lines : List Line) (rows : List Record) (before after : SummaryLines) : Type 0 where
  values : Values lines
  whole : with_all lines values before ≡ after
  spelled : (summary : SummaryLines) → Has lines values summary → AreLinesOf messages summary lines rows

lines_ok : (messages : ℕ) (lines : List Line) (at : ℕ) (rows : List Record) (before after : SummaryLines)
    → with_lines messages lines at rows before ≡ Ok after → AreRead messages lines rows before after
unfolding with_lines
lines_ok messages [] at [] before after h = record { values = tt; whole = same_read before after h; spelled = λ summary has. tt }
lines_ok messages [] at (row ∷ more) before after h = absurd (cc)
lines_ok messages (line ∷ lines) at [] before after h = absurd (cc)
lines_ok messages (line ∷ lines) at (row ∷ more) before after h =
    by (is_text row) (read_line messages line row) refl (λ next. lines_ok messages lines (at + 1) more next after) h
  where
    by : (t : Bool) (r : Result (Told line) Refusal) → read_line messages line row ≡ r
        → ((next : SummaryLines) → with_lines messages lines (at + 1) more next ≡ Ok after → AreRead messages lines more next after)
        → (told (at_record at) (if t then (r >>= (λ value. let next : Result SummaryLines Refusal = Ok (with_told line value before) in next)) else Err refusal.Csv)
        >>= with_lines messages lines (at + 1) more) ≡ Ok after
        → AreRead messages (line ∷ lines) (row ∷ more) before after
    by false r is others same = absurd (cc)
    by true (Err e) is others same = absurd (cc)
    by true (Ok value) is others same =
        let first = line_ok messages line row value is in
        let read = others (with_told line value before) same in
        record {
          values = (value, read.values);
          whole = read.whole;
          spelled = λ summary has. (subst (λ v. IsLine messages line row v × IsSmall line v) (sym has.0) first, read.spelled summary has.1);
        }

-- a summary that has what another tells by these lines
abbrev copied : List Line → SummaryLines → SummaryLines → SummaryLines
copied [] whole summary = summary
copied (line ∷ lines) whole summary = copied lines whole (with_told line (told_of line whole) summary)

-- the texts of a list
first_text : (row : Record) (more : List Record) → AreTexts (row ∷ more) → is_text row ≡ true
first_text row more texts = texts row (0, omega arith, refl)

other_texts : (row : Record) (more : List Record) → AreTexts (row ∷ more) → AreTexts more
other_texts row more texts = λ fields (k, lt, is). texts fields (suc k, omega (arith, lt), is)

ok_lines : (messages : ℕ) (lines : List Line) (at : ℕ) (rows : List Record) (before whole : SummaryLines) → AreTexts rows
    → AreLinesOf messages whole lines rows → with_lines messages lines at rows before ≡ Ok (copied lines whole before)
unfolding with_lines
ok_lines messages [] at [] before whole texts are = refl
ok_lines messages [] at (row ∷ more) before whole texts are = absurd are
ok_lines messages (line ∷ lines) at [] before whole texts are = absurd are
ok_lines messages (line ∷ lines) at (row ∷ more) before whole texts are =
    rw (first_text row more texts, ok_line messages line row (told_of line whole) are.0.0 are.0.1)
    (ok_lines messages lines (at + 1) more (with_told line (told_of line whole) before) whole (other_texts row more texts) are.1)

-- the lines of a version tell all of a summary, but the release where the version has none
all_told : (version : Version) (values : Values (lines_of version)) → Has (lines_of version) values (with_all (lines_of version) values no_summary)
all_told V1 values = (refl, (refl, (refl, (refl, (refl, (refl, tt))))))
all_told V2 values = (refl, (refl, (refl, (refl, (refl, (refl, (refl, tt)))))))
all_told V3 values = (refl, (refl, (refl, (refl, (refl, (refl, (refl, tt)))))))
all_told V4 values = (refl, (refl, (refl, (refl, (refl, (refl, (refl, tt)))))))

none_told : (version : Version) (values : Values (lines_of version)) → has_releases version ≡ false
    → (with_all (lines_of version) values no_summary).totals.release ≡ 0
none_told V1 values none = refl
none_told V2 values none = absurd (cc)
none_told V3 values none = absurd (cc)
none_told V4 values none = absurd (cc)

all_copied : (version : Version) (whole : SummaryLines) → (has_releases version ≡ false → whole.totals.release ≡ 0)
    → copied (lines_of version) whole no_summary ≡ whole
all_copied V1 whole zero = ap (λ (n : ℕ). record whole { totals = record whole.totals { release = n } }) (sym (zero refl))
all_copied V2 whole zero = refl
all_copied V3 whole zero = refl
all_copied V4 whole zero = refl

spelled : (version : Version) (messages at : ℕ) (rows : List Record) (summary : SummaryLines) → summary_of version messages at rows ≡ Ok summary
    → SpellsSummary version messages rows summary
spelled version messages at rows summary h =
    let read = lines_ok messages (lines_of version) at rows no_summary summary h in
    record {
      lines = read.spelled summary (subst (Has (lines_of version) read.values) read.whole (all_told version read.values));
      no_release = λ none. subst (λ (s : SummaryLines). s.totals.release ≡ 0) read.whole (none_told version read.values none);
    }

pub summary_is_exact : (version : Version) (messages at : ℕ) (records : List Record) (summary : SummaryLines) → SummaryIsExact version messages at records summary
summary_is_exact version messages at records summary texts = (
  spelled version messages at records summary,
  λ spells.
      ok_lines messages (lines_of version) at records no_summary summary texts spells.lines
      ∙ ap Ok (all_copied version summary spells.no_release),
)
