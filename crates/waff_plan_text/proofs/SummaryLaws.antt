-- A summary is refused at the first of its lines that is.
use Rattle.std.proofs.Common.{◌≡◌, ℕ, ◌+◌, List, [], ◌∷◌, length, Bool, true, false, Option, Some, None, Result, Ok, Err, codes, refl}
use Rattle.std.specs.Prelude.{is_some, nat_le, ok_or, option_map, if◌then◌else◌, ◌==◌}
use Rattle.std.specs.Str.{bytes_eq}
use Rattle.waff_model.specs.declared.limits.TheConstants.{MAX_TICK, MAX_WORKERS}
use Rattle.waff_parse.specs.Fields.{Field, two_of, three_of}
use Rattle.waff_parse.specs.Refusals.{◌>>=◌, told}
use Rattle.waff_parse.specs.Rows.{Record, is_text}
use Rattle.waff_parse.specs.Texts.{number_of, number_within, parts}
use Rattle.waff_parse.specs.Walks.{walk}
use Rattle.waff_plan_text.specs.Fields.{is_dash, number_within_limit}
use Rattle.waff_plan_text.specs.Given.{SummaryLines}
use Rattle.waff_plan_text.specs.Refusals.{at_record}
use Rattle.waff_plan_text.specs.Refused.{refusal_of, refused}
use Rattle.waff_plan_text.specs.Summaries.{bound_line, bound_of, chain_line, chain_of, few, is_bound, link_of, links_of, read_line, same, sides_of, tick_line, tick_of, value_of, with_lines, workers_line, workers_of}
use Rattle.waff_plan_text.specs.Table.{Told, line_name, with_told}
use Rattle.waff_plan_text.specs.declared.refusal.PlanTextError.{PlanTextError}
use Rattle.waff_plan_text.specs.declared.refusal.PlanTextError.TheVariants as error
use Rattle.waff_plan_text.specs.declared.refusal.Refusal.{Refusal}
use Rattle.waff_plan_text.specs.declared.refusal.Refusal.TheVariants as refusal
use Rattle.waff_plan_text.specs.declared.table.Line.{Line}
use Rattle.waff_plan_text.specs.declared.table.Line.TheVariants.{Bound, Chain, Cost, Length, Release, Total, Workers}

-- the refusal of a line, or else that of those behind it
abbrev pub or_else : Option Refusal → ℕ → Option PlanTextError → Option PlanTextError
or_else None at others = others
or_else (Some e) at others = Some (at_record at e)

-- the refusal of records as these lines
abbrev pub lines_refusal : ℕ → List Line → ℕ → List Record → Option PlanTextError
lines_refusal messages [] at [] = None
lines_refusal messages [] at (row ∷ more) = Some (at_record at (if is_text row then refusal.Summary else refusal.Csv))
lines_refusal messages (line ∷ lines) at [] = Some (error.Summary at)
lines_refusal messages (line ∷ lines) at (row ∷ more) =
    if is_text row then or_else (refused messages line row) at (lines_refusal messages lines (at + 1) more) else Some (error.Csv at)

pub ok_last : {A B : Type 0} (r : Result A PlanTextError) (g : A → B) → refusal_of (r >>= (λ a. Ok (g a))) ≡ refusal_of r
ok_last (Ok a) g = refl
ok_last (Err e) g = refl

pub lines_refused : (messages : ℕ) (lines : List Line) (at : ℕ) (rows : List Record) (summary : SummaryLines)
    → refusal_of (with_lines messages lines at rows summary) ≡ lines_refusal messages lines at rows
unfolding with_lines
lines_refused messages [] at [] summary = refl
lines_refused messages [] at (row ∷ more) summary = refl
lines_refused messages (line ∷ lines) at [] summary = refl
lines_refused messages (line ∷ lines) at (row ∷ more) summary =
    by (is_text row) (read_line messages line row) (lines_refused messages lines (at + 1) more)
  where
    by : (t : Bool) (r : Result (Told line) Refusal)
        → ((next : SummaryLines) → refusal_of (with_lines messages lines (at + 1) more next) ≡ lines_refusal messages lines (at + 1) more)
        → refusal_of (told (at_record at) (if t then (r >>= (λ value. let next : Result SummaryLines Refusal = Ok (with_told line value summary) in next)) else Err refusal.Csv)
        >>= with_lines messages lines (at + 1) more)
        ≡ (if t then or_else (refusal_of r) at (lines_refusal messages lines (at + 1) more) else Some (error.Csv at))
    by false r others = refl
    by true (Err e) others = refl
    by true (Ok value) others = others (with_told line value summary)

-- a line is refused as no line, or for a number above the limit
abbrev pub LineOnly : Option Refusal → Type 0
LineOnly None = Unit {0}
LineOnly (Some refusal.Summary) = Unit {0}
LineOnly (Some refusal.TooLarge) = Unit {0}
LineOnly (Some _) = ⊥

value_only : {A : Type 0} (name : Field) (fields : Option (Field × Field)) (f : Field → Result A Refusal) → ((text : Field) → LineOnly (refusal_of (f text)))
    → LineOnly (refusal_of (value_of name fields >>= f))
value_only name None f h = tt
value_only {A} name (Some p) f h = by (bytes_eq p.0 name)
  where
    by : (t : Bool) → LineOnly (refusal_of ((if t then Ok p.1 else Err refusal.Summary) >>= f))
    by true = h p.1
    by false = tt

large_only : {A : Type 0} (o : Option A) → LineOnly (refusal_of (ok_or o refusal.TooLarge))
large_only (Some a) = tt
large_only None = tt

none_only : {A : Type 0} (o : Option A) → LineOnly (refusal_of (ok_or o refusal.Summary))
none_only (Some a) = tt
none_only None = tt

if_only : {A : Type 0} (t : Bool) (r : Result A Refusal) → LineOnly (refusal_of r) → LineOnly (refusal_of (if t then r else Err refusal.Summary))
if_only true r h = h
if_only false r h = tt

tick_only : (name : Field) (row : Record) → LineOnly (refusal_of (tick_line name row))
tick_only name row =
    value_only name (two_of row) tick_of (λ text. if_only (is_some (number_of text)) (number_within_limit text) (large_only (number_within 0 MAX_TICK text)))

workers_only : (row : Record) → LineOnly (refusal_of (workers_line row))
workers_only row = value_only (codes "workers") (two_of row) workers_of (λ text. by text (is_dash text))
  where
    by : (text : Field) (t : Bool)
        → LineOnly (refusal_of (if t then Ok None else ok_or (option_map (λ (n : ℕ). let some : Option ℕ = Some n in some) (number_within 1 MAX_WORKERS text)) refusal.Summary))
    by text true = tt
    by text false = none_only _

then_only : {A B : Type 0} (r : Result A Refusal) (f : A → Result B Refusal) → LineOnly (refusal_of r) → ((a : A) → LineOnly (refusal_of (f a)))
    → LineOnly (refusal_of (r >>= f))
then_only (Ok a) f h k = k a
then_only (Err e) f h k = h

walk_only : (messages : ℕ) (texts : List Field) → LineOnly (refusal_of (walk link_of same messages texts))
unfolding walk
walk_only messages [] = tt
walk_only messages (text ∷ more) =
    then_only (link_of messages text) _ (none_only (number_within 1 messages text)) (λ n. then_only (walk link_of same messages more) _ (walk_only messages more) (λ ns. tt))

chain_only : (messages : ℕ) (row : Record) → LineOnly (refusal_of (chain_line messages row))
chain_only messages row = value_only (codes "chain") (two_of row) (chain_of messages) (λ text. by text (length text == 0))
  where
    by : (text : Field) (t : Bool) → LineOnly (refusal_of (if t then Ok [] else links_of messages text))
    by text true = tt
    by text false =
        then_only (walk link_of same messages (parts 32 text)) (few messages) (walk_only messages (parts 32 text))
        (λ ns. if_only (nat_le (length ns) messages) (Ok ns) tt)

bound_only : (row : Record) → LineOnly (refusal_of (bound_line row))
bound_only row = by (three_of row)
  where
    by : (o : Option (Field × Field × Field)) → LineOnly (refusal_of (bound_of o))
    by None = tt
    by (Some f) =
        if_only (is_bound f.0 f.1 f.2) (sides_of f.1 f.2)
        (then_only (number_within_limit f.1) _ (large_only (number_within 0 MAX_TICK f.1))
        (λ left. then_only (number_within_limit f.2) _ (large_only (number_within 0 MAX_TICK f.2)) (λ right. tt)))

pub line_only : (messages : ℕ) (line : Line) (row : Record) → LineOnly (refused messages line row)
line_only messages Workers row = workers_only row
line_only messages Total row = tick_only (line_name Total) row
line_only messages Length row = tick_only (line_name Length) row
line_only messages Chain row = chain_only messages row
line_only messages Release row = tick_only (line_name Release) row
line_only messages Cost row = tick_only (line_name Cost) row
line_only messages Bound row = bound_only row
