-- A record is a line of a summary, or is refused for what it is not.
use Rattle.std.proofs.Common.{◌≡◌, ◌⊎◌, ℕ, ◌<◌, ◌≤◌, List, [], ◌∷◌, length, Bool, true, false, Option, Some, None, Result, Ok, Err, codes, refl, ap, ◌∙◌, arith, inl, inr}
use Rattle.std.specs.Prelude.{◌==◌, is_some, nat_le, ok_or, option_map, if◌then◌else◌}
use Rattle.std.specs.Str.{bytes_eq}
use Rattle.std.proofs.lemmas.Bool.{and_parts, le-ltb, lt-ltb}
use Rattle.std.proofs.lemmas.Bool.{cases_lt}
use Rattle.std.proofs.lemmas.Slice.Eq.{bytes_eq-Decides}
use Rattle.waff_model.specs.declared.limits.TheConstants.{MAX_TICK, MAX_WORKERS}
use Rattle.waff_parse.specs.Fields.{Field, two_of}
use Rattle.waff_parse.specs.Refusals.{◌>>=◌}
use Rattle.waff_parse.specs.Rows.{Record}
use Rattle.waff_parse.specs.Texts.{number_of, number_within, parts}
use Rattle.waff_parse.specs.Walks.{walk}
use Rattle.waff_plan_text.specs.Fields.{is_dash, number_within_limit}
use Rattle.waff_plan_text.specs.Refused.{refusal_of, refused}
use Rattle.waff_plan_text.specs.SpelledLines.{IsBoundLine, IsLine, IsPair, IsSmall, LinesAreExact}
use Rattle.waff_plan_text.specs.Summaries.{bound_line, chain_line, chain_of, few, is_bound, link_of, links_of, same, sides_of, tick_line, tick_of, value_of, workers_line, workers_of}
use Rattle.waff_plan_text.specs.Table.{Told, line_name}
use Rattle.waff_plan_text.specs.declared.refusal.Refusal.{Refusal}
use Rattle.waff_plan_text.specs.declared.refusal.Refusal.TheVariants as refusal
use Rattle.waff_plan_text.specs.declared.table.Line.{Line}
use Rattle.waff_plan_text.specs.declared.table.Line.TheVariants.{Bound, Chain, Cost, Length, Release, Total, Workers}
use Rattle.waff_plan_text.proofs.RowLaws.{number_some}
use Rattle.waff_plan_text.proofs.SpelledLaws.{chain_ok, ok_limit, ok_line, ok_value, value_ok, workers_ok}

-- a reading that is refused as no line, and for nothing else
abbrev SummaryOnly : {A : Type 0} → Result A Refusal → Type 0
SummaryOnly (Ok a) = Unit {0}
SummaryOnly (Err e) = e ≡ refusal.Summary

none_read : {A : Type 0} (r : Result A Refusal) → SummaryOnly r → ((a : A) → r ≡ Ok a → ⊥) → refusal_of r ≡ Some refusal.Summary
none_read (Ok a) only none = absurd (none a refl)
none_read (Err e) only none = ap Some only

then_only : {A B : Type 0} (r : Result A Refusal) (f : A → Result B Refusal) → SummaryOnly r → ((a : A) → SummaryOnly (f a)) → SummaryOnly (r >>= f)
then_only (Ok a) f h k = k a
then_only (Err e) f h k = h

or_only : {A : Type 0} (o : Option A) → SummaryOnly (ok_or o refusal.Summary)
or_only (Some a) = tt
or_only None = refl

value_only : (name : Field) (o : Option (Field × Field)) → SummaryOnly (value_of name o)
value_only name None = refl
value_only name (Some f) = by (bytes_eq f.0 name)
  where
    by : (t : Bool) → SummaryOnly (if t then Ok f.1 else Err refusal.Summary)
    by true = tt
    by false = refl

workers_only : (text : Field) → SummaryOnly (workers_of text)
workers_only text = by (is_dash text)
  where
    by : (t : Bool) → SummaryOnly (if t then Ok None else ok_or (option_map (λ (n : ℕ). let some : Option ℕ = Some n in some) (number_within 1 MAX_WORKERS text)) refusal.Summary)
    by true = tt
    by false = or_only (option_map (λ (n : ℕ). let some : Option ℕ = Some n in some) (number_within 1 MAX_WORKERS text))

walk_only : (messages : ℕ) (texts : List Field) → SummaryOnly (walk link_of same messages texts)
unfolding walk
walk_only messages [] = tt
walk_only messages (text ∷ more) =
    then_only (link_of messages text) _ (or_only (number_within 1 messages text)) (λ n. then_only (walk link_of same messages more) _ (walk_only messages more) (λ ns. tt))

chain_only : (messages : ℕ) (text : Field) → SummaryOnly (chain_of messages text)
chain_only messages text = by (length text == 0)
  where
    short : (ns : List ℕ) (t : Bool) → SummaryOnly (if t then Ok ns else Err refusal.Summary)
    short ns true = tt
    short ns false = refl

    by : (t : Bool) → SummaryOnly (if t then Ok [] else links_of messages text)
    by true = tt
    by false =
        then_only (walk link_of same messages (parts 32 text)) (few messages) (walk_only messages (parts 32 text)) (λ ns. short ns (nat_le (length ns) messages))

-- a number above the limit
large_number : (text : Field) (n : ℕ) → number_of text ≡ Some n → MAX_TICK < n → number_within_limit text ≡ Err refusal.TooLarge
large_number text n is above = rw (is, le-ltb n 0 (omega arith), lt-ltb MAX_TICK n above) refl

module _ (name : Field) (fields : Record) where
  tick_large : (n : ℕ) → IsPair name (λ text. number_of text ≡ Some n) fields → MAX_TICK < n → refusal_of (tick_line name fields) ≡ Some refusal.TooLarge
  tick_large n (text, is, number) above =
      let some : is_some (number_of text) ≡ true = ap is_some number in
      ap (λ (row : Record). refusal_of (tick_line name row)) is ∙ ap (λ r. refusal_of (r >>= tick_of)) (ok_value name text)
      ∙ ap (λ t. refusal_of (if t then number_within_limit text else Err refusal.Summary)) some ∙ ap refusal_of (large_number text n number above)

  tick_none : ((n : ℕ) → IsPair name (λ text. number_of text ≡ Some n) fields → ⊥) → refusal_of (tick_line name fields) ≡ Some refusal.Summary
  tick_none none = by (value_of name (two_of fields)) refl (value_only name (two_of fields))
    where
      number : (text : Field) → value_of name (two_of fields) ≡ Ok text → (t : Bool) → is_some (number_of text) ≡ t
          → refusal_of (if t then number_within_limit text else Err refusal.Summary) ≡ Some refusal.Summary
      number text is false some = refl
      number text is true some =
          let n = number_some (number_of text) some in
          absurd (none n.0 (text, value_ok name fields text is, n.1))

      by : (r : Result Field Refusal) → value_of name (two_of fields) ≡ r → SummaryOnly r → refusal_of (r >>= tick_of) ≡ Some refusal.Summary
      by (Err e) is only = ap Some only
      by (Ok text) is only = number text is (is_some (number_of text)) refl

module _ (fields : Record) where
  sides_large : (a b : Field) (left right : ℕ) → number_of a ≡ Some left → number_of b ≡ Some right → (MAX_TICK < left) ⊎ (MAX_TICK < right)
      → sides_of a b ≡ Err refusal.TooLarge
  sides_large a b left right l r (inl above) = rw (large_number a left l above) refl
  sides_large a b left right l r (inr above) = by (cases_lt MAX_TICK left)
    where
      by : (MAX_TICK < left) ⊎ (left ≤ MAX_TICK) → sides_of a b ≡ Err refusal.TooLarge
      by (inl over) = rw (large_number a left l over) refl
      by (inr within) = rw (ok_limit a left (record { number = l; within = within }), large_number b right r above) refl

  bound_large : (sides : ℕ × ℕ) → IsBoundLine fields sides → (MAX_TICK < sides.0) ⊎ (MAX_TICK < sides.1) → refusal_of (bound_line fields) ≡ Some refusal.TooLarge
  bound_large sides (a, b, is, l, r) above =
      let shaped : is_bound (codes "bound") a b ≡ true = rw (l, r) refl in
      ap (λ (row : Record). refusal_of (bound_line row)) is ∙ ap (λ t. refusal_of (if t then sides_of a b else Err refusal.Summary)) shaped ∙ ap refusal_of (sides_large a b sides.0 sides.1 l r above)

bound_none : (fields : Record) → ((sides : ℕ × ℕ) → IsBoundLine fields sides → ⊥) → refusal_of (bound_line fields) ≡ Some refusal.Summary
bound_none [] none = refl
bound_none (a ∷ []) none = refl
bound_none (a ∷ b ∷ []) none = refl
bound_none (a ∷ b ∷ c ∷ d ∷ more) none = refl
bound_none (a ∷ b ∷ c ∷ []) none = by (is_bound a b c) refl
  where
    by : (t : Bool) → is_bound a b c ≡ t → refusal_of (if t then sides_of b c else Err refusal.Summary) ≡ Some refusal.Summary
    by false is = refl
    by true is =
        let one = and_parts (bytes_eq a (codes "bound")) _ is in
        let two = and_parts (is_some (number_of b)) _ one.1 in
        let left = number_some (number_of b) two.0 in
        let right = number_some (number_of c) two.1 in
        absurd (none (left.0, right.0) (b, c, ap (λ n. n ∷ b ∷ c ∷ []) ((bytes_eq-Decides a (codes "bound")).0 one.0), left.1, right.1))

-- what is not within the limit is above it
above : (n : ℕ) → (n ≤ MAX_TICK → ⊥) → MAX_TICK < n
above n not = by (cases_lt MAX_TICK n)
  where
    by : (MAX_TICK < n) ⊎ (n ≤ MAX_TICK) → MAX_TICK < n
    by (inl over) = over
    by (inr within) = absurd (not within)

one_above : (left right : ℕ) → ((left ≤ MAX_TICK) × (right ≤ MAX_TICK) → ⊥) → (MAX_TICK < left) ⊎ (MAX_TICK < right)
one_above left right not = by (cases_lt MAX_TICK left)
  where
    by : (MAX_TICK < left) ⊎ (left ≤ MAX_TICK) → (MAX_TICK < left) ⊎ (MAX_TICK < right)
    by (inl over) = inl over
    by (inr within) = inr (above right (λ other. not (within, other)))

line_large : (messages : ℕ) (line : Line) (fields : Record) (value : Told line) → IsLine messages line fields value → (IsSmall line value → ⊥)
    → refused messages line fields ≡ Some refusal.TooLarge
line_large messages Workers fields workers is not = absurd (not tt)
line_large messages Total fields n is not = tick_large (line_name Total) fields n is (above n not)
line_large messages Length fields n is not = tick_large (line_name Length) fields n is (above n not)
line_large messages Chain fields chain is not = absurd (not tt)
line_large messages Release fields n is not = tick_large (line_name Release) fields n is (above n not)
line_large messages Cost fields n is not = tick_large (line_name Cost) fields n is (above n not)
line_large messages Bound fields sides is not = bound_large fields sides is (one_above sides.0 sides.1 not)

no_line : (messages : ℕ) (line : Line) (fields : Record) → ((value : Told line) → IsLine messages line fields value → ⊥)
    → refused messages line fields ≡ Some refusal.Summary
no_line messages Workers fields none =
    none_read (workers_line fields) (then_only (value_of (codes "workers") (two_of fields)) workers_of (value_only (codes "workers") (two_of fields)) workers_only)
    (λ number read. none number (workers_ok fields number read))
no_line messages Total fields none = tick_none (line_name Total) fields none
no_line messages Length fields none = tick_none (line_name Length) fields none
no_line messages Chain fields none =
    none_read (chain_line messages fields)
    (then_only (value_of (codes "chain") (two_of fields)) (chain_of messages) (value_only (codes "chain") (two_of fields)) (chain_only messages))
    (λ numbers read. let is = chain_ok messages fields numbers read in none numbers (is.0, is.1, (is.2, is.3)))
no_line messages Release fields none = tick_none (line_name Release) fields none
no_line messages Cost fields none = tick_none (line_name Cost) fields none
no_line messages Bound fields none = bound_none fields none

pub lines_are_exact : (messages : ℕ) (line : Line) (fields : Record) → LinesAreExact messages line fields
lines_are_exact messages line fields = record {
  accepted = λ value is small. ap refusal_of (ok_line messages line fields value is small);
  large = line_large messages line fields;
  none = no_line messages line fields;
}
