-- What was found for an option, by its row.
use Rattle.std.proofs.Common.{◌≡◌, ◌∙◌, ℕ, List, Bor, false, Option, Some, None, Result, ap, refl, is_some}
use Rattle.std.specs.Prelude.{Box, option_and_then, option_map, slice_get, unwrap_or}
use Rattle.std.specs.Box.{box_value}
use Rattle.std.specs.Str.Parse.{ParsesUnsigned}
use Rattle.clap.specs.Matches.{found_of, matched_of, one_text, subcommand_name_of}
use Rattle.clap.specs.Values.{read_as}
use Rattle.clap.specs.Words.{ReadsOne, Row, rows_of, subcommand_rows, subcommand_rows_of}
use Rattle.clap.specs.declared.parser.matches.ArgMatches.{ArgMatches}
use Rattle.clap.specs.declared.parser.matches.ArgMatches.TheViews.{out-ArgMatches, out-SubCommand}
use Rattle.clap.specs.declared.parser.matches.Found.{Found}
use Rattle.clap.specs.declared.parser.matches.MatchedArg.{MatchedArg}
use Rattle.clap.specs.declared.parser.matches.SubCommand.{SubCommand}
use Rattle.clap.proofs.WalkLemmas.{one_text-rows}
use Rattle.waff_cli.specs.Words.{number_in, number_of, rows_in}

-- an option without an entry has no number
pub none_in : (found : Found) (id : List ℕ) → is_some (matched_of found id) ≡ false → None ≡ number_in (rows_of found) id
none_in found id none = ap (option_map number_of) (go (matched_of found id) none ∙ one_text-rows found id)
  where
    go : (o : Option MatchedArg) → is_some o ≡ false
        → None ≡ option_and_then (λ (a : MatchedArg). option_map (λ s. read_as a.reading s.now) (slice_get a.vals.items 0)) o
    go None none = refl
    go (Some a) none = cc

-- the number that a parser gives is that of the word
module _ {E : Type 0} (bits : ℕ) (More Else : List ℕ → Result ℕ E → Type 0) where
  pub number_is : (found : Found) (id : List ℕ) (number : ℕ) → (one_text found id ≡ None → Some number ≡ None)
      → ((word : List ℕ) → one_text found id ≡ Some word
      → ReadsOne (λ text read. ParsesUnsigned bits 10 text read × More text read × Else text read) word (Some number))
      → Some number ≡ number_in (rows_of found) id
  number_is found id number none value = go (one_text found id) none value ∙ ap (option_map number_of) (one_text-rows found id)
    where
      go : (one : Option (List ℕ)) → (one ≡ None → Some number ≡ None)
          → ((word : List ℕ) → one ≡ Some word
          → ReadsOne (λ text read. ParsesUnsigned bits 10 text read × More text read × Else text read) word (Some number))
          → Some number ≡ option_map number_of one
      go None none value = let bad : Some number ≡ None = none refl in cc
      go (Some word) none value = ap Some ((value word refl).0.1)

-- two parts of what there may be are found together
joined : {A B X : Type 0} (f : X → A) (g : X → B) (given : Option X) (both : Option (A × B))
    → option_map f given ≡ option_map (λ p. p.0) both → option_map g given ≡ option_map (λ p. p.1) both
    → option_map (λ x. (f x, g x)) given ≡ both
joined f g None None left right = refl
joined f g None (Some p) left right = cc
joined f g (Some x) None left right = cc
joined f g (Some x) (Some p) left right =
    let same : f x ≡ p.0 = ap (λ o. unwrap_or o (f x)) left in
    let other : g x ≡ p.1 = ap (λ o. unwrap_or o (g x)) right in
    rw (same, other) refl

-- the command, and what was found of its words
pub command_is : (matches : ArgMatches) (result : Option (Bor (List ℕ) × Bor ArgMatches))
    → option_map (λ p. p.0.now) result ≡ subcommand_name_of matches
    → option_map (λ p. rows_of (found_of p.1.now)) result ≡ option_map (λ p. p.1) (subcommand_rows_of matches)
    → option_map (λ p. (p.0.now, rows_in p.1.now)) result ≡ subcommand_rows_of matches
command_is matches result name rows =
    joined (λ p. p.0.now) (λ p. rows_in p.1.now) result (subcommand_rows_of matches) (name ∙ named (out-ArgMatches matches).subcommand) rows
  where
    named : {Z : Type 0} (sub : Option (Box SubCommand Z)) → option_map (λ (b : Box SubCommand Z). (out-SubCommand (box_value b)).name.now) sub
        ≡ option_map (λ (p : List ℕ × List Row). p.0) (subcommand_rows sub)
    named None = refl
    named (Some b) = refl
