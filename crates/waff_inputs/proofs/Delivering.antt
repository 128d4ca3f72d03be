-- A text that was made of files, and is handed on to a writer, is delivered.
use Rattle.std.proofs.Common.{◌≡◌, ℕ, List, Option, Result, Ok, Err, sym, subst}
use Rattle.waff_inputs.specs.Deliveries.{Delivers, HandsOn, Makes}
use Rattle.waff_inputs.specs.declared.fault.ToolError.{ToolError}
use Rattle.waff_inputs.specs.declared.fault.ToolError.TheVariants as tool

module _ {S A : Type 0} (bytes : S → List ℕ) (IsText : List ℕ → Type 0) (IsRefused : ToolError → Type 0) (old new : Option (List ℕ)) where
  pub delivers : (some : A) (made : Result S ToolError) (answered : Result A ToolError) → Makes (λ text. IsText (bytes text)) IsRefused made
      → IsRefused tool.Write → HandsOn bytes made old new answered → Delivers (λ _ text. IsText text) IsRefused old new answered
  delivers some (Ok text) (Ok a) makes writes hands = record {
    written = (bytes text, makes.made, hands.whole);
    prefix = λ is. absurd (cc);
    refused = tt;
    nothing = tt;
  }
  delivers some (Ok text) (Err error) makes writes hands =
      let same : error ≡ tool.Write = let is = hands.part.0 in cc in
      record {
        written = tt;
        prefix = λ _. (some, bytes text, makes.made, hands.part.1);
        refused = subst IsRefused (sym same) writes;
        nothing = λ other. absurd (other same);
      }
  delivers some (Err error) (Ok a) makes writes hands = let is = hands.none.0 in absurd (cc)
  delivers some (Err error) (Err answer) makes writes hands =
      let same : error ≡ answer = let is = hands.none.0 in cc in
      record {
        written = tt;
        prefix = λ is. absurd (makes.unwritten (let same = same in cc));
        refused = subst IsRefused same makes.refused;
        nothing = λ _. hands.none.1;
      }
