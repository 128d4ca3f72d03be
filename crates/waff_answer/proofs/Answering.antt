-- What a command delivers is an answer of the program.
use Rattle.std.proofs.Common.{◌≡◌, ◌-◌, ◌∙◌, ℕ, List, [], ◌∷◌, length, drop, take, Option, Result, Ok, Err, Vec, Global}
use Rattle.std.proofs.Common.{sym, ap, subst, refl, arith}
use Rattle.std.proofs.Math.Seq.{take-length}
use Rattle.std.specs.Prelude.{IfErr, IfOk}
use Rattle.waff_inputs.specs.Deliveries.{Delivers}
use Rattle.waff_inputs.specs.declared.fault.ToolError.{ToolError}
use Rattle.waff_cli.specs.declared.words.Asked.{Asked}
use Rattle.waff_answer.specs.Answers.{Answers, RefusesAsked, bytes_of}

-- a text is delivered, and the exit status is made of what was answered of it
module _ {A : Type 0} (status : A → ℕ) (IsText : A → List ℕ → Type 0) (IsAnswer : ℕ → List ℕ → Type 0)
    (IsRefused : ToolError → Type 0) (old new : Option (List ℕ)) where
  delivers_as : (told : Result A ToolError) (answered : Result ℕ ToolError)
      → ((a : A) (text : List ℕ) → IsText a text → IsAnswer (status a) text)
      → IfOk told (λ a. answered ≡ Ok (status a)) → IfErr told (λ error. answered ≡ Err error)
      → Delivers IsText IsRefused old new told → Delivers IsAnswer IsRefused old new answered
  delivers_as (Ok a) answered is_answer ok err delivers = subst (Delivers IsAnswer IsRefused old new) (sym ok) (record {
    written = (delivers.written.0, is_answer a delivers.written.0 delivers.written.1, delivers.written.2);
    prefix = λ is. absurd (cc);
    refused = tt;
    nothing = tt;
  })
  delivers_as (Err error) answered is_answer ok err delivers = subst (Delivers IsAnswer IsRefused old new) (sym err) (record {
    written = tt;
    prefix = λ is. let part = delivers.prefix (let is = is in cc) in (status part.0, part.1, is_answer part.0 part.1 part.2, part.3);
    refused = delivers.refused;
    nothing = delivers.nothing;
  })

-- what is asked is this, and the text that is delivered answers it
pub answers_as : {A : Type 0} (status : A → ℕ) (IsText : A → List ℕ → Type 0) (one : Asked) (files : List (List ℕ)) (asked : Asked)
    (old new : Option (List ℕ)) (told : Result A ToolError) (answered : Result ℕ ToolError) → asked ≡ one
    → ((a : A) (text : List ℕ) → IsText a text → Answers one files (status a) text)
    → IfOk told (λ a. answered ≡ Ok (status a)) → IfErr told (λ error. answered ≡ Err error)
    → Delivers IsText (RefusesAsked one files) old new told → Delivers (Answers asked files) (RefusesAsked asked files) old new answered
answers_as status IsText one files asked old new told answered is is_answer ok err delivers =
    subst (λ a. Delivers (Answers a files) (RefusesAsked a files) old new answered) (sym is)
    (delivers_as status IsText (Answers one files) (RefusesAsked one files) old new told answered is_answer ok err delivers)

-- the files behind the first are those of the bytes
pub rest_is : (files : List (Vec ℕ Global))
    → bytes_of (take (length files - 1) (drop 1 files)) ≡ drop 1 (bytes_of files)
rest_is [] = refl
rest_is (one ∷ more) =
    let same : length (one ∷ more) - 1 ≡ length more = omega arith in
    ap (λ n. bytes_of (take n more)) same ∙ ap bytes_of (take-length more)
