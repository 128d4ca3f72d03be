-- Figures that were made each in a place of its own.
use Rattle.std.proofs.Common.{◌≡◌, ℕ, suc, ◌<◌, List, [], ◌∷◌, length, map, get_or, Option, Some, None, IfSome, arith, refl, sym, ◌∙◌, ap, ap₂, subst}
use Rattle.std.proofs.lemmas.List.{get_or-map, length-map}
use Rattle.waff_assign.specs.Instance.{Instance}
use Rattle.waff_list.specs.declared.rule.Rule.{Rule}
use Rattle.waff_figures.specs.Sweep.{AreListed, IsListed}
use Rattle.waff_figures.specs.declared.figures.Figures.{Figures}

abbrev places_of : List Figures → List (Option Figures)
places_of listed = map (λ figures. Some figures) listed

-- the workers of figures that were made each for its number of them
in_turn_of_each : (workers : List ℕ) (listed : List Figures) → length listed ≡ length workers
    → ((i : ℕ) → i < length listed → IfSome (get_or (places_of listed) i None) (λ figures. figures.workers ≡ Some (get_or workers i 0)))
    → map (λ (figures : Figures). figures.workers) listed ≡ map (λ (k : ℕ). Some k) workers
in_turn_of_each [] [] count each = refl
in_turn_of_each [] (figures ∷ listed) count each = absurd (omega (arith, count))
in_turn_of_each (k ∷ workers) [] count each = absurd (omega (arith, count))
in_turn_of_each (k ∷ workers) (figures ∷ listed) count each =
    ap₂ (λ f fs. f ∷ fs) (each 0 (omega arith))
    (in_turn_of_each workers listed (omega (arith, count)) (λ i inside. each (suc i) (omega (arith, inside))))

-- what is known of each place is known of the figures
pub listed_of_each : (rule : Rule) (instance : Instance) (shortest : ℕ) (workers : List ℕ) (made : List (Option Figures)) (listed : List Figures)
    → places_of listed ≡ made → length made ≡ length workers
    → ((i : ℕ) → i < length made → IfSome (get_or made i None) (λ figures. figures.workers ≡ Some (get_or workers i 0)))
    → ((i : ℕ) → i < length made → IfSome (get_or made i None) (IsListed rule instance shortest))
    → AreListed rule instance shortest workers listed
listed_of_each rule instance shortest workers made listed is count counted each =
    let long : length listed ≡ length made = sym (length-map listed (λ (f : Figures). Some f)) ∙ ap length is in
    record {
      in_turn = in_turn_of_each workers listed (long ∙ count)
          (λ i inside. subst (λ places. IfSome (get_or places i None) (λ (f : Figures). f.workers ≡ Some (get_or workers i 0))) (sym is)
          (counted i (omega (arith, long, inside))));
      each = λ i d inside.
          subst (λ place. IfSome place (IsListed rule instance shortest))
          (ap (λ places. get_or places i None) (sym is) ∙ get_or-map (λ (f : Figures). Some f) listed i d None inside)
          (each i (omega (arith, long, inside)));
    }
