-- Laws of walks in a loop over items.
use Rattle.std.proofs.Common.{◌≡◌, ℕ, suc, ◌+◌, ◌<◌, List, [], ◌∷◌, ◌++◌, length, get_or, drop, Result, Ok, Err, sym, ap, ◌∙◌, arith, drop-cons}
use Rattle.waff_parse.specs.Walks.{walk, with_front}
use Rattle.waff_parse.proofs.Laws.{walk-step, walk-stop}

-- the items that are left at a turn
pub drop-turn : {A : Type 0} (all : List A) (i : ℕ) (x : A) → i < length all → x ≡ get_or all i x → drop i all ≡ x ∷ drop (i + 1) all
drop-turn {A} all i x lt is =
    let e : i + 1 ≡ suc i = omega arith in
    rw e (drop-cons all i x lt ∙ ap (λ (y : A). y ∷ drop (suc i) all) (sym is))

module _ {F A B S : Type 0} (f : S → A → Result B F) (next : S → A → S) where
  -- one more item of a walk over a list from a place on
  pub walk-turn : (s : S) (all : List A) (i : ℕ) (x : A) (b : B) (front : List B) → i < length all → x ≡ get_or all i x → f s x ≡ Ok b
      → with_front (front ++ b ∷ []) (walk f next (next s x) (drop (i + 1) all)) ≡ with_front front (walk f next s (drop i all))
  walk-turn s all i x b front lt is h = walk-step f next s x b (drop (i + 1) all) front h ∙ ap (λ xs. with_front front (walk f next s xs)) (sym (drop-turn all i x lt is))

  -- the item at which a walk stops
  pub walk-refused : (s : S) (all : List A) (i : ℕ) (x : A) (e : F) (front : List B) → i < length all → x ≡ get_or all i x → f s x ≡ Err e
      → with_front front (walk f next s (drop i all)) ≡ Err e
  walk-refused s all i x e front lt is h = ap (λ xs. with_front front (walk f next s xs)) (drop-turn all i x lt is) ∙ walk-stop f next s x e (drop (i + 1) all) front h
