-- Looks at all messages, one after another.
use Rattle.std.proofs.Common.{◌≡◌, ⊎_elim, ℕ, ◌+◌, ◌<◌, ◌≤◌, ◌==◌, Bool, List, [], ◌∷◌, ◌++◌, length, refl, sym, ap, ◌∙◌, subst, arith}
use Rattle.std.proofs.lemmas.Bool.{cases_eq}
use Rattle.std.proofs.lemmas.List.{length_push}
use mathlib.Core.List.{append-nil}
use Rattle.waff_board.specs.Calls.{Looked}
use Rattle.waff_board.specs.Endings.{looks_from, LookedUpTo}
use Rattle.waff_board.specs.declared.view.View.{View}

push_over : (xs ys : List (ℕ × Bool)) (look : ℕ × Bool) → (xs ++ ys) ++ look ∷ [] ≡ xs ++ (ys ++ look ∷ [])
push_over [] ys look = refl
push_over (x ∷ xs) ys look = ap (λ rest. x ∷ rest) (push_over xs ys look)

looks_push : (n : ℕ) (answers : List Bool) (answer : Bool) (m : ℕ) → n + length answers ≡ m
    → looks_from n (answers ++ answer ∷ []) ≡ looks_from n answers ++ (m, answer) ∷ []
looks_push n [] answer m is = let same : n ≡ m = omega (arith, is) in ap (λ k. (k, answer) ∷ []) same
looks_push n (first ∷ answers) answer m is =
    ap (λ rest. (n, first) ∷ rest) (looks_push (n + 1) answers answer m (omega (arith, is)))

-- before any look
pub over_start : (v : View) → LookedUpTo 0 v v
over_start v = ([], refl, sym (ap (λ looks. record v { looks = looks }) (append-nil v.looks)))

-- one more message
pub over_more : (k next : ℕ) (v w u : View) (n : ℕ) → k + 1 ≡ n → n ≡ next → LookedUpTo k v w → Looked w n u → LookedUpTo next v u
over_more k next v w u n is same (answers, long, before) (word, after) = (
  answers ++ (word == 2) ∷ [],
  (let more = length_push answers (word == 2) in omega (arith, more, long, is, same)),
  after
      ∙ ap (λ (x : View). record x { looks = x.looks ++ (n, word == 2) ∷ [] }) before
      ∙ ap (λ looks. record v { looks = looks })
      (push_over v.looks (looks_from 1 answers) (n, word == 2)
      ∙ ap (λ rest. v.looks ++ rest) (sym (looks_push 1 answers (word == 2) n (omega (arith, long, is))))),
)

-- nothing but the looks changes
pub over_alone : (k : ℕ) (v w : View) → LookedUpTo k v w → w ≡ record v { looks = w.looks }
over_alone k v w (answers, long, is) = subst (λ (x : View). x ≡ record v { looks = x.looks }) (sym is) refl

-- what holds of the numbers below n and of n
pub below_more : (P : ℕ → Type 0) (n : ℕ) → ((m : ℕ) → 1 ≤ m → m < n → P m) → P n → (m : ℕ) → 1 ≤ m → m < n + 1 → P m
below_more P n below here m from to = ⊎_elim {C = P m}
    (λ (same : n ≡ m). subst P same here)
    (λ (other : n ≡ m → ⊥). below m from (omega (arith, to, other)))
    (cases_eq n m)
