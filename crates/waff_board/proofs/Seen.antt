-- What a view has seen after a look and after a finish.
use Rattle.std.proofs.Common.{◌≡◌, ◌⊎◌, inl, inr, ⊎_elim, ℕ, ◌==◌, ◌&&◌, ◌||◌, Bool, true, false, List, [], ◌∷◌, ◌++◌, refl, ap, sym, ◌∙◌, eqb-true}
use Rattle.std.specs.List.{list_any}
use Rattle.waff_board.specs.Seats.{has_seen, HasSeen}
use Rattle.waff_board.specs.Plays.{looked_view, finished_view}
use Rattle.waff_board.specs.declared.view.View.{View}

or_assoc : (a b c : Bool) → (a || (b || c)) ≡ ((a || b) || c)
or_assoc true b c = refl
or_assoc false b c = refl

or_swap : (a b c : Bool) → ((a || b) || c) ≡ ((a || c) || b)
or_swap true b c = refl
or_swap false true true = refl
or_swap false true false = refl
or_swap false false true = refl
or_swap false false false = refl

pub or_false : (a : Bool) → (a || false) ≡ a
or_false true = refl
or_false false = refl

or_cases : (a b : Bool) → (a || b) ≡ true → (a ≡ true) ⊎ (b ≡ true)
or_cases true b is = inl refl
or_cases false b is = inr is

and_both : (a b : Bool) → (a && b) ≡ true → (a ≡ true) × (b ≡ true)
and_both true b is = (refl, is)
and_both false b is = absurd (cc)

-- one more element is among those that pass, or not
any_push : {A : Type 0} (test : A → Bool) (xs : List A) (x : A) → list_any test (xs ++ x ∷ []) ≡ (list_any test xs || test x)
any_push test [] x = or_false (test x)
any_push test (first ∷ xs) x = ap (λ rest. test first || rest) (any_push test xs x) ∙ or_assoc (test first) (list_any test xs) (test x)

pub seen_looked : (v : View) (m word n : ℕ) → has_seen (looked_view v m word) n ≡ (has_seen v n || (m == n && word == 2))
seen_looked v m word n =
    ap (λ rest. list_any (λ m. m == n) v.ran || rest) (any_push (λ (look : ℕ × Bool). look.0 == n && look.1) v.looks (m, word == 2))
    ∙ or_assoc (list_any (λ m. m == n) v.ran) (list_any (λ (look : ℕ × Bool). look.0 == n && look.1) v.looks) (m == n && word == 2)

pub seen_finished : (v : View) (m n : ℕ) → has_seen (finished_view v m) n ≡ (has_seen v n || m == n)
seen_finished v m n =
    ap (λ rest. rest || list_any (λ (look : ℕ × Bool). look.0 == n && look.1) v.looks) (any_push (λ k. k == n) v.ran m)
    ∙ or_swap (list_any (λ k. k == n) v.ran) (m == n) (list_any (λ (look : ℕ × Bool). look.0 == n && look.1) v.looks)

-- what is seen after a look was seen before, or is what the look found
pub look_cases : (v : View) (m word n : ℕ) → HasSeen (looked_view v m word) n → HasSeen v n ⊎ ((m ≡ n) × (word ≡ 2))
look_cases v m word n seen = ⊎_elim {C = HasSeen v n ⊎ ((m ≡ n) × (word ≡ 2))}
    (λ (old : HasSeen v n). inl old)
    (λ (new : (m == n && word == 2) ≡ true).
    let both : ((m == n) ≡ true) × ((word == 2) ≡ true) = and_both (m == n) (word == 2) new in
    inr (eqb-true m n both.0, eqb-true word 2 both.1))
    (or_cases (has_seen v n) (m == n && word == 2) (sym (seen_looked v m word n) ∙ seen))

-- what is seen after a finish was seen before, or is what was finished
pub finish_cases : (v : View) (m n : ℕ) → HasSeen (finished_view v m) n → HasSeen v n ⊎ (m ≡ n)
finish_cases v m n seen = ⊎_elim {C = HasSeen v n ⊎ (m ≡ n)}
    (λ (old : HasSeen v n). inl old)
    (λ (new : (m == n) ≡ true). inr (eqb-true m n new))
    (or_cases (has_seen v n) (m == n) (sym (seen_finished v m n) ∙ seen))
