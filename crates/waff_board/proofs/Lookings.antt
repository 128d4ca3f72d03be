-- Looks at several messages.
use Rattle.std.proofs.Common.{◌≡◌, ⊎_elim, ℕ, ◌+◌, ◌<◌, Bool, true, false, not, cond, List, [], ◌∷◌, ◌++◌, Some, None, MatchBool, Contains, find, length, get_or, take, refl, sym, ap, ◌∙◌, subst, arith}
use Rattle.std.proofs.lemmas.List.{take_more}
use Rattle.std.proofs.lemmas.Option.{none-some}
use Rattle.waff_order.specs.Needs.{IsNeed, needs_of}
use Rattle.waff_core.specs.Job.{JobValue, IsIn}
use Rattle.waff_core.specs.declared.actors.Phase.TheVariants.{Drawn}
use Rattle.waff_board.specs.Calls.{Looked, LooksOver}
use Rattle.waff_board.specs.Seats.{has_seen, HasSeen}
use Rattle.waff_board.specs.declared.view.View.{View}
use Rattle.waff_model.proofs.Members.{in_cases}

-- one more message
pub looks_more : (v w u : View) (messages : List ℕ) (n : ℕ) → LooksOver v messages w → MatchBool (has_seen w n) (u ≡ w) (Looked w n u)
    → LooksOver v (messages ++ n ∷ []) u
looks_more v w u [] n same one = (u, subst (λ (x : View). MatchBool (has_seen x n) (u ≡ x) (Looked x n u)) same one, refl)
looks_more v w u (first ∷ messages) n (x, look, rest) one = (x, look, looks_more x w u messages n rest one)

pub looks_next : (v w u : View) (messages : List ℕ) (k : ℕ) → k < length messages → LooksOver v (take k messages) w
    → MatchBool (has_seen w (get_or messages k 0)) (u ≡ w) (Looked w (get_or messages k 0) u) → LooksOver v (take (k + 1) messages) u
looks_next v w u messages k within before one =
    subst (λ xs. LooksOver v xs u) (sym (take_more messages k 0 within)) (looks_more v w u (take k messages) (get_or messages k 0) before one)

-- nothing but the looks changes
pub looks_alone : (v w : View) (messages : List ℕ) → LooksOver v messages w → w ≡ record v { looks = w.looks }
looks_alone v w [] same = subst (λ (x : View). x ≡ record v { looks = x.looks }) (sym same) refl
looks_alone v w (n ∷ messages) (u, look, rest) =
    looks_alone u w messages rest ∙ ap (λ (x : View). record x { looks = w.looks }) (one (has_seen v n) look)
  where
    one : (b : Bool) → MatchBool b (u ≡ v) (Looked v n u) → u ≡ record v { looks = u.looks }
    one true same = subst (λ (x : View). x ≡ record v { looks = x.looks }) (sym same) refl
    one false (word, same) = subst (λ (x : View). x ≡ record v { looks = x.looks }) (sym same) refl

-- a message that is drawn stays so
pub drawn_still : (v w : View) (messages : List ℕ) (m : ℕ) → LooksOver v messages w → IsIn v.job m → v.phase ≡ Drawn m
    → IsIn w.job m × (w.phase ≡ Drawn m)
drawn_still v w messages m looks within drawn =
    let alone : w ≡ record v { looks = w.looks } = looks_alone v w messages looks in
    (subst (λ (j : JobValue). IsIn j m) (sym (ap (λ (u : View). u.job) alone)) within, ap (λ (u : View). u.phase) alone ∙ drawn)

-- where nothing is found that fails a test, all pass it
none_fails_by : (p : ℕ → Bool) (x : ℕ) (xs : List ℕ) (n : ℕ) (b : Bool) → p x ≡ b → find (λ n. not (p n)) (x ∷ xs) ≡ None
    → (find (λ n. not (p n)) xs ≡ None → Contains xs n → p n ≡ true) → Contains (x ∷ xs) n → p n ≡ true
none_fails_by p x xs n true is none later there = ⊎_elim {C = p n ≡ true}
    (λ (same : x ≡ n). subst (λ y. p y ≡ true) same is)
    (λ (rest : Contains xs n). later (sym (ap (λ b. cond (not b) (Some x) (find (λ n. not (p n)) xs)) is) ∙ none) rest)
    (in_cases x xs n there)
none_fails_by p x xs n false is none later there =
    absurd (none-some x (sym none ∙ ap (λ b. cond (not b) (Some x) (find (λ n. not (p n)) xs)) is))

pub none_fails : (p : ℕ → Bool) (xs : List ℕ) → find (λ n. not (p n)) xs ≡ None → (n : ℕ) → Contains xs n → p n ≡ true
none_fails p [] none n (k, within, is) = absurd (omega (arith, within))
none_fails p (x ∷ xs) none n there =
    none_fails_by p x xs n (p x) refl none (λ rest_none in_rest. none_fails p xs rest_none n in_rest) there

-- where none of its needs is found that is not seen done, the seat has seen all of them done
pub all_seen : (job : JobValue) (m : ℕ) (w : View) → w.job ≡ job → find (λ n. not (has_seen w n)) (needs_of job.needs m) ≡ None
    → (i : ℕ) → IsNeed w.job.needs i m → HasSeen w i
all_seen job m w same none i need =
    none_fails (has_seen w) (needs_of job.needs m) none i (subst (λ (j : JobValue). Contains (needs_of j.needs m) i) same need.listed)
