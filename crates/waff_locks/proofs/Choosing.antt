-- The spaces that may get locks.
use Rattle.std.proofs.Common.{◌≡◌, ℕ, zero, suc, ◌+◌, ◌<◌, ◌≤◌, ◌&&◌, ◌++◌, All, Bool, false, cond, List, [], ◌∷◌, drop, filter, get_or, length, set, refl, sym, ◌∙◌, ap, ap₂, subst, arith}
use Rattle.std.specs.List.{range_with_len}
use Rattle.std.proofs.lemmas.List.{drop_all, drop_more, length-set}
use Rattle.std.proofs.lemmas.List.Elements.{All-filter, filter-append}
use Rattle.std.proofs.lemmas.List.FromFn.{get_or-range_with_len, length-range_with_len}
use Rattle.waff_model.specs.declared.locking.Locking.{Locking}
use Rattle.waff_model.specs.declared.locking.Locking.TheVariants.{Unlocked}
use Rattle.waff_model.specs.declared.message.Message.{Message}
use Rattle.waff_plan.proofs.Longest.{range_with_len_more}
use Rattle.waff_locks.specs.Candidates.{AreNamed, are_new, candidates, locked_too, name_space}

-- whether a space is one, where these are named
abbrev pub is_one : Locking → List Locking → List Bool → ℕ → Bool
is_one kind lockings named s = are_new kind (get_or lockings s Unlocked) && get_or named s false

-- one space more
pub one_more : (p : ℕ → Bool) (s : ℕ) → filter p (range_with_len 0 (s + 1)) ≡ filter p (range_with_len 0 s) ++ cond (p s) (s ∷ []) []
one_more p s = ap (filter p) (range_with_len_more 0 s s (omega arith)) ∙ filter-append p (range_with_len 0 s) (s ∷ [])

-- all are spaces
pub filtered_within : (p : ℕ → Bool) (n : ℕ) → All (λ s. s < n) (filter p (range_with_len 0 n))
filtered_within p n = All-filter p (λ s. s < n) (range_with_len 0 n) (λ i d inside.
    let within : i < n = subst (λ k. i < k) (length-range_with_len 0 n) inside in
    subst (λ s. s < n) (sym (get_or-range_with_len 0 n i d within)) (omega (arith, within)))

-- tests that agree in a range
agree : (p q : ℕ → Bool) (a n : ℕ) → ((i : ℕ) → a ≤ i → i < a + n → p i ≡ q i) → filter p (range_with_len a n) ≡ filter q (range_with_len a n)
agree p q a zero same = refl
agree p q a (suc n) same =
    ap₂ (λ b xs. cond b (a ∷ xs) xs) (same a (omega arith) (omega arith))
    (agree p q (a + 1) n (λ i from to. same i (omega (arith, from)) (omega (arith, to))))

pub are_candidates : (kind : Locking) (messages : List Message) (lockings : List Locking) (named : List Bool) → length named ≡ length lockings
    → AreNamed messages named → filter (is_one kind lockings named) (range_with_len 0 (length lockings)) ≡ candidates kind messages lockings
are_candidates kind messages lockings named count are =
    agree (is_one kind lockings named) (λ s. are_new kind (get_or lockings s Unlocked) && name_space messages s) 0 (length lockings)
    (λ i from to. ap (λ b. are_new kind (get_or lockings i Unlocked) && b) (are i (omega (arith, to, count))))

-- each is a space
pub candidates_within : (kind : Locking) (messages : List Message) (lockings : List Locking) → All (λ s. s < length lockings) (candidates kind messages lockings)
candidates_within kind messages lockings = filtered_within (λ s. are_new kind (get_or lockings s Unlocked) && name_space messages s) (length lockings)

-- spaces locked one after another
pub length_locked : (kind : Locking) (spaces : List ℕ) (lockings : List Locking) → length (locked_too kind spaces lockings) ≡ length lockings
length_locked kind [] lockings = refl
length_locked kind (s ∷ spaces) lockings = length_locked kind spaces (set lockings s kind) ∙ length-set lockings s kind

pub locked_more : (kind : Locking) (spaces : List ℕ) (i d : ℕ) (lockings : List Locking) → i < length spaces
    → locked_too kind (drop i spaces) lockings ≡ locked_too kind (drop (i + 1) spaces) (set lockings (get_or spaces i d) kind)
locked_more kind spaces i d lockings inside = ap (λ xs. locked_too kind xs lockings) (drop_more spaces i d inside)

pub locked_all : (kind : Locking) (spaces : List ℕ) (i : ℕ) (lockings : List Locking) → length spaces ≤ i → locked_too kind (drop i spaces) lockings ≡ lockings
locked_all kind spaces i lockings past = ap (λ xs. locked_too kind xs lockings) (drop_all i spaces past)
