-- Laws of readings of lists.
use Rattle.std.proofs.Common.{◌≡◌, ℕ, ◌≤◌, ◌<◌, List, [], ◌∷◌, ◌++◌, length, suc, true, false, Result, Ok, Err, refl, sym, ap, ◌∙◌, append_assoc, arith, inl, inr, ◌⊎◌}
use Rattle.std.proofs.lemmas.List.{append-nil}
use Rattle.std.proofs.Math.Dec.{leb}
use Rattle.std.proofs.lemmas.Bool.Decides.{leb_tells}
use Rattle.std.specs.Prelude.{IfOk}
use Rattle.waff_parse.specs.declared.stop.Stop.{Stop}
use Rattle.waff_parse.specs.declared.stop.Stop.TheVariants as stop
use Rattle.waff_parse.specs.Stopping.{Stops}
use Rattle.waff_parse.specs.Refusals.{◌>>=◌, least, one, both, pair, told}
use Rattle.waff_parse.specs.Walks.{walk, with_front, gather}

-- the fault of least rank is the same however three are grouped
pub least-assoc : {F : Type 0} (rank : F → ℕ) (a b c : F) → least rank (least rank a b) c ≡ least rank a (least rank b c)
least-assoc {F} rank a b c = by (leb_tells (rank a) (rank b)) (leb_tells (rank b) (rank c)) (leb_tells (rank a) (rank c))
  where
    by : ((leb (rank a) (rank b) ≡ true) × (rank a ≤ rank b)) ⊎ ((leb (rank a) (rank b) ≡ false) × (rank b < rank a))
        → ((leb (rank b) (rank c) ≡ true) × (rank b ≤ rank c)) ⊎ ((leb (rank b) (rank c) ≡ false) × (rank c < rank b))
        → ((leb (rank a) (rank c) ≡ true) × (rank a ≤ rank c)) ⊎ ((leb (rank a) (rank c) ≡ false) × (rank c < rank a))
        → least rank (least rank a b) c ≡ least rank a (least rank b c)
    by (inl p) (inl q) (inl r) = rw (p.0, q.0, r.0, p.0) refl
    by (inl p) (inl q) (inr r) = absurd (omega (arith, p.1, q.1, r.1))
    by (inl p) (inr q) (inl r) = rw (p.0, q.0, r.0) refl
    by (inl p) (inr q) (inr r) = rw (p.0, q.0, r.0) refl
    by (inr p) (inl q) r = rw (p.0, q.0, p.0) refl
    by (inr p) (inr q) (inl r) = absurd (omega (arith, p.1, q.1, r.1))
    by (inr p) (inr q) (inr r) = rw (p.0, q.0, r.0) refl

pub both-assoc : {F A : Type 0} (rank : F → ℕ) (a b c : Result (List A) F) → both rank (both rank a b) c ≡ both rank a (both rank b c)
both-assoc rank (Ok xs) (Ok ys) (Ok zs) = ap Ok (append_assoc xs ys zs)
both-assoc rank (Ok xs) (Ok ys) (Err e) = refl
both-assoc rank (Ok xs) (Err e) (Ok zs) = refl
both-assoc rank (Ok xs) (Err d) (Err e) = refl
both-assoc rank (Err d) (Ok ys) (Ok zs) = refl
both-assoc rank (Err d) (Ok ys) (Err e) = refl
both-assoc rank (Err d) (Err e) (Ok zs) = refl
both-assoc rank (Err c) (Err d) (Err e) = ap Err (least-assoc rank c d e)

-- nothing read after it
pub both-nil : {F A : Type 0} (rank : F → ℕ) (a : Result (List A) F) → both rank a (Ok []) ≡ a
both-nil rank (Ok xs) = ap Ok (append-nil xs)
both-nil rank (Err e) = refl

-- nothing read before it
pub nil-both : {F A : Type 0} (rank : F → ℕ) (a : Result (List A) F) → both rank (Ok []) a ≡ a
nil-both rank (Ok xs) = refl
nil-both rank (Err e) = refl

-- a gathering of two lists in turn
pub gather-append : {F A B : Type 0} (rank : F → ℕ) (f : A → Result B F) (xs ys : List A)
    → gather rank f (xs ++ ys) ≡ both rank (gather rank f xs) (gather rank f ys)
unfolding gather
gather-append rank f [] ys = sym (nil-both rank (gather rank f ys))
gather-append rank f (a ∷ more) ys =
    ap (λ r. both rank (one (f a)) r) (gather-append rank f more ys)
    ∙ sym (both-assoc rank (one (f a)) (gather rank f more) (gather rank f ys))

-- nothing in front
pub with_front-nil : {F B : Type 0} (r : Result (List B) F) → with_front [] r ≡ r
unfolding with_front
with_front-nil (Ok bs) = refl
with_front-nil (Err e) = refl

-- one more item of a walk
pub walk-step : {F A B S : Type 0} (f : S → A → Result B F) (next : S → A → S) (s : S) (a : A) (b : B) (more : List A) (front : List B)
    → f s a ≡ Ok b
    → with_front (front ++ b ∷ []) (walk f next (next s a) more) ≡ with_front front (walk f next s (a ∷ more))
unfolding walk with_front
walk-step {F} {A} {B} {S} f next s a b more front h = rw h (after (walk f next (next s a) more))
  where
    after : (r : Result (List B) F) → with_front (front ++ b ∷ []) r ≡ with_front front (r >>= (λ bs. Ok (b ∷ bs)))
    after (Ok bs) = ap Ok (append_assoc front (b ∷ []) bs)
    after (Err e) = refl

-- the item at which a walk stops
pub walk-stop : {F A B S : Type 0} (f : S → A → Result B F) (next : S → A → S) (s : S) (a : A) (e : F) (more : List A) (front : List B)
    → f s a ≡ Err e
    → with_front front (walk f next s (a ∷ more)) ≡ Err e
unfolding walk with_front
walk-stop f next s a e more front h = rw h refl

-- the end of a walk
pub walk-end : {F A B S : Type 0} (f : S → A → Result B F) (next : S → A → S) (s : S) (front : List B)
    → with_front front (walk f next s []) ≡ Ok front
unfolding walk with_front
walk-end f next s front = ap Ok (append-nil front)

-- a reader that stops at the first of two readings stops at both
pub bind-stops : {F A B : Type 0} (e : Stop F) (r : Result A F) (g : A → Result B F) → Stops e r → Stops e (r >>= g)
bind-stops stop.Memory r g h = tt
bind-stops (stop.Fault d) r g h = rw h refl

-- a gathering with one more item at its end
pub gather-push : {F A B : Type 0} (rank : F → ℕ) (f : A → Result B F) (xs : List A) (a : A)
    → gather rank f (xs ++ a ∷ []) ≡ both rank (gather rank f xs) (one (f a))
unfolding gather
gather-push rank f xs a = gather-append rank f xs (a ∷ []) ∙ ap (λ r. both rank (gather rank f xs) r) (both-nil rank (one (f a)))

-- what holds of each value that is gathered, and is kept by lists, holds of the list
pub gather-if : {F A B : Type 0} (rank : F → ℕ) (f : A → Result B F) (P : B → Type 0) (Q : List B → Type 0) → Q []
    → ((b : B) (bs : List B) → P b → Q bs → Q (b ∷ bs)) → ((a : A) → IfOk (f a) P) → (xs : List A) → IfOk (gather rank f xs) Q
unfolding gather
gather-if rank f P Q empty more each [] = empty
gather-if {F} {A} {B} rank f P Q empty more each (a ∷ xs) = by (f a) (gather rank f xs) (each a) (gather-if rank f P Q empty more each xs)
  where
    by : (r : Result B F) (rs : Result (List B) F) → IfOk r P → IfOk rs Q → IfOk (both rank (one r) rs) Q
    by (Ok b) (Ok bs) p q = more b bs p q
    by (Ok b) (Err e) p q = tt
    by (Err e) (Ok bs) p q = tt
    by (Err d) (Err e) p q = tt

-- as many values are gathered as there are items
pub gather-length : {F A B : Type 0} (rank : F → ℕ) (f : A → Result B F) (xs : List A) → IfOk (gather rank f xs) (λ ys. length ys ≡ length xs)
unfolding gather
gather-length rank f [] = refl
gather-length {F} {A} {B} rank f (a ∷ xs) = by (f a) (gather rank f xs) (gather-length rank f xs)
  where
    by : (r : Result B F) (rs : Result (List B) F) → IfOk rs (λ ys. length ys ≡ length xs) → IfOk (both rank (one r) rs) (λ ys. length ys ≡ suc (length xs))
    by (Ok b) (Ok bs) q = ap suc q
    by (Ok b) (Err e) q = tt
    by (Err e) (Ok bs) q = tt
    by (Err d) (Err e) q = tt

-- what holds of both of two values holds of the pair
pub pair-if : {F A B : Type 0} (rank : F → ℕ) (P : A → Type 0) (Q : B → Type 0) (a : Result A F) (b : Result B F) → IfOk a P → IfOk b Q
    → IfOk (pair rank a b) (λ p. P p.0 × Q p.1)
pair-if rank P Q (Ok x) (Ok y) p q = (p, q)
pair-if rank P Q (Ok x) (Err e) p q = tt
pair-if rank P Q (Err e) (Ok y) p q = tt
pair-if rank P Q (Err d) (Err e) p q = tt

-- what holds after a reading holds of two in turn
pub bind-if : {F A B : Type 0} (P : A → Type 0) (Q : B → Type 0) (r : Result A F) (f : A → Result B F) → IfOk r P → ((x : A) → P x → IfOk (f x) Q)
    → IfOk (r >>= f) Q
bind-if P Q (Ok x) f p q = q x p
bind-if P Q (Err e) f p q = tt

-- a fault told in other words changes no value
pub told-if : {E F A : Type 0} (P : A → Type 0) (name : E → F) (r : Result A E) → IfOk r P → IfOk (told name r) P
told-if P name (Ok x) h = h
told-if P name (Err e) h = tt
