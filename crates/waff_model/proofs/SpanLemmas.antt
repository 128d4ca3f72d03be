-- What changes at a span of places, and what stands there.
use Rattle.std.proofs.Common.{◌≡◌, ℕ, zero, suc, ◌+◌, ◌<◌, ◌≤◌, List, [], ◌∷◌, ◌++◌, length, map, get_or, set, replicate, Contains, arith, refl, ap, ap₂, sym, ◌∙◌}
use Rattle.std.proofs.lemmas.List.{append-nil}
use Rattle.waff_model.proofs.Members.{in_none, in_first, in_rest}
use Rattle.waff_model.specs.Spans.{map_in, messages_of, messages_in}

module _ {A : Type 0} (f : A → A) where
  pub length-map_in : (values : List A) (from to : ℕ) → length (map_in f values from to) ≡ length values
  length-map_in values from zero = refl
  length-map_in [] from (suc to) = refl
  length-map_in (x ∷ xs) zero (suc to) = ap suc (length-map_in xs zero to)
  length-map_in (x ∷ xs) (suc from) (suc to) = ap suc (length-map_in xs from to)

  -- at a place before the span, in it, and after it
  pub at_before : (values : List A) (from to p : ℕ) (d : A) → p < from → get_or (map_in f values from to) p d ≡ get_or values p d
  at_before values from zero p d early = refl
  at_before [] from (suc to) p d early = refl
  at_before (x ∷ xs) zero (suc to) p d early = absurd (omega arith)
  at_before (x ∷ xs) (suc from) (suc to) zero d early = refl
  at_before (x ∷ xs) (suc from) (suc to) (suc p) d early = at_before xs from to p d (omega arith)

  pub at_within : (values : List A) (from to p : ℕ) (d : A) → from ≤ p → p < to → p < length values → get_or (map_in f values from to) p d ≡ f (get_or values p d)
  at_within values from zero p d late early short = absurd (omega arith)
  at_within [] from (suc to) p d late early short = absurd (omega arith)
  at_within (x ∷ xs) zero (suc to) zero d late early short = refl
  at_within (x ∷ xs) (suc from) (suc to) zero d late early short = absurd (omega arith)
  at_within (x ∷ xs) zero (suc to) (suc p) d late early short = at_within xs zero to p d (omega arith) (omega arith) (omega arith)
  at_within (x ∷ xs) (suc from) (suc to) (suc p) d late early short = at_within xs from to p d (omega arith) (omega arith) (omega arith)

  pub at_after : (values : List A) (from to p : ℕ) (d : A) → to ≤ p → get_or (map_in f values from to) p d ≡ get_or values p d
  at_after values from zero p d late = refl
  at_after [] from (suc to) p d late = refl
  at_after (x ∷ xs) from (suc to) zero d late = absurd (omega arith)
  at_after (x ∷ xs) zero (suc to) (suc p) d late = at_after xs zero to p d (omega arith)
  at_after (x ∷ xs) (suc from) (suc to) (suc p) d late = at_after xs from to p d (omega arith)

  -- one span, and the next
  pub map_in-join : (values : List A) (from at to : ℕ) → from ≤ at → at ≤ to → map_in f (map_in f values from at) at to ≡ map_in f values from to
  map_in-join values zero zero to low high = refl
  map_in-join values (suc from) zero to low high = absurd (omega arith)
  map_in-join values from (suc at) zero low high = absurd (omega arith)
  map_in-join [] from (suc at) (suc to) low high = refl
  map_in-join (x ∷ xs) zero (suc at) (suc to) low high = ap (λ ys. f x ∷ ys) (map_in-join xs zero at to (omega arith) (omega arith))
  map_in-join (x ∷ xs) (suc from) (suc at) (suc to) low high = ap (λ ys. x ∷ ys) (map_in-join xs from at to (omega arith) (omega arith))

  -- no place, one place, one place more, and all places
  pub map_in-none : (values : List A) (from : ℕ) → map_in f values from from ≡ values
  map_in-none values zero = refl
  map_in-none [] (suc from) = refl
  map_in-none (x ∷ xs) (suc from) = ap (λ ys. x ∷ ys) (map_in-none xs from)

  map_in-one : (values : List A) (p : ℕ) (d : A) → p < length values → map_in f values p (suc p) ≡ set values p (f (get_or values p d))
  map_in-one [] p d short = absurd (omega arith)
  map_in-one (x ∷ xs) zero d short = refl
  map_in-one (x ∷ xs) (suc p) d short = ap (λ ys. x ∷ ys) (map_in-one xs p d (omega arith))

  pub map_in-more : (values : List A) (from p : ℕ) (d : A) → from ≤ p → p < length values
      → set (map_in f values from p) p (f (get_or (map_in f values from p) p d)) ≡ map_in f values from (p + 1)
  map_in-more values from p d low short =
      let next : suc p ≡ p + 1 = omega arith in
      sym (map_in-one (map_in f values from p) p d (omega (arith, length-map_in values from p)))
      ∙ map_in-join values from p (suc p) low (omega arith) ∙ ap (map_in f values from) next

  pub map_in-all : (values : List A) → map_in f values 0 (length values) ≡ map f values
  map_in-all [] = refl
  map_in-all (x ∷ xs) = ap (λ ys. f x ∷ ys) (map_in-all xs)

  -- where f changes nothing
  pub map_in-same : (values : List A) (from to : ℕ) (d : A) → ((p : ℕ) → from ≤ p → p < to → f (get_or values p d) ≡ get_or values p d)
      → map_in f values from to ≡ values
  map_in-same values from zero d same = refl
  map_in-same [] from (suc to) d same = refl
  map_in-same (x ∷ xs) zero (suc to) d same =
      ap₂ (λ y ys. y ∷ ys) (same 0 (omega arith) (omega arith)) (map_in-same xs zero to d (λ p late early. same (suc p) (omega arith) (omega arith)))
  map_in-same (x ∷ xs) (suc from) (suc to) d same = ap (λ ys. x ∷ ys) (map_in-same xs from to d (λ p late early. same (suc p) (omega arith) (omega arith)))

  -- with another change at all places
  pub map_in-map : (g : A → A) → ((x : A) → g (f x) ≡ f (g x)) → (values : List A) (from to : ℕ)
      → map g (map_in f values from to) ≡ map_in f (map g values) from to
  map_in-map g swaps values from zero = refl
  map_in-map g swaps [] from (suc to) = refl
  map_in-map g swaps (x ∷ xs) zero (suc to) = ap₂ (λ y ys. y ∷ ys) (swaps x) (map_in-map g swaps xs zero to)
  map_in-map g swaps (x ∷ xs) (suc from) (suc to) = ap (λ ys. g x ∷ ys) (map_in-map g swaps xs from to)

-- the messages of one span, and of the next, from which those of the first have gone
pub messages_in-join : (table : List ℕ) (from at to : ℕ) → from ≤ at → at ≤ to
    → messages_in table from to ≡ messages_in table from at ++ messages_in (map_in (λ m. 0) table from at) at to
messages_in-join table zero zero to low high = refl
messages_in-join table (suc from) zero to low high = absurd (omega arith)
messages_in-join table from (suc at) zero low high = absurd (omega arith)
messages_in-join [] zero (suc at) (suc to) low high = refl
messages_in-join [] (suc from) (suc at) (suc to) low high = refl
messages_in-join (zero ∷ xs) zero (suc at) (suc to) low high = messages_in-join xs zero at to (omega arith) (omega arith)
messages_in-join (suc m ∷ xs) zero (suc at) (suc to) low high = ap (λ ys. suc m ∷ ys) (messages_in-join xs zero at to (omega arith) (omega arith))
messages_in-join (x ∷ xs) (suc from) (suc at) (suc to) low high = messages_in-join xs from at to (omega arith) (omega arith)

messages_in-none : (table : List ℕ) (from to : ℕ) → ((p : ℕ) → from ≤ p → p < to → get_or table p 0 ≡ 0) → messages_in table from to ≡ []
messages_in-none table zero zero none = refl
messages_in-none table (suc from) zero none = refl
messages_in-none [] zero (suc to) none = refl
messages_in-none [] (suc from) (suc to) none = refl
messages_in-none (zero ∷ xs) zero (suc to) none = messages_in-none xs zero to (λ p late early. none (suc p) (omega arith) (omega arith))
messages_in-none (suc m ∷ xs) zero (suc to) none = let here = none 0 (omega arith) (omega arith) in absurd (omega (arith, here))
messages_in-none (x ∷ xs) (suc from) (suc to) none = messages_in-none xs from to (λ p late early. none (suc p) (omega arith) (omega arith))

pub messages_in-here : (table : List ℕ) (at : ℕ) → messages_in table at at ≡ []
messages_in-here table at = messages_in-none table at at (λ p late early. absurd (omega arith))

messages_in-one : (table : List ℕ) (p : ℕ) → 0 < get_or table p 0 → messages_in table p (suc p) ≡ get_or table p 0 ∷ []
messages_in-one [] p some = absurd (omega arith)
messages_in-one (zero ∷ xs) zero some = absurd (omega arith)
messages_in-one (suc m ∷ xs) zero some = refl
messages_in-one (x ∷ xs) (suc p) some = messages_in-one xs p some

-- a table from which the messages of a span have gone, at one place more with a message, and at more places without one
module _ (table left : List ℕ) (from at : ℕ) (low : from ≤ at) (is : left ≡ map_in (λ m. 0) table from at) where
  pub messages_in-more : 0 < get_or left at 0 → messages_in table from at ++ get_or left at 0 ∷ [] ≡ messages_in table from (at + 1)
  messages_in-more some =
      let next : suc at ≡ at + 1 = omega arith in
      ap (λ ys. messages_in table from at ++ ys) (sym (messages_in-one left at some) ∙ ap (λ xs. messages_in xs at (suc at)) is)
      ∙ sym (messages_in-join table from at (suc at) low (omega arith)) ∙ ap (messages_in table from) next

  module _ (to : ℕ) (high : at ≤ to) (none : (p : ℕ) → at ≤ p → p < to → get_or left p 0 ≡ 0) where
    pub map_in-empty : left ≡ map_in (λ m. 0) table from to
    map_in-empty =
        sym (map_in-same (λ m. 0) left at to 0 (λ p late early. sym (none p late early))) ∙ ap (λ xs. map_in (λ m. 0) xs at to) is
        ∙ map_in-join (λ m. 0) table from at to low high

    pub messages_in-empty : messages_in table from at ≡ messages_in table from to
    messages_in-empty =
        sym (append-nil (messages_in table from at)) ∙ ap (λ ys. messages_in table from at ++ ys) (sym (messages_in-none left at to none) ∙ ap (λ xs. messages_in xs at to) is)
        ∙ sym (messages_in-join table from at to low high)

-- message i stands at one of the places from `from` up to `to`
pub record IsAt (from to : ℕ) (table : List ℕ) (i : ℕ) : Type 0 where
  pub place : ℕ
  pub after : from ≤ place
  pub before : place < to
  pub is : get_or table place 0 ≡ i
  pub some : 0 < i

at_next : (x : ℕ) (xs : List ℕ) (from new to i : ℕ) → new ≤ suc from → IsAt from to xs i → IsAt new (suc to) (x ∷ xs) i
at_next x xs from new to i low h =
    let place : ℕ = h.place in
    let after : from ≤ place = h.after in
    let before : place < to = h.before in
    record { place = suc place; after = omega arith; before = omega arith; is = h.is; some = h.some }

pub messages_at : (table : List ℕ) (from to i : ℕ) → Contains (messages_in table from to) i → IsAt from to table i
messages_at table zero zero i h = absurd (in_none i h)
messages_at table (suc from) zero i h = absurd (in_none i h)
messages_at [] zero (suc to) i h = absurd (in_none i h)
messages_at [] (suc from) (suc to) i h = absurd (in_none i h)
messages_at (x ∷ xs) (suc from) (suc to) i h = at_next x xs from (suc from) to i (omega arith) (messages_at xs from to i h)
messages_at (zero ∷ xs) zero (suc to) i h = at_next zero xs zero zero to i (omega arith) (messages_at xs zero to i h)
messages_at (suc m ∷ xs) zero (suc to) i (zero, within, same) =
    record { place = 0; after = omega arith; before = omega arith; is = same; some = omega (arith, same) }
messages_at (suc m ∷ xs) zero (suc to) i (suc k, within, same) = at_next (suc m) xs zero zero to i (omega arith) (messages_at xs zero to i (k, omega arith, same))

pub at_listed : (table : List ℕ) (from to p : ℕ) → from ≤ p → p < to → 0 < get_or table p 0 → Contains (messages_in table from to) (get_or table p 0)
at_listed table from zero p late early some = absurd (omega arith)
at_listed [] from (suc to) p late early some = absurd (omega arith)
at_listed (x ∷ xs) (suc from) (suc to) zero late early some = absurd (omega arith)
at_listed (x ∷ xs) (suc from) (suc to) (suc p) late early some = at_listed xs from to p (omega arith) (omega arith) some
at_listed (zero ∷ xs) zero (suc to) zero late early some = absurd (omega arith)
at_listed (suc m ∷ xs) zero (suc to) zero late early some = in_first (suc m) (messages_in xs zero to)
at_listed (zero ∷ xs) zero (suc to) (suc p) late early some = at_listed xs zero to p (omega arith) (omega arith) some
at_listed (suc m ∷ xs) zero (suc to) (suc p) late early some =
    in_rest (suc m) (messages_in xs zero to) (get_or xs p 0) (at_listed xs zero to p (omega arith) (omega arith) some)

-- how many messages stand in a table
abbrev pub held : List ℕ → ℕ
held table = length (messages_of table)

-- those that are taken have gone from it
pub held-taken : (table : List ℕ) (from to : ℕ) → length (messages_in table from to) + held (map_in (λ m. 0) table from to) ≡ held table
held-taken table zero zero = omega arith
held-taken table (suc from) zero = omega arith
held-taken [] zero (suc to) = omega arith
held-taken [] (suc from) (suc to) = omega arith
held-taken (zero ∷ xs) zero (suc to) = held-taken xs zero to
held-taken (suc m ∷ xs) zero (suc to) = let below = held-taken xs zero to in omega (arith, below)
held-taken (zero ∷ xs) (suc from) (suc to) = held-taken xs from to
held-taken (suc m ∷ xs) (suc from) (suc to) = let below = held-taken xs from to in omega (arith, below)

-- one message more, at most
pub held-put : (table : List ℕ) (p m : ℕ) → held (set table p m) ≤ held table + 1
held-put [] p m = omega arith
held-put (zero ∷ xs) zero zero = omega arith
held-put (zero ∷ xs) zero (suc m) = omega arith
held-put (suc k ∷ xs) zero zero = omega arith
held-put (suc k ∷ xs) zero (suc m) = omega arith
held-put (zero ∷ xs) (suc p) m = held-put xs p m
held-put (suc k ∷ xs) (suc p) m = let below = held-put xs p m in omega (arith, below)

pub held-none : (n : ℕ) → held (replicate n 0) ≡ 0
held-none zero = refl
held-none (suc n) = held-none n
