-- Two reads one after the other, and two writes.
use Rattle.std.proofs.Common.{◌≡◌, ℕ, ◌+◌, ◌-◌, ◌<◌, length, arith, subst, [], List, ◌++◌, take, drop, Option, Some, None, sym, ◌∙◌, ap, append_assoc}
use Rattle.std.specs.Io.KnownBytes.{Consumes, Appends}
use Rattle.std.proofs.Math.Seq.{take-add, take-append-add}
use Rattle.std.proofs.lemmas.List.{append-nil, length-append, take-append-le, take_rest}
use Rattle.waff_io.specs.Writing.{AppendsPart}

pub Consumes-append : (first then last : Option (List ℕ)) (xs ys : List ℕ)
    → Consumes first then xs → Consumes then last ys → Consumes first last (xs ++ ys)
Consumes-append None then last xs ys h k = tt
Consumes-append (Some a) None last xs ys h k = absurd h
Consumes-append (Some a) (Some b) None xs ys h k = absurd k
Consumes-append (Some a) (Some b) (Some c) xs ys h k = h ∙ ap (λ l. xs ++ l) k ∙ sym (append_assoc xs ys c)

pub Appends-append : (first then last : Option (List ℕ)) (xs ys : List ℕ)
    → Appends first then xs → Appends then last ys → Appends first last (xs ++ ys)
Appends-append None then last xs ys h k = tt
Appends-append (Some a) None last xs ys h k = absurd h
Appends-append (Some a) (Some b) None xs ys h k = absurd k
Appends-append (Some a) (Some b) (Some c) xs ys h k = k ∙ ap (λ l. l ++ ys) h ∙ append_assoc a xs ys

-- the first n bytes stayed, and the next ones came from the reader
pub Consumes-further : (first then last : Option (List ℕ)) (old new : List ℕ) (n count : ℕ)
    → Consumes first then (take n old) → take n new ≡ take n old → Consumes then last (take count (drop n new))
    → Consumes first last (take (n + count) new)
Consumes-further first then last old new n count h kept k =
    let whole : take (n + count) new ≡ take n old ++ take count (drop n new) =
    take-add n count new ∙ ap (λ l. l ++ take count (drop n new)) kept in
    rw whole (Consumes-append first then last (take n old) (take count (drop n new)) h k)

-- the first n bytes of the text are written, and then the next ones
pub Appends-further : (first then last : Option (List ℕ)) (text : List ℕ) (n count : ℕ)
    → Appends first then (take n text) → Appends then last (take count (take (length text - n) (drop n text)))
    → Appends first last (take (n + count) text)
Appends-further first then last text n count h k =
    let rest = take_rest text n in
    rw (take-add n count text)
    (Appends-append first then last (take n text) (take count (drop n text)) h (rw rest at k))

-- what is not written to grows by nothing
pub Appends-none : (known : Option (List ℕ)) → Appends known known []
Appends-none None = tt
Appends-none (Some a) = sym (append-nil a)

-- a text was written, and then a part of the next one, behind which more was to come
pub AppendsPart-append : (first then last : Option (List ℕ)) (xs ys zs : List ℕ)
    → Appends first then xs → AppendsPart then last ys → AppendsPart first last (xs ++ (ys ++ zs))
AppendsPart-append first then last xs ys zs h (n, within, k) =
    let part : take (length xs + n) (xs ++ (ys ++ zs)) ≡ xs ++ take n ys =
    take-append-add xs (ys ++ zs) n ∙ ap (λ l. xs ++ l) (take-append-le n ys zs (omega (arith, within))) in
    let inside : length xs + n < length (xs ++ (ys ++ zs)) =
    omega (arith, within, length-append xs (ys ++ zs), length-append ys zs) in
    (length xs + n, inside, subst (Appends first last) (sym part) (Appends-append first then last xs (take n ys) h k))
