-- Pieces of a text, written one after another.
use Rattle.std.proofs.Common.{◌≡◌, ℕ, suc, ◌+◌, ◌<◌, List, [], ◌∷◌, ◌++◌, length, map, take, drop, get_or, Bor, sym, ap, ◌∙◌, append_assoc, arith}
use Rattle.std.proofs.Math.Seq.{take-suc}
use Rattle.std.proofs.lemmas.List.{append-nil, take-append-drop}
use Rattle.std.proofs.lemmas.List.Concat.{flat_map-append}
use Rattle.std.specs.List.{flat_map}

-- the text of pieces
abbrev pub text_of : List (Bor (List ℕ)) → List ℕ
text_of pieces = flat_map (λ piece. piece.now) pieces

text_of-append : (first then : List (Bor (List ℕ))) → text_of (first ++ then) ≡ text_of first ++ text_of then
text_of-append first then = flat_map-append (λ piece. piece.now) first then

-- the text of the first pieces and the next one
pub text_further : (pieces : List (Bor (List ℕ))) (n : ℕ) (d : Bor (List ℕ)) → n < length pieces
    → text_of (take (n + 1) pieces) ≡ text_of (take n pieces) ++ (get_or pieces n d).now
text_further pieces n d inside =
    let next : n + 1 ≡ suc n = omega arith in
    ap (λ k. text_of (take k pieces)) next ∙ ap text_of (take-suc pieces n d inside)
    ∙ text_of-append (take n pieces) (get_or pieces n d ∷ [])
    ∙ ap (λ last. text_of (take n pieces) ++ last) (append-nil (get_or pieces n d).now)

-- the text of all pieces: of the first ones, the next one, and the rest
pub text_at : (pieces : List (Bor (List ℕ))) (n : ℕ) (d : Bor (List ℕ)) → n < length pieces
    → text_of pieces ≡ text_of (take n pieces) ++ ((get_or pieces n d).now ++ text_of (drop (n + 1) pieces))
text_at pieces n d inside =
    ap text_of (sym (take-append-drop (n + 1) pieces)) ∙ text_of-append (take (n + 1) pieces) (drop (n + 1) pieces)
    ∙ ap (λ first. first ++ text_of (drop (n + 1) pieces)) (text_further pieces n d inside)
    ∙ append_assoc (text_of (take n pieces)) (get_or pieces n d).now (text_of (drop (n + 1) pieces))
