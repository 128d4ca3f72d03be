-- The message at a place of parts, one behind the other.
use Rattle.std.proofs.Common.{◌≡◌, ℕ, ◌+◌, ◌-◌, ◌<◌, ◌≤◌, List, [], ◌∷◌, ◌++◌, Some, length, take, get_or, arith, ap, sym, ◌∙◌, length-append}
use Rattle.std.specs.List.{flat_map, slice_get}
use Rattle.std.proofs.lemmas.Grind.{flat_map-append, take_at_read}
use Rattle.std.proofs.lemmas.List.{append-nil, get_or_append_left, get_or-append-add, take_all}
use Rattle.std.proofs.lemmas.Option.{slice_get-get_or}
use Rattle.std.proofs.lemmas.List.Concat.{get_or-flat_map}
use Rattle.std.proofs.lemmas.List.Folds.{length-flat_map-take}

module _ {X A : Type 0} (f : X → List A) (parts : List X) (last : List A) (place left i : ℕ)
    (is : length (flat_map f (take i parts)) + left ≡ place) where
  -- in a part, behind the parts before it
  pub in_part : (part : X) (a : A) → i < length parts → part ≡ get_or parts i part → left < length (f part) → a ≡ get_or (f part) left a
      → slice_get (flat_map f parts ++ last) place ≡ Some a
  in_part part a inside here within at =
      let within_all = length-flat_map-take f parts i part inside in
      let same : length (f (get_or parts i part)) ≡ length (f part) = ap (λ p. length (f p)) (sym here) in
      let found : get_or (flat_map f parts) place a ≡ a =
      ap (λ n. get_or (flat_map f parts) n a) (sym is) ∙ get_or-flat_map f parts i left part a inside (omega (arith, within, same))
      ∙ (ap (λ p. get_or (f p) left a) (sym here) ∙ sym at) in
      let front : place < length (flat_map f parts) = omega (arith, is, within, same, within_all) in
      slice_get-get_or (flat_map f parts ++ last) place a (omega (arith, front, length-append (flat_map f parts) last))
      ∙ ap (λ x. Some x) (get_or_append_left (flat_map f parts) last a place front ∙ found)

  -- what is left behind the part
  pub left_behind : (part : X) → i < length parts → part ≡ get_or parts i part → length (f part) ≤ left
      → length (flat_map f (take (i + 1) parts)) + (left - length (f part)) ≡ place
  left_behind part inside here past =
      let next : take (i + 1) parts ≡ take i parts ++ part ∷ [] = (take_at_read parts i part inside).1 ∙ ap (λ p. take i parts ++ p ∷ []) (sym here) in
      let more : length (flat_map f (take (i + 1) parts)) ≡ length (flat_map f (take i parts)) + length (f part)
      = ap (λ ps. length (flat_map f ps)) next ∙ (ap length (flat_map-append f (take i parts) (part ∷ []))
      ∙ (length-append (flat_map f (take i parts)) (f part ++ []) ∙ ap (λ l. length (flat_map f (take i parts)) + length l) (append-nil (f part)))) in
      omega (arith, is, more, past)

  -- behind all parts but the last
  pub in_last : (a : A) → length parts ≤ i → left < length last → a ≡ get_or last left a → slice_get (flat_map f parts ++ last) place ≡ Some a
  in_last a past within at =
      let all : take i parts ≡ parts = take_all i parts past in
      let whole : length (flat_map f parts) + left ≡ place = ap (λ ps. length (flat_map f ps) + left) (sym all) ∙ is in
      slice_get-get_or (flat_map f parts ++ last) place a (omega (arith, whole, within, length-append (flat_map f parts) last))
      ∙ ap (λ x. Some x) (ap (λ n. get_or (flat_map f parts ++ last) n a) (sym whole) ∙ get_or-append-add (flat_map f parts) last left a ∙ sym at)
