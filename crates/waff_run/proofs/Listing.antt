-- The cells of messages, one message after another, and the places of cells in order.
use Rattle.std.proofs.Common.{◌≡◌, ℕ, ◌+◌, ◌-◌, ◌≤◌, Bool, true, eqb, nat_cmp, ◌&&◌, List, [], ◌∷◌, ◌++◌, Some, flat_map, map, take, slice_get, append_assoc, ap, ap₂, sym, ◌∙◌, arith}
use Rattle.std.specs.Prelude.{◌==◌}
use Rattle.std.specs.Cmp.{IsEquivalence, IsTotalOrder}
use Rattle.std.specs.Ordering.{eq_by_cmp}
use Rattle.std.proofs.lemmas.Bool.{and_parts, eqb-true}
use Rattle.std.proofs.lemmas.Bool.Decides.{nat_tests}
use Rattle.std.proofs.lemmas.Cmp.{and_equiv, nat_cmp_total, nat_eq_equiv, on_equiv, on_total, then_total}
use Rattle.std.proofs.lemmas.List.{flat_map_more, map-append, take_more}
use Rattle.std.proofs.lemmas.Option.{get_or_from_slice_get, slice_get_within}
use Rattle.waff_model.specs.Cells.{cells_of}
use Rattle.waff_model.specs.declared.cell.Cell.{Cell}
use Rattle.waff_model.specs.declared.message.Message.{Message}
use Rattle.waff_model.specs.declared.op.Op.{Op}
use Rattle.waff_run.specs.Named.{cells_named, spot_cmp}
use Rattle.waff_run.specs.declared.places.Spot.{Spot}

-- what elements are made of, of one more
pub gathered_more : {X A : Type 0} (g : X → List A) (xs : List X) (i : ℕ) (x : X) → slice_get xs i ≡ Some x
    → flat_map g (take i xs) ++ g x ≡ flat_map g (take (i + 1) xs)
gathered_more g xs i x is =
    flat_map_more g [] (take i xs) x
    ∙ ap (λ y. flat_map g (take i xs ++ y ∷ [])) (sym (get_or_from_slice_get xs i x x is))
    ∙ ap (flat_map g) (sym (take_more xs i x (slice_get_within xs i x is)))

-- the cells of one message more
pub named_more : (messages : List Message) (m : ℕ) (message : Message) → 1 ≤ m → slice_get messages (m - 1) ≡ Some message
    → cells_named (take (m - 1) messages) ++ cells_of message.ops ≡ cells_named (take (m + 1 - 1) messages)
named_more messages m message from is =
    let number : m - 1 + 1 ≡ m + 1 - 1 = omega arith in
    gathered_more (λ (message : Message). cells_of message.ops) messages (m - 1) message is
    ∙ ap (λ n. cells_named (take n messages)) number

-- what is made of one message more
pub mapped_more : {A : Type 0} (f : Message → A) (messages : List Message) (m : ℕ) (message : Message) → 1 ≤ m
    → slice_get messages (m - 1) ≡ Some message → map f (take (m - 1) messages) ++ f message ∷ [] ≡ map f (take (m + 1 - 1) messages)
mapped_more f messages m message from is =
    let number : m - 1 + 1 ≡ m + 1 - 1 = omega arith in
    sym (map-append f (take (m - 1) messages) (message ∷ []))
    ∙ ap (λ y. map f (take (m - 1) messages ++ y ∷ [])) (sym (get_or_from_slice_get messages (m - 1) message message is))
    ∙ ap (map f) (sym (take_more messages (m - 1) message (slice_get_within messages (m - 1) message is)))
    ∙ ap (λ n. map f (take n messages)) number

-- what is made of the cells of one operation more
pub made_more : {A : Type 0} (f : Cell → A) (g : Op → List Cell) (before : List A) (ops : List Op) (i : ℕ) (op : Op) → slice_get ops i ≡ Some op
    → (before ++ map f (flat_map g (take i ops))) ++ map f (g op) ≡ before ++ map f (flat_map g (take (i + 1) ops))
made_more f g before ops i op is =
    append_assoc before (map f (flat_map g (take i ops))) (map f (g op))
    ∙ ap (λ xs. before ++ xs) (sym (map-append f (flat_map g (take i ops)) (g op)) ∙ ap (map f) (gathered_more g ops i op is))

-- the test of equal places
abbrev pub spot_eq : Spot → Spot → Bool
spot_eq one other = (one.file == other.file) && (one.at == other.at)

pub spot_cmp_total : IsTotalOrder spot_cmp
spot_cmp_total = then_total (on_total (λ (spot : Spot). spot.file) nat_cmp_total) (on_total (λ (spot : Spot). spot.at) nat_cmp_total)

pub spot_eq_equiv : IsEquivalence spot_eq
spot_eq_equiv = and_equiv (on_equiv (λ (spot : Spot). spot.file) nat_eq_equiv) (on_equiv (λ (spot : Spot). spot.at) nat_eq_equiv)

pub spot_eq_same : (one other : Spot) → spot_eq one other ≡ true → one ≡ other
spot_eq_same one other h =
    let parts = and_parts (one.file == other.file) (one.at == other.at) h in
    let make : ℕ → ℕ → Spot = λ file at. record { file = file; at = at } in
    ap₂ make (eqb-true one.file other.file parts.0) (eqb-true one.at other.at parts.1)

ties_by : (f a g b : ℕ) → let one : Spot = record { file = f; at = a } in let other : Spot = record { file = g; at = b } in
    spot_eq one other ≡ eq_by_cmp spot_cmp one other
ties_by f a g b = grind (arith, nat_tests)

pub spot_eq_ties : (one other : Spot) → spot_eq one other ≡ eq_by_cmp spot_cmp one other
spot_eq_ties one other = ties_by one.file one.at other.file other.at

pub nat_eq_ties : (one other : ℕ) → eqb one other ≡ eq_by_cmp nat_cmp one other
nat_eq_ties one other = grind (arith, nat_tests)
