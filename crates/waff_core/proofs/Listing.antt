-- The operations and the owners of messages, one message after another.
use Rattle.std.proofs.Common.{◌≡◌, ◌≢◌, ◌⊎◌, inl, inr, ℕ, zero, suc, ◌+◌, ◌-◌, ◌*◌, ◌<◌, ◌≤◌, List, [], ◌∷◌, ◌++◌, length, slice_get, Some, get_or, take, map, All, Contains, arith, ap, sym, ◌∙◌, subst, ⊎_elim}
use Rattle.std.specs.List.{flat_map}
use Rattle.std.proofs.lemmas.Bool.{cases_eq}
use Rattle.std.proofs.lemmas.List.{get_or_append_left, get_or-append-add, get_or_push, length-append, length_push, length-map, map-append, flat_map_more, get_or-map, take_more}
use Rattle.std.proofs.lemmas.List.Elements.{All-push, All-contains, Contains-get_or, Contains-append_left, Contains-append_right, Contains-append_cases}
use Rattle.std.proofs.lemmas.Option.{get_or_from_slice_get, slice_get_within}
use Rattle.waff_model.specs.Cells.{cells_of, cells_of_op}
use Rattle.waff_model.specs.Layout.{Space, IsCell, owner_of}
use Rattle.waff_model.specs.declared.cell.Cell.{Cell}
use Rattle.waff_model.specs.declared.limits.TheConstants.{MAX_OPS}
use Rattle.waff_model.specs.declared.message.Message.{Message}
use Rattle.waff_model.specs.declared.op.Op.{Op}
use Rattle.waff_model.specs.declared.op.Op.TheVariants.{Set, Add, Copy, Swap, Read}
use Rattle.waff_cells.specs.Serial.{operations, ops_of}
use Rattle.waff_core.specs.Job.{JobValue, IsJob, IsIn, IsOwner, ListsOwners, owners_of}
use Rattle.waff_core.specs.Owners.{owners_in, AreAdded, AreOwners}

pub All-left : {X : Type 0} (P : X → Type 0) (xs ys : List X) → All P (xs ++ ys) → All P xs
All-left P xs ys h k d within =
    subst P (get_or_append_left xs ys d k within) (h k d (omega (arith, within, length-append xs ys)))

pub All-right : {X : Type 0} (P : X → Type 0) (xs ys : List X) → All P (xs ++ ys) → All P ys
All-right P xs ys h k d within =
    subst P (get_or-append-add xs ys k d) (h (length xs + k) d (omega (arith, within, length-append xs ys)))

-- what holds of all that the elements give holds of what each gives
pub All-flat : {X Y : Type 0} (P : Y → Type 0) (f : X → List Y) (xs : List X) (i : ℕ) (d : X) → i < length xs
    → All P (flat_map f xs) → All P (f (get_or xs i d))
All-flat P f [] i d within h = absurd (omega arith)
All-flat P f (x ∷ xs) zero d within h = All-left P (f x) (flat_map f xs) h
All-flat P f (x ∷ xs) (suc i) d within h = All-flat P f xs i d (omega arith) (All-right P (f x) (flat_map f xs) h)

-- the owners of the cells of one operation more, that was found at its place
pub owners_more : (spaces : List Space) (ops : List Op) (i : ℕ) (op : Op) → slice_get ops i ≡ Some op
    → owners_in spaces (cells_of (take i ops)) ++ owners_in spaces (cells_of_op op) ≡ owners_in spaces (cells_of (take (i + 1) ops))
owners_more spaces ops i op is =
    let f : Cell → ℕ = λ cell. owner_of spaces cell in
    let taken : take (i + 1) ops ≡ take i ops ++ op ∷ []
    = take_more ops i op (slice_get_within ops i op is) ∙ ap (λ x. take i ops ++ x ∷ []) (get_or_from_slice_get ops i op op is) in
    sym (map-append f (cells_of (take i ops)) (cells_of_op op))
    ∙ ap (map f) (flat_map_more cells_of_op [] (take i ops) op ∙ ap (λ xs. cells_of xs) (sym taken))

-- what all cells of operations are, those of the operation that was found are
pub cells_found : (P : Cell → Type 0) (ops : List Op) (i : ℕ) (op : Op) → slice_get ops i ≡ Some op → All P (cells_of ops) → All P (cells_of_op op)
cells_found P ops i op is all =
    subst (λ x. All P (cells_of_op x)) (get_or_from_slice_get ops i op op is) (All-flat P cells_of_op ops i op (slice_get_within ops i op is) all)

-- the operations of the message at a place
pub operations_at : (messages : List Message) (n : ℕ) (message : Message) → slice_get messages n ≡ Some message
    → get_or (operations messages) n [] ≡ message.ops
operations_at messages n message there =
    get_or-map (λ (m : Message). m.ops) messages n message [] (slice_get_within messages n message there)
    ∙ ap (λ (m : Message). m.ops) (get_or_from_slice_get messages n message message there)

-- the operations of a message, at its place
pub ops_of-at : (ops : List (List Op)) (n : ℕ) → 1 ≤ n → ops_of ops n ≡ get_or ops (n - 1) []
ops_of-at ops zero from = absurd (omega arith)
ops_of-at ops (suc n) from = let place : n ≡ suc n - 1 = omega arith in ap (λ k. get_or ops k []) place

first_cell : Cell
first_cell = record { space = 0; index = 0 }

owner_from : (spaces : List Space) (ops : List Op) (a : ℕ) → Contains (owners_in spaces (cells_of ops)) a → IsOwner spaces ops a
owner_from spaces ops a has =
    let f : Cell → ℕ = λ cell. owner_of spaces cell in
    let within : has.0 < length (cells_of ops) = omega (arith, has.1, length-map (cells_of ops) f) in
    record {
      cell = get_or (cells_of ops) has.0 first_cell;
      named = Contains-get_or (cells_of ops) has.0 first_cell within;
      owned = sym (get_or-map f (cells_of ops) has.0 first_cell a within) ∙ has.2;
    }

owner_in : (spaces : List Space) (ops : List Op) (a : ℕ) → IsOwner spaces ops a → Contains (owners_in spaces (cells_of ops)) a
owner_in spaces ops a owner =
    let f : Cell → ℕ = λ cell. owner_of spaces cell in
    let k = owner.named.0 in
    let within : k < length (cells_of ops) = owner.named.1 in (
      k,
      omega (arith, within, length-map (cells_of ops) f),
      get_or-map f (cells_of ops) k owner.cell a within ∙ ap f owner.named.2 ∙ owner.owned,
    )

-- none more
pub added_none : (xs : List ℕ) → AreAdded [] xs xs
added_none xs = record {
  each = λ a. (inl, λ h. ⊎_elim {C = Contains xs a} (λ (there : Contains xs a). there) (λ (none : Contains [] a). absurd (omega (arith, none.1))) h);
  once = λ once. once;
  few = omega arith;
}

-- some more, and then others
pub added_both : (some others before between after : List ℕ) → AreAdded some before between → AreAdded others between after
    → AreAdded (some ++ others) before after
added_both some others before between after one two = record {
  each = λ a. (
    λ there. ⊎_elim {C = Contains before a ⊎ Contains (some ++ others) a}
        (λ (earlier : Contains between a).
        ⊎_elim {C = Contains before a ⊎ Contains (some ++ others) a} inl
        (λ (first : Contains some a). inr (Contains-append_left some others a first)) ((one.each a).0 earlier))
        (λ (second : Contains others a). inr (Contains-append_right some others a second))
        ((two.each a).0 there),
    λ h. (two.each a).1 (⊎_elim {C = Contains between a ⊎ Contains others a}
        (λ (earlier : Contains before a). inl ((one.each a).1 (inl earlier)))
        (λ (named : Contains (some ++ others) a).
        ⊎_elim {C = Contains between a ⊎ Contains others a}
        (λ (first : Contains some a). inl ((one.each a).1 (inr first))) inr (Contains-append_cases some others a named))
        h),
  );
  once = λ once. two.once (one.once once);
  few = let first = one.few in let second = two.few in omega (arith, first, second, length-append some others);
}

-- the owners of all cells
pub lists_owners : (spaces : List Space) (ops : List Op) (owners : List ℕ) → AreAdded (owners_in spaces (cells_of ops)) [] owners
    → ListsOwners spaces ops owners
lists_owners spaces ops owners h = record {
  each = λ a. (
    λ has. ⊎_elim {C = IsOwner spaces ops a}
        (λ (none : Contains [] a). absurd (omega (arith, none.1)))
        (λ (named : Contains (owners_in spaces (cells_of ops)) a). owner_from spaces ops a named)
        ((h.each a).0 has),
    λ owner. (h.each a).1 (inr (owner_in spaces ops a owner)),
  );
  once = h.once (λ i j d less within. absurd (omega (arith, within)));
}

-- the owners of the first n messages
pub record AreOwnersUpTo (spaces : List Space) (ops : List (List Op)) (owners : List (List ℕ)) (n : ℕ) : Type 0 where
  pub count : length owners ≡ n
  pub each : (m : ℕ) → 1 ≤ m → m ≤ n → ListsOwners spaces (ops_of ops m) (owners_of owners m)
  pub few : All (λ owners. length owners ≤ 2 * MAX_OPS) owners

pub owners_one_more : (spaces : List Space) (ops : List (List Op)) (owners : List (List ℕ)) (n : ℕ) (kept : List ℕ)
    → AreOwnersUpTo spaces ops owners n → ListsOwners spaces (get_or ops n []) kept → length kept ≤ 2 * MAX_OPS
    → AreOwnersUpTo spaces ops (owners ++ kept ∷ []) (n + 1)
owners_one_more spaces ops owners n kept h lists short = record {
  count = omega (arith, h.count, length_push owners kept);
  each = λ m from to.
      ⊎_elim {C = ListsOwners spaces (ops_of ops m) (owners_of (owners ++ kept ∷ []) m)}
      (λ (last : m ≡ n + 1).
      let place : n ≡ m - 1 = omega arith in
      let here : kept ≡ owners_of (owners ++ kept ∷ []) m = sym (get_or_push owners kept [] (m - 1) (h.count ∙ place)) in
      let there : get_or ops n [] ≡ ops_of ops m = ap (λ k. get_or ops k []) place ∙ sym (ops_of-at ops m from) in
      subst (λ xs. ListsOwners spaces (ops_of ops m) xs) here (subst (λ xs. ListsOwners spaces xs kept) there lists))
      (λ (other : m ≢ n + 1).
      let before : m ≤ n = omega arith in
      let within : m - 1 < length owners = omega (arith, h.count) in
      subst (λ xs. ListsOwners spaces (ops_of ops m) xs) (sym (get_or_append_left owners (kept ∷ []) [] (m - 1) within)) (h.each m from before))
      (cases_eq m (n + 1));
  few = All-push (λ (owners : List ℕ). length owners ≤ 2 * MAX_OPS) owners kept h.few short;
}

pub owners_all : (spaces : List Space) (ops : List (List Op)) (owners : List (List ℕ)) (n : ℕ) → n ≡ length ops
    → AreOwnersUpTo spaces ops owners n → AreOwners spaces ops owners
owners_all spaces ops owners n all h = record {
  count = h.count ∙ all;
  each = λ m from to. h.each m from (omega (arith, to, all));
  few = h.few;
}

-- an operation names two cells at most
few_cells : (op : Op) → length (cells_of_op op) ≤ 2
few_cells (Set cell value) = omega arith
few_cells (Add cell value) = omega arith
few_cells (Copy cell source) = omega arith
few_cells (Swap cell other) = omega arith
few_cells (Read cell) = omega arith

pub few_owners : (spaces : List Space) (ops : List Op) → length (owners_in spaces (cells_of ops)) ≤ 2 * length ops
few_owners spaces [] = omega arith
few_owners spaces (op ∷ ops) =
    let f : Cell → ℕ = λ cell. owner_of spaces cell in
    let first = few_cells op in
    let rest : length (map f (cells_of ops)) ≤ 2 * length ops = few_owners spaces ops in
    omega (arith, first, rest, length-map (cells_of ops) f, length-map (cells_of (op ∷ ops)) f, length-append (cells_of_op op) (cells_of ops))

-- the cells of a message's operations are those of the layout
pub cell_listed : (job : JobValue) → IsJob job → (n : ℕ) → IsIn job n → (cell : Cell) → Contains (cells_of (ops_of job.ops n)) cell
    → IsCell job.layout.spaces cell
cell_listed job is n inside cell named =
    let within : n - 1 < length job.ops = omega (arith, inside.from, inside.to) in
    let all : All (IsCell job.layout.spaces) (cells_of (get_or job.ops (n - 1) [])) = is.cells (n - 1) [] within in
    All-contains (IsCell job.layout.spaces) (cells_of (ops_of job.ops n)) cell
    (subst (λ ops. All (IsCell job.layout.spaces) (cells_of ops)) (sym (ops_of-at job.ops n inside.from)) all) named
