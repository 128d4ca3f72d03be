-- A trace with one message more.
use Rattle.std.proofs.Common.{◌≡◌, ℕ, zero, suc, ◌+◌, ◌<◌, ◌≤◌, ◌==◌, Bool, true, List, [], ◌∷◌, ◌++◌, length, slice_get, slice_index, take, get_or, Some, All, ap, sym, ◌∙◌, arith, false, length-append, subst, refl, eq-eqb}
use Rattle.std.specs.List.{list_all, zip}
use Rattle.std.proofs.lemmas.Bool.{and_parts}
use Rattle.std.proofs.lemmas.Bool.Decides.{nat_tests}
use Rattle.std.proofs.lemmas.List.Elements.{All-get_or, All-head, All-nil, All-push, All-tail}
use Rattle.std.proofs.lemmas.List.{take_more}
use Rattle.std.proofs.lemmas.List.Sums.{sum_by-append, sum_by_more_le}
use Rattle.std.proofs.lemmas.Option.{get_or_from_slice_get, slice_get_within}
use Rattle.waff_model.specs.Awaits.{AreLists, IsList, awaited_in}
use Rattle.waff_model.specs.Versions.{has_after, max_messages, max_ops}
use Rattle.waff_model.specs.declared.limits.TheConstants.{MAX_ALL_OPS, MAX_AWAITED, MAX_MESSAGES, MAX_OPS}
use Rattle.waff_model.specs.declared.message.Version.{Version}
use Rattle.waff_model.specs.declared.message.Version.TheVariants.{V1, V2, V3, V4}
use Rattle.waff_model.specs.declared.awaits.Await.{Await}
use Rattle.waff_model.specs.declared.limits.TheConstants.{MAX_THINK}
use Rattle.waff_model.specs.declared.message.Message.{Message}
use Rattle.waff_model.specs.declared.cell.Cell.{Cell}
use Rattle.waff_model.specs.Cells.{LiesIn}
use Rattle.waff_model.specs.Layout.{Space, IsCell, size_at}
use Rattle.waff_model.specs.Messages.{Arrivals, IsMessage, IsTrace, ops_in, sizes_of}

-- the limits of no version are above those of all
pub max_messages-most : (version : Version) → max_messages version ≤ MAX_MESSAGES
max_messages-most V1 = omega arith
max_messages-most V2 = omega arith
max_messages-most V3 = omega arith
max_messages-most V4 = omega arith

pub max_ops-most : (version : Version) → max_ops version ≤ MAX_OPS
max_ops-most V1 = omega arith
max_ops-most V2 = omega arith
max_ops-most V3 = omega arith
max_ops-most V4 = omega arith

pub few_messages : (trace : Arrivals) → IsTrace trace → length trace.messages ≤ MAX_MESSAGES
few_messages trace is = omega (arith, is.few, max_messages-most trace.version)

-- one message more, with a list of its own
pub lists-push : (first : ℕ) (messages : List Message) (message : Message) → AreLists first messages → IsList (first + length messages) message.after
    → AreLists first (messages ++ message ∷ [])
lists-push first [] message lists is zero other at = subst (λ (m : Message). IsList (first + 0) m.after) (get_or_from_slice_get (message ∷ []) 0 other message at) is
lists-push first [] message lists is (suc k) other at = absurd (omega (arith, slice_get_within [] k other at))
lists-push first (m ∷ messages) message lists is zero other at = lists 0 other at
lists-push first (m ∷ messages) message lists is (suc k) other at =
    let more : AreLists (suc first) messages = λ n message at. subst (λ place. IsList place message.after) (omega arith) (lists (suc n) message at) in
    let last : IsList (suc first + length messages) message.after = subst (λ place. IsList place message.after) (omega arith) is in
    subst (λ place. IsList place other.after) (omega arith) (lists-push (suc first) messages message more last k other at)

-- an empty list is one of any message
pub no_list : (n : ℕ) → IsList n []
no_list n = record {
  from = All-nil (λ (a : Await). 1 ≤ a.message);
  earlier = All-nil (λ (a : Await). a.message < n);
  rising = λ i j d less inside. absurd (omega (arith, inside));
  gaps = All-nil (λ (a : Await). a.gap ≤ MAX_THINK);
}

pub is_trace-push : (trace : Arrivals) (message : Message) → IsTrace trace → IsMessage trace.version trace.sizes message → length trace.messages < max_messages trace.version
    → ops_in trace.messages + length message.ops ≤ MAX_ALL_OPS → IsList (length trace.messages + 1) message.after → awaited_in trace.messages + length message.after ≤ MAX_AWAITED
    → IsTrace (record trace { messages = trace.messages ++ message ∷ [] })
is_trace-push trace message is_trace is_message room room_ops list room_awaited = record {
  messages = All-push (IsMessage trace.version trace.sizes) trace.messages message is_trace.messages is_message;
  few = omega (arith, length-append trace.messages (message ∷ []), room);
  few_ops = omega (arith, sum_by-append (λ (m : Message). length m.ops) trace.messages (message ∷ []), room_ops);
  lists = lists-push 1 trace.messages message is_trace.lists (subst (λ place. IsList place message.after) (omega arith) list);
  few_awaited = omega (arith, sum_by-append (λ (m : Message). length m.after) trace.messages (message ∷ []), room_awaited);
}

-- messages of a version that has no lists have lists that are empty
pub lists-none : (version : Version) (sizes : List ℕ) (first : ℕ) (messages : List Message) → has_after version ≡ false → All (IsMessage version sizes) messages
    → AreLists first messages
lists-none version sizes first messages none all k message at =
    let is : IsMessage version sizes message = subst (IsMessage version sizes) (get_or_from_slice_get messages k message message at)
    (All-get_or (IsMessage version sizes) messages k message (slice_get_within messages k message at) all) in
    subst (IsList (first + k)) (sym (is.no_list none)) (no_list (first + k))

pub awaited-none : (version : Version) (sizes : List ℕ) (messages : List Message) → has_after version ≡ false → All (IsMessage version sizes) messages → awaited_in messages ≡ 0
awaited-none version sizes [] none all = refl
awaited-none version sizes (message ∷ messages) none all =
    let head : IsMessage version sizes message = All-head (IsMessage version sizes) message messages all in
    let more = awaited-none version sizes messages none (All-tail (IsMessage version sizes) message messages all) in
    omega (arith, sum_by-append (λ (m : Message). length m.after) (message ∷ []) messages, ap length (head.no_list none), more)

-- the operations of one message more, of which all messages have no fewer
pub ops_in-more : (messages : List Message) (i : ℕ) (message : Message) → slice_get messages i ≡ Some message
    → (ops_in (take (i + 1) messages) ≡ ops_in (take i messages) + length message.ops) × (ops_in (take (i + 1) messages) ≤ ops_in messages)
ops_in-more messages i message at =
    let ops : Message → ℕ = λ m. length m.ops in
    let inside = slice_get_within messages i message at in
    let here : get_or messages i message ≡ message = get_or_from_slice_get messages i message message at in
    let next : take (i + 1) messages ≡ take i messages ++ message ∷ [] = take_more messages i message inside ∙ ap (λ m. take i messages ++ m ∷ []) here in
    let more : ops_in (take (i + 1) messages) ≡ ops_in (take i messages) + length message.ops = omega (arith, ap ops_in next, sum_by-append ops (take i messages) (message ∷ [])) in
    (more, omega (arith, more, sum_by_more_le ops messages i message inside, ap ops here))

abbrev has_size : ℕ × Space → Bool
has_size pair = pair.0 == pair.1.size

-- sizes that pass one by one are the sizes of the spaces
pub sizes_pass : (sizes : List ℕ) (spaces : List Space) → length sizes ≡ length spaces → list_all has_size (zip sizes spaces) ≡ true → sizes ≡ sizes_of spaces
sizes_pass [] [] same pass = refl
sizes_pass [] (space ∷ spaces) same pass = absurd (omega arith)
sizes_pass (size ∷ sizes) [] same pass = absurd (omega arith)
sizes_pass (size ∷ sizes) (space ∷ spaces) same pass =
    let parts = and_parts (size == space.size) (list_all has_size (zip sizes spaces)) pass in
    let here : size ≡ space.size = grind (arith, nat_tests, parts.0) in
    let more : sizes ≡ sizes_of spaces = sizes_pass sizes spaces (omega arith) parts.1 in
    cc

pub sizes_of-pass : (spaces : List Space) → list_all has_size (zip (sizes_of spaces) spaces) ≡ true
sizes_of-pass [] = refl
sizes_of-pass (space ∷ spaces) = rw (eq-eqb space.size space.size refl) (sizes_of-pass spaces)

pub slice_index-sizes_of : (spaces : List Space) (s : ℕ) → slice_index (sizes_of spaces) s ≡ size_at spaces s
slice_index-sizes_of [] s = refl
slice_index-sizes_of (space ∷ spaces) zero = refl
slice_index-sizes_of (space ∷ spaces) (suc s) = slice_index-sizes_of spaces s

-- a cell that lies in spaces of these sizes is a cell of the spaces
pub lies_in-sizes_of : (spaces : List Space) (cell : Cell) → LiesIn (sizes_of spaces) cell → IsCell spaces cell
lies_in-sizes_of spaces cell lies = subst (λ n. cell.index < n) (slice_index-sizes_of spaces cell.space) lies
