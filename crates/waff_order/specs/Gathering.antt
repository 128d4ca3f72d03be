-- What a message takes at its affinity, and what the tables of the tree hold after it.
use Rattle.std.specs.Prelude.{ℕ, ◌<◌, ◌≤◌, max, List, [], length, Option, Some, None, slice_index, slice_set}
use Rattle.waff_model.specs.Preorder.{span_at}
use Rattle.waff_model.specs.Spans.{map_in, messages_in}
use Rattle.waff_model.specs.declared.preorder.Span.{Span}
use Rattle.waff_order.specs.Runs.{chosen}

-- the open messages at or below its affinity, or, where there is none, the latest above it
abbrev pub needs_in : List Span → List ℕ → List ℕ → Option ℕ → List ℕ
needs_in spans opened latest None = []
needs_in spans opened latest (Some a) =
    chosen (messages_in opened (span_at spans a).first (span_at spans a).end) (slice_index latest (span_at spans a).first)

-- these are closed, and the message is open
abbrev pub opened_after : List Span → List ℕ → ℕ → Option ℕ → List ℕ
opened_after spans opened m None = opened
opened_after spans opened m (Some a) =
    slice_set (map_in (λ n. 0) opened (span_at spans a).first (span_at spans a).end) (span_at spans a).first m

-- it is the latest at or above each place of its affinity
abbrev pub latest_after : List Span → List ℕ → ℕ → Option ℕ → List ℕ
latest_after spans latest m None = latest
latest_after spans latest m (Some a) = map_in (λ n. max n m) latest (span_at spans a).first (span_at spans a).end

-- the span of each affinity lies within so many places
abbrev pub AreWithin : List Span → ℕ → Type 0
AreWithin spans count =
    (a : ℕ) → a < length spans → ((span_at spans a).first < (span_at spans a).end) × ((span_at spans a).end ≤ count)
