-- The lanes of messages that have no affinity: as many as such messages ever run at once, 64 at most. In the order of
-- their starts, then of their numbers, each takes the first lane that is free, else a new one, else the last.
use Rattle.std.specs.Prelude.{ℕ, ◌+◌, ◌*◌, ◌^◌, max, min, List, [], ◌∷◌, ◌++◌, fold, if◌then◌else◌, is_none}
use Rattle.std.specs.Prelude.{length, nat_le, nat_lt, replicate, slice_index, slice_set}
use Rattle.std.specs.BTreeMap.{insert_entry}
use Rattle.std.specs.List.{range_with_len}
use Rattle.std.specs.Map.{values_of}
use Rattle.std.specs.Ordering.{nat_cmp}
use Rattle.waff_assign.specs.Held.{Held}
use Rattle.waff_assign.specs.Order.{affinity_of}

-- messages by a key that rises with their starts, and of those that start together with their numbers
abbrev pub start_key : (ℕ → ℕ) → ℕ → ℕ
start_key start n = start n * 2 ^ 32 + n

-- with one message more, if it has no affinity
abbrev pub with_loose : List Held → (ℕ → ℕ) → List (ℕ × ℕ) → ℕ → List (ℕ × ℕ)
with_loose assigned start entries n =
    if is_none (affinity_of assigned n) then insert_entry nat_cmp entries (start_key start n) n else entries

-- the first n messages: those that have no affinity
abbrev pub loose_entries : List Held → (ℕ → ℕ) → ℕ → List (ℕ × ℕ)
loose_entries assigned start n = fold (with_loose assigned start) [] (range_with_len 1 n)

-- all of them, in order
abbrev pub loose_order : List Held → (ℕ → ℕ) → List ℕ
loose_order assigned start = values_of (loose_entries assigned start (length assigned))

-- the lanes so far: the tick from which each is free, and by their numbers which lane messages have
pub record LooseLanes : Type 0 where
  pub ends : List ℕ
  pub places : List ℕ

-- the first lane that is free at a tick, and where none is how many there are
abbrev pub first_free : ℕ → List ℕ → ℕ
first_free tick [] = 0
first_free tick (end ∷ ends) = if nat_le end tick then 0 else first_free tick ends + 1

-- the lane of a message that starts at a tick
abbrev pub lane_at : ℕ → List ℕ → ℕ
lane_at tick ends = min (first_free tick ends) 63

-- the lanes, where a message of this one finishes at a tick
abbrev pub ends_with : List ℕ → ℕ → ℕ → List ℕ
ends_with ends lane finish =
    if nat_lt lane (length ends) then slice_set ends lane (max finish (slice_index ends lane)) else ends ++ finish ∷ []

-- with one message more
abbrev pub with_message : (ℕ → ℕ) → (ℕ → ℕ) → LooseLanes → ℕ → LooseLanes
with_message start finish lanes n = record {
  ends = ends_with lanes.ends (lane_at (start n) lanes.ends) (finish n);
  places = slice_set lanes.places n (lane_at (start n) lanes.ends);
}

-- no lanes, for so many messages
abbrev pub no_lanes : ℕ → LooseLanes
no_lanes count = record { ends = []; places = replicate (count + 1) 0 }

-- the lanes of these messages, in this order
abbrev pub lanes_over : (ℕ → ℕ) → (ℕ → ℕ) → ℕ → List ℕ → LooseLanes
lanes_over start finish count order = fold (with_message start finish) (no_lanes count) order

-- the lanes of all messages that have no affinity
unfoldable pub loose_lanes : List Held → (ℕ → ℕ) → (ℕ → ℕ) → LooseLanes
loose_lanes assigned start finish =
    lanes_over start finish (length assigned) (loose_order assigned start)
