-- The lanes of a picture: affinities in preorder, those that have a message, or these and what is
-- above them.
use Rattle.std.specs.Prelude.{ℕ, zero, suc, ◌+◌, ◌==◌, Bool, List, [], ◌∷◌, ◌++◌, if◌then◌else◌, length}
use Rattle.std.specs.Prelude.{codes, map, nat_lt, option_map, unwrap_or}
use Rattle.std.specs.Cmp.Lexicographic.{slice_cmp}
use Rattle.std.specs.List.{filter, flat_map, list_any, range_with_len}
use Rattle.std.specs.Ordering.{is_lt, nat_cmp}
use Rattle.waff_model.specs.Tree.{Node, name_of, parent_of}
use Rattle.waff_assign.specs.Held.{Held}
use Rattle.waff_assign.specs.Order.{number_or}
use Rattle.waff_draw.specs.declared.lanes.Lane.{Lane}

-- the affinities from the root, which is left out, to b, the last so many of them
abbrev pub path_from : List Node → ℕ → ℕ → List ℕ
path_from tree zero b = []
path_from tree (suc steps) b =
    unwrap_or (option_map (λ parent. path_from tree steps parent ++ b ∷ []) (parent_of tree b)) []

-- all of them: b is no more than b steps below the root
abbrev pub path_of : List Node → ℕ → List ℕ
path_of tree b = path_from tree b b

-- preorder: a stands before b where its path does in a dictionary
abbrev pub is_before : List Node → ℕ → ℕ → Bool
is_before tree a b = is_lt (slice_cmp nat_cmp (path_of tree a) (path_of tree b))

-- affinities in preorder, with one more
abbrev pub put : List Node → ℕ → List ℕ → List ℕ
put tree a [] = a ∷ []
put tree a (b ∷ bs) = if is_before tree a b then a ∷ b ∷ bs else b ∷ put tree a bs

-- affinities in preorder
abbrev pub in_preorder : List Node → List ℕ → List ℕ
in_preorder tree [] = []
in_preorder tree (a ∷ more) = put tree a (in_preorder tree more)

abbrev pub lane_of : ℕ → ℕ → Lane
lane_of affinity depth = record { affinity = affinity; depth = depth }

-- the lane of the affinity a
abbrev pub lane_in : List Node → ℕ → Lane
lane_in tree a = lane_of a (length (path_of tree a))

-- the name of a lane: that of its affinity, and a hyphen where its number is behind all affinities
abbrev pub lane_label : List Node → Lane → List ℕ
lane_label tree lane =
    if nat_lt lane.affinity (length tree) then name_of tree lane.affinity else codes "-"

-- whether a number is one of a list
abbrev pub is_among : List ℕ → ℕ → Bool
is_among numbers n = list_any (λ m. m == n) numbers

-- the affinities at or above b, from the root down
abbrev pub way_to : List Node → ℕ → List ℕ
way_to tree b = 0 ∷ path_of tree b

-- the affinities that have a message in them or below them
abbrev pub used_below : List Node → List ℕ → List ℕ
used_below tree assigned =
    flat_map (λ a. if is_among assigned a then way_to tree a else [])
    (range_with_len 0 (length tree))

-- the numbers of the affinities of messages, and where one has none the number of the affinities, which is behind them all
unfoldable pub affinities_of : List Node → List Held → List ℕ
affinities_of tree assigned = map (number_or (length tree)) assigned

-- the affinities that have a lane: those that have a message, or these and what is above them
abbrev pub laned_of : List Node → List Held → Bool → List ℕ
laned_of tree assigned is_tree =
    if is_tree then used_below tree (affinities_of tree assigned) else affinities_of tree assigned

-- the affinities that have a message among so many from this one on, in preorder
abbrev pub used_from : List Node → List ℕ → ℕ → ℕ → List ℕ
used_from tree assigned from count =
    in_preorder tree (filter (is_among assigned) (range_with_len from count))

-- the lanes: the affinities that have a message
abbrev pub lanes_of : List Node → List ℕ → List Lane
lanes_of tree assigned = map (lane_in tree) (used_from tree assigned 0 (length tree))

-- the row of the affinity a, where the first of the lanes is at this row
abbrev pub row_from : ℕ → List Lane → ℕ → ℕ
row_from row [] a = 0
row_from row (lane ∷ lanes) a = if lane.affinity == a then row else row_from (row + 1) lanes a

-- the row of the affinity a among the lanes
abbrev pub row_of : List Lane → ℕ → ℕ
row_of lanes a = row_from 0 lanes a
