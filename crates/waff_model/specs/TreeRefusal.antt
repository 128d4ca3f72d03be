-- Why an affinity is not added to a tree: the checks, in their order.
use Rattle.std.specs.Prelude.{ℕ, Bool, false, List, length, Option, Some, None, option_map, is_some}
use Rattle.std.specs.Prelude.{is_none, not, nat_le, ◌&&◌, [], ◌∷◌}
use Rattle.waff_model.specs.Names.{is_name}
use Rattle.waff_model.specs.Refusals.{first_refusal}
use Rattle.waff_model.specs.Tree.{Node, number_of}
use Rattle.waff_model.specs.declared.limits.TheConstants.{MAX_AFFINITIES}
use Rattle.waff_model.specs.declared.tree.AffinityId.{AffinityId}
use Rattle.waff_model.specs.declared.tree.TreeError.{TreeError}
use Rattle.waff_model.specs.declared.tree.TreeError.TheVariants.{Name, Twice, SecondRoot}
use Rattle.waff_model.specs.declared.tree.TreeError.TheVariants.{ParentUnknown, TooMany}

-- the node that a builder is asked to add
abbrev pub node_of : List ℕ → Option AffinityId → Node
node_of name parent = record { name = name; parent = option_map (λ p. p.0) parent }

-- the parent is none of the affinities
abbrev pub is_unknown : List Node → Option ℕ → Bool
is_unknown tree None = false
is_unknown tree (Some p) = nat_le (length tree) p

-- what is checked before a node is added after these nodes, in order
abbrev pub node_checks : List Node → Node → List (Bool × TreeError)
node_checks tree node =
    (not (is_name node.name), Name)
    ∷ (is_some (number_of tree node.name), Twice)
    ∷ (is_none node.parent && nat_le 1 (length tree), SecondRoot)
    ∷ (is_unknown tree node.parent, ParentUnknown)
    ∷ (nat_le MAX_AFFINITIES (length tree), TooMany)
    ∷ []

-- why a node is refused after these nodes
abbrev pub refusal_of : List Node → Node → Option TreeError
refusal_of tree node = first_refusal (node_checks tree node)
