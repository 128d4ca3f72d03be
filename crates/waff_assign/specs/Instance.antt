-- An instance of the planning problem: messages that arrive, and what each holds under a tree.
use Rattle.std.specs.Prelude.{List}
use Rattle.waff_model.specs.Messages.{Arrivals}
use Rattle.waff_model.specs.Tree.{Node}
use Rattle.waff_assign.specs.Held.{Held}
use Rattle.waff_assign.specs.Order.{IsOrdered, Relation}

pub record Instance : Type 0 where
  pub tree : List Node
  pub assigned : List Held
  pub trace : Arrivals

-- its ordered pairs
abbrev pub before_in : Instance → Relation
before_in instance = IsOrdered instance.tree instance.assigned
