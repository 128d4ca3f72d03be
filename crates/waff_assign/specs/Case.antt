-- A trace under a tree of affinities.
use Rattle.waff_assign.specs.declared.case.Case.{Case}
use Rattle.waff_assign.specs.Instance.{Instance, before_in}
use Rattle.waff_assign.specs.Order.{Relation}

-- what it is an instance of
abbrev pub instance_of : Case → Instance
instance_of case = record {
  tree = case.tree.now;
  assigned = case.assigned.now;
  trace = case.trace.now;
}

-- its ordered pairs
abbrev pub pairs_of : Case → Relation
pairs_of case = before_in (instance_of case)
