use Rattle.waff_plan.specs.Instances.{work_of_instance}
use Rattle.waff_limits.proofs.LimitLaws.{path_is_reached}
use Rattle.waff_limits.proofs.laws.path_is_reached.Goals as goal

pub returns : goal.returns
returns c = λ instance. path_is_reached instance (c.tree_is_reached.ensures instance.tree instance.assigned (work_of_instance instance))
