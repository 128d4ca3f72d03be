use Rattle.waff_model.specs.declared.message.Version.TheVariants.{V3}
use Rattle.waff_plan.specs.Order.{key_of}
use Rattle.waff_plan.proofs.IssuePlans.{least_by_key_is_one}
use Rattle.waff_plan.proofs.Orders.{service_key}
use Rattle.waff_plan.proofs.issue_laws.least_by_issue_is_one.Goals as goal

pub returns : goal.returns
returns c = λ tree assigned work follows start other least other_least.
    least_by_key_is_one tree assigned work (key_of V3 work) follows (service_key V3 work follows) start other least other_least
