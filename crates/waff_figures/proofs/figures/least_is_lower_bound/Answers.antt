use Rattle.waff_plan.specs.Instances.{work_of_instance}
use Rattle.waff_figures.proofs.LeastLaws.{least_is_lower_bound}
use Rattle.waff_figures.proofs.figures.least_is_lower_bound.Goals as goal

pub returns : goal.returns
returns c = record {
  bound = λ instance.
      let work = work_of_instance instance in
      least_is_lower_bound instance (c.least_is_shortest.ensures instance.tree instance.assigned work)
      (c.none_is_shorter.ensures instance.tree instance.assigned work)
      (λ workers. c.none_is_below.ensures workers instance.tree instance.assigned work);
}
