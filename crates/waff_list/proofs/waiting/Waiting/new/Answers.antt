use Rattle.std.proofs.Common.{[], replicate, false, ap, ◌∙◌}
use Rattle.waff_plan.specs.Timing.{work_of}
use Rattle.waff_waits.specs.Waits.{WhoWaits}
use Rattle.waff_list.proofs.IssueBeginning.{none_known}
use Rattle.waff_list.proofs.waiting.Waiting.new.Goals as goal

pub returns-clause-waits : goal.returns-clause-waits
returns-clause-waits c =
    let known = none_known c.args.service (work_of c.args.task.now.timings.items) c.requires.fits c.requires.fresh in
    record {
      needs = known.0;
      known = known.1;
      waits = c.in_ok-none.ensures ∙ ap (λ n. let nobody : WhoWaits = record { awaited = replicate n []; finished = replicate n false } in nobody) c.len.ensures;
      ready = c.none-2.ensures;
    }
