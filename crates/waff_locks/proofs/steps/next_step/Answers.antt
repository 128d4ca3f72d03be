use Rattle.std.proofs.Common.{All, Contains, List, subst, ◌∙◌}
use Rattle.waff_locks.specs.Steps.{ComesBefore}
use Rattle.waff_locks.specs.declared.figures.SpaceFigures.{SpaceFigures}
use Rattle.waff_locks.proofs.steps.next_step.Goals as goal

pub returns : goal.returns
returns g c =
    let step = c.first_of.result in
    record {
      tried = c.in_ok-tried.tried.items;
      are_tried = record {
        in_turn = c.in_ok-tried.ensures.in_turn ∙ c.deref.ensures.value ∙ c.in_ok-left.ensures.spaces c.args.asked.now.trace.now.messages c.requires.named;
        each = c.in_ok-tried.ensures.each;
      };
      among = subst (λ (xs : List SpaceFigures). Contains xs step) c.deref-2.ensures.value c.first_of.ensures.among;
      first = subst (λ (xs : List SpaceFigures). All (λ other. ¬ ComesBefore other step) xs) c.deref-2.ensures.value c.first_of.ensures.first;
    }
