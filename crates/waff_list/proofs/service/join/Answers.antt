use Rattle.std.proofs.Common.{◌-◌, [], set, get_or, arith, sym, ◌∙◌, subst, get_or-set_other}
use Rattle.waff_model.specs.Numbers.{IsAmongFirst}
use Rattle.waff_plan.specs.Timing.{work_of}
use Rattle.waff_waits.specs.Waits.{Enters}
use Rattle.waff_list.proofs.Learning.{here, joined_after, numbers}
use Rattle.waff_list.proofs.service.join.Goals as goal

pub enter-requires-clause-needs : goal.enter-requires-clause-needs
enter-requires-clause-needs c =
    let (messages, needs, h, is) = c.requires.joined in
    let told = c.in_ok-join.ensures in
    let all = numbers (work_of c.args.task.now.timings.items) c.args.issued.now c.join.new.self messages needs c.args.m h is told.case told.spans told.messages told.listed.0 told.listed.1 told.joined
    c.needs.result.now (c.needs.ensures ∙ told.needs) in
    λ k d within. subst (λ n. IsAmongFirst n (get_or c.needs.result.now k d)) (sym c.requires.many) (all k d within)

pub returns-clause-learnt : goal.returns-clause-learnt
returns-clause-learnt c messages needs h is =
    let work = work_of c.args.task.now.timings.items in
    let told = c.in_ok-join.ensures in
    let m = c.args.m in
    let xs = c.needs.result.now in
    let named = c.needs.ensures ∙ told.needs in
    record {
      more = set needs (m - 1) xs;
      known = joined_after work c.args.issued.now c.join.new.self messages needs m h is told.case told.spans told.messages told.listed.0 told.listed.1 told.joined xs named;
      others = λ x from other. get_or-set_other needs (m - 1) (x - 1) xs [] (omega (arith, from, other, is.number.from));
      enters = subst (λ ys. Enters c.args.waits.now m ys c.enter.new.self) (sym (here work c.args.issued.now c.join.new.self messages needs m h is told.case told.spans told.messages told.listed.0 told.listed.1 told.joined xs named))
          c.in_ok-none.ensures.enters;
    }
