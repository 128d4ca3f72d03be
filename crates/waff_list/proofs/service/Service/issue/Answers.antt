use Rattle.std.proofs.Common.{◌≤◌, length, get_or, Contains, arith, subst}
use Rattle.std.proofs.lemmas.List.Elements.{Contains-get_or}
use Rattle.waff_plan.specs.Timing.{work_of}
use Rattle.waff_list.specs.Planning.{Fits}
use Rattle.waff_list.proofs.Orders.{needs_inside}
use Rattle.waff_list.proofs.service.Service.issue.Goals as goal

pub enter-requires-clause-needs : goal.enter-requires-clause-needs
enter-requires-clause-needs c = λ k d within.
    let (issued, needs, known, is) = c.requires.known in
    let xs = c.of.result.now in
    let m = c.args.m in
    let work = work_of c.args.task.now.timings.items in
    let fits = subst (λ s. Fits s work) c.in-ByNumber.is c.requires.fits in
    let there = subst (λ ys. Contains ys (get_or xs k d)) c.of.ensures.needs (Contains-get_or xs k d within) in
    let inside = needs_inside c.in-ByNumber.needs.now m fits.2 is.number.from (get_or xs k d) there in
    let to : get_or xs k d ≤ length c.in-ByNumber.needs.now = inside.1 in
    record { from = inside.0; to = omega (arith, to, fits.0, c.requires.many) }
