-- Each message has its number, and its lowest affinity.
use Rattle.std.proofs.Common.{◌≡◌, ◌+◌, Option, length, arith, ap, sym, ◌∙◌}
use Rattle.std.specs.List.{AllZip}
use Rattle.rayon.proofs.ToStd.{nat_range-All}
use Rattle.waff_model.specs.Messages.{sizes_of}
use Rattle.waff_model.specs.Numbers.{IsAmongFirst}
use Rattle.waff_model.specs.declared.tree.AffinityId.{AffinityId}
use Rattle.waff_model.proofs.Unlocking.{none_is_locked}
use Rattle.waff_assign.specs.Lowest.{IsSomeLowestOf}
use Rattle.waff_assign.proofs.Assignments.{each_found, unlocked_assignment}
use Rattle.waff_assign.proofs.assignment.assign_by_threads.Goals as goal

pub collect-requires-clause-ready : goal.collect-requires-clause-ready
collect-requires-clause-ready g c κs within =
    let ends = c.into_par_iter.ensures in
    rw (c.map.ensures.base, c.map.ensures.f, ends.0, ends.1)
    (nat_range-All (λ n. ((c.args.trace.now.sizes ≡ sizes_of c.args.layout.now.spaces) × IsAmongFirst (length c.args.trace.now.messages) n)
    × ((y : Option AffinityId) → IsSomeLowestOf c.args.layout.now c.args.trace.now.messages n y → Unit {0}))
    1 (c.len.result + 1)
    (λ n low high. ((c.requires.fits, record { from = low; to = omega (arith, c.len.ensures.count) }), λ y h. tt)))

pub without_locks-requires : goal.without_locks-requires
without_locks-requires g c =
    let found = c.in_ok-affinities.ensures in
    let each : AllZip (IsSomeLowestOf c.map.result.f.0.now c.map.result.f.1.now.messages) found.1.0 found.0 = found.1.2 in
    let all = each_found c.args.layout.now c.args.trace.now.messages c.map.result.base.start c.map.result.base.end found.1.0 found.0 c.in_ok-affinities.affinities.items
    (rw c.map.ensures.base c.into_par_iter.ensures.0) (rw c.map.ensures.base (c.into_par_iter.ensures.1 ∙ ap (λ n. n + 1) c.len.ensures.count)) found.1.1 found.2 (rw c.map.ensures.f at each) in
    omega (arith, all.0, c.len.ensures.count, c.len.ensures.few)

pub returns-clause-assignment : goal.returns-clause-assignment
returns-clause-assignment g c =
    let found = c.in_ok-affinities.ensures in
    let each : AllZip (IsSomeLowestOf c.map.result.f.0.now c.map.result.f.1.now.messages) found.1.0 found.0 = found.1.2 in
    let all = each_found c.args.layout.now c.args.trace.now.messages c.map.result.base.start c.map.result.base.end found.1.0 found.0 c.in_ok-affinities.affinities.items
    (rw c.map.ensures.base c.into_par_iter.ensures.0) (rw c.map.ensures.base (c.into_par_iter.ensures.1 ∙ ap (λ n. n + 1) c.len.ensures.count)) found.1.1 found.2 (rw c.map.ensures.f at each) in
    rw c.without_locks.ensures
    (unlocked_assignment c.args.layout.now (none_is_locked c.args.layout.now.spaces (sym c.has_locks.ensures ∙ c.if-has_locks.false)) c.args.trace.now
    c.in_ok-affinities.affinities.items c.len.ensures.trace all.0 all.1).0

pub returns-clause-known : goal.returns-clause-known
returns-clause-known g c =
    let found = c.in_ok-affinities.ensures in
    let each : AllZip (IsSomeLowestOf c.map.result.f.0.now c.map.result.f.1.now.messages) found.1.0 found.0 = found.1.2 in
    let all = each_found c.args.layout.now c.args.trace.now.messages c.map.result.base.start c.map.result.base.end found.1.0 found.0 c.in_ok-affinities.affinities.items
    (rw c.map.ensures.base c.into_par_iter.ensures.0) (rw c.map.ensures.base (c.into_par_iter.ensures.1 ∙ ap (λ n. n + 1) c.len.ensures.count)) found.1.1 found.2 (rw c.map.ensures.f at each) in
    rw c.without_locks.ensures
    (unlocked_assignment c.args.layout.now (none_is_locked c.args.layout.now.spaces (sym c.has_locks.ensures ∙ c.if-has_locks.false)) c.args.trace.now
    c.in_ok-affinities.affinities.items c.len.ensures.trace all.0 all.1).1
