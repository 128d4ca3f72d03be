-- The message stands at the place from which on none is below it, or nowhere.
use Rattle.std.proofs.Common.{ltb, rules, arith, sym, ◌∙◌, ap, subst}
use Rattle.std.proofs.lemmas.Bool.{eq-eqb, eqb-true}
use Rattle.std.proofs.lemmas.List.Sorted.{IsPartitionPoint-from_clause, IsPartitionedBy-ltb}
use Rattle.waff_plan.specs.Work.{Await, IsAwaited}
use Rattle.waff_plan.proofs.AwaitLemmas.{awaited_at}
use Rattle.waff_check.proofs.ListLaws.{point_finds, rises_by_number}
use Rattle.waff_check.proofs.links.is_listed.Goals as goal

pub returns-in-Some : goal.returns-in-Some
returns-in-Some c =
    let after = c.args.after.now in
    let i = c.args.i in
    let place = c.partition_point-place.result in
    let here : Await = c.in-Some.awaited.now in
    let found = c.in-Some.ensures.lookup in
    let parted = IsPartitionedBy-ltb (λ (a : Await). a.message) after i (rises_by_number after c.requires.rising) in
    let point = IsPartitionPoint-from_clause (λ (a : Await). ltb a.message i) after place c.partition_point-place.ensures.partitioned parted (λ a r q k. search rules) in (
      λ t. subst (IsAwaited after) (sym (ap (λ (a : Await). a.message) (found.3.1 here)) ∙ eqb-true here.message i t) (awaited_at after place here found.3.0),
      λ awaited. eq-eqb here.message i (ap (λ (a : Await). a.message) (found.3.1 here) ∙ (point_finds after i place c.requires.rising point awaited here).1),
    )

pub returns-in-None : goal.returns-in-None
returns-in-None c =
    let after = c.args.after.now in
    let i = c.args.i in
    let place = c.partition_point-place.result in
    let past = c.in-None.ensures.lookup.3 in
    let parted = IsPartitionedBy-ltb (λ (a : Await). a.message) after i (rises_by_number after c.requires.rising) in
    let point = IsPartitionPoint-from_clause (λ (a : Await). ltb a.message i) after place c.partition_point-place.ensures.partitioned parted (λ a r q k. search rules) in (
      λ t. absurd (cc t),
      λ awaited. absurd (
          let found = (point_finds after i place c.requires.rising point awaited (record { message = 0; gap = 0 })).0 in omega (arith, found, past)),
    )
