use Rattle.std.proofs.Common.{Bool, true, false, refl, rules}
use Rattle.std.specs.Bool.{Decides, OnTrue}
use Rattle.std.proofs.lemmas.Slice.Eq.{slice_eq-Decides}
use Rattle.waff_model.specs.declared.awaits.Await.{Await}
use Rattle.waff_record.proofs.cut.are_same_awaited.Goals as goal

where_true : {P : Type 0} (test : Bool) → Decides test P → OnTrue test P
where_true true decides = decides.0 refl
where_true false decides = tt

pub returns : goal.returns
returns c =
    where_true c.eq.result
    (slice_eq-Decides (λ (a b : Await). search rules) c.args.after.now c.args.other.now c.eq.result c.eq.ensures)
