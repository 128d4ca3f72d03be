use Rattle.std.proofs.Common.{◌+◌, arith, sym, ap}
use Rattle.std.proofs.lemmas.List.FromFn.{get_or-map-range_with_len}
use Rattle.waff_plan.specs.ByStart.{started_of}
use Rattle.waff_plan.specs.declared.sequence.Started.{Started}
use Rattle.waff_plan.proofs.sequence.number_at.Goals as goal

pub returns-in-None : goal.returns-in-None
returns-in-None c = λ count within.
    rw c.in-None.is (sym (ap (λ (s : Started). s.number)
    (get_or-map-range_with_len (started_of (λ m. m)) 1 count c.args.place (c.args.place + 1) (record { start = 0; number = 0 }) within (omega arith))))
