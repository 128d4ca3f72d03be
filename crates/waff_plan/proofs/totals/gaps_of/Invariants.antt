use Rattle.std.proofs.Common.{◌≡◌, ◌+◌, ◌-◌, ◌*◌, ◌≤◌, drop, get_or}
use Rattle.waff_model.specs.declared.limits.TheConstants.{MAX_THINK}
use Rattle.waff_plan.specs.Chain.{gaps_after, gaps_in}
use Rattle.waff_plan.specs.Timetable.{work_in}
use Rattle.waff_plan.proofs.totals.gaps_of.Given as goal

-- the gaps so far, and those that are left
abbrev pub invariant-loop-place : goal.invariant-loop-place
invariant-loop-place l = record {
  left : l.gaps + gaps_after (work_in l.plan) (get_or l.chain (l.place - 1) 0) (drop l.place l.chain) ≡ gaps_in (work_in l.plan) l.chain;
  small : l.gaps ≤ MAX_THINK * (l.place - 1);
}
