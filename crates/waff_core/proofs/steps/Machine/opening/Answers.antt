use Rattle.std.proofs.Common.{◌≡◌, ◌∙◌, ap, ℕ, zero, suc, ◌+◌, false, get_or, replicate, refl, rules}
use Rattle.waff_core.specs.Shown.{marked}
use Rattle.waff_core.specs.declared.actors.Phase.TheVariants.{Free}
use Rattle.waff_core.proofs.steps.Machine.opening.Goals as goal

-- no message is marked
unmarked : (count n : ℕ) → get_or (replicate count false) n false ≡ false
unmarked zero n = refl
unmarked (suc count) zero = refl
unmarked (suc count) (suc n) = unmarked count n

pub returns-clause-core : goal.returns-clause-core
returns-clause-core c =
    let count : ℕ = c.len-count.result + 1 in
    let phases : c.in_ok-vec.field-0.items ≡ replicate c.args.seats Free = search rules in
    let done : c.in_ok-vec-2.field-0.items ≡ replicate count false = search rules in
    λ i. record {
      drawn = 0;
      phases = phases i;
      done = λ n. (ap (λ marks. marked marks n) done ∙ unmarked count n) i;
      cells = λ cell. c.in_ok-zero.ensures.cells cell i;
    }
