-- Looking at the needs of a message is enough: when they are done, it is clear.
use Rattle.std.proofs.Common.{◌≡◌, ℕ, zero, suc, true, All}
use Rattle.std.proofs.lemmas.List.Elements.{All-contains}
use Rattle.waff_assign.specs.Order.{PathBy}
use Rattle.waff_order.specs.Needs.{needs_of, IsNeed}
use Rattle.waff_core.specs.Job.{JobValue, IsJob}
use Rattle.waff_core.specs.Machine.{Core, IsClear}
use Rattle.waff_core.proofs.Sound.{Sound}

-- what leads to a message by needs is done, when those of the message are
path_is_done : (job : JobValue) → IsJob job → (s : Core) → Sound job s → (m : ℕ) → ((i : ℕ) → IsNeed job.needs i m → s.done i ≡ true)
    → (n i : ℕ) → PathBy (IsNeed job.needs) n i m → s.done i ≡ true
path_is_done job is s sound m done zero i need = done i need
path_is_done job is s sound m done (suc n) i (k, need, path) =
    sound.done_clear k (path_is_done job is s sound m done n k path) i (is.needs.ordered i k need)

pub needs_are_enough : (job : JobValue) → IsJob job → (s : Core) → Sound job s
    → (m : ℕ) → ((i : ℕ) → IsNeed job.needs i m → s.done i ≡ true) → IsClear job s m
needs_are_enough job is s sound m done i ordered =
    let path = is.needs.paths i m ordered in
    path_is_done job is s sound m done path.0 i path.1

-- the same by the list
pub listed_needs_are_enough : (job : JobValue) → IsJob job → (s : Core) → Sound job s
    → (m : ℕ) → All (λ i. s.done i ≡ true) (needs_of job.needs m) → IsClear job s m
listed_needs_are_enough job is s sound m done =
    needs_are_enough job is s sound m (λ i need. All-contains (λ i. s.done i ≡ true) (needs_of job.needs m) i done need.listed)
