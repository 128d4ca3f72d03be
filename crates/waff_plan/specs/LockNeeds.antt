-- What messages need of each lock, message by message.
use Rattle.std.specs.Prelude.{◌≡◌, ℕ, ◌&&◌, ◌||◌, ◌+◌, not, false, max, Bool, List, if◌then◌else◌, map, sum_by, take}
use Rattle.std.specs.List.{list_any, range_with_len}
use Rattle.waff_assign.specs.Held.{Held}
use Rattle.waff_assign.specs.Order.{affinity_of, held_of}
use Rattle.waff_plan.specs.LowerBound.{option_is, shared_cost, uses_alone, uses_lock}
use Rattle.waff_plan.specs.Work.{Work, greatest}
use Rattle.waff_plan.specs.declared.lock_bound.LockNeed.{LockNeed}

-- nothing
abbrev pub no_need : LockNeed
no_need = record { kept = 0; shared = 0; used = false }

-- with one message more, that costs so much: whether it runs in the root, whether it uses the lock alone, and whether it uses it
pub record IsNeedWith (in_root : Bool) (cost : ℕ) (alone uses : Bool) (old new : LockNeed) : Type 0 where
  pub kept : new.kept ≡ old.kept + (if not in_root && alone then cost else 0)
  pub shared : new.shared ≡ max old.shared (if not (in_root || alone) && uses then cost else 0)
  pub used : new.used ≡ (old.used || uses)

-- the cost of message m, if it uses the lock alone and does not run in the root
abbrev pub alone_cost : List Held → Work → ℕ → ℕ → ℕ
alone_cost assigned work lock m =
    if not (option_is 0 (affinity_of assigned m)) && uses_alone lock (held_of assigned m) then work.cost m else 0

-- of the first n messages: the costs of those that use the lock alone and do not run in the root, the greatest of one that shares it, and
-- whether one uses it
pub record IsLockNeed (assigned : List Held) (work : Work) (n lock : ℕ) (need : LockNeed) : Type 0 where
  pub kept : need.kept ≡ sum_by (alone_cost assigned work lock) (range_with_len 1 n)
  pub shared : need.shared ≡ greatest (map (shared_cost assigned work lock) (range_with_len 1 n))
  pub used : need.used ≡ list_any (uses_lock lock) (take n assigned)
