-- How many locks messages use.
use Rattle.std.proofs.Common.{◌≡◌, ℕ, zero, suc, ◌+◌, ◌-◌, ◌<◌, ◌≤◌, not, All, List, [], ◌∷◌, Some, count_by, length, get_or, sum_by, take, ◌∙◌, ap, arith, slice_get}
use Rattle.std.proofs.lemmas.List.Sums.{count_by-le-length, sum_by_more}
use Rattle.std.proofs.lemmas.Option.{slice_get-get_or, slice_get_within}
use Rattle.waff_assign.specs.Held.{Held, IsRising, nothing}
use Rattle.waff_assign.specs.Order.{held_of}
use Rattle.waff_assign.specs.declared.held.LockUse.{LockUse}

-- in rising order a lock is no less than the place of its use
place_within : (uses : List LockUse) → IsRising uses → (p : ℕ) (u : LockUse) → slice_get uses p ≡ Some u → p ≤ u.lock
place_within uses rising zero u is = omega arith
place_within uses rising (suc p) u is =
    let within = slice_get_within uses (suc p) u is in
    let before = get_or uses p u in
    let there = slice_get-get_or uses p u (omega (arith, within)) in
    omega (arith, place_within uses rising p before there, rising p (suc p) before u (omega arith) there is)

-- so there are no more uses than locks
few_uses : (uses : List LockUse) (count : ℕ) → IsRising uses → All (λ u. u.lock < count) uses → length uses ≤ count
few_uses [] count rising below = omega arith
few_uses (u ∷ more) count rising below =
    let uses = u ∷ more in
    let last = get_or uses (length more) u in
    let there = slice_get-get_or uses (length more) u (omega arith) in
    omega (arith, place_within uses rising (length more) last there, below (length more) u (omega arith))

pub few_alone : (uses : List LockUse) (count : ℕ) → IsRising uses → All (λ u. u.lock < count) uses → count_by (λ (u : LockUse). u.alone) uses ≤ count
few_alone uses count rising below = omega (arith, count_by-le-length (λ (u : LockUse). u.alone) uses, few_uses uses count rising below)

pub few_shared : (uses : List LockUse) (count : ℕ) → IsRising uses → All (λ u. u.lock < count) uses → count_by (λ (u : LockUse). not u.alone) uses ≤ count
few_shared uses count rising below = omega (arith, count_by-le-length (λ (u : LockUse). not u.alone) uses, few_uses uses count rising below)

-- one message more
pub sum_more : (f : Held → ℕ) (assigned : List Held) (n k : ℕ) → 1 ≤ n → n ≤ length assigned → n ≡ k
    → sum_by f (take k assigned) ≡ sum_by f (take (n - 1) assigned) + f (held_of assigned n)
sum_more f assigned n k from to is =
    ap (λ j. sum_by f (take j assigned)) (omega arith) ∙ sum_by_more f assigned (n - 1) nothing (omega arith)
