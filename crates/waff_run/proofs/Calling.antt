-- Operations that are one call, one more at a time.
use Rattle.std.proofs.Common.{◌≡◌, ℕ, suc, ◌+◌, ◌-◌, ◌*◌, ◌<◌, ◌≤◌, List, length, Some, slice_get, inl, inr, ◌∙◌, ap, ap₂, subst, arith}
use Rattle.std.proofs.lemmas.Bool.{cases_lt}
use Rattle.std.proofs.lemmas.Option.{slice_get_within}
use Rattle.waff_model.specs.declared.op.Op.{Op}
use Rattle.waff_run.specs.Calls.{AreAlike, GoesWith, first_cell}
use Rattle.waff_run.specs.Places.{Placing, spot_of}
use Rattle.waff_run.specs.declared.places.Spot.{Spot}

-- the place of a file and a byte
abbrev spot_at : ℕ → ℕ → Spot
spot_at file at = record { file = file; at = at }

-- the operations from one on that were looked at, of which the one at hand is the next
module _ (placing : Placing) (ops : List Op) (from next end : ℕ) (first op : Op) (behind : from < next)
    (is_first : slice_get ops from ≡ Some first) (is_next : slice_get ops next ≡ Some op)
    (is_end : end ≡ (spot_of placing (first_cell first)).at + (next - from) * placing.bytes) where
  at_next : from + (next - from) ≡ next
  at_next = omega (arith, behind)

  here : slice_get ops (from + (next - from)) ≡ Some op
  here = ap (slice_get ops) at_next ∙ is_next

  -- it goes with the first
  pub goes : AreAlike first op → (spot_of placing (first_cell op)).file ≡ (spot_of placing (first_cell first)).file
      → (spot_of placing (first_cell op)).at ≡ end → GoesWith placing ops from (next - from)
  goes alike file at = record {
    one = first;
    other = op;
    first = is_first;
    here = here;
    alike = alike;
    behind = ap₂ spot_at file (at ∙ is_end);
  }

-- each of those behind the first, one more
pub each_more : (placing : Placing) (ops : List Op) (from next : ℕ) → from < next
    → ((k : ℕ) → 0 < k → k < next - from → GoesWith placing ops from k) → GoesWith placing ops from (next - from)
    → (k : ℕ) → 0 < k → k < next + 1 - from → GoesWith placing ops from k
each_more placing ops from next behind each last k some fewer = elim (cases_lt k (next - from)) [
  | inl earlier ↦ each k some earlier
  | inr later ↦ subst (GoesWith placing ops from) (let e : next - from ≡ k = omega (arith, later, fewer, behind) in e) last
]

-- where the cells end, one more
pub end_more : (first bytes from next : ℕ) → from < next → (end at long : ℕ) → at ≡ end → end ≡ first + (next - from) * bytes → long ≡ bytes
    → at + long ≡ first + (next + 1 - from) * bytes
end_more first bytes from next behind end at long is_at is_end is_long =
    let count : next + 1 - from ≡ suc (next - from) = omega (arith, behind) in
    let product : suc (next - from) * bytes ≡ (next - from) * bytes + bytes = grind arith in
    let same : (next + 1 - from) * bytes ≡ suc (next - from) * bytes = ap (λ n. n * bytes) count in
    omega (arith, is_at, is_end, is_long, product, same)

-- nothing stands behind the last operation
pub goes_no_further : (placing : Placing) (ops : List Op) (from count : ℕ) → length ops ≤ from + count → ¬ GoesWith placing ops from count
goes_no_further placing ops from count over goes = let inside = slice_get_within ops (from + count) goes.other goes.here in absurd (omega (arith, over, inside))
