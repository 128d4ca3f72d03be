-- What is taken from a run of places, sorted and each once.
use Rattle.std.proofs.Common.{◌≡◌, ℕ, ◌≤◌, List, length, Contains, eqb, arith, sym, subst}
use Rattle.std.specs.List.{dedup}
use Rattle.std.specs.List.Sorted.{IsPermutation, IsSorted}
use Rattle.std.specs.Ordering.{nat_cmp}
use Rattle.std.proofs.lemmas.List.Kept.{Contains-dedup_nat, Contains-from_dedup}
use Rattle.std.proofs.lemmas.List.Sorted.{Contains-permutation, IsPermutation-sym, length_permutation}
use Rattle.std.proofs.lemmas.Map.Keys.{IsStrictlyIncreasing-dedup}
use Rattle.waff_order.specs.Runs.{AreGathered}

pub gathered : (taken list sorted kept : List ℕ) → list ≡ taken → IsPermutation list sorted → IsSorted nat_cmp sorted → kept ≡ dedup eqb sorted
    → length kept ≤ length sorted → AreGathered taken kept
gathered taken list sorted kept all moved rises is few = subst (λ xs. AreGathered xs kept) all (record {
  each = λ i. (
    λ h. Contains-permutation sorted list i (IsPermutation-sym list sorted moved) (Contains-from_dedup eqb sorted i (subst (λ xs. Contains xs i) is h)),
    λ h. subst (λ xs. Contains xs i) (sym is) (Contains-dedup_nat sorted i (Contains-permutation list sorted i moved h)),
  );
  rising = rw is (IsStrictlyIncreasing-dedup sorted rises);
  few = omega (arith, length_permutation list sorted moved, few);
})
