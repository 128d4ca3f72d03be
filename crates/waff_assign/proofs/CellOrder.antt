-- Cells are in a total order, in which only equal cells tie.
use Rattle.std.proofs.Common.{◌≡◌, ℕ, true, arith, ap₂}
use Rattle.std.specs.Prelude.{◌==◌}
use Rattle.std.specs.Cmp.{IsTotalOrder, IsEquivalence}
use Rattle.std.specs.Ordering.{eq_by_cmp}
use Rattle.std.proofs.lemmas.Bool.{and_parts, eqb-true}
use Rattle.std.proofs.lemmas.Bool.Decides.{nat_tests}
use Rattle.std.proofs.lemmas.Cmp.{nat_cmp_total, nat_eq_equiv, on_total, then_total, on_equiv, and_equiv}
use Rattle.waff_model.specs.declared.cell.Cell.{Cell}
use Rattle.waff_assign.specs.Footprint.{cell_cmp}
pub use Rattle.waff_assign.specs.Footprint.{cell_eq}

pub cell_cmp_total : IsTotalOrder cell_cmp
cell_cmp_total = then_total (on_total (λ (cell : Cell). cell.space) nat_cmp_total) (on_total (λ (cell : Cell). cell.index) nat_cmp_total)

pub cell_eq_equiv : IsEquivalence cell_eq
cell_eq_equiv = and_equiv (on_equiv (λ (cell : Cell). cell.space) nat_eq_equiv) (on_equiv (λ (cell : Cell). cell.index) nat_eq_equiv)

pub cell_eq_same : (one other : Cell) → cell_eq one other ≡ true → one ≡ other
cell_eq_same one other h =
    let parts = and_parts (one.space == other.space) (one.index == other.index) h in
    let make : ℕ → ℕ → Cell = λ space index. record { space = space; index = index } in
    ap₂ make (eqb-true one.space other.space parts.0) (eqb-true one.index other.index parts.1)

ties_by : (s i t j : ℕ) → let one : Cell = record { space = s; index = i } in let other : Cell = record { space = t; index = j } in
    cell_eq one other ≡ eq_by_cmp cell_cmp one other
ties_by s i t j = grind (arith, nat_tests)

pub cell_eq_ties : (one other : Cell) → cell_eq one other ≡ eq_by_cmp cell_cmp one other
cell_eq_ties one other = ties_by one.space one.index other.space other.index
