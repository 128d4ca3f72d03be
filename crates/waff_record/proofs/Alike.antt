-- Lists of operations that are alike up to a place.
use Rattle.std.proofs.Common.{◌≡◌, ℕ, ◌+◌, ◌<◌, List, length, get_or, arith, subst, sym, ◌∙◌, inl, inr}
use Rattle.std.specs.Prelude.{slice_get, Some}
use Rattle.std.proofs.lemmas.Bool.{cases_eq}
use Rattle.std.proofs.lemmas.List.{ext_get_or}
use Rattle.std.proofs.lemmas.Option.{get_or_from_slice_get}
use Rattle.waff_model.specs.declared.op.Op.{Op}
use Rattle.waff_model.specs.declared.op.Op.TheVariants as op

-- an operation
pub some_op : Op
some_op = op.Read (record { space = 0; index = 0 })

-- the first n operations are the same
abbrev pub AreSameBelow : List Op → List Op → ℕ → Type 0
AreSameBelow ops other n = (i : ℕ) → i < n → get_or ops i some_op ≡ get_or other i some_op

-- one more
pub same_more : (ops other : List Op) (n : ℕ) (x y : Op) → AreSameBelow ops other n → slice_get ops n ≡ Some x → slice_get other n ≡ Some y
    → x ≡ y → AreSameBelow ops other (n + 1)
same_more ops other n x y below first second same i less = elim (cases_eq i n) [
  | inl at ↦ subst (λ k. get_or ops k some_op ≡ get_or other k some_op) (sym at)
      (get_or_from_slice_get ops n x some_op first ∙ same ∙ sym (get_or_from_slice_get other n y some_op second))
  | inr off ↦ below i (omega arith)
]

-- all are
pub same_all : (ops other : List Op) → length ops ≡ length other → AreSameBelow ops other (length ops) → ops ≡ other
same_all ops other count below = ext_get_or some_op ops other count below
