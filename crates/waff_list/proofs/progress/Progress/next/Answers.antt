use Rattle.std.proofs.Common.{◌≡◌, arith, inl, inr}
use Rattle.std.proofs.lemmas.Bool.{cases_lt}
use Rattle.waff_list.proofs.progress.Progress.next.Goals as goal

pub returns-clause-one : goal.returns-clause-one
returns-clause-one c = elim (cases_lt c.next-2.result c.next.result) [
  | inl less ↦
      let is : c.min.result ≡ c.next-2.result = omega (arith, c.min.ensures, less) in
      rw is (elim c.next-2.ensures.one [ inl never ↦ inl never | inr one ↦ inr (one.0, inr one.1) ])
  | inr late ↦
      let is : c.min.result ≡ c.next.result = omega (arith, c.min.ensures, late) in
      rw is (elim c.next.ensures.one [ inl never ↦ inl never | inr one ↦ inr (one.0, inl one.1) ])
]
