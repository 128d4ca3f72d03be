-- One jump more.
use Rattle.std.proofs.Common.{◌≡◌, ℕ, ◌+◌, ◌<◌, inl, inr, nat_lt, List, [], ◌∷◌, ◌++◌, length, sym, ◌∙◌, ap, subst, arith}
use Rattle.std.proofs.lemmas.Bool.{cases_Bool, ltb-false, ltb-true}
use Rattle.std.proofs.lemmas.List.{get_or-append-add, get_or_append_left, length_push}
use Rattle.waff_model.specs.Tree.{Node}
use Rattle.waff_limits.specs.Jumps.{AreJumpsTo, IsJump, jump_at}
use Rattle.waff_limits.specs.declared.jumps.Jump.{Jump}

pub one_jump_more : (tree : List Node) (jumps : List Jump) (count : ℕ) (jump : Jump) → AreJumpsTo tree jumps count → IsJump tree jump count
    → AreJumpsTo tree (jumps ++ jump ∷ []) (count + 1)
one_jump_more tree jumps count jump are is = record {
  long = omega (arith, length_push jumps jump, are.long);
  each = λ b low. elim (cases_Bool (nat_lt b count)) [
    | inl held ↦
        let lt : b < count = ltb-true b count held in
        subst (λ j. IsJump tree j b) (sym (get_or_append_left jumps (jump ∷ []) no_jump b (omega (arith, lt, are.long)))) (are.each b lt)
    | inr failed ↦
        let same : count ≡ b = omega (arith, low, ltb-false b count failed) in
        let place : length jumps + 0 ≡ b = omega (arith, same, are.long) in
        let there : jump ≡ jump_at (jumps ++ jump ∷ []) b
        = sym (get_or-append-add jumps (jump ∷ []) 0 no_jump) ∙ ap (jump_at (jumps ++ jump ∷ [])) place in
        subst (λ j. IsJump tree j b) there (subst (λ k. IsJump tree jump k) same is)
  ];
}
  where
    no_jump : Jump
    no_jump = record { to = 0; steps = 0 }
