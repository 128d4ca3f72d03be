use Rattle.std.proofs.Common.{◌≡◌, length, sym, ◌∙◌, subst, List, arith, vec_len}
use Rattle.std.proofs.lemmas.Bool.{eqb-true}
use Rattle.std.proofs.lemmas.Grind.{common_steps}
use Rattle.waff_assign.specs.Held.{AreUnlocked, Held}
use Rattle.waff_assign.proofs.Helds.{unlocked_without_uses, no_uses_unlocked}
use Rattle.waff_assign.proofs.assigned.Assigned.is_unlocked.Goals as goal

pub returns : goal.returns
returns c =
    let inside = c.self.inside in (
      λ empty.
          let short : vec_len inside.uses ≡ 0 = eqb-true (vec_len inside.uses) 0 (sym c.is_empty.ensures ∙ empty) in
          let none : length inside.uses.items ≡ 0 = omega arith in
          subst (λ (held : List Held). AreUnlocked held) c.self.view_is
          (unlocked_without_uses inside.affinities.items inside.uses.items inside.ends.items none),
      λ unlocked.
          let none : length inside.uses.items ≡ 0
          = no_uses_unlocked inside.affinities.items inside.uses.items inside.ends.items c.self.invariant.1
          (subst (λ (held : List Held). AreUnlocked held) (sym c.self.view_is) unlocked) in
          grind (arith, common_steps),
    )
