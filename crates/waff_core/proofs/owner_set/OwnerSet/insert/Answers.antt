use Rattle.std.proofs.Common.{◌≡◌, ◌<◌, ◌++◌, ◌∷◌, [], length, false, Contains, arith, ap, sym, ◌∙◌, subst}
use Rattle.std.proofs.lemmas.Bool.{true≢false}
use Rattle.std.proofs.lemmas.List.{get_or_default}
use Rattle.waff_core.specs.Owners.{AreAdded, Found}
use Rattle.waff_core.proofs.Marking.{added_one}
use Rattle.waff_core.proofs.owner_set.OwnerSet.insert.Goals as goal

pub returns-in_ok-push-clause-added : goal.returns-in_ok-push-clause-added
returns-in_ok-push-clause-added c =
    let a = c.args.a.0 in
    let owners = c.args.self.now.owners in
    let marks = c.self.inside.marks.items in
    let same : c.self.inside.owners.items ≡ owners = ap (λ (s : Found). s.owners) c.self.view_is in
    let known : a < length marks = omega (arith, c.requires.known, ap (λ (s : Found). s.count) c.self.view_is) in
    let fresh : ¬ Contains owners a = λ has. true≢false (sym ((c.self.invariant a).1 (subst (λ xs. Contains xs a) (sym same) has))
    ∙ (get_or_default marks a false c.index.result.now known ∙ (sym c.index.ensures ∙ c.if-not-index.true))) in
    let pushed : c.push.new.self.items ≡ owners ++ a ∷ [] = c.in_ok-push.ensures.items ∙ ap (λ xs. xs ++ a ∷ []) same in
    subst (AreAdded (a ∷ []) owners) (sym pushed) (added_one owners a fresh)
