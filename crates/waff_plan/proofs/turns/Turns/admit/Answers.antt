-- By number nobody is let go; by issue those are that waited.
use Rattle.std.proofs.Common.{◌≡◌, ℕ, ◌++◌, Contains, refl, sym, subst}
use Rattle.std.proofs.lemmas.Result.{on_ok_weaker}
use Rattle.waff_waits.specs.Times.{AreEach}
use Rattle.waff_waits.specs.Waits.{IsFree, WhoWaits, waiting_for}
use Rattle.waff_plan.specs.Turns.{HoldsWaits, turns_in}
use Rattle.waff_plan.specs.declared.turns.Turns.{Turns}
use Rattle.waff_plan.proofs.IssueSteps.{those}
use Rattle.waff_plan.proofs.TurnLemmas.{all_free}
use Rattle.waff_plan.proofs.turns.Turns.admit.Goals as goal

pub admit-requires-clause-numbers : goal.admit-requires-clause-numbers
admit-requires-clause-numbers c = c.requires.numbers (rw c.in-Issues.is refl) c.in-Issues.waits (rw c.in-Issues.is refl)

pub returns-in-Numbers-clause-free : goal.returns-in-Numbers-clause-free
returns-in-Numbers-clause-free c = rw c.in-Numbers.is
    (λ w new none no_other entered taken among each. all_free w new none no_other entered _ each)

pub returns-in-Issues-clause-free : goal.returns-in-Issues-clause-free
returns-in-Issues-clause-free c =
    on_ok_weaker c.admit.result
    (λ free w new is is_new entered taken among each.
    let was : c.in-Issues.waits ≡ w = subst (λ (t : Turns). HoldsWaits t w) c.in-Issues.is is in
    subst (λ (u : WhoWaits). AreEach (IsFree entered u) (taken ++ those c.admit.new.due)) is_new
    (free entered taken (subst (λ (u : WhoWaits). (d : ℕ) → Contains (waiting_for u c.args.m) d → Contains entered d) (sym was) among)
    (subst (λ (u : WhoWaits). AreEach (IsFree entered u) (taken ++ those c.in-Issues.due)) (sym was)
    (subst (λ (t : Turns). AreEach (IsFree entered w) (taken ++ those (turns_in t))) c.in-Issues.is each))))
    c.admit.ensures.free
