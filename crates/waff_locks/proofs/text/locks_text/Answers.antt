use Rattle.std.proofs.Common.{Bool, List, length, arith, sym, ◌∙◌, ap, subst}
use Rattle.std.proofs.lemmas.List.{length-map}
use Rattle.waff_model.specs.Layout.{Space}
use Rattle.waff_locks.specs.Candidates.{AreNamed, candidates}
use Rattle.waff_locks.proofs.text.locks_text.Goals as goal

pub candidates-requires : goal.candidates-requires
candidates-requires g c =
    let locks = length-map c.args.layout.now.spaces (λ (s : Space). s.locks) in
    record {
      count = omega (arith, ap length c.deref.ensures.value, ap length c.deref-2.ensures.value, c.in_ok-named.ensures.count, c.len.ensures, c.deref.ensures.len);
      few = omega (arith, ap length c.deref.ensures.value, ap length c.in_ok-lockings.ensures, locks, c.space_count-spaces.ensures.layout.few);
    }

pub told_text-requires-clause-lockings : goal.told_text-requires-clause-lockings
told_text-requires-clause-lockings g c κs lives = c.deref-3.ensures.value ∙ c.in_ok-lockings.ensures

pub told_text-requires-clause-counted : goal.told_text-requires-clause-counted
told_text-requires-clause-counted g c κs lives =
    omega (arith, ap length c.deref-3.ensures.value, ap length c.deref-4.ensures.value, c.in_ok-named.ensures.count, c.len.ensures, c.deref-3.ensures.len)

pub told_text-requires-clause-named : goal.told_text-requires-clause-named
told_text-requires-clause-named g c κs lives =
    subst (λ (xs : List Bool). AreNamed c.args.trace.now.messages xs) (sym c.deref-4.ensures.value) c.in_ok-named.ensures.named

pub told_text-requires-clause-spaces : goal.told_text-requires-clause-spaces
told_text-requires-clause-spaces g c κs lives =
    let messages = c.args.trace.now.messages in
    c.deref-5.ensures.value
    ∙ c.in_ok-spaces.ensures.spaces messages (subst (λ (xs : List Bool). AreNamed messages xs) (sym c.deref-2.ensures.value) c.in_ok-named.ensures.named)
    ∙ ap (candidates c.args.wanted.now.kind messages) (c.deref.ensures.value ∙ sym c.deref-3.ensures.value)

pub returns : goal.returns
returns g c = c.told_text.ensures
