use Rattle.std.proofs.Common.{◌≡◌, ◌++◌, [], ◌∷◌, Some, Ok, Err, length, take, append_assoc, sym, ◌∙◌, ap, subst, arith}
use Rattle.std.specs.Vec.Iter.{into_iter_items}
use Rattle.waff_tool.specs.Ranks.{AreRead, AreReadings}
use Rattle.waff_tool.proofs.RankReadings.{slots_further, slots_refused}
use Rattle.waff_tool.proofs.ranks.in_order.Goals as goal

pub loop-slot-preserved : goal.loop-slot-preserved
loop-slot-preserved c =
    let at = c.loop-slot in
    let slot = c.in-Some.slot in
    let layout = c.in-Some-Ok.layout in
    let rest = into_iter_items c.next.new.self in
    let all = into_iter_items c.into_iter-slot-iterator.result in
    let steps : into_iter_items at.slot-iterator ≡ slot ∷ rest = c.in-Some.ensures.steps.0 in
    let is : slot ≡ Some (Ok layout) = c.in-Some-Ok.is ∙ ap Some c.in-Some-Ok.field-0-is in
    let whole : at.yielded ++ slot ∷ rest ≡ all = rw steps at at.invariant.so_far in
    let read : at.yielded ++ Some (Ok layout) ∷ rest ≡ all = ap (λ s. at.yielded ++ s ∷ rest) (sym is) ∙ whole in
    record {
      so_far = append_assoc at.yielded (slot ∷ []) rest ∙ whole;
      read = λ files are.
          subst (AreRead (take (length (at.yielded ++ slot ∷ [])) files)) (sym c.in_ok-keep-in-Some-Ok.ensures)
          (subst (λ s. AreRead (take (length (at.yielded ++ s ∷ [])) files) (at.layouts.items ++ layout ∷ [])) (sym is)
          (slots_further files all at.yielded rest at.layouts.items layout are read (at.invariant.read files are)));
      left =
          let was = at.invariant.left in
          let gone = c.in-Some.ensures.steps.1 in
          let short = ap length steps in
          omega (arith, was, gone, short);
    }

pub returns-in-Some-Err-clause-refused : goal.returns-in-Some-Err-clause-refused
returns-in-Some-Err-clause-refused c = λ files are trace_file.
    let at = c.loop-slot in
    let slot = c.in-Some.slot in
    let error = c.in-Some-Err.error in
    let rest = into_iter_items c.next.new.self in
    let all = into_iter_items c.into_iter-slot-iterator.result in
    let steps : into_iter_items at.slot-iterator ≡ slot ∷ rest = c.in-Some.ensures.steps.0 in
    let is : slot ≡ Some (Err error) = c.in-Some-Err.is ∙ ap Some c.in-Some-Err.field-0-is in
    let whole : at.yielded ++ slot ∷ rest ≡ all = rw steps at at.invariant.so_far in
    let read : at.yielded ++ Some (Err error) ∷ rest ≡ all = ap (λ s. at.yielded ++ s ∷ rest) (sym is) ∙ whole in
    let are_all = subst (AreReadings files) (sym c.into_iter-slot-iterator.ensures.into_iter_gives.0) are in
    slots_refused files all at.yielded rest at.layouts.items error trace_file are_all read (at.invariant.read files are_all)
