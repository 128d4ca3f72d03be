use Rattle.std.proofs.Common.{◌≡◌, ◌<◌, ◌≤◌, inl, inr, IfSome, [], ◌∷◌, ◌++◌, length, get_or, set, None, arith, sym, ◌∙◌, ap, subst}
use Rattle.std.proofs.lemmas.List.{length-set}
use Rattle.waff_model.specs.declared.limits.TheConstants.{MAX_MESSAGES}
use Rattle.waff_model.specs.Spans.{map_in}
use Rattle.waff_model.proofs.SpanLemmas.{length-map_in}
use Rattle.waff_plan.specs.Latest.{later_of}
use Rattle.waff_plan.specs.Table.{AreLatest, IsPlaceTable, PlaceTable, StandsAt, StandsOver}
use Rattle.waff_plan.specs.declared.last.Placed.{Placed}
use Rattle.waff_plan.proofs.PlaceTables.{standing_more, over_more, last_more}
use Rattle.waff_plan.proofs.place_table.PlaceTable.note.Goals as goal

pub returns-clause-table : goal.returns-clause-table
returns-clause-table c = λ spans assigned finish noted table is finish_is.
    let old = c.self.inside in
    let span = c.args.span in
    let message = c.args.message in
    let more = noted ++ message.number ∷ [] in
    let h : IsPlaceTable spans assigned finish noted (record { own = old.own; over = old.over; last = old.last })
    = subst (IsPlaceTable spans assigned finish noted) (sym c.self.view_is) table in
    let long = ap (λ (t : PlaceTable). length t.own) c.self.view_is in
    let within : span.first < length old.own = omega (arith, long, c.requires.forward, c.requires.within) in
    let put = c.put.ensures ∙ ap (λ x. set old.own span.first (later_of (get_or old.own span.first None) x)) c.one.ensures in
    let spread = c.note.ensures ∙ ap (λ x. map_in (λ l. later_of l x) old.over span.first span.end) c.one-2.ensures in
    record {
      own = subst (AreLatest (StandsAt spans assigned) finish more) (sym put)
          (standing_more spans assigned finish noted span message is finish_is old.own within h.own);
      over = subst (AreLatest (StandsOver spans assigned) finish more) (sym spread)
          (over_more spans assigned finish noted span message is finish_is old.over (omega (arith, long, c.self.invariant.0, c.requires.within)) h.over);
      last = last_more spans assigned finish noted span message is finish_is old.last _ c.later_placed.ensures.later c.later_placed.ensures.one_of_both h.last;
    }

pub invariant_of-self : goal.invariant_of-self
invariant_of-self c =
    let old = c.self.inside in
    let first = c.args.span.first in
    let own = ap length c.put.ensures ∙ length-set old.own first (later_of (get_or old.own first None) c.one.result) in
    let over = ap length c.note.ensures ∙ length-map_in (λ l. later_of l c.one-2.result) old.over first c.args.span.end in
    let both : length c.note.new.self ≡ length c.put.new.self = omega (arith, own, over, c.self.invariant.0) in
    let few : c.later_placed.result.message.number ≤ MAX_MESSAGES = elim c.later_placed.ensures.one_of_both [
      | inl same ↦ subst (λ (x : Placed). x.message.number ≤ MAX_MESSAGES) (sym same) c.requires.few
      | inr same ↦ subst (λ x. IfSome x (λ (l : Placed). l.message.number ≤ MAX_MESSAGES)) same c.self.invariant.1
    ] in
    (both, few)
