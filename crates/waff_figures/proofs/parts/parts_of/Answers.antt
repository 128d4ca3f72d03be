use Rattle.std.proofs.Common.{◌≡◌, ◌+◌, ◌<◌, inl, inr, [], ◌∷◌, ◌++◌, length, get_or, rules, arith, sym, ◌∙◌, ap, subst}
use Rattle.std.specs.Prelude.{slice_range}
use Rattle.std.proofs.lemmas.Bool.{cases_lt}
use Rattle.std.proofs.lemmas.List.{get_or_append_left, get_or_push, get_or_read, length_push}
use Rattle.waff_plan.specs.Chain.{IsListed}
use Rattle.waff_plan.specs.Timetable.{starts_in, work_in}
use Rattle.waff_figures.specs.Members.{count_before}
use Rattle.waff_figures.specs.Parts.{ArePartFigures, no_part, part_where}
use Rattle.waff_figures.specs.Tally.{is_in}
use Rattle.waff_figures.specs.declared.parts.PartFigures.{PartFigures}
use Rattle.waff_figures.proofs.MemberLemmas.{before_none, before_rises, before_within}
use Rattle.waff_figures.proofs.PartLemmas.{part_listed}
use Rattle.waff_figures.proofs.parts.parts_of.Goals as goal

pub loop-g-init : goal.loop-g-init
loop-g-init c = record {
  many = search rules;
  room = search rules;
  from = sym (before_none c.args.grouped.now.groups.now (length c.args.grouped.now.plan.now.timings));
  each = λ i low. absurd (omega (arith, low));
}

pub between-messages-requires-clause-forward : goal.between-messages-requires-clause-forward
between-messages-requires-clause-forward c =
    let groups = c.args.grouped.now.groups.now in
    let all = length c.args.grouped.now.plan.now.timings in
    let ends = c.args.members.now.ends.items in
    let g = c.loop-g.g in
    let low : g < length ends = omega (arith, c.loop-g-test.true, c.requires.members.each_count) in
    let read : c.index.result.now ≡ get_or ends g 0 = get_or_read ends g c.index.result.now low c.index.ensures 0 in
    omega (arith, read, c.requires.members.end g c.loop-g-test.true, c.loop-g.invariant.from, before_rises groups all g (g + 1) (omega arith))

pub between-messages-requires-clause-within : goal.between-messages-requires-clause-within
between-messages-requires-clause-within c =
    let groups = c.args.grouped.now.groups.now in
    let all = length c.args.grouped.now.plan.now.timings in
    let ends = c.args.members.now.ends.items in
    let g = c.loop-g.g in
    let low : g < length ends = omega (arith, c.loop-g-test.true, c.requires.members.each_count) in
    let read : c.index.result.now ≡ get_or ends g 0 = get_or_read ends g c.index.result.now low c.index.ensures 0 in
    let long = ap length c.as_slice.ensures.value in
    omega (arith, read, long, c.requires.members.end g c.loop-g-test.true, c.requires.members.all, before_within groups all (g + 1))

pub part_figures-requires : goal.part_figures-requires
part_figures-requires c =
    let groups = c.args.grouped.now.groups.now in
    let all = length c.args.grouped.now.plan.now.timings in
    let order = c.args.members.now.order.items in
    let ends = c.args.members.now.ends.items in
    let g = c.loop-g.g in
    let low : g < length ends = omega (arith, c.loop-g-test.true, c.requires.members.each_count) in
    let read : c.index.result.now ≡ get_or ends g 0 = get_or_read ends g c.index.result.now low c.index.ensures 0 in
    let work = work_in c.args.grouped.now.plan.now in
    let same : c.between-messages.result.now ≡ part_where work (is_in groups g)
    = c.between-messages.ensures ∙ ap (λ xs. slice_range xs c.loop-g.from c.index.result.now) c.as_slice.ensures.value
    ∙ ap (λ a. slice_range order a c.index.result.now) c.loop-g.invariant.from
    ∙ ap (slice_range order (count_before groups all g)) (read ∙ c.requires.members.end g c.loop-g-test.true)
    ∙ c.requires.members.members g c.loop-g-test.true in
    record { messages = subst (IsListed all) (sym same) (part_listed work (is_in groups g)) }

pub loop-g-preserved : goal.loop-g-preserved
loop-g-preserved c =
    let groups = c.args.grouped.now.groups.now in
    let all = length c.args.grouped.now.plan.now.timings in
    let order = c.args.members.now.order.items in
    let ends = c.args.members.now.ends.items in
    let g = c.loop-g.g in
    let low : g < length ends = omega (arith, c.loop-g-test.true, c.requires.members.each_count) in
    let read : c.index.result.now ≡ get_or ends g 0 = get_or_read ends g c.index.result.now low c.index.ensures 0 in
    let work = work_in c.args.grouped.now.plan.now in
    let start = starts_in c.args.grouped.now.plan.now in
    let same : c.between-messages.result.now ≡ part_where work (is_in groups g)
    = c.between-messages.ensures ∙ ap (λ xs. slice_range xs c.loop-g.from c.index.result.now) c.as_slice.ensures.value
    ∙ ap (λ a. slice_range order a c.index.result.now) c.loop-g.invariant.from
    ∙ ap (slice_range order (count_before groups all g)) (read ∙ c.requires.members.end g c.loop-g-test.true)
    ∙ c.requires.members.members g c.loop-g-test.true in
    let old = c.loop-g.parts.items in
    let part : PartFigures = c.in_ok-part.part in
    let many = c.loop-g.invariant.many in
    let pushed = c.push_reserved.ensures.items in
    let here : ArePartFigures work start (part_where work (is_in groups g)) part
    = subst (λ ms. ArePartFigures work start ms part) same c.in_ok-part.ensures in
    record {
      many = ap length pushed ∙ (let more : length (old ++ part ∷ []) ≡ g + 1 = omega (arith, length_push old part, many) in more);
      room = c.push_reserved.ensures.capacity ∙ c.loop-g.invariant.room;
      from = read ∙ c.requires.members.end g c.loop-g-test.true;
      each = λ i inside. elim (cases_lt i g) [
        | inl before ↦
            let at : get_or c.push_reserved.new.self.items i no_part ≡ get_or old i no_part
            = ap (λ xs. get_or xs i no_part) pushed ∙ get_or_append_left old (part ∷ []) no_part i (omega (arith, before, many)) in
            subst (ArePartFigures work start (part_where work (is_in groups i))) (sym at) (c.loop-g.invariant.each i before)
        | inr last ↦
            let this : i ≡ g = omega (arith, last, inside) in
            let at : get_or c.push_reserved.new.self.items i no_part ≡ part
            = ap (λ xs. get_or xs i no_part) pushed ∙ get_or_push old part no_part i (many ∙ sym this) in
            subst (ArePartFigures work start (part_where work (is_in groups i))) (sym at)
            (subst (λ k. ArePartFigures work start (part_where work (is_in groups k)) part) (sym this) here)
      ];
    }
