use Rattle.std.proofs.Common.{◌≡◌, ◌+◌, ◌++◌, ◌<◌, All, length, replicate, arith, sym, ◌∙◌, ap, ap₂, subst}
use Rattle.std.specs.List.{slice_index}
use Rattle.std.proofs.lemmas.List.{length-append}
use Rattle.std.proofs.lemmas.List.Elements.{All-append, All-weaker}
use Rattle.waff_assign.specs.Case.{instance_of}
use Rattle.waff_plan.specs.Timetable.{starts_in, timings_of, work_in}
use Rattle.waff_plan.specs.Timing.{start_of, work_of}
use Rattle.waff_plan.specs.Work.{finish_of, length_of}
use Rattle.waff_plan.proofs.TimingLemmas.{length-timings_of}
use Rattle.waff_draw.specs.Lanes.{is_among, lane_of, laned_of, lanes_of, row_of}
use Rattle.waff_draw.specs.Loose.{LooseLanes, loose_lanes}
use Rattle.waff_draw.specs.Parts.{end_of}
use Rattle.waff_draw.specs.Scene.{lanes_in, length_in, loose_in, scene_with}
use Rattle.waff_draw.specs.declared.lanes.Lane.{Lane}
use Rattle.waff_draw.proofs.LaneLemmas.{all_same, length_same}
use Rattle.waff_draw.proofs.chart.Chart.new.Goals as goal

pub invariant_of-result : goal.invariant_of-result
invariant_of-result c =
    let case = c.args.case.now in
    let tree = case.tree.now in
    let assigned = case.assigned.now in
    let messages = case.trace.now.messages in
    let scene = scene_with (instance_of case) c.args.given.now c.args.part c.args.is_tree in
    let plan = c.in_ok-plan.plan in
    let none = c.len-none.result in
    let count = c.len-2.result in
    let of_affinities = c.in_ok-lanes.lanes.items in
    let others = replicate count (lane_of none 0) in
    let counted : length messages ≡ length (timings_of messages) = sym (length-timings_of messages) in
    let long : c.length-ticks.result ≡ length_in scene
    = c.length-ticks.ensures.length
    ∙ ap₂ (λ timings starts. length_of (work_of timings) (start_of starts)) c.in_ok-plan.ensures.timings c.in_ok-plan.ensures.starts in
    let loose : loose_lanes assigned (starts_in plan) (finish_of (work_in plan) (starts_in plan)) ≡ loose_in scene
    = ap₂ (λ timings starts. loose_lanes assigned (start_of starts) (finish_of (work_of timings) (start_of starts)))
    c.in_ok-plan.ensures.timings c.in_ok-plan.ensures.starts in
    let many : count ≡ length (loose_in scene).ends
    = omega (
      arith,
      c.len-2.ensures,
      c.in_ok-loose.loose.ends.ok.0,
      ap length c.in_ok-loose.ensures.ends,
      ap (λ (l : LooseLanes). length l.ends) loose,
    ) in
    let pushed : c.push_loose_lanes.new.lanes.items ≡ of_affinities ++ others = c.in_ok-push_loose_lanes.ensures in
    let shown : c.push_loose_lanes.new.lanes.items ≡ lanes_in scene
    = pushed
    ∙ ap (λ ls. ls ++ others) c.in_ok-lanes.ensures.lanes
    ∙ ap (λ k. lanes_of tree (laned_of tree assigned c.args.is_tree) ++ replicate k (lane_of none 0)) many
    ∙ ap (λ n. lanes_of tree (laned_of tree assigned c.args.is_tree) ++ replicate (length (loose_in scene).ends) (lane_of n 0)) c.len-none.ensures.count in
    record {
      messages = counted;
      given = c.requires.rows ∙ counted;
      shown = shown;
      shown_known = subst (All (λ (lane : Lane). lane.affinity < length tree + 1)) (sym pushed)
          (All-append (λ (lane : Lane). lane.affinity < length tree + 1) of_affinities others
          (All-weaker (λ (lane : Lane). lane.affinity < length tree) (λ (lane : Lane). lane.affinity < length tree + 1) (λ lane low. omega (arith, low)) of_affinities
          c.in_ok-lanes.ensures.known)
          (all_same (λ (lane : Lane). lane.affinity < length tree + 1) (lane_of none 0) (omega (arith, c.len-none.ensures.count)) count));
      few = omega (
        arith,
        ap length pushed,
        length-append of_affinities others,
        length_same (lane_of none 0) count,
        c.in_ok-lanes.ensures.few,
        c.in_ok-loose.ensures.few,
        c.len-2.ensures,
        c.in_ok-loose.loose.ends.ok.0,
      );
      timings = c.in_ok-plan.ensures.timings;
      starts = c.in_ok-plan.ensures.starts;
      long = long;
      ends = c.end.ensures.end ∙ ap (end_of c.args.part) long;
      some = c.end.ensures.behind;
      small = c.end.ensures.small;
      row_count = c.in_ok-rows.ensures.count ∙ ap (λ n. n + 1) c.len-none.ensures.count;
      each_row = λ a low.
          c.in_ok-rows.ensures.each a (omega (arith, low, c.len-none.ensures.count))
          ∙ ap (λ lanes. row_of lanes a) (c.as_slice.ensures.value ∙ shown);
      placed = λ n. c.in_ok-loose.ensures.places n ∙ ap (λ (l : LooseLanes). slice_index l.places n) loose;
      link_count = omega (arith, counted, c.in_ok-links.ensures.count, c.len.ensures.count);
      each_link = λ n low.
          c.in_ok-links.ensures.each n (omega (arith, low, c.in_ok-links.ensures.count))
          ∙ ap (λ numbers. is_among numbers n) c.chain.ensures.chain;
      names = c.in_ok-colours.ensures;
    }
