-- Each message waits for the latest of those that exclude it and are before it.
use Rattle.std.proofs.Common.{◌≡◌, ◌+◌, ◌-◌, ◌<◌, [], ◌∷◌, ◌++◌, length, set, option_map, arith, sym, ◌∙◌, ap, subst}
use Rattle.std.proofs.lemmas.List.{length-set}
use Rattle.waff_plan.specs.ByStart.{started_at, walk_of}
use Rattle.waff_plan.specs.Latest.{IsFound}
use Rattle.waff_plan.specs.Serving.{chain_key, started_before}
use Rattle.waff_plan.specs.Table.{IsLatestExcluding}
use Rattle.waff_plan.specs.Timetable.{starts_in, work_in}
use Rattle.waff_plan.specs.Waits.{IsWait, wait_of}
use Rattle.waff_plan.specs.Work.{finish_of}
use Rattle.waff_plan.proofs.ApartLaws.{number_here}
use Rattle.waff_plan.proofs.Followings.{is_wait}
use Rattle.waff_plan.proofs.Latests.{found_same}
use Rattle.waff_plan.proofs.Noted.{none_noted, noted_more}
use Rattle.waff_plan.proofs.ServingLemmas.{each_runs}
use Rattle.waff_plan.proofs.StartedLinks.{AreFirstLinks, all_links, before_noted, more_links, noted_before, sorts}
use Rattle.waff_plan.proofs.Tables.{excluding_under}
use Rattle.waff_plan.proofs.waits.waits.Goals as goal

pub loop-place-init : goal.loop-place-init
loop-place-init c = record {
  noted = [];
  are_noted = none_noted _ _;
  count = omega (arith, c.in_ok-waits.ensures.len, c.in_ok-waits.waits.ok.0, c.len.ensures.count);
  waits = λ q less. absurd (omega (arith, less));
  table = c.in_ok-table.ensures.table _;
  tree = c.in_ok-table.ensures.tree;
  assigned = c.in_ok-table.ensures.assigned;
}

pub loop-place-preserved : goal.loop-place-preserved
loop-place-preserved c =
    let tree = c.args.tree.now in
    let assigned = c.args.assigned.now in
    let plan = c.args.plan.now in
    let work = work_in plan in
    let start = starts_in plan in
    let finish = finish_of work start in
    let started = walk_of (length c.args.plan.now.timings) (option_map (λ list. list.items) c.in_ok-started.started) in
    let are = c.in_ok-started.ensures.order in
    let p = c.loop-place.place in
    let known : p < work.count = omega (arith, c.loop-place-test.true, c.len-place-end.ensures.count) in
    let within : p < length started = omega (arith, known, are.long) in
    let same : length assigned ≡ work.count = sym c.requires.lengths in
    let runs = each_runs plan.version plan.timings c.len.ensures.table.timings in
    let key = chain_key plan.version start in
    let before = started_before plan.version tree assigned start in
    let in_order = sorts tree assigned work same plan.version start runs c.requires.apart in
    let m = (started_at started p).number in
    let m_is : c.number_at-m.result ≡ m = c.number_at-m.ensures work.count known in
    let number = number_here work key started are p within in
    let noted = c.loop-place.invariant.noted in
    let are_noted = c.loop-place.invariant.are_noted in
    let h = c.loop-place.invariant in
    let excluding : IsLatestExcluding tree assigned finish noted m c.latest.result
    = subst (λ k. IsLatestExcluding tree assigned finish noted k c.latest.result) m_is
    (excluding_under tree assigned c.loop-place.table finish noted c.number_at-m.result c.latest.result h.tree h.assigned (c.latest.ensures finish noted h.table)) in
    let found : IsFound (λ i. before i m) finish c.latest.result
    = found_same _ (λ i. before i m) finish c.latest.result
    (noted_before work key started are tree assigned before in_order p within noted are_noted)
    (before_noted work key started are tree assigned before in_order p within noted are_noted) excluding in
    let Is = IsWait c.args.since before work start in
    let is : Is m c.wait.result
    = subst (Is m) (sym (c.wait.ensures ∙ ap (λ k. wait_of c.args.since work start k c.latest.result) m_is)) (is_wait before work start m c.args.since c.latest.result found) in
    let waits = c.loop-place.waits.items in
    record {
      noted = noted ++ c.number_at-m.result ∷ [];
      are_noted = noted_more started (λ i. Unit {0}) p c.number_at-m.result noted (sym m_is) are_noted tt;
      count = length-set waits (c.number_at-m.result - 1) c.wait.result ∙ c.loop-place.invariant.count;
      waits = subst (λ k. AreFirstLinks Is started (set waits (k - 1) c.wait.result) (p + 1)) (sym m_is)
          (more_links work key started are Is waits p c.wait.result within c.loop-place.invariant.count c.loop-place.invariant.waits is);
      table = c.note.ensures.table finish noted h.table (sym c.finish-finish.ensures.finish);
      tree = c.note.ensures.tree ∙ h.tree;
      assigned = c.note.ensures.assigned ∙ h.assigned;
    }

pub returns-clause-waits : goal.returns-clause-waits
returns-clause-waits c =
    let work = work_in c.args.plan.now in
    let start = starts_in c.args.plan.now in
    let plan = c.args.plan.now in
    all_links work (chain_key plan.version start) (walk_of (length c.args.plan.now.timings) (option_map (λ list. list.items) c.in_ok-started.started)) c.in_ok-started.ensures.order
    (IsWait c.args.since (started_before plan.version c.args.tree.now c.args.assigned.now start) work start)
    c.loop-place.waits.items c.loop-place.place (omega (arith, c.loop-place-test.false, c.len-place-end.ensures.count, c.in_ok-started.ensures.order.long)) c.loop-place.invariant.waits
