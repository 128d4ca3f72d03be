use Rattle.std.proofs.Common.{◌∙◌, length, sym, subst, string_bytes}
use Rattle.std.proofs.lemmas.Result.{IfOk-weaker}
use Rattle.waff_inputs.specs.Known.{newest}
use Rattle.waff_plan.specs.Chain.{IsChain, IsListed}
use Rattle.waff_plan.specs.Serving.{started_in}
use Rattle.waff_plan.specs.Timetable.{work_in}
use Rattle.waff_record.specs.Runs.{messages_told, trace_told}
use Rattle.waff_record.proofs.Retold.{is_told_trace, told_within}
use Rattle.waff_record.proofs.Own.{plan_for, seats_long}
use Rattle.waff_record.proofs.Rows.{as_many}
use Rattle.waff_record.proofs.told.plan_text.Goals as goal

pub invariant_of-timed : goal.invariant_of-timed
invariant_of-timed c =
    let told = c.args.told.now in
    record {
      version = told.version;
      lengths = as_many told.run told.plan.now c.requires.told.ran c.requires.told.plan c.len-planned.ensures.table.timings.earlier;
    }

pub timed_text-requires-clause-seats : goal.timed_text-requires-clause-seats
timed_text-requires-clause-seats c =
    let told = c.args.told.now in
    let trace = told.run.case.trace.now in
    let law = c.trace_anew_is_read.ensures newest told.run.layout.now.spaces told.run.bytes.now trace (messages_told trace.messages told.plan.now.timings) in
    seats_long told c.requires.told (trace_told trace told.plan.now) (is_told_trace trace told.plan.now) c.len-planned.ensures.table
    (told_within told c.requires.told c.len-planned.ensures.table law) c.len-affinities.ensures.tree
    c.as_slice.result.now (c.as_slice.ensures.value ∙ c.in_ok-seats.ensures)

pub returns : goal.returns
returns c =
    let told = c.args.told.now in
    let trace = told.run.case.trace.now in
    let law = c.trace_anew_is_read.ensures newest told.run.layout.now.spaces told.run.bytes.now trace (messages_told trace.messages told.plan.now.timings) in
    IfOk-weaker c.timed_text.result _ _
    (λ text lines.
    plan_for told c.requires.told (trace_told trace told.plan.now) (is_told_trace trace told.plan.now) c.len-planned.ensures.table
    (told_within told c.requires.told c.len-planned.ensures.table law) c.len-affinities.ensures.tree
    c.as_slice.result.now c.as_slice-2.result.now (c.as_slice.ensures.value ∙ c.in_ok-seats.ensures)
    (subst (IsChain (started_in told.run.case.tree.now told.run.case.assigned.now told.plan.now) (work_in told.plan.now)) (sym c.as_slice-2.ensures.value) c.in_ok-chain.ensures.chain)
    (subst (IsListed (length told.plan.now.timings)) (sym c.as_slice-2.ensures.value) c.in_ok-chain.ensures.listed) (string_bytes text) lines)
    c.timed_text.ensures
