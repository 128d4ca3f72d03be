use Rattle.std.proofs.Common.{◌≡◌, List, length, arith, sym, ◌∙◌, ap, subst}
use Rattle.waff_model.specs.declared.message.Version.{Version}
use Rattle.waff_plan.specs.Timetable.{AreTimings}
use Rattle.waff_plan.specs.declared.timing.Timing.{Timing}
use Rattle.waff_plan.proofs.TimingLemmas.{length-timings_of}
use Rattle.waff_plan.proofs.timetable.Plan.of_starts.Goals as goal

pub new-requires : goal.new-requires
new-requires c =
    let each = c.in_ok-timings.ensures.each in
    let items = c.in_ok-starts.ensures.items in
    let count : length c.in_ok-timings.timings.items ≡ length c.args.trace.now.messages
    = ap length each ∙ length-timings_of c.args.trace.now.messages in
    record {
      lengths = ap length items ∙ c.requires.lengths ∙ sym count;
      few = omega (arith, count, c.timings.ensures.few);
      timings = subst (λ (v : Version). AreTimings v c.in_ok-timings.timings.items) (sym c.version.ensures)
          (subst (λ (ts : List Timing). AreTimings c.args.trace.now.version ts) (sym each) c.timings.ensures.are);
      printable = rw items c.requires.printable;
    }
