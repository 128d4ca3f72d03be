use Rattle.std.proofs.Common.{◌≡◌, ◌≤◌, ℕ, List, length, replicate, All, arith, sym, ◌∙◌, ap, subst}
use Rattle.std.proofs.lemmas.List.{length-replicate}
use Rattle.std.proofs.lemmas.List.Elements.{All-replicate}
use Rattle.waff_model.specs.declared.limits.TheConstants.{MAX_TICK}
use Rattle.waff_model.specs.declared.message.Version.{Version}
use Rattle.waff_plan.specs.Timetable.{AreTimings}
use Rattle.waff_plan.specs.declared.timing.Timing.{Timing}
use Rattle.waff_plan.proofs.TimingLemmas.{length-timings_of}
use Rattle.waff_plan.proofs.timetable.Plan.unstarted.Goals as goal

pub new-requires : goal.new-requires
new-requires c =
    let each = c.in_ok-timings.ensures.each in
    let none = c.in_ok-starts.ensures.none in
    let count : length c.in_ok-timings.timings.items ≡ length c.args.trace.now.messages
    = ap length each ∙ length-timings_of c.args.trace.now.messages in
    let long : length (replicate {A = ℕ} c.len.result 0) ≡ c.len.result = length-replicate {A = ℕ} c.len.result 0 in
    record {
      lengths = omega (arith, ap length none, long, c.len.ensures);
      few = omega (arith, count, c.timings.ensures.few);
      timings = subst (λ (v : Version). AreTimings v c.in_ok-timings.timings.items) (sym c.version.ensures)
          (subst (λ (ts : List Timing). AreTimings c.args.trace.now.version ts) (sym each) c.timings.ensures.are);
      printable = subst (λ (xs : List ℕ). All (λ start. start ≤ MAX_TICK) xs) (sym none) (All-replicate (λ start. start ≤ MAX_TICK) c.len.result 0 (omega arith));
    }
