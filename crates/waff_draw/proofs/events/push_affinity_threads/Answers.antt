use Rattle.std.proofs.Common.{◌+◌, ◌++◌, ℕ, string_bytes, arith, ◌∙◌, ap}
use Rattle.waff_draw.specs.Events.{affinity_thread, thread_text}
use Rattle.waff_draw.specs.Scene.{lanes_in}
use Rattle.waff_draw.proofs.TextLemmas.{more_from}
use Rattle.waff_draw.proofs.events.push_affinity_threads.Goals as goal

pub loop-row-preserved : goal.loop-row-preserved
loop-row-preserved c =
    let row = c.loop-row.row in
    let scene = c.args.chart.now in
    let before = string_bytes c.loop-row.text in
    more_from (affinity_thread scene.instance.tree (lanes_in scene)) 0 row row (string_bytes c.args.text.now)
    before (string_bytes c.push_thread.new.text) (omega arith) c.loop-row.invariant
    (c.in_ok-push_thread.ensures ∙ ap (λ (n : ℕ). before ++ thread_text 1 (n + 1) c.lane_name.result.now) c.from.ensures
    ∙ ap (λ name. before ++ thread_text 1 (row + 1) name) c.lane_name.ensures)
