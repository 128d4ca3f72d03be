use Rattle.std.proofs.Common.{◌≡◌, ℕ, ◌++◌, List, Option, Some, flat_map, length, string_bytes, sym, ◌∙◌, ap}
use Rattle.std.specs.List.{range_with_len}
use Rattle.waff_draw.specs.Events.{worker_thread, worker_threads, workers_start}
use Rattle.waff_draw.specs.Scene.{lanes_in}
use Rattle.waff_draw.proofs.TextLemmas.{behind}
use Rattle.waff_draw.proofs.events.push_worker_threads.Goals as goal

pub returns-in_ok-push_threads_of : goal.returns-in_ok-push_threads_of
returns-in_ok-push_threads_of c =
    let first = length (lanes_in c.args.chart.now) in
    let before = string_bytes c.args.text.now in
    let threads : ℕ → List ℕ = λ n. flat_map (worker_thread n) (range_with_len 1 c.in-Some.k) in
    let told : c.args.chart.now.plan.summary.workers ≡ Some c.in-Some.k = sym c.workers.ensures.workers ∙ c.in-Some.is in
    behind before (string_bytes c.push_str.new.self) (string_bytes c.push_threads_of.new.text) workers_start (threads c.lane_count.result)
    c.in_ok-push_str.ensures.bytes c.in_ok-push_threads_of.ensures
    ∙ ap (λ n. before ++ (workers_start ++ threads n)) c.lane_count.ensures.count
    ∙ ap (λ (w : Option ℕ). before ++ worker_threads first w) (sym told)
