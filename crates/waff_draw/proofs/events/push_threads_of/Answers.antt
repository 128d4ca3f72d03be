use Rattle.std.proofs.Common.{string_bytes}
use Rattle.waff_draw.specs.Events.{worker_thread}
use Rattle.waff_draw.proofs.TextLemmas.{more_numbers}
use Rattle.waff_draw.proofs.events.push_threads_of.Goals as goal

pub loop-worker-preserved : goal.loop-worker-preserved
loop-worker-preserved c =
    more_numbers (worker_thread c.args.first) c.loop-worker.worker (string_bytes c.args.text.now) (string_bytes c.loop-worker.text)
    (string_bytes c.push_worker_thread.new.text) c.loop-worker.auto.worker c.loop-worker.invariant c.in_ok-push_worker_thread.ensures
