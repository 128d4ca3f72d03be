use Rattle.waff_plan.proofs.TimingLemmas.{timings_await}
use Rattle.waff_plan.proofs.issue_laws.traces_await.Goals as goal

pub returns : goal.returns
returns c = timings_await
