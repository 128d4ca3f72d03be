use Rattle.waff_plan.proofs.TimingLemmas.{timings_follow_clients}
use Rattle.waff_plan.proofs.issue_laws.traces_follow_clients.Goals as goal

pub returns : goal.returns
returns c = timings_follow_clients
