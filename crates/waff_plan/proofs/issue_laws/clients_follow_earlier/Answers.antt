use Rattle.waff_plan.proofs.ClientLemmas.{client_follows_earlier}
use Rattle.waff_plan.proofs.issue_laws.clients_follow_earlier.Goals as goal

pub returns : goal.returns
returns c = client_follows_earlier
