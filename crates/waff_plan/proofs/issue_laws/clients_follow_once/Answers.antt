use Rattle.waff_plan.proofs.ClientLemmas.{client_follows_once}
use Rattle.waff_plan.proofs.issue_laws.clients_follow_once.Goals as goal

pub returns : goal.returns
returns c = client_follows_once
