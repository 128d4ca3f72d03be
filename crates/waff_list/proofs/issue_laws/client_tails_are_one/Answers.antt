use Rattle.waff_list.proofs.IssuePlans.{client_tails_are_one}
use Rattle.waff_list.proofs.issue_laws.client_tails_are_one.Goals as goal

pub returns : goal.returns
returns c = client_tails_are_one
