use Rattle.waff_inputs.proofs.Refusals.{accepted_is_not_refused}
use Rattle.waff_inputs.proofs.unique.accepted_is_not_refused.Goals as goal

pub returns : goal.returns
returns c = record { none = accepted_is_not_refused }
