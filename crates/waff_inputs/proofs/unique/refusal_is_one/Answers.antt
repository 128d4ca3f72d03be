use Rattle.waff_inputs.proofs.Refusals.{one_refusal}
use Rattle.waff_inputs.specs.Inputs.{files_of}
use Rattle.waff_inputs.proofs.unique.refusal_is_one.Goals as goal

pub returns : goal.returns
returns c = record { equal = λ hierarchy_file trace_file. one_refusal (files_of hierarchy_file trace_file) }
