use Rattle.waff_run.proofs.Lying.{no_common_file, no_file_of_both}
use Rattle.waff_run.proofs.laws.files_are_apart.Goals as goal

pub returns-clause-affinities : goal.returns-clause-affinities
returns-clause-affinities c = λ layout bytes. no_common_file layout bytes

pub returns-clause-messages : goal.returns-clause-messages
returns-clause-messages c = λ layout bytes. no_file_of_both layout bytes
