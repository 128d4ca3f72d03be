use Rattle.waff_core.proofs.StatusLaws.{each_has_one_status}
use Rattle.waff_core.proofs.StatusLemmas.{shows_what_it_has}
use Rattle.waff_core.proofs.laws.each_has_one_status.Goals as goal

pub returns-clause-one : goal.returns-clause-one
returns-clause-one c = each_has_one_status

pub returns-clause-shown : goal.returns-clause-shown
returns-clause-shown c = shows_what_it_has
