use Rattle.waff_core.proofs.Arrival.{all_done_is_serial}
use Rattle.waff_core.proofs.laws.all_done_is_serial.Goals as goal

pub returns : goal.returns
returns c = all_done_is_serial
