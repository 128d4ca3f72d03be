use Rattle.waff_list.proofs.TailLemmas.{needs_share_tails, paths_share_tails}
use Rattle.waff_list.proofs.tail_laws.needs_have_the_same_tails.Goals as goal

pub returns : goal.returns
returns c = record { pairs = needs_share_tails; paths = paths_share_tails }
