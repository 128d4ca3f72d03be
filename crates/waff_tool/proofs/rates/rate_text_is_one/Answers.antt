use Rattle.waff_tool.proofs.RateLaws.{rate_text_is_one}
use Rattle.waff_tool.proofs.rates.rate_text_is_one.Goals as goal

pub returns : goal.returns
returns c = record { equal = rate_text_is_one }
