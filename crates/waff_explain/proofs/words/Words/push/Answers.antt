use Rattle.std.proofs.Common.{is_ok}
use Rattle.waff_explain.proofs.LineLaws.{lines-push}
use Rattle.waff_explain.proofs.words.Words.push.Goals as goal

pub invariant_of-self : goal.invariant_of-self
invariant_of-self c = rw c.push_str.ensures.bytes (lines-push (is_ok c.push_str.result) _ _ c.self.invariant c.requires)
