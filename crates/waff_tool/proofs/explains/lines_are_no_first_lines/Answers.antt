use Rattle.waff_tool.proofs.ExplainedLines.{lines_are_no_first_lines}
use Rattle.waff_tool.proofs.explains.lines_are_no_first_lines.Goals as goal

pub returns : goal.returns
returns c = lines_are_no_first_lines
