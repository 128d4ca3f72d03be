use Rattle.waff_cli.proofs.Rows.{command_is}
use Rattle.waff_cli.proofs.found.command_in.Goals as goal

pub returns : goal.returns
returns c = command_is c.args.matches.now c.subcommand.result c.subcommand.ensures.name c.subcommand.ensures.rows
