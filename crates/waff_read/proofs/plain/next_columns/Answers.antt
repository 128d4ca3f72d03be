-- The fields of a line, one after the other.
use Rattle.waff_read.proofs.PlainLaws.{fields_are_row}
use Rattle.waff_read.proofs.plain.next_columns.Goals as goal

pub returns : goal.returns
returns c =
    fields_are_row c.args.version c.args.text.now _ c.in_ok-ops.rest.now (record {
      behind_name = c.in_ok-name.rest.now;
      behind_cost = c.in_ok-cost.rest.now;
      behind_release = c.in_ok-release.rest.now;
      behind_client = c.in_ok-client.rest.now;
      behind_think = c.in_ok-think.rest.now;
      behind_after = c.in_ok-after.rest.now;
      name = c.in_ok-name.ensures;
      cost = c.in_ok-cost.ensures;
      release = rw c.has_releases.ensures at c.in_ok-release.ensures.field;
      client = rw c.has_clients.ensures at c.in_ok-client.ensures.field;
      think = rw c.has_clients-2.ensures at c.in_ok-think.ensures.field;
      after = rw c.has_after.ensures at c.in_ok-after.ensures.field;
      ops = c.in_ok-ops.ensures;
    })
