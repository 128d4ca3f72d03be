-- What was found of the words says of one way how messages are to be run.
use Rattle.std.proofs.Common.{◌≡◌, ◌∙◌, ℕ, List, Option, Some, None, sym}
use Rattle.std.proofs.lemmas.Option.{same_Some}
use Rattle.clap.specs.Words.{Row}
use Rattle.waff_cli.specs.Unique.{RunIsOne}

pub run_is_one : (found : Option (List ℕ × List Row)) → RunIsOne found
run_is_one None words other p q = absurd p
run_is_one (Some command) words other p q =
    let one = p.1 in
    let two = q.1 in
    record {
      folder = same_Some _ _ (one.folder ∙ sym two.folder);
      trace = one.trace ∙ sym two.trace;
      workers = same_Some _ _ (one.workers ∙ sym two.workers);
      cell = one.cell ∙ sym two.cell;
      tick = one.tick ∙ sym two.tick;
      over = one.over ∙ sym two.over;
      fill = one.fill ∙ sym two.fill;
      sync_writes = one.sync_writes ∙ sym two.sync_writes;
      syncs = one.syncs ∙ sym two.syncs;
      partial = one.partial ∙ sym two.partial;
    }
