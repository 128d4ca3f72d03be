use Rattle.std.proofs.Common.{◌≡◌, ◌≤◌, length}
use Rattle.waff_model.specs.declared.limits.TheConstants.{MAX_AWAITED}
use Rattle.waff_parse.specs.Rows.{Reads, records_left}
use Rattle.waff_parse.specs.Walks.{with_front}
use Rattle.waff_read.specs.Places.{behind, place_at}
use Rattle.waff_read.specs.Traces.{messages_at}
use Rattle.waff_read.proofs.trace.read_messages.Given as goal

abbrev pub invariant-loop-list : goal.invariant-loop-list
invariant-loop-list l = record {
  reads : Reads l.rdr;
  place : l.place ≡ behind (place_at l.at) l.list.items;
  awaited : l.place.awaited ≤ MAX_AWAITED;
  messages : with_front l.list.items (messages_at l.version l.spaces l.place (records_left l.rdr))
      ≡ messages_at l.version l.spaces (place_at l.at) (records_left l.initial.rdr);
}

abbrev pub decreases-loop-list : goal.decreases-loop-list
decreases-loop-list l = length (records_left l.rdr)
