use Rattle.std.proofs.Common.{◌≡◌, ◌≤◌, length}
use denote.Shadow.{shadow}
use denote.Text.{Utf8}
use Rattle.waff_model.specs.declared.limits.TheConstants.{MAX_AWAITED}
use Rattle.waff_parse.specs.Walks.{with_front}
use Rattle.waff_read.specs.Places.{behind, place_at}
use Rattle.waff_read.specs.Plain.{IsPlain, records_in}
use Rattle.waff_read.specs.Traces.{messages_at}
use Rattle.waff_read.proofs.plain.read_plain.Given as goal

abbrev pub invariant-loop-rest : goal.invariant-loop-rest
invariant-loop-rest l =
    shadow (Utf8 l.rest) × IsPlain l.rest × (l.place ≡ behind (place_at l.at) l.list.items) × (l.place.awaited ≤ MAX_AWAITED)
    × (with_front l.list.items (messages_at l.version l.spaces l.place (records_in l.rest)) ≡ messages_at l.version l.spaces (place_at l.at) (records_in l.initial.rest))

abbrev pub decreases-loop-rest : goal.decreases-loop-rest
decreases-loop-rest l = length (records_in l.rest)
