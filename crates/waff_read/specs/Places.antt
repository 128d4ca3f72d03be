-- The places of the records of messages.
use Rattle.std.specs.Prelude.{ℕ, ◌+◌, ◌-◌, List, [], ◌∷◌, length, nat_le, if◌then◌else◌}
use Rattle.waff_model.specs.Versions.{max_ops}
use Rattle.waff_model.specs.declared.limits.TheConstants.{MAX_ALL_OPS, MAX_AWAITED}
use Rattle.waff_model.specs.declared.message.Message.{Message}
use Rattle.waff_model.specs.declared.message.Version.{Version}
use Rattle.waff_read.specs.declared.place.Place.{Place}

-- the place of the record of this number, before which no operation and no message that is awaited counts
abbrev pub place_at : ℕ → Place
place_at at = record { at = at; ops = 0; awaited = 0 }

-- the place behind the header, which is record 1
abbrev pub first_place : Place
first_place = place_at 2

-- the place behind the record of a message
abbrev pub next_place : Place → Message → Place
next_place place message = record {
  at = place.at + 1;
  ops = place.ops + length message.ops;
  awaited = place.awaited + length message.after;
}

-- the place behind the records of messages
unfoldable pub behind : Place → List Message → Place
behind place [] = place
behind place (message ∷ more) = behind (next_place place message) more

-- the lesser of two numbers
abbrev pub lesser : ℕ → ℕ → ℕ
lesser a b = if nat_le a b then a else b

-- how many operations a message may have, so that there are not too many of all messages
abbrev pub most_ops : Version → Place → ℕ
most_ops version place = lesser (max_ops version) (MAX_ALL_OPS - place.ops)

-- how many messages a message may await, so that there are not too many in all lists
abbrev pub most_awaited : Place → ℕ
most_awaited place = MAX_AWAITED - place.awaited
