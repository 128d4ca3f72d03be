-- The versions of traces, and the limits that go by them.
use Rattle.std.specs.Prelude.{ℕ, Bool, true, false}
use Rattle.waff_model.specs.declared.limits.TheConstants.{MAX_EARLIER_MESSAGES, MAX_EARLIER_OPS}
use Rattle.waff_model.specs.declared.limits.TheConstants.{MAX_MESSAGES, MAX_OPS}
use Rattle.waff_model.specs.declared.message.Version.{Version}
use Rattle.waff_model.specs.declared.message.Version.TheVariants.{V1, V2, V3, V4}

-- the number of a version
abbrev pub number : Version → ℕ
number V1 = 1
number V2 = 2
number V3 = 3
number V4 = 4

-- from the second version on messages have releases
abbrev pub has_releases : Version → Bool
has_releases V1 = false
has_releases V2 = true
has_releases V3 = true
has_releases V4 = true

-- from the third version on messages have clients
abbrev pub has_clients : Version → Bool
has_clients V1 = false
has_clients V2 = false
has_clients V3 = true
has_clients V4 = true

-- the fourth version has lists of messages that are awaited
abbrev pub has_after : Version → Bool
has_after V1 = false
has_after V2 = false
has_after V3 = false
has_after V4 = true

-- how many messages a trace may have
abbrev pub max_messages : Version → ℕ
max_messages V1 = MAX_EARLIER_MESSAGES
max_messages V2 = MAX_EARLIER_MESSAGES
max_messages V3 = MAX_MESSAGES
max_messages V4 = MAX_MESSAGES

-- how many operations a message may have
abbrev pub max_ops : Version → ℕ
max_ops V1 = MAX_EARLIER_OPS
max_ops V2 = MAX_EARLIER_OPS
max_ops V3 = MAX_OPS
max_ops V4 = MAX_OPS
