-- The names of clients.
use Rattle.std.specs.Prelude.{ℕ, List, codes}

-- the name that stands where a message is of no client
abbrev pub no_client : List ℕ
no_client = codes "-"
