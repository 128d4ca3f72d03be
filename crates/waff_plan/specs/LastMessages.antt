-- The last message of each client so far.
use Rattle.std.specs.Prelude.{◌≡◌, ◌≢◌, ℕ, zero, suc, List, Option, Some, None}
use Rattle.std.specs.Borrow.{Bor}
use Rattle.std.specs.HashMap as hash
use Rattle.std.specs.Str.{bytes_eq}
use Rattle.waff_model.specs.Messages.{no_client}
use Rattle.waff_plan.specs.Clients.{last_of}

-- the message with this number, where 0 is none
abbrev pub some_number : ℕ → Option ℕ
some_number zero = None
some_number (suc n) = Some (suc n)

-- for each client the last of the first n messages that is of it, where there is one
abbrev pub AreLast : {S : Type 0} → List (List ℕ) → ℕ → hash.HashMap (Bor (List ℕ)) ℕ S → Type 0
AreLast clients n last =
    (client : List ℕ) → client ≢ no_client
    → hash.get_by (λ name. bytes_eq client name.now) last
    ≡ some_number (last_of clients client n)
