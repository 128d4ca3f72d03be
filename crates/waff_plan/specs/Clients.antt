-- What messages follow by their clients: each message the one before it of its client.
use Rattle.std.specs.Prelude.{◌≡◌, ◌≢◌, ℕ, zero, suc, ◌-◌, ◌<◌, ◌≤◌, ◌↔◌, List, length}
use Rattle.std.specs.Prelude.{slice_index_or, if◌then◌else◌}
use Rattle.std.specs.Str.{bytes_eq}
use Rattle.waff_model.specs.Messages.{no_client}
use Rattle.waff_plan.specs.Work.{Work, IsAwaited}

-- the client of message n, from 1, by the list of the clients of all messages
abbrev pub client_of : List (List ℕ) → ℕ → List ℕ
client_of clients n = slice_index_or clients (n - 1) no_client

-- the last of the first n messages that is of this client, 0 where none is
abbrev pub last_of : List (List ℕ) → List ℕ → ℕ → ℕ
last_of clients client zero = 0
last_of clients client (suc n) =
    if bytes_eq (client_of clients (suc n)) client then suc n else last_of clients client n

-- the message before message m of its client, 0 where there is none
abbrev pub one_before : List (List ℕ) → ℕ → ℕ
one_before clients m =
    if bytes_eq (client_of clients m) no_client then 0
    else last_of clients (client_of clients m) (m - 1)

-- message i is the one before message m of its client: both are of the same client, and no message
-- between them is
pub record IsTheOneBefore (clients : List (List ℕ)) (i m : ℕ) : Type 0 where
  pub from : 1 ≤ i
  pub earlier : i < m
  pub to : m ≤ length clients
  pub some : client_of clients m ≢ no_client
  pub same : client_of clients i ≡ client_of clients m
  pub last : (n : ℕ) → i < n → n < m → client_of clients n ≢ client_of clients m

-- each message awaits the one before it of its client, where there is one, and no other
pub record AwaitsClients (clients : List (List ℕ)) (work : Work) : Type 0 where
  pub count : work.count ≡ length clients
  pub awaits : (i m : ℕ) → IsAwaited (work.awaits m) i ↔ IsTheOneBefore clients i m
