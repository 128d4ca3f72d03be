-- What the calls at the end of a board tell.
use Rattle.std.specs.Prelude.{◌≡◌, ℕ, ◌+◌, ◌≤◌, Bool, false, List, [], ◌∷◌, ◌++◌, length}
use Rattle.waff_core.specs.Job.{IsIn}
use Rattle.waff_board.specs.Seats.{has_seen, HasSeen}
use Rattle.waff_board.specs.declared.closing.CloseError.{CloseError}
use Rattle.waff_board.specs.declared.closing.CloseError.TheVariants.{Unfinished, Memory}
use Rattle.waff_board.specs.declared.view.View.{View}

-- these answers of looks at messages n, n + 1 and so on
abbrev pub looks_from : ℕ → List Bool → List (ℕ × Bool)
looks_from n [] = []
looks_from n (answer ∷ answers) = (n, answer) ∷ looks_from (n + 1) answers

-- `looks` has one more for each of the first k messages, in order, and nothing else changes
abbrev pub LookedUpTo : ℕ → View → View → Type 0
LookedUpTo k v w =
    (answers : List Bool) × (length answers ≡ k)
    × (w ≡ record v { looks = v.looks ++ looks_from 1 answers })

-- a look at each message, in order
abbrev pub LookedOver : View → View → Type 0
LookedOver v w = LookedUpTo (length v.job.ops) v w

-- the view has seen that all messages are done
abbrev pub SeesAll : View → Type 0
SeesAll v = (n : ℕ) → IsIn v.job n → HasSeen v n

-- the view has not seen that message n is done
pub record IsUnseen (v : View) (n : ℕ) : Type 0 where
  pub is_in : IsIn v.job n
  pub unseen : has_seen v n ≡ false

-- the least message that the view has not seen done
pub record IsLeastUnseen (v : View) (n : ℕ) : Type 0 where
  pub unseen : IsUnseen v n
  pub least : (m : ℕ) → IsUnseen v m → n ≤ m

-- why a close gives no state: a message that the view has not seen done, or memory
abbrev pub Refuses : View → CloseError → Type 0
Refuses v (Unfinished message) = IsUnseen v message
Refuses v Memory = Unit {0}
