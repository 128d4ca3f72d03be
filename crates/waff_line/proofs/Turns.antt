-- The turns of messages, and what a change of one of them leaves.
use Rattle.std.proofs.Common.{◌≡◌, ◌≢◌, ℕ, zero, suc, ◌-◌, ◌≤◌, inl, inr, length, replicate, refl, ap, sym, ◌∙◌, arith}
use Rattle.std.proofs.Math.ListN.{length-replicate, length-set}
use Rattle.std.proofs.lemmas.Bool.{cases_lt, false≢true}
use Rattle.std.proofs.lemmas.List.{get_or-replicate, get_or-set_other, get_or-set_same, get_or_past}
use Rattle.waff_plan.specs.Work.{IsAmongFirst}
use Rattle.waff_line.specs.Machine.{Course, State, Turn, HasBegun, HasEnded, no_turn, opening, turn_of, with_turn}

-- the message whose turn changes has the new one
pub turn_same : (s : State) (n : ℕ) (turn : Turn) → IsAmongFirst (length s.turns) n → turn_of (with_turn s n turn) n ≡ turn
turn_same s zero turn number = absurd (omega (arith, number.from))
turn_same s (suc k) turn number =
    let at : suc k - 1 ≡ k = omega arith in
    rw at (get_or-set_same s.turns k turn no_turn (omega (arith, number.to)))

-- the others keep theirs
pub turn_other : (s : State) (n m : ℕ) (turn : Turn) → 1 ≤ n → m ≢ n → turn_of (with_turn s n turn) m ≡ turn_of s m
turn_other s zero m turn from other = absurd (omega (arith, from))
turn_other s (suc k) zero turn from other = refl
turn_other s (suc k) (suc j) turn from other =
    let at : suc k - 1 ≡ k = omega arith in
    rw at (get_or-set_other s.turns k j turn no_turn (λ same. other (ap suc same)))

-- there are as many
pub turns_as_many : (s : State) (n : ℕ) (turn : Turn) → length (with_turn s n turn).turns ≡ length s.turns
turns_as_many s n turn = length-set s.turns (n - 1) turn

-- a message that has begun is one of them
pub begun_number : (s : State) (n : ℕ) → HasBegun s n → IsAmongFirst (length s.turns) n
begun_number s zero begun = absurd (omega (arith, begun))
begun_number s (suc k) begun = elim (cases_lt k (length s.turns)) [
  | inl within ↦ record { from = omega arith; to = omega (arith, within) }
  | inr past ↦
      let none = ap (λ (turn : Turn). turn.worker) (get_or_past s.turns k no_turn past) in
      absurd (omega (arith, begun, none))
]

-- at the opening no message has begun
pub turn_opening : (course : Course) (n : ℕ) → turn_of (opening course) n ≡ no_turn
turn_opening course zero = refl
turn_opening course (suc k) = elim (cases_lt k course.work.count) [
  | inl within ↦ get_or-replicate course.work.count k no_turn no_turn within
  | inr past ↦ get_or_past (replicate course.work.count no_turn) k no_turn (omega (arith, past, length-replicate course.work.count no_turn))
]

pub none_begun : (course : Course) (n : ℕ) → HasBegun (opening course) n → ⊥
none_begun course n begun = omega (arith, begun, ap (λ (turn : Turn). turn.worker) (turn_opening course n))

pub none_ended : (course : Course) (n : ℕ) → HasEnded (opening course) n → ⊥
none_ended course n ended = false≢true (sym (ap (λ (turn : Turn). turn.ended) (turn_opening course n)) ∙ ended)
