-- Figures of turns, one turn after another.
use Rattle.std.proofs.Common.{◌≡◌, ℕ, ◌+◌, ◌-◌, ◌<◌, max, Bool, nat_lt, if◌then◌else◌, inl, inr, List, length, map, take, get_or, arith, refl, ◌∙◌, ap}
use Rattle.std.proofs.lemmas.Bool.{cases_Bool}
use Rattle.std.proofs.lemmas.List.{map_push, take_more}
use Rattle.std.proofs.lemmas.List.Recursion.{max_push}
use Rattle.std.proofs.lemmas.List.Sums.{count_by_more_no, count_by_more_yes}
use Rattle.waff_plan.specs.Work.{greatest}
use Rattle.waff_line.specs.declared.turn.Turn.{Turn}
use Rattle.waff_record.specs.Drift.{last_finish, short_turns}
use Rattle.waff_record.specs.Turns.{no_turn}

-- the greatest finish with one more turn
pub last_more : (turns : List Turn) (at : ℕ) → at < length turns
    → last_finish (take (at + 1) turns) ≡ max (last_finish (take at turns)) (get_or turns at no_turn).finish
last_more turns at within =
    ap last_finish (take_more turns at no_turn within)
    ∙ (ap greatest (map_push (λ (turn : Turn). turn.finish) (take at turns) (get_or turns at no_turn))
    ∙ max_push greatest (λ x. x) refl (λ _ _. refl) (map (λ (turn : Turn). turn.finish) (take at turns)) (get_or turns at no_turn).finish)

-- whether a turn is shorter than a tick
abbrev is_short : ℕ → Turn → Bool
is_short tick turn = nat_lt (turn.finish - turn.start) tick

-- how many are shorter than a tick, with one more turn
pub short_more : (tick : ℕ) (turns : List Turn) (at one : ℕ) → at < length turns → one ≡ (if is_short tick (get_or turns at no_turn) then 1 else 0)
    → short_turns tick (take (at + 1) turns) ≡ short_turns tick (take at turns) + one
short_more tick turns at one within is = elim (cases_Bool (is_short tick (get_or turns at no_turn))) [
  | inl is_yes ↦
      let here : one ≡ 1 = is ∙ ap (λ (b : Bool). if b then 1 else 0) is_yes in
      let more = count_by_more_yes (is_short tick) turns at no_turn within is_yes in
      omega (arith, here, more)
  | inr is_no ↦
      let here : one ≡ 0 = is ∙ ap (λ (b : Bool). if b then 1 else 0) is_no in
      let more = count_by_more_no (is_short tick) turns at no_turn within is_no in
      omega (arith, here, more)
]
