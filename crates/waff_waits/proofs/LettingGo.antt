-- Those that wait for a message that has finished are let go, one after another.
use Rattle.std.proofs.Common.{◌≡◌, ℕ, ◌-◌, List, [], ◌∷◌, ◌++◌, length, set, Contains, arith, ap, sym, ◌∙◌, subst, get_or-set_same, length-set}
use Rattle.std.specs.List.Sorted.{IsPermutation}
use Rattle.std.proofs.Math.Seq.{set-set}
use Rattle.waff_model.specs.Numbers.{IsAmongFirst}
use Rattle.waff_waits.specs.Times.{AreEach}
use Rattle.waff_waits.specs.Waits.{IsFree, LetsGo, WaitsForNone, WhoWaits, waiting_for}
use Rattle.waff_waits.proofs.Each.{contains_first, contains_more}
use Rattle.waff_waits.proofs.Waiting.{bound_gone, free_gone}

-- of those that waited for a message at first these are left
abbrev pub IsGoing : WhoWaits → ℕ → List ℕ → WhoWaits → Type 0
IsGoing first m rest now = (now ≡ record { awaited = set first.awaited (m - 1) rest; finished = first.finished })
    × ((d : ℕ) → Contains rest d → Contains (waiting_for first m) d)

module _ (first now new : WhoWaits) (m d : ℕ) (rest : List ℕ) (number : IsAmongFirst (length first.awaited) m) (h : IsGoing first m rest now) (goes : LetsGo now m d new) where
  here : waiting_for now m ≡ rest
  here = ap (λ (u : WhoWaits). waiting_for u m) h.0 ∙ get_or-set_same first.awaited (m - 1) rest [] (omega (arith, number.from, number.to))

  pub going_number : IsAmongFirst (length now.awaited) m
  going_number =
      let same : length now.awaited ≡ length first.awaited = ap (λ (u : WhoWaits). length u.awaited) h.0 ∙ length-set first.awaited (m - 1) rest in
      record { from = number.from; to = omega (arith, number.to, same) }

  all : rest ≡ d ∷ goes.rest
  all = sym here ∙ goes.first

  pub going_next : IsGoing first m goes.rest new
  going_next = (
    goes.gone ∙ ap (λ (u : WhoWaits). let v : WhoWaits = record { awaited = set u.awaited (m - 1) goes.rest; finished = u.finished } in v) h.0
        ∙ ap (λ xs. let v : WhoWaits = record { awaited = xs; finished = first.finished } in v) (set-set first.awaited (m - 1) rest goes.rest),
    λ x there. h.1 x (subst (λ xs. Contains xs x) (sym all) (contains_more d x goes.rest there)),
  )

  pub it_waited : Contains (waiting_for first m) d
  it_waited = h.1 d (subst (λ xs. Contains xs d) (sym all) (contains_first d goes.rest))

  -- those that are free, where it waits for nothing now, and where it waits still
  module _ (entered order ready : List ℕ) (there : Contains entered d) (each : AreEach (IsFree entered now) (order ++ ready)) where
    pub going_free : (after : List ℕ) → IsPermutation (d ∷ ready) after → WaitsForNone new d → AreEach (IsFree entered new) (order ++ after)
    going_free after pushed none =
        subst (λ (u : WhoWaits). AreEach (IsFree entered u) (order ++ after)) (sym goes.gone)
        (free_gone entered now m d going_number there goes.rest goes.first order ready each after pushed (subst (λ (u : WhoWaits). WaitsForNone u d) goes.gone none))

    pub going_bound : (WaitsForNone new d → ⊥) → AreEach (IsFree entered new) (order ++ ready)
    going_bound bound =
        subst (λ (u : WhoWaits). AreEach (IsFree entered u) (order ++ ready)) (sym goes.gone)
        (bound_gone entered now m d going_number there goes.rest goes.first order ready each
        (λ none. bound (subst (λ (u : WhoWaits). WaitsForNone u d) (sym goes.gone) none)))
