-- Work in nanoseconds has the messages of the work in ticks.
use Rattle.std.proofs.Common.{◌≡◌, ℕ, inl, inr, List, [], ◌∷◌, map, get_or, refl, ap, sym, subst}
use Rattle.waff_waits.specs.Waits.{AreWaits, WhoWaits}
use Rattle.waff_waits.proofs.Each.{map_same}
use Rattle.waff_plan.specs.Awaiting.{AreAwaiting, awaited_by}
use Rattle.waff_plan.specs.Obeys.{AwaitsEarlier, AwaitsNone}
use Rattle.waff_plan.specs.Work.{Await, Work, IsAwaited, numbers}
use Rattle.waff_line.specs.Scaled.{awaits_scaled, scaled}

-- what is awaited is so in nanoseconds, and what is so in nanoseconds is awaited
pub awaited_scaled : (tick i : ℕ) (awaits : List Await) → IsAwaited awaits i → IsAwaited (awaits_scaled tick awaits) i
awaited_scaled tick i [] never = never
awaited_scaled tick i (a ∷ rest) (inl same) = inl same
awaited_scaled tick i (a ∷ rest) (inr awaited) = inr (awaited_scaled tick i rest awaited)

pub scaled_awaited : (tick i : ℕ) (awaits : List Await) → IsAwaited (awaits_scaled tick awaits) i → IsAwaited awaits i
scaled_awaited tick i [] never = never
scaled_awaited tick i (a ∷ rest) (inl same) = inl same
scaled_awaited tick i (a ∷ rest) (inr awaited) = inr (scaled_awaited tick i rest awaited)

messages_scaled : (tick : ℕ) (awaits : List Await) → map (λ (a : Await). a.message) (awaits_scaled tick awaits) ≡ map (λ (a : Await). a.message) awaits
messages_scaled tick [] = refl
messages_scaled tick (a ∷ rest) = ap (λ xs. a.message ∷ xs) (messages_scaled tick rest)

module _ (tick : ℕ) (work : Work) where
  pub earlier_scaled : AwaitsEarlier work → AwaitsEarlier (scaled tick work)
  earlier_scaled earlier i m awaited =
      let before = earlier i m (scaled_awaited tick i (work.awaits m) awaited) in
      record { from = before.from; earlier = before.earlier; to = before.to }

  -- where no message awaits another, none does so in nanoseconds
  pub none_scaled : AwaitsNone work → AwaitsNone (scaled tick work)
  none_scaled none m = ap (awaits_scaled tick) (none m)

  same_awaited : awaited_by (scaled tick work) ≡ awaited_by work
  same_awaited =
      map_same (λ m. map (λ (a : Await). a.message) (awaits_scaled tick (work.awaits m))) (λ m. map (λ (a : Await). a.message) (work.awaits m)) (numbers work)
      (λ k d within. messages_scaled tick (work.awaits (get_or (numbers work) k d)))

  -- who waits for whom is the same
  pub awaiting_scaled : (taken : List ℕ) (w : WhoWaits) → AreAwaiting work taken w → AreAwaiting (scaled tick work) taken w
  awaiting_scaled taken w are = record {
    waits = subst (λ needs. AreWaits (numbers work) needs w) (sym same_awaited) are.waits;
    marks = are.marks;
  }
