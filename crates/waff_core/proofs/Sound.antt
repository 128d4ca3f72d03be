-- What holds in every state that the machine reaches.
use Rattle.std.proofs.Common.{◌≡◌, ◌≢◌, ℕ, ◌+◌, ◌<◌, ◌≤◌, ◌⊎◌, inl, inr, ◌||◌, true, false, List, [], ◌∷◌, length, Option, Some, None, slice_get, get_or, refl, ap, sym, ◌∙◌, subst, arith, ⊎_elim}
use Rattle.std.specs.Prelude.{◌==◌}
use Rattle.std.proofs.lemmas.Bool.{cases_eq, true≢false, false_from_ne_true}
use Rattle.std.proofs.lemmas.Option.{none-some, same_Some, slice_get_within, get_or_from_slice_get}
use Rattle.std.proofs.lemmas.List.{length-replicate}
use Rattle.std.proofs.lemmas.List.Elements.{All-get_or}
use Rattle.waff_core.specs.Job.{JobValue, IsJob, IsIn, StandsAt}
use Rattle.waff_core.specs.Machine.{Core, Steps, Runs, IsClear, opening, phase_of, with_phase, phase_drawn, begun_by, ended_by}
use Rattle.waff_core.specs.Settled.{CellsAreSerial}
use Rattle.waff_core.specs.declared.actors.Event.{Event}
use Rattle.waff_core.specs.declared.actors.Event.TheVariants.{Draw, Begin, End}
use Rattle.waff_core.specs.declared.actors.Phase.{Phase}
use Rattle.waff_core.specs.declared.actors.Phase.TheVariants.{Free, Drawn, Running, Ended}
use Rattle.waff_core.proofs.Phases.{Has, phase_same, has_still, ended, ended_after, phases_count, has_cases, phase_cases, phase_opening}
use Rattle.waff_core.proofs.Settling.{done_this, done_kept, done_cases, last_kept, settled_end}

-- message m was drawn: it stands at a place of the order before the next one to be drawn
abbrev pub WasDrawn : JobValue → ℕ → ℕ → Type 0
WasDrawn job drawn m = (place : ℕ) × (place < drawn) × StandsAt job.order place m

-- What was drawn is done, or an actor holds or runs it. What actors hold or run was drawn, each by one actor, and is not done. What is done was drawn, and
-- what is done or runs has all earlier messages done that exclude it. Each draw drew a message or
-- ended an actor. Each parcel is that of the state of arrival order after the last message that is
-- done and could touch it.
pub record Sound (job : JobValue) (s : Core) : Type 0 where
  pub kept : (place m : ℕ) → place < s.drawn → StandsAt job.order place m → (s.done m ≡ true) ⊎ ((x : ℕ) × Has s.phases x m)
  pub held : (x m : ℕ) → Has s.phases x m → WasDrawn job s.drawn m
  pub alone : (x y m : ℕ) → Has s.phases x m → Has s.phases y m → x ≡ y
  pub undone : (x m : ℕ) → Has s.phases x m → s.done m ≡ false
  pub over : (m : ℕ) → s.done m ≡ true → WasDrawn job s.drawn m
  pub done_clear : (m : ℕ) → s.done m ≡ true → IsClear job s m
  pub running_clear : (x m : ℕ) → phase_of s.phases x ≡ Some (Running m) → IsClear job s m
  pub draws : s.drawn ≤ length job.order + ended s.phases
  pub cells : CellsAreSerial job s

-- what was drawn stays drawn
drawn_more : (job : JobValue) (drawn m : ℕ) → WasDrawn job drawn m → WasDrawn job (drawn + 1) m
drawn_more job drawn m (place, before, is) = (place, omega arith, is)

-- what stands at the next place was not drawn
not_drawn_yet : (job : JobValue) → IsJob job → (drawn m : ℕ) → StandsAt job.order drawn m → WasDrawn job drawn m → ⊥
not_drawn_yet job is drawn m next (place, before, was) =
    let same : place ≡ drawn = is.order.once place drawn m was next in
    omega arith

-- what was drawn is a message
pub drawn_is_in : (job : JobValue) → IsJob job → (drawn m : ℕ) → WasDrawn job drawn m → IsIn job m
drawn_is_in job is drawn m (place, before, at) =
    let within : place < length job.order = slice_get_within job.order place m at in
    let value : get_or job.order place 0 ≡ m = get_or_from_slice_get job.order place m 0 at in
    let there : (1 ≤ m) × (m ≤ length job.needs)
    = subst (λ n. (1 ≤ n) × (n ≤ length job.needs)) value
    (All-get_or (λ n. (1 ≤ n) × (n ≤ length job.needs)) job.order place 0 within is.order.messages) in
    let same : length job.needs ≡ length job.assigned = is.needs.count in
    let also : length job.assigned ≡ length job.ops = is.count in
    record { from = there.0; to = omega (arith, there.1) }

nobody_has : (seats x m : ℕ) → Has (opening seats).phases x m → ⊥
nobody_has seats x m (inl is) = let free : Drawn m ≡ Free = phase_opening seats x (Drawn m) is in cc
nobody_has seats x m (inr is) = let free : Running m ≡ Free = phase_opening seats x (Running m) is in cc

pub sound_opening : (job : JobValue) (seats : ℕ) → Sound job (opening seats)
sound_opening job seats = record {
  kept = λ place m before at. absurd (omega arith);
  held = λ x m has. absurd (nobody_has seats x m has);
  alone = λ x y m has other. absurd (nobody_has seats x m has);
  undone = λ x m has. refl;
  over = λ m done. absurd (true≢false (sym done));
  done_clear = λ m done. absurd (true≢false (sym done));
  running_clear = λ x m is. absurd (nobody_has seats x m (inr is));
  draws = omega arith;
  cells = λ a. (
    0,
    record { is = λ some. absurd (omega arith); greatest = λ i at. absurd (true≢false (sym at.done)) },
    λ cell is_cell owned. refl,
  );
}

module _ (job : JobValue) (is : IsJob job) (s : Core) (x : ℕ) (sound : Sound job s) where
  -- an actor has no more than one message
  only : (m n : ℕ) → Has s.phases x m → Has s.phases x n → m ≡ n
  only m n (inl one) (inl other) = cc
  only m n (inl one) (inr other) = cc
  only m n (inr one) (inl other) = cc
  only m n (inr one) (inr other) = cc

  -- what a free actor draws leaves the messages of the others where they are
  still_kept : phase_of s.phases x ≡ Some Free → (new : Phase) (place n : ℕ) → place < s.drawn → StandsAt job.order place n
      → (s.done n ≡ true) ⊎ ((y : ℕ) × Has (with_phase s.phases x new) y n)
  still_kept free new place n before at =
      ⊎_elim {C = (s.done n ≡ true) ⊎ ((y : ℕ) × Has (with_phase s.phases x new) y n)}
      (λ (done : s.done n ≡ true). inl done)
      (λ (one : (y : ℕ) × Has s.phases y n).
      inr (one.0, has_still s.phases x one.0 Free new n free (λ same. has_none n (subst (λ z. Has s.phases z n) same one.1) free) one.1))
      (sound.kept place n before at)
    where
      has_none : (n : ℕ) → Has s.phases x n → phase_of s.phases x ≡ Some Free → ⊥
      has_none n (inl holds) is = cc
      has_none n (inr runs) is = cc

  -- a draw that finds a message
  sound_draw : (m : ℕ) → phase_of s.phases x ≡ Some Free → StandsAt job.order s.drawn m
      → Sound job (record s { drawn = s.drawn + 1; phases = with_phase s.phases x (Drawn m) })
  sound_draw m free next = record {
    kept = λ place n before at.
        ⊎_elim {C = (s.done n ≡ true) ⊎ ((y : ℕ) × Has (with_phase s.phases x (Drawn m)) y n)}
        (λ (last : place ≡ s.drawn).
        let same : m ≡ n = same_Some m n (sym next ∙ subst (λ p. slice_get job.order p ≡ Some n) last at) in
        inr (x, inl (subst (λ k. phase_of (with_phase s.phases x (Drawn m)) x ≡ Some (Drawn k)) same (phase_same s.phases x Free (Drawn m) free))))
        (λ (earlier : place ≢ s.drawn). still_kept free (Drawn m) place n (omega arith) at)
        (cases_eq place s.drawn);
    held = λ y n has.
        ⊎_elim {C = WasDrawn job (s.drawn + 1) n}
        (λ (new : (y ≡ x) × ((Drawn m ≡ Drawn n) ⊎ (Drawn m ≡ Running n))).
        (s.drawn, omega arith, subst (λ k. StandsAt job.order s.drawn k) (this n new.1) next))
        (λ (old : (y ≢ x) × Has s.phases y n). drawn_more job s.drawn n (sound.held y n old.1))
        (has_cases s.phases x y Free (Drawn m) n free has);
    alone = λ y z n has other.
        ⊎_elim {C = y ≡ z}
        (λ (new : (y ≡ x) × ((Drawn m ≡ Drawn n) ⊎ (Drawn m ≡ Running n))).
        ⊎_elim {C = y ≡ z}
        (λ (also : (z ≡ x) × ((Drawn m ≡ Drawn n) ⊎ (Drawn m ≡ Running n))). new.0 ∙ sym also.0)
        (λ (old : (z ≢ x) × Has s.phases z n). absurd (fresh n (this n new.1) (sound.held z n old.1)))
        (has_cases s.phases x z Free (Drawn m) n free other))
        (λ (old : (y ≢ x) × Has s.phases y n).
        ⊎_elim {C = y ≡ z}
        (λ (new : (z ≡ x) × ((Drawn m ≡ Drawn n) ⊎ (Drawn m ≡ Running n))). absurd (fresh n (this n new.1) (sound.held y n old.1)))
        (λ (also : (z ≢ x) × Has s.phases z n). sound.alone y z n old.1 also.1)
        (has_cases s.phases x z Free (Drawn m) n free other))
        (has_cases s.phases x y Free (Drawn m) n free has);
    undone = λ y n has.
        ⊎_elim {C = s.done n ≡ false}
        (λ (new : (y ≡ x) × ((Drawn m ≡ Drawn n) ⊎ (Drawn m ≡ Running n))).
        false_from_ne_true (s.done n) (λ done. fresh n (this n new.1) (sound.over n done)))
        (λ (old : (y ≢ x) × Has s.phases y n). sound.undone y n old.1)
        (has_cases s.phases x y Free (Drawn m) n free has);
    over = λ n done. drawn_more job s.drawn n (sound.over n done);
    done_clear = sound.done_clear;
    running_clear = λ y n running.
        ⊎_elim {C = IsClear job s n}
        (λ (new : (y ≡ x) × (Drawn m ≡ Running n)). absurd (apart new.1))
        (λ (old : (y ≢ x) × (phase_of s.phases y ≡ Some (Running n))). sound.running_clear y n old.1)
        (phase_cases s.phases x y Free (Drawn m) (Running n) free running);
    draws =
        let short : s.drawn < length job.order = slice_get_within job.order s.drawn m next in
        let same : ended (with_phase s.phases x (Drawn m)) ≡ ended s.phases + 0
        = ended_after s.phases x Free (Drawn m) free (λ same. cc) in
        omega arith;
    cells = λ a. ((sound.cells a).0, last_kept job s _ a (sound.cells a).0 (λ i. refl) (sound.cells a).1, (sound.cells a).2);
  }
    where
      apart : {n : ℕ} → Drawn m ≡ Running n → ⊥
      apart same = cc

      this : (n : ℕ) → (Drawn m ≡ Drawn n) ⊎ (Drawn m ≡ Running n) → m ≡ n
      this n (inl same) = cc
      this n (inr same) = cc

      fresh : (n : ℕ) → m ≡ n → WasDrawn job s.drawn n → ⊥
      fresh n same was = not_drawn_yet job is s.drawn n (subst (λ k. StandsAt job.order s.drawn k) same next) was

  -- a draw past the end of the order
  sound_over : phase_of s.phases x ≡ Some Free → slice_get job.order s.drawn ≡ None
      → Sound job (record s { drawn = s.drawn + 1; phases = with_phase s.phases x Ended })
  sound_over free none = record {
    kept = λ place n before at.
        ⊎_elim {C = (s.done n ≡ true) ⊎ ((y : ℕ) × Has (with_phase s.phases x Ended) y n)}
        (λ (last : place ≡ s.drawn). absurd (none-some n (sym none ∙ subst (λ p. slice_get job.order p ≡ Some n) last at)))
        (λ (earlier : place ≢ s.drawn). still_kept free Ended place n (omega arith) at)
        (cases_eq place s.drawn);
    held = λ y n has. drawn_more job s.drawn n (sound.held y n (before y n has));
    alone = λ y z n has other. sound.alone y z n (before y n has) (before z n other);
    undone = λ y n has. sound.undone y n (before y n has);
    over = λ n done. drawn_more job s.drawn n (sound.over n done);
    done_clear = sound.done_clear;
    running_clear = λ y n running.
        ⊎_elim {C = IsClear job s n}
        (λ (new : (y ≡ x) × (Ended ≡ Running n)). absurd (apart n (inr new.1)))
        (λ (old : (y ≢ x) × (phase_of s.phases y ≡ Some (Running n))). sound.running_clear y n old.1)
        (phase_cases s.phases x y Free Ended (Running n) free running);
    draws =
        let same : ended (with_phase s.phases x Ended) ≡ ended s.phases + 1
        = ended_after s.phases x Free Ended free (λ same. cc) in
        let bound = sound.draws in
        omega arith;
    cells = λ a. ((sound.cells a).0, last_kept job s _ a (sound.cells a).0 (λ i. refl) (sound.cells a).1, (sound.cells a).2);
  }
    where
      apart : (n : ℕ) → (Ended ≡ Drawn n) ⊎ (Ended ≡ Running n) → ⊥
      apart n (inl same) = cc
      apart n (inr same) = cc

      before : (y n : ℕ) → Has (with_phase s.phases x Ended) y n → Has s.phases y n
      before y n has =
          ⊎_elim {C = Has s.phases y n}
          (λ (new : (y ≡ x) × ((Ended ≡ Drawn n) ⊎ (Ended ≡ Running n))). absurd (apart n new.1))
          (λ (old : (y ≢ x) × Has s.phases y n). old.1)
          (has_cases s.phases x y Free Ended n free has)

  -- a begin of a clear message
  sound_begin : (m : ℕ) → phase_of s.phases x ≡ Some (Drawn m) → IsClear job s m → Sound job (begun_by s x m)
  sound_begin m holds clear = record {
    kept = λ place n before at.
        ⊎_elim {C = (s.done n ≡ true) ⊎ ((y : ℕ) × Has (with_phase s.phases x (Running m)) y n)}
        (λ (done : s.done n ≡ true). inl done)
        (λ (one : (y : ℕ) × Has s.phases y n).
        inr
        (⊎_elim {C = (y : ℕ) × Has (with_phase s.phases x (Running m)) y n}
        (λ (same : one.0 ≡ x).
        let this : m ≡ n = only m n (inl holds) (subst (λ z. Has s.phases z n) same one.1) in
        (x, inr (subst (λ k. phase_of (with_phase s.phases x (Running m)) x ≡ Some (Running k)) this (phase_same s.phases x (Drawn m) (Running m) holds))))
        (λ (other : one.0 ≢ x). (one.0, has_still s.phases x one.0 (Drawn m) (Running m) n holds other one.1))
        (cases_eq one.0 x)))
        (sound.kept place n before at);
    held = λ y n has. sound.held y n (before y n has);
    alone = λ y z n has other. sound.alone y z n (before y n has) (before z n other);
    undone = λ y n has. sound.undone y n (before y n has);
    over = sound.over;
    done_clear = sound.done_clear;
    running_clear = λ y n running.
        ⊎_elim {C = IsClear job s n}
        (λ (new : (y ≡ x) × (Running m ≡ Running n)). subst (λ k. IsClear job s k) (this n (inr new.1)) clear)
        (λ (old : (y ≢ x) × (phase_of s.phases y ≡ Some (Running n))). sound.running_clear y n old.1)
        (phase_cases s.phases x y (Drawn m) (Running m) (Running n) holds running);
    draws =
        let same : ended (with_phase s.phases x (Running m)) ≡ ended s.phases + 0
        = ended_after s.phases x (Drawn m) (Running m) holds (λ same. cc) in
        let bound = sound.draws in
        omega arith;
    cells = λ a. ((sound.cells a).0, last_kept job s _ a (sound.cells a).0 (λ i. refl) (sound.cells a).1, (sound.cells a).2);
  }
    where
      this : (n : ℕ) → (Running m ≡ Drawn n) ⊎ (Running m ≡ Running n) → m ≡ n
      this n (inl same) = cc
      this n (inr same) = cc

      before : (y n : ℕ) → Has (with_phase s.phases x (Running m)) y n → Has s.phases y n
      before y n has =
          ⊎_elim {C = Has s.phases y n}
          (λ (new : (y ≡ x) × ((Running m ≡ Drawn n) ⊎ (Running m ≡ Running n))).
          subst (λ k. Has s.phases y k) (this n new.1) (subst (λ z. Has s.phases z m) (sym new.0) (inl holds)))
          (λ (old : (y ≢ x) × Has s.phases y n). old.1)
          (has_cases s.phases x y (Drawn m) (Running m) n holds has)

  -- the end of a message
  sound_end : (m : ℕ) → phase_of s.phases x ≡ Some (Running m) → Sound job (ended_by job s x m)
  sound_end m runs = record {
    kept = λ place n before at.
        ⊎_elim {C = ((n == m || s.done n) ≡ true) ⊎ ((y : ℕ) × Has (with_phase s.phases x Free) y n)}
        (λ (done : s.done n ≡ true). inl (done_kept s m n done))
        (λ (one : (y : ℕ) × Has s.phases y n).
        ⊎_elim {C = ((n == m || s.done n) ≡ true) ⊎ ((y : ℕ) × Has (with_phase s.phases x Free) y n)}
        (λ (same : one.0 ≡ x).
        let this : m ≡ n = only m n (inr runs) (subst (λ z. Has s.phases z n) same one.1) in
        inl (subst (λ k. (k == m || s.done k) ≡ true) this (done_this s m)))
        (λ (other : one.0 ≢ x). inr (one.0, has_still s.phases x one.0 (Running m) Free n runs other one.1))
        (cases_eq one.0 x))
        (sound.kept place n before at);
    held = λ y n has. sound.held y n (before y n has).1;
    alone = λ y z n has other. sound.alone y z n (before y n has).1 (before z n other).1;
    undone = λ y n has.
        false_from_ne_true (n == m || s.done n)
        (λ done.
        ⊎_elim {C = ⊥}
        (λ (same : n ≡ m).
        (before y n has).0 (sound.alone y x m (subst (λ k. Has s.phases y k) same (before y n has).1) (inr runs)))
        (λ (was : s.done n ≡ true). true≢false (sym was ∙ sound.undone y n (before y n has).1))
        (done_cases s m n done));
    over = λ n done.
        ⊎_elim {C = WasDrawn job s.drawn n}
        (λ (same : n ≡ m). subst (λ k. WasDrawn job s.drawn k) (sym same) (sound.held x m (inr runs)))
        (λ (was : s.done n ≡ true). sound.over n was)
        (done_cases s m n done);
    done_clear = λ n done.
        ⊎_elim {C = IsClear job (ended_by job s x m) n}
        (λ (same : n ≡ m). subst (λ k. IsClear job (ended_by job s x m) k) (sym same) (still m clear))
        (λ (was : s.done n ≡ true). still n (sound.done_clear n was))
        (done_cases s m n done);
    running_clear = λ y n running. still n (sound.running_clear y n (running_before y n running));
    draws =
        let same : ended (with_phase s.phases x Free) ≡ ended s.phases + 0
        = ended_after s.phases x (Running m) Free runs (λ same. cc) in
        let bound = sound.draws in
        omega arith;
    cells = settled_end job is s m (drawn_is_in job is s.drawn m (sound.held x m (inr runs))) clear (sound.undone x m (inr runs)) sound.done_clear x sound.cells;
  }
    where
      clear : IsClear job s m
      clear = sound.running_clear x m runs

      still : (n : ℕ) → IsClear job s n → IsClear job (ended_by job s x m) n
      still n was = λ i ordered. done_kept s m i (was i ordered)

      apart : (n : ℕ) → (Free ≡ Drawn n) ⊎ (Free ≡ Running n) → ⊥
      apart n (inl same) = cc
      apart n (inr same) = cc

      before : (y n : ℕ) → Has (with_phase s.phases x Free) y n → (y ≢ x) × Has s.phases y n
      before y n has =
          ⊎_elim {C = (y ≢ x) × Has s.phases y n}
          (λ (new : (y ≡ x) × ((Free ≡ Drawn n) ⊎ (Free ≡ Running n))). absurd (apart n new.1))
          (λ (old : (y ≢ x) × Has s.phases y n). old)
          (has_cases s.phases x y (Running m) Free n runs has)

      running_before : (y n : ℕ) → phase_of (with_phase s.phases x Free) y ≡ Some (Running n) → phase_of s.phases y ≡ Some (Running n)
      running_before y n running =
          ⊎_elim {C = phase_of s.phases y ≡ Some (Running n)}
          (λ (new : (y ≡ x) × (Free ≡ Running n)). absurd (apart n (inr new.1)))
          (λ (old : (y ≢ x) × (phase_of s.phases y ≡ Some (Running n))). old.1)
          (phase_cases s.phases x y (Running m) Free (Running n) runs running)

  -- a draw
  sound_drawn : (found : Option ℕ) → slice_get job.order s.drawn ≡ found → phase_of s.phases x ≡ Some Free
      → Sound job (record s { drawn = s.drawn + 1; phases = with_phase s.phases x (phase_drawn found) })
  sound_drawn (Some m) next free = sound_draw m free next
  sound_drawn None none free = sound_over free none

-- each step keeps it
pub sound_step : (job : JobValue) → IsJob job → (s : Core) (event : Event) (t : Core) → Sound job s → Steps job s event t → Sound job t
sound_step job is s (Draw x) t sound step =
    subst (λ u. Sound job u) (sym step.1) (sound_drawn job is s x sound (slice_get job.order s.drawn) refl step.0)
sound_step job is s (Begin x) t sound step =
    subst (λ u. Sound job u) (sym step.3) (sound_begin job is s x sound step.0 step.1 step.2)
sound_step job is s (End x) t sound step =
    subst (λ u. Sound job u) (sym step.2) (sound_end job is s x sound step.0 step.1)

-- each step keeps the number of actors
step_seats : (job : JobValue) (s : Core) (event : Event) (t : Core) → Steps job s event t → length t.phases ≡ length s.phases
step_seats job s (Draw x) t step =
    ap (λ u. length u.phases) step.1 ∙ phases_count s.phases x (phase_drawn (slice_get job.order s.drawn))
step_seats job s (Begin x) t step = ap (λ u. length u.phases) step.3 ∙ phases_count s.phases x (Running step.0)
step_seats job s (End x) t step = ap (λ u. length u.phases) step.2 ∙ phases_count s.phases x Free

runs_seats : (job : JobValue) (s : Core) (events : List Event) (t : Core) → Runs job s events t → length t.phases ≡ length s.phases
runs_seats job s [] t same = ap (λ u. length u.phases) (sym same)
runs_seats job s (event ∷ events) t (u, step, rest) = runs_seats job u events t rest ∙ step_seats job s event u step

-- so there are always as many as at the opening
pub seats_stay : (job : JobValue) (seats : ℕ) (events : List Event) (s : Core) → Runs job (opening seats) events s → length s.phases ≡ seats
seats_stay job seats events s runs = runs_seats job (opening seats) events s runs ∙ length-replicate seats Free

-- so each list of events keeps it
pub sound_runs : (job : JobValue) → IsJob job → (s : Core) (events : List Event) (t : Core) → Sound job s → Runs job s events t → Sound job t
sound_runs job is s [] t sound same = subst (λ u. Sound job u) same sound
sound_runs job is s (event ∷ events) t sound (u, step, rest) = sound_runs job is u events t (sound_step job is s event u sound step) rest

-- and it holds in every state that the machine reaches
pub sound_reached : (job : JobValue) → IsJob job → (seats : ℕ) (events : List Event) (s : Core) → Runs job (opening seats) events s → Sound job s
sound_reached job is seats events s = sound_runs job is (opening seats) events s (sound_opening job seats)
