-- A board opens with the rule.
use Rattle.std.proofs.Common.{◌≡◌, ℕ, zero, suc, ◌+◌, ◌<◌, ◌≤◌, true, false, true≢false, List, [], ◌∷◌, Some, length, map, replicate, slice_get, slice_index, refl, ap, sym, ◌∙◌, subst, arith}
use Rattle.std.proofs.lemmas.List.{length-replicate}
use Rattle.std.proofs.lemmas.Option.{none-some, same_Some}
use mathlib.Core.Option.{some, some-injective, some-ne-none}
use lib.ListN.{get_elem?}
use Rattle.atomic_table.specs.Table.{opening as table_opening}
use Rattle.waff_model.specs.Layout.{Space}
use Rattle.waff_model.proofs.ParcelLemmas.{offset_within}
use Rattle.waff_cells.specs.Serial.{zeros}
use Rattle.waff_core.specs.Job.{JobValue}
use Rattle.waff_core.specs.Machine.{Core, Runs, opening, phase_of}
use Rattle.waff_core.specs.declared.actors.Event.{Event}
use Rattle.waff_core.specs.declared.actors.Event.TheVariants.{Draw, Begin, End}
use Rattle.waff_core.specs.declared.actors.Phase.TheVariants.{Free, Drawn, Running}
use Rattle.waff_core.proofs.Phases.{phase_opening, phase_free}
use Rattle.waff_model.specs.Parcel.{parcel_size, offset_of}
use Rattle.waff_cells.specs.Parcel.{IsParcel}
use Rattle.waff_board.specs.Shows.{Words, Slots}
use Rattle.waff_board.specs.Seats.{Seats, Shown, first}
use Rattle.waff_board.specs.Rule.{Holds, IsSetup}
use Rattle.waff_board.specs.declared.view.Setup.{Setup}
use Rattle.waff_board.specs.declared.view.View.{View}
use Rattle.waff_board.proofs.Listed.{listed_first}
use Rattle.waff_board.proofs.Splits.{shown_fresh}

none_run : (seats y n : ℕ) → phase_of (opening seats).phases y ≡ Some (Running n) → ⊥
none_run seats y n runs = let free : Running n ≡ Free = phase_opening seats y (Running n) runs in cc

at_zeros : (n k : ℕ) → slice_index (replicate n 0) k ≡ 0
at_zeros zero k = refl
at_zeros (suc n) zero = refl
at_zeros (suc n) (suc k) = at_zeros n k

words_opening : (job : JobValue) (seats : ℕ) → Words job (opening seats) (replicate (length job.ops + 1) 0)
words_opening job seats = record {
  count = length-replicate (length job.ops + 1) 0;
  draws = at_zeros (length job.ops + 1) 0;
  statuses = λ n within.
      let word : slice_index (replicate (length job.ops + 1) 0) n ≡ 0 = at_zeros (length job.ops + 1) n in
      record {
        done = ((λ two. absurd (omega (arith, word, two))), (λ done. absurd (true≢false (sym done))));
        running = ((λ one. absurd (omega (arith, word, one))), (λ run. absurd (none_run seats run.actor n run.running)));
        known = omega (arith, word);
      };
}

-- the numbers at a place of a list of parcels
there : {S : Type 0} (items : S → List ℕ) (xs : List S) (a : ℕ) (numbers : List ℕ) → slice_get (map items xs) a ≡ Some numbers
    → (y : S) × (get_elem? (map some xs) a ≡ some (some y)) × (items y ≡ numbers)
there items [] a numbers is = absurd (none-some numbers is)
there items (x ∷ xs) zero numbers is = (x, refl, same_Some (items x) numbers is)
there items (x ∷ xs) (suc a) numbers is = there items xs a numbers is

-- zeros are the parcel of the cells at the start
zero_parcel : (spaces : List Space) (a : ℕ) → IsParcel spaces a zeros (replicate (parcel_size spaces a) 0)
zero_parcel spaces a = record {
  count = length-replicate (parcel_size spaces a) 0;
  each = λ cell is_cell owned. zero_at (parcel_size spaces a) (offset_of spaces cell) (subst (λ b. offset_of spaces cell < parcel_size spaces b) owned (offset_within spaces cell is_cell));
}
  where
    zero_at : (n k : ℕ) → k < n → slice_get {X = ℕ} (replicate n 0) k ≡ Some 0
    zero_at zero k within = absurd (omega (arith, within))
    zero_at (suc n) zero within = refl
    zero_at (suc n) (suc k) within = zero_at n k (omega (arith, within))

-- each affinity's parcel is one of zeros
abbrev pub AreZeros : JobValue → List (List ℕ) → Type 0
AreZeros job parcels = (length parcels ≡ length job.layout.tree)
    × ((a : ℕ) → a < length job.layout.tree → slice_get parcels a ≡ Some (replicate (parcel_size job.layout.spaces a) 0))

module _ (setup : Setup) (told : IsSetup setup) (some_seat : 1 ≤ setup.seats) where
  only : (id : ℕ) (v : View) → get_elem? (first setup ∷ []) id ≡ some v → (id ≡ 0) × (first setup ≡ v)
  only zero v at = (refl, some-injective (first setup) v at)
  only (suc id) v at = absurd (some-ne-none v (sym at))

  seats_opening : Seats setup (opening setup.seats) (first setup ∷ [])
  seats_opening = record {
    each = λ id v at. subst (λ (v : View). Shown setup.job (opening setup.seats) v) (only id v at).1
        (shown_fresh setup.job (opening setup.seats) 1 1 (phase_free setup.seats 1 (omega arith) some_seat));
    actors = λ id v at.
        let place = (only id v at).0 in
        let actor : 1 ≡ v.actor = ap (λ (v : View). v.actor) (only id v at).1 in
        omega (arith, place, actor);
    draws = listed_first (λ (u : View). u.draws) (λ p. p < 0) (first setup) refl (λ p is. omega (arith, is));
    ran = listed_first (λ (u : View). u.ran) (λ m. false ≡ true) (first setup) refl (λ m is. true≢false (sym is));
    made = λ v at. sym (ap (λ (v : View). v.made) (only 0 v at).1);
    few = omega (arith, some_seat);
    free = λ x past to. phase_free setup.seats x (omega (arith, past)) to;
  }

  slots_opening : {S : Type 0} (items : S → List ℕ) (xs : List S) → AreZeros setup.job (map items xs)
      → Slots items setup.job (opening setup.seats) (map some xs)
  slots_opening {S = S} items xs empty = record {
    count = length_both xs ∙ empty.0;
    home = λ a within not_away.
        let slot = there items xs a (replicate (parcel_size setup.job.layout.spaces a) 0) (empty.1 a within) in (
          slot.0,
          slot.1,
          subst (λ numbers. IsParcel setup.job.layout.spaces a zeros numbers) (sym slot.2)
              (zero_parcel setup.job.layout.spaces a),
        );
    away = λ a away. absurd (none_run setup.seats away.actor away.message away.running);
  }
    where
      length_both : (ys : List S) → length (map some ys) ≡ length (map items ys)
      length_both [] = refl
      length_both (y ∷ ys) = ap suc (length_both ys)

  pub opens : {S : Type 0} (items : S → List ℕ) (words : List ℕ) (xs : List S) → words ≡ replicate (length setup.job.ops + 1) 0
      → AreZeros setup.job (map items xs) → Holds items setup (table_opening words xs (first setup))
  opens items words xs blank empty = record {
    told = told;
    events = [];
    core = opening setup.seats;
    reached = refl;
    words = subst (λ ws. Words setup.job (opening setup.seats) ws) (sym blank) (words_opening setup.job setup.seats);
    slots = slots_opening items xs empty;
    seats = seats_opening;
  }

-- events draw no number back
drawn_grows : (job : JobValue) (s t : Core) (events : List Event) → Runs job s events t → s.drawn ≤ t.drawn
drawn_grows job s t [] runs = let same : s.drawn ≡ t.drawn = ap (λ (u : Core). u.drawn) runs in omega (arith, same)
drawn_grows job s t (Draw x ∷ events) (u, step, rest) =
    let more : u.drawn ≡ s.drawn + 1 = ap (λ (r : Core). r.drawn) step.1 in
    let grows = drawn_grows job u t events rest in omega (arith, more, grows)
drawn_grows job s t (Begin x ∷ events) (u, (m, holds, clear, is), rest) =
    let same : u.drawn ≡ s.drawn = ap (λ (r : Core). r.drawn) is in
    let grows = drawn_grows job u t events rest in omega (arith, same, grows)
drawn_grows job s t (End x ∷ events) (u, (m, running, is), rest) =
    let same : u.drawn ≡ s.drawn = ap (λ (r : Core). r.drawn) is in
    let grows = drawn_grows job u t events rest in omega (arith, same, grows)

-- a state that is reached without a draw is the one at the opening
pub undrawn_opening : (job : JobValue) (seats : ℕ) (events : List Event) (core : Core) → Runs job (opening seats) events core
    → core.drawn ≡ 0 → core ≡ opening seats
undrawn_opening job seats [] core runs none = sym runs
undrawn_opening job seats (Draw x ∷ events) core (u, step, rest) none =
    let more : u.drawn ≡ 1 = ap (λ (r : Core). r.drawn) step.1 in
    let grows = drawn_grows job u core events rest in absurd (omega (arith, more, grows, none))
undrawn_opening job seats (Begin x ∷ events) core (u, (m, holds, clear, is), rest) none =
    let free : Drawn m ≡ Free = phase_opening seats x (Drawn m) holds in absurd (cc)
undrawn_opening job seats (End x ∷ events) core (u, (m, running, is), rest) none =
    let free : Running m ≡ Free = phase_opening seats x (Running m) running in absurd (cc)
