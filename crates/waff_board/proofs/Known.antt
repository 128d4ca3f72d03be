-- What is known of the states that the core machine reaches, as the steps of the board need it.
use Rattle.std.proofs.Common.{◌||◌, ◌≡◌, inl, inr, ⊎_elim, ℕ, zero, suc, ◌+◌, ◌-◌, ◌<◌, ◌≤◌, true, false, true≢false, List, [], ◌∷◌, Some, length, slice_get, eqb, refl, ap, sym, ◌∙◌, subst, arith}
use Rattle.std.specs.List.{list_any}
use Rattle.std.proofs.lemmas.Bool.{cases_order, eq-eqb}
use Rattle.std.proofs.Math.Bool.{or-true}
use Rattle.std.proofs.lemmas.Option.{none-some, same_Some}
use Rattle.std.proofs.lemmas.Map.Steps.{le-length_from_below}
use Rattle.waff_assign.proofs.Knowing.{owner_known}
use Rattle.waff_order.specs.Needs.{IsNeed}
use Rattle.waff_cells.specs.Meaning.{meaning}
use Rattle.waff_cells.specs.Serial.{SameParcel, ops_of, serial}
use Rattle.waff_core.specs.Job.{JobValue, IsJob, IsIn, IsOrder, IsOwner, RunsAbove}
use Rattle.waff_core.specs.Machine.{Core, IsClear, Runs, opening, phase_of}
use Rattle.waff_core.specs.declared.actors.Event.{Event}
use Rattle.waff_core.specs.declared.actors.Phase.TheVariants.{Running}
use Rattle.waff_core.specs.Laws.{MayRun}
use Rattle.waff_core.proofs.Arrival.{above_owner, all_done_is_serial, begins_settled, draws_are_few}
use Rattle.waff_core.proofs.Listing.{cell_listed}
use Rattle.waff_core.proofs.OrderLength.{order_is_short}
use Rattle.waff_core.proofs.Phases.{Has}
use Rattle.waff_core.proofs.Sound.{Sound, sound_reached, drawn_is_in}
use Rattle.waff_core.proofs.Settling.{ordered_at_one}
use Rattle.waff_core.proofs.Clearings.{needs_are_enough}

-- what is known of a state
pub record Known (job : JobValue) (seats : ℕ) (core : Core) : Type 0 where
  pub drawn : core.drawn ≤ length job.ops + seats
  pub alone : (x y m : ℕ) → Has core.phases x m → Has core.phases y m → x ≡ y
  pub within : (x m : ℕ) → Has core.phases x m → IsIn job m
  pub undone : (x m : ℕ) → Has core.phases x m → core.done m ≡ false
  pub clear : (x m : ℕ) → phase_of core.phases x ≡ Some (Running m) → IsClear job core m
  pub affinity : (x m a : ℕ) → Has core.phases x m → IsOwner job.layout.spaces (ops_of job.ops m) a → a < length job.layout.tree
  pub enough : (m : ℕ) → ((i : ℕ) → IsNeed job.needs i m → core.done i ≡ true) → IsClear job core m
  -- of two messages that an actor each holds or runs and that are clear, none shares an owner with the other
  pub apart : (x y m n a : ℕ) → Has core.phases x m → Has core.phases y n → IsClear job core m → IsClear job core n
      → IsOwner job.layout.spaces (ops_of job.ops m) a → IsOwner job.layout.spaces (ops_of job.ops n) a → m ≡ n
  pub before : (x m a : ℕ) → Has core.phases x m → IsClear job core m → IsOwner job.layout.spaces (ops_of job.ops m) a
      → SameParcel job.layout.spaces a core.cells (serial job.ops (m - 1))
  pub after : (x m a : ℕ) → Has core.phases x m → IsClear job core m → IsOwner job.layout.spaces (ops_of job.ops m) a
      → SameParcel job.layout.spaces a (meaning (ops_of job.ops m) core.cells) (serial job.ops m)
  pub finished : ((n : ℕ) → IsIn job n → core.done n ≡ true)
      → (a : ℕ) → SameParcel job.layout.spaces a core.cells (serial job.ops (length job.ops))

-- an order has as many places as there are messages
module _ (needs : List (List ℕ)) (order : List ℕ) (h : IsOrder needs order) where
  any_at : (xs : List ℕ) (k q : ℕ) → slice_get xs k ≡ Some q → list_any (eqb q) xs ≡ true
  any_at [] k q is = absurd (none-some q is)
  any_at (x ∷ xs) zero q is = subst (λ y. (eqb q y || list_any (eqb q) xs) ≡ true) (sym (same_Some x q is))
      (ap (λ b. b || list_any (eqb q) xs) (eq-eqb q q refl))
  any_at (x ∷ xs) (suc k) q is = ap (λ b. eqb q x || b) (any_at xs k q is) ∙ or-true (eqb q x)

  each_there : (q : ℕ) → q < length needs + 1 → list_any (eqb q) (0 ∷ order) ≡ true
  each_there zero within = refl
  each_there (suc q) within =
      let at = h.each (suc q) (omega arith) (omega (arith, within)) in
      any_at (0 ∷ order) (suc at.0) (suc q) at.1

  pub order_is_whole : length order ≡ length needs
  order_is_whole =
      let many : length needs + 1 ≤ length (0 ∷ order) = le-length_from_below (0 ∷ order) (length needs + 1) each_there in
      let few = order_is_short needs order h in
      omega (arith, many, few)

module _ (job : JobValue) (is : IsJob job) (core : Core) (sound : Sound job core) where
  in_job : (x m : ℕ) → Has core.phases x m → IsIn job m
  in_job x m has = drawn_is_in job is core.drawn m (sound.held x m has)

  above : (x m a : ℕ) → Has core.phases x m → IsOwner job.layout.spaces (ops_of job.ops m) a
      → RunsAbove job m a
  above x m a has owner = above_owner job is m a (in_job x m has) owner

  -- an earlier message of one owner is done
  earlier_done : (x y m n a : ℕ) → Has core.phases x m → Has core.phases y n → m < n → IsClear job core n
      → IsOwner job.layout.spaces (ops_of job.ops m) a → IsOwner job.layout.spaces (ops_of job.ops n) a → ⊥
  earlier_done x y m n a has other order clear one two =
      let done : core.done m ≡ true
      = clear m (ordered_at_one job is a m n (in_job x m has).from order (in_job y n other).to (above x m a has one) (above y n a other two)) in
      true≢false (sym done ∙ sound.undone x m has)

  one_message : (x y m n a : ℕ) → Has core.phases x m → Has core.phases y n → IsClear job core m → IsClear job core n
      → IsOwner job.layout.spaces (ops_of job.ops m) a → IsOwner job.layout.spaces (ops_of job.ops n) a → m ≡ n
  one_message x y m n a has other clear_m clear_n one two = ⊎_elim {C = m ≡ n}
      (λ (same : m ≡ n). same)
      (⊎_elim {C = m ≡ n}
      (λ (before : m < n). absurd (earlier_done x y m n a has other before clear_n one two))
      (λ (after : n < m). absurd (earlier_done y x n m a other has after clear_m two one)))
      (cases_order m n)

-- each state that is reached is known
pub known : (job : JobValue) → IsJob job → (seats : ℕ) (events : List Event) (core : Core) → Runs job (opening seats) events core
    → Known job seats core
known job is seats events core runs =
    let sound : Sound job core = sound_reached job is seats events core runs in
    record {
      drawn = draws_are_few job is seats core (events, runs);
      alone = sound.alone;
      within = in_job job is core sound;
      undone = sound.undone;
      clear = sound.running_clear;
      affinity = λ x m a has owner.
          subst (λ b. b < length job.layout.tree) owner.owned (owner_known job.layout is.layout owner.cell
          (cell_listed job is m (in_job job is core sound x m has) owner.cell owner.named));
      enough = needs_are_enough job is core sound;
      apart = one_message job is core sound;
      before = λ x m a has clear owner. (begins_settled job is seats core (events, runs) x m (may_run x m has clear) a owner).0;
      after = λ x m a has clear owner. (begins_settled job is seats core (events, runs) x m (may_run x m has clear) a owner).1;
      finished = λ done a cell is_cell owned. all_done_is_serial job is seats core (events, runs) done cell is_cell;
    }
  where
    may_run : (x m : ℕ) → Has core.phases x m → IsClear job core m → MayRun job core x m
    may_run x m (inl holds) clear = inl (holds, clear)
    may_run x m (inr runs) clear = inr runs

-- a message stands at each place of the order below the number of messages, and none past it
pub order_count : (job : JobValue) → IsJob job → length job.order ≡ length job.ops
order_count job is = order_is_whole job.needs job.order is.order ∙ is.needs.count ∙ is.count
