-- The marks of parcels that are home, one actor after another.
use Rattle.std.proofs.Common.{◌≡◌, ◌≢◌, ◌⊎◌, ℕ, zero, suc, ◌+◌, ◌<◌, ◌≤◌, Bool, true, false, List, length, get_or, set, Contains, Some, slice_get, inl, inr, arith, sym, ◌∙◌, subst, ⊎_elim}
use Rattle.std.proofs.lemmas.Bool.{cases_eq, cases_Bool, true≢false}
use Rattle.std.proofs.lemmas.List.{get_or-set_same, get_or-set_other, get_or_default}
use Rattle.std.proofs.lemmas.List.Elements.{Contains-get_or}
use Rattle.std.proofs.lemmas.Option.{same_Some, slice_get_within}
use Rattle.waff_cells.specs.Serial.{ops_of}
use Rattle.waff_core.specs.Job.{JobValue, IsJob, IsIn, IsOwner, owners_of}
use Rattle.waff_core.specs.Machine.{Core, IsAway, phase_of}
use Rattle.waff_core.specs.Shown.{AreHome, IsSteady, is_home}
use Rattle.waff_core.specs.declared.actors.Phase.{Phase}
use Rattle.waff_core.specs.declared.actors.Phase.TheVariants.{Free, Drawn, Running, Ended}

-- the parcels of the first k of these owners are marked as away, beside those that were
pub record AreLent (before : List Bool) (owners : List ℕ) (after : List Bool) (k : ℕ) : Type 0 where
  pub lent : (i : ℕ) → i < k → is_home after (get_or owners i 0) ≡ false
  pub kept : (a : ℕ) → is_home before a ≡ false → is_home after a ≡ false
  pub others : (a : ℕ) → is_home after a ≡ false → (is_home before a ≡ false) ⊎ Contains owners a

pub lent_none : (before : List Bool) (owners : List ℕ) → AreLent before owners before 0
lent_none before owners = record { lent = λ i none. absurd (omega arith); kept = λ a h. h; others = λ a h. inl h }

pub lent_more : (before : List Bool) (owners : List ℕ) (after : List Bool) (k : ℕ) → k < length owners → get_or owners k 0 < length after
    → AreLent before owners after k → AreLent before owners (set after (get_or owners k 0) false) (k + 1)
lent_more before owners after k short within h =
    let own = get_or owners k 0 in
    let here : is_home (set after own false) own ≡ false = get_or-set_same after own false true within in
    let stays = λ (a : ℕ) (away : is_home after a ≡ false).
    ⊎_elim {C = is_home (set after own false) a ≡ false}
    (λ (same : a ≡ own). subst (λ b. is_home (set after own false) b ≡ false) (sym same) here)
    (λ (other : a ≢ own). get_or-set_other after own a false true other ∙ away)
    (cases_eq a own) in
    record {
      lent = λ i below.
          ⊎_elim {C = is_home (set after own false) (get_or owners i 0) ≡ false}
          (λ (last : i ≡ k). subst (λ j. is_home (set after own false) (get_or owners j 0) ≡ false) (sym last) here)
          (λ (other : i ≢ k). stays (get_or owners i 0) (h.lent i (omega arith)))
          (cases_eq i k);
      kept = λ a away. stays a (h.kept a away);
      others = λ a away.
          ⊎_elim {C = (is_home before a ≡ false) ⊎ Contains owners a}
          (λ (same : a ≡ own). inr (subst (Contains owners) (sym same) (Contains-get_or owners k 0 short)))
          (λ (other : a ≢ own). h.others a (sym (get_or-set_other after own a false true other) ∙ away))
          (cases_eq a own);
    }

pub lent_all : (before : List Bool) (owners : List ℕ) (after : List Bool) (k : ℕ) → length owners ≤ k → AreLent before owners after k
    → (a : ℕ) → Contains owners a → is_home after a ≡ false
lent_all before owners after k whole h a has =
    let default : get_or owners has.0 0 ≡ a = get_or_default owners has.0 0 a has.1 ∙ has.2 in
    subst (λ b. is_home after b ≡ false) default (h.lent has.0 (omega (arith, has.1, whole)))

-- the marks after the first k actors
pub record AreHomeUpTo (job : JobValue) (s : Core) (home : List Bool) (k : ℕ) : Type 0 where
  pub count : length home ≡ length job.layout.tree
  pub away : (a : ℕ) → is_home home a ≡ false → IsAway job s a
  pub marked : (a x m : ℕ) → x ≤ k → phase_of s.phases x ≡ Some (Running m) → IsOwner job.layout.spaces (ops_of job.ops m) a → is_home home a ≡ false

-- an actor that runs no message
pub home_idle : (job : JobValue) (s : Core) (home : List Bool) (k : ℕ) (phase : Phase) → slice_get s.phases k ≡ Some phase
    → ((m : ℕ) → phase ≡ Running m → ⊥) → AreHomeUpTo job s home k → AreHomeUpTo job s home (k + 1)
home_idle job s home k phase at idle h = record {
  count = h.count;
  away = h.away;
  marked = λ a x m short running owner.
      ⊎_elim {C = is_home home a ≡ false}
      (λ (last : x ≡ k + 1).
      let next : k + 1 ≡ suc k = omega arith in
      let there : slice_get s.phases k ≡ Some (Running m) = subst (λ y. phase_of s.phases y ≡ Some (Running m)) (last ∙ next) running in
      absurd (idle m (same_Some phase (Running m) (sym at ∙ there))))
      (λ (other : x ≢ k + 1). h.marked a x m (omega (arith, short)) running owner)
      (cases_eq x (k + 1));
}

-- an actor that runs a message
pub home_runs : (job : JobValue) → IsJob job → (s : Core) (home after : List Bool) (k m : ℕ) → IsIn job m → slice_get s.phases k ≡ Some (Running m)
    → length after ≡ length home → ((a : ℕ) → Contains (owners_of job.owners m) a → is_home after a ≡ false)
    → ((a : ℕ) → is_home home a ≡ false → is_home after a ≡ false)
    → ((a : ℕ) → is_home after a ≡ false → (is_home home a ≡ false) ⊎ Contains (owners_of job.owners m) a)
    → AreHomeUpTo job s home k → AreHomeUpTo job s after (k + 1)
home_runs job is s home after k m inside at count lent kept others h =
    let next : suc k ≡ k + 1 = omega arith in
    let here : phase_of s.phases (k + 1) ≡ Some (Running m) = subst (λ y. phase_of s.phases y ≡ Some (Running m)) next at in
    record {
      count = count ∙ h.count;
      away = λ a no'.
          ⊎_elim {C = IsAway job s a}
          (λ (before : is_home home a ≡ false). h.away a before)
          (λ (has : Contains (owners_of job.owners m) a).
          let away : IsAway job s a = record { actor = k + 1; message = m; running = here; owner = ((is.owners m inside).each a).0 has } in away)
          (others a no');
      marked = λ a x n short running owner.
          ⊎_elim {C = is_home after a ≡ false}
          (λ (last : x ≡ k + 1).
          let there : Running n ≡ Running m = same_Some (Running n) (Running m) (sym (subst (λ y. phase_of s.phases y ≡ Some (Running n)) last running) ∙ here) in
          let same : n ≡ m = cc in
          lent a (((is.owners m inside).each a).1 (subst (λ j. IsOwner job.layout.spaces (ops_of job.ops j) a) same owner)))
          (λ (other : x ≢ k + 1). kept a (h.marked a x n (omega (arith, short)) running owner))
          (cases_eq x (k + 1));
    }

pub home_all : (job : JobValue) (s : Core) (home : List Bool) (k : ℕ) → length s.phases ≤ k → AreHomeUpTo job s home k → AreHome job s home
home_all job s home k whole h a = (
  λ yes' away.
      let within : away.actor ≤ k = actor_within away.actor away.message away.running in
      true≢false (sym yes' ∙ h.marked a away.actor away.message within away.running away.owner),
  λ not_away.
      ⊎_elim {C = is_home home a ≡ true} (λ (yes' : is_home home a ≡ true). yes') (λ (no' : is_home home a ≡ false). absurd (not_away (h.away a no'))) (cases_Bool (is_home home a)),
)
  where
    actor_within : (x m : ℕ) → phase_of s.phases x ≡ Some (Running m) → x ≤ k
    actor_within zero m running = omega arith
    actor_within (suc x) m running = omega (arith, whole, slice_get_within s.phases x (Running m) running)

-- what an actor runs is a message of the job
pub running_in : (job : JobValue) (s : Core) → IsSteady job s → (k m : ℕ) → slice_get s.phases k ≡ Some (Running m) → IsIn job m
running_in job s steady k m at = steady.running (suc k) m at

pub not_running_free : (m : ℕ) → Free ≡ Running m → ⊥
not_running_free m same = cc

pub not_running_drawn : (n m : ℕ) → Drawn n ≡ Running m → ⊥
not_running_drawn n m same = cc

pub not_running_ended : (m : ℕ) → Ended ≡ Running m → ⊥
not_running_ended m same = cc
