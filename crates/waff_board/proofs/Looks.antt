-- A look keeps the rule.
use Rattle.std.proofs.Common.{◌≡◌, ℕ, true, List, set, slice_index, refl, sym, subst, ⊎_elim}
use Rattle.std.proofs.lemmas.List.{set-get_or}
use Rattle.atomic_table.specs.Table.{Allows, keeps}
use Rattle.waff_core.specs.Job.{JobValue, IsIn}
use Rattle.waff_core.specs.Machine.{Core}
use Rattle.waff_board.specs.Shows.{IsStatus, Words}
use Rattle.waff_board.specs.Seats.{HasSeen, Shown}
use Rattle.waff_board.specs.Rule.{Holds}
use Rattle.waff_board.specs.Plays.{looked_view}
use Rattle.waff_board.specs.declared.view.Setup.{Setup}
use Rattle.waff_board.specs.declared.view.View.{View}
use Rattle.waff_board.proofs.Seen.{look_cases}
use Rattle.waff_board.proofs.Moves.{draws_stay, ran_stays, seats_moved}

-- what is seen after a look at a status word of the state is done
seen_looked : (job : JobValue) (core : Core) (v : View) (m word : ℕ) → Shown job core v → IsStatus core m word
    → (n : ℕ) → HasSeen (looked_view v m word) n → core.done n ≡ true
seen_looked job core v m word h status n seen = ⊎_elim {C = core.done n ≡ true}
    (λ (old : HasSeen v n). h.seen n old)
    (λ (new : (m ≡ n) × (word ≡ 2)). subst (λ i. core.done i ≡ true) new.0 (status.done.0 new.1))
    (look_cases v m word n seen)

shown_looked : (job : JobValue) (core : Core) (v : View) (m word : ℕ) → Shown job core v → IsStatus core m word
    → Shown job core (looked_view v m word)
shown_looked job core v m word h status = record {
  same = h.same;
  phase = h.phase;
  seen = seen_looked job core v m word h status;
}

-- a seat may look at any message
pub looks : {S : Type 0} (items : S → List ℕ) (setup : Setup) (slots id m : ℕ) (v : View) (held : List (ℕ × S)) → IsIn setup.job m
    → Allows (Holds items setup) slots id (v, held) m (λ n. n) (λ found after. after ≡ (looked_view v m found, held))
looks {S} items setup slots id m v held is_in s h sized at small =
    let word : ℕ = slice_index s.words m in
    let mine : Shown setup.job h.core v = h.seats.each id v at in
    let same : set s.words m word ≡ s.words = set-get_or s.words m 0 in (
      looked_view v m word,
      keeps,
      tt,
      record {
        told = h.told;
        events = h.events;
        core = h.core;
        reached = h.reached;
        words = subst (Words setup.job h.core) (sym same) h.words;
        slots = h.slots;
        seats = seats_moved setup h.core h.core s.views id v (looked_view v m word) at
            (record { others = λ y other. refl; done = λ n done. done }) h.seats refl refl
            (shown_looked setup.job h.core v m word mine (h.words.statuses m is_in))
            (draws_stay setup h.core s.views id v at h.seats) (ran_stays setup h.core s.views id v at h.seats);
      },
      refl,
    )

-- by the job of the view
pub looks_at : {S : Type 0} (items : S → List ℕ) (setup : Setup) (slots id m : ℕ) (v : View) (held : List (ℕ × S)) → IsIn v.job m
    → Allows (Holds items setup) slots id (v, held) m (λ n. n) (λ found after. after ≡ (looked_view v m found, held))
looks_at items setup slots id m v held is_in s h sized at small =
    looks items setup slots id m v held (subst (λ (job : JobValue). IsIn job m) (h.seats.each id v at).same is_in) s h sized at small
