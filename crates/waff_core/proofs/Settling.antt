-- The cells of the machine: each parcel is that of the state of arrival order after the last message that is done and could touch it,
-- and the end of a message keeps that.
use Rattle.std.proofs.Common.{◌≡◌, ◌≢◌, ℕ, zero, suc, ◌+◌, ◌-◌, ◌<◌, ◌≤◌, ◌⊎◌, inl, inr, ◌||◌, true, false, List, [], length, All, Option, Some, None, Contains, slice_index_or, refl, ap, sym, ◌∙◌, subst, arith, ⊎_elim}
use Rattle.std.specs.Prelude.{◌==◌}
use Rattle.std.proofs.lemmas.Bool.{cases_eq, cases_order, eq-eqb, eqb-true, or_cases, or_left, or_right, true≢false}
use Rattle.std.proofs.lemmas.List.Elements.{All-contains, All-get_or}
use Rattle.std.proofs.lemmas.Option.{same_Some}
use Rattle.waff_model.specs.Cells.{cells_of}
use Rattle.waff_model.specs.Layout.{IsCell, owner_of}
use Rattle.waff_model.specs.Tree.{Node, parent_of, AtOrAbove, IsRooted}
use Rattle.waff_model.specs.declared.cell.Cell.{Cell}
use Rattle.waff_model.specs.declared.op.Op.{Op}
use Rattle.waff_model.proofs.TreeLemmas.{reflexive, above_child, above_parent, above_root, comparable}
use Rattle.waff_assign.specs.Held.{ExcludeEachOther}
use Rattle.waff_assign.specs.Order.{IsOrdered, affinity_of, held_of}
use Rattle.waff_assign.proofs.Holding.{affinities_do, affinity_unlocked}
use Rattle.waff_cells.specs.Meaning.{Cells, meaning}
use Rattle.waff_cells.specs.Serial.{SameParcel, ops_of, serial}
use Rattle.waff_cells.proofs.MeaningLaws.{meaning_agree, leaves_parcel}
use Rattle.waff_core.specs.Job.{JobValue, IsIn, IsJob, RunsAbove}
use Rattle.waff_core.specs.Machine.{Core, IsClear, ended_by}
use Rattle.waff_core.specs.Settled.{IsDoneAbove, IsLast, CellsAreSerial}
use Rattle.waff_core.proofs.Listing.{cell_listed}

-- an affinity is at or above another, or it is not: the climb from the other decides it
decide_from : (tree : List Node) (a b : ℕ) (parent : Option ℕ) → parent_of tree b ≡ parent → a ≢ b
    → ((p : ℕ) → parent ≡ Some p → AtOrAbove tree a p ⊎ ¬ AtOrAbove tree a p)
    → AtOrAbove tree a b ⊎ ¬ AtOrAbove tree a b
decide_from tree a b None none other by_parent = inr (λ above. other (above_root tree a b none above))
decide_from tree a b (Some p) is other by_parent =
    ⊎_elim {C = AtOrAbove tree a b ⊎ ¬ AtOrAbove tree a b}
    (λ (above : AtOrAbove tree a p). inl (above_child tree a b p is above))
    (λ (apart : ¬ AtOrAbove tree a p). inr (λ above. apart (above_parent tree a b p other is above)))
    (by_parent p refl)

decide_by : (tree : List Node) → IsRooted tree → (n a b : ℕ) → b < n → AtOrAbove tree a b ⊎ ¬ AtOrAbove tree a b
decide_by tree rooted zero a b short = absurd (omega arith)
decide_by tree rooted (suc n) a b short =
    ⊎_elim {C = AtOrAbove tree a b ⊎ ¬ AtOrAbove tree a b}
    (λ (same : a ≡ b). inl (subst (λ x. AtOrAbove tree a x) same (reflexive tree a)))
    (λ (other : a ≢ b).
    decide_from tree a b (parent_of tree b) refl other
    (λ p is. let up : p < b = rooted.earlier b p is in decide_by tree rooted n a p (omega arith)))
    (cases_eq a b)

pub decide_above : (tree : List Node) → IsRooted tree → (a b : ℕ) → AtOrAbove tree a b ⊎ ¬ AtOrAbove tree a b
decide_above tree rooted a b = decide_by tree rooted (b + 1) a b (omega arith)

-- what is done after the end of message m: it, and what was done before
pub done_this : (s : Core) (m : ℕ) → (m == m || s.done m) ≡ true
done_this s m = or_left (m == m) (s.done m) (eq-eqb m m refl)

pub done_kept : (s : Core) (m n : ℕ) → s.done n ≡ true → (n == m || s.done n) ≡ true
done_kept s m n is = or_right (n == m) (s.done n) is

pub done_cases : (s : Core) (m n : ℕ) → (n == m || s.done n) ≡ true → (n ≡ m) ⊎ (s.done n ≡ true)
done_cases s m n is =
    ⊎_elim {C = (n ≡ m) ⊎ (s.done n ≡ true)}
    (λ (h : (n == m) ≡ true). inl (eqb-true n m h))
    (λ (h : s.done n ≡ true). inr h)
    (or_cases (n == m) (s.done n) is)

-- with the same messages done, the last one stays
pub last_kept : (job : JobValue) (s t : Core) (a last : ℕ) → ((i : ℕ) → s.done i ≡ t.done i) → IsLast job s a last → IsLast job t a last
last_kept job s t a last same is = record {
  is = λ some.
      let at = is.is some in
      record { from = at.from; to = at.to; done = sym (same last) ∙ at.done; above = at.above };
  greatest = λ i at. is.greatest i (record { from = at.from; to = at.to; done = same i ∙ at.done; above = at.above });
}

-- the state after one more message
serial_next : (ops : List (List Op)) (before m : ℕ) → m ≡ before + 1 → (cell : Cell)
    → serial ops m cell ≡ meaning (ops_of ops m) (serial ops before) cell
serial_next ops before zero next cell = absurd (omega arith)
serial_next ops before (suc n) next cell =
    let same : n ≡ before = omega arith in
    ap (λ x. meaning (ops_of ops (suc n)) (serial ops x) cell) same

module _ (job : JobValue) (is : IsJob job) where
  -- each message has an affinity
  pub affinity_is : (n : ℕ) → IsIn job n → (a : ℕ) × (affinity_of job.assigned n ≡ Some a) × (a < length job.layout.tree)
  affinity_is n within =
      let to : n ≤ length job.ops = within.to in
      let same : length job.assigned ≡ length job.ops = is.count in
      affinity_unlocked job.layout.tree job.assigned n is.known is.unlocked within.from (omega arith)

  -- it runs in one at or above another, or does not
  pub decide_runs_above : (n a : ℕ) → IsIn job n → RunsAbove job n a ⊎ ¬ RunsAbove job n a
  decide_runs_above n a within =
      let own = affinity_is n within in
      ⊎_elim {C = RunsAbove job n a ⊎ ¬ RunsAbove job n a}
      (λ (above : AtOrAbove job.layout.tree own.0 a). inl (own.0, own.1, above))
      (λ (apart : ¬ AtOrAbove job.layout.tree own.0 a).
      inr (λ runs. apart (subst (λ x. AtOrAbove job.layout.tree x a) (same_Some runs.0 own.0 (sym runs.1 ∙ own.1)) runs.2)))
      (decide_above job.layout.tree is.layout.tree.rooted own.0 a)

  -- one at or above the owner of each cell of its footprint
  pub above_cell : (n : ℕ) → IsIn job n → (cell : Cell) → Contains (cells_of (ops_of job.ops n)) cell
      → RunsAbove job n (owner_of job.layout.spaces cell)
  above_cell n within cell named =
      let own = affinity_is n within in
      (own.0, own.1, (is.lowest n own.0 within own.1).covers cell named)

  -- it leaves a parcel as it was, unless it runs at or above its affinity
  pub leaves_unless_above : (n a : ℕ) → IsIn job n → ¬ RunsAbove job n a → (cells : Cells) → SameParcel job.layout.spaces a (meaning (ops_of job.ops n) cells) cells
  leaves_unless_above n a within apart cells =
      let own = affinity_is n within in
      leaves_parcel job.layout (ops_of job.ops n) own.0 a (is.lowest n own.0 within own.1).covers
      (λ above. apart (own.0, own.1, above)) cells

  -- messages from `last` on that are not at or above an affinity leave its parcel as it was
  pub serial_same : (a last n : ℕ) → last ≤ n → n ≤ length job.ops
      → ((i : ℕ) → last < i → i ≤ n → ¬ RunsAbove job i a)
      → SameParcel job.layout.spaces a (serial job.ops n) (serial job.ops last)
  serial_same a last zero from to apart cell is_cell owned =
      let first : zero ≡ last = omega arith in
      ap (λ x. serial job.ops x cell) first
  serial_same a last (suc n) from to apart cell is_cell owned =
      ⊎_elim {C = serial job.ops (suc n) cell ≡ serial job.ops last cell}
      (λ (same : last ≡ suc n). ap (λ x. serial job.ops x cell) (sym same))
      (λ (other : last ≢ suc n).
      let within : IsIn job (suc n) = record { from = omega arith; to = to } in
      leaves_unless_above (suc n) a within (apart (suc n) (omega arith) (omega arith)) (serial job.ops n) cell is_cell owned
      ∙ serial_same a last n (omega arith) (omega arith) (λ i after before. apart i after (omega arith)) cell is_cell owned)
      (cases_eq last (suc n))

  -- two messages that run at or above one affinity exclude each other
  pub exclude_at_one : (a i j : ℕ) → RunsAbove job i a → RunsAbove job j a
      → ExcludeEachOther job.layout.tree (held_of job.assigned i) (held_of job.assigned j)
  exclude_at_one a i j one other =
      affinities_do job.layout.tree (held_of job.assigned i) (held_of job.assigned j) one.0 other.0 one.1 other.1
      (comparable job.layout.tree one.0 other.0 a one.2 other.2)

  -- and are an ordered pair
  pub ordered_at_one : (a i j : ℕ) → 1 ≤ i → i < j → j ≤ length job.ops → RunsAbove job i a
      → RunsAbove job j a → IsOrdered job.layout.tree job.assigned i j
  ordered_at_one a i j from earlier to one other =
      let same : length job.assigned ≡ length job.ops = is.count in
      record {
        from = from;
        earlier = earlier;
        to = omega arith;
        excludes = exclude_at_one a i j one other;
      }

  module _ (s : Core) (m : ℕ) (within : IsIn job m) (clear : IsClear job s m) (undone : s.done m ≡ false)
      (closed : (n : ℕ) → s.done n ≡ true → IsClear job s n) where
    -- no later message that is at or above an affinity at or below that of message m is done
    done_is_earlier : (a i : ℕ) → RunsAbove job m a → IsDoneAbove job s a i → i < m
    done_is_earlier a i above at =
        let same : length job.assigned ≡ length job.ops = is.count in
        let to : i ≤ length job.assigned = at.to in
        let from : 1 ≤ m = within.from in
        ⊎_elim {C = i < m}
        (λ (this : i ≡ m). absurd (true≢false (sym at.done ∙ ap s.done this ∙ undone)))
        (⊎_elim {C = i < m}
        (λ (before : i < m). before)
        (λ (after : m < i).
        absurd (true≢false (sym (closed i at.done m (ordered_at_one a m i from after (omega arith) above at.above)) ∙ undone))))
        (cases_order i m)

    -- the parcels of the affinities at or below that of message m, which is clear and not done, are
    -- those of the state of arrival order before it
    pub clear_settled : (before a : ℕ) → m ≡ before + 1 → RunsAbove job m a → CellsAreSerial job s
        → SameParcel job.layout.spaces a s.cells (serial job.ops before)
    clear_settled before a next above settled cell is_cell owned =
        let last = (settled a).0 in
        let is_last : IsLast job s a last = (settled a).1 in
        let to : m ≤ length job.ops = within.to in
        let early : last ≤ before =
        ⊎_elim {C = last ≤ before}
        (λ (first : last ≡ 0). omega arith)
        (λ (some : last ≢ 0).
        let short : last < m = done_is_earlier a last above (is_last.is (omega arith)) in
        omega arith)
        (cases_eq last 0) in
        (settled a).2 cell is_cell owned
        ∙ sym (serial_same a last before early (omega arith)
        (λ i after short is_above.
        let same : length job.assigned ≡ length job.ops = is.count in
        let done : s.done i ≡ true = clear i (ordered_at_one a i m (omega arith) (omega arith) to is_above above) in
        let bound : i ≤ last = is_last.greatest i (record { from = omega arith; to = omega arith; done = done; above = is_above }) in
        omega arith)
        cell is_cell owned)

    -- after it, they are those of the state of arrival order after it
    pub ended_settled : (a : ℕ) → RunsAbove job m a → CellsAreSerial job s
        → SameParcel job.layout.spaces a (meaning (ops_of job.ops m) s.cells) (serial job.ops m)
    ended_settled a above settled cell is_cell owned =
        let from : 1 ≤ m = within.from in
        let before = m - 1 in
        let next : m ≡ before + 1 = omega arith in
        meaning_agree (ops_of job.ops m) s.cells (serial job.ops before)
        (λ named has.
        clear_settled before (owner_of job.layout.spaces named) next (above_cell m within named has) settled named
        (cell_listed job is m within named has) refl)
        cell (clear_settled before a next above settled cell is_cell owned)
        ∙ sym (serial_next job.ops before m next cell)

    -- the end of message m keeps each parcel settled
    pub settled_end : (x : ℕ) → CellsAreSerial job s → CellsAreSerial job (ended_by job s x m)
    settled_end x settled a =
        ⊎_elim {C = Goal}
        (λ (above : RunsAbove job m a). (m, last_now above, ended_settled a above settled))
        (λ (apart : ¬ RunsAbove job m a). (
          (settled a).0,
          last_still apart,
          λ cell is_cell owned.
              leaves_unless_above m a within apart s.cells cell is_cell owned
              ∙ (settled a).2 cell is_cell owned,
        ))
        (decide_runs_above m a within)
      where
        Goal : Type 0
        Goal = (last : ℕ) × IsLast job (ended_by job s x m) a last × SameParcel job.layout.spaces a (meaning (ops_of job.ops m) s.cells) (serial job.ops last)

        last_now : RunsAbove job m a → IsLast job (ended_by job s x m) a m
        last_now above =
            let same : length job.assigned ≡ length job.ops = is.count in
            let to : m ≤ length job.ops = within.to in
            record {
              is = λ some. record { from = within.from; to = omega arith; done = done_this s m; above = above };
              greatest = λ i at.
                  ⊎_elim {C = i ≤ m}
                  (λ (this : i ≡ m). omega arith)
                  (λ (done : s.done i ≡ true).
                  let short : i < m = done_is_earlier a i above (record { from = at.from; to = at.to; done = done; above = at.above }) in
                  omega arith)
                  (done_cases s m i at.done);
            }

        last_still : ¬ RunsAbove job m a → IsLast job (ended_by job s x m) a (settled a).0
        last_still apart =
            let is_last = (settled a).1 in
            record {
              is = λ some.
                  let at = is_last.is some in
                  record { from = at.from; to = at.to; done = done_kept s m (settled a).0 at.done; above = at.above };
              greatest = λ i at.
                  ⊎_elim {C = i ≤ (settled a).0}
                  (λ (this : i ≡ m). absurd (apart (subst (λ x. RunsAbove job x a) this at.above)))
                  (λ (done : s.done i ≡ true). is_last.greatest i (record { from = at.from; to = at.to; done = done; above = at.above }))
                  (done_cases s m i at.done);
            }
