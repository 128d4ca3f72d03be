-- At a tick messages that are ready start, one after another, each on the least worker that is idle, until no worker is idle or none is ready.
use Rattle.std.proofs.Common.{◌≡◌, ℕ, ◌+◌, ◌<◌, ◌≤◌, ◌⊎◌, ◌≢◌, inl, inr, List, [], ◌∷◌, ◌++◌, Contains, arith, sym, subst}
use Rattle.std.specs.List.Sorted.{IsPermutation}
use Rattle.std.proofs.lemmas.Bool.{cases_lt}
use Rattle.std.proofs.lemmas.List.{append_assoc}
use Rattle.std.proofs.lemmas.List.Elements.{All-contains, Contains-append_right, Contains-append_cases}
use Rattle.waff_assign.specs.Order.{Relation}
use Rattle.waff_plan.specs.Timing.{start_of}
use Rattle.waff_plan.specs.Work.{Work, IsNumber, issue_of}
use Rattle.waff_list.specs.ListRule.{IsReady}
use Rattle.waff_list.specs.Placed.{Placed}
use Rattle.waff_list.specs.Progress.{IsProgressOf}
use Rattle.waff_list.specs.Seating.{worker_of}
use Rattle.waff_waits.specs.Times.{AreEach}
use Rattle.waff_list.specs.Waiting.{AreFinishes, AreManned}
use Rattle.waff_plan.specs.declared.due.TheConstants.{NEVER}
use Rattle.waff_waits.proofs.Each.{none_there, contains_first, each_there, each_apart}
use Rattle.waff_list.proofs.FinishLemmas.{finishes_place}
use Rattle.waff_list.proofs.Making.{IsMovedTo, IsPassedOver, all_run, more_placed, moved_here, progress_place, manned_place, progress_skip, progress_filled, ready_place, issue_was, issue_stays}
use Rattle.waff_list.proofs.Uniqueness.{AreAlike, AwaitsMessages}

-- the plan has been made up to the tick now and the message turn; the messages that run, the workers that are idle, and all messages that are
-- ready, placed or waiting
pub record IsStartingOf (before first : Relation) (work : Work) (k : ℕ) (placed : Placed) (running : List (ℕ × ℕ)) (free waiting : List ℕ) (now turn : ℕ) : Type 0 where
  pub to : turn ≤ work.count + 1
  pub progress : IsProgressOf before first work k placed now turn now
  pub finishes : AreFinishes work (start_of placed.starts) now running
  pub manned : AreManned k placed.seats running free
  pub ready : AreEach (IsReady before work (start_of placed.starts) now) (placed.order ++ waiting)

module _ (work : Work) (k : ℕ) (awaited : AwaitsMessages work) where
  module _ (before first : Relation) (numbers : (i j : ℕ) → before i j → IsNumber work i × IsNumber work j) (placed : Placed) (running : List (ℕ × ℕ)) (now turn : ℕ) where
    module _ (free waiting : List ℕ) (h : IsStartingOf before first work k placed running free waiting now turn) where
      -- what waits is ready and has not been placed
      pub is_ready : (m : ℕ) → Contains waiting m → IsReady before work (start_of placed.starts) now m
      is_ready m there = h.ready.only m (Contains-append_right placed.order waiting m there)

      pub unplaced : (m : ℕ) → Contains waiting m → now < start_of placed.starts m
      unplaced m there = elim (cases_lt now (start_of placed.starts m)) [
        | inl late ↦ late
        | inr early ↦
            let ready = is_ready m there in
            absurd (each_apart (IsReady before work (start_of placed.starts) now) placed.order waiting h.ready m (h.progress.listed.each m ready.number early) there)
      ]

      -- and the other way round
      pub it_waits : (m : ℕ) → IsReady before work (start_of placed.starts) now m → now < start_of placed.starts m → Contains waiting m
      it_waits m ready late =
          elim (Contains-append_cases placed.order waiting m (each_there (IsReady before work (start_of placed.starts) now) (placed.order ++ waiting) h.ready m ready)) [
            | inl is_placed ↦ absurd (omega (arith, late, (All-contains (λ x. IsNumber work x × (start_of placed.starts x ≤ now)) placed.order m h.progress.listed.messages is_placed).1))
            | inr there ↦ there
          ]

      -- where no worker is idle or none waits, and none that waits is taken before one that starts at now, the tick has been filled
      pub starts_filled : (free ≡ []) ⊎ (waiting ≡ []) → ((m other : ℕ) → Contains waiting m → IsNumber work other → first m other → start_of placed.starts other ≢ now)
          → IsProgressOf before first work k placed now (work.count + 1) (now + 1)
      starts_filled over in_turn = progress_filled before first work k numbers awaited placed now turn h.to passed_over h.progress
        where
          passed_over : IsPassedOver before first work k numbers awaited (start_of placed.starts) now
          passed_over m ready waits =
              let there = it_waits m ready waits in
              elim over [
                | inl none ↦ (
                  all_run before first work k numbers awaited (start_of placed.starts) (worker_of placed.seats) now turn now h.progress.settled running free h.finishes h.manned none,
                  λ other number takes. in_turn m other there number takes,
                )
                | inr none ↦ absurd (none_there m (rw none at there))
              ]

    -- one message more starts on the least worker that is idle
    module _ (free waiting : List ℕ) (m w : ℕ) (h : IsStartingOf before first work k placed running (w ∷ free) (m ∷ waiting) now turn)
        (short : now < NEVER) (cost : 1 ≤ work.cost m) (up_to : turn ≤ m) (smallest : (v : ℕ) → Contains free v → w ≤ v) where
      pub here : IsReady before work (start_of placed.starts) now m
      here = is_ready (w ∷ free) (m ∷ waiting) h m (contains_first m waiting)

      pub late : now < start_of placed.starts m
      late = unplaced (w ∷ free) (m ∷ waiting) h m (contains_first m waiting)

      pub at : IsProgressOf before first work k placed now m now
      at = progress_skip before first work k numbers awaited placed now turn m up_to h.progress

      abbrev pub more : Placed
      more = more_placed before first work k numbers awaited placed running free now m w here.number short cost late at h.finishes h.manned smallest

      pub starts_moved : IsMovedTo (start_of placed.starts) (start_of more.starts) m now
      starts_moved = moved_here before first work k numbers awaited placed running free now m w here.number short cost late at h.finishes h.manned smallest

      -- what is issued by now in the new plan was issued then, and what was issued stays so
      pub starts_issued : (i : ℕ) → issue_of work (start_of more.starts) i ≤ now → issue_of work (start_of more.starts) i ≡ issue_of work (start_of placed.starts) i
      starts_issued i = issue_was before first work k numbers awaited placed running free now m w here.number short cost late at h.finishes h.manned smallest i now (omega arith)

      pub starts_issue : (i : ℕ) → issue_of work (start_of placed.starts) i ≤ now → issue_of work (start_of more.starts) i ≡ issue_of work (start_of placed.starts) i
      starts_issue i = issue_stays before first work k numbers awaited placed running free now m w here.number short cost late at h.finishes h.manned smallest i now (omega arith)

      pub starts_more : (near second : Relation) → ((i j : ℕ) → near i j → IsNumber work j)
          → AreAlike work before near first second (start_of placed.starts) (start_of more.starts) now
          → (after : List (ℕ × ℕ)) → IsPermutation ((now + work.cost m, m) ∷ running) after → IsStartingOf near second work k more after free waiting now (m + 1)
      starts_more near second near_number alike after pushed =
          let number : IsNumber work m = here.number in
          let moved = starts_moved in
          record {
            to = omega (arith, number.to);
            progress = progress_place before first work k numbers awaited placed running free now m w number short cost late at h.finishes h.manned smallest near second near_number alike here.issued here.free;
            finishes = finishes_place work (start_of placed.starts) (start_of more.starts) now m running after number late moved.here cost moved.others pushed h.finishes;
            manned = manned_place before first work k numbers awaited placed running free now m w number short cost late at h.finishes h.manned smallest after pushed;
            ready = subst (λ xs. AreEach (IsReady near work (start_of more.starts) now) xs) (sym (append_assoc placed.order (m ∷ []) waiting))
                (ready_place before first work k numbers awaited placed running free now m w number short cost late at h.finishes h.manned smallest near second alike (placed.order ++ m ∷ waiting) h.ready);
          }
