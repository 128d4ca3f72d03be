-- What is left of a run that was stopped is a run of the trace that is cut down to it.
use Rattle.std.proofs.Common.{◌≡◌, ℕ, ◌-◌, ◌<◌, ◌≤◌, true, List, length, map, get_or, ap, sym, ◌∙◌, subst, arith}
use Rattle.std.specs.Prelude.{All}
use Rattle.std.proofs.lemmas.List.{get_or-map, length-map}
use Rattle.std.proofs.lemmas.List.Elements.{Contains-get_or}
use Rattle.waff_model.specs.Layout.{Hierarchy}
use Rattle.waff_model.specs.Messages.{Arrivals}
use Rattle.waff_model.specs.Tree.{IsTree, Node}
use Rattle.waff_assign.specs.Held.{ExcludeEachOther, Held}
use Rattle.waff_assign.specs.Instance.{Instance}
use Rattle.waff_assign.specs.Lowest.{IsAssignment}
use Rattle.waff_assign.specs.Order.{held_of}
use Rattle.waff_inputs.specs.Inputs.{instance_under}
use Rattle.waff_plan.specs.Obeys.{AwaitsEarlier}
use Rattle.waff_plan.specs.Timetable.{work_of_messages}
use Rattle.waff_plan.specs.Work.{IsAmongFirst}
use Rattle.waff_plan.proofs.TimingLemmas.{length-timings_of}
use Rattle.waff_line.specs.Machine.{IsCourse}
use Rattle.waff_line.specs.Turns.{AreReached, AreRunTurns, course_by}
use Rattle.waff_line.specs.declared.turn.Turn.{Turn}
use Rattle.waff_record.specs.Left.{AreLeft, IsCutDown, IsCutTo, number_at, turns_kept}
use Rattle.waff_record.specs.Turns.{turn_at}
use Rattle.waff_record.proofs.Ended.{run_turns}
use Rattle.waff_record.proofs.Holds.{excludes_there}
use Rattle.waff_record.proofs.LeftRuns.{left_is_run, turns_reached}
use Rattle.waff_record.proofs.Planned.{AreLaws}

-- those that are left are among all messages
pub left_among : (instance : Instance) (k tick : ℕ) (turns : List Turn) (kept : List ℕ) → AreReached (course_by instance k tick) turns
    → AreLeft turns tick kept → (m : ℕ) → IsAmongFirst (length kept) m → IsAmongFirst (length instance.trace.messages) (number_at kept m)
left_among instance k tick turns kept there left m among =
    let number = ((left.each (number_at kept m)).0 (Contains-get_or kept (m - 1) 0 (omega (arith, among.from, among.to)))).0.number in
    let many = turns_reached (course_by instance k tick) turns there in
    record { from = number.from; to = omega (arith, number.to, many, length-timings_of instance.trace.messages) }

-- they have ended
pub left_ended : (turns : List Turn) (tick : ℕ) (kept : List ℕ) → AreLeft turns tick kept → All (λ turn. turn.ended ≡ true) (turns_kept turns kept)
left_ended turns tick kept left p d within =
    let less : p < length kept = omega (arith, within, length-map kept (turn_at turns)) in
    subst (λ (turn : Turn). turn.ended ≡ true) (sym (get_or-map (turn_at turns) kept p 0 d less))
    ((left.each (get_or kept p 0)).0 (Contains-get_or kept p 0 less)).0.ended

-- a trace that is cut down, under the tree of all
module _ (layout : Hierarchy) (tree : List Node) (same : tree ≡ layout.tree) (is_tree : IsTree tree) (whole cut : Arrivals) (assigned again : List Held)
    (kept : List ℕ) (is : IsCutTo whole kept cut) (among : (m : ℕ) → IsAmongFirst (length kept) m → IsAmongFirst (length whole.messages) (number_at kept m))
    (holds : IsAssignment layout whole.messages assigned) (holds_again : IsAssignment layout cut.messages again) where
  rooted : IsTree layout.tree
  rooted = subst IsTree same is_tree

  here : (m : ℕ) → IsAmongFirst (length kept) m → IsAmongFirst (length cut.messages) m
  here m number = record { from = number.from; to = omega (arith, number.to, is.count) }

  pub cut_down : IsCutDown (instance_under layout assigned whole) kept (record { tree = tree; assigned = again; trace = cut })
  cut_down = record {
    tree = same;
    trace = is;
    excludes = λ i j first second. (
      λ excludes.
          excludes_there layout rooted cut.messages whole.messages again assigned holds_again holds i j (number_at kept i) (number_at kept j)
          (here i first) (here j second) (among i first) (among j second) (is.each i first).ops (is.each j second).ops
          (subst (λ (t : List Node). ExcludeEachOther t (held_of again i) (held_of again j)) same excludes),
      λ excludes.
          subst (λ (t : List Node). ExcludeEachOther t (held_of again i) (held_of again j)) (sym same)
          (excludes_there layout rooted whole.messages cut.messages assigned again holds holds_again (number_at kept i) (number_at kept j) i j
          (among i first) (among j second) (here i first) (here j second) (sym (is.each i first).ops) (sym (is.each j second).ops) excludes),
    );
  }

-- the turns of those that are left
pub left_run : (instance : Instance) (k tick : ℕ) (turns : List Turn) (kept : List ℕ) (cut : Instance)
    → IsCourse (course_by cut k tick) → AreLaws (course_by cut k tick) → AwaitsEarlier (work_of_messages cut.trace.messages)
    → AreReached (course_by instance k tick) turns → AreLeft turns tick kept → IsCutDown instance kept cut
    → (left : List Turn) → left ≡ turns_kept turns kept → AreRunTurns (course_by cut k tick) left
left_run instance k tick turns kept cut is laws earlier there left down found same =
    run_turns (course_by cut k tick) is laws (turns_kept turns kept) found (left_is_run instance k tick turns kept cut earlier there left down)
    (left_ended turns tick kept left) same
