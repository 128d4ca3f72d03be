-- Figures, steps and the text are one.
use Rattle.std.proofs.Common.{◌≡◌, ℕ, zero, suc, ◌<◌, inl, inr, All, Contains, List, [], ◌∷◌, length, get_or, map, Option, Some, None, refl, sym, ◌∙◌, ap, subst, arith}
use Rattle.std.proofs.lemmas.Bool.{cases_lt}
use Rattle.std.proofs.lemmas.List.{get_or-map, length-map, same_lists}
use Rattle.waff_model.specs.Layout.{Hierarchy, IsLayout, lockings_of, with_lockings}
use Rattle.waff_model.specs.Messages.{Arrivals, IsTrace}
use Rattle.waff_model.specs.Unique.{AtMostOne}
use Rattle.waff_model.specs.declared.locking.Locking.{Locking}
use Rattle.waff_model.proofs.Relocking.{with_is_layout}
use Rattle.waff_assign.specs.Instance.{Instance}
use Rattle.waff_assign.proofs.Uniqueness.{assignment_is_one}
use Rattle.waff_plan.specs.Instances.{work_of_instance}
use Rattle.waff_plan.specs.Timing.{start_of}
use Rattle.waff_plan.proofs.ServingLemmas.{least_served_is_one}
use Rattle.waff_plan.proofs.Uniqueness.{same_length}
use Rattle.waff_list.specs.declared.rule.Rule.{Rule}
use Rattle.waff_list.proofs.ServedUniqueness.{plan_served_is_one}
use Rattle.waff_list.proofs.TraceWork.{count_is, trace_is_small}
use Rattle.waff_plan_text.specs.Lines.{text_of}
use Rattle.waff_figures.proofs.LeastLaws.{follows_in}
use Rattle.waff_locks.specs.Candidates.{candidates, locked_too}
use Rattle.waff_locks.specs.Laws.{FiguresAreOne, TextIsOne}
use Rattle.waff_locks.specs.LocksText.{TellsLocks, locks_lines}
use Rattle.waff_locks.specs.Sets.{AreFigures, AreFiguresWith, IsListLength, instance_with}
use Rattle.waff_locks.specs.Steps.{AreLess, AreSteps, AreTried, HasFigures, IsStep, ranks_of, with_one}
use Rattle.waff_locks.specs.declared.figures.SetFigures.{SetFigures}
use Rattle.waff_locks.specs.declared.figures.SpaceFigures.{SpaceFigures}
use Rattle.waff_locks.specs.declared.wanted.Wanted.{Wanted}

-- figures that are the same one by one
same_figures : (f g : SetFigures) → f.tree ≡ g.tree → f.locks ≡ g.locks → f.order ≡ g.order → f.plan ≡ g.plan → f.total ≡ g.total
    → f.messages ≡ g.messages → f.alone ≡ g.alone → f.shared ≡ g.shared → f ≡ g
same_figures f g tree locks order plan total messages alone shared =
    ap (λ x. record f { tree = x }) tree
    ∙ ap (λ x. record f { tree = g.tree; locks = x }) locks
    ∙ ap (λ x. record f { tree = g.tree; locks = g.locks; order = x }) order
    ∙ ap (λ x. record f { tree = g.tree; locks = g.locks; order = g.order; plan = x }) plan
    ∙ ap (λ x. record f { tree = g.tree; locks = g.locks; order = g.order; plan = g.plan; total = x }) total
    ∙ ap (λ x. record g { messages = x; alone = f.alone; shared = f.shared }) messages
    ∙ ap (λ x. record g { alone = x; shared = f.shared }) alone
    ∙ ap (λ x. record g { shared = x }) shared

same_one : (one other : SpaceFigures) → one.space ≡ other.space → one.figures ≡ other.figures → one ≡ other
same_one one other space figures = ap (λ x. record one { space = x }) space ∙ ap (λ x. record other { figures = x }) figures

-- numbers of which neither are less are the same
neither : (xs ys : List ℕ) → length xs ≡ length ys → ¬ AreLess xs ys → ¬ AreLess ys xs → xs ≡ ys
neither [] [] long not other = refl
neither [] (y ∷ ys) long not other = absurd (omega (arith, long))
neither (x ∷ xs) [] long not other = absurd (omega (arith, long))
neither (x ∷ xs) (y ∷ ys) long not other =
    elim (cases_lt x y) [
      | inl less ↦ absurd (not (inl less))
      | inr least ↦ elim (cases_lt y x) [
        | inl less ↦ absurd (other (inl less))
        | inr most ↦
            let same : x ≡ y = omega (arith, least, most) in
            ap (λ z. z ∷ xs) same
            ∙ ap (λ zs. y ∷ zs) (neither xs ys (omega (arith, long)) (λ are. not (inr (same, are))) (λ are. other (inr (sym same, are))))
      ]
    ]

list_length_is_one : (rule : Rule) (instance : Instance) → IsTrace instance.trace → length instance.assigned ≡ length instance.trace.messages
    → (workers plan other : Option ℕ) → IsListLength rule instance workers plan → IsListLength rule instance workers other → plan ≡ other
list_length_is_one rule instance is_trace same None None None one two = refl
list_length_is_one rule instance is_trace same None None (Some other) one two = absurd two
list_length_is_one rule instance is_trace same None (Some plan) other one two = absurd one
list_length_is_one rule instance is_trace same (Some k) None other one two = absurd one
list_length_is_one rule instance is_trace same (Some k) (Some plan) None one two = absurd two
list_length_is_one rule instance is_trace same (Some k) (Some plan) (Some other) one two =
    let work = work_of_instance instance in
    let starts = plan_served_is_one instance.trace.version rule instance.tree instance.assigned work (same ∙ sym (count_is instance.trace.messages)) (follows_in instance is_trace)
    (λ m number. (trace_is_small instance.trace is_trace).some_cost m number) k (start_of one.0) (start_of two.0) one.1 two.1 in
    ap (λ n. Some n) (one.2 ∙ same_length work (start_of one.0) (start_of two.0) starts ∙ sym two.2)

-- the figures of an instance
instance_figures_are_one : (wanted : Wanted) (instance : Instance) → IsTrace instance.trace → length instance.assigned ≡ length instance.trace.messages
    → AtMostOne (AreFigures wanted instance)
instance_figures_are_one wanted instance is_trace same f g p q =
    let work = work_of_instance instance in
    let starts = least_served_is_one instance.trace.version instance.tree instance.assigned work (follows_in instance is_trace) (start_of p.starts) (start_of q.starts) p.least q.least in
    same_figures f g (p.tree ∙ sym q.tree) (p.locks ∙ sym q.locks)
    (p.order ∙ same_length work (start_of p.starts) (start_of q.starts) starts ∙ sym q.order)
    (list_length_is_one wanted.rule instance is_trace same wanted.workers f.plan g.plan p.plan q.plan)
    (p.total ∙ sym q.total) (p.messages ∙ sym q.messages) (p.alone ∙ sym q.alone) (p.shared ∙ sym q.shared)

-- those under a hierarchy
pub figures_are_one : (wanted : Wanted) (layout : Hierarchy) (trace : Arrivals) → FiguresAreOne wanted layout trace
figures_are_one wanted layout trace is_layout is_trace f g p q =
    let assigned = assignment_is_one layout trace.messages is_layout.tree q.assigned p.assigned q.assignment p.assignment in
    instance_figures_are_one wanted (instance_with layout trace p.assigned) is_trace p.assignment.count f g p.are
    (subst (λ held. AreFigures wanted (instance_with layout trace held) g) assigned q.are)

module _ (wanted : Wanted) (layout : Hierarchy) (trace : Arrivals) (is_layout : IsLayout layout) (is_trace : IsTrace trace) where
  with_are_one : (lockings : List Locking) → AtMostOne (AreFiguresWith wanted layout trace lockings)
  with_are_one lockings = figures_are_one wanted (with_lockings layout lockings) trace (with_is_layout layout lockings is_layout) is_trace

  -- of one space
  space_is_one : (lockings : List Locking) (one other : SpaceFigures) → one.space ≡ other.space → HasFigures wanted layout trace lockings one
      → HasFigures wanted layout trace lockings other → one ≡ other
  space_is_one lockings one other same p q =
      same_one one other same
      (with_are_one (with_one wanted lockings one.space) one.figures other.figures p
      (subst (λ s. AreFiguresWith wanted layout trace (with_one wanted lockings s) other.figures) (sym same) q))

  -- of all candidates
  tried_are_one : (lockings : List Locking) → AtMostOne (AreTried wanted layout trace lockings)
  tried_are_one lockings tried others p q =
      let space : SpaceFigures → ℕ = λ one. one.space in
      let spaces : map space tried ≡ map space others = p.in_turn ∙ sym q.in_turn in
      let long : length tried ≡ length others = sym (length-map tried space) ∙ ap length spaces ∙ length-map others space in
      same_lists tried others long (λ i d inside.
      let there : i < length others = omega (arith, inside, long) in
      let same : (get_or tried i d).space ≡ (get_or others i d).space
      = sym (get_or-map space tried i d 0 inside) ∙ ap (λ xs. get_or xs i 0) spaces ∙ get_or-map space others i d 0 there in
      space_is_one lockings (get_or tried i d) (get_or others i d) same (p.each i d inside) (q.each i d there))

  -- a step
  not_before : (Before : SpaceFigures → SpaceFigures → Type 0) (tried : List SpaceFigures) (one other : SpaceFigures) → Contains tried other
      → All (λ x. ¬ Before x one) tried → ¬ Before other one
  not_before Before tried one other (i, inside, is) all = subst (λ (x : SpaceFigures). ¬ Before x one) is (all i other inside)

  held_by : (lockings : List Locking) (tried : List SpaceFigures) (one : SpaceFigures) → Contains tried one → All (HasFigures wanted layout trace lockings) tried
      → HasFigures wanted layout trace lockings one
  held_by lockings tried one (i, inside, is) all = subst (HasFigures wanted layout trace lockings) is (all i one inside)

  step_is_one : (lockings : List Locking) → AtMostOne (IsStep wanted layout trace lockings)
  step_is_one lockings one other p q =
      let less : SpaceFigures → SpaceFigures → Type 0 = λ x y. AreLess (ranks_of x) (ranks_of y) in
      let same : p.tried ≡ q.tried = tried_are_one lockings p.tried q.tried p.are_tried q.are_tried in
      let among = subst (λ tried. Contains tried other) (sym same) q.among in
      let back = subst (λ tried. Contains tried one) same p.among in
      let first : ¬ AreLess (ranks_of other) (ranks_of one) = not_before less p.tried one other among p.first in
      let second : ¬ AreLess (ranks_of one) (ranks_of other) = not_before less q.tried other one back q.first in
      let ranks = neither (ranks_of one) (ranks_of other) refl second first in
      space_is_one lockings one other (ap (λ xs. get_or xs 4 0) ranks) (held_by lockings p.tried one p.among p.are_tried.each)
      (held_by lockings q.tried other q.among q.are_tried.each)

  -- a step is a candidate
  no_step : (lockings : List Locking) (step : SpaceFigures) → candidates wanted.kind trace.messages lockings ≡ [] → ¬ IsStep wanted layout trace lockings step
  no_step lockings step none is =
      let space : SpaceFigures → ℕ = λ one. one.space in
      let long : length is.tried ≡ 0 = sym (length-map is.tried space) ∙ ap length (is.are_tried.in_turn ∙ none) in
      omega (arith, is.among.1, long)

  steps_are_one : (most : ℕ) (lockings : List Locking) (steps others : List SpaceFigures) → AreSteps wanted layout trace most lockings steps
      → AreSteps wanted layout trace most lockings others → steps ≡ others
  steps_are_one most lockings [] [] p q = refl
  steps_are_one zero lockings [] (y ∷ ys) p q = absurd q
  steps_are_one zero lockings (x ∷ xs) ys p q = absurd p
  steps_are_one (suc most) lockings [] (y ∷ ys) (inl none) (first, rest) = absurd (omega (arith, none))
  steps_are_one (suc most) lockings [] (y ∷ ys) (inr none) (first, rest) = absurd (no_step lockings y none first)
  steps_are_one (suc most) lockings (x ∷ xs) [] (first, rest) (inl none) = absurd (omega (arith, none))
  steps_are_one (suc most) lockings (x ∷ xs) [] (first, rest) (inr none) = absurd (no_step lockings x none first)
  steps_are_one (suc most) lockings (x ∷ xs) (y ∷ ys) (first, rest) (second, others) =
      let same = step_is_one lockings x y first second in
      ap (λ z. z ∷ xs) same
      ∙ ap (λ zs. y ∷ zs) (steps_are_one most (with_one wanted lockings x.space) xs ys rest
      (subst (λ (one : SpaceFigures). AreSteps wanted layout trace most (with_one wanted lockings one.space) ys) (sym same) others))

  told_is_one : AtMostOne (TellsLocks wanted layout trace)
  told_is_one text other p q =
      let lockings = lockings_of layout.spaces in
      let before = with_are_one lockings p.before q.before p.as_it_is q.as_it_is in
      let ones = tried_are_one lockings p.ones q.ones p.each q.each in
      let steps = steps_are_one wanted.steps lockings p.steps q.steps p.greedy q.greedy in
      let all = with_are_one (locked_too wanted.kind (candidates wanted.kind trace.messages lockings) lockings) p.all q.all p.with_all q.with_all in
      p.lines
      ∙ ap (λ b. text_of (locks_lines layout.spaces b p.ones p.steps p.all)) before
      ∙ ap (λ os. text_of (locks_lines layout.spaces q.before os p.steps p.all)) ones
      ∙ ap (λ ss. text_of (locks_lines layout.spaces q.before q.ones ss p.all)) steps
      ∙ ap (λ a. text_of (locks_lines layout.spaces q.before q.ones q.steps a)) all
      ∙ sym q.lines

-- the text
pub text_is_one : (wanted : Wanted) (layout : Hierarchy) (trace : Arrivals) → TextIsOne wanted layout trace
text_is_one wanted layout trace is_layout is_trace = told_is_one wanted layout trace is_layout is_trace
