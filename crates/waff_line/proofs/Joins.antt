-- A message joins: it has its place in the order of service, and waits for its needs that have not ended.
use Rattle.std.proofs.Common.{◌≡◌, ℕ, ◌+◌, ◌-◌, inl, inr, true, false, List, [], ◌∷◌, ◌++◌, length, map, get_or, All, Contains, refl, ap, sym, ◌∙◌, subst, arith}
use Rattle.std.proofs.lemmas.Bool.{cases_Bool, cases_lt, cases_order}
use Rattle.std.proofs.lemmas.List.{get_or_append_left, get_or_push, length_push}
use Rattle.std.proofs.lemmas.List.FromFn.{get_or-range_with_len, length-range_with_len}
use Rattle.std.proofs.lemmas.List.Elements.{All-contains_itself, All-weaker}
use Rattle.waff_assign.specs.Order.{held_of}
use Rattle.waff_model.specs.Versions.{has_clients}
use Rattle.waff_model.specs.declared.message.Version.{Version}
use Rattle.waff_model.specs.declared.preorder.Span.{Span}
use Rattle.waff_order.specs.Joined.{Joined}
use Rattle.waff_order.specs.Needs.{needs_of}
use Rattle.waff_waits.specs.Waits.{Enters, WhoWaits}
use Rattle.waff_waits.proofs.Each.{map_same}
use Rattle.waff_plan.specs.Due.{LeavesDue}
use Rattle.waff_plan.specs.Work.{IsAmongFirst}
use Rattle.waff_line.specs.Entered.{AreEntered, ArePlaced, IsReadied, JoinsLast, needs_at, ready_in}
use Rattle.waff_line.specs.Lined.{IsLined, latecomers, served_at}
use Rattle.waff_line.specs.Machine.{Course, State, HasCome}
use Rattle.waff_line.specs.Queued.{IsQueue, course_of}
use Rattle.waff_line.specs.declared.order.Order.{Order}
use Rattle.waff_line.specs.declared.queue.Queue.{Queue}
use Rattle.waff_line.proofs.Entering.{due_joined, it_is, it_is_new, placed_last, placed_same}
use Rattle.waff_line.proofs.Issuing.{come_before}
use Rattle.waff_line.proofs.Keeping.{joins_more}
use Rattle.waff_line.proofs.Queueing.{latecomers_none}
use Rattle.waff_line.proofs.Readying.{need_place, needs_count, needs_numbers, waiting_entered}

-- messages with one more, and their needs with those of one more
module _ (course : Course) (s : State) (spans : List Span) (joining after : Joined) (messages more : List ℕ) (late : List (ℕ × ℕ))
    (line : IsLined course s spans joining messages late) (m : ℕ) (moved : more ≡ messages ++ m ∷ []) (list : List ℕ)
    (listed : after.needs ≡ joining.needs ++ list ∷ []) where
  pub longer : length more ≡ length messages + 1
  longer = ap length moved ∙ length_push messages m

  at_old : (p : ℕ) → IsAmongFirst (length messages) p → served_at more p ≡ served_at messages p
  at_old p number =
      ap (λ ms. get_or ms (p - 1) 0) moved ∙ get_or_append_left messages (m ∷ []) 0 (p - 1) (omega (arith, number.from, number.to))

  pub at_last : served_at more (length more) ≡ m
  at_last = ap (λ ms. get_or ms (length more - 1) 0) moved ∙ get_or_push messages m 0 (length more - 1) (omega (arith, longer))

  names_old : (p : ℕ) → IsAmongFirst (length messages) p → needs_at messages joining.needs p ≡ needs_at more after.needs p
  names_old p number =
      let needs = needs_of joining.needs p in
      let count = needs_count course s spans joining messages late line in
      let same : needs_of after.needs p ≡ needs
      = ap (λ ns. get_or ns (p - 1) []) listed ∙ get_or_append_left joining.needs (list ∷ []) [] (p - 1) (omega (arith, number.from, number.to, count)) in
      map_same (served_at messages) (served_at more) needs
      (All-weaker (Contains needs) (λ q. served_at messages q ≡ served_at more q)
      (λ q there. sym (at_old q (need_place course s spans joining messages late line p q number (record { from = number.from; listed = there })))) needs
      (All-contains_itself needs))
      ∙ ap (map (served_at more)) (sym same)

  pub kept_old : (entered : List ℕ) → (Contains entered m → ⊥) → (p : ℕ) → IsAmongFirst (length more) p → Contains entered (served_at more p)
      → IsAmongFirst (length messages) p × ((served_at messages p ≡ served_at more p) × (needs_at messages joining.needs p ≡ needs_at more after.needs p))
  kept_old entered new p number there = elim (cases_lt p (length more)) [
    | inl less ↦
        let old : IsAmongFirst (length messages) p = record { from = number.from; to = omega (arith, less, longer) } in
        (old, (sym (at_old p old), names_old p old))
    | inr last ↦
        let is : p ≡ length more = omega (arith, last, number.to) in
        absurd (new (subst (Contains entered) (ap (served_at more) is ∙ at_last) there))
  ]

-- no two places have one message
pub sole_at : (version : Version) (count : ℕ) (messages entered : List ℕ) → ArePlaced version count messages entered → (m place : ℕ)
    → IsAmongFirst (length messages) place → served_at messages place ≡ m
    → (p : ℕ) → IsAmongFirst (length messages) p → served_at messages p ≡ m → p ≡ place
sole_at version count messages entered placed m place here is p number same = elim (cases_order p place) [
  | inl equal ↦ equal
  | inr (inl less) ↦
      absurd (placed.apart (p - 1) (place - 1) (omega (arith, number.from, less)) (omega (arith, here.from, here.to)) (same ∙ sym is))
  | inr (inr more) ↦
      absurd (placed.apart (place - 1) (p - 1) (omega (arith, here.from, more)) (omega (arith, number.from, number.to)) (is ∙ sym same))
]

module _ (q : Queue) (workers : ℕ) (s : State) (h : IsQueue q workers s) (going : q.is_over ≡ false) (r : ℕ × ℕ) (rest : List (ℕ × ℕ))
    (leaves : LeavesDue q.due r rest) (come : HasCome q.case.trace.now.version r.0 s.clock) where
  abbrev course : Course
  course = course_of q workers

  abbrev are : AreEntered course s q.order.joining q.order.messages.items q.due q.waiting.waits (ready_in q.waiting)
  are = h.entered going

  abbrev line : IsLined course s q.order.spans.now q.order.joining q.order.messages.items (latecomers q.case.trace.now.version q.due)
  line = h.lined going

  pub joins_known : IsAmongFirst course.work.count r.1
  joins_known = (it_is course s are.entered q.due are.issued r rest leaves).number

  pub joins_assigned : IsAmongFirst (length q.case.assigned.now) r.1
  joins_assigned = record { from = joins_known.from; to = omega (arith, joins_known.to, h.many) }

  pub joins_waits : IsAmongFirst (length q.waiting.waits.awaited) r.1
  joins_waits = record { from = joins_known.from; to = omega (arith, joins_known.to, are.waiting.waits.count, are.waiting.count) }

  new : Contains are.entered r.1 → ⊥
  new = it_is_new course s are.entered q.due are.issued r rest leaves

  -- with its place
  module _ (order : Order) (place : ℕ) (spans : order.spans.now ≡ q.order.spans.now)
      (by_issue : has_clients q.case.trace.now.version ≡ true → JoinsLast q.order r.1 (held_of q.case.assigned.now r.1) order place)
      (by_number : has_clients q.case.trace.now.version ≡ false → (place ≡ r.1) × (order ≡ q.order)) where
    abbrev messages : List ℕ
    messages = order.messages.items

    pub joins_lined : IsLined course s order.spans.now order.joining messages (latecomers q.case.trace.now.version rest)
    joins_lined = elim (cases_Bool (has_clients q.case.trace.now.version)) [
      | inl has ↦
          let j = by_issue has in
          subst (λ (ss : List Span). IsLined course s ss order.joining messages (latecomers q.case.trace.now.version rest)) (sym spans)
          (subst (λ (ms : List ℕ). IsLined course s q.order.spans.now order.joining ms (latecomers q.case.trace.now.version rest)) (sym j.messages)
          (joins_more q workers s h going has r rest leaves (come_before q.case.trace.now.version r.0 s.clock has come) order.joining
          (j.joined q.case.tree.now (map (held_of q.case.assigned.now) q.order.messages.items) line.joined)))
      | inr none ↦
          subst (λ (o : Order). IsLined course s o.spans.now o.joining o.messages.items (latecomers q.case.trace.now.version rest)) (sym (by_number none).1)
          (subst (λ ws. IsLined course s q.order.spans.now q.order.joining q.order.messages.items ws)
          (latecomers_none q.case.trace.now.version q.due none ∙ sym (latecomers_none q.case.trace.now.version rest none)) line)
    ]

    joins_placed : ArePlaced q.case.trace.now.version course.work.count messages (are.entered ++ r.1 ∷ [])
    joins_placed = elim (cases_Bool (has_clients q.case.trace.now.version)) [
      | inl has ↦
          subst (λ (ms : List ℕ). ArePlaced q.case.trace.now.version course.work.count ms (are.entered ++ r.1 ∷ [])) (sym (by_issue has).messages)
          (placed_last q.case.trace.now.version course.work.count q.order.messages.items are.entered are.placed r.1 new has)
      | inr none ↦
          subst (λ (o : Order). ArePlaced q.case.trace.now.version course.work.count o.messages.items (are.entered ++ r.1 ∷ [])) (sym (by_number none).1)
          (placed_same q.case.trace.now.version course.work.count q.order.messages.items are.entered are.placed r.1 new none joins_known)
    ]

    at_number : has_clients q.case.trace.now.version ≡ false → (IsAmongFirst (length q.order.messages.items) r.1) × (served_at q.order.messages.items r.1 ≡ r.1)
    at_number none =
        let all = are.placed.by_number none in
        let long = ap (length {A = ℕ}) all ∙ length-range_with_len 1 course.work.count in
        let known = joins_known in (
          record { from = known.from; to = omega (arith, known.to, long) },
          ap (λ ms. get_or ms (r.1 - 1) 0) all ∙ get_or-range_with_len 1 course.work.count (r.1 - 1) 0 (omega (arith, known.from, known.to))
              ∙ (let sum : 1 + (r.1 - 1) ≡ r.1 = omega (arith, known.from) in sum),
        )

    joins_at : IsAmongFirst (length messages) place × (served_at messages place ≡ r.1)
    joins_at = elim (cases_Bool (has_clients q.case.trace.now.version)) [
      | inl has ↦
          let j = by_issue has in
          let long = ap (length {A = ℕ}) j.messages ∙ length_push q.order.messages.items r.1 in (
            record { from = omega (arith, j.last, long); to = omega (arith, j.last) },
            ap (served_at messages) j.last
                ∙ at_last course s q.order.spans.now q.order.joining order.joining q.order.messages.items messages (latecomers q.case.trace.now.version q.due) line
                r.1 j.messages j.list j.listed,
          )
      | inr none ↦
          subst (λ (p : ℕ). IsAmongFirst (length messages) p × (served_at messages p ≡ r.1)) (sym (by_number none).0)
          (subst (λ (o : Order). IsAmongFirst (length o.messages.items) r.1 × (served_at o.messages.items r.1 ≡ r.1)) (sym (by_number none).1) (at_number none))
    ]

    pub joins_place : IsAmongFirst (length order.joining.needs) place
    joins_place =
        let count = needs_count course s order.spans.now order.joining messages (latecomers q.case.trace.now.version rest) joins_lined in
        let is = joins_at in
        record { from = is.0.from; to = omega (arith, is.0.to, count) }

    pub joins_needs : All (IsAmongFirst (length q.waiting.waits.awaited)) (needs_at messages order.joining.needs place)
    joins_needs =
        let many : course.work.count ≡ length q.waiting.waits.awaited = sym (are.waiting.waits.count ∙ are.waiting.count) in
        subst (λ n. All (IsAmongFirst n) (needs_at messages order.joining.needs place)) many
        (needs_numbers course s order.spans.now order.joining messages (latecomers q.case.trace.now.version rest) joins_lined place joins_at.0)

    kept : (p : ℕ) → IsAmongFirst (length messages) p → Contains are.entered (served_at messages p)
        → IsAmongFirst (length q.order.messages.items) p × ((served_at q.order.messages.items p ≡ served_at messages p)
        × (needs_at q.order.messages.items q.order.joining.needs p ≡ needs_at messages order.joining.needs p))
    kept = elim (cases_Bool (has_clients q.case.trace.now.version)) [
      | inl has ↦
          let j = by_issue has in
          kept_old course s q.order.spans.now q.order.joining order.joining q.order.messages.items messages (latecomers q.case.trace.now.version q.due) line
          r.1 j.messages j.list j.listed are.entered new
      | inr none ↦
          subst
          (λ (o : Order). (p : ℕ) → IsAmongFirst (length o.messages.items) p → Contains are.entered (served_at o.messages.items p)
          → IsAmongFirst (length q.order.messages.items) p × ((served_at q.order.messages.items p ≡ served_at o.messages.items p)
          × (needs_at q.order.messages.items q.order.joining.needs p ≡ needs_at o.messages.items o.joining.needs p)))
          (sym (by_number none).1) (λ p number there. (number, (refl, refl)))
    ]

    pub joins_entered : (now : WhoWaits) → Enters q.waiting.waits r.1 (needs_at messages order.joining.needs place) now
        → (ready : List ℕ) → IsReadied now r.1 (ready_in q.waiting) ready
        → AreEntered course s order.joining messages rest now ready
    joins_entered now enters ready readied = record {
      entered = are.entered ++ r.1 ∷ [];
      issued = due_joined course s are.entered q.due are.issued r rest leaves come;
      placed = joins_placed;
      waiting = waiting_entered course s q.order.joining q.order.messages.items are.entered q.waiting.waits (ready_in q.waiting) are.waiting
          r.1 joins_known new (λ x there. (are.issued.come x there).number.from) order.joining messages place kept
          (sole_at q.case.trace.now.version course.work.count messages (are.entered ++ r.1 ∷ []) joins_placed r.1 place joins_at.0 joins_at.1) now enters ready readied;
    }
