use Rattle.std.proofs.Common.{◌≡◌, ℕ, ◌-◌, ◌<◌, ◌≤◌, inl, inr, List, [], ◌∷◌, ◌++◌, length, map, All, Contains, arith, sym, ◌∙◌, ap, subst, length-set}
use Rattle.std.specs.List.Sorted.{IsPermutation}
use Rattle.std.proofs.lemmas.Bool.{cases_eq}
use Rattle.std.proofs.lemmas.List.{get_or_read}
use Rattle.std.proofs.lemmas.List.Elements.{All-contains, All-contains_itself, All-weaker}
use Rattle.std.proofs.lemmas.List.Sorted.{Contains-permutation, IsPermutation-sym, length_permutation}
use Rattle.waff_model.specs.Numbers.{IsAmongFirst}
use Rattle.waff_plan.specs.Timing.{HasIssue, start_of, work_of}
use Rattle.waff_plan.specs.Work.{IsNumber}
use Rattle.waff_waits.specs.Ready.{AreRanked}
use Rattle.waff_waits.specs.Waits.{AreWaits, HasFinished, WhoWaits, waiting_for}
use Rattle.waff_waits.proofs.Each.{contains_first, contains_more, contains_rest_of, each_moved, manned_less}
use Rattle.waff_waits.proofs.Waiting.{finish_less, finished_here, finished_there, waits_finished}
use Rattle.waff_list.specs.Planning.{AreStarting}
use Rattle.waff_list.specs.Seating.{worker_of}
use Rattle.waff_list.specs.Telling.{key_in, priority_in}
use Rattle.waff_list.specs.Waiting.{Runs}
use Rattle.waff_list.specs.declared.progress.Progress.{Progress}
use Rattle.waff_list.specs.declared.service.Service.{Service}
use Rattle.waff_list.proofs.Steps.{AreWoken, awaited_count, issuing_after, waits_issued}
use Rattle.waff_list.proofs.planner.finish_all.Goals as goal
use Rattle.waff_list.proofs.planner.finish_all.Goals.{In-Some}

-- what is kept before the first message finishes
abbrev at_first : (c : In-Some) → AreStarting c.args.task.now c.args.progress.now c.args.waiting.now [] c.requires.kept.0
at_first c = c.requires.kept.3

-- the message that is taken out ran
abbrev popped : In-Some → ℕ × ℕ
popped c = (c.in-Some.field-0-0, c.in-Some.m)

was : (c : In-Some) → (r : ℕ × ℕ) → Contains (popped c ∷ c.pop_by.new.self) r → Contains c.loop-m.progress.finishes r
was c r there = Contains-permutation (popped c ∷ c.pop_by.new.self) c.loop-m.progress.finishes r (IsPermutation-sym c.loop-m.progress.finishes (popped c ∷ c.pop_by.new.self) c.in-Some.ensures.1.rest) there

ran : (c : In-Some) → Contains c.args.progress.now.finishes (popped c)
ran c = c.loop-m.invariant.woken.among (popped c) (was c (popped c) (contains_first (popped c) c.pop_by.new.self))

number : (c : In-Some) → IsNumber (work_of c.args.task.now.timings.items) c.in-Some.m
number c = (All-contains (Runs (work_of c.args.task.now.timings.items) (start_of c.args.progress.now.starts.items) c.requires.kept.0) c.args.progress.now.finishes (popped c)
    (at_first c).waiting.kept.finishes.only (ran c)).0

inside : (c : In-Some) → c.in-Some.m - 1 < length c.loop-m.progress.seats.items
inside c =
    let seats : length c.loop-m.progress.seats.items ≡ length c.args.task.now.timings.items = ap (λ (p : Progress). length p.seats.items) c.loop-m.invariant.woken.progress ∙ c.requires.kept.2.seats_count in
    omega (arith, (number c).from, (number c).to, seats)

-- what waits for whom goes with the needs of those that are issued
waits : (c : In-Some) → AreWaits (at_first c).issued (at_first c).waiting.needs c.loop-m.waiting.waits
waits c = c.loop-m.invariant.woken.waits (at_first c).issued (at_first c).waiting.needs (at_first c).waiting.kept.waits

many : (c : In-Some) → length c.loop-m.waiting.waits.awaited ≡ length c.args.task.now.timings.items
many c =
    c.loop-m.invariant.woken.count
    ∙ awaited_count c.args.task.now c.args.progress.now c.args.waiting.now c.requires.kept.0 c.requires.kept.1 _ _ c.requires.kept.2 (at_first c)

here : (c : In-Some) → IsAmongFirst (length c.loop-m.waiting.waits.awaited) c.in-Some.m
here c = subst (λ n. IsAmongFirst n c.in-Some.m) (sym (many c)) (record { from = (number c).from; to = (number c).to })

pub overflow_sub-m : goal.overflow_sub-m
overflow_sub-m c = (number (goal.at.overflow_sub-m c).In-Some).from

pub index-requires : goal.index-requires
index-requires c = let is = inside (goal.at.index-requires c).In-Some in omega (arith, is, c.loop-m.progress.seats.ok.0)

pub finish-requires-clause-number : goal.finish-requires-clause-number
finish-requires-clause-number c = number (goal.at.finish-requires-clause-number c).In-Some

pub finish-requires-clause-many : goal.finish-requires-clause-many
finish-requires-clause-many c = many (goal.at.finish-requires-clause-many c).In-Some

pub finish-requires-clause-issued : goal.finish-requires-clause-issued
finish-requires-clause-issued c =
    let s = (goal.at.finish-requires-clause-issued c).In-Some in
    let woken = c.loop-m.invariant.woken in
    let starts : c.as_slice.result.now ≡ c.args.progress.now.starts.items = c.as_slice.ensures.value ∙ ap (λ (p : Progress). p.starts.items) woken.progress in
    let first = waits_issued c.args.task.now c.args.progress.now c.args.waiting.now c.requires.kept.0 c.requires.kept.1 _ _ c.requires.kept.2 (at_first s) c.in-Some.m in
    let names = waiting_for c.loop-m.waiting.waits c.in-Some.m in
    subst (λ (xs : List ℕ). All (HasIssue c.args.task.now.timings.items xs) names) (sym starts)
    (All-weaker (Contains names) (HasIssue c.args.task.now.timings.items c.args.progress.now.starts.items)
    (λ d there. All-contains (HasIssue c.args.task.now.timings.items c.args.progress.now.starts.items) (waiting_for c.args.waiting.now.waits c.in-Some.m) d first (woken.less c.in-Some.m d there))
    names (All-contains_itself names))

pub loop-m-smaller : goal.loop-m-smaller
loop-m-smaller c =
    let pair = popped (goal.at.loop-m-smaller c).In-Some in
    let long : length (pair ∷ c.pop_by.new.self) ≡ length c.loop-m.progress.finishes = length_permutation c.loop-m.progress.finishes (pair ∷ c.pop_by.new.self) c.in-Some.ensures.1.rest in
    let less : length c.pop_by.new.self < length c.loop-m.progress.finishes = omega (arith, long) in
    less

pub loop-m-preserved : goal.loop-m-preserved
loop-m-preserved c =
    let f = (goal.at.loop-m-preserved c).In-Some in
    let pair = popped f in
    let m = c.in-Some.m in
    let h = c.loop-m.invariant.woken in
    let old = c.loop-m.progress.finishes in
    let new = c.pop_by.new.self in
    let task = c.args.task.now in
    let work = work_of task.timings.items in
    let init = c.args.waiting.now in
    let was_waiting = c.loop-m.waiting.waits in
    let issued = (at_first f).issued in
    let needs = (at_first f).waiting.needs in
    let seats = c.args.progress.now.seats.items in
    let told = c.in_ok-finish.ensures in
    let same = sym told.waits in
    let first_many = awaited_count c.args.task.now c.args.progress.now init c.requires.kept.0 c.requires.kept.1 _ _ c.requires.kept.2 (at_first f) in
    let starts : c.as_slice.result.now ≡ c.args.progress.now.starts.items = c.as_slice.ensures.value ∙ ap (λ (p : Progress). p.starts.items) h.progress in
    let done_here : HasFinished c.finish.new.self.waits m = subst (λ (u : WhoWaits). HasFinished u m) same (finished_here issued needs was_waiting (waits f) m (here f)) in
    let done_still : (i : ℕ) → 1 ≤ i → HasFinished was_waiting i → HasFinished c.finish.new.self.waits i = λ i from done. elim (cases_eq i m) [
      | inl is ↦ subst (HasFinished c.finish.new.self.waits) (sym is) done_here
      | inr other ↦ subst (λ (u : WhoWaits). HasFinished u i) same (finished_there issued needs was_waiting (waits f) m (here f) i from other ∙ done)
    ] in
    let seat : c.index.result.now ≡ worker_of seats m
    = get_or_read c.loop-m.progress.seats.items (m - 1) c.index.result.now (inside f) c.index.ensures 0 ∙ ap (λ (p : Progress). worker_of p.seats.items m) h.progress in
    let pushed : IsPermutation (worker_of seats m ∷ c.loop-m.progress.idle) c.push.new.self
    = subst (λ w. IsPermutation (w ∷ c.loop-m.progress.idle) c.push.new.self) seat c.in_ok-push.ensures in
    record {
      woken = record {
        count = ap (λ (u : WhoWaits). length u.awaited) told.waits ∙ length-set was_waiting.awaited (m - 1) [] ∙ h.count;
        waits = λ entered lists are. subst (λ (u : WhoWaits). AreWaits entered lists u) same (waits_finished entered lists was_waiting (h.waits entered lists are) m (here f));
        less = λ i d there. h.less i d (finish_less issued needs was_waiting (waits f) m (here f) i d (subst (λ (u : WhoWaits). Contains (waiting_for u i) d) told.waits there));
        stays = λ i from to done. done_still i from (h.stays i from to done);
        only = λ i from to done. elim (cases_eq i m) [
          | inl is ↦ inr (c.in-Some.field-0-0, subst (λ x. Contains c.args.progress.now.finishes (c.in-Some.field-0-0, x)) (sym is) (ran f), c.in-Some.ensures.0)
          | inr other ↦ h.only i from to
              (sym (finished_there issued needs was_waiting (waits f) m (here f) i from other) ∙ subst (λ (u : WhoWaits). HasFinished u i) told.waits done)
        ];
        ready = λ entered order among each. told.ready entered order (λ d there. among m d (h.less m d there)) (h.ready entered order among each);
        ranked = λ are.
            let key = λ (s : Service) (xs : List ℕ). key_in s work (start_of xs) in
            let moved : key c.loop-m.waiting.service c.as_slice.result.now ≡ key init.service c.args.progress.now.starts.items
            = ap (λ (s : Service). key s c.as_slice.result.now) h.service ∙ ap (λ xs. key init.service xs) starts in
            subst (λ k. AreRanked (priority_in task) k c.finish.new.self.ready) moved
            (told.ranked (subst (λ k. AreRanked (priority_in task) k c.loop-m.waiting.ready) (sym moved) (h.ranked are)));
        kept = λ (r : ℕ × ℕ) there.
            let from = (All-contains (Runs work (start_of c.args.progress.now.starts.items) c.requires.kept.0) c.args.progress.now.finishes r (at_first f).waiting.kept.finishes.only there).0.from in
            elim (h.kept r there) [
              | inl done ↦ inl (done.0, done_still r.1 from done.1)
              | inr runs ↦ elim (contains_rest_of pair r new (Contains-permutation old (pair ∷ new) r c.in-Some.ensures.1.rest runs)) [
                | inl still ↦ inr still
                | inr is ↦ inl (omega (arith, ap (λ (s : ℕ × ℕ). s.0) is, c.in-Some.ensures.0), subst (λ (s : ℕ × ℕ). HasFinished c.finish.new.self.waits s.1) (sym is) done_here)
              ]
            ];
        among = λ (r : ℕ × ℕ) there. h.among r (was f r (contains_more pair r new there));
        manned = λ first.
            let run = λ (r : ℕ × ℕ). worker_of seats r.1 in
            each_moved (IsAmongFirst task.workers) (c.loop-m.progress.idle ++ map run old) (h.manned first) (c.push.new.self ++ map run new)
            (manned_less run c.loop-m.progress.idle old pair new c.push.new.self c.in-Some.ensures.1.rest pushed);
        service = told.service ∙ h.service;
        progress = ap (λ (p : Progress). let q : Progress = record { starts = p.starts; seats = p.seats; order = p.order; idle = c.push.new.self; finishes = c.pop_by.new.self; issues = p.issues; awaits = p.awaits } in q) h.progress;
      };
    }

pub returns-clause-woken : goal.returns-clause-woken
returns-clause-woken c = λ now tick later planned kept.
    let none = c.in_default.ensures in
    let h = c.loop-m.invariant.woken in
    let p = c.loop-m.progress in
    let task = c.args.task.now in
    let q : Progress = record { starts = p.starts; seats = p.seats; order = p.order; idle = p.idle; finishes = c.pop_by.new.self; issues = p.issues; awaits = p.awaits } in
    issuing_after task c.args.progress.now c.args.waiting.now now tick _ _ planned kept c.args.next later c.requires.next q c.loop-m.waiting
    (subst (λ (xs : List (ℕ × ℕ)). AreWoken task c.args.next c.args.progress.now c.args.waiting.now
    (record { starts = p.starts; seats = p.seats; order = p.order; idle = p.idle; finishes = xs; issues = p.issues; awaits = p.awaits }) c.loop-m.waiting) (sym none.0) h)
    (subst (λ (xs : List (ℕ × ℕ)). All (λ (r : ℕ × ℕ). c.args.next < r.0) xs) (sym none.0) none.1)
