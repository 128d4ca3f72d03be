-- Waits add up.
use Rattle.std.proofs.Common.{◌≡◌, ℕ, zero, suc, ◌+◌, ◌-◌, ◌<◌, ◌≤◌, inl, inr, cond, ltb, ◌==◌, Bool, true, false, List, [], ◌∷◌, get_or, sum_by, All, Option, Some, None, arith, refl, sym, ◌∙◌, ap, subst}
use Rattle.std.specs.List.{range_with_len}
use Rattle.std.proofs.lemmas.Bool.{cond_both, ltb-false}
use Rattle.std.proofs.lemmas.Bool.Decides.{nat_tests}
use Rattle.std.proofs.lemmas.List.Elements.{All-cons, All-nil, All-tail}
use Rattle.std.proofs.lemmas.List.Sorted.{sum_by-IsPermutation}
use Rattle.std.proofs.lemmas.List.Sums.{sum_by-append, sum_by-cons}
use Rattle.waff_model.specs.Tree.{Node}
use Rattle.waff_assign.specs.Held.{Held}
use Rattle.waff_plan.specs.Obeys.{Obeys}
use Rattle.waff_plan.specs.Waited.{IsWaitedFor}
use Rattle.waff_plan.specs.Work.{Work, IsNumber, finish_of, issue_of, numbers}
use Rattle.waff_plan.proofs.Holding.{awaited-le-issue}
use Rattle.waff_plan.proofs.Longest.{sum_more}
use Rattle.waff_figures.specs.Waits.{AreWaits, ready_of, wait_of, waits_in}
use Rattle.waff_figures.specs.WaitLaws.{AwaitingIsNoWait, ReadyIsGreatest, TicksAddUp, WaitsAddUp, WaitsAreOnce}
use Rattle.waff_figures.specs.Groups.{firsts_by}
use Rattle.waff_figures.specs.WaitRows.{row_of, rows_by}
use Rattle.waff_figures.specs.declared.wait_rows.Row.{Row}
use Rattle.waff_figures.specs.declared.waits.Wait.{Wait}
use Rattle.waff_figures.proofs.GroupLemmas.{each_once, firsts_add_up, sum_map}
use Rattle.waff_figures.proofs.SumLemmas.{sum_one, sum_same}
use Rattle.waff_figures.proofs.WaitLemmas.{some_upto, upto_more, waits_at, waits_upto}

pub ready_is_greatest : (before : ℕ → ℕ → Type 0) (work : Work) (start : ℕ → ℕ) → ReadyIsGreatest before work start
ready_is_greatest before work start m None is = record { issued = omega arith; finished = is; one = inl refl }
ready_is_greatest before work start m (Some i) is = record {
  issued = let later : issue_of work start m < finish_of work start i = is.1 in omega (arith, later);
  finished = is.0.latest;
  one = inr (i, is.0.one, refl);
}

abbrev pub ticks_of : Wait → ℕ
ticks_of wait = wait.ticks

-- the ticks of the waits of message m alone
abbrev of_message : ℕ → Wait → ℕ
of_message m wait = cond (wait.message == m) wait.ticks 0

one_wait : (f : Wait → ℕ) (m : ℕ) (on by : Option ℕ) (ticks x : ℕ) → f (record { message = m; on = on; by = by; ticks = ticks }) ≡ x → (ticks ≡ 0 → x ≡ 0)
    → sum_by f (wait_of m on by ticks) ≡ x
one_wait f m on by ticks x is none =
    let w : Wait = record { message = m; on = on; by = by; ticks = ticks } in
    cond_both (ltb 0 ticks) (w ∷ []) [] (λ ws. sum_by f ws ≡ x)
    (λ some. let cons = sum_by-cons f w [] in omega (arith, cons, is))
    (λ no_more. sym (none (let less : ticks ≤ 0 = ltb-false 0 ticks no_more in omega (arith, less))))

-- the ticks of the waits of a message, each weighed by what tells of the message alone
abbrev weighed : (ℕ → Bool) → Wait → ℕ
weighed counts wait = cond (counts wait.message) wait.ticks 0

weight : (b : Bool) (ticks more : ℕ) → cond b ticks 0 + cond b more 0 ≡ cond b (ticks + more) 0
weight true ticks more = refl
weight false ticks more = refl

none_weighed : (b : Bool) (ticks : ℕ) → ticks ≡ 0 → cond b ticks 0 ≡ 0
none_weighed true ticks none = none
none_weighed false ticks none = refl

sum_in : (counts : ℕ → Bool) (work : Work) (start : ℕ → ℕ) (m : ℕ) (link by : Option ℕ)
    → sum_by (weighed counts) (waits_in work start m link by)
    ≡ cond (counts m) ((ready_of work start m link - issue_of work start m) + (start m - ready_of work start m link)) 0
sum_in counts work start m link by =
    let ready = ready_of work start m link in
    let ticks = ready - issue_of work start m in
    let more = start m - ready in
    let first = one_wait (weighed counts) m link by ticks (cond (counts m) ticks 0) refl (none_weighed (counts m) ticks) in
    let second = one_wait (weighed counts) m None None more (cond (counts m) more 0) refl (none_weighed (counts m) more) in
    sum_by-append (weighed counts) (wait_of m link by ticks) (wait_of m None None more)
    ∙ ap (λ x. x + sum_by (weighed counts) (wait_of m None None more)) first ∙ ap (λ x. cond (counts m) ticks 0 + x) second
    ∙ weight (counts m) ticks more

-- from the issue to the start
all_of_it : (before : ℕ → ℕ → Type 0) (work : Work) (start : ℕ → ℕ) (m : ℕ) (link : Option ℕ) → IsWaitedFor before work start m link → Obeys before work start
    → (ready_of work start m link - issue_of work start m) + (start m - ready_of work start m link) ≡ start m - issue_of work start m
all_of_it before work start m None is obeys = omega arith
all_of_it before work start m (Some i) is obeys =
    let later : issue_of work start m < finish_of work start i = is.1 in
    let done : finish_of work start i ≤ start m = obeys.ordered i m is.0.one in
    omega (arith, later, done)

sum_upto : (f : Wait → ℕ) (work : Work) (start : ℕ → ℕ) (links locks : List (Option ℕ)) (n : ℕ)
    → sum_by f (waits_upto work start links locks n) ≡ sum_by (λ m. sum_by f (waits_at work start links locks m)) (range_with_len 1 n)
sum_upto f work start links locks zero = refl
sum_upto f work start links locks (suc n) =
    let next : n + 1 ≡ suc n = omega arith in
    let each : ℕ → ℕ = λ m. sum_by f (waits_at work start links locks m) in
    ap (sum_by f) (upto_more work start links locks n (suc n) next)
    ∙ sum_by-append f (waits_upto work start links locks n) (waits_at work start links locks (suc n))
    ∙ ap (λ x. x + each (suc n)) (sum_upto f work start links locks n)
    ∙ ap (λ k. sum_by each (range_with_len 1 n) + each k) (sym next)
    ∙ sym (sum_more each n)
    ∙ ap (λ k. sum_by each (range_with_len 1 k)) next

module _ (tree : List Node) (assigned : List Held) (before : ℕ → ℕ → Type 0) (work : Work) (start : ℕ → ℕ) (waits : List Wait)
    (are : AreWaits tree assigned before work start waits) (obeys : Obeys before work start) where
  -- what counts of all waits
  all_counted : (counts : ℕ → Bool) → sum_by (weighed counts) waits ≡ sum_by (λ m. cond (counts m) (start m - issue_of work start m) 0) (numbers work)
  all_counted counts =
      ap (sum_by (weighed counts)) are.waits_are ∙ sum_upto (weighed counts) work start are.links are.locks work.count
      ∙ sum_same (λ m. sum_by (weighed counts) (waits_at work start are.links are.locks m)) (λ m. cond (counts m) (start m - issue_of work start m) 0) 1 work.count
      (λ m from to.
      let link = get_or are.links (m - 1) None in
      sum_in counts work start m link (get_or are.locks (m - 1) None)
      ∙ ap (λ x. cond (counts m) x 0) (all_of_it before work start m link (are.are_links m from (omega (arith, to))) obeys))

  pub one_adds_up : (m : ℕ) → IsNumber work m → sum_by (λ wait. cond (wait.message == m) wait.ticks 0) waits ≡ start m - issue_of work start m
  one_adds_up m number =
      let term : ℕ → ℕ = λ k. cond (k == m) (start k - issue_of work start k) 0 in
      let from : 1 ≤ m = number.from in
      let to : m ≤ work.count = number.to in
      let this : term m ≡ start m - issue_of work start m = grind (arith, nat_tests) in
      all_counted (λ k. k == m)
      ∙ sum_one term m 1 work.count from (omega (arith, to)) (λ k low high other. grind (arith, nat_tests, other)) ∙ this

  pub all_add_up : sum_by ticks_of waits ≡ sum_by (λ m. start m - issue_of work start m) (numbers work)
  all_add_up = all_counted (λ m. true)

pub waits_add_up : (tree : List Node) (assigned : List Held) (before : ℕ → ℕ → Type 0) (work : Work) (start : ℕ → ℕ) → WaitsAddUp tree assigned before work start
waits_add_up tree assigned before work start waits m are obeys number = one_adds_up tree assigned before work start waits are obeys m number

-- a list of waits of some ticks each has none of a message whose waits add up to nothing
none_of : (m : ℕ) (waits : List Wait) → All (λ wait. 0 < wait.ticks) waits → sum_by (of_message m) waits ≡ 0 → All (λ wait. wait.message ≡ m → ⊥) waits
none_of m [] some none = All-nil (λ (wait : Wait). wait.message ≡ m → ⊥)
none_of m (w ∷ ws) some none =
    let cons = sum_by-cons (of_message m) w ws in
    let ticks : 0 < w.ticks = some 0 w (omega arith) in
    let first : of_message m w ≡ 0 = omega (arith, cons, none) in
    All-cons (λ (wait : Wait). wait.message ≡ m → ⊥) w ws
    (λ same.
    let here : (w.message == m) ≡ true = grind (arith, nat_tests, same) in
    let all : of_message m w ≡ w.ticks = ap (λ b. cond b w.ticks 0) here in
    omega (arith, first, ticks, all))
    (none_of m ws (All-tail (λ (wait : Wait). 0 < wait.ticks) w ws some) (omega (arith, cons, none)))

pub awaiting_is_no_wait : (tree : List Node) (assigned : List Held) (before : ℕ → ℕ → Type 0) (work : Work) (start : ℕ → ℕ)
    → AwaitingIsNoWait tree assigned before work start
awaiting_is_no_wait tree assigned before work start waits i m are obeys number awaited at_once =
    let issued = awaited-le-issue work start i m awaited in
    let all = one_adds_up tree assigned before work start waits are obeys m number in
    none_of m waits (subst (All (λ wait. 0 < wait.ticks)) (sym are.waits_are) (some_upto work start are.links are.locks work.count))
    (omega (arith, all, issued, at_once))

pub waits_are_once : WaitsAreOnce
waits_are_once alike waits rows laws are k d low =
    let told : Row → ℕ = λ row. cond (alike row.first (get_or waits k d)) 1 0 in
    sum_by-IsPermutation told (rows_by alike waits) rows are.are
    ∙ sum_map told (row_of alike waits) (firsts_by alike waits)
    ∙ each_once alike laws waits k d low

pub ticks_add_up : (tree : List Node) (assigned : List Held) (before : ℕ → ℕ → Type 0) (work : Work) (start : ℕ → ℕ) → TicksAddUp tree assigned before work start
ticks_add_up tree assigned before work start alike waits rows laws are obeys told =
    sum_by-IsPermutation (λ (row : Row). row.ticks) (rows_by alike waits) rows told.are
    ∙ sum_map (λ (row : Row). row.ticks) (row_of alike waits) (firsts_by alike waits)
    ∙ firsts_add_up alike laws ticks_of waits
    ∙ all_add_up tree assigned before work start waits are obeys
