-- The lines of plans with the same starts and the same workers are equal.
use Rattle.std.proofs.Common.{◌≡◌, ℕ, ◌+◌, ◌<◌, List, ◌∷◌, ◌++◌, map, Option, arith, sym, ◌∙◌, ap, subst}
use Rattle.std.proofs.lemmas.List.{same_lists}
use Rattle.std.proofs.lemmas.List.FromFn.{length-map-range_with_len, get_or-map-range_with_len}
use Rattle.waff_model.specs.declared.message.Version.{Version}
use Rattle.waff_model.specs.Tree.{Node}
use Rattle.waff_assign.specs.Order.{affinity_name}
use Rattle.waff_plan.specs.Totals.{totals_of}
use Rattle.waff_plan.specs.Unique.{AreSame}
use Rattle.waff_plan.specs.Work.{Work, IsNumber, numbers}
use Rattle.waff_plan.proofs.Uniqueness.{totals_same}
use Rattle.waff_plan_text.specs.Spelling.{message_row, plan_header, plan_lines, plan_row, summary_lines}
use Rattle.waff_assign.specs.Held.{Held}

-- lists by message that are the same at each message are equal
map_same : {X : Type 0} (work : Work) (f g : ℕ → X) → ((m : ℕ) → IsNumber work m → f m ≡ g m) → map f (numbers work) ≡ map g (numbers work)
map_same work f g same =
    same_lists (map f (numbers work)) (map g (numbers work))
    (length-map-range_with_len f 1 work.count ∙ sym (length-map-range_with_len g 1 work.count))
    (λ k d within.
    let below : k < work.count = subst (λ n. k < n) (length-map-range_with_len f 1 work.count) within in
    get_or-map-range_with_len f 1 work.count k (k + 1) d below (omega arith)
    ∙ same (k + 1) (record { from = omega arith; to = omega arith })
    ∙ sym (get_or-map-range_with_len g 1 work.count k (k + 1) d below (omega arith)))

-- the lines of a plan
pub lines_same : (version : Version) (tree : List Node) (assigned : List Held) (work : Work) (workers : Option ℕ) (start other : ℕ → ℕ)
    (worker other_worker : ℕ → Option ℕ) (chain : List ℕ) → AreSame work start other
    → ((m : ℕ) → IsNumber work m → worker m ≡ other_worker m)
    → plan_lines version tree assigned work workers start worker chain ≡ plan_lines version tree assigned work workers other other_worker chain
lines_same version tree assigned work workers start other worker other_worker chain same same_worker =
    let row = λ (n s : ℕ) (w : Option ℕ). plan_row n (affinity_name tree assigned n) s (s + work.cost n) w in
    let rows = map_same work (message_row tree assigned work start worker) (message_row tree assigned work other other_worker)
    (λ m number. ap (λ s. row m s (worker m)) (same m number) ∙ ap (λ w. row m (other m) w) (same_worker m number)) in
    let totals = totals_same workers work start other chain same in
    ap (λ lines. plan_header ∷ lines ++ summary_lines version workers chain (totals_of workers work start chain)) rows
    ∙ ap (λ t. plan_header ∷ map (message_row tree assigned work other other_worker) (numbers work) ++ summary_lines version workers chain t) totals
