-- Tallies with one message more.
use Rattle.std.proofs.Common.{◌≡◌, ℕ, ◌+◌, ◌-◌, ◌<◌, true, false, inl, inr, cond, List, [], ◌∷◌, ◌++◌, length, get_or, set, count_by, slice_index, All, length-set, arith, refl, sym, ◌∙◌, ap, subst, get_or-set_other, get_or-set_same}
use Rattle.std.proofs.lemmas.Bool.{cases_eq}
use Rattle.std.proofs.lemmas.Bool.Decides.{nat_tests}
use Rattle.std.proofs.lemmas.List.Sums.{sum_by_push}
use Rattle.waff_plan.specs.Work.{Work}
use Rattle.waff_figures.specs.Tally.{cost_among, is_in, no_tally, tally_over}
use Rattle.waff_figures.specs.declared.tally.Tally.{Tally}

pub same_tally : (a b : Tally) → a.messages ≡ b.messages → a.cost ≡ b.cost → a.chain ≡ b.chain → a ≡ b
same_tally a b messages cost chain =
    ap (λ n. let t : Tally = record { messages = n; cost = a.cost; chain = a.chain } in t) messages
    ∙ ap (λ n. let t : Tally = record { messages = b.messages; cost = n; chain = a.chain } in t) cost
    ∙ ap (λ n. let t : Tally = record { messages = b.messages; cost = b.cost; chain = n } in t) chain

-- the tallies of groups, of these messages and of these of a chain
abbrev pub AreTallies : Work → List ℕ → List ℕ → List ℕ → List Tally → Type 0
AreTallies work groups messages chain tallies =
    (g : ℕ) → g < length tallies → get_or tallies g no_tally ≡ tally_over work (is_in groups g) messages chain

module _ (work : Work) (groups messages chain : List ℕ) (tallies : List Tally) (n place : ℕ)
    (at : place ≡ slice_index groups (n - 1)) (within : place < length tallies)
    (are : AreTallies work groups messages chain tallies) where
  -- one message more
  pub with_message : (g : ℕ) → g < length tallies → (t : Tally) → t.messages ≡ (get_or tallies place no_tally).messages + 1
      → t.cost ≡ (get_or tallies place no_tally).cost + work.cost n → t.chain ≡ (get_or tallies place no_tally).chain
      → get_or (set tallies place t) g no_tally ≡ tally_over work (is_in groups g) (messages ++ n ∷ []) chain
  with_message g inside t t_messages t_cost t_chain =
      let old = are g inside in
      let counted = sum_by_push (λ m. cond {A = ℕ} (is_in groups g m) 1 0) messages n in
      let costs = sum_by_push (λ m. cond (is_in groups g m) (work.cost m) 0) messages n in
      elim (cases_eq g place) [
        | inl same ↦
            let here : get_or (set tallies place t) g no_tally ≡ t
            = subst (λ x. get_or (set tallies place t) x no_tally ≡ t) (sym same) (get_or-set_same tallies place t no_tally within) in
            let before : get_or tallies place no_tally ≡ tally_over work (is_in groups g) messages chain
            = subst (λ x. get_or tallies x no_tally ≡ tally_over work (is_in groups g) messages chain) same old in
            let is : is_in groups g n ≡ true = grind (arith, nat_tests, at, same) in
            let one : cond {A = ℕ} (is_in groups g n) 1 0 ≡ 1 = ap (λ b. cond {A = ℕ} b 1 0) is in
            let cost : cond (is_in groups g n) (work.cost n) 0 ≡ work.cost n = ap (λ b. cond b (work.cost n) 0) is in
            here ∙ same_tally t (tally_over work (is_in groups g) (messages ++ n ∷ []) chain)
            (t_messages ∙ ap (λ (x : Tally). x.messages + 1) before ∙ sym (counted ∙ ap (λ x. count_by (is_in groups g) messages + x) one))
            (t_cost ∙ ap (λ (x : Tally). x.cost + work.cost n) before ∙ sym (costs ∙ ap (λ x. cost_among work (is_in groups g) messages + x) cost))
            (t_chain ∙ ap (λ (x : Tally). x.chain) before)
        | inr other ↦
            let is : is_in groups g n ≡ false = grind (arith, nat_tests, at, other) in
            let one : cond {A = ℕ} (is_in groups g n) 1 0 ≡ 0 = ap (λ b. cond {A = ℕ} b 1 0) is in
            let cost : cond (is_in groups g n) (work.cost n) 0 ≡ 0 = ap (λ b. cond b (work.cost n) 0) is in
            get_or-set_other tallies place g t no_tally other ∙ old
            ∙ same_tally (tally_over work (is_in groups g) messages chain) (tally_over work (is_in groups g) (messages ++ n ∷ []) chain)
            (omega (arith, counted, one)) (omega (arith, costs, cost)) refl
      ]

  -- one message of the chain more
  pub with_link : (g : ℕ) → g < length tallies → (t : Tally) → t.messages ≡ (get_or tallies place no_tally).messages
      → t.cost ≡ (get_or tallies place no_tally).cost → t.chain ≡ (get_or tallies place no_tally).chain + work.cost n
      → get_or (set tallies place t) g no_tally ≡ tally_over work (is_in groups g) messages (chain ++ n ∷ [])
  with_link g inside t t_messages t_cost t_chain =
      let old = are g inside in
      let costs = sum_by_push (λ m. cond (is_in groups g m) (work.cost m) 0) chain n in
      elim (cases_eq g place) [
        | inl same ↦
            let here : get_or (set tallies place t) g no_tally ≡ t
            = subst (λ x. get_or (set tallies place t) x no_tally ≡ t) (sym same) (get_or-set_same tallies place t no_tally within) in
            let before : get_or tallies place no_tally ≡ tally_over work (is_in groups g) messages chain
            = subst (λ x. get_or tallies x no_tally ≡ tally_over work (is_in groups g) messages chain) same old in
            let is : is_in groups g n ≡ true = grind (arith, nat_tests, at, same) in
            let cost : cond (is_in groups g n) (work.cost n) 0 ≡ work.cost n = ap (λ b. cond b (work.cost n) 0) is in
            here ∙ same_tally t (tally_over work (is_in groups g) messages (chain ++ n ∷ []))
            (t_messages ∙ ap (λ (x : Tally). x.messages) before)
            (t_cost ∙ ap (λ (x : Tally). x.cost) before)
            (t_chain ∙ ap (λ (x : Tally). x.chain + work.cost n) before ∙ sym (costs ∙ ap (λ x. cost_among work (is_in groups g) chain + x) cost))
        | inr other ↦
            let is : is_in groups g n ≡ false = grind (arith, nat_tests, at, other) in
            let cost : cond (is_in groups g n) (work.cost n) 0 ≡ 0 = ap (λ b. cond b (work.cost n) 0) is in
            get_or-set_other tallies place g t no_tally other ∙ old
            ∙ same_tally (tally_over work (is_in groups g) messages chain) (tally_over work (is_in groups g) messages (chain ++ n ∷ []))
            refl refl (omega (arith, costs, cost))
      ]

-- what holds of all of the tallies holds in a weaker form once one is set to another
pub set_all : (P Q : Tally → Type 0) (tallies : List Tally) (place : ℕ) (t : Tally) → place < length tallies → Q t
    → ((x : Tally) → P x → Q x) → All P tallies → All Q (set tallies place t)
set_all P Q tallies place t within now weaker all = λ g d inside. elim (cases_eq g place) [
  | inl same ↦
      subst (λ x. Q (get_or (set tallies place t) x d)) (sym same) (subst Q (sym (get_or-set_same tallies place t d within)) now)
  | inr other ↦
      subst Q (sym (get_or-set_other tallies place g t d other))
      (weaker (get_or tallies g d) (all g d (subst (λ n. g < n) (length-set tallies place t) inside)))
]
