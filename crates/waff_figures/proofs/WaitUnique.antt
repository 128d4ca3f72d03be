-- The waits of a plan are one list, and so are their rows.
use Rattle.std.proofs.Common.{◌≡◌, ℕ, zero, suc, ◌+◌, ◌-◌, ◌<◌, ◌≤◌, inl, inr, Bool, List, ◌++◌, length, get_or, Contains, Option, Some, None, arith, refl, sym, ◌∙◌, ap, subst}
use Rattle.std.specs.Cmp.{IsEquivalence}
use Rattle.std.specs.Cmp.Lexicographic.{options_equiv}
use Rattle.std.specs.Option.{IsSome, is_some}
use Rattle.std.proofs.lemmas.Bool.{false≢true}
use Rattle.std.proofs.lemmas.Cmp.{and_equiv, nat_eq_equiv, on_equiv}
use Rattle.std.proofs.lemmas.List.Sorted.{Contains-permutation, IsPermutation-sym}
use Rattle.waff_model.specs.Tree.{Node}
use Rattle.waff_model.specs.Unique.{AtMostOne}
use Rattle.waff_model.specs.declared.message.Version.{Version}
use Rattle.waff_model.specs.declared.message.Version.TheVariants.{V1, V2, V3, V4}
use Rattle.waff_assign.specs.Held.{Held}
use Rattle.waff_assign.specs.Order.{Relation, affinity_of}
use Rattle.waff_plan.specs.Obeys.{AwaitsEarlier}
use Rattle.waff_plan.specs.Serving.{IsStartedBefore, started_before}
use Rattle.waff_plan.specs.Unique.{AreSame}
use Rattle.waff_plan.specs.Waited.{AreWaitedFor, IsWaitedFor}
use Rattle.waff_plan.specs.Work.{Work, IsNumber, finish_of, issue_of}
use Rattle.waff_plan.proofs.Holding.{same_issue}
use Rattle.waff_figures.specs.Waits.{AreWaits, ComesFirst, ready_of, wait_of, waits_in}
use Rattle.waff_figures.specs.WaitLaws.{RowsAreOne}
use Rattle.waff_figures.specs.WaitRows.{AreRows, StandsBefore, rows_by}
use Rattle.waff_figures.specs.WaitText.{are_alike, name_at}
use Rattle.waff_figures.specs.declared.grouping.Grouping.{Grouping}
use Rattle.waff_figures.specs.declared.grouping.Grouping.TheVariants.{Affinity, Name}
use Rattle.waff_figures.specs.declared.wait_rows.Row.{Row}
use Rattle.waff_figures.specs.declared.waits.Wait.{Wait}
use Rattle.waff_figures.proofs.Lists.{bytes_laws, same_order}
use Rattle.waff_figures.proofs.LocksWaited.{by_is_one}
use Rattle.waff_figures.proofs.WaitLemmas.{first_known, upto_more, waits_at, waits_upto}

-- plans with the same starts have the same links, and the same waits
module _ (before : ℕ → ℕ → Type 0) (work : Work) (known : (i m : ℕ) → before i m → IsNumber work i) (follows : AwaitsEarlier work) (start other : ℕ → ℕ)
    (same : AreSame work start other) where
  same_finish : (i m : ℕ) → before i m → finish_of work start i ≡ finish_of work other i
  same_finish i m pair = ap (λ s. s + work.cost i) (same i (known i m pair))

  pub same_issued : (m : ℕ) → issue_of work start m ≡ issue_of work other m
  same_issued m = same_issue work start other m (λ f follow.
      let is = follows f m follow in
      same f (record { from = is.from; to = omega (arith, is.earlier, is.to) }))

  pub link_is_one : (m : ℕ) (a b : Option ℕ) → IsWaitedFor before work start m a → IsWaitedFor before work other m b → a ≡ b
  link_is_one m None None first second = refl
  link_is_one m None (Some j) first second =
      let pair = second.0.one in
      let later : issue_of work other m < finish_of work other j = second.1 in
      let done : finish_of work start j ≤ issue_of work start m = first j pair in
      absurd (omega (arith, later, done, same_finish j m pair, same_issued m))
  link_is_one m (Some i) None first second =
      let pair = first.0.one in
      let later : issue_of work start m < finish_of work start i = first.1 in
      let done : finish_of work other i ≤ issue_of work other m = second i pair in
      absurd (omega (arith, later, done, same_finish i m pair, same_issued m))
  link_is_one m (Some i) (Some j) first second =
      let one = first.0.one in
      let two = second.0.one in
      let at_one = same_finish i m one in
      let at_two = same_finish j m two in
      let below : finish_of work start j ≤ finish_of work start i = first.0.latest j two in
      let above : finish_of work other i ≤ finish_of work other j = second.0.latest i one in
      let no_higher : i ≤ j = first.0.lowest j two (omega (arith, below, above, at_one, at_two)) in
      let no_lower : j ≤ i = second.0.lowest i one (omega (arith, below, above, at_one, at_two)) in
      let equal : i ≡ j = omega (arith, no_higher, no_lower) in
      ap Some equal

  pub same_ready : (m : ℕ) (link : Option ℕ) → IsWaitedFor before work start m link → ready_of work start m link ≡ ready_of work other m link
  same_ready m None is = same_issued m
  same_ready m (Some i) is = same_finish i m is.0.one

  same_waits_in : (m : ℕ) (a b by also : Option ℕ) → IsNumber work m → IsWaitedFor before work start m a → IsWaitedFor before work other m b → by ≡ also
      → waits_in work start m a by ≡ waits_in work other m b also
  same_waits_in m a b by also number first second locks =
      let waits : ℕ → ℕ → ℕ → List Wait = λ issue ready s. wait_of m a by (ready - issue) ++ wait_of m None None (s - ready) in
      ap (λ i. waits i (ready_of work start m a) (start m)) (same_issued m)
      ∙ ap (λ r. waits (issue_of work other m) r (start m)) (same_ready m a first)
      ∙ ap (waits (issue_of work other m) (ready_of work other m a)) (same m number)
      ∙ ap (λ link. waits_in work other m link by) (link_is_one m a b first second) ∙ ap (waits_in work other m b) locks

  same_upto : (links other_links locks other_locks : List (Option ℕ)) → AreWaitedFor before work start work.count links
      → AreWaitedFor before work other work.count other_links
      → ((m : ℕ) → IsNumber work m → get_or locks (m - 1) None ≡ get_or other_locks (m - 1) None)
      → (n : ℕ) → n ≤ work.count → waits_upto work start links locks n ≡ waits_upto work other other_links other_locks n
  same_upto links other_links locks other_locks are other_are by zero within = refl
  same_upto links other_links locks other_locks are other_are by (suc n) within =
      let next : n + 1 ≡ suc n = omega arith in
      let from : 1 ≤ suc n = omega arith in
      let this = same_waits_in (suc n) (get_or links (suc n - 1) None) (get_or other_links (suc n - 1) None) (get_or locks (suc n - 1) None) (get_or other_locks (suc n - 1) None)
      (record { from = from; to = within }) (are (suc n) from within) (other_are (suc n) from within) (by (suc n) (record { from = from; to = within })) in
      upto_more work start links locks n (suc n) next
      ∙ ap (λ ws. ws ++ waits_at work start links locks (suc n)) (same_upto links other_links locks other_locks are other_are by n (omega (arith, within)))
      ∙ ap (λ ws. waits_upto work other other_links other_locks n ++ ws) this
      ∙ sym (upto_more work other other_links other_locks n (suc n) next)

  pub same_waits : (tree : List Node) (assigned : List Held) → length assigned ≡ work.count → (waits other_waits : List Wait)
      → AreWaits tree assigned before work start waits → AreWaits tree assigned before work other other_waits → waits ≡ other_waits
  same_waits tree assigned count waits other_waits are other_are =
      are.waits_are
      ∙ same_upto are.links other_are.links are.locks other_are.locks are.are_links other_are.are_links
      (λ m number.
      let from : 1 ≤ m = number.from in
      let to : m ≤ work.count = number.to in
      by_is_one tree assigned m (get_or are.links (m - 1) None) (get_or other_are.links (m - 1) None) (get_or are.locks (m - 1) None) (get_or other_are.locks (m - 1) None)
      (link_is_one m (get_or are.links (m - 1) None) (get_or other_are.links (m - 1) None) (are.are_links m from to) (other_are.are_links m from to))
      (are.are_locks m from (omega (arith, to, count))) (other_are.are_locks m from (omega (arith, to, count))))
      work.count (omega arith)
      ∙ sym other_are.waits_are

not_some : (o : Option ℕ) → IsSome o → o ≡ None → ⊥
not_some o some none = false≢true (sym (ap is_some none) ∙ some)

-- of two waits one alone comes first
one_comes_first : (w v : Wait) → ComesFirst w v → ComesFirst v w → ⊥
one_comes_first w v (inl less) (inl more) = omega (arith, less, more)
one_comes_first w v (inl less) (inr same) = omega (arith, less, same.0)
one_comes_first w v (inr same) (inl less) = omega (arith, less, same.0)
one_comes_first w v (inr same) (inr other) = not_some w.on same.1 other.2

one_stands_before : (r s : Row) → StandsBefore r s → StandsBefore s r → ⊥
one_stands_before r s (inl more) (inl less) = omega (arith, more, less)
one_stands_before r s (inl more) (inr same) = omega (arith, more, same.0)
one_stands_before r s (inr same) (inl more) = omega (arith, more, same.0)
one_stands_before r s (inr same) (inr other) = one_comes_first r.first s.first same.1 other.1

-- the rows are the same, in the same order
same_rows : (alike : Wait → Wait → Bool) (waits : List Wait) → AtMostOne (AreRows alike waits)
same_rows alike waits rows other are other_are =
    let into : (one another : List Row) → AreRows alike waits one → AreRows alike waits another → (row : Row) → Contains one row → Contains another row
    = λ one another p q row has.
    Contains-permutation (rows_by alike waits) another row q.are
    (Contains-permutation one (rows_by alike waits) row (IsPermutation-sym (rows_by alike waits) one p.are) has) in
    same_order StandsBefore one_stands_before rows other are.order other_are.order (into rows other are other_are) (into other rows other_are are)

-- what was waited for by one of two relations that are the same
module _ (before again : Relation) (work : Work) (start : ℕ → ℕ) (into : (i m : ℕ) → before i m → again i m) (back : (i m : ℕ) → again i m → before i m) where
  pub waited_again : (m : ℕ) (link : Option ℕ) → IsWaitedFor before work start m link → IsWaitedFor again work start m link
  waited_again m None is = λ i pair. is i (back i m pair)
  waited_again m (Some i) is = (
    record {
      one = into i m is.0.one;
      latest = λ j pair. is.0.latest j (back j m pair);
      lowest = λ j pair level. is.0.lowest j (back j m pair) level;
    },
    is.1,
  )

  waits_again : (tree : List Node) (assigned : List Held) (waits : List Wait) → AreWaits tree assigned before work start waits
      → AreWaits tree assigned again work start waits
  waits_again tree assigned waits are = record {
    links = are.links;
    locks = are.locks;
    are_links = λ m from to. waited_again m (get_or are.links (m - 1) None) (are.are_links m from to);
    are_locks = are.are_locks;
    waits_are = are.waits_are;
  }

-- plans with the same starts start first what the other does
starts_same : (tree : List Node) (assigned : List Held) (work : Work) → length assigned ≡ work.count → (start other : ℕ → ℕ) → AreSame work start other
    → (i j : ℕ) → IsStartedBefore tree assigned start i j → IsStartedBefore tree assigned other i j
starts_same tree assigned work count start other same i j pair =
    let one = same i (record { from = pair.first.from; to = omega (arith, pair.first.to, count) }) in
    let two = same j (record { from = pair.second.from; to = omega (arith, pair.second.to, count) }) in
    record { first = pair.first; second = pair.second; precedes = omega (arith, pair.precedes, one, two); excludes = pair.excludes }

pub started_same : (version : Version) (tree : List Node) (assigned : List Held) (work : Work) → length assigned ≡ work.count → (start other : ℕ → ℕ)
    → AreSame work start other → (i j : ℕ) → started_before version tree assigned start i j → started_before version tree assigned other i j
started_same V1 tree assigned work count start other same i j pair = pair
started_same V2 tree assigned work count start other same i j pair = pair
started_same V3 tree assigned work count start other same i j pair = starts_same tree assigned work count start other same i j pair
started_same V4 tree assigned work count start other same i j pair = starts_same tree assigned work count start other same i j pair

pub rows_are_one : (version : Version) (tree : List Node) (assigned : List Held) (work : Work) → RowsAreOne version tree assigned work
rows_are_one version tree assigned work alike start other waits other_waits rows other_rows count follows same are other_are told other_told =
    let before = started_before version tree assigned start in
    let back : AreSame work other start = λ m number. sym (same m number) in
    let again = waits_again (started_before version tree assigned other) before work other (started_same version tree assigned work count other start back)
    (started_same version tree assigned work count start other same) tree assigned other_waits other_are in
    let known : (i m : ℕ) → before i m → IsNumber work i
    = λ i m pair. let is = first_known version tree assigned start i m pair in record { from = is.from; to = omega (arith, is.to, count) } in
    let equal = same_waits before work known follows start other same tree assigned count waits other_waits are again in
    same_rows alike other_waits rows other_rows (subst (λ ws. AreRows alike ws rows) equal told) other_told

-- messages are alike by an equivalence
pub alike_laws : (grouping : Grouping) (assigned : List Held) (names : List (List ℕ)) → IsEquivalence (are_alike grouping assigned names)
alike_laws Affinity assigned names = on_equiv (affinity_of assigned) (options_equiv nat_eq_equiv)
alike_laws Name assigned names = and_equiv (on_equiv (name_at names) bytes_laws) (on_equiv (affinity_of assigned) (options_equiv nat_eq_equiv))
