-- The waits of the first messages, one message after another.
use Rattle.std.proofs.Common.{◌≡◌, ℕ, zero, suc, ◌+◌, ◌-◌, ◌<◌, ◌≤◌, inl, inr, List, [], ◌∷◌, ◌++◌, length, get_or, ltb, All, Option, Some, None, IfSome, arith, refl, sym, ◌∙◌, ap, subst, append_assoc}
use Rattle.std.specs.List.{AllPairs, flat_map, range_with_len}
use Rattle.std.proofs.lemmas.Bool.{cond_both, ltb-true}
use Rattle.std.proofs.lemmas.List.{append-nil, flat_map_more, get_or_default}
use Rattle.std.proofs.lemmas.List.Elements.{All-nil, All-push}
use Rattle.std.proofs.lemmas.List.Quantifiers.{all_pairs_push}
use Rattle.waff_model.specs.Tree.{Node}
use Rattle.waff_model.specs.declared.message.Version.{Version}
use Rattle.waff_model.specs.declared.message.Version.TheVariants.{V1, V2, V3, V4}
use Rattle.waff_assign.specs.Held.{Held}
use Rattle.waff_assign.specs.Order.{Relation}
use Rattle.waff_plan.specs.Serving.{started_before}
use Rattle.waff_plan.specs.Waited.{AreWaitedFor, IsWaitedFor}
use Rattle.waff_plan.specs.Work.{Work, IsAmongFirst, finish_of, issue_of}
use Rattle.waff_plan.proofs.Longest.{range_with_len_more}
use Rattle.waff_figures.specs.Waits.{ComesFirst, IsWaitAmong, ready_of, wait_of, waits_in}
use Rattle.waff_figures.specs.declared.waits.Wait.{Wait}

abbrev wait : ℕ → Option ℕ → Option ℕ → ℕ → Wait
wait m on by ticks = record { message = m; on = on; by = by; ticks = ticks }

-- a wait that is there or not: what holds without it, and holds with it, holds
pub wait_pushed : (P : List Wait → Type 0) (ws : List Wait) (m : ℕ) (on by : Option ℕ) (ticks : ℕ) → P ws
    → (0 < ticks → P (ws ++ wait m on by ticks ∷ [])) → P (ws ++ wait_of m on by ticks)
wait_pushed P ws m on by ticks old new =
    cond_both (ltb 0 ticks) (wait m on by ticks ∷ []) [] (λ l. P (ws ++ l))
    (λ some. new (ltb-true 0 ticks some))
    (λ none. subst P (sym (append-nil ws)) old)

-- waits of messages up to n among so many, in order
pub record AreSoFar (count n : ℕ) (ws : List Wait) : Type 0 where
  pub order : AllPairs ComesFirst ws
  pub passed : All (λ w. w.message ≤ n) ws
  pub among : All (IsWaitAmong count) ws

pub none_so_far : (count n : ℕ) → AreSoFar count n []
none_so_far count n = record {
  order = λ i j d less low. absurd (omega (arith, less, low));
  passed = All-nil (λ (w : Wait). w.message ≤ n);
  among = All-nil (IsWaitAmong count);
}

module _ (count n m : ℕ) (next : n + 1 ≡ m) (within : m ≤ count) where
  among : (on by : Option ℕ) (ticks : ℕ) → IfSome on (IsAmongFirst count) → IsWaitAmong count (wait m on by ticks)
  among on by ticks known = record { message = record { from = omega (arith, next); to = within }; on = known }

  -- one wait of the next message
  one_more : (on by : Option ℕ) (ticks : ℕ) → IfSome on (IsAmongFirst count) → (ws : List Wait) → AreSoFar count n ws
      → AreSoFar count m (ws ++ wait m on by ticks ∷ [])
  one_more on by ticks known ws are = record {
    order = all_pairs_push ComesFirst ws (wait m on by ticks) are.order (λ k d low.
        let passed = are.passed k d low in
        inl (omega (arith, passed, next)));
    passed = All-push (λ (w : Wait). w.message ≤ m) ws (wait m on by ticks) (λ k d low. let passed = are.passed k d low in omega (arith, passed, next)) (omega arith);
    among = All-push (IsWaitAmong count) ws (wait m on by ticks) are.among (among on by ticks known);
  }

  -- no wait of the next message
  none_more : (ws : List Wait) → AreSoFar count n ws → AreSoFar count m ws
  none_more ws are = record {
    order = are.order;
    passed = λ k d low. let passed = are.passed k d low in omega (arith, passed, next);
    among = are.among;
  }

  -- a wait of the next message for another message, and one for a worker
  two_more : (i : ℕ) (by : Option ℕ) (ticks more : ℕ) → IsAmongFirst count i → (ws : List Wait) → AreSoFar count n ws
      → AreSoFar count m ((ws ++ wait m (Some i) by ticks ∷ []) ++ wait m None None more ∷ [])
  two_more i by ticks more known ws are =
      let first = wait m (Some i) by ticks in
      let second = wait m None None more in
      let old = one_more (Some i) by ticks known ws are in
      record {
        order = all_pairs_push ComesFirst (ws ++ first ∷ []) second old.order
            (All-push (λ v. ComesFirst v second) ws first (λ k d low. let passed = are.passed k d low in inl (omega (arith, passed, next)))
            (inr (refl, refl, refl)));
        passed = All-push (λ (w : Wait). w.message ≤ m) (ws ++ first ∷ []) second old.passed (omega arith);
        among = All-push (IsWaitAmong count) (ws ++ first ∷ []) second old.among (among None None more tt);
      }

  pub so_far_more : (work : Work) (start : ℕ → ℕ) (link by : Option ℕ) → IfSome link (IsAmongFirst count) → (ws : List Wait) → AreSoFar count n ws
      → AreSoFar count m (ws ++ waits_in work start m link by)
  so_far_more work start None by known ws are =
      let issue = issue_of work start m in
      let nothing = wait_of m None by (issue - issue) in
      subst (AreSoFar count m) (append_assoc ws nothing (wait_of m None None (start m - issue)))
      (wait_pushed (λ l. AreSoFar count m (l ++ wait_of m None None (start m - issue))) ws m None by (issue - issue)
      (wait_pushed (AreSoFar count m) ws m None None (start m - issue) (none_more ws are) (λ some. one_more None None (start m - issue) tt ws are))
      (λ some. absurd (omega (arith, some))))
  so_far_more work start (Some i) by known ws are =
      let ready = finish_of work start i in
      let ticks = ready - issue_of work start m in
      let more = start m - ready in
      subst (AreSoFar count m) (append_assoc ws (wait_of m (Some i) by ticks) (wait_of m None None more))
      (wait_pushed (λ l. AreSoFar count m (l ++ wait_of m None None more)) ws m (Some i) by ticks
      (wait_pushed (AreSoFar count m) ws m None None more (none_more ws are) (λ some. one_more None None more tt ws are))
      (λ waits. wait_pushed (AreSoFar count m) (ws ++ wait m (Some i) by ticks ∷ []) m None None more (one_more (Some i) by ticks known ws are)
      (λ some. two_more i by ticks more known ws are)))

module _ (work : Work) (start : ℕ → ℕ) (links locks : List (Option ℕ)) where
  -- the waits of message m
  abbrev pub waits_at : ℕ → List Wait
  waits_at m = waits_in work start m (get_or links (m - 1) None) (get_or locks (m - 1) None)

  -- the waits of the first n messages
  abbrev pub waits_upto : ℕ → List Wait
  waits_upto n = flat_map waits_at (range_with_len 1 n)

  pub upto_more : (n m : ℕ) → n + 1 ≡ m → waits_upto m ≡ waits_upto n ++ waits_at m
  upto_more n m next =
      ap (λ k. waits_upto k) (sym next) ∙ ap (λ ms. flat_map waits_at ms) (range_with_len_more 1 n m (omega (arith, next)))
      ∙ sym (flat_map_more waits_at [] (range_with_len 1 n) m)

  -- each of them is of some ticks
  some_at : (m : ℕ) (on by : Option ℕ) (ticks : ℕ) (ws : List Wait) → All (λ w. 0 < w.ticks) ws → All (λ w. 0 < w.ticks) (ws ++ wait_of m on by ticks)
  some_at m on by ticks ws old = wait_pushed (All (λ w. 0 < w.ticks)) ws m on by ticks old (λ some. All-push (λ (w : Wait). 0 < w.ticks) ws (wait m on by ticks) old some)

  pub some_upto : (n : ℕ) → All (λ w. 0 < w.ticks) (waits_upto n)
  some_upto zero = All-nil (λ (w : Wait). 0 < w.ticks)
  some_upto (suc n) =
      let m = suc n in
      let link = get_or links (m - 1) None in
      let by = get_or locks (m - 1) None in
      let ready = ready_of work start m link in
      let first = wait_of m link by (ready - issue_of work start m) in
      subst (All (λ w. 0 < w.ticks))
      (append_assoc (waits_upto n) first (wait_of m None None (start m - ready)) ∙ sym (upto_more n m (omega arith)))
      (some_at m None None (start m - ready) (waits_upto n ++ first) (some_at m link by (ready - issue_of work start m) (waits_upto n) (some_upto n)))

  pub upto_so_far : (count n : ℕ) → n ≤ count → ((m : ℕ) → 1 ≤ m → m ≤ count → IfSome (get_or links (m - 1) None) (IsAmongFirst count))
      → AreSoFar count n (waits_upto n)
  upto_so_far count zero within known = none_so_far count 0
  upto_so_far count (suc n) within known =
      let next : n + 1 ≡ suc n = omega arith in
      let old = upto_so_far count n (omega (arith, within)) known in
      subst (AreSoFar count (suc n)) (sym (upto_more n (suc n) next))
      (so_far_more count n (suc n) next within work start (get_or links (suc n - 1) None) (get_or locks (suc n - 1) None) (known (suc n) (omega arith) within) (waits_upto n) old)

-- what starts before another message is one of so many
pub first_known : (version : Version) (tree : List Node) (assigned : List Held) (start : ℕ → ℕ) (i m : ℕ) → started_before version tree assigned start i m
    → IsAmongFirst (length assigned) i
first_known V1 tree assigned start i m pair = record { from = pair.from; to = omega (arith, pair.earlier, pair.to) }
first_known V2 tree assigned start i m pair = record { from = pair.from; to = omega (arith, pair.earlier, pair.to) }
first_known V3 tree assigned start i m pair = pair.first
first_known V4 tree assigned start i m pair = pair.first

-- a message waited for one of the messages
module _ (before : Relation) (count : ℕ) (known : (i m : ℕ) → before i m → IsAmongFirst count i) (work : Work) (start : ℕ → ℕ) where
  link_known : (m : ℕ) (link : Option ℕ) → IsWaitedFor before work start m link → IfSome link (IsAmongFirst count)
  link_known m None is = tt
  link_known m (Some i) is = known i m is.0.one

  pub links_known : (links : List (Option ℕ)) (n : ℕ) → n ≡ count → AreWaitedFor before work start n links
      → (m : ℕ) → 1 ≤ m → m ≤ count → IfSome (get_or links (m - 1) None) (IsAmongFirst count)
  links_known links n same are m from to = link_known m (get_or links (m - 1) None) (are m from (omega (arith, to, same)))

  pub all_links_known : (links : List (Option ℕ)) (n : ℕ) → n ≡ count → length links ≡ n → AreWaitedFor before work start n links
      → All (λ link. IfSome link (IsAmongFirst count)) links
  all_links_known links n same many are k d low =
      let this : k + 1 - 1 ≡ k = omega arith in
      let known = links_known links n same are (k + 1) (omega arith) (omega (arith, low, many, same)) in
      subst (λ link. IfSome link (IsAmongFirst count)) (ap (λ i. get_or links i None) this ∙ get_or_default links k None d low) known
