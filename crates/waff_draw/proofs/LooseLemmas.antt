-- The lanes of messages that have no affinity, one message after another.
use Rattle.std.proofs.Common.{◌≡◌, ℕ, zero, suc, ◌+◌, ◌-◌, ◌<◌, ◌≤◌, Bool, cond, not, true, false, nat_le, nat_lt, max, List, [], ◌∷◌, ◌++◌, All, Less, Equal, Greater, Ordering, Option, Some, None, replicate, refl, fold, get_or, length, set, take, arith, sym, ◌∙◌, ap}
use Rattle.std.specs.BTreeMap.{insert_entry}
use Rattle.std.specs.List.{range_with_len}
use Rattle.std.specs.Option.{is_none, is_some, option_map}
use Rattle.std.specs.Ordering.{match_ordering, nat_cmp}
use Rattle.std.proofs.lemmas.Bool.{false≢true}
use Rattle.std.proofs.lemmas.Bool.Decides.{nat_tests}
use Rattle.std.proofs.lemmas.List.{take_more}
use Rattle.std.proofs.lemmas.List.Elements.{All-cons, All-head, All-tail}
use Rattle.std.proofs.lemmas.List.Sums.{fold-append}
use Rattle.waff_model.specs.Tree.{Node}
use Rattle.waff_assign.specs.Held.{AreKnown, AreUnlocked, Held}
use Rattle.waff_assign.specs.Order.{affinity_of}
use Rattle.waff_assign.proofs.Holding.{affinity_unlocked}
use Rattle.waff_plan.proofs.Longest.{range_with_len_more}
use Rattle.waff_draw.specs.Loose.{ends_with, first_free, lanes_over, loose_entries, no_lanes, start_key, with_loose, with_message}

-- the first lane that is free
pub free_here : (tick end : ℕ) (ends : List ℕ) → end ≤ tick → first_free tick (end ∷ ends) ≡ 0
free_here tick end ends done =
    let pass : nat_le end tick ≡ true = grind (arith, nat_tests, done) in
    ap (λ b. cond b 0 (first_free tick ends + 1)) pass

pub free_later : (tick end : ℕ) (ends : List ℕ) → tick < end → first_free tick (end ∷ ends) ≡ first_free tick ends + 1
free_later tick end ends busy =
    let fails : nat_le end tick ≡ false = grind (arith, nat_tests, busy) in
    ap (λ b. cond b 0 (first_free tick ends + 1)) fails

-- the lanes with one more message
pub ends_taken : (ends : List ℕ) (lane finish : ℕ) → lane < length ends → ends_with ends lane finish ≡ set ends lane (max finish (get_or ends lane 0))
ends_taken ends lane finish low =
    let pass : nat_lt lane (length ends) ≡ true = grind (arith, nat_tests, low) in
    ap (λ b. cond b (set ends lane (max finish (get_or ends lane 0))) (ends ++ finish ∷ [])) pass

pub ends_more : (ends : List ℕ) (lane finish : ℕ) → length ends ≤ lane → ends_with ends lane finish ≡ ends ++ finish ∷ []
ends_more ends lane finish past =
    let fails : nat_lt lane (length ends) ≡ false = grind (arith, nat_tests, past) in
    ap (λ b. cond b (set ends lane (max finish (get_or ends lane 0))) (ends ++ finish ∷ [])) fails

pub lanes_more : (start finish : ℕ → ℕ) (count : ℕ) (order : List ℕ) (i : ℕ) → i < length order
    → lanes_over start finish count (take (i + 1) order) ≡ with_message start finish (lanes_over start finish count (take i order)) (get_or order i 0)
lanes_more start finish count order i low =
    ap (fold (with_message start finish) (no_lanes count)) (take_more order i 0 low)
    ∙ fold-append (with_message start finish) (no_lanes count) (take i order) (get_or order i 0 ∷ [])

-- the messages in order, with one more
pub entries_more : (assigned : List Held) (start : ℕ → ℕ) (n : ℕ) → 1 ≤ n
    → loose_entries assigned start (n + 1 - 1) ≡ with_loose assigned start (loose_entries assigned start (n - 1)) n
entries_more assigned start n from =
    let at : 1 + (n - 1) ≡ n = omega (arith, from) in
    let next : n + 1 - 1 ≡ n - 1 + 1 = omega (arith, from) in
    ap (loose_entries assigned start) next
    ∙ ap (fold (with_loose assigned start) []) (range_with_len_more 1 (n - 1) n at)
    ∙ fold-append (with_loose assigned start) [] (range_with_len 1 (n - 1)) (n ∷ [])

-- what holds of all of them
any_order : {X : Type 0} (P : X → Type 0) (a b c : List X) → All P a → All P b → All P c → (o : Ordering) → All P (match_ordering o a b c)
any_order P a b c less same greater Less = less
any_order P a b c less same greater Equal = same
any_order P a b c less same greater Greater = greater

pub insert_known : (P : ℕ → Type 0) (entries : List (ℕ × ℕ)) (k v : ℕ) → All (λ e. P e.1) entries → P v → All (λ e. P e.1) (insert_entry nat_cmp entries k v)
insert_known P [] k v all here = All-cons (λ e. P e.1) (k, v) [] here all
insert_known P (e ∷ es) k v all here =
    let rest = All-tail (λ x. P x.1) e es all in
    any_order (λ x. P x.1) ((k, v) ∷ e ∷ es) ((e.0, v) ∷ es) (e ∷ insert_entry nat_cmp es k v)
    (All-cons (λ x. P x.1) (k, v) (e ∷ es) here all)
    (All-cons (λ x. P x.1) (e.0, v) es here rest)
    (All-cons (λ x. P x.1) e (insert_entry nat_cmp es k v) (All-head (λ x. P x.1) e es all) (insert_known P es k v rest here))
    (nat_cmp k e.0)

-- without locks all messages have affinities
pub none_mapped : {A B : Type 0} (f : A → B) (o : Option A) → is_none (option_map f o) ≡ is_none o
none_mapped f None = refl
none_mapped f (Some x) = refl

pub none_tested : {A : Type 0} (o : Option A) (b : Bool) → not b ≡ is_some o → is_none o ≡ b
none_tested None true h = refl
none_tested None false h = absurd (false≢true (sym h))
none_tested (Some x) true h = absurd (false≢true h)
none_tested (Some x) false h = refl

pub unlocked_entries : (tree : List Node) (assigned : List Held) (start : ℕ → ℕ) → AreKnown tree assigned → AreUnlocked assigned → (n : ℕ)
    → n ≤ length assigned → loose_entries assigned start n ≡ []
unlocked_entries tree assigned start known unlocked zero within = refl
unlocked_entries tree assigned start known unlocked (suc n) within =
    let whole : suc n ≡ suc n + 1 - 1 = omega arith in
    let before : suc n - 1 ≡ n = omega arith in
    let has = affinity_unlocked tree assigned (suc n) known unlocked (omega arith) within in
    let some : is_none (affinity_of assigned (suc n)) ≡ false = ap is_none has.1 in
    let es = loose_entries assigned start (suc n - 1) in
    ap (loose_entries assigned start) whole ∙ entries_more assigned start (suc n) (omega arith)
    ∙ ap (λ b. cond b (insert_entry nat_cmp es (start_key start (suc n)) (suc n)) es) some
    ∙ ap (loose_entries assigned start) before ∙ unlocked_entries tree assigned start known unlocked n (omega (arith, within))

pub zeros : (k n : ℕ) → ◌≡◌ {A = ℕ} (get_or (replicate k 0) n 0) 0
zeros zero n = refl
zeros (suc k) zero = refl
zeros (suc k) (suc n) = zeros k n
