-- The first of all messages, sorted by their latencies, are the worst.
use Rattle.std.proofs.Common.{◌≡◌, ℕ, ◌+◌, ◌-◌, ◌<◌, inl, inr, List, map, map-id, length, get_or, take, min, All, Contains, arith, refl, sym, ◌∙◌, ap, subst, length-take, get_or-take}
use Rattle.std.specs.List.{AllPairs, range_with_len}
use Rattle.std.specs.List.Sorted.{IsPermutation, IsSortedBy, IsStableBy}
use Rattle.std.proofs.lemmas.Bool.{cases_lt}
use Rattle.std.proofs.lemmas.List.{get_or-map, get_or_default, length-map, take-map}
use Rattle.std.proofs.lemmas.List.Elements.{All-take}
use Rattle.std.proofs.lemmas.List.FromFn.{get_or-map-range_with_len, get_or-range_with_len, length-map-range_with_len, length-range_with_len}
use Rattle.std.proofs.lemmas.List.Sorted.{All-permutation, Contains-permutation, IsPermutation-map, length_permutation}
use Rattle.waff_plan.specs.Work.{IsAmongFirst}
use Rattle.waff_figures.specs.Worst.{AreWorst, IsWorse}
use Rattle.waff_figures.specs.declared.worst.Timed.{Timed}
use Rattle.waff_figures.proofs.Falling.{falls, is_above}
use Rattle.waff_figures.proofs.RowLemmas.{map_map}

-- of all messages in order the first are the worst
worst_first : (most count : ℕ) (latency : ℕ → ℕ) (ms : List ℕ) → All (IsAmongFirst count) ms → AllPairs (IsWorse latency) ms → length ms ≡ count
    → ((m : ℕ) → IsAmongFirst count m → Contains ms m) → AreWorst most count latency (take most ms)
worst_first most count latency ms among order many has =
    let long = length-take most ms in
    let at : (k d : ℕ) → k < length (take most ms) → get_or (take most ms) k d ≡ get_or ms k d
    = λ k d low. get_or-take most ms k d (omega (arith, low, long)) in
    record {
      among = All-take (IsAmongFirst count) most ms among;
      order = λ i j d less low.
          subst (λ v. IsWorse latency v (get_or (take most ms) j d)) (sym (at i d (omega (arith, less, low))))
          (subst (IsWorse latency (get_or ms i d)) (sym (at j d low)) (order i j d less (omega (arith, low, long))));
      many = long ∙ ap (min most) many;
      others = λ m known.
          let there = has m known in
          elim (cases_lt there.0 most) [
            | inl early ↦ inl (there.0, omega (arith, early, long, there.1), at there.0 m (omega (arith, early, long, there.1)) ∙ there.2)
            | inr late ↦
                inr (λ k d low.
                let one = order k there.0 d (omega (arith, low, long, late)) there.1 in
                subst (λ v. IsWorse latency v m) (sym (at k d low))
                (subst (IsWorse latency (get_or ms k d)) (get_or_default ms there.0 d m there.1 ∙ there.2) one))
          ];
    }

-- the numbers from 1 on are those of so many messages
range_among : (count : ℕ) → All (IsAmongFirst count) (range_with_len 1 count)
range_among count k d low =
    let inside : k < count = omega (arith, low, length-range_with_len 1 count) in
    subst (IsAmongFirst count) (sym (get_or-range_with_len 1 count k d inside)) (record { from = omega arith; to = omega (arith, inside) })

range_has : (count m : ℕ) → IsAmongFirst count m → Contains (range_with_len 1 count) m
range_has count m is =
    let inside : m - 1 < count = omega (arith, is.from, is.to) in
    let this : 1 + (m - 1) ≡ m = omega (arith, is.from) in
    (m - 1, omega (arith, inside, length-range_with_len 1 count), get_or-range_with_len 1 count (m - 1) m inside ∙ this)

-- a message with this latency
abbrev pub timed_by : (ℕ → ℕ) → ℕ → Timed
timed_by latency m = record { message = m; latency = latency m }

abbrev pub number : Timed → ℕ
number timed = timed.message

abbrev taken : Timed → ℕ
taken timed = timed.latency

-- the one message arrived earlier
abbrev Earlier : Timed → Timed → Type 0
Earlier one other = one.message < other.message

module _ (latency : ℕ → ℕ) (count : ℕ) (xs ys : List Timed) (are : xs ≡ map (timed_by latency) (range_with_len 1 count)) (moved : IsPermutation xs ys) where
  in_arrival : AllPairs Earlier xs
  in_arrival = subst (AllPairs Earlier) (sym are) (λ i j d less low.
      let inside : j < count = omega (arith, low, length-map-range_with_len (timed_by latency) 1 count) in
      let one = ap number (get_or-map-range_with_len (timed_by latency) 1 count i (1 + i) d (omega (arith, less, inside)) (omega arith)) in
      let other = ap number (get_or-map-range_with_len (timed_by latency) 1 count j (1 + j) d inside (omega arith)) in
      omega (arith, less, one, other))

  timed_so : All (λ timed. timed.latency ≡ latency timed.message) ys
  timed_so = All-permutation (λ timed. timed.latency ≡ latency timed.message) xs ys moved
      (subst (All (λ timed. timed.latency ≡ latency timed.message)) (sym are) (λ k d low.
      let inside : k < count = omega (arith, low, length-map-range_with_len (timed_by latency) 1 count) in
      let is = get_or-map-range_with_len (timed_by latency) 1 count k (1 + k) d inside (omega arith) in
      subst (λ (timed : Timed). timed.latency ≡ latency timed.message) (sym is) refl))

  numbered : map number xs ≡ range_with_len 1 count
  numbered = ap (map number) are ∙ sym (map_map number (timed_by latency) (range_with_len 1 count)) ∙ map-id (range_with_len 1 count)

  moved_numbers : IsPermutation (range_with_len 1 count) (map number ys)
  moved_numbers = subst (λ ms. IsPermutation ms (map number ys)) numbered (IsPermutation-map number xs ys moved)

  pub worst_sorted : (most : ℕ) → IsSortedBy (is_above taken) ys → IsStableBy (is_above taken) xs ys
      → AreWorst most count latency (map number (take most ys))
  worst_sorted most sorted stable =
      let down = falls taken Earlier xs ys in_arrival sorted stable in
      let ordered : AllPairs (IsWorse latency) (map number ys) = λ i j d less low.
      let inside : j < length ys = omega (arith, low, length-map ys number) in
      let e : Timed = record { message = d; latency = 0 } in
      let one = get_or ys i e in
      let other = get_or ys j e in
      let at_one = timed_so i e (omega (arith, less, inside)) in
      let at_other = timed_so j e inside in
      subst (λ v. IsWorse latency v (get_or (map number ys) j d)) (sym (get_or-map number ys i e d (omega (arith, less, inside))))
      (subst (IsWorse latency one.message) (sym (get_or-map number ys j e d inside)) (elim (down i j e less inside) [
        | inl fewer ↦ inl (omega (arith, fewer, at_one, at_other))
        | inr same ↦ inr (sym at_one ∙ same.0 ∙ at_other, same.1)
      ])) in
      subst (AreWorst most count latency) (take-map number most ys)
      (worst_first most count latency (map number ys) (All-permutation (IsAmongFirst count) (range_with_len 1 count) (map number ys) moved_numbers (range_among count))
      ordered (length_permutation (range_with_len 1 count) (map number ys) moved_numbers ∙ length-range_with_len 1 count)
      (λ m known. Contains-permutation (range_with_len 1 count) (map number ys) m moved_numbers (range_has count m known)))

-- what holds of the numbers holds of the messages
pub numbers_known : (count : ℕ) (items : List Timed) → All (IsAmongFirst count) (map number items) → All (λ timed. IsAmongFirst count timed.message) items
numbers_known count items all k d low =
    subst (IsAmongFirst count) (get_or-map number items k d d.message low) (all k d.message (omega (arith, low, length-map items number)))
