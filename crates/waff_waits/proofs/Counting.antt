-- What is left of each message goes with the trails, as messages wait and are let go.
use Rattle.std.proofs.Common.{◌≡◌, ◌≢◌, ℕ, nat_eq, ◌+◌, ◌-◌, ◌<◌, ◌≤◌, inl, inr, Bool, List, [], ◌∷◌, ◌++◌, length, get_or, set, replicate, sum_by, Contains, arith, refl, ap, sym, ◌∙◌, subst, get_or-set_same, get_or-set_other, length-set}
use Rattle.std.proofs.lemmas.Bool.{cases_eq, cases_lt}
use Rattle.std.proofs.lemmas.List.{get_or-replicate, get_or_default, get_or_past, length-map, length-replicate, length_push}
use Rattle.std.proofs.lemmas.List.Elements.{All-get_or, Contains-get_or}
use Rattle.std.proofs.lemmas.List.Sums.{count_by-le-length, sum_by-le-sum_by, sum_by-set}
use Rattle.waff_model.specs.Numbers.{IsAmongFirst}
use Rattle.waff_waits.specs.Counted.{AreCounted}
use Rattle.waff_waits.specs.Times.{times}
use Rattle.waff_waits.specs.Trails.{link_at, trail, trails}
use Rattle.waff_waits.specs.Waits.{LetsGo, WaitsForNone, WhoWaits, dependents_of, waiting_for}
use Rattle.waff_waits.specs.declared.link.Link.{Link}
use Rattle.waff_waits.proofs.Each.{contains_first, contains_more, contains_rest_of, none_there}
use Rattle.waff_waits.proofs.TimesLemmas.{sum_none, sum_some, times_cons_other, times_cons_same, times_none, times_some}
use Rattle.waff_waits.proofs.TrailLemmas.{linked_less, linked_more, linked_none, trail_first, trails_less, trail_over, trails_more, trails_none}

-- who waits, by these fields
abbrev pub shown : List ℕ → List Link → List Bool → WhoWaits
shown firsts links finished = record { awaited = trails firsts links; finished = finished }

abbrev none : List ℕ
none = []

long_trails : (firsts : List ℕ) (links : List Link) → length (trails firsts links) ≡ length firsts
long_trails firsts links = length-map firsts (λ n. trail links n n)

-- nobody waits
module _ (n : ℕ) where
  lists : trails (replicate n 0) [] ≡ replicate n none
  lists = trails_none n

  long : length (replicate {A = ℕ} n 0) ≡ n
  long = length-replicate {A = ℕ} n 0

  empty : (i : ℕ) → dependents_of (trails (replicate n 0) []) i ≡ []
  empty i = ap (λ xs. dependents_of xs i) lists ∙ elim (cases_lt (i - 1) n) [
    | inl inside ↦ get_or-replicate n (i - 1) none none inside
    | inr past ↦ get_or_past (replicate n none) (i - 1) none (omega (arith, past, length-replicate n none))
  ]

  no_sum : (f : List ℕ → ℕ) → f [] ≡ 0 → sum_by f (trails (replicate n 0) []) ≡ 0
  no_sum f zero_is = sum_none f (trails (replicate n 0) []) (λ xs there.
      let found = subst (λ ys. Contains ys xs) lists there in
      let inside : found.0 < n = omega (arith, found.1, length-replicate n none) in
      ap f (sym found.2 ∙ get_or-replicate n found.0 none xs inside) ∙ zero_is)

  pub counted_none : (finished : List Bool) → length finished ≡ n → AreCounted (replicate n 0) [] (replicate n 0) finished
  counted_none finished marks = record {
    linked = linked_none n;
    marks = marks ∙ sym long;
    counts = refl;
    sums = λ m from to. get_or-replicate {A = ℕ} n (m - 1) 0 0 (omega (arith, from, to, long)) ∙ sym (no_sum (times m) refl);
    among = λ i m there. absurd (none_there m (subst (λ xs. Contains xs m) (empty i) there));
    few = omega (arith, no_sum length refl);
  }

module _ (firsts : List ℕ) (links : List Link) (left : List ℕ) (finished : List Bool) (h : AreCounted firsts links left finished) where
  abbrev lists_of : List (List ℕ)
  lists_of = trails firsts links

  abbrev w : WhoWaits
  w = shown firsts links finished

  many : length lists_of ≡ length firsts
  many = long_trails firsts links

  -- what is left of a message is 0 where it waits for none
  pub none_left : (m : ℕ) → 1 ≤ m → m ≤ length firsts → get_or left (m - 1) 0 ≡ 0 → WaitsForNone w m
  none_left m from to zero_is i there =
      let some = times_some m (dependents_of lists_of i) there in
      elim (cases_lt (i - 1) (length lists_of)) [
        | inl inside ↦
            let part = sum_some (times m) lists_of (dependents_of lists_of i) (Contains-get_or lists_of (i - 1) none inside) in
            omega (arith, part, some, h.sums m from to, zero_is)
        | inr past ↦ none_there m (subst (λ xs. Contains xs m) (get_or_past lists_of (i - 1) none past) there)
      ]

  pub left_none : (m : ℕ) → 1 ≤ m → m ≤ length firsts → WaitsForNone w m → get_or left (m - 1) 0 ≡ 0
  left_none m from to waits = h.sums m from to ∙ sum_none (times m) lists_of (λ xs there.
      let at : there.0 + 1 - 1 ≡ there.0 = omega arith in
      let is : dependents_of lists_of (there.0 + 1) ≡ xs = ap (λ k. get_or lists_of k none) at ∙ get_or_default lists_of there.0 none xs there.1 ∙ there.2 in
      times_none m xs (λ listed. waits (there.0 + 1) (subst (λ ys. Contains ys m) (sym is) listed)))

  -- so there is room for one more
  pub left_few : (m : ℕ) → 1 ≤ m → m ≤ length firsts → get_or left (m - 1) 0 ≤ length links
  left_few m from to =
      let less = sum_by-le-sum_by (times m) (length {A = ℕ}) lists_of (λ xs. count_by-le-length (λ x. nat_eq x m) xs) in
      omega (arith, less, h.sums m from to, h.few)

  -- the list of one message is another
  module _ (i : ℕ) (from : 1 ≤ i) (to : i ≤ length firsts) (new : List ℕ) where
    inside : i - 1 < length lists_of
    inside = omega (arith, many, from, to)

    changed : (f : List ℕ → ℕ) → sum_by f (set lists_of (i - 1) new) + f (dependents_of lists_of i) ≡ sum_by f lists_of + f new
    changed f = sum_by-set f lists_of (i - 1) new none inside

    among_new : ((m : ℕ) → Contains new m → IsAmongFirst (length firsts) m)
        → (j m : ℕ) → Contains (dependents_of (set lists_of (i - 1) new) j) m → IsAmongFirst (length firsts) m
    among_new are j m there = elim (cases_eq (j - 1) (i - 1)) [
      | inl same ↦ are m (subst (λ xs. Contains xs m) (ap (λ k. get_or (set lists_of (i - 1) new) k none) same ∙ get_or-set_same lists_of (i - 1) new none inside) there)
      | inr other ↦ h.among j m (subst (λ xs. Contains xs m) (get_or-set_other lists_of (i - 1) (j - 1) new none other) there)
    ]

  -- message m waits for message i
  module _ (i m : ℕ) (first : IsAmongFirst (length firsts) i) (number : IsAmongFirst (length firsts) m) where
    abbrev pub longer : List ℕ
    longer = m ∷ dependents_of lists_of i

    abbrev pub link : Link
    link = record { message = m; next = get_or firsts (i - 1) 0 }

    at_first : i - 1 < length firsts
    at_first = omega (arith, first.from, first.to)

    pub shown_more : trails (set firsts (i - 1) (length links + 1)) (links ++ link ∷ []) ≡ set lists_of (i - 1) longer
    shown_more = trails_more firsts links (i - 1) m h.linked at_first

    pub counted_more : AreCounted (set firsts (i - 1) (length links + 1)) (links ++ link ∷ []) (set left (m - 1) (get_or left (m - 1) 0 + 1)) finished
    counted_more =
        let same = length-set firsts (i - 1) (length links + 1) in
        let here : m - 1 < length left = omega (arith, number.from, number.to, h.counts) in
        record {
          linked = linked_more firsts links (i - 1) m h.linked at_first;
          marks = h.marks ∙ sym same;
          counts = length-set left (m - 1) (get_or left (m - 1) 0 + 1) ∙ h.counts ∙ sym same;
          sums = λ x from to.
              let sum = changed i first.from first.to longer (times x) in
              let was = h.sums x from (omega (arith, to, same)) in
              subst (λ xs. get_or (set left (m - 1) (get_or left (m - 1) 0 + 1)) (x - 1) 0 ≡ sum_by (times x) xs) (sym shown_more)
              (elim (cases_eq x m) [
                | inl is ↦ rw is (omega (
                  arith,
                  subst (λ y. sum_by (times y) (set lists_of (i - 1) longer) + times y (dependents_of lists_of i) ≡ sum_by (times y) lists_of + times y longer) is sum,
                  subst (λ y. get_or left (y - 1) 0 ≡ sum_by (times y) lists_of) is was,
                  times_cons_same (dependents_of lists_of i) m,
                  get_or-set_same left (m - 1) (get_or left (m - 1) 0 + 1) 0 here,
                ))
                | inr other ↦
                    let apart : x - 1 ≢ m - 1 = omega (arith, from, other, number.from) in
                    omega (arith, sum, was, times_cons_other {m = m} (dependents_of lists_of i) x other, get_or-set_other left (m - 1) (x - 1) (get_or left (m - 1) 0 + 1) 0 apart)
              ]);
          among = λ j x there. subst (λ n. IsAmongFirst n x) (sym same)
              (among_new i first.from first.to longer (λ y listed. elim (contains_rest_of m y (dependents_of lists_of i) listed) [
                | inl before ↦ h.among i y before
                | inr is ↦ subst (IsAmongFirst (length firsts)) (sym is) number
              ]) j x (subst (λ xs. Contains (dependents_of xs j) x) shown_more there));
          few =
              let sum = changed i first.from first.to longer (length {A = ℕ}) in
              omega (arith, ap (sum_by (length {A = ℕ})) shown_more, sum, h.few, length_push links link);
        }

  -- the first of those that wait for message i is let go
  module _ (i : ℕ) (first : IsAmongFirst (length firsts) i) (some : 1 ≤ get_or firsts (i - 1) 0) where
    abbrev pub head : Link
    head = link_at links (get_or firsts (i - 1) 0)

    abbrev pub rest : List ℕ
    rest = trail links head.next head.next

    at : i - 1 < length firsts
    at = omega (arith, first.from, first.to)

    pub head_is : dependents_of lists_of i ≡ head.message ∷ rest
    head_is = trail_first firsts links (i - 1) 0 h.linked at some

    pub head_number : IsAmongFirst (length firsts) head.message
    head_number = h.among i head.message (subst (λ xs. Contains xs head.message) (sym head_is) (contains_first head.message rest))

    pub head_within : get_or firsts (i - 1) 0 ≤ length links
    head_within = All-get_or (λ n. n ≤ length links) firsts (i - 1) 0 at h.linked.within

    pub shown_less : trails (set firsts (i - 1) head.next) links ≡ set lists_of (i - 1) rest
    shown_less = trails_less firsts links (i - 1) 0 h.linked at some

    pub head_left : 1 ≤ get_or left (head.message - 1) 0
    head_left =
        let m = head.message in
        let inside_i : i - 1 < length lists_of = omega (arith, many, at) in
        let part = sum_some (times m) lists_of (dependents_of lists_of i) (Contains-get_or lists_of (i - 1) none inside_i) in
        omega (arith, part, ap (times m) head_is, times_cons_same rest m, h.sums m head_number.from head_number.to)

    pub counted_less : AreCounted (set firsts (i - 1) head.next) links (set left (head.message - 1) (get_or left (head.message - 1) 0 - 1)) finished
    counted_less =
        let m = head.message in
        let number = head_number in
        let same = length-set firsts (i - 1) head.next in
        let here : m - 1 < length left = omega (arith, number.from, number.to, h.counts) in
        record {
          linked = linked_less firsts links (i - 1) 0 h.linked at some;
          marks = h.marks ∙ sym same;
          counts = length-set left (m - 1) (get_or left (m - 1) 0 - 1) ∙ h.counts ∙ sym same;
          sums = λ x from to.
              let sum = changed i first.from first.to rest (times x) in
              let was = h.sums x from (omega (arith, to, same)) in
              subst (λ xs. get_or (set left (m - 1) (get_or left (m - 1) 0 - 1)) (x - 1) 0 ≡ sum_by (times x) xs) (sym shown_less)
              (elim (cases_eq x m) [
                | inl is ↦ rw is (omega (
                  arith,
                  subst (λ y. sum_by (times y) (set lists_of (i - 1) rest) + times y (dependents_of lists_of i) ≡ sum_by (times y) lists_of + times y rest) is sum,
                  subst (λ y. get_or left (y - 1) 0 ≡ sum_by (times y) lists_of) is was,
                  ap (times m) head_is,
                  times_cons_same rest m,
                  head_left,
                  get_or-set_same left (m - 1) (get_or left (m - 1) 0 - 1) 0 here,
                ))
                | inr other ↦
                    let apart : x - 1 ≢ m - 1 = omega (arith, from, other, number.from) in
                    omega (arith, sum, was, ap (times x) head_is, times_cons_other {m = m} rest x other, get_or-set_other left (m - 1) (x - 1) (get_or left (m - 1) 0 - 1) 0 apart)
              ]);
          among = λ j x there. subst (λ n. IsAmongFirst n x) (sym same)
              (among_new i first.from first.to rest (λ y listed. h.among i y (subst (λ xs. Contains xs y) (sym head_is) (contains_more m y rest listed)))
              j x (subst (λ xs. Contains (dependents_of xs j) x) shown_less there));
          few =
              let sum = changed i first.from first.to rest (length {A = ℕ}) in
              omega (arith, ap (sum_by (length {A = ℕ})) shown_less, sum, h.few, ap length head_is);
        }

  -- nobody waits for message i
  pub nobody : (i : ℕ) → IsAmongFirst (length firsts) i → get_or firsts (i - 1) 0 ≡ 0 → dependents_of lists_of i ≡ []
  nobody i first over = trail_over firsts links (i - 1) 0 h.linked (omega (arith, first.from, first.to)) over

  -- another mark
  pub counted_marked : (marks : List Bool) → length marks ≡ length finished → AreCounted firsts links left marks
  counted_marked marks same = record {
    linked = h.linked;
    marks = same ∙ h.marks;
    counts = h.counts;
    sums = h.sums;
    among = h.among;
    few = h.few;
  }

abbrev pub who_waits : List (List ℕ) → List Bool → WhoWaits
who_waits awaited finished = record { awaited = awaited; finished = finished }

-- what is seen of the fields
module _ (firsts : List ℕ) (links : List Link) (left : List ℕ) (finished : List Bool) (h : AreCounted firsts links left finished) (v : WhoWaits) (is : shown firsts links finished ≡ v) where
  pub long_as : length v.awaited ≡ length firsts
  long_as = subst (λ (u : WhoWaits). length u.awaited ≡ length firsts) is (long_trails firsts links)

  pub number_as : (n : ℕ) → IsAmongFirst (length v.awaited) n → IsAmongFirst (length firsts) n
  number_as n number = subst (λ k. IsAmongFirst k n) long_as number

  pub none_as : (m : ℕ) → IsAmongFirst (length v.awaited) m → get_or left (m - 1) 0 ≡ 0 → WaitsForNone v m
  none_as m number zero_is =
      let within = number_as m number in
      subst (λ (u : WhoWaits). WaitsForNone u m) is (none_left firsts links left finished h m within.from within.to zero_is)

  pub left_as : (m : ℕ) → IsAmongFirst (length v.awaited) m → WaitsForNone v m → get_or left (m - 1) 0 ≡ 0
  left_as m number waits =
      let within = number_as m number in
      left_none firsts links left finished h m within.from within.to (subst (λ (u : WhoWaits). WaitsForNone u m) (sym is) waits)

  pub waits_as : (i m : ℕ) → IsAmongFirst (length v.awaited) i → IsAmongFirst (length v.awaited) m
      → shown (set firsts (i - 1) (length links + 1)) (links ++ (record { message = m; next = get_or firsts (i - 1) 0 }) ∷ []) finished
      ≡ who_waits (set v.awaited (i - 1) (m ∷ waiting_for v i)) v.finished
  waits_as i m first second =
      ap (λ xs. who_waits xs finished) (shown_more firsts links left finished h i m (number_as i first) (number_as m second))
      ∙ ap (λ (u : WhoWaits). who_waits (set u.awaited (i - 1) (m ∷ waiting_for u i)) u.finished) is

  pub goes_as : (i : ℕ) (first : IsAmongFirst (length v.awaited) i) (some : 1 ≤ get_or firsts (i - 1) 0)
      → LetsGo v i (head firsts links left finished h i (number_as i first) some).message (shown (set firsts (i - 1) (head firsts links left finished h i (number_as i first) some).next) links finished)
  goes_as i first some =
      let within = number_as i first in
      record {
        number = subst (λ n. IsAmongFirst n (head firsts links left finished h i within some).message) (sym long_as) (head_number firsts links left finished h i within some);
        rest = rest firsts links left finished h i within some;
        first = subst (λ (u : WhoWaits). waiting_for u i ≡ (head firsts links left finished h i within some).message ∷ rest firsts links left finished h i within some) is
            (head_is firsts links left finished h i within some);
        gone = ap (λ xs. who_waits xs finished) (shown_less firsts links left finished h i within some)
            ∙ ap (λ (u : WhoWaits). who_waits (set u.awaited (i - 1) (rest firsts links left finished h i within some)) u.finished) is;
      }

  pub nobody_as : (i : ℕ) → IsAmongFirst (length v.awaited) i → get_or firsts (i - 1) 0 ≡ 0 → waiting_for v i ≡ []
  nobody_as i first over = subst (λ (u : WhoWaits). waiting_for u i ≡ []) is (nobody firsts links left finished h i (number_as i first) over)
