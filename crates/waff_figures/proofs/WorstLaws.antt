-- The worst messages are one list, whose first takes longest, and plans with the same starts tell the same of them.
use Rattle.std.proofs.Common.{◌≡◌, ℕ, zero, suc, ◌+◌, ◌-◌, ◌<◌, ◌≤◌, inl, inr, List, ◌∷◌, map, length, get_or, Option, None, decimal, arith, refl, sym, ◌∙◌, ap, subst}
use Rattle.std.specs.List.{range_with_len}
use Rattle.std.proofs.lemmas.List.FromFn.{get_or-map-range_with_len, length-map-range_with_len}
use Rattle.std.proofs.lemmas.List.Recursion.{max_bounds, max_least}
use Rattle.waff_model.specs.Layout.{Space, has_locks}
use Rattle.waff_model.specs.Tree.{Node}
use Rattle.waff_model.specs.declared.cell.Cell.{Cell}
use Rattle.waff_model.specs.declared.message.Message.{Message}
use Rattle.waff_model.specs.declared.message.Version.{Version}
use Rattle.waff_assign.specs.Held.{Held}
use Rattle.waff_assign.specs.Order.{affinity_name}
use Rattle.waff_plan.specs.Obeys.{AwaitsEarlier}
use Rattle.waff_plan.specs.Serving.{started_before}
use Rattle.waff_plan.specs.Timetable.{clients_of}
use Rattle.waff_plan.specs.Unique.{AreSame}
use Rattle.waff_plan.specs.Waited.{AreWaitedFor, IsWaitedFor}
use Rattle.waff_plan.specs.Work.{IsAmongFirst, IsNumber, Work, greatest, issue_of}
use Rattle.waff_figures.specs.ByName.{label_at, message_names}
use Rattle.waff_figures.specs.Figures.{latency_of}
use Rattle.waff_figures.specs.Waits.{ready_of}
use Rattle.waff_figures.specs.WaitLocks.{AreBy, IsBy}
use Rattle.waff_figures.specs.WaitText.{field_where, for_field}
use Rattle.waff_figures.specs.Worst.{AreWorst, FirstIsGreatest, IsWorse, WorstIsOne}
use Rattle.waff_figures.specs.WorstText.{by_cell_field, worst_header, worst_lines, worst_row}
use Rattle.waff_figures.proofs.FigureLaws.{latency_same}
use Rattle.waff_figures.proofs.Lists.{map_same, same_firsts}
use Rattle.waff_figures.proofs.LocksWaited.{by_is_one}
use Rattle.waff_figures.proofs.WaitLemmas.{first_known}
use Rattle.waff_figures.proofs.WaitUnique.{link_is_one, same_issued, same_ready, started_same, waited_again}

-- of two messages one alone comes first
one_is_worse : (latency : ℕ → ℕ) (m n : ℕ) → IsWorse latency m n → IsWorse latency n m → ⊥
one_is_worse latency m n (inl more) (inl less) = omega (arith, more, less)
one_is_worse latency m n (inl more) (inr same) = omega (arith, more, same.0)
one_is_worse latency m n (inr same) (inl less) = omega (arith, less, same.0)
one_is_worse latency m n (inr same) (inr other) = omega (arith, same.1, other.1)

pub worst_is_one : WorstIsOne
worst_is_one most count latency worst other p q =
    same_firsts (IsWorse latency) (one_is_worse latency) (IsAmongFirst count) worst other (p.many ∙ sym q.many) p.order q.order p.among q.among p.others q.others

no_better : (latency : ℕ → ℕ) (m n : ℕ) → IsWorse latency m n → latency n ≤ latency m
no_better latency m n (inl more) = omega (arith, more)
no_better latency m n (inr same) = omega (arith, same.0)

-- none takes longer than the first
none_longer : (most count : ℕ) (latency : ℕ → ℕ) (first : ℕ) (rest : List ℕ) → AreWorst most count latency (first ∷ rest)
    → (m : ℕ) → IsAmongFirst count m → latency m ≤ latency first
none_longer most count latency first rest are m known = elim (are.others m known) [
  | inl (zero, inside, is) ↦ let same = ap latency is in omega (arith, same)
  | inl (suc k, inside, is) ↦ subst (λ v. latency v ≤ latency first) is (no_better latency first (get_or rest k m) (are.order 0 (suc k) m (omega arith) inside))
  | inr all ↦ no_better latency first m (all 0 m (omega arith))
]

pub first_is_greatest : (work : Work) (start : ℕ → ℕ) → FirstIsGreatest work start
first_is_greatest work start most first rest are =
    let latency = latency_of work start in
    let all = map latency (range_with_len 1 work.count) in
    let long = length-map-range_with_len latency 1 work.count in
    let known = are.among 0 first (omega arith) in
    let inside : first - 1 < work.count = omega (arith, known.from, known.to) in
    let at = get_or-map-range_with_len latency 1 work.count (first - 1) first 0 inside (omega (arith, known.from)) in
    let below : latency first ≤ greatest all
    = subst (λ n. n ≤ greatest all) at (max_bounds greatest (λ x. x) refl (λ _ _. refl) all (first - 1) 0 (omega (arith, inside, long))) in
    let above : greatest all ≤ latency first = max_least greatest (λ x. x) refl (λ _ _. refl) all 0 (latency first) (λ i low.
    let short : i < work.count = omega (arith, low, long) in
    subst (λ n. n ≤ latency first) (sym (get_or-map-range_with_len latency 1 work.count i (1 + i) 0 short (omega arith)))
    (none_longer most work.count latency first rest are (1 + i) (record { from = omega arith; to = omega (arith, short) }))) in
    omega (arith, below, above)

-- the same latencies have the same worst
module _ (count : ℕ) (latency other : ℕ → ℕ) (same : (m : ℕ) → IsAmongFirst count m → latency m ≡ other m) where
  as_worse : (m n : ℕ) → IsAmongFirst count m → IsAmongFirst count n → IsWorse other m n → IsWorse latency m n
  as_worse m n one two (inl more) = let at = same m one in let of = same n two in inl (omega (arith, more, at, of))
  as_worse m n one two (inr (level, less)) = inr (same m one ∙ level ∙ sym (same n two), less)

  worst_again : (most : ℕ) (worst : List ℕ) → AreWorst most count other worst → AreWorst most count latency worst
  worst_again most worst are = record {
    among = are.among;
    order = λ i j d less low.
        as_worse (get_or worst i d) (get_or worst j d) (are.among i d (omega (arith, less, low))) (are.among j d low) (are.order i j d less low);
    many = are.many;
    others = λ m known. elim (are.others m known) [
      | inl has ↦ inl has
      | inr all ↦ inr (λ k d low. as_worse (get_or worst k d) m (are.among k d low) known (all k d low))
    ];
  }

-- plans with the same starts have the same lines
module _ (version : Version) (tree : List Node) (assigned : List Held) (messages : List Message) (work : Work) (count : length assigned ≡ work.count)
    (follows : AwaitsEarlier work) (start other : ℕ → ℕ) (same : AreSame work start other) (spaces : List Space) (cells : List Cell) where
  known : (i m : ℕ) → started_before version tree assigned start i m → IsNumber work i
  known i m pair = let is = first_known version tree assigned start i m pair in record { from = is.from; to = omega (arith, is.to, count) }

  -- what is told of message m where it is issued, is ready and starts at these ticks, and waited for this message by this lock
  abbrev fields : ℕ → ℕ → ℕ → ℕ → Option ℕ → Option ℕ → List (List ℕ)
  fields m issue ready begun waited_for by =
      decimal m ∷ label_at (message_names messages) m ∷ affinity_name tree assigned m ∷ label_at (clients_of messages) m
      ∷ decimal issue ∷ decimal ready ∷ decimal begun ∷ decimal (begun + work.cost m) ∷ decimal (begun + work.cost m - issue)
      ∷ for_field decimal waited_for ∷ for_field (label_at (message_names messages)) waited_for
      ∷ for_field (affinity_name tree assigned) waited_for ∷ field_where (has_locks spaces) (by_cell_field spaces cells by)

  row_same : (m : ℕ) (one two by also : Option ℕ) → IsNumber work m → IsWaitedFor (started_before version tree assigned start) work start m one
      → IsWaitedFor (started_before version tree assigned start) work other m two
      → IsBy tree assigned m one by → IsBy tree assigned m two also
      → worst_row spaces cells tree assigned messages work start m one by ≡ worst_row spaces cells tree assigned messages work other m two also
  row_same m one two by also number first second is_by is_also =
      let before = started_before version tree assigned start in
      let links = link_is_one before work known follows start other same m one two first second in
      ap (λ issue. fields m issue (ready_of work start m one) (start m) one by) (same_issued before work known follows start other same m)
      ∙ ap (λ ready. fields m (issue_of work other m) ready (start m) one by) (same_ready before work known follows start other same m one first)
      ∙ ap (λ begun. fields m (issue_of work other m) (ready_of work other m one) begun one by) (same m number)
      ∙ ap (λ link. fields m (issue_of work other m) (ready_of work other m link) (other m) link by) links
      ∙ ap (fields m (issue_of work other m) (ready_of work other m two) (other m) two) (by_is_one tree assigned m one two by also links is_by is_also)

  pub worst_lines_are_one : (most : ℕ) (waited also locks other_locks : List (Option ℕ)) (worst others : List ℕ)
      → AreWaitedFor (started_before version tree assigned start) work start work.count waited
      → AreWaitedFor (started_before version tree assigned other) work other work.count also
      → AreBy tree assigned waited locks → AreBy tree assigned also other_locks
      → AreWorst most work.count (latency_of work start) worst → AreWorst most work.count (latency_of work other) others
      → worst_lines spaces cells tree assigned messages work start waited locks worst ≡ worst_lines spaces cells tree assigned messages work other also other_locks others
  worst_lines_are_one most waited also locks other_locks worst others are other_are by other_by told other_told =
      let header = worst_header (has_locks spaces) in
      let row : ℕ → List (List ℕ)
      = λ m. worst_row spaces cells tree assigned messages work start m (get_or waited (m - 1) None) (get_or locks (m - 1) None) in
      let again : ℕ → List (List ℕ)
      = λ m. worst_row spaces cells tree assigned messages work other m (get_or also (m - 1) None) (get_or other_locks (m - 1) None) in
      let back : AreSame work other start = λ m number. sym (same m number) in
      let equal : worst ≡ others = worst_is_one most work.count (latency_of work start) worst others told
      (worst_again work.count (latency_of work start) (latency_of work other) (λ m is. latency_same work follows start other same m is.from (omega (arith, is.to))) most others other_told) in
      let rows : map row others ≡ map again others = map_same row again others (λ k d low.
      let m = get_or others k d in
      let number = other_told.among k d low in
      row_same m (get_or waited (m - 1) None) (get_or also (m - 1) None) (get_or locks (m - 1) None) (get_or other_locks (m - 1) None) number (are m number.from number.to)
      (waited_again (started_before version tree assigned other) (started_before version tree assigned start) work other
      (started_same version tree assigned work count other start back) (started_same version tree assigned work count start other same)
      m (get_or also (m - 1) None) (other_are m number.from number.to))
      (by m number.from (let to : m ≤ work.count = number.to in omega (arith, to, count)))
      (other_by m number.from (let to : m ≤ work.count = number.to in omega (arith, to, count)))) in
      ap (λ ms. header ∷ map row ms) equal ∙ ap (λ rs. header ∷ rs) rows
