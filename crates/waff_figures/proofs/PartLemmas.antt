-- Figures of parts of the messages: they add up, are those of the plan where the part is all, and are the same for the same starts.
use Rattle.std.proofs.Common.{◌≡◌, ℕ, ◌+◌, ◌-◌, ◌<◌, Bool, true, cond, List, All, length, get_or, map, sum_by, arith, sym, ◌∙◌, ap, subst}
use Rattle.std.specs.List.{range_with_len}
use Rattle.std.proofs.lemmas.List.{get_or-map, get_or_default, length-map, same_lists}
use Rattle.std.proofs.lemmas.List.Elements.{All-filter}
use Rattle.std.proofs.lemmas.List.FromFn.{get_or-range_with_len, length-range_with_len}
use Rattle.std.proofs.lemmas.List.Sums.{count_by-le-length, length-filter}
use Rattle.waff_model.specs.Tree.{Node}
use Rattle.waff_model.specs.Unique.{AtMostOne}
use Rattle.waff_assign.specs.Held.{AreKnown, Held}
use Rattle.waff_plan.specs.Chain.{IsAmongFirst, IsListed}
use Rattle.waff_plan.specs.Obeys.{AwaitsEarlier}
use Rattle.waff_plan.specs.Unique.{AreSame}
use Rattle.waff_plan.specs.Work.{Work, greatest, issue_of, numbers}
use Rattle.waff_figures.specs.ByAffinity.{affinity_number, affinity_numbers, runs_in}
use Rattle.waff_figures.specs.ByName.{first_messages, has_label}
use Rattle.waff_figures.specs.Figures.{latencies_among, latencies_of, latency_of, waits_among}
use Rattle.waff_figures.specs.PartLaws.{AffinityWaitsAddUp, AllAreWhole, LabelWaitsAddUp}
use Rattle.waff_figures.specs.Parts.{AreOfParts, ArePartFigures, AreTheParts, no_part, part_figures_at, part_where}
use Rattle.waff_figures.specs.Percentile.{IsPercentile}
use Rattle.waff_figures.specs.declared.figures.Figures.{Figures}
use Rattle.waff_figures.specs.declared.grouping.Columns.{Columns}
use Rattle.waff_figures.specs.declared.grouping.Columns.TheVariants.{Costs, Figures as WithFigures}
use Rattle.waff_figures.specs.declared.parts.PartFigures.{PartFigures}
use Rattle.waff_figures.proofs.AddingUp.{number_within}
use Rattle.waff_figures.proofs.FigureLaws.{issued_same, latency_same}
use Rattle.waff_figures.proofs.GroupLemmas.{filtered_sum, sum_map}
use Rattle.waff_figures.proofs.Lists.{map_same}
use Rattle.waff_figures.proofs.NameLaws.{all_messages, by_name}
use Rattle.waff_figures.proofs.PercentileLemmas.{percentile_is_one}
use Rattle.waff_figures.proofs.SumLemmas.{sum_all_same, sum_of_parts}

-- the messages of a part are numbers of messages, and no more than all
pub numbers_all : (n : ℕ) → All (IsAmongFirst n) (range_with_len 1 n)
numbers_all n i d low =
    let inside : i < n = omega (arith, low, length-range_with_len 1 n) in
    let is = get_or-range_with_len 1 n i d inside in
    record { from = omega (arith, is); to = omega (arith, is, inside) }

pub part_all : (work : Work) (is_meant : ℕ → Bool) → All (IsAmongFirst work.count) (part_where work is_meant)
part_all work is_meant = All-filter is_meant (IsAmongFirst work.count) (numbers work) (numbers_all work.count)

pub part_listed : (work : Work) (is_meant : ℕ → Bool) → IsListed work.count (part_where work is_meant)
part_listed work is_meant =
    let long = length-filter is_meant (numbers work) in
    let few = count_by-le-length is_meant (numbers work) in
    record {
      each = part_all work is_meant;
      few = omega (arith, long, few, length-range_with_len 1 work.count);
    }

-- how long the messages of parts wait
part_waits : (work : Work) (start : ℕ → ℕ) (belongs : ℕ → ℕ → Bool) (keys : List ℕ) (parts : List PartFigures) → AreOfParts work start belongs keys parts
    → sum_by (λ (p : PartFigures). p.waits) parts ≡ sum_by (λ a. sum_by (λ m. cond (belongs a m) (start m - issue_of work start m) 0) (numbers work)) keys
part_waits work start belongs keys parts are =
    let wait : ℕ → ℕ = λ m. start m - issue_of work start m in
    let waits : PartFigures → ℕ = λ p. p.waits in
    let term : ℕ → ℕ = λ a. sum_by (λ m. cond (belongs a m) (wait m) 0) (numbers work) in
    let one = length-map parts waits in
    let other = length-map keys term in
    let same : map waits parts ≡ map term keys = same_lists (map waits parts) (map term keys) (one ∙ are.count ∙ sym other) (λ k d low.
    let inside : k < length keys = omega (arith, low, one, are.count) in
    let here = are.each k inside in
    get_or-map waits parts k no_part d (omega (arith, low, one)) ∙ ap waits here.are
    ∙ filtered_sum (belongs (get_or keys k 0)) wait (numbers work) ∙ sym (get_or-map term keys k 0 d inside)) in
    sym (sum_map (λ n. n) waits parts) ∙ ap (sum_by (λ n. n)) same ∙ sum_map (λ n. n) term keys

pub affinity_waits_add_up : (tree : List Node) (assigned : List Held) (work : Work) → AreKnown tree assigned
    → AffinityWaitsAddUp tree assigned work
affinity_waits_add_up tree assigned work known start parts are =
    part_waits work start (runs_in tree assigned) (affinity_numbers tree) parts are
    ∙ sum_of_parts (affinity_number tree assigned) (λ m. start m - issue_of work start m) (λ c. true) (length tree + 1) (number_within tree assigned known) (numbers work)

pub label_waits_add_up : (labels : List (List ℕ)) (work : Work) → length labels ≡ work.count → LabelWaitsAddUp labels work
label_waits_add_up labels work long start parts are =
    let all : All (IsAmongFirst (length labels)) (numbers work)
    = subst (λ n. All (IsAmongFirst (length labels)) (range_with_len 1 n)) long (all_messages labels) in
    part_waits work start (has_label labels) (first_messages labels) parts are
    ∙ by_name labels (λ m. start m - issue_of work start m) (numbers work) all

-- the part of all messages
pub all_are_whole : (work : Work) → AllAreWhole work
all_are_whole work limit bound start figures part are here = record {
  waits = ap (λ (p : PartFigures). p.waits) here.are ∙ sym (ap (λ (f : Figures). f.waits) are.are);
  latencies = ap (λ (p : PartFigures). p.latencies) here.are ∙ sym (ap (λ (f : Figures). f.latencies) are.are);
  p50 = percentile_is_one 50 (latencies_of work start) part.p50 figures.p50 here.p50 are.p50;
  p99 = percentile_is_one 99 (latencies_of work start) part.p99 figures.p99 here.p99 are.p99;
  latency = ap (λ (p : PartFigures). p.latency) here.are ∙ sym (ap (λ (f : Figures). f.latency) are.are);
}

-- the figures of some messages are one
part_is_one : (work : Work) (start : ℕ → ℕ) (messages : List ℕ) → AtMostOne (ArePartFigures work start messages)
part_is_one work start messages one other h k =
    let p50 = percentile_is_one 50 (latencies_among work start messages) one.p50 other.p50 h.p50 k.p50 in
    let p99 = percentile_is_one 99 (latencies_among work start messages) one.p99 other.p99 h.p99 k.p99 in
    h.are ∙ ap (λ n. part_figures_at work start messages n one.p99) p50 ∙ ap (part_figures_at work start messages other.p50) p99 ∙ sym k.are

-- and the same for the same starts
module _ (work : Work) (follows : AwaitsEarlier work) (start other : ℕ → ℕ) (same : AreSame work start other) where
  module _ (messages : List ℕ) (all : All (IsAmongFirst work.count) messages) where
    latencies_moved : latencies_among work start messages ≡ latencies_among work other messages
    latencies_moved = map_same (latency_of work start) (latency_of work other) messages (λ k d low.
        let is = all k d low in latency_same work follows start other same (get_or messages k d) is.from (omega (arith, is.to)))

    sum_moved : sum_by (latency_of work start) messages ≡ sum_by (latency_of work other) messages
    sum_moved = sum_all_same (latency_of work start) (latency_of work other) messages (λ k d low.
        let is = all k d low in latency_same work follows start other same (get_or messages k d) is.from (omega (arith, is.to)))

    waits_moved : waits_among work start messages ≡ waits_among work other messages
    waits_moved = sum_all_same (λ m. start m - issue_of work start m) (λ m. other m - issue_of work other m) messages (λ k d low.
        let m = get_or messages k d in
        ap (λ s. s - issue_of work start m) (same m (all k d low)) ∙ ap (λ i. other m - i) (issued_same work follows start other same m))

    part_moved : (figures : PartFigures) → ArePartFigures work other messages figures → ArePartFigures work start messages figures
    part_moved figures are = record {
      p50 = subst (λ xs. IsPercentile 50 xs figures.p50) (sym latencies_moved) are.p50;
      p99 = subst (λ xs. IsPercentile 99 xs figures.p99) (sym latencies_moved) are.p99;
      are = rw (waits_moved, sum_moved, ap greatest latencies_moved) are.are;
    }

  pub parts_are_one : (columns : Columns) (belongs : ℕ → ℕ → Bool) (keys : List ℕ) (one two : List PartFigures)
      → AreTheParts columns work start belongs keys one → AreTheParts columns work other belongs keys two → one ≡ two
  parts_are_one Costs belongs keys one two p q = p ∙ sym q
  parts_are_one WithFigures belongs keys one two p q = same_lists one two (p.count ∙ sym q.count) (λ k d low.
      let inside : k < length keys = omega (arith, low, p.count) in
      let there : k < length two = omega (arith, inside, q.count) in
      let part = part_where work (belongs (get_or keys k 0)) in
      get_or_default one k d no_part low
      ∙ part_is_one work start part (get_or one k no_part) (get_or two k no_part) (p.each k inside)
      (part_moved part (part_all work (belongs (get_or keys k 0))) (get_or two k no_part) (q.each k inside))
      ∙ sym (get_or_default two k d no_part there))
