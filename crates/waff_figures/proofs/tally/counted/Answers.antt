use Rattle.std.proofs.Common.{◌≡◌, ℕ, ◌+◌, ◌-◌, ◌*◌, ◌^◌, ◌<◌, ◌≤◌, [], ◌∷◌, ◌++◌, length, get_or, set, arith, refl, sym, ◌∙◌, ap, subst, length-set}
use Rattle.std.specs.List.{range_with_len}
use Rattle.std.proofs.lemmas.List.{get_or_read}
use Rattle.waff_plan.specs.Timing.{work_of}
use Rattle.waff_plan.proofs.Longest.{range_with_len_more}
use Rattle.waff_figures.specs.Tally.{is_in, no_tally, tally_over}
use Rattle.waff_figures.specs.declared.tally.Tally.{Tally}
use Rattle.waff_figures.proofs.TallyLemmas.{set_all, with_message}
use Rattle.waff_figures.proofs.tally.counted.Goals as goal

pub loop-n-preserved : goal.loop-n-preserved
loop-n-preserved c =
    let work = work_of c.args.grouped.now.plan.now.timings in
    let groups = c.args.grouped.now.groups.now in
    let tallies = c.loop-n.tallies.items in
    let n = c.loop-n.n in
    let place : ℕ = get_or groups (n - 1) 0 in
    let old = get_or tallies place no_tally in
    let from : 1 ≤ n = c.loop-n.auto.n in
    let to : n ≤ length c.args.grouped.now.plan.now.timings = omega (arith, c.loop-n-test.true, c.len-n-end.ensures.count) in
    let known : place < c.args.grouped.now.count = c.args.grouped.now.known (n - 1) 0 (omega (arith, from, to, c.args.grouped.now.lengths)) in
    let within : place < length tallies = omega (arith, known, c.loop-n.invariant.count) in
    let t : Tally = record {
      messages = c.index.result.now.messages + 1;
      cost = c.index.result.now.cost + c.cost.result;
      chain = c.index.result.now.chain;
    } in
    let read : c.index.result.now ≡ old = get_or_read tallies place c.index.result.now within c.index.ensures no_tally in
    let few : old.messages ≤ n - 1 = c.loop-n.invariant.few place no_tally within in
    let small : old.cost ≤ 2 ^ 32 * (n - 1) = c.loop-n.invariant.small place no_tally within in
    let messages_is : t.messages ≡ old.messages + 1 = ap (λ (x : Tally). x.messages + 1) read in
    let cost_is : t.cost ≡ old.cost + work.cost n = ap (λ (x : Tally). x.cost + c.cost.result) read ∙ ap (λ x. old.cost + x) c.cost.ensures.cost in
    let next : n - 1 + 1 ≡ n + 1 - 1 = omega (arith, from) in
    let more : range_with_len 1 (n + 1 - 1) ≡ range_with_len 1 (n - 1) ++ n ∷ []
    = ap (λ k. range_with_len 1 k) (sym next) ∙ range_with_len_more 1 (n - 1) n (omega (arith, from)) in
    record {
      count = length-set tallies place t ∙ c.loop-n.invariant.count;
      are = λ g inside.
          subst (λ ms. get_or (set tallies place t) g no_tally ≡ tally_over work (is_in groups g) ms []) (sym more)
          (with_message work groups (range_with_len 1 (n - 1)) [] tallies n place refl within c.loop-n.invariant.are g
          (subst (λ k. g < k) (length-set tallies place t) inside) t messages_is cost_is (ap (λ (x : Tally). x.chain) read));
      few = set_all (λ x. x.messages ≤ n - 1) (λ x. x.messages ≤ n + 1 - 1) tallies place t within
          (omega (arith, few, messages_is, from)) (λ x h. omega (arith, h)) c.loop-n.invariant.few;
      small = set_all (λ x. x.cost ≤ 2 ^ 32 * (n - 1)) (λ x. x.cost ≤ 2 ^ 32 * (n + 1 - 1)) tallies place t within
          (omega (arith, small, cost_is, c.cost.ensures.small, c.cost.ensures.cost, from)) (λ x h. omega (arith, h)) c.loop-n.invariant.small;
    }

pub returns-clause-each : goal.returns-clause-each
returns-clause-each c = λ g low.
    let work = work_of c.args.grouped.now.plan.now.timings in
    let groups = c.args.grouped.now.groups.now in
    let tallies = c.loop-n.tallies.items in
    let all : c.loop-n.n - 1 ≡ work.count
    = omega (arith, c.loop-n-test.false, c.loop-n.auto.n, c.loop-n.auto.n-end, c.len-n-end.ensures.count) in
    subst (λ k. get_or tallies g no_tally ≡ tally_over work (is_in groups g) (range_with_len 1 k) []) all
    (c.loop-n.invariant.are g (omega (arith, low, c.loop-n.invariant.count)))
