use Rattle.std.proofs.Common.{◌≡◌, ℕ, ◌+◌, ◌-◌, ◌*◌, ◌^◌, ◌<◌, ◌≤◌, [], ◌∷◌, ◌++◌, length, take, get_or, set, arith, refl, sym, ◌∙◌, ap, subst, length-set}
use Rattle.std.proofs.lemmas.List.{get_or_default, get_or_read, take_all, take_more}
use Rattle.waff_plan.specs.Timing.{work_of}
use Rattle.waff_plan.specs.Work.{numbers}
use Rattle.waff_figures.specs.Tally.{is_in, no_tally, tally_over}
use Rattle.waff_figures.specs.declared.tally.Tally.{Tally}
use Rattle.waff_figures.proofs.TallyLemmas.{set_all, with_link}
use Rattle.waff_figures.proofs.tally.count_chain.Goals as goal

pub loop-message-init : goal.loop-message-init
loop-message-init c =
    let tallies = c.args.tallies.now.items in
    record {
      count = c.requires.count;
      are = λ g low. c.requires.each g (omega (arith, low, c.requires.count));
      small = λ k d low.
          let none = ap (λ (t : Tally). t.chain) (get_or_default tallies k d no_tally low ∙ c.requires.each k (omega (arith, low, c.requires.count))) in
          omega (arith, none);
    }

pub index-tally-requires : goal.index-tally-requires
index-tally-requires c =
    let n : ℕ = get_or c.args.chain.now c.loop-message.message-index 0 in
    let listed = c.requires.chain.each c.loop-message.message-index 0 c.loop-message-test.true in
    let known = c.args.grouped.now.known (n - 1) 0 (omega (arith, listed.from, listed.to, c.args.grouped.now.lengths)) in
    omega (arith, known, c.loop-message.invariant.count, c.loop-message.tallies.ok.0)

pub returns-clause-each : goal.returns-clause-each
returns-clause-each c = λ g low.
    let work = work_of c.args.grouped.now.plan.now.timings in
    let groups = c.args.grouped.now.groups.now in
    let tallies = c.loop-message.tallies.items in
    subst (λ ms. get_or tallies g no_tally ≡ tally_over work (is_in groups g) (numbers work) ms)
    (take_all c.loop-message.message-index c.args.chain.now c.loop-message-test.false)
    (c.loop-message.invariant.are g (omega (arith, low, c.loop-message.invariant.count)))

pub loop-message-preserved : goal.loop-message-preserved
loop-message-preserved c =
    let work = work_of c.args.grouped.now.plan.now.timings in
    let groups = c.args.grouped.now.groups.now in
    let chain = c.args.chain.now in
    let tallies = c.loop-message.tallies.items in
    let i = c.loop-message.message-index in
    let low : i < length chain = c.loop-message-test.true in
    let n : ℕ = get_or chain i 0 in
    let place : ℕ = get_or groups (n - 1) 0 in
    let old = get_or tallies place no_tally in
    let listed = c.requires.chain.each i 0 low in
    let from : 1 ≤ n = listed.from in
    let to : n ≤ length c.args.grouped.now.plan.now.timings = listed.to in
    let known : place < c.args.grouped.now.count = c.args.grouped.now.known (n - 1) 0 (omega (arith, from, to, c.args.grouped.now.lengths)) in
    let within : place < length tallies = omega (arith, known, c.loop-message.invariant.count) in
    let t : Tally = record {
      messages = c.index-tally.result.now.messages;
      cost = c.index-tally.result.now.cost;
      chain = c.index-tally.result.now.chain + c.cost.result;
    } in
    let read : c.index-tally.result.now ≡ old = get_or_read tallies place c.index-tally.result.now within c.index-tally.ensures no_tally in
    let small : old.chain ≤ 2 ^ 32 * i = c.loop-message.invariant.small place no_tally within in
    let chain_is : t.chain ≡ old.chain + work.cost n = ap (λ (x : Tally). x.chain + c.cost.result) read ∙ ap (λ x. old.chain + x) c.cost.ensures.cost in
    let more : take (i + 1) chain ≡ take i chain ++ n ∷ [] = take_more chain i 0 low in
    record {
      count = length-set tallies place t ∙ c.loop-message.invariant.count;
      are = λ g inside.
          subst (λ ms. get_or (set tallies place t) g no_tally ≡ tally_over work (is_in groups g) (numbers work) ms) (sym more)
          (with_link work groups (numbers work) (take i chain) tallies n place refl within c.loop-message.invariant.are g
          (subst (λ k. g < k) (length-set tallies place t) inside) t (ap (λ (x : Tally). x.messages) read) (ap (λ (x : Tally). x.cost) read) chain_is);
      small = set_all (λ x. x.chain ≤ 2 ^ 32 * i) (λ x. x.chain ≤ 2 ^ 32 * (i + 1)) tallies place t within
          (omega (arith, small, chain_is, c.cost.ensures.small, c.cost.ensures.cost)) (λ x h. omega (arith, h)) c.loop-message.invariant.small;
    }
