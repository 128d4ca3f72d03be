-- The messages so far are those of the parts so far.
use Rattle.std.proofs.Common.{length, ap, ◌∙◌, arith, rules, lit<}
use Rattle.std.proofs.lemmas.Iterator.Consumers.{YieldsList-end, YieldsList-turn}
use Rattle.std.proofs.lemmas.Iterator.Splits.{YieldsList-from_str_split}
use Rattle.std.proofs.lemmas.List.{length_push}
use Rattle.std.proofs.lemmas.List.Elements.{All-push, All-nil}
use Rattle.waff_parse.proofs.Laws.{with_front-nil}
use Rattle.waff_plan.specs.Chain.{IsAmongFirst}
use Rattle.waff_plan_text.proofs.LineLaws.{links-all, links-many, links-refused, links-step, links-whole}
use Rattle.waff_plan_text.proofs.lines.links.Goals as goal

pub loop-link-init : goal.loop-link-init
loop-link-init c =
    let none = c.new-chain.ensures.items in
    record { count = ap length none; each = rw none (All-nil (IsAmongFirst c.args.messages)); links = rw none (with_front-nil _) }

pub returns-in-None-number_within-clause-value : goal.returns-in-None-number_within-clause-value
returns-in-None-number_within-clause-value c =
    let start = c.into_iter-link-iterator.ensures.into_iter_gives in
    let split = c.split-link-items.ensures in
    let turn = YieldsList-turn (YieldsList-from_str_split {s = c.into_iter-link-iterator.result} 32 c.args.text.now (lit< tt) (search rules) (search rules) (search rules))
    c.loop-link.yielded _ c.loop-link.yielded_by _ _ c.in-Some.link c.in-Some.is c.next.ensures.steps in
    links-refused c.args.messages (length c.loop-link.yielded) c.args.text.now c.in-Some.link.now c.loop-link.chain.items turn.0 turn.1
    (rw c.from.ensures at c.in-None-number_within.ensures.value) c.loop-link.invariant.links

pub loop-link-preserved : goal.loop-link-preserved
loop-link-preserved c =
    let start = c.into_iter-link-iterator.ensures.into_iter_gives in
    let split = c.split-link-items.ensures in
    let turn = YieldsList-turn (YieldsList-from_str_split {s = c.into_iter-link-iterator.result} 32 c.args.text.now (lit< tt) (search rules) (search rules) (search rules))
    c.loop-link.yielded _ c.loop-link.yielded_by _ _ c.in-Some.link c.in-Some.is c.next.ensures.steps in
    let p = c.in_ok-push-in-Some-number_within.ensures.items in
    let len = length_push c.loop-link.yielded c.in-Some.link in
    let w = c.in-Some-number_within.ensures.within in
    let f = c.from.ensures in
    record {
      count = omega (arith, ap length p, length_push c.loop-link.chain.items c.in-Some-number_within.message, len, c.loop-link.invariant.count);
      each = rw p (All-push (IsAmongFirst c.args.messages) c.loop-link.chain.items c.in-Some-number_within.message c.loop-link.invariant.each
          (record { from = w.0; to = omega (arith, w.1, f) }));
      links = links-step c.args.messages (length c.loop-link.yielded) _ c.in-Some-number_within.message c.args.text.now c.in-Some.link.now c.loop-link.chain.items c.push.new.self.items
          turn.0 turn.1 (rw f at c.in-Some-number_within.ensures.value) p len ∙ c.loop-link.invariant.links;
    }

pub returns-then-messages-len-clause-value : goal.returns-then-messages-len-clause-value
returns-then-messages-len-clause-value c =
    let start = c.into_iter-link-iterator.ensures.into_iter_gives in
    let split = c.split-link-items.ensures in
    let end = YieldsList-end (YieldsList-from_str_split {s = c.into_iter-link-iterator.result} 32 c.args.text.now (lit< tt) (search rules) (search rules) (search rules))
    c.loop-link.yielded _ c.loop-link.yielded_by _ _ c.in-None.is c.next.ensures.steps in
    let whole = links-all c.args.messages (length c.loop-link.yielded) c.args.text.now c.loop-link.chain.items end.1 c.loop-link.invariant.links in
    links-many c.args.messages c.args.text.now c.loop-link.chain.items whole (omega (arith, c.loop-link.chain.ok.0, c.len.ensures))

pub returns-clause-value : goal.returns-clause-value
returns-clause-value c =
    let start = c.into_iter-link-iterator.ensures.into_iter_gives in
    let split = c.split-link-items.ensures in
    let end = YieldsList-end (YieldsList-from_str_split {s = c.into_iter-link-iterator.result} 32 c.args.text.now (lit< tt) (search rules) (search rules) (search rules))
    c.loop-link.yielded _ c.loop-link.yielded_by _ _ c.in-None.is c.next.ensures.steps in
    let whole = links-all c.args.messages (length c.loop-link.yielded) c.args.text.now c.loop-link.chain.items end.1 c.loop-link.invariant.links in
    links-whole c.args.messages c.args.text.now c.loop-link.chain.items whole (omega (arith, c.loop-link.chain.ok.0, c.len.ensures))
