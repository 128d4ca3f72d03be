-- The messages so far, and those of the pieces left, are those of all pieces.
use Rattle.std.proofs.Common.{length, ◌∙◌, sym, rules, lit<}
use Rattle.std.proofs.lemmas.Iterator.Consumers.{YieldsList-end, YieldsList-turn}
use Rattle.std.proofs.lemmas.Iterator.Splits.{YieldsList-from_str_split}
use Rattle.std.proofs.lemmas.List.{length_push}
use Rattle.waff_parse.proofs.Laws.{with_front-nil}
use Rattle.waff_read.proofs.AwaitLaws.{list-none, list-whole, piece-more, piece-refused, pieces-all}
use Rattle.waff_read.proofs.awaits.read_list.Goals as goal

pub returns-then-is_empty : goal.returns-then-is_empty
returns-then-is_empty c =
    list-none c.args.own c.args.text.now c.new-list.result.items (sym c.is_empty.ensures ∙ c.if-is_empty.true) c.new-list.ensures.items

pub loop-piece-init : goal.loop-piece-init
loop-piece-init c = rw c.new-list.ensures.items (with_front-nil _)

pub returns-in-Err : goal.returns-in-Err
returns-in-Err c =
    let start = c.into_iter-piece-iterator.ensures.into_iter_gives in
    let split = c.split-piece-items.ensures in
    let turn = YieldsList-turn (YieldsList-from_str_split {s = c.into_iter-piece-iterator.result} 32 c.args.text.now (lit< tt) (search rules) (search rules) (search rules))
    c.loop-piece.yielded _ c.loop-piece.yielded_by _ _ c.in-Some.piece c.in-Some.is c.next.ensures.steps in
    list-whole c.args.own c.args.text.now (sym c.is_empty.ensures ∙ c.if-is_empty.false)
    ∙ (sym c.loop-piece.invariant
    ∙ piece-refused c.loop-piece.before c.args.own (length c.loop-piece.yielded) c.args.text.now c.in-Some.piece.now c.loop-piece.list.items turn.0 turn.1 c.in-Err.fault c.in-Err.ensures)

pub loop-piece-preserved : goal.loop-piece-preserved
loop-piece-preserved c =
    let start = c.into_iter-piece-iterator.ensures.into_iter_gives in
    let split = c.split-piece-items.ensures in
    let turn = YieldsList-turn (YieldsList-from_str_split {s = c.into_iter-piece-iterator.result} 32 c.args.text.now (lit< tt) (search rules) (search rules) (search rules))
    c.loop-piece.yielded _ c.loop-piece.yielded_by _ _ c.in-Some.piece c.in-Some.is c.next.ensures.steps in
    let more = piece-more c.loop-piece.before c.args.own (length c.loop-piece.yielded) c.args.text.now c.in-Some.piece.now c.loop-piece.list.items turn.0 turn.1 c.in-Ok.found c.in-Ok.ensures in
    rw (c.in_ok-push-in-Ok.ensures.ok, length_push c.loop-piece.yielded c.in-Some.piece) (more ∙ c.loop-piece.invariant)

pub returns : goal.returns
returns c =
    let start = c.into_iter-piece-iterator.ensures.into_iter_gives in
    let split = c.split-piece-items.ensures in
    let end = YieldsList-end (YieldsList-from_str_split {s = c.into_iter-piece-iterator.result} 32 c.args.text.now (lit< tt) (search rules) (search rules) (search rules))
    c.loop-piece.yielded _ c.loop-piece.yielded_by _ _ c.in-None.is c.next.ensures.steps in
    list-whole c.args.own c.args.text.now (sym c.is_empty.ensures ∙ c.if-is_empty.false)
    ∙ (sym c.loop-piece.invariant ∙ pieces-all c.loop-piece.before c.args.own (length c.loop-piece.yielded) c.args.text.now c.loop-piece.list.items end.1)
