use Rattle.std.proofs.Common.{◌∷◌, ◌++◌, ◌∙◌, ap, ap₂, append_assoc, arith, string_bytes, sym}
use Rattle.std.specs.List.{flat_map}
use Rattle.std.proofs.lemmas.List.{take_all}
use Rattle.waff_read.specs.Spellings.{after_spelled, await_spelled}
use Rattle.waff_record.proofs.Writing.{list_spelled}
use Rattle.waff_record.proofs.anew.push_list.Goals as goal

pub returns : goal.returns
returns c =
    let first = c.in-Some.first.now in
    let others = c.in-Some.others.now in
    let text = string_bytes c.args.text.now in
    let rest = flat_map (λ a. 32 ∷ await_spelled a) in
    c.loop-one.invariant
    ∙ (ap₂ (λ front back. front ++ back) c.in_ok-push_await.ensures (ap rest (take_all c.loop-one.one-index others (omega (arith, c.loop-one-test.false, c.loop-one.auto.one-index-end))))
    ∙ (append_assoc text (await_spelled first) (rest others)
    ∙ ap (λ list. text ++ list) (sym (list_spelled first others) ∙ ap after_spelled (sym c.in-Some.ensures.cases.0))))
