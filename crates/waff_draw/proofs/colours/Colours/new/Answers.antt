use Rattle.std.proofs.Common.{◌≡◌, ◌+◌, ◌-◌, ◌<◌, ◌≤◌, [], length, get_or, take, arith, sym, ◌∙◌, ap, ap₂}
use Rattle.std.proofs.lemmas.List.{length-map}
use Rattle.waff_model.specs.DistinctNames.{message_names, with_name}
use Rattle.waff_model.specs.declared.message.Message.{Message}
use Rattle.waff_model.proofs.DistinctNameLemmas.{message_name_at}
use Rattle.waff_draw.specs.Colours.{coloured}
use Rattle.waff_draw.proofs.ColourLemmas.{coloured_more, coloured_stays}
use Rattle.waff_draw.proofs.colours.Colours.new.Goals as goal
use Rattle.waff_draw.proofs.colours.Colours.new.Goals.{else-len-lt-COLOURS, then-len-lt-COLOURS+in_ok-put}

pub loop-n-preserved : goal.loop-n-preserved
loop-n-preserved c =
    let messages = c.args.trace.now.messages in
    let names = message_names messages in
    let i = c.loop-n.n - 1 in
    let next : i + 1 ≡ c.loop-n.n + 1 - 1 = omega (arith, c.loop-n.auto.n) in
    let low : i < length names
    = omega (arith, c.loop-n.auto.n, c.loop-n-test.true, c.len-n-end.ensures.count, length-map messages (λ (m : Message). m.name)) in
    let count : c.len.result ≡ length (coloured (take i names)) = c.len.ensures ∙ ap length c.loop-n.invariant in
    elim c.if-len-lt-COLOURS.branch [
      | then-len-lt-COLOURS+in_ok-put w ↦
          let at : get_or names i [] ≡ w.as_str.result.now
          = message_name_at messages i w.message.result.now w.message.ensures.message ∙ sym w.as_str.ensures in
          let few : c.len.result < 16 = w.if-len-lt-COLOURS.true in
          w.names-is ∙ w.in_ok-put.ensures.names ∙ ap₂ with_name c.loop-n.invariant (sym at)
          ∙ sym (coloured_more names i low (omega (arith, few, count))) ∙ ap (λ k. coloured (take k names)) next
      | else-len-lt-COLOURS w ↦
          let full : 16 ≤ c.len.result = omega (arith, w.if-len-lt-COLOURS.false) in
          w.names-is ∙ c.loop-n.invariant ∙ sym (coloured_stays names i low (omega (arith, full, count)))
          ∙ ap (λ k. coloured (take k names)) next
    ]
