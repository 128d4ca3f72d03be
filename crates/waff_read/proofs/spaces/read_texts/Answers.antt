use Rattle.std.proofs.Common.{[], unwrap_or, arith}
use Rattle.toml.specs.Data.{as_str}
use Rattle.toml.specs.View.{view}
use Rattle.toml.specs.declared.value.Value.{Value}
use Rattle.waff_read.proofs.DocumentLemmas.{map_more}
use Rattle.waff_read.proofs.spaces.read_texts.Goals as goal

pub loop-item-preserved : goal.loop-item-preserved
loop-item-preserved c =
    let more = map_more (λ (item : Value). unwrap_or (as_str (view item)) []) c.args.items.now c.loop-item.item-index c.item-item.result (omega arith) c.item-item.is in
    rw (c.in_ok-push.ensures.added, c.loop-item.invariant, c.in_ok-read_text.ensures, c.as_str.ensures) more
