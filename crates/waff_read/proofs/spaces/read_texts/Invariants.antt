use Rattle.std.proofs.Common.{◌≡◌, [], map, take, unwrap_or}
use Rattle.toml.specs.Data.{as_str}
use Rattle.toml.specs.View.{view}
use Rattle.waff_read.proofs.spaces.read_texts.Given as goal

abbrev pub invariant-loop-item : goal.invariant-loop-item
invariant-loop-item l = l.texts ≡ map (λ text. unwrap_or (as_str (view text)) []) (take l.item-index l.items)
