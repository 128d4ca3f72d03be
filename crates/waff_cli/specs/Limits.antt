-- That numbers are within the limits is a fact, of which there is one proof at most.
use Rattle.std.proofs.Props.{props}
use Rattle.waff_figures.specs.declared.told.Told.TheVariants as told
use Rattle.waff_cli.specs.Requests.{IsWithinLimits}
use Rattle.waff_cli.specs.declared.words.Asked.{Asked}
use Rattle.waff_cli.specs.declared.words.Asked.TheVariants as asked

pub within_limits-prop : (asked : Asked) → IsProp (IsWithinLimits asked)
within_limits-prop (asked.Told (told.Worst workers rule most)) = Prim.hlevel props
within_limits-prop (asked.Told (told.Locks workers rule kind steps)) = Prim.hlevel props
within_limits-prop (asked.Replay workers) = Prim.hlevel props
within_limits-prop asked = Prim.hlevel props
