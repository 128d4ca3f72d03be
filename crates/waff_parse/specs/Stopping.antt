-- What a reader's answer says of the reading that it stands for.
use Rattle.std.specs.Prelude.{◌≡◌, Result, Ok, Err}
use Rattle.waff_parse.specs.declared.stop.Stop.{Stop}
use Rattle.waff_parse.specs.declared.stop.Stop.TheVariants as stop

-- a stop tells the fault of the reading, unless memory ran out
abbrev pub Stops : {F Y : Type 0} → Stop F → Result Y F → Type 0
Stops stop.Memory read = Unit {0}
Stops (stop.Fault f) read = read ≡ Err f

-- what a function returned, seen by view, is what the reading gives, unless memory ran out
abbrev pub Gives : {F X Y : Type 0} → (X → Y) → Result X (Stop F) → Result Y F → Type 0
Gives view (Ok x) read = read ≡ Ok (view x)
Gives view (Err e) read = Stops e read
