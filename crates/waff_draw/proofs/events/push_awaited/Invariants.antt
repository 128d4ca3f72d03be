use Rattle.std.proofs.Common.{◌≡◌, ◌∷◌, ◌++◌, take, string_bytes, decimal}
use Rattle.std.specs.List.{flat_map}
use Rattle.waff_draw.proofs.events.push_awaited.Given as goal

abbrev pub invariant-loop-other : goal.invariant-loop-other
invariant-loop-other l =
    string_bytes l.text ≡ string_bytes l.initial.text ++ flat_map (λ a. 44 ∷ decimal a.message) (take l.other-index l.others)
