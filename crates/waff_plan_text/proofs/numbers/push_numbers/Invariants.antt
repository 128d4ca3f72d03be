use Rattle.std.proofs.Common.{◌≡◌, ◌∷◌, ◌++◌, take, string_bytes, decimal}
use Rattle.std.specs.List.{flat_map}
use Rattle.waff_plan_text.proofs.numbers.push_numbers.Given as goal

abbrev pub invariant-loop-number : goal.invariant-loop-number
invariant-loop-number l =
    string_bytes l.text ≡ string_bytes l.initial.text ++ flat_map (λ number. 32 ∷ decimal number) (take l.number-index l.others)
