use Rattle.std.proofs.Common.{◌≡◌, ◌∷◌, ◌++◌, take, string_bytes}
use Rattle.std.specs.List.{flat_map}
use Rattle.waff_read.specs.Spellings.{await_spelled}
use Rattle.waff_record.proofs.anew.push_list.Given as goal

abbrev pub invariant-loop-one : goal.invariant-loop-one
invariant-loop-one l =
    string_bytes l.text ≡ string_bytes l.initial.text ++ flat_map (λ a. 32 ∷ await_spelled a) (take l.one-index l.others)
