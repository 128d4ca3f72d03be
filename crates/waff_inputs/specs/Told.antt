-- What is said of a fault, as a text.
use Rattle.std.specs.Prelude.{ℕ, List, [], ◌∷◌, ◌++◌}
use Rattle.waff_inputs.specs.Fault.{and_number}
use Rattle.waff_inputs.specs.declared.fault_names.Behind.{Behind}
use Rattle.waff_inputs.specs.declared.fault_names.Behind.TheVariants as behind
use Rattle.waff_inputs.specs.declared.fault_names.Told.{Told}

-- what stands behind the name, after a space each
abbrev pub behind_text : Behind → List ℕ
behind_text behind.Nothing = []
behind_text (behind.Number n) = and_number n
behind_text (behind.Numbers n m) = and_number n ++ and_number m
behind_text (behind.Key n key) = and_number n ++ 32 ∷ key.now

abbrev pub told_text : Told → List ℕ
told_text told = told.name.now ++ behind_text told.behind
