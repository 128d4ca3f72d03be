-- What is said of a refusal, and the exit status.
use Rattle.std.specs.Prelude.{ℕ, List, [], ◌∷◌, ◌++◌, codes, decimal}
use Rattle.waff_cli.specs.declared.refusal.Refusal.{Refusal}
use Rattle.waff_cli.specs.declared.refusal.Refusal.TheVariants as refusal

-- what is said of it, where that is not told yet
abbrev pub refusal_text : Refusal → List ℕ
refusal_text (refusal.Told status) = []
refusal_text refusal.NoWords = codes "error: a word is missing or is not text\n"
refusal_text (refusal.Read place) = codes "waff: Read " ++ decimal place ++ 10 ∷ []
refusal_text refusal.Memory = codes "waff: Memory\n"

-- 2 where the words are refused, 4 where something could not be read or memory was refused
abbrev pub refusal_status : Refusal → ℕ
refusal_status (refusal.Told status) = status
refusal_status refusal.NoWords = 2
refusal_status (refusal.Read place) = 4
refusal_status refusal.Memory = 4
