-- Fields of a plan text.
use Rattle.std.specs.Prelude.{ℕ, Bool, ◌||◌, if◌then◌else◌, Option, Some, None, ok_or, is_some}
use Rattle.std.specs.Prelude.{Result, Ok, codes}
use Rattle.std.specs.Str.{bytes_eq}
use Rattle.waff_parse.specs.Fields.{Field}
use Rattle.waff_parse.specs.Refusals.{◌>>=◌}
use Rattle.waff_parse.specs.Texts.{number_of, number_within}
use Rattle.waff_model.specs.declared.limits.TheConstants.{MAX_TICK}
use Rattle.waff_plan_text.specs.declared.refusal.Refusal.{Refusal}
use Rattle.waff_plan_text.specs.declared.refusal.Refusal.TheVariants as refusal

-- the dash that stands for no worker
abbrev pub is_dash : Field → Bool
is_dash text = bytes_eq text (codes "-")

-- the number of a field that is one: it is within the limit
abbrev pub number_within_limit : Field → Result ℕ Refusal
number_within_limit text = ok_or (number_within 0 MAX_TICK text) refusal.TooLarge

-- a worker: a number, or a dash
abbrev pub is_worker : Field → Bool
is_worker text = is_dash text || is_some (number_of text)

-- the worker of a field that is one
abbrev pub worker_of : Field → Result (Option ℕ) Refusal
worker_of text = if is_dash text then Ok None else (number_within_limit text >>= (λ n. Ok (Some n)))
