-- The lines of a summary: which a text has, in which order, and what each tells.
use Rattle.std.specs.Prelude.{ℕ, Bool, true, List, [], ◌∷◌, Option, codes, filter}
use Rattle.waff_model.specs.declared.message.Version.{Version}
use Rattle.waff_model.specs.Versions.{has_releases}
use Rattle.waff_plan_text.specs.Given.{SummaryLines}
use Rattle.waff_plan_text.specs.declared.table.Line.{Line}
use Rattle.waff_plan_text.specs.declared.table.Line.TheVariants.{Bound, Chain, Cost, Length, Release, Total, Workers}

-- the lines in their order
abbrev pub all_lines : List Line
all_lines =
    Workers ∷ Total ∷ Length ∷ Chain
    ∷ Release ∷ Cost ∷ Bound ∷ []

-- the line of the release stands where messages of the version have releases
abbrev pub is_in : Version → Line → Bool
is_in version Release = has_releases version
is_in version _ = true

-- the lines of a text
abbrev pub lines_of : Version → List Line
lines_of version = filter (is_in version) all_lines

-- the name of a line, which is its first field
abbrev pub line_name : Line → List ℕ
line_name Workers = codes "workers"
line_name Total = codes "total"
line_name Length = codes "length"
line_name Chain = codes "chain"
line_name Release = codes "release"
line_name Cost = codes "cost"
line_name Bound = codes "bound"

-- what a line tells: the workers, the messages of the chain, the two sides of the bound, or a number
abbrev pub Told : Line → Type 0
Told Workers = Option ℕ
Told Chain = List ℕ
Told Bound = ℕ × ℕ
Told _ = ℕ

-- what it tells of a summary
abbrev pub told_of : (line : Line) → SummaryLines → Told line
told_of Workers summary = summary.workers
told_of Total summary = summary.totals.total
told_of Length summary = summary.totals.length
told_of Chain summary = summary.chain
told_of Release summary = summary.totals.release
told_of Cost summary = summary.totals.cost
told_of Bound summary = (summary.totals.left, summary.totals.right)

-- a summary of which it tells this instead
abbrev pub with_told : (line : Line) → Told line → SummaryLines → SummaryLines
with_told Workers workers summary = record summary { workers = workers }
with_told Total n summary = record summary { totals = record summary.totals { total = n } }
with_told Length n summary = record summary { totals = record summary.totals { length = n } }
with_told Chain chain summary = record summary { chain = chain }
with_told Release n summary =
    record summary { totals = record summary.totals { release = n } }
with_told Cost n summary = record summary { totals = record summary.totals { cost = n } }
with_told Bound sides summary =
    record summary { totals = record summary.totals { left = sides.0; right = sides.1 } }
