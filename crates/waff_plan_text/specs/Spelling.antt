-- The text of a plan as it is written: a header, a line for each message in the order of their
-- numbers, and a summary (own).
use Rattle.std.specs.Prelude.{ℕ, ◌-◌, List, [], ◌∷◌, ◌++◌, Option, Some, None, map, slice_index}
use Rattle.std.specs.Prelude.{codes, decimal}
use Rattle.std.specs.List.{join_by}
use Rattle.waff_model.specs.declared.message.Version.{Version}
use Rattle.waff_model.specs.Tree.{Node}
use Rattle.waff_assign.specs.Held.{Held}
use Rattle.waff_assign.specs.Order.{affinity_name}
use Rattle.waff_plan.specs.Totals.{totals_of}
use Rattle.waff_plan.specs.Work.{Work, finish_of, numbers}
use Rattle.waff_plan.specs.declared.totals.Totals.{Totals}
use Rattle.waff_plan_text.specs.Given.{SummaryLines}
use Rattle.waff_plan_text.specs.Table.{Told, line_name, lines_of, told_of}
use Rattle.waff_plan_text.specs.declared.table.Line.{Line}
use Rattle.waff_plan_text.specs.declared.table.Line.TheVariants.{Bound, Chain, Workers}

-- the header
abbrev pub plan_header : List (List ℕ)
plan_header =
    codes "message" ∷ codes "affinity" ∷ codes "start" ∷ codes "finish" ∷ codes "worker" ∷ []

-- a worker's number, or `-` where the plan has no workers
abbrev pub worker_field : Option ℕ → List ℕ
worker_field None = codes "-"
worker_field (Some worker) = decimal worker

-- the line of a message: its number, the name of its affinity, a hyphen where it has none, start, finish and worker
abbrev pub plan_row : ℕ → List ℕ → ℕ → ℕ → Option ℕ → List (List ℕ)
plan_row message affinity start finish worker =
    decimal message ∷ affinity ∷ decimal start ∷ decimal finish ∷ worker_field worker ∷ []

-- the line of message n under a tree, what messages hold, and a plan
abbrev pub message_row : List Node → List Held → Work → (ℕ → ℕ) → (ℕ → Option ℕ) → ℕ → List (List ℕ)
message_row tree assigned work start worker n =
    plan_row n (affinity_name tree assigned n) (start n) (finish_of work start n) (worker n)

-- numbers joined by spaces
abbrev pub numbers_field : List ℕ → List ℕ
numbers_field numbers = join_by decimal (32 ∷ []) numbers

-- the fields behind the name of a line
abbrev pub fields_behind : (line : Line) → Told line → List (List ℕ)
fields_behind Workers workers = worker_field workers ∷ []
fields_behind Chain chain = numbers_field chain ∷ []
fields_behind Bound sides = decimal sides.0 ∷ decimal sides.1 ∷ []
fields_behind _ n = decimal n ∷ []

-- a line of a summary: its name, and what it tells
abbrev pub summary_line : SummaryLines → Line → List (List ℕ)
summary_line summary line = line_name line ∷ fields_behind line (told_of line summary)

-- the lines of the summary of these workers, this chain and these totals
unfoldable pub summary_lines : Version → Option ℕ → List ℕ → Totals → List (List (List ℕ))
summary_lines version workers chain totals =
    map (summary_line (record { workers = workers; chain = chain; totals = totals }))
    (lines_of version)

-- the lines of a plan for this number of workers, or without workers, and of a chain of its
-- messages
abbrev pub plan_lines : Version → List Node
    → List Held → Work → Option ℕ → (ℕ → ℕ) → (ℕ → Option ℕ) → List ℕ → List (List (List ℕ))
plan_lines version tree assigned work workers start worker chain =
    plan_header ∷ map (message_row tree assigned work start worker) (numbers work)
    ++ summary_lines version workers chain (totals_of workers work start chain)

-- no message has a worker
abbrev pub no_worker : ℕ → Option ℕ
no_worker n = None

-- each message has one, in a list by message
abbrev pub seat_of : List ℕ → ℕ → Option ℕ
seat_of seats n = Some (slice_index seats (n - 1))

-- either of the two, as there is such a list or not
abbrev pub workers_of : Option (List ℕ) → ℕ → Option ℕ
workers_of None = no_worker
workers_of (Some seats) = seat_of seats

-- the lines of a plan without workers
abbrev pub unlimited_lines : Version → List Node
    → List Held → Work → (ℕ → ℕ) → List ℕ → List (List (List ℕ))
unlimited_lines version tree assigned work start chain =
    plan_lines version tree assigned work None start no_worker chain

-- the lines of a plan for k workers, with the worker of each message
abbrev pub worker_lines : Version → List Node
    → List Held → Work → ℕ → (ℕ → ℕ) → List ℕ → List ℕ → List (List (List ℕ))
worker_lines version tree assigned work k start seats chain =
    plan_lines version tree assigned work (Some k) start (seat_of seats) chain
