-- What is written of a plan is read.
use Rattle.std.specs.Prelude.{◌≡◌, ℕ, ◌≤◌, true, List, map, Option, IfSome, Ok}
use Rattle.waff_model.specs.Names.{is_name}
use Rattle.waff_model.specs.Tree.{Node}
use Rattle.waff_model.specs.declared.limits.TheConstants.{MAX_MESSAGES, MAX_TICK}
use Rattle.waff_model.specs.declared.message.Version.{Version}
use Rattle.waff_model.specs.declared.message.Version.TheVariants.{V1}
use Rattle.waff_assign.specs.Held.{Held}
use Rattle.waff_assign.specs.Order.{affinity_name}
use Rattle.waff_plan.specs.Bound.{IsWorkers}
use Rattle.waff_plan.specs.Chain.{IsListed}
use Rattle.waff_plan.specs.Totals.{totals_of}
use Rattle.waff_plan.specs.Work.{Work, IsNumber, finish_of, numbers}
use Rattle.waff_plan.specs.declared.totals.Totals.{Totals}
use Rattle.waff_plan_text.specs.Given.{Given}
use Rattle.waff_plan_text.specs.Lines.{text_of}
use Rattle.waff_plan_text.specs.PlanTexts.{plan_of}
use Rattle.waff_plan_text.specs.Rows.{IsWithinLimit}
use Rattle.waff_plan_text.specs.Spelling.{plan_lines}
use Rattle.waff_plan_text.specs.declared.row.Row.{Row}

-- what the line of message n tells
abbrev pub row_told : List Node → List Held → Work → (ℕ → ℕ) → (ℕ → Option ℕ) → ℕ → Row
row_told tree assigned work start worker n = record {
  affinity = affinity_name tree assigned n;
  start = start n;
  finish = finish_of work start n;
  worker = worker n;
}

-- the plan that its lines tell
abbrev pub plan_told : Version → List Node
    → List Held → Work → Option ℕ → (ℕ → ℕ) → (ℕ → Option ℕ) → List ℕ → Given
plan_told version tree assigned work workers start worker chain = record {
  version = version;
  rows = map (row_told tree assigned work start worker) (numbers work);
  summary =
      record { workers = workers; chain = chain; totals = totals_of workers work start chain };
}

-- a row that a text can tell: its name is one, and its numbers are within the limit
pub record IsRow (row : Row) : Type 0 where
  pub named : is_name row.affinity ≡ true
  pub times : IsWithinLimit row
  pub worker : IfSome row.worker (λ w. w ≤ MAX_TICK)

-- totals that a text can tell: they are within the limit, and the first version has no releases
pub record AreTotals (version : Version) (totals : Totals) : Type 0 where
  pub total : totals.total ≤ MAX_TICK
  pub length : totals.length ≤ MAX_TICK
  pub release : totals.release ≤ MAX_TICK
  pub cost : totals.cost ≤ MAX_TICK
  pub left : totals.left ≤ MAX_TICK
  pub right : totals.right ≤ MAX_TICK
  pub no_release : version ≡ V1 → totals.release ≡ 0

-- a plan that a text can tell
pub record IsTellable (version : Version)
    (tree : List Node) (assigned : List Held) (work : Work) (workers : Option ℕ) (start : ℕ → ℕ)
    (worker : ℕ → Option ℕ) (chain : List ℕ) : Type 0 where
  pub few : work.count ≤ MAX_MESSAGES
  pub rows : (n : ℕ) → IsNumber work n → IsRow (row_told tree assigned work start worker n)
  pub known : IfSome workers IsWorkers
  pub listed : IsListed work.count chain
  pub totals : AreTotals version (totals_of workers work start chain)

-- from the lines of a plan that a text can tell that plan is read
abbrev pub WrittenIsRead : Version → List Node
    → List Held → Work → Option ℕ → (ℕ → ℕ) → (ℕ → Option ℕ) → List ℕ → Type 0
WrittenIsRead version tree assigned work workers start worker chain =
    IsTellable version tree assigned work workers start worker chain
    → plan_of version work.count
    (text_of (plan_lines version tree assigned work workers start worker chain))
    ≡ Ok (plan_told version tree assigned work workers start worker chain)
