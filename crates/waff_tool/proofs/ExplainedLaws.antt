-- Of the same files one thing is explained.
use Rattle.std.proofs.Common.{◌≡◌, ℕ, List, Option, Some, None, Result, Ok, Err, refl, ap}
use Rattle.waff_model.specs.Unique.{AtMostOne}
use Rattle.waff_inputs.specs.Inputs.{files_of, layout_of}
use Rattle.waff_inputs.specs.declared.fault.ToolError.{ToolError}
use Rattle.waff_tool.proofs.CheckRefusals.{checked_is_read}
use Rattle.waff_tool.proofs.CheckUniqueness.{check_text_is_one}
use Rattle.waff_tool.specs.CheckText.{checked_files}
use Rattle.waff_tool.specs.Explanations.{Explains, IsExplained, OfPlan}
use Rattle.waff_tool.specs.declared.explains.Explained.TheVariants as explained

same_fault : {A : Type 0} (read : Result A ToolError) (one other : ToolError) → read ≡ Err one → read ≡ Err other → one ≡ other
same_fault read one other p q = cc

no_fault : {A : Type 0} (read : Result A ToolError) (a : A) (error : ToolError) → read ≡ Ok a → read ≡ Err error → ⊥
no_fault read a error p q = cc

reading_is_one : {A : Type 0} (read : Result A ToolError) → AtMostOne (Explains read)
reading_is_one read explained.Well explained.Well p q = refl
reading_is_one read explained.Well (explained.Fault error) p q = absurd (no_fault read p.0 error p.1 q)
reading_is_one read (explained.Fault error) explained.Well p q = absurd (no_fault read q.0 error q.1 p)
reading_is_one read (explained.Fault error) (explained.Fault other) p q = ap explained.Fault (same_fault read error other p q)
reading_is_one read (explained.Verdict v) other p q = absurd p
reading_is_one read one (explained.Verdict v) p q = absurd q

plan_is_one : (hierarchy_file trace_file plan_file : List ℕ) → AtMostOne (OfPlan hierarchy_file trace_file plan_file)
plan_is_one hierarchy_file trace_file plan_file explained.Well other p q = absurd p
plan_is_one hierarchy_file trace_file plan_file (explained.Fault error) explained.Well p q = absurd q
plan_is_one hierarchy_file trace_file plan_file (explained.Verdict v) explained.Well p q = absurd q
plan_is_one hierarchy_file trace_file plan_file (explained.Fault error) (explained.Fault fault) p q =
    ap explained.Fault (same_fault (checked_files hierarchy_file trace_file plan_file) error fault p q)
plan_is_one hierarchy_file trace_file plan_file (explained.Fault error) (explained.Verdict v) p q =
    absurd (no_fault (checked_files hierarchy_file trace_file plan_file) _ error (checked_is_read hierarchy_file trace_file plan_file q.instance q.given q.accepts) p)
plan_is_one hierarchy_file trace_file plan_file (explained.Verdict v) (explained.Fault error) p q =
    absurd (no_fault (checked_files hierarchy_file trace_file plan_file) _ error (checked_is_read hierarchy_file trace_file plan_file p.instance p.given p.accepts) q)
plan_is_one hierarchy_file trace_file plan_file (explained.Verdict v) (explained.Verdict w) p q =
    ap explained.Verdict (check_text_is_one hierarchy_file trace_file plan_file v w p q)

pub explained_is_one : (hierarchy_file : List ℕ) (trace_file plan_file : Option (List ℕ))
    → AtMostOne (IsExplained hierarchy_file trace_file plan_file)
explained_is_one hierarchy_file None plan_file = reading_is_one (layout_of 1 hierarchy_file)
explained_is_one hierarchy_file (Some trace_file) None = reading_is_one (files_of hierarchy_file trace_file)
explained_is_one hierarchy_file (Some trace_file) (Some plan_file) = plan_is_one hierarchy_file trace_file plan_file
