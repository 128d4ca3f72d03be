-- Two hierarchies on one trace.
use Rattle.std.proofs.Common.{◌≡◌, ℕ, ◌≤◌, ◌↔◌, ◌||◌, Bool, true, false, IsTrue, Option, Some, None, unwrap_or, refl, sym, ◌∙◌, ap, subst, List, [], ◌∷◌, ◌++◌, decimal, append_assoc, rules}
use Rattle.std.specs.List.{join_with_byte}
use Rattle.waff_model.specs.Layout.{Hierarchy}
use Rattle.waff_model.specs.Tree.{Node}
use Rattle.waff_model.specs.declared.kind.Kind.{Kind}
use Rattle.waff_model.specs.declared.message.Version.{Version}
use Rattle.waff_model.specs.declared.message.Version.TheVariants.{V1, V2, V3, V4}
use Rattle.waff_model.specs.Messages.{Arrivals}
use Rattle.waff_model.specs.Versions.{has_clients}
use Rattle.waff_assign.specs.Case.{instance_of}
use Rattle.waff_assign.specs.Instance.{Instance}
use Rattle.waff_assign.specs.Order.{IsOrdered}
use Rattle.waff_assign.specs.declared.case.Case.{Case}
use Rattle.waff_plan.specs.Obeys.{IsLeast}
use Rattle.waff_plan.specs.Serving.{served_before}
use Rattle.waff_plan.specs.Timetable.{work_of_messages}
use Rattle.waff_plan.specs.Timing.{start_of}
use Rattle.waff_plan.specs.Laws.{LeastIsNoLonger}
use Rattle.waff_plan.specs.Work.{Work}
use Rattle.waff_plan.specs.declared.totals.Totals.{Totals}
use Rattle.waff_plan_text.specs.Lines.{line_text}
use Rattle.waff_read.specs.declared.trace_fault.TraceError.{TraceError}
use Rattle.waff_read.specs.declared.trace_fault.TraceError.TheVariants as trace
use Rattle.waff_tool.specs.Comparison.{AreCertifiedTotals, AreListTotals, IsMeasured, IsToldWhere, fields_where}
use Rattle.waff_inputs.specs.ToolErrors.{trace_error}
use Rattle.waff_inputs.specs.declared.fault.ToolError.TheVariants as tool
use Rattle.waff_tool.specs.declared.measures.Measured.{Measured}
use Rattle.waff_assign.specs.Held.{Held}

-- what is told of the plans over the pairs of a tree is told of the hierarchy that has the tree
pub measured_of : (layout : Hierarchy) (case : Case) (k : ℕ) (kind : Kind) (unlimited listed : Totals) → case.tree.now ≡ layout.tree → kind ≡ layout.kind
    → AreCertifiedTotals (instance_of case) unlimited → AreListTotals (instance_of case) k listed
    → IsMeasured layout case.assigned.now case.trace.now k (record { kind = kind; unlimited = unlimited; listed = listed })
measured_of layout case k kind unlimited listed same is least by_arrival =
    let under : List Node → Instance = λ tree. record { tree = tree; assigned = case.assigned.now; trace = case.trace.now } in
    record {
      kind = is;
      least = subst (λ tree. AreCertifiedTotals (under tree) unlimited) same least;
      by_arrival = subst (λ tree. AreListTotals (under tree) k listed) same by_arrival;
    }

-- without clients a plan is least in the order of the trace
in_order : (version : Version) → has_clients version ≡ false → (tree : List Node) (assigned : List Held) (work : Work) (start : ℕ → ℕ)
    → IsLeast (served_before version tree assigned work start) work start → IsLeast (IsOrdered tree assigned) work start
in_order V1 without tree assigned work start least = least
in_order V2 without tree assigned work start least = least
in_order V3 without tree assigned work start least = absurd (cc)
in_order V4 without tree assigned work start least = absurd (cc)

-- the least plan under a hierarchy that refines another is no longer
pub refined_is_no_longer : (classical hierarchical : Hierarchy) (coarse fine : List Held) (trace : Arrivals) (k : ℕ)
    (of_classical of_hierarchical : Measured) → IsMeasured classical coarse trace k of_classical
    → IsMeasured hierarchical fine trace k of_hierarchical
    → LeastIsNoLonger (IsOrdered hierarchical.tree fine) (IsOrdered classical.tree coarse) (work_of_messages trace.messages)
    → has_clients trace.version ≡ false → of_hierarchical.unlimited.length ≤ of_classical.unlimited.length
refined_is_no_longer classical hierarchical coarse fine trace k of_classical of_hierarchical one other no_longer without =
    let work = work_of_messages trace.messages in
    let fine_least = in_order trace.version without hierarchical.tree fine work (start_of other.least.starts) other.least.certified.least in
    let coarse_least = in_order trace.version without classical.tree coarse work (start_of one.least.starts) one.least.certified.least in
    let shorter = no_longer (start_of other.least.starts) (start_of one.least.starts) fine_least coarse_least in
    rw (one.least.told, other.least.told) shorter

-- a fact that is told to hold does
pub told_as_fact : (locks : Bool) (Fact : Type 0) (refined : Option Bool) → IsToldWhere locks Fact refined → refined ≡ Some true → Fact
told_as_fact true Fact refined none holds = let both : None ≡ Some true = sym none ∙ holds in absurd (cc)
told_as_fact false Fact refined told holds =
    let same : told.0 ≡ true = ap (λ (o : Option Bool). unwrap_or o false) (sym told.1 ∙ holds) in
    told.2.0 same

-- what is told without locks
pub told_without : (one other answer : Bool) (Fact : Type 0) → one ≡ false → other ≡ false → (IsTrue answer ↔ Fact) → IsToldWhere (one || other) Fact (Some answer)
told_without false false answer Fact p q tells = (answer, refl, tells)
told_without true other answer Fact p q tells = absurd (cc)
told_without false true answer Fact p q tells = absurd (cc)

-- it is no fault of a writer
pub trace_is_read : (fault : TraceError) → trace_error fault ≡ tool.Write → ⊥
trace_is_read trace.Memory e = cc e
trace_is_read fault e = cc e

-- a line of a model's name, of what is told of two plans, and of the two sides of the bound
pub measured_further : (releases : Bool) (kind : List ℕ) (plan list : Totals) (old named planned listed now : List ℕ)
    → named ≡ old ++ kind → planned ≡ named ++ 44 ∷ join_with_byte 44 (fields_where releases plan)
    → listed ≡ planned ++ 44 ∷ join_with_byte 44 (fields_where releases list)
    → now ≡ listed ++ 44 ∷ (decimal list.left ++ 44 ∷ (decimal list.right ++ 10 ∷ []))
    → now ≡ old ++ line_text (kind ∷ fields_where releases plan ++ fields_where releases list ++ decimal list.left ∷ decimal list.right ∷ [])
measured_further false kind plan list old named planned listed now one two three four = rw (four, three, two, one) (search (rules, append_assoc))
measured_further true kind plan list old named planned listed now one two three four = rw (four, three, two, one) (search (rules, append_assoc))
