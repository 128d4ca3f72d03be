-- Of the same bytes one hierarchy, one trace and one instance are accepted.
use Rattle.std.proofs.Common.{◌≡◌, ℕ, List, Result, Ok, sym, ◌∙◌, ap, subst}
use Rattle.waff_model.specs.Layout.{Hierarchy}
use Rattle.waff_model.specs.Messages.{Arrivals}
use Rattle.waff_model.specs.Tree.{IsTree, Node}
use Rattle.waff_model.specs.Unique.{AtMostOne}
use Rattle.waff_read.specs.Hierarchies.{hierarchy_of}
use Rattle.waff_inputs.specs.Known.{trace_of}
use Rattle.waff_read.proofs.LimitLaws.{layout_is_within_limits}
use Rattle.waff_assign.specs.Instance.{Instance}
use Rattle.waff_assign.specs.Lowest.{IsAssignment}
use Rattle.waff_assign.proofs.Uniqueness.{assignment_is_one}
use Rattle.waff_inputs.specs.Inputs.{Accepts, IsToldOf, IsToldUnder}
use Rattle.waff_assign.specs.Held.{Held}

-- bytes are read as one thing
pub same_ok : {A E : Type 0} (read : Result A E) (a b : A) → read ≡ Ok a → read ≡ Ok b → a ≡ b
same_ok read a b one other = cc

pub same_trace : (layout other : Hierarchy) (file : List ℕ) (trace more : Arrivals) → layout ≡ other → trace_of layout.spaces file ≡ Ok trace
    → trace_of other.spaces file ≡ Ok more → trace ≡ more
same_trace layout other file trace more same one two =
    same_ok (trace_of layout.spaces file) trace more one (subst (λ (l : Hierarchy). trace_of l.spaces file ≡ Ok more) (sym same) two)

pub layout_tree : (file : List ℕ) (layout : Hierarchy) → hierarchy_of file ≡ Ok layout → IsTree layout.tree
layout_tree file layout read = let limits = layout_is_within_limits file layout read in limits.tree

same_instance : (one other : Instance) → one.tree ≡ other.tree → one.assigned ≡ other.assigned → one.trace ≡ other.trace → one ≡ other
same_instance one other trees assignments traces =
    let made : List Node → List Held → Arrivals → Instance = λ tree assigned trace. record { tree = tree; assigned = assigned; trace = trace } in
    ap (λ t. made t one.assigned one.trace) trees ∙ ap (λ a. made other.tree a one.trace) assignments ∙ ap (made other.tree other.assigned) traces

pub same_input : (hierarchy_file trace_file : List ℕ) (one other : Instance) → Accepts hierarchy_file trace_file one → Accepts hierarchy_file trace_file other
    → one ≡ other
same_input hierarchy_file trace_file one other p q =
    let layouts = same_ok (hierarchy_of hierarchy_file) p.layout q.layout p.is_layout q.is_layout in
    let traces = same_trace p.layout q.layout trace_file one.trace other.trace layouts p.is_trace q.is_trace in
    let moved = subst (λ (l : Hierarchy). IsAssignment l one.trace.messages other.assigned) (sym layouts)
    (subst (λ (t : Arrivals). IsAssignment q.layout t.messages other.assigned) (sym traces) q.assignment) in
    same_instance one other (sym p.tree ∙ ap (λ (l : Hierarchy). l.tree) layouts ∙ q.tree)
    (assignment_is_one p.layout one.trace.messages (layout_tree hierarchy_file p.layout p.is_layout) one.assigned other.assigned p.assignment moved)
    traces

-- what is told of files is one where it is one of each hierarchy and instance
pub told_under_is_one : {A : Type 0} (IsTold : Hierarchy → Instance → A → Type 0) (hierarchy_file trace_file : List ℕ)
    → ((instance : Instance) (accepts : Accepts hierarchy_file trace_file instance) → AtMostOne (IsTold accepts.layout instance))
    → AtMostOne (IsToldUnder IsTold hierarchy_file trace_file)
told_under_is_one IsTold hierarchy_file trace_file one a b p q =
    let same = same_input hierarchy_file trace_file p.instance q.instance p.accepts q.accepts in
    let layouts = same_ok (hierarchy_of hierarchy_file) p.accepts.layout q.accepts.layout p.accepts.is_layout q.accepts.is_layout in
    one p.instance p.accepts a b p.told
    (subst (λ (l : Hierarchy). IsTold l p.instance b) (sym layouts) (subst (λ i. IsTold q.accepts.layout i b) (sym same) q.told))

-- of the instance alone
pub told_is_one : {A : Type 0} (IsTold : Instance → A → Type 0) (hierarchy_file trace_file : List ℕ)
    → ((instance : Instance) → Accepts hierarchy_file trace_file instance → AtMostOne (IsTold instance))
    → AtMostOne (IsToldOf IsTold hierarchy_file trace_file)
told_is_one IsTold hierarchy_file trace_file one = told_under_is_one (λ layout. IsTold) hierarchy_file trace_file one
