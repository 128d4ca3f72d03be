-- What the program ends with where it runs messages.
use Rattle.std.proofs.Common.{◌≡◌, ◌⊎◌, ℕ, List, Option, None, Some, Ok, true, inl, inr, refl, subst, sym}
use Rattle.std.specs.Prelude.{IfSome}
use Rattle.std.specs.Io.KnownBytes.{Keeps}
use Rattle.waff_io.specs.Writing.{AppendsPart}
use Rattle.waff_assign.specs.Held.{Held}
use Rattle.waff_assign.specs.Instance.{Instance}
use Rattle.waff_assign.specs.Lowest.{IsAssignment}
use Rattle.waff_inputs.specs.Inputs.{Accepts, Refuses, instance_under}
use Rattle.waff_inputs.specs.Known.{trace_of}
use Rattle.waff_inputs.specs.declared.fault.ToolError.TheVariants as tool
use Rattle.waff_model.specs.Layout.{Hierarchy}
use Rattle.waff_model.specs.Messages.{Arrivals}
use Rattle.waff_inputs.specs.declared.fault.ToolError.{ToolError}
use Rattle.waff_read.specs.Hierarchies.{hierarchy_of}
use Rattle.waff_run.specs.Faults.{IsOfOpening, IsOfRunning, Told}
use Rattle.waff_run.specs.Opening.{job_of}
use Rattle.waff_run.specs.Places.{Placing, placing_of}
use Rattle.waff_cli.specs.declared.task.RunTask.{RunTask}
use Rattle.waff_run.specs.declared.fault.RunError.{RunError}
use Rattle.waff_run.specs.declared.fault.RunError.TheVariants as run
use Rattle.waff_answer.specs.Runs.{IsOfTask, IsPartText, IsRunText, LeavesPart, RefusesRun, told_by}

-- where the text of a run was not written whole, the output has nothing or a part of it
pub leaves_part : (hierarchy_file trace_file : List ℕ) (wanted : RunTask) (error : RunError) (text : List ℕ) (drift : Option ℕ) (old new : Option (List ℕ))
    → IsRunText hierarchy_file trace_file wanted.words.workers wanted.words.tick text drift → error ≡ run.Tool tool.Write
    → Keeps old new ⊎ AppendsPart old new text → LeavesPart hierarchy_file trace_file wanted error None old new
leaves_part hierarchy_file trace_file wanted error text drift old new is fault (inl keeps) = inr (refl, inl keeps)
leaves_part hierarchy_file trace_file wanted error text drift old new is fault (inr part) = inr (refl, inr (text, drift, inl (fault, is), part))

-- the same of what is left of one
pub leaves_left : (hierarchy_file trace_file : List ℕ) (wanted : RunTask) (error : RunError) (text : List ℕ) (drift : Option ℕ) (old new : Option (List ℕ))
    → wanted.words.partial ≡ true → IsPartText hierarchy_file trace_file wanted.words.workers wanted.words.tick text drift
    → Keeps old new ⊎ AppendsPart old new text → LeavesPart hierarchy_file trace_file wanted error None old new
leaves_left hierarchy_file trace_file wanted error text drift old new so is (inl keeps) = inr (refl, inl keeps)
leaves_left hierarchy_file trace_file wanted error text drift old new so is (inr part) = inr (refl, inr (text, drift, inr (so, is), part))

-- where nothing was told, the output is as it was
pub leaves_none : (hierarchy_file trace_file : List ℕ) (wanted : RunTask) (error : RunError) (old new : Option (List ℕ)) → Keeps old new
    → LeavesPart hierarchy_file trace_file wanted error None old new
leaves_none hierarchy_file trace_file wanted error old new keeps = inr (refl, inl keeps)

-- a fault of the tools that is one of a run tells nothing of the files
of_tool : (layout : Hierarchy) (trace : Arrivals) (wanted : RunTask) (error : ToolError) → IsOfTask layout trace wanted (run.Tool error)
    → (error ≡ tool.Memory) ⊎ (error ≡ tool.Write)
of_tool layout trace wanted error (inl (inl memory)) = inl memory
of_tool layout trace wanted error (inl (inr write)) = inr write.0
of_tool layout trace wanted error (inr memory) = inl memory

-- an error of a run of accepted files tells why there is none
pub refuses_run : (hierarchy_file trace_file : List ℕ) (instance : Instance) (layout : Hierarchy) → Accepts hierarchy_file trace_file instance
    → hierarchy_of hierarchy_file ≡ Ok layout → (wanted : RunTask) (error : RunError) → IsOfTask layout instance.trace wanted error
    → RefusesRun hierarchy_file trace_file wanted error
refuses_run hierarchy_file trace_file instance layout accepts is wanted (run.Tool error) of = inr (of_tool layout instance.trace wanted error of)
refuses_run hierarchy_file trace_file instance layout accepts is wanted (run.Tick m) of = (instance, layout, accepts, is, of)
refuses_run hierarchy_file trace_file instance layout accepts is wanted run.Folder of = (instance, layout, accepts, is, of)
refuses_run hierarchy_file trace_file instance layout accepts is wanted (run.Same name) of = (instance, layout, accepts, is, of)
refuses_run hierarchy_file trace_file instance layout accepts is wanted (run.Foreign name) of = (instance, layout, accepts, is, of)
refuses_run hierarchy_file trace_file instance layout accepts is wanted (run.File name) of = (instance, layout, accepts, is, of)
refuses_run hierarchy_file trace_file instance layout accepts is wanted (run.Threads workers) of = (instance, layout, accepts, is, of)
refuses_run hierarchy_file trace_file instance layout accepts is wanted run.Run of = (instance, layout, accepts, is, of)

-- what opening refuses, and what running does, is of the run that is wanted
pub of_opening : (layout : Hierarchy) (placing : Placing) (trace : Arrivals) (wanted : RunTask) (told : Told) (error : RunError)
    → placing ≡ placing_of layout.spaces wanted.words.cell → told ≡ told_by wanted → IsOfOpening (job_of layout placing trace) told error
    → IsOfTask layout trace wanted error
of_opening layout placing trace wanted told error is_placing is_told of =
    inl (subst (λ told. IsOfOpening (job_of layout (placing_of layout.spaces wanted.words.cell) trace) told error) is_told
    (subst (λ placing. IsOfOpening (job_of layout placing trace) told error) is_placing of))

pub of_running : (layout : Hierarchy) (placing : Placing) (trace : Arrivals) (wanted : RunTask) (workers : ℕ) (error : RunError)
    → placing ≡ placing_of layout.spaces wanted.words.cell → workers ≡ wanted.words.workers → IsOfRunning (job_of layout placing trace) workers error
    → IsOfTask layout trace wanted error
of_running layout placing trace wanted workers error is_placing is_workers of =
    inr (subst (λ workers. IsOfRunning (job_of layout (placing_of layout.spaces wanted.words.cell) trace) workers error) is_workers
    (subst (λ placing. IsOfRunning (job_of layout placing trace) workers error) is_placing of))

pub of_memory : (layout : Hierarchy) (trace : Arrivals) (wanted : RunTask) (error : RunError) → error ≡ run.Tool tool.Memory → IsOfTask layout trace wanted error
of_memory layout trace wanted error is = subst (IsOfTask layout trace wanted) (sym is) (inl (inl refl))

-- so does a writer's fault
pub refuses_write : (hierarchy_file trace_file : List ℕ) (wanted : RunTask) (error : RunError) → error ≡ run.Tool tool.Write
    → RefusesRun hierarchy_file trace_file wanted error
refuses_write hierarchy_file trace_file wanted error fault =
    let write : Refuses hierarchy_file trace_file tool.Write = inr (inr refl) in
    subst (RefusesRun hierarchy_file trace_file wanted) (sym fault) write

-- what follows of a value that may be there
pub some_weaker : {A : Type 0} (o : Option A) (P Q : A → Type 0) → ((a : A) → P a → Q a) → IfSome o P → IfSome o Q
some_weaker None P Q more holds = tt
some_weaker (Some a) P Q more holds = more a holds

-- what the messages of accepted files hold
pub assigned_under : (hierarchy_file trace_file : List ℕ) (layout : Hierarchy) (assigned : List Held) (trace : Arrivals)
    → Accepts hierarchy_file trace_file (instance_under layout assigned trace) → hierarchy_of hierarchy_file ≡ Ok layout
    → IsAssignment layout trace.messages assigned
assigned_under hierarchy_file trace_file layout assigned trace accepts is =
    let read = accepts.is_layout in
    let same : accepts.layout ≡ layout = cc in
    subst (λ (l : Hierarchy). IsAssignment l trace.messages assigned) same accepts.assignment

-- what the bytes of the trace are read as
pub spelled_under : (hierarchy_file trace_file : List ℕ) (layout : Hierarchy) (assigned : List Held) (trace : Arrivals)
    → Accepts hierarchy_file trace_file (instance_under layout assigned trace) → hierarchy_of hierarchy_file ≡ Ok layout
    → trace_of layout.spaces trace_file ≡ Ok trace
spelled_under hierarchy_file trace_file layout assigned trace accepts is =
    let read = accepts.is_layout in
    let same : accepts.layout ≡ layout = cc in
    subst (λ (l : Hierarchy). trace_of l.spaces trace_file ≡ Ok trace) same accepts.is_trace
