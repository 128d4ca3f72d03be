-- What files are read as, side by side, and taken in their order.
use Rattle.std.proofs.Common.{◌≡◌, ◌≢◌, ℕ, ◌+◌, ◌<◌, ◌≤◌, List, [], ◌∷◌, ◌++◌, take, length, get_or, Option, Some, None, IfSome, Result, Ok, Err, refl, sym, ap, subst, arith}
use Rattle.std.proofs.Math.Seq.{get_or-append_seam}
use Rattle.std.proofs.lemmas.List.{length-append, length_push, take_all, take_more}
use Rattle.waff_model.specs.Layout.{Hierarchy}
use Rattle.waff_read.specs.Hierarchies.{hierarchy_of}
use Rattle.waff_inputs.specs.declared.fault.ToolError.{ToolError}
use Rattle.waff_inputs.specs.declared.fault.ToolError.TheVariants as tool
use Rattle.waff_tool.specs.Ranks.{AreRead, AreReadings, IsReading, RefusesRank, file_at}
use Rattle.waff_tool.proofs.RankLemmas.{first_refused, read_are, zip_push}

-- the slots of some files, of which the first have been taken, and the next is at hand
module _ (files : List (List ℕ)) (slots before behind : List (Option (Result Hierarchy ToolError))) (slot : Option (Result Hierarchy ToolError))
    (are : AreReadings files slots) (is : before ++ slot ∷ behind ≡ slots) where
  inside : length before < length slots
  inside = subst (λ all. length before < length all) is (let long = length-append before (slot ∷ behind) in omega (arith, long))

  pub within : length before < length files
  within = subst (λ n. length before < n) are.count inside

  pub slot_reads : IfSome slot (IsReading (length before + 1) (file_at files (length before)))
  slot_reads = subst (λ s. IfSome s (IsReading (length before + 1) (file_at files (length before))))
      (subst (λ all. get_or all (length before) None ≡ slot) is (get_or-append_seam before slot behind None)) (are.each (length before) inside)

-- one hierarchy more
pub slots_further : (files : List (List ℕ)) (slots before behind : List (Option (Result Hierarchy ToolError))) (layouts : List Hierarchy) (layout : Hierarchy)
    → AreReadings files slots → before ++ Some (Ok layout) ∷ behind ≡ slots → AreRead (take (length before) files) layouts
    → AreRead (take (length (before ++ Some (Ok layout) ∷ [])) files) (layouts ++ layout ∷ [])
slots_further files slots before behind layouts layout are is so_far =
    let i = length before in
    let inside = within files slots before behind (Some (Ok layout)) are is in
    let read : hierarchy_of (file_at files i) ≡ Ok layout = slot_reads files slots before behind (Some (Ok layout)) are is in
    subst (λ n. AreRead (take n files) (layouts ++ layout ∷ [])) (sym (length_push before (Some (Ok layout))))
    (subst (λ front. AreRead front (layouts ++ layout ∷ [])) (sym (take_more files i [] inside))
    (zip_push (λ file layout. hierarchy_of file ≡ Ok layout) (take i files) layouts (file_at files i) layout so_far read))

-- the first that is refused
pub slots_refused : (files : List (List ℕ)) (slots before behind : List (Option (Result Hierarchy ToolError))) (layouts : List Hierarchy) (error : ToolError)
    (trace_file : List ℕ) → AreReadings files slots → before ++ Some (Err error) ∷ behind ≡ slots → AreRead (take (length before) files) layouts
    → RefusesRank files trace_file error
slots_refused files slots before behind layouts error trace_file are is so_far =
    first_refused files trace_file (length before) (length before + 1) error refl (within files slots before behind (Some (Err error)) are is)
    (read_are (take (length before) files) layouts so_far) (slot_reads files slots before behind (Some (Err error)) are is).0

-- no reading fails for a writer's fault
pub slots_unwritten : (files : List (List ℕ)) (slots before behind : List (Option (Result Hierarchy ToolError))) (error : ToolError)
    → AreReadings files slots → before ++ Some (Err error) ∷ behind ≡ slots → error ≢ tool.Write
slots_unwritten files slots before behind error are is = (slot_reads files slots before behind (Some (Err error)) are is).1

-- all hierarchies
pub slots_read : (files : List (List ℕ)) (slots before : List (Option (Result Hierarchy ToolError))) (layouts : List Hierarchy) → AreReadings files slots
    → before ≡ slots → AreRead (take (length before) files) layouts → AreRead files layouts
slots_read files slots before layouts are is so_far =
    let over : length files ≤ length before = let long = ap length is in let count = are.count in omega (arith, long, count) in
    subst (λ front. AreRead front layouts) (take_all (length before) files over) so_far
