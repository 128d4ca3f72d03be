-- Files side by side with what they are read as, and the lines of a rank.
use Rattle.std.proofs.Common.{◌≡◌, ℕ, zero, suc, ◌+◌, ◌<◌, All, List, [], ◌∷◌, ◌++◌, map, take, length, get_or, slice_get, Vec, Global, Option, Some, None, IfSome, Ok, inl, inr, append_assoc, refl, sym, ◌∙◌, ap, subst, arith}
use Rattle.std.proofs.lemmas.List.{append-nil, length-map, length-take-le, take_more}
use Rattle.std.proofs.lemmas.List.Elements.{All-cons}
use Rattle.std.proofs.lemmas.Grind.{flat_map-append}
use Rattle.std.specs.List.{AllZip}
use Rattle.waff_model.specs.Layout.{Hierarchy}
use Rattle.waff_model.specs.Messages.{Arrivals, sizes_of}
use Rattle.waff_read.specs.Hierarchies.{hierarchy_of}
use Rattle.waff_read.specs.Traces.{Tells}
use Rattle.waff_read.specs.declared.trace_fault.TraceError.{TraceError}
use Rattle.waff_read.specs.declared.trace_fault.TraceError.TheVariants as trace
use Rattle.waff_inputs.specs.Known.{newest, trace_of}
use Rattle.waff_inputs.specs.ToolErrors.{trace_error}
use Rattle.waff_list.specs.declared.rule.Rule.{Rule}
use Rattle.waff_plan_text.specs.Lines.{line_text, text_of}
use Rattle.waff_inputs.specs.Inputs.{Refuses, RefusesHierarchy}
use Rattle.waff_inputs.specs.declared.fault.ToolError.{ToolError}
use Rattle.waff_inputs.specs.declared.fault.ToolError.TheVariants as tool
use Rattle.waff_inputs.proofs.Refusals.{told_back, trace_told_back}
use Rattle.waff_tool.specs.Ranks.{Admits, AreRead, HasSpacesOf, IsHierarchy, IsRanked, IsRankedOver, RefusesRank, file_at, rank_row, rank_rows}
use Rattle.waff_tool.specs.declared.ranks.Ranked.{Ranked}
use Rattle.waff_tool.proofs.ReadAlike.{read_alike}

-- two lists side by side
pub zip_push : {A B : Type 0} (R : A → B → Type 0) (xs : List A) (ys : List B) (x : A) (y : B) → AllZip R xs ys → R x y → AllZip R (xs ++ x ∷ []) (ys ++ y ∷ [])
zip_push R [] [] x y are is = (is, tt)
zip_push R [] (b ∷ ys) x y are is = absurd are
zip_push R (a ∷ xs) [] x y are is = absurd are
zip_push R (a ∷ xs) (b ∷ ys) x y are is = (are.0, zip_push R xs ys x y are.1 is)

pub zip_at : {A B : Type 0} (R : A → B → Type 0) (xs : List A) (ys : List B) (i : ℕ) (d : A) (e : B) → AllZip R xs ys → i < length xs
    → R (get_or xs i d) (get_or ys i e)
zip_at R [] [] i d e are inside = absurd (omega (arith, inside))
zip_at R [] (b ∷ ys) i d e are inside = absurd are
zip_at R (a ∷ xs) [] i d e are inside = absurd are
zip_at R (a ∷ xs) (b ∷ ys) zero d e are inside = are.0
zip_at R (a ∷ xs) (b ∷ ys) (suc i) d e are inside = zip_at R xs ys i d e are.1 (omega (arith, inside))

pub zip_length : {A B : Type 0} (R : A → B → Type 0) (xs : List A) (ys : List B) → AllZip R xs ys → length xs ≡ length ys
zip_length R [] [] are = refl
zip_length R [] (b ∷ ys) are = absurd are
zip_length R (a ∷ xs) [] are = absurd are
zip_length R (a ∷ xs) (b ∷ ys) are = ap suc (zip_length R xs ys are.1)

-- two pairs of lists side by side, of which one list is the same
pub zip_through : {A B C : Type 0} (R : A → B → Type 0) (S : B → C → Type 0) (T : A → C → Type 0) (P : B → Type 0)
    → ((x : A) (y : B) (z : C) → P y → R x y → S y z → T x z) → (xs : List A) (ys : List B) (zs : List C) → All P ys → AllZip R xs ys → AllZip S ys zs
    → AllZip T xs zs
zip_through R S T P has [] [] [] all first second = tt
zip_through R S T P has [] [] (c ∷ zs) all first second = absurd second
zip_through R S T P has [] (b ∷ ys) zs all first second = absurd first
zip_through R S T P has (a ∷ xs) [] zs all first second = absurd first
zip_through R S T P has (a ∷ xs) (b ∷ ys) [] all first second = absurd second
zip_through R S T P has (a ∷ xs) (b ∷ ys) (c ∷ zs) all first second = (
  has a b c (all 0 b (omega arith)) first.0 second.0,
  zip_through R S T P has xs ys zs (λ k d inside. all (suc k) d (omega (arith, inside))) first.1 second.1,
)

-- what was made in places, each by what stands at that place of another list
zip_places : {A B : Type 0} (R : A → B → Type 0) (xs : List A) (ys : List B) → length ys ≡ length xs
    → ((i : ℕ) → i < length ys → IfSome (get_or (map (λ (y : B). Some y) ys) i None) (λ y. (x : A) → slice_get xs i ≡ Some x → R x y)) → AllZip R xs ys
zip_places R [] [] count each = tt
zip_places R [] (b ∷ ys) count each = absurd (omega (arith, count))
zip_places R (a ∷ xs) [] count each = absurd (omega (arith, count))
zip_places R (a ∷ xs) (b ∷ ys) count each =
    (each 0 (omega arith) a refl, zip_places R xs ys (omega (arith, count)) (λ i inside. each (suc i) (omega (arith, inside))))

pub zip_of_each : {A B : Type 0} (R : A → B → Type 0) (xs : List A) (made : List (Option B)) (ys : List B) → map (λ (y : B). Some y) ys ≡ made
    → length made ≡ length xs → ((i : ℕ) → i < length made → IfSome (get_or made i None) (λ y. (x : A) → slice_get xs i ≡ Some x → R x y)) → AllZip R xs ys
zip_of_each {A} {B} R xs made ys is count each =
    let long : length ys ≡ length made = sym (length-map ys (λ (y : B). Some y)) ∙ ap length is in
    zip_places R xs ys (long ∙ count)
    (λ i inside. subst (λ places. IfSome (get_or places i None) (λ y. (x : A) → slice_get xs i ≡ Some x → R x y)) (sym is) (each i (omega (arith, long, inside))))

-- what a side of them has, by what stands beside it
pub zip_have : {A B : Type 0} (R : A → B → Type 0) (P : A → Type 0) → ((x : A) (y : B) → R x y → P x) → (xs : List A) (ys : List B) → AllZip R xs ys → All P xs
zip_have R P has [] [] are = λ k d inside. absurd (omega (arith, inside))
zip_have R P has [] (b ∷ ys) are = absurd are
zip_have R P has (a ∷ xs) [] are = absurd are
zip_have R P has (a ∷ xs) (b ∷ ys) are = All-cons P a xs (has a b are.0) (zip_have R P has xs ys are.1)

-- the bytes of files, one by one
abbrev pub bytes_of : List (Vec ℕ Global) → List (List ℕ)
bytes_of files = map (λ (file : Vec ℕ Global). file.items) files

pub bytes_length : (files : List (Vec ℕ Global)) → length (bytes_of files) ≡ length files
bytes_length files = length-map files (λ (f : Vec ℕ Global). f.items)

-- files that are read are hierarchies
pub read_are : (files : List (List ℕ)) (layouts : List Hierarchy) → AreRead files layouts → All IsHierarchy files
read_are files layouts are = zip_have (λ file layout. hierarchy_of file ≡ Ok layout) IsHierarchy (λ file layout read. (layout, read)) files layouts are

-- files that are ranked admit the trace
pub ranked_admit : (rule : Rule) (trace_file : List ℕ) (k : ℕ) (files : List (List ℕ)) (ranks : List Ranked) → AllZip (IsRanked rule trace_file k) files ranks
    → All (Admits trace_file) files
ranked_admit rule trace_file k files ranks are =
    zip_have (IsRanked rule trace_file k) (Admits trace_file) (λ file ranked is. (is.accepts.layout, is.instance.trace, is.accepts.is_layout, is.accepts.is_trace)) files ranks are

-- the first file that is no hierarchy
pub first_refused : (files : List (List ℕ)) (trace_file : List ℕ) (i number : ℕ) (error : ToolError) → number ≡ i + 1 → i < length files
    → All IsHierarchy (take i files) → RefusesHierarchy number (file_at files i) error → RefusesRank files trace_file error
first_refused files trace_file i number error is inside before refused = elim refused [
  | inl failed ↦
      let (fault, read, same) = told_back (tool.Hier number) (hierarchy_of (file_at files i)) error failed in
      subst (RefusesRank files trace_file) same (record { at = i; number_is = is; within = inside; before = before; refused = read })
  | inr (inl memory) ↦ subst (RefusesRank files trace_file) (sym memory) tt
  | inr (inr write) ↦ subst (RefusesRank files trace_file) (sym write) tt
]

-- the first of hierarchies under which the trace is refused
pub first_refuted : (files : List (List ℕ)) (trace_file : List ℕ) (i : ℕ) (layout : Hierarchy) (error : ToolError) → All IsHierarchy files → i < length files
    → All (Admits trace_file) (take i files) → hierarchy_of (file_at files i) ≡ Ok layout → Refuses (file_at files i) trace_file error
    → RefusesRank files trace_file error
first_refuted files trace_file i layout error are inside before read refused = elim refused [
  | inl failed ↦
      let (fault, is, same) = trace_told_back (file_at files i) trace_file layout error read failed in
      subst (RefusesRank files trace_file) same (record { hierarchies = are; at = i; within = inside; before = before; refuted = (layout, read, is) })
  | inr (inl memory) ↦ subst (RefusesRank files trace_file) (sym memory) tt
  | inr (inr write) ↦ subst (RefusesRank files trace_file) (sym write) tt
]

-- the first of hierarchies, under which the trace is refused
pub refuted_at_first : (files : List (List ℕ)) (trace_file : List ℕ) (layouts : List Hierarchy) (first : Hierarchy) (fault : TraceError)
    → AreRead files layouts → slice_get layouts 0 ≡ Some first → Tells fault (trace_of first.spaces trace_file)
    → RefusesRank files trace_file (trace_error fault)
refuted_at_first [] trace_file [] first fault are has told = absurd (cc has)
refuted_at_first [] trace_file (layout ∷ layouts) first fault are has told = absurd are
refuted_at_first (file ∷ files) trace_file [] first fault are has told = absurd are
refuted_at_first (file ∷ files) trace_file (layout ∷ layouts) first trace.Memory are has told = tt
refuted_at_first (file ∷ files) trace_file (layout ∷ layouts) first fault are has told = record {
  hierarchies = read_are (file ∷ files) (layout ∷ layouts) are;
  at = 0;
  within = omega arith;
  before = λ k d inside. absurd (omega (arith, inside));
  refuted = (first, are.0 ∙ (let same : Some layout ≡ Some first = has in cc), told);
}

-- a trace that fits one of hierarchies of the same spaces fits all
pub all_fit : (sizes : List ℕ) (first : Hierarchy) (layouts : List Hierarchy) → sizes ≡ sizes_of first.spaces → All (HasSpacesOf first) layouts
    → All (λ (layout : Hierarchy). sizes ≡ sizes_of layout.spaces) layouts
all_fit sizes first layouts fits same = λ k d inside. fits ∙ (same k d inside).sizes

-- what is told of a trace under each of some hierarchies of the same spaces is told of their files
pub ranked_together : (rule : Rule) (trace_file : List ℕ) (k : ℕ) (trace : Arrivals) (first : Hierarchy) (files : List (List ℕ)) (layouts : List Hierarchy)
    (ranks : List Ranked) → trace_of first.spaces trace_file ≡ Ok trace → All (HasSpacesOf first) layouts → AreRead files layouts
    → AllZip (IsRankedOver rule trace k) layouts ranks → AllZip (IsRanked rule trace_file k) files ranks
ranked_together rule trace_file k trace first files layouts ranks spelled same are each =
    zip_through (λ file layout. hierarchy_of file ≡ Ok layout) (IsRankedOver rule trace k) (IsRanked rule trace_file k) (HasSpacesOf first)
    (λ file layout ranked alike read over. over file trace_file read (sym (read_alike newest first.spaces layout.spaces trace_file alike) ∙ spelled))
    files layouts ranks same are each

-- one line more
rows_push : (n : ℕ) (ranks : List Ranked) (ranked : Ranked) → rank_rows n (ranks ++ ranked ∷ []) ≡ rank_rows n ranks ++ rank_row (n + length ranks) ranked ∷ []
rows_push n [] ranked = ap (λ m. rank_row m ranked ∷ []) (let e : n ≡ n + 0 = omega arith in e)
rows_push n (one ∷ ranks) ranked =
    ap (λ rows. rank_row n one ∷ rows)
    (rows_push (n + 1) ranks ranked ∙ ap (λ m. rank_rows (n + 1) ranks ++ rank_row m ranked ∷ []) (let e : n + 1 + length ranks ≡ n + suc (length ranks) = omega arith in e))

pub ranks_further : (ranks : List Ranked) (i : ℕ) (d : Ranked) (before so_far now : List ℕ) → i < length ranks
    → so_far ≡ before ++ text_of (rank_rows 1 (take i ranks)) → now ≡ so_far ++ line_text (rank_row (i + 1) (get_or ranks i d))
    → now ≡ before ++ text_of (rank_rows 1 (take (i + 1) ranks))
ranks_further ranks i d before so_far now inside h k =
    let front = take i ranks in
    let ranked = get_or ranks i d in
    let more : take (i + 1) ranks ≡ front ++ ranked ∷ [] = take_more ranks i d inside in
    let long : length front ≡ i = length-take-le i ranks (omega (arith, inside)) in
    let row = rank_row (i + 1) ranked in
    let last : rank_rows 1 (take (i + 1) ranks) ≡ rank_rows 1 front ++ row ∷ []
    = ap (rank_rows 1) more ∙ rows_push 1 front ranked
    ∙ ap (λ n. rank_rows 1 front ++ rank_row n ranked ∷ []) (let e : 1 + length front ≡ i + 1 = omega (arith, long) in e) in
    let text : text_of (rank_rows 1 (take (i + 1) ranks)) ≡ text_of (rank_rows 1 front) ++ text_of (row ∷ [])
    = ap text_of last ∙ flat_map-append line_text (rank_rows 1 front) (row ∷ []) in
    let one : line_text row ≡ text_of (row ∷ []) = sym (append-nil (line_text row)) in
    k ∙ ap (λ t. t ++ line_text row) h ∙ append_assoc before (text_of (rank_rows 1 front)) (line_text row)
    ∙ ap (λ t. before ++ (text_of (rank_rows 1 front) ++ t)) one ∙ ap (λ t. before ++ t) (sym text)
