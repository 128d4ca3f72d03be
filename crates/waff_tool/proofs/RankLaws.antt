-- Of the same files there is one rank or one refusal, and what it tells of the list plan is what a sweep tells.
use Rattle.std.proofs.Common.{◌≡◌, ℕ, ◌+◌, ◌<◌, All, List, [], ◌∷◌, take, length, Err, inl, inr, refl, sym, ◌∙◌, ap, subst, arith}
use Rattle.std.proofs.lemmas.Bool.{cases_order}
use Rattle.std.proofs.lemmas.List.{get_or-take, length-take-le}
use Rattle.std.proofs.lemmas.List.Elements.{All-cons}
use Rattle.std.specs.List.{AllZip}
use Rattle.waff_model.specs.Layout.{Hierarchy}
use Rattle.waff_model.specs.Unique.{AtMostOne}
use Rattle.waff_model.specs.declared.kind.Kind.{Kind}
use Rattle.waff_read.specs.Hierarchies.{hierarchy_of}
use Rattle.waff_read.specs.declared.hier_error.HierError.{HierError}
use Rattle.waff_read.specs.declared.trace_fault.TraceError.{TraceError}
use Rattle.waff_assign.specs.Instance.{Instance}
use Rattle.waff_plan.specs.Instances.{work_of_instance}
use Rattle.waff_plan.specs.Timing.{start_of}
use Rattle.waff_plan.specs.Work.{length_of}
use Rattle.waff_plan.proofs.Uniqueness.{same_length}
use Rattle.waff_list.specs.declared.rule.Rule.{Rule}
use Rattle.waff_plan_text.specs.Lines.{text_of}
use Rattle.waff_figures.specs.Sweep.{AreListed, IsListed}
use Rattle.waff_figures.specs.declared.figures.Figures.{Figures}
use Rattle.waff_inputs.specs.Inputs.{TellsOfFiles}
use Rattle.waff_inputs.specs.declared.fault.ToolError.{ToolError}
use Rattle.waff_inputs.specs.declared.fault.ToolError.TheVariants as tool
use Rattle.waff_inputs.specs.Known.{trace_of}
use Rattle.waff_inputs.proofs.SameInput.{same_input, same_ok}
use Rattle.waff_tool.specs.Ranks.{Admits, IsFirstRefused, IsFirstRefuted, IsHierarchy, IsRankText, IsRanked, IsRankedAsSwept, IsRankedUnder, RankedIsNotRefused, RefusesRank, Refutes, file_at, rank_header, rank_rows}
use Rattle.waff_tool.specs.declared.ranks.Ranked.{Ranked}
use Rattle.waff_tool.proofs.FigureUniqueness.{listed_is_one, listed_same, told_swept}
use Rattle.waff_tool.proofs.RankLemmas.{ranked_admit}
use Rattle.waff_tool.proofs.PlanUniqueness.{IsSound, least_in_one}
use Rattle.waff_tool.proofs.TextUniqueness.{is_sound}

-- what is told under a hierarchy is one
under_is_one : (rule : Rule) (kind : Kind) (k : ℕ) (instance : Instance) → IsSound instance → AtMostOne (IsRankedUnder rule kind k instance)
under_is_one rule kind k instance sound one other p q =
    let work = work_of_instance instance in
    let told : Kind → ℕ → ℕ → Figures → Ranked = λ kind affinities length listed. record {
      kind = kind;
      affinities = affinities;
      length = length;
      listed = listed;
    } in
    let same = least_in_one instance sound (start_of p.starts) (start_of q.starts) p.least q.least in
    let lengths : one.length ≡ other.length = p.shortest ∙ same_length work (start_of p.starts) (start_of q.starts) same ∙ sym q.shortest in
    let listed : one.listed ≡ other.listed = listed_same rule instance sound one.length one.listed other.listed p.listed
    (subst (λ n. IsListed rule instance n other.listed) (sym lengths) q.listed) (p.workers ∙ sym q.workers) in
    ap (λ kind. told kind one.affinities one.length one.listed) (p.kind_is ∙ sym q.kind_is)
    ∙ ap (λ n. told other.kind n one.length one.listed) (p.affinities ∙ sym q.affinities)
    ∙ ap (λ n. told other.kind other.affinities n one.listed) lengths
    ∙ ap (told other.kind other.affinities other.length) listed

ranked_is_one : (rule : Rule) (trace_file : List ℕ) (k : ℕ) (file : List ℕ) → AtMostOne (IsRanked rule trace_file k file)
ranked_is_one rule trace_file k file one other p q =
    let same = same_input file trace_file p.instance q.instance p.accepts q.accepts in
    let layouts = same_ok (hierarchy_of file) p.accepts.layout q.accepts.layout p.accepts.is_layout q.accepts.is_layout in
    let told = subst (λ (l : Hierarchy). IsRankedUnder rule l.kind k p.instance other) (sym layouts)
    (subst (λ i. IsRankedUnder rule q.accepts.layout.kind k i other) (sym same) q.under) in
    under_is_one rule p.accepts.layout.kind k p.instance (is_sound file trace_file p.instance p.accepts) one other p.under told

ranks_are_one : (rule : Rule) (trace_file : List ℕ) (k : ℕ) (files : List (List ℕ)) (ranks others : List Ranked) → AllZip (IsRanked rule trace_file k) files ranks
    → AllZip (IsRanked rule trace_file k) files others → ranks ≡ others
ranks_are_one rule trace_file k [] [] [] p q = refl
ranks_are_one rule trace_file k [] [] (other ∷ others) p q = absurd q
ranks_are_one rule trace_file k [] (one ∷ ranks) others p q = absurd p
ranks_are_one rule trace_file k (file ∷ files) [] others p q = absurd p
ranks_are_one rule trace_file k (file ∷ files) (one ∷ ranks) [] p q = absurd q
ranks_are_one rule trace_file k (file ∷ files) (one ∷ ranks) (other ∷ others) p q =
    ap (λ r. r ∷ ranks) (ranked_is_one rule trace_file k file one other p.0 q.0) ∙ ap (λ rs. other ∷ rs) (ranks_are_one rule trace_file k files ranks others p.1 q.1)

pub rank_text_is_one : (rule : Rule) (files : List (List ℕ)) (trace_file : List ℕ) (k : ℕ) → AtMostOne (IsRankText rule files trace_file k)
rank_text_is_one rule files trace_file k text other p q =
    p.lines ∙ ap (λ rs. text_of (rank_header ∷ rank_rows 1 rs)) (ranks_are_one rule trace_file k files p.ranks q.ranks p.each q.each) ∙ sym q.lines

-- what a file before the first one has
before_first : (P : List ℕ → Type 0) (files : List (List ℕ)) (i at : ℕ) → i < at → at < length files → All P (take at files) → P (file_at files i)
before_first P files i at earlier inside all =
    let long : length (take at files) ≡ at = length-take-le at files (omega (arith, inside)) in
    subst P (get_or-take at files i [] earlier) (all i [] (subst (λ n. i < n) (sym long) earlier))

-- a file is a hierarchy or refused, and under it a trace is accepted or refused
not_both : (file : List ℕ) (fault : HierError) → IsHierarchy file → hierarchy_of file ≡ Err fault → ⊥
not_both file fault (layout, read) refused = cc

not_either : (trace_file : List ℕ) (fault : TraceError) (file : List ℕ) → Admits trace_file file → Refutes trace_file fault file → ⊥
not_either trace_file fault file (layout, trace, read, is) (other, also, refuted) =
    let same = same_ok (hierarchy_of file) layout other read also in
    let here : trace_of layout.spaces trace_file ≡ Err fault = subst (λ (l : Hierarchy). trace_of l.spaces trace_file ≡ Err fault) (sym same) refuted in
    cc

one_refuted : (trace_file : List ℕ) (fault more : TraceError) (file : List ℕ) → Refutes trace_file fault file → Refutes trace_file more file → fault ≡ more
one_refuted trace_file fault more file (layout, read, is) (other, also, refuted) =
    let same = same_ok (hierarchy_of file) layout other read also in
    let here : trace_of layout.spaces trace_file ≡ Err more = subst (λ (l : Hierarchy). trace_of l.spaces trace_file ≡ Err more) (sym same) refuted in
    cc

-- the first refused file is one
refused_is_one : (files : List (List ℕ)) (number other : ℕ) (fault more : HierError) → IsFirstRefused files number fault → IsFirstRefused files other more
    → tool.Hier number fault ≡ tool.Hier other more
refused_is_one files number other fault more p q = elim (cases_order p.at q.at) [
  | inl same ↦
      let numbers : number ≡ other = p.number_is ∙ ap (λ n. n + 1) same ∙ sym q.number_is in
      let is : hierarchy_of (file_at files q.at) ≡ Err fault = subst (λ n. hierarchy_of (file_at files n) ≡ Err fault) same p.refused in
      let also = q.refused in
      let faults : fault ≡ more = cc in
      ap (λ n. tool.Hier n fault) numbers ∙ ap (tool.Hier other) faults
  | inr (inl earlier) ↦ absurd (not_both (file_at files p.at) fault (before_first IsHierarchy files p.at q.at earlier q.within q.before) p.refused)
  | inr (inr later) ↦ absurd (not_both (file_at files q.at) more (before_first IsHierarchy files q.at p.at later p.within p.before) q.refused)
]

refuted_is_one : (files : List (List ℕ)) (trace_file : List ℕ) (fault more : TraceError) → IsFirstRefuted files trace_file fault
    → IsFirstRefuted files trace_file more → tool.Trace fault ≡ tool.Trace more
refuted_is_one files trace_file fault more p q = elim (cases_order p.at q.at) [
  | inl same ↦
      let is : Refutes trace_file fault (file_at files q.at) = subst (λ n. Refutes trace_file fault (file_at files n)) same p.refuted in
      ap tool.Trace (one_refuted trace_file fault more (file_at files q.at) is q.refuted)
  | inr (inl earlier) ↦
      absurd (not_either trace_file fault (file_at files p.at) (before_first (Admits trace_file) files p.at q.at earlier q.within q.before) p.refuted)
  | inr (inr later) ↦
      absurd (not_either trace_file more (file_at files q.at) (before_first (Admits trace_file) files q.at p.at later p.within p.before) q.refuted)
]

-- a refused file is no hierarchy
no_hierarchy : (files : List (List ℕ)) (number : ℕ) (fault : HierError) → IsFirstRefused files number fault → All IsHierarchy files → ⊥
no_hierarchy files number fault p are = not_both (file_at files p.at) fault (are p.at [] p.within) p.refused

pub rank_refusal_is_one : (files : List (List ℕ)) (trace_file : List ℕ) → AtMostOne (λ (e : ToolError). TellsOfFiles e × RefusesRank files trace_file e)
rank_refusal_is_one files trace_file (tool.Hier number fault) (tool.Hier other more) (tells, p) (also, q) = refused_is_one files number other fault more p q
rank_refusal_is_one files trace_file (tool.Hier number fault) (tool.Trace more) (tells, p) (also, q) = absurd (no_hierarchy files number fault p q.hierarchies)
rank_refusal_is_one files trace_file (tool.Trace fault) (tool.Hier other more) (tells, p) (also, q) = absurd (no_hierarchy files other more q p.hierarchies)
rank_refusal_is_one files trace_file (tool.Trace fault) (tool.Trace more) (tells, p) (also, q) = refuted_is_one files trace_file fault more p q
rank_refusal_is_one files trace_file one tool.Write (tells, p) (also, q) = absurd also
rank_refusal_is_one files trace_file one tool.Memory (tells, p) (also, q) = absurd also
rank_refusal_is_one files trace_file tool.Write other (tells, p) (also, q) = absurd tells
rank_refusal_is_one files trace_file tool.Memory other (tells, p) (also, q) = absurd tells
rank_refusal_is_one files trace_file (tool.Hier number fault) other (tells, p) (also, q) = absurd q
rank_refusal_is_one files trace_file (tool.Trace fault) other (tells, p) (also, q) = absurd q
rank_refusal_is_one files trace_file one other (tells, p) (also, q) = absurd p

-- files that admit the trace are refused for nothing
none_refused : (files : List (List ℕ)) (trace_file : List ℕ) (error : ToolError) → TellsOfFiles error → All (Admits trace_file) files
    → RefusesRank files trace_file error → ⊥
none_refused files trace_file (tool.Hier number fault) tells admit p =
    let (layout, trace, read, is) = admit p.at [] p.within in
    not_both (file_at files p.at) fault (layout, read) p.refused
none_refused files trace_file (tool.Trace fault) tells admit p = not_either trace_file fault (file_at files p.at) (admit p.at [] p.within) p.refuted
none_refused files trace_file tool.Write tells admit p = absurd tells
none_refused files trace_file tool.Memory tells admit p = absurd tells
none_refused files trace_file error tells admit p = p

pub ranked_is_not_refused : (rule : Rule) (files : List (List ℕ)) (trace_file : List ℕ) → RankedIsNotRefused rule files trace_file
ranked_is_not_refused rule files trace_file k text error ranked tells refused =
    none_refused files trace_file error tells (ranked_admit rule trace_file k files ranked.ranks ranked.each) refused

-- the list plan alone, as a sweep tells of it
pub is_ranked_as_swept : (rule : Rule) (hierarchy_file trace_file : List ℕ) → IsRankedAsSwept rule hierarchy_file trace_file
is_ranked_as_swept rule hierarchy_file trace_file k ranked text p swept =
    let i = p.instance in
    let under = p.under in
    let sound = is_sound hierarchy_file trace_file i p.accepts in
    let work = work_of_instance i in
    let moved = told_swept rule hierarchy_file trace_file (k ∷ []) text i p.accepts swept in
    let starts = swept.told.starts in
    let listed = swept.told.listed in
    let same = least_in_one i sound (start_of starts) (start_of under.starts) moved.0 under.least in
    let lengths : length_of work (start_of starts) ≡ ranked.length = same_length work (start_of starts) (start_of under.starts) same ∙ sym under.shortest in
    let alone : AreListed rule i ranked.length (k ∷ []) (ranked.listed ∷ []) = record {
      in_turn = ap (λ w. w ∷ []) under.workers;
      each = All-cons (IsListed rule i ranked.length) ranked.listed [] under.listed (λ i d inside. absurd (omega (arith, inside)));
    } in
    listed_is_one rule i sound ranked.length (k ∷ [])
    listed (ranked.listed ∷ []) (subst (λ n. AreListed rule i n (k ∷ []) listed) lengths moved.1) alone
