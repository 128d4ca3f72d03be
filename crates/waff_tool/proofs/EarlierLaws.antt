-- A trace of the fourth version without lists has the texts of the same trace of the third.
use Rattle.std.proofs.Common.{◌≡◌, ◌↔◌, ℕ, inl, inr, List, [], ◌∷◌, ◌++◌, drop, map, All, codes, None, Ok, refl, sym, ◌∙◌, ap, subst, append_assoc}
use Rattle.std.proofs.lemmas.List.Elements.{All-head, All-tail}
use Rattle.std.specs.List.{AllZip}
use Rattle.waff_model.specs.Layout.{Hierarchy, Space}
use Rattle.waff_model.specs.Messages.{Arrivals}
use Rattle.waff_model.specs.Tree.{Node}
use Rattle.waff_model.specs.declared.message.Message.{Message}
use Rattle.waff_model.specs.declared.message.Version.{Version}
use Rattle.waff_model.specs.declared.message.Version.TheVariants.{V3, V4}
use Rattle.waff_read.specs.Hierarchies.{hierarchy_of}
use Rattle.waff_read.proofs.LimitLaws.{trace_is_within_limits}
use Rattle.waff_assign.specs.Instance.{Instance}
use Rattle.waff_assign.specs.Lowest.{IsAssignment}
use Rattle.waff_list.specs.declared.rule.Rule.{Rule}
use Rattle.waff_plan_text.specs.Lines.{text_of}
use Rattle.waff_plan.specs.Timing.{start_of}
use Rattle.waff_figures.specs.declared.told.Told.{Told}
use Rattle.waff_inputs.specs.Inputs.{IsToldUnder}
use Rattle.waff_inputs.specs.Known.{newest, trace_of}
use Rattle.waff_inputs.proofs.SameInput.{same_ok, told_under_is_one}
use Rattle.waff_limits.specs.Limits.{bound_lines, client_field, limit_row, limits_header, limits_lines, message_field, planned_row, work_row}
use Rattle.waff_tool.specs.CheckText.{IsCheckText}
use Rattle.waff_tool.specs.Comparison.{IsCompareText, IsCompared}
use Rattle.waff_tool.specs.DrawText.{IsDrawText}
use Rattle.waff_tool.specs.Earlier.{AreSameUnder, CheckedAlike, ComparedAlike, DrawnAlike, HasLineMore, HaveNoLists, LimitsAlike, RankedAlike, RatedAlike, ReplayedAlike, SpellSame, ToldAlike}
use Rattle.waff_tool.specs.LimitsText.{IsLimitsText, TellsLimits}
use Rattle.waff_tool.specs.Ranks.{IsRanked, IsRankedUnder}
use Rattle.waff_tool.specs.Rate.{IsRateText}
use Rattle.waff_tool.specs.ReplayText.{IsReplayText, state_after, state_lines}
use Rattle.waff_tool.specs.Told.{Tells}
use Rattle.waff_tool.specs.declared.ranks.Ranked.{Ranked}
use Rattle.waff_tool.proofs.EarlierChecks.{IsCheckedIn, IsDrawnIn, IsRatedIn, checked_in, drawn_in, rated_in}
use Rattle.waff_tool.proofs.EarlierReadings.{Both, down, up}
use Rattle.waff_tool.proofs.EarlierTexts.{are_listed, compared, instance_in, limits_of, ranked, tells, trace_in}
use Rattle.waff_tool.proofs.LimitsTexts.{limits_text_is_one}
use Rattle.waff_tool.proofs.TextUniqueness.{is_sound}
use Rattle.waff_assign.specs.Held.{Held}

-- the messages of a trace of the third version have no lists
pub have_no_lists : (spaces : List Space) (trace_file earlier_file : List ℕ) → HaveNoLists spaces trace_file earlier_file
have_no_lists spaces trace_file earlier_file same i d inside =
    let is = trace_is_within_limits newest spaces earlier_file (trace_in same.sizes same.messages V3) same.is_other in
    (is.messages i d inside).no_list refl

-- files that spell the same messages in two versions, under a hierarchy
abbrev AreSame : Version → Version → List ℕ → List ℕ → List ℕ → Type 0
AreSame v w hierarchy_file one_file other_file =
    (layout : Hierarchy) → hierarchy_of hierarchy_file ≡ Ok layout → SpellSame v w layout.spaces one_file other_file

turned : (v w : Version) (hierarchy_file one_file other_file : List ℕ) → AreSame v w hierarchy_file one_file other_file → AreSame w v hierarchy_file other_file one_file
turned v w hierarchy_file one_file other_file same layout read =
    let s = same layout read in
    record { sizes = s.sizes; messages = s.messages; is_trace = s.is_other; is_other = s.is_trace }

-- what is told of the trace that a file spells
spelled : (v w : Version) (spaces : List Space) (one_file other_file : List ℕ) (trace : Arrivals) (s : SpellSame v w spaces one_file other_file)
    → trace_of spaces one_file ≡ Ok trace → trace ≡ trace_in s.sizes s.messages v
spelled v w spaces one_file other_file trace s read = same_ok (trace_of spaces one_file) trace (trace_in s.sizes s.messages v) read s.is_trace

told_in : {A : Type 0} (v w : Version) (IsTold Again : Hierarchy → Instance → A → Type 0)
    → ((layout : Hierarchy) (tree : List Node) (assigned : List Held) (sizes : List ℕ) (messages : List Message) (a : A)
    → IsTold layout (instance_in tree assigned sizes messages v) a → Again layout (instance_in tree assigned sizes messages w) a)
    → (hierarchy_file one_file other_file : List ℕ) → AreSame v w hierarchy_file one_file other_file → (a : A)
    → IsToldUnder IsTold hierarchy_file one_file a → IsToldUnder Again hierarchy_file other_file a
told_in v w IsTold Again again hierarchy_file one_file other_file same a p =
    let layout = p.accepts.layout in
    let s = same layout p.accepts.is_layout in
    let i = p.instance in
    let is = spelled v w layout.spaces one_file other_file i.trace s p.accepts.is_trace in
    record {
      instance = instance_in i.tree i.assigned s.sizes s.messages w;
      accepts = record {
        layout = layout;
        is_layout = p.accepts.is_layout;
        tree = p.accepts.tree;
        is_trace = s.is_other;
        assignment = subst (λ (t : Arrivals). IsAssignment layout t.messages i.assigned) is p.accepts.assignment;
      };
      told = again layout i.tree i.assigned s.sizes s.messages a
          (subst (λ (t : Arrivals). IsTold layout (record { tree = i.tree; assigned = i.assigned; trace = t }) a) is p.told);
    }

-- and back
told_same : {A : Type 0} (IsTold : Hierarchy → Instance → A → Type 0)
    → ((v w : Version) → Both v w → (layout : Hierarchy) (tree : List Node) (assigned : List Held) (sizes : List ℕ) (messages : List Message) (a : A)
    → IsTold layout (instance_in tree assigned sizes messages v) a → IsTold layout (instance_in tree assigned sizes messages w) a)
    → (hierarchy_file trace_file earlier_file : List ℕ) → AreSameUnder hierarchy_file trace_file earlier_file → (a : A)
    → IsToldUnder IsTold hierarchy_file trace_file a ↔ IsToldUnder IsTold hierarchy_file earlier_file a
told_same IsTold again hierarchy_file trace_file earlier_file same a = (
  told_in V4 V3 IsTold IsTold (again V4 V3 down) hierarchy_file trace_file earlier_file same a,
  told_in V3 V4 IsTold IsTold (again V3 V4 up) hierarchy_file earlier_file trace_file (turned V4 V3 hierarchy_file trace_file earlier_file same) a,
)

pub told_alike : (asked : Told) (hierarchy_file trace_file earlier_file : List ℕ) → ToldAlike asked hierarchy_file trace_file earlier_file
told_alike asked hierarchy_file trace_file earlier_file same other =
    told_same (Tells asked) (λ one again both layout tree assigned sizes messages text. tells tree assigned sizes messages both asked other layout text)
    hierarchy_file trace_file earlier_file same

-- a check
pub checked_alike : (hierarchy_file trace_file earlier_file plan_file : List ℕ) → CheckedAlike hierarchy_file trace_file earlier_file plan_file
checked_alike hierarchy_file trace_file earlier_file plan_file same v =
    let both = told_same (λ layout instance v. IsCheckedIn instance plan_file v)
    (λ one other both layout tree assigned sizes messages found. checked_in tree assigned sizes messages both plan_file found) hierarchy_file trace_file earlier_file same v in
    ((λ p. from earlier_file (both.0 (to trace_file p))), λ p. from trace_file (both.1 (to earlier_file p)))
  where
    to : (file : List ℕ) → IsCheckText hierarchy_file file plan_file v → IsToldUnder (λ layout instance v. IsCheckedIn instance plan_file v) hierarchy_file file v
    to file p = record {
      instance = p.instance;
      accepts = p.accepts.accepts;
      told = record { given = p.given; is_plan = p.accepts.is_plan; verdict = p.verdict; promises = p.promises };
    }

    from : (file : List ℕ) → IsToldUnder (λ layout instance v. IsCheckedIn instance plan_file v) hierarchy_file file v → IsCheckText hierarchy_file file plan_file v
    from file p = record {
      instance = p.instance;
      given = p.told.given;
      accepts = record { accepts = p.accepts; is_plan = p.told.is_plan };
      verdict = p.told.verdict;
      promises = p.told.promises;
    }

-- a rating
pub rated_alike : (hierarchy_file trace_file earlier_file plan_file : List ℕ) → RatedAlike hierarchy_file trace_file earlier_file plan_file
rated_alike hierarchy_file trace_file earlier_file plan_file same v text =
    let both = told_same (λ layout instance text. IsRatedIn instance plan_file v text)
    (λ one other both layout tree assigned sizes messages text. rated_in tree assigned sizes messages both plan_file v text) hierarchy_file trace_file earlier_file same text in
    ((λ p. from earlier_file (both.0 (to trace_file p))), λ p. from trace_file (both.1 (to earlier_file p)))
  where
    to : (file : List ℕ) → IsRateText hierarchy_file file plan_file v text → IsToldUnder (λ layout instance text. IsRatedIn instance plan_file v text) hierarchy_file file text
    to file p = record {
      instance = p.checked.instance;
      accepts = p.checked.accepts.accepts;
      told = record {
        checked = record { given = p.checked.given; is_plan = p.checked.accepts.is_plan; verdict = p.checked.verdict; promises = p.checked.promises };
        figures = p.figures;
        rated = p.rated;
        lines = p.lines;
      };
    }

    from : (file : List ℕ) → IsToldUnder (λ layout instance text. IsRatedIn instance plan_file v text) hierarchy_file file text → IsRateText hierarchy_file file plan_file v text
    from file p = record {
      checked = record {
        instance = p.instance;
        given = p.told.checked.given;
        accepts = record { accepts = p.accepts; is_plan = p.told.checked.is_plan };
        verdict = p.told.checked.verdict;
        promises = p.told.checked.promises;
      };
      figures = p.told.figures;
      rated = p.told.rated;
      lines = p.told.lines;
    }

-- a picture
pub drawn_alike : (hierarchy_file trace_file earlier_file plan_file : List ℕ) → DrawnAlike hierarchy_file trace_file earlier_file plan_file
drawn_alike hierarchy_file trace_file earlier_file plan_file same picture part text =
    let both = told_same (λ layout instance text. IsDrawnIn instance plan_file picture part text)
    (λ one other both layout tree assigned sizes messages text. drawn_in tree assigned sizes messages both plan_file picture part text)
    hierarchy_file trace_file earlier_file same text in
    ((λ p. from earlier_file (both.0 (to trace_file p))), λ p. from trace_file (both.1 (to earlier_file p)))
  where
    to : (file : List ℕ) → IsDrawText hierarchy_file file plan_file picture part text → IsToldUnder (λ layout instance text. IsDrawnIn instance plan_file picture part text) hierarchy_file file text
    to file p = record {
      instance = p.instance;
      accepts = p.accepts.accepts;
      told = record { given = p.given; is_plan = p.accepts.is_plan; drawn = p.drawn };
    }

    from : (file : List ℕ) → IsToldUnder (λ layout instance text. IsDrawnIn instance plan_file picture part text) hierarchy_file file text → IsDrawText hierarchy_file file plan_file picture part text
    from file p = record {
      instance = p.instance;
      given = p.told.given;
      accepts = record { accepts = p.accepts; is_plan = p.told.is_plan };
      drawn = p.told.drawn;
    }

-- a replay
replayed_in : (v w : Version) (hierarchy_file one_file other_file : List ℕ) → AreSame v w hierarchy_file one_file other_file → (text : List ℕ)
    → IsReplayText hierarchy_file one_file text → IsReplayText hierarchy_file other_file text
replayed_in v w hierarchy_file one_file other_file same text p =
    let s = same p.layout p.is_layout in
    let is = spelled v w p.layout.spaces one_file other_file p.trace s p.is_trace in
    record {
      layout = p.layout;
      trace = trace_in s.sizes s.messages w;
      is_layout = p.is_layout;
      few = p.few;
      is_trace = s.is_other;
      lines = p.lines ∙ ap (λ (t : Arrivals). text_of (state_lines p.layout.spaces (state_after t))) is;
    }

pub replayed_alike : (hierarchy_file trace_file earlier_file : List ℕ) → ReplayedAlike hierarchy_file trace_file earlier_file
replayed_alike hierarchy_file trace_file earlier_file same text = (
  replayed_in V4 V3 hierarchy_file trace_file earlier_file same text,
  replayed_in V3 V4 hierarchy_file earlier_file trace_file (turned V4 V3 hierarchy_file trace_file earlier_file same) text,
)

-- a comparison
compared_in : {v w : Version} → Both v w → (first_file second_file one_file other_file : List ℕ) → AreSame v w first_file one_file other_file
    → AreSame v w second_file one_file other_file → (k : ℕ) (text : List ℕ) → IsCompareText first_file second_file one_file k text
    → IsCompareText first_file second_file other_file k text
compared_in {v} {w} both first_file second_file one_file other_file first second k text p =
    let s : SpellSame v w p.classical.spaces one_file other_file = elim p.models.files [
      | inl (is, other) ↦ first p.classical is
      | inr (other, is) ↦ second p.classical is
    ] in
    let is = spelled v w p.classical.spaces one_file other_file p.trace s p.is_trace in
    record {
      classical = p.classical;
      hierarchical = p.hierarchical;
      trace = trace_in s.sizes s.messages w;
      models = p.models;
      is_trace = s.is_other;
      compared = compared s.sizes s.messages both p.classical p.hierarchical k text
          (subst (λ (t : Arrivals). IsCompared p.classical p.hierarchical t k text) is p.compared);
    }

pub compared_alike : (first_file second_file trace_file earlier_file : List ℕ) → ComparedAlike first_file second_file trace_file earlier_file
compared_alike first_file second_file trace_file earlier_file first second k text = (
  compared_in down first_file second_file trace_file earlier_file first second k text,
  compared_in up first_file second_file earlier_file trace_file (turned V4 V3 first_file trace_file earlier_file first)
      (turned V4 V3 second_file trace_file earlier_file second) k text,
)

-- a rank
ranked_in : {v w : Version} → Both v w → (rule : Rule) (k : ℕ) (file one_file other_file : List ℕ) → AreSame v w file one_file other_file → (told : Ranked)
    → IsRanked rule one_file k file told → IsRanked rule other_file k file told
ranked_in {v} {w} both rule k file one_file other_file same told p =
    let IsTold : Hierarchy → Instance → Ranked → Type 0 = λ layout instance told. IsRankedUnder rule layout.kind k instance told in
    let again = told_in v w IsTold IsTold (λ layout tree assigned sizes messages told. ranked tree assigned sizes messages both rule layout.kind k told)
    file one_file other_file same told (record { instance = p.instance; accepts = p.accepts; told = p.under }) in
    record { instance = again.instance; accepts = again.accepts; under = again.told }

all_ranked : {v w : Version} → Both v w → (rule : Rule) (k : ℕ) (one_file other_file : List ℕ) (files : List (List ℕ))
    → All (λ file. AreSame v w file one_file other_file) files → (ranks : List Ranked) → AllZip (IsRanked rule one_file k) files ranks
    → AllZip (IsRanked rule other_file k) files ranks
all_ranked {v} {w} both rule k one_file other_file [] same [] p = p
all_ranked {v} {w} both rule k one_file other_file [] same (told ∷ ranks) p = p
all_ranked {v} {w} both rule k one_file other_file (file ∷ files) same [] p = p
all_ranked {v} {w} both rule k one_file other_file (file ∷ files) same (told ∷ ranks) (first, rest) = (
  ranked_in both rule k file one_file other_file (All-head (λ f. AreSame v w f one_file other_file) file files same) told first,
  all_ranked both rule k one_file other_file files (All-tail (λ f. AreSame v w f one_file other_file) file files same) ranks rest,
)

pub ranked_alike : (rule : Rule) (files : List (List ℕ)) (trace_file earlier_file : List ℕ) → RankedAlike rule files trace_file earlier_file
ranked_alike rule files trace_file earlier_file same k text = (
  (λ p. record { ranks = p.ranks; each = all_ranked down rule k trace_file earlier_file files same p.ranks p.each; lines = p.lines }),
  λ p. record {
    ranks = p.ranks;
    each = all_ranked up rule k earlier_file trace_file files (λ i d inside. turned V4 V3 _ trace_file earlier_file (same i d inside)) p.ranks p.each;
    lines = p.lines;
  },
)

-- what limits: a line between two lists of lines
cut : (front more back : List (List (List ℕ))) (line : List (List ℕ)) → (front ++ line ∷ more) ++ back ≡ (front ++ line ∷ []) ++ (more ++ back)
cut front more back line = append_assoc front (line ∷ more) back ∙ sym (append_assoc front (line ∷ []) (more ++ back))

-- the text of the third version that has a line less
abbrev HasLess : Rule → List ℕ → Hierarchy → Instance → List ℕ → Type 0
HasLess rule workers layout instance text =
    (earlier : List ℕ) × TellsLimits rule workers layout.spaces instance earlier × HasLineMore text earlier

limits_down : (rule : Rule) (workers : List ℕ) (layout : Hierarchy) (tree : List Node) (assigned : List Held) (sizes : List ℕ) (messages : List Message) (text : List ℕ)
    → TellsLimits rule workers layout.spaces (instance_in tree assigned sizes messages V4) text
    → HasLess rule workers layout (instance_in tree assigned sizes messages V3) text
limits_down rule workers layout tree assigned sizes messages text p =
    let limits = p.limits in
    let head : List (List (List ℕ)) = limits_header ∷ map (work_row limits.total) workers in
    let clients = limit_row (codes "clients") None limits.total limits.client.ticks (client_field messages limits.client) in
    let after = limit_row (codes "after") None limits.total limits.after.ticks (message_field limits.after) in
    let more = drop 1 (bound_lines layout.spaces tree (trace_in sizes messages V3) limits) in
    let plans = map planned_row p.listed in (
      text_of (limits_lines layout.spaces tree (trace_in sizes messages V3) workers limits p.listed),
      record {
        starts = p.starts;
        limits = limits;
        listed = p.listed;
        fits = p.fits;
        least = p.least;
        are_limits = limits_of tree assigned sizes messages down layout.spaces (start_of p.starts) limits p.are_limits;
        are_listed = are_listed tree assigned sizes messages down rule _ workers p.listed p.are_listed;
        lines = refl;
      },
      record {
        front = head ++ clients ∷ [];
        rest = drop 1 after;
        back = more ++ plans;
        text_is = p.lines ∙ ap text_of (cut head (after ∷ more) plans clients);
        earlier_is = ap text_of (cut head more plans clients);
      },
    )

pub limits_alike : (rule : Rule) (hierarchy_file trace_file earlier_file : List ℕ) → LimitsAlike rule hierarchy_file trace_file earlier_file
limits_alike rule hierarchy_file trace_file earlier_file same workers text earlier p q =
    let IsTold : Hierarchy → Instance → List ℕ → Type 0 = λ layout. TellsLimits rule workers layout.spaces in
    let again = told_in V4 V3 IsTold (HasLess rule workers) (limits_down rule workers) hierarchy_file trace_file earlier_file same text p in
    let less : IsLimitsText rule hierarchy_file earlier_file workers again.told.0 = record { instance = again.instance; accepts = again.accepts; told = again.told.1 } in
    let one = told_under_is_one IsTold hierarchy_file earlier_file
    (λ i accepts. limits_text_is_one rule workers accepts.layout.spaces i (is_sound hierarchy_file earlier_file i accepts)) again.told.0 earlier less q in
    subst (HasLineMore text) one again.told.2
