-- A trace of the fourth version in which no message has a list, and the same trace of the third: what is
-- told of the one is told of the other.
use Rattle.std.specs.Prelude.{◌≡◌, ◌↔◌, ℕ, Bool, true, false, List, [], ◌∷◌, ◌++◌, All, Ok, codes}
use Rattle.waff_model.specs.Layout.{Hierarchy, Space}
use Rattle.waff_model.specs.declared.message.Message.{Message}
use Rattle.waff_model.specs.declared.message.Version.{Version}
use Rattle.waff_model.specs.declared.message.Version.TheVariants.{V3, V4}
use Rattle.waff_read.specs.Hierarchies.{hierarchy_of}
use Rattle.waff_inputs.specs.Known.{trace_of}
use Rattle.waff_list.specs.declared.rule.Rule.{Rule}
use Rattle.waff_plan_text.specs.Lines.{text_of}
use Rattle.waff_check.specs.declared.verdict.Verdict.{Verdict}
use Rattle.waff_draw.specs.declared.parts.Part.{Part}
use Rattle.waff_figures.specs.declared.told.Told.{Told}
use Rattle.waff_figures.specs.declared.told.Told.TheVariants as told
use Rattle.waff_inputs.specs.Inputs.{IsToldUnder}
use Rattle.waff_tool.specs.CheckText.{IsCheckText}
use Rattle.waff_tool.specs.Comparison.{IsCompareText}
use Rattle.waff_tool.specs.DrawText.{IsDrawText}
use Rattle.waff_tool.specs.LimitsText.{IsLimitsText}
use Rattle.waff_tool.specs.Ranks.{IsRankText}
use Rattle.waff_tool.specs.Rate.{IsRateText}
use Rattle.waff_tool.specs.ReplayText.{IsReplayText}
use Rattle.waff_tool.specs.Told.{Tells}
use Rattle.waff_draw.specs.declared.picture.Picture.{Picture}

-- bytes that spell a trace of one version, and bytes that spell the same messages as a trace of another
pub record SpellSame (version other : Version) (spaces : List Space) (file other_file : List ℕ)
    : Type 0 where
  pub sizes : List ℕ
  pub messages : List Message
  pub is_trace : trace_of spaces file
      ≡ Ok (record { version = version; sizes = sizes; messages = messages })
  pub is_other : trace_of spaces other_file
      ≡ Ok (record { version = other; sizes = sizes; messages = messages })

-- under a hierarchy bytes spell a trace of the fourth version, and others the same messages as one of the third
abbrev pub AreSameUnder : List ℕ → List ℕ → List ℕ → Type 0
AreSameUnder hierarchy_file trace_file earlier_file =
    (layout : Hierarchy) → hierarchy_of hierarchy_file ≡ Ok layout
    → SpellSame V4 V3 layout.spaces trace_file earlier_file

-- no message of them has a list
abbrev pub HaveNoLists : List Space → List ℕ → List ℕ → Type 0
HaveNoLists spaces trace_file earlier_file =
    (same : SpellSame V4 V3 spaces trace_file earlier_file)
    → All (λ message. message.after ≡ []) same.messages

-- what is told of one file is told of another
abbrev pub TellSame : {A : Type 0} → (A → Type 0) → (A → Type 0) → Type 0
TellSame {A} one other = (a : A) → one a ↔ other a

-- what is asked is what limits a trace
abbrev pub asks_limits : Told → Bool
asks_limits (told.Limits given rule) = true
asks_limits _ = false

-- all but that is the same text
abbrev pub ToldAlike : Told → List ℕ → List ℕ → List ℕ → Type 0
ToldAlike asked hierarchy_file trace_file earlier_file =
    AreSameUnder hierarchy_file trace_file earlier_file → asks_limits asked ≡ false
    → TellSame (IsToldUnder (Tells asked) hierarchy_file trace_file)
    (IsToldUnder (Tells asked) hierarchy_file earlier_file)

-- a text of lines, and one that has a line less, which is the one of lists
pub record HasLineMore (text earlier : List ℕ) : Type 0 where
  pub front : List (List (List ℕ))
  pub rest : List (List ℕ)
  pub back : List (List (List ℕ))
  pub text_is : text ≡ text_of (front ++ (codes "after" ∷ rest) ∷ back)
  pub earlier_is : earlier ≡ text_of (front ++ back)

-- that has one line more
abbrev pub LimitsAlike : Rule → List ℕ → List ℕ → List ℕ → Type 0
LimitsAlike rule hierarchy_file trace_file earlier_file =
    AreSameUnder hierarchy_file trace_file earlier_file → (workers text earlier : List ℕ)
    → IsLimitsText rule hierarchy_file trace_file workers text
    → IsLimitsText rule hierarchy_file earlier_file workers earlier → HasLineMore text earlier

-- the text of a comparison is the same
abbrev pub ComparedAlike : List ℕ → List ℕ → List ℕ → List ℕ → Type 0
ComparedAlike first_file second_file trace_file earlier_file =
    AreSameUnder first_file trace_file earlier_file
    → AreSameUnder second_file trace_file earlier_file → (k : ℕ)
    → TellSame (IsCompareText first_file second_file trace_file k)
    (IsCompareText first_file second_file earlier_file k)

-- that of a rank
abbrev pub RankedAlike : Rule → List (List ℕ) → List ℕ → List ℕ → Type 0
RankedAlike rule files trace_file earlier_file =
    All (λ file. AreSameUnder file trace_file earlier_file) files → (k : ℕ)
    → TellSame (IsRankText rule files trace_file k) (IsRankText rule files earlier_file k)

-- the verdict on a plan, how good it is, and its picture
abbrev pub CheckedAlike : List ℕ → List ℕ → List ℕ → List ℕ → Type 0
CheckedAlike hierarchy_file trace_file earlier_file plan_file =
    AreSameUnder hierarchy_file trace_file earlier_file
    → TellSame (IsCheckText hierarchy_file trace_file plan_file)
    (IsCheckText hierarchy_file earlier_file plan_file)

abbrev pub RatedAlike : List ℕ → List ℕ → List ℕ → List ℕ → Type 0
RatedAlike hierarchy_file trace_file earlier_file plan_file =
    AreSameUnder hierarchy_file trace_file earlier_file → (v : Verdict)
    → TellSame (IsRateText hierarchy_file trace_file plan_file v)
    (IsRateText hierarchy_file earlier_file plan_file v)

abbrev pub DrawnAlike : List ℕ → List ℕ → List ℕ → List ℕ → Type 0
DrawnAlike hierarchy_file trace_file earlier_file plan_file =
    AreSameUnder hierarchy_file trace_file earlier_file → (picture : Picture) (part : Part)
    → TellSame (IsDrawText hierarchy_file trace_file plan_file picture part)
    (IsDrawText hierarchy_file earlier_file plan_file picture part)

-- the state that a replay leaves
abbrev pub ReplayedAlike : List ℕ → List ℕ → List ℕ → Type 0
ReplayedAlike hierarchy_file trace_file earlier_file =
    AreSameUnder hierarchy_file trace_file earlier_file
    → TellSame (IsReplayText hierarchy_file trace_file) (IsReplayText hierarchy_file earlier_file)
