-- The verdict on a plan for a trace of the fourth version without lists is that for the same trace of the third, and back.
use Rattle.std.proofs.Common.{◌≡◌, ◌↔◌, ℕ, List, length, Ok, ◌∙◌, refl}
use Rattle.waff_model.specs.Tree.{Node}
use Rattle.waff_model.specs.declared.message.Message.{Message}
use Rattle.waff_model.specs.declared.message.Version.{Version}
use Rattle.waff_model.specs.declared.message.Version.TheVariants.{V3, V4}
use Rattle.waff_assign.specs.Instance.{Instance}
use Rattle.waff_plan.specs.Timing.{start_of}
use Rattle.waff_plan_text.specs.Given.{Given, SummaryLines}
use Rattle.waff_plan_text.specs.PlanTexts.{plan_of}
use Rattle.waff_plan_text.specs.Lines.{text_of}
use Rattle.waff_plan_text.specs.declared.row.Row.{Row}
use Rattle.waff_check.specs.Promises.{IsWithin, Promises}
use Rattle.waff_check.specs.Verdicts.{Claim, IsFound, IsFreeOf, IsVerdict, claim_of, starts_of}
use Rattle.waff_check.specs.declared.verdict.Verdict.{Verdict}
use Rattle.waff_check.specs.declared.verdict.Verdict.TheVariants as verdict
use Rattle.waff_draw.specs.Scene.{scene_of}
use Rattle.waff_draw.specs.declared.parts.Part.{Part}
use Rattle.waff_figures.specs.declared.figures.Figures.{Figures}
use Rattle.waff_tool.specs.DrawText.{picture_of}
use Rattle.waff_tool.specs.Rate.{IsRated, rated_lines}
use Rattle.waff_draw.specs.declared.picture.Picture.{Picture}
use Rattle.waff_draw.specs.declared.picture.Picture.TheVariants as picture
use Rattle.waff_tool.proofs.EarlierReadings.{Both, down, given_in, plan_read_same, up}
use Rattle.waff_tool.proofs.EarlierTexts.{instance_in, rated}
use Rattle.waff_assign.specs.Held.{Held}

-- what a check, a rating and a picture tell of an instance and a plan text
pub record IsCheckedIn (instance : Instance) (plan_file : List ℕ) (v : Verdict) : Type 0 where
  pub given : Given
  pub is_plan : plan_of instance.trace.version (length instance.trace.messages) plan_file ≡ Ok given
  pub verdict : IsVerdict (claim_of instance given) v
  pub promises : Promises (claim_of instance given) v

pub record IsRatedIn (instance : Instance) (plan_file : List ℕ) (v : Verdict) (text : List ℕ) : Type 0 where
  pub checked : IsCheckedIn instance plan_file v
  pub figures : Figures
  pub rated : IsRated instance checked.given figures
  pub lines : text ≡ text_of (rated_lines v figures)

pub record IsDrawnIn (instance : Instance) (plan_file : List ℕ) (picture : Picture) (part : Part) (text : List ℕ) : Type 0 where
  pub given : Given
  pub is_plan : plan_of instance.trace.version (length instance.trace.messages) plan_file ≡ Ok given
  pub drawn : text ≡ picture_of picture (scene_of instance given part)

module _ (tree : List Node) (assigned : List Held) (sizes : List ℕ) (messages : List Message) where
  abbrev in_version : Version → Instance
  in_version = instance_in tree assigned sizes messages

  module _ (rows : List Row) (summary : SummaryLines) where
    -- the claim of a plan that was read as of a version
    abbrev claim_in : Version → Version → Claim
    claim_in version read = claim_of (in_version version) (record { version = read; rows = rows; summary = summary })

    free_same : (a b : Version) (v : Verdict) → IsFreeOf (claim_in V4 a) v ↔ IsFreeOf (claim_in V3 b) v
    free_same a b verdict.Totals = ((λ p. p), λ p. p)
    free_same a b _ = ((λ p. p), λ p. p)

    found_same : (a b : Version) (v : Verdict) → IsFound (claim_in V4 a) v ↔ IsFound (claim_in V3 b) v
    found_same a b verdict.Totals = ((λ p. p), λ p. p)
    found_same a b _ = ((λ p. p), λ p. p)

    is_verdict : {v w : Version} → Both v w → (a b : Version) (found : Verdict) → IsVerdict (claim_in v a) found → IsVerdict (claim_in w b) found
    is_verdict down a b found p = record { free = λ other less. (free_same a b other).0 (p.free other less); found = (found_same a b found).0 p.found }
    is_verdict up a b found p = record { free = λ other less. (free_same b a other).1 (p.free other less); found = (found_same b a found).1 p.found }

    within : {v w : Version} → Both v w → (a b : Version) (k : ℕ) → IsWithin (claim_in v a) k → IsWithin (claim_in w b) k
    within down a b k p = record { workers = p.workers; bound = p.bound; twice = p.twice; ratio = p.ratio }
    within up a b k p = record { workers = p.workers; bound = p.bound; twice = p.twice; ratio = p.ratio }

    promises : {v w : Version} → Both v w → (a b : Version) (found : Verdict) → Promises (claim_in v a) found → Promises (claim_in w b) found
    promises down a b found p = record {
      obeys = p.obeys;
      apart = p.apart;
      serves = p.serves;
      worker_plan = p.worker_plan;
      one_at_a_time = p.one_at_a_time;
      chain = p.chain;
      shortest = p.shortest;
      tight = p.tight;
      bound = λ is. let (k, held) = p.bound is in (k, within down a b k held);
    }
    promises up a b found p = record {
      obeys = p.obeys;
      apart = p.apart;
      serves = p.serves;
      worker_plan = p.worker_plan;
      one_at_a_time = p.one_at_a_time;
      chain = p.chain;
      shortest = p.shortest;
      tight = p.tight;
      bound = λ is. let (k, held) = p.bound is in (k, within up a b k held);
    }

  pub checked_in : {v w : Version} → Both v w → (plan_file : List ℕ) (found : Verdict) → IsCheckedIn (in_version v) plan_file found
      → IsCheckedIn (in_version w) plan_file found
  checked_in {v} {w} both plan_file found p = record {
    given = given_in w p.given;
    is_plan = plan_read_same both (length messages) plan_file p.given p.is_plan;
    verdict = is_verdict p.given.rows p.given.summary both p.given.version w found p.verdict;
    promises = promises p.given.rows p.given.summary both p.given.version w found p.promises;
  }

  pub rated_in : {v w : Version} → Both v w → (plan_file : List ℕ) (found : Verdict) (text : List ℕ) → IsRatedIn (in_version v) plan_file found text
      → IsRatedIn (in_version w) plan_file found text
  unfolding checked_in
  rated_in both plan_file found text p = record {
    checked = checked_in both plan_file found p.checked;
    figures = p.figures;
    rated = rated tree assigned sizes messages both p.checked.given.summary.workers (start_of (starts_of p.checked.given)) p.figures p.rated;
    lines = p.lines;
  }

  scenes_same : {v w : Version} → Both v w → (picture : Picture) (given : Given) (part : Part)
      → picture_of picture (scene_of (in_version v) given part) ≡ picture_of picture (scene_of (in_version w) (given_in w given) part)
  scenes_same down picture.Svg given part = refl
  scenes_same down picture.Events given part = refl
  scenes_same up picture.Svg given part = refl
  scenes_same up picture.Events given part = refl

  pub drawn_in : {v w : Version} → Both v w → (plan_file : List ℕ) (picture : Picture) (part : Part) (text : List ℕ)
      → IsDrawnIn (in_version v) plan_file picture part text → IsDrawnIn (in_version w) plan_file picture part text
  drawn_in {v} {w} both plan_file picture part text p = record {
    given = given_in w p.given;
    is_plan = plan_read_same both (length messages) plan_file p.given p.is_plan;
    drawn = p.drawn ∙ scenes_same both picture p.given part;
  }
