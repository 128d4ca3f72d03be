use Rattle.std.proofs.Common.{◌≡◌, ℕ, Bool, Option, Some, None, refl, true≢false, ◌+◌, ◌-◌, ◌<◌, ◌≤◌, true, false, not, List, length, drop, get_or, subst, sym, ◌∙◌, ap, arith}
use Rattle.std.specs.List.{list_any}
use Rattle.std.proofs.lemmas.List.{get_or_default}
use Rattle.waff_run.specs.Same.{are_one_file}
use Rattle.waff_run.specs.declared.same.Identity.{Identity}
use Rattle.waff_run.proofs.Again.{IsFirstFrom, among_more, among_unknown, comes_again, comes_not_again, first_behind, first_here, first_of_all, unknown_not_again}
use Rattle.waff_run.proofs.same.first_of_two.Goals as goal

-- the file at a place, whatever stands for none
read : (files : List (Option Identity)) (at : ℕ) (file : Option Identity) → at < length files → file ≡ get_or files at file
    → (d : Option Identity) → get_or files at d ≡ file
read files at file within is d = get_or_default files at d file within ∙ sym is

-- what a set that took a key had, or not
from_none : (added has : Bool) → added ≡ not has → added ≡ false → has ≡ true
from_none added true is none = refl
from_none added false is none = absurd (true≢false (sym is ∙ none))

from_some : (added has : Bool) → added ≡ not has → added ≡ true → has ≡ false
from_some added false is some = refl
from_some added true is some = absurd (true≢false (sym some ∙ is))

pub loop-at-preserved-then-not-branch : goal.loop-at-preserved-then-not-branch
loop-at-preserved-then-not-branch c =
    let files = c.args.files.now in
    let at = c.loop-at.at in
    let file = c.in-Some.file in
    let some : 0 < at = c.loop-at-test.true in
    let place : at - 1 + 1 ≡ at = omega (arith, some) in
    let within : at - 1 < length files = omega (arith, some, c.loop-at.invariant.within) in
    let here : (d : Option Identity) → get_or files (at - 1) d ≡ Some file
    = λ d. read files (at - 1) c.index-files-at.result within c.index-files-at.is d ∙ c.in-Some.is in
    let was : list_any (are_one_file (Some file)) (drop at files) ≡ true
    = sym (c.loop-at.invariant.seen file) ∙ from_none _ _ c.in_ok-insert.ensures.added c.if-not-branch.true in
    record {
      within = omega (arith, c.loop-at.invariant.within);
      seen = λ other. among_more files at file other _ _ some c.loop-at.invariant.within here (c.loop-at.invariant.seen other)
          (c.in_ok-insert.ensures.updates.0 (record { ref_ptr = c.args.files.ref_ptr; now = other }));
      first = first_here files (at - 1)
          (comes_again files (at - 1) (Some file) within here (ap (λ n. list_any (are_one_file (Some file)) (drop n files)) place ∙ was));
    }

pub loop-at-preserved-else-not-branch : goal.loop-at-preserved-else-not-branch
loop-at-preserved-else-not-branch c =
    let files = c.args.files.now in
    let at = c.loop-at.at in
    let file = c.in-Some.file in
    let some : 0 < at = c.loop-at-test.true in
    let place : at - 1 + 1 ≡ at = omega (arith, some) in
    let within : at - 1 < length files = omega (arith, some, c.loop-at.invariant.within) in
    let here : (d : Option Identity) → get_or files (at - 1) d ≡ Some file
    = λ d. read files (at - 1) c.index-files-at.result within c.index-files-at.is d ∙ c.in-Some.is in
    let was : list_any (are_one_file (Some file)) (drop at files) ≡ false
    = sym (c.loop-at.invariant.seen file) ∙ from_some _ _ c.in_ok-insert.ensures.added c.if-not-branch.false in
    record {
      within = omega (arith, c.loop-at.invariant.within);
      seen = λ other. among_more files at file other _ _ some c.loop-at.invariant.within here (c.loop-at.invariant.seen other)
          (c.in_ok-insert.ensures.updates.0 (record { ref_ptr = c.args.files.ref_ptr; now = other }));
      first = first_behind files (at - 1) c.loop-at.first (subst (λ n. IsFirstFrom files n c.loop-at.first) (sym place) c.loop-at.invariant.first)
          (comes_not_again files (at - 1) (Some file) here (ap (λ n. list_any (are_one_file (Some file)) (drop n files)) place ∙ was));
    }

pub loop-at-preserved : goal.loop-at-preserved
loop-at-preserved c =
    let files = c.args.files.now in
    let at = c.loop-at.at in
    let some : 0 < at = c.loop-at-test.true in
    let place : at - 1 + 1 ≡ at = omega (arith, some) in
    let within : at - 1 < length files = omega (arith, some, c.loop-at.invariant.within) in
    let here : (d : Option Identity) → get_or files (at - 1) d ≡ None
    = λ d. read files (at - 1) c.index-files-at.result within c.index-files-at.is d ∙ c.in_default.is in
    record {
      within = omega (arith, c.loop-at.invariant.within);
      seen = λ other. c.loop-at.invariant.seen other ∙ among_unknown files at other some c.loop-at.invariant.within here;
      first = first_behind files (at - 1) c.loop-at.first (subst (λ n. IsFirstFrom files n c.loop-at.first) (sym place) c.loop-at.invariant.first)
          (unknown_not_again files (at - 1) here);
    }

pub returns : goal.returns
returns c =
    first_of_all c.args.files.now c.loop-at.first
    (subst (λ n. IsFirstFrom c.args.files.now n c.loop-at.first) (omega (arith, c.loop-at-test.false)) c.loop-at.invariant.first)
