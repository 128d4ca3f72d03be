-- Files that come again behind their place.
use Rattle.std.proofs.Common.{◌≡◌, ◌⊎◌, inl, inr, refl, subst, ℕ, Option, Some, None, suc, ◌+◌, ◌-◌, ◌<◌, ◌≤◌, Bool, true, false, cond, ◌||◌, List, [], ◌∷◌, drop, length, get_or, get_or-drop, length-drop, ap, ap₂, sym, ◌∙◌, arith, true≢false}
use Rattle.std.specs.Cmp.{IsEquivalence}
use Rattle.std.specs.List.{list_any}
use Rattle.std.specs.String.{string_eq_equiv}
use Rattle.std.proofs.lemmas.Bool.{cases_order}
use Rattle.std.proofs.lemmas.Cmp.{and_equiv, nat_eq_equiv, on_equiv}
use Rattle.std.proofs.lemmas.List.{drop_more, get_or_default}
use Rattle.std.proofs.lemmas.List.Folds.{Any-from_list_any, list_any_at}
use Rattle.waff_run.specs.Same.{ComesAgain, IsFirstOfTwo, are_one_file, is_same_file}
use Rattle.waff_run.specs.declared.same.Identity.{Identity}

pub same_equiv : IsEquivalence is_same_file
same_equiv =
    and_equiv (on_equiv (λ (file : Identity). file.device) nat_eq_equiv)
    (and_equiv (on_equiv (λ (file : Identity). file.inode) nat_eq_equiv) (on_equiv (λ (file : Identity). file.name) string_eq_equiv))

either : (one other : Bool) → cond one true other ≡ (one || other)
either true other = refl
either false other = refl

-- the files from a place on
from_place : (files : List (Option Identity)) (at : ℕ) (file : Option Identity) → 0 < at → at ≤ length files
    → ((d : Option Identity) → get_or files (at - 1) d ≡ file) → drop (at - 1) files ≡ file ∷ drop at files
from_place files at file some within here =
    let place : at - 1 + 1 ≡ at = omega (arith, some) in
    drop_more files (at - 1) file (omega (arith, some, within)) ∙ ap₂ (λ x n. x ∷ drop n files) (here file) place

-- whether a file is among those from a place on, by whether it is among those behind it
pub among_more : (files : List (Option Identity)) (at : ℕ) (file other : Identity) (old new : Bool) → 0 < at → at ≤ length files
    → ((d : Option Identity) → get_or files (at - 1) d ≡ Some file) → old ≡ list_any (are_one_file (Some other)) (drop at files)
    → new ≡ cond (is_same_file file other) true old → new ≡ list_any (are_one_file (Some other)) (drop (at - 1) files)
among_more files at file other old new some within here was is =
    is ∙ ap₂ (λ same o. cond same true o) (same_equiv.symm file other) was
    ∙ either (is_same_file other file) (list_any (are_one_file (Some other)) (drop at files))
    ∙ sym (ap (list_any (are_one_file (Some other))) (from_place files at (Some file) some within here))

-- one that is not known counts for nothing
pub among_unknown : (files : List (Option Identity)) (at : ℕ) (other : Identity) → 0 < at → at ≤ length files
    → ((d : Option Identity) → get_or files (at - 1) d ≡ None) → list_any (are_one_file (Some other)) (drop at files) ≡ list_any (are_one_file (Some other)) (drop (at - 1) files)
among_unknown files at other some within here =
    sym (ap (list_any (are_one_file (Some other))) (from_place files at None some within here))

-- a file that is one of those behind it comes again
pub comes_again : (files : List (Option Identity)) (at : ℕ) (file : Option Identity) → at < length files → ((d : Option Identity) → get_or files at d ≡ file)
    → list_any (are_one_file file) (drop (at + 1) files) ≡ true → ComesAgain files at
comes_again files at file within is found =
    let any = Any-from_list_any (are_one_file file) (drop (at + 1) files) found in
    let k = any.0 in
    let fits : k < length files - (at + 1) = omega (arith, any.2, length-drop (at + 1) files) in
    record {
      again = at + 1 + k;
      behind = omega arith;
      within = omega (arith, fits);
      same = λ d.
          let there : get_or files (at + 1 + k) d ≡ any.1
          = sym (get_or-drop (at + 1) files k d) ∙ get_or_default (drop (at + 1) files) k d any.1 any.2 ∙ any.3 in
          ap₂ are_one_file (is d) there ∙ any.4;
    }

-- one that is none of those behind it does not
pub comes_not_again : (files : List (Option Identity)) (at : ℕ) (file : Option Identity) → ((d : Option Identity) → get_or files at d ≡ file)
    → list_any (are_one_file file) (drop (at + 1) files) ≡ false → ¬ ComesAgain files at
comes_not_again files at file is none again =
    let k = again.again - (at + 1) in
    let place : at + 1 + k ≡ again.again = omega (arith, again.behind) in
    let fits : k < length (drop (at + 1) files) = omega (arith, again.behind, again.within, length-drop (at + 1) files) in
    let there : get_or (drop (at + 1) files) k file ≡ get_or files again.again file
    = get_or-drop (at + 1) files k file ∙ ap (λ n. get_or files n file) place in
    let same : are_one_file file (get_or (drop (at + 1) files) k file) ≡ true
    = ap₂ are_one_file (sym (is file)) there ∙ again.same file in
    absurd (true≢false (sym (list_any_at (are_one_file file) (drop (at + 1) files) k file fits same) ∙ none))

none_among : (files : List (Option Identity)) → list_any (are_one_file None) files ≡ false
none_among [] = refl
none_among (file ∷ files) = none_among files

-- nor does one that is not known
pub unknown_not_again : (files : List (Option Identity)) (at : ℕ) → ((d : Option Identity) → get_or files at d ≡ None) → ¬ ComesAgain files at
unknown_not_again files at is = comes_not_again files at None is (none_among (drop (at + 1) files))

-- the first file from a place on that comes again, where there is one
abbrev pub IsFirstFrom : List (Option Identity) → ℕ → Option ℕ → Type 0
IsFirstFrom files from (Some at) = (from ≤ at) × ComesAgain files at × ((before : ℕ) → from ≤ before → before < at → ¬ ComesAgain files before)
IsFirstFrom files from None = (at : ℕ) → from ≤ at → ¬ ComesAgain files at

-- a file that comes again is the first from its place on
pub first_here : (files : List (Option Identity)) (at : ℕ) → ComesAgain files at → IsFirstFrom files at (Some at)
first_here files at again = (omega arith, again, λ before from less. absurd (omega (arith, from, less)))

-- one that does not leaves the first one behind it
pub first_behind : (files : List (Option Identity)) (at : ℕ) (first : Option ℕ) → IsFirstFrom files (at + 1) first → ¬ ComesAgain files at → IsFirstFrom files at first
first_behind files at None none not = λ place from again. by_order place from again (cases_order place at)
  where
    by_order : (place : ℕ) → at ≤ place → ComesAgain files place → (place ≡ at) ⊎ ((place < at) ⊎ (at < place)) → ⊥
    by_order place from again (inl same) = not (subst (ComesAgain files) same again)
    by_order place from again (inr (inl less)) = absurd (omega (arith, from, less))
    by_order place from again (inr (inr more)) = none place (omega (arith, more)) again
first_behind files at (Some first) is not =
    (omega (arith, is.0), is.1, λ before from less again. in_order before from less again (cases_order before at))
  where
    in_order : (before : ℕ) → at ≤ before → before < first → ComesAgain files before → (before ≡ at) ⊎ ((before < at) ⊎ (at < before)) → ⊥
    in_order before from less again (inl same) = not (subst (ComesAgain files) same again)
    in_order before from less again (inr (inl fewer)) = absurd (omega (arith, from, fewer))
    in_order before from less again (inr (inr more)) = is.2 before (omega (arith, more)) less again

-- the first from the front on is the first of all
pub first_of_all : (files : List (Option Identity)) (first : Option ℕ) → IsFirstFrom files 0 first → IsFirstOfTwo files first
first_of_all files None none = λ at. none at (omega arith)
first_of_all files (Some at) is = (is.1, λ before. is.2 before (omega arith))

-- the first one that comes again is one
pub first_is_one : (files : List (Option Identity)) (one other : Option ℕ) → IsFirstOfTwo files one → IsFirstOfTwo files other → one ≡ other
first_is_one files None None none not = refl
first_is_one files None (Some b) none found = absurd (none b found.0)
first_is_one files (Some a) None found none = absurd (none a found.0)
first_is_one files (Some a) (Some b) one other = by_order (cases_order a b)
  where
    by_order : (a ≡ b) ⊎ ((a < b) ⊎ (b < a)) → Some a ≡ Some b
    by_order (inl same) = ap Some same
    by_order (inr (inl less)) = absurd (other.1 a less one.0)
    by_order (inr (inr more)) = absurd (one.1 b more other.0)
