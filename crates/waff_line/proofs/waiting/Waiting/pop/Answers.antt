use Rattle.std.proofs.Common.{◌≡◌, ℕ, List, [], ◌∙◌, ap, map, rules}
use Rattle.std.specs.BinaryHeap.{heap_items}
use Rattle.std.specs.declared.cmp.Reverse.{Reverse}
use Rattle.std.proofs.lemmas.List.{nil_from_length}
use Rattle.std.proofs.lemmas.List.Sorted.{IsPermutation-map}
use Rattle.waff_line.proofs.waiting.Waiting.pop.Goals as goal

abbrev named : Reverse (ℕ × ℕ) → ℕ
named r = r.0.1

pub returns-in-Some-clause-ready : goal.returns-in-Some-clause-ready
returns-in-Some-clause-ready c = IsPermutation-map named _ _ c.in-Some.ensures.permutation

pub returns-in-None-clause-ready : goal.returns-in-None-clause-ready
returns-in-None-clause-ready c =
    let none : heap_items c.args.self.now.ready ≡ [] = search (rules, nil_from_length) in (
      ap (λ (xs : List (Reverse (ℕ × ℕ))). map named xs) none,
      ap (λ (xs : List (Reverse (ℕ × ℕ))). map named xs) (c.in-None.ensures.unchanged.0 ∙ none),
    )
