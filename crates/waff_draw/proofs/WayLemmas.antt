-- The affinities from the root down to another, and what is marked on the way.
use Rattle.std.proofs.Common.{◌≡◌, ℕ, zero, suc, ◌+◌, ◌<◌, Bool, true, false, inl, inr, cond, flat_map, ◌==◌, ◌||◌, List, [], ◌∷◌, ◌++◌, Option, Some, None, length, get_or, set, arith, refl, sym, ◌∙◌, ap, subst, get_or-set_other, get_or-set_same}
use Rattle.std.specs.List.{range_with_len}
use Rattle.std.proofs.lemmas.Bool.{cases_eq}
use Rattle.std.proofs.lemmas.List.{append-nil, flat_map_more}
use Rattle.std.proofs.lemmas.List.Folds.{list_any-append}
use Rattle.waff_model.specs.Tree.{IsRooted, Node, parent_of}
use Rattle.waff_model.proofs.TreeLemmas.{some_of}
use Rattle.waff_plan.proofs.Longest.{range_with_len_more}
use Rattle.waff_draw.specs.Lanes.{is_among, way_to}
use Rattle.waff_draw.proofs.LaneLemmas.{Tells, or_none, other_tests, same_tests}
use Rattle.waff_draw.proofs.PathLemmas.{path_step}

-- the way to an affinity that may be missing
abbrev pub way_from : List Node → Option ℕ → List ℕ
way_from tree None = []
way_from tree (Some a) = way_to tree a

way_by : (tree : List Node) → IsRooted tree → (a : ℕ) → a < length tree → (o : Option ℕ) → parent_of tree a ≡ o
    → way_to tree a ≡ way_from tree o ++ a ∷ []
way_by tree rooted zero low None none = refl
way_by tree rooted (suc a) low None none =
    let (p, is) = some_of (parent_of tree (suc a)) (rooted.others (suc a) (omega arith) low) in
    cc
way_by tree rooted a low (Some p) is = ap (λ xs. 0 ∷ xs) (path_step tree rooted a p is)

-- the way to an affinity is that to its parent and one step more
pub way_step : (tree : List Node) → IsRooted tree → (a : ℕ) → a < length tree
    → way_to tree a ≡ way_from tree (parent_of tree a) ++ a ∷ []
way_step tree rooted a low = way_by tree rooted a low (parent_of tree a) refl

or_marked : (m w t : Bool) → t ≡ true → true ≡ (m || (w || (t || false)))
or_marked true w t h = refl
or_marked false true t h = refl
or_marked false false t h = sym (ap (λ x. x || false) h)

-- with one more marked, it is no more on the way
pub marked_step : (marks : List Bool) (a : ℕ) (above way : List ℕ) → a < length marks → way ≡ above ++ a ∷ []
    → (n : ℕ) → (get_or (set marks a true) n false || is_among above n) ≡ (get_or marks n false || is_among way n)
marked_step marks a above way low is n =
    let m = get_or marks n false in
    let w = is_among above n in
    let parts : is_among way n ≡ (w || ((a == n) || false)) = ap (λ ns. is_among ns n) is ∙ list_any-append (λ x. x == n) above (a ∷ []) in
    elim (cases_eq n a) [
      | inl same ↦
          ap (λ b. b || w) (subst (λ x. get_or (set marks a true) x false ≡ true) (sym same) (get_or-set_same marks a true false low))
          ∙ or_marked m w (a == n) (same_tests a n (sym same)) ∙ ap (λ b. m || b) (sym parts)
      | inr other ↦
          ap (λ b. b || w) (get_or-set_other marks a n true false other)
          ∙ ap (λ b. m || b) (sym (parts ∙ or_none w (a == n) (other_tests a n (λ e. other (sym e)))))
    ]

-- how many affinities are no later than this one
abbrev pub steps_from : Option ℕ → ℕ
steps_from None = 0
steps_from (Some a) = suc a

steps_by : (tree : List Node) → IsRooted tree → (a : ℕ) → (o : Option ℕ) → parent_of tree a ≡ o → steps_from o < suc a
steps_by tree rooted a None is = omega arith
steps_by tree rooted a (Some p) is = omega (arith, rooted.earlier a p is)

-- a parent is earlier
pub steps_less : (tree : List Node) → IsRooted tree → (a : ℕ) → steps_from (parent_of tree a) < suc a
steps_less tree rooted a = steps_by tree rooted a (parent_of tree a) refl

-- the way to an affinity that is among these
abbrev pub way_if : List Node → List ℕ → ℕ → List ℕ
way_if tree assigned a = cond (is_among assigned a) (way_to tree a) []

-- the ways to those before this one
abbrev pub ways_to : List Node → List ℕ → ℕ → List ℕ
ways_to tree assigned a = flat_map (way_if tree assigned) (range_with_len 0 a)

pub ways_more : (tree : List Node) (assigned : List ℕ) (a : ℕ) → ways_to tree assigned (a + 1) ≡ ways_to tree assigned a ++ way_if tree assigned a
ways_more tree assigned a =
    ap (flat_map (way_if tree assigned)) (range_with_len_more 0 a a (omega arith))
    ∙ sym (flat_map_more (way_if tree assigned) [] (range_with_len 0 a) a)

pub tells_then : (tree : List Node) (assigned : List ℕ) (a : ℕ) (marks now : List Bool) → is_among assigned a ≡ true
    → length now ≡ length marks → ((n : ℕ) → get_or now n false ≡ (get_or marks n false || is_among (way_to tree a) n))
    → Tells marks (ways_to tree assigned a) → Tells now (ways_to tree assigned (a + 1))
tells_then tree assigned a marks now used long each tells n low =
    let so_far = ways_to tree assigned a in
    each n ∙ ap (λ b. b || is_among (way_to tree a) n) (tells n (omega (arith, low, long)))
    ∙ sym (ap (λ ns. is_among ns n) (ways_more tree assigned a)
    ∙ list_any-append (λ x. x == n) so_far (way_if tree assigned a)
    ∙ ap (λ b. is_among so_far n || is_among (cond b (way_to tree a) []) n) used)

pub tells_else : (tree : List Node) (assigned : List ℕ) (a : ℕ) (marks : List Bool) → is_among assigned a ≡ false
    → Tells marks (ways_to tree assigned a) → Tells marks (ways_to tree assigned (a + 1))
tells_else tree assigned a marks unused tells n low =
    let so_far = ways_to tree assigned a in
    tells n low
    ∙ sym (ap (λ ns. is_among ns n) (ways_more tree assigned a)
    ∙ ap (λ b. is_among (so_far ++ cond b (way_to tree a) []) n) unused
    ∙ ap (λ ns. is_among ns n) (append-nil so_far))
