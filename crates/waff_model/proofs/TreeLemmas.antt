-- Laws of trees over `AtOrAbove`, and what a node more keeps.
use Rattle.std.proofs.Common.{◌≡◌, ◌≢◌, ℕ, zero, suc, ◌+◌, ◌<◌, ◌≤◌, inl, inr, List, [], ◌∷◌, ◌++◌, length, Option, Some, None, false, IsSome, slice_get, refl, ap, sym, ◌∙◌, subst, arith, length-append}
use Rattle.std.proofs.lemmas.Bool.{cases_lt, cases_order}
use Rattle.std.specs.Prelude.{is_some, option_and_then, is_none, ◌&&◌, nat_le}
use Rattle.std.proofs.lemmas.Option.{slice_get_past}
use Rattle.std.proofs.lemmas.Bool.Decides.{nat_tests}
use Rattle.waff_model.specs.declared.limits.TheConstants.{MAX_AFFINITIES}
use Rattle.waff_model.specs.TreeRefusal.{refusal_of, node_checks, is_unknown}
use Rattle.waff_model.proofs.RefusalLemmas.{none_holds}
use Rattle.waff_model.specs.Tree.{Node, parent_of, Leads, AtOrAbove, Excludes, IsRooted}

-- a number that is there
pub some_of : (o : Option ℕ) → IsSome o → (p : ℕ) × (o ≡ Some p)
some_of None none = absurd (cc)
some_of (Some p) some = (p, refl)

module _ (tree : List Node) where
  -- each affinity is at or above itself
  pub reflexive : (a : ℕ) → AtOrAbove tree a a
  reflexive a = (0, refl)

  -- what is at or above the parent is at or above the child
  pub above_child : (a b p : ℕ) → parent_of tree b ≡ Some p → AtOrAbove tree a p → AtOrAbove tree a b
  above_child a b p parent (n, leads) = (suc n, (p, parent, leads))

  -- what is strictly above is at or above the parent
  pub above_parent : (a b p : ℕ) → a ≢ b → parent_of tree b ≡ Some p → AtOrAbove tree a b → AtOrAbove tree a p
  above_parent a b p other parent (zero, same) = absurd (other same)
  above_parent a b p other parent (suc n, (q, parent_q, leads)) =
      let same : q ≡ p = cc in
      (n, subst (λ q. Leads tree n a q) same leads)

  -- an affinity without parent has only itself at or above it
  pub above_root : (a b : ℕ) → parent_of tree b ≡ None → AtOrAbove tree a b → a ≡ b
  above_root a b none (zero, same) = same
  above_root a b none (suc n, (q, parent, leads)) = cc

  leads_join : (n m a b c : ℕ) → Leads tree n a b → Leads tree m b c → AtOrAbove tree a c
  leads_join n zero a b c above same = (n, subst (λ c. Leads tree n a c) same above)
  leads_join n (suc m) a b c above (p, parent, leads) = above_child a c p parent (leads_join n m a b p above leads)

  pub transitive : (a b c : ℕ) → AtOrAbove tree a b → AtOrAbove tree b c → AtOrAbove tree a c
  transitive a b c (n, above) (m, leads) = leads_join n m a b c above leads

  leads_compare : (n m a b c : ℕ) → Leads tree n a c → Leads tree m b c → Excludes tree a b
  leads_compare zero m a b c same leads = inr (m, subst (λ c. Leads tree m b c) (sym same) leads)
  leads_compare (suc n) zero a b c leads same = inl (suc n, subst (λ c. Leads tree (suc n) a c) (sym same) leads)
  leads_compare (suc n) (suc m) a b c (p, parent_p, leads_a) (q, parent_q, leads_b) =
      let same : q ≡ p = cc in
      leads_compare n m a b p leads_a (subst (λ q. Leads tree m b q) same leads_b)

  -- two affinities that are at or above one exclude each other
  pub comparable : (a b c : ℕ) → AtOrAbove tree a c → AtOrAbove tree b c → Excludes tree a b
  comparable a b c (n, above_a) (m, above_b) = leads_compare n m a b c above_a above_b

  leads_earlier : IsRooted tree → (n a b : ℕ) → Leads tree n a b → a ≤ b
  leads_earlier rooted zero a b same = omega arith
  leads_earlier rooted (suc n) a b (p, parent, leads) =
      omega (arith, rooted.earlier b p parent, leads_earlier rooted n a p leads)

  -- what is at or above stands no later
  pub earlier : IsRooted tree → (a b : ℕ) → AtOrAbove tree a b → a ≤ b
  earlier rooted a b (n, leads) = leads_earlier rooted n a b leads

slice_get-push : {A : Type 0} (xs : List A) (y : A) (i : ℕ) → i < length xs → slice_get (xs ++ y ∷ []) i ≡ slice_get xs i
slice_get-push [] y i within = absurd (omega arith)
slice_get-push (x ∷ xs) y zero within = refl
slice_get-push (x ∷ xs) y (suc i) within = slice_get-push xs y i (omega arith)

slice_get-pushed : {A : Type 0} (xs : List A) (y : A) → slice_get (xs ++ y ∷ []) (length xs) ≡ Some y
slice_get-pushed [] y = refl
slice_get-pushed (x ∷ xs) y = slice_get-pushed xs y

module _ (tree : List Node) (node : Node) where
  parent_of-push : (b : ℕ) → b < length tree → parent_of (tree ++ node ∷ []) b ≡ parent_of tree b
  parent_of-push b within = ap (option_and_then (λ n. n.parent)) (slice_get-push tree node b within)

  parent_of-pushed : parent_of (tree ++ node ∷ []) (length tree) ≡ node.parent
  parent_of-pushed = ap (option_and_then (λ n. n.parent)) (slice_get-pushed tree node)

  parent_of-past : (b : ℕ) → length tree < b → parent_of (tree ++ node ∷ []) b ≡ None
  parent_of-past b past = ap (option_and_then (λ n. n.parent)) (slice_get_past (tree ++ node ∷ []) b (omega (arith, length-append tree (node ∷ []))))

-- a node that a builder does not refuse
pub record Fits (tree : List Node) (node : Node) : Type 0 where
  pub root : length tree ≡ 0 → node.parent ≡ None
  pub others : 0 < length tree → IsSome node.parent
  pub earlier : (p : ℕ) → node.parent ≡ Some p → p < length tree
  pub room : length tree < MAX_AFFINITIES

parent_fits : (tree : List Node) (parent : Option ℕ) → (is_none parent && nat_le 1 (length tree)) ≡ false → is_unknown tree parent ≡ false → (length tree ≡ 0 → parent ≡ None) × (0 < length tree → IsSome parent) × ((p : ℕ) → parent ≡ Some p → p < length tree)
parent_fits tree None root known =
    (λ _. refl, λ filled. absurd (grind (arith, nat_tests)), λ p none. absurd (cc))
parent_fits tree (Some q) root known =
    let within : q < length tree = grind (arith, nat_tests) in
    (λ empty. absurd (omega arith), λ _. refl, λ p same. let e : p ≡ q = cc in omega arith)

pub fits_unless_refused : (tree : List Node) (node : Node) → refusal_of tree node ≡ None → Fits tree node
fits_unless_refused tree node none =
    let checks = none_holds (node_checks tree node) none in
    let parent = parent_fits tree node.parent checks.1.1.0 checks.1.1.1.0 in
    record {
      root = parent.0;
      others = parent.1;
      earlier = parent.2;
      room = grind (arith, nat_tests, checks.1.1.1.1.0);
    }

-- a node that fits keeps the tree rooted
pub rooted-push : (tree : List Node) (node : Node) → IsRooted tree → Fits tree node → IsRooted (tree ++ node ∷ [])
rooted-push tree node rooted fits =
    let count : length (tree ++ node ∷ []) ≡ length tree + 1 = length-append tree (node ∷ []) in
    let last : (b : ℕ) → b ≡ length tree → parent_of (tree ++ node ∷ []) b ≡ node.parent =
    λ b same. subst (λ b. parent_of (tree ++ node ∷ []) b ≡ node.parent) (sym same) (parent_of-pushed tree node) in
    record {
      root = elim (cases_lt 0 (length tree)) [
        | inl filled ↦ parent_of-push tree node 0 filled ∙ rooted.root
        | inr empty ↦ last 0 (omega arith) ∙ fits.root (omega arith)
      ];
      others = λ b above within. elim (cases_lt b (length tree)) [
        | inl before ↦ ap is_some (parent_of-push tree node b before) ∙ rooted.others b above before
        | inr here ↦ ap is_some (last b (omega arith)) ∙ fits.others (omega arith)
      ];
      earlier = λ b p parent. elim (cases_order b (length tree)) [
        | inl here ↦ let within : p < length tree = fits.earlier p (sym (last b here) ∙ parent) in omega arith
        | inr (inl before) ↦ rooted.earlier b p (sym (parent_of-push tree node b before) ∙ parent)
        | inr (inr past) ↦ let none : parent_of (tree ++ node ∷ []) b ≡ None = parent_of-past tree node b past in cc
      ];
      few = omega (arith, fits.room, count);
    }
