-- Trails of links, as links are added.
use Rattle.std.proofs.Common.{◌≡◌, ℕ, zero, suc, ◌+◌, ◌-◌, ◌<◌, ◌≤◌, List, [], ◌∷◌, ◌++◌, length, map, get_or, set, replicate, arith, refl, ap, sym, ◌∙◌, subst, inl, inr}
use Rattle.std.proofs.lemmas.Bool.{cases_lt}
use Rattle.std.proofs.lemmas.List.{get_or_push, get_or_append_left, get_or-map, length_push, map-set}
use Rattle.std.proofs.lemmas.List.Elements.{All-weaker, All-get_or, All-replicate, All-set}
use Rattle.waff_waits.proofs.Each.{map_same}
use Rattle.waff_waits.specs.Trails.{link_at, trail, trails, AreLinked}
use Rattle.waff_waits.specs.declared.link.Link.{Link}

abbrev no_link : Link
no_link = record { message = 0; next = 0 }

-- each link goes on with an earlier one
abbrev pub AreBack : List Link → Type 0
AreBack links = (n : ℕ) → 1 ≤ n → n ≤ length links → (link_at links n).next < n

pub trail_none : (links : List Link) (most : ℕ) → trail links most 0 ≡ []
trail_none links zero = refl
trail_none links (suc most) = refl

module _ (links : List Link) (back : AreBack links) where
  -- a trail is the same, however many links it may have beyond the number of its first
  trail_enough : (f g n : ℕ) → n ≤ f → n ≤ g → n ≤ length links → trail links f n ≡ trail links g n
  trail_enough zero g n in_f in_g inside =
      let top : n ≡ 0 = omega arith in
      subst (λ k. trail links zero k ≡ trail links g k) (sym top) (sym (trail_none links g))
  trail_enough (suc f) zero n in_f in_g inside =
      let top : n ≡ 0 = omega arith in
      subst (λ k. trail links (suc f) k ≡ trail links zero k) (sym top) refl
  trail_enough (suc f) (suc g) zero in_f in_g inside = refl
  trail_enough (suc f) (suc g) (suc n) in_f in_g inside =
      let next : ℕ = (link_at links (suc n)).next in
      let earlier : next < suc n = back (suc n) (omega arith) inside in
      ap (λ xs. (link_at links (suc n)).message ∷ xs) (trail_enough f g next (omega arith) (omega arith) (omega arith))

  -- a trail is the message of its first link, and the trail with which that goes on
  pub trail_step : (n : ℕ) → 1 ≤ n → n ≤ length links
      → trail links n n ≡ (link_at links n).message ∷ trail links (link_at links n).next (link_at links n).next
  trail_step zero from inside = absurd (omega arith)
  trail_step (suc n) from inside =
      let next : ℕ = (link_at links (suc n)).next in
      let earlier : next < suc n = back (suc n) from inside in
      ap (λ xs. (link_at links (suc n)).message ∷ xs) (trail_enough n next next (omega arith) (omega arith) (omega arith))

  -- a link more leaves the trails that there are
  trail_kept : (l : Link) (most n : ℕ) → n ≤ length links → trail (links ++ l ∷ []) most n ≡ trail links most n
  trail_kept l zero n inside = refl
  trail_kept l (suc most) zero inside = refl
  trail_kept l (suc most) (suc n) inside =
      let same : link_at (links ++ l ∷ []) (suc n) ≡ link_at links (suc n) = get_or_append_left links (l ∷ []) no_link (suc n - 1) (omega arith) in
      let next : ℕ = (link_at links (suc n)).next in
      let earlier : next < suc n = back (suc n) (omega arith) inside in
      ap (λ (x : Link). x.message ∷ trail (links ++ l ∷ []) most x.next) same
      ∙ ap (λ xs. (link_at links (suc n)).message ∷ xs) (trail_kept l most next (omega arith))

module _ (firsts : List ℕ) (links : List Link) (at m : ℕ) (linked : AreLinked firsts links) (to : at < length firsts) where
  abbrev pub l : Link
  l = record { message = m; next = get_or firsts at 0 }

  abbrev count : ℕ
  count = length links

  first_within : get_or firsts at 0 ≤ count
  first_within = All-get_or (λ n. n ≤ count) firsts at 0 to linked.within

  last : link_at (links ++ l ∷ []) (count + 1) ≡ l
  last = get_or_push links l no_link (count + 1 - 1) (omega arith)

  back_more : AreBack (links ++ l ∷ [])
  back_more n from within =
      elim (cases_lt n (count + 1)) [
        | inl before ↦
            subst (λ (x : Link). x.next < n) (sym (get_or_append_left links (l ∷ []) no_link (n - 1) (omega arith))) (linked.earlier n from (omega arith))
        | inr after ↦
            let is : n ≡ count + 1 = omega (arith, within, length_push links l) in
            let below : l.next < count + 1 = omega (arith, first_within) in
            subst (λ k. (link_at (links ++ l ∷ []) k).next < k) (sym is) (subst (λ (x : Link). x.next < count + 1) (sym last) below)
      ]

  here : trail (links ++ l ∷ []) (count + 1) (count + 1) ≡ m ∷ trail links (get_or firsts at 0) (get_or firsts at 0)
  here =
      let next : ℕ = get_or firsts at 0 in
      let long : length (links ++ l ∷ []) ≡ count + 1 = length_push links l in
      trail_step (links ++ l ∷ []) back_more (count + 1) (omega arith) (omega (arith, long))
      ∙ ap (λ (x : Link). x.message ∷ trail (links ++ l ∷ []) x.next x.next) last
      ∙ ap (λ xs. m ∷ xs) (trail_kept links linked.earlier l next next first_within)

  -- a link more, with which the trail of one message begins
  pub linked_more : AreLinked (set firsts at (count + 1)) (links ++ l ∷ [])
  linked_more =
      let long : length (links ++ l ∷ []) ≡ count + 1 = length_push links l in
      record {
        within = All-set (λ n. n ≤ length (links ++ l ∷ [])) firsts at (count + 1) (omega (arith, long))
            (All-weaker (λ n. n ≤ count) (λ n. n ≤ length (links ++ l ∷ [])) (λ n within. omega (arith, within, long)) firsts linked.within);
        earlier = back_more;
      }

  pub trails_more : trails (set firsts at (count + 1)) (links ++ l ∷ []) ≡ set (trails firsts links) at (m ∷ get_or (trails firsts links) at [])
  trails_more =
      let all = links ++ l ∷ [] in
      let kept : map (λ n. trail all n n) firsts ≡ trails firsts links = map_same (λ n. trail all n n) (λ n. trail links n n) firsts
      (All-weaker (λ n. n ≤ count) (λ n. trail all n n ≡ trail links n n) (λ n within. trail_kept links linked.earlier l n n within) firsts linked.within) in
      let list : get_or (trails firsts links) at [] ≡ trail links (get_or firsts at 0) (get_or firsts at 0) = get_or-map (λ n. trail links n n) firsts at 0 [] to in
      map-set (λ n. trail all n n) firsts at (count + 1)
      ∙ ap (λ xs. set xs at (trail all (count + 1) (count + 1))) kept
      ∙ ap (λ xs. set (trails firsts links) at xs) (here ∙ ap (λ xs. m ∷ xs) (sym list))

  -- a trail goes on with the link behind its first
  module _ (some : 1 ≤ get_or firsts at 0) where
    abbrev first : Link
    first = link_at links (get_or firsts at 0)

    pub trail_first : get_or (trails firsts links) at [] ≡ first.message ∷ trail links first.next first.next
    trail_first = get_or-map (λ n. trail links n n) firsts at 0 [] to ∙ trail_step links linked.earlier (get_or firsts at 0) some first_within

    pub linked_less : AreLinked (set firsts at first.next) links
    linked_less =
        let earlier = linked.earlier (get_or firsts at 0) some first_within in
        record {
          within = All-set (λ n. n ≤ count) firsts at first.next (omega (arith, earlier, first_within)) linked.within;
          earlier = linked.earlier;
        }

    pub trails_less : trails (set firsts at first.next) links ≡ set (trails firsts links) at (trail links first.next first.next)
    trails_less = map-set (λ n. trail links n n) firsts at first.next

  -- an empty trail
  pub trail_over : get_or firsts at 0 ≡ 0 → get_or (trails firsts links) at [] ≡ []
  trail_over none = get_or-map (λ n. trail links n n) firsts at 0 [] to ∙ ap (λ n. trail links n n) none

-- no link yet
pub linked_none : (n : ℕ) → AreLinked (replicate n 0) []
linked_none n = record {
  within = All-replicate (λ k. k ≤ 0) n 0 (omega arith);
  earlier = λ k from within. absurd (omega (arith, from, within));
}

pub trails_none : (n : ℕ) → trails (replicate n 0) [] ≡ replicate n []
trails_none zero = refl
trails_none (suc n) = ap (λ xs. [] ∷ xs) (trails_none n)
