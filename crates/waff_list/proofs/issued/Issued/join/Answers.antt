use Rattle.std.proofs.Common.{◌≡◌, ℕ, ◌-◌, ◌<◌, ◌≤◌, ◌∷◌, ◌++◌, [], List, length, map, get_or, take, Contains, arith, refl, sym, ◌∙◌, ap, subst}
use Rattle.std.proofs.lemmas.List.{get_or_default, length_push, map_push, take_more}
use Rattle.std.proofs.lemmas.List.Elements.{Contains-get_or}
use Rattle.waff_order.specs.Needs.{AreLists, IsNeed, needs_of}
use Rattle.waff_list.specs.Issuing.{served_at}
use Rattle.waff_list.proofs.issued.Issued.join.Goals as goal

-- a need by place stands before the message that needs it
place_within : (needs : List (List ℕ)) (places : List ℕ) (n i : ℕ) → AreLists needs → 1 ≤ n → places ≡ needs_of needs n → i < length places
    → (1 ≤ get_or places i 0) × (get_or places i 0 < n)
place_within needs places n i lists some is less =
    let need : IsNeed needs (get_or places i 0) n = record { from = some; listed = subst (λ xs. Contains xs (get_or places i 0)) is (Contains-get_or places i 0 less) } in
    (lists.from (get_or places i 0) n need, lists.earlier (get_or places i 0) n need)

pub overflow_sub-place : goal.overflow_sub-place
overflow_sub-place c =
    let (tree, assigned, old) = c.requires.joined in
    let have = c.in_ok-join.ensures.joined tree assigned old in
    let long = length_push c.args.self.now.messages.items c.args.m in
    (place_within c.join.new.self.needs c.of-place-items.result.now c.len.result c.loop-place.place-index have.lists
    (omega (arith, c.len.ensures, ap length c.in_ok-push.ensures.items, long, c.push.new.self.ok.0)) c.of-place-items.ensures (omega (arith, c.loop-place-test.true, c.loop-place.auto.place-index-end))).0

pub index-requires : goal.index-requires
index-requires c =
    let (tree, assigned, old) = c.requires.joined in
    let have = c.in_ok-join.ensures.joined tree assigned old in
    let long = length_push c.args.self.now.messages.items c.args.m in
    let within = place_within c.join.new.self.needs c.of-place-items.result.now c.len.result c.loop-place.place-index have.lists
    (omega (arith, c.len.ensures, ap length c.in_ok-push.ensures.items, long, c.push.new.self.ok.0)) c.of-place-items.ensures (omega (arith, c.loop-place-test.true, c.loop-place.auto.place-index-end)) in
    rw c.loop-place.invariant.messages (omega (arith, within.0, within.1, c.len.ensures))

pub loop-place-preserved : goal.loop-place-preserved
loop-place-preserved c =
    let names = served_at c.push.new.self.items in
    let places = c.of-place-items.result.now in
    let at = c.loop-place.place-index in
    let (tree, assigned, old) = c.requires.joined in
    let have = c.in_ok-join.ensures.joined tree assigned old in
    let long = length_push c.args.self.now.messages.items c.args.m in
    let within = place_within c.join.new.self.needs places c.len.result at have.lists
    (omega (arith, c.len.ensures, ap length c.in_ok-push.ensures.items, long, c.push.new.self.ok.0)) c.of-place-items.ensures (omega (arith, c.loop-place-test.true, c.loop-place.auto.place-index-end)) in
    let found : c.index.result.now ≡ get_or c.push.new.self.items (get_or places at 0 - 1) c.index.result.now = rw c.loop-place.invariant.messages at c.index.ensures in
    let index_is : c.index.result.now ≡ names (get_or places at 0)
    = found ∙ get_or_default c.push.new.self.items (get_or places at 0 - 1) c.index.result.now 0 (omega (arith, within.0, within.1, c.len.ensures, c.push.new.self.ok.0)) in
    record {
      messages = c.loop-place.invariant.messages;
      joining = refl;
      needs = c.in_ok-push-2.ensures.items
          ∙ ap (λ xs. xs ++ c.index.result.now ∷ []) c.loop-place.invariant.needs
          ∙ ap (λ x. map names (take at places) ++ x ∷ []) index_is
          ∙ sym (map_push names (take at places) (get_or places at 0))
          ∙ ap (map names) (sym (take_more places at 0 (omega (arith, c.loop-place-test.true, c.loop-place.auto.place-index-end))));
    }
