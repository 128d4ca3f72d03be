use Rattle.std.proofs.Common.{◌≡◌, ◌-◌, ◌<◌, ◌≤◌, [], length, get_or, arith, sym, ◌∙◌, ap, subst}
use Rattle.std.proofs.lemmas.List.{length_push}
use Rattle.waff_model.specs.DistinctNames.{with_name}
use Rattle.waff_figures.specs.ByName.{AreNumbered, labels_of}
use Rattle.waff_figures.proofs.NameLemmas.{label_there, labels_length, none_numbered, numbered_next}
use Rattle.waff_figures.proofs.names.places_of.Goals as goal

pub loop-n-init : goal.loop-n-init
loop-n-init c =
    let names = labels_of c.args.label c.args.trace.now.messages in
    record {
      numbered = subst (λ ks. AreNumbered names ks c.in_ok-places.places.items) (sym c.requires.none)
          (subst (λ ps. AreNumbered names [] ps) (sym c.in_ok-places.ensures.items) (none_numbered names));
      count = ap length c.in_ok-places.ensures.items;
      room = c.in_ok-places.ensures.exact ∙ c.len.ensures.count;
    }

pub loop-n-preserved : goal.loop-n-preserved
loop-n-preserved c =
    let messages = c.args.trace.now.messages in
    let names = labels_of c.args.label messages in
    let keys = c.loop-n.names in
    let places = c.loop-n.places.items in
    let n = c.loop-n.n in
    let name = c.label_of-name.result.now in
    let place = c.in_ok-place.place in
    let from : 1 ≤ n = c.loop-n.auto.n in
    let count : length places ≡ n - 1 = c.loop-n.invariant.count in
    let inside : length places < length names
    = omega (arith, count, from, c.loop-n-test.true, c.len-n-end.ensures.count, labels_length c.args.label messages) in
    let named = label_there c.args.label messages (n - 1) c.message.result.now c.message.ensures.message in
    let is : name ≡ get_or names (length places) [] = c.label_of-name.ensures ∙ sym named ∙ ap (λ k. get_or names k []) (sym count) in
    let put : c.put.new.self ≡ with_name keys name = c.in_ok-place.ensures.names in
    let within : place < length (with_name keys name) = subst (λ ks. place < length ks) put c.in_ok-place.ensures.within in
    let at : get_or (with_name keys name) place [] ≡ name = sym (ap (λ ks. get_or ks place []) put) ∙ c.in_ok-place.ensures.at in
    let next = numbered_next names keys places name place c.loop-n.invariant.numbered inside is within at in
    record {
      numbered = subst (λ ks. AreNumbered names ks c.push_reserved.new.self.items) (sym put)
          (subst (λ ps. AreNumbered names (with_name keys name) ps) (sym c.push_reserved.ensures.items) next);
      count = ap length c.push_reserved.ensures.items ∙ length_push places place ∙ omega (arith, count, from);
      room = c.push_reserved.ensures.capacity ∙ c.loop-n.invariant.room;
    }

pub push_reserved-requires : goal.push_reserved-requires
push_reserved-requires c =
    omega (arith, c.loop-n.places.ok.0, c.loop-n.invariant.room, c.loop-n.invariant.count, c.loop-n-test.true, c.len-n-end.ensures.count, c.loop-n.auto.n)

pub message-requires : goal.message-requires
message-requires c = record {
  number = record { from = c.loop-n.auto.n; to = omega (arith, c.loop-n-test.true, c.len-n-end.ensures.count) };
}

pub returns-clause-numbered : goal.returns-clause-numbered
returns-clause-numbered c = c.loop-n.invariant.numbered
