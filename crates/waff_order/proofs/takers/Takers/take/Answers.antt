use Rattle.std.proofs.Common.{◌≡◌, [], length, ◌∙◌, arith, refl, slice_index, subst, sym, vec_len}
use Rattle.std.proofs.lemmas.Bool.{eqb-true}
use Rattle.std.proofs.lemmas.List.{nil_from_length}
use Rattle.std.specs.Prelude.{if◌then◌else◌}
use Rattle.waff_order.specs.Takers.{AreTouched, note_uses}
use Rattle.waff_order.proofs.takers.Takers.take.Goals as goal
use Rattle.waff_order.proofs.takers.Takers.take.Goals.{then-not-is_root, else-not-is_root}

-- no lock was touched, or it stays touched
same_touched : (c : goal.Then-is_empty-2)
    → (if c.args.is_root then [] else c.args.self.now.touched.items) ≡ c.args.self.now.touched.items
same_touched c = elim c.if-not-is_root.branch [
  | then-not-is_root w ↦ rw w.if-not-is_root.true refl
  | else-not-is_root w ↦
      let touched = c.args.self.now.touched in
      let short : vec_len touched ≡ 0 = eqb-true (vec_len touched) 0
      (sym w.is_empty-else-not-is_root.ensures ∙ (sym w.value-is ∙ c.if-is_empty-2.true)) in
      rw w.if-not-is_root.false (sym (nil_from_length touched.items (omega (arith, touched.ok.0, short))))
]

pub returns-then-is_empty-2-clause-touched : goal.returns-then-is_empty-2-clause-touched
returns-then-is_empty-2-clause-touched c = λ states are listed.
    let root = if c.args.is_root then c.args.m else slice_index c.args.latest.now c.args.root in
    let none : c.args.uses.now ≡ [] = nil_from_length c.args.uses.now (eqb-true (length c.args.uses.now) 0 (sym c.is_empty.ensures ∙ c.if-is_empty.true)) in
    subst (λ us. AreTouched root (note_uses c.args.m states us) c.args.self.now.touched.items) (sym none)
    (subst (AreTouched root states) (same_touched c) listed)

pub returns-clause-touched : goal.returns-clause-touched
returns-clause-touched c = λ states are listed.
    let old = c.args.self.now.touched.items in
    let at : c.at-root.result ≡ slice_index c.args.latest.now c.args.root = c.at-root.ensures in
    let before = subst (λ r. AreTouched (if c.args.is_root then c.args.m else r) states (if c.args.is_root then [] else old)) (sym at) listed in
    subst (λ r. AreTouched (if c.args.is_root then c.args.m else r) (note_uses c.args.m states c.args.uses.now) c.note.new.self.touched.items) at
    (c.in_ok-note.ensures.touched states are before)
