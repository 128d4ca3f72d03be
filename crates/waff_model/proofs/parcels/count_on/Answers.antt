use Rattle.std.proofs.Common.{◌≡◌, ◌≢◌, ◌+◌, true, false, ap, sym, ◌∙◌, arith, eq-eqb}
use Rattle.std.proofs.lemmas.Bool.{eqb-true}
use Rattle.waff_model.specs.declared.cell.Cell.{Cell}
use Rattle.waff_model.specs.Layout.{IsCell, owner_of}
use Rattle.waff_model.specs.Parcel.{cells_ahead}
use Rattle.waff_model.proofs.LayoutLemmas.{cells_within}
use Rattle.waff_model.proofs.ParcelLemmas.{owned_more, owned_same, owned_few}
use Rattle.waff_model.proofs.parcels.count_on.Goals as goal
use Rattle.waff_model.proofs.parcels.count_on.Goals.{then-eq, else-eq}

pub overflow_add-count : goal.overflow_add-count
overflow_add-count c =
    let spaces = c.args.layout.now.spaces in
    let cell : Cell = record { space = c.args.s; index = c.loop-index.index } in
    let is_cell : IsCell spaces cell = omega (arith, c.requires.end) in
    let owned : owner_of spaces cell ≡ c.args.a.0
    = sym c.owner.ensures.owner ∙ eqb-true c.owner.result.0 c.args.a.0 (sym c.eq.ensures ∙ c.if-eq.true) in
    omega (
      arith,
      c.loop-index.invariant,
      owned_more spaces cell is_cell c.args.a.0 owned,
      owned_few spaces (cells_ahead spaces c.args.s + (c.loop-index.index + 1)) c.args.a.0,
      cells_within c.args.layout.now c.space_count.ensures.layout,
    )

pub loop-index-preserved : goal.loop-index-preserved
loop-index-preserved c =
    let spaces = c.args.layout.now.spaces in
    let cell : Cell = record { space = c.args.s; index = c.loop-index.index } in
    let is_cell : IsCell spaces cell = omega (arith, c.requires.end) in
    elim c.if-eq.branch [
      | then-eq w ↦
          let owned : owner_of spaces cell ≡ c.args.a.0
          = sym c.owner.ensures.owner ∙ eqb-true c.owner.result.0 c.args.a.0 (sym c.eq.ensures ∙ w.if-eq.true) in
          w.count-is ∙ ap (λ n. n + 1) c.loop-index.invariant ∙ sym (owned_more spaces cell is_cell c.args.a.0 owned)
      | else-eq w ↦
          let other : owner_of spaces cell ≢ c.args.a.0
          = λ same. let is : true ≡ false = sym (eq-eqb c.owner.result.0 c.args.a.0 (c.owner.ensures.owner ∙ same)) ∙ sym c.eq.ensures ∙ w.if-eq.false in absurd cc in
          w.count-is ∙ c.loop-index.invariant ∙ sym (owned_same spaces cell is_cell c.args.a.0 other)
    ]
