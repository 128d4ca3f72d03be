use Rattle.std.proofs.Common.{◌≡◌, ℕ, ◌+◌, ◌<◌, ◌≤◌, List, [], ◌∷◌, Vec, Global, map, length, length-set, get_or, set, take, drop, refl, arith, sym, ap, ◌∙◌, subst}
use Rattle.std.proofs.lemmas.List.{map-set, get_or-map, length-map}
use Rattle.atomic_table.specs.Table.{Me, turned, rest}
use Rattle.waff_cells.specs.Held.{rows_of}
use Rattle.waff_board.specs.Hands.{rows_at}
use Rattle.waff_board.specs.Tokens.{BoardValue}
use Rattle.waff_board.specs.declared.view.View.{View}
use Rattle.waff_board.proofs.Swapping.{IsSwapping, swaps_next, swapping_start, swapping_next, rows_swapped, slots_swapped, row_there}
use Rattle.waff_board.proofs.Rows.{rows_taken, row_left, rows_left}
use Rattle.waff_board.proofs.board.Board.swap_all.Goals as goal

pub exchange-requires : goal.exchange-requires
exchange-requires c =
    let inv = c.loop-a.invariant in (
      inv.0 ∙ c.requires.table ∙ sym (ap (λ (b : BoardValue). b.table) c.self.view_is),
      swaps_next (λ (parcel : Vec ℕ Global). parcel.items) _ _ _ _ _ _ _ c.loop-a-test.true inv.1,
    )

pub loop-a-init : goal.loop-a-init
loop-a-init c = (
  refl,
  swapping_start (λ (parcel : Vec ℕ Global). parcel.items) c.args.chair.now.me c.args.owners.now
      (rows_at (rows_of c.args.parcels.now.items) c.args.owners.now) c.requires.held,
  refl,
  refl,
)

pub loop-a-preserved : goal.loop-a-preserved
loop-a-preserved c =
    let inv = c.loop-a.invariant in
    let was = c.args.chair.now.me in
    let before = c.loop-a.chair.me in
    let owners = c.args.owners.now in
    let k = c.loop-a.a-index in
    let a : ℕ = get_or owners k 0 in
    let f : Vec ℕ Global → List ℕ = λ row. row.items in
    let values = map (λ (slot : ℕ × Vec ℕ Global). slot.1.items) was.1 in
    let old = rows_of c.args.parcels.now.items in
    let all = rows_at old owners in
    let places = c.loop-a.parcels.items in
    let rows = rows_of places in
    let moved = rows_at rows (take k owners) in
    let within : k < length owners = c.loop-a-test.true in
    let once = c.requires.once in
    let parcel = c.exchange.result in
    let fresh = c.replace-parcel.result in
    let after : c.turn.new.self.me ≡ (before.0, turned ((a, fresh) ∷ rest before.1))
    = c.turn.ensures.2 ∙ ap (λ (m : Me (Vec ℕ Global) View). (m.0, turned m.1)) c.exchange.ensures.3 in
    let small : a < length places = (let few = c.requires.known k 0 within in let same = inv.2 in omega (arith, few, same)) in
    let value : f fresh ≡ get_or all k []
    = ap f c.replace-parcel.ensures.value
    ∙ row_there f places a c.index_mut-row.result.now small c.index_mut-row.ensures.value
    ∙ row_left rows owners once k within [] old inv.3
    ∙ sym (get_or-map (λ b. get_or old b []) owners k 0 [] within) in
    let set_is : rows_of (set places a parcel) ≡ set rows a (f parcel) = map-set f places a parcel in (
      c.turn.ensures.0 ∙ c.exchange.ensures.0 ∙ inv.0,
      subst (λ now. IsSwapping f was.0 owners values all (k + 1) c.turn.new.self.me now)
          (sym (ap (λ xs. rows_at xs (take (k + 1) owners)) set_is
          ∙ rows_taken rows owners once k within (f parcel) (let long = length-map places f in omega (arith, small, long))))
          (swapping_next f was.0 owners values all k before moved within inv.1
          (let long = length-map owners (λ b. get_or old b []) in omega (arith, within, long)) parcel fresh value c.exchange.ensures.2 c.turn.new.self.me after),
      length-set places a parcel ∙ inv.2,
      ap (λ xs. rows_at xs (drop (k + 1) owners)) set_is ∙ rows_left rows owners once k within (f parcel) old inv.3,
    )

pub returns-clause-rows : goal.returns-clause-rows
returns-clause-rows c =
    rows_swapped (λ (parcel : Vec ℕ Global). parcel.items) _ _ _ _ _ _ (rows_of c.loop-a.parcels.items) (omega arith) c.loop-a.invariant.1

pub returns-clause-slots : goal.returns-clause-slots
returns-clause-slots c =
    let owners = c.args.owners.now in
    let past : length owners ≤ c.loop-a.a-index = omega arith in
    slots_swapped (λ (parcel : Vec ℕ Global). parcel.items) _ _ _ _ _ _ (rows_of c.loop-a.parcels.items) past c.loop-a.invariant.1
    (let long = length-map owners (λ b. get_or (rows_of c.args.parcels.now.items) b []) in omega (arith, past, long))
