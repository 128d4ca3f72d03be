use Rattle.std.proofs.Common.{◌≡◌, ℕ, ◌+◌, length, map, replicate, Vec, Global, arith, rules, refl, sym, ap, ◌∙◌}
use Rattle.std.proofs.lemmas.List.{length-map}
use Rattle.waff_model.specs.Layout.{Hierarchy}
use Rattle.waff_board.specs.Openings.{zero_parcels_of}
use Rattle.waff_board.specs.Rule.{IsSetup}
use Rattle.waff_board.proofs.Makings.{zeros_are}
use Rattle.waff_board.proofs.Opens.{opens, AreZeros}
use Rattle.waff_board.proofs.opening.table_of.Goals as goal

pub new-requires : goal.new-requires
new-requires c =
    let setup = c.args.setup.now in
    let items = c.in_ok-parcels.parcels.items in
    let few = c.len.ensures.few in
    let zeros : AreZeros setup.job (map (λ (p : Vec ℕ Global). p.items) items)
    = zeros_are setup.job (length setup.job.layout.tree) (map (λ (p : Vec ℕ Global). p.items) items)
    (c.in_ok-parcels.ensures ∙ ap (λ (h : Hierarchy). zero_parcels_of h.spaces (length h.tree)) c.parcel_table.ensures.layout) refl in
    let told : IsSetup setup = record { job = c.len.ensures.job; short = omega (arith, few); few = c.requires.seats.few } in
    let words : c.deref.result.now ≡ replicate (length setup.job.ops + 1) 0 = search rules in
    opens setup told c.requires.seats.some (λ (p : Vec ℕ Global). p.items) c.deref.result.now items words zeros

pub returns-in-Ok-clause-slots : goal.returns-in-Ok-clause-slots
returns-in-Ok-clause-slots c =
    let setup = c.args.setup.now in
    let items = c.in_ok-parcels.parcels.items in
    let zeros : AreZeros setup.job (map (λ (p : Vec ℕ Global). p.items) items)
    = zeros_are setup.job (length setup.job.layout.tree) (map (λ (p : Vec ℕ Global). p.items) items)
    (c.in_ok-parcels.ensures ∙ ap (λ (h : Hierarchy). zero_parcels_of h.spaces (length h.tree)) c.parcel_table.ensures.layout) refl in
    c.in-Ok.ensures.ok.1 ∙ sym (length-map items (λ (p : Vec ℕ Global). p.items)) ∙ zeros.0
