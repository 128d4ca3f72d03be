use Rattle.std.proofs.Common.{◌≡◌, Some, slice_get, sym, ◌∙◌, ap}
use Rattle.std.proofs.lemmas.Option.{slice_get-get_or}
use Rattle.waff_assign.specs.Uses.{number_in}
use Rattle.waff_assign.proofs.Numbering.{not_missing, number_is, same_from_tie}
use Rattle.waff_assign.proofs.locks.Locks.number.Goals as goal

pub unreachable-requires : goal.unreachable-requires
unreachable-requires c =
    let listed = c.deref-2.ensures.value ∙ c.self.view_is in
    not_missing c.deref-2.result.now (rw (c.deref-2.ensures.value) c.self.invariant.rising) c.args.cell c.in-Err.field-0
    (rw listed c.requires) c.in-Err.ensures.position

pub returns : goal.returns
returns c =
    let cells = c.deref-2.result.now in
    let number = c.in-Ok.number in
    let cell = c.args.cell in
    let here : slice_get cells number ≡ Some cell
    = slice_get-get_or cells number cell c.in-Ok.ensures.bound ∙ ap Some (same_from_tie _ cell (c.in-Ok.ensures.ok cell)) in
    sym (number_is cells (rw (c.deref-2.ensures.value) c.self.invariant.rising) number cell here)
    ∙ ap (λ locks. number_in locks cell) (c.deref-2.ensures.value ∙ c.self.view_is)

pub returns-then-is_at : goal.returns-then-is_at
returns-then-is_at c =
    let cell = c.args.cell in
    sym (number_is c.deref.result.now (rw (c.deref.ensures.value) c.self.invariant.rising) c.at-guess.result cell (c.is_at.ensures.0 c.if-is_at.true))
    ∙ ap (λ locks. number_in locks cell) (c.deref.ensures.value ∙ c.self.view_is)
