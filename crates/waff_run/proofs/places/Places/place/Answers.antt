use Rattle.std.proofs.Common.{◌-◌, Some, get_or, ap, ◌∙◌, arith}
use Rattle.waff_run.specs.Places.{Placing, Striped}
use Rattle.waff_run.proofs.Lying.{place_is}
use Rattle.waff_run.proofs.places.Places.place.Goals as goal

pub overflow_sub-result : goal.overflow_sub-result
overflow_sub-result c =
    let row = c.index-space.result.now in
    let read = c.index-space.ensures ∙ ap (λ (placing : Placing). get_or placing.spaces c.in_ok-s.s row) c.self.view_is in
    let is = place_is c.args.self.now c.args.file c.in_ok-s.s row c.in_ok-s.ensures.found read in
    let first = ap (λ (r : Striped). r.first) c.space.view_is in
    omega (arith, is.0, first)

pub returns : goal.returns
returns c =
    let row = c.index-space.result.now in
    let read = c.index-space.ensures ∙ ap (λ (placing : Placing). get_or placing.spaces c.in_ok-s.s row) c.self.view_is in
    let is = place_is c.args.self.now c.args.file c.in_ok-s.s row c.in_ok-s.ensures.found read in
    let first = ap (λ (r : Striped). r.first) c.space.view_is in
    ap (λ n. Some (c.in_ok-s.s, c.args.file - n)) first ∙ is.1
