use Rattle.std.proofs.Common.{◌≡◌, length, map, sym, ◌∙◌, ap}
use Rattle.std.proofs.lemmas.List.{length-map}
use Rattle.waff_model.specs.Spans.{map_in}
use Rattle.waff_model.proofs.SpanLemmas.{map_in-map, map_in-all}
use Rattle.waff_model.proofs.LaterLemmas.{later_between, whole_more}
use Rattle.waff_model.proofs.spans.Spread.note.Goals as goal

pub returns-then-to-len : goal.returns-then-to-len
returns-then-to-len g c =
    let join = g.T.Later.join in
    let x = c.args.value in
    let whole = c.self.inside.whole in
    let values = c.self.inside.blocks in
    let old = c.args.self.now in
    let all : c.args.to ≡ length old = c.if-to-len.true ∙ c.len.ensures ∙ sym (length-map values (λ v. join.later v whole)) ∙ ap length c.self.view_is in
    ap (λ w. map (λ v. join.later v w) values) c.later-self-inside.ensures
    ∙ whole_more join g.met.T.Later.laws whole x values ∙ ap (map (λ v. join.later v x)) c.self.view_is ∙ sym (map_in-all (λ v. join.later v x) old)
    ∙ ap (map_in (λ v. join.later v x) old 0) (sym all) ∙ ap (λ from. map_in (λ v. join.later v x) old from c.args.to) (sym c.if-from-eq0.true)

pub returns-else-from-eq0 : goal.returns-else-from-eq0
returns-else-from-eq0 g c =
    let join = g.T.Later.join in
    let from = c.args.from in
    let to = c.args.to in
    let x = c.args.value in
    let whole = c.self.inside.whole in
    ap (map (λ v. join.later v whole)) c.note.ensures
    ∙ map_in-map (λ v. join.later v x) (λ v. join.later v whole) (λ v. later_between join g.met.T.Later.laws v whole x) c.self.inside.blocks from to
    ∙ ap (λ xs. map_in (λ v. join.later v x) xs from to) c.self.view_is
