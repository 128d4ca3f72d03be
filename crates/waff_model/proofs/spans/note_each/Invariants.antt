use Rattle.std.proofs.Common.{◌≡◌, length}
use Rattle.waff_model.specs.Spans.{map_in}
use Rattle.waff_model.proofs.spans.note_each.Given as goal

abbrev pub invariant-loop-place : goal.invariant-loop-place
invariant-loop-place g l = record {
  noted : l.values ≡ map_in (λ v. g.T.Later.join.later v l.value) l.initial.values l.initial.from l.place;
  count : length l.values ≡ length l.initial.values;
}
