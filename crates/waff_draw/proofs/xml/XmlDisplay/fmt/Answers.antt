use Rattle.std.proofs.Common.{[], flat_map, sym, ap, ◌∙◌, map-id, refl}
use Rattle.std.specs.Str.{chars}
use Rattle.std.proofs.Output.{writes_in_calls_nil, has_written_of_eq}
use Rattle.std.proofs.lemmas.Grind.{put_two}
use Rattle.std.proofs.lemmas.Iterator.{YieldsList-from_chars}
use Rattle.std.proofs.lemmas.Iterator.Consumers.{YieldsList-end}
use Rattle.std.proofs.lemmas.List.{flat_map_more}
use Rattle.waff_draw.specs.Xml.{xml_char}
use Rattle.waff_draw.proofs.xml.XmlDisplay.fmt.Goals as goal

pub loop-character-init : goal.loop-character-init
loop-character-init g c = λ plain. record { wrote = writes_in_calls_nil _ _; plain = plain }

pub loop-character-preserved : goal.loop-character-preserved
loop-character-preserved g c = λ plain.
    let so_far = c.loop-character.invariant plain in
    put_two _ _ _ _ _ _ _ so_far (c.in_ok-write.ensures.writes so_far.plain refl) (flat_map_more xml_char [] c.loop-character.yielded c.in-Some.character)

pub returns-clause-writes : goal.returns-clause-writes
returns-clause-writes g c = λ plain ok.
    let end = YieldsList-end (YieldsList-from_chars c.text.result.now c.text.utf8 cc) c.loop-character.yielded _ c.loop-character.yielded_by _ _ c.in-None.is c.next.ensures.steps in
    has_written_of_eq _ _ _ _ _ (ap (flat_map xml_char) (sym (map-id c.loop-character.yielded) ∙ end.0 ∙ ap chars c.text.ensures)) (c.loop-character.invariant plain)
