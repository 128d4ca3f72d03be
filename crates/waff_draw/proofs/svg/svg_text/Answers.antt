use Rattle.std.proofs.Common.{◌≡◌, IfOk, string_bytes, subst}
use Rattle.waff_draw.specs.Scene.{Scene}
use Rattle.waff_draw.specs.Svg.{document_text}
use Rattle.waff_draw.proofs.svg.svg_text.Goals as goal

pub returns : goal.returns
returns c =
    subst (λ (s : Scene). IfOk c.picture.result (λ text. string_bytes text ≡ document_text s)) c.in_ok-chart.ensures c.picture.ensures
