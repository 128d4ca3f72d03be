use Rattle.std.proofs.Common.{◌≡◌, ◌∙◌, sym, ap}
use Rattle.std.proofs.lemmas.Result.{IfOk-weaker}
use Rattle.waff_run.proofs.Filing.{named, numbered}
use Rattle.waff_run.proofs.store.file_name.Goals as goal

pub returns-in-Some : goal.returns-in-Some
returns-in-Some c =
    let spaces = c.args.layout.now.spaces in
    let placing = c.args.places.now in
    let here = sym c.place.ensures ∙ c.in-Some.is in
    IfOk-weaker c.format.result _ _
    (λ text is. is ∙ sym (named spaces placing c.args.file c.in-Some.space c.in-Some.place c.space_name-name.result.now here c.space_name-name.ensures))
    c.format.ensures.ok
