use Rattle.std.proofs.Common.{◌≡◌, ◌≢◌, ℕ, false, List, sym, ◌∙◌}
use Rattle.std.specs.Str.{bytes_eq}
use Rattle.std.proofs.lemmas.Bool.{both_ways}
use Rattle.std.proofs.lemmas.Slice.Eq.{bytes_eq-Decides}
use Rattle.waff_model.specs.Messages.{no_client}
use Rattle.waff_plan.proofs.LastLemmas.{before_found, before_not_found, last_noted}
use Rattle.waff_plan.proofs.timing.note_last.Goals as goal

-- a name that is not that of no client
named : (name : List ℕ) → bytes_eq name no_client ≡ false → name ≢ no_client
named name other same = both_ways (bytes_eq name no_client) other ((bytes_eq-Decides name no_client).1 same)

pub returns-in-Some-clause-last : goal.returns-in-Some-clause-last
returns-in-Some-clause-last c = λ clients are is.
    last_noted clients c.args.n c.args.client.now c.args.last.now c.insert.new.self c.requires.some is c.in_ok-before.ensures.updates are

pub returns-in-Some-clause-before : goal.returns-in-Some-clause-before
returns-in-Some-clause-before c = λ clients are is.
    let some = named c.args.client.now (sym c.eq.ensures ∙ c.if-eq.false) in
    before_found clients c.args.n c.in-Some.before c.args.client.now is some (sym c.in-Some.is ∙ c.in_ok-before.ensures.old ∙ are c.args.client.now some)

pub returns-in-None-clause-last : goal.returns-in-None-clause-last
returns-in-None-clause-last c = λ clients are is.
    last_noted clients c.args.n c.args.client.now c.args.last.now c.insert.new.self c.requires.some is c.in_ok-before.ensures.updates are

pub returns-in-None-clause-before : goal.returns-in-None-clause-before
returns-in-None-clause-before c = λ clients are is.
    let some = named c.args.client.now (sym c.eq.ensures ∙ c.if-eq.false) in
    before_not_found clients c.args.n c.args.client.now is some (sym c.in-None.is ∙ c.in_ok-before.ensures.old ∙ are c.args.client.now some)
