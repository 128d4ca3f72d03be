-- A piece begins with the name of a verb and a space, or is no operation.
use Rattle.std.proofs.Common.{◌∙◌, sym, ap}
use Rattle.std.specs.Prelude.{codes}
use Rattle.waff_read.specs.Ops.{op_of}
use Rattle.waff_read.proofs.PartLemmas.{begins, no_verb}
use Rattle.waff_read.proofs.op.read_op.Goals as goal

pub returns-in-Some : goal.returns-in-Some
unfolding op_of
returns-in-Some c =
    let whole = begins (codes "set ") c.args.piece.now c.in-Some.words.now (rw c.in-Some.is at c.strip_prefix.ensures.cases) in
    c.read_words.ensures ∙ sym (ap (op_of c.args.spaces.now) whole)

pub returns-in-Some-strip_prefix : goal.returns-in-Some-strip_prefix
unfolding op_of
returns-in-Some-strip_prefix c =
    let whole = begins (codes "add ") c.args.piece.now c.in-Some-strip_prefix.words.now (rw c.in-Some-strip_prefix.is at c.strip_prefix-2.ensures.cases) in
    c.read_words-in-Some-strip_prefix.ensures ∙ sym (ap (op_of c.args.spaces.now) whole)

pub returns-in-Some-strip_prefix-2 : goal.returns-in-Some-strip_prefix-2
unfolding op_of
returns-in-Some-strip_prefix-2 c =
    let whole = begins (codes "copy ") c.args.piece.now c.in-Some-strip_prefix-2.words.now (rw c.in-Some-strip_prefix-2.is at c.strip_prefix-3.ensures.cases) in
    c.read_words-in-Some-strip_prefix-2.ensures ∙ sym (ap (op_of c.args.spaces.now) whole)

pub returns-in-Some-strip_prefix-3 : goal.returns-in-Some-strip_prefix-3
unfolding op_of
returns-in-Some-strip_prefix-3 c =
    let whole = begins (codes "swap ") c.args.piece.now c.in-Some-strip_prefix-3.words.now (rw c.in-Some-strip_prefix-3.is at c.strip_prefix-4.ensures.cases) in
    c.read_words-in-Some-strip_prefix-3.ensures ∙ sym (ap (op_of c.args.spaces.now) whole)

pub returns-in-Some-strip_prefix-4 : goal.returns-in-Some-strip_prefix-4
unfolding op_of
returns-in-Some-strip_prefix-4 c =
    let whole = begins (codes "read ") c.args.piece.now c.in-Some-strip_prefix-4.words.now (rw c.in-Some-strip_prefix-4.is at c.strip_prefix-5.ensures.cases) in
    c.read_words-in-Some-strip_prefix-4.ensures ∙ sym (ap (op_of c.args.spaces.now) whole)

pub returns : goal.returns
returns c =
    no_verb c.args.spaces.now c.args.piece.now
    (rw c.in_default.is at c.strip_prefix.ensures.cases)
    (rw c.in_default-strip_prefix.is at c.strip_prefix-2.ensures.cases)
    (rw c.in_default-strip_prefix-2.is at c.strip_prefix-3.ensures.cases)
    (rw c.in_default-strip_prefix-3.is at c.strip_prefix-4.ensures.cases)
    (rw c.in_default-strip_prefix-4.is at c.strip_prefix-5.ensures.cases)
