use Rattle.std.proofs.Common.{ap, ◌∙◌, string_bytes, subst, sym}
use Rattle.std.proofs.lemmas.Result.{IfOk-weaker}
use Rattle.waff_assign.specs.Case.{instance_of}
use Rattle.waff_assign.specs.Instance.{Instance}
use Rattle.waff_assign.specs.Lowest.{IsAssignment}
use Rattle.waff_tool.specs.WhyText.{TellsWhy}
use Rattle.waff_tool.proofs.WhyTexts.{told_text}
use Rattle.waff_tool.proofs.why.lifted_text.Goals as goal

pub invariant_of-laid : goal.invariant_of-laid
invariant_of-laid c =
    let instance = c.case.ensures.instance in
    record {
      tree = ap (λ (i : Instance). i.tree) instance;
      fits = ap (λ (i : Instance). i.trace.sizes) instance ∙ c.args.accepted.now.fits;
    }

pub lifting_text-requires : goal.lifting_text-requires
lifting_text-requires c = record {
  assignment = subst (λ (i : Instance). IsAssignment c.args.accepted.now.layout i.trace.messages i.assigned) (sym c.case.ensures.instance) c.requires.assignment;
}

pub returns : goal.returns
returns c =
    let layout = c.args.accepted.now.layout in
    IfOk-weaker c.lifting_text.result _ _
    (λ text told. subst (λ (i : Instance). TellsWhy c.args.grouping layout i (string_bytes text)) c.case.ensures.instance
    (told_text c.args.grouping layout (instance_of c.case.result) (string_bytes text) c.lifts_add_up.ensures told))
    c.lifting_text.ensures
