use Rattle.std.proofs.Common.{None}
use Rattle.waff_model.specs.declared.limits.TheConstants.{MAX_AFFINITIES}
use Rattle.waff_order.proofs.LowestLemmas.{none_noted, refined_agree, agreed_refine}
use Rattle.waff_order.proofs.refinement.refines.Goals as goal

pub note_messages-requires-clause-none : goal.note_messages-requires-clause-none
note_messages-requires-clause-none c = λ a. none_noted None c.len.result MAX_AFFINITIES a

pub returns-then-note_messages : goal.returns-then-note_messages
returns-then-note_messages c =
    let are = c.note_messages.ensures.lowests c.if-note_messages.true in (
      λ t. agreed_refine c.args.assigned.now c.args.coarse_tree.now c.args.coarse_assigned.now c.args.tree.now c.note_messages.new.lowests
          c.len.ensures.tree c.requires.known c.requires.unlocked c.requires.coarse_known c.requires.coarse_unlocked c.requires.lengths are
          (c.agree.ensures.agree t),
      λ refines. c.agree.ensures.all (λ is_coarse.
          refined_agree c.args.assigned.now c.args.coarse_tree.now c.args.coarse_assigned.now c.args.tree.now is_coarse c.requires.coarse_known
          c.requires.coarse_unlocked c.requires.lengths refines c.note_messages.new.lowests are),
    )
