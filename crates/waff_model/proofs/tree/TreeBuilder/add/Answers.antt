use Rattle.std.proofs.Common.{◌≡◌, None}
use Rattle.waff_model.specs.Tree.{Node}
use Rattle.waff_model.specs.TreeRefusal.{refusal_of}
use Rattle.waff_model.proofs.TreeLemmas.{rooted-push, fits_unless_refused}
use Rattle.waff_model.proofs.tree.TreeBuilder.add.Goals as goal
use Rattle.waff_model.proofs.tree.TreeBuilder.add.Goals.{in-Ok, in-Err}

pub invariant_of-self : goal.invariant_of-self
invariant_of-self c =
    let node : Node = record { name = c.args.name.now; parent = c.map-parent.result } in
    let none : refusal_of c.self.inside.nodes node ≡ None = cc in
    elim c.match-push.branch [
      | in-Ok w ↦ rw w.in-Ok.ensures.added
          (rooted-push c.self.inside.nodes node c.self.invariant (fits_unless_refused c.self.inside.nodes node none))
      | in-Err w ↦ rw w.in-Err.ensures.unchanged c.self.invariant
    ]
