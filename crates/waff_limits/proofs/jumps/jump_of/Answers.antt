use Rattle.std.proofs.Common.{◌≡◌, ◌<◌, Some, arith, sym}
use Rattle.waff_model.specs.Tree.{parent_of}
use Rattle.waff_model.proofs.TreeLemmas.{above_child, transitive}
use Rattle.waff_limits.specs.Jumps.{IsJump, jump_at}
use Rattle.waff_limits.proofs.jumps.jump_of.Goals as goal

pub returns-then-one-two : goal.returns-then-one-two
returns-then-one-two c =
    let tree = c.args.tree.now in
    let jumps = c.args.jumps.now in
    let affinity = c.args.affinity.0 in
    let parent = c.in-Some.parent.0 in
    let is : parent_of tree affinity ≡ Some parent = sym c.in-Some.ensures in
    let up : parent < affinity = c.len.ensures.tree.rooted.earlier affinity parent is in
    let first : IsJump tree (jump_at jumps parent) parent = c.requires.before.each parent up in
    let one = jump_at jumps parent in
    let second : IsJump tree (jump_at jumps one.to) one.to = c.requires.before.each one.to (omega (arith, first.steps, up)) in
    let two = jump_at jumps one.to in
    record {
      above = transitive tree two.to one.to affinity second.above (above_child tree one.to affinity parent is first.above);
      steps = omega (arith, first.steps, second.steps, up);
    }
