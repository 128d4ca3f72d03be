use Rattle.std.proofs.Common.{◌≡◌, ◌≤◌, [], length, map, drop}
use Rattle.toml.specs.View.{view}
use Rattle.waff_model.specs.declared.limits.TheConstants.{MAX_AFFINITIES}
use Rattle.waff_read.specs.Affinities.{tree_from}
use Rattle.waff_read.proofs.affinities.add_rows.Given as goal

abbrev pub invariant-loop-row : goal.invariant-loop-row
invariant-loop-row l = record {
  names : l.names ≡ map (λ node. node.name) l.tree;
  few : length l.names ≤ MAX_AFFINITIES;
  tree : tree_from l.format l.tree (map view (drop l.row-index l.rows)) ≡ tree_from l.format [] (map view l.rows);
}
