-- What is read is within the limits.
use Rattle.std.proofs.Common.{◌≡◌, ℕ, ◌+◌, ◌≤◌, List, [], ◌∷◌, ◌++◌, length, drop, map, Option, Some, None, Result, Ok, Err, codes, refl, subst, arith, length-append}
use Rattle.toml.specs.Data.{Data}
use Rattle.waff_parse.specs.Refusals.{◌>>=◌}
use Rattle.waff_parse.specs.Rows.{Record, records_of}
use Rattle.waff_model.specs.Tree.{Node, IsTree}
use Rattle.waff_model.specs.Layout.{Hierarchy, IsLayout, Space}
use Rattle.waff_model.specs.LayoutOf as model
use Rattle.waff_model.specs.LayoutRefusal.{layout_refusal}
use Rattle.waff_model.specs.Messages.{Arrivals, IsTrace, sizes_of}
use Rattle.waff_model.specs.declared.format.Format.{Format}
use Rattle.waff_model.specs.declared.kind.Kind.{Kind}
use Rattle.waff_model.specs.declared.layout_rows.SpaceSpec.{SpaceSpec}
use Rattle.waff_model.specs.declared.layout_rows.MapSpec.{MapSpec}
use Rattle.waff_model.specs.declared.layout_rows.LayoutError.{LayoutError}
use Rattle.waff_model.specs.declared.message.Message.{Message}
use Rattle.waff_model.specs.declared.message.Version.{Version}
use Rattle.waff_model.specs.declared.tree.TreeError.{TreeError}
use Rattle.waff_model.proofs.LayoutLemmas.{is_layout}
use Rattle.waff_read.specs.Affinities.{node_in, row_refusal, tree_from, tree_of}
use Rattle.waff_read.specs.Checks.{passed}
use Rattle.waff_read.specs.Documents.{rows_at}
use Rattle.waff_read.specs.Formats.{format_of}
use Rattle.waff_read.specs.Limits.{LayoutIsWithinLimits, TraceIsWithinLimits}
use Rattle.waff_read.specs.Places.{first_place}
use Rattle.waff_read.specs.Spaces.{space_of, map_of}
use Rattle.waff_read.specs.Traces.{header_of, messages_at, trace_of_records, trace_of_rows}
use Rattle.waff_read.specs.declared.trace_fault.TraceError.{TraceError}
use Rattle.waff_read.proofs.HierarchyLaws.{hierarchy_is_exact, rooted-tree_of}
use Rattle.waff_read.proofs.TraceLaws.{awaited-few, lists-read, messages-few, messages-fit, ops-few}

-- a tree has an affinity for each row that was read
longer-tree_from : (format : Format) (tree : List Node) (rows : List Data) (read : List Node) → tree_from format tree rows ≡ Ok read → length tree + length rows ≤ length read
unfolding tree_from
longer-tree_from format tree [] read done = let same : tree ≡ read = cc in rw (← same) (omega arith)
longer-tree_from format tree (row ∷ more) read done =
    by (row_refusal format tree row) done (longer-tree_from format (tree ++ node_in tree row ∷ []) more read)
  where
    by : (check : Option TreeError) → (passed check >>= (λ _. tree_from format (tree ++ node_in tree row ∷ []) more)) ≡ Ok read
        → (tree_from format (tree ++ node_in tree row ∷ []) more ≡ Ok read → length (tree ++ node_in tree row ∷ []) + length more ≤ length read)
        → length tree + length (row ∷ more) ≤ length read
    by None done rest = let grown = rest done in omega (arith, grown, length-append tree (node_in tree row ∷ []))
    by (Some e) done rest = absurd (cc)

is_tree-tree_of : (format : Format) (rows : List Data) (read : List Node) → tree_of format rows ≡ Ok read → IsTree read
is_tree-tree_of format [] read done = absurd (cc)
is_tree-tree_of format (row ∷ more) read done = record {
  rooted = rooted-tree_of format (row ∷ more) read done;
  filled = let longer = longer-tree_from format [] (row ∷ more) read done in omega (arith, longer);
}

is_layout-layout_of : (format : Format) (kind : Kind) (tree : List Node) (spaces : List SpaceSpec) (maps : List MapSpec) (layout : Hierarchy) → IsTree tree
    → model.layout_of format kind tree spaces maps ≡ Ok layout → IsLayout layout
is_layout-layout_of format kind tree spaces maps layout is_tree h = by (layout_refusal format tree spaces maps) refl
  where
    by : (o : Option LayoutError) → layout_refusal format tree spaces maps ≡ o → IsLayout layout
    by None is =
        let made = rw is at h in
        let same : model.hierarchy_of format kind tree spaces maps ≡ layout = cc in
        subst IsLayout same (is_layout format kind tree spaces maps is_tree is)
    by (Some e) is = let made = rw is at h in absurd (cc)

pub layout_is_within_limits : (bytes : List ℕ) (layout : Hierarchy) → LayoutIsWithinLimits bytes layout
layout_is_within_limits bytes layout read =
    let d = (hierarchy_is_exact bytes layout).0 read in
    is_layout-layout_of (format_of d.document) d.kind d.tree (map (space_of (format_of d.document)) (rows_at (codes "space") d.document)) (map map_of (rows_at (codes "map") d.document)) layout
    (is_tree-tree_of (format_of d.document) (rows_at (codes "affinity") d.document) d.tree d.is_tree) d.is_layout

-- messages that are read are within the limits, and so are their lists, their number and those of their operations and of what they await
messages-within : (version : Version) (spaces : List Space) (rows : List Record) (messages : List Message) → messages_at version spaces first_place rows ≡ Ok messages
    → IsTrace (record { version = version; sizes = sizes_of spaces; messages = messages })
messages-within version spaces rows messages read = record {
  messages = messages-fit version spaces first_place rows messages read;
  few = omega (arith, messages-few version spaces first_place rows messages read (omega arith));
  few_ops = omega (arith, ops-few version spaces first_place rows messages read (omega arith));
  lists = lists-read version spaces first_place rows messages read (omega arith);
  few_awaited = omega (arith, awaited-few version spaces first_place rows messages read (omega arith));
}

records-within : (newest : Version) (spaces : List Space) (rows : List Record) (trace : Arrivals) → trace_of_records newest spaces rows ≡ Ok trace → IsTrace trace
unfolding trace_of_records
records-within newest spaces rows trace h = by (header_of newest rows) h
  where
    messages : (version : Version) (r : Result (List Message) TraceError) → messages_at version spaces first_place (drop 1 rows) ≡ r
        → ◌≡◌ {A = Result Arrivals TraceError} (r >>= (λ ms. Ok (record { version = version; sizes = sizes_of spaces; messages = ms }))) (Ok trace)
        → IsTrace trace
    messages version (Ok ms) read same =
        let whole : ◌≡◌ {A = Arrivals} (record { version = version; sizes = sizes_of spaces; messages = ms }) trace = cc in
        rw (← whole) (messages-within version spaces (drop 1 rows) ms read)
    messages version (Err d) read same = absurd (cc)

    by : (r : Result Version TraceError) → (r >>= (λ version. trace_of_rows version spaces (drop 1 rows))) ≡ Ok trace → IsTrace trace
    by (Ok version) same = messages version (messages_at version spaces first_place (drop 1 rows)) refl same
    by (Err d) same = absurd (cc)

pub trace_is_within_limits : (newest : Version) (spaces : List Space) (bytes : List ℕ) (trace : Arrivals) → TraceIsWithinLimits newest spaces bytes trace
trace_is_within_limits newest spaces bytes trace read = records-within newest spaces (records_of bytes) trace read
