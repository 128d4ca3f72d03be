-- The operations of a message, wherever they are kept.
use Rattle.std.specs.Prelude.{List, [], ◌∷◌, map}
use Rattle.waff_model.specs.declared.op.Op.{Op}
use Rattle.waff_model.specs.declared.ops.Kept.{Kept}
use Rattle.waff_model.specs.declared.ops.Kept.TheVariants.{One, Packed, Plain}
use Rattle.waff_model.specs.PackedOps.{op_of}

abbrev pub kept_ops : Kept → List Op
kept_ops (One packed) = op_of packed ∷ []
kept_ops (Packed list) = map op_of list.items
kept_ops (Plain list) = list.items
