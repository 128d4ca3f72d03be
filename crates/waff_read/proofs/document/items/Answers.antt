use Rattle.std.proofs.Common.{refl}
use Rattle.waff_read.proofs.DocumentLemmas.{list_of-items_view}
use Rattle.waff_read.proofs.document.items.Goals as goal

pub returns-in-Some-as_array : goal.returns-in-Some-as_array
returns-in-Some-as_array c =
    rw (c.as_slice.ensures.value, ← list_of-items_view, ← c.in-Some.ensures, ← c.in-Some-as_array.ensures) refl
