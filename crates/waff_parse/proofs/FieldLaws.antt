-- Records of a known number of fields, by their places.
use Rattle.std.proofs.Common.{◌≡◌, [], ◌∷◌, length, Some, refl, arith}
use Rattle.csv.specs.Records.{field_at}
use Rattle.waff_parse.specs.Rows.{Record}
use Rattle.waff_parse.specs.Fields.{field_of, two_of, three_of, five_of}

pub two-some : (row : Record) → length row ≡ 2 → two_of row ≡ Some (field_of row 0, field_of row 1)
unfolding field_at
two-some (v ∷ w ∷ []) len = refl
two-some _ len = absurd (omega arith)

pub three-some : (row : Record) → length row ≡ 3 → three_of row ≡ Some (field_of row 0, field_of row 1, field_of row 2)
unfolding field_at
three-some (v ∷ w ∷ x ∷ []) len = refl
three-some _ len = absurd (omega arith)

pub five-some : (row : Record) → length row ≡ 5 → five_of row ≡ Some (field_of row 0, field_of row 1, field_of row 2, field_of row 3, field_of row 4)
unfolding field_at
five-some (v ∷ w ∷ x ∷ y ∷ z ∷ []) len = refl
five-some _ len = absurd (omega arith)
