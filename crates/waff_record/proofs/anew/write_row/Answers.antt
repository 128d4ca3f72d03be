use Rattle.std.proofs.Common.{◌≡◌, ◌∷◌, ◌∙◌, OnOk, Result, Ok, Err, sym, subst}
use Rattle.waff_record.specs.Writing.{Completes, row_with}
use Rattle.waff_record.proofs.Writing.{more_written}
use Rattle.waff_record.proofs.anew.write_row.Goals as goal
use Rattle.waff_record.proofs.anew.write_row.Goals.{in-V1, in-V2, in-V3, in-V4}

-- what holds where there is a value
where_ok : {A E P : Type 0} (result : Result A E) (a : A) → result ≡ Ok a → OnOk result P → P
where_ok (Ok b) a is p = p
where_ok (Err e) a is p = absurd (cc)

pub returns-in-Ok : goal.returns-in-Ok
returns-in-Ok c = elim c.match-version.branch [
  | in-V1 w ↦ λ rows whole before.
      let is = sym w.written-is ∙ c.in-Ok.is in
      let wrote = w.write_fields-written in
      subst (λ out. Completes out rows whole) (sym w.text-is)
      (more_written c.args.text.now wrote.new.self _ (where_ok wrote.result _ is wrote.ensures.bytes) (where_ok wrote.result _ is wrote.ensures.ended)
      (where_ok wrote.result _ is wrote.ensures.clean) (where_ok wrote.result _ is wrote.ensures.setup) rows whole
      (subst (λ v. Completes c.args.text.now (row_with v c.args.fields.now ∷ rows) whole) w.in-V1.is before))
  | in-V2 w ↦ λ rows whole before.
      let is = sym w.written-is ∙ c.in-Ok.is in
      let wrote = w.write_fields-written-in-V2 in
      subst (λ out. Completes out rows whole) (sym w.text-is)
      (more_written c.args.text.now wrote.new.self _ (where_ok wrote.result _ is wrote.ensures.bytes) (where_ok wrote.result _ is wrote.ensures.ended)
      (where_ok wrote.result _ is wrote.ensures.clean) (where_ok wrote.result _ is wrote.ensures.setup) rows whole
      (subst (λ v. Completes c.args.text.now (row_with v c.args.fields.now ∷ rows) whole) w.in-V2.is before))
  | in-V3 w ↦ λ rows whole before.
      let is = sym w.written-is ∙ c.in-Ok.is in
      let wrote = w.write_fields-written-in-V3 in
      subst (λ out. Completes out rows whole) (sym w.text-is)
      (more_written c.args.text.now wrote.new.self _ (where_ok wrote.result _ is wrote.ensures.bytes) (where_ok wrote.result _ is wrote.ensures.ended)
      (where_ok wrote.result _ is wrote.ensures.clean) (where_ok wrote.result _ is wrote.ensures.setup) rows whole
      (subst (λ v. Completes c.args.text.now (row_with v c.args.fields.now ∷ rows) whole) w.in-V3.is before))
  | in-V4 w ↦ λ rows whole before.
      let is = sym w.written-is ∙ c.in-Ok.is in
      let wrote = w.write_fields-written-in-V4 in
      subst (λ out. Completes out rows whole) (sym w.text-is)
      (more_written c.args.text.now wrote.new.self _ (where_ok wrote.result _ is wrote.ensures.bytes) (where_ok wrote.result _ is wrote.ensures.ended)
      (where_ok wrote.result _ is wrote.ensures.clean) (where_ok wrote.result _ is wrote.ensures.setup) rows whole
      (subst (λ v. Completes c.args.text.now (row_with v c.args.fields.now ∷ rows) whole) w.in-V4.is before))
]
