use Rattle.std.proofs.Common.{◌≡◌, ◌<◌, true, length, get_or, nat_lt, slice_index, string_bytes, sym, subst, ◌∙◌, ap, arith}
use Rattle.std.specs.Prelude.{if◌then◌else◌, codes}
use Rattle.std.proofs.lemmas.Bool.{lt-ltb}
use Rattle.std.proofs.lemmas.List.{get_or-map, length-map}
use Rattle.waff_run.specs.Files.{file_name, numbers_of}
use Rattle.waff_run.specs.Same.{IsFirstOfTwo}
use Rattle.waff_run.specs.declared.opening.CellFile.{CellFile}
use Rattle.waff_run.proofs.opening.found_apart.Goals as goal

pub returns-in-Some-clause-refused : goal.returns-in-Some-clause-refused
returns-in-Some-clause-refused c =
    let spaces = c.args.layout.now.spaces in
    let placing = c.args.places.now in
    let files = c.args.files.now in
    let at = c.in-Some.at in
    let file = c.index-files-at.result in
    let within : at < length files = c.if-at-files.true in
    let count : length (numbers_of files) ≡ length files = length-map files (λ (file : CellFile). file.number) in
    let number : slice_index (numbers_of files) at ≡ (get_or files at file).number
    = get_or-map (λ (file : CellFile). file.number) files at file 0 within in
    let below : nat_lt at (length (numbers_of files)) ≡ true = lt-ltb at (length (numbers_of files)) (omega (arith, within, count)) in
    let named : string_bytes c.in_ok-name-in-Some.name ≡ file_name spaces placing (get_or files at file).number
    = c.in_ok-name-in-Some.ensures in
    record {
      found = c.in_ok-found.found.items;
      count = omega (arith, c.in_ok-found.ensures, count);
      at = at;
      two = subst (λ first. IsFirstOfTwo c.in_ok-found.found.items first) c.in-Some.is
          (subst (λ files. IsFirstOfTwo files c.in_ok-at.field-0) c.as_slice.ensures.value c.in_ok-at.ensures);
      is = named ∙ ap (file_name spaces placing) (sym number)
          ∙ sym (ap (λ b. if b then file_name spaces placing (slice_index (numbers_of files) at) else codes "trace") below);
    }

pub returns-clause-none : goal.returns-clause-none
returns-clause-none c =
    subst (λ first. IsFirstOfTwo c.in_ok-found.found.items first) c.in-None.is
    (subst (λ files. IsFirstOfTwo files c.in_ok-at.field-0) c.as_slice.ensures.value c.in_ok-at.ensures)
