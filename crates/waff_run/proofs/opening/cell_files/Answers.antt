use Rattle.std.proofs.Common.{◌≡◌, ◌+◌, ◌<◌, ◌≤◌, length, slice_index, sym, subst, ◌∙◌, ap, arith}
use Rattle.std.proofs.lemmas.List.{get_or_default}
use Rattle.waff_run.specs.Files.{numbers_of}
use Rattle.waff_run.specs.Named.{IsEnd, cells_named}
use Rattle.waff_run.proofs.Filing.{AreFilesBelow, no_more, none_below, numbers_more, one_more}
use Rattle.waff_run.proofs.opening.cell_files.Goals.{then-bytes-gt0+in_ok-name+in_ok-path+in_ok-push, else-bytes-gt0}
use Rattle.waff_run.proofs.opening.cell_files.Goals as goal

pub loop-number-init : goal.loop-number-init
loop-number-init c =
    let cells = cells_named c.args.trace.now.messages in
    subst (λ files. AreFilesBelow c.args.places.now cells 0 (numbers_of files)) (sym c.new-files.ensures.items) (none_below c.args.places.now cells)

pub loop-number-preserved : goal.loop-number-preserved
loop-number-preserved c =
    let placing = c.args.places.now in
    let cells = cells_named c.args.trace.now.messages in
    let number = c.loop-number.number in
    let ends = c.in_ok-ends.ends.items in
    let within : number < length ends = omega (arith, c.loop-number-test.true, c.len-number-end.ensures) in
    let end : IsEnd placing cells number (slice_index ends number) = c.in_ok-ends.ensures.each number within in
    let is : slice_index ends number ≡ c.index-bytes.result.now
    = get_or_default ends number 0 c.index-bytes.result.now within ∙ sym c.index-bytes.ensures in
    elim c.if-bytes-gt0.branch [
      | then-bytes-gt0+in_ok-name+in_ok-path+in_ok-push w ↦
          let more = ap numbers_of w.in_ok-push.ensures.items ∙ numbers_more c.loop-number.files.items _ in
          let some : 0 < slice_index ends number = omega (arith, is, w.if-bytes-gt0.true) in
          rw w.files-is (rw more (one_more placing cells (numbers_of c.loop-number.files.items) number (slice_index ends number) end c.loop-number.invariant some))
      | else-bytes-gt0 w ↦
          let none : slice_index ends number ≤ 0 = omega (arith, is, w.if-bytes-gt0.false) in
          rw w.files-is (no_more placing cells (numbers_of c.loop-number.files.items) number (slice_index ends number) end c.loop-number.invariant none)
    ]
