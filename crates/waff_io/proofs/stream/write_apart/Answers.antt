use Rattle.std.proofs.Common.{ℕ, List, [], ap, sym, subst, ◌∙◌, drop, ◌+◌, take, slice_index_or, Bor}
use Rattle.std.proofs.lemmas.List.{take_all}
use Rattle.std.specs.Io.KnownBytes.{Appends}
use Rattle.waff_io.specs.Writing.{AppendsPart}
use Rattle.waff_io.proofs.KnownBytesLemmas.{Appends-append, Appends-none, AppendsPart-append}
use Rattle.waff_io.proofs.Pieces.{text_at, text_further, text_of}
use Rattle.waff_io.proofs.stream.write_apart.Goals as goal

abbrev none : Bor (List ℕ)
none = record { ref_ptr = (0, 0); now = [] }

pub loop-piece-init : goal.loop-piece-init
loop-piece-init g c = Appends-none (g.S.ErrorStream.holds c.args.stream.now)

pub returns-in-Err : goal.returns-in-Err
returns-in-Err g c =
    let pieces = c.args.pieces.now in
    let n = c.loop-piece.piece-index in
    let first = g.S.ErrorStream.holds c.args.stream.now in
    let last = g.S.ErrorStream.holds c.write_text.new.self in
    let part = subst (AppendsPart (g.S.ErrorStream.holds c.loop-piece.stream) last) c.as_bytes.ensures.value c.in-Err.ensures.0 in (
      subst (AppendsPart first last) (sym (text_at pieces n none c.loop-piece-test.true))
          (AppendsPart-append first (g.S.ErrorStream.holds c.loop-piece.stream) last (text_of (take n pieces)) (slice_index_or pieces n none).now
          (text_of (drop (n + 1) pieces)) c.loop-piece.invariant part),
      c.in-Err.ensures.1,
    )

pub loop-piece-preserved : goal.loop-piece-preserved
loop-piece-preserved g c =
    let pieces = c.args.pieces.now in
    let n = c.loop-piece.piece-index in
    let first = g.S.ErrorStream.holds c.args.stream.now in
    let last = g.S.ErrorStream.holds c.write_text.new.self in
    subst (Appends first last) (sym (text_further pieces n none c.loop-piece-test.true))
    (Appends-append first (g.S.ErrorStream.holds c.loop-piece.stream) last (text_of (take n pieces)) (slice_index_or pieces n none).now
    c.loop-piece.invariant (subst (Appends (g.S.ErrorStream.holds c.loop-piece.stream) last) c.as_bytes.ensures.value c.in-Ok.ensures))

pub returns : goal.returns
returns g c =
    subst (λ done. Appends (g.S.ErrorStream.holds c.args.stream.now) (g.S.ErrorStream.holds c.loop-piece.stream) (text_of done))
    (take_all c.loop-piece.piece-index c.args.pieces.now c.loop-piece-test.false) c.loop-piece.invariant
