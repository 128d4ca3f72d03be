-- A piece more is operations more, or a fault more.
use Rattle.std.proofs.Common.{List, ℕ, Bor, map, [], ◌∷◌, ◌++◌, ◌+◌, ◌∙◌, refl, sym, ap, arith, lit<, rules}
use Rattle.std.proofs.lemmas.Iterator.Consumers.{YieldsList-end}
use Rattle.std.proofs.lemmas.Iterator.Splits.{YieldsList-from_str_split}
use Rattle.std.proofs.lemmas.List.{length-take, map-append}
use Rattle.waff_parse.specs.Walks.{gather}
use Rattle.waff_read.specs.Pieces.{pieces_of}
use Rattle.waff_read.specs.Ranges.{ops_of_range, ops_on}
use Rattle.waff_read.proofs.OpsLaws.{kept-of-none, piece-op, so_far-fault, so_far-ops}
use Rattle.waff_read.proofs.ops.read_pieces.Goals as goal

-- a piece is read as it was yielded
abbrev now : Bor (List ℕ) → List ℕ
now piece = piece.now

pub loop-piece-init : goal.loop-piece-init
unfolding gather
loop-piece-init c = rw c.in_ok-list.ensures (record { read = kept-of-none c.args.most; few = omega arith })

pub loop-piece-preserved-in-Continue-branch-2 : goal.loop-piece-preserved-in-Continue-branch-2
loop-piece-preserved-in-Continue-branch-2 c =
    rw (map-append now c.loop-piece.yielded (c.in-Some.piece ∷ []), c.in_ok-keep-in-Ok.ensures)
    (record {
      read =
          so_far-ops c.args.version c.args.spaces.now c.args.most (map now c.loop-piece.yielded) c.in-Some.piece.now c.loop-piece.fault c.loop-piece.list c.loop-piece.invariant.read
          (c.in-Ok.op ∷ []) (piece-op c.args.version c.args.spaces.now c.in-Some.piece.now c.in-Ok.op (sym c.in-Ok.is ∙ c.read_op.ensures));
      few = omega (arith, length-take (c.args.most + 1) (c.loop-piece.list ++ c.in-Ok.op ∷ []));
    })

pub loop-piece-preserved-in-Continue-branch-3 : goal.loop-piece-preserved-in-Continue-branch-3
loop-piece-preserved-in-Continue-branch-3 c =
    rw (map-append now c.loop-piece.yielded (c.in-Some.piece ∷ []), c.in_ok-keep_range-in-Ok-range_or.ensures)
    (record {
      read =
          so_far-ops c.args.version c.args.spaces.now c.args.most (map now c.loop-piece.yielded) c.in-Some.piece.now c.loop-piece.fault c.loop-piece.list c.loop-piece.invariant.read
          (ops_on c.in-Ok-range_or.range) (sym (ap ops_of_range c.in-Ok-range_or.is) ∙ c.range_or.ensures);
      few = omega (arith, length-take (c.args.most + 1) (c.loop-piece.list ++ ops_on c.in-Ok-range_or.range));
    })

pub loop-piece-preserved : goal.loop-piece-preserved
loop-piece-preserved c = record {
  read =
      rw (map-append now c.loop-piece.yielded (c.in-Some.piece ∷ []), c.least_of.ensures)
      (so_far-fault c.args.version c.args.spaces.now c.args.most (map now c.loop-piece.yielded) c.in-Some.piece.now c.loop-piece.fault c.loop-piece.list c.loop-piece.invariant.read
      c.in-Err-range_or.e (sym (ap ops_of_range c.in-Err-range_or.is) ∙ c.range_or.ensures));
  few = c.loop-piece.invariant.few;
}

pub returns-in-Some-fault : goal.returns-in-Some-fault
unfolding pieces_of
returns-in-Some-fault c =
    let start = c.into_iter-piece-iterator.ensures.into_iter_gives in
    let split = c.split-piece-items.ensures in
    let whole = YieldsList-end (YieldsList-from_str_split {s = c.into_iter-piece-iterator.result} 59 c.args.text.now (lit< tt) (search rules) (search rules) (search rules))
    c.loop-piece.yielded _ c.loop-piece.yielded_by _ _ c.in-None.is c.next.ensures.steps in
    rw (← whole.0) (sym c.loop-piece.invariant.read ∙ rw c.in-Some-fault.is refl)

pub returns-in-None-fault : goal.returns-in-None-fault
unfolding pieces_of
returns-in-None-fault c =
    let start = c.into_iter-piece-iterator.ensures.into_iter_gives in
    let split = c.split-piece-items.ensures in
    let whole = YieldsList-end (YieldsList-from_str_split {s = c.into_iter-piece-iterator.result} 59 c.args.text.now (lit< tt) (search rules) (search rules) (search rules))
    c.loop-piece.yielded _ c.loop-piece.yielded_by _ _ c.in-None.is c.next.ensures.steps in
    rw (← whole.0) (sym c.loop-piece.invariant.read ∙ rw c.in-None-fault.is refl)
