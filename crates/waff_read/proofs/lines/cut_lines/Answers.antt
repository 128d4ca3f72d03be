-- The line feed that was found cuts the text between its records.
use Rattle.std.proofs.Common.{sym}
use Rattle.waff_read.proofs.LineLaws.{cut_behind_feed}
use Rattle.waff_read.proofs.lines.cut_lines.Goals as goal

pub returns-clause-records : goal.returns-clause-records
returns-clause-records c =
    rw (c.split_at.ensures.front, c.split_at.ensures.back)
    (cut_behind_feed c.args.text.now c.in_ok-feed.feed c.in_ok-feed.ensures.within c.in_ok-feed.ensures.here
    (rw c.split_at.ensures.front at (sym c.if-contains.ensures.value)) (rw c.split_at.ensures.back at (sym c.if-begins_as_mark.ensures)))
