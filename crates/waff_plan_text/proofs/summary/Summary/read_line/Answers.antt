-- What each line gives, or where it stops.
use Rattle.std.proofs.lemmas.Result.{err_from_is_err_and}
use Rattle.csv.specs.Records.{fields_of}
use Rattle.waff_plan_text.specs.declared.table.Line.TheVariants.{Bound, Chain, Cost, Length, Release, Total, Workers}
use Rattle.waff_plan_text.proofs.TableLaws.{line_read, line_stops}
use Rattle.waff_plan_text.proofs.summary.Summary.read_line.Goals as goal

pub returns-in_err-self-inside-in-Workers-clause-value : goal.returns-in_err-self-inside-in-Workers-clause-value
returns-in_err-self-inside-in-Workers-clause-value c =
    let p = err_from_is_err_and c.from_residual.result c.from_residual.ensures.1 in
    rw (p.1, p.2, c.in-Workers.is) (line_stops c.args.messages Workers (fields_of c.args.row.now) c.args.self.now _ c.in_err-self-inside-in-Workers.ensures.value)

pub returns-in_err-self-inside-in-Total-clause-value : goal.returns-in_err-self-inside-in-Total-clause-value
returns-in_err-self-inside-in-Total-clause-value c =
    let p = err_from_is_err_and c.from_residual-in_err-self-inside-in-Total.result c.from_residual-in_err-self-inside-in-Total.ensures.1 in
    rw (p.1, p.2, c.in-Total.is) (line_stops c.args.messages Total (fields_of c.args.row.now) c.args.self.now _ (rw (c.name.ensures, c.in-Total.is) at c.in_err-self-inside-in-Total.ensures))

pub returns-in_err-self-inside-in-Length-clause-value : goal.returns-in_err-self-inside-in-Length-clause-value
returns-in_err-self-inside-in-Length-clause-value c =
    let p = err_from_is_err_and c.from_residual-in_err-self-inside-in-Length.result c.from_residual-in_err-self-inside-in-Length.ensures.1 in
    rw (p.1, p.2, c.in-Length.is) (line_stops c.args.messages Length (fields_of c.args.row.now) c.args.self.now _ (rw (c.name-in-Length.ensures, c.in-Length.is) at c.in_err-self-inside-in-Length.ensures))

pub returns-in_err-self-inside-in-Chain-clause-value : goal.returns-in_err-self-inside-in-Chain-clause-value
returns-in_err-self-inside-in-Chain-clause-value c =
    let p = err_from_is_err_and c.from_residual-in_err-self-inside-in-Chain.result c.from_residual-in_err-self-inside-in-Chain.ensures.1 in
    rw (p.1, p.2, c.in-Chain.is) (line_stops c.args.messages Chain (fields_of c.args.row.now) c.args.self.now _ c.in_err-self-inside-in-Chain.ensures.value)

pub returns-in_err-self-inside-in-Release-clause-value : goal.returns-in_err-self-inside-in-Release-clause-value
returns-in_err-self-inside-in-Release-clause-value c =
    let p = err_from_is_err_and c.from_residual-in_err-self-inside-in-Release.result c.from_residual-in_err-self-inside-in-Release.ensures.1 in
    rw (p.1, p.2, c.in-Release.is) (line_stops c.args.messages Release (fields_of c.args.row.now) c.args.self.now _ (rw (c.name-in-Release.ensures, c.in-Release.is) at c.in_err-self-inside-in-Release.ensures))

pub returns-in_err-self-inside-in-Cost-clause-value : goal.returns-in_err-self-inside-in-Cost-clause-value
returns-in_err-self-inside-in-Cost-clause-value c =
    let p = err_from_is_err_and c.from_residual-in_err-self-inside-in-Cost.result c.from_residual-in_err-self-inside-in-Cost.ensures.1 in
    rw (p.1, p.2, c.in-Cost.is) (line_stops c.args.messages Cost (fields_of c.args.row.now) c.args.self.now _ (rw (c.name-in-Cost.ensures, c.in-Cost.is) at c.in_err-self-inside-in-Cost.ensures))

pub returns-in_err-left-in-Bound-clause-value : goal.returns-in_err-left-in-Bound-clause-value
returns-in_err-left-in-Bound-clause-value c =
    let p = err_from_is_err_and c.from_residual-in_err-left-in-Bound.result c.from_residual-in_err-left-in-Bound.ensures.1 in
    rw (p.1, p.2, c.in-Bound.is) (line_stops c.args.messages Bound (fields_of c.args.row.now) c.args.self.now _ c.in_err-left-in-Bound.ensures)

pub returns-in_ok-self-inside-in-Workers-clause-value : goal.returns-in_ok-self-inside-in-Workers-clause-value
returns-in_ok-self-inside-in-Workers-clause-value c =
    rw (c.in-Workers.is, ← c.self.view_is) (line_read c.args.messages Workers (fields_of c.args.row.now) (record { workers = c.self.inside.workers; chain = c.self.inside.chain.items; totals = c.self.inside.totals }) _ c.in_ok-self-inside-in-Workers.ensures.value)

pub returns-in_ok-self-inside-in-Total-clause-value : goal.returns-in_ok-self-inside-in-Total-clause-value
returns-in_ok-self-inside-in-Total-clause-value c =
    rw (c.in-Total.is, ← c.self.view_is) (line_read c.args.messages Total (fields_of c.args.row.now) (record { workers = c.self.inside.workers; chain = c.self.inside.chain.items; totals = c.self.inside.totals }) _ (rw (c.name.ensures, c.in-Total.is) at c.in_ok-self-inside-in-Total.ensures))

pub returns-in_ok-self-inside-in-Length-clause-value : goal.returns-in_ok-self-inside-in-Length-clause-value
returns-in_ok-self-inside-in-Length-clause-value c =
    rw (c.in-Length.is, ← c.self.view_is) (line_read c.args.messages Length (fields_of c.args.row.now) (record { workers = c.self.inside.workers; chain = c.self.inside.chain.items; totals = c.self.inside.totals }) _ (rw (c.name-in-Length.ensures, c.in-Length.is) at c.in_ok-self-inside-in-Length.ensures))

pub returns-in_ok-self-inside-in-Chain-clause-value : goal.returns-in_ok-self-inside-in-Chain-clause-value
returns-in_ok-self-inside-in-Chain-clause-value c =
    rw (c.in-Chain.is, ← c.self.view_is) (line_read c.args.messages Chain (fields_of c.args.row.now) (record { workers = c.self.inside.workers; chain = c.self.inside.chain.items; totals = c.self.inside.totals }) _ c.in_ok-self-inside-in-Chain.ensures.value)

pub returns-in_ok-self-inside-in-Release-clause-value : goal.returns-in_ok-self-inside-in-Release-clause-value
returns-in_ok-self-inside-in-Release-clause-value c =
    rw (c.in-Release.is, ← c.self.view_is) (line_read c.args.messages Release (fields_of c.args.row.now) (record { workers = c.self.inside.workers; chain = c.self.inside.chain.items; totals = c.self.inside.totals }) _ (rw (c.name-in-Release.ensures, c.in-Release.is) at c.in_ok-self-inside-in-Release.ensures))

pub returns-in_ok-self-inside-in-Cost-clause-value : goal.returns-in_ok-self-inside-in-Cost-clause-value
returns-in_ok-self-inside-in-Cost-clause-value c =
    rw (c.in-Cost.is, ← c.self.view_is) (line_read c.args.messages Cost (fields_of c.args.row.now) (record { workers = c.self.inside.workers; chain = c.self.inside.chain.items; totals = c.self.inside.totals }) _ (rw (c.name-in-Cost.ensures, c.in-Cost.is) at c.in_ok-self-inside-in-Cost.ensures))

pub returns-in_ok-left-in-Bound-clause-value : goal.returns-in_ok-left-in-Bound-clause-value
returns-in_ok-left-in-Bound-clause-value c =
    rw (c.in-Bound.is, ← c.self.view_is) (line_read c.args.messages Bound (fields_of c.args.row.now) (record { workers = c.self.inside.workers; chain = c.self.inside.chain.items; totals = c.self.inside.totals }) _ c.in_ok-left-in-Bound.ensures)
