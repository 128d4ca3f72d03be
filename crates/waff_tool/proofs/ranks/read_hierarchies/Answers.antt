use Rattle.std.proofs.Common.{◌≡◌, ◌≢◌, ℕ, ◌+◌, ◌++◌, List, None, IfSome, drop, length, take, arith, sym, ◌∙◌, ap, subst}
use Rattle.std.proofs.Math.Seq.{take-append_seam}
use Rattle.std.proofs.lemmas.Result.{IfErr-weaker, IfOk-weaker}
use Rattle.waff_inputs.specs.declared.fault.ToolError.TheVariants as tool
use Rattle.waff_tool.specs.Ranks.{AreRead, AreReadings, IsReading, RefusesRank, file_at}
use Rattle.waff_tool.proofs.RankLemmas.{bytes_length, bytes_of}
use Rattle.waff_tool.proofs.ranks.read_hierarchies.Given as given
use Rattle.waff_tool.proofs.ranks.read_hierarchies.Goals as goal

-- what the files are read as
read_as : (g : given.Over) (c : goal.After-in_order g)
    → AreReadings (bytes_of c.args.files.now)
    (take c.in_ok-slots.slots.len (c.for_each_mut.new.s ++ drop (length c.for_each_mut.new.s) c.in_ok-slots.slots.items))
read_as g c =
    let files = bytes_of c.args.files.now in
    let made = c.for_each_mut.new.s in
    let kept = c.for_each_mut.auto.s in
    let rest = drop (length made) c.in_ok-slots.slots.items in
    let count : length made ≡ length c.in_ok-slots.slots.items = omega (arith, kept, ap length c.as_mut_slice.ensures.value) in
    let long : c.in_ok-slots.slots.len ≡ length made = omega (arith, kept, c.as_mut_slice.ensures.len) in
    let same : take c.in_ok-slots.slots.len (made ++ rest) ≡ made = ap (λ n. take n (made ++ rest)) long ∙ take-append_seam made rest in
    subst (AreReadings files) (sym same)
    (record {
      count = omega (arith, count, c.in_ok-slots.ensures, bytes_length c.args.files.now);
      each = λ at inside.
          let change = (c.for_each_mut.ensures at None (omega (arith, kept, inside))).1 in
          subst (λ slot. IfSome slot (IsReading (at + 1) (file_at files at))) change.left change.call;
    })

pub returns-clause-read : goal.returns-clause-read
returns-clause-read g c =
    IfOk-weaker c.in_order.result _ (λ layouts. AreRead (bytes_of c.args.files.now) layouts.items)
    (λ layouts read. read (bytes_of c.args.files.now) (read_as g c)) c.in_order.ensures.read

pub returns-clause-refused : goal.returns-clause-refused
returns-clause-refused g c =
    IfErr-weaker c.in_order.result _ (λ e. (trace_file : List ℕ) → RefusesRank (bytes_of c.args.files.now) trace_file e)
    (λ e refused. refused (bytes_of c.args.files.now) (read_as g c)) c.in_order.ensures.refused

pub returns-clause-nothing : goal.returns-clause-nothing
returns-clause-nothing g c =
    IfErr-weaker c.in_order.result _ (λ e. e ≢ tool.Write)
    (λ e unwritten. unwritten (bytes_of c.args.files.now) (read_as g c)) c.in_order.ensures.nothing
