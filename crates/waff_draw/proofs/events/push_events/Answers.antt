use Rattle.std.proofs.Common.{◌≡◌, ℕ, ◌-◌, ◌++◌, flat_map, string_bytes, sym, ◌∙◌, ap, arith}
use Rattle.std.specs.List.{range_with_len}
use Rattle.std.proofs.lemmas.List.{append-nil}
use Rattle.waff_draw.specs.Events.{event_at, event_in, event_where}
use Rattle.waff_draw.specs.Kinds.{process_of, shown_row}
use Rattle.waff_draw.specs.Scene.{work_of_scene}
use Rattle.waff_draw.proofs.TextLemmas.{more_numbers}
use Rattle.waff_draw.proofs.events.push_events.Goals as goal
use Rattle.waff_draw.proofs.events.push_events.Goals.{in-Some+in_ok-push_event, in_default}

pub loop-n-preserved : goal.loop-n-preserved
loop-n-preserved c =
    let scene = c.args.chart.now in
    let n = c.loop-n.n in
    let process = process_of c.args.kind in
    let place = shown_row scene c.args.kind n in
    let before = string_bytes c.loop-n.text in
    let now : string_bytes c.match-shown_row.text ≡ before ++ event_where scene process n place
    = elim c.match-shown_row.branch [
      | in-Some+in_ok-push_event w ↦
          let event : w.event_of-event.result ≡ event_at scene process w.in-Some.row n
          = w.event_of-event.ensures ∙ ap (λ p. event_at scene p w.in-Some.row n) w.process_of.ensures in
          let one : string_bytes w.push_event.new.text ≡ before ++ event_in scene process w.in-Some.row n
          = rw event at w.in_ok-push_event.ensures in
          ap (λ t. string_bytes t) w.text-is ∙ one
          ∙ ap (λ r. before ++ event_where scene process n r) (sym w.in-Some.is ∙ c.shown_row.ensures)
      | in_default w ↦
          ap (λ t. string_bytes t) w.text-is ∙ sym (append-nil before)
          ∙ ap (λ r. before ++ event_where scene process n r) (sym w.in_default.is ∙ c.shown_row.ensures)
    ] in
    more_numbers (λ (m : ℕ). event_where scene process m (shown_row scene c.args.kind m)) n (string_bytes c.args.text.now) before (string_bytes c.match-shown_row.text)
    c.loop-n.auto.n c.loop-n.invariant now

pub returns : goal.returns
returns c =
    let scene = c.args.chart.now in
    let before = string_bytes c.args.text.now in
    let all : c.loop-n.n - 1 ≡ (work_of_scene scene).count
    = omega (arith, c.loop-n-test.false, c.loop-n.auto.n-end, c.len-n-end.ensures.count) in
    c.loop-n.invariant
    ∙ ap (λ k. before ++ flat_map (λ (m : ℕ). event_where scene (process_of c.args.kind) m (shown_row scene c.args.kind m)) (range_with_len 1 k)) all
