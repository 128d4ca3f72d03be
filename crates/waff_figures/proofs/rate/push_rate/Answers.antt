use Rattle.std.proofs.Common.{◌≡◌, List, ℕ, ◌++◌, string_bytes, append_assoc, sym, ◌∙◌, ap}
use Rattle.std.proofs.lemmas.List.Concat.{flat_map-append}
use Rattle.std.proofs.lemmas.Result.{on_ok_weaker}
use Rattle.waff_plan_text.specs.Lines.{line_text, text_of}
use Rattle.waff_figures.specs.Rate.{quality_lines, size_lines, speed_lines}
use Rattle.waff_figures.proofs.rate.push_rate.Goals as goal

-- what stood before, lines, and lines behind them
lines_behind : (old one two : List ℕ) (a b : List (List (List ℕ))) → one ≡ old ++ text_of a → two ≡ one ++ text_of b → two ≡ old ++ text_of (a ++ b)
lines_behind old one two a b h k =
    k ∙ ap (λ bs. bs ++ text_of b) h ∙ append_assoc old (text_of a) (text_of b) ∙ ap (λ bs. old ++ bs) (sym (flat_map-append line_text a b))

pub returns : goal.returns
returns c =
    let figures = c.args.figures.now in
    let old = string_bytes c.args.text.now in
    let one = string_bytes c.push_sizes.new.text in
    let two = string_bytes c.push_speeds.new.text in
    let next = lines_behind old one two (size_lines figures) (speed_lines figures) c.in_ok-push_sizes.ensures c.in_ok-push_speeds.ensures in
    on_ok_weaker c.push_quality.result
    (λ done. lines_behind old two (string_bytes c.push_quality.new.text) (size_lines figures ++ speed_lines figures) (quality_lines figures) next done)
    c.push_quality.ensures
