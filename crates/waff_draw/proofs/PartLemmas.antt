-- What is shown of a message, and the lines of the axis.
use Rattle.std.proofs.Common.{◌≡◌, ◌↔◌, ℕ, ◌+◌, ◌-◌, ◌*◌, ◌/◌, ◌<◌, ◌≤◌, inl, inr, max, min, Bool, true, false, cond, List, [], ◌∷◌, Option, Some, None, IfSome, leb, arith, refl, sym, ◌∙◌, ap, subst}
use Rattle.std.proofs.lemmas.Bool.{cases_lt, leb-true}
use Rattle.std.proofs.Math.Nat.{add-mul, div-lt_iff_lt-mul, lt-div-mul-add, mul-le-mul_right}
use Rattle.waff_plan.proofs.Longest.{finish_of-le-length_of}
use Rattle.waff_draw.specs.Axis.{first_step, multiple_from, round_numbers, step_of}
use Rattle.waff_draw.specs.Laws.{HasLine, HasLines, IsOneOf, IsRound, ShowsAll, ShowsTicksInPart, whole_part}
use Rattle.waff_draw.specs.Parts.{end_from}
use Rattle.waff_draw.specs.Scene.{Scene, end_in, finish_in, from_in, length_in, span_in, start_in, work_of_scene}
use Rattle.waff_draw.specs.Svg.{line_in}

-- the ticks from a start for a cost, and those from one tick up to another
cut : (start cost from end t : ℕ)
    → IsOneOf (max start from) (min (start + cost) end - max start from) t
    ↔ (IsOneOf start cost t × IsOneOf from (end - from) t)
cut start cost from end t = grind arith

pub shows_ticks_in_part : (scene : Scene) → ShowsTicksInPart scene
shows_ticks_in_part scene n t = cut (start_in scene n) ((work_of_scene scene).cost n) (from_in scene) (end_in scene) t

uncut_start : (start from : ℕ) → from ≡ 0 → max start from ≡ start
uncut_start start from none = omega (arith, none)

uncut_ticks : (start cost from end : ℕ) → from ≡ 0 → start + cost ≤ end → min (start + cost) end - max start from ≡ cost
uncut_ticks start cost from end none within = omega (arith, none, within)

pub whole_shows_all : (scene : Scene) → scene.part ≡ whole_part → ShowsAll scene
whole_shows_all scene whole n number =
    let none : from_in scene ≡ 0 = ap (λ part. part.from) whole in
    let ends : end_in scene ≡ max (length_in scene) 1
    = ap (λ part. end_from (length_in scene) part.from part.to) whole in
    let finished : finish_in scene n ≤ length_in scene = finish_of-le-length_of (work_of_scene scene) (start_in scene) n number in
    let within : start_in scene n + (work_of_scene scene).cost n ≤ end_in scene = omega (arith, ends, finished) in (
      uncut_start (start_in scene n) (from_in scene) none,
      uncut_ticks (start_in scene n) ((work_of_scene scene).cost n) (from_in scene) (end_in scene) none within,
    )

-- ten steps reach the length
picked : (length step other : ℕ) (b : Bool) → leb length (10 * step) ≡ b → length ≤ 10 * other → length ≤ 10 * cond b step other
picked length step other true is rest = leb-true length (10 * step) is
picked length step other false is rest = rest

reaches : (length : ℕ) (steps : List ℕ) → length ≤ 10 * first_step length steps
reaches length [] = omega arith
reaches length (step ∷ steps) =
    picked length step (first_step length steps) (leb length (10 * step)) refl (reaches length steps)

-- the first multiple is not below the tick, and no multiple there comes before it
multiple_up : (step tick : ℕ) → 0 < step → tick ≤ multiple_from step tick
multiple_up step tick some =
    let over : tick + step - 1 < multiple_from step tick + step = lt-div-mul-add some in
    omega (arith, over, some)

multiple_first : (step tick k : ℕ) → 0 < step → tick ≤ k * step → (tick + step - 1) / step ≤ k
multiple_first step tick k some within =
    let sum : (k + 1) * step ≡ k * step + 1 * step = add-mul k 1 step in
    let below : tick + step - 1 < (k + 1) * step = omega (arith, sum, within, some) in
    let less : (tick + step - 1) / step < k + 1 = (div-lt_iff_lt-mul some).1 below in
    omega (arith, less)

-- so many steps fit where ten reach
few_steps : (i step span : ℕ) → 0 < step → i * step ≤ span → span ≤ 10 * step → i < 11
few_steps i step span some fit ten =
    elim (cases_lt i 11) [
      | inl low ↦ low
      | inr high ↦
          let eleven : 11 * step ≤ i * step = mul-le-mul_right step high in
          absurd (omega (arith, some, fit, ten, eleven))
    ]

-- a part that has a tick ends behind its first
ends_behind : (length from : ℕ) (to : Option ℕ) → IfSome to (λ end. from < end) → from < end_from length from to
ends_behind length from None some = omega arith
ends_behind length from (Some to) some = some

line_is_round : (scene : Scene) (tick : ℕ) → HasLine scene tick → IsRound scene tick
line_is_round scene tick line =
    let inside : from_in scene < end_in scene = ends_behind (length_in scene) scene.part.from scene.part.to scene.part.some in
    let step = step_of (span_in scene) in
    let q = (from_in scene + step - 1) / step in
    let ten : span_in scene ≤ 10 * step = reaches (span_in scene) round_numbers in
    let some : 0 < step = omega (arith, inside, ten) in
    let up : from_in scene ≤ q * step = multiple_up step (from_in scene) some in
    let at : q * step + line.i * step ≡ tick = line.at in
    let end : q * step + line.i * step ≤ end_in scene = line.drawn in
    record { from = omega (arith, up, at); to = omega (arith, at, end); k = q + line.i; multiple = sym at ∙ sym (add-mul q line.i step) }

round_has_line : (scene : Scene) (tick : ℕ) → IsRound scene tick → HasLine scene tick
round_has_line scene tick round =
    let k = round.k in
    let is : tick ≡ k * step_of (span_in scene) = round.multiple in
    let from : from_in scene ≤ k * step_of (span_in scene) = subst (λ t. from_in scene ≤ t) is round.from in
    let to : k * step_of (span_in scene) ≤ end_in scene = subst (λ t. t ≤ end_in scene) is round.to in
    let inside : from_in scene < end_in scene = ends_behind (length_in scene) scene.part.from scene.part.to scene.part.some in
    let step = step_of (span_in scene) in
    let q = (from_in scene + step - 1) / step in
    let ten : span_in scene ≤ 10 * step = reaches (span_in scene) round_numbers in
    let some : 0 < step = omega (arith, inside, ten) in
    let first : q ≤ k = multiple_first step (from_in scene) k some from in
    let sum : (q + (k - q)) * step ≡ q * step + (k - q) * step = add-mul q (k - q) step in
    let whole : q + (k - q) ≡ k = omega (arith, first) in
    let line : q * step + (k - q) * step ≡ k * step = sym sum ∙ ap (λ n. n * step) whole in
    let up : from_in scene ≤ q * step = multiple_up step (from_in scene) some in
    let fit : (k - q) * step ≤ span_in scene = omega (arith, line, up, to) in
    let at : line_in scene (k - q) ≡ tick = line ∙ sym is in
    record { i = k - q; one = few_steps (k - q) step (span_in scene) some fit ten; at = at; drawn = subst (λ t. t ≤ end_in scene) (sym at) round.to }

pub axis_has_lines : (scene : Scene) → HasLines scene
axis_has_lines scene tick = (line_is_round scene tick, round_has_line scene tick)
