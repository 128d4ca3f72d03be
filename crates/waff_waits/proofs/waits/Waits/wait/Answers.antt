use Rattle.std.proofs.Common.{◌≡◌, ◌+◌, ◌-◌, ◌<◌, ◌++◌, [], ◌∷◌, length, get_or, ap, ◌∙◌, arith}
use Rattle.std.proofs.lemmas.List.{get_or_read}
use Rattle.waff_model.specs.Numbers.{IsAmongFirst}
use Rattle.waff_waits.specs.declared.link.Link.{Link}
use Rattle.waff_waits.proofs.Counting.{counted_more, left_few, number_as, waits_as}
use Rattle.waff_waits.proofs.waits.Waits.wait.Goals as goal
use Rattle.waff_waits.proofs.waits.Waits.wait.Goals.{After-index_mut-2}

first : (c : After-index_mut-2) → IsAmongFirst (length c.self.inside.firsts.items) c.args.i
first c =
    let x = c.self.inside in
    number_as x.firsts.items x.links.items x.left.items x.finished.items c.self.invariant c.args.self.now c.self.view_is c.args.i c.requires.awaited

number : (c : After-index_mut-2) → IsAmongFirst (length c.self.inside.firsts.items) c.args.m
number c =
    let x = c.self.inside in
    number_as x.firsts.items x.links.items x.left.items x.finished.items c.self.invariant c.args.self.now c.self.view_is c.args.m c.requires.number

next : (c : After-index_mut-2) → c.index-next.result.now ≡ get_or c.self.inside.firsts.items (c.args.i - 1) 0
next c =
    let within = first c in
    get_or_read c.self.inside.firsts.items (c.args.i - 1) c.index-next.result.now (omega (arith, within.from, within.to)) c.index-next.ensures 0

links : (c : After-index_mut-2) → c.push.new.self.items ≡ c.self.inside.links.items ++ (record { message = c.args.m; next = get_or c.self.inside.firsts.items (c.args.i - 1) 0 }) ∷ []
links c = c.in_ok-push.ensures.items ∙ ap (λ n. let l : Link = record { message = c.args.m; next = n } in c.self.inside.links.items ++ l ∷ []) (next c)

count : (c : After-index_mut-2) → c.in-Ok.number ≡ length c.self.inside.links.items + 1
count c = omega (arith, c.len.ensures, c.self.inside.links.ok, c.in-Ok.ensures)

left : (c : After-index_mut-2) → c.index_mut-2.result.now ≡ get_or c.self.inside.left.items (c.args.m - 1) 0
left c =
    let within = number c in
    let inside : c.args.m - 1 < length c.self.inside.left.items = omega (arith, within.from, within.to, c.self.invariant.counts) in
    get_or_read c.self.inside.left.items (c.args.m - 1) c.index_mut-2.result.now inside c.index_mut-2.ensures.value 0

pub overflow_add-index_mut : goal.overflow_add-index_mut
overflow_add-index_mut c =
    let x = c.self.inside in
    let within = number_as x.firsts.items x.links.items x.left.items x.finished.items c.self.invariant c.args.self.now c.self.view_is c.args.m c.requires.number in
    let few = left_few x.firsts.items x.links.items x.left.items x.finished.items c.self.invariant c.args.m within.from within.to in
    let inside : c.args.m - 1 < length x.left.items = omega (arith, within.from, within.to, c.self.invariant.counts) in
    let read = get_or_read x.left.items (c.args.m - 1) c.index_mut-2.result.now inside c.index_mut-2.ensures.value 0 in
    omega (arith, few, read, x.links.ok)

pub invariant_of-self-2 : goal.invariant_of-self-2
invariant_of-self-2 c =
    let x = c.self.inside in
    let a = (goal.at.invariant_of-self-2 c).After-index_mut-2 in
    rw (links a, count a, left a)
    (counted_more x.firsts.items x.links.items x.left.items x.finished.items c.self.invariant c.args.i c.args.m (first a) (number a))

pub returns : goal.returns
returns c =
    let x = c.self.inside in
    let a = (goal.at.returns c).After-index_mut-2 in
    rw (links a, count a)
    (waits_as x.firsts.items x.links.items x.left.items x.finished.items c.self.invariant c.args.self.now c.self.view_is c.args.i c.args.m c.requires.awaited c.requires.number)
