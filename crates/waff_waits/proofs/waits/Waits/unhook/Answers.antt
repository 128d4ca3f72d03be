use Rattle.std.proofs.Common.{◌≡◌, ◌-◌, ◌<◌, ◌≤◌, length, get_or, ap, ◌∙◌, arith}
use Rattle.std.proofs.lemmas.List.{get_or_default, get_or_read}
use Rattle.waff_model.specs.Numbers.{IsAmongFirst}
use Rattle.waff_waits.specs.Trails.{link_at}
use Rattle.waff_waits.specs.declared.link.Link.{Link}
use Rattle.waff_waits.proofs.Counting.{counted_less, goes_as, head_left, head_number, head_within, number_as}
use Rattle.waff_waits.proofs.waits.Waits.unhook.Goals as goal
use Rattle.waff_waits.proofs.waits.Waits.unhook.Goals.{After-index-link}

first : (c : After-index-link) → IsAmongFirst (length c.self.inside.firsts.items) c.args.i
first c =
    let x = c.self.inside in
    number_as x.firsts.items x.links.items x.left.items x.finished.items c.self.invariant c.args.self.now c.self.view_is c.args.i c.requires.number

at : (c : After-index-link) → c.index-at.result.now ≡ get_or c.self.inside.firsts.items (c.args.i - 1) 0
at c =
    let within = first c in
    get_or_read c.self.inside.firsts.items (c.args.i - 1) c.index-at.result.now (omega (arith, within.from, within.to)) c.index-at.ensures 0

some : (c : After-index-link) → 1 ≤ get_or c.self.inside.firsts.items (c.args.i - 1) 0
some c = let other = c.if-at-eq0.false in omega (arith, at c, other)

-- the link that is read is the first of the trail
is : (c : After-index-link) → c.index-link.result.now ≡ link_at c.self.inside.links.items (get_or c.self.inside.firsts.items (c.args.i - 1) 0)
is c =
    let x = c.self.inside in
    let within = head_within x.firsts.items x.links.items x.left.items x.finished.items c.self.invariant c.args.i (first c) (some c) in
    c.index-link.ensures
    ∙ get_or_default x.links.items (c.index-at.result.now - 1) c.index-link.result.now (record { message = 0; next = 0 }) (omega (arith, within, at c, some c))
    ∙ ap (link_at x.links.items) (at c)

number : (c : After-index-link) → IsAmongFirst (length c.self.inside.firsts.items) c.index-link.result.now.message
number c =
    let x = c.self.inside in
    rw (is c) (head_number x.firsts.items x.links.items x.left.items x.finished.items c.self.invariant c.args.i (first c) (some c))

inside : (c : After-index-link) → c.index-link.result.now.message - 1 < length c.self.inside.left.items
inside c = let within = number c in omega (arith, within.from, within.to, c.self.invariant.counts)

pub overflow_sub-link : goal.overflow_sub-link
overflow_sub-link c = (number (goal.at.overflow_sub-link c).After-index-link).from

pub index_mut-requires-2 : goal.index_mut-requires-2
index_mut-requires-2 c =
    let there = inside (goal.at.index_mut-requires-2 c).After-index-link in
    omega (arith, there, c.self.inside.left.ok)

pub overflow_sub-index_mut : goal.overflow_sub-index_mut
overflow_sub-index_mut c =
    let x = c.self.inside in
    let l = (goal.at.overflow_sub-index_mut c).After-index-link in
    let enough = head_left x.firsts.items x.links.items x.left.items x.finished.items c.self.invariant c.args.i (first l) (some l) in
    let same = ap (λ (k : Link). get_or x.left.items (k.message - 1) 0) (is l) in
    let read = get_or_read x.left.items (c.index-link.result.now.message - 1) c.index_mut-2.result.now (inside l) c.index_mut-2.ensures.value 0 in
    omega (arith, enough, same, read)

pub invariant_of-self : goal.invariant_of-self
invariant_of-self c =
    let x = c.self.inside in
    let l = (goal.at.invariant_of-self c).After-index-link in
    let read = get_or_read x.left.items (c.index-link.result.now.message - 1) c.index_mut-2.result.now (inside l) c.index_mut-2.ensures.value 0 in
    rw (read, is l)
    (counted_less x.firsts.items x.links.items x.left.items x.finished.items c.self.invariant c.args.i (first l) (some l))

pub returns : goal.returns
returns c =
    let x = c.self.inside in
    let l = (goal.at.returns c).After-index-link in
    rw (is l)
    (goes_as x.firsts.items x.links.items x.left.items x.finished.items c.self.invariant c.args.self.now c.self.view_is c.args.i c.requires.number (some l))
