use Rattle.std.proofs.Common.{◌≡◌, ℕ, ◌-◌, ◌<◌, true, [], ◌∷◌, List, length, get_or, reverse, Option, Some, None, MatchOption, sym, ◌∙◌, ap, subst}
use Rattle.std.proofs.lemmas.List.{reverse-append}
use Rattle.waff_model.specs.Tree.{Node}
use Rattle.waff_model.specs.Versions.{has_clients}
use Rattle.waff_plan.specs.Chain.{IsChain, IsListed, IsPrinted}
use Rattle.waff_plan.specs.Obeys.{StartsIssued}
use Rattle.waff_plan.specs.Serving.{started_in}
use Rattle.waff_plan.specs.Timetable.{IsTimetable, Timetable, work_in, starts_in}
use Rattle.waff_plan.proofs.Chains.{printed_is_chain}
use Rattle.waff_plan.proofs.Linkings.{IsWalked, chain_is_few, chain_is_numbers, walked_more}
use Rattle.waff_plan.proofs.ServingLemmas.{lower_link, place_in, place_or, issued_forward}
use Rattle.waff_plan.proofs.printed.walk.Goals as goal
use Rattle.waff_plan.proofs.printed.walk.Goals.{After-reverse}
use Rattle.waff_assign.specs.Held.{Held}

-- a message before this one has a lower place, and none has the place 0
lower : (place : ℕ → ℕ) (m : ℕ) (next : Option ℕ) → MatchOption next (0 < place m) (λ i. place i < place m) → place_or place next < place m
lower place m None some = some
lower place m (Some i) less = less

pub loop-next-smaller : goal.loop-next-smaller
loop-next-smaller c =
    let plan = c.args.plan.now in
    let m = c.in-Some.message in
    let next = get_or c.args.links.now (m - 1) None in
    let place = place_in plan.version (work_in plan) (starts_in plan) in
    let taken = rw c.in-Some.is at c.loop-next.invariant in
    let waited = c.requires.links m taken.0.from taken.0.to in
    subst (λ (x : Option ℕ). place_or place next < place_or place x) (sym c.in-Some.is)
    (lower place m next (lower_link c.args.tree.now c.args.assigned.now plan.timings (starts_in plan) c.requires.lengths plan.version
    c.len-messages.ensures.table.timings (λ clients. (c.requires.apart clients).issued) m next taken.0 waited))

pub loop-next-preserved : goal.loop-next-preserved
loop-next-preserved c =
    let plan = c.args.plan.now in
    let before = started_in c.args.tree.now c.args.assigned.now plan in
    let m = c.in-Some.message in
    let next = get_or c.args.links.now (m - 1) None in
    let messages = c.loop-next.messages.items in
    let taken = rw c.in-Some.is at c.loop-next.invariant in
    let waited = c.requires.links m taken.0.from taken.0.to in
    let more : reverse c.push.new.self.items ≡ m ∷ reverse messages
    = ap reverse c.in_ok-push.ensures.items ∙ reverse-append messages (m ∷ []) in
    subst (IsWalked before (work_in plan) (starts_in plan) next) (sym more)
    (walked_more before (work_in plan) (starts_in plan)
    (issued_forward c.args.tree.now c.args.assigned.now plan.timings (starts_in plan) c.requires.lengths plan.version c.len-messages.ensures.table.timings (λ clients. (c.requires.apart clients).issued))
    m (reverse messages) next taken waited)

-- a printed chain is a chain
chain_from : (tree : List Node) (assigned : List Held) (plan : Timetable) (messages : List ℕ) → (has_clients plan.version ≡ true → StartsIssued (work_in plan) (starts_in plan)) → IsTimetable plan → length plan.timings ≡ length assigned
    → IsPrinted (started_in tree assigned plan) (work_in plan) (starts_in plan) messages
    → IsChain (started_in tree assigned plan) (work_in plan) messages
chain_from tree assigned plan messages issued table same h =
    printed_is_chain (started_in tree assigned plan) (work_in plan) (issued_forward tree assigned plan.timings (starts_in plan) same plan.version table.timings issued)
    (starts_in plan) messages h

-- its messages are messages, at most as many as there are
listed_from : (tree : List Node) (assigned : List Held) (plan : Timetable) (messages : List ℕ) → (has_clients plan.version ≡ true → StartsIssued (work_in plan) (starts_in plan)) → IsTimetable plan → length plan.timings ≡ length assigned
    → IsPrinted (started_in tree assigned plan) (work_in plan) (starts_in plan) messages
    → IsListed (length plan.timings) messages
listed_from tree assigned plan messages issued table same h =
    let before = started_in tree assigned plan in
    let work = work_in plan in
    let linked = chain_from tree assigned plan messages issued table same h in
    let numbers = chain_is_numbers before work messages linked in
    record {
      each = λ i d lt. let m = numbers i d lt in record { from = m.from; to = m.to };
      few = chain_is_few before work (issued_forward tree assigned plan.timings (starts_in plan) same plan.version table.timings issued) messages linked;
    }

-- the walk has come to the first message
abbrev messages : After-reverse → List ℕ
messages c = c.reverse.new.self.items

printed : (c : After-reverse) → IsPrinted (started_in c.args.tree.now c.args.assigned.now c.args.plan.now) (work_in c.args.plan.now) (starts_in c.args.plan.now) (messages c)
printed c = rw c.reverse.ensures.items (rw c.in_default.is at c.loop-next.invariant)

listed : (c : After-reverse) → IsListed (length c.args.plan.now.timings) (messages c)
listed c =
    listed_from c.args.tree.now c.args.assigned.now c.args.plan.now (messages c) (λ clients. (c.requires.apart clients).issued) c.len-messages.ensures.table c.requires.lengths (printed c)

chained : (c : After-reverse) → IsChain (started_in c.args.tree.now c.args.assigned.now c.args.plan.now) (work_in c.args.plan.now) (messages c)
chained c =
    chain_from c.args.tree.now c.args.assigned.now c.args.plan.now (messages c) (λ clients. (c.requires.apart clients).issued) c.len-messages.ensures.table c.requires.lengths (printed c)

-- they are the messages of the chain
pub returns-clause-printed : goal.returns-clause-printed
returns-clause-printed c = printed (goal.at.returns-clause-printed c).After-reverse

pub returns-clause-listed : goal.returns-clause-listed
returns-clause-listed c = listed (goal.at.returns-clause-listed c).After-reverse

pub returns-clause-chain : goal.returns-clause-chain
returns-clause-chain c = chained (goal.at.returns-clause-chain c).After-reverse
