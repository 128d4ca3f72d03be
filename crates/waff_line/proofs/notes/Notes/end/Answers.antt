use Rattle.std.proofs.Common.{◌≡◌, ℕ, ◌+◌, max, true, ap, ◌∙◌, arith, refl}
use Rattle.waff_line.proofs.Noting.{ended_finish, ended_noted, ended_shown, staffed, start_early, worker_from, worker_within}
use Rattle.waff_line.proofs.notes.Notes.end.Goals as goal

pub overflow_add-turn : goal.overflow_add-turn
overflow_add-turn c =
    let early = start_early c.self.inside.clock c.self.inside.turns.items c.self.inside.runs.items c.args.self.now c.self.view_is c.self.invariant
    c.args.m c.args.now c.requires c.index-turn.result.now c.index-turn.ensures in
    omega (arith, early)

pub overflow_sub-turn : goal.overflow_sub-turn
overflow_sub-turn c =
    worker_from c.self.inside.clock c.self.inside.turns.items c.self.inside.runs.items c.args.self.now c.self.view_is c.self.invariant
    c.args.m c.args.now c.requires c.index-turn.result.now c.index-turn.ensures

pub index_mut-requires-2 : goal.index_mut-requires-2
index_mut-requires-2 c =
    let within = worker_within c.self.inside.clock c.self.inside.turns.items c.self.inside.runs.items c.args.self.now c.self.view_is c.self.invariant
    c.args.m c.args.now c.requires c.index-turn.result.now c.index-turn.ensures in
    let ok = c.self.inside.runs.ok in
    omega (arith, within, ok)

pub invariant_of-self : goal.invariant_of-self
invariant_of-self c =
    ended_noted c.self.inside.clock c.self.inside.turns.items c.self.inside.runs.items c.args.self.now c.self.view_is c.self.invariant
    c.args.m c.args.now c.requires c.index-turn.result.now c.index-turn.ensures
    c.max-finish.result (c.max-finish.ensures ∙ ap (λ (x : ℕ). max x (c.index-turn.result.now.start + 1)) c.max.ensures)
    (record { start = c.index-turn.result.now.start; finish = c.max-finish.result; worker = c.index-turn.result.now.worker; after = c.index-turn.result.now.after; late = c.index-turn.result.now.late; ended = true }) refl

pub returns : goal.returns
returns c =
    let finish_is : c.max-finish.result ≡ max (max c.args.now c.self.inside.clock) (c.index-turn.result.now.start + 1)
    = c.max-finish.ensures ∙ ap (λ (x : ℕ). max x (c.index-turn.result.now.start + 1)) c.max.ensures in
    record {
      ended = ended_shown c.self.inside.clock c.self.inside.turns.items c.self.inside.runs.items c.args.self.now c.self.view_is c.self.invariant
          c.args.m c.args.now c.requires c.index-turn.result.now c.index-turn.ensures c.max-finish.result finish_is
          (record { start = c.index-turn.result.now.start; finish = c.max-finish.result; worker = c.index-turn.result.now.worker; after = c.index-turn.result.now.after; late = c.index-turn.result.now.late; ended = true }) refl;
      finish = ended_finish c.self.inside.clock c.self.inside.turns.items c.self.inside.runs.items c.args.self.now c.self.view_is c.self.invariant
          c.args.m c.args.now c.requires c.index-turn.result.now c.index-turn.ensures c.max-finish.result finish_is;
      staffed = staffed c.self.inside.clock c.self.inside.turns.items c.self.inside.runs.items c.args.self.now c.self.view_is c.self.invariant
          c.args.m c.args.now c.requires c.index-turn.result.now c.index-turn.ensures;
    }
