-- Work whose times are nanoseconds.
use Rattle.std.specs.Prelude.{ℕ, ◌*◌, List, map}
use Rattle.waff_plan.specs.Work.{Await, Work}

-- awaits with their gaps in nanoseconds
abbrev pub await_scaled : ℕ → Await → Await
await_scaled tick await = record { message = await.message; gap = await.gap * tick }

abbrev pub awaits_scaled : ℕ → List Await → List Await
awaits_scaled tick = map (await_scaled tick)

-- work with its times in nanoseconds, where a tick is so many of them
abbrev pub scaled : ℕ → Work → Work
scaled tick work = record {
  count = work.count;
  cost = λ m. work.cost m * tick;
  floor = λ m. work.floor m * tick;
  awaits = λ m. awaits_scaled tick (work.awaits m);
}
