use Rattle.std.proofs.Common.{◌≡◌, ◌⊎◌, ◌<◌, false, inl, inr, ⊎_elim, Contains, Some, length, slice_get, arith, refl, ap, sym, ◌∙◌, subst}
use Rattle.std.proofs.lemmas.List.{with_items_is}
use Rattle.std.proofs.lemmas.Option.{slice_get_read}
use Rattle.waff_core.specs.Job.{owners_of}
use Rattle.waff_core.specs.Shown.{core_in, is_home}
use Rattle.waff_core.specs.declared.actors.Phase.TheVariants.{Running}
use Rattle.waff_core.proofs.Lending.{home_idle, home_runs, home_all, running_in, not_running_free, not_running_drawn, not_running_ended}
use Rattle.waff_core.proofs.homes.homes.Goals as goal
use Rattle.waff_core.proofs.homes.homes.Goals.{in-Running, in-Free}

pub owners-requires : goal.owners-requires
owners-requires c =
    let phases = c.args.machine.now.phases.items in
    let within : c.loop-at.at < length phases = omega (arith, c.args.machine.now.phases.ok.0) in
    let at : slice_get phases c.loop-at.at ≡ Some (Running c.in-Running.m)
    = slice_get_read phases (length phases) c.loop-at.at c.index.result.now refl within c.index.ensures ∙ ap (λ p. Some p) c.in-Running.is in
    record { number = running_in c.args.job.now (core_in c.args.machine.now) c.requires.steady c.loop-at.at c.in-Running.m at }

pub loop-at-preserved : goal.loop-at-preserved
loop-at-preserved c =
    let job = c.args.job.now in
    let core = core_in c.args.machine.now in
    let phases = c.args.machine.now.phases.items in
    let within : c.loop-at.at < length phases = omega (arith, c.args.machine.now.phases.ok.0) in
    let read : slice_get phases c.loop-at.at ≡ Some c.index.result.now
    = slice_get_read phases (length phases) c.loop-at.at c.index.result.now refl within c.index.ensures in
    elim c.match-index.branch [
      | in-Running w ↦
          let at : slice_get phases c.loop-at.at ≡ Some (Running w.in-Running.m) = read ∙ ap (λ p. Some p) w.in-Running.is in
          let inside = running_in job core c.requires.steady c.loop-at.at w.in-Running.m at in
          let lent = w.lend.ensures in
          let owners : w.owners.result.now ≡ owners_of job.owners w.in-Running.m = w.owners.ensures.owners in
          let before : w.deref_mut.result.now ≡ c.loop-at.home.items = w.deref_mut.ensures.value in
          let count : length w.lend.new.home ≡ length w.deref_mut.result.now = w.lend.auto.home in
          let items : c.match-index.home.items ≡ w.lend.new.home
          = ap (λ v. v.items) w.home-is ∙ with_items_is c.loop-at.home w.lend.new.home (count ∙ w.deref_mut.ensures.len) in
          rw items
          (home_runs job c.requires.job core c.loop-at.home.items w.lend.new.home c.loop-at.at w.in-Running.m inside at (count ∙ ap length before)
          (λ a has. lent.lent a (subst (λ xs. Contains xs a) (sym owners) has))
          (λ a away. lent.kept a (subst (λ xs. is_home xs a ≡ false) (sym before) away))
          (λ a away.
          ⊎_elim {C = (is_home c.loop-at.home.items a ≡ false) ⊎ Contains (owners_of job.owners w.in-Running.m) a}
          (λ (h : is_home w.deref_mut.result.now a ≡ false). inl (subst (λ xs. is_home xs a ≡ false) before h))
          (λ (h : Contains w.owners.result.now a). inr (subst (λ xs. Contains xs a) owners h))
          (lent.others a away))
          c.loop-at.invariant)
      | in-Free w ↦
          rw w.home-is
          (home_idle job core c.loop-at.home.items c.loop-at.at c.index.result.now read
          (λ m running.
          elim (w.in-Free.is) [
            | inl free ↦ not_running_free m (sym free ∙ running)
            | inr (inl drawn) ↦ not_running_drawn drawn.0 m (sym drawn.1 ∙ running)
            | inr (inr over) ↦ not_running_ended m (sym over ∙ running)
          ]) c.loop-at.invariant)
    ]

pub returns : goal.returns
returns c = home_all c.args.job.now (core_in c.args.machine.now) c.loop-at.home.items c.loop-at.at (omega arith) c.loop-at.invariant
