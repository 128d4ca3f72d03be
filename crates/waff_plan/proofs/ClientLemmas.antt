-- What messages await by their clients comes earlier, and is awaited once.
use Rattle.std.proofs.Common.{ℕ, inl, inr, List, arith, sym, ◌∙◌}
use Rattle.std.proofs.lemmas.Bool.{cases_order}
use Rattle.waff_plan.specs.Work.{Work}
use Rattle.waff_plan.specs.Obeys.{AwaitsEarlier, AwaitedOnce}
use Rattle.waff_plan.specs.Clients.{AwaitsClients}

module _ (clients : List (List ℕ)) (work : Work) (awaits : AwaitsClients clients work) where
  pub client_follows_earlier : AwaitsEarlier work
  client_follows_earlier i m awaited =
      let before = (awaits.awaits i m).0 awaited in
      record { from = before.from; earlier = before.earlier; to = omega (arith, before.to, awaits.count) }

  pub client_follows_once : AwaitedOnce work
  client_follows_once i m n first second =
      let one = (awaits.awaits i m).0 first in
      let other = (awaits.awaits i n).0 second in
      elim (cases_order m n) [
        | inl same ↦ same
        | inr (inl less) ↦ absurd (other.last m one.earlier less (sym one.same ∙ other.same))
        | inr (inr more) ↦ absurd (one.last n other.earlier more (sym other.same ∙ one.same))
      ]
