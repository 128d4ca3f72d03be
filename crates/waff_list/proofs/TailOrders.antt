-- Whom a message holds back for its tail in each order of service, and by how many ticks.
use Rattle.std.proofs.Common.{◌≡◌, ℕ, ◌+◌, ◌-◌, ◌≤◌, ◌<◌, ◌^◌, List, length, set, All, Bor, Contains, arith, refl}
use Rattle.waff_model.specs.Numbers.{IsAmongFirst}
use Rattle.waff_assign.specs.Order.{Relation}
use Rattle.waff_plan.specs.Obeys.{AwaitsEarlier, IsEarlier}
use Rattle.waff_plan.specs.Timing.{IsTiming, no_timing, timing_of, work_of}
use Rattle.waff_plan.specs.declared.timing.Awaited.TheVariants.{Every}
use Rattle.waff_plan.specs.declared.timing.Timing.{Timing}
use Rattle.waff_plan.specs.Work.{Work, IsAwaited, gap_of}
use Rattle.waff_plan.proofs.FollowLemmas.{gap_limit}
use Rattle.waff_order.specs.Needs.{IsNeed, needs_of}
use Rattle.waff_list.specs.Planning.{Fits}
use Rattle.waff_list.specs.Tails.{AreRaised, tail_of}
use Rattle.waff_list.specs.Services.{AreTailsBy}
use Rattle.waff_list.specs.Telling.{Basis, basis_of, of_needs, of_tree}
use Rattle.waff_list.specs.declared.service.Service.{Service}
use Rattle.waff_list.specs.declared.service.Service.TheVariants.{ByIssue, ByNumber}
use Rattle.waff_list.proofs.TailMaking.{AreTailsAfter, raised_same, tails_more, tails_none, tails_of_clients, tails_over, takes_turn}
use Rattle.waff_list.proofs.TraceWork.{needs_earlier}

-- message i is held back for the tail of message m
abbrev pub holds_by : Basis → Work → Relation
holds_by (of_needs needs) work i m = IsNeed needs i m
holds_by (of_tree tree spans assigned) work i m = IsAwaited (work.awaits m) i

-- by so many ticks
abbrev pub gap_by : Basis → Work → ℕ → ℕ → ℕ
gap_by (of_needs needs) work i m = 0
gap_by (of_tree tree spans assigned) work i m = gap_of work i m

pub holds_forward : (service : Service) (work : Work) → Fits service work → AwaitsEarlier work → (i m : ℕ) → holds_by (basis_of service) work i m → IsEarlier work i m
holds_forward (ByNumber needs) work fits earlier i m pair = needs_earlier needs.now work fits.2 fits.0 i m pair
holds_forward (ByIssue issued) work fits earlier i m pair = earlier i m pair

pub tails_by : (service : Service) (work : Work) → Fits service work → AwaitsEarlier work → (tail : ℕ → ℕ)
    → AreTailsAfter (holds_by (basis_of service) work) work (gap_by (basis_of service) work) tail 0 → AreTailsBy (basis_of service) work tail
tails_by (ByNumber needs) work fits earlier tail h = tails_over (IsNeed needs.now) work (needs_earlier needs.now work fits.2 fits.0) tail h
tails_by (ByIssue issued) work fits earlier tail h = tails_of_clients work earlier tail h

-- by number those are held back that are needed
pub raised_needs : (needs : Bor (List (List ℕ))) (work : Work) (old new : List ℕ) (n tail : ℕ) → 1 ≤ n → AreRaised old (Contains (needs_of needs.now n)) (λ m. 0) tail new
    → AreRaised old (λ m. holds_by (of_needs needs.now) work m n) (λ m. gap_by (of_needs needs.now) work m n) tail new
raised_needs needs work old new n tail from =
    raised_same old new (Contains (needs_of needs.now n)) (λ m. IsNeed needs.now m n) (λ m. 0) (λ m. 0) tail
    (λ m listed. record { from = from; listed = listed }) (λ m need. need.listed) (λ m. refl)

-- a message has had its turn where it has its cost, and the tails of those that it is behind have been raised
module _ (service : Service) (timings : List Timing) (small : All IsTiming timings) (earlier : AwaitsEarlier (work_of timings)) (fits : Fits service (work_of timings)) where
  abbrev work : Work
  work = work_of timings

  abbrev AreAfter : List ℕ → ℕ → Type 0
  AreAfter tails = AreTailsAfter (holds_by (basis_of service) work) work (gap_by (basis_of service) work) (tail_of tails)

  pub tails_begin : (tails : List ℕ) → ((m : ℕ) → tail_of tails m ≡ 0) → AreAfter tails (length timings)
  tails_begin tails none = tails_none (holds_by (basis_of service) work) work (gap_by (basis_of service) work) (holds_forward service work fits earlier) (tail_of tails) none

  pub tails_step : (old new : List ℕ) (n tail : ℕ) → length old ≡ length timings → IsAmongFirst (length timings) n → tail ≡ tail_of old n + work.cost n
      → AreRaised (set old (n - 1) tail) (λ m. holds_by (basis_of service) work m n) (λ m. gap_by (basis_of service) work m n) tail new
      → AreAfter old n → AreAfter new (n - 1)
  tails_step old new n tail count number sum are h =
      let forward = holds_forward service work fits earlier in
      let timing = small (n - 1) no_timing (omega (arith, number.from, number.to)) in
      tails_more (holds_by (basis_of service) work) work (gap_by (basis_of service) work) forward (tail_of old) (tail_of new) n number timing.some_cost (omega (arith, timing.cost))
      (gap_short (basis_of service) n timing) h
      (takes_turn (holds_by (basis_of service) work) work (gap_by (basis_of service) work) forward old new n tail
      (record { from = number.from; to = omega (arith, count, number.to) }) sum are)
    where
      gap_short : (basis : Basis) (n : ℕ) → IsTiming (timing_of timings n) → (i : ℕ) → gap_by basis work i n < 2 ^ 32
      gap_short (of_needs needs) n timing i = omega arith
      gap_short (of_tree tree spans assigned) n timing i = omega (arith, gap_limit Every (timing_of timings n) i timing)
