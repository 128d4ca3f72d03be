-- The order of a plan's chains, by the version of its trace.
use Rattle.std.proofs.Common.{◌≡◌, ℕ, ◌-◌, ◌<◌, inl, inr, List, length, true, Option, Some, None, MatchOption, arith, refl, sym}
use Rattle.std.proofs.lemmas.Bool.{false≢true}
use Rattle.waff_model.specs.Tree.{Node}
use Rattle.waff_model.specs.Versions.{has_clients}
use Rattle.waff_model.specs.declared.message.Version.{Version}
use Rattle.waff_model.specs.declared.message.Version.TheVariants.{V1, V2, V3, V4}
use Rattle.waff_assign.specs.Order.{IsOrdered}
use Rattle.waff_plan.specs.Links.{IsLink}
use Rattle.waff_plan.specs.Obeys.{EachRuns, AwaitsEarlier, IsForward, IsLeast, Obeys, StartsIssued}
use Rattle.waff_plan.specs.Order.{key_of}
use Rattle.waff_plan.specs.ServesAs.{ObeysApart}
use Rattle.waff_plan.specs.Serving.{served_before, started_before}
use Rattle.waff_plan.specs.Timetable.{AreTimings}
use Rattle.waff_plan.specs.Timing.{no_timing, work_of}
use Rattle.waff_plan.specs.Unique.{AreSame}
use Rattle.waff_plan.specs.Work.{IsNumber, Work}
use Rattle.waff_plan.specs.declared.timing.Timing.{Timing}
use Rattle.waff_plan.proofs.Forward.{timings_forward}
use Rattle.waff_plan.proofs.IssuePlans.{least_by_key_is_one}
use Rattle.waff_plan.proofs.Orders.{service_key}
use Rattle.waff_plan.proofs.Places.{earlier_place, place_from, place_of}
use Rattle.waff_plan.proofs.StartOrder.{IsStartedBefore_forward, least_again, served_apart, served_starts, started_first}
use Rattle.waff_plan.proofs.Uniqueness.{least_is_one}
use Rattle.waff_assign.specs.Held.{Held}

-- the messages of a trace run
pub each_runs : (version : Version) (timings : List Timing) → AreTimings version timings → EachRuns (work_of timings)
each_runs version timings are m number = (are.small (m - 1) no_timing (omega (arith, number.from, number.to))).some_cost

-- the place of a message in the order of chains
abbrev pub place_in : Version → Work → (ℕ → ℕ) → ℕ → ℕ
place_in V1 work start m = m
place_in V2 work start m = m
place_in V3 work start m = place_of work start m
place_in V4 work start m = place_of work start m

-- where there is a message its place, else 0
abbrev pub place_or : (ℕ → ℕ) → Option ℕ → ℕ
place_or place None = 0
place_or place (Some m) = place m

-- there is one plan that is least in the order in which it serves messages itself
pub least_served_is_one : (version : Version) (tree : List Node) (assigned : List Held) (work : Work) → AwaitsEarlier work → (start other : ℕ → ℕ)
    → IsLeast (served_before version tree assigned work start) work start → IsLeast (served_before version tree assigned work other) work other
    → AreSame work start other
least_served_is_one V1 tree assigned work follows start other one two = least_is_one (IsOrdered tree assigned) work start other one two
least_served_is_one V2 tree assigned work follows start other one two = least_is_one (IsOrdered tree assigned) work start other one two
least_served_is_one V3 tree assigned work follows start other one two =
    least_by_key_is_one tree assigned work (key_of V3 work) follows (service_key V3 work follows) start other one two
least_served_is_one V4 tree assigned work follows start other one two =
    least_by_key_is_one tree assigned work (key_of V4 work) follows (service_key V4 work follows) start other one two

module _ (tree : List Node) (assigned : List Held) (timings : List Timing) (start : ℕ → ℕ) (same : length timings ≡ length assigned) where
  -- the order that is served is that of chains
  pub served_to_started : (version : Version) → AreTimings version timings → Obeys (served_before version tree assigned (work_of timings) start) (work_of timings) start
      → (i j : ℕ) → served_before version tree assigned (work_of timings) start i j → started_before version tree assigned start i j
  served_to_started V1 are obeys i j pair = pair
  served_to_started V2 are obeys i j pair = pair
  served_to_started V3 are obeys i j pair = (served_starts tree assigned (work_of timings) (sym same) (each_runs V3 timings are) start obeys i j).0 pair
  served_to_started V4 are obeys i j pair = (served_starts tree assigned (work_of timings) (sym same) (each_runs V4 timings are) start obeys i j).0 pair

  pub started_to_served : (version : Version) → AreTimings version timings → Obeys (served_before version tree assigned (work_of timings) start) (work_of timings) start
      → (i j : ℕ) → started_before version tree assigned start i j → served_before version tree assigned (work_of timings) start i j
  started_to_served V1 are obeys i j pair = pair
  started_to_served V2 are obeys i j pair = pair
  started_to_served V3 are obeys i j pair = (served_starts tree assigned (work_of timings) (sym same) (each_runs V3 timings are) start obeys i j).1 pair
  started_to_served V4 are obeys i j pair = (served_starts tree assigned (work_of timings) (sym same) (each_runs V4 timings are) start obeys i j).1 pair

  pub served_obeys_started : (version : Version) → AreTimings version timings → Obeys (served_before version tree assigned (work_of timings) start) (work_of timings) start
      → Obeys (started_before version tree assigned start) (work_of timings) start
  served_obeys_started version are obeys = record {
    issued = obeys.issued;
    ordered = λ i j pair. obeys.ordered i j (started_to_served version are obeys i j pair);
  }

  pub least_started : (version : Version) → AreTimings version timings → IsLeast (served_before version tree assigned (work_of timings) start) (work_of timings) start
      → IsLeast (started_before version tree assigned start) (work_of timings) start
  least_started version are least =
      least_again (served_before version tree assigned (work_of timings) start) (started_before version tree assigned start) (work_of timings) start
      (served_to_started version are least.obeys) (started_to_served version are least.obeys) least

  -- where no message starts before it is issued, messages have places in it
  pub issued_forward : (version : Version) → AreTimings version timings → (has_clients version ≡ true → StartsIssued (work_of timings) start)
      → IsForward (started_before version tree assigned start) (work_of timings)
  issued_forward V1 are issued = timings_forward tree assigned timings (sym same) are.earlier
  issued_forward V2 are issued = timings_forward tree assigned timings (sym same) are.earlier
  issued_forward V3 are issued =
      IsStartedBefore_forward tree assigned (work_of timings) (sym same) (each_runs V3 timings are) start (issued refl) are.earlier
  issued_forward V4 are issued =
      IsStartedBefore_forward tree assigned (work_of timings) (sym same) (each_runs V4 timings are) start (issued refl) are.earlier

  pub started_forward : (version : Version) → AreTimings version timings
      → (has_clients version ≡ true → Obeys (served_before version tree assigned (work_of timings) start) (work_of timings) start)
      → IsForward (started_before version tree assigned start) (work_of timings)
  started_forward version are obeys = issued_forward version are (λ clients. (obeys clients).issued)

  -- a plan that obeys the order in which it serves messages obeys apart
  pub served_obeys_apart : (version : Version) → AreTimings version timings
      → (has_clients version ≡ true → Obeys (served_before version tree assigned (work_of timings) start) (work_of timings) start)
      → has_clients version ≡ true → ObeysApart tree assigned (work_of timings) start
  served_obeys_apart V1 are obeys clients = absurd (false≢true clients)
  served_obeys_apart V2 are obeys clients = absurd (false≢true clients)
  served_obeys_apart V3 are obeys clients = record {
    issued = (obeys refl).issued;
    apart = served_apart tree assigned (work_of timings) (sym same) (each_runs V3 timings are) start (obeys refl);
  }
  served_obeys_apart V4 are obeys clients = record {
    issued = (obeys refl).issued;
    apart = served_apart tree assigned (work_of timings) (sym same) (each_runs V4 timings are) start (obeys refl);
  }

  -- what holds back a message has a lower place
  pub lower_link : (version : Version) → AreTimings version timings → (has_clients version ≡ true → StartsIssued (work_of timings) start)
      → (m : ℕ) (link : Option ℕ) → IsNumber (work_of timings) m → IsLink (started_before version tree assigned start) (work_of timings) start m link
      → MatchOption link (0 < place_in version (work_of timings) start m) (λ i. place_in version (work_of timings) start i < place_in version (work_of timings) start m)
  lower_link V1 are issued m None number is = number.from
  lower_link V1 are issued m (Some i) number is = elim is.0.one [ inl before ↦ before.earlier | inr follow ↦ (are.earlier i m follow).earlier ]
  lower_link V2 are issued m None number is = number.from
  lower_link V2 are issued m (Some i) number is = elim is.0.one [ inl before ↦ before.earlier | inr follow ↦ (are.earlier i m follow).earlier ]
  lower_link V3 are issued m None number is = place_from (work_of timings) start m number
  lower_link V4 are issued m None number is = place_from (work_of timings) start m number
  lower_link V3 are issued m (Some i) number is =
      earlier_place (work_of timings) start i m number
      (inl (started_first tree assigned (work_of timings) (sym same) (each_runs V3 timings are) start (issued refl) are.earlier i m is.0.one))
  lower_link V4 are issued m (Some i) number is =
      earlier_place (work_of timings) start i m number
      (inl (started_first tree assigned (work_of timings) (sym same) (each_runs V4 timings are) start (issued refl) are.earlier i m is.0.one))
