-- Orders by a key: what holds back another comes first, so that messages have places.
use Rattle.std.proofs.Common.{◌≡◌, ℕ, ◌≤◌, ◌↔◌, inl, inr, List, length, arith, refl}
use Rattle.std.proofs.lemmas.Bool.{cases_lt}
use Rattle.waff_model.specs.Tree.{Node}
use Rattle.waff_model.specs.declared.message.Version.{Version}
use Rattle.waff_model.specs.declared.message.Version.TheVariants.{V1, V2, V3, V4}
use Rattle.waff_assign.specs.Order.{IsOrdered, Relation}
use Rattle.waff_plan.specs.Obeys.{AwaitsEarlier, IsForward, IsLinked}
use Rattle.waff_plan.specs.Order.{ComesBefore, IsServiceKey, Precedes, Serves, key_of}
use Rattle.waff_plan.specs.Serving.{served_before}
use Rattle.waff_plan.specs.Work.{Work, IsAwaited, IsNumber, issue_of}
use Rattle.waff_plan.proofs.Holding.{awaited-le-issue, same_issue}
use Rattle.waff_plan.proofs.Places.{earlier_place, place_from, place_of, place_to}
use Rattle.waff_assign.specs.Held.{Held}

-- the key of versions 1 and 2 is a service key, and so is the issue
key_rises : (version : Version) (work : Work) → AwaitsEarlier work → (start : ℕ → ℕ) (i m : ℕ) → IsAwaited (work.awaits m) i
    → issue_of work start i ≤ start i → ComesBefore (key_of version work start) i m
key_rises V1 work follows start i m follow issued = inr (refl, (follows i m follow).earlier)
key_rises V2 work follows start i m follow issued = inr (refl, (follows i m follow).earlier)
key_rises V3 work follows start i m follow issued =
    let later : issue_of work start i ≤ issue_of work start m = omega (arith, issued, awaited-le-issue work start i m follow) in
    elim (cases_lt (issue_of work start i) (issue_of work start m)) [
      | inl sooner ↦ inl sooner
      | inr no_sooner ↦ inr (omega (arith, later, no_sooner), (follows i m follow).earlier)
    ]
key_rises V4 work follows start i m follow issued =
    let later : issue_of work start i ≤ issue_of work start m = omega (arith, issued, awaited-le-issue work start i m follow) in
    elim (cases_lt (issue_of work start i) (issue_of work start m)) [
      | inl sooner ↦ inl sooner
      | inr no_sooner ↦ inr (omega (arith, later, no_sooner), (follows i m follow).earlier)
    ]

key_kept : (version : Version) (work : Work) (start other : ℕ → ℕ) (m : ℕ) → ((i : ℕ) → IsAwaited (work.awaits m) i → start i ≡ other i)
    → key_of version work start m ≡ key_of version work other m
key_kept V1 work start other m same = refl
key_kept V2 work start other m same = refl
key_kept V3 work start other m same = same_issue work start other m same
key_kept V4 work start other m same = same_issue work start other m same

pub service_key : (version : Version) (work : Work) → AwaitsEarlier work → IsServiceKey work (key_of version work)
service_key version work follows = record { kept = key_kept version work; rises = key_rises version work follows }

-- what comes first by a key goes forward, where a message comes before those that await it
module _ (tree : List Node) (assigned : List Held) (work : Work) (count : ℕ) (same : count ≡ work.count) (first : Relation) (key : ℕ → ℕ)
    (to : (i j : ℕ) → first i j → ComesBefore key i j) (follows : AwaitsEarlier work)
    (rises : (i m : ℕ) → IsAwaited (work.awaits m) i → ComesBefore key i m) where
  pub linked_first : (i m : ℕ) → IsLinked (Precedes count first tree assigned) work i m → ComesBefore key i m
  linked_first i m (inl pair) = to i m pair.precedes
  linked_first i m (inr follow) = rises i m follow

  pub precedes_forward : IsForward (Precedes count first tree assigned) work
  precedes_forward =
      let second = λ (i m : ℕ) (linked : IsLinked (Precedes count first tree assigned) work i m).
      let number : IsNumber work m = elim linked [
        | inl pair ↦ record { from = pair.second.from; to = omega (arith, pair.second.to, same) }
        | inr follow ↦ let earlier = follows i m follow in record { from = omega (arith, earlier.from, earlier.earlier); to = earlier.to }
      ] in number in
      record {
        place = place_of work key;
        from = λ m number. place_from work key m number;
        to = λ m number. place_to work key m;
        first = λ i m linked. elim linked [
          | inl pair ↦ record { from = pair.first.from; to = omega (arith, pair.first.to, same) }
          | inr follow ↦ let earlier = follows i m follow in record { from = earlier.from; to = omega (arith, earlier.earlier, earlier.to) }
        ];
        second = second;
        earlier = λ i m linked. earlier_place work key i m (second i m linked) (linked_first i m linked);
      }

-- what is served by a service key goes forward
module _ (tree : List Node) (assigned : List Held) (work : Work) (start key : ℕ → ℕ) (issued : (m : ℕ) → IsNumber work m → issue_of work start m ≤ start m)
    (follows : AwaitsEarlier work)
    (rises : (i m : ℕ) → IsAwaited (work.awaits m) i → issue_of work start i ≤ start i → ComesBefore key i m) where
  pub follower_first : (i m : ℕ) → IsAwaited (work.awaits m) i → ComesBefore key i m
  follower_first i m follow =
      let earlier = follows i m follow in
      rises i m follow (issued i (record { from = earlier.from; to = omega (arith, earlier.earlier, earlier.to) }))

  pub served_linked : (i m : ℕ) → IsLinked (Serves tree assigned work key) work i m → ComesBefore key i m
  served_linked = linked_first tree assigned work work.count refl (ComesBefore key) key (λ i j h. h) follows follower_first

  pub serves_forward : IsForward (Serves tree assigned work key) work
  serves_forward = precedes_forward tree assigned work work.count refl (ComesBefore key) key (λ i j h. h) follows follower_first

-- by the key of versions 1 and 2 what comes first in the trace is served first
module _ (tree : List Node) (assigned : List Held) (work : Work) (same : length assigned ≡ work.count) where
  ordered_by_zero : (i j : ℕ) → Serves tree assigned work (λ m. 0) i j ↔ IsOrdered tree assigned i j
  ordered_by_zero i j = (
    λ served. record {
      from = served.first.from;
      earlier = elim served.precedes [ inl less ↦ absurd (omega (arith, less)) | inr equal ↦ equal.1 ];
      to = omega (arith, served.second.to, same);
      excludes = served.excludes;
    },
    λ ordered. record {
      first = record { from = ordered.from; to = omega (arith, ordered.earlier, ordered.to, same) };
      second = record { from = omega (arith, ordered.from, ordered.earlier); to = omega (arith, ordered.to, same) };
      precedes = inr (refl, ordered.earlier);
      excludes = ordered.excludes;
    },
  )

  -- the order in which a plan serves messages is that by the key of its version
  pub served_by_key : (version : Version) (start : ℕ → ℕ) (i j : ℕ)
      → Serves tree assigned work (key_of version work start) i j ↔ served_before version tree assigned work start i j
  served_by_key V1 start i j = ordered_by_zero i j
  served_by_key V2 start i j = ordered_by_zero i j
  served_by_key V3 start i j = (λ served. served, λ served. served)
  served_by_key V4 start i j = (λ served. served, λ served. served)
