-- The hands of a run, before an event and after it.
use Rattle.std.proofs.Common.{◌≡◌, ◌≢◌, ℕ, ◌-◌, ◌≤◌, inl, inr, false, List, [], None, Some, length, map, option_map, slice_index_or, slice_set, refl, ap, sym, subst, ◌∙◌, arith}
use Rattle.std.specs.Prelude.{All, IfSome, IsSome, Option}
use Rattle.std.proofs.Math.ListN.{get_or-map, length-replicate, length-set}
use Rattle.std.proofs.lemmas.Bool.{cases_Bool, cases_eq, cases_lt, false≢true}
use Rattle.std.proofs.lemmas.List.{get_or-set_other, get_or-set_same, length-map, map-set}
use Rattle.std.proofs.lemmas.List.Elements.{All-get_or}
use Rattle.std.proofs.lemmas.Option.{none-some}
use Rattle.waff_model.specs.Numbers.{IsAmongFirst}
use Rattle.waff_line.specs.Laws.{AreAllEnded}
use Rattle.waff_line.specs.Machine.{Course, HasBegun, IsRunning, State, Steps, Turn, ended_turn, finish_at, no_turn, opening, told, turn_of}
use Rattle.waff_line.specs.declared.event.Event.TheVariants.{Begin, End}
use Rattle.waff_line.proofs.Turns.{none_begun, none_ended, turn_other, turn_same, turns_as_many}
use Rattle.waff_run.specs.Asked.{Access}
use Rattle.waff_run.specs.Hands.{AreAsked, AreFresh, AreHands, Asking, AsksNumber, IsThere, Slot, hand_of}

-- the hand of one message is another, those of the others are the same
module _ (hands : List Slot) (m : ℕ) (slot : Slot) where
  hand_same : IsAmongFirst (length hands) m → hand_of (slice_set hands (m - 1) slot) m ≡ slot
  hand_same number = get_or-set_same hands (m - 1) slot None (omega (arith, number.from, number.to))

  hand_other : (n : ℕ) → 1 ≤ m → 1 ≤ n → n ≢ m → hand_of (slice_set hands (m - 1) slot) n ≡ hand_of hands n
  hand_other n some other unlike = get_or-set_other hands (m - 1) (n - 1) slot None (λ same. unlike (omega (arith, some, other, same)))

module _ (course : Course) (asking : Asking) where
  -- before anything has happened
  pub hands_opening : (s : State) (hands : List Slot) → s ≡ opening course → course.work.count ≡ length asking.messages
      → AreFresh (length asking.messages) hands → AreHands course asking s hands
  hands_opening s hands is count fresh = subst (λ (t : State). AreHands course asking t hands) (sym is) (record {
    count = count;
    turns = length-replicate course.work.count no_turn ∙ count;
    many = fresh.many;
    waits = λ n number waits. fresh.each n number;
    runs = λ n number running. absurd (none_begun course n running.begun);
    ended = λ n number ended. absurd (none_ended course n ended);
  })

  module _ (s t : State) (hands : List Slot) (are : AreHands course asking s hands) where
    -- it is told the time
    pub hands_told : (now : ℕ) → t ≡ told s now → AreHands course asking t hands
    hands_told now is = subst (λ (t : State). AreHands course asking t hands) (sym is) (record {
      count = are.count;
      turns = are.turns;
      many = are.many;
      waits = λ n number waits. are.waits n number waits;
      runs = λ n number running. are.runs n number (record { begun = running.begun; runs = running.runs });
      ended = λ n number ended. are.ended n number ended;
    })

    -- a message begins, and its hand is taken out
    pub hands_begun : (x m : ℕ) (after : List Slot) → Steps course s (Begin x m) t → after ≡ slice_set hands (m - 1) None → AreHands course asking t after
    hands_begun x m after step is =
        let may = step.0 in
        let turn : Turn = record { worker = x; start = s.clock; ended = false; finish = 0 } in
        let among : IsAmongFirst (length s.turns) m = record { from = may.number.from; to = omega (arith, may.number.to, are.count, are.turns) } in
        let held : IsAmongFirst (length hands) m = record { from = may.number.from; to = omega (arith, may.number.to, are.count, are.many) } in
        let mine : turn_of t m ≡ turn = ap (λ (u : State). turn_of u m) step.1 ∙ turn_same s m turn among in
        let other : (n : ℕ) → n ≢ m → turn_of t n ≡ turn_of s n = λ n unlike. ap (λ (u : State). turn_of u n) step.1 ∙ turn_other s m n turn may.number.from unlike in
        let out : hand_of after m ≡ None = ap (λ hs. hand_of hs m) is ∙ hand_same hands m None held in
        let stays : (n : ℕ) → 1 ≤ n → n ≢ m → hand_of after n ≡ hand_of hands n =
        λ n some unlike. ap (λ hs. hand_of hs n) is ∙ hand_other hands m None n may.number.from some unlike in
        record {
          count = are.count;
          turns = ap (λ (u : State). length u.turns) step.1 ∙ turns_as_many s m turn ∙ are.turns;
          many = ap length is ∙ length-set hands (m - 1) None ∙ are.many;
          waits = λ n number waits. elim (cases_eq n m) [
            | inl same ↦ absurd (waits (omega (arith, may.worker.from, ap (λ (u : Turn). u.worker) (ap (λ k. turn_of t k) same ∙ mine))))
            | inr unlike ↦
                subst (λ slot. IsThere slot (λ asked. asked ≡ [])) (sym (stays n number.from unlike))
                (are.waits n number (subst (λ (u : Turn). ¬ (1 ≤ u.worker)) (other n unlike) waits))
          ];
          runs = λ n number running. elim (cases_eq n m) [
            | inl same ↦ ap (λ k. hand_of after k) same ∙ out
            | inr unlike ↦
                stays n number.from unlike
                ∙ are.runs n number (record {
                  begun = subst (λ (u : Turn). 1 ≤ u.worker) (other n unlike) running.begun;
                  runs = ap (λ (u : Turn). u.ended) (sym (other n unlike)) ∙ running.runs;
                })
          ];
          ended = λ n number ended. elim (cases_eq n m) [
            | inl same ↦ absurd (false≢true (sym (ap (λ (u : Turn). u.ended) (ap (λ k. turn_of t k) same ∙ mine)) ∙ ended))
            | inr unlike ↦
                subst (λ slot. IsThere slot (AsksNumber asking n)) (sym (stays n number.from unlike))
                (are.ended n number (ap (λ (u : Turn). u.ended) (sym (other n unlike)) ∙ ended))
          ];
        }

    -- one that runs ends, and its hand is put back
    hands_back : (m now : ℕ) (slot : Slot) → IsAmongFirst (length asking.messages) m → IsThere slot (AsksNumber asking m)
        → Steps course s (End m now) t → AreHands course asking t (slice_set hands (m - 1) slot)
    hands_back m now slot is_number asks step =
        let running = step.0 in
        let turn : Turn = ended_turn (turn_of s m) (finish_at s m now) in
        let among : IsAmongFirst (length s.turns) m = record { from = is_number.from; to = omega (arith, is_number.to, are.turns) } in
        let held : IsAmongFirst (length hands) m = record { from = is_number.from; to = omega (arith, is_number.to, are.many) } in
        let mine : turn_of t m ≡ turn = ap (λ (u : State). turn_of u m) step.1 ∙ turn_same s m turn among in
        let other : (n : ℕ) → n ≢ m → turn_of t n ≡ turn_of s n = λ n unlike. ap (λ (u : State). turn_of u n) step.1 ∙ turn_other s m n turn is_number.from unlike in
        let after : List Slot = slice_set hands (m - 1) slot in
        let back : hand_of after m ≡ slot = hand_same hands m slot held in
        let stays : (n : ℕ) → 1 ≤ n → n ≢ m → hand_of after n ≡ hand_of hands n = λ n some unlike. hand_other hands m slot n is_number.from some unlike in
        record {
          count = are.count;
          turns = ap (λ (u : State). length u.turns) step.1 ∙ turns_as_many s m turn ∙ are.turns;
          many = length-set hands (m - 1) slot ∙ are.many;
          waits = λ n number waits. elim (cases_eq n m) [
            | inl same ↦ absurd (waits (subst (λ (u : Turn). 1 ≤ u.worker) (sym (ap (λ k. turn_of t k) same ∙ mine)) running.begun))
            | inr unlike ↦
                subst (λ slot. IsThere slot (λ asked. asked ≡ [])) (sym (stays n number.from unlike))
                (are.waits n number (subst (λ (u : Turn). ¬ (1 ≤ u.worker)) (other n unlike) waits))
          ];
          runs = λ n number runs. elim (cases_eq n m) [
            | inl same ↦ absurd (false≢true (sym runs.runs ∙ ap (λ (u : Turn). u.ended) (ap (λ k. turn_of t k) same ∙ mine)))
            | inr unlike ↦
                stays n number.from unlike
                ∙ are.runs n number (record {
                  begun = subst (λ (u : Turn). 1 ≤ u.worker) (other n unlike) runs.begun;
                  runs = ap (λ (u : Turn). u.ended) (sym (other n unlike)) ∙ runs.runs;
                })
          ];
          ended = λ n number ended. elim (cases_eq n m) [
            | inl same ↦
                subst (λ k. IsThere (hand_of after k) (AsksNumber asking k)) (sym same)
                (subst (λ slot. IsThere slot (AsksNumber asking m)) (sym back) asks)
            | inr unlike ↦
                subst (λ slot. IsThere slot (AsksNumber asking n)) (sym (stays n number.from unlike))
                (are.ended n number (ap (λ (u : Turn). u.ended) (sym (other n unlike)) ∙ ended))
          ];
        }

  -- where all have ended
  pub hands_asked : (s : State) (hands : List Slot) → AreHands course asking s hands → AreAllEnded course s → AreAsked asking hands
  hands_asked s hands are all = record {
    many = are.many;
    each = λ n number. are.ended n number (all n (record { from = number.from; to = omega (arith, number.to, are.count) }));
  }

-- hands as they are kept, of which it is known what was asked by them
module _ {H : Type 0} (log : H → Option (List Access)) where
  abbrev known : List (Option H) → List Slot
  known hands = map (option_map log) hands

  known_hand : (hands : List (Option H)) (n : ℕ) → hand_of (known hands) n ≡ option_map log (slice_index_or hands (n - 1) None)
  known_hand hands n = get_or-map (option_map log) hands (n - 1) None

  known_set : (hands after : List (Option H)) (m : ℕ) (hand : Option H) → after ≡ slice_set hands (m - 1) hand
      → known after ≡ slice_set (known hands) (m - 1) (option_map log hand)
  known_set hands after m hand is = ap known is ∙ map-set (option_map log) hands (m - 1) hand

  is_there : (P : List Access → Type 0) (hand : Option H) → IsThere (option_map log hand) P → IsSome hand
  is_there P None there = absurd there
  is_there P (Some h) there = refl

  fresh_hand : (hand : Option H) (h : H) → IsThere (option_map log hand) (λ asked. asked ≡ []) → hand ≡ Some h → IfSome (log h) (λ asked. asked ≡ [])
  fresh_hand hand h there is = subst (λ (slot : Option H). IsThere (option_map log slot) (λ asked. asked ≡ [])) is there

  is_out : (hand : Option H) → option_map log hand ≡ None → hand ≡ None
  is_out None none = refl
  is_out (Some h) none = absurd (none-some (log h) (sym none))

  module _ (course : Course) (asking : Asking) (s t : State) (hands after : List (Option H)) (m : ℕ)
      (are : AreHands course asking s (known hands)) where
    -- a message that may begin has its hand, by which nothing was asked
    module _ (x : ℕ) (step : Steps course s (Begin x m) t) where
      number : IsAmongFirst (length asking.messages) m
      number = record { from = step.0.number.from; to = omega (arith, step.0.number.to, are.count) }

      there : IsThere (option_map log (slice_index_or hands (m - 1) None)) (λ asked. asked ≡ [])
      there = subst (λ slot. IsThere slot (λ asked. asked ≡ [])) (known_hand hands m) (are.waits m number step.0.waits)

      pub has_hand : slice_index_or hands (m - 1) None ≡ None → ⊥
      has_hand none = subst (λ (slot : Option H). IsThere (option_map log slot) (λ asked. asked ≡ [])) none there

      pub has_fresh_hand : (h : H) → slice_index_or hands (m - 1) None ≡ Some h → IfSome (log h) (λ asked. asked ≡ [])
      has_fresh_hand h is = fresh_hand (slice_index_or hands (m - 1) None) h there is

      pub kept_begun : after ≡ slice_set hands (m - 1) None → AreHands course asking t (known after)
      kept_begun is = hands_begun course asking s t (known hands) are x m (known after) step (known_set hands after m None is)

    -- a message that was performed ends, where it runs; else it has its hand, and nothing changes
    pub kept_ended : (now : ℕ) (h : H) → IsAmongFirst (length asking.messages) m → IfSome (log h) (AsksNumber asking m)
        → (IsRunning s m → Steps course s (End m now) t) → (¬ IsRunning s m → t ≡ s)
        → (slice_index_or hands (m - 1) None ≡ None → after ≡ slice_set hands (m - 1) (Some h))
        → (IsSome (slice_index_or hands (m - 1) None) → after ≡ hands) → AreHands course asking t (known after)
    kept_ended now h is_number asks step stays put same =
        let slot = slice_index_or hands (m - 1) None in
        let stay : ¬ IsRunning s m → IsSome slot → AreHands course asking t (known after) =
        λ rests some.
        subst (λ (u : State). AreHands course asking u (known after)) (sym (stays rests))
        (subst (λ (hs : List (Option H)). AreHands course asking s (known hs)) (sym (same some)) are) in
        elim (cases_lt 0 (turn_of s m).worker) [
          | inr none ↦
              let waits : ¬ HasBegun s m = λ begun. omega (arith, none, begun) in
              stay (λ running. waits running.begun)
              (is_there (λ asked. asked ≡ []) slot
              (subst (λ slot. IsThere slot (λ asked. asked ≡ [])) (known_hand hands m) (are.waits m is_number waits)))
          | inl begun ↦ elim (cases_Bool (turn_of s m).ended) [
            | inl ended ↦
                stay (λ running. false≢true (sym running.runs ∙ ended))
                (is_there (AsksNumber asking m) slot (subst (λ slot. IsThere slot (AsksNumber asking m)) (known_hand hands m) (are.ended m is_number ended)))
            | inr runs ↦
                let running : IsRunning s m = record { begun = omega (arith, begun); runs = runs } in
                let out : slot ≡ None = is_out slot (sym (known_hand hands m) ∙ are.runs m is_number running) in
                subst (λ hs. AreHands course asking t hs) (sym (known_set hands after m (Some h) (put out)))
                (hands_back course asking s t (known hands) are m now (Some (log h)) is_number asks (step running))
          ]
        ]

-- hands of a store that tells nothing
module _ {H : Type 0} where
  silent : (hand : Option H) → IsSome hand → IsThere (option_map (λ (_ : H). None) hand) (λ asked. asked ≡ [])
  silent None some = absurd (false≢true some)
  silent (Some h) some = tt

  pub all_silent : (hands : List (Option H)) (count : ℕ) → length hands ≡ count → All IsSome hands
      → AreFresh count (map (option_map (λ (_ : H). None)) hands)
  all_silent hands count long all = record {
    many = length-map hands (option_map (λ (_ : H). None)) ∙ long;
    each = λ n number.
        subst (λ slot. IsThere slot (λ asked. asked ≡ [])) (sym (known_hand (λ (_ : H). None) hands n))
        (silent (slice_index_or hands (n - 1) None)
        (All-get_or IsSome hands (n - 1) None (omega (arith, number.from, number.to, long)) all));
  }
