-- The timings of the messages of a trace: what messages follow by their clients, and their limits.
use Rattle.std.proofs.Common.{◌≡◌, ◌≢◌, ℕ, zero, suc, ◌+◌, ◌-◌, ◌<◌, ◌≤◌, ◌⊎◌, inl, inr, max, true, false, List, [], ◌++◌, ◌↔◌, length, get_or, arith, refl, sym, ◌∙◌, ap, subst}
use Rattle.std.specs.Str.{bytes_eq}
use Rattle.std.proofs.Math.ListN.{get_or-map as read}
use Rattle.std.proofs.lemmas.Bool.{cases_eq, cases_lt, cond_both, cond-false, cond-true, both_ways, false≢true, false_from_ne_true}
use Rattle.std.proofs.lemmas.List.{append-nil, get_or_past, length-map}
use Rattle.std.proofs.lemmas.Option.{slice_get-get_or}
use Rattle.std.proofs.lemmas.List.FromFn.{get_or-map-range_with_len, length-map-range_with_len}
use Rattle.std.proofs.lemmas.Slice.Eq.{bytes_eq-Decides}
use Rattle.waff_model.specs.Messages.{Arrivals, IsMessage, IsTrace, no_client}
use Rattle.waff_model.specs.Awaits.{IsList}
use Rattle.waff_model.specs.Versions.{has_after, has_clients}
use Rattle.waff_model.specs.declared.message.Version.{Version}
use Rattle.waff_model.specs.declared.message.Version.TheVariants.{V1, V2, V3, V4}
use Rattle.waff_model.specs.declared.limits.TheConstants.{MAX_RELEASE, MAX_THINK}
use Rattle.waff_model.specs.declared.message.Message.{Message}
use Rattle.waff_plan.specs.Work.{Await, IsAmongFirst, IsAwaited}
use Rattle.waff_plan.specs.Obeys.{AwaitsEarlier, AwaitsNone, IsEarlier}
use Rattle.waff_plan.specs.Clients.{client_of, last_of, one_before, IsTheOneBefore, AwaitsClients}
use Rattle.waff_plan.specs.Timing.{IsTiming, await_of, client_work_of, no_timing, timing_of, work_of}
use Rattle.waff_plan.specs.Timetable.{AreTimings, clients_of, floor_of, message_of, no_message, timing_after, timing_at, timings_of}
use Rattle.waff_plan.specs.declared.timing.Timing.{Timing}
use Rattle.waff_plan.proofs.AwaitLemmas.{awaited_either, awaited_left, awaited_right, awaited_stands}
use Rattle.waff_plan.proofs.ClientLemmas.{client_follows_earlier}
use Rattle.waff_plan.proofs.FollowLemmas.{awaited_is, awaited_some, awaits_it, awaits_none}

-- the bytes are the same, or not
same_bytes : (xs ys : List ℕ) → xs ≡ ys → bytes_eq xs ys ≡ true
same_bytes xs ys same = (bytes_eq-Decides xs ys).1 same

other_bytes : (xs ys : List ℕ) → xs ≢ ys → bytes_eq xs ys ≡ false
other_bytes xs ys other = false_from_ne_true (bytes_eq xs ys) (λ is. other ((bytes_eq-Decides xs ys).0 is))

are_other : (xs ys : List ℕ) → bytes_eq xs ys ≡ false → xs ≢ ys
are_other xs ys differ same = both_ways (bytes_eq xs ys) differ (same_bytes xs ys same)

-- i is the last of the first n messages that is of this client, or 0 and none is
pub record IsLast (clients : List (List ℕ)) (client : List ℕ) (n i : ℕ) : Type 0 where
  pub some : i ≢ 0 → IsAmongFirst n i × (client_of clients i ≡ client)
  pub none : (k : ℕ) → i < k → k ≤ n → client_of clients k ≢ client

pub last_of_is : (clients : List (List ℕ)) (client : List ℕ) (n : ℕ) → IsLast clients client n (last_of clients client n)
last_of_is clients client zero = record {
  some = λ some. absurd (some refl);
  none = λ k after to. absurd (omega (arith, after, to));
}
last_of_is clients client (suc n) =
    let before = last_of_is clients client n in
    cond_both (bytes_eq (client_of clients (suc n)) client) (suc n) (last_of clients client n) (λ i. IsLast clients client (suc n) i)
    (λ same. record {
      some = λ some. (record { from = omega arith; to = omega arith }, (bytes_eq-Decides (client_of clients (suc n)) client).0 same);
      none = λ k after to. absurd (omega (arith, after, to));
    })
    (λ other. record {
      some = λ some. let found = before.some some in (record { from = found.0.from; to = omega (arith, found.0.to) }, found.1);
      none = λ k after to. elim (cases_eq k (suc n)) [
        | inl here ↦ λ same. are_other (client_of clients (suc n)) client other (ap (client_of clients) (sym here) ∙ same)
        | inr earlier ↦ before.none k after (omega (arith, to, earlier))
      ];
    })

-- there is one last message of a client
pub last_is_one : (clients : List (List ℕ)) (client : List ℕ) (n i j : ℕ) → IsLast clients client n i → IsLast clients client n j → i ≡ j
last_is_one clients client n i j one other = elim (cases_eq i j) [
  | inl same ↦ same
  | inr different ↦ elim (cases_lt i j) [
    | inl less ↦ let found = other.some (omega (arith, less)) in absurd (one.none j less found.0.to found.1)
    | inr more ↦
        let less : j < i = omega (arith, more, different) in
        let found = one.some (omega (arith, less)) in
        absurd (other.none i less found.0.to found.1)
  ]
]

-- the message before another of its client
module _ (clients : List (List ℕ)) (i m : ℕ) (from : 1 ≤ m) (to : m ≤ length clients) where
  client : List ℕ
  client = client_of clients m

  pub before_is : i ≢ 0 → one_before clients m ≡ i → IsTheOneBefore clients i m
  before_is positive is =
      cond_both (bytes_eq (client_of clients m) no_client) 0 (last_of clients (client_of clients m) (m - 1)) (λ x. x ≡ i → IsTheOneBefore clients i m)
      (λ none zero. absurd (positive (sym zero)))
      (λ some last.
      let found = last_of_is clients (client_of clients m) (m - 1) in
      let is_last : IsLast clients (client_of clients m) (m - 1) i = subst (λ x. IsLast clients (client_of clients m) (m - 1) x) last found in
      let at = is_last.some positive in
      record {
        from = at.0.from;
        earlier = omega (arith, at.0.to, from);
        to = to;
        some = are_other (client_of clients m) no_client some;
        same = at.1;
        last = λ n after before. is_last.none n after (omega (arith, before));
      }) is

  pub is_before : IsTheOneBefore clients i m → one_before clients m ≡ i
  is_before before =
      let last : IsLast clients (client_of clients m) (m - 1) i = record {
        some = λ some. (record { from = before.from; to = omega (arith, before.earlier) }, before.same);
        none = λ k after within. before.last k after (omega (arith, within, from));
      } in
      cond-false (bytes_eq (client_of clients m) no_client) 0 (last_of clients (client_of clients m) (m - 1)) (other_bytes (client_of clients m) no_client before.some)
      ∙ last_is_one clients (client_of clients m) (m - 1) (last_of clients (client_of clients m) (m - 1)) i (last_of_is clients (client_of clients m) (m - 1)) last

-- the first message follows none
first_alone : (clients : List (List ℕ)) → one_before clients 1 ≡ 0
first_alone clients = cond_both (bytes_eq (client_of clients 1) no_client) 0 0 (λ x. x ≡ 0) (λ _. refl) (λ _. refl)

-- a message that is of no client follows none
pub none_before : (clients : List (List ℕ)) (m : ℕ) → client_of clients m ≡ no_client → one_before clients m ≡ 0
none_before clients m none =
    cond-true (bytes_eq (client_of clients m) no_client) 0 (last_of clients (client_of clients m) (m - 1)) (same_bytes (client_of clients m) no_client none)

-- each message has a timing
pub length-timings_of : (messages : List Message) → length (timings_of messages) ≡ length messages
length-timings_of messages = length-map-range_with_len (timing_at messages) 1 (length messages)

pub timing_is : (messages : List Message) (m : ℕ) → IsAmongFirst (length messages) m → timing_of (timings_of messages) m ≡ timing_at messages m
timing_is messages m number =
    get_or-map-range_with_len (timing_at messages) 1 (length messages) (m - 1) m no_timing (omega (arith, number.from, number.to)) (omega (arith, number.from))

-- the client of a message
pub client_is : (messages : List Message) (m : ℕ) → client_of (clients_of messages) m ≡ (message_of messages m).client
client_is messages m = read (λ (x : Message). x.client) messages (m - 1) no_message

-- m is a message, or it is none
among_or_not : (n m : ℕ) → IsAmongFirst n m ⊎ (IsAmongFirst n m → ⊥)
among_or_not n m = elim (cases_lt 0 m) [
  | inl from ↦ elim (cases_lt n m) [
    | inl past ↦ inr (λ among. omega (arith, among.to, past))
    | inr to ↦ inl (record { from = omega (arith, from); to = to })
  ]
  | inr none ↦ inr (λ among. omega (arith, among.from, none))
]

-- what is no message has the timing of the first, or none
timing_there : (messages : List Message) (m : ℕ) → (IsAmongFirst (length messages) m → ⊥)
    → (IsAmongFirst (length messages) 1 × (timing_of (timings_of messages) m ≡ timing_at messages 1)) ⊎ (timing_of (timings_of messages) m ≡ no_timing)
timing_there messages zero not_there = elim (cases_lt 0 (length messages)) [
  | inl some ↦
      let first : IsAmongFirst (length messages) 1 = record { from = omega arith; to = omega (arith, some) } in inl (first, timing_is messages 1 first)
  | inr none ↦ inr (get_or_past (timings_of messages) 0 no_timing (omega (arith, none, length-timings_of messages)))
]
timing_there messages (suc m) not_there = elim (cases_lt m (length messages)) [
  | inl within ↦ absurd (not_there (record { from = omega arith; to = omega (arith, within) }))
  | inr past ↦ inr (get_or_past (timings_of messages) (suc m - 1) no_timing (omega (arith, past, length-timings_of messages)))
]

-- so it follows none
none_there : (messages : List Message) (m : ℕ) → (IsAmongFirst (length messages) m → ⊥) → (timing_of (timings_of messages) m).follows ≡ 0
none_there messages m not_there = elim (timing_there messages m not_there) [
  | inl (first, is) ↦ ap (λ (t : Timing). t.follows) is ∙ first_alone (clients_of messages)
  | inr none ↦ ap (λ (t : Timing). t.follows) none
]

-- the list of a message is that of its timing, and where all lists are empty that is so of each number
list_is : (messages : List Message) (m : ℕ) → IsAmongFirst (length messages) m → (timing_of (timings_of messages) m).after ≡ (message_of messages m).after
list_is messages m number = ap (λ (t : Timing). t.after) (timing_is messages m number)

pub lists_none : (messages : List Message) → ((m : ℕ) → IsAmongFirst (length messages) m → (message_of messages m).after ≡ [])
    → (m : ℕ) → (timing_of (timings_of messages) m).after ≡ []
lists_none messages none m = elim (among_or_not (length messages) m) [
  | inl number ↦ list_is messages m number ∙ none m number
  | inr not_there ↦ elim (timing_there messages m not_there) [
    | inl (first, is) ↦ ap (λ (t : Timing). t.after) is ∙ none 1 first
    | inr past ↦ ap (λ (t : Timing). t.after) past
  ]
]

-- by clients each message awaits the one before it of its client
pub timings_follow_clients : (messages : List Message) → AwaitsClients (clients_of messages) (client_work_of (timings_of messages))
timings_follow_clients messages = record {
  count = length-timings_of messages ∙ sym long;
  awaits = λ i m.
      let timing = timing_of (timings_of messages) m in (
        λ awaited.
            let is = awaited_is timing.follows timing.think i awaited in
            let some = awaited_some timing.follows timing.think i awaited in
            elim (among_or_not (length messages) m) [
              | inl number ↦
                  before_is (clients_of messages) i m number.from (omega (arith, number.to, long)) (λ zero. some (is ∙ zero))
                  (sym (ap (λ (t : Timing). t.follows) (timing_is messages m number)) ∙ is)
              | inr not_there ↦ absurd (some (none_there messages m not_there))
            ],
        λ before.
            let from : 1 ≤ m = omega (arith, before.from, before.earlier) in
            let number : IsAmongFirst (length messages) m = record { from = from; to = omega (arith, before.to, long) } in
            let is : timing.follows ≡ i
            = ap (λ (t : Timing). t.follows) (timing_is messages m number) ∙ is_before (clients_of messages) i m from before.to before in
            subst (IsAwaited (await_of timing.follows timing.think)) is
            (awaits_it timing.follows timing.think (λ zero. omega (arith, is, zero, before.from))),
      );
}
  where
    long : length (clients_of messages) ≡ length messages
    long = length-map messages (λ (x : Message). x.client)

-- the list of each number
lists_are : (messages : List Message) (m : ℕ) → (message_of messages m).after ≡ (timing_of (timings_of messages) m).after
lists_are messages m = elim (among_or_not (length messages) m) [
  | inl number ↦ sym (list_is messages m number)
  | inr not_there ↦ none_lists m not_there
]
  where
    past_lists : (k : ℕ) → length messages ≤ k → (get_or messages k no_message).after ≡ (get_or (timings_of messages) k no_timing).after
    past_lists k past =
        ap (λ (x : Message). x.after) (get_or_past messages k no_message past)
        ∙ sym (ap (λ (t : Timing). t.after) (get_or_past (timings_of messages) k no_timing (omega (arith, past, length-timings_of messages))))

    none_lists : (n : ℕ) → (IsAmongFirst (length messages) n → ⊥) → (message_of messages n).after ≡ (timing_of (timings_of messages) n).after
    none_lists zero not_there = elim (cases_lt 0 (length messages)) [
      | inl some ↦ sym (list_is messages 1 (record { from = omega arith; to = omega (arith, some) }))
      | inr none ↦ past_lists 0 (omega (arith, none))
    ]
    none_lists (suc n) not_there = elim (cases_lt n (length messages)) [
      | inl within ↦ absurd (not_there (record { from = omega arith; to = omega (arith, within) }))
      | inr past ↦ past_lists (suc n - 1) (omega (arith, past))
    ]

-- in all it awaits that one, and those of its list
pub timings_await : (messages : List Message) (i m : ℕ)
    → IsAwaited ((work_of (timings_of messages)).awaits m) i ↔ (IsTheOneBefore (clients_of messages) i m ⊎ IsAwaited (message_of messages m).after i)
timings_await messages i m =
    let same = lists_are messages in
    let timing = timing_of (timings_of messages) m in
    let own = await_of timing.follows timing.think in
    let client = (timings_follow_clients messages).awaits i m in (
      λ awaited. elim (awaited_either own timing.after i awaited) [
        | inl before ↦ inl (client.0 before)
        | inr listed ↦ inr (subst (λ xs. IsAwaited xs i) (sym (same m)) listed)
      ],
      λ either. elim either [
        | inl before ↦ awaited_left own timing.after i (client.1 before)
        | inr listed ↦ awaited_right own timing.after i (subst (λ xs. IsAwaited xs i) (same m) listed)
      ],
    )

-- where lists are empty nothing is awaited but by clients
pub awaits_client : (messages : List Message) → ((m : ℕ) → IsAmongFirst (length messages) m → (message_of messages m).after ≡ [])
    → (m : ℕ) → (work_of (timings_of messages)).awaits m ≡ (client_work_of (timings_of messages)).awaits m
awaits_client messages none m =
    let timing = timing_of (timings_of messages) m in
    ap (λ xs. await_of timing.follows timing.think ++ xs) (lists_none messages none m) ∙ append-nil (await_of timing.follows timing.think)

-- messages of no client that have no lists await none
pub timings_alone : (messages : List Message) → ((m : ℕ) → IsAmongFirst (length messages) m → (message_of messages m).client ≡ no_client)
    → ((m : ℕ) → IsAmongFirst (length messages) m → (message_of messages m).after ≡ []) → AwaitsNone (work_of (timings_of messages))
timings_alone messages alone none m =
    awaits_client messages none m
    ∙ awaits_none (timing_of (timings_of messages) m).follows (timing_of (timings_of messages) m).think (elim (among_or_not (length messages) m) [
      | inl number ↦
          ap (λ (t : Timing). t.follows) (timing_is messages m number)
          ∙ none_before (clients_of messages) m (client_is messages m ∙ alone m number)
      | inr not_there ↦ none_there messages m not_there
    ])

max_none : (n : ℕ) → max n 0 ≡ n
max_none n = omega arith

-- the timing of a message of no client that waits for no think time
pub timing_alone : (messages : List Message) (n : ℕ) (message : Message) → message_of messages n ≡ message → message.client ≡ no_client → message.think ≡ 0
    → timing_at messages n ≡ record { cost = message.cost; floor = message.release; follows = 0; think = 0; after = message.after }
timing_alone messages n message is none no_think =
    let alone : one_before (clients_of messages) n ≡ 0
    = none_before (clients_of messages) n (client_is messages n ∙ ap (λ (x : Message). x.client) is ∙ none) in
    let of : Message → Timing = λ x. timing_after x 0 in
    let with : ℕ → ℕ → Timing = λ think floor. record { cost = message.cost; floor = floor; follows = 0; think = think; after = message.after } in
    ap (timing_after (message_of messages n)) alone ∙ ap of is ∙ ap (λ t. with t (max message.release t)) no_think ∙ ap (with 0) (max_none message.release)

-- without clients and thinks each message has its own release
pub floor_alone : (messages : List Message) (m : ℕ) → IsAmongFirst (length messages) m → (message_of messages m).client ≡ no_client
    → (message_of messages m).think ≡ 0 → (work_of (timings_of messages)).floor m ≡ (message_of messages m).release
floor_alone messages m number none no_think =
    ap (λ (t : Timing). t.floor) (timing_is messages m number ∙ timing_alone messages m (message_of messages m) refl none no_think)

-- before versions have clients they have no lists
no_clients_no_lists : (version : Version) → has_clients version ≡ false → has_after version ≡ false
no_clients_no_lists V1 without = refl
no_clients_no_lists V2 without = refl
no_clients_no_lists V3 without = refl
no_clients_no_lists V4 without = absurd (false≢true (sym without))

floor_small : (message : Message) (f : ℕ) → message.release ≤ MAX_RELEASE → message.think ≤ MAX_THINK → floor_of message f ≤ MAX_RELEASE
floor_small message zero release think = omega (arith, release, think)
floor_small message (suc f) release think = release

module _ (trace : Arrivals) (is_trace : IsTrace trace) where
  pub message_at : (m : ℕ) → IsAmongFirst (length trace.messages) m → IsMessage trace.version trace.sizes (message_of trace.messages m)
  message_at m number = is_trace.messages (m - 1) no_message (omega (arith, number.from, number.to))

  -- the list of a message
  pub list_at : (m : ℕ) → IsAmongFirst (length trace.messages) m → IsList m (message_of trace.messages m).after
  list_at m number =
      let there = slice_get-get_or trace.messages (m - 1) no_message (omega (arith, number.from, number.to)) in
      let place : 1 + (m - 1) ≡ m = omega (arith, number.from) in
      subst (λ n. IsList n (message_of trace.messages m).after) place (is_trace.lists (m - 1) (message_of trace.messages m) there)

  -- what stands in a list comes earlier
  listed_earlier : (i m : ℕ) → IsAwaited (timing_of (timings_of trace.messages) m).after i → IsEarlier (work_of (timings_of trace.messages)) i m
  listed_earlier i m listed = elim (among_or_not (length trace.messages) m) [
    | inl number ↦
        let list = list_at m number in
        let within = subst (λ xs. IsAwaited xs i) (list_is trace.messages m number) listed in
        let (a, (from, is)) = awaited_stands (λ (a : Await). 1 ≤ a.message) (message_of trace.messages m).after i list.from within in
        let (b, (earlier, also)) = awaited_stands (λ (a : Await). a.message < m) (message_of trace.messages m).after i list.earlier within in
        record { from = omega (arith, from, is); earlier = omega (arith, earlier, also); to = omega (arith, number.to, length-timings_of trace.messages) }
    | inr not_there ↦ elim (timing_there trace.messages m not_there) [
      | inl (first, is) ↦
          let list = list_at 1 first in
          let within = subst (λ xs. IsAwaited xs i) (ap (λ (t : Timing). t.after) is) listed in
          let (a, (from, same)) = awaited_stands (λ (a : Await). 1 ≤ a.message) (message_of trace.messages 1).after i list.from within in
          let (b, (earlier, also)) = awaited_stands (λ (a : Await). a.message < 1) (message_of trace.messages 1).after i list.earlier within in
          absurd (omega (arith, from, same, earlier, also))
      | inr past ↦ absurd (subst (λ (t : Timing). IsAwaited t.after i) past listed)
    ]
  ]

  awaits_earlier : AwaitsEarlier (work_of (timings_of trace.messages))
  awaits_earlier i m awaited =
      let timing = timing_of (timings_of trace.messages) m in
      elim (awaited_either (await_of timing.follows timing.think) timing.after i awaited) [
        | inl client ↦
            let before = client_follows_earlier (clients_of trace.messages) (client_work_of (timings_of trace.messages)) (timings_follow_clients trace.messages) i m client in
            record { from = before.from; earlier = before.earlier; to = before.to }
        | inr listed ↦ listed_earlier i m listed
      ]

  timing_small : (m : ℕ) → IsAmongFirst (length trace.messages) m → IsTiming (timing_at trace.messages m)
  timing_small m number =
      let message = message_at m number in
      record {
        some_cost = message.some_cost;
        cost = message.within_cost;
        floor = floor_small (message_of trace.messages m) (one_before (clients_of trace.messages) m) message.within_release message.within_think;
        think = message.within_think;
        gaps = (list_at m number).gaps;
      }

  -- the timings of a trace are timings of its version
  pub are_timings : AreTimings trace.version (timings_of trace.messages)
  are_timings = record {
    small = λ k d within.
        let short : k < length trace.messages = omega (arith, within, length-timings_of trace.messages) in
        subst IsTiming (sym (get_or-map-range_with_len (timing_at trace.messages) 1 (length trace.messages) k (suc k) d short (omega arith)))
        (timing_small (suc k) (record { from = omega arith; to = omega (arith, short) }));
    earlier = awaits_earlier;
    alone = λ without. timings_alone trace.messages (λ m number. (message_at m number).no_client without)
        (λ m number. (message_at m number).no_list (no_clients_no_lists trace.version without));
  }
