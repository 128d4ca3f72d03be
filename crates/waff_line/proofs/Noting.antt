-- What is noted goes with the state of the machine.
use Rattle.std.proofs.Common.{◌≡◌, ◌≢◌, ℕ, zero, suc, ◌+◌, ◌-◌, ◌<◌, ◌≤◌, inl, inr, max, true, false, List, ◌∷◌, length, map, replicate, set, get_or, refl, ap, sym, ◌∙◌, subst, arith}
use Rattle.std.proofs.lemmas.Bool.{cases_eq, cases_lt, false≢true}
use Rattle.std.proofs.lemmas.List.{get_or-map, get_or-replicate, get_or-set_other, get_or-set_same, get_or_past, length-map, length-replicate, length-set, map-set}
use Rattle.waff_plan.specs.Work.{IsAmongFirst}
use Rattle.waff_plan.specs.declared.due.TheConstants.{NEVER}
use Rattle.waff_line.specs.Machine.{State, Turn, HasBegun, IsFree, IsRunning, begun_on, ended_at, ended_turn, finish_at, finish_in, no_turn, start_in, turn_of, with_clock}
use Rattle.waff_line.specs.Noted.{AreNoted, CanBegin, RunsOn, shown, state_of}
use Rattle.waff_line.specs.declared.turn.Turn.{Turn as NotedTurn}
use Rattle.waff_line.proofs.Turns.{begun_number, turn_other, turn_same}

-- the turn of a message is the one that is noted at its place
pub turn_at : (clock : ℕ) (turns : List NotedTurn) (m : ℕ) (d : NotedTurn) → 1 ≤ m → m ≤ length turns
    → turn_of (state_of clock turns) m ≡ shown (get_or turns (m - 1) d)
turn_at clock turns zero d from to = absurd (omega (arith, from))
turn_at clock turns (suc k) d from to =
    let at : suc k - 1 ≡ k = omega arith in
    rw at (get_or-map shown turns k d no_turn (omega (arith, to)))

-- and there is none past the last one
pub turn_past : (clock : ℕ) (turns : List NotedTurn) (m : ℕ) → length turns < m → turn_of (state_of clock turns) m ≡ no_turn
turn_past clock turns zero past = refl
turn_past clock turns (suc k) past =
    let long = length-map turns shown in get_or_past (map shown turns) k no_turn (omega (arith, past, long))

-- a worker that runs no message is free
pub free_at : (s : State) (runs : List ℕ) (x : ℕ) → AreNoted s runs → get_or runs (x - 1) 0 ≡ 0
    → (n : ℕ) → IsRunning s n → (turn_of s n).worker ≢ x
free_at s runs x h idle n running on =
    let none : n ≡ 0 = sym (h.own n running) ∙ ap (λ w. get_or runs (w - 1) 0) on ∙ idle in
    let begun : HasBegun s 0 = subst (HasBegun s) none running.begun in
    omega (arith, begun)

module _ (s : State) (runs : List ℕ) (h : AreNoted s runs) where
  module _ (workers x m : ℕ) (many : length runs ≡ workers) (can : CanBegin s workers x m) where
    abbrev new_turn : Turn
    new_turn = record { worker = x; start = s.clock; ended = false; finish = 0 }

    self_turn : turn_of (begun_on s x m) m ≡ new_turn
    self_turn = turn_same s m new_turn can.number

    other_turn : (n : ℕ) → n ≢ m → turn_of (begun_on s x m) n ≡ turn_of s n
    other_turn n unlike = turn_other s m n new_turn can.number.from unlike

    own_begun : (n : ℕ) → IsRunning (begun_on s x m) n → get_or (set runs (x - 1) m) ((turn_of (begun_on s x m) n).worker - 1) 0 ≡ n
    own_begun n running = elim (cases_eq n m) [
      | inl is ↦
          let from = can.worker.from in
          let to = can.worker.to in
          let on : (turn_of (begun_on s x m) n).worker ≡ x
          = ap (λ k. (turn_of (begun_on s x m) k).worker) is ∙ ap (λ (turn : Turn). turn.worker) self_turn in
          ap (λ w. get_or (set runs (x - 1) m) (w - 1) 0) on ∙ get_or-set_same runs (x - 1) m 0 (omega (arith, from, to, many)) ∙ sym is
      | inr unlike ↦
          let same = other_turn n unlike in
          let worker = ap (λ (turn : Turn). turn.worker) same in
          let begun = running.begun in
          let from = can.worker.from in
          let was : IsRunning s n
          = record { begun = omega (arith, begun, worker); runs = sym (ap (λ (turn : Turn). turn.ended) same) ∙ running.runs } in
          let apart : (turn_of s n).worker - 1 ≢ x - 1 = λ is. can.free n was (omega (arith, is, begun, worker, from)) in
          ap (λ w. get_or (set runs (x - 1) m) (w - 1) 0) worker
          ∙ get_or-set_other runs (x - 1) ((turn_of s n).worker - 1) m 0 apart ∙ h.own n was
    ]

    pub noted_begun : AreNoted (begun_on s x m) (set runs (x - 1) m)
    noted_begun = record {
      own = own_begun;
      busy = λ y from_y some. elim (cases_eq (y - 1) (x - 1)) [
        | inl same ↦
            let at : get_or (set runs (x - 1) m) (y - 1) 0 ≡ m
            = ap (λ k. get_or (set runs (x - 1) m) k 0) same ∙ get_or-set_same runs (x - 1) m 0 (omega (arith, can.worker.from, can.worker.to, many)) in
            subst (λ k. RunsOn (begun_on s x m) k y) (sym at) (
              record {
                begun = omega (arith, can.worker.from, ap (λ (turn : Turn). turn.worker) self_turn);
                runs = ap (λ (turn : Turn). turn.ended) self_turn;
              },
              omega (arith, same, from_y, can.worker.from, ap (λ (turn : Turn). turn.worker) self_turn),
            )
        | inr apart ↦
            let at = get_or-set_other runs (x - 1) (y - 1) m 0 apart in
            let was = h.busy y from_y (λ none. some (at ∙ none)) in
            let unlike : get_or runs (y - 1) 0 ≢ m = λ is. can.waits (subst (HasBegun s) is was.0.begun) in
            let same = other_turn (get_or runs (y - 1) 0) unlike in
            let worker = ap (λ (turn : Turn). turn.worker) same in
            subst (λ k. RunsOn (begun_on s x m) k y) (sym at) (
              record { begun = omega (arith, was.0.begun, worker); runs = ap (λ (turn : Turn). turn.ended) same ∙ was.0.runs },
              worker ∙ was.1,
            )
      ];
      early = λ n begun. elim (cases_eq n m) [
        | inl is ↦
            let start = ap (λ k. start_in (begun_on s x m) k) is in
            let now = ap (λ (turn : Turn). turn.start) self_turn in
            let early = can.early in
            omega (arith, early, start, now)
        | inr unlike ↦
            let same = other_turn n unlike in
            let worker = ap (λ (turn : Turn). turn.worker) same in
            let start = ap (λ (turn : Turn). turn.start) same in
            let early = h.early n (omega (arith, begun, worker)) in
            omega (arith, start, early)
      ];
      past = λ n. elim (cases_eq n m) [
        | inl is ↦ omega (arith, ap (λ k. finish_in (begun_on s x m) k) is, ap (λ (turn : Turn). turn.finish) self_turn)
        | inr unlike ↦ omega (arith, ap (λ (turn : Turn). turn.finish) (other_turn n unlike), h.past n)
      ];
    }

  pub noted_later : (clock : ℕ) → s.clock ≤ clock → AreNoted (with_clock s clock) runs
  noted_later clock later = record {
    own = λ n running. h.own n (record { begun = running.begun; runs = running.runs });
    busy = λ x from some. let was = h.busy x from some in (record { begun = was.0.begun; runs = was.0.runs }, was.1);
    early = h.early;
    past = λ n. omega (arith, h.past n, later);
  }

  module _ (m now : ℕ) (running : IsRunning s m) where
    -- there is the worker of a message that runs
    pub worker_there : (turn_of s m).worker - 1 < length runs
    worker_there = elim (cases_lt ((turn_of s m).worker - 1) (length runs)) [
      | inl less ↦ less
      | inr past ↦
          let none : m ≡ 0 = sym (h.own m running) ∙ get_or_past runs ((turn_of s m).worker - 1) 0 past in
          let begun : HasBegun s 0 = subst (HasBegun s) none running.begun in
          absurd (omega (arith, begun))
    ]

    abbrev last_turn : Turn
    last_turn = ended_turn (turn_of s m) (finish_at s m now)

    self_ended : turn_of (ended_at s m now) m ≡ last_turn
    self_ended = turn_same s m last_turn (begun_number s m running.begun)

    other_ended : (n : ℕ) → n ≢ m → turn_of (ended_at s m now) n ≡ turn_of s n
    other_ended n unlike = turn_other s m n last_turn (begun_number s m running.begun).from unlike

    pub noted_ended : AreNoted (ended_at s m now) (set runs ((turn_of s m).worker - 1) 0)
    noted_ended = record {
      own = λ n runs_now. elim (cases_eq n m) [
        | inl is ↦
            let over : (turn_of (ended_at s m now) n).ended ≡ true
            = ap (λ k. (turn_of (ended_at s m now) k).ended) is ∙ ap (λ (turn : Turn). turn.ended) self_ended in
            absurd (false≢true (sym runs_now.runs ∙ over))
        | inr unlike ↦
            let same = other_ended n unlike in
            let worker = ap (λ (turn : Turn). turn.worker) same in
            let begun = runs_now.begun in
            let was : IsRunning s n
            = record { begun = omega (arith, begun, worker); runs = sym (ap (λ (turn : Turn). turn.ended) same) ∙ runs_now.runs } in
            let apart : (turn_of s n).worker - 1 ≢ (turn_of s m).worker - 1
            = λ is. unlike (sym (h.own n was) ∙ ap (λ w. get_or runs w 0) is ∙ h.own m running) in
            ap (λ w. get_or (set runs ((turn_of s m).worker - 1) 0) (w - 1) 0) worker
            ∙ get_or-set_other runs ((turn_of s m).worker - 1) ((turn_of s n).worker - 1) 0 0 apart ∙ h.own n was
      ];
      busy = λ y from_y some. elim (cases_eq (y - 1) ((turn_of s m).worker - 1)) [
        | inl same ↦
            absurd (some (ap (λ k. get_or (set runs ((turn_of s m).worker - 1) 0) k 0) same
            ∙ get_or-set_same runs ((turn_of s m).worker - 1) 0 0 worker_there))
        | inr apart ↦
            let at = get_or-set_other runs ((turn_of s m).worker - 1) (y - 1) 0 0 apart in
            let was = h.busy y from_y (λ none. some (at ∙ none)) in
            let unlike : get_or runs (y - 1) 0 ≢ m
            = λ is. apart (ap (λ k. k - 1) (sym was.1 ∙ ap (λ k. (turn_of s k).worker) is)) in
            let same = other_ended (get_or runs (y - 1) 0) unlike in
            let worker = ap (λ (turn : Turn). turn.worker) same in
            subst (λ k. RunsOn (ended_at s m now) k y) (sym at) (
              record { begun = omega (arith, was.0.begun, worker); runs = ap (λ (turn : Turn). turn.ended) same ∙ was.0.runs },
              worker ∙ was.1,
            )
      ];
      early = λ n begun. elim (cases_eq n m) [
        | inl is ↦
            let start = ap (λ k. start_in (ended_at s m now) k) is in
            let kept = ap (λ (turn : Turn). turn.start) self_ended in
            let early = h.early m running.begun in
            omega (arith, early, start, kept)
        | inr unlike ↦
            let same = other_ended n unlike in
            let worker = ap (λ (turn : Turn). turn.worker) same in
            let start = ap (λ (turn : Turn). turn.start) same in
            let early = h.early n (omega (arith, begun, worker)) in
            omega (arith, start, early)
      ];
      past = λ n. elim (cases_eq n m) [
        | inl is ↦ omega (arith, ap (λ k. finish_in (ended_at s m now) k) is, ap (λ (turn : Turn). turn.finish) self_ended)
        | inr unlike ↦ omega (arith, ap (λ (turn : Turn). turn.finish) (other_ended n unlike), h.past n)
      ];
    }

-- a turn that is written at its place
pub written : (clock : ℕ) (turns : List NotedTurn) (k : ℕ) (turn : NotedTurn) (seen : Turn) → shown turn ≡ seen
    → map shown (set turns k turn) ≡ set (map shown turns) k seen
written clock turns k turn seen is = map-set shown turns k turn ∙ ap (set (map shown turns) k) is

abbrev pair_of : State → ℕ → State × ℕ
pair_of s n = (s, n)

-- nothing is noted at the beginning
map_replicate : (n : ℕ) (turn : NotedTurn) (seen : Turn) → shown turn ≡ seen → map shown (replicate n turn) ≡ replicate n seen
map_replicate zero turn seen is = refl
map_replicate (suc n) turn seen is = ap (λ x. x ∷ map shown (replicate n turn)) is ∙ ap (λ xs. seen ∷ xs) (map_replicate n turn seen is)

abbrev fresh : ℕ → State
fresh count = record { clock = 0; turns = replicate count no_turn }

none_turn : (count n : ℕ) → turn_of (fresh count) n ≡ no_turn
none_turn count zero = refl
none_turn count (suc k) = elim (cases_lt k count) [
  | inl within ↦ get_or-replicate count k no_turn no_turn within
  | inr past ↦ let long = length-replicate count no_turn in get_or_past (replicate count no_turn) k no_turn (omega (arith, past, long))
]

none_begun : (count n : ℕ) → HasBegun (fresh count) n → ⊥
none_begun count n begun = omega (arith, begun, ap (λ (turn : Turn). turn.worker) (none_turn count n))

zero_at : (workers k : ℕ) → ◌≡◌ {A = ℕ} (get_or (replicate workers 0) k 0) 0
zero_at workers k = elim (cases_lt k workers) [
  | inl within ↦ get_or-replicate {A = ℕ} workers k 0 0 within
  | inr past ↦ get_or_past (replicate {A = ℕ} workers 0) k 0 (omega (arith, past, length-replicate {A = ℕ} workers 0))
]

module _ (count workers : ℕ) (turns : List NotedTurn) (runs : List ℕ) (turn : NotedTurn) (seen : shown turn ≡ no_turn)
    (all : turns ≡ replicate count turn) where
  fresh_turns : map shown turns ≡ replicate count no_turn
  fresh_turns = ap (map shown) all ∙ map_replicate count turn no_turn seen

  pub none_noted : runs ≡ replicate workers 0 → AreNoted (state_of 0 turns) runs
  none_noted idle = subst (λ ts. AreNoted (record { clock = 0; turns = ts }) runs) (sym fresh_turns) (record {
    own = λ n running. absurd (none_begun count n running.begun);
    busy = λ x from some. absurd (some (ap (λ ns. get_or ns (x - 1) 0) idle ∙ zero_at workers (x - 1)));
    early = λ n begun. absurd (none_begun count n begun);
    past = λ n. omega (arith, ap (λ (turn : Turn). turn.finish) (none_turn count n));
  })

  pub none_shown : length runs ≡ workers → ◌≡◌ {A = State × ℕ} (state_of 0 turns, length runs) (fresh count, workers)
  none_shown many =
      ap (λ (ts : List Turn). pair_of (record { clock = 0; turns = ts }) (length runs)) fresh_turns
      ∙ ap (λ (n : ℕ). pair_of (fresh count) n) many

module _ (clock : ℕ) (turns : List NotedTurn) (runs : List ℕ) (v : State × ℕ) (is : ◌≡◌ {A = State × ℕ} (state_of clock turns, length runs) v)
    (h : AreNoted (state_of clock turns) runs) where
  -- a message begins
  module _ (x m : ℕ) (can : CanBegin v.0 v.1 x m) (turn : NotedTurn)
      (seen : shown turn ≡ record { worker = x; start = clock; ended = false; finish = 0 }) where
    can_here : CanBegin (state_of clock turns) (length runs) x m
    can_here = subst (λ (p : State × ℕ). CanBegin p.0 p.1 x m) (sym is) can

    begun_here : state_of clock (set turns (m - 1) turn) ≡ begun_on (state_of clock turns) x m
    begun_here =
        ap (λ (ts : List Turn). let s : State = record { clock = clock; turns = ts } in s)
        (written clock turns (m - 1) turn (record { worker = x; start = clock; ended = false; finish = 0 }) seen)

    pub begun_noted : AreNoted (state_of clock (set turns (m - 1) turn)) (set runs (x - 1) m)
    begun_noted =
        subst (λ (s : State). AreNoted s (set runs (x - 1) m)) (sym begun_here)
        (noted_begun (state_of clock turns) runs h (length runs) x m refl can_here)

    pub begun_shown : ◌≡◌ {A = State × ℕ} (state_of clock (set turns (m - 1) turn), length (set runs (x - 1) m)) (begun_on v.0 x m, v.1)
    begun_shown =
        ap (λ (s : State). pair_of s (length (set runs (x - 1) m))) begun_here
        ∙ ap (λ (n : ℕ). pair_of (begun_on (state_of clock turns) x m) n) (length-set runs (x - 1) m)
        ∙ ap (λ (p : State × ℕ). pair_of (begun_on p.0 x m) p.1) is

  -- a message ends
  module _ (m now : ℕ) (running : IsRunning v.0 m) where
    runs_here : IsRunning (state_of clock turns) m
    runs_here = subst (λ (p : State × ℕ). IsRunning p.0 m) (sym is) running

    pub number_here : IsAmongFirst (length turns) m
    number_here =
        let number = begun_number (state_of clock turns) m runs_here.begun in
        let from = number.from in
        let to = number.to in
        let long = length-map turns shown in
        record { from = from; to = omega (arith, to, long) }

    module _ (t : NotedTurn) (read : t ≡ get_or turns (m - 1) t) where
      seen_here : shown t ≡ turn_of (state_of clock turns) m
      seen_here = ap shown read ∙ sym (turn_at clock turns m t number_here.from number_here.to)

      pub worker_from : 1 ≤ t.worker
      worker_from = let begun = runs_here.begun in let worker = ap (λ (turn : Turn). turn.worker) seen_here in omega (arith, begun, worker)

      pub worker_within : t.worker - 1 < length runs
      worker_within =
          let there = worker_there (state_of clock turns) runs h m now runs_here in
          let worker = ap (λ (turn : Turn). turn.worker) seen_here in
          omega (arith, there, worker)

      pub start_early : t.start < NEVER
      start_early =
          let early = h.early m runs_here.begun in
          let start = ap (λ (turn : Turn). turn.start) seen_here in
          omega (arith, early, start)

      pub staffed : 1 ≤ v.1
      staffed =
          let workers = ap (λ (p : State × ℕ). p.1) is in
          let within = worker_within in
          omega (arith, workers, within)

      module _ (f : ℕ) (f_is : f ≡ max (max now clock) (t.start + 1)) where
        finish_here : f ≡ finish_at (state_of clock turns) m now
        finish_here = f_is ∙ ap (λ (start : ℕ). max (max now clock) (start + 1)) (ap (λ (turn : Turn). turn.start) seen_here)

        pub ended_finish : f ≡ finish_at v.0 m now
        ended_finish = finish_here ∙ ap (λ (p : State × ℕ). finish_at p.0 m now) is

        module _ (new : NotedTurn) (new_is : shown new ≡ ended_turn (shown t) f) where
          ended_here : state_of f (set turns (m - 1) new) ≡ ended_at (state_of clock turns) m now
          ended_here =
              let last = ended_turn (turn_of (state_of clock turns) m) (finish_at (state_of clock turns) m now) in
              ap (λ (ts : List Turn). let s : State = record { clock = f; turns = ts } in s)
              (written clock turns (m - 1) new last
              (new_is ∙ ap (λ (turn : Turn). ended_turn turn f) seen_here ∙ ap (ended_turn (turn_of (state_of clock turns) m)) finish_here))
              ∙ ap (λ (c : ℕ). let s : State = record { clock = c; turns = set (map shown turns) (m - 1) last } in s) finish_here

          pub ended_noted : AreNoted (state_of f (set turns (m - 1) new)) (set runs (t.worker - 1) 0)
          ended_noted =
              subst (λ (w : ℕ). AreNoted (state_of f (set turns (m - 1) new)) (set runs (w - 1) 0))
              (sym (ap (λ (turn : Turn). turn.worker) seen_here))
              (subst (λ (s : State). AreNoted s (set runs ((turn_of (state_of clock turns) m).worker - 1) 0)) (sym ended_here)
              (noted_ended (state_of clock turns) runs h m now runs_here))

          pub ended_shown : ◌≡◌ {A = State × ℕ} (state_of f (set turns (m - 1) new), length (set runs (t.worker - 1) 0)) (ended_at v.0 m now, v.1)
          ended_shown =
              ap (λ (s : State). pair_of s (length (set runs (t.worker - 1) 0))) ended_here
              ∙ ap (λ (n : ℕ). pair_of (ended_at (state_of clock turns) m now) n) (length-set runs (t.worker - 1) 0)
              ∙ ap (λ (p : State × ℕ). pair_of (ended_at p.0 m now) p.1) is

-- a worker is free where no message is noted, and only there
module _ (clock : ℕ) (turns : List NotedTurn) (runs : List ℕ) (v : State × ℕ) (is : ◌≡◌ {A = State × ℕ} (state_of clock turns, length runs) v)
    (h : AreNoted (state_of clock turns) runs) (x : ℕ) (worker : IsAmongFirst (length runs) x) where
  pub idle_free : get_or runs (x - 1) 0 ≡ 0 → IsAmongFirst v.1 x × IsFree v.0 x
  idle_free idle = subst (λ (p : State × ℕ). IsAmongFirst p.1 x × IsFree p.0 x) is (worker, free_at (state_of clock turns) runs x h idle)

  pub free_idle : IsAmongFirst v.1 x × IsFree v.0 x → get_or runs (x - 1) 0 ≡ 0
  free_idle free = elim (cases_eq (get_or runs (x - 1) 0) 0) [
    | inl idle ↦ idle
    | inr busy ↦
        let was = h.busy x worker.from busy in
        let here = subst (λ (p : State × ℕ). IsAmongFirst p.1 x × IsFree p.0 x) (sym is) free in
        absurd (here.1 (get_or runs (x - 1) 0) was.0 was.1)
  ]
