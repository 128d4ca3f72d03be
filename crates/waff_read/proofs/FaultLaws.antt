-- The first faulty record decides, and where none is faulty each is a message.
use Rattle.std.proofs.Common.{◌≡◌, ℕ, zero, suc, List, [], ◌∷◌, length, take, drop, Some, Result, Ok, Err, slice_get, refl, ap, ◌∙◌, arith, inl, inr}
use Rattle.waff_model.specs.Layout.{Space}
use Rattle.waff_model.specs.Messages.{Arrivals, sizes_of}
use Rattle.waff_model.specs.declared.message.Message.{Message}
use Rattle.waff_model.specs.declared.message.Version.{Version}
use Rattle.waff_parse.specs.Refusals.{◌>>=◌}
use Rattle.waff_parse.specs.Rows.{Record, records_of}
use Rattle.waff_read.specs.Laws.{IsFirstFault, IsRefusedTrace, FirstFaultDecides, IsReadAs, TraceIsExact}
use Rattle.waff_read.specs.Places.{behind, first_place, next_place}
use Rattle.waff_read.specs.Traces.{header_of, message_at, messages_at, trace_of_records, trace_of_rows}
use Rattle.waff_read.specs.declared.place.Place.{Place}
use Rattle.waff_read.specs.declared.trace_fault.TraceError.{TraceError}
use Rattle.waff_read.proofs.TraceLaws.{parts_of, none_read}

module _ (version : Version) (spaces : List Space) where
  -- of the records from a place on each is read as the message at its place, where there is one
  abbrev pub ReadsFrom : Place → List Record → List Message → Type 0
  ReadsFrom place rows messages =
      (k : ℕ) (row : Record) (message : Message) → slice_get rows k ≡ Some row → slice_get messages k ≡ Some message
      → message_at version spaces (behind place (take k messages)) row ≡ Ok message

  reads_more : (place : Place) (first : Record) (rows : List Record) (m : Message) (ms : List Message) → message_at version spaces place first ≡ Ok m
      → ReadsFrom (next_place place m) rows ms → ReadsFrom place (first ∷ rows) (m ∷ ms)
  unfolding behind
  reads_more place first rows m ms is rest zero row message there here =
      let one : first ≡ row = cc in
      let other : m ≡ message = cc in
      rw (← one, ← other) is
  reads_more place first rows m ms is rest (suc k) row message there here = rest k row message there here

  reads_rest : (place : Place) (first : Record) (rows : List Record) (m : Message) (ms : List Message) → ReadsFrom place (first ∷ rows) (m ∷ ms)
      → (message_at version spaces place first ≡ Ok m) × ReadsFrom (next_place place m) rows ms
  unfolding behind
  reads_rest place first rows m ms all = (all 0 first m refl refl, λ k row message there here. all (suc k) row message there here)

  -- the first records are read as these messages, and the one behind them is refused with this error
  record StopsAt (place : Place) (rows : List Record) (messages : List Message) (row : Record) (e : TraceError) : Type 0 where
    there : slice_get rows (length messages) ≡ Some row
    refused : message_at version spaces (behind place messages) row ≡ Err e
    before : ReadsFrom place rows messages

  stopped : (place : Place) (rows : List Record) (e : TraceError) → messages_at version spaces place rows ≡ Err e
      → (messages : List Message) × (row : Record) × StopsAt place rows messages row e
  unfolding messages_at behind
  stopped place [] e h = absurd (cc)
  stopped place (first ∷ rows) e h = by (message_at version spaces place first) refl (λ p again. stopped p rows e again)
    where
      Found : Type 0
      Found = (p : Place) → messages_at version spaces p rows ≡ Err e → (messages : List Message) × (row : Record) × StopsAt p rows messages row e

      later : Found → (m : Message) (rs : Result (List Message) TraceError) → message_at version spaces place first ≡ Ok m
          → messages_at version spaces (next_place place m) rows ≡ rs → (messages : List Message) × (row : Record) × StopsAt place (first ∷ rows) messages row e
      later find m (Ok ms) p q = absurd (cc (rw (p, q) at h))
      later find m (Err d) p q =
          let same : d ≡ e = cc (rw (p, q) at h) in
          let found = find (next_place place m) (q ∙ ap Err same) in
          let stops = found.2 in (
            m ∷ found.0,
            found.1,
            record { there = stops.there; refused = stops.refused; before = reads_more place first rows m found.0 p stops.before },
          )

      by : (r : Result Message TraceError) → message_at version spaces place first ≡ r → Found
          → (messages : List Message) × (row : Record) × StopsAt place (first ∷ rows) messages row e
      by (Ok m) p find = later find m (messages_at version spaces (next_place place m) rows) p refl
      by (Err d) p find =
          let same : d ≡ e = cc (rw p at h) in (
            [],
            first,
            record { there = refl; refused = p ∙ ap Err same; before = λ k row message there here. absurd (cc here) },
          )

  stops : (place : Place) (rows : List Record) (messages : List Message) (row : Record) (e : TraceError) → StopsAt place rows messages row e
      → messages_at version spaces place rows ≡ Err e
  unfolding messages_at behind
  stops place [] messages row e at = absurd (let none = at.there in cc none)
  stops place (first ∷ rows) [] row e at =
      let one : first ≡ row = let there = at.there in cc in
      rw (one, at.refused) refl
  stops place (first ∷ rows) (m ∷ ms) row e at =
      let both = reads_rest place first rows m ms at.before in
      rw (both.0, stops (next_place place m) rows ms row e (record { there = at.there; refused = at.refused; before = both.1 })) refl

  -- as many messages as records, each read at its place
  read_each : (place : Place) (rows : List Record) (messages : List Message) → messages_at version spaces place rows ≡ Ok messages
      → (length messages ≡ length rows) × ReadsFrom place rows messages
  read_each place [] messages h = rw (← (none_read version spaces place messages h)) (refl, λ k row message there here. absurd (cc there))
  read_each place (first ∷ rows) messages h =
      let p = parts_of version spaces place first rows messages h in
      let rest = read_each (next_place place p.first) rows p.others p.more in
      rw (← p.is) (ap suc rest.0, reads_more place first rows p.first p.others p.read rest.1)

  pub each_read : (place : Place) (rows : List Record) (messages : List Message) → length messages ≡ length rows → ReadsFrom place rows messages
      → messages_at version spaces place rows ≡ Ok messages
  unfolding messages_at
  each_read place [] [] count reads = refl
  each_read place [] (m ∷ ms) count reads = absurd (omega (arith, count))
  each_read place (first ∷ rows) [] count reads = absurd (omega (arith, count))
  each_read place (first ∷ rows) (m ∷ ms) count reads =
      let both = reads_rest place first rows m ms reads in
      rw (both.0, each_read (next_place place m) rows ms (omega (arith, count)) both.1) refl

module _ (newest : Version) (spaces : List Space) (rows : List Record) (e : TraceError) where
  -- the first fault of the records after the header
  rows-stopped : (version : Version) → header_of newest rows ≡ Ok version → trace_of_rows version spaces (drop 1 rows) ≡ Err e → IsRefusedTrace newest spaces rows e
  rows-stopped version is h =
      let found = stopped version spaces first_place (drop 1 rows) e (by (messages_at version spaces first_place (drop 1 rows)) h) in
      let stops = found.2 in
      inr (version, found.0, found.1, is, record { there = stops.there; refused = stops.refused; before = stops.before })
    where
      by : (r : Result (List Message) TraceError)
          → ◌≡◌ {A = Result Arrivals TraceError} (r >>= (λ ms. Ok (record { version = version; sizes = sizes_of spaces; messages = ms }))) (Err e)
          → r ≡ Err e
      by (Ok ms) same = absurd (cc)
      by (Err d) same = cc

  stopped-rows : (version : Version) (messages : List Message) (row : Record) → IsFirstFault version spaces (drop 1 rows) messages row e
      → trace_of_rows version spaces (drop 1 rows) ≡ Err e
  stopped-rows version messages row fault =
      let stopped = stops version spaces first_place (drop 1 rows) messages row e
      (record { there = fault.there; refused = fault.refused; before = fault.before }) in
      rw stopped refl

  refused-read : trace_of_records newest spaces rows ≡ Err e → IsRefusedTrace newest spaces rows e
  unfolding trace_of_records
  refused-read h = by (header_of newest rows) refl h
    where
      by : (r : Result Version TraceError) → header_of newest rows ≡ r → (r >>= (λ version. trace_of_rows version spaces (drop 1 rows))) ≡ Err e → IsRefusedTrace newest spaces rows e
      by (Ok version) is same = rows-stopped version is same
      by (Err d) is same = inl (is ∙ cc)

  read-refused : IsRefusedTrace newest spaces rows e → trace_of_records newest spaces rows ≡ Err e
  unfolding trace_of_records
  read-refused (inl none) = rw none refl
  read-refused (inr (version, messages, row, is, fault)) = rw is (stopped-rows version messages row fault)

pub first_fault_decides : (newest : Version) (spaces : List Space) (bytes : List ℕ) → FirstFaultDecides newest spaces bytes
first_fault_decides newest spaces bytes e = (refused-read newest spaces (records_of bytes) e, read-refused newest spaces (records_of bytes) e)

module _ (newest : Version) (spaces : List Space) (rows : List Record) (trace : Arrivals) where
  read_as : trace_of_records newest spaces rows ≡ Ok trace → IsReadAs newest spaces rows trace
  unfolding trace_of_records
  read_as h = by (header_of newest rows) refl h
    where
      messages : (version : Version) (r : Result (List Message) TraceError) → header_of newest rows ≡ Ok version → messages_at version spaces first_place (drop 1 rows) ≡ r
          → ◌≡◌ {A = Result Arrivals TraceError} (r >>= (λ ms. Ok (record { version = version; sizes = sizes_of spaces; messages = ms }))) (Ok trace)
          → IsReadAs newest spaces rows trace
      messages version (Ok ms) is read same =
          let whole : ◌≡◌ {A = Arrivals} (record { version = version; sizes = sizes_of spaces; messages = ms }) trace = cc in
          let each = read_each version spaces first_place (drop 1 rows) ms read in
          rw (← whole) (record { version = is; sizes = refl; count = each.0; messages = each.1 })
      messages version (Err d) is read same = absurd (cc)

      by : (r : Result Version TraceError) → header_of newest rows ≡ r → (r >>= (λ version. trace_of_rows version spaces (drop 1 rows))) ≡ Ok trace → IsReadAs newest spaces rows trace
      by (Ok version) is same = messages version (messages_at version spaces first_place (drop 1 rows)) is refl same
      by (Err d) is same = absurd (cc)

  as_read : IsReadAs newest spaces rows trace → trace_of_records newest spaces rows ≡ Ok trace
  unfolding trace_of_records
  as_read reads =
      let messages = each_read trace.version spaces first_place (drop 1 rows) trace.messages reads.count reads.messages in
      rw (reads.version, messages, ← reads.sizes) refl

pub trace_is_exact : (newest : Version) (spaces : List Space) (bytes : List ℕ) (trace : Arrivals) → TraceIsExact newest spaces bytes trace
trace_is_exact newest spaces bytes trace = (read_as newest spaces (records_of bytes) trace, as_read newest spaces (records_of bytes) trace)
