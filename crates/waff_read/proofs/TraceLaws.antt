-- The messages of a trace, one record after the other.
use Rattle.std.proofs.Common.{◌≡◌, ℕ, zero, suc, ◌+◌, ◌-◌, ◌≤◌, List, [], ◌∷◌, ◌++◌, length, Bool, true, false, Some, Result, Ok, Err, refl, sym, ap, subst, ◌∙◌, append_assoc, arith}
use Rattle.std.specs.Prelude.{All, IfOk, drop, if◌then◌else◌}
use Rattle.std.proofs.lemmas.List.{append-nil}
use Rattle.std.proofs.lemmas.List.Elements.{All-cons, All-nil}
use Rattle.std.proofs.lemmas.List.Sums.{sum_by-append}
use Rattle.std.proofs.lemmas.Option.{slice_get_within}
use Rattle.waff_model.specs.Awaits.{AreLists, IsList, awaited_in}
use Rattle.waff_model.specs.Layout.{Space}
use Rattle.waff_model.specs.Messages.{Arrivals, IsMessage, ops_in, sizes_of}
use Rattle.waff_model.specs.Versions.{max_messages}
use Rattle.waff_model.specs.declared.limits.TheConstants.{MAX_ALL_OPS, MAX_AWAITED}
use Rattle.waff_model.specs.declared.message.Message.{Message}
use Rattle.waff_model.specs.declared.message.Version.{Version}
use Rattle.waff_parse.specs.Refusals.{◌>>=◌, told}
use Rattle.waff_parse.specs.Rows.{BeginsWithNoText, GivesNext, Record, is_text}
use Rattle.waff_parse.specs.declared.stop.Stop.{Stop}
use Rattle.waff_parse.specs.declared.stop.Stop.TheVariants as stop
use Rattle.waff_parse.specs.Stopping.{Stops}
use Rattle.waff_parse.specs.Walks.{with_front}
use Rattle.waff_parse.proofs.Laws.{told-if}
use Rattle.waff_read.specs.Messages.{message_of}
use Rattle.waff_read.specs.Places.{behind, first_place, next_place}
use Rattle.waff_read.specs.Traces.{message_at, messages_at, trace_of_rows, trace_of_records, header_of, GivesMessage}
use Rattle.waff_read.specs.TraceFaults.{at_record}
use Rattle.waff_read.specs.declared.place.Place.{Place}
use Rattle.waff_read.specs.declared.trace_fault.TraceFault.{TraceFault}
use Rattle.waff_read.specs.declared.trace_fault.TraceFault.TheVariants as fault
use Rattle.waff_read.specs.declared.trace_fault.TraceError.{TraceError}
use Rattle.waff_read.proofs.MessageLaws.{Fits, message_of-fits}

-- a record of text is a message, or refused as none
pub message_at-text : (version : Version) (spaces : List Space) (place : Place) (row : Record) → is_text row ≡ true
    → message_at version spaces place row ≡ told (at_record place.at) (message_of version spaces place row)
unfolding message_at
message_at-text version spaces place row h = rw h refl

-- a record that is no text is refused
pub message_at-no-text : (version : Version) (spaces : List Space) (place : Place) (row : Record) → is_text row ≡ false
    → message_at version spaces place row ≡ Err (at_record place.at fault.Csv)
unfolding message_at
message_at-no-text version spaces place row h = rw h refl

-- the message of a record is within the limits, and not one too many
pub message_at-fits : (version : Version) (spaces : List Space) (place : Place) (row : Record) → IfOk (message_at version spaces place row) (Fits version spaces place)
unfolding message_at
message_at-fits version spaces place row = told-if (Fits version spaces place) (at_record place.at) _ (by (is_text row))
  where
    by : (b : Bool) → IfOk (if b then message_of version spaces place row else Err fault.Csv) (Fits version spaces place)
    by true = message_of-fits version spaces place row
    by false = tt

pub fits-message : (version : Version) (spaces : List Space) (place : Place) (row : Record) (message : Message) → message_at version spaces place row ≡ Ok message
    → Fits version spaces place message
fits-message version spaces place row message h = rw h at (message_at-fits version spaces place row)

-- what a read that found a record of text gives
pub gives-message : (version : Version) (spaces : List Space) (place : Place) (left : List Record) (row : Record) (others : List Record) (message : Message)
    → GivesNext (Ok true) left row others → message_of version spaces place row ≡ Ok message
    → GivesMessage version spaces place (Ok (Some message)) left others
gives-message version spaces place left row others message next m =
    (row, next.0, message_at-text version spaces place row next.1 ∙ ap (told (at_record place.at)) m)

-- what a fault of a record of text gives
pub gives-fault : (version : Version) (spaces : List Space) (place : Place) (left : List Record) (row : Record) (others after : List Record) (why : TraceFault) (e : TraceError)
    → GivesNext (Ok true) left row others → message_of version spaces place row ≡ Err why → e ≡ at_record place.at why
    → GivesMessage version spaces place (Err (stop.Fault e)) left after
gives-fault version spaces place left row others after why e next m is =
    (row, others, next.0, message_at-text version spaces place row next.1 ∙ ap (told (at_record place.at)) m ∙ ap Err (sym is))

-- what a record that is no text gives
pub gives-no-text : (version : Version) (spaces : List Space) (place : Place) (left after : List Record) (e : TraceError)
    → BeginsWithNoText left → e ≡ at_record place.at fault.Csv
    → GivesMessage version spaces place (Err (stop.Fault e)) left after
gives-no-text version spaces place left after e begins is =
    (begins.0, begins.1, begins.2, message_at-no-text version spaces place begins.0 begins.3 ∙ ap Err (sym is))

-- one more message
pub walk-message : (version : Version) (spaces : List Space) (place : Place) (front : List Message) (left others : List Record) (message : Message)
    → GivesMessage version spaces place (Ok (Some message)) left others
    → with_front (front ++ message ∷ []) (messages_at version spaces (next_place place message) others) ≡ with_front front (messages_at version spaces place left)
unfolding messages_at with_front
walk-message version spaces place front left others message h = rw (h.1, h.2) (by (messages_at version spaces (next_place place message) others))
  where
    by : (r : Result (List Message) TraceError) → with_front (front ++ message ∷ []) r ≡ with_front front (r >>= (λ ms. Ok (message ∷ ms)))
    by (Ok ms) = ap Ok (append_assoc front (message ∷ []) ms)
    by (Err e) = refl

-- the error at which the messages stop
pub walk-error : (version : Version) (spaces : List Space) (place : Place) (front : List Message) (left others : List Record) (why : Stop TraceError)
    → GivesMessage version spaces place (Err why) left others → Stops why (with_front front (messages_at version spaces place left))
unfolding messages_at with_front
walk-error version spaces place front left others stop.Memory h = tt
walk-error version spaces place front left others (stop.Fault e) h = rw (h.2, h.3) refl

-- the messages so far are all, where no record is left
pub whole-messages : (version : Version) (spaces : List Space) (place from : Place) (front : List Message) (left all : List Record)
    → left ≡ [] → with_front front (messages_at version spaces place left) ≡ messages_at version spaces from all
    → messages_at version spaces from all ≡ Ok front
unfolding messages_at with_front
whole-messages version spaces place from front left all none whole = sym whole ∙ rw none (ap Ok (append-nil front))

-- an error of a message is one of all
pub error-messages : (version : Version) (spaces : List Space) (place from : Place) (front : List Message) (left others all : List Record) (why : Stop TraceError)
    → GivesMessage version spaces place (Err why) left others
    → with_front front (messages_at version spaces place left) ≡ messages_at version spaces from all
    → Stops why (messages_at version spaces from all)
error-messages version spaces place from front left others all why h whole =
    rw whole at (walk-error version spaces place front left others why h)

-- a message that is read is within the limits, and not one too many
pub next-fits : (version : Version) (spaces : List Space) (place : Place) (left others : List Record) (message : Message)
    → GivesMessage version spaces place (Ok (Some message)) left others → Fits version spaces place message
next-fits version spaces place left others message h = fits-message version spaces place h.0 message h.2

-- the sizes of a trace that is read are those of the spaces
sizes-if : (newest : Version) (spaces : List Space) (rows : List Record) → IfOk (trace_of_records newest spaces rows) (λ trace. trace.sizes ≡ sizes_of spaces)
unfolding trace_of_records
sizes-if newest spaces rows = by (header_of newest rows)
  where
    messages : (version : Version) (read : Result (List Message) TraceError)
        → IfOk (read >>= (λ ms. Ok (record { version = version; sizes = sizes_of spaces; messages = ms }))) (λ (trace : Arrivals). trace.sizes ≡ sizes_of spaces)
    messages version (Ok ms) = refl
    messages version (Err e) = tt

    by : (header : Result Version TraceError) → IfOk (header >>= (λ version. trace_of_rows version spaces (drop 1 rows))) (λ (trace : Arrivals). trace.sizes ≡ sizes_of spaces)
    by (Ok version) = messages version (messages_at version spaces first_place (drop 1 rows))
    by (Err e) = tt

pub sizes-trace : (newest : Version) (spaces : List Space) (rows : List Record) (trace : Arrivals) → trace_of_records newest spaces rows ≡ Ok trace → trace.sizes ≡ sizes_of spaces
sizes-trace newest spaces rows trace h = rw h at (sizes-if newest spaces rows)

-- what is read is read
abbrev read-as : {F A : Type 0} → A → Result A F
read-as x = Ok x

pub is-ok : {F A : Type 0} (x y : A) → read-as {F = F} x ≡ read-as y → x ≡ y
is-ok x y e = cc

-- the operations of a message and more
pub ops_in-cons : (message : Message) (more : List Message) → ops_in (message ∷ more) ≡ length message.ops + ops_in more
ops_in-cons message more =
    let both = sum_by-append (λ (m : Message). length m.ops) (message ∷ []) more in
    let one : ops_in (message ∷ []) ≡ 0 + length message.ops = refl in
    omega (arith, both, one)

-- the messages that a message and more await by their lists
pub awaited_in-cons : (message : Message) (more : List Message) → awaited_in (message ∷ more) ≡ length message.after + awaited_in more
awaited_in-cons message more =
    let both = sum_by-append (λ (m : Message). length m.after) (message ∷ []) more in
    let one : awaited_in (message ∷ []) ≡ 0 + length message.after = refl in
    omega (arith, both, one)

-- the list of a message, and those of more
pub lists-head : (first : ℕ) (message : Message) (more : List Message) → AreLists first (message ∷ more) → IsList first message.after
lists-head first message more lists = subst (λ (n : ℕ). IsList n message.after) (omega arith) (lists 0 message refl)

pub lists-tail : (first : ℕ) (message : Message) (more : List Message) → AreLists first (message ∷ more) → AreLists (first + 1) more
lists-tail first message more lists k other at = subst (λ (n : ℕ). IsList n other.after) (omega arith) (lists (suc k) other at)

lists-cons : (first : ℕ) (message : Message) (more : List Message) → IsList first message.after → AreLists (first + 1) more → AreLists first (message ∷ more)
lists-cons first message more list lists zero other at =
    let same : message ≡ other = cc in
    subst (λ (m : Message). IsList (first + 0) m.after) same (subst (λ (n : ℕ). IsList n message.after) (omega arith) list)
lists-cons first message more list lists (suc k) other at = subst (λ (n : ℕ). IsList n other.after) (omega arith) (lists k other at)

-- what is known of messages, by their first record and the others
module _ (version : Version) (spaces : List Space) where
  -- messages of a record and more are that of the record and theirs behind it
  pub record Parts (place : Place) (row : Record) (rows : List Record) (messages : List Message) : Type 0 where
    pub first : Message
    pub others : List Message
    pub is : first ∷ others ≡ messages
    pub read : message_at version spaces place row ≡ Ok first
    pub more : messages_at version spaces (next_place place first) rows ≡ Ok others

  pub parts_of : (place : Place) (row : Record) (rows : List Record) (messages : List Message) → messages_at version spaces place (row ∷ rows) ≡ Ok messages → Parts place row rows messages
  unfolding messages_at
  parts_of place row rows messages h = by (message_at version spaces place row) refl
    where
      behind_it : (m : Message) (rs : Result (List Message) TraceError) → message_at version spaces place row ≡ Ok m → messages_at version spaces (next_place place m) rows ≡ rs
          → Parts place row rows messages
      behind_it m (Ok ms) p q = record { first = m; others = ms; is = is-ok (m ∷ ms) messages (rw (p, q) at h); read = p; more = q }
      behind_it m (Err e) p q = absurd (cc (rw (p, q) at h))

      by : (r : Result Message TraceError) → message_at version spaces place row ≡ r → Parts place row rows messages
      by (Ok m) p = behind_it m (messages_at version spaces (next_place place m) rows) p refl
      by (Err e) p = absurd (cc (rw p at h))

  pub none_read : (place : Place) (messages : List Message) → messages_at version spaces place [] ≡ Ok messages → [] ≡ messages
  unfolding messages_at
  none_read place messages h = is-ok [] messages h

  -- messages that are read are within the limits
  pub messages-fit : (place : Place) (rows : List Record) (messages : List Message)
      → messages_at version spaces place rows ≡ Ok messages → All (IsMessage version (sizes_of spaces)) messages
  messages-fit place [] messages h = rw (← (none_read place messages h)) (All-nil (IsMessage version (sizes_of spaces)))
  messages-fit place (row ∷ rows) messages h =
      let p = parts_of place row rows messages h in
      rw (← p.is)
      (All-cons (IsMessage version (sizes_of spaces)) p.first p.others (fits-message version spaces place row p.first p.read).within
      (messages-fit (next_place place p.first) rows p.others p.more))

  -- there are not too many of them
  pub messages-few : (place : Place) (rows : List Record) (messages : List Message)
      → messages_at version spaces place rows ≡ Ok messages → place.at ≤ max_messages version + 2 → place.at + length messages ≤ max_messages version + 2
  messages-few place [] messages h low = rw (← (none_read place messages h)) (omega (arith, low))
  messages-few place (row ∷ rows) messages h low =
      let p = parts_of place row rows messages h in
      let fits = fits-message version spaces place row p.first p.read in
      let few = messages-few (next_place place p.first) rows p.others p.more (omega (arith, fits.counted)) in
      rw (← p.is) (omega (arith, few))

  -- nor are their operations
  pub ops-few : (place : Place) (rows : List Record) (messages : List Message)
      → messages_at version spaces place rows ≡ Ok messages → place.ops ≤ MAX_ALL_OPS → place.ops + ops_in messages ≤ MAX_ALL_OPS
  ops-few place [] messages h low = rw (← (none_read place messages h)) (omega (arith, low))
  ops-few place (row ∷ rows) messages h low =
      let p = parts_of place row rows messages h in
      let fits = fits-message version spaces place row p.first p.read in
      let few = ops-few (next_place place p.first) rows p.others p.more (omega (arith, fits.room)) in
      rw (← p.is) (omega (arith, few, ops_in-cons p.first p.others))

  -- their lists name earlier ones
  pub lists-read : (place : Place) (rows : List Record) (messages : List Message)
      → messages_at version spaces place rows ≡ Ok messages → 1 ≤ place.at → AreLists (place.at - 1) messages
  lists-read place [] messages h some =
      rw (← (none_read place messages h)) (λ k message at. absurd (omega (arith, slice_get_within [] k message at)))
  lists-read place (row ∷ rows) messages h some =
      let p = parts_of place row rows messages h in
      let fits = fits-message version spaces place row p.first p.read in
      let more = lists-read (next_place place p.first) rows p.others p.more (omega arith) in
      rw (← p.is)
      (lists-cons (place.at - 1) p.first p.others fits.after.is_list (subst (λ (n : ℕ). AreLists n p.others) (omega (arith, some)) more))

  -- and have not too many messages
  pub awaited-few : (place : Place) (rows : List Record) (messages : List Message)
      → messages_at version spaces place rows ≡ Ok messages → place.awaited ≤ MAX_AWAITED → place.awaited + awaited_in messages ≤ MAX_AWAITED
  awaited-few place [] messages h low = rw (← (none_read place messages h)) (omega (arith, low))
  awaited-few place (row ∷ rows) messages h low =
      let p = parts_of place row rows messages h in
      let fits = fits-message version spaces place row p.first p.read in
      let here = fits.after.few in
      let few = awaited-few (next_place place p.first) rows p.others p.more (omega (arith, here, low)) in
      rw (← p.is) (omega (arith, few, awaited_in-cons p.first p.others))

-- the place behind messages
pub behind-push : (place : Place) (messages : List Message) (message : Message) → behind place (messages ++ message ∷ []) ≡ next_place (behind place messages) message
unfolding behind
behind-push place [] message = refl
behind-push place (first ∷ more) message = behind-push (next_place place first) more message

pub behind-ops : (place : Place) (messages : List Message) → (behind place messages).ops ≡ place.ops + ops_in messages
unfolding behind
behind-ops place [] = omega arith
behind-ops place (first ∷ more) =
    let rest = behind-ops (next_place place first) more in
    rest ∙ omega (arith, ops_in-cons first more)

pub behind-awaited : (place : Place) (messages : List Message) → (behind place messages).awaited ≡ place.awaited + awaited_in messages
unfolding behind
behind-awaited place [] = omega arith
behind-awaited place (first ∷ more) =
    let rest = behind-awaited (next_place place first) more in
    rest ∙ omega (arith, awaited_in-cons first more)
