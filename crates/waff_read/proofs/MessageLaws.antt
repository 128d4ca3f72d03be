-- A message that was read is within the limits, and its cells lie in the spaces.
use Rattle.std.proofs.Common.{◌≡◌, ℕ, ◌+◌, ◌-◌, ◌≤◌, List, [], length, Bool, true, false, Option, Some, None, Result, Ok, Err, refl, ap, arith}
use Rattle.std.specs.Prelude.{IfOk, IfSome, ok_or, option_and_then, nat_le, nat_lt, ◌==◌, if◌then◌else◌}
use Rattle.std.specs.List.{flat_map}
use Rattle.std.proofs.lemmas.Bool.{both_ways, leb-true, leb-false, ltb-false}
use Rattle.std.proofs.lemmas.Grind.{flat_map-append}
use Rattle.std.proofs.lemmas.List.{length-append}
use Rattle.std.proofs.lemmas.List.Elements.{All-append, All-nil}
use Rattle.waff_model.specs.Cells.{cells_of, cells_of_op}
use Rattle.waff_model.specs.Layout.{Space}
use Rattle.waff_model.specs.Messages.{IsMessage, no_client, sizes_of}
use Rattle.waff_model.specs.Names.{is_name}
use Rattle.waff_model.specs.Versions.{has_after, has_clients, has_releases, max_messages, max_ops}
use Rattle.waff_model.specs.declared.awaits.Await.{Await}
use Rattle.waff_model.specs.declared.limits.TheConstants.{MAX_ALL_OPS, MAX_COST, MAX_RELEASE, MAX_THINK}
use Rattle.waff_model.specs.declared.message.Message.{Message}
use Rattle.waff_model.specs.declared.message.Version.{Version}
use Rattle.waff_model.specs.declared.op.Op.{Op}
use Rattle.waff_parse.specs.Fields.{Field, field_of}
use Rattle.waff_parse.specs.Refusals.{◌>>=◌, one}
use Rattle.waff_parse.specs.Rows.{Record}
use Rattle.waff_parse.specs.Texts.{number_of, number_within, parts, within}
use Rattle.waff_parse.specs.Walks.{gather}
use Rattle.waff_parse.proofs.Laws.{gather-if, gather-length}
use Rattle.waff_parse.proofs.TextLaws.{parts-cons}
use Rattle.waff_read.specs.Awaits.{after_of}
use Rattle.waff_read.specs.Messages.{Columns, client_of, cost_of, columns_with, counted, header_row, message_of, message_of_columns, message_of_row, name_of, only, release_of, think_of}
use Rattle.waff_read.specs.Ops.{op_of}
use Rattle.waff_read.specs.Pieces.{joined, ops_of, or_range, piece_of, pieces_of}
use Rattle.waff_read.specs.Places.{lesser, most_ops}
use Rattle.waff_read.specs.Ranges.{ops_of_range, range_of}
use Rattle.waff_read.specs.TraceFaults.{number}
use Rattle.waff_read.specs.declared.place.Place.{Place}
use Rattle.waff_read.specs.declared.range.Range.{Range}
use Rattle.waff_read.specs.declared.trace_fault.TraceFault.{TraceFault}
use Rattle.waff_read.specs.declared.trace_fault.TraceFault.TheVariants as fault
use Rattle.waff_read.proofs.AwaitLaws.{IsAwaited, after_of-awaited}
use Rattle.waff_read.proofs.OpLaws.{AllLie, Lies, OpLies, op_of-lies}
use Rattle.waff_read.proofs.RangeLaws.{IsRange, ops_on-lie, ops_on-some, range_of-is}

-- the operations for which a piece stands lie in the spaces, and there is one at least
record AreSome (spaces : List Space) (list : List Op) : Type 0 where
  some : 1 ≤ length list
  lie : AllLie spaces (cells_of list)

one-are : (spaces : List Space) (r : Result Op TraceFault) → IfOk r (OpLies spaces) → IfOk (one r) (AreSome spaces)
one-are spaces (Ok op) h = record { some = omega arith; lie = All-append (Lies spaces) (cells_of_op op) [] h (All-nil (Lies spaces)) }
one-are spaces (Err e) h = tt

range-are : (spaces : List Space) (r : Result Range TraceFault) → IfOk r (IsRange spaces) → IfOk (ops_of_range r) (AreSome spaces)
range-are spaces (Ok range) h = record { some = ops_on-some spaces range h; lie = ops_on-lie spaces range h }
range-are spaces (Err e) h = tt

either-are : (spaces : List Space) (range one : Result (List Op) TraceFault) → IfOk range (AreSome spaces) → IfOk one (AreSome spaces) → IfOk (or_range range one) (AreSome spaces)
either-are spaces range (Ok list) p q = q
either-are spaces range (Err fault.Op) p q = p
either-are spaces range (Err fault.Csv) p q = tt
either-are spaces range (Err fault.Header) p q = tt
either-are spaces range (Err fault.Fields) p q = tt
either-are spaces range (Err fault.Name) p q = tt
either-are spaces range (Err fault.Cost) p q = tt
either-are spaces range (Err fault.NoOps) p q = tt
either-are spaces range (Err fault.SpaceUnknown) p q = tt
either-are spaces range (Err fault.IndexTooLarge) p q = tt
either-are spaces range (Err fault.TooManyOps) p q = tt
either-are spaces range (Err fault.TooManyMessages) p q = tt
either-are spaces range (Err fault.Release) p q = tt
either-are spaces range (Err fault.Client) p q = tt
either-are spaces range (Err fault.Think) p q = tt
either-are spaces range (Err fault.After) p q = tt
either-are spaces range (Err fault.TooManyAfter) p q = tt

piece_of-are : (version : Version) (spaces : List Space) (piece : List ℕ) → IfOk (piece_of version spaces piece) (AreSome spaces)
unfolding piece_of
piece_of-are version spaces piece = by (has_clients version)
  where
    single : IfOk (one (op_of spaces piece)) (AreSome spaces)
    single = one-are spaces (op_of spaces piece) (op_of-lies spaces piece)

    by : (b : Bool) → IfOk (if b then or_range (ops_of_range (range_of spaces piece)) (one (op_of spaces piece)) else one (op_of spaces piece)) (AreSome spaces)
    by true = either-are spaces (ops_of_range (range_of spaces piece)) (one (op_of spaces piece)) (range-are spaces (range_of spaces piece) (range_of-is spaces piece)) single
    by false = single

abbrev flat : List (List Op) → List Op
flat lists = flat_map (λ list. list) lists

pieces_of-lie : (version : Version) (spaces : List Space) (text : List ℕ) → IfOk (pieces_of version spaces text) (λ list. AllLie spaces (cells_of list))
unfolding pieces_of
pieces_of-lie version spaces text =
    by (gather number (piece_of version spaces) (parts 59 text))
    (gather-if number (piece_of version spaces) (AreSome spaces) (λ lists. AllLie spaces (cells_of (flat lists))) (All-nil (Lies spaces))
    (λ list lists h hs. rw (flat_map-append cells_of_op list (flat lists)) (All-append (Lies spaces) (cells_of list) (cells_of (flat lists)) h.lie hs))
    (piece_of-are version spaces) (parts 59 text))
  where
    by : (r : Result (List (List Op)) TraceFault) → IfOk r (λ lists. AllLie spaces (cells_of (flat lists))) → IfOk (joined r) (λ list. AllLie spaces (cells_of list))
    by (Ok lists) h = h
    by (Err e) h = tt

pieces_of-some : (version : Version) (spaces : List Space) (text : List ℕ) → IfOk (pieces_of version spaces text) (λ list. 1 ≤ length list)
unfolding pieces_of
pieces_of-some version spaces text =
    by (gather number (piece_of version spaces) (parts 59 text)) (gather-length number (piece_of version spaces) (parts 59 text))
    (gather-if number (piece_of version spaces) (AreSome spaces) (λ lists. length lists ≤ length (flat lists)) (omega arith)
    (λ list lists h hs. omega (arith, h.some, hs, length-append list (flat lists)))
    (piece_of-are version spaces) (parts 59 text))
  where
    by : (r : Result (List (List Op)) TraceFault) → IfOk r (λ lists. length lists ≡ length (parts 59 text)) → IfOk r (λ lists. length lists ≤ length (flat lists))
        → IfOk (joined r) (λ list. 1 ≤ length list)
    by (Ok lists) h k = omega (arith, h, k, ap length (parts-cons 59 text).2)
    by (Err e) h k = tt

-- the operations of a message: some, not too many, on cells of the spaces
pub record AreOps (spaces : List Space) (most : ℕ) (list : List Op) : Type 0 where
  pub some : 1 ≤ length list
  pub few : length list ≤ most
  pub lie : AllLie spaces (cells_of list)

ops_of-within : (version : Version) (spaces : List Space) (most : ℕ) (text : List ℕ) → IfOk (ops_of version spaces most text) (AreOps spaces most)
unfolding ops_of
ops_of-within version spaces most text = by (length text == 0) (pieces_of version spaces text) (pieces_of-some version spaces text) (pieces_of-lie version spaces text)
  where
    few : (list : List Op) (b : Bool) → nat_lt most (length list) ≡ b → 1 ≤ length list → AllLie spaces (cells_of list)
        → IfOk (if b then Err fault.TooManyOps else Ok list) (AreOps spaces most)
    few list true e some lie = tt
    few list false e some lie = record { some = some; few = ltb-false _ _ e; lie = lie }

    by : (b : Bool) (r : Result (List Op) TraceFault) → IfOk r (λ list. 1 ≤ length list) → IfOk r (λ list. AllLie spaces (cells_of list))
        → IfOk (if b then Err fault.NoOps else (r >>= (λ list. if nat_lt most (length list) then Err fault.TooManyOps else Ok list))) (AreOps spaces most)
    by true r some lie = tt
    by false (Ok list) some lie = few list (nat_lt most (length list)) refl some lie
    by false (Err e) some lie = tt

-- a number within limits
number_within-within : (low high : ℕ) (text : List ℕ) → IfSome (number_within low high text) (λ n. (low ≤ n) × (n ≤ high))
number_within-within low high text = by (number_of text)
  where
    in_limits : (n : ℕ) (a b : Bool) → nat_lt n low ≡ a → nat_lt high n ≡ b → IfSome (if a then None else if b then None else Some n) (λ n. (low ≤ n) × (n ≤ high))
    in_limits n true b p q = tt
    in_limits n false true p q = tt
    in_limits n false false p q = (ltb-false _ _ p, ltb-false _ _ q)

    by : (o : Option ℕ) → IfSome (option_and_then (within low high) o) (λ n. (low ≤ n) × (n ≤ high))
    by None = tt
    by (Some n) = in_limits n (nat_lt n low) (nat_lt high n) refl refl

ok_or-if : {A : Type 0} (P : A → Type 0) (o : Option A) (e : TraceFault) → IfSome o P → IfOk (ok_or o e) P
ok_or-if P None e h = tt
ok_or-if P (Some x) e h = h

name_of-named : (text : List ℕ) → IfOk (name_of text) (λ name. is_name name ≡ true)
name_of-named text = by (is_name text) refl
  where
    by : (b : Bool) → is_name text ≡ b → IfOk (if b then Ok text else Err fault.Name) (λ name. is_name name ≡ true)
    by true h = h
    by false h = tt

counted-few : (version : Version) (at : ℕ) → IfOk (counted version at) (λ _. at ≤ max_messages version + 1)
counted-few version at = by (nat_lt (max_messages version + 1) at) refl
  where
    by : (b : Bool) → nat_lt (max_messages version + 1) at ≡ b → IfOk (if b then Err fault.TooManyMessages else Ok at) (λ _. at ≤ max_messages version + 1)
    by true h = tt
    by false h = ltb-false _ _ h

-- the lesser of two numbers is at most both
lesser-both : (a b : ℕ) → (lesser a b ≤ a) × (lesser a b ≤ b)
lesser-both a b = by (nat_le a b) refl
  where
    by : (t : Bool) → nat_le a b ≡ t → ((if t then a else b) ≤ a) × ((if t then a else b) ≤ b)
    by true h = (omega arith, leb-true a b h)
    by false h = (omega (arith, leb-false a b h), omega arith)

-- as many operations fit as are within both limits
pub fits-most : (version : Version) (place : Place) (n : ℕ) → n ≤ max_ops version → place.ops + n ≤ MAX_ALL_OPS → n ≤ most_ops version place
fits-most version place n few room = by (nat_le (max_ops version) (MAX_ALL_OPS - place.ops))
  where
    by : (t : Bool) → n ≤ (if t then max_ops version else MAX_ALL_OPS - place.ops)
    by true = few
    by false = omega (arith, room)

-- a message that is read is within the limits, and neither it nor its operations nor its list are too many
pub record Fits (version : Version) (spaces : List Space) (place : Place) (message : Message) : Type 0 where
  pub within : IsMessage version (sizes_of spaces) message
  pub counted : place.at ≤ max_messages version + 1
  pub room : place.ops + length message.ops ≤ MAX_ALL_OPS
  pub after : IsAwaited place message.after

abbrev IsReleaseOf : Version → ℕ → Type 0
IsReleaseOf version release = (release ≤ MAX_RELEASE) × (has_releases version ≡ false → release ≡ 0)

abbrev IsClientOf : Version → Field → Type 0
IsClientOf version client = (is_name client ≡ true) × (has_clients version ≡ false → client ≡ no_client)

abbrev IsThinkOf : Version → ℕ → Type 0
IsThinkOf version think = (think ≤ MAX_THINK) × (has_clients version ≡ false → think ≡ 0)

abbrev IsAfterOf : Version → Place → List Await → Type 0
IsAfterOf version place list = IsAwaited place list × (has_after version ≡ false → list ≡ [])

-- what the columns of a version tell
told-release : (version : Version) (text : Field) → IfOk (release_of (only (has_releases version) text)) (IsReleaseOf version)
told-release version text = by (has_releases version) refl
  where
    some : (o : Option ℕ) → has_releases version ≡ true → IfSome o (λ n. (0 ≤ n) × (n ≤ MAX_RELEASE)) → IfOk (ok_or o fault.Release) (IsReleaseOf version)
    some None has h = tt
    some (Some n) has h = (h.1, λ none. absurd (both_ways (has_releases version) none has))

    by : (b : Bool) → has_releases version ≡ b → IfOk (release_of (only b text)) (IsReleaseOf version)
    by true has = some (number_within 0 MAX_RELEASE text) has (number_within-within 0 MAX_RELEASE text)
    by false none = (omega arith, λ _. refl)

told-client : (version : Version) (text : Field) → IfOk (client_of (only (has_clients version) text)) (IsClientOf version)
told-client version text = by (has_clients version) refl
  where
    some : (b : Bool) → is_name text ≡ b → has_clients version ≡ true → IfOk (if b then Ok text else Err fault.Client) (IsClientOf version)
    some true h has = (h, λ none. absurd (both_ways (has_clients version) none has))
    some false h has = tt

    by : (b : Bool) → has_clients version ≡ b → IfOk (client_of (only b text)) (IsClientOf version)
    by true has = some (is_name text) refl has
    by false none = (refl, λ _. refl)

told-think : (version : Version) (text : Field) → IfOk (think_of (only (has_clients version) text)) (IsThinkOf version)
told-think version text = by (has_clients version) refl
  where
    some : (o : Option ℕ) → has_clients version ≡ true → IfSome o (λ n. (0 ≤ n) × (n ≤ MAX_THINK)) → IfOk (ok_or o fault.Think) (IsThinkOf version)
    some None has h = tt
    some (Some n) has h = (h.1, λ none. absurd (both_ways (has_clients version) none has))

    by : (b : Bool) → has_clients version ≡ b → IfOk (think_of (only b text)) (IsThinkOf version)
    by true has = some (number_within 0 MAX_THINK text) has (number_within-within 0 MAX_THINK text)
    by false none = (omega arith, λ _. refl)

told-after : (version : Version) (place : Place) (text : Field) → IfOk (after_of place (only (has_after version) text)) (IsAfterOf version place)
told-after version place text = by (has_after version) refl
  where
    some : (r : Result (List Await) TraceFault) → has_after version ≡ true → IfOk r (IsAwaited place) → IfOk r (IsAfterOf version place)
    some (Ok list) has h = (h, λ none. absurd (both_ways (has_after version) none has))
    some (Err e) has h = tt

    by : (b : Bool) → has_after version ≡ b → IfOk (after_of place (only b text)) (IsAfterOf version place)
    by true has = some (after_of place (Some text)) has (after_of-awaited place (Some text))
    by false none = (after_of-awaited place None, λ _. refl)

message_of_columns-fits : (version : Version) (spaces : List Space) (place : Place) (columns : Columns)
    → IfOk (release_of columns.release) (IsReleaseOf version) → IfOk (client_of columns.client) (IsClientOf version) → IfOk (think_of columns.think) (IsThinkOf version)
    → IfOk (after_of place columns.after) (IsAfterOf version place)
    → IfOk (message_of_columns version spaces place columns) (Fits version spaces place)
unfolding message_of_columns
message_of_columns-fits version spaces place columns released named_client thought listed =
    by (name_of columns.name) (cost_of columns.cost) (ops_of version spaces (most_ops version place) columns.ops) (counted version place.at) (release_of columns.release)
    (client_of columns.client) (think_of columns.think) (after_of place columns.after)
    (name_of-named columns.name) (ok_or-if (λ c. (1 ≤ c) × (c ≤ MAX_COST)) (number_within 1 MAX_COST columns.cost) fault.Cost (number_within-within 1 MAX_COST columns.cost))
    (ops_of-within version spaces (most_ops version place) columns.ops) (counted-few version place.at) released named_client thought listed
  where
    by : (n : Result Field TraceFault) (c : Result ℕ TraceFault) (o : Result (List Op) TraceFault) (a : Result ℕ TraceFault) (r : Result ℕ TraceFault)
        (k : Result Field TraceFault) (t : Result ℕ TraceFault) (l : Result (List Await) TraceFault)
        → IfOk n (λ name. is_name name ≡ true) → IfOk c (λ cost. (1 ≤ cost) × (cost ≤ MAX_COST)) → IfOk o (AreOps spaces (most_ops version place))
        → IfOk a (λ _. place.at ≤ max_messages version + 1) → IfOk r (IsReleaseOf version) → IfOk k (IsClientOf version) → IfOk t (IsThinkOf version) → IfOk l (IsAfterOf version place)
        → IfOk (do
          name ← n
          cost ← c
          ops ← o
          _ ← a
          release ← r
          client ← k
          think ← t
          after ← l
          Ok (record { name = name; cost = cost; release = release; client = client; think = think; after = after; ops = ops })) (Fits version spaces place)
    by (Err e) c o a r k t l hn hc ho ha hr hk ht hl = tt
    by (Ok n) (Err e) o a r k t l hn hc ho ha hr hk ht hl = tt
    by (Ok n) (Ok c) (Err e) a r k t l hn hc ho ha hr hk ht hl = tt
    by (Ok n) (Ok c) (Ok o) (Err e) r k t l hn hc ho ha hr hk ht hl = tt
    by (Ok n) (Ok c) (Ok o) (Ok a) (Err e) k t l hn hc ho ha hr hk ht hl = tt
    by (Ok n) (Ok c) (Ok o) (Ok a) (Ok r) (Err e) t l hn hc ho ha hr hk ht hl = tt
    by (Ok n) (Ok c) (Ok o) (Ok a) (Ok r) (Ok k) (Err e) l hn hc ho ha hr hk ht hl = tt
    by (Ok n) (Ok c) (Ok o) (Ok a) (Ok r) (Ok k) (Ok t) (Err e) hn hc ho ha hr hk ht hl = tt
    by (Ok n) (Ok c) (Ok o) (Ok a) (Ok r) (Ok k) (Ok t) (Ok l) hn hc ho ha hr hk ht hl =
        let least = lesser-both (max_ops version) (MAX_ALL_OPS - place.ops) in
        let some = ho.some in
        let few = ho.few in
        record {
          within = record {
            named = hn;
            some_cost = hc.0;
            within_cost = hc.1;
            within_release = hr.0;
            no_release = hr.1;
            named_client = hk.0;
            no_client = hk.1;
            within_think = ht.0;
            no_think = ht.1;
            no_list = hl.1;
            some_ops = ho.some;
            within_ops = omega (arith, few, least.0);
            cells = ho.lie;
          };
          counted = ha;
          room = omega (arith, some, few, least.1);
          after = hl.0;
        }

pub message_of-fits : (version : Version) (spaces : List Space) (place : Place) (row : Record) → IfOk (message_of version spaces place row) (Fits version spaces place)
message_of-fits version spaces place row =
    by (length row == length (header_row version))
    (columns_with version (field_of row 0) (field_of row 1) (field_of row 2) (field_of row 3) (field_of row 4) (field_of row 5) (field_of row (length row - 1)))
    (told-release version (field_of row 2)) (told-client version (field_of row 3)) (told-think version (field_of row 4)) (told-after version place (field_of row 5))
  where
    by : (many : Bool) (columns : Columns)
        → IfOk (release_of columns.release) (IsReleaseOf version) → IfOk (client_of columns.client) (IsClientOf version) → IfOk (think_of columns.think) (IsThinkOf version)
        → IfOk (after_of place columns.after) (IsAfterOf version place)
        → IfOk (message_of_row version spaces place (if many then Some columns else None)) (Fits version spaces place)
    by true columns released client thought listed = message_of_columns-fits version spaces place columns released client thought listed
    by false columns released client thought listed = tt
