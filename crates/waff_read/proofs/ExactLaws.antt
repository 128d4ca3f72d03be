-- A message is accepted exactly where no check holds.
use Rattle.std.proofs.Common.{◌≡◌, ◌≢◌, ℕ, ◌+◌, ◌-◌, ◌≤◌, List, [], ◌∷◌, length, map, Bool, true, false, Option, Some, None, Result, Ok, Err, refl, sym, ap, arith}
use Rattle.std.specs.Prelude.{ok_or, option_and_then, nat_lt, ◌==◌, if◌then◌else◌}
use Rattle.std.specs.List.{flat_map}
use Rattle.std.proofs.lemmas.Bool.{ltb-false, le-ltb, eqb-false, ne_eqb}
use Rattle.waff_model.specs.Layout.{Space}
use Rattle.waff_model.specs.Names.{is_name}
use Rattle.waff_model.specs.Versions.{max_messages}
use Rattle.waff_model.specs.declared.awaits.Await.{Await}
use Rattle.waff_model.specs.declared.limits.TheConstants.{MAX_COST, MAX_RELEASE, MAX_THINK}
use Rattle.waff_model.specs.declared.message.Message.{Message}
use Rattle.waff_model.specs.declared.message.Version.{Version}
use Rattle.waff_model.specs.declared.op.Op.{Op}
use Rattle.waff_parse.specs.Fields.{Field}
use Rattle.waff_parse.specs.Refusals.{◌>>=◌, both, one}
use Rattle.waff_parse.specs.Rows.{Record}
use Rattle.waff_parse.specs.Texts.{number_of, number_within, parts, within}
use Rattle.waff_parse.specs.Walks.{gather}
use Rattle.waff_read.specs.Awaits.{after_of, are_between, await_of, awaits_of, list_of}
use Rattle.waff_read.specs.Laws.{IsAfter, IsClient, IsRelease, IsThink, PiecesAreSingle, RecordIsExact, SpellAwaits, SpellOps, Spells}
use Rattle.waff_read.specs.Messages.{Columns, client_of, columns_of, cost_of, counted, message_of_columns, message_of_row, name_of, release_of, think_of}
use Rattle.waff_read.specs.Pieces.{joined, ops_of, piece_of, pieces_of}
use Rattle.waff_read.specs.Places.{most_awaited, most_ops}
use Rattle.waff_read.specs.TraceFaults.{number}
use Rattle.waff_read.specs.declared.place.Place.{Place}
use Rattle.waff_read.specs.declared.trace_fault.TraceFault.{TraceFault}
use Rattle.waff_read.specs.declared.trace_fault.TraceFault.TheVariants as fault
use Rattle.waff_read.proofs.AwaitLaws.{are_list, list_are}

-- a list is gathered exactly where each item is read
pub gather-read : {F A B : Type 0} (rank : F → ℕ) (f : A → Result B F) (xs : List A) (ys : List B) → gather rank f xs ≡ Ok ys → map f xs ≡ map Ok ys
unfolding gather
gather-read rank f [] ys h = let same : [] ≡ ys = cc in rw (← same) refl
gather-read {F} {A} {B} rank f (a ∷ xs) ys h = by (f a) (gather rank f xs) h (gather-read rank f xs)
  where
    by : (r : Result B F) (rs : Result (List B) F) → both rank (one r) rs ≡ Ok ys → ((bs : List B) → rs ≡ Ok bs → map f xs ≡ map Ok bs)
        → r ∷ map f xs ≡ map Ok ys
    by (Ok b) (Ok bs) e rest = let same : b ∷ bs ≡ ys = cc in rw (← same) (ap (λ (l : List (Result B F)). Ok b ∷ l) (rest bs refl))
    by (Ok b) (Err d) e rest = absurd (cc)
    by (Err d) (Ok bs) e rest = absurd (cc)
    by (Err c) (Err d) e rest = absurd (cc)

pub read-gather : {F A B : Type 0} (rank : F → ℕ) (f : A → Result B F) (xs : List A) (ys : List B) → map f xs ≡ map Ok ys → gather rank f xs ≡ Ok ys
unfolding gather
read-gather rank f [] [] h = refl
read-gather rank f [] (y ∷ ys) h = absurd (cc)
read-gather rank f (a ∷ xs) [] h = absurd (cc)
read-gather {F} {A} {B} rank f (a ∷ xs) (y ∷ ys) h =
    let first : f a ≡ Ok y = cc in
    let others : map f xs ≡ map Ok ys = cc in
    rw (first, read-gather rank f xs ys others) refl

-- a name
pub name_of-read : (text name : Field) → name_of text ≡ Ok name → (is_name text ≡ true) × (name ≡ text)
name_of-read text name h = by (is_name text) h
  where
    by : (b : Bool) → (if b then Ok text else Err fault.Name) ≡ Ok name → (b ≡ true) × (name ≡ text)
    by true e = (refl, cc)
    by false e = absurd (cc)

-- a number within limits
number_within-read : (low high : ℕ) (text : Field) (e : TraceFault) (n : ℕ) → ok_or (number_within low high text) e ≡ Ok n
    → (number_of text ≡ Some n) × (low ≤ n) × (n ≤ high)
number_within-read low high text e n h = by (number_of text) h
  where
    in_limits : (m : ℕ) (a b : Bool) → nat_lt m low ≡ a → nat_lt high m ≡ b → ok_or (if a then None else if b then None else Some m) e ≡ Ok n
        → (m ≡ n) × (low ≤ m) × (m ≤ high)
    in_limits m true b p q r = absurd (cc)
    in_limits m false true p q r = absurd (cc)
    in_limits m false false p q r = (cc, ltb-false _ _ p, ltb-false _ _ q)

    by : (o : Option ℕ) → ok_or (option_and_then (within low high) o) e ≡ Ok n → (o ≡ Some n) × (low ≤ n) × (n ≤ high)
    by None r = absurd (cc)
    by (Some m) r =
        let is = in_limits m (nat_lt m low) (nat_lt high m) refl refl r in
        (ap Some is.0, rw is.0 at is.1, rw is.0 at is.2)

read-number_within : (low high : ℕ) (text : Field) (e : TraceFault) (n : ℕ) → number_of text ≡ Some n → low ≤ n → n ≤ high
    → ok_or (number_within low high text) e ≡ Ok n
read-number_within low high text e n is from to = rw (is, le-ltb n low from, le-ltb high n to) refl

-- the operations of a message
ops_of-read : (version : Version) (spaces : List Space) (most : ℕ) (text : Field) (list : List Op) → ops_of version spaces most text ≡ Ok list
    → (text ≢ []) × SpellOps version spaces text list × (length list ≤ most)
unfolding ops_of pieces_of
ops_of-read version spaces most text list h =
    by (length text == 0) (gather number (piece_of version spaces) (parts 59 text)) refl h (gather-read number (piece_of version spaces) (parts 59 text))
  where
    few : (read : List Op) (t : Bool) → nat_lt most (length read) ≡ t → (if t then Err fault.TooManyOps else Ok read) ≡ Ok list
        → (read ≡ list) × (length read ≤ most)
    few read true p e = absurd (cc)
    few read false p e = (cc, ltb-false _ _ p)

    by : (t : Bool) (r : Result (List (List Op)) TraceFault) → (length text == 0) ≡ t
        → (if t then Err fault.NoOps else (joined r >>= (λ read. if nat_lt most (length read) then Err fault.TooManyOps else Ok read))) ≡ Ok list
        → ((lists : List (List Op)) → r ≡ Ok lists → map (piece_of version spaces) (parts 59 text) ≡ map Ok lists)
        → (text ≢ []) × SpellOps version spaces text list × (length list ≤ most)
    by true r p e each = absurd (cc)
    by false (Ok lists) p e each =
        let read : List Op = flat_map (λ list. list) lists in
        let is = few read (nat_lt most (length read)) refl e in
        (λ none. eqb-false (length text) 0 p (ap length none), (lists, each lists refl, sym is.0), rw is.0 at is.1)
    by false (Err d) p e each = absurd (cc)

some_bytes : (text : Field) → text ≢ [] → (length text == 0) ≡ false
some_bytes [] filled = absurd (filled refl)
some_bytes (b ∷ bs) filled = ne_eqb (length (b ∷ bs)) 0 (λ none. absurd (omega arith))

read-ops_of : (version : Version) (spaces : List Space) (most : ℕ) (text : Field) (list : List Op) → text ≢ [] → SpellOps version spaces text list → length list ≤ most
    → ops_of version spaces most text ≡ Ok list
unfolding ops_of pieces_of
read-ops_of version spaces most text list filled (lists, each, is) few =
    rw (some_bytes text filled, read-gather number (piece_of version spaces) (parts 59 text) lists each, ← is, le-ltb most (length list) few) refl

-- the number of a record
pub counted-read : (version : Version) (at n : ℕ) → counted version at ≡ Ok n → at ≤ max_messages version + 1
counted-read version at n h = by (nat_lt (max_messages version + 1) at) refl h
  where
    by : (b : Bool) → nat_lt (max_messages version + 1) at ≡ b → (if b then Err fault.TooManyMessages else Ok at) ≡ Ok n → at ≤ max_messages version + 1
    by true p e = absurd (cc)
    by false p e = ltb-false _ _ p

-- a release
release_of-read : (text : Option Field) (release : ℕ) → release_of text ≡ Ok release → IsRelease text release
release_of-read None release h = cc
release_of-read (Some text) release h =
    let is = number_within-read 0 MAX_RELEASE text fault.Release release h in
    (is.0, is.2)

read-release_of : (text : Option Field) (release : ℕ) → IsRelease text release → release_of text ≡ Ok release
read-release_of None release h = rw h refl
read-release_of (Some text) release h = read-number_within 0 MAX_RELEASE text fault.Release release h.0 (omega arith) h.1

-- a client
client_of-read : (text : Option Field) (client : Field) → client_of text ≡ Ok client → IsClient text client
client_of-read None client h = cc
client_of-read (Some text) client h = by (is_name text) h
  where
    by : (b : Bool) → (if b then Ok text else Err fault.Client) ≡ Ok client → (b ≡ true) × (client ≡ text)
    by true e = (refl, cc)
    by false e = absurd (cc)

read-client_of : (text : Option Field) (client : Field) → IsClient text client → client_of text ≡ Ok client
read-client_of None client h = rw h refl
read-client_of (Some text) client h = rw (h.0, h.1) refl

-- a think time
think_of-read : (text : Option Field) (think : ℕ) → think_of text ≡ Ok think → IsThink text think
think_of-read None think h = cc
think_of-read (Some text) think h =
    let is = number_within-read 0 MAX_THINK text fault.Think think h in
    (is.0, is.2)

read-think_of : (text : Option Field) (think : ℕ) → IsThink text think → think_of text ≡ Ok think
read-think_of None think h = rw h refl
read-think_of (Some text) think h = read-number_within 0 MAX_THINK text fault.Think think h.0 (omega arith) h.1

-- the messages that pieces spell
pub awaits_of-read : (text : Field) (list : List Await) → awaits_of text ≡ Ok list → SpellAwaits text list
unfolding awaits_of
awaits_of-read [] list h = cc
awaits_of-read (b ∷ bs) list h = gather-read number await_of (parts 32 (b ∷ bs)) list (rw (some_bytes (b ∷ bs) (λ none. cc none)) at h)

pub read-awaits_of : (text : Field) (list : List Await) → SpellAwaits text list → awaits_of text ≡ Ok list
unfolding awaits_of
read-awaits_of [] list h = rw h refl
read-awaits_of (b ∷ bs) list h = rw (some_bytes (b ∷ bs) (λ none. cc none)) (read-gather number await_of (parts 32 (b ∷ bs)) list h)

-- a list
pub after_of-read : (place : Place) (text : Option Field) (list : List Await) → after_of place text ≡ Ok list
    → IsAfter (place.at - 1) text list × (length list ≤ most_awaited place)
unfolding list_of
after_of-read place None list h =
    let none : list ≡ [] = cc in
    (none, rw none (omega arith))
after_of-read place (Some text) list h = by (awaits_of text) (awaits_of-read text) h
  where
    few : (read : List Await) (b : Bool) → nat_lt (most_awaited place) (length read) ≡ b → (if b then Err fault.TooManyAfter else Ok read) ≡ Ok list
        → (read ≡ list) × (length read ≤ most_awaited place)
    few read true p e = absurd (cc)
    few read false p e = (cc, ltb-false (most_awaited place) (length read) p)

    limited : (read : List Await) (b : Bool) → are_between 0 (place.at - 1) read ≡ b → SpellAwaits text read
        → ((if b then Ok read else Err fault.After) >>= (λ read. if nat_lt (most_awaited place) (length read) then Err fault.TooManyAfter else Ok read)) ≡ Ok list
        → IsAfter (place.at - 1) (Some text) list × (length list ≤ most_awaited place)
    limited read false p spelled e = absurd (cc)
    limited read true p spelled e =
        let is = few read (nat_lt (most_awaited place) (length read)) refl e in
        rw (← is.0) ((spelled, are_list (place.at - 1) read p), is.1)

    by : (r : Result (List Await) TraceFault) → ((read : List Await) → r ≡ Ok read → SpellAwaits text read)
        → ((r >>= (λ read. if are_between 0 (place.at - 1) read then Ok read else Err fault.After))
        >>= (λ read. if nat_lt (most_awaited place) (length read) then Err fault.TooManyAfter else Ok read)) ≡ Ok list
        → IsAfter (place.at - 1) (Some text) list × (length list ≤ most_awaited place)
    by (Ok read) each e = limited read (are_between 0 (place.at - 1) read) refl (each read refl) e
    by (Err d) each e = absurd (cc)

read-after_of : (place : Place) (text : Option Field) (list : List Await) → IsAfter (place.at - 1) text list → length list ≤ most_awaited place
    → after_of place text ≡ Ok list
unfolding list_of
read-after_of place None list h few = rw h refl
read-after_of place (Some text) list h few =
    rw (read-awaits_of text list h.0, list_are (place.at - 1) list h.1, le-ltb (most_awaited place) (length list) few) refl

module _ (version : Version) (spaces : List Space) (place : Place) (columns : Columns) (message : Message) where
  pub columns-read : message_of_columns version spaces place columns ≡ Ok message → Spells version spaces place columns message
  unfolding message_of_columns
  columns-read h =
      by (name_of columns.name) (cost_of columns.cost) (ops_of version spaces (most_ops version place) columns.ops) (counted version place.at) (release_of columns.release)
      (client_of columns.client) (think_of columns.think) (after_of place columns.after)
      (name_of-read columns.name) (number_within-read 1 MAX_COST columns.cost fault.Cost) (ops_of-read version spaces (most_ops version place) columns.ops)
      (counted-read version place.at) (release_of-read columns.release) (client_of-read columns.client) (think_of-read columns.think)
      (after_of-read place columns.after) h
    where
      by : (n : Result Field TraceFault) (c : Result ℕ TraceFault) (o : Result (List Op) TraceFault) (a : Result ℕ TraceFault) (r : Result ℕ TraceFault)
          (k : Result Field TraceFault) (t : Result ℕ TraceFault) (l : Result (List Await) TraceFault)
          → ((name : Field) → n ≡ Ok name → (is_name columns.name ≡ true) × (name ≡ columns.name))
          → ((cost : ℕ) → c ≡ Ok cost → (number_of columns.cost ≡ Some cost) × (1 ≤ cost) × (cost ≤ MAX_COST))
          → ((list : List Op) → o ≡ Ok list → (columns.ops ≢ []) × SpellOps version spaces columns.ops list × (length list ≤ most_ops version place))
          → ((k : ℕ) → a ≡ Ok k → place.at ≤ max_messages version + 1)
          → ((release : ℕ) → r ≡ Ok release → IsRelease columns.release release)
          → ((client : Field) → k ≡ Ok client → IsClient columns.client client)
          → ((think : ℕ) → t ≡ Ok think → IsThink columns.think think)
          → ((list : List Await) → l ≡ Ok list → IsAfter (place.at - 1) columns.after list × (length list ≤ most_awaited place))
          → (do
            name ← n
            cost ← c
            ops ← o
            _ ← a
            release ← r
            client ← k
            think ← t
            after ← l
            Ok (record { name = name; cost = cost; release = release; client = client; think = think; after = after; ops = ops })) ≡ Ok message
          → Spells version spaces place columns message
      by (Ok n) (Ok c) (Ok o) (Ok a) (Ok r) (Ok k) (Ok t) (Ok l) hn hc ho ha hr hk ht hl e =
          let same : ◌≡◌ {A = Message} (record { name = n; cost = c; release = r; client = k; think = t; after = l; ops = o }) message = cc in
          let is_cost = hc c refl in
          let are_ops = ho o refl in
          rw (← same)
          (record {
            named = (hn n refl).0;
            name = (hn n refl).1;
            cost = is_cost.0;
            some_cost = is_cost.1;
            within_cost = is_cost.2;
            filled = are_ops.0;
            ops = are_ops.1;
            within_ops = are_ops.2;
            counted = ha a refl;
            release = hr r refl;
            client = hk k refl;
            think = ht t refl;
            after = (hl l refl).0;
            within_after = (hl l refl).1;
          })
      by _ _ _ _ _ _ _ _ hn hc ho ha hr hk ht hl e = absurd (cc)

  pub read-columns : Spells version spaces place columns message → message_of_columns version spaces place columns ≡ Ok message
  unfolding message_of_columns
  read-columns s =
      let are_ops : ops_of version spaces (most_ops version place) columns.ops ≡ Ok message.ops = read-ops_of version spaces (most_ops version place) columns.ops message.ops s.filled s.ops s.within_ops in
      let is_cost : cost_of columns.cost ≡ Ok message.cost = read-number_within 1 MAX_COST columns.cost fault.Cost message.cost s.cost s.some_cost s.within_cost in
      let is_release : release_of columns.release ≡ Ok message.release = read-release_of columns.release message.release s.release in
      let is_client : client_of columns.client ≡ Ok message.client = read-client_of columns.client message.client s.client in
      let is_think : think_of columns.think ≡ Ok message.think = read-think_of columns.think message.think s.think in
      let is_after : after_of place columns.after ≡ Ok message.after = read-after_of place columns.after message.after s.after s.within_after in
      rw (s.named, is_cost, are_ops, le-ltb (max_messages version + 1) place.at s.counted, is_release, is_client, is_think, is_after, ← s.name) refl

pub record_is_exact : (version : Version) (spaces : List Space) (place : Place) (row : Record) → RecordIsExact version spaces place row
record_is_exact version spaces place row message =
    (forward (columns_of version row) refl, λ (columns, is, s). rw is (read-columns version spaces place columns message s))
  where
    forward : (o : Option Columns) → columns_of version row ≡ o → message_of_row version spaces place o ≡ Ok message
        → (columns : Columns) × (columns_of version row ≡ Some columns) × Spells version spaces place columns message
    forward (Some columns) is h = (columns, is, columns-read version spaces place columns message h)
    forward None is h = absurd (cc)

pub pieces_are_single : (version : Version) (spaces : List Space) (piece : List ℕ) → PiecesAreSingle version spaces piece
unfolding piece_of
pieces_are_single version spaces piece earlier = rw earlier refl
