-- The list of a message, piece by piece.
use Rattle.std.proofs.Common.{◌≡◌, ℕ, zero, suc, ◌+◌, ◌-◌, ◌<◌, ◌≤◌, List, [], ◌∷◌, ◌++◌, length, get_or, drop, Bool, true, false, Option, Some, None, Result, Ok, Err, refl, sym, ap, ◌∙◌, append_assoc, arith}
use Rattle.std.specs.Prelude.{All, AllPairs, IfErr, IfOk, ok_or, option_and_then, nat_le, nat_lt, ◌==◌, ◌&&◌, if◌then◌else◌}
use Rattle.std.proofs.Math.Seq.{drop-length}
use Rattle.std.proofs.lemmas.Bool.{and_parts, le-leb, le-ltb, leb-false, leb-true, lt-ltb, ltb-false, ltb-true}
use Rattle.std.proofs.lemmas.List.{append-nil, drop_more}
use Rattle.std.proofs.lemmas.List.Elements.{All-cons, All-head, All-nil, All-tail, All-weaker}
use Rattle.waff_model.specs.Awaits.{IsList}
use Rattle.waff_model.specs.declared.awaits.Await.{Await}
use Rattle.waff_model.specs.declared.limits.TheConstants.{MAX_THINK}
use Rattle.waff_model.proofs.TraceLemmas.{no_list}
use Rattle.waff_parse.specs.Fields.{Field}
use Rattle.waff_parse.specs.Refusals.{◌>>=◌, both, one}
use Rattle.waff_parse.specs.Texts.{number_of, number_within, parts, parts_after, within}
use Rattle.waff_parse.specs.Walks.{gather, with_front}
use Rattle.waff_parse.proofs.TextLaws.{parts-cons}
use Rattle.waff_read.specs.Awaits.{after_of, are_between, await_between, await_of, await_of_parts, awaits_of, gap_of, is_between, list_of}
use Rattle.waff_read.specs.Places.{most_awaited}
use Rattle.waff_read.specs.TraceFaults.{number}
use Rattle.waff_read.specs.declared.place.Place.{Place}
use Rattle.waff_read.specs.declared.trace_fault.TraceFault.{TraceFault}
use Rattle.waff_read.specs.declared.trace_fault.TraceFault.TheVariants as fault
use Rattle.waff_read.proofs.PartLemmas.{no_number, part_is}

abbrev await : ℕ → ℕ → Await
await n gap = record { message = n; gap = gap }

-- a number and a gap that are read within their limits
abbrev read_both : Result ℕ TraceFault → Result ℕ TraceFault → Result Await TraceFault
read_both number gap = do
  n ← number
  g ← gap
  Ok (await n g)

-- a number and a gap that are read, and are then within their limits
abbrev in_limits : ℕ → ℕ → Result Await TraceFault → Result Await TraceFault
in_limits low high read = read >>= (λ a. if is_between low high a then Ok a else Err fault.After)

number_between : (low high n : ℕ) → within (low + 1) (high - 1) n ≡ (if nat_lt low n && nat_lt n high then Some n else None)
number_between low high n = by (nat_lt low n) (nat_lt n high) refl refl
  where
    by : (a b : Bool) → nat_lt low n ≡ a → nat_lt n high ≡ b → within (low + 1) (high - 1) n ≡ (if a && b then Some n else None)
    by true true p q = let above = ltb-true low n p in let below = ltb-true n high q in rw (le-ltb n (low + 1) (omega (arith, above)), le-ltb (high - 1) n (omega (arith, below))) refl
    by true false p q = let above = ltb-true low n p in let past = ltb-false n high q in rw (le-ltb n (low + 1) (omega (arith, above)), lt-ltb (high - 1) n (omega (arith, above, past))) refl
    by false b p q = let under = ltb-false low n p in rw (lt-ltb n (low + 1) (omega (arith, under))) refl

gap_between : (g : ℕ) → within 0 MAX_THINK g ≡ (if nat_le g MAX_THINK then Some g else None)
gap_between g = by (nat_le g MAX_THINK) refl
  where
    by : (b : Bool) → nat_le g MAX_THINK ≡ b → within 0 MAX_THINK g ≡ (if b then Some g else None)
    by true p = rw (le-ltb g 0 (omega arith), le-ltb MAX_THINK g (leb-true g MAX_THINK p)) refl
    by false p = rw (le-ltb g 0 (omega arith), lt-ltb MAX_THINK g (leb-false g MAX_THINK p)) refl

-- a number alone, and one with a gap
alone : (low high : ℕ) (o : Option ℕ)
    → read_both (ok_or (option_and_then (within (low + 1) (high - 1)) o) fault.After) (Ok 0) ≡ in_limits low high (ok_or o fault.After >>= (λ n. Ok (await n 0)))
alone low high None = refl
alone low high (Some n) = rw (number_between low high n) (by (nat_lt low n) (nat_lt n high))
  where
    by : (a b : Bool) → read_both (ok_or (if a && b then Some n else None) fault.After) (Ok 0) ≡ (if a && (b && true) then Ok (await n 0) else Err fault.After)
    by true true = refl
    by true false = refl
    by false b = refl

read_none : (o : Option ℕ) → read_both (ok_or o fault.After) (Err fault.After) ≡ Err fault.After
read_none None = refl
read_none (Some n) = refl

with_gap : (low high : ℕ) (o p : Option ℕ)
    → read_both (ok_or (option_and_then (within (low + 1) (high - 1)) o) fault.After) (ok_or (option_and_then (within 0 MAX_THINK) p) fault.After)
    ≡ in_limits low high (ok_or o fault.After >>= (λ n. ok_or p fault.After >>= (λ g. Ok (await n g))))
with_gap low high None p = refl
with_gap low high (Some n) None = read_none (within (low + 1) (high - 1) n)
with_gap low high (Some n) (Some g) = rw (number_between low high n, gap_between g) (by (nat_lt low n) (nat_lt n high) (nat_le g MAX_THINK))
  where
    by : (a b c : Bool) → read_both (ok_or (if a && b then Some n else None) fault.After) (ok_or (if c then Some g else None) fault.After)
        ≡ (if a && (b && c) then Ok (await n g) else Err fault.After)
    by true true true = refl
    by true true false = refl
    by true false c = refl
    by false b c = refl

-- a piece is the number before the first `+` and the gap after it, if there is one
await_two : (low high : ℕ) (piece message : Field) (gap : Option Field) → parts 43 piece ≡ message ∷ parts_after 43 gap
    → read_both (ok_or (number_within (low + 1) (high - 1) message) fault.After) (gap_of gap) ≡ await_between low high piece
unfolding await_of
await_two low high piece message None e = rw e (alone low high (number_of message))
await_two low high piece message (Some gap) e = rw e (by (parts 43 gap) refl)
  where
    by : (words : List Field) → parts 43 gap ≡ words
        → read_both (ok_or (number_within (low + 1) (high - 1) message) fault.After) (gap_of (Some gap)) ≡ in_limits low high (await_of_parts (message ∷ words))
    by [] is =
        let some = parts-cons 43 gap in
        absurd (cc (sym is ∙ some.2))
    by (x ∷ []) is = rw (part_is 43 gap x is) (with_gap low high (number_of message) (number_of gap))
    by (x ∷ y ∷ more) is = rw (no_number 43 refl gap x y more is) (read_none (number_within (low + 1) (high - 1) message))

-- so its number or its gap is refused, or both are read
module _ (low high : ℕ) (piece message : Field) (gap : Option Field) (split : parts 43 piece ≡ message ∷ parts_after 43 gap) where
  pub number-refused : None ≡ number_within (low + 1) (high - 1) message → Err fault.After ≡ await_between low high piece
  number-refused none = rw (← none) at (await_two low high piece message gap split)

  pub gap-refused : (n : ℕ) (e : TraceFault) → Some n ≡ number_within (low + 1) (high - 1) message → Err e ≡ gap_of gap → Err e ≡ await_between low high piece
  gap-refused n e some refused = rw (← some, ← refused) at (await_two low high piece message gap split)

  pub piece-read : (n g : ℕ) → Some n ≡ number_within (low + 1) (high - 1) message → Ok g ≡ gap_of gap → Ok (await n g) ≡ await_between low high piece
  piece-read n g some read = rw (← some, ← read) at (await_two low high piece message gap split)

-- a piece is refused for no other fault
await_of-fault : (piece : List ℕ) → IfErr (await_of piece) (λ e. e ≡ fault.After)
unfolding await_of
await_of-fault piece = by (parts 43 piece)
  where
    one_number : (o : Option ℕ) → IfErr (ok_or o fault.After >>= (λ n. Ok (await n 0))) (λ e. e ≡ fault.After)
    one_number None = refl
    one_number (Some n) = tt

    two_numbers : (o p : Option ℕ) → IfErr (ok_or o fault.After >>= (λ n. ok_or p fault.After >>= (λ g. Ok (await n g)))) (λ e. e ≡ fault.After)
    two_numbers None p = refl
    two_numbers (Some n) None = refl
    two_numbers (Some n) (Some g) = tt

    by : (words : List Field) → IfErr (await_of_parts words) (λ e. e ≡ fault.After)
    by [] = refl
    by (message ∷ []) = one_number (number_of message)
    by (message ∷ gap ∷ []) = two_numbers (number_of message) (number_of gap)
    by (message ∷ gap ∷ more ∷ others) = refl

gather-fault : (pieces : List (List ℕ)) → IfErr (gather number await_of pieces) (λ e. e ≡ fault.After)
unfolding gather
gather-fault [] = tt
gather-fault (piece ∷ more) = by (await_of piece) (gather number await_of more) (await_of-fault piece) (gather-fault more)
  where
    by : (r : Result Await TraceFault) (rs : Result (List Await) TraceFault) → IfErr r (λ e. e ≡ fault.After) → IfErr rs (λ e. e ≡ fault.After)
        → IfErr (both number (one r) rs) (λ e. e ≡ fault.After)
    by (Ok a) (Ok list) h k = tt
    by (Ok a) (Err e) h k = k
    by (Err d) (Ok list) h k = h
    by (Err d) (Err e) h k = rw (h, k) refl

pub awaits_of-fault : (text : Field) → IfErr (awaits_of text) (λ e. e ≡ fault.After)
unfolding awaits_of
awaits_of-fault text = by (length text == 0)
  where
    by : (b : Bool) → IfErr (if b then Ok [] else gather number await_of (parts 32 text)) (λ e. e ≡ fault.After)
    by true = tt
    by false = gather-fault (parts 32 text)

-- the messages of pieces, each of which lies behind the one before it
unfoldable pub awaits_from : ℕ → ℕ → List (List ℕ) → Result (List Await) TraceFault
awaits_from low high [] = Ok []
awaits_from low high (piece ∷ more) = do
  a ← await_between low high piece
  list ← awaits_from a.message high more
  Ok (a ∷ list)

-- a list that is read, and is then seen to lie between two numbers
abbrev between : ℕ → ℕ → Result (List Await) TraceFault → Result (List Await) TraceFault
between low high read = read >>= (λ list. if are_between low high list then Ok list else Err fault.After)

-- it is the list of all pieces, where that lies between them
module _ (low high : ℕ) (a : Await) where
  one_behind : (rs : Result (List Await) TraceFault) → IfErr rs (λ e. e ≡ fault.After) → is_between low high a ≡ true
      → (between a.message high rs >>= (λ list. Ok (a ∷ list))) ≡ between low high (both number (one (Ok a)) rs)
  one_behind (Err e) h p = refl
  one_behind (Ok list) h p = rw p (by (are_between a.message high list))
    where
      by : (b : Bool) → ((if b then Ok list else Err fault.After) >>= (λ list. Ok (a ∷ list))) ≡ (if b then Ok (a ∷ list) else Err fault.After)
      by true = refl
      by false = refl

  one_outside : (rs : Result (List Await) TraceFault) → IfErr rs (λ e. e ≡ fault.After) → is_between low high a ≡ false
      → Err fault.After ≡ between low high (both number (one (Ok a)) rs)
  one_outside (Err e) h p = rw h refl
  one_outside (Ok list) h p = rw p refl

one_refused : (low high : ℕ) (e : TraceFault) (rs : Result (List Await) TraceFault) → e ≡ fault.After → IfErr rs (λ e. e ≡ fault.After)
    → Err fault.After ≡ between low high (both number (Err e) rs)
one_refused low high e (Ok list) h k = ap Err (sym h)
one_refused low high e (Err d) h k = rw (h, k) refl

pub awaits_from-is : (low high : ℕ) (pieces : List (List ℕ)) → awaits_from low high pieces ≡ between low high (gather number await_of pieces)
unfolding awaits_from gather
awaits_from-is low high [] = refl
awaits_from-is low high (piece ∷ more) = by (await_of piece) (await_of-fault piece) (λ n. awaits_from-is n high more)
  where
    here : (a : Await) → ((n : ℕ) → awaits_from n high more ≡ between n high (gather number await_of more)) → (t : Bool) → is_between low high a ≡ t
        → ((if t then Ok a else Err fault.After) >>= (λ a. awaits_from a.message high more >>= (λ list. Ok (a ∷ list))))
        ≡ between low high (both number (one (Ok a)) (gather number await_of more))
    here a rest true p = rw (rest a.message) (one_behind low high a (gather number await_of more) (gather-fault more) p)
    here a rest false p = one_outside low high a (gather number await_of more) (gather-fault more) p

    by : (r : Result Await TraceFault) → IfErr r (λ e. e ≡ fault.After) → ((n : ℕ) → awaits_from n high more ≡ between n high (gather number await_of more))
        → (in_limits low high r >>= (λ a. awaits_from a.message high more >>= (λ list. Ok (a ∷ list)))) ≡ between low high (both number (one r) (gather number await_of more))
    by (Err e) h rest = ap Err h ∙ one_refused low high e (gather number await_of more) h (gather-fault more)
    by (Ok a) h rest = here a rest (is_between low high a) refl

-- a piece more, and a piece that is refused
abbrev pub Rest : ℕ → ℕ → Field → List Await → ℕ → Result (List Await) TraceFault
Rest low high text front i = with_front front (awaits_from low high (drop i (parts 32 text)))

abbrev pub Whole : ℕ → Field → Result (List Await) TraceFault
Whole high text = awaits_from 0 high (parts 32 text)

module _ (low high i : ℕ) (text piece : Field) (front : List Await) (inside : i < length (parts 32 text)) (is : piece ≡ get_or (parts 32 text) i piece) where
  next : drop i (parts 32 text) ≡ piece ∷ drop (i + 1) (parts 32 text)
  next = drop_more (parts 32 text) i piece inside ∙ ap (λ (p : List ℕ). p ∷ drop (i + 1) (parts 32 text)) (sym is)

  pub piece-more : (a : Await) → Ok a ≡ await_between low high piece → Rest a.message high text (front ++ a ∷ []) (i + 1) ≡ Rest low high text front i
  unfolding awaits_from with_front
  piece-more a found = rw (next, ← found) (by (awaits_from a.message high (drop (i + 1) (parts 32 text))))
    where
      by : (r : Result (List Await) TraceFault) → with_front (front ++ a ∷ []) r ≡ with_front front (r >>= (λ list. Ok (a ∷ list)))
      by (Ok list) = ap Ok (append_assoc front (a ∷ []) list)
      by (Err e) = refl

  pub piece-refused : (e : TraceFault) → Err e ≡ await_between low high piece → Rest low high text front i ≡ Err e
  unfolding awaits_from with_front
  piece-refused e found = rw (next, ← found) refl

pub pieces-all : (low high i : ℕ) (text : Field) (front : List Await) → i ≡ length (parts 32 text) → Rest low high text front i ≡ Ok front
unfolding awaits_from with_front
pieces-all low high i text front end =
    let none : drop i (parts 32 text) ≡ [] = rw end (drop-length (parts 32 text)) in
    rw none (ap Ok (append-nil front))

-- the list of a text that is not empty
pub list-whole : (n : ℕ) (text : Field) → (length text == 0) ≡ false → list_of n text ≡ Whole n text
unfolding list_of awaits_of
list-whole n text some = rw some (sym (awaits_from-is 0 n (parts 32 text)))

-- of an empty one
pub list-none : (n : ℕ) (text : Field) (list : List Await) → (length text == 0) ≡ true → list ≡ [] → list_of n text ≡ Ok list
unfolding list_of awaits_of
list-none n text list none is = rw (none, is) refl

-- numbers that rise between two others, with gaps within the limit
pub record AreBetween (low high : ℕ) (list : List Await) : Type 0 where
  pub above : All (λ a. low < a.message) list
  pub below : All (λ a. a.message < high) list
  pub rising : AllPairs (λ a b. a.message < b.message) list
  pub gaps : All (λ a. a.gap ≤ MAX_THINK) list

none_between : (low high : ℕ) → AreBetween low high []
none_between low high = record {
  above = All-nil (λ (a : Await). low < a.message);
  below = All-nil (λ (a : Await). a.message < high);
  rising = λ i j d less inside. absurd (omega (arith, inside));
  gaps = All-nil (λ (a : Await). a.gap ≤ MAX_THINK);
}

one_between : (low high : ℕ) (a : Await) (more : List Await) → low < a.message → a.message < high → a.gap ≤ MAX_THINK → AreBetween a.message high more
    → AreBetween low high (a ∷ more)
one_between low high a more above below gap others = record {
  above = All-cons (λ b. low < b.message) a more above (All-weaker (λ b. a.message < b.message) (λ b. low < b.message) (λ b later. omega (arith, above, later)) more others.above);
  below = All-cons (λ b. b.message < high) a more below others.below;
  rising = rising;
  gaps = All-cons (λ b. b.gap ≤ MAX_THINK) a more gap others.gaps;
}
  where
    rising : AllPairs (λ b c. b.message < c.message) (a ∷ more)
    rising zero zero d less inside = absurd (omega (arith, less))
    rising zero (suc j) d less inside = others.above j d (omega (arith, inside))
    rising (suc i) zero d less inside = absurd (omega (arith, less))
    rising (suc i) (suc j) d less inside = others.rising i j d (omega (arith, less)) (omega (arith, inside))

pub are_between-true : (low high : ℕ) (list : List Await) → are_between low high list ≡ true → AreBetween low high list
are_between-true low high [] h = none_between low high
are_between-true low high (a ∷ more) h =
    let parts = and_parts (is_between low high a) (are_between a.message high more) h in
    let first = and_parts (nat_lt low a.message) (nat_lt a.message high && nat_le a.gap MAX_THINK) parts.0 in
    let second = and_parts (nat_lt a.message high) (nat_le a.gap MAX_THINK) first.1 in
    one_between low high a more (ltb-true low a.message first.0) (ltb-true a.message high second.0) (leb-true a.gap MAX_THINK second.1)
    (are_between-true a.message high more parts.1)

pub true-are_between : (low high : ℕ) (list : List Await) → AreBetween low high list → are_between low high list ≡ true
true-are_between low high [] is = refl
true-are_between low high (a ∷ more) is =
    let later : AreBetween a.message high more = record {
      above = λ k d inside. is.rising 0 (suc k) d (omega arith) (omega (arith, inside));
      below = All-tail (λ b. b.message < high) a more is.below;
      rising = λ i j d less inside. is.rising (suc i) (suc j) d (omega (arith, less)) (omega (arith, inside));
      gaps = All-tail (λ b. b.gap ≤ MAX_THINK) a more is.gaps;
    } in
    rw (
      lt-ltb low a.message (All-head (λ b. low < b.message) a more is.above),
      lt-ltb a.message high (All-head (λ b. b.message < high) a more is.below),
      le-leb a.gap MAX_THINK (All-head (λ b. b.gap ≤ MAX_THINK) a more is.gaps),
      true-are_between a.message high more later,
    ) refl

-- so they are a list of the message n
pub are_list : (n : ℕ) (list : List Await) → are_between 0 n list ≡ true → IsList n list
are_list n list h =
    let is = are_between-true 0 n list h in record {
      from = All-weaker (λ a. 0 < a.message) (λ a. 1 ≤ a.message) (λ a above. omega (arith, above)) list is.above;
      earlier = is.below;
      rising = is.rising;
      gaps = is.gaps;
    }

pub list_are : (n : ℕ) (list : List Await) → IsList n list → are_between 0 n list ≡ true
list_are n list is = true-are_between 0 n list (record {
  above = All-weaker (λ a. 1 ≤ a.message) (λ a. 0 < a.message) (λ a from. omega (arith, from)) list is.from;
  below = is.earlier;
  rising = is.rising;
  gaps = is.gaps;
})

-- the list that is read is one of its message, and not too long
pub record IsAwaited (place : Place) (list : List Await) : Type 0 where
  pub is_list : IsList (place.at - 1) list
  pub few : length list ≤ most_awaited place

pub after_of-awaited : (place : Place) (text : Option Field) → IfOk (after_of place text) (IsAwaited place)
unfolding list_of
after_of-awaited place None = record { is_list = no_list (place.at - 1); few = omega arith }
after_of-awaited place (Some text) = by (awaits_of text)
  where
    few : (list : List Await) → IsList (place.at - 1) list → (b : Bool) → nat_lt (most_awaited place) (length list) ≡ b
        → IfOk (if b then Err fault.TooManyAfter else Ok list) (IsAwaited place)
    few list is true p = tt
    few list is false p = record { is_list = is; few = ltb-false (most_awaited place) (length list) p }

    limited : (list : List Await) (b : Bool) → are_between 0 (place.at - 1) list ≡ b
        → IfOk ((if b then Ok list else Err fault.After) >>= (λ list. if nat_lt (most_awaited place) (length list) then Err fault.TooManyAfter else Ok list)) (IsAwaited place)
    limited list true p = few list (are_list (place.at - 1) list p) (nat_lt (most_awaited place) (length list)) refl
    limited list false p = tt

    by : (r : Result (List Await) TraceFault)
        → IfOk ((r >>= (λ list. if are_between 0 (place.at - 1) list then Ok list else Err fault.After))
        >>= (λ list. if nat_lt (most_awaited place) (length list) then Err fault.TooManyAfter else Ok list)) (IsAwaited place)
    by (Ok list) = limited list (are_between 0 (place.at - 1) list) refl
    by (Err e) = tt
