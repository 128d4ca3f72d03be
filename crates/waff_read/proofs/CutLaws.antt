-- A trace that is cut down to some of its records, told anew, is read as the messages that they tell.
use Rattle.std.proofs.Common.{◌≡◌, ℕ, suc, ◌+◌, ◌-◌, ◌<◌, ◌≤◌, List, [], ◌∷◌, length, drop, take, get_or, Some, slice_get, refl, sym, ap, subst, ◌∙◌, arith}
use Rattle.std.specs.Prelude.{All, AllPairs, slice_index_or}
use Rattle.std.specs.List.{sum_by}
use Rattle.std.proofs.lemmas.List.{get_or-map, length-map, take-take}
use Rattle.std.proofs.lemmas.List.Elements.{All-head, All-tail}
use Rattle.std.proofs.lemmas.List.Sums.{sum_by-cons, sum_by-take-le, sum_by_more}
use Rattle.std.proofs.lemmas.Option.{get_or_from_slice_get, slice_get-get_or, slice_get_within}
use Rattle.waff_model.specs.Layout.{Space}
use Rattle.waff_model.specs.Messages.{Arrivals, ops_in}
use Rattle.waff_model.specs.Numbers.{IsAmongFirst}
use Rattle.waff_model.specs.declared.message.Message.{Message}
use Rattle.waff_model.specs.declared.message.Version.{Version}
use Rattle.waff_parse.specs.Rows.{Record, records_of}
use Rattle.waff_read.specs.Anew.{AreSomeToldAnew, rows_at}
use Rattle.waff_read.specs.Laws.{CutTraceIsRead, IsReadAs}
use Rattle.waff_read.specs.Places.{behind, first_place}
use Rattle.waff_read.proofs.AnewLaws.{IsTold, reads, told_is_read}
use Rattle.waff_read.proofs.LimitLaws.{trace_is_within_limits}

-- some of the messages, by their numbers, sum up to no more than all
module _ (f : Message → ℕ) (messages : List Message) where
  sum_upto : (i j : ℕ) → i ≤ j → sum_by f (take i messages) ≤ sum_by f (take j messages)
  sum_upto i j upto = subst (λ (xs : List Message). sum_by f xs ≤ sum_by f (take j messages)) (take-take i j messages upto) (sum_by-take-le f (take j messages) i)

  -- numbers behind low that rise, and messages of which f is as of those with these numbers
  record AreSome (low : ℕ) (numbers : List ℕ) (some : List Message) : Type 0 where
    above : All (λ n. low < n) numbers
    among : All (IsAmongFirst (length messages)) numbers
    rising : AllPairs (λ n m. n < m) numbers
    count : length some ≡ length numbers
    same : (k n : ℕ) (message other : Message) → slice_get numbers k ≡ Some n → slice_get messages (n - 1) ≡ Some message → slice_get some k ≡ Some other → f other ≡ f message

  some_rest : (low n : ℕ) (numbers : List ℕ) (first : Message) (some : List Message) → AreSome low (n ∷ numbers) (first ∷ some) → AreSome n numbers some
  some_rest low n numbers first some are = record {
    above = λ k d inside. are.rising 0 (suc k) d (omega arith) (omega (arith, inside));
    among = All-tail (IsAmongFirst (length messages)) n numbers are.among;
    rising = λ i j d less inside. are.rising (suc i) (suc j) d (omega (arith, less)) (omega (arith, inside));
    count = omega (arith, are.count);
    same = λ k. are.same (suc k);
  }

  some_sum : (low : ℕ) (numbers : List ℕ) (some : List Message) → AreSome low numbers some → sum_by f (take low messages) + sum_by f some ≤ sum_by f messages
  some_sum low [] [] are = omega (arith, sum_by-take-le f messages low)
  some_sum low [] (first ∷ some) are = absurd (omega (arith, are.count))
  some_sum low (n ∷ numbers) [] are = absurd (omega (arith, are.count))
  some_sum low (n ∷ numbers) (first ∷ some) are =
      let number = All-head (IsAmongFirst (length messages)) n numbers are.among in
      let inside : n - 1 < length messages = omega (arith, number.from, number.to) in
      let old = get_or messages (n - 1) first in
      let same : f first ≡ f old = are.same 0 n old first refl (slice_get-get_or messages (n - 1) first inside) refl in
      let above = All-head (λ n. low < n) n numbers are.above in
      let before = sum_upto low (n - 1) (omega (arith, above)) in
      let next : n - 1 + 1 ≡ n = omega (arith, number.from) in
      let here : sum_by f (take n messages) ≡ sum_by f (take (n - 1) messages) + f old =
      ap (λ i. sum_by f (take i messages)) (sym next) ∙ sum_by_more f messages (n - 1) first inside in
      let rest = some_sum n numbers some (some_rest low n numbers first some are) in
      omega (arith, same, before, here, rest, sum_by-cons f first some)

-- the sum of one for each message is how many there are
one_each : (messages : List Message) → sum_by (λ _. 1) messages ≡ length messages
one_each [] = refl
one_each (message ∷ messages) = omega (arith, sum_by-cons (λ (_ : Message). 1) message messages, one_each messages)

-- so do those that tell them anew, by whatever telling keeps
module _ (messages : List Message) (numbers : List ℕ) (some : List Message) (are : AreSomeToldAnew messages numbers some) where
  some_few : (f : Message → ℕ)
      → ((k n : ℕ) (message other : Message) → slice_get numbers k ≡ Some n → slice_get messages (n - 1) ≡ Some message → slice_get some k ≡ Some other → f other ≡ f message)
      → sum_by f some ≤ sum_by f messages
  some_few f same =
      let above : All (λ n. 0 < n) numbers = λ k d inside. omega (arith, (are.among k d inside).from) in
      omega (
        arith,
        some_sum f messages 0 numbers some
            (record { above = above; among = are.among; rising = are.rising; count = are.count; same = same }),
      )

  few_some : length some ≤ length messages
  few_some = omega (arith, some_few (λ _. 1) (λ k n message other number there here. refl), one_each some, one_each messages)

  few_ops : ops_in some ≤ ops_in messages
  few_ops = some_few (λ m. length m.ops) (λ k n message other number there here. ap length (are.each k n message other number there here).ops)

pub cut_trace_is_read : (newest : Version) (spaces : List Space) (bytes : List ℕ) (trace : Arrivals) (numbers : List ℕ) (some : List Message)
    → CutTraceIsRead newest spaces bytes trace numbers some
cut_trace_is_read newest spaces bytes trace numbers some read are =
    let within = trace_is_within_limits newest spaces bytes trace read in
    told_is_read newest spaces bytes trace read (rows_at numbers rows) some
    (record { count = omega (arith, are.count, length-map numbers (λ n. slice_index_or rows (n - 1) [])); each = told })
    (omega (arith, few_some trace.messages numbers some are, within.few))
    (omega (arith, few_ops trace.messages numbers some are, within.few_ops)) are.lists are.few_awaited
  where
    rows : List Record
    rows = drop 1 (records_of bytes)

    is : IsReadAs newest spaces (records_of bytes) trace
    is = reads newest spaces bytes trace read

    told : (k : ℕ) (row : Record) (message : Message) → slice_get (rows_at numbers rows) k ≡ Some row → slice_get some k ≡ Some message
        → IsTold trace.version spaces row message
    told k row message there here =
        let few : k < length numbers = omega (arith, are.count, slice_get_within some k message here) in
        let n = get_or numbers k 0 in
        let number = are.among k 0 few in
        let inside : n - 1 < length trace.messages = omega (arith, number.from, number.to) in
        let old = get_or trace.messages (n - 1) message in
        let at = slice_get-get_or trace.messages (n - 1) message inside in
        let same : get_or rows (n - 1) [] ≡ row =
        sym (get_or-map (λ n. slice_index_or rows (n - 1) []) numbers k 0 [] few) ∙ get_or_from_slice_get (rows_at numbers rows) k row [] there in
        let is_row : slice_get rows (n - 1) ≡ Some row =
        slice_get-get_or rows (n - 1) [] (omega (arith, inside, is.count)) ∙ ap Some same in
        record {
          from = behind first_place (take (n - 1) trace.messages);
          old = old;
          read = is.messages (n - 1) row old is_row at;
          anew = are.each k n old message (slice_get-get_or numbers k 0 few) at here;
        }
