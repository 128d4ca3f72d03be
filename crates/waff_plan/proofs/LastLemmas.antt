-- The last message of each client, one message after another.
use Rattle.std.proofs.Common.{◌≡◌, ◌≢◌, ℕ, zero, suc, ◌-◌, ◌≤◌, Bool, true, false, Bor, List, cond, Some, None, arith, refl, sym, ◌∙◌, ap}
use Rattle.std.specs.HashMap as hash
use Rattle.std.specs.Str.{bytes_eq}
use Rattle.std.proofs.lemmas.Bool.{cond-false, false_from_ne_true}
use Rattle.std.proofs.lemmas.Map.Text.{hash_map_updates_str}
use Rattle.std.proofs.lemmas.Option.{none-some, same_Some}
use Rattle.std.proofs.lemmas.Slice.Eq.{bytes_eq-Decides}
use Rattle.waff_model.specs.Messages.{no_client}
use Rattle.waff_plan.specs.Clients.{client_of, last_of, one_before}
use Rattle.waff_plan.specs.LastMessages.{AreLast, some_number}

-- a number that is not 0 is that of a message, and a number is that of the message that it says
number_some : (n : ℕ) → n ≢ 0 → some_number n ≡ Some n
number_some zero some = absurd (some refl)
number_some (suc n) some = refl

some_number_is : (n i : ℕ) → some_number n ≡ Some i → n ≡ i
some_number_is zero i is = absurd (none-some i is)
some_number_is (suc n) i is = same_Some (suc n) i is

-- one more message
last_of_more : (clients : List (List ℕ)) (client : List ℕ) (n : ℕ) → 1 ≤ n
    → last_of clients client n ≡ cond (bytes_eq (client_of clients n) client) n (last_of clients client (n - 1))
last_of_more clients client zero from = absurd (omega (arith, from))
last_of_more clients client (suc n) from =
    let back : n ≡ suc n - 1 = omega arith in
    ap (λ k. cond (bytes_eq (client_of clients (suc n)) client) (suc n) (last_of clients client k)) back

-- one more message, which is of this client
pub last_noted : {S : Type 0} (clients : List (List ℕ)) (n : ℕ) (name : List ℕ) (last new : hash.HashMap (Bor (List ℕ)) ℕ S) → 1 ≤ n
    → client_of clients n ≡ name
    → hash.UpdatesBy (λ x y. bytes_eq x.now y.now) (λ k. bytes_eq name k.now) last new (Some n)
    → AreLast clients (n - 1) last → AreLast clients n new
last_noted clients n name last new from is updates are client some =
    let at = hash_map_updates_str name last new (Some n) updates client in
    let more : last_of clients client n ≡ cond (bytes_eq name client) n (last_of clients client (n - 1))
    = last_of_more clients client n from ∙ ap (λ x. cond (bytes_eq x client) n (last_of clients client (n - 1))) is in
    at ∙ both (bytes_eq name client) ∙ sym (ap some_number more)
  where
    both : (b : Bool) → cond b (Some n) (hash.get_by (λ k. bytes_eq client k.now) last) ≡ some_number (cond b n (last_of clients client (n - 1)))
    both true = sym (number_some n (λ zero. omega (arith, from, zero)))
    both false = are client some

-- of a client it is the last of that client so far
named_before : (clients : List (List ℕ)) (n : ℕ) (name : List ℕ) → client_of clients n ≡ name → name ≢ no_client → one_before clients n ≡ last_of clients name (n - 1)
named_before clients n name is some =
    let other : bytes_eq (client_of clients n) no_client ≡ false
    = false_from_ne_true (bytes_eq (client_of clients n) no_client) (λ same. some (sym is ∙ (bytes_eq-Decides (client_of clients n) no_client).0 same)) in
    cond-false (bytes_eq (client_of clients n) no_client) 0 (last_of clients (client_of clients n) (n - 1)) other
    ∙ ap (λ x. last_of clients x (n - 1)) is

-- the message before it of its client
pub before_found : (clients : List (List ℕ)) (n before : ℕ) (name : List ℕ) → client_of clients n ≡ name → name ≢ no_client
    → Some before ≡ some_number (last_of clients name (n - 1)) → before ≡ one_before clients n
before_found clients n before name is some found =
    sym (some_number_is (last_of clients name (n - 1)) before (sym found)) ∙ sym (named_before clients n name is some)

pub before_not_found : (clients : List (List ℕ)) (n : ℕ) (name : List ℕ) → client_of clients n ≡ name → name ≢ no_client
    → None ≡ some_number (last_of clients name (n - 1)) → 0 ≡ one_before clients n
before_not_found clients n name is some none = zero_is (last_of clients name (n - 1)) none ∙ sym (named_before clients n name is some)
  where
    zero_is : (x : ℕ) → None ≡ some_number x → 0 ≡ x
    zero_is zero same = refl
    zero_is (suc x) same = absurd (none-some (suc x) same)
