-- What was asked by a hand, one thing after the other.
use Rattle.std.proofs.Common.{◌≡◌, ℕ, Bool, true, false, ◌+◌, ◌*◌, ◌<◌, List, [], ◌∷◌, ◌++◌, None, Some, Result, Ok, Err, length, slice_get, refl, sym, subst, ap, ap₂, ◌∙◌, append-nil, append_assoc}
use Rattle.std.specs.Prelude.{IfSome, OnOk, Option}
use Rattle.std.specs.Ordering.{nat_cmp}
use Rattle.std.specs.List.Sorted.{IsStrictlySortedBy}
use Rattle.waff_model.specs.declared.cell.Cell.{Cell}
use Rattle.waff_model.specs.declared.op.Op.{Op}
use Rattle.waff_run.specs.Asked.{Access, AsksCalls, AsksFilled, AsksFilling, AsksMessage, AsksOp, AsksParts, AsksSyncs, GoesOn, GoesOnBy, call_more, part_more}
use Rattle.waff_run.specs.Calls.{AreOneCall}
use Rattle.waff_run.specs.Places.{Placing}
use Rattle.waff_run.specs.Syncing.{ListsOnce, files_synced}
use Rattle.waff_run.specs.declared.syncing.Syncs.{Syncs}
use Rattle.waff_run.specs.declared.syncing.Syncs.TheVariants as which

-- first one thing was asked, and then the other
pub goes_on : (P Q R : List Access → Type 0) → ((one other : List Access) → P one → Q other → R (one ++ other))
    → (a b c : Option (List Access)) → GoesOn a b P → GoesOn b c Q → GoesOn a c R
goes_on P Q R both None None None one other = tt
goes_on P Q R both None None (Some z) one other = absurd other
goes_on P Q R both None (Some y) c one other = absurd one
goes_on P Q R both (Some x) None c one other = absurd one
goes_on P Q R both (Some x) (Some y) None one other = absurd other
goes_on P Q R both (Some x) (Some y) (Some z) one other = (
  one.0 ++ other.0,
  both one.0 other.0 one.1 other.1,
  other.2 ∙ ap (λ log. log ++ other.0) one.2 ∙ append_assoc x one.0 other.0,
)

-- the same, said otherwise
pub goes_on_as : (P Q : List Access → Type 0) → ((asked : List Access) → P asked → Q asked) → (a b : Option (List Access)) → GoesOn a b P → GoesOn a b Q
goes_on_as P Q so None None one = tt
goes_on_as P Q so None (Some y) one = absurd one
goes_on_as P Q so (Some x) None one = absurd one
goes_on_as P Q so (Some x) (Some y) one = (one.0, so one.0 one.1, one.2)

-- nothing was asked
pub goes_nowhere : (P : List Access → Type 0) → P [] → (a : Option (List Access)) → GoesOn a a P
goes_nowhere P none None = tt
goes_nowhere P none (Some x) = ([], none, sym (append-nil x))

-- by a hand that was fresh
pub from_fresh : (P : List Access → Type 0) (a b : Option (List Access)) → IfSome a (λ asked. asked ≡ []) → GoesOn a b P → IfSome b P
from_fresh P a None fresh one = tt
from_fresh P None (Some y) fresh one = absurd one
from_fresh P (Some x) (Some y) fresh one = subst P (sym (one.2 ∙ ap (λ log. log ++ one.0) fresh)) one.1

-- one part more
pub parts_more : (placing : Placing) (ops : List Op) (from done count : ℕ) (op : Op) → slice_get ops (from + done) ≡ Some op → 0 < count
    → (one other : List Access) → AsksParts placing ops from done one → AsksOp placing (placing.bytes * count) op other
    → AsksParts placing ops from (done + count) (one ++ other)
parts_more placing ops from done count op is some one other parts asks = part_more done count op one other parts is some asks

-- one call more
pub calls_more : (placing : Placing) (ops : List Op) (from count : ℕ) → AreOneCall placing ops from count
    → (one other : List Access) → AsksCalls placing ops from one → AsksParts placing ops from count other
    → AsksCalls placing ops (from + count) (one ++ other)
calls_more placing ops from count call one other calls parts = call_more from count one other calls call parts

-- the calls of a message, and then its syncs
pub message_asks : (placing : Placing) (which : Syncs) (ops : List Op) (one other : List Access)
    → AsksCalls placing ops (length ops) one → AsksSyncs placing which ops other → AsksMessage placing which ops (one ++ other)
message_asks placing which ops one other calls asks =
    record { calls = one; syncs = other; done = calls; synced = asks; whole = refl }

-- four things were asked, one after the other
pub four : (a b c d e : Option (List Access)) (w x y z : Access) → GoesOnBy a b w → GoesOnBy b c x → GoesOnBy c d y → GoesOnBy d e z
    → GoesOn a e (λ asked. asked ≡ w ∷ x ∷ y ∷ z ∷ [])
four a b c d e w x y z one two three last =
    let both : (front back one other : List Access) → one ≡ front → other ≡ back → one ++ other ≡ front ++ back = λ front back one other p q. ap₂ ◌++◌ p q in
    goes_on (λ asked. asked ≡ w ∷ x ∷ y ∷ []) (λ asked. asked ≡ z ∷ []) (λ asked. asked ≡ w ∷ x ∷ y ∷ z ∷ [])
    (both (w ∷ x ∷ y ∷ []) (z ∷ [])) a d e
    (goes_on (λ asked. asked ≡ w ∷ x ∷ []) (λ asked. asked ≡ y ∷ []) (λ asked. asked ≡ w ∷ x ∷ y ∷ [])
    (both (w ∷ x ∷ []) (y ∷ [])) a c d
    (goes_on (λ asked. asked ≡ w ∷ []) (λ asked. asked ≡ x ∷ []) (λ asked. asked ≡ w ∷ x ∷ [])
    (both (w ∷ []) (x ∷ [])) a b c one two)
    three)
    last

-- what is true where a call answered Ok
pub on_ok : {V E : Type 0} (A B : Type 0) → (A → B) → (result : Result V E) → OnOk result A → OnOk result B
on_ok A B so (Ok v) holds = so holds
on_ok A B so (Err e) holds = tt

-- no file is to be synced
none_synced : (placing : Placing) (ops : List Op) → files_synced placing which.None ops ≡ []
none_synced placing [] = refl
none_synced placing (op ∷ ops) = none_synced placing ops

nothing_rises : IsStrictlySortedBy nat_cmp []
unfolding IsStrictlySortedBy
nothing_rises = tt

pub nothing_synced : (placing : Placing) (syncs : Syncs) (ops : List Op) → syncs ≡ which.None → AsksSyncs placing syncs ops []
nothing_synced placing syncs ops is = (
  [],
  subst (λ (numbers : List ℕ). ListsOnce numbers []) (sym (ap (λ (w : Syncs). files_synced placing w ops) is ∙ none_synced placing ops))
      (record { each = λ n. (λ h. h, λ h. h); rising = nothing_rises }),
  refl,
)

-- cells are filled where they are to be, and else nothing is asked
pub fills : (a b : Option (List Access)) (placing : Placing) (fill : Bool) (cells : List Cell) → fill ≡ true → GoesOn a b (AsksFilled placing cells)
    → GoesOn a b (AsksFilling placing fill cells)
fills a b placing fill cells is goes = subst (λ (f : Bool). GoesOn a b (AsksFilling placing f cells)) (sym is) goes

pub fills_none : (a : Option (List Access)) (placing : Placing) (fill : Bool) (cells : List Cell) → fill ≡ false → GoesOn a a (AsksFilling placing fill cells)
fills_none a placing fill cells is =
    subst (λ (f : Bool). GoesOn a a (AsksFilling placing f cells)) (sym is) (goes_nowhere (AsksFilling placing false cells) refl a)
