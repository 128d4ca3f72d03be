-- The latest of the messages that one thing or another holds of.
use Rattle.std.proofs.Common.{◌≡◌, ◌⊎◌, ℕ, ◌<◌, ◌≤◌, true, false, List, [], ◌∷◌, ◌++◌, Contains, Option, Some, None, arith, refl, sym, ◌∙◌, ap, subst, inl, inr, ⊎_elim}
use Rattle.std.proofs.lemmas.Bool.{cond_both}
use Rattle.std.proofs.lemmas.Bool.Decides.{nat_tests}
use Rattle.std.proofs.lemmas.List.Elements.{Contains-append_left, Contains-push, Contains-push_cases}
use Rattle.waff_plan.specs.Latest.{is_later, later_of, IsFound}
use Rattle.waff_plan.specs.declared.latest.Latest.{Latest}

pub is_later_true : (f g m n : ℕ) → let one : Latest = record { finish = f; number = m } in let other : Latest = record { finish = g; number = n } in
    is_later one other ≡ true → (f ≤ g) × (f ≡ g → n < m)
is_later_true f g m n h = (grind (arith, nat_tests), λ same. grind (arith, nat_tests))

pub is_later_false : (f g m n : ℕ) → let one : Latest = record { finish = f; number = m } in let other : Latest = record { finish = g; number = n } in
    is_later one other ≡ false → (g ≤ f) × (g ≡ f → m ≤ n)
is_later_false f g m n h = (grind (arith, nat_tests), λ same. grind (arith, nat_tests))

-- the same messages have the same latest
pub found_same : (P Q : ℕ → Type 0) (finish : ℕ → ℕ) (latest : Option Latest) → ((i : ℕ) → P i → Q i) → ((i : ℕ) → Q i → P i)
    → IsFound P finish latest → IsFound Q finish latest
found_same P Q finish None to from h = λ i q. h i (from i q)
found_same P Q finish (Some latest) to from h = record {
  number = record {
    one = to latest.number h.number.one;
    latest = λ i q. h.number.latest i (from i q);
    lowest = λ i q same. h.number.lowest i (from i q) same;
  };
  finish_is = h.finish_is;
}

-- the latest of some is the latest of those of them of which it is one
pub found_narrowed : (P Q : ℕ → Type 0) (finish : ℕ → ℕ) (latest : Latest) → ((i : ℕ) → Q i → P i) → Q latest.number
    → IsFound P finish (Some latest) → IsFound Q finish (Some latest)
found_narrowed P Q finish latest into one h = record {
  number = record {
    one = one;
    latest = λ i q. h.number.latest i (into i q);
    lowest = λ i q same. h.number.lowest i (into i q) same;
  };
  finish_is = h.finish_is;
}

-- where none is noted none is found
pub found_none : (P : ℕ → Type 0) (finish : ℕ → ℕ) (latest : Option Latest) → latest ≡ None → IsFound (λ i. Contains [] i × P i) finish latest
found_none P finish latest none =
    subst (λ x. IsFound (λ i. Contains [] i × P i) finish x) (sym none) (λ i h. absurd (omega (arith, h.0.1)))

-- with the same finishes the latest is the same
pub found_again : (P : ℕ → Type 0) (finish again : ℕ → ℕ) (latest : Option Latest) → ((i : ℕ) → P i → again i ≡ finish i)
    → IsFound P finish latest → IsFound P again latest
found_again P finish again None same h = h
found_again P finish again (Some latest) same h =
    let here : again latest.number ≡ finish latest.number = same latest.number h.number.one in
    record {
      number = record {
        one = h.number.one;
        latest = λ i p. rw (same i p, here) (h.number.latest i p);
        lowest = λ i p equal. h.number.lowest i p (sym (same i p) ∙ equal ∙ here);
      };
      finish_is = h.finish_is ∙ sym here;
    }

-- the latest of all that one or another thing holds of
pub found_either : (P Q : ℕ → Type 0) (finish : ℕ → ℕ) (one other : Option Latest) → IsFound P finish one → IsFound Q finish other
    → IsFound (λ i. P i ⊎ Q i) finish (later_of one other)
found_either P Q finish None other none h =
    found_same Q (λ i. P i ⊎ Q i) finish other (λ i q. inr q) (λ i either. ⊎_elim (λ p. absurd (none i p)) (λ q. q) either) h
found_either P Q finish (Some one) None h none =
    found_same P (λ i. P i ⊎ Q i) finish (Some one) (λ i p. inl p) (λ i either. ⊎_elim (λ p. p) (λ q. absurd (none i q)) either) h
found_either P Q finish (Some one) (Some other) h g =
    cond_both (is_later one other) (Some other) (Some one) (λ x. IsFound (λ i. P i ⊎ Q i) finish x)
    (λ later.
    let order = is_later_true one.finish other.finish one.number other.number later in
    record {
      number = record {
        one = inr g.number.one;
        latest = λ i either. elim either [
          | inl p ↦ omega (arith, h.number.latest i p, h.finish_is, g.finish_is, order.0)
          | inr q ↦ g.number.latest i q
        ];
        lowest = λ i either same. elim either [
          | inl p ↦
              let equal : one.finish ≡ other.finish = omega (arith, h.number.latest i p, h.finish_is, g.finish_is, order.0, same) in
              omega (arith, order.1 equal, h.number.lowest i p (omega (arith, h.finish_is, g.finish_is, equal, same)))
          | inr q ↦ g.number.lowest i q same
        ];
      };
      finish_is = g.finish_is;
    })
    (λ not_later.
    let order = is_later_false one.finish other.finish one.number other.number not_later in
    record {
      number = record {
        one = inl h.number.one;
        latest = λ i either. elim either [
          | inl p ↦ h.number.latest i p
          | inr q ↦ omega (arith, g.number.latest i q, h.finish_is, g.finish_is, order.0)
        ];
        lowest = λ i either same. elim either [
          | inl p ↦ h.number.lowest i p same
          | inr q ↦
              let equal : other.finish ≡ one.finish = omega (arith, g.number.latest i q, h.finish_is, g.finish_is, order.0, same) in
              omega (arith, order.1 equal, g.number.lowest i q (omega (arith, h.finish_is, g.finish_is, equal, same)))
        ];
      };
      finish_is = h.finish_is;
    })

-- one message is the latest of itself
pub found_one : (finish : ℕ → ℕ) (message : Latest) → finish message.number ≡ message.finish
    → IsFound (λ i. i ≡ message.number) finish (Some message)
found_one finish message is = record {
  number = record {
    one = refl;
    latest = λ i same. omega (arith, ap finish same);
    lowest = λ i same equal. omega (arith, same);
  };
  finish_is = sym is;
}

-- one more message of which P holds
pub found_noted : (P : ℕ → Type 0) (finish : ℕ → ℕ) (noted : List ℕ) (latest : Option Latest) (message : Latest)
    → finish message.number ≡ message.finish → P message.number → IsFound (λ i. Contains noted i × P i) finish latest
    → IsFound (λ i. Contains (noted ++ message.number ∷ []) i × P i) finish (later_of latest (Some message))
found_noted P finish noted latest message is holds h =
    let more = noted ++ message.number ∷ [] in
    found_same (λ i. (Contains noted i × P i) ⊎ (i ≡ message.number)) (λ i. Contains more i × P i) finish (later_of latest (Some message))
    (λ i either. elim either [
      | inl old ↦ (Contains-append_left noted (message.number ∷ []) i old.0, old.1)
      | inr last ↦ (subst (Contains more) (sym last) (Contains-push noted message.number), subst P (sym last) holds)
    ])
    (λ i new. elim (Contains-push_cases noted message.number i new.0) [
      | inl old ↦ inl (old, new.1)
      | inr last ↦ inr (sym last)
    ])
    (found_either (λ i. Contains noted i × P i) (λ i. i ≡ message.number) finish latest (Some message) h (found_one finish message is))

-- one more message of which P does not hold
pub found_passed : (P : ℕ → Type 0) (finish : ℕ → ℕ) (noted : List ℕ) (m : ℕ) (latest : Option Latest) → (P m → ⊥)
    → IsFound (λ i. Contains noted i × P i) finish latest → IsFound (λ i. Contains (noted ++ m ∷ []) i × P i) finish latest
found_passed P finish noted m latest fails h =
    found_same (λ i. Contains noted i × P i) (λ i. Contains (noted ++ m ∷ []) i × P i) finish latest
    (λ i old. (Contains-append_left noted (m ∷ []) i old.0, old.1))
    (λ i new. elim (Contains-push_cases noted m i new.0) [
      | inl old ↦ (old, new.1)
      | inr last ↦ absurd (fails (subst P (sym last) new.1))
    ])
    h
