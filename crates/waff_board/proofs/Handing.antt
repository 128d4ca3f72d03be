-- Several slots taken in one step, and several given back.
use Rattle.std.proofs.Common.{◌≡◌, ℕ, ◌<◌, List, [], ◌∷◌, Contains, length, set, refl, sym, ◌∙◌, subst, ⊎_elim, arith, length-set}
use mathlib.Core.Option.{Option, some, none}
use mathlib.Core.Logic.{dite}
use native.Mathlib.Decide.{ℕ_discrete}
use lib.ListN.{get_elem?}
use Rattle.atomic_table.specs.Table.{Act, keeps, takes, gives, chain, Valid, homes_after, carried_after}
use Rattle.atomic_table.proofs.Lists.{set_here, set_else}
use Rattle.waff_model.specs.Layout.{Space}
use Rattle.waff_cells.specs.Meaning.{Cells}
use Rattle.waff_cells.specs.Parcel.{IsParcel}
use Rattle.waff_core.specs.Job.{StandOnce}
use Rattle.waff_board.specs.Plays.{Parcels}
use Rattle.waff_model.proofs.Members.{in_cases, in_first, in_none, in_rest}
use Rattle.waff_board.proofs.Owners.{once_first, once_rest}
use Rattle.waff_board.proofs.Listed.{at_within}

-- the slot of a is at home with its parcel of the cells
abbrev pub IsHome : {S : Type 0} → (S → List ℕ) → List Space → Cells → List (Option S) → ℕ → Type 0
IsHome {S} items spaces cells homes a = (y : S) × (get_elem? homes a ≡ some (some y)) × IsParcel spaces a cells (items y)

-- an act that takes the slots of these owners, each with its parcel
pub record Taken {S : Type 0} (items : S → List ℕ) (spaces : List Space) (cells : Cells) (homes : List (Option S)) (owners : List ℕ) : Type 0 where
  pub act : Act S
  pub valid : Valid homes [] act
  pub parcels : Parcels items spaces cells owners (carried_after [] act)
  pub gone : (a : ℕ) → Contains owners a → get_elem? (homes_after homes [] act) a ≡ some none
  pub stays : (a : ℕ) → get_elem? homes a ≡ some none → get_elem? (homes_after homes [] act) a ≡ some none
  pub same : (a : ℕ) → ¬ Contains owners a → get_elem? (homes_after homes [] act) a ≡ get_elem? homes a
  pub count : length (homes_after homes [] act) ≡ length homes

module _ {S : Type 0} (items : S → List ℕ) (spaces : List Space) (cells : Cells) where
  take_one : (homes : List (Option S)) (o : ℕ) (rest : List ℕ) (y : S) → ¬ Contains rest o → get_elem? homes o ≡ some (some y)
      → IsParcel spaces o cells (items y) → Taken items spaces cells homes rest → Taken items spaces cells homes (o ∷ rest)
  take_one homes o rest y apart there parcel r =
      let left : List (Option S) = homes_after homes [] r.act in
      let here : get_elem? left o ≡ some (some y) = r.same o apart ∙ there in
      let within : o < length left = at_within left o (some y) here in
      record {
        act = chain r.act (takes o y);
        valid = (r.valid, here);
        parcels = ((refl, parcel), r.parcels);
        gone = λ a in_all. dite (ℕ_discrete a o)
            (λ same. subst (λ b. get_elem? (set left o none) b ≡ some none) (sym same) (set_here left o none within))
            (λ other. ⊎_elim {C = get_elem? (set left o none) a ≡ some none}
            (λ (is : o ≡ a). absurd (other (sym is)))
            (λ (in_rest : Contains rest a). set_else left o a none other ∙ r.gone a in_rest)
            (in_cases o rest a in_all));
        stays = λ a away. dite (ℕ_discrete a o)
            (λ same. subst (λ b. get_elem? (set left o none) b ≡ some none) (sym same) (set_here left o none within))
            (λ other. set_else left o a none other ∙ r.stays a away);
        same = λ a not_in.
            set_else left o a none (λ same. not_in (subst (λ b. Contains (o ∷ rest) b) (sym same) (in_first o rest)))
            ∙ r.same a (λ in_it. not_in (in_rest o rest a in_it));
        count = length-set left o none ∙ r.count;
      }

  pub take_all : (homes : List (Option S)) (owners : List ℕ) → StandOnce owners
      → ((a : ℕ) → Contains owners a → IsHome items spaces cells homes a) → Taken items spaces cells homes owners
  take_all homes [] apart each = record {
    act = keeps;
    valid = tt;
    parcels = tt;
    gone = λ a there. absurd (in_none a there);
    stays = λ a away. away;
    same = λ a not_in. refl;
    count = refl;
  }
  take_all homes (o ∷ rest) apart each =
      let mine = each o (in_first o rest) in
      take_one homes o rest mine.0 (once_first o rest apart) mine.1 mine.2
      (take_all homes rest (once_rest o rest apart) (λ a there. each a (in_rest o rest a there)))

-- an act that gives back all that a seat holds
abbrev pub give_all : {S : Type 0} → List (ℕ × S) → Act S
give_all [] = keeps
give_all (slot ∷ held) = chain gives (give_all held)

-- what it leaves
pub record Given {S : Type 0} (items : S → List ℕ) (spaces : List Space) (cells : Cells) (homes : List (Option S)) (owners : List ℕ)
    (held : List (ℕ × S)) : Type 0 where
  pub valid : Valid homes held (give_all held)
  pub none : carried_after held (give_all held) ≡ []
  pub home : (a : ℕ) → Contains owners a → IsHome items spaces cells (homes_after homes held (give_all held)) a
  pub same : (a : ℕ) → ¬ Contains owners a → get_elem? (homes_after homes held (give_all held)) a ≡ get_elem? homes a
  pub count : length (homes_after homes held (give_all held)) ≡ length homes

module _ {S : Type 0} (items : S → List ℕ) (spaces : List Space) (cells : Cells) where
  pub given : (homes : List (Option S)) (owners : List ℕ) (held : List (ℕ × S)) → StandOnce owners
      → Parcels items spaces cells owners held → ((a : ℕ) → Contains owners a → a < length homes)
      → Given items spaces cells homes owners held
  given homes [] [] apart parcels within = record {
    valid = tt;
    none = refl;
    home = λ a there. absurd (in_none a there);
    same = λ a not_in. refl;
    count = refl;
  }
  given homes [] (slot ∷ held) apart parcels within = absurd parcels
  given homes (o ∷ rest) [] apart parcels within = absurd parcels
  given homes (o ∷ rest) (slot ∷ held) apart parcels within =
      let put : List (Option S) = set homes slot.0 (some slot.1) in
      let long : length put ≡ length homes = length-set homes slot.0 (some slot.1) in
      let is : slot.0 ≡ o = parcels.0.0 in
      let r : Given items spaces cells put rest held
      = given put rest held (once_rest o rest apart) parcels.1 (λ a there. let few = within a (in_rest o rest a there) in omega (arith, few, long)) in
      let few : o < length homes = within o (in_first o rest) in
      let here : get_elem? put slot.0 ≡ some (some slot.1) = set_here homes slot.0 (some slot.1) (omega (arith, few, is)) in
      record {
        valid = (tt, r.valid);
        none = r.none;
        home = λ a there. ⊎_elim {C = IsHome items spaces cells (homes_after put held (give_all held)) a}
            (λ (same : o ≡ a). subst (λ b. IsHome items spaces cells (homes_after put held (give_all held)) b) same
            (slot.1, r.same o (once_first o rest apart) ∙ subst (λ b. get_elem? put b ≡ some (some slot.1)) is here, parcels.0.1))
            (λ (after : Contains rest a). r.home a after)
            (in_cases o rest a there);
        same = λ a not_in. r.same a (λ in_it. not_in (in_rest o rest a in_it))
            ∙ set_else homes slot.0 a (some slot.1)
            (λ same. not_in (subst (λ b. Contains (o ∷ rest) b) (sym is ∙ sym same) (in_first o rest)));
        count = r.count ∙ long;
      }
