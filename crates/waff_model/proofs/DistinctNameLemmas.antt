-- The keys of a table of names as texts, and the names of messages.
use Rattle.std.proofs.Common.{◌≡◌, ℕ, Bool, inl, inr, cond, List, [], ◌∷◌, ◌++◌, get_or, map, Some, slice_get, option_map, ◌||◌, Bor, refl, sym, ◌∙◌, ap}
use Rattle.std.specs.List.{list_any}
use Rattle.std.specs.Str.{bytes_eq}
use Rattle.std.proofs.lemmas.Bool.{cases_Bool}
use Rattle.std.proofs.lemmas.List.{map_push}
use Rattle.std.proofs.lemmas.Option.{get_or_from_slice_get, slice_get-map}
use Rattle.indexmap.specs.IndexSet.{insert_key}
use Rattle.waff_model.specs.DistinctNames.{message_names, with_name}
use Rattle.waff_model.specs.declared.message.Message.{Message}

list_any-map : {X Y : Type 0} (p : Y → Bool) (f : X → Y) (xs : List X) → list_any p (map f xs) ≡ list_any (λ x. p (f x)) xs
list_any-map p f [] = refl
list_any-map p f (x ∷ xs) = ap (λ b. p (f x) || b) (list_any-map p f xs)

-- the texts of a set once a name is inserted
pub names_inserted : (keys : List (Bor (List ℕ))) (name : Bor (List ℕ))
    → map (λ x. x.now) (insert_key (λ x y. bytes_eq x.now y.now) keys name) ≡ with_name (map (λ x. x.now) keys) name.now
names_inserted keys name = elim (cases_Bool (list_any (λ k. bytes_eq name.now k.now) keys)) [
  | inl there ↦
      ap (λ b. map (λ x. x.now) (cond b keys (keys ++ name ∷ []))) there
      ∙ sym (ap (λ b. cond b (map (λ x. x.now) keys) (map (λ x. x.now) keys ++ name.now ∷ [])) (list_any-map (bytes_eq name.now) (λ x. x.now) keys ∙ there))
  | inr new ↦
      ap (λ b. map (λ x. x.now) (cond b keys (keys ++ name ∷ []))) new
      ∙ map_push (λ x. x.now) keys name
      ∙ sym (ap (λ b. cond b (map (λ x. x.now) keys) (map (λ x. x.now) keys ++ name.now ∷ [])) (list_any-map (bytes_eq name.now) (λ x. x.now) keys ∙ new))
]

-- the text of a key at a place
pub name_at : (keys : List (Bor (List ℕ))) (place : ℕ) (key : Bor (List ℕ)) → slice_get keys place ≡ Some key
    → get_or (map (λ x. x.now) keys) place [] ≡ key.now
name_at keys place key at =
    get_or_from_slice_get (map (λ x. x.now) keys) place key.now []
    (slice_get-map (λ x. x.now) keys place ∙ ap (λ o. option_map (λ x. x.now) o) at)

-- the name of the message at a place
pub message_name_at : (messages : List Message) (place : ℕ) (message : Message) → slice_get messages place ≡ Some message
    → get_or (message_names messages) place [] ≡ message.name
message_name_at messages place message at =
    get_or_from_slice_get (message_names messages) place message.name []
    (slice_get-map (λ (m : Message). m.name) messages place ∙ ap (λ o. option_map (λ (m : Message). m.name) o) at)
