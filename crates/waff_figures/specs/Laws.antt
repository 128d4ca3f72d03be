-- That the columns add up, and that each name has one line.
use Rattle.std.specs.Prelude.{◌≡◌, ℕ, ◌<◌, ◌≤◌, false, List, All, if◌then◌else◌, count_by, length}
use Rattle.std.specs.Prelude.{sum_by}
use Rattle.std.specs.List.{list_any}
use Rattle.std.specs.List.Sorted.{IsStrictlyIncreasing}
use Rattle.std.specs.Str.{bytes_eq}
use Rattle.waff_model.specs.Tree.{Node}
use Rattle.waff_assign.specs.Held.{Held}
use Rattle.waff_plan.specs.Work.{Work, total_of}
use Rattle.waff_plan.specs.Chain.{chain_cost}
use Rattle.waff_figures.specs.ByAffinity.{affinity_numbers, runs_in}
use Rattle.waff_figures.specs.ByName.{first_messages, is_named, label_at}
use Rattle.waff_figures.specs.Tally.{tally_of}

-- the messages of the affinities and those of none add up to all messages
abbrev pub MessagesAddUp : List Node → List Held → Work → List ℕ → Type 0
MessagesAddUp tree assigned work chain =
    sum_by (λ a. (tally_of work chain (runs_in tree assigned a)).messages) (affinity_numbers tree)
    ≡ work.count

-- their costs add up to the total
abbrev pub CostsAddUp : List Node → List Held → Work → List ℕ → Type 0
CostsAddUp tree assigned work chain =
    sum_by (λ a. (tally_of work chain (runs_in tree assigned a)).cost) (affinity_numbers tree)
    ≡ total_of work

-- their costs on a chain add up to its cost
abbrev pub ChainAddsUp : List Node → List Held → Work → List ℕ → Type 0
ChainAddsUp tree assigned work chain =
    sum_by (λ a. (tally_of work chain (runs_in tree assigned a)).chain) (affinity_numbers tree)
    ≡ chain_cost work chain

-- the messages of the distinct names add up to all messages, their costs to the total, and their
-- costs on a chain to its cost
pub record NamesAddUp (names : List (List ℕ)) (work : Work) (chain : List ℕ) : Type 0 where
  pub messages : sum_by (λ m. (tally_of work chain (is_named names (label_at names m))).messages)
      (first_messages names)
      ≡ work.count
  pub costs : sum_by (λ m. (tally_of work chain (is_named names (label_at names m))).cost)
      (first_messages names)
      ≡ total_of work
  pub links : sum_by (λ m. (tally_of work chain (is_named names (label_at names m))).chain)
      (first_messages names)
      ≡ chain_cost work chain

-- a name that a message has is that of one of the first messages alone, and no other name is
abbrev pub NameIsOnce : List (List ℕ) → Type 0
NameIsOnce names =
    (name : List ℕ) → count_by (λ m. bytes_eq name (label_at names m)) (first_messages names)
    ≡ (if list_any (bytes_eq name) names then 1 else 0)

-- no message before m has its name
pub record IsFirstOfName (names : List (List ℕ)) (m : ℕ) : Type 0 where
  pub from : 1 ≤ m
  pub to : m ≤ length names
  pub first : (n : ℕ) → 1 ≤ n → n < m → is_named names (label_at names m) n ≡ false

-- so it is with the first messages, which rise
pub record NamesInOrder (names : List (List ℕ)) : Type 0 where
  pub each : All (IsFirstOfName names) (first_messages names)
  pub rising : IsStrictlyIncreasing (first_messages names)
