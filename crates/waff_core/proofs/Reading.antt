-- What is read of a job.
use Rattle.std.proofs.Common.{◌≡◌, ℕ, ◌<◌, ◌≤◌, List, length, get_or, All, Contains, subst}
use Rattle.std.proofs.lemmas.List.Elements.{Contains-get_or}
use Rattle.waff_assign.proofs.Knowing.{owner_known}
use Rattle.waff_order.specs.Needs.{IsNeed, needs_of}
use Rattle.waff_core.specs.Job.{JobValue, IsJob, IsIn, owners_of}
use Rattle.waff_core.proofs.Listing.{cell_listed}

-- the needs of a message are earlier messages
pub needs_earlier : (job : JobValue) → IsJob job → (n : ℕ) → 1 ≤ n → (needs : List ℕ) → needs ≡ needs_of job.needs n
    → All (λ i. (1 ≤ i) × (i < n)) needs
needs_earlier job is n from needs same k d within =
    let i = get_or needs k d in
    let need : IsNeed job.needs i n = record { from = from; listed = subst (λ xs. Contains xs i) same (Contains-get_or needs k d within) } in
    let ordered = is.needs.ordered i n need in
    (ordered.from, ordered.earlier)

-- the owners of a footprint are affinities
pub owners_known : (job : JobValue) → IsJob job → (n : ℕ) → IsIn job n → (owners : List ℕ) → owners ≡ owners_of job.owners n
    → All (λ a. a < length job.layout.tree) owners
owners_known job is n inside owners same k d within =
    let a = get_or owners k d in
    let has : Contains (owners_of job.owners n) a = subst (λ xs. Contains xs a) same (Contains-get_or owners k d within) in
    let owner = ((is.owners n inside).each a).0 has in
    subst (λ b. b < length job.layout.tree) owner.owned
    (owner_known job.layout is.layout owner.cell (cell_listed job is n inside owner.cell owner.named))
