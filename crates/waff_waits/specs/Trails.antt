-- Lists kept as trails of links. Links are numbered from 1; each has a message and the number of an
-- earlier link, with which the trail goes on, or 0 where it ends.
use Rattle.std.specs.Prelude.{ℕ, zero, suc, ◌-◌, ◌<◌, ◌≤◌, List, [], ◌∷◌, length, map, All}
use Rattle.std.specs.Prelude.{slice_index_or}
use Rattle.waff_waits.specs.declared.link.Link.{Link}

-- link n, from 1
abbrev pub link_at : List Link → ℕ → Link
link_at links n = slice_index_or links (n - 1) (record { message = 0; next = 0 })

-- the messages of the trail that begins with link n, as far as this many links
abbrev pub trail : List Link → ℕ → ℕ → List ℕ
trail links zero n = []
trail links (suc most) zero = []
trail links (suc most) (suc n) =
    (link_at links (suc n)).message ∷ trail links most (link_at links (suc n)).next

-- the list of each message: its trail, which is no longer than the number of its first link
abbrev pub trails : List ℕ → List Link → List (List ℕ)
trails firsts links = map (λ n. trail links n n) firsts

-- each trail begins with a link, and goes on with earlier ones
pub record AreLinked (firsts : List ℕ) (links : List Link) : Type 0 where
  pub within : All (λ n. n ≤ length links) firsts
  pub earlier : (n : ℕ) → 1 ≤ n → n ≤ length links → (link_at links n).next < n
