-- How much each message waits for, beside the trails of those that wait.
use Rattle.std.specs.Prelude.{◌≡◌, ℕ, ◌-◌, ◌≤◌, Bool, List, length, Contains, slice_index, sum_by}
use Rattle.waff_model.specs.Numbers.{IsAmongFirst}
use Rattle.waff_waits.specs.Times.{times}
use Rattle.waff_waits.specs.Trails.{AreLinked, trails}
use Rattle.waff_waits.specs.Waits.{dependents_of}
use Rattle.waff_waits.specs.declared.link.Link.{Link}

-- what is left of each message is how often it waits, and there are as many links as waits, or more
pub record AreCounted (firsts : List ℕ) (links : List Link) (left : List ℕ)
    (finished : List Bool) : Type 0 where
  pub linked : AreLinked firsts links
  pub marks : length finished ≡ length firsts
  pub counts : length left ≡ length firsts
  pub sums : (m : ℕ) → 1 ≤ m → m ≤ length firsts
      → slice_index left (m - 1) ≡ sum_by (times m) (trails firsts links)
  pub among : (i m : ℕ) → Contains (dependents_of (trails firsts links) i) m
      → IsAmongFirst (length firsts) m
  pub few : sum_by length (trails firsts links) ≤ length links
