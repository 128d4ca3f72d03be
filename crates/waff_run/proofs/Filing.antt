-- The files of cells of a run, one after another, and their names.
use Rattle.std.proofs.Common.{◌≡◌, ◌⊎◌, inl, inr, ℕ, zero, suc, ◌+◌, ◌<◌, ◌≤◌, Bool, false, List, [], ◌∷◌, ◌++◌, Contains, Some, None, Less, nat_cmp, decimal, length, get_or, string_bytes, option_map, unwrap_or, ap, sym, subst, refl, ◌∙◌, arith}
use Rattle.std.specs.Cmp.{nat_cmp_is}
use Rattle.std.specs.List.{AllByRecursion}
use Rattle.std.specs.List.Sorted.{IsStrictlySortedBy}
use Rattle.std.proofs.lemmas.Bool.{cases_order}
use Rattle.std.proofs.lemmas.List.Elements.{Contains-append_cases, Contains-append_left, Contains-append_right}
use Rattle.waff_model.specs.Layout.{Space, name_at}
use Rattle.waff_model.specs.declared.cell.Cell.{Cell}
use Rattle.std.proofs.lemmas.List.{get_or-map, length-map, map-append}
use Rattle.waff_inputs.specs.declared.fault.ToolError.TheVariants as tool
use Rattle.waff_run.specs.Faults.{IsOfOpening, IsOfRunning, Told}
use Rattle.waff_run.specs.Files.{AreCellFiles, HasCell, Job, NamesFile, file_name, name_or, numbers_of}
use Rattle.waff_run.specs.Opening.{IsOfCell, IsOfTelling, NamesOne}
use Rattle.waff_run.specs.declared.fault.RunError.{RunError}
use Rattle.waff_run.specs.declared.fault.RunError.TheVariants as run
use Rattle.waff_run.specs.declared.opening.CellFile.{CellFile}
use Rattle.waff_run.specs.Named.{AreEnds, IsEnd, cells_named}
use Rattle.waff_run.specs.Places.{Placing, place_of}

-- the file for a place has its name
pub named : (spaces : List Space) (placing : Placing) (file s p : ℕ) (name : List ℕ) → place_of placing file ≡ Some (s, p)
    → name_at spaces s ≡ Some name → file_name spaces placing file ≡ name ++ 46 ∷ decimal p
named spaces placing file s p name here is =
    ap (name_or spaces file) here ∙ ap (λ o. unwrap_or (option_map (λ name. name ++ 46 ∷ decimal p) o) (decimal file)) is

-- the file of no place has its number
pub numbered : (spaces : List Space) (placing : Placing) (file : ℕ) → place_of placing file ≡ None → file_name spaces placing file ≡ decimal file
numbered spaces placing file none = ap (name_or spaces file) none

first_one : (x : ℕ) (xs : List ℕ) → Contains (x ∷ xs) x
first_one x xs = (0, omega arith, refl)

later_one : (x : ℕ) (xs : List ℕ) (y : ℕ) → Contains xs y → Contains (x ∷ xs) y
later_one x xs y (k, inside, is) = (suc k, omega (arith, inside), is)

only_one : (x y : ℕ) → Contains (x ∷ []) y → x ≡ y
only_one x y (zero, inside, is) = is
only_one x y (suc k, inside, is) = absurd (omega (arith, inside))

below_all : (x n : ℕ) (xs : List ℕ) → x < n → AllByRecursion (λ y. nat_cmp x y ≡ Less) xs → AllByRecursion (λ y. nat_cmp x y ≡ Less) (xs ++ n ∷ [])
below_all x n [] less all = (sym (nat_cmp_is x n Less less), tt)
below_all x n (y ∷ ys) less all = (all.0, below_all x n ys less all.1)

rising_more : (xs : List ℕ) (n : ℕ) → ((x : ℕ) → Contains xs x → x < n) → IsStrictlySortedBy nat_cmp xs → IsStrictlySortedBy nat_cmp (xs ++ n ∷ [])
unfolding IsStrictlySortedBy
rising_more [] n below up = (tt, tt)
rising_more (x ∷ xs) n below up =
    (below_all x n xs (below x (first_one x xs)) up.0, rising_more xs n (λ y has. below y (later_one x xs y has)) up.1)

-- those of the files in which cells lie that are below a number
pub record AreFilesBelow (placing : Placing) (cells : List Cell) (bound : ℕ) (numbers : List ℕ) : Type 0 where
  pub each : (file : ℕ) → Contains numbers file → (file < bound) × HasCell placing cells file
  pub all : 0 < placing.bytes → (file : ℕ) → file < bound → HasCell placing cells file → Contains numbers file
  pub rising : IsStrictlySortedBy nat_cmp numbers

pub none_below : (placing : Placing) (cells : List Cell) → AreFilesBelow placing cells 0 []
unfolding IsStrictlySortedBy
none_below placing cells = record {
  each = λ file has. let inside = has.1 in absurd (omega (arith, inside));
  all = λ some file within has. absurd (omega (arith, within));
  rising = tt;
}

module _ (placing : Placing) (cells : List Cell) (numbers : List ℕ) (n end : ℕ) (is : IsEnd placing cells n end) (old : AreFilesBelow placing cells n numbers) where
  -- a file in which one ends is one more
  pub one_more : 0 < end → AreFilesBelow placing cells (n + 1) (numbers ++ n ∷ [])
  one_more some = record {
    each = λ file has. by_place file (Contains-append_cases numbers (n ∷ []) file has);
    all = λ bytes file within has. by_order bytes file within has (cases_order file n);
    rising = rising_more numbers n (λ file has. (old.each file has).0) old.rising;
  }
    where
      here : HasCell placing cells n
      here = elim is.least [
        | inl none ↦ absurd (omega (arith, none, some))
        | inr has ↦ record { cell = has.cell; named = has.named; here = has.here }
      ]

      by_place : (file : ℕ) → Contains numbers file ⊎ Contains (n ∷ []) file → (file < n + 1) × HasCell placing cells file
      by_place file (inl before) = let was = old.each file before in (omega (arith, was.0), was.1)
      by_place file (inr last) = subst (λ file. (file < n + 1) × HasCell placing cells file) (only_one n file last) (omega arith, here)

      by_order : 0 < placing.bytes → (file : ℕ) → file < n + 1 → HasCell placing cells file → (file ≡ n) ⊎ ((file < n) ⊎ (n < file)) → Contains (numbers ++ n ∷ []) file
      by_order bytes file within has (inl same) =
          subst (Contains (numbers ++ n ∷ [])) (sym same) (Contains-append_right numbers (n ∷ []) n (first_one n []))
      by_order bytes file within has (inr (inl less)) = Contains-append_left numbers (n ∷ []) file (old.all bytes file less has)
      by_order bytes file within has (inr (inr more)) = absurd (omega (arith, within, more))

  -- one in which none ends is not
  pub no_more : end ≤ 0 → AreFilesBelow placing cells (n + 1) numbers
  no_more none = record {
    each = λ file has. let was = old.each file has in (omega (arith, was.0), was.1);
    all = λ bytes file within has. by_order bytes file within has (cases_order file n);
    rising = old.rising;
  }
    where
      by_order : 0 < placing.bytes → (file : ℕ) → file < n + 1 → HasCell placing cells file → (file ≡ n) ⊎ ((file < n) ⊎ (n < file)) → Contains numbers file
      by_order bytes file within has (inl same) =
          let ends = is.enough has.cell has.named (has.here ∙ same) in
          absurd (omega (arith, ends, none, bytes))
      by_order bytes file within has (inr (inl less)) = old.all bytes file less has
      by_order bytes file within has (inr (inr more)) = absurd (omega (arith, within, more))

-- those below the number of files are all
pub all_below : (placing : Placing) (cells : List Cell) (bound : ℕ) (numbers : List ℕ) → bound ≡ placing.files → AreFilesBelow placing cells bound numbers → AreCellFiles placing cells numbers
all_below placing cells bound numbers count are = record {
  each = λ file has. (are.each file has).1;
  all = λ bytes file within has. are.all bytes file (omega (arith, count, within)) has;
  rising = are.rising;
}

-- the numbers of one file more
pub numbers_more : (files : List CellFile) (file : CellFile) → numbers_of (files ++ file ∷ []) ≡ numbers_of files ++ file.number ∷ []
numbers_more files file = map-append (λ (file : CellFile). file.number) files (file ∷ [])

-- the number of one of the files is one of their numbers
pub has_number : (files : List CellFile) (at : ℕ) (file : CellFile) → at < length files → file ≡ get_or files at file → Contains (numbers_of files) file.number
has_number files at file within is = (
  at,
  omega (arith, within, length-map files (λ (file : CellFile). file.number)),
  get_or-map (λ (file : CellFile). file.number) files at file file.number within ∙ ap (λ (file : CellFile). file.number) (sym is),
)

-- why one of the files is not opened is why one of all is not
pub of_all : (spaces : List Space) (placing : Placing) (numbers : List ℕ) (number : ℕ) (own : Bool) (error : RunError) → Contains numbers number
    → IsOfCell spaces placing (number ∷ []) own error → IsOfCell spaces placing numbers own error
of_all spaces placing numbers number own (run.Tool error) has is = is
of_all spaces placing numbers number own (run.Foreign name) has is =
    (is.0, record { file = is.1.file; one = subst (Contains numbers) (only_one number is.1.file is.1.one) has; is = is.1.is })
of_all spaces placing numbers number own (run.File name) has is =
    record { file = is.file; one = subst (Contains numbers) (only_one number is.file is.one) has; is = is.is }
of_all spaces placing numbers number own (run.Tick m) has is = absurd is
of_all spaces placing numbers number own run.Folder has is = absurd is
of_all spaces placing numbers number own (run.Same name) has is = absurd is
of_all spaces placing numbers number own (run.Threads started) has is = absurd is
of_all spaces placing numbers number own run.Run has is = absurd is

-- a file of those in which the messages name a cell is named
names_file : (job : Job) (numbers : List ℕ) (name : List ℕ) → AreCellFiles job.placing (cells_named job.messages) numbers
    → NamesOne job.spaces job.placing numbers name → NamesFile job name
names_file job numbers name are one = record { file = one.file; has_cell = are.each one.file one.one; is = one.is }

-- why the files of cells are not opened is why those of the run are not
pub of_cells : (job : Job) (told : Told) (numbers : List ℕ) (own : Bool) (error : RunError) → AreCellFiles job.placing (cells_named job.messages) numbers
    → (own ≡ false → told.over ≡ false) → IsOfCell job.spaces job.placing numbers own error → IsOfOpening job told error
of_cells job told numbers own (run.Tool error) are over is = inl is
of_cells job told numbers own (run.Foreign name) are over is = (over is.0, names_file job numbers (string_bytes name) are is.1)
of_cells job told numbers own (run.File name) are over is = inl (names_file job numbers (string_bytes name) are is)
of_cells job told numbers own (run.Tick m) are over is = absurd is
of_cells job told numbers own run.Folder are over is = absurd is
of_cells job told numbers own (run.Same name) are over is = absurd is
of_cells job told numbers own (run.Threads started) are over is = absurd is
of_cells job told numbers own run.Run are over is = absurd is

-- why they are not told apart
pub of_telling : (job : Job) (told : Told) (numbers : List ℕ) (error : RunError) → AreCellFiles job.placing (cells_named job.messages) numbers
    → IsOfTelling job.spaces job.placing numbers told.others error → IsOfOpening job told error
of_telling job told numbers (run.Tool error) are is = inl is
of_telling job told numbers (run.Same name) are is = record {
  numbers = numbers;
  found = is.found;
  is_found = record { files = are; count = is.count };
  at = is.at;
  two = is.two;
  is = is.is;
}
of_telling job told numbers (run.Foreign name) are is = absurd is
of_telling job told numbers (run.File name) are is = absurd is
of_telling job told numbers (run.Tick m) are is = absurd is
of_telling job told numbers run.Folder are is = absurd is
of_telling job told numbers (run.Threads started) are is = absurd is
of_telling job told numbers run.Run are is = absurd is

-- so is one of a file in which one ends
pub names_ended : (job : Job) (ends : List ℕ) (file : ℕ) (name : List ℕ) → AreEnds job.placing (cells_named job.messages) ends
    → file < length ends → 0 < get_or ends file 0 → name ≡ file_name job.spaces job.placing file → NamesFile job name
names_ended job ends file name are within some is = record { file = file; has_cell = here; is = is }
  where
    here : HasCell job.placing (cells_named job.messages) file
    here = elim (are.each file within).least [
      | inl none ↦ absurd (omega (arith, none, some))
      | inr has ↦ record { cell = has.cell; named = has.named; here = has.here }
    ]
