-- Laws of the lines of a summary.
use Rattle.std.proofs.Common.{◌≡◌, ℕ, ◌+◌, ◌<◌, ◌≤◌, List, [], ◌∷◌, ◌++◌, length, get_or, drop, Some, None, Result, Ok, Err, false, refl, sym, ◌∙◌}
use Rattle.std.specs.Prelude.{codes}
use Rattle.std.proofs.Math.Seq.{drop-length}
use Rattle.std.proofs.lemmas.Bool.{lt-leb, le-leb}
use Rattle.std.specs.Str.{bytes_eq}
use Rattle.csv.specs.Records.{field_at}
use Rattle.waff_parse.specs.Fields.{Field}
use Rattle.waff_parse.specs.Rows.{Record}
use Rattle.waff_parse.specs.Texts.{number_within, parts}
use Rattle.waff_parse.specs.Walks.{walk, with_front}
use Rattle.waff_parse.proofs.Laws.{walk-end}
use Rattle.waff_plan_text.specs.Summaries.{begins_summary, link_of, links_of, same}
use Rattle.waff_plan_text.specs.declared.refusal.Refusal.{Refusal}
use Rattle.waff_plan_text.specs.declared.refusal.Refusal.TheVariants as refusal
use Rattle.waff_plan_text.proofs.WalkLaws.{walk-refused, walk-turn}

-- a record with a first field
pub begins-some : (row : Record) (first : Field) → Some first ≡ field_at row 0 → begins_summary row ≡ bytes_eq first (codes "workers")
unfolding field_at
begins-some [] first h = absurd (cc h)
begins-some (f ∷ more) first h = let e : f ≡ first = cc in rw e refl

-- a record without fields
pub begins-none : (row : Record) → None ≡ field_at row 0 → false ≡ begins_summary row
unfolding field_at
begins-none [] h = refl
begins-none (f ∷ more) h = absurd (cc h)

-- one message of a chain
pub link-none : (messages : ℕ) (text : Field) → None ≡ number_within 1 messages text → link_of messages text ≡ Err refusal.Summary
link-none messages text h = rw (← h) refl

pub link-some : (messages : ℕ) (text : Field) (n : ℕ) → Some n ≡ number_within 1 messages text → link_of messages text ≡ Ok n
link-some messages text n h = rw (← h) refl

-- the messages of a chain from a part on, behind those before
abbrev pub Rest : ℕ → Field → List ℕ → ℕ → Result (List ℕ) Refusal
Rest messages text front i = with_front front (walk link_of same messages (drop i (parts 32 text)))

abbrev pub Whole : ℕ → Field → Result (List ℕ) Refusal
Whole messages text = walk link_of same messages (parts 32 text)

pub links-refused : (messages i : ℕ) (text link : Field) (front : List ℕ) → i < length (parts 32 text) → link ≡ get_or (parts 32 text) i link
    → None ≡ number_within 1 messages link → Rest messages text front i ≡ Whole messages text → links_of messages text ≡ Err refusal.Summary
links-refused messages i text link front lt is none whole =
    let stop = walk-refused link_of same messages (parts 32 text) i link refusal.Summary front lt is (link-none messages link none) in
    rw (sym whole ∙ stop) refl

pub links-step : (messages i j n : ℕ) (text link : Field) (front new : List ℕ) → i < length (parts 32 text) → link ≡ get_or (parts 32 text) i link
    → Some n ≡ number_within 1 messages link → new ≡ front ++ n ∷ [] → j ≡ i + 1 → Rest messages text new j ≡ Rest messages text front i
links-step messages i j n text link front new lt is some e next = rw (e, next) (walk-turn link_of same messages (parts 32 text) i link n front lt is (link-some messages link n some))

pub links-all : (messages i : ℕ) (text : Field) (front : List ℕ) → i ≡ length (parts 32 text)
    → Rest messages text front i ≡ Whole messages text → Whole messages text ≡ Ok front
links-all messages i text front end whole =
    let none : drop i (parts 32 text) ≡ [] = rw end (drop-length (parts 32 text)) in
    sym whole ∙ rw none (walk-end link_of same messages front)

pub links-many : (messages : ℕ) (text : Field) (chain : List ℕ) → Whole messages text ≡ Ok chain → messages < length chain
    → links_of messages text ≡ Err refusal.Summary
links-many messages text chain whole lt = rw (whole, lt-leb _ _ lt) refl

pub links-whole : (messages : ℕ) (text : Field) (chain : List ℕ) → Whole messages text ≡ Ok chain → length chain ≤ messages
    → links_of messages text ≡ Ok chain
links-whole messages text chain whole le = rw (whole, le-leb _ _ le) refl
