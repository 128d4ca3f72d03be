-- What was found of the words asks for one thing.
use Rattle.std.proofs.Common.{◌≡◌, ◌∙◌, ℕ, List, Option, Some, None, Vec, Global, ap, codes, if◌then◌else◌, option_map, refl, subst, sym}
use Rattle.std.specs.Prelude.{option_and_then, unwrap_or}
use Rattle.std.specs.Str.{bytes_eq}
use Rattle.clap.specs.Words.{Row}
use Rattle.waff_draw.specs.declared.parts.Part.{Part}
use Rattle.waff_figures.specs.declared.grouping.Grouping.{Grouping}
use Rattle.waff_figures.specs.declared.grouping.Columns.{Columns}
use Rattle.waff_figures.specs.declared.grouping.Label.{Label}
use Rattle.waff_figures.specs.declared.told.Told.{Told}
use Rattle.waff_figures.specs.declared.told.Told.TheVariants as told
use Rattle.waff_list.specs.declared.rule.Rule.{Rule}
use Rattle.waff_cli.specs.Unique.{AskedIsOne, IsSameAsked}
use Rattle.waff_model.specs.declared.locking.Locking.{Locking}
use Rattle.waff_cli.specs.Words.{IsAsked, columns_in, picture_in, grouping_in, label_in, locking_in, number_in, rule_in, steps_in, workers_in}
use Rattle.waff_cli.specs.declared.words.Asked.{Asked}
use Rattle.waff_cli.specs.declared.words.Asked.TheVariants as asked
use Rattle.waff_draw.specs.declared.picture.Picture.{Picture}

-- what the words of `waits` ask, by whether a number of messages is given
abbrev waits_for : Option ℕ → List Row → Rule → Told
waits_for None rows rule = told.Waits (workers_in rows) rule (grouping_in rows)
waits_for (Some most) rows rule = told.Worst (workers_in rows) rule most

-- what is asked, where several numbers of workers, and a part of a plan, are these
abbrev asked_for : Option (Vec ℕ Global) → Option Part → List ℕ → List Row → Option Asked
asked_for given part command rows =
    if bytes_eq command (codes "assign") then Some (asked.Told told.Assign)
    else (if bytes_eq command (codes "plan") then option_map (λ (rule : Rule). asked.Told (told.Plan (workers_in rows) rule)) (rule_in rows)
    else (if bytes_eq command (codes "needs") then Some (asked.Told told.Needs)
    else (if bytes_eq command (codes "sweep") then option_map (λ (rule : Rule). asked.Told (told.Sweep given rule)) (rule_in rows)
    else (if bytes_eq command (codes "limits") then option_map (λ (rule : Rule). asked.Told (told.Limits given rule)) (rule_in rows)
    else (if bytes_eq command (codes "where") then option_map (λ (rule : Rule). asked.Told (told.Where (workers_in rows) rule (label_in rows) (columns_in rows))) (rule_in rows)
    else (if bytes_eq command (codes "waits") then option_map (λ (rule : Rule). asked.Told (waits_for (number_in rows (codes "worst")) rows rule)) (rule_in rows)
    else (if bytes_eq command (codes "why") then Some (asked.Told (told.Why (grouping_in rows)))
    else (if bytes_eq command (codes "locks") then option_map (λ (rule : Rule). asked.Told (told.Locks (workers_in rows) rule (locking_in rows) (steps_in rows))) (rule_in rows)
    else (if bytes_eq command (codes "check") then Some asked.Check
    else (if bytes_eq command (codes "replay") then Some (asked.Replay (workers_in rows))
    else (if bytes_eq command (codes "compare") then option_map (λ (k : ℕ). asked.Compare k) (workers_in rows)
    else (if bytes_eq command (codes "rate") then Some asked.Rate
    else (if bytes_eq command (codes "draw") then option_and_then (λ (picture : Picture). option_map (λ (some : Part). asked.Draw picture some) part) (picture_in rows)
    else (if bytes_eq command (codes "rank") then option_and_then (λ (k : ℕ). option_map (λ (rule : Rule). asked.Rank k rule) (rule_in rows)) (workers_in rows)
    else (if bytes_eq command (codes "explain") then Some asked.Explain
    else None)))))))))))))))

where_is : (rows : List Row) (workers : Option ℕ) (rule : Rule) (label : Option Label) (columns : Columns) → workers ≡ workers_in rows
    → label ≡ label_in rows → columns ≡ columns_in rows
    → told.Where workers rule label columns ≡ told.Where (workers_in rows) rule (label_in rows) (columns_in rows)
where_is rows workers rule label columns p q r =
    ap (λ w. told.Where w rule label columns) p ∙ ap (λ l. told.Where (workers_in rows) rule l columns) q
    ∙ ap (λ c. told.Where (workers_in rows) rule (label_in rows) c) r

waits_is : (rows : List Row) (workers : Option ℕ) (rule : Rule) (grouping : Grouping) → workers ≡ workers_in rows → grouping ≡ grouping_in rows
    → told.Waits workers rule grouping ≡ told.Waits (workers_in rows) rule (grouping_in rows)
waits_is rows workers rule grouping p q =
    ap (λ w. told.Waits w rule grouping) p ∙ ap (λ g. told.Waits (workers_in rows) rule g) q

locks_is : (rows : List Row) (workers : Option ℕ) (rule : Rule) (kind : Locking) (steps : ℕ) → workers ≡ workers_in rows → kind ≡ locking_in rows
    → steps ≡ steps_in rows → told.Locks workers rule kind steps ≡ told.Locks (workers_in rows) rule (locking_in rows) (steps_in rows)
locks_is rows workers rule kind steps p q r =
    ap (λ w. told.Locks w rule kind steps) p ∙ ap (λ k. told.Locks (workers_in rows) rule k steps) q
    ∙ ap (λ n. told.Locks (workers_in rows) rule (locking_in rows) n) r

module _ (rows : List Row) where
  -- by this command
  by : (given : Option (Vec ℕ Global)) (part : Option Part) (command name : List ℕ) (what : Asked) → command ≡ name
      → asked_for given part name rows ≡ Some what
      → (given : Option (Vec ℕ Global)) × (part : Option Part) × (asked_for given part command rows ≡ Some what)
  by given part command name what is asks = (given, part, subst (λ some. asked_for given part some rows ≡ Some what) (sym is) asks)

  -- what is asked is what stands there
  stands : (command : List ℕ) (what : Asked) → IsAsked command rows what
      → (given : Option (Vec ℕ Global)) × (part : Option Part) × (asked_for given part command rows ≡ Some what)
  stands command asked.PlanOfInput p = absurd p
  stands command (asked.Told told.Assign) p =
      by None None command (codes "assign") (asked.Told told.Assign) p (refl)
  stands command (asked.Told (told.Plan workers rule)) p =
      by None None command (codes "plan") (asked.Told (told.Plan workers rule)) p.0 (ap (option_map (λ (rule : Rule). asked.Told (told.Plan (workers_in rows) rule))) p.2 ∙ ap (λ w. Some (asked.Told (told.Plan w rule))) (sym p.1))
  stands command (asked.Told told.Needs) p =
      by None None command (codes "needs") (asked.Told told.Needs) p (refl)
  stands command (asked.Told (told.Sweep given rule)) p =
      by given None command (codes "sweep") (asked.Told (told.Sweep given rule)) p.0 (ap (option_map (λ (rule : Rule). asked.Told (told.Sweep given rule))) p.2)
  stands command (asked.Told (told.Limits given rule)) p =
      by given None command (codes "limits") (asked.Told (told.Limits given rule)) p.0 (ap (option_map (λ (rule : Rule). asked.Told (told.Limits given rule))) p.2)
  stands command (asked.Told (told.Where workers rule label columns)) p =
      by None None command (codes "where") (asked.Told (told.Where workers rule label columns)) p.0 (ap (option_map (λ (rule : Rule). asked.Told (told.Where (workers_in rows) rule (label_in rows) (columns_in rows)))) p.2 ∙ ap (λ t. Some (asked.Told t)) (sym (where_is rows workers rule label columns p.1 p.3 p.4)))
  stands command (asked.Told (told.Waits workers rule grouping)) p =
      by None None command (codes "waits") (asked.Told (told.Waits workers rule grouping)) p.0 (ap (option_map (λ (rule : Rule). asked.Told (waits_for (number_in rows (codes "worst")) rows rule))) p.2 ∙ ap (λ n. Some (asked.Told (waits_for n rows rule))) p.3 ∙ ap (λ t. Some (asked.Told t)) (sym (waits_is rows workers rule grouping p.1 p.4)))
  stands command (asked.Told (told.Worst workers rule most)) p =
      by None None command (codes "waits") (asked.Told (told.Worst workers rule most)) p.0 (ap (option_map (λ (rule : Rule). asked.Told (waits_for (number_in rows (codes "worst")) rows rule))) p.2 ∙ ap (λ n. Some (asked.Told (waits_for n rows rule))) p.3 ∙ ap (λ w. Some (asked.Told (told.Worst w rule most))) (sym p.1))
  stands command (asked.Told (told.Locks workers rule kind steps)) p =
      by None None command (codes "locks") (asked.Told (told.Locks workers rule kind steps)) p.0 (ap (option_map (λ (rule : Rule). asked.Told (told.Locks (workers_in rows) rule (locking_in rows) (steps_in rows)))) p.2 ∙ ap (λ t. Some (asked.Told t)) (sym (locks_is rows workers rule kind steps p.1 p.3 p.4)))
  stands command (asked.Told (told.Why grouping)) p =
      by None None command (codes "why") (asked.Told (told.Why grouping)) p.0 (ap (λ g. Some (asked.Told (told.Why g))) (sym p.1))
  stands command asked.Check p = by None None command (codes "check") asked.Check p (refl)
  stands command (asked.Replay workers) p =
      by None None command (codes "replay") (asked.Replay workers) p.0 (ap (λ w. Some (asked.Replay w)) (sym p.1))
  stands command (asked.Compare k) p =
      by None None command (codes "compare") (asked.Compare k) p.0 (sym (ap (option_map (λ (k : ℕ). asked.Compare k)) p.1))
  stands command asked.Rate p = by None None command (codes "rate") asked.Rate p (refl)
  stands command (asked.Draw picture some) p =
      by None (Some some) command (codes "draw") (asked.Draw picture some) p.0 (ap (option_and_then (λ (picture : Picture). option_map (λ (one : Part). asked.Draw picture one) (Some some))) p.1)
  stands command (asked.Rank k rule) p =
      by None None command (codes "rank") (asked.Rank k rule) p.0 (sym (ap (option_and_then (λ (k : ℕ). option_map (λ (rule : Rule). asked.Rank k rule) (rule_in rows))) p.1) ∙ ap (option_map (λ (rule : Rule). asked.Rank k rule)) p.2)
  stands command asked.Explain p = by None None command (codes "explain") asked.Explain p (refl)

  module _ (other : Asked) where
    moved : (what this : Asked) → Some this ≡ Some other → IsSameAsked what this → IsSameAsked what other
    moved what this same is = subst (IsSameAsked what) (ap (λ o. unwrap_or o other) same) is

    kept : (command : List ℕ) (this : Asked) → IsAsked command rows other → Some this ≡ Some other → IsAsked command rows this
    kept command this q same = subst (IsAsked command rows) (sym (ap (λ o. unwrap_or o other) same)) q

    at : (given : Option (Vec ℕ Global)) (part : Option Part) (command name : List ℕ) → command ≡ name
        → asked_for given part command rows ≡ Some other → asked_for given part name rows ≡ Some other
    at given part command name is asks = subst (λ some. asked_for given part some rows ≡ Some other) is asks

    -- what is asked is the same as what stands there
    same : (given : Option (Vec ℕ Global)) (part : Option Part) (command : List ℕ) → IsAsked command rows other → (what : Asked)
        → IsAsked command rows what → asked_for given part command rows ≡ Some other → IsSameAsked what other
    same given part command q asked.PlanOfInput p is = absurd p
    same given part command q (asked.Told told.Assign) p is =
        moved (asked.Told told.Assign) (asked.Told told.Assign) (at given part command (codes "assign") p is) refl
    same given part command q (asked.Told told.Needs) p is =
        moved (asked.Told told.Needs) (asked.Told told.Needs) (at given part command (codes "needs") p is) refl
    same given part command q asked.Check p is =
        moved asked.Check asked.Check (at given part command (codes "check") p is) refl
    same given part command q asked.Rate p is =
        moved asked.Rate asked.Rate (at given part command (codes "rate") p is) refl
    same given part command q asked.Explain p is =
        moved asked.Explain asked.Explain (at given part command (codes "explain") p is) refl
    same given part command q (asked.Told (told.Plan workers rule)) p is =
        moved (asked.Told (told.Plan workers rule)) (asked.Told (told.Plan (workers_in rows) rule)) (sym (ap (option_map (λ (rule : Rule). asked.Told (told.Plan (workers_in rows) rule))) p.2) ∙ at given part command (codes "plan") p.0 is) (ap (λ w. told.Plan w rule) p.1)
    same given part command q (asked.Told (told.Sweep mine rule)) p is =
        let there = at given part command (codes "sweep") p.0 is in
        let equal : Some (asked.Told (told.Sweep given rule)) ≡ Some other = sym (ap (option_map (λ (rule : Rule). asked.Told (told.Sweep given rule))) p.2) ∙ there in
        let its = kept command (asked.Told (told.Sweep given rule)) q equal in
        moved (asked.Told (told.Sweep mine rule)) (asked.Told (told.Sweep given rule)) equal (p.1 ∙ sym its.1, refl)
    same given part command q (asked.Told (told.Limits mine rule)) p is =
        let there = at given part command (codes "limits") p.0 is in
        let equal : Some (asked.Told (told.Limits given rule)) ≡ Some other = sym (ap (option_map (λ (rule : Rule). asked.Told (told.Limits given rule))) p.2) ∙ there in
        let its = kept command (asked.Told (told.Limits given rule)) q equal in
        moved (asked.Told (told.Limits mine rule)) (asked.Told (told.Limits given rule)) equal (p.1 ∙ sym its.1, refl)
    same given part command q (asked.Told (told.Locks workers rule kind steps)) p is =
        moved (asked.Told (told.Locks workers rule kind steps)) (asked.Told (told.Locks (workers_in rows) rule (locking_in rows) (steps_in rows))) (sym (ap (option_map (λ (rule : Rule). asked.Told (told.Locks (workers_in rows) rule (locking_in rows) (steps_in rows)))) p.2) ∙ at given part command (codes "locks") p.0 is) (locks_is rows workers rule kind steps p.1 p.3 p.4)
    same given part command q (asked.Told (told.Where workers rule label columns)) p is =
        moved (asked.Told (told.Where workers rule label columns)) (asked.Told (told.Where (workers_in rows) rule (label_in rows) (columns_in rows))) (sym (ap (option_map (λ (rule : Rule). asked.Told (told.Where (workers_in rows) rule (label_in rows) (columns_in rows)))) p.2) ∙ at given part command (codes "where") p.0 is) (where_is rows workers rule label columns p.1 p.3 p.4)
    same given part command q (asked.Told (told.Waits workers rule grouping)) p is =
        moved (asked.Told (told.Waits workers rule grouping)) (asked.Told (told.Waits (workers_in rows) rule (grouping_in rows))) (sym (ap (λ n. Some (asked.Told (waits_for n rows rule))) p.3) ∙ sym (ap (option_map (λ (rule : Rule). asked.Told (waits_for (number_in rows (codes "worst")) rows rule))) p.2) ∙ at given part command (codes "waits") p.0 is) (waits_is rows workers rule grouping p.1 p.4)
    same given part command q (asked.Told (told.Worst workers rule most)) p is =
        moved (asked.Told (told.Worst workers rule most)) (asked.Told (told.Worst (workers_in rows) rule most)) (sym (ap (λ n. Some (asked.Told (waits_for n rows rule))) p.3) ∙ sym (ap (option_map (λ (rule : Rule). asked.Told (waits_for (number_in rows (codes "worst")) rows rule))) p.2) ∙ at given part command (codes "waits") p.0 is) (ap (λ w. told.Worst w rule most) p.1)
    same given part command q (asked.Told (told.Why grouping)) p is =
        moved (asked.Told (told.Why grouping)) (asked.Told (told.Why (grouping_in rows))) (at given part command (codes "why") p.0 is) (ap (λ g. told.Why g) p.1)
    same given part command q (asked.Replay workers) p is =
        moved (asked.Replay workers) (asked.Replay (workers_in rows)) (at given part command (codes "replay") p.0 is) (ap (λ w. asked.Replay w) p.1)
    same given part command q (asked.Compare k) p is =
        moved (asked.Compare k) (asked.Compare k) (ap (option_map (λ (k : ℕ). asked.Compare k)) p.1 ∙ at given part command (codes "compare") p.0 is) refl
    same given part command q (asked.Rank k rule) p is =
        moved (asked.Rank k rule) (asked.Rank k rule) (sym (ap (option_map (λ (rule : Rule). asked.Rank k rule)) p.2) ∙ ap (option_and_then (λ (k : ℕ). option_map (λ (rule : Rule). asked.Rank k rule) (rule_in rows))) p.1 ∙ at given part command (codes "rank") p.0 is) refl
    same given None command q (asked.Draw picture mine) p is =
        let there = at given None command (codes "draw") p.0 is in
        let bad : None ≡ Some other = sym (ap (option_and_then (λ (picture : Picture). option_map (λ (some : Part). asked.Draw picture some) None)) p.1) ∙ there in
        absurd (cc)
    same given (Some some) command q (asked.Draw picture mine) p is =
        let there = at given (Some some) command (codes "draw") p.0 is in
        let equal : Some (asked.Draw picture some) ≡ Some other = sym (ap (option_and_then (λ (picture : Picture). option_map (λ (one : Part). asked.Draw picture one) (Some some))) p.1) ∙ there in
        let its = kept command (asked.Draw picture some) q equal in
        moved (asked.Draw picture mine) (asked.Draw picture some) equal (
          refl,
          ap (λ o. unwrap_or o mine.from) (p.2.begins ∙ sym its.2.begins),
          p.2.ends ∙ sym its.2.ends,
        )

pub asked_is_one : (found : Option (List ℕ × List Row)) → AskedIsOne found
asked_is_one None what other p q =
    subst (λ one. IsSameAsked one other) (sym p) (subst (IsSameAsked asked.PlanOfInput) (sym q) refl)
asked_is_one (Some command) what other p q =
    let there = stands command.1 command.0 other q in
    same command.1 other there.0 there.1 command.0 q what p there.2
