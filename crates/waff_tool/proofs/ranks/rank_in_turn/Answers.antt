use Rattle.std.proofs.Common.{◌≡◌, ◌<◌, ◌≤◌, ℕ, List, [], ◌∷◌, ◌++◌, Ok, length, take, get_or, sym, ◌∙◌, ap, subst}
use Rattle.std.specs.List.{AllZip}
use Rattle.std.proofs.lemmas.List.{take_all, take_more}
use Rattle.std.proofs.lemmas.Result.{err_from_is_err_and}
use Rattle.waff_model.specs.Layout.{Hierarchy}
use Rattle.waff_read.specs.Hierarchies.{hierarchy_of}
use Rattle.waff_tool.specs.Ranks.{AreRead, IsRanked, file_at}
use Rattle.waff_tool.proofs.RankLemmas.{first_refuted, ranked_admit, read_are, zip_at, zip_length, zip_push}
use Rattle.waff_tool.proofs.ranks.rank_in_turn.Goals as goal

-- the file beside a hierarchy
beside : (files : List (List ℕ)) (layouts : List Hierarchy) (i : ℕ) (layout : Hierarchy) → AreRead files layouts → i < length layouts
    → layout ≡ get_or layouts i layout → (i < length files) × (hierarchy_of (file_at files i) ≡ Ok layout)
beside files layouts i layout are inside is =
    let there : i < length files = subst (λ n. i < n) (sym (zip_length (λ file l. hierarchy_of file ≡ Ok l) files layouts are)) inside in
    (there, zip_at (λ file l. hierarchy_of file ≡ Ok l) files layouts i [] layout are there ∙ ap (λ l. Ok l) (sym is))

pub loop-layout-init : goal.loop-layout-init
loop-layout-init g c = λ files are. subst (AllZip (IsRanked c.args.rule c.args.trace.now c.args.k) []) (sym c.in_ok-ranks.ensures.items) tt

pub returns-in_err-ranked-clause-refused : goal.returns-in_err-ranked-clause-refused
returns-in_err-ranked-clause-refused g c =
    let p = err_from_is_err_and c.from_residual-in_err-ranked.result c.from_residual-in_err-ranked.ensures.1 in
    let trace = c.args.trace.now in
    let i = c.loop-layout.layout-index in
    rw (p.1, p.2)
    (λ files are. let at = beside files c.args.layouts.now i c.layout-item.result are c.loop-layout-test.true c.layout-item.is in
    first_refuted files trace i c.layout-item.result c.in_err-ranked.field-0.0 (read_are files c.args.layouts.now are) at.0
    (ranked_admit c.args.rule trace c.args.k (take i files) c.loop-layout.ranks.items (c.loop-layout.invariant files are)) at.1
    (c.in_err-ranked.ensures.refused (file_at files i) at.1))

pub loop-layout-preserved : goal.loop-layout-preserved
loop-layout-preserved g c =
    let trace = c.args.trace.now in
    let i = c.loop-layout.layout-index in
    let ranks = c.loop-layout.ranks.items in
    λ files are. let at = beside files c.args.layouts.now i c.layout-item.result are c.loop-layout-test.true c.layout-item.is in
    subst (λ front. AllZip (IsRanked c.args.rule trace c.args.k) front c.keep_rank.new.ranks.items) (sym (take_more files i [] at.0))
    (subst (AllZip (IsRanked c.args.rule trace c.args.k) (take i files ++ file_at files i ∷ [])) (sym c.in_ok-keep_rank.ensures)
    (zip_push (IsRanked c.args.rule trace c.args.k) (take i files) ranks (file_at files i) c.in_ok-ranked.ranked (c.loop-layout.invariant files are)
    (c.in_ok-ranked.ensures.made (file_at files i) at.1)))

pub returns-clause-made : goal.returns-clause-made
returns-clause-made g c =
    let i = c.loop-layout.layout-index in
    λ files are. let over : length files ≤ i = subst (λ n. n ≤ i) (sym (zip_length (λ file l. hierarchy_of file ≡ Ok l) files c.args.layouts.now are)) c.loop-layout-test.false in
    subst (λ front. AllZip (IsRanked c.args.rule c.args.trace.now c.args.k) front c.loop-layout.ranks.items) (take_all i files over) (c.loop-layout.invariant files are)
