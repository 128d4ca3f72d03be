use Rattle.std.proofs.Common.{◌≡◌, ◌∷◌, [], ◌++◌, Contains, sym, ◌∙◌, ap, subst}
use Rattle.std.proofs.lemmas.List.Elements.{Contains-append_left, Contains-push}
use Rattle.std.proofs.lemmas.List.{get_or_default}
use Rattle.waff_order.specs.Takers.{IsChain, opened_at, state_at, taken_at}
use Rattle.waff_order.specs.declared.takers.Taken.{Taken}
use Rattle.waff_order.specs.declared.takers.Takers.{Takers}
use Rattle.waff_order.proofs.TakerLemmas.{states_alone, states_shared, touched_more}
use Rattle.waff_order.proofs.takers.Takers.note_one.Goals as goal
use Rattle.waff_order.proofs.takers.Takers.note_one.Goals.{then-not-is_open+in_ok-push, else-not-is_open, then-used, else-used+in_ok-link}

pub returns-clause-kept : goal.returns-clause-kept
returns-clause-kept c = λ states h.
    let u = c.args.used in
    let old = c.args.self.now in
    let more = c.grow.new.self.locks.items in
    let here = c.if-not-is_open.self in
    let locks : here.locks.items ≡ more = elim c.if-not-is_open.branch [
      | then-not-is_open+in_ok-push w ↦ ap (λ (s : Takers). s.locks.items) w.self-is
      | else-not-is_open w ↦ ap (λ (s : Takers). s.locks.items) w.self-is
    ] in
    let chain : here.chain.items ≡ old.chain.items = elim c.if-not-is_open.branch [
      | then-not-is_open+in_ok-push w ↦ ap (λ (s : Takers). s.chain.items) w.self-is ∙ c.in_ok-grow.ensures.chain
      | else-not-is_open w ↦ ap (λ (s : Takers). s.chain.items) w.self-is ∙ c.in_ok-grow.ensures.chain
    ] in
    let taken = c.index-taken.result.now in
    let is : taken ≡ taken_at more u.lock = c.index-taken.ensures ∙ get_or_default more u.lock _ _ c.in_ok-grow.ensures.room in
    elim c.if-used.branch [
      | then-used w ↦
          let all : c.if-used.self.locks.items ≡ more = ap (λ (s : Takers). s.locks.items) w.self-is ∙ locks in
          let links : c.if-used.self.chain.items ≡ old.chain.items = ap (λ (s : Takers). s.chain.items) w.self-is ∙ chain in
          rw (all, links, w.next-is)
          (states_alone c.args.m old.locks.items more old.chain.items states u c.in_ok-grow.ensures.locks c.in_ok-grow.ensures.room w.if-used.true h)
      | else-used+in_ok-link w ↦
          let all : c.if-used.self.locks.items ≡ more = ap (λ (s : Takers). s.locks.items) w.self-is ∙ w.in_ok-link.ensures.locks ∙ locks in
          let links : c.if-used.self.chain.items ≡ w.link.new.self.chain.items = ap (λ (s : Takers). s.chain.items) w.self-is in
          rw (all, links, w.next-is)
          (states_shared c.args.m w.in_ok-link.field-0 old.locks.items more old.chain.items w.link.new.self.chain.items states u taken
          c.in_ok-grow.ensures.locks c.in_ok-grow.ensures.room w.if-used.false is
          (λ at sharers k. w.in_ok-link.ensures.others at sharers (subst (λ xs. IsChain xs at sharers) (sym chain) k))
          (λ sharers k. w.in_ok-link.ensures.chain sharers (subst (λ xs. IsChain xs taken.sharers sharers) (sym chain) k)) h)
    ]

pub returns-clause-touched : goal.returns-clause-touched
returns-clause-touched c = λ states h touched.
    let u = c.args.used in
    let old = c.args.self.now in
    let more = c.grow.new.self.locks.items in
    let root = c.args.root in
    let last : c.if-used.self.touched.items ≡ c.if-not-is_open.self.touched.items = elim c.if-used.branch [
      | then-used w ↦ ap (λ (s : Takers). s.touched.items) w.self-is
      | else-used+in_ok-link w ↦ ap (λ (s : Takers). s.touched.items) w.self-is ∙ w.in_ok-link.ensures.touched
    ] in
    let grown = c.in_ok-grow.ensures.touched in
    let taken = c.index-taken.result.now in
    let is : taken ≡ taken_at old.locks.items u.lock
    = c.index-taken.ensures ∙ get_or_default more u.lock _ _ c.in_ok-grow.ensures.room ∙ c.in_ok-grow.ensures.locks u.lock in
    elim c.if-not-is_open.branch [
      | then-not-is_open+in_ok-push w ↦
          let all : c.if-used.self.touched.items ≡ old.touched.items ++ u.lock ∷ []
          = last ∙ ap (λ (s : Takers). s.touched.items) w.self-is ∙ w.in_ok-push.ensures.items ∙ ap (λ xs. xs ++ u.lock ∷ []) grown in
          rw all (touched_more root c.args.m states u old.touched.items (old.touched.items ++ u.lock ∷ [])
          (λ l has. Contains-append_left old.touched.items (u.lock ∷ []) l has) (Contains-push old.touched.items u.lock) touched)
      | else-not-is_open w ↦
          let all : c.if-used.self.touched.items ≡ old.touched.items = last ∙ ap (λ (s : Takers). s.touched.items) w.self-is ∙ grown in
          let state = state_at states u.lock in
          let links : IsChain c.grow.new.self.chain.items taken.sharers state.sharers
          = subst (λ xs. IsChain xs taken.sharers state.sharers) (sym c.in_ok-grow.ensures.chain)
          (subst (λ (t : Taken). IsChain old.chain.items t.sharers state.sharers) (sym is) (h.sharers u.lock)) in
          let some = c.is_open.ensures w.if-not-is_open.false state.sharers links in
          let alone : taken.alone ≡ state.alone = ap (λ (t : Taken). t.alone) is ∙ h.alone u.lock in
          rw all (touched_more root c.args.m states u old.touched.items old.touched.items (λ l has. has)
          (touched u.lock some.0 (subst (λ a. Contains (opened_at root (record { alone = a; sharers = state.sharers })) some.0) alone some.1)) touched)
    ]
