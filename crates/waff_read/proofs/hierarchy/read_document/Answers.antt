use Rattle.std.proofs.Common.{refl, inl, inr, sym, ◌∙◌}
use Rattle.std.specs.Str.{is_utf8}
use Rattle.std.proofs.lemmas.Bool.{cases_Bool, false≢true}
use Rattle.std.proofs.lemmas.Str.{is_utf8-from_IsUtf8, IsUtf8-from_is_utf8}
use Rattle.toml.proofs.Views.{view-Table}
use Rattle.waff_read.proofs.hierarchy.read_document.Goals as goal

pub returns-in-Ok : goal.returns-in-Ok
returns-in-Ok c =
    rw (is_utf8-from_IsUtf8 c.args.bytes.now c.in-Ok.ensures.ok.0, c.in-Ok.ensures.ok.1, view-Table c.in-Ok.table) refl

pub returns-else-is_memory : goal.returns-else-is_memory
returns-else-is_memory c =
    elim (cases_Bool (is_utf8 c.args.bytes.now)) [
      | inl utf8 ↦
          rw (utf8, c.in-Err.ensures.refused (λ memory. false≢true (sym c.if-is_memory.false ∙ c.is_memory.ensures.1 memory)) (IsUtf8-from_is_utf8 c.args.bytes.now utf8)) refl
      | inr other ↦ rw other refl
    ]
