use Rattle.std.proofs.Common.{◌≡◌, None, ◌∙◌, sym, refl, position}
use Rattle.std.specs.Prelude.{string_bytes}
use Rattle.std.specs.String.{string_eq}
use Rattle.std.specs.Str.{bytes_eq}
use Rattle.std.proofs.lemmas.List.{map_push}
use Rattle.waff_model.proofs.NodeEntries.{position-map}
use Rattle.waff_read.proofs.NameLemmas.{insert_key-new}
use Rattle.waff_read.proofs.names.Names.push.Goals as goal

pub returns : goal.returns
returns c =
    let key = c.in_ok-name.name in
    let keys = c.self.inside.names.keys in
    let none : position (bytes_eq (string_bytes key)) c.args.self.now ≡ None = rw c.in_ok-name.ensures.ok c.requires in
    let absent : position (λ k. string_eq key k) keys ≡ None =
    sym (position-map (bytes_eq (string_bytes key)) string_bytes keys) ∙ rw c.self.view_is none in
    rw (c.in_ok-insert.ensures.keys, insert_key-new string_eq keys key absent, map_push string_bytes keys key, ← c.in_ok-name.ensures.ok, ← c.self.view_is) refl
