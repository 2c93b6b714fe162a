use Rattle.std.proofs.Common.{◌≡◌, map, take}
use Rattle.rust_tree.specs.Ident.{rust_ident}
use Rattle.type_sites.proofs.sites.field_idents.Given as goal

abbrev pub invariant-loop-field : goal.invariant-loop-field
invariant-loop-field l = l.idents ≡ map (λ f. rust_ident f.name) (take l.field-index l.fields)
