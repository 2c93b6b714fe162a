use Rattle.std.proofs.Common.{◌≡◌, ◌++◌, map, take}
use Rattle.rust_tree.specs.Ident.{rust_ident}
use Rattle.gen_accept.specs.declared.declared.Sort.TheVariants.{Value}
use Rattle.gen_accept.specs.DeclaredNames.{declared}
use Rattle.gen_accept.proofs.type_scopes.declare_fields.Given as goal

abbrev pub invariant-loop-field : goal.invariant-loop-field
invariant-loop-field l = l.names ≡ l.initial.names ++ map (declared Value) (map (λ f. rust_ident f.name) (take l.field-index l.fields))
