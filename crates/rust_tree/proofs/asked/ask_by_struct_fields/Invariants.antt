use Rattle.std.proofs.Common.{◌≡◌, ◌++◌, drop}
use Rattle.std.specs.List.{flat_map}
use Rattle.rust_tree.specs.Asked.{asked_by_type}
use Rattle.rust_tree.proofs.asked.ask_by_struct_fields.Given as goal

abbrev pub invariant-loop-field : goal.invariant-loop-field
invariant-loop-field l = l.asked ++ flat_map (λ f. asked_by_type f.ty) (drop l.field-index l.fields) ≡ l.initial.asked ++ flat_map (λ f. asked_by_type f.ty) l.fields
