use Rattle.std.proofs.Common.{◌≡◌, ◌++◌, drop, map}
use Rattle.std.specs.Option.{option_map}
use Rattle.wrapper_values.specs.Typed.{typed, typed_alike, typed_each}
use Rattle.wrapper_values.proofs.typed.+typed.Given as goal

-- the rest of the parts, with the values so far in front
abbrev pub invariant-push_typed-loop-part : goal.invariant-push_typed-loop-part
invariant-push_typed-loop-part l =
    option_map (λ rs. l.whole ++ rs) (typed_each (map (typed l.items) (drop l.part-index l.parts)) l.left)
    ≡ option_map (λ rs. l.initial.whole ++ rs) (typed_each (map (typed l.items) l.parts) l.types)

abbrev pub invariant-push_typed_fields-loop-part : goal.invariant-push_typed_fields-loop-part
invariant-push_typed_fields-loop-part l =
    option_map (λ rs. l.whole ++ rs) (typed_each (map (typed l.items) (drop l.part-index l.parts)) (map (λ f. f.ty) l.left))
    ≡ option_map (λ rs. l.initial.whole ++ rs) (typed_each (map (typed l.items) l.parts) (map (λ f. f.ty) l.fields))

abbrev pub invariant-push_typed_alike-loop-part : goal.invariant-push_typed_alike-loop-part
invariant-push_typed_alike-loop-part l =
    option_map (λ rs. l.whole ++ rs) (typed_alike l.ty (map (typed l.items) (drop l.part-index l.parts)))
    ≡ option_map (λ rs. l.initial.whole ++ rs) (typed_alike l.ty (map (typed l.items) l.parts))
