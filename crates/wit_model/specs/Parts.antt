-- Which types a kind names, each in its place; a place for a payload that is left out holds none.
use Rattle.std.specs.Prelude.{List, [], ◌∷◌, map, Option, Some}
use Rattle.wit_model.specs.declared.name.TypeId.{TypeId}
use Rattle.wit_model.specs.declared.types.WitType.{WitType}
use Rattle.wit_model.specs.declared.types.WitType.TheVariants.{Id}
use Rattle.wit_model.specs.declared.types.Handle.{Handle}
use Rattle.wit_model.specs.declared.types.Handle.TheVariants.{Own, Borrow}
use Rattle.wit_model.specs.declared.types.TypeDefKind.{TypeDefKind}
use Rattle.wit_model.specs.declared.types.TypeDefKind.TheVariants as kind

-- the resource, or the alias of one, that a handle is for
abbrev pub handle_target : Handle → TypeId
handle_target (Own id) = id
handle_target (Borrow id) = id

unfoldable pub parts : TypeDefKind → List (Option WitType)
parts (kind.Alias ty) = Some ty ∷ []
parts (kind.Handle handle) = Some (Id (handle_target handle)) ∷ []
parts (kind.List element) = Some element ∷ []
parts (kind.Map k v) = Some k ∷ Some v ∷ []
parts (kind.FixedLengthList element _) = Some element ∷ []
parts (kind.Tuple members) = map (λ ty. Some ty) members
parts (kind.Option payload) = Some payload ∷ []
parts (kind.Result ok err) = ok ∷ err ∷ []
parts (kind.Record fields) = map (λ f. Some f.ty) fields
parts (kind.Variant cases) = map (λ c. c.ty) cases
parts (kind.Enum _) = []
parts (kind.Flags _) = []
parts kind.Resource = []
parts (kind.Future payload) = payload ∷ []
parts (kind.Stream payload) = payload ∷ []
parts kind.Unknown = []
