-- A type that is a text, behind whatever aliases, has the shape of a text.
use Rattle.std.proofs.Common.{◌≡◌, ℕ, zero, suc, true, List, Option, None, Some, refl, sym, ap, ◌∙◌}
use Rattle.std.specs.Prelude.{slice_get, unwrap_or}
use Rattle.std.specs.Option.{option_map}
use Rattle.wit_model.specs.Dealias.{aliased, behind_aliases, dealias, next_alias}
use Rattle.wit_model.specs.TypeOrder.{GoesDown}
use Rattle.wit_model.specs.declared.name.TypeId.{TypeId}
use Rattle.wit_model.specs.declared.types.TypeDef.{TypeDef}
use Rattle.wit_model.specs.declared.types.TypeDefKind.{TypeDefKind}
use Rattle.wit_model.specs.declared.types.TypeDefKind.TheVariants as kind
use Rattle.wit_model.specs.declared.types.WitType.{WitType}
use Rattle.wit_model.specs.declared.types.WitType.TheVariants as wit
use Rattle.wrapper_meaning.specs.Shape.{shape_at, shape_of}
use Rattle.wrapper_meaning.specs.Shape.Shape.{text}
use Rattle.abi_bindgen.proofs.Records.{alias_shape}
use Rattle.type_defs.specs.ParamType.{is_text, is_text_entry}

module _ (types : List TypeDef) (down : GoesDown types) where
  next-shape : (id next : TypeId) → next_alias types id ≡ Some next → shape_at types id.0 ≡ shape_at types next.0
  next-shape id next e = go (slice_get types id.0) refl
    where
      by : (entry : TypeDef) (k : TypeDefKind) → slice_get types id.0 ≡ Some entry → entry.kind ≡ k → aliased k ≡ Some next → shape_at types id.0 ≡ shape_at types next.0
      by entry (kind.Alias (wit.Id other)) at is a = let same : other ≡ next = cc in alias_shape types down id.0 entry at (wit.Id other) is ∙ ap (λ (n : TypeId). shape_at types n.0) same
      by entry k at is a = absurd (let none = a in cc)

      go : (o : Option TypeDef) → slice_get types id.0 ≡ o → shape_at types id.0 ≡ shape_at types next.0
      go None at = absurd cc
      go (Some entry) at = by entry entry.kind at refl (let told : next_alias types id ≡ aliased entry.kind = cc in sym told ∙ e)

  behind-shape : (most : ℕ) (id : TypeId) → shape_at types id.0 ≡ shape_at types (behind_aliases types most id).0
  behind-shape zero id = refl
  behind-shape (suc most) id = go (next_alias types id) refl (λ next. behind-shape most next)
    where
      go : (o : Option TypeId) → next_alias types id ≡ o → ((next : TypeId) → shape_at types next.0 ≡ shape_at types (behind_aliases types most next).0)
          → shape_at types id.0 ≡ shape_at types (unwrap_or (option_map (behind_aliases types most) (next_alias types id)) id).0
      go None e further = ap (λ o. shape_at types (unwrap_or (option_map (behind_aliases types most) o) id).0) (sym e)
      go (Some next) e further = next-shape id next e ∙ further next ∙ ap (λ o. shape_at types (unwrap_or (option_map (behind_aliases types most) o) id).0) (sym e)

  text-entry : (id : TypeId) → is_text_entry (slice_get types id.0) ≡ true → shape_at types id.0 ≡ text
  text-entry id e = go (slice_get types id.0) refl e
    where
      by : (entry : TypeDef) (k : TypeDefKind) → slice_get types id.0 ≡ Some entry → entry.kind ≡ k → is_text_entry (Some (record entry { kind = k })) ≡ true → shape_at types id.0 ≡ text
      by entry (kind.Alias wit.String) at is h = alias_shape types down id.0 entry at wit.String is
      by entry k at is h = absurd (let no = h in cc)

      go : (o : Option TypeDef) → slice_get types id.0 ≡ o → is_text_entry o ≡ true → shape_at types id.0 ≡ text
      go None at h = absurd cc
      go (Some entry) at h = by entry entry.kind at refl h

  pub text-shape : (ty : WitType) → is_text types ty ≡ true → shape_of types ty ≡ text
  unfolding dealias
  text-shape (wit.Id id) h = behind-shape id.0 id ∙ text-entry (dealias types id) h
  text-shape wit.String h = refl
  text-shape _ h = absurd (let no = h in cc)
