-- A type of the table, one level at a time.
use Rattle.std.proofs.Common.{◌≡◌, ℕ, zero, suc, ◌-◌, List, Some, refl, sym, ap, ◌∙◌, arith}
use Rattle.std.specs.Prelude.{slice_get}
use Rattle.wit_model.specs.declared.name.TypeId.{TypeId}
use Rattle.wit_model.specs.declared.types.TypeDef.{TypeDef}
use Rattle.wit_model.specs.declared.types.WitType.TheVariants as wit
use Rattle.type_defs.specs.PartType.{entry_type, found_type, type_within}

pub within-entry : (types : List TypeDef) (levels : ℕ) (id : TypeId) (entry : TypeDef) → (levels ≡ 0 → ⊥) → slice_get types id.0 ≡ Some entry
    → type_within types levels (wit.Id id) ≡ entry_type (type_within types (levels - 1)) entry.kind entry.name
within-entry types zero id entry some e = absurd (some refl)
within-entry types (suc levels) id entry some e =
    let before : suc levels - 1 ≡ levels = omega arith in
    ap (found_type (type_within types levels)) e ∙ ap (λ n. entry_type (type_within types n) entry.kind entry.name) (sym before)
