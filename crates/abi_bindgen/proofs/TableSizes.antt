-- Where sizes were made for a table, each of its types has one.
use Rattle.std.proofs.Common.{◌≡◌, true, List, length, sym, subst}
use Rattle.std.specs.List.{list_all}
use Rattle.wit_model.specs.TypeOrder.{type_below}
use Rattle.wit_model.specs.declared.types.TypeDef.{TypeDef}
use Rattle.wit_model.specs.declared.types.WitType.{WitType}
use Rattle.wit_layout.specs.Filled.{IsFilledFor, have_sizes}
use Rattle.wit_layout.specs.declared.size_align.SizeAlign.{SizeAlign}

pub have_places : (sizes : SizeAlign) (table : List TypeDef) (types : List WitType) → IsFilledFor sizes table → list_all (λ ty. type_below (length table) ty) types ≡ true → have_sizes sizes types ≡ true
have_places sizes table types filled below = subst (λ n. list_all (λ ty. type_below n ty) types ≡ true) (sym filled.count) below
