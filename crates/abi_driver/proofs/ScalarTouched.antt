-- Each scalar has an instruction that stores its word, and one that loads it.
use Rattle.std.proofs.Common.{◌≡◌, Option, None, Some}
use Rattle.wit_model.specs.declared.size.ArchitectureSize.{ArchitectureSize}
use Rattle.wit_model.specs.declared.types.WitType.{WitType}
use Rattle.wit_model.specs.declared.types.WitType.TheVariants as wit
use Rattle.abi_bindgen.specs.declared.instruction.Instruction.{Instruction}
use Rattle.abi_bindgen.specs.Instructions.{lifting, lowering}
use Rattle.abi_bindgen.specs.ScalarTouches.{scalar_load, scalar_store}

pub is_stored : (ty : WitType) (i : Instruction) (o : ArchitectureSize) → lowering ty ≡ Some i → scalar_store ty o ≡ None → ⊥
is_stored wit.String i o e none = let h : None ≡ Some i = e in cc
is_stored wit.ErrorContext i o e none = let h : None ≡ Some i = e in cc
is_stored (wit.Id id) i o e none = let h : None ≡ Some i = e in cc
is_stored _ i o e none = cc

pub is_loaded : (ty : WitType) (i : Instruction) (o : ArchitectureSize) → lifting ty ≡ Some i → scalar_load ty o ≡ None → ⊥
is_loaded wit.String i o e none = let h : None ≡ Some i = e in cc
is_loaded wit.ErrorContext i o e none = let h : None ≡ Some i = e in cc
is_loaded (wit.Id id) i o e none = let h : None ≡ Some i = e in cc
is_loaded _ i o e none = cc
