-- A `FunctionBindgen` as it is seen: its fields, but for the allocator.
use Rattle.std.specs.Prelude.{Bool, List, Option}
use Rattle.rust_tree.specs.declared.runtime_item.RuntimeItem.{RuntimeItem}
use Rattle.wit_layout.specs.declared.size_align.SizeAlign.{SizeAlign}
use Rattle.wit_model.specs.Bytes.{Bytes}
use Rattle.abi_bindgen.specs.declared.bindgen.Asked.{Asked}
use Rattle.func_gen.specs.declared.function_bindgen.Code.{Code}
use Rattle.func_gen.specs.declared.function_bindgen.FinishedBlock.{FinishedBlock}
use Rattle.func_gen.specs.declared.function_bindgen.OpenBlock.{OpenBlock}
use Rattle.func_gen.specs.declared.function_bindgen.ParamSite.{ParamSite}
use Rattle.func_gen.specs.declared.operand.ExprOperand.{ExprOperand}
use Rattle.func_gen.specs.declared.scope.Scope.{Scope}
use Rattle.func_gen.specs.declared.type_site.TypeSite.{TypeSite}

pub record BindgenView : Type 0 where
  pub sizes : SizeAlign
  pub import : Bool
  pub home : Bytes
  pub area : Bytes
  pub params : List ParamSite
  pub sites : List (Option TypeSite)
  pub scope : Scope
  pub code : Code
  pub opened : List OpenBlock
  pub finished : List FinishedBlock
  pub runtime : List RuntimeItem
  pub asked : List Asked
  pub returned : Option (List ExprOperand)
