-- Laws: the definitions of a world print each type that its functions use as its shape, whatever other items stand behind them; and such a
-- shape is passed directly.
use Rattle.std.specs.Prelude.{◌≡◌, true, List, ◌++◌, map}
use Rattle.wit_model.specs.declared.function.Function.{Function}
use Rattle.wit_model.specs.declared.name.WorldId.{WorldId}
use Rattle.wit_model.specs.declared.resolve.Resolve.{Resolve}
use Rattle.wit_model.specs.declared.types.TypeDef.{TypeDef}
use Rattle.wit_model.specs.declared.types.WitType.{WitType}
use Rattle.wit_model.specs.declared.world.World.{World}
use Rattle.rust_tree.specs.declared.item.FnParam.{FnParam}
use Rattle.rust_tree.specs.declared.item.Item.{Item}
use Rattle.rust_tree.specs.declared.item.Item.TheVariants as item
use Rattle.rust_tree.specs.declared.type_item.TypeItem.{TypeItem}
use Rattle.type_facts.specs.Roots.{param_types}
use Rattle.type_defs.specs.declared.type_opts.TypeOpts.{TypeOpts}
use Rattle.type_defs.specs.Defined.{AreDefinitions}
use Rattle.type_defs.specs.DefinedNames.{AreDefinable}
use Rattle.type_defs.specs.ParamType.{param_type}
use Rattle.type_defs.specs.PartType.{part_type, printed_result}
use Rattle.type_defs.specs.TypeNames.{are_type_names}
use Rattle.wrapper_meaning.specs.Shape.{param_shapes, result_shape, shape_of}
use Rattle.wrapper_closing.specs.Direct.{are_direct, is_direct, is_direct_result}
use Rattle.wrapper_closing.specs.PrintedAs.{ArePrintedLent, ArePrintedParams, IsPrintedAs, IsPrintedResult}
use Rattle.type_defs.specs.Used.{IsUsed, UsesTypes}

-- the items of a file that begins with the definitions of a world
abbrev pub file_of : List TypeItem → List Item → List Item
file_of defs rest = map (λ d. item.Type d) defs ++ rest

-- what is known of the definitions of a world
pub record AreSites (opts : TypeOpts) (r : Resolve) (id : WorldId) (world : World) (defs : List TypeItem) : Type 0 where
  pub definable : AreDefinable opts r id world
  pub names : are_type_names r.types ≡ true
  pub are : AreDefinitions opts r id world defs

-- each parameter is printed as a part of a definition is
abbrev pub ArePartParams : List TypeDef → Function → List FnParam → Type 0
ArePartParams types f params = map (λ p. p.ty) params ≡ map (part_type types) (param_types f)

-- and as the type of an imported function's parameter is
abbrev pub AreLentParams : List TypeDef → Function → List FnParam → Type 0
AreLentParams types f params = map (λ p. p.ty) params ≡ map (param_type types) (param_types f)

abbrev pub TypesArePrinted : Type 0
TypesArePrinted = (opts : TypeOpts) (r : Resolve) (id : WorldId) (world : World) (defs : List TypeItem) (rest : List Item) → AreSites opts r id world defs → (ty : WitType) → IsUsed r world ty → IsPrintedAs (file_of defs rest) (shape_of r.types ty) (part_type r.types ty)

abbrev pub TypesAreDirect : Type 0
TypesAreDirect = (opts : TypeOpts) (r : Resolve) (id : WorldId) (world : World) → AreDefinable opts r id world → (ty : WitType) → IsUsed r world ty → is_direct (shape_of r.types ty) ≡ true

-- hence of functions

abbrev pub ParamsArePrinted : Type 0
ParamsArePrinted = (opts : TypeOpts) (r : Resolve) (id : WorldId) (world : World) (defs : List TypeItem) (rest : List Item) → AreSites opts r id world defs → (f : Function) → UsesTypes r world f
    → (params : List FnParam) → ArePartParams r.types f params → ArePrintedParams (file_of defs rest) (param_shapes r.types f) params

abbrev pub LentParamsArePrinted : Type 0
LentParamsArePrinted = (opts : TypeOpts) (r : Resolve) (id : WorldId) (world : World) (defs : List TypeItem) (rest : List Item) → AreSites opts r id world defs → (f : Function) → UsesTypes r world f
    → (params : List FnParam) → AreLentParams r.types f params → ArePrintedLent (file_of defs rest) (param_shapes r.types f) params

abbrev pub ResultsArePrinted : Type 0
ResultsArePrinted = (opts : TypeOpts) (r : Resolve) (id : WorldId) (world : World) (defs : List TypeItem) (rest : List Item) → AreSites opts r id world defs → (f : Function) → UsesTypes r world f
    → IsPrintedResult (file_of defs rest) (result_shape r.types f) (printed_result r.types f.result)

abbrev pub ParamsAreDirect : Type 0
ParamsAreDirect = (opts : TypeOpts) (r : Resolve) (id : WorldId) (world : World) → AreDefinable opts r id world → (f : Function) → UsesTypes r world f → are_direct (param_shapes r.types f) ≡ true

abbrev pub ResultsAreDirect : Type 0
ResultsAreDirect = (opts : TypeOpts) (r : Resolve) (id : WorldId) (world : World) → AreDefinable opts r id world → (f : Function) → UsesTypes r world f → is_direct_result (result_shape r.types f) ≡ true
