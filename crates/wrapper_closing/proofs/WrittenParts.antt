-- A bindgen that was made of parts can write what can be written by their sites.
use Rattle.std.proofs.Common.{Bool, List, Option, sym, subst}
use Rattle.wit_model.specs.declared.function.Function.{Function}
use Rattle.wit_model.specs.declared.types.TypeDef.{TypeDef}
use Rattle.abi_bindgen.specs.Written.{WritesFunction}
use Rattle.func_gen.specs.Meaning.{func_meaning}
use Rattle.func_gen.specs.declared.function_bindgen.FunctionBindgen.{FunctionBindgen}
use Rattle.func_gen.specs.declared.type_site.TypeSite.{TypeSite}
use Rattle.wrapper_closing.specs.Parts.{CanWriteFunction, IsMadeFrom}
use Rattle.wrapper_closing.specs.declared.parts.BodyParts.{BodyParts}

pub made_writes : (types : List TypeDef) (f : Function) (import : Bool) (parts : BodyParts) (b : FunctionBindgen) → IsMadeFrom import parts b → CanWriteFunction types parts.tables.now.sites f → WritesFunction func_meaning types f b
made_writes types f import parts b made h = subst (λ (sites : List (Option TypeSite)). CanWriteFunction types sites f) (sym made.of_sites) h
