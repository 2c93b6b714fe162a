-- Parts of which the body of a wrapper can be made.
use Rattle.std.specs.Prelude.{◌≡◌, Bool, true, List, ◌∷◌, Option}
use Rattle.std.specs.List.{AllByRecursion}
use Rattle.wit_layout.specs.Filled.{IsFilledFor}
use Rattle.wit_model.specs.Distinct.{is_distinct}
use Rattle.wit_model.specs.declared.function.Function.{Function}
use Rattle.wit_model.specs.declared.types.TypeDef.{TypeDef}
use Rattle.abi_bindgen.specs.Written.{WritesReachedOf}
use Rattle.func_gen.specs.Made.{IsMadeOf}
use Rattle.func_gen.specs.TypeSites.{CanBeDefined}
use Rattle.func_gen.specs.Sites.{IsSite, site_names}
use Rattle.func_gen.specs.Written.{CanWrite}
use Rattle.func_gen.specs.declared.function_bindgen.FunctionBindgen.{FunctionBindgen}
use Rattle.func_gen.specs.declared.type_site.TypeSite.{TypeSite}
use Rattle.wrapper_closing.specs.declared.parts.BodyParts.{BodyParts}

-- the layouts are those of the types, each parameter is denoted by its name or by a reference to it, no two names are the same, also with
-- the area's, and items can define the types that have a site
pub record AreParts (types : List TypeDef) (parts : BodyParts) : Type 0 where
  pub filled : IsFilledFor parts.tables.now.sizes types
  pub sites : AllByRecursion IsSite parts.params
  pub distinct : is_distinct (parts.area ∷ site_names parts.params) ≡ true
  pub defined : CanBeDefined parts.tables.now.sites

-- by these sites, each entry of the table that the types of a function reach can be written
abbrev pub CanWriteFunction : List TypeDef → List (Option TypeSite) → Function → Type 0
CanWriteFunction types sites f = WritesReachedOf types (CanWrite types sites) f

-- a bindgen was made of them
abbrev pub IsMadeFrom : Bool → BodyParts → FunctionBindgen → Type 0
IsMadeFrom import parts b = IsMadeOf parts.tables.now import parts.home parts.area parts.cleanup parts.params b

-- two are the same but for the layouts, which no text depends on
pub record AreWrittenAs (parts others : BodyParts) : Type 0 where
  pub home : others.home ≡ parts.home
  pub area : others.area ≡ parts.area
  pub cleanup : others.cleanup ≡ parts.cleanup
  pub params : others.params ≡ parts.params
  pub sites : others.tables.now.sites ≡ parts.tables.now.sites
