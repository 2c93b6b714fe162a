-- Laws: the body that was made for a function has identifiers alone as names, where its parts have, and the function that it calls has such a
-- name.
use Rattle.std.specs.Borrow.{Bor}
use Rattle.std.specs.Prelude.{◌≡◌, true, List}
use Rattle.wit_model.specs.declared.function.Function.{Function}
use Rattle.wit_model.specs.declared.types.TypeDef.{TypeDef}
use Rattle.rust_tree.specs.Ident.{is_ident, rust_ident}
use Rattle.rust_tree.specs.WellNamed.{is_quotable}
use Rattle.func_gen.specs.declared.body.Body.{Body}
use Rattle.wrapper_closing.specs.Bodies.{MakesExport, MakesImport, MakesPostReturn}
use Rattle.wrapper_closing.specs.Named.{AreNamedParts, IsNamedBody}
use Rattle.wrapper_closing.specs.declared.parts.BodyParts.{BodyParts}

-- the name of a core import is quoted
abbrev pub ImportBodyIsNamed : Type 0
ImportBodyIsNamed = (types : List TypeDef) (func : Bor Function) (parts : BodyParts) (body : Body) → AreNamedParts parts → is_quotable func.now.name.wit ≡ true → MakesImport types func parts body → IsNamedBody body

abbrev pub ExportBodyIsNamed : Type 0
ExportBodyIsNamed = (types : List TypeDef) (func : Bor Function) (parts : BodyParts) (body : Body) → AreNamedParts parts → is_ident (rust_ident func.now.name) ≡ true → MakesExport types func parts body → IsNamedBody body

-- and a post-return function calls none
abbrev pub PostReturnBodyIsNamed : Type 0
PostReturnBodyIsNamed = (types : List TypeDef) (f : Function) (parts : BodyParts) (body : Body) → AreNamedParts parts → MakesPostReturn types f parts body → IsNamedBody body
