-- Laws: a function has one body, by how its wrapper is written: two that are made for it are equal.
use Rattle.std.specs.Borrow.{Bor}
use Rattle.std.specs.Prelude.{◌≡◌, List}
use Rattle.wit_model.specs.declared.function.Function.{Function}
use Rattle.wit_model.specs.declared.types.TypeDef.{TypeDef}
use Rattle.func_gen.specs.declared.body.Body.{Body}
use Rattle.wrapper_closing.specs.Bodies.{MakesExport, MakesImport, MakesPostReturn}
use Rattle.wrapper_closing.specs.Parts.{AreWrittenAs}
use Rattle.wrapper_closing.specs.declared.parts.BodyParts.{BodyParts}

abbrev pub ImportHasOneBody : Type 0
ImportHasOneBody = (types : List TypeDef) (func : Bor Function) (parts others : BodyParts) (body other : Body) → AreWrittenAs parts others → MakesImport types func parts body → MakesImport types func others other
    → other ≡ body

abbrev pub ExportHasOneBody : Type 0
ExportHasOneBody = (types : List TypeDef) (func : Bor Function) (parts others : BodyParts) (body other : Body) → AreWrittenAs parts others → MakesExport types func parts body → MakesExport types func others other
    → other ≡ body

abbrev pub PostReturnHasOneBody : Type 0
PostReturnHasOneBody = (types : List TypeDef) (f : Function) (parts others : BodyParts) (body other : Body) → AreWrittenAs parts others → MakesPostReturn types f parts body → MakesPostReturn types f others other
    → other ≡ body
