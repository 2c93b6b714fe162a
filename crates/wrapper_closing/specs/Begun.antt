-- What a bindgen is begun with.
use Rattle.std.specs.Prelude.{◌≡◌, true, false, [], ◌∷◌, None}
use Rattle.std.specs.List.{AllByRecursion}
use Rattle.wit_model.specs.Distinct.{is_distinct}
use Rattle.wit_model.specs.Bytes.{Bytes}
use Rattle.func_gen.specs.Scope.{is_used}
use Rattle.func_gen.specs.Sites.{IsSite, site_names}
use Rattle.func_gen.specs.declared.function_bindgen.FunctionBindgen.{FunctionBindgen}

-- one without code, for parameters whose names are distinct from one another and from the area's; all these are used
pub record IsBegun (b : FunctionBindgen) : Type 0 where
  pub distinct : is_distinct (b.area ∷ site_names b.params) ≡ true
  pub sites : AllByRecursion IsSite b.params
  pub used : (n : Bytes) → is_used b.scope.used n ≡ false → is_used (b.area ∷ site_names b.params) n ≡ false
  pub empty : b.code ≡ record { call = None; stmts = [] }
  pub unasked : b.asked ≡ []
