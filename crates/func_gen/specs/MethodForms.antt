-- Which code calls a method: a block of all code before it, with the call as its value.
use Rattle.std.specs.Prelude.{◌≡◌, ℕ, List, [], codes, Option, Some, option_map}
use Rattle.wit_model.specs.Bytes.{Bytes}
use Rattle.wit_model.specs.declared.function.Function.{Function}
use Rattle.rust_tree.specs.Ident.{rust_ident}
use Rattle.rust_tree.specs.declared.export.CallBlock.{CallBlock}
use Rattle.rust_tree.specs.declared.expr.Expr.{Expr}
use Rattle.rust_tree.specs.declared.stmt.Stmt.{Stmt}
use Rattle.func_gen.specs.declared.function_bindgen.FunctionBindgen.{FunctionBindgen}
use Rattle.func_gen.specs.Added.{Fresh}
use Rattle.func_gen.specs.Scope.{TakesOne, with_number}

abbrev pub call_block : Function → List Stmt → List Expr → Option Bytes → CallBlock
call_block f stmts arguments value = record { result = value; stmts = stmts; method = rust_ident f.name; arguments = arguments }

-- the local of the value, where one is due
abbrev pub value_local : {A : Type 0} → Option A → ℕ → Option Bytes
value_local due t = option_map (λ r. with_number (codes "result") t) due

-- the code is such a block, whose value a local of this name holds
pub record CallsIn (f : Function) (arguments : List Expr) (value : Option Bytes) (old new : FunctionBindgen) : Type 0 where
  pub code : new.code ≡ record { call = Some (call_block f old.code.stmts arguments value); stmts = [] }
  pub runtime : new.runtime ≡ old.runtime
  pub import : new.import ≡ old.import
  pub home : new.home ≡ old.home
  pub area : new.area ≡ old.area
  pub params : new.params ≡ old.params
  pub sizes : new.sizes ≡ old.sizes
  pub sites : new.sites ≡ old.sites
  pub asked : new.asked ≡ old.asked
  pub returned : new.returned ≡ old.returned
  pub opened : new.opened ≡ old.opened
  pub finished : new.finished ≡ old.finished

-- and that name is new
pub record CallsFor (f : Function) (arguments : List Expr) (name : Bytes) (old new : FunctionBindgen) : Type 0 where
  pub calls : CallsIn f arguments (Some name) old new
  pub fresh : Fresh old new name
  pub takes : TakesOne old.scope (codes "result") name new.scope
