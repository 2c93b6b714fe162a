-- Which bodies have identifiers alone as names, and of which parts they are made.
use Rattle.std.specs.Prelude.{◌≡◌, Bool, true, ◌&&◌, List, Option}
use Rattle.std.specs.List.{AllByRecursion, list_all}
use Rattle.rust_tree.specs.Ident.{is_ident}
use Rattle.rust_tree.specs.WellNamed.{are_path_names, is_absent_or, is_named_call, is_named_expr, is_named_stmt, is_quotable}
use Rattle.func_gen.specs.declared.body.Body.{Body}
use Rattle.func_gen.specs.declared.function_bindgen.ParamSite.{ParamSite}
use Rattle.func_gen.specs.declared.operand.ExprOperand.{ExprOperand}
use Rattle.func_gen.specs.declared.type_site.TypeSite.{TypeSite}
use Rattle.func_gen.specs.declared.type_site.TypeSite.TheVariants as site
use Rattle.wrapper_closing.specs.declared.parts.BodyParts.{BodyParts}

-- how a type is written: its paths, and the names of its fields or cases
abbrev pub is_named_site : TypeSite → Bool
is_named_site (site.Record s) = list_all is_ident s.fields && (are_path_names s.lifted.names && are_path_names s.lowered.names)
is_named_site (site.Enum s) = are_path_names s.path.names
is_named_site (site.Flags s) = are_path_names s.path.names
is_named_site (site.Variant s) = list_all is_ident s.cases && are_path_names s.lowered.names

abbrev pub AreNamedSites : List (Option TypeSite) → Type 0
AreNamedSites sites = AllByRecursion (λ s. is_absent_or is_named_site s ≡ true) sites

abbrev pub IsNamedOperand : ExprOperand → Type 0
IsNamedOperand o = is_named_expr o.expr ≡ true

abbrev pub AreNamedParams : List ParamSite → Type 0
AreNamedParams params = AllByRecursion (λ (p : ParamSite). IsNamedOperand p.operand) params

-- where calls go, the area, the parameters and the types
pub record AreNamedParts (parts : BodyParts) : Type 0 where
  pub home : is_quotable parts.home ≡ true
  pub area : is_ident parts.area ≡ true
  pub params : AreNamedParams parts.params
  pub sites : AreNamedSites parts.tables.now.sites

pub record IsNamedBody (body : Body) : Type 0 where
  pub call : is_absent_or is_named_call body.call ≡ true
  pub stmts : list_all is_named_stmt body.stmts ≡ true
  pub tail : is_absent_or is_named_expr body.tail ≡ true
