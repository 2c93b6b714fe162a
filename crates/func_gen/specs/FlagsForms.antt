-- The forms of flags: the words of their bits, and what makes them of words.
use Rattle.std.specs.Prelude.{◌≡◌, ◌<◌, ◌≤◌, true, ℕ, zero, suc, ◌+◌, List, [], ◌∷◌, codes, length, map, Option, None, Some, option_and_then}
use Rattle.wit_layout.specs.Extent.{flag_words}
use Rattle.wit_model.specs.Bytes.{Bytes}
use Rattle.wit_model.specs.declared.types.TypeDef.{TypeDef}
use Rattle.rust_tree.specs.declared.expr.Expr.{Expr}
use Rattle.rust_tree.specs.declared.expr.Expr.TheVariants as expr
use Rattle.rust_tree.specs.declared.stmt.Stmt.TheVariants as stmt
use Rattle.wrapper_meaning.specs.Numbers.{flags_width}
use Rattle.wrapper_values.specs.Flags.{repr_bits}
use Rattle.abi_bindgen.specs.FlagSets.{AreFlags}
use Rattle.func_gen.specs.declared.flags_site.FlagsSite.{FlagsSite}
use Rattle.func_gen.specs.declared.operand.ExprOperand.{ExprOperand}
use Rattle.func_gen.specs.declared.type_site.TypeSite.{TypeSite}
use Rattle.func_gen.specs.declared.type_site.TypeSite.TheVariants as site
use Rattle.func_gen.specs.Emission.{Emission, one_local}
use Rattle.func_gen.specs.Forms.{operand_of}
use Rattle.func_gen.specs.PartForms.{are_operands, exprs_of}
use Rattle.func_gen.specs.Scope.{with_number}
use Rattle.func_gen.specs.TypeSites.{site_at}

abbrev pub flags_site_in : TypeSite → Option FlagsSite
flags_site_in (site.Flags s) = Some s
flags_site_in _ = None

-- how the flags type at a place of the table is written
abbrev pub flags_at : List (Option TypeSite) → ℕ → Option FlagsSite
flags_at sites id = option_and_then flags_site_in (site_at sites id)

-- the type at a place of the table is a flags type
abbrev pub IsFlags : List TypeDef → ℕ → Type 0
IsFlags types id = (n : ℕ) × AreFlags types id n

-- the site of a flags type of the table, with as many members, of which there is one at least. They are held by as many bits as they have
pub record IsFlagsSite (types : List TypeDef) (sites : List (Option TypeSite)) (id : ℕ) (site : FlagsSite) : Type 0 where
  pub at : flags_at sites id ≡ Some site
  pub count : AreFlags types id site.members
  pub some : 0 < site.members
  pub within : site.members ≤ 128
  pub held : repr_bits site.repr ≡ flags_width site.members

-- the words of the flags in a local, from a bit on: each has the 32 bits behind the one before
abbrev pub words_of : Bytes → (by count : ℕ) → List Expr
words_of name by zero = []
words_of name by (suc n) = expr.FlagsBits name by ∷ words_of name (32 + by) n

abbrev pub operands_of : List Expr → List ExprOperand
operands_of es = map operand_of es

-- words that are shifted so, the first to a bit
abbrev pub shifted_from : ℕ → List Expr → List (ℕ × Expr)
shifted_from by [] = []
shifted_from by (e ∷ es) = (by, e) ∷ shifted_from (32 + by) es

-- how many words the flags at a place of the table are
pub record HasWordCount (types : List TypeDef) (sites : List (Option TypeSite)) (id n : ℕ) : Type 0 where
  pub site : FlagsSite
  pub is_site : IsFlagsSite types sites id site
  pub is : n ≡ flag_words site.members

abbrev pub flags_made : FlagsSite → List Expr → Expr
flags_made s es = expr.FlagsOfWords s.path s.repr (shifted_from 0 es)

-- an expression makes flags of words
pub record MakesFlags (types : List TypeDef) (sites : List (Option TypeSite)) (id : ℕ) (os : List ExprOperand) (e : Expr) : Type 0 where
  pub site : FlagsSite
  pub is_site : IsFlagsSite types sites id site
  pub many : length os ≡ flag_words site.members
  pub operands : are_operands os ≡ true
  pub is : e ≡ flags_made site (exprs_of os)

abbrev pub lowers_flags : Expr → FlagsSite → ℕ → Emission
lowers_flags e s t = record {
  names = with_number (codes "flags") t ∷ [];
  stmts = stmt.Let (with_number (codes "flags") t) e ∷ [];
  results = words_of (with_number (codes "flags") t) 0 (flag_words s.members);
  items = [];
}

abbrev pub lifts_flags : List Expr → FlagsSite → ℕ → Emission
lifts_flags es s = one_local (codes "flags") (flags_made s es) []
