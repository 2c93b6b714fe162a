-- Which texts may stand in a tree at which place, by rows.
use Rattle.std.proofs.Common.{◌≡◌, Bool, true, false, List, [], ◌∷◌, map, replicate, None, refl}
use Rattle.std.specs.Char.{encode_utf8}
use Rattle.std.specs.Prelude.{codes, encode_utf8_all}
use Rattle.wit_model.specs.Bytes.{Bytes}
use Rattle.rust_tree.specs.declared.expr.CastType.TheVariants as cast
use Rattle.rust_tree.specs.declared.expr.Expr.TheVariants as expr
use Rattle.rust_tree.specs.declared.item.Item.{Item}
use Rattle.rust_tree.specs.declared.item.Item.TheVariants as item
use Rattle.rust_tree.specs.declared.macros.EntryKind.TheVariants.{Wrapper}
use Rattle.rust_tree.specs.declared.stmt.Stmt.TheVariants as stmt
use Rattle.rust_tree.specs.Ident.{escaped_words}
use Rattle.rust_tree.specs.WellNamed.{are_well_named}
use Rattle.base_tests.proofs.Trees.{block, folds, import, may_stand, path, wrapper}

-- whether texts may stand at a place: in an item, of which the text is a part
abbrev may : (Bytes → Item) → List Bytes → List Bool
may place texts = map (λ t. may_stand (place t)) texts

-- 1. In an import's wrapper: as a local, in a reference, in a cast, as the second name of a path

abbrev local : Bytes → Item
local name = wrapper (stmt.Let name expr.StaticPointer)

abbrev reference : Bytes → Item
reference name = wrapper (stmt.Expr (expr.Ref name))

abbrev cast_local : Bytes → Item
cast_local name = wrapper (stmt.Expr (expr.Cast (expr.Local name) cast.U8))

-- `a::name();`
abbrev called : Bytes → Item
called name = wrapper (stmt.Expr (expr.Call (path (codes "a" ∷ name ∷ [])) []))

locals : may local (codes "_a1" ∷ codes "x = 0; panic!(); let y" ∷ codes "_" ∷ []) ≡ true ∷ false ∷ false ∷ []
unfolding escaped_words
locals = simp folds

references : may reference (codes "type" ∷ []) ≡ false ∷ []
unfolding escaped_words
references = simp folds

casts : may cast_local (codes "-1" ∷ codes "x" ∷ []) ≡ false ∷ true ∷ []
unfolding escaped_words
casts = simp folds

second_names : may called (codes "b" ∷ codes "self" ∷ codes "a::b" ∷ []) ≡ true ∷ false ∷ false ∷ []
unfolding escaped_words
second_names = simp folds

-- 2. In the declaration of a core import: as its module, as its name there

abbrev declared : (core_module link_name : Bytes) → Item
declared core_module link_name =
    wrapper (stmt.Import (record { «module» = core_module; link_name = link_name; name = codes "g"; params = []; result = None }))

modules : may (λ m. declared m (codes "f")) (codes "t:p/i@1.0.0" ∷ codes "a\"" ∷ []) ≡ true ∷ false ∷ []
unfolding escaped_words
modules = simp folds

link_names : may (declared (codes "m")) (codes "[method]r.f-g" ∷ codes "b\\" ∷ codes "b\n" ∷ []) ≡ true ∷ false ∷ false ∷ []
unfolding escaped_words
link_names = simp folds

-- 3. In an item: as a function, a doc line, a trait, in what is exported and in macros

abbrev function : Bytes → Item
function name = import name (codes "a doc line" ∷ []) []

abbrev doc_line : Bytes → Item
doc_line line = import (codes "f") (line ∷ []) []

abbrev trait : Bytes → Item
trait name = item.Trait (record { name = name; functions = [] })

-- the wrapper of an export with this base name, which calls this method of this trait
abbrev export : (base bound method : Bytes) → Item
export base bound method = item.Export (record {
  base = base;
  bound = bound;
  params = [];
  result = None;
  call = record { result = None; stmts = []; method = method; arguments = [] };
  rest = block [];
})

abbrev module_macro : Bytes → Item
module_macro export_name = item.ModuleMacro (record {
  name = codes "m";
  entries = record { kind = Wrapper; export_name = export_name; base = codes "f"; params = []; result = None } ∷ [];
})

abbrev root_macro : Bytes → Item
root_macro world = item.RootMacro (record { world = world; modules = [] })

functions : may function (codes "fn" ∷ codes "f" ∷ []) ≡ false ∷ true ∷ []
unfolding escaped_words
functions = simp folds

doc_lines : may doc_line (encode_utf8_all (codes "\"a\" \\ */ é") ∷ codes "a\npub fn g() {}" ∷ []) ≡ true ∷ false ∷ []
unfolding encode_utf8 escaped_words
doc_lines = simp folds

traits : may trait (codes "Guest" ∷ codes "Guest: Copy" ∷ []) ≡ true ∷ false ∷ []
unfolding escaped_words
traits = refl

bases : may (λ base. export base (codes "Guest") (codes "f")) (codes "1_type" ∷ codes "a-b" ∷ []) ≡ true ∷ false ∷ []
unfolding escaped_words
bases = simp folds

bounds : may (λ bound. export (codes "f") bound (codes "f")) (codes "A + B" ∷ []) ≡ false ∷ []
unfolding escaped_words
bounds = refl

methods : may (export (codes "f") (codes "Guest")) (codes "a::f" ∷ []) ≡ false ∷ []
unfolding escaped_words
methods = refl

export_names : may module_macro (codes "a-b#c" ∷ codes "a\n" ∷ []) ≡ true ∷ false ∷ []
export_names = refl

worlds : may root_macro (codes "type" ∷ codes "w.x" ∷ codes "w()" ∷ []) ≡ true ∷ false ∷ false ∷ []
worlds = refl

-- 4. As an option line, behind another one: a comment of one line, in the form of such lines

abbrev may_option_stand : Bytes → Bool
may_option_stand line = are_well_named (codes "//   * stubs" ∷ line ∷ []) []

option_line : may_option_stand (codes "//   * skip: [\"a\"]") ≡ true
option_line = refl

no_option_lines : map may_option_stand (codes "//   * stubs\nfn f() {}" ∷ codes "fn f() {}" ∷ codes "// stubs" ∷ []) ≡ replicate 3 false
no_option_lines = refl
