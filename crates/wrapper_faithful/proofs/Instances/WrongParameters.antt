-- Wrappers of imports that the clause `takes` refuses, whatever they do: one has a parameter too few, and one has a text in the place of a variant.
use Rattle.std.proofs.Common.{◌≡◌, Bool, true, false, List, [], ◌∷◌, Option, None, Some, codes, pos, refl, sym, ap, ◌∙◌, subst, rules}
use Rattle.std.proofs.lemmas.Bool.{true≢false}
use mathlib.Core.Logic.{inl}
use Rattle.wit_model.specs.declared.types.WitType.TheVariants as wit
use Rattle.rust_tree.specs.declared.item.Item.TheVariants as item
use Rattle.rust_tree.specs.declared.stmt.Block.{Block as Code}
use Rattle.rust_tree.specs.declared.item.Item.{Item}
use Rattle.rust_tree.specs.declared.type_expr.TypeExpr.{TypeExpr, TypeExpr-F, out-TypeExpr, the_lemmas as type_lemmas}
use Rattle.rust_tree.specs.declared.type_expr.TypeExpr.TheVariants as type
use Rattle.rust_tree.specs.Tree.{Tree}
use Rattle.wrapper_data.specs.declared.run.Target.{Target}
use Rattle.wrapper_data.specs.declared.value.RustValue.{RustValue, RustValue-F, fold-roll-RustValue, map-RustValue, out-RustValue, roll-RustValue, roll-out-RustValue, the_lemmas}
use Rattle.wrapper_data.specs.declared.value.RustValue.TheVariants as value
use Rattle.wit_layout.specs.Tree.{Scalar}
use Rattle.wrapper_meaning.specs.Shape.Shape.{cases, scalar}
use Rattle.wrapper_meaning.specs.Shape.Shapes.{none, more}
use Rattle.wrapper_values.specs.Owning.{lent_level, lent_value}
use Rattle.wrapper_values.specs.Typed.{Typed, typed, typed_level, unaliased}
use Rattle.wrapper_faithful.specs.Arguments.{unlent}
use Rattle.wrapper_faithful.specs.Import.{ImportGiven, IsFaithful}
use Rattle.wrapper_faithful.specs.Passed.{Passed}
use Rattle.wrapper_faithful.specs.Resources.{Resources}

-- its function takes a number

abbrev a_number : Passed
a_number = record { params = more (scalar Scalar.u32) none; result = None }

abbrev tree : Code → Tree
tree body = record {
  options = [];
  items = item.Import (record { docs = []; name = codes "f"; params = []; result = type.Unit; body = body }) ∷ [];
  places = record { interface = None; nth = 0 } ∷ [];
}

abbrev given : ImportGiven a_number
given = record {
  values = (pos 5, tt);
  good = ((refl, tt), refl);
  args = value.Num wit.U32 (pos 5) ∷ [];
  heap = record { blocks = [] };
  formed = refl;
  own = [];
  others = [];
  stand = (value.Num wit.U32 (pos 5), [], [], [], refl, (refl, refl), (refl, refl), refl);
  live = λ weight. refl;
}

refuses_a_parameter_too_few : (resources : Resources) (target : Target) (chained : Bool) (body : Code) → IsFaithful resources target chained (tree body) 0 a_number → ⊥
refuses_a_parameter_too_few resources target chained body faithful = faithful.takes given _ refl

-- a function that takes a variant, one case of which has a number

abbrev a_variant : Passed
a_variant = record { params = more (cases (more (scalar Scalar.u32) none)) none; result = None }

-- its wrapper takes a text

abbrev text_items : Code → List Item
text_items body = item.Import (record { docs = []; name = codes "f"; params = record { name = codes "x"; ty = type.String } ∷ []; result = type.Unit; body = body }) ∷ []

abbrev text_tree : Code → Tree
text_tree body = record { options = []; items = text_items body; places = record { interface = None; nth = 0 } ∷ [] }

abbrev the_case : RustValue
the_case = value.Case 0 (Some (value.Num wit.U32 (pos 5)))

abbrev case_given : ImportGiven a_variant
case_given = record {
  values = (inl (pos 5), tt);
  good = ((refl, tt), refl);
  args = the_case ∷ [];
  heap = record { blocks = [] };
  formed = refl;
  own = [];
  others = [];
  stand = (the_case, [], [], [], refl, (Some (value.Num wit.U32 (pos 5)), refl, (value.Num wit.U32 (pos 5), refl, (refl, refl))), (refl, refl), refl);
  live = λ weight. refl;
}

abbrev is_case_level : {A : Type 0} → RustValue-F A → Bool
is_case_level (RustValue-F.Case number payload) = true
is_case_level _ = false

abbrev is_case : RustValue → Bool
is_case r = is_case_level (out-RustValue r)

mapped_case : (A B : Type 0) (f : A → B) (l : RustValue-F A) → is_case_level (map-RustValue A B f l) ≡ is_case_level l
mapped_case A B f (RustValue-F.Bool b) = refl
mapped_case A B f (RustValue-F.Num kind n) = refl
mapped_case A B f (RustValue-F.F32 bits) = refl
mapped_case A B f (RustValue-F.F64 bits) = refl
mapped_case A B f (RustValue-F.Char code) = refl
mapped_case A B f (RustValue-F.Buffer address len owned) = refl
mapped_case A B f (RustValue-F.Seq parts) = refl
mapped_case A B f (RustValue-F.Struct parts) = refl
mapped_case A B f (RustValue-F.Case number payload) = refl
mapped_case A B f (RustValue-F.Bits bits) = refl
mapped_case A B f (RustValue-F.Handle number own) = refl
mapped_case A B f (RustValue-F.Map entries) = refl
mapped_case A B f RustValue-F.Unit = refl

lent_case : (l : RustValue-F RustValue) → is_case (lent_level l) ≡ is_case_level l
lent_case (RustValue-F.Bool b) = let opened : out-RustValue (value.Bool b) ≡ RustValue-F.Bool b = search (rules, the_lemmas) in ap is_case_level opened
lent_case (RustValue-F.Num kind n) = let opened : out-RustValue (value.Num kind n) ≡ RustValue-F.Num kind n = search (rules, the_lemmas) in ap is_case_level opened
lent_case (RustValue-F.F32 bits) = let opened : out-RustValue (value.F32 bits) ≡ RustValue-F.F32 bits = search (rules, the_lemmas) in ap is_case_level opened
lent_case (RustValue-F.F64 bits) = let opened : out-RustValue (value.F64 bits) ≡ RustValue-F.F64 bits = search (rules, the_lemmas) in ap is_case_level opened
lent_case (RustValue-F.Char code) = let opened : out-RustValue (value.Char code) ≡ RustValue-F.Char code = search (rules, the_lemmas) in ap is_case_level opened
lent_case (RustValue-F.Buffer address len owned) = let opened : out-RustValue (value.Buffer address len false) ≡ RustValue-F.Buffer address len false = search (rules, the_lemmas) in ap is_case_level opened
lent_case (RustValue-F.Seq parts) = let opened : out-RustValue (value.Seq parts) ≡ RustValue-F.Seq parts = search (rules, the_lemmas) in ap is_case_level opened
lent_case (RustValue-F.Struct parts) = let opened : out-RustValue (value.Struct parts) ≡ RustValue-F.Struct parts = search (rules, the_lemmas) in ap is_case_level opened
lent_case (RustValue-F.Case number payload) = let opened : out-RustValue (value.Case number payload) ≡ RustValue-F.Case number payload = search (rules, the_lemmas) in ap is_case_level opened
lent_case (RustValue-F.Bits bits) = let opened : out-RustValue (value.Bits bits) ≡ RustValue-F.Bits bits = search (rules, the_lemmas) in ap is_case_level opened
lent_case (RustValue-F.Handle number own) = let opened : out-RustValue (value.Handle number false) ≡ RustValue-F.Handle number false = search (rules, the_lemmas) in ap is_case_level opened
lent_case (RustValue-F.Map entries) = let opened : out-RustValue (value.Map entries) ≡ RustValue-F.Map entries = search (rules, the_lemmas) in ap is_case_level opened
lent_case RustValue-F.Unit = let opened : out-RustValue value.Unit ≡ RustValue-F.Unit = search (rules, the_lemmas) in ap is_case_level opened

-- what is lent of a value is a case where the value is one
lent_from_case : (r : RustValue) → is_case (lent_value r) ≡ is_case r
lent_from_case r =
    ap (λ q. is_case (lent_value q)) (sym (roll-out-RustValue r)) ∙ ap is_case (fold-roll-RustValue RustValue lent_level (out-RustValue r)) ∙ lent_case (map-RustValue RustValue RustValue lent_value (out-RustValue r)) ∙ mapped_case RustValue RustValue lent_value (out-RustValue r)

-- and no case is a text
no_text : (body : Code) (l : RustValue-F RustValue) → is_case_level l ≡ true → typed (text_items body) (roll-RustValue l) type.String ≡ None
no_text body (RustValue-F.Case number payload) is =
    ap (λ g. g type.String) (fold-roll-RustValue Typed (λ m ty. typed_level (text_items body) m (unaliased (text_items body) ty)) (RustValue-F.Case number payload)) ∙ search (rules, type_lemmas)
no_text body _ is = absurd (true≢false (sym is))

refuses_a_text_for_a_variant : (resources : Resources) (target : Target) (chained : Bool) (body : Code) → IsFaithful resources target chained (text_tree body) 0 a_variant → ⊥
refuses_a_text_for_a_variant resources target chained body faithful =
    let one = (faithful.takes case_given _ refl).0 in
    let opened : out-RustValue the_case ≡ RustValue-F.Case 0 (Some (value.Num wit.U32 (pos 5))) = search (rules, the_lemmas) in
    let is : is_case one.owner ≡ true = sym (lent_from_case one.owner) ∙ ap is_case one.lent ∙ ap is_case_level opened in
    let text : unlent type.String ≡ type.String = search (rules, type_lemmas) in
    let none : typed (text_items body) one.owner type.String ≡ None = ap (λ q. typed (text_items body) q type.String) (sym (roll-out-RustValue one.owner)) ∙ no_text body (out-RustValue one.owner) is in
    absurd (let wrong : None ≡ Some one.owner = sym none ∙ ap (typed (text_items body) one.owner) (sym text) ∙ one.typed in cc)
