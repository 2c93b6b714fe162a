-- Words are passed to a method as the values that they are.
use Rattle.std.proofs.Common.{◌≡◌, ℕ, ℤ, Bool, true, false, cond, if◌then◌else◌, List, [], ◌∷◌, map, Option, None, Some, refl, sym, ap, ap₂, ◌∙◌, subst}
use Rattle.std.specs.Prelude.{option_and_then}
use Rattle.std.specs.Option.{option_map, option_or}
use Rattle.wit_model.specs.declared.types.WitType.{WitType}
use Rattle.wit_model.specs.declared.types.WitType.TheVariants as wit
use Rattle.rust_tree.specs.declared.item.FnParam.{FnParam}
use Rattle.rust_tree.specs.declared.item.Item.{Item}
use Rattle.rust_tree.specs.declared.type_expr.Primitive.{Primitive}
use Rattle.rust_tree.specs.declared.type_expr.Primitive.TheVariants as prim
use Rattle.rust_tree.specs.declared.type_expr.TypeExpr.{TypeExpr, TypeExpr-F, out-TypeExpr}
use Rattle.wrapper_data.specs.declared.value.RustValue.{RustValue, RustValue-F, fold-RustValue, fold-roll-RustValue, out-RustValue}
use Rattle.wrapper_data.specs.declared.value.RustValue.TheVariants as value
use Rattle.wrapper_data.specs.declared.value.RustValue.TheVariants.{rolls-F32, rolls-F64, rolls-Num}
use Rattle.wrapper_data.specs.declared.word.Word.{Word}
use Rattle.wrapper_data.specs.declared.word.Word.TheVariants as core
use Rattle.wrapper_meaning.specs.Numbers.{is_signed}
use Rattle.wrapper_values.specs.declared.state.Val.{Val}
use Rattle.wrapper_values.specs.declared.state.Val.TheVariants as val
use Rattle.wrapper_values.specs.Effect.{answer_as, answer_of, f32_of_level, f64_of_level, is_unit_level, num_of_level, text_of_level, bool_of_level, char_of_level, number_as, value_as, value_of_word}
use Rattle.wrapper_values.specs.Typed.{Typed, plain_as, typed, typed_level, unaliased}
use Rattle.wrapper_run.specs.ExportRun.{passed_as, values_of}
use Rattle.func_gen.proofs.Several.{AreItems}
use Rattle.wrapper_meaning.proofs.RustValues.{out-num, out-f32, out-f64}
use Rattle.func_gen.specs.Read.{item_of, item_of_word}

-- 1. Of a plain type

-- a number as a value, by its level
abbrev pub as_level : Primitive → RustValue-F RustValue → Option RustValue
as_level prim.Bool l = option_map value.Bool (bool_of_level l)
as_level prim.Char l = option_map value.Char (char_of_level l)
as_level prim.F32 l = option_map value.F32 (f32_of_level l)
as_level prim.F64 l = option_map value.F64 (f64_of_level l)
as_level p l = option_and_then (number_as p) (num_of_level l)

pub value_level : (p : Primitive) (r : RustValue) → value_as p (val.Value r) ≡ as_level p (out-RustValue r)
value_level prim.Bool r = refl
value_level prim.Char r = refl
value_level prim.F32 r = refl
value_level prim.F64 r = refl
value_level prim.U8 r = refl
value_level prim.U16 r = refl
value_level prim.U32 r = refl
value_level prim.U64 r = refl
value_level prim.I8 r = refl
value_level prim.I16 r = refl
value_level prim.I32 r = refl
value_level prim.I64 r = refl

-- a word that is this level of a value
abbrev IsLevel : Word → RustValue-F RustValue → Type 0
IsLevel x l = (p : Primitive) → value_of_word p x ≡ as_level p l

whole_32 : (z : ℤ) → is_signed 31 z ≡ true → IsLevel (core.I32 z) (RustValue-F.Num wit.S32 z)
whole_32 z h prim.I32 = sym (ap (λ b. option_and_then (number_as prim.I32) (cond b (Some (wit.S32, z)) None)) h)
whole_32 z h prim.Bool = refl
whole_32 z h prim.Char = refl
whole_32 z h prim.F32 = refl
whole_32 z h prim.F64 = refl
whole_32 z h prim.U8 = sym (ap (λ b. option_and_then (number_as prim.U8) (cond b (Some (wit.S32, z)) None)) h)
whole_32 z h prim.U16 = sym (ap (λ b. option_and_then (number_as prim.U16) (cond b (Some (wit.S32, z)) None)) h)
whole_32 z h prim.U32 = sym (ap (λ b. option_and_then (number_as prim.U32) (cond b (Some (wit.S32, z)) None)) h)
whole_32 z h prim.U64 = sym (ap (λ b. option_and_then (number_as prim.U64) (cond b (Some (wit.S32, z)) None)) h)
whole_32 z h prim.I8 = sym (ap (λ b. option_and_then (number_as prim.I8) (cond b (Some (wit.S32, z)) None)) h)
whole_32 z h prim.I16 = sym (ap (λ b. option_and_then (number_as prim.I16) (cond b (Some (wit.S32, z)) None)) h)
whole_32 z h prim.I64 = sym (ap (λ b. option_and_then (number_as prim.I64) (cond b (Some (wit.S32, z)) None)) h)

whole_64 : (z : ℤ) → is_signed 63 z ≡ true → IsLevel (core.I64 z) (RustValue-F.Num wit.S64 z)
whole_64 z h prim.I64 = sym (ap (λ b. option_and_then (number_as prim.I64) (cond b (Some (wit.S64, z)) None)) h)
whole_64 z h prim.Bool = refl
whole_64 z h prim.Char = refl
whole_64 z h prim.F32 = refl
whole_64 z h prim.F64 = refl
whole_64 z h prim.U8 = sym (ap (λ b. option_and_then (number_as prim.U8) (cond b (Some (wit.S64, z)) None)) h)
whole_64 z h prim.U16 = sym (ap (λ b. option_and_then (number_as prim.U16) (cond b (Some (wit.S64, z)) None)) h)
whole_64 z h prim.U32 = sym (ap (λ b. option_and_then (number_as prim.U32) (cond b (Some (wit.S64, z)) None)) h)
whole_64 z h prim.U64 = sym (ap (λ b. option_and_then (number_as prim.U64) (cond b (Some (wit.S64, z)) None)) h)
whole_64 z h prim.I8 = sym (ap (λ b. option_and_then (number_as prim.I8) (cond b (Some (wit.S64, z)) None)) h)
whole_64 z h prim.I16 = sym (ap (λ b. option_and_then (number_as prim.I16) (cond b (Some (wit.S64, z)) None)) h)
whole_64 z h prim.I32 = sym (ap (λ b. option_and_then (number_as prim.I32) (cond b (Some (wit.S64, z)) None)) h)

float_32 : (n : ℕ) → IsLevel (core.F32 n) (RustValue-F.F32 n)
float_32 n prim.F32 = refl
float_32 n prim.F64 = refl
float_32 n prim.Bool = refl
float_32 n prim.Char = refl
float_32 n prim.U8 = refl
float_32 n prim.U16 = refl
float_32 n prim.U32 = refl
float_32 n prim.U64 = refl
float_32 n prim.I8 = refl
float_32 n prim.I16 = refl
float_32 n prim.I32 = refl
float_32 n prim.I64 = refl

float_64 : (n : ℕ) → IsLevel (core.F64 n) (RustValue-F.F64 n)
float_64 n prim.F32 = refl
float_64 n prim.F64 = refl
float_64 n prim.Bool = refl
float_64 n prim.Char = refl
float_64 n prim.U8 = refl
float_64 n prim.U16 = refl
float_64 n prim.U32 = refl
float_64 n prim.U64 = refl
float_64 n prim.I8 = refl
float_64 n prim.I16 = refl
float_64 n prim.I32 = refl
float_64 n prim.I64 = refl

-- a value that a word is: a number, which is no `()` and no text, and as one of the file's types what it is as a plain one
pub record IsNumber (x : Word) (r : RustValue) : Type 0 where
  pub level : IsLevel x (out-RustValue r)
  pub no_unit : is_unit_level (out-RustValue r) ≡ false
  pub no_text : text_of_level (out-RustValue r) ≡ None
  pub plain : (items : List Item) (ty : TypeExpr) → typed items r ty ≡ plain_as (unaliased items ty) (val.Value r)

level_of : (x : Word) (r : RustValue) (l : RustValue-F RustValue) → out-RustValue r ≡ l → IsLevel x l → IsLevel x (out-RustValue r)
level_of x r l e h = subst (IsLevel x) (sym e) h

abbrev TypedAs : RustValue → Type 0
TypedAs r = (items : List Item) (ty : TypeExpr) → typed items r ty ≡ plain_as (unaliased items ty) (val.Value r)

abbrev typed_step : List Item → RustValue-F Typed → Typed
typed_step items l ty = typed_level items l (unaliased items ty)

num_typed : (k : WitType) (z : ℤ) → TypedAs (value.Num k z)
num_typed k z items ty = ap (λ r. fold-RustValue Typed (typed_step items) r ty) (sym (rolls-Num k z)) ∙ ap (λ (t : Typed). t ty) (fold-roll-RustValue Typed (typed_step items) (RustValue-F.Num k z))

f32_typed : (n : ℕ) → TypedAs (value.F32 n)
f32_typed n items ty = ap (λ r. fold-RustValue Typed (typed_step items) r ty) (sym (rolls-F32 n)) ∙ ap (λ (t : Typed). t ty) (fold-roll-RustValue Typed (typed_step items) (RustValue-F.F32 n))

f64_typed : (n : ℕ) → TypedAs (value.F64 n)
f64_typed n items ty = ap (λ r. fold-RustValue Typed (typed_step items) r ty) (sym (rolls-F64 n)) ∙ ap (λ (t : Typed). t ty) (fold-roll-RustValue Typed (typed_step items) (RustValue-F.F64 n))

ranged : (b : Bool) (r s : RustValue) (P : RustValue → Type 0) → cond b (Some r) None ≡ Some s → (b ≡ true → P r) → P s
ranged true r s P e h = let same : r ≡ s = cc in subst P same (h refl)
ranged false r s P e h = absurd cc

-- each word that a number is
is_number : (x : Word) (r : RustValue) → item_of_word x ≡ Some r → IsNumber x r
is_number (core.I32 z) r h =
    ranged (is_signed 31 z) (value.Num wit.S32 z) r (IsNumber (core.I32 z)) h
    (λ e. record {
      level = level_of (core.I32 z) (value.Num wit.S32 z) (RustValue-F.Num wit.S32 z) (out-num wit.S32 z) (whole_32 z e);
      no_unit = ap is_unit_level (out-num wit.S32 z);
      no_text = ap text_of_level (out-num wit.S32 z);
      plain = num_typed wit.S32 z;
    })
is_number (core.I64 z) r h =
    ranged (is_signed 63 z) (value.Num wit.S64 z) r (IsNumber (core.I64 z)) h
    (λ e. record {
      level = level_of (core.I64 z) (value.Num wit.S64 z) (RustValue-F.Num wit.S64 z) (out-num wit.S64 z) (whole_64 z e);
      no_unit = ap is_unit_level (out-num wit.S64 z);
      no_text = ap text_of_level (out-num wit.S64 z);
      plain = num_typed wit.S64 z;
    })
is_number (core.F32 n) r h =
    let same : value.F32 n ≡ r = cc in
    let out = out-f32 n in
    subst (IsNumber (core.F32 n)) same (record {
      level = level_of (core.F32 n) (value.F32 n) (RustValue-F.F32 n) out (float_32 n);
      no_unit = ap is_unit_level out;
      no_text = ap text_of_level out;
      plain = f32_typed n;
    })
is_number (core.F64 n) r h =
    let same : value.F64 n ≡ r = cc in
    let out = out-f64 n in
    subst (IsNumber (core.F64 n)) same (record {
      level = level_of (core.F64 n) (value.F64 n) (RustValue-F.F64 n) out (float_64 n);
      no_unit = ap is_unit_level out;
      no_text = ap text_of_level out;
      plain = f64_typed n;
    })
is_number (core.Pointer n) r h = absurd cc
is_number (core.Length n) r h = absurd cc
is_number (core.Slot o) r h = absurd cc

-- 2. Of any type

answer_level : (x : Word) (r : RustValue) → IsNumber x r → (l : TypeExpr-F TypeExpr) → answer_as l (val.Word x) ≡ answer_as l (val.Value r)
answer_level x r h (TypeExpr-F.Primitive p) = ap (option_map Some) (h.level p ∙ sym (value_level p r))
answer_level x r h TypeExpr-F.Unit = sym (ap (λ b. if b then Some None else None) h.no_unit)
answer_level x r h TypeExpr-F.String = sym (ap (option_map Some) h.no_text)
answer_level x r h TypeExpr-F.Str = refl
answer_level x r h (TypeExpr-F.Ref t) = refl
answer_level x r h (TypeExpr-F.Path p) = refl
answer_level x r h (TypeExpr-F.Tuple ts) = refl
answer_level x r h (TypeExpr-F.Optional t) = refl
answer_level x r h (TypeExpr-F.Array t n) = refl
answer_level x r h (TypeExpr-F.Result ok err) = refl

answered_alike : (x : Word) (r : RustValue) → IsNumber x r → (ty : TypeExpr) → answer_of ty (val.Word x) ≡ answer_of ty (val.Value r)
unfolding answer_of
answered_alike x r h ty = answer_level x r h (out-TypeExpr ty)

-- what is no answer of a plain type is none of the file's
no_more : (o : Option (Option RustValue)) → option_and_then (λ r. r) (option_or o None) ≡ option_and_then (λ r. r) (option_or o (option_map Some (option_and_then (λ r. r) o)))
no_more None = refl
no_more (Some r) = refl

pub passed_alike : (items : List Item) (ty : TypeExpr) (v : Val) (r : RustValue) → item_of v ≡ Some r → passed_as items ty v ≡ passed_as items ty (val.Value r)
passed_alike items ty (val.Value q) r h = let same : q ≡ r = cc in ap (λ z. passed_as items ty (val.Value z)) same
passed_alike items ty (val.Area a z) r h = absurd cc
passed_alike items ty (val.Word x) r h =
    let n = is_number x r h in
    let o = answer_of (unaliased items ty) (val.Value r) in
    ap (λ q. option_and_then (λ r. r) (option_or q None)) (answered_alike x r n (unaliased items ty)) ∙ no_more o
    ∙ ap (λ q. option_and_then (λ r. r) (option_or o (option_map Some q))) (sym (n.plain items ty))

pub values_alike : (items : List Item) (params : List FnParam) (vs : List Val) (rs : List RustValue) → AreItems vs rs → values_of items params vs ≡ values_of items params (map (λ r. val.Value r) rs)
values_alike items params [] rs h = ap (λ (xs : List RustValue). values_of items params (map (λ r. val.Value r) xs)) (sym h)
values_alike items params (v ∷ vs) [] h = absurd h
values_alike items [] (v ∷ vs) (r ∷ rs) h = refl
values_alike items (p ∷ params) (v ∷ vs) (r ∷ rs) h =
    ap₂ (λ o q. option_and_then (λ r. option_map (λ rs. r ∷ rs) q) o) (passed_alike items p.ty v r h.0) (values_alike items params vs rs h.1)
