-- Which values pass as they are: scalars, flags, cases, lists, records and maps whose parts do.
use Rattle.std.proofs.Common.{◌≡◌, ℕ, ℤ, Bool, List, map, Option, None, Some, refl, sym, ap, ◌∙◌}
use Rattle.std.specs.Option.{option_map}
use Rattle.wit_layout.specs.Tree.{Scalar}
use Rattle.wit_model.specs.declared.types.WitType.{WitType}
use Rattle.wrapper_data.specs.declared.value.RustValue.{RustValue, RustValue-F, fold-RustValue, fold-roll-RustValue}
use Rattle.wrapper_data.specs.declared.value.RustValue.TheVariants as value
use Rattle.wrapper_data.specs.declared.value.RustValue.TheVariants.{rolls-Bits, rolls-Bool, rolls-Case, rolls-Char, rolls-F32, rolls-F64, rolls-Map, rolls-Num, rolls-Seq, rolls-Struct, rolls-Unit}
use Rattle.wrapper_meaning.specs.Direction.{Direction, give, lend, make, take}
use Rattle.wrapper_meaning.specs.StandsFor.{rust_scalar}
use Rattle.wrapper_meaning.specs.Value.{ScalarValue}
use Rattle.func_gen.specs.Meaning.{IsNormal, passing_level}

case_level : (dir : Direction) (n : ℕ) (payload : Option RustValue) → passing_level dir (RustValue-F.Case n payload) ≡ value.Case n payload
case_level (lend blocks) n payload = refl
case_level (make blocks) n payload = refl
case_level give n payload = refl
case_level take n payload = refl

module _ (dir : Direction) where
  -- the value as it passes in the direction
  abbrev pub passing : RustValue → RustValue
  passing r = fold-RustValue RustValue (passing_level dir) r

  pub passing_case : (n : ℕ) (payload : Option RustValue) → passing (value.Case n payload) ≡ value.Case n (option_map passing payload)
  passing_case n None = ap passing (sym (rolls-Case n None)) ∙ fold-roll-RustValue RustValue (passing_level dir) (RustValue-F.Case n None) ∙ case_level dir n None
  passing_case n (Some r) = ap passing (sym (rolls-Case n (Some r))) ∙ fold-roll-RustValue RustValue (passing_level dir) (RustValue-F.Case n (Some r)) ∙ case_level dir n (Some (passing r))

  pub normal_case : (n : ℕ) (payload : Option RustValue) → option_map passing payload ≡ payload → IsNormal dir (value.Case n payload)
  normal_case n payload h = passing_case n payload ∙ ap (value.Case n) h

  pub normal_bits : (bits : ℕ) → IsNormal dir (value.Bits bits)
  normal_bits bits = ap passing (sym (rolls-Bits bits)) ∙ fold-roll-RustValue RustValue (passing_level dir) (RustValue-F.Bits bits) ∙ level dir
    where
      level : (dir : Direction) → passing_level dir (RustValue-F.Bits bits) ≡ value.Bits bits
      level (lend blocks) = refl
      level (make blocks) = refl
      level give = refl
      level take = refl

  pub normal_unit : IsNormal dir value.Unit
  normal_unit = ap passing (sym rolls-Unit) ∙ fold-roll-RustValue RustValue (passing_level dir) RustValue-F.Unit ∙ level dir
    where
      level : (dir : Direction) → passing_level dir RustValue-F.Unit ≡ value.Unit
      level (lend blocks) = refl
      level (make blocks) = refl
      level give = refl
      level take = refl

pub struct_level : (dir : Direction) (rs : List RustValue) → passing_level dir (RustValue-F.Struct rs) ≡ value.Struct rs
struct_level (lend blocks) rs = refl
struct_level (make blocks) rs = refl
struct_level give rs = refl
struct_level take rs = refl

pub normal_struct : (dir : Direction) (rs : List RustValue) → map (fold-RustValue RustValue (passing_level dir)) rs ≡ rs → IsNormal dir (value.Struct rs)
normal_struct dir rs h =
    ap (fold-RustValue RustValue (passing_level dir)) (sym (rolls-Struct rs)) ∙ fold-roll-RustValue RustValue (passing_level dir) (RustValue-F.Struct rs)
    ∙ struct_level dir (map (fold-RustValue RustValue (passing_level dir)) rs) ∙ ap value.Struct h

pub normal_list : (dir : Direction) (rs : List RustValue) → map (passing dir) rs ≡ rs → IsNormal dir (value.Seq rs)
normal_list dir rs h = ap (passing dir) (sym (rolls-Seq rs)) ∙ fold-roll-RustValue RustValue (passing_level dir) (RustValue-F.Seq rs) ∙ level dir (map (passing dir) rs) ∙ ap value.Seq h
  where
    level : (dir : Direction) (rs : List RustValue) → passing_level dir (RustValue-F.Seq rs) ≡ value.Seq rs
    level (lend blocks) rs = refl
    level (make blocks) rs = refl
    level give rs = refl
    level take rs = refl

-- of an entry its key and its value
abbrev pub passing_entry : Direction → RustValue × RustValue → RustValue × RustValue
passing_entry dir e = (passing dir e.0, passing dir e.1)

pub normal_map : (dir : Direction) (rs : List (RustValue × RustValue)) → map (passing_entry dir) rs ≡ rs → IsNormal dir (value.Map rs)
normal_map dir rs h = ap (passing dir) (sym (rolls-Map rs)) ∙ fold-roll-RustValue RustValue (passing_level dir) (RustValue-F.Map rs) ∙ level dir (map (passing_entry dir) rs) ∙ ap value.Map h
  where
    level : (dir : Direction) (rs : List (RustValue × RustValue)) → passing_level dir (RustValue-F.Map rs) ≡ value.Map rs
    level (lend blocks) rs = refl
    level (make blocks) rs = refl
    level give rs = refl
    level take rs = refl

normal_num : (dir : Direction) (k : WitType) (z : ℤ) → IsNormal dir (value.Num k z)
normal_num dir k z = ap (fold-RustValue RustValue (passing_level dir)) (sym (rolls-Num k z)) ∙ fold-roll-RustValue RustValue (passing_level dir) (RustValue-F.Num k z) ∙ level dir
  where
    level : (dir : Direction) → passing_level dir (RustValue-F.Num k z) ≡ value.Num k z
    level (lend blocks) = refl
    level give = refl
    level take = refl
    level (make blocks) = refl

normal_bool : (dir : Direction) (b : Bool) → IsNormal dir (value.Bool b)
normal_bool dir b = ap (fold-RustValue RustValue (passing_level dir)) (sym (rolls-Bool b)) ∙ fold-roll-RustValue RustValue (passing_level dir) (RustValue-F.Bool b) ∙ level dir
  where
    level : (dir : Direction) → passing_level dir (RustValue-F.Bool b) ≡ value.Bool b
    level (lend blocks) = refl
    level give = refl
    level take = refl
    level (make blocks) = refl

normal_char : (dir : Direction) (c : ℕ) → IsNormal dir (value.Char c)
normal_char dir c = ap (fold-RustValue RustValue (passing_level dir)) (sym (rolls-Char c)) ∙ fold-roll-RustValue RustValue (passing_level dir) (RustValue-F.Char c) ∙ level dir
  where
    level : (dir : Direction) → passing_level dir (RustValue-F.Char c) ≡ value.Char c
    level (lend blocks) = refl
    level give = refl
    level take = refl
    level (make blocks) = refl

normal_f32 : (dir : Direction) (x : ℕ) → IsNormal dir (value.F32 x)
normal_f32 dir x = ap (fold-RustValue RustValue (passing_level dir)) (sym (rolls-F32 x)) ∙ fold-roll-RustValue RustValue (passing_level dir) (RustValue-F.F32 x) ∙ level dir
  where
    level : (dir : Direction) → passing_level dir (RustValue-F.F32 x) ≡ value.F32 x
    level (lend blocks) = refl
    level give = refl
    level take = refl
    level (make blocks) = refl

normal_f64 : (dir : Direction) (x : ℕ) → IsNormal dir (value.F64 x)
normal_f64 dir x = ap (fold-RustValue RustValue (passing_level dir)) (sym (rolls-F64 x)) ∙ fold-roll-RustValue RustValue (passing_level dir) (RustValue-F.F64 x) ∙ level dir
  where
    level : (dir : Direction) → passing_level dir (RustValue-F.F64 x) ≡ value.F64 x
    level (lend blocks) = refl
    level give = refl
    level take = refl
    level (make blocks) = refl

pub scalar_normal : (dir : Direction) (s : Scalar) (v : ScalarValue s) → IsNormal dir (rust_scalar s v)
scalar_normal dir Scalar.bool v = normal_bool dir v
scalar_normal dir Scalar.f32 v = normal_f32 dir v
scalar_normal dir Scalar.f64 v = normal_f64 dir v
scalar_normal dir Scalar.char v = normal_char dir v
scalar_normal dir Scalar.handle v = elim v [ ]
scalar_normal dir s v = normal_num dir _ v
