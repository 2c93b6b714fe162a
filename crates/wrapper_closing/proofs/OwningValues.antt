-- A value of a direct shape that owns what it has still does with the flags of an owner, and passes then as it is.
use Rattle.std.proofs.Common.{◌≡◌, ℕ, zero, suc, inl, inr, Bool, true, false, List, [], ◌∷◌, length, map, Option, None, Some, refl, sym, ap, ap₂, ◌∙◌, subst}
use Rattle.std.specs.Option.{option_map}
use Rattle.std.proofs.lemmas.Bool.{and_parts}
use Rattle.wrapper_data.specs.declared.block.Block.{Block}
use Rattle.wit_layout.specs.Tree.{Scalar}
use Rattle.wrapper_data.specs.declared.value.RustValue.{RustValue, RustValue-F, fold-RustValue, fold-roll-RustValue}
use Rattle.wrapper_data.specs.declared.value.RustValue.TheVariants as value
use Rattle.wrapper_data.specs.declared.value.RustValue.TheVariants.{rolls-Buffer, rolls-Struct}
use Rattle.wrapper_meaning.specs.Buffer.{IsBuffer}
use Rattle.wrapper_meaning.specs.Direction.{give, take}
use Rattle.wrapper_meaning.specs.InMemory.{TextHolds, text_extent}
use Rattle.wrapper_meaning.specs.Shape.{Shape, Shapes, is_nothing}
use Rattle.wrapper_meaning.specs.Shape.Shape.{cases, fields, fixed, flags, handle, list, other, pairs, resource, scalar, text, tuple}
use Rattle.wrapper_meaning.specs.Shape.Shapes.{more, none}
use Rattle.wrapper_meaning.specs.StandsFor.{CaseStands, IsFlag, PartsStand, PayloadStands, Standing, Stands, rust_scalar}
use Rattle.wrapper_meaning.specs.Value.{Case, Parts, ScalarValue, Value, case_number}
use Rattle.func_gen.specs.Meaning.{IsNormal, passing_level}
use Rattle.func_gen.specs.NormalLemmas.{normal_bits, normal_case, normal_struct, normal_unit, passing_case, scalar_normal}
use Rattle.wrapper_closing.specs.Direct.{are_direct, is_direct}

-- 1. The value with the flags of an owner

abbrev pub owning : RustValue → RustValue
owning r = fold-RustValue RustValue (passing_level take) r

pub owning_struct : (rs : List RustValue) → owning (value.Struct rs) ≡ value.Struct (map owning rs)
owning_struct rs = ap owning (sym (rolls-Struct rs)) ∙ fold-roll-RustValue RustValue (passing_level take) (RustValue-F.Struct rs)

pub owning_buffer : (address n : ℕ) (o : Bool) → owning (value.Buffer address n o) ≡ value.Buffer address n true
owning_buffer address n o = ap owning (sym (rolls-Buffer address n o)) ∙ fold-roll-RustValue RustValue (passing_level take) (RustValue-F.Buffer address n o)

-- 2. It stands for what the value does

-- what is taken can be given
given_text : (v : List ℕ) (n address : ℕ) (own : List Block) → IsBuffer take true address n text_extent (TextHolds v) own → IsBuffer give true address n text_extent (TextHolds v) own
given_text v zero address own h = record { aligned = h.aligned; bounded = h.bounded; placed = (tt, h.placed.1) }
given_text v (suc n) address own h = record {
  aligned = h.aligned;
  bounded = h.bounded;
  placed = record {
    block = h.placed.block;
    offset = h.placed.offset;
    own = h.placed.own;
    inner = h.placed.inner;
    held = record { starts = h.placed.held.starts; exact = h.placed.held.exact; whole = h.placed.held.whole; itself = h.placed.held.itself };
    holds = h.placed.holds;
    all = h.placed.all;
  };
}

flag_taken : (n : ℕ) → IsFlag take n true
flag_taken zero = tt
flag_taken (suc n) = refl

flag_given : (n : ℕ) → IsFlag give n true
flag_given zero = tt
flag_given (suc n) = refl

pub record Owning (t : Shape) (v : Value t) (r : RustValue) (own : List Block) : Type 0 where
  pub taken : Stands 2 take t v (owning r) own
  pub given : Stands 2 give t v (owning r) own
  pub normal : IsNormal give (owning r)

pub record PartsOwning (ts : Shapes) (v : Parts ts) (rs : List RustValue) (own : List Block) : Type 0 where
  pub taken : PartsStand 2 take ts v (map owning rs) own
  pub given : PartsStand 2 give ts v (map owning rs) own
  pub normal : map owning (map owning rs) ≡ map owning rs

pub record CaseOwning (ts : Shapes) (c : Case ts) (payload : Option RustValue) (own : List Block) : Type 0 where
  pub taken : CaseStands 2 take ts c (option_map owning payload) own
  pub given : CaseStands 2 give ts c (option_map owning payload) own
  pub normal : option_map owning (option_map owning payload) ≡ option_map owning payload

-- a payload that is left out has no flags
payload_owns : (empty_case : Bool) (taken given : Standing RustValue) (payload : Option RustValue) (own : List Block) → ((r : RustValue) (own : List Block) → taken r own → taken (owning r) own × given (owning r) own × IsNormal give (owning r))
    → PayloadStands empty_case taken payload own → PayloadStands empty_case taken (option_map owning payload) own × PayloadStands empty_case given (option_map owning payload) own × (option_map owning (option_map owning payload) ≡ option_map owning payload)
payload_owns true taken given None own each h = (h, h, refl)
payload_owns true taken given (Some r) own each h =
    let same : owning r ≡ value.Unit = ap owning h.0 ∙ normal_unit take in ((same, h.1), (same, h.1), ap (λ r. Some r) (ap owning same ∙ normal_unit take ∙ sym same))
payload_owns false taken given payload own each (r, is, h) =
    let same : option_map owning payload ≡ Some (owning r) = ap (option_map owning) is in
    let one = each r own h in ((owning r, same, one.0), (owning r, same, one.1), ap (option_map owning) same ∙ ap (λ r. Some r) one.2 ∙ sym same)

scalar_owns : (s : Scalar) (v : ScalarValue s) (r : RustValue) (own : List Block) → Stands 2 take (scalar s) v r own → Owning (scalar s) v r own
scalar_owns s v r own h =
    let same : owning r ≡ rust_scalar s v = ap owning h.0 ∙ scalar_normal take s v in
    record { taken = (same, h.1); given = (same, h.1); normal = subst (IsNormal give) (sym same) (scalar_normal give s v) }

text_owns : (v : List ℕ) (r : RustValue) (own : List Block) → Stands 2 take text v r own → Owning text v r own
text_owns v r own h =
    let same : owning r ≡ value.Buffer h.address (length v) true = ap owning h.is ∙ owning_buffer h.address (length v) h.owned in
    record {
      taken = record { address = h.address; nonzero = h.nonzero; range = h.range; owned = true; flag = flag_taken (length v); is = same; buffer = h.buffer };
      given = record { address = h.address; nonzero = h.nonzero; range = h.range; owned = true; flag = flag_given (length v); is = same; buffer = given_text v (length v) h.address own h.buffer };
      normal = subst (IsNormal give) (sym same) (owning_buffer h.address (length v) true);
    }

struct_normal : (r : RustValue) (rs : List RustValue) → owning r ≡ value.Struct (map owning rs) → map owning (map owning rs) ≡ map owning rs → IsNormal give (owning r)
struct_normal r rs same h = subst (IsNormal give) (sym same) (normal_struct give (map owning rs) h)

mutual
  pub owns : (t : Shape) (v : Value t) (r : RustValue) (own : List Block) → is_direct t ≡ true → Stands 2 take t v r own → Owning t v r own
  owns (scalar s) v r own d h = scalar_owns s v r own h
  owns text v r own d h = text_owns v r own h
  owns (fields ts) v r own d (rs, is, h) =
      let parts = parts_own ts v rs own d h in
      let same = ap owning is ∙ owning_struct rs in
      record { taken = (map owning rs, same, parts.taken); given = (map owning rs, same, parts.given); normal = struct_normal r rs same parts.normal }
  owns (tuple ts) v r own d (rs, is, h) =
      let parts = parts_own ts v rs own d h in
      let same = ap owning is ∙ owning_struct rs in
      record { taken = (map owning rs, same, parts.taken); given = (map owning rs, same, parts.given); normal = struct_normal r rs same parts.normal }
  owns (list t) v r own d h = absurd cc
  owns (pairs x y) v r own d h = absurd cc
  owns (fixed t n) v r own d h = absurd cc
  owns (cases ts) v r own d (payload, is, h) =
      let inside = case_owns ts v payload own d h in
      let same = ap owning is ∙ passing_case take (case_number ts v) payload in
      record {
        taken = (option_map owning payload, same, inside.taken);
        given = (option_map owning payload, same, inside.given);
        normal = subst (IsNormal give) (sym same) (normal_case give (case_number ts v) (option_map owning payload) inside.normal);
      }
  owns (flags n) v r own d (bits, small, is, means, alone) =
      let same = ap owning is ∙ normal_bits take bits in
      record { taken = (bits, small, same, means, alone); given = (bits, small, same, means, alone); normal = subst (IsNormal give) (sym same) (normal_bits give bits) }
  owns (handle o n) v r own d h = absurd cc
  owns (resource n) v r own d h = absurd cc
  owns other v r own d h = absurd cc

  pub parts_own : (ts : Shapes) (v : Parts ts) (rs : List RustValue) (own : List Block) → are_direct ts ≡ true → PartsStand 2 take ts v rs own → PartsOwning ts v rs own
  parts_own none v rs own d h =
      let same : map owning rs ≡ [] = ap (map owning) h.0 in
      record { taken = (same, h.1); given = (same, h.1); normal = ap (map owning) same ∙ sym same }
  parts_own (more t ts) v rs own d (r, others, first, rest, is, h, hs, all) =
      let both = and_parts (is_direct t) (are_direct ts) d in
      let one = owns t v.0 r first both.0 h in
      let later = parts_own ts v.1 others rest both.1 hs in
      let same : map owning rs ≡ owning r ∷ map owning others = ap (map owning) is in
      record {
        taken = (owning r, map owning others, first, rest, same, one.taken, later.taken, all);
        given = (owning r, map owning others, first, rest, same, one.given, later.given, all);
        normal = ap (map owning) same ∙ ap₂ (λ x xs. x ∷ xs) one.normal later.normal ∙ sym same;
      }

  pub case_owns : (ts : Shapes) (c : Case ts) (payload : Option RustValue) (own : List Block) → are_direct ts ≡ true → CaseStands 2 take ts c payload own → CaseOwning ts c payload own
  case_owns none c payload own d h = absurd c
  case_owns (more t ts) (inl v) payload own d h =
      let inside = payload_owns (is_nothing t) (Stands 2 take t v) (Stands 2 give t v) payload own (λ r own h. let one = owns t v r own (and_parts (is_direct t) (are_direct ts) d).0 h in (one.taken, one.given, one.normal)) h in
      record { taken = inside.0; given = inside.1; normal = inside.2 }
  case_owns (more t ts) (inr c) payload own d h =
      let inside = case_owns ts c payload own (and_parts (is_direct t) (are_direct ts) d).1 h in record { taken = inside.taken; given = inside.given; normal = inside.normal }
