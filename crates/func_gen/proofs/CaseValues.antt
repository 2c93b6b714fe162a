-- The value that is made of a case stands for it, where what was given stands for its payload; and what it owns.
use mathlib.Core.Logic.{inl, inr}
use Rattle.std.proofs.Common.{◌≡◌, ℕ, Bool, true, false, List, [], Option, None, Some, refl, sym, ap, ◌∙◌, append-nil}
use Rattle.std.specs.Prelude.{IfSome}
use Rattle.std.specs.Option.{option_map}
use Rattle.wrapper_data.specs.declared.block.Block.{Block}
use Rattle.wrapper_data.specs.declared.value.RustValue.{RustValue}
use Rattle.wrapper_data.specs.declared.value.RustValue.TheVariants as value
use Rattle.wrapper_meaning.specs.Direction.{take}
use Rattle.wrapper_meaning.specs.Shape.{Shapes, is_nothing}
use Rattle.wrapper_meaning.specs.Shape.Shape.{cases}
use Rattle.wrapper_meaning.specs.Shape.Shapes.{none, more}
use Rattle.wrapper_meaning.specs.StandsFor as rust
use Rattle.wrapper_meaning.specs.StandsFor.{CaseStands, Standing}
use Rattle.wrapper_meaning.specs.Value.{Case, case_number}
use Rattle.wrapper_values.specs.Owning.{owned_by}
use Rattle.abi_bindgen.specs.Cases.{PayloadStands}
use Rattle.func_gen.specs.Meaning.{IsNormal, StandsAsItIs, func_meaning}
use Rattle.func_gen.specs.StandLemmas.{owned-none, owned-some, owned-unit}
use Rattle.func_gen.specs.NormalLemmas.{normal_case, normal_unit, passing}

-- a payload is put into a case as it is. Where there is none, `()` may stand there
abbrev pub Fills : Option RustValue → Option RustValue → Type 0
Fills (Some r) inner = inner ≡ Some r
Fills None None = Unit {0}
Fills None (Some r) = r ≡ value.Unit

-- 1. It stands for the case

left_out : (b : Bool) (stands : Standing RustValue) (inner : Option RustValue) (own : List Block) → b ≡ true → own ≡ [] → Fills None inner → rust.PayloadStands b stands inner own
left_out true stands None own is empty fills = empty
left_out true stands (Some r) own is empty fills = (fills, empty)
left_out false stands inner own is empty fills = absurd cc

put_in : (b : Bool) (stands : Standing RustValue) (r : RustValue) (inner : Option RustValue) (own : List Block) → b ≡ false → stands r own → inner ≡ Some r → rust.PayloadStands b stands inner own
put_in false stands r inner own is h fills = (r, fills, h)
put_in true stands r inner own is h fills = absurd cc

case_filled : (ts : Shapes) (c : Case ts) (payload inner : Option RustValue) (own : List Block) → Fills payload inner → PayloadStands func_meaning take ts c payload own → CaseStands 2 take ts c inner own
case_filled none c payload inner own fills h = elim c [ ]
case_filled (more t ts) (inl v) None inner own fills h = left_out (is_nothing t) (rust.Stands 2 take t v) inner own h.0 h.1 fills
case_filled (more t ts) (inl v) (Some r) inner own fills h = put_in (is_nothing t) (rust.Stands 2 take t v) r inner own h.0 h.1.0 fills
case_filled (more t ts) (inr c) payload inner own fills h = case_filled ts c payload inner own fills h

-- what was given passes as it is
payload_normal : (ts : Shapes) (c : Case ts) (payload : Option RustValue) (own : List Block) → PayloadStands func_meaning take ts c payload own → IfSome payload (IsNormal take)
payload_normal none c payload own h = elim c [ ]
payload_normal (more t ts) (inl v) None own h = tt
payload_normal (more t ts) (inl v) (Some r) own h = h.1.1
payload_normal (more t ts) (inr c) payload own h = payload_normal ts c payload own h

inner_normal : (payload inner : Option RustValue) → Fills payload inner → IfSome payload (IsNormal take) → option_map (passing take) inner ≡ inner
inner_normal (Some r) inner fills h = ap (option_map (passing take)) fills ∙ ap (λ q. Some q) h ∙ sym fills
inner_normal None None fills h = refl
inner_normal None (Some r) fills h = ap (λ q. Some (passing take q)) fills ∙ ap (λ q. Some q) (normal_unit take) ∙ ap (λ q. Some q) (sym fills)

pub case_made : (ts : Shapes) (c : Case ts) (n : ℕ) (payload inner : Option RustValue) (own : List Block) → case_number ts c ≡ n → Fills payload inner → PayloadStands func_meaning take ts c payload own
    → StandsAsItIs take (cases ts) c (value.Case n inner) own
case_made ts c n payload inner own is fills h =
    ((inner, ap (λ k. value.Case k inner) (sym is), case_filled ts c payload inner own fills h), normal_case take n inner (inner_normal payload inner fills (payload_normal ts c payload own h)))

-- 2. It owns what was given

abbrev pub owned_payload : Option RustValue → List ℕ
owned_payload None = []
owned_payload (Some r) = owned_by r

pub case_owns : (n : ℕ) (payload inner : Option RustValue) → Fills payload inner → owned_by (value.Case n inner) ≡ owned_payload payload
case_owns n (Some r) inner fills = ap (λ q. owned_by (value.Case n q)) fills ∙ owned-some n r ∙ append-nil (owned_by r)
case_owns n None None fills = owned-none n
case_owns n None (Some r) fills = owned-some n r ∙ append-nil (owned_by r) ∙ ap owned_by fills ∙ owned-unit
