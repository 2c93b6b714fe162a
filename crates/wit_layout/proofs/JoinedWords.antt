-- Joining the same words once more adds nothing.
use Rattle.std.proofs.Common.{◌≡◌, ℕ, ◌+◌, ◌-◌, ◌<◌, ◌≤◌, List, [], ◌∷◌, length, drop, Option, refl, ap, ap₂, sym, ◌∙◌, arith}
use Rattle.std.specs.List.{slice_get}
use Rattle.wit_model.specs.declared.types.WitType.{WitType}
use Rattle.wit_model.specs.declared.wasm_type.WasmType.{WasmType}
use Rattle.wit_model.specs.declared.wasm_type.WasmType.TheVariants.{I32, I64, F32, F64, Pointer, PointerOrI64, Length}
use Rattle.wit_layout.specs.Join.{join}
use Rattle.wit_layout.specs.Flat.{joined, flatten_type, slots}
use Rattle.wit_layout.specs.Tree.{Tree, payload_in, payloads_in}
use Rattle.wit_layout.proofs.AheadTurns.{entry_at}
use Rattle.wit_model.proofs.ListLemmas.{drop_at}

join-self : (a : WasmType) → join a a ≡ a
join-self I32 = refl
join-self I64 = refl
join-self F32 = refl
join-self F64 = refl
join-self Pointer = refl
join-self PointerOrI64 = refl
join-self Length = refl

-- by all pairs
join-again : (a b : WasmType) → join a (join a b) ≡ join a b
join-again I32 I32 = refl
join-again I32 I64 = refl
join-again I32 F32 = refl
join-again I32 F64 = refl
join-again I32 Pointer = refl
join-again I32 PointerOrI64 = refl
join-again I32 Length = refl
join-again I64 I32 = refl
join-again I64 I64 = refl
join-again I64 F32 = refl
join-again I64 F64 = refl
join-again I64 Pointer = refl
join-again I64 PointerOrI64 = refl
join-again I64 Length = refl
join-again F32 I32 = refl
join-again F32 I64 = refl
join-again F32 F32 = refl
join-again F32 F64 = refl
join-again F32 Pointer = refl
join-again F32 PointerOrI64 = refl
join-again F32 Length = refl
join-again F64 I32 = refl
join-again F64 I64 = refl
join-again F64 F32 = refl
join-again F64 F64 = refl
join-again F64 Pointer = refl
join-again F64 PointerOrI64 = refl
join-again F64 Length = refl
join-again Pointer I32 = refl
join-again Pointer I64 = refl
join-again Pointer F32 = refl
join-again Pointer F64 = refl
join-again Pointer Pointer = refl
join-again Pointer PointerOrI64 = refl
join-again Pointer Length = refl
join-again PointerOrI64 b = refl
join-again Length I32 = refl
join-again Length I64 = refl
join-again Length F32 = refl
join-again Length F64 = refl
join-again Length Pointer = refl
join-again Length PointerOrI64 = refl
join-again Length Length = refl

joined-self : (xs : List WasmType) → joined xs xs ≡ xs
joined-self [] = refl
joined-self (x ∷ xs) = ap₂ (λ y ys. y ∷ ys) (join-self x) (joined-self xs)

joined-again : (xs ys : List WasmType) → joined xs (joined xs ys) ≡ joined xs ys
joined-again [] ys = refl
joined-again (x ∷ xs) [] = joined-self (x ∷ xs)
joined-again (x ∷ xs) (y ∷ ys) = ap₂ (λ z zs. z ∷ zs) (join-again x y) (joined-again xs ys)

-- the slots of payloads of which the first stands twice
pub repeated_slots : (ts : List Tree) (ps : List (Option WitType)) (n : ℕ) → 0 < n → n ≤ length ps → slice_get ps n ≡ slice_get ps (n - 1) → slots (payloads_in ts (drop n ps)) ≡ slots (payloads_in ts (drop (n - 1) ps))
repeated_slots ts ps n some within same =
    let first = entry_at ps (n - 1) (omega (arith, some, within)) in
    let flat = flatten_type (payload_in ts first.0) in
    let rest = slots (payloads_in ts (drop (n + 1) ps)) in
    let more : (n - 1) + 1 ≡ n = omega (arith, some) in
    let here : drop (n - 1) ps ≡ first.0 ∷ drop n ps = drop_at ps (n - 1) first.0 first.1 ∙ ap (λ k. first.0 ∷ drop k ps) more in
    let behind : drop n ps ≡ first.0 ∷ drop (n + 1) ps = drop_at ps n first.0 (same ∙ first.1) in
    let own : slots (payloads_in ts (drop n ps)) ≡ joined flat rest = ap (λ qs. slots (payloads_in ts qs)) behind in
    own ∙ sym (joined-again flat rest) ∙ sym (ap (λ ws. joined flat ws) own) ∙ sym (ap (λ qs. slots (payloads_in ts qs)) here)
