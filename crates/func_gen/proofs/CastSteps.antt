-- The steps of a cast between two types are casts between types of which one joins the other.
use Rattle.std.proofs.Common.{inl, inr, zero, suc, List, [], ◌∷◌, refl, sym, subst, arith}
use Rattle.std.specs.List.{All}
use Rattle.std.proofs.lemmas.List.Elements.{All-nil}
use Rattle.wit_model.specs.declared.wasm_type.WasmType.{WasmType}
use Rattle.wit_model.specs.declared.wasm_type.WasmType.TheVariants.{I32, I64, F32, F64, Pointer, PointerOrI64, Length}
use Rattle.wit_layout.specs.Cast.{cast}
use Rattle.wit_layout.specs.declared.bitcast.Bitcast.{Bitcast}
use Rattle.abi_bindgen.specs.Constants.{AreCasts}
use Rattle.func_gen.specs.CastForms.{HasSteps}

steps_between : (from to : WasmType) → HasSteps (cast from to)
steps_between F32 Pointer = (inl refl, inl refl)
steps_between Pointer F32 = (inr refl, inr refl)
steps_between F32 Length = (inl refl, inl refl)
steps_between Length F32 = (inr refl, inr refl)
steps_between PointerOrI64 I32 = (inr refl, inr refl)
steps_between PointerOrI64 F32 = (inr refl, inr refl)
steps_between PointerOrI64 F64 = (inr refl, inr refl)
steps_between PointerOrI64 Length = (inr refl, inr refl)
steps_between I32 PointerOrI64 = (inl refl, inl refl)
steps_between F32 PointerOrI64 = (inl refl, inl refl)
steps_between F64 PointerOrI64 = (inl refl, inl refl)
steps_between Length PointerOrI64 = (inl refl, inl refl)
steps_between I64 I32 = tt
steps_between I64 I64 = tt
steps_between I64 F32 = tt
steps_between I64 F64 = tt
steps_between I64 Pointer = tt
steps_between I64 PointerOrI64 = tt
steps_between I64 Length = tt
steps_between _ _ = tt

both_all : {X : Type 0} (P : X → Type 0) (x : X) (xs : List X) → P x → All P xs → All P (x ∷ xs)
both_all P x xs h g zero d l = h
both_all P x xs h g (suc k) d l = g k d (omega (arith, l))

pub steps_all : (froms tos : List WasmType) (casts : List Bitcast) → AreCasts froms tos casts → All HasSteps casts
steps_all [] [] casts h = subst (All HasSteps) (sym h) (All-nil HasSteps)
steps_all [] (to ∷ tos) casts h = absurd h
steps_all (from ∷ froms) [] casts h = absurd h
steps_all (from ∷ froms) (to ∷ tos) [] h = absurd h
steps_all (from ∷ froms) (to ∷ tos) (c ∷ casts) h = both_all HasSteps c casts (subst HasSteps (sym h.1) (steps_between from to)) (steps_all froms tos casts h.2)
