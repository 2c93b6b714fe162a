-- How many words are kept of a type, and which stands at a place.
use Rattle.std.proofs.Common.{◌≡◌, ℕ, ◌+◌, ◌≤◌, ◌<◌, ◌∷◌, length, drop, get_or, ap, ◌∙◌, arith}
use Rattle.std.proofs.lemmas.List.{drop_more, length-take, length-take-le, get_or-take}
use Rattle.wit_model.specs.declared.wasm_type.WasmType.{WasmType}
use Rattle.wit_layout.specs.declared.words.Words.{Words}
use Rattle.wit_layout.specs.inside.Words.{kept}

pub kept_fit : (w : Words) → length (kept w) ≤ w.room
kept_fit w = omega (arith, length-take w.count w.words, w.bounded)

-- the array has a place for each of them
pub kept-length : (w : Words) → length (kept w) ≡ w.count
kept-length w = length-take-le w.count w.words (omega (arith, w.bounded, w.in_array, w.whole))

pub kept_from : (w : Words) (i : ℕ) (d : WasmType) → i < w.count → drop i (kept w) ≡ get_or w.words i d ∷ drop (i + 1) (kept w)
kept_from w i d l =
    let within : i < length (kept w) = omega (arith, kept-length w) in
    drop_more (kept w) i d within ∙ ap (λ (y : WasmType). y ∷ drop (i + 1) (kept w)) (get_or-take w.count w.words i d l)
