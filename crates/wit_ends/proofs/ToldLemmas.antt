-- How the bytes that are told change over one call after another.
use Rattle.std.proofs.Common.{◌≡◌, ℕ, ◌+◌, ◌≤◌, List, ◌++◌, length, take, drop, Option, Some, None, refl, ap, sym, ◌∙◌, append_assoc, arith, length-append}
use Rattle.std.specs.Io.KnownBytes.{prepend_known, append_known}
use Rattle.std.proofs.Math.Seq.{take-add}
use Rattle.wit_ends.specs.Input.{LosesAtMost}

append_known-take : (told : Option (List ℕ)) (bytes : List ℕ) (done n : ℕ) → append_known (append_known told (take done bytes)) (take n (drop done bytes)) ≡ append_known told (take (done + n) bytes)
append_known-take None bytes done n = refl
append_known-take (Some xs) bytes done n =
    ap (λ ys. Some ys) (append_assoc xs (take done bytes) (take n (drop done bytes)) ∙ ap (λ ys. xs ++ ys) (sym (take-add done n bytes)))

-- after the first bytes, the next
pub append_known-next : (first between last : Option (List ℕ)) (bytes : List ℕ) (done n : ℕ) → between ≡ append_known first (take done bytes) → last ≡ append_known between (take n (drop done bytes)) → last ≡ append_known first (take (done + n) bytes)
append_known-next first between last bytes done n earlier next =
    next ∙ ap (λ told. append_known told (take n (drop done bytes))) earlier ∙ append_known-take first bytes done n

pub prepend_known-append : (told : Option (List ℕ)) (xs ys : List ℕ) → prepend_known xs (prepend_known ys told) ≡ prepend_known (xs ++ ys) told
prepend_known-append None xs ys = refl
prepend_known-append (Some zs) xs ys = ap (λ bs. Some bs) (sym (append_assoc xs ys zs))

-- after some bytes, at most so many more
pub LosesAtMost-after : (first between last : Option (List ℕ)) (xs : List ℕ) (n most : ℕ) → first ≡ prepend_known xs between → LosesAtMost between last n → length xs + n ≤ most → LosesAtMost first last most
LosesAtMost-after first between last xs n most lost loses fits =
    (xs ++ loses.0, omega (arith, length-append xs loses.0, loses.1), lost ∙ ap (λ told. prepend_known xs told) loses.2 ∙ prepend_known-append last xs loses.0)
