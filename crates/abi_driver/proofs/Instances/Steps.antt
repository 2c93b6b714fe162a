-- The steps of code, in their order.
use Rattle.std.specs.Prelude.{List, [], ◌∷◌, ◌++◌}
use Rattle.abi_bindgen.specs.Flow.{Flow, ask, both, cast_by, emit, in_block, zeros_of, ◌>>>◌}
use Rattle.abi_bindgen.specs.Sent.{Sent, asks, closes, opens, sends, sends_casts, sends_zeros}

abbrev pub steps : Flow → List Sent
steps (emit i) = sends i ∷ []
steps (cast_by casts) = sends_casts casts ∷ []
steps (zeros_of zeros) = sends_zeros zeros ∷ []
steps (ask a) = asks a ∷ []
steps (in_block code) = opens ∷ steps code ++ closes ∷ []
steps (one >>> two) = steps one ++ steps two
steps (both one two) = steps one ++ steps two
steps _ = []
