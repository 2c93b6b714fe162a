-- What a text is, by its bytes.
use Rattle.std.specs.Prelude.{ℕ, List}

-- a text by its bytes
abbrev pub Bytes : Type 0
Bytes = List ℕ
