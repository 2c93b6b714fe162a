-- In which form sizes, alignments and places are told: where a pointer has 4 bytes, and where it has 8.
use Rattle.std.specs.Prelude.{◌≡◌, ℕ, Bool, true, false, List, map}
use Rattle.wit_model.specs.declared.types.TypeDefKind.{TypeDefKind}
use Rattle.wit_model.specs.declared.types.TypeDefKind.TheVariants as kind
use Rattle.wit_model.specs.declared.size.ArchitectureSize.{ArchitectureSize}
use Rattle.wit_model.specs.declared.size.Alignment.{Alignment}
use Rattle.wit_model.specs.Size.{bytes_at, alignment_at}

-- the size, at both widths
abbrev pub IsPairOf : ArchitectureSize → (ℕ → ℕ) → Type 0
IsPairOf size f = (bytes_at size 4 ≡ f 2) × (bytes_at size 8 ≡ f 3)

-- the alignment, at both widths
abbrev pub IsAlignmentOf : Alignment → (ℕ → ℕ) → Type 0
IsAlignmentOf align f = (alignment_at align 4 ≡ f 2) × (alignment_at align 8 ≡ f 3)

-- each of the sizes, at both widths
abbrev pub ArePairsOf : List ArchitectureSize → (ℕ → List ℕ) → Type 0
ArePairsOf sizes f = (map (λ s. bytes_at s 4) sizes ≡ f 2) × (map (λ s. bytes_at s 8) sizes ≡ f 3)

-- an alias keeps no places of its own
abbrev pub is_alias : TypeDefKind → Bool
is_alias (kind.Alias _) = true
is_alias _ = false
