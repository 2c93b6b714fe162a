-- Which core words a type is as a parameter or a result.
use Rattle.std.specs.Prelude.{◌≡◌, ℕ, zero, suc, ◌<◌, nat_lt, min, List, [], ◌∷◌, ◌++◌, length, take, replicate}
use Rattle.wit_model.specs.declared.wasm_type.WasmType.{WasmType}
use Rattle.wit_model.specs.declared.wasm_type.WasmType.TheVariants.{I32, I64, F32, F64, Pointer, Length}
use Rattle.wit_model.specs.declared.types.TypeDef.{TypeDef}
use Rattle.wit_layout.specs.declared.flat.Flat.{Flat}
use Rattle.wit_layout.specs.Join.{join}
use Rattle.wit_layout.specs.Extent.{flag_words}
use Rattle.wit_layout.specs.Tree.{Scalar, Tree, Trees, tree_at}
use Rattle.wit_layout.specs.Tree.Scalar.{bool, u8, u16, u32, u64, s8, s16, s32, s64, f32, f64, char, handle}
use Rattle.wit_layout.specs.Tree.Tree.{scalar, text, list, pairs, fixed, fields, cases, flags}
use Rattle.wit_layout.specs.Tree.Trees.{none, more}

abbrev pub core_type : Scalar → WasmType
core_type bool = I32
core_type u8 = I32
core_type u16 = I32
core_type u32 = I32
core_type u64 = I64
core_type s8 = I32
core_type s16 = I32
core_type s32 = I32
core_type s64 = I64
core_type f32 = F32
core_type f64 = F64
core_type char = I32
core_type handle = I32

-- the slots that hold the words of both, and what is left over of either
abbrev pub joined : List WasmType → List WasmType → List WasmType
joined [] ds = ds
joined (c ∷ cs) [] = c ∷ cs
joined (c ∷ cs) (d ∷ ds) = join c d ∷ joined cs ds

-- the same words so many times
unfoldable pub repeated : ℕ → List WasmType → List WasmType
repeated zero cs = []
repeated (suc n) cs = cs ++ repeated n cs

abbrev pub pointer_and_length : List WasmType
pointer_and_length = Pointer ∷ Length ∷ []

-- a word for each 32 flags
abbrev pub words_of_flags : ℕ → List WasmType
words_of_flags n = replicate (flag_words n) I32

abbrev mutual
  pub flatten_type : Tree → List WasmType
  flatten_type (scalar s) = core_type s ∷ []
  flatten_type text = pointer_and_length
  flatten_type (list t) = pointer_and_length
  flatten_type (pairs k v) = pointer_and_length
  flatten_type (fixed t n) = repeated n (flatten_type t)
  flatten_type (fields ts) = flatten_record ts
  flatten_type (cases ts) = I32 ∷ slots ts
  flatten_type (flags n) = words_of_flags n

  -- the words of a record's fields, one after another
  pub flatten_record : Trees → List WasmType
  flatten_record none = []
  flatten_record (more t ts) = flatten_type t ++ flatten_record ts

  -- the slots that the payloads of a variant share
  pub slots : Trees → List WasmType
  slots none = []
  slots (more t ts) = joined (flatten_type t) (slots ts)

-- each type of a table has a word at least
abbrev pub EachHasWords : List TypeDef → Type 0
EachHasWords types = (at : ℕ) → at < length types → 0 < length (flatten_type (tree_at types at))

-- the first sixteen of some words, and whether there are more
pub record IsFlatOf (f : Flat) (words : List WasmType) : Type 0 where
  pub count : f.count ≡ min 16 (length words)
  pub kept : take f.count f.words ≡ take 16 words
  pub more : f.more ≡ nat_lt 16 (length words)
