-- How a size and an alignment are printed as a Rust expression.
use Rattle.std.specs.Prelude.{ℕ, Bool, ◌==◌, if◌then◌else◌, List, ◌++◌, codes, decimal}
use Rattle.wit_model.specs.declared.size.ArchitectureSize.{ArchitectureSize}
use Rattle.wit_model.specs.declared.size.Alignment.{Alignment}
use Rattle.wit_model.specs.declared.size.Alignment.TheVariants.{Pointer, Bytes}
use Rattle.wit_model.specs.declared.size_text.Mark.{Mark}
use Rattle.wit_model.specs.declared.size_text.Mark.TheVariants.{PointerSize, Plus, Times, Open, Close}

-- the fixed words of such an expression
unfoldable pub mark_text : Mark → List ℕ
mark_text PointerSize = codes "::core::mem::size_of::<*const u8>()"
mark_text Plus = codes "+"
mark_text Times = codes "*"
mark_text Open = codes "("
mark_text Close = codes ")"

-- so many pointers
abbrev pub pointers_text : ℕ → List ℕ
pointers_text n = decimal n ++ mark_text Times ++ mark_text PointerSize

-- a sum or a product stands in brackets, unless it is to be plain
abbrev pub bracketed : Bool → List ℕ → List ℕ
bracketed plain t = if plain then t else mark_text Open ++ t ++ mark_text Close

abbrev pub size_text : Bool → ArchitectureSize → List ℕ
size_text plain s =
    if s.pointers == 0 then decimal s.bytes
    else (if s.bytes == 0 then (if s.pointers == 1 then mark_text PointerSize else bracketed plain (pointers_text s.pointers))
    else bracketed plain (decimal s.bytes ++ mark_text Plus ++ pointers_text s.pointers))

abbrev pub alignment_text : Alignment → List ℕ
alignment_text Pointer = mark_text PointerSize
alignment_text (Bytes n) = decimal n
