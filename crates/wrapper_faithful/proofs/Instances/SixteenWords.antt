-- An import with sixteen words of parameters and a text as its result: the pointer of the result's area is a seventeenth word, by which
-- an honest peer answers; and a call that lacks it.
use Rattle.std.proofs.Common.{◌≡◌, ◌+◌, ℕ, zero, suc, ℤ, pos, List, [], ◌∷◌, ◌++◌, length, map, Some, None, codes, refl, ap, arith, ◌∙◌}
use Rattle.std.proofs.Common.{length-append}
use Rattle.wit_model.specs.declared.types.WitType.TheVariants as wit
use Rattle.wit_layout.specs.Flat.{repeated}
use Rattle.wit_layout.specs.Tree.{Scalar}
use Rattle.wrapper_data.specs.declared.answer.Answer.TheVariants as answer
use Rattle.wrapper_data.specs.declared.block.Block.{Block}
use Rattle.wrapper_data.specs.declared.choice.Choice.TheVariants as choice
use Rattle.wrapper_data.specs.declared.heap.Heap.{Heap}
use Rattle.wrapper_data.specs.declared.run.CallPoint.{CallPoint}
use Rattle.wrapper_data.specs.declared.run.Target.{Target}
use Rattle.wrapper_data.specs.declared.run.Target.TheVariants as target
use Rattle.wrapper_data.specs.declared.value.RustValue.{RustValue}
use Rattle.wrapper_data.specs.declared.value.RustValue.TheVariants as value
use Rattle.wrapper_data.specs.declared.word.Word.{Word}
use Rattle.wrapper_data.specs.declared.word.Word.TheVariants as word
use Rattle.wrapper_data.specs.Answered.{with_block, written_block}
use Rattle.wrapper_meaning.specs.AsWords.{EachSays, Says, passed_word}
use Rattle.wrapper_meaning.specs.Calls.{CallsImport, pointers}
use Rattle.wrapper_meaning.specs.Direction.{lend}
use Rattle.wrapper_meaning.specs.Honest.{HonestPeer}
use Rattle.wrapper_meaning.specs.Represents.{param_words}
use Rattle.wrapper_meaning.specs.Shape.Shape.{fixed, scalar, text}
use Rattle.wrapper_meaning.specs.Shape.Shapes.{none, more}
use Rattle.wrapper_meaning.specs.StandsFor.{EachStands, Stands}
use Rattle.wrapper_meaning.proofs.Instances.Forms.{ascii}
use Rattle.wrapper_meaning.proofs.Instances.OkAnswer.{area_of, lies_inside, names_ok, ok, ok_begins, written}
use Rattle.wrapper_faithful.specs.Import.{ImportGiven}
use Rattle.wrapper_faithful.specs.Passed.{Passed, width}

-- an array of sixteen numbers, each of which is a word

abbrev sixteen : Passed
sixteen = record { params = more (fixed (scalar Scalar.u32) 16) none; result = Some text }

sixteen_words : length (param_words sixteen.params) ≡ 16
unfolding repeated
sixteen_words = refl

abbrev upwards : ℕ → ℕ → List ℤ
upwards first zero = []
upwards first (suc n) = pos first ∷ upwards (first + 1) n

abbrev numbers : List ℤ
numbers = upwards 0 16

abbrev word_of : ℤ → Word
word_of v = passed_word Scalar.u32 v

abbrev value_of : ℤ → RustValue
value_of v = value.Num wit.U32 v

each_says : (blocks : List Block) (vs : List ℤ) → EachSays (Says width (lend blocks) (scalar Scalar.u32)) vs (map word_of vs) []
each_says blocks [] = (refl, refl)
each_says blocks (v ∷ vs) = (word_of v ∷ [], map word_of vs, [], [], (word_of v, refl, refl, refl), each_says blocks vs, refl, refl)

each_stands : (blocks : List Block) (vs : List ℤ) → EachStands (Stands width (lend blocks) (scalar Scalar.u32)) vs (map value_of vs) []
each_stands blocks [] = (refl, refl)
each_stands blocks (v ∷ vs) = (value_of v, map value_of vs, [], [], refl, (refl, refl), each_stands blocks vs, refl)

-- what is given, in an empty heap

abbrev empty : Heap
empty = record { blocks = [] }

given : ImportGiven sixteen
given = record {
  values = (numbers, tt);
  good = (((refl, (refl, (refl, (refl, (refl, (refl, (refl, (refl, (refl, (refl, (refl, (refl, (refl, (refl, (refl, (refl, (refl, tt))))))))))))))))), tt), refl);
  args = value.Struct (map value_of numbers) ∷ [];
  heap = empty;
  formed = refl;
  own = [];
  others = [];
  stand = (value.Struct (map value_of numbers), [], [], [], refl, (map value_of numbers, refl, each_stands [] numbers), (refl, refl), refl);
  live = λ weight. refl;
}

-- the call, with the area where its choice put it

abbrev aim : Target
aim = target.Core (codes "$root") (codes "f")

abbrev call_with : List Word → CallPoint
call_with words = record { target = aim; words = words; values = []; heap = record { blocks = area_of 8 [] ∷ [] } }

abbrev call : CallPoint
call = call_with (map word_of numbers ++ word.Pointer 4096 ∷ [])

calls : CallsImport width aim sixteen.params (numbers, tt) sixteen.result empty (choice.At 4096 ∷ []) call
unfolding repeated
calls = record {
  aimed = refl;
  area = area_of 8 [] ∷ [];
  stands = record { block = area_of 8 []; is = refl; chosen = refl; aligned = refl; exact = refl };
  words = record {
    arguments = map word_of numbers;
    pointer = word.Pointer 4096 ∷ [];
    all = refl;
    represents = (map word_of numbers, [], [], [], each_says (area_of 8 [] ∷ []) numbers, (refl, refl), refl, refl);
    named = refl;
  };
  values = refl;
  formed = refl;
  made = [];
  kept = λ weight. omega (arith);
}

-- an honest peer: it writes the address of `ok` and its length where the seventeenth word says

peer : HonestPeer width sixteen.result (codes "ok") (answer.Words None (written names_ok) (ok ∷ [])) call
unfolding with_block written_block
peer = record {
  good = ascii (codes "ok") refl;
  result = None;
  writes = written names_ok;
  new = ok ∷ [];
  answers = refl;
  represents = record {
    words = word.Pointer 4096 ∷ [];
    blocks = ok ∷ [];
    area = area_of 8 names_ok ∷ [];
    takes = record { block = area_of 8 names_ok; is_area = refl; named = refl; stands = ok_begins 8 (omega (arith)) };
    placed = record {
      block = area_of 8 names_ok;
      is_area = refl;
      before = map word_of numbers;
      last = refl;
      silent = refl;
      live = (0, omega (arith), refl);
      inside = lies_inside 8 names_ok (omega (arith));
    };
    fresh = refl;
    brings = λ weight. refl;
  };
}

-- how many words say so many numbers
each_counts : (blocks own : List Block) (vs : List ℤ) (words : List Word) → EachSays (Says width (lend blocks) (scalar Scalar.u32)) vs words own → length words ≡ length vs
each_counts blocks own [] words (is, empty) = ap length is
each_counts blocks own (v ∷ vs) words (front, back, first, rest, (x, one, says, empty), others, all, owns) =
    omega (ap length all, length-append front back, ap length one, each_counts blocks rest vs back others, arith)

-- a call with the sixteen words alone names no area
refuses_sixteen : CallsImport width aim sixteen.params (numbers, tt) sixteen.result empty (choice.At 4096 ∷ []) (call_with (map word_of numbers)) → ⊥
unfolding repeated
refuses_sixteen wrong =
    let (front, back, first, rest, says, (end, without), all, owns) = wrong.words.represents in
    let stands = wrong.stands in
    omega (
      ap length wrong.words.all,
      length-append wrong.words.arguments wrong.words.pointer,
      ap length all,
      length-append front back,
      ap length end,
      each_counts wrong_blocks first numbers front says,
      ap length (wrong.words.named ∙ ap pointers stands.is),
      arith,
    )
  where
    wrong_blocks : List Block
    wrong_blocks = area_of 8 [] ∷ []
