-- An honest peer at pointers of eight bytes, which writes an address and a length of eight bytes each to the area of a text.
use Rattle.std.proofs.Common.{◌≡◌, ℕ, List, [], ◌∷◌, ◌++◌, Some, None, codes, refl, arith}
use Rattle.wrapper_data.specs.declared.answer.Answer.TheVariants as answer
use Rattle.wrapper_data.specs.declared.run.CallPoint.{CallPoint}
use Rattle.wrapper_data.specs.declared.run.Target.TheVariants as target
use Rattle.wrapper_data.specs.declared.word.Word.TheVariants as word
use Rattle.wrapper_data.specs.Answered.{with_block, written_block}
use Rattle.wrapper_meaning.specs.Areas.{import_area}
use Rattle.wrapper_meaning.specs.Honest.{HonestPeer}
use Rattle.wrapper_meaning.specs.Shape.Shape.{text}
use Rattle.wrapper_meaning.specs.Shape.Shapes.{none}
use Rattle.wrapper_meaning.proofs.Instances.Forms.{ascii, four}
use Rattle.wrapper_meaning.proofs.Instances.OkAnswer.{area_of, lies_inside, ok, ok_taken, written}

-- a pointer has 2 ^ 3 bytes
abbrev wide : ℕ
wide = 3

-- what is asked for the result: twice a pointer
wide_area : import_area wide none (Some text) ≡ record { size = 16; align = 8 } ∷ []
wide_area = refl

abbrev call : CallPoint
call = record { target = target.Core [] []; words = word.Pointer 4096 ∷ []; values = []; heap = record { blocks = area_of 16 [] ∷ [] } }

-- the address and the length of `ok`, the upper four bytes of each being zero
abbrev names_wide : List ℕ
names_wide = four 8192 ++ four 0 ++ four 2 ++ four 0

peer : HonestPeer wide (Some text) (codes "ok") (answer.Words None (written names_wide) (ok ∷ [])) call
unfolding with_block written_block
peer = record {
  good = ascii (codes "ok") refl;
  result = None;
  writes = written names_wide;
  new = ok ∷ [];
  answers = refl;
  represents = record {
    words = word.Pointer 4096 ∷ [];
    blocks = ok ∷ [];
    area = area_of 16 names_wide ∷ [];
    takes = record {
      block = area_of 16 names_wide;
      is_area = refl;
      named = refl;
      stands = record { aligned = refl; room = omega (arith); holds = record { address = 8192; pointer = (omega (arith), refl); counted = (omega (arith), refl); buffer = ok_taken } };
    };
    placed = record {
      block = area_of 16 names_wide;
      is_area = refl;
      before = [];
      last = refl;
      silent = refl;
      live = (0, omega (arith), refl);
      inside = lies_inside 16 names_wide (omega (arith));
    };
    fresh = refl;
    brings = λ weight. refl;
  };
}
