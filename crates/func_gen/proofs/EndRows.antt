-- The rows of the arguments, and of what code gives.
use Rattle.std.proofs.Common.{◌≡◌, ℕ, List, [], ◌∷◌, ◌++◌, length, Some, refl, sym, ap, subst, append-nil}
use Rattle.std.specs.Prelude.{option_and_then, slice_get, option_map}
use Rattle.wit_model.specs.declared.types.TypeDef.{TypeDef}
use Rattle.abi_bindgen.specs.declared.instruction.Instruction.TheVariants.{GetArg, Return}
use Rattle.abi_bindgen.specs.Instructions.{Emits}
use Rattle.abi_bindgen.specs.Laws.{Facts, Grows, ofs}
use Rattle.abi_bindgen.specs.Meaning.{arg, of}
use Rattle.abi_bindgen.specs.Sent.{sends}
use Rattle.abi_bindgen.proofs.Runs.{stops_same}
use Rattle.func_gen.specs.declared.function_bindgen.FunctionBindgen.{FunctionBindgen}
use Rattle.func_gen.specs.declared.function_bindgen.ParamSite.{ParamSite}
use Rattle.func_gen.specs.declared.operand.ExprOperand.{ExprOperand}
use Rattle.func_gen.specs.Emission.{alone, nothing}
use Rattle.func_gen.specs.FactLemmas.{Says}
use Rattle.func_gen.specs.Meaning.{Denote, File, FuncState, Serves, func_meaning}
use Rattle.func_gen.specs.Read.{read_operand}
use Rattle.func_gen.proofs.Forming.{form_one, takes_none}
use Rattle.func_gen.proofs.Rows.{none_adds, swaps, unchanged}

-- 1. Arguments

pub arg_row : (types : List TypeDef) (b : FunctionBindgen) (n : ℕ) (p : ParamSite) → slice_get b.params n ≡ Some p → Emits func_meaning types (GetArg n) [] (p.operand ∷ []) b b
arg_row types b n p is = record {
  adds = none_adds b b [] (unchanged b) refl;
  blocks = refl;
  returned = refl;
  asked = refl;
  results = refl;
  form = form_one (sends (GetArg n)) (record { gives = refl; calls = refl }) [] b b p.operand [] (ap (option_map (λ (q : ParamSite). λ (t : ℕ). alone q.operand.expr)) is) refl (unchanged b);
  row = λ d. swaps b b [] (unchanged b) refl (arg n d) (of p.operand d) (λ w found env h. subst (Says d) (ap (option_and_then (λ (q : ParamSite). (read_operand w.items q.operand).at env)) is) h);
}

-- 2. What code gives

abbrev pub giving : List ExprOperand → FunctionBindgen → FunctionBindgen
giving os b = record b { returned = Some os }

module _ (os : List ExprOperand) (b : FunctionBindgen) where
  serves_giving : (w : File) → Serves w b → Serves w (giving os b)
  serves_giving w h = record { runtime = h.runtime; sites = h.sites; room = h.room; sized = h.sized; static = h.static; bound = h.bound; called = h.called; suspended = h.suspended }

  known_giving : (w : File) (facts : Facts func_meaning) (s : FuncState) → Denote w b facts s → Denote w (giving os b) facts s
  known_giving w facts s d = record { hold = record { right = d.hold.right; apart = d.hold.apart; within = d.hold.within }; owners = d.owners; area = d.area }

  giving_grows : Grows func_meaning b (giving os b)
  giving_grows = record {
    serves = λ w h. record { runtime = h.runtime; sites = h.sites; room = h.room; sized = h.sized; static = h.static; bound = h.bound; called = h.called; suspended = h.suspended };
    more = λ w h. (w, serves_giving w h);
    stops = λ w p s h. stops_same func_meaning.account (func_meaning.does w p b.code s);
    imports = refl;
    exports = refl;
    arguments = refl;
    knows = λ types h. h;
    writes = λ types id h. h;
    target = λ f. refl;
    crosses = λ w f. refl;
    opened = refl;
    known = known_giving;
  }

  pub give_row : (types : List TypeDef) (n : ℕ) → length os ≡ n → Emits func_meaning types (Return n) os [] b (giving os b)
  give_row types n many = record {
    adds = record { grows = giving_grows; quiet = λ w p s h. refl; uncalled = λ h. record { here = h.here; around = h.around }; asked = refl; blocks = refl };
    blocks = refl;
    returned = refl;
    asked = refl;
    results = refl;
    form = record {
      still = record { import = refl; home = refl; area = refl; params = refl; sites = refl; sizes = refl };
      given = many;
      code = record { code = λ t. nothing; is = refl; writes = record { number = b.scope.next; takes = takes_none b.scope b.scope refl; call = refl; stmts = sym (append-nil b.code.stmts); runtime = sym (append-nil b.runtime); results = refl; opened = refl; finished = refl } };
    };
    row = λ ds w p others s0 s at. (s, at.done, (ofs func_meaning os ds, refl, record { account = refl; owns = λ x. refl; denotes = known_giving w (ofs func_meaning os ds ++ others) s at.holds }));
  }
