-- The rows of constants, which add no statement and are read whatever the names stand for.
use Rattle.std.proofs.Common.{◌≡◌, ℤ, pos, Bor, List, [], ◌∷◌, ◌++◌, length, map, Some, refl, ap, suc, arith}
use Rattle.wit_model.specs.declared.types.TypeDef.{TypeDef}
use Rattle.wit_model.specs.declared.wasm_type.WasmType.{WasmType}
use Rattle.wit_model.specs.declared.wasm_type.WasmType.TheVariants as wasm
use Rattle.rust_tree.specs.declared.expr.Expr.{Expr}
use Rattle.rust_tree.specs.declared.expr.Expr.TheVariants as expr
use Rattle.rust_tree.specs.declared.expr.ZeroType.TheVariants as zero_of
use Rattle.rust_tree.specs.declared.item.Item.{Item}
use Rattle.wrapper_data.specs.declared.value.RustValue.{RustValue}
use Rattle.wrapper_data.specs.declared.word.Word.{Word}
use Rattle.wrapper_data.specs.declared.word.Word.TheVariants as core
use Rattle.wrapper_meaning.specs.Words.{word_of_bits}
use Rattle.wrapper_values.specs.declared.state.State.{State}
use Rattle.wrapper_values.specs.declared.state.Val.TheVariants as val
use Rattle.abi_bindgen.specs.declared.instruction.Instruction.TheVariants.{ConstZero, I32Const}
use Rattle.abi_bindgen.specs.Constants.{MakesWords}
use Rattle.abi_bindgen.specs.Instructions.{Emits}
use Rattle.abi_bindgen.specs.Laws.{Facts, core_data, ofs}
use Rattle.abi_bindgen.specs.Meaning.{Fact, of, word}
use Rattle.abi_bindgen.specs.Sent.{sends}
use Rattle.func_gen.specs.Slot.{Slot}
use Rattle.func_gen.specs.declared.function_bindgen.FunctionBindgen.{FunctionBindgen}
use Rattle.func_gen.specs.declared.operand.ExprOperand.{ExprOperand}
use Rattle.func_gen.specs.CastForms.{zero_expr, zero_operands, zeros}
use Rattle.func_gen.specs.FactLemmas.{said}
use Rattle.func_gen.specs.Facts.{Hold}
use Rattle.func_gen.specs.Forms.{operand_of}
use Rattle.func_gen.specs.Meaning.{func_meaning}
use Rattle.func_gen.specs.Read.{Env, Read, env_of, less, read}
use Rattle.func_gen.specs.ReadForms.{read-i32_const, read-zero}
use Rattle.func_gen.proofs.Forming.{form_alone, form_by, takes_none}
use Rattle.func_gen.proofs.Lasting.{denotes_on}
use Rattle.func_gen.proofs.Rows.{none_adds, same_area, unchanged, unmoved}
use Rattle.func_gen.proofs.Steps.{ran}

-- what always reads a word denotes it
hold_word : (items : List Item) (b : FunctionBindgen) (facts : Facts func_meaning) (s : State) (e : Expr) (x : Word) → ((env : Env) → (read items e).at env ≡ Some (val.Word x)) → Hold items b facts s → Hold items b (of (operand_of e) (word x) ∷ facts) s
hold_word items b facts s e x reads h =
    let f : Fact ExprOperand Slot RustValue = of (operand_of e) (word x) in
    record {
      right = omega (arith, h.right, said items b.params (env_of s) f (reads (env_of s)));
      apart = λ n owns. omega (arith, h.apart n owns, said items b.params (less (env_of s) n) f (reads (less (env_of s) n)));
      within = h.within;
    }

-- these operands denote these words, whatever stands beside them
abbrev AlwaysHold : List ExprOperand → List Word → Type 0
AlwaysHold rs ws = (items : List Item) (b : FunctionBindgen) (others : Facts func_meaning) (s : State) → Hold items b others s → Hold items b (ofs func_meaning rs (core_data func_meaning ws) ++ others) s

makes : (b : FunctionBindgen) (ws : List Word) (rs : List ExprOperand) → AlwaysHold rs ws → MakesWords func_meaning ws rs b b
makes b ws rs always w p others s0 s at =
    let facts = ofs func_meaning rs (core_data func_meaning ws) in (
      s,
      ran b b [] [] (unchanged b) w p others s0 s at,
      (
        facts,
        refl,
        record {
          account = refl;
          owns = λ x. refl;
          denotes = denotes_on w b b others (facts ++ others) s s.machine (same_area b b [] [] (unchanged b)) (unmoved s.machine) at.holds (always w.items b others s.machine at.holds.hold);
        },
      ),
    )

number_says : (items : List Item) (z : ℤ) (env : Env) → (read items (expr.I32Const z)).at env ≡ Some (val.Word (core.I32 z))
number_says items z env = ap (λ (r : Read). r.at env) (read-i32_const items z)

zero_says : (items : List Item) (ty : WasmType) (env : Env) → (read items (zero_expr ty)).at env ≡ Some (val.Word (word_of_bits 2 ty 0))
zero_says items wasm.I32 env = number_says items (pos 0) env
zero_says items wasm.I64 env = ap (λ (r : Read). r.at env) (read-zero items zero_of.I64)
zero_says items wasm.F32 env = ap (λ (r : Read). r.at env) (read-zero items zero_of.F32)
zero_says items wasm.F64 env = ap (λ (r : Read). r.at env) (read-zero items zero_of.F64)
zero_says items wasm.Pointer env = ap (λ (r : Read). r.at env) (read-zero items zero_of.Pointer)
zero_says items wasm.PointerOrI64 env = ap (λ (r : Read). r.at env) (read-zero items zero_of.PointerOrI64)
zero_says items wasm.Length env = ap (λ (r : Read). r.at env) (read-zero items zero_of.Length)

abbrev zero_words : List WasmType → List Word
zero_words types = map (λ ty. word_of_bits 2 ty 0) types

zeros_hold : (types : List WasmType) → AlwaysHold (zero_operands types) (zero_words types)
zeros_hold [] items b others s h = h
zeros_hold (ty ∷ types) items b others s h =
    hold_word items b (ofs func_meaning (zero_operands types) (core_data func_meaning (zero_words types)) ++ others) s (zero_expr ty) (word_of_bits 2 ty 0) (λ env. zero_says items ty env) (zeros_hold types items b others s h)

zeros_many : (types : List WasmType) → length (zero_operands types) ≡ length types
zeros_many [] = refl
zeros_many (ty ∷ types) = ap suc (zeros_many types)

zeros_are : (types : List WasmType) → zero_operands types ≡ map operand_of (map zero_expr types)
zeros_are [] = refl
zeros_are (ty ∷ types) = ap (λ rs. operand_of (zero_expr ty) ∷ rs) (zeros_are types)

pub number_row : (types : List TypeDef) (b : FunctionBindgen) (z : ℤ) → Emits func_meaning types (I32Const z) [] (operand_of (expr.I32Const z) ∷ []) b b
number_row types b z = record {
  adds = none_adds b b [] (unchanged b) refl;
  blocks = refl;
  returned = refl;
  asked = refl;
  results = refl;
  form = form_alone (sends (I32Const z)) (record { gives = refl; calls = refl }) [] b b (expr.I32Const z) [] refl refl (unchanged b);
  row = makes b (core.I32 z ∷ []) (operand_of (expr.I32Const z) ∷ []) (λ items b others s h. hold_word items b others s (expr.I32Const z) (core.I32 z) (λ env. number_says items z env) h);
}

pub zeros_row : (types : List TypeDef) (b : FunctionBindgen) (zs : Bor (List WasmType)) → Emits func_meaning types (ConstZero zs) [] (zero_operands zs.now) b b
zeros_row types b zs = record {
  adds = none_adds b b [] (unchanged b) refl;
  blocks = refl;
  returned = refl;
  asked = refl;
  results = zeros_many zs.now;
  form = form_by (sends (ConstZero zs)) (record { gives = refl; calls = refl }) [] b b (zero_operands zs.now) (zeros zs.now) b.scope.next refl (takes_none b.scope b.scope refl) (unchanged b) (zeros_are zs.now);
  row = makes b (zero_words zs.now) (zero_operands zs.now) (λ items c others s h. zeros_hold zs.now items c others s h);
}
