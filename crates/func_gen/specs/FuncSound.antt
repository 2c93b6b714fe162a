-- That the meaning of a `FunctionBindgen` is one: it keeps the laws on facts, operands and items.
use mathlib.Core.Logic.{inl}
use Rattle.std.proofs.Common.{◌≡◌, ℕ, ◌≤◌, [], ◌∷◌, ◌++◌, Option, None, Some, refl, sym, ap, ◌∙◌, arith, List}
use Rattle.std.specs.Prelude.{option_and_then, slice_get}
use Rattle.std.proofs.lemmas.Bool.{cond-false, cond-true, not-true}
use Rattle.wit_model.specs.Bytes.{Bytes}
use Rattle.rust_tree.specs.Ident.{rust_ident}
use Rattle.rust_tree.specs.declared.expr.Expr.TheVariants as expr
use Rattle.wrapper_data.specs.declared.run.Target.TheVariants as target
use Rattle.wrapper_data.specs.declared.value.RustValue.{RustValue}
use Rattle.wrapper_data.specs.declared.word.Word.{Word}
use Rattle.wrapper_meaning.specs.Direction.{take}
use Rattle.wrapper_meaning.specs.Items.{total}
use Rattle.wrapper_meaning.proofs.Lists.{some_same}
use Rattle.wrapper_meaning.proofs.RustValueDetermined.{rust_value_determines}
use Rattle.wrapper_values.specs.declared.state.Val.{Val}
use Rattle.wrapper_values.specs.declared.state.Val.TheVariants as val
use Rattle.abi_bindgen.specs.Laws.{Facts, Sound}
use Rattle.abi_bindgen.specs.Meaning.{Datum, Fact, arg, item, of, word, bound, Name}
use Rattle.func_gen.specs.declared.function_bindgen.FunctionBindgen.{FunctionBindgen}
use Rattle.func_gen.specs.declared.function_bindgen.ParamSite.{ParamSite}
use Rattle.func_gen.specs.declared.operand.ExprOperand.{ExprOperand}
use Rattle.func_gen.specs.FactLemmas.{Says, is_said, said, word_denoted, word_read}
use Rattle.func_gen.specs.Facts.{Owns, wrong}
use Rattle.func_gen.specs.Meaning.{Denote, File, FuncState, func_meaning}
use Rattle.func_gen.specs.Read.{Env, Read, env_of, item_of, less, read, read_operand}
use Rattle.func_gen.specs.ReadForms.{read-local, stable}
use Rattle.func_gen.specs.StandIn.{lent_item, owned_item}
use Rattle.func_gen.specs.StandLemmas.{given_on, lent_alone, taken_on, taken_owns}
use Rattle.func_gen.specs.Slot.{Slot, slot_name}
use Rattle.wrapper_meaning.proofs.PostReturn.{total-append}
use Rattle.rust_tree.specs.declared.item.Item.{Item}

-- facts that weigh no more hold too
module _ (w : File) (b : FunctionBindgen) (facts others : Facts func_meaning) (less_weight : (g : Fact ExprOperand Slot RustValue → ℕ) → total g others ≤ total g facts) where
  lighter : (s : FuncState) → Denote w b facts s → Denote w b others s
  lighter s d = record {
    hold = record {
      right = omega (arith, less_weight (wrong w.items b.params (env_of s.machine)), d.hold.right);
      apart = λ n o. omega (arith, less_weight (wrong w.items b.params (less (env_of s.machine) n)), d.hold.apart n o);
      within = d.hold.within;
    };
    owners = d.owners;
    area = d.area;
  }

moved_on : (w : File) (b : FunctionBindgen) (one two others : Facts func_meaning) (s : FuncState) → Denote w b (one ++ (two ++ others)) s → Denote w b (two ++ (one ++ others)) s
moved_on w b one two others =
    lighter w b (one ++ (two ++ others)) (two ++ (one ++ others))
    (λ g. omega (arith, total-append g one (two ++ others), total-append g two others, total-append g two (one ++ others), total-append g one others))

-- a word is read without any local that owns, so the fact may stand twice
twice : (w : File) (b : FunctionBindgen) (f : Fact ExprOperand Slot RustValue) (facts : Facts func_meaning) (s : FuncState) → ((n : Bytes) → Owns (env_of s.machine n) → wrong w.items b.params (less (env_of s.machine) n) f ≡ 0)
    → Denote w b (f ∷ facts) s → Denote w b (f ∷ f ∷ facts) s
twice w b f facts s needs d = record {
  hold = record {
    right = omega (arith, d.hold.right);
    apart = λ n o. omega (arith, needs n o, d.hold.apart n o);
    within = d.hold.within;
  };
  owners = d.owners;
  area = d.area;
}

-- a word that an operand denotes is read without a local that owns
word_stable : (items : List Item) (o : ExprOperand) (env : Env) (x : Word) → (read_operand items o).at env ≡ Some (val.Word x) → (n : Bytes) → Owns (env n) → (read_operand items o).at (less env n) ≡ Some (val.Word x)
word_stable items o env x h n owns =
    let two = word_read items o env x h in
    word_denoted items o (less env n) x two.0 (stable items o.expr env (val.Word x) two.1 refl n owns)

word_again : (w : File) (b : FunctionBindgen) (o : ExprOperand) (x : Word) (facts : Facts func_meaning) (s : FuncState) → Denote w b (of o (word x) ∷ facts) s → Denote w b (of o (word x) ∷ of o (word x) ∷ facts) s
word_again w b o x facts s d =
    let here = is_said w.items b.params (env_of s.machine) (of o (word x)) (omega (arith, d.hold.right)) in
    twice w b (of o (word x)) facts s (λ n owns. said w.items b.params (less (env_of s.machine) n) (of o (word x)) (word_stable w.items o (env_of s.machine) x here n owns)) d

arg_word_again : (w : File) (b : FunctionBindgen) (k : ℕ) (x : Word) (facts : Facts func_meaning) (s : FuncState) → Denote w b (arg k (word x) ∷ facts) s → Denote w b (arg k (word x) ∷ arg k (word x) ∷ facts) s
arg_word_again w b k x facts s d =
    let here = is_said w.items b.params (env_of s.machine) (arg k (word x)) (omega (arith, d.hold.right)) in
    twice w b (arg k (word x)) facts s (λ n owns. said w.items b.params (less (env_of s.machine) n) (arg k (word x)) (go (slice_get b.params k) here n owns)) d
  where
    go : (o : Option ParamSite) → option_and_then (λ (p : ParamSite). (read_operand w.items p.operand).at (env_of s.machine)) o ≡ Some (val.Word x) → (n : Bytes) → Owns (env_of s.machine n)
        → option_and_then (λ (p : ParamSite). (read_operand w.items p.operand).at (less (env_of s.machine) n)) o ≡ Some (val.Word x)
    go None h n owns = absurd cc
    go (Some p) h n owns = word_stable w.items p.operand (env_of s.machine) x h n owns

-- a name of a block is read as its local is
bound_word_again : (w : File) (b : FunctionBindgen) (slot : Slot) (name : Name) (x : Word) (facts : Facts func_meaning) (s : FuncState) → Denote w b (bound slot name (word x) ∷ facts) s → Denote w b (bound slot name (word x) ∷ bound slot name (word x) ∷ facts) s
bound_word_again w b slot name x facts s d =
    let k : Bytes = slot_name name slot.number in
    let env : Env = env_of s.machine in
    let here = is_said w.items b.params env (bound slot name (word x)) (omega (arith, d.hold.right)) in
    let reads : (read w.items (expr.Local k)).at env ≡ Some (val.Word x) = ap (λ (r : Read). r.at env) (read-local w.items k) ∙ here in
    twice w b (bound slot name (word x)) facts s
    (λ n owns. said w.items b.params (less env n) (bound slot name (word x)) (sym (ap (λ (r : Read). r.at (less env n)) (read-local w.items k)) ∙ stable w.items (expr.Local k) env (val.Word x) reads refl n owns)) d

says_of : (w : File) (b : FunctionBindgen) (o : ExprOperand) (d : Datum RustValue) (s : FuncState) → Denote w b (of o d ∷ []) s → Says d ((read_operand w.items o).at (env_of s.machine))
says_of w b o d s h = is_said w.items b.params (env_of s.machine) (of o d) (omega (arith, h.hold.right))

word_in : Val → Word → Word
word_in (val.Word x) y = x
word_in v y = y

same_word : (x y : Word) → val.Word x ≡ val.Word y → x ≡ y
unfolding word_in
same_word x y e = ap (λ v. word_in v x) e

pub func_sound : Sound func_meaning
func_sound = record {
  wide = inl refl;
  swap = moved_on;
  fewer = λ w b some others s h. lighter w b (some ++ others) others (λ g. omega (arith, total-append g some others)) s h;
  room = λ w b h. h.room;
  one_word = λ w b o x y s h g. same_word x y (some_same (val.Word x) (val.Word y) (sym (says_of w b o (word x) s h) ∙ says_of w b o (word y) s g));
  one_item = λ w b o a c s h g. some_same a c (ap (option_and_then item_of) (sym (says_of w b o (item a) s h) ∙ says_of w b o (item c) s g));
  again = word_again;
  arg_again = arg_word_again;
  bound_again = bound_word_again;
  nothing = λ w f s. refl;
  determined = λ t v u a own hv hu h g. rust_value_determines 2 take t v u a own tt hv hu h.0 g.0;
  given = λ t v a own h. (given_on t v a own h.0, h.1);
  taken = λ t v a own h. (taken_on t v a own h.0, h.1);
  bare = λ t v a heap own h. (lent_alone heap t v a own h.0).1;
  owned = λ t v a own h g. ap (total g) (taken_owns t v a own h.0);
  lent = λ t v a heap own h. (lent_alone heap t v a own h.0).0;
  inhabited = owned_item;
  lends = λ heap t v a own no fit h. lent_item heap t v a own no fit h.0;
  core = λ b import. (b.home, λ f. cond-true b.import (target.Core b.home f.name.wit) (target.Method b.home (rust_ident f.name)) import);
  method = λ b export. (b.home, rust_ident, λ f. cond-false b.import (target.Core b.home f.name.wit) (target.Method b.home (rust_ident f.name)) (not-true b.import export));
}
