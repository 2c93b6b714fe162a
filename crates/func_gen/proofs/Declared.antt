-- Three names that are declared together, and locals of them.
use Rattle.std.proofs.Common.{◌≡◌, false, ◌||◌, List, [], ◌∷◌, ◌++◌, refl, sym, ap, ◌∙◌, append_assoc}
use Rattle.std.specs.Str.{bytes_eq}
use Rattle.std.proofs.lemmas.Bool.{or_parts}
use Rattle.std.proofs.lemmas.List.Folds.{list_any-append}
use Rattle.wit_model.specs.Bytes.{Bytes}
use Rattle.rust_tree.specs.declared.item.Item.{Item}
use Rattle.wrapper_data.specs.declared.value.RustValue.{RustValue}
use Rattle.wrapper_values.specs.declared.state.State.{State}
use Rattle.wrapper_values.specs.declared.state.Val.{Val}
use Rattle.wrapper_run.proofs.LocalLemmas.{bytes_eq-same}
use Rattle.abi_bindgen.specs.Meaning.{Fact}
use Rattle.func_gen.specs.declared.function_bindgen.FunctionBindgen.{FunctionBindgen}
use Rattle.func_gen.specs.declared.operand.ExprOperand.{ExprOperand}
use Rattle.func_gen.specs.declared.scope.Scope.{Scope}
use Rattle.func_gen.specs.Added.{Fresh}
use Rattle.func_gen.specs.CallForms.{FreshAll}
use Rattle.func_gen.specs.Facts.{Hold}
use Rattle.func_gen.specs.Scope.{is_used}
use Rattle.func_gen.specs.Slot.{Slot}
use Rattle.func_gen.proofs.Lasting.{bound_under, lasts, with_local, within_with}

-- 1. One more name is used

abbrev pub with_name : FunctionBindgen → Bytes → FunctionBindgen
with_name b n = record b { scope = record b.scope { used = b.scope.used ++ n ∷ [] } }

pub fresh_name : (b : FunctionBindgen) (n : Bytes) → is_used b.scope.used n ≡ false → Fresh b (with_name b n) n
fresh_name b n free = record { free = free; used = refl }

pub unused_with : (used : List Bytes) (x n : Bytes) → is_used used n ≡ false → bytes_eq x n ≡ false → is_used (used ++ x ∷ []) n ≡ false
unused_with used x n free other = list_any-append (λ u. bytes_eq u n) used (x ∷ []) ∙ ap (λ b. b || (bytes_eq x n || false)) free ∙ ap (λ b. b || false) other

pub unused_before : (old new : FunctionBindgen) (names : List Bytes) → FreshAll old new names → (n : Bytes) → is_used new.scope.used n ≡ false → is_used old.scope.used n ≡ false
unused_before old new names f n free =
    (or_parts (is_used old.scope.used n) (is_used names n) (sym (list_any-append (λ u. bytes_eq u n) old.scope.used names) ∙ sym (ap (λ us. is_used us n) f.used) ∙ free)).0

pub still_fresh : (a b c : FunctionBindgen) (names : List Bytes) → c.scope ≡ b.scope → FreshAll a b names → FreshAll a c names
still_fresh a b c names e f = record { free = f.free; used = ap (λ (s : Scope). s.used) e ∙ f.used }

pub fresh_after : (a b c : FunctionBindgen) (names : List Bytes) → b.scope ≡ a.scope → FreshAll b c names → FreshAll a c names
fresh_after a b c names e f = record { free = λ n is. ap (λ (s : Scope). is_used s.used n) (sym e) ∙ f.free n is; used = f.used ∙ ap (λ (s : Scope). s.used ++ names) e }

-- facts rest on the parameters and on the names that are used
pub hold_as : (items : List Item) (old new : FunctionBindgen) (facts : List (Fact ExprOperand Slot RustValue)) (s : State) → new.params ≡ old.params → new.scope.used ≡ old.scope.used → Hold items old facts s → Hold items new facts s
hold_as items old new facts s params used h = lasts items old new facts s s params (λ n v e. e) (λ n free. h.within n (ap (λ us. is_used us n) (sym used) ∙ free)) h

-- a local more, of a free name
pub keeps : (items : List Item) (b : FunctionBindgen) (n : Bytes) (v : Val) (facts : List (Fact ExprOperand Slot RustValue)) (s : State) → is_used b.scope.used n ≡ false → Hold items b facts s → Hold items (with_name b n) facts (with_local s n v)
keeps items b n v facts s free h = lasts items b (with_name b n) facts s (with_local s n v) refl (bound_under s n v (h.within n free)) (within_with b (with_name b n) n s v (fresh_name b n free) h.within) h

-- 2. Three names, each other than those before it

abbrev pub with_two : FunctionBindgen → (k m : Bytes) → FunctionBindgen
with_two b k m = with_name (with_name b k) m

abbrev pub with_three : FunctionBindgen → (k m n : Bytes) → FunctionBindgen
with_three b k m n = with_name (with_two b k m) n

pub record Three (b : FunctionBindgen) (k m n : Bytes) : Type 0 where
  pub first : is_used b.scope.used k ≡ false
  pub second : is_used (with_name b k).scope.used m ≡ false
  pub third : is_used (with_two b k m).scope.used n ≡ false

module _ (old new : FunctionBindgen) (k m n : Bytes) (f : FreshAll old new (k ∷ m ∷ n ∷ [])) where
  pub three : bytes_eq k m ≡ false → bytes_eq k n ≡ false → bytes_eq m n ≡ false → Three old k m n
  three km kn mn =
      let free_k = f.free k (ap (λ b. b || is_used (m ∷ n ∷ []) k) (bytes_eq-same k)) in
      let free_m = f.free m (ap (λ b. b || is_used (m ∷ n ∷ []) m) km ∙ ap (λ b. b || is_used (n ∷ []) m) (bytes_eq-same m)) in
      let free_n = f.free n (ap (λ b. b || is_used (m ∷ n ∷ []) n) kn ∙ ap (λ b. b || is_used (n ∷ []) n) mn ∙ ap (λ b. b || false) (bytes_eq-same n)) in
      record {
        first = free_k;
        second = unused_with old.scope.used k m free_m km;
        third = unused_with (with_name old k).scope.used m n (unused_with old.scope.used k n free_n kn) mn;
      }

  pub three_used : new.scope.used ≡ (with_three old k m n).scope.used
  three_used = f.used ∙ sym (append_assoc old.scope.used (k ∷ []) (m ∷ n ∷ [])) ∙ sym (append_assoc (old.scope.used ++ k ∷ []) (m ∷ []) (n ∷ []))
