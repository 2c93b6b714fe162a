-- The rows of instructions that read a name of the innermost open block.
use Rattle.std.proofs.Common.{◌≡◌, ℕ, List, [], ◌∷◌, ◌++◌, map, Option, None, Some, refl, sym, ap, ◌∙◌, subst}
use Rattle.std.specs.Prelude.{option_and_then, option_map}
use Rattle.std.proofs.lemmas.List.{reverse-append}
use Rattle.wit_model.specs.Bytes.{Bytes}
use Rattle.wit_model.specs.declared.types.TypeDef.{TypeDef}
use Rattle.rust_tree.specs.declared.expr.Expr.TheVariants as expr
use Rattle.wrapper_values.specs.Locals.{usable}
use Rattle.abi_bindgen.specs.declared.instruction.Instruction.{Instruction}
use Rattle.abi_bindgen.specs.declared.instruction.Instruction.TheVariants.{IterBasePointer, IterElem, IterMapKey, IterMapValue, VariantPayloadName}
use Rattle.abi_bindgen.specs.Blocks.{IsOpen, ReadsName}
use Rattle.abi_bindgen.specs.Instructions.{Emits}
use Rattle.abi_bindgen.specs.Meaning.{Name, bound, of, the_base, the_element, the_key, the_payload, the_value}
use Rattle.abi_bindgen.specs.Sent.{sends}
use Rattle.func_gen.specs.declared.function_bindgen.FunctionBindgen.{FunctionBindgen}
use Rattle.func_gen.specs.declared.function_bindgen.OpenBlock.{OpenBlock}
use Rattle.func_gen.specs.Emission.{alone}
use Rattle.func_gen.specs.FactLemmas.{Says}
use Rattle.func_gen.specs.Forms.{operand_of}
use Rattle.func_gen.specs.Meaning.{func_meaning}
use Rattle.func_gen.specs.Opened.{first_number, innermost, name_read, open_block, open_blocks, stem_read}
use Rattle.func_gen.specs.Read.{Read}
use Rattle.func_gen.specs.ReadForms.{read-local}
use Rattle.func_gen.specs.Slot.{name_prefix, slot_name}
use Rattle.func_gen.specs.Scope.{with_number}
use Rattle.func_gen.proofs.Forming.{form_alone}
use Rattle.func_gen.proofs.Rows.{none_adds, swaps, unchanged}
use Rattle.wrapper_meaning.proofs.Lists.{some_same}

-- 1. The innermost block is the last one

pub opened_more : (xs : List OpenBlock) (o : OpenBlock) → open_blocks (xs ++ o ∷ []) ≡ open_block o ∷ open_blocks xs
opened_more xs o = ap (map open_block) (reverse-append xs (o ∷ []))

-- 2. Its names

module _ (b : FunctionBindgen) (k : ℕ) (number : innermost b.opened ≡ Some k) where
  its_number : (is : IsOpen func_meaning b) → is.slot.number ≡ k
  its_number is = some_same is.slot.number k (sym (ap first_number is.opened) ∙ number)

  reads : (name : Name) → ReadsName func_meaning name (operand_of (expr.Local (slot_name name k)) ∷ []) b b
  reads name is d =
      let n = slot_name name k in
      swaps b b [] (unchanged b) refl (bound is.slot name d) (of (operand_of (expr.Local n)) d)
      (λ w found env says.
      subst (Says d) (sym (ap (λ (r : Read). r.at env) (read-local w.items n))) (subst (λ j. Says d (option_and_then usable (env (slot_name name j)))) (its_number is) says))

  -- by the name that is read
  pub name_row : (types : List TypeDef) (i : Instruction) (name : Name) → name_read i ≡ Some name → Emits func_meaning types i [] (operand_of (expr.Local (slot_name name k)) ∷ []) b b
  name_row types VariantPayloadName name e = subst (λ q. Emits func_meaning types VariantPayloadName [] (operand_of (expr.Local (slot_name q k)) ∷ []) b b) (some_same the_payload name e) (record {
    adds = none_adds b b [] (unchanged b) refl;
    blocks = refl;
    returned = refl;
    asked = refl;
    results = refl;
    row = reads the_payload;
    form = form_alone (sends VariantPayloadName) (record { gives = refl; calls = refl }) [] b b (expr.Local (slot_name the_payload k)) [] (ap (option_map (λ (j : ℕ). λ (t : ℕ). alone (expr.Local (slot_name the_payload j)))) number) refl (unchanged b);
  })
  name_row types IterElem name e = subst (λ q. Emits func_meaning types IterElem [] (operand_of (expr.Local (slot_name q k)) ∷ []) b b) (some_same the_element name e) (record {
    adds = none_adds b b [] (unchanged b) refl;
    blocks = refl;
    returned = refl;
    asked = refl;
    results = refl;
    row = reads the_element;
    form = form_alone (sends IterElem) (record { gives = refl; calls = refl }) [] b b (expr.Local (slot_name the_element k)) [] (ap (option_map (λ (j : ℕ). λ (t : ℕ). alone (expr.Local (slot_name the_element j)))) number) refl (unchanged b);
  })
  name_row types IterMapKey name e = subst (λ q. Emits func_meaning types IterMapKey [] (operand_of (expr.Local (slot_name q k)) ∷ []) b b) (some_same the_key name e) (record {
    adds = none_adds b b [] (unchanged b) refl;
    blocks = refl;
    returned = refl;
    asked = refl;
    results = refl;
    row = reads the_key;
    form = form_alone (sends IterMapKey) (record { gives = refl; calls = refl }) [] b b (expr.Local (slot_name the_key k)) [] (ap (option_map (λ (j : ℕ). λ (t : ℕ). alone (expr.Local (slot_name the_key j)))) number) refl (unchanged b);
  })
  name_row types IterMapValue name e = subst (λ q. Emits func_meaning types IterMapValue [] (operand_of (expr.Local (slot_name q k)) ∷ []) b b) (some_same the_value name e) (record {
    adds = none_adds b b [] (unchanged b) refl;
    blocks = refl;
    returned = refl;
    asked = refl;
    results = refl;
    row = reads the_value;
    form = form_alone (sends IterMapValue) (record { gives = refl; calls = refl }) [] b b (expr.Local (slot_name the_value k)) [] (ap (option_map (λ (j : ℕ). λ (t : ℕ). alone (expr.Local (slot_name the_value j)))) number) refl (unchanged b);
  })
  name_row types IterBasePointer name e = subst (λ q. Emits func_meaning types IterBasePointer [] (operand_of (expr.Local (slot_name q k)) ∷ []) b b) (some_same the_base name e) (record {
    adds = none_adds b b [] (unchanged b) refl;
    blocks = refl;
    returned = refl;
    asked = refl;
    results = refl;
    row = reads the_base;
    form = form_alone (sends IterBasePointer) (record { gives = refl; calls = refl }) [] b b (expr.Local (slot_name the_base k)) [] (ap (option_map (λ (j : ℕ). λ (t : ℕ). alone (expr.Local (slot_name the_base j)))) number) refl (unchanged b);
  })
  name_row types _ name e = absurd cc

  -- by what stands before the number
  pub stem_row : (types : List TypeDef) (i : Instruction) (stem : Bytes) → stem_read i ≡ Some stem → Emits func_meaning types i [] (operand_of (expr.Local (with_number stem k)) ∷ []) b b
  stem_row types i stem e = go (name_read i) refl e
    where
      go : (o : Option Name) → name_read i ≡ o → option_map name_prefix o ≡ Some stem → Emits func_meaning types i [] (operand_of (expr.Local (with_number stem k)) ∷ []) b b
      go None is h = absurd cc
      go (Some name) is h = subst (λ s. Emits func_meaning types i [] (operand_of (expr.Local (with_number s k)) ∷ []) b b) (some_same (name_prefix name) stem h) (name_row types i name is)
