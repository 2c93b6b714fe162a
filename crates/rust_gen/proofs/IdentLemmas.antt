-- Which printed texts are identifiers: those of core parameters, and the fixed names; and which may be quoted.
use Rattle.std.proofs.Common.{◌≡◌, ℕ, ◌+◌, true, not, List, [], ◌∷◌, ◌++◌, refl, sym, ◌∙◌}
use Rattle.std.specs.Prelude.{codes}
use Rattle.std.specs.List.{list_all}
use Rattle.std.specs.Str.{bytes_eq}
use Rattle.std.proofs.lemmas.Bool.{and_from, and_parts, or_left}
use Rattle.std.proofs.lemmas.List.Folds.{list_all-append}
use Rattle.wit_model.specs.Bytes.{Bytes}
use Rattle.wit_model.specs.declared.function.Function.{Function}
use Rattle.rust_tree.specs.Ident.{escaped_words, has_ident_form, is_escaped, is_ident, may_begin, may_follow}
use Rattle.rust_tree.specs.WellNamed.{are_named_core_params, is_ident_part, is_quotable}
use Rattle.gen_accept.specs.DeclaredNames.{guest_name}
use Rattle.wit_model.specs.declared.wasm_type.WasmType.{WasmType}
use Rattle.wrapper_closing.specs.Params.{arg_name, arg_prefix, core_args}
use Rattle.wrapper_closing.proofs.NumberedIdents.{numbered_ident}
use Rattle.rust_gen.specs.Exported.{post_return_name}

-- core parameters

arg-form : has_ident_form arg_prefix ≡ true
unfolding arg_prefix
arg-form = refl

pub arg_ident : (n : ℕ) → is_ident (arg_name n) ≡ true
arg_ident n = numbered_ident arg_prefix n arg-form

pub args-named : (n : ℕ) (types : List WasmType) → are_named_core_params (core_args n types) ≡ true
args-named n [] = refl
args-named n (ty ∷ types) = and_from (is_ident (arg_name n)) (are_named_core_params (core_args (n + 1) types)) (arg_ident n) (args-named (n + 1) types)

pub guest_ident : is_ident guest_name ≡ true
unfolding guest_name escaped_words
guest_ident = refl

-- parts of identifiers

follows : (t : Bytes) → has_ident_form t ≡ true → list_all may_follow t ≡ true
follows [] h = absurd (cc)
follows (c ∷ cs) h =
    let parts = and_parts (may_begin c) (list_all may_follow cs) h in
    and_from (may_follow c) (list_all may_follow cs) (or_left (may_begin c) _ parts.0) parts.1

pub part_of : (front name behind : Bytes) → is_ident (front ++ name ++ behind) ≡ true → is_ident_part name ≡ true
part_of front name behind h =
    let t : Bytes = front ++ name ++ behind in
    let form = (and_parts (has_ident_form t) (not (is_escaped t)) (and_parts _ (not (bytes_eq t (codes "_"))) (and_parts _ (not (bytes_eq t (codes "Self"))) h).0).0).0 in
    let all = follows t form in
    let parts = and_parts (list_all may_follow (front ++ name)) (list_all may_follow behind) (sym (list_all-append may_follow (front ++ name) behind) ∙ all) in
    (and_parts (list_all may_follow front) (list_all may_follow name) (sym (list_all-append may_follow front name) ∙ parts.0)).1

-- quoted texts

pub return-quotable : (f : Function) → is_quotable f.name.wit ≡ true → is_quotable (post_return_name f) ≡ true
unfolding post_return_name
return-quotable f h = h
