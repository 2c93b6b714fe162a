-- Steps by which a text is taken over and moved, and the address of an area is told.
use Rattle.std.proofs.Common.{◌≡◌, Bool, ℕ, zero, suc, ◌-◌, true, false, List, [], ◌∷◌, ◌++◌, Option, None, Some, refl, sym, ap, ◌∙◌}
use Rattle.std.specs.Prelude.{option_and_then}
use Rattle.std.specs.Option.{option_map}
use Rattle.rust_tree.specs.declared.expr.Expr.{Expr, Expr-F, fold-roll-Expr}
use Rattle.rust_tree.specs.declared.expr.Expr.TheVariants as expr
use Rattle.rust_tree.specs.declared.expr.Expr.TheVariants.{rolls-FromRawParts}
use Rattle.wrapper_data.specs.declared.block.Block.{Block}
use Rattle.wrapper_data.specs.declared.value.RustValue.TheVariants as value
use Rattle.wrapper_data.specs.declared.word.Word.TheVariants as word
use Rattle.wrapper_values.specs.declared.state.Local.{Local}
use Rattle.wrapper_values.specs.declared.state.State.{State}
use Rattle.wrapper_values.specs.declared.state.Val.{Val}
use Rattle.wrapper_values.specs.declared.state.Val.TheVariants as val
use Rattle.wrapper_values.specs.Act.{Act, Done, ◌>>=◌, and_then, or_stop}
use Rattle.wrapper_run.specs.Blocks.{take_over}
use Rattle.wrapper_values.specs.Locals.{local_named, moved, usable, use_local, used, value_of}
use Rattle.wit_model.specs.Bytes.{Bytes}
use Rattle.wrapper_values.specs.Owning.{owned}
use Rattle.wrapper_run.specs.Run.{eval, eval_step, take_bytes}
use Rattle.wrapper_values.specs.Setting.{Setting, stuck}
use Rattle.wrapper_run.proofs.LocalLemmas.{bytes_eq-same, reads-new, reads_front}
use Rattle.wrapper_values.proofs.ChangedLemmas.{changed_front, changed_last}
use Rattle.std.specs.List.{list_any}
use Rattle.std.specs.Str.{bytes_eq}
use Rattle.wrapper_run.proofs.OwningLemmas.{owned-block, owned-empty}
use Rattle.wrapper_run.proofs.StepLemmas.{eval-local}
use Rattle.std.proofs.Common.{rules}
use Rattle.rust_tree.specs.declared.type_expr.TypeExpr.{TypeExpr-F, out-TypeExpr, the_lemmas as type_lemmas}
use Rattle.rust_tree.specs.declared.type_expr.TypeExpr.TheVariants as type
use Rattle.wrapper_data.specs.declared.value.RustValue.{RustValue-F, out-RustValue, the_lemmas as value_lemmas}
use Rattle.rust_tree.specs.declared.expr.Expr.{the_lemmas}
use Rattle.wrapper_values.specs.declared.owning.View.TheVariants as view_of
use Rattle.wrapper_run.specs.Blocks.{drop_locals, free, free_found, keep_locals, leave_to, owned_block, without_block}
use Rattle.wrapper_values.specs.Effect.{answer_as, answer_of, text_of_level}
use Rattle.wrapper_values.specs.Locals.{ask_local}
use Rattle.wrapper_values.specs.Owning.{owned_in}
use Rattle.wrapper_run.proofs.OwningLemmas.{ArePlain, drops_one}
use Rattle.wrapper_run.proofs.StepLemmas.{ask_gives}

-- take-over

eval-raw : (w : Setting) (e : Expr) (size : Bytes) → eval w (expr.FromRawParts e size) ≡ (eval w e >>= (λ v. λ s. take_bytes w (value_of (local_named size s.locals)) v s))
eval-raw w e size = ap (eval w) (sym (rolls-FromRawParts e size)) ∙ fold-roll-Expr (Act Val) (eval_step w) (Expr-F.FromRawParts e size)

pub raw_gives : (w : Setting) (e : Expr) (name : Bytes) (p n : ℕ) (s : State)
    → eval w e s ≡ Done (val.Word (word.Pointer p)) s → value_of (local_named name s.locals) ≡ Some (val.Word (word.Length n)) → eval w (expr.FromRawParts e name) s ≡ take_over w p n s
raw_gives w e name p n s h k =
    ap (λ act. act s) (eval-raw w e name) ∙ ap (λ o. and_then o (λ v. λ s. take_bytes w (value_of (local_named name s.locals)) v s)) h ∙ ap (λ o. take_bytes w o (val.Word (word.Pointer p)) s) k

-- the use of a text: one that owns a block is moved out of its local

abbrev pub text_local : Bytes → ℕ → ℕ → Local
text_local name p n = record { name = name; value = Some (val.Value (value.Buffer p n true)) }

abbrev pub after_use : ℕ → Bytes → List Local → List Local
after_use zero name locals = locals
after_use (suc n) name locals = moved name locals

-- what the local is afterwards

abbrev pub used_up : ℕ → ℕ → Option Val
used_up p zero = Some (val.Value (value.Buffer p 0 true))
used_up p (suc n) = None

abbrev pub used_local : Bytes → ℕ → ℕ → Local
used_local name p n = record { name = name; value = used_up p n }

pub uses_text : (w : Setting) (name : Bytes) (p n : ℕ) (s : State) → value_of (local_named name s.locals) ≡ Some (val.Value (value.Buffer p n true))
    → use_local (stuck w) name s ≡ Done (val.Value (value.Buffer p n true)) (record s { locals = after_use n name s.locals })
unfolding use_local
uses_text w name p zero s h =
    ap (λ o. and_then (or_stop (stuck w) (option_and_then usable o) s) (λ v. used name v (owned v))) h ∙ ap (λ o. used name (val.Value (value.Buffer p 0 true)) o s) (owned-empty p true)
uses_text w name p (suc n) s h =
    ap (λ o. and_then (or_stop (stuck w) (option_and_then usable o) s) (λ v. used name v (owned v))) h ∙ ap (λ o. used name (val.Value (value.Buffer p (suc n) true)) o s) (owned-block p n)

pub use_last : (name : Bytes) (p n : ℕ) (locals : List Local) → after_use n name (locals ++ text_local name p n ∷ []) ≡ locals ++ used_local name p n ∷ []
use_last name p zero locals = refl
use_last name p (suc n) locals = changed_last None name locals (text_local name p (suc n)) (bytes_eq-same name)

-- locals of other names behind it stay
pub use_front : (name : Bytes) (n : ℕ) (front behind : List Local) → list_any (λ l. bytes_eq l.name name) behind ≡ false → after_use n name (front ++ behind) ≡ after_use n name front ++ behind
use_front name zero front behind e = refl
use_front name (suc n) front behind e = changed_front None name front behind e

-- the value of its local, wherever it stands
pub text_gives : (w : Setting) (name : Bytes) (p n : ℕ) (front behind : List Local) (s : State) → s.locals ≡ (front ++ text_local name p n ∷ []) ++ behind → list_any (λ l. bytes_eq l.name name) behind ≡ false
    → eval w (expr.Local name) s ≡ Done (val.Value (value.Buffer p n true)) (record s { locals = (front ++ used_local name p n ∷ []) ++ behind })
text_gives w name p n front behind s e apart =
    let v : Val = val.Value (value.Buffer p n true) in
    ap (λ act. act s) (eval-local w name)
    ∙ uses_text w name p n s (ap (λ ls. value_of (local_named name ls)) e ∙ ap value_of (reads_front name (front ++ text_local name p n ∷ []) behind apart) ∙ reads-new name (Some v) front)
    ∙ ap (λ ls. Done v (record s { locals = ls })) (ap (after_use n name) e ∙ use_front name n (front ++ text_local name p n ∷ []) behind apart ∙ ap (λ ls. ls ++ behind) (use_last name p n front))

-- the address of an area

pub eval-return_pointer : (w : Setting) (name : Bytes) → eval w (expr.ReturnPointer name) ≡ ask_local (stuck w) view_of.AreaAddress name
eval-return_pointer w name = search (rules, the_lemmas)

pub area_gives : (w : Setting) (name : Bytes) (a n : ℕ) (s : State) → value_of (local_named name s.locals) ≡ Some (val.Area a n) → eval w (expr.ReturnPointer name) s ≡ Done (val.Word (word.Pointer a)) s
area_gives w name a n s h = ap (λ act. act s) (eval-return_pointer w name) ∙ ask_gives (stuck w) view_of.AreaAddress name (val.Area a n) (word.Pointer a) s h refl

-- a text is what a function of that type answers

-- an empty text is taken for one that owns its bytes, whatever its flag says
pub answered-empty : (p : ℕ) (owns : Bool) → answer_of type.String (val.Value (value.Buffer p 0 owns)) ≡ Some (Some (value.Buffer p 0 true))
unfolding answer_of
answered-empty p owns =
    let opened : out-TypeExpr type.String ≡ TypeExpr-F.String = search (rules, type_lemmas) in
    let shown : out-RustValue (value.Buffer p 0 owns) ≡ RustValue-F.Buffer p 0 owns = search (rules, value_lemmas) in
    ap (λ t. answer_as t (val.Value (value.Buffer p 0 owns))) opened ∙ ap (λ v. option_map Some (text_of_level v)) shown ∙ either owns
  where
    either : (b : Bool) → option_map Some (text_of_level (RustValue-F.Buffer p 0 b)) ≡ Some (Some (value.Buffer p 0 true))
    either true = refl
    either false = refl

pub answered-text : (p n : ℕ) → answer_of type.String (val.Value (value.Buffer p n true)) ≡ Some (Some (value.Buffer p n true))
unfolding answer_of
answered-text p n =
    let opened : out-TypeExpr type.String ≡ TypeExpr-F.String = search (rules, type_lemmas) in
    let shown : out-RustValue (value.Buffer p n true) ≡ RustValue-F.Buffer p n true = search (rules, value_lemmas) in
    ap (λ t. answer_as t (val.Value (value.Buffer p n true))) opened ∙ ap (λ v. option_map Some (text_of_level v)) shown

-- the end of a scope in which one local owns a block

pub frees_one : (w : Setting) (address : ℕ) (b : Block) (s : State) → owned_block address s ≡ Some b → free w address s ≡ Done tt (without_block (address, b.size) s)
unfolding free
frees_one w address b s h = ap (λ o. free_found w address o s) h

pub leaves_one : (w : Setting) (front : List Local) (l : Local) (more : List Local) (address : ℕ) (b : Block) (s : State) → s.locals ≡ (front ++ l ∷ []) ++ more → ArePlain front → owned_in l.value ≡ address ∷ [] → ArePlain more
    → owned_block address (record s { locals = [] }) ≡ Some b → leave_to w 0 s ≡ Done tt (without_block (address, b.size) (record s { locals = [] }))
unfolding leave_to
leaves_one w front l more address b s e p o q h =
    ap (λ ls. and_then (drop_locals w ls (record s { locals = [] })) (λ _. keep_locals [])) e
    ∙ ap (λ o. and_then o (λ _. keep_locals []))
    (drops_one w front l more address (record s { locals = [] }) p o q ∙ ap (λ o. and_then o (λ _ t. Done tt t)) (frees_one w address b (record s { locals = [] }) h))
