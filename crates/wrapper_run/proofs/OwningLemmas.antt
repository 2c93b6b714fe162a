-- What values own, and what the end of a scope does to locals.
use Rattle.std.proofs.Common.{◌≡◌, ℕ, ℤ, zero, suc, Bool, true, false, List, [], ◌∷◌, ◌++◌, None, Some, refl, ap, ◌∙◌, rules}
use Rattle.wit_model.specs.declared.types.WitType.{WitType}
use Rattle.wrapper_data.specs.declared.value.RustValue.{RustValue-F, out-RustValue, the_lemmas}
use Rattle.wrapper_data.specs.declared.value.RustValue.TheVariants as value
use Rattle.wrapper_values.specs.declared.state.Local.{Local}
use Rattle.wrapper_values.specs.declared.state.State.{State}
use Rattle.wrapper_values.specs.declared.state.Val.TheVariants as val
use Rattle.wrapper_values.specs.Act.{Outcome, Done, Stopped, and_then, pure}
use Rattle.wrapper_run.specs.Blocks.{drop_local, drop_locals, free, free_all}
use Rattle.wrapper_values.specs.Owning.{buffer_of, buffer_of_level, owned, owned_in, owned_level}
use Rattle.wrapper_values.specs.Setting.{Setting}
use Rattle.wrapper_run.specs.OuterLocals.{OwnNothing}
use Rattle.wrapper_data.proofs.Opened.{out-buffer}

-- a scalar and `()` own nothing

pub owned-bool : (b : Bool) → owned (val.Value (value.Bool b)) ≡ []
owned-bool b = search (rules, the_lemmas)

pub owned-number : (ty : WitType) (z : ℤ) → owned (val.Value (value.Num ty z)) ≡ []
owned-number ty z = search (rules, the_lemmas)

pub owned-f32 : (bits : ℕ) → owned (val.Value (value.F32 bits)) ≡ []
owned-f32 bits = search (rules, the_lemmas)

pub owned-f64 : (bits : ℕ) → owned (val.Value (value.F64 bits)) ≡ []
owned-f64 bits = search (rules, the_lemmas)

pub owned-char : (c : ℕ) → owned (val.Value (value.Char c)) ≡ []
owned-char c = search (rules, the_lemmas)

pub owned-unit : owned (val.Value value.Unit) ≡ []
owned-unit = search (rules, the_lemmas)

-- nor do flags, and a case without payload

pub owned-bits : (bits : ℕ) → owned (val.Value (value.Bits bits)) ≡ []
owned-bits bits = search (rules, the_lemmas)

pub owned-case : (n : ℕ) → owned (val.Value (value.Case n None)) ≡ []
owned-case n = search (rules, the_lemmas)

pub owned-case-unit : (n : ℕ) → owned (val.Value (value.Case n (Some value.Unit))) ≡ []
owned-case-unit n = search (rules, the_lemmas)

-- a number is no text

pub no_buffer-number : (ty : WitType) (z : ℤ) → buffer_of (val.Value (value.Num ty z)) ≡ None
no_buffer-number ty z = let opened : out-RustValue (value.Num ty z) ≡ RustValue-F.Num ty z = search (rules, the_lemmas) in ap buffer_of_level opened

pub no_buffer-f32 : (bits : ℕ) → buffer_of (val.Value (value.F32 bits)) ≡ None
no_buffer-f32 bits = let opened : out-RustValue (value.F32 bits) ≡ RustValue-F.F32 bits = search (rules, the_lemmas) in ap buffer_of_level opened

pub no_buffer-f64 : (bits : ℕ) → buffer_of (val.Value (value.F64 bits)) ≡ None
no_buffer-f64 bits = let opened : out-RustValue (value.F64 bits) ≡ RustValue-F.F64 bits = search (rules, the_lemmas) in ap buffer_of_level opened

-- a text

pub buffer-text : (p n : ℕ) (o : Bool) → buffer_of (val.Value (value.Buffer p n o)) ≡ Some (p, n, o)
buffer-text p n o = ap buffer_of_level (out-buffer p n o)

owned-buffer : (p n : ℕ) (o : Bool) → owned (val.Value (value.Buffer p n o)) ≡ owned_level (RustValue-F.Buffer p n o)
owned-buffer p n o = search (rules, the_lemmas)

pub owned-block : (p n : ℕ) → owned (val.Value (value.Buffer p (suc n) true)) ≡ p ∷ []
owned-block p n = owned-buffer p (suc n) true

pub owned-empty : (p : ℕ) (o : Bool) → owned (val.Value (value.Buffer p 0 o)) ≡ []
owned-empty p true = owned-buffer p 0 true
owned-empty p false = owned-buffer p 0 false

pub owned-lent : (p n : ℕ) → owned (val.Value (value.Buffer p n false)) ≡ []
owned-lent p zero = owned-empty p false
owned-lent p (suc n) = owned-buffer p (suc n) false

-- locals that own nothing

abbrev pub ArePlain : List Local → Type 0
ArePlain locals = OwnNothing locals

pub drops_plain : (w : Setting) (locals : List Local) (s : State) → ArePlain locals → drop_locals w locals s ≡ Done tt s
drops_plain w [] s p = refl
drops_plain w (l ∷ locals) s p = ap (λ o. and_then o (λ _. drop_local w l.value)) (drops_plain w locals s p.1) ∙ ap (λ o. free_all w o s) p.0

pub drops-append : (w : Setting) (xs ys : List Local) (s : State) → drop_locals w (xs ++ ys) s ≡ and_then (drop_locals w ys s) (λ _. drop_locals w xs)
drops-append w [] ys s = go (drop_locals w ys s)
  where
    go : (o : Outcome (Unit {0})) → o ≡ and_then o (λ _. pure tt)
    go (Done tt t) = refl
    go (Stopped e t) = refl
drops-append w (l ∷ xs) ys s = ap (λ o. and_then o (λ _. drop_local w l.value)) (drops-append w xs ys s) ∙ go (drop_locals w ys s)
  where
    go : (o : Outcome (Unit {0})) → and_then (and_then o (λ _. drop_locals w xs)) (λ _. drop_local w l.value) ≡ and_then o (λ _. drop_locals w (l ∷ xs))
    go (Done u t) = refl
    go (Stopped e t) = refl

-- one local owns a block, and none in front of it or behind it owns any
pub drops_one : (w : Setting) (front : List Local) (l : Local) (more : List Local) (b : ℕ) (s : State) → ArePlain front → owned_in l.value ≡ b ∷ [] → ArePlain more
    → drop_locals w ((front ++ l ∷ []) ++ more) s ≡ and_then (free w b s) (λ _ t. Done tt t)
drops_one w front l more b s p o q =
    drops-append w (front ++ l ∷ []) more s ∙ ap (λ o. and_then o (λ _. drop_locals w (front ++ l ∷ []))) (drops_plain w more s q)
    ∙ drops-append w front (l ∷ []) s ∙ ap (λ o. and_then (free_all w o s) (λ _. drop_locals w front)) o ∙ go (free w b s)
  where
    go : (o : Outcome (Unit {0})) → and_then (and_then o (λ _. free_all w [])) (λ _. drop_locals w front) ≡ and_then o (λ _ t. Done tt t)
    go (Done u t) = drops_plain w front t p
    go (Stopped e t) = refl
