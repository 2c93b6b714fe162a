-- Meanings that say too little, and that the laws refuse: one in which no item stands for a value, one in which nothing can be lent, and those in
-- which two functions go to one target.
use Rattle.std.proofs.Common.{◌≡◌, List, [], ap, ◌∙◌, refl, sym, true}
use Rattle.wit_model.specs.Bytes.{Bytes}
use Rattle.wit_model.specs.declared.function.Function.{Function}
use Rattle.wit_layout.specs.Tree.{Scalar}
use Rattle.wrapper_data.specs.declared.block.Block.{Block}
use Rattle.wrapper_data.specs.declared.run.Target.{Target}
use Rattle.wrapper_data.specs.declared.run.Target.TheVariants as target
use Rattle.wrapper_data.specs.declared.value.RustValue.TheVariants as value
use Rattle.wrapper_meaning.specs.Direction.{lend, take}
use Rattle.wrapper_meaning.specs.Shape.{Shape}
use Rattle.wrapper_meaning.specs.Shape.Shape.{scalar}
use Rattle.wrapper_meaning.specs.Value.{Value}
use Rattle.abi_bindgen.specs.Laws.{Sound}
use Rattle.abi_bindgen.specs.Meaning.{Meaning}

module _ {Self Operand : Type 0} (m : Meaning Self Operand) where
  pub no_values : ((t : Shape) (v : Value t) (a : m.Item) (own : List Block) → m.stands take t v a own → ⊥) → Sound m → ⊥
  no_values none sound =
      let (a, stands) = sound.inhabited (scalar Scalar.bool) true (value.Bool true) [] (refl, refl) in
      none (scalar Scalar.bool) true a [] stands

  pub nothing_lent : ((heap : List Block) (t : Shape) (v : Value t) (a : m.Item) (own : List Block) → m.stands (lend heap) t v a own → ⊥) → Sound m → ⊥
  nothing_lent none sound =
      let (a, stands) = sound.inhabited (scalar Scalar.bool) true (value.Bool true) [] (refl, refl) in
      let (c, lent) = sound.lends [] (scalar Scalar.bool) true a [] refl tt stands in
      none [] (scalar Scalar.bool) true c [] lent

  abbrev name_in : Target → Bytes
  name_in (target.Core home name) = name
  name_in (target.Method home name) = name

  -- an import is called by its own name
  pub one_import : (b : Self) (f g : Function) → m.imports b ≡ true → m.target b f ≡ m.target b g → (f.name.wit ≡ g.name.wit → ⊥) → Sound m → ⊥
  one_import b f g imports one apart sound =
      let (home, is) = sound.core b imports in
      apart (ap name_in (sym (is f) ∙ one ∙ is g))

  -- and a method never by the name of a core import
  pub no_method : (b : Self) (f : Function) (home name : Bytes) → m.exports b ≡ true → m.target b f ≡ target.Core home name → Sound m → ⊥
  no_method b f home name exports core sound =
      let (trait, named, is) = sound.method b exports in
      absurd (let wrong : target.Core home name ≡ target.Method trait (named f.name) = sym core ∙ is f in cc)
