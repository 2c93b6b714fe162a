-- Which type of the table, or else which function of a world, is the first that is too large to be built.
use Rattle.std.specs.Prelude.{◌≡◌, ℕ, ◌^◌, Bool, true, not, ◌||◌, nat_le, List, find, map, min, Option, None, Some, position, slice_get, zip}
use Rattle.std.specs.Option.{option_map, option_or}
use Rattle.wit_model.specs.declared.function.Function.{Function}
use Rattle.wit_model.specs.declared.types.TypeDef.{TypeDef}
use Rattle.wit_model.specs.declared.world.World.{World}
use Rattle.wit_layout.specs.declared.size_align.SizeAlign.{SizeAlign}
use Rattle.wit_layout.specs.Filled.{have_sizes}
use Rattle.wit_layout.specs.Sizes.{elem_size}
use Rattle.wit_layout.specs.Tree.{Tree, record_of, trees}
use Rattle.type_defs.specs.Levels.{is_shallow}
use Rattle.type_defs.specs.Nodes.{has_few_nodes, nodes}
use Rattle.gen_accept.specs.declared.error.TooLarge.{TooLarge}
use Rattle.gen_accept.specs.declared.error.TooLarge.TheVariants.{Func, Type_}
use Rattle.gen_accept.specs.Emitted.{emitted_functions}

-- what is stored has more than 2^31 - 1 bytes where pointers have 8
abbrev pub is_large : Tree → Bool
is_large stored = nat_le (2 ^ 31) (elem_size 3 stored)

-- a type, beside what it stores, has too many bytes, or more than a hundred levels
abbrev pub is_large_type : List TypeDef → Tree × TypeDef → Bool
is_large_type types entry = is_large entry.0 || not (is_shallow types entry.1)

-- the place of the first such type of the table
abbrev pub first_large_type : List TypeDef → Option ℕ
first_large_type types = position (is_large_type types) (zip (trees types) types)

-- the parameters of a function have too many bytes as one record, or its types unfold to more than 65,536 nodes
abbrev pub is_large_function : List TypeDef → Function → Bool
is_large_function types f = is_large (record_of types (map (λ p. p.ty) f.params)) || not (has_few_nodes (nodes types) f)

-- the first such function of the file
abbrev pub first_large_function : List TypeDef → World → Option Function
first_large_function types world = find (is_large_function types) (emitted_functions world)

abbrev pub large_type : ℕ → TooLarge
large_type place = Type_ (record { 0 = place })

-- a function that stands alone has its WIT name as its full name
abbrev pub large_function : Function → TooLarge
large_function f = Func f.name.wit

-- a type comes before a function
unfoldable pub first_large : List TypeDef → World → Option TooLarge
first_large types world = option_or (option_map large_type (first_large_type types)) (option_map large_function (first_large_function types world))

-- the earlier of two places, where there are two
abbrev pub earlier : ℕ → Option ℕ → ℕ
earlier place None = place
earlier place (Some other) = min place other

-- what is at hand for that: the sizes of the parameters of each of some functions
abbrev pub AreSized : SizeAlign → List Function → Type 0
AreSized sizes functions = (nth : ℕ) (f : Function) → slice_get functions nth ≡ Some f → have_sizes sizes (map (λ p. p.ty) f.params) ≡ true
