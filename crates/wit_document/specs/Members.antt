-- What do the items of a JSON array and the members of a JSON object give?
use Rattle.std.specs.Prelude.{ℕ, List, [], ◌∷◌, Bool, true, ◌&&◌, if◌then◌else◌, Option, Some, None, option_map, option_and_then, ⊤}
use Rattle.std.specs.List.{list_any}
use Rattle.std.specs.Str.{bytes_eq}
use Rattle.serde_json.specs.Data.{Data, null, Items, no_items, item, Members, no_members, member}
use Rattle.serde_json.specs.Find.{get, as_str, as_array, as_object}

infixl 10 ◌>>=◌
abbrev pub ◌>>=◌ : {A B : Type 0} → Option A → (A → Option B) → Option B
o >>= f = option_and_then f o

-- a text
unfoldable pub text_of : Data → Option (List ℕ)
text_of d = as_str d

-- each item, read as `read` says
abbrev pub items_of : {T : Type 0} → (Data → Option T) → Items → Option (List T)
items_of read no_items = Some []
items_of read (item d ds) = do
  first ← read d
  rest ← items_of read ds
  Some (first ∷ rest)

-- the items of an array
unfoldable pub all_of : {T : Type 0} → (Data → Option T) → Data → Option (List T)
all_of read d = option_and_then (items_of read) (as_array d)

abbrev pub keys_are_among : List (List ℕ) → Members → Bool
keys_are_among keys no_members = true
keys_are_among keys (member k d ms) = list_any (λ key. bytes_eq key k) keys && keys_are_among keys ms

-- an object that has no keys but these; where JSON text has a key twice, the later value is the one that it has
unfoldable pub only : List (List ℕ) → Data → Option ⊤
only keys d = do
  members ← as_object d
  if keys_are_among keys members then Some tt else None

-- the member at a key
unfoldable pub required : {T : Type 0} → (Data → Option T) → List ℕ → Data → Option T
required read key d = option_and_then read (get key d)

-- the members at two keys
unfoldable pub required_two : {A B : Type 0} → (Data → Option A) → (Data → Option B) → List ℕ → List ℕ → Data → Option (A × B)
required_two first second key other d = do
  a ← required first key d
  b ← required second other d
  Some (a, b)

-- a value, or nothing where it is null
abbrev pub unless_null : {T : Type 0} → (Data → Option T) → Data → Option (Option T)
unless_null read null = Some None
unless_null read d = option_map Some (read d)

abbrev if_present : {T : Type 0} → (Data → Option T) → Option Data → Option (Option T)
if_present read None = Some None
if_present read (Some d) = unless_null read d

-- the member at a key, or nothing where it is null or absent
unfoldable pub optional : {T : Type 0} → (Data → Option T) → List ℕ → Data → Option (Option T)
optional read key d = if_present read (get key d)

abbrev if_given : {T : Type 0} → (Data → Option T) → Option Data → Option (Option T)
if_given read None = Some None
if_given read (Some d) = option_map Some (read d)

-- the member at a key, which may be absent, but is read as any other where it is null
unfoldable pub given : {T : Type 0} → (Data → Option T) → List ℕ → Data → Option (Option T)
given read key d = if_given read (get key d)

abbrev pub none_of : {T : Type 0} → Items → Option (List T)
none_of no_items = Some []
none_of (item d ds) = None

-- the items of an array that has none
unfoldable pub empty_of : {T : Type 0} → Data → Option (List T)
empty_of d = option_and_then none_of (as_array d)

abbrev pub two_of : {A B : Type 0} → (Data → Option A) → (Data → Option B) → Items → Option (A × B)
two_of first second no_items = None
two_of first second (item d no_items) = None
two_of first second (item d (item e no_items)) = do
  a ← first d
  b ← second e
  Some (a, b)
two_of first second (item d (item e (item f ds))) = None

-- the items of an array that has two
unfoldable pub pair_of : {A B : Type 0} → (Data → Option A) → (Data → Option B) → Data → Option (A × B)
pair_of first second d = option_and_then (two_of first second) (as_array d)

abbrev pub sole : Members → Option (List ℕ × Data)
sole no_members = None
sole (member k d no_members) = Some (k, d)
sole (member k d (member l e ms)) = None

-- the key and the value of an object that has one member
unfoldable pub sole_member : Data → Option (List ℕ × Data)
sole_member d = option_and_then sole (as_object d)
