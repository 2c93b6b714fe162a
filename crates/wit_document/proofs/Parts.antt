-- What an array's items are, by how many there are.
use Rattle.std.proofs.Common.{◌≡◌, ◌≢◌, List, [], ◌∷◌, length, Option, Some, None, Global, refl, arith}
use Rattle.serde_json.specs.Data.{Data}
use Rattle.serde_json.specs.Find.{as_array}
use Rattle.json.specs.declared.value.Value.{Value}
use Rattle.wit_document.specs.Members.{none_of, empty_of, two_of, pair_of}
use Rattle.wit_document.specs.View.{items_view}

none_of_empty : {T : Type 0} (vs : List (Value Global)) → length vs ≡ 0 → none_of {T = T} (items_view vs) ≡ Some []
none_of_empty [] n = refl
none_of_empty (v ∷ vs) n = absurd (omega arith)

none_of_some : {T : Type 0} (vs : List (Value Global)) → length vs ≢ 0 → none_of {T = T} (items_view vs) ≡ None
none_of_some [] n = absurd (n refl)
none_of_some (v ∷ vs) n = refl

pub empty_of-empty : {T : Type 0} (d : Data) (vs : List (Value Global)) → as_array d ≡ Some (items_view vs) → length vs ≡ 0 → empty_of {T = T} d ≡ Some []
unfolding empty_of
empty_of-empty d vs o n = rw o (none_of_empty vs n)

pub empty_of-some : {T : Type 0} (d : Data) (vs : List (Value Global)) → as_array d ≡ Some (items_view vs) → length vs ≢ 0 → empty_of {T = T} d ≡ None
unfolding empty_of
empty_of-some d vs o n = rw o (none_of_some vs n)

two_of-none : {A B : Type 0} (first : Data → Option A) (second : Data → Option B) (vs : List (Value Global)) → length vs ≢ 2 → two_of first second (items_view vs) ≡ None
two_of-none first second [] n = refl
two_of-none first second (v ∷ []) n = refl
two_of-none first second (v ∷ w ∷ []) n = absurd (n refl)
two_of-none first second (v ∷ w ∷ x ∷ vs) n = refl

pub pair_of-none : {A B : Type 0} (first : Data → Option A) (second : Data → Option B) (d : Data) (vs : List (Value Global)) → as_array d ≡ Some (items_view vs) → length vs ≢ 2 → pair_of first second d ≡ None
unfolding pair_of
pair_of-none first second d vs o n = rw o (two_of-none first second vs n)
