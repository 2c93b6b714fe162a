-- Looking into the data of a JSON value, whose objects are lists of members in the order of the text.
use Rattle.std.proofs.Common.{◌≡◌, ℕ, List, Bool, true, false, cond, Option, Some, None, option_map, bytes_eq, Bor, Vec, Global, true≢false, refl, sym, ap, ◌∙◌}
use Rattle.std.proofs.lemmas.Slice.Eq.{bytes_eq-Decides}
use Rattle.json.specs.Json as json
use Rattle.json.specs.Find as json_find
use Rattle.json.specs.Value.{value_view}
use Rattle.json.proofs.Trees.{view-Array, view-Object}
use Rattle.json.specs.declared.value.Value.{Value, Array, Object}
use Rattle.serde_json.specs.Data.{Data, array, object, Members, no_members, put}
use Rattle.serde_json.specs.Find.{get, get_member}
use Rattle.serde_json.proofs.Views.{get_member-put, get_member-put_other}
use Rattle.wit_document.specs.View.{data_of, members_data, view, items_view, members_view}

pub view-array : (v : Vec (Value Global) Global) → view (Array v) ≡ array (items_view v.items)
view-array v = ap data_of (view-Array v)

pub view-object : (v : Vec (Bor (List ℕ) × Value Global) Global) → view (Object v) ≡ object (members_view v.items)
view-object v = ap data_of (view-Object v)

-- ---- the member at a key

abbrev later : Option Data → Option Data → Option Data
later None earlier = earlier
later (Some d) earlier = Some d

put_here : (k l : List ℕ) (b : Bool) (d : Data) (found : Members) → bytes_eq l k ≡ b → get_member k (put l d found) ≡ cond b (Some d) (get_member k found)
put_here k l true d found e = let same : l ≡ k = (bytes_eq-Decides l k).0 e in rw (← same) (get_member-put l d found)
put_here k l false d found e = get_member-put_other k l d found (λ h. true≢false (sym ((bytes_eq-Decides l k).1 (sym h)) ∙ e))

last_one : (o : Option json.Json) (b : Bool) (j : json.Json) (found : Option Data)
    → later (option_map data_of o) (cond b (Some (data_of j)) found) ≡ later (option_map data_of (json_find.later_or o (cond b (Some j) None))) found
last_one None true j found = refl
last_one None false j found = refl
last_one (Some i) b j found = refl

get_member-data : (k : List ℕ) (ms : json.Members) (found : Members) → get_member k (members_data ms found) ≡ later (option_map data_of (json_find.get_member k ms)) (get_member k found)
get_member-data k json.no_members found = refl
get_member-data k (json.member l j ms) found =
    get_member-data k ms (put l (data_of j) found) ∙ ap (later (option_map data_of (json_find.get_member k ms))) (put_here k l (bytes_eq l k) (data_of j) found refl)
    ∙ last_one (json_find.get_member k ms) (bytes_eq l k) j (get_member k found)

or_none : (o : Option Data) → later o None ≡ o
or_none None = refl
or_none (Some d) = refl

pub get-data : (k : List ℕ) (j : json.Json) → get k (data_of j) ≡ option_map data_of (json_find.get k j)
get-data k json.null = refl
get-data k (json.boolean b) = refl
get-data k (json.number s) = refl
get-data k (json.string s) = refl
get-data k (json.array js) = refl
get-data k (json.object ms) = get_member-data k ms no_members ∙ or_none _

pub seen : (o : Option (Bor (Value Global))) → option_map (λ v. view v.now) o ≡ option_map data_of (option_map (λ v. value_view v.now) o)
seen None = refl
seen (Some v) = refl
