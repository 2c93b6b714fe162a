-- What a text's value is, by whether its numbers are in range.
use Rattle.std.proofs.Common.{◌≡◌, ◌≢◌, ℕ, List, [], ◌∷◌, Bool, true, false, cond, ◌&&◌, Option, Some, None, option_map, option_and_then, is_some, unwrap_or, pos, refl}
use Rattle.json.specs.Json as json
use Rattle.json.specs.Json.{if_last, value}
use Rattle.json.specs.Token.{Token}
use Rattle.json.specs.Lex.{tokens}
use Rattle.serde_json.specs.Data.{Num, negative, number, array, object, item, Members, no_members, put}
use Rattle.serde_json.specs.Read.{number_of, of_json, of_items, of_members, max_depth, read}
use Rattle.wit_document.specs.View.{data_of, items_data, members_data, is_in_range, items_are_in_range, members_are_in_range}

number_at : (o : Option Num) → option_map number o ≡ cond (is_some o) (Some (number (unwrap_or o (negative (pos 0))))) None
number_at None = refl
number_at (Some n) = refl

under : {A B : Type 0} (f : A → B) (b : Bool) (a : A) → option_map f (cond b (Some a) None) ≡ cond b (Some (f a)) None
under f true a = refl
under f false a = refl

both : {A B C : Type 0} (f : A → B → C) (a b : Bool) (x : A) (y : B) → option_and_then (λ d. option_map (f d) (cond b (Some y) None)) (cond a (Some x) None) ≡ cond (a && b) (Some (f x y)) None
both f true b x y = under (f x) b y
both f false b x y = refl

after : {A C : Type 0} (f : A → Option C) (a b : Bool) (x : A) (y : C) → f x ≡ cond b (Some y) None → option_and_then f (cond a (Some x) None) ≡ cond (a && b) (Some y) None
after f true b x y e = e
after f false b x y e = refl

mutual
  of_json_at : (j : json.Json) → of_json j ≡ cond (is_in_range j) (Some (data_of j)) None
  of_json_at json.null = refl
  of_json_at (json.boolean b) = refl
  of_json_at (json.number s) = number_at (number_of s)
  of_json_at (json.string s) = refl
  of_json_at (json.array js) = rw (of_items_at js) (under array (items_are_in_range js) (items_data js))
  of_json_at (json.object ms) = rw (of_members_at ms no_members) (under object (members_are_in_range ms) (members_data ms no_members))

  of_items_at : (js : json.Items) → of_items js ≡ cond (items_are_in_range js) (Some (items_data js)) None
  of_items_at json.no_items = refl
  of_items_at (json.item j js) = rw (of_json_at j, of_items_at js) (both item (is_in_range j) (items_are_in_range js) (data_of j) (items_data js))

  of_members_at : (ms : json.Members) (found : Members) → of_members ms found ≡ cond (members_are_in_range ms) (Some (members_data ms found)) None
  of_members_at json.no_members found = refl
  of_members_at (json.member k j ms) found =
      rw (of_json_at j) (after (λ d. of_members ms (put k d found)) (is_in_range j) (members_are_in_range ms) (data_of j) _ (of_members_at ms (put k (data_of j) found)))

pub read-in_range : (text : List ℕ) (j : json.Json) → value max_depth (tokens text) ≡ Some (j, []) → is_in_range j ≡ true → read text ≡ Some (data_of j)
read-in_range text j e h = rw (e, of_json_at j, h) refl

pub read-out_of_range : (text : List ℕ) (j : json.Json) → value max_depth (tokens text) ≡ Some (j, []) → is_in_range j ≡ false → read text ≡ None
read-out_of_range text j e h = rw (e, of_json_at j, h) refl

not_last : (j : json.Json) (ts : List Token) → ts ≢ [] → if_last j ts ≡ None
not_last j [] more = absurd (more refl)
not_last j (t ∷ ts) more = refl

pub read-more : (text : List ℕ) (j : json.Json) (ts : List Token) → value max_depth (tokens text) ≡ Some (j, ts) → ts ≢ [] → read text ≡ None
read-more text j ts e more = rw (e, not_last j ts more) refl

pub read-refused : (text : List ℕ) → value max_depth (tokens text) ≡ None → read text ≡ None
read-refused text e = rw e refl
