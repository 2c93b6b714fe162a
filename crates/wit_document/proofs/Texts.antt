-- The document of a text, by whether the text is UTF-8 and is read as JSON.
use Rattle.std.proofs.Common.{◌≡◌, ℕ, List, Bool, true, false, cond, Option, Some, None, Err, option_and_then, refl}
use Rattle.std.specs.Str.{IsUtf8, is_utf8}
use Rattle.std.proofs.lemmas.Str.{IsUtf8-from_is_utf8, is_utf8-from_IsUtf8}
use Rattle.serde_json.specs.Data.{Data}
use Rattle.serde_json.specs.Read.{read}
use Rattle.wit_document.specs.declared.fault.DocumentFault.{DocumentFault}
use Rattle.wit_document.specs.declared.fault.DocumentFault.TheVariants.{BadJson, OutOfMemory}
use Rattle.wit_document.specs.Document.{document, document_in}
use Rattle.wit_document.specs.Reads.{Reads}

pub document_in-read : (bytes : List ℕ) (d : Data) → IsUtf8 bytes → read bytes ≡ Some d → document_in bytes ≡ document d
unfolding document_in
document_in-read bytes d u r = rw (is_utf8-from_IsUtf8 bytes u, r)

-- a fault where the text is no value
pub faulty : {T : Type 0} (fault : DocumentFault) (o : Option T) → (fault ≡ BadJson → o ≡ None) → Reads {T = T} (Err fault) o
faulty BadJson o h = h refl
faulty OutOfMemory o h = tt

none_at : (b : Bool) (o : Option Data) → (b ≡ true → o ≡ None) → cond b (option_and_then document o) None ≡ None
none_at true o h = rw (h refl)
none_at false o h = refl

pub document_in-none : (bytes : List ℕ) → (IsUtf8 bytes → read bytes ≡ None) → document_in bytes ≡ None
unfolding document_in
document_in-none bytes h = none_at (is_utf8 bytes) (read bytes) (λ e. h (IsUtf8-from_is_utf8 bytes e))
