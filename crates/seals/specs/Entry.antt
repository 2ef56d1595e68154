-- The entry of a cache as a text, and what bytes mean as one. All numbers are big-endian.
use Rattle.std.specs.Prelude.{◌≡◌, ◌<◌, ◌^◌, ℕ, ◌==◌, Bool, true, false, List, [], ◌∷◌, ◌++◌, Option, Some, None, if◌then◌else◌}
use Rattle.std.specs.Int.{w16, to_be_bytes}
use Rattle.tree_keys.specs.Path.{IsIn}
use Rattle.lamport_clocks.specs.declared.header.Header.{Header}
use Rattle.record_text.specs.declared.value.Value.{Value}
use Rattle.record_text.specs.Value.{IsOf}
use Rattle.record_text.specs.Tree.{wide_of}
use Rattle.record_text.specs.Longest.{longest_of}
use Rattle.record_text.specs.Fields.{Parsed}
use Rattle.record_text.specs.Reading.{byte_at, u16_at, path_at, value_at}
use Rattle.record_text.specs.Texts.{path_text, value_text}
use Rattle.verifier_cache.specs.declared.entry.Hold.{Hold}
use Rattle.verifier_cache.specs.declared.entry.Hold.TheVariants.{Root, M, B}
use Rattle.verifier_cache.specs.declared.listed.ListedEntry.{ListedEntry}
use Rattle.verifier_cache.specs.Entry.{kid_of}
use Rattle.seals.specs.Combined.{then_at, pick_at}

-- 0 for the root, 1 where it came in by its digest, 2 by a stamp
abbrev pub hold_byte : Hold → ℕ
hold_byte Root = 0
hold_byte M = 1
hold_byte B = 2

abbrev pub hold_in : ℕ → Option Hold
hold_in byte = if byte == 0 then Some Root else if byte == 1 then Some M else if byte == 2 then Some B else None

-- 1 for the kid bit of side 0, and 2 for that of side 1
abbrev pub kid_byte : Bool → Bool → ℕ
kid_byte false false = 0
kid_byte true false = 1
kid_byte false true = 2
kid_byte true true = 3

abbrev pub kids_in : ℕ → Option (List Bool)
kids_in byte =
    if byte == 0 then Some (false ∷ false ∷ [])
    else if byte == 1 then Some (true ∷ false ∷ [])
    else if byte == 2 then Some (false ∷ true ∷ [])
    else if byte == 3 then Some (true ∷ true ∷ [])
    else None

-- the fields of an entry: its slot, path and value, how it came in, and its kid bits
abbrev pub EntryFields : Type 0
EntryFields = ℕ × (List Bool × (Value × (ℕ × ℕ)))

abbrev pub entry_with : ℕ → List Bool → Value → Option Hold → Option (List Bool) → Option ListedEntry
entry_with slot path value None kids = None
entry_with slot path value (Some hold) None = None
entry_with slot path value (Some hold) (Some kids) = Some (record { slot = slot; entry = record { path = path; value = value; hold = hold; kids = kids } })

abbrev pub entry_of_fields : EntryFields → Option ListedEntry
entry_of_fields f = entry_with f.0 f.1.0 f.1.1.0 (hold_in f.1.1.1.0) (kids_in f.1.1.1.1)

abbrev pub fields_of_entry : ListedEntry → EntryFields
fields_of_entry one = (one.slot, (one.entry.path, (one.entry.value, (hold_byte one.entry.hold, kid_byte (kid_of one.entry false) (kid_of one.entry true)))))

abbrev pub entry_fields_at : Header → List ℕ → Parsed EntryFields
entry_fields_at header bytes =
    then_at u16_at (λ slot. then_at (path_at (wide_of header)) (λ path. then_at (value_at (longest_of header) path) (λ value. then_at byte_at (λ hold. byte_at)))) bytes

-- what bytes mean as an entry
unfoldable pub entry_at : Header → List ℕ → Parsed ListedEntry
entry_at header bytes = pick_at entry_of_fields (entry_fields_at header) bytes

abbrev pub entry_text : ListedEntry → List ℕ
entry_text one =
    to_be_bytes w16 one.slot
    ++ (path_text one.entry.path
    ++ (value_text one.entry.value
    ++ ((hold_byte one.entry.hold ∷ [])
    ++ (kid_byte (kid_of one.entry false) (kid_of one.entry true) ∷ []))))

-- which entries have a text: the path is of the header's tree and the value of the path's kind
pub record IsGoodEntry (header : Header) (one : ListedEntry) : Type 0 where
  pub slot : one.slot < 2 ^ 16
  pub tree : IsIn (wide_of header) one.entry.path
  pub kind : IsOf (longest_of header) one.entry.path one.entry.value
  pub kids : one.entry.kids ≡ kid_of one.entry false ∷ kid_of one.entry true ∷ []
