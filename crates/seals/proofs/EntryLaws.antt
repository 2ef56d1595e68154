-- Entries are read as they are spelled.
use Rattle.std.proofs.Common.{◌≡◌, ℕ, ◌^◌, ◌<◌, Bool, true, false, cond, eqb, List, [], ◌∷◌, ◌++◌, Option, Some, None, refl, sym, ap, subst, ◌∙◌, ◌⊎◌, inl, inr, arith}
use Rattle.std.specs.Prelude.{slice_index_or}
use Rattle.std.specs.Int.{w16, to_be_bytes}
use Rattle.std.proofs.lemmas.Bool.{eqb-true}
use Rattle.tree_keys.specs.Path.{IsIn, IsPath}
use Rattle.lamport_clocks.specs.declared.header.Header.{Header}
use Rattle.record_text.specs.declared.value.Value.{Value}
use Rattle.record_text.specs.Value.{IsOf}
use Rattle.record_text.specs.Tree.{wide_of}
use Rattle.record_text.specs.Longest.{longest_of}
use Rattle.record_text.specs.Fields.{KeepsOn}
use Rattle.record_text.specs.Texts.{path_text, value_text}
use Rattle.record_text.proofs.ValueTextLaws.{path_of_value}
use Rattle.record_text.proofs.KeepsOnLaws.{keeps_on-byte, keeps_on-u16, keeps_on-path, keeps_on-value}
use Rattle.verifier_cache.specs.declared.entry.Hold.{Hold}
use Rattle.verifier_cache.specs.declared.entry.Hold.TheVariants.{Root, M, B}
use Rattle.verifier_cache.specs.declared.listed.ListedEntry.{ListedEntry}
use Rattle.verifier_cache.specs.Entry.{kid_of}
use Rattle.seals.specs.Entry.{hold_byte, hold_in, kid_byte, kids_in, EntryFields, entry_with, entry_of_fields, fields_of_entry, entry_fields_at, entry_at, entry_text, IsGoodEntry}
use Rattle.seals.proofs.CodecLaws.{IsCodec, codec-then, IsPicked, codec-pick, keeps_on-both, keeps_on-pick}
use Rattle.seals.proofs.FieldCodecs.{codec-byte, codec-u16, codec-path, codec-value}

-- an option that a test chose
pub one_of_two : {A : Type 0} (b : Bool) (x y : Option A) (z : A) → cond b x y ≡ Some z → ((b ≡ true) × (x ≡ Some z)) ⊎ ((b ≡ false) × (y ≡ Some z))
one_of_two true x y z e = inl (refl, e)
one_of_two false x y z e = inr (refl, e)

-- ---- the bytes of a hold and of kid bits

hold_back : (byte : ℕ) (hold : Hold) → hold_in byte ≡ Some hold → hold_byte hold ≡ byte
hold_back byte hold e =
    elim (one_of_two (eqb byte 0) (Some Root) (cond (eqb byte 1) (Some M) (cond (eqb byte 2) (Some B) None)) hold e) [
      | inl h ↦ let is : Root ≡ hold = cc (h.1) in subst (λ (x : Hold). hold_byte x ≡ byte) is (sym (eqb-true _ _ h.0))
      | inr h ↦ elim (one_of_two (eqb byte 1) (Some M) (cond (eqb byte 2) (Some B) None) hold h.1) [
        | inl k ↦ let is : M ≡ hold = cc (k.1) in subst (λ (x : Hold). hold_byte x ≡ byte) is (sym (eqb-true _ _ k.0))
        | inr k ↦ elim (one_of_two (eqb byte 2) (Some B) None hold k.1) [
          | inl l ↦ let is : B ≡ hold = cc (l.1) in subst (λ (x : Hold). hold_byte x ≡ byte) is (sym (eqb-true _ _ l.0))
          | inr l ↦ absurd (cc (l.1))
        ]
      ]
    ]

hold_again : (hold : Hold) → (hold_in (hold_byte hold) ≡ Some hold) × (hold_byte hold < 256)
hold_again Root = (refl, omega arith)
hold_again M = (refl, omega arith)
hold_again B = (refl, omega arith)

-- two bits, and their byte
abbrev AreKids : ℕ → List Bool → Type 0
AreKids byte kids = (kids ≡ slice_index_or kids 0 false ∷ slice_index_or kids 1 false ∷ []) × (kid_byte (slice_index_or kids 0 false) (slice_index_or kids 1 false) ≡ byte)

kids_back : (byte : ℕ) (kids : List Bool) → kids_in byte ≡ Some kids → AreKids byte kids
kids_back byte kids e =
    elim (one_of_two (eqb byte 0) (Some (false ∷ false ∷ [])) _ kids e) [
      | inl h ↦ let is : false ∷ false ∷ [] ≡ kids = cc (h.1) in subst (λ (x : List Bool). AreKids byte x) is (refl, sym (eqb-true _ _ h.0))
      | inr h ↦ elim (one_of_two (eqb byte 1) (Some (true ∷ false ∷ [])) _ kids h.1) [
        | inl k ↦ let is : true ∷ false ∷ [] ≡ kids = cc (k.1) in subst (λ (x : List Bool). AreKids byte x) is (refl, sym (eqb-true _ _ k.0))
        | inr k ↦ elim (one_of_two (eqb byte 2) (Some (false ∷ true ∷ [])) _ kids k.1) [
          | inl l ↦ let is : false ∷ true ∷ [] ≡ kids = cc (l.1) in subst (λ (x : List Bool). AreKids byte x) is (refl, sym (eqb-true _ _ l.0))
          | inr l ↦ elim (one_of_two (eqb byte 3) (Some (true ∷ true ∷ [])) None kids l.1) [
            | inl m ↦ let is : true ∷ true ∷ [] ≡ kids = cc (m.1) in subst (λ (x : List Bool). AreKids byte x) is (refl, sym (eqb-true _ _ m.0))
            | inr m ↦ absurd (cc (m.1))
          ]
        ]
      ]
    ]

kids_again : (side0 side1 : Bool) → (kids_in (kid_byte side0 side1) ≡ Some (side0 ∷ side1 ∷ [])) × (kid_byte side0 side1 < 256)
kids_again false false = (refl, omega arith)
kids_again true false = (refl, omega arith)
kids_again false true = (refl, omega arith)
kids_again true true = (refl, omega arith)

-- ---- an entry of its fields

abbrev AreFields : Header → EntryFields → Type 0
AreFields header f = (f.0 < 2 ^ 16) × ((IsIn (wide_of header) f.1.0 × IsPath f.1.0) × (IsOf (longest_of header) f.1.0 f.1.1.0 × ((f.1.1.1.0 < 256) × (f.1.1.1.1 < 256))))

abbrev made_of : ℕ → List Bool → Value → Hold → List Bool → ListedEntry
made_of slot path value hold kids = record { slot = slot; entry = record { path = path; value = value; hold = hold; kids = kids } }

parts_of : (slot : ℕ) (path : List Bool) (value : Value) (hold : Option Hold) (kids : Option (List Bool)) (one : ListedEntry) → entry_with slot path value hold kids ≡ Some one
    → (h : Hold) × (k : List Bool) × (hold ≡ Some h) × (kids ≡ Some k) × (made_of slot path value h k ≡ one)
parts_of slot path value None kids one e = absurd (cc)
parts_of slot path value (Some hold) None one e = absurd (cc)
parts_of slot path value (Some hold) (Some kids) one e = (hold, kids, refl, refl, cc)

picked-entry : (header : Header) → IsPicked entry_of_fields fields_of_entry (AreFields header) (IsGoodEntry header)
picked-entry header = record {
  back = λ f one good e.
      let parts = parts_of f.0 f.1.0 f.1.1.0 (hold_in f.1.1.1.0) (kids_in f.1.1.1.1) one e in
      let hold = hold_back f.1.1.1.0 parts.0 parts.2 in
      let kids = kids_back f.1.1.1.1 parts.1 parts.3 in
      let P : ListedEntry → Type 0 = λ x. (fields_of_entry x ≡ f) × IsGoodEntry header x in
      subst P {x = made_of f.0 f.1.0 f.1.1.0 parts.0 parts.1} parts.4 (
        ap (λ (h : ℕ). (f.0, (f.1.0, (f.1.1.0, (h, kid_byte (slice_index_or parts.1 0 false) (slice_index_or parts.1 1 false)))))) hold
            ∙ ap (λ (k : ℕ). (f.0, (f.1.0, (f.1.1.0, (f.1.1.1.0, k))))) kids.1,
        record { slot = good.0; tree = good.1.0.0; kind = good.1.1.0; kids = kids.0 },
      );
  again = λ one good.
      let side0 = kid_of one.entry false in
      let side1 = kid_of one.entry true in
      let hold = hold_again one.entry.hold in
      let kids = kids_again (kid_of one.entry false) (kid_of one.entry true) in (
        ap (λ (h : Option Hold). entry_with one.slot one.entry.path one.entry.value h (kids_in (kid_byte (kid_of one.entry false) (kid_of one.entry true)))) hold.0
            ∙ (ap (λ (k : Option (List Bool)). entry_with one.slot one.entry.path one.entry.value (Some one.entry.hold) k) kids.0
            ∙ ap (λ (k : List Bool). Some (made_of one.slot one.entry.path one.entry.value one.entry.hold k)) (sym good.kids)),
        (good.slot, ((good.tree, path_of_value (longest_of header) one.entry.path one.entry.value good.kind), (good.kind, (hold.1, kids.1)))),
      );
}

codec-fields : (header : Header) → IsCodec (entry_fields_at header) (λ f. to_be_bytes w16 f.0 ++ (path_text f.1.0 ++ (value_text f.1.1.0 ++ ((f.1.1.1.0 ∷ []) ++ (f.1.1.1.1 ∷ []))))) (AreFields header)
codec-fields header =
    codec-then _ _ _ _ (λ slot f. path_text f.0 ++ (value_text f.1.0 ++ ((f.1.1.0 ∷ []) ++ (f.1.1.1 ∷ []))))
    (λ slot f. (IsIn (wide_of header) f.0 × IsPath f.0) × (IsOf (longest_of header) f.0 f.1.0 × ((f.1.1.0 < 256) × (f.1.1.1 < 256)))) codec-u16 (λ slot good.
    codec-then _ _ _ _ (λ path f. value_text f.0 ++ ((f.1.0 ∷ []) ++ (f.1.1 ∷ []))) (λ path f. IsOf (longest_of header) path f.0 × ((f.1.0 < 256) × (f.1.1 < 256))) (codec-path (wide_of header)) (λ path fits.
    codec-then _ _ _ _ (λ value f. (f.0 ∷ []) ++ (f.1 ∷ [])) (λ value f. (f.0 < 256) × (f.1 < 256)) (codec-value (longest_of header) path fits.1) (λ value kind.
    codec-then _ _ _ _ (λ hold kids. kids ∷ []) (λ hold kids. kids < 256) codec-byte (λ hold small. codec-byte))))

pub codec-entry : (header : Header) → IsCodec (entry_at header) entry_text (IsGoodEntry header)
unfolding entry_at
codec-entry header = codec-pick entry_of_fields fields_of_entry (entry_fields_at header) _ (AreFields header) (IsGoodEntry header) (picked-entry header) (codec-fields header)

pub keeps_on-entry : (header : Header) → KeepsOn (entry_at header)
unfolding entry_at
keeps_on-entry header =
    keeps_on-pick entry_of_fields (entry_fields_at header)
    (keeps_on-both _ _ keeps_on-u16 (λ slot. keeps_on-both _ _ (keeps_on-path (wide_of header)) (λ path.
    keeps_on-both _ _ (keeps_on-value (longest_of header) path) (λ value. keeps_on-both _ _ keeps_on-byte (λ hold. keeps_on-byte)))))
