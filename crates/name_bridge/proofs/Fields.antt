-- What names of fields resolve to by number is what they resolve to by name.
use Rattle.std.proofs.Common.{◌≡◌, ℕ, zero, suc, ◌<◌, true, List, [], ◌∷◌, ◌++◌, map, length, Option, Some, None, refl, sym, ap, ◌∙◌, lt-ltb}
use Rattle.std.specs.Prelude.{◌&&◌, slice_get, position, option_and_then}
use Rattle.std.specs.List.{list_all}
use Rattle.std.specs.Option.{option_map, option_or}
use Rattle.program_model.specs.declared.pools.FieldName.{FieldName}
use Rattle.program_model.specs.declared.program.Field.{Field}
use Rattle.program_model.specs.declared.program.Class.{Class}
use Rattle.program_model.specs.declared.program.Program.{Program}
use Rattle.program_model.specs.Lookups.{class_place}
use Rattle.program_model.specs.Texts.{has_type}
use Rattle.class_defs.specs.Places.{super_place, placed, places_of, listed, interface_places}
use Rattle.class_defs.specs.Members.{is_field, field_of_class, own_field}
use Rattle.class_defs.specs.Finding.{first_among, beside, field_by, resolves_field}
use Rattle.class_defs.specs.Finding as number
use Rattle.dalvik_defs.specs.Names.{Text}
use Rattle.dalvik_defs.specs.Under.{class_named}
use Rattle.dalvik_defs.specs.Naming.{text_at, type_at, field_at, named_class, named_field, named}
use Rattle.dalvik_defs.specs.Find.{field_in, first_field, field_from, finds_field}
use Rattle.dalvik_defs.specs.declared.names.FieldKey.{FieldKey}
use Rattle.dalvik_defs.specs.declared.program.NamedField.{NamedField}
use Rattle.dalvik_defs.specs.declared.program.NamedClass.{NamedClass}
use Rattle.name_bridge.specs.Named.{class_at, field_there, field_of, field_at_place}
use Rattle.name_bridge.proofs.Tables.{and_left, and_right, entry_at, below, Sound, field_is, field_class, field_name, field_kind}
use Rattle.name_bridge.proofs.Lists.{find_place, place_entry}
use Rattle.name_bridge.proofs.Classes.{class_parts, class_by_number, field_by_number}
use Rattle.name_bridge.proofs.Above.{length_map, map_append, places_append, all_append}

-- a field that there is
pub record FieldThere (p : Program) (at : ℕ × ℕ) : Type 0 where
  pub field : Text × NamedField
  pub is : field_at_place p at ≡ Some field

or_found : (p : Program) (o rest : Option (ℕ × ℕ)) → ((at : ℕ × ℕ) → o ≡ Some at → FieldThere p at)
    → option_or (option_and_then (field_at_place p) o) (option_and_then (field_at_place p) rest) ≡ option_and_then (field_at_place p) (option_or o rest)
or_found p None rest h = refl
or_found p (Some at) rest h = let t = h at refl in ap (λ f. option_or f (option_and_then (field_at_place p) rest)) t.is ∙ sym t.is

-- a field's key by its numbers
abbrev pub field_key_of : Program → FieldName → FieldKey
field_key_of p q = record { class = type_at p q.class; name = text_at p q.name; kind = type_at p q.kind }

module _ (p : Program) (s : Sound p) (e : FieldName) (hn : e.name < length p.strings) (hk : e.kind < length p.types) where
  abbrev own_of : NamedClass → Option (Text × NamedField)
  own_of c = option_map (λ f. (c.name, f)) (field_in c (text_at p e.name) (type_at p e.kind))

  -- the field of a class itself
  own_named : (c : ℕ) (k : Class) → slice_get p.classes c ≡ Some k → own_of (named_class p k) ≡ option_and_then (field_at_place p) (own_field p e.name e.kind c)
  own_named c k g =
      ap (option_map (λ f. (type_at p k.name, f))) (field_by_number p s c k e.name e.kind g hn hk ∙ ap (option_map (named_field p)) (find_place (is_field p e.name e.kind) k.fields))
      ∙ by_place (position (is_field p e.name e.kind) k.fields)
      ∙ sym (ap (λ o. option_and_then (field_at_place p) (field_of_class p e.name e.kind c o)) g)
    where
      by_field : (i : ℕ) (o : Option Field) → slice_get k.fields i ≡ o → ◌≡◌ {A = Option (Text × NamedField)} (option_map (λ f. (type_at p k.name, f)) (option_map (named_field p) o)) (field_there p k o)
      by_field i None h = refl
      by_field i (Some f) h = refl

      by_place : (o : Option ℕ) → ◌≡◌ {A = Option (Text × NamedField)} (option_map (λ f. (type_at p k.name, f)) (option_map (named_field p) (option_and_then (slice_get k.fields) o)))
          (option_and_then (field_at_place p) (option_map (λ i. (c, i)) o))
      by_place None = refl
      by_place (Some i) = by_field i (slice_get k.fields i) refl ∙ sym (ap (field_of p i) g)

  own_there : (c : ℕ) (at : ℕ × ℕ) → own_field p e.name e.kind c ≡ Some at → FieldThere p at
  own_there c at h = by_class (slice_get p.classes c) refl h
    where
      by_place : (k : Class) (o : Option ℕ) → slice_get p.classes c ≡ Some k → position (is_field p e.name e.kind) k.fields ≡ o → ◌≡◌ {A = Option (ℕ × ℕ)} (option_map (λ i. (c, i)) o) (Some at) → FieldThere p at
      by_place k None g f h = cc
      by_place k (Some i) g f h =
          let same : ◌≡◌ {A = ℕ × ℕ} (c, i) at = cc in
          let r = place_entry (is_field p e.name e.kind) k.fields i f in
          record { field = (type_at p k.name, named_field p r.entry); is = ap (field_at_place p) (sym same) ∙ ap (field_of p i) g ∙ ap (field_there p k) r.is }

      by_class : (o : Option Class) → slice_get p.classes c ≡ o → field_of_class p e.name e.kind c o ≡ Some at → FieldThere p at
      by_class None g h = cc
      by_class (Some k) g h = by_place k (position (is_field p e.name e.kind) k.fields) g refl h

  first_there : (f : ℕ → Option (ℕ × ℕ)) → ((c : ℕ) (at : ℕ × ℕ) → f c ≡ Some at → FieldThere p at) → (cs : List ℕ) (at : ℕ × ℕ) → first_among f cs ≡ Some at → FieldThere p at
  first_there f h [] at g = cc
  first_there f h (c ∷ cs) at g = by_first (first_there f h cs at) (f c) refl g
    where
      by_first : (first_among f cs ≡ Some at → FieldThere p at) → (o : Option (ℕ × ℕ)) → f c ≡ o → option_or o (first_among f cs) ≡ Some at → FieldThere p at
      by_first more None x g = more g
      by_first more (Some one) x g = h c at (x ∙ g)

  from_there : (n c : ℕ) (at : ℕ × ℕ) → number.field_from n p e.name e.kind c ≡ Some at → FieldThere p at
  from_there zero c at h = cc
  from_there (suc n) c at h = by_own (first_there (number.field_from n p e.name e.kind) (from_there n) (interface_places p c ++ beside (super_place p c)) at) (own_field p e.name e.kind c) refl h
    where
      rest : Option (ℕ × ℕ)
      rest = first_among (number.field_from n p e.name e.kind) (interface_places p c ++ beside (super_place p c))

      by_own : (first_among (number.field_from n p e.name e.kind) (interface_places p c ++ beside (super_place p c)) ≡ Some at → FieldThere p at) → (o : Option (ℕ × ℕ)) → own_field p e.name e.kind c ≡ o
          → option_or o (first_among (number.field_from n p e.name e.kind) (interface_places p c ++ beside (super_place p c))) ≡ Some at → FieldThere p at
      by_own more None g h = more h
      by_own more (Some one) g h = own_there c at (g ∙ h)

  abbrev Steps : ℕ → Type 0
  Steps n = (t : ℕ) → t < length p.types → field_from n (named p) (field_key_of p e) (type_at p t) ≡ option_and_then (field_at_place p) (option_and_then (number.field_from n p e.name e.kind) (class_place p t))

  -- the first along some types
  first_named : (n : ℕ) → Steps n → (ks : List ℕ) → list_all (has_type p) ks ≡ true
      → first_field (map (field_from n (named p) (field_key_of p e)) (map (type_at p) ks)) ≡ option_and_then (field_at_place p) (first_among (number.field_from n p e.name e.kind) (places_of p ks))
  first_named n more [] h = refl
  first_named n more (k ∷ ks) h =
      let hk = below k (length p.types) (and_left (has_type p k) (list_all (has_type p) ks) h) in
      ap (λ o. option_or o (first_field (map (field_from n (named p) (field_key_of p e)) (map (type_at p) ks)))) (more k hk)
      ∙ ap (option_or (option_and_then (field_at_place p) (option_and_then (number.field_from n p e.name e.kind) (class_place p k)))) (first_named n more ks (and_right (has_type p k) (list_all (has_type p) ks) h))
      ∙ by_place (class_place p k)
    where
      by_place : (o : Option ℕ) → option_or (option_and_then (field_at_place p) (option_and_then (number.field_from n p e.name e.kind) o)) (option_and_then (field_at_place p) (first_among (number.field_from n p e.name e.kind) (places_of p ks)))
          ≡ option_and_then (field_at_place p) (first_among (number.field_from n p e.name e.kind) (placed o (places_of p ks)))
      by_place None = refl
      by_place (Some c) = or_found p (number.field_from n p e.name e.kind c) (first_among (number.field_from n p e.name e.kind) (places_of p ks)) (from_there n c)

  beside_is : (o : Option ℕ) → placed o [] ≡ beside o
  beside_is None = refl
  beside_is (Some c) = refl

  abbrev from_class : ℕ → Option NamedClass → Option (Text × NamedField)
  from_class n None = None
  from_class n (Some c) = option_or (own_of c) (first_field (map (field_from n (named p) (field_key_of p e)) (c.interfaces ++ c.superclass ∷ [])))

  class_is : (n : ℕ) (o : Option NamedClass) → elim o as (λ o. Option (Text × NamedField)) [
    | Some c ↦ option_or (option_map (λ f. (c.name, f)) (field_in c (text_at p e.name) (type_at p e.kind))) (first_field (map (field_from n (named p) (field_key_of p e)) (c.interfaces ++ c.superclass ∷ [])))
    | None ↦ None
  ] ≡ from_class n o
  class_is n None = refl
  class_is n (Some c) = refl

  none_from : (n : ℕ) → Steps n → (c : ℕ) (k : Class) → slice_get p.classes c ≡ Some k
      → from_class n (Some (named_class p k)) ≡ option_and_then (field_at_place p) (number.field_from (suc n) p e.name e.kind c)
  none_from n more c k g =
      let f = number.field_from n p e.name e.kind in
      let fit = class_parts p s c k g in
      ap (λ o. option_or o (first_field (map (field_from n (named p) (field_key_of p e)) (map (type_at p) k.interfaces ++ type_at p k.superclass ∷ [])))) (own_named c k g)
      ∙ ap (λ ts. option_or (option_and_then (field_at_place p) (own_field p e.name e.kind c)) (first_field (map (field_from n (named p) (field_key_of p e)) ts))) (sym (map_append (type_at p) k.interfaces (k.superclass ∷ [])))
      ∙ ap (option_or (option_and_then (field_at_place p) (own_field p e.name e.kind c))) (first_named n more (k.interfaces ++ k.superclass ∷ []) (all_append p k.interfaces (k.superclass ∷ []) fit.interfaces (one_type k.superclass fit.superclass)))
      ∙ or_found p (own_field p e.name e.kind c) (first_among f (places_of p (k.interfaces ++ k.superclass ∷ []))) (own_there c)
      ∙ ap (λ l. option_and_then (field_at_place p) (option_or (own_field p e.name e.kind c) (first_among f l)))
      (places_append p k.interfaces (k.superclass ∷ []) ∙ ap (λ l. places_of p k.interfaces ++ l) (beside_is (class_place p k.superclass))
      ∙ sym (ap (λ o. listed p o ++ beside (option_and_then (λ d. class_place p d.superclass) o)) g))
    where
      one_type : (t : ℕ) → t < length p.types → list_all (has_type p) (t ∷ []) ≡ true
      one_type t h = ap (λ b. b && true) (lt-ltb t (length p.types) h)

  steps : (n : ℕ) → Steps n
  steps zero t ht = by_place (class_place p t)
    where
      by_place : (o : Option ℕ) → None ≡ option_and_then (field_at_place p) (option_and_then (number.field_from zero p e.name e.kind) o)
      by_place None = refl
      by_place (Some c) = refl
  steps (suc n) t ht =
      class_is n (class_named (named p) (type_at p t)) ∙ ap (from_class n) (class_by_number p s t ht) ∙ by_place (steps n) (class_place p t)
    where
      no_rest : first_among (number.field_from n p e.name e.kind) [] ≡ None
      no_rest = refl

      by_class : Steps n → (c : ℕ) (o : Option Class) → slice_get p.classes c ≡ o → from_class n (option_map (named_class p) o) ≡ option_and_then (field_at_place p) (number.field_from (suc n) p e.name e.kind c)
      by_class more c (Some k) g = none_from n more c k g
      by_class more c None g = sym (ap (λ o. option_and_then (field_at_place p) (option_or (field_of_class p e.name e.kind c o)
          (first_among (number.field_from n p e.name e.kind) (listed p o ++ beside (option_and_then (λ d. class_place p d.superclass) o))))) g)

      by_place : Steps n → (o : Option ℕ) → from_class n (option_and_then (class_at p) o) ≡ option_and_then (field_at_place p) (option_and_then (number.field_from (suc n) p e.name e.kind) o)
      by_place more None = refl
      by_place more (Some c) = by_class more c (slice_get p.classes c) refl

module _ (p : Program) (s : Sound p) where
  -- what the name of a field resolves to
  pub field_resolves_by_number : (f : ℕ) → f < length p.fields → finds_field (named p) (field_at p f) ≡ option_and_then (field_at_place p) (resolves_field p f)
  field_resolves_by_number f hf = by_known (entry_at p.fields f hf).0 (entry_at p.fields f hf).1
    where
      by_known : (e : FieldName) → slice_get p.fields f ≡ Some e → finds_field (named p) (field_at p f) ≡ option_and_then (field_at_place p) (resolves_field p f)
      by_known e h =
          ap (finds_field (named p)) (field_is p s f e h)
          ∙ ap (λ n. field_from n (named p) (field_key_of p e) (type_at p e.class)) (length_map (named_class p) p.classes)
          ∙ steps p s e (field_name p s f e h) (field_kind p s f e h) (length p.classes) e.class (field_class p s f e h)
          ∙ sym (ap (λ o. option_and_then (field_at_place p) (field_by p o)) h)
