-- The field that a number resolves to, by the places of its class and of itself.
use Rattle.std.proofs.Common.{◌≡◌, ℕ, zero, suc, ◌<◌, Bool, true, false, List, [], ◌∷◌, ◌++◌, length, nat_eq, ap, refl, sym, subst, ◌∙◌}
use Rattle.std.specs.Prelude.{◌&&◌, Option, Some, None, cond, position, slice_get, option_and_then}
use Rattle.std.specs.Option.{option_map, option_or}
use Rattle.class_defs.specs.Finding.{beside, field_by, field_from, first_among, resolves_field}
use Rattle.class_defs.specs.Members.{field_of_class, is_field, names_field, own_field}
use Rattle.class_defs.specs.Places.{interface_places, super_place}
use Rattle.class_defs.proofs.Positions.{entry_at, place_entry}
use Rattle.class_defs.proofs.WellFormed.{class_parts, sound, Sound}
use Rattle.program_model.specs.Lookups.{class_place}
use Rattle.program_model.specs.declared.pools.FieldName.{FieldName}
use Rattle.program_model.specs.declared.program.Class.{Class}
use Rattle.program_model.specs.declared.program.Field.{Field}
use Rattle.program_model.specs.declared.program.Program.{Program}
use Rattle.class_defs.specs.ClassGraph.{IsTwice}
use Rattle.name_bridge.specs.Named.{field_at_place, field_of, field_there}
use Rattle.name_bridge.proofs.Above.{own_place}
use Rattle.name_bridge.proofs.Classes.{text_test, type_test}
use Rattle.name_bridge.proofs.Tables.{field_is, field_kind, field_name}
use Rattle.dalvik_defs.specs.Face.{Place, place_of}
use Rattle.dalvik_defs.specs.Names.{Text, text_eq}
use Rattle.dalvik_defs.specs.Naming.{field_at, named_field, text_at, type_at}
use Rattle.dalvik_defs.specs.declared.names.FieldKey.{FieldKey}
use Rattle.dalvik_defs.specs.declared.program.NamedField.{NamedField}
use Rattle.dalvik_lookups.specs.Declaring.{declared_field, field_place, fields_in, is_typed}
use Rattle.dalvik_lookups.specs.Facing.{place_at, run_face}
use Rattle.dalvik_lookups.specs.Tables.{place_named, IsRight}
use Rattle.dalvik_lookups.specs.declared.lookups.Lookups.{Lookups}
use Rattle.dalvik_lookups.proofs.Facing.{right_face}
use Rattle.dalvik_steps.specs.Reaching.{IsFieldOf}
use Rattle.dalvik_steps.proofs.FieldPlaces.{position_same}

module _ (p : Program) (name kind : ℕ) where
  -- a field that a class defines itself, by the class and its place
  record OwnField (c : ℕ) (at : ℕ × ℕ) : Type 0 where
    pub class : Class
    pub within : slice_get p.classes c ≡ Some class
    pub same : at.0 ≡ c
    pub first : position (is_field p name kind) class.fields ≡ Some at.1

  own_is : (c : ℕ) (at : ℕ × ℕ) → own_field p name kind c ≡ Some at → OwnField c at
  own_is c at h = by_class (slice_get p.classes c) refl h
    where
      by_place : (k : Class) (o : Option ℕ) → slice_get p.classes c ≡ Some k → position (is_field p name kind) k.fields ≡ o → ◌≡◌ {A = Option (ℕ × ℕ)} (option_map (λ (i : ℕ). (c, i)) o) (Some at) → OwnField c at
      by_place k None g f e = absurd (cc)
      by_place k (Some i) g f e =
          let same : ◌≡◌ {A = ℕ × ℕ} (c, i) at = cc in
          record { class = k; within = g; same = ap (λ (z : ℕ × ℕ). z.0) (sym same); first = f ∙ ap (λ (z : ℕ × ℕ). Some z.1) same }

      by_class : (o : Option Class) → slice_get p.classes c ≡ o → field_of_class p name kind c o ≡ Some at → OwnField c at
      by_class None g e = absurd (cc)
      by_class (Some k) g e = by_place k (position (is_field p name kind) k.fields) g refl e

  abbrev Owns : ℕ × ℕ → Type 0
  Owns at = OwnField at.0 at

  owned : (c : ℕ) (at : ℕ × ℕ) → own_field p name kind c ≡ Some at → Owns at
  owned c at h = (let r = own_is c at h in subst (λ (d : ℕ). OwnField d at) (sym r.same) r)

  first_owned : (f : ℕ → Option (ℕ × ℕ)) → ((c : ℕ) (at : ℕ × ℕ) → f c ≡ Some at → Owns at) → (cs : List ℕ) (at : ℕ × ℕ) → first_among f cs ≡ Some at → Owns at
  first_owned f h [] at g = absurd (cc)
  first_owned f h (c ∷ cs) at g = by_first (first_owned f h cs at) (f c) refl g
    where
      by_first : (first_among f cs ≡ Some at → Owns at) → (o : Option (ℕ × ℕ)) → f c ≡ o → option_or o (first_among f cs) ≡ Some at → Owns at
      by_first more None x g = more g
      by_first more (Some one) x g = h c at (x ∙ g)

  from_owned : (n c : ℕ) (at : ℕ × ℕ) → field_from n p name kind c ≡ Some at → Owns at
  from_owned zero c at h = absurd (cc)
  from_owned (suc n) c at h = by_own (first_owned (field_from n p name kind) (from_owned n) (interface_places p c ++ beside (super_place p c)) at) (own_field p name kind c) refl h
    where
      by_own : (first_among (field_from n p name kind) (interface_places p c ++ beside (super_place p c)) ≡ Some at → Owns at) → (o : Option (ℕ × ℕ)) → own_field p name kind c ≡ o
          → option_or o (first_among (field_from n p name kind) (interface_places p c ++ beside (super_place p c))) ≡ Some at → Owns at
      by_own more None g e = more e
      by_own more (Some one) g e = owned c at (g ∙ e)

  place_owned : (o : Option ℕ) (at : ℕ × ℕ) → option_and_then (field_from (length p.classes) p name kind) o ≡ Some at → Owns at
  place_owned None at h = absurd (cc)
  place_owned (Some c) at h = from_owned (length p.classes) c at h

-- a class stands at the place of its type
pub class_placed : (p : Program) (s : Sound p) → ((class : ℕ) → IsTwice p class → ⊥) → (c : ℕ) (k : Class) → slice_get p.classes c ≡ Some k → place_named p (type_at p k.name) ≡ Some c
class_placed p s once c k e =
    position_same (λ (d : Class). text_eq (type_at p d.name) (type_at p k.name)) (λ (d : Class). nat_eq d.name k.name) p.classes (λ i d f. type_test p s d.name k.name (class_parts p s i d f).name (class_parts p s c k e).name)
    ∙ own_place p once c k e

-- the fields of a class by the numbers of their names and types, and by these themselves
typed_test : (p : Program) (s : Sound p) (c : ℕ) (k : Class) → slice_get p.classes c ≡ Some k → (number : ℕ) (q : FieldName) → slice_get p.fields number ≡ Some q → (i : ℕ) (f : Field) → slice_get k.fields i ≡ Some f → is_typed p (text_at p q.name) (type_at p q.kind) f ≡ is_field p q.name q.kind f
typed_test p s c k e number q h i f g =
    let fits = (class_parts p s c k e).fields i f g in
    ap (λ (x : FieldKey). text_eq x.name (text_at p q.name) && text_eq x.kind (type_at p q.kind)) (field_is p s f.name fits.entry fits.is)
    ∙ ap (λ (b : Bool). b && text_eq (type_at p fits.entry.kind) (type_at p q.kind)) (text_test p s fits.entry.name q.name (field_name p s f.name fits.entry fits.is) (field_name p s number q h))
    ∙ ap (λ (b : Bool). nat_eq fits.entry.name q.name && b) (type_test p s fits.entry.kind q.kind (field_kind p s f.name fits.entry fits.is) (field_kind p s number q h))
    ∙ sym (ap (names_field q.name q.kind) fits.is)

-- a field that was found, by names
pub record FieldFound (l : Lookups) (number class index : ℕ) : Type 0 where
  pub place : Place
  pub found : (run_face l).field (field_at l.program.now number) ≡ Some place
  pub of : IsFieldOf l (field_at l.program.now number) place class index

field_stands_there : (p : Program) (class index : ℕ) (k : Class) (f : Field) → slice_get p.classes class ≡ Some k → slice_get k.fields index ≡ Some f → place_at p (class, index) ≡ Some (place_of (type_at p k.name) (named_field p f))
field_stands_there p class index k f e g =
    ap (λ o. option_map (λ (z : Text × NamedField). place_of z.0 z.1) (field_of p index o)) e
    ∙ ap (λ o. option_map (λ (z : Text × NamedField). place_of z.0 z.1) (field_there p k o)) g

pub field_found : (l : Lookups) → IsRight l → (number class index : ℕ) → number < length l.program.now.fields → resolves_field l.program.now number ≡ Some (class, index) → FieldFound l number class index
field_found l r number class index low h =
    let p = l.program.now in
    let s : Sound p = sound p r.well in
    let q = entry_at p.fields number low in
    let own = place_owned p q.0.name q.0.kind (class_place p q.0.class) (class, index) (ap (field_by p) (sym q.1) ∙ h) in
    let there = place_entry (is_field p q.0.name q.0.kind) own.class.fields index own.first in
    let at = place_of (type_at p own.class.name) (named_field p there.entry) in
    let stands : place_at p (class, index) ≡ Some at = field_stands_there p class index own.class there.entry own.within there.is in
    let key = field_is p s number q.0 q.1 in
    record {
      place = at;
      found = (right_face l r).field number low ∙ ap (option_and_then (place_at p)) h ∙ stands;
      of = record {
        place = stands;
        declared =
            ap (λ (x : FieldKey). declared_field p (type_at p own.class.name) x.name x.kind) key
            ∙ ap (λ o. option_and_then (λ (c : ℕ). option_map (λ (i : ℕ). (c, i)) (field_place p c (text_at p q.0.name) (type_at p q.0.kind))) o) (class_placed p s r.resolved.of.once class own.class own.within)
            ∙ ap (λ o. option_map (λ (i : ℕ). (class, i)) (position (is_typed p (text_at p q.0.name) (type_at p q.0.kind)) (fields_in o))) own.within
            ∙ ap (λ o. option_map (λ (i : ℕ). (class, i)) o) (position_same (is_typed p (text_at p q.0.name) (type_at p q.0.kind)) (is_field p q.0.name q.0.kind) own.class.fields (typed_test p s class own.class own.within number q.0 q.1) ∙ own.first);
      };
    }

-- one that isn't found
pub field_unfound : (l : Lookups) → IsRight l → (number : ℕ) → number < length l.program.now.fields → resolves_field l.program.now number ≡ None → (run_face l).field (field_at l.program.now number) ≡ None
field_unfound l r number low h = (right_face l r).field number low ∙ ap (option_and_then (place_at l.program.now)) h
