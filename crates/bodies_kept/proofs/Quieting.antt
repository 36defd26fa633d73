-- A form that is pure by number is pure by name.
use Rattle.std.proofs.Common.{◌≡◌, ◌⊎◌, ℕ, zero, suc, ◌+◌, ◌<◌, Bool, true, false, true≢false, List, [], ◌∷◌, ◌++◌, length, Option, Some, None, slice_get, refl, sym, ap, ◌∙◌, subst, arith, nat_eq}
use Rattle.std.specs.Prelude.{◌&&◌, ◌||◌, not, position, ℤ, pos}
use Rattle.std.specs.Int.{w32, cast_unsigned}
use Rattle.std.specs.Option.{option_map, option_and_then, option_or}
use Rattle.std.specs.Ordering.{int_eq}
use Rattle.std.proofs.lemmas.Bool.Decides.{Decides-int_eq}
use Rattle.insn_set.specs.Flow.{divides, divides_by_literal}
use Rattle.insn_set.specs.declared.form.Insn.{Insn}
use Rattle.insn_set.specs.declared.form.Insn.TheVariants as insn
use Rattle.program_model.specs.ProgramRules.{is_well_formed}
use Rattle.program_model.specs.Lookups.{class_place}
use Rattle.program_model.specs.declared.pools.FieldName.{FieldName}
use Rattle.program_model.specs.declared.program.Field.{Field}
use Rattle.program_model.specs.declared.program.Class.{Class}
use Rattle.program_model.specs.declared.program.Program.{Program}
use Rattle.class_defs.specs.ClassGraph.{IsTwice}
use Rattle.class_defs.specs.Finding.{beside, field_by, field_from, first_among, resolves_field}
use Rattle.class_defs.specs.Members.{own_field, field_of_class, is_field}
use Rattle.class_defs.specs.Places.{interface_places, super_place}
use Rattle.class_defs.specs.Starts.{is_trivial}
use Rattle.class_defs.proofs.Positions.{place_entry}
use Rattle.class_defs.proofs.WellFormed.{Sound, sound, class_parts}
use Rattle.dalvik_defs.specs.Find.{finds_field}
use Rattle.dalvik_defs.specs.Initialised as name
use Rattle.dalvik_defs.specs.Names.{Text}
use Rattle.dalvik_defs.specs.Naming.{type_at, field_at, form_of, named, named_field}
use Rattle.dalvik_defs.specs.declared.program.NamedField.{NamedField}
use Rattle.name_bridge.specs.Named.{field_at_place, field_of, field_there}
use Rattle.name_bridge.proofs.Above.{own_place}
use Rattle.name_bridge.proofs.Fields.{field_resolves_by_number}
use Rattle.name_bridge.proofs.Started.{trivial_by_number}
use Rattle.pass_defs.specs.Pure as named
use Rattle.thin_laws.specs.Cleaning.{IsFine}
use Rattle.body_graph.proofs.Members.{get_inside}
use Rattle.dead_code.specs.Dead.{is_quiet_field, is_pure}

-- a field of a class of the program
record There (p : Program) (at : ℕ × ℕ) : Type 0 where
  class : Class
  is_class : slice_get p.classes at.0 ≡ Some class
  field : Field
  is_field : slice_get class.fields at.1 ≡ Some field

module _ (p : Program) (name kind : ℕ) where
  own_there : (c : ℕ) (at : ℕ × ℕ) → own_field p name kind c ≡ Some at → There p at
  own_there c at h = by_class (slice_get p.classes c) refl h
    where
      by_place : (k : Class) (o : Option ℕ) → slice_get p.classes c ≡ Some k → position (is_field p name kind) k.fields ≡ o → ◌≡◌ {A = Option (ℕ × ℕ)} (option_map (λ (i : ℕ). (c, i)) o) (Some at) → There p at
      by_place k None g f e = absurd (cc)
      by_place k (Some i) g f e =
          let same : ◌≡◌ {A = ℕ × ℕ} (c, i) at = cc in
          let r = place_entry (is_field p name kind) k.fields i f in
          subst (There p) same (record { class = k; is_class = g; field = r.entry; is_field = r.is })

      by_class : (o : Option Class) → slice_get p.classes c ≡ o → field_of_class p name kind c o ≡ Some at → There p at
      by_class None g e = absurd (cc)
      by_class (Some k) g e = by_place k (position (is_field p name kind) k.fields) g refl e

  first_there : (f : ℕ → Option (ℕ × ℕ)) → ((c : ℕ) (at : ℕ × ℕ) → f c ≡ Some at → There p at) → (cs : List ℕ) (at : ℕ × ℕ) → first_among f cs ≡ Some at → There p at
  first_there f h [] at g = absurd (cc)
  first_there f h (c ∷ cs) at g = by_first (first_there f h cs at) (f c) refl g
    where
      by_first : (first_among f cs ≡ Some at → There p at) → (o : Option (ℕ × ℕ)) → f c ≡ o → option_or o (first_among f cs) ≡ Some at → There p at
      by_first more None x g = more g
      by_first more (Some one) x g = h c at (x ∙ g)

  from_there : (n c : ℕ) (at : ℕ × ℕ) → field_from n p name kind c ≡ Some at → There p at
  from_there zero c at h = absurd (cc)
  from_there (suc n) c at h = by_own (first_there (field_from n p name kind) (from_there n) (interface_places p c ++ beside (super_place p c)) at) (own_field p name kind c) refl h
    where
      by_own : (first_among (field_from n p name kind) (interface_places p c ++ beside (super_place p c)) ≡ Some at → There p at) → (o : Option (ℕ × ℕ)) → own_field p name kind c ≡ o
          → option_or o (first_among (field_from n p name kind) (interface_places p c ++ beside (super_place p c))) ≡ Some at → There p at
      by_own more None g e = more e
      by_own more (Some one) g e = own_there c at (g ∙ e)

  place_there : (o : Option ℕ) (at : ℕ × ℕ) → option_and_then (field_from (length p.classes) p name kind) o ≡ Some at → There p at
  place_there None at h = absurd (cc)
  place_there (Some c) at h = from_there (length p.classes) c at h

-- a literal that isn't 0 as a word isn't 0
not_zero : (v : ℤ) → nat_eq (cast_unsigned w32 v) 0 ≡ false → int_eq v (pos 0) ≡ false
not_zero v e = by (int_eq v (pos 0)) refl
  where
    by : (b : Bool) → int_eq v (pos 0) ≡ b → b ≡ false
    by false d = refl
    by true d = let same : v ≡ pos 0 = (Decides-int_eq v (pos 0)).0 d in absurd (true≢false (sym (ap (λ (x : ℤ). nat_eq (cast_unsigned w32 x) 0) same) ∙ e))

literal_pure : (d : Bool) (z i : Bool) → (z ≡ false → i ≡ false) → (not d || not z) ≡ true → (not d || not i) ≡ true
literal_pure false z i h e = refl
literal_pure true z i h e = ap not (h (not_false z e))
  where
    not_false : (b : Bool) → not b ≡ true → b ≡ false
    not_false false e = refl
    not_false true e = absurd (true≢false (sym e))

literal_fine : (d z : Bool) → (not d || not z) ≡ true → d ≡ true → z ≡ false
literal_fine true false e h = refl
literal_fine true true e h = absurd (true≢false (sym e))
literal_fine false z e h = absurd (true≢false (sym h))

-- the literal of a pure division isn't 0 as a word
pub fine_of : (p : Program) (quiet : ℕ → Bool) (i : Insn) → is_pure quiet i ≡ true → IsFine (form_of p i)
fine_of p quiet (insn.Literal op to a value) e = literal_fine (divides_by_literal op) (nat_eq (cast_unsigned w32 value) 0) e
fine_of p quiet insn.Nop e = tt
fine_of p quiet i e = tt

module _ (p : Program) (fits : is_well_formed p ≡ true) (twice : (class : ℕ) → IsTwice p class → ⊥) where
  s : Sound p
  s = sound p fits

  found : (f : ℕ) (at : ℕ × ℕ) → resolves_field p f ≡ Some at → There p at × (f < length p.fields)
  found f at h = by (slice_get p.fields f) refl h
    where
      by : (o : Option FieldName) → slice_get p.fields f ≡ o → field_by p o ≡ Some at → There p at × (f < length p.fields)
      by None e g = absurd (cc)
      by (Some q) e g = (place_there p q.name q.kind (class_place p q.class) at g, get_inside p.fields f q e)

  quiet_named : (f : ℕ) → is_quiet_field p f ≡ true → named.is_quiet_field (named p) (field_at p f) ≡ true
  quiet_named f e = by (resolves_field p f) refl e
    where
      by : (o : Option (ℕ × ℕ)) → resolves_field p f ≡ o → (elim o as (λ o. Bool) [ Some at ↦ is_trivial p at.0 | None ↦ false ]) ≡ true → named.is_quiet_field (named p) (field_at p f) ≡ true
      by None g h = absurd (true≢false (sym h))
      by (Some at) g h =
          let w = found f at g in
          let k = w.0.class in
          let place : class_place p k.name ≡ Some at.0 = own_place p twice at.0 k w.0.is_class in
          let finds : finds_field (named p) (field_at p f) ≡ Some (type_at p k.name, named_field p w.0.field) =
          field_resolves_by_number p s f w.1 ∙ ap (option_and_then (field_at_place p)) g ∙ ap (field_of p at.1) w.0.is_class ∙ ap (field_there p k) w.0.is_field in
          ap (λ (o : Option (Text × NamedField)). elim o as (λ o. Bool) [ Some x ↦ name.is_trivial (named p) x.0 | None ↦ false ]) finds
          ∙ trivial_by_number p s twice k.name at.0 (class_parts p s at.0 k w.0.is_class).name place ∙ h

  pub pure_named : (i : Insn) → is_pure (is_quiet_field p) i ≡ true → named.is_pure (named p) (form_of p i) ≡ true
  pure_named (insn.StaticGet item to field) e = quiet_named field e
  pure_named (insn.Literal op to a value) e = literal_pure (divides_by_literal op) (nat_eq (cast_unsigned w32 value) 0) (int_eq value (pos 0)) (not_zero value) e
  pure_named insn.Nop e = refl
  pure_named i e = e
