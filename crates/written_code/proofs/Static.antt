-- The static fields of each class have the first values that are written for them.
use Rattle.std.proofs.Common.{◌≡◌, ℕ, suc, true, false, List, [], ◌∷◌, length, map, take, drop, Option, Some, None, refl, sym, ap, subst, ◌∙◌}
use Rattle.std.specs.Prelude.{slice_get, is_some, ◌&&◌}
use Rattle.std.specs.Option.{option_map}
use Rattle.std.specs.List.{AllByRecursion}
use Rattle.std.proofs.lemmas.Bool.{and_parts}
use Rattle.lemmas.proofs.Lists.{all_at, get_map}
use Rattle.lemmas.proofs.Bools.{clash}
use Rattle.program_model.specs.declared.pass.Renumber.{Renumber}
use Rattle.program_model.specs.declared.pools.FieldName.{FieldName}
use Rattle.program_model.specs.declared.value.EncValue.{EncValue, out-EncValue}
use Rattle.program_model.specs.declared.program.Field.{Field}
use Rattle.program_model.specs.declared.program.Class.{Class}
use Rattle.program_model.specs.declared.program.Program.{Program}
use Rattle.program_model.specs.TableRules.{entries_fit}
use Rattle.program_model.specs.ValueRules.{first_fits, layer_fits, marks_fit}
use Rattle.program_model.specs.MemberRules.{is_static, class_of_field, is_class_number, field_letter, first_value_fits, field_fits}
use Rattle.dex_pools.specs.declared.interner.Interner.{Interner}
use Rattle.dex_pools.specs.Interned.{IsInterned}
use Rattle.dex_write.specs.declared.tables.ClassOffsets.{ClassOffsets}
use Rattle.dex_write.specs.Plans.{Plan, Numbered}
use Rattle.dex_write.specs.Codes.{codes_behind, lines_behind}
use Rattle.dex_write.specs.Sets.{behind_class}
use Rattle.dex_write.specs.Data.{has_first, first_count, value_or}
use Rattle.dex_defs.specs.Arranged.{Both}
use Rattle.dex_defs.specs.Values.{is_of, letter_of_field, first_of, AreFirsts}
use Rattle.dex_defs.specs.Written.{new_value, written_field, written_by}
use Rattle.write_laws.specs.Used.{IsShort}
use Rattle.written_file.proofs.Fit.{FitsClass}
use Rattle.written_file.proofs.In.{in_got}
use Rattle.written_file.proofs.Grouped.{Spot}
use Rattle.written_file.specs.Parts.{one_value, first_values, class_parts}
use Rattle.written_file.proofs.Members.{field_or, field_at, field_used}
use Rattle.written_file.proofs.KindFields.{HasPlan}
use Rattle.written_code.proofs.AllSpelled.{HasFirsts}
use Rattle.written_code.proofs.Firsts.{IsFieldLetter, one_suits, FitsFirst, firsts_are}
use Rattle.written_code.proofs.Letters.{field_kept, field_letters}

module _ (p : Program) (i : Interner) (few : IsShort p) (h : IsInterned p i) (fits : (k : ℕ) (c : Class) → slice_get p.classes k ≡ Some c → FitsClass p c) (tables : entries_fit p ≡ true) where
  abbrev q : Program
  q = written_by i p

  abbrev r : Renumber
  r = i.numbers

  -- the field that a number with a place stands for
  record HasField (c : Class) (f : Numbered) : Type 0 where
    field : Field
    is : slice_get c.fields f.1 ≡ Some field

  field_there : (c : Class) (f : Numbered) → Spot (λ f. f.name) (λ f. is_static f.flags) (map (written_field r) c.fields) true f → HasField c f
  field_there c f s = by (slice_get c.fields f.1) refl
    where
      none_some : (x : Field) → ◌≡◌ {A = Option Field} None (Some x) → ⊥
      none_some x e = cc

      by : (o : Option Field) → slice_get c.fields f.1 ≡ o → HasField c f
      by None e = absurd (none_some s.x (sym (get_map (written_field r) c.fields f.1 ∙ ap (option_map (written_field r)) e) ∙ s.is))
      by (Some g) e = record { field = g; is = e }

  value_fits_layer : (class : ℕ) (g : Field) → field_fits p class g ≡ true → (v : EncValue) → g.first ≡ Some v → layer_fits p (field_letter p (slice_get p.fields g.name)) (out-EncValue v) ≡ true
  unfolding field_fits
  value_fits_layer class g fit v e =
      let own : first_value_fits p g.flags g.name g.first ≡ true = (and_parts (first_value_fits p g.flags g.name g.first) (marks_fit p g.marks) (and_parts (is_class_number (class_of_field (slice_get p.fields g.name)) class) (first_value_fits p g.flags g.name g.first && marks_fit p g.marks) fit).1).0 in
      let some : first_value_fits p g.flags g.name (Some v) ≡ true = subst (λ o. first_value_fits p g.flags g.name o ≡ true) e own in
      (and_parts (is_static g.flags) (first_fits p (field_letter p (slice_get p.fields g.name)) v) some).1

  field_letter_fits : (class : ℕ) (g : Field) → field_fits p class g ≡ true → IsFieldLetter (field_letter p (slice_get p.fields g.name))
  unfolding field_fits
  field_letter_fits class g fit = by (slice_get p.fields g.name) refl
    where
      own : is_class_number (class_of_field (slice_get p.fields g.name)) class ≡ true
      own = (and_parts (is_class_number (class_of_field (slice_get p.fields g.name)) class) (first_value_fits p g.flags g.name g.first && marks_fit p g.marks) fit).0

      by : (o : Option FieldName) → slice_get p.fields g.name ≡ o → IsFieldLetter (field_letter p (slice_get p.fields g.name))
      by None e = clash (is_class_number (class_of_field (slice_get p.fields g.name)) class) own (ap (λ (o : Option FieldName). is_class_number (class_of_field o) class) e)
      by (Some x) e = field_letters p tables g.name x e

  one_fits : (k : ℕ) (c : Class) (f : Numbered) → slice_get p.classes k ≡ Some c → Spot (λ f. f.name) (λ f. is_static f.flags) (map (written_field r) c.fields) true f → FitsFirst q c (λ f. one_value p r (slice_get c.fields f.1)) (λ f. field_at r c f.1) f
  one_fits k c f is s =
      let there : HasField c f = field_there c f s in
      let g : Field = there.field in
      let fit = all_at (field_fits p c.name) c.fields f.1 g (fits k c is).fields there.is in
      let at : slice_get (map (written_field r) c.fields) f.1 ≡ Some (written_field r g) = get_map (written_field r) c.fields f.1 ∙ ap (option_map (written_field r)) there.is in
      let field : field_at r c f.1 ≡ written_field r g = ap field_or at in
      let letter : ℕ = field_letter p (slice_get p.fields g.name) in
      let value : one_value p r (slice_get c.fields f.1) ≡ new_value r (value_or letter g.first) = ap (one_value p r) there.is in
      let kept : letter_of_field q (written_field r g).name ≡ letter = field_kept p i few h g.name (field_used p k c g is (in_got c.fields f.1 g there.is)) in
      let both = one_suits p r letter g.first (field_letter_fits c.name g fit) (λ v e. value_fits_layer c.name g fit v e) in
      record {
        suits = subst (λ y. is_of (letter_of_field q y.name) (one_value p r (slice_get c.fields f.1)) ≡ true) (sym field) (subst (λ v. is_of (letter_of_field q (written_field r g).name) v ≡ true) (sym value) (subst (λ l. is_of l (new_value r (value_or letter g.first)) ≡ true) (sym kept) both.0));
        first = ap (λ (y : Field). y.first) field ∙ (both.1 ∙ ap first_of (sym value));
        none = λ none. ap (λ (y : Field). y.first) field ∙ ap (option_map (new_value r)) (no_first g.first refl (sym (ap has_first there.is) ∙ none));
      }
    where
      no_first : (o : Option EncValue) → o ≡ o → is_some o ≡ false → o ≡ None
      no_first None e n = refl
      no_first (Some v) e n = absurd cc

  all_fit : (k : ℕ) (c : Class) (fs : List Numbered) → slice_get p.classes k ≡ Some c → AllByRecursion (Spot (λ f. f.name) (λ f. is_static f.flags) (map (written_field r) c.fields) true) fs → AllByRecursion (FitsFirst q c (λ f. one_value p r (slice_get c.fields f.1)) (λ f. field_at r c f.1)) fs
  all_fit k c [] is spots = tt
  all_fit k c (f ∷ fs) is spots = (one_fits k c f is spots.0, all_fit k c fs is spots.1)

  plan_firsts : (plan : Plan) → HasPlan p i few h fits plan → AreFirsts q (first_values p r plan) (map (λ f. field_at r plan.class f.1) (take plan.statics plan.fields))
  plan_firsts plan x =
      let fs : List Numbered = take plan.statics plan.fields in
      subst (λ c. AreFirsts q (map (λ f. one_value p r (slice_get c.fields f.1)) (take (first_count c 0 0 fs) fs)) (map (λ f. field_at r c f.1) fs)) (sym x.planned.class)
      (firsts_are q x.c (λ f. one_value p r (slice_get x.c.fields f.1)) (λ f. field_at r x.c f.1) fs (all_fit x.k x.c fs x.is_class x.planned.static_spots))

  pub all_firsts : (offsets : ClassOffsets) (place code_at lines_at : ℕ) (sets refs : List ℕ) (ps : List Plan) → AllByRecursion (HasPlan p i few h fits) ps → Both (HasFirsts q r) ps (class_parts r offsets (first_values p r) place code_at lines_at sets refs ps)
  all_firsts offsets place code_at lines_at sets refs [] a = tt
  all_firsts offsets place code_at lines_at sets refs (plan ∷ ps) a =
      (plan_firsts plan a.0, all_firsts offsets (suc place) (codes_behind code_at plan.methods) (lines_behind lines_at plan.methods) (behind_class plan sets) (drop (length plan.methods) refs) ps a.1)
