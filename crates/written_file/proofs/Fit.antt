-- The parts of the rule of well-formed programs.
use Rattle.std.proofs.Common.{◌≡◌, ◌≤◌, ℕ, List, [], ◌∷◌, length, map, refl, sym, ap, arith}
use Rattle.std.specs.Prelude.{Bool, true, not, ◌&&◌, nat_le, sum_by, slice_get, Some}
use Rattle.std.specs.List.{list_all}
use Rattle.std.proofs.lemmas.Bool.{and_parts, and_from, leb-true}
use Rattle.lemmas.proofs.Lists.{all_at}
use Rattle.program_model.specs.ProgramRules.{is_well_formed}
use Rattle.program_model.specs.TableRules.{tables_are_short, texts_are_short, entries_fit, entries_differ, tables_fit}
use Rattle.program_model.specs.Cells.{cells_of}
use Rattle.program_model.specs.Items.{items_of}
use Rattle.program_model.specs.InterfaceRules.{interfaces_stand_free}
use Rattle.program_model.specs.Neighbours.{neighbours}
use Rattle.program_model.specs.Distinct.{own_field_key, own_method_key, all_differ}
use Rattle.program_model.specs.Texts.{has_type, letter_of, is_class, type_text}
use Rattle.program_model.specs.ValueRules.{marks_fit}
use Rattle.program_model.specs.MemberRules.{is_class_type, is_object, types_of_class_fit, source_fits, class_fits, field_fits, fields_in_order, fields_fit, method_fits, methods_in_order, methods_fit}
use Rattle.program_model.specs.declared.program.Class.{Class}
use Rattle.program_model.specs.declared.program.Program.{Program}

pub record Parts (p : Program) : Type 0 where
  pub short : tables_are_short p ≡ true
  pub texts : sum_by length p.strings ≤ 16777216
  pub entries : entries_fit p ≡ true
  pub differ : entries_differ p ≡ true
  pub items : items_of p ≤ 16777216
  pub classes : list_all (class_fits p) p.classes ≡ true

pub parts_of : (p : Program) → is_well_formed p ≡ true → Parts p
unfolding is_well_formed tables_fit texts_are_short
parts_of p h =
    let a = and_parts (tables_fit p) ((nat_le (cells_of p) 67108864 && (nat_le (items_of p) 16777216 && interfaces_stand_free p)) && list_all (class_fits p) p.classes) h in
    let b = and_parts (tables_are_short p && texts_are_short p) (entries_fit p && entries_differ p) a.0 in
    let c = and_parts (tables_are_short p) (texts_are_short p) b.0 in
    let d = and_parts (entries_fit p) (entries_differ p) b.1 in
    let e = and_parts (nat_le (cells_of p) 67108864 && (nat_le (items_of p) 16777216 && interfaces_stand_free p)) (list_all (class_fits p) p.classes) a.1 in
    let f = and_parts (nat_le (cells_of p) 67108864) (nat_le (items_of p) 16777216 && interfaces_stand_free p) e.0 in
    let g = and_parts (nat_le (items_of p) 16777216) (interfaces_stand_free p) f.1 in
    record {
      short = c.0;
      texts = leb-true (sum_by length p.strings) 16777216 c.1;
      entries = d.0;
      differ = d.1;
      items = leb-true (items_of p) 16777216 g.0;
      classes = e.1;
    }

-- ---- of a class

pub record FitsClass (p : Program) (c : Class) : Type 0 where
  pub name : has_type p c.name ≡ true
  pub above : list_all (has_type p) (c.superclass ∷ c.interfaces) ≡ true
  pub source : source_fits p c.source ≡ true
  pub marks : marks_fit p c.marks ≡ true
  pub fields : list_all (field_fits p c.name) c.fields ≡ true
  pub field_order : list_all fields_in_order (neighbours c.fields) ≡ true
  pub fields_differ : all_differ own_field_key c.fields ≡ true
  pub methods : list_all (method_fits p c.name) c.methods ≡ true
  pub method_order : list_all (methods_in_order p) (neighbours c.methods) ≡ true
  pub methods_differ : all_differ own_method_key c.methods ≡ true

types_are : (p : Program) (kinds : List ℕ) → list_all (is_class_type p) kinds ≡ true → list_all (has_type p) kinds ≡ true
types_are p [] h = refl
types_are p (k ∷ ks) h =
    let a = and_parts (is_class_type p k) (list_all (is_class_type p) ks) h in
    and_from (has_type p k) (list_all (has_type p) ks) (and_parts (has_type p k) (is_class (letter_of p k)) a.0).0 (types_are p ks a.1)

pub class_parts : (p : Program) (c : Class) → class_fits p c ≡ true → FitsClass p c
unfolding class_fits types_of_class_fit fields_fit methods_fit
class_parts p c h =
    let a = and_parts (types_of_class_fit p c && (source_fits p c.source && marks_fit p c.marks)) (fields_fit p c.name c.fields && methods_fit p c.name c.methods) h in
    let b = and_parts (types_of_class_fit p c) (source_fits p c.source && marks_fit p c.marks) a.0 in
    let d = and_parts (source_fits p c.source) (marks_fit p c.marks) b.1 in
    let t = and_parts (is_class_type p c.name && not (is_object (type_text p c.name))) (is_class_type p c.superclass && list_all (is_class_type p) c.interfaces) b.0 in
    let n = and_parts (is_class_type p c.name) (not (is_object (type_text p c.name))) t.0 in
    let e = and_parts (fields_fit p c.name c.fields) (methods_fit p c.name c.methods) a.1 in
    let f = and_parts (list_all (field_fits p c.name) c.fields) (list_all fields_in_order (neighbours c.fields) && all_differ own_field_key c.fields) e.0 in
    let g = and_parts (list_all fields_in_order (neighbours c.fields)) (all_differ own_field_key c.fields) f.1 in
    let m = and_parts (list_all (method_fits p c.name) c.methods) (list_all (methods_in_order p) (neighbours c.methods) && all_differ own_method_key c.methods) e.1 in
    let k = and_parts (list_all (methods_in_order p) (neighbours c.methods)) (all_differ own_method_key c.methods) m.1 in
    record {
      name = (and_parts (has_type p c.name) (is_class (letter_of p c.name)) n.0).0;
      above = types_are p (c.superclass ∷ c.interfaces) t.1;
      source = d.0;
      marks = d.1;
      fields = f.0;
      field_order = g.0;
      fields_differ = g.1;
      methods = m.0;
      method_order = k.0;
      methods_differ = k.1;
    }

pub class_at_fits : (p : Program) (place : ℕ) (c : Class) → Parts p → slice_get p.classes place ≡ Some c → FitsClass p c
class_at_fits p place c h e = class_parts p c (all_at (class_fits p) p.classes place c h.classes e)
