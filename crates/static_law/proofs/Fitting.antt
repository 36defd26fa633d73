-- What a well-formed program's classes and members hold of annotations, first values and instructions.
use Rattle.std.proofs.Common.{◌≡◌, ℕ, ◌+◌, ◌-◌, Bool, true, List, [], ◌∷◌, Some, Option, refl, sym, ap, ◌∙◌, subst}
use Rattle.std.specs.Prelude.{◌&&◌, not, slice_get, length, Contains}
use Rattle.std.specs.List.{list_all, enumerate_from}
use Rattle.insn_set.specs.Spelling.{is_encodable}
use Rattle.insn_set.specs.declared.form.Insn.{Insn}
use Rattle.program_model.specs.BodyRules.{body_fits, ends, follows, insn_fits, is_caught, leaves, targets_fit}
use Rattle.program_model.specs.Distinct.{own_field_key, own_method_key, all_differ}
use Rattle.program_model.specs.LineRules.{lines_fit}
use Rattle.program_model.specs.MemberRules.{class_fits, class_of_field, class_of_method, code_fits, field_fits, fields_fit, first_value_fits, frame_fits, is_class_number, lacks_code, method_fits, methods_fit, source_fits, types_of_class_fit}
use Rattle.program_model.specs.Neighbours.{neighbours}
use Rattle.program_model.specs.OperandRules.{numbers_fit, registers_fit}
use Rattle.program_model.specs.RegionRules.{may_begin, regions_fit}
use Rattle.program_model.specs.ValueRules.{mark_fits, marks_fit, note_fits, typed_in_order, value_fits}
use Rattle.program_model.specs.declared.body.Body.{Body}
use Rattle.program_model.specs.declared.program.Class.{Class}
use Rattle.program_model.specs.declared.program.Field.{Field}
use Rattle.program_model.specs.declared.program.Method.{Method}
use Rattle.program_model.specs.declared.program.Program.{Program}
use Rattle.program_model.specs.declared.value.Mark.{Mark}
use Rattle.class_defs.proofs.WellFormed.{and_left, and_right}
use Rattle.run_laws.specs.Holds.{Each}

module _ (p : Program) where
  -- ---- annotations

  pub marks_each : (ms : List Mark) → marks_fit p ms ≡ true → Each (λ (m : Mark). note_fits (value_fits 64 p) p m.note ≡ true) ms
  unfolding marks_fit mark_fits
  marks_each ms h = each ms (and_left (list_all (mark_fits p) ms) (list_all typed_in_order (neighbours ms)) h)
    where
      each : (ms : List Mark) → list_all (mark_fits p) ms ≡ true → Each (λ (m : Mark). note_fits (value_fits 64 p) p m.note ≡ true) ms
      each [] h = tt
      each (m ∷ ms) h = (and_left (mark_fits p m) (list_all (mark_fits p) ms) h, each ms (and_right (mark_fits p m) (list_all (mark_fits p) ms) h))

  -- ---- members

  pub record FieldHolds (f : Field) : Type 0 where
    pub first : first_value_fits p f.flags f.name f.first ≡ true
    pub marks : marks_fit p f.marks ≡ true

  pub field_holds : (class : ℕ) (f : Field) → field_fits p class f ≡ true → FieldHolds f
  unfolding field_fits
  field_holds class f h = let r = and_right (is_class_number (class_of_field (slice_get p.fields f.name)) class) (first_value_fits p f.flags f.name f.first && marks_fit p f.marks) h in
      record { first = and_left (first_value_fits p f.flags f.name f.first) (marks_fit p f.marks) r; marks = and_right (first_value_fits p f.flags f.name f.first) (marks_fit p f.marks) r }

  pub record MethodHolds (m : Method) : Type 0 where
    pub marks : marks_fit p m.marks ≡ true
    pub parameters : list_all (marks_fit p) m.parameter_marks ≡ true
    pub code : code_fits p m m.body ≡ true

  pub method_holds : (class : ℕ) (m : Method) → method_fits p class m ≡ true → MethodHolds m
  unfolding method_fits
  method_holds class m h =
      let a = is_class_number (class_of_method (slice_get p.methods m.name)) class && code_fits p m m.body in
      let b = marks_fit p m.marks && list_all (marks_fit p) m.parameter_marks in
      record {
        marks = and_left (marks_fit p m.marks) (list_all (marks_fit p) m.parameter_marks) (and_right a b h);
        parameters = and_right (marks_fit p m.marks) (list_all (marks_fit p) m.parameter_marks) (and_right a b h);
        code = and_right (is_class_number (class_of_method (slice_get p.methods m.name)) class) (code_fits p m m.body) (and_left a b h);
      }

  pub class_marks : (c : Class) → class_fits p c ≡ true → marks_fit p c.marks ≡ true
  unfolding class_fits
  class_marks c h = and_right (source_fits p c.source) (marks_fit p c.marks) (and_right (types_of_class_fit p c) (source_fits p c.source && marks_fit p c.marks)
      (and_left (types_of_class_fit p c && (source_fits p c.source && marks_fit p c.marks)) (fields_fit p c.name c.fields && methods_fit p c.name c.methods) h))

  pub class_source : (c : Class) → class_fits p c ≡ true → source_fits p c.source ≡ true
  unfolding class_fits
  class_source c h = and_left (source_fits p c.source) (marks_fit p c.marks) (and_right (types_of_class_fit p c) (source_fits p c.source && marks_fit p c.marks)
      (and_left (types_of_class_fit p c && (source_fits p c.source && marks_fit p c.marks)) (fields_fit p c.name c.fields && methods_fit p c.name c.methods) h))

  pub class_fields : (c : Class) → class_fits p c ≡ true → list_all (field_fits p c.name) c.fields ≡ true
  unfolding class_fits fields_fit
  class_fields c h = and_left (list_all (field_fits p c.name) c.fields) _ (and_left (fields_fit p c.name c.fields) (methods_fit p c.name c.methods)
      (and_right (types_of_class_fit p c && (source_fits p c.source && marks_fit p c.marks)) (fields_fit p c.name c.fields && methods_fit p c.name c.methods) h))

  pub class_methods : (c : Class) → class_fits p c ≡ true → list_all (method_fits p c.name) c.methods ≡ true
  unfolding class_fits methods_fit
  class_methods c h = and_left (list_all (method_fits p c.name) c.methods) _ (and_right (fields_fit p c.name c.fields) (methods_fit p c.name c.methods)
      (and_right (types_of_class_fit p c && (source_fits p c.source && marks_fit p c.marks)) (fields_fit p c.name c.fields && methods_fit p c.name c.methods) h))

  -- ---- code

  pub body_of_code : (m : Method) (b : Body) → m.body ≡ Some b → code_fits p m m.body ≡ true → body_fits p b ≡ true
  body_of_code m b e h = and_left (body_fits p b) (lines_fit (length b.insns) m.lines)
      (and_right (frame_fits p m b) (body_fits p b && lines_fit (length b.insns) m.lines)
      (and_right (not (lacks_code m.flags)) (frame_fits p m b && (body_fits p b && lines_fit (length b.insns) m.lines)) (sym (ap (code_fits p m) e) ∙ h)))

  insn_numbers : (b : Body) (at : ℕ × Insn) → insn_fits p b at ≡ true → numbers_fit at.1 p ≡ true
  unfolding insn_fits
  insn_numbers b at h = and_right (registers_fit at.1 b.registers) (numbers_fit at.1 p) (and_right (is_encodable at.1) (registers_fit at.1 b.registers && numbers_fit at.1 p)
      (and_left (is_encodable at.1 && (registers_fit at.1 b.registers && numbers_fit at.1 p)) (targets_fit b.insns at.1 && (leaves at.0 at.1 && is_caught b.regions at.0 at.1)) h))

  pub insns_numbers : (b : Body) → body_fits p b ≡ true → Each (λ i. numbers_fit i p ≡ true) b.insns
  unfolding body_fits
  insns_numbers b h = each 0 b.insns (and_left (list_all (insn_fits p b) (enumerate_from 0 b.insns)) (regions_fit p b.insns b.regions)
      (and_right (list_all follows (neighbours b.insns)) (list_all (insn_fits p b) (enumerate_from 0 b.insns) && regions_fit p b.insns b.regions)
      (and_right (may_begin (slice_get b.insns 0) && ends (slice_get b.insns (length b.insns - 1))) (list_all follows (neighbours b.insns) && (list_all (insn_fits p b) (enumerate_from 0 b.insns) && regions_fit p b.insns b.regions)) h)))
    where
      each : (n : ℕ) (is : List Insn) → list_all (insn_fits p b) (enumerate_from n is) ≡ true → Each (λ i. numbers_fit i p ≡ true) is
      each n [] h = tt
      each n (i ∷ is) h = (
        insn_numbers b (n, i) (and_left (insn_fits p b (n, i)) (list_all (insn_fits p b) (enumerate_from (n + 1) is)) h),
        each (n + 1) is (and_right (insn_fits p b (n, i)) (list_all (insn_fits p b) (enumerate_from (n + 1) is)) h),
      )
