-- The bodies of a well-formed program keep to their registers and to fields of values.
use Rattle.std.proofs.Common.{◌≡◌, ℕ, zero, suc, ◌+◌, ◌-◌, ◌<◌, Bool, true, false, true≢false, List, [], ◌∷◌, length, Option, Some, None, refl, sym, ap, ◌∙◌, subst, ltb-true, arith}
use Rattle.std.specs.Prelude.{◌&&◌, not, map, Contains, slice_get, slice_index_or}
use Rattle.std.specs.List.{list_all, enumerate_from}
use Rattle.std.specs.Option.{option_map}
use Rattle.lemmas.proofs.Bools.{and_right, clash}
use Rattle.lemmas.proofs.Lists.{get_map}
use Rattle.lemmas.proofs.Options.{before_map, none_some, some_same}
use Rattle.insn_set.specs.Registers.{reads_of, writes_of}
use Rattle.insn_set.specs.Spelling.{is_encodable}
use Rattle.insn_set.specs.declared.form.Insn.{Insn}
use Rattle.insn_set.specs.declared.form.Insn.TheVariants as insn
use Rattle.program_model.specs.Neighbours.{neighbours}
use Rattle.program_model.specs.Texts.{has_string, has_type, has_field, text_or_none, first_unit, type_text, letter_of, is_void as is_void_letter}
use Rattle.program_model.specs.OperandRules.{registers_fit, numbers_fit}
use Rattle.program_model.specs.RegionRules.{may_begin, regions_fit}
use Rattle.program_model.specs.BodyRules.{ends, follows, targets_fit, leaves, is_caught, insn_fits, body_fits}
use Rattle.program_model.specs.LineRules.{lines_fit}
use Rattle.program_model.specs.ValueRules.{marks_fit}
use Rattle.program_model.specs.TableRules.{type_fits, proto_fits, field_id_fits, method_id_fits, entries_fit, entries_differ, tables_are_short, texts_are_short, tables_fit}
use Rattle.program_model.specs.Distinct.{own_method_key, all_differ}
use Rattle.program_model.specs.MemberRules.{fields_fit, class_of_method, is_class_number, lacks_code, frame_fits, code_fits, method_fits, methods_in_order, methods_fit, types_of_class_fit, source_fits, class_fits}
use Rattle.program_model.specs.ProgramRules.{is_well_formed}
use Rattle.program_model.proofs.Formed.{formed}
use Rattle.program_model.specs.declared.body.Body.{Body}
use Rattle.program_model.specs.declared.program.Method.{Method}
use Rattle.program_model.specs.declared.program.Class.{Class}
use Rattle.program_model.specs.declared.program.Program.{Program}
use Rattle.dalvik_defs.specs.Names.{is_void}
use Rattle.dalvik_defs.specs.Naming.{type_at, field_at, form_of, body_of, named_method, named_class, named}
use Rattle.dalvik_defs.specs.declared.names.FieldKey.{FieldKey}
use Rattle.dalvik_defs.specs.declared.program.NamedBody.{NamedBody}
use Rattle.dalvik_defs.specs.declared.program.NamedMethod.{NamedMethod}
use Rattle.pass_defs.specs.Bare.{reads, writes}
use Rattle.program_laws.proofs.ChangedLists.{and_left}
use Rattle.program_laws.proofs.Moved.{image}
use Rattle.form_laws.specs.Changes.{field_of}
use Rattle.form_laws.specs.Solid.{IsSolid, AllSolid}
use Rattle.form_laws.proofs.Operands.{either, reads_below, writes_below}

-- ---- lists

-- what is changed to something is something
all_at : {A : Type 0} (f : A → Bool) (xs : List A) (x : A) (k : ℕ) → k < length xs → slice_index_or xs k x ≡ x → list_all f xs ≡ true → f x ≡ true
all_at f [] x k lt e h = absurd (omega (arith, lt))
all_at f (y ∷ ys) x zero lt e h = ap f (sym e) ∙ and_left (f y) (list_all f ys) h
all_at f (y ∷ ys) x (suc k) lt e h = all_at f ys x k (omega (arith, lt)) e (and_right (f y) (list_all f ys) h)

all_got : {A : Type 0} (f : A → Bool) (xs : List A) (n : ℕ) → n < length xs → list_all f xs ≡ true → (x : A) × ((slice_get xs n ≡ Some x) × (f x ≡ true))
all_got f [] n lt h = absurd (omega (arith, lt))
all_got f (y ∷ ys) zero lt h = (y, (refl, and_left (f y) (list_all f ys) h))
all_got f (y ∷ ys) (suc n) lt h = all_got f ys n (omega (arith, lt)) (and_right (f y) (list_all f ys) h)

module _ (p : Program) where
  -- ---- fields

  fields_are_values : tables_fit p ≡ true → list_all (field_id_fits p) p.fields ≡ true
  unfolding tables_fit entries_fit
  fields_are_values h = and_left (list_all (field_id_fits p) p.fields) (list_all (method_id_fits p) p.methods) (and_right (list_all (proto_fits p) p.protos) _
      (and_right (list_all (type_fits p) p.types) _ (and_left (entries_fit p) (entries_differ p) (and_right (tables_are_short p && texts_are_short p) (entries_fit p && entries_differ p) h))))

  -- a type is void by its letter where it is by its text
  void_same : (kind : ℕ) → is_void (type_at p kind) ≡ is_void_letter (letter_of p kind)
  unfolding letter_of type_text
  void_same kind = at (slice_get p.types kind)
    where
      text : (xs : List (List ℕ)) (n : ℕ) → is_void (elim (slice_get xs n) as (λ o. List ℕ) [ Some t ↦ t | None ↦ [] ]) ≡ is_void_letter (first_unit (slice_index_or xs n []))
      text [] n = refl
      text ([] ∷ xs) zero = refl
      text ((u ∷ us) ∷ xs) zero = refl
      text (x ∷ xs) (suc n) = text xs n

      at : (o : Option ℕ) → is_void (elim o as (λ o. List ℕ) [ Some t ↦ elim (slice_get p.strings t) as (λ o. List ℕ) [ Some t ↦ t | None ↦ [] ] | None ↦ [] ]) ≡ is_void_letter (first_unit (text_or_none p o))
      at None = refl
      at (Some t) = text p.strings t

  not_true : (b : Bool) → not b ≡ true → b ≡ false
  not_true true e = clash false e refl
  not_true false e = refl

  field_value : tables_fit p ≡ true → (n : ℕ) → has_field p n ≡ true → is_void (field_at p n).kind ≡ false
  field_value h n e =
      let r = all_got (field_id_fits p) p.fields n (ltb-true n (length p.fields) e) (fields_are_values h) in
      let f = r.0 in
      ap (λ o. is_void (elim o as (λ o. FieldKey) [ Some f ↦ record { class = type_at p f.class; name = elim (slice_get p.strings f.name) as (λ o. List ℕ) [ Some t ↦ t | None ↦ [] ]; kind = type_at p f.kind } | None ↦ record { class = []; name = []; kind = [] } ]).kind) r.1.0
      ∙ void_same f.kind ∙ not_true (is_void_letter (letter_of p f.kind)) (and_right (has_string p f.name) _ (and_right (has_type p f.class && has_type p f.kind) _ r.1.1))

  -- the field that an instruction reads
  field_read : tables_fit p ≡ true → (i : Insn) → numbers_fit i p ≡ true → (q : FieldKey) → field_of (form_of p i) ≡ Some q → is_void q.kind ≡ false
  unfolding numbers_fit
  field_read h (insn.InstanceGet item to on field) e q j = subst (λ q. is_void q.kind ≡ false) (some_same (field_at p field) q j) (field_value h field e)
  field_read h (insn.StaticGet item to field) e q j = subst (λ q. is_void q.kind ≡ false) (some_same (field_at p field) q j) (field_value h field e)
  field_read h i e q j = none_some q j

  -- ---- registers

  reads_same : (i : Insn) (r : ℕ) → reads (form_of p i) r ≡ reads_of i r
  reads_same insn.Nop r = refl
  reads_same i r = refl

  writes_same : (i : Insn) (r : ℕ) → writes (form_of p i) r ≡ writes_of i r
  writes_same insn.Nop r = refl
  writes_same i r = refl

  -- ---- a body

  module _ (b : Body) (fits : body_fits p b ≡ true) (tables : tables_fit p ≡ true) where
    abbrev code : NamedBody
    code = body_of p b

    insns_fit : list_all (insn_fits p b) (enumerate_from 0 b.insns) ≡ true
    unfolding body_fits
    insns_fit = and_left (list_all (insn_fits p b) (enumerate_from 0 b.insns)) (regions_fit p b.insns b.regions) (and_right (list_all follows (neighbours b.insns)) _
        (and_right (may_begin (slice_get b.insns 0) && ends (slice_get b.insns (length b.insns - 1))) _ fits))

    Fit : Insn → Type 0
    Fit i = (registers_fit i b.registers ≡ true) × (numbers_fit i p ≡ true)

    one_fits : (k : ℕ) (i : Insn) → insn_fits p b (k, i) ≡ true → Fit i
    unfolding insn_fits Fit
    one_fits k i h =
        let operands = and_right (is_encodable i) (registers_fit i b.registers && numbers_fit i p) (and_left (is_encodable i && (registers_fit i b.registers && numbers_fit i p)) (targets_fit b.insns i && (leaves k i && is_caught b.regions k i)) h) in
        (and_left (registers_fit i b.registers) (numbers_fit i p) operands, and_right (registers_fit i b.registers) (numbers_fit i p) operands)

    each_fits : (is : List Insn) (k n : ℕ) (i : Insn) → list_all (insn_fits p b) (enumerate_from k is) ≡ true → slice_get is n ≡ Some i → Fit i
    each_fits [] k n i h e = none_some i e
    each_fits (j ∷ is) k zero i h e = subst Fit (some_same j i e) (one_fits k j (and_left (insn_fits p b (k, j)) (list_all (insn_fits p b) (enumerate_from (k + 1) is)) h))
    each_fits (j ∷ is) k (suc n) i h e = each_fits is (k + 1) n i (and_right (insn_fits p b (k, j)) (list_all (insn_fits p b) (enumerate_from (k + 1) is)) h) e

    body_solid : IsSolid code
    unfolding Fit
    body_solid = record {
      room = λ n f r e u.
          let i = before_map (form_of p) (slice_get b.insns n) f (sym (get_map (form_of p) b.insns n) ∙ e) in
          let h = (each_fits b.insns 0 n i.0 insns_fit i.1.0).0 in
          either (reads f r) (writes f r) u
          (λ j. reads_below b.registers r i.0 h (sym (reads_same i.0 r) ∙ ap (λ f. reads f r) i.1.1 ∙ j))
          (λ j. writes_below b.registers r i.0 h (sym (writes_same i.0 r) ∙ ap (λ f. writes f r) i.1.1 ∙ j));
      fields = λ n f q e j.
          let i = before_map (form_of p) (slice_get b.insns n) f (sym (get_map (form_of p) b.insns n) ∙ e) in
          field_read tables i.0 (each_fits b.insns 0 n i.0 insns_fit i.1.0).1 q (ap field_of i.1.1 ∙ j);
    }

  -- ---- a program

  program_classes : is_well_formed p ≡ true → list_all (class_fits p) p.classes ≡ true
  program_classes h = (formed p h).classes

  program_tables : is_well_formed p ≡ true → tables_fit p ≡ true
  program_tables h = (formed p h).tables

  class_methods : (c : Class) → class_fits p c ≡ true → list_all (method_fits p c.name) c.methods ≡ true
  unfolding class_fits methods_fit
  class_methods c h =
      let members = and_right (types_of_class_fit p c && (source_fits p c.source && marks_fit p c.marks)) (fields_fit p c.name c.fields && methods_fit p c.name c.methods) h in
      and_left (list_all (method_fits p c.name) c.methods) (list_all (methods_in_order p) (neighbours c.methods) && all_differ own_method_key c.methods) (and_right (fields_fit p c.name c.fields) (methods_fit p c.name c.methods) members)

  method_code : (k : ℕ) (m : Method) → method_fits p k m ≡ true → code_fits p m m.body ≡ true
  unfolding method_fits
  method_code k m h = and_right (is_class_number (class_of_method (slice_get p.methods m.name)) k) (code_fits p m m.body)
      (and_left (is_class_number (class_of_method (slice_get p.methods m.name)) k && code_fits p m m.body) (marks_fit p m.marks && list_all (marks_fit p) m.parameter_marks) h)

  code_body : (m : Method) (b : Body) → code_fits p m (Some b) ≡ true → body_fits p b ≡ true
  code_body m b h =
      let rest = and_right (not (lacks_code m.flags)) (frame_fits p m b && (body_fits p b && lines_fit (length b.insns) m.lines)) h in
      and_left (body_fits p b) (lines_fit (length b.insns) m.lines) (and_right (frame_fits p m b) (body_fits p b && lines_fit (length b.insns) m.lines) rest)

  in_method : tables_fit p ≡ true → (m : Method) (b : NamedBody) → code_fits p m m.body ≡ true → option_map (body_of p) m.body ≡ Some b → IsSolid b
  in_method t m b h e =
      let r = before_map (body_of p) m.body b e in
      subst IsSolid r.1.1 (body_solid r.0 (code_body m r.0 (subst (λ o. code_fits p m o ≡ true) r.1.0 h)) t)

  in_class : tables_fit p ≡ true → (c : Class) (m : NamedMethod) (b : NamedBody) → class_fits p c ≡ true → Contains (map (named_method p) c.methods) m → m.body ≡ Some b → IsSolid b
  in_class t c m b h i e =
      let r = image (named_method p) c.methods m i.0 i.1 i.2 in
      in_method t r.0 b (method_code c.name r.0 (all_at (method_fits p c.name) c.methods r.0 r.1.0.0 r.1.0.1 r.1.0.2 (class_methods c h))) (ap (λ x. x.body) r.1.1 ∙ e)

  pub well_formed_solid : is_well_formed p ≡ true → AllSolid (named p)
  well_formed_solid h c m b i j e =
      let r = image (named_class p) p.classes c i.0 i.1 i.2 in
      in_class (program_tables h) r.0 m b (all_at (class_fits p) p.classes r.0 r.1.0.0 r.1.0.1 r.1.0.2 (program_classes h)) (subst (λ x. Contains x.methods m) (sym r.1.1) j) e
