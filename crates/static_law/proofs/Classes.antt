-- Methods and classes name what those of the static program of pass_defs are.
use Rattle.std.proofs.Common.{◌≡◌, ℕ, zero, suc, ◌+◌, ◌*◌, ◌<◌, Bool, true, false, true≢false, List, [], ◌∷◌, map, Option, Some, None, refl, sym, ap, ◌∙◌, subst, arith, eq-eqb}
use std.Path.{fun_ext}
use Rattle.std.specs.Prelude.{◌==◌, is_some, slice_get, length, bit_or, if◌then◌else◌, Contains}
use Rattle.std.specs.Int.RustNames.{bit_and}
use Rattle.std.specs.Int.{bit_at}
use Rattle.std.specs.List.{list_all}
use Rattle.std.specs.Option.{option_map}
use Rattle.std.proofs.lemmas.Nat.{or_disjoint}
use Rattle.std.proofs.lemmas.Nat.Bits.{and_pow, bit_at-lt}
use Rattle.lemmas.proofs.Lists.{contains_here, contains_there}
use Rattle.lemmas.proofs.Options.{none_some, some_same}
use Rattle.program_model.specs.MemberRules.{class_fits, field_fits, is_static, source_fits}
use Rattle.program_model.specs.OperandRules.{numbers_fit}
use Rattle.program_model.specs.ValueRules.{marks_fit}
use Rattle.program_model.specs.declared.body.Body.{Body}
use Rattle.program_model.specs.declared.flags.Flags.{Flags}
use Rattle.program_model.specs.declared.program.Class.{Class}
use Rattle.program_model.specs.declared.program.Field.{Field}
use Rattle.program_model.specs.declared.program.Method.{Method}
use Rattle.program_model.specs.declared.program.Program.{Program}
use Rattle.program_model.specs.declared.value.Mark.{Mark}
use Rattle.class_defs.proofs.WellFormed.{MethodFits, all_at, below, class_parts}
use Rattle.dalvik_defs.specs.Names.{Text}
use Rattle.dalvik_defs.specs.Naming.{body_of, field_at, mark_of, method_at, named, named_class, named_field, named_method, text_at, type_at, value_of}
use Rattle.dalvik_defs.specs.Silence.{key_in}
use Rattle.dalvik_defs.specs.declared.encoded.NamedMark.{NamedMark}
use Rattle.dalvik_defs.specs.declared.encoded.NamedValue.{NamedValue}
use Rattle.dalvik_defs.specs.declared.names.FieldKey.{FieldKey}
use Rattle.dalvik_defs.specs.declared.names.MethodKey.{MethodKey}
use Rattle.dalvik_defs.specs.declared.program.NamedBody.{NamedBody}
use Rattle.dalvik_defs.specs.declared.program.NamedClass.{NamedClass}
use Rattle.dalvik_defs.specs.declared.program.NamedField.{NamedField}
use Rattle.dalvik_defs.specs.declared.program.NamedMethod.{NamedMethod}
use Rattle.run_laws.specs.Holds.{Each}
use Rattle.name_bridge.proofs.Tables.{Sound, method_is}
use Rattle.pass_defs.specs.Loose.{loosened, new_key, new_parameter_marks, new_signature, static_body, static_class, static_method}
use Rattle.removal_bridge.proofs.Listed.{Image, image, field_fits_at, method_fits_at}
use Rattle.static_law.specs.Edited.{EditedClass, IsEdited, IsPlanned, LetsClass, body_edited, flags_edited, loose_in, marks_edited, marks_name, method_edited, self_edited}
use Rattle.static_law.proofs.Fitting.{body_of_code, class_marks, class_source, field_holds, insns_numbers, method_holds}
use Rattle.static_law.proofs.Tables.{field_same, loose_number, method_same_at, text_same, type_same}
use Rattle.static_law.proofs.Values.{all_marks_same, first_same, marks_same}
use Rattle.static_law.proofs.Forms.{body_same, inside_table}

-- ---- lists

pub placed_below : {A : Type 0} (xs : List A) (n : ℕ) (x : A) → slice_get xs n ≡ Some x → n < length xs
placed_below [] n x e = none_some x e
placed_below (y ∷ ys) zero x e = omega arith
placed_below (y ∷ ys) (suc n) x e = let r = placed_below ys n x e in omega (arith, r)

pub contains_at : {A : Type 0} (xs : List A) (n : ℕ) (x : A) → slice_get xs n ≡ Some x → Contains xs x
contains_at [] n x e = none_some x e
contains_at (y ∷ xs) zero x e = subst (Contains (y ∷ xs)) (some_same y x e) (contains_here y xs)
contains_at (y ∷ xs) (suc n) x e = contains_there y xs x (contains_at xs n x e)

map_each : {A B : Type 0} (f g : A → B) (xs : List A) → ((j : ℕ) (x : A) → slice_get xs j ≡ Some x → f x ≡ g x) → map f xs ≡ map g xs
map_each f g [] h = refl
map_each f g (x ∷ xs) h = ap (λ y. y ∷ map f xs) (h 0 x refl) ∙ ap (λ ys. g x ∷ ys) (map_each f g xs (λ j z e. h (suc j) z e))

twice_each : {A B C D : Type 0} (f : B → D) (g : A → B) (h : C → D) (k : A → C) (xs : List A) → ((j : ℕ) (x : A) → slice_get xs j ≡ Some x → f (g x) ≡ h (k x)) → map f (map g xs) ≡ map h (map k xs)
twice_each f g h k [] e = refl
twice_each f g h k (x ∷ xs) e = ap (λ y. y ∷ map f (map g xs)) (e 0 x refl) ∙ ap (λ ys. h (k x) ∷ ys) (twice_each f g h k xs (λ j z i. e (suc j) z i))

-- the bit of static, where it isn't set
static_bit : (f : Flags) → is_static f ≡ false → bit_or f.0 8 ≡ f.0 + 8
static_bit f e = or_disjoint f.0 8 (by (bit_at f.0 3) (and_pow f.0 3) (bit_at-lt f.0 3))
  where
    by : (b : ℕ) → bit_and f.0 8 ≡ b * 8 → b < 2 → bit_and f.0 8 ≡ 0
    by zero h lt = h
    by (suc zero) h lt = absurd (true≢false (sym (eq-eqb (bit_and f.0 8) 8 (omega (arith, h))) ∙ e))
    by (suc (suc b)) h lt = absurd (omega (arith, lt))

module _ (given target : ℕ → Option ℕ) (p q : Program) (s : Sound p) (edited : IsEdited given target p q) (planned : IsPlanned p given target) where
  abbrev loose : MethodKey → Bool
  loose = loose_in p given

  abbrev Stays : ℕ → Type 0
  Stays n = given n ≡ None

  -- ---- a method, at its places

  module _ (i : ℕ) (c : Class) (e : slice_get p.classes i ≡ Some c) (j : ℕ) (m : Method) (f : slice_get c.methods j ≡ Some m) where
    there : MethodFits p c.name m
    there = (class_parts p s i c e).methods j m f

    -- its name in its class is that of its number
    pub key_same : key_in (named_class p c) (named_method p m) ≡ method_at p m.name
    key_same = ap (λ (t : Text). record (method_at p m.name) { class = t }) (sym (ap (type_at p) there.owner))
        ∙ (ap (λ (k : MethodKey). record k { class = type_at p there.entry.class }) (method_is p s m.name there.entry there.is) ∙ sym (method_is p s m.name there.entry there.is))

    marks_hold : marks_fit p m.marks ≡ true
    marks_hold = (method_holds p c.name m (method_fits_at p s i c e j m f)).marks

    parameters : list_all (marks_fit p) m.parameter_marks ≡ true
    parameters = (method_holds p c.name m (method_fits_at p s i c e j m f)).parameters

    -- with its name and its code
    abbrev body_now : Option NamedBody
    body_now = option_map (static_body (named p) loose) (option_map (body_of p) m.body)

    code_same : option_map (body_of q) (option_map (body_edited given target) m.body) ≡ body_now
    code_same = by m.body refl
      where
        by : (o : Option Body) → m.body ≡ o → option_map (body_of q) (option_map (body_edited given target) o) ≡ option_map (static_body (named p) loose) (option_map (body_of p) o)
        by None b = refl
        by (Some x) b = ap (λ y. Some y) (body_same given target p q s edited planned x
            (insns_numbers p x (body_of_code p m x b (method_holds p c.name m (method_fits_at p s i c e j m f)).code)))

    module _ (marked : marks_name Stays m.marks) (unmarked : Each (marks_name Stays) m.parameter_marks) (receives : is_some (given m.name) ≡ true → is_static m.flags ≡ false) where
      abbrev by_marks : List NamedMark → List (List NamedMark) → ℕ → MethodKey → NamedMethod
      by_marks ms pms flags k = record { name = k.name; signature = k.signature; flags = flags; marks = ms; parameter_marks = pms; body = body_now; lines = m.lines }

      named_now : (x : Method) → x.name ≡ m.name → x.marks ≡ m.marks → x.body ≡ option_map (body_edited given target) m.body → x.lines ≡ m.lines
          → named_method q x ≡ by_marks (map (mark_of p) m.marks) (map (map (mark_of q)) x.parameter_marks) x.flags.0 (method_at q m.name)
      named_now x a b d l =
          ap (λ (n : ℕ). record (named_method q x) { name = (method_at q n).name; signature = (method_at q n).signature }) a
          ∙ (ap (λ (ms : List Mark). record (by_marks (map (mark_of q) ms) (map (map (mark_of q)) x.parameter_marks) x.flags.0 (method_at q m.name)) { body = option_map (body_of q) x.body; lines = x.lines }) b
          ∙ (ap (λ (ms : List NamedMark). record (by_marks ms (map (map (mark_of q)) x.parameter_marks) x.flags.0 (method_at q m.name)) { body = option_map (body_of q) x.body; lines = x.lines })
          (marks_same given target p q s edited planned.inside m.marks marks_hold marked)
          ∙ (ap (λ (o : Option Body). record (by_marks (map (mark_of p) m.marks) (map (map (mark_of q)) x.parameter_marks) x.flags.0 (method_at q m.name)) { body = option_map (body_of q) o; lines = x.lines }) d
          ∙ (ap (λ (o : Option NamedBody). record (by_marks (map (mark_of p) m.marks) (map (map (mark_of q)) x.parameter_marks) x.flags.0 (method_at q m.name)) { body = o; lines = x.lines }) code_same
          ∙ ap (λ ls. record (by_marks (map (mark_of p) m.marks) (map (map (mark_of q)) x.parameter_marks) x.flags.0 (method_at q m.name)) { lines = ls }) l))))

      all_unmarked : map (map (mark_of q)) m.parameter_marks ≡ map (map (mark_of p)) m.parameter_marks
      all_unmarked = all_marks_same given target p q s edited planned.inside m.parameter_marks parameters unmarked

      more_marks : (pms : List (List Mark)) → map (map (mark_of q)) (marks_edited given target pms) ≡ new_parameter_marks (map (map (mark_of q)) pms)
      more_marks [] = refl
      more_marks (ms ∷ mss) = refl

      -- what it becomes, by whether it is made static
      abbrev edited_by : Bool → Method
      edited_by b = record (elim b as (λ b. Method) [ true ↦ record m { flags = flags_edited given target m.flags; parameter_marks = marks_edited given target m.parameter_marks } | false ↦ m ]) { body = option_map (body_edited given target) m.body }

      abbrev old : NamedMethod
      old = record (named_method p m) { body = body_now }

      abbrev wanted_by : Bool → MethodKey → NamedMethod
      wanted_by b k = if b then loosened k old else old

      by_flag : (b : Bool) → is_some (given m.name) ≡ b → named_method q (edited_by b) ≡ wanted_by b (method_at p m.name)
      by_flag true g =
          named_now (edited_by true) refl refl refl refl
          ∙ (ap (λ (pms : List (List NamedMark)). by_marks (map (mark_of p) m.marks) pms (bit_or m.flags.0 8) (method_at q m.name)) (more_marks m.parameter_marks ∙ ap new_parameter_marks all_unmarked)
          ∙ (ap (λ (n : ℕ). by_marks (map (mark_of p) m.marks) (new_parameter_marks (map (map (mark_of p)) m.parameter_marks)) n (method_at q m.name)) (static_bit m.flags (receives g))
          ∙ ap (by_marks (map (mark_of p) m.marks) (new_parameter_marks (map (map (mark_of p)) m.parameter_marks)) (m.flags.0 + 8))
          (method_same_at given target p q s edited planned.inside m.name ∙ ap (λ (b : Bool). if b then new_key (method_at p m.name) else method_at p m.name) g)))
      by_flag false g =
          named_now (edited_by false) refl refl refl refl
          ∙ (ap (λ (pms : List (List NamedMark)). by_marks (map (mark_of p) m.marks) pms m.flags.0 (method_at q m.name)) all_unmarked
          ∙ ap (by_marks (map (mark_of p) m.marks) (map (map (mark_of p)) m.parameter_marks) m.flags.0)
          (method_same_at given target p q s edited planned.inside m.name ∙ ap (λ (b : Bool). if b then new_key (method_at p m.name) else method_at p m.name) g))

      pub method_same : named_method q (method_edited given target m) ≡ static_method (named p) loose (named_class p c) (named_method p m)
      method_same =
          by_flag (is_some (given m.name)) refl
          ∙ (ap (λ (b : Bool). wanted_by b (method_at p m.name)) (sym (loose_number given p s m.name (placed_below p.methods m.name there.entry there.is)))
          ∙ sym (ap (λ (k : MethodKey). wanted_by (loose k) k) key_same))

  -- ---- a class of the program, at its place

  module _ (i : ℕ) (c : Class) (e : slice_get p.classes i ≡ Some c) (d : Class) (now : EditedClass given target c d) (lets : LetsClass given c) where
    fits : class_fits p c ≡ true
    fits = all_at (class_fits p) p.classes i c s.classes_fit e

    abbrev static : NamedClass
    static = static_class (named p) loose (named_class p c)

    source_same : option_map (text_at q) c.source ≡ option_map (text_at p) c.source
    source_same = by c.source (class_source p c fits)
      where
        by : (o : Option ℕ) → source_fits p o ≡ true → option_map (text_at q) o ≡ option_map (text_at p) o
        by None h = refl
        by (Some n) h = ap (λ t. Some t) (text_same given target p q s edited n (below n (length p.strings) h))

    field_named : (f : Field) → field_fits p c.name f ≡ true → marks_name Stays f.marks → named_field q f ≡ named_field p f
    field_named f h n = let holds = field_holds p c.name f h in
        ap (λ (k : FieldKey). record (named_field q f) { name = k.name; kind = k.kind }) (field_same given target p q s edited f.name)
        ∙ (ap (λ (v : Option NamedValue). record (named_field p f) { first = v; marks = map (mark_of q) f.marks }) (first_same given target p q s edited planned.inside f holds.first)
        ∙ ap (λ (ms : List NamedMark). record (named_field p f) { marks = ms }) (marks_same given target p q s edited planned.inside f.marks holds.marks n))

    fields_same : map (named_field q) c.fields ≡ map (named_field p) c.fields
    fields_same = map_each (named_field q) (named_field p) c.fields (λ j f h. field_named f (field_fits_at p s i c e j f h) (lets.fields f (contains_at c.fields j f h)))

    pub methods_same : map (named_method q) (map (method_edited given target) c.methods) ≡ static.methods
    methods_same = twice_each (named_method q) (method_edited given target) (static_method (named p) loose (named_class p c)) (named_method p) c.methods
        (λ j m h. let r = lets.methods m (contains_at c.methods j m h) in method_same i c e j m h r.0 r.1 (lets.receivers m (contains_at c.methods j m h)))

    pub class_same : named_class q d ≡ record static { methods = map (named_method q) d.methods }
    class_same =
        ap (λ (x : Class). record (named_class q x) { methods = map (named_method q) d.methods }) now.rest
        ∙ (ap (λ (f : ℕ → Text). record (named_class q c) { name = f c.name; superclass = f c.superclass; interfaces = map f c.interfaces; methods = map (named_method q) d.methods }) (fun_ext (type_same given target p q s edited))
        ∙ (ap (λ (o : Option Text). record (named_class p c) { source = o; marks = map (mark_of q) c.marks; fields = map (named_field q) c.fields; methods = map (named_method q) d.methods }) source_same
        ∙ (ap (λ (ms : List NamedMark). record (named_class p c) { marks = ms; fields = map (named_field q) c.fields; methods = map (named_method q) d.methods })
        (marks_same given target p q s edited planned.inside c.marks (class_marks p c fits) lets.marks)
        ∙ ap (λ (fs : List NamedField). record (named_class p c) { fields = fs; methods = map (named_method q) d.methods }) fields_same)))
