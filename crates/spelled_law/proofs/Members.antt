-- The members of a class that is read are those of its class data, with what its directory and its first values say.
use Rattle.std.proofs.Common.{◌≡◌, ◌<◌, ◌⊎◌, inl, inr, ℕ, suc, Bool, true, false, cond, eqb, List, [], ◌∷◌, ◌++◌, map, length, Option, Some, None, is_none, refl, sym, ap, subst, ◌∙◌, arith, true≢false}
use Rattle.std.specs.Prelude.{◌&&◌, ◌||◌, ◌==◌, slice_get}
use Rattle.std.specs.List.{All, AllByRecursion}
use Rattle.std.specs.Option.{option_map}
use Rattle.std.proofs.lemmas.Bool.{eq-eqb}
use Rattle.std.proofs.lemmas.List.Elements.{All-nil, All-cons}
use Rattle.lemmas.proofs.Bools.{and_parts}
use Rattle.program_model.specs.Texts.{type_text, text_or_none, first_unit, letter_of}
use Rattle.program_model.specs.MemberRules.{is_static, is_private, lacks_code, is_direct, is_class_number, class_of_method, field_letter, name_of_method}
use Rattle.program_model.specs.declared.flags.Flags.{Flags}
use Rattle.program_model.specs.declared.pools.FieldName.{FieldName}
use Rattle.program_model.specs.declared.pools.MethodName.{MethodName}
use Rattle.program_model.specs.declared.program.Class.{Class}
use Rattle.program_model.specs.declared.program.Field.{Field}
use Rattle.program_model.specs.declared.program.Method.{Method}
use Rattle.program_model.specs.declared.program.Program.{Program}
use Rattle.program_model.specs.declared.value.EncValue.{EncValue, out-EncValue}
use Rattle.dex_defs.specs.Annotations.{Directory, AreMarksOf, AreParameterMarksOf, offset_for}
use Rattle.dex_defs.specs.ClassDefs.{AreFields, IsMethod, AreMethods}
use Rattle.dex_defs.specs.Values.{AreFirsts}
use Rattle.dex_defs.specs.Values as defs
use Rattle.dex_read.specs.declared.class_data.Listed.{Listed}
use Rattle.dex_read.specs.declared.members.Owner.{Owner}
use Rattle.dex_read.specs.Ascending.{Rises}
use Rattle.dex_read.specs.ClassData.{agree, place_in, is_direct_entry}
use Rattle.dex_read.specs.Classes.{field_with}
use Rattle.dex_read.specs.Code.{method_with}
use Rattle.dex_read.specs.Directory.{with_marks, with_own_marks, with_parameter_marks}
use Rattle.dex_read.specs.FirstValues.{is_of}
use Rattle.dex_read.specs.Tables.{sizes_in}
use Rattle.file_laws.specs.ClassData.{entry_of, FieldSuits, MethodSuits}
use Rattle.spelled_law.proofs.Codes.{IsMade}
use Rattle.spelled_law.proofs.Firsts.{layer_same, first_same, Begun}
use Rattle.spelled_law.proofs.Turning.{Over, Along, Differs, Distinct, Turned, settled}

-- ---- entries of different numbers

after_first : (place before number : ℕ) → (suc place ≡ 0) ⊎ (before < number) → before < number
after_first place before number (inl e) = absurd cc
after_first place before number (inr h) = h

lower_list : (low high : ℕ) (es : List Listed) → low < high → AllByRecursion (λ e. high < e.number) es → AllByRecursion (λ e. low < e.number) es
lower_list low high [] less h = tt
lower_list low high (e ∷ es) less h = (omega (arith, less, h.0), lower_list low high es less h.1)

list_above : (place before : ℕ) (es : List Listed) → Rises (suc place) before es → AllByRecursion (λ e. before < e.number) es
list_above place before [] h = tt
list_above place before (e ∷ es) h = let less = after_first place before e.number h.0 in (less, lower_list before e.number es less (list_above (suc place) e.number es h.1))

differs_above : (number : ℕ) (es : List Listed) → AllByRecursion (λ e. number < e.number) es → Differs number es
differs_above number [] h = tt
differs_above number (e ∷ es) h = ((λ is. omega (arith, is, h.0)), differs_above number es h.1)

pub rises_distinct : (place before : ℕ) (es : List Listed) → Rises place before es → Distinct es
rises_distinct place before [] h = tt
rises_distinct place before (e ∷ es) h = (differs_above e.number es (list_above place e.number es h.1), rises_distinct (suc place) e.number es h.1)

none_before : (o : Option ℕ) → option_map suc o ≡ None → o ≡ None
none_before None h = refl
none_before (Some k) h = absurd cc

none_parts : (number : ℕ) (a : Listed) (front : List Listed) → place_in number (a ∷ front) ≡ None → (a.number ≡ number → ⊥) × (place_in number front ≡ None)
none_parts number a front h = by_first (eqb a.number number) refl h
  where
    by_first : (b : Bool) → eqb a.number number ≡ b → cond b (Some 0) (option_map suc (place_in number front)) ≡ None → (a.number ≡ number → ⊥) × (place_in number front ≡ None)
    by_first true b h = absurd cc
    by_first false b h = ((λ is. true≢false (sym (eq-eqb a.number number is) ∙ b)), none_before (place_in number front) h)

-- none of the second list is in the first
abbrev pub Apart : List Listed → List Listed → Type 0
Apart front bs = AllByRecursion (λ b. place_in b.number front ≡ None) bs

apart_first : (a : Listed) (front bs : List Listed) → Apart (a ∷ front) bs → Differs a.number bs × Apart front bs
apart_first a front [] h = (tt, tt)
apart_first a front (b ∷ bs) h =
    let one = none_parts b.number a front h.0 in
    let rest = apart_first a front bs h.1 in
    (((λ is. one.0 (sym is)), rest.0), (one.1, rest.1))

differs_append : (number : ℕ) (front bs : List Listed) → Differs number front → Differs number bs → Differs number (front ++ bs)
differs_append number [] bs h g = g
differs_append number (a ∷ front) bs h g = (h.0, differs_append number front bs h.1 g)

pub distinct_append : (front bs : List Listed) → Distinct front → Distinct bs → Apart front bs → Distinct (front ++ bs)
distinct_append [] bs h g apart = g
distinct_append (a ∷ front) bs h g apart =
    let first = apart_first a front bs apart in
    (differs_append a.number front bs h.0 first.0, distinct_append front bs h.1 g first.1)

none_is : {X : Type 0} (o : Option X) → is_none o ≡ true → o ≡ None
none_is None h = refl
none_is (Some x) h = absurd cc

agreed : (a b : Bool) → agree a b ≡ true → a ≡ b
agreed true b h = sym h
agreed false true h = absurd cc
agreed false false h = refl

module _ (p : Program) (owner : Owner) where
  pub fields_apart : (static : Bool) (earlier es : List Listed) → AllByRecursion (FieldSuits p owner static earlier) es → Apart earlier es
  fields_apart static earlier [] h = tt
  fields_apart static earlier (e ∷ es) h =
      (none_is (place_in e.number earlier) (and_parts _ _ (and_parts _ _ h.0.1).1).1, fields_apart static earlier es h.1)

  pub fields_static : (static : Bool) (earlier es : List Listed) → AllByRecursion (FieldSuits p owner static earlier) es → AllByRecursion (λ e. is_static e.flags ≡ static) es
  fields_static static earlier [] h = tt
  fields_static static earlier (e ∷ es) h =
      (agreed (is_static e.flags) static (and_parts _ _ (and_parts _ _ h.0.1).1).0, fields_static static earlier es h.1)

  last_of_four : (a b c d : Bool) → (a && (b && (c && d))) ≡ true → d ≡ true
  last_of_four a b c d h = (and_parts c d (and_parts b (c && d) (and_parts a (b && (c && d)) h).1).1).1

  pub methods_apart : (direct : Bool) (earlier es : List Listed) → AllByRecursion (MethodSuits p owner direct earlier) es → Apart earlier es
  methods_apart direct earlier [] h = tt
  methods_apart direct earlier (e ∷ es) h =
      (none_is (place_in e.number earlier) (last_of_four (is_class_number (class_of_method (slice_get p.methods e.number)) owner.kind) (agree (is_direct_entry p e) direct) (agree (e.code == 0) (lacks_code e.flags)) (is_none (place_in e.number earlier)) h.0.1), methods_apart direct earlier es h.1)

  pub methods_direct : (direct : Bool) (earlier es : List Listed) → AllByRecursion (MethodSuits p owner direct earlier) es → AllByRecursion (λ e. is_direct_entry p e ≡ direct) es
  methods_direct direct earlier [] h = tt
  methods_direct direct earlier (e ∷ es) h =
      (agreed (is_direct_entry p e) direct (and_parts _ _ (and_parts _ _ h.0.1).1).0, methods_direct direct earlier es h.1)

-- ---- texts are those of the tables

module _ (p : Program) (cs : List Class) where
  abbrev q : Program
  q = record p { classes = cs }

  text_same : (o : Option ℕ) → text_or_none q o ≡ text_or_none p o
  text_same None = refl
  text_same (Some n) = refl

  letter_same : (k : ℕ) → letter_of q k ≡ letter_of p k
  unfolding letter_of type_text
  letter_same k = ap first_unit (text_same (slice_get p.types k))

  field_same : (o : Option FieldName) → field_letter q o ≡ field_letter p o
  field_same None = refl
  field_same (Some f) = letter_same f.kind

  name_same : (o : Option MethodName) → name_of_method q o ≡ name_of_method p o
  name_same None = refl
  name_same (Some m) = refl

  -- ---- fields

  module _ (bytes : List ℕ) (d : Directory) where
    -- a field with its annotations and no first value
    pub record HasField (e : Listed) (f : Field) : Type 0 where
      number : f.name ≡ e.number
      flags : f.flags ≡ e.flags
      first : f.first ≡ None
      marks : AreMarksOf bytes (sizes_in p) (offset_for e.number d.fields) f.marks

    -- and whatever first value
    pub record IsOwn (e : Listed) (f : Field) : Type 0 where
      number : f.name ≡ e.number
      flags : f.flags ≡ e.flags
      marks : AreMarksOf bytes (sizes_in p) (offset_for e.number d.fields) f.marks

    pub fields_along : (es : List Listed) (ys : List Field) → Over (Turned with_marks (AreMarksOf bytes (sizes_in p)) d.fields) es (map field_with es) ys → Along HasField es ys
    fields_along [] [] h = tt
    fields_along [] (y ∷ ys) h = absurd h
    fields_along (e ∷ es) [] h = absurd h
    fields_along (e ∷ es) (y ∷ ys) h =
        let s = settled with_marks (AreMarksOf bytes (sizes_in p)) [] d.fields e (field_with e) (field_with e) y refl refl refl h.0 in
        (subst (HasField e) (sym s.1) (record { number = refl; flags = refl; first = refl; marks = s.2 }), fields_along es ys h.1)

    pub own_of : (es : List Listed) (xs : List Field) → Along HasField es xs → Along IsOwn es xs
    own_of [] [] h = tt
    own_of [] (x ∷ xs) h = absurd h
    own_of (e ∷ es) [] h = absurd h
    own_of (e ∷ es) (x ∷ xs) h = (record { number = h.0.number; flags = h.0.flags; marks = h.0.marks }, own_of es xs h.1)

    pub begun_own : (vs : List EncValue) (es : List Listed) (xs ys : List Field) → Along HasField es xs → Begun p vs xs ys → Along IsOwn es ys
    begun_own [] es xs ys h g = subst (Along IsOwn es) (sym g) (own_of es xs h)
    begun_own (v ∷ vs) [] [] ys h g = absurd g
    begun_own (v ∷ vs) [] (x ∷ xs) ys h g = absurd h
    begun_own (v ∷ vs) (e ∷ es) [] ys h g = absurd h
    begun_own (v ∷ vs) (e ∷ es) (x ∷ xs) [] h g = absurd g
    begun_own (v ∷ vs) (e ∷ es) (x ∷ xs) (y ∷ ys) h g =
        (subst (IsOwn e) (sym g.1) (record { number = h.0.number; flags = h.0.flags; marks = h.0.marks }), begun_own vs es xs ys h.1 g.2)

    pub none_first : (es : List Listed) (xs : List Field) → Along HasField es xs → All (λ (f : Field). f.first ≡ None) xs
    none_first [] [] h = All-nil (λ (f : Field). f.first ≡ None)
    none_first [] (x ∷ xs) h = absurd h
    none_first (e ∷ es) [] h = absurd h
    none_first (e ∷ es) (x ∷ xs) h = All-cons (λ (f : Field). f.first ≡ None) x xs h.0.first (none_first es xs h.1)

    suits_too : (number : ℕ) (v : EncValue) → is_of (field_letter p (slice_get p.fields number)) v ≡ true → defs.is_of (defs.letter_of_field q number) v ≡ true
    suits_too number v h =
        ap (λ (k : ℕ). defs.is_of k v) (field_same (slice_get p.fields number))
        ∙ sym (layer_same (field_letter p (slice_get p.fields number)) (out-EncValue v)) ∙ h

    pub begun_firsts : (vs : List EncValue) (es : List Listed) (xs ys : List Field) → Along HasField es xs → Begun p vs xs ys → AreFirsts q vs ys
    begun_firsts [] es xs ys h g = subst (All (λ (f : Field). f.first ≡ None)) (sym g) (none_first es xs h)
    begun_firsts (v ∷ vs) es [] ys h g = absurd g
    begun_firsts (v ∷ vs) es (x ∷ xs) [] h g = absurd g
    begun_firsts (v ∷ vs) [] (x ∷ xs) (y ∷ ys) h g = absurd h
    begun_firsts (v ∷ vs) (e ∷ es) (x ∷ xs) (y ∷ ys) h g = (
      ap (λ (n : ℕ). defs.is_of (defs.letter_of_field q n) v) (ap (λ (f : Field). f.name) g.1) ∙ suits_too x.name v g.0,
      ap (λ (f : Field). f.first) g.1 ∙ first_same v,
      begun_firsts vs es xs ys h.1 g.2,
    )

    pub are_fields : (es : List Listed) (ys : List Field) → Along IsOwn es ys → AreFields bytes (sizes_in p) d (map entry_of es) ys
    are_fields [] [] h = tt
    are_fields [] (y ∷ ys) h = absurd h
    are_fields (e ∷ es) [] h = absurd h
    are_fields (e ∷ es) (y ∷ ys) h = (record { number = h.0.number; flags = ap (λ (f : Flags). f.0) h.0.flags; marks = h.0.marks }, are_fields es ys h.1)

    pub all_static : (static : Bool) (es : List Listed) (ys : List Field) → AllByRecursion (λ e. is_static e.flags ≡ static) es → Along IsOwn es ys → All (λ (f : Field). is_static f.flags ≡ static) ys
    all_static static [] [] s h = All-nil (λ (f : Field). is_static f.flags ≡ static)
    all_static static [] (y ∷ ys) s h = absurd h
    all_static static (e ∷ es) [] s h = absurd h
    all_static static (e ∷ es) (y ∷ ys) s h =
        All-cons (λ (f : Field). is_static f.flags ≡ static) y ys (ap (λ (f : Flags). is_static f) h.0.flags ∙ s.0) (all_static static es ys s.1 h.1)

    -- ---- methods

    pub record HasMethod (e : Listed) (m : Method) : Type 0 where
      number : m.name ≡ e.number
      flags : m.flags ≡ e.flags
      is : IsMethod bytes (sizes_in p) (length p.types) d (entry_of e) m

    one_method : (e : Listed) (x t y : Method) → IsMade bytes p e x → Turned with_own_marks (AreMarksOf bytes (sizes_in p)) d.methods e x t
        → Turned with_parameter_marks (AreParameterMarksOf bytes (sizes_in p)) d.parameters e t y → HasMethod e y
    one_method e x t y made own parameters =
        let base = method_with e made.body made.lines in
        let a = settled with_own_marks (AreMarksOf bytes (sizes_in p)) [] d.methods e base x t made.is refl refl own in
        let b = settled with_parameter_marks (AreParameterMarksOf bytes (sizes_in p)) [] d.parameters e (with_own_marks a.0 base) t y a.1 refl refl parameters in
        subst (HasMethod e) (sym b.1) (record {
          number = refl;
          flags = refl;
          is = record { number = refl; flags = refl; marks = a.2; parameter_marks = b.2; code = made.code };
        })

    pub methods_along : (es : List Listed) (xs ts ys : List Method) → Along (IsMade bytes p) es xs → Over (Turned with_own_marks (AreMarksOf bytes (sizes_in p)) d.methods) es xs ts
        → Over (Turned with_parameter_marks (AreParameterMarksOf bytes (sizes_in p)) d.parameters) es ts ys → Along HasMethod es ys
    methods_along [] [] [] [] h f g = tt
    methods_along [] [] [] (y ∷ ys) h f g = absurd g
    methods_along [] [] (t ∷ ts) ys h f g = absurd f
    methods_along [] (x ∷ xs) ts ys h f g = absurd h
    methods_along (e ∷ es) [] ts ys h f g = absurd h
    methods_along (e ∷ es) (x ∷ xs) [] ys h f g = absurd f
    methods_along (e ∷ es) (x ∷ xs) (t ∷ ts) [] h f g = absurd g
    methods_along (e ∷ es) (x ∷ xs) (t ∷ ts) (y ∷ ys) h f g = (one_method e x t y h.0 f.0 g.0, methods_along es xs ts ys h.1 f.1 g.1)

    pub are_methods : (es : List Listed) (ys : List Method) → Along HasMethod es ys → AreMethods bytes (sizes_in p) (length p.types) d (map entry_of es) ys
    are_methods [] [] h = tt
    are_methods [] (y ∷ ys) h = absurd h
    are_methods (e ∷ es) [] h = absurd h
    are_methods (e ∷ es) (y ∷ ys) h = (h.0.is, are_methods es ys h.1)

    direct_too : (e : Listed) (m : Method) → m.name ≡ e.number → m.flags ≡ e.flags → is_direct q m ≡ is_direct_entry p e
    unfolding is_direct
    direct_too e m name flags =
        ap (λ (f : Flags). (is_static f || is_private f) || first_unit (name_of_method q (slice_get p.methods m.name)) == 60) flags
        ∙ ap (λ (n : ℕ). (is_static e.flags || is_private e.flags) || first_unit (name_of_method q (slice_get p.methods n)) == 60) name
        ∙ ap (λ (t : List ℕ). (is_static e.flags || is_private e.flags) || first_unit t == 60) (name_same (slice_get p.methods e.number))

    pub all_direct : (direct : Bool) (es : List Listed) (ys : List Method) → AllByRecursion (λ e. is_direct_entry p e ≡ direct) es → Along HasMethod es ys → All (λ (m : Method). is_direct q m ≡ direct) ys
    all_direct direct [] [] s h = All-nil (λ (m : Method). is_direct q m ≡ direct)
    all_direct direct [] (y ∷ ys) s h = absurd h
    all_direct direct (e ∷ es) [] s h = absurd h
    all_direct direct (e ∷ es) (y ∷ ys) s h =
        All-cons (λ (m : Method). is_direct q m ≡ direct) y ys (direct_too e y h.0.number h.0.flags ∙ s.0) (all_direct direct es ys s.1 h.1)
