-- The annotations of a well-formed program name strings of its table.
use Rattle.std.proofs.Common.{◌≡◌, ℕ, zero, suc, true, List, [], ◌∷◌, length, map, sym, ap, subst, ltb-true}
use Rattle.std.specs.Prelude.{◌&&◌}
use Rattle.std.specs.List.{list_all, AllByRecursion}
use Rattle.std.proofs.lemmas.Bool.{and_parts}
use Rattle.dex_pools.specs.declared.used.Named.{Named}
use Rattle.dex_pools.specs.Used.{joined, names_of_value, value_names, element_names, note_names, mark_names, marks_names}
use Rattle.program_model.specs.declared.program.Field.{Field}
use Rattle.program_model.specs.declared.program.Method.{Method}
use Rattle.program_model.specs.declared.program.Class.{Class}
use Rattle.program_model.specs.declared.program.Program.{Program}
use Rattle.program_model.specs.declared.value.EncValue.{EncValue, EncValue-F, roll-EncValue, out-roll-EncValue}
use Rattle.program_model.specs.declared.value.EncValue.TheOpen as layer
use Rattle.program_model.specs.declared.value.EncValue.TheFolds as folds
use Rattle.program_model.specs.declared.value.EncValue.TheFolds.{ind-Note}
use Rattle.program_model.specs.declared.value.Element.{Element}
use Rattle.program_model.specs.declared.value.Note.{Note, Note-F, roll-Note, out-Note, out-roll-Note}
use Rattle.program_model.specs.declared.value.Mark.{Mark}
use Rattle.program_model.specs.Neighbours.{neighbours}
use Rattle.program_model.specs.Texts.{has_string, has_type}
use Rattle.program_model.specs.ValueRules.{element_fits, named_in_order, note_fits, names_fit, value_fits, mark_fits, typed_in_order, marks_fit}
use Rattle.program_model.specs.MemberRules.{field_fits, method_fits}
use Rattle.written_file.proofs.Fit.{FitsClass}
use Rattle.written_file.proofs.Naming.{element_named, value_named, note_named}
use Rattle.written_file.specs.Rises.{IsLow, MarksLow, ClassLow}
use Rattle.written_file.proofs.FineSets.{fields_marks, methods_marks, all_both}

module _ (p : Program) where
  abbrev AllLow : List Named → Type 0
  AllLow ns = AllByRecursion (IsLow (length p.strings)) ns

  abbrev V : EncValue → Type 0
  V v = (depth : ℕ) → value_fits depth p v ≡ true → AllLow (value_names v)

  abbrev E : Element → Type 0
  E e = (depth : ℕ) → element_fits (value_fits depth p) p e ≡ true → AllLow (element_names e)

  abbrev N : Note → Type 0
  N k = (depth : ℕ) → note_fits (value_fits depth p) p k ≡ true → AllLow (note_names k)

  values_low : (vs : List ((v : EncValue) × V v)) (depth : ℕ) → list_all (value_fits depth p) (map (λ e. e.0) vs) ≡ true → AllLow (joined (map value_names (map (λ e. e.0) vs)))
  unfolding joined
  values_low [] depth f = tt
  values_low (v ∷ vs) depth f =
      let both = and_parts (value_fits depth p v.0) (list_all (value_fits depth p) (map (λ e. e.0) vs)) f in
      all_both (IsLow (length p.strings)) (value_names v.0) (joined (map value_names (map (λ e. e.0) vs))) (v.1 depth both.0) (values_low vs depth both.1)

  elements_low : (es : List ((e : Element) × E e)) (depth : ℕ) → list_all (element_fits (value_fits depth p) p) (map (λ e. e.0) es) ≡ true → AllLow (joined (map element_names (map (λ e. e.0) es)))
  unfolding joined
  elements_low [] depth f = tt
  elements_low (e ∷ es) depth f =
      let both = and_parts (element_fits (value_fits depth p) p e.0) (list_all (element_fits (value_fits depth p) p) (map (λ x. x.0) es)) f in
      all_both (IsLow (length p.strings)) (element_names e.0) (joined (map element_names (map (λ x. x.0) es))) (e.1 depth both.0) (elements_low es depth both.1)

  abbrev names_in : EncValue-F EncValue Element Note → List Named
  names_in x = names_of_value (folds.map-EncValue EncValue Element Note (List Named) (List Named) (List Named) value_names element_names note_names x)

  abbrev plain : EncValue-F ((v : EncValue) × V v) ((e : Element) × E e) ((k : Note) × N k) → EncValue-F EncValue Element Note
  plain y = folds.map-EncValue ((v : EncValue) × V v) ((e : Element) × E e) ((k : Note) × N k) EncValue Element Note (λ e. e.0) (λ e. e.0) (λ e. e.0) y

  layer_low : (y : EncValue-F ((v : EncValue) × V v) ((e : Element) × E e) ((k : Note) × N k)) (depth : ℕ) → names_fit (value_fits depth p) p (plain y) ≡ true → AllLow (names_in (plain y))
  layer_low (layer.Byte x) depth f = tt
  layer_low (layer.Short x) depth f = tt
  layer_low (layer.Char x) depth f = tt
  layer_low (layer.Int x) depth f = tt
  layer_low (layer.Long x) depth f = tt
  layer_low (layer.Float x) depth f = tt
  layer_low (layer.Double x) depth f = tt
  layer_low (layer.Str k) depth f = (ltb-true k (length p.strings) f, tt)
  layer_low (layer.Class k) depth f = (tt, tt)
  layer_low (layer.Field k) depth f = (tt, tt)
  layer_low (layer.Method k) depth f = (tt, tt)
  layer_low (layer.Enum k) depth f = (tt, tt)
  layer_low (layer.Array vs) depth f = values_low vs depth f
  layer_low (layer.Annotation k) depth f = k.1 depth f
  layer_low layer.Null depth f = tt
  layer_low (layer.Bool b) depth f = tt

  value_step : (x : EncValue-F EncValue Element Note) (y : EncValue-F ((v : EncValue) × V v) ((e : Element) × E e) ((k : Note) × N k)) → plain y ≡ x → V (roll-EncValue x)
  value_step x y is zero f = absurd cc
  value_step x y is (suc depth) f =
      let fits : names_fit (value_fits depth p) p x ≡ true = subst (λ z. names_fit (value_fits depth p) p z ≡ true) (out-roll-EncValue x) f in
      let on : names_fit (value_fits depth p) p x ≡ true → AllLow (names_in x) = subst (λ z. names_fit (value_fits depth p) p z ≡ true → AllLow (names_in z)) is (layer_low y depth) in
      subst AllLow (sym (value_named x)) (on fits)

  element_step : (e : Element) → V e.value → E e
  element_step e v depth f =
      let both = and_parts (has_string p e.name) (value_fits depth p e.value) f in
      subst AllLow (sym (element_named e)) (ltb-true e.name (length p.strings) both.0, v depth both.1)

  note_step : (class : ℕ) (es : List ((e : Element) × E e)) → N (roll-Note (record { class = class; elements = map (λ e. e.0) es }))
  note_step class es depth f =
      let old : List Element = map (λ e. e.0) es in
      let given : Note-F EncValue Element Note = record { class = class; elements = old } in
      let out : out-Note (roll-Note given) ≡ given = out-roll-Note given in
      let fits : (has_type p class && (list_all (element_fits (value_fits depth p) p) old && list_all named_in_order (neighbours old))) ≡ true = subst (λ (z : Note-F EncValue Element Note). (has_type p z.class && (list_all (element_fits (value_fits depth p) p) z.elements && list_all named_in_order (neighbours z.elements))) ≡ true) out f in
      let a = and_parts (has_type p class) (list_all (element_fits (value_fits depth p) p) old && list_all named_in_order (neighbours old)) fits in
      let b = and_parts (list_all (element_fits (value_fits depth p) p) old) (list_all named_in_order (neighbours old)) a.1 in
      subst AllLow (sym (note_named class old)) (tt, elements_low es depth b.0)

  note_low : (k : Note) → N k
  note_low = ind-Note V E N value_step
      (λ x y is. element_step (record { name = x.name; value = x.value }) (subst V (ap (λ z. z.value) is) y.value.1))
      (λ x y is. subst (λ z. N (roll-Note z)) is (note_step y.class y.elements))

  mark_low : (m : Mark) → mark_fits p m ≡ true → AllLow (mark_names m)
  unfolding mark_fits
  mark_low m f = note_low m.note 64 f

  each_low : (ms : List Mark) → list_all (mark_fits p) ms ≡ true → MarksLow (length p.strings) ms
  each_low [] f = tt
  each_low (m ∷ ms) f = let both = and_parts (mark_fits p m) (list_all (mark_fits p) ms) f in all_both (IsLow (length p.strings)) (mark_names m) (marks_names ms) (mark_low m both.0) (each_low ms both.1)

  set_low : (ms : List Mark) → marks_fit p ms ≡ true → MarksLow (length p.strings) ms
  unfolding marks_fit
  set_low ms f = each_low ms (and_parts (list_all (mark_fits p) ms) (list_all typed_in_order (neighbours ms)) f).0

  sets_low : (mss : List (List Mark)) → list_all (marks_fit p) mss ≡ true → AllByRecursion (MarksLow (length p.strings)) mss
  sets_low [] f = tt
  sets_low (ms ∷ mss) f = let both = and_parts (marks_fit p ms) (list_all (marks_fit p) mss) f in (set_low ms both.0, sets_low mss both.1)

  fields_low : (class : ℕ) (fs : List Field) → list_all (field_fits p class) fs ≡ true → AllByRecursion (λ f. MarksLow (length p.strings) f.marks) fs
  fields_low class [] h = tt
  fields_low class (f ∷ fs) h = let both = and_parts (field_fits p class f) (list_all (field_fits p class) fs) h in (set_low f.marks (fields_marks p class f both.0), fields_low class fs both.1)

  methods_low : (class : ℕ) (ms : List Method) → list_all (method_fits p class) ms ≡ true → AllByRecursion (λ m. MarksLow (length p.strings) m.marks × AllByRecursion (MarksLow (length p.strings)) m.parameter_marks) ms
  methods_low class [] h = tt
  methods_low class (m ∷ ms) h =
      let both = and_parts (method_fits p class m) (list_all (method_fits p class) ms) h in
      let own = methods_marks p class m both.0 in
      ((set_low m.marks own.0, sets_low m.parameter_marks own.1), methods_low class ms both.1)

  pub class_low : (c : Class) → FitsClass p c → ClassLow (length p.strings) c
  class_low c fits = record { own = set_low c.marks fits.marks; fields = fields_low c.name c.fields fits.fields; methods = methods_low c.name c.methods fits.methods }
