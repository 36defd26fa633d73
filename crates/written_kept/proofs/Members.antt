-- Fields, methods and classes with new numbers keep their rules.
use Rattle.std.proofs.Common.{◌≡◌, ◌+◌, inl, ℕ, Bool, true, false, not, List, [], ◌∷◌, ◌++◌, length, map, refl, sym, ap, ap₂, subst, ◌∙◌, Option, Some, None, lt-ltb}
use Rattle.std.specs.Prelude.{◌&&◌, ◌||◌, ◌==◌, nat_eq, nat_le, nat_lt, slice_get, sum_by, if◌then◌else◌, option_and_then}
use Rattle.std.specs.Option.{option_map}
use Rattle.std.specs.List.{AllByRecursion, list_all, flat_map}
use Rattle.std.proofs.lemmas.Bool.{eq-eqb, eqb-true}
use Rattle.std.proofs.lemmas.List.Sums.{sum_by-cons}
use Rattle.lemmas.proofs.Bools.{and_both, and_left, and_right, clash}
use Rattle.lemmas.proofs.Lists.{got_short, map_long}
use Rattle.dex_pools.specs.declared.interner.Interner.{Interner}
use Rattle.dex_pools.specs.declared.used.Named.{Named}
use Rattle.dex_pools.specs.declared.used.Named.TheVariants as named
use Rattle.dex_pools.specs.Finds.{Ascends}
use Rattle.dex_pools.specs.Interned.{IsInterned}
use Rattle.dex_pools.specs.Numbering.{used_in}
use Rattle.dex_pools.specs.Used.{names_of_value, value_names, element_names, note_names, kind_names, first_names, marks_names, code_names, source_names, field_names, method_names, class_names}
use Rattle.program_model.specs.BodyRules.{body_fits}
use Rattle.program_model.specs.Distinct.{own_field_key, own_method_key, all_differ}
use Rattle.program_model.specs.LineRules.{lines_fit}
use Rattle.program_model.specs.MemberRules.{is_static, is_private, lacks_code, in_groups, class_of_field, is_class_number, field_letter, first_value_fits, field_fits, fields_in_order, fields_fit, class_of_method, name_of_method, is_direct, words_of, receiver_words, proto_of, takes_words, frame_fits, code_fits, method_fits, methods_in_order, methods_fit, is_class_type, is_object, types_of_class_fit, source_fits, class_fits}
use Rattle.program_model.specs.Neighbours.{neighbours}
use Rattle.program_model.specs.Texts.{has_string, has_type, has_field, has_method, type_text, first_unit, letter_of, is_class, is_wide, is_reference}
use Rattle.program_model.specs.ValueRules.{layer_fits, first_fits, marks_fit}
use Rattle.program_model.specs.declared.flags.Flags.{Flags}
use Rattle.program_model.specs.declared.body.Body.{Body}
use Rattle.program_model.specs.declared.pass.Renumber.{Renumber}
use Rattle.program_model.specs.declared.pools.Proto.{Proto}
use Rattle.program_model.specs.declared.pools.FieldName.{FieldName}
use Rattle.program_model.specs.declared.pools.MethodName.{MethodName}
use Rattle.program_model.specs.declared.program.Field.{Field}
use Rattle.program_model.specs.declared.program.Method.{Method}
use Rattle.program_model.specs.declared.program.Class.{Class}
use Rattle.program_model.specs.declared.program.Program.{Program}
use Rattle.program_model.specs.declared.value.EncValue.{EncValue, EncValue-F, roll-EncValue, out-EncValue, out-roll-EncValue}
use Rattle.program_model.specs.declared.value.EncValue.TheOpen as layer
use Rattle.program_model.specs.declared.value.EncValue.TheFolds as folds
use Rattle.program_model.specs.declared.value.EncValue.TheFolds.{ind-EncValue}
use Rattle.program_model.specs.declared.value.Element.{Element}
use Rattle.program_model.specs.declared.value.Note.{Note}
use Rattle.dex_defs.specs.Written.{in_order, new_string, new_type, new_proto, new_field, new_method, new_value, new_marks, new_body, written_proto, written_field_name, written_method_name, written_field, written_method, written_class, field_below, method_below, written_by}
use Rattle.write_laws.specs.Used.{IsUsed, IsShort, IsClosed}
use Rattle.write_laws.proofs.Closed.{used_closed}
use Rattle.write_laws.proofs.Marking.{all_left, all_right}
use Rattle.written_file.proofs.In.{In, in_flat, all_in, all_of}
use Rattle.written_file.proofs.Naming.{value_named}
use Rattle.written_file.proofs.Sorting.{Differ, news_differ}
use Rattle.written_file.proofs.News.{new_open, newly}
use Rattle.written_kept.proofs.Kept.{string_kept, type_kept, field_got, method_got, proto_got, string_same, type_same, letter_same, one_field, one_method}
use Rattle.written_kept.proofs.Lists.{order_all, order_tests, order_ascends, ascends_side, groups_total, differ_ordered, differ_all, all_named, all_map}
use Rattle.written_kept.proofs.Values.{tests_in, marks_now}
use Rattle.written_kept.proofs.Bodies.{body_now}

map_twice : {X Y Z : Type 0} (g : Y → Z) (f : X → Y) (xs : List X) → map g (map f xs) ≡ map (λ x. g (f x)) xs
map_twice g f [] = refl
map_twice g f (x ∷ xs) = ap (λ zs. g (f x) ∷ zs) (map_twice g f xs)

pub ascends_map : {X Y : Type 0} (f : X → Y) (s : X → X → Bool) (t : Y → Y → Bool) (P : X → Type 0) → ((x y : X) → P x → P y → s x y ≡ true → t (f x) (f y) ≡ true) → (xs : List X) → AllByRecursion P xs → Ascends s xs → Ascends t (map f xs)
ascends_map f s t P to [] all a = tt
ascends_map f s t P to (x ∷ []) all a = tt
ascends_map f s t P to (x ∷ (y ∷ ys)) all a = (to x y all.0 all.1.0 a.0, ascends_map f s t P to (y ∷ ys) all.1 a.1)

pub field_named : (f : Field) → In (named.Field f.name) (field_names f)
unfolding field_names
field_named f = inl refl

method_named : (m : Method) → In (named.Method m.name) (method_names m)
unfolding method_names
method_named m = inl refl

module _ (p : Program) (i : Interner) (few : IsShort p) (h : IsInterned p i) where
  abbrev q : Program
  q = written_by i p

  abbrev r : Renumber
  r = i.numbers

  closed : IsClosed p (used_in p)
  closed = used_closed p few

  abbrev Uses : Named → Type 0
  Uses n = IsUsed (used_in p) n

  abbrev AllUsed : List Named → Type 0
  AllUsed ns = AllByRecursion (IsUsed (used_in p)) ns

  -- ---- fields

  field_class : (n class : ℕ) → Uses (named.Field n) → is_class_number (class_of_field (slice_get p.fields n)) class ≡ true → is_class_number (class_of_field (slice_get q.fields (new_field r n))) (new_type r class) ≡ true
  field_class n class u t = subst (λ (o : Option FieldName). is_class_number (class_of_field o) (new_type r class) ≡ true) (sym (field_got p i few h n u)) (by (slice_get p.fields n) t)
    where
      by : (o : Option FieldName) → is_class_number (class_of_field o) class ≡ true → is_class_number (class_of_field (option_map (written_field_name r) o)) (new_type r class) ≡ true
      by None t = clash false t refl
      by (Some x) t = eq-eqb (new_type r x.class) (new_type r class) (ap (new_type r) (eqb-true x.class class t))

  field_there : (n class : ℕ) → is_class_number (class_of_field (slice_get p.fields n)) class ≡ true → has_field p n ≡ true
  field_there n class t = by (slice_get p.fields n) refl t
    where
      by : (o : Option FieldName) → slice_get p.fields n ≡ o → is_class_number (class_of_field o) class ≡ true → has_field p n ≡ true
      by None e t = clash false t refl
      by (Some x) e t = lt-ltb n (length p.fields) (got_short p.fields n x e)

  letter_kept : (n : ℕ) → Uses (named.Field n) → field_letter q (slice_get q.fields (new_field r n)) ≡ field_letter p (slice_get p.fields n)
  letter_kept n u = ap (field_letter q) (field_got p i few h n u) ∙ by (slice_get p.fields n) refl
    where
      by : (o : Option FieldName) → slice_get p.fields n ≡ o → field_letter q (option_map (written_field_name r) o) ≡ field_letter p o
      by None e = refl
      by (Some x) e = letter_same p i few h x.kind (closed.fields n x e u).kind

  abbrev old_names : EncValue-F EncValue Element Note → List Named
  old_names x = names_of_value (folds.map-EncValue EncValue Element Note (List Named) (List Named) (List Named) value_names element_names note_names x)

  layer_now : (letter : ℕ) (x : EncValue-F EncValue Element Note) → layer_fits p letter x ≡ true → AllUsed (old_names x) → layer_fits q letter (new_open r x) ≡ true
  layer_now letter (layer.Byte x) f u = f
  layer_now letter (layer.Short x) f u = f
  layer_now letter (layer.Char x) f u = f
  layer_now letter (layer.Int x) f u = f
  layer_now letter (layer.Long x) f u = f
  layer_now letter (layer.Float x) f u = f
  layer_now letter (layer.Double x) f u = f
  layer_now letter (layer.Str n) f u = and_both (is_reference letter) (has_string q (new_string r n)) (and_left (is_reference letter) (has_string p n) f) (string_kept p i few h n u.0 (and_right (is_reference letter) (has_string p n) f))
  layer_now letter (layer.Class n) f u = and_both (is_reference letter) (has_type q (new_type r n)) (and_left (is_reference letter) (has_type p n) f) (type_kept p i few h n u.0 (and_right (is_reference letter) (has_type p n) f))
  layer_now letter (layer.Field n) f u = clash false f refl
  layer_now letter (layer.Method n) f u = clash false f refl
  layer_now letter (layer.Enum n) f u = clash false f refl
  layer_now letter (layer.Array vs) f u = clash false f refl
  layer_now letter (layer.Annotation n) f u = clash false f refl
  layer_now letter layer.Null f u = clash false f refl
  layer_now letter (layer.Bool b) f u = f

  abbrev Outer : EncValue → Type 0
  Outer v = (letter : ℕ) → layer_fits p letter (out-EncValue v) ≡ true → AllUsed (value_names v) → layer_fits q letter (out-EncValue (new_value r v)) ≡ true

  outer_step : (x : EncValue-F EncValue Element Note) → Outer (roll-EncValue x)
  outer_step x letter f u = ap (layer_fits q letter) (ap (λ (v : EncValue). out-EncValue v) (newly r x) ∙ out-roll-EncValue (new_open r x)) ∙ layer_now letter x (subst (λ z. layer_fits p letter z ≡ true) (out-roll-EncValue x) f) (subst AllUsed (value_named x) u)

  outer_now : (v : EncValue) → Outer v
  outer_now = ind-EncValue Outer (λ e. Unit {0}) (λ n. Unit {0}) (λ x y is. outer_step x) (λ x y is. tt) (λ x y is. tt)

  first_now : (flags : Flags) (n : ℕ) (o : Option EncValue) → Uses (named.Field n) → AllUsed (first_names o) → first_value_fits p flags n o ≡ true → first_value_fits q flags (new_field r n) (option_map (new_value r) o) ≡ true
  first_now flags n None u w t = refl
  first_now flags n (Some v) u w t =
      let l = field_letter p (slice_get p.fields n) in
      and_both (is_static flags) (first_fits q (field_letter q (slice_get q.fields (new_field r n))) (new_value r v)) (and_left (is_static flags) (first_fits p l v) t)
      (ap (λ k. first_fits q k (new_value r v)) (letter_kept n u) ∙ outer_now v l (and_right (is_static flags) (first_fits p l v) t) w)

  field_now : (class : ℕ) (f : Field) → AllUsed (field_names f) → field_fits p class f ≡ true → field_fits q (new_type r class) (written_field r f) ≡ true
  unfolding field_fits field_names
  field_now class f u t =
      let a = is_class_number (class_of_field (slice_get p.fields f.name)) class in
      let b = first_value_fits p f.flags f.name f.first in
      let c = marks_fit p f.marks in
      let rest = and_right a (b && c) t in
      and_both (is_class_number (class_of_field (slice_get q.fields (new_field r f.name))) (new_type r class)) (first_value_fits q f.flags (new_field r f.name) (option_map (new_value r) f.first) && marks_fit q (new_marks r f.marks))
      (field_class f.name class u.0 (and_left a (b && c) t))
      (and_both (first_value_fits q f.flags (new_field r f.name) (option_map (new_value r) f.first)) (marks_fit q (new_marks r f.marks))
      (first_now f.flags f.name f.first u.0 (all_left (IsUsed (used_in p)) (first_names f.first) (marks_names f.marks) u.1) (and_left b c rest))
      (marks_now p i few h f.marks (all_right (IsUsed (used_in p)) (first_names f.first) (marks_names f.marks) u.1) (and_right b c rest)))

  pub field_own : (class : ℕ) (f : Field) → field_fits p class f ≡ true → has_field p f.name ≡ true
  unfolding field_fits
  field_own class f t = field_there f.name class (and_left (is_class_number (class_of_field (slice_get p.fields f.name)) class) (first_value_fits p f.flags f.name f.first && marks_fit p f.marks) t)

  fields_apart : (class : ℕ) (fs : List Field) → AllUsed (flat_map field_names fs) → list_all (field_fits p class) fs ≡ true → all_differ own_field_key fs ≡ true → Differ (map (λ f. f.name) (map (written_field r) fs))
  fields_apart class fs u t d = subst Differ (sym (map_twice (λ f. f.name) (written_field r) fs)) (news_differ (λ f. new_field r f.name) own_field_key [] fs d
      (λ x y a b e. ap (λ n. n ∷ []) (one_field p i few h x.name y.name (name_used x a) (name_used y b) (field_own class x (tests_in (field_fits p class) x fs t a)) (field_own class y (tests_in (field_fits p class) y fs t b)) e)))
    where
      name_used : (x : Field) → In x fs → Uses (named.Field x.name)
      name_used x a = all_in (IsUsed (used_in p)) (named.Field x.name) (flat_map field_names fs) u (in_flat field_names (named.Field x.name) x fs a (field_named x))

  fields_now : (class : ℕ) (fs : List Field) → AllUsed (flat_map field_names fs) → fields_fit p class fs ≡ true → fields_fit q (new_type r class) (in_order field_below (map (written_field r) fs)) ≡ true
  unfolding fields_fit
  fields_now class fs u t =
      let a = list_all (field_fits p class) fs in
      let b = list_all fields_in_order (neighbours fs) in
      let c = all_differ own_field_key fs in
      let first = and_left a (b && c) t in
      let apart = fields_apart class fs u first (and_right b c (and_right a (b && c) t)) in
      let news = map (written_field r) fs in
      let os = in_order field_below news in
      and_both (list_all (field_fits q (new_type r class)) os) (list_all fields_in_order (neighbours os) && all_differ own_field_key os)
      (order_tests field_below (field_fits q (new_type r class)) news (all_named (IsUsed (used_in p)) field_names (written_field r) (field_fits p class) (field_fits q (new_type r class)) (field_now class) fs u first))
      (and_both (list_all fields_in_order (neighbours os)) (all_differ own_field_key os)
      (ascends_side field_below os (order_ascends field_below news (groups_total (λ (f : Field). f.name) (λ (f : Field). is_static f.flags) news apart)))
      (differ_all (λ (f : Field). f.name) os (differ_ordered (λ (f : Field). f.name) field_below news apart)))

  -- ---- methods

  method_class : (n class : ℕ) → Uses (named.Method n) → is_class_number (class_of_method (slice_get p.methods n)) class ≡ true → is_class_number (class_of_method (slice_get q.methods (new_method r n))) (new_type r class) ≡ true
  method_class n class u t = subst (λ (o : Option MethodName). is_class_number (class_of_method o) (new_type r class) ≡ true) (sym (method_got p i few h n u)) (by (slice_get p.methods n) t)
    where
      by : (o : Option MethodName) → is_class_number (class_of_method o) class ≡ true → is_class_number (class_of_method (option_map (written_method_name r) o)) (new_type r class) ≡ true
      by None t = clash false t refl
      by (Some x) t = eq-eqb (new_type r x.class) (new_type r class) (ap (new_type r) (eqb-true x.class class t))

  method_there : (n class : ℕ) → is_class_number (class_of_method (slice_get p.methods n)) class ≡ true → has_method p n ≡ true
  method_there n class t = by (slice_get p.methods n) refl t
    where
      by : (o : Option MethodName) → slice_get p.methods n ≡ o → is_class_number (class_of_method o) class ≡ true → has_method p n ≡ true
      by None e t = clash false t refl
      by (Some x) e t = lt-ltb n (length p.methods) (got_short p.methods n x e)

  name_kept : (n : ℕ) → Uses (named.Method n) → name_of_method q (slice_get q.methods (new_method r n)) ≡ name_of_method p (slice_get p.methods n)
  name_kept n u = ap (name_of_method q) (method_got p i few h n u) ∙ by (slice_get p.methods n) refl
    where
      by : (o : Option MethodName) → slice_get p.methods n ≡ o → name_of_method q (option_map (written_method_name r) o) ≡ name_of_method p o
      by None e = refl
      by (Some x) e = string_same p i few h x.name (closed.methods n x e u).name

  direct_same : (m : Method) → Uses (named.Method m.name) → is_direct q (written_method r m) ≡ is_direct p m
  unfolding is_direct
  direct_same m u = ap (λ t. (is_static m.flags || is_private m.flags) || first_unit t == 60) (name_kept m.name u)

  words_sum : (ks : List ℕ) → AllByRecursion (λ n. IsUsed (used_in p) (named.Kind n)) ks → sum_by (words_of q) (map (new_type r) ks) ≡ sum_by (words_of p) ks
  words_sum [] u = refl
  words_sum (k ∷ ks) u = sum_by-cons (words_of q) (new_type r k) (map (new_type r) ks) ∙ ap₂ (λ m n. m + n) (ap (λ l. if is_wide l then 2 else 1) (letter_same p i few h k u.0)) (words_sum ks u.1) ∙ sym (sum_by-cons (words_of p) k ks)

  takes_proto : (flags : Flags) (n w : ℕ) → Uses (named.Proto n) → takes_words q flags (slice_get q.protos (new_proto r n)) w ≡ takes_words p flags (slice_get p.protos n) w
  takes_proto flags n w u = ap (λ o. takes_words q flags o w) (proto_got p i few h n u) ∙ by (slice_get p.protos n) refl
    where
      by : (o : Option Proto) → slice_get p.protos n ≡ o → takes_words q flags (option_map (written_proto r) o) w ≡ takes_words p flags o w
      by None e = refl
      by (Some x) e = ap (λ s. nat_eq w (receiver_words flags + s)) (words_sum x.parameters (closed.protos n x e u).parameters)

  takes_same : (flags : Flags) (n w : ℕ) → Uses (named.Method n) → takes_words q flags (proto_of q (new_method r n)) w ≡ takes_words p flags (proto_of p n) w
  takes_same flags n w u = ap (λ o. takes_words q flags (option_and_then (λ (m : MethodName). slice_get q.protos m.proto) o) w) (method_got p i few h n u) ∙ by (slice_get p.methods n) refl
    where
      by : (o : Option MethodName) → slice_get p.methods n ≡ o → takes_words q flags (option_and_then (λ (m : MethodName). slice_get q.protos m.proto) (option_map (written_method_name r) o)) w ≡ takes_words p flags (option_and_then (λ (m : MethodName). slice_get p.protos m.proto) o) w
      by None e = refl
      by (Some x) e = takes_proto flags x.proto w (closed.methods n x e u).proto

  frame_same : (m : Method) (b : Body) → Uses (named.Method m.name) → frame_fits q (written_method r m) (new_body r b) ≡ frame_fits p m b
  unfolding frame_fits
  frame_same m b u = ap (λ t. t && nat_le b.ins b.registers) (takes_same m.flags m.name b.ins u)

  code_now : (m : Method) (o : Option Body) → Uses (named.Method m.name) → AllUsed (code_names o) → code_fits p m o ≡ true → code_fits q (written_method r m) (option_map (new_body r) o) ≡ true
  code_now m None u w t = t
  code_now m (Some b) u w t =
      let a = not (lacks_code m.flags) in
      let c = frame_fits p m b in
      let d = body_fits p b in
      let e = lines_fit (length b.insns) m.lines in
      let x = and_right a (c && (d && e)) t in
      let y = and_right c (d && e) x in
      let c' = frame_fits q (written_method r m) (new_body r b) in
      let d' = body_fits q (new_body r b) in
      let e' = lines_fit (length (new_body r b).insns) m.lines in
      and_both a (c' && (d' && e')) (and_left a (c && (d && e)) t)
      (and_both c' (d' && e') (frame_same m b u ∙ and_left c (d && e) x)
      (and_both d' e' (body_now p i few h b w (and_left d e y)) (ap (λ n. lines_fit n m.lines) (map_long _ b.insns) ∙ and_right d e y)))

  method_now : (class : ℕ) (m : Method) → AllUsed (method_names m) → method_fits p class m ≡ true → method_fits q (new_type r class) (written_method r m) ≡ true
  unfolding method_fits method_names
  method_now class m u t =
      let a = is_class_number (class_of_method (slice_get p.methods m.name)) class in
      let b = code_fits p m m.body in
      let c = marks_fit p m.marks in
      let d = list_all (marks_fit p) m.parameter_marks in
      let left = and_left (a && b) (c && d) t in
      let right = and_right (a && b) (c && d) t in
      let rest = flat_map marks_names m.parameter_marks in
      let own = all_left (IsUsed (used_in p)) (marks_names m.marks) (rest ++ code_names m.body) u.1 in
      let more = all_right (IsUsed (used_in p)) (marks_names m.marks) (rest ++ code_names m.body) u.1 in
      let a' = is_class_number (class_of_method (slice_get q.methods (new_method r m.name))) (new_type r class) in
      let b' = code_fits q (written_method r m) (option_map (new_body r) m.body) in
      let c' = marks_fit q (new_marks r m.marks) in
      let d' = list_all (marks_fit q) (map (new_marks r) m.parameter_marks) in
      and_both (a' && b') (c' && d')
      (and_both a' b' (method_class m.name class u.0 (and_left a b left)) (code_now m m.body u.0 (all_right (IsUsed (used_in p)) rest (code_names m.body) more) (and_right a b left)))
      (and_both c' d' (marks_now p i few h m.marks own (and_left c d right))
      (all_named (IsUsed (used_in p)) marks_names (new_marks r) (marks_fit p) (marks_fit q) (marks_now p i few h) m.parameter_marks (all_left (IsUsed (used_in p)) rest (code_names m.body) more) (and_right c d right)))

  method_own : (class : ℕ) (m : Method) → method_fits p class m ≡ true → has_method p m.name ≡ true
  unfolding method_fits
  method_own class m t =
      let a = is_class_number (class_of_method (slice_get p.methods m.name)) class in
      method_there m.name class (and_left a (code_fits p m m.body) (and_left (a && code_fits p m m.body) (marks_fit p m.marks && list_all (marks_fit p) m.parameter_marks) t))

  method_used : (ms : List Method) → AllUsed (flat_map method_names ms) → (x : Method) → In x ms → Uses (named.Method x.name)
  method_used ms u x a = all_in (IsUsed (used_in p)) (named.Method x.name) (flat_map method_names ms) u (in_flat method_names (named.Method x.name) x ms a (method_named x))

  methods_apart : (class : ℕ) (ms : List Method) → AllUsed (flat_map method_names ms) → list_all (method_fits p class) ms ≡ true → all_differ own_method_key ms ≡ true → Differ (map (λ m. new_method r m.name) ms)
  methods_apart class ms u t d = news_differ (λ m. new_method r m.name) own_method_key [] ms d
      (λ x y a b e. ap (λ n. n ∷ []) (one_method p i few h x.name y.name (method_used ms u x a) (method_used ms u y b) (method_own class x (tests_in (method_fits p class) x ms t a)) (method_own class y (tests_in (method_fits p class) y ms t b)) e))

  methods_now : (class : ℕ) (ms : List Method) → AllUsed (flat_map method_names ms) → methods_fit p class ms ≡ true → methods_fit q (new_type r class) (map (written_method r) (in_order (method_below r p) ms)) ≡ true
  unfolding methods_fit
  methods_now class ms u t =
      let a = list_all (method_fits p class) ms in
      let b = list_all (methods_in_order p) (neighbours ms) in
      let c = all_differ own_method_key ms in
      let first = and_left a (b && c) t in
      let apart = methods_apart class ms u first (and_right b c (and_right a (b && c) t)) in
      let os = in_order (method_below r p) ms in
      let news = map (written_method r) os in
      let fits = method_fits q (new_type r class) in
      let rising : Ascends (λ x y. methods_in_order q (x, y)) news = ascends_map (written_method r) (method_below r p) (λ x y. methods_in_order q (x, y)) (λ m. Uses (named.Method m.name)) side os
      (order_all (method_below r p) (λ m. Uses (named.Method m.name)) ms (all_of (λ (m : Method). Uses (named.Method m.name)) ms (method_used ms u)))
      (order_ascends (method_below r p) ms (groups_total (λ (m : Method). new_method r m.name) (is_direct p) ms apart)) in
      and_both (list_all fits news) (list_all (methods_in_order q) (neighbours news) && all_differ own_method_key news)
      (all_map (written_method r) (λ m. fits (written_method r m)) fits (λ m. refl) os ∙ order_tests (method_below r p) (λ m. fits (written_method r m)) ms (sym (all_map (written_method r) (λ m. fits (written_method r m)) fits (λ m. refl) ms) ∙ all_named (IsUsed (used_in p)) method_names (written_method r) (method_fits p class) fits (method_now class) ms u first))
      (and_both (list_all (methods_in_order q) (neighbours news)) (all_differ own_method_key news)
      (ascends_side (λ x y. methods_in_order q (x, y)) news rising)
      (differ_all (λ (m : Method). m.name) news (subst Differ (sym (map_twice (λ (m : Method). m.name) (written_method r) os)) (differ_ordered (λ m. new_method r m.name) (method_below r p) ms apart))))
    where
      side : (x y : Method) → Uses (named.Method x.name) → Uses (named.Method y.name) → method_below r p x y ≡ true → methods_in_order q (written_method r x, written_method r y) ≡ true
      side x y v w t = ap₂ (λ a b. in_groups a b (nat_lt (new_method r x.name) (new_method r y.name))) (direct_same x v) (direct_same y w) ∙ t

  -- ---- classes

  kind_now : (k : ℕ) → AllUsed (kind_names k) → is_class_type p k ≡ true → is_class_type q (new_type r k) ≡ true
  kind_now k u t =
      let a = has_type p k in
      let b = is_class (letter_of p k) in
      and_both (has_type q (new_type r k)) (is_class (letter_of q (new_type r k))) (type_kept p i few h k u.0 (and_left a b t)) (ap is_class (letter_same p i few h k u.0) ∙ and_right a b t)

  source_now : (o : Option ℕ) → AllUsed (source_names o) → source_fits p o ≡ true → source_fits q (option_map (new_string r) o) ≡ true
  source_now None u t = refl
  source_now (Some n) u t = string_kept p i few h n u.0 t

  types_now : (c : Class) → Uses (named.Kind c.name) → Uses (named.Kind c.superclass) → AllUsed (flat_map kind_names c.interfaces) → types_of_class_fit p c ≡ true → types_of_class_fit q (written_class r p c) ≡ true
  unfolding types_of_class_fit
  types_now c u v w t =
      let a = is_class_type p c.name in
      let b = not (is_object (type_text p c.name)) in
      let d = is_class_type p c.superclass in
      let e = list_all (is_class_type p) c.interfaces in
      let left = and_left (a && b) (d && e) t in
      let right = and_right (a && b) (d && e) t in
      let a' = is_class_type q (new_type r c.name) in
      let b' = not (is_object (type_text q (new_type r c.name))) in
      let d' = is_class_type q (new_type r c.superclass) in
      let e' = list_all (is_class_type q) (map (new_type r) c.interfaces) in
      and_both (a' && b') (d' && e')
      (and_both a' b' (kind_now c.name (u, tt) (and_left a b left)) (ap (λ t. not (is_object t)) (type_same p i few h c.name u) ∙ and_right a b left))
      (and_both d' e' (kind_now c.superclass (v, tt) (and_left d e right)) (all_named (IsUsed (used_in p)) kind_names (new_type r) (is_class_type p) (is_class_type q) kind_now c.interfaces w (and_right d e right)))

  pub class_now : (c : Class) → AllByRecursion (IsUsed (used_in p)) (class_names c) → class_fits p c ≡ true → class_fits (written_by i p) (written_class i.numbers p c) ≡ true
  unfolding class_fits class_names
  class_now c u t =
      let P = IsUsed (used_in p) in
      let kinds = flat_map kind_names c.interfaces in
      let source = source_names c.source in
      let marks = marks_names c.marks in
      let fields = flat_map field_names c.fields in
      let methods = flat_map method_names c.methods in
      let x = all_right P kinds (source ++ (marks ++ (fields ++ methods))) u.1.1 in
      let y = all_right P source (marks ++ (fields ++ methods)) x in
      let z = all_right P marks (fields ++ methods) y in
      let a = types_of_class_fit p c in
      let b = source_fits p c.source in
      let d = marks_fit p c.marks in
      let e = fields_fit p c.name c.fields in
      let f = methods_fit p c.name c.methods in
      let left = and_left (a && (b && d)) (e && f) t in
      let right = and_right (a && (b && d)) (e && f) t in
      let rest = and_right a (b && d) left in
      let w = written_class r p c in
      let a' = types_of_class_fit q w in
      let b' = source_fits q w.source in
      let d' = marks_fit q w.marks in
      let e' = fields_fit q w.name w.fields in
      let f' = methods_fit q w.name w.methods in
      and_both (a' && (b' && d')) (e' && f')
      (and_both a' (b' && d') (types_now c u.0 u.1.0 (all_left P kinds (source ++ (marks ++ (fields ++ methods))) u.1.1) (and_left a (b && d) left))
      (and_both b' d' (source_now c.source (all_left P source (marks ++ (fields ++ methods)) x) (and_left b d rest)) (marks_now p i few h c.marks (all_left P marks (fields ++ methods) y) (and_right b d rest))))
      (and_both e' f' (fields_now c.name c.fields (all_left P fields methods z) (and_left e f right)) (methods_now c.name c.methods (all_right P fields methods z) (and_right e f right)))
