-- Methods and classes keep the rules where methods are made static.
use Rattle.std.proofs.Common.{◌≡◌, ℕ, suc, ◌+◌, Bool, true, false, true≢false, nat_eq, List, [], ◌∷◌, length, map, Option, Some, None, refl, sym, ap, ap₂, ◌∙◌, subst, arith}
use std.Path.{fun_ext}
use Rattle.std.specs.Prelude.{◌&&◌, ◌||◌, ◌==◌, not, is_some, nat_le, nat_lt, option_and_then, slice_get, sum_by, if◌then◌else◌}
use Rattle.std.specs.List.{list_all}
use Rattle.std.specs.Option.{option_map}
use Rattle.std.proofs.lemmas.List.Sums.{sum_by-cons}
use Rattle.std.proofs.lemmas.Nat.{and_or_apart, and_or_self}
use Rattle.lemmas.proofs.Bools.{and_left, and_right, and_both}
use Rattle.lemmas.proofs.Lists.{all_at, map_long}
use Rattle.program_model.specs.BodyRules.{body_fits}
use Rattle.program_model.specs.Distinct.{own_method_key, all_differ}
use Rattle.program_model.specs.LineRules.{lines_fit}
use Rattle.program_model.specs.MemberRules.{class_fits, class_of_method, code_fits, fields_fit, frame_fits, in_groups, is_class_number, is_class_type, is_direct, is_object, is_private, is_static, lacks_code, method_fits, methods_fit, methods_in_order, name_of_method, proto_of, receiver_words, source_fits, takes_words, types_of_class_fit, words_of}
use Rattle.program_model.specs.Neighbours.{neighbours}
use Rattle.program_model.specs.ProgramRules.{is_well_formed}
use Rattle.program_model.specs.TableRules.{method_id_fits}
use Rattle.program_model.specs.Texts.{first_unit, has_proto, has_string, has_type, is_class, is_wide, letter_of, string_text, type_text}
use Rattle.program_model.specs.ValueRules.{marks_fit}
use Rattle.program_model.specs.declared.body.Body.{Body}
use Rattle.program_model.specs.declared.flags.Flags.{Flags}
use Rattle.program_model.specs.declared.pools.MethodName.{MethodName}
use Rattle.program_model.specs.declared.pools.Proto.{Proto}
use Rattle.program_model.specs.declared.program.Class.{Class}
use Rattle.program_model.specs.declared.program.Method.{Method}
use Rattle.program_model.specs.declared.program.Program.{Program}
use Rattle.program_model.specs.declared.value.Mark.{Mark}
use Rattle.class_defs.proofs.Positions.{number_of, number_test}
use Rattle.class_defs.proofs.WellFormed.{sound}
use Rattle.staticise.specs.Loosened.{IsLoosenedClass, body_loosened, code_loosened, flags_loosened, given_at, insn_loosened, is_given, marks_loosened, method_loosened, name_with}
use Rattle.static_kept.proofs.Bodies.{body_kept}
use Rattle.static_kept.proofs.Extended.{Extends, fields_kept, marks_kept, proto_there, source_kept, string_same, types_same, words_same}
use Rattle.static_kept.proofs.Lists.{all_permuted}
use Rattle.static_kept.proofs.Plans.{IsNew, IsPlan, class_same, name_same}

-- ---- flags

static_now : (f : Flags) → is_static (flags_loosened f) ≡ true
static_now f = ap (λ n. n == 8) (and_or_self 8 f.0)

lacks_same : (f : Flags) → lacks_code (flags_loosened f) ≡ lacks_code f
lacks_same f = ap₂ (λ a b. a == 1024 || b == 256) (and_or_apart 1024 f.0 8 refl) (and_or_apart 256 f.0 8 refl)

-- ---- a method that is made static or not

abbrev pub self_by : Bool → Method → Method
self_by b m = elim b as (λ b. Method) [ true ↦ record m { flags = flags_loosened m.flags; parameter_marks = marks_loosened m.parameter_marks } | false ↦ m ]

abbrev pub method_by : Program → List (Option ℕ) → Bool → Method → Method
method_by p given b m = record (self_by b m) { body = code_loosened p given (self_by b m).body }

pub method_is : (p : Program) (given : List (Option ℕ)) (m : Method) → method_loosened p given m ≡ method_by p given (is_given given m.name) m
method_is p given m = refl

no_marks : (p : Program) → marks_fit p [] ≡ true
unfolding marks_fit
no_marks p = refl

module _ (p q : Program) (wf : is_well_formed p ≡ true) (given : List (Option ℕ)) (plan : IsPlan p q given) where
  abbrev e : Extends p q
  e = plan.extends

  -- ---- names

  class_there : (n : ℕ) → class_of_method (slice_get q.methods n) ≡ class_of_method (slice_get p.methods n)
  class_there n = ap class_of_method (plan.names n) ∙ by (slice_get p.methods n)
    where
      by : (o : Option MethodName) → class_of_method (option_map (λ (x : MethodName). name_with x (given_at given n)) o) ≡ class_of_method o
      by None = refl
      by (Some x) = ap Some (class_same x (given_at given n))

  name_there : (n : ℕ) → name_of_method q (slice_get q.methods n) ≡ name_of_method p (slice_get p.methods n)
  name_there n = ap (name_of_method q) (plan.names n) ∙ by (slice_get p.methods n) refl
    where
      named : (x : MethodName) → slice_get p.methods n ≡ Some x → has_string p x.name ≡ true
      named x f =
          let a = all_at (method_id_fits p) p.methods n x (sound p wf).methods_fit f in
          and_right (has_proto p x.proto) (has_string p x.name) (and_right (has_type p x.class) (has_proto p x.proto && has_string p x.name) a)

      by : (o : Option MethodName) → slice_get p.methods n ≡ o → name_of_method q (option_map (λ (x : MethodName). name_with x (given_at given n)) o) ≡ name_of_method p o
      by None f = refl
      by (Some x) f = ap (string_text q) (name_same x (given_at given n)) ∙ string_same p q wf e x.name (named x f)

  direct_same : (m : Method) → is_direct q m ≡ is_direct p m
  unfolding is_direct
  direct_same m = ap (λ t. (is_static m.flags || is_private m.flags) || first_unit t == 60) (name_there m.name)

  order_same : (pair : Method × Method) → methods_in_order q pair ≡ methods_in_order p pair
  order_same pair = ap (λ t. in_groups (t pair.0) (t pair.1) (nat_lt pair.0.name pair.1.name)) (fun_ext direct_same)

  -- ---- arguments

  takes_same : (flags : Flags) (x : Proto) (words : ℕ) → takes_words q flags (Some x) words ≡ takes_words p flags (Some x) words
  takes_same flags x words = ap (λ f. nat_eq words (receiver_words flags + sum_by f x.parameters)) (fun_ext (words_same p q wf e))

  -- where the proto stays
  takes_still : (n : ℕ) (flags : Flags) (words : ℕ) → given_at given n ≡ None → takes_words p flags (proto_of p n) words ≡ true → takes_words q flags (proto_of q n) words ≡ true
  takes_still n flags words none h =
      ap (λ o. takes_words q flags (option_and_then (λ (m : MethodName). slice_get q.protos m.proto) o) words) (plan.names n ∙ ap (λ o. option_map (λ (x : MethodName). name_with x o) (slice_get p.methods n)) none)
      ∙ by (slice_get p.methods n) h
    where
      by_proto : (k : ℕ) (o : Option Proto) → slice_get p.protos k ≡ o → takes_words p flags o words ≡ true → takes_words q flags (slice_get q.protos k) words ≡ true
      by_proto k None f g = absurd (true≢false (sym g))
      by_proto k (Some x) f g = ap (λ o. takes_words q flags o words) (proto_there p q wf e k x f) ∙ takes_same flags x words ∙ g

      by : (o : Option MethodName) → takes_words p flags (option_and_then (λ (m : MethodName). slice_get p.protos m.proto) o) words ≡ true
          → takes_words q flags (option_and_then (λ (m : MethodName). slice_get q.protos m.proto) (option_map (λ (x : MethodName). name_with x None) o)) words ≡ true
      by None g = g
      by (Some x) g = by_proto x.proto (slice_get p.protos x.proto) refl g

  -- where the class becomes the first parameter
  takes_new : (n v : ℕ) (flags : Flags) (words : ℕ) (x : IsNew p q n v) → given_at given n ≡ Some v → is_class_type p x.entry.class ≡ true → is_static flags ≡ false → takes_words p flags (proto_of p n) words ≡ true
      → takes_words q (flags_loosened flags) (proto_of q n) words ≡ true
  takes_new n v flags words x some kind receives h =
      ap (λ o. takes_words q (flags_loosened flags) o words) proto_now ∙ takes_same (flags_loosened flags) x.new words
      ∙ number_test words (receiver_words (flags_loosened flags) + sum_by (words_of p) x.new.parameters) count
    where
      proto_now : proto_of q n ≡ Some x.new
      proto_now =
          ap (option_and_then (λ (m : MethodName). slice_get q.protos m.proto)) (plan.names n ∙ ap (λ o. option_map (λ (y : MethodName). name_with y o) (slice_get p.methods n)) some ∙ ap (option_map (λ (y : MethodName). name_with y (Some v))) x.is_entry)
          ∙ x.is_new

      proto_before : proto_of p n ≡ Some x.proto
      proto_before = ap (option_and_then (λ (m : MethodName). slice_get p.protos m.proto)) x.is_entry ∙ x.is_proto

      before : words ≡ receiver_words flags + sum_by (words_of p) x.proto.parameters
      before = number_of words (receiver_words flags + sum_by (words_of p) x.proto.parameters) (sym (ap (λ o. takes_words p flags o words) proto_before) ∙ h)

      receiver : receiver_words flags ≡ 1
      receiver = ap (λ b. if b then 0 else 1) receives

      none : receiver_words (flags_loosened flags) ≡ 0
      none = ap (λ b. if b then 0 else 1) (static_now flags)

      one_word : words_of p x.entry.class ≡ 1
      one_word = ap (λ l. if is_wide l then 2 else 1) (number_of (letter_of p x.entry.class) 76 (and_right (has_type p x.entry.class) (is_class (letter_of p x.entry.class)) kind))

      count : words ≡ receiver_words (flags_loosened flags) + sum_by (words_of p) x.new.parameters
      count =
          let a : sum_by (words_of p) x.new.parameters ≡ sum_by (words_of p) (x.entry.class ∷ x.proto.parameters) = ap (sum_by (words_of p)) x.parameters in
          let b = sum_by-cons (words_of p) x.entry.class x.proto.parameters in
          let c = before in
          let d = receiver in
          let f = one_word in
          let g = none in
          omega (arith, a, b, c, d, f, g)

  -- ---- code

  code_kept : (m n : Method) → n.lines ≡ m.lines → lacks_code n.flags ≡ lacks_code m.flags → ((words : ℕ) → takes_words p m.flags (proto_of p m.name) words ≡ true → takes_words q n.flags (proto_of q n.name) words ≡ true) → (o : Option Body)
      → code_fits p m o ≡ true → code_fits q n (code_loosened p given o) ≡ true
  unfolding frame_fits
  code_kept m n lines lacks takes None h = ap₂ (λ a ls. a && lines_fit 0 ls) lacks lines ∙ h
  code_kept m n lines lacks takes (Some b) h =
      let a = not (lacks_code m.flags) in
      let t = takes_words p m.flags (proto_of p m.name) b.ins in
      let r = nat_le b.ins b.registers in
      let f = body_fits p b in
      let l = lines_fit (length b.insns) m.lines in
      let rest = and_right a ((t && r) && (f && l)) h in
      let front = and_left (t && r) (f && l) rest in
      let back = and_right (t && r) (f && l) rest in
      let d = body_loosened p given b in
      and_both (not (lacks_code n.flags)) ((takes_words q n.flags (proto_of q n.name) b.ins && r) && (body_fits q d && lines_fit (length d.insns) n.lines)) (ap not lacks ∙ and_left a ((t && r) && (f && l)) h)
      (and_both (takes_words q n.flags (proto_of q n.name) b.ins && r) (body_fits q d && lines_fit (length d.insns) n.lines)
      (and_both (takes_words q n.flags (proto_of q n.name) b.ins) r (takes b.ins (and_left t r front)) (and_right t r front))
      (and_both (body_fits q d) (lines_fit (length d.insns) n.lines) (body_kept p q wf e given plan.inside b (and_left f l back))
      (ap₂ (λ x ls. lines_fit x ls) (map_long (insn_loosened p given) b.insns) lines ∙ and_right f l back)))

  -- ---- methods

  marks_more : (mss : List (List Mark)) → list_all (marks_fit p) mss ≡ true → list_all (marks_fit q) (marks_loosened mss) ≡ true
  marks_more [] h = refl
  marks_more (ms ∷ mss) h = and_both (marks_fit q []) (list_all (marks_fit q) (ms ∷ mss)) (no_marks q) (all_kept (ms ∷ mss) h)
    where
      all_kept : (xs : List (List Mark)) → list_all (marks_fit p) xs ≡ true → list_all (marks_fit q) xs ≡ true
      all_kept [] f = refl
      all_kept (x ∷ xs) f = and_both (marks_fit q x) (list_all (marks_fit q) xs) (marks_kept p q wf e x (and_left (marks_fit p x) (list_all (marks_fit p) xs) f)) (all_kept xs (and_right (marks_fit p x) (list_all (marks_fit p) xs) f))

  marks_still : (xs : List (List Mark)) → list_all (marks_fit p) xs ≡ true → list_all (marks_fit q) xs ≡ true
  marks_still [] f = refl
  marks_still (x ∷ xs) f = and_both (marks_fit q x) (list_all (marks_fit q) xs) (marks_kept p q wf e x (and_left (marks_fit p x) (list_all (marks_fit p) xs) f)) (marks_still xs (and_right (marks_fit p x) (list_all (marks_fit p) xs) f))

  record Parts (class : ℕ) (m : Method) : Type 0 where
    own : is_class_number (class_of_method (slice_get p.methods m.name)) class ≡ true
    code : code_fits p m m.body ≡ true
    marks : marks_fit p m.marks ≡ true
    parameters : list_all (marks_fit p) m.parameter_marks ≡ true

  parts : (class : ℕ) (m : Method) → method_fits p class m ≡ true → Parts class m
  unfolding method_fits
  parts class m h =
      let a = is_class_number (class_of_method (slice_get p.methods m.name)) class in
      let b = code_fits p m m.body in
      let c = marks_fit p m.marks in
      let d = list_all (marks_fit p) m.parameter_marks in
      let l = and_left (a && b) (c && d) h in
      let r = and_right (a && b) (c && d) h in
      record { own = and_left a b l; code = and_right a b l; marks = and_left c d r; parameters = and_right c d r }

  whole : (class : ℕ) (n : Method) → is_class_number (class_of_method (slice_get p.methods n.name)) class ≡ true → code_fits q n n.body ≡ true → marks_fit q n.marks ≡ true → list_all (marks_fit q) n.parameter_marks ≡ true → method_fits q class n ≡ true
  unfolding method_fits
  whole class n own code marks parameters =
      and_both (is_class_number (class_of_method (slice_get q.methods n.name)) class && code_fits q n n.body) (marks_fit q n.marks && list_all (marks_fit q) n.parameter_marks)
      (and_both (is_class_number (class_of_method (slice_get q.methods n.name)) class) (code_fits q n n.body) (ap (λ o. is_class_number o class) (class_there n.name) ∙ own) code)
      (and_both (marks_fit q n.marks) (list_all (marks_fit q) n.parameter_marks) marks parameters)

  still_fits : (class : ℕ) (m : Method) → given_at given m.name ≡ None → Parts class m → method_fits q class (method_by p given false m) ≡ true
  still_fits class m none a = whole class (method_by p given false m) a.own
      (code_kept m (method_by p given false m) refl refl (λ words h. takes_still m.name m.flags words none h) m.body a.code) (marks_kept p q wf e m.marks a.marks) (marks_still m.parameter_marks a.parameters)

  new_fits : (class v : ℕ) (m : Method) → given_at given m.name ≡ Some v → is_class_type p class ≡ true → is_static m.flags ≡ false → Parts class m → method_fits q class (method_by p given true m) ≡ true
  new_fits class v m some kind receives a = whole class (method_by p given true m) a.own
      (code_kept m (method_by p given true m) refl (lacks_same m.flags) (λ words h. takes_new m.name v m.flags words x some (ap (is_class_type p) owner ∙ kind) receives h) m.body a.code) (marks_kept p q wf e m.marks a.marks) (marks_more m.parameter_marks a.parameters)
    where
      x : IsNew p q m.name v
      x = plan.new m.name v some

      owner : x.entry.class ≡ class
      owner = number_of x.entry.class class (sym (ap (λ o. is_class_number (class_of_method o) class) x.is_entry) ∙ a.own)

  method_kept : (c i : ℕ) (k : Class) (m : Method) → slice_get p.classes c ≡ Some k → slice_get k.methods i ≡ Some m → is_class_type p k.name ≡ true → method_fits p k.name m ≡ true → method_fits q k.name (method_loosened p given m) ≡ true
  method_kept c i k m is_class is_method kind h = by (given_at given m.name) refl
    where
      by : (o : Option ℕ) → given_at given m.name ≡ o → method_fits q k.name (method_by p given (is_some (given_at given m.name)) m) ≡ true
      by None f = ap (λ o. method_fits q k.name (method_by p given (is_some o) m)) f ∙ still_fits k.name m f (parts k.name m h)
      by (Some v) f = ap (λ o. method_fits q k.name (method_by p given (is_some o) m)) f ∙ new_fits k.name v m f kind ((plan.new m.name v f).receives c i k m is_class is_method refl) (parts k.name m h)

  -- ---- classes

  record ClassParts (k : Class) : Type 0 where
    types : types_of_class_fit p k ≡ true
    source : source_fits p k.source ≡ true
    marks : marks_fit p k.marks ≡ true
    fields : fields_fit p k.name k.fields ≡ true
    methods : methods_fit p k.name k.methods ≡ true

  class_parts_of : (k : Class) → class_fits p k ≡ true → ClassParts k
  unfolding class_fits
  class_parts_of k h =
      let a = types_of_class_fit p k in
      let b = source_fits p k.source in
      let c = marks_fit p k.marks in
      let d = fields_fit p k.name k.fields in
      let f = methods_fit p k.name k.methods in
      let l = and_left (a && (b && c)) (d && f) h in
      let r = and_right (a && (b && c)) (d && f) h in
      let s = and_right a (b && c) l in
      record { types = and_left a (b && c) l; source = and_left b c s; marks = and_right b c s; fields = and_left d f r; methods = and_right d f r }

  own_kind : (k : Class) → types_of_class_fit p k ≡ true → is_class_type p k.name ≡ true
  unfolding types_of_class_fit
  own_kind k h = and_left (is_class_type p k.name) (not (is_object (type_text p k.name))) (and_left (is_class_type p k.name && not (is_object (type_text p k.name))) (is_class_type p k.superclass && list_all (is_class_type p) k.interfaces) h)

  all_methods : (class : ℕ) (ms : List Method) → methods_fit p class ms ≡ true → list_all (method_fits p class) ms ≡ true
  unfolding methods_fit
  all_methods class ms h = and_left (list_all (method_fits p class) ms) (list_all (methods_in_order p) (neighbours ms) && all_differ own_method_key ms) h

  methods_whole : (class : ℕ) (ms : List Method) → list_all (method_fits q class) ms ≡ true → list_all (methods_in_order p) (neighbours ms) ≡ true → all_differ own_method_key ms ≡ true → methods_fit q class ms ≡ true
  unfolding methods_fit
  methods_whole class ms fit ordered differ =
      and_both (list_all (method_fits q class) ms) (list_all (methods_in_order q) (neighbours ms) && all_differ own_method_key ms) fit
      (and_both (list_all (methods_in_order q) (neighbours ms)) (all_differ own_method_key ms) (ap (λ t. list_all t (neighbours ms)) (fun_ext order_same) ∙ ordered) differ)

  class_whole : (k : Class) (ms : List Method) → ClassParts k → methods_fit q k.name ms ≡ true → class_fits q (record k { methods = ms }) ≡ true
  unfolding class_fits types_of_class_fit
  class_whole k ms a methods =
      and_both (types_of_class_fit q k && (source_fits q k.source && marks_fit q k.marks)) (fields_fit q k.name k.fields && methods_fit q k.name ms)
      (and_both (types_of_class_fit q k) (source_fits q k.source && marks_fit q k.marks) (types_same p q wf e k ∙ a.types)
      (and_both (source_fits q k.source) (marks_fit q k.marks) (source_kept p q wf e k.source a.source) (marks_kept p q wf e k.marks a.marks)))
      (and_both (fields_fit q k.name k.fields) (methods_fit q k.name ms) (fields_kept p q wf e k.name k.fields a.fields) methods)

  -- a class with its methods in another order, whose numbers stand once
  pub class_kept : (c : ℕ) (k d : Class) → slice_get p.classes c ≡ Some k → IsLoosenedClass p given k d → all_differ own_method_key d.methods ≡ true → class_fits p k ≡ true → class_fits q d ≡ true
  class_kept c k d is_class r differ h =
      let a = class_parts_of k h in
      let fit = all_methods k.name k.methods a.methods in
      subst (λ x. class_fits q x ≡ true) (sym r.rest)
      (class_whole k d.methods a (methods_whole k.name d.methods (all_permuted (method_fits q k.name) (map (method_loosened p given) k.methods) d.methods r.methods (each k.methods 0 (λ i m f. ap (slice_get k.methods) (let z : i + 0 ≡ i = omega arith in z) ∙ f) fit)) r.ordered differ))
    where
      kind : is_class_type p k.name ≡ true
      kind = own_kind k (class_parts_of k h).types

      each : (ms : List Method) (start : ℕ) → ((i : ℕ) (m : Method) → slice_get ms i ≡ Some m → slice_get k.methods (i + start) ≡ Some m) → list_all (method_fits p k.name) ms ≡ true → list_all (method_fits q k.name) (map (method_loosened p given) ms) ≡ true
      each [] start there f = refl
      each (m ∷ ms) start there f = and_both (method_fits q k.name (method_loosened p given m)) (list_all (method_fits q k.name) (map (method_loosened p given) ms))
          (method_kept c start k m is_class (ap (slice_get k.methods) (let z : start ≡ 0 + start = omega arith in z) ∙ there 0 m refl) kind (and_left (method_fits p k.name m) (list_all (method_fits p k.name) ms) f))
          (each ms (suc start) (λ i x g. ap (slice_get k.methods) (let z : i + suc start ≡ suc i + start = omega arith in z) ∙ there (suc i) x g) (and_right (method_fits p k.name m) (list_all (method_fits p k.name) ms) f))
