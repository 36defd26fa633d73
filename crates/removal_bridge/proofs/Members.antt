-- Classes and methods of a well-formed program stand under their names, and their bodies take what their arguments are.
use Rattle.std.proofs.Common.{◌≡◌, ℕ, ◌+◌, ◌<◌, Bool, true, false, true≢false, List, [], ◌∷◌, Option, Some, None, ◌⊎◌, inl, inr, refl, sym, ap, ◌∙◌}
use Rattle.std.specs.Prelude.{◌&&◌, not, nat_eq, nat_le, length, map, slice_get, if◌then◌else◌}
use Rattle.std.specs.List.{list_all, sum_by}
use Rattle.std.specs.Option.{option_map, option_and_then}
use Rattle.std.proofs.lemmas.List.Sums.{sum_by-cons}
use Rattle.program_model.specs.BodyRules.{body_fits}
use Rattle.program_model.specs.Distinct.{method_key, own_method_key}
use Rattle.program_model.specs.LineRules.{lines_fit}
use Rattle.program_model.specs.MemberRules as rules
use Rattle.program_model.specs.MemberRules.{class_of_method, is_class_number, code_fits, frame_fits, has_flag, lacks_code, method_fits, proto_of, receiver_words, takes_words}
use Rattle.program_model.specs.TableRules.{field_id_fits}
use Rattle.program_model.specs.Texts as texts
use Rattle.program_model.specs.Texts.{has_string, has_type, first_unit, letter_of}
use Rattle.program_model.specs.ValueRules.{marks_fit}
use Rattle.program_model.specs.declared.body.Body.{Body}
use Rattle.program_model.specs.declared.pools.FieldName.{FieldName}
use Rattle.program_model.specs.declared.pools.MethodName.{MethodName}
use Rattle.program_model.specs.declared.pools.Proto.{Proto}
use Rattle.program_model.specs.declared.program.Class.{Class}
use Rattle.program_model.specs.declared.program.Method.{Method}
use Rattle.program_model.specs.declared.program.Program.{Program}
use Rattle.insn_set.specs.declared.form.Insn.{Insn}
use Rattle.insn_set.specs.declared.form.Insn.TheVariants as insn
use Rattle.class_defs.specs.ClassGraph.{IsTwice}
use Rattle.program_model.specs.Lookups.{class_place}
use Rattle.class_defs.specs.Members.{is_method, names_method}
use Rattle.class_defs.proofs.Positions.{number_test, number_of, both, place_entry, FirstPlace, place_first}
use Rattle.class_defs.proofs.WellFormed.{and_left, and_right, all_at, Sound, MethodFits, class_parts}
use Rattle.dalvik_defs.specs.Names as name
use Rattle.dalvik_defs.specs.Names.{Text}
use Rattle.dalvik_defs.specs.Find.{method_in}
use Rattle.dalvik_defs.specs.Naming.{text_at, type_at, field_at, form_of, named_method, named_class, named}
use Rattle.dalvik_defs.specs.Under.{class_named}
use Rattle.dalvik_defs.specs.declared.names.FieldKey.{FieldKey}
use Rattle.dalvik_defs.specs.declared.names.Signature.{Signature}
use Rattle.pass_defs.specs.Typed.{words_of}
use Rattle.name_bridge.specs.Named.{class_at}
use Rattle.name_bridge.proofs.Tables.{same_number, method_is, method_name, method_proto}
use Rattle.name_bridge.proofs.Flags.{static_flag}
use Rattle.name_bridge.proofs.Classes.{class_by_number, method_by_number}
use Rattle.name_bridge.proofs.Found.{type_same}
use Rattle.run_laws.specs.Regular.{reads_value, taken}
use Rattle.removal_bridge.proofs.Listed.{find_alone, some_same, method_fits_at, methods_differ}

module _ (p : Program) (s : Sound p) where
  -- ---- letters

  pub letter_same : (P : ℕ → Bool) (Q : Text → Bool) → P 0 ≡ Q [] → ((u : ℕ) (us : Text) → P u ≡ Q (u ∷ us)) → (k : ℕ) → P (letter_of p k) ≡ Q (type_at p k)
  unfolding letter_of
  letter_same P Q none some k = ap (λ t. P (first_unit t)) (sym (type_same p k)) ∙ by (type_at p k)
    where
      by : (t : Text) → P (first_unit t) ≡ Q t
      by [] = none
      by (u ∷ us) = some u us

  wide_same : (k : ℕ) → texts.is_wide (letter_of p k) ≡ name.is_wide (type_at p k)
  wide_same k = letter_same texts.is_wide name.is_wide refl (λ u us. refl) k

  void_same : (k : ℕ) → texts.is_void (letter_of p k) ≡ name.is_void (type_at p k)
  void_same k = letter_same texts.is_void name.is_void refl (λ u us. refl) k

  -- ---- classes

  module _ (twice : (class : ℕ) → IsTwice p class → ⊥) (i : ℕ) (c : Class) (e : slice_get p.classes i ≡ Some c) where
    class_once : class_place p c.name ≡ Some i
    class_once = by first.first
      where
        first : FirstPlace (λ d. nat_eq d.name c.name) p.classes i
        first = place_first (λ d. nat_eq d.name c.name) p.classes i c e (number_test c.name c.name refl)

        by : (first.place < i) ⊎ (first.place ≡ i) → class_place p c.name ≡ Some i
        by (inl h) = let o = place_entry (λ d. nat_eq d.name c.name) p.classes first.place first.is in
            absurd (twice i (record { earlier = first.place; before = h; one = o.entry; other = c; is_one = o.is; is_other = e; same = number_of o.entry.name c.name o.passes }))
        by (inr h) = first.is ∙ ap Some h

    pub class_known : class_named (named p) (type_at p c.name) ≡ Some (named_class p c)
    class_known = class_by_number p s c.name (class_parts p s i c e).name ∙ (ap (λ o. option_and_then (class_at p) o) class_once ∙ ap (option_map (named_class p)) e)

  -- ---- methods

  module _ (i : ℕ) (c : Class) (e : slice_get p.classes i ≡ Some c) (j : ℕ) (m : Method) (f : slice_get c.methods j ≡ Some m) where
    there : MethodFits p c.name m
    there = (class_parts p s i c e).methods j m f

    abbrev entry : MethodName
    entry = there.entry

    -- what has the name and the proto is the method itself
    alone : (k : ℕ) (x : Method) → slice_get c.methods k ≡ Some x → is_method p entry.name entry.proto x ≡ true → x ≡ m
    alone k x g h = some_same x m (sym g ∙ (ap (slice_get c.methods) (same_number own_method_key c.methods k j x m (methods_differ p s i c e) g f (ap (λ n. n ∷ []) number)) ∙ f))
      where
        other : MethodFits p c.name x
        other = (class_parts p s i c e).methods k x g

        named_so : names_method entry.name entry.proto (Some other.entry) ≡ true
        named_so = sym (ap (names_method entry.name entry.proto) other.is) ∙ h

        keys : method_key other.entry ≡ method_key entry
        keys = ap (λ n. n ∷ other.entry.name ∷ other.entry.proto ∷ []) (other.owner ∙ sym there.owner)
            ∙ (ap (λ n. entry.class ∷ n ∷ other.entry.proto ∷ []) (number_of other.entry.name entry.name (and_left (nat_eq other.entry.name entry.name) (nat_eq other.entry.proto entry.proto) named_so))
            ∙ ap (λ n. entry.class ∷ entry.name ∷ n ∷ []) (number_of other.entry.proto entry.proto (and_right (nat_eq other.entry.name entry.name) (nat_eq other.entry.proto entry.proto) named_so)))

        number : x.name ≡ m.name
        number = same_number method_key p.methods x.name m.name other.entry entry s.methods other.is there.is keys

    itself : is_method p entry.name entry.proto m ≡ true
    itself = ap (names_method entry.name entry.proto) there.is ∙ both (nat_eq entry.name entry.name) (nat_eq entry.proto entry.proto) (number_test entry.name entry.name refl) (number_test entry.proto entry.proto refl)

    pub method_known : method_in (named_class p c) (named_method p m).name (named_method p m).signature ≡ Some (named_method p m)
    method_known = ap (λ k. method_in (named_class p c) k.name k.signature) (method_is p s m.name entry there.is)
        ∙ (method_by_number p s i c entry.name entry.proto e (method_name p s m.name entry there.is) (method_proto p s m.name entry there.is)
        ∙ ap (option_map (named_method p)) (find_alone (is_method p entry.name entry.proto) c.methods j m f itself alone))

    -- ---- the registers of arguments

    words_same : (ks : List ℕ) → words_of (map (type_at p) ks) ≡ sum_by (rules.words_of p) ks
    words_same [] = refl
    words_same (k ∷ ks) = ap (λ b. (if b then 2 else 1) + words_of (map (type_at p) ks)) (sym (wide_same k)) ∙ (ap (λ n. rules.words_of p k + n) (words_same ks) ∙ sym (sum_by-cons (rules.words_of p) k ks))

    coded : method_fits p c.name m ≡ true → code_fits p m m.body ≡ true
    unfolding method_fits
    coded h = and_right (is_class_number (class_of_method (slice_get p.methods m.name)) c.name) (code_fits p m m.body)
        (and_left (is_class_number (class_of_method (slice_get p.methods m.name)) c.name && code_fits p m m.body) (marks_fit p m.marks && list_all (marks_fit p) m.parameter_marks) h)

    unframed : (b : Body) → frame_fits p m b ≡ true → (takes_words p m.flags (proto_of p m.name) b.ins && nat_le b.ins b.registers) ≡ true
    unfolding frame_fits
    unframed b h = h

    pub taken_known : (b : Body) → m.body ≡ Some b → b.ins ≡ taken (named_method p m)
    taken_known b is = by (slice_get p.protos entry.proto) refl (and_left (takes_words p m.flags (proto_of p m.name) b.ins) (nat_le b.ins b.registers) (unframed b framed))
      where
        framed : frame_fits p m b ≡ true
        framed = and_left (frame_fits p m b) (body_fits p b && lines_fit (length b.insns) m.lines)
            (and_right (not (lacks_code m.flags)) (frame_fits p m b && (body_fits p b && lines_fit (length b.insns) m.lines)) (sym (ap (code_fits p m) is) ∙ coded (method_fits_at p s i c e j m f)))

        proto_is : proto_of p m.name ≡ slice_get p.protos entry.proto
        proto_is = ap (option_and_then (λ q. slice_get p.protos q.proto)) there.is

        signature_is : (q : Proto) → slice_get p.protos entry.proto ≡ Some q → (named_method p m).signature.parameters ≡ map (type_at p) q.parameters
        signature_is q g = ap (λ k. k.signature.parameters) (method_is p s m.name entry there.is)
            ∙ ap (λ o. (elim o as (λ o. Signature) [ Some q ↦ record { parameters = map (type_at p) q.parameters; result = type_at p q.result } | None ↦ record { parameters = []; result = [] } ]).parameters) g

        by : (o : Option Proto) → slice_get p.protos entry.proto ≡ o → takes_words p m.flags (proto_of p m.name) b.ins ≡ true → b.ins ≡ taken (named_method p m)
        by None g h = absurd (true≢false (sym h ∙ ap (λ o. takes_words p m.flags o b.ins) (proto_is ∙ g)))
        by (Some q) g h = number_of b.ins (receiver_words m.flags + sum_by (rules.words_of p) q.parameters) (sym (ap (λ o. takes_words p m.flags o b.ins) (proto_is ∙ g)) ∙ h)
            ∙ (ap (λ n. receiver_words m.flags + n) (sym (words_same q.parameters) ∙ ap words_of (sym (signature_is q g)))
            ∙ ap (λ x. (if x then 0 else 1) + words_of (named_method p m).signature.parameters) (static_flag m.flags))

  -- ---- fields that are read

  field_valued : (n : ℕ) → name.is_void (field_at p n).kind ≡ false
  field_valued n = by (slice_get p.fields n) refl
    where
      off : (b : Bool) → not b ≡ true → b ≡ false
      off true h = absurd (true≢false (sym h))
      off false h = refl

      by : (o : Option FieldName) → slice_get p.fields n ≡ o
          → name.is_void (elim o as (λ o. FieldKey) [ Some f ↦ record { class = type_at p f.class; name = text_at p f.name; kind = type_at p f.kind } | None ↦ record { class = []; name = []; kind = [] } ]).kind ≡ false
      by None g = refl
      by (Some x) g = sym (void_same x.kind) ∙ off (texts.is_void (letter_of p x.kind)) (and_right (has_string p x.name) (not (texts.is_void (letter_of p x.kind)))
          (and_right (has_type p x.class && has_type p x.kind) (has_string p x.name && not (texts.is_void (letter_of p x.kind))) (all_at (field_id_fits p) p.fields n x s.fields_fit g)))

  pub reads_known : (x : Insn) → reads_value (form_of p x) ≡ true
  reads_known (insn.InstanceGet item to on field) = ap not (field_valued field)
  reads_known (insn.StaticGet item to field) = ap not (field_valued field)
  reads_known x = refl
