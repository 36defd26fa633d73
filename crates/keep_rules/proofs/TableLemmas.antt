-- What is marked is the table of the rules.
use Rattle.std.proofs.Common.{◌≡◌, ℕ, zero, suc, ◌<◌, Bool, true, false, true≢false, nat_eq, List, [], ◌∷◌, length, map, Option, Some, None, refl, sym, ap, subst, ◌∙◌, arith, inl, inr, ◌⊎◌}
use Rattle.std.specs.Prelude.{◌&&◌, ◌||◌, slice_get, All}
use Rattle.std.specs.List.{list_any}
use Rattle.program_model.specs.declared.pools.Proto.{Proto}
use Rattle.program_model.specs.declared.pass.ClassIf.{ClassIf}
use Rattle.program_model.specs.declared.pass.Outside.{Outside}
use Rattle.program_model.specs.declared.program.Field.{Field}
use Rattle.program_model.specs.declared.program.Method.{Method}
use Rattle.program_model.specs.declared.program.Class.{Class}
use Rattle.program_model.specs.declared.program.Program.{Program}
use Rattle.program_model.specs.Lookups.{class_place}
use Rattle.class_defs.specs.ClassGraph.{IsTwice}
use Rattle.class_defs.proofs.Positions.{same_test, both, number_of, number_test, entry_at}
use Rattle.class_defs.proofs.WellFormed.{Sound, class_parts, FieldFits, MethodFits, and_left, and_right}
use Rattle.name_bridge.proofs.Classes.{type_test}
use Rattle.name_bridge.proofs.Above.{defined, own_place}
use Rattle.name_bridge.proofs.Tables.{method_is, field_is, method_proto}
use Rattle.dalvik_defs.specs.Names.{Text, text_eq, base_of}
use Rattle.dalvik_defs.specs.Naming.{type_at, signature_at, named_field, named_method, named_class, named}
use Rattle.dalvik_defs.specs.Under.{defines}
use Rattle.dalvik_defs.specs.declared.names.Signature.{Signature}
use Rattle.rule_text.specs.Rules.{KeepRule, Entry}
use Rattle.rule_defs.specs.Kept.{applies, some_line_of_method, some_line_of_field, keeps_method, keeps_field, keeps_class, names_base, describes, describing, rules_of, some_class, table_of}
use Rattle.keep_rules.specs.Marks.{is_on}
use Rattle.keep_rules.specs.Table.{has_pair, defines_type, AgreesWith, OwnClasses, IsTable}
use Rattle.keep_rules.specs.Outside.{IsWithin}
use Rattle.keep_rules.specs.Grown.{Kinds, Kept, Live, Described, DescribedLive, lined_field, lined_method, rule_classes, rule_fields, rule_methods, all_marks}
use Rattle.keep_rules.specs.Described.{names_class, proto_names, method_names, field_names, fields_name, methods_name, class_names, has_both, Pairs}
use Rattle.keep_rules.specs.Entries.{IsMarked, IsListed, HasFlags}
use Rattle.keep_rules.specs.declared.marks.Marks.{Marks}
use Rattle.keep_rules.proofs.AnyLemmas.{find_any, any_at, or_front, or_behind, or_cases, below_length, any_congr, any_congr_in}
use Rattle.keep_rules.proofs.RuleLemmas.{any_both, any_swap, any_either, keeps_method_is, keeps_field_is}
use Rattle.keep_rules.proofs.OwnLemmas.{own_of, listed_below}
use Rattle.keep_rules.proofs.PlaceLemmas.{undefined, defined_there}
use Rattle.keep_rules.proofs.DescribedLemmas.{class_pairs}

any_map : {A B : Type 0} (t : B → Bool) (f : A → B) (xs : List A) → list_any t (map f xs) ≡ list_any (λ x. t (f x)) xs
any_map t f [] = refl
any_map t f (x ∷ xs) = ap (λ b. t (f x) || b) (any_map t f xs)

-- ---- the member of a number that some rules keep

pub record KeptMethod (p : Program) (rs : List KeepRule) (k : ℕ) : Type 0 where
  pub place : ℕ
  pub class : Class
  pub is : slice_get p.classes place ≡ Some class
  pub at : ℕ
  pub method : Method
  pub there : slice_get class.methods at ≡ Some method
  pub number : method.name ≡ k
  pub kept : keeps_method (named p) rs (named_class p class) (named_method p method) ≡ true

pub record KeptField (p : Program) (rs : List KeepRule) (k : ℕ) : Type 0 where
  pub place : ℕ
  pub class : Class
  pub is : slice_get p.classes place ≡ Some class
  pub at : ℕ
  pub field : Field
  pub there : slice_get class.fields at ≡ Some field
  pub number : field.name ≡ k
  pub kept : keeps_field (named p) rs (named_class p class) (named_field p field) ≡ true

module _ (p : Program) (rs : List KeepRule) (k : ℕ) where
  kept_method : list_any (λ r. rule_methods p r p.classes k) rs ≡ true → KeptMethod p rs k
  kept_method e =
      let r = find_any (λ r. rule_methods p r p.classes k) rs e in
      let c = find_any (λ c. applies (named p) r.one (named_class p c) && list_any (lined_method p r.one k) c.methods) p.classes r.passes in
      let a = and_left (applies (named p) r.one (named_class p c.one)) (list_any (lined_method p r.one k) c.one.methods) c.passes in
      let m = find_any (lined_method p r.one k) c.one.methods (and_right (applies (named p) r.one (named_class p c.one)) (list_any (lined_method p r.one k) c.one.methods) c.passes) in
      record {
        place = c.at;
        class = c.one;
        is = c.is;
        at = m.at;
        method = m.one;
        there = m.is;
        number = sym (number_of k m.one.name (and_left (nat_eq k m.one.name) (some_line_of_method r.one.class (named_method p m.one)) m.passes));
        kept = any_at (λ r. applies (named p) r (named_class p c.one) && some_line_of_method r.class (named_method p m.one)) rs r.at r.one r.is
            (both (applies (named p) r.one (named_class p c.one)) (some_line_of_method r.one.class (named_method p m.one)) a (and_right (nat_eq k m.one.name) (some_line_of_method r.one.class (named_method p m.one)) m.passes));
      }

  method_kept : KeptMethod p rs k → list_any (λ r. rule_methods p r p.classes k) rs ≡ true
  method_kept q =
      let r = find_any (λ r. applies (named p) r (named_class p q.class) && some_line_of_method r.class (named_method p q.method)) rs q.kept in
      let a = and_left (applies (named p) r.one (named_class p q.class)) (some_line_of_method r.one.class (named_method p q.method)) r.passes in
      let l = and_right (applies (named p) r.one (named_class p q.class)) (some_line_of_method r.one.class (named_method p q.method)) r.passes in
      any_at (λ r. rule_methods p r p.classes k) rs r.at r.one r.is
      (any_at (λ c. applies (named p) r.one (named_class p c) && list_any (lined_method p r.one k) c.methods) p.classes q.place q.class q.is
      (both (applies (named p) r.one (named_class p q.class)) (list_any (lined_method p r.one k) q.class.methods) a
      (any_at (lined_method p r.one k) q.class.methods q.at q.method q.there (both (nat_eq k q.method.name) (some_line_of_method r.one.class (named_method p q.method)) (number_test k q.method.name (sym q.number)) l))))

  kept_field : list_any (λ r. rule_fields p r p.classes k) rs ≡ true → KeptField p rs k
  kept_field e =
      let r = find_any (λ r. rule_fields p r p.classes k) rs e in
      let c = find_any (λ c. applies (named p) r.one (named_class p c) && list_any (lined_field p r.one k) c.fields) p.classes r.passes in
      let a = and_left (applies (named p) r.one (named_class p c.one)) (list_any (lined_field p r.one k) c.one.fields) c.passes in
      let f = find_any (lined_field p r.one k) c.one.fields (and_right (applies (named p) r.one (named_class p c.one)) (list_any (lined_field p r.one k) c.one.fields) c.passes) in
      record {
        place = c.at;
        class = c.one;
        is = c.is;
        at = f.at;
        field = f.one;
        there = f.is;
        number = sym (number_of k f.one.name (and_left (nat_eq k f.one.name) (some_line_of_field r.one.class (named_field p f.one)) f.passes));
        kept = any_at (λ r. applies (named p) r (named_class p c.one) && some_line_of_field r.class (named_field p f.one)) rs r.at r.one r.is
            (both (applies (named p) r.one (named_class p c.one)) (some_line_of_field r.one.class (named_field p f.one)) a (and_right (nat_eq k f.one.name) (some_line_of_field r.one.class (named_field p f.one)) f.passes));
      }

  field_kept : KeptField p rs k → list_any (λ r. rule_fields p r p.classes k) rs ≡ true
  field_kept q =
      let r = find_any (λ r. applies (named p) r (named_class p q.class) && some_line_of_field r.class (named_field p q.field)) rs q.kept in
      let a = and_left (applies (named p) r.one (named_class p q.class)) (some_line_of_field r.one.class (named_field p q.field)) r.passes in
      let l = and_right (applies (named p) r.one (named_class p q.class)) (some_line_of_field r.one.class (named_field p q.field)) r.passes in
      any_at (λ r. rule_fields p r p.classes k) rs r.at r.one r.is
      (any_at (λ c. applies (named p) r.one (named_class p c) && list_any (lined_field p r.one k) c.fields) p.classes q.place q.class q.is
      (both (applies (named p) r.one (named_class p q.class)) (list_any (lined_field p r.one k) q.class.fields) a
      (any_at (lined_field p r.one k) q.class.fields q.at q.field q.there (both (nat_eq k q.field.name) (some_line_of_field r.one.class (named_field p q.field)) (number_test k q.field.name (sym q.number)) l))))

-- ---- what descriptors name

module _ (p : Program) (s : Sound p) (n : ℕ) where
  abbrev pub is_here : Bool
  is_here = defines (named p) (type_at p n)

  abbrev pub base_test : ℕ → Bool
  base_test kind = text_eq (base_of (type_at p kind)) (type_at p n)

  bases : (ks : List ℕ) → list_any base_test ks ≡ names_base (type_at p n) (map (type_at p) ks)
  bases [] = refl
  bases (k ∷ ks) = ap (λ b. base_test k || b) (bases ks)

  signature_is : (i : ℕ) (q : Proto) → slice_get p.protos i ≡ Some q → signature_at p i ≡ record { parameters = map (type_at p) q.parameters; result = type_at p q.result }
  signature_is i q e = ap (λ o. elim o as (λ o. Signature) [ Some q ↦ record { parameters = map (type_at p) q.parameters; result = type_at p q.result } | None ↦ record { parameters = []; result = [] } ]) e

  method_bases : (class : ℕ) (m : Method) → MethodFits p class m → method_names p n m.name ≡ (is_here && names_base (type_at p n) ((named_method p m).signature.result ∷ (named_method p m).signature.parameters))
  method_bases class m f =
      let q = entry_at p.protos f.entry.proto (method_proto p s m.name f.entry f.is) in
      ap (λ o. elim o as (λ o. Bool) [ Some name ↦ proto_names p n (slice_get p.protos name.proto) | None ↦ false ]) f.is
      ∙ ap (proto_names p n) q.1
      ∙ any_both is_here base_test (q.0.result ∷ q.0.parameters)
      ∙ ap (λ b. is_here && b) (bases (q.0.result ∷ q.0.parameters) ∙ ap (λ (g : Signature). names_base (type_at p n) (g.result ∷ g.parameters)) (sym (ap (λ k. k.signature) (method_is p s m.name f.entry f.is) ∙ signature_is f.entry.proto q.0 q.1)))

  field_bases : (class : ℕ) (f : Field) → FieldFits p class f → field_names p n f.name ≡ (is_here && names_base (type_at p n) ((named_field p f).kind ∷ []))
  field_bases class f h =
      ap (λ o. elim o as (λ o. Bool) [ Some name ↦ names_class p n name.kind | None ↦ false ]) h.is
      ∙ ap (λ b. is_here && b) (sym (last (base_test h.entry.kind)) ∙ ap (λ (u : Text). names_base (type_at p n) (u ∷ [])) (sym (ap (λ k. k.kind) (field_is p s f.name h.entry h.is))))
    where
      last : (b : Bool) → (b || false) ≡ b
      last true = refl
      last false = refl

  -- ---- classes that descriptors of kept members name

  module _ (rs : List KeepRule) (fields methods : List Bool) (are_fields : (k : ℕ) → k < length p.fields → is_on fields k ≡ list_any (λ r. rule_fields p r p.classes k) (describing rs))
      (are_methods : (k : ℕ) → k < length p.methods → is_on methods k ≡ list_any (λ r. rule_methods p r p.classes k) (describing rs)) (g : ℕ → Bool) where
    abbrev pub is_describer : Class → Bool
    is_describer c = g c.name && describes (named p) rs (named_class p c) (type_at p n)

    by_methods : (c : Class) → list_any (λ m. keeps_method (named p) (describing rs) (named_class p c) (named_method p m) && names_base (type_at p n) ((named_method p m).signature.result ∷ (named_method p m).signature.parameters)) c.methods ≡ true
        → describes (named p) rs (named_class p c) (type_at p n) ≡ true
    by_methods c e = or_front
        (list_any (λ m. keeps_method (named p) (describing rs) (named_class p c) m && names_base (type_at p n) (m.signature.result ∷ m.signature.parameters)) (map (named_method p) c.methods))
        (list_any (λ f. keeps_field (named p) (describing rs) (named_class p c) f && names_base (type_at p n) (f.kind ∷ [])) (map (named_field p) c.fields))
        (any_map (λ m. keeps_method (named p) (describing rs) (named_class p c) m && names_base (type_at p n) (m.signature.result ∷ m.signature.parameters)) (named_method p) c.methods ∙ e)

    by_fields : (c : Class) → list_any (λ f. keeps_field (named p) (describing rs) (named_class p c) (named_field p f) && names_base (type_at p n) ((named_field p f).kind ∷ [])) c.fields ≡ true
        → describes (named p) rs (named_class p c) (type_at p n) ≡ true
    by_fields c e = or_behind
        (list_any (λ m. keeps_method (named p) (describing rs) (named_class p c) m && names_base (type_at p n) (m.signature.result ∷ m.signature.parameters)) (map (named_method p) c.methods))
        (list_any (λ f. keeps_field (named p) (describing rs) (named_class p c) f && names_base (type_at p n) (f.kind ∷ [])) (map (named_field p) c.fields))
        (any_map (λ f. keeps_field (named p) (describing rs) (named_class p c) f && names_base (type_at p n) (f.kind ∷ [])) (named_field p) c.fields ∙ e)

    either_way : (c : Class) → describes (named p) rs (named_class p c) (type_at p n) ≡ true
        → (list_any (λ m. keeps_method (named p) (describing rs) (named_class p c) (named_method p m) && names_base (type_at p n) ((named_method p m).signature.result ∷ (named_method p m).signature.parameters)) c.methods ≡ true)
        ⊎ (list_any (λ f. keeps_field (named p) (describing rs) (named_class p c) (named_field p f) && names_base (type_at p n) ((named_field p f).kind ∷ [])) c.fields ≡ true)
    either_way c e = elim (or_cases
        (list_any (λ m. keeps_method (named p) (describing rs) (named_class p c) m && names_base (type_at p n) (m.signature.result ∷ m.signature.parameters)) (map (named_method p) c.methods))
        (list_any (λ f. keeps_field (named p) (describing rs) (named_class p c) f && names_base (type_at p n) (f.kind ∷ [])) (map (named_field p) c.fields)) e) [
          | inl h ↦ inl (sym (any_map (λ m. keeps_method (named p) (describing rs) (named_class p c) m && names_base (type_at p n) (m.signature.result ∷ m.signature.parameters)) (named_method p) c.methods) ∙ h)
          | inr h ↦ inr (sym (any_map (λ f. keeps_field (named p) (describing rs) (named_class p c) f && names_base (type_at p n) (f.kind ∷ [])) (named_field p) c.fields) ∙ h)
        ]

    -- from what is marked
    from_method : (i : ℕ) (c : Class) → slice_get p.classes i ≡ Some c → g c.name ≡ true → methods_name p methods c n ≡ true → (is_here && list_any is_describer p.classes) ≡ true
    from_method i c e gc h =
        let m = find_any (λ m. is_on methods m.name && method_names p n m.name) c.methods h in
        let fit = (class_parts p s i c e).methods m.at m.one m.is in
        let inside = below_length p.methods m.one.name fit.entry fit.is in
        let q = kept_method p (describing rs) m.one.name (sym (are_methods m.one.name inside) ∙ and_left (is_on methods m.one.name) (method_names p n m.one.name) m.passes) in
        let other = (class_parts p s q.place q.class q.is).methods q.at q.method q.there in
        let entries : Some other.entry ≡ Some fit.entry = sym other.is ∙ ap (slice_get p.methods) q.number ∙ fit.is in
        let entry : other.entry ≡ fit.entry = cc in
        let owner : q.class.name ≡ c.name = sym other.owner ∙ ap (λ x. x.class) entry ∙ fit.owner in
        let names = sym (method_bases q.class.name q.method other) ∙ ap (method_names p n) q.number ∙ and_right (is_on methods m.one.name) (method_names p n m.one.name) m.passes in
        both is_here (list_any is_describer p.classes) (and_left is_here (names_base (type_at p n) ((named_method p q.method).signature.result ∷ (named_method p q.method).signature.parameters)) names)
        (any_at is_describer p.classes q.place q.class q.is (both (g q.class.name) (describes (named p) rs (named_class p q.class) (type_at p n)) (ap g owner ∙ gc)
        (by_methods q.class (any_at (λ m. keeps_method (named p) (describing rs) (named_class p q.class) (named_method p m) && names_base (type_at p n) ((named_method p m).signature.result ∷ (named_method p m).signature.parameters)) q.class.methods q.at q.method q.there
        (both (keeps_method (named p) (describing rs) (named_class p q.class) (named_method p q.method)) (names_base (type_at p n) ((named_method p q.method).signature.result ∷ (named_method p q.method).signature.parameters)) q.kept
        (and_right is_here (names_base (type_at p n) ((named_method p q.method).signature.result ∷ (named_method p q.method).signature.parameters)) names))))))

    from_field : (i : ℕ) (c : Class) → slice_get p.classes i ≡ Some c → g c.name ≡ true → fields_name p fields c n ≡ true → (is_here && list_any is_describer p.classes) ≡ true
    from_field i c e gc h =
        let f = find_any (λ f. is_on fields f.name && field_names p n f.name) c.fields h in
        let fit = (class_parts p s i c e).fields f.at f.one f.is in
        let inside = below_length p.fields f.one.name fit.entry fit.is in
        let q = kept_field p (describing rs) f.one.name (sym (are_fields f.one.name inside) ∙ and_left (is_on fields f.one.name) (field_names p n f.one.name) f.passes) in
        let other = (class_parts p s q.place q.class q.is).fields q.at q.field q.there in
        let entries : Some other.entry ≡ Some fit.entry = sym other.is ∙ ap (slice_get p.fields) q.number ∙ fit.is in
        let entry : other.entry ≡ fit.entry = cc in
        let owner : q.class.name ≡ c.name = sym other.owner ∙ ap (λ x. x.class) entry ∙ fit.owner in
        let names = sym (field_bases q.class.name q.field other) ∙ ap (field_names p n) q.number ∙ and_right (is_on fields f.one.name) (field_names p n f.one.name) f.passes in
        both is_here (list_any is_describer p.classes) (and_left is_here (names_base (type_at p n) ((named_field p q.field).kind ∷ [])) names)
        (any_at is_describer p.classes q.place q.class q.is (both (g q.class.name) (describes (named p) rs (named_class p q.class) (type_at p n)) (ap g owner ∙ gc)
        (by_fields q.class (any_at (λ f. keeps_field (named p) (describing rs) (named_class p q.class) (named_field p f) && names_base (type_at p n) ((named_field p f).kind ∷ [])) q.class.fields q.at q.field q.there
        (both (keeps_field (named p) (describing rs) (named_class p q.class) (named_field p q.field)) (names_base (type_at p n) ((named_field p q.field).kind ∷ [])) q.kept
        (and_right is_here (names_base (type_at p n) ((named_field p q.field).kind ∷ [])) names))))))

    -- from what the rules mean
    to_method : (i : ℕ) (c : Class) → slice_get p.classes i ≡ Some c → is_here ≡ true
        → list_any (λ m. keeps_method (named p) (describing rs) (named_class p c) (named_method p m) && names_base (type_at p n) ((named_method p m).signature.result ∷ (named_method p m).signature.parameters)) c.methods ≡ true → methods_name p methods c n ≡ true
    to_method i c e d h =
        let m = find_any (λ m. keeps_method (named p) (describing rs) (named_class p c) (named_method p m) && names_base (type_at p n) ((named_method p m).signature.result ∷ (named_method p m).signature.parameters)) c.methods h in
        let fit = (class_parts p s i c e).methods m.at m.one m.is in
        let inside = below_length p.methods m.one.name fit.entry fit.is in
        let k = and_left (keeps_method (named p) (describing rs) (named_class p c) (named_method p m.one)) (names_base (type_at p n) ((named_method p m.one).signature.result ∷ (named_method p m.one).signature.parameters)) m.passes in
        let b = and_right (keeps_method (named p) (describing rs) (named_class p c) (named_method p m.one)) (names_base (type_at p n) ((named_method p m.one).signature.result ∷ (named_method p m.one).signature.parameters)) m.passes in
        any_at (λ m. is_on methods m.name && method_names p n m.name) c.methods m.at m.one m.is
        (both (is_on methods m.one.name) (method_names p n m.one.name)
        (are_methods m.one.name inside ∙ method_kept p (describing rs) m.one.name (record { place = i; class = c; is = e; at = m.at; method = m.one; there = m.is; number = refl; kept = k }))
        (method_bases c.name m.one fit ∙ both is_here (names_base (type_at p n) ((named_method p m.one).signature.result ∷ (named_method p m.one).signature.parameters)) d b))

    to_field : (i : ℕ) (c : Class) → slice_get p.classes i ≡ Some c → is_here ≡ true
        → list_any (λ f. keeps_field (named p) (describing rs) (named_class p c) (named_field p f) && names_base (type_at p n) ((named_field p f).kind ∷ [])) c.fields ≡ true
        → fields_name p fields c n ≡ true
    to_field i c e d h =
        let f = find_any (λ f. keeps_field (named p) (describing rs) (named_class p c) (named_field p f) && names_base (type_at p n) ((named_field p f).kind ∷ [])) c.fields h in
        let fit = (class_parts p s i c e).fields f.at f.one f.is in
        let inside = below_length p.fields f.one.name fit.entry fit.is in
        let k = and_left (keeps_field (named p) (describing rs) (named_class p c) (named_field p f.one)) (names_base (type_at p n) ((named_field p f.one).kind ∷ [])) f.passes in
        let b = and_right (keeps_field (named p) (describing rs) (named_class p c) (named_field p f.one)) (names_base (type_at p n) ((named_field p f.one).kind ∷ [])) f.passes in
        any_at (λ f. is_on fields f.name && field_names p n f.name) c.fields f.at f.one f.is
        (both (is_on fields f.one.name) (field_names p n f.one.name)
        (are_fields f.one.name inside ∙ field_kept p (describing rs) f.one.name (record { place = i; class = c; is = e; at = f.at; field = f.one; there = f.is; number = refl; kept = k }))
        (field_bases c.name f.one fit ∙ both is_here (names_base (type_at p n) ((named_field p f.one).kind ∷ [])) d b))

    pub described_is : list_any (λ c. class_names p fields methods c n && g c.name) p.classes ≡ (is_here && list_any is_describer p.classes)
    described_is = same_test (list_any (λ c. class_names p fields methods c n && g c.name) p.classes) (is_here && list_any is_describer p.classes)
        (λ e. let c = find_any (λ c. class_names p fields methods c n && g c.name) p.classes e in
        let gc = and_right (class_names p fields methods c.one n) (g c.one.name) c.passes in
        elim (or_cases (fields_name p fields c.one n) (methods_name p methods c.one n) (and_left (class_names p fields methods c.one n) (g c.one.name) c.passes)) [ inl h ↦ from_field c.at c.one c.is gc h | inr h ↦ from_method c.at c.one c.is gc h ])
        (λ e. let d = and_left is_here (list_any is_describer p.classes) e in
        let c = find_any is_describer p.classes (and_right is_here (list_any is_describer p.classes) e) in
        let gc = and_left (g c.one.name) (describes (named p) rs (named_class p c.one) (type_at p n)) c.passes in
        any_at (λ c. class_names p fields methods c n && g c.name) p.classes c.at c.one c.is (both (class_names p fields methods c.one n) (g c.one.name)
        (elim (either_way c.one (and_right (g c.one.name) (describes (named p) rs (named_class p c.one) (type_at p n)) c.passes)) [
          | inl h ↦ or_behind (fields_name p fields c.one n) (methods_name p methods c.one n) (to_method c.at c.one c.is d h)
          | inr h ↦ or_front (fields_name p fields c.one n) (methods_name p methods c.one n) (to_field c.at c.one c.is d h)
        ]) gc))

-- ---- the table

-- a class of the program by its number
defined_type : (p : Program) → Sound p → (n : ℕ) → n < length p.types → defines (named p) (type_at p n) ≡ true → defines_type p n ≡ true
defined_type p s n h e = by (class_place p n) refl
  where
    by : (o : Option ℕ) → class_place p n ≡ o → defines_type p n ≡ true
    by None g = absurd (true≢false (sym e ∙ undefined p s n h g))
    by (Some place) g = let d = defined p n place g in any_at (λ c. nat_eq n c.name) p.classes place d.class d.is (number_test n d.class.name (sym d.named))

pair_below : (size : ℕ) (part : ClassIf → ℕ) (pairs : List ClassIf) → All (λ pair. part pair < size) pairs → (i : ℕ) (pair : ClassIf) → slice_get pairs i ≡ Some pair → part pair < size
pair_below size part [] all i pair e = cc
pair_below size part (q ∷ qs) all zero pair e = let s : q ≡ pair = cc in subst (λ x. part x < size) s (all 0 q (omega arith))
pair_below size part (q ∷ qs) all (suc i) pair e = pair_below size part qs (λ k d h. all (suc k) d (omega (arith, h))) i pair e

module _ (p : Program) (s : Sound p) (once : (class : ℕ) → IsTwice p class → ⊥) (es : List Entry) (marks : Marks) (m : IsMarked p es marks) where
  flip : (a b : ℕ) → nat_eq a b ≡ nat_eq b a
  flip a b = same_test (nat_eq a b) (nat_eq b a) (λ e. number_test b a (sym (number_of a b e))) (λ e. number_test a b (sym (number_of b a e)))

  same_name : (n : ℕ) → n < length p.types → (i : ℕ) (c : Class) → slice_get p.classes i ≡ Some c → text_eq (type_at p c.name) (type_at p n) ≡ nat_eq n c.name
  same_name n h i c e = type_test p s c.name n (class_parts p s i c e).name h ∙ flip c.name n

  -- the classes of rules themselves
  kept_classes : (n : ℕ) → n < length p.types → some_class (named p) (λ c. text_eq c.name (type_at p n) && keeps_class (named p) (rules_of false es) c) ≡ all_marks p es Kinds n
  kept_classes n h =
      any_map (λ c. text_eq c.name (type_at p n) && keeps_class (named p) (rules_of false es) c) (named_class p) p.classes
      ∙ any_congr_in (λ c. text_eq (type_at p c.name) (type_at p n) && keeps_class (named p) (rules_of false es) (named_class p c)) (λ c. list_any (λ r. nat_eq n c.name && applies (named p) r (named_class p c)) (rules_of false es)) p.classes
      (λ i c e. ap (λ b. b && keeps_class (named p) (rules_of false es) (named_class p c)) (same_name n h i c e) ∙ sym (any_both (nat_eq n c.name) (λ r. applies (named p) r (named_class p c)) (rules_of false es)))
      ∙ any_swap (λ c r. nat_eq n c.name && applies (named p) r (named_class p c)) p.classes (rules_of false es)
      ∙ any_congr (λ r. list_any (λ c. nat_eq n c.name && applies (named p) r (named_class p c)) p.classes) (λ r. rule_classes p r p.classes n) (rules_of false es)
      (λ r. any_congr (λ c. nat_eq n c.name && applies (named p) r (named_class p c)) (λ c. applies (named p) r (named_class p c) && nat_eq n c.name) p.classes (λ c. swap (nat_eq n c.name) (applies (named p) r (named_class p c))))
    where
      swap : (a b : Bool) → (a && b) ≡ (b && a)
      swap true true = refl
      swap true false = refl
      swap false true = refl
      swap false false = refl

  kept_defines : (n : ℕ) → n < length p.types → all_marks p es Kinds n ≡ true → defines (named p) (type_at p n) ≡ true
  kept_defines n h e =
      let r = find_any (λ r. rule_classes p r p.classes n) (rules_of false es) e in
      let c = find_any (λ c. applies (named p) r.one (named_class p c) && nat_eq n c.name) p.classes r.passes in
      let k = number_of n c.one.name (and_right (applies (named p) r.one (named_class p c.one)) (nat_eq n c.one.name) c.passes) in
      defined_there p s n h c.at (ap (class_place p) k ∙ own_place p once c.at c.one c.is)

  whole : (d a b : Bool) → (a ≡ true → d ≡ true) → (a || (d && b)) ≡ (d && (a || b))
  whole true a b f = refl
  whole false true b f = absurd (true≢false (sym (f refl)))
  whole false false b f = refl

  always : (c : Bool) → (c && true) ≡ c
  always true = refl
  always false = refl

  classes_are : (n : ℕ) → n < length p.types → is_on marks.classes.items n ≡ (table_of (named p) es).classes (type_at p n)
  classes_are n h =
      m.classes.are n h
      ∙ ap (λ b. all_marks p es Kinds n || b) (
      any_congr (λ c. class_names p marks.fields.described.items marks.methods.described.items c n) (λ c. class_names p marks.fields.described.items marks.methods.described.items c n && true) p.classes (λ c. sym (always (class_names p marks.fields.described.items marks.methods.described.items c n)))
      ∙ described_is p s n (rules_of false es) marks.fields.described.items marks.methods.described.items (m.fields Described).are (m.methods Described).are (λ k. true)
      )
      ∙ whole (defines (named p) (type_at p n)) (all_marks p es Kinds n) (list_any (λ c. describes (named p) (rules_of false es) (named_class p c) (type_at p n)) p.classes) (kept_defines n h)
      ∙ ap (λ b. defines (named p) (type_at p n) && b) (
      ap (λ b. b || list_any (λ c. describes (named p) (rules_of false es) (named_class p c) (type_at p n)) p.classes) (sym (kept_classes n h))
      ∙ ap (λ b. some_class (named p) (λ c. text_eq c.name (type_at p n) && keeps_class (named p) (rules_of false es) c) || b) (sym (any_map (λ c. describes (named p) (rules_of false es) c (type_at p n)) (named_class p) p.classes))
      ∙ sym (any_either (λ c. text_eq c.name (type_at p n) && keeps_class (named p) (rules_of false es) c) (λ c. describes (named p) (rules_of false es) c (type_at p n)) (map (named_class p) p.classes))
      )

  pairs_are : (pairs : List (ℕ × ℕ)) → Pairs p (class_pairs p marks.fields.described_live.items marks.methods.described_live.items p.classes) [] pairs → (n k : ℕ) → n < length p.types → k < length p.types
      → has_both pairs n k ≡ (table_of (named p) es).classes_if (type_at p n) (type_at p k)
  pairs_are pairs q n k h l =
      q.are n k h
      ∙ described_is p s n (rules_of true es) marks.fields.described_live.items marks.methods.described_live.items (m.fields DescribedLive).are (m.methods DescribedLive).are (nat_eq k)
      ∙ ap (λ b. defines (named p) (type_at p n) && b) (
      any_congr_in (λ c. nat_eq k c.name && describes (named p) (rules_of true es) (named_class p c) (type_at p n)) (λ c. text_eq (type_at p c.name) (type_at p k) && describes (named p) (rules_of true es) (named_class p c) (type_at p n)) p.classes
      (λ i c e. ap (λ b. b && describes (named p) (rules_of true es) (named_class p c) (type_at p n)) (sym (same_name k l i c e)))
      ∙ sym (any_map (λ c. text_eq c.name (type_at p k) && describes (named p) (rules_of true es) c (type_at p n)) (named_class p) p.classes)
      )

  agrees : (pairs : List (ℕ × ℕ)) (o : Outside) → Pairs p (class_pairs p marks.fields.described_live.items marks.methods.described_live.items p.classes) [] pairs → IsListed p marks pairs o → HasFlags es o → AgreesWith p (table_of (named p) es) o
  agrees pairs o q l f = record {
    classes = λ n h. l.classes n h ∙ classes_are n h;
    methods = λ n h. l.methods n h ∙ (m.methods Kept).are n h ∙ sym (keeps_method_is p s (rules_of false es) n h);
    fields = λ n h. l.fields n h ∙ (m.fields Kept).are n h ∙ sym (keeps_field_is p s (rules_of false es) n h);
    methods_if = λ n h. l.methods_if n h ∙ (m.methods Live).are n h ∙ sym (keeps_method_is p s (rules_of true es) n h);
    fields_if = λ n h. l.fields_if n h ∙ (m.fields Live).are n h ∙ sym (keeps_field_is p s (rules_of true es) n h);
    classes_if = λ n k h g. l.classes_if n k h g ∙ pairs_are pairs q n k h g;
    silent = λ n h. l.silent n h ∙ m.silent.are n h;
    shrink = f.shrink;
    optimise = f.optimise;
  }

  kinds_of : (o : Outside) → IsWithin p o → AgreesWith p (table_of (named p) es) o → OwnClasses p o
  kinds_of o w a = record {
    classes = λ n e. let h = listed_below (length p.types) o.classes w.classes.below n e in
        defined_type p s n h (and_left (defines (named p) (type_at p n)) (some_class (named p) (λ c. (text_eq c.name (type_at p n) && keeps_class (named p) (rules_of false es) c) || describes (named p) (rules_of false es) c (type_at p n))) (sym (a.classes n h) ∙ e));
    classes_if = λ n k e. pair n k e;
  }
    where
      pair : (n k : ℕ) → has_pair o.classes_if n k ≡ true → (defines_type p n ≡ true) × (defines_type p k ≡ true)
      pair n k e =
          let f = find_any (λ pair. nat_eq n pair.class && nat_eq k pair.owner) o.classes_if e in
          let first = number_of n f.one.class (and_left (nat_eq n f.one.class) (nat_eq k f.one.owner) f.passes) in
          let second = number_of k f.one.owner (and_right (nat_eq n f.one.class) (nat_eq k f.one.owner) f.passes) in
          let below_class = pair_below (length p.types) (λ q. q.class) o.classes_if w.classes_if f.at f.one f.is in
          let below_owner = pair_below (length p.types) (λ q. q.owner) o.classes_if w.owners f.at f.one f.is in
          let h : n < length p.types = omega (arith, first, below_class) in
          let l : k < length p.types = omega (arith, second, below_owner) in
          let t = sym (a.classes_if n k h l) ∙ e in (
            defined_type p s n h (and_left (defines (named p) (type_at p n)) (some_class (named p) (λ c. text_eq c.name (type_at p k) && describes (named p) (rules_of true es) c (type_at p n))) t),
            owned k l (sym (any_map (λ c. text_eq c.name (type_at p k) && describes (named p) (rules_of true es) c (type_at p n)) (named_class p) p.classes)
                ∙ and_right (defines (named p) (type_at p n)) (some_class (named p) (λ c. text_eq c.name (type_at p k) && describes (named p) (rules_of true es) c (type_at p n))) t),
          )
        where
          owned : (k : ℕ) → k < length p.types → list_any (λ c. text_eq (type_at p c.name) (type_at p k) && describes (named p) (rules_of true es) (named_class p c) (type_at p n)) p.classes ≡ true → defines_type p k ≡ true
          owned k l g =
              let c = find_any (λ c. text_eq (type_at p c.name) (type_at p k) && describes (named p) (rules_of true es) (named_class p c) (type_at p n)) p.classes g in
              any_at (λ c. nat_eq k c.name) p.classes c.at c.one c.is
              (sym (same_name k l c.at c.one c.is) ∙ and_left (text_eq (type_at p c.one.name) (type_at p k)) (describes (named p) (rules_of true es) (named_class p c.one) (type_at p n)) c.passes)

  pub table_is : (pairs : List (ℕ × ℕ)) (o : Outside) → Pairs p (class_pairs p marks.fields.described_live.items marks.methods.described_live.items p.classes) [] pairs → IsListed p marks pairs o → HasFlags es o → IsWithin p o → o.shut ≡ [] → IsTable p es o
  table_is pairs o q l f w shut =
      let a = agrees pairs o q l f in
      record { within = w; agrees = a; members = own_of p s es o w a; kinds = kinds_of o w a; shut = shut }
