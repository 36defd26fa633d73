-- Entries of the tables of a well-formed program: each number below a table's size has an entry of its own.
use Rattle.std.proofs.Common.{◌≡◌, ℕ, zero, suc, ◌<◌, Bool, true, false, true≢false, nat_eq, List, [], ◌∷◌, ◌++◌, map, length, Some, None, refl, sym, ap, ◌∙◌, arith, ◌⊎◌, inl, inr, ltb-true}
use Rattle.std.specs.Prelude.{◌&&◌, ◌||◌, not, if◌then◌else◌, slice_get, nat_lt, nat_le, is_ok}
use Rattle.std.specs.List.{list_all, list_any}
pub use Rattle.class_defs.proofs.Positions.{entry_at}
pub use Rattle.class_defs.proofs.WellFormed.{and_left, and_right, all_at, Sound, sound, below}
use Rattle.std.specs.Cmp.Lexicographic.{pointwise, nat_list_eq_equiv}
use Rattle.std.proofs.lemmas.Bool.{cases_lt}
use Rattle.std.proofs.lemmas.List.Folds.{list_any-append}
use Rattle.program_model.specs.declared.pools.Proto.{Proto}
use Rattle.program_model.specs.declared.pools.FieldName.{FieldName}
use Rattle.program_model.specs.declared.pools.MethodName.{MethodName}
use Rattle.program_model.specs.declared.program.Program.{Program}
use Rattle.program_model.specs.Distinct.{text_key, type_key, proto_key, field_key, method_key, same_entry, differ_from, all_differ}
use Rattle.dex_base.specs.Descriptor.{descriptor_of}
use Rattle.program_model.specs.Cells.{cells_of}
use Rattle.program_model.specs.Items.{items_of}
use Rattle.program_model.specs.Texts.{has_string, has_type, has_proto, string_text, letter_of, is_void}
use Rattle.program_model.specs.TableRules.{type_fits, is_shorty, proto_fits, field_id_fits, method_id_fits, entries_fit, entries_differ, tables_are_short, texts_are_short, tables_fit}
use Rattle.program_model.specs.MemberRules.{class_fits}
use Rattle.program_model.specs.ProgramRules.{is_well_formed}
use Rattle.dalvik_defs.specs.Names.{Text}
use Rattle.dalvik_defs.specs.Naming.{text_at, type_at, signature_at, field_at, method_at}
use Rattle.dalvik_defs.specs.declared.names.Signature.{Signature}
use Rattle.dalvik_defs.specs.declared.names.MethodKey.{MethodKey}
use Rattle.dalvik_defs.specs.declared.names.FieldKey.{FieldKey}

or_left : (a b : Bool) → (a || b) ≡ false → a ≡ false
or_left true b e = e
or_left false b e = refl

or_right : (a b : Bool) → (a || b) ≡ false → b ≡ false
or_right true b e = absurd (true≢false e)
or_right false b e = e

-- ---- entries of a list

-- ---- entries that differ

module _ {X : Type 0} (key : X → List ℕ) where
  branch : (b c : Bool) → (if b then false else c) ≡ true → (b ≡ false) × (c ≡ true)
  branch true c h = absurd (true≢false (sym h))
  branch false c h = (refl, h)

  -- an entry is none of those before it
  apart_before : (before xs : List X) (i : ℕ) (y : X) → differ_from key before xs ≡ true → slice_get xs i ≡ Some y → list_any (λ b. same_entry key b y) before ≡ false
  apart_before before [] i y h e = cc
  apart_before before (x ∷ xs) zero y h e = ap (λ z. list_any (λ b. same_entry key b z) before) (let s : y ≡ x = cc in s) ∙ (branch _ _ h).0
  apart_before before (x ∷ xs) (suc i) y h e =
      or_left _ _ (sym (list_any-append (λ b. same_entry key b y) before (x ∷ [])) ∙ apart_before (before ++ x ∷ []) xs i y (branch _ _ h).1 e)

  apart : (before xs : List X) (i j : ℕ) (x y : X) → differ_from key before xs ≡ true → slice_get xs i ≡ Some x → slice_get xs j ≡ Some y → i < j → same_entry key x y ≡ false
  apart before [] i j x y h e f lt = cc
  apart before (z ∷ zs) zero zero x y h e f lt = absurd (omega arith)
  apart before (z ∷ zs) zero (suc j) x y h e f lt =
      let a = or_right (list_any (λ b. same_entry key b y) before) _ (sym (list_any-append (λ b. same_entry key b y) before (z ∷ [])) ∙ apart_before (before ++ z ∷ []) zs j y (branch _ _ h).1 f) in
      ap (λ w. same_entry key w y) (let s : x ≡ z = cc in s) ∙ or_left _ _ a
  apart before (z ∷ zs) (suc i) zero x y h e f lt = absurd (omega arith)
  apart before (z ∷ zs) (suc i) (suc j) x y h e f lt = apart (before ++ z ∷ []) zs i j x y (branch _ _ h).1 e f (omega arith)

  self : (x y : X) → key x ≡ key y → same_entry key x y ≡ false → ⊥
  self x y e f = true≢false (sym (nat_list_eq_equiv.refl (key x)) ∙ ap (pointwise nat_eq (key x)) e ∙ f)

  compare : (i j : ℕ) → (i < j) ⊎ ((i ≡ j) ⊎ (j < i))
  compare i j = elim (cases_lt i j) [ inl l ↦ inl l | inr g ↦ elim (cases_lt j i) [ inl l ↦ inr (inr l) | inr k ↦ inr (inl (omega arith)) ] ]

  -- entries of one key have one number
  pub same_number : (xs : List X) (i j : ℕ) (x y : X) → all_differ key xs ≡ true → slice_get xs i ≡ Some x → slice_get xs j ≡ Some y → key x ≡ key y → i ≡ j
  same_number xs i j x y h e f k = elim (compare i j) [
    | inl lt ↦ absurd (self x y k (apart [] xs i j x y h e f lt))
    | inr (inl eq) ↦ eq
    | inr (inr gt) ↦ absurd (self y x (sym k) (apart [] xs j i y x h f e gt))
  ]

-- ---- the parts of entries

module _ (p : Program) (s : Sound p) where
  pub type_string : (i : ℕ) (n : ℕ) → slice_get p.types i ≡ Some n → n < length p.strings
  type_string i n e = below n (length p.strings) (and_left (has_string p n) (is_ok (descriptor_of (string_text p n))) (all_at (type_fits p) p.types i n s.types_fit e))

  pub proto_result : (i : ℕ) (q : Proto) → slice_get p.protos i ≡ Some q → q.result < length p.types
  proto_result i q e = below q.result (length p.types) (and_right (has_string p q.shorty) (has_type p q.result)
      (and_left (has_string p q.shorty && has_type p q.result) (list_all (has_type p) q.parameters && is_shorty p (string_text p q.shorty) q.result q.parameters) (all_at (proto_fits p) p.protos i q s.protos_fit e)))

  pub proto_parameters : (i : ℕ) (q : Proto) → slice_get p.protos i ≡ Some q → list_all (has_type p) q.parameters ≡ true
  proto_parameters i q e = and_left (list_all (has_type p) q.parameters) (is_shorty p (string_text p q.shorty) q.result q.parameters)
      (and_right (has_string p q.shorty && has_type p q.result) (list_all (has_type p) q.parameters && is_shorty p (string_text p q.shorty) q.result q.parameters) (all_at (proto_fits p) p.protos i q s.protos_fit e))

  field_parts : (i : ℕ) (f : FieldName) → slice_get p.fields i ≡ Some f → field_id_fits p f ≡ true
  field_parts i f e = all_at (field_id_fits p) p.fields i f s.fields_fit e

  pub field_class : (i : ℕ) (f : FieldName) → slice_get p.fields i ≡ Some f → f.class < length p.types
  field_class i f e = below f.class (length p.types) (and_left (has_type p f.class) (has_type p f.kind)
      (and_left (has_type p f.class && has_type p f.kind) (has_string p f.name && not (is_void (letter_of p f.kind))) (field_parts i f e)))

  pub field_kind : (i : ℕ) (f : FieldName) → slice_get p.fields i ≡ Some f → f.kind < length p.types
  field_kind i f e = below f.kind (length p.types) (and_right (has_type p f.class) (has_type p f.kind)
      (and_left (has_type p f.class && has_type p f.kind) (has_string p f.name && not (is_void (letter_of p f.kind))) (field_parts i f e)))

  pub field_name : (i : ℕ) (f : FieldName) → slice_get p.fields i ≡ Some f → f.name < length p.strings
  field_name i f e = below f.name (length p.strings) (and_left (has_string p f.name) (not (is_void (letter_of p f.kind)))
      (and_right (has_type p f.class && has_type p f.kind) (has_string p f.name && not (is_void (letter_of p f.kind))) (field_parts i f e)))

  method_parts : (i : ℕ) (m : MethodName) → slice_get p.methods i ≡ Some m → method_id_fits p m ≡ true
  method_parts i m e = all_at (method_id_fits p) p.methods i m s.methods_fit e

  pub method_class : (i : ℕ) (m : MethodName) → slice_get p.methods i ≡ Some m → m.class < length p.types
  method_class i m e = below m.class (length p.types) (and_left (has_type p m.class) (has_proto p m.proto && has_string p m.name) (method_parts i m e))

  pub method_proto : (i : ℕ) (m : MethodName) → slice_get p.methods i ≡ Some m → m.proto < length p.protos
  method_proto i m e = below m.proto (length p.protos) (and_left (has_proto p m.proto) (has_string p m.name) (and_right (has_type p m.class) (has_proto p m.proto && has_string p m.name) (method_parts i m e)))

  pub method_name : (i : ℕ) (m : MethodName) → slice_get p.methods i ≡ Some m → m.name < length p.strings
  method_name i m e = below m.name (length p.strings) (and_right (has_proto p m.proto) (has_string p m.name) (and_right (has_type p m.class) (has_proto p m.proto && has_string p m.name) (method_parts i m e)))

  -- ---- names are had by one number

  pub text_once : (i j : ℕ) → i < length p.strings → j < length p.strings → text_at p i ≡ text_at p j → i ≡ j
  text_once i j hi hj e =
      let a = entry_at p.strings i hi in
      let b = entry_at p.strings j hj in
      same_number text_key p.strings i j a.0 b.0 s.strings a.1 b.1 (sym (at i a.0 a.1) ∙ e ∙ at j b.0 b.1)
    where
      at : (k : ℕ) (t : Text) → slice_get p.strings k ≡ Some t → text_at p k ≡ t
      at k t e = ap (λ o. elim o [ Some t ↦ t | None ↦ [] ]) e

  type_is : (i n : ℕ) → slice_get p.types i ≡ Some n → type_at p i ≡ text_at p n
  type_is i n e = ap (λ o. elim o [ Some t ↦ text_at p t | None ↦ [] ]) e

  pub type_once : (i j : ℕ) → i < length p.types → j < length p.types → type_at p i ≡ type_at p j → i ≡ j
  type_once i j hi hj e =
      let a = entry_at p.types i hi in
      let b = entry_at p.types j hj in
      let n = text_once a.0 b.0 (type_string i a.0 a.1) (type_string j b.0 b.1) (sym (type_is i a.0 a.1) ∙ e ∙ type_is j b.0 b.1) in
      same_number type_key p.types i j a.0 b.0 s.types a.1 b.1 (ap (λ x. x ∷ []) n)

  pub types_once : (xs ys : List ℕ) → list_all (has_type p) xs ≡ true → list_all (has_type p) ys ≡ true → map (type_at p) xs ≡ map (type_at p) ys → xs ≡ ys
  types_once [] [] h k e = refl
  types_once [] (y ∷ ys) h k e = cc
  types_once (x ∷ xs) [] h k e = cc
  types_once (x ∷ xs) (y ∷ ys) h k e =
      let first : type_at p x ≡ type_at p y = cc in
      let more : map (type_at p) xs ≡ map (type_at p) ys = cc in
      let one = type_once x y (below x (length p.types) (and_left (has_type p x) (list_all (has_type p) xs) h)) (below y (length p.types) (and_left (has_type p y) (list_all (has_type p) ys) k)) first in
      let rest = types_once xs ys (and_right (has_type p x) (list_all (has_type p) xs) h) (and_right (has_type p y) (list_all (has_type p) ys) k) more in
      ap (λ z. z ∷ xs) one ∙ ap (λ zs. y ∷ zs) rest

  signature_is : (i : ℕ) (q : Proto) → slice_get p.protos i ≡ Some q → signature_at p i ≡ record { parameters = map (type_at p) q.parameters; result = type_at p q.result }
  signature_is i q e = ap (λ o. elim o as (λ o. Signature) [ Some q ↦ record { parameters = map (type_at p) q.parameters; result = type_at p q.result } | None ↦ record { parameters = []; result = [] } ]) e

  pub signature_once : (i j : ℕ) → i < length p.protos → j < length p.protos → signature_at p i ≡ signature_at p j → i ≡ j
  signature_once i j hi hj e =
      let a = entry_at p.protos i hi in
      let b = entry_at p.protos j hj in
      let same = sym (signature_is i a.0 a.1) ∙ e ∙ signature_is j b.0 b.1 in
      let result = type_once a.0.result b.0.result (proto_result i a.0 a.1) (proto_result j b.0 b.1) (ap (λ x. x.result) same) in
      let parameters = types_once a.0.parameters b.0.parameters (proto_parameters i a.0 a.1) (proto_parameters j b.0 b.1) (ap (λ x. x.parameters) same) in
      same_number proto_key p.protos i j a.0 b.0 s.protos a.1 b.1 (ap (λ x. x ∷ a.0.parameters) result ∙ ap (λ xs. b.0.result ∷ xs) parameters)

  pub field_is : (i : ℕ) (f : FieldName) → slice_get p.fields i ≡ Some f → field_at p i ≡ record { class = type_at p f.class; name = text_at p f.name; kind = type_at p f.kind }
  field_is i f e = ap (λ o. elim o as (λ o. FieldKey) [ Some f ↦ record { class = type_at p f.class; name = text_at p f.name; kind = type_at p f.kind } | None ↦ record { class = []; name = []; kind = [] } ]) e

  pub field_once : (i j : ℕ) → i < length p.fields → j < length p.fields → field_at p i ≡ field_at p j → i ≡ j
  field_once i j hi hj e =
      let a = entry_at p.fields i hi in
      let b = entry_at p.fields j hj in
      let same = sym (field_is i a.0 a.1) ∙ e ∙ field_is j b.0 b.1 in
      let class = type_once a.0.class b.0.class (field_class i a.0 a.1) (field_class j b.0 b.1) (ap (λ x. x.class) same) in
      let name = text_once a.0.name b.0.name (field_name i a.0 a.1) (field_name j b.0 b.1) (ap (λ x. x.name) same) in
      let kind = type_once a.0.kind b.0.kind (field_kind i a.0 a.1) (field_kind j b.0 b.1) (ap (λ x. x.kind) same) in
      same_number field_key p.fields i j a.0 b.0 s.fields a.1 b.1 (cc (class, name, kind))

  pub method_is : (i : ℕ) (m : MethodName) → slice_get p.methods i ≡ Some m → method_at p i ≡ record { class = type_at p m.class; name = text_at p m.name; signature = signature_at p m.proto }
  method_is i m e = ap (λ o. elim o as (λ o. MethodKey) [ Some m ↦ record { class = type_at p m.class; name = text_at p m.name; signature = signature_at p m.proto } | None ↦ record { class = []; name = []; signature = record { parameters = []; result = [] } } ]) e

  pub method_once : (i j : ℕ) → i < length p.methods → j < length p.methods → method_at p i ≡ method_at p j → i ≡ j
  method_once i j hi hj e =
      let a = entry_at p.methods i hi in
      let b = entry_at p.methods j hj in
      let same = sym (method_is i a.0 a.1) ∙ e ∙ method_is j b.0 b.1 in
      let class = type_once a.0.class b.0.class (method_class i a.0 a.1) (method_class j b.0 b.1) (ap (λ x. x.class) same) in
      let name = text_once a.0.name b.0.name (method_name i a.0 a.1) (method_name j b.0 b.1) (ap (λ x. x.name) same) in
      let proto = signature_once a.0.proto b.0.proto (method_proto i a.0 a.1) (method_proto j b.0 b.1) (ap (λ x. x.signature) same) in
      same_number method_key p.methods i j a.0 b.0 s.methods a.1 b.1 (cc (class, name, proto))
