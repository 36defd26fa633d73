-- What the framework may reach, by marks and by names.
use Rattle.std.proofs.Common.{◌≡◌, ℕ, zero, suc, ◌<◌, Bool, true, false, true≢false, List, [], ◌∷◌, ◌++◌, length, nat_eq, nat_lt, arith, ap, refl, sym, ◌∙◌, lt-ltb, ltb-true, eqb-true, eq-eqb}
use Rattle.std.specs.Prelude.{◌&&◌, ◌||◌, cond, slice_get, Option, Some, None}
use Rattle.std.specs.List.{list_any}
use Rattle.program_model.specs.declared.pools.MethodName.{MethodName}
use Rattle.program_model.specs.declared.pools.FieldName.{FieldName}
use Rattle.program_model.specs.declared.program.Program.{Program}
use Rattle.class_defs.proofs.Positions.{both, same_test}
use Rattle.name_bridge.proofs.Tables.{Sound, and_left, and_right, entry_at, field_class, field_is, field_once, method_class, method_is, method_once}
use Rattle.dalvik_defs.specs.Names.{Text, constructor_name, field_eq, method_eq, signature_eq, text_eq, texts_eq}
use Rattle.dalvik_defs.specs.Naming.{field_at, method_at, signature_at, text_at, type_at}
use Rattle.dalvik_defs.specs.Outer.{is_constructor_of, methods_in}
use Rattle.dalvik_defs.specs.declared.names.FieldKey.{FieldKey}
use Rattle.dalvik_defs.specs.declared.names.MethodKey.{MethodKey}
use Rattle.dalvik_defs.specs.declared.names.Signature.{Signature}
use Rattle.dalvik_lookups.specs.Reached.{constructed_kind, constructed_kinds, has_descriptor, is_among}
use Rattle.dalvik_lookups.proofs.Interned.{text_same, text_sound}
use Rattle.dalvik_state.proofs.Deep.{never_empty}

-- ---- keys

texts_same : (ts : List Text) → texts_eq ts ts ≡ true
texts_same [] = refl
texts_same (t ∷ ts) = both (text_eq t t) (texts_eq ts ts) (text_same t) (texts_same ts)

texts_sound : (ts us : List Text) → texts_eq ts us ≡ true → ts ≡ us
texts_sound [] [] e = refl
texts_sound [] (u ∷ us) e = absurd (true≢false (sym e))
texts_sound (t ∷ ts) [] e = absurd (true≢false (sym e))
texts_sound (t ∷ ts) (u ∷ us) e = λ i. text_sound t u (and_left (text_eq t u) (texts_eq ts us) e) i ∷ texts_sound ts us (and_right (text_eq t u) (texts_eq ts us) e) i

pub signature_sound : (a b : Signature) → signature_eq a b ≡ true → a ≡ b
signature_sound a b e = λ i. record {
  parameters = texts_sound a.parameters b.parameters (and_right (text_eq a.result b.result) (texts_eq a.parameters b.parameters) e) i;
  result = text_sound a.result b.result (and_left (text_eq a.result b.result) (texts_eq a.parameters b.parameters) e) i;
}

pub signature_same : (g : Signature) → signature_eq g g ≡ true
signature_same g = both (text_eq g.result g.result) (texts_eq g.parameters g.parameters) (text_same g.result) (texts_same g.parameters)

pub method_same : (k : MethodKey) → method_eq k k ≡ true
method_same k =
    both (text_eq k.class k.class && text_eq k.name k.name) (signature_eq k.signature k.signature)
    (both (text_eq k.class k.class) (text_eq k.name k.name) (text_same k.class) (text_same k.name))
    (signature_same k.signature)

pub method_sound : (a b : MethodKey) → method_eq a b ≡ true → a ≡ b
method_sound a b e =
    let names = and_left (text_eq a.class b.class && text_eq a.name b.name) (signature_eq a.signature b.signature) e in
    λ i. record {
      class = text_sound a.class b.class (and_left (text_eq a.class b.class) (text_eq a.name b.name) names) i;
      name = text_sound a.name b.name (and_right (text_eq a.class b.class) (text_eq a.name b.name) names) i;
      signature = signature_sound a.signature b.signature (and_right (text_eq a.class b.class && text_eq a.name b.name) (signature_eq a.signature b.signature) e) i;
    }

pub field_same : (k : FieldKey) → field_eq k k ≡ true
field_same k =
    both (text_eq k.class k.class && text_eq k.name k.name) (text_eq k.kind k.kind)
    (both (text_eq k.class k.class) (text_eq k.name k.name) (text_same k.class) (text_same k.name))
    (text_same k.kind)

pub field_sound : (a b : FieldKey) → field_eq a b ≡ true → a ≡ b
field_sound a b e =
    let names = and_left (text_eq a.class b.class && text_eq a.name b.name) (text_eq a.kind b.kind) e in
    λ i. record {
      class = text_sound a.class b.class (and_left (text_eq a.class b.class) (text_eq a.name b.name) names) i;
      name = text_sound a.name b.name (and_right (text_eq a.class b.class) (text_eq a.name b.name) names) i;
      kind = text_sound a.kind b.kind (and_right (text_eq a.class b.class && text_eq a.name b.name) (text_eq a.kind b.kind) e) i;
    }

-- ---- marks

past : {X : Type 0} (xs : List X) (n : ℕ) → (n < length xs → ⊥) → slice_get xs n ≡ None
past [] n f = refl
past (x ∷ xs) zero f = absurd (f (omega arith))
past (x ∷ xs) (suc n) f = past xs n (λ low. f (omega (arith, low)))

-- a number below a table's size is one of some numbers exactly where its name is that of one of them
among_named : {K : Type 0} (same : K → K → Bool) (name : ℕ → K) (count m : ℕ) → m < count → ((n : ℕ) → same (name n) (name m) ≡ true → m ≡ n) → same (name m) (name m) ≡ true
    → (ns : List ℕ) → is_among count ns m ≡ list_any (λ (n : ℕ). same (name n) (name m)) ns
among_named {K = K} same name count m low once self ns = ap (λ (b : Bool). b && list_any (nat_eq m) ns) (lt-ltb m count low) ∙ each ns
  where
    one : (n : ℕ) → nat_eq m n ≡ same (name n) (name m)
    one n = same_test (nat_eq m n) (same (name n) (name m)) (λ e. ap (λ (k : ℕ). same (name k) (name m)) (sym (eqb-true m n e)) ∙ self) (λ e. eq-eqb m n (once n e))

    each : (ns : List ℕ) → list_any (nat_eq m) ns ≡ list_any (λ (n : ℕ). same (name n) (name m)) ns
    each [] = refl
    each (n ∷ ns) = λ i. one n i || each ns i

module _ (p : Program) (s : Sound p) where
  -- a number past the table has the name of none
  abbrev key_of : Option MethodName → MethodKey
  key_of o = elim o as (λ o. MethodKey) [ Some m ↦ record { class = type_at p m.class; name = text_at p m.name; signature = signature_at p m.proto } | None ↦ record { class = []; name = []; signature = record { parameters = []; result = [] } } ]

  abbrev field_key_of : Option FieldName → FieldKey
  field_key_of o = elim o as (λ o. FieldKey) [ Some f ↦ record { class = type_at p f.class; name = text_at p f.name; kind = type_at p f.kind } | None ↦ record { class = []; name = []; kind = [] } ]

  pub method_number : (m : ℕ) → m < length p.methods → (n : ℕ) → method_eq (method_at p n) (method_at p m) ≡ true → m ≡ n
  method_number m low n e = by (nat_lt n (length p.methods)) refl
    where
      same : method_at p n ≡ method_at p m
      same = method_sound (method_at p n) (method_at p m) e

      by : (b : Bool) → nat_lt n (length p.methods) ≡ b → m ≡ n
      by true f = sym (method_once p s n m (ltb-true n (length p.methods) f) low same)
      by false f =
          let q = entry_at p.methods m low in
          let none : slice_get p.methods n ≡ None = past p.methods n (λ h. true≢false (sym (lt-ltb n (length p.methods) h) ∙ f)) in
          let empty : [] ≡ type_at p q.0.class = sym (ap (λ (o : Option MethodName). (key_of o).class) none) ∙ ap (λ (k : MethodKey). k.class) same ∙ ap (λ (k : MethodKey). k.class) (method_is p s m q.0 q.1) in
          absurd (never_empty p s q.0.class (method_class p s m q.0 q.1) (sym empty))

  field_number : (m : ℕ) → m < length p.fields → (n : ℕ) → field_eq (field_at p n) (field_at p m) ≡ true → m ≡ n
  field_number m low n e = by (nat_lt n (length p.fields)) refl
    where
      same : field_at p n ≡ field_at p m
      same = field_sound (field_at p n) (field_at p m) e

      by : (b : Bool) → nat_lt n (length p.fields) ≡ b → m ≡ n
      by true f = sym (field_once p s n m (ltb-true n (length p.fields) f) low same)
      by false f =
          let q = entry_at p.fields m low in
          let none : slice_get p.fields n ≡ None = past p.fields n (λ h. true≢false (sym (lt-ltb n (length p.fields) h) ∙ f)) in
          let empty : [] ≡ type_at p q.0.class = sym (ap (λ (o : Option FieldName). (field_key_of o).class) none) ∙ ap (λ (k : FieldKey). k.class) same ∙ ap (λ (k : FieldKey). k.class) (field_is p s m q.0 q.1) in
          absurd (never_empty p s q.0.class (field_class p s m q.0 q.1) (sym empty))

  -- methods and fields that are marked
  pub method_marked : (ns : List ℕ) (m : ℕ) → m < length p.methods → is_among (length p.methods) ns m ≡ methods_in p ns (method_at p m)
  method_marked ns m low = among_named method_eq (method_at p) (length p.methods) m low (method_number m low) (method_same (method_at p m)) ns

  pub field_marked : (ns : List ℕ) (m : ℕ) → m < length p.fields → is_among (length p.fields) ns m ≡ list_any (λ (n : ℕ). field_eq (field_at p n) (field_at p m)) ns
  field_marked ns m low = among_named field_eq (field_at p) (length p.fields) m low (field_number m low) (field_same (field_at p m)) ns

-- ---- classes of which a constructor is kept

any_both : (t : ℕ → Bool) (xs ys : List ℕ) → list_any t (xs ++ ys) ≡ (list_any t xs || list_any t ys)
any_both t [] ys = refl
any_both t (x ∷ xs) ys = by (t x) (any_both t xs ys)
  where
    by : (b : Bool) → list_any t (xs ++ ys) ≡ (list_any t xs || list_any t ys) → (b || list_any t (xs ++ ys)) ≡ ((b || list_any t xs) || list_any t ys)
    by true more = refl
    by false more = more

module _ (p : Program) (s : Sound p) (t : Text) where
  constructed_one : (n : ℕ) → list_any (has_descriptor p t) (constructed_kind p (slice_get p.methods n)) ≡ is_constructor_of t (method_at p n)
  constructed_one n = by (slice_get p.methods n) refl
    where
      nothing : (b : Bool) → false ≡ (b && false)
      nothing true = refl
      nothing false = refl

      one : (q : MethodName) → slice_get p.methods n ≡ Some q → (c : Bool) → list_any (has_descriptor p t) (cond c (q.class ∷ []) []) ≡ (text_eq (type_at p q.class) t && c)
      one q e true = ap (λ (b : Bool). (b && text_eq (type_at p q.class) t) || false) (lt-ltb q.class (length p.types) (method_class p s n q e)) ∙ last (text_eq (type_at p q.class) t)
        where
          last : (b : Bool) → (b || false) ≡ (b && true)
          last true = refl
          last false = refl
      one q e false = nothing (text_eq (type_at p q.class) t)

      by : (o : Option MethodName) → slice_get p.methods n ≡ o → list_any (has_descriptor p t) (constructed_kind p o) ≡ is_constructor_of t (key_of p s o)
      by None e = nothing (text_eq [] t)
      by (Some q) e = one q e (text_eq (text_at p q.name) constructor_name)

  pub constructed_marked : (ns : List ℕ) → list_any (has_descriptor p t) (constructed_kinds p ns) ≡ list_any (λ (n : ℕ). is_constructor_of t (method_at p n)) ns
  constructed_marked [] = refl
  constructed_marked (n ∷ ns) =
      any_both (has_descriptor p t) (constructed_kind p (slice_get p.methods n)) (constructed_kinds p ns)
      ∙ (λ i. constructed_one n i || constructed_marked ns i)
