-- What rules keep of the members of a program's classes, by number.
use Rattle.std.proofs.Common.{◌≡◌, ℕ, zero, suc, ◌<◌, Bool, true, false, true≢false, nat_eq, List, [], ◌∷◌, length, map, Some, refl, sym, ap, ◌∙◌, arith}
use Rattle.std.specs.Prelude.{◌&&◌, ◌||◌, slice_get}
use Rattle.std.specs.List.{list_any, All}
use Rattle.std.specs.Cmp.Lexicographic.{bytes_decides, pointwise_decides}
use Rattle.program_model.specs.declared.program.Field.{Field}
use Rattle.program_model.specs.declared.program.Method.{Method}
use Rattle.program_model.specs.declared.program.Class.{Class}
use Rattle.program_model.specs.declared.program.Program.{Program}
use Rattle.dalvik_defs.specs.Names.{text_eq, texts_eq, signature_eq, method_eq, field_eq}
use Rattle.dalvik_defs.specs.Naming.{type_at, field_at, method_at, named_field, named_method, named_class, named}
use Rattle.dalvik_defs.specs.Silence.{key_in}
use Rattle.dalvik_defs.specs.declared.names.Signature.{Signature}
use Rattle.dalvik_defs.specs.declared.names.MethodKey.{MethodKey}
use Rattle.dalvik_defs.specs.declared.names.FieldKey.{FieldKey}
use Rattle.dalvik_defs.specs.declared.program.NamedField.{NamedField}
use Rattle.dalvik_defs.specs.declared.program.NamedMethod.{NamedMethod}
use Rattle.dalvik_defs.specs.declared.program.NamedClass.{NamedClass}
use Rattle.program_model.specs.declared.pass.Outside.{Outside}
use Rattle.rule_text.specs.Rules.{Entry}
use Rattle.rule_defs.specs.Kept.{some_method, some_field, field_in, keeps_method, keeps_field, rules_of, table_of}
use Rattle.class_defs.proofs.WellFormed.{FieldFits, MethodFits, class_parts, and_left, and_right, Sound}
use Rattle.name_bridge.proofs.Lists.{same_test, both, number_test, number_of}
use Rattle.name_bridge.proofs.Tables.{method_is, field_is, method_once, field_once}
use Rattle.keep_rules.specs.Outside.{IsWithin}
use Rattle.keep_rules.specs.Table.{has, defines_method, defines_field, AgreesWith, OwnMembers}

-- ---- tests on lists

pub any_same : {A B : Type 0} (f : B → Bool) (g : A → B) (h : A → Bool) (xs : List A) → ((i : ℕ) (x : A) → slice_get xs i ≡ Some x → f (g x) ≡ h x) → list_any f (map g xs) ≡ list_any h xs
any_same f g h [] e = refl
any_same f g h (x ∷ xs) e = ap (λ b. b || list_any f (map g xs)) (e 0 x refl) ∙ ap (λ b. h x || b) (any_same f g h xs (λ i y d. e (suc i) y d))

either : (a b c d : Bool) → (a ≡ true → c ≡ true) → (b ≡ true → d ≡ true) → (a || b) ≡ true → (c || d) ≡ true
either true b c d f g e = ap (λ x. x || d) (f refl)
either false b true d f g e = refl
either false b false d f g e = g e

pub any_implies : {A : Type 0} (f h : A → Bool) (xs : List A) → ((x : A) → f x ≡ true → h x ≡ true) → list_any f xs ≡ true → list_any h xs ≡ true
any_implies f h [] g e = e
any_implies f h (x ∷ xs) g e = either (f x) (list_any f xs) (h x) (list_any h xs) (g x) (any_implies f h xs g) e

-- ---- keys by their numbers

signature_of : (a b : Signature) → signature_eq a b ≡ true → a ≡ b
signature_of a b h =
    let r = (bytes_decides a.result b.result).0 (and_left (text_eq a.result b.result) (texts_eq a.parameters b.parameters) h) in
    let q = (pointwise_decides {E = text_eq} bytes_decides a.parameters b.parameters).0 (and_right (text_eq a.result b.result) (texts_eq a.parameters b.parameters) h) in
    λ i. record { parameters = q i; result = r i }

signature_self : (a : Signature) → signature_eq a a ≡ true
signature_self a = both (text_eq a.result a.result) (texts_eq a.parameters a.parameters) ((bytes_decides a.result a.result).1 refl) ((pointwise_decides {E = text_eq} bytes_decides a.parameters a.parameters).1 refl)

method_of : (a b : MethodKey) → method_eq a b ≡ true → a ≡ b
method_of a b h =
    let front = and_left (text_eq a.class b.class && text_eq a.name b.name) (signature_eq a.signature b.signature) h in
    let c = (bytes_decides a.class b.class).0 (and_left (text_eq a.class b.class) (text_eq a.name b.name) front) in
    let n = (bytes_decides a.name b.name).0 (and_right (text_eq a.class b.class) (text_eq a.name b.name) front) in
    let s = signature_of a.signature b.signature (and_right (text_eq a.class b.class && text_eq a.name b.name) (signature_eq a.signature b.signature) h) in
    λ i. record { class = c i; name = n i; signature = s i }

method_self : (a : MethodKey) → method_eq a a ≡ true
method_self a = both (text_eq a.class a.class && text_eq a.name a.name) (signature_eq a.signature a.signature)
    (both (text_eq a.class a.class) (text_eq a.name a.name) ((bytes_decides a.class a.class).1 refl) ((bytes_decides a.name a.name).1 refl))
    (signature_self a.signature)

field_of : (a b : FieldKey) → field_eq a b ≡ true → a ≡ b
field_of a b h =
    let front = and_left (text_eq a.class b.class && text_eq a.name b.name) (text_eq a.kind b.kind) h in
    let c = (bytes_decides a.class b.class).0 (and_left (text_eq a.class b.class) (text_eq a.name b.name) front) in
    let n = (bytes_decides a.name b.name).0 (and_right (text_eq a.class b.class) (text_eq a.name b.name) front) in
    let k = (bytes_decides a.kind b.kind).0 (and_right (text_eq a.class b.class && text_eq a.name b.name) (text_eq a.kind b.kind) h) in
    λ i. record { class = c i; name = n i; kind = k i }

field_self : (a : FieldKey) → field_eq a a ≡ true
field_self a = both (text_eq a.class a.class && text_eq a.name a.name) (text_eq a.kind a.kind)
    (both (text_eq a.class a.class) (text_eq a.name a.name) ((bytes_decides a.class a.class).1 refl) ((bytes_decides a.name a.name).1 refl))
    ((bytes_decides a.kind a.kind).1 refl)

below_length : {A : Type 0} (xs : List A) (i : ℕ) (x : A) → slice_get xs i ≡ Some x → i < length xs
below_length [] i x e = cc
below_length (y ∷ ys) zero x e = omega arith
below_length (y ∷ ys) (suc i) x e = let l = below_length ys i x e in omega (arith, l)

module _ (p : Program) (s : Sound p) where
  method_test : (i j : ℕ) → i < length p.methods → j < length p.methods → method_eq (method_at p i) (method_at p j) ≡ nat_eq j i
  method_test i j hi hj = same_test (method_eq (method_at p i) (method_at p j)) (nat_eq j i)
      (λ h. number_test j i (sym (method_once p s i j hi hj (method_of (method_at p i) (method_at p j) h))))
      (λ h. ap (λ k. method_eq (method_at p i) (method_at p k)) (number_of j i h) ∙ method_self (method_at p i))

  field_test : (i j : ℕ) → i < length p.fields → j < length p.fields → field_eq (field_at p i) (field_at p j) ≡ nat_eq j i
  field_test i j hi hj = same_test (field_eq (field_at p i) (field_at p j)) (nat_eq j i)
      (λ h. number_test j i (sym (field_once p s i j hi hj (field_of (field_at p i) (field_at p j) h))))
      (λ h. ap (λ k. field_eq (field_at p i) (field_at p k)) (number_of j i h) ∙ field_self (field_at p i))

  -- the key of a member of a class is that of its number
  method_key_is : (c : Class) (m : Method) → MethodFits p c.name m → key_in (named_class p c) (named_method p m) ≡ method_at p m.name
  method_key_is c m f =
      let is = method_is p s m.name f.entry f.is in
      ap (λ (t : List ℕ). record { class = t; name = (method_at p m.name).name; signature = (method_at p m.name).signature }) (ap (type_at p) (sym f.owner) ∙ sym (ap (λ k. k.class) is))

  field_key_is : (c : Class) (f : Field) → FieldFits p c.name f → field_in (named_class p c) (named_field p f) ≡ field_at p f.name
  field_key_is c f fits =
      let is = field_is p s f.name fits.entry fits.is in
      ap (λ (t : List ℕ). record { class = t; name = (field_at p f.name).name; kind = (field_at p f.name).kind }) (ap (type_at p) (sym fits.owner) ∙ sym (ap (λ k. k.class) is))

  -- the methods of classes that pass a test, by number
  pub some_method_is : (test : NamedClass → NamedMethod → Bool) (n : ℕ) → n < length p.methods
      → some_method (named p) test (method_at p n) ≡ list_any (λ c. list_any (λ m. nat_eq n m.name && test (named_class p c) (named_method p m)) c.methods) p.classes
  some_method_is test n h = any_same (λ c. list_any (λ m. method_eq (key_in c m) (method_at p n) && test c m) c.methods) (named_class p)
      (λ c. list_any (λ m. nat_eq n m.name && test (named_class p c) (named_method p m)) c.methods) p.classes in_class
    where
      in_class : (i : ℕ) (c : Class) → slice_get p.classes i ≡ Some c
          → list_any (λ m. method_eq (key_in (named_class p c) m) (method_at p n) && test (named_class p c) m) (map (named_method p) c.methods) ≡ list_any (λ m. nat_eq n m.name && test (named_class p c) (named_method p m)) c.methods
      in_class i c e = any_same (λ m. method_eq (key_in (named_class p c) m) (method_at p n) && test (named_class p c) m) (named_method p)
          (λ m. nat_eq n m.name && test (named_class p c) (named_method p m)) c.methods
          (λ j m d. let f = (class_parts p s i c e).methods j m d in
          ap (λ k. method_eq k (method_at p n) && test (named_class p c) (named_method p m)) (method_key_is c m f)
          ∙ ap (λ b. b && test (named_class p c) (named_method p m)) (method_test m.name n (below_length p.methods m.name f.entry f.is) h))

  pub some_field_is : (test : NamedClass → NamedField → Bool) (n : ℕ) → n < length p.fields
      → some_field (named p) test (field_at p n) ≡ list_any (λ c. list_any (λ f. nat_eq n f.name && test (named_class p c) (named_field p f)) c.fields) p.classes
  some_field_is test n h = any_same (λ c. list_any (λ f. field_eq (field_in c f) (field_at p n) && test c f) c.fields) (named_class p)
      (λ c. list_any (λ f. nat_eq n f.name && test (named_class p c) (named_field p f)) c.fields) p.classes in_class
    where
      in_class : (i : ℕ) (c : Class) → slice_get p.classes i ≡ Some c
          → list_any (λ f. field_eq (field_in (named_class p c) f) (field_at p n) && test (named_class p c) f) (map (named_field p) c.fields) ≡ list_any (λ f. nat_eq n f.name && test (named_class p c) (named_field p f)) c.fields
      in_class i c e = any_same (λ f. field_eq (field_in (named_class p c) f) (field_at p n) && test (named_class p c) f) (named_field p)
          (λ f. nat_eq n f.name && test (named_class p c) (named_field p f)) c.fields
          (λ j f d. let fits = (class_parts p s i c e).fields j f d in
          ap (λ k. field_eq k (field_at p n) && test (named_class p c) (named_field p f)) (field_key_is c f fits)
          ∙ ap (λ b. b && test (named_class p c) (named_field p f)) (field_test f.name n (below_length p.fields f.name fits.entry fits.is) h))

  -- they are methods and fields that classes define
  pub some_method_own : (test : NamedClass → NamedMethod → Bool) (n : ℕ) → n < length p.methods → some_method (named p) test (method_at p n) ≡ true → defines_method p n ≡ true
  some_method_own test n h e =
      any_implies (λ c. list_any (λ m. nat_eq n m.name && test (named_class p c) (named_method p m)) c.methods) (λ c. list_any (λ m. nat_eq n m.name) c.methods) p.classes
      (λ c. any_implies (λ m. nat_eq n m.name && test (named_class p c) (named_method p m)) (λ m. nat_eq n m.name) c.methods (λ m. and_left (nat_eq n m.name) (test (named_class p c) (named_method p m))))
      (sym (some_method_is test n h) ∙ e)

  pub some_field_own : (test : NamedClass → NamedField → Bool) (n : ℕ) → n < length p.fields → some_field (named p) test (field_at p n) ≡ true → defines_field p n ≡ true
  some_field_own test n h e =
      any_implies (λ c. list_any (λ f. nat_eq n f.name && test (named_class p c) (named_field p f)) c.fields) (λ c. list_any (λ f. nat_eq n f.name) c.fields) p.classes
      (λ c. any_implies (λ f. nat_eq n f.name && test (named_class p c) (named_field p f)) (λ f. nat_eq n f.name) c.fields (λ f. and_left (nat_eq n f.name) (test (named_class p c) (named_field p f))))
      (sym (some_field_is test n h) ∙ e)

-- ---- an answer that agrees with a table of rules keeps members that classes define

pub listed_below : (size : ℕ) (xs : List ℕ) → All (λ k. k < size) xs → (n : ℕ) → has xs n ≡ true → n < size
listed_below size [] all n e = absurd (true≢false (sym e))
listed_below size (x ∷ xs) all n e = step (listed_below size xs (λ k d h. all (suc k) d (omega (arith, h))) n) (nat_eq n x) refl e
  where
    step : (has xs n ≡ true → n < size) → (b : Bool) → nat_eq n x ≡ b → (b || has xs n) ≡ true → n < size
    step r true s g = let is : n ≡ x = number_of n x s in let l : x < size = all 0 0 (omega arith) in omega (arith, is, l)
    step r false s g = r g

pub own_of : (p : Program) → Sound p → (es : List Entry) (o : Outside) → IsWithin p o → AgreesWith p (table_of (named p) es) o → OwnMembers p o
own_of p s es o w a = record {
  methods = λ n h. let l = listed_below (length p.methods) o.methods w.methods.below n h in some_method_own p s (keeps_method (named p) (rules_of false es)) n l (sym (a.methods n l) ∙ h);
  fields = λ n h. let l = listed_below (length p.fields) o.fields w.fields.below n h in some_field_own p s (keeps_field (named p) (rules_of false es)) n l (sym (a.fields n l) ∙ h);
  methods_if = λ n h. let l = listed_below (length p.methods) o.methods_if w.methods_if.below n h in some_method_own p s (keeps_method (named p) (rules_of true es)) n l (sym (a.methods_if n l) ∙ h);
  fields_if = λ n h. let l = listed_below (length p.fields) o.fields_if w.fields_if.below n h in some_field_own p s (keeps_field (named p) (rules_of true es)) n l (sym (a.fields_if n l) ∙ h);
}
