-- The named program of a well-formed program is regular and tells its methods apart.
use Rattle.std.proofs.Common.{◌≡◌, ℕ, zero, suc, ◌<◌, Bool, true, false, List, [], ◌∷◌, length, refl, sym, ap, ◌∙◌, subst, inl, inr, arith, lt-ltb}
use Rattle.std.specs.Prelude.{◌⊎◌, ◌&&◌, ◌||◌, not, Option, Some, None, map, slice_get, nat_eq, is_ok}
use Rattle.std.specs.List.{list_any, list_all}
use Rattle.lemmas.proofs.Options.{none_some, some_same}
use Rattle.dex_base.specs.Descriptor.{descriptor_of}
use Rattle.program_model.specs.declared.program.Method.{Method}
use Rattle.program_model.specs.declared.program.Class.{Class}
use Rattle.program_model.specs.declared.program.Program.{Program}
use Rattle.program_model.specs.declared.pools.Proto.{Proto}
use Rattle.program_model.specs.declared.pools.MethodName.{MethodName}
use Rattle.program_model.specs.ProgramRules.{is_well_formed}
use Rattle.program_model.specs.TableRules.{type_fits}
use Rattle.program_model.specs.Distinct.{own_method_key, all_differ}
use Rattle.program_model.specs.Neighbours.{neighbours}
use Rattle.program_model.specs.Texts.{has_string, has_type, string_text, type_text, first_unit, letter_of, is_class}
use Rattle.program_model.specs.MemberRules as rules
use Rattle.program_model.specs.MemberRules.{class_fits, types_of_class_fit, source_fits, fields_fit, methods_fit, method_fits, methods_in_order, is_object}
use Rattle.program_model.specs.ValueRules.{marks_fit}
use Rattle.class_defs.specs.ClassGraph.{IsTwice, IsAbove, IsAncestor}
use Rattle.class_defs.proofs.WellFormed.{and_left, and_right, all_at, below, Sound, sound, MethodFits, class_parts}
use Rattle.class_defs.proofs.Positions.{number_test}
use Rattle.dalvik_defs.specs.Names.{Text, text_eq, is_class_type, object_type}
use Rattle.dalvik_defs.specs.Naming.{text_at, type_at, signature_at, method_at, named_method, named_class, named}
use Rattle.dalvik_defs.specs.Under.{class_named, defines, own_above, walks}
use Rattle.dalvik_defs.specs.declared.names.Signature.{Signature}
use Rattle.dalvik_defs.specs.declared.program.NamedClass.{NamedClass}
use Rattle.dalvik_defs.proofs.Calm.{text_sound}
use Rattle.name_bridge.proofs.Tables.{same_number, type_once, method_once, method_is, proto_parameters}
use Rattle.name_bridge.proofs.Found.{text_same, type_same}
use Rattle.dalvik_defs.specs.Outer.{Outer}
use Rattle.dalvik_defs.specs.Shown.{SameShown}
use Rattle.pass_defs.specs.Live.{Conditions, Family, IsClosedFamily}
use Rattle.pass_defs.specs.Typed.{IsTyped}
use Rattle.removal_law.proofs.Removal.{removal}
use Rattle.removal_law.proofs.ShutLeft.{shuts_left}
use Rattle.removal_law.proofs.TypedCode.{typed_code}
use Rattle.removal_law.specs.Left.{In, here, there, left_of}
use Rattle.removal_law.specs.Reach.{AgreesInside, ShutsHold, IsSoundTable, IsRegular, IsAcyclic, TellsApart, TellsProtos, IsDescribed, DefinesOnce, NamesOnce}
use Rattle.removal_law.proofs.Lists.{clash}
use Rattle.removal_law.proofs.Walks.{choice, text_same as text_itself}
use Rattle.removal_law.proofs.Declared.{none_there, not_false}
use Rattle.removal_law.proofs.LeftTyped.{typed_left}
use Rattle.removal_law.proofs.Outward.{any_where}
use Rattle.removal_law.proofs.Trees.{class_name, class_in, defines_class}
use Rattle.removal_law.proofs.Acyclic.{regular}
use Rattle.removal_law.proofs.Protos.{told_apart, protos_told}

-- ---- lists

-- an element of a list of images
pub record Image {A B : Type 0} (f : A → B) (xs : List A) (y : B) : Type 0 where
  pub place : ℕ
  pub entry : A
  pub is_entry : slice_get xs place ≡ Some entry
  pub is : f entry ≡ y

image : {A B : Type 0} (f : A → B) (y : B) (xs : List A) → In y (map f xs) → Image f xs y
image f y [] i = elim i [ ]
image {A} {B} f y (x ∷ xs) i = by (split y (f x) (map f xs) i) (image f y xs)
  where
    split : (y z : B) (zs : List B) → In y (z ∷ zs) → (z ≡ y) ⊎ In y zs
    split y z zs (here ws) = inl refl
    split y z zs (there u ws j) = inr j

    by : (f x ≡ y) ⊎ In y (map f xs) → (In y (map f xs) → Image f xs y) → Image f (x ∷ xs) y
    by (inl e) h = record { place = 0; entry = x; is_entry = refl; is = e }
    by (inr j) h = let r = h j in record { place = suc r.place; entry = r.entry; is_entry = r.is_entry; is = r.is }

any_at : (t : ℕ → Bool) (xs : List ℕ) (i x : ℕ) → slice_get xs i ≡ Some x → t x ≡ true → list_any t xs ≡ true
any_at t [] i x e h = none_some x e
any_at t (y ∷ xs) zero x e h = ap (λ z. t z || list_any t xs) (some_same y x e) ∙ ap (λ b. b || list_any t xs) h
any_at t (y ∷ xs) (suc i) x e h = by (t y) (any_at t xs i x e h)
  where
    by : (b : Bool) → list_any t xs ≡ true → (b || list_any t xs) ≡ true
    by true k = refl
    by false k = k

-- ---- what a well-formed class has

types_fit_class : (p : Program) (c : Class) → class_fits p c ≡ true → types_of_class_fit p c ≡ true
unfolding class_fits
types_fit_class p c h = and_left (types_of_class_fit p c) (source_fits p c.source && marks_fit p c.marks)
    (and_left (types_of_class_fit p c && (source_fits p c.source && marks_fit p c.marks)) (fields_fit p c.name c.fields && methods_fit p c.name c.methods) h)

methods_fit_class : (p : Program) (c : Class) → class_fits p c ≡ true → methods_fit p c.name c.methods ≡ true
unfolding class_fits
methods_fit_class p c h = and_right (fields_fit p c.name c.fields) (methods_fit p c.name c.methods)
    (and_right (types_of_class_fit p c && (source_fits p c.source && marks_fit p c.marks)) (fields_fit p c.name c.fields && methods_fit p c.name c.methods) h)

methods_differ : (p : Program) (class : ℕ) (ms : List Method) → methods_fit p class ms ≡ true → all_differ own_method_key ms ≡ true
unfolding methods_fit
methods_differ p class ms h = and_right (list_all (methods_in_order p) (neighbours ms)) (all_differ own_method_key ms)
    (and_right (list_all (method_fits p class) ms) (list_all (methods_in_order p) (neighbours ms) && all_differ own_method_key ms) h)

name_letter : (p : Program) (c : Class) → types_of_class_fit p c ≡ true → is_class (letter_of p c.name) ≡ true
unfolding types_of_class_fit
name_letter p c h = and_right (has_type p c.name) (is_class (letter_of p c.name))
    (and_left (rules.is_class_type p c.name) (not (is_object (type_text p c.name)))
    (and_left (rules.is_class_type p c.name && not (is_object (type_text p c.name))) (rules.is_class_type p c.superclass && list_all (rules.is_class_type p) c.interfaces) h))

name_strange : (p : Program) (c : Class) → types_of_class_fit p c ≡ true → not (is_object (type_text p c.name)) ≡ true
unfolding types_of_class_fit
name_strange p c h = and_right (rules.is_class_type p c.name) (not (is_object (type_text p c.name)))
    (and_left (rules.is_class_type p c.name && not (is_object (type_text p c.name))) (rules.is_class_type p c.superclass && list_all (rules.is_class_type p) c.interfaces) h)

letter_text : (p : Program) (k : ℕ) → is_class (letter_of p k) ≡ true → is_class (first_unit (type_at p k)) ≡ true
unfolding letter_of
letter_text p k h = ap (λ t. is_class (first_unit t)) (type_same p k) ∙ h

class_text : (t : Text) → is_class (first_unit t) ≡ true → is_class_type t ≡ true
class_text [] h = clash false h refl
class_text (u ∷ us) h = h

module _ (p : Program) (fits : is_well_formed p ≡ true) where
  s : Sound p
  s = sound p fits

  -- a class of the named program is a class of the program
  pub record Origin (t : Text) : Type 0 where
    pub place : ℕ
    pub class : Class
    pub is_class : slice_get p.classes place ≡ Some class
    pub named_so : type_at p class.name ≡ t

  origin_of : (t : Text) (c : NamedClass) → class_named (named p) t ≡ Some c → (o : Origin t) × (named_class p o.class ≡ c)
  origin_of t c e = let m = image (named_class p) c p.classes (class_in (named p) t c e) in
      (record { place = m.place; class = m.entry; is_class = m.is_entry; named_so = ap (λ x. x.name) m.is ∙ class_name (named p) t c e }, m.is)

  fits_at : (i : ℕ) (c : Class) → slice_get p.classes i ≡ Some c → class_fits p c ≡ true
  fits_at i c e = all_at (class_fits p) p.classes i c s.classes_fit e

  class_names : (t : Text) → defines (named p) t ≡ true → is_class_type t ≡ true
  class_names t d =
      let c = defines_class (named p) t d in
      let o = origin_of t c.0 c.1 in
      subst (λ x. is_class_type x ≡ true) o.0.named_so
      (class_text (type_at p o.0.class.name) (letter_text p o.0.class.name (name_letter p o.0.class (types_fit_class p o.0.class (fits_at o.0.place o.0.class o.0.is_class)))))

  -- Object is no class of the program
  pub no_object : defines (named p) object_type ≡ false
  no_object = by (defines (named p) object_type) refl
    where
      by : (b : Bool) → defines (named p) object_type ≡ b → defines (named p) object_type ≡ false
      by false e = e
      by true e =
          let c = defines_class (named p) object_type e in
          let o = origin_of object_type c.0 c.1 in
          clash (is_object (type_text p o.0.class.name)) (ap (λ t. text_eq t object_type) (sym (type_same p o.0.class.name) ∙ o.0.named_so) ∙ text_itself object_type)
          (not_false (is_object (type_text p o.0.class.name)) (name_strange p o.0.class (types_fit_class p o.0.class (fits_at o.0.place o.0.class o.0.is_class))))

  -- ---- methods

  pub method_of : (c : Class) (i j : ℕ) (m : Method) → slice_get p.classes i ≡ Some c → slice_get c.methods j ≡ Some m → MethodFits p c.name m
  method_of c i j m e f = (class_parts p s i c e).methods j m f

  pub key_of : (c : Class) (i j : ℕ) (m : Method) → slice_get p.classes i ≡ Some c → slice_get c.methods j ≡ Some m → method_at p m.name ≡ record { class = type_at p c.name; name = (named_method p m).name; signature = (named_method p m).signature }
  key_of c i j m e f = let g = method_of c i j m e f in
      ap (λ x. record { class = x; name = (method_at p m.name).name; signature = (method_at p m.name).signature })
      (ap (λ k. k.class) (method_is p s m.name g.entry g.is) ∙ ap (type_at p) g.owner)

  pub entry_below : (n : ℕ) (e : MethodName) → slice_get p.methods n ≡ Some e → n < length p.methods
  entry_below n e h = below_length p.methods n e h
    where
      below_length : {A : Type 0} (xs : List A) (n : ℕ) (x : A) → slice_get xs n ≡ Some x → n < length xs
      below_length [] n x e = none_some x e
      below_length (y ∷ xs) zero x e = omega arith
      below_length (y ∷ xs) (suc n) x e = let h = below_length xs n x e in omega (arith, h)

  once : DefinesOnce (named p)
  once t c m x e i j n g =
      let o = origin_of t c e in
      let k = o.0.class in
      let a = image (named_method p) m k.methods (subst (λ z. In m z.methods) (sym o.1) i) in
      let b = image (named_method p) x k.methods (subst (λ z. In x z.methods) (sym o.1) j) in
      let fa = method_of k o.0.place a.place a.entry o.0.is_class a.is_entry in
      let fb = method_of k o.0.place b.place b.entry o.0.is_class b.is_entry in
      let same : method_at p a.entry.name ≡ method_at p b.entry.name =
      key_of k o.0.place a.place a.entry o.0.is_class a.is_entry
      ∙ ap (λ z. record { class = type_at p k.name; name = z; signature = (named_method p a.entry).signature }) (ap (λ z. z.name) a.is ∙ n ∙ ap (λ z. z.name) (sym b.is))
      ∙ ap (λ z. record { class = type_at p k.name; name = (named_method p b.entry).name; signature = z }) (ap (λ z. z.signature) a.is ∙ g ∙ ap (λ z. z.signature) (sym b.is))
      ∙ sym (key_of k o.0.place b.place b.entry o.0.is_class b.is_entry) in
      let number : a.entry.name ≡ b.entry.name = method_once p s a.entry.name b.entry.name (entry_below a.entry.name fa.entry fa.is) (entry_below b.entry.name fb.entry fb.is) same in
      let place : a.place ≡ b.place = same_number own_method_key k.methods a.place b.place a.entry b.entry (methods_differ p k.name k.methods (methods_fit_class p k (fits_at o.0.place k o.0.is_class))) a.is_entry b.is_entry (ap (λ z. z ∷ []) number) in
      let entry : a.entry ≡ b.entry = some_same a.entry b.entry (sym a.is_entry ∙ ap (slice_get k.methods) place ∙ b.is_entry) in
      sym a.is ∙ ap (named_method p) entry ∙ b.is

  -- ---- parameters

  type_described : (k : ℕ) → (o : Option ℕ) → slice_get p.types k ≡ o → has_type p k ≡ true → is_ok (descriptor_of (type_at p k)) ≡ true
  type_described k (Some n) e h = ap (λ x. is_ok (descriptor_of (elim x as (λ x. Text) [ Some t ↦ text_at p t | None ↦ [] ]))) e
      ∙ ap (λ x. is_ok (descriptor_of x)) (text_same p n)
      ∙ and_right (has_string p n) (is_ok (descriptor_of (string_text p n))) (all_at (type_fits p) p.types k n s.types_fit e)
  type_described k None e h = absurd (no_type p.types k (below k (length p.types) h) e)
    where
      no_type : (xs : List ℕ) (n : ℕ) → n < length xs → slice_get xs n ≡ None → ⊥
      no_type [] n lt e = omega (arith, lt)
      no_type (y ∷ xs) zero lt e = none_some y (sym e)
      no_type (y ∷ xs) (suc n) lt e = no_type xs n (omega (arith, lt)) e

  parameters_described : (q : ℕ) (u : Text) → In u (signature_at p q).parameters → is_ok (descriptor_of u) ≡ true
  parameters_described q u i = by (slice_get p.protos q) refl i
    where
      by : (o : Option Proto) → slice_get p.protos q ≡ o
          → In u (elim o as (λ o. Signature) [ Some x ↦ record { parameters = map (type_at p) x.parameters; result = type_at p x.result } | None ↦ record { parameters = []; result = [] } ]).parameters → is_ok (descriptor_of u) ≡ true
      by (Some x) e j = let m = image (type_at p) u x.parameters j in
          subst (λ z. is_ok (descriptor_of z) ≡ true) m.is (type_described m.entry (slice_get p.types m.entry) refl (all_at (has_type p) x.parameters m.place m.entry (proto_parameters p s q x e) m.is_entry))
      by None e j = elim j [ ]

  is_described : IsDescribed (named p)
  is_described t c m u e i j =
      let o = origin_of t c e in
      let a = image (named_method p) m o.0.class.methods (subst (λ z. In m z.methods) (sym o.1) i) in
      let f = method_of o.0.class o.0.place a.place a.entry o.0.is_class a.is_entry in
      parameters_described f.entry.proto u (subst (λ z. In u z.parameters) (ap (λ z. z.signature) (sym a.is) ∙ ap (λ z. z.signature) (method_is p s a.entry.name f.entry f.is)) j)

  -- ---- what stands above

  module _ (twice : (class : ℕ) → IsTwice p class → ⊥) (ancestor : (class : ℕ) → IsAncestor p class class → ⊥) where
    compare : (i j : ℕ) → (i < j) ⊎ ((i ≡ j) ⊎ (j < i))
    compare zero zero = inr (inl refl)
    compare zero (suc j) = inl (omega arith)
    compare (suc i) zero = inr (inr (omega arith))
    compare (suc i) (suc j) = up (compare i j)
      where
        up : (i < j) ⊎ ((i ≡ j) ⊎ (j < i)) → (suc i < suc j) ⊎ ((suc i ≡ suc j) ⊎ (suc j < suc i))
        up (inl h) = inl (omega (arith, h))
        up (inr (inl h)) = inr (inl (ap suc h))
        up (inr (inr h)) = inr (inr (omega (arith, h)))

    name_below : (i : ℕ) (c : Class) → slice_get p.classes i ≡ Some c → c.name < length p.types
    name_below i c e = (class_parts p s i c e).name

    -- a type has one class
    one_place : (t : Text) (a b : Origin t) → a.place ≡ b.place
    one_place t a b = by (compare a.place b.place)
      where
        same : a.class.name ≡ b.class.name
        same = type_once p s a.class.name b.class.name (name_below a.place a.class a.is_class) (name_below b.place b.class b.is_class) (a.named_so ∙ sym b.named_so)

        by : (a.place < b.place) ⊎ ((a.place ≡ b.place) ⊎ (b.place < a.place)) → a.place ≡ b.place
        by (inl lt) = absurd (twice b.place (record { earlier = a.place; before = lt; one = a.class; other = b.class; is_one = a.is_class; is_other = b.is_class; same = same }))
        by (inr (inl e)) = e
        by (inr (inr lt)) = absurd (twice a.place (record { earlier = b.place; before = lt; one = b.class; other = a.class; is_one = b.is_class; is_other = a.is_class; same = sym same }))

    both_true : (x y : Bool) → x ≡ true → y ≡ true → (x && y) ≡ true
    both_true true y h k = k
    both_true false y h k = h

    -- a class above one
    class_above : (u : Text) (i : ℕ) (c : Class) (b : Origin u) → slice_get p.classes i ≡ Some c → In u (type_at p c.superclass ∷ map (type_at p) c.interfaces) → IsAbove p i b.place
    class_above u i c b e j =
        let m = image (type_at p) u (c.superclass ∷ c.interfaces) j in
        let f = class_parts p s i c e in
        let k : m.entry < length p.types = below m.entry (length p.types) (all_at (has_type p) (c.superclass ∷ c.interfaces) m.place m.entry
        (both_true (has_type p c.superclass) (list_all (has_type p) c.interfaces) (lt-ltb c.superclass (length p.types) f.superclass) f.interfaces) m.is_entry) in
        let same : m.entry ≡ b.class.name = type_once p s m.entry b.class.name k (name_below b.place b.class b.is_class) (m.is ∙ sym b.named_so) in
        record { c = c; u = b.class; is_class = e; is_upper = b.is_class; names = any_at (λ kind. nat_eq kind b.class.name) (c.superclass ∷ c.interfaces) m.place m.entry m.is_entry (number_test m.entry b.class.name same) }

    abbrev listed : Option NamedClass → List Text
    listed o = elim o as (λ o. List Text) [ Some c ↦ c.superclass ∷ c.interfaces | None ↦ [] ]

    above_step : (t u : Text) (a : Origin t) (b : Origin u) → In u (own_above (named p) t) → IsAbove p a.place b.place
    above_step t u a b i = by (class_named (named p) t) refl i
      where
        by : (o : Option NamedClass) → class_named (named p) t ≡ o → In u (listed o) → IsAbove p a.place b.place
        by None e j = elim j [ ]
        by (Some c) e j = let o = origin_of t c e in
            class_above u a.place o.0.class b (ap (slice_get p.classes) (one_place t a o.0) ∙ o.0.is_class) (subst (λ z. In u (z.superclass ∷ z.interfaces)) (sym o.1) j)

    abbrev moved : (v t : Text) → v ≡ t → Origin t → Origin v
    moved v t e a = record { place = a.place; class = a.class; is_class = a.is_class; named_so = a.named_so ∙ sym e }

    has_above : (v w : Text) → In w (own_above (named p) v) → Origin v
    has_above v w i = by (class_named (named p) v) refl i
      where
        by : (o : Option NamedClass) → class_named (named p) v ≡ o → In w (listed o) → Origin v
        by None e j = elim j [ ]
        by (Some c) e j = (origin_of v c e).0

    origin_walk : (n : ℕ) (v t : Text) → Origin t → walks (own_above (named p)) n v t ≡ true → Origin v
    origin_walk zero v t a e = moved v t (text_sound v t e) a
    origin_walk (suc n) v t a e = by (text_eq v t) refl e
      where
        by : (b : Bool) → text_eq v t ≡ b → choice b (list_any (λ x. walks (own_above (named p)) n x t) (own_above (named p) v)) ≡ true → Origin v
        by true i j = moved v t (text_sound v t i) a
        by false i j = let r = any_where (λ x. walks (own_above (named p)) n x t) (own_above (named p) v) j in has_above v r.0 r.1.0

    abbrev Meets : ℕ → ℕ → Type 0
    Meets j i = (j ≡ i) ⊎ IsAncestor p j i

    walk_meets : (n : ℕ) (u t : Text) (b : Origin u) (a : Origin t) → walks (own_above (named p)) n u t ≡ true → Meets b.place a.place
    walk_meets zero u t b a e = inl (one_place t (moved t u (sym (text_sound u t e)) b) a)
    walk_meets (suc n) u t b a e = by (text_eq u t) refl e (λ v c w. walk_meets n v t c a w)
      where
        by : (d : Bool) → text_eq u t ≡ d → choice d (list_any (λ x. walks (own_above (named p)) n x t) (own_above (named p) u)) ≡ true
            → ((v : Text) (c : Origin v) → walks (own_above (named p)) n v t ≡ true → Meets c.place a.place) → Meets b.place a.place
        by true i j ih = inl (one_place t (moved t u (sym (text_sound u t i)) b) a)
        by false i j ih =
            let r = any_where (λ x. walks (own_above (named p)) n x t) (own_above (named p) u) j in
            let c = origin_walk n r.0 t a r.1.1 in
            join (above_step u r.0 b c r.1.0) (ih r.0 c r.1.1)
          where
            join : {m : ℕ} → IsAbove p b.place m → Meets m a.place → Meets b.place a.place
            join {m} h (inl same) = inr (record { mids = []; steps = subst (IsAbove p b.place) same h })
            join {m} h (inr anc) = inr (record { mids = m ∷ anc.mids; steps = (h, anc.steps) })

    acyclic : IsAcyclic (named p)
    acyclic t u i w =
        let a = has_above t u i in
        let b = origin_walk (length (named p).classes) u t a w in
        close a.place b.place (above_step t u a b i) (walk_meets (length (named p).classes) u t b a w)
      where
        close : (i j : ℕ) → IsAbove p i j → Meets j i → ⊥
        close i j h (inl same) = ancestor i (record { mids = []; steps = subst (IsAbove p i) same h })
        close i j h (inr anc) = ancestor i (record { mids = j ∷ anc.mids; steps = (h, anc.steps) })

    -- a class stands under its name
    names_once : NamesOnce (named p)
    names_once c i = by (class_named (named p) c.name) refl
      where
        m : Image (named_class p) p.classes c
        m = image (named_class p) c p.classes i

        mine : Origin c.name
        mine = record { place = m.place; class = m.entry; is_class = m.is_entry; named_so = ap (λ x. x.name) m.is }

        by : (o : Option NamedClass) → class_named (named p) c.name ≡ o → class_named (named p) c.name ≡ Some c
        by None e = clash (text_eq c.name c.name) (text_itself c.name) (none_there (λ d. text_eq d.name c.name) (named p).classes e c i)
        by (Some d) e =
            let o = origin_of c.name d e in
            let entry : o.0.class ≡ m.entry = some_same o.0.class m.entry (sym o.0.is_class ∙ ap (slice_get p.classes) (one_place c.name o.0 mine) ∙ m.is_entry) in
            e ∙ ap Some (sym o.1 ∙ ap (named_class p) entry ∙ m.is)

pub regular_program : (p : Program) → is_well_formed p ≡ true → ((class : ℕ) → IsTwice p class → ⊥) → ((class : ℕ) → IsAncestor p class class → ⊥) → IsRegular (named p)
regular_program p fits twice ancestor = regular (named p) (acyclic p fits twice ancestor) (class_names p fits)

pub apart_program : (p : Program) → is_well_formed p ≡ true → TellsApart (named p)
apart_program p fits = told_apart (named p) (is_described p fits) (once p fits)

pub protos_program : (p : Program) → is_well_formed p ≡ true → TellsProtos (named p)
protos_program p fits = protos_told (named p) (is_described p fits)

pub removed_program : (p : Program) → is_well_formed p ≡ true → ((class : ℕ) → IsTwice p class → ⊥) → ((class : ℕ) → IsAncestor p class class → ⊥) → IsTyped (named p)
    → (o : Outer) (k : Conditions) (s : Family) → IsClosedFamily (named p) o k s → IsSoundTable (named p) o → SameShown (named p) (left_of s (named p)) o
removed_program p fits twice ancestor typed o k s closed table =
    removal (named p) o k s closed (regular_program p fits twice ancestor) (typed_code (named p) typed (apart_program p fits) (protos_program p fits)) table

-- a table of shut methods holds what it says of what is left of its named program
pub shuts_program : (p : Program) → is_well_formed p ≡ true → ((class : ℕ) → IsTwice p class → ⊥) → ((class : ℕ) → IsAncestor p class class → ⊥)
    → (o : Outer) (k : Conditions) (s : Family) → IsClosedFamily (named p) o k s → AgreesInside o → ShutsHold (named p) o → ShutsHold (left_of s (named p)) o
shuts_program p fits twice ancestor o k s closed =
    shuts_left (named p) o k s closed (regular_program p fits twice ancestor) (names_once p fits twice ancestor) (once p fits) (no_object p fits)

-- what is left of its named program is typed
pub typed_program : (p : Program) → IsTyped (named p) → is_well_formed p ≡ true → ((class : ℕ) → IsTwice p class → ⊥) → ((class : ℕ) → IsAncestor p class class → ⊥)
    → (o : Outer) (k : Conditions) (s : Family) → IsClosedFamily (named p) o k s → IsTyped (left_of s (named p))
typed_program p typed fits twice ancestor o k s closed =
    typed_left (named p) o k s closed (regular_program p fits twice ancestor) (names_once p fits twice ancestor) (once p fits) (no_object p fits) typed
