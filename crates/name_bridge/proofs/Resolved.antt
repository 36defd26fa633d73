-- What names of methods resolve to, and what static and super calls find, by number is what it is by name.
use Rattle.std.proofs.Common.{◌≡◌, ℕ, zero, suc, ◌<◌, Bool, true, false, nat_eq, List, [], ◌∷◌, ◌++◌, map, length, Option, Some, None, refl, sym, ap, ◌∙◌, lt-ltb}
use Rattle.std.specs.Prelude.{◌&&◌, ◌||◌, cond, slice_get, option_and_then, flat_map}
use Rattle.std.specs.List.{list_all, list_any}
use Rattle.std.specs.Option.{option_map}
use Rattle.program_model.specs.declared.pools.MethodName.{MethodName}
use Rattle.program_model.specs.declared.program.MethodAt.{MethodAt}
use Rattle.program_model.specs.declared.program.Class.{Class}
use Rattle.program_model.specs.declared.program.Program.{Program}
use Rattle.program_model.specs.Lookups.{class_place}
use Rattle.program_model.specs.Texts.{has_type}
use Rattle.program_model.specs.MemberRules.{has_flag}
use Rattle.class_defs.specs.ClassGraph.{IsTwice}
use Rattle.class_defs.specs.Places.{placed, places_of, listed, interface_places, chain_of}
use Rattle.class_defs.specs.Members.{own_method, is_interface}
use Rattle.class_defs.specs.Finding.{Search, search_of, first_among, finds_from, by_entry, finds_static, is_037, finds_among, reaches, lists_interface, finds_above, finds_super_037, finds_super_of, finds_super, interfaces_from, resolution_of, resolves_method}
use Rattle.dalvik_defs.specs.Names.{Text, text_eq}
use Rattle.dalvik_defs.specs.Under.{class_named, is_own_under}
use Rattle.dalvik_defs.specs.Naming.{text_at, type_at, signature_at, method_at, named_class, named}
use Rattle.dalvik_defs.specs.Find as find
use Rattle.dalvik_defs.specs.Find.{Found, first_method}
use Rattle.dalvik_defs.specs.declared.names.MethodKey.{MethodKey}
use Rattle.dalvik_defs.specs.declared.program.NamedClass.{NamedClass}
use Rattle.name_bridge.specs.Named.{class_at, with_class, classes_at, found_at, finds, search_at}
use Rattle.name_bridge.proofs.Tables.{and_left, and_right, entry_at, all_at, below, Sound, method_is, method_class, method_name, method_proto}
use Rattle.name_bridge.proofs.Flags.{interface_flag}
use Rattle.name_bridge.proofs.Classes.{class_parts, type_test, class_by_number}
use Rattle.name_bridge.proofs.Above.{length_map, Defined, defined, own_place, under_by_number, chain_by_number, types_listed, names_listed, places_listed, types_fit_listed}
use Rattle.name_bridge.proofs.Found.{own_answers, first_by_number}
use Rattle.name_bridge.proofs.Candidates.{version_test, among_by_number}

any_named : {A B : Type 0} (f : B → Bool) (u : A → Bool) (g : A → B) (xs : List A) → ((i : ℕ) (x : A) → slice_get xs i ≡ Some x → f (g x) ≡ u x) → list_any f (map g xs) ≡ list_any u xs
any_named f u g [] h = refl
any_named f u g (x ∷ xs) h = ap (λ b. b || list_any f (map g xs)) (h 0 x refl) ∙ ap (λ b. u x || b) (any_named f u g xs (λ i y e. h (suc i) y e))

pub searched : (p : Program) (o : Option MethodAt) → find.search_of (option_and_then (found_at p) o) ≡ search_at p (search_of o)
searched p None = refl
searched p (Some at) = by_found (found_at p at)
  where
    by_found : (o : Option Found) → find.search_of o ≡ finds o
    by_found None = refl
    by_found (Some f) = refl

classes_append : (p : Program) (xs ys : List ℕ) → classes_at p (xs ++ ys) ≡ classes_at p xs ++ classes_at p ys
classes_append p [] ys = refl
classes_append p (x ∷ xs) ys = step (slice_get p.classes x) (classes_append p xs ys)
  where
    step : (o : Option Class) → classes_at p (xs ++ ys) ≡ classes_at p xs ++ classes_at p ys → with_class p o (classes_at p (xs ++ ys)) ≡ with_class p o (classes_at p xs) ++ classes_at p ys
    step None r = r
    step (Some k) r = ap (λ l. named_class p k ∷ l) r

types_one : (p : Program) (k : ℕ) → k < length p.types → list_all (has_type p) (k ∷ []) ≡ true
types_one p k h = ap (λ b. b && true) (lt-ltb k (length p.types) h)

-- a method's key by its numbers
abbrev pub key_of : Program → MethodName → MethodKey
key_of p q = record { class = type_at p q.class; name = text_at p q.name; signature = signature_at p q.proto }

module _ (p : Program) (s : Sound p) where
  -- the first method along a class and its superclasses
  pub from_by_number : (t n q : ℕ) → t < length p.types → n < length p.strings → q < length p.protos
      → first_method (λ m. true) (text_at p n) (signature_at p q) (find.chain_of (named p) (type_at p t)) ≡ option_and_then (found_at p) (finds_from p n q (class_place p t))
  from_by_number t n q ht hn hq =
      ap (first_method (λ m. true) (text_at p n) (signature_at p q)) (chain_by_number p s t ht)
      ∙ first_by_number p (λ m. true) (text_at p n) (signature_at p q) (own_method p n q) (own_answers p s n q hn hq) (chain_of p (class_place p t))

  -- what a static or direct call finds
  pub static_by_number : (m : ℕ) → m < length p.methods → find.finds_statically (named p) (method_at p m) ≡ search_at p (search_of (finds_static p m))
  static_by_number m hm = by_known (entry_at p.methods m hm).0 (entry_at p.methods m hm).1
    where
      by_known : (e : MethodName) → slice_get p.methods m ≡ Some e → find.finds_statically (named p) (method_at p m) ≡ search_at p (search_of (finds_static p m))
      by_known e h =
          ap (find.finds_statically (named p)) (method_is p s m e h)
          ∙ ap find.search_of (from_by_number e.class e.name e.proto (method_class p s m e h) (method_name p s m e h) (method_proto p s m e h))
          ∙ searched p (finds_from p e.name e.proto (class_place p e.class))
          ∙ sym (ap (λ o. search_at p (search_of (by_entry (λ q. finds_from p q.name q.proto (class_place p q.class)) o))) h)

  -- ---- interfaces that a resolution goes through

  abbrev below_of : ℕ → Option NamedClass → List NamedClass
  below_of m None = []
  below_of m (Some c) = c ∷ find.interfaces_from m (named p) c.interfaces

  below_is : (m : ℕ) (o : Option NamedClass) → elim o as (λ o. List NamedClass) [ Some c ↦ c ∷ find.interfaces_from m (named p) c.interfaces | None ↦ [] ] ≡ below_of m o
  below_is m None = refl
  below_is m (Some c) = refl

  abbrev place_below : ℕ → ℕ → List ℕ
  place_below m c = c ∷ interfaces_from m p (interface_places p c)

  abbrev below_place : ℕ → Option ℕ → List ℕ
  below_place m None = []
  below_place m (Some c) = place_below m c

  abbrev Through : ℕ → Type 0
  Through m = (ks : List ℕ) → list_all (has_type p) ks ≡ true → find.interfaces_from m (named p) (map (type_at p) ks) ≡ classes_at p (interfaces_from m p (places_of p ks))

  none_below : (m : ℕ) → interfaces_from m p [] ≡ []
  none_below zero = refl
  none_below (suc m) = refl

  through_class : (m : ℕ) → Through m → (c : ℕ) (o : Option Class) → slice_get p.classes c ≡ o
      → below_of m (option_map (named_class p) o) ≡ with_class p o (classes_at p (interfaces_from m p (listed p o)))
  through_class m more c None e = sym (ap (classes_at p) (none_below m))
  through_class m more c (Some k) e = ap (λ l. named_class p k ∷ l) (more k.interfaces (class_parts p s c k e).interfaces)

  through_place : (m : ℕ) → Through m → (o : Option ℕ) → below_of m (option_and_then (class_at p) o) ≡ classes_at p (below_place m o)
  through_place m more None = refl
  through_place m more (Some c) = through_class m more c (slice_get p.classes c) refl

  placed_below : (m : ℕ) (o : Option ℕ) (cs : List ℕ) → flat_map (place_below m) (placed o cs) ≡ below_place m o ++ flat_map (place_below m) cs
  placed_below m None cs = refl
  placed_below m (Some c) cs = refl

  abbrev by_name : ℕ → Text → List NamedClass
  by_name m t = elim (class_named (named p) t) as (λ o. List NamedClass) [ Some c ↦ c ∷ find.interfaces_from m (named p) c.interfaces | None ↦ [] ]

  through_types : (m : ℕ) → Through m → (ks : List ℕ) → list_all (has_type p) ks ≡ true → flat_map (by_name m) (map (type_at p) ks) ≡ classes_at p (flat_map (place_below m) (places_of p ks))
  through_types m more [] h = refl
  through_types m more (k ∷ ks) h =
      let hk = below k (length p.types) (and_left (has_type p k) (list_all (has_type p) ks) h) in
      ap (λ l. l ++ flat_map (by_name m) (map (type_at p) ks)) (below_is m (class_named (named p) (type_at p k)) ∙ ap (below_of m) (class_by_number p s k hk) ∙ through_place m more (class_place p k))
      ∙ ap (λ l. classes_at p (below_place m (class_place p k)) ++ l) (through_types m more ks (and_right (has_type p k) (list_all (has_type p) ks) h))
      ∙ sym (classes_append p (below_place m (class_place p k)) (flat_map (place_below m) (places_of p ks)))
      ∙ sym (ap (classes_at p) (placed_below m (class_place p k) (places_of p ks)))

  through : (m : ℕ) → Through m
  through zero ks h = refl
  through (suc m) ks h = through_types m (through m) ks h

  resolution_by_number : (t : ℕ) → t < length p.types
      → find.chain_of (named p) (type_at p t) ++ find.interfaces_from (length (named p).classes) (named p) (flat_map (λ c. c.interfaces) (find.chain_of (named p) (type_at p t)))
      ≡ classes_at p (resolution_of p (class_place p t))
  resolution_by_number t ht =
      let cs = chain_of p (class_place p t) in
      ap (λ l. l ++ find.interfaces_from (length (named p).classes) (named p) (flat_map (λ c. c.interfaces) l)) (chain_by_number p s t ht)
      ∙ ap (λ l. classes_at p cs ++ find.interfaces_from (length (named p).classes) (named p) l) (names_listed p cs)
      ∙ ap (λ n. classes_at p cs ++ find.interfaces_from n (named p) (map (type_at p) (types_listed p cs))) (length_map (named_class p) p.classes)
      ∙ ap (λ l. classes_at p cs ++ l) (through (length p.classes) (types_listed p cs) (types_fit_listed p s cs))
      ∙ ap (λ l. classes_at p cs ++ classes_at p (interfaces_from (length p.classes) p l)) (places_listed p cs)
      ∙ sym (classes_append p cs (interfaces_from (length p.classes) p (flat_map (interface_places p) cs)))

  -- what the name of a method resolves to
  pub resolves_by_number : (m : ℕ) → m < length p.methods → find.resolves_method (named p) (method_at p m) ≡ option_and_then (found_at p) (resolves_method p m)
  resolves_by_number m hm = by_known (entry_at p.methods m hm).0 (entry_at p.methods m hm).1
    where
      by_known : (e : MethodName) → slice_get p.methods m ≡ Some e → find.resolves_method (named p) (method_at p m) ≡ option_and_then (found_at p) (resolves_method p m)
      by_known e h =
          ap (find.resolves_method (named p)) (method_is p s m e h)
          ∙ ap (first_method (λ m. true) (text_at p e.name) (signature_at p e.proto)) (resolution_by_number e.class (method_class p s m e h))
          ∙ first_by_number p (λ m. true) (text_at p e.name) (signature_at p e.proto) (own_method p e.name e.proto) (own_answers p s e.name e.proto (method_name p s m e h) (method_proto p s m e h)) (resolution_of p (class_place p e.class))
          ∙ sym (ap (λ o. option_and_then (found_at p) (by_entry (λ q. first_among (own_method p q.name q.proto) (resolution_of p (class_place p q.class))) o)) h)

  -- ---- super calls

  module _ (once : (class : ℕ) → IsTwice p class → ⊥) (r c : ℕ) (hr : r < length p.types) (own : class_place p r ≡ Some c) (k : Class) (is : slice_get p.classes c ≡ Some k) where
    superclass_is : find.superclass_of (named p) (type_at p r) ≡ type_at p k.superclass
    superclass_is = ap (λ o. elim o as (λ o. Text) [ Some c ↦ c.superclass | None ↦ [] ]) (class_by_number p s r hr ∙ ap (option_and_then (class_at p)) own ∙ ap (option_map (named_class p)) is)

    above_by_number : (e : MethodName) → e.name < length p.strings → e.proto < length p.protos → find.finds_above (named p) (type_at p r) (key_of p e) ≡ search_at p (finds_above p c e)
    above_by_number e hn hq =
        ap (λ t. find.search_of (first_method (λ m. true) (text_at p e.name) (signature_at p e.proto) (find.chain_of (named p) t))) superclass_is
        ∙ ap find.search_of (from_by_number k.superclass e.name e.proto (class_parts p s c k is).superclass hn hq)
        ∙ searched p (finds_from p e.name e.proto (class_place p k.superclass))
        ∙ sym (ap (λ o. search_at p (search_of (finds_from p e.name e.proto (option_and_then (λ d. class_place p d.superclass) o)))) is)

    lists_by_number : (t : ℕ) → t < length p.types → find.lists_interface (named p) (type_at p r) (type_at p t) ≡ lists_interface p c t
    lists_by_number t ht = any_named (λ d. is_own_under (named p) (type_at p r) d.name && list_any (text_eq (type_at p t)) d.interfaces)
        (λ d. reaches p c (class_place p d.name) && list_any (nat_eq t) d.interfaces) (named_class p) p.classes
        (λ i d e. ap (λ b. b && list_any (text_eq (type_at p t)) (map (type_at p) d.interfaces))
        (under_by_number p s r d.name c i hr (class_parts p s i d e).name own (own_place p once i d e) ∙ sym (ap (reaches p c) (own_place p once i d e)))
        ∙ ap (λ b. reaches p c (class_place p d.name) && b) (any_named (text_eq (type_at p t)) (nat_eq t) (type_at p) d.interfaces (λ j u f. type_test p s t u ht (below_all d.interfaces j u (class_parts p s i d e).interfaces f))))
      where
        below_all : (us : List ℕ) (j u : ℕ) → list_all (has_type p) us ≡ true → slice_get us j ≡ Some u → u < length p.types
        below_all us j u h e = below u (length p.types) (all_at (has_type p) us j u h e)

    abbrev named_super : MethodName → Option NamedClass → find.Search
    named_super e o = find.finds_super_037 (named p) (type_at p r) (key_of p e) o

    super_class : (e : MethodName) → e.class < length p.types → e.name < length p.strings → e.proto < length p.protos → (d : ℕ) (o : Option Class) → class_place p e.class ≡ Some d → slice_get p.classes d ≡ o
        → named_super e (option_map (named_class p) o) ≡ search_at p (finds_super_037 p c e (Some d))
    super_class e hc hn hq d None f g = absurd (none_there (defined p e.class d f) g)
      where
        none_there : Defined p e.class d → slice_get p.classes d ≡ None → ⊥
        none_there x g = let w : None ≡ Some x.class = sym g ∙ x.is in cc
    super_class e hc hn hq d (Some x) f g =
        ap (λ b. elim b as (λ b. find.Search) [ true ↦ find.finds_among (named p) (type_at p x.name ∷ []) (text_at p e.name) (signature_at p e.proto) | false ↦ find.finds_above (named p) (type_at p r) (key_of p e) ]) (sym (interface_flag x.flags))
        ∙ by_flag (has_flag x.flags 512)
        ∙ sym (ap (λ o. search_at p (cond (is_interface o) (finds_among p (d ∷ []) e.name e.proto) (finds_above p c e))) g)
      where
        by_flag : (b : Bool) → elim b as (λ b. find.Search) [ true ↦ find.finds_among (named p) (type_at p x.name ∷ []) (text_at p e.name) (signature_at p e.proto) | false ↦ find.finds_above (named p) (type_at p r) (key_of p e) ]
            ≡ search_at p (cond b (finds_among p (d ∷ []) e.name e.proto) (finds_above p c e))
        by_flag false = above_by_number e hn hq
        by_flag true = among_by_number p s e.name e.proto hn hq once (x.name ∷ []) (types_one p x.name (class_parts p s d x g).name)
            ∙ ap (λ o. search_at p (finds_among p (placed o []) e.name e.proto)) (own_place p once d x g)

    super_place_of : (e : MethodName) → e.class < length p.types → e.name < length p.strings → e.proto < length p.protos → (o : Option ℕ) → class_place p e.class ≡ o
        → named_super e (option_and_then (class_at p) o) ≡ search_at p (finds_super_037 p c e o)
    super_place_of e hc hn hq None f =
        ap (λ b. elim b as (λ b. find.Search) [ true ↦ find.Search.Nothing | false ↦ find.finds_above (named p) (type_at p r) (key_of p e) ]) (lists_by_number e.class hc) ∙ by_list (lists_interface p c e.class)
      where
        by_list : (b : Bool) → elim b as (λ b. find.Search) [ true ↦ find.Search.Nothing | false ↦ find.finds_above (named p) (type_at p r) (key_of p e) ] ≡ search_at p (cond b Search.Nothing (finds_above p c e))
        by_list true = refl
        by_list false = above_by_number e hn hq
    super_place_of e hc hn hq (Some d) f = super_class e hc hn hq d (slice_get p.classes d) f refl

    super_known : (e : MethodName) → e.class < length p.types → e.name < length p.strings → e.proto < length p.protos
        → find.finds_super (named p) (type_at p r) (key_of p e) ≡ search_at p (finds_super_of p c (Some e))
    super_known e hc hn hq =
        ap (λ b. elim b as (λ b. find.Search) [ true ↦ named_super e (class_named (named p) (type_at p e.class)) | false ↦ find.finds_above (named p) (type_at p r) (key_of p e) ]) (version_test p.version)
        ∙ by_version (is_037 p.version)
      where
        by_version : (b : Bool) → elim b as (λ b. find.Search) [ true ↦ named_super e (class_named (named p) (type_at p e.class)) | false ↦ find.finds_above (named p) (type_at p r) (key_of p e) ]
            ≡ search_at p (cond b (finds_super_037 p c e (class_place p e.class)) (finds_above p c e))
        by_version true = ap (named_super e) (class_by_number p s e.class hc) ∙ super_place_of e hc hn hq (class_place p e.class) refl
        by_version false = above_by_number e hn hq

    -- what a super call from this class finds
    pub super_by_number : (m : ℕ) → m < length p.methods → find.finds_super (named p) (type_at p r) (method_at p m) ≡ search_at p (finds_super p c m)
    super_by_number m hm = by_known (entry_at p.methods m hm).0 (entry_at p.methods m hm).1
      where
        by_known : (e : MethodName) → slice_get p.methods m ≡ Some e → find.finds_super (named p) (type_at p r) (method_at p m) ≡ search_at p (finds_super p c m)
        by_known e h =
            ap (find.finds_super (named p) (type_at p r)) (method_is p s m e h)
            ∙ super_known e (method_class p s m e h) (method_name p s m e h) (method_proto p s m e h)
            ∙ sym (ap (λ o. search_at p (finds_super_of p c o)) h)
