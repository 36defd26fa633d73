-- What is initialised before a class by number is what is initialised before it by name.
use Rattle.std.proofs.Common.{◌≡◌, ℕ, zero, suc, ◌<◌, Bool, true, false, true≢false, nat_eq, List, [], ◌∷◌, ◌++◌, map, length, Option, Some, None, refl, sym, ap, ◌∙◌, lt-ltb}
use Rattle.std.specs.Prelude.{◌&&◌, ◌||◌, not, cond, filter, flat_map, is_some, slice_get, option_and_then}
use Rattle.std.specs.List.{list_any, list_all}
use Rattle.std.specs.Option.{option_map}
use Rattle.std.proofs.lemmas.Option.{slice_get_within}
use Rattle.program_model.specs.declared.program.Class.{Class}
use Rattle.program_model.specs.declared.program.Method.{Method}
use Rattle.program_model.specs.declared.program.Program.{Program}
use Rattle.program_model.specs.Lookups.{class_place}
use Rattle.program_model.specs.Texts.{has_type}
use Rattle.program_model.specs.MemberRules.{has_flag, is_direct}
use Rattle.class_defs.specs.ClassGraph.{IsTwice}
use Rattle.class_defs.specs.Finding.{beside, is_037}
use Rattle.class_defs.specs.Members.{is_interface}
use Rattle.class_defs.specs.Places.{super_place, placed, places_of, listed, interface_places}
use Rattle.dalvik_defs.specs.Names.{Text, text_eq}
use Rattle.dalvik_defs.specs.Naming.{type_at, named_class, named_method, named}
use Rattle.dalvik_defs.specs.Flags as remainder
use Rattle.dalvik_defs.specs.Under.{class_named, defines}
use Rattle.dalvik_defs.specs.Find.{interface_named, is_virtual_method}
use Rattle.dalvik_defs.specs.Initialised as first
use Rattle.dalvik_defs.specs.declared.program.NamedClass.{NamedClass}
use Rattle.name_bridge.specs.Named.{class_at}
use Rattle.name_bridge.proofs.Tables.{and_left, and_right, below, Sound}
use Rattle.name_bridge.proofs.Lists.{number_test, number_of, same_test}
use Rattle.name_bridge.proofs.Flags.{interface_flag}
use Rattle.name_bridge.proofs.Classes.{ClassFits, class_parts, class_by_number, type_test}
use Rattle.name_bridge.proofs.Above.{length_map, map_append, own_place, defined}
use Rattle.name_bridge.proofs.Found.{virtual_test}
use Rattle.name_bridge.proofs.Candidates.{coded_test, version_test}
use Rattle.dalvik_lookups.specs.Starting.{is_default, class_default, has_default, only_if, interfaces_before, firsts, interfaces_first, initialised_first}
use Rattle.dalvik_lookups.specs.Walks.{type_of_class, class_text}
use Rattle.dalvik_lookups.specs.Facing.{is_place}

-- whether a class has a virtual method with code
default_named : (p : Program) (k : Class) → first.has_default (named_class p k) ≡ class_default p k
default_named p k = along k.methods
  where
    along : (ms : List Method) → list_any (λ m. is_virtual_method m && is_some m.body) (map (named_method p) ms) ≡ list_any (is_default p) ms
    along [] = refl
    along (m ∷ ms) =
        ap (λ b. (b && is_some (named_method p m).body) || list_any (λ m. is_virtual_method m && is_some m.body) (map (named_method p) ms)) (virtual_test p m)
        ∙ ap (λ b. (not (is_direct p m) && b) || list_any (λ m. is_virtual_method m && is_some m.body) (map (named_method p) ms)) (coded_test p m.body)
        ∙ ap (λ b. is_default p m || b) (along ms)

-- an interface of a name
abbrev flagged : Option NamedClass → Option NamedClass
flagged None = None
flagged (Some c) = elim (remainder.is_interface c.flags) [ true ↦ Some c | false ↦ None ]

interface_is : (p : Program) (t : Text) → interface_named (named p) t ≡ flagged (class_named (named p) t)
interface_is p t = by_class (class_named (named p) t)
  where
    by_class : (o : Option NamedClass) → elim o as (λ o. Option NamedClass) [ Some c ↦ elim (remainder.is_interface c.flags) [ true ↦ Some c | false ↦ None ] | None ↦ None ] ≡ flagged o
    by_class None = refl
    by_class (Some c) = refl

abbrev before_class : ℕ → Program → Text → Option NamedClass → List Text
before_class n p t o = elim o [ Some c ↦ first.interfaces_before n (named p) c.interfaces ++ first.only_if (first.has_default c) t | None ↦ [] ]

module _ (p : Program) (s : Sound p) where
  abbrev Before : ℕ → Type 0
  Before n = (ks : List ℕ) → list_all (has_type p) ks ≡ true → first.interfaces_before n (named p) (map (type_at p) ks) ≡ map (class_text p) (interfaces_before n p (places_of p ks))

  abbrev of_place : ℕ → Option ℕ → List ℕ
  of_place n None = []
  of_place n (Some c) = cond (is_interface (slice_get p.classes c)) (interfaces_before n p (interface_places p c) ++ only_if (has_default p (slice_get p.classes c)) c) []

  only_named : (b : Bool) (t : Text) (c : ℕ) → t ≡ class_text p c → first.only_if b t ≡ map (class_text p) (only_if b c)
  only_named true t c e = ap (λ x. x ∷ []) e
  only_named false t c e = refl

  by_type : (n : ℕ) → Before n → (k : ℕ) → k < length p.types → before_class n p (type_at p k) (interface_named (named p) (type_at p k)) ≡ map (class_text p) (of_place n (class_place p k))
  by_type n more k hk = ap (before_class n p (type_at p k)) (interface_is p (type_at p k) ∙ ap flagged (class_by_number p s k hk)) ∙ by_place (class_place p k) refl
    where
      by_flag : (c : ℕ) (d : Class) → slice_get p.classes c ≡ Some d → d.name ≡ k → (b : Bool) → before_class n p (type_at p k) (elim b [ true ↦ Some (named_class p d) | false ↦ None ])
          ≡ map (class_text p) (cond b (interfaces_before n p (places_of p d.interfaces) ++ only_if (class_default p d) c) [])
      by_flag c d e same false = refl
      by_flag c d e same true =
          ap (λ l. l ++ first.only_if (first.has_default (named_class p d)) (type_at p k)) (more d.interfaces (class_parts p s c d e).interfaces)
          ∙ ap (λ b. map (class_text p) (interfaces_before n p (places_of p d.interfaces)) ++ first.only_if b (type_at p k)) (default_named p d)
          ∙ ap (λ l. map (class_text p) (interfaces_before n p (places_of p d.interfaces)) ++ l) (only_named (class_default p d) (type_at p k) c (ap (type_at p) (sym same) ∙ sym (ap (type_of_class p) e)))
          ∙ sym (map_append (class_text p) (interfaces_before n p (places_of p d.interfaces)) (only_if (class_default p d) c))

      by_place : (o : Option ℕ) → class_place p k ≡ o → before_class n p (type_at p k) (flagged (option_and_then (class_at p) o)) ≡ map (class_text p) (of_place n o)
      by_place None e = refl
      by_place (Some c) e =
          let d = defined p k c e in
          ap (λ o. before_class n p (type_at p k) (flagged (option_map (named_class p) o))) d.is
          ∙ ap (λ b. before_class n p (type_at p k) (elim b as (λ b. Option NamedClass) [ true ↦ Some (named_class p d.class) | false ↦ None ])) (sym (interface_flag d.class.flags))
          ∙ by_flag c d.class d.is d.named (has_flag d.class.flags 512)
          ∙ ap (λ o. map (class_text p) (cond (is_interface o) (interfaces_before n p (interface_of o) ++ only_if (has_default p o) c) [])) (sym d.is)
        where
          interface_of : Option Class → List ℕ
          interface_of None = []
          interface_of (Some k) = places_of p k.interfaces

  any_types : (n : ℕ) → Before n → (ks : List ℕ) → list_all (has_type p) ks ≡ true
      → flat_map (λ t. before_class n p t (interface_named (named p) t)) (map (type_at p) ks) ≡ map (class_text p) (flat_map (λ c. of_place n (Some c)) (places_of p ks))
  any_types n more [] h = refl
  any_types n more (k ∷ ks) h =
      ap (λ l. l ++ flat_map (λ t. before_class n p t (interface_named (named p) t)) (map (type_at p) ks)) (by_type n more k (below k (length p.types) (and_left (has_type p k) (list_all (has_type p) ks) h)))
      ∙ ap (λ l. map (class_text p) (of_place n (class_place p k)) ++ l) (any_types n more ks (and_right (has_type p k) (list_all (has_type p) ks) h))
      ∙ joined (class_place p k)
    where
      joined : (o : Option ℕ) → map (class_text p) (of_place n o) ++ map (class_text p) (flat_map (λ c. of_place n (Some c)) (places_of p ks)) ≡ map (class_text p) (flat_map (λ c. of_place n (Some c)) (placed o (places_of p ks)))
      joined None = refl
      joined (Some c) = sym (map_append (class_text p) (of_place n (Some c)) (flat_map (λ c. of_place n (Some c)) (places_of p ks)))

  before_named : (n : ℕ) → Before n
  before_named zero ks h = refl
  before_named (suc n) ks h = any_types n (before_named n) ks h

  -- ---- each once

  -- each is the place of a class
  abbrev AreClasses : List ℕ → Type 0
  AreClasses [] = Unit {0}
  AreClasses (c ∷ cs) = ((d : Class) × (slice_get p.classes c ≡ Some d)) × AreClasses cs

  classes_both : (cs ds : List ℕ) → AreClasses cs → AreClasses ds → AreClasses (cs ++ ds)
  classes_both [] ds h k = k
  classes_both (c ∷ cs) ds h k = (h.0, classes_both cs ds h.1 k)

  classes_filter : (f : ℕ → Bool) (cs : List ℕ) → AreClasses cs → AreClasses (filter f cs)
  classes_filter f [] h = tt
  classes_filter f (c ∷ cs) h = by_test (f c) (classes_filter f cs h.1)
    where
      by_test : (b : Bool) → AreClasses (filter f cs) → AreClasses (cond b (c ∷ filter f cs) (filter f cs))
      by_test true r = (h.0, r)
      by_test false r = r

  classes_firsts : (cs : List ℕ) → AreClasses cs → AreClasses (firsts cs)
  classes_firsts [] h = tt
  classes_firsts (c ∷ cs) h = (h.0, classes_filter (λ d. not (nat_eq d c)) (firsts cs) (classes_firsts cs h.1))

  classes_before : (n : ℕ) (cs : List ℕ) → AreClasses (interfaces_before n p cs)
  classes_before zero cs = tt
  classes_before (suc n) cs = along (classes_before n) cs
    where
      own : (c : ℕ) (o : Option Class) → slice_get p.classes c ≡ o → (b : Bool) → is_interface o ≡ true → AreClasses (only_if b c)
      own c None e b f = absurd (true≢false (sym f))
      own c (Some d) e true f = ((d, e), tt)
      own c (Some d) e false f = tt

      one : ((cs : List ℕ) → AreClasses (interfaces_before n p cs)) → (c : ℕ) (b : Bool) → is_interface (slice_get p.classes c) ≡ b → AreClasses (cond b (interfaces_before n p (interface_places p c) ++ only_if (has_default p (slice_get p.classes c)) c) [])
      one more c false e = tt
      one more c true e = classes_both (interfaces_before n p (interface_places p c)) (only_if (has_default p (slice_get p.classes c)) c) (more (interface_places p c)) (own c (slice_get p.classes c) refl (has_default p (slice_get p.classes c)) e)

      along : ((cs : List ℕ) → AreClasses (interfaces_before n p cs)) → (cs : List ℕ) → AreClasses (flat_map (λ c. of_place n (Some c)) cs)
      along more [] = tt
      along more (c ∷ cs) = classes_both (of_place n (Some c)) (flat_map (λ c. of_place n (Some c)) cs) (one more c (is_interface (slice_get p.classes c)) refl) (along more cs)

  all_places : (cs : List ℕ) → AreClasses cs → list_all (is_place p) cs ≡ true
  all_places [] h = refl
  all_places (c ∷ cs) h = ap (λ b. b && list_all (is_place p) cs) (lt-ltb c (length p.classes) (slice_get_within p.classes c h.0.0 h.0.1)) ∙ all_places cs h.1

  -- only classes are initialised first
  pub started : (c : ℕ) → list_all (is_place p) (initialised_first p c) ≡ true
  started c = all_places (initialised_first p c) (by_flag (is_interface (slice_get p.classes c)))
    where
      superclass : (o : Option Class) → AreClasses (beside (option_and_then (λ d. class_place p d.superclass) o))
      superclass None = tt
      superclass (Some k) = by_place (class_place p k.superclass) refl
        where
          by_place : (o : Option ℕ) → class_place p k.superclass ≡ o → AreClasses (beside o)
          by_place None e = tt
          by_place (Some d) e = let q = defined p k.superclass d e in ((q.class, q.is), tt)

      above : (b : Bool) → AreClasses (cond b (firsts (interfaces_before (length p.classes) p (interface_places p c))) [])
      above true = classes_firsts (interfaces_before (length p.classes) p (interface_places p c)) (classes_before (length p.classes) (interface_places p c))
      above false = tt

      by_flag : (b : Bool) → AreClasses (cond b [] (beside (super_place p c) ++ interfaces_first p c))
      by_flag true = tt
      by_flag false = classes_both (beside (super_place p c)) (interfaces_first p c) (superclass (slice_get p.classes c)) (above (is_037 p.version))

  module _ (once : (class : ℕ) → IsTwice p class → ⊥) where
    same_name : (c d : ℕ) (k l : Class) → slice_get p.classes c ≡ Some k → slice_get p.classes d ≡ Some l → text_eq (class_text p c) (class_text p d) ≡ nat_eq c d
    same_name c d k l e f =
        ap (λ o. text_eq (type_of_class p o) (type_of_class p (slice_get p.classes d))) e ∙ ap (λ o. text_eq (type_at p k.name) (type_of_class p o)) f
        ∙ type_test p s k.name l.name (class_parts p s c k e).name (class_parts p s d l f).name
        ∙ same_test (nat_eq k.name l.name) (nat_eq c d)
        (λ h. number_test c d (let x : Some c ≡ Some d = sym (own_place p once c k e) ∙ ap (class_place p) (number_of k.name l.name h) ∙ own_place p once d l f in cc))
        (λ h. number_test k.name l.name (let x : Some k ≡ Some l = sym e ∙ ap (slice_get p.classes) (number_of c d h) ∙ f in let y : k ≡ l = cc in ap (λ z. z.name) y))

    filter_named : (c : ℕ) (k : Class) → slice_get p.classes c ≡ Some k → (ds : List ℕ) → AreClasses ds → filter (λ u. not (text_eq u (class_text p c))) (map (class_text p) ds) ≡ map (class_text p) (filter (λ d. not (nat_eq d c)) ds)
    filter_named c k e [] h = refl
    filter_named c k e (d ∷ ds) h =
        ap (λ b. cond (not b) (class_text p d ∷ filter (λ u. not (text_eq u (class_text p c))) (map (class_text p) ds)) (filter (λ u. not (text_eq u (class_text p c))) (map (class_text p) ds))) (same_name d c h.0.0 k h.0.1 e)
        ∙ ap (λ l. cond (not (nat_eq d c)) (class_text p d ∷ l) l) (filter_named c k e ds h.1)
        ∙ either (not (nat_eq d c))
      where
        either : (b : Bool) → cond b (class_text p d ∷ map (class_text p) (filter (λ d. not (nat_eq d c)) ds)) (map (class_text p) (filter (λ d. not (nat_eq d c)) ds)) ≡ map (class_text p) (cond b (d ∷ filter (λ d. not (nat_eq d c)) ds) (filter (λ d. not (nat_eq d c)) ds))
        either true = refl
        either false = refl

    firsts_named : (cs : List ℕ) → AreClasses cs → first.firsts (map (class_text p) cs) ≡ map (class_text p) (firsts cs)
    firsts_named [] h = refl
    firsts_named (c ∷ cs) h =
        ap (λ l. class_text p c ∷ filter (λ u. not (text_eq u (class_text p c))) l) (firsts_named cs h.1)
        ∙ ap (λ l. class_text p c ∷ l) (filter_named c h.0.0 h.0.1 (firsts cs) (classes_firsts cs h.1))

    -- what is initialised before a class
    pub first_named : (c : ℕ) (k : Class) → slice_get p.classes c ≡ Some k → first.initialised_first (named p) (type_at p k.name) ≡ map (class_text p) (initialised_first p c)
    first_named c k e =
        ap before (class_by_number p s k.name fits.name ∙ ap (option_and_then (class_at p)) (own_place p once c k e) ∙ ap (option_map (named_class p)) e)
        ∙ ap (λ b. elim b as (λ b. List Text) [ true ↦ [] | false ↦ first.only_if (defines (named p) (type_at p k.superclass)) (type_at p k.superclass) ++ first.interfaces_first (named p) (named_class p k) ]) (sym (interface_flag k.flags))
        ∙ by_flag (has_flag k.flags 512)
        ∙ sym (ap (λ o. map (class_text p) (cond (is_interface o) [] (beside (option_and_then (λ d. class_place p d.superclass) o) ++ cond (is_037 p.version) (firsts (interfaces_before (length p.classes) p (listed p o))) []))) e)
      where
        before : Option NamedClass → List Text
        before o = elim o [ Some c ↦ first.first_of_class (named p) c | None ↦ [] ]

        fits : ClassFits p k
        fits = class_parts p s c k e

        above : List ℕ
        above = cond (is_037 p.version) (firsts (interfaces_before (length p.classes) p (places_of p k.interfaces))) []

        super_named : first.only_if (defines (named p) (type_at p k.superclass)) (type_at p k.superclass) ≡ map (class_text p) (beside (class_place p k.superclass))
        super_named = ap (λ o. first.only_if (elim o as (λ o. Bool) [ Some d ↦ true | None ↦ false ]) (type_at p k.superclass)) (class_by_number p s k.superclass fits.superclass) ∙ by_place (class_place p k.superclass) refl
          where
            by_place : (o : Option ℕ) → class_place p k.superclass ≡ o → first.only_if (elim (option_and_then (class_at p) o) as (λ o. Bool) [ Some d ↦ true | None ↦ false ]) (type_at p k.superclass) ≡ map (class_text p) (beside o)
            by_place None i = refl
            by_place (Some d) i =
                let q = defined p k.superclass d i in
                ap (λ o. first.only_if (elim (option_map (named_class p) o) as (λ o. Bool) [ Some d ↦ true | None ↦ false ]) (type_at p k.superclass)) q.is
                ∙ ap (λ x. x ∷ []) (ap (type_at p) (sym q.named) ∙ sym (ap (type_of_class p) q.is))

        interfaces_named : first.interfaces_first (named p) (named_class p k) ≡ map (class_text p) above
        interfaces_named = ap (λ b. elim b as (λ b. List Text) [ true ↦ first.firsts (first.interfaces_before (length (named p).classes) (named p) (map (type_at p) k.interfaces)) | false ↦ [] ]) (version_test p.version) ∙ by_version (is_037 p.version)
          where
            by_version : (b : Bool) → elim b as (λ b. List Text) [ true ↦ first.firsts (first.interfaces_before (length (named p).classes) (named p) (map (type_at p) k.interfaces)) | false ↦ [] ]
                ≡ map (class_text p) (cond b (firsts (interfaces_before (length p.classes) p (places_of p k.interfaces))) [])
            by_version false = refl
            by_version true =
                ap (λ n. first.firsts (first.interfaces_before n (named p) (map (type_at p) k.interfaces))) (length_map (named_class p) p.classes)
                ∙ ap first.firsts (before_named (length p.classes) k.interfaces fits.interfaces)
                ∙ firsts_named (interfaces_before (length p.classes) p (places_of p k.interfaces)) (classes_before (length p.classes) (places_of p k.interfaces))

        by_flag : (b : Bool) → elim b as (λ b. List Text) [ true ↦ [] | false ↦ first.only_if (defines (named p) (type_at p k.superclass)) (type_at p k.superclass) ++ first.interfaces_first (named p) (named_class p k) ]
            ≡ map (class_text p) (cond b [] (beside (class_place p k.superclass) ++ above))
        by_flag true = refl
        by_flag false =
            ap (λ l. l ++ first.interfaces_first (named p) (named_class p k)) super_named ∙ ap (λ l. map (class_text p) (beside (class_place p k.superclass)) ++ l) interfaces_named
            ∙ sym (map_append (class_text p) (beside (class_place p k.superclass)) above)
