-- What the candidates of interfaces give by number is what they give by name.
use Rattle.std.proofs.Common.{◌≡◌, ℕ, zero, suc, ◌<◌, Bool, true, false, true≢false, nat_eq, List, [], ◌∷◌, ◌++◌, map, length, Option, Some, None, refl, sym, ap, subst, ◌∙◌}
use Rattle.std.specs.Prelude.{◌&&◌, ◌||◌, not, cond, codes, slice_get, option_and_then, flat_map, filter, is_some}
use Rattle.std.specs.List.{list_all, list_any}
use Rattle.std.specs.Option.{option_map}
use Rattle.program_model.specs.declared.pools.Proto.{Proto}
use Rattle.program_model.specs.declared.program.MethodAt.{MethodAt}
use Rattle.program_model.specs.declared.program.Class.{Class}
use Rattle.program_model.specs.declared.program.Program.{Program}
use Rattle.program_model.specs.declared.program.Version.{Version}
use Rattle.program_model.specs.declared.program.Version.TheVariants.{V035, V037}
use Rattle.program_model.specs.declared.body.Body.{Body}
use Rattle.program_model.specs.Lookups as look
use Rattle.program_model.specs.Lookups.{class_place}
use Rattle.program_model.specs.Texts.{has_type}
use Rattle.program_model.specs.MemberRules.{has_flag}
use Rattle.class_defs.specs.ClassGraph.{IsTwice}
use Rattle.class_defs.specs.Places.{placed, places_of, listed, interface_places, chain_of, is_under}
use Rattle.class_defs.specs.Members.{own_virtual, has_code, is_interface, string_is, type_is, types_are, proto_is, is_named, is_common}
use Rattle.class_defs.specs.Finding.{Search, one_or_none, candidates_from, without_repeats, is_037, candidates, is_lowest, lowest, verdict, finds_among, found_or, finds_at, first_among}
use Rattle.dalvik_defs.specs.Names.{Text, text_eq, texts_eq, signature_eq, same_name}
use Rattle.dalvik_defs.specs.Names as spelled
use Rattle.dalvik_defs.specs.Flags as remainder
use Rattle.dalvik_defs.specs.Under.{class_named, is_own_under}
use Rattle.dalvik_defs.specs.Naming.{text_at, type_at, signature_at, named_class, named, body_of}
use Rattle.dalvik_defs.specs.Find as find
use Rattle.dalvik_defs.specs.Find.{Found, found_in, interface_named, own_candidate, passing, method_in, first_method, is_virtual_method}
use Rattle.dalvik_defs.specs.declared.names.Signature.{Signature}
use Rattle.dalvik_defs.specs.declared.program.NamedClass.{NamedClass}
use Rattle.name_bridge.specs.Named.{class_at, classes_at, found_at, finds, search_at}
use Rattle.name_bridge.proofs.Tables.{and_left, and_right, below, Sound}
use Rattle.name_bridge.proofs.Lists.{same_test, number_test, number_of}
use Rattle.name_bridge.proofs.Flags.{interface_flag}
use Rattle.name_bridge.proofs.Classes.{class_parts, type_test, class_by_number}
use Rattle.name_bridge.proofs.Above.{length_map, own_place, under_by_number, chain_by_number, types_listed, names_listed, places_listed, types_fit_listed}
use Rattle.name_bridge.proofs.Found.{text_same, type_same, IsThere, found_there_is, looked_up, found_parts, in_class, virtual_answers, first_by_number, first_there}

-- ---- lists of methods by number and by name

abbrev pub Names : Program → List MethodAt → List Found → Type 0
Names p [] [] = Unit {0}
Names p [] (f ∷ fs) = ⊥
Names p (a ∷ ms) [] = ⊥
Names p (a ∷ ms) (f ∷ fs) = (found_at p a ≡ Some f) × Names p ms fs

names_append : (p : Program) (ms : List MethodAt) (fs : List Found) (bs : List MethodAt) (gs : List Found) → Names p ms fs → Names p bs gs → Names p (ms ++ bs) (fs ++ gs)
names_append p [] [] bs gs h k = k
names_append p [] (f ∷ fs) bs gs h k = absurd h
names_append p (a ∷ ms) [] bs gs h k = absurd h
names_append p (a ∷ ms) (f ∷ fs) bs gs h k = (h.0, names_append p ms fs bs gs h.1 k)

names_filter : (p : Program) (t : Found → Bool) (u : MethodAt → Bool) → ((a : MethodAt) (f : Found) → found_at p a ≡ Some f → t f ≡ u a)
    → (ms : List MethodAt) (fs : List Found) → Names p ms fs → Names p (filter u ms) (filter t fs)
names_filter p t u h [] [] k = tt
names_filter p t u h [] (f ∷ fs) k = absurd k
names_filter p t u h (a ∷ ms) [] k = absurd k
names_filter p t u h (a ∷ ms) (f ∷ fs) k = by_test (u a) (t f) (h a f k.0) (names_filter p t u h ms fs k.1)
  where
    by_test : (b c : Bool) → c ≡ b → Names p (filter u ms) (filter t fs) → Names p (cond b (a ∷ filter u ms) (filter u ms)) (cond c (f ∷ filter t fs) (filter t fs))
    by_test true true e r = (k.0, r)
    by_test false false e r = r
    by_test true false e r = absurd (true≢false (sym e))
    by_test false true e r = absurd (true≢false e)

names_any : (p : Program) (t : Found → Bool) (u : MethodAt → Bool) → ((a : MethodAt) (f : Found) → found_at p a ≡ Some f → t f ≡ u a)
    → (ms : List MethodAt) (fs : List Found) → Names p ms fs → list_any t fs ≡ list_any u ms
names_any p t u h [] [] k = refl
names_any p t u h [] (f ∷ fs) k = absurd k
names_any p t u h (a ∷ ms) [] k = absurd k
names_any p t u h (a ∷ ms) (f ∷ fs) k = ap (λ b. b || list_any t fs) (h a f k.0) ∙ ap (λ b. u a || b) (names_any p t u h ms fs k.1)

names_verdict : (p : Program) (ms : List MethodAt) (fs : List Found) → Names p ms fs → find.verdict fs ≡ search_at p (verdict ms)
names_verdict p [] [] k = refl
names_verdict p [] (f ∷ fs) k = absurd k
names_verdict p (a ∷ ms) [] k = absurd k
names_verdict p (a ∷ []) (f ∷ []) k = sym (ap finds k.0)
names_verdict p (a ∷ []) (f ∷ g ∷ fs) k = absurd k.1
names_verdict p (a ∷ b ∷ ms) (f ∷ []) k = absurd k.1
names_verdict p (a ∷ b ∷ ms) (f ∷ g ∷ fs) k = refl

-- ---- names by their texts

types_named : (p : Program) (ks : List ℕ) (ts : List Text) → texts_eq (map (type_at p) ks) ts ≡ types_are p ks ts
types_named p [] [] = refl
types_named p [] (t ∷ ts) = refl
types_named p (k ∷ ks) [] = refl
types_named p (k ∷ ks) (t ∷ ts) = ap (λ x. text_eq x t && texts_eq (map (type_at p) ks) ts) (type_same p k) ∙ ap (λ b. type_is p k t && b) (types_named p ks ts)

-- a method of this name and this signature
pub named_test : (p : Program) (n q : ℕ) (text : Text) (parameters : List Text) (u : ℕ) (result : Text)
    → same_name (text_at p n) (signature_at p q) text (record { parameters = parameters; result = u ∷ result }) ≡ is_named p n q text parameters (u ∷ result)
named_test p n q text parameters u result =
    ap (λ x. text_eq x text && signature_eq (signature_at p q) (record { parameters = parameters; result = u ∷ result })) (text_same p n)
    ∙ ap (λ b. string_is p n text && b) (by_proto (slice_get p.protos q))
  where
    by_proto : (o : Option Proto) → signature_eq (elim o as (λ o. Signature) [ Some r ↦ record { parameters = map (type_at p) r.parameters; result = type_at p r.result } | None ↦ record { parameters = []; result = [] } ]) (record { parameters = parameters; result = u ∷ result })
        ≡ proto_is p parameters (u ∷ result) o
    by_proto None = refl
    by_proto (Some r) = ap (λ x. text_eq x (u ∷ result) && texts_eq (map (type_at p) r.parameters) parameters) (type_same p r.result) ∙ ap (λ b. type_is p r.result (u ∷ result) && b) (types_named p r.parameters parameters)

pub common_test : (p : Program) (n q : ℕ) → spelled.is_common (text_at p n) (signature_at p q) ≡ is_common p n q
common_test p n q = cc (
  named_test p n q (codes "equals") (codes "Ljava/lang/Object;" ∷ []) 90 [],
  named_test p n q (codes "hashCode") [] 73 [],
  named_test p n q (codes "toString") [] 76 (codes "java/lang/String;"),
  named_test p n q (codes "clone") [] 76 (codes "java/lang/Object;"),
  named_test p n q (codes "finalize") [] 86 [],
)

pub version_test : (v : Version) → find.is_037 v ≡ is_037 v
version_test V035 = refl
version_test V037 = refl

pub coded_test : (p : Program) (o : Option Body) → is_some (option_map (body_of p) o) ≡ is_some o
coded_test p None = refl
coded_test p (Some b) = refl

-- ---- candidates

module _ (p : Program) (s : Sound p) (n q : ℕ) (hn : n < length p.strings) (hq : q < length p.protos) where
  -- an interface's own
  own_named : (c : ℕ) (k : Class) → slice_get p.classes c ≡ Some k → Names p (one_or_none (own_virtual p n q c)) (own_candidate (text_at p n) (signature_at p q) (named_class p k))
  own_named c k e = by_own (own_virtual p n q c) ((virtual_answers p s n q hn hq).there c)
      (passing is_virtual_method (named_class p k) (method_in (named_class p k) (text_at p n) (signature_at p q)))
      (sym (ap (λ o. in_class is_virtual_method (text_at p n) (signature_at p q) (option_map (named_class p) o)) e) ∙ (virtual_answers p s n q hn hq).same c)
    where
      by_own : (o : Option MethodAt) → ((at : MethodAt) → o ≡ Some at → IsThere p at) → (r : Option Found) → r ≡ option_and_then (found_at p) o
          → Names p (one_or_none o) (elim r as (λ r. List Found) [ Some f ↦ f ∷ [] | None ↦ [] ])
      by_own None h None e = tt
      by_own None h (Some f) e = cc
      by_own (Some at) h None e = let x : None ≡ Some _ = e ∙ found_there_is p at (h at refl) in cc
      by_own (Some at) h (Some f) e = (sym e, tt)

  abbrev Below : ℕ → Type 0
  Below m = (ks : List ℕ) → list_all (has_type p) ks ≡ true
      → Names p (candidates_from m p n q (places_of p ks)) (find.candidates_from m (named p) (text_at p n) (signature_at p q) (map (type_at p) ks))

  -- those of one type
  abbrev of_place : ℕ → Option ℕ → List MethodAt
  of_place m None = []
  of_place m (Some c) = cond (is_interface (slice_get p.classes c)) (one_or_none (own_virtual p n q c) ++ candidates_from m p n q (interface_places p c)) []

  abbrev named_of : ℕ → Option NamedClass → List Found
  named_of m None = []
  named_of m (Some c) = own_candidate (text_at p n) (signature_at p q) c ++ find.candidates_from m (named p) (text_at p n) (signature_at p q) c.interfaces

  abbrev flagged : Option NamedClass → Option NamedClass
  flagged None = None
  flagged (Some c) = elim (remainder.is_interface c.flags) [ true ↦ Some c | false ↦ None ]

  interface_is : (t : Text) → interface_named (named p) t ≡ flagged (class_named (named p) t)
  interface_is t = by_class (class_named (named p) t)
    where
      by_class : (o : Option NamedClass) → elim o as (λ o. Option NamedClass) [ Some c ↦ elim (remainder.is_interface c.flags) [ true ↦ Some c | false ↦ None ] | None ↦ None ] ≡ flagged o
      by_class None = refl
      by_class (Some c) = refl

  named_is : (m : ℕ) (o : Option NamedClass) → elim o as (λ o. List Found) [ Some c ↦ own_candidate (text_at p n) (signature_at p q) c ++ find.candidates_from m (named p) (text_at p n) (signature_at p q) c.interfaces | None ↦ [] ] ≡ named_of m o
  named_is m None = refl
  named_is m (Some c) = refl

  by_flag : (m : ℕ) → Below m → (c : ℕ) (k : Class) → slice_get p.classes c ≡ Some k → (b d : Bool) → d ≡ b
      → Names p (cond b (one_or_none (own_virtual p n q c) ++ candidates_from m p n q (interface_places p c)) [])
      (named_of m (elim d as (λ d. Option NamedClass) [ true ↦ Some (named_class p k) | false ↦ None ]))
  by_flag m more c k e false false f = tt
  by_flag m more c k e true false f = absurd (true≢false (sym f))
  by_flag m more c k e false true f = absurd (true≢false f)
  by_flag m more c k e true true f = names_append p (one_or_none (own_virtual p n q c)) (own_candidate (text_at p n) (signature_at p q) (named_class p k)) (candidates_from m p n q (interface_places p c))
      (find.candidates_from m (named p) (text_at p n) (signature_at p q) (map (type_at p) k.interfaces)) (own_named c k e)
      (subst (λ o. Names p (candidates_from m p n q (listed p o)) (find.candidates_from m (named p) (text_at p n) (signature_at p q) (map (type_at p) k.interfaces))) (sym e) (more k.interfaces (class_parts p s c k e).interfaces))

  by_class : (m : ℕ) → Below m → (c : ℕ) (o : Option Class) → slice_get p.classes c ≡ o
      → Names p (cond (is_interface o) (one_or_none (own_virtual p n q c) ++ candidates_from m p n q (interface_places p c)) []) (named_of m (flagged (option_map (named_class p) o)))
  by_class m more c None e = tt
  by_class m more c (Some k) e = by_flag m more c k e (has_flag k.flags 512) (remainder.is_interface k.flags.0) (sym (interface_flag k.flags))

  by_place : (m : ℕ) → Below m → (o : Option ℕ) → Names p (of_place m o) (named_of m (flagged (option_and_then (class_at p) o)))
  by_place m more None = tt
  by_place m more (Some c) = by_class m more c (slice_get p.classes c) refl

  by_type : (m : ℕ) → Below m → (x : ℕ) → x < length p.types → Names p (of_place m (class_place p x)) (named_of m (interface_named (named p) (type_at p x)))
  by_type m more x hx = subst (λ o. Names p (of_place m (class_place p x)) (named_of m o)) (sym (interface_is (type_at p x) ∙ ap flagged (class_by_number p s x hx))) (by_place m more (class_place p x))

  abbrev at_place : ℕ → ℕ → List MethodAt
  at_place m c = cond (is_interface (slice_get p.classes c)) (one_or_none (own_virtual p n q c) ++ candidates_from m p n q (interface_places p c)) []

  placed_is : (m : ℕ) (o : Option ℕ) (cs : List ℕ) → flat_map (at_place m) (placed o cs) ≡ of_place m o ++ flat_map (at_place m) cs
  placed_is m None cs = refl
  placed_is m (Some c) cs = refl

  abbrev by_name : ℕ → Text → List Found
  by_name m t = elim (interface_named (named p) t) as (λ o. List Found) [ Some c ↦ own_candidate (text_at p n) (signature_at p q) c ++ find.candidates_from m (named p) (text_at p n) (signature_at p q) c.interfaces | None ↦ [] ]

  by_types : (m : ℕ) → Below m → (ks : List ℕ) → list_all (has_type p) ks ≡ true → Names p (flat_map (at_place m) (places_of p ks)) (flat_map (by_name m) (map (type_at p) ks))
  by_types m more [] h = tt
  by_types m more (k ∷ ks) h =
      let hk = below k (length p.types) (and_left (has_type p k) (list_all (has_type p) ks) h) in
      let rest = by_types m more ks (and_right (has_type p k) (list_all (has_type p) ks) h) in
      subst (λ l. Names p l (by_name m (type_at p k) ++ flat_map (by_name m) (map (type_at p) ks))) (sym (placed_is m (class_place p k) (places_of p ks)))
      (names_append p (of_place m (class_place p k)) (by_name m (type_at p k)) (flat_map (at_place m) (places_of p ks)) (flat_map (by_name m) (map (type_at p) ks))
      (subst (λ l. Names p (of_place m (class_place p k)) l) (sym (named_is m (interface_named (named p) (type_at p k)))) (by_type m more k hk)) rest)

  candidates_steps : (m : ℕ) → Below m
  candidates_steps zero ks h = tt
  candidates_steps (suc m) ks h = by_types m (candidates_steps m) ks h

  module _ (once : (class : ℕ) → IsTwice p class → ⊥) where
    class_test : (a b : MethodAt) (f g : Found) → found_at p a ≡ Some f → found_at p b ≡ Some g → text_eq g.key.class f.key.class ≡ nat_eq b.class a.class
    class_test a b f g ea eb =
        let x = found_parts p a f ea in
        let y = found_parts p b g eb in
        ap (λ h. text_eq h.key.class f.key.class) y.found ∙ ap (λ h. text_eq (type_at p y.there.class.name) h.key.class) x.found
        ∙ type_test p s y.there.class.name x.there.class.name (class_parts p s b.class y.there.class y.there.is_class).name (class_parts p s a.class x.there.class x.there.is_class).name
        ∙ same_test _ _
        (λ h. let e : Some b.class ≡ Some a.class = sym (own_place p once b.class y.there.class y.there.is_class) ∙ ap (class_place p) (number_of _ _ h) ∙ own_place p once a.class x.there.class x.there.is_class in number_test b.class a.class cc)
        (λ h. let e : Some y.there.class ≡ Some x.there.class = sym y.there.is_class ∙ ap (slice_get p.classes) (number_of _ _ h) ∙ x.there.is_class in
        let w : y.there.class ≡ x.there.class = cc in number_test y.there.class.name x.there.class.name (ap (λ k. k.name) w))

    under_test : (a b : MethodAt) (f g : Found) → found_at p a ≡ Some f → found_at p b ≡ Some g → is_own_under (named p) g.key.class f.key.class ≡ is_under p b.class a.class
    under_test a b f g ea eb =
        let x = found_parts p a f ea in
        let y = found_parts p b g eb in
        ap (λ h. is_own_under (named p) h.key.class f.key.class) y.found ∙ ap (λ h. is_own_under (named p) (type_at p y.there.class.name) h.key.class) x.found
        ∙ under_by_number p s y.there.class.name x.there.class.name b.class a.class (class_parts p s b.class y.there.class y.there.is_class).name (class_parts p s a.class x.there.class x.there.is_class).name
        (own_place p once b.class y.there.class y.there.is_class) (own_place p once a.class x.there.class x.there.is_class)

    once_each : (ms : List MethodAt) (fs : List Found) → Names p ms fs → Names p (without_repeats ms) (find.without_repeats fs)
    once_each [] [] k = tt
    once_each [] (f ∷ fs) k = absurd k
    once_each (a ∷ ms) [] k = absurd k
    once_each (a ∷ ms) (f ∷ fs) k = (k.0, names_filter p (λ g. not (text_eq g.key.class f.key.class)) (λ b. not (nat_eq b.class a.class)) (λ b g e. ap not (class_test a b f g k.0 e)) (without_repeats ms) (find.without_repeats fs) (once_each ms fs k.1))

    pub candidates_by_number : (ks : List ℕ) → list_all (has_type p) ks ≡ true
        → Names p (candidates p (places_of p ks) n q) (find.candidates (named p) (map (type_at p) ks) (text_at p n) (signature_at p q))
    candidates_by_number ks h = by_test (is_037 p.version && not (is_common p n q)) (find.is_037 p.version && not (spelled.is_common (text_at p n) (signature_at p q)))
        (ap (λ b. b && not (spelled.is_common (text_at p n) (signature_at p q))) (version_test p.version) ∙ ap (λ b. is_037 p.version && not b) (common_test p n q))
      where
        by_test : (b c : Bool) → c ≡ b → Names p (cond b (without_repeats (candidates_from (length p.classes) p n q (places_of p ks))) [])
            (elim c as (λ c. List Found) [ true ↦ find.without_repeats (find.candidates_from (length (named p).classes) (named p) (text_at p n) (signature_at p q) (map (type_at p) ks)) | false ↦ [] ])
        by_test false false e = tt
        by_test true false e = absurd (true≢false (sym e))
        by_test false true e = absurd (true≢false e)
        by_test true true e = subst (λ l. Names p (without_repeats (candidates_from (length p.classes) p n q (places_of p ks))) (find.without_repeats (find.candidates_from l (named p) (text_at p n) (signature_at p q) (map (type_at p) ks))))
            (sym (length_map (named_class p) p.classes)) (once_each _ _ (candidates_steps (length p.classes) ks h))

    lowest_test : (ms : List MethodAt) (fs : List Found) → Names p ms fs → (a : MethodAt) (f : Found) → found_at p a ≡ Some f
        → (f.coded && find.is_lowest (named p) fs f) ≡ (has_code (look.method_at p a) && is_lowest p ms a)
    lowest_test ms fs k a f e =
        let x = found_parts p a f e in
        ap (λ b. b && find.is_lowest (named p) fs f) (ap (λ h. h.coded) x.found ∙ coded_test p x.there.method.body ∙ sym (ap has_code (looked_up p a x.there)))
        ∙ ap (λ b. has_code (look.method_at p a) && not b) (names_any p (λ g. not (text_eq g.key.class f.key.class) && is_own_under (named p) g.key.class f.key.class) (λ b. not (nat_eq b.class a.class) && is_under p b.class a.class)
        (λ b g h. ap (λ x. not x && is_own_under (named p) g.key.class f.key.class) (class_test a b f g e h) ∙ ap (λ x. not (nat_eq b.class a.class) && x) (under_test a b f g e h)) ms fs k)

    -- what the candidates of some interfaces give
    pub among_by_number : (ks : List ℕ) → list_all (has_type p) ks ≡ true
        → find.finds_among (named p) (map (type_at p) ks) (text_at p n) (signature_at p q) ≡ search_at p (finds_among p (places_of p ks) n q)
    among_by_number ks h =
        let ms = candidates p (places_of p ks) n q in
        let fs = find.candidates (named p) (map (type_at p) ks) (text_at p n) (signature_at p q) in
        let k = candidates_by_number ks h in
        names_verdict p (lowest p ms) (find.lowest (named p) fs)
        (names_filter p (λ f. f.coded && find.is_lowest (named p) fs f) (λ a. has_code (look.method_at p a) && is_lowest p ms a) (lowest_test ms fs k) ms fs k)

    or_among : (o : Option MethodAt) → ((at : MethodAt) → o ≡ Some at → IsThere p at) → (x : find.Search) (y : Search) → x ≡ search_at p y
        → elim (option_and_then (found_at p) o) as (λ o. find.Search) [ Some f ↦ find.Search.Finds f | None ↦ x ] ≡ search_at p (found_or o y)
    or_among None h x y e = e
    or_among (Some at) h x y e = ap (λ o. elim o as (λ o. find.Search) [ Some f ↦ find.Search.Finds f | None ↦ x ]) (found_there_is p at (h at refl)) ∙ sym (ap finds (found_there_is p at (h at refl)))

    chain_finds : (cs : List ℕ) → elim (first_method is_virtual_method (text_at p n) (signature_at p q) (classes_at p cs)) as (λ o. find.Search)
        [ Some f ↦ find.Search.Finds f | None ↦ find.finds_among (named p) (flat_map (λ c. c.interfaces) (classes_at p cs)) (text_at p n) (signature_at p q) ]
        ≡ search_at p (found_or (first_among (own_virtual p n q) cs) (finds_among p (flat_map (interface_places p) cs) n q))
    chain_finds cs =
        ap (λ o. elim o as (λ o. find.Search) [ Some f ↦ find.Search.Finds f | None ↦ find.finds_among (named p) (flat_map (λ c. c.interfaces) (classes_at p cs)) (text_at p n) (signature_at p q) ])
        (first_by_number p is_virtual_method (text_at p n) (signature_at p q) (own_virtual p n q) (virtual_answers p s n q hn hq) cs)
        ∙ or_among (first_among (own_virtual p n q) cs) (first_there p (own_virtual p n q) (virtual_answers p s n q hn hq).there cs)
        (find.finds_among (named p) (flat_map (λ c. c.interfaces) (classes_at p cs)) (text_at p n) (signature_at p q)) (finds_among p (flat_map (interface_places p) cs) n q)
        (ap (λ ts. find.finds_among (named p) ts (text_at p n) (signature_at p q)) (names_listed p cs)
        ∙ among_by_number (types_listed p cs) (types_fit_listed p s cs)
        ∙ ap (λ ds. search_at p (finds_among p ds n q)) (places_listed p cs))

    -- what a virtual or interface call finds at a receiver of a program class
    pub finds_at_by_number : (r c : ℕ) (t : Text) → r < length p.types → class_place p r ≡ Some c
        → find.finds_at (named p) (type_at p r) (record { class = t; name = text_at p n; signature = signature_at p q }) ≡ search_at p (finds_at p c n q)
    finds_at_by_number r c t hr e =
        ap (λ cs. elim (first_method is_virtual_method (text_at p n) (signature_at p q) cs) as (λ o. find.Search)
        [ Some f ↦ find.Search.Finds f | None ↦ find.finds_among (named p) (flat_map (λ c. c.interfaces) cs) (text_at p n) (signature_at p q) ]) (chain_by_number p s r hr ∙ ap (λ o. classes_at p (chain_of p o)) e)
        ∙ chain_finds (chain_of p (Some c))
