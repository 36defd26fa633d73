-- What look-ups find: a method of the program, by its name and signature, that stands where the call may go.
use Rattle.std.proofs.Common.{◌≡◌, ℕ, zero, suc, Bool, true, false, true≢false, List, [], ◌∷◌, ◌++◌, Option, Some, None, refl, sym, ap, ◌∙◌, subst}
use Rattle.std.specs.Prelude.{◌&&◌, not, length, if◌then◌else◌, Contains, filter}
use Rattle.std.specs.List.{flat_map}
use Rattle.std.specs.Option.{option_or}
use Rattle.dalvik_defs.proofs.Calm.{text_sound}
use Rattle.dalvik_defs.specs.Names.{Text, text_eq, is_common, same_name, signature_eq, texts_eq}
use Rattle.dalvik_defs.specs.Flags.{is_interface, is_virtual}
use Rattle.dalvik_defs.specs.Under.{class_named, defines, is_under}
use Rattle.dalvik_defs.specs.Find.{Found, Search, Nothing, Clash, Finds, chain_from, chain_of, found_in, method_in, passing, first_method, search_of, is_virtual_method, own_candidate, interface_named, candidates_from, without_repeats, candidates, is_lowest, lowest, verdict, finds_among, finds_at, interfaces_from, superclass_of, finds_above, finds_super_037, finds_super, is_037, lists_interface}
use Rattle.dalvik_defs.specs.declared.names.MethodKey.{MethodKey}
use Rattle.dalvik_defs.specs.declared.names.Signature.{Signature}
use Rattle.dalvik_defs.specs.declared.program.NamedMethod.{NamedMethod}
use Rattle.dalvik_defs.specs.declared.program.NamedClass.{NamedClass}
use Rattle.dalvik_defs.specs.declared.program.NamedProgram.{NamedProgram}
use Rattle.dalvik_defs.specs.declared.tables.Framework.{Framework}
use Rattle.pass_defs.specs.Kinds.{is_plain}
use Rattle.run_laws.specs.Holds.{Each}
use Rattle.run_laws.proofs.Settled.{IsFound, FindsRegularly, IsSettled}
use Rattle.run_laws.proofs.Registers.{and_left, and_right}
use Rattle.run_laws.proofs.Climbs.{none_some, some_one, found_in_list, found_passes, class_in, name_of, defined_by, plain_by, chain_up, Up}

same_texts : (xs ys : List Text) → texts_eq xs ys ≡ true → xs ≡ ys
same_texts [] [] e = refl
same_texts [] (y ∷ ys) e = absurd (true≢false (sym e))
same_texts (x ∷ xs) [] e = absurd (true≢false (sym e))
same_texts (x ∷ xs) (y ∷ ys) e = ap (λ u. u ∷ xs) (text_sound x y (and_left (text_eq x y) (texts_eq xs ys) e)) ∙ ap (λ us. y ∷ us) (same_texts xs ys (and_right (text_eq x y) (texts_eq xs ys) e))

same_signature : (s t : Signature) → signature_eq s t ≡ true → s ≡ t
same_signature s t e = ap (λ r. record { parameters = s.parameters; result = r }) (text_sound s.result t.result (and_left (text_eq s.result t.result) (texts_eq s.parameters t.parameters) e))
    ∙ ap (λ ps. record { parameters = ps; result = t.result }) (same_texts s.parameters t.parameters (and_right (text_eq s.result t.result) (texts_eq s.parameters t.parameters) e))

finds_one : (g h : Found) → Finds g ≡ Finds h → g ≡ h
finds_one g h e = ap (λ x. elim x as (λ x. Found) [ Nothing ↦ g | Clash ↦ g | Finds y ↦ y ]) e

nothing_found : {A : Type 0} (g : Found) → Nothing ≡ Finds g → A
nothing_found g e = absurd (true≢false (ap (λ x. elim x as (λ x. Bool) [ Nothing ↦ true | Clash ↦ true | Finds h ↦ false ]) e))

clash_found : {A : Type 0} (g : Found) → Clash ≡ Finds g → A
clash_found g e = absurd (true≢false (ap (λ x. elim x as (λ x. Bool) [ Nothing ↦ true | Clash ↦ true | Finds h ↦ false ]) e))

searched : (y : Option Found) (g : Found) → search_of y ≡ Finds g → y ≡ Some g
searched None g e = nothing_found g e
searched (Some x) g e = ap Some (finds_one x g e)

module _ (p : NamedProgram) (k : MethodKey) where
  -- a method that is in a class
  found_there : (c : NamedClass) (m : NamedMethod) → Contains p.classes c → method_in c k.name k.signature ≡ Some m → IsFound p k (found_in c m)
  found_there c m ci e = let same = found_passes (λ m. same_name m.name m.signature k.name k.signature) c.methods m e in record {
    class = c;
    method = m;
    class_in = ci;
    method_in = found_in_list (λ m. same_name m.name m.signature k.name k.signature) c.methods m e;
    is = refl;
    signature = same_signature m.signature k.signature (and_right (text_eq m.name k.name) (signature_eq m.signature k.signature) same);
    name = text_sound m.name k.name (and_left (text_eq m.name k.name) (signature_eq m.signature k.signature) same);
  }

  -- what stands first along classes
  first_found : (test : NamedMethod → Bool) (P : NamedClass → Type 0) (cs : List NamedClass) (g : Found) → Each P cs → Each (λ c. Contains p.classes c) cs → first_method test k.name k.signature cs ≡ Some g
      → (c : NamedClass) × (P c × ((m : NamedMethod) × ((g ≡ found_in c m) × ((test m ≡ true) × IsFound p k g))))
  first_found test P [] g h i e = none_some g e
  first_found test P (c ∷ cs) g h i e = by (method_in c k.name k.signature) refl e (first_found test P cs g h.1 i.1)
    where
      by : (y : Option NamedMethod) → method_in c k.name k.signature ≡ y → option_or (passing test c y) (first_method test k.name k.signature cs) ≡ Some g
          → (first_method test k.name k.signature cs ≡ Some g → (c : NamedClass) × (P c × ((m : NamedMethod) × ((g ≡ found_in c m) × ((test m ≡ true) × IsFound p k g)))))
          → (c : NamedClass) × (P c × ((m : NamedMethod) × ((g ≡ found_in c m) × ((test m ≡ true) × IsFound p k g))))
      by None j l more = more l
      by (Some m) j l more = one (test m) refl l
        where
          one : (b : Bool) → test m ≡ b → option_or (elim b as (λ b. Option Found) [ true ↦ Some (found_in c m) | false ↦ None ]) (first_method test k.name k.signature cs) ≡ Some g → (c : NamedClass) × (P c × ((m : NamedMethod) × ((g ≡ found_in c m) × ((test m ≡ true) × IsFound p k g))))
          one true q r = let same = some_one (found_in c m) g r in (c, (h.0, (m, (sym same, (q, subst (IsFound p k) same (found_there c m i.0 j))))))
          one false q r = more r

  -- what is first along some is first along more
  first_more : (test : NamedMethod → Bool) (cs ds : List NamedClass) (g : Found) → first_method test k.name k.signature cs ≡ Some g → first_method test k.name k.signature (cs ++ ds) ≡ Some g
  first_more test [] ds g e = none_some g e
  first_more test (c ∷ cs) ds g e = by (passing test c (method_in c k.name k.signature)) e (first_more test cs ds g)
    where
      by : (y : Option Found) → option_or y (first_method test k.name k.signature cs) ≡ Some g → (first_method test k.name k.signature cs ≡ Some g → first_method test k.name k.signature (cs ++ ds) ≡ Some g) → option_or y (first_method test k.name k.signature (cs ++ ds)) ≡ Some g
      by (Some x) i more = i
      by None i more = more i

  -- ---- candidates of interfaces

  abbrev Candidate : Found → Type 0
  Candidate g = IsFound p k g × ((is_virtual g.flags g.key.name ≡ true) × (is_plain p g.key.class ≡ false))

  each_joined : {A : Type 0} (P : A → Type 0) (xs ys : List A) → Each P xs → Each P ys → Each P (xs ++ ys)
  each_joined P [] ys h i = i
  each_joined P (x ∷ xs) ys h i = (h.0, each_joined P xs ys h.1 i)

  each_flat : {A B : Type 0} (P : B → Type 0) (f : A → List B) → ((x : A) → Each P (f x)) → (xs : List A) → Each P (flat_map f xs)
  each_flat P f h [] = tt
  each_flat P f h (x ∷ xs) = each_joined P (f x) (flat_map f xs) (h x) (each_flat P f h xs)

  each_kept : {A : Type 0} (P : A → Type 0) (test : A → Bool) (xs : List A) → Each P xs → Each P (filter test xs)
  each_kept P test [] h = tt
  each_kept P test (x ∷ xs) h = by (test x) (each_kept P test xs h.1)
    where
      by : (b : Bool) → Each P (filter test xs) → Each P (if b then x ∷ filter test xs else filter test xs)
      by true more = (h.0, more)
      by false more = more

  own_each : (t : Text) (c : NamedClass) → class_named p t ≡ Some c → is_interface c.flags ≡ true → Each Candidate (own_candidate k.name k.signature c)
  own_each t c e i = by (method_in c k.name k.signature) refl
    where
      by : (y : Option NamedMethod) → method_in c k.name k.signature ≡ y → Each Candidate (elim (passing is_virtual_method c y) as (λ y. List Found) [ Some f ↦ f ∷ [] | None ↦ [] ])
      by None j = tt
      by (Some m) j = one (is_virtual_method m) refl
        where
          one : (b : Bool) → is_virtual_method m ≡ b → Each Candidate (elim (elim b as (λ b. Option Found) [ true ↦ Some (found_in c m) | false ↦ None ]) as (λ y. List Found) [ Some f ↦ f ∷ [] | None ↦ [] ])
          one true q = ((found_there c m (class_in p t c e) j, (q, subst (λ u. is_plain p u ≡ false) (sym (name_of p t c e)) (plain_by p t (Some c) e ∙ ap not i))), tt)
          one false q = tt

  from_each : (n : ℕ) (ts : List Text) → Each Candidate (candidates_from n p k.name k.signature ts)
  from_each zero ts = tt
  from_each (suc n) ts = each_flat Candidate (λ t. elim (interface_named p t) [ Some c ↦ own_candidate k.name k.signature c ++ candidates_from n p k.name k.signature c.interfaces | None ↦ [] ]) (λ t. by t (class_named p t) refl (λ us. from_each n us)) ts
    where
      by : (t : Text) (y : Option NamedClass) → class_named p t ≡ y → ((us : List Text) → Each Candidate (candidates_from n p k.name k.signature us))
          → Each Candidate (elim (elim y as (λ y. Option NamedClass) [ Some c ↦ elim (is_interface c.flags) as (λ b. Option NamedClass) [ true ↦ Some c | false ↦ None ] | None ↦ None ]) as (λ y. List Found) [ Some c ↦ own_candidate k.name k.signature c ++ candidates_from n p k.name k.signature c.interfaces | None ↦ [] ])
      by t None i more = tt
      by t (Some c) i more = one (is_interface c.flags) refl
        where
          one : (b : Bool) → is_interface c.flags ≡ b → Each Candidate (elim (elim b as (λ b. Option NamedClass) [ true ↦ Some c | false ↦ None ]) as (λ y. List Found) [ Some c ↦ own_candidate k.name k.signature c ++ candidates_from n p k.name k.signature c.interfaces | None ↦ [] ])
          one true q = each_joined Candidate (own_candidate k.name k.signature c) (candidates_from n p k.name k.signature c.interfaces) (own_each t c i q) (more c.interfaces)
          one false q = tt

  once_each : (xs : List Found) → Each Candidate xs → Each Candidate (without_repeats xs)
  once_each [] h = tt
  once_each (x ∷ xs) h = (h.0, each_kept Candidate (λ g. not (text_eq g.key.class x.key.class)) (without_repeats xs) (once_each xs h.1))

  among_found : (ts : List Text) (g : Found) → finds_among p ts k.name k.signature ≡ Finds g → Candidate g
  among_found ts g e = by (lowest p (candidates p ts k.name k.signature)) (each_kept Candidate (λ f. f.coded && is_lowest p (candidates p ts k.name k.signature) f) (candidates p ts k.name k.signature) (all (is_037 p.version && not (is_common k.name k.signature)))) e
    where
      all : (b : Bool) → Each Candidate (elim b as (λ b. List Found) [ true ↦ without_repeats (candidates_from (length p.classes) p k.name k.signature ts) | false ↦ [] ])
      all true = once_each (candidates_from (length p.classes) p k.name k.signature ts) (from_each (length p.classes) ts)
      all false = tt

      by : (xs : List Found) → Each Candidate xs → verdict xs ≡ Finds g → Candidate g
      by [] h i = nothing_found g i
      by (x ∷ []) h i = subst Candidate (finds_one x g i) h.0
      by (x ∷ y ∷ xs) h i = clash_found g i

module _ (p : NamedProgram) (f : Framework) (reg : IsSettled p) where
  each_with : {A : Type 0} (P Q : A → Type 0) → ((x : A) → P x → Q x) → (xs : List A) → Each P xs → Each Q xs
  each_with P Q to [] h = tt
  each_with P Q to (x ∷ xs) h = (to x h.0, each_with P Q to xs h.1)

  chain_in : (t : Text) → Each (λ c. Contains p.classes c) (chain_of p t)
  chain_in t = each_with (λ d. Up p f reg t d.name × (class_named p d.name ≡ Some d)) (λ c. Contains p.classes c) (λ d h. class_in p d.name d h.1) (chain_of p t) (chain_up p f reg (length p.classes) t)

  chain_first : (k : MethodKey) (test : NamedMethod → Bool) (t : Text) (g : Found) → first_method test k.name k.signature (chain_of p t) ≡ Some g → IsFound p k g × ((m : NamedMethod) × ((g.flags ≡ m.flags) × ((g.key.name ≡ m.name) × ((test m ≡ true) × Up p f reg t g.key.class))))
  chain_first k test t g e = let x = first_found p k test (λ d. Up p f reg t d.name × (class_named p d.name ≡ Some d)) (chain_of p t) g (chain_up p f reg (length p.classes) t) (chain_in t) e in
      (x.1.1.1.1.1, (x.1.1.0, (ap (λ g. g.flags) x.1.1.1.0, (ap (λ g. g.key.name) x.1.1.1.0, (x.1.1.1.1.0, subst (λ u. Up p f reg t u) (sym (ap (λ g. g.key.class) x.1.1.1.0)) x.1.0.0)))))

  chain_defined : (k : MethodKey) (test : NamedMethod → Bool) (t : Text) (g : Found) → first_method test k.name k.signature (chain_of p t) ≡ Some g → defines p t ≡ true
  chain_defined k test t g e = by (class_named p t) refl
    where
      empty : (n : ℕ) → class_named p t ≡ None → chain_from n p t ≡ []
      empty zero i = refl
      empty (suc n) i = ap (λ o. elim o as (λ o. List NamedClass) [ Some c ↦ c ∷ chain_from n p c.superclass | None ↦ [] ]) i

      by : (y : Option NamedClass) → class_named p t ≡ y → defines p t ≡ true
      by (Some c) i = defined_by p t (Some c) i
      by None i = none_some g (sym (ap (first_method test k.name k.signature) (empty (length p.classes) i)) ∙ e)

  super_found : (t : Text) (k : MethodKey) (g : Found) → finds_super p t k ≡ Finds g → IsFound p k g
  super_found t k g e = by (is_037 p.version) e
    where
      above : finds_above p t k ≡ Finds g → IsFound p k g
      above i = (chain_first k (λ m. true) (superclass_of p t) g (searched (first_method (λ m. true) k.name k.signature (chain_of p (superclass_of p t))) g i)).0

      named : (y : Option NamedClass) → finds_super_037 p t k y ≡ Finds g → IsFound p k g
      named (Some c) i = one (is_interface c.flags) i
        where
          one : (b : Bool) → (elim b as (λ b. Search) [ true ↦ finds_among p (c.name ∷ []) k.name k.signature | false ↦ finds_above p t k ]) ≡ Finds g → IsFound p k g
          one true j = (among_found p k (c.name ∷ []) g j).0
          one false j = above j
      named None i = one (lists_interface p t k.class) i
        where
          one : (b : Bool) → (elim b as (λ b. Search) [ true ↦ Nothing | false ↦ finds_above p t k ]) ≡ Finds g → IsFound p k g
          one true j = nothing_found g j
          one false j = above j

      by : (b : Bool) → (elim b as (λ b. Search) [ true ↦ finds_super_037 p t k (class_named p k.class) | false ↦ finds_above p t k ]) ≡ Finds g → IsFound p k g
      by true i = named (class_named p k.class) i
      by false i = above i

  virtually_found : (t : Text) (k : MethodKey) (g : Found) → finds_at p t k ≡ Finds g → IsFound p k g × ((is_virtual g.flags g.key.name ≡ true) × ((z : Text) → is_plain p g.key.class ≡ true → is_under p f z t ≡ true → is_under p f z g.key.class ≡ true))
  virtually_found t k g e = by (first_method is_virtual_method k.name k.signature (chain_of p t)) refl e
    where
      by : (y : Option Found) → first_method is_virtual_method k.name k.signature (chain_of p t) ≡ y → (elim y as (λ y. Search) [ Some f ↦ Finds f | None ↦ finds_among p (flat_map (λ c. c.interfaces) (chain_of p t)) k.name k.signature ]) ≡ Finds g
          → IsFound p k g × ((is_virtual g.flags g.key.name ≡ true) × ((z : Text) → is_plain p g.key.class ≡ true → is_under p f z t ≡ true → is_under p f z g.key.class ≡ true))
      by (Some x) i j = let y = chain_first k is_virtual_method t g (i ∙ ap Some (finds_one x g j)) in
          (y.0, (subst (λ n. is_virtual g.flags n ≡ true) (sym y.1.1.1.0) (subst (λ n. is_virtual n y.1.0.name ≡ true) (sym y.1.1.0) y.1.1.1.1.0), λ z pl u. y.1.1.1.1.1 z u))
      by None i j = let y = among_found p k (flat_map (λ c. c.interfaces) (chain_of p t)) g j in (y.0, (y.1.0, λ z pl u. absurd (true≢false (sym pl ∙ y.1.1))))

  pub finds_regularly : FindsRegularly p f
  finds_regularly = record {
    statically = λ k g e. let y = chain_first k (λ m. true) k.class g (searched (first_method (λ m. true) k.name k.signature (chain_of p k.class)) g e) in (y.0, y.1.1.1.1.1);
    resolved = λ k g e. let i = searched (first_method (λ m. true) k.name k.signature (chain_of p k.class)) g e in
        (first_more p k (λ m. true) (chain_of p k.class) (interfaces_from (length p.classes) p (flat_map (λ c. c.interfaces) (chain_of p k.class))) g i, chain_defined k (λ m. true) k.class g i);
    super = super_found;
    virtually = virtually_found;
  }
