-- What stands above a marked class, what runs when it is initialised, and what its annotations name.
use Rattle.std.proofs.Common.{◌≡◌, ℕ, ◌<◌, Bool, true, false, [], ◌∷◌, ◌++◌, length, Option, Some, None, refl, sym, ap, ◌∙◌, subst}
use Rattle.std.specs.Prelude.{◌&&◌, cond, is_some, not, slice_get, position, option_and_then, codes, flat_map}
use Rattle.std.specs.Option.{option_map}
use Rattle.lemmas.proofs.Options.{none_some, some_same}
use Rattle.program_model.specs.declared.pools.MethodName.{MethodName}
use Rattle.program_model.specs.declared.program.Method.{Method}
use Rattle.program_model.specs.declared.program.Class.{Class}
use Rattle.program_model.specs.declared.program.Program.{Program}
use Rattle.program_model.specs.declared.pass.Outside.{Outside}
use Rattle.program_model.specs.Lookups.{class_place}
use Rattle.program_model.specs.MemberRules.{has_flag, is_direct}
use Rattle.class_defs.specs.Starts.{names_initialiser, is_initialiser, runs, running, initialiser_of, initialiser_place}
use Rattle.class_defs.specs.Finding.{is_037}
use Rattle.class_defs.proofs.Positions.{PlaceFits, both, place_entry}
use Rattle.call_graph.specs.Bases.{bases_of}
use Rattle.call_graph.specs.declared.facts.Fact.TheVariants as fact
use Rattle.call_graph.specs.declared.live_set.LiveSet.{LiveSet}
use Rattle.call_graph.specs.Names.{marks_names}
use Rattle.call_graph.specs.Follows.{kind_facts, found_facts, coded, defaults_of, starts_of, start_facts, above_facts, class_facts_of, class_facts_at, all_named}
use Rattle.dalvik_defs.specs.Names.{Text, same_name, base_of, is_class_type, void, initialiser_name}
use Rattle.dalvik_defs.specs.Naming.{text_at, type_at, signature_at, named_class, named_method, named}
use Rattle.dalvik_defs.specs.Under.{class_named, defines}
use Rattle.dalvik_defs.specs.Find as find
use Rattle.dalvik_defs.specs.Flags as remainder
use Rattle.dalvik_defs.specs.Initialised.{initialiser_key, initialiser_in}
use Rattle.dalvik_defs.specs.Silence.{key_in}
use Rattle.dalvik_defs.specs.declared.names.MethodKey.{MethodKey}
use Rattle.dalvik_defs.specs.declared.program.NamedMethod.{NamedMethod}
use Rattle.dalvik_defs.specs.declared.program.NamedClass.{NamedClass}
use Rattle.pass_defs.specs.Live.{KeepsAbove}
use Rattle.name_bridge.specs.Named.{class_at}
use Rattle.name_bridge.proofs.Classes.{class_by_number}
use Rattle.name_bridge.proofs.Flags.{interface_flag}
use Rattle.name_bridge.proofs.Found.{IsThere, found_there_is, virtual_test}
use Rattle.name_bridge.proofs.Candidates.{named_test, version_test, coded_test}
use Rattle.name_bridge.proofs.Started.{initialiser_by_number}
use Rattle.removal_law.proofs.Lists.{In, here, there, clash}
use Rattle.removal_law.proofs.Outward.{no_bracket}
use Rattle.removal_law.proofs.Members.{key_sound}
use Rattle.removal_bridge.proofs.Formed.{method_of, key_of, entry_below}
use Rattle.reach_bridge.specs.Names.{family_of}
use Rattle.reach.specs.Marked.{IsMarked}
use Rattle.reach_bridge.proofs.Held.{stands, of_image, placed_at, ByNumber, class_number, method_met}
use Rattle.reach_bridge.proofs.Based.{Met, Held, S, regular, kind_held}
use Rattle.reach_bridge.proofs.Mentioned.{met_front, met_back, met_one, place_held}
use Rattle.reach_bridge.proofs.Coded.{class_facts_met}

-- the class of a type of a number
pub record OwnClass (p : Program) (k : ℕ) (c : NamedClass) : Type 0 where
  pub place : ℕ
  pub is_place : class_place p k ≡ Some place
  pub class : Class
  pub is_class : slice_get p.classes place ≡ Some class
  pub is : named_class p class ≡ c

initialiser_test : (p : Program) (m : Method) → same_name (named_method p m).name (named_method p m).signature initialiser_name void ≡ is_initialiser p m
initialiser_test p m = by_entry (slice_get p.methods m.name)
  where
    by_entry : (o : Option MethodName) → same_name (elim o as (λ o. MethodKey) [ Some m ↦ record { class = type_at p m.class; name = text_at p m.name; signature = signature_at p m.proto } | None ↦ record { class = []; name = []; signature = record { parameters = []; result = [] } } ]).name
        (elim o as (λ o. MethodKey) [ Some m ↦ record { class = type_at p m.class; name = text_at p m.name; signature = signature_at p m.proto } | None ↦ record { class = []; name = []; signature = record { parameters = []; result = [] } } ]).signature initialiser_name void
        ≡ names_initialiser p o
    by_entry None = refl
    by_entry (Some q) = named_test p q.name q.proto (codes "<clinit>") [] 86 []

-- the place of an initialiser has a method of that name
starts_at : (p : Program) (k : Class) (i : ℕ) → initialiser_of p (Some k) ≡ Some i → PlaceFits (is_initialiser p) k.methods i
starts_at p k i e = by (position (is_initialiser p) k.methods) refl e
  where
    by_test : (j : ℕ) (b : Bool) → position (is_initialiser p) k.methods ≡ Some j → cond b (Some j) None ≡ Some i → PlaceFits (is_initialiser p) k.methods i
    by_test j true h e = subst (PlaceFits (is_initialiser p) k.methods) (some_same j i e) (place_entry (is_initialiser p) k.methods j h)
    by_test j false h e = none_some i e

    by : (x : Option ℕ) → position (is_initialiser p) k.methods ≡ x → running k.methods x ≡ Some i → PlaceFits (is_initialiser p) k.methods i
    by None h e = none_some i e
    by (Some j) h e = by_test j (runs (slice_get k.methods j)) h e

module _ (p : Program) (o : Outside) (s : LiveSet) (g : IsMarked p o s) where
  pub own_class : (k : ℕ) → k < length p.types → (c : NamedClass) → class_named (named p) (type_at p k) ≡ Some c → OwnClass p k c
  own_class k lt c e = by (class_place p k) refl (sym (class_by_number p (S p o s g) k lt) ∙ e)
    where
      by_class : (i : ℕ) (x : Option Class) → class_place p k ≡ Some i → slice_get p.classes i ≡ x → option_map (named_class p) x ≡ Some c → OwnClass p k c
      by_class i None at is e = none_some c e
      by_class i (Some d) at is e = record { place = i; is_place = at; class = d; is_class = is; is = some_same (named_class p d) c e }

      by : (x : Option ℕ) → class_place p k ≡ x → option_and_then (class_at p) x ≡ Some c → OwnClass p k c
      by None at e = none_some c e
      by (Some i) at e = by_class i (slice_get p.classes i) at refl e

  -- the base of a class type is itself
  pub base_defined : (t : Text) → defines (named p) t ≡ true → base_of t ≡ t
  base_defined t d = by t ((regular p o s g).names t d)
    where
      by : (t : Text) → is_class_type t ≡ true → base_of t ≡ t
      by [] e = refl
      by (x ∷ us) e = ap (λ b. elim b as (λ b. Text) [ true ↦ base_of us | false ↦ x ∷ us ]) (no_bracket x e)

  pub class_held : (t : Text) → Held p s t → defines (named p) t ≡ true → (family_of p s).classes t ≡ true
  class_held t held d = let e = base_defined t d in ap (family_of p s).classes (sym e) ∙ held (ap (defines (named p)) e ∙ d)

  module _ (t : Text) (c : NamedClass) (is : class_named (named p) t ≡ Some c) (live : (family_of p s).classes t ≡ true) where
    pub number : ByNumber s.classes.items (length p.types) (type_at p) t
    number = class_number p s t live

    pub own : OwnClass p number.number c
    own = own_class number.number number.short c (ap (class_named (named p)) number.is ∙ is)

    facts_met : Met s (class_facts_of p (bases_of p) own.place (Some own.class))
    facts_met = subst (Met s) (ap (class_facts_at p (bases_of p)) own.is_place ∙ ap (class_facts_of p (bases_of p) own.place) own.is_class) (class_facts_met p o s g number.number number.marked)

    above_met : Met s (above_facts (bases_of p) own.class)
    above_met = met_front p o s g (above_facts (bases_of p) own.class) (start_facts p own.class own.place ++ all_named p (bases_of p) (marks_names own.class.marks)) facts_met

    rest_met : Met s (start_facts p own.class own.place ++ all_named p (bases_of p) (marks_names own.class.marks))
    rest_met = met_back p o s g (above_facts (bases_of p) own.class) (start_facts p own.class own.place ++ all_named p (bases_of p) (marks_names own.class.marks)) facts_met

    start_met : Met s (start_facts p own.class own.place)
    start_met = met_front p o s g (start_facts p own.class own.place) (all_named p (bases_of p) (marks_names own.class.marks)) rest_met

    pub marks_met : Met s (all_named p (bases_of p) (marks_names own.class.marks))
    marks_met = met_back p o s g (start_facts p own.class own.place) (all_named p (bases_of p) (marks_names own.class.marks)) rest_met

    above_one : (n : ℕ) → In n (own.class.superclass ∷ own.class.interfaces) → Held p s (type_at p n)
    above_one n i = by n own.class.superclass i refl
      where
        by : (n m : ℕ) → In n (m ∷ own.class.interfaces) → m ≡ own.class.superclass → Held p s (type_at p n)
        by n m (here ns) e = subst (λ z. Held p s (type_at p z)) (sym e) (kind_held p o s g own.class.superclass (met_front p o s g (kind_facts (bases_of p) own.class.superclass) (flat_map (kind_facts (bases_of p)) own.class.interfaces) above_met))
        by n m (there z ns j) e = kind_held p o s g n (met_one p o s g (kind_facts (bases_of p)) own.class.interfaces n (met_back p o s g (kind_facts (bases_of p) own.class.superclass) (flat_map (kind_facts (bases_of p)) own.class.interfaces) above_met) j)

    above_held : (u : Text) → In u (c.superclass ∷ c.interfaces) → Held p s u
    above_held u i =
        let r = of_image (type_at p) u (own.class.superclass ∷ own.class.interfaces) (subst (λ z. In u (z.superclass ∷ z.interfaces)) (sym own.is) i) in
        subst (Held p s) r.1.1 (above_one r.0 r.1.0)

    pub above_live : (u : Text) → In u (c.superclass ∷ c.interfaces) → defines (named p) u ≡ true → (family_of p s).classes u ≡ true
    above_live u i d = class_held u (above_held u i) d

    start_at : (i : ℕ) (k : MethodKey) → initialiser_of p (Some own.class) ≡ Some i → initialiser_key (type_at p own.class.name) ≡ k → (family_of p s).methods k ≡ true
    start_at i k e same =
        let r = starts_at p own.class i e in
        let place : initialiser_place p own.place ≡ Some i = ap (initialiser_of p) own.is_class ∙ e in
        let is_there : IsThere p (record { class = own.place; place = i }) = record { class = own.class; is_class = own.is_class; method = r.entry; is_method = r.is } in
        let key = key_sound (named_class p own.class) (named_method p r.entry) initialiser_name void (initialiser_test p r.entry ∙ r.passes) in
        ap (family_of p s).methods (sym (key ∙ same))
        ∙ place_held p o s g (record { class = own.place; place = i }) (find.found_in (named_class p own.class) (named_method p r.entry)) (found_there_is p (record { class = own.place; place = i }) is_there)
        (met_front p o s g (found_facts p (Some (record { class = own.place; place = i }))) (defaults_of p own.class) (subst (Met s) (ap (starts_of p own.class own.place) place) start_met))

    pub start_live : (k : MethodKey) → initialiser_in c ≡ Some k → (family_of p s).methods k ≡ true
    start_live k e = by (initialiser_of p (Some own.class)) refl (sym (initialiser_by_number p own.class) ∙ ap initialiser_in own.is ∙ e)
      where
        by : (x : Option ℕ) → initialiser_of p (Some own.class) ≡ x → option_map (λ i. initialiser_key (type_at p own.class.name)) x ≡ Some k → (family_of p s).methods k ≡ true
        by None i h = none_some k h
        by (Some i) h same = start_at i k h (some_same (initialiser_key (type_at p own.class.name)) k same)

    -- ---- the methods with code of an interface that has an initialiser

    flag_is : remainder.is_interface c.flags ≡ true → has_flag own.class.flags 512 ≡ true
    flag_is e = interface_flag own.class.flags ∙ ap (λ z. remainder.is_interface z.flags) own.is ∙ e

    defaults_met : is_037 p.version ≡ true → remainder.is_interface c.flags ≡ true → is_some (initialiser_in c) ≡ true → Met s (flat_map (coded p) own.class.methods)
    defaults_met new flag starts = by (initialiser_of p (Some own.class)) refl (ap is_some (sym (initialiser_by_number p own.class) ∙ ap initialiser_in own.is) ∙ starts)
      where
        at : (i : ℕ) → initialiser_place p own.place ≡ Some i → Met s (flat_map (coded p) own.class.methods)
        at i e = subst (Met s) (ap (λ b. cond b (flat_map (coded p) own.class.methods) []) (both (is_037 p.version) (has_flag own.class.flags 512) new (flag_is flag)))
            (met_back p o s g (found_facts p (Some (record { class = own.place; place = i }))) (defaults_of p own.class) (subst (Met s) (ap (starts_of p own.class own.place) e) start_met))

        by : (x : Option ℕ) → initialiser_of p (Some own.class) ≡ x → is_some (option_map (λ i. initialiser_key (type_at p own.class.name)) x) ≡ true → Met s (flat_map (coded p) own.class.methods)
        by None e h = clash false h refl
        by (Some i) e h = at i (ap (initialiser_of p) own.is_class ∙ e)

    -- a virtual method with code by name is one by number
    coded_is : (x : Method) (m : NamedMethod) → named_method p x ≡ m → (find.is_virtual_method m && is_some m.body) ≡ true → (not (is_direct p x) && is_some x.body) ≡ true
    coded_is x m same h = ap (λ b. b && is_some x.body) (sym (virtual_test p x)) ∙ ap (λ b. find.is_virtual_method (named_method p x) && b) (sym (coded_test p x.body)) ∙ ap (λ z. find.is_virtual_method z && is_some z.body) same ∙ h

    pub default_live : (m : NamedMethod) → is_037 p.version ≡ true → remainder.is_interface c.flags ≡ true → is_some (initialiser_in c) ≡ true → In m c.methods → (find.is_virtual_method m && is_some m.body) ≡ true → (family_of p s).methods (key_in c m) ≡ true
    default_live m new flag starts i h =
        let r = of_image (named_method p) m own.class.methods (subst (λ z. In m z.methods) (sym own.is) i) in
        let x = r.0 in
        let at = placed_at own.class.methods x r.1.0 in
        let w = method_of p g.formed own.class own.place at.0 x own.is_class at.1 in
        let key = key_of p g.formed own.class own.place at.0 x own.is_class at.1 ∙ ap (λ z. key_in z (named_method p x)) own.is ∙ ap (key_in c) r.1.1 in
        let facts : coded p x ≡ fact.Method x.name ∷ [] = ap (λ b. cond b (fact.Method x.name ∷ []) []) (coded_is x m r.1.1 h) in
        ap (family_of p s).methods (sym key) ∙ method_met p s g.sized x.name (entry_below p g.formed x.name w.entry w.is)
        (met_one p o s g (coded p) own.class.methods x (defaults_met new flag starts) r.1.0 (fact.Method x.name) (subst (In (fact.Method x.name)) (sym facts) (here [])))

  pub keeps_above : KeepsAbove (named p) (family_of p s)
  keeps_above = record {
    above = λ t c is live u i d. above_live t c is live u (stands (c.superclass ∷ c.interfaces) u i) d;
    initialisers = λ t k live e. by t k live (class_named (named p) t) refl e;
    defaults = λ t c m new is live flag starts i h. default_live t c is live m (sym (version_test p.version) ∙ new) flag (sym (ap (λ x. is_some (elim x as (λ x. Option MethodKey) [ Some c ↦ initialiser_in c | None ↦ None ])) is) ∙ starts) (stands c.methods m i) h;
  }
    where
      by : (t : Text) (k : MethodKey) → (family_of p s).classes t ≡ true → (x : Option NamedClass) → class_named (named p) t ≡ x → elim x as (λ x. Option MethodKey) [ Some c ↦ initialiser_in c | None ↦ None ] ≡ Some k → (family_of p s).methods k ≡ true
      by t k live None is e = none_some k e
      by t k live (Some c) is e = start_live t c is live k e
