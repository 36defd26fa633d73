-- A virtual method that nothing but calls of its class reaches by number is apart by name.
use Rattle.std.proofs.Common.{◌≡◌, ◌⊎◌, inl, inr, ℕ, zero, suc, ◌<◌, Bool, true, false, nat_eq, List, [], ◌∷◌, length, map, Option, Some, None, refl, sym, ap, ◌∙◌, subst}
use Rattle.std.specs.Prelude.{◌&&◌, ◌||◌, not, filter, is_some, slice_get}
use Rattle.std.specs.List.{list_any}
use Rattle.std.specs.Option.{option_and_then, option_map}
use Rattle.lemmas.proofs.Bools.{and_left, and_right, and_both, clash, not_of_false, not_true, or_cases, untrue}
use Rattle.lemmas.proofs.Options.{some_same}
use Rattle.program_model.specs.Lookups.{class_place}
use Rattle.program_model.specs.MemberRules.{is_direct, is_object}
use Rattle.program_model.specs.ProgramRules.{is_well_formed}
use Rattle.program_model.specs.Texts.{type_text}
use Rattle.program_model.specs.declared.pools.MethodName.{MethodName}
use Rattle.program_model.specs.declared.program.Class.{Class}
use Rattle.program_model.specs.declared.program.Program.{Program}
use Rattle.class_defs.specs.ClassGraph.{IsAncestor, IsTwice}
use Rattle.class_defs.specs.Members.{is_common, own_virtual}
use Rattle.class_defs.specs.Places.{is_under}
use Rattle.class_defs.proofs.Positions.{number_of}
use Rattle.class_defs.proofs.WellFormed.{Sound, sound}
use Rattle.program_model.specs.declared.program.MethodAt.{MethodAt}
use Rattle.dalvik_defs.specs.Find.{Found, found_in, is_virtual_method, method_in, passing}
use Rattle.dalvik_defs.specs.Names as spelled
use Rattle.dalvik_defs.specs.Names.{Text, object_type, text_eq}
use Rattle.dalvik_defs.specs.Naming.{method_at, named, named_class, named_method, signature_at, text_at, type_at}
use Rattle.dalvik_defs.specs.Under as name
use Rattle.dalvik_defs.specs.Under.{class_named, defines, is_own_under, reaches_framework, touches_framework}
use Rattle.dalvik_defs.specs.declared.names.MethodKey.{MethodKey}
use Rattle.dalvik_defs.specs.declared.program.NamedClass.{NamedClass}
use Rattle.dalvik_defs.specs.declared.program.NamedMethod.{NamedMethod}
use Rattle.name_bridge.specs.Named.{class_at, found_at}
use Rattle.name_bridge.proofs.Above.{Defined, defined}
use Rattle.name_bridge.proofs.Candidates.{common_test}
use Rattle.name_bridge.proofs.Classes.{class_by_number}
use Rattle.name_bridge.proofs.Found.{in_class, type_same, virtual_answers, virtual_test}
use Rattle.name_bridge.proofs.Tables.{method_is, method_name, method_proto}
use Rattle.pass_defs.specs.Loose as loose
use Rattle.removal_law.proofs.Finds.{in_filter, in_unfiltered, into_filter}
use Rattle.removal_law.proofs.Lists.{In, contained}
use Rattle.removal_law.proofs.Outward.{any_here, any_where}
use Rattle.removal_law.proofs.Walks.{text_same}
use Rattle.removal_bridge.proofs.Listed.{Image, image}
use Rattle.removal_bridge.proofs.Members.{class_known}
use Rattle.static_law.specs.Static.{IsApart}
use Rattle.loose_methods.specs.Loose.{classes_under, has_outward, has_rival, is_alone, is_in_interface, is_outer, is_outward, is_rival, lists_outer, places}
use Rattle.static_kept.proofs.MadeStatic.{IsMethod}
use Rattle.static_kept.proofs.Own.{four}
use Rattle.static_kept.proofs.Walks.{OfTypes, above_named, above_short, in_places, itself_under, of_types, under_named, under_on}

module _ (p : Program) (w : is_well_formed p ≡ true) (once : (class : ℕ) → IsTwice p class → ⊥) (ancestor : (class : ℕ) → IsAncestor p class class → ⊥) where
  s : Sound p
  s = sound p w

  -- ---- ancestors of the framework

  module _ (low : ℕ) (start : Class) (is_start : slice_get p.classes low ≡ Some start) where
    outward_at : (j : ℕ) (d : Class) → slice_get p.classes j ≡ Some d → is_own_under (named p) (type_at p start.name) (type_at p d.name) ≡ true → lists_outer p (Some d) ≡ true → is_outward p low ≡ true
    outward_at j d e u h = any_here (λ e. is_under p low e && lists_outer p (slice_get p.classes e)) j (places p) (in_places p j d e)
        (and_both (is_under p low j) (lists_outer p (slice_get p.classes j)) (sym (under_named p w once ancestor low j start d is_start e) ∙ u) (ap (lists_outer p) e ∙ h))

    outer_named : (k : ℕ) → k < length p.types → (not (defines (named p) (type_at p k)) && not (text_eq (type_at p k) object_type)) ≡ true → is_outer p k ≡ true
    outer_named k short h = and_both (not (is_some (class_place p k))) (not (is_object (type_text p k))) (by (class_place p k) refl)
        (sym (ap (λ t. not (text_eq t object_type)) (type_same p k)) ∙ and_right (not (defines (named p) (type_at p k))) (not (text_eq (type_at p k) object_type)) h)
      where
        by : (o : Option ℕ) → class_place p k ≡ o → not (is_some (class_place p k)) ≡ true
        by None e = ap (λ o. not (is_some o)) e
        by (Some c) e = let x : Defined p k c = defined p k c e in
            clash (defines (named p) (type_at p k))
            (ap (λ o. elim o as (λ o. Bool) [ Some c ↦ true | None ↦ false ]) (ap (λ z. class_named (named p) (type_at p z)) (sym x.named) ∙ class_known p s once c x.class x.is))
            (not_true (defines (named p) (type_at p k)) (and_left (not (defines (named p) (type_at p k))) (not (text_eq (type_at p k) object_type)) h))

    touches_outer : (j : ℕ) (d : Class) → slice_get p.classes j ≡ Some d → touches_framework (named p) (named_class p d) ≡ true → lists_outer p (Some d) ≡ true
    touches_outer j d e h =
        let x = any_where (λ t. not (defines (named p) t) && not (text_eq t object_type)) (map (type_at p) (d.superclass ∷ d.interfaces)) h in
        let v : OfTypes p w once ancestor (d.superclass ∷ d.interfaces) x.0 = of_types p w once ancestor (d.superclass ∷ d.interfaces) x.0 x.1.0 in
        any_here (is_outer p) v.kind (d.superclass ∷ d.interfaces) v.is_in
        (outer_named v.kind (above_short p w once ancestor j d v.kind e v.is_in) (subst (λ t. (not (defines (named p) t) && not (text_eq t object_type)) ≡ true) (sym v.is) x.1.1))

    abbrev reaching : ℕ → Option NamedClass → Bool
    reaching n o = elim o as (λ o. Bool) [ Some c ↦ touches_framework (named p) c || list_any (reaches_framework n (named p)) (c.superclass ∷ c.interfaces) | None ↦ false ]

    reaches_outer : (n j : ℕ) (d : Class) → slice_get p.classes j ≡ Some d → is_own_under (named p) (type_at p start.name) (type_at p d.name) ≡ true → reaches_framework n (named p) (type_at p d.name) ≡ true → is_outward p low ≡ true
    reaches_outer zero j d e u h = clash false h refl
    reaches_outer (suc n) j d e u h =
        by (or_cases (touches_framework (named p) (named_class p d)) (list_any (reaches_framework n (named p)) (map (type_at p) (d.superclass ∷ d.interfaces))) (sym (ap (reaching n) (class_known p s once j d e)) ∙ h))
        (λ i c f v a. reaches_outer n i c f v a)
      where
        by : (touches_framework (named p) (named_class p d) ≡ true) ⊎ (list_any (reaches_framework n (named p)) (map (type_at p) (d.superclass ∷ d.interfaces)) ≡ true)
            → ((i : ℕ) (c : Class) → slice_get p.classes i ≡ Some c → is_own_under (named p) (type_at p start.name) (type_at p c.name) ≡ true → reaches_framework n (named p) (type_at p c.name) ≡ true → is_outward p low ≡ true)
            → is_outward p low ≡ true
        by (inl a) more = outward_at j d e u (touches_outer j d e a)
        by (inr a) more = next (class_place p v.kind) refl
          where
            x : (t : Text) × (In t (map (type_at p) (d.superclass ∷ d.interfaces)) × (reaches_framework n (named p) t ≡ true))
            x = any_where (reaches_framework n (named p)) (map (type_at p) (d.superclass ∷ d.interfaces)) a

            v : OfTypes p w once ancestor (d.superclass ∷ d.interfaces) x.0
            v = of_types p w once ancestor (d.superclass ∷ d.interfaces) x.0 x.1.0

            short : v.kind < length p.types
            short = above_short p w once ancestor j d v.kind e v.is_in

            goes : reaches_framework n (named p) (type_at p v.kind) ≡ true
            goes = subst (λ t. reaches_framework n (named p) t ≡ true) (sym v.is) x.1.1

            on : is_own_under (named p) (type_at p start.name) (type_at p v.kind) ≡ true
            on = under_on p w once ancestor (type_at p start.name) (type_at p d.name) (type_at p v.kind) u
                (subst (In (type_at p v.kind)) (sym (above_named p w once ancestor j d e)) (subst (λ t. In t (map (type_at p) (d.superclass ∷ d.interfaces))) (sym v.is) x.1.0))

            none : class_named (named p) (type_at p v.kind) ≡ None → (m : ℕ) → reaches_framework m (named p) (type_at p v.kind) ≡ true → is_outward p low ≡ true
            none g zero a = clash false a refl
            none g (suc m) a = clash false (sym (ap (reaching m) g) ∙ a) refl

            next : (o : Option ℕ) → class_place p v.kind ≡ o → is_outward p low ≡ true
            next (Some i) g = let c : Defined p v.kind i = defined p v.kind i g in
                more i c.class c.is (subst (λ k. is_own_under (named p) (type_at p start.name) (type_at p k) ≡ true) (sym c.named) on)
                (subst (λ k. reaches_framework n (named p) (type_at p k) ≡ true) (sym c.named) goes)
            next None g = none (class_by_number p s v.kind short ∙ ap (option_and_then (class_at p)) g) n goes

    pub outward_number : name.is_outward (named p) (type_at p start.name) ≡ true → is_outward p low ≡ true
    outward_number h = reaches_outer (length (named p).classes) low start is_start (under_named p w once ancestor low low start start is_start is_start ∙ itself_under p low) h

  -- ---- one method

  module _ (n : ℕ) (m : IsMethod p n) (own : (method_at p n).class ≡ type_at p m.class.name) (alone : is_alone p m.entry m.place ≡ true) where
    abbrev k : MethodKey
    k = method_at p n

    abbrev q : MethodName
    q = m.entry

    key_is : k ≡ record { class = type_at p q.class; name = text_at p q.name; signature = signature_at p q.proto }
    key_is = method_is p s n q m.is_entry

    abbrev parts : (not (has_rival p q m.place) ≡ true) × ((not (is_common p q.name q.proto) ≡ true) × ((not (is_in_interface p q m.place) ≡ true) × (not (has_outward p m.place) ≡ true)))
    parts = four (not (has_rival p q m.place)) (not (is_common p q.name q.proto)) (not (is_in_interface p q m.place)) (not (has_outward p m.place)) alone

    -- a class under it
    record IsBelow (c : NamedClass) : Type 0 where
      place : ℕ
      class : Class
      is_class : slice_get p.classes place ≡ Some class
      is : named_class p class ≡ c
      under : In place (classes_under p m.place)

    below : (c : NamedClass) → In c (loose.classes_under (named p) k.class) → IsBelow c
    below c i =
        let test = λ (c : NamedClass). is_own_under (named p) c.name k.class in
        let d : Image (named_class p) p.classes c = image (named_class p) p.classes c (contained c (named p).classes (in_unfiltered test c (named p).classes i)) in
        let goes : is_own_under (named p) (type_at p d.entry.name) (type_at p m.class.name) ≡ true = subst (λ t. is_own_under (named p) (type_at p d.entry.name) t ≡ true) own
        (subst (λ (c : NamedClass). is_own_under (named p) c.name k.class ≡ true) (sym d.is) (in_filter test c (named p).classes i)) in
        record {
          place = d.place;
          class = d.entry;
          is_class = d.is_entry;
          is = d.is;
          under = into_filter (λ d. is_under p d m.place) d.place (places p) (in_places p d.place d.entry d.is_entry) (sym (under_named p w once ancestor d.place m.place d.entry m.class d.is_entry m.is_class) ∙ goes);
        }

    virtual_there : (j : ℕ) (g : Class) → slice_get p.classes j ≡ Some g → loose.has_virtual k (named_class p g) ≡ true → is_some (own_virtual p q.name q.proto j) ≡ true
    virtual_there j g e h = by (own_virtual p q.name q.proto j) refl
      where
        test : (o : Option NamedMethod) → (elim o as (λ o. Bool) [ Some m ↦ is_virtual_method m | None ↦ false ]) ≡ true → is_some (passing is_virtual_method (named_class p g) o) ≡ true
        test None h = h
        test (Some x) h = at (is_virtual_method x) h
          where
            at : (b : Bool) → b ≡ true → is_some (elim b as (λ b. Option Found) [ true ↦ Some (found_in (named_class p g) x) | false ↦ None ]) ≡ true
            at true h = refl
            at false h = clash false h refl

        some_there : is_some (in_class is_virtual_method (text_at p q.name) (signature_at p q.proto) (class_at p j)) ≡ true
        some_there = ap (λ o. is_some (in_class is_virtual_method (text_at p q.name) (signature_at p q.proto) o)) (ap (option_map (named_class p)) e)
            ∙ (ap (λ (z : MethodKey). is_some (passing is_virtual_method (named_class p g) (method_in (named_class p g) z.name z.signature))) (sym key_is) ∙ test (method_in (named_class p g) k.name k.signature) h)

        by : (o : Option MethodAt) → own_virtual p q.name q.proto j ≡ o → is_some (own_virtual p q.name q.proto j) ≡ true
        by (Some at) f = ap is_some f
        by None f = clash false (sym (ap is_some ((virtual_answers p s q.name q.proto (method_name p s n q m.is_entry) (method_proto p s n q m.is_entry)).same j ∙ ap (option_and_then (found_at p)) f)) ∙ some_there) refl

    abbrev inner : NamedClass → NamedClass → Bool
    inner c u = not (text_eq u.name k.class) && is_own_under (named p) c.name u.name && loose.has_virtual k u

    rival_number : loose.has_rival (named p) k ≡ true → has_rival p q m.place ≡ true
    rival_number h =
        let x = any_where (λ (c : NamedClass). list_any (inner c) (named p).classes) (loose.classes_under (named p) k.class) h in
        let b : IsBelow x.0 = below x.0 x.1.0 in
        let y = any_where (inner x.0) (named p).classes x.1.1 in
        let g : Image (named_class p) p.classes y.0 = image (named_class p) p.classes y.0 (contained y.0 (named p).classes y.1.0) in
        let holds : inner (named_class p b.class) (named_class p g.entry) ≡ true = ap (λ (c : NamedClass). inner c (named_class p g.entry)) b.is ∙ (ap (inner x.0) g.is ∙ y.1.1) in
        let u = named_class p g.entry in
        let first = and_left (not (text_eq u.name k.class) && is_own_under (named p) (named_class p b.class).name u.name) (loose.has_virtual k u) holds in
        let other : nat_eq g.place m.place ≡ false = untrue (nat_eq g.place m.place) (λ e. clash (text_eq u.name k.class)
        (ap (text_eq u.name) own ∙ (ap (λ (z : Class). text_eq u.name (type_at p z.name)) (some_same m.class g.entry (sym m.is_class ∙ (ap (slice_get p.classes) (sym (number_of g.place m.place e)) ∙ g.is_entry))) ∙ text_same u.name))
        (not_true (text_eq u.name k.class) (and_left (not (text_eq u.name k.class)) (is_own_under (named p) (named_class p b.class).name u.name) first))) in
        any_here (λ d. list_any (is_rival p q m.place d) (places p)) b.place (classes_under p m.place) b.under
        (any_here (is_rival p q m.place b.place) g.place (places p) (in_places p g.place g.entry g.is_entry)
        (and_both (not (nat_eq g.place m.place) && is_under p b.place g.place) (is_some (own_virtual p q.name q.proto g.place))
        (and_both (not (nat_eq g.place m.place)) (is_under p b.place g.place) (not_of_false (nat_eq g.place m.place) other)
        (sym (under_named p w once ancestor b.place g.place b.class g.entry b.is_class g.is_entry) ∙ and_right (not (text_eq u.name k.class)) (is_own_under (named p) (named_class p b.class).name u.name) first))
        (virtual_there g.place g.entry g.is_entry (and_right (not (text_eq u.name k.class) && is_own_under (named p) (named_class p b.class).name u.name) (loose.has_virtual k u) holds))))

    outward_there : list_any (λ (c : NamedClass). name.is_outward (named p) c.name) (loose.classes_under (named p) k.class) ≡ true → has_outward p m.place ≡ true
    outward_there h =
        let x = any_where (λ (c : NamedClass). name.is_outward (named p) c.name) (loose.classes_under (named p) k.class) h in
        let b : IsBelow x.0 = below x.0 x.1.0 in
        any_here (is_outward p) b.place (classes_under p m.place) b.under (outward_number b.place b.class b.is_class (subst (λ (c : NamedClass). name.is_outward (named p) c.name ≡ true) (sym b.is) x.1.1))

    pub apart : IsApart (named p) k
    apart = record {
      unrivalled = untrue (loose.has_rival (named p) k) (λ h. clash (has_rival p q m.place) (rival_number h) (not_true (has_rival p q m.place) parts.0));
      uncommon = ap (λ (z : MethodKey). spelled.is_common z.name z.signature) key_is ∙ (common_test p q.name q.proto ∙ not_true (is_common p q.name q.proto) parts.1.0);
      inside = untrue (list_any (λ (c : NamedClass). name.is_outward (named p) c.name) (loose.classes_under (named p) k.class)) (λ h. clash (has_outward p m.place) (outward_there h) (not_true (has_outward p m.place) parts.1.1.1));
    }
