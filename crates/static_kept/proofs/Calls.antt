-- What a call may find by name it may find by number, so a call that is plain by number is plain by name.
use Rattle.std.proofs.Common.{◌≡◌, ◌⊎◌, inl, inr, ℕ, zero, suc, ◌<◌, Bool, true, false, true≢false, nat_eq, List, [], ◌∷◌, ◌++◌, length, map, Option, Some, None, refl, sym, ap, ◌∙◌, subst, lt-ltb}
use Rattle.std.specs.Prelude.{◌&&◌, ◌||◌, not, filter, flat_map, is_some, slice_get, if◌then◌else◌, Contains}
use Rattle.std.specs.List.{list_all, list_any}
use Rattle.std.specs.Option.{option_and_then, option_map}
use Rattle.lemmas.proofs.Bools.{and_left, and_right, and_both, clash, neither_of, not_false, not_true, or_cases, or_left, or_right, untrue}
use Rattle.lemmas.proofs.Lists.{got_short}
use Rattle.lemmas.proofs.Options.{before_map, none_some, some_same}
use Rattle.insn_set.specs.declared.ops.InvokeKind.{InvokeKind}
use Rattle.insn_set.specs.declared.ops.InvokeKind.TheVariants as call
use Rattle.program_model.specs.Lookups as look
use Rattle.program_model.specs.Lookups.{class_place}
use Rattle.program_model.specs.MemberRules.{is_object}
use Rattle.program_model.specs.ProgramRules.{is_well_formed}
use Rattle.program_model.specs.Texts.{has_type, type_text}
use Rattle.program_model.specs.declared.pools.MethodName.{MethodName}
use Rattle.program_model.specs.declared.program.Class.{Class}
use Rattle.program_model.specs.declared.program.Method.{Method}
use Rattle.program_model.specs.declared.program.MethodAt.{MethodAt}
use Rattle.program_model.specs.declared.program.Program.{Program}
use Rattle.class_defs.specs.ClassGraph.{IsAncestor, IsTwice}
use Rattle.class_defs.specs.Finding as number
use Rattle.class_defs.specs.Finding.{by_entry, first_among, finds_at, finds_static, finds_super, one_or_none, resolution_of, resolves_method, search_of}
use Rattle.class_defs.specs.Members.{has_code, is_interface, own_method}
use Rattle.class_defs.specs.Places.{chain_from, chain_of, interface_places, is_under, placed, places_of, super_place}
use Rattle.class_defs.proofs.Positions.{number_of, number_test}
use Rattle.class_defs.proofs.WellFormed.{Sound, class_parts, sound}
use Rattle.dalvik_defs.proofs.Calm.{text_sound}
use Rattle.dalvik_defs.specs.Find as name
use Rattle.dalvik_defs.specs.Find.{Found, found_in}
use Rattle.dalvik_defs.specs.Flags as flags
use Rattle.dalvik_defs.specs.Names.{Text, is_common, method_eq, object_type, text_eq}
use Rattle.dalvik_defs.specs.Naming.{method_at, named, named_class, named_method, signature_at, text_at, type_at}
use Rattle.dalvik_defs.specs.Silence.{key_in}
use Rattle.dalvik_defs.specs.Under.{class_named, defines, is_own_under}
use Rattle.dalvik_defs.specs.declared.names.MethodKey.{MethodKey}
use Rattle.dalvik_defs.specs.declared.names.Signature.{Signature}
use Rattle.dalvik_defs.specs.declared.program.NamedClass.{NamedClass}
use Rattle.name_bridge.specs.Named.{class_at, classes_at, found_at, finds, search_at, with_class}
use Rattle.name_bridge.proofs.Above.{Defined, chain_by_number, defined, names_listed, own_place, places_listed, types_fit_listed, types_listed}
use Rattle.name_bridge.proofs.Candidates.{Names, candidates_by_number, coded_test, finds_at_by_number, version_test}
use Rattle.name_bridge.proofs.Classes.{class_by_number}
use Rattle.name_bridge.proofs.Flags.{interface_flag}
use Rattle.name_bridge.proofs.Found.{FoundParts, IsThere, first_there, found_parts, found_there_is, looked_up, own_answers, type_same}
use Rattle.name_bridge.proofs.Resolved.{resolves_by_number, static_by_number, super_by_number}
use Rattle.name_bridge.proofs.Tables.{method_class, method_is, method_name, method_once, method_proto}
use Rattle.pass_defs.specs.Calls as by_name
use Rattle.pass_defs.specs.Leaves as leaves
use Rattle.pass_defs.specs.Loose as loose
use Rattle.removal_law.proofs.Declared.{method_same, method_sound}
use Rattle.removal_law.proofs.Finds.{in_filter, in_unfiltered, into_filter, in_flat, out_of_flat}
use Rattle.removal_law.proofs.Lists.{In, here, there, in_either, in_front, in_back, all_in, contained}
use Rattle.removal_law.proofs.Outward.{any_here, any_where}
use Rattle.removal_law.proofs.Walks.{text_same}
use Rattle.removal_bridge.proofs.Formed.{no_object}
use Rattle.removal_bridge.proofs.Listed.{Image, image}
use Rattle.removal_bridge.proofs.Members.{class_known}
use Rattle.static_law.proofs.Classes.{contains_at}
use Rattle.static_law.proofs.Targets.{key_there}
use Rattle.receivers.specs.Receiving.{interface_at, lists_above}
use Rattle.loose_methods.specs.Loose.{class_candidates, class_of_entry, class_of_number, concerns, found_by, interface_there, is_among, is_it, is_nothing, is_plain_call, is_subclass, is_this, is_within, is_within_at, may_find, may_find_at, may_leave, misses, named_by, names_it, number_at, number_found, places, receivers, resolves_to, super_candidates}
use Rattle.static_kept.proofs.MadeStatic.{IsMethod}
use Rattle.static_kept.proofs.Own.{four, place_is}
use Rattle.static_kept.proofs.Walks.{class_short, in_places, itself_under, under_lists, under_named}

-- ---- lists

any_of_all : {A : Type 0} (f : A → Bool) (xs : List A) → ((x : A) → In x xs → f x ≡ true) → list_all f xs ≡ true
any_of_all f [] h = refl
any_of_all f (x ∷ xs) h = and_both (f x) (list_all f xs) (h x (here xs)) (any_of_all f xs (λ y i. h y (there x xs i)))

four_all : (a b c d : Bool) → a ≡ true → b ≡ true → c ≡ true → d ≡ true → (a && b && c && d) ≡ true
four_all a b c d e f g h = and_both (a && b && c) d (and_both (a && b) c (and_both a b e f) g) h

-- a method that by name is found is one of some methods by number
pub record Comes (p : Program) (ms : List MethodAt) (f : Found) : Type 0 where
  pub at : MethodAt
  pub is_in : In at ms
  pub is : found_at p at ≡ Some f

comes_left : (p : Program) (xs ys : List MethodAt) (f : Found) → Comes p xs f → Comes p (xs ++ ys) f
comes_left p xs ys f c = record { at = c.at; is_in = in_front c.at xs ys c.is_in; is = c.is }

comes_right : (p : Program) (xs ys : List MethodAt) (f : Found) → Comes p ys f → Comes p (xs ++ ys) f
comes_right p xs ys f c = record { at = c.at; is_in = in_back c.at xs ys c.is_in; is = c.is }

comes_names : (p : Program) (ms : List MethodAt) (fs : List Found) (f : Found) → Names p ms fs → In f fs → Comes p ms f
comes_names p [] [] f h i = elim i [ ]
comes_names p [] (g ∷ fs) f h i = absurd h
comes_names p (a ∷ ms) [] f h i = absurd h
comes_names p (a ∷ ms) (g ∷ fs) f h (here gs) = record { at = a; is_in = here ms; is = h.0 }
comes_names p (a ∷ ms) (g ∷ fs) f h (there z gs i) = let c = comes_names p ms fs f h.1 i in record { at = c.at; is_in = there a ms c.is_in; is = c.is }

-- what a look-up finds
only : (f g : Found) → In f (g ∷ []) → f ≡ g
only f g (here xs) = refl
only f g (there y xs i) = elim i [ ]

comes_finds : (p : Program) (at : MethodAt) (o : Option Found) (f : Found) → found_at p at ≡ o → In f (by_name.found_by (finds o)) → Comes p (at ∷ []) f
comes_finds p at None f e i = elim i [ ]
comes_finds p at (Some g) f e i = record { at = at; is_in = here []; is = e ∙ ap Some (sym (only f g i)) }

comes_search : (p : Program) (x : number.Search) (f : Found) → In f (by_name.found_by (search_at p x)) → Comes p (found_by x) f
comes_search p number.Nothing f i = elim i [ ]
comes_search p number.Clash f i = elim i [ ]
comes_search p (number.Finds at) f i = comes_finds p at (found_at p at) f refl i

comes_one : (p : Program) (o : Option MethodAt) (f : Found) → In f (by_name.found_by (search_at p (search_of o))) → Comes p (one_or_none o) f
comes_one p None f i = elim i [ ]
comes_one p (Some at) f i = comes_finds p at (found_at p at) f refl i

module _ (p : Program) (w : is_well_formed p ≡ true) (once : (class : ℕ) → IsTwice p class → ⊥) (ancestor : (class : ℕ) → IsAncestor p class class → ⊥) where
  s : Sound p
  s = sound p w

  -- ---- the method of a number

  found_number : (at : MethodAt) (g : Found) → found_at p at ≡ Some g → (x : ℕ) × ((number_at p at ≡ Some x) × ((g.key ≡ method_at p x) × (x < length p.methods)))
  found_number at g e =
      let x : FoundParts p at g = found_parts p at g e in
      let fits = (class_parts p s at.class x.there.class x.there.is_class).methods at.place x.there.method x.there.is_method in (
        x.there.method.name,
        (
          ap (option_map (λ (m : Method). m.name)) (looked_up p at x.there),
          (
            ap (λ (h : Found). h.key) x.found ∙ key_there (λ n. None) p s once at.class x.there.class x.there.is_class at.place x.there.method x.there.is_method,
            got_short p.methods x.there.method.name fits.entry fits.is,
          ),
        ),
      )

  module _ (n : ℕ) (m : IsMethod p n) where
    low : n < length p.methods
    low = got_short p.methods n m.entry m.is_entry

    number_same : (x : ℕ) → x < length p.methods → method_eq (method_at p x) (method_at p n) ≡ nat_eq x n
    number_same x h = by (nat_eq x n) refl
      where
        by : (b : Bool) → nat_eq x n ≡ b → method_eq (method_at p x) (method_at p n) ≡ b
        by true e = ap (λ k. method_eq (method_at p k) (method_at p n)) (number_of x n e) ∙ method_same (method_at p n)
        by false e = untrue (method_eq (method_at p x) (method_at p n)) (λ f. clash (nat_eq x n) (number_test x n (method_once p s x n h low (method_sound (method_at p x) (method_at p n) f))) e)

    -- it is the one of the number
    it_named : (at : MethodAt) (g : Found) → found_at p at ≡ Some g → method_eq g.key (method_at p n) ≡ is_it p n at
    it_named at g e = let x = found_number at g e in ap (λ k. method_eq k (method_at p n)) x.1.1.0 ∙ (number_same x.0 x.1.1.1 ∙ sym (ap (is_this n) x.1.0))

    it_found : (at : MethodAt) → is_it p n at ≡ true → (g : Found) × (found_at p at ≡ Some g)
    it_found at e = by (slice_get p.classes at.class) refl e
      where
        in_class : (c : Class) → slice_get p.classes at.class ≡ Some c → (o : Option Method) → slice_get c.methods at.place ≡ o → is_this n (option_map (λ (m : Method). m.name) o) ≡ true → (g : Found) × (found_at p at ≡ Some g)
        in_class c i None j h = clash false h refl
        in_class c i (Some x) j h = (found_in (named_class p c) (named_method p x), found_there_is p at (record { class = c; is_class = i; method = x; is_method = j }))

        by : (o : Option Class) → slice_get p.classes at.class ≡ o → is_this n (option_map (λ (m : Method). m.name) (option_and_then (λ (k : Class). slice_get k.methods at.place) o)) ≡ true → (g : Found) × (found_at p at ≡ Some g)
        by None i h = clash false h refl
        by (Some c) i h = in_class c i (slice_get c.methods at.place) refl h

  -- ---- a call of a number

  module _ (called : ℕ) (q : MethodName) (is_entry : slice_get p.methods called ≡ Some q) where
    abbrev k : MethodKey
    k = method_at p called

    called_low : called < length p.methods
    called_low = got_short p.methods called q is_entry

    key_is : k ≡ record { class = type_at p q.class; name = text_at p q.name; signature = signature_at p q.proto }
    key_is = method_is p s called q is_entry

    class_is : k.class ≡ type_at p q.class
    class_is = ap (λ (x : MethodKey). x.class) key_is

    kind_short : q.class < length p.types
    kind_short = method_class p s called q is_entry

    name_short : q.name < length p.strings
    name_short = method_name p s called q is_entry

    proto_short : q.proto < length p.protos
    proto_short = method_proto p s called q is_entry

    -- ---- receivers

    -- a class that may be that of a receiver
    record IsReceiver (t : Text) : Type 0 where
      place : ℕ
      class : Class
      is_class : slice_get p.classes place ≡ Some class
      is : type_at p class.name ≡ t
      within : In place (receivers p q.class)

    within_number : (i : ℕ) (d : Class) → slice_get p.classes i ≡ Some d → (text_eq (type_at p q.class) object_type || is_own_under (named p) (type_at p d.name) (type_at p q.class)) ≡ true → is_within p q.class i ≡ true
    within_number i d e h = by (class_place p q.class) refl (or_cases (text_eq (type_at p q.class) object_type) (is_own_under (named p) (type_at p d.name) (type_at p q.class)) h)
      where
        by : (o : Option ℕ) → class_place p q.class ≡ o → (text_eq (type_at p q.class) object_type ≡ true) ⊎ (is_own_under (named p) (type_at p d.name) (type_at p q.class) ≡ true) → is_within_at p i q.class o ≡ true
        by (Some u) f (inr g) = let x : Defined p q.class u = defined p q.class u f in
            sym (under_named p w once ancestor i u d x.class e x.is) ∙ (ap (λ z. is_own_under (named p) (type_at p d.name) (type_at p z)) x.named ∙ g)
        by (Some u) f (inl g) =
            let x : Defined p q.class u = defined p q.class u f in
            let there : defines (named p) (type_at p q.class) ≡ true = ap (λ o. elim o as (λ o. Bool) [ Some c ↦ true | None ↦ false ]) (ap (λ z. class_named (named p) (type_at p z)) (sym x.named) ∙ class_known p s once u x.class x.is) in
            clash (defines (named p) object_type) (ap (defines (named p)) (sym (object_is g)) ∙ there) (no_object p w)
          where
            object_is : text_eq (type_at p q.class) object_type ≡ true → type_at p q.class ≡ object_type
            object_is g = text_sound (type_at p q.class) object_type g
        by None f (inl g) = or_left (is_object (type_text p q.class)) (lists_above p i q.class) (sym (ap (λ t. text_eq t object_type) (type_same p q.class)) ∙ g)
        by None f (inr g) = or_right (is_object (type_text p q.class)) (lists_above p i q.class) (under_lists p w once ancestor q.class kind_short f i d e g)

    receiver_within : (i : ℕ) (d : Class) → slice_get p.classes i ≡ Some d → is_within p q.class i ≡ true → IsReceiver (type_at p d.name)
    receiver_within i d e h = record { place = i; class = d; is_class = e; is = refl; within = into_filter (is_within p q.class) i (places p) (in_places p i d e) h }

    -- a receiver by name is one by number, or the named class, which the program doesn't define
    named_receiver : (t : Text) → In t (by_name.receivers (named p) (type_at p q.class)) → IsReceiver t ⊎ ((t ≡ type_at p q.class) × (class_place p q.class ≡ None))
    named_receiver t (here ts) = by (class_place p q.class) refl
      where
        by : (o : Option ℕ) → class_place p q.class ≡ o → IsReceiver t ⊎ ((t ≡ type_at p q.class) × (class_place p q.class ≡ None))
        by None e = inr (refl, e)
        by (Some i) e = let x : Defined p q.class i = defined p q.class i e in
            inl (subst (λ z. IsReceiver (type_at p z)) x.named (receiver_within i x.class x.is (ap (is_within_at p i q.class) e ∙ itself_under p i)))
    named_receiver t (there z ts i) =
        let test = λ (u : Text). by_name.is_within (named p) u (type_at p q.class) && not (text_eq u (type_at p q.class)) in
        let c = image (λ (c : NamedClass). c.name) (named p).classes t (contained t (map (λ (c : NamedClass). c.name) (named p).classes) (in_unfiltered test t (map (λ (c : NamedClass). c.name) (named p).classes) i)) in
        let d = image (named_class p) p.classes c.entry (contained_at c) in
        let is : type_at p d.entry.name ≡ t = ap (λ (c : NamedClass). c.name) d.is ∙ c.is in
        inl (subst IsReceiver is (receiver_within d.place d.entry d.is_entry (within_number d.place d.entry d.is_entry
        (subst (λ u. by_name.is_within (named p) u (type_at p q.class) ≡ true) (sym is) (and_left (by_name.is_within (named p) t (type_at p q.class)) (not (text_eq t (type_at p q.class))) (in_filter test t (map (λ (c : NamedClass). c.name) (named p).classes) i))))))
      where
        contained_at : (c : Image (λ (c : NamedClass). c.name) (named p).classes t) → Contains (named p).classes c.entry
        contained_at c = contains_at (named p).classes c.place c.entry c.is_entry

    -- ---- what receivers find

    at_receiver : (t : Text) (x : IsReceiver t) → name.finds_at (named p) t k ≡ search_at p (finds_at p x.place q.name q.proto)
    at_receiver t x = ap (λ u. name.finds_at (named p) u k) (sym x.is) ∙ (ap (name.finds_at (named p) (type_at p x.class.name)) key_is
        ∙ finds_at_by_number p s q.name q.proto name_short proto_short once x.class.name x.place (type_at p q.class) (class_short p w once ancestor x.place x.class x.is_class) (own_place p once x.place x.class x.is_class))

    candidates_at : (t : Text) (x : IsReceiver t) (f : Found) → In f (by_name.candidates_of (named p) t (text_at p q.name) (signature_at p q.proto)) → Comes p (class_candidates p q x.place) f
    candidates_at t x f i =
        let cs = chain_of p (Some x.place) in
        let chain : name.chain_of (named p) t ≡ classes_at p cs = ap (name.chain_of (named p)) (sym x.is)
        ∙ (chain_by_number p s x.class.name (class_short p w once ancestor x.place x.class x.is_class) ∙ ap (λ o. classes_at p (chain_of p o)) (own_place p once x.place x.class x.is_class)) in
        let types : flat_map (λ (c : NamedClass). c.interfaces) (name.chain_of (named p) t) ≡ map (type_at p) (types_listed p cs) = ap (flat_map (λ (c : NamedClass). c.interfaces)) chain ∙ names_listed p cs in
        let c = comes_names p (number.candidates p (places_of p (types_listed p cs)) q.name q.proto) (name.candidates (named p) (map (type_at p) (types_listed p cs)) (text_at p q.name) (signature_at p q.proto)) f
        (candidates_by_number p s q.name q.proto name_short proto_short once (types_listed p cs) (types_fit_listed p s cs))
        (subst (λ ts. In f (name.candidates (named p) ts (text_at p q.name) (signature_at p q.proto))) types i) in
        record { at = c.at; is_in = subst (λ us. In c.at (number.candidates p us q.name q.proto)) (places_listed p cs) c.is_in; is = c.is }

    -- a type that the program doesn't define finds nothing
    module _ (none : class_place p q.class ≡ None) where
      no_chain : name.chain_of (named p) (type_at p q.class) ≡ []
      no_chain = chain_by_number p s q.class kind_short ∙ (ap (λ o. classes_at p (chain_of p o)) none ∙ ap (classes_at p) (nothing (length p.classes)))
        where
          nothing : (n : ℕ) → chain_from (super_place p) n None ≡ []
          nothing zero = refl
          nothing (suc n) = refl

      no_candidates : (n : Text) (g : Signature) → name.candidates (named p) [] n g ≡ []
      no_candidates n g = by (name.is_037 (named p).version && not (is_common n g))
        where
          nothing : (i : ℕ) → name.candidates_from i (named p) n g [] ≡ []
          nothing zero = refl
          nothing (suc i) = refl

          by : (b : Bool) → elim b as (λ b. List Found) [ true ↦ name.without_repeats (name.candidates_from (length (named p).classes) (named p) n g []) | false ↦ [] ] ≡ []
          by true = ap name.without_repeats (nothing (length (named p).classes))
          by false = refl

      nothing_at : name.finds_at (named p) (type_at p q.class) k ≡ name.Nothing
      nothing_at = ap (λ cs. elim (name.first_method name.is_virtual_method k.name k.signature cs) as (λ o. name.Search)
          [ Some f ↦ name.Finds f | None ↦ name.finds_among (named p) (flat_map (λ (c : NamedClass). c.interfaces) cs) k.name k.signature ]) no_chain
          ∙ ap (λ fs. name.verdict (name.lowest (named p) fs)) (no_candidates k.name k.signature)

      nothing_of : by_name.candidates_of (named p) (type_at p q.class) k.name k.signature ≡ []
      nothing_of = ap (λ cs. name.candidates (named p) (flat_map (λ (c : NamedClass). c.interfaces) cs) k.name k.signature) no_chain ∙ no_candidates k.name k.signature

    comes_receiver : (t : Text) → In t (by_name.receivers (named p) (type_at p q.class)) → (f : Found) → In f (by_name.found_by (name.finds_at (named p) t k) ++ by_name.candidates_of (named p) t k.name k.signature)
        → Comes p (flat_map (may_find_at p q) (receivers p q.class)) f
    comes_receiver t j f i = by (named_receiver t j)
      where
        into : (x : IsReceiver t) → Comes p (may_find_at p q x.place) f → Comes p (flat_map (may_find_at p q) (receivers p q.class)) f
        into x c = record { at = c.at; is_in = in_flat (may_find_at p q) x.place c.at (receivers p q.class) x.within c.is_in; is = c.is }

        here_in : (x : IsReceiver t) → In f (by_name.found_by (name.finds_at (named p) t k)) ⊎ In f (by_name.candidates_of (named p) t k.name k.signature) → Comes p (may_find_at p q x.place) f
        here_in x (inl a) = comes_left p (found_by (finds_at p x.place q.name q.proto)) (class_candidates p q x.place) f
            (comes_search p (finds_at p x.place q.name q.proto) f (subst (λ z. In f (by_name.found_by z)) (at_receiver t x) a))
        here_in x (inr a) = comes_right p (found_by (finds_at p x.place q.name q.proto)) (class_candidates p q x.place) f
            (candidates_at t x f (subst (λ (z : MethodKey). In f (by_name.candidates_of (named p) t z.name z.signature)) key_is a))

        by : IsReceiver t ⊎ ((t ≡ type_at p q.class) × (class_place p q.class ≡ None)) → Comes p (flat_map (may_find_at p q) (receivers p q.class)) f
        by (inl x) = into x (here_in x (in_either f (by_name.found_by (name.finds_at (named p) t k)) (by_name.candidates_of (named p) t k.name k.signature) i))
        by (inr x) = elim (subst (In f) (ap (λ u. by_name.found_by (name.finds_at (named p) u k) ++ by_name.candidates_of (named p) u k.name k.signature) x.0
            ∙ (ap (λ z. by_name.found_by z ++ by_name.candidates_of (named p) (type_at p q.class) k.name k.signature) (nothing_at x.1) ∙ nothing_of x.1)) i) [ ]

    -- ---- what a call finds

    -- a program interface by name is one by number
    interface_known : is_some (name.interface_named (named p) k.class) ≡ true → (c : ℕ) × ((class_place p q.class ≡ Some c) × (interface_at p c ≡ true))
    interface_known h = by (class_place p q.class) refl (sym (ap (λ t. is_some (name.interface_named (named p) t)) class_is) ∙ h)
      where
        flagged : (c : ℕ) (d : Class) → slice_get p.classes c ≡ Some d → (b : Bool) → flags.is_interface (named_class p d).flags ≡ b → is_some (elim b as (λ b. Option NamedClass) [ true ↦ Some (named_class p d) | false ↦ None ]) ≡ true → interface_at p c ≡ true
        flagged c d e true f g = ap is_interface e ∙ (interface_flag d.flags ∙ f)
        flagged c d e false f g = clash false g refl

        by_class : Option NamedClass → Bool
        by_class o = is_some (elim o as (λ o. Option NamedClass) [ Some c ↦ elim (flags.is_interface c.flags) as (λ b. Option NamedClass) [ true ↦ Some c | false ↦ None ] | None ↦ None ])

        by : (o : Option ℕ) → class_place p q.class ≡ o → by_class (class_named (named p) (type_at p q.class)) ≡ true → (c : ℕ) × ((class_place p q.class ≡ Some c) × (interface_at p c ≡ true))
        by None e g = clash false (sym (ap by_class (class_by_number p s q.class kind_short ∙ ap (option_and_then (class_at p)) e)) ∙ g) refl
        by (Some c) e g =
            let x : Defined p q.class c = defined p q.class c e in
            let is : class_named (named p) (type_at p q.class) ≡ Some (named_class p x.class) = class_by_number p s q.class kind_short ∙ (ap (option_and_then (class_at p)) e ∙ ap (option_map (named_class p)) x.is) in
            (c, (e, flagged c x.class x.is (flags.is_interface (named_class p x.class).flags) refl (sym (ap by_class is) ∙ g)))

    module _ (caller : ℕ) (c : Class) (is_class : slice_get p.classes caller ≡ Some c) where
      abbrev class : Text
      class = type_at p c.name

      super_named : (f : Found) → In f (by_name.super_candidates (named p) k) → Comes p (super_candidates p q (class_place p q.class)) f
      super_named f i = by (name.is_037 (named p).version && is_some (name.interface_named (named p) k.class)) refl i
        where
          by : (b : Bool) → (name.is_037 (named p).version && is_some (name.interface_named (named p) k.class)) ≡ b → In f (elim b as (λ b. List Found) [ true ↦ name.candidates (named p) (k.class ∷ []) k.name k.signature | false ↦ [] ])
              → Comes p (super_candidates p q (class_place p q.class)) f
          by false e j = elim j [ ]
          by true e j =
              let version : number.is_037 p.version ≡ true = sym (version_test p.version) ∙ and_left (name.is_037 (named p).version) (is_some (name.interface_named (named p) k.class)) e in
              let x = interface_known (and_right (name.is_037 (named p).version) (is_some (name.interface_named (named p) k.class)) e) in
              let types : list_all (has_type p) (q.class ∷ []) ≡ true = ap (λ b. b && true) (lt-ltb q.class (length p.types) kind_short) in
              let there = comes_names p (number.candidates p (places_of p (q.class ∷ [])) q.name q.proto) (name.candidates (named p) (map (type_at p) (q.class ∷ [])) (text_at p q.name) (signature_at p q.proto)) f
              (candidates_by_number p s q.name q.proto name_short proto_short once (q.class ∷ []) types)
              (subst (λ (z : MethodKey). In f (name.candidates (named p) (z.class ∷ []) z.name z.signature)) key_is j) in
              let is : super_candidates p q (class_place p q.class) ≡ number.candidates p (x.0 ∷ []) q.name q.proto = ap (super_candidates p q) x.1.0 ∙ ap (λ b. if b then number.candidates p (x.0 ∷ []) q.name q.proto else [])
              (and_both (number.is_037 p.version) (interface_at p x.0) version x.1.1) in
              record {
                at = there.at;
                is_in = subst (In there.at) (ap (λ o. number.candidates p (placed o []) q.name q.proto) x.1.0 ∙ sym is) there.is_in;
                is = there.is;
              }

      super_is : name.finds_super (named p) class k ≡ search_at p (finds_super p caller called)
      super_is = super_by_number p s once c.name caller (class_short p w once ancestor caller c is_class) (own_place p once caller c is_class) c is_class called called_low

      all_receivers : (f : Found) → In f (flat_map (λ t. by_name.found_by (name.finds_at (named p) t k) ++ by_name.candidates_of (named p) t k.name k.signature) (by_name.receivers (named p) k.class))
          → Comes p (flat_map (may_find_at p q) (receivers p q.class)) f
      all_receivers f i =
          let x = out_of_flat (λ t. by_name.found_by (name.finds_at (named p) t k) ++ by_name.candidates_of (named p) t k.name k.signature) f (by_name.receivers (named p) k.class) i in
          comes_receiver x.0 (subst (λ t. In x.0 (by_name.receivers (named p) t)) class_is x.1.0) f x.1.1

      pub may_find_named : (kind : InvokeKind) (f : Found) → In f (by_name.may_find (named p) class kind k) → Comes p (may_find p caller kind called q) f
      may_find_named call.Static f i = comes_one p (finds_static p called) f (subst (λ z. In f (by_name.found_by z)) (static_by_number p s called called_low) i)
      may_find_named call.Direct f i = comes_one p (finds_static p called) f (subst (λ z. In f (by_name.found_by z)) (static_by_number p s called called_low) i)
      may_find_named call.Super f i = either (in_either f (by_name.found_by (name.finds_super (named p) class k)) (by_name.super_candidates (named p) k) i)
        where
          either : In f (by_name.found_by (name.finds_super (named p) class k)) ⊎ In f (by_name.super_candidates (named p) k) → Comes p (found_by (finds_super p caller called) ++ super_candidates p q (class_place p q.class)) f
          either (inl j) = comes_left p (found_by (finds_super p caller called)) (super_candidates p q (class_place p q.class)) f (comes_search p (finds_super p caller called) f (subst (λ z. In f (by_name.found_by z)) super_is j))
          either (inr j) = comes_right p (found_by (finds_super p caller called)) (super_candidates p q (class_place p q.class)) f (super_named f j)
      may_find_named call.Virtual f i = all_receivers f i
      may_find_named call.Interface f i = all_receivers f i

      -- ---- a call that concerns a method

      module _ (n : ℕ) (m : IsMethod p n) where
        resolves_is : name.resolves_method (named p) k ≡ option_and_then (found_at p) (resolves_method p called)
        resolves_is = resolves_by_number p s called called_low

        resolved_there : (at : MethodAt) → resolves_method p called ≡ Some at → IsThere p at
        resolved_there at e = first_there p (own_method p q.name q.proto) (own_answers p s q.name q.proto name_short proto_short).there (resolution_of p (class_place p q.class)) at
            (sym (ap (by_entry (λ q. first_among (own_method p q.name q.proto) (resolution_of p (class_place p q.class)))) is_entry) ∙ e)

        abbrev named_so : Option Found → Bool
        named_so o = elim o as (λ o. Bool) [ Some g ↦ method_eq g.key (method_at p n) | None ↦ method_eq k (method_at p n) ]

        names_number : loose.names_it (named p) (method_at p n) k ≡ names_it p n called
        names_number = by (resolves_method p called) refl
          where
            by : (o : Option MethodAt) → resolves_method p called ≡ o → loose.names_it (named p) (method_at p n) k ≡ is_this n (named_by p called o)
            by None e = ap named_so (resolves_is ∙ ap (option_and_then (found_at p)) e) ∙ number_same n m called called_low
            by (Some at) e =
                let there = resolved_there at e in
                let found = found_in (named_class p there.class) (named_method p there.method) in
                ap named_so (resolves_is ∙ (ap (option_and_then (found_at p)) e ∙ found_there_is p at there)) ∙ it_named n m at found (found_there_is p at there)

        pub concerns_number : (kind : InvokeKind) → loose.concerns (named p) (method_at p n) class kind k ≡ true → concerns p n caller kind called q ≡ true
        concerns_number kind h = by (or_cases (loose.names_it (named p) (method_at p n) k) (list_any (λ g. method_eq g.key (method_at p n)) (by_name.may_find (named p) class kind k)) h)
          where
            by : (loose.names_it (named p) (method_at p n) k ≡ true) ⊎ (list_any (λ g. method_eq g.key (method_at p n)) (by_name.may_find (named p) class kind k) ≡ true) → concerns p n caller kind called q ≡ true
            by (inl e) = or_left (names_it p n called) (list_any (is_it p n) (may_find p caller kind called q)) (sym names_number ∙ e)
            by (inr e) =
                let x = any_where (λ g. method_eq g.key (method_at p n)) (by_name.may_find (named p) class kind k) e in
                let y = may_find_named kind x.0 x.1.0 in
                or_right (names_it p n called) (list_any (is_it p n) (may_find p caller kind called q))
                (any_here (is_it p n) y.at (may_find p caller kind called q) y.is_in (sym (it_named n m y.at x.0 y.is) ∙ x.1.1))

        -- ---- a plain call

        resolves_named : resolves_to p n called ≡ true → loose.resolves_to (named p) (method_at p n) k ≡ true
        resolves_named h = by (resolves_method p called) refl h
          where
            so : Option Found → Bool
            so o = elim o as (λ o. Bool) [ Some g ↦ method_eq g.key (method_at p n) | None ↦ false ]

            by : (o : Option MethodAt) → resolves_method p called ≡ o → is_this n (number_found p o) ≡ true → loose.resolves_to (named p) (method_at p n) k ≡ true
            by None e g = clash false g refl
            by (Some at) e g =
                let there = resolved_there at e in
                let found = found_in (named_class p there.class) (named_method p there.method) in
                ap so (resolves_is ∙ (ap (option_and_then (found_at p)) e ∙ found_there_is p at there)) ∙ (it_named n m at found (found_there_is p at there) ∙ g)

        subclass_named : is_subclass p n q ≡ true → loose.is_subclass (named p) k.class (method_at p n).class ≡ true
        subclass_named h =
            let cs = chain_of p (class_place p q.class) in
            let among : list_any (nat_eq m.place) cs ≡ true = sym (ap (is_among cs) (ap (class_of_entry p) m.is_entry ∙ place_is p s once n m)) ∙ h in
            let x = any_where (nat_eq m.place) cs among in
            let there : In m.place cs = subst (λ z. In z cs) (sym (number_of m.place x.0 x.1.1)) x.1.0 in
            let own : (method_at p n).class ≡ type_at p m.class.name = ap (λ (z : MethodKey). z.class) (ap (method_at p) (sym m.number) ∙ sym (key_there (λ n. None) p s once m.place m.class m.is_class m.at m.method m.is_method)) in
            ap (λ zs. list_any (λ (z : NamedClass). text_eq z.name (method_at p n).class) zs) (ap (name.chain_of (named p)) class_is ∙ chain_by_number p s q.class kind_short)
            ∙ any_here (λ (z : NamedClass). text_eq z.name (method_at p n).class) (named_class p m.class) (classes_at p cs) (in_classes cs there)
            (ap (λ t. text_eq (type_at p m.class.name) t) own ∙ text_same (type_at p m.class.name))
          where
            in_classes : (cs : List ℕ) → In m.place cs → In (named_class p m.class) (classes_at p cs)
            in_classes [] i = elim i [ ]
            in_classes (y ∷ cs) (here zs) = subst (λ o. In (named_class p m.class) (with_class p o (classes_at p zs))) (sym m.is_class) (here (classes_at p zs))
            in_classes (y ∷ cs) (there z zs i) = behind (slice_get p.classes z) (in_classes zs i)
              where
                behind : (o : Option Class) → In (named_class p m.class) (classes_at p zs) → In (named_class p m.class) (with_class p o (classes_at p zs))
                behind None j = j
                behind (Some d) j = there (named_class p d) (classes_at p zs) j

        module _ (kind : InvokeKind) (alone : list_all (is_it p n) (may_find p caller kind called q) ≡ true) where
          found_all : (at : MethodAt) → In at (may_find p caller kind called q) → (g : Found) × (found_at p at ≡ Some g)
          found_all at i = it_found n m at (all_in (is_it p n) (may_find p caller kind called q) alone at i)

          alone_named : list_all (λ g. method_eq g.key (method_at p n)) (by_name.may_find (named p) class kind k) ≡ true
          alone_named = any_of_all (λ g. method_eq g.key (method_at p n)) (by_name.may_find (named p) class kind k)
              (λ f i. let y = may_find_named kind f i in it_named n m y.at f y.is ∙ all_in (is_it p n) (may_find p caller kind called q) alone y.at y.is_in)

          -- where by name none is found, by number none is
          nothing_found : (x : number.Search) → ((at : MethodAt) → x ≡ number.Finds at → In at (may_find p caller kind called q)) → by_name.is_nothing (search_at p x) ≡ true → is_nothing x ≡ true
          nothing_found number.Nothing h e = refl
          nothing_found number.Clash h e = clash false e refl
          nothing_found (number.Finds at) h e = let g = found_all at (h at refl) in clash false (sym (ap (λ o. by_name.is_nothing (finds o)) g.1) ∙ e) refl

          one_found : (o : Option MethodAt) → ((at : MethodAt) → o ≡ Some at → In at (may_find p caller kind called q)) → by_name.is_nothing (search_at p (search_of o)) ≡ true → not (is_some o) ≡ true
          one_found None h e = refl
          one_found (Some at) h e = let g = found_all at (h at refl) in clash false (sym (ap (λ o. by_name.is_nothing (finds o)) g.1) ∙ e) refl

          coded_number : (g : Found) → In g (by_name.may_find (named p) class kind k) → not g.coded ≡ true → list_any (λ at. not (has_code (look.method_at p at))) (may_find p caller kind called q) ≡ true
          coded_number g i e =
              let y = may_find_named kind g i in
              let x : FoundParts p y.at g = found_parts p y.at g y.is in
              any_here (λ at. not (has_code (look.method_at p at))) y.at (may_find p caller kind called q) y.is_in
              (ap (λ o. not (has_code o)) (looked_up p y.at x.there) ∙ (ap not (sym (coded_test p x.there.method.body)) ∙ (ap (λ (h : Found). not h.coded) (sym x.found) ∙ e)))

        one_in : (o : Option MethodAt) (at : MethodAt) → o ≡ Some at → In at (one_or_none o)
        one_in o at e = subst (λ z. In at (one_or_none z)) (sym e) (here [])

        found_in_search : (x : number.Search) (at : MethodAt) → x ≡ number.Finds at → In at (found_by x)
        found_in_search x at e = subst (λ z. In at (found_by z)) (sym e) (here [])

        misses_number : (kind : InvokeKind) → is_some (class_place p q.class) ≡ true → list_all (is_it p n) (may_find p caller kind called q) ≡ true → leaves.misses (named p) class kind k ≡ true → misses p caller kind called q ≡ true
        misses_number call.Static d a e = one_found call.Static a (finds_static p called) (λ at i. one_in (finds_static p called) at i) (sym (ap by_name.is_nothing (static_by_number p s called called_low)) ∙ e)
        misses_number call.Direct d a e = one_found call.Direct a (finds_static p called) (λ at i. one_in (finds_static p called) at i) (sym (ap by_name.is_nothing (static_by_number p s called called_low)) ∙ e)
        misses_number call.Super d a e = nothing_found call.Super a (finds_super p caller called)
            (λ at i. in_front at (found_by (finds_super p caller called)) (super_candidates p q (class_place p q.class)) (found_in_search (finds_super p caller called) at i)) (sym (ap by_name.is_nothing super_is) ∙ e)
        misses_number call.Interface d a e = refl
        misses_number call.Virtual d a e = by (or_cases (is_some (name.interface_named (named p) k.class)) (list_any (λ t. by_name.is_nothing (name.finds_at (named p) t k)) (by_name.receivers (named p) k.class)) e)
          where
            by : (is_some (name.interface_named (named p) k.class) ≡ true) ⊎ (list_any (λ t. by_name.is_nothing (name.finds_at (named p) t k)) (by_name.receivers (named p) k.class) ≡ true) → misses p caller call.Virtual called q ≡ true
            by (inl f) = let x = interface_known f in
                or_left (interface_there p (class_place p q.class)) (list_any (λ d. is_nothing (finds_at p d q.name q.proto)) (receivers p q.class)) (ap (interface_there p) x.1.0 ∙ x.1.1)
            by (inr f) =
                let x = any_where (λ t. by_name.is_nothing (name.finds_at (named p) t k)) (by_name.receivers (named p) k.class) f in
                or_right (interface_there p (class_place p q.class)) (list_any (λ d. is_nothing (finds_at p d q.name q.proto)) (receivers p q.class))
                (at x.0 x.1.1 (named_receiver x.0 (subst (λ t. In x.0 (by_name.receivers (named p) t)) class_is x.1.0)))
              where
                at : (t : Text) → by_name.is_nothing (name.finds_at (named p) t k) ≡ true → IsReceiver t ⊎ ((t ≡ type_at p q.class) × (class_place p q.class ≡ None)) → list_any (λ d. is_nothing (finds_at p d q.name q.proto)) (receivers p q.class) ≡ true
                at t g (inr z) = clash false (sym (ap is_some z.1) ∙ d) refl
                at t g (inl x) = any_here (λ d. is_nothing (finds_at p d q.name q.proto)) x.place (receivers p q.class) x.within
                    (nothing_found call.Virtual a (finds_at p x.place q.name q.proto)
                    (λ at i. in_flat (may_find_at p q) x.place at (receivers p q.class) x.within (in_front at (found_by (finds_at p x.place q.name q.proto)) (class_candidates p q x.place) (found_in_search (finds_at p x.place q.name q.proto) at i)))
                    (sym (ap by_name.is_nothing (at_receiver t x)) ∙ g))

        stays_named : (kind : InvokeKind) → list_all (is_it p n) (may_find p caller kind called q) ≡ true → may_leave p caller kind called q ≡ false → leaves.may_leave (named p) class kind k ≡ false
        stays_named kind a e = untrue (leaves.may_leave (named p) class kind k) (λ h. by (or_cases (not (defines (named p) k.class) || leaves.misses (named p) class kind k) (list_any (λ (g : Found). not g.coded) (by_name.may_find (named p) class kind k)) h))
          where
            first : ((not (is_some (class_place p q.class)) || misses p caller kind called q) ≡ false) × (list_any (λ at. not (has_code (look.method_at p at))) (may_find p caller kind called q) ≡ false)
            first = neither_of (not (is_some (class_place p q.class)) || misses p caller kind called q) (list_any (λ at. not (has_code (look.method_at p at))) (may_find p caller kind called q)) e

            both : (not (is_some (class_place p q.class)) ≡ false) × (misses p caller kind called q ≡ false)
            both = neither_of (not (is_some (class_place p q.class))) (misses p caller kind called q) first.0

            there : is_some (class_place p q.class) ≡ true
            there = not_false (is_some (class_place p q.class)) both.0

            defined_there : defines (named p) k.class ≡ true
            defined_there = ap (defines (named p)) class_is ∙ by_place (class_place p q.class) refl there
              where
                by_place : (o : Option ℕ) → class_place p q.class ≡ o → is_some o ≡ true → defines (named p) (type_at p q.class) ≡ true
                by_place None f g = clash false g refl
                by_place (Some u) f g = let x : Defined p q.class u = defined p q.class u f in
                    ap (λ o. elim o as (λ o. Bool) [ Some c ↦ true | None ↦ false ]) (ap (λ z. class_named (named p) (type_at p z)) (sym x.named) ∙ class_known p s once u x.class x.is)

            by_first : (not (defines (named p) k.class) ≡ true) ⊎ (leaves.misses (named p) class kind k ≡ true) → ⊥
            by_first (inl f) = clash (defines (named p) k.class) defined_there (not_true (defines (named p) k.class) f)
            by_first (inr f) = clash (misses p caller kind called q) (misses_number kind there a f) both.1

            by : ((not (defines (named p) k.class) || leaves.misses (named p) class kind k) ≡ true) ⊎ (list_any (λ (g : Found). not g.coded) (by_name.may_find (named p) class kind k) ≡ true) → ⊥
            by (inl f) = by_first (or_cases (not (defines (named p) k.class)) (leaves.misses (named p) class kind k) f)
            by (inr f) = let x = any_where (λ (g : Found). not g.coded) (by_name.may_find (named p) class kind k) f in
                clash (list_any (λ at. not (has_code (look.method_at p at))) (may_find p caller kind called q)) (coded_number kind a x.0 x.1.0 x.1.1) first.1

        -- a call that is plain by number is plain by name
        pub plain_named : (kind : InvokeKind) → is_plain_call p n caller kind called q ≡ true → loose.is_plain_call (named p) (method_at p n) class kind k ≡ true
        plain_named kind h =
            let x = four (resolves_to p n called) (is_subclass p n q) (not (may_leave p caller kind called q)) (list_all (is_it p n) (may_find p caller kind called q)) h in
            four_all (loose.resolves_to (named p) (method_at p n) k) (loose.is_subclass (named p) k.class (method_at p n).class) (not (leaves.may_leave (named p) class kind k))
            (list_all (λ g. method_eq g.key (method_at p n)) (by_name.may_find (named p) class kind k))
            (resolves_named x.0) (subclass_named x.1.0) (ap not (stays_named kind x.1.1.1 (not_true (may_leave p caller kind called q) x.1.1.0))) (alone_named kind x.1.1.1)
