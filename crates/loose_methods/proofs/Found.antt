-- What calls find of a candidate: a method of a class that is no interface.
use Rattle.std.proofs.Common.{◌≡◌, inl, inr, ℕ, ◌<◌, true, false, true≢false, nat_eq, List, [], ◌∷◌, ◌++◌, length, Option, Some, None, refl, sym, ap, ◌∙◌, subst}
use Rattle.std.specs.Prelude.{◌&&◌, ◌||◌, codes, flat_map, is_some, not, position, slice_get, option_and_then}
use Rattle.std.specs.List.{list_any}
use Rattle.std.specs.Option.{option_or, option_map}
use Rattle.std.proofs.lemmas.List.Folds.{list_any-append}
use Rattle.lemmas.proofs.Bools.{and_left, and_right, and_both, or_cases, or_none, clash, untrue, not_true}
use Rattle.lemmas.proofs.Lists.{got_short}
use Rattle.lemmas.proofs.Options.{none_some, some_same, before_map}
use Rattle.program_model.specs.Lookups.{class_place, method_at}
use Rattle.program_model.specs.MemberRules.{is_direct, is_static, has_flag}
use Rattle.program_model.specs.ProgramRules.{is_well_formed}
use Rattle.program_model.specs.declared.pass.Outside.{Outside}
use Rattle.program_model.specs.declared.pools.MethodName.{MethodName}
use Rattle.program_model.specs.declared.program.Class.{Class}
use Rattle.program_model.specs.declared.program.Method.{Method}
use Rattle.program_model.specs.declared.program.MethodAt.{MethodAt}
use Rattle.program_model.specs.declared.program.Program.{Program}
use Rattle.class_defs.specs.ClassGraph.{IsTwice}
use Rattle.class_defs.specs.Finding.{Search, Nothing, Clash, Finds, first_among, by_entry, finds_from, finds_static, finds_virtual, finds_at, finds_among, found_or, interfaces_from, resolves_method, resolution_of}
use Rattle.class_defs.specs.Members.{own_method, own_virtual, method_of_class, names_method, is_method, is_virtual, is_interface, string_is}
use Rattle.class_defs.specs.Starts.{is_trivial}
use Rattle.class_defs.specs.Places.{chain_of, is_under, interface_places}
use Rattle.class_defs.proofs.Positions.{place_first, place_entry, number_of, number_test, same_test}
use Rattle.hierarchy.specs.Climbing.{In}
use Rattle.hierarchy.specs.Ranks.{IsRanked}
use Rattle.hierarchy.specs.declared.build.Hierarchy.{Hierarchy}
use Rattle.hierarchy.specs.Shapes.{IsResolved}
use Rattle.receivers.specs.Receiving.{interface_at}
use Rattle.receivers.proofs.Found.{chain_over}
use Rattle.receivers.proofs.Owned.{found_along, owns}
use Rattle.receivers.proofs.Walks.{of_any, any_of}
use Rattle.loose_methods.specs.Candidates.{is_plain_class, takes_receiver, is_kept}
use Rattle.loose_methods.specs.Loose.{number_found, is_this, is_it, resolves_to, names_it, named_by, found_by, may_find_at, class_candidates, is_subclass, is_among, class_of_number, class_of_entry, is_alone}
use Rattle.loose_methods.specs.Marking.{IsCandidate}
use Rattle.loose_methods.proofs.Given.{no_method, class_given, among_has}
use Rattle.loose_methods.proofs.Once.{Owns, fits, class_once, number_once, stands, at_there}

-- ---- first answers

pub record FirstOf (f : ℕ → Option MethodAt) (cs : List ℕ) (at : MethodAt) : Type 0 where
  pub class : ℕ
  pub there : In class cs
  pub is : f class ≡ Some at

pub first_some : (f : ℕ → Option MethodAt) (cs : List ℕ) (at : MethodAt) → first_among f cs ≡ Some at → FirstOf f cs at
first_some f [] at e = none_some at e
first_some f (c ∷ cs) at e = by (f c) refl e (first_some f cs at)
  where
    by : (o : Option MethodAt) → f c ≡ o → option_or o (first_among f cs) ≡ Some at → (first_among f cs ≡ Some at → FirstOf f cs at) → FirstOf f (c ∷ cs) at
    by None g h more = let r = more h in record { class = r.class; there = inr r.there; is = r.is }
    by (Some x) g h more = record { class = c; there = inl refl; is = g ∙ h }

pub first_none : (f : ℕ → Option MethodAt) (cs : List ℕ) (u : ℕ) → first_among f cs ≡ None → In u cs → f u ≡ None
first_none f [] u e i = absurd i
first_none f (c ∷ cs) u e i = by (f c) refl e i (first_none f cs u)
  where
    by : (o : Option MethodAt) → f c ≡ o → option_or o (first_among f cs) ≡ None → In u (c ∷ cs) → (first_among f cs ≡ None → In u cs → f u ≡ None) → f u ≡ None
    by None g h (inl s) more = ap f s ∙ g
    by None g h (inr j) more = more h j
    by (Some x) g h j more = absurd (cc)

pub first_append : (f : ℕ → Option MethodAt) (xs ys : List ℕ) → first_among f (xs ++ ys) ≡ option_or (first_among f xs) (first_among f ys)
first_append f [] ys = refl
first_append f (x ∷ xs) ys = by (f x) (first_append f xs ys)
  where
    by : (o : Option MethodAt) → first_among f (xs ++ ys) ≡ option_or (first_among f xs) (first_among f ys) → option_or o (first_among f (xs ++ ys)) ≡ option_or (option_or o (first_among f xs)) (first_among f ys)
    by None e = e
    by (Some a) e = refl

pub method_class : (p : Program) (name proto c : ℕ) (x : MethodAt) → own_method p name proto c ≡ Some x → x.class ≡ c
method_class p name proto c x e = by (slice_get p.classes c) e
  where
    by : (o : Option Class) → method_of_class p name proto c o ≡ Some x → x.class ≡ c
    by None f = none_some x f
    by (Some k) f = let r = before_map (λ i. record { class = c; place = i }) (position (is_method p name proto) k.methods) x f in sym (ap (λ (y : MethodAt). y.class) r.1.1)

pub own_short : (p : Program) (name proto c : ℕ) (x : MethodAt) → own_method p name proto c ≡ Some x → c < length p.classes
own_short p name proto c x e = by (slice_get p.classes c) refl e
  where
    by : (o : Option Class) → slice_get p.classes c ≡ o → method_of_class p name proto c o ≡ Some x → c < length p.classes
    by None g f = none_some x f
    by (Some k) g f = got_short p.classes c k g

abbrev place_in : ℕ → ℕ → MethodAt
place_in c j = record { class = c; place = j }

-- a class that defines such a method has one by that name and proto
pub method_owned : (p : Program) (name proto c i : ℕ) (k : Class) (m : Method) → slice_get p.classes c ≡ Some k → slice_get k.methods i ≡ Some m → is_method p name proto m ≡ true → is_some (own_method p name proto c) ≡ true
method_owned p name proto c i k m e f g =
    let first = place_first (is_method p name proto) k.methods i m f g in
    ap (λ o. is_some (method_of_class p name proto c o)) e ∙ ap (λ o. is_some (option_map (place_in c) o)) first.is

-- the method that is found has the name and the proto
pub record NamedThere (p : Program) (name proto : ℕ) (at : MethodAt) : Type 0 where
  pub method : Method
  pub there : method_at p at ≡ Some method
  pub named : is_method p name proto method ≡ true

pub method_named : (p : Program) (name proto c : ℕ) (at : MethodAt) → own_method p name proto c ≡ Some at → NamedThere p name proto at
method_named p name proto c at e = by (slice_get p.classes c) refl e
  where
    by : (o : Option Class) → slice_get p.classes c ≡ o → method_of_class p name proto c o ≡ Some at → NamedThere p name proto at
    by None g f = none_some at f
    by (Some k) g f =
        let r = before_map (λ i. record { class = c; place = i }) (position (is_method p name proto) k.methods) at f in
        let fit = place_entry (is_method p name proto) k.methods r.0 r.1.0 in
        record {
          method = fit.entry;
          there = subst (λ x. method_at p x ≡ Some fit.entry) r.1.1 (ap (option_and_then (λ (w : Class). slice_get w.methods r.0)) g ∙ fit.is);
          named = fit.passes;
        }

-- ---- a candidate

module _ (p : Program) (h : Hierarchy) (wf : is_well_formed p ≡ true) (res : IsResolved p h) where
  once : (class : ℕ) → IsTwice p class → ⊥
  once = res.of.once

  ranked : IsRanked p
  ranked = res.of.ranked

  -- the class of a type is the one that has that name
  pub own_place : (c : ℕ) (k : Class) → slice_get p.classes c ≡ Some k → class_place p k.name ≡ Some c
  own_place c k e =
      let first = place_first (λ (x : Class). nat_eq x.name k.name) p.classes c k e (number_test k.name k.name refl) in
      let fit = place_entry (λ (x : Class). nat_eq x.name k.name) p.classes first.place first.is in
      first.is ∙ ap (λ z. Some z) (class_once p wf once first.place c fit.entry k fit.is e (number_of fit.entry.name k.name fit.passes))

  module _ (o : Outside) (n : ℕ) (c : IsCandidate p o n) where
    owned : Owns p c.place c.class c.at c.method
    owned = record { is_class = c.is_class; is_method = c.is_method }

    at_method : slice_get p.methods c.method.name ≡ Some c.name
    at_method = ap (slice_get p.methods) c.is_number ∙ c.is_name

    parts : (is_plain_class p c.place c.class ≡ true) × ((takes_receiver p c.name c.method ≡ true) × ((is_direct p c.method || is_alone p c.name c.place) ≡ true))
    parts =
        let three = and_left (is_plain_class p c.place c.class && takes_receiver p c.name c.method && not (is_kept o c.method.name)) (is_direct p c.method || is_alone p c.name c.place) c.holds in
        let two = and_left (is_plain_class p c.place c.class && takes_receiver p c.name c.method) (not (is_kept o c.method.name)) three in (
          and_left (is_plain_class p c.place c.class) (takes_receiver p c.name c.method) two,
          (and_right (is_plain_class p c.place c.class) (takes_receiver p c.name c.method) two, and_right (is_plain_class p c.place c.class && takes_receiver p c.name c.method && not (is_kept o c.method.name)) (is_direct p c.method || is_alone p c.name c.place) c.holds),
        )

    -- its class is no interface
    pub plain : interface_at p c.place ≡ false
    plain = ap is_interface c.is_class ∙ not_true (has_flag c.class.flags 512) (and_left (not (has_flag c.class.flags 512)) (is_trivial p c.place) parts.0)

    -- it has code
    pub coded : is_some c.method.body ≡ true
    coded = and_left (is_some c.method.body) (not (is_static c.method.flags)) (and_left (is_some c.method.body && not (is_static c.method.flags)) (not (string_is p c.name.name (codes "<init>"))) parts.1.0)

    pub free : (is_direct p c.method || is_alone p c.name c.place) ≡ true
    free = parts.1.1

    -- a place with its number is its own
    pub here : (at : MethodAt) → is_it p n at ≡ true → at ≡ record { class = c.place; place = c.at }
    here at e =
        let s = stands p at n e in
        let same = number_once p wf once at.class c.place at.place c.at s.class c.class s.method c.method s.owns owned (s.is_number ∙ sym c.is_number) in
        ap (λ x. record { class = x; place = at.place }) same.class ∙ ap (λ x. record { class = c.place; place = x }) same.place

    pub itself : is_it p n (record { class = c.place; place = c.at }) ≡ true
    itself = ap (λ (x : Option Method). is_this n (option_map (λ (m : Method). m.name) x)) (at_there p (record { class = c.place; place = c.at }) c.class c.method owned) ∙ number_test c.method.name n c.is_number

    pub method_here : method_at p (record { class = c.place; place = c.at }) ≡ Some c.method
    method_here = at_there p (record { class = c.place; place = c.at }) c.class c.method owned

    -- what stands in an interface is another one
    pub other_than : (at : MethodAt) → interface_at p at.class ≡ true → is_it p n at ≡ false
    other_than at i = untrue (is_it p n at) (λ e. clash (interface_at p c.place) (ap (λ (x : MethodAt). interface_at p x.class) (sym (here at e)) ∙ i) plain)

    -- the number names its class
    pub class_is : class_of_number p n ≡ Some c.place
    class_is =
        let fit = fits p wf once c.place c.class c.at c.method owned in
        let same : c.name ≡ fit.entry = some_same c.name fit.entry (sym at_method ∙ fit.is) in
        ap (class_of_entry p) c.is_name ∙ ap (λ (x : MethodName). class_place p x.class) same ∙ ap (class_place p) fit.owner ∙ own_place c.place c.class c.is_class

    -- a class that is it defines it under its name and proto
    pub names_are : (name proto d : ℕ) (at : MethodAt) → own_method p name proto d ≡ Some at → is_it p n at ≡ true → (c.name.name ≡ name) × (c.name.proto ≡ proto)
    names_are name proto d at e f =
        let m = method_named p name proto d at e in
        let same : m.method ≡ c.method = some_same m.method c.method (sym m.there ∙ ap (method_at p) (here at f) ∙ method_here) in
        let test : names_method name proto (Some c.name) ≡ true = ap (names_method name proto) (sym at_method) ∙ ap (is_method p name proto) (sym same) ∙ m.named in
        (number_of c.name.name name (and_left (nat_eq c.name.name name) (nat_eq c.name.proto proto) test), number_of c.name.proto proto (and_right (nat_eq c.name.name name) (nat_eq c.name.proto proto) test))

    -- ---- the one that a number names through its class or one under that

    module _ (called : ℕ) (q : MethodName) (entry : slice_get p.methods called ≡ Some q) where
      abbrev chain : List ℕ
      chain = chain_of p (class_place p q.class)

      abbrev own : ℕ → Option MethodAt
      own = own_method p q.name q.proto

      pub static_is : finds_static p called ≡ first_among own chain
      static_is = ap (by_entry (λ (x : MethodName). finds_from p x.name x.proto (class_place p x.class))) entry

      resolved_is : resolves_method p called ≡ first_among own (resolution_of p (class_place p q.class))
      resolved_is = ap (by_entry (λ (x : MethodName). first_among (own_method p x.name x.proto) (resolution_of p (class_place p x.class)))) entry

      abbrev rest : List ℕ
      rest = interfaces_from (length p.classes) p (flat_map (interface_places p) chain)

      -- what is found along the superclasses is what it resolves to
      pub resolves_static : (at : MethodAt) → finds_static p called ≡ Some at → resolves_method p called ≡ Some at
      resolves_static at e = resolved_is ∙ first_append own chain rest ∙ ap (λ x. option_or x (first_among own rest)) (sym static_is ∙ e)

      subclass_by : (b : Option ℕ) → class_of_number p n ≡ b → is_subclass p n q ≡ is_among chain b
      subclass_by b e = ap (is_among chain) e

      -- a class that has the method's among its superclasses finds it, where the name resolves to it
      pub static_so : resolves_to p n called ≡ true → is_subclass p n q ≡ true → is_this n (number_found p (finds_static p called)) ≡ true
      static_so e f = by (finds_static p called) refl
        where
          among : In c.place chain
          among = let a = any_of (nat_eq c.place) chain (sym (subclass_by (Some c.place) class_is) ∙ f) in subst (λ x. In x chain) (sym (number_of c.place a.at a.is)) a.there

          by_resolved : (x : Option MethodAt) → resolves_method p called ≡ x → is_this n (number_found p x) ≡ true → first_among own chain ≡ None → ⊥
          by_resolved None g i j = true≢false (sym i)
          by_resolved (Some at) g i j =
              let first = first_some own (resolution_of p (class_place p q.class)) at (sym resolved_is ∙ g) in
              let at_class : first.class ≡ c.place = sym (method_class p q.name q.proto first.class at first.is) ∙ ap (λ (y : MethodAt). y.class) (here at i) in
              let none : own c.place ≡ None = first_none own chain c.place j among in
              none_some at (sym none ∙ ap own (sym at_class) ∙ first.is)

          by : (x : Option MethodAt) → finds_static p called ≡ x → is_this n (number_found p (finds_static p called)) ≡ true
          by None g = absurd (by_resolved (resolves_method p called) refl e (sym static_is ∙ g))
          by (Some at) g = ap (λ x. is_this n (number_found p x)) (g ∙ sym (resolves_static at g)) ∙ e

      pub so_static : is_this n (number_found p (finds_static p called)) ≡ true → (resolves_to p n called && is_subclass p n q) ≡ true
      so_static e = by (finds_static p called) refl e
        where
          by : (x : Option MethodAt) → finds_static p called ≡ x → is_this n (number_found p x) ≡ true → (resolves_to p n called && is_subclass p n q) ≡ true
          by None g f = absurd (true≢false (sym f))
          by (Some at) g f =
              let first = first_some own chain at (sym static_is ∙ g) in
              let at_class : first.class ≡ c.place = sym (method_class p q.name q.proto first.class at first.is) ∙ ap (λ (y : MethodAt). y.class) (here at f) in
              and_both (resolves_to p n called) (is_subclass p n q) (ap (λ x. is_this n (number_found p x)) (resolves_static at g) ∙ f)
              (subclass_by (Some c.place) class_is ∙ of_any (nat_eq c.place) chain c.place (subst (λ x. In x chain) at_class first.there) (number_test c.place c.place refl))

      pub static_same : (resolves_to p n called && is_subclass p n q) ≡ is_this n (number_found p (finds_static p called))
      static_same = same_test (resolves_to p n called && is_subclass p n q) (is_this n (number_found p (finds_static p called)))
          (λ e. static_so (and_left (resolves_to p n called) (is_subclass p n q) e) (and_right (resolves_to p n called) (is_subclass p n q) e)) so_static

      -- a name that resolves to it is one of it
      pub names_resolved : resolves_to p n called ≡ true → names_it p n called ≡ true
      names_resolved e = by (resolves_method p called) e
        where
          by : (x : Option MethodAt) → is_this n (number_found p x) ≡ true → is_this n (named_by p called x) ≡ true
          by None f = absurd (true≢false (sym f))
          by (Some at) f = f

      pub names_static : is_this n (number_found p (finds_static p called)) ≡ true → names_it p n called ≡ true
      names_static e = names_resolved (and_left (resolves_to p n called) (is_subclass p n q) (so_static e))

    -- ---- what an object finds

    module _ (q : MethodName) where
      abbrev virtually : ℕ → Option MethodAt
      virtually d = finds_virtual p q.name q.proto d

      abbrev among : ℕ → Search
      among d = finds_among p (flat_map (interface_places p) (chain_of p (Some d))) q.name q.proto

      pub none_given : (d : ℕ) → list_any (is_it p n) (class_candidates p q d) ≡ false
      none_given d = no_method (is_it p n) (class_candidates p q d) (λ x i. other_than x (class_given p ranked q.name q.proto d x i).interface)

      pub not_among : (d : ℕ) → list_any (is_it p n) (found_by (among d)) ≡ false
      not_among d = by (among d) refl
        where
          by : (s : Search) → among d ≡ s → list_any (is_it p n) (found_by s) ≡ false
          by Nothing e = refl
          by Clash e = refl
          by (Finds at) e = ap (λ b. b || false) (other_than at (class_given p ranked q.name q.proto d at (among_has p ranked q.name q.proto (flat_map (interface_places p) (chain_of p (Some d))) at e)).interface)

      -- it is what it finds along its superclasses
      pub found_at : (d : ℕ) → list_any (is_it p n) (may_find_at p q d) ≡ is_this n (number_found p (finds_virtual p q.name q.proto d))
      found_at d = list_any-append (is_it p n) (found_by (finds_at p d q.name q.proto)) (class_candidates p q d) ∙ ap (λ b. list_any (is_it p n) (found_by (finds_at p d q.name q.proto)) || b) (none_given d)
          ∙ or_none (list_any (is_it p n) (found_by (finds_at p d q.name q.proto))) ∙ by (virtually d)
        where
          by : (x : Option MethodAt) → list_any (is_it p n) (found_by (found_or x (among d))) ≡ is_this n (number_found p x)
          by None = not_among d
          by (Some at) = or_none (is_it p n at)

      -- a class that finds it stands under its class, which defines it as a virtual method
      pub record FindsIt (d : ℕ) : Type 0 where
        pub at : MethodAt
        pub is : finds_virtual p q.name q.proto d ≡ Some at
        pub it : is_it p n at ≡ true
        pub own : own_virtual p q.name q.proto at.class ≡ Some at
        pub class : at.class ≡ c.place
        pub under : is_under p d at.class ≡ true

      pub finds_it : (d : ℕ) → is_this n (number_found p (finds_virtual p q.name q.proto d)) ≡ true → FindsIt d
      finds_it d e = by (virtually d) refl e
        where
          by : (x : Option MethodAt) → virtually d ≡ x → is_this n (number_found p x) ≡ true → FindsIt d
          by None f g = absurd (true≢false (sym g))
          by (Some at) f g =
              let a = found_along p q.name q.proto (chain_of p (Some d)) at f in
              record { at = at; is = f; it = g; own = a.own; class = ap (λ (x : MethodAt). x.class) (here at g); under = chain_over p ranked q.name q.proto d at.class a.there }

      -- then nothing else reaches it
      pub alone : (at : MethodAt) → own_virtual p q.name q.proto at.class ≡ Some at → is_it p n at ≡ true → is_alone p c.name c.place ≡ true
      alone at e f =
          let v = (owns p q.name q.proto at.class at e).virtual in
          let direct : is_direct p c.method ≡ false = not_true (is_direct p c.method) (sym (ap (is_virtual p) (ap (method_at p) (here at f) ∙ method_here)) ∙ v) in
          elim (or_cases (is_direct p c.method) (is_alone p c.name c.place) free) [ inl g ↦ clash (is_direct p c.method) g direct | inr g ↦ g ]
