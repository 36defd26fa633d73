-- Where methods that are found stand: in classes above the one that is asked.
use Rattle.std.proofs.Common.{◌≡◌, ℕ, zero, suc, ◌<◌, inl, inr, Bool, true, false, true≢false, List, [], ◌∷◌, ◌++◌, length, refl, sym, ap, subst, ◌∙◌, arith, Some, None, Option}
use Rattle.std.specs.Prelude.{cond, not, ◌&&◌, nat_eq, Contains, slice_get, position, option_and_then}
use Rattle.std.specs.List.{flat_map}
use Rattle.std.specs.Option.{option_map, option_or}
use Rattle.program_model.specs.declared.pools.MethodName.{MethodName}
use Rattle.program_model.specs.declared.program.Method.{Method}
use Rattle.program_model.specs.declared.program.MethodAt.{MethodAt}
use Rattle.program_model.specs.declared.program.Class.{Class}
use Rattle.program_model.specs.declared.program.Program.{Program}
use Rattle.program_model.specs.Lookups.{class_place, method_at}
use Rattle.program_model.specs.MemberRules.{is_direct}
use Rattle.program_model.specs.ProgramRules.{is_well_formed}
use Rattle.class_defs.specs.Places.{super_place, placed, places_of, listed, interface_places, chain_from, chain_of}
use Rattle.class_defs.specs.Members.{names_method, is_method, method_of_class, own_method, virtual_only, own_virtual, is_interface, is_common, is_virtual}
use Rattle.class_defs.specs.Finding.{first_among, finds_virtual, one_or_none, candidates_from, without_repeats, candidates, is_037}
use Rattle.class_defs.proofs.Positions.{place_entry, number_of}
use Rattle.class_defs.proofs.WellFormed.{sound, class_parts, and_left, and_right}
use Rattle.call_graph.specs.Follows.{class_of}
use Rattle.call_graph.specs.Above.{above_of, Climbs}
use Rattle.call_graph.proofs.Contained.{none_in, first_in, later_in, only_in, first_or, flat_from, filter_from, get_in}
use Rattle.std.proofs.lemmas.List.Elements.{Contains-append_cases}

none_some : {X : Type 0} (x : X) → None ≡ Some x → ⊥
none_some x e = cc

some_inj : {X : Type 0} (x y : X) → Some x ≡ Some y → x ≡ y
some_inj x y e = cc

-- ---- the virtual method that a class itself defines

pub record Owns (p : Program) (name proto c : ℕ) (at : MethodAt) : Type 0 where
  pub class : Class
  pub method : Method
  pub entry : MethodName
  pub is_class : slice_get p.classes c ≡ Some class
  pub there : Contains class.methods method
  pub found : method_at p at ≡ Some method
  pub named : slice_get p.methods method.name ≡ Some entry
  pub name_is : entry.name ≡ name
  pub proto_is : entry.proto ≡ proto
  pub virtual : is_direct p method ≡ false

names_of : (name proto : ℕ) (o : Option MethodName) → names_method name proto o ≡ true → (q : MethodName) × ((o ≡ Some q) × ((q.name ≡ name) × (q.proto ≡ proto)))
names_of name proto None h = absurd (true≢false (sym h))
names_of name proto (Some q) h = (q, (refl, (number_of q.name name (and_left (nat_eq q.name name) (nat_eq q.proto proto) h), number_of q.proto proto (and_right (nat_eq q.name name) (nat_eq q.proto proto) h))))

not_true : (b : Bool) → not b ≡ true → b ≡ false
not_true true h = absurd (true≢false (sym h))
not_true false h = refl

only_virtual : (p : Program) (o : Option MethodAt) (at : MethodAt) → virtual_only p o ≡ Some at → (o ≡ Some at) × (is_virtual p (method_at p at) ≡ true)
only_virtual p None at e = absurd (none_some at e)
only_virtual p (Some x) at e = by (is_virtual p (method_at p x)) refl e
  where
    by : (b : Bool) → is_virtual p (method_at p x) ≡ b → cond b (Some x) None ≡ Some at → (Some x ≡ Some at) × (is_virtual p (method_at p at) ≡ true)
    by true h e = (e, subst (λ z. is_virtual p (method_at p z) ≡ true) (some_inj x at e) h)
    by false h e = absurd (none_some at e)

pub owned : (p : Program) (name proto c : ℕ) (at : MethodAt) → own_virtual p name proto c ≡ Some at → Owns p name proto c at
owned p name proto c at e = let r = only_virtual p (own_method p name proto c) at e in by_class (slice_get p.classes c) refl r.0 r.1
  where
    by_class : (o : Option Class) → slice_get p.classes c ≡ o → method_of_class p name proto c o ≡ Some at → is_virtual p (method_at p at) ≡ true → Owns p name proto c at
    by_class None g e v = absurd (none_some at e)
    by_class (Some k) g e v = by_place (position (is_method p name proto) k.methods) refl e
      where
        by_place : (o : Option ℕ) → position (is_method p name proto) k.methods ≡ o → option_map (λ i. record { class = c; place = i }) o ≡ Some at → Owns p name proto c at
        by_place None h e = absurd (none_some at e)
        by_place (Some i) h e =
            let same : record { class = c; place = i } ≡ at = some_inj _ at e in
            let f = place_entry (is_method p name proto) k.methods i h in
            let q = names_of name proto (slice_get p.methods f.entry.name) f.passes in
            let found : method_at p at ≡ Some f.entry = subst (λ z. method_at p z ≡ Some f.entry) same (ap (option_and_then (λ x. slice_get x.methods i)) g ∙ f.is) in
            record {
              class = k;
              method = f.entry;
              entry = q.0;
              is_class = g;
              there = get_in k.methods i f.entry f.is;
              found = found;
              named = q.1.0;
              name_is = q.1.1.0;
              proto_is = q.1.1.1;
              virtual = not_true (is_direct p f.entry) (sym (ap (is_virtual p) found) ∙ v);
            }

-- ---- classes above a type

-- the type is above another, and the class at the place defines it
pub record StandsAt (p : Program) (kind c : ℕ) : Type 0 where
  pub top : ℕ
  pub climbs : Climbs p kind top
  pub at_place : class_place p top ≡ Some c

pub climb_then : (p : Program) (a b c : ℕ) → Climbs p a b → Climbs p b c → Climbs p a c
climb_then p a b c (Climbs.Itself x) g = g
climb_then p a b c (Climbs.Through x next y lt i more) g = Climbs.Through a next c lt i (climb_then p next b c more g)

module _ (p : Program) (fits : is_well_formed p ≡ true) where
  -- the type of a class is one of the table
  pub kind_short : (kind c : ℕ) → class_place p kind ≡ Some c → kind < length p.types
  kind_short kind c e = let f = place_entry (λ k. nat_eq k.name kind) p.classes c e in let s = (class_parts p (sound p fits) c f.entry f.is).name in let i = number_of f.entry.name kind f.passes in omega (arith, s, i)

  pub top_short : (kind c : ℕ) (s : StandsAt p kind c) → s.top < length p.types
  top_short kind c s = kind_short s.top c s.at_place

  class_is : (kind c : ℕ) (k : Class) → class_place p kind ≡ Some c → slice_get p.classes c ≡ Some k → class_of p kind ≡ Some k
  class_is kind c k e g = ap (option_and_then (slice_get p.classes)) e ∙ g

  -- a step up from a class to one of those directly above it
  step_up : (kind c next d : ℕ) (k : Class) → (s : StandsAt p kind c) → slice_get p.classes c ≡ Some k → Contains (k.superclass ∷ k.interfaces) next → class_place p next ≡ Some d → StandsAt p kind d
  step_up kind c next d k s g i e = record {
    top = next;
    climbs = climb_then p kind s.top next s.climbs (Climbs.Through s.top next next (top_short kind c s) (subst (λ o. Contains (above_of o) next) (sym (class_is s.top c k s.at_place g)) i) (Climbs.Itself next));
    at_place = e;
  }

  super_up : (kind c d : ℕ) → StandsAt p kind c → super_place p c ≡ Some d → StandsAt p kind d
  super_up kind c d s e = by (slice_get p.classes c) refl e
    where
      by : (o : Option Class) → slice_get p.classes c ≡ o → option_and_then (λ k. class_place p k.superclass) o ≡ Some d → StandsAt p kind d
      by None g e = absurd (none_some d e)
      by (Some k) g e = step_up kind c k.superclass d k s g (first_in k.superclass k.interfaces) e

  placed_in : (ks : List ℕ) (d : ℕ) → Contains (places_of p ks) d → (k : ℕ) × (Contains ks k × (class_place p k ≡ Some d))
  placed_in [] d i = absurd (none_in d i)
  placed_in (k ∷ ks) d i = by (class_place p k) refl (placed_in ks d) i
    where
      later : ((j : ℕ) × (Contains ks j × (class_place p j ≡ Some d))) → (j : ℕ) × (Contains (k ∷ ks) j × (class_place p j ≡ Some d))
      later r = (r.0, (later_in k ks r.0 r.1.0, r.1.1))

      by : (o : Option ℕ) → class_place p k ≡ o → (Contains (places_of p ks) d → (j : ℕ) × (Contains ks j × (class_place p j ≡ Some d))) → Contains (placed o (places_of p ks)) d → (j : ℕ) × (Contains (k ∷ ks) j × (class_place p j ≡ Some d))
      by None g more i = later (more i)
      by (Some c) g more i = elim (first_or c (places_of p ks) d i) [ inl e ↦ (k, (first_in k ks, g ∙ ap (λ z. Some z) e)) | inr e ↦ later (more e) ]

  interface_up : (kind c d : ℕ) → StandsAt p kind c → Contains (interface_places p c) d → StandsAt p kind d
  interface_up kind c d s i = by (slice_get p.classes c) refl i
    where
      by : (o : Option Class) → slice_get p.classes c ≡ o → Contains (listed p o) d → StandsAt p kind d
      by None g i = absurd (none_in d i)
      by (Some k) g i = let r = placed_in k.interfaces d i in step_up kind c r.0 d k s g (later_in k.superclass k.interfaces r.0 r.1.0) r.1.1

  chain_up : (n kind d : ℕ) (o : Option ℕ) → ((c : ℕ) → o ≡ Some c → StandsAt p kind c) → Contains (chain_from (super_place p) n o) d → StandsAt p kind d
  chain_up zero kind d o s i = absurd (none_in d i)
  chain_up (suc n) kind d None s i = absurd (none_in d i)
  chain_up (suc n) kind d (Some c) s i = elim (first_or c (chain_from (super_place p) n (super_place p c)) d i) [
    | inl e ↦ subst (StandsAt p kind) e (s c refl)
    | inr e ↦ chain_up n kind d (super_place p c) (λ x h. super_up kind c x (s c refl) h) e
  ]

  -- ---- what is found stands above

  first_from : (f : ℕ → Option MethodAt) (cs : List ℕ) (at : MethodAt) → first_among f cs ≡ Some at → (c : ℕ) × (Contains cs c × (f c ≡ Some at))
  first_from f [] at e = absurd (none_some at e)
  first_from f (c ∷ cs) at e = by (f c) refl (first_from f cs at) e
    where
      by : (o : Option MethodAt) → f c ≡ o → (first_among f cs ≡ Some at → (d : ℕ) × (Contains cs d × (f d ≡ Some at))) → option_or o (first_among f cs) ≡ Some at → (d : ℕ) × (Contains (c ∷ cs) d × (f d ≡ Some at))
      by None g more e = let r = more e in (r.0, (later_in c cs r.0 r.1.0, r.1.1))
      by (Some x) g more e = (c, (first_in c cs, g ∙ e))

  -- a virtual method that a class or interface above a type defines
  pub record OwnsAbove (name proto kind : ℕ) (at : MethodAt) : Type 0 where
    pub place : ℕ
    pub above : StandsAt p kind place
    pub own : own_virtual p name proto place ≡ Some at

  pub found_above : (name proto kind c : ℕ) (at : MethodAt) → class_place p kind ≡ Some c → finds_virtual p name proto c ≡ Some at → OwnsAbove name proto kind at
  found_above name proto kind c at k e =
      let r = first_from (own_virtual p name proto) (chain_of p (Some c)) at e in
      record { place = r.0; above = chain_up (length p.classes) kind r.0 (Some c) (λ x h. record { top = kind; climbs = Climbs.Itself kind; at_place = k ∙ h }) r.1.0; own = r.1.1 }

  from_one : (o : Option MethodAt) (at : MethodAt) → Contains (one_or_none o) at → o ≡ Some at
  from_one None at i = absurd (none_in at i)
  from_one (Some x) at i = ap (λ z. Some z) (only_in x at i)

  collected : (n name proto kind : ℕ) (cs : List ℕ) (at : MethodAt) → ((c : ℕ) → Contains cs c → StandsAt p kind c) → Contains (candidates_from n p name proto cs) at → OwnsAbove name proto kind at
  collected zero name proto kind cs at s i = absurd (none_in at i)
  collected (suc n) name proto kind cs at s i =
      let f = flat_from (λ c. cond (is_interface (slice_get p.classes c)) (one_or_none (own_virtual p name proto c) ++ candidates_from n p name proto (interface_places p c)) []) cs at i in
      by (is_interface (slice_get p.classes f.one)) f.one (s f.one f.is_in) (λ h. collected n name proto kind (interface_places p f.one) at (λ d k. interface_up kind f.one d (s f.one f.is_in) k) h) f.has
    where
      by : (b : Bool) (c : ℕ) → StandsAt p kind c → (Contains (candidates_from n p name proto (interface_places p c)) at → OwnsAbove name proto kind at)
          → Contains (cond b (one_or_none (own_virtual p name proto c) ++ candidates_from n p name proto (interface_places p c)) []) at → OwnsAbove name proto kind at
      by true c j more h = elim (Contains-append_cases (one_or_none (own_virtual p name proto c)) (candidates_from n p name proto (interface_places p c)) at h) [
        | inl e ↦ record { place = c; above = j; own = from_one (own_virtual p name proto c) at e }
        | inr e ↦ more e
      ]
      by false c j more h = absurd (none_in at h)

  once_from : (fs : List MethodAt) (at : MethodAt) → Contains (without_repeats fs) at → Contains fs at
  once_from [] at i = i
  once_from (f ∷ fs) at i = elim (first_or f _ at i) [
    | inl e ↦ subst (Contains (f ∷ fs)) e (first_in f fs)
    | inr e ↦ later_in f fs at (once_from fs at (filter_from (λ g. not (nat_eq g.class f.class)) (without_repeats fs) at e))
  ]

  -- a candidate stands in an interface above the type, and there are some only in version 037 and for methods that not each object has
  pub candidate_above : (name proto kind c : ℕ) (at : MethodAt) → class_place p kind ≡ Some c → Contains (candidates p (flat_map (interface_places p) (chain_of p (Some c))) name proto) at
      → (OwnsAbove name proto kind at) × ((is_037 p.version && not (is_common p name proto)) ≡ true)
  candidate_above name proto kind c at k i = by (is_037 p.version && not (is_common p name proto)) refl i
    where
      cs : List ℕ
      cs = flat_map (interface_places p) (chain_of p (Some c))

      stands : (d : ℕ) → Contains cs d → StandsAt p kind d
      stands d j = let f = flat_from (interface_places p) (chain_of p (Some c)) d j in
          interface_up kind f.one d (chain_up (length p.classes) kind f.one (Some c) (λ x h. record { top = kind; climbs = Climbs.Itself kind; at_place = k ∙ h }) f.is_in) f.has

      by : (b : Bool) → (is_037 p.version && not (is_common p name proto)) ≡ b → Contains (cond b (without_repeats (candidates_from (length p.classes) p name proto cs)) []) at
          → (OwnsAbove name proto kind at) × ((is_037 p.version && not (is_common p name proto)) ≡ true)
      by true g i = (collected (length p.classes) name proto kind cs at stands (once_from (candidates_from (length p.classes) p name proto cs) at i), g)
      by false g i = absurd (none_in at i)
