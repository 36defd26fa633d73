-- What classes find, by method numbers.
use Rattle.std.proofs.Common.{◌≡◌, ℕ, zero, suc, inl, inr, Bool, true, false, true≢false, nat_eq, List, [], ◌∷◌, ◌++◌, length, Option, Some, None, refl, sym, ap, subst, ◌∙◌}
use Rattle.std.specs.Prelude.{◌⊎◌, ◌&&◌, not, cond, slice_get, position, option_and_then, filter, flat_map}
use Rattle.std.specs.Option.{option_map, option_or}
use Rattle.program_model.specs.declared.pools.MethodName.{MethodName}
use Rattle.program_model.specs.declared.program.Method.{Method}
use Rattle.program_model.specs.declared.program.MethodAt.{MethodAt}
use Rattle.program_model.specs.declared.program.Class.{Class}
use Rattle.program_model.specs.declared.program.Program.{Program}
use Rattle.program_model.specs.Lookups.{method_at}
use Rattle.program_model.specs.MemberRules.{has_flag}
use Rattle.program_model.specs.ProgramRules.{is_well_formed}
use Rattle.class_defs.specs.ClassGraph.{IsTwice}
use Rattle.class_defs.specs.Places.{interface_places, chain_of}
use Rattle.class_defs.specs.Members.{names_method, is_method, is_virtual, method_of_class, own_method, virtual_only, own_virtual, has_code, is_interface, is_common}
use Rattle.class_defs.specs.Finding.{first_among, finds_virtual, one_or_none, candidates_from, without_repeats, is_037, candidates, is_lowest, lowest, verdict, finds_among, found_or, by_entry}
use Rattle.class_defs.proofs.Positions.{place_entry, number_of, number_test, both}
use Rattle.class_defs.proofs.WellFormed.{and_left, and_right}
use Rattle.stub_library.specs.Marking.{number_at, found_by}
use Rattle.stub_library.specs.Shut.{is_found_in, finds_it}
use Rattle.stub_library.specs.Lists.{In}
use Rattle.stub_library.proofs.Lists.{in_either, from_flat}
use Rattle.stub_library.proofs.Unique.{Owns, number_once, key_once}

-- ---- along a class and its superclasses

pub record First (f : ℕ → Option MethodAt) (cs : List ℕ) (at : MethodAt) : Type 0 where
  pub one : ℕ
  pub is_in : In one cs
  pub gives : f one ≡ Some at

pub first_some : (f : ℕ → Option MethodAt) (cs : List ℕ) (at : MethodAt) → first_among f cs ≡ Some at → First f cs at
first_some f [] at e = cc
first_some f (c ∷ cs) at e = by (f c) refl e (first_some f cs at)
  where
    by : (o : Option MethodAt) → f c ≡ o → option_or o (first_among f cs) ≡ Some at → (first_among f cs ≡ Some at → First f cs at) → First f (c ∷ cs) at
    by (Some x) g h more = record { one = c; is_in = inl refl; gives = g ∙ h }
    by None g h more = let r = more h in record { one = r.one; is_in = inr r.is_in; gives = r.gives }

-- a virtual method of a name and a proto that a class defines
pub record OwnVirtual (p : Program) (name proto c : ℕ) (at : MethodAt) : Type 0 where
  pub class : Class
  pub method : Method
  pub at_class : at.class ≡ c
  pub owns : Owns p at.class class at.place method
  pub named : is_method p name proto method ≡ true

pub own_at : (p : Program) (name proto c : ℕ) (at : MethodAt) → own_virtual p name proto c ≡ Some at → OwnVirtual p name proto c at
own_at p name proto c at e = by_own (own_method p name proto c) refl e
  where
    by_place : (k : Class) → slice_get p.classes c ≡ Some k → (o : Option ℕ) → position (is_method p name proto) k.methods ≡ o → option_map (λ i. record { class = c; place = i }) o ≡ Some at → OwnVirtual p name proto c at
    by_place k f None g h = cc
    by_place k f (Some i) g h =
        let z : record { class = c; place = i } ≡ at = cc in
        let fits = place_entry (is_method p name proto) k.methods i g in
        record {
          class = k;
          method = fits.entry;
          at_class = sym (ap (λ a. a.class) z);
          owns = record { is_class = ap (λ a. slice_get p.classes a.class) (sym z) ∙ f; is_method = ap (λ a. slice_get k.methods a.place) (sym z) ∙ fits.is };
          named = fits.passes;
        }

    by_class : (x : Option Class) → slice_get p.classes c ≡ x → method_of_class p name proto c x ≡ Some at → OwnVirtual p name proto c at
    by_class None f g = cc
    by_class (Some k) f g = by_place k f (position (is_method p name proto) k.methods) refl g

    by_virtual : (x : MethodAt) (b : Bool) → own_method p name proto c ≡ Some x → cond b (Some x) None ≡ Some at → OwnVirtual p name proto c at
    by_virtual x true f g = by_class (slice_get p.classes c) refl (f ∙ g)
    by_virtual x false f g = cc

    by_own : (o : Option MethodAt) → own_method p name proto c ≡ o → virtual_only p o ≡ Some at → OwnVirtual p name proto c at
    by_own None f g = cc
    by_own (Some x) f g = by_virtual x (is_virtual p (method_at p x)) f g

pub number_here : (p : Program) (at : MethodAt) (k : Class) (m : Method) → Owns p at.class k at.place m → number_at p at ≡ Some m.name
number_here p at k m o = ap (λ c. option_map (λ (x : Method). x.name) (option_and_then (λ (u : Class). slice_get u.methods at.place) c)) o.is_class ∙ ap (option_map (λ (x : Method). x.name)) o.is_method

-- ---- candidates stand in interfaces

in_filter : {X : Type 0} (test : X → Bool) (xs : List X) (x : X) → In x (filter test xs) → In x xs
in_filter test [] x i = i
in_filter test (y ∷ ys) x i = by (test y) i (in_filter test ys x)
  where
    by : (b : Bool) → In x (cond b (y ∷ filter test ys) (filter test ys)) → (In x (filter test ys) → In x ys) → (y ≡ x) ⊎ In x ys
    by true (inl e) more = inl e
    by true (inr j) more = inr (more j)
    by false j more = inr (more j)

in_once : (fs : List MethodAt) (f : MethodAt) → In f (without_repeats fs) → In f fs
in_once [] f i = i
in_once (g ∷ gs) f (inl e) = inl e
in_once (g ∷ gs) f (inr i) = inr (in_once gs f (in_filter (λ x. not (nat_eq x.class g.class)) (without_repeats gs) f i))

in_interface : (n : ℕ) (p : Program) (name proto : ℕ) (cs : List ℕ) (f : MethodAt) → In f (candidates_from n p name proto cs) → is_interface (slice_get p.classes f.class) ≡ true
in_interface zero p name proto cs f i = absurd i
in_interface (suc n) p name proto cs f i =
    let one = from_flat (λ c. cond (is_interface (slice_get p.classes c)) (one_or_none (own_virtual p name proto c) ++ candidates_from n p name proto (interface_places p c)) []) cs f i in
    by one.one (is_interface (slice_get p.classes one.one)) refl one.has (in_interface n p name proto (interface_places p one.one) f)
  where
    by_own : (c : ℕ) → is_interface (slice_get p.classes c) ≡ true → (o : Option MethodAt) → own_virtual p name proto c ≡ o → In f (one_or_none o) → is_interface (slice_get p.classes f.class) ≡ true
    by_own c e None g i = absurd i
    by_own c e (Some x) g (inl s) = ap (λ d. is_interface (slice_get p.classes d)) (sym (ap (λ a. a.class) s) ∙ (own_at p name proto c x g).at_class) ∙ e
    by_own c e (Some x) g (inr i) = absurd i

    by : (c : ℕ) (b : Bool) → is_interface (slice_get p.classes c) ≡ b → In f (cond b (one_or_none (own_virtual p name proto c) ++ candidates_from n p name proto (interface_places p c)) [])
        → (In f (candidates_from n p name proto (interface_places p c)) → is_interface (slice_get p.classes f.class) ≡ true) → is_interface (slice_get p.classes f.class) ≡ true
    by c false e i more = absurd i
    by c true e i more = elim (in_either (one_or_none (own_virtual p name proto c)) (candidates_from n p name proto (interface_places p c)) f i) [
      | inl j ↦ by_own c e (own_virtual p name proto c) refl j
      | inr j ↦ more j
    ]

-- what candidates give stands in an interface, in version 037
among_interface : (p : Program) (cs : List ℕ) (name proto c : ℕ) → is_found_in c (finds_among p cs name proto) ≡ true → (is_037 p.version && is_interface (slice_get p.classes c)) ≡ true
among_interface p cs name proto c e = by_list (lowest p (candidates p cs name proto)) (λ f i. in_filter (λ g. has_code (method_at p g) && is_lowest p (candidates p cs name proto) g) (candidates p cs name proto) f i) e
  where
    by_new : (f : MethodAt) (a b : Bool) → is_037 p.version ≡ a → In f (cond (a && b) (without_repeats (candidates_from (length p.classes) p name proto cs)) []) → nat_eq f.class c ≡ true
        → (is_037 p.version && is_interface (slice_get p.classes c)) ≡ true
    by_new f true true g i h =
        both (is_037 p.version) (is_interface (slice_get p.classes c)) g
        (ap (λ d. is_interface (slice_get p.classes d)) (sym (number_of f.class c h)) ∙ in_interface (length p.classes) p name proto cs f (in_once (candidates_from (length p.classes) p name proto cs) f i))
    by_new f true false g i h = absurd i
    by_new f false b g i h = absurd i

    by_list : (fs : List MethodAt) → ((f : MethodAt) → In f fs → In f (candidates p cs name proto)) → is_found_in c (verdict fs) ≡ true → (is_037 p.version && is_interface (slice_get p.classes c)) ≡ true
    by_list [] h g = absurd (true≢false (sym g))
    by_list (f ∷ []) h g = by_new f (is_037 p.version) (not (is_common p name proto)) refl (h f (inl refl)) g
    by_list (f ∷ y ∷ fs) h g = absurd (true≢false (sym g))

-- ---- what is found by a number

-- a class finds the method by another's number
pub record FoundBy (p : Program) (c : ℕ) (q : MethodName) (d b : ℕ) : Type 0 where
  pub names : names_method q.name q.proto (slice_get p.methods b) ≡ true
  pub finds : finds_it p c q d ≡ true
  pub above : In c (chain_of p (Some d))

module _ (p : Program) (wf : is_well_formed p ≡ true) (once : (class : ℕ) → IsTwice p class → ⊥) (c i : ℕ) (k : Class) (m : Method) (q : MethodName) (a : Owns p c k i m) (e : slice_get p.methods m.name ≡ Some q) where
  pub found_is : (d b : ℕ) → found_by p d b ≡ Some m.name → FoundBy p c q d b
  found_is d b f = by_entry_of (slice_get p.methods b) refl f
    where
      by_found : (r : MethodName) → slice_get p.methods b ≡ Some r → (o : Option MethodAt) → finds_virtual p r.name r.proto d ≡ o → option_and_then (number_at p) o ≡ Some m.name → FoundBy p c q d b
      by_found r g None h x = cc
      by_found r g (Some at) h x =
          let one = first_some (own_virtual p r.name r.proto) (chain_of p (Some d)) at h in
          let own = own_at p r.name r.proto one.one at one.gives in
          let y : Some own.method.name ≡ Some m.name = sym (number_here p at own.class own.method own.owns) ∙ x in
          let number : own.method.name ≡ m.name = cc in
          let same = number_once p wf once at.class c at.place i own.class k own.method m own.owns a number in
          let test : (nat_eq q.name r.name && nat_eq q.proto r.proto) ≡ true = ap (names_method r.name r.proto) (sym e ∙ ap (slice_get p.methods) (sym number)) ∙ own.named in
          let names : q.name ≡ r.name = number_of q.name r.name (and_left (nat_eq q.name r.name) (nat_eq q.proto r.proto) test) in
          let protos : q.proto ≡ r.proto = number_of q.proto r.proto (and_right (nat_eq q.name r.name) (nat_eq q.proto r.proto) test) in
          let here : finds_virtual p q.name q.proto d ≡ Some at = ap (λ n. finds_virtual p n q.proto d) names ∙ ap (λ n. finds_virtual p r.name n d) protos ∙ h in
          record {
            names = ap (names_method q.name q.proto) g ∙ both (nat_eq r.name q.name) (nat_eq r.proto q.proto) (number_test r.name q.name (sym names)) (number_test r.proto q.proto (sym protos));
            finds = ap (λ x. is_found_in c (found_or x (finds_among p (flat_map (interface_places p) (chain_of p (Some d))) q.name q.proto))) here ∙ number_test at.class c same.class;
            above = subst (λ n. In n (chain_of p (Some d))) (sym own.at_class ∙ same.class) one.is_in;
          }

      by_entry_of : (o : Option MethodName) → slice_get p.methods b ≡ o → by_entry (λ q. option_and_then (number_at p) (finds_virtual p q.name q.proto d)) o ≡ Some m.name → FoundBy p c q d b
      by_entry_of None g x = cc
      by_entry_of (Some r) g x = by_found r g (finds_virtual p r.name r.proto d) refl x

  pub is_found : (d b : ℕ) → (is_037 p.version && has_flag k.flags 512) ≡ false → finds_it p c q d ≡ true → names_method q.name q.proto (slice_get p.methods b) ≡ true → found_by p d b ≡ Some m.name
  is_found d b free f g = by_entry_of (slice_get p.methods b) refl g
    where
      others : List ℕ
      others = flat_map (interface_places p) (chain_of p (Some d))

      by_found : (o : Option MethodAt) → finds_virtual p q.name q.proto d ≡ o → is_found_in c (found_or o (finds_among p others q.name q.proto)) ≡ true → option_and_then (number_at p) o ≡ Some m.name
      by_found None h x =
          let y = among_interface p others q.name q.proto c x in
          absurd (true≢false (sym y ∙ ap (λ u. is_037 p.version && is_interface u) a.is_class ∙ free))
      by_found (Some at) h x =
          let one = first_some (own_virtual p q.name q.proto) (chain_of p (Some d)) at h in
          let own = own_at p q.name q.proto one.one at one.gives in
          let at_is : at.class ≡ c = number_of at.class c x in
          let y : Some own.class ≡ Some k = sym own.owns.is_class ∙ ap (slice_get p.classes) at_is ∙ a.is_class in
          let classes : own.class ≡ k = cc in
          let there : Owns p c k at.place own.method = record { is_class = a.is_class; is_method = subst (λ u. slice_get u.methods at.place ≡ Some own.method) classes own.owns.is_method } in
          number_here p at own.class own.method own.owns ∙ ap (λ n. Some n) (key_once p wf once c i at.place k m own.method q a there e own.named)

      by_names : (r : MethodName) → (nat_eq r.name q.name && nat_eq r.proto q.proto) ≡ true → option_and_then (number_at p) (finds_virtual p r.name r.proto d) ≡ Some m.name
      by_names r t =
          let names : r.name ≡ q.name = number_of r.name q.name (and_left (nat_eq r.name q.name) (nat_eq r.proto q.proto) t) in
          let protos : r.proto ≡ q.proto = number_of r.proto q.proto (and_right (nat_eq r.name q.name) (nat_eq r.proto q.proto) t) in
          ap (λ n. option_and_then (number_at p) (finds_virtual p n r.proto d)) names ∙ ap (λ n. option_and_then (number_at p) (finds_virtual p q.name n d)) protos
          ∙ by_found (finds_virtual p q.name q.proto d) refl f

      by_entry_of : (o : Option MethodName) → slice_get p.methods b ≡ o → names_method q.name q.proto o ≡ true → by_entry (λ q. option_and_then (number_at p) (finds_virtual p q.name q.proto d)) o ≡ Some m.name
      by_entry_of None h t = absurd (true≢false (sym t))
      by_entry_of (Some r) h t = by_names r t
