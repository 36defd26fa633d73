-- What a virtual call finds by a name and a proto is a virtual method of that name and proto.
use Rattle.std.proofs.Common.{◌≡◌, ℕ, zero, suc, inl, inr, Bool, true, false, true≢false, nat_eq, List, [], ◌∷◌, ◌++◌, length, Option, Some, None, refl, ap, subst, ◌∙◌}
use Rattle.std.specs.Prelude.{◌⊎◌, ◌&&◌, not, cond, slice_get, filter, flat_map}
use Rattle.program_model.specs.declared.program.MethodAt.{MethodAt}
use Rattle.program_model.specs.declared.program.Program.{Program}
use Rattle.program_model.specs.Lookups.{method_at}
use Rattle.class_defs.specs.Places.{interface_places, chain_of}
use Rattle.class_defs.specs.Members.{own_virtual, has_code, is_interface, is_common}
use Rattle.class_defs.specs.Finding.{Search, finds_virtual, one_or_none, candidates_from, without_repeats, is_037, candidates, is_lowest, lowest, verdict, finds_among, found_or, finds_at}
use Rattle.stub_library.specs.Lists.{In}
use Rattle.stub_library.proofs.Lists.{in_either, from_flat}
use Rattle.stub_library.proofs.Finds.{OwnVirtual, first_some, own_at}

own_here : (p : Program) (name proto c : ℕ) (at : MethodAt) → own_virtual p name proto c ≡ Some at → OwnVirtual p name proto at.class at
own_here p name proto c at e =
    let own = own_at p name proto c at e in
    record { class = own.class; method = own.method; at_class = refl; owns = own.owns; named = own.named }

in_filter : {X : Type 0} (test : X → Bool) (xs : List X) (x : X) → In x (filter test xs) → In x xs
in_filter test [] x i = i
in_filter test (y ∷ ys) x i = by (test y) i (in_filter test ys x)
  where
    by : (b : Bool) → In x (cond b (y ∷ filter test ys) (filter test ys)) → (In x (filter test ys) → In x ys) → (y ≡ x) ⊎ In x ys
    by true (inl e) more = inl e
    by true (inr j) more = inr (more j)
    by false j more = inr (more j)

in_once : (fs : List MethodAt) (f : MethodAt) → In f (without_repeats fs) → In f fs
in_once [] f i = i
in_once (g ∷ gs) f (inl e) = inl e
in_once (g ∷ gs) f (inr i) = inr (in_once gs f (in_filter (λ x. not (nat_eq x.class g.class)) (without_repeats gs) f i))

in_candidates : (n : ℕ) (p : Program) (name proto : ℕ) (cs : List ℕ) (f : MethodAt) → In f (candidates_from n p name proto cs) → OwnVirtual p name proto f.class f
in_candidates zero p name proto cs f i = absurd i
in_candidates (suc n) p name proto cs f i =
    let one = from_flat (λ c. cond (is_interface (slice_get p.classes c)) (one_or_none (own_virtual p name proto c) ++ candidates_from n p name proto (interface_places p c)) []) cs f i in
    by one.one (is_interface (slice_get p.classes one.one)) one.has (in_candidates n p name proto (interface_places p one.one) f)
  where
    by_own : (c : ℕ) (o : Option MethodAt) → own_virtual p name proto c ≡ o → In f (one_or_none o) → OwnVirtual p name proto f.class f
    by_own c None g i = absurd i
    by_own c (Some x) g (inl s) = own_here p name proto c f (g ∙ ap (λ y. Some y) s)
    by_own c (Some x) g (inr i) = absurd i

    by : (c : ℕ) (b : Bool) → In f (cond b (one_or_none (own_virtual p name proto c) ++ candidates_from n p name proto (interface_places p c)) [])
        → (In f (candidates_from n p name proto (interface_places p c)) → OwnVirtual p name proto f.class f) → OwnVirtual p name proto f.class f
    by c false i more = absurd i
    by c true i more = elim (in_either (one_or_none (own_virtual p name proto c)) (candidates_from n p name proto (interface_places p c)) f i) [
      | inl j ↦ by_own c (own_virtual p name proto c) refl j
      | inr j ↦ more j
    ]

one_place : Search → MethodAt → MethodAt
one_place (Search.Finds at) other = at
one_place s other = other

found_place : (x y : MethodAt) → Search.Finds x ≡ Search.Finds y → x ≡ y
unfolding one_place
found_place x y e = ap (λ z. one_place z x) e

nothing : {A : Type 0} (at : MethodAt) → Search.Nothing ≡ Search.Finds at → A
nothing at e = absurd (true≢false (ap (λ z. elim z as (λ z. Bool) [ Search.Nothing ↦ true | Search.Clash ↦ true | Search.Finds x ↦ false ]) e))

clash : {A : Type 0} (at : MethodAt) → Search.Clash ≡ Search.Finds at → A
clash at e = absurd (true≢false (ap (λ z. elim z as (λ z. Bool) [ Search.Nothing ↦ true | Search.Clash ↦ true | Search.Finds x ↦ false ]) e))

pub own_found : (p : Program) (d name proto : ℕ) (at : MethodAt) → finds_at p d name proto ≡ Search.Finds at → OwnVirtual p name proto at.class at
own_found p d name proto at e = by (finds_virtual p name proto d) refl e
  where
    by_new : (f : MethodAt) (a b : Bool) → In f (cond (a && b) (without_repeats (candidates_from (length p.classes) p name proto (flat_map (interface_places p) (chain_of p (Some d))))) []) → OwnVirtual p name proto f.class f
    by_new f true true i = in_candidates (length p.classes) p name proto (flat_map (interface_places p) (chain_of p (Some d))) f (in_once (candidates_from (length p.classes) p name proto (flat_map (interface_places p) (chain_of p (Some d)))) f i)
    by_new f true false i = absurd i
    by_new f false b i = absurd i

    by_list : (fs : List MethodAt) → ((f : MethodAt) → In f fs → In f (candidates p (flat_map (interface_places p) (chain_of p (Some d))) name proto)) → verdict fs ≡ Search.Finds at → OwnVirtual p name proto at.class at
    by_list [] h g = nothing at g
    by_list (f ∷ []) h g = subst (λ x. OwnVirtual p name proto x.class x) (found_place f at g) (by_new f (is_037 p.version) (not (is_common p name proto)) (h f (inl refl)))
    by_list (f ∷ y ∷ fs) h g = clash at g

    by : (o : Option MethodAt) → finds_virtual p name proto d ≡ o → found_or o (finds_among p (flat_map (interface_places p) (chain_of p (Some d))) name proto) ≡ Search.Finds at → OwnVirtual p name proto at.class at
    by (Some x) f g =
        let one = first_some (own_virtual p name proto) (chain_of p (Some d)) x f in
        subst (λ y. OwnVirtual p name proto y.class y) (found_place x at g) (own_here p name proto one.one x one.gives)
    by None f g = by_list (lowest p (candidates p (flat_map (interface_places p) (chain_of p (Some d))) name proto))
        (λ x i. in_filter (λ z. has_code (method_at p z) && is_lowest p (candidates p (flat_map (interface_places p) (chain_of p (Some d))) name proto) z) (candidates p (flat_map (interface_places p) (chain_of p (Some d))) name proto) x i) g
