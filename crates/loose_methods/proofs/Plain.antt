-- Virtual calls that find a candidate alone.
use Rattle.std.proofs.Common.{◌≡◌, inl, inr, ℕ, ◌<◌, Bool, true, false, true≢false, nat_eq, List, [], ◌∷◌, ◌++◌, length, Option, Some, None, refl, sym, ap, ◌∙◌, subst}
use Rattle.std.specs.Prelude.{◌&&◌, ◌||◌, flat_map, is_some, not, slice_get}
use Rattle.std.specs.List.{list_any, list_all}
use Rattle.insn_set.specs.declared.ops.InvokeKind.TheVariants as call
use Rattle.lemmas.proofs.Bools.{and_left, and_right, and_both, or_left, or_right, clash, untrue, not_true, none_or, or_false_left, or_false_right}
use Rattle.program_model.specs.Lookups.{class_place, method_at}
use Rattle.program_model.specs.ProgramRules.{is_well_formed}
use Rattle.program_model.specs.declared.pass.Outside.{Outside}
use Rattle.program_model.specs.declared.pools.MethodName.{MethodName}
use Rattle.program_model.specs.declared.program.MethodAt.{MethodAt}
use Rattle.program_model.specs.declared.program.Program.{Program}
use Rattle.class_defs.specs.Finding.{Search, Nothing, Clash, Finds, finds_static, finds_virtual, finds_at, finds_among, found_or}
use Rattle.class_defs.specs.Members.{own_method, own_virtual, has_code, is_common}
use Rattle.class_defs.specs.Places.{chain_of, is_under, interface_places}
use Rattle.class_defs.proofs.Positions.{number_of, same_test}
use Rattle.hierarchy.specs.Climbing.{In}
use Rattle.hierarchy.specs.Ranks.{IsRanked}
use Rattle.hierarchy.specs.Shapes.{IsResolved}
use Rattle.hierarchy.specs.declared.build.Hierarchy.{Hierarchy}
use Rattle.receivers.specs.Receiving.{interface_at, is_at}
use Rattle.receivers.proofs.Found.{chain_over}
use Rattle.receivers.proofs.Owned.{owns, at_itself}
use Rattle.receivers.proofs.Ranges.{in_filter, filter_in, all_pass, passes_all}
use Rattle.receivers.proofs.Walks.{of_any, under_on}
use Rattle.loose_methods.specs.Loose.{places, classes_under, is_face, is_in_interface, is_alone, has_rival, has_outward, number_found, is_this, is_it, found_by, is_nothing, class_candidates, may_find_at, receivers, is_within, is_within_at, may_find, misses, may_leave, resolves_to, is_subclass, is_plain_call, interface_there}
use Rattle.loose_methods.specs.Marking.{is_on, IsCandidate, AreUnder}
use Rattle.loose_methods.specs.Sifting.{HasCandidates, KeepsPlain}
use Rattle.loose_methods.proofs.Given.{Has, all_methods, methods_all, no_method, has_flat, flat_has, has_left, has_right, class_given, clash_one, among_has, nothing_has}
use Rattle.loose_methods.proofs.Found.{coded, here, method_here, other_than, names_are, static_same, so_static, finds_it, alone, first_some, method_class, own_short, static_is}
use Rattle.loose_methods.proofs.Marks.{same_or, differ_test}
use Rattle.loose_methods.proofs.Under.{in_places, place_of, in_under, under_in}

pub same_at : (at x : MethodAt) → is_at at (Some x) ≡ true → x ≡ at
same_at at x e =
    let c : x.class ≡ at.class = number_of x.class at.class (and_left (nat_eq x.class at.class) (nat_eq x.place at.place) e) in
    let i : x.place ≡ at.place = number_of x.place at.place (and_right (nat_eq x.class at.class) (nat_eq x.place at.place) e) in
    ap (λ y. record { class = y; place = x.place }) c ∙ ap (λ y. record { class = at.class; place = y }) i

pub is_at_some : (at : MethodAt) (o : Option MethodAt) → is_at at o ≡ true → o ≡ Some at
is_at_some at None e = absurd (true≢false (sym e))
is_at_some at (Some x) e = ap (λ z. Some z) (same_at at x e)

-- a test of all of the classes under one
pub under_all : (p : Program) (class : ℕ) (under : List ℕ) (t : ℕ → Bool) → AreUnder p class under → list_all t under ≡ list_all t (classes_under p class)
under_all p class under t a = flip t under ∙ ap not (a.all (λ x. not (t x))) ∙ sym (flip t (classes_under p class))
  where
    flip : (t : ℕ → Bool) (xs : List ℕ) → list_all t xs ≡ not (list_any (λ x. not (t x)) xs)
    flip t [] = refl
    flip t (x ∷ xs) = ap (λ b. t x && b) (flip t xs) ∙ by (t x) (list_any (λ y. not (t y)) xs)
      where
        by : (a b : Bool) → (a && not b) ≡ not (not a || b)
        by true true = refl
        by true false = refl
        by false true = refl
        by false false = refl

-- ---- calls that aren't plain

pub leaves_unplain : (r s l a : Bool) → l ≡ true → (r && s && not l && a) ≡ false
leaves_unplain true true true a e = refl
leaves_unplain true false true a e = refl
leaves_unplain false true true a e = refl
leaves_unplain false false true a e = refl
leaves_unplain r s false a e = absurd (true≢false (sym e))

module _ (p : Program) (n called : ℕ) (q : MethodName) where
  abbrev found : List MethodAt
  found = may_find p 0 call.Virtual called q

  abbrev leave : Bool
  leave = may_leave p 0 call.Virtual called q

  unplain : leave ≡ true → is_plain_call p n 0 call.Virtual called q ≡ false
  unplain e = leaves_unplain (resolves_to p n called) (is_subclass p n q) leave (list_all (is_it p n) found) e

  pub undefined_unplain : class_place p q.class ≡ None → is_plain_call p n 0 call.Virtual called q ≡ false
  undefined_unplain e = unplain (or_left (not (is_some (class_place p q.class)) || misses p 0 call.Virtual called q) (list_any (λ at. not (has_code (method_at p at))) found)
      (or_left (not (is_some (class_place p q.class))) (misses p 0 call.Virtual called q) (ap (λ x. not (is_some x)) e)))

  pub interface_unplain : (upper : ℕ) → class_place p q.class ≡ Some upper → interface_at p upper ≡ true → is_plain_call p n 0 call.Virtual called q ≡ false
  interface_unplain upper e f = unplain (or_left (not (is_some (class_place p q.class)) || misses p 0 call.Virtual called q) (list_any (λ at. not (has_code (method_at p at))) found)
      (or_right (not (is_some (class_place p q.class))) (misses p 0 call.Virtual called q)
      (or_left (interface_there p (class_place p q.class)) (list_any (λ d. is_nothing (finds_at p d q.name q.proto)) (receivers p q.class)) (ap (interface_there p) e ∙ f))))

-- ---- and one that is, or isn't

module _ (p : Program) (h : Hierarchy) (wf : is_well_formed p ≡ true) (res : IsResolved p h) (o : Outside) (n : ℕ) (c : IsCandidate p o n) (called : ℕ) (q : MethodName) (entry : slice_get p.methods called ≡ Some q)
    (at : MethodAt) (static : finds_static p called ≡ Some at) (it : is_it p n at ≡ true) (upper : ℕ) (named : class_place p q.class ≡ Some upper) (class : interface_at p upper ≡ false) where
  ranked : IsRanked p
  ranked = res.of.ranked

  abbrev test : ℕ → Bool
  test d = is_at at (finds_virtual p q.name q.proto d)

  abbrev met : List MethodAt
  met = may_find p 0 call.Virtual called q

  is_own : at ≡ record { class = c.place; place = c.at }
  is_own = here p h wf res o n c at it

  -- the class that the call names has that of the method among its superclasses
  record Reached : Type 0 where
    own : own_method p q.name q.proto at.class ≡ Some at
    under : is_under p upper at.class ≡ true

  reached : Reached
  reached =
      let f = first_some (own_method p q.name q.proto) (chain_of p (class_place p q.class)) at (sym (static_is p h wf res o n c called q entry) ∙ static) in
      let same : at.class ≡ f.class = method_class p q.name q.proto f.class at f.is in
      record {
        own = subst (λ d. own_method p q.name q.proto d ≡ Some at) (sym same) f.is;
        under = subst (λ d. is_under p upper d ≡ true) (sym same) (chain_over p ranked q.name q.proto upper f.class (subst (λ x. In f.class (chain_of p x)) named f.there));
      }

  names : (c.name.name ≡ q.name) × (c.name.proto ≡ q.proto)
  names = names_are p h wf res o n c q.name q.proto at.class at reached.own it

  is_receiver : (d : ℕ) → In d (classes_under p upper) → In d (receivers p q.class)
  is_receiver d i =
      let u = under_in p upper d i in
      filter_in (is_within p q.class) (places p) d (in_places p d u.0) (ap (is_within_at p d q.class) named ∙ u.1)

  receiver_is : (d : ℕ) → In d (receivers p q.class) → In d (classes_under p upper)
  receiver_is d i =
      let f = in_filter (is_within p q.class) (places p) d i in
      in_under p upper d (place_of p d f.0) (sym (ap (is_within_at p d q.class) named) ∙ f.1)

  -- no interface above gives anything
  no_face : (d : ℕ) (x : MethodAt) → In d (classes_under p upper) → is_alone p c.name c.place ≡ true → Has x (class_candidates p q d) → ⊥
  no_face d x i a g =
      let u = under_in p upper d i in
      let f = class_given p ranked q.name q.proto d x g in
      let own : own_virtual p c.name.name c.name.proto x.class ≡ Some x = ap (λ z. own_virtual p z c.name.proto x.class) names.0 ∙ ap (λ z. own_virtual p q.name z x.class) names.1 ∙ f.own in
      let method = (owns p c.name.name c.name.proto x.class x own).method in
      let there : x.class < length p.classes = own_short p c.name.name c.name.proto x.class x method in
      let in_class : In d (classes_under p c.place) = in_under p c.place d u.0 (under_on p ranked d upper c.place u.1 (subst (λ y. is_under p upper y ≡ true) (ap (λ (y : MethodAt). y.class) is_own) reached.under)) in
      let face : is_face p c.name d x.class ≡ true = and_both (interface_at p x.class && is_under p d x.class) (is_some (own_method p c.name.name c.name.proto x.class)) (and_both (interface_at p x.class) (is_under p d x.class) f.interface f.under) (ap is_some method) in
      let met : is_in_interface p c.name c.place ≡ true = of_any (λ y. list_any (is_face p c.name y) (places p)) (classes_under p c.place) d in_class (of_any (is_face p c.name d) (places p) x.class (in_places p x.class there) face) in
      clash (is_in_interface p c.name c.place) met
      (not_true (is_in_interface p c.name c.place) (and_right (not (has_rival p c.name c.place) && not (is_common p c.name.name c.name.proto)) (not (is_in_interface p c.name c.place)) (and_left (not (has_rival p c.name c.place) && not (is_common p c.name.name c.name.proto) && not (is_in_interface p c.name c.place)) (not (has_outward p c.place)) a)))

  -- all receivers find it
  module _ (all : list_all test (classes_under p upper) ≡ true) where
    finds : (d : ℕ) → In d (classes_under p upper) → finds_virtual p q.name q.proto d ≡ Some at
    finds d i = is_at_some at (finds_virtual p q.name q.proto d) (passes_all test (classes_under p upper) d all i)

    alone_now : (d : ℕ) → In d (classes_under p upper) → is_alone p c.name c.place ≡ true
    alone_now d i = let f = finds_it p h wf res o n c q d (ap (λ x. is_this n (number_found p x)) (finds d i) ∙ it) in alone p h wf res o n c q f.at f.own f.it

    one_found : (d : ℕ) → In d (classes_under p upper) → may_find_at p q d ≡ at ∷ []
    one_found d i =
        ap (λ x. found_by (found_or x (finds_among p (flat_map (interface_places p) (chain_of p (Some d))) q.name q.proto)) ++ class_candidates p q d) (finds d i)
        ∙ ap (λ xs. at ∷ xs) (nothing_has (class_candidates p q d) (λ x g. no_face d x i (alone_now d i) g))

    all_found : (x : MethodAt) → Has x met → x ≡ at
    all_found x g =
        let f = has_flat (may_find_at p q) (receivers p q.class) x g in
        elim (subst (λ xs. Has x xs) (one_found f.class (receiver_is f.class f.there)) f.has) [ inl s ↦ s | inr j ↦ absurd j ]

    it_all : list_all (is_it p n) met ≡ true
    it_all = methods_all (is_it p n) met (λ x g. ap (is_it p n) (all_found x g) ∙ it)

    coded_all : list_any (λ x. not (has_code (method_at p x))) met ≡ false
    coded_all = no_method (λ x. not (has_code (method_at p x))) met (λ x g. ap (λ y. not (has_code (method_at p y))) (all_found x g ∙ is_own) ∙ ap (λ y. not (has_code y)) (method_here p h wf res o n c) ∙ ap not (coded p h wf res o n c))

    never_nothing : (xs : List ℕ) → ((d : ℕ) → In d xs → In d (classes_under p upper)) → list_any (λ d. is_nothing (finds_at p d q.name q.proto)) xs ≡ false
    never_nothing [] g = refl
    never_nothing (d ∷ ds) g = ap (λ b. b || list_any (λ e. is_nothing (finds_at p e q.name q.proto)) ds) (ap (λ x. is_nothing (found_or x (finds_among p (flat_map (interface_places p) (chain_of p (Some d))) q.name q.proto))) (finds d (g d (inl refl)))) ∙ never_nothing ds (λ e i. g e (inr i))

    stays : may_leave p 0 call.Virtual called q ≡ false
    stays = none_or (not (is_some (class_place p q.class)) || misses p 0 call.Virtual called q) (list_any (λ x. not (has_code (method_at p x))) met)
        (none_or (not (is_some (class_place p q.class))) (misses p 0 call.Virtual called q) (ap (λ x. not (is_some x)) named)
        (none_or (interface_there p (class_place p q.class)) (list_any (λ d. is_nothing (finds_at p d q.name q.proto)) (receivers p q.class)) (ap (interface_there p) named ∙ class) (never_nothing (receivers p q.class) receiver_is)))
        coded_all

    pub plain_now : is_plain_call p n 0 call.Virtual called q ≡ true
    plain_now = and_both (resolves_to p n called && is_subclass p n q && not (may_leave p 0 call.Virtual called q)) (list_all (is_it p n) met)
        (and_both (resolves_to p n called && is_subclass p n q) (not (may_leave p 0 call.Virtual called q)) (so_static p h wf res o n c called q entry (ap (λ x. is_this n (number_found p x)) static ∙ it)) (ap not stays)) it_all

  -- and where it is found alone, they do
  module _ (so : is_plain_call p n 0 call.Virtual called q ≡ true) where
    all_it : list_all (is_it p n) met ≡ true
    all_it = and_right (resolves_to p n called && is_subclass p n q && not (may_leave p 0 call.Virtual called q)) (list_all (is_it p n) met) so

    kept_in : may_leave p 0 call.Virtual called q ≡ false
    kept_in = not_true (may_leave p 0 call.Virtual called q) (and_right (resolves_to p n called && is_subclass p n q) (not (may_leave p 0 call.Virtual called q)) (and_left (resolves_to p n called && is_subclass p n q && not (may_leave p 0 call.Virtual called q)) (list_all (is_it p n) met) so))

    some_found : (d : ℕ) → In d (receivers p q.class) → is_nothing (finds_at p d q.name q.proto) ≡ false
    some_found d i = untrue (is_nothing (finds_at p d q.name q.proto)) (λ e. clash (list_any (λ x. is_nothing (finds_at p x q.name q.proto)) (receivers p q.class)) (of_any (λ x. is_nothing (finds_at p x q.name q.proto)) (receivers p q.class) d i e)
        (or_false_right (interface_there p (class_place p q.class)) (list_any (λ x. is_nothing (finds_at p x q.name q.proto)) (receivers p q.class))
        (or_false_right (not (is_some (class_place p q.class))) (misses p 0 call.Virtual called q) (or_false_left (not (is_some (class_place p q.class)) || misses p 0 call.Virtual called q) (list_any (λ x. not (has_code (method_at p x))) met) kept_in))))

    every : (d : ℕ) (x : MethodAt) → In d (receivers p q.class) → Has x (may_find_at p q d) → is_it p n x ≡ true
    every d x i g = all_methods (is_it p n) met x all_it (flat_has (may_find_at p q) (receivers p q.class) d x i g)

    no_candidate : (d : ℕ) (x : MethodAt) → In d (receivers p q.class) → Has x (class_candidates p q d) → ⊥
    no_candidate d x i g = clash (is_it p n x) (every d x i (has_right (found_by (finds_at p d q.name q.proto)) (class_candidates p q d) x g)) (other_than p h wf res o n c x (class_given p ranked q.name q.proto d x g).interface)

    pub found_now : (d : ℕ) → In d (receivers p q.class) → test d ≡ true
    found_now d i = by (finds_virtual p q.name q.proto d) refl (some_found d i) (λ x g. every d x i (has_left (found_by (finds_at p d q.name q.proto)) (class_candidates p q d) x g))
      where
        among : Search
        among = finds_among p (flat_map (interface_places p) (chain_of p (Some d))) q.name q.proto

        by_among : (s : Search) → among ≡ s → is_nothing s ≡ false → ⊥
        by_among Nothing f g = true≢false g
        by_among Clash f g = let r = clash_one p ranked q.name q.proto (flat_map (interface_places p) (chain_of p (Some d))) f in no_candidate d r.0 i r.1
        by_among (Finds x) f g = no_candidate d x i (among_has p ranked q.name q.proto (flat_map (interface_places p) (chain_of p (Some d))) x f)

        by : (x : Option MethodAt) → finds_virtual p q.name q.proto d ≡ x → is_nothing (found_or x among) ≡ false → ((y : MethodAt) → Has y (found_by (found_or (finds_virtual p q.name q.proto d) among)) → is_it p n y ≡ true) → test d ≡ true
        by None f g k = absurd (by_among among refl g)
        by (Some x) f g k =
            let is_x : is_it p n x ≡ true = k x (subst (λ z. Has x (found_by (found_or z among))) (sym f) (inl refl)) in
            ap (is_at at) (f ∙ ap (λ z. Some z) (here p h wf res o n c x is_x ∙ sym is_own)) ∙ at_itself at

    pub all_now : list_all test (classes_under p upper) ≡ true
    all_now = all_pass test (classes_under p upper) (λ d i. found_now d (is_receiver d i))

  pub plain_is : (under : List ℕ) → AreUnder p upper under → list_all (λ d. is_at at (finds_virtual p q.name q.proto d)) under ≡ is_plain_call p n 0 call.Virtual called q
  plain_is under a = under_all p upper under test a ∙ same_test (list_all test (classes_under p upper)) (is_plain_call p n 0 call.Virtual called q) plain_now all_now

-- ---- the calls of a number

module _ (p : Program) (h : Hierarchy) (wf : is_well_formed p ≡ true) (res : IsResolved p h) (o : Outside) (marks : List Bool) (cand : HasCandidates p o marks) (called : ℕ) (q : MethodName) (entry : slice_get p.methods called ≡ Some q) where
  split : (r s l a : Bool) → (r && s) ≡ false → (r && s && not l && a) ≡ false
  split true true l a e = absurd (true≢false e)
  split true false l a e = refl
  split false s l a e = refl

  -- no marked method but the one that is found along the superclasses
  pub plain_static : (n : ℕ) → is_on marks n ≡ true → is_this n (number_found p (finds_static p called)) ≡ false → is_plain_call p n 0 call.Virtual called q ≡ false
  plain_static n m e = split (resolves_to p n called) (is_subclass p n q) (may_leave p 0 call.Virtual called q) (list_all (is_it p n) (may_find p 0 call.Virtual called q)) (static_same p h wf res o n (cand n m) called q entry ∙ e)

  pub none_plain : number_found p (finds_static p called) ≡ None → KeepsPlain p marks called q false
  none_plain e = λ n m. plain_static n m (ap (is_this n) e)

  pub one_plain : (x : ℕ) → number_found p (finds_static p called) ≡ Some x → (is_on marks x ≡ true → is_plain_call p x 0 call.Virtual called q ≡ false) → KeepsPlain p marks called q false
  one_plain x e f = λ n m. elim (same_or x n) [
    | inl s ↦ subst (λ y. is_plain_call p y 0 call.Virtual called q ≡ false) s (f (subst (λ y. is_on marks y ≡ true) (sym s) m))
    | inr k ↦ plain_static n m (ap (is_this n) e ∙ differ_test x n k)
  ]

  -- what is known of the one that is found
  pub plain_known : (x : ℕ) → number_found p (finds_static p called) ≡ Some x → (b : Bool) → b ≡ is_plain_call p x 0 call.Virtual called q → KeepsPlain p marks called q b
  plain_known x e true f = (x, sym f)
  plain_known x e false f = one_plain x e (λ m. sym f)
