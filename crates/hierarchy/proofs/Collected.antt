-- The candidates of interfaces, as a walk collects them.
use Rattle.std.proofs.Common.{◌≡◌, ℕ, zero, suc, ◌<◌, inl, inr, Bool, true, false, true≢false, nat_eq, List, [], ◌∷◌, ◌++◌, length, Option, Some, None, refl, sym, ap, subst, ◌∙◌, lt-ltb}
use Rattle.std.specs.Prelude.{not, cond, slice_get, slice_index_or, nat_lt, filter, flat_map, position}
use Rattle.std.specs.List.{list_all}
use Rattle.std.specs.Option.{option_map}
use Rattle.std.proofs.lemmas.Bool.{cases_lt}
use Rattle.std.proofs.lemmas.Grind.{flat_map-append}
use Rattle.std.proofs.lemmas.List.Elements.{filter-append}
use Rattle.std.proofs.lemmas.Option.{slice_get_past}
use Rattle.program_model.specs.declared.program.Class.{Class}
use Rattle.program_model.specs.declared.program.MethodAt.{MethodAt}
use Rattle.program_model.specs.declared.program.Program.{Program}
use Rattle.program_model.specs.Lookups.{method_at}
use Rattle.class_defs.specs.Places.{interface_places}
use Rattle.class_defs.specs.Members.{own_method, own_virtual, method_of_class, virtual_only, is_virtual, is_interface, is_method}
use Rattle.class_defs.specs.Finding.{one_or_none, without_repeats, candidates_from}
use Rattle.class_defs.proofs.Positions.{number_test, number_of}
use Rattle.hierarchy.specs.Ranks.{IsRanked}
use Rattle.hierarchy.specs.Walking.{Takes, own_candidate, above_interface}
use Rattle.hierarchy.proofs.Resolving.{list_lower, short}
use Rattle.hierarchy.proofs.Trees.{tree, distinct, Going, begins, ends, skips, opens}

module _ (p : Program) (name proto : ℕ) where
  abbrev pub gives : ℕ → List MethodAt
  gives c = one_or_none (own_candidate p name proto c)

  own_class : (c : ℕ) (m : MethodAt) (o : Option Class) → method_of_class p name proto c o ≡ Some m → m.class ≡ c
  own_class c m None e = cc
  own_class c m (Some k) e = by_place (position (is_method p name proto) k.methods) e
    where
      by_place : (o : Option ℕ) → option_map (λ i. record { class = c; place = i }) o ≡ Some m → m.class ≡ c
      by_place None f = cc
      by_place (Some i) f = let same : record { class = c; place = i } ≡ m = cc in ap (λ (w : MethodAt). w.class) (sym same)

  virtual_class : (c : ℕ) (m : MethodAt) (o : Option MethodAt) → ((w : MethodAt) → o ≡ Some w → w.class ≡ c) → virtual_only p o ≡ Some m → m.class ≡ c
  virtual_class c m None h e = cc
  virtual_class c m (Some at) h e = by_test (is_virtual p (method_at p at)) e
    where
      by_test : (b : Bool) → cond b (Some at) None ≡ Some m → m.class ≡ c
      by_test true f = let same : at ≡ m = cc in ap (λ (w : MethodAt). w.class) (sym same) ∙ h at refl
      by_test false f = cc

  candidate_class : (c : ℕ) (m : MethodAt) → own_candidate p name proto c ≡ Some m → m.class ≡ c
  candidate_class c m e = by_test (is_interface (slice_get p.classes c)) e
    where
      by_test : (b : Bool) → cond b (own_virtual p name proto c) None ≡ Some m → m.class ≡ c
      by_test true f = virtual_class c m (own_method p name proto c) (λ w g. own_class c w (slice_get p.classes c) g) f
      by_test false f = cc

  -- ---- each class once, each method once

  none_dropped : (c : ℕ) (cs : List ℕ) → own_candidate p name proto c ≡ None → flat_map gives (filter (λ d. not (nat_eq d c)) cs) ≡ flat_map gives cs
  none_dropped c [] e = refl
  none_dropped c (d ∷ ds) e = by_test (none_dropped c ds e) (nat_eq d c) refl
    where
      by_test : flat_map gives (filter (λ d. not (nat_eq d c)) ds) ≡ flat_map gives ds → (b : Bool) → nat_eq d c ≡ b → flat_map gives (cond (not b) (d ∷ filter (λ d. not (nat_eq d c)) ds) (filter (λ d. not (nat_eq d c)) ds)) ≡ gives d ++ flat_map gives ds
      by_test more true f = more ∙ sym (ap (λ o. one_or_none o ++ flat_map gives ds) (ap (own_candidate p name proto) (number_of d c f) ∙ e))
      by_test more false f = ap (λ l. gives d ++ l) more

  kept : (c d : ℕ) (m : MethodAt) → m.class ≡ c → nat_eq d c ≡ false → filter (λ g. not (nat_eq g.class m.class)) (gives d) ≡ gives d
  kept c d m k f = by_own (own_candidate p name proto d) refl
    where
      by_own : (o : Option MethodAt) → own_candidate p name proto d ≡ o → filter (λ g. not (nat_eq g.class m.class)) (one_or_none o) ≡ one_or_none o
      by_own None e = refl
      by_own (Some w) e = ap (λ b. cond (not b) (w ∷ []) []) (ap (λ x. nat_eq x m.class) (candidate_class d w e) ∙ ap (nat_eq d) k ∙ f)

  dropped : (c d : ℕ) (m : MethodAt) → own_candidate p name proto c ≡ Some m → nat_eq d c ≡ true → filter (λ g. not (nat_eq g.class m.class)) (gives d) ≡ []
  dropped c d m e f = ap (λ o. filter (λ g. not (nat_eq g.class m.class)) (one_or_none o)) (ap (own_candidate p name proto) (number_of d c f) ∙ e)
      ∙ ap (λ b. cond (not b) (m ∷ []) []) (number_test m.class m.class refl)

  some_dropped : (c : ℕ) (m : MethodAt) (cs : List ℕ) → own_candidate p name proto c ≡ Some m → flat_map gives (filter (λ d. not (nat_eq d c)) cs) ≡ filter (λ g. not (nat_eq g.class m.class)) (flat_map gives cs)
  some_dropped c m [] e = refl
  some_dropped c m (d ∷ ds) e = by_test (some_dropped c m ds e) (nat_eq d c) refl ∙ sym (filter-append (λ g. not (nat_eq g.class m.class)) (gives d) (flat_map gives ds))
    where
      by_test : flat_map gives (filter (λ d. not (nat_eq d c)) ds) ≡ filter (λ g. not (nat_eq g.class m.class)) (flat_map gives ds) → (b : Bool) → nat_eq d c ≡ b → flat_map gives (cond (not b) (d ∷ filter (λ d. not (nat_eq d c)) ds) (filter (λ d. not (nat_eq d c)) ds))
          ≡ filter (λ g. not (nat_eq g.class m.class)) (gives d) ++ filter (λ g. not (nat_eq g.class m.class)) (flat_map gives ds)
      by_test more true f = more ∙ sym (ap (λ l. l ++ filter (λ g. not (nat_eq g.class m.class)) (flat_map gives ds)) (dropped c d m e f))
      by_test more false f = ap (λ l. gives d ++ l) more ∙ sym (ap (λ l. l ++ filter (λ g. not (nat_eq g.class m.class)) (flat_map gives ds)) (kept c d m (candidate_class c m e) f))

  once : (cs : List ℕ) → flat_map gives (distinct cs) ≡ without_repeats (flat_map gives cs)
  once [] = refl
  once (c ∷ cs) = by_own (once cs) (own_candidate p name proto c) refl
    where
      by_own : flat_map gives (distinct cs) ≡ without_repeats (flat_map gives cs) → (o : Option MethodAt) → own_candidate p name proto c ≡ o → one_or_none o ++ flat_map gives (filter (λ d. not (nat_eq d c)) (distinct cs)) ≡ without_repeats (one_or_none o ++ flat_map gives cs)
      by_own more None e = none_dropped c (distinct cs) e ∙ more
      by_own more (Some m) e = ap (λ l. m ∷ l) (some_dropped c m (distinct cs) e ∙ ap (filter (λ g. not (nat_eq g.class m.class))) more)

  -- ---- the definition by trees

  no_trees : (cs : List ℕ) → flat_map (tree (above_interface p) (length p.classes) 0) cs ≡ []
  no_trees [] = refl
  no_trees (c ∷ cs) = no_trees cs

  interface_short : (c : ℕ) → is_interface (slice_get p.classes c) ≡ true → c < length p.classes
  interface_short c e = elim (cases_lt c (length p.classes)) [ inl l ↦ l | inr g ↦ absurd (true≢false (sym e ∙ ap is_interface (slice_get_past p.classes c g))) ]

  candidates_by_tree : (m : ℕ) (cs : List ℕ) → candidates_from m p name proto cs ≡ flat_map gives (flat_map (tree (above_interface p) (length p.classes) m) cs)
  candidates_by_tree zero cs = sym (ap (flat_map gives) (no_trees cs))
  candidates_by_tree (suc m) [] = refl
  candidates_by_tree (suc m) (c ∷ cs) =
      ap (λ l. l ++ candidates_from (suc m) p name proto cs) (one (candidates_by_tree m (interface_places p c)) (is_interface (slice_get p.classes c)) refl)
      ∙ ap (λ l. flat_map gives (tree (above_interface p) (length p.classes) (suc m) c) ++ l) (candidates_by_tree (suc m) cs)
      ∙ sym (flat_map-append gives (tree (above_interface p) (length p.classes) (suc m) c) (flat_map (tree (above_interface p) (length p.classes) (suc m)) cs))
    where
      one : candidates_from m p name proto (interface_places p c) ≡ flat_map gives (flat_map (tree (above_interface p) (length p.classes) m) (interface_places p c)) → (b : Bool) → is_interface (slice_get p.classes c) ≡ b → cond b (one_or_none (own_virtual p name proto c) ++ candidates_from m p name proto (interface_places p c)) [] ≡ flat_map gives (cond (nat_lt c (length p.classes)) (c ∷ flat_map (tree (above_interface p) (length p.classes) m) (above_interface p c)) [])
      one up true e =
          ap (λ l. one_or_none (own_virtual p name proto c) ++ l) up
          ∙ sym (ap (λ b. one_or_none (cond b (own_virtual p name proto c) None) ++ flat_map gives (flat_map (tree (above_interface p) (length p.classes) m) (cond b (interface_places p c) []))) e)
          ∙ sym (ap (λ b. flat_map gives (cond b (c ∷ flat_map (tree (above_interface p) (length p.classes) m) (above_interface p c)) [])) (lt-ltb c (length p.classes) (interface_short c e)))
      one up false e = by_short (nat_lt c (length p.classes))
        where
          by_short : (s : Bool) → [] ≡ flat_map gives (cond s (c ∷ flat_map (tree (above_interface p) (length p.classes) m) (above_interface p c)) [])
          by_short false = refl
          by_short true = sym (ap (λ b. one_or_none (cond b (own_virtual p name proto c) None) ++ flat_map gives (flat_map (tree (above_interface p) (length p.classes) m) (cond b (interface_places p c) []))) e)

  -- ---- the walk

  module _ (r : IsRanked p) where
    pub lower : (c : ℕ) → list_all (λ u. nat_lt (r.rank u) (r.rank c)) (above_interface p c) ≡ true
    lower c = by_test (is_interface (slice_get p.classes c))
      where
        by_test : (b : Bool) → list_all (λ u. nat_lt (r.rank u) (r.rank c)) (cond b (interface_places p c) []) ≡ true
        by_test true = list_lower p r c
        by_test false = refl

    abbrev pub Collecting : List ℕ → List Bool → List ℕ → List MethodAt → List MethodAt → Type 0
    Collecting start seen stack out whole = Going (above_interface p) r.rank (length p.classes) lower (short p r) gives start seen stack out whole

    pub collect_begins : (seen : List Bool) (stack : List ℕ) (out : List MethodAt) → length seen ≡ length p.classes → ((c : ℕ) → slice_index_or seen c false ≡ true → ⊥)
        → Collecting stack seen stack out (out ++ without_repeats (candidates_from (length p.classes) p name proto stack))
    collect_begins seen stack out size none = subst (Collecting stack seen stack out)
        (ap (λ l. out ++ l) (once (flat_map (tree (above_interface p) (length p.classes) (length p.classes)) stack) ∙ ap without_repeats (sym (candidates_by_tree (length p.classes) stack))))
        (begins (above_interface p) r.rank (length p.classes) lower (short p r) gives seen stack out size none)

    pub collect_ends : (start : List ℕ) (seen : List Bool) (stack : List ℕ) (out whole : List MethodAt) → stack ≡ [] → Collecting start seen stack out whole → out ≡ whole
    collect_ends start seen stack out whole e g = ends (above_interface p) r.rank (length p.classes) lower (short p r) gives start seen stack out whole e g

    pub collect_on : (start : List ℕ) (seen seen' : List Bool) (stack rest stack' : List ℕ) (x : ℕ) (out out' whole : List MethodAt) → stack ≡ x ∷ rest → Takes (gives x) seen rest x (above_interface p x) seen' stack' out out'
        → Collecting start seen stack out whole → Collecting start seen' stack' out' whole
    collect_on start seen seen' stack rest stack' x out out' whole e (inl t) g = subst (λ l. Collecting start seen' stack' l whole) (sym t.1)
        (skips (above_interface p) r.rank (length p.classes) lower (short p r) gives start seen seen' stack rest stack' x None out whole e t.0 g)
    collect_on start seen seen' stack rest stack' x out out' whole e (inr t) g =
        opens (above_interface p) r.rank (length p.classes) lower (short p r) gives start seen seen' stack rest stack' (above_interface p x) x None None out out' whole e refl t.1 t.0 g
