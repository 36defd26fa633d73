-- What a super call finds is of a class of the program; and what a name resolves to in what is left of a program.
use Rattle.std.proofs.Common.{◌≡◌, ℕ, zero, suc, Bool, true, false, List, [], ◌∷◌, ◌++◌, length, refl, sym, ap, ◌∙◌}
use Rattle.std.specs.Prelude.{Option, Some, None, map, flat_map}
use Rattle.lemmas.proofs.Lists.{map_append}
use Rattle.dalvik_defs.specs.Names.{Text}
use Rattle.dalvik_defs.specs.Flags.{is_interface}
use Rattle.dalvik_defs.specs.Under.{class_named, defines}
use Rattle.dalvik_defs.specs.Find.{Found, Search, Nothing, Finds, is_037, finds_super, finds_super_037, finds_above, finds_among, lists_interface, superclass_of, first_method, chain_of, interfaces_from, resolves_method}
use Rattle.dalvik_defs.specs.declared.names.MethodKey.{MethodKey}
use Rattle.dalvik_defs.specs.declared.program.NamedMethod.{NamedMethod}
use Rattle.dalvik_defs.specs.declared.program.NamedClass.{NamedClass}
use Rattle.dalvik_defs.specs.declared.program.NamedProgram.{NamedProgram}
use Rattle.pass_defs.specs.Live.{Family, KeepsAbove}
use Rattle.removal_law.specs.Left.{left_in, left_of}
use Rattle.removal_law.specs.Reach.{IsRegular}
use Rattle.removal_law.proofs.Lists.{In, here, there}
use Rattle.removal_law.proofs.Classes.{Kept, left_less}
use Rattle.removal_law.proofs.Trees.{Tree, absent, present, tree, defined, undefined}
use Rattle.removal_law.proofs.Finds.{flat_none, Trees, LiveFound, follow_same, first_follows, chain_same, among_in, zero_left, zero_right}
use Rattle.removal_law.proofs.Searches.{nothing_finds, along_defined, interfaces_kept, interfaces_same}
use Rattle.removal_law.proofs.Virtuals.{candidate}

flat_mapped : {A B C : Type 0} (f : A → List C) (h : A → List B) (g : B → C) (xs : List A) → ((x : A) → In x xs → f x ≡ map g (h x)) → flat_map f xs ≡ map g (flat_map h xs)
flat_mapped f h g [] e = refl
flat_mapped f h g (x ∷ xs) e = ap (λ ys. ys ++ flat_map f xs) (e x (here xs)) ∙ ap (λ ys. map g (h x) ++ ys) (flat_mapped f h g xs (λ y i. e y (there x xs i))) ∙ sym (map_append g (h x) (flat_map h xs))

module _ (p : NamedProgram) (s : Family) (above : KeepsAbove p s) (regular : IsRegular p) where
  abbrev q : NamedProgram
  q = left_of s p

  -- ---- super calls

  among_defined : (k : MethodKey) (ts : List Text) (g : Found) → finds_among p ts k.name k.signature ≡ Finds g → defines p g.key.class ≡ true
  among_defined k ts g e = let x = candidate p s above regular k.name k.signature ts g (among_in p s above regular ts k.name k.signature g e) in
      ap (λ z. defines p z.class) x.key_is ∙ defined p x.class.name x.class x.named

  pub super_defined : (k : MethodKey) (class : Text) (g : Found) → finds_super p class k ≡ Finds g → defines p g.key.class ≡ true
  super_defined k class g e = by (is_037 p.version) (class_named p k.class) e
    where
      up : finds_above p class k ≡ Finds g → defines p g.key.class ≡ true
      up i = along_defined p s above regular k (superclass_of p class) g i

      listed : (b : Bool) → (elim b as (λ b. Search) [ true ↦ Nothing | false ↦ finds_above p class k ]) ≡ Finds g → defines p g.key.class ≡ true
      listed true i = nothing_finds g i
      listed false i = up i

      flagged : (c : NamedClass) (b : Bool) → (elim b as (λ b. Search) [ true ↦ finds_among p (c.name ∷ []) k.name k.signature | false ↦ finds_above p class k ]) ≡ Finds g → defines p g.key.class ≡ true
      flagged c true i = among_defined k (c.name ∷ []) g i
      flagged c false i = up i

      by : (b : Bool) (x : Option NamedClass) → (elim b as (λ b. Search) [ true ↦ finds_super_037 p class k x | false ↦ finds_above p class k ]) ≡ Finds g → defines p g.key.class ≡ true
      by false x i = up i
      by true None i = listed (lists_interface p class k.class) i
      by true (Some c) i = flagged c (is_interface c.flags) i

  -- ---- resolution

  abbrev step_of : ℕ → NamedProgram → Option NamedClass → List NamedClass
  step_of n r o = elim o as (λ o. List NamedClass) [ Some c ↦ c ∷ interfaces_from n r c.interfaces | None ↦ [] ]

  abbrev up_from : ℕ → NamedProgram → Text → List NamedClass
  up_from n r t = step_of n r (class_named r t)

  one_left : (i j : ℕ) (t : Text) → Tree p s above (suc i) (suc j) t → ((us : List Text) → Trees p s above regular i j us → interfaces_from i q us ≡ map (left_in s) (interfaces_from j p us)) → up_from i q t ≡ map (left_in s) (up_from j p t)
  one_left i j t (absent k l u e d) ih = ap (step_of i q) d ∙ sym (ap (λ o. map (left_in s) (step_of j p o)) e)
  one_left i j t (present k l u c e d sub) ih = ap (step_of i q) d ∙ ap (λ cs. left_in s c ∷ cs) (ih c.interfaces (λ v a. sub v (there c.superclass c.interfaces a))) ∙ sym (ap (λ o. map (left_in s) (step_of j p o)) e)

  interfaces_left : (i j : ℕ) (ts : List Text) → Trees p s above regular i j ts → interfaces_from i q ts ≡ map (left_in s) (interfaces_from j p ts)
  interfaces_left zero zero ts h = refl
  interfaces_left zero (suc j) ts h = sym (ap (map (left_in s)) (flat_none (up_from j p) ts (λ t k. ap (step_of j p) (zero_left p s above regular (suc j) t (h t k)))))
  interfaces_left (suc i) zero ts h = flat_none (up_from i q) ts (λ t k. ap (step_of i q) (left_less s p t (undefined p t (zero_right p s above regular (suc i) t (h t k)))))
  interfaces_left (suc i) (suc j) ts h = flat_mapped (up_from i q) (up_from j p) (left_in s) ts (λ t k. one_left i j t (h t k) (λ us a. interfaces_left i j us a))

  abbrev resolved_in : NamedProgram → Text → List NamedClass
  resolved_in r t = chain_of r t ++ interfaces_from (length r.classes) r (flat_map (λ c. c.interfaces) (chain_of r t))

  resolved_left : (t : Text) → Kept s p t → resolved_in q t ≡ map (left_in s) (resolved_in p t)
  resolved_left t h =
      ap (λ us. chain_of q t ++ interfaces_from (length q.classes) q us) (interfaces_same p s above regular t h)
      ∙ ap (λ cs. cs ++ interfaces_from (length q.classes) q (flat_map (λ c. c.interfaces) (chain_of p t))) (chain_same p s above regular t h)
      ∙ ap (λ cs. map (left_in s) (chain_of p t) ++ cs) (interfaces_left (length q.classes) (length p.classes) (flat_map (λ c. c.interfaces) (chain_of p t)) (λ u i. tree p s above regular u (interfaces_kept p s above regular t u h i)))
      ∙ sym (map_append (left_in s) (chain_of p t) (interfaces_from (length p.classes) p (flat_map (λ c. c.interfaces) (chain_of p t))))

  abbrev any_method : NamedMethod → Bool
  any_method m = true

  -- the method to which a name resolves, where that is live
  pub resolves_left : (k : MethodKey) → Kept s p k.class → ((g : Found) → resolves_method p k ≡ Some g → s.methods g.key ≡ true) → resolves_method q k ≡ resolves_method p k
  resolves_left k h l =
      ap (first_method any_method k.name k.signature) (resolved_left k.class h)
      ∙ follow_same (LiveFound s) (first_method any_method k.name k.signature (resolved_in p k.class)) (first_method any_method k.name k.signature (map (left_in s) (resolved_in p k.class)))
      (first_follows s any_method k.name k.signature (resolved_in p k.class)) l
