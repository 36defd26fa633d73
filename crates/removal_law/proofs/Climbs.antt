-- What an object of a class answers to stands in a class or an interface above its own.
use Rattle.std.proofs.Common.{◌≡◌, ℕ, zero, suc, Bool, true, false, List, [], ◌∷◌, ◌++◌, length, refl, sym, ap, ◌∙◌, subst, inl, inr}
use Rattle.std.specs.Prelude.{◌⊎◌, ◌&&◌, not, Option, Some, None, flat_map}
use Rattle.std.specs.List.{list_any}
use Rattle.dalvik_defs.specs.Names.{Text, text_eq, is_common}
use Rattle.dalvik_defs.specs.Under.{class_named, own_above, walks, is_own_under}
use Rattle.dalvik_defs.specs.Find.{Found, method_in, chain_from, chain_of, passing, is_virtual_method, own_candidate, interface_named, candidates_from, without_repeats, is_037, candidates}
use Rattle.dalvik_defs.specs.declared.names.Signature.{Signature}
use Rattle.dalvik_defs.specs.declared.program.NamedClass.{NamedClass}
use Rattle.dalvik_defs.specs.declared.program.NamedProgram.{NamedProgram}
use Rattle.dalvik_defs.proofs.Calm.{text_sound}
use Rattle.pass_defs.specs.Live.{Family, KeepsAbove, answers_to}
use Rattle.pass_defs.specs.Calls.{inherits, candidates_of}
use Rattle.removal_law.specs.Reach.{ends, IsRegular}
use Rattle.removal_law.proofs.Lists.{clash, In, here, there, all_in, in_either}
use Rattle.removal_law.proofs.Walks.{choice, text_same}
use Rattle.removal_law.proofs.Levels.{enough_steps}
use Rattle.removal_law.proofs.Trees.{class_name, chain_named, chain_head, own_above_some, own_above_none, nothing}
use Rattle.removal_law.proofs.Finds.{out_of_flat, first_where, where_key, passed, interface_class, repeats_in}
use Rattle.removal_law.proofs.Virtuals.{same_class}
use Rattle.removal_law.proofs.Outward.{any_here, any_where}

module _ (p : NamedProgram) (s : Family) (above : KeepsAbove p s) (regular : IsRegular p) where
  abbrev pub Climbs : Text → Text → Type 0
  Climbs t u = (n : ℕ) × (walks (own_above p) n t u ≡ true)

  climb_here : (t : Text) → Climbs t t
  climb_here t = (0, text_same t)

  climb_step : (t v u : Text) → In v (own_above p t) → Climbs v u → Climbs t u
  climb_step t v u i w = (suc w.0, by (text_eq t u))
    where
      by : (b : Bool) → choice b (list_any (λ v. walks (own_above p) w.0 v u) (own_above p t)) ≡ true
      by true = refl
      by false = any_here (λ v. walks (own_above p) w.0 v u) v (own_above p t) i w.1

  climb_on : (n : ℕ) (t u v : Text) → walks (own_above p) n t u ≡ true → Climbs u v → Climbs t v
  climb_on zero t u v e w = subst (λ x. Climbs x v) (sym (text_sound t u e)) w
  climb_on (suc n) t u v e w = by (text_eq t u) refl e (λ x a. climb_on n x u v a w)
    where
      by : (b : Bool) → text_eq t u ≡ b → choice b (list_any (λ x. walks (own_above p) n x u) (own_above p t)) ≡ true → ((x : Text) → walks (own_above p) n x u ≡ true → Climbs x v) → Climbs t v
      by true i a ih = subst (λ x. Climbs x v) (sym (text_sound t u i)) w
      by false i a ih = let r = any_where (λ x. walks (own_above p) n x u) (own_above p t) a in climb_step t r.0 v r.1.0 (ih r.0 r.1.1)

  -- steps enough find all
  stay : (n m : ℕ) (t u : Text) → ends p m t ≡ true → walks (own_above p) n t u ≡ true → walks (own_above p) m t u ≡ true
  stay zero zero t u e w = w
  stay zero (suc m) t u e w = ap (λ b. choice b (list_any (λ v. walks (own_above p) m v u) (own_above p t))) w
  stay (suc n) zero t u e w = by (text_eq t u) refl w
    where
      by : (b : Bool) → text_eq t u ≡ b → choice b (list_any (λ v. walks (own_above p) n v u) (own_above p t)) ≡ true → text_eq t u ≡ true
      by true i a = i
      by false i a = clash false (sym (ap (list_any (λ v. walks (own_above p) n v u)) (own_above_none p s above p t (nothing p s above t e))) ∙ a) refl
  stay (suc n) (suc m) t u e w = by (text_eq t u) w (λ v a b. stay n m v u a b)
    where
      by : (b : Bool) → choice b (list_any (λ v. walks (own_above p) n v u) (own_above p t)) ≡ true → ((v : Text) → ends p m v ≡ true → walks (own_above p) n v u ≡ true → walks (own_above p) m v u ≡ true)
          → choice b (list_any (λ v. walks (own_above p) m v u) (own_above p t)) ≡ true
      by true a ih = refl
      by false a ih = let r = any_where (λ v. walks (own_above p) n v u) (own_above p t) a in
          any_here (λ v. walks (own_above p) m v u) r.0 (own_above p t) r.1.0 (ih r.0 (all_in (ends p m) (own_above p t) e r.0 r.1.0) r.1.1)

  pub climb_under : (t u : Text) → Climbs t u → is_own_under p t u ≡ true
  climb_under t u w = let g = regular.grounded t in stay w.0 (length p.classes) t u (enough_steps p t g.0 g.1) w.1

  up_in : (t : Text) (c : NamedClass) → class_named p t ≡ Some c → (v : Text) → In v (c.superclass ∷ c.interfaces) → In v (own_above p t)
  up_in t c e v i = subst (In v) (sym (own_above_some p s above p t c e)) i

  chain_climbs : (m : ℕ) (t : Text) (c : NamedClass) → In c (chain_from m p t) → Climbs t c.name
  chain_climbs zero t c i = elim i [ ]
  chain_climbs (suc m) t c i = chain_head p s above m t c (Climbs t c.name)
      (λ d e j. subst (Climbs t) (sym (ap (λ x. x.name) j ∙ class_name p t d e)) (climb_here t))
      (λ d e j. climb_step t d.superclass c.name (up_in t d e d.superclass (here d.interfaces)) (chain_climbs m d.superclass c j)) i

  module _ (n : Text) (g : Signature) where
    own_class : (c : NamedClass) (f : Found) → In f (own_candidate n g c) → f.key.class ≡ c.name
    own_class c f i = by (passing is_virtual_method c (method_in c n g)) refl i
      where
        at : (x : Found) → passing is_virtual_method c (method_in c n g) ≡ Some x → In f (x ∷ []) → f.key.class ≡ c.name
        at x j (here ys) = let w = passed is_virtual_method n g c (method_in c n g) f refl j [] in
            ap (λ k. k.class) (where_key s is_virtual_method n g (c ∷ []) f w) ∙ ap (λ y. y.name) (same_class p s above regular n g c w.class w.stands)
        at x j (there y ys k) = elim k [ ]

        by : (o : Option Found) → passing is_virtual_method c (method_in c n g) ≡ o → In f (elim o as (λ o. List Found) [ Some x ↦ x ∷ [] | None ↦ [] ]) → f.key.class ≡ c.name
        by None j k = elim k [ ]
        by (Some x) j k = at x j k

    abbrev step_of : ℕ → Option NamedClass → List Found
    step_of k o = elim o as (λ o. List Found) [ Some c ↦ own_candidate n g c ++ candidates_from k p n g c.interfaces | None ↦ [] ]

    abbrev From : List Text → Found → Type 0
    From ts f = (t : Text) × (In t ts × Climbs t f.key.class)

    from : (i : ℕ) (ts : List Text) (f : Found) → In f (candidates_from i p n g ts) → From ts f
    from zero ts f k = elim k [ ]
    from (suc i) ts f k = (w.0, (w.1.0, by (interface_named p w.0) refl w.1.1 (λ us a. from i us f a)))
      where
        w : (t : Text) × (In t ts × In f (step_of i (interface_named p t)))
        w = out_of_flat (λ t. step_of i (interface_named p t)) f ts k

        by : (o : Option NamedClass) → interface_named p w.0 ≡ o → In f (step_of i o) → ((us : List Text) → In f (candidates_from i p n g us) → From us f) → Climbs w.0 f.key.class
        by None e a ih = elim a [ ]
        by (Some c) e a ih = either (in_either f (own_candidate n g c) (candidates_from i p n g c.interfaces) a)
          where
            d : class_named p w.0 ≡ Some c
            d = interface_class p s above regular w.0 c e

            either : In f (own_candidate n g c) ⊎ In f (candidates_from i p n g c.interfaces) → Climbs w.0 f.key.class
            either (inl b) = subst (Climbs w.0) (sym (own_class c f b ∙ class_name p w.0 c d)) (climb_here w.0)
            either (inr b) = let r = ih c.interfaces b in climb_step w.0 r.0 f.key.class (up_in w.0 c d r.0 (there c.superclass c.interfaces r.1.0)) r.1.1

    candidate_from : (ts : List Text) (f : Found) → In f (candidates p ts n g) → From ts f
    candidate_from ts f i = by (is_037 p.version && not (is_common n g)) i
      where
        by : (b : Bool) → In f (elim b as (λ b. List Found) [ true ↦ without_repeats (candidates_from (length p.classes) p n g ts) | false ↦ [] ]) → From ts f
        by true j = from (length p.classes) ts f (repeats_in p s above regular n g (candidates_from (length p.classes) p n g ts) f j)
        by false j = elim j [ ]

    pub answer_climbs : (t : Text) (f : Found) → In f (answers_to p t n g) → Climbs t f.key.class
    answer_climbs t f i = by (inherits p t n g) refl i
      where
        inherited : (x : Found) → inherits p t n g ≡ Some x → Climbs t x.key.class
        inherited x e = let w = first_where is_virtual_method n g (chain_of p t) x e in
            subst (Climbs t) (sym (ap (λ k. k.class) (where_key s is_virtual_method n g (chain_of p t) x w))) (chain_climbs (length p.classes) t w.class w.stands)

        only : (x : Found) → Climbs t x.key.class → In f (x ∷ []) → Climbs t f.key.class
        only x h (here ys) = h
        only x h (there y ys j) = elim j [ ]

        above_interface : (c : NamedClass) (u : Text) → In c (chain_of p t) → In u c.interfaces → Climbs u f.key.class → Climbs t f.key.class
        above_interface c u a b w = let r = chain_climbs (length p.classes) t c a in
            climb_on r.0 t c.name f.key.class r.1 (climb_step c.name u f.key.class (up_in c.name c (chain_named p s above (length p.classes) t c a) u (there c.superclass c.interfaces b)) w)

        by : (o : Option Found) → inherits p t n g ≡ o → In f (elim o as (λ o. List Found) [ Some f ↦ f ∷ [] | None ↦ candidates_of p t n g ]) → Climbs t f.key.class
        by (Some x) e j = only x (inherited x e) j
        by None e j = let r = candidate_from (flat_map (λ c. c.interfaces) (chain_of p t)) f j in
            let w = out_of_flat (λ c. c.interfaces) r.0 (chain_of p t) r.1.0 in above_interface w.0 r.0 w.1.0 w.1.1 r.1.1
