-- What the receivers of a call find by number they find by name, by the program's own lists.
use Rattle.std.proofs.Common.{◌≡◌, ◌⊎◌, inl, inr, ℕ, zero, suc, ◌<◌, Bool, true, false, true≢false, List, [], ◌∷◌, length, map, Option, Some, None, nat_eq, refl, sym, ap, ◌∙◌, subst}
use Rattle.std.specs.Prelude.{◌&&◌, not, cond, slice_get}
use Rattle.std.specs.List.{list_any, list_all, range_with_len}
use Rattle.std.proofs.lemmas.Bool.{eqb-true}
use Rattle.program_model.specs.declared.pools.MethodName.{MethodName}
use Rattle.program_model.specs.declared.program.Class.{Class}
use Rattle.program_model.specs.declared.program.MethodAt.{MethodAt}
use Rattle.program_model.specs.declared.program.Program.{Program}
use Rattle.program_model.specs.Lookups.{class_place}
use Rattle.program_model.specs.MemberRules.{class_fits, types_of_class_fit, is_object, source_fits, fields_fit, methods_fit}
use Rattle.program_model.specs.MemberRules as rules
use Rattle.program_model.specs.ProgramRules.{is_well_formed}
use Rattle.program_model.specs.Texts.{has_type, type_text, first_unit, letter_of, is_class}
use Rattle.program_model.specs.ValueRules.{marks_fit}
use Rattle.class_defs.specs.ClassGraph.{IsAncestor, IsTwice}
use Rattle.class_defs.specs.Finding.{Search, Nothing, Clash, Finds, finds_at}
use Rattle.class_defs.specs.Places.{is_under}
use Rattle.class_defs.proofs.WellFormed.{Sound, sound, class_parts}
use Rattle.dalvik_defs.proofs.Calm.{text_sound}
use Rattle.dalvik_defs.specs.Find as name
use Rattle.dalvik_defs.specs.Find.{Found}
use Rattle.dalvik_defs.specs.Names.{Text, text_eq, is_class_type}
use Rattle.dalvik_defs.specs.Naming.{type_at, named, named_class, named_method, text_at, signature_at}
use Rattle.dalvik_defs.specs.Naming as naming
use Rattle.dalvik_defs.specs.Under.{class_named, own_above, walks, is_own_under}
use Rattle.dalvik_defs.specs.declared.names.MethodKey.{MethodKey}
use Rattle.dalvik_defs.specs.declared.program.NamedProgram.{NamedProgram}
use Rattle.lemmas.proofs.Bools.{and_left, and_right, or_cases}
use Rattle.lemmas.proofs.Lists.{all_at}
use Rattle.lemmas.proofs.Options.{none_some, some_same}
use Rattle.name_bridge.specs.Named.{found_at, search_at, finds}
use Rattle.name_bridge.proofs.Above.{defined, own_place, under_by_number}
use Rattle.name_bridge.proofs.Candidates.{finds_at_by_number}
use Rattle.name_bridge.proofs.Found.{type_same}
use Rattle.name_bridge.proofs.Tables.{method_name, method_proto, method_is}
use Rattle.pass_defs.specs.Live.{KeepsAbove, everything}
use Rattle.removal_law.specs.Reach as reach
use Rattle.removal_law.proofs.Climbs.{climb_under}
use Rattle.removal_law.proofs.Lists.{In, here, there, in_map}
use Rattle.removal_law.proofs.Outward.{any_here, any_where}
use Rattle.removal_law.proofs.Walks.{text_same}
use Rattle.removal_bridge.proofs.Members.{class_known}
use Rattle.removal_bridge.proofs.Formed as upright
use Rattle.rebind_law.specs.Receivers.{finds_listed}
use Rattle.receivers.specs.Receiving.{lists, under_place, stands_under, only, found_by}

-- ---- walks that go on by one step

walk_first : (p : NamedProgram) (m : ℕ) (t x v : Text) → In x (own_above p t) → walks (own_above p) m x v ≡ true → walks (own_above p) (suc m) t v ≡ true
walk_first p m t x v j a = by (text_eq t v)
  where
    by : (b : Bool) → (elim b as (λ b. Bool) [ true ↦ true | false ↦ list_any (λ x. walks (own_above p) m x v) (own_above p t) ]) ≡ true
    by true = refl
    by false = any_here (λ x. walks (own_above p) m x v) x (own_above p t) j a

walk_on : (p : NamedProgram) (n : ℕ) (t u v : Text) → walks (own_above p) n t u ≡ true → In v (own_above p u) → (m : ℕ) × (walks (own_above p) m t v ≡ true)
walk_on p zero t u v e i = (1, walk_first p 0 t v v (subst (λ x. In v (own_above p x)) (sym (text_sound t u e)) i) (text_same v))
walk_on p (suc n) t u v e i = by (text_eq t u) refl e (λ x a. walk_on p n x u v a i)
  where
    by : (b : Bool) → text_eq t u ≡ b → (elim b as (λ b. Bool) [ true ↦ true | false ↦ list_any (λ x. walks (own_above p) n x u) (own_above p t) ]) ≡ true → ((x : Text) → walks (own_above p) n x u ≡ true → (m : ℕ) × (walks (own_above p) m x v ≡ true))
        → (m : ℕ) × (walks (own_above p) m t v ≡ true)
    by true j a more = (1, walk_first p 0 t v v (subst (λ x. In v (own_above p x)) (sym (text_sound t u j)) i) (text_same v))
    by false j a more = let r = any_where (λ x. walks (own_above p) n x u) (own_above p t) a in let m = more r.0 r.1.1 in (suc m.0, walk_first p m.0 t r.0 v r.1.0 m.1)

all_above : (p : NamedProgram) → KeepsAbove p everything
all_above p = record {
  above = λ t c e h u i d. refl;
  initialisers = λ t k h e. refl;
  defaults = λ t c m v e h i j k l. refl;
}

module _ (p : Program) (w : is_well_formed p ≡ true) (once : (class : ℕ) → IsTwice p class → ⊥) (ancestor : (class : ℕ) → IsAncestor p class class → ⊥) where
  s : Sound p
  s = sound p w

  r : reach.IsRegular (named p)
  r = upright.regular_program p w once ancestor

  -- ---- the types that a class lists

  types_fit : (j : ℕ) (d : Class) → slice_get p.classes j ≡ Some d → types_of_class_fit p d ≡ true
  unfolding class_fits
  types_fit j d e = and_left (types_of_class_fit p d) (source_fits p d.source && marks_fit p d.marks)
      (and_left (types_of_class_fit p d && (source_fits p d.source && marks_fit p d.marks)) (fields_fit p d.name d.fields && methods_fit p d.name d.methods) (all_at (class_fits p) p.classes j d s.classes_fit e))

  above_fit : (j : ℕ) (d : Class) → slice_get p.classes j ≡ Some d → (rules.is_class_type p d.superclass && list_all (rules.is_class_type p) d.interfaces) ≡ true
  unfolding types_of_class_fit
  above_fit j d e = and_right (rules.is_class_type p d.name && not (is_object (type_text p d.name))) (rules.is_class_type p d.superclass && list_all (rules.is_class_type p) d.interfaces) (types_fit j d e)

  name_fit : (j : ℕ) (d : Class) → slice_get p.classes j ≡ Some d → rules.is_class_type p d.name ≡ true
  unfolding types_of_class_fit
  name_fit j d e = and_left (rules.is_class_type p d.name) (not (is_object (type_text p d.name)))
      (and_left (rules.is_class_type p d.name && not (is_object (type_text p d.name))) (rules.is_class_type p d.superclass && list_all (rules.is_class_type p) d.interfaces) (types_fit j d e))

  type_named : (k : ℕ) → rules.is_class_type p k ≡ true → is_class_type (type_at p k) ≡ true
  unfolding letter_of
  type_named k e = by (type_at p k) (ap (λ t. is_class (first_unit t)) (type_same p k) ∙ and_right (has_type p k) (is_class (letter_of p k)) e)
    where
      by : (t : Text) → is_class (first_unit t) ≡ true → is_class_type t ≡ true
      by [] h = absurd (true≢false (sym h))
      by (u ∷ us) h = h

  pub class_text : (j : ℕ) (d : Class) → slice_get p.classes j ≡ Some d → is_class_type (type_at p d.name) ≡ true
  class_text j d e = type_named d.name (name_fit j d e)

  record IsListed (d : Class) (kind : ℕ) : Type 0 where
    text : is_class_type (type_at p kind) ≡ true
    stands : In (type_at p kind) (type_at p d.superclass ∷ map (type_at p) d.interfaces)

  listed : (j : ℕ) (d : Class) (kind : ℕ) → slice_get p.classes j ≡ Some d → lists (Some d) kind ≡ true → IsListed d kind
  listed j d kind e h = by (or_cases (nat_eq d.superclass kind) (list_any (λ k. nat_eq k kind) d.interfaces) h)
    where
      of : (k : ℕ) → nat_eq k kind ≡ true → rules.is_class_type p k ≡ true → In (type_at p k) (type_at p d.superclass ∷ map (type_at p) d.interfaces) → IsListed d kind
      of k same fit at = subst (IsListed d) (eqb-true k kind same) (record { text = type_named k fit; stands = at })

      by : (nat_eq d.superclass kind ≡ true) ⊎ (list_any (λ k. nat_eq k kind) d.interfaces ≡ true) → IsListed d kind
      by (inl i) = of d.superclass i (and_left (rules.is_class_type p d.superclass) (list_all (rules.is_class_type p) d.interfaces) (above_fit j d e)) (here (map (type_at p) d.interfaces))
      by (inr i) = let x = any_where (λ k. nat_eq k kind) d.interfaces i in
          of x.0 x.1.1 (passes x.0 d.interfaces x.1.0 (and_right (rules.is_class_type p d.superclass) (list_all (rules.is_class_type p) d.interfaces) (above_fit j d e)))
          (there (type_at p d.superclass) (map (type_at p) d.interfaces) (in_map (type_at p) x.0 d.interfaces x.1.0))
        where
          passes : (k : ℕ) (ks : List ℕ) → In k ks → list_all (rules.is_class_type p) ks ≡ true → rules.is_class_type p k ≡ true
          passes k ks (here xs) h = and_left (rules.is_class_type p k) (list_all (rules.is_class_type p) xs) h
          passes k ks (there y xs i) h = passes k xs i (and_right (rules.is_class_type p y) (list_all (rules.is_class_type p) xs) h)

  -- ---- what stands under a type

  pub class_short : (j : ℕ) (d : Class) → slice_get p.classes j ≡ Some d → d.name < length p.types
  class_short j d e = (class_parts p s j d e).name

  pub own_class : (j : ℕ) (d : Class) → slice_get p.classes j ≡ Some d → class_named (named p) (type_at p d.name) ≡ Some (named_class p d)
  own_class j d e = class_known p s once j d e

  -- the classes directly above one, by name
  above_named : (j : ℕ) (d : Class) → slice_get p.classes j ≡ Some d → own_above (named p) (type_at p d.name) ≡ type_at p d.superclass ∷ map (type_at p) d.interfaces
  above_named j d e = ap (λ o. elim o as (λ o. List Text) [ Some c ↦ c.superclass ∷ c.interfaces | None ↦ [] ]) (own_class j d e)

  pub under_named : (j k : ℕ) (d g : Class) → slice_get p.classes j ≡ Some d → slice_get p.classes k ≡ Some g → is_own_under (named p) (type_at p d.name) (type_at p g.name) ≡ is_under p j k
  under_named j k d g e f = under_by_number p s d.name g.name j k (class_short j d e) (class_short k g f) (own_place p once j d e) (own_place p once k g f)

  record StandsUnder (d : Class) (kind : ℕ) : Type 0 where
    text : is_class_type (type_at p kind) ≡ true
    under : is_own_under (named p) (type_at p d.name) (type_at p kind) ≡ true

  under_listed : (j k kind : ℕ) (d g : Class) → slice_get p.classes j ≡ Some d → slice_get p.classes k ≡ Some g → is_under p j k ≡ true → lists (Some g) kind ≡ true → StandsUnder d kind
  under_listed j k kind d g e f u l =
      let i = listed k g kind f l in
      let up = walk_on (named p) (length (named p).classes) (type_at p d.name) (type_at p g.name) (type_at p kind) (under_named j k d g e f ∙ u) (subst (In (type_at p kind)) (sym (above_named k g f)) i.stands) in
      record { text = i.text; under = climb_under (named p) everything (all_above (named p)) r (type_at p d.name) (type_at p kind) up }

  lists_none : {A : Type 0} (kind : ℕ) → lists None kind ≡ true → A
  lists_none kind e = absurd (true≢false (sym e))

  stands_named : (j : ℕ) (d : Class) (kind : ℕ) → slice_get p.classes j ≡ Some d → stands_under p j kind ≡ true → StandsUnder d kind
  stands_named j d kind e h = by (class_place p kind) refl h
    where
      some_above : (k : ℕ) → is_under p j k ≡ true → (o : Option Class) → slice_get p.classes k ≡ o → lists o kind ≡ true → StandsUnder d kind
      some_above k u None f l = lists_none kind l
      some_above k u (Some g) f l = under_listed j k kind d g e f u l

      by : (o : Option ℕ) → class_place p kind ≡ o → under_place p j kind o ≡ true → StandsUnder d kind
      by (Some k) i u = let x = defined p kind k i in
          subst (StandsUnder d) x.named (record { text = class_text k x.class x.is; under = under_named j k d x.class e x.is ∙ u })
      by None i u = let x = any_where (λ k. is_under p j k && lists (slice_get p.classes k) kind) (range_with_len 0 (length p.classes)) u in
          some_above x.0 (and_left (is_under p j x.0) (lists (slice_get p.classes x.0) kind) x.1.1) (slice_get p.classes x.0) refl (and_right (is_under p j x.0) (lists (slice_get p.classes x.0) kind) x.1.1)

  -- ---- what is found

  record Found_by (q : MethodName) (j : ℕ) (at : MethodAt) : Type 0 where
    stands : stands_under p j q.class ≡ true
    finds : finds_at p j q.name q.proto ≡ Finds at

  by_parts : (q : MethodName) (j : ℕ) (at : MethodAt) → found_by p q j ≡ Some at → Found_by q j at
  by_parts q j at e = by (stands_under p j q.class) refl e
    where
      searched : (x : Search) → finds_at p j q.name q.proto ≡ x → only x ≡ Some at → finds_at p j q.name q.proto ≡ Finds at
      searched Nothing i h = none_some at h
      searched Clash i h = none_some at h
      searched (Finds a) i h = i ∙ ap Finds (some_same a at h)

      by : (b : Bool) → stands_under p j q.class ≡ b → cond b (only (finds_at p j q.name q.proto)) None ≡ Some at → Found_by q j at
      by true i h = record { stands = i; finds = searched (finds_at p j q.name q.proto) refl h }
      by false i h = none_some at h

  -- what a class of the program finds for the name of an entry, by its own lists
  pub found_listed : (m : ℕ) (q : MethodName) (j : ℕ) (d : Class) (at : MethodAt) (f : Found) → slice_get p.methods m ≡ Some q → slice_get p.classes j ≡ Some d → found_at p at ≡ Some f → found_by p q j ≡ Some at
      → finds_listed (named p) (type_at p d.name) (naming.method_at p m) ≡ name.Finds f
  found_listed m q j d at f is e found h =
      let x = by_parts q j at h in
      let key : naming.method_at p m ≡ record { class = type_at p q.class; name = text_at p q.name; signature = signature_at p q.proto } = method_is p s m q is in
      let under : is_own_under (named p) (type_at p d.name) (type_at p q.class) ≡ true = (stands_named j d q.class e x.stands).under in
      ap (finds_listed (named p) (type_at p d.name)) key
      ∙ (ap (λ b. elim b as (λ b. name.Search) [ true ↦ name.finds_at (named p) (type_at p d.name) (record { class = type_at p q.class; name = text_at p q.name; signature = signature_at p q.proto }) | false ↦ name.Nothing ]) under
      ∙ (finds_at_by_number p s q.name q.proto (method_name p s m q is) (method_proto p s m q is) once d.name j (type_at p q.class) (class_short j d e) (own_place p once j d e)
      ∙ (ap (search_at p) x.finds ∙ ap finds found)))

  -- the class that it names is one of a class's type
  pub found_type : (m : ℕ) (q : MethodName) (j : ℕ) (d : Class) (at : MethodAt) → slice_get p.methods m ≡ Some q → slice_get p.classes j ≡ Some d → found_by p q j ≡ Some at → is_class_type (naming.method_at p m).class ≡ true
  found_type m q j d at is e h = ap (λ (k : MethodKey). is_class_type k.class) (method_is p s m q is) ∙ (stands_named j d q.class e (by_parts q j at h).stands).text
