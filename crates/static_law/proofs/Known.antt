-- What is known of calls, by plain calls and by what stands under a call's receiver: a virtual look-up of a loose method
-- is at a class without framework ancestors, so it is among those that the call may find.
use Rattle.std.proofs.Common.{◌≡◌, Bool, true, false, List, [], ◌∷◌, ◌++◌, length, refl, sym, ap, ◌∙◌, subst}
use Rattle.std.specs.Prelude.{◌&&◌, ◌||◌, not, map, filter, flat_map, Option, Some, None, is_some, if◌then◌else◌}
use Rattle.std.specs.List.{list_any, list_all}
use Rattle.lemmas.proofs.Bools.{or_false_left, or_false_right, not_false as not_not}
use Rattle.lemmas.proofs.Options.{some_same}
use Rattle.insn_set.specs.declared.ops.InvokeKind.{InvokeKind}
use Rattle.insn_set.specs.declared.ops.InvokeKind.TheVariants as call
use Rattle.dalvik_defs.specs.Names.{Text, text_eq, method_eq, object_type}
use Rattle.dalvik_defs.specs.Flags.{is_static, is_private, is_interface, is_special}
use Rattle.dalvik_defs.specs.Under.{class_named, defines, is_under, is_own_under, is_outward}
use Rattle.dalvik_defs.specs.Find.{Found, Search, Nothing, Clash, Finds, chain_of, first_method, search_of, finds_statically, is_virtual_method, candidates, interface_named, is_lowest, lowest, verdict, finds_among, finds_at, superclass_of, finds_above, lists_interface, is_037, finds_super_037, finds_super, resolves_method}
use Rattle.dalvik_defs.specs.Face.{face_of, finds_virtually}
use Rattle.dalvik_defs.specs.Outcome.{takes_no_receiver}
use Rattle.dalvik_defs.specs.declared.names.Signature.{Signature}
use Rattle.dalvik_defs.specs.declared.names.MethodKey.{MethodKey}
use Rattle.dalvik_defs.specs.declared.program.NamedClass.{NamedClass}
use Rattle.dalvik_defs.specs.declared.program.NamedProgram.{NamedProgram}
use Rattle.dalvik_defs.specs.declared.tables.Framework.{Framework}
use Rattle.dalvik_defs.proofs.Calm.{text_sound}
use Rattle.pass_defs.specs.Loose.{new_key, classes_under, names_it, concerns, resolves_to, is_subclass, is_plain_call}
use Rattle.pass_defs.specs.Live.{everything, KeepsAbove, answers_to}
use Rattle.pass_defs.specs.Calls.{is_within, receivers, super_candidates, found_by, is_nothing, candidates_of, may_find}
use Rattle.pass_defs.specs.Leaves.{misses, may_leave}
use Rattle.removal_law.specs.Left.{In, here, there, NamesNone}
use Rattle.removal_law.specs.Reach.{IsRegular}
use Rattle.removal_law.proofs.Lists.{clash, and_left, and_behind, none_in, all_in, in_front, in_back, found_in as found_passes}
use Rattle.removal_law.proofs.Finds.{among_in, in_flat, into_filter, in_unfiltered, first_where, where_key}
use Rattle.removal_law.proofs.Trees.{chain_named}
use Rattle.removal_law.proofs.Declared.{method_same, method_sound, not_false}
use Rattle.removal_law.proofs.Outward.{any_here, Up, inside, through, object, under_up}
use Rattle.removal_law.proofs.Climbs.{climb_under, answer_climbs}
use Rattle.removal_law.proofs.Virtuals.{IsMethodOf, answer, candidate, candidate_interface}
use Rattle.removal_law.proofs.Searches.{at_in}
use Rattle.program_laws.specs.Renames.{searched}
use Rattle.static_law.specs.Static.{edit_found, edit_by, IsOld, key, IsSound, SiteKnown, StaysAsItIs, BecomesStatic, AreApart, IsApart, ReceiverKnown}

module _ (p : NamedProgram) (loose : MethodKey → Bool) (f : Framework) (sound : IsSound p loose) (none : NamesNone p f) (regular : IsRegular p) (apart : AreApart p loose) where
  pub above : KeepsAbove p everything
  above = record { above = λ t c e s u i d. refl; initialisers = λ t k s e. refl; defaults = λ t c m v e s i j k b. refl }

  abbrev virtual_if : Bool → Search → Search
  virtual_if b s = elim b as (λ b. Search) [ true ↦ s | false ↦ Nothing ]

  -- a virtual look-up that finds something is at a class under the named one
  pub record IsAt (t : Text) (k : MethodKey) (g : Found) : Type 0 where
    pub is_class : is_some (class_named p t) ≡ true
    pub under : is_under p f t k.class ≡ true
    pub finds : finds_at p t k ≡ Finds g

  pub is_at : (t : Text) (k : MethodKey) (g : Found) → finds_virtually p f t k ≡ Finds g → IsAt t k g
  is_at t k g e = by (is_some (class_named p t) && is_under p f t k.class) refl e
    where
      by : (b : Bool) → (is_some (class_named p t) && is_under p f t k.class) ≡ b → virtual_if b (finds_at p t k) ≡ Finds g → IsAt t k g
      by true i e = record { is_class = and_left (is_some (class_named p t)) (is_under p f t k.class) i; under = and_behind (is_some (class_named p t)) (is_under p f t k.class) i; finds = e }
      by false i e = clash false (ap (λ s. elim s as (λ s. Bool) [ Nothing ↦ false | Clash ↦ false | Finds g ↦ true ]) e) refl

  pub class_of : (t : Text) → is_some (class_named p t) ≡ true → (c : NamedClass) × ((class_named p t ≡ Some c) × (In c p.classes × (c.name ≡ t)))
  class_of t e = by (class_named p t) refl e
    where
      by : (o : Option NamedClass) → class_named p t ≡ o → is_some o ≡ true → (c : NamedClass) × ((class_named p t ≡ Some c) × (In c p.classes × (c.name ≡ t)))
      by None i e = clash false e refl
      by (Some c) i e = let r = found_passes (λ c. text_eq c.name t) p.classes c i in (c, (i, (r.is_in, text_sound c.name t r.passes)))

  defines_it : (t : Text) → is_some (class_named p t) ≡ true → defines p t ≡ true
  defines_it t e = by (class_named p t) e
    where
      by : (o : Option NamedClass) → is_some o ≡ true → elim o as (λ o. Bool) [ Some c ↦ true | None ↦ false ] ≡ true
      by None e = e
      by (Some c) e = refl

  name_in : (c : NamedClass) (cs : List NamedClass) → In c cs → In c.name (map (λ c. c.name) cs)
  name_in c cs (here xs) = here (map (λ c. c.name) xs)
  name_in c cs (there y xs i) = there y.name (map (λ c. c.name) xs) (name_in c xs i)

  receiver_in : (t : Text) (k : MethodKey) → is_some (class_named p t) ≡ true → is_within p t k.class ≡ true → In t (receivers p k.class)
  receiver_in t k d w = by (text_eq t k.class) refl
    where
      by : (b : Bool) → text_eq t k.class ≡ b → In t (receivers p k.class)
      by true e = subst (λ x. In x (receivers p k.class)) (sym (text_sound t k.class e)) (here (filter (λ u. is_within p u k.class && not (text_eq u k.class)) (map (λ c. c.name) p.classes)))
      by false e = let c = class_of t d in
          there k.class (filter (λ u. is_within p u k.class && not (text_eq u k.class)) (map (λ c. c.name) p.classes))
          (into_filter (λ u. is_within p u k.class && not (text_eq u k.class)) t (map (λ c. c.name) p.classes)
          (subst (λ x. In x (map (λ c. c.name) p.classes)) c.1.1.1 (name_in c.0 p.classes c.1.1.0))
          (ap (λ b. b && not (text_eq t k.class)) w ∙ ap not e))

  -- ---- a loose method that is found virtually

  module _ (t : Text) (k : MethodKey) (g : Found) (l : loose g.key ≡ true) (at : IsAt t k g) where
    found_at : In g (answers_to p t k.name k.signature)
    found_at = at_in p everything above regular t k g at.finds

    pub method_of : IsMethodOf p k.name k.signature g
    method_of = answer p everything above regular k.name k.signature t g found_at

    pub climbs : is_own_under p t g.key.class ≡ true
    climbs = climb_under p everything above regular t g.key.class (answer_climbs p everything above regular k.name k.signature t g found_at)

    pub is_apart : IsApart p g.key
    is_apart = apart g.key method_of.class method_of.method l
        (ap (class_named p) (ap (λ x. x.class) method_of.key_is) ∙ method_of.named) method_of.stands (ap (λ x. x.key) method_of.is) method_of.virtual

    -- no class under its own has a framework ancestor
    pub not_outward : is_outward p t ≡ false
    not_outward = let c = class_of t at.is_class in
        subst (λ x. is_outward p x ≡ false) c.1.1.1
        (none_in (λ c. is_outward p c.name) (classes_under p g.key.class) is_apart.inside c.0
        (into_filter (λ c. is_own_under p c.name g.key.class) c.0 p.classes c.1.1.0 (subst (λ x. is_own_under p x g.key.class ≡ true) (sym c.1.1.1) climbs)))

    -- so its class is under the named one by the program's own lists
    pub within : is_within p t k.class ≡ true
    within = by (under_up p f none regular t k.class (defines_it t at.is_class) at.under)
      where
        by : Up p f none regular (length p.classes) t k.class → is_within p t k.class ≡ true
        by (inside e) = on (text_eq k.class object_type)
          where
            on : (b : Bool) → (b || is_own_under p t k.class) ≡ true
            on true = refl
            on false = e
        by (through e d) = clash (is_outward p t) e not_outward
        by (object e) = ap (λ b. b || is_own_under p t k.class) e

    pub is_receiver : In t (receivers p k.class)
    is_receiver = receiver_in t k at.is_class within

  -- ---- a loose method that a call finds is one that it may find

  one_found : (s : Search) (g : Found) → s ≡ Finds g → In g (found_by s)
  one_found s g e = subst (λ x. In g (found_by x)) (sym e) (here [])

  pub is_among : (class : Text) (kind : InvokeKind) (t : Text) (k : MethodKey) (g : Found) → searched (face_of p f) class kind t k ≡ Finds g → loose g.key ≡ true → In g (may_find p class kind k)
  is_among class call.Static t k g e l = one_found (finds_statically p k) g e
  is_among class call.Direct t k g e l = one_found (finds_statically p k) g e
  is_among class call.Super t k g e l = in_front g (found_by (finds_super p class k)) (super_candidates p k) (one_found (finds_super p class k) g e)
  is_among class call.Virtual t k g e l = let at = is_at t k g e in
      in_flat (λ t. found_by (finds_at p t k) ++ candidates_of p t k.name k.signature) t g (receivers p k.class) (is_receiver t k g l at)
      (in_front g (found_by (finds_at p t k)) (candidates_of p t k.name k.signature) (one_found (finds_at p t k) g at.finds))
  is_among class call.Interface t k g e l = let at = is_at t k g e in
      in_flat (λ t. found_by (finds_at p t k) ++ candidates_of p t k.name k.signature) t g (receivers p k.class) (is_receiver t k g l at)
      (in_front g (found_by (finds_at p t k)) (candidates_of p t k.name k.signature) (one_found (finds_at p t k) g at.finds))

  pub concerned : (class : Text) (kind : InvokeKind) (t : Text) (k : MethodKey) (g : Found) → searched (face_of p f) class kind t k ≡ Finds g → loose g.key ≡ true → concerns p g.key class kind k ≡ true
  concerned class kind t k g e l = by (names_it p g.key k)
    where
      by : (b : Bool) → (b || list_any (λ h. method_eq h.key g.key) (may_find p class kind k)) ≡ true
      by true = refl
      by false = any_here (λ h. method_eq h.key g.key) g (may_find p class kind k) (is_among class kind t k g e l) (method_same g.key)

  -- ---- a call that is edited names a loose method

  data Edited (kind : InvokeKind) (k : MethodKey) : Type 0 where
    Left : edit_by p loose kind k ≡ (kind, k) → ((h : Found) → resolves_method p k ≡ Some h → loose h.key ≡ false) → Edited kind k
    Made : (h : Found) → resolves_method p k ≡ Some h → loose h.key ≡ true → edit_by p loose kind k ≡ (call.Static, new_key h.key) → Edited kind k

  edited : (kind : InvokeKind) (k : MethodKey) → Edited kind k
  edited kind k = by (resolves_method p k) refl
    where
      by : (o : Option Found) → resolves_method p k ≡ o → Edited kind k
      by None e = Left (ap (edit_found loose kind k) e) (λ h i. clash false (ap is_some (sym e ∙ i)) refl)
      by (Some h) e = on (loose h.key) refl
        where
          on : (b : Bool) → loose h.key ≡ b → Edited kind k
          on true l = Made h e l (ap (edit_found loose kind k) e ∙ ap (λ b. if b then (call.Static, new_key h.key) else (kind, k)) l)
          on false l = Left (ap (edit_found loose kind k) e ∙ ap (λ b. if b then (call.Static, new_key h.key) else (kind, k)) l) (λ x i. subst (λ y. loose y.key ≡ false) (ap (λ o. elim o as (λ o. Found) [ Some z ↦ z | None ↦ h ]) (sym e ∙ i)) l)

  -- ---- a plain call

  module _ (class : Text) (kind : InvokeKind) (t : Text) (null : Bool) (k : MethodKey) (plain : (j : MethodKey) → loose j ≡ true → concerns p j class kind k ≡ true → is_plain_call p j class kind k ≡ true) where
    pub record Plain (j : MethodKey) : Type 0 where
      pub found : Found
      pub resolves : resolves_method p k ≡ Some found
      pub key : found.key ≡ j
      pub defined : defines p k.class ≡ true
      pub never_misses : misses p class kind k ≡ false
      pub all_coded : list_any (λ g. not g.coded) (may_find p class kind k) ≡ false
      pub all_are : list_all (λ g. method_eq g.key j) (may_find p class kind k) ≡ true

    resolved_to : (j : MethodKey) → resolves_to p j k ≡ true → (g : Found) × ((resolves_method p k ≡ Some g) × (g.key ≡ j))
    resolved_to j e = by (resolves_method p k) refl e
      where
        by : (o : Option Found) → resolves_method p k ≡ o → elim o as (λ o. Bool) [ Some g ↦ method_eq g.key j | None ↦ false ] ≡ true → (g : Found) × ((resolves_method p k ≡ Some g) × (g.key ≡ j))
        by None i d = clash false d refl
        by (Some g) i d = (g, (i, method_sound g.key j d))

    plain_parts : (j : MethodKey) → is_plain_call p j class kind k ≡ true → Plain j
    plain_parts j e =
        let named = resolves_to p j k && is_subclass p k.class j.class in
        let all = list_all (λ g. method_eq g.key j) (may_find p class kind k) in
        let uncoded = list_any (λ g. not g.coded) (may_find p class kind k) in
        let front : (named && not (may_leave p class kind k)) ≡ true = and_left (named && not (may_leave p class kind k)) all e in
        let to = resolved_to j (and_left (resolves_to p j k) (is_subclass p k.class j.class) (and_left named (not (may_leave p class kind k)) front)) in
        let never : may_leave p class kind k ≡ false = not_false (may_leave p class kind k) (and_behind named (not (may_leave p class kind k)) front) in
        let here : (not (defines p k.class) || misses p class kind k) ≡ false = or_false_left (not (defines p k.class) || misses p class kind k) uncoded never in record {
          found = to.0;
          resolves = to.1.0;
          key = to.1.1;
          defined = not_not (defines p k.class) (or_false_left (not (defines p k.class)) (misses p class kind k) here);
          never_misses = or_false_right (not (defines p k.class)) (misses p class kind k) here;
          all_coded = or_false_right (not (defines p k.class) || misses p class kind k) uncoded never;
          all_are = and_behind (named && not (may_leave p class kind k)) all e;
        }

    -- one that stays finds no loose method
    stays : ((h : Found) → resolves_method p k ≡ Some h → loose h.key ≡ false) → (g : Found) → searched (face_of p f) class kind t k ≡ Finds g → loose g.key ≡ false
    stays h g e = by (loose g.key) refl
      where
        by : (b : Bool) → loose g.key ≡ b → b ≡ false
        by false l = refl
        by true l = let r = plain_parts g.key (plain g.key l (concerned class kind t k g e l)) in clash (loose r.found.key) (ap loose r.key ∙ l) (h r.found r.resolves)

    -- ---- a plain call that is made static finds the method that it names

    named_concerns : (h : Found) → resolves_method p k ≡ Some h → concerns p h.key class kind k ≡ true
    named_concerns h e = ap (λ b. b || list_any (λ g. method_eq g.key h.key) (may_find p class kind k))
        (ap (λ o. elim o as (λ o. Bool) [ Some g ↦ method_eq g.key h.key | None ↦ method_eq k h.key ]) e ∙ method_same h.key)

    -- what a plain call finds is it, and has code
    is_it : (j : MethodKey) → Plain j → (g : Found) → In g (may_find p class kind k) → (g.key ≡ j) × (g.coded ≡ true)
    is_it j h g i = (
      method_sound g.key j (all_in (λ g. method_eq g.key j) (may_find p class kind k) h.all_are g i),
      not_not g.coded (none_in (λ g. not g.coded) (may_find p class kind k) h.all_coded g i),
    )

    becomes : (j : MethodKey) → loose j ≡ true → edit_by p loose kind k ≡ (call.Static, new_key j) → Plain j → (g : Found) → searched (face_of p f) class kind t k ≡ Finds g → In g (may_find p class kind k)
        → (is_static g.flags ≡ false) → (takes_no_receiver kind ≡ false → null ≡ false) → SiteKnown p loose f class kind t null k
    becomes j l e h g i d s n = let r = is_it j h g d in BecomesStatic j l e g i r.0 r.1 s n

  is_finds : Search → Bool
  is_finds s = elim s as (λ s. Bool) [ Nothing ↦ false | Clash ↦ false | Finds g ↦ true ]

  -- what a search of the classes finds has a receiver where it is loose
  statically_receives : (k : MethodKey) (g : Found) → finds_statically p k ≡ Finds g → loose g.key ≡ true → is_static g.flags ≡ false
  statically_receives k g e l = by (first_method (λ m. true) k.name k.signature (chain_of p k.class)) refl e
    where
      by : (o : Option Found) → first_method (λ m. true) k.name k.signature (chain_of p k.class) ≡ o → search_of o ≡ Finds g → is_static g.flags ≡ false
      by None i d = clash false (ap (λ s. elim s as (λ s. Bool) [ Nothing ↦ false | Clash ↦ false | Finds g ↦ true ]) d) refl
      by (Some x) i d =
          let same : x ≡ g = ap (λ s. elim s as (λ s. Found) [ Nothing ↦ x | Clash ↦ x | Finds g ↦ g ]) d in
          let w = first_where (λ m. true) k.name k.signature (chain_of p k.class) x i in
          subst (λ y. is_static y.flags ≡ false) (w.is ∙ same)
          (sound.receiver w.class.name w.class k.name k.signature w.method (chain_named p everything above (length p.classes) k.class w.class w.stands) w.found
          (ap loose (sym (where_key everything (λ m. true) k.name k.signature (chain_of p k.class) x w) ∙ ap (λ y. y.key) same) ∙ l))

  no_static : (a b c : Bool) → (not a && b && c) ≡ true → a ≡ false
  no_static true b c e = sym e
  no_static false b c e = refl

  virtually_receives : (t : Text) (k : MethodKey) (g : Found) → IsAt t k g → loose g.key ≡ true → is_static g.flags ≡ false
  virtually_receives t k g at l = let m = method_of t k g l at in
      subst (λ y. is_static y.flags ≡ false) m.is (no_static (is_static m.method.flags) (not (is_private m.method.flags)) (not (is_special m.method.name)) m.virtual)

  -- candidates are of interfaces, so none is loose
  pub candidate_not : (ts : List Text) (n : Text) (g : Signature) (x : Found) → In x (candidates p ts n g) → loose x.key ≡ false
  candidate_not ts n g x i =
      let c = candidate_interface p everything above regular n g ts x i in
      let m = candidate p everything above regular n g ts x i in
      let same : c.class ≡ m.class = some_same c.class m.class (sym c.named ∙ ap (class_named p) (ap (λ y. y.class) m.key_is) ∙ m.named) in
      let named : interface_named p x.key.class ≡ Some c.class = ap (λ o. elim o as (λ o. Option NamedClass) [ Some c ↦ elim (is_interface c.flags) as (λ b. Option NamedClass) [ true ↦ Some c | false ↦ None ] | None ↦ None ]) c.named ∙ ap (λ b. elim b as (λ b. Option NamedClass) [ true ↦ Some c.class | false ↦ None ]) c.is_interface in
      ap loose (m.key_is ∙ ap (λ d. key d.name n g) (sym same)) ∙ sound.inner x.key.class c.class named n g

  no_clash : (ts : List Text) (n : Text) (g : Signature) {A : Type 0} → ((x : Found) → In x (candidates p ts n g) → loose x.key ≡ true) → finds_among p ts n g ≡ Clash → A
  no_clash ts n g {A} h e = by (lowest p (candidates p ts n g)) refl e
    where
      by : (fs : List Found) → lowest p (candidates p ts n g) ≡ fs → verdict fs ≡ Clash → A
      by [] i d = clash true refl (sym (ap (λ s. elim s as (λ s. Bool) [ Nothing ↦ true | Clash ↦ false | Finds g ↦ true ]) (sym d)))
      by (x ∷ []) i d = clash true refl (sym (ap (λ s. elim s as (λ s. Bool) [ Nothing ↦ true | Clash ↦ false | Finds g ↦ true ]) (sym d)))
      by (x ∷ y ∷ fs) i d =
          let c = in_unfiltered (λ f. f.coded && is_lowest p (candidates p ts n g) f) x (candidates p ts n g) (subst (In x) (sym i) (here (y ∷ fs))) in
          clash (loose x.key) (h x c) (candidate_not ts n g x c)

  -- ---- super calls

  above_receives : (class : Text) (k : MethodKey) (g : Found) → finds_above p class k ≡ Finds g → loose g.key ≡ true → is_static g.flags ≡ false
  above_receives class k g e l = by (first_method (λ m. true) k.name k.signature (chain_of p (superclass_of p class))) refl e
    where
      by : (o : Option Found) → first_method (λ m. true) k.name k.signature (chain_of p (superclass_of p class)) ≡ o → search_of o ≡ Finds g → is_static g.flags ≡ false
      by None i d = clash false (ap (λ s. elim s as (λ s. Bool) [ Nothing ↦ false | Clash ↦ false | Finds g ↦ true ]) d) refl
      by (Some x) i d =
          let same : x ≡ g = ap (λ s. elim s as (λ s. Found) [ Nothing ↦ x | Clash ↦ x | Finds g ↦ g ]) d in
          let w = first_where (λ m. true) k.name k.signature (chain_of p (superclass_of p class)) x i in
          subst (λ y. is_static y.flags ≡ false) (w.is ∙ same)
          (sound.receiver w.class.name w.class k.name k.signature w.method (chain_named p everything above (length p.classes) (superclass_of p class) w.class w.stands) w.found
          (ap loose (sym (where_key everything (λ m. true) k.name k.signature (chain_of p (superclass_of p class)) x w) ∙ ap (λ y. y.key) same) ∙ l))

  no_above_clash : (class : Text) (k : MethodKey) {A : Type 0} → finds_above p class k ≡ Clash → A
  no_above_clash class k {A} e = by (first_method (λ m. true) k.name k.signature (chain_of p (superclass_of p class))) e
    where
      by : (o : Option Found) → search_of o ≡ Clash → A
      by None d = clash true refl (sym (ap (λ s. elim s as (λ s. Bool) [ Nothing ↦ true | Clash ↦ false | Finds g ↦ true ]) (sym d)))
      by (Some x) d = clash true refl (sym (ap (λ s. elim s as (λ s. Bool) [ Nothing ↦ true | Clash ↦ false | Finds g ↦ true ]) (sym d)))

  -- where the answer of a super call comes from
  data Super (class : Text) (k : MethodKey) (s : Search) : Type 0 where
    Upwards : finds_above p class k ≡ s → Super class k s
    Among : finds_among p (k.class ∷ []) k.name k.signature ≡ s → super_candidates p k ≡ candidates p (k.class ∷ []) k.name k.signature → Super class k s
    Outside : s ≡ Nothing → Super class k s

  super_from : (class : Text) (k : MethodKey) (s : Search) → finds_super p class k ≡ s → Super class k s
  super_from class k s e = by (is_037 p.version) refl e
    where
      choice : Bool → Search → Search → Search
      choice b x y = elim b as (λ b. Search) [ true ↦ x | false ↦ y ]

      interface : (c : NamedClass) → is_037 p.version ≡ true → class_named p k.class ≡ Some c → is_interface c.flags ≡ true → super_candidates p k ≡ candidates p (k.class ∷ []) k.name k.signature
      interface c v i d =
          ap (λ b. elim (b && is_some (interface_named p k.class)) as (λ b. List Found) [ true ↦ candidates p (k.class ∷ []) k.name k.signature | false ↦ [] ]) v
          ∙ ap (λ o. elim (is_some (elim o as (λ o. Option NamedClass) [ Some c ↦ elim (is_interface c.flags) as (λ b. Option NamedClass) [ true ↦ Some c | false ↦ None ] | None ↦ None ])) as (λ b. List Found) [ true ↦ candidates p (k.class ∷ []) k.name k.signature | false ↦ [] ]) i
          ∙ ap (λ b. elim (is_some (elim b as (λ b. Option NamedClass) [ true ↦ Some c | false ↦ None ])) as (λ b. List Found) [ true ↦ candidates p (k.class ∷ []) k.name k.signature | false ↦ [] ]) d

      pick : (c : NamedClass) (b : Bool) → is_037 p.version ≡ true → class_named p k.class ≡ Some c → is_interface c.flags ≡ b → choice b (finds_among p (c.name ∷ []) k.name k.signature) (finds_above p class k) ≡ s → Super class k s
      pick c true v i d j = let n = text_sound c.name k.class (found_passes (λ c. text_eq c.name k.class) p.classes c i).passes in
          Among (ap (λ t. finds_among p (t ∷ []) k.name k.signature) (sym n) ∙ j) (interface c v i d)
      pick c false v i d j = Upwards j

      out : (b : Bool) → choice b Nothing (finds_above p class k) ≡ s → Super class k s
      out true j = Outside (sym j)
      out false j = Upwards j

      new : (o : Option NamedClass) → is_037 p.version ≡ true → class_named p k.class ≡ o → finds_super_037 p class k o ≡ s → Super class k s
      new (Some c) v i j = pick c (is_interface c.flags) v i refl j
      new None v i j = out (lists_interface p class k.class) j

      by : (b : Bool) → is_037 p.version ≡ b → choice b (finds_super_037 p class k (class_named p k.class)) (finds_above p class k) ≡ s → Super class k s
      by true v j = new (class_named p k.class) v refl j
      by false v j = Upwards j

  -- ---- what is known of a call

  module _ (class : Text) (t : Text) (null : Bool) (k : MethodKey) where
    abbrev Plainly : InvokeKind → Type 0
    Plainly kind = (j : MethodKey) → loose j ≡ true → concerns p j class kind k ≡ true → is_plain_call p j class kind k ≡ true

    abbrev Goal : InvokeKind → Type 0
    Goal kind = SiteKnown p loose f class kind t null k

    -- a static or direct call
    by_class : (kind : InvokeKind) (plain : Plainly kind) (j : MethodKey) → loose j ≡ true → edit_by p loose kind k ≡ (call.Static, new_key j) → Plain class kind t null k plain j
        → misses p class kind k ≡ is_nothing (finds_statically p k) → may_find p class kind k ≡ found_by (finds_statically p k) → searched (face_of p f) class kind t k ≡ finds_statically p k
        → (takes_no_receiver kind ≡ false → null ≡ false) → Goal kind
    by_class kind plain j l e h nothing finds looks n = by (first_method (λ m. true) k.name k.signature (chain_of p k.class)) refl
      where
        by : (o : Option Found) → first_method (λ m. true) k.name k.signature (chain_of p k.class) ≡ o → Goal kind
        by None i = clash (misses p class kind k) (nothing ∙ ap (λ o. is_nothing (search_of o)) i) h.never_misses
        by (Some g) i =
            let s : finds_statically p k ≡ Finds g = ap search_of i in
            let among : In g (may_find p class kind k) = subst (λ gs. In g gs) (sym finds) (one_found (finds_statically p k) g s) in
            let r = is_it class kind t null k plain j h g among in
            becomes class kind t null k plain j l e h g (looks ∙ s) among (statically_receives k g s (ap loose r.0 ∙ l)) n

    by_object : (plain : Plainly call.Virtual) (j : MethodKey) → loose j ≡ true → edit_by p loose call.Virtual k ≡ (call.Static, new_key j) → Plain class call.Virtual t null k plain j
        → ReceiverKnown p f call.Virtual t null k → Goal call.Virtual
    by_object plain j l e h r = by (finds_at p t k) refl
      where
        within_it : is_within p t k.class ≡ true
        within_it = up (under_up p f none regular t k.class (defines_it t (r.is_class refl)) (r.under refl))
          where
            up : Up p f none regular (length p.classes) t k.class → is_within p t k.class ≡ true
            up (inside e) = on (text_eq k.class object_type)
              where
                on : (b : Bool) → (b || is_own_under p t k.class) ≡ true
                on true = refl
                on false = e
            up (through e d) = clash (defines p k.class) h.defined d
            up (object e) = ap (λ b. b || is_own_under p t k.class) e

        there_is : In t (receivers p k.class)
        there_is = receiver_in t k (r.is_class refl) within_it

        among : (g : Found) → In g (found_by (finds_at p t k) ++ candidates_of p t k.name k.signature) → In g (may_find p class call.Virtual k)
        among g i = in_flat (λ t. found_by (finds_at p t k) ++ candidates_of p t k.name k.signature) t g (receivers p k.class) there_is i

        looks : searched (face_of p f) class call.Virtual t k ≡ finds_at p t k
        looks = ap (λ b. virtual_if (b && is_under p f t k.class) (finds_at p t k)) (r.is_class refl) ∙ ap (λ b. virtual_if b (finds_at p t k)) (r.under refl)

        clashes : {A : Type 0} → finds_at p t k ≡ Clash → A
        clashes {A} d = on (first_method is_virtual_method k.name k.signature (chain_of p t)) d
          where
            on : (o : Option Found) → elim o as (λ o. Search) [ Some f ↦ Finds f | None ↦ finds_among p (flat_map (λ c. c.interfaces) (chain_of p t)) k.name k.signature ] ≡ Clash → A
            on (Some x) d = clash true refl (sym (ap (λ s. elim s as (λ s. Bool) [ Nothing ↦ true | Clash ↦ false | Finds g ↦ true ]) (sym d)))
            on None d = no_clash (flat_map (λ c. c.interfaces) (chain_of p t)) k.name k.signature
                (λ x i. ap loose (is_it class call.Virtual t null k plain j h x (among x (in_back x (found_by (finds_at p t k)) (candidates_of p t k.name k.signature) i))).0 ∙ l) d

        by : (s : Search) → finds_at p t k ≡ s → Goal call.Virtual
        by Nothing d = clash (is_nothing (finds_at p t k)) (ap is_nothing d)
            (none_in (λ t. is_nothing (finds_at p t k)) (receivers p k.class) (or_false_right (is_some (interface_named p k.class)) (list_any (λ t. is_nothing (finds_at p t k)) (receivers p k.class)) h.never_misses) t there_is)
        by Clash d = clashes d
        by (Finds g) d =
            let i = among g (in_front g (found_by (finds_at p t k)) (candidates_of p t k.name k.signature) (one_found (finds_at p t k) g d)) in
            let z = is_it class call.Virtual t null k plain j h g i in
            becomes class call.Virtual t null k plain j l e h g (looks ∙ d) i
            (virtually_receives t k g (record { is_class = r.is_class refl; under = r.under refl; finds = d }) (ap loose z.0 ∙ l)) r.given

    by_super : (plain : Plainly call.Super) (j : MethodKey) → loose j ≡ true → edit_by p loose call.Super k ≡ (call.Static, new_key j) → Plain class call.Super t null k plain j
        → (takes_no_receiver call.Super ≡ false → null ≡ false) → Goal call.Super
    by_super plain j l e h n = by (finds_super p class k) refl
      where
        among : (g : Found) → In g (super_candidates p k) → loose g.key ≡ true
        among g i = ap loose (is_it class call.Super t null k plain j h g (in_back g (found_by (finds_super p class k)) (super_candidates p k) i)).0 ∙ l

        by : (s : Search) → finds_super p class k ≡ s → Goal call.Super
        by Nothing d = clash (is_nothing (finds_super p class k)) (ap is_nothing d) h.never_misses
        by Clash d = on (super_from class k Clash d)
          where
            on : Super class k Clash → Goal call.Super
            on (Upwards a) = no_above_clash class k a
            on (Among a c) = no_clash (k.class ∷ []) k.name k.signature (λ x i. among x (subst (In x) (sym c) i)) a
            on (Outside a) = clash true refl (ap (λ s. elim s as (λ s. Bool) [ Nothing ↦ false | Clash ↦ true | Finds g ↦ true ]) a)
        by (Finds g) d = becomes class call.Super t null k plain j l e h g d i receives n
          where
            i : In g (may_find p class call.Super k)
            i = in_front g (found_by (finds_super p class k)) (super_candidates p k) (one_found (finds_super p class k) g d)

            is_loose : loose g.key ≡ true
            is_loose = ap loose (is_it class call.Super t null k plain j h g i).0 ∙ l

            on : Super class k (Finds g) → is_static g.flags ≡ false
            on (Upwards a) = above_receives class k g a is_loose
            on (Among a c) = clash (loose g.key) is_loose (candidate_not (k.class ∷ []) k.name k.signature g (among_in p everything above regular (k.class ∷ []) k.name k.signature g a))
            on (Outside a) = clash true refl (ap (λ s. elim s as (λ s. Bool) [ Nothing ↦ false | Clash ↦ false | Finds g ↦ true ]) a)

            receives : is_static g.flags ≡ false
            receives = on (super_from class k (Finds g) d)

    made : (kind : InvokeKind) (plain : Plainly kind) (h : Found) → resolves_method p k ≡ Some h → loose h.key ≡ true → edit_by p loose kind k ≡ (call.Static, new_key h.key) → Plain class kind t null k plain h.key → ReceiverKnown p f kind t null k → Goal kind
    made call.Static plain h e l d c r = by_class call.Static plain h.key l d c refl refl refl r.given
    made call.Direct plain h e l d c r = by_class call.Direct plain h.key l d c refl refl refl r.given
    made call.Super plain h e l d c r = by_super plain h.key l d c r.given
    made call.Interface plain h e l d c r = clash true refl c.never_misses
    made call.Virtual plain h e l d c r = by_object plain h.key l d c r

    -- where each call that concerns a loose method is plain, and facts know the receivers of those that name one
    pub site_known : (kind : InvokeKind) (plain : Plainly kind) → IsOld loose k.name k.signature → ((h : Found) → resolves_method p k ≡ Some h → loose h.key ≡ true → ReceiverKnown p f kind t null k) → Goal kind
    site_known kind plain old receiver = by (edited kind k)
      where
        by : Edited kind k → Goal kind
        by (Left e h) = StaysAsItIs e old (stays class kind t null k plain h)
        by (Made h e l d) = made kind plain h e l d (plain_parts class kind t null k plain h.key (plain h.key l (named_concerns class kind t null k plain h e))) (receiver h e l)
