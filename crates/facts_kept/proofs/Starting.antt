-- The initialisers of the classes that may be initialised are entered by names: each class that is needed by names is marked by
-- number, and so is each that is initialised before a marked one.
use Rattle.std.proofs.Common.{◌≡◌, ℕ, zero, suc, ◌<◌, ◌⊎◌, inl, inr, Bool, true, false, true≢false, List, [], ◌∷◌, ◌++◌, length, Option, Some, None, refl, sym, ap, ◌∙◌, subst, arith}
use Rattle.std.specs.Prelude.{◌&&◌, ◌||◌, not, is_some, map, nat_eq, slice_get, option_and_then, Contains}
use Rattle.std.specs.List.{list_all, list_any}
use Rattle.std.specs.Option.{option_map}
use Rattle.lemmas.proofs.Bools.{or_cases, or_left, or_right}
use Rattle.lemmas.proofs.Options.{none_some, some_same}
use Rattle.insn_set.specs.declared.form.Insn.{Insn}
use Rattle.insn_set.specs.declared.form.Insn.TheVariants as insn
use Rattle.insn_set.specs.declared.ops.InvokeKind.TheVariants as call
use Rattle.insn_set.specs.declared.ops.Item.{Item}
use Rattle.program_model.specs.Lookups.{class_place}
use Rattle.program_model.specs.MemberRules.{is_direct}
use Rattle.program_model.specs.OperandRules.{numbers_fit}
use Rattle.program_model.specs.Texts.{has_type}
use Rattle.program_model.specs.declared.pass.Outside.{Outside}
use Rattle.program_model.specs.declared.pools.MethodName.{MethodName}
use Rattle.program_model.specs.declared.program.Class.{Class}
use Rattle.program_model.specs.declared.program.Field.{Field}
use Rattle.program_model.specs.declared.program.Method.{Method}
use Rattle.program_model.specs.declared.program.MethodAt.{MethodAt}
use Rattle.program_model.specs.declared.program.Program.{Program}
use Rattle.class_defs.specs.Finding.{beside, finds_static, resolves_field, search_of}
use Rattle.class_defs.specs.Members.{is_interface}
use Rattle.class_defs.specs.Places.{interface_places, listed, placed, places_of}
use Rattle.class_defs.specs.Starts.{initialiser_of}
use Rattle.class_defs.proofs.Positions.{both, number_test}
use Rattle.class_defs.proofs.WellFormed.{and_left, and_right, below, Sound, class_parts}
use Rattle.call_graph.specs.Follows.{can_be_made}
use Rattle.call_graph.specs.declared.live_set.LiveSet.{LiveSet}
use Rattle.call_targets.specs.Targeted as targeted
use Rattle.call_targets.specs.Targeted.{IsTargeted}
use Rattle.call_targets.specs.declared.table.Targets.{Targets}
use Rattle.dalvik_defs.specs.Find as find
use Rattle.dalvik_defs.specs.Find.{Found, finds_statically, interface_named, is_virtual_method}
use Rattle.dalvik_defs.specs.Flags as flags
use Rattle.dalvik_defs.specs.Initialised as first
use Rattle.dalvik_defs.specs.Initialised.{first_of_class, firsts, initialised_first, initialiser_in, initialiser_key, interfaces_before, interfaces_first, only_if}
use Rattle.dalvik_defs.specs.Names.{Text, initialiser_name, signature_eq, text_eq, void}
use Rattle.dalvik_defs.specs.Naming.{field_at, form_of, method_at, named, named_class, named_method, signature_at, text_at, type_at}
use Rattle.dalvik_defs.specs.Outer.{outer_of}
use Rattle.dalvik_defs.specs.Silence.{key_in}
use Rattle.dalvik_defs.specs.Under.{class_named, defines}
use Rattle.dalvik_defs.specs.declared.names.MethodKey.{MethodKey}
use Rattle.dalvik_defs.specs.declared.program.NamedClass.{NamedClass}
use Rattle.dalvik_defs.specs.declared.program.NamedField.{NamedField}
use Rattle.dalvik_defs.proofs.Calm.{text_sound}
use Rattle.name_bridge.specs.Named as names
use Rattle.name_bridge.specs.Named.{field_at_place, field_of, field_there, search_at}
use Rattle.name_bridge.proofs.Above.{own_place}
use Rattle.name_bridge.proofs.Candidates.{coded_test, version_test}
use Rattle.name_bridge.proofs.Fields.{field_resolves_by_number}
use Rattle.name_bridge.proofs.Flags.{interface_flag}
use Rattle.name_bridge.proofs.Found.{found_parts, text_same, virtual_test}
use Rattle.name_bridge.proofs.Resolved.{static_by_number}
use Rattle.name_bridge.proofs.Started.{initialiser_by_number}
use Rattle.name_bridge.proofs.Tables.{type_once}
use Rattle.removal_law.proofs.Lists.{In, all_in, here, there, contained, in_either}
use Rattle.removal_law.proofs.Finds.{in_unfiltered, out_of_flat}
use Rattle.removal_law.proofs.Outward.{any_here, any_where}
use Rattle.removal_law.proofs.Trees.{defined}
use Rattle.removal_bridge.proofs.Members.{class_known}
use Rattle.facts.specs.declared.facts.Facts as table
use Rattle.closed_facts.specs.Entries as number
use Rattle.closed_facts.specs.Found as found
use Rattle.pass_defs.specs.Demands.{is_constructor_name}
use Rattle.pass_defs.specs.Facts as pass
use Rattle.pass_defs.specs.Facts.{Facts, Initialises, keeps_constructor, may_be_made, needs}
use Rattle.pass_defs.specs.Live.{is_concrete}
use Rattle.domains.specs.Values.{Parts}
use Rattle.reach.specs.Marked.{IsMarked}
use Rattle.reach_bridge.proofs.Based.{S}
use Rattle.reach_bridge.proofs.Held.{of_image, placed_at, stands}
use Rattle.reach_bridge.proofs.Keeping.{concrete_can, named_short}
use Rattle.reach_bridge.proofs.Mentioned.{nothing_in, only}
use Rattle.reach_bridge.proofs.Upward.{own_class}
use Rattle.run_facts.specs.Closed as name
use Rattle.facts_kept.specs.Names.{named_facts, values}
use Rattle.facts_kept.proofs.Asking.{marked_at}
use Rattle.facts_kept.proofs.Defining.{listed_number}
use Rattle.facts_kept.proofs.Entering.{call_low}
use Rattle.facts_kept.proofs.Fits.{all_fit}
use Rattle.facts_kept.proofs.Numbers.{signature_sound}
use Rattle.facts_kept.proofs.Opening.{entered_number, initialiser_named, own, starts_at, static_entered}
use Rattle.facts_kept.proofs.Places.{here_at, found_at, looked_up, own_key}

-- ---- lists

one : (c : ℕ) → Contains (c ∷ []) c
one c = (0, omega arith, refl)

any_image : {A B : Type 0} (f : B → Bool) (u : A → Bool) (g : A → B) (xs : List A) → ((x : A) → f (g x) ≡ u x) → list_any f (map g xs) ≡ list_any u xs
any_image f u g [] h = refl
any_image f u g (x ∷ xs) h = ap (λ b. b || list_any f (map g xs)) (h x) ∙ ap (λ b. u x || b) (any_image f u g xs h)

firsts_in : (u : Text) (ts : List Text) → In u (firsts ts) → In u ts
firsts_in u [] i = elim i [ ]
firsts_in u (t ∷ ts) (here xs) = here ts
firsts_in u (t ∷ ts) (there z xs i) = there t ts (firsts_in u ts (in_unfiltered (λ v. not (text_eq v t)) u (firsts ts) i))

if_in : (b : Bool) (t u : Text) → In u (only_if b t) → (b ≡ true) × (t ≡ u)
if_in true t u i = (refl, only u t i)
if_in false t u i = nothing_in u i

-- a place among those of a list of types
in_places : (p : Program) (k c : ℕ) (ks : List ℕ) → In k ks → class_place p k ≡ Some c → In c (places_of p ks)
in_places p k c [] i e = elim i [ ]
in_places p k c (j ∷ ks) (here xs) e = subst (λ o. In c (placed o (places_of p ks))) (sym e) (here (places_of p ks))
in_places p k c (j ∷ ks) (there z xs i) e = by (class_place p j) (in_places p k c ks i e)
  where
    by : (o : Option ℕ) → In c (places_of p ks) → In c (placed o (places_of p ks))
    by None h = h
    by (Some d) h = there d (places_of p ks) h

default_same : (p : Program) (k : Class) → first.has_default (named_class p k) ≡ number.has_default p (Some k)
default_same p k = any_image (λ m. is_virtual_method m && is_some m.body) (λ m. not (is_direct p m) && is_some m.body) (named_method p) k.methods
    (λ m. ap (λ b. b && is_some (named_method p m).body) (virtual_test p m) ∙ ap (λ b. not (is_direct p m) && b) (coded_test p m.body))

module _ (p : Program) (o : Outside) (live : LiveSet) (g : IsMarked p o live) where
  abbrev s : Sound p
  s = S p o live g

  -- ---- classes by their names

  -- the place of a type is that of the class of its name
  placed_by : (c kind : ℕ) (k : Class) → slice_get p.classes c ≡ Some k → kind < length p.types → type_at p k.name ≡ type_at p kind → class_place p kind ≡ Some c
  placed_by c kind k e low same = ap (class_place p) (type_once p s kind k.name low (class_parts p s c k e).name (sym same)) ∙ own_place p g.once c k e

  -- two classes of one name
  same_place : (c d : ℕ) (k j : Class) → slice_get p.classes c ≡ Some k → slice_get p.classes d ≡ Some j → type_at p k.name ≡ type_at p j.name → d ≡ c
  same_place c d k j e f same = some_same d c (sym (own_place p g.once d j f) ∙ placed_by c j.name k e (class_parts p s d j f).name same)

  -- ---- what an instruction needs

  abbrev Needs : Insn → Text → Type 0
  Needs i u = (c : ℕ) (k : Class) → slice_get p.classes c ≡ Some k → type_at p k.name ≡ u → Contains (found.needs p i) c

  beside_one : (o : Option ℕ) (c : ℕ) → o ≡ Some c → Contains (beside o) c
  beside_one o c e = subst (λ o. Contains (beside o) c) (sym e) (one c)

  type_low : (to kind : ℕ) → numbers_fit (insn.NewInstance to kind) p ≡ true → kind < length p.types
  unfolding numbers_fit
  type_low to kind h = below kind (length p.types) h

  get_low : (item : Item) (to field : ℕ) → numbers_fit (insn.StaticGet item to field) p ≡ true → field < length p.fields
  unfolding numbers_fit
  get_low item to field h = below field (length p.fields) h

  put_low : (item : Item) (from field : ℕ) → numbers_fit (insn.StaticPut item from field) p ≡ true → field < length p.fields
  unfolding numbers_fit
  put_low item from field h = below field (length p.fields) h

  -- the class of the field that a number names
  abbrev class_found : Option (Text × NamedField) → List Text
  class_found x = elim x as (λ x. List Text) [ Some f ↦ f.0 ∷ [] | None ↦ [] ]

  field_needs : (field : ℕ) (u : Text) → field < length p.fields → Contains (pass.field_class (named p) (field_at p field)) u → (c : ℕ) (k : Class) → slice_get p.classes c ≡ Some k → type_at p k.name ≡ u
      → Contains (found.field_class p field) c
  field_needs field u low has c k e same = by (resolves_field p field) refl
      (subst (λ x. Contains (elim x as (λ x. List Text) [ Some f ↦ f.0 ∷ [] | None ↦ [] ]) u) (field_resolves_by_number p s field low) has)
    where
      by_field : (at : ℕ × ℕ) (d : Class) → resolves_field p field ≡ Some at → slice_get p.classes at.0 ≡ Some d → (x : Option Field) → Contains (class_found (field_there p d x)) u → Contains (found.field_class p field) c
      by_field at d r i None h = nothing_in u (stands [] u h)
      by_field at d r i (Some f) h = beside_one (option_map (λ at. at.0) (resolves_field p field)) c (ap (option_map (λ at. at.0)) r ∙ ap Some (same_place c at.0 k d e i (same ∙ sym (only u (type_at p d.name) (stands (type_at p d.name ∷ []) u h)))))

      by_class : (at : ℕ × ℕ) → resolves_field p field ≡ Some at → (x : Option Class) → slice_get p.classes at.0 ≡ x → Contains (class_found (field_of p at.1 x)) u → Contains (found.field_class p field) c
      by_class at r None i h = nothing_in u (stands [] u h)
      by_class at r (Some d) i h = by_field at d r i (slice_get d.fields at.1) h

      by : (x : Option (ℕ × ℕ)) → resolves_field p field ≡ x → Contains (class_found (option_and_then (field_at_place p) x)) u → Contains (found.field_class p field) c
      by None r h = nothing_in u (stands [] u h)
      by (Some at) r h = by_class at r (slice_get p.classes at.0) refl h

  -- the class of the method that a static call finds
  call_needs : (method : ℕ) (args : List ℕ) (u : Text) → method < length p.methods → Contains (pass.static_class (finds_statically (named p) (method_at p method))) u → (c : ℕ) (k : Class) → slice_get p.classes c ≡ Some k
      → type_at p k.name ≡ u → Contains (found.needs p (insn.Invoke call.Static method args)) c
  call_needs method args u low has c k e same = by (finds_static p method) refl (subst (λ x. Contains (pass.static_class x) u) (static_by_number p s method low) has)
    where
      by_flag : (b : Bool) (t : Text) → Contains (elim b as (λ b. List Text) [ true ↦ t ∷ [] | false ↦ [] ]) u → t ≡ u
      by_flag true t h = only u t (stands (t ∷ []) u h)
      by_flag false t h = nothing_in u (stands [] u h)

      by_found : (at : MethodAt) → finds_static p method ≡ Some at → (x : Option Found) → names.found_at p at ≡ x → Contains (pass.static_class (names.finds x)) u → Contains (found.needs p (insn.Invoke call.Static method args)) c
      by_found at r None i h = nothing_in u (stands [] u h)
      by_found at r (Some f) i h =
          let w = found_parts p at f i in
          let class : type_at p w.there.class.name ≡ u = ap (λ f. f.key.class) (sym w.found) ∙ by_flag (flags.is_static f.flags) f.key.class h in
          beside_one (option_map (λ at. at.class) (finds_static p method)) c (ap (option_map (λ at. at.class)) r ∙ ap Some (same_place c at.class k w.there.class e w.there.is_class (same ∙ sym class)))

      by : (x : Option MethodAt) → finds_static p method ≡ x → Contains (pass.static_class (search_at p (search_of x))) u → Contains (found.needs p (insn.Invoke call.Static method args)) c
      by None r h = nothing_in u (stands [] u h)
      by (Some at) r h = by_found at r (names.found_at p at) refl h

  needs_number : (i : Insn) (u : Text) → numbers_fit i p ≡ true → Contains (needs (named p) (form_of p i)) u → Needs i u
  needs_number (insn.NewInstance to kind) u fits has = λ c k e same.
      beside_one (class_place p kind) c (placed_by c kind k e (type_low to kind fits) (same ∙ sym (only u (type_at p kind) (stands (type_at p kind ∷ []) u has))))
  needs_number (insn.StaticGet item to field) u fits has = field_needs field u (get_low item to field fits) has
  needs_number (insn.StaticPut item from field) u fits has = field_needs field u (put_low item from field fits) has
  needs_number (insn.Invoke call.Static method args) u fits has = call_needs method args u (call_low p call.Static method args fits) has
  needs_number i u fits has = nothing_in u (stands [] u has)

  -- ---- what the framework may make

  maker_name : (m : Method) → is_constructor_name (named_method p m).name ≡ true → targeted.is_constructor_name p (slice_get p.methods m.name) ≡ true
  maker_name m h = by (slice_get p.methods m.name) h
    where
      by : (x : Option MethodName) → is_constructor_name (elim x as (λ x. MethodKey) [ Some m ↦ record { class = type_at p m.class; name = text_at p m.name; signature = signature_at p m.proto } | None ↦ record { class = []; name = []; signature = record { parameters = []; result = [] } } ]).name ≡ true
          → targeted.is_constructor_name p x ≡ true
      by None h = absurd (true≢false (sym h))
      by (Some q) h = ap is_constructor_name (sym (text_same p q.name)) ∙ h

  class_is : (c : ℕ) (k : Class) → slice_get p.classes c ≡ Some k → class_named (named p) (type_at p k.name) ≡ Some (named_class p k)
  class_is c k e = class_known p s g.once c k e

  module _ (c : ℕ) (k : Class) (e : slice_get p.classes c ≡ Some k) where
    concrete : is_concrete (named p) (type_at p k.name) ≡ true → can_be_made k ≡ true
    concrete h = concrete_can p k (named_class p k) refl (sym (ap (λ x. elim x as (λ x. Bool) [ Some c ↦ not (flags.is_interface c.flags) && not (flags.is_abstract c.flags) | None ↦ false ]) (class_is c k e)) ∙ h)

    keeps_class : (outer_of p o).classes (type_at p k.name) ≡ true → targeted.keeps_class o k.name ≡ true
    keeps_class h =
        let r = any_where (λ n. text_eq (type_at p n) (type_at p k.name)) o.classes h in
        let name = text_sound (type_at p r.0) (type_at p k.name) r.1.1 in
        let short = named_short p o live g r.0 (ap (defines (named p)) name ∙ defined (named p) (type_at p k.name) (named_class p k) (class_is c k e)) in
        or_left (list_any (nat_eq k.name) o.classes) (list_any (λ x. nat_eq k.name x.class) o.classes_if)
        (any_here (nat_eq k.name) r.0 o.classes r.1.0 (number_test k.name r.0 (type_once p s k.name r.0 (class_parts p s c k e).name short (sym name))))

    keeps_maker : keeps_constructor (named p) (outer_of p o) (type_at p k.name) ≡ true → targeted.keeps_constructor p o k ≡ true
    keeps_maker h =
        let r = any_where (λ m. is_constructor_name m.name && (outer_of p o).methods (key_in (named_class p k) m)) (named_class p k).methods
        (sym (ap (λ x. elim x as (λ x. Bool) [ Some c ↦ list_any (λ m. is_constructor_name m.name && (outer_of p o).methods (key_in c m)) c.methods | None ↦ false ]) (class_is c k e)) ∙ h) in
        let m = of_image (named_method p) r.0 k.methods r.1.0 in
        let j = placed_at k.methods m.0 m.1.0 in
        let holds = subst (λ z. (is_constructor_name z.name && (outer_of p o).methods (key_in (named_class p k) z)) ≡ true) (sym m.1.1) r.1.1 in
        let key = key_in (named_class p k) (named_method p m.0) in
        let own = own_key p s c j.0 k m.0 e j.1 in
        any_here (λ m. targeted.keeps_method o m.name && targeted.is_constructor_name p (slice_get p.methods m.name)) m.0 k.methods m.1.0
        (both (targeted.keeps_method o m.0.name) (targeted.is_constructor_name p (slice_get p.methods m.0.name))
        (or_left (list_any (nat_eq m.0.name) o.methods) (list_any (nat_eq m.0.name) o.methods_if)
        (listed_number p s key m.0.name c k o.methods own e refl (and_right (is_constructor_name (named_method p m.0).name) ((outer_of p o).methods key) holds)))
        (maker_name m.0 (and_left (is_constructor_name (named_method p m.0).name) ((outer_of p o).methods key) holds)))

    made_outside : may_be_made (named p) (outer_of p o) (type_at p k.name) ≡ true → targeted.may_be_made p o k ≡ true
    made_outside h = both (can_be_made k) (targeted.keeps_class o k.name || targeted.keeps_constructor p o k)
        (concrete (and_right ((outer_of p o).classes (type_at p k.name) || keeps_constructor (named p) (outer_of p o) (type_at p k.name)) (is_concrete (named p) (type_at p k.name)) h))
        (by (or_cases ((outer_of p o).classes (type_at p k.name)) (keeps_constructor (named p) (outer_of p o) (type_at p k.name))
        (and_left ((outer_of p o).classes (type_at p k.name) || keeps_constructor (named p) (outer_of p o) (type_at p k.name)) (is_concrete (named p) (type_at p k.name)) h)))
      where
        by : ((outer_of p o).classes (type_at p k.name) ≡ true) ⊎ (keeps_constructor (named p) (outer_of p o) (type_at p k.name) ≡ true) → (targeted.keeps_class o k.name || targeted.keeps_constructor p o k) ≡ true
        by (inl h) = or_left (targeted.keeps_class o k.name) (targeted.keeps_constructor p o k) (keeps_class h)
        by (inr h) = or_right (targeted.keeps_class o k.name) (targeted.keeps_constructor p o k) (keeps_maker h)

  -- ---- marks

  module _ (targets : Targets) (exact : IsTargeted p o live targets) (t : table.Facts) (starts : number.Starts p targets t) where
    abbrev facts : Facts Parts
    facts = named_facts p t

    -- each class of a name is marked
    abbrev Known : Text → Type 0
    Known u = (c : ℕ) (k : Class) → slice_get p.classes c ≡ Some k → type_at p k.name ≡ u → starts.marked c ≡ true

    begun : (c : ℕ) → targeted.IsBegun p o c → starts.marked c ≡ true
    begun c is = starts.by_framework c (marked_at targets.begun.items c (exact.begun.all c is))

    needed_known : (u : Text) → name.IsNeeded (values p) (named p) (outer_of p o) facts u → Known u
    needed_known u (name.AtPosition k n v at has) c j e same =
        let h = here_at p s t k n at in
        starts.by_code h.code.at n c h.here (needs_number h.here.insn u (all_fit p s t h.code.at n h.here) (subst (λ f. Contains (needs (named p) f) u) (sym h.form_is) has) c j e same)
    needed_known u (name.Makes v may) c k e same = begun c (inl (record { is = k; is_class = e; may = made_outside c k e (ap (may_be_made (named p) (outer_of p o)) same ∙ may) }))
    needed_known u (name.Enters k x) c j e same =
        let d = own p o live g targets exact t k x.method x.defined x.coded in
        begun c (inr (record {
          at = d.at;
          number = d.method.name;
          entered = static_entered p o live g targets exact t k x.method x.defined x.coded x.static x.plain x.kept;
          is_class = same_place c d.at.class j d.class e d.is_class (same ∙ sym d.class_is);
        }))

    -- ---- interfaces that are looked through

    interface_class : (kind : ℕ) → kind < length p.types → (d : NamedClass) → interface_named (named p) (type_at p kind) ≡ Some d
        → (c : ℕ) × ((k : Class) × ((class_place p kind ≡ Some c) × (slice_get p.classes c ≡ Some k) × (named_class p k ≡ d) × (is_interface (slice_get p.classes c) ≡ true)))
    interface_class kind low d e = by (class_named (named p) (type_at p kind)) refl e
      where
        flagged : (x y : NamedClass) (b : Bool) → flags.is_interface x.flags ≡ b → (elim b as (λ b. Option NamedClass) [ true ↦ Some x | false ↦ None ]) ≡ Some y → (x ≡ y) × (flags.is_interface x.flags ≡ true)
        flagged x y true i f = (some_same x y f, i)
        flagged x y false i f = none_some y f

        by : (x : Option NamedClass) → class_named (named p) (type_at p kind) ≡ x → (elim x as (λ x. Option NamedClass) [ Some c ↦ elim (flags.is_interface c.flags) [ true ↦ Some c | false ↦ None ] | None ↦ None ]) ≡ Some d
            → (c : ℕ) × ((k : Class) × ((class_place p kind ≡ Some c) × (slice_get p.classes c ≡ Some k) × (named_class p k ≡ d) × (is_interface (slice_get p.classes c) ≡ true)))
        by None i f = none_some d f
        by (Some x) i f =
            let w = own_class p o live g kind low x i in
            let h = flagged x d (flags.is_interface x.flags) refl f in
            (w.place, (w.class, (w.is_place, w.is_class, w.is ∙ h.0, ap is_interface w.is_class ∙ interface_flag w.class.flags ∙ ap (λ z. flags.is_interface z.flags) w.is ∙ h.1)))

    abbrev before_one : ℕ → Text → List Text
    before_one n t = elim (interface_named (named p) t) as (λ x. List Text) [ Some c ↦ interfaces_before n (named p) c.interfaces ++ only_if (first.has_default c) t | None ↦ [] ]

    before_known : (n : ℕ) (ks : List ℕ) (u : Text) → list_all (has_type p) ks ≡ true → ((c : ℕ) → In c (places_of p ks) → starts.listed c ≡ true) → In u (interfaces_before n (named p) (map (type_at p) ks)) → Known u
    before_known zero ks u fit all i = nothing_in u i
    before_known (suc n) ks u fit all i = by (interface_named (named p) (type_at p kind.0)) refl (subst (λ z. In u (before_one n z)) (sym kind.1.1) r.1.1) (before_known n)
      where
        r : (t : Text) × (In t (map (type_at p) ks) × In u (before_one n t))
        r = out_of_flat (before_one n) u (map (type_at p) ks) i

        kind : (k : ℕ) × (In k ks × (type_at p k ≡ r.0))
        kind = of_image (type_at p) r.0 ks r.1.0

        low : kind.0 < length p.types
        low = below kind.0 (length p.types) (all_in (has_type p) ks fit kind.0 kind.1.0)

        of_class : (d : NamedClass) → interface_named (named p) (type_at p kind.0) ≡ Some d → In u (interfaces_before n (named p) d.interfaces) ⊎ In u (only_if (first.has_default d) (type_at p kind.0))
            → ((ks : List ℕ) (u : Text) → list_all (has_type p) ks ≡ true → ((c : ℕ) → In c (places_of p ks) → starts.listed c ≡ true) → In u (interfaces_before n (named p) (map (type_at p) ks)) → Known u) → Known u
        of_class d e (inl j) more =
            let w = interface_class kind.0 low d e in
            let c = w.0 in
            let k = w.1.0 in
            let is_class = w.1.1.1 in
            more k.interfaces u (class_parts p s c k is_class).interfaces
            (λ v h. starts.lists_above c v (all c (in_places p kind.0 c ks kind.1.0 w.1.1.0)) w.1.1.3
            (contained v (interface_places p c) (subst (In v) (sym (ap (λ x. listed p x) is_class)) h)))
            (subst (λ z. In u (interfaces_before n (named p) z.interfaces)) (sym w.1.1.2) j)
        of_class d e (inr j) more = λ c k at same.
            let w = interface_class kind.0 low d e in
            let h = if_in (first.has_default d) (type_at p kind.0) u j in
            let equal = some_same w.0 c (sym w.1.1.0 ∙ placed_by c kind.0 k at low (same ∙ sym h.1)) in
            subst (λ c. starts.marked c ≡ true) equal
            (starts.defaults w.0 (all w.0 (in_places p kind.0 w.0 ks kind.1.0 w.1.1.0)) w.1.1.3
            (ap (number.has_default p) w.1.1.1 ∙ sym (default_same p w.1.0) ∙ ap first.has_default w.1.1.2 ∙ h.0))

        by : (x : Option NamedClass) → interface_named (named p) (type_at p kind.0) ≡ x
            → In u (elim x as (λ x. List Text) [ Some c ↦ interfaces_before n (named p) c.interfaces ++ only_if (first.has_default c) (type_at p kind.0) | None ↦ [] ])
            → ((ks : List ℕ) (u : Text) → list_all (has_type p) ks ≡ true → ((c : ℕ) → In c (places_of p ks) → starts.listed c ≡ true) → In u (interfaces_before n (named p) (map (type_at p) ks)) → Known u) → Known u
        by None e j more = nothing_in u j
        by (Some d) e j more = of_class d e (in_either u (interfaces_before n (named p) d.interfaces) (only_if (first.has_default d) (type_at p kind.0)) j) more

    -- ---- what is initialised first

    first_known : (v u : Text) → Known v → Contains (initialised_first (named p) v) u → Known u
    first_known v u known has = by (class_named (named p) v) refl (stands (initialised_first (named p) v) u has)
      where
        of_class : (c : ℕ) (k : Class) → slice_get p.classes c ≡ Some k → type_at p k.name ≡ v → (b : Bool) → flags.is_interface (named_class p k).flags ≡ b
            → In u (elim b as (λ b. List Text) [ true ↦ [] | false ↦ only_if (defines (named p) (type_at p k.superclass)) (type_at p k.superclass) ++ interfaces_first (named p) (named_class p k) ]) → Known u
        of_class c k e same true i j = nothing_in u j
        of_class c k e same false i j = either (in_either u (only_if (defines (named p) (type_at p k.superclass)) (type_at p k.superclass)) (interfaces_first (named p) (named_class p k)) j)
          where
            marked : starts.marked c ≡ true
            marked = known c k e same

            plain : is_interface (slice_get p.classes c) ≡ false
            plain = ap is_interface e ∙ interface_flag k.flags ∙ i

            by_version : (b : Bool) → find.is_037 p.version ≡ b
                → In u (elim b as (λ b. List Text) [ true ↦ firsts (interfaces_before (length (named p).classes) (named p) (map (type_at p) k.interfaces)) | false ↦ [] ]) → Known u
            by_version false new h = nothing_in u h
            by_version true new h = before_known (length (named p).classes) k.interfaces u (class_parts p s c k e).interfaces
                (λ d at. starts.lists c d (sym (version_test p.version) ∙ new) marked plain (contained d (interface_places p c) (subst (In d) (sym (ap (λ x. listed p x) e)) at)))
                (firsts_in u (interfaces_before (length (named p).classes) (named p) (map (type_at p) k.interfaces)) h)

            either : In u (only_if (defines (named p) (type_at p k.superclass)) (type_at p k.superclass)) ⊎ In u (interfaces_first (named p) (named_class p k)) → Known u
            either (inl h) = λ d j at is.
                let w = if_in (defines (named p) (type_at p k.superclass)) (type_at p k.superclass) u h in
                starts.above c d marked plain (ap (option_and_then (λ k. class_place p k.superclass)) e ∙ placed_by d k.superclass j at (class_parts p s c k e).superclass (is ∙ sym w.1))
            either (inr h) = by_version (find.is_037 p.version) refl h

        by : (x : Option NamedClass) → class_named (named p) v ≡ x → In u (elim x as (λ x. List Text) [ Some c ↦ first_of_class (named p) c | None ↦ [] ]) → Known u
        by None i j = nothing_in u j
        by (Some d) i j =
            let x = found_at (named_class p) (λ c. text_eq c.name v) p.classes d i in
            let class : type_at p x.entry.name ≡ v = ap (λ c. c.name) x.is ∙ text_sound d.name v x.passes in
            of_class x.place x.entry x.is_entry class (flags.is_interface (named_class p x.entry).flags) refl (subst (λ z. In u (first_of_class (named p) z)) (sym x.is) j)

    all_known : (u v : Text) → Initialises (named p) u v → Known u → Known v
    all_known u v (pass.Itself w) known = known
    all_known u v (pass.First a w b i more) known = all_known w v more (first_known u w known i)

    -- ---- the initialiser of a marked class

    pub initialisers_entered : (u v : Text) (i : MethodKey) → name.IsNeeded (values p) (named p) (outer_of p o) facts u → Initialises (named p) u v → first.initialiser_of (named p) v ≡ Some i → name.IsEntered (values p) facts i
    initialisers_entered u v i needed way e = by (class_named (named p) v) refl e
      where
        known : Known v
        known = all_known u v way (needed_known u needed)

        at_place : (c : ℕ) (k : Class) (is : slice_get p.classes c ≡ Some k) → type_at p k.name ≡ v → (x : Option ℕ) → initialiser_of p (Some k) ≡ x → option_map (λ i. initialiser_key (type_at p k.name)) x ≡ Some i → name.IsEntered (values p) facts i
        at_place c k is same None h f = none_some i f
        at_place c k is same (Some j) h f =
            let r = starts_at p k j h in
            let own = own_key p s c j k r.entry is r.is in
            let bears = initialiser_named p r.entry r.passes in
            let name = text_sound (named_method p r.entry).name initialiser_name (and_left (text_eq (named_method p r.entry).name initialiser_name) (signature_eq (named_method p r.entry).signature void) bears) in
            let signature = signature_sound (named_method p r.entry).signature void (and_right (text_eq (named_method p r.entry).name initialiser_name) (signature_eq (named_method p r.entry).signature void) bears) in
            let key : record { class = type_at p k.name; name = (named_method p r.entry).name; signature = (named_method p r.entry).signature } ≡ i =
            (λ z. record { class = type_at p k.name; name = name z; signature = signature z }) ∙ some_same (initialiser_key (type_at p k.name)) i f in
            entered_number p o live g targets exact t i r.entry.name (record { low = own.low; named = own.named ∙ key })
            (starts.initialisers c j r.entry (known c k is same) (ap (initialiser_of p) is ∙ h) (looked_up p s (record { class = c; place = j }) k r.entry is r.is))

        by : (x : Option NamedClass) → class_named (named p) v ≡ x → (elim x as (λ x. Option MethodKey) [ Some c ↦ initialiser_in c | None ↦ None ]) ≡ Some i → name.IsEntered (values p) facts i
        by None h f = none_some i f
        by (Some d) h f =
            let x = found_at (named_class p) (λ c. text_eq c.name v) p.classes d h in
            let class : type_at p x.entry.name ≡ v = ap (λ c. c.name) x.is ∙ text_sound d.name v x.passes in
            at_place x.place x.entry x.is_entry class (initialiser_of p (Some x.entry)) refl (sym (initialiser_by_number p x.entry) ∙ ap initialiser_in x.is ∙ f)
