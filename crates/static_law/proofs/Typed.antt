-- The program in which loose methods are static is typed where the program is: a body keeps its typing. A loose method begins with an
-- object of its class in its first argument, as receiver or as first parameter; and what fits the class that a plain call names
-- fits the loose method's class, above it.
use Rattle.std.proofs.Common.{◌≡◌, ℕ, zero, suc, ◌+◌, ◌-◌, Bool, true, false, true≢false, List, [], ◌∷◌, ◌++◌, length, refl, sym, ap, ◌∙◌, subst, arith}
use Rattle.std.specs.Prelude.{◌&&◌, ◌||◌, not, nat_eq, Option, Some, None, map, drop, flat_map, replicate, if◌then◌else◌, Contains}
use Rattle.std.specs.List.{list_any, list_all}
use Rattle.std.specs.Option.{option_map, option_and_then}
use Rattle.lemmas.proofs.Bools.{and_both, or_right, or_false_right, untrue, not_false as not_not}
use Rattle.lemmas.proofs.Lists.{get_map, map_long, all_last}
use Rattle.lemmas.proofs.Options.{none_some, some_same, before_map}
use Rattle.insn_set.specs.declared.ops.InvokeKind.{InvokeKind}
use Rattle.insn_set.specs.declared.ops.InvokeKind.TheVariants as call
use Rattle.dalvik_defs.specs.Names.{Text, method_eq, is_class_type, is_wide}
use Rattle.dalvik_defs.specs.Flags.{is_static, is_interface}
use Rattle.dalvik_defs.specs.Under.{class_named, defines}
use Rattle.dalvik_defs.specs.Find.{Found, Finds, method_in, defined_method, chain_of, interfaces_from, resolves_method, finds_super}
use Rattle.dalvik_defs.specs.Face.{bodies_of}
use Rattle.dalvik_defs.specs.Outer.{Outer}
use Rattle.dalvik_defs.specs.Silence.{key_in}
use Rattle.dalvik_defs.specs.declared.names.MethodKey.{MethodKey}
use Rattle.dalvik_defs.specs.declared.forms.Form.{Form}
use Rattle.dalvik_defs.specs.declared.forms.Form.TheVariants as form
use Rattle.dalvik_defs.specs.declared.program.NamedBody.{NamedBody}
use Rattle.dalvik_defs.specs.declared.program.NamedMethod.{NamedMethod}
use Rattle.dalvik_defs.specs.declared.program.NamedClass.{NamedClass}
use Rattle.dalvik_defs.specs.declared.program.NamedProgram.{NamedProgram}
use Rattle.pass_defs.specs.Bare.{may_throw}
use Rattle.pass_defs.specs.Walks.{form_at, region_at, onward}
use Rattle.pass_defs.specs.Calls.{found_by, may_find, super_candidates}
use Rattle.pass_defs.specs.Leaves.{may_leave}
use Rattle.pass_defs.specs.Loose.{new_key, names_it, concerns, resolves_to, is_subclass, is_plain_call, called_statically, resolved, loosened, static_body, static_method, static_class, staticised}
use Rattle.pass_defs.specs.Kinds.{Kind, Undefined, Class, Reference, FreshThis, is_plain, kind_of, fits}
use Rattle.pass_defs.specs.Registers.{Kinds, kind_at, state_below}
use Rattle.pass_defs.specs.Demands.{Demand, Fits, Constructed, meets, passed, passed_wide, found_class, receiver_demands, call_demands, is_constructor_name, is_allowed}
use Rattle.pass_defs.specs.Typed.{is_constructor, receiver_kind, halves, parameter_kinds, argument_kinds, begun, is_static_call, after, differ, wrong_method, finds_static, wrong_super, words_of, passed_words, is_wrong, catches_in, edges, Table, state_at, each, at_state, arrives, IsTyping, IsTyped}
use Rattle.removal_law.specs.Left.{In, here, there}
use Rattle.removal_law.specs.Reach.{TellsApart, NamesOnce}
use Rattle.removal_law.proofs.Lists.{clash, and_left, and_behind, in_front}
use Rattle.removal_law.proofs.Declared.{method_same, method_sound, not_false}
use Rattle.removal_law.proofs.Trees.{class_name}
use Rattle.removal_law.proofs.Outward.{any_here}
use Rattle.program_laws.proofs.Moved.{image}
use Rattle.program_laws.specs.Renames.{is_invoke}
use Rattle.static_law.specs.Static.{IsOld, IsSound, MayAllBeStatic, AreInTables, FitsUpward, has_receiver, made_static}
use Rattle.program_laws.proofs.Remade.{field_same}
use Rattle.static_law.proofs.Methods.{recalled, stays, turns}
use Rattle.static_law.proofs.LookUps.{new_found, super_left}
use Rattle.static_law.proofs.Declared.{itself, made_static_flag}
use Rattle.static_law.proofs.Given.{defined_in, in_old, sound as sound_names}
use Rattle.static_law.proofs.Called.{first_called, not_empty}
use Rattle.static_law.proofs.Lines.{plain_same, program_interface_same, nearest_same, instance_same}
use Rattle.static_law.proofs.Resolved.{resolves_left, resolves_moved}
use Rattle.static_law.proofs.Upward.{begins_class}
use Rattle.static_law.proofs.TypedForms.{SameKinds, kind_at_type, state_same, arrives_same, parameters_same, fits_same, meets_same, allowed_same, wrong_same, after_same, catches_in_same, called_same, result_left}

-- ---- class types

not_wide : (t : Text) → is_class_type t ≡ true → is_wide t ≡ false
not_wide t e = ap is_wide (begins_class t e).1

class_kind : (p : NamedProgram) (t : Text) → is_class_type t ≡ true → is_plain p t ≡ true → kind_of p t ≡ Class t
class_kind p t e h = let r = begins_class t e in
    subst (λ t. is_plain p t ≡ true → kind_of p t ≡ Class t) (sym r.1) (λ i. ap (λ b. if b then Class (76 ∷ r.0) else Reference) i) h

-- ---- positions

each_two : (k : ℕ) (f g h : ℕ → Bool) → ((i : ℕ) → f i ≡ true → g i ≡ true → h i ≡ true) → each k f ≡ true → each k g ≡ true → each k h ≡ true
each_two zero f g h to d e = refl
each_two (suc k) f g h to d e = and_both (each k h) (h k)
    (each_two k f g h to (and_left (each k f) (f k) d) (and_left (each k g) (g k) e))
    (to k (and_behind (each k f) (f k) d) (and_behind (each k g) (g k) e))

in_contained : {A : Type 0} (xs : List A) (x : A) → Contains xs x → In x xs
in_contained [] x (k, l, e) = let f : ⊥ = omega (arith, l) in absurd f
in_contained (y ∷ xs) x (zero, l, e) = subst (λ z. In z (y ∷ xs)) e (here xs)
in_contained (y ∷ xs) x (suc k, l, e) = there y xs (in_contained xs x (k, omega (arith, l), e))

module _ (p : NamedProgram) (o : Outer) (methods : List MethodKey) (loose : MethodKey → Bool) (given : MayAllBeStatic p o methods loose) (in_tables : AreInTables p o methods)
    (types : (t : Text) → defines p t ≡ true → is_class_type t ≡ true) (tells : TellsApart p) (once : NamesOnce p) (upward : FitsUpward p) where
  abbrev q : NamedProgram
  q = staticised p loose

  sound : IsSound p loose
  sound = sound_names p o methods loose given in_tables

  alike : SameKinds p q
  alike = record {
    plain = plain_same (made_static p loose) p;
    interface = program_interface_same (made_static p loose) p;
    near = nearest_same (made_static p loose) p;
    field = field_same (made_static p loose) p;
    instance = instance_same (made_static p loose) p;
  }

  abbrev edit : Form → Form
  edit f = called_statically p loose (resolved p f) f

  plain_form : (f : Form) → is_invoke f ≡ false → edit f ≡ f
  plain_form (form.Invoke kind k args) e = absurd (true≢false e)
  plain_form f e = refl

  -- a form that was allowed and right is so, and goes on as it did
  pub record Moved (c : NamedClass) (m n : NamedMethod) (a : Kinds) (at : ℕ) (f f' : Form) : Type 0 where
    pub allowed : is_allowed q (static_class p loose c) n a f' ≡ true
    pub right : is_wrong q (static_class p loose c) n a f' ≡ false
    pub leaves : after q (static_class p loose c) at f' a ≡ after p c at f a
    pub onward_same : onward f' at ≡ onward f at
    pub throws : may_throw f' ≡ may_throw f

  -- ---- a call of a body

  module _ (c : NamedClass) (m n : NamedMethod) (b : NamedBody) (has : bodies_of p (key_in c m) ≡ Some b) (at : ℕ) (kind : InvokeKind) (k : MethodKey) (args : List ℕ) (stands : form_at b at ≡ Some (form.Invoke kind k args)) (a : Kinds) where
    abbrev d : NamedClass
    d = static_class p loose c

    abbrev before : Form
    before = form.Invoke kind k args

    old : IsOld loose k.name k.signature
    old = in_old p o methods loose given in_tables k (in_tables.called (key_in c m) b at kind k args has stands)

    named_to : (j : MethodKey) → is_plain_call p j c.name kind k ≡ true → (g : Found) × ((resolves_method p k ≡ Some g) × (g.key ≡ j))
    named_to j e = by (resolves_method p k) refl (and_left (resolves_to p j k) (is_subclass p k.class j.class)
        (and_left (resolves_to p j k && is_subclass p k.class j.class) (not (may_leave p c.name kind k))
        (and_left (resolves_to p j k && is_subclass p k.class j.class && not (may_leave p c.name kind k)) (list_all (λ g. method_eq g.key j) (may_find p c.name kind k)) e)))
      where
        by : (o : Option Found) → resolves_method p k ≡ o → elim o as (λ o. Bool) [ Some g ↦ method_eq g.key j | None ↦ false ] ≡ true → (g : Found) × ((resolves_method p k ≡ Some g) × (g.key ≡ j))
        by None i d = clash false d refl
        by (Some g) i d = (g, (i, method_sound g.key j d))

    -- one that stays
    module _ (none : (h : Found) → resolves_method p k ≡ Some h → loose h.key ≡ false) where
      super_concerns : (g : Found) → kind ≡ call.Super → finds_super p c.name k ≡ Finds g → concerns p g.key c.name kind k ≡ true
      super_concerns g e i = or_right (names_it p g.key k) (list_any (λ h. method_eq h.key g.key) (may_find p c.name kind k))
          (any_here (λ h. method_eq h.key g.key) g (may_find p c.name kind k)
          (subst (λ x. In g (may_find p c.name x k)) (sym e) (in_front g (found_by (finds_super p c.name k)) (super_candidates p k) (subst (λ s. In g (found_by s)) (sym i) (here []))))
          (method_same g.key))

      super_same : kind ≡ call.Super → finds_super q c.name k ≡ finds_super p c.name k
      super_same e = super_left p loose sound.inner c.name k old (λ g i. untrue (loose g.key) (λ l.
          let r = named_to g.key ((given g.key l).calls (key_in c m) b at kind k args has stands (super_concerns g e i)).1 in
          clash (loose r.0.key) (ap loose r.1.1 ∙ l) (none r.0 r.1.0)))

      receivers_same : (x : InvokeKind) → (x ≡ call.Super → finds_super q c.name k ≡ finds_super p c.name k) → receiver_demands q d x k ≡ receiver_demands p c x k
      receivers_same call.Super h = ap (λ s. Fits k.class ∷ map Fits (found_class s)) (h refl)
      receivers_same x h = refl

      demands_same : (x : InvokeKind) (rs : List ℕ) → (x ≡ call.Super → finds_super q c.name k ≡ finds_super p c.name k) → call_demands q d x k rs ≡ call_demands p c x k rs
      demands_same call.Static rs h = refl
      demands_same x [] h = refl
      demands_same x (r ∷ rs) h = ap (λ ds. map (λ y. (r, y)) ds ++ passed k.signature.parameters rs) (receivers_same x h)

      supers_same : (x : InvokeKind) → (x ≡ call.Super → finds_super q c.name k ≡ finds_super p c.name k) → wrong_super q d x k ≡ wrong_super p c x k
      supers_same call.Super h = ap (λ s. is_constructor_name k.name || finds_static s) (h refl)
      supers_same x h = refl

      stays_allowed : is_allowed q d n a before ≡ is_allowed p c m a before
      stays_allowed =
          ap (λ ds. list_all (λ x. meets q d a.registers x.0 x.1) ds) (demands_same kind args super_same)
          ∙ ap (λ g. list_all g (call_demands p c kind k args)) (meets_same p q alike c (made_static p loose c) a.registers)

      stays_right : is_wrong q d n a before ≡ is_wrong p c m a before
      stays_right =
          ap (λ (x : Option Found). elim x as (λ o. Bool) [ Some g ↦ differ (is_static_call kind) (is_static g.flags) | None ↦ false ] || wrong_super q d kind k || not (nat_eq (length args) (passed_words kind k))) (resolves_left p loose k old none)
          ∙ ap (λ x. wrong_method p kind k || x || not (nat_eq (length args) (passed_words kind k))) (supers_same kind super_same)

      stays_moved : is_allowed p c m a before ≡ true → is_wrong p c m a before ≡ false → Moved c m n a at before before
      stays_moved e w = record {
        allowed = stays_allowed ∙ e;
        right = stays_right ∙ w;
        leaves = called_same p q alike c (made_static p loose c) kind k args a;
        onward_same = refl;
        throws = refl;
      }

    -- one that is made static
    module _ (h : Found) (r : resolves_method p k ≡ Some h) (l : loose h.key ≡ true) where
      abbrev j : MethodKey
      j = h.key

      plainly : (has_receiver kind args ≡ true) × (is_plain_call p j c.name kind k ≡ true)
      plainly = (given j l).calls (key_in c m) b at kind k args has stands
          (ap (λ b. b || list_any (λ g. method_eq g.key j) (may_find p c.name kind k)) (ap (λ o. elim o as (λ o. Bool) [ Some g ↦ method_eq g.key j | None ↦ method_eq k j ]) r ∙ method_same j))

      same_called : (j.name ≡ k.name) × (j.signature ≡ k.signature)
      same_called = first_called (λ m. true) k.name k.signature (chain_of p k.class ++ interfaces_from (length p.classes) p (flat_map (λ c. c.interfaces) (chain_of p k.class))) h r

      below : is_subclass p k.class j.class ≡ true
      below = and_behind (resolves_to p j k) (is_subclass p k.class j.class)
          (and_left (resolves_to p j k && is_subclass p k.class j.class) (not (may_leave p c.name kind k))
          (and_left (resolves_to p j k && is_subclass p k.class j.class && not (may_leave p c.name kind k)) (list_all (λ g. method_eq g.key j) (may_find p c.name kind k)) plainly.1))

      plain_class : is_plain p j.class ≡ true
      plain_class = ap (λ o. elim o as (λ o. Bool) [ Some c ↦ not (is_interface c.flags) | None ↦ false ]) (given j l).named ∙ ap not (given j l).in_class

      class_type : is_class_type j.class ≡ true
      class_type = types j.class (ap (λ o. elim o as (λ o. Bool) [ Some c ↦ true | None ↦ false ]) (given j l).named)

      plain_name : is_constructor_name k.name ≡ false
      plain_name = ap is_constructor_name (sym same_called.0) ∙ (given j l).plain

      abbrev met : ℕ × Demand → Bool
      met x = meets p c a.registers x.0 x.1

      named_first : (s : ℕ) (rs : List ℕ) → (meets p c a.registers s (if is_constructor_name k.name then Constructed k.class else Fits k.class) && list_all met (passed k.signature.parameters rs)) ≡ true
          → (fits p (kind_at a.registers s) k.class ≡ true) × (list_all met (passed k.signature.parameters rs) ≡ true)
      named_first s rs e =
          let e' : (fits p (kind_at a.registers s) k.class && list_all met (passed k.signature.parameters rs)) ≡ true =
          subst (λ b. (meets p c a.registers s (if b then Constructed k.class else Fits k.class) && list_all met (passed k.signature.parameters rs)) ≡ true) plain_name e in
          (and_left (fits p (kind_at a.registers s) k.class) (list_all met (passed k.signature.parameters rs)) e', and_behind (fits p (kind_at a.registers s) k.class) (list_all met (passed k.signature.parameters rs)) e')

      -- what is asked of the receiver and of the other arguments
      asked : (x : InvokeKind) (s : ℕ) (rs : List ℕ) → is_static_call x ≡ false → list_all met (call_demands p c x k (s ∷ rs)) ≡ true
          → (fits p (kind_at a.registers s) k.class ≡ true) × (list_all met (passed k.signature.parameters rs) ≡ true)
      asked call.Static s rs z e = absurd (true≢false z)
      asked call.Super s rs z e =
          let more : List (ℕ × Demand) = map (λ d. (s, d)) (map Fits (found_class (finds_super p c.name k))) in (
            and_left (fits p (kind_at a.registers s) k.class) (list_all met (more ++ passed k.signature.parameters rs)) e,
            all_last met more (passed k.signature.parameters rs) (and_behind (fits p (kind_at a.registers s) k.class) (list_all met (more ++ passed k.signature.parameters rs)) e),
          )
      asked call.Direct s rs z e = named_first s rs e
      asked call.Virtual s rs z e = named_first s rs e
      asked call.Interface s rs z e = named_first s rs e

      turned_allowed : (s : ℕ) (rs : List ℕ) → fits p (kind_at a.registers s) k.class ≡ true → list_all met (passed k.signature.parameters rs) ≡ true → is_allowed q d n a (form.Invoke call.Static (new_key j) (s ∷ rs)) ≡ true
      turned_allowed s rs e f =
          ap (λ b. list_all (λ x. meets q d a.registers x.0 x.1) (elim b as (λ b. List (ℕ × Demand)) [ true ↦ passed_wide s rs ++ passed j.signature.parameters (drop 1 rs) | false ↦ (s, Fits j.class) ∷ passed j.signature.parameters rs ])) (not_wide j.class class_type)
          ∙ and_both (fits q (kind_at a.registers s) j.class) (list_all (λ x. meets q d a.registers x.0 x.1) (passed j.signature.parameters rs))
          (fits_same p q alike (kind_at a.registers s) j.class ∙ upward k.class j.class (kind_at a.registers s) below plain_class e)
          (ap (λ g. list_all g (passed j.signature.parameters rs)) (meets_same p q alike c (made_static p loose c) a.registers)
          ∙ ap (λ g. list_all met (passed g.parameters rs)) same_called.1 ∙ f)

      words_before : is_static_call kind ≡ false → passed_words kind k ≡ 1 + words_of k.signature.parameters
      words_before z = ap (λ b. (if b then 0 else 1) + words_of k.signature.parameters) z

      words_there : passed_words call.Static (new_key j) ≡ 1 + words_of k.signature.parameters
      words_there =
          let one : 0 + (1 + words_of k.signature.parameters) ≡ 1 + words_of k.signature.parameters = omega arith in
          ap (λ b. 0 + ((if b then 2 else 1) + words_of j.signature.parameters)) (not_wide j.class class_type)
          ∙ ap (λ g. 0 + (1 + words_of g.parameters)) same_called.1
          ∙ one

      name_here : (given j l).class.name ≡ j.class
      name_here = class_name p j.class (given j l).class (given j l).named

      new_resolves : resolves_method q (new_key j) ≡ Some (new_found p loose j l (given j l).class (given j l).named name_here (sound.fresh j j.class (given j l).class l (given j l).named) (given j l).method)
      new_resolves = let z = not_empty p.classes j.class (given j l).class (given j l).named in
          resolves_moved p loose j l (given j l).class (given j l).named name_here (sound.fresh j j.class (given j l).class l (given j l).named) (given j l).method (defined_in p o methods loose given in_tables j l) z.0 z.1

      turned_right : (rs : List ℕ) → nat_eq (length rs) (1 + words_of k.signature.parameters) ≡ true → is_wrong q d n a (form.Invoke call.Static (new_key j) rs) ≡ false
      turned_right rs e =
          ap (λ (x : Option Found). elim x as (λ o. Bool) [ Some g ↦ differ true (is_static g.flags) | None ↦ false ] || false || not (nat_eq (length rs) (passed_words call.Static (new_key j)))) new_resolves
          ∙ ap (λ b. not b || false || not (nat_eq (length rs) (passed_words call.Static (new_key j)))) (made_static_flag (given j l).method.flags (given j l).receiver)
          ∙ ap (λ w. not (nat_eq (length rs) w)) words_there
          ∙ ap not e

      turned_leaves : (rs : List ℕ) → after q d at (form.Invoke call.Static (new_key j) rs) a ≡ after p c at (form.Invoke kind k rs) a
      turned_leaves rs =
          result_left q d call.Static (new_key j) rs a (given j l).plain
          ∙ ap (λ x. record a { result = x }) (kind_at_type p q alike j.signature.result)
          ∙ ap (λ g. record a { result = kind_of p g.result }) same_called.1
          ∙ sym (result_left p c kind k rs a plain_name)

      right_words : is_wrong p c m a before ≡ false → nat_eq (length args) (passed_words kind k) ≡ true
      right_words w = not_not (nat_eq (length args) (passed_words kind k)) (or_false_right (wrong_method p kind k || wrong_super p c kind k) (not (nat_eq (length args) (passed_words kind k))) w)

      receives : (x : InvokeKind) (rs : List ℕ) → has_receiver x rs ≡ true → (is_static_call x ≡ false) × ((s : ℕ) × ((ts : List ℕ) × (rs ≡ s ∷ ts)))
      receives call.Static rs e = absurd (true≢false (sym e))
      receives call.Direct [] e = absurd (true≢false (sym e))
      receives call.Super [] e = absurd (true≢false (sym e))
      receives call.Virtual [] e = absurd (true≢false (sym e))
      receives call.Interface [] e = absurd (true≢false (sym e))
      receives call.Direct (s ∷ ts) e = (refl, (s, (ts, refl)))
      receives call.Super (s ∷ ts) e = (refl, (s, (ts, refl)))
      receives call.Virtual (s ∷ ts) e = (refl, (s, (ts, refl)))
      receives call.Interface (s ∷ ts) e = (refl, (s, (ts, refl)))

      turned_moved : is_allowed p c m a before ≡ true → is_wrong p c m a before ≡ false → Moved c m n a at before (form.Invoke call.Static (new_key j) args)
      turned_moved e w =
          let z = receives kind args plainly.0 in
          let s = z.1.0 in let ts = z.1.1.0 in
          let x = asked kind s ts z.0 (subst (λ rs. list_all met (call_demands p c kind k rs) ≡ true) z.1.1.1 e) in record {
            allowed = subst (λ rs. is_allowed q d n a (form.Invoke call.Static (new_key j) rs) ≡ true) (sym z.1.1.1) (turned_allowed s ts x.0 x.1);
            right = turned_right args (ap (nat_eq (length args)) (sym (words_before z.0)) ∙ right_words w);
            leaves = turned_leaves args;
            onward_same = refl;
            throws = refl;
          }

    call_moved : is_allowed p c m a before ≡ true → is_wrong p c m a before ≡ false → Moved c m n a at before (edit before)
    call_moved e w = by (resolves_method p k) refl
      where
        on : (h : Found) → resolves_method p k ≡ Some h → (b : Bool) → loose h.key ≡ b → Moved c m n a at before (if b then form.Invoke call.Static (new_key h.key) args else before)
        on h i true l = turned_moved h i l e w
        on h i false l = stays_moved (λ g r. subst (λ y. loose y.key ≡ false) (some_same h g (sym i ∙ r)) l) e w

        by : (x : Option Found) → resolves_method p k ≡ x → Moved c m n a at before (called_statically p loose x before)
        by None i = stays_moved (λ g r. none_some g (sym i ∙ r)) e w
        by (Some h) i = on h i (loose h.key) refl

  -- ---- a form of a body

  module _ (c : NamedClass) (m n : NamedMethod) (result : n.signature.result ≡ m.signature.result) (constructs : is_constructor n ≡ is_constructor m) (b : NamedBody) (has : bodies_of p (key_in c m) ≡ Some b) where
    abbrev new_class : NamedClass
    new_class = static_class p loose c

    -- one that is no call
    plain_moved : (f : Form) (a : Kinds) (at : ℕ) → is_invoke f ≡ false → is_allowed p c m a f ≡ true → is_wrong p c m a f ≡ false → Moved c m n a at f (edit f)
    plain_moved f a at i x w = subst (Moved c m n a at f) (sym (plain_form f i)) (record {
      allowed = allowed_same p q alike c (made_static p loose c) m n result constructs a f i ∙ x;
      right = wrong_same p q alike c (made_static p loose c) m n result constructs a f i ∙ w;
      leaves = after_same p q alike c (made_static p loose c) at f a i;
      onward_same = refl;
      throws = refl;
    })

    moved : (f : Form) (a : Kinds) (at : ℕ) → form_at b at ≡ Some f → is_allowed p c m a f ≡ true → is_wrong p c m a f ≡ false → Moved c m n a at f (edit f)
    moved (form.Invoke kind k args) a at h x w = call_moved c m n b has at kind k args h a x w
    moved f a at h x w = plain_moved f a at refl x w

    -- ---- a typing of a body

    module _ (t : Table) where
      abbrev new : NamedBody
      new = static_body p loose b

      abbrev good : Form → Kinds → Bool
      good f a = is_allowed p c m a f && not (is_wrong p c m a f)

      -- what two tests say of a position, a third one says there
      at_two : (i : ℕ) (f g h : Form → Kinds → Bool) → ((x : Form) (a : Kinds) → form_at b i ≡ Some x → f x a ≡ true → g x a ≡ true → h (edit x) a ≡ true)
          → at_state b t f i ≡ true → at_state b t g i ≡ true → at_state new t h i ≡ true
      at_two i f g h to d e = ap (seen h) (get_map edit b.forms i) ∙ by (form_at b i) refl d e
        where
          seen : (Form → Kinds → Bool) → Option Form → Bool
          seen h o = elim o as (λ o. Bool) [ Some x ↦ elim (state_at t i) as (λ o. Bool) [ Some a ↦ h x a | None ↦ true ] | None ↦ true ]

          on : (x : Form) → form_at b i ≡ Some x → (o : Option Kinds) → elim o as (λ o. Bool) [ Some a ↦ f x a | None ↦ true ] ≡ true → elim o as (λ o. Bool) [ Some a ↦ g x a | None ↦ true ] ≡ true
              → elim o as (λ o. Bool) [ Some a ↦ h (edit x) a | None ↦ true ] ≡ true
          on x j None d e = refl
          on x j (Some a) d e = to x a j d e

          by : (o : Option Form) → form_at b i ≡ o → seen f o ≡ true → seen g o ≡ true → seen h (option_map edit o) ≡ true
          by None j d e = refl
          by (Some x) j d e = on x j (state_at t i) d e

      both_at : (i : ℕ) (f g : Form → Kinds → Bool) → at_state b t f i ≡ true → at_state b t g i ≡ true → at_state b t (λ x a. f x a && g x a) i ≡ true
      both_at i f g d e = by (form_at b i) d e
        where
          seen : (Form → Kinds → Bool) → Option Form → Bool
          seen h o = elim o as (λ o. Bool) [ Some x ↦ elim (state_at t i) as (λ o. Bool) [ Some a ↦ h x a | None ↦ true ] | None ↦ true ]

          on : (x : Form) (o : Option Kinds) → elim o as (λ o. Bool) [ Some a ↦ f x a | None ↦ true ] ≡ true → elim o as (λ o. Bool) [ Some a ↦ g x a | None ↦ true ] ≡ true
              → elim o as (λ o. Bool) [ Some a ↦ f x a && g x a | None ↦ true ] ≡ true
          on x None d e = refl
          on x (Some a) d e = and_both (f x a) (g x a) d e

          by : (o : Option Form) → seen f o ≡ true → seen g o ≡ true → seen (λ x a. f x a && g x a) o ≡ true
          by None d e = refl
          by (Some x) d e = on x (state_at t i) d e

      moved_by : (x : Form) (a : Kinds) (i : ℕ) → form_at b i ≡ Some x → good x a ≡ true → Moved c m n a i x (edit x)
      moved_by x a i h g = moved x a i h (and_left (is_allowed p c m a x) (not (is_wrong p c m a x)) g)
          (not_false (is_wrong p c m a x) (and_behind (is_allowed p c m a x) (not (is_wrong p c m a x)) g))

      edges_same : (i : ℕ) (x : Form) (a : Kinds) → Moved c m n a i x (edit x) → edges q new_class new i (edit x) a ≡ edges p c b i x a
      edges_same i x a h =
          ap (λ y. map (λ z. (z, y)) (onward (edit x) i) ++ map (λ z. (z.0, record a { caught = z.1 })) (if may_throw (edit x) then catches_in q (region_at b i) else [])) h.leaves
          ∙ ap (λ ns. map (λ z. (z, after p c i x a)) ns ++ map (λ z. (z.0, record a { caught = z.1 })) (if may_throw (edit x) then catches_in q (region_at b i) else [])) h.onward_same
          ∙ ap (λ y. map (λ z. (z, after p c i x a)) (onward x i) ++ map (λ z. (z.0, record a { caught = z.1 })) (if y then catches_in q (region_at b i) else [])) h.throws
          ∙ ap (λ hs. map (λ z. (z, after p c i x a)) (onward x i) ++ map (λ z. (z.0, record a { caught = z.1 })) (if may_throw x then hs else [])) (catches_in_same p q alike (region_at b i))

      typing_static : begun q new_class n new ≡ begun p c m b → IsTyping p c m b t → IsTyping q new_class n new t
      typing_static begins h = record {
        long = h.long ∙ sym (map_long edit b.forms);
        entry = ap (λ a. state_below q (Some a) (state_at t 0)) begins ∙ state_same p q alike (Some (begun p c m b)) (state_at t 0) ∙ h.entry;
        reads = each_there (λ f a. is_allowed q new_class n a f) (λ i x a j g. (moved_by x a i j g).allowed);
        right = each_there (λ f a. not (is_wrong q new_class n a f)) (λ i x a j g. ap not (moved_by x a i j g).right);
        edges = ap (λ k. each k (λ i. at_state new t (λ f a. list_all (arrives q t) (edges q new_class new i f a)) i)) (map_long edit b.forms)
            ∙ each_two (length b.forms) (at_state b t good) (λ i. at_state b t (λ f a. list_all (arrives p t) (edges p c b i f a)) i) (λ i. at_state new t (λ f a. list_all (arrives q t) (edges q new_class new i f a)) i)
            (λ i. at_two i good (λ f a. list_all (arrives p t) (edges p c b i f a)) (λ f a. list_all (arrives q t) (edges q new_class new i f a))
            (λ x a j g z. ap (λ to. list_all to (edges q new_class new i (edit x) a)) (arrives_same p q alike t) ∙ ap (list_all (arrives p t)) (edges_same i x a (moved_by x a i j g)) ∙ z))
            all_good h.edges;
      }
        where
          all_good : each (length b.forms) (at_state b t good) ≡ true
          all_good = each_two (length b.forms) (at_state b t (λ f a. is_allowed p c m a f)) (at_state b t (λ f a. not (is_wrong p c m a f))) (at_state b t good)
              (λ i. both_at i (λ f a. is_allowed p c m a f) (λ f a. not (is_wrong p c m a f))) h.reads h.right

          each_there : (r : Form → Kinds → Bool) → ((i : ℕ) (x : Form) (a : Kinds) → form_at b i ≡ Some x → good x a ≡ true → r (edit x) a ≡ true) → each (length new.forms) (at_state new t r) ≡ true
          each_there r to = ap (λ k. each k (at_state new t r)) (map_long edit b.forms)
              ∙ each_two (length b.forms) (at_state b t good) (at_state b t good) (at_state new t r) (λ i. at_two i good good r (λ x a j g z. to i x a j g)) all_good all_good

  -- ---- the entry of a method

  module _ (c : NamedClass) (m : NamedMethod) (stands : class_named p c.name ≡ Some c) (found : method_in c m.name m.signature ≡ Some m) where
    abbrev changed : NamedMethod
    changed = static_method p loose c m

    result_same : changed.signature.result ≡ m.signature.result
    result_same = by (loose (key_in c m)) refl
      where
        by : (x : Bool) → loose (key_in c m) ≡ x → changed.signature.result ≡ m.signature.result
        by true l = ap (λ y. y.signature.result) (turns p loose c m l)
        by false l = ap (λ y. y.signature.result) (stays p loose c m l)

    no_constructor : (l : loose (key_in c m) ≡ true) → is_constructor_name m.name ≡ false
    no_constructor l = (given (key_in c m) l).plain

    constructs_same : is_constructor changed ≡ is_constructor m
    constructs_same = by (loose (key_in c m)) refl
      where
        by : (x : Bool) → loose (key_in c m) ≡ x → is_constructor changed ≡ is_constructor m
        by true l = ap is_constructor (turns p loose c m l) ∙ ap (λ b. b && not (is_static (m.flags + 8))) (no_constructor l) ∙ sym (ap (λ b. b && not (is_static m.flags)) (no_constructor l))
        by false l = ap is_constructor (stays p loose c m l)

    abbrev with_arguments : NamedBody → Bool → List Kind → Kinds
    with_arguments b is_new ks = record { registers = replicate (b.registers - b.ins) Undefined ++ ks; result = Undefined; caught = Undefined; receiver = if is_new then FreshThis else Undefined }

    -- the receiver's kind is that of the first parameter
    loose_arguments : (l : loose (key_in c m) ≡ true) → argument_kinds q (static_class p loose c) changed ≡ argument_kinds p c m
    loose_arguments l =
        let g = given (key_in c m) l in
        let class_is : g.class ≡ c = some_same g.class c (sym g.named ∙ stands) in
        let no_interface : is_interface c.flags ≡ false = ap (λ y. is_interface y.flags) (sym class_is) ∙ g.in_class in
        let plain_here : is_plain p c.name ≡ true = ap (λ o. elim o as (λ o. Bool) [ Some c ↦ not (is_interface c.flags) | None ↦ false ]) stands ∙ ap not no_interface in
        let class_type : is_class_type c.name ≡ true = types c.name (ap (λ o. elim o as (λ o. Bool) [ Some c ↦ true | None ↦ false ]) stands) in
        let method_is : g.method ≡ m = some_same g.method m (sym g.defined ∙ defined) in
        let receiver : is_static m.flags ≡ false = ap (λ y. is_static y.flags) (sym method_is) ∙ g.receiver in
        ap (argument_kinds q (static_class p loose c)) (turns p loose c m l)
        ∙ ap (λ b. elim b as (λ b. List Kind) [ true ↦ parameter_kinds q (c.name ∷ m.signature.parameters) | false ↦ receiver_kind (static_class p loose c) (loosened (key_in c m) (recalled p loose m)) ∷ parameter_kinds q (c.name ∷ m.signature.parameters) ]) (made_static_flag m.flags receiver)
        ∙ parameters_same p q alike (c.name ∷ m.signature.parameters)
        ∙ ap (λ k. halves k ++ parameter_kinds p m.signature.parameters) (class_kind p c.name class_type plain_here)
        ∙ sym (ap (λ b. elim b as (λ b. List Kind) [ true ↦ parameter_kinds p m.signature.parameters | false ↦ receiver_kind c m ∷ parameter_kinds p m.signature.parameters ]) receiver
        ∙ ap (λ k. k ∷ parameter_kinds p m.signature.parameters) (kind_here no_interface))
      where
        defined : defined_method p (key_in c m) ≡ Some m
        defined = ap (λ o. elim o as (λ o. Option NamedMethod) [ Some c ↦ method_in c m.name m.signature | None ↦ None ]) stands ∙ found

        kind_here : is_interface c.flags ≡ false → receiver_kind c m ≡ Class c.name
        kind_here e = ap (λ b. if b && not (is_static m.flags) then FreshThis else if is_interface c.flags then Reference else Class c.name) (no_constructor l) ∙ ap (λ b. if b then Reference else Class c.name) e

    stays_arguments : loose (key_in c m) ≡ false → argument_kinds q (static_class p loose c) changed ≡ argument_kinds p c m
    stays_arguments l = ap (argument_kinds q (static_class p loose c)) (stays p loose c m l)
        ∙ ap (λ ks. elim (is_static m.flags) as (λ b. List Kind) [ true ↦ ks | false ↦ receiver_kind c m ∷ ks ]) (parameters_same p q alike m.signature.parameters)

    arguments_same : argument_kinds q (static_class p loose c) changed ≡ argument_kinds p c m
    arguments_same = by (loose (key_in c m)) refl
      where
        by : (x : Bool) → loose (key_in c m) ≡ x → argument_kinds q (static_class p loose c) changed ≡ argument_kinds p c m
        by true l = loose_arguments l
        by false l = stays_arguments l

    begun_same : (b : NamedBody) → begun q (static_class p loose c) changed (static_body p loose b) ≡ begun p c m b
    begun_same b = ap (λ x. with_arguments b x (argument_kinds q (static_class p loose c) changed)) constructs_same ∙ ap (with_arguments b (is_constructor m)) arguments_same

    body_same : changed.body ≡ option_map (static_body p loose) m.body
    body_same = by (loose (key_in c m)) refl
      where
        by : (x : Bool) → loose (key_in c m) ≡ x → changed.body ≡ option_map (static_body p loose) m.body
        by true l = ap (λ y. y.body) (turns p loose c m l)
        by false l = ap (λ y. y.body) (stays p loose c m l)

  -- ---- the program

  in_method : IsTyped p → (c : NamedClass) → Contains p.classes c → (m : NamedMethod) → Contains c.methods m → (b' : NamedBody) → (static_method p loose c m).body ≡ Some b' → (t : Table) × IsTyping q (static_class p loose c) (static_method p loose c m) b' t
  in_method typed c i m j b' e =
      let stands : class_named p c.name ≡ Some c = once c (in_contained p.classes c i) in
      let found : method_in c m.name m.signature ≡ Some m = itself p loose sound tells c.name c m stands (in_contained c.methods m j) in
      let z = before_map (static_body p loose) m.body b' (sym (body_same c m stands found) ∙ e) in
      let t = typed.bodies c m z.0 i j z.1.0 in
      let defined : defined_method p (key_in c m) ≡ Some m = ap (λ o. elim o as (λ o. Option NamedMethod) [ Some c ↦ method_in c m.name m.signature | None ↦ None ]) stands ∙ found in
      let has : bodies_of p (key_in c m) ≡ Some z.0 = ap (option_and_then (λ (y : NamedMethod). y.body)) defined ∙ z.1.0 in (
        t.0,
        subst (λ y. IsTyping q (static_class p loose c) (static_method p loose c m) y t.0) z.1.1
            (typing_static c m (static_method p loose c m) (result_same c m stands found) (constructs_same c m stands found) z.0 has t.0 (begun_same c m stands found z.0) t.1),
      )

  typing_in : IsTyped p → (d : NamedClass) (n : NamedMethod) (b : NamedBody) → Contains (map (static_class p loose) p.classes) d → Contains d.methods n → n.body ≡ Some b → (t : Table) × IsTyping q d n b t
  typing_in typed d n b i j e =
      let r = image (static_class p loose) p.classes d i.0 i.1 i.2 in
      subst (λ x. (t : Table) × IsTyping q x n b t) r.1.1 (in_class r.0 r.1.0 (subst (λ x. Contains x.methods n) (sym r.1.1) j))
    where
      in_class : (c : NamedClass) → Contains p.classes c → Contains (map (static_method p loose c) c.methods) n → (t : Table) × IsTyping q (static_class p loose c) n b t
      in_class c i j =
          let r = image (static_method p loose c) c.methods n j.0 j.1 j.2 in
          subst (λ x. (t : Table) × IsTyping q (static_class p loose c) x b t) r.1.1 (in_method typed c i r.0 r.1.0 b (ap (λ y. y.body) r.1.1 ∙ e))

  pub typed_static : IsTyped p → IsTyped q
  typed_static typed = record { bodies = typing_in typed }
