-- The receivers of calls that resolve to a loose method, in the states that runs of a typed program reach: where facts know the
-- register as not null, it holds an object, and where the call is virtual, one of a class of the program under the named one.
use Rattle.std.proofs.Common.{◌≡◌, ℕ, suc, Bool, true, false, List, [], ◌∷◌, ◌++◌, length, Some, None, ◌⊎◌, inl, inr, refl, sym, ap, ◌∙◌, subst}
use Rattle.std.specs.Prelude.{◌&&◌, ◌||◌, not, Option, map, flat_map, slice_get, is_some, if◌then◌else◌}
use Rattle.std.specs.List.{list_any, list_all}
use Rattle.std.specs.Option.{option_and_then}
use Rattle.lemmas.proofs.Bools.{or_false_left, or_false_right, not_false as not_not}
use Rattle.lemmas.proofs.Options.{none_some, some_same}
use Rattle.insn_set.specs.declared.ops.InvokeKind.{InvokeKind}
use Rattle.insn_set.specs.declared.ops.InvokeKind.TheVariants as call
use Rattle.dalvik_defs.specs.Effect.{register}
use Rattle.dalvik_defs.specs.Face.{face_of, bodies_of}
use Rattle.dalvik_defs.specs.Find.{interface_named, chain_of, interfaces_from, finds_at}
use Rattle.dalvik_defs.specs.Flags.{is_interface}
use Rattle.dalvik_defs.specs.Happens.{Setting}
use Rattle.dalvik_defs.specs.Names.{Text, method_eq}
use Rattle.dalvik_defs.specs.Outcome.{receiver}
use Rattle.dalvik_defs.specs.Outer.{Outer}
use Rattle.dalvik_defs.specs.Quiet.{quiet_within, calm_opening}
use Rattle.dalvik_defs.specs.Shown.{Fit}
use Rattle.dalvik_defs.specs.State.{World, Classes, State, On, Ended, Instance, is_null, kind_of, kind_of_thing, thing_at}
use Rattle.dalvik_defs.specs.Step.{after, setting_of}
use Rattle.dalvik_defs.specs.Under.{class_named, defines, is_under}
use Rattle.dalvik_defs.specs.declared.forms.Form.{Form}
use Rattle.dalvik_defs.specs.declared.forms.Form.TheVariants as form
use Rattle.dalvik_defs.specs.declared.names.FieldKey.{FieldKey}
use Rattle.dalvik_defs.specs.declared.names.MethodKey.{MethodKey}
use Rattle.dalvik_defs.specs.declared.program.NamedBody.{NamedBody}
use Rattle.dalvik_defs.specs.declared.program.NamedClass.{NamedClass}
use Rattle.dalvik_defs.specs.declared.program.NamedProgram.{NamedProgram}
use Rattle.dalvik_defs.specs.declared.script.Move.{Move}
use Rattle.dalvik_defs.specs.declared.state.Frame.{Frame}
use Rattle.dalvik_defs.specs.declared.state.Value.{Value}
use Rattle.dalvik_defs.specs.declared.state.Value.TheVariants.{Object}
use Rattle.dalvik_defs.specs.declared.state.Waiting.{Waiting}
use Rattle.dalvik_defs.specs.declared.state.Waiting.TheVariants.{Method}
use Rattle.dalvik_defs.specs.declared.tables.Floats.{Floats}
use Rattle.dalvik_defs.specs.declared.tables.Framework.{Framework}
use Rattle.pass_defs.specs.Calls.{receivers, may_find, is_nothing}
use Rattle.pass_defs.specs.Demands.{Constructed, Fits, meets, passed, is_constructor_name}
use Rattle.pass_defs.specs.Kinds.{is_plain, fits}
use Rattle.pass_defs.specs.Leaves.{misses, may_leave}
use Rattle.pass_defs.specs.Loose.{HasReceiver, concerns, resolves_to, is_subclass, is_plain_call}
use Rattle.pass_defs.specs.Registers.{kind_at}
use Rattle.pass_defs.specs.Walks.{form_at}
use Rattle.run_laws.specs.Holds.{Holds}
use Rattle.run_laws.proofs.Invariants.{holds_after}
use Rattle.run_laws.proofs.Plain.{grown, keeps_plainly}
use Rattle.run_laws.specs.Regular.{IsRegular}
use Rattle.run_laws.specs.TypedStates.{IsObject, TypedFrame, TypedWorld, typed_states}
use Rattle.run_laws.proofs.Climbs.{plain_defined, defined_below}
use Rattle.run_laws.proofs.FieldForms.{fitting}
use Rattle.run_laws.proofs.Here.{At, at_form}
use Rattle.run_laws.proofs.Runs.{settled, keeps_typed, typed_opening, each_move}
use Rattle.run_laws.proofs.Searches.{finds_regularly}
use Rattle.run_laws.proofs.Settled.{IsSettled, FindsRegularly}
use Rattle.run_laws.proofs.Values.{instance_thing}
use Rattle.run_laws.proofs.Worlds.{at_typed}
use Rattle.removal_law.proofs.Lists.{clash, and_left, and_behind}
use Rattle.removal_law.proofs.Declared.{method_same, not_false}
use Rattle.static_law.specs.Receiving.{HoldNoNull, KnowsReceivers}
use Rattle.static_law.specs.Static.{MayAllBeStatic, ReceiverKnown, ReceiversReached}
use Rattle.static_law.proofs.Called.{first_called}

module _ (p : NamedProgram) (o : Outer) (f : Framework) (a : Floats) (script : List Move) (regular : IsRegular p) (fit : Fit p o f script) where
  reg : IsSettled p
  reg = settled p o f script regular fit

  finds : FindsRegularly p f
  finds = finds_regularly p f reg

  abbrev s : Setting
  s = setting_of p o f a

  abbrev Typed : State → Type 0
  Typed = Holds (typed_states p f o)

  -- the states of a run that begins with calm classes done are typed
  typed_calm : (calm : Text → Bool) (n : ℕ) → (after s (bodies_of p) (calm_opening calm script) n ≡ Ended) ⊎ Typed (after s (bodies_of p) (calm_opening calm script) n)
  typed_calm calm n = holds_after s (bodies_of p) (grown s (bodies_of p) (typed_states p f o)) (keeps_plainly s (bodies_of p) (typed_states p f o) (keeps_typed p o f a reg finds)) n (calm_opening calm script)
      (typed_opening p o f a reg finds, (tt, refl), each_move p o f a reg finds script fit.values)

  going : (w : World) (c : Classes) (stack : List Waiting) (moves : List Move) (t : State) → t ≡ On w c stack moves → (t ≡ Ended) ⊎ Typed t → Typed (On w c stack moves)
  going w c stack moves t e (inl i) = absurd (subst (λ x. elim x as (λ s. Type 0) [ On w c stack script ↦ Unit {0} | Ended ↦ ⊥ ]) (sym e ∙ i) tt)
  going w c stack moves t e (inr h) = subst Typed e h

  -- ---- a call at a typed frame

  module _ (w : World) (cs : Classes) (g : Frame) (tw : TypedWorld p f w) (t : TypedFrame p f w g) where
    own_at : (b : NamedBody) (x : Form) → bodies_of p g.method ≡ Some b → form_at b g.position ≡ Some x → At p o f a reg w g t x
    own_at b x e i = by (at_form p o f a reg w g t)
      where
        body : t.in_method.body ≡ b
        body = some_same t.in_method.body b (sym t.in_method.has_body ∙ (ap (bodies_of p) (sym t.of) ∙ e))

        by : (y : Form) × At p o f a reg w g t y → At p o f a reg w g t x
        by (y, h) = subst (At p o f a reg w g t) (some_same y x (sym h.has ∙ (ap (λ z. form_at z g.position) body ∙ i))) h

    -- an object that is under a class of the program is of one
    defined_under : (v : Value) (u : Text) → IsObject w v → is_under p f (kind_of w v) u ≡ true → defines p u ≡ true → defines p (kind_of w v) ≡ true
    defined_under v u there e d = by v (instance_thing p f reg w tw v u there d e) e
      where
        by : (v : Value) → (c : Text) × ((fs : FieldKey → Option Value) × (thing_at w v ≡ Some (Instance c fs))) → is_under p f (kind_of w v) u ≡ true → defines p (kind_of w v) ≡ true
        by (Object n) (c, (fs, at)) e = let kind : kind_of w (Object n) ≡ c = ap (λ y. elim y as (λ y. Text) [ Some th ↦ kind_of_thing th | None ↦ [] ]) at in
            subst (λ k. defines p k ≡ true) (sym kind) (defined_below p f reg c u (at_typed p f w (Object n) (Instance c fs) tw at).0 d (subst (λ k. is_under p f k u ≡ true) kind e))
        by v (c, (fs, at)) e = none_some (Instance c fs) at

    -- the receiver of a virtual call of a method of a plain class
    virtual_receiver : (b : NamedBody) (k : MethodKey) (r : ℕ) (rs : List ℕ) → bodies_of p g.method ≡ Some b → form_at b g.position ≡ Some (form.Invoke call.Virtual k (r ∷ rs)) → is_constructor_name k.name ≡ false → is_plain p k.class ≡ true
        → is_null (register g r) ≡ false → (defines p (kind_of w (register g r)) ≡ true) × (is_under p f (kind_of w (register g r)) k.class ≡ true)
    virtual_receiver b k r rs e i con plain some =
        let at = own_at b (form.Invoke call.Virtual k (r ∷ rs)) e i in
        let first = meets p t.in_method.class t.kinds.registers r (if is_constructor_name k.name then Constructed k.class else Fits k.class) in
        let rest = list_all (λ d. meets p t.in_method.class t.kinds.registers d.0 d.1) (passed k.signature.parameters rs) in
        let fitted : fits p (kind_at t.kinds.registers r) k.class ≡ true = subst (λ b. meets p t.in_method.class t.kinds.registers r (if b then Constructed k.class else Fits k.class) ≡ true) con (and_left first rest at.allowed) in
        let z = fitting p o f a reg w cs g tw t k.class plain r fitted some in
        (defined_under (register g r) k.class z.0 z.1 (plain_defined p k.class plain), z.1)

-- ---- a call that resolves to a loose method

module _ (p : NamedProgram) (o : Outer) (methods : List MethodKey) (loose : MethodKey → Bool) (given : MayAllBeStatic p o methods loose) (not_null : MethodKey → ℕ → ℕ → Type 0) (known : KnowsReceivers p loose not_null) (regular : IsRegular p) where
  there_some : (t : Text) → defines p t ≡ true → is_some (class_named p t) ≡ true
  there_some t e = by (class_named p t) e
    where
      by : (x : Option NamedClass) → elim x as (λ o. Bool) [ Some c ↦ true | None ↦ false ] ≡ true → is_some x ≡ true
      by None e = e
      by (Some c) e = refl

  -- a class that is there and no interface is plain
  plain_named : (t : Text) → defines p t ≡ true → is_some (interface_named p t) ≡ false → is_plain p t ≡ true
  plain_named t d e = by (class_named p t) d e
    where
      on : (c : NamedClass) (b : Bool) → is_some (elim b as (λ b. Option NamedClass) [ true ↦ Some c | false ↦ None ]) ≡ false → not b ≡ true
      on c true e = clash true refl e
      on c false e = refl

      by : (x : Option NamedClass) → elim x as (λ o. Bool) [ Some c ↦ true | None ↦ false ] ≡ true
          → is_some (elim x as (λ o. Option NamedClass) [ Some c ↦ elim (is_interface c.flags) as (λ b. Option NamedClass) [ true ↦ Some c | false ↦ None ] | None ↦ None ]) ≡ false
          → elim x as (λ o. Bool) [ Some c ↦ not (is_interface c.flags) | None ↦ false ] ≡ true
      by None d e = clash false d refl
      by (Some c) d e = on c (is_interface c.flags) e

  module _ (f : Framework) (a : Floats) (script : List Move) (fit : Fit p o f script) (no_null : HoldNoNull p o not_null f a script) where
    pub receivers_reached : ReceiversReached p loose o f a script
    receivers_reached n w c g rest s kind k args h e i r l = by (bodies_of p g.method) refl i
      where
        typed : Holds (typed_states p f o) (On w c (Method g ∷ rest) s)
        typed = going p o f a script regular fit w c (Method g ∷ rest) s (after (setting_of p o f a) (bodies_of p) (calm_opening (quiet_within (face_of p f) (suc (length p.classes))) script) n) e
            (typed_calm p o f a script regular fit (quiet_within (face_of p f) (suc (length p.classes))) n)

        plain_name : is_constructor_name k.name ≡ false
        plain_name = ap is_constructor_name (sym (first_called (λ m. true) k.name k.signature (chain_of p k.class ++ interfaces_from (length p.classes) p (flat_map (λ c. c.interfaces) (chain_of p k.class))) h r).0) ∙ (given h.key l).plain

        -- a plain virtual call names a plain class
        plain_class : is_plain_call p h.key g.method.class call.Virtual k ≡ true → is_plain p k.class ≡ true
        plain_class z =
            let named = resolves_to p h.key k && is_subclass p k.class h.key.class in
            let all = list_all (λ x. method_eq x.key h.key) (may_find p g.method.class call.Virtual k) in
            let uncoded = list_any (λ x. not x.coded) (may_find p g.method.class call.Virtual k) in
            let never = not_false (may_leave p g.method.class call.Virtual k) (and_behind named (not (may_leave p g.method.class call.Virtual k)) (and_left (named && not (may_leave p g.method.class call.Virtual k)) all z)) in
            let here = or_false_left (not (defines p k.class) || misses p g.method.class call.Virtual k) uncoded never in
            plain_named k.class (not_not (defines p k.class) (or_false_left (not (defines p k.class)) (misses p g.method.class call.Virtual k) here))
            (or_false_left (is_some (interface_named p k.class)) (list_any (λ t. is_nothing (finds_at p t k)) (receivers p k.class)) (or_false_right (not (defines p k.class)) (misses p g.method.class call.Virtual k) here))

        concerned : concerns p h.key g.method.class kind k ≡ true
        concerned = ap (λ b. b || list_any (λ x. method_eq x.key h.key) (may_find p g.method.class kind k)) (ap (λ o. elim o as (λ o. Bool) [ Some x ↦ method_eq x.key h.key | None ↦ method_eq k h.key ]) r ∙ method_same h.key)

        virtually : (b : NamedBody) (q : ℕ) (qs : List ℕ) → bodies_of p g.method ≡ Some b → form_at b g.position ≡ Some (form.Invoke kind k (q ∷ qs)) → is_null (register g q) ≡ false → kind ≡ call.Virtual
            → (defines p (kind_of w (register g q)) ≡ true) × (is_under p f (kind_of w (register g q)) k.class ≡ true)
        virtually b q qs d j some v = virtual_receiver p o f a script regular fit w c g typed.0 typed.1.0 b k q qs d (subst (λ x. form_at b g.position ≡ Some (form.Invoke x k (q ∷ qs))) v j) plain_name
            (plain_class (subst (λ x. is_plain_call p h.key g.method.class x k ≡ true) v ((given h.key l).calls g.method b g.position kind k (q ∷ qs) d j concerned).1)) some

        first : (b : NamedBody) (q : ℕ) (qs : List ℕ) → bodies_of p g.method ≡ Some b → form_at b g.position ≡ Some (form.Invoke kind k (q ∷ qs)) → is_null (register g q) ≡ false → ReceiverKnown p f kind (kind_of w (register g q)) (is_null (register g q)) k
        first b q qs d j some = record {
          given = λ z. some;
          is_class = λ v. there_some (kind_of w (register g q)) (virtually b q qs d j some v).0;
          under = λ v. (virtually b q qs d j some v).1;
        }

        with_args : (b : NamedBody) → bodies_of p g.method ≡ Some b → (x : InvokeKind) (args : List ℕ) → kind ≡ x → form_at b g.position ≡ Some (form.Invoke kind k args) → HasReceiver not_null g.method g.position x args
            → ReceiverKnown p f kind (kind_of w (receiver (map (register g) args))) (is_null (receiver (map (register g) args))) k
        with_args b d call.Static args v j z = absurd z
        with_args b d call.Direct [] v j z = absurd z
        with_args b d call.Super [] v j z = absurd z
        with_args b d call.Virtual [] v j z = absurd z
        with_args b d call.Interface [] v j z = absurd z
        with_args b d call.Direct (q ∷ qs) v j z = first b q qs d j (no_null n w c g rest s q e z)
        with_args b d call.Super (q ∷ qs) v j z = first b q qs d j (no_null n w c g rest s q e z)
        with_args b d call.Virtual (q ∷ qs) v j z = first b q qs d j (no_null n w c g rest s q e z)
        with_args b d call.Interface (q ∷ qs) v j z = first b q qs d j (no_null n w c g rest s q e z)

        by : (x : Option NamedBody) → bodies_of p g.method ≡ x → option_and_then (λ (b : NamedBody). slice_get b.forms g.position) x ≡ Some (form.Invoke kind k args)
            → ReceiverKnown p f kind (kind_of w (receiver (map (register g) args))) (is_null (receiver (map (register g) args))) k
        by None d j = none_some (form.Invoke kind k args) j
        by (Some b) d j = with_args b d kind args refl j (known g.method b g.position kind k args h d j r l)
