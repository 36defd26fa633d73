-- A call of a typed frame that enters a method which its receiver finds: what waits and what is entered are typed, whatever name
-- the call has in another program.
use Rattle.std.proofs.Common.{◌≡◌, ℕ, suc, ◌+◌, Bool, true, false, true≢false, List, ◌∷◌, Option, Some, None, inr, refl, sym, ap, ◌∙◌, subst, arith}
use Rattle.std.specs.Prelude.{◌&&◌, ◌||◌, not, nat_eq, length, map, is_some, Contains, if◌then◌else◌}
use Rattle.std.proofs.lemmas.Bool.{eqb-true}
use Rattle.std.specs.List.{list_all}
use Rattle.insn_set.specs.declared.ops.InvokeKind.{InvokeKind}
use Rattle.insn_set.specs.declared.ops.InvokeKind.TheVariants as call
use Rattle.dalvik_defs.specs.Effect.{register}
use Rattle.dalvik_defs.specs.Face.{face_of, bodies_of}
use Rattle.dalvik_defs.specs.Find.{Found, Finds, finds_at}
use Rattle.dalvik_defs.specs.Flags.{is_static, is_interface}
use Rattle.dalvik_defs.specs.Known.{null_pointer}
use Rattle.dalvik_defs.specs.Names.{Text}
use Rattle.dalvik_defs.specs.Outcome.{Outcome, Enters, Need, need_of, faults, when_ready, calls_by, calls_uncoded}
use Rattle.dalvik_defs.specs.Outer.{Outer}
use Rattle.dalvik_defs.specs.State.{World, Classes, kind_of}
use Rattle.dalvik_defs.specs.Under.{defines, is_under}
use Rattle.dalvik_defs.specs.declared.forms.Form.{Form}
use Rattle.dalvik_defs.specs.declared.forms.Form.TheVariants as form
use Rattle.dalvik_defs.specs.declared.names.MethodKey.{MethodKey}
use Rattle.dalvik_defs.specs.declared.program.NamedBody.{NamedBody}
use Rattle.dalvik_defs.specs.declared.program.NamedClass.{NamedClass}
use Rattle.dalvik_defs.specs.declared.program.NamedMethod.{NamedMethod}
use Rattle.dalvik_defs.specs.declared.program.NamedProgram.{NamedProgram}
use Rattle.dalvik_defs.specs.declared.state.Frame.{Frame}
use Rattle.dalvik_defs.specs.declared.state.Value.{Value}
use Rattle.dalvik_defs.specs.declared.tables.Floats.{Floats}
use Rattle.dalvik_defs.specs.declared.tables.Framework.{Framework}
use Rattle.pass_defs.specs.Bindable.{is_virtual_call}
use Rattle.pass_defs.specs.Demands.{Demand, Fits, Constructed, meets, passed, is_constructor_name}
use Rattle.pass_defs.specs.Kinds.{Kind, is_plain}
use Rattle.pass_defs.specs.Kinds as kind
use Rattle.pass_defs.specs.Typed.{argument_kinds, parameter_kinds, receiver_kind, is_constructor, words_of, passed_words, wrong_method, wrong_super}
use Rattle.run_laws.specs.Invariant.{Callee}
use Rattle.run_laws.specs.TypedStates.{AllHold, IsObject, KindHolds, TypedFrame, TypedWorld}
use Rattle.run_laws.proofs.Settled.{IsSettled, FindsRegularly, IsFound}
use Rattle.run_laws.proofs.Registers.{and_right, no_low}
use Rattle.run_laws.proofs.Climbs.{plain_by, under_self}
use Rattle.run_laws.proofs.Here.{At}
use Rattle.run_laws.proofs.Forms.{or_right, Leads, throws_new}
use Rattle.run_laws.proofs.FieldForms.{waits}
use Rattle.run_laws.proofs.Calls.{arguments, entered, Enter, receiver_whole, kind_object, virtual_flags}

untrue : (b : Bool) → not b ≡ false → b ≡ true
untrue true e = refl
untrue false e = absurd (true≢false e)

module _ (p : NamedProgram) (o : Outer) (f : Framework) (floats : Floats) (reg : IsSettled p) (finds : FindsRegularly p f) (w : World) (cs : Classes) (g : Frame) (tw : TypedWorld p f w) (t : TypedFrame p f w g) where
  abbrev need : Text → Need
  need = need_of (face_of p f) cs

  abbrev L : Outcome → Type 0
  L = Leads p o f floats reg w cs g tw t

  abbrev met : (ℕ × Demand) → Bool
  met d = meets p t.in_method.class t.kinds.registers d.0 d.1

  -- ---- what is passed

  not_named : (m : NamedMethod) → is_constructor_name m.name ≡ false → is_constructor m ≡ false
  not_named m i = ap (λ b. b && not (is_static m.flags)) i

  plain_class : (c : NamedClass) → Contains p.classes c → is_interface c.flags ≡ false → is_plain p c.name ≡ true
  plain_class c ci e = plain_by p c.name (Some c) (reg.regular.named c ci) ∙ ap not e

  ordinary : (c : NamedClass) (m : NamedMethod) (v : Value) → is_constructor m ≡ false → IsObject w v → (is_interface c.flags ≡ false → (face_of p f).under (kind_of w v) c.name ≡ true) → KindHolds p f c.name w (receiver_kind c m) v
  ordinary c m v e ob more = subst (λ b. KindHolds p f c.name w (if b then kind.FreshThis else if is_interface c.flags then kind.Reference else kind.Class c.name) v) (sym e) (by (is_interface c.flags) refl)
    where
      by : (b : Bool) → is_interface c.flags ≡ b → KindHolds p f c.name w (if b then kind.Reference else kind.Class c.name) v
      by true i = inr ob
      by false i = inr (ob, more i)

  instance_args : (c : NamedClass) (m : NamedMethod) (v : Value) (vs : List Value) → is_static m.flags ≡ false → KindHolds p f c.name w (receiver_kind c m) v → AllHold p f c.name w (parameter_kinds p m.signature.parameters) vs → AllHold p f c.name w (argument_kinds p c m) (v ∷ vs)
  instance_args c m v vs e i h = subst (λ b. AllHold p f c.name w (elim b as (λ b. List Kind) [ true ↦ parameter_kinds p m.signature.parameters | false ↦ receiver_kind c m ∷ parameter_kinds p m.signature.parameters ]) (v ∷ vs)) (sym e)
      (i, h, no_low (receiver_kind c m) v (parameter_kinds p m.signature.parameters) vs (receiver_whole c m))

  module _ (k : InvokeKind) (key : MethodKey) (on : ℕ) (args : List ℕ) (virtual : is_virtual_call k ≡ true) (h : At p o f floats reg w g t (form.Invoke k key (on ∷ args))) where
    abbrev x : Form
    x = form.Invoke k key (on ∷ args)

    abbrev v : Value
    v = register g on

    abbrev vs : List Value
    vs = map (register g) (on ∷ args)

    rest_met : list_all met (passed key.signature.parameters args) ≡ true
    rest_met = by k virtual h
      where
        by : (k : InvokeKind) → is_virtual_call k ≡ true → At p o f floats reg w g t (form.Invoke k key (on ∷ args)) → list_all met (passed key.signature.parameters args) ≡ true
        by call.Virtual e h = and_right (meets p t.in_method.class t.kinds.registers on (if is_constructor_name key.name then Constructed key.class else Fits key.class)) (list_all met (passed key.signature.parameters args)) h.allowed
        by call.Interface e h = and_right (meets p t.in_method.class t.kinds.registers on (if is_constructor_name key.name then Constructed key.class else Fits key.class)) (list_all met (passed key.signature.parameters args)) h.allowed
        by call.Static e h = absurd (true≢false (sym e))
        by call.Direct e h = absurd (true≢false (sym e))
        by call.Super e h = absurd (true≢false (sym e))

    enough : length args ≡ words_of key.signature.parameters
    enough = by k virtual h
      where
        counted : (k : InvokeKind) → At p o f floats reg w g t (form.Invoke k key (on ∷ args)) → suc (length args) ≡ passed_words k key
        counted k h = eqb-true (suc (length args)) (passed_words k key) (untrue (nat_eq (suc (length args)) (passed_words k key)) (or_right (wrong_method p k key || wrong_super p t.in_method.class k key) (not (nat_eq (suc (length args)) (passed_words k key))) h.right))

        by : (k : InvokeKind) → is_virtual_call k ≡ true → At p o f floats reg w g t (form.Invoke k key (on ∷ args)) → length args ≡ words_of key.signature.parameters
        by call.Virtual e h = let c : suc (length args) ≡ 1 + words_of key.signature.parameters = counted call.Virtual h in omega (arith, c)
        by call.Interface e h = let c : suc (length args) ≡ 1 + words_of key.signature.parameters = counted call.Interface h in omega (arith, c)
        by call.Static e h = absurd (true≢false (sym e))
        by call.Direct e h = absurd (true≢false (sym e))
        by call.Super e h = absurd (true≢false (sym e))

    -- ---- what is entered

    module _ (old : MethodKey) (signature : key.signature ≡ old.signature) (found : Found) (code : found.coded ≡ true) (there : defines p (kind_of w v) ≡ true) (at : finds_at p (kind_of w v) old ≡ Finds found) where
      is : IsFound p old found
      is = (finds.virtually (kind_of w v) old found at).0

      flags : (is_static found.flags ≡ false) × (is_constructor_name found.key.name ≡ false)
      flags = virtual_flags p o f floats reg finds w cs g tw t found.flags found.key.name (finds.virtually (kind_of w v) old found at).1.0

      under : is_interface is.class.flags ≡ false → (face_of p f).under (kind_of w v) is.class.name ≡ true
      under e = subst (λ q. is_under p f (kind_of w v) q ≡ true) (ap (λ d. d.key.class) is.is)
          ((finds.virtually (kind_of w v) old found at).1.1 (kind_of w v) (subst (λ q. is_plain p q ≡ true) (sym (ap (λ d. d.key.class) is.is)) (plain_class is.class is.class_in e)) (under_self p f reg (kind_of w v) (reg.regular.class_types (kind_of w v) there)))

      receives : KindHolds p f is.class.name w (receiver_kind is.class is.method) v
      receives = ordinary is.class is.method v (not_named is.method (sym (ap (λ d. is_constructor_name d.key.name) is.is) ∙ flags.1)) (kind_object p o f floats reg finds w cs g tw t v there) under

      passes : AllHold p f is.class.name w (parameter_kinds p is.method.signature.parameters) (map (register g) args)
      passes = subst (λ s. AllHold p f is.class.name w (parameter_kinds p s.parameters) (map (register g) args)) (signature ∙ sym is.signature)
          (arguments p o f floats reg finds w cs g tw t key.signature.parameters args rest_met enough is.class.name)

      takes : AllHold p f is.class.name w (argument_kinds p is.class is.method) vs
      takes = instance_args is.class is.method v (map (register g) args) (sym (ap (λ d. is_static d.flags) is.is) ∙ flags.0) receives passes

      bodied : (y : Option NamedBody) → is.method.body ≡ y → is_some is.method.body ≡ true → Enter p o f floats reg w cs found.key vs (bodies_of p found.key)
      bodied None i j = absurd (true≢false (sym j ∙ ap (λ y. is_some y) i))
      bodied (Some b) i j = entered p o f floats reg w cs is.class is.method b found.key vs is.class_in is.method_in i (ap (λ d. d.key) is.is) takes

      enters : L (Enters found.key vs)
      enters = (
        waits p o f floats reg w cs g tw t x h refl (Callee found.key) (k, (key, (on ∷ args, (refl, signature ∙ (sym is.signature ∙ ap (λ d. d.key.signature) (sym is.is)))))),
        bodied is.method.body refl (sym (ap (λ d. d.coded) is.is) ∙ code),
      )

      pub found_leads : (kind : InvokeKind) (other : MethodKey) → L (calls_by need kind other vs w g (Finds found))
      found_leads kind other = subst L (sym entered_so) enters
        where
          entered_so : calls_by need kind other vs w g (Finds found) ≡ Enters found.key vs
          entered_so = ap (λ b. elim b as (λ b. Outcome) [
            | true ↦ when_ready (need found.key.class) w found.key.class (elim found.coded as (λ b. Outcome) [ true ↦ Enters found.key vs | false ↦ calls_uncoded kind found vs w ])
            | false ↦ elim found.coded as (λ b. Outcome) [ true ↦ Enters found.key vs | false ↦ calls_uncoded kind found vs w ]
          ]) flags.0 ∙ ap (λ b. elim b as (λ b. Outcome) [ true ↦ Enters found.key vs | false ↦ calls_uncoded kind found vs w ]) code

    pub null_leads : L (faults w null_pointer)
    null_leads = throws_new p o f floats reg w cs g tw t x h null_pointer refl refl
