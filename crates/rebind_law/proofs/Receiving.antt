-- The receiver of a call in a typed state: null or an object, and under the class that the call names where that is a plain one.
use Rattle.std.proofs.Common.{◌≡◌, ℕ, zero, suc, true, false, true≢false, List, [], ◌∷◌, Some, None, refl, sym, ap, ◌∙◌, subst}
use Rattle.std.specs.Prelude.{slice_get, slice_index_or, if◌then◌else◌}
use Rattle.std.specs.List.{list_all}
use Rattle.insn_set.specs.declared.ops.InvokeKind.{InvokeKind}
use Rattle.insn_set.specs.declared.ops.InvokeKind.TheVariants as call
use Rattle.dalvik_defs.specs.Effect.{register}
use Rattle.dalvik_defs.specs.Face.{bodies_of}
use Rattle.dalvik_defs.specs.Outer.{Outer}
use Rattle.dalvik_defs.specs.State.{World, Classes, is_null, kind_of}
use Rattle.dalvik_defs.specs.Under.{is_under}
use Rattle.dalvik_defs.specs.declared.forms.Form.{Form}
use Rattle.dalvik_defs.specs.declared.forms.Form.TheVariants as form
use Rattle.dalvik_defs.specs.declared.names.MethodKey.{MethodKey}
use Rattle.dalvik_defs.specs.declared.program.NamedBody.{NamedBody}
use Rattle.dalvik_defs.specs.declared.program.NamedProgram.{NamedProgram}
use Rattle.dalvik_defs.specs.declared.state.Frame.{Frame}
use Rattle.dalvik_defs.specs.declared.state.Value.{Value}
use Rattle.dalvik_defs.specs.declared.state.Value.TheVariants.{Word, Low, High, Object, Literal, Class}
use Rattle.dalvik_defs.specs.declared.tables.Floats.{Floats}
use Rattle.dalvik_defs.specs.declared.tables.Framework.{Framework}
use Rattle.pass_defs.specs.Analysis.{IsReference}
use Rattle.pass_defs.specs.Bindable.{is_virtual_call}
use Rattle.pass_defs.specs.Demands.{Constructed, Fits, meets, passed, is_constructor_name}
use Rattle.pass_defs.specs.Kinds.{is_plain, fits}
use Rattle.pass_defs.specs.Registers.{kind_at}
use Rattle.pass_defs.specs.Walks.{form_at}
use Rattle.run_laws.specs.TypedStates.{IsObject, TypedFrame, TypedWorld}
use Rattle.run_laws.proofs.Settled.{IsSettled, FindsRegularly}
use Rattle.run_laws.proofs.Registers.{and_left}
use Rattle.run_laws.proofs.Here.{At, at_form}
use Rattle.run_laws.proofs.Calls.{fits_object}
use Rattle.run_laws.proofs.FieldForms.{fitting}
use Rattle.rebind_law.specs.Receivers.{Renames}

some_is : {A : Type 0} (x y : A) → Some x ≡ Some y → x ≡ y
some_is x y e = ap (λ o. elim o [ Some z ↦ z | None ↦ x ]) e

-- what isn't null stands in a register that there is
pub in_register : (vs : List Value) (r : ℕ) → is_null (slice_index_or vs r (Word 0)) ≡ false → slice_get vs r ≡ Some (slice_index_or vs r (Word 0))
in_register [] r e = absurd (true≢false e)
in_register (v ∷ vs) zero e = refl
in_register (v ∷ vs) (suc r) e = in_register vs r e

pub object_reference : (w : World) (v : Value) → IsObject w v → IsReference v
object_reference w (Object n) h = tt
object_reference w (Literal t) h = tt
object_reference w (Class t) h = tt
object_reference w (Word n) h = absurd h
object_reference w (Low n) h = absurd h
object_reference w (High n) h = absurd h

module _ (p : NamedProgram) (o : Outer) (f : Framework) (floats : Floats) (reg : IsSettled p) (finds : FindsRegularly p f) (w : World) (cs : Classes) (g : Frame) (tw : TypedWorld p f w) (t : TypedFrame p f w g) where
  -- the form at a typed frame is that of its body
  pub own_at : (b : NamedBody) (x : Form) → bodies_of p g.method ≡ Some b → form_at b g.position ≡ Some x → At p o f floats reg w g t x
  own_at b x e i = by (at_form p o f floats reg w g t)
    where
      body : t.in_method.body ≡ b
      body = some_is t.in_method.body b (sym t.in_method.has_body ∙ (ap (bodies_of p) (sym t.of) ∙ e))

      by : (y : Form) × At p o f floats reg w g t y → At p o f floats reg w g t x
      by (y, h) = subst (At p o f floats reg w g t) (some_is y x (sym h.has ∙ (ap (λ z. form_at z g.position) body ∙ i))) h

  -- the first register of a virtual or interface call fits the class that it names
  receiver_fits : (k : InvokeKind) (m : MethodKey) (r : ℕ) (rs : List ℕ) → is_virtual_call k ≡ true → is_constructor_name m.name ≡ false → At p o f floats reg w g t (form.Invoke k m (r ∷ rs)) → fits p (kind_at t.kinds.registers r) m.class ≡ true
  receiver_fits k m r rs v c h = subst (λ b. meets p t.in_method.class t.kinds.registers r (if b then Constructed m.class else Fits m.class) ≡ true) c (asked k v h)
    where
      asked : (k : InvokeKind) → is_virtual_call k ≡ true → At p o f floats reg w g t (form.Invoke k m (r ∷ rs)) → meets p t.in_method.class t.kinds.registers r (if is_constructor_name m.name then Constructed m.class else Fits m.class) ≡ true
      asked call.Virtual v h = and_left (meets p t.in_method.class t.kinds.registers r (if is_constructor_name m.name then Constructed m.class else Fits m.class)) (list_all (λ d. meets p t.in_method.class t.kinds.registers d.0 d.1) (passed m.signature.parameters rs)) h.allowed
      asked call.Interface v h = and_left (meets p t.in_method.class t.kinds.registers r (if is_constructor_name m.name then Constructed m.class else Fits m.class)) (list_all (λ d. meets p t.in_method.class t.kinds.registers d.0 d.1) (passed m.signature.parameters rs)) h.allowed
      asked call.Static v h = absurd (true≢false (sym v))
      asked call.Direct v h = absurd (true≢false (sym v))
      asked call.Super v h = absurd (true≢false (sym v))

  module _ (x x' : Form) (c : Renames x x') (h : At p o f floats reg w g t x) (some : is_null (register g c.on) ≡ false) where
    fitted : fits p (kind_at t.kinds.registers c.on) c.old.class ≡ true
    fitted = receiver_fits c.kind c.old c.on c.args c.virtual c.plain_name (subst (At p o f floats reg w g t) c.first h)

    pub is_object : IsObject w (register g c.on)
    is_object = fits_object p o f floats reg finds w cs g tw t c.old.class c.old_type c.on fitted some

    pub stands_under : is_plain p c.old.class ≡ true → is_under p f (kind_of w (register g c.on)) c.old.class ≡ true
    stands_under plain = (fitting p o f floats reg w cs g tw t c.old.class plain c.on fitted some).1
