-- A call that stands in a body by name stands there by number.
use Rattle.std.proofs.Common.{◌≡◌, ℕ, zero, suc, ◌<◌, Bool, true, false, true≢false, List, [], ◌∷◌, length, Option, Some, None, refl, sym, ap, ◌∙◌, subst}
use Rattle.std.specs.Prelude.{◌&&◌, map, slice_get, Contains}
use Rattle.std.specs.Option.{option_and_then, option_map}
use Rattle.lemmas.proofs.Bools.{and_left, and_right}
use Rattle.lemmas.proofs.Options.{before_map, none_some, some_same}
use Rattle.insn_set.specs.declared.form.Insn.{Insn}
use Rattle.insn_set.specs.declared.form.Insn.TheVariants as insn
use Rattle.insn_set.specs.declared.ops.InvokeKind.{InvokeKind}
use Rattle.insn_set.specs.declared.ops.InvokeKind.TheVariants as call
use Rattle.program_model.specs.OperandRules.{numbers_fit}
use Rattle.program_model.specs.declared.body.Body.{Body}
use Rattle.program_model.specs.declared.pools.MethodName.{MethodName}
use Rattle.program_model.specs.declared.program.Class.{Class}
use Rattle.program_model.specs.declared.program.Method.{Method}
use Rattle.program_model.specs.declared.program.Program.{Program}
use Rattle.class_defs.proofs.WellFormed.{Sound, below}
use Rattle.dalvik_defs.proofs.Calm.{text_sound}
use Rattle.dalvik_defs.specs.Face.{bodies_of}
use Rattle.dalvik_defs.specs.Find.{method_in}
use Rattle.dalvik_defs.specs.Names.{Text, same_name, signature_eq, text_eq}
use Rattle.dalvik_defs.specs.Naming.{body_of, form_of, method_at, named, named_class, named_method, type_at}
use Rattle.dalvik_defs.specs.Silence.{key_in}
use Rattle.dalvik_defs.specs.Under.{class_named}
use Rattle.dalvik_defs.specs.declared.forms.Form.{Form}
use Rattle.dalvik_defs.specs.declared.forms.Form.TheVariants as form
use Rattle.dalvik_defs.specs.declared.names.MethodKey.{MethodKey}
use Rattle.dalvik_defs.specs.declared.program.NamedBody.{NamedBody}
use Rattle.dalvik_defs.specs.declared.program.NamedClass.{NamedClass}
use Rattle.dalvik_defs.specs.declared.program.NamedMethod.{NamedMethod}
use Rattle.run_laws.specs.Holds.{Each}
use Rattle.name_bridge.proofs.Tables.{entry_at}
use Rattle.pass_defs.specs.Walks.{form_at}
use Rattle.removal_law.proofs.Lists.{contained, found_in}
use Rattle.removal_law.proofs.Members.{signature_sound}
use Rattle.removal_law.proofs.Trees.{class_name, class_in}
use Rattle.removal_bridge.proofs.Listed.{Image, image, method_fits_at}
use Rattle.static_law.proofs.Fitting.{body_of_code, insns_numbers, method_holds}
use Rattle.static_law.proofs.Programs.{mapped_at}

-- a call that stands in a method's code, by number
pub record CallAt (p : Program) (caller : MethodKey) (n : ℕ) (kind : InvokeKind) (k : MethodKey) (args : List ℕ) : Type 0 where
  pub place : ℕ
  pub at : ℕ
  pub class : Class
  pub method : Method
  pub body : Body
  pub called : ℕ
  pub entry : MethodName
  pub is_class : slice_get p.classes place ≡ Some class
  pub is_method : slice_get class.methods at ≡ Some method
  pub is_body : method.body ≡ Some body
  pub is_call : slice_get body.insns n ≡ Some (insn.Invoke kind called args)
  pub key : caller ≡ key_in (named_class p class) (named_method p method)
  pub names : method_at p called ≡ k
  pub is_entry : slice_get p.methods called ≡ Some entry

-- what a form of a call is by number
record Invokes (p : Program) (i : Insn) (kind : InvokeKind) (k : MethodKey) (args : List ℕ) : Type 0 where
  called : ℕ
  is : i ≡ insn.Invoke kind called args
  names : method_at p called ≡ k

abbrev is_call : Form → Bool
is_call (form.Invoke kind k args) = true
is_call f = false

abbrev kind_in : Form → InvokeKind
kind_in (form.Invoke kind k args) = kind
kind_in f = call.Static

abbrev key_called : MethodKey → Form → MethodKey
key_called j (form.Invoke kind k args) = k
key_called j f = j

abbrev args_in : Form → List ℕ
args_in (form.Invoke kind k args) = args
args_in f = []

invokes : (p : Program) (i : Insn) (kind : InvokeKind) (k : MethodKey) (args : List ℕ) → form_of p i ≡ form.Invoke kind k args → Invokes p i kind k args
invokes p (insn.Invoke kind' called args') kind k args e = record {
  called = called;
  is = ap (λ (z : InvokeKind). insn.Invoke z called args') (ap kind_in e) ∙ ap (λ (zs : List ℕ). insn.Invoke kind called zs) (ap args_in e);
  names = ap (key_called (method_at p called)) e;
}
invokes p i kind k args e = absurd (true≢false (sym (ap is_call e)))

each_at : {A : Type 0} (P : A → Type 0) (xs : List A) (n : ℕ) (x : A) → Each P xs → slice_get xs n ≡ Some x → P x
each_at P [] n x h e = none_some x e
each_at P (y ∷ xs) zero x h e = subst P (some_same y x e) h.0
each_at P (y ∷ xs) (suc n) x h e = each_at P xs n x h.1 e

module _ (p : Program) (s : Sound p) where
  -- a call's number has an entry
  has_entry : (i : Insn) (kind : InvokeKind) (called : ℕ) (args : List ℕ) → i ≡ insn.Invoke kind called args → numbers_fit i p ≡ true → called < length p.methods
  unfolding numbers_fit
  has_entry i kind called args e h = below called (length p.methods) (sym (ap (λ (i : Insn). numbers_fit i p) e) ∙ h)

  pub call_at : (caller : MethodKey) (b : NamedBody) (n : ℕ) (kind : InvokeKind) (k : MethodKey) (args : List ℕ) → bodies_of (named p) caller ≡ Some b → form_at b n ≡ Some (form.Invoke kind k args) → CallAt p caller n kind k args
  call_at caller b n kind k args e f = by (class_named (named p) caller.class) refl e
    where
      in_method : (c : NamedClass) → class_named (named p) caller.class ≡ Some c → (m : NamedMethod) → method_in c caller.name caller.signature ≡ Some m → m.body ≡ Some b → CallAt p caller n kind k args
      in_method c i m j h =
          let x : Image (named_class p) p.classes c = image (named_class p) p.classes c (contained c (named p).classes (class_in (named p) caller.class c i)) in
          let found = found_in (λ (m : NamedMethod). same_name m.name m.signature caller.name caller.signature) c.methods m j in
          let y : Image (named_method p) x.entry.methods m = image (named_method p) x.entry.methods m (subst (λ (c : NamedClass). Contains c.methods m) (sym x.is) (contained m c.methods found.is_in)) in
          let d = before_map (body_of p) y.entry.body b (ap (λ (m : NamedMethod). m.body) y.is ∙ h) in
          let z = mapped_at (form_of p) d.0.insns n (form.Invoke kind k args) (ap (λ (b : NamedBody). form_at b n) d.1.1 ∙ f) in
          let v : Invokes p z.0 kind k args = invokes p z.0 kind k args z.1.1 in
          let fits = each_at (λ (i : Insn). numbers_fit i p ≡ true) d.0.insns n z.0
          (insns_numbers p d.0 (body_of_code p y.entry d.0 d.1.0 (method_holds p x.entry.name y.entry (method_fits_at p s x.place x.entry x.is_entry y.place y.entry y.is_entry)).code)) z.1.0 in
          let entry = entry_at p.methods v.called (has_entry z.0 kind v.called args v.is fits) in
          record {
            place = x.place;
            at = y.place;
            class = x.entry;
            method = y.entry;
            body = d.0;
            called = v.called;
            entry = entry.0;
            is_class = x.is_entry;
            is_method = y.is_entry;
            is_body = d.1.0;
            is_call = z.1.0 ∙ ap Some v.is;
            key = same (class_name (named p) caller.class c i) (text_sound m.name caller.name (and_left (text_eq m.name caller.name) (signature_eq m.signature caller.signature) found.passes))
                (signature_sound m.signature caller.signature (and_right (text_eq m.name caller.name) (signature_eq m.signature caller.signature) found.passes))
                ∙ (ap (λ (m : NamedMethod). key_in c m) (sym y.is) ∙ ap (λ (c : NamedClass). key_in c (named_method p y.entry)) (sym x.is));
            names = v.names;
            is_entry = entry.1;
          }
        where
          same : c.name ≡ caller.class → m.name ≡ caller.name → m.signature ≡ caller.signature → caller ≡ key_in c m
          same a d g = sym (λ i. record { class = a i; name = d i; signature = g i })

      by_method : (c : NamedClass) → class_named (named p) caller.class ≡ Some c → (o : Option NamedMethod) → method_in c caller.name caller.signature ≡ o → option_and_then (λ (m : NamedMethod). m.body) o ≡ Some b → CallAt p caller n kind k args
      by_method c i None j h = none_some b h
      by_method c i (Some m) j h = in_method c i m j h

      by : (o : Option NamedClass) → class_named (named p) caller.class ≡ o → option_and_then (λ (m : NamedMethod). m.body) (elim o as (λ o. Option NamedMethod) [ Some c ↦ method_in c caller.name caller.signature | None ↦ None ]) ≡ Some b
          → CallAt p caller n kind k args
      by None i h = none_some b h
      by (Some c) i h = by_method c i (method_in c caller.name caller.signature) refl h
