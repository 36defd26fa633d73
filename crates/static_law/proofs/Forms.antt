-- Instructions, bodies and their regions name what the static body of pass_defs has.
use Rattle.std.proofs.Common.{◌≡◌, ℕ, ◌<◌, ◌≤◌, inl, inr, lt-ltb, Bool, true, false, true≢false, List, [], ◌∷◌, map, Option, Some, None, refl, sym, ap, ◌∙◌, subst}
use std.Path.{fun_ext}
use Rattle.std.specs.Prelude.{length, is_some, nat_lt, slice_get, if◌then◌else◌}
use Rattle.std.proofs.lemmas.Bool.{cases_lt}
use Rattle.std.proofs.lemmas.Option.{slice_get_past}
use Rattle.insn_set.specs.declared.form.Insn.{Insn}
use Rattle.insn_set.specs.declared.form.Insn.TheVariants as insn
use Rattle.insn_set.specs.declared.ops.InvokeKind.{InvokeKind}
use Rattle.insn_set.specs.declared.ops.InvokeKind.TheVariants as call
use Rattle.program_model.specs.OperandRules.{numbers_fit}
use Rattle.program_model.specs.Texts.{has_string, has_method}
use Rattle.program_model.specs.declared.body.Body.{Body}
use Rattle.program_model.specs.declared.body.Handler.{Handler}
use Rattle.program_model.specs.declared.body.Region.{Region}
use Rattle.program_model.specs.declared.program.Program.{Program}
use Rattle.class_defs.proofs.WellFormed.{below}
use Rattle.dalvik_defs.specs.Find.{Found, resolves_method}
use Rattle.dalvik_defs.specs.Names.{Text}
use Rattle.dalvik_defs.specs.Naming.{body_of, field_at, form_of, handler_of, method_at, named, region_of, text_at, type_at}
use Rattle.dalvik_defs.specs.declared.forms.Form.{Form}
use Rattle.dalvik_defs.specs.declared.forms.Form.TheVariants as form
use Rattle.dalvik_defs.specs.declared.names.FieldKey.{FieldKey}
use Rattle.dalvik_defs.specs.declared.names.MethodKey.{MethodKey}
use Rattle.dalvik_defs.specs.declared.program.NamedBody.{NamedBody}
use Rattle.dalvik_defs.specs.declared.program.NamedHandler.{NamedHandler}
use Rattle.dalvik_defs.specs.declared.program.NamedRegion.{NamedRegion}
use Rattle.run_laws.specs.Holds.{Each}
use Rattle.name_bridge.proofs.Tables.{Sound}
use Rattle.pass_defs.specs.Loose.{called_statically, new_key, resolved, static_body}
use Rattle.removal_law.proofs.Lists.{clash}
use Rattle.static_law.specs.Edited.{IsEdited, IsPlanned, body_edited, insn_edited, loose_in}
use Rattle.static_law.proofs.Tables.{text_same, type_same, field_same, method_same_at, loose_number}

pub not_below : (m n : ℕ) → nat_lt m n ≡ false → n ≤ m
not_below m n e = elim (cases_lt m n) [ inl l ↦ absurd (true≢false (sym (lt-ltb m n l) ∙ e)) | inr g ↦ g ]

-- a number that is made static stands in the table
pub inside_table : (given target : ℕ → Option ℕ) (p : Program) → IsPlanned p given target → (t : ℕ) → is_some (given t) ≡ true → t < length p.methods
inside_table given target p planned t g = by (nat_lt t (length p.methods)) refl
  where
    given_some : (o : Option ℕ) → given t ≡ o → is_some o ≡ true → slice_get p.methods t ≡ None → t < length p.methods
    given_some (Some k) e i n = absurd (planned.inside t k e n)
    given_some None e i n = absurd (true≢false (sym i))

    by : (b : Bool) → nat_lt t (length p.methods) ≡ b → t < length p.methods
    by true e = below t (length p.methods) e
    by false e = given_some (given t) refl g (slice_get_past p.methods t (not_below t (length p.methods) e))

abbrev body_by : Body → List Form → List NamedRegion → NamedBody
body_by b fs rs = record { registers = b.registers; ins = b.ins; forms = fs; regions = rs }

abbrev handler_by : (ℕ → Text) → Handler → NamedHandler
handler_by f h = record { kind = f h.kind; position = h.position }

abbrev region_by : (ℕ → Text) → Region → NamedRegion
region_by f r = record { first = r.first; end = r.end; handlers = map (handler_by f) r.handlers; rest = r.rest }

module _ (given target : ℕ → Option ℕ) (p q : Program) (s : Sound p) (edited : IsEdited given target p q) (planned : IsPlanned p given target) where
  abbrev loose : MethodKey → Bool
  loose = loose_in p given

  -- the form with what it names, static where it calls a method that is made static
  abbrev wanted : Insn → Form
  wanted i = called_statically (named p) loose (resolved (named p) (form_of p i)) (form_of p i)

  text_there : (k : ℕ) → has_string p k ≡ true → text_at q k ≡ text_at p k
  text_there k h = text_same given target p q s edited k (below k (length p.strings) h)

  type_there : (k : ℕ) → type_at q k ≡ type_at p k
  type_there k = type_same given target p q s edited k

  field_there : (k : ℕ) → field_at q k ≡ field_at p k
  field_there k = field_same given target p q s edited k

  method_there : (k : ℕ) → method_at q k ≡ (if is_some (given k) then new_key (method_at p k) else method_at p k)
  method_there k = method_same_at given target p q s edited planned.inside k

  -- what a call becomes, by what its name resolves to
  abbrev called_by : InvokeKind → ℕ → List ℕ → Option Found → Form
  called_by kind method args o = called_statically (named p) loose o (form.Invoke kind (method_at p method) args)

  -- a method that resolves to itself where it is made static
  call_same : (kind : InvokeKind) (method : ℕ) (args : List ℕ) → method < length p.methods → form_of q (insn_edited given target (insn.Invoke kind method args)) ≡ called_by kind method args (resolves_method (named p) (method_at p method))
  call_same kind method args low = by (target method) refl
    where
      now : Option ℕ → Form
      now o = form_of q (elim o as (λ o. Insn) [ Some t ↦ insn.Invoke call.Static t args | None ↦ insn.Invoke kind method args ])

      turned : (k : MethodKey) (b : Bool) (g : Found) → loose g.key ≡ b → g.key ≡ k → b ≡ true → called_by kind method args (Some g) ≡ form.Invoke call.Static (new_key k) args
      turned k b g l e t = ap (λ (b : Bool). if b then form.Invoke call.Static (new_key g.key) args else form.Invoke kind (method_at p method) args) (l ∙ t)
          ∙ ap (λ (k : MethodKey). form.Invoke call.Static (new_key k) args) e

      by : (o : Option ℕ) → target method ≡ o → now o ≡ called_by kind method args (resolves_method (named p) (method_at p method))
      by (Some t) e =
          let r = planned.found method t e in
          let is : method_at q t ≡ new_key (method_at p t) = method_there t ∙ ap (λ (b : Bool). if b then new_key (method_at p t) else method_at p t) r.1.1.1 in
          ap (λ (k : MethodKey). form.Invoke call.Static k args) is
          ∙ (sym (turned (method_at p t) true r.0 (ap loose r.1.1.0 ∙ (loose_number given p s t (number t r.1.1.1) ∙ r.1.1.1)) r.1.1.0 refl)
          ∙ sym (ap (called_by kind method args) r.1.0))
        where
          number : (t : ℕ) → is_some (given t) ≡ true → t < length p.methods
          number t g = inside_table given target p planned t g
      by None e = stays (resolves_method (named p) (method_at p method)) refl
        where
          unloose : (x : Option Found) → resolves_method (named p) (method_at p method) ≡ x → method_at q method ≡ method_at p method
          unloose x i = method_there method ∙ ap (λ (b : Bool). if b then new_key (method_at p method) else method_at p method) (planned.itself method e)

          stays : (x : Option Found) → resolves_method (named p) (method_at p method) ≡ x → form.Invoke kind (method_at q method) args ≡ called_by kind method args x
          stays None i = ap (λ (k : MethodKey). form.Invoke kind k args) (unloose None i)
          stays (Some g) i = ap (λ (k : MethodKey). form.Invoke kind k args) (unloose (Some g) i)
              ∙ sym (ap (λ (b : Bool). if b then form.Invoke call.Static (new_key g.key) args else form.Invoke kind (method_at p method) args) (planned.others method g low e i))

  insn_same : (i : Insn) → numbers_fit i p ≡ true → form_of q (insn_edited given target i) ≡ wanted i
  unfolding numbers_fit
  insn_same insn.Nop h = refl
  insn_same (insn.Move slot to from) h = refl
  insn_same (insn.MoveResult slot to) h = refl
  insn_same (insn.MoveException to) h = refl
  insn_same insn.ReturnVoid h = refl
  insn_same (insn.Return slot from) h = refl
  insn_same (insn.Const to value) h = refl
  insn_same (insn.ConstWide to value) h = refl
  insn_same (insn.ConstString to string) h = ap (λ t. form.ConstString to t) (text_there string h)
  insn_same (insn.ConstClass to kind) h = ap (λ t. form.ConstClass to t) (type_there kind)
  insn_same (insn.MonitorEnter on) h = refl
  insn_same (insn.MonitorExit on) h = refl
  insn_same (insn.CheckCast on kind) h = ap (λ t. form.CheckCast on t) (type_there kind)
  insn_same (insn.InstanceOf to from kind) h = ap (λ t. form.InstanceOf to from t) (type_there kind)
  insn_same (insn.ArrayLength to from) h = refl
  insn_same (insn.NewInstance to kind) h = ap (λ t. form.NewInstance to t) (type_there kind)
  insn_same (insn.NewArray to size kind) h = ap (λ t. form.NewArray to size t) (type_there kind)
  insn_same (insn.FilledNewArray kind args) h = ap (λ t. form.FilledNewArray t args) (type_there kind)
  insn_same (insn.FillArray on width items) h = refl
  insn_same (insn.Throw on) h = refl
  insn_same (insn.Goto target) h = refl
  insn_same (insn.PackedSwitch on first targets) h = refl
  insn_same (insn.SparseSwitch on keys targets) h = refl
  insn_same (insn.Cmp op to a b) h = refl
  insn_same (insn.If test a b target) h = refl
  insn_same (insn.IfZero test a target) h = refl
  insn_same (insn.ArrayGet item to array index) h = refl
  insn_same (insn.ArrayPut item from array index) h = refl
  insn_same (insn.InstanceGet item to on field) h = ap (λ k. form.InstanceGet item to on k) (field_there field)
  insn_same (insn.InstancePut item from on field) h = ap (λ k. form.InstancePut item from on k) (field_there field)
  insn_same (insn.StaticGet item to field) h = ap (λ k. form.StaticGet item to k) (field_there field)
  insn_same (insn.StaticPut item from field) h = ap (λ k. form.StaticPut item from k) (field_there field)
  insn_same (insn.Invoke kind method args) h = call_same kind method args (below method (length p.methods) h)
  insn_same (insn.Unary op to from) h = refl
  insn_same (insn.Binary op to a b) h = refl
  insn_same (insn.Literal op to a value) h = refl

  insns_same : (is : List Insn) → Each (λ i. numbers_fit i p ≡ true) is → map (form_of q) (map (insn_edited given target) is) ≡ map (λ f. called_statically (named p) loose (resolved (named p) f) f) (map (form_of p) is)
  insns_same [] h = refl
  insns_same (i ∷ is) h = ap (λ f. f ∷ map (form_of q) (map (insn_edited given target) is)) (insn_same i h.0) ∙ ap (λ fs. wanted i ∷ fs) (insns_same is h.1)

  region_same : region_of q ≡ region_of p
  region_same = ap region_by (fun_ext type_there)

  -- a body of the program
  pub body_same : (b : Body) → Each (λ i. numbers_fit i p ≡ true) b.insns → body_of q (body_edited given target b) ≡ static_body (named p) loose (body_of p b)
  body_same b h =
      ap (λ fs. body_by b fs (map (region_of q) b.regions)) (insns_same b.insns h)
      ∙ ap (λ (f : Region → NamedRegion). body_by b (map (λ f. called_statically (named p) loose (resolved (named p) f) f) (map (form_of p) b.insns)) (map f b.regions)) region_same
