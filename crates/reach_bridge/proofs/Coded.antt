-- The code of marked methods, by number and by name.
use Rattle.std.proofs.Common.{◌≡◌, ℕ, ◌⊎◌, inl, inr, true, List, [], ◌∷◌, ◌++◌, length, map, Option, Some, None, refl, sym, ap, ◌∙◌, subst}
use Rattle.std.specs.Prelude.{flat_map, Contains, option_and_then}
use Rattle.std.specs.Option.{option_map}
use Rattle.lemmas.proofs.Options.{none_some, some_same}
use Rattle.insn_set.specs.declared.form.Insn.{Insn}
use Rattle.insn_set.specs.declared.form.Insn.TheVariants as insn
use Rattle.insn_set.specs.declared.ops.InvokeKind.{InvokeKind}
use Rattle.program_model.specs.declared.body.Handler.{Handler}
use Rattle.program_model.specs.declared.body.Region.{Region}
use Rattle.program_model.specs.declared.body.Body.{Body}
use Rattle.program_model.specs.declared.program.Program.{Program}
use Rattle.program_model.specs.declared.pass.Outside.{Outside}
use Rattle.call_graph.specs.Bases.{bases_of}
use Rattle.call_graph.specs.declared.facts.Fact.{Fact}
use Rattle.call_graph.specs.declared.facts.Fact.TheVariants as fact
use Rattle.call_graph.specs.declared.named.Named.{Named}
use Rattle.call_graph.specs.declared.named.Named.TheVariants as item
use Rattle.call_graph.specs.declared.live_set.LiveSet.{LiveSet}
use Rattle.call_graph.specs.Names.{marks_names, insn_names, handler_names, region_names, body_names, code_names}
use Rattle.call_graph.specs.Follows as follow
use Rattle.call_graph.specs.Follows.{method_types, field_types, class_facts, field_facts, field_names, body_facts, names_of_method, all_named, named_facts, found_facts}
use Rattle.call_graph.specs.Closed.{is_live, forced, conditional}
use Rattle.dalvik_defs.specs.Names.{Text}
use Rattle.dalvik_defs.specs.Naming.{type_at, field_at, method_at, form_of, handler_of, region_of, body_of, named}
use Rattle.dalvik_defs.specs.Find.{defined_method}
use Rattle.dalvik_defs.specs.declared.names.MethodKey.{MethodKey}
use Rattle.dalvik_defs.specs.declared.names.FieldKey.{FieldKey}
use Rattle.dalvik_defs.specs.declared.forms.Form.{Form}
use Rattle.dalvik_defs.specs.declared.forms.Form.TheVariants as form
use Rattle.dalvik_defs.specs.declared.program.NamedRegion.{NamedRegion}
use Rattle.dalvik_defs.specs.declared.program.NamedBody.{NamedBody}
use Rattle.dalvik_defs.specs.declared.program.NamedMethod.{NamedMethod}
use Rattle.pass_defs.specs.Mentions.{types_of, types_in, fields_in, types_in_body, fields_in_body}
use Rattle.pass_defs.specs.Live.{HasBody, KeepsTypes, KeepsResolved}
use Rattle.removal_law.proofs.Lists.{In, here, there, contained, in_front, in_back, in_either}
use Rattle.removal_law.proofs.Finds.{in_flat, out_of_flat}
use Rattle.reach_bridge.specs.Names.{family_of}
use Rattle.reach.specs.Marked.{IsMarked}
use Rattle.reach_bridge.proofs.Held.{stands, of_image, ByNumber, field_number, method_number}
use Rattle.reach_bridge.proofs.Based.{Met, Held}
use Rattle.reach_bridge.proofs.Mentioned.{Holds, FieldHeld, MethodHeld, mention_of, nothing_in, only, met_front, met_back, all_held, field_types_held, method_types_held}
use Rattle.reach_bridge.proofs.Owned.{OwnMethod, own_method}

-- ---- what instructions name

abbrev call_in : Form → Option (InvokeKind × MethodKey)
call_in (form.Invoke kind k args) = Some (kind, k)
call_in f = None

abbrev new_in : Form → Option Text
new_in (form.NewInstance to t) = Some t
new_in f = None

-- a call of a method number, and a new object of a type number
pub record IsCall (p : Program) (i : Insn) (kind : InvokeKind) (k : MethodKey) : Type 0 where
  pub number : ℕ
  pub args : List ℕ
  pub insn_is : i ≡ insn.Invoke kind number args
  pub names : In (item.Call kind number) (insn_names i)
  pub is : method_at p number ≡ k

pub record IsNew (p : Program) (i : Insn) (t : Text) : Type 0 where
  pub number : ℕ
  pub names : In (item.Made number) (insn_names i)
  pub is : type_at p number ≡ t

module _ (p : Program) (s : LiveSet) where
  -- what an instruction names is held
  abbrev pub NamesHeld : List Named → Type 0
  NamesHeld names = (x : Named) → In x names → Holds p s (mention_of p x)

  insn_types : (i : Insn) (t : Text) → NamesHeld (insn_names i) → In t (types_in (form_of p i)) → Held p s t
  insn_types insn.Nop t h i = nothing_in t i
  insn_types (insn.Move slot to source) t h i = nothing_in t i
  insn_types (insn.MoveResult slot to) t h i = nothing_in t i
  insn_types (insn.MoveException to) t h i = nothing_in t i
  insn_types insn.ReturnVoid t h i = nothing_in t i
  insn_types (insn.Return slot source) t h i = nothing_in t i
  insn_types (insn.Const to value) t h i = nothing_in t i
  insn_types (insn.ConstWide to value) t h i = nothing_in t i
  insn_types (insn.ConstString to string) t h i = nothing_in t i
  insn_types (insn.ConstClass to kind) t h i = (h (item.Kind kind) (here [])).types t i
  insn_types (insn.MonitorEnter on) t h i = nothing_in t i
  insn_types (insn.MonitorExit on) t h i = nothing_in t i
  insn_types (insn.CheckCast on kind) t h i = (h (item.Kind kind) (here [])).types t i
  insn_types (insn.InstanceOf to source kind) t h i = (h (item.Kind kind) (here [])).types t i
  insn_types (insn.ArrayLength to source) t h i = nothing_in t i
  insn_types (insn.NewInstance to kind) t h i = (h (item.Made kind) (here [])).types t i
  insn_types (insn.NewArray to size kind) t h i = (h (item.Kind kind) (here [])).types t i
  insn_types (insn.FilledNewArray kind args) t h i = (h (item.Kind kind) (here [])).types t i
  insn_types (insn.FillArray on width items) t h i = nothing_in t i
  insn_types (insn.Throw on) t h i = nothing_in t i
  insn_types (insn.Goto target) t h i = nothing_in t i
  insn_types (insn.PackedSwitch on first targets) t h i = nothing_in t i
  insn_types (insn.SparseSwitch on keys targets) t h i = nothing_in t i
  insn_types (insn.Cmp op to a b) t h i = nothing_in t i
  insn_types (insn.If test a b target) t h i = nothing_in t i
  insn_types (insn.IfZero test a target) t h i = nothing_in t i
  insn_types (insn.ArrayGet what to array index) t h i = nothing_in t i
  insn_types (insn.ArrayPut what source array index) t h i = nothing_in t i
  insn_types (insn.InstanceGet what to on field) t h i = (h (item.Field field) (here [])).types t i
  insn_types (insn.InstancePut what source on field) t h i = (h (item.Field field) (here [])).types t i
  insn_types (insn.StaticGet what to field) t h i = (h (item.Field field) (here [])).types t i
  insn_types (insn.StaticPut what source field) t h i = (h (item.Field field) (here [])).types t i
  insn_types (insn.Invoke kind method args) t h i = (h (item.Call kind method) (here [])).types t i
  insn_types (insn.Unary op to source) t h i = nothing_in t i
  insn_types (insn.Binary op to a b) t h i = nothing_in t i
  insn_types (insn.Literal op to a value) t h i = nothing_in t i

  insn_fields : (i : Insn) (k : FieldKey) → NamesHeld (insn_names i) → In k (fields_in (form_of p i)) → FieldHeld p s k
  insn_fields insn.Nop k h i = nothing_in k i
  insn_fields (insn.Move slot to source) k h i = nothing_in k i
  insn_fields (insn.MoveResult slot to) k h i = nothing_in k i
  insn_fields (insn.MoveException to) k h i = nothing_in k i
  insn_fields insn.ReturnVoid k h i = nothing_in k i
  insn_fields (insn.Return slot source) k h i = nothing_in k i
  insn_fields (insn.Const to value) k h i = nothing_in k i
  insn_fields (insn.ConstWide to value) k h i = nothing_in k i
  insn_fields (insn.ConstString to string) k h i = nothing_in k i
  insn_fields (insn.ConstClass to kind) k h i = nothing_in k i
  insn_fields (insn.MonitorEnter on) k h i = nothing_in k i
  insn_fields (insn.MonitorExit on) k h i = nothing_in k i
  insn_fields (insn.CheckCast on kind) k h i = nothing_in k i
  insn_fields (insn.InstanceOf to source kind) k h i = nothing_in k i
  insn_fields (insn.ArrayLength to source) k h i = nothing_in k i
  insn_fields (insn.NewInstance to kind) k h i = nothing_in k i
  insn_fields (insn.NewArray to size kind) k h i = nothing_in k i
  insn_fields (insn.FilledNewArray kind args) k h i = nothing_in k i
  insn_fields (insn.FillArray on width items) k h i = nothing_in k i
  insn_fields (insn.Throw on) k h i = nothing_in k i
  insn_fields (insn.Goto target) k h i = nothing_in k i
  insn_fields (insn.PackedSwitch on first targets) k h i = nothing_in k i
  insn_fields (insn.SparseSwitch on keys targets) k h i = nothing_in k i
  insn_fields (insn.Cmp op to a b) k h i = nothing_in k i
  insn_fields (insn.If test a b target) k h i = nothing_in k i
  insn_fields (insn.IfZero test a target) k h i = nothing_in k i
  insn_fields (insn.ArrayGet what to array index) k h i = nothing_in k i
  insn_fields (insn.ArrayPut what source array index) k h i = nothing_in k i
  insn_fields (insn.InstanceGet what to on field) k h i = (h (item.Field field) (here [])).fields k i
  insn_fields (insn.InstancePut what source on field) k h i = (h (item.Field field) (here [])).fields k i
  insn_fields (insn.StaticGet what to field) k h i = (h (item.Field field) (here [])).fields k i
  insn_fields (insn.StaticPut what source field) k h i = (h (item.Field field) (here [])).fields k i
  insn_fields (insn.Invoke kind method args) k h i = nothing_in k i
  insn_fields (insn.Unary op to source) k h i = nothing_in k i
  insn_fields (insn.Binary op to a b) k h i = nothing_in k i
  insn_fields (insn.Literal op to a value) k h i = nothing_in k i

  pub insn_call : (i : Insn) (kind : InvokeKind) (k : MethodKey) (args : List ℕ) → form_of p i ≡ form.Invoke kind k args → IsCall p i kind k
  insn_call insn.Nop z k zs e = none_some (z, k) (ap call_in e)
  insn_call (insn.Move slot to source) z k zs e = none_some (z, k) (ap call_in e)
  insn_call (insn.MoveResult slot to) z k zs e = none_some (z, k) (ap call_in e)
  insn_call (insn.MoveException to) z k zs e = none_some (z, k) (ap call_in e)
  insn_call insn.ReturnVoid z k zs e = none_some (z, k) (ap call_in e)
  insn_call (insn.Return slot source) z k zs e = none_some (z, k) (ap call_in e)
  insn_call (insn.Const to value) z k zs e = none_some (z, k) (ap call_in e)
  insn_call (insn.ConstWide to value) z k zs e = none_some (z, k) (ap call_in e)
  insn_call (insn.ConstString to string) z k zs e = none_some (z, k) (ap call_in e)
  insn_call (insn.ConstClass to kind) z k zs e = none_some (z, k) (ap call_in e)
  insn_call (insn.MonitorEnter on) z k zs e = none_some (z, k) (ap call_in e)
  insn_call (insn.MonitorExit on) z k zs e = none_some (z, k) (ap call_in e)
  insn_call (insn.CheckCast on kind) z k zs e = none_some (z, k) (ap call_in e)
  insn_call (insn.InstanceOf to source kind) z k zs e = none_some (z, k) (ap call_in e)
  insn_call (insn.ArrayLength to source) z k zs e = none_some (z, k) (ap call_in e)
  insn_call (insn.NewInstance to kind) z k zs e = none_some (z, k) (ap call_in e)
  insn_call (insn.NewArray to size kind) z k zs e = none_some (z, k) (ap call_in e)
  insn_call (insn.FilledNewArray kind args) z k zs e = none_some (z, k) (ap call_in e)
  insn_call (insn.FillArray on width items) z k zs e = none_some (z, k) (ap call_in e)
  insn_call (insn.Throw on) z k zs e = none_some (z, k) (ap call_in e)
  insn_call (insn.Goto target) z k zs e = none_some (z, k) (ap call_in e)
  insn_call (insn.PackedSwitch on first targets) z k zs e = none_some (z, k) (ap call_in e)
  insn_call (insn.SparseSwitch on keys targets) z k zs e = none_some (z, k) (ap call_in e)
  insn_call (insn.Cmp op to a b) z k zs e = none_some (z, k) (ap call_in e)
  insn_call (insn.If test a b target) z k zs e = none_some (z, k) (ap call_in e)
  insn_call (insn.IfZero test a target) z k zs e = none_some (z, k) (ap call_in e)
  insn_call (insn.ArrayGet what to array index) z k zs e = none_some (z, k) (ap call_in e)
  insn_call (insn.ArrayPut what source array index) z k zs e = none_some (z, k) (ap call_in e)
  insn_call (insn.InstanceGet what to on field) z k zs e = none_some (z, k) (ap call_in e)
  insn_call (insn.InstancePut what source on field) z k zs e = none_some (z, k) (ap call_in e)
  insn_call (insn.StaticGet what to field) z k zs e = none_some (z, k) (ap call_in e)
  insn_call (insn.StaticPut what source field) z k zs e = none_some (z, k) (ap call_in e)
  insn_call (insn.Invoke kind method args) z k zs e = let same = some_same (kind, method_at p method) (z, k) (ap call_in e) in record { number = method; args = args; insn_is = ap (λ (y : InvokeKind × MethodKey). insn.Invoke y.0 method args) same; names = subst (λ y. In (item.Call y method) (item.Call kind method ∷ [])) (ap (λ (y : InvokeKind × MethodKey). y.0) same) (here []); is = ap (λ (y : InvokeKind × MethodKey). y.1) same }
  insn_call (insn.Unary op to source) z k zs e = none_some (z, k) (ap call_in e)
  insn_call (insn.Binary op to a b) z k zs e = none_some (z, k) (ap call_in e)
  insn_call (insn.Literal op to a value) z k zs e = none_some (z, k) (ap call_in e)

  pub insn_new : (i : Insn) (to : ℕ) (t : Text) → form_of p i ≡ form.NewInstance to t → IsNew p i t
  insn_new insn.Nop z t e = none_some t (ap new_in e)
  insn_new (insn.Move slot to source) z t e = none_some t (ap new_in e)
  insn_new (insn.MoveResult slot to) z t e = none_some t (ap new_in e)
  insn_new (insn.MoveException to) z t e = none_some t (ap new_in e)
  insn_new insn.ReturnVoid z t e = none_some t (ap new_in e)
  insn_new (insn.Return slot source) z t e = none_some t (ap new_in e)
  insn_new (insn.Const to value) z t e = none_some t (ap new_in e)
  insn_new (insn.ConstWide to value) z t e = none_some t (ap new_in e)
  insn_new (insn.ConstString to string) z t e = none_some t (ap new_in e)
  insn_new (insn.ConstClass to kind) z t e = none_some t (ap new_in e)
  insn_new (insn.MonitorEnter on) z t e = none_some t (ap new_in e)
  insn_new (insn.MonitorExit on) z t e = none_some t (ap new_in e)
  insn_new (insn.CheckCast on kind) z t e = none_some t (ap new_in e)
  insn_new (insn.InstanceOf to source kind) z t e = none_some t (ap new_in e)
  insn_new (insn.ArrayLength to source) z t e = none_some t (ap new_in e)
  insn_new (insn.NewInstance to kind) z t e = record { number = kind; names = here []; is = some_same (type_at p kind) t (ap new_in e) }
  insn_new (insn.NewArray to size kind) z t e = none_some t (ap new_in e)
  insn_new (insn.FilledNewArray kind args) z t e = none_some t (ap new_in e)
  insn_new (insn.FillArray on width items) z t e = none_some t (ap new_in e)
  insn_new (insn.Throw on) z t e = none_some t (ap new_in e)
  insn_new (insn.Goto target) z t e = none_some t (ap new_in e)
  insn_new (insn.PackedSwitch on first targets) z t e = none_some t (ap new_in e)
  insn_new (insn.SparseSwitch on keys targets) z t e = none_some t (ap new_in e)
  insn_new (insn.Cmp op to a b) z t e = none_some t (ap new_in e)
  insn_new (insn.If test a b target) z t e = none_some t (ap new_in e)
  insn_new (insn.IfZero test a target) z t e = none_some t (ap new_in e)
  insn_new (insn.ArrayGet what to array index) z t e = none_some t (ap new_in e)
  insn_new (insn.ArrayPut what source array index) z t e = none_some t (ap new_in e)
  insn_new (insn.InstanceGet what to on field) z t e = none_some t (ap new_in e)
  insn_new (insn.InstancePut what source on field) z t e = none_some t (ap new_in e)
  insn_new (insn.StaticGet what to field) z t e = none_some t (ap new_in e)
  insn_new (insn.StaticPut what source field) z t e = none_some t (ap new_in e)
  insn_new (insn.Invoke kind method args) z t e = none_some t (ap new_in e)
  insn_new (insn.Unary op to source) z t e = none_some t (ap new_in e)
  insn_new (insn.Binary op to a b) z t e = none_some t (ap new_in e)
  insn_new (insn.Literal op to a value) z t e = none_some t (ap new_in e)

-- ---- the code of a marked method

-- a marked method of a number, with a body
pub record LiveCode (p : Program) (s : LiveSet) (k : MethodKey) (b : NamedBody) : Type 0 where
  pub number : ByNumber s.methods.items (length p.methods) (method_at p) k
  pub nm : NamedMethod
  pub own : OwnMethod p number.number nm
  pub body : Body
  pub is_body : own.method.body ≡ Some body
  pub is : body_of p body ≡ b

module _ (p : Program) (o : Outside) (s : LiveSet) (g : IsMarked p o s) where
  -- what follows from a marked thing is marked
  forced_met : (x : Fact) → is_live s x ≡ true → Met s (forced p g.closed.tables x)
  forced_met x live y i = g.closed.entails x y live (inl (contained y (forced p g.closed.tables x) i))

  pub field_facts_met : (n : ℕ) → is_live s (fact.Field n) ≡ true → Met s (field_facts p (bases_of p) n)
  field_facts_met n live = subst (λ b. Met s (field_facts p b n)) g.closed.are.bases (forced_met (fact.Field n) live)

  pub body_facts_met : (n : ℕ) → is_live s (fact.Method n) ≡ true → Met s (body_facts p (bases_of p) n)
  body_facts_met n live = subst (λ b. Met s (body_facts p b n)) g.closed.are.bases (forced_met (fact.Method n) live)

  pub class_facts_met : (n : ℕ) → is_live s (fact.Class n) ≡ true → Met s (class_facts p (bases_of p) n)
  class_facts_met n live = subst (λ b. Met s (class_facts p b n)) g.closed.are.bases
      (met_front p o s g (class_facts p g.closed.tables.bases.items n) (conditional p g.closed.tables n) (forced_met (fact.Class n) live))

  pub conditional_met : (n : ℕ) → is_live s (fact.Class n) ≡ true → Met s (conditional p g.closed.tables n)
  conditional_met n live = met_back p o s g (class_facts p g.closed.tables.bases.items n) (conditional p g.closed.tables n) (forced_met (fact.Class n) live)

  -- the code of a method by name is that of its number
  pub live_code : (k : MethodKey) (b : NamedBody) → HasBody (named p) (family_of p s) k b → LiveCode p s k b
  live_code k b h = by (defined_method (named p) k) refl h.1
    where
      m : ByNumber s.methods.items (length p.methods) (method_at p) k
      m = method_number p s k h.0

      by_body : (nm : NamedMethod) (own : OwnMethod p m.number nm) (x : Option Body) → own.method.body ≡ x → option_map (body_of p) x ≡ Some b → LiveCode p s k b
      by_body nm own None i e = none_some b e
      by_body nm own (Some body) i e = record { number = m; nm = nm; own = own; body = body; is_body = i; is = some_same (body_of p body) b e }

      by : (x : Option NamedMethod) → defined_method (named p) k ≡ x → option_and_then (λ m. m.body) x ≡ Some b → LiveCode p s k b
      by None i e = none_some b e
      by (Some nm) i e =
          let own = own_method p o s g m.number m.short nm (ap (defined_method (named p)) m.is ∙ i) in
          by_body nm own own.method.body refl (ap (λ z. z.body) own.is ∙ e)

  module _ (k : MethodKey) (b : NamedBody) (l : LiveCode p s k b) where
    pub named_met : Met s (all_named p (bases_of p) (names_of_method (follow.own_method p l.number.number)))
    named_met = met_back p o s g (method_types p (bases_of p) l.number.number) (all_named p (bases_of p) (names_of_method (follow.own_method p l.number.number))) (body_facts_met l.number.number l.number.marked)

    -- the names of its body are names of the method
    pub body_named : (x : Named) → In x (body_names l.body) → In x (names_of_method (follow.own_method p l.number.number))
    body_named x i = subst (λ z. In x (names_of_method z)) (sym l.own.own)
        (in_back x (marks_names l.own.method.marks) (flat_map marks_names l.own.method.parameter_marks ++ code_names l.own.method.body)
        (in_back x (flat_map marks_names l.own.method.parameter_marks) (code_names l.own.method.body)
        (subst (λ z. In x (code_names z)) (sym l.is_body) i)))

    pub code_held : NamesHeld p s (body_names l.body)
    code_held x i = all_held p o s g (names_of_method (follow.own_method p l.number.number)) named_met x (body_named x i)

    pub insn_named : (i : Insn) (x : Named) → In i l.body.insns → In x (insn_names i) → In x (body_names l.body)
    insn_named i x at j = in_front x (flat_map insn_names l.body.insns) (flat_map region_names l.body.regions) (in_flat insn_names i x l.body.insns at j)

    insn_held : (i : Insn) → In i l.body.insns → NamesHeld p s (insn_names i)
    insn_held i at x j = code_held x (insn_named i x at j)

    forms_are : map (form_of p) l.body.insns ≡ b.forms
    forms_are = ap (λ z. z.forms) l.is

    -- a form of the code is that of an instruction
    pub form_from : (f : Form) → In f b.forms → (i : Insn) × (In i l.body.insns × (form_of p i ≡ f))
    form_from f i = of_image (form_of p) f l.body.insns (subst (In f) (sym forms_are) i)

    form_types : (t : Text) (f : Form) → In f b.forms → In t (types_in f) → Held p s t
    form_types t f at i = let r = form_from f at in insn_types p s r.0 t (insn_held r.0 r.1.0) (subst (λ z. In t (types_in z)) (sym r.1.1) i)

    form_fields : (k : FieldKey) (f : Form) → In f b.forms → In k (fields_in f) → FieldHeld p s k
    form_fields k f at i = let r = form_from f at in insn_fields p s r.0 k (insn_held r.0 r.1.0) (subst (λ z. In k (fields_in z)) (sym r.1.1) i)

    handler_held : (h : Handler) (r : Region) → In r l.body.regions → In h r.handlers → Held p s (type_at p h.kind)
    handler_held h r at i = (code_held (item.Kind h.kind)
        (in_back (item.Kind h.kind) (flat_map insn_names l.body.insns) (flat_map region_names l.body.regions)
        (in_flat region_names r (item.Kind h.kind) l.body.regions at (in_flat handler_names h (item.Kind h.kind) r.handlers i (here []))))).types (type_at p h.kind) (here [])

    region_types : (t : Text) (x : NamedRegion) → In x b.regions → In t (map (λ h. h.kind) x.handlers) → Held p s t
    region_types t x at i =
        let r = of_image (region_of p) x l.body.regions (subst (In x) (sym (ap (λ z. z.regions) l.is)) at) in
        let h = of_image (λ h. h.kind) t x.handlers i in
        let z = of_image (handler_of p) h.0 r.0.handlers (subst (λ z. In h.0 z.handlers) (sym r.1.1) h.1.0) in
        subst (Held p s) (ap (λ z. z.kind) z.1.1 ∙ h.1.1) (handler_held z.0 r.0 r.1.0 z.1.0)

    pub body_types : (t : Text) → In t (types_in_body b) → Held p s t
    body_types t i = by (in_either t (flat_map types_in b.forms) (flat_map (λ r. map (λ h. h.kind) r.handlers) b.regions) i)
      where
        by : In t (flat_map types_in b.forms) ⊎ In t (flat_map (λ r. map (λ h. h.kind) r.handlers) b.regions) → Held p s t
        by (inl j) = let r = out_of_flat types_in t b.forms j in form_types t r.0 r.1.0 r.1.1
        by (inr j) = let r = out_of_flat (λ r. map (λ h. h.kind) r.handlers) t b.regions j in region_types t r.0 r.1.0 r.1.1

    pub body_fields : (k : FieldKey) → In k (fields_in_body b) → FieldHeld p s k
    body_fields k i = let r = out_of_flat fields_in k b.forms i in form_fields k r.0 r.1.0 r.1.1

    -- a call of the code is one of a number that it names
    pub call_from : (kind : InvokeKind) (m : MethodKey) (args : List ℕ) → Contains b.forms (form.Invoke kind m args) → (i : Insn) × (In i l.body.insns × IsCall p i kind m)
    call_from kind m args c = let r = form_from (form.Invoke kind m args) (stands b.forms (form.Invoke kind m args) c) in (r.0, (r.1.0, insn_call p s r.0 kind m args r.1.1))

    pub call_held : (kind : InvokeKind) (m : MethodKey) (args : List ℕ) → Contains b.forms (form.Invoke kind m args) → MethodHeld p s m
    call_held kind m args c =
        let r = call_from kind m args c in
        let is = r.1.1.is in
        (insn_held r.0 r.1.0 (item.Call kind r.1.1.number) r.1.1.names).methods m (subst (λ z. In m (z ∷ [])) (sym is) (here []))

  -- ---- the records

  pub keeps_types : KeepsTypes (named p) (family_of p s)
  keeps_types = record {
    fields = λ k live t c.
        let n = field_number p s k live in
        let at = subst (λ z. z ≡ t) (sym (ap (λ k. k.kind) n.is)) (only t k.kind (stands (k.kind ∷ []) t c)) in
        field_types_held p o s g n.number t (met_front p o s g (field_types p (bases_of p) n.number) (all_named p (bases_of p) (field_names (follow.own_field p n.number))) (field_facts_met n.number n.marked))
        (subst (λ z. In z ((field_at p n.number).class ∷ (field_at p n.number).kind ∷ [])) at (there (field_at p n.number).class ((field_at p n.number).kind ∷ []) (here [])));
    methods = λ k live t c.
        let n = method_number p s k live in
        method_types_held p o s g n.number t (met_front p o s g (method_types p (bases_of p) n.number) (all_named p (bases_of p) (names_of_method (follow.own_method p n.number))) (body_facts_met n.number n.marked))
        (there (method_at p n.number).class (types_of (method_at p n.number).signature) (subst (λ z. In t (types_of z.signature)) (sym n.is) (stands (types_of k.signature) t c)));
    bodies = λ k b h t c. body_types k b (live_code k b h) t (stands (types_in_body b) t c);
  }

  pub keeps_resolved : KeepsResolved (named p) (family_of p s)
  keeps_resolved = record {
    fields = λ m b h k f c e. body_fields m b (live_code m b h) k (stands (fields_in_body b) k c) f e;
    methods = λ m b kind k args h i k' f c e. call_held m b (live_code m b h) kind k' args (subst (λ z. Contains b.forms (form.Invoke kind z args)) (only k' k (stands (k ∷ []) k' c)) i) f e;
  }
