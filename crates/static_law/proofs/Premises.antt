-- What the laws of methods made static ask of tables and names, a well-formed program has.
use Rattle.std.proofs.Common.{◌≡◌, ℕ, zero, suc, ◌<◌, Bool, true, false, true≢false, List, [], ◌∷◌, map, length, Option, Some, None, refl, sym, ap, ◌∙◌, subst, arith}
use Rattle.std.specs.Prelude.{◌&&◌, slice_get, slice_index_or, is_ok, Contains}
use Rattle.std.specs.List.{list_all}
use Rattle.std.specs.Option.{option_map}
use Rattle.lemmas.proofs.Options.{none_some, some_same}
use Rattle.dex_base.specs.Descriptor.{descriptor_of}
use Rattle.insn_set.specs.declared.form.Insn.{Insn}
use Rattle.insn_set.specs.declared.form.Insn.TheVariants as insn
use Rattle.insn_set.specs.declared.ops.InvokeKind.{InvokeKind}
use Rattle.program_model.specs.OperandRules.{numbers_fit}
use Rattle.program_model.specs.TableRules.{type_fits}
use Rattle.program_model.specs.Texts.{has_string, has_type, has_method, string_text}
use Rattle.program_model.specs.declared.body.Body.{Body}
use Rattle.program_model.specs.declared.pass.Outside.{Outside}
use Rattle.program_model.specs.declared.pools.MethodName.{MethodName}
use Rattle.program_model.specs.declared.pools.Proto.{Proto}
use Rattle.program_model.specs.declared.program.Class.{Class}
use Rattle.program_model.specs.declared.program.Method.{Method}
use Rattle.program_model.specs.declared.program.Program.{Program}
use Rattle.class_defs.proofs.WellFormed.{MethodFits, class_parts}
use Rattle.dalvik_defs.specs.Face.{bodies_of}
use Rattle.dalvik_defs.specs.Names.{Text, method_eq}
use Rattle.dalvik_defs.specs.Naming.{body_of, form_of, method_at, named, named_class, named_method, signature_at, text_at, type_at}
use Rattle.dalvik_defs.specs.Outer.{outer_of}
use Rattle.dalvik_defs.specs.Silence.{key_in}
use Rattle.dalvik_defs.specs.Under.{class_named, defines}
use Rattle.dalvik_defs.specs.declared.forms.Form.{Form}
use Rattle.dalvik_defs.specs.declared.forms.Form.TheVariants as form
use Rattle.dalvik_defs.specs.declared.names.MethodKey.{MethodKey}
use Rattle.dalvik_defs.specs.declared.names.Signature.{Signature}
use Rattle.dalvik_defs.specs.declared.program.NamedBody.{NamedBody}
use Rattle.dalvik_defs.specs.declared.program.NamedClass.{NamedClass}
use Rattle.dalvik_defs.specs.declared.program.NamedMethod.{NamedMethod}
use Rattle.run_laws.specs.Holds.{Each}
use Rattle.name_bridge.proofs.Found.{text_same as same_text}
use Rattle.name_bridge.proofs.Tables.{Sound, and_right, all_at, below, entry_at, method_is, proto_parameters}
use Rattle.pass_defs.specs.Numbered.{tables_of}
use Rattle.pass_defs.specs.Numbered as numbered
use Rattle.pass_defs.specs.Walks.{form_at}
use Rattle.removal_law.specs.Left.{In, here, there}
use Rattle.removal_law.specs.Reach.{IsDescribed}
use Rattle.removal_law.proofs.CallsLeft.{BodyIn, body_in}
use Rattle.removal_law.proofs.Declared.{method_sound}
use Rattle.removal_law.proofs.Lists.{contained, in_map}
use Rattle.removal_law.proofs.Outward.{any_where}
use Rattle.removal_law.proofs.Trees.{class_in, class_name}
use Rattle.static_law.specs.Static.{AreInTables, NamesDescribed}
use Rattle.removal_bridge.proofs.Listed.{Image, image, method_fits_at}
use Rattle.static_law.proofs.Fitting.{body_of_code, insns_numbers, method_holds}
use Rattle.static_law.proofs.Programs.{in_from, mapped_at}

-- whether a form is a call, and the method that it names
abbrev is_call : Form → Bool
is_call (form.Invoke kind k args) = true
is_call f = false

abbrev called_key : MethodKey → Form → MethodKey
called_key x (form.Invoke kind k args) = k
called_key x f = x

abbrev method_of : Program → Option MethodName → MethodKey
method_of p o = elim o as (λ o. MethodKey) [ Some m ↦ record { class = type_at p m.class; name = text_at p m.name; signature = signature_at p m.proto } | None ↦ record { class = []; name = []; signature = record { parameters = []; result = [] } } ]

in_at : {A : Type 0} (xs : List A) (n : ℕ) (x : A) → slice_get xs n ≡ Some x → In x xs
in_at [] n x e = none_some x e
in_at (y ∷ ys) zero x e = subst (λ z. In z (y ∷ ys)) (some_same y x e) (here ys)
in_at (y ∷ ys) (suc n) x e = there y ys (in_at ys n x e)

each_at : {A : Type 0} (P : A → Type 0) (xs : List A) (n : ℕ) (x : A) → Each P xs → slice_get xs n ≡ Some x → P x
each_at P [] n x h e = none_some x e
each_at P (y ∷ ys) zero x h e = subst P (some_same y x e) h.0
each_at P (y ∷ ys) (suc n) x h e = each_at P ys n x h.1 e

module _ (p : Program) (s : Sound p) where
  -- ---- descriptors

  -- a type of the program has a descriptor
  type_described : (k : ℕ) → k < length p.types → is_ok (descriptor_of (type_at p k)) ≡ true
  type_described k low =
      let i = entry_at p.types k low in
      ap (λ (t : Text). is_ok (descriptor_of t)) (ap (λ (o : Option ℕ). elim o as (λ o. Text) [ Some t ↦ text_at p t | None ↦ [] ]) i.1 ∙ same_text p i.0)
      ∙ and_right (has_string p i.0) (is_ok (descriptor_of (string_text p i.0))) (all_at (type_fits p) p.types k i.0 s.types_fit i.1)

  parameter_described : (q : ℕ) (u : Text) → In u (signature_at p q).parameters → is_ok (descriptor_of u) ≡ true
  parameter_described q u i = by (slice_get p.protos q) refl i
    where
      by : (o : Option Proto) → slice_get p.protos q ≡ o
          → In u (elim o as (λ o. Signature) [ Some x ↦ record { parameters = map (type_at p) x.parameters; result = type_at p x.result } | None ↦ record { parameters = []; result = [] } ]).parameters → is_ok (descriptor_of u) ≡ true
      by (Some x) e j = let m = image (type_at p) x.parameters u (contained u (map (type_at p) x.parameters) j) in
          subst (λ (t : Text). is_ok (descriptor_of t) ≡ true) m.is (type_described m.entry (below m.entry (length p.types) (all_at (has_type p) x.parameters m.place m.entry (proto_parameters p s q x e) m.is_entry)))
      by None e j = elim j [ ]

  pub names_described : NamesDescribed (named p)
  names_described t d = by (class_named (named p) t) refl d
    where
      by : (o : Option NamedClass) → class_named (named p) t ≡ o → elim o as (λ o. Bool) [ Some c ↦ true | None ↦ false ] ≡ true → is_ok (descriptor_of t) ≡ true
      by None e i = absurd (true≢false (sym i))
      by (Some c) e i =
          let k = image (named_class p) p.classes c (contained c (named p).classes (class_in (named p) t c e)) in
          subst (λ (u : Text). is_ok (descriptor_of u) ≡ true) (ap (λ (c : NamedClass). c.name) k.is ∙ class_name (named p) t c e)
          (type_described k.entry.name (class_parts p s k.place k.entry k.is_entry).name)

  pub described : IsDescribed (named p)
  described t c m u e i j =
      let k = image (named_class p) p.classes c (contained c (named p).classes (class_in (named p) t c e)) in
      let x = image (named_method p) k.entry.methods m (subst (λ c. Contains c.methods m) (sym k.is) (contained m c.methods i)) in
      let fits = (class_parts p s k.place k.entry k.is_entry).methods x.place x.entry x.is_entry in
      parameter_described fits.entry.proto u (subst (λ g. In u g.parameters) (ap (λ z. z.signature) (sym x.is) ∙ ap (λ z. z.signature) (method_is p s x.entry.name fits.entry fits.is)) j)

  -- ---- the table of methods

  -- a number of the table names an entry of it
  named_in : (n : ℕ) (m : MethodName) → slice_get p.methods n ≡ Some m → In (method_at p n) (tables_of p).methods
  named_in n m e = subst (λ k. In k (tables_of p).methods) (sym (method_is p s n m e)) (in_map (numbered.method_of p) m p.methods (in_at p.methods n m e))

  defined_in : (t : Text) (c : NamedClass) (m : NamedMethod) → class_named (named p) t ≡ Some c → In m c.methods → In (key_in c m) (tables_of p).methods
  defined_in t c m e i =
      let k = image (named_class p) p.classes c (contained c (named p).classes (class_in (named p) t c e)) in
      let x = image (named_method p) k.entry.methods m (subst (λ c. Contains c.methods m) (sym k.is) (contained m c.methods i)) in
      let fits = (class_parts p s k.place k.entry k.is_entry).methods x.place x.entry x.is_entry in
      let key : key_in (named_class p k.entry) (named_method p x.entry) ≡ method_at p x.entry.name =
      ap (λ (t : Text). record (method_at p x.entry.name) { class = t }) (sym (ap (type_at p) fits.owner))
      ∙ (ap (λ (k : MethodKey). record k { class = type_at p fits.entry.class }) (method_is p s x.entry.name fits.entry fits.is) ∙ sym (method_is p s x.entry.name fits.entry fits.is)) in
      subst (λ k. In k (tables_of p).methods) (sym key ∙ (ap (λ m. key_in (named_class p k.entry) m) x.is ∙ ap (λ c. key_in c m) k.is)) (named_in x.entry.name fits.entry fits.is)

  -- a call of a body names an entry
  in_body : (b : Body) → Each (λ i. numbers_fit i p ≡ true) b.insns → (n : ℕ) (kind : InvokeKind) (k : MethodKey) (args : List ℕ) → form_at (body_of p b) n ≡ Some (form.Invoke kind k args) → In k (tables_of p).methods
  unfolding numbers_fit
  in_body b fits n kind k args e =
      let i = mapped_at (form_of p) b.insns n (form.Invoke kind k args) e in
      by i.0 (each_at (λ i. numbers_fit i p ≡ true) b.insns n i.0 fits i.1.0) i.1.1
    where
      by : (i : Insn) → numbers_fit i p ≡ true → form_of p i ≡ form.Invoke kind k args → In k (tables_of p).methods
      by (insn.Invoke kind' method args') h e =
          let m = entry_at p.methods method (below method (length p.methods) h) in
          subst (λ x. In x (tables_of p).methods) (ap (called_key (method_at p method)) e) (named_in method m.0 m.1)
      by insn.Nop h e = absurd (true≢false (sym (ap is_call e)))
      by (insn.Move slot to from) h e = absurd (true≢false (sym (ap is_call e)))
      by (insn.MoveResult slot to) h e = absurd (true≢false (sym (ap is_call e)))
      by (insn.MoveException to) h e = absurd (true≢false (sym (ap is_call e)))
      by insn.ReturnVoid h e = absurd (true≢false (sym (ap is_call e)))
      by (insn.Return slot from) h e = absurd (true≢false (sym (ap is_call e)))
      by (insn.Const to value) h e = absurd (true≢false (sym (ap is_call e)))
      by (insn.ConstWide to value) h e = absurd (true≢false (sym (ap is_call e)))
      by (insn.ConstString to string) h e = absurd (true≢false (sym (ap is_call e)))
      by (insn.ConstClass to kind) h e = absurd (true≢false (sym (ap is_call e)))
      by (insn.MonitorEnter on) h e = absurd (true≢false (sym (ap is_call e)))
      by (insn.MonitorExit on) h e = absurd (true≢false (sym (ap is_call e)))
      by (insn.CheckCast on kind) h e = absurd (true≢false (sym (ap is_call e)))
      by (insn.InstanceOf to from kind) h e = absurd (true≢false (sym (ap is_call e)))
      by (insn.ArrayLength to from) h e = absurd (true≢false (sym (ap is_call e)))
      by (insn.NewInstance to kind) h e = absurd (true≢false (sym (ap is_call e)))
      by (insn.NewArray to size kind) h e = absurd (true≢false (sym (ap is_call e)))
      by (insn.FilledNewArray kind args) h e = absurd (true≢false (sym (ap is_call e)))
      by (insn.FillArray on width items) h e = absurd (true≢false (sym (ap is_call e)))
      by (insn.Throw on) h e = absurd (true≢false (sym (ap is_call e)))
      by (insn.Goto target) h e = absurd (true≢false (sym (ap is_call e)))
      by (insn.PackedSwitch on first targets) h e = absurd (true≢false (sym (ap is_call e)))
      by (insn.SparseSwitch on keys targets) h e = absurd (true≢false (sym (ap is_call e)))
      by (insn.Cmp op to a b) h e = absurd (true≢false (sym (ap is_call e)))
      by (insn.If test a b target) h e = absurd (true≢false (sym (ap is_call e)))
      by (insn.IfZero test a target) h e = absurd (true≢false (sym (ap is_call e)))
      by (insn.ArrayGet item to array index) h e = absurd (true≢false (sym (ap is_call e)))
      by (insn.ArrayPut item from array index) h e = absurd (true≢false (sym (ap is_call e)))
      by (insn.InstanceGet item to on field) h e = absurd (true≢false (sym (ap is_call e)))
      by (insn.InstancePut item from on field) h e = absurd (true≢false (sym (ap is_call e)))
      by (insn.StaticGet item to field) h e = absurd (true≢false (sym (ap is_call e)))
      by (insn.StaticPut item from field) h e = absurd (true≢false (sym (ap is_call e)))
      by (insn.Unary op to from) h e = absurd (true≢false (sym (ap is_call e)))
      by (insn.Binary op to a b) h e = absurd (true≢false (sym (ap is_call e)))
      by (insn.Literal op to a value) h e = absurd (true≢false (sym (ap is_call e)))

  in_code : (i : ℕ) (c : Class) (e : slice_get p.classes i ≡ Some c) (j : ℕ) (m : Method) (f : slice_get c.methods j ≡ Some m) (b : NamedBody) → (named_method p m).body ≡ Some b
      → (n : ℕ) (kind : InvokeKind) (k : MethodKey) (args : List ℕ) → form_at b n ≡ Some (form.Invoke kind k args) → In k (tables_of p).methods
  in_code i c e j m f b g n kind k args h = by m.body refl g
    where
      by : (o : Option Body) → m.body ≡ o → option_map (body_of p) o ≡ Some b → In k (tables_of p).methods
      by None a d = none_some b d
      by (Some x) a d = in_body x (insns_numbers p x (body_of_code p m x a (method_holds p c.name m (method_fits_at p s i c e j m f)).code)) n kind k args
          (ap (λ b. form_at b n) (some_same (body_of p x) b d) ∙ h)

  -- a name with parameters stands in the table
  kept_in : (n : ℕ) (k : MethodKey) (t : Text) (ts : List Text) → method_at p n ≡ k → k.signature.parameters ≡ t ∷ ts → In k (tables_of p).methods
  kept_in n k t ts e g = by (slice_get p.methods n) refl
    where
      by : (o : Option MethodName) → slice_get p.methods n ≡ o → In k (tables_of p).methods
      by (Some m) i = subst (λ x. In x (tables_of p).methods) e (named_in n m i)
      by None i = absurd (none_there (t ∷ ts) (sym (ap (λ (o : Option MethodName). (method_of p o).signature.parameters) i) ∙ (ap (λ (k : MethodKey). k.signature.parameters) e ∙ g)))
        where
          none_there : (xs : List Text) → [] ≡ t ∷ ts → ⊥
          none_there xs h = true≢false (ap (λ (l : List Text). elim l as (λ l. Bool) [ [] ↦ true | u ∷ us ↦ false ]) h)

  pub in_tables : (o : Outside) → AreInTables (named p) (outer_of p o) (tables_of p).methods
  in_tables o = record {
    defined = defined_in;
    called = λ caller b n kind k args e i.
        let w = body_in (named p) caller b e in
        let c = image (named_class p) p.classes w.class (contained w.class (named p).classes w.class_in) in
        let m = image (named_method p) c.entry.methods w.method (subst (λ c. Contains c.methods w.method) (sym c.is) (contained w.method w.class.methods w.method_in)) in
        in_code c.place c.entry c.is_entry m.place m.entry m.is_entry b (ap (λ m. m.body) m.is ∙ w.body) n kind k args i;
    kept = λ k t ts e g. let r = any_where (λ n. method_eq (method_at p n) k) o.methods e in
        kept_in r.0 k t ts (method_sound (method_at p r.0) k r.1.1) g;
  }
