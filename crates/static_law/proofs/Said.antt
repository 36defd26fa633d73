-- Of the program in which methods are static, calls on the framework and new objects are those of the program.
use Rattle.std.proofs.Common.{◌≡◌, ℕ, zero, suc, Bool, true, false, true≢false, List, [], ◌∷◌, map, Option, Some, None, refl, sym, ap, ◌∙◌, subst}
use Rattle.std.specs.Prelude.{◌&&◌, ◌||◌, not, slice_get, if◌then◌else◌}
use Rattle.std.specs.List.{list_any}
use Rattle.std.specs.Option.{option_and_then, option_map}
use Rattle.lemmas.proofs.Bools.{untrue}
use Rattle.lemmas.proofs.Options.{before_map}
use Rattle.insn_set.specs.declared.ops.InvokeKind.{InvokeKind}
use Rattle.insn_set.specs.declared.ops.InvokeKind.TheVariants as call
use Rattle.dalvik_defs.specs.Face.{bodies_of}
use Rattle.dalvik_defs.specs.Find.{Found, method_in}
use Rattle.dalvik_defs.specs.Names.{Text, object_type, same_name, text_eq}
use Rattle.dalvik_defs.specs.Outer.{Outer}
use Rattle.dalvik_defs.specs.Shut.{called_outside, names_outside}
use Rattle.dalvik_defs.specs.Silence.{key_in}
use Rattle.dalvik_defs.specs.Under.{class_named, defines}
use Rattle.dalvik_defs.specs.declared.forms.Form.{Form}
use Rattle.dalvik_defs.specs.declared.forms.Form.TheVariants as form
use Rattle.dalvik_defs.specs.declared.names.MethodKey.{MethodKey}
use Rattle.dalvik_defs.specs.declared.names.Signature.{Signature}
use Rattle.dalvik_defs.specs.declared.program.NamedBody.{NamedBody}
use Rattle.dalvik_defs.specs.declared.program.NamedClass.{NamedClass}
use Rattle.dalvik_defs.specs.declared.program.NamedMethod.{NamedMethod}
use Rattle.dalvik_defs.specs.declared.program.NamedProgram.{NamedProgram}
use Rattle.pass_defs.specs.Loose.{called_statically, new_key, resolved, static_body, staticised}
use Rattle.pass_defs.specs.Walks.{form_at}
use Rattle.removal_law.specs.Left.{In, here, there}
use Rattle.removal_law.specs.Reach.{NamesOnce, TellsApart, is_new, makes_new}
use Rattle.removal_law.proofs.Lists.{and_left}
use Rattle.removal_law.proofs.Outward.{any_here, any_where}
use Rattle.program_laws.specs.Remade.{Remethod, SameMethods, remade}
use Rattle.program_laws.proofs.Remade.{defines_same}
use Rattle.static_law.specs.Static.{AreInTables, IsSound, made_static}
use Rattle.static_law.proofs.Declared.{from_map, itself}
use Rattle.static_law.proofs.Left.{ClassWas, MethodWas, body_is, class_was, method_was}

placed_at : {A : Type 0} (xs : List A) (x : A) → In x xs → (i : ℕ) × (slice_get xs i ≡ Some x)
placed_at [] x i = elim i [ ]
placed_at (y ∷ ys) x (here zs) = (0, refl)
placed_at (y ∷ ys) x (there z zs i) = let r = placed_at ys x i in (suc r.0, r.1)

module _ (p : NamedProgram) (loose : MethodKey → Bool) (names : NamesOnce p) (new : Remethod) (same : SameMethods new (staticised p loose)) where
  abbrev pub left : NamedProgram
  left = remade new (staticised p loose)

  pub defines_left : defines left ≡ defines p
  defines_left = defines_same new (staticised p loose) ∙ defines_same (made_static p loose) p

  -- ---- forms that a test is true of

  abbrev any_form : (Form → Bool) → Option NamedBody → Bool
  any_form test o = elim o as (λ o. Bool) [ Some b ↦ list_any test b.forms | None ↦ false ]

  abbrev any_in : (Form → Bool) → List NamedClass → Bool
  any_in test cs = list_any (λ (c : NamedClass). list_any (λ (m : NamedMethod). any_form test m.body) c.methods) cs

  -- a form of the program
  pub record Came (test : Form → Bool) : Type 0 where
    pub class : NamedClass
    pub method : NamedMethod
    pub body : NamedBody
    pub form : Form
    pub class_in : In class p.classes
    pub method_in : In method class.methods
    pub has : method.body ≡ Some body
    pub form_in : In form body.forms
    pub passes : test (called_statically p loose (resolved p form) form) ≡ true

  pub came : (test : Form → Bool) → any_in test left.classes ≡ true → Came test
  came test e =
      let c = any_where (λ (c : NamedClass). list_any (λ (m : NamedMethod). any_form test m.body) c.methods) left.classes e in
      let w = class_was p loose names new same c.0 c.1.0 in
      let m = any_where (λ (m : NamedMethod). any_form test m.body) c.0.methods c.1.1 in
      let x = method_was p loose names new same c.0 w m.0 m.1.0 in
      in_body w x.method x.is_in x.method.body refl (ap (any_form test) (sym (body_is p loose names new same w.class x.method) ∙ ap (λ (y : NamedMethod). y.body) x.is) ∙ m.1.1)
    where
      in_body : {d : NamedClass} (w : ClassWas p loose names new same d) (m : NamedMethod) → In m w.class.methods → (o : Option NamedBody) → m.body ≡ o → any_form test (option_map (static_body p loose) m.body) ≡ true → Came test
      in_body w m i None h t = absurd (true≢false (sym t ∙ ap (λ o. any_form test (option_map (static_body p loose) o)) h))
      in_body w m i (Some b) h t =
          let f = any_where test (static_body p loose b).forms (sym (ap (λ o. any_form test (option_map (static_body p loose) o)) h) ∙ t) in
          let g = from_map (λ f. called_statically p loose (resolved p f) f) b.forms f.0 f.1.0 in
          record { class = w.class; method = m; body = b; form = g.source; class_in = w.is_in; method_in = i; has = h; form_in = g.is_in; passes = ap test g.image ∙ f.1.1 }

  pub stands : (test other : Form → Bool) (c : Came test) → other c.form ≡ true → any_in other p.classes ≡ true
  stands test other c e =
      any_here (λ (c : NamedClass). list_any (λ (m : NamedMethod). any_form other m.body) c.methods) c.class p.classes c.class_in
      (any_here (λ (m : NamedMethod). any_form other m.body) c.method c.class.methods c.method_in (ap (any_form other) c.has ∙ any_here other c.form c.body.forms c.form_in e))

  -- ---- calls on the framework

  outside_call : (n : Text) (g : Signature) (kind : InvokeKind) (k : MethodKey) (args : List ℕ) → names_outside left n g (form.Invoke kind k args) ≡ true → names_outside p n g (form.Invoke kind k args) ≡ true
  outside_call n g call.Virtual k args e = sym (ap (λ (d : Text → Bool). same_name k.name k.signature n g && not (d k.class) && not (text_eq k.class object_type)) defines_left) ∙ e
  outside_call n g call.Interface k args e = sym (ap (λ (d : Text → Bool). same_name k.name k.signature n g && not (d k.class) && not (text_eq k.class object_type)) defines_left) ∙ e
  outside_call n g call.Direct k args e = absurd (true≢false (sym e))
  outside_call n g call.Super k args e = absurd (true≢false (sym e))
  outside_call n g call.Static k args e = absurd (true≢false (sym e))

  outside_found : (n : Text) (g : Signature) (kind : InvokeKind) (k : MethodKey) (args : List ℕ) (x : Option Found) → names_outside left n g (called_statically p loose x (form.Invoke kind k args)) ≡ true → names_outside p n g (form.Invoke kind k args) ≡ true
  outside_found n g kind k args None e = outside_call n g kind k args e
  outside_found n g kind k args (Some f) e = by (loose f.key) e
    where
      by : (b : Bool) → names_outside left n g (if b then form.Invoke call.Static (new_key f.key) args else form.Invoke kind k args) ≡ true → names_outside p n g (form.Invoke kind k args) ≡ true
      by true h = absurd (true≢false (sym h))
      by false h = outside_call n g kind k args h

  pub outside_form : (n : Text) (g : Signature) (f : Form) → names_outside left n g (called_statically p loose (resolved p f) f) ≡ true → names_outside p n g f ≡ true
  outside_form n g (form.Invoke kind k args) e = outside_found n g kind k args (resolved p (form.Invoke kind k args)) e
  outside_form n g f e = absurd (true≢false (sym e))

  -- ---- new objects

  new_found : (t : Text) (kind : InvokeKind) (k : MethodKey) (args : List ℕ) (x : Option Found) → is_new t (called_statically p loose x (form.Invoke kind k args)) ≡ true → ⊥
  new_found t kind k args None e = true≢false (sym e)
  new_found t kind k args (Some f) e = by (loose f.key) e
    where
      by : (b : Bool) → is_new t (if b then form.Invoke call.Static (new_key f.key) args else form.Invoke kind k args) ≡ true → ⊥
      by true h = true≢false (sym h)
      by false h = true≢false (sym h)

  new_form : (t : Text) (f : Form) → is_new t (called_statically p loose (resolved p f) f) ≡ true → is_new t f ≡ true
  new_form t (form.Invoke kind k args) e = absurd (new_found t kind k args (resolved p (form.Invoke kind k args)) e)
  new_form t (form.NewInstance to kind) e = e
  new_form t f e = absurd (true≢false (sym e))

  pub makes_before : (t : Text) → makes_new left t ≡ true → makes_new p t ≡ true
  makes_before t e = let c = came (is_new t) e in stands (is_new t) (is_new t) c (new_form t c.form c.passes)

  -- ---- a call on the framework, and the table that it names an entry of

  pub outside_before : (n : Text) (g : Signature) → called_outside left n g ≡ true → called_outside p n g ≡ true
  outside_before n g e = let c = came (names_outside left n g) e in stands (names_outside left n g) (names_outside p n g) c (outside_form n g c.form c.passes)

  -- what it names
  pub record Names (n : Text) (g : Signature) (methods : List MethodKey) : Type 0 where
    pub key : MethodKey
    pub is_in : In key methods
    pub is_same : same_name key.name key.signature n g ≡ true

  module _ (o : Outer) (methods : List MethodKey) (in_tables : AreInTables p o methods) (sound : IsSound p loose) (tells : TellsApart p) where
    named_in : (test : Form → Bool) (n : Text) (g : Signature) (c : Came test) (kind : InvokeKind) (k : MethodKey) (args : List ℕ) → c.form ≡ form.Invoke kind k args → names_outside p n g (form.Invoke kind k args) ≡ true → Names n g methods
    named_in test n g c kind k args e h = record { key = k; is_in = in_tables.called (key_in c.class c.method) c.body at.0 kind k args has (at.1 ∙ ap Some e); is_same = by kind h }
      where
        at : (i : ℕ) × (slice_get c.body.forms i ≡ Some c.form)
        at = placed_at c.body.forms c.form c.form_in

        has : bodies_of p (key_in c.class c.method) ≡ Some c.body
        has = ap (λ (x : Option NamedClass). option_and_then (λ (m : NamedMethod). m.body) (elim x as (λ o. Option NamedMethod) [ Some d ↦ method_in d c.method.name c.method.signature | None ↦ None ])) (names c.class c.class_in)
            ∙ (ap (option_and_then (λ (m : NamedMethod). m.body)) (itself p loose sound tells c.class.name c.class c.method (names c.class c.class_in) c.method_in) ∙ c.has)

        by : (kind : InvokeKind) → names_outside p n g (form.Invoke kind k args) ≡ true → same_name k.name k.signature n g ≡ true
        by call.Virtual h = and_left (same_name k.name k.signature n g) (not (defines p k.class)) (and_left (same_name k.name k.signature n g && not (defines p k.class)) (not (text_eq k.class object_type)) h)
        by call.Interface h = and_left (same_name k.name k.signature n g) (not (defines p k.class)) (and_left (same_name k.name k.signature n g && not (defines p k.class)) (not (text_eq k.class object_type)) h)
        by call.Direct h = absurd (true≢false (sym h))
        by call.Super h = absurd (true≢false (sym h))
        by call.Static h = absurd (true≢false (sym h))

    named_by : (test : Form → Bool) (n : Text) (g : Signature) (c : Came test) (f : Form) → c.form ≡ f → names_outside p n g f ≡ true → Names n g methods
    named_by test n g c (form.Invoke kind k args) e h = named_in test n g c kind k args e h
    named_by test n g c f e h = absurd (true≢false (sym h))

    pub outside_named : (n : Text) (g : Signature) → called_outside left n g ≡ true → Names n g methods
    outside_named n g e = let c = came (names_outside left n g) e in named_by (names_outside left n g) n g c c.form refl (outside_form n g c.form c.passes)
