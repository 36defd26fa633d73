-- What comes back to a frame that waits, what lands in it, and classes that are initialised.
use Rattle.std.proofs.Common.{◌≡◌, ℕ, ◌+◌, Bool, true, false, true≢false, List, [], ◌∷◌, Option, Some, None, refl, sym, ap, ◌∙◌, subst}
use Rattle.std.specs.Prelude.{codes, ◌||◌, not, slice_get, is_some, Contains}
use Rattle.std.proofs.lemmas.Bool.{eqb-true}
use Rattle.std.specs.Option.{option_and_then}
use Rattle.insn_set.specs.declared.ops.Item.{Item}
use Rattle.insn_set.specs.declared.ops.InvokeKind.{InvokeKind}
use Rattle.dalvik_defs.proofs.Calm.{text_sound}
use Rattle.dalvik_defs.specs.Names.{same_name, texts_eq, signature_eq, Text, text_eq, is_void, is_word, is_wide, is_reference, is_class_type, initialiser_name, void}
use Rattle.dalvik_defs.specs.Face.{face_of, bodies_of}
use Rattle.dalvik_defs.specs.Under.{class_named}
use Rattle.dalvik_defs.specs.Flags.{is_static}
use Rattle.dalvik_defs.specs.Silence.{key_in}
use Rattle.dalvik_defs.specs.Outer.{Outer}
use Rattle.dalvik_defs.specs.State.{World, Classes, fresh, with_thing, next_object}
use Rattle.dalvik_defs.specs.Effect.{write_item, next}
use Rattle.dalvik_defs.specs.Stack.{form_at as form_of, receives, back, lands}
use Rattle.dalvik_defs.specs.Initialised.{initialiser_of, initialiser_in, initialiser_key, is_initialiser}
use Rattle.dalvik_defs.specs.Find.{method_in}
use Rattle.dalvik_defs.specs.declared.program.NamedClass.{NamedClass}
use Rattle.dalvik_defs.specs.declared.program.NamedMethod.{NamedMethod}
use Rattle.dalvik_defs.specs.declared.program.NamedBody.{NamedBody}
use Rattle.dalvik_defs.specs.declared.names.MethodKey.{MethodKey}
use Rattle.dalvik_defs.specs.declared.state.Value.{Value}
use Rattle.dalvik_defs.specs.declared.state.Frame.{Frame}
use Rattle.dalvik_defs.specs.declared.forms.Form.{Form}
use Rattle.dalvik_defs.specs.declared.forms.Form.TheVariants as form
use Rattle.dalvik_defs.specs.declared.tables.Floats.{Floats}
use Rattle.dalvik_defs.specs.declared.tables.Framework.{Framework}
use Rattle.dalvik_defs.specs.declared.program.NamedProgram.{NamedProgram}
use Rattle.dalvik_defs.specs.declared.state.Value.TheVariants.{Word}
use Rattle.pass_defs.specs.Walks.{onward}
use Rattle.pass_defs.specs.Kinds.{Kind, is_plain, kind_eq, is_number, is_initialised, kind_of_reference, fits}
use Rattle.pass_defs.specs.Kinds as kind
use Rattle.pass_defs.specs.Registers.{Kinds, written}
use Rattle.pass_defs.specs.Typed.{after, parameter_kinds, receiver_kind, wrong_item, wrong_field, wrong_first}
use Rattle.run_laws.specs.Invariant.{Above, Callee, Owing}
use Rattle.run_laws.proofs.Growing.{grows_same}
use Rattle.run_laws.proofs.Plain.{grown}
use Rattle.run_laws.proofs.Invariants.{Landed}
use Rattle.run_laws.specs.TypedStates.{AllHold, IsObject, KindHolds, ValueOf, MaybeOf, AskedOf, TypedFrame, TypedWaiting, TypedWorld}
use Rattle.run_laws.specs.Regular.{reads_value}
use Rattle.run_laws.proofs.Settled.{IsSettled}
use Rattle.run_laws.proofs.Registers.{and_left, and_right}
use Rattle.run_laws.proofs.Sorts.{Sorted, OfWord, OfWide, OfReference, OfNone, sorted}
use Rattle.run_laws.proofs.Climbs.{found_in_list, found_passes, class_in, none_some, some_one}
use Rattle.run_laws.proofs.Arrays.{true_false}
use Rattle.run_laws.proofs.Worlds.{typed_with, fresh_typed, new_object}
use Rattle.run_laws.proofs.Here.{own_body, get_contains, at_form, setting, states, At, go_to, landed}
use Rattle.run_laws.proofs.Forms.{first_in, or_left, held}
use Rattle.run_laws.proofs.FieldForms.{item_written}
use Rattle.run_laws.proofs.Calls.{Enter, entered, called_holds}

module _ (p : NamedProgram) (o : Outer) (f : Framework) (floats : Floats) (reg : IsSettled p) where
  module _ (w : World) (cs : Classes) (g : Frame) (tw : TypedWorld p f w) where
    -- what waits is a typed frame at its form
    waiting_at : (above : Above) (t : TypedWaiting p f w above g) → At p o f floats reg w g t.frame t.form
    waiting_at above t = let here = at_form p o f floats reg w g t.frame in subst (λ x. At p o f floats reg w g t.frame x) (some_one here.0 t.form (sym here.1.has ∙ t.has_form)) here.1

    its_form : (above : Above) (t : TypedWaiting p f w above g) → form_of (bodies_of p) g ≡ Some t.form
    its_form above t = ap (λ y. option_and_then (λ b. slice_get b.forms g.position) y) (ap (bodies_of p) t.frame.of ∙ t.frame.in_method.has_body) ∙ t.has_form

    pub lands_typed : (above : Above) → TypedWaiting p f w above g → (v : Value) → IsObject w v → Landed (setting p o f floats reg) (bodies_of p) (grown (setting p o f floats reg) (bodies_of p) (states p o f floats reg)) w cs (lands (face_of p f) (bodies_of p) w g v)
    lands_typed above t v h = landed p o f floats reg w g t.frame t.form (waiting_at above t) w cs (grows_same w w refl) v h t.throws

    module _ (t : TypedFrame p f w g) where
      abbrev class : Text
      class = t.in_method.class.name

      abbrev a : Kinds
      a = t.kinds

      abbrev n : ℕ
      n = g.position

      -- a call goes on with its result
      call_back : (ik : InvokeKind) (k : MethodKey) (args : List ℕ) → At p o f floats reg w g t (form.Invoke ik k args) → (v : Value) → ValueOf p f w k.signature.result v → TypedFrame p f w (next (record g { result = v }))
      call_back ik k args h v i = go_to p o f floats reg w g t (form.Invoke ik k args) h (n + 1) (first_in (n + 1) []) w (next (record g { result = v })) t.of refl (called_holds p o f floats reg w t.in_method.class t.in_method.class_in ik k args a g v t.holds (i class))

      void_kind : (u : Text) → is_void u ≡ true → kind.kind_of p u ≡ kind.Undefined
      void_kind [] e = absurd (true≢false (sym e))
      void_kind (x ∷ us) e = by (sorted p (x ∷ us))
        where
          no : {A : Type 0} (test : ℕ → Bool) → test x ≡ true → test 86 ≡ false → A
          no test i j = absurd (true≢false (sym i ∙ (ap test (eqb-true x 86 e) ∙ j)))

          by : Sorted p (x ∷ us) → kind.kind_of p (x ∷ us) ≡ kind.Undefined
          by (OfWord q b d j m) = no (λ y. is_word (y ∷ us)) q refl
          by (OfWide q b d j m) = no (λ y. is_wide (y ∷ us)) b refl
          by (OfReference q b d j m) = no (λ y. is_reference (y ∷ us)) d refl
          by (OfNone q b d j m) = j

      void_back : (ik : InvokeKind) (k : MethodKey) (args : List ℕ) → At p o f floats reg w g t (form.Invoke ik k args) → is_void k.signature.result ≡ true → TypedFrame p f w (next (record g { result = Word 0 }))
      void_back ik k args h e = go_to p o f floats reg w g t (form.Invoke ik k args) h (n + 1) (first_in (n + 1) []) w (next (record g { result = Word 0 })) t.of refl
          (called_holds p o f floats reg w t.in_method.class t.in_method.class_in ik k args a g (Word 0) t.holds (subst (λ q. KindHolds p f class w q (Word 0)) (sym (void_kind k.signature.result e)) tt))

      -- a field that is read has a type of values
      no_void : {A : Type 0} (x : Form) → At p o f floats reg w g t x → (u : Text) → reads_value x ≡ not (is_void u) → is_void u ≡ true → A
      no_void x h u l e = true_false (reg.regular.reads t.in_method.class t.in_method.method t.in_method.body x t.in_method.class_in t.in_method.method_in (own_body p o f floats reg w g t) (get_contains t.in_method.body.forms n x h.has)) (l ∙ ap not e)

      field_back : (x : Form) → At p o f floats reg w g t x → (i : Item) (to : ℕ) (u : Text) (v : Value) → wrong_item i u ≡ false → ValueOf p f w u v → after p t.in_method.class n x a ≡ written to (kind.kind_of p u) a → Contains (onward x n) (n + 1) → TypedFrame p f w (next (write_item i g to v))
      field_back x h i to u v wr held l c = (item_written p o f floats reg w cs g tw t x h i to u v None wr held l c).1

    back_with : (y : Option Form) (x : Form) → form_of (bodies_of p) g ≡ Some x → (v : Value) → TypedFrame p f w (receives (Some x) g v) → TypedFrame p f w (receives (form_of (bodies_of p) g) g v)
    back_with y x e v h = subst (λ y. TypedFrame p f w (receives y g v)) (sym e) h

    -- what a method of the program gives
    pub returns_typed : (k : MethodKey) → TypedWaiting p f w (Callee k) g → (y : Option Value) → MaybeOf p f w k.signature.result y → TypedFrame p f w (back (bodies_of p) g y)
    returns_typed k t y h = by t.asks y h
      where
        by : AskedOf p f t.form (Callee k) → (y : Option Value) → MaybeOf p f w k.signature.result y → TypedFrame p f w (back (bodies_of p) g y)
        by (ik, (m, (args, (e, s)))) (Some v) h = back_with (Some t.form) (form.Invoke ik m args) (its_form (Callee k) t ∙ ap Some e) v (call_back t.frame ik m args (subst (λ x. At p o f floats reg w g t.frame x) e (waiting_at (Callee k) t)) v (subst (λ s. ValueOf p f w s.result v) (sym s) h))
        by (ik, (m, (args, (e, s)))) None h = void_back t.frame ik m args (subst (λ x. At p o f floats reg w g t.frame x) e (waiting_at (Callee k) t)) (subst (λ s. is_void s.result ≡ true) (sym s) h)

    -- what the framework answers
    pub answers_typed : (u : Text) → TypedWaiting p f w (Owing u) g → (y : Option Value) → MaybeOf p f w u y → TypedFrame p f w (back (bodies_of p) g y)
    answers_typed u t y h = by t.form (waiting_at (Owing u) t) (its_form (Owing u) t) t.asks y h
      where
        by : (x : Form) → At p o f floats reg w g t.frame x → form_of (bodies_of p) g ≡ Some x → AskedOf p f x (Owing u) → (y : Option Value) → MaybeOf p f w u y → TypedFrame p f w (back (bodies_of p) g y)
        by (form.Invoke ik k args) a e s (Some v) h = back_with None (form.Invoke ik k args) e v (call_back t.frame ik k args a v (subst (λ s. ValueOf p f w s v) (sym s) h))
        by (form.Invoke ik k args) a e s None h = void_back t.frame ik k args a (subst (λ s. is_void s ≡ true) (sym s) h)
        by (form.InstanceGet i to on k) a e s (Some v) h = back_with None (form.InstanceGet i to on k) e v (field_back t.frame (form.InstanceGet i to on k) a i to k.kind v (or_left (wrong_item i k.kind) (wrong_field p false k) a.right) (subst (λ s. ValueOf p f w s v) (sym s) h) refl (first_in (g.position + 1) []))
        by (form.InstanceGet i to on k) a e s None h = no_void t.frame (form.InstanceGet i to on k) a k.kind refl (subst (λ s. is_void s ≡ true) (sym s) h)
        by (form.StaticGet i to k) a e s (Some v) h = back_with None (form.StaticGet i to k) e v (field_back t.frame (form.StaticGet i to k) a i to k.kind v (or_left (wrong_item i k.kind) (wrong_field p true k) (or_left (wrong_item i k.kind || wrong_field p true k) (wrong_first p k) a.right)) (subst (λ s. ValueOf p f w s v) (sym s) h) refl (first_in (g.position + 1) []))
        by (form.StaticGet i to k) a e s None h = no_void t.frame (form.StaticGet i to k) a k.kind refl (subst (λ s. is_void s ≡ true) (sym s) h)
        by x a e s y h = absurd s

  -- ---- classes

  pub faults_typed : (w : World) (u : Text) → is_class_type u ≡ true → TypedWorld p f w → TypedWorld p f (with_thing w (fresh u)) × IsObject (with_thing w (fresh u)) (next_object w)
  faults_typed w u e tw = (typed_with p f w (fresh u) tw (fresh_typed p f w u e), new_object w (fresh u))

  pub initialiser_typed : (w : World) (cs : Classes) (u : Text) (k : MethodKey) → initialiser_of p u ≡ Some k → Enter p o f floats reg w cs k [] (bodies_of p k)
  initialiser_typed w cs u k e = by (class_named p u) refl e
    where
      in_class : (c : NamedClass) → Contains p.classes c → (y : Option NamedMethod) → method_in c initialiser_name void ≡ y → (elim y as (λ y. Option MethodKey) [ Some m ↦ elim (is_initialiser m) as (λ b. Option MethodKey) [ true ↦ Some (initialiser_key c.name) | false ↦ None ] | None ↦ None ]) ≡ Some k → Enter p o f floats reg w cs k [] (bodies_of p k)
      in_class c ci None i j = none_some k j
      in_class c ci (Some m) i j = one (is_initialiser m) refl j
        where
          same : same_name m.name m.signature initialiser_name void ≡ true
          same = found_passes (λ m. same_name m.name m.signature initialiser_name void) c.methods m i

          name : m.name ≡ initialiser_name
          name = text_sound m.name initialiser_name (and_left (text_eq m.name initialiser_name) (signature_eq m.signature void) same)

          sig : signature_eq m.signature void ≡ true
          sig = and_right (text_eq m.name initialiser_name) (signature_eq m.signature void) same

          none : (ps : List Text) → texts_eq ps [] ≡ true → ps ≡ []
          none [] e = refl
          none (x ∷ xs) e = absurd (true≢false (sym e))

          params : m.signature.parameters ≡ []
          params = none m.signature.parameters (and_right (text_eq m.signature.result (codes "V")) (texts_eq m.signature.parameters []) sig)

          result : m.signature.result ≡ codes "V"
          result = text_sound m.signature.result (codes "V") (and_left (text_eq m.signature.result (codes "V")) (texts_eq m.signature.parameters []) sig)

          whole : m.signature ≡ void
          whole = ap (λ r. record { parameters = m.signature.parameters; result = r }) result ∙ ap (λ ps. record { parameters = ps; result = codes "V" }) params

          key : initialiser_key c.name ≡ key_in c m
          key = ap (λ s. record { class = c.name; name = initialiser_name; signature = s }) (sym whole) ∙ ap (λ n. record { class = c.name; name = n; signature = m.signature }) (sym name)

          bodied : (y : Option NamedBody) → m.body ≡ y → is_static m.flags ≡ true → is_some m.body ≡ true → k ≡ key_in c m → Enter p o f floats reg w cs k [] (bodies_of p k)
          bodied None i st so ke = absurd (true≢false (sym so ∙ ap (λ y. is_some y) i))
          bodied (Some b) ib st so ke = entered p o f floats reg w cs c m b k [] ci (found_in_list (λ m. same_name m.name m.signature initialiser_name void) c.methods m i) ib ke
              (subst (λ b. AllHold p f c.name w (elim b as (λ b. List Kind) [ true ↦ parameter_kinds p m.signature.parameters | false ↦ receiver_kind c m ∷ parameter_kinds p m.signature.parameters ]) []) (sym st) (subst (λ ps. AllHold p f c.name w (parameter_kinds p ps) []) (sym params) tt))

          one : (b : Bool) → is_initialiser m ≡ b → (elim b as (λ b. Option MethodKey) [ true ↦ Some (initialiser_key c.name) | false ↦ None ]) ≡ Some k → Enter p o f floats reg w cs k [] (bodies_of p k)
          one true q j = bodied m.body refl (and_left (is_static m.flags) (is_some m.body) q) (and_right (is_static m.flags) (is_some m.body) q) (sym (some_one (initialiser_key c.name) k j) ∙ key)
          one false q j = none_some k j

      by : (y : Option NamedClass) → class_named p u ≡ y → (elim y as (λ y. Option MethodKey) [ Some c ↦ initialiser_in c | None ↦ None ]) ≡ Some k → Enter p o f floats reg w cs k [] (bodies_of p k)
      by None i j = none_some k j
      by (Some c) i j = in_class c (class_in p u c i) (method_in c initialiser_name void) refl j
