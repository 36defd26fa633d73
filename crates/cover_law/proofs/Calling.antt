-- Calls keep a frame covered: what they enter is covered at its entry, and what leaves the program is awaited.
use Rattle.std.proofs.Common.{◌≡◌, ℕ, zero, suc, ◌+◌, ◌<◌, Bool, true, false, true≢false, List, [], ◌∷◌, Option, Some, None, ◌⊎◌, inl, inr, refl, sym, ap, ◌∙◌, subst, arith}
use Rattle.std.specs.Prelude.{codes, ◌&&◌, not, map, slice_get, is_some, Contains, if◌then◌else◌}
use Rattle.std.specs.List.{list_all}
use Rattle.insn_set.specs.declared.ops.InvokeKind.{InvokeKind}
use Rattle.insn_set.specs.declared.ops.InvokeKind.TheVariants as call
use Rattle.dalvik_defs.proofs.Calm.{text_sound}
use Rattle.dalvik_defs.specs.Names.{Text, text_eq, texts_eq, signature_eq, method_eq, object_type, object_constructor}
use Rattle.dalvik_defs.specs.Flags.{is_static, is_native, is_interface}
use Rattle.dalvik_defs.specs.Known.{null_pointer, abstract_method, class_change}
use Rattle.dalvik_defs.specs.Under.{class_named, defines, is_under}
use Rattle.dalvik_defs.specs.Find.{Found, Search, Nothing, Clash, Finds, finds_statically, finds_super, finds_at}
use Rattle.dalvik_defs.specs.Face.{face_of, bodies_of, finds_virtually}
use Rattle.dalvik_defs.specs.Outer.{Outer}
use Rattle.dalvik_defs.specs.State.{World, Classes, Thing, Instance, Items, is_null, kind_of, kind_of_thing}
use Rattle.dalvik_defs.specs.Show.{show_all}
use Rattle.dalvik_defs.specs.Effect.{register, next}
use Rattle.dalvik_defs.specs.Outcome.{Outcome, Stays, Enters, Need, need_of, faults, when_ready, passed_types, calls_out, native_kind, takes_no_receiver, calls_uncoded, calls_found, calls_ready, calls_unfound, calls_by, receiver, on_receiver, calls}
use Rattle.dalvik_defs.specs.declared.state.Value.{Value}
use Rattle.dalvik_defs.specs.declared.state.Value.TheVariants.{Word, Low, High, Object, Literal, Class}
use Rattle.dalvik_defs.specs.declared.state.Frame.{Frame}
use Rattle.dalvik_defs.specs.declared.names.MethodKey.{MethodKey}
use Rattle.dalvik_defs.specs.declared.forms.Form.{Form}
use Rattle.dalvik_defs.specs.declared.forms.Form.TheVariants as form
use Rattle.dalvik_defs.specs.declared.program.NamedBody.{NamedBody}
use Rattle.dalvik_defs.specs.declared.program.NamedClass.{NamedClass}
use Rattle.dalvik_defs.specs.declared.program.NamedProgram.{NamedProgram}
use Rattle.dalvik_defs.specs.declared.tables.Floats.{Floats}
use Rattle.dalvik_defs.specs.declared.tables.Framework.{Framework}
use Rattle.pass_defs.specs.Analysis.{Analysis, IsRanged}
use Rattle.pass_defs.specs.Calls.{is_within}
use Rattle.run_facts.specs.Closed.{At, IsBound, IsEntered, MayBe, MayCall, Statically, Directly, Above, Virtually, ByInterface, FindsNoCode, MayFindNoCode, MayLeave}
use Rattle.pass_defs.specs.Facts.{Facts, IsEnteredOn, needs, static_class}
use Rattle.pass_defs.specs.Kinds.{is_plain}
use Rattle.pass_defs.specs.Kinds as kind
use Rattle.pass_defs.specs.Live.{IsMade, unconditional}
use Rattle.pass_defs.specs.Typed.{finds_static, is_static_call, words_of}
use Rattle.pass_defs.specs.Demands.{Constructed, Fits, is_constructed, is_constructor_name, meets, passed}
use Rattle.pass_defs.specs.Registers.{kind_at}
use Rattle.run_laws.specs.Invariant.{Callee, Owing}
use Rattle.run_laws.proofs.Fine.{each_get, each_or}
use Rattle.run_laws.proofs.Growing.{grows_same}
use Rattle.run_laws.proofs.Stacked.{EnteredOver}
use Rattle.run_facts.specs.Covered.{Sees, CoversTop, CoversWorld, AwaitsCall, Used}
use Rattle.run_laws.specs.TypedStates.{KindHolds, TypedFrame, TypedWorld}
use Rattle.run_laws.proofs.Settled.{IsSettled, IsFound, FindsRegularly}
use Rattle.run_laws.proofs.Registers.{and_left, and_right}
use Rattle.run_laws.proofs.Climbs.{none_some, some_one, or_cases, under_self, step_up, defined_by, plain_by, plain_defined}
use Rattle.run_laws.proofs.Arrays.{true_false}
use Rattle.run_laws.proofs.Calls.{right_method, right_super, own_class, virtual_object, virtual_flags}
use Rattle.run_laws.proofs.FieldForms.{fitting}
use Rattle.run_laws.proofs.Forms.{first_in, or_right, reg_held}
use Rattle.run_laws.proofs.Here.{setting, get_contains}
use Rattle.cover_law.proofs.Ready.{IsReady}
use Rattle.cover_law.specs.Known.{KnownFrame, KnownWorld, MadeThing}
use Rattle.cover_law.proofs.Along.{Looks}
use Rattle.cover_law.proofs.Given.{defined_under, made_under}
use Rattle.cover_law.proofs.Reading.{enough}
use Rattle.cover_law.proofs.Standing.{gone_on}
use Rattle.cover_law.proofs.Entering.{Passes, entry_top, nothing_behind}
use Rattle.cover_law.proofs.Worlds.{same_world, same_all}
use Rattle.cover_law.proofs.Stays.{below, covers, Leads, Is, kept, there, arrays, here, faulted, looks}
use Rattle.cover_law.proofs.Waiting.{waits, readied, used_on}

-- ---- look-ups

some_named : (p : NamedProgram) (t : Text) → defines p t ≡ true → is_some (class_named p t) ≡ true
some_named p t e = by (class_named p t) e
  where
    by : (y : Option NamedClass) → (elim y as (λ y. Bool) [ Some c ↦ true | None ↦ false ]) ≡ true → is_some y ≡ true
    by (Some c) i = refl
    by None i = absurd (true≢false (sym i))

-- ---- made objects

pub made_kind : (p : NamedProgram) (o : Outer) (reg : IsSettled p) (w : World) → KnownWorld p o w → (v : Value) → defines p (kind_of w v) ≡ true → IsMade p o unconditional (kind_of w v)
made_kind p o reg w kw (Object m) d = by (slice_get w.heap m) refl d
  where
    by : (y : Option Thing) → slice_get w.heap m ≡ y → defines p (elim y as (λ y. Text) [ Some th ↦ kind_of_thing th | None ↦ [] ]) ≡ true → IsMade p o unconditional (elim y as (λ y. Text) [ Some th ↦ kind_of_thing th | None ↦ [] ])
    by None i d = absurd (true≢false (sym (reg.regular.class_types [] d)))
    by (Some (Instance c fs)) i d = each_get (MadeThing p o) w.heap m (Instance c fs) kw.made i d
    by (Some (Items k vs)) i d = absurd (true≢false (sym (reg.regular.class_types (91 ∷ k) d)))
made_kind p o reg w kw (Literal s) d = true_false d reg.texts
made_kind p o reg w kw (Class s) d = true_false d reg.classes
made_kind p o reg w kw (Word m) d = absurd (true≢false (sym (reg.regular.class_types [] d)))
made_kind p o reg w kw (Low m) d = absurd (true≢false (sym (reg.regular.class_types [] d)))
made_kind p o reg w kw (High m) d = absurd (true≢false (sym (reg.regular.class_types [] d)))

arg_at : (g : Frame) (rs : List ℕ) (i : ℕ) (v : Value) → slice_get (map (register g) rs) i ≡ Some v → (r : ℕ) × ((slice_get rs i ≡ Some r) × (register g r ≡ v))
arg_at g [] i v e = none_some v e
arg_at g (r ∷ rs) zero v e = (r, (refl, some_one (register g r) v e))
arg_at g (r ∷ rs) (suc i) v e = arg_at g rs i v e

module _ {V : Type 0} (a : Analysis V) (p : NamedProgram) (o : Outer) (f : Framework) (floats : Floats) (facts : Facts V) (base : IsReady a p o f floats facts) (reg : IsSettled p) (finds : FindsRegularly p f) where
  module _ (w : World) (cs : Classes) (g : Frame) (tw : TypedWorld p f w) (kw : KnownWorld p o w) (cw : CoversWorld a p o facts w) (t : TypedFrame p f w g) (kg : KnownFrame p o g) (top : CoversTop a p o facts w g) where
    abbrev L : Outcome → Type 0
    L = Leads a p o f floats facts base reg w cs g tw kw cw t kg top

    abbrev I : Form → Type 0
    I = Is a p o f floats facts base reg w cs g tw kw cw t kg top

    abbrev x : ℕ → V
    x = top.stands.registers

    abbrev S : V → World → Value → Type 0
    S = Sees a p o facts

    abbrev need : Text → Need
    need = need_of (face_of p f) cs

    abbrev class : Text
    class = g.method.class

    module _ (ik : InvokeKind) (k : MethodKey) (args : List ℕ) (h : I (form.Invoke ik k args)) where
      abbrev y : Form
      y = form.Invoke ik k args

      abbrev vs : List Value
      vs = map (register g) args

      abbrev at_y : At a p facts g.method g.position
      at_y = here a p o f floats facts base reg w cs g tw kw cw t kg top y h

      -- the receiver isn't null, where there is one
      abbrev Past : Type 0
      Past = (r : ℕ) → Contains (Used a p o facts y) r → is_null (register g r) ≡ false

      abbrev Leaves_by : Type 0
      Leaves_by = MayLeave a p o class x args ik k

      fault : (u : Text) → L (faults w u)
      fault u = faulted a p o f floats facts base reg w cs g tw kw cw t kg top y h refl u

      outs : Past → Leaves_by → (kd : InvokeKind) (static : Bool) (m : MethodKey) → m.signature.result ≡ k.signature.result → L (calls_out kd static m vs w)
      outs past leaves kd static m e = let w1 = (show_all w (passed_types static m) vs).0 in let sf = same_all (passed_types static m) w vs in
          λ u v. (kept a p o f floats facts base reg w cs g tw kw cw t kg top w1 sf, waits a p o f floats facts base reg w cs g tw kw cw t kg top y h w1 sf.grows (Owing m.signature.result) (leaves, sym e) past)

      -- ---- arguments

      seen_at : (rs : List ℕ) → Looks a p facts (face_of p f).under floats base.sound w g x top.stands.hold (there a p o f floats facts base reg w cs g tw kw cw t kg top) (arrays a p o f floats facts base reg w cs g tw kw cw t kg top) rs
          → (i r : ℕ) → slice_get rs i ≡ Some r → S (x r) w (register g r)
      seen_at [] s i r e = none_some r e
      seen_at (q ∷ rs) s zero r e = subst (λ r. S (x r) w (register g r)) (some_one q r e) s.0
      seen_at (q ∷ rs) s (suc i) r e = seen_at rs s.1 i r e

      -- what a method that the call may enter is passed
      passed_on : (d : Found) → MayCall a p o class x args ik k d → ((v : Value) → slice_get vs 0 ≡ Some v → (IsBound ik → S (facts.parameters d.key 0) w v) → S (facts.parameters d.key 0) w v) → Passes a p o f floats facts base reg w d.key vs
      passed_on d c first i v e = by i (arg_at g args i v e) e
        where
          one : (i r : ℕ) → slice_get args i ≡ Some r → (i ≡ 0 → IsBound ik) → register g r ≡ v → S (facts.parameters d.key i) w v
          one i r j b e = subst (S (facts.parameters d.key i) w) e (base.sound.grows (x r) (facts.parameters d.key i) (kind_of w (register g r)) (register g r) (base.closed.calls.passes g.method k g.position i r ik args d at_y refl c j b)
              (seen_at args (looks a p o f floats facts base reg w cs g tw kw cw t kg top y h) i r j))

          by : (i : ℕ) → (r : ℕ) × ((slice_get args i ≡ Some r) × (register g r ≡ v)) → slice_get vs i ≡ Some v → S (facts.parameters d.key i) w v
          by zero (r, (j, e)) l = first v l (λ b. one 0 r j (λ z. b) e)
          by (suc i) (r, (j, e)) l = one (suc i) r j (λ z. absurd (omega (arith, z))) e

      -- what the framework may enter takes anything
      passed_open : (m : MethodKey) → ((i : ℕ) → a.below a.any (facts.parameters m i)) → Passes a p o f floats facts base reg w m vs
      passed_open m any i v e = by (arg_at g args i v e)
        where
          by : (r : ℕ) × ((slice_get args i ≡ Some r) × (register g r ≡ v)) → S (facts.parameters m i) w v
          by (r, (j, l)) = base.sound.grows a.any (facts.parameters m i) (kind_of w v) v (any i) (base.sound.all (kind_of w v) v (subst IsRanged l (each_or IsRanged g.registers r (Word 0) kg.ranged.registers (omega arith))))

      -- ---- what is found

      abbrev Enters_by : Found → Type 0
      Enters_by d = AwaitsCall a p o facts g x y d.key × (IsEntered a facts d.key × Passes a p o f floats facts base reg w d.key vs)

      entered : (m : MethodKey) → IsEntered a facts m → Passes a p o f floats facts base reg w m vs → EnteredOver (setting p o f floats reg) (bodies_of p) (below a p o f floats facts base reg) (covers a p o f floats facts base reg) w cs m vs (bodies_of p m)
      entered m ent args = by (bodies_of p m) refl
        where
          by : (b : Option NamedBody) → bodies_of p m ≡ b → EnteredOver (setting p o f floats reg) (bodies_of p) (below a p o f floats facts base reg) (covers a p o f floats facts base reg) w cs m vs b
          by None i = tt
          by (Some b) i = λ long u. entry_top a p o f floats facts base reg w m vs b i ent args long u.0.0

      found : Past → (d : Found) → d.key.signature ≡ k.signature → (is_static d.flags ≡ true → Contains (needs p y) d.key.class) → (d.coded ≡ true → Enters_by d) → (d.coded ≡ false → Leaves_by) → L (calls_ready need ik d vs w)
      found past d sig static enters leaves = by (is_static d.flags) refl
        where
          two : (b : Bool) → d.coded ≡ false → L (elim b as (λ b. Outcome) [ true ↦ calls_out (native_kind ik) (takes_no_receiver ik) d.key vs w | false ↦ faults w abstract_method ])
          two true i = outs past (leaves i) (native_kind ik) (takes_no_receiver ik) d.key (ap (λ s. s.result) sig)
          two false i = fault abstract_method

          one : (b : Bool) → d.coded ≡ b → L (elim b as (λ b. Outcome) [ true ↦ Enters d.key vs | false ↦ calls_uncoded ik d vs w ])
          one true i = let e = enters i in λ u. (waits a p o f floats facts base reg w cs g tw kw cw t kg top y h w (grows_same w w refl) (Callee d.key) e.0 past, entered d.key e.1.0 e.1.1)
          one false i = two (is_native d.flags) i

          by : (b : Bool) → is_static d.flags ≡ b → L (elim b as (λ b. Outcome) [ true ↦ when_ready (need d.key.class) w d.key.class (calls_found ik d vs w) | false ↦ calls_found ik d vs w ])
          by true i = readied a p o f floats facts base reg w cs g tw kw cw t kg top y h refl (need d.key.class) d.key.class (calls_found ik d vs w) (static i) (one d.coded refl)
          by false i = one d.coded refl

      may_enter : (d : Found) → MayCall a p o class x args ik k d → ((v : Value) → slice_get vs 0 ≡ Some v → (IsBound ik → S (facts.parameters d.key 0) w v) → S (facts.parameters d.key 0) w v) → d.coded ≡ true → Enters_by d
      may_enter d c first coded = ((ik, k, args, refl, inl (d, c, refl)), (base.closed.calls.enters g.method k g.position ik args d at_y refl c coded, passed_on d c first))

      -- by what is found
      searched : (src : Search) → Past → (src ≡ Nothing → L (calls_unfound ik k vs w g)) → ((d : Found) → src ≡ Finds d → d.key.signature ≡ k.signature) → ((d : Found) → src ≡ Finds d → is_static d.flags ≡ true → Contains (needs p y) d.key.class)
          → ((d : Found) → src ≡ Finds d → d.coded ≡ true → Enters_by d) → ((d : Found) → src ≡ Finds d → d.coded ≡ false → Leaves_by) → L (calls_by need ik k vs w g src)
      searched src past none sig static enters leaves = by src refl
        where
          by : (s : Search) → src ≡ s → L (calls_by need ik k vs w g s)
          by Nothing i = none i
          by Clash i = fault class_change
          by (Finds d) i = found past d (sig d i) (static d i) (enters d i) (leaves d i)

      guarded : (src : Search) → is_null (receiver vs) ≡ false ⊎ (is_null (receiver vs) ≡ true) → (is_null (receiver vs) ≡ false → L (calls_by need ik k vs w g src)) → L (on_receiver vs w (calls_by need ik k vs w g src))
      guarded src (inl z) more = subst (λ b. L (elim b as (λ b. Outcome) [ true ↦ faults w null_pointer | false ↦ calls_by need ik k vs w g src ])) (sym z) (more z)
      guarded src (inr z) more = subst (λ b. L (elim b as (λ b. Outcome) [ true ↦ faults w null_pointer | false ↦ calls_by need ik k vs w g src ])) (sym z) (fault null_pointer)

    -- ---- what look-ups say

    null_or : (b : Bool) → (b ≡ false) ⊎ (b ≡ true)
    null_or true = inr refl
    null_or false = inl refl

    -- a look-up that finds no code
    bare : (s y : Search) → s ≡ y → FindsNoCode a y → FindsNoCode a s
    bare s y e h = subst (FindsNoCode a) (sym e) h

    found_signature : (k : MethodKey) (d : Found) → IsFound p k d → d.key.signature ≡ k.signature
    found_signature k d is = ap (λ (d : Found). d.key.signature) is.is ∙ is.signature

    past_one : (r q : ℕ) → is_null (register g r) ≡ false → Contains (r ∷ []) q → is_null (register g q) ≡ false
    past_one r q z (zero, l, e) = subst (λ r. is_null (register g r) ≡ false) e z
    past_one r q z (suc m, l, e) = absurd (omega (arith, l))

    -- ---- by the kinds of calls

    pub static_calls : (k : MethodKey) (args : List ℕ) → I (form.Invoke call.Static k args) → L (calls (face_of p f) need call.Static k (map (register g) args) w g)
    static_calls k args h = let src = finds_statically p k in
        searched call.Static k args h src past
        (λ i. outs call.Static k args h past (bare src Nothing i tt) call.Static true k refl)
        (λ d e. found_signature k d (finds.statically k d e).0)
        (λ d e st. subst (λ s. Contains (static_class s) d.key.class) (sym e) (subst (λ b. Contains (elim b as (λ b. List Text) [ true ↦ d.key.class ∷ [] | false ↦ [] ]) d.key.class) (sym st) (0, omega arith, refl)))
        (λ d e. may_enter call.Static k args h d (Statically k d e) (λ v l b. b tt))
        (λ d e c. bare src (Finds d) e c)
      where
        past : (r : ℕ) → Contains [] r → is_null (register g r) ≡ false
        past r c = let l : c.0 < 0 = c.1 in absurd (omega (arith, l))

    module _ (k : MethodKey) (r : ℕ) (rs : List ℕ) where
      abbrev direct : Form
      direct = form.Invoke call.Direct k (r ∷ rs)

      -- the constructor of Object does nothing, and gives nothing
      object_made : I direct → is_null (register g r) ≡ false → method_eq k object_constructor ≡ true → L (Stays w (next (record g { result = Word 0 })) None)
      object_made h z e = let al = used_on a p o f floats facts base reg w cs g tw kw cw t kg top direct h r (seen_at call.Direct k (r ∷ rs) h (r ∷ rs) (looks a p o f floats facts base reg w cs g tw kw cw t kg top direct h) 0 r refl) z w (grows_same w w refl) in
          let g1 = next (record g { result = Word 0 }) in
          λ u v. (
            kept a p o f floats facts base reg w cs g tw kw cw t kg top w (same_world w),
            record {
              stands = gone_on a p o f floats facts base reg w g t direct h.has top.stands w g1 al.0 al.1 al.2 refl al.3;
              takes = λ s to j. nothing_behind a p o f floats facts base reg w g t direct h void_kind (first_in (g.position + 1) []) w g1 refl refl s to j;
            },
          )
        where
          void_kind : kind.kind_of p k.signature.result ≡ kind.Undefined
          void_kind = ap (kind.kind_of p) (text_sound k.signature.result (codes "V") (and_left (text_eq k.signature.result (codes "V")) (texts_eq k.signature.parameters []) (and_right (text_eq k.class object_type && text_eq k.name (codes "<init>")) (signature_eq k.signature object_constructor.signature) e)))

      direct_on : I direct → L (calls (face_of p f) need call.Direct k (map (register g) (r ∷ rs)) w g)
      direct_on h = let src = finds_statically p k in
          guarded call.Direct k (r ∷ rs) h src (null_or (is_null (register g r))) (λ z.
          searched call.Direct k (r ∷ rs) h src (λ q c. past_one r q z c)
          (λ i. none z i (method_eq k object_constructor) refl)
          (λ d e. found_signature k d (finds.statically k d e).0)
          (λ d e st. true_false st (right_method p o f floats reg finds w cs g tw t call.Direct k (r ∷ rs) h d (finds.resolved k d e).0))
          (λ d e. may_enter call.Direct k (r ∷ rs) h d (Directly k d e) (λ v l b. b tt))
          (λ d e c. bare src (Finds d) e c))
        where
          none : is_null (register g r) ≡ false → finds_statically p k ≡ Nothing → (b : Bool) → method_eq k object_constructor ≡ b → L (elim b as (λ b. Outcome) [ true ↦ Stays w (next (record g { result = Word 0 })) None | false ↦ calls_out call.Direct false k (map (register g) (r ∷ rs)) w ])
          none z i true e = object_made h z e
          none z i false e = outs call.Direct k (r ∷ rs) h (λ q c. past_one r q z c) (bare (finds_statically p k) Nothing i tt) call.Direct false k refl

      super_on : I (form.Invoke call.Super k (r ∷ rs)) → L (calls (face_of p f) need call.Super k (map (register g) (r ∷ rs)) w g)
      super_on h = let src = finds_super p class k in
          guarded call.Super k (r ∷ rs) h src (null_or (is_null (register g r))) (λ z.
          searched call.Super k (r ∷ rs) h src (λ q c. past_one r q z c)
          (λ i. outs call.Super k (r ∷ rs) h (λ q c. past_one r q z c) (bare src Nothing i tt) call.Super false k refl)
          (λ d e. found_signature k d (finds.super class k d e))
          (λ d e st. true_false st (flags d e))
          (λ d e. may_enter call.Super k (r ∷ rs) h d (Above k d e) (λ v l b. b tt))
          (λ d e c. bare src (Finds d) e c))
        where
          flags : (d : Found) → finds_super p class k ≡ Finds d → is_static d.flags ≡ false
          flags d e = sym (ap finds_static (sym (ap (λ c. finds_super p c k) (own_class p o f floats reg finds w cs g tw t)) ∙ e))
              ∙ or_right (is_constructor_name k.name) (finds_static (finds_super p t.in_method.class.name k)) (right_super p o f floats reg finds w cs g tw t call.Super k (r ∷ rs) h)

      abbrev u : Text
      u = kind_of w (register g r)

      abbrev maybe : (ik : InvokeKind) → I (form.Invoke ik k (r ∷ rs)) → is_null (register g r) ≡ false → MayBe a (x r) u
      maybe ik h z = record { object = register g r; there = z; held = seen_at ik k (r ∷ rs) h (r ∷ rs) (looks a p o f floats facts base reg w cs g tw kw cw t kg top (form.Invoke ik k (r ∷ rs)) h) 0 r refl }

      -- ---- what a virtual call finds

      -- the receiver of a virtual call stands under the class that is named, where the program has it and it is no interface
      stands_under : I (form.Invoke call.Virtual k (r ∷ rs)) → is_null (register g r) ≡ false → is_plain p k.class ≡ true → is_under p f u k.class ≡ true
      stands_under h z plain = by (is_constructor_name k.name) (and_left (asked (is_constructor_name k.name)) (list_all (λ d. meets p t.in_method.class t.kinds.registers d.0 d.1) (passed k.signature.parameters rs)) h.allowed)
        where
          asked : Bool → Bool
          asked b = meets p t.in_method.class t.kinds.registers r (if b then Constructed k.class else Fits k.class)

          own : Text
          own = t.in_method.class.name

          there : defines p k.class ≡ true
          there = plain_defined p k.class plain

          -- an object whose constructor is called
          made : (q : kind.Kind) → is_constructed t.in_method.class k.class q ≡ true → KindHolds p f own w q (register g r) → is_under p f u k.class ≡ true
          made (kind.Fresh s j) i q = subst (λ y. is_under p f y k.class ≡ true) (sym (q.1.0 ∙ text_sound s k.class i)) (under_self p f reg k.class (reg.regular.class_types k.class there))
          made kind.FreshThis i q = one (or_cases (text_eq own k.class) (text_eq t.in_method.class.superclass k.class) i)
            where
              one : (text_eq own k.class ≡ true) ⊎ (text_eq t.in_method.class.superclass k.class ≡ true) → is_under p f u k.class ≡ true
              one (inl j) = subst (λ y. is_under p f u y ≡ true) (text_sound own k.class j) q.1
              one (inr j) = step_up p f reg own k.class t.in_method.class (reg.regular.named t.in_method.class t.in_method.class_in)
                  (subst (λ y. Contains (t.in_method.class.superclass ∷ t.in_method.class.interfaces) y) (text_sound t.in_method.class.superclass k.class j) (0, omega arith, refl)) there u q.1
          made q i s = absurd (true≢false (sym i))

          by : (b : Bool) → meets p t.in_method.class t.kinds.registers r (if b then Constructed k.class else Fits k.class) ≡ true → is_under p f u k.class ≡ true
          by true i = made (kind_at t.kinds.registers r) i (reg_held p o f floats reg w cs g tw t r)
          by false i = (fitting p o f floats reg w cs g tw t k.class plain r i z).1

      -- what finds no code may leave the program
      leaves_virtually : I (form.Invoke call.Virtual k (r ∷ rs)) → is_null (register g r) ≡ false → FindsNoCode a (finds_virtually p f u k) → MayLeave a p o class x (r ∷ rs) call.Virtual k
      leaves_virtually h z none = by (class_named p k.class) refl
        where
          of_made : is_plain p k.class ≡ true → MayFindNoCode a p o (x r) k
          of_made plain = let there = plain_defined p k.class plain in let up = stands_under h z plain in let named = defined_under p o f floats reg finds w tw (register g r) k.class up there in record {
            class = u;
            may_be = maybe call.Virtual h z;
            made = made_under p o f floats reg finds w tw kw (register g r) k.class up there;
            within = base.reaches.within u k.class named there up;
            bare = subst (FindsNoCode a) (ap (λ b. elim b as (λ b. Search) [ true ↦ finds_at p u k | false ↦ Nothing ]) (ap (λ b. b && is_under p f u k.class) (some_named p u named) ∙ up)) none;
          }

          by_flags : (c : NamedClass) → class_named p k.class ≡ Some c → (b : Bool) → is_interface c.flags ≡ b → MayLeave a p o class x (r ∷ rs) call.Virtual k
          by_flags c i true j = inr (inl (ap (λ y. is_some (elim y as (λ y. Option NamedClass) [ Some c ↦ elim (is_interface c.flags) as (λ b. Option NamedClass) [ true ↦ Some c | false ↦ None ] | None ↦ None ])) i
              ∙ ap (λ b. is_some (elim b as (λ b. Option NamedClass) [ true ↦ Some c | false ↦ None ])) j))
          by_flags c i false j = inr (inr (of_made (plain_by p k.class (Some c) i ∙ ap not j)))

          by : (y : Option NamedClass) → class_named p k.class ≡ y → MayLeave a p o class x (r ∷ rs) call.Virtual k
          by None i = inl (defined_by p k.class None i)
          by (Some c) i = by_flags c i (is_interface c.flags) refl

      -- A virtual call, and one of an interface: on what a made object finds.
      on_object : (ik : InvokeKind) (h : I (form.Invoke ik k (r ∷ rs))) → (IsBound ik → ⊥) → (is_static_call ik ≡ false)
          → ((d : Found) → MayBe a (x r) u → IsMade p o unconditional u → is_within p u k.class ≡ true → finds_at p u k ≡ Finds d → MayCall a p o class x (r ∷ rs) ik k d)
          → (is_null (register g r) ≡ false → FindsNoCode a (finds_virtually p f u k) → MayLeave a p o class x (r ∷ rs) ik k)
          → (defines p k.class ≡ false → MayLeave a p o class x (r ∷ rs) ik k)
          → ((q : ℕ) → Contains (Used a p o facts (form.Invoke ik k (r ∷ rs))) q → Contains (r ∷ []) q)
          → (MayLeave a p o class x (r ∷ rs) ik k → is_null (register g r) ≡ false → L (calls_unfound ik k (map (register g) (r ∷ rs)) w g))
          → is_null (register g r) ≡ false → L (calls_by need ik k (map (register g) (r ∷ rs)) w g (finds_virtually p f u k))
      on_object ik h unbound dynamic calls_it leaves_it outside used_it out z = let src = finds_virtually p f u k in
          searched ik k (r ∷ rs) h src (λ q c. past_one r q z (used_it q c))
          (λ i. out (leaves_it z (bare src Nothing i tt)) z)
          (λ d e. found_signature k d (finds.virtually u k d (at_of d e).0).0)
          (λ d e st. true_false st (virtual_flags p o f floats reg finds w cs g tw t d.flags d.key.name (finds.virtually u k d (at_of d e).0).1.0).0)
          (λ d e c. enter d e c (base.reaches.virtually g.method t.in_method.body ik k (r ∷ rs) u d (ap (bodies_of p) t.of ∙ t.in_method.has_body) (get_contains t.in_method.body.forms g.position (form.Invoke ik k (r ∷ rs)) h.has) unbound (made d e) e))
          (λ d e c. leaves_it z (bare src (Finds d) e c))
        where
          at_of : (d : Found) → finds_virtually p f u k ≡ Finds d → (finds_at p u k ≡ Finds d) × (defines p u ≡ true)
          at_of d e = virtual_object p o f floats reg finds w cs g tw t r k d e

          made : (d : Found) → finds_virtually p f u k ≡ Finds d → IsMade p o unconditional u
          made d e = made_kind p o reg w kw (register g r) (at_of d e).1

          -- the receiver is passed by what it is
          enter : (d : Found) → finds_virtually p f u k ≡ Finds d → d.coded ≡ true → (is_within p u k.class ≡ true) ⊎ ((defines p k.class ≡ false) × (d.coded ≡ true → IsEnteredOn p o d.key)) → Enters_by ik k (r ∷ rs) h d
          enter d e c (inl wi) = let m = calls_it d (maybe ik h z) (made d e) wi (at_of d e).0 in
              may_enter ik k (r ∷ rs) h d m (λ v l b. subst (S (facts.parameters d.key 0) w) (some_one (register g r) v l)
              (base.closed.calls.receives g.method k g.position ik (r ∷ rs) d u (register g r) (at_y ik k (r ∷ rs) h) refl unbound (maybe ik h z).held z (at_of d e).0 m)) c
          enter d e c (inr n) = let eo = n.1 c in let op = base.closed.entries.methods d.key eo in
              ((ik, k, r ∷ rs, refl, inr (outside n.0, eo)), (op.entered, passed_open ik k (r ∷ rs) h d.key op.parameters))

      virtual_on : I (form.Invoke call.Virtual k (r ∷ rs)) → L (calls (face_of p f) need call.Virtual k (map (register g) (r ∷ rs)) w g)
      virtual_on h = guarded call.Virtual k (r ∷ rs) h (finds_virtually p f u k) (null_or (is_null (register g r))) (λ z. on_object call.Virtual h (λ b. b) refl (λ d m i j e. Virtually k d u m i j e) (λ y n. leaves_virtually h y n) (λ d. inl d) (λ q c. c)
          (λ l z. outs call.Virtual k (r ∷ rs) h (λ q c. past_one r q z c) l call.Virtual false k refl) z)

      interface_on : I (form.Invoke call.Interface k (r ∷ rs)) → L (calls (face_of p f) need call.Interface k (map (register g) (r ∷ rs)) w g)
      interface_on h = guarded call.Interface k (r ∷ rs) h (finds_virtually p f u k) (null_or (is_null (register g r))) (λ z. on_object call.Interface h (λ b. b) refl (λ d m i j e. ByInterface k d u m i j e) (λ y n. tt) (λ d. tt) (λ q c. c)
          (λ l z. outs call.Interface k (r ∷ rs) h (λ q c. past_one r q z c) l call.Interface false k refl) z)

    -- each call with a receiver has one
    none_left : {A : Type 0} (ik : InvokeKind) (k : MethodKey) → is_static_call ik ≡ false → I (form.Invoke ik k []) → A
    none_left ik k e h = absurd (let l = enough a p o f floats reg facts w g t x top.stands.hold ik k [] h ∙ ap (λ b. (if b then 0 else 1) + words_of k.signature.parameters) e in omega (arith, l))

    pub calls_covered : (ik : InvokeKind) (k : MethodKey) (args : List ℕ) → I (form.Invoke ik k args) → L (calls (face_of p f) need ik k (map (register g) args) w g)
    calls_covered call.Static k args h = static_calls k args h
    calls_covered call.Direct k [] h = none_left call.Direct k refl h
    calls_covered call.Direct k (r ∷ rs) h = direct_on k r rs h
    calls_covered call.Super k [] h = none_left call.Super k refl h
    calls_covered call.Super k (r ∷ rs) h = super_on k r rs h
    calls_covered call.Virtual k [] h = none_left call.Virtual k refl h
    calls_covered call.Virtual k (r ∷ rs) h = virtual_on k r rs h
    calls_covered call.Interface k [] h = none_left call.Interface k refl h
    calls_covered call.Interface k (r ∷ rs) h = interface_on k r rs h
