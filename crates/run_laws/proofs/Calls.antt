-- What calls leave, and what is entered.
use Rattle.std.proofs.Common.{◌≡◌, ℕ, suc, ◌+◌, ◌-◌, Bool, true, false, true≢false, List, [], ◌∷◌, ◌++◌, Option, Some, None, ◌⊎◌, inl, inr, refl, sym, ap, ◌∙◌, subst, arith}
use Rattle.std.specs.Prelude.{◌&&◌, ◌||◌, not, nat_eq, length, map, drop, codes, slice_get, is_some, Contains, if◌then◌else◌}
use Rattle.std.proofs.lemmas.Bool.{eqb-true}
use Rattle.std.specs.List.{list_all}
use Rattle.std.specs.Option.{option_and_then}
use Rattle.insn_set.specs.declared.ops.InvokeKind.{InvokeKind}
use Rattle.insn_set.specs.declared.ops.InvokeKind.TheVariants as call
use Rattle.dalvik_defs.proofs.Calm.{text_sound}
use Rattle.dalvik_defs.specs.Names.{object_constructor, object_type, texts_eq, method_eq, signature_eq, Text, text_eq, is_wide, is_class_type}
use Rattle.dalvik_defs.specs.Known.{null_pointer, class_change, abstract_method}
use Rattle.dalvik_defs.specs.Face.{finds_virtually, face_of, bodies_of}
use Rattle.dalvik_defs.specs.Find.{Found, Search, Nothing, Clash, Finds, found_in, finds_statically, finds_super, finds_at, resolves_method}
use Rattle.dalvik_defs.specs.Under.{class_named, defines, is_under}
use Rattle.dalvik_defs.specs.Flags.{is_static, is_interface, is_virtual, is_native, is_private, is_special}
use Rattle.dalvik_defs.specs.Silence.{key_in}
use Rattle.dalvik_defs.specs.Stack.{entry_frame}
use Rattle.dalvik_defs.specs.Outer.{Outer}
use Rattle.dalvik_defs.specs.Show.{show_all}
use Rattle.dalvik_defs.specs.State.{World, Classes, Thing, is_null, kind_of, kind_of_thing, word_of}
use Rattle.dalvik_defs.specs.Effect.{register, next}
use Rattle.dalvik_defs.specs.Outcome.{is_direct, Outcome, Stays, Need, need_of, faults, when_ready, Enters, on_receiver, takes_no_receiver, native_kind, passed_types, calls_out, calls_uncoded, calls_found, calls_ready, calls_unfound, calls_by, calls}
use Rattle.dalvik_defs.specs.declared.program.NamedClass.{NamedClass}
use Rattle.dalvik_defs.specs.declared.program.NamedMethod.{NamedMethod}
use Rattle.dalvik_defs.specs.declared.program.NamedBody.{NamedBody}
use Rattle.dalvik_defs.specs.declared.names.MethodKey.{MethodKey}
use Rattle.dalvik_defs.specs.declared.state.Value.{Value}
use Rattle.dalvik_defs.specs.declared.state.Value.TheVariants.{Word, Low, High, Object, Literal, Class}
use Rattle.dalvik_defs.specs.declared.state.Frame.{Frame}
use Rattle.dalvik_defs.specs.declared.forms.Form.{Form}
use Rattle.dalvik_defs.specs.declared.forms.Form.TheVariants as form
use Rattle.dalvik_defs.specs.declared.tables.Floats.{Floats}
use Rattle.dalvik_defs.specs.declared.tables.Framework.{Framework}
use Rattle.dalvik_defs.specs.declared.program.NamedProgram.{NamedProgram}
use Rattle.pass_defs.specs.Kinds.{Kind, is_plain, kind_eq, is_number, is_initialised, kind_of_reference, fits}
use Rattle.pass_defs.specs.Kinds as kind
use Rattle.pass_defs.specs.Registers.{Kinds, kind_at, replaced, state_below}
use Rattle.pass_defs.specs.Demands.{Demand, Pair, Fits, meets, is_constructor_name, is_constructed, passed, passed_wide, found_class, Constructed}
use Rattle.pass_defs.specs.Typed.{state_at, IsTyping, begun, receiver_register, halves, parameter_kinds, argument_kinds, receiver_kind, is_constructor, constructed, called, is_static_call, words_of, passed_words, differ, wrong_method, wrong_super, finds_static}
use Rattle.run_laws.specs.Invariant.{Callee, Owing}
use Rattle.run_laws.specs.Fine.{IsThere}
use Rattle.run_laws.specs.Holds.{Each}
use Rattle.run_laws.proofs.Invariants.{Entered}
use Rattle.run_laws.proofs.Growing.{all_heap}
use Rattle.run_laws.proofs.Plain.{grown}
use Rattle.run_laws.proofs.Fine.{each_map}
use Rattle.run_laws.specs.TypedStates.{AllHold, CaughtHolds, IsObject, KindHolds, RefFits, StateHolds, TypedFrame, TypedWorld}
use Rattle.run_laws.specs.Regular.{taken}
use Rattle.run_laws.proofs.Settled.{IsSettled, IsFound, FindsRegularly}
use Rattle.run_laws.proofs.Registers.{IsNoHalf, KeepsHalves, whole_keeps, no_low, and_left, and_right, there_held, all_map, all_behind, all_long}
use Rattle.run_laws.proofs.Sorts.{RefSort, AnArray, APlain, AnAny, ref_sort, Sorted, OfWord, OfWide, OfReference, OfNone, sorted, class_alone, no_half, not_wide}
use Rattle.run_laws.proofs.Climbs.{under_self, plain_below, step_up, defined_by, plain_by, or_cases}
use Rattle.run_laws.proofs.Arrays.{true_false, under_fits}
use Rattle.run_laws.proofs.Orders.{kind_sound, ref_held, ref_fits, fits_held}
use Rattle.run_laws.proofs.Worlds.{typed_all}
use Rattle.run_laws.proofs.Here.{state_above, setting, states}
use Rattle.run_laws.proofs.Forms.{wide_kind, first_in, or_left, or_right, any_class, Leads, Is, reg_held, low_held, halves_held, stays, throws_new}
use Rattle.run_laws.proofs.ArrayForms.{untrue2}
use Rattle.run_laws.proofs.FieldForms.{waits, waits_in, readied, fitting}

-- a receiver is no low half of a wide
pub receiver_whole : (c : NamedClass) (m : NamedMethod) → kind_eq (receiver_kind c m) kind.Low ≡ false
receiver_whole c m = by (is_constructor m) (is_interface c.flags)
  where
    by : (a b : Bool) → kind_eq (if a then kind.FreshThis else if b then kind.Reference else kind.Class c.name) kind.Low ≡ false
    by true b = refl
    by false true = refl
    by false false = refl

module _ (p : NamedProgram) (o : Outer) (f : Framework) (floats : Floats) (reg : IsSettled p) where
  -- ---- how many registers arguments take

  pub halves_single : (u : Text) → is_wide u ≡ false → halves (kind.kind_of p u) ≡ kind.kind_of p u ∷ []
  halves_single u e = by (sorted p u) (ref_sort p u)
    where
      by : Sorted p u → RefSort p u → halves (kind.kind_of p u) ≡ kind.kind_of p u ∷ []
      by (OfWord i x b j l) s = subst (λ k. halves k ≡ k ∷ []) (sym j) refl
      by (OfWide i x b j l) s = true_false x e
      by (OfReference i x b j l) (AnArray y z) = subst (λ k. halves k ≡ k ∷ []) (sym (j ∙ z)) refl
      by (OfReference i x b j l) (APlain y v z) = subst (λ k. halves k ≡ k ∷ []) (sym (j ∙ z)) refl
      by (OfReference i x b j l) (AnAny y v z) = subst (λ k. halves k ≡ k ∷ []) (sym (j ∙ z)) refl
      by (OfNone i x b j l) s = subst (λ k. halves k ≡ k ∷ []) (sym j) refl

  kinds_long : (ts : List Text) → length (parameter_kinds p ts) ≡ words_of ts
  kinds_long [] = refl
  kinds_long (u ∷ ts) = by (is_wide u) refl (kinds_long ts)
    where
      by : (b : Bool) → is_wide u ≡ b → length (parameter_kinds p ts) ≡ words_of ts → length (halves (kind.kind_of p u) ++ parameter_kinds p ts) ≡ (if b then 2 else 1) + words_of ts
      by true e i = ap (λ ks. length (ks ++ parameter_kinds p ts)) (ap halves (wide_kind p f reg u e)) ∙ omega (arith, i)
      by false e i = ap (λ ks. length (ks ++ parameter_kinds p ts)) (halves_single u e) ∙ omega (arith, i)

  arguments_long : (c : NamedClass) (m : NamedMethod) → length (argument_kinds p c m) ≡ taken m
  arguments_long c m = by (is_static m.flags)
    where
      by : (b : Bool) → length (elim b as (λ b. List Kind) [ true ↦ parameter_kinds p m.signature.parameters | false ↦ receiver_kind c m ∷ parameter_kinds p m.signature.parameters ]) ≡ (if b then 0 else 1) + words_of m.signature.parameters
      by true = let i = kinds_long m.signature.parameters in omega (arith, i)
      by false = let i = kinds_long m.signature.parameters in omega (arith, i)

  -- ---- entries

  abbrev pub Enter : World → Classes → MethodKey → List Value → Option NamedBody → Type 0
  Enter = Entered (setting p o f floats reg) (bodies_of p) (grown (setting p o f floats reg) (bodies_of p) (states p o f floats reg))

  pub entered : (w : World) (cs : Classes) (c : NamedClass) (m : NamedMethod) (b : NamedBody) (k : MethodKey) (vs : List Value) → Contains p.classes c → Contains c.methods m → m.body ≡ Some b → k ≡ key_in c m → AllHold p f c.name w (argument_kinds p c m) vs → Enter w cs k vs (bodies_of p k)
  entered w cs c m b k vs ci mi mb e h = subst (Enter w cs k vs) (sym body) ((λ l. by (state_at table 0) refl typing.entry), (λ no. no (all_long p f c.name w (argument_kinds p c m) vs h ∙ (arguments_long c m ∙ sym (reg.regular.entries c m b ci mi mb)))))
    where
      body : bodies_of p k ≡ Some b
      body = ap (bodies_of p) e ∙ (ap (λ o. option_and_then (λ m. m.body) o) (reg.regular.methods c m ci mi) ∙ mb)

      table : List (Option Kinds)
      table = (reg.regular.typed.bodies c m b ci mi mb).0

      typing : IsTyping p c m b table
      typing = (reg.regular.typed.bodies c m b ci mi mb).1

      start : StateHolds p f c.name w (begun p c m b) (entry_frame k vs b)
      start = record { registers = all_behind p f c.name w (b.registers - b.ins) (argument_kinds p c m) vs h; result = tt; caught = record { there = tt; object = λ i. absurd (true≢false (sym i)); held = λ i. absurd (true≢false (sym i)) } }

      by : (y : Option Kinds) → state_at table 0 ≡ y → state_below p (Some (begun p c m b)) (state_at table 0) ≡ true → TypedFrame p f w (entry_frame k vs b)
      by None i j = absurd (true≢false (sym j ∙ ap (state_below p (Some (begun p c m b))) i))
      by (Some a) i j = record {
        key = k;
        of = refl;
        in_method = record { class = c; method = m; body = b; class_in = ci; method_in = mi; is_key = e; has_body = body; table = table; typing = typing };
        kinds = a;
        state = i;
        holds = state_above p o f floats reg c.name w (begun p c m b) a (entry_frame k vs b) (sym (ap (state_below p (Some (begun p c m b))) i) ∙ j) start;
      }

  -- ---- objects made by a constructor

  fresh_held : (c : Text) (w : World) (u : Text) (v : Value) → is_class_type u ≡ true → IsObject w v → (face_of p f).under (kind_of w v) u ≡ true → KindHolds p f c w (kind.kind_of p u) v
  fresh_held c w u v e i j = by (sorted p u)
    where
      by : Sorted p u → KindHolds p f c w (kind.kind_of p u) v
      by (OfReference q x b k l) = subst (λ k. KindHolds p f c w k v) (sym k) (ref_held p f reg c w u v i (under_fits p f reg (kind_of w v) u j))
      by (OfWord q x b k l) = true_false (class_alone u e).0 b
      by (OfWide q x b k l) = true_false (class_alone u e).0 b
      by (OfNone q x b k l) = true_false (class_alone u e).0 b

  replaced_held : (c : Text) (w : World) (old new : Kind) → ((v : Value) → KindHolds p f c w old v → KindHolds p f c w new v × IsNoHalf new) → (k : Kind) (v : Value) → KindHolds p f c w k v → KindHolds p f c w (replaced old new k) v × KeepsHalves k (replaced old new k)
  replaced_held c w old new to k v h = by (kind_eq k old) refl
    where
      by : (b : Bool) → kind_eq k old ≡ b → KindHolds p f c w (elim b as (λ b. Kind) [ true ↦ new | false ↦ k ]) v × KeepsHalves k (elim b as (λ b. Kind) [ true ↦ new | false ↦ k ])
      by true e = let h1 = to v (subst (λ k. KindHolds p f c w k v) (kind_sound k old e) h) in (h1.0, whole_keeps k new h1.1)
      by false e = (h, (λ i. i, λ i. i))

  class_whole : (u : Text) → is_class_type u ≡ true → IsNoHalf (kind.kind_of p u)
  class_whole u i = no_half p u (not_wide u (class_alone u i).0)

  own_type : (c : NamedClass) → Contains p.classes c → is_class_type c.name ≡ true
  own_type c ci = reg.regular.class_types c.name (defined_by p c.name (Some c) (reg.regular.named c ci))

  constructed_held : (w : World) (c : NamedClass) → Contains p.classes c → (k : Kind) (a : Kinds) (vs : List Value) → AllHold p f c.name w a.registers vs → AllHold p f c.name w (constructed p c k a).registers vs
  constructed_held w c ci (kind.Fresh u m) a vs h = all_map p f c.name w (replaced (kind.Fresh u m) (kind.kind_of p u)) (replaced_held c.name w (kind.Fresh u m) (kind.kind_of p u) (λ v i. (fresh_held c.name w u v i.1.1 i.0 (subst (λ z. (face_of p f).under z u ≡ true) (sym i.1.0) (under_self p f reg u i.1.1)), class_whole u i.1.1))) a.registers vs h
  constructed_held w c ci kind.FreshThis a vs h = all_map p f c.name w (replaced kind.FreshThis (kind.kind_of p c.name)) (replaced_held c.name w kind.FreshThis (kind.kind_of p c.name) (λ v i. (fresh_held c.name w c.name v (own_type c ci) i.0 i.1, class_whole c.name (own_type c ci)))) a.registers vs h
  constructed_held w c ci k a vs h = h

  constructed_places : (w : World) (c : NamedClass) (k : Kind) (a : Kinds) → (constructed p c k a).caught ≡ a.caught
  constructed_places w c (kind.Fresh u m) a = refl
  constructed_places w c kind.FreshThis a = refl
  constructed_places w c k a = refl

  -- the state behind a call that gave a value
  pub called_holds : (w : World) (c : NamedClass) → Contains p.classes c → (ik : InvokeKind) (k : MethodKey) (rs : List ℕ) (a : Kinds) (g : Frame) (v : Value) → StateHolds p f c.name w a g → KindHolds p f c.name w (kind.kind_of p k.signature.result) v
      → StateHolds p f c.name w (called p c ik k rs a) (next (record g { result = v }))
  called_holds w c ci ik k rs a g v h i = by (is_constructor_name k.name && not (is_static_call ik))
    where
      r : Kind
      r = kind_at a.registers (receiver_register rs)

      by : (b : Bool) → StateHolds p f c.name w (let d : Kinds = if b then constructed p c r a else a in record d { result = kind.kind_of p k.signature.result }) (next (record g { result = v }))
      by true = record { registers = constructed_held w c ci r a g.registers h.registers; result = i; caught = subst (λ k. CaughtHolds p f c.name w k g.caught) (sym (constructed_places w c r a)) h.caught }
      by false = record { registers = h.registers; result = i; caught = h.caught }

  module _ (finds : FindsRegularly p f) (w : World) (cs : Classes) (g : Frame) (tw : TypedWorld p f w) (t : TypedFrame p f w g) where
    abbrev class : Text
    class = t.in_method.class.name

    abbrev a : Kinds
    a = t.kinds

    abbrev n : ℕ
    n = g.position

    abbrev L : Outcome → Type 0
    L = Leads p o f floats reg w cs g tw t

    abbrev I : Form → Type 0
    I = Is p o f floats reg w cs g tw t

    abbrev need : Text → Need
    need = need_of (face_of p f) cs

    abbrev met : (ℕ × Demand) → Bool
    met d = meets p t.in_method.class a.registers d.0 d.1

    -- ---- arguments

    pub arguments : (ts : List Text) (rs : List ℕ) → list_all met (passed ts rs) ≡ true → length rs ≡ words_of ts → (d : Text) → AllHold p f d w (parameter_kinds p ts) (map (register g) rs)
    arguments [] [] e l d = tt
    arguments [] (r ∷ rs) e l d = absurd (omega (arith, l))
    arguments (u ∷ ts) [] e l d = absurd (by (is_wide u) l)
      where
        by : (b : Bool) → 0 ≡ (if b then 2 else 1) + words_of ts → ⊥
        by true i = omega (arith, i)
        by false i = omega (arith, i)
    arguments (u ∷ ts) (r ∷ rs) e l d = by (is_wide u) refl e l (λ qs i j. arguments ts qs i j d)
      where
        wide : is_wide u ≡ true → (rs : List ℕ) → list_all met (passed_wide r rs ++ passed ts (drop 1 rs)) ≡ true → suc (length rs) ≡ 2 + words_of ts → ((qs : List ℕ) → list_all met (passed ts qs) ≡ true → length qs ≡ words_of ts → AllHold p f d w (parameter_kinds p ts) (map (register g) qs))
            → AllHold p f d w (halves (kind.kind_of p u) ++ parameter_kinds p ts) (map (register g) (r ∷ rs))
        wide k [] i j more = absurd (omega (arith, j))
        wide k (s ∷ rs) i j more = let pr = low_held p o f floats reg w cs g tw t r (and_left (meets p t.in_method.class a.registers r Pair) (nat_eq s (r + 1) && list_all met (passed ts rs)) i) in
            let rest = and_right (meets p t.in_method.class a.registers r Pair) (nat_eq s (r + 1) && list_all met (passed ts rs)) i in
            subst (λ ks. AllHold p f d w (ks ++ parameter_kinds p ts) (register g r ∷ register g s ∷ map (register g) rs)) (sym (ap halves (wide_kind p f reg u k))) (
              pr.0,
              (subst (λ q. KindHolds p f d w kind.High (register g q)) (sym (eqb-true s (r + 1) (and_left (nat_eq s (r + 1)) (list_all met (passed ts rs)) rest))) pr.1, more rs (and_right (nat_eq s (r + 1)) (list_all met (passed ts rs)) rest) (omega (arith, j)), no_low kind.High (register g s) (parameter_kinds p ts) (map (register g) rs) refl),
              λ x. halves_held p o f floats reg w cs g tw t r (and_left (meets p t.in_method.class a.registers r Pair) (nat_eq s (r + 1) && list_all met (passed ts rs)) i) ∙ ap (λ q. word_of (register g q)) (sym (eqb-true s (r + 1) (and_left (nat_eq s (r + 1)) (list_all met (passed ts rs)) rest))),
            )

        by : (b : Bool) → is_wide u ≡ b → list_all met (elim b as (λ b. List (ℕ × Demand)) [ true ↦ passed_wide r rs ++ passed ts (drop 1 rs) | false ↦ (r, Fits u) ∷ passed ts rs ]) ≡ true → suc (length rs) ≡ (if b then 2 else 1) + words_of ts
            → ((qs : List ℕ) → list_all met (passed ts qs) ≡ true → length qs ≡ words_of ts → AllHold p f d w (parameter_kinds p ts) (map (register g) qs))
            → AllHold p f d w (halves (kind.kind_of p u) ++ parameter_kinds p ts) (map (register g) (r ∷ rs))
        by true k i j more = wide k rs i j more
        by false k i j more = subst (λ ks. AllHold p f d w (ks ++ parameter_kinds p ts) (register g r ∷ map (register g) rs)) (sym (halves_single u k)) (
          any_class p f reg class d w u (register g r) (fits_held p f reg class w (kind_at a.registers r) u (register g r) k (and_left (fits p (kind_at a.registers r) u) (list_all met (passed ts rs)) i) (reg_held p o f floats reg w cs g tw t r)),
          more rs (and_right (fits p (kind_at a.registers r) u) (list_all met (passed ts rs)) i) (omega (arith, j)),
          no_low (kind.kind_of p u) (register g r) (parameter_kinds p ts) (map (register g) rs) (no_half p u k).0,
        )

    pub there_all : (rs : List ℕ) → Each (IsThere w) (map (register g) rs)
    there_all rs = each_map (IsThere w) (register g) (λ r. there_held p f class w (kind_at a.registers r) (register g r) (reg_held p o f floats reg w cs g tw t r)) rs

    module _ (ik : InvokeKind) (k : MethodKey) (args : List ℕ) (h : I (form.Invoke ik k args)) where
      abbrev x : Form
      x = form.Invoke ik k args

      abbrev vs : List Value
      vs = map (register g) args

      outs : (kd : InvokeKind) (static : Bool) (m : MethodKey) → k.signature.result ≡ m.signature.result → L (calls_out kd static m vs w)
      outs kd static m e = let w1 = (show_all w (passed_types static m) vs).0 in
          (typed_all p f (passed_types static m) w vs tw (there_all args), waits_in p o f floats reg w cs g tw t x h refl w1 (all_heap (passed_types static m) w vs) (Owing m.signature.result) e)

      unfound : L (calls_unfound ik k vs w g)
      unfound = by (is_direct ik && method_eq k object_constructor) refl
        where
          void_kind : method_eq k object_constructor ≡ true → kind.kind_of p k.signature.result ≡ kind.Undefined
          void_kind e = ap (kind.kind_of p) (text_sound k.signature.result (codes "V") (and_left (text_eq k.signature.result (codes "V")) (texts_eq k.signature.parameters []) (and_right (text_eq k.class object_type && text_eq k.name (codes "<init>")) (signature_eq k.signature object_constructor.signature) e)))

          by : (b : Bool) → (is_direct ik && method_eq k object_constructor) ≡ b → L (elim b as (λ b. Outcome) [ true ↦ Stays w (next (record g { result = Word 0 })) None | false ↦ calls_out ik (takes_no_receiver ik) k vs w ])
          by true e = stays p o f floats reg w cs g tw t x h (n + 1) (first_in (n + 1) []) w tw (next (record g { result = Word 0 })) None t.of refl
              (called_holds w t.in_method.class t.in_method.class_in ik k args a g (Word 0) t.holds (subst (λ q. KindHolds p f class w q (Word 0)) (sym (void_kind (and_right (is_direct ik) (method_eq k object_constructor) e))) tt))
          by false e = outs ik (takes_no_receiver ik) k refl

      -- what is found is entered, or is the framework's
      found : (d : Found) → IsFound p k d → ((c : NamedClass) (m : NamedMethod) → d ≡ found_in c m → Contains p.classes c → m.signature ≡ k.signature → m.name ≡ k.name → AllHold p f c.name w (argument_kinds p c m) vs) → L (calls_ready need ik d vs w)
      found d is args_held = by (is_static d.flags)
        where
          sig : k.signature ≡ d.key.signature
          sig = sym is.signature ∙ ap (λ d. d.key.signature) (sym is.is)

          bodied : (y : Option NamedBody) → is.method.body ≡ y → is_some is.method.body ≡ true → Enter w cs d.key vs (bodies_of p d.key)
          bodied None i j = absurd (true≢false (sym j ∙ ap (λ y. is_some y) i))
          bodied (Some b) i j = entered w cs is.class is.method b d.key vs is.class_in is.method_in i (ap (λ d. d.key) is.is) (args_held is.class is.method is.is is.class_in is.signature is.name)

          one : (b : Bool) → d.coded ≡ b → L (elim b as (λ b. Outcome) [ true ↦ Enters d.key vs | false ↦ calls_uncoded ik d vs w ])
          one true i = (waits p o f floats reg w cs g tw t x h refl (Callee d.key) (ik, (k, (args, (refl, sig)))), bodied is.method.body refl (sym (ap (λ d. d.coded) is.is) ∙ i))
          one false i = two (is_native d.flags)
            where
              two : (b : Bool) → L (elim b as (λ b. Outcome) [ true ↦ calls_out (native_kind ik) (takes_no_receiver ik) d.key vs w | false ↦ faults w abstract_method ])
              two true = outs (native_kind ik) (takes_no_receiver ik) d.key (ap (λ s. s.result) sig)
              two false = throws_new p o f floats reg w cs g tw t x h abstract_method refl refl

          by : (b : Bool) → L (elim b as (λ b. Outcome) [ true ↦ when_ready (need d.key.class) w d.key.class (calls_found ik d vs w) | false ↦ calls_found ik d vs w ])
          by true = readied p o f floats reg w cs g tw t x h refl (need d.key.class) d.key.class (calls_found ik d vs w) (one d.coded refl)
          by false = one d.coded refl

      searched : (y : Search) → ((d : Found) → y ≡ Finds d → L (calls_ready need ik d vs w)) → L (calls_by need ik k vs w g y)
      searched Nothing more = unfound
      searched Clash more = throws_new p o f floats reg w cs g tw t x h class_change refl refl
      searched (Finds d) more = more d refl

    -- ---- what a call passes

    static_args : (c : NamedClass) (m : NamedMethod) (vs : List Value) → is_static m.flags ≡ true → AllHold p f c.name w (parameter_kinds p m.signature.parameters) vs → AllHold p f c.name w (argument_kinds p c m) vs
    static_args c m vs e h = subst (λ b. AllHold p f c.name w (elim b as (λ b. List Kind) [ true ↦ parameter_kinds p m.signature.parameters | false ↦ receiver_kind c m ∷ parameter_kinds p m.signature.parameters ]) vs) (sym e) h

    instance_args : (c : NamedClass) (m : NamedMethod) (v : Value) (vs : List Value) → is_static m.flags ≡ false → KindHolds p f c.name w (receiver_kind c m) v → AllHold p f c.name w (parameter_kinds p m.signature.parameters) vs → AllHold p f c.name w (argument_kinds p c m) (v ∷ vs)
    instance_args c m v vs e i h = subst (λ b. AllHold p f c.name w (elim b as (λ b. List Kind) [ true ↦ parameter_kinds p m.signature.parameters | false ↦ receiver_kind c m ∷ parameter_kinds p m.signature.parameters ]) (v ∷ vs)) (sym e) (i, h, no_low (receiver_kind c m) v (parameter_kinds p m.signature.parameters) vs (receiver_whole c m))

    ordinary : (c : NamedClass) (m : NamedMethod) (v : Value) → is_constructor m ≡ false → IsObject w v → (is_interface c.flags ≡ false → (face_of p f).under (kind_of w v) c.name ≡ true) → KindHolds p f c.name w (receiver_kind c m) v
    ordinary c m v e ob more = subst (λ b. KindHolds p f c.name w (if b then kind.FreshThis else if is_interface c.flags then kind.Reference else kind.Class c.name) v) (sym e) (by (is_interface c.flags) refl)
      where
        by : (b : Bool) → is_interface c.flags ≡ b → KindHolds p f c.name w (if b then kind.Reference else kind.Class c.name) v
        by true i = inr ob
        by false i = inr (ob, more i)

    constructing : (c : NamedClass) (m : NamedMethod) (v : Value) → is_constructor m ≡ true → IsObject w v → (face_of p f).under (kind_of w v) c.name ≡ true → KindHolds p f c.name w (receiver_kind c m) v
    constructing c m v e ob u = subst (λ b. KindHolds p f c.name w (if b then kind.FreshThis else if is_interface c.flags then kind.Reference else kind.Class c.name) v) (sym e) (ob, u)

    pub fits_object : (u : Text) → is_class_type u ≡ true → (r : ℕ) → fits p (kind_at a.registers r) u ≡ true → is_null (register g r) ≡ false → IsObject w (register g r)
    fits_object u cl r e z = by (sorted p u)
      where
        kept : (register g r ≡ Word 0) ⊎ (IsObject w (register g r) × RefFits p f (kind_of w (register g r)) u) → IsObject w (register g r)
        kept (inl i) = true_false (ap is_null i) z
        kept (inr i) = i.0

        by : Sorted p u → IsObject w (register g r)
        by (OfReference q x b k l) = kept (ref_fits p f reg class w u (register g r) (subst (λ y. KindHolds p f class w y (register g r)) k (fits_held p f reg class w (kind_at a.registers r) u (register g r) x e (reg_held p o f floats reg w cs g tw t r))))
        by (OfWord q x b k l) = true_false (class_alone u cl).0 b
        by (OfWide q x b k l) = true_false (class_alone u cl).0 b
        by (OfNone q x b k l) = true_false (class_alone u cl).0 b

    -- what is under nothing isn't of a class
    pub kind_object : (v : Value) → defines p (kind_of w v) ≡ true → IsObject w v
    kind_object (Object m) d = by (slice_get w.heap m) d
      where
        by : (y : Option Thing) → defines p (elim y as (λ y. Text) [ Some t ↦ kind_of_thing t | None ↦ [] ]) ≡ true → is_some y ≡ true
        by (Some t) e = refl
        by None e = absurd (true≢false (sym (reg.regular.class_types [] e)))
    kind_object (Literal s) d = tt
    kind_object (Class s) d = tt
    kind_object (Word m) d = absurd (true≢false (sym (reg.regular.class_types [] d)))
    kind_object (Low m) d = absurd (true≢false (sym (reg.regular.class_types [] d)))
    kind_object (High m) d = absurd (true≢false (sym (reg.regular.class_types [] d)))

    plain_class : (c : NamedClass) → Contains p.classes c → is_interface c.flags ≡ false → is_plain p c.name ≡ true
    plain_class c ci e = plain_by p c.name (Some c) (reg.regular.named c ci) ∙ ap not e

    pub own_class : g.method.class ≡ class
    own_class = ap (λ k. k.class) (t.of ∙ t.in_method.is_key)

    not_named : (m : NamedMethod) (s : Text) → m.name ≡ s → is_constructor_name s ≡ false → is_constructor m ≡ false
    not_named m s e i = ap (λ b. b && not (is_static m.flags)) (ap is_constructor_name e ∙ i)

    -- the length of arguments
    enough : (ik : InvokeKind) (k : MethodKey) (args : List ℕ) → I (form.Invoke ik k args) → length args ≡ passed_words ik k
    enough ik k args h = eqb-true (length args) (passed_words ik k) (untrue2 (nat_eq (length args) (passed_words ik k)) (or_right (wrong_method p ik k || wrong_super p t.in_method.class ik k) (not (nat_eq (length args) (passed_words ik k))) h.right))

    pub right_method : (ik : InvokeKind) (k : MethodKey) (args : List ℕ) → I (form.Invoke ik k args) → (d : Found) → resolves_method p k ≡ Some d → differ (is_static_call ik) (is_static d.flags) ≡ false
    right_method ik k args h d e = sym (ap (λ y. elim y as (λ y. Bool) [ Some g ↦ differ (is_static_call ik) (is_static g.flags) | None ↦ false ]) e) ∙ or_left (wrong_method p ik k) (wrong_super p t.in_method.class ik k) (or_left (wrong_method p ik k || wrong_super p t.in_method.class ik k) (not (nat_eq (length args) (passed_words ik k))) h.right)

    pub right_super : (ik : InvokeKind) (k : MethodKey) (args : List ℕ) → I (form.Invoke ik k args) → wrong_super p t.in_method.class ik k ≡ false
    right_super ik k args h = or_right (wrong_method p ik k) (wrong_super p t.in_method.class ik k) (or_left (wrong_method p ik k || wrong_super p t.in_method.class ik k) (not (nat_eq (length args) (passed_words ik k))) h.right)

    parameters : (k : MethodKey) (m : NamedMethod) (rs : List ℕ) → m.signature ≡ k.signature → list_all met (passed k.signature.parameters rs) ≡ true → length rs ≡ words_of k.signature.parameters → (d : Text) → AllHold p f d w (parameter_kinds p m.signature.parameters) (map (register g) rs)
    parameters k m rs e i l d = subst (λ s. AllHold p f d w (parameter_kinds p s.parameters) (map (register g) rs)) (sym e) (arguments k.signature.parameters rs i l d)

    pub static_calls : (k : MethodKey) (args : List ℕ) → I (form.Invoke call.Static k args) → L (calls (face_of p f) need call.Static k (map (register g) args) w g)
    static_calls k args h = searched call.Static k args h (finds_statically p k) (λ d e. found call.Static k args h d (finds.statically k d e).0 (λ c m is ci sig name.
        static_args c m (map (register g) args) (sym (ap (λ d. is_static d.flags) is) ∙ untrue2 (is_static d.flags) (right_method call.Static k args h d (finds.resolved k d e).0)) (parameters k m args sig h.allowed (let l = enough call.Static k args h in omega (arith, l)) c.name)))

    module _ (ik : InvokeKind) (k : MethodKey) (r : ℕ) (rs : List ℕ) (h : I (form.Invoke ik k (r ∷ rs))) where
      abbrev v : Value
      v = register g r

      guarded : (y : Search) → (is_null v ≡ false → (d : Found) → y ≡ Finds d → L (calls_ready need ik d (map (register g) (r ∷ rs)) w)) → L (on_receiver (map (register g) (r ∷ rs)) w (calls_by need ik k (map (register g) (r ∷ rs)) w g y))
      guarded y more = by (is_null v) refl
        where
          by : (b : Bool) → is_null v ≡ b → L (elim b as (λ b. Outcome) [ true ↦ faults w null_pointer | false ↦ calls_by need ik k (map (register g) (r ∷ rs)) w g y ])
          by true z = throws_new p o f floats reg w cs g tw t (form.Invoke ik k (r ∷ rs)) h null_pointer refl refl
          by false z = searched ik k (r ∷ rs) h y (more z)

    -- ---- by the kinds of calls

    direct_receiver : (k : MethodKey) (r : ℕ) (d : Found) → finds_statically p k ≡ Finds d → (c : NamedClass) (m : NamedMethod) → d ≡ found_in c m → Contains p.classes c → m.name ≡ k.name → is_static m.flags ≡ false → is_null (register g r) ≡ false
        → meets p t.in_method.class a.registers r (if is_constructor_name k.name then Constructed k.class else Fits k.class) ≡ true → KindHolds p f c.name w (receiver_kind c m) (register g r)
    direct_receiver k r d e c m is ci name st z demand = by (is_constructor_name k.name) refl demand
      where
        k_defined : defines p k.class ≡ true
        k_defined = (finds.resolved k d e).1

        k_class : is_class_type k.class ≡ true
        k_class = reg.regular.class_types k.class k_defined

        up : (z : Text) → is_under p f z k.class ≡ true → is_under p f z c.name ≡ true
        up z i = subst (λ q. is_under p f z q ≡ true) (ap (λ d. d.key.class) is) ((finds.statically k d e).1 z i)

        made : (q : Kind) → is_constructed t.in_method.class k.class q ≡ true → KindHolds p f class w q (register g r) → IsObject w (register g r) × ((face_of p f).under (kind_of w (register g r)) c.name ≡ true)
        made (kind.Fresh s j) i q = (q.0, up (kind_of w (register g r)) (subst (λ y. is_under p f y k.class ≡ true) (sym (q.1.0 ∙ text_sound s k.class i)) (under_self p f reg k.class k_class)))
        made kind.FreshThis i q = (q.0, one (or_cases (text_eq class k.class) (text_eq t.in_method.class.superclass k.class) i))
          where
            one : (text_eq class k.class ≡ true) ⊎ (text_eq t.in_method.class.superclass k.class ≡ true) → is_under p f (kind_of w (register g r)) c.name ≡ true
            one (inl j) = up (kind_of w (register g r)) (subst (λ y. is_under p f (kind_of w (register g r)) y ≡ true) (text_sound class k.class j) q.1)
            one (inr j) = up (kind_of w (register g r)) (step_up p f reg class k.class t.in_method.class (reg.regular.named t.in_method.class t.in_method.class_in)
                (subst (λ y. Contains (t.in_method.class.superclass ∷ t.in_method.class.interfaces) y) (text_sound t.in_method.class.superclass k.class j) (0, omega arith, refl)) k_defined (kind_of w (register g r)) q.1)
        made q i s = absurd (true≢false (sym i))

        by : (b : Bool) → is_constructor_name k.name ≡ b → meets p t.in_method.class a.registers r (if b then Constructed k.class else Fits k.class) ≡ true → KindHolds p f c.name w (receiver_kind c m) (register g r)
        by true i dm = let mk = made (kind_at a.registers r) dm (reg_held p o f floats reg w cs g tw t r) in
            constructing c m (register g r) (ap (λ b. b && not (is_static m.flags)) (ap is_constructor_name name ∙ i) ∙ ap not st) mk.0 mk.1
        by false i dm = ordinary c m (register g r) (not_named m k.name name i) (fits_object k.class k_class r dm z) (λ j.
            up (kind_of w (register g r)) (fitting p o f floats reg w cs g tw t k.class (plain_below p f reg k.class c.name k_class (plain_class c ci j) (up k.class (under_self p f reg k.class k_class))) r dm z).1)

    -- arguments of a call with a receiver
    pub instance_calls : (ik : InvokeKind) (k : MethodKey) (args : List ℕ) → I (form.Invoke ik k args) → is_static_call ik ≡ false → ((r : ℕ) (rs : List ℕ) → I (form.Invoke ik k (r ∷ rs)) → length rs ≡ words_of k.signature.parameters → L (calls (face_of p f) need ik k (map (register g) (r ∷ rs)) w g))
        → L (calls (face_of p f) need ik k (map (register g) args) w g)
    instance_calls ik k [] h e more = absurd (let l = enough ik k [] h ∙ ap (λ b. (if b then 0 else 1) + words_of k.signature.parameters) e in omega (arith, l))
    instance_calls ik k (r ∷ rs) h e more = more r rs h (let l = enough ik k (r ∷ rs) h ∙ ap (λ b. (if b then 0 else 1) + words_of k.signature.parameters) e in omega (arith, l))

    pub direct_calls : (k : MethodKey) (args : List ℕ) → I (form.Invoke call.Direct k args) → L (calls (face_of p f) need call.Direct k (map (register g) args) w g)
    direct_calls k args h = instance_calls call.Direct k args h refl (λ r rs h l. guarded call.Direct k r rs h (finds_statically p k) (λ z d e. found call.Direct k (r ∷ rs) h d (finds.statically k d e).0 (λ c m is ci sig name.
        let st = sym (ap (λ d. is_static d.flags) is) ∙ right_method call.Direct k (r ∷ rs) h d (finds.resolved k d e).0 in
        let first = meets p t.in_method.class a.registers r (if is_constructor_name k.name then Constructed k.class else Fits k.class) in
        instance_args c m (register g r) (map (register g) rs) st (direct_receiver k r d e c m is ci name st z (and_left first (list_all met (passed k.signature.parameters rs)) h.allowed))
        (parameters k m rs sig (and_right first (list_all met (passed k.signature.parameters rs)) h.allowed) l c.name))))

    -- a super call's receiver fits the class of what it finds
    pub super_calls : (k : MethodKey) (args : List ℕ) → I (form.Invoke call.Super k args) → L (calls (face_of p f) need call.Super k (map (register g) args) w g)
    super_calls k args h = instance_calls call.Super k args h refl (λ r rs h l. guarded call.Super k r rs h (finds_super p g.method.class k) (λ z d e. let e1 = subst (λ u. finds_super p u k ≡ Finds d) own_class e in
        found call.Super k (r ∷ rs) h d (finds.super class k d e1) (λ c m is ci sig name.
        let wrong = right_super call.Super k (r ∷ rs) h in
        let st = sym (ap (λ d. is_static d.flags) is) ∙ (ap finds_static (sym e1) ∙ or_right (is_constructor_name k.name) (finds_static (finds_super p class k)) wrong) in
        let params = list_all met (passed k.signature.parameters rs) in
        let asked = subst (λ y. list_all met (map (λ q. (r, q)) (Fits k.class ∷ map Fits (found_class y)) ++ passed k.signature.parameters rs) ≡ true) e1 h.allowed in
        let rest = and_right (fits p (kind_at a.registers r) k.class) (fits p (kind_at a.registers r) d.key.class && params) asked in
        instance_args c m (register g r) (map (register g) rs) st (super_receiver k r d e1 c m is ci name z (or_left (is_constructor_name k.name) (finds_static (finds_super p class k)) wrong) (and_left (fits p (kind_at a.registers r) d.key.class) params rest))
        (parameters k m rs sig (and_right (fits p (kind_at a.registers r) d.key.class) params rest) l c.name))))
      where
        super_receiver : (k : MethodKey) (r : ℕ) (d : Found) → finds_super p class k ≡ Finds d → (c : NamedClass) (m : NamedMethod) → d ≡ found_in c m → Contains p.classes c → m.name ≡ k.name → is_null (register g r) ≡ false → is_constructor_name k.name ≡ false
            → fits p (kind_at a.registers r) d.key.class ≡ true → KindHolds p f c.name w (receiver_kind c m) (register g r)
        super_receiver k r d e c m is ci name z con fit = let fit_c = subst (λ u. fits p (kind_at a.registers r) u ≡ true) (ap (λ d. d.key.class) is) fit in
            ordinary c m (register g r) (not_named m k.name name con) (fits_object c.name (reg.regular.class_types c.name (defined_by p c.name (Some c) (reg.regular.named c ci))) r fit_c z)
            (λ j. (fitting p o f floats reg w cs g tw t c.name (plain_class c ci j) r fit_c z).1)

    pub virtual_object : (r : ℕ) (k : MethodKey) (d : Found) → finds_virtually p f (kind_of w (register g r)) k ≡ Finds d → (finds_at p (kind_of w (register g r)) k ≡ Finds d) × (defines p (kind_of w (register g r)) ≡ true)
    virtual_object r k d e = by (class_named p (kind_of w (register g r))) refl (is_under p f (kind_of w (register g r)) k.class) e
      where
        clash : {A : Type 0} → Search.Nothing ≡ Finds d → A
        clash e = absurd (true≢false (ap (λ y. elim y as (λ y. Bool) [ Nothing ↦ true | Clash ↦ true | Finds d ↦ false ]) e))

        by : (y : Option NamedClass) → class_named p (kind_of w (register g r)) ≡ y → (b : Bool) → (elim (is_some (class_named p (kind_of w (register g r))) && b) as (λ b. Search) [ true ↦ finds_at p (kind_of w (register g r)) k | false ↦ Search.Nothing ]) ≡ Finds d
            → (finds_at p (kind_of w (register g r)) k ≡ Finds d) × (defines p (kind_of w (register g r)) ≡ true)
        by None i b j = clash (sym (ap (λ y. elim (is_some y && b) as (λ b. Search) [ true ↦ finds_at p (kind_of w (register g r)) k | false ↦ Search.Nothing ]) i) ∙ j)
        by (Some c) i true j = (sym (ap (λ y. elim (is_some y && true) as (λ b. Search) [ true ↦ finds_at p (kind_of w (register g r)) k | false ↦ Search.Nothing ]) i) ∙ j, defined_by p (kind_of w (register g r)) (Some c) i)
        by (Some c) i false j = clash (sym (ap (λ y. elim (is_some y && false) as (λ b. Search) [ true ↦ finds_at p (kind_of w (register g r)) k | false ↦ Search.Nothing ]) i) ∙ j)

    -- what is virtual is no constructor and isn't static
    pub virtual_flags : (flags : ℕ) (name : Text) → is_virtual flags name ≡ true → (is_static flags ≡ false) × (is_constructor_name name ≡ false)
    virtual_flags flags name e = (not_true (is_static flags) (and_left (not (is_static flags)) (not (is_private flags)) (and_left (not (is_static flags) && not (is_private flags)) (not (is_special name)) e)), by (is_constructor_name name) refl)
      where
        not_true : (b : Bool) → not b ≡ true → b ≡ false
        not_true true i = absurd (true≢false (sym i))
        not_true false i = refl

        by : (b : Bool) → is_constructor_name name ≡ b → b ≡ false
        by false i = refl
        by true i = true_false (ap is_special (text_sound name (codes "<init>") i)) (not_true (is_special name) (and_right (not (is_static flags) && not (is_private flags)) (not (is_special name)) e))

    virtual_receiver : (k : MethodKey) (r : ℕ) (d : Found) → finds_at p (kind_of w (register g r)) k ≡ Finds d → defines p (kind_of w (register g r)) ≡ true → (c : NamedClass) (m : NamedMethod) → d ≡ found_in c m → Contains p.classes c → KindHolds p f c.name w (receiver_kind c m) (register g r)
    virtual_receiver k r d e df c m is ci = let u = kind_of w (register g r) in let fl = virtual_flags d.flags d.key.name (finds.virtually u k d e).1.0 in
        ordinary c m (register g r) (not_named m m.name refl (subst (λ s. is_constructor_name s ≡ false) (ap (λ d. d.key.name) is) fl.1)) (kind_object (register g r) df)
        (λ j. subst (λ q. is_under p f u q ≡ true) (ap (λ d. d.key.class) is) ((finds.virtually u k d e).1.1 u (subst (λ q. is_plain p q ≡ true) (sym (ap (λ d. d.key.class) is)) (plain_class c ci j)) (under_self p f reg u (reg.regular.class_types u df))))

    virtual_args : (ik : InvokeKind) (k : MethodKey) (r : ℕ) (rs : List ℕ) → list_all met (map (λ q. (r, q)) ((if is_constructor_name k.name then Constructed k.class else Fits k.class) ∷ []) ++ passed k.signature.parameters rs) ≡ true → length rs ≡ words_of k.signature.parameters
        → (d : Found) → finds_virtually p f (kind_of w (register g r)) k ≡ Finds d → (c : NamedClass) (m : NamedMethod) → d ≡ found_in c m → Contains p.classes c → m.signature ≡ k.signature → AllHold p f c.name w (argument_kinds p c m) (map (register g) (r ∷ rs))
    virtual_args ik k r rs al l d e c m is ci sig = let vo = virtual_object r k d e in
        let first = meets p t.in_method.class a.registers r (if is_constructor_name k.name then Constructed k.class else Fits k.class) in
        instance_args c m (register g r) (map (register g) rs) (sym (ap (λ d. is_static d.flags) is) ∙ (virtual_flags d.flags d.key.name (finds.virtually (kind_of w (register g r)) k d vo.0).1.0).0) (virtual_receiver k r d vo.0 vo.1 c m is ci)
        (parameters k m rs sig (and_right first (list_all met (passed k.signature.parameters rs)) al) l c.name)

    pub virtual_calls : (k : MethodKey) (args : List ℕ) → I (form.Invoke call.Virtual k args) → L (calls (face_of p f) need call.Virtual k (map (register g) args) w g)
    virtual_calls k args h = instance_calls call.Virtual k args h refl (λ r rs h l. guarded call.Virtual k r rs h (finds_virtually p f (kind_of w (register g r)) k) (λ z d e. found call.Virtual k (r ∷ rs) h d (finds.virtually (kind_of w (register g r)) k d (virtual_object r k d e).0).0
        (λ c m is ci sig name. virtual_args call.Virtual k r rs h.allowed l d e c m is ci sig)))

    pub interface_calls : (k : MethodKey) (args : List ℕ) → I (form.Invoke call.Interface k args) → L (calls (face_of p f) need call.Interface k (map (register g) args) w g)
    interface_calls k args h = instance_calls call.Interface k args h refl (λ r rs h l. guarded call.Interface k r rs h (finds_virtually p f (kind_of w (register g r)) k) (λ z d e. found call.Interface k (r ∷ rs) h d (finds.virtually (kind_of w (register g r)) k d (virtual_object r k d e).0).0
        (λ c m is ci sig name. virtual_args call.Interface k r rs h.allowed l d e c m is ci sig)))
