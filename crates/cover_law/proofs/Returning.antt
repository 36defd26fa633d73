-- Frames that wait are covered again: at a handler, and behind a call or a read that has come back.
use Rattle.std.proofs.Common.{◌≡◌, ℕ, ◌+◌, ◌<◌, Bool, true, false, true≢false, List, [], ◌∷◌, Option, Some, None, ◌⊎◌, inl, inr, refl, sym, ap, ◌∙◌, subst, arith}
use Rattle.std.specs.Prelude.{not, ◌^◌, length, slice_get, Contains, if◌then◌else◌}
use Rattle.std.proofs.lemmas.Bool.{eqb-true}
use Rattle.std.specs.Option.{option_map, option_and_then}
use Rattle.insn_set.specs.declared.ops.InvokeKind.{InvokeKind}
use Rattle.insn_set.specs.declared.ops.InvokeKind.TheVariants as call
use Rattle.insn_set.specs.declared.ops.Item.{Item}
use Rattle.insn_set.specs.Widths.{is_wide_item}
use Rattle.dalvik_defs.specs.Names.{Text, is_void, is_word, is_wide, is_reference}
use Rattle.dalvik_defs.specs.Face.{face_of, bodies_of}
use Rattle.dalvik_defs.specs.Find.{Found, finds_field}
use Rattle.dalvik_defs.specs.Outer.{Outer}
use Rattle.dalvik_defs.specs.State.{World, Classes, Items, is_null, kind_of}
use Rattle.dalvik_defs.specs.Effect.{Goes, register, write_item, next, go}
use Rattle.dalvik_defs.specs.Stack.{lands, handler_at, form_at as form_of, receives, back}
use Rattle.dalvik_defs.specs.declared.state.Value.{Value}
use Rattle.dalvik_defs.specs.declared.state.Value.TheVariants.{Word}
use Rattle.dalvik_defs.specs.declared.state.Frame.{Frame}
use Rattle.dalvik_defs.specs.declared.names.MethodKey.{MethodKey}
use Rattle.dalvik_defs.specs.declared.names.FieldKey.{FieldKey}
use Rattle.dalvik_defs.specs.declared.forms.Form.{Form}
use Rattle.dalvik_defs.specs.declared.forms.Form.TheVariants as form
use Rattle.dalvik_defs.specs.declared.program.NamedProgram.{NamedProgram}
use Rattle.dalvik_defs.specs.declared.tables.Floats.{Floats}
use Rattle.dalvik_defs.specs.declared.tables.Framework.{Framework}
use Rattle.pass_defs.specs.Analysis.{Analysis, IsRanged, read_item}
use Rattle.pass_defs.specs.Bare.{may_throw}
use Rattle.run_facts.specs.Closed.{Given, Left, Results, MayCall, MayLeave, called, refined, then_put, put_sized, arm, edges, field_value}
use Rattle.pass_defs.specs.Facts.{Facts, IsEnteredOn, own_key}
use Rattle.pass_defs.specs.Kinds as kind
use Rattle.pass_defs.specs.Typed.{receiver_register, is_static_call, words_of}
use Rattle.pass_defs.specs.Walks.{form_at}
use Rattle.run_laws.specs.Fine.{IsThere}
use Rattle.run_laws.specs.Holds.{Each}
use Rattle.run_laws.specs.Invariant.{Callee}
use Rattle.run_laws.proofs.Fine.{each_get}
use Rattle.run_laws.proofs.Growing.{grows_same}
use Rattle.run_laws.proofs.Stacked.{LandedOver}
use Rattle.run_facts.specs.Covered.{Sees, SeesAll, Stands, CoversTop, AwaitsCall, AwaitsAnswer, Used}
use Rattle.program_laws.specs.Results.{gives_result}
use Rattle.run_laws.specs.TypedStates.{MaybeOf, AskedOf, TypedFrame}
use Rattle.run_laws.specs.Regular.{reads_value}
use Rattle.run_laws.proofs.Settled.{IsSettled}
use Rattle.run_laws.proofs.Climbs.{none_some, some_one}
use Rattle.run_laws.proofs.Sorts.{Sorted, OfWord, OfWide, OfReference, OfNone, sorted}
use Rattle.run_laws.proofs.Arrays.{true_false}
use Rattle.run_laws.proofs.Forms.{first_in}
use Rattle.run_laws.proofs.Here.{setting, own_body, get_contains, at_form}
use Rattle.run_laws.proofs.Here as typed
use Rattle.cover_law.proofs.Ready.{IsReady}
use Rattle.cover_law.specs.Known.{KnownWorld, MaybeRanged, RangedThing}
use Rattle.cover_law.proofs.Along.{Along, closer, item_ranged, then_item, just_item}
use Rattle.cover_law.proofs.Reading.{Ss, reads_seen, enough}
use Rattle.cover_law.proofs.Standing.{reg_there, at_typed, gone_on, top_on, caught_on}
use Rattle.cover_law.proofs.Entering.{nothing_behind}
use Rattle.cover_law.proofs.Stays.{below, covers}
use Rattle.cover_law.proofs.Waiting.{item_method}

module _ {V : Type 0} (a : Analysis V) (p : NamedProgram) (o : Outer) (f : Framework) (floats : Floats) (facts : Facts V) (base : IsReady a p o f floats facts) (reg : IsSettled p) where
  abbrev S : V → World → Value → Type 0
  S = Sees a p o facts

  void_kind : (u : Text) → is_void u ≡ true → kind.kind_of p u ≡ kind.Undefined
  void_kind [] e = absurd (true≢false (sym e))
  void_kind (c ∷ us) e = by (sorted p (c ∷ us))
    where
      no : {A : Type 0} (test : ℕ → Bool) → test c ≡ true → test 86 ≡ false → A
      no test i j = absurd (true≢false (sym i ∙ (ap test (eqb-true c 86 e) ∙ j)))

      by : Sorted p (c ∷ us) → kind.kind_of p (c ∷ us) ≡ kind.Undefined
      by (OfWord q b d j m) = no (λ y. is_word (y ∷ us)) q refl
      by (OfWide q b d j m) = no (λ y. is_wide (y ∷ us)) b refl
      by (OfReference q b d j m) = no (λ y. is_reference (y ∷ us)) d refl
      by (OfNone q b d j m) = j

  module _ (w : World) (cs : Classes) (g : Frame) (t : TypedFrame p f w g) (y : Form) (has : form_at t.in_method.body g.position ≡ Some y) (st : Stands a p o facts w g) where
    -- a thrown object lands at a handler
    pub lands_covered : may_throw y ≡ true → (v : Value) → LandedOver (setting p o f floats reg) (bodies_of p) (below a p o f floats facts base reg) (covers a p o f floats facts base reg) w cs (lands (face_of p f) (bodies_of p) w g v)
    lands_covered thr v = subst (λ b. L (option_map (λ at. record (go g at) { caught = v }) (option_and_then (handler_at above g.position) b))) (sym (ap (bodies_of p) t.of ∙ t.in_method.has_body)) (by (handler_at above g.position t.in_method.body) refl)
      where
        above : Text → Bool
        above = (face_of p f).under (kind_of w v)

        L : Option Frame → Type 0
        L = LandedOver (setting p o f floats reg) (bodies_of p) (below a p o f floats facts base reg) (covers a p o f floats facts base reg) w cs

        by : (z : Option ℕ) → handler_at above g.position t.in_method.body ≡ z → L (option_map (λ at. record (go g at) { caught = v }) z)
        by None i = tt
        by (Some q) i = λ u. caught_on a p o f floats facts base reg w g t y has st thr w (grows_same w w refl) above v q i

    abbrev x : ℕ → V
    x = st.registers

    abbrev Reads_all : List ℕ → Type 0
    Reads_all = Ss a p o f floats reg facts w g t x st.hold

    at_y : typed.At p o f floats reg w g t y
    at_y = let here = at_form p o f floats reg w g t in subst (λ z. typed.At p o f floats reg w g t z) (some_one here.0 y (sym here.1.has ∙ has)) here.1

    module _ (kw : KnownWorld p o w) where
      there : (r : ℕ) → IsThere w (register g r)
      there r = reg_there a p o f floats facts base reg w g t r

      arrays : (n : ℕ) (k : Text) (vs : List Value) → slice_get w.heap n ≡ Some (Items k vs) → (length vs < 2 ^ 31) × Each IsRanged vs
      arrays n k vs e = each_get RangedThing w.heap n (Items k vs) kw.ranged.things e

      abbrev Goes_to : List (ℕ × (ℕ → V)) → Frame → Type 0
      Goes_to es g1 = Along a p facts (face_of p f).under floats base.sound w g x st.hold there arrays es (Goes w g1)

      used_on : (r : ℕ) → S (x r) w (register g r) → is_null (register g r) ≡ false → Goes_to (arm a (g.position + 1) (refined a r (a.held (x r)) x)) (next g)
      used_on r s z = closer a p facts (face_of p f).under floats base.sound w g x st.hold there arrays r (a.held (x r)) (base.sound.holders (x r) (kind_of w (register g r)) (register g r) s z)

      -- ---- calls

      behind : (ik : InvokeKind) (m : MethodKey) (args : List ℕ) → typed.At p o f floats reg w g t (form.Invoke ik m args) → ((r : ℕ) → Contains (Used a p o facts (form.Invoke ik m args)) r → is_null (register g r) ≡ false) → Goes_to (arm a (g.position + 1) (called a ik args x)) (next g)
      behind call.Static m args h past = ((g.position + 1, x), (0, omega arith, refl), refl, st.hold)
      behind call.Direct m args h past = one call.Direct m args h refl (past (receiver_register args) (0, omega arith, refl))
        where
          one : (ik : InvokeKind) (m : MethodKey) (args : List ℕ) → typed.At p o f floats reg w g t (form.Invoke ik m args) → is_static_call ik ≡ false → is_null (register g (receiver_register args)) ≡ false → Goes_to (arm a (g.position + 1) (refined a (receiver_register args) (a.held (x (receiver_register args))) x)) (next g)
          one ik m [] h e z = absurd (let l = enough a p o f floats reg facts w g t x st.hold ik m [] h ∙ ap (λ b. (if b then 0 else 1) + words_of m.signature.parameters) e in omega (arith, l))
          one ik m (r ∷ rs) h e z = used_on r (reads_seen a p o f floats reg facts w g t x st.hold (form.Invoke ik m (r ∷ rs)) h).0 z
      behind call.Super m args h past = one m args h (past (receiver_register args) (0, omega arith, refl))
        where
          one : (m : MethodKey) (args : List ℕ) → typed.At p o f floats reg w g t (form.Invoke call.Super m args) → is_null (register g (receiver_register args)) ≡ false → Goes_to (arm a (g.position + 1) (refined a (receiver_register args) (a.held (x (receiver_register args))) x)) (next g)
          one m [] h z = absurd (let l = enough a p o f floats reg facts w g t x st.hold call.Super m [] h in omega (arith, l))
          one m (r ∷ rs) h z = used_on r (reads_seen a p o f floats reg facts w g t x st.hold (form.Invoke call.Super m (r ∷ rs)) h).0 z
      behind call.Virtual m args h past = one m args h (past (receiver_register args) (0, omega arith, refl))
        where
          one : (m : MethodKey) (args : List ℕ) → typed.At p o f floats reg w g t (form.Invoke call.Virtual m args) → is_null (register g (receiver_register args)) ≡ false → Goes_to (arm a (g.position + 1) (refined a (receiver_register args) (a.held (x (receiver_register args))) x)) (next g)
          one m [] h z = absurd (let l = enough a p o f floats reg facts w g t x st.hold call.Virtual m [] h in omega (arith, l))
          one m (r ∷ rs) h z = used_on r (reads_seen a p o f floats reg facts w g t x st.hold (form.Invoke call.Virtual m (r ∷ rs)) h).0 z
      behind call.Interface m args h past = one m args h (past (receiver_register args) (0, omega arith, refl))
        where
          one : (m : MethodKey) (args : List ℕ) → typed.At p o f floats reg w g t (form.Invoke call.Interface m args) → is_null (register g (receiver_register args)) ≡ false → Goes_to (arm a (g.position + 1) (refined a (receiver_register args) (a.held (x (receiver_register args))) x)) (next g)
          one m [] h z = absurd (let l = enough a p o f floats reg facts w g t x st.hold call.Interface m [] h in omega (arith, l))
          one m (r ∷ rs) h z = used_on r (reads_seen a p o f floats reg facts w g t x st.hold (form.Invoke call.Interface m (r ∷ rs)) h).0 z

      -- with a value that is one of the call's results, or with none where it gives none
      pub called_back : (ik : InvokeKind) (m : MethodKey) (args : List ℕ) → y ≡ form.Invoke ik m args → ((r : ℕ) → Contains (Used a p o facts y) r → is_null (register g r) ≡ false) → (v : Option Value)
          → ((u : Value) → v ≡ Some u → (z : V) × (Results a p o facts g.method x y z × S z w u)) → (v ≡ None → is_void m.signature.result ≡ true) → CoversTop a p o facts w (back (bodies_of p) g v)
      called_back ik m args e past v results void = by v results void
        where
          call_at : typed.At p o f floats reg w g t (form.Invoke ik m args)
          call_at = subst (typed.At p o f floats reg w g t) e at_y

          has_call : form_at t.in_method.body g.position ≡ Some (form.Invoke ik m args)
          has_call = has ∙ ap Some e

          al : Goes_to (arm a (g.position + 1) (called a ik args x)) (next g)
          al = behind ik m args call_at (subst (λ y. (r : ℕ) → Contains (Used a p o facts y) r → is_null (register g r) ≡ false) e past)

          stands : (g1 : Frame) → g1.position ≡ g.position + 1 → g1.method ≡ g.method → g1.registers ≡ g.registers → Stands a p o facts w g1
          stands g1 ep em er = gone_on a p o f floats facts base reg w g t (form.Invoke ik m args) has_call st w g1 al.0 al.1 (ep ∙ al.2) em (subst (λ vs. SeesAll a p o facts al.0.1 w vs) (sym er) al.3)

          own : form_of (bodies_of p) g ≡ Some (form.Invoke ik m args)
          own = ap (λ b. option_and_then (λ b. slice_get b.forms g.position) b) (ap (bodies_of p) t.of ∙ t.in_method.has_body) ∙ has_call

          by : (v : Option Value) → ((u : Value) → v ≡ Some u → (z : V) × (Results a p o facts g.method x y z × S z w u)) → (v ≡ None → is_void m.signature.result ≡ true) → CoversTop a p o facts w (back (bodies_of p) g v)
          by None results void = record {
            stands = stands (next (record g { result = Word 0 })) refl refl refl;
            takes = λ s to j. nothing_behind a p o f floats facts base reg w g t (form.Invoke ik m args) call_at (void_kind m.signature.result (void refl)) (first_in (g.position + 1) []) w (next (record g { result = Word 0 })) refl refl s to j;
          }
          by (Some u) results void = subst (CoversTop a p o facts w) (sym (ap (λ z. receives z g u) own)) (let r = results u refl in record {
            stands = stands (next (record g { result = u })) refl refl refl;
            takes = λ s to j. record { before = g.position; behind = refl; at = at_typed a p o f floats facts base reg w g t y x has st.reached; value = r.0; from = r.1.0; holds = r.1.1 };
          })

      -- ---- fields that the framework reads

      field_back : (i : Item) (to : ℕ) (k : FieldKey) (u : Value) → IsRanged u → finds_field p k ≡ None → (z : Option (ℕ → V)) → edges a p facts g.position y x ≡ arm a (g.position + 1) z → gives_result y ≡ false
          → (a.holds (field_value a p facts k) (kind_of w (read_item a i u)) (read_item a i u) → Goes_to (arm a (g.position + 1) z) (next (write_item i g to u))) → CoversTop a p o facts w (next (write_item i g to u))
      field_back i to k u r none z ed gives more = let ri = read_item a i u in
          let al = more (subst (λ m. a.holds (elim m as (λ m. V) [ Some f ↦ facts.fields (own_key k f) | None ↦ a.outer k.kind ]) (kind_of w ri) ri) (sym none)
          (base.sound.outers k.kind (kind_of w ri) ri (item_ranged a p facts (face_of p f).under floats base.sound w g x st.hold there arrays i u r))) in
          top_on a p o f floats facts base reg w g t y has st gives w (next (write_item i g to u)) al.0 (subst (λ es. Contains es al.0) (sym ed) al.1) al.2 (item_method a p o f floats facts base reg i g to u) al.3

      own_y : form_of (bodies_of p) g ≡ Some y
      own_y = ap (λ b. option_and_then (λ b. slice_get b.forms g.position) b) (ap (bodies_of p) t.of ∙ t.in_method.has_body) ∙ has

      no_void : {A : Type 0} (u : Text) → reads_value y ≡ not (is_void u) → is_void u ≡ true → A
      no_void u l e = true_false (reg.regular.reads t.in_method.class t.in_method.method t.in_method.body y t.in_method.class_in t.in_method.method_in (own_body p o f floats reg w g t) (get_contains t.in_method.body.forms g.position y has)) (l ∙ ap not e)

    -- what the framework answers
    pub answered : KnownWorld p o w → (u : Text) → AwaitsAnswer a p o facts g x y u → ((r : ℕ) → Contains (Used a p o facts y) r → is_null (register g r) ≡ false) → (v : Option Value) → MaybeRanged v → (v ≡ None → is_void u ≡ true) → CoversTop a p o facts w (back (bodies_of p) g v)
    answered kw u awaits past v ranged void = by y refl awaits
      where
        given_back : (i : Item) (to : ℕ) (k : FieldKey) → y ≡ form.StaticGet i to k ⊎ ((on : ℕ) × (y ≡ form.InstanceGet i to on k)) → finds_field p k ≡ None → k.kind ≡ u → (v : Option Value) → MaybeRanged v → (v ≡ None → is_void u ≡ true) → CoversTop a p o facts w (back (bodies_of p) g v)
        given_back i to k (inl e) none ku None r vd = no_void kw k.kind (ap reads_value e) (ap is_void ku ∙ vd refl)
        given_back i to k (inr e) none ku None r vd = no_void kw k.kind (ap reads_value e.1) (ap is_void ku ∙ vd refl)
        given_back i to k (inl e) none ku (Some q) r vd = subst (CoversTop a p o facts w) (sym (ap (λ z. receives z g q) (own_y kw ∙ ap Some e)))
            (field_back kw i to k q r none (Some (put_sized a (is_wide_item i) to (field_value a p facts k) x)) (ap (λ y. edges a p facts g.position y x) e) (ap gives_result e)
            (λ h. just_item a p facts (face_of p f).under floats base.sound w g x st.hold (there kw) (arrays kw) to i (field_value a p facts k) w q (grows_same w w refl) h))
        given_back i to k (inr (on, e)) none ku (Some q) r vd = subst (CoversTop a p o facts w) (sym (ap (λ z. receives z g q) (own_y kw ∙ ap Some e)))
            (field_back kw i to k q r none (then_put a (is_wide_item i) to (field_value a p facts k) (refined a on (a.held (x on)) x)) (ap (λ y. edges a p facts g.position y x) e) (ap gives_result e)
            (λ h. then_item a p facts (face_of p f).under floats base.sound w g x st.hold (there kw) (arrays kw) on to (a.held (x on)) i (field_value a p facts k) w q (grows_same w w refl)
            (base.sound.holders (x on) (kind_of w (register g on)) (register g on) (reads_seen a p o f floats reg facts w g t x st.hold (form.InstanceGet i to on k) (subst (typed.At p o f floats reg w g t) e at_y)).0
            (past on (subst (λ y. Contains (Used a p o facts y) on) (sym e) (0, omega arith, refl)))) h))

        by : (z : Form) → y ≡ z → AwaitsAnswer a p o facts g x z u → CoversTop a p o facts w (back (bodies_of p) g v)
        by (form.Invoke ik m args) e aw = called_back kw ik m args e past v
            (λ q i. (a.outer m.signature.result, (subst (λ z. Results a p o facts g.method x z (a.outer m.signature.result)) (sym e) (Left ik m args aw.0), base.sound.outers m.signature.result (kind_of w q) q (subst MaybeRanged i ranged))))
            (λ i. ap is_void aw.1 ∙ void i)
        by (form.InstanceGet i to on k) e aw = given_back i to k (inr (on, e)) aw.0 aw.1 v ranged void
        by (form.StaticGet i to k) e aw = given_back i to k (inl e) aw.0 aw.1 v ranged void
        by z e aw = absurd aw

    -- what a method that was called gives
    pub returned : KnownWorld p o w → (k : MethodKey) → AwaitsCall a p o facts g x y k → AskedOf p f y (Callee k) → ((r : ℕ) → Contains (Used a p o facts y) r → is_null (register g r) ≡ false) → (v : Option Value) → MaybeRanged v → ((u : Value) → v ≡ Some u → S (facts.results k) w u)
        → MaybeOf p f w k.signature.result v → CoversTop a p o facts w (back (bodies_of p) g v)
    returned kw k (ik, m, args, e, from) (jk, (n, (brgs, (i, s)))) past v ranged seen typed_value = called_back kw ik m args e past v (results from) (λ j. void v j typed_value)
      where
        same_key : m ≡ n
        same_key = ap (λ z. elim z as (λ z. MethodKey) [ form.Invoke ik m args ↦ m | z ↦ k ]) (sym e ∙ i)

        void : (v : Option Value) → v ≡ None → MaybeOf p f w k.signature.result v → is_void m.signature.result ≡ true
        void None j h = ap (λ m. is_void m.signature.result) same_key ∙ (ap (λ s. is_void s.result) s ∙ h)
        void (Some u) j h = none_some u (sym j)

        results : ((d : Found) × MayCall a p o g.method.class x args ik m d × (d.key ≡ k)) ⊎ (MayLeave a p o g.method.class x args ik m × IsEnteredOn p o k) → (u : Value) → v ≡ Some u → (z : V) × (Results a p o facts g.method x y z × S z w u)
        results (inl (d, c, l)) u j = (facts.results d.key, (subst (λ z. Results a p o facts g.method x z (facts.results d.key)) (sym e) (Given ik m args d c), subst (λ q. S (facts.results q) w u) (sym l) (seen u j)))
        results (inr (l, eo)) u j = (a.outer m.signature.result, (subst (λ z. Results a p o facts g.method x z (a.outer m.signature.result)) (sym e) (Left ik m args l), base.sound.outers m.signature.result (kind_of w u) u (subst MaybeRanged j ranged)))
