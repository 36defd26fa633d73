-- What comes of an effect is the same for two faces that agree, and keeps to what is live.
use Rattle.std.proofs.Common.{◌≡◌, ℕ, ◌+◌, ◌-◌, Bool, true, false, List, [], refl, sym, ap, ◌∙◌, subst}
use Rattle.std.specs.Prelude.{◌&&◌, Option, Some, None, is_some}
use Rattle.insn_set.specs.declared.ops.Item.{Item}
use Rattle.insn_set.specs.declared.ops.InvokeKind.{InvokeKind}
use Rattle.insn_set.specs.declared.ops.InvokeKind.TheVariants as call
use Rattle.dalvik_defs.specs.Names.{Text, method_eq, object_constructor}
use Rattle.dalvik_defs.specs.Flags.{is_static, is_native}
use Rattle.dalvik_defs.specs.Known.{null_pointer, no_class, class_change, abstract_method}
use Rattle.dalvik_defs.specs.Find.{Found, Search, Nothing, Clash, Finds}
use Rattle.dalvik_defs.specs.Face.{Face, Place, Bodies, is_defined}
use Rattle.dalvik_defs.specs.Outer.{Outer}
use Rattle.dalvik_defs.specs.State.{World, Classes, Done, Thing, Instance, Items, is_null, thing_at, next_object, with_thing, fresh, kind_of, put_field}
use Rattle.dalvik_defs.specs.declared.state.Value.{Value}
use Rattle.dalvik_defs.specs.declared.state.Frame.{Frame}
use Rattle.dalvik_defs.specs.Fields.{key_at, static_value, instance_value, with_static, with_instance}
use Rattle.dalvik_defs.specs.Effect.{Effect, Goes, Faults, Throws, Gives, Calls, Makes, Reads, Writes, Locks, Unlocks, Stuck, write, write_item, next}
use Rattle.dalvik_defs.specs.Show.{show, show_all, show_option}
use Rattle.dalvik_defs.specs.Outcome.{Outcome, Stays, Starts, Enters, Leaves, Ends, Raises, Halts, Need, Ready, Fresh, Broken, need_if, need_of, faults, when_ready, passed_types, calls_out, native_kind, takes_no_receiver, calls_uncoded, calls_found, calls_ready, is_direct, calls_unfound, calls_by, receiver, on_receiver, calls, makes, reads_value, reads_out, reads_static, reads_instance, reads, writes_out, written, writes_static, writes_instance, writes, with_lock, locks, unlocks, outcome}
use Rattle.dalvik_defs.specs.declared.state.Value.TheVariants.{Word}
use Rattle.dalvik_defs.specs.declared.names.MethodKey.{MethodKey}
use Rattle.dalvik_defs.specs.declared.names.FieldKey.{FieldKey}
use Rattle.dalvik_defs.specs.declared.forms.Form.{Form}
use Rattle.dalvik_defs.specs.declared.forms.Form.TheVariants as form
use Rattle.dalvik_defs.specs.declared.events.Event.TheVariants as event
use Rattle.dalvik_defs.specs.declared.program.NamedProgram.{NamedProgram}
use Rattle.pass_defs.specs.Bare.{may_throw, continues}
use Rattle.pass_defs.specs.Walks.{onward}
use Rattle.removal_law.specs.Left.{In}
use Rattle.removal_law.specs.Agree.{AgreeOnCall, AgreeOnField, CalmDone, Agree}
use Rattle.removal_law.proofs.Lists.{clash}
use Rattle.removal_law.proofs.Worlds.{show_heap, option_heap, all_heap, item_method, item_position}
use Rattle.removal_law.proofs.Acts.{Sound, sound_heap, sound_with, sound_put, sound_at, kind_ok, kind_made, EffectOk, Waits, goes_next}

module _ (ok made : Text → Type 0) (live : MethodKey → Type 0) (says : MethodKey → Form → Type 0) (stands : MethodKey → ℕ → Type 0) (calm : Text → Bool) (p : NamedProgram) (o : Outer) (F G : Face) (find other : Bodies)
    (agree : Agree ok made live says stands calm p o F G find other) where
  abbrev Fine : World → Type 0
  Fine = Sound ok made live says stands calm p o F G find other agree

  abbrev WaitsHere : Form → Type 0
  WaitsHere = Waits ok made live says stands calm p o F G find other agree

  -- what comes of a form in a frame of a method at a position
  abbrev pub OutcomeOk : MethodKey → ℕ → Form → Outcome → Type 0
  OutcomeOk m n x (Stays w f e) = Fine w × ((f.method ≡ m) × In f.position (onward x n))
  OutcomeOk m n x (Starts c) = (ok c × (calm c ≡ false)) × WaitsHere x
  OutcomeOk m n x (Enters k vs) = live k × WaitsHere x
  OutcomeOk m n x (Leaves w owes e) = (Fine w × ok owes) × WaitsHere x
  OutcomeOk m n x (Ends v) = Unit {0}
  OutcomeOk m n x (Raises w v) = Fine w × (may_throw x ≡ true)
  OutcomeOk m n x Halts = Unit {0}

  pub record Comes (m : MethodKey) (n : ℕ) (x : Form) (a b : Outcome) : Type 0 where
    pub same : a ≡ b
    pub good : OutcomeOk m n x a

  pub need_same : (c : Classes) (t : Text) → ok t → need_of F c t ≡ need_of G c t
  need_same c t h = ap (λ x. need_if (is_some x) (c t)) (agree.flags t h)

  -- a class that has to be started isn't calm, where the calm ones are done
  abbrev is_fresh : Need → Bool
  is_fresh Ready = false
  is_fresh Fresh = true
  is_fresh Broken = false

  done_ready : (b : Bool) → is_fresh (need_if b Done) ≡ false
  done_ready true = refl
  done_ready false = refl

  pub fresh_calm : (c : Classes) (t : Text) → CalmDone calm c → need_of F c t ≡ Fresh → calm t ≡ false
  fresh_calm c t done e = by (calm t) refl
    where
      by : (b : Bool) → calm t ≡ b → calm t ≡ false
      by true i = clash (is_fresh (need_of F c t)) (ap is_fresh e) (ap (λ x. is_fresh (need_if (is_some (F.flags t)) x)) (done t i) ∙ done_ready (is_some (F.flags t)))
      by false i = i

  fine_heap : (w v : World) → v.heap ≡ w.heap → Fine w → Fine v
  fine_heap = sound_heap ok made live says stands calm p o F G find other agree

  fine_with : (w : World) (t : Text) → Fine w → ok t × made t → Fine (with_thing w (fresh t))
  fine_with w t = sound_with ok made live says stands calm p o F G find other agree w (fresh t)

  module _ (c : Classes) (w : World) (f : Frame) (h : Fine w) (done : CalmDone calm c) (x : Form) where
    abbrev Come : Outcome → Outcome → Type 0
    Come a b = Comes f.method f.position x a b

    one : (a : Outcome) → OutcomeOk f.method f.position x a → Comes f.method f.position x a a
    one a g = record { same = refl; good = g }

    come_if : (b : Bool) (d d' e e' : Outcome) → Come d d' → Come e e' → Come (elim b [ true ↦ d | false ↦ e ]) (elim b [ true ↦ d' | false ↦ e' ])
    come_if true d d' e e' a b = a
    come_if false d d' e e' a b = b

    fault : (t : Text) → may_throw x ≡ true → ok t × made t → Come (faults w t) (faults w t)
    fault t y k = one (faults w t) (fine_with w t h k, y)

    -- ---- monitors

    next_in : continues x ≡ true → In (f.position + 1) (onward x f.position)
    next_in = goes_next ok made live says stands calm p o F G find other agree x f.position

    lock : (v : Value) → continues x ≡ true → Come (locks w v f) (locks w v f)
    lock v e = one (locks w v f) (fine_heap w (with_lock (show w (kind_of w v) v).0 v (w.locks v + 1)) (show_heap w (kind_of w v) v) h, (refl, next_in e))

    unlock : (v : Value) → continues x ≡ true → Come (unlocks w v f) (unlocks w v f)
    unlock v e = one (unlocks w v f) (fine_heap w (with_lock (show w (kind_of w v) v).0 v (w.locks v - 1)) (show_heap w (kind_of w v) v) h, (refl, next_in e))

    module _ (y : Waits ok made live says stands calm p o F G find other agree x) where
      ready : (n : Need) (t : Text) (d e : Outcome) → (n ≡ Fresh → calm t ≡ false) → ok t → Come d e → Come (when_ready n w t d) (when_ready n w t e)
      ready Ready t d e i k a = a
      ready Fresh t d e i k a = one (Starts t) ((k, i refl), y)
      ready Broken t d e i k a = fault no_class y.1 (agree.known no_class refl)

      needed : (t : Text) (d e : Outcome) → ok t → Come d e → Come (when_ready (need_of F c t) w t d) (when_ready (need_of G c t) w t e)
      needed t d e k a = subst (λ n. Come (when_ready (need_of F c t) w t d) (when_ready n w t e)) (need_same c t k) (ready (need_of F c t) t d e (fresh_calm c t done) k a)

      -- ---- calls

      out : (kind : InvokeKind) (static : Bool) (k : MethodKey) (vs : List Value) → ok k.signature.result → Come (calls_out kind static k vs w) (calls_out kind static k vs w)
      out kind static k vs r = one (calls_out kind static k vs w) ((fine_heap w (show_all w (passed_types static k) vs).0 (all_heap (passed_types static k) w vs) h, r), y)

      uncoded : (kind : InvokeKind) (g : Found) (vs : List Value) → live g.key → Come (calls_uncoded kind g vs w) (calls_uncoded kind g vs w)
      uncoded kind g vs l = come_if (is_native g.flags) _ _ _ _ (out (native_kind kind) (takes_no_receiver kind) g.key vs (agree.result_ok g.key l)) (fault abstract_method y.1 (agree.known abstract_method refl))

      found : (kind : InvokeKind) (g : Found) (vs : List Value) → live g.key → Come (calls_found kind g vs w) (calls_found kind g vs w)
      found kind g vs l = come_if g.coded _ _ _ _ (one (Enters g.key vs) (l, y)) (uncoded kind g vs l)

      found_ready : (kind : InvokeKind) (g : Found) (vs : List Value) → live g.key → Come (calls_ready (need_of F c) kind g vs w) (calls_ready (need_of G c) kind g vs w)
      found_ready kind g vs l = come_if (is_static g.flags) _ _ _ _ (needed g.key.class (calls_found kind g vs w) (calls_found kind g vs w) (agree.class_ok g.key l) (found kind g vs l)) (found kind g vs l)

      unfound : (kind : InvokeKind) (k : MethodKey) (vs : List Value) → ok k.signature.result → Come (calls_unfound kind k vs w f) (calls_unfound kind k vs w f)
      unfound kind k vs r = come_if (is_direct kind && method_eq k object_constructor) _ _ _ _ (one (Stays w (next (record f { result = Word 0 })) None) (h, (refl, next_in y.0))) (out kind (takes_no_receiver kind) k vs r)

      by_search : (kind : InvokeKind) (k : MethodKey) (vs : List Value) (a : Search) → ok k.signature.result → ((g : Found) → a ≡ Finds g → live g.key)
          → Come (calls_by (need_of F c) kind k vs w f a) (calls_by (need_of G c) kind k vs w f a)
      by_search kind k vs Nothing r l = unfound kind k vs r
      by_search kind k vs Clash r l = fault class_change y.1 (agree.known class_change refl)
      by_search kind k vs (Finds g) r l = found_ready kind g vs (l g refl)

      search : (kind : InvokeKind) (k : MethodKey) (vs : List Value) (a b : Search) → ok k.signature.result → AgreeOnCall ok made live a b
          → Come (calls_by (need_of F c) kind k vs w f a) (calls_by (need_of G c) kind k vs w f b)
      search kind k vs a b r e = subst (λ j. Come (calls_by (need_of F c) kind k vs w f a) (calls_by (need_of G c) kind k vs w f j)) e.same (by_search kind k vs a r e.live_found)

      receive : (vs : List Value) (d e : Outcome) → Come d e → Come (on_receiver vs w d) (on_receiver vs w e)
      receive vs d e a = come_if (is_null (receiver vs)) _ _ _ _ (fault null_pointer y.1 (agree.known null_pointer refl)) a

      at_kind : (v : Value) → ok (kind_of w v)
      at_kind v = kind_ok ok made live says stands calm p o F G find other agree w v h.kinds

      at_made : (v : Value) → made (kind_of w v)
      at_made v = kind_made ok made live says stands calm p o F G find other agree w v h.mades

      called : (kind : InvokeKind) (k : MethodKey) (args : List ℕ) (vs : List Value) → says f.method (form.Invoke kind k args)
          → Come (calls F (need_of F c) kind k vs w f) (calls G (need_of G c) kind k vs w f)
      called call.Static k args vs s = search call.Static k vs _ _ (agree.answers f.method call.Static k args s) (agree.calls f.method call.Static k args [] s agree.empty.0 agree.empty.1)
      called call.Direct k args vs s = receive vs _ _ (search call.Direct k vs _ _ (agree.answers f.method call.Direct k args s) (agree.calls f.method call.Direct k args [] s agree.empty.0 agree.empty.1))
      called call.Super k args vs s = receive vs _ _ (search call.Super k vs _ _ (agree.answers f.method call.Super k args s) (agree.calls f.method call.Super k args [] s agree.empty.0 agree.empty.1))
      called call.Virtual k args vs s = receive vs _ _ (search call.Virtual k vs _ _ (agree.answers f.method call.Virtual k args s)
          (agree.calls f.method call.Virtual k args (kind_of w (receiver vs)) s (at_kind (receiver vs)) (at_made (receiver vs))))
      called call.Interface k args vs s = receive vs _ _ (search call.Interface k vs _ _ (agree.answers f.method call.Interface k args s)
          (agree.calls f.method call.Interface k args (kind_of w (receiver vs)) s (at_kind (receiver vs)) (at_made (receiver vs))))

      -- ---- objects

      abbrev made_outcome : Text → ℕ → Need → Bool → Outcome
      made_outcome t to n b = elim b [
        | true ↦ when_ready n w t (Stays (with_thing w (fresh t)) (next (write f to (next_object w))) None)
        | false ↦ Stays (show (with_thing w (fresh t)) t (next_object w)).0 (next (write f to (next_object w))) (Some (event.Make (show (with_thing w (fresh t)) t (next_object w)).1))
      ]

      make : (t : Text) (to : ℕ) → says f.method (form.NewInstance to t) → Come (makes F (need_of F c) to t w f) (makes G (need_of G c) to t w f)
      make t to s = subst (λ b. Come (made_outcome t to (need_of F c t) (is_defined F t)) (made_outcome t to (need_of G c t) b)) (ap is_some (agree.flags t k.0)) (by (is_defined F t))
        where
          k : ok t × made t
          k = agree.news f.method to t s

          fine : Fine (with_thing w (fresh t))
          fine = fine_with w t h k

          by : (b : Bool) → Come (made_outcome t to (need_of F c t) b) (made_outcome t to (need_of G c t) b)
          by true = needed t _ _ k.0 (one (Stays (with_thing w (fresh t)) (next (write f to (next_object w))) None) (fine, (refl, next_in y.0)))
          by false = one (made_outcome t to (need_of F c t) false) (fine_heap (with_thing w (fresh t)) (show (with_thing w (fresh t)) t (next_object w)).0 (show_heap (with_thing w (fresh t)) t (next_object w)) fine, (refl, next_in y.0))

      -- ---- fields

      read : (i : Item) (to : ℕ) (v : Option Value) → Come (reads_value i to v w f) (reads_value i to v w f)
      read i to (Some v) = one (Stays w (next (write_item i f to v)) None) (h, (item_method f i to v, subst (λ n. In n (onward x f.position)) (sym (item_position f i to v)) (next_in y.0)))
      read i to None = one Halts tt

      read_out : (k : FieldKey) (on : Option Value) → ok k.kind → Come (reads_out k on w) (reads_out k on w)
      read_out k on r = one (reads_out k on w) ((fine_heap w (show_option w k.class on).0 (option_heap w k.class on) h, r), y)

      read_static : (i : Item) (to : ℕ) (k : FieldKey) (j : Option Place) → ok k.kind → ((z : Place) → j ≡ Some z → ok z.class)
          → Come (reads_static (need_of F c) i to k w f j) (reads_static (need_of G c) i to k w f j)
      read_static i to k (Some z) r l = needed z.class _ _ (l z refl) (read i to (Some (static_value w k z)))
      read_static i to k None r l = read_out k None r

      read_instance : (i : Item) (to : ℕ) (k : FieldKey) (on : Value) (j : Option Place) → ok k.kind → Come (reads_instance i to k on w f j) (reads_instance i to k on w f j)
      read_instance i to k on (Some z) r = read i to (instance_value k z (thing_at w on))
      read_instance i to k on None r = read_out k (Some on) r

      abbrev OnF : FieldKey → Type 0
      OnF k = AgreeOnField ok made live k (F.field k) (G.field k)

      reading : (i : Item) (to : ℕ) (k : FieldKey) (on : Option Value) → OnF k → Come (reads F (need_of F c) i to k on w f) (reads G (need_of G c) i to k on w f)
      reading i to k None a = subst (λ j. Come (reads_static (need_of F c) i to k w f (F.field k)) (reads_static (need_of G c) i to k w f j)) a.same (read_static i to k (F.field k) a.kind a.class)
      reading i to k (Some on) a = subst (λ j. Come (reads_instance i to k on w f (F.field k)) (reads_instance i to k on w f j)) a.same (read_instance i to k on (F.field k) a.kind)

      write_out : (k : FieldKey) (on : Option Value) (v : Value) → Come (writes_out k on v w f) (writes_out k on v w f)
      write_out k on v = one (writes_out k on v w f) (fine_heap w (show (show_option w k.class on).0 k.kind v).0 (show_heap (show_option w k.class on).0 k.kind v ∙ option_heap w k.class on) h, (refl, next_in y.0))

      write_static : (k : FieldKey) (v : Value) (j : Option Place) → ((z : Place) → j ≡ Some z → ok z.class)
          → Come (writes_static (need_of F c) k v w f j) (writes_static (need_of G c) k v w f j)
      write_static k v (Some z) l = needed z.class _ _ (l z refl) (one (Stays (with_static w (key_at k z) v) (next f) None) (fine_heap w (with_static w (key_at k z) v) refl h, (refl, next_in y.0)))
      write_static k v None l = write_out k None v

      write_thing : (k : FieldKey) (on v : Value) (t : Option Thing) → thing_at w on ≡ t → Come (written (with_instance w k on v t) f) (written (with_instance w k on v t) f)
      write_thing k on v (Some (Instance t fields)) e = one (written (with_instance w k on v (Some (Instance t fields))) f)
          (sound_put ok made live says stands calm p o F G find other agree w on (Instance t (put_field k v fields)) h (sound_at ok made live says stands calm p o F G find other agree w on (Instance t fields) h e), (refl, next_in y.0))
      write_thing k on v (Some (Items t vs)) e = one Halts tt
      write_thing k on v None e = one Halts tt

      write_instance : (k : FieldKey) (on v : Value) (j : Option Place) → Come (writes_instance k on v w f j) (writes_instance k on v w f j)
      write_instance k on v (Some z) = write_thing (key_at k z) on v (thing_at w on) refl
      write_instance k on v None = write_out k (Some on) v

      writing : (k : FieldKey) (on : Option Value) (v : Value) → OnF k → Come (writes F (need_of F c) k on v w f) (writes G (need_of G c) k on v w f)
      writing k None v a = subst (λ j. Come (writes_static (need_of F c) k v w f (F.field k)) (writes_static (need_of G c) k v w f j)) a.same (write_static k v (F.field k) a.class)
      writing k (Some on) v a = subst (λ j. Come (writes_instance k on v w f (F.field k)) (writes_instance k on v w f j)) a.same (write_instance k on v (F.field k))

    -- ---- an effect

    pub comes : (e : Effect) → EffectOk ok made live says stands calm p o F G find other agree f.method f.position x e → Comes f.method f.position x (outcome F (need_of F c) e w f) (outcome G (need_of G c) e w f)
    comes (Goes w' f') g = one (Stays w' f' None) g
    comes (Faults t) g = fault t g.1 g.0
    comes (Throws v) g = one (Raises w v) (h, g)
    comes (Gives v) g = one (Ends v) tt
    comes (Calls kind k vs) g = called g.0 kind k g.1.0 vs g.1.1
    comes (Makes to t) g = make g.0 t to g.1
    comes (Reads i to k on) g = reading g.0 i to k on g.1
    comes (Writes k on v) g = writing g.0 k on v g.1
    comes (Locks v) g = lock v g
    comes (Unlocks v) g = unlock v g
    comes Stuck g = one Halts tt
