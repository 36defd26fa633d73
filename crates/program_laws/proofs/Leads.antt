-- Effects that are alike, in the frames on top of two blocks, lead to the same: outcomes that are equal, but for related blocks.
use Rattle.std.proofs.Common.{◌≡◌, ℕ, Bool, true, false, List, [], refl, sym, subst}
use Rattle.std.specs.Prelude.{◌&&◌, Option, Some, None}
use Rattle.insn_set.specs.declared.ops.Item.{Item}
use Rattle.insn_set.specs.declared.ops.InvokeKind.{InvokeKind}
use Rattle.insn_set.specs.declared.ops.InvokeKind.TheVariants as call
use Rattle.dalvik_defs.specs.Names.{Text, method_eq, object_constructor}
use Rattle.dalvik_defs.specs.Flags.{is_static, is_native}
use Rattle.dalvik_defs.specs.Known.{null_pointer, abstract_method}
use Rattle.dalvik_defs.specs.Find.{Found, Search, Nothing, Clash, Finds}
use Rattle.dalvik_defs.specs.Face.{Bodies, Place, is_defined}
use Rattle.dalvik_defs.specs.State.{World, Classes, State, kind_of, is_null, thing_at, next_object}
use Rattle.dalvik_defs.specs.declared.state.Value.{Value}
use Rattle.dalvik_defs.specs.declared.state.Value.TheVariants.{Word}
use Rattle.dalvik_defs.specs.declared.state.Frame.{Frame}
use Rattle.dalvik_defs.specs.declared.state.Waiting.{Waiting}
use Rattle.dalvik_defs.specs.Effect.{Effect, write, write_item, next}
use Rattle.dalvik_defs.specs.Fields.{key_at, static_value, instance_value, with_instance}
use Rattle.dalvik_defs.specs.Outcome.{Outcome, Stays, Enters, Raises, Need, Ready, Fresh, Broken, faults, when_ready, calls_out, native_kind, takes_no_receiver, is_direct, calls_uncoded, calls_found, calls_by, receiver, on_receiver, calls, makes, reads_value, reads_static, reads_instance, reads, written, writes_static, writes_instance, writes, outcome}
use Rattle.dalvik_defs.specs.Happens.{Setting}
use Rattle.dalvik_defs.specs.declared.names.MethodKey.{MethodKey}
use Rattle.dalvik_defs.specs.declared.names.FieldKey.{FieldKey}
use Rattle.dalvik_defs.specs.declared.forms.Form.{Form}
use Rattle.dalvik_defs.specs.declared.script.Move.{Move}
use Rattle.dalvik_defs.proofs.Frames.{Above, Calls as AfterCall, Asks, Begins}
use Rattle.dalvik_defs.proofs.Blocks.{Block, with_top, catches, Landed, Leads}
use Rattle.pass_defs.specs.Bare.{may_throw, continues}
use Rattle.program_laws.specs.Alike.{Awaits, is_return, Alike, Going, Faulting, Throwing, Giving, Calling, Making, Reading, Writing, Locking, Unlocking, Sticking}

module _ (s : Setting) (find other : Bodies) (P : Block → Block → Type 0) (W : Above → Block → Block → Type 0) (I J : State → Type 0) (w : World) (c : Classes) (need : Text → Need) (x : Form) (a b : Block)
    (same : b.top.method.class ≡ a.top.method.class) (waits : may_throw x ≡ true → continues x ≡ true → (e : Above) → Awaits x e → W e a b)
    (caught : may_throw x ≡ true → (u : World) (v : Value) (rest rest' : List Waiting) (script : List Move) → Landed s find other (λ w c. P) W I J u c rest rest' script (catches s.face find u v a) (catches s.face other u v b))
    (ended : is_return x ≡ true → (a.below ≡ []) × ((b.below ≡ []) × (b.top.method.signature.result ≡ a.top.method.signature.result))) where
  abbrev f : Frame
  f = a.top

  abbrev g : Frame
  g = b.top

  abbrev G : Frame → Frame → Type 0
  G h k = P (with_top a h) (with_top b k)

  abbrev L : Outcome → Outcome → Type 0
  L o o' = Leads s find other (λ w c. P) W I J w c a o b o'

  raised : may_throw x ≡ true → (u : World) (v : Value) → L (Raises u v) (Raises u v)
  raised h u v = (refl, λ rest rest' script. caught h u v rest rest' script)

  choice : (b : Bool) (o o' p p' : Outcome) → L o o' → L p p' → L (elim b [ true ↦ o | false ↦ p ]) (elim b [ true ↦ o' | false ↦ p' ])
  choice true o o' p p' h k = h
  choice false o o' p p' h k = k

  ready : may_throw x ≡ true → continues x ≡ true → (n : Need) (t : Text) (o o' : Outcome) → L o o' → L (when_ready n w t o) (when_ready n w t o')
  ready h k Ready t o o' l = l
  ready h k Fresh t o o' l = (refl, waits h k Begins tt)
  ready h k Broken t o o' l = raised h _ _

  -- ---- calls

  found : may_throw x ≡ true → continues x ≡ true → Awaits x AfterCall → ((owes : Text) → Awaits x (Asks owes)) → (kind : InvokeKind) (m : Found) (vs : List Value) → L (calls_found kind m vs w) (calls_found kind m vs w)
  found h k j l kind m vs = choice m.coded (Enters m.key vs) (Enters m.key vs) (calls_uncoded kind m vs w) (calls_uncoded kind m vs w) (refl, waits h k AfterCall j)
      (choice (is_native m.flags) (calls_out (native_kind kind) (takes_no_receiver kind) m.key vs w) (calls_out (native_kind kind) (takes_no_receiver kind) m.key vs w) (faults w abstract_method) (faults w abstract_method) (refl, waits h k (Asks _) (l _)) (raised h _ _))

  called_by : may_throw x ≡ true → continues x ≡ true → Awaits x AfterCall → ((owes : Text) → Awaits x (Asks owes)) → ((v : Value) → G (next (record f { result = v })) (next (record g { result = v }))) → (kind : InvokeKind) (m : MethodKey) (vs : List Value) (t : Search) → L (calls_by need kind m vs w f t) (calls_by need kind m vs w g t)
  called_by h k j l n kind m vs Nothing = choice (is_direct kind && method_eq m object_constructor) (Stays w (next (record f { result = Word 0 })) None) (Stays w (next (record g { result = Word 0 })) None) (calls_out kind (takes_no_receiver kind) m vs w) (calls_out kind (takes_no_receiver kind) m vs w)
      (next (record g { result = Word 0 }), (refl, n (Word 0))) (refl, waits h k (Asks _) (l _))
  called_by h k j l n kind m vs Clash = raised h _ _
  called_by h k j l n kind m vs (Finds t) = choice (is_static t.flags) (when_ready (need t.key.class) w t.key.class (calls_found kind t vs w)) (when_ready (need t.key.class) w t.key.class (calls_found kind t vs w)) (calls_found kind t vs w) (calls_found kind t vs w)
      (ready h k (need t.key.class) t.key.class (calls_found kind t vs w) (calls_found kind t vs w) (found h k j l kind t vs)) (found h k j l kind t vs)

  received : may_throw x ≡ true → (vs : List Value) (o o' : Outcome) → L o o' → L (on_receiver vs w o) (on_receiver vs w o')
  received h vs o o' l = choice (is_null (receiver vs)) (faults w null_pointer) (faults w null_pointer) o o' (raised h _ _) l

  called : may_throw x ≡ true → continues x ≡ true → Awaits x AfterCall → ((owes : Text) → Awaits x (Asks owes)) → ((v : Value) → G (next (record f { result = v })) (next (record g { result = v }))) → (kind : InvokeKind) (m : MethodKey) (vs : List Value) → L (calls s.face need kind m vs w f) (calls s.face need kind m vs w g)
  called h k j l n call.Static m vs = called_by h k j l n call.Static m vs (s.face.statically m)
  called h k j l n call.Direct m vs = received h vs _ _ (called_by h k j l n call.Direct m vs (s.face.statically m))
  called h k j l n call.Super m vs = received h vs _ _ (subst (λ t. L (calls_by need call.Super m vs w f (s.face.above f.method.class m)) (calls_by need call.Super m vs w g (s.face.above t m))) (sym same)
      (called_by h k j l n call.Super m vs (s.face.above f.method.class m)))
  called h k j l n call.Virtual m vs = received h vs _ _ (called_by h k j l n call.Virtual m vs (s.face.virtually (kind_of w (receiver vs)) m))
  called h k j l n call.Interface m vs = received h vs _ _ (called_by h k j l n call.Interface m vs (s.face.virtually (kind_of w (receiver vs)) m))

  -- ---- objects and fields

  made : may_throw x ≡ true → continues x ≡ true → (to to' : ℕ) (t : Text) → ((v : Value) → G (next (write f to v)) (next (write g to' v))) → L (makes s.face need to t w f) (makes s.face need to' t w g)
  made h k to to' t n = choice (is_defined s.face t) _ _ _ _ (ready h k (need t) t _ _ (_, (refl, n (next_object w)))) (_, (refl, n (next_object w)))

  value_read : (i : Item) (to to' : ℕ) → ((v : Value) → G (next (write_item i f to v)) (next (write_item i g to' v))) → (o : Option Value) → L (reads_value i to o w f) (reads_value i to' o w g)
  value_read i to to' n (Some v) = (_, (refl, n v))
  value_read i to to' n None = refl

  read : may_throw x ≡ true → continues x ≡ true → (i : Item) (to to' : ℕ) (k : FieldKey) (on : Option Value) → Awaits x (Asks k.kind) → ((v : Value) → G (next (write_item i f to v)) (next (write_item i g to' v)))
      → L (reads s.face need i to k on w f) (reads s.face need i to' k on w g)
  read h e i to to' k None j n = by (s.face.field k)
    where
      by : (p : Option Place) → L (reads_static need i to k w f p) (reads_static need i to' k w g p)
      by (Some p) = ready h e (need p.class) p.class _ _ (value_read i to to' n (Some (static_value w k p)))
      by None = (refl, waits h e (Asks k.kind) j)
  read h e i to to' k (Some on) j n = by (s.face.field k)
    where
      by : (p : Option Place) → L (reads_instance i to k on w f p) (reads_instance i to' k on w g p)
      by (Some p) = value_read i to to' n (instance_value k p (thing_at w on))
      by None = (refl, waits h e (Asks k.kind) j)

  was_written : G (next f) (next g) → (o : Option World) → L (written o f) (written o g)
  was_written n (Some u) = (next g, (refl, n))
  was_written n None = refl

  wrote : may_throw x ≡ true → continues x ≡ true → G (next f) (next g) → (k : FieldKey) (on : Option Value) (v : Value) → L (writes s.face need k on v w f) (writes s.face need k on v w g)
  wrote h e n k None v = by (s.face.field k)
    where
      by : (p : Option Place) → L (writes_static need k v w f p) (writes_static need k v w g p)
      by (Some p) = ready h e (need p.class) p.class _ _ (next g, (refl, n))
      by None = (next g, (refl, n))
  wrote h e n k (Some on) v = by (s.face.field k)
    where
      by : (p : Option Place) → L (writes_instance k on v w f p) (writes_instance k on v w g p)
      by (Some p) = was_written n (with_instance w (key_at k p) on v (thing_at w on))
      by None = (next g, (refl, n))

  pub leads : (e e' : Effect) → Alike x f g G e e' → L (outcome s.face need e w f) (outcome s.face need e' w g)
  leads _ _ (Going u f1 g1 h) = (g1, (refl, h))
  leads _ _ (Faulting t h) = raised h _ _
  leads _ _ (Throwing v h) = raised h w v
  leads _ _ (Giving v h) = (refl, ended h)
  leads _ _ (Calling k m vs h e j l n) = called h e j l n k m vs
  leads _ _ (Making to to' t h e n) = made h e to to' t n
  leads _ _ (Reading i to to' k on h e j n) = read h e i to to' k on j n
  leads _ _ (Writing k on v h e n) = wrote h e n k on v
  leads _ _ (Locking v n) = (next g, (refl, n))
  leads _ _ (Unlocking v n) = (next g, (refl, n))
  leads _ _ Sticking = refl
