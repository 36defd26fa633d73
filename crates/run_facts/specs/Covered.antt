-- When facts hold of the states of a run, as an invariant: of the frame on top, of a frame that waits for what stands above
-- it, of results, of classes that are initialised, and of fields. It stands over invariants that say that references are to
-- what there is (the typing's), that words have 32 bits and that objects are of made classes, and doesn't repeat them.
use Rattle.std.specs.Prelude.{◌≡◌, ℕ, ◌+◌, false, ◌⊎◌, List, [], ◌∷◌, Option, Some, None, slice_get, Contains}
use Rattle.insn_set.specs.declared.ops.Slot.{Slot}
use Rattle.insn_set.specs.declared.ops.InvokeKind.{InvokeKind}
use Rattle.insn_set.specs.declared.ops.InvokeKind.TheVariants as call
use Rattle.dalvik_defs.specs.Names.{Text}
use Rattle.dalvik_defs.specs.Find.{Found, defined_field, finds_field}
use Rattle.dalvik_defs.specs.Face.{bodies_of}
use Rattle.dalvik_defs.specs.Outer.{Outer}
use Rattle.dalvik_defs.specs.State.{World, Instance, kind_of, is_null}
use Rattle.dalvik_defs.specs.declared.state.Value.{Value}
use Rattle.dalvik_defs.specs.declared.state.Frame.{Frame}
use Rattle.dalvik_defs.specs.declared.names.MethodKey.{MethodKey}
use Rattle.dalvik_defs.specs.declared.names.FieldKey.{FieldKey}
use Rattle.dalvik_defs.specs.declared.forms.Form.{Form}
use Rattle.dalvik_defs.specs.declared.forms.Form.TheVariants as form
use Rattle.dalvik_defs.specs.declared.program.NamedField.{NamedField}
use Rattle.dalvik_defs.specs.declared.program.NamedProgram.{NamedProgram}
use Rattle.dalvik_defs.specs.Stack.{form_at}
use Rattle.dalvik_defs.specs.Effect.{register}
use Rattle.pass_defs.specs.Typed.{receiver_register}
use Rattle.pass_defs.specs.Facts.{Facts, Initialises, needs, IsEnteredOn}
use Rattle.run_laws.specs.Invariant.{Above, Callee, Begun, Owing, Invariant, Grows}
use Rattle.pass_defs.specs.Analysis.{Analysis}
use Rattle.run_facts.specs.Closed.{At, MayCall, MayLeave, Results, IsNeeded}

module _ {V : Type 0} (a : Analysis V) (p : NamedProgram) (o : Outer) (t : Facts V) where
  abbrev pub Sees : V → World → Value → Type 0
  Sees x w v = a.holds x (kind_of w v) v

  -- all registers are seen
  abbrev pub SeesAll : (ℕ → V) → World → List Value → Type 0
  SeesAll x w vs = (r : ℕ) (v : Value) → slice_get vs r ≡ Some v → Sees (x r) w v

  -- the frame's position is reached, and its facts hold of all registers
  pub record Stands (w : World) (f : Frame) : Type 0 where
    pub registers : ℕ → V
    pub reached : t.registers f.method f.position ≡ Some registers
    pub hold : SeesAll registers w f.registers

  -- a frame that is about to take a result stands behind what gave it
  pub record TakesFrom (w : World) (f : Frame) : Type 0 where
    pub before : ℕ
    pub behind : f.position ≡ before + 1
    pub at : At a p t f.method before
    pub value : V
    pub from : Results a p o t f.method at.registers at.form value
    pub holds : Sees value w f.result

  pub record CoversTop (w : World) (f : Frame) : Type 0 where
    pub stands : Stands w f
    pub takes : (slot : Slot) (to : ℕ) → form_at (bodies_of p) f ≡ Some (form.MoveResult slot to) → TakesFrom w f

  -- the register whose use needs an object, which isn't null once the form waits
  abbrev pub Used : Form → List ℕ
  Used (form.Invoke call.Static m args) = []
  Used (form.Invoke kind m args) = receiver_register args ∷ []
  Used (form.InstanceGet item to on field) = on ∷ []
  Used x = []

  -- What a frame waits for: a method that its call may enter, or that the framework may enter on its receiver; a class that its
  -- form needs; an answer to a call or a read that leaves the program.
  abbrev pub AwaitsCall : Frame → (ℕ → V) → Form → MethodKey → Type 0
  AwaitsCall f x y g = (kind : InvokeKind) × (m : MethodKey) × (args : List ℕ) × (y ≡ form.Invoke kind m args)
      × (((h : Found) × MayCall a p o f.method.class x args kind m h × (h.key ≡ g)) ⊎ (MayLeave a p o f.method.class x args kind m × IsEnteredOn p o g))

  abbrev pub AwaitsAnswer : Frame → (ℕ → V) → Form → Text → Type 0
  AwaitsAnswer f x (form.Invoke kind m args) k = MayLeave a p o f.method.class x args kind m × (m.signature.result ≡ k)
  AwaitsAnswer f x (form.InstanceGet item to on field) k = (finds_field p field ≡ None) × (field.kind ≡ k)
  AwaitsAnswer f x (form.StaticGet item to field) k = (finds_field p field ≡ None) × (field.kind ≡ k)
  AwaitsAnswer f x y k = ⊥

  abbrev pub Awaits : Frame → (ℕ → V) → Form → Above → Type 0
  Awaits f x y (Callee g) = AwaitsCall f x y g
  Awaits f x y (Begun u) = Contains (needs p y) u
  Awaits f x y (Owing k) = AwaitsAnswer f x y k

  -- the registers that are used aren't null, where the form has come past them
  abbrev pub IsPast : Above → Form → Frame → Type 0
  IsPast (Begun u) y f = Unit {0}
  IsPast above y f = (r : ℕ) → Contains (Used y) r → is_null (register f r) ≡ false

  pub record CoversWaiting (w : World) (above : Above) (f : Frame) : Type 0 where
    pub stands : Stands w f
    pub form : Form
    pub has_form : form_at (bodies_of p) f ≡ Some form
    pub awaits : Awaits f stands.registers form above
    pub past : IsPast above form f

  abbrev pub CoversResult : World → MethodKey → Option Value → Type 0
  CoversResult w k None = Unit {0}
  CoversResult w k (Some v) = Sees (t.results k) w v

  -- fields hold their facts
  pub record CoversWorld (w : World) : Type 0 where
    pub statics : (k : FieldKey) (f : NamedField) (v : Value) → defined_field p k ≡ Some f → w.statics k ≡ Some v → Sees (t.fields k) w v
    pub instances : (k : FieldKey) (f : NamedField) (v : Value) (n : ℕ) (class : Text) (fields : FieldKey → Option Value) → defined_field p k ≡ Some f
        → slice_get w.heap n ≡ Some (Instance class fields) → fields k ≡ Some v → Sees (t.fields k) w v

  -- a class that is initialised for one that code or the framework needs
  abbrev pub CoversClass : Text → Type 0
  CoversClass u = (v : Text) × IsNeeded a p o t v × Initialises p v u

  abbrev pub covering : Invariant
  covering = record {
    outside = λ w c. CoversWorld w;
    top = λ w c f. CoversTop w f;
    waits = CoversWaiting;
    result = CoversResult;
    thrown = λ w v. Unit {0};
    class = CoversClass;
    move = λ x. Unit {0};
    later = Grows;
    ended = Unit {0};
  }
