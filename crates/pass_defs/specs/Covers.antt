-- When facts hold of a state (this project's profile).
use Rattle.std.specs.Prelude.{◌≡◌, ℕ, true, false, List, [], ◌∷◌, Option, Some, None, slice_get, Contains}
use Rattle.insn_set.specs.declared.ops.Slot.{Slot}
use Rattle.insn_set.specs.declared.ops.InvokeKind.{InvokeKind}
use Rattle.dalvik_defs.specs.Names.{Text}
use Rattle.dalvik_defs.specs.Flags.{is_static}
use Rattle.dalvik_defs.specs.Under.{is_own_under}
use Rattle.dalvik_defs.specs.Find.{defined_field}
use Rattle.dalvik_defs.specs.Face.{bodies_of, place_of}
use Rattle.dalvik_defs.specs.Fields.{first_of, written_or}
use Rattle.dalvik_defs.specs.State.{State, On, Ended, World, Instance, zero_of}
use Rattle.dalvik_defs.specs.declared.state.Value.{Value}
use Rattle.dalvik_defs.specs.declared.state.Frame.{Frame}
use Rattle.dalvik_defs.specs.declared.state.Waiting.{Waiting}
use Rattle.dalvik_defs.specs.declared.state.Waiting.TheVariants.{Method}
use Rattle.dalvik_defs.specs.declared.names.MethodKey.{MethodKey}
use Rattle.dalvik_defs.specs.declared.names.FieldKey.{FieldKey}
use Rattle.dalvik_defs.specs.declared.forms.Form.TheVariants as form
use Rattle.dalvik_defs.specs.declared.program.NamedBody.{NamedBody}
use Rattle.dalvik_defs.specs.declared.program.NamedField.{NamedField}
use Rattle.dalvik_defs.specs.declared.program.NamedProgram.{NamedProgram}
use Rattle.pass_defs.specs.Walks.{form_at}
use Rattle.pass_defs.specs.Facts.{Values, Facts, call_result, form_before}

module _ {V : Type 0} (values : Values V) (holds : V → Value → Type 0) (p : NamedProgram) (t : Facts V) where
  -- the facts at a frame's position hold of all its registers
  pub record CoversFrame (f : Frame) : Type 0 where
    pub registers : ℕ → V
    pub there : t.registers f.method f.position ≡ Some registers
    pub hold : (r : ℕ) (v : Value) → slice_get f.registers r ≡ Some v → holds (registers r) v

  -- what a frame is about to take as a result
  abbrev pub CoversResult : Frame → Type 0
  CoversResult f = (b : NamedBody) (slot : Slot) (to : ℕ) → bodies_of p f.method ≡ Some b → form_at b f.position ≡ Some (form.MoveResult slot to) →
      holds (call_result values p t f.method.class (form_before b f.position)) f.result

  -- what a frame is about to hand back
  abbrev pub CoversGiven : Frame → Type 0
  CoversGiven f = (b : NamedBody) (slot : Slot) (from : ℕ) (v : Value) → bodies_of p f.method ≡ Some b → form_at b f.position ≡ Some (form.Return slot from) →
      slice_get f.registers from ≡ Some v → holds (t.results f.method) v

  -- what a waiting caller has passed to the method above it
  abbrev pub CoversCall : Frame → MethodKey → Type 0
  CoversCall f called = (b : NamedBody) (kind : InvokeKind) (k : MethodKey) (args : List ℕ) (i r : ℕ) (v : Value) → bodies_of p f.method ≡ Some b → form_at b f.position ≡ Some (form.Invoke kind k args) →
      slice_get args i ≡ Some r → slice_get f.registers r ≡ Some v → holds (t.parameters called i) v

  abbrev pub CoversAbove : Option MethodKey → Frame → Type 0
  CoversAbove None f = CoversResult f × CoversGiven f
  CoversAbove (Some called) f = CoversCall f called

  -- `called` is the method that stands above in the stack
  abbrev pub CoversStack : Option MethodKey → List Waiting → Type 0
  CoversStack called [] = Unit {0}
  CoversStack called (Method f ∷ ws) = CoversFrame f × CoversAbove called f × CoversStack (Some f.method) ws
  CoversStack called (w ∷ ws) = CoversStack None ws

  pub record CoversFields (w : World) : Type 0 where
    pub statics : (k : FieldKey) (f : NamedField) → defined_field p k ≡ Some f → is_static f.flags ≡ true → holds (t.fields k) (written_or (w.statics k) (first_of k (place_of k.class f)))
    pub instances : (k : FieldKey) (f : NamedField) (class : Text) (fields : FieldKey → Option Value) → defined_field p k ≡ Some f → is_static f.flags ≡ false →
        Contains w.heap (Instance class fields) → is_own_under p class k.class ≡ true → holds (t.fields k) (written_or (fields k) (zero_of k.kind))

  abbrev pub Covers : State → Type 0
  Covers (On w classes stack script) = CoversStack None stack × CoversFields w
  Covers Ended = Unit {0}
