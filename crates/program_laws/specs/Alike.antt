-- What it is that a form does the same in two frames, with other registers and targets in the second. `Holds` says that the
-- frames hold the same where the form reads, `Accepts` that the frames it comes to are related, and `Alike` that the effects
-- are the same but for related frames.
use Rattle.std.specs.Prelude.{◌≡◌, ℕ, ◌+◌, Bool, true, false, List, Option, Contains}
use Rattle.insn_set.specs.Registers.{in_operand}
use Rattle.insn_set.specs.declared.ops.Item.{Item}
use Rattle.insn_set.specs.declared.ops.Slot.{Slot}
use Rattle.insn_set.specs.declared.ops.Slot.TheVariants as slot
use Rattle.insn_set.specs.declared.ops.InvokeKind.{InvokeKind}
use Rattle.dalvik_defs.specs.Names.{Text, is_void}
use Rattle.dalvik_defs.specs.State.{World}
use Rattle.dalvik_defs.specs.declared.state.Value.{Value}
use Rattle.dalvik_defs.specs.declared.state.Frame.{Frame}
use Rattle.dalvik_defs.specs.Effect.{Effect, Goes, Faults, Throws, Gives, Calls, Makes, Reads, Writes, Locks, Unlocks, Stuck, register, write, write_item, next, go}
use Rattle.dalvik_defs.specs.declared.names.MethodKey.{MethodKey}
use Rattle.dalvik_defs.specs.declared.names.FieldKey.{FieldKey}
use Rattle.dalvik_defs.specs.declared.forms.Form.{Form}
use Rattle.dalvik_defs.specs.declared.forms.Form.TheVariants as form
use Rattle.dalvik_defs.proofs.Frames.{Above, Calls as AfterCall, Asks, Begins}
use Rattle.pass_defs.specs.Bare.{reads, writes, may_throw, continues, targets}
use Rattle.program_laws.specs.Results.{gives_result}

-- the second frame holds where r sends a register what the first holds in it, for all that the form reads
pub record Holds (x : Form) (r : ℕ → ℕ) (f g : Frame) : Type 0 where
  pub reads : (n : ℕ) → reads x n ≡ true → register g (r n) ≡ register f n
  pub second : (to from : ℕ) → x ≡ form.Move slot.Wide to from → register g (r from + 1) ≡ register f (from + 1)
  pub result : (s : Slot) (to : ℕ) → x ≡ form.MoveResult s to → g.result ≡ f.result
  pub caught : (to : ℕ) → x ≡ form.MoveException to → g.caught ≡ f.caught

-- a form writes a register, or a register and the next one, and no other
abbrev pub Only : Form → Bool → ℕ → Type 0
Only x wide to = (n : ℕ) → writes x n ≡ in_operand wide to n

-- goes on and gives no result
abbrev pub Plain : Form → Type 0
Plain x = (continues x ≡ true) × (gives_result x ≡ false)

abbrev pub Nothing : Form → Type 0
Nothing x = (n : ℕ) → writes x n ≡ false

-- the frames that a form comes to are related
pub record Accepts (x : Form) (w t : ℕ → ℕ) (f g : Frame) (G : Frame → Frame → Type 0) : Type 0 where
  pub none : Plain x → Nothing x → G (next f) (next g)
  pub one : Plain x → (to : ℕ) (v : Value) → Only x false to → G (next (write f to v)) (next (write g (w to) v))
  pub two : Plain x → (to : ℕ) (v u : Value) → Only x true to → G (next (write (write f to v) (to + 1) u)) (next (write (write g (w to) v) (w to + 1) u))
  pub gives : continues x ≡ true → Nothing x → (v : Value) → G (next (record f { result = v })) (next (record g { result = v }))
  pub jumps : (m : ℕ) → Contains (targets x) m → Nothing x → gives_result x ≡ false → G (go f m) (go g (t m))

-- a form that ends its frame
abbrev pub is_return : Form → Bool
is_return form.ReturnVoid = true
is_return (form.Return slot from) = true
is_return x = false

-- what may come back to a form: to a call the result of a method or of the framework, to a read of a field its value
abbrev pub Awaits : Form → Above → Type 0
Awaits x Begins = Unit {0}
Awaits (form.Invoke kind m args) a = Unit {0}
Awaits (form.InstanceGet i to on k) (Asks owes) = owes ≡ k.kind
Awaits (form.StaticGet i to k) (Asks owes) = owes ≡ k.kind
Awaits x a = ⊥

-- the two effects are the same, but for the frames, which are related, and the register that is written
pub data Alike (x : Form) (f g : Frame) (G : Frame → Frame → Type 0) : Effect → Effect → Type 0 where
  Going : (w : World) (f1 g1 : Frame) → G f1 g1 → Alike x f g G (Goes w f1) (Goes w g1)
  Faulting : (c : Text) → may_throw x ≡ true → Alike x f g G (Faults c) (Faults c)
  Throwing : (v : Value) → may_throw x ≡ true → Alike x f g G (Throws v) (Throws v)
  Giving : (v : Option Value) → is_return x ≡ true → Alike x f g G (Gives v) (Gives v)
  Calling : (k : InvokeKind) (m : MethodKey) (vs : List Value) → may_throw x ≡ true → continues x ≡ true → Awaits x AfterCall → ((owes : Text) → Awaits x (Asks owes)) → ((v : Value) → G (next (record f { result = v })) (next (record g { result = v }))) → Alike x f g G (Calls k m vs) (Calls k m vs)
  Making : (to to' : ℕ) (c : Text) → may_throw x ≡ true → continues x ≡ true → ((v : Value) → G (next (write f to v)) (next (write g to' v))) → Alike x f g G (Makes to c) (Makes to' c)
  Reading : (i : Item) (to to' : ℕ) (k : FieldKey) (on : Option Value) → may_throw x ≡ true → continues x ≡ true → Awaits x (Asks k.kind)
      → ((v : Value) → G (next (write_item i f to v)) (next (write_item i g to' v))) → Alike x f g G (Reads i to k on) (Reads i to' k on)
  Writing : (k : FieldKey) (on : Option Value) (v : Value) → may_throw x ≡ true → continues x ≡ true → G (next f) (next g) → Alike x f g G (Writes k on v) (Writes k on v)
  Locking : (v : Value) → G (next f) (next g) → Alike x f g G (Locks v) (Locks v)
  Unlocking : (v : Value) → G (next f) (next g) → Alike x f g G (Unlocks v) (Unlocks v)
  Sticking : Alike x f g G Stuck Stuck

-- reads a field of type void, which no well-formed program does
abbrev pub gets_void : Form → Bool
gets_void (form.InstanceGet i to on k) = is_void k.kind
gets_void (form.StaticGet i to k) = is_void k.kind
gets_void f = false
