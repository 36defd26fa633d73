-- What is asked of a callee beyond that a call finds it: its place, its registers, and what typing says.
use Rattle.std.specs.Prelude.{◌≡◌, ℕ, ◌+◌, ◌-◌, ◌<◌, ◌≤◌, true, false, List, [], length, Some, is_some}
use Rattle.insn_set.specs.Widths.{is_wide_slot}
use Rattle.insn_set.specs.declared.ops.Slot.{Slot}
use Rattle.insn_set.specs.declared.ops.InvokeKind.TheVariants as call
use Rattle.dalvik_defs.specs.Names.{Text, text_eq}
use Rattle.dalvik_defs.specs.Flags.{is_static}
use Rattle.dalvik_defs.specs.Initialised.{is_trivial}
use Rattle.dalvik_defs.specs.Find.{Found, Finds, finds_statically}
use Rattle.dalvik_defs.specs.Face.{bodies_of}
use Rattle.dalvik_defs.specs.Quiet.{EndsWithin}
use Rattle.dalvik_defs.specs.declared.names.MethodKey.{MethodKey}
use Rattle.dalvik_defs.specs.declared.forms.Form.{Form}
use Rattle.dalvik_defs.specs.declared.forms.Form.TheVariants as form
use Rattle.dalvik_defs.specs.declared.program.NamedBody.{NamedBody}
use Rattle.dalvik_defs.specs.declared.program.NamedProgram.{NamedProgram}
use Rattle.pass_defs.specs.Bare.{reads, writes}
use Rattle.pass_defs.specs.Walks.{form_at, IsReached, IsRead}
use Rattle.pass_defs.specs.Quiet.{takes_result}
use Rattle.pass_defs.specs.Inlined.{Callee, taken_by, is_among, callee_of, callee_at, passed_types}
use Rattle.program_laws.specs.Results.{TakesInPlace}
use Rattle.program_laws.specs.Alike.{gets_void}
use Rattle.inline_law.specs.Inlining.{Passes}
use Rattle.inline_law.specs.Accepted.{Suits}
use Rattle.inline_law.specs.Entered.{AcceptedIn}

-- a call that finds a method with code
pub data Finding (p : NamedProgram) (y : Callee) : Form → Type 0 where
  FindsStatic : (k : MethodKey) (g : Found) → finds_statically p k ≡ Finds g → g.key ≡ y.key → g.coded ≡ true → g.flags ≡ y.method.flags → Finding p y (form.Invoke call.Static k y.args)
  FindsDirect : (k : MethodKey) (g : Found) → finds_statically p k ≡ Finds g → g.key ≡ y.key → g.coded ≡ true → g.flags ≡ y.method.flags → Finding p y (form.Invoke call.Direct k y.args)

-- of the definition Site, and of bodies that fit and are typed
pub record IsSoundCallee (k : MethodKey) (y : Callee) : Type 0 where
  pub class : text_eq y.key.class k.class ≡ true
  pub unguarded : y.body.regions ≡ []
  pub ins : y.body.ins ≤ y.body.registers
  pub passes : Passes (passed_types y) y.args
  pub passes_all : length y.args ≡ y.body.ins
  pub in_place : TakesInPlace y.body
  pub begins : takes_result (form_at y.body 0) ≡ false
  pub reads_room : (n : ℕ) (f : Form) (r : ℕ) → form_at y.body n ≡ Some f → reads f r ≡ true → r < y.body.registers
  pub writes_room : (n : ℕ) (f : Form) (r : ℕ) → form_at y.body n ≡ Some f → writes f r ≡ true → r < y.body.registers
  pub voids : (n : ℕ) (f : Form) → form_at y.body n ≡ Some f → gets_void f ≡ false
  pub arguments : (r : ℕ) → IsRead y.body r 0 → y.body.registers - y.body.ins ≤ r

-- every accepted call of a body is one of a sound callee, and its forms may stand in a copy
pub record IsSoundCaller (p : NamedProgram) (k : MethodKey) (b : NamedBody) (accepted : List ℕ) : Type 0 where
  pub sites : (n : ℕ) → is_among accepted n ≡ true → is_some (callee_of p (form_at b n)) ≡ true
  pub callees : (n : ℕ) (y : Callee) → callee_at p b accepted n ≡ Some y → IsSoundCallee k y
  pub suits : (n j : ℕ) (y : Callee) → callee_at p b accepted n ≡ Some y → IsReached y.body j → (f : Form) × ((form_at y.body j ≡ Some f) × Suits (taken_by (form_at b (n + 1))) f)

-- accepted calls of static methods of trivially initialised classes, without wide results
pub record AreStatic (p : NamedProgram) (b : NamedBody) (accepted : List ℕ) : Type 0 where
  pub static : (n : ℕ) (y : Callee) → callee_at p b accepted n ≡ Some y → is_static y.method.flags ≡ true
  pub undirected : (n : ℕ) (y : Callee) (k : MethodKey) (args : List ℕ) → callee_at p b accepted n ≡ Some y → form_at b n ≡ Some (form.Invoke call.Direct k args) → ⊥
  pub trivial : (n : ℕ) (y : Callee) → callee_at p b accepted n ≡ Some y → is_trivial p y.key.class ≡ true
  pub narrow : (n j : ℕ) (y : Callee) (t : Slot) (from : ℕ) → callee_at p b accepted n ≡ Some y → form_at y.body j ≡ Some (form.Return t from) → is_wide_slot t ≡ false

pub record IsStaticInlining (p : NamedProgram) (accepted : AcceptedIn) : Type 0 where
  -- no class is its own ancestor
  pub ends : (t : Text) → EndsWithin p (length p.classes) t
  pub room : (k : MethodKey) (b : NamedBody) → bodies_of p k ≡ Some b → b.ins ≤ b.registers
  pub in_place : (k : MethodKey) (b : NamedBody) → bodies_of p k ≡ Some b → TakesInPlace b
  pub sound : (k : MethodKey) (b : NamedBody) → bodies_of p k ≡ Some b → IsSoundCaller p k b (accepted k)
  pub static : (k : MethodKey) (b : NamedBody) → bodies_of p k ≡ Some b → AreStatic p b (accepted k)
