-- Plainly quiet methods, whose calls can be dropped (this project's profile).
use Rattle.std.specs.Prelude.{◌≡◌, ℕ, ◌+◌, Bool, true, false, List, [], Option, Some, None, Contains}
use Rattle.insn_set.specs.declared.ops.InvokeKind.TheVariants as call
use Rattle.dalvik_defs.specs.Flags.{is_static}
use Rattle.dalvik_defs.specs.Find.{Found, Finds, finds_statically, defined_method}
use Rattle.dalvik_defs.specs.Initialised.{is_trivial}
use Rattle.dalvik_defs.specs.Face.{bodies_of}
use Rattle.dalvik_defs.specs.Outer.{Outer}
use Rattle.dalvik_defs.specs.declared.names.MethodKey.{MethodKey}
use Rattle.dalvik_defs.specs.declared.forms.Form.{Form}
use Rattle.dalvik_defs.specs.declared.forms.Form.TheVariants as form
use Rattle.dalvik_defs.specs.declared.program.NamedBody.{NamedBody}
use Rattle.dalvik_defs.specs.declared.program.NamedMethod.{NamedMethod}
use Rattle.dalvik_defs.specs.declared.program.NamedProgram.{NamedProgram}
use Rattle.pass_defs.specs.Walks.{Walk, form_at, IsReached}
use Rattle.pass_defs.specs.Pure.{is_branch}
use Rattle.pass_defs.specs.Flat.{Flat}
use Rattle.pass_defs.specs.Facts.{At, taken}
use Rattle.pass_defs.specs.Constants.{flat, Solution, IsSolution, IsPure}

-- ---- plainly quiet methods

-- the edges that a solution takes from a position that it reaches
abbrev pub edges_at : NamedBody → Solution → MethodKey → ℕ → List ℕ
edges_at b t k n = from_registers (t.registers k n) (form_at b n) where
  from_registers : Option (ℕ → Flat) → Option Form → List ℕ
  from_registers (Some a) (Some f) = taken flat b f n a
  from_registers (Some a) None = []
  from_registers None f = []

-- a static call that finds a method of a trivially initialised class
pub record CallsQuietly (p : NamedProgram) (quiet : MethodKey → Type 0) (f : Form) : Type 0 where
  pub key : MethodKey
  pub args : List ℕ
  pub found : Found
  pub form : f ≡ form.Invoke call.Static key args
  pub finds : finds_statically p key ≡ Finds found
  pub trivial : is_trivial p found.key.class ≡ true
  pub is_quiet : quiet found.key

abbrev pub is_return : Form → Bool
is_return form.ReturnVoid = true
is_return (form.Return slot from) = true
is_return f = false

pub data IsQuietForm (p : NamedProgram) (o : Outer) (quiet : MethodKey → Type 0) (k : MethodKey) (n : ℕ) : Form → Type 0 where
  Pure : (f : Form) → IsPure p o k n f → IsQuietForm p o quiet k n f
  Branch : (f : Form) → is_branch f ≡ true → IsQuietForm p o quiet k n f
  Return : (f : Form) → is_return f ≡ true → IsQuietForm p o quiet k n f
  Calls : (f : Form) → CallsQuietly p quiet f → IsQuietForm p o quiet k n f

-- A static method whose code some solution goes through without a cycle, over quiet forms alone.
pub record IsQuietBody (p : NamedProgram) (o : Outer) (quiet : MethodKey → Type 0) (k : MethodKey) : Type 0 where
  pub method : NamedMethod
  pub body : NamedBody
  pub defined : defined_method p k ≡ Some method
  pub static : is_static method.flags ≡ true
  pub coded : method.body ≡ Some body
  pub table : Solution
  pub closed : IsSolution p o table
  pub acyclic : (n m : ℕ) → Contains (edges_at body table k n) m → Walk (edges_at body table k) m n → ⊥
  pub forms : (n : ℕ) (at : At flat p table k n) → IsQuietForm p o quiet k n at.form

-- a set of methods to which every method belongs whose code is quiet by the set
abbrev pub IsQuietFamily : NamedProgram → Outer → (MethodKey → Bool) → Type 0
IsQuietFamily p o s = (k : MethodKey) → IsQuietBody p o (λ g. s g ≡ true) k → s k ≡ true

abbrev pub IsPlainlyQuiet : NamedProgram → Outer → MethodKey → Type 0
IsPlainlyQuiet p o k = (s : MethodKey → Bool) → IsQuietFamily p o s → s k ≡ true

-- ---- droppable calls

abbrev pub takes_result : Option Form → Bool
takes_result (Some (form.MoveResult slot to)) = true
takes_result f = false

pub record IsDroppable (p : NamedProgram) (o : Outer) (k : MethodKey) (n : ℕ) : Type 0 where
  pub body : NamedBody
  pub form : Form
  pub has_body : bodies_of p k ≡ Some body
  pub has_form : form_at body n ≡ Some form
  pub reached : IsReached body n
  pub unused : takes_result (form_at body (n + 1)) ≡ false
  pub calls : CallsQuietly p (IsPlainlyQuiet p o) form
