-- Instructions whose result or outcome is known (this project's profile).
use Rattle.std.specs.Prelude.{◌≡◌, ℕ, ◌≤◌, pos, Bool, true, false, List, [], ◌∷◌, Option, Some, None}
use Rattle.std.specs.Int.{w32, w64, cast_signed}
use Rattle.std.specs.List.{list_all}
use Rattle.insn_set.specs.Spelling.{units_of, is_encodable}
use Rattle.dalvik_defs.specs.Face.{bodies_of}
use Rattle.dalvik_defs.specs.Outer.{Outer}
use Rattle.dalvik_defs.specs.declared.names.MethodKey.{MethodKey}
use Rattle.dalvik_defs.specs.declared.forms.Form.{Form}
use Rattle.dalvik_defs.specs.declared.forms.Form.TheVariants as form
use Rattle.dalvik_defs.specs.declared.program.NamedBody.{NamedBody}
use Rattle.dalvik_defs.specs.declared.program.NamedProgram.{NamedProgram}
use Rattle.pass_defs.specs.Bare.{bare, writes}
use Rattle.pass_defs.specs.Walks.{form_at}
use Rattle.pass_defs.specs.Flat.{Flat, KnownWord, KnownWide}
use Rattle.pass_defs.specs.Facts.{after, form_before}
use Rattle.pass_defs.specs.Constants.{flat, Solution, IsSolution, IsAlwaysReached, Knows, IsPure, is_known}

-- the register of a result
abbrev pub result_register : Form → Option ℕ
result_register (form.Move slot to from) = Some to
result_register (form.MoveResult slot to) = Some to
result_register (form.MoveException to) = Some to
result_register (form.ConstString to text) = Some to
result_register (form.ConstClass to kind) = Some to
result_register (form.InstanceOf to from kind) = Some to
result_register (form.Cmp op to a b) = Some to
result_register (form.StaticGet item to field) = Some to
result_register (form.Unary op to from) = Some to
result_register (form.Binary op to a b) = Some to
result_register (form.Literal op to a value) = Some to
result_register f = None

-- the form that puts a known number into a register
abbrev pub constant_of : ℕ → Flat → Option Form
constant_of to (KnownWord n) = Some (form.Const to (cast_signed w32 n))
constant_of to (KnownWide n) = Some (form.ConstWide to (cast_signed w64 n))
constant_of to x = None

-- the units of the shortest spelling of a form that is no branch
abbrev pub units : Form → ℕ
units f = units_of (bare f) (pos 0)

-- the numbers that decide a branch
abbrev pub operands : Form → List ℕ
operands (form.If test a b target) = a ∷ b ∷ []
operands (form.IfZero test a target) = a ∷ []
operands (form.PackedSwitch on first targets) = on ∷ []
operands (form.SparseSwitch on keys targets) = on ∷ []
operands f = []

abbrev pub is_choice : Form → Bool
is_choice (form.If test a b target) = true
is_choice (form.IfZero test a target) = true
is_choice (form.PackedSwitch on first targets) = true
is_choice (form.SparseSwitch on keys targets) = true
is_choice f = false

-- A pure form, other than a nop or a number, whose result some solution knows. The constant writes just the registers that
-- the form writes, so that of a wide place is wide and that of one register isn't, and is no longer than the form.
pub record FoldsToNumber (p : NamedProgram) (o : Outer) (k : MethodKey) (b : NamedBody) (n : ℕ) (f : Form) : Type 0 where
  pub pure : IsPure p o k n f
  pub to : ℕ
  pub result : result_register f ≡ Some to
  pub table : Solution
  pub closed : IsSolution p o table
  pub registers : ℕ → Flat
  pub there : table.registers k n ≡ Some registers
  pub constant : Form
  pub known : constant_of to (after flat p table k.class (form_before b n) f registers to) ≡ Some constant
  pub same : (r : ℕ) → writes constant r ≡ writes f r
  pub encodable : is_encodable (bare constant) ≡ true
  pub short : units constant ≤ units f

-- A branch whose operands some solution knows.
pub record FoldsToOutcome (p : NamedProgram) (o : Outer) (k : MethodKey) (n : ℕ) (f : Form) : Type 0 where
  pub chooses : is_choice f ≡ true
  pub registers : ℕ → Flat
  pub knows : Knows p o k n registers
  pub known : list_all (λ r. is_known (registers r)) (operands f) ≡ true

pub data Folds (p : NamedProgram) (o : Outer) (k : MethodKey) (b : NamedBody) (n : ℕ) (f : Form) : Type 0 where
  ToNumber : FoldsToNumber p o k b n f → Folds p o k b n f
  ToOutcome : FoldsToOutcome p o k n f → Folds p o k b n f

pub record IsFoldable (p : NamedProgram) (o : Outer) (k : MethodKey) (n : ℕ) : Type 0 where
  pub body : NamedBody
  pub form : Form
  pub has_body : bodies_of p k ≡ Some body
  pub has_form : form_at body n ≡ Some form
  pub reached : IsAlwaysReached p o k n
  pub folds : Folds p o k body n form
