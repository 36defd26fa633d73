-- Constants solutions: closed tables of flat values (this project's profile).
use Rattle.std.specs.Prelude.{◌≡◌, ℕ, ◌%◌, ◌^◌, Bool, true, false, not, nat_eq, Some, is_some}
use Rattle.insn_set.specs.Flow.{divides}
use Rattle.insn_set.specs.declared.ops.BinaryOp.{BinaryOp}
use Rattle.dalvik_defs.specs.Outer.{Outer}
use Rattle.dalvik_defs.specs.declared.names.MethodKey.{MethodKey}
use Rattle.dalvik_defs.specs.declared.forms.Form.{Form}
use Rattle.dalvik_defs.specs.declared.forms.Form.TheVariants as form
use Rattle.dalvik_defs.specs.declared.program.NamedProgram.{NamedProgram}
use Rattle.pass_defs.specs.Flat.{Flat, Bottom, KnownWord, KnownWide, Any, FlatBelow, flat_joined, flat_unary, flat_binary, flat_literal, flat_compared, flat_stored, flat_outcome, flat_known, flat_zero}
use Rattle.pass_defs.specs.Facts.{Values, Facts, IsClosed}
use Rattle.pass_defs.specs.Pure.{is_pure}

abbrev pub flat : Values Flat
flat = record {
  below = FlatBelow;
  joined = flat_joined;
  bottom = Bottom;
  any = Any;
  word = KnownWord;
  wide = KnownWide;
  unary = flat_unary;
  binary = flat_binary;
  literal = flat_literal;
  compared = flat_compared;
  stored = flat_stored;
  outcome = flat_outcome;
  only = flat_known;
  is_zero = flat_zero;
}

abbrev pub Solution : Type 0
Solution = Facts Flat

abbrev pub IsSolution : NamedProgram → Outer → Solution → Type 0
IsSolution p o t = IsClosed flat p o t

-- the table that knows nothing
abbrev pub anything : Solution
anything = record { parameters = λ k i. Any; results = λ k. Any; registers = λ k n. Some (λ r. Any); fields = λ k. Any }

-- every constants solution reaches a position
abbrev pub IsAlwaysReached : NamedProgram → Outer → MethodKey → ℕ → Type 0
IsAlwaysReached p o k n = (t : Solution) → IsSolution p o t → is_some (t.registers k n) ≡ true

-- some constants solution knows registers there
pub record Knows (p : NamedProgram) (o : Outer) (k : MethodKey) (n : ℕ) (a : ℕ → Flat) : Type 0 where
  pub table : Solution
  pub closed : IsSolution p o table
  pub there : table.registers k n ≡ Some a

abbrev pub is_known : Flat → Bool
is_known (KnownWord n) = true
is_known (KnownWide n) = true
is_known x = false

-- as a divisor, of which a division of int takes the low 32 bits
abbrev pub is_nonzero : Flat → Bool
is_nonzero (KnownWord n) = not (nat_eq (n % 2 ^ 32) 0)
is_nonzero (KnownWide n) = not (nat_eq n 0)
is_nonzero x = false

-- A division by a register that every solution reaches, and whose divisor some solution knows as other than 0.
pub record DividesKnown (p : NamedProgram) (o : Outer) (k : MethodKey) (n : ℕ) (f : Form) : Type 0 where
  pub op : BinaryOp
  pub to : ℕ
  pub x : ℕ
  pub y : ℕ
  pub divides : divides op ≡ true
  pub form : f ≡ form.Binary op to x y
  pub reached : IsAlwaysReached p o k n
  pub registers : ℕ → Flat
  pub knows : Knows p o k n registers
  pub nonzero : is_nonzero (registers y) ≡ true

-- a pure form at a position
pub data IsPure (p : NamedProgram) (o : Outer) (k : MethodKey) (n : ℕ) (f : Form) : Type 0 where
  Itself : is_pure p f ≡ true → IsPure p o k n f
  Divides : DividesKnown p o k n f → IsPure p o k n f
