-- What constant propagation may write (this project's profile). What the facts say is asked of the pass: `gives n g` where
-- the form at position n does no more than the constant g does, and `takes n q` where the branch there goes to q alone.
use Rattle.std.specs.Prelude.{◌≡◌, ℕ, ◌+◌, ◌≤◌, Bool, true, false, length, Some, Contains}
use Rattle.insn_set.specs.Spelling.{is_encodable}
use Rattle.dalvik_defs.specs.declared.forms.Form.{Form}
use Rattle.dalvik_defs.specs.declared.forms.Form.TheVariants as form
use Rattle.dalvik_defs.specs.declared.program.NamedBody.{NamedBody}
use Rattle.dalvik_defs.specs.declared.program.NamedClass.{NamedClass}
use Rattle.dalvik_defs.specs.declared.program.NamedProgram.{NamedProgram}
use Rattle.pass_defs.specs.Bare.{bare, writes, targets}
use Rattle.pass_defs.specs.Walks.{form_at}
use Rattle.pass_defs.specs.Kinds.{Kind, Undefined, Low, is_below}
use Rattle.pass_defs.specs.Registers.{Kinds, kind_at}
use Rattle.pass_defs.specs.Typed.{Table, state_at, constant_kind, after}
use Rattle.pass_defs.specs.Pure.{is_pure}
use Rattle.pass_defs.specs.Foldable.{units, result_register, is_choice}

-- a form that only writes a register, where it doesn't throw
abbrev pub only_writes : NamedProgram → Form → Bool
only_writes p (form.Binary op to a b) = true
only_writes p (form.Literal op to a value) = true
only_writes p f = is_pure p f

abbrev pub is_constant : Form → Bool
is_constant (form.Const to value) = true
is_constant (form.ConstWide to value) = true
is_constant f = false

-- the kind that a constant writes, of a wide one the low half
abbrev pub kind_written : Form → Kind
kind_written (form.Const to value) = constant_kind value
kind_written (form.ConstWide to value) = Low
kind_written f = Undefined

-- A constant in place of a form: it writes just the registers that the form writes, is no longer, and where the typing has
-- a state its kind is at or below the one that the form writes. So among references it is 0, of a wide it is wide, and for
-- an object that no constructor was called on there is none.
pub record IsConstantFor (p : NamedProgram) (c : NamedClass) (t : Table) (n : ℕ) (f g : Form) : Type 0 where
  pub constant : is_constant g ≡ true
  pub plain : only_writes p f ≡ true
  pub to : ℕ
  pub result : result_register f ≡ Some to
  pub same : (r : ℕ) → writes g r ≡ writes f r
  pub fits : (a : Kinds) → state_at t n ≡ Some a → is_below p (kind_written g) (kind_at (after p c n f a).registers to) ≡ true
  pub encodable : is_encodable (bare g) ≡ true
  pub short : units g ≤ units f

module _ (p : NamedProgram) (c : NamedClass) (t : Table) (gives : ℕ → Form → Type 0) (takes : ℕ → ℕ → Type 0) where
  -- A form stays, becomes a constant, or, of a branch, a goto to one of its targets or a nop.
  pub data MayBecome (n : ℕ) (f : Form) : Form → Type 0 where
    Itself : MayBecome n f f
    Constant : (g : Form) → IsConstantFor p c t n f g → gives n g → MayBecome n f g
    Target : (q : ℕ) → is_choice f ≡ true → Contains (targets f) q → takes n q → MayBecome n f (form.Goto q)
    Next : is_choice f ≡ true → takes n (n + 1) → MayBecome n f form.Nop

  -- the body of a method of the class, before and after
  pub record IsFolded (old new : NamedBody) : Type 0 where
    pub long : length new.forms ≡ length old.forms
    pub forms : (n : ℕ) (f g : Form) → form_at old n ≡ Some f → form_at new n ≡ Some g → MayBecome n f g
    pub regions : new.regions ≡ old.regions
    pub registers : new.registers ≡ old.registers
    pub ins : new.ins ≡ old.ins
