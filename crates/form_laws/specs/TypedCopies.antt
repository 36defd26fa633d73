-- Where a typing of a body is one of the body that reads originals.
use Rattle.std.specs.Prelude.{◌≡◌, ℕ, ◌+◌, true, map, Some, Contains, All}
use Rattle.insn_set.specs.Widths.{is_wide_slot}
use Rattle.dalvik_defs.specs.declared.forms.Form.{Form}
use Rattle.dalvik_defs.specs.declared.forms.Form.TheVariants as form
use Rattle.dalvik_defs.specs.declared.program.NamedBody.{NamedBody}
use Rattle.dalvik_defs.specs.declared.program.NamedMethod.{NamedMethod}
use Rattle.dalvik_defs.specs.declared.program.NamedClass.{NamedClass}
use Rattle.dalvik_defs.specs.declared.program.NamedProgram.{NamedProgram}
use Rattle.pass_defs.specs.Walks.{form_at}
use Rattle.pass_defs.specs.Registers.{Kinds, kind_at}
use Rattle.pass_defs.specs.Demands.{demands}
use Rattle.pass_defs.specs.Typed.{Table, state_at, receiver_register, IsTyping}
use Rattle.form_laws.specs.Kinds.{AtFirst, AllSame, HasNarrowClass}
use Rattle.program_laws.specs.Bodies.{Change, KeepsCode}
use Rattle.form_laws.specs.Copied.{ReadsOriginals}
use Rattle.form_laws.specs.Reread.{Copied, AreReread}
use Rattle.pass_defs.specs.Kinds.{Low, High}

-- the kinds that a form's answer depends on are the same, and a cast has the register that it had
abbrev pub Leaves : (ℕ → ℕ) → Kinds → Form → Type 0
Leaves r a (form.Move slot to from) = kind_at a.registers (r from) ≡ kind_at a.registers from
Leaves r a (form.ArrayGet item to array index) = kind_at a.registers (r array) ≡ kind_at a.registers array
Leaves r a (form.Invoke kind method args) = kind_at a.registers (receiver_register (map r args)) ≡ kind_at a.registers (receiver_register args)
Leaves r a (form.CheckCast on kind) = r on ≡ on
Leaves r a f = Unit {0}

-- A form reads registers of the same kinds by other numbers.
pub record SameAt (p : NamedProgram) (c : NamedClass) (m : NamedMethod) (r : ℕ → ℕ) (a : Kinds) (f : Form) : Type 0 where
  pub first : AtFirst r a.registers a.registers f
  pub asked : AllSame r a.registers a.registers (demands p c m a.registers f)
  pub leaves : Leaves r a f

-- Originals are read that have the kinds of their copies, by a typing of the body.
pub record ReadsAlike (p : NamedProgram) (c : NamedClass) (m : NamedMethod) (b d : NamedBody) : Type 0 where
  pub reads : ReadsOriginals b d
  pub table : Table
  pub typing : IsTyping p c m b table
  pub kinds : (n : ℕ) (f : Form) (a : Kinds) → form_at b n ≡ Some f → state_at table n ≡ Some a → SameAt p c m (reads.new n) a f

-- so it is in each method, and methods have code where they had
pub record AllReadAlike (new : Change) (p : NamedProgram) : Type 0 where
  pub code : KeepsCode new
  pub bodies : (c : NamedClass) (m : NamedMethod) (b d : NamedBody) → Contains p.classes c → Contains c.methods m → m.body ≡ Some b → (new c m).body ≡ Some d → ReadsAlike p c m b d

-- ---- by the Moves that stand for what is read

-- the original has the kind of the copy, of a wide both halves
pub record HasKind (a : Kinds) (c : Copied) : Type 0 where
  pub same : kind_at a.registers c.from ≡ kind_at a.registers c.to
  pub wide : is_wide_slot c.slot ≡ true → (kind_at a.registers c.to ≡ Low) × ((kind_at a.registers (c.to + 1) ≡ High) × (kind_at a.registers (c.from + 1) ≡ High))

pub record IsTypedReread (p : NamedProgram) (c : NamedClass) (m : NamedMethod) (b d : NamedBody) : Type 0 where
  pub reads : AreReread b d
  pub table : Table
  pub typing : IsTyping p c m b table
  pub kinds : (n : ℕ) (f : Form) (a : Kinds) (x : form_at b n ≡ Some f) → state_at table n ≡ Some a → All (HasKind a) (reads.forms n f x).1.1.copies
  -- no method of a wide type is called
  pub calls : (n : ℕ) (f : Form) → form_at b n ≡ Some f → HasNarrowClass f

pub record AllTypedReread (new : Change) (p : NamedProgram) : Type 0 where
  pub code : KeepsCode new
  pub bodies : (c : NamedClass) (m : NamedMethod) (b d : NamedBody) → Contains p.classes c → Contains c.methods m → m.body ≡ Some b → (new c m).body ≡ Some d → IsTypedReread p c m b d
