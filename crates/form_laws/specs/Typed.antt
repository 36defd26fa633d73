-- Where a typing of a body gives one of the body in which forms are replaced (this project's profile).
use Rattle.std.specs.Prelude.{◌≡◌, ◌⊎◌, ℕ, zero, suc, Bool, true, false, ◌&&◌, not, if◌then◌else◌, List, [], ◌∷◌, length, Option, Some, None, is_some, Contains}
use Rattle.dalvik_defs.specs.declared.forms.Form.{Form}
use Rattle.dalvik_defs.specs.declared.program.NamedBody.{NamedBody}
use Rattle.dalvik_defs.specs.declared.program.NamedClass.{NamedClass}
use Rattle.dalvik_defs.specs.declared.program.NamedMethod.{NamedMethod}
use Rattle.dalvik_defs.specs.declared.program.NamedProgram.{NamedProgram}
use Rattle.pass_defs.specs.Bare.{may_throw}
use Rattle.pass_defs.specs.Demands.{is_allowed}
use Rattle.pass_defs.specs.Kinds.{Kind, is_below}
use Rattle.pass_defs.specs.Quiet.{takes_result}
use Rattle.pass_defs.specs.Registers.{Kinds, kinds_below}
use Rattle.pass_defs.specs.Typed.{after, is_wrong, Table, state_at}
use Rattle.pass_defs.specs.Walks.{form_at, onward}

-- the order of kinds
abbrev pub IsOrdered : NamedProgram → Type 0
IsOrdered p = (a b c : Kind) → is_below p a b ≡ true → is_below p b c ≡ true → is_below p a c ≡ true

-- whether there is a state in front of a position
abbrev pub has_front : Bool → Table → ℕ → Bool
has_front front t zero = front
has_front front t (suc n) = is_some (state_at t n)

-- a state, but none where a result is taken that nothing gives
abbrev pub taken : Bool → Option Form → Option Kinds → Option Kinds
taken front f a = if takes_result f && not front then None else a

-- so it is in a table, of which the first position has such a front
abbrev pub taken_table : Bool → List Form → Table → Table
taken_table front fs [] = []
taken_table front [] (a ∷ t) = a ∷ t
taken_table front (f ∷ fs) (a ∷ t) = taken front (Some f) a ∷ taken_table (is_some a) fs t

-- The second form reads nothing that isn't allowed, throws nothing, goes on only where the first one does, and leaves no more
-- than that.
pub record Lowers (p : NamedProgram) (c : NamedClass) (m : NamedMethod) (n : ℕ) (a : Kinds) (f g : Form) : Type 0 where
  pub allowed : is_allowed p c m a g ≡ true
  pub right : is_wrong p c m a g ≡ false
  pub calm : may_throw g ≡ false
  pub onward : (q : ℕ) → Contains (onward g n) q → Contains (onward f n) q
  pub below : kinds_below p (after p c n g a) (after p c n f a) ≡ true

-- A body in which each form that has a state stays, or is replaced by one that leaves no more. A form that takes a result is asked
-- only where there is a state in front of it.
pub record IsLowered (p : NamedProgram) (c : NamedClass) (m : NamedMethod) (b d : NamedBody) (t : Table) : Type 0 where
  pub forms : (n : ℕ) (f g : Form) (a : Kinds) → form_at b n ≡ Some f → form_at d n ≡ Some g → state_at t n ≡ Some a → (takes_result (Some f) ≡ true → has_front true t n ≡ true) → (g ≡ f) ⊎ Lowers p c m n a f g
  pub long : length d.forms ≡ length b.forms
  pub regions : d.regions ≡ b.regions
  pub registers : d.registers ≡ b.registers
  pub ins : d.ins ≡ b.ins
