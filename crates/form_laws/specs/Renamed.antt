-- A body with other registers (this project's profile).
use Rattle.std.specs.Prelude.{◌≡◌, ℕ, ◌+◌, ◌<◌, true, nat_eq, map, Some, Contains}
use Rattle.std.specs.List.{list_any}
use Rattle.dalvik_defs.specs.Face.{Bodies}
use Rattle.dalvik_defs.specs.declared.names.MethodKey.{MethodKey}
use Rattle.dalvik_defs.specs.declared.forms.Form.{Form}
use Rattle.dalvik_defs.specs.declared.program.NamedBody.{NamedBody}
use Rattle.dalvik_defs.specs.declared.program.NamedMethod.{NamedMethod}
use Rattle.dalvik_defs.specs.declared.program.NamedClass.{NamedClass}
use Rattle.dalvik_defs.specs.declared.program.NamedProgram.{NamedProgram}
use Rattle.pass_defs.specs.Remade.{remade}
use Rattle.pass_defs.specs.Walks.{form_at, IsRead}
use Rattle.pass_defs.specs.Packed.{Conflict, wides_of, uses, locals}
use Rattle.program_laws.specs.Bodies.{Change, KeepsCode}

-- Each register has another number, one for the whole body. Registers that conflict stay apart, halves of a wide stay
-- together, and what is read of the entry's registers keeps its place among the arguments, or stays before them.
pub record IsRenamed (b d : NamedBody) (new : ℕ → ℕ) : Type 0 where
  pub forms : d.forms ≡ map (remade new new (λ t. t)) b.forms
  pub regions : d.regions ≡ b.regions
  pub ins : d.ins ≡ b.ins
  pub apart : (r s : ℕ) → Conflict b r s → new r ≡ new s → r ≡ s
  pub pairs : (n : ℕ) (f : Form) (w : ℕ) → form_at b n ≡ Some f → list_any (nat_eq w) (wides_of f) ≡ true → new (w + 1) ≡ new w + 1
  -- the new numbers are there
  pub room : (n : ℕ) (f : Form) (r : ℕ) → form_at b n ≡ Some f → uses f r ≡ true → new r < d.registers
  -- of the registers at the entry: those that are no arguments, and the arguments
  pub plain : (r : ℕ) → r < locals b → IsRead b r 0 → new r < locals d
  pub arguments : (i : ℕ) → i < b.ins → IsRead b (locals b + i) 0 → new (locals b + i) ≡ locals d + i

-- so it is in each method, and methods have code where they had
pub record AllRenamed (new : Change) (p : NamedProgram) : Type 0 where
  pub code : KeepsCode new
  pub bodies : (c : NamedClass) (m : NamedMethod) (b d : NamedBody) → Contains p.classes c → Contains c.methods m → m.body ≡ Some b → (new c m).body ≡ Some d
      → (names : ℕ → ℕ) × IsRenamed b d names

-- a register that is read later stands for the one with its new number
pub record Lives (find : Bodies) (new : MethodKey → ℕ → ℕ) (k : MethodKey) (n o x : ℕ) : Type 0 where
  pub body : NamedBody
  pub is : find k ≡ Some body
  pub named : x ≡ new k o
  pub read : IsRead body o n
