-- Results are taken where they are given: only what gives a result goes on to a MoveResult, and no handler is one (Dalvik
-- bytecode, "move-result").
use Rattle.std.specs.Prelude.{◌≡◌, ℕ, Bool, true, false, not, Some, Contains}
use Rattle.std.specs.List.{list_all}
use Rattle.dalvik_defs.specs.declared.forms.Form.{Form}
use Rattle.dalvik_defs.specs.declared.forms.Form.TheVariants as form
use Rattle.dalvik_defs.specs.declared.program.NamedBody.{NamedBody}
use Rattle.dalvik_defs.specs.declared.program.NamedMethod.{NamedMethod}
use Rattle.dalvik_defs.specs.declared.program.NamedClass.{NamedClass}
use Rattle.dalvik_defs.specs.declared.program.NamedProgram.{NamedProgram}
use Rattle.pass_defs.specs.Quiet.{takes_result}
use Rattle.pass_defs.specs.Walks.{form_at, onward, caught}

-- calls and filled arrays
abbrev pub gives_result : Form → Bool
gives_result (form.FilledNewArray kind args) = true
gives_result (form.Invoke kind method args) = true
gives_result f = false

-- a position is no MoveResult
abbrev pub takes_none : NamedBody → ℕ → Bool
takes_none b n = not (takes_result (form_at b n))

pub record TakesInPlace (b : NamedBody) : Type 0 where
  pub onward : (n : ℕ) (f : Form) → form_at b n ≡ Some f → gives_result f ≡ false → list_all (takes_none b) (onward f n) ≡ true
  pub caught : (n : ℕ) (f : Form) → form_at b n ≡ Some f → list_all (takes_none b) (caught b f n) ≡ true

-- so it is in every body
abbrev pub AllTakeInPlace : NamedProgram → Type 0
AllTakeInPlace p = (c : NamedClass) (m : NamedMethod) (b : NamedBody) → Contains p.classes c → Contains c.methods m → m.body ≡ Some b → TakesInPlace b
