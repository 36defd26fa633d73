-- Methods whose code has other registers, with what a typing of it asks.
use Rattle.std.specs.Prelude.{◌≡◌, ◌⊎◌, ℕ, Some, None}
use Rattle.dalvik_defs.specs.declared.forms.Form.{Form}
use Rattle.dalvik_defs.specs.declared.program.NamedBody.{NamedBody}
use Rattle.pass_defs.specs.Walks.{form_at}
use Rattle.form_laws.specs.Kinds.{HasNarrowClass}
use Rattle.form_laws.specs.Solid.{HasRoom}
use Rattle.form_laws.specs.Renamed.{IsRenamed}
use Rattle.form_laws.specs.TypedRegisters.{Marks}
use Rattle.program_laws.specs.Others.{Codes}

-- a body with other registers, a test of what is read of its own, and no call of a method of a wide type
pub record PacksTo (b d : NamedBody) : Type 0 where
  pub new : ℕ → ℕ
  pub renamed : IsRenamed b d new
  pub marks : Marks b
  pub calls : (n : ℕ) (f : Form) → form_at b n ≡ Some f → HasNarrowClass f

-- the same code, or such a body where the forms of the old one use registers that it has
abbrev pub Packs : Codes
Packs k (Some b) (Some d) = (d ≡ b) ⊎ (HasRoom b → PacksTo b d)
Packs k (Some b) None = ⊥
Packs k None (Some d) = ⊥
Packs k None None = Unit {0}
