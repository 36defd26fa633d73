-- A body in which forms read the originals of copies that a Move stands for (this project's profile).
use Rattle.std.specs.Prelude.{◌≡◌, ℕ, ◌+◌, ◌&&◌, if◌then◌else◌, nat_eq, List, [], ◌∷◌, Some, None, Contains, All}
use Rattle.insn_set.specs.Widths.{is_wide_slot}
use Rattle.insn_set.specs.declared.ops.Slot.{Slot}
use Rattle.dalvik_defs.specs.declared.forms.Form.{Form}
use Rattle.dalvik_defs.specs.declared.forms.Form.TheVariants as form
use Rattle.dalvik_defs.specs.declared.program.NamedBody.{NamedBody}
use Rattle.dalvik_defs.specs.declared.program.NamedMethod.{NamedMethod}
use Rattle.dalvik_defs.specs.declared.program.NamedClass.{NamedClass}
use Rattle.dalvik_defs.specs.declared.program.NamedProgram.{NamedProgram}
use Rattle.pass_defs.specs.Remade.{remade}
use Rattle.pass_defs.specs.Stale.{StandsFor}
use Rattle.pass_defs.specs.Walks.{form_at}
use Rattle.program_laws.specs.Bodies.{Change, KeepsCode}

-- a Move, by its position
pub record Copied : Type 0 where
  pub at : ℕ
  pub slot : Slot
  pub to : ℕ
  pub from : ℕ

-- the original of a register by the first copy that has it
abbrev pub substituted : List Copied → ℕ → ℕ
substituted [] r = r
substituted (c ∷ cs) r = if nat_eq r c.to then c.from else if is_wide_slot c.slot && nat_eq r (c.to + 1) then c.from + 1 else substituted cs r

-- the Move stands for the read of its copy at a position
pub record StandsThere (b : NamedBody) (n : ℕ) (f : Form) (c : Copied) : Type 0 where
  pub copy : form_at b c.at ≡ Some (form.Move c.slot c.to c.from)
  pub stands : StandsFor b c.at c.slot c.to c.from n f

-- a form that reads the originals of such copies
pub record IsReread (b : NamedBody) (n : ℕ) (f g : Form) : Type 0 where
  pub copies : List Copied
  pub stale : All (StandsThere b n f) copies
  pub form : g ≡ remade (substituted copies) (λ r. r) (λ t. t) f

-- all forms do or stay, and all else stays
pub record AreReread (b d : NamedBody) : Type 0 where
  pub forms : (n : ℕ) (f : Form) → form_at b n ≡ Some f → (g : Form) × ((form_at d n ≡ Some g) × IsReread b n f g)
  pub ends : (n : ℕ) → form_at b n ≡ None → form_at d n ≡ None
  pub regions : d.regions ≡ b.regions
  pub registers : d.registers ≡ b.registers
  pub ins : d.ins ≡ b.ins

-- so it is in each method, and methods have code where they had
pub record AllReread (new : Change) (p : NamedProgram) : Type 0 where
  pub code : KeepsCode new
  pub bodies : (c : NamedClass) (m : NamedMethod) (b d : NamedBody) → Contains p.classes c → Contains c.methods m → m.body ≡ Some b → (new c m).body ≡ Some d → AreReread b d
