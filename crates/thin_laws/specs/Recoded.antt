-- Programs with other code that keeps the rules of bodies and takes no more room.
use Rattle.std.specs.Prelude.{◌≡◌, ℕ, ◌≤◌, true, List, length, Some}
use Rattle.program_model.specs.BodyRules.{body_fits}
use Rattle.program_model.specs.Cells.{body_cells}
use Rattle.program_model.specs.Items.{body_items}
use Rattle.program_model.specs.LineRules.{lines_fit}
use Rattle.program_model.specs.MemberRules.{frame_fits}
use Rattle.program_model.specs.declared.body.Body.{Body}
use Rattle.program_model.specs.declared.program.Method.{Method}
use Rattle.program_model.specs.declared.program.Class.{Class}
use Rattle.program_model.specs.declared.program.Program.{Program}
use Rattle.program_laws.specs.Others.{Pairwise}

-- Other code for a method: its arguments are the method's, and it keeps the rules of bodies, has lines for its positions or
-- none, and no more cells and items than the code before.
pub record Recodes (p : Program) (m : Method) (old new : Body) (lines : List ℕ) : Type 0 where
  pub frame : frame_fits p m new ≡ true
  pub body : body_fits p new ≡ true
  pub lined : lines_fit (length new.insns) lines ≡ true
  pub cells : body_cells new ≤ body_cells old
  pub items : body_items (Some new) ≤ body_items (Some old)

pub data RecodedMethod (p : Program) : Method → Method → Type 0 where
  Untouched : (m : Method) → RecodedMethod p m m
  Recoded : (m : Method) (old new : Body) (lines : List ℕ) → m.body ≡ Some old → Recodes p m old new lines → RecodedMethod p m (record m { body = Some new; lines = lines })

pub record RecodedClass (p : Program) (c d : Class) : Type 0 where
  pub same : d ≡ record c { methods = d.methods }
  pub methods : Pairwise (RecodedMethod p) c.methods d.methods

pub record RecodedProgram (p q : Program) : Type 0 where
  pub same : q ≡ record p { classes = q.classes }
  pub classes : Pairwise (RecodedClass p) p.classes q.classes
