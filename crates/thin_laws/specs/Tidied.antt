-- Programs whose code is thinned by tidy fates.
use Rattle.std.specs.Prelude.{◌≡◌, ℕ, Bool, true, List, length, Some}
use Rattle.program_model.specs.LineRules.{lines_fit}
use Rattle.program_model.specs.declared.body.Body.{Body}
use Rattle.program_model.specs.declared.program.Method.{Method}
use Rattle.program_model.specs.declared.program.Class.{Class}
use Rattle.program_model.specs.declared.program.Program.{Program}
use Rattle.pass_defs.specs.Thinned.{Fate, body_thinned}
use Rattle.program_laws.specs.Others.{Pairwise}
use Rattle.thin_laws.specs.Tidy.{IsTidy}

-- a method as it was, or with thinned code and lines for what is left of it
pub data TidiedMethod : Method → Method → Type 0 where
  Untouched : (m : Method) → TidiedMethod m m
  Tidied : (m : Method) (b : Body) (marks : ℕ → Bool) (fs : List Fate) (lines : List ℕ) → m.body ≡ Some b → IsTidy marks fs b → lines_fit (length (body_thinned fs b).insns) lines ≡ true
      → TidiedMethod m (record m { body = Some (body_thinned fs b); lines = lines })

pub record TidiedClass (c d : Class) : Type 0 where
  pub same : d ≡ record c { methods = d.methods }
  pub methods : Pairwise TidiedMethod c.methods d.methods

pub record TidiedProgram (p q : Program) : Type 0 where
  pub same : q ≡ record p { classes = q.classes }
  pub classes : Pairwise TidiedClass p.classes q.classes
