-- The same by number: two programs over the same tables, with the same classes and members but for bodies and source lines.
use Rattle.std.specs.Prelude.{◌≡◌, Option, is_some}
use Rattle.program_model.specs.declared.body.Body.{Body}
use Rattle.program_model.specs.declared.program.Method.{Method}
use Rattle.program_model.specs.declared.program.Class.{Class}
use Rattle.program_model.specs.declared.program.Program.{Program}
use Rattle.dalvik_defs.specs.Naming.{named_method, named_class}
use Rattle.dalvik_defs.specs.Silence.{key_in}
use Rattle.dalvik_defs.specs.declared.names.MethodKey.{MethodKey}
use Rattle.program_laws.specs.Others.{Pairwise}

abbrev pub NumberedCodes : Type 1
NumberedCodes = MethodKey → Option Body → Option Body → Type 0

module _ (R : NumberedCodes) (p : Program) where
  pub record OtherNumberedMethod (c : Class) (m n : Method) : Type 0 where
    pub same : n ≡ record m { body = n.body; lines = n.lines }
    pub coded : is_some n.body ≡ is_some m.body
    pub related : R (key_in (named_class p c) (named_method p m)) m.body n.body

  pub record OtherNumberedClass (c d : Class) : Type 0 where
    pub same : d ≡ record c { methods = d.methods }
    pub methods : Pairwise (OtherNumberedMethod c) c.methods d.methods

  pub record OtherNumberedBodies (q : Program) : Type 0 where
    pub same : q ≡ record p { classes = q.classes }
    pub classes : Pairwise OtherNumberedClass p.classes q.classes
