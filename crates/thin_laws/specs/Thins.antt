-- What became of a method's code: none, the same, or the same without the positions that some fates take away.
use Rattle.std.specs.Prelude.{List, Option, Some, None}
use Rattle.program_model.specs.declared.body.Body.{Body}
use Rattle.program_model.specs.declared.program.Program.{Program}
use Rattle.dalvik_defs.specs.Naming.{body_of}
use Rattle.dalvik_defs.specs.declared.names.MethodKey.{MethodKey}
use Rattle.dalvik_defs.specs.declared.program.NamedBody.{NamedBody}
use Rattle.pass_defs.specs.Thinned.{Fate, thinned, body_thinned}

-- which fates are right for a method's body
abbrev pub Right : Type 1
Right = MethodKey → List Fate → NamedBody → Type 0

pub data Thins (right : Right) (k : MethodKey) : Option NamedBody → Option NamedBody → Type 0 where
  NoCode : Thins right k None None
  Same : (b : NamedBody) → Thins right k (Some b) (Some b)
  Thinned : (fs : List Fate) (b : NamedBody) → right k fs b → Thins right k (Some b) (Some (thinned fs b))

-- by number
pub data ThinsNumbered (right : Right) (p : Program) (k : MethodKey) : Option Body → Option Body → Type 0 where
  NoBody : ThinsNumbered right p k None None
  SameBody : (b : Body) → ThinsNumbered right p k (Some b) (Some b)
  ThinnedBody : (fs : List Fate) (b : Body) → right k fs (body_of p b) → ThinsNumbered right p k (Some b) (Some (body_thinned fs b))
