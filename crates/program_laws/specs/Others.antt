-- Two programs that are the same but for bodies and source lines.
use Rattle.std.specs.Prelude.{◌≡◌, List, [], ◌∷◌, Option, is_some}
use Rattle.dalvik_defs.specs.Silence.{key_in}
use Rattle.dalvik_defs.specs.declared.names.MethodKey.{MethodKey}
use Rattle.dalvik_defs.specs.declared.program.NamedBody.{NamedBody}
use Rattle.dalvik_defs.specs.declared.program.NamedMethod.{NamedMethod}
use Rattle.dalvik_defs.specs.declared.program.NamedClass.{NamedClass}
use Rattle.dalvik_defs.specs.declared.program.NamedProgram.{NamedProgram}

-- lists that are as long, with items that are related one by one
abbrev pub Pairwise : {A : Type 0} → (A → A → Type 0) → List A → List A → Type 0
Pairwise R [] [] = Unit {0}
Pairwise R [] (y ∷ ys) = ⊥
Pairwise R (x ∷ xs) [] = ⊥
Pairwise R (x ∷ xs) (y ∷ ys) = R x y × Pairwise R xs ys

-- what is said of a method, of the code that it had and of the code that it has
abbrev pub Codes : Type 1
Codes = MethodKey → Option NamedBody → Option NamedBody → Type 0

-- a method with other lines and other code, and with code exactly where it had
pub record OtherMethod (R : Codes) (c : NamedClass) (m n : NamedMethod) : Type 0 where
  pub same : n ≡ record m { body = n.body; lines = n.lines }
  pub coded : is_some n.body ≡ is_some m.body
  pub related : R (key_in c m) m.body n.body

pub record OtherClass (R : Codes) (c d : NamedClass) : Type 0 where
  pub same : d ≡ record c { methods = d.methods }
  pub methods : Pairwise (OtherMethod R c) c.methods d.methods

-- a program with other bodies and source lines
pub record OtherBodies (R : Codes) (p q : NamedProgram) : Type 0 where
  pub same : q ≡ record p { classes = q.classes }
  pub classes : Pairwise (OtherClass R) p.classes q.classes
