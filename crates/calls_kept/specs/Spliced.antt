-- What became of the code of methods, by number.
use Rattle.std.specs.Prelude.{◌≡◌, ◌≤◌, ℕ, List, Option, Some, None, slice_get}
use Rattle.program_model.specs.declared.body.Body.{Body}
use Rattle.program_model.specs.declared.program.Class.{Class}
use Rattle.program_model.specs.declared.program.Method.{Method}
use Rattle.program_model.specs.declared.program.MethodAt.{MethodAt}
use Rattle.program_model.specs.declared.program.Program.{Program}
use Rattle.hierarchy.specs.declared.build.Hierarchy.{Hierarchy}
use Rattle.facts.specs.declared.facts.Facts.{Facts}
use Rattle.dalvik_defs.specs.Naming.{named_class, named_method}
use Rattle.dalvik_defs.specs.Silence.{key_in}
use Rattle.dalvik_defs.specs.declared.names.MethodKey.{MethodKey}
use Rattle.splice.specs.declared.callee.Callee.{Callee}
use Rattle.splice.specs.Callees.{chosen_at}
use Rattle.splice.specs.Pieces.{body_spliced}
use Rattle.calls_kept.specs.Sites.{IsSite}

-- methods are chosen at sites of a method's code alone, and at one at least
pub record AreSites (p : Program) (h : Hierarchy) (facts : Facts) (at : MethodAt) (m : Method) (b : Body) (chosen : List (Option Callee)) : Type 0 where
  pub each : (n : ℕ) (y : Callee) → chosen_at chosen n ≡ Some y → IsSite p h facts at m b n y
  pub some : ℕ
  pub first : Callee
  pub chosen_there : chosen_at chosen some ≡ Some first

-- the code of a method, the same, with room for its arguments, or with the methods copied that are chosen
pub data SplicesSo (p : Program) (h : Hierarchy) (facts : Facts) (k : MethodKey) : Option Body → Option Body → Type 0 where
  NoCode : SplicesSo p h facts k None None
  Same : (b : Body) → b.ins ≤ b.registers → SplicesSo p h facts k (Some b) (Some b)
  Spliced : (at : MethodAt) (c : Class) (m : Method) (b : Body) (chosen : List (Option Callee)) → slice_get p.classes at.class ≡ Some c → slice_get c.methods at.place ≡ Some m → m.body ≡ Some b
      → k ≡ key_in (named_class p c) (named_method p m) → AreSites p h facts at m b chosen → SplicesSo p h facts k (Some b) (Some (body_spliced p m b chosen))
