-- A program with accepted calls of its methods inlined, all at once.
use Rattle.std.specs.Prelude.{◌≡◌, ℕ, ◌≤◌, List, [], ◌∷◌, Option, Some, None}
use Rattle.dalvik_defs.specs.Face.{bodies_of}
use Rattle.dalvik_defs.specs.declared.names.MethodKey.{MethodKey}
use Rattle.dalvik_defs.specs.declared.program.NamedBody.{NamedBody}
use Rattle.dalvik_defs.specs.declared.program.NamedMethod.{NamedMethod}
use Rattle.dalvik_defs.specs.declared.program.NamedProgram.{NamedProgram}
use Rattle.pass_defs.specs.Inlined.{inlined}
use Rattle.program_laws.specs.Results.{TakesInPlace}
use Rattle.inline_law.specs.Accepted.{AreAccepted}
use Rattle.inline_law.specs.Entered.{AcceptedIn}

-- what became of a method's code: nothing where no call is accepted, and else the code with these calls inlined
pub data Inlines (p : NamedProgram) (accepted : AcceptedIn) (k : MethodKey) : Option NamedBody → Option NamedBody → Type 0 where
  NoCode : Inlines p accepted k None None
  Same : (b : NamedBody) → accepted k ≡ [] → Inlines p accepted k (Some b) (Some b)
  Inlined : (m : NamedMethod) (b : NamedBody) (n : ℕ) (ns : List ℕ) → accepted k ≡ n ∷ ns → Inlines p accepted k (Some b) (Some (inlined p k m b (n ∷ ns)))

-- what is asked of the accepted calls of all methods
pub record IsInlining (p : NamedProgram) (need : MethodKey → ℕ → ℕ → Type 0) (accepted : AcceptedIn) : Type 0 where
  pub room : (k : MethodKey) (b : NamedBody) → bodies_of p k ≡ Some b → b.ins ≤ b.registers
  pub in_place : (k : MethodKey) (b : NamedBody) → bodies_of p k ≡ Some b → TakesInPlace b
  pub accepts : (k : MethodKey) (b : NamedBody) (n : ℕ) (ns : List ℕ) → bodies_of p k ≡ Some b → accepted k ≡ n ∷ ns → AreAccepted p (bodies_of p) need k b (n ∷ ns)
