-- What is said of a body by number, and of its named body.
use Rattle.std.specs.Prelude.{◌↔◌, ℕ}
use Rattle.program_model.specs.declared.body.Body.{Body}
use Rattle.program_model.specs.declared.program.Program.{Program}
use Rattle.dalvik_defs.specs.Naming.{body_of}
use Rattle.pass_defs.specs.Walks as named
use Rattle.body_graph.specs.Walks as numbered

abbrev pub IsReachedByNumber : Type 0
IsReachedByNumber = (p : Program) (b : Body) (n : ℕ) → named.IsReached (body_of p b) n ↔ numbered.IsReached b n

abbrev pub IsReadByNumber : Type 0
IsReadByNumber = (p : Program) (b : Body) (r n : ℕ) → named.IsRead (body_of p b) r n ↔ numbered.IsRead b r n

abbrev pub IsReadAfterByNumber : Type 0
IsReadAfterByNumber = (p : Program) (b : Body) (r n : ℕ) → named.IsReadAfter (body_of p b) r n ↔ numbered.IsReadAfter b r n
