-- A program whose calls and divisions that do nothing are nops: just these, in the admitted bodies, and all else stays.
use Rattle.std.specs.Prelude.{◌≡◌, ◌↔◌, ℕ, zero, suc, Bool, true, false, List, [], ◌++◌, length, Option, Some, None, slice_get, slice_index_or}
use Rattle.insn_set.specs.declared.form.Insn.{Insn}
use Rattle.program_model.specs.declared.body.Body.{Body}
use Rattle.program_model.specs.declared.pass.Changed.{Changed}
use Rattle.program_model.specs.declared.program.Class.{Class}
use Rattle.program_model.specs.declared.program.Method.{Method}
use Rattle.program_model.specs.declared.program.MethodAt.{MethodAt}
use Rattle.program_model.specs.declared.program.Program.{Program}
use Rattle.hierarchy.specs.Shapes.{IsResolved}
use Rattle.hierarchy.specs.declared.build.Hierarchy.{Hierarchy}
use Rattle.live_regs.specs.declared.table.Live.{Live}
use Rattle.dom_frame.specs.declared.frames.Frame.{Frame}
use Rattle.facts.specs.Lent.{frame_at}
use Rattle.facts.specs.declared.facts.Facts.{Facts}
use Rattle.rewrite_pass.specs.declared.edit.Edit.{Edit}
use Rattle.rewrite_pass.specs.Plans.{IsPlan, IsRewrittenBy}
use Rattle.quiet_methods.specs.Quiet.{AreQuiet}
use Rattle.quiet_code.specs.Quiet.{AreDropped, nop_if}
use Rattle.quiet_code.specs.Idle.{IsIdle, LiveIn, is_small}

abbrev pub Frames : Type 0
Frames = List (List (Option Frame))

-- nops over the marked ones of so many positions
abbrev pub nops_upto : (ℕ → Bool) → ℕ → List Edit
nops_upto idle zero = []
nops_upto idle (suc k) = nops_upto idle k ++ nop_if (idle k) k

-- Just the instructions that do nothing become nops in the body of a method, where these methods are quiet and these registers are
-- known. What is live in the body is told where it has a division and 32 bits number its positions and regions.
pub record AreNops (p : Program) (quiet : List Bool) (frames : Frames) (m : Method) (b : Body) (es : List Edit) : Type 0 where
  pub idle : ℕ → Bool
  pub are_idle : (n : ℕ) (i : Insn) → slice_get b.insns n ≡ Some i → (idle n ≡ true) ↔ IsIdle p quiet (frame_at frames m.name n) b n i
  pub edits : es ≡ nops_upto idle (length b.insns)
  pub live : Option Live
  pub live_in : is_small b ≡ true → LiveIn b live

-- What is written whatever the hierarchy is, and where it is that of the program's classes.
pub record NopsWell (p : Program) (h : Hierarchy) (quiet : List Bool) (frames : Frames) (m : Method) (b : Body) (es : List Edit) : Type 0 where
  pub dropped : AreDropped b es
  pub nops : IsResolved p h → AreNops p quiet frames m b es

abbrev pub Nops : Program → List Bool → Frames → MethodAt → Method → Body → List Edit → Type 0
Nops p quiet frames at m b es = AreNops p quiet frames m b es

-- So it is in all admitted methods, where just the methods are quiet that are so by the registers that the facts know.
pub record IsQuietPlan (p : Program) (facts : Facts) (admitted : List Bool) (plan : List (List (List Edit))) : Type 0 where
  pub quiet : List Bool
  pub are_quiet : AreQuiet p facts.frames.items quiet
  pub plans : IsPlan (Nops p quiet facts.frames.items) admitted p.classes plan

-- Nothing that does nothing is left in the bodies of admitted methods.
abbrev pub NoneIdle : Program → List Bool → Frames → List Bool → Type 0
NoneIdle p quiet frames admitted = (k j : ℕ) (c : Class) (m : Method) (b : Body) → slice_get p.classes k ≡ Some c → slice_get c.methods j ≡ Some m
    → slice_index_or admitted m.name false ≡ true → m.body ≡ Some b → (n : ℕ) (i : Insn) → slice_get b.insns n ≡ Some i → IsIdle p quiet (frame_at frames m.name n) b n i → ⊥

pub record IsQuieted (p : Program) (facts : Facts) (admitted : List Bool) (c : Changed) : Type 0 where
  pub quiet : List Bool
  pub are_quiet : AreQuiet p facts.frames.items quiet
  pub rewritten : IsRewrittenBy (Nops p quiet facts.frames.items) admitted p c
  pub none_left : c.count ≡ 0 → NoneIdle p quiet facts.frames.items admitted
