-- Bodies in which nops stand for instructions that do nothing, by number.
use Rattle.std.specs.Prelude.{◌≡◌, ◌↔◌, ℕ, suc, Bool, true, false, List, [], ◌∷◌, Option, Some, None, slice_get, Contains}
use Rattle.insn_set.specs.declared.form.Insn.{Insn}
use Rattle.insn_set.specs.declared.form.Insn.TheVariants as insn
use Rattle.program_model.specs.declared.body.Body.{Body}
use Rattle.program_model.specs.declared.program.Class.{Class}
use Rattle.program_model.specs.declared.program.Method.{Method}
use Rattle.program_model.specs.declared.program.Program.{Program}
use Rattle.dalvik_defs.specs.Naming.{named_class, named_method}
use Rattle.dalvik_defs.specs.Silence.{key_in}
use Rattle.dalvik_defs.specs.declared.names.MethodKey.{MethodKey}
use Rattle.live_regs.specs.declared.table.Live.{Live}
use Rattle.facts.specs.Lent.{frame_at}
use Rattle.quiet_code.specs.Idle.{IsIdle, LiveIn, is_small}
use Rattle.quiet_code.specs.Quieted.{Frames}

abbrev pub nop_for : Bool → Insn → Insn
nop_for true i = insn.Nop
nop_for false i = i

-- nops for the marked ones of instructions, of which the first stands at a position
abbrev pub nopped : (ℕ → Bool) → ℕ → List Insn → List Insn
nopped idle n [] = []
nopped idle n (i ∷ is) = nop_for (idle n) i ∷ nopped idle (suc n) is

abbrev pub body_nopped : (ℕ → Bool) → Body → Body
body_nopped idle b = record b { insns = nopped idle 0 b.insns }

-- The code of a method of the program, the same or with nops for just the instructions that do nothing.
pub data QuietedCode (p : Program) (quiet : List Bool) (frames : Frames) (k : MethodKey) : Option Body → Option Body → Type 0 where
  NoCode : QuietedCode p quiet frames k None None
  Same : (b : Body) → QuietedCode p quiet frames k (Some b) (Some b)
  Quieted : (class : ℕ) (c : Class) (m : Method) (b : Body) → slice_get p.classes class ≡ Some c → Contains c.methods m → m.body ≡ Some b → k ≡ key_in (named_class p c) (named_method p m)
      → (idle : ℕ → Bool) → ((n : ℕ) (i : Insn) → slice_get b.insns n ≡ Some i → (idle n ≡ true) ↔ IsIdle p quiet (frame_at frames m.name n) b n i)
      → (live : Option Live) → (is_small b ≡ true → LiveIn b live) → QuietedCode p quiet frames k (Some b) (Some (body_nopped idle b))
