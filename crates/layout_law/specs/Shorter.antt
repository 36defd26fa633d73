-- Bodies with instructions that are no longer than those in whose place they stand (Dalvik bytecode, "Instruction formats").
use Rattle.std.specs.Prelude.{◌≡◌, ℕ, suc, ◌≤◌, pos, Bool, true, false, List, [], ◌∷◌, Option, Some, None}
use Rattle.insn_set.specs.Spelling.{units_of}
use Rattle.insn_set.specs.declared.form.Insn.{Insn}
use Rattle.insn_set.specs.declared.form.Insn.TheVariants.{Goto, If, IfZero}
use Rattle.program_model.specs.declared.body.Body.{Body}

-- the target of a conditional branch
abbrev pub condition_of : Insn → Option ℕ
condition_of (If test a b target) = Some target
condition_of (IfZero test a target) = Some target
condition_of i = None

abbrev pub is_goto : Insn → Bool
is_goto (Goto target) = true
is_goto i = false

-- the units that an instruction has at least: those of a goto grow with its distance
abbrev pub least_units : Insn → ℕ
least_units (Goto target) = 1
least_units i = units_of i (pos 0)

-- An instruction at a position in place of another one. Where that one has room, so has this, and goes no farther: it is the same,
-- or no branch and no longer, or a conditional branch with the target of the other; or a goto to a conditional branch's target,
-- which isn't the position itself, since a goto there has three units; or any goto in place of three units.
pub data IsNoLonger (n : ℕ) (f : Insn) : Insn → Type 0 where
  Same : IsNoLonger n f f
  Plain : (g : Insn) → is_goto g ≡ false → condition_of g ≡ None → units_of g (pos 0) ≤ least_units f → IsNoLonger n f g
  Branch : (g : Insn) (target : ℕ) → condition_of f ≡ Some target → condition_of g ≡ Some target → IsNoLonger n f g
  Taken : (target : ℕ) → condition_of f ≡ Some target → (target ≡ n → ⊥) → IsNoLonger n f (Goto target)
  Switched : (target : ℕ) → 3 ≤ least_units f → IsNoLonger n f (Goto target)

-- so are all instructions from a position on
abbrev pub AreNoLonger : ℕ → List Insn → List Insn → Type 0
AreNoLonger n [] [] = Unit {0}
AreNoLonger n [] (g ∷ gs) = ⊥
AreNoLonger n (f ∷ fs) [] = ⊥
AreNoLonger n (f ∷ fs) (g ∷ gs) = IsNoLonger n f g × AreNoLonger (suc n) fs gs

-- the same regions, and instructions that are no longer
pub record IsShortened (b d : Body) : Type 0 where
  pub insns : AreNoLonger 0 b.insns d.insns
  pub regions : d.regions ≡ b.regions
