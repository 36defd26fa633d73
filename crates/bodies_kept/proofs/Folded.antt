-- A program whose instructions are folded says no more: what is written is a constant, a goto or a nop.
use Rattle.std.proofs.Common.{◌≡◌, ℕ, ◌+◌, Bool, true, false, List, [], ◌∷◌, Option, Some, refl, sym, ap, ◌∙◌, subst}
use Rattle.std.specs.Prelude.{All, nat_eq, if◌then◌else◌, None}
use Rattle.std.proofs.lemmas.List.Elements.{All-head, All-tail}
use Rattle.lemmas.proofs.Options.{some_same}
use Rattle.insn_set.specs.declared.form.Insn.{Insn}
use Rattle.insn_set.specs.declared.form.Insn.TheVariants as insn
use Rattle.program_model.specs.declared.body.Body.{Body}
use Rattle.program_model.specs.declared.pass.Changed.{Changed}
use Rattle.program_model.specs.declared.program.Method.{Method}
use Rattle.program_model.specs.declared.program.MethodAt.{MethodAt}
use Rattle.program_model.specs.declared.program.Program.{Program}
use Rattle.dalvik_defs.specs.Naming.{form_of, named}
use Rattle.dalvik_defs.specs.Outer.{Outer}
use Rattle.dom_frame.specs.declared.frames.Frame.{Frame}
use Rattle.domains.specs.Values.{Parts}
use Rattle.facts.specs.declared.facts.Facts.{Facts}
use Rattle.hierarchy.specs.declared.build.Hierarchy.{Hierarchy}
use Rattle.removal_law.proofs.Lists.{clash}
use Rattle.removal_law.specs.Left.{In, here, there}
use Rattle.removal_law.specs.Reach.{ShutsHold}
use Rattle.program_laws.specs.Said.{Quiet, said}
use Rattle.rewrite_pass.specs.declared.edit.Edit.{Edit}
use Rattle.const_prop.specs.declared.choices.Way.{Way}
use Rattle.const_prop.specs.declared.choices.Way.TheVariants.{Open, Next, To}
use Rattle.const_prop.specs.Constants.{is_constant}
use Rattle.const_prop.specs.Choices.{is_choice, has_target, goto_or_nop, chosen}
use Rattle.const_prop.specs.Allowed.{IsAllowed, Constant, Branch, IsFold}
use Rattle.const_prop.specs.Folds.{AreFolds, IsFoldedBy}
use Rattle.bodies_kept.proofs.RewrittenShut.{IsQuiet, rewritten_keeps}

module _ (p : Program) where
  constant_quiet : (g : Insn) → is_constant g ≡ true → IsQuiet p g
  constant_quiet (insn.Const to value) e = refl
  constant_quiet (insn.ConstWide to value) e = refl
  constant_quiet g e = clash false e refl

  goto_quiet : (next target : ℕ) → IsQuiet p (goto_or_nop next target)
  goto_quiet next target = by (nat_eq target next)
    where
      by : (b : Bool) → IsQuiet p (if b then insn.Nop else insn.Goto target)
      by true = refl
      by false = refl

  branch_quiet : (f : Insn) (next : ℕ) (way : Way) (g : Insn) → chosen f next way ≡ Some g → IsQuiet p g
  branch_quiet f next Open g e = absurd (cc)
  branch_quiet f next Next g e = by (is_choice f) e
    where
      by : (b : Bool) → (if b then Some insn.Nop else None) ≡ Some g → IsQuiet p g
      by true i = subst (IsQuiet p) (some_same insn.Nop g i) refl
      by false i = absurd (cc)
  branch_quiet f next (To target) g e = by (has_target f target) e
    where
      by : (b : Bool) → (if b then Some (goto_or_nop next target) else None) ≡ Some g → IsQuiet p g
      by true i = subst (IsQuiet p) (some_same (goto_or_nop next target) g i) (goto_quiet next target)
      by false i = absurd (cc)

  allowed_quiet : (given : Parts) (frame : Option Frame) (n : ℕ) (f g : Insn) → IsAllowed p given frame n f g → IsQuiet p g
  allowed_quiet given frame n f g (Constant number _ e w c) = constant_quiet g c.constant
  allowed_quiet given frame n f g (Branch _ e) = branch_quiet f (n + 1) _ g e

module _ (p : Program) (h : Hierarchy) (facts : Facts) where
  folds_quiet : (at : MethodAt) (m : Method) (b : Body) (es : List Edit) → AreFolds p h facts at m b es → (e : Edit) → In e es → IsQuiet p e.insn
  folds_quiet at m b es f e i = by es f.each i
    where
      by : (es : List Edit) → All (IsFold p facts f.table at m b) es → In e es → IsQuiet p e.insn
      by _ a (here es) = allowed_quiet p _ _ e.position _ e.insn (All-head (IsFold p facts f.table at m b) e es a).allowed
      by _ a (there x es j) = by es (All-tail (IsFold p facts f.table at m b) x es a) j

pub folded_keeps : (p : Program) (h : Hierarchy) (facts : Facts) (admitted : List Bool) (c : Changed) (o : Outer) → IsFoldedBy p h facts admitted c → ShutsHold (named p) o → ShutsHold (named c.program) o
folded_keeps p h facts admitted c o r = rewritten_keeps (AreFolds p h facts) admitted p (folds_quiet p h facts) c o r
