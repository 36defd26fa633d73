-- A program with constants, gotos and nops in place of instructions lays out.
use Rattle.std.proofs.Common.{◌≡◌, ℕ, ◌+◌, ◌≤◌, Bool, true, false, List, Option, Some, None, refl, sym, ap, ◌∙◌, subst, arith}
use Rattle.std.specs.Prelude.{slice_get, pos, nat_eq, not}
use Rattle.std.proofs.lemmas.Bool.{eqb-true, eq-eqb}
use Rattle.std.proofs.lemmas.List.Elements.{All-weaker}
use Rattle.lemmas.proofs.Bools.{clash}
use Rattle.lemmas.proofs.Options.{some_same}
use Rattle.insn_set.specs.Spelling.{units_of}
use Rattle.insn_set.specs.declared.form.Insn.{Insn}
use Rattle.insn_set.specs.declared.form.Insn.TheVariants as insn
use Rattle.program_model.specs.BodyRules.{leaves}
use Rattle.program_model.specs.ProgramRules.{is_well_formed}
use Rattle.program_model.specs.declared.body.Body.{Body}
use Rattle.program_model.specs.declared.pass.Changed.{Changed}
use Rattle.program_model.specs.declared.program.Method.{Method}
use Rattle.program_model.specs.declared.program.MethodAt.{MethodAt}
use Rattle.program_model.specs.declared.program.Program.{Program}
use Rattle.hierarchy.specs.declared.build.Hierarchy.{Hierarchy}
use Rattle.domains.specs.Values.{Parts}
use Rattle.dom_frame.specs.declared.frames.Frame.{Frame}
use Rattle.facts.specs.declared.facts.Facts.{Facts}
use Rattle.verify.specs.Typings.{Table}
use Rattle.rewrite_pass.specs.declared.edit.Edit.{Edit}
use Rattle.const_prop.specs.Constants.{is_constant, is_result, result_of}
use Rattle.const_prop.specs.Choices.{has_target}
use Rattle.const_prop.specs.Folded.{MayBecome, Constant, Target, Next}
use Rattle.const_prop.specs.Allowed.{IsAllowed, IsFold, Constant as ByNumber, Branch as ByWay}
use Rattle.const_prop.specs.Known.{way_by}
use Rattle.const_prop.specs.Folds.{AreFolds, IsFoldedBy}
use Rattle.const_prop.proofs.Constants.{choice_becomes}
use Rattle.thin_laws.proofs.Rules.{leaves_at}
use Rattle.thin_laws.proofs.Tidied.{code_rules}
use Rattle.dex_defs.specs.LaysOut.{LaysOut}
use Rattle.layout_law.specs.Shorter.{condition_of, is_goto, least_units, IsNoLonger, Plain, Taken, Switched}
use Rattle.layout_law.proofs.Steps.{few_units}
use Rattle.layout_law.proofs.Methods.{contained}
use Rattle.layout_steps.proofs.Written.{Fits, WritesWell, rewritten_lies}

-- ---- what may stand for an instruction

constant_plain : (g : Insn) → is_constant g ≡ true → (is_goto g ≡ false) × (condition_of g ≡ None)
constant_plain (insn.Const to value) e = (refl, refl)
constant_plain (insn.ConstWide to value) e = (refl, refl)
constant_plain g e = clash false e refl

-- what writes a register is no goto
result_units : (f : Insn) → is_result (result_of f) ≡ true → least_units f ≡ units_of f (pos 0)
result_units (insn.Goto target) e = clash false e refl
result_units f e = refl

left_apart : (n m : ℕ) → not (nat_eq m n) ≡ true → m ≡ n → ⊥
left_apart n m l s = clash (nat_eq m n) (eq-eqb m n s) (off (nat_eq m n) l)
  where
    off : (b : Bool) → not b ≡ true → b ≡ false
    off true e = sym e
    off false e = refl

goto_instead : (n t : ℕ) (f : Insn) → has_target f t ≡ true → leaves n f ≡ true → IsNoLonger n f (insn.Goto t)
goto_instead n t (insn.If test a b target) e l = Taken t (ap Some (eqb-true target t e)) (λ s. left_apart n target l (eqb-true target t e ∙ s))
goto_instead n t (insn.IfZero test a target) e l = Taken t (ap Some (eqb-true target t e)) (λ s. left_apart n target l (eqb-true target t e ∙ s))
goto_instead n t (insn.PackedSwitch on first targets) e l = Switched t (omega arith)
goto_instead n t (insn.SparseSwitch on keys targets) e l = Switched t (omega arith)
goto_instead n t f e l = clash false e refl

pub no_longer : (n : ℕ) (f g : Insn) → leaves n f ≡ true → MayBecome f g → IsNoLonger n f g
no_longer n f _ l (Constant g c) = let p = constant_plain g c.constant in Plain g p.0 p.1 (subst (λ u. units_of g (pos 0) ≤ u) (sym (result_units f c.plain)) c.short)
no_longer n f _ l (Target t e) = goto_instead n t f e l
no_longer n f _ l (Next e) = Plain insn.Nop refl refl (few_units f)

-- ---- programs

becomes : (p : Program) (brought : Parts) (frame : Option Frame) (n : ℕ) (f g : Insn) → IsAllowed p brought frame n f g → MayBecome f g
becomes p brought frame n f _ (ByNumber number g a w c) = Constant g c
becomes p brought frame n f _ (ByWay g c) = choice_becomes f g (n + 1) (way_by frame f) c

module _ (p : Program) (formed : is_well_formed p ≡ true) where
  fold_fits : (facts : Facts) (x : Option Table) (at : MethodAt) (m : Method) (b : Body) → ((n : ℕ) (f : Insn) → slice_get b.insns n ≡ Some f → leaves n f ≡ true) → (e : Edit) → IsFold p facts x at m b e → Fits b.insns e
  fold_fits facts x at m b leave e i f h =
      no_longer e.position f e.insn (leave e.position f h) (subst (λ y. MayBecome y e.insn) (some_same i.form f (sym i.there ∙ h)) (becomes p _ _ e.position i.form e.insn i.allowed))

  folds_well : (h : Hierarchy) (facts : Facts) (admitted : List Bool) → WritesWell (AreFolds p h facts) admitted p
  folds_well h facts admitted k j c m b at es e i s w =
      let rules = code_rules p c m b formed (contained p.classes k c e) (contained c.methods j m i) s in
      All-weaker (IsFold p facts w.table at m b) (Fits b.insns) (fold_fits facts w.table at m b (leaves_at p b rules.0)) es w.each

pub folded_lies : (admitted : List Bool) (p : Program) (h : Hierarchy) (facts : Facts) (c : Changed) → is_well_formed p ≡ true → IsFoldedBy p h facts admitted c → LaysOut p → LaysOut c.program
folded_lies admitted p h facts c formed r l = rewritten_lies (AreFolds p h facts) admitted p c r (folds_well p formed h facts admitted) l
