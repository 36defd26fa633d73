-- A program lays out in which calls name other methods, or such as do nothing are nops.
use Rattle.std.proofs.Common.{◌≡◌, ℕ, zero, suc, Bool, true, false, List, [], ◌∷◌, length, Option, Some, None, refl, sym, ◌∙◌, subst, arith, All}
use Rattle.std.proofs.lemmas.List.Elements.{All-nil, All-cons, All-append, All-weaker}
use Rattle.lemmas.proofs.Options.{some_same}
use Rattle.insn_set.specs.declared.ops.InvokeKind.{InvokeKind}
use Rattle.insn_set.specs.declared.form.Insn.{Insn}
use Rattle.insn_set.specs.declared.form.Insn.TheVariants as insn
use Rattle.program_model.specs.declared.body.Body.{Body}
use Rattle.program_model.specs.declared.pass.Changed.{Changed}
use Rattle.program_model.specs.declared.program.Method.{Method}
use Rattle.program_model.specs.declared.program.MethodAt.{MethodAt}
use Rattle.program_model.specs.declared.program.Program.{Program}
use Rattle.hierarchy.specs.declared.build.Hierarchy.{Hierarchy}
use Rattle.facts.specs.declared.facts.Facts.{Facts}
use Rattle.verify.specs.Typings.{Table}
use Rattle.rewrite_pass.specs.declared.edit.Edit.{Edit}
use Rattle.devirt.specs.Rebound.{IsRebinding, AreRebindings, AreRebindingsIn, IsReboundBy}
use Rattle.quiet_code.specs.Quiet.{nop_if}
use Rattle.quiet_code.specs.Quieted.{nops_upto, Nops, IsQuieted}
use Rattle.dex_defs.specs.LaysOut.{LaysOut}
use Rattle.layout_law.specs.Shorter.{IsNoLonger, Plain}
use Rattle.layout_law.proofs.Steps.{few_units}
use Rattle.layout_steps.proofs.Written.{Fits, WritesWell, rewritten_lies}

-- ---- calls

-- a call with the same registers is as long
recalled : (n : ℕ) (f g : Insn) (kind kind' : InvokeKind) (method method' : ℕ) (args : List ℕ) → f ≡ insn.Invoke kind method args → g ≡ insn.Invoke kind' method' args → IsNoLonger n f g
recalled n f g kind kind' method method' args e d =
    subst (λ (x : Insn). IsNoLonger n x g) (sym e) (subst (λ (y : Insn). IsNoLonger n (insn.Invoke kind method args) y) (sym d) (Plain (insn.Invoke kind' method' args) refl refl (omega arith)))

module _ (p : Program) (h : Hierarchy) (facts : Facts) where
  rebinding_fits : (x : Table) (at : MethodAt) (m : Method) (b : Body) (e : Edit) → IsRebinding p facts x at m b e → Fits b.insns e
  rebinding_fits x at m b e r f s = recalled e.position f e.insn r.call.kind r.bound.kind r.call.method r.bound.method (r.on ∷ r.rest) (some_same f (insn.Invoke r.call.kind r.call.method (r.on ∷ r.rest)) (sym s ∙ r.form)) r.new

  rebindings_fit : (t : Option Table) (at : MethodAt) (m : Method) (b : Body) (es : List Edit) → AreRebindingsIn p facts t at m b es → All (Fits b.insns) es
  rebindings_fit (Some x) at m b es a = All-weaker (IsRebinding p facts x at m b) (Fits b.insns) (rebinding_fits x at m b) es a
  rebindings_fit None at m b es a = subst (λ xs. All (Fits b.insns) xs) (sym a) (All-nil (Fits b.insns))

  rebinds_well : (admitted : List Bool) → WritesWell (AreRebindings p h facts) admitted p
  rebinds_well admitted k j c m b at es e i s w = rebindings_fit w.table at m b es w.each

  pub rebound_lies : (admitted : List Bool) (c : Changed) → IsReboundBy p h facts admitted c → LaysOut p → LaysOut c.program
  rebound_lies admitted c r l = rewritten_lies (AreRebindings p h facts) admitted p c r (rebinds_well admitted) l

-- ---- nops

nop_fits : (old : List Insn) (on : Bool) (n : ℕ) → All (Fits old) (nop_if on n)
nop_fits old true n = All-cons (Fits old) (record { position = n; insn = insn.Nop }) [] (λ f s. Plain insn.Nop refl refl (few_units f)) (All-nil (Fits old))
nop_fits old false n = All-nil (Fits old)

nops_fit : (old : List Insn) (idle : ℕ → Bool) (k : ℕ) → All (Fits old) (nops_upto idle k)
nops_fit old idle zero = All-nil (Fits old)
nops_fit old idle (suc k) = All-append (Fits old) (nops_upto idle k) (nop_if (idle k) k) (nops_fit old idle k) (nop_fits old (idle k) k)

pub quieted_lies : (admitted : List Bool) (p : Program) (facts : Facts) (c : Changed) → IsQuieted p facts admitted c → LaysOut p → LaysOut c.program
quieted_lies admitted p facts c q l = rewritten_lies (Nops p q.quiet facts.frames.items) admitted p c q.rewritten
    (λ k j d m b at es e i s w. subst (λ xs. All (Fits b.insns) xs) (sym w.edits) (nops_fit b.insns w.idle (length b.insns))) l
