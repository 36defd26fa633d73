-- A quieted program says no more: what is written is a nop.
use Rattle.std.proofs.Common.{◌≡◌, ℕ, zero, suc, Bool, true, false, List, [], ◌∷◌, ◌++◌, length, Option, Some, None, refl, sym, ap, subst}
use Rattle.insn_set.specs.declared.form.Insn.{Insn}
use Rattle.insn_set.specs.declared.form.Insn.TheVariants as insn
use Rattle.program_model.specs.declared.body.Body.{Body}
use Rattle.program_model.specs.declared.program.Method.{Method}
use Rattle.program_model.specs.declared.program.MethodAt.{MethodAt}
use Rattle.program_model.specs.declared.program.Program.{Program}
use Rattle.removal_law.specs.Left.{In, here, there}
use Rattle.rewrite_pass.specs.declared.edit.Edit.{Edit}
use Rattle.bodies_kept.proofs.RewrittenShut.{IsQuiet, rewritten_keeps}
use Rattle.quiet_code.specs.Quiet.{nop_if}
use Rattle.quiet_code.specs.Quieted.{Frames, AreNops, Nops, nops_upto}
use Rattle.calls_kept.specs.Owed.{QuietedShut}

module _ (p : Program) where
  in_both : (xs ys : List Edit) → ((e : Edit) → In e xs → IsQuiet p e.insn) → ((e : Edit) → In e ys → IsQuiet p e.insn) → (e : Edit) → In e (xs ++ ys) → IsQuiet p e.insn
  in_both [] ys f g e i = g e i
  in_both (x ∷ xs) ys f g e (here _) = f e (here xs)
  in_both (x ∷ xs) ys f g e (there _ _ i) = in_both xs ys (λ y j. f y (there x xs j)) g e i

  nop_quiet : (b : Bool) (n : ℕ) (e : Edit) → In e (nop_if b n) → IsQuiet p e.insn
  nop_quiet false n e i = elim i [ ]
  nop_quiet true n e (here _) = refl
  nop_quiet true n e (there _ _ i) = elim i [ ]

  nops_quiet : (idle : ℕ → Bool) (k : ℕ) (e : Edit) → In e (nops_upto idle k) → IsQuiet p e.insn
  nops_quiet idle zero e i = elim i [ ]
  nops_quiet idle (suc k) e i = in_both (nops_upto idle k) (nop_if (idle k) k) (nops_quiet idle k) (nop_quiet (idle k) k) e i

  are_quiet : (quiet : List Bool) (frames : Frames) (at : MethodAt) (m : Method) (b : Body) (es : List Edit) → Nops p quiet frames at m b es → (e : Edit) → In e es → IsQuiet p e.insn
  are_quiet quiet frames at m b es h e i = nops_quiet h.idle (length b.insns) e (subst (In e) h.edits i)

pub quieted_shut : QuietedShut
quieted_shut p facts admitted c o x = rewritten_keeps (Nops p x.quiet facts.frames.items) admitted p (are_quiet p x.quiet facts.frames.items) c o x.rewritten
