-- Programs whose classes were edited in place.
use Rattle.std.proofs.Common.{◌≡◌, ℕ, Bool, List, length, refl, ap, ◌∙◌, subst}
use Rattle.program_model.specs.declared.program.Program.{Program}
use Rattle.insn_regs.specs.Wides.{widths_of}
use Rattle.compact.specs.Renamed.{AreEach, AreEdited, IsCounted, IsCompactedClass, IsCompactedProgram}
use Rattle.compact.proofs.Edited.{each_edited}

module _ (admitted : List Bool) (w shown : List (List Bool)) (p q : Program) (count : ℕ) (are : w ≡ widths_of p) (is : shown ≡ w) (rest : q ≡ record p { classes = q.classes }) (edited : AreEdited (IsCompactedClass shown admitted) (length p.classes) count p.classes q.classes) where
  pub program_compacted : IsCompactedProgram admitted p q
  program_compacted = record {
    rest = rest;
    classes = subst (λ x. AreEach (IsCompactedClass x admitted) p.classes q.classes) (is ∙ are) (each_edited (IsCompactedClass shown admitted) p.classes q.classes (length p.classes) count refl edited);
  }

  pub program_counted : IsCounted count p q
  program_counted = record { same = λ e. rest ∙ ap (λ cs. record p { classes = cs }) (edited.same e); differs = λ lt e. edited.differs lt (ap (λ x. x.classes) e) }
