-- A folded program shows the same.
use Rattle.std.proofs.Common.{◌≡◌, ℕ, Bool, true, List}
use Rattle.insn_set.specs.declared.form.Insn.TheVariants as insn
use Rattle.program_model.specs.ProgramRules.{is_well_formed}
use Rattle.program_model.specs.declared.pass.Changed.{Changed}
use Rattle.program_model.specs.declared.program.Program.{Program}
use Rattle.class_defs.specs.ClassGraph.{IsTwice, IsAncestor}
use Rattle.hierarchy.specs.declared.build.Hierarchy.{Hierarchy}
use Rattle.dalvik_defs.specs.Naming.{named}
use Rattle.dalvik_defs.specs.Outer.{Outer}
use Rattle.dalvik_defs.specs.Shown.{Fit, SameShown}
use Rattle.dalvik_defs.specs.declared.script.Move.{Move}
use Rattle.dalvik_defs.specs.declared.tables.Floats.{Floats}
use Rattle.dalvik_defs.specs.declared.tables.Framework.{Framework}
use Rattle.domains.specs.Values.{Parts}
use Rattle.facts.specs.declared.facts.Facts.{Facts}
use Rattle.pass_defs.specs.Facts as by_name
use Rattle.run_facts.specs.ValueAnalysis.{value_analysis}
use Rattle.cover_law.specs.Coverable.{IsTabled}
use Rattle.cover_law.proofs.Widths.{ranged_moves}
use Rattle.cover_law.specs.Operators.{operators}
use Rattle.cover_law.proofs.Sound.{value_sound}
use Rattle.bodies_kept.proofs.Rooted.{rooted}
use Rattle.bodies_kept.proofs.Quieting.{pure_named}
use Rattle.form_laws.specs.Known.{SameRun}
use Rattle.const_prop.specs.Folds.{IsFoldedBy}
use Rattle.facts_kept.specs.Folds.{AreNamed}
use Rattle.facts_kept.proofs.Planned.{rewritten_others}
use Rattle.facts_kept.proofs.Programs.{folded_shown}

module _ (p : Program) (h : Hierarchy) (o : Outer) (facts : Facts) (t : by_name.Facts Parts) (admitted : List Bool) (c : Changed) (fits : is_well_formed p ≡ true)
    (twice : (class : ℕ) → IsTwice p class → ⊥) (ancestor : (class : ℕ) → IsAncestor p class class → ⊥) (changed : IsFoldedBy p h facts admitted c) (names : AreNamed p o facts t) where
  -- in one run
  pub same_run : (f : Framework) (floats : Floats) (script : List Move) → IsTabled (value_analysis (named p) operators) (named p) o f t → Fit (named p) o f script → SameRun (named p) (named c.program) o f floats script
  same_run f floats script tabled fit = folded_shown p c.program facts fits (rewritten_others p h facts admitted fits c changed) o f floats t script
      (record { tabled = tabled; sound = value_sound (named p) o f floats script tabled.regular tabled.acyclic fit }) fit (ranged_moves script fit.ranged)
      (rooted p fits twice ancestor).ends names (λ field i to. pure_named p fits twice (insn.StaticGet i to field))

  -- in all runs
  pub same_shown : ((f : Framework) → IsTabled (value_analysis (named p) operators) (named p) o f t) → SameShown (named p) (named c.program) o
  same_shown tabled = record {
    there = λ f floats script n fit. (same_run f floats script (tabled f) fit).there n;
    back = λ f floats script n fit. (same_run f floats script (tabled f) fit).back n;
  }
