-- A program with copies at sites shows the same.
use Rattle.std.proofs.Common.{◌≡◌, ℕ, true, List, [], sym}
use Rattle.program_model.specs.ProgramRules.{is_well_formed}
use Rattle.program_model.specs.declared.program.Program.{Program}
use Rattle.class_defs.specs.ClassGraph.{IsAncestor}
use Rattle.hierarchy.specs.Shapes.{IsResolved}
use Rattle.hierarchy.specs.declared.build.Hierarchy.{Hierarchy}
use Rattle.domains.specs.Values.{Parts}
use Rattle.facts.specs.declared.facts.Facts.{Facts}
use Rattle.dalvik_defs.specs.Naming.{named}
use Rattle.dalvik_defs.specs.Outer.{Outer}
use Rattle.dalvik_defs.specs.Shown.{Fit, SameShown}
use Rattle.dalvik_defs.specs.declared.script.Move.{Move}
use Rattle.dalvik_defs.specs.declared.tables.Floats.{Floats}
use Rattle.dalvik_defs.specs.declared.tables.Framework.{Framework}
use Rattle.pass_defs.specs.Facts as by_name
use Rattle.pass_defs.specs.Typed.{IsTyped}
use Rattle.program_laws.specs.Numbered.{OtherNumberedBodies}
use Rattle.program_laws.proofs.Faces.{others_face}
use Rattle.removal_law.specs.Reach.{IsAcyclic}
use Rattle.removal_bridge.proofs.Formed as upright
use Rattle.run_facts.specs.ValueAnalysis.{value_analysis}
use Rattle.cover_law.specs.Coverable.{IsTabled, IsCoverable}
use Rattle.cover_law.proofs.Widths.{ranged_moves}
use Rattle.run_laws.specs.Regular.{IsRegular}
use Rattle.removal_bridge.proofs.TypedFormed as stuck
use Rattle.facts_kept.proofs.Acyclic.{grounded_acyclic}
use Rattle.cover_law.specs.Operators.{operators}
use Rattle.cover_law.proofs.Sound.{value_sound}
use Rattle.inline_law.proofs.Entering.{facts_shown}
use Rattle.inline_law.proofs.Found.{reading}
use Rattle.facts_kept.specs.Folds.{AreNamed}
use Rattle.calls_kept.specs.Spliced.{SplicesSo}
use Rattle.calls_kept.proofs.InlinedNamed.{SplicesNamed, named_others, all_inlined, sites}
use Rattle.calls_kept.proofs.Running.{level, all_enterable, Reaches, begins, KeepsNoNull, frameless_keeps, covered_keeps, facts_hold}

module _ (p : Program) (h : Hierarchy) (w : is_well_formed p ≡ true) (resolved : IsResolved p h) (ancestor : (class : ℕ) → IsAncestor p class class → ⊥) (typed : IsTyped (named p)) (facts : Facts)
    (q : Program) (others : OtherNumberedBodies (SplicesSo p h facts) p q) (o : Outer) where
  regular : IsRegular (named p)
  regular = stuck.regular_program p w resolved.of.once typed

  acyclic : IsAcyclic (named p)
  acyclic = grounded_acyclic (named p) (upright.regular_program p w resolved.of.once ancestor)

  shown_by : ((f : Framework) (floats : Floats) (script : List Move) → Fit (named p) o f script → KeepsNoNull p h w resolved ancestor typed facts q others o f floats script) → SameShown (named p) (named q) o
  shown_by no_null = facts_shown (named p) (named q) o (reading (named p)) (sites p h w resolved typed facts q others) (level p h w resolved ancestor typed facts q others)
      (λ f floats script u. Reaches p h w resolved ancestor typed facts q others o f floats script u)
      (λ f. sym (others_face (SplicesNamed p h facts) (named p) (named q) (named_others p h w resolved typed facts q others) f))
      (all_inlined p h w resolved typed facts q others)
      (all_enterable p h w resolved ancestor typed facts q others)
      (λ f floats script fit. (
        facts_hold p h w resolved ancestor typed facts q others o f floats script fit (no_null f floats script fit),
        begins p h w resolved ancestor typed facts q others o f floats script,
      ))

  -- by facts that cover the program
  module _ (t : by_name.Facts Parts) (names : AreNamed p o facts t) (tabled : (f : Framework) → IsTabled (value_analysis (named p) operators) (named p) o f t) where
    base : (f : Framework) (floats : Floats) (script : List Move) → Fit (named p) o f script → IsCoverable (value_analysis (named p) operators) (named p) o f floats t
    base f floats script fit = record { tabled = tabled f; sound = value_sound (named p) o f floats script regular acyclic fit }

    pub spliced_shown : SameShown (named p) (named q) o
    spliced_shown = shown_by (λ f floats script fit. covered_keeps p h w resolved ancestor typed facts q others o f floats script t names (base f floats script fit) fit (ranged_moves script fit.ranged))

  -- by facts that know nothing
  pub frameless_shown : facts.frames.items ≡ [] → SameShown (named p) (named q) o
  frameless_shown none = shown_by (λ f floats script fit. frameless_keeps p h w resolved ancestor typed facts q others none o f floats script)
