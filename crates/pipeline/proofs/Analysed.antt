-- What was found of the runs of a program.
use Rattle.std.proofs.Common.{◌≡◌, Bool, true, List, Option, Some, None, subst}
use Rattle.std.specs.Prelude.{IfSome, MatchOption}
use Rattle.program_model.specs.declared.pass.Outside.{Outside}
use Rattle.program_model.specs.declared.program.Program.{Program}
use Rattle.program_model.specs.ProgramRules.{is_well_formed}
use Rattle.facts.specs.declared.facts.Facts.{Facts}
use Rattle.pipeline.specs.Passes.{AreKnown, KeepsForms, IsAnalysis}

module _ (o : Outside) (admitted : List Bool) (p : Program) where
  -- facts are known where they were asked for
  found : (facts : Option Facts) → MatchOption facts ⊥ (AreKnown o p) → MatchOption facts (KeepsForms o admitted p) (AreKnown o p)
  found (Some f) known = known
  found None known = absurd known

  pub analysed : (facts : Option Facts) → IfSome facts (λ f. is_well_formed p ≡ true) → (is_well_formed p ≡ true → MatchOption facts ⊥ (AreKnown o p)) → IsAnalysis o admitted p facts
  analysed facts tested known = record { formed = tested; says = λ formed. found facts (known formed) }

  -- none were asked for, for this reason
  pub none : (is_well_formed p ≡ true → KeepsForms o admitted p) → IsAnalysis o admitted p None
  none why = record { formed = tt; says = why }

  pub formed : (facts : Option Facts) (f : Facts) → IsAnalysis o admitted p facts → facts ≡ Some f → is_well_formed p ≡ true
  formed facts f a e = subst (λ (x : Option Facts). IfSome x (λ y. is_well_formed p ≡ true)) e a.formed

  pub known : (facts : Option Facts) (f : Facts) → IsAnalysis o admitted p facts → facts ≡ Some f → is_well_formed p ≡ true → AreKnown o p f
  known facts f a e is = subst (λ (x : Option Facts). MatchOption x (KeepsForms o admitted p) (AreKnown o p)) e (a.says is)

  pub unknown : (facts : Option Facts) → IsAnalysis o admitted p facts → facts ≡ None → is_well_formed p ≡ true → KeepsForms o admitted p
  unknown facts a e is = subst (λ (x : Option Facts). MatchOption x (KeepsForms o admitted p) (AreKnown o p)) e (a.says is)
