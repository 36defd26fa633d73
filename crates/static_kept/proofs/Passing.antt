-- A pass that makes methods static owes what passes owe, and what it leaves stays along.
use Rattle.std.proofs.Common.{◌≡◌, ℕ, zero, suc, ◌<◌, Bool, true, List, refl, sym, ap, ◌∙◌, subst, arith}
use Rattle.program_model.specs.ProgramRules.{is_well_formed}
use Rattle.program_model.specs.declared.pass.Changed.{Changed}
use Rattle.program_model.specs.declared.pass.Outside.{Outside}
use Rattle.program_model.specs.declared.program.Program.{Program}
use Rattle.class_defs.specs.ClassGraph.{IsTwice}
use Rattle.dalvik_defs.specs.Outer.{outer_of}
use Rattle.facts.specs.declared.facts.Facts.{Facts}
use Rattle.facts_kept.specs.Names.{named_facts}
use Rattle.facts_kept.specs.Folds.{AreNamed}
use Rattle.facts_kept.proofs.NamedFacts.{are_named}
use Rattle.static_kept.proofs.Whole.{staticised_formed}
use Rattle.bodies_kept.proofs.Staying.{stays_same}
use Rattle.staticise.specs.Loosened.{IsStaticisedBy}
use Rattle.static_kept.specs.Kept.{IsKeptStatic}
use Rattle.static_kept.specs.Owed.{IsSound, OwesAlong}
use Rattle.static_kept.specs.Passing.{Loosens}
use Rattle.static_kept.specs.Staying.{StaysAlong}
use Rattle.static_kept.proofs.Kept.{staticised_kept}
use Rattle.static_kept.proofs.Made.{along_loosened, plan_of}
use Rattle.static_kept.proofs.Owing.{along_made}
use Rattle.static_kept.proofs.Staying.{along_kept}

module _ (o : Outside) (admitted : List Bool) (p q : Program) (x : Loosens o admitted p q) where
  pub loosened_owes : IsSound p → OwesAlong o p q
  loosened_owes sound =
      let k = x.certified in
      let names : AreNamed p (outer_of p o) x.facts (named_facts p x.facts) = are_named p o k.live (record { formed = sound.formed; once = x.resolved.of.once; grounded = sound.grounded; sized = k.fits; closed = k.live_closed })
      k.targets x.resolved.of.ranked x.plain x.facts in
      let formed : is_well_formed q ≡ true = ap is_well_formed x.left ∙ staticised_formed p x.facts o admitted x.changed sound.formed sound.once x.staticised in
      along_made o p q formed (subst (λ (z : Program). IsKeptStatic o p z) (sym x.left)
      (staticised_kept p x.hierarchy o sound.formed x.resolved sound.grounded sound.whole sound.typed x.words x.makers k.live k.targets x.facts k.fits k.live_closed k.targeted k.closed names admitted
      (plan_of p x.facts o admitted sound.formed) x.changed x.staticised))

pub staticised_stays : (p : Program) (facts : Facts) (o : Outside) (admitted : List Bool) → is_well_formed p ≡ true → ((class : ℕ) → IsTwice p class → ⊥) → (c : Changed) → IsStaticisedBy p facts o admitted c → StaysAlong admitted p c.program
staticised_stays p facts o admitted w twice c x = by c.count refl
  where
    by : (n : ℕ) → c.count ≡ n → StaysAlong admitted p c.program
    by zero e = subst (StaysAlong admitted p) (sym (x.same e)) (along_kept admitted p p (stays_same admitted p))
    by (suc n) e = along_loosened p c.program facts o admitted w twice (x.loosened (omega (arith, e)))

pub loosened_stays : (o : Outside) (admitted : List Bool) (p q : Program) → Loosens o admitted p q → is_well_formed p ≡ true → ((class : ℕ) → IsTwice p class → ⊥) → StaysAlong admitted p q
loosened_stays o admitted p q x w twice = subst (StaysAlong admitted p) (sym x.left) (staticised_stays p x.facts o admitted w twice x.changed x.staticised)
