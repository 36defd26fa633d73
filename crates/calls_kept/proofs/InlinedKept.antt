-- What the pass leaves of a program is kept for the outside of its facts.
use Rattle.std.proofs.Common.{◌≡◌, ℕ, Bool, true, List, [], ◌∷◌}
use Rattle.program_model.specs.ProgramRules.{is_well_formed}
use Rattle.program_model.specs.declared.pass.Origin.{Origin}
use Rattle.program_model.specs.declared.pass.Outside.{Outside}
use Rattle.program_model.specs.declared.program.Class.{Class}
use Rattle.program_model.specs.declared.program.Method.{Method}
use Rattle.program_model.specs.declared.program.Program.{Program}
use Rattle.class_defs.proofs.WellFormed.{sound}
use Rattle.hierarchy.specs.Shapes.{IsAcyclic, IsResolved}
use Rattle.hierarchy.specs.declared.build.Hierarchy.{Hierarchy}
use Rattle.call_graph.specs.Closed.{IsClosedSet}
use Rattle.call_graph.specs.Facts.{Fits}
use Rattle.call_graph.specs.declared.live_set.LiveSet.{LiveSet}
use Rattle.call_targets.specs.Targeted.{IsTargeted}
use Rattle.call_targets.specs.declared.table.Targets.{Targets}
use Rattle.dalvik_defs.specs.Naming.{named}
use Rattle.dalvik_defs.specs.Outer.{Outer, outer_of}
use Rattle.pass_defs.specs.Typed.{IsTyped}
use Rattle.removal_law.specs.Reach.{ShutsHold}
use Rattle.facts.specs.declared.facts.Facts.{Facts}
use Rattle.closed_facts.specs.Closed.{AreClosed}
use Rattle.premises.specs.Makers.{MakersAreOwn}
use Rattle.premises.specs.Numbers.{AllHaveWords}
use Rattle.facts_kept.specs.Names.{named_facts, values}
use Rattle.facts_kept.proofs.Closing.{closed_named}
use Rattle.facts_kept.proofs.Making.{makers_named}
use Rattle.program_laws.specs.Others.{Pairwise}
use Rattle.program_laws.specs.Numbered.{NumberedCodes, OtherNumberedBodies, OtherNumberedClass, OtherNumberedMethod}
use Rattle.bodies_kept.specs.Kept.{AnyCode}
use Rattle.facts_kept.proofs.Apart.{tabled, tabled_apart}
use Rattle.facts_kept.specs.Folds.{AreNamed}
use Rattle.facts_kept.specs.Kept.{IsKeptFor}
use Rattle.inline_calls.specs.Asked.{Row}
use Rattle.inline_calls.specs.Plans.{IsInlined}
use Rattle.calls_kept.specs.Spliced.{SplicesSo}
use Rattle.calls_kept.proofs.Looked.{inlined_bodies}
use Rattle.calls_kept.proofs.Shown.{spliced_shown, frameless_shown}
use Rattle.calls_kept.proofs.InlinedShuts.{spliced_holds}
use Rattle.calls_kept.proofs.Tested.{inlined_typed}

pairs_weaker : {A : Type 0} (R S : A → A → Type 0) → ((x y : A) → R x y → S x y) → (xs ys : List A) → Pairwise R xs ys → Pairwise S xs ys
pairs_weaker R S h [] [] r = tt
pairs_weaker R S h [] (y ∷ ys) r = absurd r
pairs_weaker R S h (x ∷ xs) [] r = absurd r
pairs_weaker R S h (x ∷ xs) (y ∷ ys) r = (h x y r.0, pairs_weaker R S h xs ys r.1)

-- whatever is said of the code
module _ (N : NumberedCodes) (p : Program) where
  any_method : (c : Class) (m n : Method) → OtherNumberedMethod N p c m n → OtherNumberedMethod AnyCode p c m n
  any_method c m n h = record { same = h.same; coded = h.coded; related = tt }

  any_class : (c d : Class) → OtherNumberedClass N p c d → OtherNumberedClass AnyCode p c d
  any_class c d h = record { same = h.same; methods = pairs_weaker (OtherNumberedMethod N p c) (OtherNumberedMethod AnyCode p c) (any_method c) c.methods d.methods h.methods }

  any_bodies : (q : Program) → OtherNumberedBodies N p q → OtherNumberedBodies AnyCode p q
  any_bodies q h = record { same = h.same; classes = pairs_weaker (OtherNumberedClass N p) (OtherNumberedClass AnyCode p) any_class p.classes q.classes h.classes }

module _ (p q : Program) (h : Hierarchy) (facts : Facts) (admitted : List Bool) (count : ℕ) (origins : List (List Origin)) (rows : List Row) (w : is_well_formed p ≡ true) (resolved : IsResolved p h) (typed : IsTyped (named p))
    (inlined : IsInlined p h facts admitted q count origins rows) where
  others : OtherNumberedBodies (SplicesSo p h facts) p q
  others = inlined_bodies p q h facts admitted count origins rows w resolved inlined

  pub inlined_holds : (o : Outer) → ShutsHold (named p) o → ShutsHold (named q) o
  inlined_holds o = spliced_holds p q h w resolved typed facts others o

  pub inlined_kept : (acyclic : IsAcyclic p) (o : Outside) → AllHaveWords p → MakersAreOwn p o → (live : LiveSet) (targets : Targets) → Fits p live → IsClosedSet p o live → IsTargeted p o live targets
      → AreClosed p o live targets facts → AreNamed p (outer_of p o) facts (named_facts p facts) → is_well_formed q ≡ true → IsKeptFor o p q
  inlined_kept acyclic o words own live targets fits marks exact closed names formed = record {
    formed = formed;
    typed = inlined_typed p h w resolved typed q facts admitted count origins rows inlined formed;
    others = any_bodies (SplicesSo p h facts) p q others;
    shown = λ shuts. spliced_shown p h w resolved acyclic typed facts q others (outer_of p o) (named_facts p facts) names
        (λ f. tabled (values p) (named p) (outer_of p o) f (named_facts p facts) (tabled_apart p o f w resolved.of.once acyclic typed words shuts (makers_named p (sound p w) resolved.of.once o own))
        (closed_named p o live targets facts (record { formed = w; once = resolved.of.once; grounded = acyclic; sized = fits; closed = marks }) exact closed));
  }

  -- where there are no frames of facts, static calls alone are inlined
  pub frameless_kept : (acyclic : IsAcyclic p) (o : Outside) → facts.frames.items ≡ [] → is_well_formed q ≡ true → IsKeptFor o p q
  frameless_kept acyclic o none formed = record {
    formed = formed;
    typed = inlined_typed p h w resolved typed q facts admitted count origins rows inlined formed;
    others = any_bodies (SplicesSo p h facts) p q others;
    shown = λ shuts. frameless_shown p h w resolved acyclic typed facts q others (outer_of p o) none;
  }
