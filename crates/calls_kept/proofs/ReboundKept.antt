-- A rebound program is kept for the outside of its facts, and for every outside where there are no facts.
use Rattle.std.proofs.Common.{◌≡◌, ℕ, Bool, true, List, [], ◌∷◌, Option, Some, refl, subst}
use Rattle.program_model.specs.ProgramRules.{is_well_formed}
use Rattle.program_model.specs.declared.pass.Changed.{Changed}
use Rattle.program_model.specs.declared.pass.Outside.{Outside}
use Rattle.program_model.specs.declared.program.Class.{Class}
use Rattle.program_model.specs.declared.program.Method.{Method}
use Rattle.program_model.specs.declared.program.Program.{Program}
use Rattle.class_defs.proofs.WellFormed.{sound}
use Rattle.hierarchy.specs.Shapes.{IsAcyclic, IsResolved}
use Rattle.hierarchy.specs.declared.build.Hierarchy.{Hierarchy}
use Rattle.call_graph.specs.Closed.{IsClosedSet}
use Rattle.call_graph.specs.Facts.{Fits}
use Rattle.call_graph.specs.declared.live_set.LiveSet.{LiveSet}
use Rattle.call_targets.specs.Targeted.{IsTargeted}
use Rattle.call_targets.specs.declared.table.Targets.{Targets}
use Rattle.dalvik_defs.specs.Naming.{named}
use Rattle.dalvik_defs.specs.Outer.{outer_of}
use Rattle.dom_frame.specs.declared.frames.Frame.{Frame}
use Rattle.pass_defs.specs.Typed.{IsTyped}
use Rattle.facts.specs.Lent.{frame_at}
use Rattle.facts.specs.declared.facts.Facts.{Facts}
use Rattle.closed_facts.specs.Closed.{AreClosed}
use Rattle.premises.specs.Makers.{MakersAreOwn}
use Rattle.premises.specs.Numbers.{AllHaveWords}
use Rattle.facts_kept.specs.Names.{named_facts, values}
use Rattle.facts_kept.proofs.Closing.{closed_named}
use Rattle.facts_kept.proofs.Making.{makers_named}
use Rattle.program_laws.specs.Others.{Pairwise}
use Rattle.program_laws.specs.Numbered.{NumberedCodes, OtherNumberedBodies, OtherNumberedClass, OtherNumberedMethod}
use Rattle.lemmas.proofs.Options.{none_some}
use Rattle.bodies_kept.specs.Kept.{AnyCode}
use Rattle.facts_kept.proofs.Apart.{tabled, tabled_apart}
use Rattle.facts_kept.specs.Folds.{AreNamed}
use Rattle.facts_kept.specs.Kept.{IsKeptFor}
use Rattle.devirt.specs.Rebound.{IsReboundBy}
use Rattle.calls_kept.specs.Rebound.{ReboundSo}
use Rattle.calls_kept.proofs.ReboundNamed.{rebound_shown, rebound_typed}
use Rattle.calls_kept.proofs.Planned.{rewritten_so}
use Rattle.calls_kept.proofs.FormedPrograms.{rebound_formed}

pairs_weaker : {A : Type 0} (R S : A → A → Type 0) → ((x y : A) → R x y → S x y) → (xs ys : List A) → Pairwise R xs ys → Pairwise S xs ys
pairs_weaker R S h [] [] r = tt
pairs_weaker R S h [] (y ∷ ys) r = absurd r
pairs_weaker R S h (x ∷ xs) [] r = absurd r
pairs_weaker R S h (x ∷ xs) (y ∷ ys) r = (h x y r.0, pairs_weaker R S h xs ys r.1)

-- whatever is said of the code
module _ (N : NumberedCodes) (p : Program) where
  any_method : (c : Class) (m n : Method) → OtherNumberedMethod N p c m n → OtherNumberedMethod AnyCode p c m n
  any_method c m n h = record { same = h.same; coded = h.coded; related = tt }

  any_class : (c d : Class) → OtherNumberedClass N p c d → OtherNumberedClass AnyCode p c d
  any_class c d h = record { same = h.same; methods = pairs_weaker (OtherNumberedMethod N p c) (OtherNumberedMethod AnyCode p c) (any_method c) c.methods d.methods h.methods }

  any_code : (q : Program) → OtherNumberedBodies N p q → OtherNumberedBodies AnyCode p q
  any_code q h = record { same = h.same; classes = pairs_weaker (OtherNumberedClass N p) (OtherNumberedClass AnyCode p) any_class p.classes q.classes h.classes }

-- where there are no frames, none is found
pub frameless : (facts : Facts) → facts.frames.items ≡ [] → (method n : ℕ) (frame : Frame) → frame_at facts.frames.items method n ≡ Some frame → ⊥
frameless facts none method n frame there = let e : frame_at [] method n ≡ Some frame = subst (λ (items : List (List (Option Frame))). frame_at items method n ≡ Some frame) none there in none_some frame e

module _ (p : Program) (h : Hierarchy) (o : Outside) (w : is_well_formed p ≡ true) (r : IsResolved p h) (acyclic : IsAcyclic p) (typed : IsTyped (named p)) (facts : Facts) (admitted : List Bool) (c : Changed)
    (rebound : IsReboundBy p h facts admitted c) where
  others : OtherNumberedBodies (ReboundSo p h facts) p c.program
  others = rewritten_so p h facts admitted w c rebound

  formed : is_well_formed c.program ≡ true
  formed = rebound_formed p h facts admitted c w rebound

  -- by facts that are certified
  pub rebound_kept : (words : AllHaveWords p) (own : MakersAreOwn p o) (live : LiveSet) (targets : Targets) → Fits p live → IsClosedSet p o live → IsTargeted p o live targets
      → AreClosed p o live targets facts → AreNamed p (outer_of p o) facts (named_facts p facts) → IsKeptFor o p c.program
  rebound_kept words own live targets fits marks exact closed names = record {
    formed = formed;
    typed = rebound_typed p h w r acyclic typed facts (named_facts p facts) (true ≡ true) (λ method n frame there. refl) (λ u. names.frames) c.program others;
    others = any_code (ReboundSo p h facts) p c.program others;
    shown = λ shuts. rebound_shown p h w r acyclic typed facts (named_facts p facts) (true ≡ true) (λ method n frame there. refl) (λ u. names.frames) c.program others (outer_of p o)
        (λ u f. tabled (values p) (named p) (outer_of p o) f (named_facts p facts) (tabled_apart p o f w r.of.once acyclic typed words shuts (makers_named p (sound p w) r.of.once o own))
        (closed_named p o live targets facts (record { formed = w; once = r.of.once; grounded = acyclic; sized = fits; closed = marks }) exact closed));
  }

  -- by kinds alone
  pub kinds_kept : ((method n : ℕ) (frame : Frame) → frame_at facts.frames.items method n ≡ Some frame → ⊥) → IsKeptFor o p c.program
  kinds_kept none = record {
    formed = formed;
    typed = rebound_typed p h w r acyclic typed facts (named_facts p facts) ⊥ none (λ u. absurd u) c.program others;
    others = any_code (ReboundSo p h facts) p c.program others;
    shown = λ shuts. rebound_shown p h w r acyclic typed facts (named_facts p facts) ⊥ none (λ u. absurd u) c.program others (outer_of p o) (λ u. absurd u);
  }
