-- A folded program is kept for the outside of its facts.
use Rattle.std.proofs.Common.{◌≡◌, Bool, true, List, [], ◌∷◌}
use Rattle.program_model.specs.ProgramRules.{is_well_formed}
use Rattle.program_model.specs.declared.pass.Changed.{Changed}
use Rattle.program_model.specs.declared.pass.Outside.{Outside}
use Rattle.program_model.specs.declared.program.Program.{Program}
use Rattle.class_defs.proofs.WellFormed.{sound}
use Rattle.hierarchy.specs.Shapes.{IsAcyclic, IsResolved}
use Rattle.hierarchy.specs.declared.build.Hierarchy.{Hierarchy}
use Rattle.call_graph.specs.Closed.{IsClosedSet}
use Rattle.call_graph.specs.Facts.{Fits}
use Rattle.call_graph.specs.declared.live_set.LiveSet.{LiveSet}
use Rattle.call_targets.specs.Targeted.{IsTargeted}
use Rattle.call_targets.specs.declared.table.Targets.{Targets}
use Rattle.dalvik_defs.specs.Naming.{named}
use Rattle.dalvik_defs.specs.Outer.{outer_of}
use Rattle.pass_defs.specs.Typed.{IsTyped}
use Rattle.facts.specs.declared.facts.Facts.{Facts}
use Rattle.closed_facts.specs.Closed.{AreClosed}
use Rattle.premises.specs.Makers.{MakersAreOwn}
use Rattle.facts_kept.specs.Names.{named_facts, values}
use Rattle.facts_kept.proofs.Closing.{closed_named}
use Rattle.facts_kept.proofs.Making.{makers_named}
use Rattle.program_laws.specs.Others.{Pairwise}
use Rattle.program_laws.specs.Numbered.{NumberedCodes, OtherNumberedBodies, OtherNumberedClass, OtherNumberedMethod}
use Rattle.program_model.specs.declared.program.Class.{Class}
use Rattle.program_model.specs.declared.program.Method.{Method}
use Rattle.bodies_kept.specs.Kept.{AnyCode}
use Rattle.premises.specs.Numbers.{AllHaveWords}
use Rattle.facts_kept.proofs.Apart.{tabled, tabled_apart}
use Rattle.const_prop.specs.Folds.{IsFoldedBy}
use Rattle.facts_kept.specs.Folds.{AreNamed, FoldsCode}
use Rattle.facts_kept.proofs.FormedPrograms.{folded_formed}
use Rattle.facts_kept.proofs.Planned.{rewritten_others}
use Rattle.facts_kept.proofs.Shown.{same_shown}
use Rattle.facts_kept.specs.Kept.{IsKeptFor}
use Rattle.facts_kept.proofs.Typing.{folded_typed}

pairs_weaker : {A : Type 0} (R S : A → A → Type 0) → ((x y : A) → R x y → S x y) → (xs ys : List A) → Pairwise R xs ys → Pairwise S xs ys
pairs_weaker R S h [] [] r = tt
pairs_weaker R S h [] (y ∷ ys) r = absurd r
pairs_weaker R S h (x ∷ xs) [] r = absurd r
pairs_weaker R S h (x ∷ xs) (y ∷ ys) r = (h x y r.0, pairs_weaker R S h xs ys r.1)

-- whatever is said of the code
module _ (N : NumberedCodes) (p : Program) where
  any_method : (c : Class) (m n : Method) → OtherNumberedMethod N p c m n → OtherNumberedMethod AnyCode p c m n
  any_method c m n h = record { same = h.same; coded = h.coded; related = tt }

  any_class : (c d : Class) → OtherNumberedClass N p c d → OtherNumberedClass AnyCode p c d
  any_class c d h = record { same = h.same; methods = pairs_weaker (OtherNumberedMethod N p c) (OtherNumberedMethod AnyCode p c) (any_method c) c.methods d.methods h.methods }

  any_code : (q : Program) → OtherNumberedBodies N p q → OtherNumberedBodies AnyCode p q
  any_code q h = record { same = h.same; classes = pairs_weaker (OtherNumberedClass N p) (OtherNumberedClass AnyCode p) any_class p.classes q.classes h.classes }

module _ (p : Program) (h : Hierarchy) (o : Outside) (w : is_well_formed p ≡ true) (r : IsResolved p h) (acyclic : IsAcyclic p) (typed : IsTyped (named p)) (words : AllHaveWords p) (own : MakersAreOwn p o)
    (live : LiveSet) (targets : Targets) (facts : Facts) (fits : Fits p live) (marks : IsClosedSet p o live) (exact : IsTargeted p o live targets) (closed : AreClosed p o live targets facts) where
  pub folded_kept : AreNamed p (outer_of p o) facts (named_facts p facts) → (admitted : List Bool) (c : Changed) → IsFoldedBy p h facts admitted c → AllHaveWords c.program → IsKeptFor o p c.program
  folded_kept names admitted c x left = record {
    formed = folded_formed p h facts admitted c w x;
    typed = folded_typed p h facts w r acyclic typed admitted c x left;
    others = any_code (FoldsCode p facts) p c.program (rewritten_others p h facts admitted w c x);
    shown = λ shuts. same_shown p h (outer_of p o) facts (named_facts p facts) admitted c w r.of.once acyclic x names
        (λ f. tabled (values p) (named p) (outer_of p o) f (named_facts p facts) (tabled_apart p o f w r.of.once acyclic typed words shuts (makers_named p (sound p w) r.of.once o own))
        (closed_named p o live targets facts (record { formed = w; once = r.of.once; grounded = acyclic; sized = fits; closed = marks }) exact closed));
  }
