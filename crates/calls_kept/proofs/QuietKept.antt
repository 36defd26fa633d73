-- A quieted program is kept for the outside of its facts.
use Rattle.std.proofs.Common.{◌≡◌, ℕ, Bool, true, false, List, [], ◌∷◌, length, Option, Some, refl, subst}
use Rattle.std.specs.Prelude.{Contains}
use Rattle.program_model.specs.ProgramRules.{is_well_formed}
use Rattle.program_model.specs.declared.pass.Changed.{Changed}
use Rattle.program_model.specs.declared.pass.Outside.{Outside}
use Rattle.program_model.specs.declared.program.Class.{Class}
use Rattle.program_model.specs.declared.program.Method.{Method}
use Rattle.program_model.specs.declared.program.Program.{Program}
use Rattle.class_defs.proofs.WellFormed.{sound}
use Rattle.hierarchy.specs.Shapes.{IsAcyclic, IsResolved}
use Rattle.hierarchy.specs.declared.build.Hierarchy.{Hierarchy}
use Rattle.call_graph.specs.Closed.{IsClosedSet}
use Rattle.call_graph.specs.Facts.{Fits}
use Rattle.call_graph.specs.declared.live_set.LiveSet.{LiveSet}
use Rattle.call_targets.specs.Targeted.{IsTargeted}
use Rattle.call_targets.specs.declared.table.Targets.{Targets}
use Rattle.dalvik_defs.specs.Face.{bodies_of}
use Rattle.dalvik_defs.specs.Naming.{named}
use Rattle.dalvik_defs.specs.Names.{Text}
use Rattle.dalvik_defs.specs.Outer.{Outer, outer_of}
use Rattle.dalvik_defs.specs.Quiet.{EndsWithin}
use Rattle.dalvik_defs.specs.Shown.{Fit, SameShown}
use Rattle.dalvik_defs.specs.declared.forms.Form.{Form}
use Rattle.dalvik_defs.specs.declared.forms.Form.TheVariants as form
use Rattle.dalvik_defs.specs.declared.names.MethodKey.{MethodKey}
use Rattle.dalvik_defs.specs.declared.program.NamedBody.{NamedBody}
use Rattle.dalvik_defs.specs.declared.script.Move.{Move}
use Rattle.dalvik_defs.specs.declared.tables.Floats.{Floats}
use Rattle.dalvik_defs.specs.declared.tables.Framework.{Framework}
use Rattle.pass_defs.specs.Typed.{IsTyped}
use Rattle.pass_defs.specs.Walks.{form_at}
use Rattle.removal_law.specs.Reach.{ShutsHold}
use Rattle.removal_law.proofs.CallsLeft.{body_in}
use Rattle.removal_law.proofs.Lists.{contained}
use Rattle.facts.specs.declared.facts.Facts.{Facts}
use Rattle.closed_facts.specs.Closed.{AreClosed}
use Rattle.premises.specs.Makers.{MakersAreOwn}
use Rattle.premises.specs.Numbers.{AllHaveWords}
use Rattle.premises.specs.Plain.{ListsPlainly}
use Rattle.facts_kept.specs.Names.{named_facts, values}
use Rattle.facts_kept.proofs.Closing.{closed_named}
use Rattle.facts_kept.proofs.Making.{makers_named}
use Rattle.program_laws.specs.Others.{Pairwise}
use Rattle.program_laws.specs.Numbered.{NumberedCodes, OtherNumberedBodies, OtherNumberedClass, OtherNumberedMethod}
use Rattle.program_laws.specs.Alike.{gets_void}
use Rattle.form_laws.specs.Solid.{IsSolid}
use Rattle.form_laws.proofs.WellFormed.{well_formed_solid}
use Rattle.receivers.specs.Receiving.{is_straight}
use Rattle.receivers.proofs.Straightly.{straight_of}
use Rattle.run_facts.specs.ValueAnalysis.{value_analysis}
use Rattle.cover_law.specs.Operators.{operators}
use Rattle.cover_law.proofs.Sound.{value_sound}
use Rattle.cover_law.specs.Coverable.{IsCoverable, IsTabled}
use Rattle.facts_kept.proofs.Apart.{tabled, tabled_apart}
use Rattle.bodies_kept.specs.Kept.{AnyCode}
use Rattle.bodies_kept.proofs.Rooted.{rooted}
use Rattle.thin_laws.specs.Cleaning.{IsSound}
use Rattle.facts_kept.specs.Kept.{IsKeptFor}
use Rattle.facts_kept.proofs.Classes.{super_interface}
use Rattle.quiet_code.specs.Quieted.{IsQuieted}
use Rattle.calls_kept.specs.Nopped.{QuietedCode}
use Rattle.calls_kept.proofs.Programs.{quieted_others, quieted_formed}
use Rattle.thin_laws.proofs.Dropped.{emptied_shown}
use Rattle.calls_kept.specs.Owed.{QuietedKept}
use Rattle.calls_kept.proofs.Runs.{quiet, gone, spare, rank, Met, runs_quietly, begins_met}
use Rattle.calls_kept.proofs.QuietNamed.{quieted_named}
use Rattle.calls_kept.proofs.Typing.{quieted_typed}

pairs_weaker : {A : Type 0} (R S : A → A → Type 0) → ((x y : A) → R x y → S x y) → (xs ys : List A) → Pairwise R xs ys → Pairwise S xs ys
pairs_weaker R S h [] [] r = tt
pairs_weaker R S h [] (y ∷ ys) r = absurd r
pairs_weaker R S h (x ∷ xs) [] r = absurd r
pairs_weaker R S h (x ∷ xs) (y ∷ ys) r = (h x y r.0, pairs_weaker R S h xs ys r.1)

-- whatever is said of the code
module _ (N : NumberedCodes) (p : Program) where
  any_method : (c : Class) (m n : Method) → OtherNumberedMethod N p c m n → OtherNumberedMethod AnyCode p c m n
  any_method c m n h = record { same = h.same; coded = h.coded; related = tt }

  any_class : (c d : Class) → OtherNumberedClass N p c d → OtherNumberedClass AnyCode p c d
  any_class c d h = record { same = h.same; methods = pairs_weaker (OtherNumberedMethod N p c) (OtherNumberedMethod AnyCode p c) (any_method c) c.methods d.methods h.methods }

  any_code : (q : Program) → OtherNumberedBodies N p q → OtherNumberedBodies AnyCode p q
  any_code q h = record { same = h.same; classes = pairs_weaker (OtherNumberedClass N p) (OtherNumberedClass AnyCode p) any_class p.classes q.classes h.classes }

module _ (p : Program) (h : Hierarchy) (o : Outside) (w : is_well_formed p ≡ true) (r : IsResolved p h) (acyclic : IsAcyclic p) (typed : IsTyped (named p)) (facts : Facts) (admitted : List Bool) (c : Changed)
    (x : IsQuieted p facts admitted c) where
  others : OtherNumberedBodies (QuietedCode p x.quiet facts.frames.items) p c.program
  others = quieted_others p x.quiet facts.frames.items admitted c x.rewritten

  ends : (u : Text) → EndsWithin (named p) (length (named p).classes) u
  ends = (rooted p w r.of.once acyclic).ends

  -- no field that is read is of type void
  all_sound : IsSound (named p)
  all_sound = record { ends = ends; voids = voids }
    where
      in_form : (b : NamedBody) (n : ℕ) → IsSolid b → (y : Form) → form_at b n ≡ Some y → gets_void y ≡ false
      in_form b n s (form.InstanceGet i to on k) e = s.fields n (form.InstanceGet i to on k) k e refl
      in_form b n s (form.StaticGet i to k) e = s.fields n (form.StaticGet i to k) k e refl
      in_form b n s y e = refl

      voids : (k : MethodKey) (b : NamedBody) (n : ℕ) (y : Form) → bodies_of (named p) k ≡ Some b → form_at b n ≡ Some y → gets_void y ≡ false
      voids k b n y e i = let z = body_in (named p) k b e in
          in_form b n (well_formed_solid p w z.class z.method b (contained z.class (named p).classes z.class_in) (contained z.method z.class.methods z.method_in) z.body) y i

  straight : ListsPlainly p → is_straight p ≡ true
  straight plain = straight_of p plain.listed (super_interface p w)

  module _ (words : AllHaveWords p) (own : MakersAreOwn p o) (plain : ListsPlainly p) (live : LiveSet) (targets : Targets) (fits : Fits p live) (marks : IsClosedSet p o live) (exact : IsTargeted p o live targets)
      (closed : AreClosed p o live targets facts) (shuts : ShutsHold (named p) (outer_of p o)) where
    tables : (f : Framework) → IsTabled (values p) (named p) (outer_of p o) f (named_facts p facts)
    tables f = tabled (values p) (named p) (outer_of p o) f (named_facts p facts) (tabled_apart p o f w r.of.once acyclic typed words shuts (makers_named p (sound p w) r.of.once o own))
        (closed_named p o live targets facts (record { formed = w; once = r.of.once; grounded = acyclic; sized = fits; closed = marks }) exact closed)

    base : (f : Framework) (floats : Floats) (script : List Move) → Fit (named p) (outer_of p o) f script → IsCoverable (value_analysis (named p) operators) (named p) (outer_of p o) f floats (named_facts p facts)
    base f floats script fit = record { tabled = tables f; sound = value_sound (named p) (outer_of p o) f floats script (tables f).regular (tables f).acyclic fit }

    abbrev e : Outer
    e = outer_of p o

    shown : SameShown (named p) (named c.program) (outer_of p o)
    shown = emptied_shown (named p) (gone p facts e w r.of.once acyclic r.of.ranked (straight plain) ends base x.quiet x.are_quiet) (spare p facts e w r.of.once acyclic r.of.ranked (straight plain) ends base x.quiet x.are_quiet) e
        (quiet p facts e w r.of.once acyclic r.of.ranked (straight plain) ends base x.quiet x.are_quiet) (rank p facts e w r.of.once acyclic r.of.ranked (straight plain) ends base x.quiet x.are_quiet) all_sound
        (Met p facts e w r.of.once acyclic r.of.ranked (straight plain) ends base x.quiet x.are_quiet) (named c.program) (quieted_named p w x.quiet facts.frames.items c.program others)
        (λ f a script fit. (
          runs_quietly p facts e w r.of.once acyclic r.of.ranked (straight plain) ends base x.quiet x.are_quiet f a script,
          begins_met p facts e w r.of.once acyclic r.of.ranked (straight plain) ends base x.quiet x.are_quiet f a script fit,
        ))

pub quieted_kept : QuietedKept
quieted_kept p h o w r acyclic typed facts admitted c x words own plain live targets fits marks exact closed = record {
  formed = quieted_formed p x.quiet facts.frames.items admitted c w x.rewritten;
  typed = quieted_typed p w x.quiet facts.frames.items typed c.program (others p h o w r acyclic typed facts admitted c x);
  others = any_code (QuietedCode p x.quiet facts.frames.items) p c.program (others p h o w r acyclic typed facts admitted c x);
  shown = λ shuts. shown p h o w r acyclic typed facts admitted c x words own plain live targets fits marks exact closed shuts;
}
