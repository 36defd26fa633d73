-- What staticise leaves of a program is kept for the outside of its facts.
use Rattle.std.proofs.Common.{◌≡◌, ℕ, zero, suc, Bool, true, List, Option, Some, None, refl, sym, ap, ◌∙◌, subst, arith}
use Rattle.program_model.specs.ProgramRules.{is_well_formed}
use Rattle.program_model.specs.declared.pass.Changed.{Changed}
use Rattle.program_model.specs.declared.pass.Outside.{Outside}
use Rattle.program_model.specs.declared.program.Program.{Program}
use Rattle.class_defs.specs.ClassGraph.{IsTwice}
use Rattle.class_defs.proofs.WellFormed.{Sound, sound}
use Rattle.hierarchy.specs.Shapes.{IsAcyclic, IsResolved}
use Rattle.hierarchy.specs.Splitting.{NoSplit}
use Rattle.hierarchy.specs.declared.build.Hierarchy.{Hierarchy}
use Rattle.call_graph.specs.Closed.{IsClosedSet}
use Rattle.call_graph.specs.Facts.{Fits}
use Rattle.call_graph.specs.declared.live_set.LiveSet.{LiveSet}
use Rattle.call_targets.specs.Targeted.{IsTargeted}
use Rattle.call_targets.specs.declared.table.Targets.{Targets}
use Rattle.dalvik_defs.specs.Names.{Text}
use Rattle.dalvik_defs.specs.Naming.{named}
use Rattle.dalvik_defs.specs.Outer.{outer_of}
use Rattle.dalvik_defs.specs.Shown.{Fit}
use Rattle.dalvik_defs.specs.declared.names.MethodKey.{MethodKey}
use Rattle.dalvik_defs.specs.declared.script.Move.{Move}
use Rattle.dalvik_defs.specs.declared.tables.Floats.{Floats}
use Rattle.dalvik_defs.specs.declared.tables.Framework.{Framework}
use Rattle.dalvik_defs.proofs.Same.{same_shown_refl}
use Rattle.facts.specs.declared.facts.Facts.{Facts}
use Rattle.closed_facts.specs.Closed.{AreClosed}
use Rattle.premises.specs.Makers.{MakersAreOwn}
use Rattle.premises.specs.Numbers.{AllHaveWords}
use Rattle.facts_kept.specs.Names.{named_facts, values}
use Rattle.facts_kept.proofs.Closing.{closed_named}
use Rattle.facts_kept.proofs.Making.{makers_named}
use Rattle.facts_kept.proofs.Apart.{tabled, tabled_apart}
use Rattle.facts_kept.specs.Folds.{AreNamed}
use Rattle.program_laws.specs.Shutting.{ShutsAlike}
use Rattle.pass_defs.specs.Numbered.{tables_of}
use Rattle.pass_defs.specs.Typed.{IsTyped}
use Rattle.removal_law.specs.Reach.{ShutsHold, TellsApart}
use Rattle.removal_law.proofs.Protos.{told_apart}
use Rattle.run_laws.specs.Regular.{IsRegular}
use Rattle.removal_bridge.proofs.TypedFormed as stuck
use Rattle.static_law.specs.Receiving.{HoldNoNull}
use Rattle.static_law.specs.Static.{AreInTables, IsSound, MayAllBeStatic}
use Rattle.static_law.proofs.Given.{sound as sound_names}
use Rattle.static_law.proofs.Told.{static_told}
use Rattle.static_law.proofs.Upright.{defines_once, names_once}
use Rattle.removal_bridge.proofs.Formed as upright
use Rattle.static_law.specs.Edited.{IsEdited, IsPlanned, loose_in, target_of}
use Rattle.static_law.proofs.Premises.{described, in_tables, names_described}
use Rattle.staticise.specs.Judging.{judged}
use Rattle.staticise.specs.Loosened.{IsLoosenedBy, IsStaticisedBy}
use Rattle.static_kept.specs.Choice.{IsPlan, given_by}
use Rattle.static_kept.proofs.Edited.{edited_by}
use Rattle.static_kept.proofs.MadeStatic.{chosen}
use Rattle.static_kept.proofs.May.{all_may}
use Rattle.static_kept.proofs.Planned.{free, planned_by}
use Rattle.static_law.proofs.Graph.{still_grounded, still_once, still_whole}
use Rattle.static_law.proofs.Outers.{outer_same, shuts_alike}
use Rattle.static_law.proofs.Shuts.{shuts_still}
use Rattle.static_law.proofs.NumberedWhole.{defines_now, shown_now, typed_now}
use Rattle.static_kept.specs.Knows.{KnowsNotNull}
use Rattle.static_kept.proofs.NoNull.{hold_no_null}
use Rattle.static_kept.specs.Kept.{IsKeptStatic}
use Rattle.static_kept.proofs.Known.{knows_receivers}
use Rattle.static_kept.proofs.Virtuals.{virtuals_stay}

module _ (p q : Program) (h : Hierarchy) (o : Outside) (w : is_well_formed p ≡ true) (r : IsResolved p h) (acyclic : IsAcyclic p) (whole : NoSplit p) (typed : IsTyped (named p)) (words : AllHaveWords p)
    (own : MakersAreOwn p o) (live : LiveSet) (targets : Targets) (facts : Facts) (fits : Fits p live) (marks : IsClosedSet p o live) (exact : IsTargeted p o live targets) (closed : AreClosed p o live targets facts)
    (names : AreNamed p (outer_of p o) facts (named_facts p facts)) (admitted : List Bool) (plan : IsPlan p facts o admitted) (loosened : IsLoosenedBy p (judged p facts o admitted) q) where
  s : Sound p
  s = sound p w

  twice : (class : ℕ) → IsTwice p class → ⊥
  twice = r.of.once

  abbrev given : ℕ → Option ℕ
  given n = given_by p facts o admitted n

  abbrev target : ℕ → Option ℕ
  target n = target_of p given n

  abbrev loose : MethodKey → Bool
  loose = loose_in p given

  edited : IsEdited given target p q
  edited = edited_by p facts o admitted s twice q (chosen p facts o admitted plan) loosened

  planned : IsPlanned p given target
  planned = planned_by p facts o admitted s twice (chosen p facts o admitted plan)

  given_so : MayAllBeStatic (named p) (outer_of p o) (tables_of p).methods loose
  given_so = all_may p facts o admitted w twice acyclic plan

  -- ---- by name

  tabled_so : AreInTables (named p) (outer_of p o) (tables_of p).methods
  tabled_so = in_tables p s o

  regular : IsRegular (named p)
  regular = stuck.regular_program p w twice typed

  sound_so : IsSound (named p) loose
  sound_so = sound_names (named p) (outer_of p o) (tables_of p).methods loose given_so tabled_so

  tells : TellsApart (named p)
  tells = told_apart (named p) (described p s) (defines_once (named p) regular)

  alike : ShutsAlike (named q) (outer_of p o).shut (outer_of q o).shut
  alike = shuts_alike given target p q s edited planned o given_so tabled_so twice sound_so tells

  -- registers that are known as not null hold no null
  no_null : ShutsHold (named p) (outer_of p o) → (f : Framework) (a : Floats) (script : List Move) → Fit (named p) (outer_of p o) f script → HoldNoNull (named p) (outer_of p o) (KnowsNotNull p facts) f a script
  no_null shuts f a script fit = hold_no_null p (outer_of p o) f a facts (named_facts p facts) script
      (tabled (values p) (named p) (outer_of p o) f (named_facts p facts) (tabled_apart p o f w twice acyclic typed words shuts (makers_named p s twice o own))
      (closed_named p o live targets facts (record { formed = w; once = twice; grounded = acyclic; sized = fits; closed = marks }) exact closed))
      fit names

  pub kept_static : IsKeptStatic o p q
  kept_static = record {
    typed = typed_now given target p q w twice acyclic typed edited planned o given_so;
    fewer = λ t d. sym (ap (λ (f : Text → Bool). f t) (defines_now given target p q w twice acyclic typed edited planned o given_so)) ∙ d;
    virtuals = virtuals_stay given target p q s twice edited planned sound_so tells;
    once = still_once given target p q s edited twice;
    grounded = still_grounded given target p q s edited acyclic;
    whole = still_whole given target p q s edited whole;
    outer = outer_same given target p q s edited planned o (free p facts o admitted s twice (chosen p facts o admitted plan));
    shuts = alike;
    shown = λ shuts. shown_now given target p q w twice acyclic typed edited planned o given_so (KnowsNotNull p facts) (knows_receivers p facts o admitted w twice acyclic plan) (no_null shuts);
    holds = shuts_still given target p q s edited planned o given_so (upright.regular_program p w twice acyclic) twice tabled_so (names_once (named p) regular) tells
        (static_told (named p) loose sound_so (defines_once (named p) regular) (described p s) (names_described p s)) (free p facts o admitted s twice (chosen p facts o admitted plan)) alike;
  }

-- ---- what the pass answers

-- a program is kept for every outside
itself : (p : Program) (o : Outside) → ((class : ℕ) → IsTwice p class → ⊥) → IsAcyclic p → NoSplit p → IsTyped (named p) → IsKeptStatic o p p
itself p o twice acyclic whole typed = record {
  typed = typed;
  fewer = λ t d. d;
  virtuals = λ t c m e i v. record { type = t; class = c; method = m; named = e; is_in = i; virtual = v; key = refl };
  once = twice;
  grounded = acyclic;
  whole = whole;
  outer = refl;
  shuts = λ t c m e i v. refl;
  shown = λ shuts. same_shown_refl (named p) (outer_of p o);
  holds = λ shuts. shuts;
}

module _ (p : Program) (h : Hierarchy) (o : Outside) (w : is_well_formed p ≡ true) (r : IsResolved p h) (acyclic : IsAcyclic p) (whole : NoSplit p) (typed : IsTyped (named p)) (words : AllHaveWords p)
    (own : MakersAreOwn p o) (live : LiveSet) (targets : Targets) (facts : Facts) (fits : Fits p live) (marks : IsClosedSet p o live) (exact : IsTargeted p o live targets) (closed : AreClosed p o live targets facts)
    (names : AreNamed p (outer_of p o) facts (named_facts p facts)) (admitted : List Bool) (plan : IsPlan p facts o admitted) where
  pub staticised_kept : (c : Changed) → IsStaticisedBy p facts o admitted c → IsKeptStatic o p c.program
  staticised_kept c x = by c.count refl
    where
      by : (n : ℕ) → c.count ≡ n → IsKeptStatic o p c.program
      by zero e = subst (IsKeptStatic o p) (sym (x.same e)) (itself p o r.of.once acyclic whole typed)
      by (suc n) e = kept_static p c.program h o w r acyclic whole typed words own live targets facts fits marks exact closed names admitted plan (x.loosened (omega (arith, e)))
