-- What is left where calls are inlined before the rounds owes what a pass owes.
use Rattle.std.proofs.Common.{◌≡◌, ℕ, Bool, true, List, [], sym, subst}
use Rattle.program_model.specs.declared.pass.Origin.{Origin}
use Rattle.program_model.specs.declared.pass.Outside.{Outside}
use Rattle.program_model.specs.declared.program.Program.{Program}
use Rattle.program_model.specs.ProgramRules.{is_well_formed}
use Rattle.hierarchy.specs.Shapes.{IsResolved}
use Rattle.hierarchy.specs.declared.build.Hierarchy.{Hierarchy}
use Rattle.dalvik_defs.specs.Outer.{outer_of}
use Rattle.facts.specs.declared.facts.Facts.{Facts}
use Rattle.facts_kept.proofs.NamedFacts.{are_named}
use Rattle.inline_calls.specs.Asked.{Row}
use Rattle.inline_calls.specs.Plans.{IsInlined}
use Rattle.calls_kept.proofs.InlinedKept.{inlined_holds, inlined_kept, frameless_kept}
use Rattle.calls_kept.proofs.Stayed.{inlined_stays}
use Rattle.pipeline.specs.declared.traces.Traced.{Traced}
use Rattle.pipeline.specs.Inlining.{AreTaken, Found, Empty, Inlines, IsInlining, Inlined, Kept}
use Rattle.pipeline.specs.Passes.{AreKnown}
use Rattle.bodies_kept.specs.Stays.{FewRegisters, StaysInlined}
use Rattle.bodies_kept.proofs.Staying.{few_same, stays_same_by}
use Rattle.headline.specs.Owed.{IsSound, Owes}
use Rattle.headline.proofs.Keeping.{kept_for_owes}
use Rattle.headline.proofs.Owing.{owes_same}

module _ (o : Outside) (admitted : List Bool) (p q : Program) (h : Hierarchy) (facts : Facts) (count : ℕ) (origins : List (List Origin)) (rows : List Row) (sound : IsSound p) (resolved : IsResolved p h)
    (inlined : IsInlined p h facts admitted q count origins rows) (formed : is_well_formed q ≡ true) where
  -- by facts that are known
  pub known_owes : AreKnown o p facts → Owes o p q
  known_owes known =
      let k = known.certified in
      kept_for_owes o p q sound
      (inlined_kept p q h facts admitted count origins rows sound.formed resolved sound.typed inlined sound.grounded o known.words known.makers k.live k.targets k.fits k.live_closed k.targeted k.closed
      (are_named p o k.live (record { formed = sound.formed; once = resolved.of.once; grounded = sound.grounded; sized = k.fits; closed = k.live_closed }) k.targets resolved.of.ranked known.plain facts) formed)
      (inlined_holds p q h facts admitted count origins rows sound.formed resolved sound.typed inlined (outer_of p o))

  -- by facts that know nothing
  pub frameless_owes : facts.frames.items ≡ [] → Owes o p q
  frameless_owes none = kept_for_owes o p q sound
      (frameless_kept p q h facts admitted count origins rows sound.formed resolved sound.typed inlined sound.grounded o none formed)
      (inlined_holds p q h facts admitted count origins rows sound.formed resolved sound.typed inlined (outer_of p o))

-- ---- what pipeline inlines

module _ (o : Outside) (admitted : List Bool) (p : Program) (t : Traced) where
  pub inlining_owes : (rows : List Row) → IsSound p → IsInlining o admitted p t rows → Owes o p t.program
  inlining_owes _ sound (Inlined rows x) = by x.taken
    where
      by : AreTaken o admitted p x.facts → Owes o p t.program
      by (Found known) = known_owes o admitted p t.program x.hierarchy x.facts x.count t.origins rows sound x.graph.resolved x.inlined x.formed known
      by (Empty none keeps) = frameless_owes o admitted p t.program x.hierarchy x.facts x.count t.origins rows sound x.graph.resolved x.inlined x.formed none
  inlining_owes _ sound (Kept same fault) = subst (λ (u : Traced). Owes o p u.program) (sym same) (owes_same o p sound)

  pub inlining_stays : (rows : List Row) → IsInlining o admitted p t rows → StaysInlined admitted p t.program
  inlining_stays _ (Inlined rows x) = inlined_stays p t.program x.hierarchy x.facts admitted x.count t.origins rows x.inlined
  inlining_stays _ (Kept same fault) = subst (λ (u : Traced). StaysInlined admitted p u.program) (sym same) (stays_same_by admitted FewRegisters few_same p)
