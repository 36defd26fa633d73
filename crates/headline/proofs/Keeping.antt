-- Each pass of a round keeps what a pass owes.
use Rattle.std.proofs.Common.{◌≡◌, ◌⊎◌, inl, inr, Bool, true, false, true≢false, List, Some, None, Option, refl, sym, ap, ◌∙◌, subst}
use Rattle.program_model.specs.declared.pass.Origin.{Origin}
use Rattle.program_model.specs.declared.program.Program.{Program}
use Rattle.program_model.specs.declared.pass.Outside.{Outside}
use Rattle.program_model.specs.ProgramRules.{is_well_formed}
use Rattle.call_graph.specs.declared.live_set.LiveSet.{LiveSet}
use Rattle.reach.specs.Kept.{kept_of}
use Rattle.reach.specs.Marked.{IsMarked}
use Rattle.reach.proofs.Formed.{kept_formed}
use Rattle.dalvik_defs.specs.Names.{Text}
use Rattle.dalvik_defs.specs.Naming.{named}
use Rattle.dalvik_defs.specs.Outer.{Outer, outer_of}
use Rattle.dalvik_defs.specs.Silence.{key_in}
use Rattle.dalvik_defs.specs.Under.{defines}
use Rattle.dalvik_defs.specs.declared.program.NamedClass.{NamedClass}
use Rattle.dalvik_defs.specs.declared.program.NamedProgram.{NamedProgram}
use Rattle.pass_defs.specs.Live.{Family}
use Rattle.removal_law.specs.Left.{left_of}
use Rattle.removal_law.specs.Reach.{ShutsHold}
use Rattle.removal_law.proofs.Classes.{left_less}
use Rattle.dead_code.specs.Dead.{is_quiet_field}
use Rattle.dead_code.specs.Wishes.{AreCleaned}
use Rattle.squeeze.specs.Needed.{NothingLeft}
use Rattle.squeeze.specs.Skipping.{AreSkips}
use Rattle.bodies_kept.specs.Kept.{AnyCode, IsKept}
use Rattle.facts_kept.specs.Kept.{IsKeptFor}
use Rattle.facts_kept.proofs.Kept.{folded_kept}
use Rattle.facts_kept.proofs.NamedFacts.{are_named}
use Rattle.bodies_kept.proofs.Squeezes.{squeezed_kept}
use Rattle.bodies_kept.proofs.Cleans.{cleaned_kept}
use Rattle.compact.specs.Narrow.{has_narrow_classes}
use Rattle.compact.specs.Renamed.{IsCompactedProgram}
use Rattle.bodies_kept.proofs.Compacted.{compacted_kept}
use Rattle.bodies_kept.proofs.Kept.{propagated_kept}
use Rattle.pipeline.specs.Passes.{Pass, Reach, ConstProp, Devirt, Staticise, QuietCalls, CopyProp, DeadCode, Squeeze, Compact, Removes, IsBarred, IsRemoval, Folds, KeepsForms, IsFolding, Rebinds, IsRebinding, Loosens, IsLoosening, Quiets, IsQuieting, Propagates, KeepsReads, IsPropagation, Thins, IsCleaning, IsCompaction}
use Rattle.reach_bridge.specs.Names.{family_of}
use Rattle.reach_bridge.proofs.Kept.{kept_named}
use Rattle.reach_bridge.proofs.Within.{shows_the_same, keeps_shuts, keeps_typing}
use Rattle.bodies_kept.proofs.PassesShut.{thinned_keeps, compacted_keeps, propagated_keeps}
use Rattle.bodies_kept.proofs.Folded.{folded_keeps}
use Rattle.calls_kept.proofs.ReboundShuts.{rebound_holds}
use Rattle.calls_kept.proofs.ReboundKept.{rebound_kept}
use Rattle.calls_kept.proofs.QuietKept.{quieted_kept}
use Rattle.calls_kept.proofs.QuietShuts.{quieted_shut}
use Rattle.program_laws.specs.Shutting.{with_shut}
use Rattle.program_laws.specs.Virtual.{VirtualsStay}
use Rattle.static_kept.specs.Owed as along
use Rattle.static_kept.specs.Passing as loose
use Rattle.static_kept.proofs.Left.{virtuals_numbered, virtuals_removed}
use Rattle.static_kept.proofs.Passing.{loosened_owes}
use Rattle.headline.specs.Owed.{IsSound, Owes, Keeps}
use Rattle.headline.proofs.Heads.{others_define}
use Rattle.headline.proofs.Owing.{owes_same}
use Rattle.headline.proofs.Parts.{kept_part, other_part, still_once, still_grounded}
use Rattle.headline.proofs.Splits.{whole_left}

-- ---- removal

-- what is left defines no more
left_defines : (p : NamedProgram) (s : Family) (t : Text) → defines (left_of s p) t ≡ true → defines p t ≡ true
left_defines p s t e = by (defines p t) refl
  where
    is_there : Option NamedClass → Bool
    is_there o = elim o [ Some c ↦ true | None ↦ false ]

    by : (b : Bool) → defines p t ≡ b → b ≡ true
    by true d = refl
    by false d = absurd (true≢false (sym e ∙ ap is_there (left_less s p t d)))

kept_defines : (p : Program) (s : LiveSet) → is_well_formed p ≡ true → (t : Text) → defines (named (kept_of s p)) t ≡ true → defines (named p) t ≡ true
kept_defines p s formed t e = left_defines (named p) (family_of p s) t (subst (λ q. defines q t ≡ true) (kept_named p s formed) e)

module _ (o : Outside) where
  kept_owes : (p : Program) (s : LiveSet) → IsMarked p o s → IsSound p → Owes o p (kept_of s p)
  kept_owes p s marked sound = record {
    sound = record {
      formed = kept_formed s p sound.formed;
      once = still_once p (kept_of s p) (kept_part s p.classes) sound.once;
      grounded = still_grounded p (kept_of s p) (kept_part s p.classes) sound.grounded;
      whole = whole_left p (kept_of s p) refl (kept_part s p.classes) sound.whole;
      typed = keeps_typing p o s marked sound.typed;
    };
    virtuals = subst (VirtualsStay (named p)) (sym (kept_named p s sound.formed)) (virtuals_removed (named p) (family_of p s));
    outer = refl;
    shuts = λ t c m e i v. refl;
    fewer = kept_defines p s sound.formed;
    shown = shows_the_same p o s marked sound.typed;
    holds = keeps_shuts p o s marked;
  }

  removal_owes : (p q : Program) (moved : List (List Origin)) → IsSound p → IsRemoval o p q moved → Owes o p q
  removal_owes p q moved sound r = by r.removal
    where
      by : Removes o p q ⊎ ((q ≡ p) × IsBarred o p) → Owes o p q
      by (inl one) = subst (λ (x : Program). Owes o p x) (sym one.left) (kept_owes p one.marks one.marked sound)
      by (inr none) = subst (λ (x : Program). Owes o p x) (sym none.0) (owes_same o p sound)

  pub reach_keeps : (admitted : List Bool) → Keeps o admitted Reach
  reach_keeps admitted = record { owes = removal_owes }

  -- ---- passes on bodies

  -- a pass that keeps a program but for bodies and lines, as this outside sees it, and what a table of shut methods owes
  pub kept_for_owes : (p q : Program) → IsSound p → IsKeptFor o p q → (ShutsHold (named p) (outer_of p o) → ShutsHold (named q) (outer_of p o)) → Owes o p q
  kept_for_owes p q sound kept shuts = record {
    sound = record {
      formed = kept.formed;
      once = still_once p q (other_part AnyCode p p.classes q.classes kept.others.classes) sound.once;
      grounded = still_grounded p q (other_part AnyCode p p.classes q.classes kept.others.classes) sound.grounded;
      whole = whole_left p q kept.others.same (other_part AnyCode p p.classes q.classes kept.others.classes) sound.whole;
      typed = kept.typed;
    };
    virtuals = virtuals_numbered AnyCode p q kept.others;
    outer = subst (λ (x : Outer). x ≡ with_shut (outer_of p o) x.silent x.shut) (sym same) refl;
    shuts = λ t c m e i v. ap (λ (x : Outer). x.shut (key_in c m)) same;
    fewer = λ t d. sym (others_define AnyCode p t q kept.others) ∙ d;
    shown = kept.shown;
    holds = λ h. subst (ShutsHold (named q)) (ap (λ (x : Program). outer_of x o) (sym kept.others.same)) (shuts h);
  }
    where
      -- numbers name what they named
      same : outer_of q o ≡ outer_of p o
      same = ap (λ (x : Program). outer_of x o) kept.others.same

  -- one that keeps it so for every outside
  bodies_owe : (p q : Program) → IsSound p → IsKept p q → (ShutsHold (named p) (outer_of p o) → ShutsHold (named q) (outer_of p o)) → Owes o p q
  bodies_owe p q sound kept shuts = kept_for_owes p q sound (record { formed = kept.formed; typed = kept.typed; others = kept.others; shown = λ _. kept.shown (outer_of p o) }) shuts

  folding_owes : (admitted : List Bool) (p q : Program) (moved : List (List Origin)) → IsSound p → IsFolding o admitted p q moved → Owes o p q
  folding_owes admitted p q moved sound h = by h.folding
    where
      by : Folds o admitted p q ⊎ ((q ≡ p) × KeepsForms o admitted p) → Owes o p q
      by (inl f) = subst (λ (x : Program). Owes o p x) (sym f.left) (kept_for_owes p f.changed.program sound
          (let k = f.known.certified in
          folded_kept p f.hierarchy o sound.formed f.resolved sound.grounded sound.typed f.known.words f.known.makers k.live k.targets f.facts k.fits k.live_closed k.targeted k.closed
          (are_named p o k.live (record { formed = sound.formed; once = f.resolved.of.once; grounded = sound.grounded; sized = k.fits; closed = k.live_closed }) k.targets f.resolved.of.ranked f.known.plain f.facts)
          admitted f.changed f.folded f.bits)
          (folded_keeps p f.hierarchy f.facts admitted f.changed (outer_of p o) f.folded))
      by (inr none) = subst (λ (x : Program). Owes o p x) (sym none.0) (owes_same o p sound)

  pub const_prop_keeps : (admitted : List Bool) → Keeps o admitted ConstProp
  const_prop_keeps admitted = record { owes = folding_owes admitted }

  rebinding_owes : (admitted : List Bool) (p q : Program) (moved : List (List Origin)) → IsSound p → IsRebinding o admitted p q moved → Owes o p q
  rebinding_owes admitted p q moved sound h = by h.rebinding
    where
      by : Rebinds o admitted p q ⊎ ((q ≡ p) × KeepsForms o admitted p) → Owes o p q
      by (inl r) = subst (λ (x : Program). Owes o p x) (sym r.left) (kept_for_owes p r.changed.program sound
          (let k = r.known.certified in
          rebound_kept p r.hierarchy o sound.formed r.resolved sound.grounded sound.typed r.facts admitted r.changed r.rebound r.known.words r.known.makers k.live k.targets k.fits k.live_closed k.targeted k.closed
          (are_named p o k.live (record { formed = sound.formed; once = r.resolved.of.once; grounded = sound.grounded; sized = k.fits; closed = k.live_closed }) k.targets r.resolved.of.ranked r.known.plain r.facts))
          (rebound_holds p sound.formed r.hierarchy r.facts admitted r.changed (outer_of p o) r.rebound))
      by (inr none) = subst (λ (x : Program). Owes o p x) (sym none.0) (owes_same o p sound)

  pub devirt_keeps : (admitted : List Bool) → Keeps o admitted Devirt
  devirt_keeps admitted = record { owes = rebinding_owes admitted }

  loosening_owes : (admitted : List Bool) (p q : Program) (moved : List (List Origin)) → IsSound p → IsLoosening o admitted p q moved → Owes o p q
  loosening_owes admitted p q moved sound h = by h.loosening
    where
      known : Loosens o admitted p q → loose.Loosens o admitted p q
      known x = record {
        hierarchy = x.hierarchy;
        resolved = x.resolved;
        facts = x.facts;
        certified = x.known.certified;
        words = x.known.words;
        makers = x.known.makers;
        plain = x.known.plain;
        changed = x.changed;
        staticised = x.staticised;
        left = x.left;
        none_left = x.none_left;
      }

      owed : along.OwesAlong o p q → Owes o p q
      owed y = record {
        sound = record { formed = y.sound.formed; once = y.sound.once; grounded = y.sound.grounded; whole = y.sound.whole; typed = y.sound.typed };
        virtuals = y.virtuals;
        outer = y.outer;
        shuts = y.shuts;
        fewer = y.fewer;
        shown = y.shown;
        holds = y.holds;
      }

      by : Loosens o admitted p q ⊎ ((q ≡ p) × KeepsForms o admitted p) → Owes o p q
      by (inl x) = owed (loosened_owes o admitted p q (known x) (record { formed = sound.formed; once = sound.once; grounded = sound.grounded; whole = sound.whole; typed = sound.typed }))
      by (inr none) = subst (λ (x : Program). Owes o p x) (sym none.0) (owes_same o p sound)

  pub staticise_keeps : (admitted : List Bool) → Keeps o admitted Staticise
  staticise_keeps admitted = record { owes = loosening_owes admitted }

  quieting_owes : (admitted : List Bool) (p q : Program) (moved : List (List Origin)) → IsSound p → IsQuieting o admitted p q moved → Owes o p q
  quieting_owes admitted p q moved sound h = by h.quieting
    where
      by : Quiets o admitted p q ⊎ ((q ≡ p) × KeepsForms o admitted p) → Owes o p q
      by (inl z) = subst (λ (x : Program). Owes o p x) (sym z.left) (kept_for_owes p z.changed.program sound
          (let k = z.known.certified in
          quieted_kept p z.hierarchy o sound.formed z.resolved sound.grounded sound.typed z.facts admitted z.changed z.quieted z.known.words z.known.makers z.known.plain k.live k.targets k.fits k.live_closed k.targeted k.closed)
          (quieted_shut p z.facts admitted z.changed (outer_of p o) z.quieted))
      by (inr none) = subst (λ (x : Program). Owes o p x) (sym none.0) (owes_same o p sound)

  pub quiet_calls_keeps : (admitted : List Bool) → Keeps o admitted QuietCalls
  quiet_calls_keeps admitted = record { owes = quieting_owes admitted }

  propagation_owes : (admitted : List Bool) (p q : Program) (moved : List (List Origin)) → IsSound p → IsPropagation admitted p q moved → Owes o p q
  propagation_owes admitted p q moved sound h = by h.propagation
    where
      by : Propagates admitted p q ⊎ ((q ≡ p) × KeepsReads admitted p) → Owes o p q
      by (inl c) = bodies_owe p q sound (propagated_kept p c.hierarchy sound.formed c.resolved c.narrow c.typed admitted q c.propagated)
          (propagated_keeps admitted p q (outer_of p o) c.propagated)
      by (inr none) = subst (λ (x : Program). Owes o p x) (sym none.0) (owes_same o p sound)

  pub copy_prop_keeps : (admitted : List Bool) → Keeps o admitted CopyProp
  copy_prop_keeps admitted = record { owes = propagation_owes admitted }

  squeezing_owes : (admitted : List Bool) (p q : Program) (moved : List (List Origin)) → IsSound p → Thins AreSkips (NothingLeft admitted p) admitted p q moved → Owes o p q
  squeezing_owes admitted p q moved sound h = bodies_owe p q sound
      (squeezed_kept admitted p (record { program = q; count = h.count; origins = moved }) sound.formed sound.typed h.thinned sound.once sound.grounded)
      (thinned_keeps AreSkips admitted p (record { program = q; count = h.count; origins = moved }) (outer_of p o) h.thinned)

  pub squeeze_keeps : (admitted : List Bool) → Keeps o admitted Squeeze
  squeeze_keeps admitted = record { owes = squeezing_owes admitted }

  cleaning_owes : (admitted : List Bool) (p q : Program) (moved : List (List Origin)) → IsSound p → IsCleaning admitted p q moved → Owes o p q
  cleaning_owes admitted p q moved sound (inl h) = bodies_owe p q sound
      (cleaned_kept p sound.formed sound.once sound.grounded admitted (record { program = q; count = h.count; origins = moved }) h.thinned sound.typed)
      (thinned_keeps (AreCleaned (is_quiet_field p)) admitted p (record { program = q; count = h.count; origins = moved }) (outer_of p o) h.thinned)
  cleaning_owes admitted p q moved sound (inr none) = subst (λ (x : Program). Owes o p x) (sym none.0) (owes_same o p sound)

  pub dead_code_keeps : (admitted : List Bool) → Keeps o admitted DeadCode
  dead_code_keeps admitted = record { owes = cleaning_owes admitted }

  compaction_owes : (admitted : List Bool) (p q : Program) (moved : List (List Origin)) → IsSound p → IsCompaction admitted p q moved → Owes o p q
  compaction_owes admitted p q moved sound h = by h.compaction
    where
      by : ((has_narrow_classes p ≡ true) × IsCompactedProgram admitted p q) ⊎ ((q ≡ p) × (has_narrow_classes p ≡ false)) → Owes o p q
      by (inl c) = bodies_owe p q sound (compacted_kept admitted p q sound.formed sound.once sound.typed c.0 c.1) (compacted_keeps admitted p q (outer_of p o) c.1)
      by (inr none) = subst (λ (x : Program). Owes o p x) (sym none.0) (owes_same o p sound)

  pub compact_keeps : (admitted : List Bool) → Keeps o admitted Compact
  compact_keeps admitted = record { owes = compaction_owes admitted }

  -- ---- every pass

  pub each_keeps : (admitted : List Bool) (pass : Pass) → Keeps o admitted pass
  each_keeps admitted Reach = reach_keeps admitted
  each_keeps admitted ConstProp = const_prop_keeps admitted
  each_keeps admitted Devirt = devirt_keeps admitted
  each_keeps admitted Staticise = staticise_keeps admitted
  each_keeps admitted QuietCalls = quiet_calls_keeps admitted
  each_keeps admitted CopyProp = copy_prop_keeps admitted
  each_keeps admitted DeadCode = dead_code_keeps admitted
  each_keeps admitted Squeeze = squeeze_keeps admitted
  each_keeps admitted Compact = compact_keeps admitted
