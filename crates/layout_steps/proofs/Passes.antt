-- What a pass leaves lays out.
use Rattle.std.proofs.Common.{◌≡◌, inl, inr, Bool, true, List, sym, subst}
use Rattle.program_model.specs.ProgramRules.{is_well_formed}
use Rattle.program_model.specs.declared.body.Body.{Body}
use Rattle.program_model.specs.declared.pass.Origin.{Origin}
use Rattle.program_model.specs.declared.pass.Outside.{Outside}
use Rattle.program_model.specs.declared.program.Program.{Program}
use Rattle.body_edit.specs.declared.fate.Fate.{Fate}
use Rattle.dead_code.specs.Dead.{is_quiet_field}
use Rattle.dead_code.specs.Wishes.{AreCleaned, NoneDead}
use Rattle.squeeze.specs.Needed.{NothingLeft}
use Rattle.squeeze.specs.Skipping.{AreSkips}
use Rattle.pipeline.specs.Passes.{Pass, Reach, ConstProp, Devirt, Staticise, QuietCalls, CopyProp, DeadCode, Squeeze, Compact, Does, IsRemoval, IsFolding, IsRebinding, IsLoosening, IsQuieting, IsPropagation, Thins, IsCleaning, IsCompaction}
use Rattle.dex_defs.specs.LaysOut.{LaysOut}
use Rattle.layout_steps.proofs.Programs.{removed_lies}
use Rattle.layout_steps.proofs.Thinned.{thinned_lies}
use Rattle.layout_steps.proofs.Folded.{folded_lies}
use Rattle.layout_steps.proofs.Recalled.{rebound_lies, quieted_lies}
use Rattle.layout_steps.proofs.Loosened.{staticised_lies}
use Rattle.layout_steps.proofs.Renamed.{propagated_lies, compacted_lies}

module _ (o : Outside) (admitted : List Bool) (p q : Program) (moved : List (List Origin)) (formed : is_well_formed p ≡ true) (l : LaysOut p) where
  stays_so : q ≡ p → LaysOut q
  stays_so e = subst LaysOut (sym e) l

  removes : IsRemoval o p q moved → LaysOut q
  removes r = elim r.removal [ inl h ↦ subst LaysOut (sym h.left) (removed_lies h.marks p l) | inr h ↦ stays_so h.0 ]

  folds : IsFolding o admitted p q moved → LaysOut q
  folds r = elim r.folding [ inl h ↦ subst LaysOut (sym h.left) (folded_lies admitted p h.hierarchy h.facts h.changed formed h.folded l) | inr h ↦ stays_so h.0 ]

  rebinds : IsRebinding o admitted p q moved → LaysOut q
  rebinds r = elim r.rebinding [ inl h ↦ subst LaysOut (sym h.left) (rebound_lies p h.hierarchy h.facts admitted h.changed h.rebound l) | inr h ↦ stays_so h.0 ]

  loosens : IsLoosening o admitted p q moved → LaysOut q
  loosens r = elim r.loosening [ inl h ↦ subst LaysOut (sym h.left) (staticised_lies p h.facts o admitted h.changed h.staticised l) | inr h ↦ stays_so h.0 ]

  quiets : IsQuieting o admitted p q moved → LaysOut q
  quiets r = elim r.quieting [ inl h ↦ subst LaysOut (sym h.left) (quieted_lies admitted p h.facts h.changed h.quieted l) | inr h ↦ stays_so h.0 ]

  propagates : IsPropagation admitted p q moved → LaysOut q
  propagates r = elim r.propagation [ inl h ↦ propagated_lies admitted p q h.propagated l | inr h ↦ stays_so h.0 ]

  thins : (wishes : Body → List Fate → Type 0) (left : Type 0) → Thins wishes left admitted p q moved → LaysOut q
  thins wishes left h = thinned_lies wishes admitted p (record { program = q; count = h.count; origins = moved }) h.thinned l

  cleans : IsCleaning admitted p q moved → LaysOut q
  cleans r = elim r [ inl h ↦ thins (AreCleaned (is_quiet_field p)) (NoneDead (is_quiet_field p) admitted p) h | inr h ↦ stays_so h.0 ]

  compacts : IsCompaction admitted p q moved → LaysOut q
  compacts r = elim r.compaction [ inl h ↦ compacted_lies admitted p q h.1 l | inr h ↦ stays_so h.0 ]

  by_pass : (pass : Pass) → Does o admitted pass p q moved → LaysOut q
  by_pass Reach h = removes h
  by_pass ConstProp h = folds h
  by_pass Devirt h = rebinds h
  by_pass Staticise h = loosens h
  by_pass QuietCalls h = quiets h
  by_pass CopyProp h = propagates h
  by_pass DeadCode h = cleans h
  by_pass Squeeze h = thins AreSkips (NothingLeft admitted p) h
  by_pass Compact h = compacts h

pub pass_lies : (o : Outside) (admitted : List Bool) (pass : Pass) (p q : Program) (moved : List (List Origin)) → is_well_formed p ≡ true → Does o admitted pass p q moved → LaysOut p → LaysOut q
pass_lies o admitted pass p q moved formed h l = by_pass o admitted p q moved formed l pass h
