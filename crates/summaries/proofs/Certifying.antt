-- What the analysis answers, by the tables under which it is closed.
use Rattle.std.proofs.Common.{◌≡◌, Vec, Global, sym, subst}
use Rattle.std.specs.Prelude.{true, List, Option, Some, None, IfSome}
use Rattle.program_model.specs.ProgramRules.{is_well_formed}
use Rattle.hierarchy.specs.Shapes.{IsResolved}
use Rattle.domains.specs.Values.{any_value}
use Rattle.dom_frame.specs.Classes.{AreClasses}
use Rattle.program_model.specs.declared.program.Program.{Program}
use Rattle.program_model.specs.declared.pass.Outside.{Outside}
use Rattle.facts.specs.declared.facts.Facts.{Facts}
use Rattle.dom_frame.specs.declared.frames.Frame.{Frame}
use Rattle.call_graph.specs.declared.live_set.LiveSet.{LiveSet}
use Rattle.call_graph.specs.Closed.{IsClosedSet}
use Rattle.call_graph.specs.Facts.{Fits}
use Rattle.call_targets.specs.declared.table.Targets.{Targets}
use Rattle.call_targets.specs.Targeted.{IsTargeted}
use Rattle.closed_facts.specs.Closed.{AreClosed}
use Rattle.facts_check.specs.declared.known.Known.{Known}
use Rattle.facts_check.specs.Known.{AreKnown}
use Rattle.facts_check.specs.Tables.{AreFilled, Holds}
use Rattle.facts_check.proofs.Closing.{are_closed}
use Rattle.vague_facts.specs.Vague.{IsVague, IsWhole}
use Rattle.vague_facts.proofs.Closing.{whole_closed, vague_closed}
use Rattle.summaries.specs.Certified.{IsCertified}

pub certify : (p : Program) (o : Outside) (live : LiveSet) (targets : Targets) (t : Facts) → Fits p live → IsClosedSet p o live → IsTargeted p o live targets → AreClosed p o live targets t → IsCertified p o t
certify p o live targets t f c h a = record { live = live; targets = targets; fits = f; live_closed = c; targeted = h; closed = a }

-- the same of facts that there may be
pub certify_some : (p : Program) (o : Outside) (live : LiveSet) (targets : Targets) (t : Option Facts) → Fits p live → IsClosedSet p o live → IsTargeted p o live targets → IfSome t (AreClosed p o live targets) → IfSome t (IsCertified p o)
certify_some p o live targets None f c h a = tt
certify_some p o live targets (Some t) f c h a = certify p o live targets t f c h a

-- the facts with the frames that were filled in, where what is known beside them is checked
pub closed_by : (k : Known) (o : Option (Vec (List (Option Frame)) Global)) (frames : Vec (List (Option Frame)) Global) (t : Facts) → (AreKnown k → IfSome o (λ f. AreFilled k f.items)) → (AreKnown k → IfSome o (λ f. Holds k f.items))
    → o ≡ Some frames → is_well_formed k.program.now ≡ true → IsResolved k.program.now k.hierarchy.now → AreClasses k.program.now k.classes → k.facts.now.any ≡ any_value → t ≡ record k.facts.now { frames = frames }
    → AreClosed k.program.now k.outside.now k.live.now k.targets.now t
closed_by k o frames t filled holds some formed resolved classes any e =
    let known : AreKnown k = record { formed = formed; resolved = resolved; classes = classes; any = any } in
    let f : AreFilled k frames.items = subst (λ (o : Option (Vec (List (Option Frame)) Global)). IfSome o (λ f. AreFilled k f.items)) some (filled known) in
    let h : Holds k frames.items = subst (λ (o : Option (Vec (List (Option Frame)) Global)). IfSome o (λ f. Holds k f.items)) some (holds known) in
    subst (AreClosed k.program.now k.outside.now k.live.now k.targets.now) (sym e) (are_closed k frames k.facts.now.quiet known f h)

-- facts that say nothing, under marks by which all is live
pub certify_vague : (p : Program) (o : Outside) (some live : LiveSet) (targets : Targets) (t : Facts) → is_well_formed p ≡ true → IsClosedSet p o some → Fits p live → IsWhole live → IsTargeted p o live targets → IsVague p t → IsCertified p o t
certify_vague p o some live targets t formed c f w h v = certify p o live targets t f (whole_closed p o some live c w) h (vague_closed p o live targets t formed f w h v)
