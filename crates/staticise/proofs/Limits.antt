-- The tables behind all loose methods keep the limits of files, have no entry twice, and have the short form of each proto.
use Rattle.std.proofs.Common.{◌≡◌, ℕ, suc, Bool, true, false, List, [], ◌∷◌, refl, sym, subst}
use Rattle.std.specs.Prelude.{if◌then◌else◌}
use Rattle.lemmas.proofs.Bools.{and_right}
use Rattle.program_model.specs.ProgramRules.{is_well_formed}
use Rattle.program_model.specs.declared.pass.Outside.{Outside}
use Rattle.program_model.specs.declared.program.Class.{Class}
use Rattle.program_model.specs.declared.program.Method.{Method}
use Rattle.program_model.specs.declared.program.Program.{Program}
use Rattle.facts.specs.declared.facts.Facts.{Facts}
use Rattle.static_protos.specs.Growing.{AreSound}
use Rattle.static_protos.specs.Tables.{Tables, tables_of, wanted, has_room}
use Rattle.static_protos.proofs.Soundly.{first_sound, new_sound}
use Rattle.loose_methods.specs.Candidates.{may_be_static}
use Rattle.staticise.specs.Judging.{behind_method, behind_methods, behind_classes, judged}
use Rattle.staticise.proofs.Judged.{Step, Stays, Gives, step}

module _ (p : Program) (facts : Facts) (o : Outside) (admitted : List Bool) where
  method_sound : (t : Tables) (place : ℕ) (k : Class) (m : Method) → AreSound p t → AreSound p (behind_method p facts o admitted t place k m)
  method_sound t place k m a = by (step p facts o admitted t place k m)
    where
      by : Step p facts o admitted t place k m → AreSound p (behind_method p facts o admitted t place k m)
      by (Stays g s) = subst (AreSound p) (sym s) a
      by (Gives q proto g x h s) = subst (AreSound p) (sym s) (new_sound p t (wanted p k m q proto) a refl (and_right (may_be_static p facts o admitted place k q m) (has_room p t (wanted p k m q proto)) h))

  methods_sound : (t : Tables) (place : ℕ) (k : Class) (ms : List Method) → AreSound p t → AreSound p (behind_methods p facts o admitted t place k ms)
  methods_sound t place k [] a = a
  methods_sound t place k (m ∷ ms) a = methods_sound (behind_method p facts o admitted t place k m) place k ms (method_sound t place k m a)

  classes_sound : (t : Tables) (place : ℕ) (ks : List Class) → AreSound p t → AreSound p (behind_classes p facts o admitted t place ks)
  classes_sound t place [] a = a
  classes_sound t place (k ∷ ks) a = classes_sound (behind_methods p facts o admitted t place k k.methods) (suc place) ks (methods_sound t place k k.methods a)

  pub all_sound : is_well_formed p ≡ true → AreSound p (judged p facts o admitted)
  all_sound wf = by o.optimise
    where
      by : (b : Bool) → AreSound p (if b then behind_classes p facts o admitted (tables_of p) 0 p.classes else tables_of p)
      by true = classes_sound (tables_of p) 0 p.classes (first_sound p wf)
      by false = first_sound p wf
