-- What is left to show holds of a program without classes.
use Rattle.std.proofs.Common.{◌≡◌, ◌<◌, ◌+◌, ◌*◌, ◌^◌, ℕ, List, [], ◌∷◌, length, refl, sym, ap, subst, ◌∙◌, arith, true}
use Rattle.std.specs.Prelude.{slice_get, Some}
use Rattle.std.specs.List.{flat_map}
use Rattle.lemmas.proofs.Lists.{got_short}
use Rattle.dex_base.specs.Decides.{Entries}
use Rattle.dex_pools.specs.declared.interner.Interner.{Interner}
use Rattle.program_model.specs.declared.program.Class.{Class}
use Rattle.program_model.specs.declared.program.Program.{Program}
use Rattle.program_model.specs.ProgramRules.{is_well_formed}
use Rattle.class_defs.specs.ClassGraph.{IsTwice, IsAbove, StepsTo, IsAncestor}
use Rattle.dex_write.specs.File.{IsSealed}
use Rattle.dex_write.specs.Order.{classes_at}
use Rattle.dex_write.specs.Plans.{Plan}
use Rattle.dex_write.specs.Written.{ArePlans}
use Rattle.dex_write.specs.Written as writer
use Rattle.dex_defs.specs.Arranged.{Both}
use Rattle.dex_defs.specs.ClassDefs.{IsClass}
use Rattle.dex_defs.specs.Spells.{sizes_in}
use Rattle.dex_defs.specs.Valid as valid
use Rattle.dex_defs.specs.Valid.{ClassPart, methods_of, AreCodes}
use Rattle.dex_defs.specs.Written.{entries, written_class, class_order, written_by}
use Rattle.write_laws.specs.Kinds.{IsValidFile}
use Rattle.written_file.specs.Widths.{HasWidths}
use Rattle.written_file.proofs.Fit.{Parts, parts_of, class_at_fits}
use Rattle.written_file.specs.Behind.{AllBehind}
use Rattle.written_file.specs.Rises.{NamesRise}
use Rattle.written_file.specs.Left.{Left}
use Rattle.written_file.proofs.Order.{order_is, order_behind}
use Rattle.written_file.proofs.Filed.{filed}

no_places : (p : Program) (places : List ℕ) → p.classes ≡ [] → AllBehind p [] places → places ≡ []
no_places p [] none h = refl
no_places p (k ∷ ks) none h = let many : length p.classes ≡ 0 = ap (λ (l : List Class). length l) none in absurd (omega (arith, many, h.0.inside))

no_plans : (p : Program) (i : Interner) (places : List ℕ) (plans : List Plan) → places ≡ [] → ArePlans p i.numbers (flat_map (classes_at p) places) plans → plans ≡ []
no_plans p i [] [] e h = refl
no_plans p i [] (plan ∷ plans) e h = absurd h
no_plans p i (k ∷ ks) plans e h = let many : length (k ∷ ks) ≡ 0 = ap (λ (l : List ℕ). length l) e in absurd (omega (arith, many))

none_left : (bytes : List ℕ) (p : Program) (i : Interner) (q : Program) → q.classes ≡ [] → Left bytes p i [] q
none_left bytes p i q e = record {
  spelled = subst (λ (l : List Class). Entries (length l) (λ k. IsClass bytes q (sizes_in q) (valid.classes_at q + 32 * k)) l) (sym e) (refl, tt);
  values = tt;
  codes = subst (λ (l : List Class). Both {Y = ClassPart} (λ c x. AreCodes bytes q (methods_of x.lists) c.methods x.codes) l []) (sym e) tt;
  marks = tt;
}

pub bare : (p : Program) (bytes : List ℕ) → writer.IsWritten p bytes → p.classes ≡ [] → is_well_formed p ≡ true → HasWidths p → NamesRise p → IsSealed p.version bytes → length bytes < 2 ^ 32
    → (interner : Interner) × IsValidFile p bytes (written_by interner p)
bare p bytes w none formed widths sorted sealed few =
    let parts : Parts p = parts_of p formed in
    let once : (class : ℕ) → IsTwice p class → ⊥ = λ class t. nobody class t.other t.is_other in
    let acyclic : (class : ℕ) → IsAncestor p class class → ⊥ = λ class a. no_steps a.mids class class a.steps in
    let behind : AllBehind p [] w.places = order_behind p (λ k c e. (class_at_fits p k c parts e).above) once acyclic w.places w.ordered in
    let places : w.places ≡ [] = no_places p w.places none behind in
    let order : class_order p ≡ [] = order_is p (λ k c e. (class_at_fits p k c parts e).above) once acyclic w.places w.ordered ∙ places in
    let plans : w.plans ≡ [] = no_plans p w.interner w.places w.plans places w.planned in
    let classes : (written_by w.interner p).classes ≡ [] = ap (λ (l : List ℕ). entries (written_class w.interner.numbers p) p.classes l) order in
    (w.interner, filed p bytes w formed once acyclic widths sorted sealed few (subst (λ l. Left bytes p w.interner l (written_by w.interner p)) (sym plans) (none_left bytes p w.interner (written_by w.interner p) classes)))
  where
    nobody : (k : ℕ) (c : Class) → slice_get p.classes k ≡ Some c → ⊥
    nobody k c e = let many : length p.classes ≡ 0 = ap (λ (l : List Class). length l) none in absurd (omega (arith, many, got_short p.classes k c e))

    no_steps : (mids : List ℕ) (class upper : ℕ) → StepsTo (IsAbove p) class mids upper → ⊥
    no_steps [] class upper s = nobody class s.c s.is_class
    no_steps (m ∷ ms) class upper s = nobody class s.0.c s.0.is_class
