-- What holds of the tables behind each method, and of those behind all.
use Rattle.std.proofs.Common.{◌≡◌, ℕ, suc, ◌+◌, Bool, true, false, List, [], ◌∷◌, Some, refl, sym, ap, ◌∙◌, subst, arith}
use Rattle.std.specs.Prelude.{slice_get, if◌then◌else◌}
use Rattle.program_model.specs.declared.pass.Outside.{Outside}
use Rattle.program_model.specs.declared.pools.MethodName.{MethodName}
use Rattle.program_model.specs.declared.pools.Proto.{Proto}
use Rattle.program_model.specs.declared.program.Class.{Class}
use Rattle.program_model.specs.declared.program.Method.{Method}
use Rattle.program_model.specs.declared.program.Program.{Program}
use Rattle.facts.specs.declared.facts.Facts.{Facts}
use Rattle.static_protos.specs.Tables.{Tables, tables_of, wanted, with_new}
use Rattle.loose_methods.proofs.Once.{Owns}
use Rattle.staticise.specs.Judging.{behind_classes, behind_method, behind_methods, judged}
use Rattle.staticise.proofs.Judged.{Gives, Stays, Step, step}

module _ (p : Program) (facts : Facts) (o : Outside) (admitted : List Bool) (P : Tables → Type 0) (first : P (tables_of p))
    (next : (t : Tables) (place i : ℕ) (k : Class) (m : Method) (q : MethodName) (proto : Proto) → Owns p place k i m → slice_get p.methods m.name ≡ Some q → slice_get p.protos q.proto ≡ Some proto → P t → P (with_new t (wanted p k m q proto))) where
  method_turn : (t : Tables) (place i : ℕ) (k : Class) (m : Method) → Owns p place k i m → P t → P (behind_method p facts o admitted t place k m)
  method_turn t place i k m owns a = by (step p facts o admitted t place k m)
    where
      by : Step p facts o admitted t place k m → P (behind_method p facts o admitted t place k m)
      by (Stays g s) = subst P (sym s) a
      by (Gives q proto g x h s) = subst P (sym s) (next t place i k m q proto owns g x a)

  methods_turn : (t : Tables) (place start : ℕ) (k : Class) (ms : List Method) → slice_get p.classes place ≡ Some k → ((i : ℕ) (m : Method) → slice_get ms i ≡ Some m → slice_get k.methods (i + start) ≡ Some m) → P t
      → P (behind_methods p facts o admitted t place k ms)
  methods_turn t place start k [] e there a = a
  methods_turn t place start k (m ∷ ms) e there a = methods_turn (behind_method p facts o admitted t place k m) place (suc start) k ms e
      (λ i x f. ap (slice_get k.methods) (let z : i + suc start ≡ suc i + start = omega arith in z) ∙ there (suc i) x f)
      (method_turn t place start k m (record { is_class = e; is_method = ap (slice_get k.methods) (let z : start ≡ 0 + start = omega arith in z) ∙ there 0 m refl }) a)

  classes_turn : (t : Tables) (place : ℕ) (ks : List Class) → ((c : ℕ) (k : Class) → slice_get ks c ≡ Some k → slice_get p.classes (c + place) ≡ Some k) → P t → P (behind_classes p facts o admitted t place ks)
  classes_turn t place [] there a = a
  classes_turn t place (k ∷ ks) there a =
      let here : slice_get p.classes place ≡ Some k = ap (slice_get p.classes) (let z : place ≡ 0 + place = omega arith in z) ∙ there 0 k refl in
      classes_turn (behind_methods p facts o admitted t place k k.methods) (suc place) ks (λ c x f. ap (slice_get p.classes) (let z : c + suc place ≡ suc c + place = omega arith in z) ∙ there (suc c) x f)
      (methods_turn t place 0 k k.methods here (λ i m f. ap (slice_get k.methods) (let z : i + 0 ≡ i = omega arith in z) ∙ f) a)

  pub all_turns : P (judged p facts o admitted)
  all_turns = by o.optimise
    where
      by : (b : Bool) → P (if b then behind_classes p facts o admitted (tables_of p) 0 p.classes else tables_of p)
      by true = classes_turn (tables_of p) 0 p.classes (λ c k f. ap (slice_get p.classes) (let z : c + 0 ≡ c = omega arith in z) ∙ f) first
      by false = first
