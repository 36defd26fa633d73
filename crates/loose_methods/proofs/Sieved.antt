-- The marks of the methods that may be static as far as the tables have room.
use Rattle.std.proofs.Common.{◌≡◌, ℕ, Bool, true, List, Some, sym, ap, ◌∙◌}
use Rattle.std.specs.Prelude.{◌&&◌, not, slice_get}
use Rattle.lemmas.proofs.Bools.{and_left}
use Rattle.lemmas.proofs.Options.{some_same}
use Rattle.program_model.specs.ProgramRules.{is_well_formed}
use Rattle.program_model.specs.declared.pass.Outside.{Outside}
use Rattle.program_model.specs.declared.pools.MethodName.{MethodName}
use Rattle.program_model.specs.declared.program.Class.{Class}
use Rattle.program_model.specs.declared.program.Method.{Method}
use Rattle.program_model.specs.declared.program.Program.{Program}
use Rattle.class_defs.specs.ClassGraph.{IsTwice}
use Rattle.class_defs.proofs.Positions.{same_test}
use Rattle.facts.specs.declared.facts.Facts.{Facts}
use Rattle.loose_methods.specs.Asked.{AreCandidates}
use Rattle.loose_methods.specs.Candidates.{is_candidate}
use Rattle.loose_methods.specs.Loose.{calls_allow}
use Rattle.loose_methods.specs.Marking.{is_on}
use Rattle.loose_methods.specs.Mentioned.{is_mentioned}
use Rattle.loose_methods.specs.Sieved.{IsSieved}
use Rattle.loose_methods.specs.Sifting.{HasCandidates, Keeps}
use Rattle.loose_methods.proofs.Once.{number_once}

module _ (p : Program) (wf : is_well_formed p ≡ true) (once : (class : ℕ) → IsTwice p class → ⊥) (o : Outside) where
  -- a marked method is a candidate, since its number is defined once
  is_marked : (marks : List Bool) → AreCandidates p o marks → (place i : ℕ) (k : Class) (m : Method) (q : MethodName) → slice_get p.classes place ≡ Some k → slice_get k.methods i ≡ Some m → slice_get p.methods m.name ≡ Some q
      → is_on marks m.name ≡ is_candidate p o place k q m
  is_marked marks a place i k m q e f g = same_test (is_on marks m.name) (is_candidate p o place k q m) to (a.all place i k m q e f g)
    where
      to : is_on marks m.name ≡ true → is_candidate p o place k q m ≡ true
      to h =
          let c = a.only m.name h in
          let same = number_once p wf once c.place place c.at i c.class k c.method m (record { is_class = c.is_class; is_method = c.is_method }) (record { is_class = e; is_method = f }) c.is_number in
          let classes : c.class ≡ k = some_same c.class k (sym c.is_class ∙ ap (slice_get p.classes) same.class ∙ e) in
          let names : c.name ≡ q = some_same c.name q (sym c.is_name ∙ g) in
          sym (ap (λ n. is_candidate p o n c.class c.name c.method) same.class ∙ ap (λ x. is_candidate p o place x c.name c.method) classes ∙ ap (λ x. is_candidate p o place k x c.method) names ∙ ap (is_candidate p o place k q) same.method) ∙ c.holds

  pub sieved : (facts : Facts) (admitted first second third : List Bool) → AreCandidates p o first → ((n : ℕ) → is_on second n ≡ (is_on first n && not (is_mentioned p n))) → Keeps (calls_allow p facts admitted) second third → IsSieved p facts o admitted third
  sieved facts admitted first second third a m k = record {
    are = λ place i c x q e f g.
        k.are x.name ∙ ap (λ b. b && calls_allow p facts admitted x.name) (m x.name ∙ ap (λ b. b && not (is_mentioned p x.name)) (is_marked first a place i c x q e f g));
  }

-- what is left of candidates are candidates
pub candidates_left : (p : Program) (o : Outside) (first second : List Bool) → AreCandidates p o first → ((n : ℕ) → is_on second n ≡ (is_on first n && not (is_mentioned p n))) → HasCandidates p o second
candidates_left p o first second a m = λ n e. a.only n (and_left (is_on first n) (not (is_mentioned p n)) (sym (m n) ∙ e))
