-- Origins of one method after another.
use Rattle.std.proofs.Common.{◌≡◌, ◌≢◌, ℕ, ◌+◌, ◌<◌, ◌≤◌, List, [], length, map, get_or, refl, ap, ◌∙◌, arith, below_more, get_or-set_other, get_or-set_same}
use Rattle.std.proofs.Math.ListN.{set}
use Rattle.std.proofs.lemmas.List.{length-set}
use Rattle.program_model.specs.declared.pass.Origin.{Origin}
use Rattle.pipeline.specs.Origins.{origin_by, row_at, AreAfter}

-- the lists of the first methods are traced
pub record Tracing (old first rows : List (List Origin)) (i : ℕ) : Type 0 where
  pub long : length rows ≡ length first
  pub done : (k : ℕ) → k < i → get_or rows k [] ≡ map (origin_by (row_at old k)) (get_or first k [])
  pub rest : (k : ℕ) → i ≤ k → get_or rows k [] ≡ get_or first k []

pub tracing_none : (old rows : List (List Origin)) → Tracing old rows rows 0
tracing_none old rows = record { long = refl; done = λ k h. absurd (omega arith); rest = λ k h. refl }

pub tracing_more : (old first rows : List (List Origin)) (i : ℕ) (y given : List Origin) → i < length rows → Tracing old first rows i → given ≡ row_at old i → y ≡ map (origin_by given) (get_or rows i [])
    → Tracing old first (set rows i y) (i + 1)
tracing_more old first rows i y given lt t e is = record {
  long = length-set rows i y ∙ t.long;
  done = below_more (λ (k : ℕ). get_or (set rows i y) k [] ≡ map (origin_by (row_at old k)) (get_or first k [])) i
      (λ k h. let ne : k ≢ i = omega arith in rw get_or-set_other (t.done k h))
      (rw get_or-set_same (is ∙ ap (λ (r : List Origin). map (origin_by r) (get_or rows i [])) e ∙ ap (map (origin_by (row_at old i))) (t.rest i (omega arith))));
  rest = λ k h. let ne : k ≢ i = omega arith in rw get_or-set_other (t.rest k (omega arith));
}

pub tracing_all : (old first rows : List (List Origin)) (i : ℕ) → length rows ≤ i → Tracing old first rows i → AreAfter old first rows
tracing_all old first rows i le t = record { long = t.long; each = λ k h. t.done k (omega (arith, h, le, t.long)) }
