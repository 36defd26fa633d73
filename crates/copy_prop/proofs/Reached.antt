-- What stands in short lists, and the steps of a body with what is reached.
use Rattle.std.proofs.Common.{◌≡◌, ℕ, ◌<◌, Bool, true, List, [], ◌∷◌, length, arith, ◌⊎◌, inl, inr}
use Rattle.std.specs.Prelude.{◌↔◌, Contains}
use Rattle.std.proofs.lemmas.List.Elements.{Contains-push, Contains-push_cases}
use Rattle.program_model.specs.declared.body.Body.{Body}
use Rattle.walk_marks.specs.Walks.{is_on}
use Rattle.body_graph.specs.Walks.{IsReached}
use Rattle.copy_prop.specs.Searches.{AreRows, AreSteps}
use Rattle.copy_prop.specs.declared.steps.Steps.{Steps}

pub none_in : (x : ℕ) → Contains [] x → ⊥
none_in x h = let f : ⊥ = omega (arith, h.1) in f

pub only_in : (x y : ℕ) → Contains (y ∷ []) x → y ≡ x
only_in x y h = elim (Contains-push_cases [] y x h) [ inl i ↦ absurd (none_in x i) | inr e ↦ e ]

pub one_in : (x : ℕ) → Contains (x ∷ []) x
one_in x = Contains-push [] x

pub steps_found : (b : Body) (rows fronts backs : List (List ℕ)) (reached : List Bool) (s : Steps) → s.rows.items ≡ rows → s.fronts.items ≡ fronts → s.backs.items ≡ backs → s.reached.items ≡ reached
    → AreRows b (length b.insns) rows fronts backs → length reached ≡ length b.insns → ((n : ℕ) → n < length b.insns → (is_on reached n ≡ true) ↔ IsReached b n) → AreSteps b s
steps_found b rows fronts backs reached s e1 e2 e3 e4 are long exact = record {
  rows = rw (e1, e2, e3) are;
  reached_long = rw e4 long;
  reached = λ n lt. rw e4 (exact n lt);
}
