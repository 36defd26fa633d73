-- What method numbers resolve to, number by number, and what keeps the name of a method.
use Rattle.std.proofs.Common.{◌≡◌, ◌⊎◌, inl, inr, ℕ, zero, suc, ◌+◌, ◌<◌, ◌≤◌, Bool, true, false, List, [], ◌∷◌, ◌++◌, length, Option, None, refl, sym, ap, ◌∙◌, arith}
use Rattle.std.specs.Prelude.{slice_get, slice_index_or}
use Rattle.std.proofs.lemmas.Bool.{cases_lt}
use Rattle.std.proofs.lemmas.Option.{slice_get_past}
use Rattle.program_model.specs.declared.program.Method.{Method}
use Rattle.program_model.specs.declared.program.Program.{Program}
use Rattle.program_model.specs.Lookups.{class_place}
use Rattle.class_defs.specs.Finding.{by_entry, first_among, resolution_of}
use Rattle.class_defs.specs.Members.{own_method}
use Rattle.staticise.specs.Loosened.{code_loosened, flags_loosened, is_given, marks_loosened, method_loosened, target_at, target_of}
use Rattle.staticise.specs.Ordering.{AreTargets, TargetsTo}

last_is : (xs : List (Option ℕ)) (x : Option ℕ) (n : ℕ) → n ≡ length xs → slice_index_or (xs ++ x ∷ []) n None ≡ x
last_is [] x zero e = refl
last_is [] x (suc n) e = absurd (cc)
last_is (y ∷ xs) x zero e = absurd (cc)
last_is (y ∷ xs) x (suc n) e = last_is xs x n (let z : n ≡ length xs = cc in z)

first_are : (xs : List (Option ℕ)) (x : Option ℕ) (n : ℕ) → n < length xs → slice_index_or (xs ++ x ∷ []) n None ≡ slice_index_or xs n None
first_are [] x n lt = absurd (omega (arith, lt))
first_are (y ∷ xs) x zero lt = refl
first_are (y ∷ xs) x (suc n) lt = first_are xs x n (omega (arith, lt))

length_end : (xs : List (Option ℕ)) (x : Option ℕ) → length (xs ++ x ∷ []) ≡ length xs + 1
length_end [] x = refl
length_end (y ∷ xs) x = let z = length_end xs x in omega (arith, z)

past : (xs : List (Option ℕ)) (n : ℕ) → length xs ≤ n → slice_index_or xs n None ≡ None
past [] n le = refl
past (y ∷ xs) zero le = absurd (omega (arith, le))
past (y ∷ xs) (suc n) le = past xs n (omega (arith, le))

module _ (p : Program) (given : List (Option ℕ)) where
  pub none_targeted : (targets : List (Option ℕ)) → targets ≡ [] → TargetsTo p given 0 targets
  none_targeted targets e = record { long = ap length e; are = λ n lt. absurd (omega (arith, lt)) }

  pub one_targeted : (done : ℕ) (targets new : List (Option ℕ)) (x : Option ℕ) → TargetsTo p given done targets → x ≡ target_of p given done → new ≡ targets ++ x ∷ [] → TargetsTo p given (done + 1) new
  one_targeted done targets new x a e f = record {
    long = ap length f ∙ (length_end targets x ∙ ap (λ n. n + 1) a.long);
    are = λ n lt. ap (λ l. slice_index_or l n None) f ∙ by n lt (cases_lt n done);
  }
    where
      by : (n : ℕ) → n < done + 1 → (n < done) ⊎ (done ≤ n) → slice_index_or (targets ++ x ∷ []) n None ≡ target_of p given n
      by n lt (inl l) = first_are targets x n (let w = a.long in omega (arith, l, w)) ∙ a.are n l
      by n lt (inr g) = let same : n ≡ done = omega (arith, lt, g) in last_is targets x n (same ∙ sym a.long) ∙ (e ∙ ap (target_of p given) (sym same))

  pub all_targeted : (done : ℕ) (targets : List (Option ℕ)) → length p.methods ≤ done → TargetsTo p given done targets → AreTargets p given targets
  all_targeted done targets le a = record { are = λ n. by n (cases_lt n done) }
    where
      beyond : (n : ℕ) → slice_get p.methods n ≡ None → target_of p given n ≡ None
      beyond n e = ap (λ o. target_at p given (by_entry (λ q. first_among (own_method p q.name q.proto) (resolution_of p (class_place p q.class))) o)) e

      by : (n : ℕ) → (n < done) ⊎ (done ≤ n) → slice_index_or targets n None ≡ target_of p given n
      by n (inl l) = a.are n l
      by n (inr g) = past targets n (let w = a.long in omega (arith, g, w)) ∙ sym (beyond n (slice_get_past p.methods n (omega (arith, g, le))))

-- a method keeps its number
pub same_name : (p : Program) (given : List (Option ℕ)) (m : Method) → (method_loosened p given m).name ≡ m.name
same_name p given m = by (is_given given m.name)
  where
    by : (b : Bool) → (record (elim b as (λ x. Method) [ true ↦ record m { flags = flags_loosened m.flags; parameter_marks = marks_loosened m.parameter_marks } | false ↦ m ]) { body = code_loosened p given m.body }).name ≡ m.name
    by true = refl
    by false = refl
