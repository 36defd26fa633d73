-- A copy that is added to the marked rows of a table.
use Rattle.std.proofs.Common.{◌≡◌, ℕ, ◌+◌, ◌<◌, ◌≤◌, Bool, true, false, List, [], ◌∷◌, ◌++◌, length, get_or, refl, sym, ap, ◌∙◌, subst, arith, ◌⊎◌, inl, inr}
use Rattle.std.proofs.Math.ListN.{set}
use Rattle.std.specs.Prelude.{if◌then◌else◌, slice_index_or}
use Rattle.std.proofs.lemmas.Bool.{cases_eq}
use Rattle.std.proofs.lemmas.List.{length-set, get_or-set_same, get_or-set_other, get_or_default}
use Rattle.walk_marks.specs.Walks.{is_on}
use Rattle.copy_prop.specs.Searches.{Adds}
use Rattle.copy_prop.specs.declared.copied.Copied.{Copied}

-- the first rows were added to
pub record Adding (c : Copied) (marks : List Bool) (k : ℕ) (old new : List (List Copied)) : Type 0 where
  pub long : length new ≡ length old
  pub done : (n : ℕ) → n < k → n < length old → slice_index_or new n [] ≡ (if is_on marks n then slice_index_or old n [] ++ c ∷ [] else slice_index_or old n [])
  pub rest : (n : ℕ) → k ≤ n → slice_index_or new n [] ≡ slice_index_or old n []

pub adding_none : (c : Copied) (marks : List Bool) (old : List (List Copied)) → Adding c marks 0 old old
adding_none c marks old = record { long = refl; done = λ n lt _. absurd (omega arith); rest = λ n le. refl }

pub adding_row : (c : Copied) (marks : List Bool) (k : ℕ) (old new : List (List Copied)) (d row : List Copied) → k < length new → is_on marks k ≡ true → row ≡ get_or new k d ++ c ∷ [] → Adding c marks k old new → Adding c marks (k + 1) old (set new k row)
adding_row c marks k old new d row lt on is was = record { long = length-set new k row ∙ was.long; done = done; rest = rest }
  where
    done : (n : ℕ) → n < k + 1 → n < length old → slice_index_or (set new k row) n [] ≡ (if is_on marks n then slice_index_or old n [] ++ c ∷ [] else slice_index_or old n [])
    done n le small = at (cases_eq n k)
      where
        at : (n ≡ k) ⊎ (n ≡ k → ⊥) → slice_index_or (set new k row) n [] ≡ (if is_on marks n then slice_index_or old n [] ++ c ∷ [] else slice_index_or old n [])
        at (inl e) = subst (λ j. slice_index_or (set new k row) j [] ≡ (if is_on marks j then slice_index_or old j [] ++ c ∷ [] else slice_index_or old j [])) (sym e)
            (rw on (get_or-set_same new k row [] lt ∙ is ∙ ap (λ xs. xs ++ c ∷ []) (get_or_default new k d [] lt ∙ was.rest k (omega arith))))
        at (inr ne) = get_or-set_other new k n row [] ne ∙ was.done n (omega arith) small

    rest : (n : ℕ) → k + 1 ≤ n → slice_index_or (set new k row) n [] ≡ slice_index_or old n []
    rest n le = let ne : n ≡ k → ⊥ = λ e. omega arith in get_or-set_other new k n row [] ne ∙ was.rest n (omega arith)

pub adding_skip : (c : Copied) (marks : List Bool) (k : ℕ) (old new : List (List Copied)) → is_on marks k ≡ false → Adding c marks k old new → Adding c marks (k + 1) old new
adding_skip c marks k old new off was = record { long = was.long; done = done; rest = λ n le. was.rest n (omega arith) }
  where
    done : (n : ℕ) → n < k + 1 → n < length old → slice_index_or new n [] ≡ (if is_on marks n then slice_index_or old n [] ++ c ∷ [] else slice_index_or old n [])
    done n le small = at (cases_eq n k)
      where
        at : (n ≡ k) ⊎ (n ≡ k → ⊥) → slice_index_or new n [] ≡ (if is_on marks n then slice_index_or old n [] ++ c ∷ [] else slice_index_or old n [])
        at (inl e) = subst (λ j. slice_index_or new j [] ≡ (if is_on marks j then slice_index_or old j [] ++ c ∷ [] else slice_index_or old j [])) (sym e) (rw off (was.rest k (omega arith)))
        at (inr ne) = was.done n (omega arith) small

pub adding_all : (c : Copied) (marks : List Bool) (k : ℕ) (old new : List (List Copied)) → length old ≤ k → Adding c marks k old new → Adds c marks old new
adding_all c marks k old new le was = record { long = was.long; rows = λ n lt. was.done n (omega arith) lt }
