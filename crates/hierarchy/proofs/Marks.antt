-- Marks of classes that are set and cleared.
use Rattle.std.proofs.Common.{◌≡◌, ℕ, zero, suc, ◌+◌, ◌<◌, ◌≤◌, ◌⊎◌, inl, inr, Bool, true, false, true≢false, List, [], ◌∷◌, ◌++◌, length, slice_index, refl, sym, ap, subst, ◌∙◌, arith}
use Rattle.std.specs.Prelude.{slice_index_or, slice_set, Contains}
use Rattle.std.proofs.lemmas.List.{get_or_default}
use Rattle.std.proofs.lemmas.List.Elements.{Contains-push, Contains-append_left}
use Rattle.hierarchy.specs.declared.walk.Walk.{Walk}
use Rattle.hierarchy.specs.Walking.{IsFair}

pub cleared_at : (l : List Bool) (x c : ℕ) → slice_index_or (slice_set l x false) c false ≡ true → (c ≡ x → ⊥) × (slice_index_or l c false ≡ true)
cleared_at [] x c e = absurd (true≢false (sym e))
cleared_at (b ∷ bs) zero zero e = absurd (true≢false (sym e))
cleared_at (b ∷ bs) zero (suc c) e = (λ s. omega (arith, s), e)
cleared_at (b ∷ bs) (suc x) zero e = (λ s. omega (arith, s), e)
cleared_at (b ∷ bs) (suc x) (suc c) e = let r = cleared_at bs x c e in (λ s. r.0 (let t : suc c ≡ suc x = s in omega (arith, t)), r.1)

pub marked_at : (l : List Bool) (x c : ℕ) → slice_index_or (slice_set l x true) c false ≡ true → (c ≡ x) ⊎ (slice_index_or l c false ≡ true)
marked_at [] x c e = inr e
marked_at (b ∷ bs) zero zero e = inl refl
marked_at (b ∷ bs) zero (suc c) e = inr e
marked_at (b ∷ bs) (suc x) zero e = inr e
marked_at (b ∷ bs) (suc x) (suc c) e = elim (marked_at bs x c e) [ inl s ↦ inl (ap suc s) | inr f ↦ inr f ]

-- so many of the marks are cleared
pub record ClearedSoFar (list : List ℕ) (first now : List Bool) (done : ℕ) : Type 0 where
  pub size : length now ≡ length first
  pub left : (c : ℕ) → slice_index_or now c false ≡ true → (slice_index_or first c false ≡ true) × ((k : ℕ) → k < done → slice_index list k ≡ c → ⊥)

pub set_size : (l : List Bool) (x : ℕ) (v : Bool) → length (slice_set l x v) ≡ length l
set_size [] x v = refl
set_size (b ∷ bs) zero v = refl
set_size (b ∷ bs) (suc x) v = ap suc (set_size bs x v)

pub before_or_at : (i n : ℕ) → i < n + 1 → (i < n) ⊎ (i ≡ n)
before_or_at zero zero lt = inr refl
before_or_at zero (suc n) lt = inl (omega arith)
before_or_at (suc i) zero lt = absurd (omega (arith, lt))
before_or_at (suc i) (suc n) lt = elim (before_or_at i n (omega (arith, lt))) [ inl l ↦ inl (omega (arith, l)) | inr e ↦ inr (ap suc e) ]

pub cleared_more : (list : List ℕ) (first now more : List Bool) (done x : ℕ) → x ≡ slice_index list done → more ≡ slice_set now x false → ClearedSoFar list first now done → ClearedSoFar list first more (done + 1)
cleared_more list first now more done x here is s = record {
  size = ap length is ∙ set_size now x false ∙ s.size;
  left = λ c e.
      let r = cleared_at now x c (sym (ap (λ l. slice_index_or l c false) is) ∙ e) in
      let q = s.left c r.1 in (
        q.0,
        λ k lt at. elim (before_or_at k done lt) [ inl l ↦ q.1 k l at | inr same ↦ r.0 (sym at ∙ ap (slice_index list) same ∙ sym here) ],
      );
}

pub all_cleared : (list : List ℕ) (first now : List Bool) (done : ℕ) → length list ≤ done → ClearedSoFar list first now done → ((c : ℕ) → slice_index_or first c false ≡ true → Contains list c) → (c : ℕ) → slice_index_or now c false ≡ true → ⊥
all_cleared list first now done all s fair c e =
    let q = s.left c e in
    let t = fair c q.0 in
    q.1 t.0 (let l = t.1 in omega (arith, l, all)) (get_or_default list t.0 0 c t.1 ∙ t.2)

-- a class that is listed and marked
pub fair_more : (list more : List ℕ) (seen now : List Bool) (class : ℕ) → more ≡ list ++ class ∷ [] → now ≡ slice_set seen class true → ((c : ℕ) → slice_index_or seen c false ≡ true → Contains list c) → (c : ℕ) → slice_index_or now c false ≡ true → Contains more c
fair_more list more seen now class pushed marked fair c e = subst (λ l. Contains l c) (sym pushed) (elim (marked_at seen class c (sym (ap (λ l. slice_index_or l c false) marked) ∙ e)) [
  | inl s ↦ subst (Contains (list ++ class ∷ [])) (sym s) (Contains-push list class)
  | inr f ↦ Contains-append_left list (class ∷ []) c (fair c f)
])

pub fair_same : (old new : Walk) → new.seen ≡ old.seen → new.list ≡ old.list → IsFair old → IsFair new
fair_same old new s l f = record { listed = λ c e. subst (λ v. Contains v.items c) (sym l) (f.listed c (sym (ap (λ v. slice_index_or v.items c false) s) ∙ e)) }
