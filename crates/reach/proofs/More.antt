-- One element more of a list from which some are taken.
use Rattle.std.proofs.Common.{◌≡◌, ◌∙◌, sym, ap, refl, ℕ, ◌+◌, ◌<◌, Bool, List, [], ◌∷◌, ◌++◌, length, take, get_or}
use Rattle.std.proofs.lemmas.List.{append_assoc, map-append, take_more}
use Rattle.std.proofs.lemmas.List.Elements.{filter-append}
use Rattle.std.specs.Prelude.{filter}
use Rattle.program_model.specs.declared.pass.ClassIf.{ClassIf}
use Rattle.reach.specs.Closing.{classes_of}

module _ {A : Type 0} (named : List A → List ℕ) (apart : (xs ys : List A) → named (xs ++ ys) ≡ named xs ++ named ys) (q : A → Bool)
    (before : List ℕ) (xs : List A) (i : ℕ) (d : A) (l : i < length xs) where
  more : (now after : List ℕ) → now ≡ before ++ named (filter q (take i xs)) → after ≡ now ++ named (filter q (get_or xs i d ∷ []))
      → after ≡ before ++ named (filter q (take (i + 1) xs))
  more now after h e = e
      ∙ ap (λ (ns : List ℕ). ns ++ named (filter q (get_or xs i d ∷ []))) h
      ∙ append_assoc before (named (filter q (take i xs))) (named (filter q (get_or xs i d ∷ [])))
      ∙ ap (λ (ns : List ℕ). before ++ ns) (sym (apart (filter q (take i xs)) (filter q (get_or xs i d ∷ []))))
      ∙ ap (λ (ys : List A). before ++ named ys) (sym (filter-append q (take i xs) (get_or xs i d ∷ [])))
      ∙ ap (λ (ys : List A). before ++ named (filter q ys)) (sym (take_more xs i d l))

-- numbers of which some are taken
pub filtered_more : (q : ℕ → Bool) (before xs : List ℕ) (i d : ℕ) → i < length xs → {now after : List ℕ} → now ≡ before ++ filter q (take i xs)
    → after ≡ now ++ filter q (get_or xs i d ∷ []) → after ≡ before ++ filter q (take (i + 1) xs)
filtered_more q before xs i d l {now} {after} h e = more (λ (ns : List ℕ). ns) (λ xs ys. refl) q before xs i d l now after h e

-- classes of conditions of which some are taken
pub classes_more : (q : ClassIf → Bool) (before : List ℕ) (xs : List ClassIf) (i : ℕ) (d : ClassIf) → i < length xs → {now after : List ℕ}
    → now ≡ before ++ classes_of (filter q (take i xs)) → after ≡ now ++ classes_of (filter q (get_or xs i d ∷ [])) → after ≡ before ++ classes_of (filter q (take (i + 1) xs))
classes_more q before xs i d l {now} {after} h e = more classes_of (map-append (λ one. one.class)) q before xs i d l now after h e
