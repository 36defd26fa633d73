-- Lists of sets stand where the directory names them.
use Rattle.std.proofs.Common.{◌≡◌, ◌<◌, ◌+◌, ◌*◌, ◌^◌, ℕ, zero, suc, List, [], ◌∷◌, ◌++◌, length, map, refl, sym, ap, subst, ◌∙◌, arith}
use Rattle.std.specs.List.{AllByRecursion}
use Rattle.dex_base.specs.Word.{Is32}
use Rattle.dex_base.specs.Decides.{Each}
use Rattle.program_model.specs.declared.pass.Renumber.{Renumber}
use Rattle.program_model.specs.declared.value.Mark.{Mark}
use Rattle.dex_pools.specs.declared.scalar.TableSizes.{TableSizes}
use Rattle.dex_write.specs.Numbers.{words}
use Rattle.dex_defs.specs.Here.{Here}
use Rattle.dex_defs.specs.Annotations.{IsSetOf, AreParameterMarksOf}
use Rattle.dex_defs.specs.Arranged.{Both}
use Rattle.dex_defs.specs.Texts.{offsets_text}
use Rattle.dex_defs.specs.Written.{new_marks}
use Rattle.write_laws.proofs.Here.{here_same}
use Rattle.write_laws.proofs.Numbers.{Few, same_words, words_length, here_words}
use Rattle.written_file.proofs.Standing.{Stands, Unplaced, Placed}
use Rattle.written_code.proofs.Apart.{IsNewSet}

-- ---- numbers of 32 bits

pub few_left : (xs ys : List ℕ) → Few (xs ++ ys) → Few xs
few_left [] ys f = tt
few_left (x ∷ xs) ys f = (f.0, few_left xs ys f.1)

pub few_right : (xs ys : List ℕ) → Few (xs ++ ys) → Few ys
few_right [] ys f = f
few_right (x ∷ xs) ys f = few_right xs ys f.1

-- ---- one list

sets_each : (bytes : List ℕ) (sizes : TableSizes) (r : Renumber) (at from : ℕ) (os : List ℕ) (mss : List (List Mark)) → Both (IsNewSet bytes sizes r) os mss → Each (λ k o. Is32 bytes (at + 4 + 4 * k) o) from os → Each (IsSetOf bytes sizes at) from (map (new_marks r) mss)
sets_each bytes sizes r at from [] [] b e = tt
sets_each bytes sizes r at from [] (ms ∷ mss) b e = absurd b
sets_each bytes sizes r at from (o ∷ os) [] b e = absurd b
sets_each bytes sizes r at from (o ∷ os) (ms ∷ mss) b e = (record { offset = o; is = e.0; are = b.0 }, sets_each bytes sizes r at (suc from) os mss b.1 e.1)

both_long : (bytes : List ℕ) (sizes : TableSizes) (r : Renumber) (os : List ℕ) (mss : List (List Mark)) → Both (IsNewSet bytes sizes r) os mss → length os ≡ length (map (new_marks r) mss)
both_long bytes sizes r [] [] b = refl
both_long bytes sizes r [] (ms ∷ mss) b = absurd b
both_long bytes sizes r (o ∷ os) [] b = absurd b
both_long bytes sizes r (o ∷ os) (ms ∷ mss) b = ap suc (both_long bytes sizes r os mss b.1)

shift_each : (bytes : List ℕ) (at from : ℕ) (os : List ℕ) → Each (λ k o. Is32 bytes (at + 4 * k) o) (suc from) os → Each (λ k o. Is32 bytes (at + 4 + 4 * k) o) from os
shift_each bytes at from [] e = tt
shift_each bytes at from (o ∷ os) e = let s : at + 4 * suc from ≡ at + 4 + 4 * from = omega arith in (subst (λ (n : ℕ). Is32 bytes n o) s e.0, shift_each bytes at (suc from) os e.1)

pub list_stands : (bytes : List ℕ) (sizes : TableSizes) (r : Renumber) (offset : ℕ) (os : List ℕ) (mss : List (List Mark)) → length bytes < 2 ^ 32 → Few os → Both (IsNewSet bytes sizes r) os mss → Stands bytes offset (offsets_text os) → AreParameterMarksOf bytes sizes offset (map (new_marks r) mss)
list_stands bytes sizes r offset [] [] small few b (Unplaced a t) = subst (λ n. AreParameterMarksOf bytes sizes n []) (sym a) refl
list_stands bytes sizes r offset [] [] small few b (Placed a t h) = absurd (omega (arith, t))
list_stands bytes sizes r offset [] (ms ∷ mss) small few b s = absurd b
list_stands bytes sizes r offset (o ∷ os) [] small few b s = absurd b
list_stands bytes sizes r offset (o ∷ os) (ms ∷ mss) small few b (Unplaced a t) =
    let long : length (words (length (o ∷ os) ∷ o ∷ os)) ≡ 0 = ap (λ (l : List ℕ). length l) (same_words (length (o ∷ os) ∷ o ∷ os) ∙ t) in
    absurd (omega (arith, long, words_length (length (o ∷ os) ∷ o ∷ os)))
list_stands bytes sizes r zero (o ∷ os) (ms ∷ mss) small few b (Placed a t h) = absurd (omega (arith, a))
list_stands bytes sizes r (suc k) (o ∷ os) (ms ∷ mss) small few b (Placed a t h) =
    let whole : Here bytes (suc k) (words (length (o ∷ os) ∷ o ∷ os)) = here_same bytes (suc k) (offsets_text (o ∷ os)) (words (length (o ∷ os) ∷ o ∷ os)) (sym (same_words (length (o ∷ os) ∷ o ∷ os))) h in
    let low : length (o ∷ os) < 2 ^ 32 = omega (arith, small, whole.inside, words_length (length (o ∷ os) ∷ o ∷ os)) in
    let each = (here_words bytes (suc k) (length (o ∷ os) ∷ o ∷ os) (low, few) whole).1 in
    let begin : suc k + 4 * 0 ≡ suc k = omega arith in
    record {
      count = subst (λ (n : ℕ). Is32 bytes (suc k) n) (both_long bytes sizes r (o ∷ os) (ms ∷ mss) b) (subst (λ (n : ℕ). Is32 bytes n (length (o ∷ os))) begin each.0);
      are = sets_each bytes sizes r (suc k) 0 (o ∷ os) (ms ∷ mss) b (shift_each bytes (suc k) 0 (o ∷ os) each.1);
    }

-- ---- the lists of a class

pub lists_stand : (bytes : List ℕ) (sizes : TableSizes) (r : Renumber) (offsets : List ℕ) (oss : List (List ℕ)) (msss : List (List (List Mark))) → length bytes < 2 ^ 32 → AllByRecursion Few oss → Both (λ os marks. Both (IsNewSet bytes sizes r) os marks) oss msss → Both (Stands bytes) offsets (map offsets_text oss)
    → Both (λ offset marks. AreParameterMarksOf bytes sizes offset (map (new_marks r) marks)) offsets msss
lists_stand bytes sizes r [] [] [] small few b s = tt
lists_stand bytes sizes r [] [] (m ∷ ms) small few b s = absurd b
lists_stand bytes sizes r [] (os ∷ oss) msss small few b s = absurd s
lists_stand bytes sizes r (o ∷ offsets) [] msss small few b s = absurd s
lists_stand bytes sizes r (o ∷ offsets) (os ∷ oss) [] small few b s = absurd b
lists_stand bytes sizes r (o ∷ offsets) (os ∷ oss) (m ∷ ms) small few b s = (list_stands bytes sizes r o os m small few.0 b.0 s.0, lists_stand bytes sizes r offsets oss ms small few.1 b.1 s.1)
