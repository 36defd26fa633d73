-- Items that lie where they are named stand there, one by one.
use Rattle.std.proofs.Common.{◌≡◌, ◌<◌, ◌+◌, ◌*◌, ◌^◌, ℕ, zero, suc, List, [], ◌∷◌, ◌++◌, length, map, refl, sym, ap, subst, ◌∙◌, arith}
use Rattle.std.specs.List.{flat_map, AllByRecursion}
use Rattle.dex_base.specs.Word.{Is32}
use Rattle.dex_base.specs.Decides.{Each}
use Rattle.dex_pools.specs.declared.scalar.TableSizes.{TableSizes}
use Rattle.dex_pools.specs.Finds.{Ascends}
use Rattle.dex_pools.specs.Marks.{mark_below}
use Rattle.program_model.specs.declared.value.Mark.{Mark}
use Rattle.dex_write.specs.Numbers.{words}
use Rattle.dex_defs.specs.Here.{Here}
use Rattle.dex_defs.specs.Arranged.{IsAt, Nothing, Something, Lie, Both}
use Rattle.dex_defs.specs.Annotations.{IsMarkOf, AreMarksOf}
use Rattle.dex_defs.specs.Texts.{offsets_text}
use Rattle.dex_defs.specs.ValueTexts as texts
use Rattle.dex_defs.specs.Valid.{SetPart}
use Rattle.written_file.specs.Reads.{Reads}
use Rattle.write_laws.proofs.Here.{here_same}
use Rattle.write_laws.proofs.Numbers.{Few, same_words, words_length, here_words}

-- nothing stands, and the offset is 0, or the text stands there
pub data Stands (bytes : List ℕ) (offset : ℕ) (text : List ℕ) : Type 0 where
  Unplaced : offset ≡ 0 → text ≡ [] → Stands bytes offset text
  Placed : 0 < offset → 0 < length text → Here bytes offset text → Stands bytes offset text

at_stands : (bytes : List ℕ) (align from offset : ℕ) (text : List ℕ) (stop : ℕ) → IsAt bytes align from offset text stop → Stands bytes offset text
at_stands bytes align from offset text stop (Nothing a b c) = Unplaced a b
at_stands bytes align from offset text stop (Something a b c d e f) = Placed a b e

pub all_stand : (bytes : List ℕ) (align from : ℕ) (offsets : List ℕ) (ts : List (List ℕ)) (to : ℕ) → Lie bytes align from offsets ts to → Both (Stands bytes) offsets ts
all_stand bytes align from [] [] to h = tt
all_stand bytes align from [] (t ∷ ts) to h = absurd h
all_stand bytes align from (o ∷ os) [] to h = absurd h
all_stand bytes align from (o ∷ os) (t ∷ ts) to h = (at_stands bytes align from o t h.0 h.1, all_stand bytes align h.0 os ts to h.2)

-- an offset is below the size of the file
pub stands_few : (bytes : List ℕ) (offset : ℕ) (text : List ℕ) → length bytes < 2 ^ 32 → Stands bytes offset text → offset < 2 ^ 32
stands_few bytes offset text few (Unplaced a b) = omega (arith, a)
stands_few bytes offset text few (Placed a b c) = omega (arith, few, c.inside)

-- ---- pairs of two lists

pub both_split : {X Y : Type 0} (P : X → Y → Type 0) (xs us : List X) (ys vs : List Y) → length xs ≡ length ys → Both P (xs ++ us) (ys ++ vs) → Both P xs ys × Both P us vs
both_split P [] us [] vs e b = (tt, b)
both_split P [] us (y ∷ ys) vs e b = absurd (omega (arith, e))
both_split P (x ∷ xs) us [] vs e b = absurd (omega (arith, e))
both_split P (x ∷ xs) us (y ∷ ys) vs e b = let more = both_split P xs us ys vs (omega (arith, e)) b.1 in ((b.0, more.0), more.1)

pub both_weaker : {X Y : Type 0} (P Q : X → Y → Type 0) (xs : List X) (ys : List Y) → ((x : X) (y : Y) → P x y → Q x y) → Both P xs ys → Both Q xs ys
both_weaker P Q [] [] f b = tt
both_weaker P Q [] (y ∷ ys) f b = absurd b
both_weaker P Q (x ∷ xs) [] f b = absurd b
both_weaker P Q (x ∷ xs) (y ∷ ys) f b = (f x y b.0, both_weaker P Q xs ys f b.1)

-- ---- sets of annotations

few_offsets : (bytes : List ℕ) (os : List ℕ) (ts : List (List ℕ)) → length bytes < 2 ^ 32 → Both (Stands bytes) os ts → Few os
few_offsets bytes [] [] few b = tt
few_offsets bytes [] (t ∷ ts) few b = absurd b
few_offsets bytes (o ∷ os) [] few b = absurd b
few_offsets bytes (o ∷ os) (t ∷ ts) few b = (stands_few bytes o t few b.0, few_offsets bytes os ts few b.1)

marks_named : (bytes : List ℕ) (sizes : TableSizes) (at from : ℕ) (os : List ℕ) (ms : List Mark) → AllByRecursion (Reads bytes sizes) ms → Both (Stands bytes) os (map texts.mark_text ms) → Each (λ k o. Is32 bytes (at + 4 + 4 * k) o) from os → Each (IsMarkOf bytes sizes at) from ms
marks_named bytes sizes at from [] [] r b e = tt
marks_named bytes sizes at from [] (m ∷ ms) r b e = absurd b
marks_named bytes sizes at from (o ∷ os) [] r b e = absurd b
marks_named bytes sizes at from (o ∷ os) (m ∷ ms) r b e = (record { offset = o; is = e.0; is_mark = r.0 o (here b.0) }, marks_named bytes sizes at (suc from) os ms r.1 b.1 e.1)
  where
    here : Stands bytes o (texts.mark_text m) → Here bytes o (texts.mark_text m)
    here (Unplaced a t) = let none : length (texts.mark_text m) ≡ 0 = ap (λ (l : List ℕ). length l) t in absurd (omega (arith, none))
    here (Placed a t h) = h

shift_each : (bytes : List ℕ) (at from : ℕ) (os : List ℕ) → Each (λ k o. Is32 bytes (at + 4 * k) o) (suc from) os → Each (λ k o. Is32 bytes (at + 4 + 4 * k) o) from os
shift_each bytes at from [] e = tt
shift_each bytes at from (o ∷ os) e = let s : at + 4 * suc from ≡ at + 4 + 4 * from = omega arith in (subst (λ (n : ℕ). Is32 bytes n o) s e.0, shift_each bytes at (suc from) os e.1)

-- the set whose offsets stand there
pub set_stands : (bytes : List ℕ) (sizes : TableSizes) (offset : ℕ) (os : List ℕ) (ms : List Mark) → length bytes < 2 ^ 32 → length os ≡ length ms → Ascends mark_below ms → AllByRecursion (Reads bytes sizes) ms → Both (Stands bytes) os (map texts.mark_text ms) → Stands bytes offset (offsets_text os) → AreMarksOf bytes sizes offset ms
set_stands bytes sizes offset [] [] few e up r b (Unplaced a t) = subst (λ n. AreMarksOf bytes sizes n []) (sym a) refl
set_stands bytes sizes offset [] [] few e up r b (Placed a t h) = absurd (omega (arith, t))
set_stands bytes sizes offset [] (m ∷ ms) few e up r b s = absurd (omega (arith, e))
set_stands bytes sizes offset (o ∷ os) [] few e up r b s = absurd (omega (arith, e))
set_stands bytes sizes offset (o ∷ os) (m ∷ ms) few e up r b (Unplaced a t) =
    let long : length (words (length (o ∷ os) ∷ o ∷ os)) ≡ 0 = ap (λ (l : List ℕ). length l) (same_words (length (o ∷ os) ∷ o ∷ os) ∙ t) in
    absurd (omega (arith, long, words_length (length (o ∷ os) ∷ o ∷ os)))
set_stands bytes sizes zero (o ∷ os) (m ∷ ms) few e up r b (Placed a t h) = absurd (omega (arith, a))
set_stands bytes sizes (suc k) (o ∷ os) (m ∷ ms) few e up r b (Placed a t h) =
    let whole : Here bytes (suc k) (words (length (o ∷ os) ∷ o ∷ os)) = here_same bytes (suc k) (offsets_text (o ∷ os)) (words (length (o ∷ os) ∷ o ∷ os)) (sym (same_words (length (o ∷ os) ∷ o ∷ os))) h in
    let low : length (o ∷ os) < 2 ^ 32 = omega (arith, few, whole.inside, words_length (length (o ∷ os) ∷ o ∷ os)) in
    let all : Few (length (o ∷ os) ∷ o ∷ os) = (low, few_offsets bytes (o ∷ os) (map texts.mark_text (m ∷ ms)) few b) in
    let each = (here_words bytes (suc k) (length (o ∷ os) ∷ o ∷ os) all whole).1 in
    let begin : suc k + 4 * 0 ≡ suc k = omega arith in
    record {
      count = subst (λ (n : ℕ). Is32 bytes (suc k) n) e (subst (λ (n : ℕ). Is32 bytes n (length (o ∷ os))) begin each.0);
      are = marks_named bytes sizes (suc k) 0 (o ∷ os) (m ∷ ms) r b (shift_each bytes (suc k) 0 (o ∷ os) each.1);
      ascend = up;
    }

-- each set stands where it is named
abbrev pub IsGood : List ℕ → TableSizes → SetPart → Type 0
IsGood bytes sizes s = (length s.offsets ≡ length s.marks) × Ascends mark_below s.marks × AllByRecursion (Reads bytes sizes) s.marks

mapped_long : {X Y : Type 0} (f : X → Y) (xs : List X) → length (map f xs) ≡ length xs
mapped_long f [] = refl
mapped_long f (x ∷ xs) = ap suc (mapped_long f xs)

pub sets_stand : (bytes : List ℕ) (sizes : TableSizes) (offsets : List ℕ) (found : List SetPart) → length bytes < 2 ^ 32 → AllByRecursion (IsGood bytes sizes) found
    → Both (Stands bytes) (flat_map (λ s. s.offsets) found) (flat_map (λ s. map texts.mark_text s.marks) found) → Both (Stands bytes) offsets (map (λ s. offsets_text s.offsets) found)
    → Both (λ offset s. AreMarksOf bytes sizes offset s.marks × (length s.offsets ≡ length s.marks)) offsets found
sets_stand bytes sizes [] [] few good marks sets = tt
sets_stand bytes sizes [] (s ∷ ss) few good marks sets = absurd sets
sets_stand bytes sizes (o ∷ os) [] few good marks sets = absurd sets
sets_stand bytes sizes (o ∷ os) (s ∷ ss) few good marks sets =
    let g = good.0 in
    let apart = both_split (Stands bytes) s.offsets (flat_map (λ x. x.offsets) ss) (map texts.mark_text s.marks) (flat_map (λ x. map texts.mark_text x.marks) ss) (g.0 ∙ sym (mapped_long texts.mark_text s.marks)) marks in
    ((set_stands bytes sizes o s.offsets s.marks few g.0 g.1 g.2 apart.0 sets.0, g.0), sets_stand bytes sizes os ss few good.1 apart.1 sets.1)
