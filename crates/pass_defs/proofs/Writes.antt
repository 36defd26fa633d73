-- A write keeps the order of kinds.
use Rattle.std.proofs.Common.{◌≡◌, ℕ, zero, suc, ◌+◌, ◌-◌, Bool, true, false, true≢false, nat_eq, List, [], ◌∷◌, refl, sym, ap, ◌∙◌, subst, eq-eqb}
use Rattle.std.specs.Prelude.{◌&&◌, slice_set, if◌then◌else◌}
use Rattle.std.specs.Cmp.Lexicographic.{bytes_decides}
use Rattle.dalvik_defs.specs.Names.{Text, text_eq}
use Rattle.dalvik_defs.specs.declared.program.NamedProgram.{NamedProgram}
use Rattle.pass_defs.specs.Kinds.{Kind, Undefined, Zero, Word, Low, High, Null, Class, Array, Reference, Fresh, FreshThis, kind_eq, is_below}
use Rattle.pass_defs.specs.Registers.{Kinds, kind_at, cleared, split, written_one, written_pair, written_kinds, written, all_below, kinds_below}

pub left_true : (a b : Bool) → (a && b) ≡ true → a ≡ true
left_true true b e = refl
left_true false b e = e

pub right_true : (a b : Bool) → (a && b) ≡ true → b ≡ true
right_true true b e = e
right_true false b e = absurd (true≢false (sym e))

pub both_true : (a b : Bool) → a ≡ true → b ≡ true → (a && b) ≡ true
both_true true b e f = f
both_true false b e f = e

text_self : (t : Text) → text_eq t t ≡ true
text_self t = (bytes_decides t t).1 refl

pub same_kind : (k : Kind) → kind_eq k k ≡ true
same_kind Undefined = refl
same_kind Zero = refl
same_kind Word = refl
same_kind Low = refl
same_kind High = refl
same_kind Null = refl
same_kind (Class s) = text_self s
same_kind (Array s) = text_self s
same_kind Reference = refl
same_kind (Fresh s n) = ap (λ b. b && nat_eq n n) (text_self s) ∙ eq-eqb n n refl
same_kind FreshThis = refl

-- the two halves of a wide
data IsHalf (h : Kind) : Type 0 where
  is_low : h ≡ Low → IsHalf h
  is_high : h ≡ High → IsHalf h

module _ (q : NamedProgram) where
  pub itself_below : (k : Kind) → is_below q k k ≡ true
  itself_below k = rw (same_kind k) (same_kind k)

  -- what is above a half is that half, or undefined
  above_low : (k : Kind) → is_below q Low k ≡ true → kind_eq k Low ≡ false → k ≡ Undefined
  above_low Undefined e f = refl
  above_low Low e f = absurd (true≢false f)
  above_low k e f = absurd (true≢false (sym e))

  above_high : (k : Kind) → is_below q High k ≡ true → kind_eq k High ≡ false → k ≡ Undefined
  above_high Undefined e f = refl
  above_high High e f = absurd (true≢false f)
  above_high k e f = absurd (true≢false (sym e))

  below_low : (k : Kind) → is_below q k Low ≡ true → kind_eq k Low ≡ true
  below_low Low e = refl
  below_low k e = absurd (true≢false (sym e))

  below_high : (k : Kind) → is_below q k High ≡ true → kind_eq k High ≡ true
  below_high High e = refl
  below_high k e = absurd (true≢false (sym e))

  low_is : (k : Kind) → kind_eq k Low ≡ true → k ≡ Low
  low_is Low e = refl
  low_is k e = absurd (true≢false (sym e))

  high_is : (k : Kind) → kind_eq k High ≡ true → k ≡ High
  high_is High e = refl
  high_is k e = absurd (true≢false (sym e))

  above_half : (h k l : Kind) → IsHalf h → kind_eq k h ≡ true → is_below q k l ≡ true → kind_eq l h ≡ false → l ≡ Undefined
  above_half h k l (is_low i) e f g = above_low l (subst (λ k. is_below q k l ≡ true) (low_is k (ap (kind_eq k) (sym i) ∙ e)) f) (ap (kind_eq l) (sym i) ∙ g)
  above_half h k l (is_high i) e f g = above_high l (subst (λ k. is_below q k l ≡ true) (high_is k (ap (kind_eq k) (sym i) ∙ e)) f) (ap (kind_eq l) (sym i) ∙ g)

  below_half : (h k l : Kind) → IsHalf h → kind_eq l h ≡ true → is_below q k l ≡ true → kind_eq k h ≡ true
  below_half h k l (is_low i) e f = ap (kind_eq k) i ∙ below_low k (subst (λ l. is_below q k l ≡ true) (low_is l (ap (kind_eq l) (sym i) ∙ e)) f)
  below_half h k l (is_high i) e f = ap (kind_eq k) i ∙ below_high k (subst (λ l. is_below q k l ≡ true) (high_is l (ap (kind_eq l) (sym i) ∙ e)) f)

  -- ---- lists of kinds

  at_below : (ks ls : List Kind) (r : ℕ) → all_below q ks ls ≡ true → is_below q (kind_at ks r) (kind_at ls r) ≡ true
  at_below [] [] r e = refl
  at_below [] (l ∷ ls) r e = absurd (true≢false (sym e))
  at_below (k ∷ ks) [] r e = absurd (true≢false (sym e))
  at_below (k ∷ ks) (l ∷ ls) zero e = left_true (is_below q k l) (all_below q ks ls) e
  at_below (k ∷ ks) (l ∷ ls) (suc r) e = at_below ks ls r (right_true (is_below q k l) (all_below q ks ls) e)

  set_below : (ks ls : List Kind) (r : ℕ) (x : Kind) → all_below q ks ls ≡ true → all_below q (slice_set ks r x) (slice_set ls r x) ≡ true
  set_below [] [] r x e = refl
  set_below [] (l ∷ ls) r x e = absurd (true≢false (sym e))
  set_below (k ∷ ks) [] r x e = absurd (true≢false (sym e))
  set_below (k ∷ ks) (l ∷ ls) zero x e = both_true (is_below q x x) (all_below q ks ls) (itself_below x) (right_true (is_below q k l) (all_below q ks ls) e)
  set_below (k ∷ ks) (l ∷ ls) (suc r) x e = both_true (is_below q k l) (all_below q (slice_set ks r x) (slice_set ls r x)) (left_true (is_below q k l) (all_below q ks ls) e) (set_below ks ls r x (right_true (is_below q k l) (all_below q ks ls) e))

  -- where the higher one is undefined, the lower one may be
  set_lower : (ks ls : List Kind) (r : ℕ) → all_below q ks ls ≡ true → kind_at ls r ≡ Undefined → all_below q (slice_set ks r Undefined) ls ≡ true
  set_lower [] [] r e f = refl
  set_lower [] (l ∷ ls) r e f = absurd (true≢false (sym e))
  set_lower (k ∷ ks) [] r e f = absurd (true≢false (sym e))
  set_lower (k ∷ ks) (l ∷ ls) zero e f = both_true (is_below q Undefined l) (all_below q ks ls) (ap (is_below q Undefined) f) (right_true (is_below q k l) (all_below q ks ls) e)
  set_lower (k ∷ ks) (l ∷ ls) (suc r) e f = both_true (is_below q k l) (all_below q (slice_set ks r Undefined) ls) (left_true (is_below q k l) (all_below q ks ls) e) (set_lower ks ls r (right_true (is_below q k l) (all_below q ks ls) e) f)

  cleared_below : (h : Kind) → IsHalf h → (r : ℕ) (ks ls : List Kind) → all_below q ks ls ≡ true → all_below q (cleared r h ks) (cleared r h ls) ≡ true
  cleared_below h i r ks ls e = by (kind_eq (kind_at ks r) h) (kind_eq (kind_at ls r) h) refl refl
    where
      by : (a b : Bool) → kind_eq (kind_at ks r) h ≡ a → kind_eq (kind_at ls r) h ≡ b → all_below q (if a then slice_set ks r Undefined else ks) (if b then slice_set ls r Undefined else ls) ≡ true
      by true true f g = set_below ks ls r Undefined e
      by false false f g = e
      by true false f g = set_lower ks ls r e (above_half h (kind_at ks r) (kind_at ls r) i f (at_below ks ls r e) g)
      by false true f g = absurd (true≢false (sym (below_half h (kind_at ks r) (kind_at ls r) i g (at_below ks ls r e)) ∙ f))

  split_below : (r : ℕ) (ks ls : List Kind) → all_below q ks ls ≡ true → all_below q (split r ks) (split r ls) ≡ true
  split_below r ks ls e = cleared_below Low (is_low refl) (r - 1) (cleared (r + 1) High ks) (cleared (r + 1) High ls) (cleared_below High (is_high refl) (r + 1) ks ls e)

  one_below : (r : ℕ) (k : Kind) (ks ls : List Kind) → all_below q ks ls ≡ true → all_below q (written_one r k ks) (written_one r k ls) ≡ true
  one_below r k ks ls e = set_below (split r ks) (split r ls) r k (split_below r ks ls e)

  pair_below : (r : ℕ) (ks ls : List Kind) → all_below q ks ls ≡ true → all_below q (written_pair r ks) (written_pair r ls) ≡ true
  pair_below r ks ls e = set_below (slice_set (split (r + 1) (split r ks)) r Low) (slice_set (split (r + 1) (split r ls)) r Low) (r + 1) High
      (set_below (split (r + 1) (split r ks)) (split (r + 1) (split r ls)) r Low (split_below (r + 1) (split r ks) (split r ls) (split_below r ks ls e)))

  list_below : (r : ℕ) (k : Kind) (ks ls : List Kind) → all_below q ks ls ≡ true → all_below q (written_kinds r k ks) (written_kinds r k ls) ≡ true
  list_below r Low ks ls e = pair_below r ks ls e
  list_below r k ks ls e = one_below r k ks ls e

  -- a write of one kind into lower kinds leaves lower kinds
  pub written_below : (r : ℕ) (k : Kind) (a b : Kinds) → kinds_below q a b ≡ true → kinds_below q (written r k a) (written r k b) ≡ true
  written_below r k a b e = first (all_below q a.registers b.registers) (all_below q (written_kinds r k a.registers) (written_kinds r k b.registers)) (is_below q a.result b.result) (is_below q a.caught b.caught) (is_below q a.receiver b.receiver)
      (list_below r k a.registers b.registers) e
    where
      first : (u v x y z : Bool) → (u ≡ true → v ≡ true) → (u && x && y && z) ≡ true → (v && x && y && z) ≡ true
      first true v x y z f e = ap (λ v. v && x && y && z) (f refl) ∙ e
      first false v x y z f e = absurd (true≢false (sym e))
