-- Words as sets of the registers below 64.
use Rattle.std.proofs.Common.{◌≡◌, inl, inr, ℕ, zero, suc, ◌+◌, ◌*◌, ◌/◌, ◌%◌, ◌^◌, ◌<◌, ◌≤◌, ◌-◌, min, max, Bool, true, false, not, ◌&&◌, ◌||◌, List, [], ◌∷◌, ◌++◌, length, take, map, slice_index_or, Option, Some, None, option_to_list, nat_eq, refl, sym, ap, ◌∙◌, subst, arith, w64, eq-eqb}
use Rattle.std.specs.List.{list_any}
use Rattle.std.specs.Int.{bit_at, bit_not}
use Rattle.std.specs.Prelude.{bit_and, bit_or}
use Rattle.std.proofs.lemmas.Bool.{cases_eq, ne_eqb}
use Rattle.std.proofs.lemmas.List.{take_more, take_all}
use Rattle.std.proofs.lemmas.List.Folds.{list_any-append}
use Rattle.std.proofs.lemmas.Nat.{one_shl}
use Rattle.std.proofs.lemmas.Nat.Bits.{bit_at_or, bit_at_and, bit_at_not, bit_at-zero, bit_at-lt, bit_at_above, bit_at-pow_same, bit_at-pow_other, shr_and_one}
use Rattle.insn_set.specs.declared.form.Insn.{Insn}
use Rattle.insn_set.specs.Registers.{in_operand, reads_of, writes_of}
use Rattle.insn_set.specs.Flow.{throws, goes_on, targets_of}
use Rattle.program_model.specs.declared.body.Handler.{Handler}
use Rattle.program_model.specs.declared.body.Region.{Region}
use Rattle.flow_cfg.specs.Walks.{next_of, handlers_in}
use Rattle.body_graph.specs.Walks.{onward}
use Rattle.live_regs.specs.Words.{has, IsMask, word_at, has_any}
use Rattle.live_regs.specs.Sweeps.{flows}

-- ---- one register

pub has_inside : (word r : ℕ) → nat_eq (bit_and (word / 2 ^ r) 1) 1 ≡ has word r
has_inside word r = ap (λ (x : ℕ). nat_eq x 1) (shr_and_one word r)

pub has_outside : (word r : ℕ) → word < 2 ^ 64 → 64 ≤ r → has word r ≡ false
has_outside word r lt le = ap (λ (x : ℕ). nat_eq x 1) (bit_at_above word 64 r lt le)

pub none_is : IsMask (λ r. false) 0
none_is r lt = ap (λ (x : ℕ). nat_eq x 1) (bit_at-zero r)

one_is : (x : ℕ) → IsMask (λ r. nat_eq r x) (2 ^ x)
one_is x r lt = elim (cases_eq r x) [
  | inl e ↦ subst (λ (k : ℕ). has (2 ^ x) k ≡ nat_eq k x) (sym e) (ap (λ (y : ℕ). nat_eq y 1) (bit_at-pow_same x) ∙ sym (eq-eqb x x refl))
  | inr k ↦ ap (λ (y : ℕ). nat_eq y 1) (bit_at-pow_other x r k) ∙ sym (ne_eqb r x k)
]

pub one_inside : (x : ℕ) → x < 64 → IsMask (λ r. nat_eq r x) (1 * 2 ^ x % 2 ^ 64)
one_inside x lt = subst (IsMask (λ r. nat_eq r x)) (sym (one_shl x 64 lt)) (one_is x)

pub one_outside : (x : ℕ) → 64 ≤ x → IsMask (λ r. nat_eq r x) 0
one_outside x le r lt = none_is r lt ∙ sym (ne_eqb r x (λ e. omega (arith, lt, le, e)))

-- ---- words together

or_bits : (x y : ℕ) → x < 2 → y < 2 → nat_eq (max x y) 1 ≡ (nat_eq x 1 || nat_eq y 1)
or_bits zero zero a b = refl
or_bits zero (suc zero) a b = refl
or_bits (suc zero) zero a b = refl
or_bits (suc zero) (suc zero) a b = refl
or_bits (suc (suc x)) y a b = absurd (omega (arith, a))
or_bits zero (suc (suc y)) a b = absurd (omega (arith, b))
or_bits (suc zero) (suc (suc y)) a b = absurd (omega (arith, b))

less_bits : (x y : ℕ) → x < 2 → y < 2 → nat_eq (min x (1 - y)) 1 ≡ (nat_eq x 1 && not (nat_eq y 1))
less_bits zero zero a b = refl
less_bits zero (suc zero) a b = refl
less_bits (suc zero) zero a b = refl
less_bits (suc zero) (suc zero) a b = refl
less_bits (suc (suc x)) y a b = absurd (omega (arith, a))
less_bits zero (suc (suc y)) a b = absurd (omega (arith, b))
less_bits (suc zero) (suc (suc y)) a b = absurd (omega (arith, b))

pub has_or : (a b r : ℕ) → has (bit_or a b) r ≡ (has a r || has b r)
has_or a b r = ap (λ (x : ℕ). nat_eq x 1) (bit_at_or a b r) ∙ or_bits (bit_at a r) (bit_at b r) (bit_at-lt a r) (bit_at-lt b r)

has_less : (a b r : ℕ) → b < 2 ^ 64 → r < 64 → has (bit_and a (bit_not w64 b)) r ≡ (has a r && not (has b r))
has_less a b r small lt =
    ap (λ (x : ℕ). nat_eq x 1) (bit_at_and a (bit_not w64 b) r ∙ ap (min (bit_at a r)) (bit_at_not w64 b r small lt)) ∙ less_bits (bit_at a r) (bit_at b r) (bit_at-lt a r) (bit_at-lt b r)

pub or_is : (f g : ℕ → Bool) (a b : ℕ) → IsMask f a → IsMask g b → IsMask (λ r. f r || g r) (bit_or a b)
or_is f g a b x y r lt = has_or a b r ∙ ap (λ (t : Bool). t || has b r) (x r lt) ∙ ap (λ (t : Bool). f r || t) (y r lt)

pub less_is : (f g : ℕ → Bool) (a b : ℕ) → b < 2 ^ 64 → IsMask f a → IsMask g b → IsMask (λ r. f r && not (g r)) (bit_and a (bit_not w64 b))
less_is f g a b small x y r lt = has_less a b r small lt ∙ ap (λ (t : Bool). t && not (has b r)) (x r lt) ∙ ap (λ (t : Bool). f r && not t) (y r lt)

-- a word that means the same
pub same_mask : (f g : ℕ → Bool) (a : ℕ) → ((r : ℕ) → f r ≡ g r) → IsMask f a → IsMask g a
same_mask f g a e x r lt = x r lt ∙ e r

-- ---- operands

pub wide_is : (w : Bool) (x y a b : ℕ) → w ≡ true → y ≡ x → IsMask (λ r. nat_eq r y) a → IsMask (λ r. nat_eq r (y + 1)) b → IsMask (in_operand w x) (bit_or a b)
wide_is w x y a b e same p q = subst (λ (v : Bool). IsMask (in_operand v x) (bit_or a b)) (sym e)
    (subst (λ (z : ℕ). IsMask (in_operand true z) (bit_or a b)) same (or_is (λ r. nat_eq r y) (λ r. nat_eq r (y + 1)) a b p q))

pub narrow_is : (w : Bool) (x y a : ℕ) → w ≡ false → y ≡ x → IsMask (λ r. nat_eq r y) a → IsMask (in_operand w x) a
narrow_is w x y a e same p = subst (λ (v : Bool). IsMask (in_operand v x) a) (sym e) (subst (λ (z : ℕ). IsMask (λ r. nat_eq r z) a) same p)

pub either_is : (w v : Bool) (x y a b : ℕ) → IsMask (in_operand w x) a → IsMask (in_operand v y) b → IsMask (λ r. in_operand w x r || in_operand v y r) (bit_or a b)
either_is w v x y a b p q = or_is (in_operand w x) (in_operand v y) a b p q

pub third_is : (w : Bool) (x y z a b : ℕ) → IsMask (λ r. in_operand w x r || in_operand false y r) a → IsMask (in_operand false z) b → IsMask (λ r. (in_operand w x r || nat_eq r y) || nat_eq r z) (bit_or a b)
third_is w x y z a b p q = or_is (λ r. in_operand w x r || in_operand false y r) (in_operand false z) a b p q

-- ---- words at some places

or_false : (t : Bool) → (t || false) ≡ t
or_false true = refl
or_false false = refl

-- one more
pub any_more : {A : Type 0} (p : ℕ → A → Bool) (xs : List A) (i a b : ℕ) (d : A) → i < length xs → IsMask (λ r. list_any (p r) (take i xs)) a → IsMask (λ r. p r (slice_index_or xs i d)) b → IsMask (λ r. list_any (p r) (take (i + 1) xs)) (bit_or a b)
any_more p xs i a b d lt x y = same_mask (λ r. list_any (p r) (take i xs) || p r (slice_index_or xs i d)) (λ r. list_any (p r) (take (i + 1) xs)) (bit_or a b)
    (λ r. sym (ap (list_any (p r)) (take_more xs i d lt) ∙ list_any-append (p r) (take i xs) (slice_index_or xs i d ∷ []) ∙ ap (λ (t : Bool). list_any (p r) (take i xs) || t) (or_false (p r (slice_index_or xs i d)))))
    (or_is (λ r. list_any (p r) (take i xs)) (λ r. p r (slice_index_or xs i d)) a b x y)

pub any_all : {A : Type 0} (p : ℕ → A → Bool) (xs : List A) (i a : ℕ) → length xs ≤ i → IsMask (λ r. list_any (p r) (take i xs)) a → IsMask (λ r. list_any (p r) xs) a
any_all p xs i a le x = same_mask (λ r. list_any (p r) (take i xs)) (λ r. list_any (p r) xs) a (λ r. ap (list_any (p r)) (take_all i xs le)) x

-- the word at one place
pub at_is : (words : List ℕ) (n : ℕ) → IsMask (λ r. has (word_at words n) r) (word_at words n)
at_is words n r lt = refl

-- places behind places
pub both_is : (words xs ys : List ℕ) (a b : ℕ) → IsMask (λ r. has_any words r xs) a → IsMask (λ r. has_any words r ys) b → IsMask (λ r. has_any words r (xs ++ ys)) (bit_or a b)
both_is words xs ys a b x y = same_mask (λ r. has_any words r xs || has_any words r ys) (λ r. has_any words r (xs ++ ys)) (bit_or a b)
    (λ r. sym (list_any-append (λ n. has (word_at words n) r) xs ys)) (or_is (λ r. has_any words r xs) (λ r. has_any words r ys) a b x y)

eq_flip : (x r : ℕ) → nat_eq r x ≡ nat_eq x r
eq_flip x r = elim (cases_eq r x) [
  | inl e ↦ eq-eqb r x e ∙ sym (eq-eqb x r (sym e))
  | inr k ↦ ne_eqb r x k ∙ sym (ne_eqb x r (λ e. k (sym e)))
]

pub together_more : (words places : List ℕ) (i a b : ℕ) → i < length places → IsMask (λ r. has_any words r (take i places)) a → b ≡ word_at words (slice_index_or places i 0) → IsMask (λ r. has_any words r (take (i + 1) places)) (bit_or a b)
together_more words places i a b lt x e = any_more (λ r n. has (word_at words n) r) places i a b 0 lt x (λ r small. ap (λ (y : ℕ). has y r) e)

pub call_more : (registers : List ℕ) (i a b : ℕ) → i < length registers → IsMask (λ r. list_any (λ x. nat_eq x r) (take i registers)) a → IsMask (in_operand false (slice_index_or registers i 0)) b → IsMask (λ r. list_any (λ x. nat_eq x r) (take (i + 1) registers)) (bit_or a b)
call_more registers i a b lt x y = any_more (λ r x. nat_eq x r) registers i a b 0 lt x (same_mask (in_operand false (slice_index_or registers i 0)) (λ r. nat_eq (slice_index_or registers i 0) r) b (λ r. eq_flip (slice_index_or registers i 0) r) y)

pub caught_more : (words : List ℕ) (handlers : List Handler) (i a b : ℕ) (h : Handler) → i < length handlers → IsMask (λ r. list_any (λ g. has (word_at words g.position) r) (take i handlers)) a → b ≡ word_at words (slice_index_or handlers i h).position
    → IsMask (λ r. list_any (λ g. has (word_at words g.position) r) (take (i + 1) handlers)) (bit_or a b)
caught_more words handlers i a b h lt x e = any_more (λ r g. has (word_at words g.position) r) handlers i a b h lt x (λ r small. ap (λ (y : ℕ). has y r) e)

any_map : (p : ℕ → Bool) (hs : List Handler) → list_any (λ h. p h.position) hs ≡ list_any p (map (λ h. h.position) hs)
any_map p [] = refl
any_map p (h ∷ hs) = ap (λ (t : Bool). p h.position || t) (any_map p hs)

pub rest_some : (words : List ℕ) (region : Region) (x a : ℕ) → region.rest ≡ Some x → IsMask (λ r. list_any (λ h. has (word_at words h.position) r) region.handlers) a → IsMask (λ r. has_any words r (handlers_in region)) (bit_or a (word_at words x))
rest_some words region x a e y = subst (λ (o : Option ℕ). IsMask (λ r. has_any words r (map (λ h. h.position) region.handlers ++ option_to_list o)) (bit_or a (word_at words x))) (sym e)
    (both_is words (map (λ h. h.position) region.handlers) (x ∷ []) a (word_at words x)
    (same_mask (λ r. list_any (λ h. has (word_at words h.position) r) region.handlers) (λ r. has_any words r (map (λ h. h.position) region.handlers)) a (λ r. any_map (λ n. has (word_at words n) r) region.handlers) y)
    (same_mask (λ r. has (word_at words x) r) (λ r. has_any words r (x ∷ [])) (word_at words x) (λ r. sym (or_false (has (word_at words x) r))) (at_is words x)))

pub rest_none : (words : List ℕ) (region : Region) (a : ℕ) → region.rest ≡ None → IsMask (λ r. list_any (λ h. has (word_at words h.position) r) region.handlers) a → IsMask (λ r. has_any words r (handlers_in region)) a
rest_none words region a e y = subst (λ (o : Option ℕ). IsMask (λ r. has_any words r (map (λ h. h.position) region.handlers ++ option_to_list o)) a) (sym e)
    (same_mask (λ r. list_any (λ h. has (word_at words h.position) r) region.handlers) (λ r. has_any words r (map (λ h. h.position) region.handlers ++ [])) a
    (λ r. any_map (λ n. has (word_at words n) r) region.handlers ∙ sym (or_false (has_any words r (map (λ h. h.position) region.handlers))) ∙ sym (list_any-append (λ n. has (word_at words n) r) (map (λ h. h.position) region.handlers) [])) y)

next_goes : (i : Insn) (n : ℕ) → goes_on i ≡ true → next_of n i ≡ (n + 1) ∷ []
next_goes i n e = rw e refl

next_ends : (i : Insn) (n : ℕ) → goes_on i ≡ false → next_of n i ≡ []
next_ends i n e = rw e refl

pub onward_next : (words : List ℕ) (i : Insn) (n a : ℕ) → goes_on i ≡ true → IsMask (λ r. has_any words r (targets_of i)) a → IsMask (λ r. has_any words r (onward i n)) (bit_or (word_at words (n + 1)) a)
onward_next words i n a e x = subst (λ (l : List ℕ). IsMask (λ r. has_any words r (l ++ targets_of i)) (bit_or (word_at words (n + 1)) a)) (sym (next_goes i n e))
    (both_is words ((n + 1) ∷ []) (targets_of i) (word_at words (n + 1)) a (same_mask (λ r. has (word_at words (n + 1)) r) (λ r. has_any words r ((n + 1) ∷ [])) (word_at words (n + 1)) (λ r. sym (or_false (has (word_at words (n + 1)) r))) (at_is words (n + 1))) x)

pub onward_last : (words : List ℕ) (i : Insn) (n a : ℕ) → goes_on i ≡ false → IsMask (λ r. has_any words r (targets_of i)) a → IsMask (λ r. has_any words r (onward i n)) a
onward_last words i n a e x = subst (λ (l : List ℕ). IsMask (λ r. has_any words r (l ++ targets_of i)) a) (sym (next_ends i n e)) x

-- ---- what flows to a position

pub kept_is : (words : List ℕ) (i : Insn) (n a b c : ℕ) → c < 2 ^ 64 → IsMask (reads_of i) a → IsMask (λ r. has_any words r (onward i n)) b → IsMask (writes_of i) c
    → IsMask (λ r. reads_of i r || (has_any words r (onward i n) && not (writes_of i r))) (bit_or a (bit_and b (bit_not w64 c)))
kept_is words i n a b c small x y z = or_is (reads_of i) (λ r. has_any words r (onward i n) && not (writes_of i r)) a (bit_and b (bit_not w64 c)) x (less_is (λ r. has_any words r (onward i n)) (writes_of i) b c small y z)

abbrev kept_by : List ℕ → Insn → ℕ → ℕ → Bool
kept_by words i n r = reads_of i r || (has_any words r (onward i n) && not (writes_of i r))

pub flow_thrown : (words caught : List ℕ) (k n : ℕ) (i : Insn) (a : ℕ) → throws i ≡ true → IsMask (λ r. reads_of i r || (has_any words r (onward i n) && not (writes_of i r))) a → IsMask (flows words caught k n i) (bit_or a (word_at caught k))
flow_thrown words caught k n i a e x = same_mask (λ r. kept_by words i n r || has (word_at caught k) r) (flows words caught k n i) (bit_or a (word_at caught k))
    (λ r. ap (λ (t : Bool). kept_by words i n r || (t && has (word_at caught k) r)) (sym e)) (or_is (kept_by words i n) (λ r. has (word_at caught k) r) a (word_at caught k) x (at_is caught k))

pub flow_kept : (words caught : List ℕ) (k n : ℕ) (i : Insn) (a : ℕ) → throws i ≡ false → IsMask (λ r. reads_of i r || (has_any words r (onward i n) && not (writes_of i r))) a → IsMask (flows words caught k n i) a
flow_kept words caught k n i a e x = same_mask (kept_by words i n) (flows words caught k n i) a
    (λ r. sym (or_false (kept_by words i n r)) ∙ ap (λ (t : Bool). kept_by words i n r || (t && has (word_at caught k) r)) (sym e)) x
