-- Lists of kinds that agree in some registers, and writes to them.
use Rattle.std.proofs.Common.{◌≡◌, ◌⊎◌, inl, inr, ℕ, zero, suc, ◌+◌, ◌-◌, Bool, true, false, true≢false, if◌then◌else◌, List, [], ◌∷◌, length, map, refl, sym, ap, ◌∙◌, subst, arith, nat_eq, eq-eqb}
use Rattle.std.specs.Prelude.{slice_set}
use Rattle.std.proofs.lemmas.Bool.{eqb-true}
use Rattle.pass_defs.specs.Kinds.{Kind, Undefined, Low, High, kind_eq}
use Rattle.pass_defs.specs.Registers.{kind_at, cleared, split, written_one, written_pair, written_kinds}

pub record AgreeOn (P : ℕ → Type 0) (ks ls : List Kind) : Type 0 where
  pub long : length ls ≡ length ks
  pub same : (x : ℕ) → P x → kind_at ls x ≡ kind_at ks x

pub same_or : (a b : ℕ) → (a ≡ b) ⊎ (a ≡ b → ⊥)
same_or a b = by (nat_eq a b) refl
  where
    by : (t : Bool) → nat_eq a b ≡ t → (a ≡ b) ⊎ (a ≡ b → ⊥)
    by true e = inl (eqb-true a b e)
    by false e = inr (λ d. true≢false (sym (eq-eqb a b d) ∙ e))

-- ---- one register

pub set_long : (ks : List Kind) (r : ℕ) (k : Kind) → length (slice_set ks r k) ≡ length ks
set_long [] r k = refl
set_long (l ∷ ks) zero k = refl
set_long (l ∷ ks) (suc r) k = ap suc (set_long ks r k)

set_same : (ks ls : List Kind) (r : ℕ) (k : Kind) → length ls ≡ length ks → kind_at (slice_set ls r k) r ≡ kind_at (slice_set ks r k) r
set_same [] [] r k e = refl
set_same [] (l ∷ ls) r k e = let f : ⊥ = omega (arith, e) in absurd f
set_same (j ∷ ks) [] r k e = let f : ⊥ = omega (arith, e) in absurd f
set_same (j ∷ ks) (l ∷ ls) zero k e = refl
set_same (j ∷ ks) (l ∷ ls) (suc r) k e = set_same ks ls r k (omega (arith, e))

pub set_other : (ks : List Kind) (r x : ℕ) (k : Kind) → (x ≡ r → ⊥) → kind_at (slice_set ks r k) x ≡ kind_at ks x
set_other [] r x k n = refl
set_other (l ∷ ks) zero zero k n = absurd (n refl)
set_other (l ∷ ks) zero (suc x) k n = refl
set_other (l ∷ ks) (suc r) zero k n = refl
set_other (l ∷ ks) (suc r) (suc x) k n = set_other ks r x k (λ e. n (ap suc e))

module _ (P Q : ℕ → Type 0) where
  pub set_agree : (ks ls : List Kind) (r : ℕ) (k : Kind) → AgreeOn P ks ls → ((x : ℕ) → Q x → (x ≡ r) ⊎ P x) → AgreeOn Q (slice_set ks r k) (slice_set ls r k)
  set_agree ks ls r k a h = record { long = set_long ls r k ∙ a.long ∙ sym (set_long ks r k); same = λ x q. by x (h x q) (same_or x r) }
    where
      by : (x : ℕ) → (x ≡ r) ⊎ P x → (x ≡ r) ⊎ (x ≡ r → ⊥) → kind_at (slice_set ls r k) x ≡ kind_at (slice_set ks r k) x
      by x d (inl e) = subst (λ (y : ℕ). kind_at (slice_set ls r k) y ≡ kind_at (slice_set ks r k) y) (sym e) (set_same ks ls r k a.long)
      by x (inl e) (inr n) = absurd (n e)
      by x (inr i) (inr n) = set_other ls r x k n ∙ a.same x i ∙ sym (set_other ks r x k n)

cleared_long : (r : ℕ) (h : Kind) (ks : List Kind) → length (cleared r h ks) ≡ length ks
cleared_long r h ks = by (kind_eq (kind_at ks r) h)
  where
    by : (t : Bool) → length (if t then slice_set ks r Undefined else ks) ≡ length ks
    by true = set_long ks r Undefined
    by false = refl

pub cleared_other : (r x : ℕ) (h : Kind) (ks : List Kind) → (x ≡ r → ⊥) → kind_at (cleared r h ks) x ≡ kind_at ks x
cleared_other r x h ks n = by (kind_eq (kind_at ks r) h)
  where
    by : (t : Bool) → kind_at (if t then slice_set ks r Undefined else ks) x ≡ kind_at ks x
    by true = set_other ks r x Undefined n
    by false = refl

module _ (P : ℕ → Type 0) where
  cleared_agree : (ks ls : List Kind) (r : ℕ) (h : Kind) → AgreeOn P ks ls → AgreeOn P (cleared r h ks) (cleared r h ls)
  cleared_agree ks ls r h a = record { long = cleared_long r h ls ∙ a.long ∙ sym (cleared_long r h ks); same = λ x i. by x i (same_or x r) }
    where
      here : (t : Bool) → kind_at ls r ≡ kind_at ks r → kind_at (if t then slice_set ls r Undefined else ls) r ≡ kind_at (if t then slice_set ks r Undefined else ks) r
      here true e = set_same ks ls r Undefined a.long
      here false e = e

      by : (x : ℕ) → P x → (x ≡ r) ⊎ (x ≡ r → ⊥) → kind_at (cleared r h ls) x ≡ kind_at (cleared r h ks) x
      by x i (inr n) = cleared_other r x h ls n ∙ a.same x i ∙ sym (cleared_other r x h ks n)
      by x i (inl e) = let s : kind_at ls r ≡ kind_at ks r = subst (λ (y : ℕ). kind_at ls y ≡ kind_at ks y) e (a.same x i) in
          subst (λ (y : ℕ). kind_at (cleared r h ls) y ≡ kind_at (cleared r h ks) y) (sym e)
          (ap (λ (k : Kind). kind_at (if kind_eq k h then slice_set ls r Undefined else ls) r) s ∙ here (kind_eq (kind_at ks r) h) s)

  split_agree : (ks ls : List Kind) (r : ℕ) → AgreeOn P ks ls → AgreeOn P (split r ks) (split r ls)
  split_agree ks ls r a = cleared_agree (cleared (r + 1) High ks) (cleared (r + 1) High ls) (r - 1) Low (cleared_agree ks ls (r + 1) High a)

-- ---- writes

module _ (P Q : ℕ → Type 0) (ks ls : List Kind) (r : ℕ) (a : AgreeOn P ks ls) where
  one_agree : (k : Kind) → ((x : ℕ) → Q x → (x ≡ r) ⊎ P x) → AgreeOn Q (written_one r k ks) (written_one r k ls)
  one_agree k h = set_agree P Q (split r ks) (split r ls) r k (split_agree P ks ls r a) h

  pub pair_agree : ((x : ℕ) → Q x → (x ≡ r + 1) ⊎ ((x ≡ r) ⊎ P x)) → AgreeOn Q (written_pair r ks) (written_pair r ls)
  pair_agree h = set_agree (λ x. (x ≡ r) ⊎ P x) Q (slice_set (split (r + 1) (split r ks)) r Low) (slice_set (split (r + 1) (split r ls)) r Low) (r + 1) High
      (set_agree P (λ x. (x ≡ r) ⊎ P x) (split (r + 1) (split r ks)) (split (r + 1) (split r ls)) r Low (split_agree P (split r ks) (split r ls) (r + 1) (split_agree P ks ls r a)) (λ x q. q)) h

  pub kinds_agree : (k : Kind) → ((x : ℕ) → Q x → (x ≡ r) ⊎ P x) → AgreeOn Q (written_kinds r k ks) (written_kinds r k ls)
  kinds_agree Low h = pair_agree (λ x q. inr (h x q))
  kinds_agree k h = one_agree k h

pub fewer_agree : (P Q : ℕ → Type 0) (ks ls : List Kind) → AgreeOn P ks ls → ((x : ℕ) → Q x → P x) → AgreeOn Q ks ls
fewer_agree P Q ks ls a h = record { long = a.long; same = λ x q. a.same x (h x q) }

mapped : (g : Kind → Kind) → g Undefined ≡ Undefined → (ks : List Kind) (x : ℕ) → kind_at (map g ks) x ≡ g (kind_at ks x)
mapped g e [] x = sym e
mapped g e (k ∷ ks) zero = refl
mapped g e (k ∷ ks) (suc x) = mapped g e ks x

map_long : (g : Kind → Kind) (ks : List Kind) → length (map g ks) ≡ length ks
map_long g [] = refl
map_long g (k ∷ ks) = ap suc (map_long g ks)

pub map_agree : (P : ℕ → Type 0) (g : Kind → Kind) → g Undefined ≡ Undefined → (ks ls : List Kind) → AgreeOn P ks ls → AgreeOn P (map g ks) (map g ls)
map_agree P g e ks ls a = record { long = map_long g ls ∙ a.long ∙ sym (map_long g ks); same = λ x i. mapped g e ls x ∙ ap g (a.same x i) ∙ sym (mapped g e ks x) }

-- ---- what a write leaves of other registers

cleared_or : (r x : ℕ) (h : Kind) (ks : List Kind) → (kind_at (cleared r h ks) x ≡ kind_at ks x) ⊎ (kind_at (cleared r h ks) x ≡ Undefined)
cleared_or r x h ks = by (kind_eq (kind_at ks r) h) (same_or x r)
  where
    set_undefined : (ks : List Kind) (r : ℕ) → kind_at (slice_set ks r Undefined) r ≡ Undefined
    set_undefined [] r = refl
    set_undefined (k ∷ ks) zero = refl
    set_undefined (k ∷ ks) (suc r) = set_undefined ks r

    by : (t : Bool) → (x ≡ r) ⊎ (x ≡ r → ⊥) → (kind_at (if t then slice_set ks r Undefined else ks) x ≡ kind_at ks x) ⊎ (kind_at (if t then slice_set ks r Undefined else ks) x ≡ Undefined)
    by false d = inl refl
    by true (inl e) = inr (ap (kind_at (slice_set ks r Undefined)) e ∙ set_undefined ks r)
    by true (inr n) = inl (set_other ks r x Undefined n)

abbrev KeptOr : List Kind → List Kind → ℕ → Type 0
KeptOr ks ls x = (kind_at ls x ≡ kind_at ks x) ⊎ (kind_at ls x ≡ Undefined)

then_or : (ks ls ms : List Kind) (x : ℕ) → KeptOr ks ls x → KeptOr ls ms x → KeptOr ks ms x
then_or ks ls ms x h (inr e) = inr e
then_or ks ls ms x (inl e) (inl d) = inl (d ∙ e)
then_or ks ls ms x (inr e) (inl d) = inr (d ∙ e)

split_or : (r x : ℕ) (ks : List Kind) → KeptOr ks (split r ks) x
split_or r x ks = then_or ks (cleared (r + 1) High ks) (split r ks) x (cleared_or (r + 1) x High ks) (cleared_or (r - 1) x Low (cleared (r + 1) High ks))

-- a register that isn't written has the kind that it had, or was half of a wide that is gone
pub one_or : (r x : ℕ) (k : Kind) (ks : List Kind) → (x ≡ r → ⊥) → KeptOr ks (written_one r k ks) x
one_or r x k ks n = then_or ks (split r ks) (written_one r k ks) x (split_or r x ks) (inl (set_other (split r ks) r x k n))

pub pair_or : (r x : ℕ) (ks : List Kind) → (x ≡ r → ⊥) → (x ≡ r + 1 → ⊥) → KeptOr ks (written_pair r ks) x
pair_or r x ks n m =
    let a = then_or ks (split r ks) (split (r + 1) (split r ks)) x (split_or r x ks) (split_or (r + 1) x (split r ks)) in
    then_or ks (split (r + 1) (split r ks)) (written_pair r ks) x a
    (inl (set_other (slice_set (split (r + 1) (split r ks)) r Low) (r + 1) x High m ∙ set_other (split (r + 1) (split r ks)) r x Low n))

pub written_or : (r x : ℕ) (k : Kind) (ks : List Kind) → (k ≡ Low → x ≡ r + 1 → ⊥) → (x ≡ r → ⊥) → KeptOr ks (written_kinds r k ks) x
written_or r x Low ks m n = pair_or r x ks n (m refl)
written_or r x k ks m n = one_or r x k ks n

one_long : (r : ℕ) (k : Kind) (ks : List Kind) → length (written_one r k ks) ≡ length ks
one_long r k ks = set_long (split r ks) r k ∙ cleared_long (r - 1) Low (cleared (r + 1) High ks) ∙ cleared_long (r + 1) High ks

split_long : (r : ℕ) (ks : List Kind) → length (split r ks) ≡ length ks
split_long r ks = cleared_long (r - 1) Low (cleared (r + 1) High ks) ∙ cleared_long (r + 1) High ks

pub written_long : (r : ℕ) (k : Kind) (ks : List Kind) → length (written_kinds r k ks) ≡ length ks
written_long r Low ks = set_long (slice_set (split (r + 1) (split r ks)) r Low) (r + 1) High ∙ set_long (split (r + 1) (split r ks)) r Low ∙ split_long (r + 1) (split r ks) ∙ split_long r ks
written_long r k ks = one_long r k ks
