-- The order of numbers.
use Rattle.std.specs.Prelude.{◌≡◌, ℕ, suc, zero, Bool, true, false, ◌==◌, if◌then◌else◌, ◌<◌, ◌≤◌, ◌⊎◌, IsTrue, ◌↔◌, Option, Some, None, refl}
use Rattle.std.proofs.Common.{sym, ◌∙◌, arith, inl, inr, subst, ap}
use Rattle.std.proofs.lemmas.Grind.{common_steps}
use Rattle.lattice_core.specs.Laws.{IsUpper, IsWidened}
use Rattle.domains.specs.declared.numbers.Word.{Word}
use Rattle.domains.specs.declared.numbers.Word.TheVariants.{Bottom, Known, KnownWide, Any}
use Rattle.domains.specs.Datum.{Number, Single, Double, Within}

-- what a word can hold of: nothing, one number, or any
abbrev pub word_holds : Word → Number → Type 0
word_holds Bottom n = ⊥
word_holds (Known a) n = n ≡ Single a
word_holds (KnownWide a) n = n ≡ Double a
word_holds Any n = Unit {0}

abbrev pub word_leq : Word → Word → Bool
word_leq Bottom y = true
word_leq (Known a) (Known b) = a == b
word_leq (KnownWide a) (KnownWide b) = a == b
word_leq x Any = true
word_leq x y = false

abbrev pub word_joined : Word → Word → Word
word_joined x y = if word_leq x y then y else (if word_leq y x then x else Any)

-- the word of 32 bits that it knows
abbrev pub word_known : Word → Option ℕ
word_known (Known a) = Some a
word_known x = None

-- the wide number that it knows
abbrev pub word_known_wide : Word → Option ℕ
word_known_wide (KnownWide a) = Some a
word_known_wide x = None

-- how far a word may still rise
abbrev pub word_rank : Word → ℕ
word_rank Bottom = 2
word_rank (Known a) = 1
word_rank (KnownWide a) = 1
word_rank Any = 0

-- two different numbers
two : {P : Type 0} (y : Word) → ((n : Number) → word_holds y n) → (y ≡ Any → P) → P
two Bottom h k = absurd (h (Single 0))
two (Known a) h k = let e : Double 0 ≡ Single a = h (Double 0) in absurd (cc)
two (KnownWide a) h k = let e : Single 0 ≡ Double a = h (Single 0) in absurd (cc)
two Any h k = k refl

-- what holds of two different numbers holds of any
pub differ : (z : Word) (m n : Number) → (m ≡ n → ⊥) → word_holds z m → word_holds z n → Within word_holds Any z
differ Bottom m n ne h k = absurd h
differ (Known a) m n ne h k = absurd (ne (h ∙ sym k))
differ (KnownWide a) m n ne h k = absurd (ne (h ∙ sym k))
differ Any m n ne h k = λ n h. tt

pub word_within : (x y : Word) → IsTrue (word_leq x y) ↔ Within word_holds x y
word_within x y = (up x y, down x y)
  where
    up : (x y : Word) → IsTrue (word_leq x y) → Within word_holds x y
    up Bottom y t n h = absurd h
    up (Known a) (Known b) t n h = grind (arith, common_steps)
    up (Known a) Any t n h = tt
    up (Known a) Bottom t n h = absurd (grind arith)
    up (Known a) (KnownWide b) t n h = absurd (grind arith)
    up (KnownWide a) (KnownWide b) t n h = grind (arith, common_steps)
    up (KnownWide a) Any t n h = tt
    up (KnownWide a) Bottom t n h = absurd (grind arith)
    up (KnownWide a) (Known b) t n h = absurd (grind arith)
    up Any Any t n h = tt
    up Any Bottom t n h = absurd (grind arith)
    up Any (Known b) t n h = absurd (grind arith)
    up Any (KnownWide b) t n h = absurd (grind arith)

    down : (x y : Word) → Within word_holds x y → IsTrue (word_leq x y)
    down Bottom y f = grind arith
    down (Known a) (Known b) f = let e : Single a ≡ Single b = f (Single a) refl in grind (arith, common_steps)
    down (Known a) Any f = grind arith
    down (Known a) Bottom f = absurd (f (Single a) refl)
    down (Known a) (KnownWide b) f = let e : Single a ≡ Double b = f (Single a) refl in absurd (cc)
    down (KnownWide a) (KnownWide b) f = let e : Double a ≡ Double b = f (Double a) refl in grind (arith, common_steps)
    down (KnownWide a) Any f = grind arith
    down (KnownWide a) Bottom f = absurd (f (Double a) refl)
    down (KnownWide a) (Known b) f = let e : Double a ≡ Single b = f (Double a) refl in absurd (cc)
    down Any y f = two y (λ n. f n tt) (λ e. subst (λ (w : Word). IsTrue (word_leq Any w)) (sym e) (grind arith))

pub word_upper : (x y : Word) → IsUpper (Within word_holds) x y (word_joined x y)
word_upper x y = by_order (word_leq x y) (word_leq y x) refl refl
  where
    by_order : (p q : Bool) → word_leq x y ≡ p → word_leq y x ≡ q → IsUpper (Within word_holds) x y (if p then y else (if q then x else Any))
    by_order true q e k = record { first = (word_within x y).0 e; second = λ n h. h }
    by_order false true e k = record { first = λ n h. h; second = (word_within y x).0 k }
    by_order false false e k = record { first = λ n h. tt; second = λ n h. tt }

pub word_join_least : (x y z : Word) → Within word_holds x z → Within word_holds y z → Within word_holds (word_joined x y) z
word_join_least x y z f g = by_order (word_leq x y) (word_leq y x) refl refl
  where
    -- what is above two words of which neither is above the other is any
    apart : (x y : Word) → word_leq x y ≡ false → word_leq y x ≡ false → Within word_holds x z → Within word_holds y z → Within word_holds Any z
    apart Bottom y p q f g = absurd (cc)
    apart (Known a) Bottom p q f g = absurd (cc)
    apart (KnownWide a) Bottom p q f g = absurd (cc)
    apart Any y p q f g = f
    apart x Any p q f g = g
    apart (Known a) (Known b) p q f g = differ z (Single a) (Single b) (grind (arith, common_steps)) (f (Single a) refl) (g (Single b) refl)
    apart (Known a) (KnownWide b) p q f g = differ z (Single a) (Double b) (λ e. cc) (f (Single a) refl) (g (Double b) refl)
    apart (KnownWide a) (Known b) p q f g = differ z (Double a) (Single b) (λ e. cc) (f (Double a) refl) (g (Single b) refl)
    apart (KnownWide a) (KnownWide b) p q f g = differ z (Double a) (Double b) (grind (arith, common_steps)) (f (Double a) refl) (g (Double b) refl)

    by_order : (p q : Bool) → word_leq x y ≡ p → word_leq y x ≡ q → Within word_holds (if p then y else (if q then x else Any)) z
    by_order true q e h = g
    by_order false true e h = f
    by_order false false e h = apart x y e h f g
