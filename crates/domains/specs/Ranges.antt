-- The order of ranges of signed words.
use Rattle.std.specs.Prelude.{◌≡◌, ℕ, ℤ, pos, negsuc, Bool, true, false, ◌+◌, ◌<ℤ◌, ◌≤ℤ◌, ◌&&◌, ◌||◌, not, if◌then◌else◌, ◌<◌, ◌≤◌, ◌⊎◌, IsTrue, ◌↔◌, refl}
use Rattle.std.specs.Int.RustNames.{int_lt, int_le}
use Rattle.std.specs.Int.{int_min, int_max}
use Rattle.std.specs.Ordering.{int_eq}
use Rattle.std.proofs.Common.{arith, inl, inr}
use Rattle.std.proofs.lemmas.Grind.{common_steps}
use Rattle.std.proofs.lemmas.Int.{ints, by_lt_z, clamps}
use Rattle.lattice_core.specs.Laws.{IsUpper, IsWidened}
use Rattle.domains.specs.Datum.{Within}

-- from one signed word to another, both included; no word where low is above high
pub record Bounds : Type 0 where
  pub low : ℤ
  pub high : ℤ

-- a range in which there is no word is spelled 1 to 0
abbrev pub IsSpelled : Bounds → Type 0
IsSpelled r = r.high <ℤ r.low → (r.low ≡ pos 1) × (r.high ≡ pos 0)

abbrev pub no_words : Bounds
no_words = record { low = pos 1; high = pos 0 }

-- the least and the greatest signed word
abbrev pub first_word : ℤ
first_word = negsuc 0x7fff_ffff

abbrev pub last_word : ℤ
last_word = pos 0x7fff_ffff

abbrev pub all_words : Bounds
all_words = record { low = first_word; high = last_word }

abbrev pub only_word : ℤ → Bounds
only_word z = record { low = z; high = z }

abbrev pub words_between : ℤ → ℤ → Bounds
words_between low high = if int_lt high low then no_words else record { low = low; high = high }

-- what a range holds of: the numbers from low to high
abbrev pub range_holds : Bounds → ℤ → Type 0
range_holds r z = (r.low ≤ℤ z) × (z ≤ℤ r.high)

abbrev pub is_empty : Bounds → Bool
is_empty r = int_lt r.high r.low

abbrev pub range_leq : Bounds → Bounds → Bool
range_leq x y = is_empty x || (int_le y.low x.low && int_le x.high y.high)

-- the least range over both
abbrev pub range_joined : Bounds → Bounds → Bounds
range_joined x y = if is_empty x then y else (if is_empty y then x else record { low = int_min x.low y.low; high = int_max x.high y.high })

-- the old range, where an end that must move goes to the end of the type
abbrev pub range_widened : Bounds → Bounds → Bounds
range_widened x y = if is_empty x then y else (if is_empty y then x else record {
  low = if int_lt y.low x.low then first_word else x.low;
  high = if int_lt x.high y.high then last_word else x.high;
})

-- 0 at the end of the type, else 1
abbrev pub low_rank : ℤ → ℕ
low_rank z = if int_eq z first_word then 0 else 1

abbrev pub high_rank : ℤ → ℕ
high_rank z = if int_eq z last_word then 0 else 1

-- 3 where there is no word, else how many ends aren't the end of the type
abbrev pub range_rank : Bounds → ℕ
range_rank r = if is_empty r then 3 else low_rank r.low + high_rank r.high

pub range_within : (x y : Bounds) → IsTrue (range_leq x y) ↔ Within range_holds x y
range_within x y = (up, down)
  where
    up : IsTrue (range_leq x y) → Within range_holds x y
    up t z h = grind (arith, ints)

    down : Within range_holds x y → IsTrue (range_leq x y)
    down f = by_lt_z x.high x.low (λ e. grind (arith, ints)) (λ e.
        let l : (y.low ≤ℤ x.low) × (x.low ≤ℤ y.high) = f x.low (omega (arith, ints), e) in
        let h : (y.low ≤ℤ x.high) × (x.high ≤ℤ y.high) = f x.high (e, omega (arith, ints)) in
        grind (arith, ints))

pub nothing_in_it : (z : ℤ) → range_holds no_words z → ⊥
nothing_in_it z h = omega (arith, ints, h.0, h.1)

-- a range in which there is no word holds of none
pub none_in : (r : Bounds) (z : ℤ) → is_empty r ≡ true → range_holds r z → ⊥
none_in r z e h = let lt : r.high <ℤ r.low = grind (arith, ints) in omega (arith, ints, h.0, h.1)

pub range_upper : (x y : Bounds) → IsUpper (Within range_holds) x y (range_joined x y)
range_upper x y = by_empty (is_empty x) (is_empty y) refl refl
  where
    by_empty : (p q : Bool) → is_empty x ≡ p → is_empty y ≡ q
        → IsUpper (Within range_holds) x y (if p then y else (if q then x else record { low = int_min x.low y.low; high = int_max x.high y.high }))
    by_empty true q e k = record { first = λ z h. absurd (none_in x z e h); second = λ z h. h }
    by_empty false true e k = record { first = λ z h. h; second = λ z h. absurd (none_in y z k h) }
    by_empty false false e k = record {
      first = λ z h. (omega (arith, ints, clamps, h.0, h.1), omega (arith, ints, clamps, h.0, h.1));
      second = λ z h. (omega (arith, ints, clamps, h.0, h.1), omega (arith, ints, clamps, h.0, h.1));
    }

module _ (x y : Bounds) where
  abbrev pub moved_low : ℤ
  moved_low = if int_lt y.low x.low then first_word else x.low

  abbrev pub moved_high : ℤ
  moved_high = if int_lt x.high y.high then last_word else x.high

  abbrev pub moved : Bounds
  moved = record { low = moved_low; high = moved_high }

  pub low_moves : first_word ≤ℤ x.low → first_word ≤ℤ y.low
      → (moved_low ≤ℤ x.low) × (moved_low ≤ℤ y.low) × ((moved_low ≡ x.low) ⊎ (low_rank moved_low < low_rank x.low))
  low_moves f g = by_lt_z y.low x.low
      (λ lt. let e : int_lt y.low x.low ≡ true = grind (arith, ints) in rw e (omega (arith, ints), omega (arith, ints), inr (grind (arith, ints))))
      (λ le. let e : int_lt y.low x.low ≡ false = grind (arith, ints) in rw e (omega (arith, ints), omega (arith, ints), inl refl))

  pub high_moves : x.high ≤ℤ last_word → y.high ≤ℤ last_word
      → (x.high ≤ℤ moved_high) × (y.high ≤ℤ moved_high) × ((moved_high ≡ x.high) ⊎ (high_rank moved_high < high_rank x.high))
  high_moves f g = by_lt_z x.high y.high
      (λ lt. let e : int_lt x.high y.high ≡ true = grind (arith, ints) in rw e (omega (arith, ints), omega (arith, ints), inr (grind (arith, ints))))
      (λ le. let e : int_lt x.high y.high ≡ false = grind (arith, ints) in rw e (omega (arith, ints), omega (arith, ints), inl refl))

-- the ends of a range of words of 32 bits
pub record AreWords (r : Bounds) : Type 0 where
  pub from_first : first_word ≤ℤ r.low
  pub to_last : r.high ≤ℤ last_word

-- a widened range is above both, and spends an end where it isn't the old one
pub record Widens (x y w : Bounds) : Type 0 where
  pub over : IsUpper (Within range_holds) x y w
  pub no_rise : range_rank w ≤ range_rank x
  pub falls : Within range_holds w x ⊎ range_rank w < range_rank x

-- a range that is no less than two, each end of which is the old one or ranks lower
widens_by_ends : (x y w : Bounds) → is_empty x ≡ false → w.low ≤ℤ x.low → w.low ≤ℤ y.low → x.high ≤ℤ w.high → y.high ≤ℤ w.high
    → ((w.low ≡ x.low) ⊎ (low_rank w.low < low_rank x.low)) → ((w.high ≡ x.high) ⊎ (high_rank w.high < high_rank x.high)) → Widens x y w
widens_by_ends x y w e lx ly hx hy l h = record {
  over = record { first = λ z k. (omega (arith, ints, k.0, k.1), omega (arith, ints, k.0, k.1)); second = λ z k. (omega (arith, ints, k.0, k.1), omega (arith, ints, k.0, k.1)) };
  no_rise = rw (e, words) (elim l [
    | inl a ↦ elim h [ inl b ↦ rw (a, b) (omega arith) | inr b ↦ rw a (omega arith) ]
    | inr a ↦ elim h [ inl b ↦ rw b (omega arith) | inr b ↦ omega arith ]
  ]);
  falls = elim l [
    | inl a ↦ elim h [ inl b ↦ inl (λ z k. (omega (arith, ints, k.0, k.1), omega (arith, ints, k.0, k.1))) | inr b ↦ inr (rw (e, words, a) (omega arith)) ]
    | inr a ↦ elim h [ inl b ↦ inr (rw (e, words, b) (omega arith)) | inr b ↦ inr (rw (e, words) (omega arith)) ]
  ];
}
  where
    words : is_empty w ≡ false
    words = grind (arith, ints)

pub range_widens : (x y : Bounds) → AreWords x → AreWords y → Widens x y (range_widened x y)
range_widens x y f g = by_empty (is_empty x) (is_empty y) refl refl
  where
    -- a range with words has a rank of at most 2
    few : (r : Bounds) → is_empty r ≡ false → range_rank r < 3
    few r e = rw e (cases (int_eq r.low first_word) (int_eq r.high last_word))
      where
        cases : (p q : Bool) → (if p then 0 else 1) + (if q then 0 else 1) < 3
        cases true true = omega arith
        cases true false = omega arith
        cases false true = omega arith
        cases false false = omega arith

    moved : is_empty x ≡ false → is_empty y ≡ false → Widens x y (record { low = moved_low x y; high = moved_high x y })
    moved e k =
        let l = low_moves x y f.from_first g.from_first in
        let h = high_moves x y f.to_last g.to_last in
        widens_by_ends x y _ e l.0 l.1 h.0 h.1 l.2 h.2

    by_empty : (p q : Bool) → is_empty x ≡ p → is_empty y ≡ q
        → Widens x y (if p then y else (if q then x else record { low = moved_low x y; high = moved_high x y }))
    by_empty true true e k = record {
      over = record { first = λ z h. absurd (none_in x z e h); second = λ z h. h };
      no_rise = rw (e, k) (omega arith);
      falls = inl (λ z h. absurd (none_in y z k h));
    }
    by_empty true false e k = record {
      over = record { first = λ z h. absurd (none_in x z e h); second = λ z h. h };
      no_rise = rw e (omega (arith, few y k));
      falls = inr (rw e (few y k));
    }
    by_empty false true e k = record {
      over = record { first = λ z h. h; second = λ z h. absurd (none_in y z k h) };
      no_rise = omega arith;
      falls = inl (λ z h. h);
    }
    by_empty false false e k = moved e k
