-- The order of values.
use Rattle.std.specs.Prelude.{◌≡◌, ℕ, ℤ, pos, negsuc, Bool, true, false, ◌+◌, ◌<ℤ◌, ◌≤ℤ◌, ◌==◌, int_lt, if◌then◌else◌, ◌<◌, ◌≤◌, ◌⊎◌, IsTrue, ◌↔◌, List, [], ◌∷◌, Contains, Option, None, Some, IfSome, cond, refl}
use Rattle.std.specs.Int.{w32, cast_signed, int_min, int_max}
use Rattle.std.specs.Option.{option_copied}
use denote.Ref.{Bor}
use Rattle.std.proofs.Common.{sym, ◌∙◌, arith, inl, inr, subst, ap}
use Rattle.std.proofs.lemmas.Grind.{common_steps}
use Rattle.std.proofs.lemmas.Int.{ints, by_lt_z}
use Rattle.lattice_core.specs.Laws.{IsUpper, IsWidened}
use Rattle.domains.specs.declared.numbers.Word.{Word}
use Rattle.domains.specs.declared.numbers.Word.TheVariants.{Bottom, Known, KnownWide, Any}
use Rattle.domains.specs.declared.nulls.Nullness.{Nullness}
use Rattle.domains.specs.declared.nulls.Nullness.TheVariants.{Bottom as NoNull, Null, NotNull, Any as AnyNull}
use Rattle.domains.specs.Datum.{Number, Single, Double, Datum, Plain, Object, is_zero, Within}
use Rattle.domains.specs.Words.{word_holds, word_leq, word_joined, word_rank, word_known, word_known_wide, word_within, word_upper, word_join_least, differ}
use Rattle.domains.specs.Nulls.{Allows, null_holds, null_leq, null_joined, null_rank, null_within, null_leq_from, null_upper, allows_up, allows_either}
use Rattle.domains.specs.Ranges.{Bounds, range_holds, is_empty, range_leq, range_joined, range_widened, range_rank, range_within, range_upper, none_in, moved, moved_low, moved_high, low_moves, high_moves, first_word, last_word}
use Rattle.domains.specs.ClassSets.{set_holds, set_leq, set_joined, set_rank, set_within, set_upper, is_no_set, no_class, objects_either, some_object, no_object}
use Rattle.domains.specs.Values.{Parts, kind_holds, value_holds, HoldsOnly, HoldsAtMost, least_value, constant_value, wide_value, objects_value, any_value, value_joined, value_widened, value_rank, Attains, AttainsWord, IsReduced, known_of, known_wide_of}

-- each part is within the other's
pub record PartsWithin (x y : Parts) : Type 0 where
  pub word : Within word_holds x.word y.word
  pub interval : Within range_holds x.interval y.interval
  pub nullness : Within null_holds x.nullness y.nullness
  pub classes : Within set_holds x.classes y.classes

pub within_from_parts : (x y : Parts) → PartsWithin x y → Within value_holds x y
within_from_parts x y p (Plain (Single w)) h = ((p.word (Single w) h.0.0, p.interval (cast_signed w32 w) h.0.1), p.nullness (Plain (Single w)) h.1)
within_from_parts x y p (Plain (Double d)) h = (p.word (Double d) h.0, p.nullness (Plain (Double d)) h.1)
within_from_parts x y p (Object c) h = (p.classes c h.0, p.nullness (Object c) h.1)

-- nothing is in the range but what is from one end to the other
between_ends : (x y : Bounds) → (is_empty x ≡ false → range_holds y x.low × range_holds y x.high) → Within range_holds x y
between_ends x y f z h =
    let some : is_empty x ≡ false = grind (arith, ints) in
    let e = f some in
    (omega (arith, ints, e.0.0, e.0.1, e.1.0, e.1.1, h.0, h.1), omega (arith, ints, e.0.0, e.0.1, e.1.0, e.1.1, h.0, h.1))

double_same : (a b : ℕ) → Double a ≡ Double b → a ≡ b
double_same a b k = cc

word_from_held : (x y : Parts) (a : Word) → a ≡ x.word → AttainsWord x a → Within value_holds x y → Within word_holds a y.word
word_from_held x y Bottom e at f n h = absurd h
word_from_held x y (Known w) e at f n h = subst (word_holds y.word) (sym h) (f (Plain (Single w)) at).0.0
word_from_held x y (KnownWide d) e at f n h = subst (word_holds y.word) (sym h) (f (Plain (Double d)) at).0
word_from_held x y Any e at f n h = differ y.word (Double 0) (Double 1) (λ k. omega (arith, double_same 0 1 k)) (wide 0) (wide 1) n h
  where
    wide : (d : ℕ) → word_holds y.word (Double d)
    wide d = (f (Plain (Double d)) (subst (λ a. word_holds a (Double d)) e tt, at)).0

-- a reduced value is within another only where each part is
pub parts_from_within : (x y : Parts) → IsReduced x → Within value_holds x y → PartsWithin x y
parts_from_within x y r f = record {
  word = word_from_held x y x.word refl r.word f;
  interval = between_ends x.interval y.interval (λ some.
      let e = r.ends some in
      (held x.interval.low e.0, held x.interval.high e.1));
  nullness = (null_within x.nullness y.nullness).0 (null_leq_from x.nullness y.nullness
      (λ a. (f (Plain (Single 0)) (r.zero a)).1)
      (λ a. let d = r.other a in subst (Allows y.nullness) d.1 (f d.0 d.2).1));
  classes = λ c h. (f (Object c) (h, r.objects c h)).0;
}
  where
    held : (z : ℤ) → Attains x z → range_holds y.interval z
    held z a = subst (range_holds y.interval) a.1 (f (Plain (Single a.0)) a.2).0.1

pub of_nothing_at_all : (d : Datum) → value_holds least_value d → ⊥
of_nothing_at_all d h = h.1

-- ---- the values that are made

allows_its_own : (b : Bool) → Allows (if b then Null else NotNull) b
allows_its_own true = refl
allows_its_own false = refl

pub constant_reduced : (w : ℕ) → IsReduced (constant_value w)
constant_reduced w = record {
  word = it;
  ends = λ some. ((w, refl, it), (w, refl, it));
  zero = λ a. subst (λ n. value_holds (constant_value w) (Plain (Single n))) (is_word_zero (w == 0) refl a) it;
  other = λ a. (Plain (Single w), is_not (w == 0) a, it);
  objects = λ c h. absurd (no_class c h);
}
  where
    it : value_holds (constant_value w) (Plain (Single w))
    it = ((refl, (omega (arith, ints), omega (arith, ints))), allows_its_own (w == 0))

    is_word_zero : (b : Bool) → (w == 0) ≡ b → Allows (if b then Null else NotNull) true → w ≡ 0
    is_word_zero true e a = grind (arith, common_steps)
    is_word_zero false e a = absurd (cc)

    is_not : (b : Bool) → Allows (if b then Null else NotNull) false → b ≡ false
    is_not true a = sym a
    is_not false a = refl

pub wide_reduced : (d : ℕ) → IsReduced (wide_value d)
wide_reduced d = record {
  word = (refl, refl);
  ends = λ some. absurd (cc);
  zero = λ a. absurd (cc);
  other = λ a. (Plain (Double d), refl, (refl, refl));
  objects = λ c h. absurd (no_class c h);
}

no_zero : {P : Type 0} (b : Bool) → Allows (if b then NoNull else NotNull) true → P
no_zero true a = absurd a
no_zero false a = absurd (cc)

pub objects_reduced : (cs : Option (List ℕ)) → IsReduced (objects_value cs)
objects_reduced cs = record {
  word = tt;
  ends = λ some. absurd (cc);
  zero = λ a. no_zero (is_no_set cs) a;
  other = λ a. by_set (is_no_set cs) refl a;
  objects = λ c h. allowed (is_no_set cs) refl c h;
}
  where
    allowed : (b : Bool) → is_no_set cs ≡ b → (c : Option ℕ) → set_holds cs c → Allows (if b then NoNull else NotNull) false
    allowed true e c h = absurd (no_object cs c e h)
    allowed false e c h = refl

    by_set : (b : Bool) → is_no_set cs ≡ b → Allows (if b then NoNull else NotNull) false → (d : Datum) × (is_zero d ≡ false) × value_holds (objects_value cs) d
    by_set true e a = absurd a
    by_set false e a = some_object cs e (λ c h. (Object c, refl, (h, allowed (is_no_set cs) refl c h)))

-- it holds of just the objects of these classes
pub objects_held : (cs : Option (List ℕ)) (d : Datum) → value_holds (objects_value cs) d ↔ ((c : Option ℕ) × (d ≡ Object c) × set_holds cs c)
objects_held cs d = (forth d, λ h. subst (value_holds (objects_value cs)) (sym h.1) (h.2, (objects_reduced cs).objects h.0 h.2))
  where
    forth : (d : Datum) → value_holds (objects_value cs) d → (c : Option ℕ) × (d ≡ Object c) × set_holds cs c
    forth (Plain (Single w)) h = absurd h.0.0
    forth (Plain (Double w)) h = absurd h.0
    forth (Object c) h = (c, refl, h.0)

pub any_reduced : IsReduced any_value
any_reduced = record {
  word = tt;
  ends = λ some. ((0x8000_0000, refl, ((tt, (omega (arith, ints), omega (arith, ints))), tt)), (0x7fff_ffff, refl, ((tt, (omega (arith, ints), omega (arith, ints))), tt)));
  zero = λ a. ((tt, (omega (arith, ints), omega (arith, ints))), tt);
  other = λ a. (Object None, refl, (tt, tt));
  objects = λ c h. tt;
}

pub least_reduced : IsReduced least_value
least_reduced = record {
  word = tt;
  ends = λ some. absurd (cc);
  zero = λ a. absurd a;
  other = λ a. absurd a;
  objects = λ c h. absurd (no_class c h);
}

-- ---- joins and widenings of reduced values

-- a value over two that is their join but for the interval
abbrev pub over : Parts → Parts → Bounds → Parts
over x y i = record {
  word = word_joined x.word y.word;
  interval = i;
  nullness = null_joined x.nullness y.nullness;
  classes = set_joined x.classes y.classes;
}

cast_bounds : (w : ℕ) → (first_word ≤ℤ cast_signed w32 w) × (cast_signed w32 w ≤ℤ last_word)
cast_bounds w = (grind (arith, ints), grind (arith, ints))

module _ (x y : Parts) (i : Bounds) (rx : IsReduced x) (ry : IsReduced y) (fx : Within range_holds x.interval i) (fy : Within range_holds y.interval i) where
  first_up : Within value_holds x (over x y i)
  first_up = within_from_parts x (over x y i) (record { word = (word_upper x.word y.word).first; interval = fx; nullness = (null_upper x.nullness y.nullness).first; classes = (set_upper x.classes y.classes).first })

  second_up : Within value_holds y (over x y i)
  second_up = within_from_parts y (over x y i) (record { word = (word_upper x.word y.word).second; interval = fy; nullness = (null_upper x.nullness y.nullness).second; classes = (set_upper x.classes y.classes).second })

  first_allows : (z : Bool) → Allows x.nullness z → Allows (null_joined x.nullness y.nullness) z
  first_allows z = allows_up x.nullness (null_joined x.nullness y.nullness) z (null_upper x.nullness y.nullness).first

  second_allows : (z : Bool) → Allows y.nullness z → Allows (null_joined x.nullness y.nullness) z
  second_allows z = allows_up y.nullness (null_joined x.nullness y.nullness) z (null_upper x.nullness y.nullness).second

  -- of two different words one isn't 0
  two_words : (m n : ℕ) → (m ≡ n → ⊥) → Allows x.nullness (m == 0) → Allows y.nullness (n == 0) → Allows (null_joined x.nullness y.nullness) false
  two_words m n ne a b = by_zero (m == 0) (n == 0) refl refl a b
    where
      by_zero : (p q : Bool) → (m == 0) ≡ p → (n == 0) ≡ q → Allows x.nullness p → Allows y.nullness q → Allows (null_joined x.nullness y.nullness) false
      by_zero false q e k a b = first_allows false a
      by_zero true false e k a b = second_allows false b
      by_zero true true e k a b = absurd (ne (grind (arith, common_steps)))

  apart_words : (a b : Word) → word_leq a b ≡ false → word_leq b a ≡ false → AttainsWord x a → AttainsWord y b → Allows (null_joined x.nullness y.nullness) false
  apart_words Bottom b p q h k = absurd (cc)
  apart_words (Known m) Bottom p q h k = absurd (cc)
  apart_words (Known m) (Known n) p q h k = two_words m n (λ e. grind (arith, common_steps)) h.1 k.1
  apart_words (Known m) (KnownWide d) p q h k = second_allows false k.1
  apart_words (Known m) Any p q h k = absurd (cc)
  apart_words (KnownWide d) b p q h k = first_allows false h.1
  apart_words Any b p q h k = first_allows false h

  word_up_first : (a : Word) → AttainsWord x a → AttainsWord (over x y i) a
  word_up_first Bottom h = tt
  word_up_first (Known w) h = first_up (Plain (Single w)) h
  word_up_first (KnownWide d) h = first_up (Plain (Double d)) h
  word_up_first Any h = first_allows false h

  word_up_second : (a : Word) → AttainsWord y a → AttainsWord (over x y i) a
  word_up_second Bottom h = tt
  word_up_second (Known w) h = second_up (Plain (Single w)) h
  word_up_second (KnownWide d) h = second_up (Plain (Double d)) h
  word_up_second Any h = second_allows false h

  attains_first : (z : ℤ) → Attains x z → Attains (over x y i) z
  attains_first z a = (a.0, a.1, first_up (Plain (Single a.0)) a.2)

  attains_second : (z : ℤ) → Attains y z → Attains (over x y i) z
  attains_second z a = (a.0, a.1, second_up (Plain (Single a.0)) a.2)

  pub over_reduced : (is_empty i ≡ false → Attains (over x y i) i.low × Attains (over x y i) i.high) → IsReduced (over x y i)
  over_reduced ends = record {
    word = by_order (word_leq x.word y.word) (word_leq y.word x.word) refl refl;
    ends = ends;
    zero = λ a. elim (allows_either x.nullness y.nullness true a) [
      | inl b ↦ first_up (Plain (Single 0)) (rx.zero b)
      | inr b ↦ second_up (Plain (Single 0)) (ry.zero b)
    ];
    other = λ a. elim (allows_either x.nullness y.nullness false a) [
      | inl b ↦ let d = rx.other b in (d.0, d.1, first_up d.0 d.2)
      | inr b ↦ let d = ry.other b in (d.0, d.1, second_up d.0 d.2)
    ];
    objects = objects_either x.classes y.classes (λ c h. first_allows false (rx.objects c h)) (λ c h. second_allows false (ry.objects c h));
  }
    where
      by_order : (p q : Bool) → word_leq x.word y.word ≡ p → word_leq y.word x.word ≡ q → AttainsWord (over x y i) (if p then y.word else (if q then x.word else Any))
      by_order true q e k = word_up_second y.word ry.word
      by_order false true e k = word_up_first x.word rx.word
      by_order false false e k = apart_words x.word y.word e k rx.word ry.word

  -- two different words are held by one that holds of any number
  any_between : (z : ℤ) (w : ℕ) → cast_signed w32 w ≡ z → (w == 0) ≡ false → range_holds i z
      → (m n : ℕ) → value_holds x (Plain (Single m)) → value_holds y (Plain (Single n)) → (m ≡ n → ⊥) → Attains (over x y i) z
  any_between z w e nz r m n h k ne = (w, e, ((differ (word_joined x.word y.word) (Single m) (Single n) (λ t. ne (cc)) ((word_upper x.word y.word).first (Single m) h.0.0) ((word_upper x.word y.word).second (Single n) k.0.0) (Single w) tt, subst (range_holds i) (sym e) r), subst (Allows (null_joined x.nullness y.nullness)) (sym nz) (two_words m n ne h.1 k.1)))

-- a word whose attained numbers are all in another is within it
word_at_most : (x : Parts) (z a : Word) → a ≡ x.word → AttainsWord x a → HoldsAtMost x z → Within word_holds a z
word_at_most x z Bottom e at f n h = absurd h
word_at_most x z (Known w) e at f n h = subst (word_holds z) (sym h) (f (Plain (Single w)) at)
word_at_most x z (KnownWide d) e at f n h = subst (word_holds z) (sym h) (f (Plain (Double d)) at)
word_at_most x z Any e at f n h = differ z (Double 0) (Double 1) (λ k. omega (arith, double_same 0 1 k)) (wide 0) (wide 1) n h
  where
    wide : (d : ℕ) → word_holds z (Double d)
    wide d = f (Plain (Double d)) (subst (λ a. word_holds a (Double d)) e tt, at)

-- what is over two reduced values holds of at most the numbers of which both hold at most
pub over_at_most : (x y : Parts) (i : Bounds) (z : Word) → IsReduced x → IsReduced y → HoldsAtMost x z → HoldsAtMost y z → HoldsAtMost (over x y i) z
over_at_most x y i z rx ry f g (Plain (Single w)) h = word_join_least x.word y.word z (word_at_most x z x.word refl rx.word f) (word_at_most y z y.word refl ry.word g) (Single w) h.0.0
over_at_most x y i z rx ry f g (Plain (Double d)) h = word_join_least x.word y.word z (word_at_most x z x.word refl rx.word f) (word_at_most y z y.word refl ry.word g) (Double d) h.0
over_at_most x y i z rx ry f g (Object c) h =
    objects_either x.classes y.classes (λ c o. f (Object c) (o, rx.objects c o)) (λ c o. g (Object c) (o, ry.objects c o)) c h.0

pub joined_reduced : (x y : Parts) → IsReduced x → IsReduced y → IsReduced (value_joined x y)
joined_reduced x y rx ry = over_reduced x y (range_joined x.interval y.interval) rx ry u.first u.second (by_empty (is_empty x.interval) (is_empty y.interval) refl refl)
  where
    u : IsUpper (Within range_holds) x.interval y.interval (range_joined x.interval y.interval)
    u = range_upper x.interval y.interval

    first : (z : ℤ) → Attains x z → Attains (value_joined x y) z
    first = attains_first x y (range_joined x.interval y.interval) rx ry u.first u.second

    second : (z : ℤ) → Attains y z → Attains (value_joined x y) z
    second = attains_second x y (range_joined x.interval y.interval) rx ry u.first u.second

    by_test : (b : Bool) (v z : ℤ) → Attains (value_joined x y) v → Attains (value_joined x y) z → Attains (value_joined x y) (cond b v z)
    by_test true v z h k = h
    by_test false v z h k = k

    by_empty : (p q : Bool) → is_empty x.interval ≡ p → is_empty y.interval ≡ q → let i = if p then y.interval else (if q then x.interval else record { low = int_min x.interval.low y.interval.low; high = int_max x.interval.high y.interval.high }) in
        is_empty i ≡ false → Attains (value_joined x y) i.low × Attains (value_joined x y) i.high
    by_empty true q e k some = let a = ry.ends some in (second _ a.0, second _ a.1)
    by_empty false true e k some = let a = rx.ends some in (first _ a.0, first _ a.1)
    by_empty false false e k some =
        let a = rx.ends e in
        let b = ry.ends k in
        (by_test (int_lt y.interval.low x.interval.low) y.interval.low x.interval.low (second _ b.0) (first _ a.0), by_test (int_lt y.interval.high x.interval.high) x.interval.high y.interval.high (first _ a.1) (second _ b.1))

word_bounds : (v : Parts) (z : ℤ) → Attains v z → (first_word ≤ℤ z) × (z ≤ℤ last_word)
word_bounds v z a = subst (λ z. (first_word ≤ℤ z) × (z ≤ℤ last_word)) a.1 (cast_bounds a.0)

module _ (x y : Parts) (rx : IsReduced x) (ry : IsReduced y) where
  -- where one interval has no word, the other stays
  second_stays : is_empty x.interval ≡ true → IsReduced (over x y y.interval)
  second_stays e = over_reduced x y y.interval rx ry none all (λ some. let a = ry.ends some in (up _ a.0, up _ a.1))
    where
      none : Within range_holds x.interval y.interval
      none z h = absurd (none_in x.interval z e h)

      all : Within range_holds y.interval y.interval
      all z h = h

      up : (z : ℤ) → Attains y z → Attains (over x y y.interval) z
      up = attains_second x y y.interval rx ry none all

  first_stays : is_empty y.interval ≡ true → IsReduced (over x y x.interval)
  first_stays e = over_reduced x y x.interval rx ry all none (λ some. let a = rx.ends some in (up _ a.0, up _ a.1))
    where
      none : Within range_holds y.interval x.interval
      none z h = absurd (none_in y.interval z e h)

      all : Within range_holds x.interval x.interval
      all z h = h

      up : (z : ℤ) → Attains x z → Attains (over x y x.interval) z
      up = attains_first x y x.interval rx ry all none

  -- an end that moves is held, since two words are
  both_move : is_empty x.interval ≡ false → is_empty y.interval ≡ false → IsReduced (over x y (moved x.interval y.interval))
  both_move e k = over_reduced x y (moved x.interval y.interval) rx ry fx fy (λ some. (low (int_lt y.interval.low x.interval.low) refl, high (int_lt x.interval.high y.interval.high) refl))
    where
      xl : Attains x x.interval.low
      xl = (rx.ends e).0

      xh : Attains x x.interval.high
      xh = (rx.ends e).1

      yl : Attains y y.interval.low
      yl = (ry.ends k).0

      yh : Attains y y.interval.high
      yh = (ry.ends k).1

      lows : (moved_low x.interval y.interval ≤ℤ x.interval.low) × (moved_low x.interval y.interval ≤ℤ y.interval.low)
      lows = let m = low_moves x.interval y.interval (word_bounds x _ xl).0 (word_bounds y _ yl).0 in (m.0, m.1)

      highs : (x.interval.high ≤ℤ moved_high x.interval y.interval) × (y.interval.high ≤ℤ moved_high x.interval y.interval)
      highs = let m = high_moves x.interval y.interval (word_bounds x _ xh).1 (word_bounds y _ yh).1 in (m.0, m.1)

      fx : Within range_holds x.interval (moved x.interval y.interval)
      fx z g = (omega (arith, ints, lows.0, g.0), omega (arith, ints, highs.0, g.1))

      fy : Within range_holds y.interval (moved x.interval y.interval)
      fy z g = (omega (arith, ints, lows.1, g.0), omega (arith, ints, highs.1, g.1))

      in_order : x.interval.low ≤ℤ x.interval.high
      in_order = grind (arith, ints)

      differ_low : int_lt y.interval.low x.interval.low ≡ true → xl.0 ≡ yl.0 → ⊥
      differ_low t s =
          let c : cast_signed w32 xl.0 ≡ cast_signed w32 yl.0 = ap (cast_signed w32) s in
          let same : x.interval.low ≡ y.interval.low = sym xl.1 ∙ c ∙ yl.1 in
          let lt : y.interval.low <ℤ x.interval.low = grind (arith, ints) in
          omega (arith, ints, same, lt)

      differ_high : int_lt x.interval.high y.interval.high ≡ true → xh.0 ≡ yh.0 → ⊥
      differ_high t s =
          let c : cast_signed w32 xh.0 ≡ cast_signed w32 yh.0 = ap (cast_signed w32) s in
          let same : x.interval.high ≡ y.interval.high = sym xh.1 ∙ c ∙ yh.1 in
          let lt : x.interval.high <ℤ y.interval.high = grind (arith, ints) in
          omega (arith, ints, same, lt)

      -- the moved range from the least word, and to the greatest
      from_first : int_lt y.interval.low x.interval.low ≡ true → range_holds (moved x.interval y.interval) first_word
      from_first t =
          let l : moved_low x.interval y.interval ≡ first_word = rw t refl in
          (omega (arith, ints, l), omega (arith, ints, (word_bounds x _ xl).0, in_order, highs.0))

      to_last : int_lt x.interval.high y.interval.high ≡ true → range_holds (moved x.interval y.interval) last_word
      to_last t =
          let l : moved_high x.interval y.interval ≡ last_word = rw t refl in
          (omega (arith, ints, (word_bounds x _ xh).1, in_order, lows.0), omega (arith, ints, l))

      low : (b : Bool) → int_lt y.interval.low x.interval.low ≡ b → Attains (over x y (moved x.interval y.interval)) (if b then first_word else x.interval.low)
      low true t = any_between x y (moved x.interval y.interval) rx ry fx fy first_word 0x8000_0000 refl refl (from_first t) xl.0 yl.0 xl.2 yl.2 (differ_low t)
      low false t = attains_first x y (moved x.interval y.interval) rx ry fx fy x.interval.low xl

      high : (b : Bool) → int_lt x.interval.high y.interval.high ≡ b → Attains (over x y (moved x.interval y.interval)) (if b then last_word else x.interval.high)
      high true t = any_between x y (moved x.interval y.interval) rx ry fx fy last_word 0x7fff_ffff refl refl (to_last t) xh.0 yh.0 xh.2 yh.2 (differ_high t)
      high false t = attains_first x y (moved x.interval y.interval) rx ry fx fy x.interval.high xh

  pub widened_reduced : IsReduced (value_widened x y)
  widened_reduced = by_empty (is_empty x.interval) (is_empty y.interval) refl refl
    where
      by_empty : (p q : Bool) → is_empty x.interval ≡ p → is_empty y.interval ≡ q → IsReduced (over x y (if p then y.interval else (if q then x.interval else moved x.interval y.interval)))
      by_empty true q e k = second_stays e
      by_empty false true e k = first_stays k
      by_empty false false e k = both_move e k

-- ---- what a reduced value holds of alone

pub known_exact : (v : Parts) → IsReduced v → (w : ℕ) → (known_of v ≡ Some w) ↔ HoldsOnly v (Plain (Single w))
known_exact v r w = (forth (is_no_set v.classes) refl v.word refl r.word, back)
  where
    forth : (b : Bool) → is_no_set v.classes ≡ b → (a : Word) → a ≡ v.word → AttainsWord v a → (if b then word_known a else None) ≡ Some w → HoldsOnly v (Plain (Single w))
    forth false e a i h k = absurd (cc)
    forth true e Bottom i h k = absurd (cc)
    forth true e (KnownWide d) i h k = absurd (cc)
    forth true e Any i h k = absurd (cc)
    forth true e (Known m) i h k =
        let s : m ≡ w = cc in
        record { this = subst (λ n. value_holds v (Plain (Single n))) s h; only = only }
      where
        only : (d : Datum) → value_holds v d → d ≡ Plain (Single w)
        only (Plain (Single n)) g = let t : Single n ≡ Single m = subst (λ a. word_holds a (Single n)) (sym i) g.0.0 in cc
        only (Plain (Double n)) g = let t : Double n ≡ Single m = subst (λ a. word_holds a (Double n)) (sym i) g.0 in absurd (cc)
        only (Object c) g = absurd (no_object v.classes c e g.0)

    back : HoldsOnly v (Plain (Single w)) → known_of v ≡ Some w
    back h = by_set (is_no_set v.classes) refl
      where
        of_word : (a : Word) → a ≡ v.word → AttainsWord v a → word_holds a (Single w) → word_known a ≡ Some w
        of_word Bottom i at g = absurd g
        of_word (Known m) i at g = cc
        of_word (KnownWide d) i at g = absurd (cc)
        of_word Any i at g = let t : Plain (Double 0) ≡ Plain (Single w) = h.only (Plain (Double 0)) (subst (λ a. word_holds a (Double 0)) i tt, at) in absurd (cc)

        by_set : (b : Bool) → is_no_set v.classes ≡ b → (if b then word_known v.word else None) ≡ Some w
        by_set true e = of_word v.word refl r.word h.this.0.0
        by_set false e = some_object v.classes e (λ c o. let t : Object c ≡ Plain (Single w) = h.only (Object c) (o, r.objects c o) in absurd (cc))

pub known_then : (v : Parts) → IsReduced v → (o : Option ℕ) → true ≡ is_no_set v.classes → o ≡ word_known v.word → (w : ℕ) → (o ≡ Some w) ↔ HoldsOnly v (Plain (Single w))
known_then v r o e k w = subst (λ (o : Option ℕ). (o ≡ Some w) ↔ HoldsOnly v (Plain (Single w))) (sym (k ∙ ap (λ b. if b then word_known v.word else None) e)) (known_exact v r w)

pub known_else : (v : Parts) → IsReduced v → false ≡ is_no_set v.classes → (w : ℕ) → (None ≡ Some w) ↔ HoldsOnly v (Plain (Single w))
known_else v r e w = subst (λ (o : Option ℕ). (o ≡ Some w) ↔ HoldsOnly v (Plain (Single w))) (sym (ap (λ b. if b then word_known v.word else None) e)) (known_exact v r w)

pub known_wide_exact : (v : Parts) → IsReduced v → (w : ℕ) → (known_wide_of v ≡ Some w) ↔ HoldsOnly v (Plain (Double w))
known_wide_exact v r w = (forth (is_no_set v.classes) refl v.word refl r.word, back)
  where
    forth : (b : Bool) → is_no_set v.classes ≡ b → (a : Word) → a ≡ v.word → AttainsWord v a → (if b then word_known_wide a else None) ≡ Some w → HoldsOnly v (Plain (Double w))
    forth false e a i h k = absurd (cc)
    forth true e Bottom i h k = absurd (cc)
    forth true e (Known d) i h k = absurd (cc)
    forth true e Any i h k = absurd (cc)
    forth true e (KnownWide m) i h k =
        let s : m ≡ w = cc in
        record { this = subst (λ n. value_holds v (Plain (Double n))) s h; only = only }
      where
        only : (d : Datum) → value_holds v d → d ≡ Plain (Double w)
        only (Plain (Double n)) g = let t : Double n ≡ Double m = subst (λ a. word_holds a (Double n)) (sym i) g.0 in cc
        only (Plain (Single n)) g = let t : Single n ≡ Double m = subst (λ a. word_holds a (Single n)) (sym i) g.0.0 in absurd (cc)
        only (Object c) g = absurd (no_object v.classes c e g.0)

    back : HoldsOnly v (Plain (Double w)) → known_wide_of v ≡ Some w
    back h = by_set (is_no_set v.classes) refl
      where
        of_word : (a : Word) → a ≡ v.word → AttainsWord v a → word_holds a (Double w) → word_known_wide a ≡ Some w
        of_word Bottom i at g = absurd g
        of_word (KnownWide m) i at g = cc
        of_word (Known d) i at g = absurd (cc)
        of_word Any i at g =
            let t : Plain (Double 0) ≡ Plain (Double w) = h.only (Plain (Double 0)) (subst (λ a. word_holds a (Double 0)) i tt, at) in
            let u : Plain (Double 1) ≡ Plain (Double w) = h.only (Plain (Double 1)) (subst (λ a. word_holds a (Double 1)) i tt, at) in
            let z : Double 0 ≡ Double 1 = cc in
            absurd (omega (arith, double_same 0 1 z))

        by_set : (b : Bool) → is_no_set v.classes ≡ b → (if b then word_known_wide v.word else None) ≡ Some w
        by_set true e = of_word v.word refl r.word h.this.0
        by_set false e = some_object v.classes e (λ c o. let t : Object c ≡ Plain (Double w) = h.only (Object c) (o, r.objects c o) in absurd (cc))

pub known_wide_then : (v : Parts) → IsReduced v → (o : Option ℕ) → true ≡ is_no_set v.classes → o ≡ word_known_wide v.word → (d : ℕ) → (o ≡ Some d) ↔ HoldsOnly v (Plain (Double d))
known_wide_then v r o e k d = subst (λ (o : Option ℕ). (o ≡ Some d) ↔ HoldsOnly v (Plain (Double d))) (sym (k ∙ ap (λ b. if b then word_known_wide v.word else None) e)) (known_wide_exact v r d)

pub known_wide_else : (v : Parts) → IsReduced v → false ≡ is_no_set v.classes → (d : ℕ) → (None ≡ Some d) ↔ HoldsOnly v (Plain (Double d))
known_wide_else v r e d = subst (λ (o : Option ℕ). (o ≡ Some d) ↔ HoldsOnly v (Plain (Double d))) (sym (ap (λ b. if b then word_known_wide v.word else None) e)) (known_wide_exact v r d)

pub classes_listed : (v : Parts) → IsReduced v → (o : Option (Bor (List ℕ))) → option_copied o ≡ v.classes → IfSome o (λ xs. (c : ℕ) → Contains xs.now c ↔ value_holds v (Object (Some c)))
classes_listed v r None e = tt
classes_listed v r (Some xs) e = λ c. (λ h. let s : set_holds v.classes (Some c) = subst (λ o. set_holds o (Some c)) e h in (s, r.objects (Some c) s), λ h. subst (λ o. set_holds o (Some c)) (sym e) h.0)

pub classes_any : (v : Parts) → IsReduced v → (o : Option (Bor (List ℕ))) → option_copied o ≡ v.classes → (o ≡ None) ↔ value_holds v (Object None)
classes_any v r None e = (λ k. let s : set_holds v.classes None = subst (λ o. set_holds o None) e tt in (s, r.objects None s), λ h. refl)
classes_any v r (Some xs) e = (λ k. absurd (cc), λ h. absurd (subst (λ o. set_holds o None) (sym e) h.0))

-- ---- the rank of a widened value

pub widened_value : (x j w : Parts) (ew er en es : Bool) (jw : Word) (jr : Bounds) (jn : Nullness) (js : Option (List ℕ))
    → IsWidened (Within word_holds) word_rank ew jw x.word w.word
    → IsWidened (Within range_holds) range_rank er jr x.interval w.interval
    → IsWidened (Within null_holds) null_rank en jn x.nullness w.nullness
    → IsWidened (Within set_holds) set_rank es js x.classes w.classes
    → IsWidened (Within value_holds) value_rank false j x w
widened_value x j w ew er en es jw jr jn js a b c d = record {
  no_rise = omega (arith, a.no_rise, b.no_rise, c.no_rise, d.no_rise);
  falls = elim a.falls [
    | inr lt ↦ inr (omega (arith, b.no_rise, c.no_rise, d.no_rise))
    | inl fa ↦ elim b.falls [
      | inr lt ↦ inr (omega (arith, a.no_rise, c.no_rise, d.no_rise))
      | inl fb ↦ elim c.falls [
        | inr lt ↦ inr (omega (arith, a.no_rise, b.no_rise, d.no_rise))
        | inl fc ↦ elim d.falls [
          | inr lt ↦ inr (omega (arith, a.no_rise, b.no_rise, c.no_rise))
          | inl fd ↦ inl (within_from_parts w x (record { word = fa; interval = fb; nullness = fc; classes = fd }))
        ]
      ]
    ]
  ];
  tight = λ e. absurd (cc);
}

-- ---- the test of an order, part by part

-- a test that goes on where the one before passed
pub and_then : {P Q : Type 0} (v r s : Bool) → r ≡ true → (IsTrue r ↔ P) → (IsTrue s ↔ Q) → v ≡ s → IsTrue v ↔ (P × Q)
and_then v r s e p q i = (λ t. (p.0 e, q.0 (sym i ∙ t)), λ h. i ∙ q.1 h.1)

pub and_else : {P Q : Type 0} (v r : Bool) → r ≡ false → (IsTrue r ↔ P) → v ≡ r → IsTrue v ↔ (P × Q)
and_else v r e p i = (λ t. let f : false ≡ true = sym e ∙ sym i ∙ t in absurd (cc), λ h. let f : false ≡ true = sym e ∙ p.1 h.0 in absurd (cc))

pub leq_exact : (x y : Parts) (r : Bool) → IsReduced x
    → (IsTrue r ↔ (((Within word_holds x.word y.word × Within range_holds x.interval y.interval) × Within null_holds x.nullness y.nullness) × Within set_holds x.classes y.classes))
    → IsTrue r ↔ Within value_holds x y
leq_exact x y r red e = (
  λ t. let p = e.0 t in within_from_parts x y (record { word = p.0.0.0; interval = p.0.0.1; nullness = p.0.1; classes = p.1 }),
  λ f. let p = parts_from_within x y red f in e.1 (((p.word, p.interval), p.nullness), p.classes),
)
