-- A join holds of all that its parts hold of.
use Rattle.std.proofs.Common.{◌≡◌, ℕ, zero, suc, ◌+◌, ◌<◌, Bool, true, false, List, [], ◌∷◌, Some, sym, ap, ◌∙◌, subst, arith}
use Rattle.std.specs.Prelude.{cond, fold, slice_get}
use Rattle.std.specs.Int.{w32, cast_signed}
use Rattle.std.specs.List.{filter, range_with_len}
use Rattle.std.proofs.lemmas.Int.{ints}
use Rattle.lemmas.proofs.Options.{none_some, some_same}
use Rattle.program_model.specs.declared.program.Program.{Program}
use Rattle.class_defs.specs.Finding.{Clash, Finds, Nothing, Search}
use Rattle.domains.specs.ClassSets.{set_upper}
use Rattle.domains.specs.Datum.{Datum, Double, Object, Plain, Single, Within}
use Rattle.domains.specs.Nulls.{null_upper}
use Rattle.domains.specs.Ranges.{range_upper}
use Rattle.domains.specs.Values.{any_value, kind_holds, Parts, value_holds, value_joined}
use Rattle.domains.specs.Words.{word_upper}
use Rattle.facts.specs.declared.facts.Facts.{Facts}
use Rattle.const_prop.specs.Given.{found_value}

abbrev pub Under : Parts → Parts → Type 0
Under x y = Within value_holds x y

kind_first : (x y : Parts) (d : Datum) → kind_holds x d → kind_holds (value_joined x y) d
kind_first x y (Plain (Single w)) h = ((word_upper x.word y.word).first (Single w) h.0, (range_upper x.interval y.interval).first (cast_signed w32 w) h.1)
kind_first x y (Plain (Double e)) h = (word_upper x.word y.word).first (Double e) h
kind_first x y (Object c) h = (set_upper x.classes y.classes).first c h

kind_second : (x y : Parts) (d : Datum) → kind_holds y d → kind_holds (value_joined x y) d
kind_second x y (Plain (Single w)) h = ((word_upper x.word y.word).second (Single w) h.0, (range_upper x.interval y.interval).second (cast_signed w32 w) h.1)
kind_second x y (Plain (Double e)) h = (word_upper x.word y.word).second (Double e) h
kind_second x y (Object c) h = (set_upper x.classes y.classes).second c h

pub first_joined : (x y : Parts) → Under x (value_joined x y)
first_joined x y d h = (kind_first x y d h.0, (null_upper x.nullness y.nullness).first d h.1)

pub second_joined : (x y : Parts) → Under y (value_joined x y)
second_joined x y d h = (kind_second x y d h.0, (null_upper x.nullness y.nullness).second d h.1)

pub under_on : (x y z : Parts) → Under x y → Under y z → Under x z
under_on x y z f g d h = g d (f d h)

-- ---- joins along a list

module _ {A : Type 0} (f : Parts → A → Parts) (grows : (v : Parts) (x : A) → Under v (f v x)) where
  pub fold_grows : (xs : List A) (z : Parts) → Under z (fold f z xs)
  fold_grows [] z d h = h
  fold_grows (x ∷ xs) z d h = fold_grows xs (f z x) d (grows z x d h)

  pub fold_reaches : (xs : List A) (z : Parts) (n : ℕ) (x : A) (v : Parts) → slice_get xs n ≡ Some x → ((w : Parts) → Under v (f w x)) → Under v (fold f z xs)
  fold_reaches [] z n x v e h = none_some x e
  fold_reaches (y ∷ xs) z zero x v e h = under_on v (f z y) (fold f (f z y) xs) (subst (λ x. Under v (f z x)) (sym (some_same y x e)) (h z)) (fold_grows xs (f z y))
  fold_reaches (y ∷ xs) z (suc n) x v e h = fold_reaches xs (f z y) n x v e h

-- ---- what passes a test

pub filter_there : {A : Type 0} (t : A → Bool) (xs : List A) (n : ℕ) (x : A) → slice_get xs n ≡ Some x → t x ≡ true → (m : ℕ) × (slice_get (filter t xs) m ≡ Some x)
filter_there t [] n x e i = none_some x e
filter_there {A} t (y ∷ xs) zero x e i = (0, subst (λ b. slice_get (cond b (y ∷ filter t xs) (filter t xs)) 0 ≡ Some x) (sym (subst (λ z. t z ≡ true) (sym (some_same y x e)) i)) e)
filter_there {A} t (y ∷ xs) (suc n) x e i = by (t y) (filter_there t xs n x e i)
  where
    by : (b : Bool) → (m : ℕ) × (slice_get (filter t xs) m ≡ Some x) → (m : ℕ) × (slice_get (cond b (y ∷ filter t xs) (filter t xs)) m ≡ Some x)
    by true r = (suc r.0, r.1)
    by false r = r

pub range_there : (a n k : ℕ) → k < n → slice_get (range_with_len a n) k ≡ Some (a + k)
range_there a zero k l = let f : ⊥ = omega (arith, l) in absurd f
range_there a (suc n) zero l = ap Some (none a)
  where
    none : (a : ℕ) → a ≡ a + 0
    none a = omega arith
range_there a (suc n) (suc k) l = range_there (a + 1) n k (omega (arith, l)) ∙ ap Some (one a k)
  where
    one : (a k : ℕ) → a + 1 + k ≡ a + suc k
    one a k = omega arith

-- ---- any value

any_holds : (d : Datum) → value_holds any_value d
any_holds (Plain (Single w)) = ((tt, (omega (arith, ints), omega (arith, ints))), tt)
any_holds (Plain (Double w)) = (tt, tt)
any_holds (Object c) = (tt, tt)

pub below_any : (x : Parts) → Under x any_value
below_any x d h = any_holds d

-- ---- look-ups

-- what a look-up finds can give no more than a value says, and nothing is known where it finds nothing
abbrev pub Answers : Program → Facts → Parts → Search → Type 0
Answers p t v Nothing = Under any_value v
Answers p t v Clash = Unit {0}
Answers p t v (Finds at) = Under (found_value p t (Some at)) v

-- anything covers every answer
pub any_answers : (p : Program) (t : Facts) (y : Search) → Answers p t any_value y
any_answers p t Nothing = λ d h. h
any_answers p t Clash = tt
any_answers p t (Finds at) = below_any (found_value p t (Some at))
