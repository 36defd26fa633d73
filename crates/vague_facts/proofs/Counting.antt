-- Counts that rise.
use Rattle.std.proofs.Common.{◌≡◌, ℕ, zero, suc, ◌+◌, ◌<◌, ◌≤◌, List, [], ◌∷◌, length, Some, inl, inr, refl, sym, ap, ◌∙◌, subst, arith}
use Rattle.std.specs.Prelude.{max, slice_get, slice_set, slice_index_or}
use Rattle.std.proofs.lemmas.Bool.{cases_lt}
use Rattle.program_model.specs.declared.body.Body.{Body}
use Rattle.program_model.specs.declared.program.Class.{Class}
use Rattle.program_model.specs.declared.program.Method.{Method}
use Rattle.vague_facts.specs.Counting.{Rises, IsCounted, CountsBody, CountsTo, CountsClasses}

pub same_rises : (xs : List ℕ) → Rises xs xs
same_rises xs = record { long = refl; more = λ n. omega arith }

pub rises_on : (xs ys zs : List ℕ) → Rises xs ys → Rises ys zs → Rises xs zs
rises_on xs ys zs h l = record { long = l.long ∙ h.long; more = λ n. let a = h.more n in let b = l.more n in omega (arith, a, b) }

pub raised : (xs ys : List ℕ) (number count : ℕ) → ys ≡ slice_set xs number (max (slice_index_or xs number 0) count) → Rises xs ys
raised xs ys number count e = subst (Rises xs) (sym e) (record { long = long xs number (max (slice_index_or xs number 0) count); more = λ n. more xs number count n })
  where
    long : (xs : List ℕ) (i v : ℕ) → length (slice_set xs i v) ≡ length xs
    long [] i v = refl
    long (x ∷ xs) zero v = refl
    long (x ∷ xs) (suc i) v = ap suc (long xs i v)

    more : (xs : List ℕ) (i c n : ℕ) → slice_index_or xs n 0 ≤ slice_index_or (slice_set xs i (max (slice_index_or xs i 0) c)) n 0
    more [] i c n = omega arith
    more (x ∷ xs) zero c zero = omega arith
    more (x ∷ xs) zero c (suc n) = omega arith
    more (x ∷ xs) (suc i) c zero = omega arith
    more (x ∷ xs) (suc i) c (suc n) = more xs i c n

at_least : (xs : List ℕ) (i c : ℕ) → i < length xs → c ≤ slice_index_or (slice_set xs i (max (slice_index_or xs i 0) c)) i 0
at_least [] i c lt = absurd (omega (arith, lt))
at_least (x ∷ xs) zero c lt = omega arith
at_least (x ∷ xs) (suc i) c lt = at_least xs i c (omega (arith, lt))

set_long : (xs : List ℕ) (i v : ℕ) → length (slice_set xs i v) ≡ length xs
set_long [] i v = refl
set_long (x ∷ xs) zero v = refl
set_long (x ∷ xs) (suc i) v = ap suc (set_long xs i v)

pub raised_counts : (xs ys : List ℕ) (number count : ℕ) → ys ≡ slice_set xs number (max (slice_index_or xs number 0) count) → number < length ys → count ≤ slice_index_or ys number 0
raised_counts xs ys number count e lt = subst (λ ys. count ≤ slice_index_or ys number 0) (sym e)
    (at_least xs number count (subst (λ n. number < n) (ap length e ∙ set_long xs number (max (slice_index_or xs number 0) count)) lt))

-- what counts still counts where counts rise
pub still_counted : (xs ys : List ℕ) (number : ℕ) (b : Body) → Rises xs ys → IsCounted xs number b → IsCounted ys number b
still_counted xs ys number b r h = record {
  room = h.room;
  long = λ lt. let same = r.long in let m = r.more number in let l = h.long (omega (arith, lt, same)) in omega (arith, m, l);
}

pub still_to : (xs ys : List ℕ) (done : ℕ) (ms : List Method) → Rises xs ys → CountsTo xs done ms → CountsTo ys done ms
still_to xs ys done ms r h i m lt e b f = still_counted xs ys m.name b r (h i m lt e b f)

pub still_classes : (xs ys : List ℕ) (done : ℕ) (cs : List Class) → Rises xs ys → CountsClasses xs done cs → CountsClasses ys done cs
still_classes xs ys done cs r h i c lt e = still_to xs ys (length c.methods) c.methods r (h i c lt e)

-- one more
pub one_method : (xs ys : List ℕ) (done : ℕ) (ms : List Method) (m : Method) → slice_get ms done ≡ Some m → Rises xs ys → CountsBody ys m → CountsTo xs done ms → CountsTo ys (done + 1) ms
one_method xs ys done ms m is r own h i k lt e = elim (cases_lt i done) [
  | inl below ↦ still_to xs ys done ms r h i k below e
  | inr above ↦
      let s : i ≡ done = omega (arith, lt, above) in
      let same : m ≡ k = (let o : Some m ≡ Some k = sym is ∙ subst (λ j. slice_get ms j ≡ Some k) s e in cc) in
      subst (CountsBody ys) same own
]

pub one_class : (xs ys : List ℕ) (done : ℕ) (cs : List Class) (c : Class) → slice_get cs done ≡ Some c → Rises xs ys → CountsTo ys (length c.methods) c.methods → CountsClasses xs done cs → CountsClasses ys (done + 1) cs
one_class xs ys done cs c is r own h i k lt e = elim (cases_lt i done) [
  | inl below ↦ still_classes xs ys done cs r h i k below e
  | inr above ↦
      let s : i ≡ done = omega (arith, lt, above) in
      let same : c ≡ k = (let o : Some c ≡ Some k = sym is ∙ subst (λ j. slice_get cs j ≡ Some k) s e in cc) in
      subst (λ (k : Class). CountsTo ys (length k.methods) k.methods) same own
]

pub none_to : (xs : List ℕ) (ms : List Method) → CountsTo xs 0 ms
none_to xs ms i m lt e = absurd (omega (arith, lt))

pub none_classes : (xs : List ℕ) (cs : List Class) → CountsClasses xs 0 cs
none_classes xs cs i c lt e = absurd (omega (arith, lt))
