-- Numbers that differ are no more than those below them.
use Rattle.std.proofs.Common.{◌≡◌, ◌≤◌, ◌<◌, ◌+◌, ℕ, zero, suc, Bool, true, false, List, [], ◌∷◌, length, refl, arith}
use Rattle.std.specs.Prelude.{nat_eq, sum_by}
use Rattle.std.specs.List.{AllByRecursion}
use Rattle.std.proofs.lemmas.Bool.{eqb-true, eqb-false, ne_eqb}
use Rattle.std.proofs.lemmas.List.Sums.{sum_by-cons}
use Rattle.write_laws.proofs.Ascending.{is_at}
use Rattle.written_file.proofs.Sorting.{Differ, Once, once_of}

-- how often each number from one on, so many of them, stands in the list
abbrev counted : List ℕ → ℕ → ℕ → ℕ
counted ns from zero = 0
counted ns from (suc many) = sum_by (is_at from) ns + counted ns (suc from) many

few_counted : (ns : List ℕ) → Once ns → (from many : ℕ) → counted ns from many ≤ many
few_counted ns o from zero = omega arith
few_counted ns o from (suc many) = omega (arith, o from, few_counted ns o (suc from) many)

none_counted : (from many : ℕ) → counted [] from many ≡ 0
none_counted from zero = refl
none_counted from (suc many) = omega (arith, none_counted (suc from) many)

-- one number is counted once
abbrev ones : ℕ → ℕ → ℕ → ℕ
ones n from zero = 0
ones n from (suc many) = is_at from n + ones n (suc from) many

one_more : (n : ℕ) (ns : List ℕ) (from many : ℕ) → counted (n ∷ ns) from many ≡ ones n from many + counted ns from many
one_more n ns from zero = omega arith
one_more n ns from (suc many) = omega (arith, sum_by-cons (is_at from) n ns, one_more n ns (suc from) many)

past : (n from many : ℕ) → n < from → ones n from many ≡ 0
past n from zero lt = refl
past n from (suc many) lt =
    let other : nat_eq from n ≡ false = ne_eqb from n (λ e. absurd (omega (arith, e, lt))) in
    let none : is_at from n ≡ 0 = rw other refl in
    omega (arith, none, past n (suc from) many (omega (arith, lt)))

found : (n from many : ℕ) → from ≤ n → n < from + many → ones n from many ≡ 1
found n from zero le lt = absurd (omega (arith, le, lt))
found n from (suc many) le lt = by_head (nat_eq from n) refl (λ more. found n (suc from) many more (omega (arith, lt)))
  where
    by_head : (t : Bool) → nat_eq from n ≡ t → (suc from ≤ n → ones n (suc from) many ≡ 1) → ones n from (suc many) ≡ 1
    by_head true t on =
        let same : from ≡ n = eqb-true from n t in
        let one : is_at from n ≡ 1 = rw t refl in
        omega (arith, one, past n (suc from) many (omega (arith, same)))
    by_head false t on =
        let none : is_at from n ≡ 0 = rw t refl in
        let other = eqb-false from n t in
        omega (arith, none, on (omega (arith, le, other)))

all_counted : (ns : List ℕ) (many : ℕ) → AllByRecursion (λ n. n < many) ns → counted ns 0 many ≡ length ns
all_counted [] many a = none_counted 0 many
all_counted (n ∷ ns) many a =
    let low : n < many = a.0 in
    omega (arith, one_more n ns 0 many, found n 0 many (omega arith) (omega (arith, low)), all_counted ns many a.1)

pub differ_few : (ns : List ℕ) (many : ℕ) → Differ ns → AllByRecursion (λ n. n < many) ns → length ns ≤ many
differ_few ns many d a = omega (arith, all_counted ns many a, few_counted ns (once_of ns d) 0 many)
