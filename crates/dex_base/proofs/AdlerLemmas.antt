-- The sums of a checksum, byte after byte and part after part.
use Rattle.std.proofs.Common.{◌≡◌, ℕ, ◌+◌, ◌-◌, ◌*◌, ◌/◌, ◌%◌, ◌<◌, ◌≤◌, List, [], ◌∷◌, ◌++◌, length, get_or, take, sum, refl, sym, ap, ◌∙◌, arith}
use Rattle.std.proofs.lemmas.List.{take_more, length-append}
use Rattle.std.proofs.lemmas.List.Sums.{sum_by-cons, sum_by_push, sum_by-append}
use Rattle.dex_base.specs.Adler.{running_sums, adler_of}

sum-cons : (x : ℕ) (xs : List ℕ) → sum (x ∷ xs) ≡ x + sum xs
sum-cons x xs = sum_by-cons (λ n. n) x xs

sum-push : (xs : List ℕ) (b : ℕ) → sum (xs ++ b ∷ []) ≡ sum xs + b
sum-push xs b = sum_by_push (λ n. n) xs b

sum-append : (xs ys : List ℕ) → sum (xs ++ ys) ≡ sum xs + sum ys
sum-append xs ys = sum_by-append (λ n. n) xs ys

sum-running-append : (start : ℕ) (xs ys : List ℕ) → sum (running_sums start (xs ++ ys)) ≡ sum (running_sums start xs) + sum (running_sums (start + sum xs) ys)
sum-running-append start [] ys =
    let e : start ≡ start + sum [] = omega arith in
    omega (arith, ap (λ (s : ℕ). sum (running_sums s ys)) e)
sum-running-append start (x ∷ xs) ys =
    let e : start + x + sum xs ≡ start + sum (x ∷ xs) = omega (arith, sum-cons x xs) in
    omega (arith, sum-cons (start + x) (running_sums (start + x) (xs ++ ys)), sum-cons (start + x) (running_sums (start + x) xs), sum-running-append (start + x) xs ys, ap (λ (s : ℕ). sum (running_sums s ys)) e)

-- byte after byte
pub record HasSums (first second : ℕ) (part : List ℕ) (i s1 s2 : ℕ) : Type 0 where
  pub one : s1 ≡ first + sum (take i part)
  pub two : s2 ≡ second + sum (running_sums first (take i part))
  pub one_low : s1 ≤ 65520 + 255 * i
  pub two_low : s2 ≤ 65520 + 33554432 * i

pub HasSums-more : (first second : ℕ) (part : List ℕ) (i s1 s2 : ℕ) → HasSums first second part i s1 s2 → i < length part → length part ≤ 65536 → get_or part i 0 < 256
    → HasSums first second part (i + 1) (s1 + get_or part i 0) (s2 + (s1 + get_or part i 0))
HasSums-more first second part i s1 s2 h inside few low =
    let b = get_or part i 0 in
    let e : take (i + 1) part ≡ take i part ++ b ∷ [] = take_more part i 0 inside in
    let r = sum-running-append first (take i part) (b ∷ []) in
    let last : sum (running_sums (first + sum (take i part)) (b ∷ [])) ≡ first + sum (take i part) + b = omega (arith, sum-cons (first + sum (take i part) + b) []) in
    record {
      one = rw (e, sum-push) (omega (arith, h.one));
      two = rw (e, r, last) (omega (arith, h.one, h.two));
      one_low = omega (arith, h.one_low, low);
      two_low = omega (arith, h.two_low, h.one_low, low, inside, few);
    }

-- a start that is higher adds to each sum
sum-running-higher : (more start : ℕ) (ys : List ℕ) → sum (running_sums (more + start) ys) ≡ more * length ys + sum (running_sums start ys)
sum-running-higher more start [] = omega arith
sum-running-higher more start (y ∷ ys) =
    let e : more + start + y ≡ more + (start + y) = omega arith in
    let k : more * length (y ∷ ys) ≡ more + more * length ys = omega arith in
    omega (arith, k, sum-cons (more + start + y) (running_sums (more + start + y) ys), sum-cons (start + y) (running_sums (start + y) ys), ap (λ (s : ℕ). sum (running_sums s ys)) e, sum-running-higher more (start + y) ys)

-- what is left to add to both sums, and the checksum at the end
pub finish : ℕ → ℕ → List ℕ → ℕ
finish s1 s2 rest = (s2 + sum (running_sums s1 rest)) % 65521 * 65536 + (s1 + sum rest) % 65521

pub finish_first : (bytes : List ℕ) → finish 1 0 bytes ≡ adler_of bytes
unfolding finish adler_of
finish_first bytes = omega arith

multiple : (x k : ℕ) → (x + 65521 * k) % 65521 ≡ x % 65521
multiple x k = omega arith

-- sums that were reduced do as well
reduced : (s1 s2 : ℕ) (rest : List ℕ) → finish (s1 % 65521) (s2 % 65521) rest ≡ finish s1 s2 rest
unfolding finish
reduced s1 s2 rest =
    let q = s1 / 65521 in
    let r = s1 % 65521 in
    let s : s1 ≡ 65521 * q + r = omega arith in
    let higher : sum (running_sums s1 rest) ≡ 65521 * q * length rest + sum (running_sums r rest) = ap (λ (n : ℕ). sum (running_sums n rest)) s ∙ sum-running-higher (65521 * q) r rest in
    let k : 65521 * q * length rest ≡ 65521 * (q * length rest) = omega arith in
    let two : (s2 % 65521 + sum (running_sums r rest)) % 65521 ≡ (s2 + sum (running_sums s1 rest)) % 65521 = omega (arith, higher, k, multiple (s2 + sum (running_sums r rest)) (q * length rest)) in
    let one : (r + sum rest) % 65521 ≡ (s1 + sum rest) % 65521 = omega arith in
    omega (arith, one, two)

longer : (s1 s2 : ℕ) (part rest : List ℕ) → finish (s1 + sum part) (s2 + sum (running_sums s1 part)) rest ≡ finish s1 s2 (part ++ rest)
unfolding finish
longer s1 s2 part rest = omega (arith, sum-append part rest, sum-running-append s1 part rest)

pub finish_part : (s1 s2 t1 t2 : ℕ) (part rest : List ℕ) → t1 ≡ (s1 + sum part) % 65521 → t2 ≡ (s2 + sum (running_sums s1 part)) % 65521 → finish t1 t2 rest ≡ finish s1 s2 (part ++ rest)
finish_part s1 s2 t1 t2 part rest one two = rw (one, two) (reduced (s1 + sum part) (s2 + sum (running_sums s1 part)) rest ∙ longer s1 s2 part rest)

-- part after part: the sums are low, and with the rest they give the checksum
pub record HasParts (bytes : List ℕ) (s1 s2 : ℕ) (rest : List ℕ) : Type 0 where
  pub one_low : s1 < 65521
  pub two_low : s2 < 65521
  pub gives : finish s1 s2 rest ≡ adler_of bytes

pub HasParts-none : (bytes : List ℕ) → HasParts bytes 1 0 bytes
HasParts-none bytes = record { one_low = omega arith; two_low = omega arith; gives = finish_first bytes }

pub HasParts-more : (bytes : List ℕ) (s1 s2 t1 t2 : ℕ) (rest part behind : List ℕ) → HasParts bytes s1 s2 rest → part ++ behind ≡ rest → t1 ≡ (s1 + sum part) % 65521 → t2 ≡ (s2 + sum (running_sums s1 part)) % 65521
    → HasParts bytes t1 t2 behind
HasParts-more bytes s1 s2 t1 t2 rest part behind h e one two = record {
  one_low = omega (arith, one);
  two_low = omega (arith, two);
  gives = finish_part s1 s2 t1 t2 part behind one two ∙ ap (finish s1 s2) e ∙ h.gives;
}

pub HasParts-done : (bytes : List ℕ) (s1 s2 t1 t2 : ℕ) (rest : List ℕ) → HasParts bytes s1 s2 rest → t1 ≡ (s1 + sum rest) % 65521 → t2 ≡ (s2 + sum (running_sums s1 rest)) % 65521 → t2 * 65536 + t1 ≡ adler_of bytes
unfolding finish
HasParts-done bytes s1 s2 t1 t2 rest h one two = omega (arith, one, two, h.gives)
