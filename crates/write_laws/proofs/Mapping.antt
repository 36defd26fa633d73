-- The map names each kind by how many of its items are named, and by where the first one stands.
use Rattle.std.proofs.Common.{◌≡◌, ◌<◌, ◌+◌, ◌/◌, ◌%◌, ℕ, zero, suc, Bool, true, false, cond, eqb, ltb, List, [], ◌∷◌, length, refl, sym, ap, subst, ◌∙◌, arith, nat_eq}
use Rattle.std.proofs.lemmas.Bool.{ne_eqb, eqb-true, eqb-false, lt-ltb}
use Rattle.std.proofs.lemmas.List.Sums.{sum_by-cons}
use Rattle.std.specs.Prelude.{nat_lt, if◌then◌else◌}
use Rattle.std.specs.List.{count_by}
use Rattle.program_model.specs.declared.pass.Renumber.{Renumber}
use Rattle.program_model.specs.declared.value.Mark.{Mark}
use Rattle.dex_pools.specs.Written.{mark_text}
use Rattle.dex_write.specs.declared.ordered.MethodPart.{MethodPart}
use Rattle.dex_write.specs.Numbers.{up, count_some, text_offsets}
use Rattle.dex_write.specs.Runs.{map_row}
use Rattle.dex_write.specs.Sets.{size_of, offsets_at, mark_starts}
use Rattle.dex_write.specs.Lists.{list_starts, padded_text}
use Rattle.dex_write.specs.Codes.{count_codes, count_lines}
use Rattle.dex_defs.specs.Valid.{thirds}
use Rattle.dex_defs.specs.Arranged.{named, first_row, row_of}
use Rattle.write_laws.specs.Placing.{code_offsets, line_offsets}
use Rattle.write_laws.proofs.Lying.{some_more, some_offset}

-- how many are named, and that the first one stands at a place
pub record Begins (at count : ℕ) (offsets : List ℕ) : Type 0 where
  pub many : length (named offsets) ≡ count
  pub first : (o : ℕ) (os : List ℕ) → named offsets ≡ o ∷ os → o ≡ at

pub begins_row : (code at count : ℕ) (offsets : List ℕ) → Begins at count offsets → map_row code count at ≡ row_of code offsets
begins_row code at count offsets b = by_named (named offsets) refl
  where
    by_named : (os : List ℕ) → named offsets ≡ os → map_row code count at ≡ first_row code (named offsets)
    by_named [] e =
        let none : eqb count 0 ≡ true = rw (← b.many, e) refl in
        rw (none, e) refl
    by_named (o ∷ os) e =
        let size : length (o ∷ os) ≡ count = sym (ap length e) ∙ b.many in
        let some : eqb count 0 ≡ false = ne_eqb count 0 (λ z. absurd (omega (arith, z, size))) in
        rw (some, e, b.first o os e) (ap (λ (n : ℕ). code ∷ n ∷ at ∷ []) (sym size))

pub none_begins : (at : ℕ) → Begins at 0 []
none_begins at = record { many = refl; first = λ o os e. absurd (no o os e) }
  where
    no : (o : ℕ) (os : List ℕ) → named [] ≡ o ∷ os → ⊥
    no o os e = grind (arith, e)

head_is : (a b : ℕ) (xs ys : List ℕ) → a ∷ xs ≡ b ∷ ys → b ≡ a
head_is a b xs ys e = cc

-- one more in front
first_some : (at o count : ℕ) (os : List ℕ) → o ≡ at → 0 < at → length (named os) ≡ count → Begins at (suc count) (o ∷ os)
first_some at zero count os e lt h = absurd (omega (arith, e, lt))
first_some at (suc o) count os e lt h = record { many = ap suc h; first = λ a more k. head_is (suc o) a (named os) more k ∙ e }

first_none : (at o count : ℕ) (os : List ℕ) → o ≡ 0 → Begins at count os → Begins at count (o ∷ os)
first_none at zero count os e b = record { many = b.many; first = b.first }
first_none at (suc o) count os e b = absurd (omega (arith, e))

pub many_named : (offsets : List ℕ) → length (named offsets) ≡ count_some offsets
many_named [] = refl
many_named (zero ∷ os) = many_named os
many_named (suc o ∷ os) = ap suc (many_named os) ∙ omega (arith, some_more o os)

by_count : (at count : ℕ) (offsets : List ℕ) → Begins at count offsets → Begins at (count_some offsets) offsets
by_count at count offsets b = record { many = many_named offsets; first = b.first }

-- ---- the kinds

texts_begin_with : (at : ℕ) (texts : List (List ℕ)) → 0 < at → Begins at (length (named (text_offsets at texts))) (text_offsets at texts)
texts_begin_with at [] lt = none_begins at
texts_begin_with at ([] ∷ ts) lt =
    let same : at + length {A = ℕ} [] ≡ at = omega arith in
    subst (λ n. Begins at (length (named (text_offsets n ts))) (0 ∷ text_offsets n ts)) (sym same) (first_none at 0 _ (text_offsets at ts) refl (texts_begin_with at ts lt))
texts_begin_with at ((x ∷ xs) ∷ ts) lt =
    let o : ℕ = (if nat_eq (length (x ∷ xs)) 0 then 0 else at) in
    let e : at ≡ o = some_offset (length (x ∷ xs)) at (omega arith) in
    let b : Begins at (suc (length (named (text_offsets (at + length (x ∷ xs)) ts)))) (o ∷ text_offsets (at + length (x ∷ xs)) ts) = first_some at o _ (text_offsets (at + length (x ∷ xs)) ts) (sym e) lt refl in
    record { many = refl; first = b.first }

pub texts_begin : (at : ℕ) (texts : List (List ℕ)) → 0 < at → Begins at (count_some (text_offsets at texts)) (text_offsets at texts)
texts_begin at texts lt = by_count at _ (text_offsets at texts) (texts_begin_with at texts lt)

entries_begin_with : (at : ℕ) (counts : List ℕ) → 0 < at → Begins at (count_some counts) (offsets_at at counts)
entries_begin_with at [] lt = none_begins at
entries_begin_with at (zero ∷ ns) lt =
    let same : at + size_of 0 ≡ at = omega arith in
    subst (λ n. Begins at (count_some (0 ∷ ns)) (0 ∷ offsets_at n ns)) (sym same) (first_none at 0 _ (offsets_at at ns) refl (entries_begin_with at ns lt))
entries_begin_with at (suc n ∷ ns) lt =
    let more : Begins (at + size_of (suc n)) (count_some ns) (offsets_at (at + size_of (suc n)) ns) = entries_begin_with (at + size_of (suc n)) ns (omega (arith, lt)) in
    let b : Begins at (suc (count_some ns)) (at ∷ offsets_at (at + size_of (suc n)) ns) = first_some at at _ (offsets_at (at + size_of (suc n)) ns) refl lt more.many in
    let c : suc (count_some ns) ≡ count_some (suc n ∷ ns) = omega (arith, some_more n ns) in
    subst (λ k. Begins at k (at ∷ offsets_at (at + size_of (suc n)) ns)) c b

pub entries_begin : (at : ℕ) (counts : List ℕ) → 0 < at → Begins at (count_some counts) (offsets_at at counts)
entries_begin at counts lt = entries_begin_with at counts lt

all_named : (at : ℕ) (lists : List (List ℕ)) → 0 < at → length (named (list_starts at lists)) ≡ length (list_starts at lists)
all_named at [] lt = refl
all_named at (list ∷ lists) lt = one_more (up at) (list_starts (at + length (padded_text at list)) lists) (omega (arith, lt)) (all_named (at + length (padded_text at list)) lists (omega (arith, lt)))
  where
    one_more : (o : ℕ) (os : List ℕ) → 0 < o → length (named os) ≡ length os → length (named (o ∷ os)) ≡ suc (length os)
    one_more zero os lt h = absurd (omega (arith, lt))
    one_more (suc o) os lt h = ap suc h

pub lists_begin : (at : ℕ) (lists : List (List ℕ)) → 0 < at → at % 4 ≡ 0 → Begins at (length (list_starts at lists)) (list_starts at lists)
lists_begin at [] lt al = none_begins at
lists_begin at (list ∷ lists) lt al = first_some at (up at) _ (list_starts (at + length (padded_text at list)) lists) (omega (arith, al)) lt (all_named (at + length (padded_text at list)) lists (omega (arith, lt)))

starts_named : (r : Renumber) (at : ℕ) (ms : List Mark) → 0 < at → length (named (mark_starts r at ms)) ≡ length (mark_starts r at ms)
starts_named r at [] lt = refl
starts_named r zero (m ∷ ms) lt = absurd (omega (arith, lt))
starts_named r (suc at) (m ∷ ms) lt = ap suc (starts_named r (suc at + length (mark_text r m)) ms (omega arith))

pub marks_begin : (r : Renumber) (at : ℕ) (ms : List Mark) → 0 < at → Begins at (length (mark_starts r at ms)) (mark_starts r at ms)
marks_begin r at [] lt = none_begins at
marks_begin r at (m ∷ ms) lt = first_some at at _ (mark_starts r (at + length (mark_text r m)) ms) refl lt (starts_named r (at + length (mark_text r m)) ms (omega (arith, lt)))

-- code and debug items: one more, by whether it is empty
count_one : (k : MethodPart → ℕ) (m : MethodPart) (ms : List MethodPart) (none : Bool) → nat_eq (k m) 0 ≡ none → count_by (λ m. nat_lt 0 (k m)) (m ∷ ms) ≡ (if none then count_by (λ m. nat_lt 0 (k m)) ms else suc (count_by (λ m. nat_lt 0 (k m)) ms))
count_one k m ms true e =
    let z : k m ≡ 0 = eqb-true (k m) 0 e in
    let none : ltb 0 (k m) ≡ false = rw z refl in
    sum_by-cons (λ m. cond (ltb 0 (k m)) 1 0) m ms ∙ ap (λ (b : Bool). cond b 1 0 + count_by (λ m. nat_lt 0 (k m)) ms) none ∙ omega arith
count_one k m ms false e =
    let lt : 0 < k m = positive (k m) (eqb-false (k m) 0 e) in
    let some : ltb 0 (k m) ≡ true = lt-ltb 0 (k m) lt in
    sum_by-cons (λ m. cond (ltb 0 (k m)) 1 0) m ms ∙ ap (λ (b : Bool). cond b 1 0 + count_by (λ m. nat_lt 0 (k m)) ms) some ∙ omega arith
  where
    positive : (n : ℕ) → (n ≡ 0 → ⊥) → 0 < n
    positive zero h = absurd (h refl)
    positive (suc n) h = omega arith

code_one : (at : ℕ) (m : MethodPart) (ms : List MethodPart) (none : Bool) → nat_eq (length m.code) 0 ≡ none → 0 < at → at % 4 ≡ 0 → Begins at (count_codes ms) (code_offsets at ms) → length (named (code_offsets (up at + length m.code) ms)) ≡ count_codes ms → Begins at (count_codes (m ∷ ms)) (code_offsets at (m ∷ ms))
code_one at m ms true e lt al same other =
    rw (count_one (λ m. length m.code) m ms true e, e) (first_none at 0 (count_codes ms) (code_offsets at ms) refl same)
code_one at m ms false e lt al same other =
    rw (count_one (λ m. length m.code) m ms false e, e) (first_some at (up at) (count_codes ms) (code_offsets (up at + length m.code) ms) (omega (arith, al)) lt other)

code_count_one : (at : ℕ) (m : MethodPart) (ms : List MethodPart) (none : Bool) → nat_eq (length m.code) 0 ≡ none → 0 < at → ((at : ℕ) → 0 < at → length (named (code_offsets at ms)) ≡ count_codes ms) → length (named (code_offsets at (m ∷ ms))) ≡ count_codes (m ∷ ms)
code_count_one at m ms true e lt more = rw (count_one (λ m. length m.code) m ms true e, e) (more at lt)
code_count_one at m ms false e lt more = rw (count_one (λ m. length m.code) m ms false e, e) (counted (up at) (code_offsets (up at + length m.code) ms) (count_codes ms) (omega (arith, lt)) (more (up at + length m.code) (omega (arith, lt))))
  where
    counted : (o : ℕ) (os : List ℕ) (n : ℕ) → 0 < o → length (named os) ≡ n → length (named (o ∷ os)) ≡ suc n
    counted zero os n lt h = absurd (omega (arith, lt))
    counted (suc o) os n lt h = ap suc h

codes_counted : (ms : List MethodPart) (at : ℕ) → 0 < at → length (named (code_offsets at ms)) ≡ count_codes ms
codes_counted [] at lt = refl
codes_counted (m ∷ ms) at lt = code_count_one at m ms (nat_eq (length m.code) 0) refl lt (codes_counted ms)

pub codes_begin : (at : ℕ) (ms : List MethodPart) → 0 < at → at % 4 ≡ 0 → Begins at (count_codes ms) (code_offsets at ms)
codes_begin at [] lt al = none_begins at
codes_begin at (m ∷ ms) lt al = code_one at m ms (nat_eq (length m.code) 0) refl lt al (codes_begin at ms lt al) (codes_counted ms (up at + length m.code) (omega (arith, lt)))

line_one : (at : ℕ) (m : MethodPart) (ms : List MethodPart) (none : Bool) → nat_eq (length m.lines) 0 ≡ none → 0 < at → Begins at (count_lines ms) (line_offsets at ms) → length (named (line_offsets (at + length m.lines) ms)) ≡ count_lines ms → Begins at (count_lines (m ∷ ms)) (line_offsets at (m ∷ ms))
line_one at m ms true e lt same other =
    let z : length m.lines ≡ 0 = eqb-true (length m.lines) 0 e in
    let stay : at + length m.lines ≡ at = omega (arith, z) in
    rw (count_one (λ m. length m.lines) m ms true e, e) (first_none at 0 (count_lines ms) (line_offsets (at + length m.lines) ms) refl (subst (λ n. Begins at (count_lines ms) (line_offsets n ms)) (sym stay) same))
line_one at m ms false e lt same other =
    rw (count_one (λ m. length m.lines) m ms false e, e) (first_some at at (count_lines ms) (line_offsets (at + length m.lines) ms) refl lt other)

line_count_one : (at : ℕ) (m : MethodPart) (ms : List MethodPart) (none : Bool) → nat_eq (length m.lines) 0 ≡ none → 0 < at → length (named (line_offsets (at + length m.lines) ms)) ≡ count_lines ms → length (named (line_offsets at (m ∷ ms))) ≡ count_lines (m ∷ ms)
line_count_one at m ms true e lt more = rw (count_one (λ m. length m.lines) m ms true e, e) more
line_count_one at m ms false e lt more = rw (count_one (λ m. length m.lines) m ms false e, e) (counted at (line_offsets (at + length m.lines) ms) (count_lines ms) lt more)
  where
    counted : (o : ℕ) (os : List ℕ) (n : ℕ) → 0 < o → length (named os) ≡ n → length (named (o ∷ os)) ≡ suc n
    counted zero os n lt h = absurd (omega (arith, lt))
    counted (suc o) os n lt h = ap suc h

lines_counted : (ms : List MethodPart) (at : ℕ) → 0 < at → length (named (line_offsets at ms)) ≡ count_lines ms
lines_counted [] at lt = refl
lines_counted (m ∷ ms) at lt = line_count_one at m ms (nat_eq (length m.lines) 0) refl lt (lines_counted ms (at + length m.lines) (omega (arith, lt)))

pub lines_begin : (at : ℕ) (ms : List MethodPart) → 0 < at → Begins at (count_lines ms) (line_offsets at ms)
lines_begin at [] lt = none_begins at
lines_begin at (m ∷ ms) lt = line_one at m ms (nat_eq (length m.lines) 0) refl lt (lines_begin at ms lt) (lines_counted ms (at + length m.lines) (omega (arith, lt)))

-- ---- three numbers an entry

pub thirds_are : (ns : List ℕ) → thirds ns ≡ length ns / 3
thirds_are [] = omega arith
thirds_are (a ∷ []) = omega arith
thirds_are (a ∷ b ∷ []) = omega arith
thirds_are (a ∷ b ∷ c ∷ ns) = omega (arith, thirds_are ns)
