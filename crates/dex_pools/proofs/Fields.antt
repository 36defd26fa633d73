-- Each reading of the tables finds exactly what stands there.
use Rattle.std.proofs.Common.{◌≡◌, ℕ, zero, suc, ◌+◌, ◌-◌, ◌*◌, ◌≤◌, ◌<◌, Bool, true, false, cond, ltb, leb, eqb, List, [], ◌∷◌, length, Result, Ok, Err, Option, Some, None, refl, sym, subst, arith}
use Rattle.std.specs.Prelude.{◌||◌, sum_by}
use Rattle.std.proofs.lemmas.List.Sums.{sum_by-cons}
use Rattle.std.proofs.lemmas.Bool.{lt-ltb, ltb-true, leb-true, le-leb, ne_eqb}
use Rattle.dex_base.specs.Decides.{Each, Entries}
use Rattle.dex_base.specs.Reading.{◌>>=◌, raise}
use Rattle.dex_base.specs.Word.{Is16, Is32, u16_at, u32_at}
use Rattle.dex_base.specs.Leb.{IsUlebAt, uleb_at}
use Rattle.dex_base.specs.Mutf8.{IsTextAt, text_at}
use Rattle.dex_base.proofs.Words.{is_16, is_32}
use Rattle.dex_base.proofs.LebReading.{is_uleb}
use Rattle.dex_base.proofs.Texts.{is_text}
use Rattle.program_model.specs.declared.limits.Counted.{Counted}
use Rattle.program_model.specs.declared.limits.Counted.TheVariants.{TextUnits}
use Rattle.dex_pools.specs.declared.fault.PoolFault.{PoolFault}
use Rattle.dex_pools.specs.declared.fault.PoolFault.TheVariants as fault
use Rattle.dex_pools.specs.declared.fault.Table.{Table}
use Rattle.dex_pools.specs.declared.header.Extent.{Extent}
use Rattle.dex_pools.specs.declared.header.Extents.{Extents}
use Rattle.dex_pools.specs.Fault.{of_base}
use Rattle.dex_pools.specs.Finds.{Finds, RunOf, Ascends}
use Rattle.dex_pools.specs.Run.{run}
use Rattle.dex_pools.specs.Word.{half_at, word_at, number_at, index_at, half_index_at}
use Rattle.dex_pools.specs.Items.{spend, past}
use Rattle.dex_pools.specs.Order.{ascends_from, ascends_in}
use Rattle.dex_pools.specs.Tables.{extent_at, extents_at, begin_of, string_at}
use Rattle.dex_pools.specs.Spelled.{IsIndex, IsHalfIndex, IsExtent, AreExtents, IsBegin, IsString}
use Rattle.dex_base.proofs.Decides.{not_both}
use Rattle.dex_pools.proofs.Finding.{finds, same, pure, guard, then, raised, finds_run}

pub finds_word : (bytes : List ℕ) (at : ℕ) → Finds (Is32 bytes at) (word_at bytes at)
finds_word bytes at = raised of_base (u32_at bytes at) (finds (u32_at bytes at) (is_32 bytes at))

pub finds_half : (bytes : List ℕ) (at : ℕ) → Finds (Is16 bytes at) (half_at bytes at)
finds_half bytes at = raised of_base (u16_at bytes at) (finds (u16_at bytes at) (is_16 bytes at))

pub finds_number : (bytes : List ℕ) (at : ℕ) → Finds (IsUlebAt bytes at) (number_at bytes at)
finds_number bytes at = raised of_base (uleb_at bytes at) (finds (uleb_at bytes at) (is_uleb bytes at))

pub finds_text : (bytes : List ℕ) (at count : ℕ) → Finds (IsTextAt bytes at count) (raise of_base (text_at bytes at count))
finds_text bytes at count = raised of_base (text_at bytes at count) (finds (text_at bytes at count) (is_text bytes at count))

pub finds_index : (bytes : List ℕ) (at size : ℕ) → Finds (IsIndex bytes at size) (index_at bytes at size)
unfolding index_at
finds_index bytes at size = same (index_at bytes at size)
    (then (word_at bytes at) (λ n. cond (ltb n size) (Ok n) (Err (fault.Index at n size))) (finds_word bytes at) (λ n h. guard (ltb n size) n (fault.Index at n size)))
    (λ y p. record { is = subst (λ k. Is32 bytes at k) (sym p.2.1) p.1; below = subst (λ k. k < size) (sym p.2.1) (ltb-true _ _ p.2.0) })
    (λ y p. (y, p.is, (lt-ltb _ _ p.below, refl)))

pub finds_half_index : (bytes : List ℕ) (at size : ℕ) → Finds (IsHalfIndex bytes at size) (half_index_at bytes at size)
unfolding half_index_at
finds_half_index bytes at size = same (half_index_at bytes at size)
    (then (half_at bytes at) (λ n. cond (ltb n size) (Ok n) (Err (fault.Index at n size))) (finds_half bytes at) (λ n h. guard (ltb n size) n (fault.Index at n size)))
    (λ y p. record { is = subst (λ k. Is16 bytes at k) (sym p.2.1) p.1; below = subst (λ k. k < size) (sym p.2.1) (ltb-true _ _ p.2.0) })
    (λ y p. (y, p.is, (lt-ltb _ _ p.below, refl)))

-- so many are left, and what is left behind them
pub record Spends (count left behind : ℕ) : Type 0 where
  pub enough : count ≤ left
  pub rest : behind ≡ left - count

pub finds_spend : (counted : Counted) (count left : ℕ) → Finds (Spends count left) (spend counted count left)
unfolding spend
finds_spend counted count left = same (spend counted count left) (guard (leb count left) (left - count) (past counted))
    (λ y p. record { enough = leb-true _ _ p.0; rest = p.1 }) (λ y p. (le-leb _ _ p.enough, p.rest))

-- entries that each spend something spend the sum
spent : {X : Type 0} (P : ℕ → X → Type 0) (weight : X → ℕ) (from s : ℕ) (xs : List X) (stop : ℕ) → RunOf (λ i s r. P i r.0 × Spends (weight r.0) s r.1) from s xs stop
    → Each P from xs × Spends (sum_by weight xs) s stop
spent P weight from s [] stop h = (tt, record { enough = omega arith; rest = omega (arith, h) })
spent P weight from s (x ∷ xs) stop h =
    let rest = spent P weight (suc from) h.0 xs stop h.2 in
    ((h.1.0, rest.0), record { enough = omega (arith, h.1.1.enough, h.1.1.rest, rest.1.enough, sum_by-cons weight x xs); rest = omega (arith, h.1.1.enough, h.1.1.rest, rest.1.rest, sum_by-cons weight x xs) })

unspent : {X : Type 0} (P : ℕ → X → Type 0) (weight : X → ℕ) (from s : ℕ) (xs : List X) (stop : ℕ) → Each P from xs → Spends (sum_by weight xs) s stop
    → RunOf (λ i s r. P i r.0 × Spends (weight r.0) s r.1) from s xs stop
unspent P weight from s [] stop h g = omega (arith, g.rest)
unspent P weight from s (x ∷ xs) stop h g = (
  s - weight x,
  (h.0, record { enough = omega (arith, g.enough, sum_by-cons weight x xs); rest = refl }),
  unspent P weight (suc from) (s - weight x) xs stop h.1 (record { enough = omega (arith, g.enough, sum_by-cons weight x xs); rest = omega (arith, g.rest, g.enough, sum_by-cons weight x xs) }),
)

-- a table whose entries each spend something
pub finds_spent : {X : Type 0} (P : ℕ → X → Type 0) (weight : X → ℕ) (f : ℕ → ℕ → Result (X × ℕ) PoolFault) → ((i s : ℕ) → Finds (λ r. P i r.0 × Spends (weight r.0) s r.1) (f i s)) → (n s : ℕ)
    → Finds (λ r. Entries n P r.0 × Spends (sum_by weight r.0) s r.1) (run f 0 n s)
finds_spent P weight f d n s = same (run f 0 n s) (finds_run (λ i s r. P i r.0 × Spends (weight r.0) s r.1) f d 0 n s)
    (λ r p. let q = spent P weight 0 s r.0 r.1 p.1 in ((p.0, q.0), q.1))
    (λ r p. (p.0.0, unspent P weight 0 s r.0 r.1 p.0.1 p.1))

-- ---- order

abbrev Behind : {X : Type 0} → (X → X → Bool) → Option X → List X → Type 0
Behind below None xs = Ascends below xs
Behind below (Some x) xs = Ascends below (x ∷ xs)

abbrev unit : Unit {0} → Result (Unit {0}) PoolFault
unit u = Ok u

-- a reading where a test holds
pub checked : {Y F : Type 0} {Is : Y → Type 0} (b : Bool) (read : Result Y F) (e : F) → Finds Is read → Finds (λ y. (b ≡ true) × Is y) (cond b read (Err e))
checked true read e d = same read d (λ y h. (refl, h)) (λ y p. p.1)
checked {Y = Y} {Is = Is} false read e d = record { found = λ y h. absurd (not_both e y h); again = λ y p. absurd cc }

finds_behind : {X : Type 0} (below : X → X → Bool) (table : Table) (before : Option X) (place : ℕ) (xs : List X) → Finds (λ u. Behind below before xs) (ascends_from below table before place xs)
finds_behind below table None place [] = record { found = λ u h. tt; again = λ u h. refl }
finds_behind below table (Some b) place [] = record { found = λ u h. tt; again = λ u h. refl }
finds_behind below table None place (x ∷ xs) = finds_behind below table (Some x) (suc place) xs
finds_behind below table (Some b) place (x ∷ xs) = checked (below b x) (ascends_from below table (Some x) (suc place) xs) (fault.Order table place) (finds_behind below table (Some x) (suc place) xs)

pub finds_ascending : {X : Type 0} (below : X → X → Bool) (table : Table) (xs : List X) → Finds (λ u. Ascends below xs) (ascends_in below table xs)
finds_ascending below table xs = finds_behind below table None 0 xs

-- ---- the header

some_size : (n : ℕ) → 0 < n → eqb n 0 ≡ false
some_size n lt = ne_eqb n 0 (λ e. omega (arith, e, lt))

or_true : (n : ℕ) (b : Bool) → (eqb n 0 || b) ≡ true → 0 < n → b ≡ true
or_true n b h lt = rw (some_size n lt) at h

true_or : (n : ℕ) (b : Bool) → (0 < n → b ≡ true) → (eqb n 0 || b) ≡ true
true_or zero b h = refl
true_or (suc n) b h = rw (some_size (suc n) (omega arith)) (h (omega arith))

abbrev made : ℕ → ℕ → Extent
made size offset = record { size = size; offset = offset }

pub finds_extent : (bytes : List ℕ) (at width : ℕ) → Finds (IsExtent bytes at width) (extent_at bytes at width)
unfolding extent_at
finds_extent bytes at width =
    let room : ℕ → ℕ → Bool = λ size offset. eqb size 0 || leb (offset + width * size) (length bytes) in
    same (extent_at bytes at width)
    (then (word_at bytes at) (λ size. word_at bytes (at + 4) >>= λ offset. cond (room size offset) (Ok (made size offset)) (Err (fault.Short offset))) (finds_word bytes at) (λ size h.
    then (word_at bytes (at + 4)) (λ offset. cond (room size offset) (Ok (made size offset)) (Err (fault.Short offset))) (finds_word bytes (at + 4)) (λ offset g.
    guard (room size offset) (made size offset) (fault.Short offset))))
    (λ y p. rw p.2.2.1 (record { size = p.1; offset = p.2.1; inside = λ lt. leb-true _ _ (or_true p.0 (leb (p.2.0 + width * p.0) (length bytes)) p.2.2.0 lt) }))
    (λ y p. (y.size, p.size, (y.offset, p.offset, (true_or y.size (leb (y.offset + width * y.size) (length bytes)) (λ lt. le-leb _ _ (p.inside lt)), refl))))

pub finds_extents : (bytes : List ℕ) → Finds (AreExtents bytes) (extents_at bytes)
unfolding extents_at
finds_extents bytes =
    let all : Extent → Extent → Extent → Extent → Extent → Extents = λ strings types protos fields methods. record { strings = strings; types = types; protos = protos; fields = fields; methods = methods } in
    same (extents_at bytes)
    (then (extent_at bytes 56 4) (λ strings. extent_at bytes 64 4 >>= λ types. extent_at bytes 72 12 >>= λ protos. extent_at bytes 80 8 >>= λ fields. extent_at bytes 88 8 >>= λ methods. Ok (all strings types protos fields methods)) (finds_extent bytes 56 4) (λ strings _.
    then (extent_at bytes 64 4) (λ types. extent_at bytes 72 12 >>= λ protos. extent_at bytes 80 8 >>= λ fields. extent_at bytes 88 8 >>= λ methods. Ok (all strings types protos fields methods)) (finds_extent bytes 64 4) (λ types _.
    then (extent_at bytes 72 12) (λ protos. extent_at bytes 80 8 >>= λ fields. extent_at bytes 88 8 >>= λ methods. Ok (all strings types protos fields methods)) (finds_extent bytes 72 12) (λ protos _.
    then (extent_at bytes 80 8) (λ fields. extent_at bytes 88 8 >>= λ methods. Ok (all strings types protos fields methods)) (finds_extent bytes 80 8) (λ fields _.
    then (extent_at bytes 88 8) (λ methods. Ok (all strings types protos fields methods)) (finds_extent bytes 88 8) (λ methods _.
    pure (all strings types protos fields methods)))))))
    (λ y p. rw p.2.2.2.2.2 (record { strings = p.1; types = p.2.1; protos = p.2.2.1; fields = p.2.2.2.1; methods = p.2.2.2.2.1 }))
    (λ y p. (y.strings, p.strings, (y.types, p.types, (y.protos, p.protos, (y.fields, p.fields, (y.methods, p.methods, refl))))))

-- ---- strings

pub finds_begin : (bytes : List ℕ) (strings : Extent) (i : ℕ) → Finds (IsBegin bytes strings i) (begin_of bytes strings i)
unfolding begin_of
finds_begin bytes strings i = same (begin_of bytes strings i)
    (then (word_at bytes (strings.offset + 4 * i)) (λ at. number_at bytes at) (finds_word bytes (strings.offset + 4 * i)) (λ at h. finds_number bytes at))
    (λ y p. record { at = p.0; offset = p.1; units = p.2 })
    (λ y p. (p.at, p.offset, p.units))

-- the text of a string, and what it leaves of the units
pub finds_string : (bytes : List ℕ) (strings : Extent) (i left : ℕ) → Finds (λ r. IsString bytes strings i r.0 × Spends (length r.0) left r.1) (string_at bytes strings i left)
unfolding string_at
finds_string bytes strings i left = same (string_at bytes strings i left)
    (then (begin_of bytes strings i) (λ begin. spend TextUnits begin.0 left >>= λ behind. raise of_base (text_at bytes begin.1 begin.0) >>= λ text. Ok (text.0, behind)) (finds_begin bytes strings i) (λ begin _.
    then (spend TextUnits begin.0 left) (λ behind. raise of_base (text_at bytes begin.1 begin.0) >>= λ text. Ok (text.0, behind)) (finds_spend TextUnits begin.0 left) (λ behind _.
    then (raise of_base (text_at bytes begin.1 begin.0)) (λ text. Ok (text.0, behind)) (finds_text bytes begin.1 begin.0) (λ text _.
    pure (text.0, behind)))))
    (λ y p. rw p.2.2.2 (record { begin = p.0; begins = p.1; stop = p.2.2.0.1; is_text = p.2.2.1 }, subst (λ n. Spends n left p.2.0) (sym p.2.2.1.are.counted) p.2.1))
    (λ y p. (p.0.begin, p.0.begins, (y.1, subst (λ n. Spends n left y.1) p.0.is_text.are.counted p.1, ((y.0, p.0.stop), p.0.is_text, refl))))
