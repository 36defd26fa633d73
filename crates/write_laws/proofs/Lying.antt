-- Items that are written one behind another lie where they are named, kind by kind.
use Rattle.std.proofs.Common.{◌≡◌, ◌≤◌, ◌<◌, ◌+◌, ◌-◌, ◌*◌, ◌%◌, ℕ, zero, suc, Bool, true, false, cond, eqb, ltb, List, [], ◌∷◌, ◌++◌, length, take, drop, replicate, refl, sym, ap, subst, ◌∙◌, length-append, arith, nat_eq, map}
use Rattle.std.proofs.lemmas.Bool.{ne_eqb, lt-ltb}
use Rattle.std.proofs.lemmas.List.Sums.{sum_by-cons}
use Rattle.std.proofs.lemmas.List.{length-replicate, length-map, length-drop, length-take-le}
use Rattle.std.specs.Prelude.{if◌then◌else◌}
use Rattle.std.specs.List.{flat_map, concat, AllByRecursion}
use Rattle.std.specs.Int.{w16, to_le_bytes}
use Rattle.dex_write.specs.Numbers.{words, up, gap, text_offsets, count_some}
use Rattle.dex_write.specs.Sets.{size_of, offset_at, offsets_at, ends_at, counted, lists_of}
use Rattle.dex_write.specs.Lists.{list_text, padded_text, lists_text, list_starts}
use Rattle.dex_defs.specs.Here.{Here, AreZeros}
use Rattle.write_laws.specs.Placing.{entry_texts}
use Rattle.dex_defs.specs.Arranged.{IsNext, IsAt, Nothing, Something, Lie}
use Rattle.write_laws.proofs.Here.{here_left, here_right, here_is, here_same}
use Rattle.write_laws.proofs.Numbers.{words_length, words_append}

-- zeros of no length stand anywhere
pub no_zeros : (bytes : List ℕ) (at : ℕ) (text : List ℕ) → Here bytes at text → AreZeros bytes at at
no_zeros bytes at text h =
    let none : at - at ≡ 0 = omega arith in
    record { order = omega arith; zeros = rw none (here_left bytes at [] text h) }

pub next_here : (at : ℕ) → IsNext 1 at at
next_here at = record { behind = omega arith; near = omega arith; aligned = omega arith }

pub next_four : (at : ℕ) → at % 4 ≡ 0 → IsNext 4 at at
next_four at h = record { behind = omega arith; near = omega arith; aligned = h }

pub up_next : (at : ℕ) → IsNext 4 at (up at)
up_next at = record { behind = omega arith; near = omega arith; aligned = omega arith }

-- the offset of a text that isn't empty
pub some_offset : (n at : ℕ) → 0 < n → at ≡ (if nat_eq n 0 then 0 else at)
some_offset n at lt = let e : eqb n 0 ≡ false = ne_eqb n 0 (λ z. absurd (omega (arith, z, lt))) in rw e refl

pub some_at : (bytes : List ℕ) (align at : ℕ) (text : List ℕ) → 0 < at → 0 < length text → IsNext align at at → Here bytes at text → IsAt bytes align at (if nat_eq (length text) 0 then 0 else at) text (at + length text)
some_at bytes align at text lt some n h = subst (λ o. IsAt bytes align at o text (at + length text)) (some_offset (length text) at some) (Something lt some n (no_zeros bytes at text h) h refl)

-- ---- texts one behind another, anywhere

pub texts_lie : (bytes : List ℕ) (at : ℕ) (texts : List (List ℕ)) → 0 < at → Here bytes at (concat texts) → Lie bytes 1 at (text_offsets at texts) texts (at + length (concat texts))
texts_lie bytes at [] lt h = omega arith
texts_lie bytes at ([] ∷ ts) lt h =
    let same : at + length {A = ℕ} [] ≡ at = omega arith in
    (at, Nothing refl refl refl, subst (λ n. Lie bytes 1 at (text_offsets n ts) ts (at + length (concat ts))) (sym same) (texts_lie bytes at ts lt h))
texts_lie bytes at ((x ∷ xs) ∷ ts) lt h =
    let t : List ℕ = x ∷ xs in
    let here : Here bytes at t = here_left bytes at t (concat ts) h in
    let whole : at + length t + length (concat ts) ≡ at + length (t ++ concat ts) = omega (arith, length-append t (concat ts)) in (
      at + length t,
      some_at bytes 1 at t lt (omega arith) (next_here at) here,
      subst (λ n. Lie bytes 1 (at + length t) (text_offsets (at + length t) ts) ts n) whole (texts_lie bytes (at + length t) ts (omega arith) (here_right bytes at t (concat ts) h)),
    )

-- ---- the same at multiples of four

abbrev pub Fours : List (List ℕ) → Type 0
Fours texts = AllByRecursion (λ t. length t % 4 ≡ 0) texts

pub fours_lie : (bytes : List ℕ) (at : ℕ) (texts : List (List ℕ)) → 0 < at → at % 4 ≡ 0 → Fours texts → Here bytes at (concat texts) → Lie bytes 4 at (text_offsets at texts) texts (at + length (concat texts))
fours_lie bytes at [] lt al f h = omega arith
fours_lie bytes at ([] ∷ ts) lt al f h =
    let same : at + length {A = ℕ} [] ≡ at = omega arith in
    (at, Nothing refl refl refl, subst (λ n. Lie bytes 4 at (text_offsets n ts) ts (at + length (concat ts))) (sym same) (fours_lie bytes at ts lt al f.1 h))
fours_lie bytes at ((x ∷ xs) ∷ ts) lt al f h =
    let t : List ℕ = x ∷ xs in
    let here : Here bytes at t = here_left bytes at t (concat ts) h in
    let whole : at + length t + length (concat ts) ≡ at + length (t ++ concat ts) = omega (arith, length-append t (concat ts)) in
    let four : length t % 4 ≡ 0 = f.0 in (
      at + length t,
      some_at bytes 4 at t lt (omega arith) (next_four at al) here,
      subst (λ n. Lie bytes 4 (at + length t) (text_offsets (at + length t) ts) ts n) whole (fours_lie bytes (at + length t) ts (omega arith) (omega (arith, al, four)) f.1 (here_right bytes at t (concat ts) h)),
    )

-- ---- items behind a gap: the first one stands at the multiple of four

same_next : (a b : ℕ) → a % 4 ≡ 0 → IsNext 4 a b → b ≡ a
same_next a b h n = omega (arith, h, n.behind, n.near, n.aligned)

pub some_more : (o : ℕ) (os : List ℕ) → count_some (suc o ∷ os) ≡ 1 + count_some os
some_more o os =
    let e : ltb 0 (suc o) ≡ true = lt-ltb 0 (suc o) (omega arith) in
    sum_by-cons (λ (x : ℕ). cond (ltb 0 x) 1 0) (suc o) os ∙ ap (λ (b : Bool). cond b 1 0 + count_some os) e

pub none_named : (o : ℕ) (os : List ℕ) → count_some (o ∷ os) ≡ 0 → (o ≡ 0) × (count_some os ≡ 0)
none_named zero os h = (refl, h)
none_named (suc o) os h = absurd (omega (arith, h, some_more o os))

pub none_lie : (bytes : List ℕ) (align at before : ℕ) (offsets : List ℕ) (texts : List (List ℕ)) (to : ℕ) → count_some offsets ≡ 0 → Lie bytes align at offsets texts to → Lie bytes align before offsets texts before
none_lie bytes align at before [] [] to e h = refl
none_lie bytes align at before [] (t ∷ ts) to e h = absurd h
none_lie bytes align at before (o ∷ os) [] to e h = absurd h
none_lie bytes align at before (o ∷ os) (t ∷ ts) to e h =
    let n : (o ≡ 0) × (count_some os ≡ 0) = none_named o os e in
    elim h.1 [
      | Nothing a b c ↦ (before, Nothing a b refl, none_lie bytes align h.0 before os ts to n.1 h.2)
      | Something lt a b c d f ↦ absurd (omega (arith, lt, n.0))
    ]

pub lie_behind : (bytes : List ℕ) (before at : ℕ) (offsets : List ℕ) (texts : List (List ℕ)) (to : ℕ) → IsNext 4 before at → AreZeros bytes before at → (count_some offsets ≡ 0 → ⊥) → Lie bytes 4 at offsets texts to → Lie bytes 4 before offsets texts to
lie_behind bytes before at [] [] to n z some h = absurd (some refl)
lie_behind bytes before at [] (t ∷ ts) to n z some h = absurd h
lie_behind bytes before at (o ∷ os) [] to n z some h = absurd h
lie_behind bytes before at (o ∷ os) (t ∷ ts) to n z some h =
    elim h.1 [
      | Nothing a b c ↦ (before, Nothing a b refl, lie_behind bytes before at os ts to n z (λ e. some (rw (a, e) refl)) (subst (λ m. Lie bytes 4 m os ts to) c h.2))
      | Something lt a b c d f ↦
          let e : o ≡ at = same_next at o n.aligned b in
          (h.0, Something lt a (subst (λ m. IsNext 4 before m) (sym e) n) (subst (λ m. AreZeros bytes before m) (sym e) z) d f, h.2)
    ]

-- ---- lists of offsets

counted_length : (base n : ℕ) (entries : List ℕ) → n ≤ length entries → length (words (counted base n (take n entries))) ≡ size_of n
counted_length base zero entries le = words_length []
counted_length base (suc n) entries le = words_length (suc n ∷ map (λ entry. base + entry) (take (suc n) entries)) ∙ omega (arith, length-map (take (suc n) entries) (λ entry. base + entry), length-take-le (suc n) entries le)

abbrev pub total : List ℕ → ℕ
total [] = 0
total (n ∷ ns) = n + total ns

pub ends_are : (at base : ℕ) (counts entries : List ℕ) → total counts ≤ length entries → ends_at at counts ≡ at + length (words (lists_of base counts entries))
ends_are at base [] entries le = omega (arith, words_length [])
ends_are at base (n ∷ ns) entries le =
    ends_are (at + size_of n) base ns (drop n entries) (omega (arith, le, length-drop n entries))
    ∙ omega (arith, ap length (words_append (counted base n (take n entries)) (lists_of base ns (drop n entries))), length-append (words (counted base n (take n entries))) (words (lists_of base ns (drop n entries))), counted_length base n entries (omega (arith, le)))

no_words : words [] ≡ []
unfolding words
no_words = refl

entry_at : (bytes : List ℕ) (base at n : ℕ) (entries : List ℕ) → 0 < at → at % 4 ≡ 0 → n ≤ length entries → Here bytes at (words (counted base n (take n entries))) → IsAt bytes 4 at (offset_at at n) (words (counted base n (take n entries))) (at + size_of n)
entry_at bytes base at zero entries lt al le h = Nothing refl no_words (omega arith)
entry_at bytes base at (suc n) entries lt al le h =
    let long : length (words (counted base (suc n) (take (suc n) entries))) ≡ 4 + 4 * suc n = counted_length base (suc n) entries le in
    Something lt (omega (arith, long)) (next_four at al) (no_zeros bytes at _ h) h (omega (arith, long))

size_four : (at n : ℕ) → at % 4 ≡ 0 → (at + size_of n) % 4 ≡ 0
size_four at zero h = omega (arith, h)
size_four at (suc n) h = omega (arith, h)

pub entries_lie : (bytes : List ℕ) (base at : ℕ) (counts entries : List ℕ) → 0 < at → at % 4 ≡ 0 → total counts ≤ length entries → Here bytes at (words (lists_of base counts entries)) → Lie bytes 4 at (offsets_at at counts) (entry_texts base counts entries) (ends_at at counts)
entries_lie bytes base at [] entries lt al le h = refl
entries_lie bytes base at (n ∷ ns) entries lt al le h =
    let one : List ℕ = words (counted base n (take n entries)) in
    let rest : List ℕ = words (lists_of base ns (drop n entries)) in
    let both : Here bytes at (one ++ rest) = here_same bytes at _ (one ++ rest) (words_append (counted base n (take n entries)) (lists_of base ns (drop n entries))) h in
    let few : n ≤ length entries = omega (arith, le) in
    let next : Here bytes (at + size_of n) rest = here_is bytes (at + length one) (at + size_of n) rest (omega (arith, counted_length base n entries few)) (here_right bytes at one rest both) in (
      at + size_of n,
      entry_at bytes base at n entries lt al few (here_left bytes at one rest both),
      entries_lie bytes base (at + size_of n) ns (drop n entries) (omega arith) (size_four at n al) (omega (arith, le, length-drop n entries)) next,
    )

-- ---- type lists

list_length : (list : List ℕ) → 0 < length (list_text list)
list_length list = omega (arith, length-append (words (length list ∷ [])) (flat_map (λ kind. to_le_bytes w16 (kind % 65536)) list), words_length (length list ∷ []))

pub lists_lie : (bytes : List ℕ) (at : ℕ) (lists : List (List ℕ)) → 0 < at → Here bytes at (lists_text at lists) → Lie bytes 4 at (list_starts at lists) (map list_text lists) (at + length (lists_text at lists))
lists_lie bytes at [] lt h = omega arith
lists_lie bytes at (list ∷ lists) lt h =
    let pad : List ℕ = replicate (gap at) 0 in
    let rest : List ℕ = lists_text (at + length (padded_text at list)) lists in
    let both : Here bytes at (pad ++ list_text list) = here_left bytes at (padded_text at list) rest h in
    let long : length pad ≡ gap at = length-replicate (gap at) 0 in
    let there : Here bytes (up at) (list_text list) = here_is bytes (at + length pad) (up at) (list_text list) (omega (arith, long)) (here_right bytes at pad (list_text list) both) in
    let size : length (padded_text at list) ≡ gap at + length (list_text list) = length-append pad (list_text list) ∙ omega (arith, long) in
    let same : up at - at ≡ gap at = omega arith in
    let whole : at + length (padded_text at list) + length rest ≡ at + length (padded_text at list ++ rest) = omega (arith, length-append (padded_text at list) rest) in (
      at + length (padded_text at list),
      Something (omega arith) (list_length list) (up_next at) (record { order = omega arith; zeros = rw same (here_left bytes at pad (list_text list) both) }) there (omega (arith, size)),
      subst (λ n. Lie bytes 4 (at + length (padded_text at list)) (list_starts (at + length (padded_text at list)) lists) (map list_text lists) n) whole (lists_lie bytes (at + length (padded_text at list)) lists (omega arith) (here_right bytes at (padded_text at list) rest h)),
    )

-- ---- where nothing is named, nothing stands

pub none_texts : (bytes : List ℕ) (align at before : ℕ) (texts : List (List ℕ)) → 0 < at → count_some (text_offsets at texts) ≡ 0 → Lie bytes align before (text_offsets at texts) texts before
none_texts bytes align at before [] lt e = refl
none_texts bytes align at before ([] ∷ ts) lt e =
    let n : (0 ≡ 0) × (count_some (text_offsets (at + length {A = ℕ} []) ts) ≡ 0) = none_named 0 (text_offsets (at + length {A = ℕ} []) ts) e in
    (before, Nothing refl refl refl, none_texts bytes align (at + length {A = ℕ} []) before ts (omega (arith, lt)) n.1)
none_texts bytes align at before ((x ∷ xs) ∷ ts) lt e =
    let o : ℕ = (if nat_eq (length (x ∷ xs)) 0 then 0 else at) in
    let n : (o ≡ 0) × (count_some (text_offsets (at + length (x ∷ xs)) ts) ≡ 0) = none_named o (text_offsets (at + length (x ∷ xs)) ts) e in
    let s : at ≡ o = some_offset (length (x ∷ xs)) at (omega arith) in
    absurd (omega (arith, lt, s ∙ n.0))

pub none_entries : (bytes : List ℕ) (base at before : ℕ) (counts entries : List ℕ) → count_some counts ≡ 0 → Lie bytes 4 before (offsets_at at counts) (entry_texts base counts entries) before
none_entries bytes base at before [] entries e = refl
none_entries bytes base at before (zero ∷ ns) entries e = (before, Nothing refl no_words refl, none_entries bytes base (at + size_of 0) before ns (drop 0 entries) (none_named 0 ns e).1)
none_entries bytes base at before (suc n ∷ ns) entries e = absurd (omega (arith, e, some_more n ns))

-- and where something is, something stands
pub some_named : (at : ℕ) (counts : List ℕ) → 0 < at → count_some (offsets_at at counts) ≡ 0 → count_some counts ≡ 0
some_named at [] lt e = refl
some_named at (zero ∷ ns) lt e = some_named (at + size_of 0) ns (omega (arith, lt)) e
some_named zero (suc n ∷ ns) lt e = absurd (omega (arith, lt))
some_named (suc at) (suc n ∷ ns) lt e = absurd (omega (arith, e, some_more at (offsets_at (suc at + size_of (suc n)) ns)))

pub none_lists : (bytes : List ℕ) (at before : ℕ) (lists : List (List ℕ)) → length (list_starts at lists) ≡ 0 → Lie bytes 4 before (list_starts at lists) (map list_text lists) before
none_lists bytes at before [] e = refl
none_lists bytes at before (x ∷ xs) e = absurd (omega (arith, e))

-- items end no earlier than they may begin
at_grows : (bytes : List ℕ) (align from offset : ℕ) (text : List ℕ) (stop : ℕ) → IsAt bytes align from offset text stop → from ≤ stop
at_grows bytes align from offset text stop (Nothing a b c) = omega (arith, c)
at_grows bytes align from offset text stop (Something a b c d e f) = omega (arith, c.behind, f)

pub lie_grows : (bytes : List ℕ) (align from : ℕ) (offsets : List ℕ) (texts : List (List ℕ)) (to : ℕ) → Lie bytes align from offsets texts to → from ≤ to
lie_grows bytes align from [] [] to h = omega (arith, h)
lie_grows bytes align from [] (t ∷ ts) to h = absurd h
lie_grows bytes align from (o ∷ os) [] to h = absurd h
lie_grows bytes align from (o ∷ os) (t ∷ ts) to h = omega (arith, at_grows bytes align from o t h.0 h.1, lie_grows bytes align h.0 os ts to h.2)
