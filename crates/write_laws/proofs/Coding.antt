-- Code items, debug items and annotations that are written one behind another lie where they are named.
use Rattle.std.proofs.Common.{◌≡◌, ◌≤◌, ◌<◌, ◌+◌, ◌-◌, ◌⊎◌, inl, inr, ℕ, zero, suc, Bool, true, false, cond, ltb, List, [], ◌∷◌, ◌++◌, length, take, drop, replicate, refl, sym, ap, subst, ◌∙◌, append_assoc, length-append, arith, nat_eq, map}
use Rattle.std.proofs.lemmas.List.{length-replicate, length-drop, length-take-le}
use Rattle.std.specs.Prelude.{nat_lt, if◌then◌else◌}
use Rattle.std.specs.List.{flat_map, AllByRecursion, count_by}
use Rattle.std.proofs.lemmas.Bool.{lt-ltb, eqb-true}
use Rattle.std.proofs.lemmas.List.Sums.{sum_by-cons}
use Rattle.program_model.specs.declared.pass.Renumber.{Renumber}
use Rattle.program_model.specs.declared.value.Mark.{Mark}
use Rattle.dex_pools.specs.Written.{mark_text}
use Rattle.dex_write.specs.declared.ordered.MethodPart.{MethodPart}
use Rattle.dex_write.specs.Numbers.{words, up, gap, count_some}
use Rattle.dex_write.specs.Sets.{mark_starts}
use Rattle.dex_write.specs.Codes.{code_offset, code_behind, codes_behind, debug_offset, with_debug, code_text, codes_text, lines_behind, count_codes, count_lines}
use Rattle.dex_defs.specs.Here.{Here}
use Rattle.write_laws.specs.Placing.{item_text, item_texts, code_offsets, line_offsets}
use Rattle.dex_defs.specs.Arranged.{IsAt, Nothing, Something, Lie}
use Rattle.write_laws.proofs.Here.{here_left, here_right, here_is, here_same}
use Rattle.write_laws.proofs.Numbers.{words_length}
use Rattle.write_laws.proofs.Lying.{no_zeros, next_here, up_next, some_at, none_named}

-- a code item has at least the 12 bytes up to its debug offset and behind it
abbrev pub IsWhole : MethodPart → Type 0
IsWhole m = (m.code ≡ []) ⊎ (12 ≤ length m.code)

abbrev pub AreWhole : List MethodPart → Type 0
AreWhole ms = AllByRecursion IsWhole ms

pub debug_length : (debug : ℕ) (code : List ℕ) → 12 ≤ length code → length (with_debug debug code) ≡ length code
unfolding with_debug
debug_length debug code le = omega (arith, le, length-append (take 8 code) (words (debug ∷ []) ++ drop 12 code), length-append (words (debug ∷ [])) (drop 12 code), words_length (debug ∷ []), length-take-le 8 code (omega (arith, le)), length-drop 12 code)

-- what one method's code is, by whether it has any
data Coded (at debug : ℕ) (m : MethodPart) : Type 0 where
  Bare : code_offset at m ≡ 0 → item_text debug m ≡ [] → code_text at debug m ≡ [] → code_behind at m ≡ at → Coded at debug m
  Full : code_offset at m ≡ up at → item_text debug m ≡ with_debug debug m.code → code_text at debug m ≡ replicate (gap at) 0 ++ with_debug debug m.code → code_behind at m ≡ up at + length m.code → length (with_debug debug m.code) ≡ length m.code → 12 ≤ length m.code → Coded at debug m

coded : (at debug : ℕ) (m : MethodPart) (none : Bool) → nat_eq (length m.code) 0 ≡ none → IsWhole m → Coded at debug m
coded at debug m true e w = Bare (rw e refl) (rw e refl) (rw e refl) (rw e refl)
coded at debug m false e (inl z) = absurd (no (ap length z))
  where
    no : length m.code ≡ 0 → ⊥
    no k = grind (arith, e, k)
coded at debug m false e (inr le) = Full (rw e refl) (rw e refl) (rw e refl) (rw e refl) (debug_length debug m.code le) le

record OneCode (bytes : List ℕ) (at debug : ℕ) (m : MethodPart) (rest : List ℕ) : Type 0 where
  lies : IsAt bytes 4 at (code_offset at m) (item_text debug m) (code_behind at m)
  behind : Here bytes (code_behind at m) rest
  long : at + length (code_text at debug m) ≡ code_behind at m

one_code : (bytes : List ℕ) (at debug : ℕ) (m : MethodPart) (rest : List ℕ) → 0 < at → Coded at debug m → Here bytes at (code_text at debug m ++ rest) → OneCode bytes at debug m rest
one_code bytes at debug m rest lt (Bare a b c d) h = record { lies = Nothing a b d; behind = rw d (subst (λ (l : List ℕ). Here bytes at (l ++ rest)) c h); long = rw (c, d) (omega arith) }
one_code bytes at debug m rest lt (Full a b c d same le) h =
    let pad : List ℕ = replicate (gap at) 0 in
    let code : List ℕ = with_debug debug m.code in
    let whole : Here bytes at (pad ++ (code ++ rest)) = here_same bytes at ((pad ++ code) ++ rest) (pad ++ (code ++ rest)) (append_assoc pad code rest) (subst (λ (l : List ℕ). Here bytes at (l ++ rest)) c h) in
    let padded : length pad ≡ gap at = length-replicate (gap at) 0 in
    let there : Here bytes (up at) (code ++ rest) = here_is bytes (at + length pad) (up at) (code ++ rest) (omega (arith, padded)) (here_right bytes at pad (code ++ rest) whole) in
    let here : Here bytes (up at) code = here_left bytes (up at) code rest there in
    let gapped : up at - at ≡ gap at = omega arith in
    record {
      lies = rw (a, b, d) (Something (omega arith) (omega (arith, same, le)) (up_next at) (record { order = omega arith; zeros = rw gapped (here_left bytes at pad (code ++ rest) whole) }) here (omega (arith, same)));
      behind = rw d (here_is bytes (up at + length code) (up at + length m.code) rest (omega (arith, same)) (here_right bytes (up at) code rest there));
      long = rw (c, d) (omega (arith, length-append pad code, padded, same));
    }

coded_grows : (at debug : ℕ) (m : MethodPart) → Coded at debug m → at ≤ code_behind at m
coded_grows at debug m (Bare a b c d) = omega (arith, d)
coded_grows at debug m (Full a b c d same le) = omega (arith, d)

pub codes_lie : (bytes : List ℕ) (at lines_at : ℕ) (ms : List MethodPart) → 0 < at → AreWhole ms → Here bytes at (codes_text at lines_at ms) → Lie bytes 4 at (code_offsets at ms) (item_texts lines_at ms) (codes_behind at ms)
codes_lie bytes at lines_at [] lt w h = refl
codes_lie bytes at lines_at (m ∷ ms) lt w h =
    let debug : ℕ = debug_offset lines_at m in
    let is : Coded at debug m = coded at debug m (nat_eq (length m.code) 0) refl w.0 in
    let one : OneCode bytes at debug m (codes_text (code_behind at m) (lines_at + length m.lines) ms) = one_code bytes at debug m (codes_text (code_behind at m) (lines_at + length m.lines) ms) lt is h in
    let more : 0 < code_behind at m = omega (arith, lt, coded_grows at debug m is) in
    (code_behind at m, one.lies, codes_lie bytes (code_behind at m) (lines_at + length m.lines) ms more w.1 one.behind)

-- ---- debug items

one_line : (bytes : List ℕ) (at : ℕ) (lines : List ℕ) → 0 < at → Here bytes at lines → IsAt bytes 1 at (if nat_eq (length lines) 0 then 0 else at) lines (at + length lines)
one_line bytes at [] lt h = Nothing refl refl (omega arith)
one_line bytes at (x ∷ xs) lt h = some_at bytes 1 at (x ∷ xs) lt (omega arith) (next_here at) h

pub lines_lie : (bytes : List ℕ) (at : ℕ) (ms : List MethodPart) → 0 < at → Here bytes at (flat_map (λ m. m.lines) ms) → Lie bytes 1 at (line_offsets at ms) (map (λ m. m.lines) ms) (lines_behind at ms)
lines_lie bytes at [] lt h = refl
lines_lie bytes at (m ∷ ms) lt h =
    let rest : List ℕ = flat_map (λ m. m.lines) ms in
    (at + length m.lines, one_line bytes at m.lines lt (here_left bytes at m.lines rest h), lines_lie bytes (at + length m.lines) ms (omega (arith, lt)) (here_right bytes at m.lines rest h))

-- ---- annotations

abbrev pub starts_from : Renumber → ℕ → List Mark → List ℕ
starts_from r at ms = mark_starts r at ms

abbrev pub marks_behind : Renumber → ℕ → List Mark → ℕ
marks_behind r at [] = at
marks_behind r at (m ∷ ms) = marks_behind r (at + length (mark_text r m)) ms

mark_length : (r : Renumber) (m : Mark) → 0 < length (mark_text r m)
mark_length r m = omega arith

pub marks_lie : (bytes : List ℕ) (r : Renumber) (at : ℕ) (ms : List Mark) → 0 < at → Here bytes at (flat_map (mark_text r) ms) → Lie bytes 1 at (mark_starts r at ms) (map (mark_text r) ms) (marks_behind r at ms)
marks_lie bytes r at [] lt h = refl
marks_lie bytes r at (m ∷ ms) lt h =
    let one : List ℕ = mark_text r m in
    let rest : List ℕ = flat_map (mark_text r) ms in
    let here : Here bytes at one = here_left bytes at one rest h in
    (at + length one, Something lt (mark_length r m) (next_here at) (no_zeros bytes at one here) here refl, marks_lie bytes r (at + length one) ms (omega (arith, lt)) (here_right bytes at one rest h))

-- annotations are first placed behind 0, and their place is added when it is known
pub starts_move : (r : Renumber) (base at : ℕ) (ms : List Mark) → map (λ start. base + start) (mark_starts r at ms) ≡ mark_starts r (base + at) ms
starts_move r base at [] = refl
starts_move r base at (m ∷ ms) =
    let one : base + (at + length (mark_text r m)) ≡ base + at + length (mark_text r m) = omega arith in
    ap (λ (l : List ℕ). (base + at) ∷ l) (starts_move r base (at + length (mark_text r m)) ms ∙ ap (λ n. mark_starts r n ms) one)

-- ---- where nothing is named, nothing stands

count_step : (n : ℕ) (ms : List MethodPart) (k : MethodPart → ℕ) (m : MethodPart) → k m ≡ n → count_by (λ m. nat_lt 0 (k m)) (m ∷ ms) ≡ 0 → (n ≡ 0) × (count_by (λ m. nat_lt 0 (k m)) ms ≡ 0)
count_step zero ms k m e h =
    let none : ltb 0 (k m) ≡ false = rw e refl in
    (refl, sym (sum_by-cons (λ m. cond (ltb 0 (k m)) 1 0) m ms ∙ ap (λ (b : Bool). cond b 1 0 + count_by (λ m. nat_lt 0 (k m)) ms) none ∙ omega arith) ∙ h)
count_step (suc n) ms k m e h =
    let some : ltb 0 (k m) ≡ true = lt-ltb 0 (k m) (omega (arith, e)) in
    let two : count_by (λ m. nat_lt 0 (k m)) (m ∷ ms) ≡ 1 + count_by (λ m. nat_lt 0 (k m)) ms = sum_by-cons (λ m. cond (ltb 0 (k m)) 1 0) m ms ∙ ap (λ (b : Bool). cond b 1 0 + count_by (λ m. nat_lt 0 (k m)) ms) some in
    absurd (omega (arith, h, two))

bare_code : (bytes : List ℕ) (at debug before : ℕ) (m : MethodPart) → length m.code ≡ 0 → IsAt bytes 4 before (code_offset at m) (item_text debug m) before
bare_code bytes at debug before m e = Nothing (rw e refl) (rw e refl) refl

pub none_coded : (bytes : List ℕ) (at lines_at before : ℕ) (ms : List MethodPart) → count_codes ms ≡ 0 → Lie bytes 4 before (code_offsets at ms) (item_texts lines_at ms) before
none_coded bytes at lines_at before [] e = refl
none_coded bytes at lines_at before (m ∷ ms) e =
    let n : (length m.code ≡ 0) × (count_codes ms ≡ 0) = count_step (length m.code) ms (λ m. length m.code) m refl e in
    (before, bare_code bytes at (debug_offset lines_at m) before m n.0, none_coded bytes (code_behind at m) (lines_at + length m.lines) before ms n.1)

bare_lines : (bytes : List ℕ) (at before : ℕ) (lines : List ℕ) → length lines ≡ 0 → IsAt bytes 1 before (if nat_eq (length lines) 0 then 0 else at) lines before
bare_lines bytes at before [] e = Nothing refl refl refl
bare_lines bytes at before (x ∷ xs) e = absurd (omega (arith, e))

pub none_lined : (bytes : List ℕ) (at before : ℕ) (ms : List MethodPart) → count_lines ms ≡ 0 → Lie bytes 1 before (line_offsets at ms) (map (λ m. m.lines) ms) before
none_lined bytes at before [] e = refl
none_lined bytes at before (m ∷ ms) e =
    let n : (length m.lines ≡ 0) × (count_lines ms ≡ 0) = count_step (length m.lines) ms (λ m. length m.lines) m refl e in
    (before, bare_lines bytes at before m.lines n.0, none_lined bytes (at + length m.lines) before ms n.1)

-- ---- how long code and lines are

pub codes_length : (at lines_at : ℕ) (ms : List MethodPart) → AreWhole ms → at + length (codes_text at lines_at ms) ≡ codes_behind at ms
codes_length at lines_at [] w = omega arith
codes_length at lines_at (m ∷ ms) w =
    let debug : ℕ = debug_offset lines_at m in
    let one : at + length (code_text at debug m) ≡ code_behind at m = code_length at debug m (coded at debug m (nat_eq (length m.code) 0) refl w.0) in
    omega (arith, one, length-append (code_text at debug m) (codes_text (code_behind at m) (lines_at + length m.lines) ms), codes_length (code_behind at m) (lines_at + length m.lines) ms w.1)
  where
    code_length : (at debug : ℕ) (m : MethodPart) → Coded at debug m → at + length (code_text at debug m) ≡ code_behind at m
    code_length at debug m (Bare a b c d) = rw (c, d) (omega arith)
    code_length at debug m (Full a b c d same le) = rw (c, d) (omega (arith, length-append (replicate (gap at) 0) (with_debug debug m.code), length-replicate {A = ℕ} (gap at) 0, same))

pub lines_length : (at : ℕ) (ms : List MethodPart) → at + length (flat_map (λ m. m.lines) ms) ≡ lines_behind at ms
lines_length at [] = omega arith
lines_length at (m ∷ ms) = omega (arith, length-append m.lines (flat_map (λ m. m.lines) ms), lines_length (at + length m.lines) ms)

pub marks_length : (r : Renumber) (at : ℕ) (ms : List Mark) → at + length (flat_map (mark_text r) ms) ≡ marks_behind r at ms
marks_length r at [] = omega arith
marks_length r at (m ∷ ms) = omega (arith, length-append (mark_text r m) (flat_map (mark_text r) ms), marks_length r (at + length (mark_text r m)) ms)

pub none_marked : (bytes : List ℕ) (r : Renumber) (at before : ℕ) (ms : List Mark) → length (mark_starts r at ms) ≡ 0 → Lie bytes 1 before (mark_starts r at ms) (map (mark_text r) ms) before
none_marked bytes r at before [] e = refl
none_marked bytes r at before (m ∷ ms) e = absurd (omega (arith, e))

pub starts_count : (r : Renumber) (at : ℕ) (ms : List Mark) → length (mark_starts r at ms) ≡ length ms
starts_count r at [] = refl
starts_count r at (m ∷ ms) = ap suc (starts_count r (at + length (mark_text r m)) ms)

count_none : (m : MethodPart) (ms : List MethodPart) → length m.code ≡ 0 → count_codes ms ≡ 0 → count_codes (m ∷ ms) ≡ 0
count_none m ms e h =
    let none : ltb 0 (length m.code) ≡ false = rw e refl in
    sum_by-cons (λ m. cond (ltb 0 (length m.code)) 1 0) m ms ∙ ap (λ (b : Bool). cond b 1 0 + count_codes ms) none ∙ omega (arith, h)

code_named : (at : ℕ) (m : MethodPart) → 0 < at → IsWhole m → code_offset at m ≡ 0 → length m.code ≡ 0
code_named at m lt w e = by_test (nat_eq (length m.code) 0) refl
  where
    by_test : (none : Bool) → nat_eq (length m.code) 0 ≡ none → length m.code ≡ 0
    by_test true t = eqb-true (length m.code) 0 t
    by_test false t =
        let s : code_offset at m ≡ up at = rw t refl in
        absurd (omega (arith, lt, s, e))

pub some_coded : (at : ℕ) (ms : List MethodPart) → 0 < at → AreWhole ms → count_some (code_offsets at ms) ≡ 0 → count_codes ms ≡ 0
some_coded at [] lt w e = refl
some_coded at (m ∷ ms) lt w e =
    let n : (code_offset at m ≡ 0) × (count_some (code_offsets (code_behind at m) ms) ≡ 0) = none_named (code_offset at m) (code_offsets (code_behind at m) ms) e in
    let grown : at ≤ code_behind at m = coded_grows at 0 m (coded at 0 m (nat_eq (length m.code) 0) refl w.0) in
    count_none m ms (code_named at m lt w.0 n.0) (some_coded (code_behind at m) ms (omega (arith, lt, grown)) w.1 n.1)
