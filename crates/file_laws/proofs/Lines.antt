-- The lines that are read of a debug item are those that it says.
use Rattle.std.proofs.Common.{◌≡◌, ◌≤◌, ◌<◌, ℕ, zero, suc, ◌+◌, ◌-◌, Bool, true, false, true≢false, cond, ltb, leb, eqb, List, [], ◌∷◌, length, Option, Some, None, Result, Ok, Err, refl, sym, ap, subst, ◌∙◌, arith, inl, inr}
use Rattle.std.specs.Prelude.{◌&&◌, ◌||◌, ◌/◌, ◌%◌, pos, ◌-ℤ◌, not, nat_eq}
use Rattle.std.specs.List.{list_all, list_any}
use Rattle.std.proofs.lemmas.Bool.{cases_lt, leb-true, eqb-true, le-ltb}
use Rattle.dex_base.specs.declared.fault.BaseFault.{BaseFault}
use Rattle.dex_base.specs.Leb.{uleb_at, sleb_at}
use Rattle.dex_base.specs.Reading.{◌>>=◌}
use Rattle.dex_base.proofs.LebReading.{is_uleb, is_sleb}
use Rattle.line_tables.specs.declared.opcode.Effect.{Effect}
use Rattle.line_tables.specs.declared.opcode.Kind.{Kind}
use Rattle.line_tables.specs.declared.opcode.Kind.TheVariants.{Step, Entry, End}
use Rattle.line_tables.specs.declared.read.Spot.{Spot}
use Rattle.line_tables.specs.declared.read.Turn.{Turn}
use Rattle.line_tables.specs.declared.read.Turn.TheVariants.{Breaks, IsOver, GoesTo, EntersAt}
use Rattle.line_tables.specs.Item.{skip_at, effect, effect_to, effect_at, opcode_at, moved_by, turn_to, turn_of, turn_at, one_more, begin_at, lines_at, Lines, spot}
use Rattle.line_tables.specs.Entries.{Found, found_before, entry, find_turn, entries_from, lines_by, begun_by, item_lines}
use Rattle.line_tables.specs.Text.{AscendsFrom}
use Rattle.line_tables.proofs.ByEntries.{lines_are}
use Rattle.dex_defs.specs.DebugItems.{lines_or_none, lines_of}
use Rattle.dex_read.specs.Code.{kept_lines, counted_lines, lined_at}
use Rattle.file_laws.specs.Founds.{Founds}
use Rattle.file_laws.proofs.Founding.{weaker, done, when, either, next}

-- ---- each opcode ends behind its first byte

ends : (at stop : ℕ) (e : Effect) → at ≤ stop → Founds {F = BaseFault} (λ (r : Effect × ℕ). at ≤ r.1) (Ok (effect_to e stop))
ends at stop e le = weaker _ (done (effect_to e stop)) (λ y p. subst (λ (r : Effect × ℕ). at ≤ r.1) (sym p) le)

founds_uleb : (bytes : List ℕ) (at : ℕ) → Founds (λ r. at ≤ r.1) (uleb_at bytes at)
founds_uleb bytes at = record { found = λ y h. omega (arith, ((is_uleb bytes at).found y h).behind) }

founds_sleb : (bytes : List ℕ) (at : ℕ) → Founds (λ r. at ≤ r.1) (sleb_at bytes at)
founds_sleb bytes at = record { found = λ y h. omega (arith, ((is_sleb bytes at).found y h).behind) }

founds_skip : (bytes : List ℕ) (n at : ℕ) → Founds (λ behind. at ≤ behind) (skip_at bytes n at)
founds_skip bytes zero at = weaker (skip_at bytes zero at) (done at) (λ y p. omega (arith, p))
founds_skip bytes (suc n) at = weaker (skip_at bytes (suc n) at) (next (founds_uleb bytes at) (λ r le. founds_skip bytes n r.1)) (λ y p. omega (arith, p.1, p.2))

skips : (bytes : List ℕ) (n at : ℕ) → Founds (λ (r : Effect × ℕ). at ≤ r.1) (skip_at bytes n at >>= λ behind. Ok (effect_to (effect 0 (pos 0) Step) behind))
skips bytes n at = weaker (skip_at bytes n at >>= λ behind. Ok (effect_to (effect 0 (pos 0) Step) behind)) (next (founds_skip bytes n at) (λ b le. ends at b (effect 0 (pos 0) Step) le)) (λ y p. p.2)

founds_effect : (bytes : List ℕ) (code at : ℕ) → Founds (λ r. at ≤ r.1) (effect_at bytes code at)
unfolding effect_at
founds_effect bytes code at =
    let stays : at ≤ at = omega arith in
    either {b = eqb code 0} (λ e. ends at at (effect 0 (pos 0) End) stays) (λ e.
    either {b = eqb code 1} (λ e. weaker (uleb_at bytes at >>= λ r. Ok (effect_to (effect r.0 (pos 0) Step) r.1)) (next (founds_uleb bytes at) (λ r le. ends at r.1 (effect r.0 (pos 0) Step) le)) (λ y p. p.2)) (λ e.
    either {b = eqb code 2} (λ e. weaker (sleb_at bytes at >>= λ r. Ok (effect_to (effect 0 r.0 Step) r.1)) (next (founds_sleb bytes at) (λ r le. ends at r.1 (effect 0 r.0 Step) le)) (λ y p. p.2)) (λ e.
    either {b = eqb code 3} (λ e. skips bytes 3 at) (λ e.
    either {b = eqb code 4} (λ e. skips bytes 4 at) (λ e.
    either {b = eqb code 5 || eqb code 6 || eqb code 9} (λ e. skips bytes 1 at) (λ e.
    either {b = eqb code 7 || eqb code 8} (λ e. ends at at (effect 0 (pos 0) Step) stays) (λ e. ends at at (effect ((code - 10) / 15) (pos ((code - 10) % 15) -ℤ pos 4) Entry) stays)))))))

founds_opcode : (bytes : List ℕ) (at : ℕ) → Founds (λ r. at < r.1) (opcode_at bytes at)
unfolding opcode_at
founds_opcode bytes at = weaker (opcode_at bytes at) (when _ (founds_effect bytes _ (at + 1))) (λ y p. omega (arith, p.1))

abbrev Forward : ℕ → Turn → Type 0
Forward at Breaks = Unit {0}
Forward at IsOver = Unit {0}
Forward at (GoesTo next) = at < next.place
Forward at (EntersAt next) = at < next.place

by_kind : (at : ℕ) (kind : Kind) (behind : ℕ) (there : Option (ℕ × ℕ)) → at < behind → Forward at (turn_to kind behind there)
by_kind at End behind there lt = tt
by_kind at Step behind None lt = tt
by_kind at Step behind (Some p) lt = lt
by_kind at Entry behind None lt = tt
by_kind at Entry behind (Some p) lt = by_line (eqb p.1 0) behind p lt
  where
    by_line : (b : Bool) (behind : ℕ) (p : ℕ × ℕ) → at < behind → Forward at (cond b Breaks (EntersAt (spot behind p.0 p.1)))
    by_line true behind p lt = tt
    by_line false behind p lt = lt

by_read : (s : Spot) (read : Result (Effect × ℕ) BaseFault) → Founds (λ r. s.place < r.1) read → Forward s.place (turn_of s read)
by_read s (Err e) d = tt
by_read s (Ok r) d = by_kind s.place r.0.kind r.1 (moved_by s.address s.line r.0) (d.found r refl)

forward : (bytes : List ℕ) (s : Spot) → Forward s.place (turn_at bytes s)
unfolding turn_at
forward bytes s = by_read s (opcode_at bytes s.place) (founds_opcode bytes s.place)

by_end : (s : Spot) (b : Bool) (read : Result (Effect × ℕ) BaseFault) (e : BaseFault) → b ≡ false → turn_of s (cond b read (Err e)) ≡ Breaks
by_end s false read e h = refl
by_end s true read e h = absurd cc

over : (bytes : List ℕ) (s : Spot) → length bytes ≤ s.place → turn_at bytes s ≡ Breaks
unfolding turn_at opcode_at
over bytes s le = by_end s (ltb s.place (length bytes)) _ _ (le-ltb s.place (length bytes) le)

-- ---- more opcodes change nothing where reading has ended

few_left : (bytes : List ℕ) (s : Spot) → one_more bytes s ≤ 0 → length bytes ≤ s.place
few_left bytes s h = elim (cases_lt s.place (length bytes)) [ inl lt ↦ absurd (omega (arith, h, lt_one lt)) | inr le ↦ le ]
  where
    lt_one : s.place < length bytes → one_more bytes s ≡ 1
    lt_one lt = grind (arith, lt)

by_turn : (bytes starts : List ℕ) (s : Spot) (m : ℕ) (t : Turn) (more other : Spot → Found) → (find_turn bytes starts s t more).1 ≤ suc m → ((next : Spot) → (more next).1 ≤ m → other next ≡ more next) → find_turn bytes starts s t other ≡ find_turn bytes starts s t more
by_turn bytes starts s m Breaks more other few same = refl
by_turn bytes starts s m IsOver more other few same = refl
by_turn bytes starts s m (GoesTo next) more other few same = ap (λ (f : Found). found_before [] f) (same next (omega (arith, few)))
by_turn bytes starts s m (EntersAt next) more other few same = by_past (list_all (λ u. ltb u next.address) starts) few
  where
    by_past : (b : Bool) → (cond b (Some [], 1) (found_before (entry next ∷ []) (more next))).1 ≤ suc m → cond b (Some [], 1) (found_before (entry next ∷ []) (other next)) ≡ cond b (Some [], 1) (found_before (entry next ∷ []) (more next))
    by_past true few = refl
    by_past false few = ap (λ (f : Found). found_before (entry next ∷ []) f) (same next (omega (arith, few)))

stays : (bytes starts : List ℕ) (left : ℕ) (s : Spot) → (entries_from left bytes starts s).1 ≤ left → (k : ℕ) → entries_from (left + k) bytes starts s ≡ entries_from left bytes starts s
stays bytes starts zero s few k = let e : 0 + k ≡ k = omega arith in ap (λ (n : ℕ). entries_from n bytes starts s) e ∙ by_more k
  where
    by_more : (k : ℕ) → entries_from k bytes starts s ≡ entries_from 0 bytes starts s
    by_more zero = refl
    by_more (suc k) = ap (λ (t : Turn). find_turn bytes starts s t (λ next. entries_from k bytes starts next)) (over bytes s (few_left bytes s few))
stays bytes starts (suc m) s few k =
    let e : suc m + k ≡ suc (m + k) = omega arith in
    ap (λ (n : ℕ). entries_from n bytes starts s) e
    ∙ by_turn bytes starts s m (turn_at bytes s) (λ next. entries_from m bytes starts next) (λ next. entries_from (m + k) bytes starts next) few (λ next h. stays bytes starts m next h k)

-- ---- an opcode has a byte at least

one_at_most : (bytes : List ℕ) (s : Spot) → one_more bytes s ≤ 1
one_at_most bytes s = grind arith

none_left : (bytes : List ℕ) (s : Spot) → length bytes ≤ s.place → one_more bytes s ≤ 0
none_left bytes s le = grind (arith, le)

by_forward : (bytes starts : List ℕ) (s : Spot) (m : ℕ) (t : Turn) (more : Spot → Found) → Forward s.place t → ((next : Spot) → s.place < next.place → (more next).1 ≤ m) → (find_turn bytes starts s t more).1 ≤ suc m
by_forward bytes starts s m Breaks more f g = omega (arith, one_at_most bytes s)
by_forward bytes starts s m IsOver more f g = omega arith
by_forward bytes starts s m (GoesTo next) more f g = omega (arith, g next f)
by_forward bytes starts s m (EntersAt next) more f g = by_past (list_all (λ u. ltb u next.address) starts) (g next f)
  where
    by_past : (b : Bool) → (more next).1 ≤ m → (cond b (Some [], 1) (found_before (entry next ∷ []) (more next))).1 ≤ suc m
    by_past true h = omega arith
    by_past false h = omega (arith, h)

enough : (bytes starts : List ℕ) (m : ℕ) (s : Spot) → length bytes ≤ s.place + m → (entries_from m bytes starts s).1 ≤ m
enough bytes starts zero s h = none_left bytes s (omega (arith, h))
enough bytes starts (suc m) s h = by_forward bytes starts s m (turn_at bytes s) (λ next. entries_from m bytes starts next) (forward bytes s) (λ next lt. enough bytes starts m next (omega (arith, h, lt)))

same_entries : (bytes starts : List ℕ) (left : ℕ) (s : Spot) → (entries_from left bytes starts s).1 ≤ left → entries_from left bytes starts s ≡ entries_from (length bytes) bytes starts s
same_entries bytes starts left s few = elim (cases_lt left (length bytes)) [
  | inl lt ↦ let e : left + (length bytes - left) ≡ length bytes = omega (arith, lt) in sym (stays bytes starts left s few (length bytes - left)) ∙ ap (λ (n : ℕ). entries_from n bytes starts s) e
  | inr le ↦ let e : length bytes + (left - length bytes) ≡ left = omega (arith, le) in sym (ap (λ (n : ℕ). entries_from n bytes starts s) e) ∙ stays bytes starts (length bytes) s (enough bytes starts (length bytes) s (omega arith)) (left - length bytes)
]

-- ---- lines

by_begin : (bytes starts : List ℕ) (left : ℕ) (read : Result (ℕ × ℕ) BaseFault) → (begun_by bytes starts left read).1 ≤ left → begun_by bytes starts left read ≡ begun_by bytes starts (length bytes) read
by_begin bytes starts left (Err e) few = refl
by_begin bytes starts left (Ok r) few = by_low (leb r.0 2147483647) few
  where
    by_low : (b : Bool) → (cond b (lines_by starts (entries_from left bytes starts (spot r.1 0 r.0))) (None, 0)).1 ≤ left
        → cond b (lines_by starts (entries_from left bytes starts (spot r.1 0 r.0))) (None, 0) ≡ cond b (lines_by starts (entries_from (length bytes) bytes starts (spot r.1 0 r.0))) (None, 0)
    by_low true few = ap (λ (f : Found). lines_by starts f) (same_entries bytes starts left (spot r.1 0 r.0) few)
    by_low false few = refl

same_lines : (bytes starts : List ℕ) (at left : ℕ) → (item_lines bytes at starts left).1 ≤ left → item_lines bytes at starts left ≡ item_lines bytes at starts (length bytes)
unfolding item_lines
same_lines bytes starts at left few = by_begin bytes starts left (begin_at bytes at) few

some_line : (lines : List ℕ) → list_any (λ line. not (nat_eq line 0)) lines ≡ not (list_all (λ line. nat_eq line 0) lines)
some_line [] = refl
some_line (line ∷ lines) = by_first (nat_eq line 0) (list_all (λ line. nat_eq line 0) lines) (some_line lines)
  where
    by_first : (a b : Bool) → list_any (λ line. not (nat_eq line 0)) lines ≡ not b → (not a || list_any (λ line. not (nat_eq line 0)) lines) ≡ not (a && b)
    by_first true b e = e
    by_first false b e = refl

by_all : (b : Bool) (lines : List ℕ) → cond (not b) lines [] ≡ cond b [] lines
by_all true lines = refl
by_all false lines = refl

kept_same : (o : Option (List ℕ)) → kept_lines o ≡ lines_or_none o
kept_same None = refl
kept_same (Some lines) = ap (λ (b : Bool). cond b lines []) (some_line lines) ∙ by_all (list_all (λ line. nat_eq line 0) lines) lines

founds_counted : (left : ℕ) (read : Option (List ℕ) × ℕ) → Founds (λ r. (read.1 ≤ left) × (r.0 ≡ kept_lines read.0)) (counted_lines left read)
founds_counted left read = weaker (counted_lines left read) (when _ (done (kept_lines read.0, left - read.1))) (λ y p. (leb-true _ _ p.0, ap (λ (r : List ℕ × ℕ). r.0) p.1))

by_offset : (bytes starts : List ℕ) (debug : ℕ) → (debug ≡ 0 → ⊥) → lines_of bytes debug starts ≡ lines_or_none (item_lines bytes debug starts (length bytes)).0
by_offset bytes starts zero other = absurd (other refl)
by_offset bytes starts (suc k) other = refl

pub founds_lines : (bytes : List ℕ) (debug : ℕ) (starts : List ℕ) (left : ℕ) → AscendsFrom 0 starts → Founds (λ r. r.0 ≡ lines_of bytes debug starts) (lined_at bytes debug starts left)
unfolding lined_at
founds_lines bytes debug starts left ascend = either
    (λ e. weaker _ (done ([], left)) (λ y p. ap (λ (r : List ℕ × ℕ). r.0) p ∙ ap (λ (n : ℕ). lines_of bytes n starts) (sym (eqb-true debug 0 e))))
    (λ e. weaker _ (founds_counted left (lines_at bytes debug starts left))
    (λ y p.
    let is = lines_are bytes starts debug left ascend in
    let few : (item_lines bytes debug starts left).1 ≤ left = subst (λ (l : Lines). l.1 ≤ left) is p.0 in
    p.1 ∙ kept_same (lines_at bytes debug starts left).0 ∙ ap (λ (l : Lines). lines_or_none l.0) (is ∙ same_lines bytes starts debug left few)
    ∙ sym (by_offset bytes starts debug (λ none. true≢false (sym (is_zero debug none) ∙ e)))))
  where
    is_zero : (n : ℕ) → n ≡ 0 → eqb n 0 ≡ true
    is_zero n h = subst (λ k. eqb k 0 ≡ true) (sym h) refl
