-- The opcodes of lines that are read stand in a debug item, also where they are more than are left.
use Rattle.std.proofs.Common.{◌≡◌, ◌≤◌, ◌<◌, ◌⊎◌, inl, inr, ℕ, zero, suc, ◌+◌, ◌-◌, Bool, true, false, cond, ltb, leb, eqb, List, [], ◌∷◌, length, Option, Some, None, Result, Ok, Err, refl, sym, subst, arith}
use Rattle.std.specs.Prelude.{◌||◌, ◌/◌, ◌%◌, pos, ◌-ℤ◌, slice_index}
use Rattle.std.specs.List.{list_all}
use Rattle.std.proofs.lemmas.Bool.{leb-false, le-ltb}
use Rattle.dex_base.specs.declared.fault.BaseFault.{BaseFault}
use Rattle.dex_base.specs.Leb.{uleb_at, sleb_at}
use Rattle.dex_base.specs.Reading.{◌>>=◌}
use Rattle.dex_base.proofs.LebReading.{is_uleb, is_sleb}
use Rattle.line_tables.specs.declared.opcode.Effect.{Effect}
use Rattle.line_tables.specs.declared.opcode.Kind.{Kind}
use Rattle.line_tables.specs.declared.opcode.Kind.TheVariants.{Step, Entry, End}
use Rattle.line_tables.specs.declared.read.Spot.{Spot}
use Rattle.line_tables.specs.declared.read.Turn.{Turn}
use Rattle.line_tables.specs.declared.read.Turn.TheVariants.{Breaks, IsOver, GoesTo, EntersAt}
use Rattle.line_tables.specs.Item.{skip_at, effect, effect_to, effect_at, opcode_at, moved_by, turn_to, turn_of, turn_at, one_more, begin_at, lines_at, Lines, spot}
use Rattle.line_tables.specs.Entries.{Found, found_before, entry, find_turn, entries_from, lines_by, begun_by, item_lines}
use Rattle.line_tables.specs.Text.{AscendsFrom}
use Rattle.line_tables.proofs.ByEntries.{lines_are}
use Rattle.program_model.specs.declared.limits.Counted.TheVariants.{Items}
use Rattle.code_read.specs.Sweep.{Piece}
use Rattle.dex_defs.specs.Sweep.{places_of}
use Rattle.dex_defs.specs.CodeItems.{Frame}
use Rattle.dex_defs.specs.Limits.{IsMethodCode, IsItem}
use Rattle.dex_defs.specs.Limits as limits
use Rattle.dex_read.specs.declared.fault.DexFault.{DexFault}
use Rattle.dex_read.specs.Code.{kept_lines, counted_lines, lined_at}
use Rattle.dex_read.specs.Header.{past}
use Rattle.file_laws.specs.Founds.{Founds}
use Rattle.file_laws.proofs.Founding.{weaker, done, when, either, next}
use Rattle.past_law.specs.Told.{Told}
use Rattle.past_law.proofs.CodeReads.{Reads, gives, refuses, by_test}
use Rattle.past_law.proofs.CodeTold.{renamed, lined}
use Rattle.past_law.proofs.CodeHandlers.{ItemName}

-- ---- an opcode has a byte at least

ends : (at stop : ℕ) (e : Effect) → at ≤ stop → Founds {F = BaseFault} (λ (r : Effect × ℕ). at ≤ r.1) (Ok (effect_to e stop))
ends at stop e le = weaker _ (done (effect_to e stop)) (λ y p. subst (λ (r : Effect × ℕ). at ≤ r.1) (sym p) le)

founds_uleb : (bytes : List ℕ) (at : ℕ) → Founds (λ r. at ≤ r.1) (uleb_at bytes at)
founds_uleb bytes at = record { found = λ y h. omega (arith, ((is_uleb bytes at).found y h).behind) }

founds_sleb : (bytes : List ℕ) (at : ℕ) → Founds (λ r. at ≤ r.1) (sleb_at bytes at)
founds_sleb bytes at = record { found = λ y h. omega (arith, ((is_sleb bytes at).found y h).behind) }

founds_skip : (bytes : List ℕ) (n at : ℕ) → Founds (λ behind. at ≤ behind) (skip_at bytes n at)
founds_skip bytes zero at = weaker (skip_at bytes zero at) (done at) (λ y p. omega (arith, p))
founds_skip bytes (suc n) at = weaker (skip_at bytes (suc n) at) (next (founds_uleb bytes at) (λ r le. founds_skip bytes n r.1)) (λ y p. omega (arith, p.1, p.2))

skips : (bytes : List ℕ) (n at : ℕ) → Founds (λ (r : Effect × ℕ). at ≤ r.1) (skip_at bytes n at >>= λ behind. Ok (effect_to (effect 0 (pos 0) Step) behind))
skips bytes n at = weaker (skip_at bytes n at >>= λ behind. Ok (effect_to (effect 0 (pos 0) Step) behind)) (next (founds_skip bytes n at) (λ b le. ends at b (effect 0 (pos 0) Step) le)) (λ y p. p.2)

founds_effect : (bytes : List ℕ) (code at : ℕ) → Founds (λ r. at ≤ r.1) (effect_at bytes code at)
unfolding effect_at
founds_effect bytes code at =
    let stays : at ≤ at = omega arith in
    either {b = eqb code 0} (λ e. ends at at (effect 0 (pos 0) End) stays) (λ e.
    either {b = eqb code 1} (λ e. weaker (uleb_at bytes at >>= λ r. Ok (effect_to (effect r.0 (pos 0) Step) r.1)) (next (founds_uleb bytes at) (λ r le. ends at r.1 (effect r.0 (pos 0) Step) le)) (λ y p. p.2)) (λ e.
    either {b = eqb code 2} (λ e. weaker (sleb_at bytes at >>= λ r. Ok (effect_to (effect 0 r.0 Step) r.1)) (next (founds_sleb bytes at) (λ r le. ends at r.1 (effect 0 r.0 Step) le)) (λ y p. p.2)) (λ e.
    either {b = eqb code 3} (λ e. skips bytes 3 at) (λ e.
    either {b = eqb code 4} (λ e. skips bytes 4 at) (λ e.
    either {b = eqb code 5 || eqb code 6 || eqb code 9} (λ e. skips bytes 1 at) (λ e.
    either {b = eqb code 7 || eqb code 8} (λ e. ends at at (effect 0 (pos 0) Step) stays) (λ e. ends at at (effect ((code - 10) / 15) (pos ((code - 10) % 15) -ℤ pos 4) Entry) stays)))))))

founds_opcode : (bytes : List ℕ) (at : ℕ) → Founds (λ r. at < r.1) (opcode_at bytes at)
unfolding opcode_at
founds_opcode bytes at = weaker (opcode_at bytes at) (when _ (founds_effect bytes _ (at + 1))) (λ y p. omega (arith, p.1))

abbrev Forward : ℕ → Turn → Type 0
Forward at Breaks = Unit {0}
Forward at IsOver = Unit {0}
Forward at (GoesTo next) = at < next.place
Forward at (EntersAt next) = at < next.place

by_kind : (at : ℕ) (kind : Kind) (behind : ℕ) (there : Option (ℕ × ℕ)) → at < behind → Forward at (turn_to kind behind there)
by_kind at End behind there lt = tt
by_kind at Step behind None lt = tt
by_kind at Step behind (Some p) lt = lt
by_kind at Entry behind None lt = tt
by_kind at Entry behind (Some p) lt = by_line (eqb p.1 0) behind p lt
  where
    by_line : (b : Bool) (behind : ℕ) (p : ℕ × ℕ) → at < behind → Forward at (cond b Breaks (EntersAt (spot behind p.0 p.1)))
    by_line true behind p lt = tt
    by_line false behind p lt = lt

by_read : (s : Spot) (read : Result (Effect × ℕ) BaseFault) → Founds (λ r. s.place < r.1) read → Forward s.place (turn_of s read)
by_read s (Err e) d = tt
by_read s (Ok r) d = by_kind s.place r.0.kind r.1 (moved_by s.address s.line r.0) (d.found r refl)

forward : (bytes : List ℕ) (s : Spot) → Forward s.place (turn_at bytes s)
unfolding turn_at
forward bytes s = by_read s (opcode_at bytes s.place) (founds_opcode bytes s.place)

by_end : (s : Spot) (b : Bool) (read : Result (Effect × ℕ) BaseFault) (e : BaseFault) → b ≡ false → turn_of s (cond b read (Err e)) ≡ Breaks
by_end s false read e h = refl
by_end s true read e h = absurd cc

over : (bytes : List ℕ) (s : Spot) → length bytes ≤ s.place → turn_at bytes s ≡ Breaks
unfolding turn_at opcode_at
over bytes s le = by_end s (ltb s.place (length bytes)) _ _ (le-ltb s.place (length bytes) le)

-- ---- no count of opcodes is more than that of all bytes

module _ (bytes starts : List ℕ) where
  one_at_most : (s : Spot) → one_more bytes s ≤ 1
  one_at_most s = grind arith

  none_left : (s : Spot) → length bytes ≤ s.place → one_more bytes s ≤ 0
  none_left s le = grind (arith, le)

  some_read : (s : Spot) (t : Turn) (more : Spot → Found) → one_more bytes s ≤ (find_turn bytes starts s t more).1
  some_read s Breaks more = omega arith
  some_read s IsOver more = one_at_most s
  some_read s (GoesTo next) more = let few = one_at_most s in omega (arith, few)
  some_read s (EntersAt next) more = by_past (list_all (λ u. ltb u next.address) starts)
    where
      by_past : (b : Bool) → one_more bytes s ≤ (cond b (Some [], 1) (found_before (entry next ∷ []) (more next))).1
      by_past true = one_at_most s
      by_past false = let few = one_at_most s in omega (arith, few)

  none_read : (m : ℕ) (s : Spot) → length bytes ≤ s.place → (entries_from m bytes starts s).1 ≤ 0
  none_read zero s le = none_left s le
  none_read (suc m) s le = subst (λ (t : Turn). (find_turn bytes starts s t (λ next. entries_from m bytes starts next)).1 ≤ 0) (sym (over bytes s le)) (none_left s le)

  by_turn : (s : Spot) (t : Turn) (more other : Spot → Found) → Forward s.place t → ((next : Spot) → s.place < next.place → (more next).1 ≤ (other next).1) → (find_turn bytes starts s t more).1 ≤ (find_turn bytes starts s t other).1
  by_turn s Breaks more other f g = omega arith
  by_turn s IsOver more other f g = omega arith
  by_turn s (GoesTo next) more other f g = let le = g next f in omega (arith, le)
  by_turn s (EntersAt next) more other f g = by_past (list_all (λ u. ltb u next.address) starts) (g next f)
    where
      by_past : (b : Bool) → (more next).1 ≤ (other next).1 → (cond b (Some [], 1) (found_before (entry next ∷ []) (more next))).1 ≤ (cond b (Some [], 1) (found_before (entry next ∷ []) (other next))).1
      by_past true le = omega arith
      by_past false le = omega (arith, le)

  all_read : (n m : ℕ) (s : Spot) → length bytes ≤ s.place + n → (entries_from m bytes starts s).1 ≤ (entries_from n bytes starts s).1
  all_read zero m s room = let none = none_read m s (omega (arith, room)) in omega (arith, none)
  all_read (suc n) zero s room = some_read s (turn_at bytes s) (λ next. entries_from n bytes starts next)
  all_read (suc n) (suc m) s room = by_turn s (turn_at bytes s) (λ next. entries_from m bytes starts next) (λ next. entries_from n bytes starts next) (forward bytes s) (λ next lt. all_read n m next (omega (arith, room, lt)))

  by_begin : (most : ℕ) (read : Result (ℕ × ℕ) BaseFault) → (begun_by bytes starts most read).1 ≤ (begun_by bytes starts (length bytes) read).1
  by_begin most (Err e) = omega arith
  by_begin most (Ok r) = by_low (leb r.0 2147483647)
    where
      by_low : (b : Bool) → (cond b (lines_by starts (entries_from most bytes starts (spot r.1 0 r.0))) (None, 0)).1 ≤ (cond b (lines_by starts (entries_from (length bytes) bytes starts (spot r.1 0 r.0))) (None, 0)).1
      by_low true = all_read (length bytes) most (spot r.1 0 r.0) (omega arith)
      by_low false = omega arith

  few_lines : (at most : ℕ) → (item_lines bytes at starts most).1 ≤ (item_lines bytes at starts (length bytes)).1
  unfolding item_lines
  few_lines at most = by_begin most (begin_at bytes at)

  -- ---- the lines of a body

  abbrev pub opcodes_of : ℕ → ℕ
  opcodes_of debug = (item_lines bytes debug starts (length bytes)).1

  -- what lines leave of the items, and where they are more than are left
  abbrev pub Leaves : ℕ → ℕ → List ℕ × ℕ → Type 0
  Leaves debug left read = (left ≤ read.1) ⊎ ((0 < debug) × (left ≤ read.1 + opcodes_of debug))

  abbrev pub PassesLines : ℕ → ℕ → DexFault → Type 0
  PassesLines debug left fault = (fault ≡ past Items) × (0 < debug) × (left < opcodes_of debug)

  positive : (n : ℕ) → eqb n 0 ≡ false → 0 < n
  positive zero e = absurd cc
  positive (suc n) e = omega arith

  reads_counted : (debug left : ℕ) (read : Lines) → 0 < debug → read.1 ≤ opcodes_of debug → Reads (Leaves debug left) (PassesLines debug left) (counted_lines left read)
  reads_counted debug left read some few = by_test {b = leb read.1 left}
      (λ _. gives (kept_lines read.0, left - read.1) (inr (some, omega (arith, few))))
      (λ over. refuses (past Items) (refl, some, (let more = leb-false read.1 left over in omega (arith, more, few))))

  pub reads_lined : (debug left : ℕ) → AscendsFrom 0 starts → Reads (Leaves debug left) (PassesLines debug left) (lined_at bytes debug starts left)
  unfolding lined_at
  reads_lined debug left ascend = by_test {b = eqb debug 0} {read = Ok ([], left)} {other = counted_lines left (lines_at bytes debug starts left)}
      (λ _. gives ([], left) (inl (omega arith)))
      (λ other. reads_counted debug left (lines_at bytes debug starts left) (positive debug other)
      (subst (λ (l : Lines). l.1 ≤ opcodes_of debug) (sym (lines_are bytes starts debug left ascend)) (few_lines debug left)))

-- ---- all lines of a method

abbrev fifth : List ℕ → ℕ
fifth way = slice_index way 4

pub all_lines : (bytes : List ℕ) (class which place at : ℕ) (f : Frame) (pieces : List Piece) (its : IsMethodCode bytes class which place at f pieces) → 0 < f.debug
    → Told (IsItem bytes) (ItemName 6 class which place) (opcodes_of bytes (places_of its.units pieces).starts f.debug)
all_lines bytes class which place at f pieces its some = renamed (opcodes_of bytes (places_of its.units pieces).starts f.debug)
    (lined (ItemName 6 class which place) fifth (λ i. 6 ∷ class ∷ which ∷ place ∷ i ∷ []) 0 (opcodes_of bytes (places_of its.units pieces).starts f.debug)
    (λ i low few. (limits.OfLines class which place at i f pieces its some (omega (arith, few)), (refl, refl, refl, refl), refl)))
    (λ way h. h.0) (omega arith)
