-- What the opcodes of a written item do.
use Rattle.std.proofs.Common.{◌≡◌, ℕ, ℤ, zero, suc, ◌+◌, ◌-◌, ◌*◌, ◌<◌, ◌≤◌, ◌^◌, List, [], ◌∷◌, ◌++◌, length, drop, Some, refl, sym, ap, ◌∙◌, arith}
use Rattle.std.specs.Prelude.{pos, ◌+ℤ◌, ◌-ℤ◌}
use Rattle.std.proofs.lemmas.Int.{ints}
use Rattle.std.proofs.lemmas.Bool.{le-leb, ne_eqb}
use Rattle.dex_base.specs.Leb.{uleb_text, sleb_text}
use Rattle.line_tables.specs.declared.opcode.Kind.{Kind}
use Rattle.line_tables.specs.declared.opcode.Kind.TheVariants.{Step, Entry}
use Rattle.line_tables.specs.declared.read.Spot.{Spot}
use Rattle.line_tables.specs.declared.read.Turn.TheVariants.{IsOver, GoesTo, EntersAt}
use Rattle.line_tables.specs.Item.{effect, moved_by, spot, turn_at, ahead, walk, take_turn}
use Rattle.line_tables.proofs.Here.{uleb_here, sleb_here, opcode_here, behind_code, effect_end, effect_address, effect_line, effect_entry}
use Rattle.line_tables.proofs.Walking.{ahead_ahead, none_ahead}

abbrev both : ℕ → ℕ → ℕ × ℕ
both address line = (address, line)

-- an opcode that stays in range
moves : (address line step next : ℕ) (by : ℤ) (kind : Kind) → address + step < 2 ^ 31 → next < 2 ^ 31 → pos line +ℤ by ≡ pos next → moved_by address line (effect step by kind) ≡ Some (both (address + step) next)
unfolding moved_by
moves address line step next by kind low next_low is = rw (le-leb (address + step) 2147483647 (omega (arith, low)), is, le-leb next 2147483647 (omega (arith, next_low))) refl

pub turn_end : (bytes rest : List ℕ) (s : Spot) → drop s.place bytes ≡ 0 ∷ rest → turn_at bytes s ≡ IsOver
unfolding turn_at
turn_end bytes rest s here = rw (opcode_here bytes rest s.place 0 here, effect_end bytes (s.place + 1)) refl

pub turn_address : (bytes rest : List ℕ) (s : Spot) (step : ℕ) → s.address + step < 2 ^ 31 → s.line < 2 ^ 31 → drop s.place bytes ≡ 1 ∷ (uleb_text step ++ rest)
    → turn_at bytes s ≡ GoesTo (spot (s.place + 1 + length (uleb_text step)) (s.address + step) s.line)
unfolding turn_at
turn_address bytes rest s step low line here =
    let next = uleb_here bytes rest (s.place + 1) step (omega (arith, low)) (behind_code bytes (uleb_text step ++ rest) s.place 1 here) in
    rw (opcode_here bytes (uleb_text step ++ rest) s.place 1 here, effect_address bytes (s.place + 1), next, moves s.address s.line step s.line (pos 0) Step low line (omega (arith, ints))) refl

pub turn_line : (bytes rest : List ℕ) (s : Spot) (next : ℕ) → s.address < 2 ^ 31 → s.line < 2 ^ 31 → next < 2 ^ 31 → drop s.place bytes ≡ 2 ∷ (sleb_text (pos next -ℤ pos s.line) ++ rest)
    → turn_at bytes s ≡ GoesTo (spot (s.place + 1 + length (sleb_text (pos next -ℤ pos s.line))) s.address next)
unfolding turn_at
turn_line bytes rest s next low line next_low here =
    let by = pos next -ℤ pos s.line in
    let step = sleb_here bytes rest (s.place + 1) by (omega (arith, ints)) (behind_code bytes (sleb_text by ++ rest) s.place 2 here) in
    let stays : s.address + 0 ≡ s.address = omega arith in
    let there : moved_by s.address s.line (effect 0 by Step) ≡ Some (both s.address next) = moves s.address s.line 0 next by Step (omega (arith, low)) next_low (omega (arith, ints)) ∙ ap (λ (a : ℕ). Some (both a next)) stays in
    rw (opcode_here bytes (sleb_text by ++ rest) s.place 2 here, effect_line bytes (s.place + 1), step, there) refl

pub turn_entry : (bytes rest : List ℕ) (s : Spot) (step low next : ℕ) → low < 15 → s.address + step < 2 ^ 31 → 0 < next → next < 2 ^ 31 → pos s.line +ℤ (pos low -ℤ pos 4) ≡ pos next → drop s.place bytes ≡ (10 + low + 15 * step) ∷ rest
    → turn_at bytes s ≡ EntersAt (spot (s.place + 1) (s.address + step) next)
unfolding turn_at
turn_entry bytes rest s step low next few address some next_low is here =
    rw (opcode_here bytes rest s.place (10 + low + 15 * step) here, effect_entry bytes (s.place + 1) step low few, moves s.address s.line step next (pos low -ℤ pos 4) Entry address next_low is, ne_eqb next 0 (λ e. omega (arith, e, some))) refl

-- so many opcodes lead from one spot to another
abbrev pub Passes : List ℕ → ℕ → Spot → Spot → Type 0
Passes bytes k s next = (left line : ℕ) (starts : List ℕ) → k ≤ left → walk left bytes line starts s ≡ ahead [] k (walk (left - k) bytes line starts next)

pub passes_none : (bytes : List ℕ) (s : Spot) → Passes bytes 0 s s
passes_none bytes s left line starts few =
    let k : left - 0 ≡ left = omega arith in
    rw k (sym (none_ahead (walk left bytes line starts s)))

pub walk_turn : (left : ℕ) (bytes : List ℕ) (line : ℕ) (starts : List ℕ) (s : Spot) → 0 < left → walk left bytes line starts s ≡ take_turn bytes line starts s (turn_at bytes s) (λ l us n. walk (left - 1) bytes l us n)
walk_turn zero bytes line starts s some = absurd (omega arith)
walk_turn (suc left) bytes line starts s some = let k : suc left - 1 ≡ left = omega arith in rw k refl

pub passes_one : (bytes : List ℕ) (s next : Spot) → turn_at bytes s ≡ GoesTo next → Passes bytes 1 s next
passes_one bytes s next at left line starts few = walk_turn left bytes line starts s (omega arith) ∙ rw at refl

pub passes_then : (bytes : List ℕ) (k m : ℕ) (s t u : Spot) → Passes bytes k s t → Passes bytes m t u → Passes bytes (k + m) s u
passes_then bytes k m s t u first second left line starts few =
    let n : left - k - m ≡ left - (k + m) = omega arith in
    first left line starts (omega arith) ∙ ap (ahead [] k) (second (left - k) line starts (omega arith)) ∙ ahead_ahead [] [] k m (walk (left - k - m) bytes line starts u) ∙ ap (λ (i : ℕ). ahead [] (k + m) (walk i bytes line starts u)) n
