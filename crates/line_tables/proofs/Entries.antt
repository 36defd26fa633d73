-- A written entry is read as this entry.
use Rattle.std.proofs.Common.{◌≡◌, ℕ, ◌+◌, ◌-◌, ◌*◌, ◌<◌, ◌≤◌, ◌^◌, Bool, true, false, List, [], ◌∷◌, ◌++◌, length, drop, inl, inr, refl, ap, subst, ◌∙◌, append_assoc, arith}
use Rattle.std.specs.Prelude.{pos, ◌+ℤ◌, ◌-ℤ◌}
use Rattle.std.proofs.lemmas.Int.{ints}
use Rattle.std.proofs.lemmas.Bool.{cases_lt, le-leb, lt-leb}
use Rattle.std.proofs.lemmas.Bool.Decides.{nat_tests}
use Rattle.dex_base.specs.Leb.{uleb_text, sleb_text}
use Rattle.line_tables.specs.declared.read.Spot.{Spot}
use Rattle.line_tables.specs.declared.read.Turn.TheVariants.{EntersAt}
use Rattle.line_tables.specs.Item.{spot, turn_at}
use Rattle.line_tables.specs.Text.{is_near, line_text, digit, opcode_text, entry_text}
use Rattle.line_tables.proofs.Here.{behind_here, behind_code}
use Rattle.line_tables.proofs.Turns.{turn_address, turn_line, turn_entry, Passes, passes_none, passes_one, passes_then}

-- behind the opcode for the line, if there is one
record HasLine (bytes : List ℕ) (s : Spot) (next : ℕ) (text : List ℕ) : Type 0 where
  pub k : ℕ
  pub t : Spot
  pub few : k ≤ 1
  pub passes : Passes bytes k s t
  pub address_is : t.address ≡ s.address
  pub line_low : t.line < 2 ^ 31
  pub low : digit s.line next < 15
  pub line_is : pos t.line +ℤ (pos (digit s.line next) -ℤ pos 4) ≡ pos next
  pub here : drop t.place bytes ≡ text

near_is : (line next : ℕ) → is_near line next ≡ true → (line ≤ next + 4) × (next ≤ line + 10)
near_is line next e = grind (arith, nat_tests)

step_back : (line next low : ℕ) → low + line ≡ next + 4 → pos line +ℤ (pos low -ℤ pos 4) ≡ pos next
step_back line next low e = omega (arith, ints, e)

line_near : (bytes text : List ℕ) (s : Spot) (next : ℕ) → s.line < 2 ^ 31 → is_near s.line next ≡ true → drop s.place bytes ≡ line_text s.line next ++ text → HasLine bytes s next text
line_near bytes text s next line near here =
    let n = near_is s.line next near in
    let d : digit s.line next ≡ next + 4 - s.line = rw near refl in
    record {
      k = 0;
      t = s;
      few = omega arith;
      passes = passes_none bytes s;
      address_is = refl;
      line_low = line;
      low = omega (arith, d, n.0, n.1);
      line_is = step_back s.line next (digit s.line next) (omega (arith, d, n.0));
      here = rw near at here;
    }

line_far : (bytes text : List ℕ) (s : Spot) (next : ℕ) → s.address < 2 ^ 31 → s.line < 2 ^ 31 → next < 2 ^ 31 → is_near s.line next ≡ false → drop s.place bytes ≡ line_text s.line next ++ text → HasLine bytes s next text
line_far bytes text s next address line next_low far here =
    let by = sleb_text (pos next -ℤ pos s.line) in
    let d : digit s.line next ≡ 4 = rw far refl in
    let opcode : drop s.place bytes ≡ 2 ∷ (by ++ text) = rw far at here in
    record {
      k = 1;
      t = spot (s.place + 1 + length by) s.address next;
      few = omega arith;
      passes = passes_one bytes s (spot (s.place + 1 + length by) s.address next) (turn_line bytes text s next address line next_low opcode);
      address_is = refl;
      line_low = next_low;
      low = omega (arith, d);
      line_is = rw d (omega (arith, ints));
      here = behind_here bytes by text (s.place + 1) (behind_code bytes (by ++ text) s.place 2 opcode);
    }

has_line : (b : Bool) (bytes text : List ℕ) (s : Spot) (next : ℕ) → is_near s.line next ≡ b → s.address < 2 ^ 31 → s.line < 2 ^ 31 → next < 2 ^ 31 → drop s.place bytes ≡ line_text s.line next ++ text → HasLine bytes s next text
has_line true bytes text s next near address line next_low here = line_near bytes text s next line near here
has_line false bytes text s next far address line next_low here = line_far bytes text s next address line next_low far here

-- the spot at the opcode of an entry
pub record ReadsEntry (most : ℕ) (bytes : List ℕ) (s : Spot) (at next : ℕ) (rest : List ℕ) : Type 0 where
  pub k : ℕ
  pub t : Spot
  pub few : k ≤ most
  pub passes : Passes bytes k s t
  pub turn : turn_at bytes t ≡ EntersAt (spot (t.place + 1) at next)
  pub here : drop (t.place + 1) bytes ≡ rest

-- behind the opcode for the address, if there is one
opcode_near : (bytes rest : List ℕ) (s : Spot) (step low next : ℕ) → 10 + low + 15 * step ≤ 255 → low < 15 → s.address + step < 2 ^ 31 → 0 < next → next < 2 ^ 31 → pos s.line +ℤ (pos low -ℤ pos 4) ≡ pos next
    → drop s.place bytes ≡ opcode_text step low ++ rest → ReadsEntry 1 bytes s (s.address + step) next rest
opcode_near bytes rest s step low next fits few address some next_low is here =
    let code : drop s.place bytes ≡ (10 + low + 15 * step) ∷ rest = rw (le-leb (10 + low + 15 * step) 255 fits) at here in
    record {
      k = 0;
      t = s;
      few = omega arith;
      passes = passes_none bytes s;
      turn = turn_entry bytes rest s step low next few address some next_low is code;
      here = behind_code bytes rest s.place (10 + low + 15 * step) code;
    }

opcode_far : (bytes rest : List ℕ) (s : Spot) (step low next : ℕ) → 255 < 10 + low + 15 * step → low < 15 → s.address + step < 2 ^ 31 → s.line < 2 ^ 31 → 0 < next → next < 2 ^ 31 → pos s.line +ℤ (pos low -ℤ pos 4) ≡ pos next
    → drop s.place bytes ≡ opcode_text step low ++ rest → ReadsEntry 1 bytes s (s.address + step) next rest
opcode_far bytes rest s step low next far few address line some next_low is here =
    let by = uleb_text step in
    let opcode : drop s.place bytes ≡ 1 ∷ (by ++ (10 + low) ∷ rest) = (rw (lt-leb (10 + low + 15 * step) 255 far) at here) ∙ ap (λ (xs : List ℕ). 1 ∷ xs) (append_assoc by ((10 + low) ∷ []) rest) in
    let t = spot (s.place + 1 + length by) (s.address + step) s.line in
    let plain : 10 + low ≡ 10 + low + 15 * 0 = omega arith in
    let code : drop t.place bytes ≡ (10 + low + 15 * 0) ∷ rest = behind_here bytes by ((10 + low) ∷ rest) (s.place + 1) (behind_code bytes (by ++ (10 + low) ∷ rest) s.place 1 opcode) ∙ ap (λ (n : ℕ). n ∷ rest) plain in
    let stays : s.address + step + 0 ≡ s.address + step = omega arith in
    record {
      k = 1;
      t = t;
      few = omega arith;
      passes = passes_one bytes s t (turn_address bytes ((10 + low) ∷ rest) s step address line opcode);
      turn = turn_entry bytes rest t 0 low next few (omega (arith, address)) some next_low is code ∙ ap (λ (a : ℕ). EntersAt (spot (t.place + 1) a next)) stays;
      here = behind_code bytes rest t.place (10 + low + 15 * 0) code;
    }

pub reads_entry : (bytes rest : List ℕ) (s : Spot) (at next : ℕ) → s.address ≤ at → at < 2 ^ 31 → s.line < 2 ^ 31 → 0 < next → next < 2 ^ 31 → drop s.place bytes ≡ entry_text s.address s.line at next ++ rest → ReadsEntry 2 bytes s at next rest
unfolding entry_text
reads_entry bytes rest s at next behind at_low line some next_low here =
    let step = at - s.address in
    let low = digit s.line next in
    let parts : drop s.place bytes ≡ line_text s.line next ++ (opcode_text step low ++ rest) = here ∙ append_assoc (line_text s.line next) (opcode_text step low) rest in
    let first = has_line (is_near s.line next) bytes (opcode_text step low ++ rest) s next refl (omega (arith, behind, at_low)) line next_low parts in
    let there : first.t.address + step ≡ at = omega (arith, first.address_is, behind) in
    let second : ReadsEntry 1 bytes first.t (first.t.address + step) next rest = elim (cases_lt 255 (10 + low + 15 * step)) [
      | inl far ↦ opcode_far bytes rest first.t step low next far first.low (omega (arith, there, at_low)) first.line_low some next_low first.line_is first.here
      | inr fits ↦ opcode_near bytes rest first.t step low next fits first.low (omega (arith, there, at_low)) some next_low first.line_is first.here
    ] in
    let entry : ReadsEntry 1 bytes first.t at next rest = subst (λ (a : ℕ). ReadsEntry 1 bytes first.t a next rest) there second in
    record {
      k = first.k + entry.k;
      t = entry.t;
      few = omega (arith, first.few, entry.few);
      passes = passes_then bytes first.k entry.k s first.t entry.t first.passes entry.passes;
      turn = entry.turn;
      here = entry.here;
    }
