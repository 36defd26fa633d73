-- The units at which the instructions of a code item begin ascend.
use Rattle.std.proofs.Common.{◌≡◌, ◌≤◌, ◌<◌, ◌+◌, ◌*◌, ◌%◌, ◌/◌, ◌^◌, ℕ, suc, Bool, true, false, List, [], ◌∷◌, length, Option, Some, None, refl, sym, ap, subst, ◌∙◌, arith}
use Rattle.std.specs.Prelude.{drop, ◌==◌, if◌then◌else◌}
use Rattle.std.specs.Option.{option_map}
use Rattle.dex_base.specs.Word.{Is16}
use Rattle.dex_base.specs.Decides.{Each}
use Rattle.insn_set.specs.Formats.{format_units}
use Rattle.insn_set.specs.declared.format.Format.{Format}
use Rattle.insn_set.specs.declared.format.Format.TheVariants.{F10x}
use Rattle.code_read.specs.Opcodes.{format_at}
use Rattle.code_read.specs.Payloads.{payload_size}
use Rattle.line_tables.specs.Text.{AscendsFrom}
use Rattle.program_model.specs.declared.body.Body.{Body}
use Rattle.dex_defs.specs.Sweep.{Piece, Places, PiecesTo, piece_size, payload_kind, only_fills, instructions, starts_of}
use Rattle.dex_defs.specs.CodeItems.{Frame, AreUnits, IsCode}
use Rattle.dex_defs.specs.Instructions.{AreInsns}
use Rattle.insn_set.specs.declared.form.Insn.{Insn}

-- ---- a piece has a unit at least

some_same : (a b : ℕ) → ◌≡◌ {A = Option ℕ} (Some a) (Some b) → a ≡ b
some_same a b e = cc

no_some : (n : ℕ) → ◌≡◌ {A = Option ℕ} None (Some n) → ⊥
no_some n e = cc

format_some : (format : Format) → 0 < format_units format
format_some F10x = omega arith
format_some format = omega arith

two_kinds : (a b : Bool) (size n : ℕ) → (if a then Some (4 + 2 * size) else if b then Some (2 + 4 * size) else None) ≡ Some n → 0 < n
two_kinds true b size n e = omega (arith, some_same (4 + 2 * size) n e)
two_kinds false true size n e = omega (arith, some_same (2 + 4 * size) n e)
two_kinds false false size n e = absurd (no_some n e)

three_kinds : (a b c : Bool) (size other n : ℕ) → (if a then Some (4 + 2 * size) else if b then Some (2 + 4 * size) else if c then Some (4 + other) else None) ≡ Some n → 0 < n
three_kinds true b c size other n e = omega (arith, some_same (4 + 2 * size) n e)
three_kinds false true c size other n e = omega (arith, some_same (2 + 4 * size) n e)
three_kinds false false true size other n e = omega (arith, some_same (4 + other) n e)
three_kinds false false false size other n e = absurd (no_some n e)

payload_some : (kind : ℕ) (us : List ℕ) (n : ℕ) → payload_size kind us ≡ Some n → 0 < n
payload_some kind [] n e = absurd (no_some n e)
payload_some kind (u ∷ []) n e = absurd (no_some n e)
payload_some kind (u ∷ size ∷ []) n e = two_kinds (kind == 1) (kind == 2) size n e
payload_some kind (u ∷ size ∷ low ∷ []) n e = two_kinds (kind == 1) (kind == 2) size n e
payload_some kind (u ∷ size ∷ low ∷ high ∷ rest) n e = three_kinds (kind == 1) (kind == 2) (kind == 3) size ((size * (low + 65536 * high) + 1) / 2) n e

size_some : (us : List ℕ) (n : ℕ) → piece_size us ≡ Some n → 0 < n
size_some [] n e = absurd (no_some n e)
size_some (u ∷ us) n e = by (payload_kind u == 0) e
  where
    by_format : (o : Option Format) → option_map format_units o ≡ Some n → 0 < n
    by_format None e = absurd (no_some n e)
    by_format (Some f) e = omega (arith, format_some f, some_same (format_units f) n e)

    by : (b : Bool) → (if b then option_map format_units (format_at (u % 256)) else payload_size (payload_kind u) (u ∷ us)) ≡ Some n → 0 < n
    by true e = by_format (format_at (u % 256)) e
    by false e = payload_some (payload_kind u) (u ∷ us) n e

-- ---- pieces one behind another

pieces_end : (units : List ℕ) (at stop : ℕ) (ps : List Piece) → PiecesTo units at ps stop → at ≤ stop
pieces_end units at stop [] h = omega (arith, h)
pieces_end units at stop (p ∷ ps) h = omega (arith, pieces_end units (at + length p.text) stop ps h.1)

rises : (units : List ℕ) (at stop low : ℕ) (ps : List Piece) → PiecesTo units at ps stop → low ≤ at → stop < 2 ^ 31 → AscendsFrom low (starts_of (instructions ps))
rises units at stop low [] h le lt = tt
rises units at stop low (p ∷ ps) h le lt =
    let some : 0 < length p.text = size_some (drop at units) (length p.text) h.0.size in
    let on : at + length p.text ≤ stop = pieces_end units (at + length p.text) stop ps h.1 in
    by (only_fills (p ∷ ps)) (rises units (at + length p.text) stop low ps h.1 (omega (arith, le)) lt) (omega (arith, le, h.0.start), omega (arith, h.0.start, on, lt), rises units (at + length p.text) stop (suc p.start) ps h.1 (omega (arith, h.0.start, some)) lt)
  where
    by : (b : Bool) → AscendsFrom low (starts_of (instructions ps)) → (low ≤ p.start) × (p.start < 2 ^ 31) × AscendsFrom (suc p.start) (starts_of (instructions ps)) → AscendsFrom low (starts_of (if b then instructions ps else p ∷ instructions ps))
    by true a c = a
    by false a c = c

-- ---- the units of a code item

units_inside : (bytes : List ℕ) (at from : ℕ) (us : List ℕ) → 0 < length us → Each (λ i unit. Is16 bytes (at + 16 + 2 * i) unit) from us → at + 16 + 2 * (from + length us) ≤ length bytes
units_inside bytes at from [] some e = absurd (omega (arith, some))
units_inside bytes at from (u ∷ []) some e = omega (arith, e.0.inside)
units_inside bytes at from (u ∷ v ∷ us) some e = omega (arith, units_inside bytes at (suc from) (v ∷ us) (omega arith) e.1)

units_few : (bytes : List ℕ) (at : ℕ) (us : List ℕ) → length bytes < 2 ^ 32 → AreUnits bytes at us → length us < 2 ^ 31
units_few bytes at [] few e = omega arith
units_few bytes at (u ∷ us) few e = omega (arith, few, units_inside bytes at 0 (u ∷ us) (omega arith) e)

pub starts_rise : (bytes : List ℕ) (types at : ℕ) (f : Frame) (places : Places) (body : Body) → length bytes < 2 ^ 32 → IsCode bytes types at f places body → AscendsFrom 0 places.starts
starts_rise bytes types at f places body few c =
    subst (λ (x : Places). AscendsFrom 0 x.starts) (sym c.placed) (rises c.units 0 (length c.units) 0 c.pieces c.swept (omega arith) (units_few bytes at c.units few c.are_units))

-- ---- as many begin as there are instructions

many_insns : (places : Places) (ps : List Piece) (xs : List Insn) → AreInsns places ps xs → length (starts_of ps) ≡ length xs
many_insns places [] [] a = refl
many_insns places [] (x ∷ xs) a = absurd a
many_insns places (p ∷ ps) [] a = absurd a
many_insns places (p ∷ ps) (x ∷ xs) a = ap suc (many_insns places ps xs a.1)

pub starts_many : (bytes : List ℕ) (types at : ℕ) (f : Frame) (places : Places) (body : Body) → IsCode bytes types at f places body → length places.starts ≡ length body.insns
starts_many bytes types at f places body c = ap (λ (x : Places). length x.starts) c.placed ∙ many_insns places (instructions c.pieces) body.insns c.insns
