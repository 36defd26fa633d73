-- The instructions of a sweep begin one behind another, and regions may be asked for more types.
use Rattle.std.proofs.Common.{◌≡◌, ◌≤◌, ◌<◌, ◌^◌, ℕ, suc, ◌+◌, ◌*◌, ◌/◌, Bool, true, false, cond, List, [], ◌∷◌, length, drop, Option, Some, None, subst, arith}
use Rattle.std.specs.Prelude.{◌==◌, ◌%◌}
use Rattle.std.specs.Option.{option_map}
use Rattle.lemmas.proofs.Options.{some_same, before_map}
use Rattle.insn_set.specs.declared.format.Format.{Format}
use Rattle.insn_set.specs.declared.format.Format.TheVariants.{F10x, F12x, F11n, F11x, F10t, F20t, F22x, F21t, F21s, F21h, F21c, F23x, F22b, F22t, F22s, F22c, F30t, F32x, F31i, F31t, F31c, F35c, F3rc, F51l}
use Rattle.insn_set.specs.Formats.{format_units}
use Rattle.line_tables.specs.Text.{AscendsFrom}
use Rattle.program_model.specs.declared.body.Handler.{Handler}
use Rattle.program_model.specs.declared.body.Region.{Region}
use Rattle.code_read.specs.Opcodes.{format_at}
use Rattle.code_read.specs.Payloads.{payload_size}
use Rattle.code_read.specs.Sweep.{Piece, payload_kind, piece_size, only_fills, instructions, starts_of}
use Rattle.dex_defs.specs.Sweep.{Places, PiecesTo}
use Rattle.dex_defs.specs.Handlers.{Try, AreHandlers, AreRegions}

-- ---- a piece has a unit

some_units : (f : Format) → 0 < format_units f
some_units F10x = omega arith
some_units F12x = omega arith
some_units F11n = omega arith
some_units F11x = omega arith
some_units F10t = omega arith
some_units F20t = omega arith
some_units F22x = omega arith
some_units F21t = omega arith
some_units F21s = omega arith
some_units F21h = omega arith
some_units F21c = omega arith
some_units F23x = omega arith
some_units F22b = omega arith
some_units F22t = omega arith
some_units F22s = omega arith
some_units F22c = omega arith
some_units F30t = omega arith
some_units F32x = omega arith
some_units F31i = omega arith
some_units F31t = omega arith
some_units F31c = omega arith
some_units F35c = omega arith
some_units F3rc = omega arith
some_units F51l = omega arith

some_formatted : (o : Option Format) (n : ℕ) → option_map format_units o ≡ Some n → 0 < n
some_formatted o n h = let f = before_map format_units o n h in subst (λ (k : ℕ). 0 < k) f.1.1 (some_units f.0)

two_kinds : (a b : Bool) (x y n : ℕ) → cond a (Some x) (cond b (Some y) None) ≡ Some n → 0 < x → 0 < y → 0 < n
two_kinds true b x y n h px py = subst (λ (k : ℕ). 0 < k) (some_same x n h) px
two_kinds false true x y n h px py = subst (λ (k : ℕ). 0 < k) (some_same y n h) py
two_kinds false false x y n h px py = absurd cc

three_kinds : (a b c : Bool) (x y z n : ℕ) → cond a (Some x) (cond b (Some y) (cond c (Some z) None)) ≡ Some n → 0 < x → 0 < y → 0 < z → 0 < n
three_kinds true b c x y z n h px py pz = subst (λ (k : ℕ). 0 < k) (some_same x n h) px
three_kinds false b c x y z n h px py pz = two_kinds b c y z n h py pz

some_payload : (kind : ℕ) (us : List ℕ) (n : ℕ) → payload_size kind us ≡ Some n → 0 < n
some_payload kind [] n h = absurd cc
some_payload kind (u ∷ []) n h = absurd cc
some_payload kind (u ∷ size ∷ []) n h = two_kinds (kind == 1) (kind == 2) (4 + 2 * size) (2 + 4 * size) n h (omega arith) (omega arith)
some_payload kind (u ∷ size ∷ low ∷ []) n h = two_kinds (kind == 1) (kind == 2) (4 + 2 * size) (2 + 4 * size) n h (omega arith) (omega arith)
some_payload kind (u ∷ size ∷ low ∷ high ∷ rest) n h = three_kinds (kind == 1) (kind == 2) (kind == 3) (4 + 2 * size) (2 + 4 * size) (4 + (size * (low + 65536 * high) + 1) / 2) n h (omega arith) (omega arith) (omega arith)

by_kind : (b : Bool) (x y : Option ℕ) (n : ℕ) → cond b x y ≡ Some n → (x ≡ Some n → 0 < n) → (y ≡ Some n → 0 < n) → 0 < n
by_kind true x y n h f g = f h
by_kind false x y n h f g = g h

pub some_piece : (us : List ℕ) (n : ℕ) → piece_size us ≡ Some n → 0 < n
some_piece [] n h = absurd cc
some_piece (u ∷ us) n h = by_kind (payload_kind u == 0) (option_map format_units (format_at (u % 256))) (payload_size (payload_kind u) (u ∷ us)) n h
    (some_formatted (format_at (u % 256)) n) (some_payload (payload_kind u) (u ∷ us) n)

-- ---- starts ascend

by_fill : (b : Bool) (low : ℕ) (p : Piece) (ps : List Piece) → AscendsFrom low (starts_of ps) → AscendsFrom low (p.start ∷ starts_of ps) → AscendsFrom low (starts_of (cond b ps (p ∷ ps)))
by_fill true low p ps h g = h
by_fill false low p ps h g = g

pub starts_ascend : (units : List ℕ) (low at : ℕ) (ps : List Piece) (stop : ℕ) → length units < 2 ^ 31 → low ≤ at → PiecesTo units at ps stop → AscendsFrom low (starts_of (instructions ps))
starts_ascend units low at [] stop few from h = tt
starts_ascend units low at (p ∷ ps) stop few from h =
    let some : 0 < length p.text = some_piece (drop at units) (length p.text) h.0.size in
    let start : p.start ≡ at = h.0.start in
    let inside : at + length p.text ≤ length units = h.0.inside in
    by_fill (only_fills (p ∷ ps)) low p (instructions ps)
    (starts_ascend units low (at + length p.text) ps stop few (omega (arith, from)) h.1)
    (omega (arith, from, start), omega (arith, some, start, inside, few), starts_ascend units (suc p.start) (at + length p.text) ps stop few (omega (arith, some, start)) h.1)

-- ---- regions with more types

wider_handlers : (places : Places) (types more : ℕ) → types ≤ more → (pairs : List (ℕ × ℕ)) (hs : List Handler) → AreHandlers places types pairs hs → AreHandlers places more pairs hs
wider_handlers places types more le [] [] h = tt
wider_handlers places types more le [] (x ∷ xs) h = absurd h
wider_handlers places types more le (p ∷ ps) [] h = absurd h
wider_handlers places types more le (p ∷ ps) (x ∷ xs) h =
    (record { kind = h.0.kind; below = omega (arith, h.0.below, le); position = h.0.position }, wider_handlers places types more le ps xs h.1)

pub wider_regions : (bytes : List ℕ) (places : Places) (lists types more : ℕ) → types ≤ more → (ts : List Try) (rs : List Region) → AreRegions bytes places lists types ts rs → AreRegions bytes places lists more ts rs
wider_regions bytes places lists types more le [] [] h = tt
wider_regions bytes places lists types more le [] (r ∷ rs) h = absurd h
wider_regions bytes places lists types more le (t ∷ ts) [] h = absurd h
wider_regions bytes places lists types more le (t ∷ ts) (r ∷ rs) h = (
  record {
    begins = h.0.begins;
    inside = h.0.inside;
    ends = h.0.ends;
    catches = h.0.catches;
    are = h.0.are;
    handlers = wider_handlers places types more le h.0.catches.pairs r.handlers h.0.handlers;
    rest = h.0.rest;
  },
  wider_regions bytes places lists types more le ts rs h.1,
)
