-- Units that are swept have no fault of the sweep, and are swept in one way alone.
use Rattle.std.proofs.Common.{◌≡◌, ◌<◌, ℕ, ◌+◌, true, cond, eqb, List, [], ◌∷◌, length, take, drop, Option, Some, None, refl, sym, ap, subst, ◌∙◌, arith}
use Rattle.std.specs.Prelude.{◌%◌, slice_index}
use Rattle.std.specs.Option.{option_map}
use Rattle.std.proofs.lemmas.Bool.{eq-eqb}
use Rattle.std.proofs.lemmas.List.{get_or-drop}
use Rattle.lemmas.proofs.Options.{some_same, none_some}
use Rattle.insn_set.specs.declared.format.Format.{Format}
use Rattle.insn_set.specs.Formats.{format_units}
use Rattle.code_read.specs.declared.fault.CodeFault.{CodeFault}
use Rattle.code_read.specs.Opcodes.{format_at}
use Rattle.code_read.specs.Payloads.{payload_size}
use Rattle.code_read.specs.Sweep.{Piece, piece_size, payload_kind}
use Rattle.dex_defs.specs.Sweep.{IsPiece, PiecesTo, IsSwept}
use Rattle.dex_defs.specs.CodeFaults.{BadSweep}
use Rattle.dex_defs.specs.CodeFaults as bad
use Rattle.spelled_law.proofs.Once.{two, cons_same}
use Rattle.spelled_law.proofs.Starts.{some_piece}

-- ---- pieces

abbrev piece_made : ℕ → List ℕ → Piece
piece_made start text = record { start = start; text = text }

piece_once : (units : List ℕ) (at : ℕ) (p q : Piece) → IsPiece units at p → IsPiece units at q → p ≡ q
piece_once units at p q a b =
    let long : length p.text ≡ length q.text = some_same (length p.text) (length q.text) (sym a.size ∙ b.size) in
    two piece_made (a.start ∙ sym b.start) (a.text ∙ ap (λ (n : ℕ). take n (drop at units)) long ∙ sym b.text)

-- no piece is empty, so that none stands at the end
some_text : (units : List ℕ) (at : ℕ) (p : Piece) → IsPiece units at p → 0 < length p.text
some_text units at p h = some_piece (drop at units) (length p.text) h.size

pieces_once : (units : List ℕ) (at : ℕ) (ps qs : List Piece) → PiecesTo units at ps (length units) → PiecesTo units at qs (length units) → ps ≡ qs
pieces_once units at [] [] a b = refl
pieces_once units at [] (q ∷ qs) a b = let some = some_text units at q b.0 in let inside = b.0.inside in absurd (omega (arith, a, some, inside))
pieces_once units at (p ∷ ps) [] a b = let some = some_text units at p a.0 in let inside = a.0.inside in absurd (omega (arith, b, some, inside))
pieces_once units at (p ∷ ps) (q ∷ qs) a b =
    let e = piece_once units at p q a.0 b.0 in
    let rest = pieces_once units (at + length p.text) ps qs a.1 (subst (λ (x : Piece). PiecesTo units (at + length x.text) qs (length units)) (sym e) b.1) in
    cons_same e rest

pub swept_once : (units : List ℕ) (ps qs : List Piece) → IsSwept units ps → IsSwept units qs → ps ≡ qs
swept_once units ps qs a b = pieces_once units 0 ps qs a b

-- ---- where a sweep comes to, a piece stands

piece_there : (units : List ℕ) (at : ℕ) (qs ps : List Piece) (unit : ℕ) → unit < length units → PiecesTo units at qs unit → PiecesTo units at ps (length units) → (p : Piece) × IsPiece units unit p
piece_there units at [] [] unit less a b = absurd (omega (arith, less, a, b))
piece_there units at [] (p ∷ ps) unit less a b = (p, subst (λ (n : ℕ). IsPiece units n p) (sym a) b.0)
piece_there units at (q ∷ qs) [] unit less a b = let some = some_text units at q a.0 in let inside = a.0.inside in absurd (omega (arith, b, some, inside))
piece_there units at (q ∷ qs) (p ∷ ps) unit less a b =
    let e = piece_once units at q p a.0 b.0 in
    piece_there units (at + length q.text) qs ps unit less a.1 (subst (λ (x : Piece). PiecesTo units (at + length x.text) ps (length units)) (sym e) b.1)

-- a unit with which an instruction begins has an opcode
has_opcode : (us : List ℕ) (u n : ℕ) → slice_index us 0 ≡ u → payload_kind u ≡ 0 → format_at (u % 256) ≡ None → piece_size us ≡ Some n → ⊥
has_opcode [] u n first kind none size = none_some n size
has_opcode (x ∷ xs) u n first kind none size =
    let plain : eqb (payload_kind x) 0 ≡ true = eq-eqb (payload_kind x) 0 (ap (λ (k : ℕ). payload_kind k) first ∙ kind) in
    let lacks : piece_size (x ∷ xs) ≡ None = ap (λ b. cond b (option_map format_units (format_at (x % 256))) (payload_size (payload_kind x) (x ∷ xs))) plain
    ∙ ap (λ (o : Option Format). option_map format_units o) (ap (λ (k : ℕ). format_at (k % 256)) first ∙ none) in
    none_some n (sym lacks ∙ size)

first_there : (units : List ℕ) (unit : ℕ) → slice_index (drop unit units) 0 ≡ slice_index units unit
first_there units unit = let on : unit + 0 ≡ unit = omega arith in get_or-drop unit units 0 0 ∙ ap (λ (i : ℕ). slice_index units i) on

pub no_sweep : (units : List ℕ) (ps : List Piece) → IsSwept units ps → (f : CodeFault) → BadSweep units f → ⊥
no_sweep units ps swept f (bad.Opcode unit comes kind none is) =
    let p = piece_there units 0 comes.pieces ps unit comes.inside comes.to swept in
    has_opcode (drop unit units) (slice_index units unit) (length p.0.text) (first_there units unit) kind none p.1.size
no_sweep units ps swept f (bad.Cut unit size comes is cut same) =
    let p = piece_there units 0 comes.pieces ps unit comes.inside comes.to swept in
    let long : size ≡ length p.0.text = some_same size (length p.0.text) (sym is ∙ p.1.size) in
    let inside = p.1.inside in
    omega (arith, long, cut, inside)
no_sweep units ps swept f (bad.CutSize unit comes kind none is) =
    let p = piece_there units 0 comes.pieces ps unit comes.inside comes.to swept in
    none_some (length p.0.text) (sym none ∙ p.1.size)
