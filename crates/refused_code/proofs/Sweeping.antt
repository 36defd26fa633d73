-- A fault of the sweep that is answered stands in the units.
use Rattle.std.proofs.Common.{◌≡◌, ◌≤◌, ◌<◌, ℕ, zero, suc, ◌+◌, ◌-◌, Bool, true, false, cond, leb, ltb, eqb, List, [], ◌∷◌, ◌++◌, length, take, drop, Option, Some, None, Ok, Err, refl, sym, ap, subst, ◌∙◌, arith}
use Rattle.std.specs.Prelude.{◌&&◌, ◌%◌, slice_index}
use Rattle.std.specs.Option.{option_map}
use Rattle.std.proofs.lemmas.Bool.{leb-true, leb-false, ltb-true, lt-ltb, eqb-true}
use Rattle.std.proofs.lemmas.List.{length-take-le, length-drop, drop-drop, get_or-drop}
use Rattle.dex_base.proofs.Decides.{ok_is, not_both}
use Rattle.insn_set.specs.declared.format.Format.{Format}
use Rattle.insn_set.specs.Formats.{format_units}
use Rattle.code_read.specs.declared.fault.CodeFault.TheVariants as code
use Rattle.code_read.specs.Opcodes.{format_at}
use Rattle.code_read.specs.Payloads.{payload_size}
use Rattle.code_read.specs.Sweep.{Piece, piece_size, no_size, whole, size_in, piece, pieces_from, pieces_of, payload_kind}
use Rattle.dex_defs.specs.Sweep.{IsPiece, PiecesTo}
use Rattle.dex_defs.specs.CodeFaults.{Comes, BadSweep}
use Rattle.dex_defs.specs.CodeFaults as bad
use Rattle.spelled_law.proofs.Starts.{some_piece}
use Rattle.refused_law.proofs.Failing.{Fails, sound, fails_with, unless, fails_next}

no_format : (o : Option Format) → option_map format_units o ≡ None → o ≡ None
no_format None e = refl
no_format (Some f) e = absurd cc

-- ---- one piece

on : (n : ℕ) → n + 0 ≡ n
on n = omega arith

positive : (n : ℕ) → eqb n 0 ≡ false → 0 < n
positive zero e = absurd cc
positive (suc n) e = omega arith

pub pieces_more : (units : List ℕ) (at : ℕ) (ps : List Piece) (mid : ℕ) (p : Piece) → PiecesTo units at ps mid → IsPiece units mid p → PiecesTo units at (ps ++ p ∷ []) (mid + length p.text)
pieces_more units at [] mid p h g = subst (λ (n : ℕ). PiecesTo units n (p ∷ []) (mid + length p.text)) h (g, refl)
pieces_more units at (q ∷ qs) mid p h g = (h.0, pieces_more units (at + length q.text) qs mid p h.1 g)

module _ (units : List ℕ) where
  first_there : (at u : ℕ) (us : List ℕ) → u ∷ us ≡ drop at units → slice_index units at ≡ u
  first_there at u us e = sym (get_or-drop at units 0 0 ∙ ap (λ (i : ℕ). slice_index units i) (on at)) ∙ ap (λ (xs : List ℕ). slice_index xs 0) (sym e)

  behind : (at u : ℕ) (us : List ℕ) → u ∷ us ≡ drop at units → us ≡ drop (suc at) units
  behind at u us e = let one : at + 1 ≡ suc at = omega arith in ap (λ (xs : List ℕ). drop 1 xs) e ∙ drop-drop 1 at units ∙ ap (λ (n : ℕ). drop n units) one

  room : (at : ℕ) (rest : List ℕ) → rest ≡ drop at units → length rest ≡ length units - at
  room at rest e = ap (λ (xs : List ℕ). length xs) e ∙ length-drop at units

  module _ (at u : ℕ) (us : List ℕ) (e : u ∷ us ≡ drop at units) (comes : Comes units at) where
    first_is : slice_index units at ≡ u
    first_is = first_there at u us e

    size_there : (o : Option ℕ) → piece_size (u ∷ us) ≡ o → piece_size (drop at units) ≡ o
    size_there o h = ap (λ (xs : List ℕ). piece_size xs) (sym e) ∙ h

    no_opcode : piece_size (u ∷ us) ≡ None → eqb (payload_kind u) 0 ≡ true → BadSweep units (code.Opcode at)
    no_opcode h kind = bad.Opcode at comes (ap (λ (n : ℕ). payload_kind n) first_is ∙ eqb-true (payload_kind u) 0 kind)
        (ap (λ (n : ℕ). format_at (n % 256)) first_is ∙ no_format (format_at (u % 256)) (sym (ap (λ b. cond b (option_map format_units (format_at (u % 256))) (payload_size (payload_kind u) (u ∷ us))) kind) ∙ h)) refl

    no_payload : piece_size (u ∷ us) ≡ None → eqb (payload_kind u) 0 ≡ false → BadSweep units (code.Cut at)
    no_payload h kind = bad.CutSize at comes (subst (λ (n : ℕ). 0 < payload_kind n) (sym first_is) (positive (payload_kind u) kind)) (size_there None h) refl

    by_none : (b : Bool) → eqb (payload_kind u) 0 ≡ b → piece_size (u ∷ us) ≡ None → BadSweep units (cond b (code.Opcode at) (code.Cut at))
    by_none true kind h = no_opcode h kind
    by_none false kind h = no_payload h kind

    cut : (n : ℕ) → piece_size (u ∷ us) ≡ Some n → (ltb 0 n && leb n (length (u ∷ us))) ≡ false → BadSweep units (code.Cut at)
    cut n h untrue =
        let some : ltb 0 n ≡ true = lt-ltb 0 n (some_piece (u ∷ us) n h) in
        let few : leb n (length (u ∷ us)) ≡ false = sym (ap (λ b. b && leb n (length (u ∷ us))) some) ∙ untrue in
        bad.Cut at n comes (size_there (Some n) h) (omega (arith, leb-false n (length (u ∷ us)) few, room at (u ∷ us) e, comes.inside)) refl

    fails_whole : (o : Option ℕ) → piece_size (u ∷ us) ≡ o → Fails (BadSweep units) (whole at u (length (u ∷ us)) o)
    fails_whole None h = fails_with (no_size at u) (by_none (eqb (payload_kind u) 0) refl h)
    fails_whole (Some n) h = unless (code.Cut at) (cut n h) (λ _. sound n)

    fails_size : Fails (BadSweep units) (size_in at (u ∷ us))
    fails_size = fails_whole (piece_size (u ∷ us)) refl

    size_read : (o : Option ℕ) (n : ℕ) → whole at u (length (u ∷ us)) o ≡ Ok n → (o ≡ Some n) × (0 < n) × (n ≤ length (u ∷ us))
    size_read None n h = absurd (not_both (no_size at u) n h)
    size_read (Some k) n h = by_test (ltb 0 k) (leb k (length (u ∷ us))) refl refl h
      where
        by_test : (a b : Bool) → ltb 0 k ≡ a → leb k (length (u ∷ us)) ≡ b → cond (a && b) (Ok k) (Err (code.Cut at)) ≡ Ok n → (Some k ≡ Some n) × (0 < n) × (n ≤ length (u ∷ us))
        by_test true true ea eb g = let same : k ≡ n = ok_is k n g in (ap (λ (j : ℕ). Some j) same, subst (λ (j : ℕ). 0 < j) same (ltb-true 0 k ea), subst (λ (j : ℕ). j ≤ length (u ∷ us)) same (leb-true k (length (u ∷ us)) eb))
        by_test true false ea eb g = absurd (not_both (code.Cut at) n g)
        by_test false b ea eb g = absurd (not_both (code.Cut at) n g)

    is_piece : (n : ℕ) → piece_size (u ∷ us) ≡ Some n → n ≤ length (u ∷ us) → at ≤ length units → IsPiece units at (piece at (u ∷ us) n)
    is_piece n h few low =
        let many : length (take n (u ∷ us)) ≡ n = length-take-le n (u ∷ us) few in record {
          start = refl;
          size = size_there (Some n) h ∙ ap (λ (k : ℕ). Some k) (sym many);
          inside = omega (arith, many, few, room at (u ∷ us) e, low);
          text = ap (λ (k : ℕ). take k (u ∷ us)) (sym many) ∙ ap (λ (xs : List ℕ). take (length (take n (u ∷ us))) xs) e;
        }

  -- ---- all pieces

  fails_from : (at left : ℕ) (rest : List ℕ) (front : List Piece) → rest ≡ drop at units → at ≤ length units → left ≤ length rest → PiecesTo units 0 front (at + left) → Fails (BadSweep units) (pieces_from at left rest)
  fails_from at left [] front e low few h = sound []
  fails_from at (suc left) (u ∷ us) front e low few h =
      let next : at + suc left ≡ suc at + left = omega arith in
      fails_from (suc at) left us front (behind at u us e) (omega (arith, room at (u ∷ us) e)) (omega (arith, few)) (subst (λ (n : ℕ). PiecesTo units 0 front n) next h)
  fails_from at zero (u ∷ us) front e low few h =
      let here : PiecesTo units 0 front at = subst (λ (n : ℕ). PiecesTo units 0 front n) (on at) h in
      let comes : Comes units at = record { pieces = front; to = here; inside = omega (arith, room at (u ∷ us) e) } in
      fails_next (fails_size at u us e comes) (λ size got.
      let is = size_read at u us e comes (piece_size (u ∷ us)) size got in
      let p : Piece = piece at (u ∷ us) size in
      let many : length p.text ≡ size = length-take-le size (u ∷ us) is.2 in
      let next : at + length p.text ≡ suc at + (size - 1) = omega (arith, many, is.1) in
      fails_next (fails_from (suc at) (size - 1) us (front ++ p ∷ []) (behind at u us e) (omega (arith, room at (u ∷ us) e)) (omega (arith, is.2))
      (subst (λ (n : ℕ). PiecesTo units 0 (front ++ p ∷ []) n) next (pieces_more units 0 front at p here (is_piece at u us e comes size is.0 is.2 low)))) (λ ps _. sound (p ∷ ps)))

  pub fails_pieces : Fails (BadSweep units) (pieces_of units)
  fails_pieces = fails_from 0 0 units [] refl (omega arith) (omega arith) refl
