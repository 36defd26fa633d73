-- The pieces of a sweep stand in the units one behind another.
use Rattle.std.proofs.Common.{◌≡◌, ◌≤◌, ◌<◌, ℕ, zero, suc, ◌+◌, ◌-◌, Bool, true, false, cond, leb, ltb, eqb, List, [], ◌∷◌, length, take, drop, Option, Some, None, refl, sym, ap, subst, ◌∙◌, arith}
use Rattle.std.specs.Prelude.{◌&&◌, ◌||◌, ◌%◌, not, slice_index, unwrap_or}
use Rattle.std.specs.Option.{option_map, option_and_then}
use Rattle.std.specs.List.{AllByRecursion}
use Rattle.std.proofs.lemmas.Bool.{ltb-true, leb-true}
use Rattle.std.proofs.lemmas.List.{length-take-le, length-drop, drop-drop, get_or-drop}
use Rattle.lemmas.proofs.Bools.{not_false, or_false_left}
use Rattle.lemmas.proofs.Options.{some_same}
use Rattle.class_defs.proofs.WellFormed.{and_left, and_right}
use Rattle.insn_set.specs.declared.format.Format.{Format}
use Rattle.insn_set.specs.Formats.{format_units}
use Rattle.code_read.specs.declared.fields.Fields.{Fields}
use Rattle.code_read.specs.Fields.{fields_in, fields as no_fields}
use Rattle.code_read.specs.Opcodes.{format_at}
use Rattle.code_read.specs.Payloads.{payload_size}
use Rattle.code_read.specs.Decoded.{opcode_at, fields_at}
use Rattle.code_read.specs.Sweep.{Piece, piece_size, whole, size_in, piece, pieces_from, pieces_of, payload_kind, first_unit, is_payload, is_nop, only_fills, instructions}
use Rattle.dex_defs.specs.Sweep.{IsPiece, PiecesTo, IsSwept}
use Rattle.dex_defs.specs.Instructions.{opcode, HasFields}
use Rattle.file_laws.specs.Founds.{Founds}
use Rattle.file_laws.proofs.Fronts.{front_fields}
use Rattle.file_laws.proofs.Founding.{weaker, done, failed, when, next}

record IsSize (size : Option ℕ) (here n : ℕ) : Type 0 where
  is : size ≡ Some n
  some : 0 < n
  inside : n ≤ here

founds_whole : (at unit here : ℕ) (size : Option ℕ) → Founds (IsSize size here) (whole at unit here size)
founds_whole at unit here None = failed _
founds_whole at unit here (Some n) = weaker (whole at unit here (Some n)) (when _ (done n))
    (λ y p. rw p.1 (record { is = refl; some = ltb-true _ _ (and_left (ltb 0 n) (leb n here) p.0); inside = leb-true _ _ (and_right (ltb 0 n) (leb n here) p.0) }))

founds_size : (at : ℕ) (units : List ℕ) → Founds (IsSize (piece_size units) (length units)) (size_in at units)
founds_size at units = founds_whole at (slice_index units 0) (length units) (piece_size units)

-- one unit on
behind : (units : List ℕ) (at u : ℕ) (us : List ℕ) → u ∷ us ≡ drop at units → us ≡ drop (suc at) units
behind units at u us e = let one : 1 + at ≡ suc at = omega arith in let same : at + 1 ≡ suc at = omega arith in ap (λ (xs : List ℕ). drop 1 xs) e ∙ drop-drop 1 at units ∙ ap (λ (n : ℕ). drop n units) same

room : (units : List ℕ) (at : ℕ) (rest : List ℕ) → rest ≡ drop at units → length rest ≡ length units - at
room units at rest e = ap (λ (xs : List ℕ). length xs) e ∙ length-drop at units

-- a piece stands where it begins, and has a unit
pub record Lies (units : List ℕ) (p : Piece) : Type 0 where
  pub is : IsPiece units p.start p
  pub some : 0 < length p.text

pub record Swept (units : List ℕ) (at : ℕ) (ps : List Piece) (stop : ℕ) : Type 0 where
  pub to : PiecesTo units at ps stop
  pub lie : AllByRecursion (Lies units) ps
  pub few : at + length ps ≤ stop

by_kind : (b : Bool) (x y : Option ℕ) (n : ℕ) → b ≡ true → cond b x y ≡ Some n → x ≡ Some n
by_kind true x y n e h = h
by_kind false x y n e h = absurd cc

on : (n : ℕ) → n + 0 ≡ n
on n = omega arith

founds_from : (units : List ℕ) (at left : ℕ) (rest : List ℕ) → rest ≡ drop at units → at ≤ length units → left ≤ length rest
    → Founds (λ ps. Swept units (at + left) ps (length units)) (pieces_from at left rest)
founds_from units at left [] e low few = weaker (pieces_from at left []) (done [])
    (λ ps p. subst (λ qs. Swept units (at + left) qs (length units)) (sym p) (record { to = omega (arith, room units at [] e, low, few); lie = tt; few = omega (arith, room units at [] e, low, few) }))
founds_from units at (suc left) (u ∷ us) e low few =
    weaker (pieces_from (suc at) left us) (founds_from units (suc at) left us (behind units at u us e) (omega (arith, room units at (u ∷ us) e)) (omega (arith, few)))
    (λ ps p. subst (λ n. Swept units n ps (length units)) (omega arith) p)
founds_from units at zero (u ∷ us) e low few = weaker (pieces_from at zero (u ∷ us))
    (next (founds_size at (u ∷ us)) (λ size is. next (founds_from units (suc at) (size - 1) us (behind units at u us e) (omega (arith, room units at (u ∷ us) e)) (omega (arith, is.inside))) (λ ps _. done (piece at (u ∷ us) size ∷ ps))))
    (λ ps p.
    let size : ℕ = p.0 in
    let many : length (take size (u ∷ us)) ≡ size = length-take-le size (u ∷ us) p.1.inside in
    let zero_on : at ≡ at + 0 = omega arith in
    let text : List ℕ = take size (u ∷ us) in
    let stands : IsPiece units at (piece at (u ∷ us) size) = record {
      start = refl;
      size = ap (λ (xs : List ℕ). piece_size xs) (sym e) ∙ p.1.is ∙ ap (λ (n : ℕ). Some n) (sym many);
      inside = omega (arith, many, p.1.inside, room units at (u ∷ us) e, low);
      text = ap (λ (n : ℕ). take n (u ∷ us)) (sym many) ∙ ap (λ (xs : List ℕ). take (length text) xs) e;
    } in
    let rest : Swept units (at + length text) p.2.0 (length units) = subst (λ n. Swept units n p.2.0 (length units)) (omega (arith, many, p.1.some)) p.2.1 in
    let some : 0 < length text = omega (arith, many, p.1.some) in
    subst (λ qs. Swept units (at + 0) qs (length units)) (sym p.2.2) (subst (λ n. Swept units n (piece at (u ∷ us) size ∷ p.2.0) (length units)) zero_on (record {
      to = (stands, rest.to);
      lie = (record { is = stands; some = some }, rest.lie);
      few = omega (arith, rest.few, some);
    })))

pub founds_swept : (units : List ℕ) → Founds (λ ps. Swept units 0 ps (length units)) (pieces_of units)
founds_swept units = founds_from units 0 0 units refl (omega arith) (omega arith)

pub founds_pieces : (units : List ℕ) → Founds (IsSwept units) (pieces_of units)
founds_pieces units = weaker (pieces_of units) (founds_swept units) (λ ps h. h.to)

-- ---- instructions

-- an instruction of the sweep: its fields are those at its unit
pub record Instructed (units : List ℕ) (p : Piece) : Type 0 where
  pub opcode_is : opcode_at units p.start ≡ opcode p
  pub fields_are : HasFields p (fields_at units p.start)

-- what a piece at the front is
record Front (units : List ℕ) (p : Piece) : Type 0 where
  first : slice_index units 0 ≡ first_unit p
  fields : HasFields p (unwrap_or (option_and_then (λ format. fields_in format units) (format_at (slice_index units 0 % 256))) (no_fields 0 0 0 0))

abbrev no_number : Option ℕ
no_number = None

none_size : (n : ℕ) → no_number ≡ Some n → ⊥
none_size n e = absurd cc

front_first : (u : ℕ) (us : List ℕ) (n : ℕ) → 0 < n → slice_index (take n (u ∷ us)) 0 ≡ u
front_first u us zero h = absurd (omega (arith, h))
front_first u us (suc n) h = refl

by_format : (u : ℕ) (us : List ℕ) (p : Piece) (read : Option Format) → read ≡ format_at (u % 256) → option_map format_units read ≡ Some (length p.text) → length p.text ≤ length (u ∷ us) → p.text ≡ take (length p.text) (u ∷ us)
    → first_unit p ≡ u → HasFields p (unwrap_or (option_and_then (λ format. fields_in format (u ∷ us)) read) (no_fields 0 0 0 0))
by_format u us p None e size few text first = absurd (none_size (length p.text) size)
by_format u us p (Some format) e size few text first =
    let n : format_units format ≡ length p.text = some_same (format_units format) (length p.text) size in
    let f = front_fields format (u ∷ us) (omega (arith, n, few)) in
    record {
      format = format;
      row = ap (λ (k : ℕ). format_at (k % 256)) first ∙ sym e;
      fields = ap (λ (xs : List ℕ). fields_in format xs) (text ∙ ap (λ (k : ℕ). take k (u ∷ us)) (sym n)) ∙ f.own ∙ ap (λ (o : Option Fields). Some (unwrap_or o (no_fields 0 0 0 0))) (sym f.front);
    }

front : (units : List ℕ) (p : Piece) → piece_size units ≡ Some (length p.text) → length p.text ≤ length units → p.text ≡ take (length p.text) units → 0 < length p.text → is_payload p ≡ false → Front units p
front [] p size few text some other = absurd (none_size (length p.text) size)
front (u ∷ us) p size few text some other =
    let first : first_unit p ≡ u = ap (λ (xs : List ℕ). slice_index xs 0) text ∙ front_first u us (length p.text) some in
    let kind : eqb (payload_kind u) 0 ≡ true = not_false (eqb (payload_kind u) 0) (ap (λ (k : ℕ). not (eqb (payload_kind k) 0)) (sym first) ∙ other) in
    record { first = sym first; fields = by_format u us p (format_at (u % 256)) refl (by_kind (eqb (payload_kind u) 0) (option_map format_units (format_at (u % 256))) (payload_size (payload_kind u) (u ∷ us)) (length p.text) kind size) few text first }

instructed : (units : List ℕ) (p : Piece) → Lies units p → is_payload p ≡ false → Instructed units p
unfolding fields_at
instructed units p lies other =
    let f = front (drop p.start units) p lies.is.size (omega (arith, lies.is.inside, length-drop p.start units)) lies.is.text lies.some other in
    let here : slice_index (drop p.start units) 0 ≡ slice_index units p.start = get_or-drop p.start units 0 0 ∙ ap (λ (i : ℕ). slice_index units i) (on p.start) in
    record {
      opcode_is = ap (λ (u : ℕ). u % 256) (sym here ∙ f.first);
      fields_are = subst (λ u. HasFields p (unwrap_or (option_and_then (λ format. fields_in format (drop p.start units)) (format_at (u % 256))) (no_fields 0 0 0 0))) here f.fields;
    }

by_fills : {A : Type 0} (P : A → Type 0) (b : Bool) (x y : A) → (b ≡ true → P x) → (b ≡ false → P y) → P (cond b x y)
by_fills P true x y f g = f refl
by_fills P false x y f g = g refl

pub are_instructed : (units : List ℕ) (ps : List Piece) → AllByRecursion (Lies units) ps → AllByRecursion (Instructed units) (instructions ps)
are_instructed units [] h = tt
are_instructed units (p ∷ ps) h =
    let rest = are_instructed units ps h.1 in
    by_fills (AllByRecursion (Instructed units)) (only_fills (p ∷ ps)) (instructions ps) (p ∷ instructions ps) (λ e. rest) (λ e. (instructed units p h.0 (or_false_left (is_payload p) (is_nop p && only_fills ps) e), rest))

pub fewer : (ps : List Piece) → length (instructions ps) ≤ length ps
fewer [] = omega arith
fewer (p ∷ ps) =
    let rest = fewer ps in
    by_fills (λ xs. length xs ≤ suc (length ps)) (only_fills (p ∷ ps)) (instructions ps) (p ∷ instructions ps) (λ e. omega (arith, rest)) (λ e. omega (arith, rest))
