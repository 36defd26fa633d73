-- The sizes with which the instructions of a file stand, each up to where the next one begins, have room for their least spellings.
use Rattle.std.proofs.Common.{◌≡◌, ◌⊎◌, inl, inr, ℕ, zero, suc, ◌+◌, ◌-◌, ◌<◌, ◌≤◌, Bool, true, false, cond, List, [], ◌∷◌, length, take, drop, map, Option, Some, None, refl, sym, ap, subst, ◌∙◌, arith}
use Rattle.std.specs.Prelude.{◌&&◌, ◌||◌, ◌==◌, not, ℤ, pos, negsuc, ◌+ℤ◌, nat_eq, nat_lt, nat_le, leb, slice_get, slice_index, unwrap_or}
use Rattle.std.specs.Option.{option_and_then}
use Rattle.std.proofs.lemmas.Int.{ints}
use Rattle.std.proofs.lemmas.Bool.{cases_lt, cases_eq, lt-ltb, le-ltb, le-leb, leb-true, eqb-true, eqb-false, ne_eqb, or_from}
use Rattle.lemmas.proofs.Bools.{and_left, and_parts, not_true, neither_of}
use Rattle.lemmas.proofs.Options.{some_same, none_some}
use Rattle.insn_set.specs.declared.format.Format.{Format}
use Rattle.insn_set.specs.Formats.{format_units}
use Rattle.insn_set.specs.Spelling.{within, units_of}
use Rattle.insn_set.specs.declared.form.Insn.{Insn}
use Rattle.insn_set.specs.declared.form.Insn.TheVariants as insn
use Rattle.relax.specs.declared.step.Step.TheVariants.{Fixed, Jump}
use Rattle.relax.specs.Sizes.{start, need, RoomFrom}
use Rattle.relax.specs.Far.{spans_far, is_far, first_far}
use Rattle.relax.proofs.Least.{need_cap}
use Rattle.code_read.specs.declared.fields.Fields.{Fields}
use Rattle.code_read.specs.Branches.{is_branch, is_call, offset_form, branch_form, call_form}
use Rattle.code_read.specs.Decoded.{fields_at}
use Rattle.code_read.specs.Fields.{fields, of_units, fields_in}
use Rattle.code_read.specs.Forms.{byte, short, word, plain}
use Rattle.code_read.specs.Opcodes.{from_to, format_at, test_at}
use Rattle.code_read.specs.Payloads.{has_payload}
use Rattle.dex_defs.specs.LaysOut.{step_of}
use Rattle.dex_defs.specs.Sweep.{Piece, Places, IsPiece, PiecesTo, only_fills, instructions, starts_of}
use Rattle.dex_defs.specs.Instructions.{opcode, HasFields, GoesTo, IsBranch, IsInsn, Plain, Branch, Call, Fill, Packed, Sparse, AreInsns}
use Rattle.read_laws.proofs.FieldBounds.{AreUnits, Narrow, First, is_narrow, has_first, of_span, format_passes, units_behind, narrow_at, first_at}
use Rattle.read_laws.proofs.Spelled.{behind}
use Rattle.layout_law.specs.Shorter.{condition_of, is_goto}
use Rattle.layout_law.proofs.Steps.{near_goto, fixed_step, goes_far, far_by, none_further}
use Rattle.layout_law.proofs.Literals.{byte_fits, short_fits}
use Rattle.layout_law.proofs.Units.{fields_long, Small, all_small, has_room, is_two, Fits, plain_fits, call_fits, three_at}

-- ---- the pieces in the order of the units

taken : (n : ℕ) (units : List ℕ) → AreUnits units → AreUnits (take n units)
taken zero [] h i = omega arith
taken zero (u ∷ units) h i = omega arith
taken (suc n) [] h i = omega arith
taken (suc n) (u ∷ units) h zero = h 0
taken (suc n) (u ∷ units) h (suc i) = taken n units (λ k. h (suc k)) i

-- one behind another, from a place on and up to another
abbrev pub Behind : ℕ → List Piece → ℕ → Type 0
Behind low [] stop = low ≤ stop
Behind low (p ∷ ps) stop = (low ≤ p.start) × AreUnits p.text × Behind (p.start + length p.text) ps stop

by_fills : {A : Type 0} (P : A → Type 0) (b : Bool) (x y : A) → P x → P y → P (cond b x y)
by_fills P true x y f g = f
by_fills P false x y f g = g

pub pieces_behind : (units : List ℕ) → AreUnits units → (low at : ℕ) (ps : List Piece) (stop : ℕ) → low ≤ at → PiecesTo units at ps stop → Behind low (instructions ps) stop
pieces_behind units are low at [] stop le s = omega (arith, le, s)
pieces_behind units are low at (p ∷ ps) stop le s =
    let begins : p.start ≡ at = s.0.start in
    by_fills (λ xs. Behind low xs stop) (only_fills (p ∷ ps)) (instructions ps) (p ∷ instructions ps)
    (pieces_behind units are low (at + length p.text) ps stop (omega (arith, le)) s.1)
    (omega (arith, le, begins), subst AreUnits (sym s.0.text) (taken (length p.text) (drop at units) (units_behind at units are)), pieces_behind units are (p.start + length p.text) (at + length p.text) ps stop (omega (arith, begins)) s.1)

-- each up to where the next one begins
abbrev pub gaps : List Piece → ℕ → List ℕ
gaps [] stop = []
gaps (p ∷ []) stop = (stop - p.start) ∷ []
gaps (p ∷ q ∷ ps) stop = (q.start - p.start) ∷ gaps (q ∷ ps) stop

pub gaps_begin : (p : Piece) (ps : List Piece) (low stop : ℕ) → Behind low (p ∷ ps) stop → (k u : ℕ) → slice_get (starts_of (p ∷ ps)) k ≡ Some u → start (gaps (p ∷ ps) stop) k + p.start ≡ u
gaps_begin p ps low stop b zero u e = omega (arith, some_same p.start u e)
gaps_begin p [] low stop b (suc k) u e = none_some u e
gaps_begin p (q ∷ ps) low stop b (suc k) u e =
    let r = gaps_begin q ps (p.start + length p.text) stop b.2 k u e in
    let o : p.start + length p.text ≤ q.start = b.2.0 in
    omega (arith, r, o)

-- ---- how far an offset goes

reach : (from unit b : ℕ) (z : ℤ) → pos unit ≡ pos from +ℤ z → within (negsuc b) (pos b) z ≡ true → (unit - from ≤ b) × (from - unit ≤ suc b)
reach from unit b (pos a) e h = let l = leb-true a b h in (omega (arith, ints, e, l), omega (arith, ints, e, l))
reach from unit b (negsuc a) e h = let l = leb-true a b (and_left (leb a b) true h) in (omega (arith, ints, e, l), omega (arith, ints, e, l))

stays : (from : ℕ) (z : ℤ) → pos from ≡ pos from +ℤ z → z ≡ pos 0
stays from z e = omega (arith, ints, e)

near_one : (ss : List ℕ) (k target : ℕ) → (target ≡ k → ⊥) → start ss target - start ss k ≤ 127 → start ss k - start ss target ≤ 128 → need ss k (Jump target) ≤ 1
near_one ss k target d f b = elim (cases_lt k target) [
  | inl l ↦ rw (ne_eqb target k d, lt-ltb k target l, le-leb (start ss target - start ss k) 127 f) (omega arith)
  | inr m ↦ rw (ne_eqb target k d, le-ltb k target m, le-leb (start ss k - start ss target) 128 b) (omega arith)
]

not_far : (from to : ℕ) → to - from ≤ 32767 → from - to ≤ 32768 → spans_far from to ≡ false
not_far from to f b = or_from (nat_lt 32767 (to - from)) (nat_lt 32768 (from - to)) (le-ltb 32767 (to - from) f) (le-ltb 32768 (from - to) b)

abbrev apart : ℕ → Bool
apart op = not (op == 0x28) && (not (op == 0x29) && not (op == 0x2a))

by_tests : (a b c d : Bool) (x y z v w : ℤ) → a ≡ false → b ≡ false → c ≡ false → cond a x (cond b y (cond c z (cond d v w))) ≡ cond d v w
by_tests true b c d x y z v w e f g = absurd cc
by_tests false true c d x y z v w e f g = absurd cc
by_tests false false true d x y z v w e f g = absurd cc
by_tests false false false d x y z v w e f g = refl

-- instructions with a payload have three units
fill_room : format_passes (has_room 3) 0x26 ≡ true
unfolding format_at
fill_room = refl

packed_room : format_passes (has_room 3) 0x2b ≡ true
unfolding format_at
packed_room = refl

sparse_room : format_passes (has_room 3) 0x2c ≡ true
unfolding format_at
sparse_room = refl

-- ---- an instruction at its place

module _ (places : Places) (ss : List ℕ) (base : ℕ) (begins : (k u : ℕ) → slice_get places.starts k ≡ Some u → start ss k + base ≡ u) where
  -- it has room there, and is no conditional branch that goes too far
  pub record Lies (k n : ℕ) (i : Insn) : Type 0 where
    pub room : need ss k (step_of i) ≤ n
    pub near : is_far ss k i ≡ false

  of_fits : (k n : ℕ) (i : Insn) → Fits n i → Lies k n i
  of_fits k n i h = record {
    room = (let e : need ss k (step_of i) ≡ need ss k (Fixed (units_of i (pos 0))) = ap (need ss k) (fixed_step i h.no_goto) in omega (arith, e, h.units));
    near = far_by ss k i ∙ ap (goes_far ss k) h.no_condition;
  }

  -- where a branch goes
  distance : (k from target unit b : ℕ) (z : ℤ) → slice_get places.starts k ≡ Some from → slice_get places.starts target ≡ Some unit → pos unit ≡ pos from +ℤ z → within (negsuc b) (pos b) z ≡ true
      → (start ss target - start ss k ≤ b) × (start ss k - start ss target ≤ suc b)
  distance k from target unit b z here there e h =
      let r = reach from unit b z e h in
      let f = begins k from here in
      let t = begins target unit there in
      (omega (arith, r.0, f, t), omega (arith, r.1, f, t))

  moves_on : (k from target unit : ℕ) (z : ℤ) → slice_get places.starts k ≡ Some from → slice_get places.starts target ≡ Some unit → pos unit ≡ pos from +ℤ z → (z ≡ pos 0 → ⊥) → target ≡ k → ⊥
  moves_on k from target unit z here there e d same =
      let u : unit ≡ from = some_same unit from (sym there ∙ ap (λ t. slice_get places.starts t) same ∙ here) in
      d (stays from z (ap (λ (m : ℕ). pos m) (sym u) ∙ e))

  module _ (k n : ℕ) (p : Piece) (f : Fields) (here : slice_get places.starts k ≡ Some p.start) (has : HasFields p f) (are : AreUnits p.text) (long : length p.text ≤ n) where
    abbrev op : ℕ
    op = opcode p

    room : (j : ℕ) → format_passes (has_room j) op ≡ true → j ≤ n
    room j h =
        let few = leb-true j (format_units has.format) (sym (ap (has_room j) has.row) ∙ h) in
        omega (arith, few, fields_long (format_units has.format) has.format p.text f has.fields, long)

    fields_are : fields_at p.text 0 ≡ f
    unfolding fields_at
    fields_are = ap (λ (o : Option Format). unwrap_or (option_and_then (λ format. fields_in format p.text) o) (fields 0 0 0 0)) has.row ∙ ap (λ (o : Option Fields). unwrap_or o (fields 0 0 0 0)) has.fields

    narrow : format_passes is_narrow op ≡ true → Narrow f
    narrow h = subst Narrow fields_are (narrow_at p.text are 0 h)

    first : format_passes has_first op ≡ true → First f
    first h = subst First fields_are (first_at p.text are 0 h)

    second : format_passes is_two op ≡ true → Small f
    second h =
        let two : format_units has.format ≡ 2 = eqb-true (format_units has.format) 2 (sym (ap is_two has.row) ∙ h) in
        all_small has.format p.text f are (subst (λ m. of_units m has.format p.text ≡ Some f) two has.fields)

    low : op < 256
    low = omega arith

    three : (m : ℕ) → op ≡ m → format_passes (has_room 3) m ≡ true → 3 ≤ n
    three m e h = three_at op f n low narrow first second room m e h

    plain_lies : (is_branch op || (is_call op || has_payload op)) ≡ false → Lies k n (plain op f)
    plain_lies other =
        let a = neither_of (is_branch op) (is_call op || has_payload op) other in
        let b = neither_of (is_call op) (has_payload op) a.1 in
        of_fits k n (plain op f) (plain_fits op f n low narrow first second room b.0 a.0 b.1)

    call_lies : is_call op ≡ true → Lies k n (call_form op f)
    call_lies is = of_fits k n (call_form op f) (call_fits op f n low narrow first second room is)

    module _ (target unit : ℕ) (goes : pos unit ≡ pos p.start +ℤ offset_form op f) (there : slice_get places.starts target ≡ Some unit) (moves : offset_form op f ≡ pos 0 → op ≡ 0x2a) where
      -- an offset of so many bits, of an opcode that is none of a goto/32
      apart_from : (z : ℤ) → offset_form op f ≡ z → (op ≡ 0x2a → ⊥) → target ≡ k → ⊥
      apart_from z e other = moves_on k p.start target unit (offset_form op f) here there goes (λ h. other (moves h))

      near_by : (b : ℕ) (z : ℤ) → offset_form op f ≡ z → within (negsuc b) (pos b) z ≡ true → (start ss target - start ss k ≤ b) × (start ss k - start ss target ≤ suc b)
      near_by b z e h = distance k p.start target unit b z here there (goes ∙ ap (λ (x : ℤ). pos p.start +ℤ x) e) h

      goto_byte : op ≡ 0x28 → need ss k (Jump target) ≤ n
      unfolding format_at
      goto_byte e =
          let offset : offset_form op f ≡ byte f.a = ap (λ (o : ℕ). offset_form o f) e in
          let d = near_by 127 (byte f.a) offset (byte_fits f.a) in
          let one = room 1 (subst (λ (o : ℕ). format_passes (has_room 1) o ≡ true) (sym e) refl) in
          omega (arith, near_one ss k target (apart_from (byte f.a) offset (λ h. omega (arith, h, e))) d.0 d.1, one)

      goto_short : op ≡ 0x29 → need ss k (Jump target) ≤ n
      unfolding format_at
      goto_short e =
          let offset : offset_form op f ≡ short f.a = ap (λ (o : ℕ). offset_form o f) e in
          let small = second (subst (λ (o : ℕ). format_passes is_two o ≡ true) (sym e) refl) in
          let d = near_by 32767 (short f.a) offset (short_fits f.a small.a) in
          let two = room 2 (subst (λ (o : ℕ). format_passes (has_room 2) o ≡ true) (sym e) refl) in
          omega (arith, near_goto ss k target (apart_from (short f.a) offset (λ h. omega (arith, h, e))) (not_far (start ss k) (start ss target) d.0 d.1), two)

      goto_word : op ≡ 0x2a → need ss k (Jump target) ≤ n
      unfolding format_at
      goto_word e = omega (arith, need_cap ss k (Jump target), three 0x2a e refl)

      goto_lies : from_to op 0x28 0x2a ≡ true → Lies k n (insn.Goto target)
      goto_lies h = record { room = by (op == 0x28) (op == 0x29) refl refl; near = refl }
        where
          span : (0x28 ≤ op) × (op ≤ 0x2a)
          span = let b = and_parts (nat_le 0x28 op) (nat_le op 0x2a) h in (leb-true 0x28 op b.0, leb-true op 0x2a b.1)

          by : (a b : Bool) → (op == 0x28) ≡ a → (op == 0x29) ≡ b → need ss k (Jump target) ≤ n
          by true b e g = goto_byte (eqb-true op 0x28 e)
          by false true e g = goto_short (eqb-true op 0x29 g)
          by false false e g = goto_word (omega (arith, span.0, span.1, eqb-false op 0x28 e, eqb-false op 0x29 g))

      two_units : from_to op 0x32 0x3d ≡ true → 2 ≤ n
      unfolding format_at
      two_units h = room 2 (of_span (format_passes (has_room 2)) 0x32 0x3d op refl h)

      all_fit : from_to op 0x32 0x3d ≡ true → Small f
      unfolding format_at
      all_fit h = second (of_span (format_passes is_two) 0x32 0x3d op refl h)

      if_offset : from_to op 0x32 0x3d ≡ true → offset_form op f ≡ cond (from_to op 0x32 0x37) (short f.c) (short f.b)
      if_offset h =
          let a = and_parts (not (op == 0x28)) (not (op == 0x29) && not (op == 0x2a)) (of_span apart 0x32 0x3d op refl h) in
          let b = and_parts (not (op == 0x29)) (not (op == 0x2a)) a.1 in
          by_tests (op == 0x28) (op == 0x29) (op == 0x2a) (from_to op 0x32 0x37) (byte f.a) (short f.a) (word f.wide) (short f.c) (short f.b) (not_true (op == 0x28) a.0) (not_true (op == 0x29) b.0) (not_true (op == 0x2a) b.1)

      if_near : from_to op 0x32 0x3d ≡ true → spans_far (start ss k) (start ss target) ≡ false
      if_near h =
          let small = all_fit h in
          let d = near_by 32767 (cond (from_to op 0x32 0x37) (short f.c) (short f.b)) (if_offset h) (either (from_to op 0x32 0x37) (short f.c) (short f.b) (short_fits f.c small.c) (short_fits f.b small.b)) in
          not_far (start ss k) (start ss target) d.0 d.1
        where
          either : (b : Bool) (x y : ℤ) → within (negsuc 32767) (pos 32767) x ≡ true → within (negsuc 32767) (pos 32767) y ≡ true → within (negsuc 32767) (pos 32767) (cond b x y) ≡ true
          either true x y h g = h
          either false x y h g = g

      branch_lies : is_branch op ≡ true → Lies k n (branch_form op f target)
      branch_lies is = by (from_to op 0x28 0x2a) (from_to op 0x32 0x37) refl
        where
          by : (a b : Bool) → from_to op 0x28 0x2a ≡ a → Lies k n (cond a (insn.Goto target) (cond b (insn.If (test_at (op - 0x32)) f.a f.b target) (insn.IfZero (test_at (op - 0x38)) f.a target)))
          by true b e = goto_lies e
          by false true e = let h = behind (from_to op 0x28 0x2a) (from_to op 0x32 0x3d) is e in record { room = two_units h; near = if_near h }
          by false false e = let h = behind (from_to op 0x28 0x2a) (from_to op 0x32 0x3d) is e in record { room = two_units h; near = if_near h }

  insn_lies : (k n : ℕ) (p : Piece) (i : Insn) → slice_get places.starts k ≡ Some p.start → AreUnits p.text → length p.text ≤ n → IsInsn places p i → Lies k n i
  insn_lies k n p i here are long (Plain f has other is) = subst (Lies k n) (sym is) (plain_lies k n p f here has are long other)
  insn_lies k n p i here are long (Branch f has branch b) = subst (Lies k n) (sym b.is) (branch_lies k n p f here has are long b.target b.goes.unit b.goes.is b.goes.begins b.moves branch)
  insn_lies k n p i here are long (Call f has call few is) = subst (Lies k n) (sym is) (call_lies k n p f here has are long call)
  insn_lies k n p i here are long (Fill f has op_is h) = subst (Lies k n) (sym h.is) (of_fits k n _ (record { units = three k n p f here has are long 0x26 op_is fill_room; no_goto = refl; no_condition = refl }))
  insn_lies k n p i here are long (Packed f has op_is h) = subst (Lies k n) (sym h.is) (of_fits k n _ (record { units = three k n p f here has are long 0x2b op_is packed_room; no_goto = refl; no_condition = refl }))
  insn_lies k n p i here are long (Sparse f has op_is h) = subst (Lies k n) (sym h.is) (of_fits k n _ (record { units = three k n p f here has are long 0x2c op_is sparse_room; no_goto = refl; no_condition = refl }))

  -- ---- all of them

  pub record AllLie (k : ℕ) (ps : List Piece) (stop : ℕ) (is : List Insn) : Type 0 where
    pub room : RoomFrom ss k (map step_of is) (gaps ps stop)
    pub near : first_far ss k is ≡ None

  next_starts : (k : ℕ) (p : Piece) (ps : List Piece) → ((i : ℕ) → slice_get places.starts (k + i) ≡ slice_get (starts_of (p ∷ ps)) i) → (i : ℕ) → slice_get places.starts (suc k + i) ≡ slice_get (starts_of ps) i
  next_starts k p ps h i = let e : suc k + i ≡ k + suc i = omega arith in ap (λ j. slice_get places.starts j) e ∙ h (suc i)

  first_start : (k : ℕ) (p : Piece) (ps : List Piece) → ((i : ℕ) → slice_get places.starts (k + i) ≡ slice_get (starts_of (p ∷ ps)) i) → slice_get places.starts k ≡ Some p.start
  first_start k p ps h = let e : k ≡ k + 0 = omega arith in ap (λ j. slice_get places.starts j) e ∙ h 0

  pub all_lie : (k low stop : ℕ) (ps : List Piece) (is : List Insn) → Behind low ps stop → AreInsns places ps is → ((i : ℕ) → slice_get places.starts (k + i) ≡ slice_get (starts_of ps) i) → AllLie k ps stop is
  all_lie k low stop [] [] b a h = record { room = tt; near = refl }
  all_lie k low stop [] (i ∷ is) b a h = absurd a
  all_lie k low stop (p ∷ ps) [] b a h = absurd a
  all_lie k low stop (p ∷ []) (i ∷ []) b a h =
      let x = insn_lies k (stop - p.start) p i (first_start k p [] h) b.1 (omega (arith, b.2)) a.0 in
      record { room = (x.room, tt); near = none_further ss k i [] x.near refl }
  all_lie k low stop (p ∷ []) (i ∷ j ∷ is) b a h = absurd a.1
  all_lie k low stop (p ∷ q ∷ ps) (i ∷ is) b a h =
      let x = insn_lies k (q.start - p.start) p i (first_start k p (q ∷ ps) h) b.1 (omega (arith, b.2.0)) a.0 in
      let r = all_lie (suc k) (p.start + length p.text) stop (q ∷ ps) is b.2 a.1 (next_starts k p (q ∷ ps) h) in
      record { room = (x.room, r.room); near = none_further ss k i is x.near r.near }
