-- A fault of a payload or of an operand that is answered stands in the units.
use Rattle.std.proofs.Common.{◌≡◌, ◌≤◌, ◌<◌, ◌⊎◌, inl, inr, ℕ, zero, suc, ◌+◌, ◌-◌, ◌*◌, Bool, true, false, cond, ltb, eqb, List, [], ◌∷◌, length, drop, Some, None, Result, Ok, refl, sym, ap, subst, ◌∙◌, arith, true≢false}
use Rattle.std.specs.Prelude.{◌&&◌, ◌||◌, ◌%◌, ℤ, slice_get, slice_index}
use Rattle.std.specs.List.{AllByRecursion, list_any}
use Rattle.std.specs.Int.Signed.{lt_z}
use Rattle.std.proofs.lemmas.Bool.{leb-false, ltb-false, eqb-true, eq-eqb}
use Rattle.std.proofs.lemmas.List.{drop-drop}
use Rattle.lemmas.proofs.Options.{some_same}
use Rattle.insn_set.specs.Spelling.{is_width, keys_ascend}
use Rattle.insn_set.specs.declared.form.Insn.{Insn}
use Rattle.insn_set.specs.declared.form.Insn.TheVariants.{Goto, If, IfZero, FillArray, PackedSwitch, SparseSwitch}
use Rattle.insn_set.specs.declared.ops.Test.{Test}
use Rattle.program_model.specs.declared.limits.Counted.TheVariants.{Cells}
use Rattle.code_read.specs.declared.fault.CodeFault.{CodeFault}
use Rattle.code_read.specs.declared.fault.CodeFault.TheVariants as code
use Rattle.code_read.specs.declared.fields.Fields.{Fields}
use Rattle.code_read.specs.declared.sizes.Sizes.{Sizes}
use Rattle.code_read.specs.Branches as c
use Rattle.code_read.specs.Opcodes.{from_to, test_at}
use Rattle.code_read.specs.Checks.{operands_inside}
use Rattle.code_read.specs.Fault.{passed}
use Rattle.code_read.specs.Forms.{plain}
use Rattle.code_read.specs.Payloads.{has_payload, is_right, keys_in, signed_in, size_of, table_form}
use Rattle.code_read.specs.Positions.{no_less, payload_at, target_from}
use Rattle.code_read.specs.Decoded.{opcode_at, fields_at, units_from, payload_of, entries_of, entries_at, check_payloads, branch_at, insn_of, insn_at, checked_at, insns_from}
use Rattle.dex_defs.specs.Sweep.{Piece, Places, starts_of}
use Rattle.dex_defs.specs.Instructions as d
use Rattle.dex_defs.specs.CodeFaults.{BadPayload, BadOperand, kind_for}
use Rattle.dex_defs.specs.CodeFaults as bad
use Rattle.file_laws.specs.Founds.{Founds}
use Rattle.file_laws.proofs.Founding.{weaker, done, when, next}
use Rattle.file_laws.proofs.Sweeping.{Instructed}
use Rattle.file_laws.proofs.Insns.{IsKind, ACall, ABranch, ATable, APlain, founds_kind}
use Rattle.file_laws.proofs.Payloads.{Found, found_payload, at_drop, is_payload, signed_there}
use Rattle.refused_law.proofs.Defs.{and_none}
use Rattle.refused_law.proofs.Failing.{Fails, sound, fails_with, unless, fails_either, fails_next}

-- ---- which opcodes have a payload

pub either_true : (a b : Bool) {A B : Type 0} → (a || b) ≡ true → (a ≡ true → A) → (b ≡ true → B) → A ⊎ B
either_true true b h f g = inl (f refl)
either_true false b h f g = inr (g h)

abbrev pub IsTable : ℕ → Type 0
IsTable op = (op ≡ 0x26) ⊎ ((op ≡ 0x2b) ⊎ (op ≡ 0x2c))

pub is_table : (op : ℕ) → has_payload op ≡ true → IsTable op
is_table op h = either_true (eqb op 0x26) (eqb op 0x2b || eqb op 0x2c) h (eqb-true op 0x26) (λ g. either_true (eqb op 0x2b) (eqb op 0x2c) g (eqb-true op 0x2b) (eqb-true op 0x2c))

other_than : (m n : ℕ) → eqb m n ≡ false → m ≡ n → ⊥
other_than m n e is = true≢false (sym (eq-eqb m n is) ∙ e)

-- ---- keys

record KeysFail (n : ℕ) (us : List ℕ) : Type 0 where
  k : ℕ
  inside : suc k < n
  fails : lt_z (signed_in (drop (2 * k) us)) (signed_in (drop (2 * suc k) us)) ≡ false

keys_fail : (n : ℕ) (us : List ℕ) → keys_ascend (keys_in n us) ≡ false → KeysFail n us
keys_fail zero us h = absurd cc
keys_fail (suc zero) us h = absurd cc
keys_fail (suc (suc n)) us h = by_first (and_none (lt_z (signed_in us) (signed_in (drop 2 us))) (keys_ascend (keys_in (suc n) (drop 2 us))) h) (keys_fail (suc n) (drop 2 us))
  where
    further : (j : ℕ) → drop (2 * j) (drop 2 us) ≡ drop (2 * suc j) us
    further j = let e : 2 + 2 * j ≡ 2 * suc j = omega arith in drop-drop (2 * j) 2 us ∙ ap (λ (m : ℕ). drop m us) e

    by_first : (lt_z (signed_in us) (signed_in (drop 2 us)) ≡ false) ⊎ (keys_ascend (keys_in (suc n) (drop 2 us)) ≡ false) → (keys_ascend (keys_in (suc n) (drop 2 us)) ≡ false → KeysFail (suc n) (drop 2 us)) → KeysFail (suc (suc n)) us
    by_first (inl e) rest = record { k = 0; inside = omega arith; fails = e }
    by_first (inr e) rest = let r = rest e in record {
      k = suc r.k;
      inside = omega (arith, r.inside);
      fails = ap (λ (xs : List ℕ). lt_z (signed_in xs) (signed_in (drop (2 * suc (suc r.k)) us))) (sym (further r.k)) ∙ ap (λ (xs : List ℕ). lt_z (signed_in (drop (2 * r.k) (drop 2 us))) (signed_in xs)) (sym (further (suc r.k))) ∙ r.fails;
    }

-- ---- payloads

module _ (places : Places) (p : Piece) (f : Fields) where
  abbrev payload : List ℕ
  payload = payload_of places p.start f

  named : (code unit : ℕ) → d.IsPayloadOf places p.start f code unit → payload_of places p.start f ≡ drop unit places.units
  unfolding payload_of
  named code unit is = ap (λ (z : ℤ). units_from places.units (payload_at places.payloads (no_less z))) (sym is.is)
      ∙ ap (λ (b : Bool). units_from places.units (cond (b && list_any (λ u. eqb u unit) places.payloads) (Some unit) None)) (eq-eqb (unit % 2) 0 is.even)
      ∙ ap (λ (b : Bool). units_from places.units (cond b (Some unit) None)) is.begins

  first_of : (code unit : ℕ) → d.IsPayloadOf places p.start f code unit → slice_index payload 0 ≡ 256 * code
  first_of code unit is = let on : unit + 0 ≡ unit = omega arith in ap (λ (us : List ℕ). slice_index us 0) (named code unit is) ∙ at_drop places.units unit 0 ∙ ap (λ (i : ℕ). slice_index places.units i) on ∙ is.kind

  missing : (kind : ℕ) → kind ≡ kind_for (d.opcode p) → eqb (slice_index payload 0) (256 * kind) ≡ false → BadPayload places p f
  missing kind same untrue = bad.Missing (λ unit is. other_than (slice_index payload 0) (256 * kind) untrue (first_of kind unit (subst (λ (k : ℕ). d.IsPayloadOf places p.start f k unit) (sym same) is)))

  size_is : (h : Found places p.start f payload) (i : ℕ) → slice_index payload i ≡ slice_index places.units (h.unit + i)
  size_is h i = ap (λ (us : List ℕ). slice_index us i) h.units ∙ at_drop places.units h.unit i

  bad_fill : d.opcode p ≡ 0x26 → (eqb (slice_index payload 0) 0x0300 && is_width (slice_index payload 1)) ≡ false → BadPayload places p f
  bad_fill op untrue = by_first (eqb (slice_index payload 0) 0x0300) refl untrue
    where
      by_first : (b : Bool) → eqb (slice_index payload 0) 0x0300 ≡ b → (b && is_width (slice_index payload 1)) ≡ false → BadPayload places p f
      by_first false e g = missing 3 (ap (λ (k : ℕ). kind_for k) (sym op)) e
      by_first true e g = let kind : slice_index payload 0 ≡ 768 = eqb-true (slice_index payload 0) 768 e in let h = found_payload places p.start f 768 kind (omega arith) in
          bad.Width h.unit op (is_payload places p.start 3 f payload h kind) (ap (λ (w : ℕ). is_width w) (sym (size_is h 1)) ∙ g)

  bad_packed : d.opcode p ≡ 0x2b → eqb (slice_index payload 0) 0x0100 ≡ false → BadPayload places p f
  bad_packed op untrue = missing 1 (ap (λ (k : ℕ). kind_for k) (sym op)) untrue

  bad_sparse : d.opcode p ≡ 0x2c → (eqb (slice_index payload 0) 0x0200 && keys_ascend (keys_in (slice_index payload 1) (drop 2 payload))) ≡ false → BadPayload places p f
  bad_sparse op untrue = by_first (eqb (slice_index payload 0) 0x0200) refl untrue
    where
      by_first : (b : Bool) → eqb (slice_index payload 0) 0x0200 ≡ b → (b && keys_ascend (keys_in (slice_index payload 1) (drop 2 payload))) ≡ false → BadPayload places p f
      by_first false e g = missing 2 (ap (λ (k : ℕ). kind_for k) (sym op)) e
      by_first true e g =
          let kind : slice_index payload 0 ≡ 512 = eqb-true (slice_index payload 0) 512 e in
          let h = found_payload places p.start f 512 kind (omega arith) in
          let fail = keys_fail (slice_index payload 1) (drop 2 payload) g in
          let key : (j at : ℕ) → h.unit + (2 + 2 * j) ≡ at → signed_in (drop (2 * j) (drop 2 payload)) ≡ d.signed_at places.units at = λ j at same.
          ap (λ (us : List ℕ). signed_in us) (drop-drop (2 * j) 2 payload ∙ ap (λ (us : List ℕ). drop (2 + 2 * j) us) h.units ∙ drop-drop (2 + 2 * j) h.unit places.units ∙ ap (λ (n : ℕ). drop n places.units) same) ∙ signed_there places.units at in
          let a : h.unit + (2 + 2 * fail.k) ≡ h.unit + 2 + 2 * fail.k = omega arith in
          let b : h.unit + (2 + 2 * suc fail.k) ≡ h.unit + 4 + 2 * fail.k = omega arith in
          let low : lt_z (d.signed_at places.units (h.unit + 2 + 2 * fail.k)) (d.signed_at places.units (h.unit + 4 + 2 * fail.k)) ≡ false
          = ap (λ (z : ℤ). lt_z z (d.signed_at places.units (h.unit + 4 + 2 * fail.k))) (sym (key fail.k (h.unit + 2 + 2 * fail.k) a)) ∙ ap (λ (z : ℤ). lt_z (signed_in (drop (2 * fail.k) (drop 2 payload))) z) (sym (key (suc fail.k) (h.unit + 4 + 2 * fail.k) b)) ∙ fail.fails in
          bad.Keys h.unit fail.k op (is_payload places p.start 2 f payload h kind) (subst (λ (n : ℕ). suc fail.k < n) (size_is h 1) fail.inside)
          (ap (λ (t : Bool). t && true) low)

  bad_payload : IsTable (d.opcode p) → is_right (d.opcode p) payload ≡ false → BadPayload places p f
  bad_payload (inl e) untrue = bad_fill e (subst (λ (op : ℕ). is_right op payload ≡ false) e untrue)
  bad_payload (inr (inl e)) untrue = bad_packed e (subst (λ (op : ℕ). is_right op payload ≡ false) e untrue)
  bad_payload (inr (inr e)) untrue = bad_sparse e (subst (λ (op : ℕ). is_right op payload ≡ false) e untrue)

  -- the payload is wrong, and the fault is that of the piece
  abbrev pub IsPayloadFault : CodeFault → Type 0
  IsPayloadFault e = (has_payload (d.opcode p) ≡ true) × BadPayload places p f × (e ≡ code.Payload p.start)

  fails_entries : Fails IsPayloadFault (entries_of places p.start (d.opcode p) f)
  fails_entries = fails_either (λ has. unless (code.Payload p.start) (λ untrue. (has, bad_payload (is_table (d.opcode p) has) untrue, refl)) (λ _. sound (size_of (d.opcode p) payload))) (λ _. sound 0)

  -- ---- operands

  abbrev pub IsOperandFault : Sizes → CodeFault → Type 0
  IsOperandFault sizes e = BadOperand sizes p f × (e ≡ code.Operand p.start)

  fails_rest : (sizes : Sizes) → Fails (IsOperandFault sizes) (cond (has_payload (d.opcode p)) (Ok (table_form (d.opcode p) f.a (target_from places.starts p.start) payload)) (Ok (plain (d.opcode p) f)))
  fails_rest sizes = fails_either {b = has_payload (d.opcode p)} {read = Ok (table_form (d.opcode p) f.a (target_from places.starts p.start) payload)} {other = Ok (plain (d.opcode p) f)}
      (λ _. sound (table_form (d.opcode p) f.a (target_from places.starts p.start) payload)) (λ _. sound (plain (d.opcode p) f))

  fails_insn : (sizes : Sizes) → Fails (IsOperandFault sizes) (insn_of places p.start (d.opcode p) f)
  fails_insn sizes = fails_either (λ call. unless (code.Operand p.start) (λ untrue. (bad.Words call (leb-false f.a (c.most_words (d.opcode p) f) untrue), refl)) (λ _. sound (c.call_form (d.opcode p) f)))
      (λ _. fails_either {b = c.is_branch (d.opcode p)} {read = Ok (branch_at places.starts p.start (d.opcode p) f)} {other = cond (has_payload (d.opcode p)) (Ok (table_form (d.opcode p) f.a (target_from places.starts p.start) payload)) (Ok (plain (d.opcode p) f))}
      (λ _. sound (branch_at places.starts p.start (d.opcode p) f)) (λ _. fails_rest sizes))

  none_of : (a b e : Bool) → a ≡ false → b ≡ false → e ≡ false → (a || (b || e)) ≡ false
  none_of false false false x y z = refl
  none_of true b e x y z = absurd cc
  none_of false true e x y z = absurd cc
  none_of false false true x y z = absurd cc

  by_forms : (sizes : Sizes) (a b : Bool) (t q r : ℕ) (x y : Test) → operands_inside sizes (cond a (Goto t) (cond b (If x q r t) (IfZero y q t))) ≡ operands_inside sizes (cond a (Goto 0) (cond b (If x q r 0) (IfZero y q 0)))
  by_forms sizes true b t q r x y = refl
  by_forms sizes false true t q r x y = refl
  by_forms sizes false false t q r x y = refl

  and_true : (b : Bool) → (b && true) ≡ b
  and_true true = refl
  and_true false = refl

  by_tables : (sizes : Sizes) (a b : Bool) (on width : ℕ) (items : List ℕ) (z : ℤ) (ts us : List ℕ) (keys : List ℤ) → operands_inside sizes (cond a (FillArray on width items) (cond b (PackedSwitch on z ts) (SparseSwitch on keys us))) ≡ false → sizes.registers ≤ on
  by_tables sizes true b on width items z ts us keys h = ltb-false on sizes.registers (sym (and_true (ltb on sizes.registers)) ∙ h)
  by_tables sizes false true on width items z ts us keys h = ltb-false on sizes.registers (sym (and_true (ltb on sizes.registers)) ∙ h)
  by_tables sizes false false on width items z ts us keys h = ltb-false on sizes.registers (sym (and_true (ltb on sizes.registers)) ∙ h)

  bad_operand : (sizes : Sizes) (insn : Insn) → IsKind places p.start (d.opcode p) f insn → operands_inside sizes insn ≡ false → BadOperand sizes p f
  bad_operand sizes insn (ACall is most e) untrue = bad.Call is (subst (λ (i : Insn). operands_inside sizes i ≡ false) e untrue)
  bad_operand sizes insn (ABranch is e) untrue = bad.Branch is (sym (by_forms sizes (from_to (d.opcode p) 0x28 0x2a) (from_to (d.opcode p) 0x32 0x37) _ f.a f.b (test_at (d.opcode p - 0x32)) (test_at (d.opcode p - 0x38)))
      ∙ subst (λ (i : Insn). operands_inside sizes i ≡ false) e untrue)
  bad_operand sizes insn (ATable is e) untrue = bad.Table is (by_tables sizes (eqb (d.opcode p) 0x26) (eqb (d.opcode p) 0x2b) f.a _ _ _ _ _ _ (subst (λ (i : Insn). operands_inside sizes i ≡ false) e untrue))
  bad_operand sizes insn (APlain a b t e) untrue = bad.Plain (none_of (c.is_branch (d.opcode p)) (c.is_call (d.opcode p)) (d.has_payload (d.opcode p)) b a t) (subst (λ (i : Insn). operands_inside sizes i ≡ false) e untrue)

-- ---- an instruction of a sweep

module _ (places : Places) (p : Piece) (is : Instructed places.units p) where
  abbrev its : Fields
  its = fields_at places.units p.start

  pub fails_entries_at : Fails (IsPayloadFault places p its) (entries_at places p.start)
  unfolding entries_at
  fails_entries_at = subst (λ (op : ℕ). Fails (IsPayloadFault places p its) (entries_of places p.start op its)) (sym is.opcode_is) (fails_entries places p its)

  insn_kind : (insn : Insn) → insn_at places p.start ≡ Ok insn → IsKind places p.start (d.opcode p) its insn
  unfolding insn_at
  insn_kind insn h = subst (λ (op : ℕ). IsKind places p.start op its insn) is.opcode_is ((founds_kind places p.start (opcode_at places.units p.start) its).found insn h)

  fails_insn_at : (sizes : Sizes) → Fails (IsOperandFault places p its sizes) (insn_at places p.start)
  unfolding insn_at
  fails_insn_at sizes = subst (λ (op : ℕ). Fails (IsOperandFault places p its sizes) (insn_of places p.start op its)) (sym is.opcode_is) (fails_insn places p its sizes)

  pub fails_checked : (sizes : Sizes) → Fails (IsOperandFault places p its sizes) (checked_at places sizes p.start)
  unfolding checked_at
  fails_checked sizes = fails_next (fails_insn_at sizes) (λ insn h. unless (code.Operand p.start) (λ untrue. (bad_operand places p its sizes insn (insn_kind insn h) untrue, refl)) (λ _. sound insn))

-- ---- all of them

pub fails_payloads : {Has : CodeFault → Type 0} (places : Places) → Has (passed Cells) → (left : ℕ) (ps : List Piece) → ((k : ℕ) (p : Piece) → slice_get ps k ≡ Some p → Fails Has (entries_at places p.start)) → Fails Has (check_payloads places left (starts_of ps))
fails_payloads places limit left [] each = sound tt
fails_payloads places limit left (p ∷ ps) each = fails_next (each 0 p refl) (λ n _. fails_either (λ _. fails_with _ limit) (λ _. fails_payloads places limit (left - n) ps (λ k q there. each (suc k) q there)))

pub fails_insns : {Has : CodeFault → Type 0} (places : Places) (sizes : Sizes) (ps : List Piece) → ((k : ℕ) (p : Piece) → slice_get ps k ≡ Some p → Fails Has (checked_at places sizes p.start)) → Fails Has (insns_from places sizes (starts_of ps))
fails_insns places sizes [] each = sound []
fails_insns places sizes (p ∷ ps) each = fails_next (each 0 p refl) (λ insn _. fails_next (fails_insns places sizes ps (λ k q there. each (suc k) q there)) (λ insns _. sound (insn ∷ insns)))

pub one_of : (P : Piece → Type 0) (ps : List Piece) (k : ℕ) (p : Piece) → AllByRecursion P ps → slice_get ps k ≡ Some p → P p
one_of P [] k p h there = absurd cc
one_of P (x ∷ xs) zero p h there = subst P (some_same x p there) h.0
one_of P (x ∷ xs) (suc k) p h there = one_of P xs k p h.1 there

-- ---- what was read

exact : {Y : Type 0} (read : Result Y CodeFault) → Founds (λ y. read ≡ Ok y) read
exact read = record { found = λ y h. h }

pub record AreRead (places : Places) (sizes : Sizes) (ps : List Piece) (insns : List Insn) : Type 0 where
  pub many : length insns ≡ length ps
  pub each : (k : ℕ) (insn : Insn) → slice_get insns k ≡ Some insn → (p : Piece) × (slice_get ps k ≡ Some p) × (checked_at places sizes p.start ≡ Ok insn)

more_read : (places : Places) (sizes : Sizes) (p : Piece) (ps : List Piece) (insn : Insn) (insns : List Insn) → checked_at places sizes p.start ≡ Ok insn → AreRead places sizes ps insns → AreRead places sizes (p ∷ ps) (insn ∷ insns)
more_read places sizes p ps insn insns is rest = record { many = ap suc rest.many; each = by_place }
  where
    by_place : (k : ℕ) (x : Insn) → slice_get (insn ∷ insns) k ≡ Some x → (q : Piece) × (slice_get (p ∷ ps) k ≡ Some q) × (checked_at places sizes q.start ≡ Ok x)
    by_place zero x there = (p, refl, subst (λ (i : Insn). checked_at places sizes p.start ≡ Ok i) (some_same insn x there) is)
    by_place (suc k) x there = rest.each k x there

pub founds_insns : (places : Places) (sizes : Sizes) (ps : List Piece) → Founds (AreRead places sizes ps) (insns_from places sizes (starts_of ps))
founds_insns places sizes [] = weaker (Ok []) (done []) (λ y q. subst (AreRead places sizes []) (sym q) (record { many = refl; each = λ k insn there. absurd cc }))
founds_insns places sizes (p ∷ ps) = weaker (insns_from places sizes (starts_of (p ∷ ps)))
    (next (exact (checked_at places sizes p.start)) (λ insn _. next (founds_insns places sizes ps) (λ insns _. done (insn ∷ insns))))
    (λ y q. subst (AreRead places sizes (p ∷ ps)) (sym q.2.2) (more_read places sizes p ps q.0 q.2.0 q.1 q.2.1))

pub founds_checked : (places : Places) (sizes : Sizes) (p : Piece) → Founds (λ insn. insn_at places p.start ≡ Ok insn) (checked_at places sizes p.start)
unfolding checked_at
founds_checked places sizes p = weaker (checked_at places sizes p.start) (next (exact (insn_at places p.start)) (λ insn _. when (code.Operand p.start) (done insn)))
    (λ y q. subst (λ (i : Insn). insn_at places p.start ≡ Ok i) (sym q.2.1) q.1)

pub read_kind : (places : Places) (sizes : Sizes) (p : Piece) (is : Instructed places.units p) (insn : Insn) → checked_at places sizes p.start ≡ Ok insn → IsKind places p.start (d.opcode p) (fields_at places.units p.start) insn
read_kind places sizes p is insn h = insn_kind places p is insn ((founds_checked places sizes p).found insn h)
