-- A branch or a switch that is found to go to no position does so.
use Rattle.std.proofs.Common.{◌≡◌, ◌<◌, ◌⊎◌, inl, inr, ℕ, zero, suc, ◌+◌, ◌-◌, ◌*◌, Bool, true, false, cond, ltb, eqb, List, [], ◌∷◌, length, drop, Some, None, refl, sym, ap, subst, ◌∙◌, arith, true≢false}
use Rattle.std.specs.Prelude.{◌&&◌, not, ℤ, pos, slice_get, slice_index, unwrap_or}
use Rattle.std.specs.List.{list_all, prefix_len, position_or_len}
use Rattle.std.specs.Ordering.{int_eq}
use Rattle.std.specs.Cmp.{signed_Decides}
use Rattle.std.proofs.lemmas.Bool.{lt-ltb, eq-eqb, eqb-true}
use Rattle.std.proofs.lemmas.List.{drop-drop}
use Rattle.lemmas.proofs.Bools.{and_parts, not_true}
use Rattle.lemmas.proofs.Options.{some_same}
use Rattle.insn_set.specs.Flow.{targets_of}
use Rattle.insn_set.specs.declared.form.Insn.{Insn}
use Rattle.insn_set.specs.declared.form.Insn.TheVariants.{Goto, If, IfZero}
use Rattle.insn_set.specs.declared.ops.Test.{Test}
use Rattle.code_read.specs.declared.fields.Fields.{Fields}
use Rattle.code_read.specs.Branches as c
use Rattle.code_read.specs.Checks.{targets_inside}
use Rattle.code_read.specs.Forms.{plain, move_form, const_form, wide_form, object_form, array_form, field_form, operation_form}
use Rattle.code_read.specs.Opcodes.{from_to, test_at}
use Rattle.code_read.specs.Payloads.{has_payload, is_right, signed_in, targets_in, table_form}
use Rattle.code_read.specs.Positions.{no_less, position_of, position_at, target_from, nowhere}
use Rattle.code_read.specs.Decoded.{payload_of}
use Rattle.dex_defs.specs.Sweep.{Piece, Places}
use Rattle.dex_defs.specs.Instructions as d
use Rattle.dex_defs.specs.CodeFaults.{BadTarget, offsets_at}
use Rattle.dex_defs.specs.CodeFaults as bad
use Rattle.file_laws.proofs.Insns.{IsKind, ACall, ABranch, ATable, APlain}
use Rattle.file_laws.proofs.Payloads.{Found, found_payload, at_drop, is_payload, signed_there}
use Rattle.refused_law.proofs.Defs.{and_none}
use Rattle.refused_code.proofs.Reading.{IsTable, is_table}

-- ---- a unit at which a position begins is found

pub found_first : (p : ℕ → Bool) (xs : List ℕ) (k x : ℕ) → slice_get xs k ≡ Some x → p x ≡ true → prefix_len (λ y. not (p y)) xs < length xs
found_first p [] k x there h = absurd cc
found_first p (y ∷ ys) zero x there h =
    let here : p y ≡ true = ap p (some_same y x there) ∙ h in
    subst (λ (b : Bool). cond (not b) (1 + prefix_len (λ z. not (p z)) ys) 0 < length (y ∷ ys)) (sym here) (omega arith)
found_first p (y ∷ ys) (suc k) x there h =
    let rest : prefix_len (λ z. not (p z)) ys < length ys = found_first p ys k x there h in
    elim (p y) as (λ (b : Bool). cond (not b) (1 + prefix_len (λ z. not (p z)) ys) 0 < length (y ∷ ys)) [ true ↦ omega arith | false ↦ omega (arith, rest) ]

lands : (starts : List ℕ) (target unit : ℕ) → slice_get starts target ≡ Some unit → unwrap_or (position_of starts unit) nowhere < length starts
lands starts target unit there =
    let less = found_first (λ s. eqb s unit) starts target unit there (eq-eqb unit unit refl) in
    let at : ℕ = position_or_len (λ s. eqb s unit) starts in
    let is : unwrap_or (position_of starts unit) nowhere ≡ at = ap (λ (b : Bool). unwrap_or (cond b (Some at) None) nowhere) (lt-ltb at (length starts) less) in
    subst (λ (n : ℕ). n < length starts) (sym is) less

not_there : (places : Places) (start : ℕ) (z : ℤ) → ltb (target_from places.starts start z) (length places.starts) ≡ false → (target : ℕ) → d.GoesTo places start z target → ⊥
not_there places start z none target g =
    let less : target_from places.starts start z < length places.starts
    = subst (λ (w : ℤ). unwrap_or (position_at places.starts (no_less w)) nowhere < length places.starts) g.is (lands places.starts target g.unit g.begins) in
    true≢false (sym (lt-ltb _ _ less) ∙ none)

-- ---- what goes nowhere else

two : (b : Bool) (x y : Insn) → targets_of x ≡ [] → targets_of y ≡ [] → targets_of (cond b x y) ≡ []
two true x y p q = p
two false x y p q = q

move_none : (op : ℕ) (f : Fields) → targets_of (move_form op f) ≡ []
move_none op f = two (eqb op 0x00) _ _ refl (two (from_to op 0x01 0x09) _ _ refl (two (from_to op 0x0a 0x0c) _ _ refl (two (eqb op 0x0d) _ _ refl (two (eqb op 0x0e) _ _ refl refl))))

const_none : (op : ℕ) (f : Fields) → targets_of (const_form op f) ≡ []
const_none op f = two (eqb op 0x12) _ _ refl (two (eqb op 0x13) _ _ refl (two (eqb op 0x14) _ _ refl refl))

wide_none : (op : ℕ) (f : Fields) → targets_of (wide_form op f) ≡ []
wide_none op f = two (eqb op 0x16) _ _ refl (two (eqb op 0x17) _ _ refl (two (eqb op 0x18) _ _ refl refl))

object_none : (op : ℕ) (f : Fields) → targets_of (object_form op f) ≡ []
object_none op f = two (eqb op 0x1a) _ _ refl (two (eqb op 0x1b) _ _ refl (two (eqb op 0x1c) _ _ refl (two (eqb op 0x1d) _ _ refl (two (eqb op 0x1e) _ _ refl (two (eqb op 0x1f) _ _ refl (two (eqb op 0x20) _ _ refl (two (eqb op 0x21) _ _ refl (two (eqb op 0x22) _ _ refl (two (eqb op 0x23) _ _ refl refl)))))))))

array_none : (op : ℕ) (f : Fields) → targets_of (array_form op f) ≡ []
array_none op f = two (from_to op 0x2d 0x31) _ _ refl (two (from_to op 0x44 0x4a) _ _ refl refl)

field_none : (op : ℕ) (f : Fields) → targets_of (field_form op f) ≡ []
field_none op f = two (from_to op 0x52 0x58) _ _ refl (two (from_to op 0x59 0x5f) _ _ refl (two (from_to op 0x60 0x66) _ _ refl refl))

operation_none : (op : ℕ) (f : Fields) → targets_of (operation_form op f) ≡ []
operation_none op f = two (from_to op 0x7b 0x8f) _ _ refl (two (from_to op 0x90 0xaf) _ _ refl (two (from_to op 0xb0 0xcf) _ _ refl (two (from_to op 0xd0 0xd7) _ _ refl refl)))

pub plain_none : (op : ℕ) (f : Fields) → targets_of (plain op f) ≡ []
unfolding plain
plain_none op f = two (ltb op 0x12) _ _ (move_none op f) (two (ltb op 0x16) _ _ (const_none op f) (two (ltb op 0x1a) _ _ (wide_none op f) (two (ltb op 0x28) _ _ (object_none op f)
    (two (ltb op 0x52) _ _ (array_none op f) (two (ltb op 0x6e) _ _ (field_none op f) (operation_none op f))))))

pub call_none : (op : ℕ) (f : Fields) → targets_of (c.call_form op f) ≡ []
call_none op f = two (from_to op 0x24 0x25) _ _ refl (two (c.is_range op) _ _ refl refl)

none_outside : {A : Type 0} (n : ℕ) (insn : Insn) → targets_of insn ≡ [] → targets_inside n insn ≡ false → A
none_outside n insn e h = absurd (true≢false (sym (ap (λ (ts : List ℕ). list_all (λ t. ltb t n) ts) e) ∙ h))

-- ---- tables of offsets

record TargetFails (target : ℤ → ℕ) (n m : ℕ) (us : List ℕ) : Type 0 where
  k : ℕ
  inside : k < m
  fails : ltb (target (signed_in (drop (2 * k) us))) n ≡ false

targets_fail : (target : ℤ → ℕ) (n m : ℕ) (us : List ℕ) → list_all (λ t. ltb t n) (targets_in target m us) ≡ false → TargetFails target n m us
targets_fail target n zero us h = absurd cc
targets_fail target n (suc m) us h = by_first (and_none (ltb (target (signed_in us)) n) (list_all (λ t. ltb t n) (targets_in target m (drop 2 us))) h) (targets_fail target n m (drop 2 us))
  where
    by_first : (ltb (target (signed_in us)) n ≡ false) ⊎ (list_all (λ t. ltb t n) (targets_in target m (drop 2 us)) ≡ false) → (list_all (λ t. ltb t n) (targets_in target m (drop 2 us)) ≡ false → TargetFails target n m (drop 2 us))
        → TargetFails target n (suc m) us
    by_first (inl e) rest = record { k = 0; inside = omega arith; fails = e }
    by_first (inr e) rest =
        let r = rest e in
        let on : 2 + 2 * r.k ≡ 2 * suc r.k = omega arith in
        record { k = suc r.k; inside = omega (arith, r.inside); fails = ap (λ (xs : List ℕ). ltb (target (signed_in xs)) n) (sym (drop-drop (2 * r.k) 2 us ∙ ap (λ (j : ℕ). drop j us) on)) ∙ r.fails }

module _ (places : Places) (p : Piece) (f : Fields) where
  abbrev n : ℕ
  n = length places.starts

  abbrev pub payload : List ℕ
  payload = payload_of places p.start f

  abbrev pub goal : ℤ → ℕ
  goal z = target_from places.starts p.start z

  pub size_there : (h : Found places p.start f payload) → slice_index payload 1 ≡ slice_index places.units (h.unit + 1)
  size_there h = ap (λ (us : List ℕ). slice_index us 1) h.units ∙ at_drop places.units h.unit 1

  pub offset_is : (h : Found places p.start f payload) (skip : ℕ) → h.unit + skip ≡ offsets_at places p h.unit → (i : ℕ) → signed_in (drop (2 * i) (drop skip payload)) ≡ d.signed_at places.units (offsets_at places p h.unit + 2 * i)
  offset_is h skip same i = ap (λ (us : List ℕ). signed_in (drop (2 * i) us)) (ap (λ (us : List ℕ). drop skip us) h.units ∙ drop-drop skip h.unit places.units ∙ ap (λ (j : ℕ). drop j places.units) same)
      ∙ ap (λ (us : List ℕ). signed_in us) (drop-drop (2 * i) (offsets_at places p h.unit) places.units) ∙ signed_there places.units (offsets_at places p h.unit + 2 * i)

  switch : (h : Found places p.start f payload) → d.IsPayloadOf places p.start f (bad.kind_for (d.opcode p)) h.unit → from_to (d.opcode p) 0x2b 0x2c ≡ true → (skip : ℕ) → h.unit + skip ≡ offsets_at places p h.unit
      → list_all (λ t. ltb t n) (targets_in goal (slice_index payload 1) (drop skip payload)) ≡ false → BadTarget places p f
  switch h is op skip same fails =
      let t = targets_fail goal n (slice_index payload 1) (drop skip payload) fails in
      let offset = offset_is h skip same t.k in
      bad.Switch h.unit t.k op is (subst (λ (j : ℕ). t.k < j) (size_there h) t.inside) (not_there places p.start (d.signed_at places.units (offsets_at places p h.unit + 2 * t.k)) (ap (λ (z : ℤ). ltb (goal z) n) (sym offset) ∙ t.fails))

  pub offset_packed : d.opcode p ≡ 0x2b → (unit : ℕ) → unit + 4 ≡ offsets_at places p unit
  offset_packed op unit = subst (λ (o : ℕ). unit + 4 ≡ (elim (eqb o 0x2b) [ true ↦ unit + 4 | false ↦ unit + 2 + 2 * slice_index places.units (unit + 1) ])) (sym op) refl

  pub offset_sparse : d.opcode p ≡ 0x2c → (unit : ℕ) → unit + 2 + 2 * slice_index places.units (unit + 1) ≡ offsets_at places p unit
  offset_sparse op unit = subst (λ (o : ℕ). unit + 2 + 2 * slice_index places.units (unit + 1) ≡ (elim (eqb o 0x2b) [ true ↦ unit + 4 | false ↦ unit + 2 + 2 * slice_index places.units (unit + 1) ])) (sym op) refl

  by_table : IsTable (d.opcode p) → is_right (d.opcode p) payload ≡ true → targets_inside n (table_form (d.opcode p) f.a goal payload) ≡ false → BadTarget places p f
  by_table (inl op) right h = none_outside n (table_form 0x26 f.a goal payload) refl (subst (λ (o : ℕ). targets_inside n (table_form o f.a goal payload) ≡ false) op h)
  by_table (inr (inl op)) right h =
      let kind : slice_index payload 0 ≡ 256 = eqb-true (slice_index payload 0) 256 (subst (λ (o : ℕ). is_right o payload ≡ true) op right) in
      let found = found_payload places p.start f 256 kind (omega arith) in
      switch found (subst (λ (o : ℕ). d.IsPayloadOf places p.start f (bad.kind_for o) found.unit) (sym op) (is_payload places p.start 1 f payload found kind)) (ap (λ (o : ℕ). from_to o 0x2b 0x2c) op) 4
      (offset_packed op found.unit)
      (subst (λ (o : ℕ). targets_inside n (table_form o f.a goal payload) ≡ false) op h)
  by_table (inr (inr op)) right h =
      let kind : slice_index payload 0 ≡ 512 = eqb-true (slice_index payload 0) 512 (and_parts _ _ (subst (λ (o : ℕ). is_right o payload ≡ true) op right)).0 in
      let found = found_payload places p.start f 512 kind (omega arith) in
      let skip : found.unit + (2 + 2 * slice_index payload 1) ≡ found.unit + 2 + 2 * slice_index places.units (found.unit + 1) = omega (arith, size_there found) in
      switch found (subst (λ (o : ℕ). d.IsPayloadOf places p.start f (bad.kind_for o) found.unit) (sym op) (is_payload places p.start 2 f payload found kind)) (ap (λ (o : ℕ). from_to o 0x2b 0x2c) op) (2 + 2 * slice_index payload 1)
      (skip ∙ offset_sparse op found.unit)
      (subst (λ (o : ℕ). targets_inside n (table_form o f.a goal payload) ≡ false) op h)

  -- ---- branches

  one_outside : (t : ℕ) → list_all (λ t. ltb t n) (t ∷ []) ≡ false → ltb t n ≡ false
  one_outside t h = by_test (ltb t n) h
    where
      by_test : (b : Bool) → (b && true) ≡ false → b ≡ false
      by_test true h = h
      by_test false h = refl

  by_forms : (a b : Bool) (t q r : ℕ) (x y : Test) → list_all (λ t. ltb t n) (targets_of (cond a (Goto t) (cond b (If x q r t) (IfZero y q t)))) ≡ false → ltb t n ≡ false
  by_forms true b t q r x y h = one_outside t h
  by_forms false true t q r x y h = one_outside t h
  by_forms false false t q r x y h = one_outside t h

  by_stays : c.is_branch (d.opcode p) ≡ true → (stays : Bool) → (int_eq (c.offset_form (d.opcode p) f) (pos 0) && not (eqb (d.opcode p) 0x2a)) ≡ stays → ltb (cond stays nowhere (goal (c.offset_form (d.opcode p) f))) n ≡ false → BadTarget places p f
  by_stays is true e h =
      let both = and_parts (int_eq (c.offset_form (d.opcode p) f) (pos 0)) (not (eqb (d.opcode p) 0x2a)) e in
      bad.Itself is ((signed_Decides (c.offset_form (d.opcode p) f) (pos 0)).0 both.0) (λ op. true≢false (sym (eq-eqb (d.opcode p) 0x2a op) ∙ not_true (eqb (d.opcode p) 0x2a) both.1))
  by_stays is false e h = bad.Nowhere is (not_there places p.start (c.offset_form (d.opcode p) f) h)

  pub bad_target : (insn : Insn) → IsKind places p.start (d.opcode p) f insn → (has_payload (d.opcode p) ≡ true → is_right (d.opcode p) payload ≡ true) → targets_inside n insn ≡ false → BadTarget places p f
  bad_target insn (ACall is most e) right h = none_outside n insn (ap targets_of e ∙ call_none (d.opcode p) f) h
  bad_target insn (ABranch is e) right h =
      let stays : Bool = int_eq (c.offset_form (d.opcode p) f) (pos 0) && not (eqb (d.opcode p) 0x2a) in
      by_stays is stays refl (by_forms (from_to (d.opcode p) 0x28 0x2a) (from_to (d.opcode p) 0x32 0x37) (cond stays nowhere (goal (c.offset_form (d.opcode p) f))) f.a f.b (test_at (d.opcode p - 0x32)) (test_at (d.opcode p - 0x38))
      (subst (λ (i : Insn). targets_inside n i ≡ false) e h))
  bad_target insn (ATable is e) right h = by_table (is_table (d.opcode p) is) (right is) (subst (λ (i : Insn). targets_inside n i ≡ false) e h)
  bad_target insn (APlain a b t e) right h = none_outside n insn (ap targets_of e ∙ plain_none (d.opcode p) f) h
