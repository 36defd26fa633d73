-- An instruction that stands and whose operands are in range has no fault of a payload, of an operand or of a target.
use Rattle.std.proofs.Common.{◌≡◌, ◌≤◌, ◌<◌, ◌⊎◌, inl, inr, ℕ, zero, suc, ◌+◌, ◌-◌, ◌*◌, Bool, true, false, cond, ltb, eqb, List, [], ◌∷◌, length, Some, refl, sym, ap, subst, ◌∙◌, arith, true≢false}
use Rattle.std.specs.Prelude.{◌&&◌, ◌||◌, ℤ, pos, slice_get, slice_index}
use Rattle.std.specs.Int.Signed.{lt_z}
use Rattle.std.proofs.lemmas.Bool.{ltb-true, eqb-true, eq-eqb}
use Rattle.lemmas.proofs.Bools.{and_parts, and_left, or_cases, neither_of, clash}
use Rattle.lemmas.proofs.Lists.{get_there, any_at}
use Rattle.lemmas.proofs.Options.{some_same}
use Rattle.insn_set.specs.Flow.{goes_on}
use Rattle.insn_set.specs.Spelling.{is_width, keys_ascend}
use Rattle.insn_set.specs.declared.format.Format.{Format}
use Rattle.insn_set.specs.declared.form.Insn.{Insn}
use Rattle.insn_set.specs.declared.form.Insn.TheVariants.{Goto, If, IfZero, MoveResult, MoveException}
use Rattle.insn_set.specs.declared.ops.Slot.{Slot}
use Rattle.insn_set.specs.declared.ops.Test.{Test}
use Rattle.code_read.specs.declared.fields.Fields.{Fields}
use Rattle.code_read.specs.declared.sizes.Sizes.{Sizes}
use Rattle.code_read.specs.Branches.{offset_form, branch_form}
use Rattle.code_read.specs.Checks.{operands_inside}
use Rattle.code_read.specs.Fields.{fields_in}
use Rattle.code_read.specs.Forms.{plain}
use Rattle.code_read.specs.Marks.{goes_to}
use Rattle.code_read.specs.Opcodes.{from_to, test_at}
use Rattle.code_read.specs.Order.{has_result}
use Rattle.code_read.specs.Payloads.{has_payload}
use Rattle.dex_defs.specs.Sweep.{Piece, Places}
use Rattle.dex_defs.specs.Instructions.{opcode, HasFields, is_branch, is_call, most_words, call_form, GoesTo, IsBranch, IsPayloadOf, signed_at, IsPacked, IsSparse, IsFill, IsInsn, AreInsns}
use Rattle.dex_defs.specs.Instructions as of
use Rattle.dex_defs.specs.CodeFaults.{BadPayload, BadOperand, BadTarget, kind_for, offsets_at, continues, moves_result, moves_caught}
use Rattle.dex_defs.specs.CodeFaults as bad
use Rattle.refused_law.proofs.Failing.{each_at}
use Rattle.refused_code.proofs.Reading.{IsTable, is_table}
use Rattle.clean_files.proofs.CodeForms.{other, within, IsPlain, plain_tells, calls_tell, branches_tell, result_moved, caught_moved}

-- ---- the instruction of a piece

pub insn_there : (places : Places) (ps : List Piece) (insns : List Insn) → AreInsns places ps insns → (k : ℕ) (p : Piece) → slice_get ps k ≡ Some p → (insn : Insn) × (slice_get insns k ≡ Some insn) × IsInsn places p insn
insn_there places [] insns h k p there = absurd cc
insn_there places (q ∷ qs) [] h k p there = absurd h
insn_there places (q ∷ qs) (i ∷ is) h zero p there = (i, refl, subst (λ (x : Piece). IsInsn places x i) (some_same q p there) h.0)
insn_there places (q ∷ qs) (i ∷ is) h (suc k) p there = insn_there places qs is h.1 k p there

fields_once : (p : Piece) (f g : Fields) → HasFields p f → HasFields p g → f ≡ g
fields_once p f g a b =
    let format : a.format ≡ b.format = some_same a.format b.format (sym a.row ∙ b.row) in
    some_same f g (sym a.fields ∙ ap (λ (x : Format). fields_in x p.text) format ∙ b.fields)

pos_same : (m n : ℕ) → pos m ≡ pos n → m ≡ n
pos_same m n e = cc

-- ---- opcodes of different kinds differ

branch_range : (op : ℕ) → is_branch op ≡ true → ((0x28 ≤ op) × (op ≤ 0x2a)) ⊎ ((0x32 ≤ op) × (op ≤ 0x3d))
branch_range op h = elim (or_cases (from_to op 0x28 0x2a) (from_to op 0x32 0x3d) h) [ inl e ↦ inl (within op 0x28 0x2a e) | inr e ↦ inr (within op 0x32 0x3d e) ]

call_range : (op : ℕ) → is_call op ≡ true → ((0x24 ≤ op) × (op ≤ 0x25)) ⊎ ((0x6e ≤ op) × (op ≤ 0x78))
call_range op h = elim (or_cases (from_to op 0x24 0x25) (from_to op 0x6e 0x72 || from_to op 0x74 0x78) h) [
  | inl e ↦ inl (within op 0x24 0x25 e)
  | inr e ↦ inr (elim (or_cases (from_to op 0x6e 0x72) (from_to op 0x74 0x78) e) [
    | inl g ↦ (let w = within op 0x6e 0x72 g in (w.0, omega (arith, w.1)))
    | inr g ↦ (let w = within op 0x74 0x78 g in (omega (arith, w.0), w.1))
  ])
]

no_both : (op : ℕ) → ((0x28 ≤ op) × (op ≤ 0x2a)) ⊎ ((0x32 ≤ op) × (op ≤ 0x3d)) → ((0x24 ≤ op) × (op ≤ 0x25)) ⊎ ((0x6e ≤ op) × (op ≤ 0x78)) → ⊥
no_both op (inl x) (inl y) = omega (arith, x.0, y.1)
no_both op (inl x) (inr y) = omega (arith, x.1, y.0)
no_both op (inr x) (inl y) = omega (arith, x.0, y.1)
no_both op (inr x) (inr y) = omega (arith, x.1, y.0)

not_both : {A : Type 0} (op : ℕ) → is_branch op ≡ true → is_call op ≡ true → A
not_both op b c = absurd (no_both op (branch_range op b) (call_range op c))

-- a number is an opcode of one kind alone
named : {A : Type 0} (test : ℕ → Bool) (op n : ℕ) → op ≡ n → test op ≡ true → test n ≡ false → A
named test op n e is lacks = clash (test n) (subst (λ (o : ℕ). test o ≡ true) e is) lacks

plain_named : {A : Type 0} (op n : ℕ) → op ≡ n → IsPlain op → (is_branch n || (is_call n || has_payload n)) ≡ true → A
plain_named op n e none is = clash (is_branch n || (is_call n || has_payload n)) is (subst IsPlain e none)

both_named : {A : Type 0} (op m n : ℕ) → op ≡ m → op ≡ n → eqb m n ≡ false → A
both_named op m n e g differ = clash (eqb m n) (eq-eqb m n (sym e ∙ g)) differ

module _ (places : Places) (p : Piece) (f : Fields) (has : HasFields p f) (insn : Insn) where
  abbrev op : ℕ
  op = opcode p

  its : (T : Fields → Type 0) (g : Fields) → HasFields p g → T g → T f
  its T g h t = subst T (fields_once p g f h has) t

  not_branch : IsPlain op → is_branch op ≡ false
  not_branch none = (neither_of (is_branch op) (is_call op || has_payload op) none).0

  not_call : IsPlain op → is_call op ≡ false
  not_call none = (neither_of (is_call op) (has_payload op) (neither_of (is_branch op) (is_call op || has_payload op) none).1).0

  not_table : IsPlain op → has_payload op ≡ false
  not_table none = (neither_of (is_call op) (has_payload op) (neither_of (is_branch op) (is_call op || has_payload op) none).1).1

  -- ---- which instruction it is, by its opcode

  pub as_plain : IsPlain op → IsInsn places p insn → insn ≡ plain op f
  as_plain none (of.Plain g h _ is) = its (λ x. insn ≡ plain op x) g h is
  as_plain none (of.Branch g h is _) = clash (is_branch op) is (not_branch none)
  as_plain none (of.Call g h is _ _) = clash (is_call op) is (not_call none)
  as_plain none (of.Fill g h e _) = plain_named op 0x26 e none refl
  as_plain none (of.Packed g h e _) = plain_named op 0x2b e none refl
  as_plain none (of.Sparse g h e _) = plain_named op 0x2c e none refl

  pub as_branch : is_branch op ≡ true → IsInsn places p insn → IsBranch places p f insn
  as_branch branch (of.Plain g h none is) = clash (is_branch op) branch (not_branch none)
  as_branch branch (of.Branch g h _ is) = its (λ x. IsBranch places p x insn) g h is
  as_branch branch (of.Call g h is _ _) = not_both op branch is
  as_branch branch (of.Fill g h e _) = named is_branch op 0x26 e branch refl
  as_branch branch (of.Packed g h e _) = named is_branch op 0x2b e branch refl
  as_branch branch (of.Sparse g h e _) = named is_branch op 0x2c e branch refl

  pub as_call : is_call op ≡ true → IsInsn places p insn → (f.a ≤ most_words op f) × (insn ≡ call_form op f)
  as_call call (of.Plain g h none is) = clash (is_call op) call (not_call none)
  as_call call (of.Branch g h is _) = not_both op is call
  as_call call (of.Call g h _ few is) = its (λ x. (x.a ≤ most_words op x) × (insn ≡ call_form op x)) g h (few, is)
  as_call call (of.Fill g h e _) = named is_call op 0x26 e call refl
  as_call call (of.Packed g h e _) = named is_call op 0x2b e call refl
  as_call call (of.Sparse g h e _) = named is_call op 0x2c e call refl

  pub as_fill : op ≡ 0x26 → IsInsn places p insn → IsFill places p f insn
  as_fill e (of.Plain g h none _) = plain_named op 0x26 e none refl
  as_fill e (of.Branch g h is _) = named is_branch op 0x26 e is refl
  as_fill e (of.Call g h is _ _) = named is_call op 0x26 e is refl
  as_fill e (of.Fill g h _ is) = its (λ x. IsFill places p x insn) g h is
  as_fill e (of.Packed g h d _) = both_named op 0x26 0x2b e d refl
  as_fill e (of.Sparse g h d _) = both_named op 0x26 0x2c e d refl

  pub as_packed : op ≡ 0x2b → IsInsn places p insn → IsPacked places p f insn
  as_packed e (of.Plain g h none _) = plain_named op 0x2b e none refl
  as_packed e (of.Branch g h is _) = named is_branch op 0x2b e is refl
  as_packed e (of.Call g h is _ _) = named is_call op 0x2b e is refl
  as_packed e (of.Fill g h d _) = both_named op 0x2b 0x26 e d refl
  as_packed e (of.Packed g h _ is) = its (λ x. IsPacked places p x insn) g h is
  as_packed e (of.Sparse g h d _) = both_named op 0x2b 0x2c e d refl

  pub as_sparse : op ≡ 0x2c → IsInsn places p insn → IsSparse places p f insn
  as_sparse e (of.Plain g h none _) = plain_named op 0x2c e none refl
  as_sparse e (of.Branch g h is _) = named is_branch op 0x2c e is refl
  as_sparse e (of.Call g h is _ _) = named is_call op 0x2c e is refl
  as_sparse e (of.Fill g h d _) = both_named op 0x2c 0x26 e d refl
  as_sparse e (of.Packed g h d _) = both_named op 0x2c 0x2b e d refl
  as_sparse e (of.Sparse g h _ is) = its (λ x. IsSparse places p x insn) g h is

  -- ---- whether it continues, gives a result, or moves one

  pub goes : IsInsn places p insn → continues op ≡ true → goes_on insn ≡ true
  goes (of.Plain g h none is) on = ap goes_on is ∙ (plain_tells op g (not_call none) (not_table none)).1 on
  goes (of.Branch g h _ is) on = ap goes_on is.is ∙ (branches_tell op g is.target).1 on
  goes (of.Call g h _ _ is) on = ap goes_on is ∙ (calls_tell op g).1
  goes (of.Fill g h _ is) on = ap goes_on is.is
  goes (of.Packed g h _ is) on = ap goes_on is.is
  goes (of.Sparse g h _ is) on = ap goes_on is.is

  pub gives_none : IsInsn places p insn → is_call op ≡ false → has_result insn ≡ false
  gives_none (of.Plain g h none is) lacks = ap has_result is ∙ (plain_tells op g lacks (not_table none)).0
  gives_none (of.Branch g h _ is) lacks = ap has_result is.is ∙ (branches_tell op g is.target).0
  gives_none (of.Call g h is _ _) lacks = clash (is_call op) is lacks
  gives_none (of.Fill g h _ is) lacks = ap has_result is.is
  gives_none (of.Packed g h _ is) lacks = ap has_result is.is
  gives_none (of.Sparse g h _ is) lacks = ap has_result is.is

  pub is_result : moves_result op ≡ true → IsInsn places p insn → (slot : Slot) × (to : ℕ) × (insn ≡ MoveResult slot to)
  is_result h is = let m = result_moved op f h in (m.1.0, m.1.1, as_plain m.0 is ∙ m.1.2)

  pub is_caught : moves_caught op ≡ true → IsInsn places p insn → insn ≡ MoveException f.a
  is_caught h is = let m = caught_moved op f h in as_plain m.0 is ∙ m.1

  -- ---- where it goes

  forms_go : (a b : Bool) (t q r : ℕ) (x y : Test) → goes_to t (cond a (Goto t) (cond b (If x q r t) (IfZero y q t))) ≡ true
  forms_go true b t q r x y = any_at (λ s. eqb s t) (t ∷ []) 0 t refl (eq-eqb t t refl)
  forms_go false true t q r x y = any_at (λ s. eqb s t) (t ∷ []) 0 t refl (eq-eqb t t refl)
  forms_go false false t q r x y = any_at (λ s. eqb s t) (t ∷ []) 0 t refl (eq-eqb t t refl)

  pub branch_goes : is_branch op ≡ true → IsInsn places p insn → (target : ℕ) × GoesTo places p.start (offset_form op f) target × (goes_to target insn ≡ true)
  branch_goes branch is =
      let b = as_branch branch is in
      (b.target, b.goes, ap (λ (i : Insn). goes_to b.target i) b.is ∙ forms_go (from_to op 0x28 0x2a) (from_to op 0x32 0x37) b.target f.a f.b (test_at (op - 0x32)) (test_at (op - 0x38)))

  -- where an entry of a switch goes
  abbrev Goes : ℕ → Type 0
  Goes at = (target : ℕ) × GoesTo places p.start (signed_at places.units at) target × (goes_to target insn ≡ true)

  unit_same : (code u v : ℕ) → IsPayloadOf places p.start f code u → IsPayloadOf places p.start f code v → u ≡ v
  unit_same code u v a b = pos_same u v (a.is ∙ sym b.is)

  packed_goes : op ≡ 0x2b → IsInsn places p insn → (unit k : ℕ) → IsPayloadOf places p.start f 1 unit → k < slice_index places.units (unit + 1) → Goes (unit + 4 + 2 * k)
  packed_goes e is unit k payload less =
      let s = as_packed e is in
      let same : s.unit ≡ unit = unit_same 1 s.unit unit s.payload payload in
      let size : slice_index places.units (unit + 1) ≡ length s.targets = ap (λ (u : ℕ). slice_index places.units (u + 1)) (sym same) ∙ s.size in
      let t = get_there s.targets k (omega (arith, less, size)) in
      let goes = each_at (λ i target. GoesTo places p.start (signed_at places.units (s.unit + 4 + 2 * i)) target) s.targets k t.0 s.are t.1 in (
        t.0,
        subst (λ (u : ℕ). GoesTo places p.start (signed_at places.units (u + 4 + 2 * k)) t.0) same goes,
        ap (λ (i : Insn). goes_to t.0 i) s.is ∙ any_at (λ u. eqb u t.0) s.targets k t.0 t.1 (eq-eqb t.0 t.0 refl),
      )

  sparse_goes : op ≡ 0x2c → IsInsn places p insn → (unit k : ℕ) → IsPayloadOf places p.start f 2 unit → k < slice_index places.units (unit + 1) → Goes (unit + 2 + 2 * slice_index places.units (unit + 1) + 2 * k)
  sparse_goes e is unit k payload less =
      let s = as_sparse e is in
      let same : s.unit ≡ unit = unit_same 2 s.unit unit s.payload payload in
      let size : slice_index places.units (unit + 1) ≡ length s.targets = ap (λ (u : ℕ). slice_index places.units (u + 1)) (sym same) ∙ s.size in
      let t = get_there s.targets k (omega (arith, less, size)) in
      let goes = each_at (λ i target. GoesTo places p.start (signed_at places.units (s.unit + 2 + 2 * length s.targets + 2 * i)) target) s.targets k t.0 s.are t.1 in (
        t.0,
        subst (λ (n : ℕ). GoesTo places p.start (signed_at places.units (unit + 2 + 2 * n + 2 * k)) t.0) (sym size)
            (subst (λ (u : ℕ). GoesTo places p.start (signed_at places.units (u + 2 + 2 * length s.targets + 2 * k)) t.0) same goes),
        ap (λ (i : Insn). goes_to t.0 i) s.is ∙ any_at (λ u. eqb u t.0) s.targets k t.0 t.1 (eq-eqb t.0 t.0 refl),
      )

  two_switches : from_to op 0x2b 0x2c ≡ true → (op ≡ 0x2b) ⊎ (op ≡ 0x2c)
  two_switches h = by_test (eqb op 0x2b) refl
    where
      by_test : (b : Bool) → eqb op 0x2b ≡ b → (op ≡ 0x2b) ⊎ (op ≡ 0x2c)
      by_test true e = inl (eqb-true op 0x2b e)
      by_test false e = inr (let w = within op 0x2b 0x2c h in let low = w.0 in let high = w.1 in let n = other op 0x2b e in omega (arith, low, high, n))

  pub switch_goes : from_to op 0x2b 0x2c ≡ true → IsInsn places p insn → (unit k : ℕ) → IsPayloadOf places p.start f (kind_for op) unit → k < slice_index places.units (unit + 1) → Goes (offsets_at places p unit + 2 * k)
  switch_goes h is unit k payload less = elim (two_switches h) [
    | inl e ↦ subst (λ (o : ℕ). Goes ((elim (eqb o 0x2b) [ true ↦ unit + 4 | false ↦ unit + 2 + 2 * slice_index places.units (unit + 1) ]) + 2 * k)) (sym e)
        (packed_goes e is unit k (subst (λ (o : ℕ). IsPayloadOf places p.start f (kind_for o) unit) e payload) less)
    | inr e ↦ subst (λ (o : ℕ). Goes ((elim (eqb o 0x2b) [ true ↦ unit + 4 | false ↦ unit + 2 + 2 * slice_index places.units (unit + 1) ]) + 2 * k)) (sym e)
        (sparse_goes e is unit k (subst (λ (o : ℕ). IsPayloadOf places p.start f (kind_for o) unit) e payload) less)
  ]

  -- ---- targets

  pub no_target : IsInsn places p insn → BadTarget places p f → ⊥
  no_target is (bad.Nowhere branch none) = let g = branch_goes branch is in none g.0 g.1
  no_target is (bad.Itself branch zeroth wide) = wide ((as_branch branch is).moves zeroth)
  no_target is (bad.Switch unit k h payload less none) = let g = switch_goes h is unit k payload less in none g.0 g.1

  -- ---- payloads

  payload_there : IsTable op → IsInsn places p insn → (unit : ℕ) × IsPayloadOf places p.start f (kind_for op) unit
  payload_there (inl e) is = let s = as_fill e is in (s.unit, subst (λ (o : ℕ). IsPayloadOf places p.start f (kind_for o) s.unit) (sym e) s.payload)
  payload_there (inr (inl e)) is = let s = as_packed e is in (s.unit, subst (λ (o : ℕ). IsPayloadOf places p.start f (kind_for o) s.unit) (sym e) s.payload)
  payload_there (inr (inr e)) is = let s = as_sparse e is in (s.unit, subst (λ (o : ℕ). IsPayloadOf places p.start f (kind_for o) s.unit) (sym e) s.payload)

  pair_ascends : (keys : List ℤ) → keys_ascend keys ≡ true → (k : ℕ) (x y : ℤ) → slice_get keys k ≡ Some x → slice_get keys (suc k) ≡ Some y → keys_ascend (x ∷ y ∷ []) ≡ true
  pair_ascends [] h k x y a b = absurd cc
  pair_ascends (z ∷ []) h zero x y a b = absurd cc
  pair_ascends (z ∷ []) h (suc k) x y a b = absurd cc
  pair_ascends (z ∷ w ∷ zs) h zero x y a b =
      subst (λ (u : ℤ). keys_ascend (u ∷ y ∷ []) ≡ true) (some_same z x a) (subst (λ (u : ℤ). keys_ascend (z ∷ u ∷ []) ≡ true) (some_same w y b) (first_two (keys_ascend (w ∷ zs)) h))
    where
      first_two : (rest : Bool) → (lt_z z w && rest) ≡ true → (lt_z z w && true) ≡ true
      first_two true g = g
      first_two false g = absurd (true≢false (sym (and_parts (lt_z z w) false g).1))
  pair_ascends (z ∷ w ∷ zs) h (suc k) x y a b = pair_ascends (w ∷ zs) (and_parts (lt_z z w) (keys_ascend (w ∷ zs)) h).1 k x y a b

  no_keys : op ≡ 0x2c → IsInsn places p insn → (unit k : ℕ) → IsPayloadOf places p.start f 2 unit → suc k < slice_index places.units (unit + 1)
      → keys_ascend (signed_at places.units (unit + 2 + 2 * k) ∷ signed_at places.units (unit + 4 + 2 * k) ∷ []) ≡ false → ⊥
  no_keys e is unit k payload less fails =
      let s = as_sparse e is in
      let same : s.unit ≡ unit = unit_same 2 s.unit unit s.payload payload in
      let size : slice_index places.units (unit + 1) ≡ length s.targets = ap (λ (u : ℕ). slice_index places.units (u + 1)) (sym same) ∙ s.size in
      let many = s.many in
      let x = get_there s.keys k (omega (arith, less, size, many)) in
      let y = get_there s.keys (suc k) (omega (arith, less, size, many)) in
      let first : x.0 ≡ signed_at places.units (unit + 2 + 2 * k) = each_at (λ i key. key ≡ signed_at places.units (s.unit + 2 + 2 * i)) s.keys k x.0 s.are_keys x.1 ∙ ap (λ (u : ℕ). signed_at places.units (u + 2 + 2 * k)) same in
      let on : unit + 2 + 2 * suc k ≡ unit + 4 + 2 * k = omega arith in
      let second : y.0 ≡ signed_at places.units (unit + 4 + 2 * k) = each_at (λ i key. key ≡ signed_at places.units (s.unit + 2 + 2 * i)) s.keys (suc k) y.0 s.are_keys y.1
      ∙ ap (λ (u : ℕ). signed_at places.units (u + 2 + 2 * suc k)) same ∙ ap (λ (u : ℕ). signed_at places.units u) on in
      let right = pair_ascends s.keys s.ascend k x.0 y.0 x.1 y.1 in
      clash (keys_ascend (signed_at places.units (unit + 2 + 2 * k) ∷ signed_at places.units (unit + 4 + 2 * k) ∷ []))
      (subst (λ (z : ℤ). keys_ascend (z ∷ signed_at places.units (unit + 4 + 2 * k) ∷ []) ≡ true) first (subst (λ (z : ℤ). keys_ascend (x.0 ∷ z ∷ []) ≡ true) second right)) fails

  pub no_payload : has_payload op ≡ true → IsInsn places p insn → BadPayload places p f → ⊥
  no_payload table is (bad.Missing none) = let h = payload_there (is_table op table) is in none h.0 h.1
  no_payload table is (bad.Width unit e payload fails) =
      let s = as_fill e is in
      let same : s.unit ≡ unit = unit_same 3 s.unit unit s.payload payload in
      clash (is_width (slice_index places.units (unit + 1))) (subst (λ (u : ℕ). is_width (slice_index places.units (u + 1)) ≡ true) same s.width) fails
  no_payload table is (bad.Keys unit k e payload less fails) = no_keys e is unit k payload less fails

  -- ---- operands

  forms_same : (sizes : Sizes) (a b : Bool) (t q r : ℕ) (x y : Test) → operands_inside sizes (cond a (Goto t) (cond b (If x q r t) (IfZero y q t))) ≡ operands_inside sizes (cond a (Goto 0) (cond b (If x q r 0) (IfZero y q 0)))
  forms_same sizes true b t q r x y = refl
  forms_same sizes false true t q r x y = refl
  forms_same sizes false false t q r x y = refl

  module _ (sizes : Sizes) (inside : operands_inside sizes insn ≡ true) where
    low : (x : Insn) → insn ≡ x → operands_inside sizes x ≡ true
    low x e = subst (λ (i : Insn). operands_inside sizes i ≡ true) e inside

    table_low : IsTable op → IsInsn places p insn → f.a < sizes.registers
    table_low (inl e) is = ltb-true f.a sizes.registers (and_left (ltb f.a sizes.registers) true (low _ (as_fill e is).is))
    table_low (inr (inl e)) is = ltb-true f.a sizes.registers (and_left (ltb f.a sizes.registers) true (low _ (as_packed e is).is))
    table_low (inr (inr e)) is = ltb-true f.a sizes.registers (and_left (ltb f.a sizes.registers) true (low _ (as_sparse e is).is))

    pub no_operand : IsInsn places p insn → BadOperand sizes p f → ⊥
    no_operand is (bad.Plain none fails) = clash (operands_inside sizes (plain op f)) (low (plain op f) (as_plain none is)) fails
    no_operand is (bad.Branch branch fails) =
        let b = as_branch branch is in
        clash (operands_inside sizes (branch_form op f 0)) (sym (forms_same sizes (from_to op 0x28 0x2a) (from_to op 0x32 0x37) b.target f.a f.b (test_at (op - 0x32)) (test_at (op - 0x38))) ∙ low (branch_form op f b.target) b.is) fails
    no_operand is (bad.Words call over) = let few = (as_call call is).0 in omega (arith, over, few)
    no_operand is (bad.Call call fails) = clash (operands_inside sizes (call_form op f)) (low (call_form op f) (as_call call is).1) fails
    no_operand is (bad.Table table over) = let less = table_low (is_table op table) is in omega (arith, over, less)
