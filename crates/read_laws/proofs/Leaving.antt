-- A conditional branch that was read does not go to its own position.
use Rattle.std.proofs.Common.{◌≡◌, ℕ, ◌≤◌, ◌<◌, ◌-◌, Bool, true, false, cond, eqb, List, [], ◌∷◌, refl, sym, ap, subst, ◌∙◌, arith}
use Rattle.std.specs.Prelude.{◌&&◌, ◌==◌, not, nat_eq, nat_lt, ℤ, pos, negsuc, ◌+ℤ◌, ◌-ℤ◌, unwrap_or, Option, Some, None, slice_get, Ok}
use Rattle.std.specs.List.{list_all}
use Rattle.std.specs.Ordering.{int_eq}
use Rattle.std.specs.Cmp.{signed_Decides}
use Rattle.std.proofs.Math.IntN.{+ℤ-neg_ℤ_cancel, +ℤ_comm, +ℤ_invr}
use Rattle.std.proofs.lemmas.Bool.{ltb-true, eqb-true, ne_eqb}
use Rattle.std.proofs.lemmas.List.Quantifiers.{position-Some}
use Rattle.std.proofs.lemmas.Option.{slice_get-get_or}
use Rattle.lemmas.proofs.Bools.{and_left, clash}
use Rattle.lemmas.proofs.Options.{some_same}
use Rattle.insn_set.specs.Flow.{targets_of}
use Rattle.insn_set.specs.declared.form.Insn.{Insn}
use Rattle.insn_set.specs.declared.form.Insn.TheVariants.{Goto, If, IfZero}
use Rattle.insn_set.specs.declared.ops.Test.{Test}
use Rattle.program_model.specs.BodyRules.{leaves}
use Rattle.code_read.specs.declared.fields.Fields.{Fields}
use Rattle.code_read.specs.Branches.{is_branch, is_call, is_range, offset_form, branch_form, call_form}
use Rattle.code_read.specs.Checks.{targets_inside}
use Rattle.code_read.specs.Decoded.{opcode_at, fields_at, payload_of, branch_at, call_at, insn_of, insn_at}
use Rattle.code_read.specs.Forms.{move_form, const_form, wide_form, object_form, array_form, field_form, operation_form, plain}
use Rattle.code_read.specs.Opcodes.{from_to, test_at}
use Rattle.code_read.specs.Payloads.{has_payload, table_form}
use Rattle.code_read.specs.Positions.{no_less, position_of, position_at, target_from, nowhere}
use Rattle.code_read.specs.Sweep.{Places}
use Rattle.read_laws.proofs.BodyLists.{Found, weaker, done, when, either}

-- ---- where an offset leads

by_position : (starts : List ℕ) (unit n : ℕ) (read : Option ℕ) → read ≡ position_of starts unit → unwrap_or read nowhere < n → n ≤ nowhere → slice_get starts (unwrap_or read nowhere) ≡ Some unit
by_position starts unit n None e lt le = absurd (omega (arith, lt, le))
by_position starts unit n (Some k) e lt le =
    let q = position-Some (λ s. eqb s unit) starts k 0 (sym e) in
    slice_get-get_or starts k 0 q.0 ∙ ap (λ (u : ℕ). Some u) (eqb-true _ _ q.1)

by_unit : (starts : List ℕ) (n : ℕ) (z : ℤ) → unwrap_or (position_at starts (no_less z)) nowhere < n → n ≤ nowhere → (unit : ℕ) × (pos unit ≡ z) × (slice_get starts (unwrap_or (position_at starts (no_less z)) nowhere) ≡ Some unit)
by_unit starts n (pos unit) lt le = (unit, refl, by_position starts unit n (position_of starts unit) refl lt le)
by_unit starts n (negsuc k) lt le = absurd (omega (arith, lt, le))

no_offset : (a z : ℤ) → a +ℤ z ≡ a → z ≡ pos 0
no_offset a z h = sym (+ℤ-neg_ℤ_cancel z a) ∙ ap (λ (x : ℤ). x -ℤ a) (+ℤ_comm z a ∙ h) ∙ +ℤ_invr a

-- an offset other than 0 leads away
away : (starts : List ℕ) (start k n : ℕ) (offset : ℤ) → slice_get starts k ≡ Some start → int_eq offset (pos 0) ≡ false → target_from starts start offset < n → n ≤ nowhere → nat_eq (target_from starts start offset) k ≡ false
away starts start k n offset e moves lt le = ne_eqb (target_from starts start offset) k (λ h.
    let u = by_unit starts n (pos start +ℤ offset) lt le in
    let same : u.0 ≡ start = some_same u.0 start (sym u.2 ∙ ap (λ (t : ℕ). slice_get starts t) h ∙ e) in
    clash (int_eq offset (pos 0)) ((signed_Decides offset (pos 0)).1 (no_offset (pos start) offset (sym u.1 ∙ ap (λ (m : ℕ). pos m) same))) moves)

-- ---- branches

one_inside : (t n : ℕ) → list_all (λ t. nat_lt t n) (t ∷ []) ≡ true → t < n
one_inside t n h = ltb-true t n (and_left (nat_lt t n) true h)

by_forms : (a b : Bool) (t n q r : ℕ) (x y : Test) → list_all (λ t. nat_lt t n) (targets_of (cond a (Goto t) (cond b (If x q r t) (IfZero y q t)))) ≡ true → t < n
by_forms true b t n q r x y h = one_inside t n h
by_forms false true t n q r x y h = one_inside t n h
by_forms false false t n q r x y h = one_inside t n h

branch_inside : (op : ℕ) (f : Fields) (t n : ℕ) → targets_inside n (branch_form op f t) ≡ true → t < n
branch_inside op f t n h = by_forms (from_to op 0x28 0x2a) (from_to op 0x32 0x37) t n f.a f.b (test_at (op - 0x32)) (test_at (op - 0x38)) h

by_stays : (stays : Bool) (t n : ℕ) → cond stays nowhere t < n → n ≤ nowhere → (stays ≡ false) × (cond stays nowhere t ≡ t) × (t < n)
by_stays true t n lt le = absurd (omega (arith, lt, le))
by_stays false t n lt le = (refl, refl, lt)

first_false : (a b : Bool) → (a && not b) ≡ false → b ≡ false → a ≡ false
first_false true true h e = clash true refl e
first_false true false h e = h
first_false false b h e = refl

leave_forms : (a b : Bool) (t k q r : ℕ) (x y : Test) → (a ≡ false → nat_eq t k ≡ false) → leaves k (cond a (Goto t) (cond b (If x q r t) (IfZero y q t))) ≡ true
leave_forms true b t k q r x y h = refl
leave_forms false true t k q r x y h = ap not (h refl)
leave_forms false false t k q r x y h = ap not (h refl)

branch_leaves : (starts : List ℕ) (start op : ℕ) (f : Fields) (k n : ℕ) → slice_get starts k ≡ Some start → n ≤ nowhere → targets_inside n (branch_at starts start op f) ≡ true → leaves k (branch_at starts start op f) ≡ true
branch_leaves starts start op f k n e few inside =
    let offset : ℤ = offset_form op f in
    let stays : Bool = int_eq offset (pos 0) && not (eqb op 0x2a) in
    let target : ℕ = target_from starts start offset in
    let b = by_stays stays target n (branch_inside op f (cond stays nowhere target) n inside) few in
    leave_forms (from_to op 0x28 0x2a) (from_to op 0x32 0x37) (cond stays nowhere target) k f.a f.b (test_at (op - 0x32)) (test_at (op - 0x38)) (λ far.
    let other : eqb op 0x2a ≡ false = ne_eqb op 0x2a (λ h. clash (from_to op 0x28 0x2a) (subst (λ (o : ℕ). from_to o 0x28 0x2a ≡ true) (sym h) refl) far) in
    ap (λ (t : ℕ). nat_eq t k) b.1 ∙ away starts start k n offset e (first_false (int_eq offset (pos 0)) (eqb op 0x2a) b.0 other) b.2 few)

-- ---- the other instructions

record Leaves (k : ℕ) (insn : Insn) : Type 0 where
  is : leaves k insn ≡ true

of : {k : ℕ} {insn : Insn} → leaves k insn ≡ true → Leaves k insn
of h = record { is = h }

or : {k : ℕ} {x y : Insn} (b : Bool) → Leaves k x → Leaves k y → Leaves k (cond b x y)
or true h g = h
or false h g = g

module _ (k op : ℕ) (f : Fields) where
  move : Leaves k (move_form op f)
  move = or (op == 0x00) (of refl) (or (from_to op 0x01 0x09) (of refl) (or (from_to op 0x0a 0x0c) (of refl) (or (op == 0x0d) (of refl) (or (op == 0x0e) (of refl) ((of refl))))))

  const : Leaves k (const_form op f)
  const = or (op == 0x12) (of refl) (or (op == 0x13) (of refl) (or (op == 0x14) (of refl) ((of refl))))

  wide : Leaves k (wide_form op f)
  wide = or (op == 0x16) (of refl) (or (op == 0x17) (of refl) (or (op == 0x18) (of refl) ((of refl))))

  object : Leaves k (object_form op f)
  object = or (op == 0x1a) (of refl) (or (op == 0x1b) (of refl) (or (op == 0x1c) (of refl) (or (op == 0x1d) (of refl) (or (op == 0x1e) (of refl) (or (op == 0x1f) (of refl) (or (op == 0x20) (of refl) (or (op == 0x21) (of refl) (or (op == 0x22) (of refl) (or (op == 0x23) (of refl) ((of refl)))))))))))

  array : Leaves k (array_form op f)
  array = or (from_to op 0x2d 0x31) (of refl) (or (from_to op 0x44 0x4a) (of refl) ((of refl)))

  field : Leaves k (field_form op f)
  field = or (from_to op 0x52 0x58) (of refl) (or (from_to op 0x59 0x5f) (of refl) (or (from_to op 0x60 0x66) (of refl) ((of refl))))

  operation : Leaves k (operation_form op f)
  operation = or (from_to op 0x7b 0x8f) (of refl) (or (from_to op 0x90 0xaf) (of refl) (or (from_to op 0xb0 0xcf) (of refl) (or (from_to op 0xd0 0xd7) (of refl) ((of refl)))))

  plain_leaves : Leaves k (plain op f)
  unfolding plain
  plain_leaves = or (nat_lt op 0x12) move (or (nat_lt op 0x16) const (or (nat_lt op 0x1a) wide (or (nat_lt op 0x28) object (or (nat_lt op 0x52) array (or (nat_lt op 0x6e) field operation)))))

  call_leaves : Leaves k (call_form op f)
  call_leaves = or (from_to op 0x24 0x25) (of refl) (or (is_range op) (of refl) ((of refl)))

  table_leaves : (on : ℕ) (target : ℤ → ℕ) (payload : List ℕ) → Leaves k (table_form op on target payload)
  table_leaves on target payload = or (op == 0x26) (of refl) (or (op == 0x2b) (of refl) ((of refl)))

abbrev LeavesInside : ℕ → ℕ → Insn → Type 0
LeavesInside n k insn = targets_inside n insn ≡ true → leaves k insn ≡ true

founds_leaves : (places : Places) (start op : ℕ) (f : Fields) (k n : ℕ) → slice_get places.starts k ≡ Some start → n ≤ nowhere → Found (LeavesInside n k) (insn_of places start op f)
founds_leaves places start op f k n e few = either {b = is_call op}
    (λ is. weaker (call_at start op f) (when _ (done (call_form op f))) (λ y p. subst (LeavesInside n k) p.1 (λ h. (call_leaves k op f).is)))
    (λ no_call. either {b = is_branch op}
    (λ is. weaker (Ok (branch_at places.starts start op f)) (done (branch_at places.starts start op f)) (λ y p. subst (LeavesInside n k) p (branch_leaves places.starts start op f k n e few)))
    (λ no_branch. either {b = has_payload op}
    (λ is. weaker (Ok (table_form op f.a (target_from places.starts start) (payload_of places start f))) (done _) (λ y p. subst (LeavesInside n k) p (λ h. (table_leaves k op f f.a (target_from places.starts start) (payload_of places start f)).is)))
    (λ no_table. weaker (Ok (plain op f)) (done (plain op f)) (λ y p. subst (LeavesInside n k) p (λ h. (plain_leaves k op f).is)))))

pub insn_leaves : (places : Places) (start k n : ℕ) (insn : Insn) → slice_get places.starts k ≡ Some start → n ≤ nowhere → insn_at places start ≡ Ok insn → targets_inside n insn ≡ true → leaves k insn ≡ true
unfolding insn_at
insn_leaves places start k n insn e few h inside = (founds_leaves places start (opcode_at places.units start) (fields_at places.units start) k n e few).found insn h inside
