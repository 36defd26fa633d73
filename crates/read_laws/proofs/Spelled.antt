-- Each instruction that was read has a spelling: the one that was read.
use Rattle.std.proofs.Common.{◌≡◌, ℕ, zero, suc, ◌<◌, ◌≤◌, ◌+◌, ◌-◌, ◌/◌, ◌%◌, Bool, true, false, cond, List, [], ◌∷◌, length, take, refl, sym, ap, subst, arith}
use Rattle.std.specs.Prelude.{◌&&◌, ◌||◌, ◌==◌, nat_eq, nat_lt, nat_le, Option}
use Rattle.std.specs.List.{list_all}
use Rattle.std.proofs.lemmas.Bool.{lt-ltb, ltb-true, ltb-false, le-leb, eq-eqb, eqb-true}
use Rattle.lemmas.proofs.Bools.{and_both, and_left, and_right, clash, none_or, or_left, or_right}
use Rattle.insn_set.specs.Spelling.{fits_byte, takes_short, are_adjacent, fit_nibbles, fit_call, is_encodable}
use Rattle.insn_set.specs.declared.form.Insn.{Insn}
use Rattle.code_read.specs.declared.fields.Fields.{Fields}
use Rattle.code_read.specs.Branches.{is_branch, is_call, is_range, nibbles_form, registers_from, words_form, branch_form, call_form}
use Rattle.code_read.specs.Forms.{byte, move_form, const_form, wide_form, object_form, array_form, field_form, operation_form, plain}
use Rattle.code_read.specs.Opcodes.{from_to, format_at, literal_at}
use Rattle.code_read.specs.Payloads.{has_payload}
use Rattle.read_laws.proofs.FieldBounds.{Narrow, Bytes, First, Third, is_narrow, has_bytes, has_first, of_span, format_passes}

pub record Spelled (insn : Insn) : Type 0 where
  pub is : is_encodable insn ≡ true

pub of : {insn : Insn} → is_encodable insn ≡ true → Spelled insn
of h = record { is = h }

pub or : {x y : Insn} (b : Bool) → (b ≡ true → Spelled x) → (b ≡ false → Spelled y) → Spelled (cond b x y)
or true h g = h refl
or false h g = g refl

-- ---- tests

pub lt : (m n : ℕ) → m < n → nat_lt m n ≡ true
lt m n h = lt-ltb m n h

lt_both : (k m n : ℕ) → k < n → m < n → (nat_lt k n && nat_lt m n) ≡ true
lt_both k m n h g = and_both (nat_lt k n) (nat_lt m n) (lt k n h) (lt m n g)

lt_three : (k m l n : ℕ) → k < n → m < n → l < n → (nat_lt k n && (nat_lt m n && nat_lt l n)) ≡ true
lt_three k m l n h g e = and_both (nat_lt k n) (nat_lt m n && nat_lt l n) (lt k n h) (lt_both m l n g e)

pub behind : (a b : Bool) → (a || b) ≡ true → a ≡ false → b ≡ true
behind true b h e = clash true refl e
behind false b h e = h

-- numbers from the lower on and not below the upper
range : (low high op : ℕ) → low ≤ op → op ≤ high → from_to op low high ≡ true
range low high op h g = and_both (nat_le low op) (nat_le op high) (le-leb low op h) (le-leb op high g)

below : (op n : ℕ) → nat_lt op n ≡ true → op < n
below op n e = ltb-true op n e

not_below : (op n : ℕ) → nat_lt op n ≡ false → n ≤ op
not_below op n e = ltb-false op n e

-- ---- the forms that need nothing beside their fields

abbrev moves : ℕ → Bool
moves op = from_to op 0x01 0x09 || format_passes has_first op

abbrev arrays : ℕ → Bool
arrays op = (is_branch op || has_payload op) || format_passes has_bytes op

abbrev operates : ℕ → Bool
operates op = (is_call op || (from_to op 0x7b 0x8f || (from_to op 0xb0 0xcf || from_to op 0xd0 0xd7))) || format_passes has_bytes op

abbrev shorts : ℕ → Bool
shorts op = takes_short (literal_at (op - 0xd0))

abbrev small : ℕ → Bool
small n = fits_byte (byte n)

small_byte : (n : ℕ) → n < 256 → small n ≡ true
small_byte n h = of_span small 0 255 n refl (range 0 255 n (omega arith) (omega (arith, h)))

module _ (op : ℕ) (f : Fields) (low : op < 256) (narrow : format_passes is_narrow op ≡ true → Narrow f) (bytes : format_passes has_bytes op ≡ true → Bytes f)
    (first : format_passes has_first op ≡ true → First f) (third : Third f) where
  -- the first register, where each opcode of a span has one
  in_first : (from to : ℕ) → from_to op from to ≡ true → ((o : ℕ) → from_to o from to ≡ true → format_passes has_first o ≡ true) → nat_lt f.a 256 ≡ true
  in_first from to e all = lt f.a 256 (first (all op e)).a

  move : op < 0x12 → Spelled (move_form op f)
  unfolding format_at
  move lo = or (op == 0x00) (λ e. of refl) (λ e. or (from_to op 0x01 0x09) (λ e. of refl) (λ far.
      let one : nat_lt f.a 256 ≡ true = lt f.a 256 (first (behind (from_to op 0x01 0x09) (format_passes has_first op) (of_span moves 0 0x11 op refl (range 0 0x11 op (omega arith) (omega (arith, lo)))) far)).a in
      or (from_to op 0x0a 0x0c) (λ e. of one) (λ e. or (op == 0x0d) (λ e. of one) (λ e. or (op == 0x0e) (λ e. of refl) (λ e. of one)))))

  const : 0x12 ≤ op → op < 0x16 → Spelled (const_form op f)
  unfolding format_at
  const lo hi =
      let one : nat_lt f.a 256 ≡ true = lt f.a 256 (first (of_span (format_passes has_first) 0x12 0x15 op refl (range 0x12 0x15 op lo (omega (arith, hi))))).a in
      or (op == 0x12) (λ e. of one) (λ e. or (op == 0x13) (λ e. of one) (λ e. or (op == 0x14) (λ e. of one) (λ e. of one)))

  wide : 0x16 ≤ op → op < 0x1a → Spelled (wide_form op f)
  unfolding format_at
  wide lo hi =
      let one : nat_lt f.a 256 ≡ true = lt f.a 256 (first (of_span (format_passes has_first) 0x16 0x19 op refl (range 0x16 0x19 op lo (omega (arith, hi))))).a in
      or (op == 0x16) (λ e. of one) (λ e. or (op == 0x17) (λ e. of one) (λ e. or (op == 0x18) (λ e. of one) (λ e. of one)))

  -- a test of the format of one opcode
  pub at_one : (test : Option _ → Bool) (n : ℕ) → (op == n) ≡ true → format_passes test n ≡ true → format_passes test op ≡ true
  at_one test n e h = let same : n ≡ op = sym (eqb-true op n e) in subst (λ (o : ℕ). format_passes test o ≡ true) same h

  object : 0x1a ≤ op → op < 0x28 → Spelled (object_form op f)
  unfolding format_at
  object lo hi =
      let one : nat_lt f.a 256 ≡ true = lt f.a 256 (first (of_span (format_passes has_first) 0x1a 0x27 op refl (range 0x1a 0x27 op lo (omega (arith, hi))))).a in
      let two : format_passes is_narrow op ≡ true → (nat_lt f.a 16 && nat_lt f.b 16) ≡ true = λ h. lt_both f.a f.b 16 (narrow h).a (narrow h).b in
      or (op == 0x1a) (λ e. of one) (λ e. or (op == 0x1b) (λ e. of one) (λ e. or (op == 0x1c) (λ e. of one) (λ e. or (op == 0x1d) (λ e. of one) (λ e. or (op == 0x1e) (λ e. of one) (λ e. or (op == 0x1f) (λ e. of one)
      (λ e. or (op == 0x20) (λ e. of (two (at_one is_narrow 0x20 e refl))) (λ e. or (op == 0x21) (λ e. of (two (at_one is_narrow 0x21 e refl))) (λ e. or (op == 0x22) (λ e. of one)
      (λ e. or (op == 0x23) (λ e. of (two (at_one is_narrow 0x23 e refl))) (λ e. of one))))))))))

  array : 0x28 ≤ op → op < 0x52 → is_branch op ≡ false → has_payload op ≡ false → Spelled (array_form op f)
  unfolding format_at
  array lo hi no_branch no_payload =
      let b = bytes (behind (is_branch op || has_payload op) (format_passes has_bytes op) (of_span arrays 0x28 0x51 op refl (range 0x28 0x51 op lo (omega (arith, hi)))) (none_or (is_branch op) (has_payload op) no_branch no_payload)) in
      let all : (nat_lt f.a 256 && (nat_lt f.b 256 && nat_lt f.c 256)) ≡ true = lt_three f.a f.b f.c 256 b.a b.b b.c in
      or (from_to op 0x2d 0x31) (λ e. of all) (λ e. or (from_to op 0x44 0x4a) (λ e. of all) (λ e. of all))

  field : 0x52 ≤ op → op < 0x6e → Spelled (field_form op f)
  unfolding format_at
  field lo hi =
      let one : nat_lt f.a 256 ≡ true = lt f.a 256 (first (of_span (format_passes has_first) 0x52 0x6d op refl (range 0x52 0x6d op lo (omega (arith, hi))))).a in
      let two : format_passes is_narrow op ≡ true → (nat_lt f.a 16 && nat_lt f.b 16) ≡ true = λ h. lt_both f.a f.b 16 (narrow h).a (narrow h).b in
      or (from_to op 0x52 0x58) (λ e. of (two (of_span (format_passes is_narrow) 0x52 0x58 op refl e))) (λ e. or (from_to op 0x59 0x5f) (λ e. of (two (of_span (format_passes is_narrow) 0x59 0x5f op refl e)))
      (λ e. or (from_to op 0x60 0x66) (λ e. of one) (λ e. of one)))

  operation : 0x6e ≤ op → is_call op ≡ false → Spelled (operation_form op f)
  unfolding format_at
  operation lo no_call =
      let wider : Narrow f → (nat_lt f.a 256 && (nat_lt f.a 256 && nat_lt f.b 256)) ≡ true = λ n. lt_three f.a f.a f.b 256 (omega (arith, n.a)) (omega (arith, n.a)) (omega (arith, n.b)) in
      let all : Bytes f → (nat_lt f.a 256 && (nat_lt f.b 256 && nat_lt f.c 256)) ≡ true = λ b. lt_three f.a f.b f.c 256 b.a b.b b.c in
      let there : operates op ≡ true = of_span operates 0x6e 0xff op refl (range 0x6e 0xff op lo (omega (arith, low))) in
      or (from_to op 0x7b 0x8f) (λ e. let n = narrow (of_span (format_passes is_narrow) 0x7b 0x8f op refl e) in of (lt_both f.a f.b 16 n.a n.b)) (λ not_one.
      or (from_to op 0x90 0xaf) (λ e. of (all (bytes (of_span (format_passes has_bytes) 0x90 0xaf op refl e)))) (λ _.
      or (from_to op 0xb0 0xcf) (λ e. of (wider (narrow (of_span (format_passes is_narrow) 0xb0 0xcf op refl e)))) (λ not_two.
      or (from_to op 0xd0 0xd7) (λ e. let n = narrow (of_span (format_passes is_narrow) 0xd0 0xd7 op refl e) in
      of (or_right _ (nat_lt f.a 16 && (nat_lt f.b 16 && shorts op)) (and_both (nat_lt f.a 16) (nat_lt f.b 16 && shorts op) (lt f.a 16 n.a) (and_both (nat_lt f.b 16) (shorts op) (lt f.b 16 n.b) (of_span shorts 0xd0 0xd7 op refl e)))))
      (λ not_three.
      let b = bytes (behind (is_call op || (from_to op 0x7b 0x8f || (from_to op 0xb0 0xcf || from_to op 0xd0 0xd7))) (format_passes has_bytes op) there
      (none_or (is_call op) (from_to op 0x7b 0x8f || (from_to op 0xb0 0xcf || from_to op 0xd0 0xd7)) no_call
      (none_or (from_to op 0x7b 0x8f) (from_to op 0xb0 0xcf || from_to op 0xd0 0xd7) not_one (none_or (from_to op 0xb0 0xcf) (from_to op 0xd0 0xd7) not_two not_three)))) in
      of (or_left (nat_lt f.a 256 && (nat_lt f.b 256 && small f.c)) _ (and_both (nat_lt f.a 256) (nat_lt f.b 256 && small f.c) (lt f.a 256 b.a) (and_both (nat_lt f.b 256) (small f.c) (lt f.b 256 b.b) (small_byte f.c b.c))))))))

  pub plain_spelled : is_call op ≡ false → is_branch op ≡ false → has_payload op ≡ false → Spelled (plain op f)
  unfolding plain
  plain_spelled no_call no_branch no_payload =
      or (nat_lt op 0x12) (λ e. move (below op 0x12 e)) (λ e1.
      or (nat_lt op 0x16) (λ e. const (not_below op 0x12 e1) (below op 0x16 e)) (λ e2.
      or (nat_lt op 0x1a) (λ e. wide (not_below op 0x16 e2) (below op 0x1a e)) (λ e3.
      or (nat_lt op 0x28) (λ e. object (not_below op 0x1a e3) (below op 0x28 e)) (λ e4.
      or (nat_lt op 0x52) (λ e. array (not_below op 0x28 e4) (below op 0x52 e) no_branch no_payload) (λ e5.
      or (nat_lt op 0x6e) (λ e. field (not_below op 0x52 e5) (below op 0x6e e)) (λ e6. operation (not_below op 0x6e e6) no_call))))))

  -- ---- branches and calls

  pub branch_spelled : (target : ℕ) → is_branch op ≡ true → Spelled (branch_form op f target)
  unfolding format_at
  branch_spelled target is =
      or (from_to op 0x28 0x2a) (λ e. of refl) (λ far.
      let one : nat_lt f.a 256 ≡ true = lt f.a 256 (first (of_span (format_passes has_first) 0x32 0x3d op refl (behind (from_to op 0x28 0x2a) (from_to op 0x32 0x3d) is far))).a in
      or (from_to op 0x32 0x37) (λ e. let n = narrow (of_span (format_passes is_narrow) 0x32 0x37 op refl e) in of (lt_both f.a f.b 16 n.a n.b)) (λ e. of one))

  taken_all : (test : ℕ → Bool) (n : ℕ) (xs : List ℕ) → list_all test xs ≡ true → list_all test (take n xs) ≡ true
  taken_all test zero [] h = refl
  taken_all test zero (x ∷ xs) h = refl
  taken_all test (suc n) [] h = refl
  taken_all test (suc n) (x ∷ xs) h = and_both (test x) (list_all test (take n xs)) (and_left (test x) (list_all test xs) h) (taken_all test n xs (and_right (test x) (list_all test xs) h))

  taken_few : (n : ℕ) (xs : List ℕ) → length (take n xs) ≤ length xs
  taken_few zero [] = omega arith
  taken_few zero (x ∷ xs) = omega arith
  taken_few (suc n) [] = omega arith
  taken_few (suc n) (x ∷ xs) = omega (arith, taken_few n xs)

  abbrev four : ℕ → Bool
  four r = nat_lt r 16

  nibbles : fit_nibbles (nibbles_form f) ≡ true
  nibbles =
      let five : List ℕ = (f.c % 16) ∷ (f.c / 16 % 16) ∷ (f.c / 256 % 16) ∷ (f.c / 4096) ∷ (f.wide % 16) ∷ [] in
      let few : length (take f.a five) ≤ 5 = taken_few f.a five in
      let c : f.c < 65536 = third.c in
      let all : list_all four five ≡ true =
      and_both (four (f.c % 16)) (four (f.c / 16 % 16) && (four (f.c / 256 % 16) && (four (f.c / 4096) && (four (f.wide % 16) && true)))) (lt (f.c % 16) 16 (omega arith))
      (and_both (four (f.c / 16 % 16)) (four (f.c / 256 % 16) && (four (f.c / 4096) && (four (f.wide % 16) && true))) (lt (f.c / 16 % 16) 16 (omega arith))
      (and_both (four (f.c / 256 % 16)) (four (f.c / 4096) && (four (f.wide % 16) && true)) (lt (f.c / 256 % 16) 16 (omega arith))
      (and_both (four (f.c / 4096)) (four (f.wide % 16) && true) (lt (f.c / 4096) 16 (omega (arith, c)))
      (and_both (four (f.wide % 16)) true (lt (f.wide % 16) 16 (omega arith)) refl)))) in
      and_both (nat_le (length (take f.a five)) 5) (list_all four (take f.a five)) (le-leb _ 5 few) (taken_all four f.a five all)

  many : (r n : ℕ) → length (registers_from r n) ≡ n
  many r zero = refl
  many r (suc n) = ap suc (many (suc r) n)

  follow : (r n : ℕ) → are_adjacent (registers_from r n) ≡ true
  follow r zero = refl
  follow r (suc zero) = refl
  follow r (suc (suc n)) = let one : nat_eq (suc r) (r + 1) ≡ true = eq-eqb (suc r) (r + 1) (omega arith) in
      and_both (nat_eq (suc r) (r + 1)) (are_adjacent (registers_from (suc r) (suc n))) one (follow (suc r) (suc n))

  by_range : (b : Bool) → (b ≡ true → f.a < 256) → fit_call (cond b (registers_from f.c f.a) (nibbles_form f)) ≡ true
  by_range true h = or_right (fit_nibbles (registers_from f.c f.a)) (nat_lt (length (registers_from f.c f.a)) 256 && are_adjacent (registers_from f.c f.a))
      (and_both (nat_lt (length (registers_from f.c f.a)) 256) (are_adjacent (registers_from f.c f.a)) (lt _ 256 (subst (λ (n : ℕ). n < 256) (sym (many f.c f.a)) (h refl))) (follow f.c f.a))
  by_range false h = or_left (fit_nibbles (nibbles_form f)) (nat_lt (length (nibbles_form f)) 256 && are_adjacent (nibbles_form f)) nibbles

  range_first : is_range op ≡ true → format_passes has_first op ≡ true
  unfolding format_at
  range_first h = by (op == 0x25) refl
    where
      by : (b : Bool) → (op == 0x25) ≡ b → format_passes has_first op ≡ true
      by true e = at_one has_first 0x25 e refl
      by false e = of_span (format_passes has_first) 0x74 0x78 op refl (behind (op == 0x25) (from_to op 0x74 0x78) h e)

  pub call_spelled : Spelled (call_form op f)
  call_spelled =
      let words : fit_call (words_form op f) ≡ true = by_range (is_range op) (λ h. (first (range_first h)).a) in
      or (from_to op 0x24 0x25) (λ e. of words) (λ e. or (is_range op) (λ e. of words) (λ e. of words))
