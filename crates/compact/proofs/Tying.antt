-- What an instruction ties.
use Rattle.std.proofs.Common.{◌≡◌, inl, inr, ℕ, ◌+◌, Bool, true, false, List, [], ◌∷◌, ◌++◌, map, nat_eq, Contains, refl, sym, ap, ◌∙◌, subst}
use Rattle.std.specs.Prelude.{◌||◌, ◌&&◌, not, drop, slice_index_or, if◌then◌else◌}
use Rattle.std.specs.List.{list_any, filter}
use Rattle.std.proofs.lemmas.Bool.{false≢true, or_left, or_right, and_parts, and_from, eqb-true, eq-eqb, not_from_false}
use Rattle.std.proofs.lemmas.List.Elements.{Contains-append_left, Contains-append_right, Contains-append_cases}
use Rattle.insn_set.specs.Registers.{in_operand, reads_of, writes_of}
use Rattle.insn_set.specs.Widths.{is_wide_slot, is_wide_item, compares_wide, unary_reads_wide, unary_writes_wide, binary_is_wide, second_is_wide}
use Rattle.insn_set.specs.Spelling.{fit_nibbles, are_adjacent}
use Rattle.insn_set.specs.declared.ops.InvokeKind.{InvokeKind}
use Rattle.insn_set.specs.declared.ops.InvokeKind.TheVariants as call
use Rattle.insn_set.specs.declared.form.Insn.{Insn}
use Rattle.insn_set.specs.declared.form.Insn.TheVariants.{Move, MoveResult, Return, ConstWide, FilledNewArray, Cmp, ArrayGet, ArrayPut, InstanceGet, InstancePut, StaticGet, StaticPut, Invoke, Unary, Binary}
use Rattle.insn_regs.specs.Wides.{first_if, wide_arguments, wide_passed, wides_read}
use Rattle.body_graph.proofs.Members.{none, first, there, split, in_filter, to_filter}
use Rattle.compact.specs.Packed.{wides_written, wides_of, uses, in_range_call, binds}
use Rattle.compact.specs.Ties.{has_next, tied_words, range_ties, ties_of}
use Rattle.compact.proofs.Rows.{any_in, any_of}
use Rattle.compact.proofs.Spelled.{Adjoins}

-- ---- members and tests

listed : (r : ℕ) (xs : List ℕ) → Contains xs r → list_any (nat_eq r) xs ≡ true
listed r xs c = any_in (nat_eq r) xs r c (eq-eqb r r refl)

member : (r : ℕ) (xs : List ℕ) → list_any (nat_eq r) xs ≡ true → Contains xs r
member r xs h = let u : (x : ℕ) × Contains xs x × (nat_eq r x ≡ true) = any_of (nat_eq r) xs h in subst (λ k. Contains xs k) (sym (eqb-true r u.0 u.2)) u.1

pub wide_ties : (w : List (List Bool)) (f : Insn) (r : ℕ) → list_any (nat_eq r) (wides_of w f) ≡ true → Contains (ties_of w f) r
wide_ties w f r h = Contains-append_left (wides_of w f) (range_ties f) r (member r (wides_of w f) h)

-- ---- calls by a range

words_tied : (words : List ℕ) (r : ℕ) → Contains (tied_words words) r → (fit_nibbles words ≡ false) × (Contains words r × Contains words (r + 1))
words_tied words r c = at (fit_nibbles words) refl c
  where
    at : (t : Bool) → t ≡ fit_nibbles words → Contains (if t then [] else filter (has_next words) words) r → (fit_nibbles words ≡ false) × (Contains words r × Contains words (r + 1))
    at true e d = absurd (none r d)
    at false e d =
        let p : Contains words r × (has_next words r ≡ true) = in_filter (has_next words) words r d in
        let u : (x : ℕ) × Contains words x × (nat_eq x (r + 1) ≡ true) = any_of (λ b. nat_eq b (r + 1)) words p.1 in
        (sym e, (p.0, subst (λ k. Contains words k) (eqb-true u.0 (r + 1) u.2) u.1))

range_binds : (words : List ℕ) (r : ℕ) → fit_nibbles words ≡ false → Contains words r → (not (fit_nibbles words) && list_any (nat_eq r) words) ≡ true
range_binds words r e c = and_from (not (fit_nibbles words)) (list_any (nat_eq r) words) (not_from_false (fit_nibbles words) e) (listed r words c)

range_call : (f : Insn) (r : ℕ) → Contains (range_ties f) r → (in_range_call f r ≡ true) × (in_range_call f (r + 1) ≡ true)
range_call (FilledNewArray kind args) r c = let p : (fit_nibbles args ≡ false) × (Contains args r × Contains args (r + 1)) = words_tied args r c in (range_binds args r p.0 p.1.0, range_binds args (r + 1) p.0 p.1.1)
range_call (Invoke kind method args) r c = let p : (fit_nibbles args ≡ false) × (Contains args r × Contains args (r + 1)) = words_tied args r c in (range_binds args r p.0 p.1.0, range_binds args (r + 1) p.0 p.1.1)
range_call f r c = absurd (none r c)

either_binds : (w : List (List Bool)) (f : Insn) (r : ℕ) → Contains (ties_of w f) r → (binds w f r ≡ true) × (binds w f (r + 1) ≡ true)
either_binds w f r c = elim (Contains-append_cases (wides_of w f) (range_ties f) r c) [
  | inl d ↦ (
    or_left (list_any (λ at. in_operand true at r) (wides_of w f)) (in_range_call f r) (any_in (λ at. in_operand true at r) (wides_of w f) r d (or_left (nat_eq r r) (nat_eq r (r + 1)) (eq-eqb r r refl))),
    or_left (list_any (λ at. in_operand true at (r + 1)) (wides_of w f)) (in_range_call f (r + 1)) (any_in (λ at. in_operand true at (r + 1)) (wides_of w f) r d (or_right (nat_eq (r + 1) r) (nat_eq (r + 1) (r + 1)) (eq-eqb (r + 1) (r + 1) refl))),
  )
  | inr d ↦
      let p : (in_range_call f r ≡ true) × (in_range_call f (r + 1) ≡ true) = range_call f r d in
      (or_right (list_any (λ at. in_operand true at r) (wides_of w f)) (in_range_call f r) p.0, or_right (list_any (λ at. in_operand true at (r + 1)) (wides_of w f)) (in_range_call f (r + 1)) p.1)
]

pub tie_binds : (w : List (List Bool)) (f : Insn) (r : ℕ) → Contains (ties_of w f) r → binds w f r ≡ true
tie_binds w f r c = (either_binds w f r c).0

pub tie_binds_next : (w : List (List Bool)) (f : Insn) (r : ℕ) → Contains (ties_of w f) r → binds w f (r + 1) ≡ true
tie_binds_next w f r c = (either_binds w f r c).1

-- ---- what is tied is used

words_read : (r : ℕ) (xs : List ℕ) → Contains xs r → list_any (λ a. nat_eq a r) xs ≡ true
words_read r xs c = any_in (λ a. nat_eq a r) xs r c (eq-eqb r r refl)

dropped : (r : ℕ) (xs : List ℕ) → Contains (drop 1 xs) r → Contains xs r
dropped r [] c = c
dropped r (x ∷ xs) c = there x xs r c

passed : (ws : List Bool) (rs : List ℕ) (r : ℕ) → Contains (wide_arguments ws rs) r → Contains rs r
passed [] rs r c = absurd (none r c)
passed (v ∷ ws) [] r c = absurd (none r c)
passed (true ∷ ws) (x ∷ rs) r c = elim (split x (wide_arguments ws (drop 1 rs)) r c) [ inl e ↦ subst (λ k. Contains (x ∷ rs) k) e (first x rs) | inr d ↦ there x rs r (dropped r rs (passed ws (drop 1 rs) r d)) ]
passed (false ∷ ws) (x ∷ rs) r c = there x rs r (passed ws rs r c)

passed_by : (kind : InvokeKind) (ws : List Bool) (rs : List ℕ) (r : ℕ) → Contains (wide_passed kind ws rs) r → Contains rs r
passed_by call.Static ws rs r c = passed (drop 1 ws) rs r c
passed_by kind ws rs r c = passed ws rs r c

one_wide : (v : Bool) (at r : ℕ) → Contains (first_if v at) r → in_operand v at r ≡ true
one_wide true at r c = elim (split at [] r c) [ inl e ↦ or_left (nat_eq r at) (nat_eq r (at + 1)) (eq-eqb r at (sym e)) | inr d ↦ absurd (none r d) ]
one_wide false at r c = absurd (none r c)

two_wide : (u v : Bool) (a b r : ℕ) → Contains (first_if u a ++ first_if v b) r → (in_operand u a r || in_operand v b r) ≡ true
two_wide u v a b r c = elim (Contains-append_cases (first_if u a) (first_if v b) r c) [ inl d ↦ or_left (in_operand u a r) (in_operand v b r) (one_wide u a r d) | inr d ↦ or_right (in_operand u a r) (in_operand v b r) (one_wide v b r d) ]

wide_read : (w : List (List Bool)) (f : Insn) (r : ℕ) → Contains (wides_read w f) r → reads_of f r ≡ true
wide_read w (Move slot to from) r c = one_wide (is_wide_slot slot) from r c
wide_read w (Return slot from) r c = one_wide (is_wide_slot slot) from r c
wide_read w (Cmp op to a b) r c = two_wide (compares_wide op) (compares_wide op) a b r c
wide_read w (ArrayPut item from array index) r c = or_first (in_operand (is_wide_item item) from r) (nat_eq r array) (nat_eq r index) (one_wide (is_wide_item item) from r c)
  where
    or_first : (x y z : Bool) → x ≡ true → (x || y || z) ≡ true
    or_first true y z e = refl
    or_first false y z e = absurd (false≢true e)
wide_read w (InstancePut item from on field) r c = or_left (in_operand (is_wide_item item) from r) (nat_eq r on) (one_wide (is_wide_item item) from r c)
wide_read w (StaticPut item from field) r c = one_wide (is_wide_item item) from r c
wide_read w (Invoke kind method args) r c = words_read r args (passed_by kind (slice_index_or w method []) args r c)
wide_read w (Unary op to from) r c = one_wide (unary_reads_wide op) from r c
wide_read w (Binary op to a b) r c = two_wide (binary_is_wide op) (second_is_wide op) a b r c
wide_read w f r c = absurd (none r c)

wide_written : (f : Insn) (r : ℕ) → Contains (wides_written f) r → writes_of f r ≡ true
wide_written (Move slot to from) r c = one_wide (is_wide_slot slot) to r c
wide_written (MoveResult slot to) r c = one_wide (is_wide_slot slot) to r c
wide_written (ConstWide to value) r c = one_wide true to r c
wide_written (ArrayGet item to array index) r c = one_wide (is_wide_item item) to r c
wide_written (InstanceGet item to on field) r c = one_wide (is_wide_item item) to r c
wide_written (StaticGet item to field) r c = one_wide (is_wide_item item) to r c
wide_written (Unary op to from) r c = one_wide (unary_writes_wide op) to r c
wide_written (Binary op to a b) r c = one_wide (binary_is_wide op) to r c
wide_written f r c = absurd (none r c)

range_read : (f : Insn) (r : ℕ) → Contains (range_ties f) r → reads_of f r ≡ true
range_read (FilledNewArray kind args) r c = words_read r args (words_tied args r c).1.0
range_read (Invoke kind method args) r c = words_read r args (words_tied args r c).1.0
range_read f r c = absurd (none r c)

pub tie_uses : (w : List (List Bool)) (f : Insn) (r : ℕ) → Contains (ties_of w f) r → uses f r ≡ true
tie_uses w f r c = elim (Contains-append_cases (wides_of w f) (range_ties f) r c) [
  | inl d ↦ elim (Contains-append_cases (wides_written f) (wides_read w f) r d) [
    | inl i ↦ or_right (reads_of f r) (writes_of f r) (wide_written f r i)
    | inr i ↦ or_left (reads_of f r) (writes_of f r) (wide_read w f r i)
  ]
  | inr d ↦ or_left (reads_of f r) (writes_of f r) (range_read f r d)
]

-- ---- adjacent registers

module _ (g : ℕ → ℕ) (words : List ℕ) (ties : (r : ℕ) → Contains (tied_words words) r → g (r + 1) ≡ g r + 1) (range : fit_nibbles words ≡ false) where
  tied : (r : ℕ) → Contains words r → Contains words (r + 1) → Contains (tied_words words) r
  tied r c d = subst (λ t. Contains (if t then [] else filter (has_next words) words) r) (sym range) (to_filter (has_next words) words r c (any_in (λ b. nat_eq b (r + 1)) words (r + 1) d (eq-eqb (r + 1) (r + 1) refl)))

  -- of a part of the words
  part : (xs : List ℕ) → ((r : ℕ) → Contains xs r → Contains words r) → are_adjacent xs ≡ true → are_adjacent (map g xs) ≡ true
  part [] inside h = refl
  part (x ∷ []) inside h = refl
  part (x ∷ y ∷ ys) inside h =
      let p : (nat_eq y (x + 1) ≡ true) × (are_adjacent (y ∷ ys) ≡ true) = and_parts (nat_eq y (x + 1)) (are_adjacent (y ∷ ys)) h in
      let e : y ≡ x + 1 = eqb-true y (x + 1) p.0 in
      let next : Contains words (x + 1) = subst (λ k. Contains words k) e (inside y (there x (y ∷ ys) y (first y ys))) in
      let here : g y ≡ g x + 1 = ap g e ∙ ties x (tied x (inside x (first x (y ∷ ys))) next) in
      and_from (nat_eq (g y) (g x + 1)) (are_adjacent (map g (y ∷ ys))) (eq-eqb (g y) (g x + 1) here) (part (y ∷ ys) (λ r c. inside r (there x (y ∷ ys) r c)) p.1)

  whole : are_adjacent words ≡ true → are_adjacent (map g words) ≡ true
  whole h = part words (λ r c. c) h

pub adjoins : (w : List (List Bool)) (g : ℕ → ℕ) (f : Insn) → ((r : ℕ) → Contains (ties_of w f) r → g (r + 1) ≡ g r + 1) → Adjoins g f
adjoins w g (FilledNewArray kind args) ties = λ e h. whole g args (λ r c. ties r (Contains-append_right (wides_of w (FilledNewArray kind args)) (tied_words args) r c)) e h
adjoins w g (Invoke kind method args) ties = λ e h. whole g args (λ r c. ties r (Contains-append_right (wides_of w (Invoke kind method args)) (tied_words args) r c)) e h
adjoins w g f ties = tt
