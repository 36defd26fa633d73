-- What a form leaves of kinds that agree where it reads agrees where they do or it writes.
use Rattle.std.proofs.Common.{◌≡◌, ◌⊎◌, inl, inr, ℕ, zero, suc, ◌+◌, Bool, true, false, true≢false, if◌then◌else◌, List, [], ◌∷◌, length, map, refl, sym, ap, ◌∙◌, subst, arith, nat_eq, eq-eqb}
use Rattle.std.specs.Prelude.{◌&&◌, ◌||◌, not}
use Rattle.std.specs.List.{list_any}
use Rattle.std.proofs.lemmas.Bool.{eqb-true, or_cases}
use Rattle.lemmas.proofs.Bools.{or_false_left, or_false_right}
use Rattle.insn_set.specs.Registers.{in_operand}
use Rattle.insn_set.specs.Widths.{is_wide_slot, is_wide_item, unary_writes_wide, binary_is_wide}
use Rattle.insn_set.specs.declared.ops.Slot.{Slot}
use Rattle.insn_set.specs.declared.ops.Slot.TheVariants as slot
use Rattle.insn_set.specs.declared.ops.Item.{Item}
use Rattle.insn_set.specs.declared.ops.Item.TheVariants as item
use Rattle.insn_set.specs.declared.ops.InvokeKind.{InvokeKind}
use Rattle.insn_set.specs.declared.ops.InvokeKind.TheVariants as call
use Rattle.dalvik_defs.specs.Names.{Text, is_word, is_wide, is_reference}
use Rattle.dalvik_defs.specs.declared.names.MethodKey.{MethodKey}
use Rattle.dalvik_defs.specs.declared.forms.Form.{Form}
use Rattle.dalvik_defs.specs.declared.forms.Form.TheVariants as form
use Rattle.dalvik_defs.specs.declared.program.NamedClass.{NamedClass}
use Rattle.dalvik_defs.specs.declared.program.NamedMethod.{NamedMethod}
use Rattle.dalvik_defs.specs.declared.program.NamedProgram.{NamedProgram}
use Rattle.pass_defs.specs.Bare.{reads, writes}
use Rattle.pass_defs.specs.Kinds.{Kind, Undefined, Word, Low, Reference, Array, Fresh, FreshThis, kind_eq, kind_of, kind_of_reference}
use Rattle.pass_defs.specs.Registers.{Kinds, kind_at, written, written_kinds, replaced, replace, forgotten, forget}
use Rattle.pass_defs.specs.Demands.{is_constructor_name, result_fits, place_allowed, is_allowed}
use Rattle.pass_defs.specs.Typed.{number_kind, constant_kind, got, moved, constructed, receiver_register, is_static_call, called, after, wrong_item, wrong_field, wrong_first, words_of, passed_words, wrong_method, wrong_super, is_wrong}
use Rattle.program_laws.proofs.ChangedLists.{and_left}
use Rattle.bodies_kept.proofs.Agreeing.{AgreeOn, same_or, pair_agree, kinds_agree, fewer_agree, map_agree}

-- ---- kinds that are the low half of a wide

pub eq_low : (k : Kind) → kind_eq k Low ≡ true → k ≡ Low
eq_low Low e = refl
eq_low k e = absurd (true≢false (sym e))

moved_low : (s : Slot) (k : Kind) → is_wide_slot s ≡ true → moved s k ≡ Low
moved_low slot.Wide k e = refl
moved_low s k e = absurd (true≢false (sym e))

result_low : (s : Slot) (k : Kind) → is_wide_slot s ≡ true → result_fits s k ≡ true → k ≡ Low
result_low slot.Wide k e d = eq_low k d
result_low s k e d = absurd (true≢false (sym e))

got_low : (p : NamedProgram) (i : Item) (k : Kind) → is_wide_item i ≡ true → got p i k ≡ Low
got_low p item.Wide k e = refl
got_low p i k e = absurd (true≢false (sym e))

number_low : (b : Bool) → b ≡ true → number_kind b ≡ Low
number_low b e = ap number_kind e

-- a wide type is no type of words
wide_word : (t : Text) → is_wide t ≡ true → is_word t ≡ false
wide_word [] e = absurd (true≢false (sym e))
wide_word (u ∷ us) e = elim (or_cases (nat_eq u 74) (nat_eq u 68) e) [
  | inl d ↦ subst (λ (v : ℕ). is_word (v ∷ us) ≡ false) (sym (eqb-true u 74 d)) refl
  | inr d ↦ subst (λ (v : ℕ). is_word (v ∷ us) ≡ false) (sym (eqb-true u 68 d)) refl
]

pub wide_kind : (p : NamedProgram) (t : Text) → is_wide t ≡ true → kind_of p t ≡ Low
wide_kind p t e = ap (λ b. if b then Word else if is_wide t then Low else if is_reference t then kind_of_reference p t else Undefined) (wide_word t e)
    ∙ ap (λ b. if b then Low else if is_reference t then kind_of_reference p t else Undefined) e

item_low : (p : NamedProgram) (i : Item) (t : Text) → is_wide_item i ≡ true → wrong_item i t ≡ false → kind_of p t ≡ Low
item_low p item.Wide t e d = wide_kind p t (by (is_wide t) d)
  where
    by : (b : Bool) → not b ≡ false → b ≡ true
    by true h = refl
    by false h = absurd (true≢false h)
item_low p i t e d = absurd (true≢false (sym e))

first_in : (wide : Bool) (r : ℕ) → in_operand wide r r ≡ true
first_in false r = eq-eqb r r refl
first_in true r = ap (λ b. b || nat_eq r (r + 1)) (eq-eqb r r refl)

-- ---- forms

pub record SameAfter (Q : ℕ → Type 0) (b b' : Kinds) : Type 0 where
  pub registers : AgreeOn Q b.registers b'.registers
  pub result : b'.result ≡ b.result
  pub caught : b'.caught ≡ b.caught
  pub receiver : b'.receiver ≡ b.receiver

module _ (P Q : ℕ → Type 0) where
  -- a write of one register, or of two where it is the low half of a wide
  written_same : (a a' : Kinds) → SameAfter P a a' → (wide : Bool) (to : ℕ) (k k' : Kind) → k' ≡ k → (wide ≡ true → k ≡ Low) → ((x : ℕ) → Q x → in_operand wide to x ≡ false → P x) → SameAfter Q (written to k a) (written to k' a')
  written_same a a' s wide to k k' e low keeps = record { registers = subst (λ (j : Kind). AgreeOn Q (written_kinds to k a.registers) (written_kinds to j a'.registers)) (sym e) (by wide low keeps); result = s.result; caught = s.caught; receiver = s.receiver }
    where
      apart : (x : ℕ) → (x ≡ to → ⊥) → nat_eq x to ≡ false
      apart x n = by_test (nat_eq x to) refl
        where
          by_test : (t : Bool) → nat_eq x to ≡ t → t ≡ false
          by_test true d = absurd (n (eqb-true x to d))
          by_test false d = refl

      differ : (x y : ℕ) → (x ≡ y → ⊥) → nat_eq x y ≡ false
      differ x y n = by_test (nat_eq x y) refl
        where
          by_test : (t : Bool) → nat_eq x y ≡ t → t ≡ false
          by_test true d = absurd (n (eqb-true x y d))
          by_test false d = refl

      one : ((x : ℕ) → Q x → nat_eq x to ≡ false → P x) → (x : ℕ) → Q x → (x ≡ to) ⊎ P x
      one h x q = elim (same_or x to) [ inl d ↦ inl d | inr n ↦ inr (h x q (differ x to n)) ]

      two : ((x : ℕ) → Q x → (nat_eq x to || nat_eq x (to + 1)) ≡ false → P x) → (x : ℕ) → Q x → (x ≡ to + 1) ⊎ ((x ≡ to) ⊎ P x)
      two h x q = elim (same_or x (to + 1)) [
        | inl d ↦ inl d
        | inr m ↦ inr (elim (same_or x to) [ inl d ↦ inl d | inr n ↦ inr (h x q (ap (λ b. b || nat_eq x (to + 1)) (differ x to n) ∙ differ x (to + 1) m)) ])
      ]

      by : (w : Bool) → (w ≡ true → k ≡ Low) → ((x : ℕ) → Q x → in_operand w to x ≡ false → P x) → AgreeOn Q (written_kinds to k a.registers) (written_kinds to k a'.registers)
      by false l h = kinds_agree P Q a.registers a'.registers to s.registers k (one h)
      by true l h = subst (λ (j : Kind). AgreeOn Q (written_kinds to j a.registers) (written_kinds to j a'.registers)) (sym (l refl)) (pair_agree P Q a.registers a'.registers to s.registers (two h))

  kept_same : (a a' : Kinds) → SameAfter P a a' → ((x : ℕ) → Q x → P x) → SameAfter Q a a'
  kept_same a a' s h = record { registers = fewer_agree P Q a.registers a'.registers s.registers h; result = s.result; caught = s.caught; receiver = s.receiver }

never : {A : Type 0} → false ≡ true → A
never e = absurd (true≢false (sym e))

-- ---- objects

module _ (P : ℕ → Type 0) (a a' : Kinds) (s : SameAfter P a a') where
  replace_same : (old new : Kind) → replaced old new Undefined ≡ Undefined → SameAfter P (replace old new a) (replace old new a')
  replace_same old new e = record { registers = map_agree P (replaced old new) e a.registers a'.registers s.registers; result = s.result; caught = s.caught; receiver = ap (replaced old new) s.receiver }

  forget_same : (n : ℕ) → SameAfter P (forget n a) (forget n a')
  forget_same n = record { registers = map_agree P (forgotten n) refl a.registers a'.registers s.registers; result = s.result; caught = s.caught; receiver = s.receiver }

  constructed_same : (p : NamedProgram) (c : NamedClass) (k : Kind) → SameAfter P (constructed p c k a) (constructed p c k a')
  constructed_same p c (Fresh t n) = replace_same (Fresh t n) (kind_of p t) refl
  constructed_same p c FreshThis = replace_same FreshThis (kind_of p c.name) refl
  constructed_same p c k = s

module _ (p : NamedProgram) (c : NamedClass) (m : NamedMethod) (n : ℕ) (P Q : ℕ → Type 0) (a a' : Kinds) (s : SameAfter P a a') where
  -- a constructor has a receiver
  call_same : (kind : InvokeKind) (k : MethodKey) (rs : List ℕ) → ((r : ℕ) → list_any (λ x. nat_eq x r) rs ≡ true → P r) → not (nat_eq (length rs) (passed_words kind k)) ≡ false → ((x : ℕ) → Q x → P x)
      → SameAfter Q (called p c kind k rs a) (called p c kind k rs a')
  call_same kind k rs used words keeps = with_result (by (is_constructor_name k.name) (is_static_call kind) refl rs used words)
    where
      with_result : {b b' : Kinds} → SameAfter P b b' → SameAfter Q (record b { result = kind_of p k.signature.result }) (record b' { result = kind_of p k.signature.result })
      with_result {b} {b'} t = record { registers = fewer_agree P Q b.registers b'.registers t.registers keeps; result = refl; caught = t.caught; receiver = t.receiver }

      not_false : (b : Bool) → not b ≡ false → b ≡ true
      not_false true e = refl
      not_false false e = absurd (true≢false e)

      by : (x y : Bool) → is_static_call kind ≡ y → (rs : List ℕ) → ((r : ℕ) → list_any (λ x. nat_eq x r) rs ≡ true → P r) → not (nat_eq (length rs) (passed_words kind k)) ≡ false
          → SameAfter P (if x && not y then constructed p c (kind_at a.registers (receiver_register rs)) a else a) (if x && not y then constructed p c (kind_at a'.registers (receiver_register rs)) a' else a')
      by false y e rs used words = s
      by true true e rs used words = s
      by true false e [] used words =
          let z : 0 ≡ passed_words kind k = eqb-true 0 (passed_words kind k) (not_false (nat_eq 0 (passed_words kind k)) words) in
          let w : passed_words kind k ≡ 1 + words_of k.signature.parameters = ap (λ (b : Bool). (if b then 0 else 1) + words_of k.signature.parameters) e in
          let f : ⊥ = omega (arith, z, w) in absurd f
      by true false e (r ∷ rs) used words = let same : kind_at a'.registers r ≡ kind_at a.registers r = s.registers.same r (used r (ap (λ b. b || list_any (λ x. nat_eq x r) rs) (eq-eqb r r refl))) in
          subst (λ (j : Kind). SameAfter P (constructed p c (kind_at a.registers r) a) (constructed p c j a')) (sym same) (constructed_same P a a' s p c (kind_at a.registers r))

  pub after_same : (f : Form) → ((r : ℕ) → reads f r ≡ true → P r) → ((x : ℕ) → Q x → writes f x ≡ false → P x) → is_allowed p c m a f ≡ true → is_wrong p c m a f ≡ false → SameAfter Q (after p c n f a) (after p c n f a')
  after_same (form.Move t to from) used keeps allowed right = written_same P Q a a' s (is_wide_slot t) to (moved t (kind_at a.registers from)) (moved t (kind_at a'.registers from)) (ap (moved t) (s.registers.same from (used from (first_in (is_wide_slot t) from)))) (moved_low t (kind_at a.registers from)) keeps
  after_same (form.MoveResult t to) used keeps allowed right = written_same P Q a a' s (is_wide_slot t) to a.result a'.result s.result (λ e. result_low t a.result e (and_left (result_fits t a.result) true allowed)) keeps
  after_same (form.MoveException to) used keeps allowed right = written_same P Q a a' s false to a.caught a'.caught s.caught never keeps
  after_same (form.Const to value) used keeps allowed right = written_same P Q a a' s false to (constant_kind value) (constant_kind value) refl never keeps
  after_same (form.ConstWide to value) used keeps allowed right = written_same P Q a a' s true to Low Low refl (λ e. refl) keeps
  after_same (form.ConstString to text) used keeps allowed right = written_same P Q a a' s false to Reference Reference refl never keeps
  after_same (form.ConstClass to kind) used keeps allowed right = written_same P Q a a' s false to Reference Reference refl never keeps
  after_same (form.CheckCast on kind) used keeps allowed right = written_same P Q a a' s false on (kind_of_reference p kind) (kind_of_reference p kind) refl never (λ x q e. keeps x q refl)
  after_same (form.InstanceOf to from kind) used keeps allowed right = written_same P Q a a' s false to Word Word refl never keeps
  after_same (form.ArrayLength to from) used keeps allowed right = written_same P Q a a' s false to Word Word refl never keeps
  after_same (form.NewInstance to kind) used keeps allowed right = written_same P Q (forget n a) (forget n a') (forget_same P a a' s n) false to (Fresh kind n) (Fresh kind n) refl never keeps
  after_same (form.NewArray to size kind) used keeps allowed right = written_same P Q a a' s false to (Array kind) (Array kind) refl never keeps
  after_same (form.FilledNewArray kind args) used keeps allowed right = record { registers = fewer_agree P Q a.registers a'.registers s.registers (λ x q. keeps x q refl); result = refl; caught = s.caught; receiver = s.receiver }
  after_same (form.Cmp op to x y) used keeps allowed right = written_same P Q a a' s false to Word Word refl never keeps
  after_same (form.ArrayGet i to array index) used keeps allowed right = written_same P Q a a' s (is_wide_item i) to (got p i (kind_at a.registers array)) (got p i (kind_at a'.registers array))
      (ap (got p i) (s.registers.same array (used array (ap (λ b. b || nat_eq array index) (eq-eqb array array refl))))) (got_low p i (kind_at a.registers array)) keeps
  after_same (form.InstanceGet i to on field) used keeps allowed right = written_same P Q a a' s (is_wide_item i) to (kind_of p field.kind) (kind_of p field.kind) refl (λ e. item_low p i field.kind e (or_false_left (wrong_item i field.kind) (wrong_field p false field) right)) keeps
  after_same (form.StaticGet i to field) used keeps allowed right = written_same P Q a a' s (is_wide_item i) to (kind_of p field.kind) (kind_of p field.kind) refl
      (λ e. item_low p i field.kind e (or_false_left (wrong_item i field.kind) (wrong_field p true field) (or_false_left (wrong_item i field.kind || wrong_field p true field) (wrong_first p field) right))) keeps
  after_same (form.Invoke kind k args) used keeps allowed right = call_same kind k args used (or_false_right (wrong_method p kind k || wrong_super p c kind k) (not (nat_eq (length args) (passed_words kind k))) right) (λ x q. keeps x q refl)
  after_same (form.Unary op to from) used keeps allowed right = written_same P Q a a' s (unary_writes_wide op) to (number_kind (unary_writes_wide op)) (number_kind (unary_writes_wide op)) refl (number_low (unary_writes_wide op)) keeps
  after_same (form.Binary op to x y) used keeps allowed right = written_same P Q a a' s (binary_is_wide op) to (number_kind (binary_is_wide op)) (number_kind (binary_is_wide op)) refl (number_low (binary_is_wide op)) keeps
  after_same (form.Literal op to x value) used keeps allowed right = written_same P Q a a' s false to Word Word refl never keeps
  after_same f used keeps allowed right = kept_same P Q a a' s (λ x q. keeps x q refl)
