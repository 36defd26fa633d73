-- The moves of what a call passes.
use Rattle.std.proofs.Common.{◌≡◌, ℕ, zero, suc, ◌+◌, ◌-◌, ◌*◌, ◌<◌, ◌≤◌, Bool, true, false, List, [], ◌∷◌, ◌++◌, length, map, drop, Option, Some, None, refl, sym, ap, ap₂, ◌∙◌, subst, arith, ltb-true}
use Rattle.std.specs.Prelude.{◌&&◌, ◌||◌, if◌then◌else◌, min, nat_lt, slice_get, option_and_then}
use Rattle.std.proofs.Math.Nat.{min-eq_left}
use Rattle.lemmas.proofs.Bools.{and_left, and_right}
use Rattle.lemmas.proofs.Lists.{map_long}
use Rattle.insn_set.specs.Widths.{is_wide_slot}
use Rattle.insn_set.specs.declared.ops.Slot.{Slot}
use Rattle.insn_set.specs.declared.ops.Slot.TheVariants as slot
use Rattle.insn_set.specs.declared.form.Insn.{Insn}
use Rattle.insn_set.specs.declared.form.Insn.TheVariants as insn
use Rattle.program_model.specs.MemberRules.{has_flag}
use Rattle.program_model.specs.OperandRules.{are_registers}
use Rattle.program_model.specs.Texts.{letter_of, type_text, first_unit}
use Rattle.program_model.specs.Texts as letter
use Rattle.program_model.specs.declared.pools.MethodName.{MethodName}
use Rattle.program_model.specs.declared.pools.Proto.{Proto}
use Rattle.program_model.specs.declared.program.Method.{Method}
use Rattle.program_model.specs.declared.program.Program.{Program}
use Rattle.dalvik_defs.specs.Flags.{is_static}
use Rattle.dalvik_defs.specs.Names.{Text, is_wide, is_reference}
use Rattle.dalvik_defs.specs.Naming.{type_at, text_at, signature_at, method_at, form_of, named_method}
use Rattle.dalvik_defs.specs.declared.names.MethodKey.{MethodKey}
use Rattle.dalvik_defs.specs.declared.names.Signature.{Signature}
use Rattle.dalvik_defs.specs.declared.forms.Form.{Form}
use Rattle.dalvik_defs.specs.declared.forms.Form.TheVariants as form
use Rattle.dalvik_defs.specs.declared.program.NamedBody.{NamedBody}
use Rattle.dalvik_defs.specs.declared.program.NamedMethod.{NamedMethod}
use Rattle.pass_defs.specs.Inlined as by_name
use Rattle.name_bridge.proofs.Flags.{static_flag}
use Rattle.name_bridge.proofs.Found.{type_same}
use Rattle.splice.specs.declared.callee.Callee.{Callee}
use Rattle.splice.specs.Callees.{args_of}
use Rattle.splice.specs.Moves.{slot_for, slot_of, parameters_in, parameters_of, receiver_slots, passed_slots, first_move, words_of, behind_to, behind_args, moves_to, moves_of}
use Rattle.splice.specs.Shifted.{shifted}
use Rattle.calls_kept.specs.Copied.{IsNamed}

-- ---- registers

pub shifts : (k r : ℕ) → r + k ≤ 65535 → shifted k r ≡ r + k
shifts k r l = min-eq_left l

-- registers that stay in 16 bits when they are so many higher
abbrev pub Near : ℕ → List ℕ → Type 0
Near k [] = Unit {0}
Near k (r ∷ rs) = (r + k ≤ 65535) × Near k rs

pub near_all : (k n : ℕ) (rs : List ℕ) → are_registers rs n ≡ true → n + k ≤ 65535 → Near k rs
near_all k n [] h l = tt
near_all k n (r ∷ rs) h l = let lt = ltb-true r n (and_left (nat_lt r n) (are_registers rs n) h) in (omega (arith, lt, l), near_all k n rs (and_right (nat_lt r n) (are_registers rs n) h) l)

near_drop : (k : ℕ) (rs : List ℕ) → Near k rs → Near k (drop 1 rs)
near_drop k [] h = tt
near_drop k (r ∷ rs) h = h.1

drop_short : (rs : List ℕ) → length (drop 1 rs) ≤ length rs
drop_short [] = omega arith
drop_short (r ∷ rs) = omega arith

-- ---- all moves

module _ (p : Program) (k : ℕ) where
  none_left : (ss : List Slot) (to : ℕ) → moves_to k ss to [] ≡ []
  none_left [] to = refl
  none_left (s ∷ ss) to = none_left ss (behind_to s to)

  abbrev slot_by : Bool → Bool → Slot
  slot_by w q = if w then slot.Wide else if q then slot.Object else slot.Word

  abbrev rest_by : Bool → List Text → ℕ → List ℕ → List Form
  rest_by w ts to rs = elim w as (λ w. List Form) [ true ↦ by_name.moves_to k ts (to + 2) (drop 1 rs) | false ↦ by_name.moves_to k ts (to + 1) rs ]

  abbrev AreMoves : List Slot → List Text → Type 0
  AreMoves ss ts = (to : ℕ) (rs : List ℕ) → to + 2 * length rs ≤ 65535 → Near k rs → map (form_of p) (moves_to k ss to rs) ≡ by_name.moves_to k ts to rs

  one_more : (w q : Bool) (ss : List Slot) (ts : List Text) → AreMoves ss ts → (to r : ℕ) (rs : List ℕ) → to + 2 * length (r ∷ rs) ≤ 65535 → Near k (r ∷ rs)
      → map (form_of p) (first_move k (slot_by w q) to (r ∷ rs) ++ moves_to k ss (behind_to (slot_by w q) to) (behind_args (slot_by w q) (r ∷ rs))) ≡ form.Move (slot_by w q) to (r + k) ∷ rest_by w ts to rs
  one_more true q ss ts h to r rs l n =
      let d = drop_short rs in
      ap₂ (λ x (ys : List Form). form.Move slot.Wide to x ∷ ys) (shifts k r n.0)
      (ap (λ x. map (form_of p) (moves_to k ss x (drop 1 rs))) (shifts 2 to (omega (arith, l))) ∙ h (to + 2) (drop 1 rs) (omega (arith, l, d)) (near_drop k rs n.1))
  one_more false true ss ts h to r rs l n = ap₂ (λ x (ys : List Form). form.Move slot.Object to x ∷ ys) (shifts k r n.0)
      (ap (λ x. map (form_of p) (moves_to k ss x rs)) (shifts 1 to (omega (arith, l))) ∙ h (to + 1) rs (omega (arith, l)) n.1)
  one_more false false ss ts h to r rs l n = ap₂ (λ x (ys : List Form). form.Move slot.Word to x ∷ ys) (shifts k r n.0)
      (ap (λ x. map (form_of p) (moves_to k ss x rs)) (shifts 1 to (omega (arith, l))) ∙ h (to + 1) rs (omega (arith, l)) n.1)

  are_moves : (ts : List Text) → AreMoves (map by_name.slot_of ts) ts
  are_moves [] to rs l n = refl
  are_moves (t ∷ ts) to [] l n = ap (map (form_of p)) (none_left (map by_name.slot_of ts) (behind_to (by_name.slot_of t) to))
  are_moves (t ∷ ts) to (r ∷ rs) l n = one_more (is_wide t) (is_reference t) (map by_name.slot_of ts) ts (are_moves ts) to r rs l n

  few_moves : (ts : List Text) (to : ℕ) (rs : List ℕ) → length (by_name.moves_to k ts to rs) ≤ length rs
  few_moves [] to rs = omega arith
  few_moves (t ∷ ts) to [] = omega arith
  few_moves (t ∷ ts) to (r ∷ rs) = by (is_wide t) (few_moves ts (to + 2) (drop 1 rs)) (few_moves ts (to + 1) rs)
    where
      by : (w : Bool) → length (by_name.moves_to k ts (to + 2) (drop 1 rs)) ≤ length (drop 1 rs) → length (by_name.moves_to k ts (to + 1) rs) ≤ length rs → suc (length (rest_by w ts to rs)) ≤ suc (length rs)
      by true a b = let d = drop_short rs in omega (arith, a, d)
      by false a b = omega (arith, b)

-- ---- types

slots_alike : (w : Bool) (q : Bool) (w' : Bool) (q' : Bool) → w ≡ w' → q ≡ q'
    → ◌≡◌ {A = Slot} (if w then slot.Wide else if q then slot.Object else slot.Word) (if w' then slot.Wide else if q' then slot.Object else slot.Word)
slots_alike w q w' q' e f = ap₂ (λ a b. if a then slot.Wide else if b then slot.Object else slot.Word) e f

wide_letter : (t : Text) → letter.is_wide (first_unit t) ≡ is_wide t
wide_letter [] = refl
wide_letter (u ∷ us) = refl

reference_letter : (t : Text) → letter.is_reference (first_unit t) ≡ is_reference t
reference_letter [] = refl
reference_letter (u ∷ us) = refl

module _ (p : Program) where
  pub same_slot : (k : ℕ) → slot_of p k ≡ by_name.slot_of (type_at p k)
  unfolding letter_of
  same_slot k =
      let t : type_text p k ≡ type_at p k = sym (type_same p k) in
      slots_alike (letter.is_wide (first_unit (type_text p k))) (letter.is_reference (first_unit (type_text p k))) (is_wide (type_at p k)) (is_reference (type_at p k))
      (wide_letter (type_text p k) ∙ ap is_wide t) (reference_letter (type_text p k) ∙ ap is_reference t)

  same_slots : (ks : List ℕ) → map (slot_of p) ks ≡ map by_name.slot_of (map (type_at p) ks)
  same_slots [] = refl
  same_slots (k ∷ ks) = ap₂ (λ x xs. x ∷ xs) (same_slot k) (same_slots ks)

  pub same_parameters : (n : ℕ) → (method_at p n).signature.parameters ≡ map (type_at p) (parameters_of p n)
  same_parameters n = by (slice_get p.methods n)
    where
      by_proto : (o : Option Proto) → (elim o as (λ o. Signature) [
        | Some q ↦ record { parameters = map (type_at p) q.parameters; result = type_at p q.result }
        | None ↦ record { parameters = []; result = [] }
      ]).parameters ≡ map (type_at p) (parameters_in o)
      by_proto None = refl
      by_proto (Some q) = refl

      by : (o : Option MethodName) → (elim o as (λ o. MethodKey) [
        | Some m ↦ record { class = type_at p m.class; name = text_at p m.name; signature = signature_at p m.proto }
        | None ↦ record { class = []; name = []; signature = record { parameters = []; result = [] } }
      ]).signature.parameters ≡ map (type_at p) (parameters_in (option_and_then (λ m. slice_get p.protos m.proto) o))
      by None = refl
      by (Some m) = by_proto (slice_get p.protos m.proto)

  module _ (i : Insn) (c : Callee) (y : by_name.Callee) (is : IsNamed p i c y) where
    pub same_passed : passed_slots p c.method.now ≡ map by_name.slot_of (by_name.passed_types y)
    same_passed = ap₂ (λ (t : Bool) (ss : List Slot). (if t then [] else slot.Object ∷ []) ++ ss) (static_flag c.method.now.flags) (same_slots (parameters_of p c.method.now.name))
        ∙ by (is_static (named_method p c.method.now).flags)
        ∙ ap (λ (m : NamedMethod). map by_name.slot_of (if is_static m.flags then m.signature.parameters else y.key.class ∷ m.signature.parameters)) (sym is.method)
      where
        by : (s : Bool) → (if s then [] else slot.Object ∷ []) ++ map by_name.slot_of (map (type_at p) (parameters_of p c.method.now.name))
            ≡ map by_name.slot_of (if s then (named_method p c.method.now).signature.parameters else y.key.class ∷ (named_method p c.method.now).signature.parameters)
        by true = ap (map by_name.slot_of) (sym (same_parameters c.method.now.name))
        by false = ap₂ (λ x xs. x ∷ map by_name.slot_of xs) (sym is.receiver) (sym (same_parameters c.method.now.name))

    module _ (k n : ℕ) (passes : are_registers (args_of i) n ≡ true) (low : n + k ≤ 65535) (room : c.body.now.registers + 2 * length (args_of i) ≤ 65535) where
      pub same_moves : map (form_of p) (moves_of p k c (args_of i)) ≡ by_name.moves_of k y
      same_moves = ap (λ ss. map (form_of p) (moves_to k ss (c.body.now.registers - c.body.now.ins) (args_of i))) same_passed
          ∙ are_moves p k (by_name.passed_types y) (c.body.now.registers - c.body.now.ins) (args_of i) (omega (arith, room)) (near_all k n (args_of i) passes low)
          ∙ ap₂ (λ (b : NamedBody) rs. by_name.moves_to k (by_name.passed_types y) (b.registers - b.ins) rs) (sym is.body) (sym is.args)

      pub long_moves : length (moves_of p k c (args_of i)) ≡ length (by_name.moves_of k y)
      long_moves = sym (map_long (form_of p) (moves_of p k c (args_of i))) ∙ ap length same_moves

      pub short_moves : length (by_name.moves_of k y) ≤ length (args_of i)
      short_moves = subst (λ rs. length (by_name.moves_of k y) ≤ length rs) is.args (few_moves p k (by_name.passed_types y) (y.body.registers - y.body.ins) y.args)
