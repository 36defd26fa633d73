-- Switches and filled arrays that were read have spellings, and so has each instruction that was read.
use Rattle.std.proofs.Common.{◌≡◌, ℕ, zero, suc, ◌<◌, ◌+◌, ◌-◌, ◌*◌, ◌/◌, ◌%◌, Bool, true, false, cond, List, [], ◌∷◌, length, drop, refl, sym, ap, subst, ◌∙◌, arith}
use Rattle.std.specs.Prelude.{◌&&◌, ◌||◌, ◌==◌, nat_eq, nat_lt, ℤ, Option, Some, None, slice_get, slice_index, Ok}
use Rattle.std.specs.List.{list_all}
use Rattle.std.proofs.lemmas.Bool.{eqb-true, eq-eqb}
use Rattle.lemmas.proofs.Bools.{and_both, and_right, clash, none_or}
use Rattle.lemmas.proofs.Options.{none_some, some_same}
use Rattle.insn_set.specs.Spelling.{fits_width, is_width, keys_ascend, is_encodable}
use Rattle.insn_set.specs.declared.form.Insn.{Insn}
use Rattle.code_read.specs.declared.fields.Fields.{Fields}
use Rattle.code_read.specs.declared.sizes.Sizes.{Sizes}
use Rattle.code_read.specs.Branches.{is_branch, is_call, call_form}
use Rattle.code_read.specs.Decoded.{opcode_at, fields_at, units_from, payload_of, entries_at, check_payloads, branch_at, call_at, insn_of, insn_at, insns_of}
use Rattle.code_read.specs.Forms.{word, plain}
use Rattle.code_read.specs.Opcodes.{format_at}
use Rattle.code_read.specs.Payloads.{double_in, signed_in, entries, bytes_in, item_in, items_in, keys_in, targets_in, has_payload, size_of, is_right, table_form}
use Rattle.code_read.specs.Positions.{payload_at, unit_from, target_from}
use Rattle.code_read.specs.Sweep.{Places, places_of, sweep_of}
use Rattle.read_laws.proofs.BodyLists.{all_items, Found, weaker, done, failed, as_read, when, either, next}
use Rattle.read_laws.proofs.FieldBounds.{AreUnits, units_behind, has_first, format_passes, narrow_at, bytes_at, first_at, third_at}
use Rattle.read_laws.proofs.Operands.{are_read, start_of}
use Rattle.read_laws.proofs.Spelled.{Spelled, of, or, lt, behind, plain_spelled, branch_spelled, call_spelled}

-- ---- payloads

entries_all : {X : Type 0} (test : X → Bool) (f : List ℕ → X) (width : ℕ) → ((us : List ℕ) → AreUnits us → test (f us) ≡ true) → (n : ℕ) (us : List ℕ) → AreUnits us → list_all test (entries f width n us) ≡ true
entries_all test f width h zero us are = refl
entries_all test f width h (suc n) us are = and_both (test (f us)) (list_all test (entries f width n (drop width us))) (h us are) (entries_all test f width h n (drop width us) (units_behind width us are))

entries_many : {X : Type 0} (f : List ℕ → X) (width n : ℕ) (us : List ℕ) → length (entries f width n us) ≡ n
entries_many f width zero us = refl
entries_many f width (suc n) us = ap suc (entries_many f width n (drop width us))

bytes_all : (n : ℕ) (us : List ℕ) → AreUnits us → list_all (λ (item : ℕ). nat_lt item 256) (bytes_in n us) ≡ true
bytes_all zero us are = refl
bytes_all (suc zero) us are = and_both (nat_lt (slice_index us 0 % 256) 256) true (lt (slice_index us 0 % 256) 256 (omega arith)) refl
bytes_all (suc (suc n)) us are =
    let u = are 0 in
    and_both (nat_lt (slice_index us 0 % 256) 256) (nat_lt (slice_index us 0 / 256) 256 && list_all (λ (item : ℕ). nat_lt item 256) (bytes_in n (drop 1 us))) (lt (slice_index us 0 % 256) 256 (omega arith))
    (and_both (nat_lt (slice_index us 0 / 256) 256) (list_all (λ (item : ℕ). nat_lt item 256) (bytes_in n (drop 1 us))) (lt (slice_index us 0 / 256) 256 (omega (arith, u))) (bytes_all n (drop 1 us) (units_behind 1 us are)))

bytes_many : (n : ℕ) (us : List ℕ) → length (bytes_in n us) ≡ n
bytes_many zero us = refl
bytes_many (suc zero) us = refl
bytes_many (suc (suc n)) us = ap (λ (k : ℕ). suc (suc k)) (bytes_many n (drop 1 us))

double_below : (us : List ℕ) → AreUnits us → double_in us < 4294967296
double_below us are = omega (arith, are 0, are 1)

-- by the four widths
pick : (P : ℕ → Type 0) (w n : ℕ) (b : Bool) → nat_eq w n ≡ b → P n → (nat_eq w n ≡ false → P w) → P w
pick P w n true e h g = subst P (sym (eqb-true w n e)) h
pick P w n false e h g = g e

by_width : (P : ℕ → Type 0) (w : ℕ) → is_width w ≡ true → P 1 → P 2 → P 4 → P 8 → P w
by_width P w h one two four eight =
    pick P w 1 (nat_eq w 1) refl one (λ e1. pick P w 2 (nat_eq w 2) refl two (λ e2. pick P w 4 (nat_eq w 4) refl four (λ e4.
    subst P (sym (eqb-true w 8 (behind (nat_eq w 4) (nat_eq w 8) (behind (nat_eq w 1 || nat_eq w 2) (nat_eq w 4 || nat_eq w 8) h (none_or (nat_eq w 1) (nat_eq w 2) e1 e2)) e4))) eight)))

abbrev ItemsFit : ℕ → List ℕ → ℕ → Type 0
ItemsFit n us w = (is_width (w % 256) ≡ true) × (length (items_in w n us) ≡ n) × (list_all (λ item. fits_width (w % 256) item) (items_in w n us) ≡ true)

items_fit : (w n : ℕ) (us : List ℕ) → AreUnits us → is_width w ≡ true → ItemsFit n us w
items_fit w n us are h = by_width (ItemsFit n us) w h
    (refl, bytes_many n us, bytes_all n us are)
    (refl, entries_many (item_in 2) 1 n us, entries_all (λ item. fits_width 2 item) (item_in 2) 1 (λ vs those. lt (slice_index vs 0) 65536 (those 0)) n us are)
    (refl, entries_many (item_in 4) 2 n us, entries_all (λ item. fits_width 4 item) (item_in 4) 2 (λ vs those. lt (double_in vs) 4294967296 (double_below vs those)) n us are)
    (refl, entries_many (item_in 8) 4 n us, entries_all (λ item. fits_width 8 item) (item_in 8) 4 (λ vs those. refl) n us are)

cond_true : {A : Type 0} (b : Bool) (x y : A) → b ≡ true → cond b x y ≡ x
cond_true true x y e = refl
cond_true false x y e = clash false e refl

cond_false : {A : Type 0} (b : Bool) (x y : A) → b ≡ false → cond b x y ≡ y
cond_false true x y e = clash true refl e
cond_false false x y e = refl

module _ (op on : ℕ) (target : ℤ → ℕ) (payload : List ℕ) (are : AreUnits payload) (small : on < 256) (right : is_right op payload ≡ true) where
  abbrev said : ℕ
  said = slice_index payload 1

  filled : (op == 0x26) ≡ true → Spelled (table_form op on target payload)
  filled e =
      let r : is_width said ≡ true = and_right (slice_index payload 0 == 0x0300) (is_width said) (sym (cond_true (op == 0x26) (slice_index payload 0 == 0x0300 && is_width said) _ e) ∙ right) in
      let fit = items_fit said (double_in (drop 2 payload)) (drop 4 payload) (units_behind 4 payload are) r in
      let size : size_of op payload ≡ double_in (drop 2 payload) = cond_true (op == 0x26) (double_in (drop 2 payload)) said e in
      let few : length (items_in said (double_in (drop 2 payload)) (drop 4 payload)) < 4294967296 = subst (λ (k : ℕ). k < 4294967296) (sym fit.1) (double_below (drop 2 payload) (units_behind 2 payload are)) in
      or (op == 0x26) (λ _. of (subst (λ (k : ℕ). (nat_lt on 256 && (is_width (said % 256) && (nat_lt (length (items_in said k (drop 4 payload))) 4294967296 && list_all (λ item. fits_width (said % 256) item) (items_in said k (drop 4 payload))))) ≡ true) (sym size)
      (and_both (nat_lt on 256) (is_width (said % 256) && (nat_lt (length (items_in said (double_in (drop 2 payload)) (drop 4 payload))) 4294967296 && list_all (λ item. fits_width (said % 256) item) (items_in said (double_in (drop 2 payload)) (drop 4 payload)))) (lt on 256 small)
      (and_both (is_width (said % 256)) (nat_lt (length (items_in said (double_in (drop 2 payload)) (drop 4 payload))) 4294967296 && list_all (λ item. fits_width (said % 256) item) (items_in said (double_in (drop 2 payload)) (drop 4 payload))) fit.0
      (and_both (nat_lt (length (items_in said (double_in (drop 2 payload)) (drop 4 payload))) 4294967296) (list_all (λ item. fits_width (said % 256) item) (items_in said (double_in (drop 2 payload)) (drop 4 payload))) (lt _ 4294967296 few) fit.2)))))
      (λ no. clash (op == 0x26) e no)

  switched : (op == 0x26) ≡ false → Spelled (table_form op on target payload)
  switched e =
      let size : said ≡ size_of op payload = sym (cond_false (op == 0x26) (double_in (drop 2 payload)) said e) in
      let r : cond (op == 0x2b) (slice_index payload 0 == 0x0100) (slice_index payload 0 == 0x0200 && keys_ascend (keys_in said (drop 2 payload))) ≡ true
      = sym (cond_false (op == 0x26) _ (cond (op == 0x2b) (slice_index payload 0 == 0x0100) (slice_index payload 0 == 0x0200 && keys_ascend (keys_in said (drop 2 payload)))) e) ∙ right in
      let few : (k : ℕ) → k ≡ said → k < 65536 = λ k same. subst (λ (m : ℕ). m < 65536) (sym same) (are 1) in
      or (op == 0x26) (λ yes. clash (op == 0x26) yes e) (λ _. or (op == 0x2b)
      (λ _. of (and_both (nat_lt on 256) (nat_lt (length (targets_in target (size_of op payload) (drop 4 payload))) 65536) (lt on 256 small) (lt _ 65536 (few _ (entries_many _ 2 (size_of op payload) (drop 4 payload) ∙ sym size)))))
      (λ no.
      let keys : length (keys_in (size_of op payload) (drop 2 payload)) ≡ size_of op payload = entries_many signed_in 2 (size_of op payload) (drop 2 payload) in
      let targets : length (targets_in target (size_of op payload) (drop (2 + 2 * size_of op payload) payload)) ≡ size_of op payload = entries_many _ 2 (size_of op payload) (drop (2 + 2 * size_of op payload) payload) in
      let ascend : keys_ascend (keys_in (size_of op payload) (drop 2 payload)) ≡ true = subst (λ (k : ℕ). keys_ascend (keys_in k (drop 2 payload)) ≡ true) size
      (and_right (slice_index payload 0 == 0x0200) (keys_ascend (keys_in said (drop 2 payload))) (sym (cond_false (op == 0x2b) (slice_index payload 0 == 0x0100) (slice_index payload 0 == 0x0200 && keys_ascend (keys_in said (drop 2 payload))) no) ∙ r)) in
      let same : nat_eq (length (keys_in (size_of op payload) (drop 2 payload))) (length (targets_in target (size_of op payload) (drop (2 + 2 * size_of op payload) payload))) ≡ true = eq-eqb _ _ (keys ∙ sym targets) in
      of (and_both (nat_lt on 256) (nat_lt (length (targets_in target (size_of op payload) (drop (2 + 2 * size_of op payload) payload))) 65536 && (nat_eq (length (keys_in (size_of op payload) (drop 2 payload))) (length (targets_in target (size_of op payload) (drop (2 + 2 * size_of op payload) payload))) && keys_ascend (keys_in (size_of op payload) (drop 2 payload)))) (lt on 256 small)
      (and_both (nat_lt (length (targets_in target (size_of op payload) (drop (2 + 2 * size_of op payload) payload))) 65536) (nat_eq (length (keys_in (size_of op payload) (drop 2 payload))) (length (targets_in target (size_of op payload) (drop (2 + 2 * size_of op payload) payload))) && keys_ascend (keys_in (size_of op payload) (drop 2 payload))) (lt _ 65536 (few _ (targets ∙ sym size)))
      (and_both (nat_eq (length (keys_in (size_of op payload) (drop 2 payload))) (length (targets_in target (size_of op payload) (drop (2 + 2 * size_of op payload) payload)))) (keys_ascend (keys_in (size_of op payload) (drop 2 payload))) same ascend)))))

  table_spelled : Spelled (table_form op on target payload)
  table_spelled = by (op == 0x26) refl
    where
      by : (b : Bool) → (op == 0x26) ≡ b → Spelled (table_form op on target payload)
      by true e = filled e
      by false e = switched e

-- ---- the payload of an instruction is right

abbrev HasRight : Places → ℕ → Type 0
HasRight places start = has_payload (opcode_at places.units start) ≡ true → is_right (opcode_at places.units start) (payload_of places start (fields_at places.units start)) ≡ true

one_right : (places : Places) (start : ℕ) → Found (λ n. HasRight places start) (entries_at places start)
unfolding entries_at
one_right places start = either {b = has_payload (opcode_at places.units start)}
    (λ is. weaker (cond (is_right (opcode_at places.units start) (payload_of places start (fields_at places.units start))) _ _) (when {b = is_right (opcode_at places.units start) (payload_of places start (fields_at places.units start))} _ (done _)) (λ y p has. p.0))
    (λ no. weaker (Ok 0) (done 0) (λ y p has. clash (has_payload (opcode_at places.units start)) has no))

abbrev AllRight : Places → List ℕ → Type 0
AllRight places starts = (k s : ℕ) → slice_get starts k ≡ Some s → HasRight places s

more_right : (places : Places) (s : ℕ) (ss : List ℕ) → HasRight places s → AllRight places ss → AllRight places (s ∷ ss)
more_right places s ss one all zero t e = subst (HasRight places) (some_same s t e) one
more_right places s ss one all (suc k) t e = all k t e

none_right : (places : Places) → AllRight places []
none_right places k s e = none_some s e

each_right : (places : Places) (left : ℕ) (starts : List ℕ) → Found (λ u. AllRight places starts) (check_payloads places left starts)
each_right places left [] = weaker (check_payloads places left []) (done tt) (λ y p. none_right places)
each_right places left (s ∷ ss) = weaker (check_payloads places left (s ∷ ss))
    (next (one_right places s) (λ n _. either {b = nat_lt left n} (λ _. failed _) (λ _. each_right places (left - n) ss)))
    (λ y p. more_right places s ss p.1 p.2)

of_payload : (units : List ℕ) → AreUnits units → (o : Option ℕ) → AreUnits (units_from units o)
of_payload units are None i = omega arith
of_payload units are (Some unit) i = units_behind unit units are i

payload_units : (places : Places) (start : ℕ) (f : Fields) → AreUnits places.units → AreUnits (payload_of places start f)
unfolding payload_of
payload_units places start f are = of_payload places.units are (payload_at places.payloads (unit_from start (word f.wide)))

-- ---- each instruction

low_opcode : (units : List ℕ) (start : ℕ) → opcode_at units start < 256
low_opcode units start = omega arith

payload_first : (op : ℕ) → has_payload op ≡ true → format_passes has_first op ≡ true
unfolding format_at
payload_first op h =
    pick (λ (o : ℕ). format_passes has_first o ≡ true) op 0x26 (op == 0x26) refl refl (λ e1. pick (λ (o : ℕ). format_passes has_first o ≡ true) op 0x2b (op == 0x2b) refl refl (λ e2.
    subst (λ (o : ℕ). format_passes has_first o ≡ true) (sym (eqb-true op 0x2c (behind (op == 0x2b) (op == 0x2c) (behind (op == 0x26) (op == 0x2b || op == 0x2c) h e1) e2))) refl))

founds_spelled : (places : Places) (start : ℕ) → AreUnits places.units → HasRight places start → Found (λ insn. is_encodable insn ≡ true) (insn_of places start (opcode_at places.units start) (fields_at places.units start))
founds_spelled places start are right =
    let op : ℕ = opcode_at places.units start in
    let f : Fields = fields_at places.units start in
    let units : List ℕ = places.units in
    either {b = is_call (opcode_at places.units start)}
    (λ is. weaker (call_at start op f) (when _ (done (call_form op f)))
    (λ y p. subst (λ (i : Insn). is_encodable i ≡ true) p.1 (call_spelled op f (low_opcode units start) (narrow_at units are start) (bytes_at units are start) (first_at units are start) (third_at units are start)).is))
    (λ no_call. either {b = is_branch (opcode_at places.units start)}
    (λ is. weaker (Ok (branch_at places.starts start op f)) (done (branch_at places.starts start op f))
    (λ y p. subst (λ (i : Insn). is_encodable i ≡ true) p (branch_spelled op f (low_opcode units start) (narrow_at units are start) (bytes_at units are start) (first_at units are start) (third_at units are start) _ is).is))
    (λ no_branch. either {b = has_payload (opcode_at places.units start)}
    (λ is. weaker (Ok (table_form op f.a (target_from places.starts start) (payload_of places start f))) (done _)
    (λ y p. subst (λ (i : Insn). is_encodable i ≡ true) p (table_spelled op f.a (target_from places.starts start) (payload_of places start f) (payload_units places start f are) (first_at units are start (payload_first op is)).a (right is)).is))
    (λ no_table. weaker (Ok (plain op f)) (done (plain op f))
    (λ y p. subst (λ (i : Insn). is_encodable i ≡ true) p (plain_spelled op f (low_opcode units start) (narrow_at units are start) (bytes_at units are start) (first_at units are start) (third_at units are start) no_call no_branch no_table).is))))

one_spelled : (places : Places) (start : ℕ) (insn : Insn) → AreUnits places.units → HasRight places start → insn_at places start ≡ Ok insn → is_encodable insn ≡ true
unfolding insn_at
one_spelled places start insn are right h = (founds_spelled places start are right).found insn h

same_units : (units : List ℕ) → Found (λ places. places.units ≡ units) (sweep_of units)
unfolding sweep_of
same_units units = weaker (sweep_of units) (next (as_read _) (λ pieces _. done (places_of units pieces))) (λ y p. ap (λ (q : Places). q.units) (sym p.2))

pub all_spelled : (units : List ℕ) (places : Places) (sizes : Sizes) (insns : List Insn) → AreUnits units → sweep_of units ≡ Ok places → check_payloads places 67108864 places.starts ≡ Ok tt → insns_of places sizes ≡ Ok insns
    → list_all is_encodable insns ≡ true
all_spelled units places sizes insns are swept payloads read = all_items is_encodable insns (λ k i e.
    let s = start_of places sizes places.starts insns ((are_read places sizes places.starts).found insns read) k i e in
    one_spelled places s.0 i (subst AreUnits (sym ((same_units units).found places swept)) are) ((each_right places 67108864 places.starts).found tt payloads k s.0 s.1) s.2)
