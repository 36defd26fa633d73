-- What is read of a switch and its payload stands there.
use Rattle.std.proofs.Common.{◌≡◌, ◌≤◌, ◌<◌, ℕ, zero, suc, ◌+◌, ◌*◌, Bool, true, false, cond, ltb, eqb, List, [], ◌∷◌, length, drop, Some, None, refl, sym, ap, subst, ◌∙◌, arith}
use Rattle.std.specs.Prelude.{◌&&◌, ◌%◌, ℤ, pos, negsuc, ◌+ℤ◌, slice_index}
use Rattle.std.specs.List.{list_all, list_any}
use Rattle.std.specs.Int.{w32, cast_signed}
use Rattle.std.proofs.lemmas.Bool.{ltb-true, eqb-true}
use Rattle.std.proofs.lemmas.List.{get_or-drop, drop-drop}
use Rattle.class_defs.proofs.WellFormed.{and_left, and_right}
use Rattle.dex_base.specs.Decides.{Each}
use Rattle.insn_set.specs.Spelling.{keys_ascend}
use Rattle.insn_set.specs.declared.form.Insn.{Insn}
use Rattle.insn_set.specs.declared.form.Insn.TheVariants.{PackedSwitch}
use Rattle.code_read.specs.declared.fields.Fields.{Fields}
use Rattle.code_read.specs.Checks.{targets_inside}
use Rattle.code_read.specs.Forms.{word}
use Rattle.code_read.specs.Payloads.{entries, signed_in, keys_in, targets_in, is_right, table_form}
use Rattle.code_read.specs.Positions.{no_less, payload_at, target_from, nowhere}
use Rattle.code_read.specs.Decoded.{units_from, payload_of}
use Rattle.dex_defs.specs.Sweep.{Piece, Places}
use Rattle.dex_defs.specs.Instructions.{GoesTo, IsPayloadOf, AreTargets, IsPacked, IsSparse, signed_at}
use Rattle.file_laws.proofs.Insns.{leads}

-- ---- the payload

-- the payload that is named begins at a unit
pub record Found (places : Places) (from : ℕ) (f : Fields) (payload : List ℕ) : Type 0 where
  pub unit : ℕ
  pub is : pos unit ≡ pos from +ℤ word f.wide
  pub even : unit % 2 ≡ 0
  pub begins : list_any (λ u. eqb u unit) places.payloads ≡ true
  pub units : payload ≡ drop unit places.units

by_even : (b : Bool) (units : List ℕ) (unit k : ℕ) → slice_index (units_from units (cond b (Some unit) None)) 0 ≡ k → 0 < k → (b ≡ true) × (units_from units (cond b (Some unit) None) ≡ drop unit units)
by_even true units unit k h lt = (refl, refl)
by_even false units unit k h lt = absurd (omega (arith, h, lt))

by_unit : (places : Places) (from : ℕ) (f : Fields) (z : ℤ) → z ≡ pos from +ℤ word f.wide → (k : ℕ) → slice_index (units_from places.units (payload_at places.payloads (no_less z))) 0 ≡ k → 0 < k
    → Found places from f (units_from places.units (payload_at places.payloads (no_less z)))
by_unit places from f (pos unit) e k h lt =
    let b = by_even (eqb (unit % 2) 0 && list_any (λ u. eqb u unit) places.payloads) places.units unit k h lt in
    record {
      unit = unit;
      is = e;
      even = eqb-true (unit % 2) 0 (and_left (eqb (unit % 2) 0) (list_any (λ u. eqb u unit) places.payloads) b.0);
      begins = and_right (eqb (unit % 2) 0) (list_any (λ u. eqb u unit) places.payloads) b.0;
      units = b.1;
    }
by_unit places from f (negsuc n) e k h lt = absurd (omega (arith, h, lt))

pub found_payload : (places : Places) (from : ℕ) (f : Fields) (k : ℕ) → slice_index (payload_of places from f) 0 ≡ k → 0 < k → Found places from f (payload_of places from f)
unfolding payload_of
found_payload places from f k h lt = by_unit places from f (pos from +ℤ word f.wide) refl k h lt

on : (n : ℕ) → n + 0 ≡ n
on n = omega arith

pub at_drop : (units : List ℕ) (unit i : ℕ) → slice_index (drop unit units) i ≡ slice_index units (unit + i)
at_drop units unit i = get_or-drop unit units i 0

pub is_payload : (places : Places) (from code : ℕ) (f : Fields) (payload : List ℕ) → (h : Found places from f payload) → slice_index payload 0 ≡ 256 * code → IsPayloadOf places from f code h.unit
is_payload places from code f payload h k = record {
  is = h.is;
  even = h.even;
  begins = h.begins;
  kind = ap (λ (i : ℕ). slice_index places.units i) (sym (on h.unit)) ∙ sym (at_drop places.units h.unit 0) ∙ ap (λ (us : List ℕ). slice_index us 0) (sym h.units) ∙ k;
}

pub signed_there : (units : List ℕ) (j : ℕ) → signed_in (drop j units) ≡ signed_at units j
signed_there units j = ap (λ (a : ℕ). cast_signed w32 (a + 65536 * slice_index (drop j units) 1)) (at_drop units j 0 ∙ ap (λ (i : ℕ). slice_index units i) (on j)) ∙ ap (λ (b : ℕ). cast_signed w32 (slice_index units j + 65536 * b)) (at_drop units j 1)

-- ---- entries

pub many_entries : {X : Type 0} (f : List ℕ → X) (width n : ℕ) (us : List ℕ) → length (entries f width n us) ≡ n
many_entries f width zero us = refl
many_entries f width (suc n) us = ap suc (many_entries f width n (drop width us))

further : (us : List ℕ) (width from : ℕ) → drop width (drop (width * from) us) ≡ drop (width * suc from) us
further us width from = let e : width * from + width ≡ width * suc from = grind arith in drop-drop width (width * from) us ∙ ap (λ (n : ℕ). drop n us) e

-- each entry that passes a test is that of its place
tested_entries : {X : Type 0} (P : ℕ → X → Type 0) (test : X → Bool) (f : List ℕ → X) (width n from : ℕ) (us : List ℕ) → ((i : ℕ) → test (f (drop (width * i) us)) ≡ true → P i (f (drop (width * i) us)))
    → list_all test (entries f width n (drop (width * from) us)) ≡ true → Each P from (entries f width n (drop (width * from) us))
tested_entries P test f width zero from us g h = tt
tested_entries P test f width (suc n) from us g h =
    let x = f (drop (width * from) us) in
    let rest : list_all test (entries f width n (drop width (drop (width * from) us))) ≡ true = and_right (test x) (list_all test (entries f width n (drop width (drop (width * from) us)))) h in (
      g from (and_left (test x) (list_all test (entries f width n (drop width (drop (width * from) us)))) h),
      subst (λ xs. Each P (suc from) (entries f width n xs)) (sym (further us width from)) (tested_entries P test f width n (suc from) us g (subst (λ xs. list_all test (entries f width n xs) ≡ true) (further us width from) rest)),
    )

all_pass : {X : Type 0} (xs : List X) → list_all (λ x. true) xs ≡ true
all_pass [] = refl
all_pass (x ∷ xs) = all_pass xs

nothing : (width : ℕ) → width * 0 ≡ 0
nothing width = grind arith

pub each_entry : {X : Type 0} (P : ℕ → X → Type 0) (f : List ℕ → X) (width n : ℕ) (us : List ℕ) → ((i : ℕ) → P i (f (drop (width * i) us))) → Each P 0 (entries f width n us)
each_entry P f width n us g = subst (λ k. Each P 0 (entries f width n (drop k us))) (nothing width) (tested_entries P (λ x. true) f width n 0 us (λ i h. g i) (all_pass (entries f width n (drop (width * 0) us))))

pub each_tested : {X : Type 0} (P : ℕ → X → Type 0) (test : X → Bool) (f : List ℕ → X) (width n : ℕ) (us : List ℕ) → ((i : ℕ) → test (f (drop (width * i) us)) ≡ true → P i (f (drop (width * i) us)))
    → list_all test (entries f width n us) ≡ true → Each P 0 (entries f width n us)
each_tested P test f width n us g h = subst (λ k. Each P 0 (entries f width n (drop k us))) (nothing width)
    (tested_entries P test f width n 0 us g (subst (λ k. list_all test (entries f width n (drop k us)) ≡ true) (sym (nothing width)) h))

-- ---- switches

-- the entry of a table that begins at a unit
there : (units : List ℕ) (base i : ℕ) → signed_in (drop (2 * i) (drop base units)) ≡ signed_at units (base + 2 * i)
there units base i = ap (λ (us : List ℕ). signed_in us) (drop-drop (2 * i) base units) ∙ signed_there units (base + 2 * i)

goes : (places : Places) (from : ℕ) (n : ℕ) (z w : ℤ) → z ≡ w → n ≤ nowhere → ltb (target_from places.starts from z) n ≡ true → GoesTo places from w (target_from places.starts from z)
goes places from n z w e few h = let l = leads places.starts from z n (ltb-true (target_from places.starts from z) n h) few in record { unit = l.unit; is = l.is ∙ ap (λ (v : ℤ). pos from +ℤ v) e; begins = l.begins }

are_targets : (places : Places) (from base count n : ℕ) (us : List ℕ) → us ≡ drop base places.units → n ≤ nowhere → list_all (λ t. ltb t n) (targets_in (target_from places.starts from) count us) ≡ true
    → AreTargets places from base (targets_in (target_from places.starts from) count us)
are_targets places from base count n us e few h = each_tested (λ i target. GoesTo places from (signed_at places.units (base + 2 * i)) target) (λ t. ltb t n) (λ us. target_from places.starts from (signed_in us)) 2 count us
    (λ i inside. goes places from n (signed_in (drop (2 * i) us)) (signed_at places.units (base + 2 * i)) (ap (λ (xs : List ℕ). signed_in (drop (2 * i) xs)) e ∙ there places.units base i) few inside)
    h

behind : (places : Places) (payload : List ℕ) (unit k : ℕ) → payload ≡ drop unit places.units → drop k payload ≡ drop (unit + k) places.units
behind places payload unit k e = ap (λ (us : List ℕ). drop k us) e ∙ drop-drop k unit places.units

size_there : (places : Places) (payload : List ℕ) (unit i : ℕ) → payload ≡ drop unit places.units → slice_index places.units (unit + i) ≡ slice_index payload i
size_there places payload unit i e = sym (at_drop places.units unit i) ∙ ap (λ (us : List ℕ). slice_index us i) (sym e)

pub is_packed : (places : Places) (p : Piece) (f : Fields) (insn : Insn) (n : ℕ) → n ≤ nowhere → is_right 0x2b (payload_of places p.start f) ≡ true
    → insn ≡ table_form 0x2b f.a (target_from places.starts p.start) (payload_of places p.start f) → targets_inside n insn ≡ true → IsPacked places p f insn
is_packed places p f insn n few right is inside =
    let payload : List ℕ = payload_of places p.start f in
    let kind : slice_index payload 0 ≡ 256 = eqb-true (slice_index payload 0) 256 right in
    let h = found_payload places p.start f 256 kind (omega arith) in
    let size : ℕ = slice_index payload 1 in
    let targets : List ℕ = targets_in (target_from places.starts p.start) size (drop 4 payload) in
    record {
      unit = h.unit;
      payload = is_payload places p.start 1 f payload h kind;
      targets = targets;
      size = size_there places payload h.unit 1 h.units ∙ sym (many_entries (λ us. target_from places.starts p.start (signed_in us)) 2 size (drop 4 payload));
      are = are_targets places p.start (h.unit + 4) size n (drop 4 payload) (behind places payload h.unit 4 h.units) few (subst (λ i. targets_inside n i ≡ true) is inside);
      is = is ∙ ap (λ (z : ℤ). PackedSwitch f.a z targets) (ap (λ (us : List ℕ). signed_in us) (behind places payload h.unit 2 h.units) ∙ signed_there places.units (h.unit + 2));
    }

pub is_sparse : (places : Places) (p : Piece) (f : Fields) (insn : Insn) (n : ℕ) → n ≤ nowhere → is_right 0x2c (payload_of places p.start f) ≡ true
    → insn ≡ table_form 0x2c f.a (target_from places.starts p.start) (payload_of places p.start f) → targets_inside n insn ≡ true → IsSparse places p f insn
is_sparse places p f insn n few right is inside =
    let payload : List ℕ = payload_of places p.start f in
    let size : ℕ = slice_index payload 1 in
    let keys : List ℤ = keys_in size (drop 2 payload) in
    let kind : slice_index payload 0 ≡ 512 = eqb-true (slice_index payload 0) 512 (and_left (eqb (slice_index payload 0) 512) (keys_ascend keys) right) in
    let h = found_payload places p.start f 512 kind (omega arith) in
    let targets : List ℕ = targets_in (target_from places.starts p.start) size (drop (2 + 2 * size) payload) in
    let many : length targets ≡ size = many_entries (λ us. target_from places.starts p.start (signed_in us)) 2 size (drop (2 + 2 * size) payload) in
    let base : h.unit + (2 + 2 * size) ≡ h.unit + 2 + 2 * length targets = omega (arith, many) in
    record {
      unit = h.unit;
      payload = is_payload places p.start 2 f payload h kind;
      keys = keys;
      targets = targets;
      many = many_entries signed_in 2 size (drop 2 payload) ∙ sym many;
      size = size_there places payload h.unit 1 h.units ∙ sym many;
      are_keys = each_entry (λ i key. key ≡ signed_at places.units (h.unit + 2 + 2 * i)) signed_in 2 size (drop 2 payload) (λ i. ap (λ (us : List ℕ). signed_in (drop (2 * i) us)) (behind places payload h.unit 2 h.units) ∙ there places.units (h.unit + 2) i);
      ascend = and_right (eqb (slice_index payload 0) 512) (keys_ascend keys) right;
      are = subst (λ b. AreTargets places p.start b targets) base (are_targets places p.start (h.unit + (2 + 2 * size)) size n (drop (2 + 2 * size) payload) (behind places payload h.unit (2 + 2 * size) h.units) few (subst (λ i. targets_inside n i ≡ true) is inside));
      is = is;
    }
