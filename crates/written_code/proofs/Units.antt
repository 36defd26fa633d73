-- The writer's units of a body are those of the definition.
use Rattle.std.proofs.Common.{◌≡◌, ◌<◌, ◌≤◌, ◌+◌, ◌*◌, ◌-◌, ◌%◌, ◌/◌, ◌^◌, ◌⊎◌, inl, inr, ℕ, zero, suc, min, ℤ, pos, ◌-ℤ◌, Bool, true, false, List, [], ◌∷◌, ◌++◌, length, take, refl, sym, ap, subst, ◌∙◌, arith, append_assoc, append-nil, length-append, ltb-true}
use Rattle.std.specs.Prelude.{slice_index_or, replicate, nat_lt, nat_eq, ◌&&◌, ◌==◌, if◌then◌else◌}
use Rattle.std.specs.Int.{w16, w32, w64, cast_unsigned, to_le_bytes}
use Rattle.std.specs.List.{AllByRecursion, flat_map, concat, list_all}
use Rattle.std.proofs.lemmas.Bool.{and_parts, le-leb, lt-leb, eq-eqb, ne_eqb}
use Rattle.std.proofs.lemmas.List.Concat.{flat_map-append}
use Rattle.insn_set.specs.Flow.{targets_of}
use Rattle.insn_set.specs.Spelling.{is_encodable, is_width, fits_width, keys_ascend}
use Rattle.insn_set.specs.declared.form.Insn.{Insn}
use Rattle.insn_set.specs.declared.form.Insn.TheVariants.{FillArray, Goto, PackedSwitch, SparseSwitch, If, IfZero}
use Rattle.program_model.specs.declared.pass.Renumber.{Renumber}
use Rattle.program_model.specs.Cells.{capped}
use Rattle.relax.specs.Sizes.{start}
use Rattle.relax.specs.Payloads.{units_behind, even_place, capped_place, payload_places, payload_end}
use Rattle.code_write.specs.Units.{unit_bytes, pad_to_even, low}
use Rattle.code_write.specs.Code as writer
use Rattle.code_write.specs.Code.{Spots, place_at, far_of, insn_units, goes_to, payload_count}
use Rattle.code_write.specs.Payloads as written
use Rattle.code_write.specs.Payloads.{number_bytes, target_bytes, odd_byte, payload_behind, with_payloads}
use Rattle.dex_defs.specs.CodeTexts.{signed_units, target_units, units_from, payload_text, evenly, payloads_text}
use Rattle.written_code.proofs.Signed.{Lies, Ahead, Behind, lies}
use Rattle.written_code.proofs.Forms.{InWidth}
use Rattle.written_code.proofs.Tables.{units_long, keys_long, IsOneOf, one_of, item_bytes, Fit, bytes_long, bytes_low, odd_of, units_many}
use Rattle.written_code.proofs.Standing.{to_of, fill_fits, fit_sparse}
use Rattle.written_code.proofs.Bodies.{next_unit, text_at, insn_texts, AllFine}

-- ---- units as bytes

pub bytes_append : (us vs : List ℕ) → unit_bytes (us ++ vs) ≡ unit_bytes us ++ unit_bytes vs
bytes_append us vs = flat_map-append (to_le_bytes w16) us vs

pub bytes_twice : (us : List ℕ) → length (unit_bytes us) ≡ 2 * length us
bytes_twice [] = refl
bytes_twice (u ∷ us) = length-append (to_le_bytes w16 u) (unit_bytes us) ∙ omega (arith, bytes_twice us)

two_cons : (a a' b b' : ℕ) (xs ys : List ℕ) → a ≡ a' → b ≡ b' → xs ≡ ys → (a ∷ b ∷ xs) ≡ (a' ∷ b' ∷ ys)
two_cons a a' b b' xs ys e f g = rw (e, f, g) refl

bytes_again : (bs : List ℕ) → AllByRecursion (λ b. b < 256) bs → unit_bytes (units_from bs) ≡ bs ++ odd_of bs
bytes_again [] a = refl
bytes_again (b ∷ []) a = two_cons (b % 256) b (b / 256 % 256) 0 [] [] (omega (arith, a.0)) (omega (arith, a.0)) refl
bytes_again (b ∷ c ∷ bs) a = two_cons ((b + 256 * c) % 256) b ((b + 256 * c) / 256 % 256) c (unit_bytes (units_from bs)) (bs ++ odd_of bs) (omega (arith, a.0, a.1.0)) (omega (arith, a.0, a.1.0)) (bytes_again bs a.1.1)

-- ---- payloads

far_is : (from to : ℕ) → far_of from to ≡ cast_unsigned w32 (pos to -ℤ pos from)
far_is from to = by (lies from to)
  where
    by : Lies from to → far_of from to ≡ cast_unsigned w32 (pos to -ℤ pos from)
    by (Ahead n e f d) = f ∙ ap (cast_unsigned w32) (sym d)
    by (Behind n e f d) = f ∙ ap (cast_unsigned w32) (sym d)

-- the positions begin where the writer says
abbrev pub Placed : Spots → List ℕ → Type 0
Placed s sizes = (k : ℕ) → k < length sizes → place_at s.starts s.size k ≡ start sizes k

targets_bytes : (s : Spots) (sizes : List ℕ) (from : ℕ) (ts : List ℕ) → Placed s sizes → AllByRecursion (λ t. t < length sizes) ts → flat_map (target_bytes s from) ts ≡ unit_bytes (flat_map (target_units sizes from) ts)
targets_bytes s sizes from [] p a = refl
targets_bytes s sizes from (t ∷ ts) p a =
    let one : target_bytes s from t ≡ unit_bytes (target_units sizes from t) = ap number_bytes (ap (λ (k : ℕ). far_of from k) (p t a.0) ∙ far_is from (start sizes t)) in
    ap (λ (l : List ℕ). l ++ flat_map (target_bytes s from) ts) one ∙ (ap (λ (l : List ℕ). unit_bytes (target_units sizes from t) ++ l) (targets_bytes s sizes from ts p a.1) ∙ sym (bytes_append (target_units sizes from t) (flat_map (target_units sizes from) ts)))

keys_bytes : (zs : List ℤ) → flat_map (λ key. number_bytes (cast_unsigned w32 key)) zs ≡ unit_bytes (flat_map signed_units zs)
keys_bytes [] = refl
keys_bytes (z ∷ zs) = ap (λ (l : List ℕ). number_bytes (cast_unsigned w32 z) ++ l) (keys_bytes zs) ∙ sym (bytes_append (signed_units z) (flat_map signed_units zs))

-- an odd last byte
odd_is : (bs : List ℕ) → odd_of bs ≡ (if length bs % 2 == 1 then 0 ∷ [] else [])
odd_is [] = refl
odd_is (a ∷ []) = refl
odd_is (a ∷ b ∷ bs) =
    let same : suc (suc (length bs)) % 2 ≡ length bs % 2 = omega arith in
    odd_is bs ∙ ap (λ (n : ℕ). if n == 1 then 0 ∷ [] else []) (sym same)

odd_same : (width n : ℕ) → IsOneOf width → odd_byte width n ≡ (if (width * n) % 2 == 1 then 0 ∷ [] else [])
odd_same width n h = elim h [
  | inl a ↦ elim a [
    | inl e ↦ subst (λ w. odd_byte w n ≡ (if (w * n) % 2 == 1 then 0 ∷ [] else [])) (sym e) (ap (λ (k : ℕ). if k % 2 == 1 then 0 ∷ [] else []) (let one : n ≡ 1 * n = omega arith in one))
    | inr e ↦ subst (λ w. odd_byte w n ≡ (if (w * n) % 2 == 1 then 0 ∷ [] else [])) (sym e) (ap (λ (k : ℕ). if k == 1 then 0 ∷ [] else []) (let none : 0 ≡ (2 * n) % 2 = omega arith in none))
  ]
  | inr a ↦ elim a [
    | inl e ↦ subst (λ w. odd_byte w n ≡ (if (w * n) % 2 == 1 then 0 ∷ [] else [])) (sym e) (ap (λ (k : ℕ). if k == 1 then 0 ∷ [] else []) (let none : 0 ≡ (4 * n) % 2 = omega arith in none))
    | inr e ↦ subst (λ w. odd_byte w n ≡ (if (w * n) % 2 == 1 then 0 ∷ [] else [])) (sym e) (ap (λ (k : ℕ). if k == 1 then 0 ∷ [] else []) (let none : 0 ≡ (8 * n) % 2 = omega arith in none))
  ]
]

most_eight : (width : ℕ) → IsOneOf width → min width 8 ≡ width
most_eight width h = elim h [
  | inl a ↦ elim a [ inl e ↦ omega (arith, e) | inr e ↦ omega (arith, e) ]
  | inr a ↦ elim a [ inl e ↦ omega (arith, e) | inr e ↦ omega (arith, e) ]
]

pub record FillParts (width : ℕ) (items : List ℕ) : Type 0 where
  pub width_is : is_width width ≡ true
  pub few : length items < 4294967296

pub fill_parts : (on width : ℕ) (items : List ℕ) → is_encodable (FillArray on width items) ≡ true → FillParts width items
fill_parts on width items e =
    let a = and_parts (nat_lt on 256) (is_width width && (nat_lt (length items) 4294967296 && list_all (λ item. fits_width width item) items)) e in
    let b = and_parts (is_width width) (nat_lt (length items) 4294967296 && list_all (λ item. fits_width width item) items) a.1 in
    let c = and_parts (nat_lt (length items) 4294967296) (list_all (λ item. fits_width width item) items) b.1 in
    record { width_is = b.0; few = ltb-true (length items) 4294967296 c.0 }

pub packed_few : (on : ℕ) (first : ℤ) (targets : List ℕ) → is_encodable (PackedSwitch on first targets) ≡ true → length targets < 65536
packed_few on first targets e = ltb-true (length targets) 65536 (and_parts (nat_lt on 256) (nat_lt (length targets) 65536) e).1

pub sparse_few : (on : ℕ) (keys : List ℤ) (targets : List ℕ) → is_encodable (SparseSwitch on keys targets) ≡ true → length targets < 65536
sparse_few on keys targets e =
    let a = and_parts (nat_lt on 256) (nat_lt (length targets) 65536 && (nat_eq (length keys) (length targets) && keys_ascend keys)) e in
    ltb-true (length targets) 65536 (and_parts (nat_lt (length targets) 65536) (nat_eq (length keys) (length targets) && keys_ascend keys) a.1).0

payload_bytes : (s : Spots) (sizes : List ℕ) (from : ℕ) (x : Insn) → Placed s sizes → is_encodable x ≡ true → InWidth x → AllByRecursion (λ t. t < length sizes) (targets_of x) → written.payload_text s from x ≡ unit_bytes (payload_text sizes from x)
payload_bytes s sizes from (PackedSwitch on first targets) p enc w a =
    let count : length targets % 65536 ≡ length targets = omega (arith, packed_few on first targets enc) in
    let ts : List ℕ = flat_map (target_units sizes from) targets in
    ap (λ (n : ℕ). unit_bytes (0x0100 ∷ n ∷ []) ++ (number_bytes (cast_unsigned w32 first) ++ flat_map (target_bytes s from) targets)) count
    ∙ (ap (λ (l : List ℕ). unit_bytes (0x0100 ∷ length targets ∷ []) ++ (number_bytes (cast_unsigned w32 first) ++ l)) (targets_bytes s sizes from targets p a)
    ∙ (ap (λ (l : List ℕ). unit_bytes (0x0100 ∷ length targets ∷ []) ++ l) (sym (bytes_append (signed_units first) ts)) ∙ sym (bytes_append (0x0100 ∷ length targets ∷ []) (signed_units first ++ ts))))
payload_bytes s sizes from (SparseSwitch on keys targets) p enc w a =
    let count : length targets % 65536 ≡ length targets = omega (arith, sparse_few on keys targets enc) in
    let ks : List ℕ = flat_map signed_units keys in
    let ts : List ℕ = flat_map (target_units sizes from) targets in
    ap (λ (n : ℕ). unit_bytes (0x0200 ∷ n ∷ []) ++ (flat_map (λ key. number_bytes (cast_unsigned w32 key)) keys ++ flat_map (target_bytes s from) targets)) count
    ∙ (ap (λ (l : List ℕ). unit_bytes (0x0200 ∷ length targets ∷ []) ++ (l ++ flat_map (target_bytes s from) targets)) (keys_bytes keys)
    ∙ (ap (λ (l : List ℕ). unit_bytes (0x0200 ∷ length targets ∷ []) ++ (unit_bytes ks ++ l)) (targets_bytes s sizes from targets p a)
    ∙ (ap (λ (l : List ℕ). unit_bytes (0x0200 ∷ length targets ∷ []) ++ l) (sym (bytes_append ks ts)) ∙ sym (bytes_append (0x0200 ∷ length targets ∷ []) (ks ++ ts)))))
payload_bytes s sizes from (FillArray on width items) p enc w a =
    let parts : FillParts width items = fill_parts on width items enc in
    let fit : Fit width items = fill_fits on width items enc w in
    let high_is : length items / 65536 % 65536 ≡ length items / 65536 = omega (arith, parts.few) in
    let bytes : List ℕ = flat_map (item_bytes width) items in
    let head : List ℕ = 0x0300 ∷ width ∷ (length items % 65536) ∷ (length items / 65536) ∷ [] in
    let odd : odd_byte width (length items) ≡ odd_of bytes = odd_same width (length items) (one_of width parts.width_is) ∙ (ap (λ (n : ℕ). if n % 2 == 1 then 0 ∷ [] else []) (sym (bytes_long width items fit)) ∙ sym (odd_is bytes)) in
    ap (λ (n : ℕ). unit_bytes (0x0300 ∷ width ∷ (length items % 65536) ∷ n ∷ []) ++ (flat_map (written.item_bytes width) items ++ odd_byte width (length items))) high_is
    ∙ (ap (λ (n : ℕ). unit_bytes head ++ (flat_map (λ item. take n (to_le_bytes w64 item)) items ++ odd_byte width (length items))) (most_eight width (one_of width parts.width_is))
    ∙ (ap (λ (l : List ℕ). unit_bytes head ++ (bytes ++ l)) odd
    ∙ (ap (λ (l : List ℕ). unit_bytes head ++ l) (sym (bytes_again bytes (bytes_low width items fit))) ∙ sym (bytes_append head (units_from bytes)))))
payload_bytes s sizes from x p enc w a = refl

-- ---- how many units a payload has

capped_small : (n : ℕ) → n < 2 ^ 32 → capped n ≡ n
capped_small n lt = omega (arith, lt)

-- none, or as many as its text has
data Many (x : Insn) (text : List ℕ) : Type 0 where
  NoUnits : text ≡ [] → units_behind x ≡ 0 → Many x text
  SomeUnits : (u : ℕ) (us : List ℕ) → text ≡ u ∷ us → units_behind x ≡ length text → Many x text

fill_units : (width n : ℕ) → IsOneOf width → (width * n + 1) / 2 < 2 ^ 31 → capped (capped (n * width) + 1) / 2 + 4 ≡ 4 + (width * n + 1) / 2
fill_units width n h lt = elim h [
  | inl a ↦ elim a [
    | inl e ↦ omega (arith, sides 1 e, sides_back 1 e, lt)
    | inr e ↦ omega (arith, sides 2 e, sides_back 2 e, lt)
  ]
  | inr a ↦ elim a [
    | inl e ↦ omega (arith, sides 4 e, sides_back 4 e, lt)
    | inr e ↦ omega (arith, sides 8 e, sides_back 8 e, lt)
  ]
]
  where
    sides : (w : ℕ) → width ≡ w → width * n ≡ w * n
    sides w e = ap (λ (k : ℕ). k * n) e

    sides_back : (w : ℕ) → width ≡ w → n * width ≡ n * w
    sides_back w e = ap (λ (k : ℕ). n * k) e

two_each : (sizes : List ℕ) (from n : ℕ) → length (target_units sizes from n) ≡ 2
two_each sizes from n = refl

many_of : (sizes : List ℕ) (from : ℕ) (x : Insn) → is_encodable x ≡ true → InWidth x → length (payload_text sizes from x) < 2 ^ 31 → Many x (payload_text sizes from x)
many_of sizes from (PackedSwitch on first targets) enc w few =
    let long : length (flat_map (target_units sizes from) targets) ≡ 2 * length targets = units_long (target_units sizes from) (two_each sizes from) targets in
    let n = packed_few on first targets enc in
    let one : capped (length targets * 2) ≡ 2 * length targets = omega (arith, n) in
    SomeUnits _ _ refl (omega (arith, one, long, n))
many_of sizes from (SparseSwitch on keys targets) enc w few =
    let ks : List ℕ = flat_map signed_units keys in
    let ts : List ℕ = flat_map (target_units sizes from) targets in
    let n = sparse_few on keys targets enc in
    let same = (fit_sparse on keys targets enc).same in
    let one : capped (length targets * 4) ≡ 4 * length targets = omega (arith, n) in
    SomeUnits _ _ refl (omega (arith, one, n, length-append ks ts, keys_long keys, units_long (target_units sizes from) (two_each sizes from) targets, same))
many_of sizes from (FillArray on width items) enc w few =
    let parts : FillParts width items = fill_parts on width items enc in
    let fit : Fit width items = fill_fits on width items enc w in
    let bytes : List ℕ = flat_map (item_bytes width) items in
    let many : length (units_from bytes) ≡ (width * length items + 1) / 2 = units_many bytes ∙ ap (λ (n : ℕ). (n + 1) / 2) (bytes_long width items fit) in
    SomeUnits _ _ refl (fill_units width (length items) (one_of width parts.width_is) (omega (arith, many, few)) ∙ omega (arith, many))
many_of sizes from x enc w few = NoUnits refl refl

-- ---- where payloads stand

-- the payloads that are left stand where the writer says
pub record Left (s : Spots) (payload unit : ℕ) (xs : List Insn) : Type 0 where
  pub front : List ℕ
  pub is : s.payloads ≡ front ++ payload_places unit xs
  pub long : length front ≡ payload

even_small : (unit : ℕ) → unit < 2 ^ 31 → capped_place (even_place unit) ≡ unit + unit % 2
even_small unit lt =
    let one : even_place unit ≡ unit + unit % 2 = omega (arith, lt) in
    ap capped_place one ∙ omega (arith, lt)

record Step (s : Spots) (sizes : List ℕ) (at payload unit : ℕ) (x : Insn) (xs : List Insn) : Type 0 where
  to : goes_to s payload (start sizes at) x ≡ to_of sizes unit (start sizes at) x
  next : Left s (payload + payload_count x) (next_unit sizes unit at x) xs
  end : payload_end unit (x ∷ xs) ≡ payload_end (next_unit sizes unit at x) xs

goes_same : (s : Spots) (sizes : List ℕ) (at payload unit : ℕ) (x : Insn) → Placed s sizes → AllByRecursion (λ t. t < length sizes) (targets_of x) → (0 < units_behind x → place_at s.payloads s.size payload ≡ unit + unit % 2) → (payload_text sizes (start sizes at) x ≡ [] → ⊥) ⊎ (units_behind x ≡ 0) → goes_to s payload (start sizes at) x ≡ to_of sizes unit (start sizes at) x
goes_same s sizes at payload unit (Goto target) p a there h = p target a.0
goes_same s sizes at payload unit (If test y z target) p a there h = p target a.0
goes_same s sizes at payload unit (IfZero test y target) p a there h = p target a.0
goes_same s sizes at payload unit (FillArray on width items) p a there h = there (omega arith)
goes_same s sizes at payload unit (PackedSwitch on first targets) p a there h = there (some_packed (length targets))
  where
    some_packed : (n : ℕ) → 0 < capped (capped (n * 2) + 4)
    some_packed n = omega arith
goes_same s sizes at payload unit (SparseSwitch on keys targets) p a there h = there (some_sparse (length targets))
  where
    some_sparse : (n : ℕ) → 0 < capped (capped (n * 4) + 2)
    some_sparse n = omega arith
goes_same s sizes at payload unit x p a there h = refl

evenly_many : (unit u : ℕ) (us : List ℕ) → length (evenly unit (u ∷ us)) ≡ unit % 2 + length (u ∷ us)
evenly_many unit u us = length-append (replicate (unit % 2) 0) (u ∷ us) ∙ ap (λ (n : ℕ). n + length (u ∷ us)) (zeros (unit % 2))
  where
    zeros : (m : ℕ) → length {A = ℕ} (replicate m 0) ≡ m
    zeros zero = refl
    zeros (suc m) = ap suc (zeros m)

step_on : (s : Spots) (sizes : List ℕ) (at payload unit : ℕ) (x : Insn) (xs : List Insn) → Placed s sizes → AllByRecursion (λ t. t < length sizes) (targets_of x) → Left s payload unit (x ∷ xs) → next_unit sizes unit at x < 2 ^ 31 → Many x (payload_text sizes (start sizes at) x) → Step s sizes at payload unit x xs
step_on s sizes at payload unit x xs p a left low (NoUnits none nil) =
    let same : next_unit sizes unit at x ≡ unit = ap (λ (t : List ℕ). unit + length (evenly unit t)) none ∙ (let e : unit + 0 ≡ unit = omega arith in e) in
    let on : payload_places unit (x ∷ xs) ≡ payload_places unit xs = ap (λ (b : Bool). if b then payload_places unit xs else capped_place (even_place unit) ∷ payload_places (capped (even_place unit + units_behind x)) xs) (eq-eqb (units_behind x) 0 nil) in
    let count : payload_count x ≡ 0 = ap (λ (b : Bool). if b then 0 else 1) (eq-eqb (units_behind x) 0 nil) in
    record {
      to = goes_same s sizes at payload unit x p a (λ lt. absurd (omega (arith, lt, nil))) (inr nil);
      next = subst (λ n. Left s (payload + payload_count x) n xs) (sym same) (record { front = left.front; is = left.is ∙ ap (λ (l : List ℕ). left.front ++ l) on; long = left.long ∙ omega (arith, count) });
      end = ap (λ (b : Bool). if b then payload_end unit xs else payload_end (capped (even_place unit + units_behind x)) xs) (eq-eqb (units_behind x) 0 nil) ∙ ap (λ (n : ℕ). payload_end n xs) (sym same);
    }
step_on s sizes at payload unit x xs p a left low (SomeUnits u us is many) =
    let text : List ℕ = payload_text sizes (start sizes at) x in
    let long : length text ≡ suc (length us) = ap (λ (l : List ℕ). length l) is in
    let whole : length (evenly unit text) ≡ unit % 2 + length text = ap (λ (l : List ℕ). length (evenly unit l)) is ∙ (evenly_many unit u us ∙ ap (λ (l : List ℕ). unit % 2 + length l) (sym is)) in
    let other : nat_eq (units_behind x) 0 ≡ false = ne_eqb (units_behind x) 0 (λ z. omega (arith, z, many, long)) in
    let small : unit < 2 ^ 31 = omega (arith, low, whole) in
    let even : even_place unit ≡ unit + unit % 2 = omega (arith, small) in
    let next : capped (even_place unit + units_behind x) ≡ next_unit sizes unit at x = omega (arith, even, many, whole, low) in
    let on : payload_places unit (x ∷ xs) ≡ capped_place (even_place unit) ∷ payload_places (capped (even_place unit + units_behind x)) xs = ap (λ (b : Bool). if b then payload_places unit xs else capped_place (even_place unit) ∷ payload_places (capped (even_place unit + units_behind x)) xs) other in
    let places : s.payloads ≡ left.front ++ (capped_place (even_place unit) ∷ payload_places (next_unit sizes unit at x) xs) = left.is ∙ (ap (λ (l : List ℕ). left.front ++ l) on ∙ ap (λ (n : ℕ). left.front ++ (capped_place (even_place unit) ∷ payload_places n xs)) next) in
    let count : payload_count x ≡ 1 = ap (λ (b : Bool). if b then 0 else 1) other in
    let here : place_at s.payloads s.size payload ≡ unit + unit % 2 = ap (λ (l : List ℕ). slice_index_or l payload s.size) places ∙ (index_front left.front (capped_place (even_place unit)) (payload_places (next_unit sizes unit at x) xs) payload s.size left.long ∙ even_small unit small) in
    record {
      to = goes_same s sizes at payload unit x p a (λ lt. here) (inl (λ z. absurd (empty_no u us (sym is ∙ z))));
      next = record { front = left.front ++ capped_place (even_place unit) ∷ []; is = places ∙ sym (append_assoc left.front (capped_place (even_place unit) ∷ []) (payload_places (next_unit sizes unit at x) xs)); long = length-append left.front (capped_place (even_place unit) ∷ []) ∙ omega (arith, left.long, count) };
      end = ap (λ (b : Bool). if b then payload_end unit xs else payload_end (capped (even_place unit + units_behind x)) xs) other ∙ ap (λ (n : ℕ). payload_end n xs) next;
    }
  where
    empty_no : (u : ℕ) (us : List ℕ) → (u ∷ us) ≡ [] → ⊥
    empty_no u us e = cc

    index_front : (front : List ℕ) (v : ℕ) (l : List ℕ) (k d : ℕ) → length front ≡ k → slice_index_or (front ++ (v ∷ l)) k d ≡ v
    index_front [] v l zero d e = refl
    index_front [] v l (suc k) d e = absurd (omega (arith, e))
    index_front (f ∷ front) v l zero d e = absurd (omega (arith, e))
    index_front (f ∷ front) v l (suc k) d e = index_front front v l k d (omega (arith, e))

-- ---- the instructions, and the payloads behind them

pub code_bytes : (r : Renumber) (s : Spots) (sizes : List ℕ) (at payload unit : ℕ) (xs : List Insn) → Placed s sizes → at + length xs ≡ length sizes → AllFine r sizes at xs → Left s payload unit xs → unit + length (payloads_text sizes unit at xs) < 2 ^ 31
    → writer.code_text r s at payload xs ≡ unit_bytes (concat (insn_texts r sizes at unit xs))
code_bytes r s sizes at payload unit [] p many f left room = refl
code_bytes r s sizes at payload unit (x ∷ xs) p many f left room =
    let text : List ℕ = evenly unit (payload_text sizes (start sizes at) x) in
    let next : ℕ = next_unit sizes unit at x in
    let both : length (payloads_text sizes unit at (x ∷ xs)) ≡ length text + length (payloads_text sizes next (suc at) xs) = length-append text (payloads_text sizes next (suc at) xs) in
    let low : next < 2 ^ 31 = omega (arith, room, both) in
    let few : length (payload_text sizes (start sizes at) x) < 2 ^ 31 = omega (arith, low, evenly_least unit (payload_text sizes (start sizes at) x)) in
    let step : Step s sizes at payload unit x xs = step_on s sizes at payload unit x xs p f.0.targets left low (many_of sizes (start sizes at) x f.0.enc f.0.width few) in
    let rest = code_bytes r s sizes (suc at) (payload + payload_count x) next xs p (omega (arith, many)) f.1 step.next (omega (arith, room, both)) in
    let from : place_at s.starts s.size at ≡ start sizes at = p at (omega (arith, many)) in
    ap (λ (k : ℕ). unit_bytes (insn_units r k (goes_to s payload k x) x) ++ writer.code_text r s (suc at) (payload + payload_count x) xs) from
    ∙ (ap (λ (k : ℕ). unit_bytes (insn_units r (start sizes at) k x) ++ writer.code_text r s (suc at) (payload + payload_count x) xs) step.to
    ∙ (ap (λ (l : List ℕ). unit_bytes (text_at r sizes at unit x) ++ l) rest ∙ sym (bytes_append (text_at r sizes at unit x) (concat (insn_texts r sizes (suc at) next xs)))))
  where
    evenly_least : (unit : ℕ) (text : List ℕ) → length text ≤ length (evenly unit text)
    evenly_least unit [] = omega arith
    evenly_least unit (u ∷ us) = omega (arith, evenly_many unit u us)

-- the writer's end of all
pub end_is : (r : Renumber) (s : Spots) (sizes : List ℕ) (at payload unit : ℕ) (xs : List Insn) → Placed s sizes → AllFine r sizes at xs → Left s payload unit xs → unit + length (payloads_text sizes unit at xs) < 2 ^ 31 → payload_end unit xs ≡ unit + length (payloads_text sizes unit at xs)
end_is r s sizes at payload unit [] p f left room = let e : unit ≡ unit + 0 = omega arith in e
end_is r s sizes at payload unit (x ∷ xs) p f left room =
    let text : List ℕ = evenly unit (payload_text sizes (start sizes at) x) in
    let next : ℕ = next_unit sizes unit at x in
    let both : length (payloads_text sizes unit at (x ∷ xs)) ≡ length text + length (payloads_text sizes next (suc at) xs) = length-append text (payloads_text sizes next (suc at) xs) in
    let low : next < 2 ^ 31 = omega (arith, room, both) in
    let few : length (payload_text sizes (start sizes at) x) < 2 ^ 31 = omega (arith, low, evenly_least unit (payload_text sizes (start sizes at) x)) in
    let step : Step s sizes at payload unit x xs = step_on s sizes at payload unit x xs p f.0.targets left low (many_of sizes (start sizes at) x f.0.enc f.0.width few) in
    step.end ∙ (end_is r s sizes (suc at) (payload + payload_count x) next xs p f.1 step.next (omega (arith, room, both)) ∙ omega (arith, both))
  where
    evenly_least : (unit : ℕ) (text : List ℕ) → length text ≤ length (evenly unit text)
    evenly_least unit [] = omega arith
    evenly_least unit (u ∷ us) = omega (arith, evenly_many unit u us)

-- bytes behind the sixteen of the header, and a zero unit where they end at an odd unit
pub padded : (text : List ℕ) (unit : ℕ) → length text ≡ 16 + 2 * unit → pad_to_even text ≡ text ++ unit_bytes (replicate (unit % 2) 0)
padded text unit e = by (unit % 2) refl
  where
    by : (m : ℕ) → unit % 2 ≡ m → pad_to_even text ≡ text ++ unit_bytes (replicate m 0)
    by zero z =
        let small : length text % 4 < 2 = omega (arith, e, z) in
        ap (λ (b : Bool). if b then text ++ unit_bytes (0 ∷ []) else text) (lt-leb 2 (length text % 4) small) ∙ sym (append-nil text)
    by (suc zero) z = ap (λ (b : Bool). if b then text ++ unit_bytes (0 ∷ []) else text) (let large : 2 ≤ length text % 4 = omega (arith, e, z) in le-leb 2 (length text % 4) large)
    by (suc (suc m)) z = absurd (omega (arith, z))

behind_is : (s : Spots) (sizes text : List ℕ) (at unit : ℕ) (x : Insn) → Placed s sizes → at < length sizes → is_encodable x ≡ true → InWidth x → AllByRecursion (λ t. t < length sizes) (targets_of x) → length text ≡ 16 + 2 * unit → Many x (payload_text sizes (start sizes at) x)
    → payload_behind s text at x ≡ text ++ unit_bytes (evenly unit (payload_text sizes (start sizes at) x))
behind_is s sizes text at unit x p inside enc w a long (NoUnits none nil) =
    ap (λ (b : Bool). if b then text else pad_to_even text ++ written.payload_text s (place_at s.starts s.size at) x) (eq-eqb (units_behind x) 0 nil) ∙ (sym (append-nil text) ∙ ap (λ (l : List ℕ). text ++ unit_bytes (evenly unit l)) (sym none))
behind_is s sizes text at unit x p inside enc w a long (SomeUnits u us is many) =
    let size : length (payload_text sizes (start sizes at) x) ≡ suc (length us) = ap (λ (l : List ℕ). length l) is in
    let bytes : written.payload_text s (place_at s.starts s.size at) x ≡ unit_bytes (u ∷ us) = ap (λ (k : ℕ). written.payload_text s k x) (p at inside) ∙ (payload_bytes s sizes (start sizes at) x p enc w a ∙ ap unit_bytes is) in
    let zeros : List ℕ = replicate (unit % 2) 0 in
    ap (λ (b : Bool). if b then text else pad_to_even text ++ written.payload_text s (place_at s.starts s.size at) x) (ne_eqb (units_behind x) 0 (λ z. omega (arith, z, many, size)))
    ∙ (ap (λ (l : List ℕ). l ++ written.payload_text s (place_at s.starts s.size at) x) (padded text unit long)
    ∙ (ap (λ (l : List ℕ). (text ++ unit_bytes zeros) ++ l) bytes
    ∙ (append_assoc text (unit_bytes zeros) (unit_bytes (u ∷ us)) ∙ (ap (λ (l : List ℕ). text ++ l) (sym (bytes_append zeros (u ∷ us))) ∙ ap (λ (l : List ℕ). text ++ unit_bytes (evenly unit l)) (sym is)))))

pub payloads_bytes : (r : Renumber) (s : Spots) (sizes text : List ℕ) (at unit : ℕ) (xs : List Insn) → Placed s sizes → at + length xs ≡ length sizes → AllFine r sizes at xs → length text ≡ 16 + 2 * unit → unit + length (payloads_text sizes unit at xs) < 2 ^ 31
    → with_payloads s text at xs ≡ text ++ unit_bytes (payloads_text sizes unit at xs)
payloads_bytes r s sizes text at unit [] p many f long room = sym (append-nil text)
payloads_bytes r s sizes text at unit (x ∷ xs) p many f long room =
    let one : List ℕ = evenly unit (payload_text sizes (start sizes at) x) in
    let next : ℕ = next_unit sizes unit at x in
    let more : List ℕ = payloads_text sizes next (suc at) xs in
    let both : length (payloads_text sizes unit at (x ∷ xs)) ≡ length one + length more = length-append one more in
    let few : length (payload_text sizes (start sizes at) x) < 2 ^ 31 = omega (arith, room, both, evenly_least unit (payload_text sizes (start sizes at) x)) in
    let here : payload_behind s text at x ≡ text ++ unit_bytes one = behind_is s sizes text at unit x p (omega (arith, many)) f.0.enc f.0.width f.0.targets long (many_of sizes (start sizes at) x f.0.enc f.0.width few) in
    let size : length (text ++ unit_bytes one) ≡ 16 + 2 * next = length-append text (unit_bytes one) ∙ omega (arith, long, bytes_twice one) in
    ap (λ (l : List ℕ). with_payloads s l (suc at) xs) here
    ∙ (payloads_bytes r s sizes (text ++ unit_bytes one) (suc at) next xs p (omega (arith, many)) f.1 size (omega (arith, room, both))
    ∙ (append_assoc text (unit_bytes one) (unit_bytes more) ∙ ap (λ (l : List ℕ). text ++ l) (sym (bytes_append one more))))
  where
    evenly_least : (unit : ℕ) (text : List ℕ) → length text ≤ length (evenly unit text)
    evenly_least unit [] = omega arith
    evenly_least unit (u ∷ us) = omega (arith, evenly_many unit u us)
