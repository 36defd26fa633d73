-- Payloads stand as pieces of their own behind the instructions, and what is written in them is read of them.
use Rattle.std.proofs.Common.{◌≡◌, ◌<◌, ◌+◌, ◌*◌, ◌-◌, ◌%◌, ◌/◌, ◌^◌, ◌⊎◌, inl, inr, ℕ, zero, suc, ℤ, pos, ◌+ℤ◌, ◌-ℤ◌, Bool, true, false, List, [], ◌∷◌, ◌++◌, length, take, drop, Some, refl, sym, ap, subst, ◌∙◌, arith, append_assoc, append-nil, length-append, ltb-true}
use Rattle.std.specs.Prelude.{FitsSigned, slice_index, slice_get, replicate, nat_eq, ◌||◌}
use Rattle.std.specs.Int.{w32, w64, cast_unsigned, cast_signed, from_le_bytes, to_le_bytes}
use Rattle.std.specs.List.{AllByRecursion, flat_map, list_all}
use Rattle.std.proofs.Math.Nat.{mul-suc}
use Rattle.std.proofs.lemmas.Int.{ints, to_z-of_z}
use Rattle.std.proofs.lemmas.Bool.{and_parts, eqb-true}
use Rattle.std.proofs.lemmas.List.{take_at, drop_at}
use Rattle.dex_base.specs.Decides.{Each}
use Rattle.insn_set.specs.Spelling.{is_width, fits_width}
use Rattle.insn_set.specs.declared.form.Insn.{Insn}
use Rattle.insn_set.specs.declared.form.Insn.TheVariants.{FillArray, PackedSwitch, SparseSwitch}
use Rattle.code_read.specs.Opcodes.{format_at}
use Rattle.code_read.specs.Payloads.{payload_size}
use Rattle.relax.specs.Sizes.{start}
use Rattle.dex_defs.specs.Sweep.{Piece, Places, piece_size, is_payload}
use Rattle.dex_defs.specs.Instructions.{GoesTo, double_at, signed_at, unit_bytes, item_at}
use Rattle.dex_defs.specs.CodeTexts.{two_units, signed_units, target_units, units_from, payload_text, evenly, payloads_text}
use Rattle.written_code.proofs.Signed.{Lies, Ahead, Behind, lies}
use Rattle.written_code.proofs.Sweeping.{text_of, Starts, Sized, Fills, starts_append, all_append}

-- ---- what stands behind other units

pub at_front : (front l : List ℕ) (k j : ℕ) → k ≡ length front + j → slice_index (front ++ l) k ≡ slice_index l j
at_front [] l k j e = ap (λ (n : ℕ). slice_index l n) (let same : k ≡ j = omega (arith, e) in same)
at_front (x ∷ front) l zero j e = absurd (omega (arith, e))
at_front (x ∷ front) l (suc k) j e = at_front front l k j (omega (arith, e))

two_units_at : (front rest : List ℕ) (n k : ℕ) → k ≡ length front → double_at (front ++ (two_units n ++ rest)) k ≡ n
two_units_at front rest n k e =
    let low : slice_index (front ++ (two_units n ++ rest)) k ≡ n % 65536 = at_front front (two_units n ++ rest) k 0 (omega (arith, e)) in
    let high : slice_index (front ++ (two_units n ++ rest)) (k + 1) ≡ n / 65536 = at_front front (two_units n ++ rest) (k + 1) 1 (omega (arith, e)) in
    omega (arith, low, high)

pub signed_there : (front rest : List ℕ) (z : ℤ) (k : ℕ) → FitsSigned w32 z → k ≡ length front → signed_at (front ++ (signed_units z ++ rest)) k ≡ z
signed_there front rest z k fits e = ap (cast_signed w32) (two_units_at front rest (cast_unsigned w32 z) k e) ∙ to_z-of_z w32 z fits

near_fits : (from to : ℕ) → from < 2 ^ 31 → to < 2 ^ 31 → FitsSigned w32 (pos to -ℤ pos from)
near_fits from to lf lt = by (lies from to)
  where
    by : Lies from to → FitsSigned w32 (pos to -ℤ pos from)
    by (Ahead n e f d) = subst (FitsSigned w32) (sym d) (record { sfits = omega (arith, e, lt) })
    by (Behind n e f d) = subst (FitsSigned w32) (sym d) (record { sfits = omega (arith, e, lf) })

back_there : (from to : ℕ) → pos to ≡ pos from +ℤ (pos to -ℤ pos from)
back_there from to = omega (arith, ints)

-- ---- targets and keys

pub units_long : (f : ℕ → List ℕ) → ((n : ℕ) → length (f n) ≡ 2) → (ns : List ℕ) → length (flat_map f ns) ≡ 2 * length ns
units_long f two [] = refl
units_long f two (n ∷ ns) = length-append (f n) (flat_map f ns) ∙ omega (arith, two n, units_long f two ns)

pub keys_long : (zs : List ℤ) → length (flat_map signed_units zs) ≡ 2 * length zs
keys_long [] = refl
keys_long (z ∷ zs) = length-append (signed_units z) (flat_map signed_units zs) ∙ omega (arith, keys_long zs)

-- where targets begin, as a switch's payload says
module _ (sizes : List ℕ) (places : Places) (from base : ℕ) (few : from < 2 ^ 31) where
  pub targets_there : (i : ℕ) (front rest targets : List ℕ) → places.units ≡ front ++ (flat_map (target_units sizes from) targets ++ rest) → length front ≡ base + 2 * i
      → AllByRecursion (λ t. (start sizes t < 2 ^ 31) × (slice_get places.starts t ≡ Some (start sizes t))) targets → Each (λ k target. GoesTo places from (signed_at places.units (base + 2 * k)) target) i targets
  targets_there i front rest [] is long a = tt
  targets_there i front rest (t ∷ ts) is long a =
      let z : ℤ = pos (start sizes t) -ℤ pos from in
      let more : List ℕ = flat_map (target_units sizes from) ts ++ rest in
      let here : places.units ≡ front ++ (signed_units z ++ more) = is ∙ ap (λ (l : List ℕ). front ++ l) (append_assoc (signed_units z) (flat_map (target_units sizes from) ts) rest) in
      let at : signed_at places.units (base + 2 * i) ≡ z = ap (λ (us : List ℕ). signed_at us (base + 2 * i)) here ∙ signed_there front more z (base + 2 * i) (near_fits from (start sizes t) few a.0.0) (sym long) in
      let next : places.units ≡ (front ++ signed_units z) ++ more = here ∙ sym (append_assoc front (signed_units z) more) in
      (record { unit = start sizes t; is = back_there from (start sizes t) ∙ ap (λ (y : ℤ). pos from +ℤ y) (sym at); begins = a.0.1 }, targets_there (suc i) (front ++ signed_units z) rest ts next (length-append front (signed_units z) ∙ omega (arith, long)) a.1)

pub keys_there : (units : List ℕ) (base i : ℕ) (front rest : List ℕ) (keys : List ℤ) → units ≡ front ++ (flat_map signed_units keys ++ rest) → length front ≡ base + 2 * i → AllByRecursion (FitsSigned w32) keys
    → Each (λ j key. key ≡ signed_at units (base + 2 * j)) i keys
keys_there units base i front rest [] is long a = tt
keys_there units base i front rest (z ∷ zs) is long a =
    let more : List ℕ = flat_map signed_units zs ++ rest in
    let here : units ≡ front ++ (signed_units z ++ more) = is ∙ ap (λ (l : List ℕ). front ++ l) (append_assoc (signed_units z) (flat_map signed_units zs) rest) in
    let at : signed_at units (base + 2 * i) ≡ z = ap (λ (us : List ℕ). signed_at us (base + 2 * i)) here ∙ signed_there front more z (base + 2 * i) a.0 (sym long) in
    let next : units ≡ (front ++ signed_units z) ++ more = here ∙ sym (append_assoc front (signed_units z) more) in
    (sym at, keys_there units base (suc i) (front ++ signed_units z) rest zs next (length-append front (signed_units z) ∙ omega (arith, long)) a.1)

-- ---- items of arrays

abbrev pub IsOneOf : ℕ → Type 0
IsOneOf w = ((w ≡ 1) ⊎ (w ≡ 2)) ⊎ ((w ≡ 4) ⊎ (w ≡ 8))

either_true : (a b : Bool) {A B : Type 0} → (a || b) ≡ true → (a ≡ true → A) → (b ≡ true → B) → A ⊎ B
either_true true b h f g = inl (f refl)
either_true false b h f g = inr (g h)

pub one_of : (w : ℕ) → is_width w ≡ true → IsOneOf w
one_of w h = either_true (nat_eq w 1 || nat_eq w 2) (nat_eq w 4 || nat_eq w 8) h (λ a. either_true (nat_eq w 1) (nat_eq w 2) a (eqb-true w 1) (eqb-true w 2)) (λ a. either_true (nat_eq w 4) (nat_eq w 8) a (eqb-true w 4) (eqb-true w 8))

abbrev pub item_bytes : ℕ → ℕ → List ℕ
item_bytes width item = take width (to_le_bytes w64 item)

-- the items fit their width
abbrev pub Fit : ℕ → List ℕ → Type 0
Fit width items = AllByRecursion (λ item. (length (item_bytes width item) ≡ width) × (from_le_bytes w64 (item_bytes width item) ≡ item) × AllByRecursion (λ b. b < 256) (item_bytes width item)) items

fit_1 : (items : List ℕ) → list_all (λ item. fits_width 1 item) items ≡ true → Fit 1 items
fit_1 [] h = tt
fit_1 (n ∷ ns) h =
    let both = and_parts (fits_width 1 n) (list_all (λ item. fits_width 1 item) ns) h in
    let lt : n < 256 = ltb-true n 256 both.0 in
    ((refl, omega (arith, lt), (omega arith, tt)), fit_1 ns both.1)

fit_2 : (items : List ℕ) → list_all (λ item. fits_width 2 item) items ≡ true → Fit 2 items
fit_2 [] h = tt
fit_2 (n ∷ ns) h =
    let both = and_parts (fits_width 2 n) (list_all (λ item. fits_width 2 item) ns) h in
    let lt : n < 65536 = ltb-true n 65536 both.0 in
    ((refl, omega (arith, lt), (omega arith, (omega arith, tt))), fit_2 ns both.1)

fit_4 : (items : List ℕ) → list_all (λ item. fits_width 4 item) items ≡ true → Fit 4 items
fit_4 [] h = tt
fit_4 (n ∷ ns) h =
    let both = and_parts (fits_width 4 n) (list_all (λ item. fits_width 4 item) ns) h in
    let lt : n < 4294967296 = ltb-true n 4294967296 both.0 in
    ((refl, omega (arith, lt), (omega arith, (omega arith, (omega arith, (omega arith, tt))))), fit_4 ns both.1)

fit_8 : (items : List ℕ) → AllByRecursion (λ n. n < 2 ^ 64) items → Fit 8 items
fit_8 [] h = tt
fit_8 (n ∷ ns) h = ((refl, omega (arith, h.0), (omega arith, (omega arith, (omega arith, (omega arith, (omega arith, (omega arith, (omega arith, (omega arith, tt))))))))), fit_8 ns h.1)

pub items_fit : (width : ℕ) (items : List ℕ) → is_width width ≡ true → list_all (λ item. fits_width width item) items ≡ true → AllByRecursion (λ n. n < 2 ^ 64) items → Fit width items
items_fit width items w h few = elim (one_of width w) [
  | inl a ↦ elim a [
    | inl e ↦ subst (λ k. Fit k items) (sym e) (fit_1 items (subst (λ k. list_all (λ item. fits_width k item) items ≡ true) e h))
    | inr e ↦ subst (λ k. Fit k items) (sym e) (fit_2 items (subst (λ k. list_all (λ item. fits_width k item) items ≡ true) e h))
  ]
  | inr a ↦ elim a [
    | inl e ↦ subst (λ k. Fit k items) (sym e) (fit_4 items (subst (λ k. list_all (λ item. fits_width k item) items ≡ true) e h))
    | inr e ↦ subst (λ k. Fit k items) (sym e) (fit_8 items few)
  ]
]

pub bytes_long : (width : ℕ) (items : List ℕ) → Fit width items → length (flat_map (item_bytes width) items) ≡ width * length items
bytes_long width [] f = omega arith
bytes_long width (n ∷ ns) f = length-append (item_bytes width n) (flat_map (item_bytes width) ns) ∙ (omega (arith, f.0.0, bytes_long width ns f.1) ∙ sym (mul-suc width (length ns)))

pub bytes_low : (width : ℕ) (items : List ℕ) → Fit width items → AllByRecursion (λ b. b < 256) (flat_map (item_bytes width) items)
bytes_low width [] f = tt
bytes_low width (n ∷ ns) f = joined (item_bytes width n) (flat_map (item_bytes width) ns) f.0.2 (bytes_low width ns f.1)
  where
    joined : (xs ys : List ℕ) → AllByRecursion (λ b. b < 256) xs → AllByRecursion (λ b. b < 256) ys → AllByRecursion (λ b. b < 256) (xs ++ ys)
    joined [] ys a b = b
    joined (x ∷ xs) ys a b = (a.0, joined xs ys a.1 b)

abbrev pub odd_of : List ℕ → List ℕ
odd_of [] = []
odd_of (a ∷ []) = 0 ∷ []
odd_of (a ∷ b ∷ bs) = odd_of bs

unit_parts : (low high : ℕ) → low < 256 → high < 256 → ((low + 256 * high) % 256 ≡ low) × ((low + 256 * high) / 256 ≡ high)
unit_parts low high l h = (omega (arith, l, h), omega (arith, l, h))

pair_cons : (a a' b b' : ℕ) (xs ys : List ℕ) → a ≡ a' → b ≡ b' → xs ≡ ys → (a ∷ b ∷ xs) ≡ (a' ∷ b' ∷ ys)
pair_cons a a' b b' xs ys e f g = rw (e, f, g) refl

pub bytes_again : (bs : List ℕ) → AllByRecursion (λ b. b < 256) bs → flat_map unit_bytes (units_from bs) ≡ bs ++ odd_of bs
bytes_again [] a = refl
bytes_again (low ∷ []) a = pair_cons (low % 256) low (low / 256) 0 [] [] (omega (arith, a.0)) (omega (arith, a.0)) refl
bytes_again (low ∷ high ∷ bs) a =
    let parts = unit_parts low high a.0 a.1.0 in
    pair_cons ((low + 256 * high) % 256) low ((low + 256 * high) / 256) high (flat_map unit_bytes (units_from bs)) (bs ++ odd_of bs) parts.0 parts.1 (bytes_again bs a.1.1)

pub units_many : (bs : List ℕ) → length (units_from bs) ≡ (length bs + 1) / 2
units_many [] = refl
units_many (low ∷ []) = refl
units_many (low ∷ high ∷ bs) = omega (arith, units_many bs)

pub units_low : (bs : List ℕ) → AllByRecursion (λ b. b < 256) bs → AllByRecursion (λ u. u < 65536) (units_from bs)
units_low [] a = tt
units_low (low ∷ []) a = (omega (arith, a.0), tt)
units_low (low ∷ high ∷ bs) a = (omega (arith, a.0, a.1.0), units_low bs a.1.1)

pub items_there : (bytes : List ℕ) (width i : ℕ) (front rest items : List ℕ) → bytes ≡ front ++ (flat_map (item_bytes width) items ++ rest) → length front ≡ width * i → Fit width items → Each (λ j item. item ≡ item_at bytes width j) i items
items_there bytes width i front rest [] is long f = tt
items_there bytes width i front rest (n ∷ ns) is long f =
    let more : List ℕ = flat_map (item_bytes width) ns ++ rest in
    let here : bytes ≡ front ++ (item_bytes width n ++ more) = is ∙ ap (λ (l : List ℕ). front ++ l) (append_assoc (item_bytes width n) (flat_map (item_bytes width) ns) rest) in
    let at : take width (drop (width * i) bytes) ≡ item_bytes width n = ap (λ (l : List ℕ). take width (drop (width * i) l)) here ∙ (ap (λ (l : List ℕ). take width l) (drop_at front (item_bytes width n ++ more) (width * i) long) ∙ take_at (item_bytes width n) more width f.0.0) in
    let next : bytes ≡ (front ++ item_bytes width n) ++ more = here ∙ sym (append_assoc front (item_bytes width n) more) in
    let on : length (front ++ item_bytes width n) ≡ width * suc i = length-append front (item_bytes width n) ∙ (omega (arith, long, f.0.0) ∙ sym (mul-suc width i)) in
    (sym (ap (λ (l : List ℕ). from_le_bytes w64 l) at ∙ f.0.1), items_there bytes width (suc i) (front ++ item_bytes width n) rest ns next on f.1)

-- ---- payloads as pieces

-- the text of a payload is one piece whatever stands behind it
pub record Table (text : List ℕ) : Type 0 where
  pub payload : (at : ℕ) → is_payload (record { start = at; text = text }) ≡ true
  pub sized : (rest : List ℕ) → piece_size (text ++ rest) ≡ Some (length text)
  pub some : 0 < length text

two_each : (sizes : List ℕ) (from n : ℕ) → length (target_units sizes from n) ≡ 2
two_each sizes from n = refl

pub packed_table : (sizes : List ℕ) (from on : ℕ) (first : ℤ) (targets : List ℕ) → Table (payload_text sizes from (PackedSwitch on first targets))
packed_table sizes from on first targets = record {
  payload = λ at. refl;
  sized = λ rest. ap Some (sym (ap (λ (n : ℕ). suc (suc (suc (suc n)))) (units_long (target_units sizes from) (two_each sizes from) targets) ∙ (let e : suc (suc (suc (suc (2 * length targets)))) ≡ 4 + 2 * length targets = omega arith in e)));
  some = omega arith;
}

pub sparse_table : (sizes : List ℕ) (from on : ℕ) (keys : List ℤ) (targets : List ℕ) → length keys ≡ length targets → Table (payload_text sizes from (SparseSwitch on keys targets))
sparse_table sizes from on keys targets same =
    let body : List ℕ = flat_map signed_units keys ++ flat_map (target_units sizes from) targets in
    let long : length body ≡ 4 * length targets = length-append (flat_map signed_units keys) (flat_map (target_units sizes from) targets) ∙ omega (arith, keys_long keys, units_long (target_units sizes from) (two_each sizes from) targets, same) in
    record {
      payload = λ at. refl;
      sized = λ rest. by_tail (length targets) (body ++ rest) ∙ ap Some (omega (arith, long));
      some = omega arith;
    }
  where
    by_tail : (n : ℕ) (tail : List ℕ) → payload_size 2 (0x0200 ∷ n ∷ tail) ≡ Some (2 + 4 * n)
    by_tail n [] = refl
    by_tail n (a ∷ []) = refl
    by_tail n (a ∷ b ∷ tail) = refl

pub fill_table : (sizes : List ℕ) (from on width : ℕ) (items : List ℕ) → Fit width items → Table (payload_text sizes from (FillArray on width items))
fill_table sizes from on width items fit =
    let bytes : List ℕ = flat_map (item_bytes width) items in
    let whole : length items % 65536 + 65536 * (length items / 65536) ≡ length items = omega arith in
    let many : length (units_from bytes) ≡ (width * length items + 1) / 2 = units_many bytes ∙ ap (λ (n : ℕ). (n + 1) / 2) (bytes_long width items fit) in
    record {
      payload = λ at. refl;
      sized = λ rest. ap (λ (n : ℕ). Some (4 + (width * n + 1) / 2)) whole ∙ ap Some (omega (arith, many));
      some = omega arith;
    }

-- where one is written, behind a nop at an odd unit
abbrev pub nop_pieces : ℕ → ℕ → List Piece
nop_pieces zero at = []
nop_pieces (suc k) at = record { start = at; text = 0 ∷ [] } ∷ []

abbrev pub payload_piece : ℕ → List ℕ → List Piece
payload_piece at [] = []
payload_piece at (u ∷ us) = nop_pieces (at % 2) at ++ (record { start = at + at % 2; text = u ∷ us } ∷ [])

abbrev pub payload_pieces : List ℕ → ℕ → ℕ → List Insn → List Piece
payload_pieces sizes at position [] = []
payload_pieces sizes at position (insn ∷ insns) = payload_piece at (payload_text sizes (start sizes position) insn) ++ payload_pieces sizes (at + length (evenly at (payload_text sizes (start sizes position) insn))) (suc position) insns

-- each instruction has no payload, or the text of one
abbrev pub HaveTables : List ℕ → ℕ → List Insn → Type 0
HaveTables sizes position [] = Unit {0}
HaveTables sizes position (insn ∷ insns) = ((payload_text sizes (start sizes position) insn ≡ []) ⊎ Table (payload_text sizes (start sizes position) insn)) × HaveTables sizes (suc position) insns

pub texts_append : (ps qs : List Piece) → text_of (ps ++ qs) ≡ text_of ps ++ text_of qs
texts_append [] qs = refl
texts_append (p ∷ ps) qs = ap (λ (l : List ℕ). p.text ++ l) (texts_append ps qs) ∙ sym (append_assoc p.text (text_of ps) (text_of qs))

nop_sized : (at : ℕ) → Sized (record { start = at; text = 0 ∷ [] })
unfolding format_at
nop_sized at rest = refl

pub record PieceFacts (text : List ℕ) (at : ℕ) (ps : List Piece) : Type 0 where
  pub texts : text_of ps ≡ text
  pub starts : Starts at ps
  pub sized : AllByRecursion Sized ps
  pub fills : AllByRecursion Fills ps

some_facts : (at u m : ℕ) (us : List ℕ) → Table (u ∷ us) → m < 2 → PieceFacts (replicate m 0 ++ (u ∷ us)) at (nop_pieces m at ++ (record { start = at + m; text = u ∷ us } ∷ []))
some_facts at u zero us t lt = record { texts = append-nil (u ∷ us); starts = (let e : at + 0 ≡ at = omega arith in e, tt); sized = (t.sized, tt); fills = (inl (t.payload (at + 0)), tt) }
some_facts at u (suc zero) us t lt = record { texts = ap (λ (l : List ℕ). 0 ∷ l) (append-nil (u ∷ us)); starts = (refl, (refl, tt)); sized = (nop_sized at, (t.sized, tt)); fills = (inr refl, (inl (t.payload (at + 1)), tt)) }
some_facts at u (suc (suc m)) us t lt = absurd (omega (arith, lt))

pub piece_facts : (at : ℕ) (text : List ℕ) → (text ≡ []) ⊎ Table text → PieceFacts (evenly at text) at (payload_piece at text)
piece_facts at [] h = record { texts = refl; starts = tt; sized = tt; fills = tt }
piece_facts at (u ∷ us) (inl e) = absurd cc
piece_facts at (u ∷ us) (inr t) = some_facts at u (at % 2) us t (let lt : at % 2 < 2 = omega arith in lt)

pub tables_facts : (sizes : List ℕ) (at position : ℕ) (insns : List Insn) → HaveTables sizes position insns → PieceFacts (payloads_text sizes at position insns) at (payload_pieces sizes at position insns)
tables_facts sizes at position [] h = record { texts = refl; starts = tt; sized = tt; fills = tt }
tables_facts sizes at position (x ∷ xs) h =
    let text : List ℕ = payload_text sizes (start sizes position) x in
    let one : PieceFacts (evenly at text) at (payload_piece at text) = piece_facts at text h.0 in
    let next : ℕ = at + length (evenly at text) in
    let rest : PieceFacts (payloads_text sizes next (suc position) xs) next (payload_pieces sizes next (suc position) xs) = tables_facts sizes next (suc position) xs h.1 in
    record {
      texts = texts_append (payload_piece at text) (payload_pieces sizes next (suc position) xs) ∙ (ap (λ (l : List ℕ). l ++ text_of (payload_pieces sizes next (suc position) xs)) one.texts ∙ ap (λ (l : List ℕ). evenly at text ++ l) rest.texts);
      starts = starts_append at (payload_piece at text) (payload_pieces sizes next (suc position) xs) one.starts (subst (λ n. Starts (at + n) (payload_pieces sizes next (suc position) xs)) (sym (ap (λ (l : List ℕ). length l) one.texts)) rest.starts);
      sized = all_append Sized (payload_piece at text) (payload_pieces sizes next (suc position) xs) one.sized rest.sized;
      fills = all_append Fills (payload_piece at text) (payload_pieces sizes next (suc position) xs) one.fills rest.fills;
    }
