-- A code item stands wherever its text does.
use Rattle.std.proofs.Common.{◌≡◌, ◌<◌, ◌≤◌, ◌+◌, ◌*◌, ◌-◌, ◌%◌, ◌/◌, ◌^◌, inl, inr, ℕ, zero, suc, ℤ, pos, ◌-ℤ◌, Bool, true, List, [], ◌∷◌, ◌++◌, length, map, refl, sym, ap, subst, ◌∙◌, arith, length-append}
use Rattle.std.specs.Prelude.{FitsSigned, replicate, nat_lt, ◌&&◌, ◌==◌, if◌then◌else◌}
use Rattle.std.specs.Int.{w16, w32, cast_unsigned, to_le_bytes}
use Rattle.std.specs.List.{AllByRecursion, flat_map, concat}
use Rattle.std.proofs.lemmas.Bool.{lt-ltb, le-ltb, eq-eqb, ne_eqb}
use Rattle.dex_base.specs.Decides.{Each}
use Rattle.dex_base.specs.Word.{Is16, Is32}
use Rattle.insn_set.specs.Flow.{targets_of}
use Rattle.insn_set.specs.Spelling.{is_encodable}
use Rattle.insn_set.specs.declared.form.Insn.{Insn}
use Rattle.insn_set.specs.declared.form.Insn.TheVariants.{FillArray, PackedSwitch, SparseSwitch}
use Rattle.program_model.specs.declared.pass.Renumber.{Renumber}
use Rattle.program_model.specs.declared.body.Region.{Region}
use Rattle.program_model.specs.declared.body.Body.{Body}
use Rattle.relax.specs.Steps.{step_of}
use Rattle.relax.specs.Sizes.{start}
use Rattle.relax.proofs.Starts.{start_mono}
use Rattle.dex_defs.specs.Here.{Here}
use Rattle.dex_defs.specs.Sweep.{Places, places_of}
use Rattle.dex_defs.specs.Handlers.{IsTry, covering, AreRegions}
use Rattle.dex_defs.specs.CodeItems.{Frame, IsFrame, AreUnits, gap_of, tries_at, lists_at, IsCode}
use Rattle.dex_defs.specs.LaysOut.{written_lists}
use Rattle.dex_defs.specs.CodeTexts.{two_units, signed_units, target_units, units_from, payload_text, evenly, payloads_text, body_units, most_passed, frame_units, gap_units, covered, lists_text, list_offset, try_units, tries_text, code_text}
use Rattle.dex_defs.specs.Written.{new_insn, new_region, new_body}
use Rattle.write_laws.proofs.Here.{here_left, here_right, here_is, here_same, here_32}
use Rattle.write_laws.proofs.Numbers.{here_16}
use Rattle.written_code.proofs.Signed.{Lies, Ahead, Behind, lies, few_bits, near_word}
use Rattle.written_code.proofs.Forms.{InWidth}
use Rattle.written_code.proofs.Tables.{units_low, bytes_low, item_bytes, IsOneOf, one_of}
use Rattle.written_code.proofs.Standing.{fill_fits}
use Rattle.written_code.proofs.Least.{needs, AllSome}
use Rattle.written_code.proofs.Bodies.{next_unit, text_at, insn_texts, AllFine, AllSpelt, all_spelt, texts_long, LastStops, Swept, body_swept, payloads_same, start_low}
use Rattle.written_code.proofs.Units.{bytes_append, bytes_twice, packed_few, sparse_few, fill_parts}
use Rattle.code_write.specs.Units.{unit_bytes}
use Rattle.written_code.proofs.Handlers.{FitRegion, try_of, regions_are}

-- ---- units and words

each_unit : (bytes : List ℕ) (base i : ℕ) (us : List ℕ) → AllByRecursion (λ u. u < 65536) us → Here bytes (base + 2 * i) (unit_bytes us) → Each (λ k u. Is16 bytes (base + 2 * k) u) i us
each_unit bytes base i [] few here = tt
each_unit bytes base i (u ∷ us) few here = (
  here_16 bytes (base + 2 * i) u few.0 (here_left bytes (base + 2 * i) (to_le_bytes w16 u) (unit_bytes us) here),
  each_unit bytes base (suc i) us few.1 (here_is bytes (base + 2 * i + length (to_le_bytes w16 u)) (base + 2 * suc i) (unit_bytes us) (omega arith) (here_right bytes (base + 2 * i) (to_le_bytes w16 u) (unit_bytes us) here)),
)

four_same : (a a' b b' c c' d d' : ℕ) → a ≡ a' → b ≡ b' → c ≡ c' → d ≡ d' → (a ∷ b ∷ c ∷ d ∷ []) ≡ (a' ∷ b' ∷ c' ∷ d' ∷ [])
four_same a a' b b' c c' d d' e f g h = rw (e, f, g, h) refl

-- a number of 32 bits in two units
pub word_is : (n : ℕ) → unit_bytes (two_units n) ≡ to_le_bytes w32 n
word_is n = four_same (n % 65536 % 256) (n % 256) (n % 65536 / 256 % 256) (n / 256 % 256) (n / 65536 % 256) (n / 65536 % 256) (n / 65536 / 256 % 256) (n / 16777216 % 256) (omega arith) (omega arith) refl (omega arith)

here_word : (bytes : List ℕ) (at n : ℕ) → n < 2 ^ 32 → Here bytes at (unit_bytes (two_units n)) → Is32 bytes at n
here_word bytes at n lt here = here_32 bytes at n lt (here_same bytes at (unit_bytes (two_units n)) (to_le_bytes w32 n) (word_is n) here)

-- the first units of some, and the others
split : (bytes : List ℕ) (at : ℕ) (us vs : List ℕ) → Here bytes at (unit_bytes (us ++ vs)) → Here bytes at (unit_bytes us) × Here bytes (at + 2 * length us) (unit_bytes vs)
split bytes at us vs here =
    let both : Here bytes at (unit_bytes us ++ unit_bytes vs) = here_same bytes at (unit_bytes (us ++ vs)) (unit_bytes us ++ unit_bytes vs) (bytes_append us vs) here in
    (here_left bytes at (unit_bytes us) (unit_bytes vs) both, here_is bytes (at + length (unit_bytes us)) (at + 2 * length us) (unit_bytes vs) (omega (arith, bytes_twice us)) (here_right bytes at (unit_bytes us) (unit_bytes vs) both))

one_unit : (bytes : List ℕ) (at u : ℕ) (us : List ℕ) → u < 65536 → Here bytes at (unit_bytes (u ∷ us)) → Is16 bytes at u × Here bytes (at + 2) (unit_bytes us)
one_unit bytes at u us lt here = (here_16 bytes at u lt (here_left bytes at (to_le_bytes w16 u) (unit_bytes us) here), here_right bytes at (to_le_bytes w16 u) (unit_bytes us) here)

-- ---- the frame

frame_stands : (bytes : List ℕ) (at debug size : ℕ) (body : Body) → body.registers < 65536 → body.ins < 65536 → most_passed body.insns < 65536 → length body.regions < 65536 → debug < 2 ^ 32 → size < 2 ^ 32 → Here bytes at (unit_bytes (frame_units body debug size))
    → IsFrame bytes at (record { registers = body.registers; ins = body.ins; outs = most_passed body.insns; tries = length body.regions; debug = debug; size = size })
frame_stands bytes at debug size body lr li lo lt ld ls here =
    let rest : List ℕ = two_units debug ++ two_units size in
    let a = one_unit bytes at body.registers (body.ins ∷ most_passed body.insns ∷ length body.regions ∷ rest) lr here in
    let b = one_unit bytes (at + 2) body.ins (most_passed body.insns ∷ length body.regions ∷ rest) li a.1 in
    let c = one_unit bytes (at + 2 + 2) (most_passed body.insns) (length body.regions ∷ rest) lo b.1 in
    let d = one_unit bytes (at + 2 + 2 + 2) (length body.regions) rest lt c.1 in
    let e = split bytes (at + 2 + 2 + 2 + 2) (two_units debug) (two_units size) d.1 in
    let four : at + 2 + 2 ≡ at + 4 = omega arith in
    let six : at + 2 + 2 + 2 ≡ at + 6 = omega arith in
    let eight : at + 2 + 2 + 2 + 2 ≡ at + 8 = omega arith in
    let twelve : at + 2 + 2 + 2 + 2 + 2 * 2 ≡ at + 12 = omega arith in
    record {
      registers = a.0;
      ins = b.0;
      outs = subst (λ k. Is16 bytes k (most_passed body.insns)) four c.0;
      tries = subst (λ k. Is16 bytes k (length body.regions)) six d.0;
      debug = subst (λ k. Is32 bytes k debug) eight (here_word bytes (at + 2 + 2 + 2 + 2) debug ld e.0);
      size = subst (λ k. Is32 bytes k size) twelve (here_word bytes (at + 2 + 2 + 2 + 2 + 2 * 2) size ls e.1);
    }

-- ---- try items

tries_stand : (bytes sizes : List ℕ) (types base i : ℕ) (all rs : List Region) → start sizes (length sizes) < 2 ^ 31 → AllByRecursion (FitRegion sizes types) rs → AllByRecursion (λ r. list_offset sizes all r < 65536) rs → Here bytes (base + 8 * i) (unit_bytes (flat_map (try_units sizes all) rs))
    → Each (λ k t. IsTry bytes (base + 8 * k) t) i (map (try_of sizes all) rs)
tries_stand bytes sizes types base i all [] low fit offs here = tt
tries_stand bytes sizes types base i all (r ∷ rs) low fit offs here =
    let at : ℕ = base + 8 * i in
    let rest : List ℕ = flat_map (try_units sizes all) rs in
    let a = split bytes at (try_units sizes all r) rest here in
    let b = split bytes at (two_units (start sizes r.first)) (covered sizes r ∷ list_offset sizes all r ∷ []) a.0 in
    let c = one_unit bytes (at + 2 * 2) (covered sizes r) (list_offset sizes all r ∷ []) (omega arith) b.1 in
    let d = one_unit bytes (at + 2 * 2 + 2) (list_offset sizes all r) [] offs.0 c.1 in
    let few : start sizes r.first < 2 ^ 32 = omega (arith, low, start_mono sizes r.first (length sizes) (omega (arith, fit.0.some, fit.0.inside))) in
    let six : at + 2 * 2 + 2 ≡ at + 6 = omega arith in
    let next : at + 2 * 4 ≡ base + 8 * suc i = omega arith in
    (record { start = here_word bytes at (start sizes r.first) few b.0; count = c.0; offset = subst (λ k. Is16 bytes k (list_offset sizes all r)) six d.0 }, tries_stand bytes sizes types base (suc i) all rs low fit.1 offs.1 (here_is bytes (at + 2 * 4) (base + 8 * suc i) (unit_bytes rest) next a.1))

-- ---- units fit 16 bits

all_both : (P : ℕ → Type 0) (xs ys : List ℕ) → AllByRecursion P xs → AllByRecursion P ys → AllByRecursion P (xs ++ ys)
all_both P [] ys a b = b
all_both P (x ∷ xs) ys a b = (a.0, all_both P xs ys a.1 b)

abbrev Low : List ℕ → Type 0
Low us = AllByRecursion (λ u. u < 65536) us

two_low : (n : ℕ) → n < 2 ^ 32 → Low (two_units n)
two_low n lt = (omega arith, (omega (arith, lt), tt))

far_low : (from to : ℕ) → from < 2 ^ 31 → to < 2 ^ 31 → cast_unsigned w32 (pos to -ℤ pos from) < 2 ^ 32
far_low from to lf lt = by (lies from to)
  where
    by : Lies from to → cast_unsigned w32 (pos to -ℤ pos from) < 2 ^ 32
    by (Ahead n e f d) = subst (λ z. cast_unsigned w32 z < 2 ^ 32) (sym d) (few n (omega (arith, e, lt)))
      where
        few : (n : ℕ) → n < 2 ^ 31 → n < 2 ^ 32
        few n l = omega (arith, l)
    by (Behind n e f d) = subst (λ z. cast_unsigned w32 z < 2 ^ 32) (sym d) (few n)
      where
        few : (n : ℕ) → 2 ^ 32 - suc n < 2 ^ 32
        few n = omega arith

targets_low : (sizes : List ℕ) (from : ℕ) (ts : List ℕ) → from < 2 ^ 31 → start sizes (length sizes) < 2 ^ 31 → AllByRecursion (λ t. t < length sizes) ts → Low (flat_map (target_units sizes from) ts)
targets_low sizes from [] lf low a = tt
targets_low sizes from (t ∷ ts) lf low a = all_both (λ u. u < 65536) (target_units sizes from t) (flat_map (target_units sizes from) ts) (two_low (cast_unsigned w32 (pos (start sizes t) -ℤ pos from)) (far_low from (start sizes t) lf (start_low sizes t a.0 low))) (targets_low sizes from ts lf low a.1)

keys_low : (zs : List ℤ) → AllByRecursion (FitsSigned w32) zs → Low (flat_map signed_units zs)
keys_low [] a = tt
keys_low (z ∷ zs) a = all_both (λ u. u < 65536) (signed_units z) (flat_map signed_units zs) (two_low (cast_unsigned w32 z) (few_bits z (near_word z a.0))) (keys_low zs a.1)

width_low : (width : ℕ) → IsOneOf width → width < 65536
width_low width h = elim h [
  | inl a ↦ elim a [ inl e ↦ omega (arith, e) | inr e ↦ omega (arith, e) ]
  | inr a ↦ elim a [ inl e ↦ omega (arith, e) | inr e ↦ omega (arith, e) ]
]

payload_low : (sizes : List ℕ) (from : ℕ) (x : Insn) → is_encodable x ≡ true → InWidth x → from < 2 ^ 31 → start sizes (length sizes) < 2 ^ 31 → AllByRecursion (λ t. t < length sizes) (targets_of x) → Low (payload_text sizes from x)
payload_low sizes from (PackedSwitch on first targets) enc w lf low a = (omega arith, (packed_few on first targets enc, all_both (λ u. u < 65536) (signed_units first) (flat_map (target_units sizes from) targets) (two_low (cast_unsigned w32 first) (few_bits first (near_word first w))) (targets_low sizes from targets lf low a)))
payload_low sizes from (SparseSwitch on keys targets) enc w lf low a = (omega arith, (sparse_few on keys targets enc, all_both (λ u. u < 65536) (flat_map signed_units keys) (flat_map (target_units sizes from) targets) (keys_low keys w) (targets_low sizes from targets lf low a)))
payload_low sizes from (FillArray on width items) enc w lf low a = (omega arith, (width_low width (one_of width (fill_parts on width items enc).width_is), all_both (λ u. u < 65536) (two_units (length items)) (units_from (flat_map (item_bytes width) items)) (two_low (length items) ((fill_parts on width items enc).few)) (units_low (flat_map (item_bytes width) items) (bytes_low width items (fill_fits on width items enc w)))))
payload_low sizes from x enc w lf low a = tt

evenly_low : (at : ℕ) (text : List ℕ) → Low text → Low (evenly at text)
evenly_low at [] a = tt
evenly_low at (u ∷ us) a = all_both (λ u. u < 65536) (replicate (at % 2) 0) (u ∷ us) (zeros (at % 2)) a
  where
    zeros : (m : ℕ) → Low (replicate m 0)
    zeros zero = tt
    zeros (suc m) = (omega arith, zeros m)

payloads_low : (r : Renumber) (sizes : List ℕ) (unit at : ℕ) (xs : List Insn) → start sizes (length sizes) < 2 ^ 31 → at + length xs ≡ length sizes → AllFine r sizes at xs → Low (payloads_text sizes unit at xs)
payloads_low r sizes unit at [] low many f = tt
payloads_low r sizes unit at (x ∷ xs) low many f = all_both (λ u. u < 65536) (evenly unit (payload_text sizes (start sizes at) x)) (payloads_text sizes (next_unit sizes unit at x) (suc at) xs)
    (evenly_low unit (payload_text sizes (start sizes at) x) (payload_low sizes (start sizes at) x f.0.enc f.0.width (start_low sizes at (omega (arith, many)) low) low f.0.targets)) (payloads_low r sizes (next_unit sizes unit at x) (suc at) xs low (omega (arith, many)) f.1)

texts_low : (r : Renumber) (sizes : List ℕ) (at unit : ℕ) (xs : List Insn) → AllSpelt r sizes at unit xs → Low (concat (insn_texts r sizes at unit xs))
texts_low r sizes at unit [] a = tt
texts_low r sizes at unit (x ∷ xs) a = all_both (λ u. u < 65536) (text_at r sizes at unit x) (concat (insn_texts r sizes (suc at) (next_unit sizes unit at x) xs)) a.0.is.read.fits (texts_low r sizes (suc at) (next_unit sizes unit at x) xs a.1)

-- ---- a body that fits

pub record FitBody (r : Renumber) (sizes : List ℕ) (types : ℕ) (b : Body) : Type 0 where
  pub is : sizes ≡ needs sizes 0 (map (step_of r) b.insns)
  pub long : length sizes ≡ length b.insns
  pub some : AllSome sizes
  pub fine : AllFine r sizes 0 b.insns
  pub last : LastStops b.insns
  pub room : start sizes (length sizes) + length (payloads_text sizes (start sizes (length sizes)) 0 b.insns) < 2 ^ 31
  pub registers : b.registers < 65536
  pub ins : b.ins < 65536
  pub passed : most_passed (map (new_insn r) b.insns) < 65536
  pub regions : AllByRecursion (FitRegion sizes types) (map (new_region r) b.regions)
  pub few_regions : length b.regions < 65536
  pub offsets : AllByRecursion (λ x. list_offset sizes (map (new_region r) b.regions) x < 65536) (map (new_region r) b.regions)
  pub lists : length (written_lists sizes (map (new_region r) b.regions)) < 2 ^ 32

abbrev pub texts_of : Renumber → List ℕ → Body → List (List ℕ)
texts_of r sizes b = insn_texts r sizes 0 (start sizes (length sizes)) b.insns

abbrev pub units_of_body : Renumber → List ℕ → Body → List ℕ
units_of_body r sizes b = concat (texts_of r sizes b) ++ payloads_text sizes (start sizes (length sizes)) 0 b.insns

pub spelled_all : (r : Renumber) (sizes : List ℕ) (types : ℕ) (b : Body) → FitBody r sizes types b → AllSpelt r sizes 0 (start sizes (length sizes)) b.insns
spelled_all r sizes types b f = all_spelt r sizes [] 0 (start sizes (length sizes)) b.insns f.is refl f.some (omega (arith, f.room)) f.fine f.room

pub texts_end : (r : Renumber) (sizes : List ℕ) (types : ℕ) (b : Body) → FitBody r sizes types b → length (concat (texts_of r sizes b)) ≡ start sizes (length sizes)
texts_end r sizes types b f =
    let zero_on : start sizes (0 + length b.insns) ≡ start sizes (length b.insns) = ap (λ (k : ℕ). start sizes k) (let e : 0 + length b.insns ≡ length b.insns = omega arith in e) in
    omega (arith, texts_long r sizes 0 (start sizes (length sizes)) b.insns (spelled_all r sizes types b f), zero_on) ∙ ap (λ (k : ℕ). start sizes k) (sym f.long)

pub units_same : (r : Renumber) (sizes : List ℕ) (types : ℕ) (b : Body) → FitBody r sizes types b → body_units sizes (texts_of r sizes b) (new_body r b) ≡ units_of_body r sizes b
units_same r sizes types b f =
    ap (λ (k : ℕ). concat (texts_of r sizes b) ++ payloads_text sizes k 0 (map (new_insn r) b.insns)) (texts_end r sizes types b f)
    ∙ ap (λ (l : List ℕ). concat (texts_of r sizes b) ++ l) (payloads_same r sizes (start sizes (length sizes)) 0 b.insns)

pub swept_body : (r : Renumber) (sizes : List ℕ) (types : ℕ) (b : Body) → FitBody r sizes types b → Swept r sizes b.insns (units_of_body r sizes b)
swept_body r sizes types b f = body_swept r sizes b.insns f.is f.long f.some f.fine f.last f.room

pub units_count : (r : Renumber) (sizes : List ℕ) (types : ℕ) (b : Body) → FitBody r sizes types b → length (units_of_body r sizes b) ≡ start sizes (length sizes) + length (payloads_text sizes (start sizes (length sizes)) 0 b.insns)
units_count r sizes types b f = length-append (concat (texts_of r sizes b)) (payloads_text sizes (start sizes (length sizes)) 0 b.insns) ∙ ap (λ (n : ℕ). n + length (payloads_text sizes (start sizes (length sizes)) 0 b.insns)) (texts_end r sizes types b f)

abbrev pub frame_of : Renumber → List ℕ → Body → ℕ → Frame
frame_of r sizes b debug = record { registers = b.registers; ins = b.ins; outs = most_passed (map (new_insn r) b.insns); tries = length (map (new_region r) b.regions); debug = debug; size = length (units_of_body r sizes b) }

gap_long : (rs : List Region) (units : List ℕ) (f : Frame) → f.tries ≡ length rs → f.size ≡ length units → 2 * length (gap_units rs units) ≡ gap_of f
gap_long [] units f t s = sym (ap (λ (b : Bool). if b && f.size % 2 == 1 then 2 else 0) (le-ltb 0 f.tries (omega (arith, t))))
gap_long (r ∷ rs) units f t s = by (length units % 2) refl
  where
    some : nat_lt 0 f.tries ≡ true
    some = lt-ltb 0 f.tries (omega (arith, t))

    zeros : (m : ℕ) → length {A = ℕ} (replicate m 0) ≡ m
    zeros zero = refl
    zeros (suc m) = ap suc (zeros m)

    by : (m : ℕ) → length units % 2 ≡ m → 2 * length {A = ℕ} (replicate m 0) ≡ gap_of f
    by zero e = sym (ap (λ (b : Bool). if b && f.size % 2 == 1 then 2 else 0) some ∙ ap (λ (b : Bool). if b then 2 else 0) (ne_eqb (f.size % 2) 1 (λ z. omega (arith, z, s, e))))
    by (suc zero) e = sym (ap (λ (b : Bool). if b && f.size % 2 == 1 then 2 else 0) some ∙ ap (λ (b : Bool). if b then 2 else 0) (eq-eqb (f.size % 2) 1 (omega (arith, s, e))))
    by (suc (suc m)) e = absurd (omega (arith, e))

pub code_stands : (bytes : List ℕ) (at debug types : ℕ) (r : Renumber) (sizes : List ℕ) (b : Body) → types ≤ 65536 → debug < 2 ^ 32 → (f : FitBody r sizes types b) → Here bytes at (code_text sizes (texts_of r sizes b) debug (new_body r b))
    → IsCode bytes types at (frame_of r sizes b debug) (places_of (units_of_body r sizes b) (swept_body r sizes types b f).pieces) (new_body r b)
code_stands bytes at debug types r sizes b few ld f here = record {
  frame = frame;
  registers = refl;
  ins = refl;
  units = units;
  many = refl;
  are_units = units_there;
  pieces = swept.pieces;
  swept = swept.swept;
  placed = refl;
  insns = swept.insns;
  tries = map (try_of sizes rs) rs;
  are_tries = (tries_many rs, (both rs refl).0);
  regions = (both rs refl).1;
}
  where
    units : List ℕ
    units = units_of_body r sizes b

    rs : List Region
    rs = map (new_region r) b.regions

    body : Body
    body = new_body r b

    own : Frame
    own = frame_of r sizes b debug

    swept : Swept r sizes b.insns units
    swept = swept_body r sizes types b f

    places : Places
    places = places_of units swept.pieces

    low : start sizes (length sizes) < 2 ^ 31
    low = omega (arith, f.room)

    count : length units ≡ start sizes (length sizes) + length (payloads_text sizes (start sizes (length sizes)) 0 b.insns)
    count = units_count r sizes types b f

    whole : List ℕ → List ℕ
    whole us = unit_bytes (frame_units body debug (length us) ++ (us ++ gap_units rs us)) ++ tries_text sizes rs

    text_is : code_text sizes (texts_of r sizes b) debug body ≡ whole units
    text_is = ap whole (units_same r sizes types b f)

    all_here : Here bytes at (unit_bytes (frame_units body debug (length units) ++ (units ++ gap_units rs units)) ++ tries_text sizes rs)
    all_here = here_same bytes at (code_text sizes (texts_of r sizes b) debug body) (whole units) text_is here

    head : Here bytes at (unit_bytes (frame_units body debug (length units) ++ (units ++ gap_units rs units)))
    head = here_left bytes at (unit_bytes (frame_units body debug (length units) ++ (units ++ gap_units rs units))) (tries_text sizes rs) all_here

    parts : Here bytes at (unit_bytes (frame_units body debug (length units))) × Here bytes (at + 2 * 8) (unit_bytes (units ++ gap_units rs units))
    parts = split bytes at (frame_units body debug (length units)) (units ++ gap_units rs units) head

    map_many : (xs : List Region) → length (map (new_region r) xs) ≡ length xs
    map_many [] = refl
    map_many (x ∷ xs) = ap suc (map_many xs)

    frame : IsFrame bytes at own
    frame = frame_stands bytes at debug (length units) body f.registers f.ins f.passed (omega (arith, f.few_regions, map_many b.regions)) ld (omega (arith, count, f.room)) parts.0

    sixteen : at + 2 * 8 ≡ at + 16
    sixteen = omega arith

    units_at : Here bytes (at + 16) (unit_bytes units)
    units_at = here_is bytes (at + 2 * 8) (at + 16) (unit_bytes units) sixteen (split bytes (at + 2 * 8) units (gap_units rs units) parts.1).0

    units_fit : Low units
    units_fit = all_both (λ u. u < 65536) (concat (texts_of r sizes b)) (payloads_text sizes (start sizes (length sizes)) 0 b.insns) (texts_low r sizes 0 (start sizes (length sizes)) b.insns (spelled_all r sizes types b f)) (payloads_low r sizes (start sizes (length sizes)) 0 b.insns low (omega (arith, f.long)) f.fine)

    from_zero : at + 16 ≡ at + 16 + 2 * 0
    from_zero = omega arith

    units_there : AreUnits bytes at units
    units_there = each_unit bytes (at + 16) 0 units units_fit (here_is bytes (at + 16) (at + 16 + 2 * 0) (unit_bytes units) from_zero units_at)

    gap_at : tries_at at own ≡ at + length (unit_bytes (frame_units body debug (length units) ++ (units ++ gap_units rs units)))
    gap_at = omega (arith, bytes_twice (frame_units body debug (length units) ++ (units ++ gap_units rs units)), length-append (frame_units body debug (length units)) (units ++ gap_units rs units), length-append units (gap_units rs units), gap_long rs units own refl refl)

    tail_at : Here bytes (tries_at at own) (tries_text sizes rs)
    tail_at = here_is bytes (at + length (unit_bytes (frame_units body debug (length units) ++ (units ++ gap_units rs units)))) (tries_at at own) (tries_text sizes rs) (sym gap_at) (here_right bytes at (unit_bytes (frame_units body debug (length units) ++ (units ++ gap_units rs units))) (tries_text sizes rs) all_here)

    tries_many : (xs : List Region) → length (map (try_of sizes rs) xs) ≡ length xs
    tries_many [] = refl
    tries_many (x ∷ xs) = ap suc (tries_many xs)

    eight_each : (xs : List Region) → length (flat_map (try_units sizes rs) xs) ≡ 4 * length xs
    eight_each [] = refl
    eight_each (x ∷ xs) = length-append (try_units sizes rs x) (flat_map (try_units sizes rs) xs) ∙ omega (arith, eight_each xs)

    both : (xs : List Region) → rs ≡ xs → Each (λ k t. IsTry bytes (tries_at at own + 8 * k) t) 0 (map (try_of sizes rs) rs) × AreRegions bytes places (lists_at at own) types (covering places (map (try_of sizes rs) rs)) rs
    both [] e = subst (λ l. Each (λ k t. IsTry bytes (tries_at at own + 8 * k) t) 0 (map (try_of sizes rs) l) × AreRegions bytes places (lists_at at own) types (covering places (map (try_of sizes rs) l)) l) (sym e) (tt, tt)
    both (x ∷ xs) e =
        let items : List ℕ = unit_bytes (flat_map (try_units sizes rs) rs) in
        let tail : Here bytes (tries_at at own) (items ++ lists_text sizes rs) = here_same bytes (tries_at at own) (tries_text sizes rs) (items ++ lists_text sizes rs) (ap (λ (l : List Region). tries_text sizes l) e ∙ ap (λ (l : List Region). unit_bytes (flat_map (try_units sizes l) l) ++ lists_text sizes l) (sym e)) tail_at in
        let zero_at : tries_at at own ≡ tries_at at own + 8 * 0 = omega arith in
        let there : tries_at at own + length items ≡ lists_at at own = omega (arith, bytes_twice (flat_map (try_units sizes rs) rs), eight_each rs) in
        let lists : Here bytes (lists_at at own) (lists_text sizes rs) = here_is bytes (tries_at at own + length items) (lists_at at own) (lists_text sizes rs) there (here_right bytes (tries_at at own) items (lists_text sizes rs) tail) in (
          tries_stand bytes sizes types (tries_at at own) 0 rs rs low f.regions f.offsets (here_is bytes (tries_at at own) (tries_at at own + 8 * 0) items zero_at (here_left bytes (tries_at at own) items (lists_text sizes rs) tail)),
          regions_are bytes sizes types places few low f.some swept.starts_long swept.starts (omega (arith, count)) (lists_at at own) rs [] rs refl f.regions f.regions f.lists lists,
        )
