-- Units that are instructions one behind another, and then payloads, are swept into these.
use Rattle.std.proofs.Common.{◌≡◌, ◌<◌, ◌+◌, ◌-◌, ◌%◌, ◌⊎◌, inl, inr, ℕ, Bool, true, false, List, [], ◌∷◌, ◌++◌, length, take, drop, Some, refl, sym, ap, subst, ◌∙◌, arith, append_assoc, append-nil, length-append}
use Rattle.std.specs.Prelude.{slice_index, ◌||◌, ◌&&◌, ◌==◌, not, if◌then◌else◌}
use Rattle.std.specs.List.{AllByRecursion, flat_map, list_any}
use Rattle.std.specs.Option.{option_map}
use Rattle.std.proofs.lemmas.Bool.{eq-eqb, ne_eqb}
use Rattle.std.proofs.lemmas.List.{take_at, drop_at}
use Rattle.insn_set.specs.Formats.{format_units}
use Rattle.insn_set.specs.declared.format.Format.{Format}
use Rattle.insn_set.specs.declared.format.Format.TheVariants.{F10x}
use Rattle.insn_set.specs.declared.form.Insn.{Insn}
use Rattle.insn_set.specs.declared.form.Insn.TheVariants.{Nop}
use Rattle.code_read.specs.declared.fields.Fields.{Fields}
use Rattle.code_read.specs.Opcodes.{format_at}
use Rattle.code_read.specs.Forms.{plain}
use Rattle.code_read.specs.Payloads.{payload_size}
use Rattle.dex_defs.specs.Sweep.{Piece, payload_kind, piece_size, is_payload, is_nop, only_fills, instructions, payloads, starts_of, PiecesTo, IsSwept}
use Rattle.written_code.proofs.Forms.{Form, APlain, ABranch, ACall, AFill, APacked, ASparse, Spelt}

-- ---- pieces one behind another

abbrev pub text_of : List Piece → List ℕ
text_of ps = flat_map (λ p. p.text) ps

-- the first one begins there, and each behind the one before it
abbrev pub Starts : ℕ → List Piece → Type 0
Starts at [] = Unit {0}
Starts at (p ∷ ps) = (p.start ≡ at) × Starts (at + length p.text) ps

-- a piece is one whatever stands behind it
abbrev pub Sized : Piece → Type 0
Sized p = (rest : List ℕ) → piece_size (p.text ++ rest) ≡ Some (length p.text)

chained : (front : List ℕ) (ps : List Piece) → Starts (length front) ps → AllByRecursion Sized ps → PiecesTo (front ++ text_of ps) (length front) ps (length (front ++ text_of ps))
chained front [] s a = ap (λ (l : List ℕ). length l) (append-nil front)
chained front (p ∷ ps) s a =
    let rest : List ℕ = text_of ps in
    let units : List ℕ = front ++ (p.text ++ rest) in
    let behind : drop (length front) units ≡ p.text ++ rest = drop_at front (p.text ++ rest) (length front) refl in
    let long : length units ≡ length front + (length p.text + length rest) = length-append front (p.text ++ rest) ∙ ap (λ (n : ℕ). length front + n) (length-append p.text rest) in
    let assoc : (front ++ p.text) ++ rest ≡ units = append_assoc front p.text rest in
    let on : length (front ++ p.text) ≡ length front + length p.text = length-append front p.text in
    let more : PiecesTo ((front ++ p.text) ++ rest) (length (front ++ p.text)) ps (length ((front ++ p.text) ++ rest)) = chained (front ++ p.text) ps (subst (λ n. Starts n ps) (sym on) s.1) a.1 in
    let moved : PiecesTo units (length (front ++ p.text)) ps (length units) = subst (λ us. PiecesTo us (length (front ++ p.text)) ps (length us)) assoc more in (
      record {
        start = s.0;
        size = ap (λ (us : List ℕ). piece_size us) behind ∙ a.0 rest;
        inside = omega (arith, long);
        text = sym (take_at p.text rest (length p.text) refl) ∙ ap (λ (us : List ℕ). take (length p.text) us) (sym behind);
      },
      subst (λ n. PiecesTo units n ps (length units)) on moved,
    )

pub swept : (ps : List Piece) → Starts 0 ps → AllByRecursion Sized ps → IsSwept (text_of ps) ps
swept ps s a = chained [] ps s a

pub starts_append : (at : ℕ) (ps qs : List Piece) → Starts at ps → Starts (at + length (text_of ps)) qs → Starts at (ps ++ qs)
starts_append at [] qs s t = subst (λ n. Starts n qs) (let e : at + 0 ≡ at = omega arith in e) t
starts_append at (p ∷ ps) qs s t = (s.0, starts_append (at + length p.text) ps qs s.1 (subst (λ n. Starts n qs) (omega (arith, length-append p.text (text_of ps))) t))

pub all_append : {X : Type 0} (P : X → Type 0) (xs ys : List X) → AllByRecursion P xs → AllByRecursion P ys → AllByRecursion P (xs ++ ys)
all_append P [] ys a b = b
all_append P (x ∷ xs) ys a b = (a.0, all_append P xs ys a.1 b)

-- ---- instructions

some_units : (format : Format) → 0 < format_units format
some_units F10x = omega arith
some_units format = omega arith

-- the piece of an instruction
pub insn_sized : (x : Insn) (from to start : ℕ) (text : List ℕ) → Spelt x from to text → Sized (record { start = start; text = text })
insn_sized x from to start [] s rest = absurd (omega (arith, s.read.long, some_units s.format))
insn_sized x from to start (u ∷ us) s rest =
    let none : (payload_kind u == 0) ≡ true = eq-eqb (payload_kind u) 0 s.read.kind in
    ap (λ (b : Bool). if b then option_map format_units (format_at (u % 256)) else payload_size (payload_kind u) (u ∷ (us ++ rest))) none
    ∙ (ap (λ (n : ℕ). option_map format_units (format_at n)) s.read.opcode ∙ (ap (option_map format_units) s.row ∙ ap Some (sym s.read.long)))

pub insn_no_payload : (x : Insn) (from to start : ℕ) (text : List ℕ) → Spelt x from to text → is_payload (record { start = start; text = text }) ≡ false
insn_no_payload x from to start text s = ap not (eq-eqb (payload_kind (slice_index text 0)) 0 s.read.kind)

-- an instruction with the opcode 0 is a nop
nop_only : (x : Insn) (f : Fields) (far : _) → Form x 0 f far → x ≡ Nop
unfolding plain
nop_only x f far (APlain e is) = is
nop_only x f far (ABranch target e goes is off moves) = absurd cc
nop_only x f far (ACall e few is) = absurd cc
nop_only x f far (AFill on width items e is a w) = absurd (omega (arith, e))
nop_only x f far (APacked on first targets e is a w) = absurd (omega (arith, e))
nop_only x f far (ASparse on keys targets e is a w) = absurd (omega (arith, e))

pub insn_no_nop : (x : Insn) (from to start : ℕ) (text : List ℕ) → Spelt x from to text → (x ≡ Nop → ⊥) → is_nop (record { start = start; text = text }) ≡ false
insn_no_nop x from to start text s never =
    let other : (slice_index text 0 % 256 == 0) ≡ false = ne_eqb (slice_index text 0 % 256) 0 (λ z. never (nop_only x s.f _ (subst (λ op. Form x op s.f _) (sym s.read.opcode ∙ z) s.form))) in
    ap (λ (b : Bool). b && (payload_kind (slice_index text 0) == 0)) other

-- ---- which pieces are instructions

abbrev pub Fills : Piece → Type 0
Fills p = (is_payload p ≡ true) ⊎ (is_nop p ≡ true)

or_true : (a b : Bool) → (a ≡ true) ⊎ (b ≡ true) → (a || b) ≡ true
or_true true b h = refl
or_true false b (inl e) = absurd cc
or_true false b (inr e) = e

fill_only : (ps : List Piece) → AllByRecursion Fills ps → only_fills ps ≡ true
fill_only [] a = refl
fill_only (p ∷ ps) a = or_true (is_payload p) (is_nop p && only_fills ps) (by_fills (fill_only ps a.1) a.0)
  where
    by_fills : only_fills ps ≡ true → Fills p → (is_payload p ≡ true) ⊎ ((is_nop p && only_fills ps) ≡ true)
    by_fills rest (inl e) = inl e
    by_fills rest (inr e) = inr (ap (λ (b : Bool). b && only_fills ps) e ∙ rest)

fills_none : (ps : List Piece) → AllByRecursion Fills ps → instructions ps ≡ []
fills_none [] a = refl
fills_none (p ∷ ps) a = ap (λ (b : Bool). if b then instructions ps else p ∷ instructions ps) (fill_only (p ∷ ps) a) ∙ fills_none ps a.1

-- no payload, and the last one is no nop
abbrev pub Runs : List Piece → Type 0
Runs [] = ⊥
Runs (p ∷ []) = (is_payload p ≡ false) × (is_nop p ≡ false)
Runs (p ∷ q ∷ ps) = (is_payload p ≡ false) × Runs (q ∷ ps)

neither : (a b c : Bool) → a ≡ false → c ≡ false → (a || (b && c)) ≡ false
neither false true c ea ec = ec
neither false false c ea ec = refl
neither true b c ea ec = absurd cc

neither_first : (a b c : Bool) → a ≡ false → b ≡ false → (a || (b && c)) ≡ false
neither_first false false c ea eb = refl
neither_first false true c ea eb = absurd cc
neither_first true b c ea eb = absurd cc

runs_on : (ps rest : List Piece) → Runs ps → only_fills (ps ++ rest) ≡ false
runs_on [] rest r = absurd r
runs_on (p ∷ []) rest r = neither_first (is_payload p) (is_nop p) (only_fills rest) r.0 r.1
runs_on (p ∷ q ∷ ps) rest r = neither (is_payload p) (is_nop p) (only_fills (q ∷ (ps ++ rest))) r.0 (runs_on (q ∷ ps) rest r.1)

pub run_instructions : (ps rest : List Piece) → Runs ps → AllByRecursion Fills rest → instructions (ps ++ rest) ≡ ps
run_instructions [] rest r a = absurd r
run_instructions (p ∷ []) rest r a = ap (λ (b : Bool). if b then instructions rest else p ∷ instructions rest) (runs_on (p ∷ []) rest r) ∙ ap (λ (l : List Piece). p ∷ l) (fills_none rest a)
run_instructions (p ∷ q ∷ ps) rest r a = ap (λ (b : Bool). if b then instructions (q ∷ (ps ++ rest)) else p ∷ instructions (q ∷ (ps ++ rest))) (runs_on (p ∷ q ∷ ps) rest r) ∙ ap (λ (l : List Piece). p ∷ l) (run_instructions (q ∷ ps) rest r.1 a)

-- ---- which begin with a payload

pub payloads_append : (ps qs : List Piece) → payloads (ps ++ qs) ≡ payloads ps ++ payloads qs
payloads_append [] qs = refl
payloads_append (p ∷ ps) qs = by (is_payload p) (payloads_append ps qs)
  where
    by : (b : Bool) → payloads (ps ++ qs) ≡ payloads ps ++ payloads qs → (if b then p ∷ payloads (ps ++ qs) else payloads (ps ++ qs)) ≡ (if b then p ∷ payloads ps else payloads ps) ++ payloads qs
    by true rest = ap (λ (l : List Piece). p ∷ l) rest
    by false rest = rest

-- a payload that stands behind others is one of them
pub among : (ps : List Piece) (p : Piece) (qs : List Piece) → is_payload p ≡ true → list_any (λ u. u == p.start) (starts_of (payloads (ps ++ p ∷ qs))) ≡ true
among [] p qs e = ap (λ (b : Bool). list_any (λ u. u == p.start) (starts_of (if b then p ∷ payloads qs else payloads qs))) e ∙ ap (λ (b : Bool). b || list_any (λ u. u == p.start) (starts_of (payloads qs))) (eq-eqb p.start p.start refl)
among (q ∷ ps) p qs e = by (is_payload q) (among ps p qs e)
  where
    or_last : (a b : Bool) → b ≡ true → (a || b) ≡ true
    or_last true b h = refl
    or_last false b h = h

    by : (b : Bool) → list_any (λ u. u == p.start) (starts_of (payloads (ps ++ p ∷ qs))) ≡ true → list_any (λ u. u == p.start) (starts_of (if b then q ∷ payloads (ps ++ p ∷ qs) else payloads (ps ++ p ∷ qs))) ≡ true
    by true rest = or_last (q.start == p.start) (list_any (λ u. u == p.start) (starts_of (payloads (ps ++ p ∷ qs)))) rest
    by false rest = rest
