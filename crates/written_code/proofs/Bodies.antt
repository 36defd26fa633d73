-- The units of a written body are swept into its instructions and its payloads.
use Rattle.std.proofs.Common.{◌≡◌, ◌<◌, ◌+◌, ◌-◌, ◌%◌, ◌^◌, ◌⊎◌, inl, inr, ℕ, zero, suc, ℤ, pos, ◌-ℤ◌, true, false, List, [], ◌∷◌, ◌++◌, length, map, Some, refl, sym, ap, subst, ◌∙◌, arith, append_assoc, length-append}
use Rattle.std.specs.Prelude.{slice_get, replicate, not, ◌==◌}
use Rattle.std.specs.List.{AllByRecursion, concat, list_any}
use Rattle.std.proofs.lemmas.List.{length-replicate}
use Rattle.std.proofs.lemmas.Option.{get_or_from_slice_get}
use Rattle.lemmas.proofs.Bools.{clash}
use Rattle.insn_set.specs.Flow.{targets_of, goes_on}
use Rattle.insn_set.specs.Formats.{format_units}
use Rattle.insn_set.specs.Spelling.{is_encodable, shortest}
use Rattle.insn_set.specs.declared.form.Insn.{Insn}
use Rattle.insn_set.specs.declared.form.Insn.TheVariants.{Nop, FillArray, Goto, PackedSwitch, SparseSwitch, If, IfZero}
use Rattle.program_model.specs.declared.pass.Renumber.{Renumber}
use Rattle.code_read.specs.Opcodes.{format_at}
use Rattle.relax.specs.Steps.{step_of}
use Rattle.relax.specs.Sizes.{start, need}
use Rattle.relax.specs.Far.{spans_far}
use Rattle.relax.proofs.Starts.{start_mono}
use Rattle.code_write.specs.Code.{insn_units}
use Rattle.dex_defs.specs.Sweep.{Piece, Places, instructions, payloads, starts_of, places_of, IsSwept}
use Rattle.dex_defs.specs.Instructions.{opcode, AreInsns}
use Rattle.dex_defs.specs.CodeTexts.{payload_text, evenly, payloads_text, distance_of, units_of, AreShortest}
use Rattle.dex_defs.specs.Written.{new_insn}
use Rattle.written_code.proofs.Forms.{Spelt, InWidth, NumbersFit, HasRoom, distance}
use Rattle.written_code.proofs.Spelling.{spelt}
use Rattle.written_code.proofs.Sweeping.{text_of, Starts, Sized, Runs, swept, starts_append, all_append, insn_sized, insn_no_payload, insn_no_nop, run_instructions, among}
use Rattle.written_code.proofs.Tables.{Table, packed_table, sparse_table, fill_table, nop_pieces, payload_piece, payload_pieces, HaveTables, PieceFacts, piece_facts, tables_facts, texts_append}
use Rattle.written_code.proofs.Standing.{to_of, to_same, payload_same, encodable_same, targets_same, width_same, HasPut, Begins, insn_is, fill_fits, fit_sparse}
use Rattle.written_code.proofs.Least.{needs, size_at, AllSome, start_less, GoesIn, need_long}

-- ---- the texts of the instructions

abbrev pub next_unit : List ℕ → ℕ → ℕ → Insn → ℕ
next_unit sizes unit at x = unit + length (evenly unit (payload_text sizes (start sizes at) x))

abbrev pub text_at : Renumber → List ℕ → ℕ → ℕ → Insn → List ℕ
text_at r sizes at unit x = insn_units r (start sizes at) (to_of sizes unit (start sizes at) x) x

-- of the instructions from a position on, the payloads of which stand from a unit on
abbrev pub insn_texts : Renumber → List ℕ → ℕ → ℕ → List Insn → List (List ℕ)
insn_texts r sizes at unit [] = []
insn_texts r sizes at unit (x ∷ xs) = text_at r sizes at unit x ∷ insn_texts r sizes (suc at) (next_unit sizes unit at x) xs

abbrev pub insn_pieces : ℕ → List (List ℕ) → List Piece
insn_pieces at [] = []
insn_pieces at (t ∷ ts) = record { start = at; text = t } ∷ insn_pieces (at + length t) ts

pub pieces_text : (at : ℕ) (ts : List (List ℕ)) → text_of (insn_pieces at ts) ≡ concat ts
pieces_text at [] = refl
pieces_text at (t ∷ ts) = ap (λ (l : List ℕ). t ++ l) (pieces_text (at + length t) ts)

pieces_start : (at : ℕ) (ts : List (List ℕ)) → Starts at (insn_pieces at ts)
pieces_start at [] = tt
pieces_start at (t ∷ ts) = (refl, pieces_start (at + length t) ts)

pub piece_texts : (at : ℕ) (ts : List (List ℕ)) → map (λ p. p.text) (insn_pieces at ts) ≡ ts
piece_texts at [] = refl
piece_texts at (t ∷ ts) = ap (λ (l : List (List ℕ)). t ∷ l) (piece_texts (at + length t) ts)

-- ---- what the instructions have to be

abbrev pub NearAt : List ℕ → ℕ → Insn → Type 0
NearAt sizes at (If test a b target) = (spans_far (start sizes at) (start sizes target) ≡ false) × (at ≡ target → ⊥)
NearAt sizes at (IfZero test a target) = (spans_far (start sizes at) (start sizes target) ≡ false) × (at ≡ target → ⊥)
NearAt sizes at insn = Unit {0}

pub record Fine (r : Renumber) (sizes : List ℕ) (at : ℕ) (x : Insn) : Type 0 where
  pub enc : is_encodable x ≡ true
  pub width : InWidth x
  pub numbers : NumbersFit r x
  pub near : NearAt sizes at x
  pub targets : AllByRecursion (λ t. t < length sizes) (targets_of x)

abbrev pub AllFine : Renumber → List ℕ → ℕ → List Insn → Type 0
AllFine r sizes at [] = Unit {0}
AllFine r sizes at (x ∷ xs) = Fine r sizes at x × AllFine r sizes (suc at) xs

starts_differ : (sizes : List ℕ) (a b : ℕ) → AllSome sizes → a < length sizes → b < length sizes → (a ≡ b → ⊥) → start sizes a ≡ start sizes b → ⊥
starts_differ sizes a b some la lb ne e = by (nat_less a b)
  where
    nat_less : (x y : ℕ) → (x < y) ⊎ ((x ≡ y) ⊎ (y < x))
    nat_less zero zero = inr (inl refl)
    nat_less zero (suc y) = inl (omega arith)
    nat_less (suc x) zero = inr (inr (omega arith))
    nat_less (suc x) (suc y) = elim (nat_less x y) [ inl l ↦ inl (omega (arith, l)) | inr s ↦ elim s [ inl e ↦ inr (inl (ap suc e)) | inr g ↦ inr (inr (omega (arith, g))) ] ]

    by : (a < b) ⊎ ((a ≡ b) ⊎ (b < a)) → ⊥
    by (inl l) = let less = start_less sizes a b some l la in omega (arith, less, e)
    by (inr (inl s)) = ne s
    by (inr (inr g)) = let less = start_less sizes b a some g lb in omega (arith, less, e)

room_of : (sizes : List ℕ) (at unit : ℕ) (x : Insn) → AllSome sizes → at < length sizes → AllByRecursion (λ t. t < length sizes) (targets_of x) → NearAt sizes at x → HasRoom x (start sizes at) (to_of sizes unit (start sizes at) x)
room_of sizes at unit (If test a b target) some inside goes near = (near.0, starts_differ sizes at target some inside goes.0 near.1)
room_of sizes at unit (IfZero test a target) some inside goes near = (near.0, starts_differ sizes at target some inside goes.0 near.1)
room_of sizes at unit x some inside goes near = tt

goes_in : (n : ℕ) (x : Insn) → AllByRecursion (λ t. t < n) (targets_of x) → GoesIn n x
goes_in n (Goto target) a = a.0
goes_in n x a = tt

evenly_long : (unit u : ℕ) (us : List ℕ) → unit % 2 < length (evenly unit (u ∷ us))
evenly_long unit u us = omega (arith, length-append (replicate (unit % 2) 0) (u ∷ us), length-replicate {A = ℕ} (unit % 2) 0)

evenly_more : (unit : ℕ) (text : List ℕ) → 0 < length text → unit % 2 < length (evenly unit text)
evenly_more unit [] some = absurd (omega (arith, some))
evenly_more unit (u ∷ us) some = evenly_long unit u us

pub start_low : (sizes : List ℕ) (k : ℕ) → k < length sizes → start sizes (length sizes) < 2 ^ 31 → start sizes k < 2 ^ 31
start_low sizes k lt low = omega (arith, low, start_mono sizes k (length sizes) (omega (arith, lt)))

to_low : (sizes : List ℕ) (at unit : ℕ) (x : Insn) → AllByRecursion (λ t. t < length sizes) (targets_of x) → start sizes (length sizes) < 2 ^ 31 → at < length sizes → next_unit sizes unit at x < 2 ^ 31 → to_of sizes unit (start sizes at) x < 2 ^ 31
to_low sizes at unit (Goto target) a low inside next = start_low sizes target a.0 low
to_low sizes at unit (If test p q target) a low inside next = start_low sizes target a.0 low
to_low sizes at unit (IfZero test p target) a low inside next = start_low sizes target a.0 low
to_low sizes at unit (FillArray on width items) a low inside next = omega (arith, next, evenly_more unit (payload_text sizes (start sizes at) (FillArray on width items)) (omega arith))
to_low sizes at unit (PackedSwitch on first targets) a low inside next = omega (arith, next, evenly_more unit (payload_text sizes (start sizes at) (PackedSwitch on first targets)) (omega arith))
to_low sizes at unit (SparseSwitch on keys targets) a low inside next = omega (arith, next, evenly_more unit (payload_text sizes (start sizes at) (SparseSwitch on keys targets)) (omega arith))
to_low sizes at unit x a low inside next = start_low sizes at inside low

-- ---- all are spelt

pub record SpeltAt (r : Renumber) (sizes : List ℕ) (at unit : ℕ) (x : Insn) : Type 0 where
  pub is : Spelt (new_insn r x) (start sizes at) (to_of sizes unit (start sizes at) x) (text_at r sizes at unit x)
  pub long : start sizes (suc at) ≡ start sizes at + length (text_at r sizes at unit x)
  pub low : start sizes at < 2 ^ 31

abbrev pub AllSpelt : Renumber → List ℕ → ℕ → ℕ → List Insn → Type 0
AllSpelt r sizes at unit [] = Unit {0}
AllSpelt r sizes at unit (x ∷ xs) = SpeltAt r sizes at unit x × AllSpelt r sizes (suc at) (next_unit sizes unit at x) xs

spelt_at : (r : Renumber) (sizes : List ℕ) (at unit : ℕ) (x : Insn) → AllSome sizes → at < length sizes → start sizes (length sizes) < 2 ^ 31 → next_unit sizes unit at x < 2 ^ 31 → Fine r sizes at x → start sizes (suc at) ≡ start sizes at + need sizes at (step_of r x) → SpeltAt r sizes at unit x
spelt_at r sizes at unit x some inside low next f size =
    let to : ℕ = to_of sizes unit (start sizes at) x in
    let s : Spelt (new_insn r x) (start sizes at) to (text_at r sizes at unit x) = spelt r x (start sizes at) to f.enc f.width f.numbers (room_of sizes at unit x some inside f.targets f.near) (start_low sizes at inside low) (to_low sizes at unit x f.targets low inside next) in
    let many : need sizes at (step_of r x) ≡ length (text_at r sizes at unit x) = need_long r sizes at to x some inside (goes_in (length sizes) x f.targets) (λ target e. ap (λ (y : Insn). to_of sizes unit (start sizes at) y) e) f.numbers ∙ (ap format_units (sym s.least) ∙ sym s.read.long) in
    record { is = s; long = size ∙ ap (λ (n : ℕ). start sizes at + n) many; low = start_low sizes at inside low }

pub all_spelt : (r : Renumber) (sizes front : List ℕ) (at unit : ℕ) (xs : List Insn) → sizes ≡ front ++ needs sizes at (map (step_of r) xs) → length front ≡ at → AllSome sizes → start sizes (length sizes) < 2 ^ 31 → AllFine r sizes at xs
    → unit + length (payloads_text sizes unit at xs) < 2 ^ 31 → AllSpelt r sizes at unit xs
all_spelt r sizes front at unit [] is long some low fine room = tt
all_spelt r sizes front at unit (x ∷ xs) is long some low fine room =
    let n : ℕ = need sizes at (step_of r x) in
    let rest : List ℕ = needs sizes (suc at) (map (step_of r) xs) in
    let all : length sizes ≡ length front + suc (length rest) = ap (λ (l : List ℕ). length l) is ∙ length-append front (n ∷ rest) in
    let text : List ℕ = evenly unit (payload_text sizes (start sizes at) x) in
    let next : ℕ = next_unit sizes unit at x in
    let both : length (payloads_text sizes unit at (x ∷ xs)) ≡ length text + length (payloads_text sizes next (suc at) xs) = length-append text (payloads_text sizes next (suc at) xs) in (
      spelt_at r sizes at unit x some (omega (arith, all, long)) low (omega (arith, room, both)) fine.0 (size_at sizes front at (step_of r x) (map (step_of r) xs) is long),
      all_spelt r sizes (front ++ n ∷ []) (suc at) next xs (is ∙ sym (append_assoc front (n ∷ []) rest)) (length-append front (n ∷ []) ∙ omega (arith, long)) some low fine.1 (omega (arith, room, both)),
    )

-- where the pieces of the instructions begin
pub starts_at : (r : Renumber) (sizes : List ℕ) (at unit : ℕ) (xs : List Insn) → AllSpelt r sizes at unit xs → (j : ℕ) → j < length xs → slice_get (starts_of (insn_pieces (start sizes at) (insn_texts r sizes at unit xs))) j ≡ Some (start sizes (at + j))
starts_at r sizes at unit [] a j lt = absurd (omega (arith, lt))
starts_at r sizes at unit (x ∷ xs) a zero lt = ap (λ (k : ℕ). Some (start sizes k)) (let e : at ≡ at + 0 = omega arith in e)
starts_at r sizes at unit (x ∷ xs) a (suc j) lt =
    let on : start sizes at + length (text_at r sizes at unit x) ≡ start sizes (suc at) = sym a.0.long in
    let next : ℕ = next_unit sizes unit at x in
    let same : suc at + j ≡ at + suc j = omega arith in
    ap (λ (k : ℕ). slice_get (starts_of (insn_pieces k (insn_texts r sizes (suc at) next xs))) j) on ∙ (starts_at r sizes (suc at) next xs a.1 j (omega (arith, lt)) ∙ ap (λ (k : ℕ). Some (start sizes k)) same)

pub texts_long : (r : Renumber) (sizes : List ℕ) (at unit : ℕ) (xs : List Insn) → AllSpelt r sizes at unit xs → start sizes at + length (concat (insn_texts r sizes at unit xs)) ≡ start sizes (at + length xs)
texts_long r sizes at unit [] a = let e : at + 0 ≡ at = omega arith in let z : start sizes at + 0 ≡ start sizes at = omega arith in z ∙ ap (λ (k : ℕ). start sizes k) (sym e)
texts_long r sizes at unit (x ∷ xs) a =
    let next : ℕ = next_unit sizes unit at x in
    let rest : List ℕ = concat (insn_texts r sizes (suc at) next xs) in
    let same : suc at + length xs ≡ at + suc (length xs) = omega arith in
    let more : start sizes (suc at) + length rest ≡ start sizes (suc at + length xs) = texts_long r sizes (suc at) next xs a.1 in
    omega (arith, length-append (text_at r sizes at unit x) rest, a.0.long, more) ∙ ap (λ (k : ℕ). start sizes k) same

-- ---- each is one piece

pieces_sized : (r : Renumber) (sizes : List ℕ) (at unit start_at : ℕ) (xs : List Insn) → AllSpelt r sizes at unit xs → AllByRecursion Sized (insn_pieces start_at (insn_texts r sizes at unit xs))
pieces_sized r sizes at unit start_at [] a = tt
pieces_sized r sizes at unit start_at (x ∷ xs) a = (
  insn_sized (new_insn r x) (start sizes at) (to_of sizes unit (start sizes at) x) start_at (text_at r sizes at unit x) a.0.is,
  pieces_sized r sizes (suc at) (next_unit sizes unit at x) (start_at + length (text_at r sizes at unit x)) xs a.1,
)

-- the last instruction does not go on
abbrev pub LastStops : List Insn → Type 0
LastStops [] = ⊥
LastStops (x ∷ []) = goes_on x ≡ false
LastStops (x ∷ y ∷ xs) = LastStops (y ∷ xs)

goes_same : (r : Renumber) (x : Insn) → goes_on (new_insn r x) ≡ goes_on x
goes_same r Nop = refl
goes_same r x = refl

no_nop : (r : Renumber) (x : Insn) → goes_on x ≡ false → new_insn r x ≡ Nop → ⊥
no_nop r x e same = clash (goes_on x) (sym (goes_same r x) ∙ ap goes_on same) e

pieces_run : (r : Renumber) (sizes : List ℕ) (at unit start_at : ℕ) (xs : List Insn) → AllSpelt r sizes at unit xs → LastStops xs → Runs (insn_pieces start_at (insn_texts r sizes at unit xs))
pieces_run r sizes at unit start_at [] a l = absurd l
pieces_run r sizes at unit start_at (x ∷ []) a l = (
  insn_no_payload (new_insn r x) (start sizes at) (to_of sizes unit (start sizes at) x) start_at (text_at r sizes at unit x) a.0.is,
  insn_no_nop (new_insn r x) (start sizes at) (to_of sizes unit (start sizes at) x) start_at (text_at r sizes at unit x) a.0.is (no_nop r x l),
)
pieces_run r sizes at unit start_at (x ∷ y ∷ xs) a l = (
  insn_no_payload (new_insn r x) (start sizes at) (to_of sizes unit (start sizes at) x) start_at (text_at r sizes at unit x) a.0.is,
  pieces_run r sizes (suc at) (next_unit sizes unit at x) (start_at + length (text_at r sizes at unit x)) (y ∷ xs) a.1 l,
)

-- ---- payloads

table_or_none : (sizes : List ℕ) (from : ℕ) (x : Insn) → is_encodable x ≡ true → InWidth x → (payload_text sizes from x ≡ []) ⊎ Table (payload_text sizes from x)
table_or_none sizes from (FillArray on width items) enc w = inr (fill_table sizes from on width items (fill_fits on width items enc w))
table_or_none sizes from (PackedSwitch on first targets) enc w = inr (packed_table sizes from on first targets)
table_or_none sizes from (SparseSwitch on keys targets) enc w = inr (sparse_table sizes from on keys targets (fit_sparse on keys targets enc).same)
table_or_none sizes from x enc w = inl refl

pub have_tables : (r : Renumber) (sizes : List ℕ) (at : ℕ) (xs : List Insn) → AllFine r sizes at xs → HaveTables sizes at xs
have_tables r sizes at [] f = tt
have_tables r sizes at (x ∷ xs) f = (table_or_none sizes (start sizes at) x f.0.enc f.0.width, have_tables r sizes (suc at) xs f.1)

abbrev pub AllPut : Places → List ℕ → ℕ → ℕ → List Insn → Type 0
AllPut places sizes at unit [] = Unit {0}
AllPut places sizes at unit (x ∷ xs) = HasPut places (unit + unit % 2) (payload_text sizes (start sizes at) x) × AllPut places sizes (suc at) (next_unit sizes unit at x) xs

one_put : (places : Places) (unit : ℕ) (done more : List Piece) (text : List ℕ) → places.units ≡ text_of (done ++ (payload_piece unit text ++ more)) → places.payloads ≡ starts_of (payloads (done ++ (payload_piece unit text ++ more))) → length (text_of done) ≡ unit → (text ≡ []) ⊎ Table text
    → HasPut places (unit + unit % 2) text
one_put places unit done more [] is ps long t = tt
one_put places unit done more (u ∷ us) is ps long (inl e) = absurd cc
one_put places unit done more (u ∷ us) is ps long (inr t) =
    let nops : List Piece = nop_pieces (unit % 2) unit in
    let piece : Piece = record { start = unit + unit % 2; text = u ∷ us } in
    let split : done ++ ((nops ++ (piece ∷ [])) ++ more) ≡ (done ++ nops) ++ (piece ∷ more) = ap (λ (l : List Piece). done ++ l) (append_assoc nops (piece ∷ []) more) ∙ sym (append_assoc done nops (piece ∷ more)) in
    let front : List ℕ = text_of (done ++ nops) in
    let even : (unit + unit % 2) % 2 ≡ 0 = omega arith in
    record {
      front = front;
      rest = text_of more;
      is = is ∙ (ap (λ (l : List Piece). text_of l) split ∙ texts_append (done ++ nops) (piece ∷ more));
      long = ap (λ (l : List ℕ). length l) (texts_append done nops) ∙ (length-append (text_of done) (text_of nops) ∙ omega (arith, long, nops_long (unit % 2) unit (let lt : unit % 2 < 2 = omega arith in lt)));
      even = even;
      begins = ap (λ (l : List ℕ). list_any (λ u. u == piece.start) l) ps ∙ (ap (λ (l : List Piece). list_any (λ u. u == piece.start) (starts_of (payloads l))) split ∙ among (done ++ nops) piece more (t.payload (unit + unit % 2)));
    }
  where
    nops_long : (m at : ℕ) → m < 2 → length (text_of (nop_pieces m at)) ≡ m
    nops_long zero at lt = refl
    nops_long (suc zero) at lt = refl
    nops_long (suc (suc m)) at lt = absurd (omega (arith, lt))

pub all_put : (places : Places) (sizes : List ℕ) (at unit : ℕ) (xs : List Insn) (done : List Piece) → places.units ≡ text_of (done ++ payload_pieces sizes unit at xs) → places.payloads ≡ starts_of (payloads (done ++ payload_pieces sizes unit at xs)) → length (text_of done) ≡ unit
    → HaveTables sizes at xs → AllPut places sizes at unit xs
all_put places sizes at unit [] done is ps long h = tt
all_put places sizes at unit (x ∷ xs) done is ps long h =
    let text : List ℕ = payload_text sizes (start sizes at) x in
    let next : ℕ = next_unit sizes unit at x in
    let more : List Piece = payload_pieces sizes next (suc at) xs in
    let assoc : done ++ (payload_piece unit text ++ more) ≡ (done ++ payload_piece unit text) ++ more = sym (append_assoc done (payload_piece unit text) more) in
    let one : PieceFacts (evenly unit text) unit (payload_piece unit text) = piece_facts unit text h.0 in (
      one_put places unit done more text is ps long h.0,
      all_put places sizes (suc at) next xs (done ++ payload_piece unit text) (is ∙ ap (λ (l : List Piece). text_of l) assoc) (ps ∙ ap (λ (l : List Piece). starts_of (payloads l)) assoc)
          (ap (λ (l : List ℕ). length l) (texts_append done (payload_piece unit text)) ∙ (length-append (text_of done) (text_of (payload_piece unit text)) ∙ omega (arith, long, ap (λ (l : List ℕ). length l) one.texts))) h.1,
    )

-- ---- the instructions stand there

begin_all : (places : Places) (sizes ts : List ℕ) → ((j : ℕ) → j < length sizes → slice_get places.starts j ≡ Some (start sizes j)) → start sizes (length sizes) < 2 ^ 31 → AllByRecursion (λ t. t < length sizes) ts → AllByRecursion (Begins places sizes) ts
begin_all places sizes [] at low a = tt
begin_all places sizes (t ∷ ts) at low a = ((start_low sizes t a.0 low, at t a.0), begin_all places sizes ts at low a.1)

pub all_stand : (r : Renumber) (places : Places) (sizes : List ℕ) (at unit : ℕ) (xs : List Insn) → ((j : ℕ) → j < length sizes → slice_get places.starts j ≡ Some (start sizes j)) → start sizes (length sizes) < 2 ^ 31 → AllFine r sizes at xs → AllSpelt r sizes at unit xs
    → AllPut places sizes at unit xs → AreInsns places (insn_pieces (start sizes at) (insn_texts r sizes at unit xs)) (map (new_insn r) xs)
all_stand r places sizes at unit [] starts low f a p = tt
all_stand r places sizes at unit (x ∷ xs) starts low f a p =
    let from : ℕ = start sizes at in
    let text : List ℕ = text_at r sizes at unit x in
    let next : ℕ = next_unit sizes unit at x in (
      insn_is places sizes from (to_of sizes unit from x) text (new_insn r x) a.0.is (encodable_same r x ∙ f.0.enc) (width_same r x f.0.width) a.0.low (subst (λ ts. AllByRecursion (Begins places sizes) ts) (sym (targets_same r x)) (begin_all places sizes (targets_of x) starts low f.0.targets)) unit (sym (to_same r sizes unit from x))
          (subst (λ l. HasPut places (unit + unit % 2) l) (sym (payload_same r sizes from x)) p.0),
      subst (λ k. AreInsns places (insn_pieces k (insn_texts r sizes (suc at) next xs)) (map (new_insn r) xs)) a.0.long (all_stand r places sizes (suc at) next xs starts low f.1 a.1 p.1),
    )

-- ---- in their shortest spelling

distance_same : (places : Places) (sizes : List ℕ) (unit from to : ℕ) (y : Insn) → to ≡ to_of sizes unit from y → AllByRecursion (Begins places sizes) (targets_of y) → distance y from to ≡ distance_of places from y
distance_same places sizes unit from to (Goto t) goes b = ap (λ (k : ℕ). pos k -ℤ pos from) (goes ∙ sym (get_or_from_slice_get places.starts t (start sizes t) 0 b.0.1))
distance_same places sizes unit from to y goes b = refl

pub all_shortest : (r : Renumber) (places : Places) (sizes : List ℕ) (at unit : ℕ) (xs : List Insn) → ((j : ℕ) → j < length sizes → slice_get places.starts j ≡ Some (start sizes j)) → start sizes (length sizes) < 2 ^ 31 → AllFine r sizes at xs → AllSpelt r sizes at unit xs
    → AreShortest places (insn_pieces (start sizes at) (insn_texts r sizes at unit xs)) (map (new_insn r) xs)
all_shortest r places sizes at unit [] starts low f a = tt
all_shortest r places sizes at unit (x ∷ xs) starts low f a =
    let from : ℕ = start sizes at in
    let to : ℕ = to_of sizes unit from x in
    let next : ℕ = next_unit sizes unit at x in
    let y : Insn = new_insn r x in
    let s : Spelt y from to (text_at r sizes at unit x) = a.0.is in
    let begins : AllByRecursion (Begins places sizes) (targets_of y) = subst (λ ts. AllByRecursion (Begins places sizes) ts) (sym (targets_same r x)) (begin_all places sizes (targets_of x) starts low f.0.targets) in (
      record {
        format = s.format;
        is_shortest = s.least ∙ ap (λ (d : ℤ). shortest y d) (distance_same places sizes unit from to y (sym (to_same r sizes unit from x)) begins);
        row = ap format_at s.read.opcode ∙ s.row;
        fields = s.f;
        units = s.read.again ∙ ap (λ (op : ℕ). units_of s.format op s.f) (sym s.read.opcode);
      },
      subst (λ k. AreShortest places (insn_pieces k (insn_texts r sizes (suc at) next xs)) (map (new_insn r) xs)) a.0.long (all_shortest r places sizes (suc at) next xs starts low f.1 a.1),
    )

-- ---- the whole

pub payloads_same : (r : Renumber) (sizes : List ℕ) (unit at : ℕ) (xs : List Insn) → payloads_text sizes unit at (map (new_insn r) xs) ≡ payloads_text sizes unit at xs
payloads_same r sizes unit at [] = refl
payloads_same r sizes unit at (x ∷ xs) =
    ap (λ (t : List ℕ). evenly unit t ++ payloads_text sizes (unit + length (evenly unit t)) (suc at) (map (new_insn r) xs)) (payload_same r sizes (start sizes at) x)
    ∙ ap (λ (l : List ℕ). evenly unit (payload_text sizes (start sizes at) x) ++ l) (payloads_same r sizes (next_unit sizes unit at x) (suc at) xs)

-- the units are swept into the instructions and the payloads, and the instructions are those of the body
pub record Swept (r : Renumber) (sizes : List ℕ) (xs : List Insn) (units : List ℕ) : Type 0 where
  pub pieces : List Piece
  pub swept : IsSwept units pieces
  pub insns_are : instructions pieces ≡ insn_pieces 0 (insn_texts r sizes 0 (start sizes (length sizes)) xs)
  pub insns : AreInsns (places_of units pieces) (instructions pieces) (map (new_insn r) xs)
  pub shortest : AreShortest (places_of units pieces) (instructions pieces) (map (new_insn r) xs)
  pub starts : (j : ℕ) → j < length sizes → slice_get (places_of units pieces).starts j ≡ Some (start sizes j)
  pub starts_long : length (places_of units pieces).starts ≡ length sizes

many_texts : (r : Renumber) (sizes : List ℕ) (at unit : ℕ) (xs : List Insn) → length (insn_texts r sizes at unit xs) ≡ length xs
many_texts r sizes at unit [] = refl
many_texts r sizes at unit (x ∷ xs) = ap suc (many_texts r sizes (suc at) (next_unit sizes unit at x) xs)

many_starts : (at : ℕ) (ts : List (List ℕ)) → length (starts_of (insn_pieces at ts)) ≡ length ts
many_starts at [] = refl
many_starts at (t ∷ ts) = ap suc (many_starts (at + length t) ts)

pub body_swept : (r : Renumber) (sizes : List ℕ) (xs : List Insn) → sizes ≡ needs sizes 0 (map (step_of r) xs) → length sizes ≡ length xs → AllSome sizes → AllFine r sizes 0 xs → LastStops xs
    → start sizes (length sizes) + length (payloads_text sizes (start sizes (length sizes)) 0 xs) < 2 ^ 31
    → Swept r sizes xs (concat (insn_texts r sizes 0 (start sizes (length sizes)) xs) ++ payloads_text sizes (start sizes (length sizes)) 0 xs)
body_swept r sizes xs is long some fine last room =
    let end : ℕ = start sizes (length sizes) in
    let low : end < 2 ^ 31 = omega (arith, room) in
    let texts : List (List ℕ) = insn_texts r sizes 0 end xs in
    let spelled : AllSpelt r sizes 0 end xs = all_spelt r sizes [] 0 end xs is refl some low fine room in
    let ps : List Piece = insn_pieces 0 texts in
    let qs : List Piece = payload_pieces sizes end 0 xs in
    let facts : PieceFacts (payloads_text sizes end 0 xs) end qs = tables_facts sizes end 0 xs (have_tables r sizes 0 xs fine) in
    let units : List ℕ = concat texts ++ payloads_text sizes end 0 xs in
    let all : text_of (ps ++ qs) ≡ units = texts_append ps qs ∙ (ap (λ (l : List ℕ). l ++ text_of qs) (pieces_text 0 texts) ∙ ap (λ (l : List ℕ). concat texts ++ l) facts.texts) in
    let zero_on : start sizes (0 + length xs) ≡ start sizes (length xs) = ap (λ (k : ℕ). start sizes k) (let e : 0 + length xs ≡ length xs = omega arith in e) in
    let many : length (concat texts) ≡ end = omega (arith, texts_long r sizes 0 end xs spelled, zero_on) ∙ ap (λ (k : ℕ). start sizes k) (sym long) in
    let ends : length (text_of ps) ≡ end = ap (λ (l : List ℕ). length l) (pieces_text 0 texts) ∙ many in
    let sized : AllByRecursion Sized (ps ++ qs) = all_append Sized ps qs (pieces_sized r sizes 0 end 0 xs spelled) facts.sized in
    let begins : Starts 0 (ps ++ qs) = starts_append 0 ps qs (pieces_start 0 texts) (subst (λ n. Starts n qs) (let e : end ≡ 0 + length (text_of ps) = omega (arith, ends) in e) facts.starts) in
    let are : instructions (ps ++ qs) ≡ ps = run_instructions ps qs (pieces_run r sizes 0 end 0 xs spelled last) facts.fills in
    let places : Places = places_of units (ps ++ qs) in
    let starts_are : places.starts ≡ starts_of ps = ap (λ (l : List Piece). starts_of l) are in
    let starts : (j : ℕ) → j < length sizes → slice_get places.starts j ≡ Some (start sizes j) = λ j lt. ap (λ (l : List ℕ). slice_get l j) starts_are ∙ (starts_at r sizes 0 end xs spelled j (omega (arith, lt, long)) ∙ ap (λ (k : ℕ). Some (start sizes k)) (let e : 0 + j ≡ j = omega arith in e)) in
    let put : AllPut places sizes 0 end xs = all_put places sizes 0 end xs ps (sym all) refl ends (have_tables r sizes 0 xs fine) in
    record {
      pieces = ps ++ qs;
      swept = subst (λ us. IsSwept us (ps ++ qs)) all (swept (ps ++ qs) begins sized);
      insns_are = are;
      insns = subst (λ l. AreInsns places l (map (new_insn r) xs)) (sym are) (all_stand r places sizes 0 end xs starts low fine spelled put);
      shortest = subst (λ l. AreShortest places l (map (new_insn r) xs)) (sym are) (all_shortest r places sizes 0 end xs starts low fine spelled);
      starts = starts;
      starts_long = ap (λ (l : List ℕ). length l) starts_are ∙ (many_starts 0 texts ∙ (many_texts r sizes 0 end xs ∙ sym long));
    }
