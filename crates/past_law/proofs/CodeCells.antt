-- The cells of a body stand in its code, and also where its tables alone pass the limit.
use Rattle.std.proofs.Common.{◌≡◌, ◌≤◌, ◌<◌, ◌⊎◌, inl, inr, ℕ, suc, ◌+◌, ◌-◌, ◌*◌, Bool, true, false, cond, ltb, eqb, List, [], ◌∷◌, length, map, drop, Some, Ok, Err, refl, sym, ap, subst, ◌∙◌, arith}
use Rattle.std.specs.Prelude.{slice_get, slice_index, sum_by, ◌==◌}
use Rattle.std.specs.List.{AllByRecursion}
use Rattle.std.proofs.lemmas.Bool.{eqb-true, ltb-true, ltb-false}
use Rattle.std.proofs.lemmas.List.{drop-drop}
use Rattle.std.proofs.lemmas.List.Sums.{sum_by-cons}
use Rattle.lemmas.proofs.Bools.{and_left}
use Rattle.dex_base.specs.Decides.{Each}
use Rattle.insn_set.specs.Spelling.{is_width, keys_ascend}
use Rattle.insn_set.specs.declared.form.Insn.{Insn}
use Rattle.program_model.specs.Cells.{entries_of, body_cells}
use Rattle.program_model.specs.declared.body.Body.{Body}
use Rattle.program_model.specs.declared.limits.Counted.TheVariants.{Cells}
use Rattle.program_model.specs.declared.limits.LimitFault.{LimitFault}
use Rattle.code_read.specs.declared.fields.Fields.{Fields}
use Rattle.code_read.specs.Branches as c
use Rattle.code_read.specs.Decoded.{fields_at, payload_of, entries_at, check_payloads}
use Rattle.code_read.specs.Decoded as reading
use Rattle.code_read.specs.Fault.{passed}
use Rattle.code_read.specs.Forms.{plain, move_form, const_form, wide_form, object_form, array_form, field_form, operation_form}
use Rattle.code_read.specs.Opcodes.{from_to}
use Rattle.code_read.specs.Payloads.{has_payload, is_right, size_of, keys_in}
use Rattle.dex_defs.specs.Sweep.{Piece, Places, instructions, starts_of, places_of}
use Rattle.dex_defs.specs.Instructions.{opcode, HasFields, double_at, IsPayloadOf, IsInsn, AreInsns}
use Rattle.dex_defs.specs.Instructions as of
use Rattle.dex_defs.specs.CodeItems.{Frame}
use Rattle.dex_defs.specs.CodeFaults.{kind_for}
use Rattle.dex_defs.specs.Limits.{IsMethodCode, HasEntries, IsCell}
use Rattle.dex_defs.specs.Limits as limits
use Rattle.file_laws.specs.Founds.{Founds}
use Rattle.file_laws.proofs.Founding.{weaker, done, when, either}
use Rattle.file_laws.proofs.Payloads.{Found, found_payload, at_drop, is_payload}
use Rattle.file_laws.proofs.Sweeping.{Instructed}
use Rattle.refused_law.proofs.Failing.{Fails, sound, fails_with, fails_either, fails_next, fails_more}
use Rattle.refused_code.proofs.Reading.{IsTable, is_table, fails_entries_at}
use Rattle.past_law.specs.Told.{Told, one_past}
use Rattle.past_law.proofs.Told.{none as nothing}
use Rattle.past_law.proofs.CodeReads.{OnLimit, limit_more}
use Rattle.past_law.proofs.CodeTold.{WithKey, total, renamed, join, piled, rows, lined}

-- ---- instructions without a table

two : (b : Bool) (x y : Insn) → entries_of x ≡ 0 → entries_of y ≡ 0 → entries_of (cond b x y) ≡ 0
two true x y p q = p
two false x y p q = q

move_none : (op : ℕ) (f : Fields) → entries_of (move_form op f) ≡ 0
move_none op f = two (eqb op 0x00) _ _ refl (two (from_to op 0x01 0x09) _ _ refl (two (from_to op 0x0a 0x0c) _ _ refl (two (eqb op 0x0d) _ _ refl (two (eqb op 0x0e) _ _ refl refl))))

const_none : (op : ℕ) (f : Fields) → entries_of (const_form op f) ≡ 0
const_none op f = two (eqb op 0x12) _ _ refl (two (eqb op 0x13) _ _ refl (two (eqb op 0x14) _ _ refl refl))

wide_none : (op : ℕ) (f : Fields) → entries_of (wide_form op f) ≡ 0
wide_none op f = two (eqb op 0x16) _ _ refl (two (eqb op 0x17) _ _ refl (two (eqb op 0x18) _ _ refl refl))

object_none : (op : ℕ) (f : Fields) → entries_of (object_form op f) ≡ 0
object_none op f = two (eqb op 0x1a) _ _ refl (two (eqb op 0x1b) _ _ refl (two (eqb op 0x1c) _ _ refl (two (eqb op 0x1d) _ _ refl (two (eqb op 0x1e) _ _ refl (two (eqb op 0x1f) _ _ refl (two (eqb op 0x20) _ _ refl (two (eqb op 0x21) _ _ refl (two (eqb op 0x22) _ _ refl (two (eqb op 0x23) _ _ refl refl)))))))))

array_none : (op : ℕ) (f : Fields) → entries_of (array_form op f) ≡ 0
array_none op f = two (from_to op 0x2d 0x31) _ _ refl (two (from_to op 0x44 0x4a) _ _ refl refl)

field_none : (op : ℕ) (f : Fields) → entries_of (field_form op f) ≡ 0
field_none op f = two (from_to op 0x52 0x58) _ _ refl (two (from_to op 0x59 0x5f) _ _ refl (two (from_to op 0x60 0x66) _ _ refl refl))

operation_none : (op : ℕ) (f : Fields) → entries_of (operation_form op f) ≡ 0
operation_none op f = two (from_to op 0x7b 0x8f) _ _ refl (two (from_to op 0x90 0xaf) _ _ refl (two (from_to op 0xb0 0xcf) _ _ refl (two (from_to op 0xd0 0xd7) _ _ refl refl)))

plain_none : (op : ℕ) (f : Fields) → entries_of (plain op f) ≡ 0
unfolding plain
plain_none op f = two (ltb op 0x12) _ _ (move_none op f) (two (ltb op 0x16) _ _ (const_none op f) (two (ltb op 0x1a) _ _ (wide_none op f) (two (ltb op 0x28) _ _ (object_none op f)
    (two (ltb op 0x52) _ _ (array_none op f) (two (ltb op 0x6e) _ _ (field_none op f) (operation_none op f))))))

call_none : (op : ℕ) (f : Fields) → entries_of (c.call_form op f) ≡ 0
call_none op f = two (from_to op 0x24 0x25) _ _ refl (two (c.is_range op) _ _ refl refl)

branch_none : (op : ℕ) (f : Fields) (target : ℕ) → entries_of (c.branch_form op f target) ≡ 0
branch_none op f target = two (from_to op 0x28 0x2a) _ _ refl (two (from_to op 0x32 0x37) _ _ refl refl)

-- ---- the entries of tables

-- a position has no table, or one with so many entries
abbrev pub MayHave : List ℕ → List Piece → ℕ → ℕ → Type 0
MayHave units pieces position count = (count ≡ 0) ⊎ HasEntries units pieces position count

abbrev SizeIs : List ℕ → ℕ → ℕ → ℕ → Type 0
SizeIs units unit op count = count ≡ elim (op == 0x26) [ true ↦ double_at units (unit + 2) | false ↦ slice_index units (unit + 1) ]

module _ (units : List ℕ) (pieces : List Piece) where
  abbrev here : Places
  here = places_of units pieces

  table_there : (k : ℕ) (p : Piece) (f : Fields) (op kind unit count : ℕ) → slice_get (instructions pieces) k ≡ Some p → HasFields p f → opcode p ≡ op → has_payload op ≡ true → kind ≡ kind_for op → IsPayloadOf here p.start f kind unit → SizeIs units unit op count
      → HasEntries units pieces k count
  table_there k p f op kind unit count there has is names same payload size = record {
    p = p;
    f = f;
    is = record { is = there; fields = has };
    names = subst (λ (n : ℕ). has_payload n ≡ true) (sym is) names;
    unit = unit;
    payload = subst (λ (n : ℕ). IsPayloadOf here p.start f n unit) (same ∙ ap kind_for (sym is)) payload;
    size = subst (λ (n : ℕ). SizeIs units unit n count) (sym is) size;
  }

  -- ---- of instructions that were read

  entries_there : (k : ℕ) (p : Piece) (insn : Insn) → slice_get (instructions pieces) k ≡ Some p → IsInsn here p insn → MayHave units pieces k (entries_of insn)
  entries_there k p insn there (of.Plain f has none is) = inl (ap entries_of is ∙ plain_none (opcode p) f)
  entries_there k p insn there (of.Branch f has op is) = inl (ap entries_of is.is ∙ branch_none (opcode p) f is.target)
  entries_there k p insn there (of.Call f has op few is) = inl (ap entries_of is ∙ call_none (opcode p) f)
  entries_there k p insn there (of.Fill f has op is) = inr (table_there k p f 0x26 3 is.unit (entries_of insn) there has op refl refl is.payload (ap entries_of is.is ∙ sym is.size))
  entries_there k p insn there (of.Packed f has op is) = inr (table_there k p f 0x2b 1 is.unit (entries_of insn) there has op refl refl is.payload (ap entries_of is.is ∙ sym is.size))
  entries_there k p insn there (of.Sparse f has op is) = inr (table_there k p f 0x2c 2 is.unit (entries_of insn) there has op refl refl is.payload (ap entries_of is.is ∙ sym is.size))

  -- a part of the instructions, the first of which has this position
  abbrev pub From : ℕ → List Piece → Type 0
  From from ps = (i : ℕ) (p : Piece) → slice_get ps i ≡ Some p → slice_get (instructions pieces) (from + i) ≡ Some p

  from_next : (from : ℕ) (p : Piece) (ps : List Piece) → From from (p ∷ ps) → From (suc from) ps
  from_next from p ps there i q h = let on : from + suc i ≡ suc from + i = omega arith in subst (λ (n : ℕ). slice_get (instructions pieces) n ≡ Some q) on (there (suc i) q h)

  from_here : (from : ℕ) (p : Piece) (ps : List Piece) → From from (p ∷ ps) → slice_get (instructions pieces) from ≡ Some p
  from_here from p ps there = let on : from + 0 ≡ from = omega arith in subst (λ (n : ℕ). slice_get (instructions pieces) n ≡ Some p) on (there 0 p refl)

  pub all_from : From 0 (instructions pieces)
  all_from i p h = let on : i ≡ 0 + i = omega arith in subst (λ (n : ℕ). slice_get (instructions pieces) n ≡ Some p) on h

  all_entries : (from : ℕ) (ps : List Piece) (insns : List Insn) → From from ps → AreInsns here ps insns → Each (MayHave units pieces) from (map entries_of insns)
  all_entries from [] [] there h = tt
  all_entries from [] (insn ∷ insns) there h = absurd h
  all_entries from (p ∷ ps) [] there h = absurd h
  all_entries from (p ∷ ps) (insn ∷ insns) there h = (entries_there from p insn (from_here from p ps there) h.0, all_entries (suc from) ps insns (from_next from p ps there) h.1)

  -- ---- of payloads that are checked

  -- what is said of a payload that an instruction names
  abbrev Says : ℕ → List ℕ → ℕ → Type 0
  Says op payload count = (count ≡ 0) ⊎ ((has_payload op ≡ true) × (is_right op payload ≡ true) × (count ≡ size_of op payload))

  founds_says : (start op : ℕ) (f : Fields) → Founds (Says op (payload_of here start f)) (reading.entries_of here start op f)
  founds_says start op f = either
      (λ has. weaker (cond (is_right op (payload_of here start f)) (Ok (size_of op (payload_of here start f))) (Err _)) (when _ (done (size_of op (payload_of here start f)))) (λ y q. inr (has, q.0, q.1)))
      (λ none. weaker (Ok 0) (done 0) (λ y q. inl q))

  index_there : (start : ℕ) (f : Fields) (h : Found here start f (payload_of here start f)) (i : ℕ) → slice_index (payload_of here start f) i ≡ slice_index units (h.unit + i)
  index_there start f h i = ap (λ (us : List ℕ). slice_index us i) h.units ∙ at_drop units h.unit i

  double_there : (start : ℕ) (f : Fields) (h : Found here start f (payload_of here start f)) → slice_index (drop 2 (payload_of here start f)) 0 + 65536 * slice_index (drop 2 (payload_of here start f)) 1 ≡ double_at units (h.unit + 2)
  double_there start f h =
      let behind : drop 2 (payload_of here start f) ≡ drop (h.unit + 2) units = ap (λ (us : List ℕ). drop 2 us) h.units ∙ drop-drop 2 h.unit units in
      let on : h.unit + 2 + 0 ≡ h.unit + 2 = omega arith in
      ap (λ (us : List ℕ). slice_index us 0 + 65536 * slice_index us 1) behind
      ∙ ap (λ (n : ℕ). n + 65536 * slice_index (drop (h.unit + 2) units) 1) (at_drop units (h.unit + 2) 0 ∙ ap (λ (i : ℕ). slice_index units i) on)
      ∙ ap (λ (n : ℕ). slice_index units (h.unit + 2) + 65536 * n) (at_drop units (h.unit + 2) 1)

  module _ (k : ℕ) (p : Piece) (there : slice_get (instructions pieces) k ≡ Some p) (f : Fields) (has : HasFields p f) (count : ℕ) where
    abbrev payload : List ℕ
    payload = payload_of here p.start f

    of_fill : opcode p ≡ 0x26 → is_right 0x26 payload ≡ true → count ≡ size_of 0x26 payload → HasEntries units pieces k count
    of_fill op right size =
        let kind : slice_index payload 0 ≡ 768 = eqb-true (slice_index payload 0) 768 (and_left (eqb (slice_index payload 0) 768) (is_width (slice_index payload 1)) right) in
        let h = found_payload here p.start f 768 kind (omega arith) in
        table_there k p f 0x26 3 h.unit count there has op refl refl (is_payload here p.start 3 f payload h kind) (size ∙ double_there p.start f h)

    of_packed : opcode p ≡ 0x2b → is_right 0x2b payload ≡ true → count ≡ size_of 0x2b payload → HasEntries units pieces k count
    of_packed op right size =
        let kind : slice_index payload 0 ≡ 256 = eqb-true (slice_index payload 0) 256 right in
        let h = found_payload here p.start f 256 kind (omega arith) in
        table_there k p f 0x2b 1 h.unit count there has op refl refl (is_payload here p.start 1 f payload h kind) (size ∙ index_there p.start f h 1)

    of_sparse : opcode p ≡ 0x2c → is_right 0x2c payload ≡ true → count ≡ size_of 0x2c payload → HasEntries units pieces k count
    of_sparse op right size =
        let kind : slice_index payload 0 ≡ 512 = eqb-true (slice_index payload 0) 512 (and_left (eqb (slice_index payload 0) 512) (keys_ascend (keys_in (slice_index payload 1) (drop 2 payload))) right) in
        let h = found_payload here p.start f 512 kind (omega arith) in
        table_there k p f 0x2c 2 h.unit count there has op refl refl (is_payload here p.start 2 f payload h kind) (size ∙ index_there p.start f h 1)

    abbrev At : ℕ → Type 0
    At op = (is_right op payload ≡ true) × (count ≡ size_of op payload)

    of_table : IsTable (opcode p) → At (opcode p) → HasEntries units pieces k count
    of_table (inl e) h = let g : At 0x26 = subst At e h in of_fill e g.0 g.1
    of_table (inr (inl e)) h = let g : At 0x2b = subst At e h in of_packed e g.0 g.1
    of_table (inr (inr e)) h = let g : At 0x2c = subst At e h in of_sparse e g.0 g.1

    may_have : Says (opcode p) payload count → MayHave units pieces k count
    may_have (inl e) = inl e
    may_have (inr h) = inr (of_table (is_table (opcode p) h.0) (h.1, h.2))

  founds_entries : (k : ℕ) (p : Piece) → slice_get (instructions pieces) k ≡ Some p → Instructed units p → Founds (MayHave units pieces k) (entries_at here p.start)
  unfolding entries_at
  founds_entries k p there is =
      let f = fields_at units p.start in
      subst (λ (op : ℕ). Founds (MayHave units pieces k) (reading.entries_of here p.start op f)) (sym is.opcode_is)
      (weaker (reading.entries_of here p.start (opcode p) f) (founds_says p.start (opcode p) f) (λ count h. may_have k p there f is.fields_are count h))

  -- ---- the limit of one body's tables

  -- from this position on there are tables with more entries than are left
  pub record PastTables (from left : ℕ) : Type 0 where
    pub counts : List ℕ
    pub are : Each (MayHave units pieces) from counts
    pub many : left < total counts

  abbrev pub PassesTables : ℕ → ℕ → LimitFault → Type 0
  PassesTables from left limit = (limit ≡ one_past Cells) × PastTables from left

  further : (from left n : ℕ) (limit : LimitFault) → MayHave units pieces from n → n ≤ left → PassesTables (suc from) (left - n) limit → PassesTables from left limit
  further from left n limit entry few h = (h.0, record { counts = n ∷ h.1.counts; are = (entry, h.1.are); many = (let many = h.1.many in omega (arith, few, many)) })

  just_over : (from left n : ℕ) → MayHave units pieces from n → left < n → PassesTables from left (one_past Cells)
  just_over from left n entry over = (refl, record { counts = n ∷ []; are = (entry, tt); many = omega (arith, over) })

  pub fails_tables : (from left : ℕ) (ps : List Piece) → From from ps → AllByRecursion (Instructed units) ps → Fails (OnLimit (PassesTables from left)) (check_payloads here left (starts_of ps))
  fails_tables from left [] there all = sound tt
  fails_tables from left (p ∷ ps) there all =
      fails_next (fails_more (λ e h. subst (OnLimit (PassesTables from left)) (sym h.2) tt) (fails_entries_at here p all.0)) (λ n g.
      let entry : MayHave units pieces from n = (founds_entries from p (from_here from p ps there) all.0).found n g in
      fails_either {b = ltb left n} {read = Err (passed Cells)} {other = check_payloads here (left - n) (starts_of ps)}
      (λ over. fails_with (passed Cells) (just_over from left n entry (ltb-true left n over)))
      (λ within. fails_more (λ e h. limit_more (PassesTables (suc from) (left - n)) (PassesTables from left) (λ limit g. further from left n limit entry (ltb-false left n within) g) e h) (fails_tables (suc from) (left - n) ps (from_next from p ps there) all.1)))

-- ---- all cells of a method

-- names of cells of this kind of this method: 0 of positions, 1 of tables
abbrev pub CellName : ℕ → ℕ → ℕ → ℕ → List ℕ → Type 0
CellName class which place kind way = (slice_index way 0 ≡ class) × (slice_index way 1 ≡ which) × (slice_index way 2 ≡ place) × (slice_index way 3 ≡ kind)

abbrev pub MethodCell : ℕ → ℕ → ℕ → List ℕ → Type 0
MethodCell class which place way = (slice_index way 0 ≡ class) × (slice_index way 1 ≡ which) × (slice_index way 2 ≡ place)

abbrev fifth : List ℕ → ℕ
fifth way = slice_index way 4

abbrev sixth : List ℕ → ℕ
sixth way = slice_index way 5

module _ (bytes : List ℕ) (class which place at : ℕ) (f : Frame) (pieces : List Piece) (its : IsMethodCode bytes class which place at f pieces) where
  abbrev Named : ℕ → List ℕ → Type 0
  Named kind way = CellName class which place kind way

  row : (k : ℕ) → k < length (instructions pieces) → Told (IsCell bytes) (WithKey (Named 0) fifth k) (f.registers + 1)
  row k less = renamed (f.registers + 1)
      (lined (WithKey (Named 0) fifth k) sixth (λ r. class ∷ which ∷ place ∷ 0 ∷ k ∷ r ∷ []) 0 (f.registers + 1) (λ r low few. (limits.OfPosition class which place at k r f pieces its less (omega (arith, few)), ((refl, refl, refl, refl), refl), refl)))
      (λ way h. h.0) (omega arith)

  positions : Told (IsCell bytes) (Named 0) (length (instructions pieces) * (f.registers + 1))
  positions = renamed (length (instructions pieces) * (f.registers + 1)) (rows (Named 0) fifth 0 (length (instructions pieces)) (f.registers + 1) (λ k low less. row k (omega (arith, less)))) (λ way h. h.0) (omega arith)

  table : (k n : ℕ) → MayHave its.units pieces k n → Told (IsCell bytes) (WithKey (Named 1) fifth k) n
  table k n (inl none) = renamed n (nothing {In = WithKey (Named 1) fifth k}) (λ way h. h) (omega (arith, none))
  table k n (inr entries) = renamed n
      (lined (WithKey (Named 1) fifth k) sixth (λ i. class ∷ which ∷ place ∷ 1 ∷ k ∷ i ∷ []) 0 n (λ i low few. (limits.OfTable class which place at k n i f pieces its entries (omega (arith, few)), ((refl, refl, refl, refl), refl), refl)))
      (λ way h. h.0) (omega arith)

  each_table : (from : ℕ) (counts : List ℕ) → Each (MayHave its.units pieces) from counts → Each (λ k n. Told (IsCell bytes) (WithKey (Named 1) fifth k) n) from counts
  each_table from [] h = tt
  each_table from (n ∷ ns) h = (table from n h.0, each_table (suc from) ns h.1)

  pub tables : (counts : List ℕ) → Each (MayHave its.units pieces) 0 counts → Told (IsCell bytes) (Named 1) (total counts)
  tables counts h = renamed (total counts) (piled (Named 1) fifth 0 counts (each_table 0 counts h)) (λ way h. h.0) (omega arith)

  all_sums : (insns : List Insn) → sum_by entries_of insns ≡ total (map entries_of insns)
  all_sums [] = refl
  all_sums (insn ∷ insns) = sum_by-cons entries_of insn insns ∙ ap (λ (n : ℕ). entries_of insn + n) (all_sums insns)

  as_many : (places : Places) (ps : List Piece) (insns : List Insn) → AreInsns places ps insns → length insns ≡ length ps
  as_many places [] [] h = refl
  as_many places [] (insn ∷ insns) h = absurd h
  as_many places (p ∷ ps) [] h = absurd h
  as_many places (p ∷ ps) (insn ∷ insns) h = ap suc (as_many places ps insns h.1)

  by_size : (registers insns entries many rows : ℕ) → insns ≡ many → registers ≡ f.registers → rows ≡ many * (f.registers + 1) → (registers + 1) * insns + entries ≤ rows + entries
  by_size registers insns entries many rows long same is =
      let e : (registers + 1) * insns ≡ many * (f.registers + 1) = ap (λ (n : ℕ). (n + 1) * insns) same ∙ ap (λ (n : ℕ). (f.registers + 1) * n) long ∙ turned (f.registers + 1) many in
      omega (arith, e, is)
    where
      turned : (a b : ℕ) → a * b ≡ b * a
      turned a b = grind arith

  pub all_cells : (body : Body) → body.registers ≡ f.registers → AreInsns (places_of its.units pieces) (instructions pieces) body.insns → Told (IsCell bytes) (MethodCell class which place) (body_cells body)
  all_cells body registers are =
      let sums = all_sums body.insns in
      let size = by_size body.registers (length body.insns) (sum_by entries_of body.insns) (length (instructions pieces)) (length (instructions pieces) * (f.registers + 1)) (as_many (places_of its.units pieces) (instructions pieces) body.insns are) registers refl in
      join (body_cells body) positions (tables (map entries_of body.insns) (all_entries its.units pieces 0 (instructions pieces) body.insns (all_from its.units pieces) are))
      (λ way h g. (let zeroth = h.3 in let first = g.3 in omega (arith, zeroth, first)))
      (λ way h. (h.0, h.1, h.2)) (λ way h. (h.0, h.1, h.2))
      (omega (arith, sums, size))
