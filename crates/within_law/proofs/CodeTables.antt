-- The table that an instruction names has as many entries as the instruction that stands there.
use Rattle.std.proofs.Common.{◌≡◌, inl, inr, ℕ, ◌+◌, true, false, List, Some, sym, ap, subst, ◌∙◌}
use Rattle.std.specs.Prelude.{pos, ◌==◌, slice_get, slice_index}
use Rattle.insn_set.specs.declared.form.Insn.{Insn}
use Rattle.program_model.specs.Cells.{entries_of}
use Rattle.code_read.specs.declared.fields.Fields.{Fields}
use Rattle.dex_defs.specs.Sweep.{Piece, Places, instructions, places_of}
use Rattle.dex_defs.specs.Instructions.{opcode, double_at, IsPayloadOf, HasFields, IsInsn, AreInsns, IsFill, IsPacked, IsSparse}
use Rattle.dex_defs.specs.Limits.{HasEntries}
use Rattle.refused_code.proofs.Reading.{IsTable, is_table}
use Rattle.clean_files.proofs.CodeInsns.{insn_there, as_fill, as_packed, as_sparse}

pos_same : (m n : ℕ) → pos m ≡ pos n → m ≡ n
pos_same m n e = cc

unit_once : (places : Places) (from : ℕ) (f : Fields) (code kind u v : ℕ) → IsPayloadOf places from f code u → IsPayloadOf places from f kind v → u ≡ v
unit_once places from f code kind u v a b = pos_same u v (a.is ∙ sym b.is)

abbrev SizeIs : List ℕ → ℕ → ℕ → ℕ → Type 0
SizeIs units unit count op = count ≡ elim (op == 0x26) [ true ↦ double_at units (unit + 2) | false ↦ slice_index units (unit + 1) ]

module _ (units : List ℕ) (pieces : List Piece) where
  abbrev here : Places
  here = places_of units pieces

  module _ (p : Piece) (f : Fields) (has : HasFields p f) (insn : Insn) (is : IsInsn here p insn) (unit code count : ℕ) (payload : IsPayloadOf here p.start f code unit) (size : SizeIs units unit count (opcode p)) where
    of_fill : opcode p ≡ 0x26 → count ≡ entries_of insn
    of_fill e =
        let x : IsFill here p f insn = as_fill here p f has insn e is in
        let same = unit_once here p.start f code 3 unit x.unit payload x.payload in
        subst (SizeIs units unit count) e size ∙ ap (λ n. double_at units (n + 2)) same ∙ x.size ∙ sym (ap entries_of x.is)

    of_packed : opcode p ≡ 0x2b → count ≡ entries_of insn
    of_packed e =
        let x : IsPacked here p f insn = as_packed here p f has insn e is in
        let same = unit_once here p.start f code 1 unit x.unit payload x.payload in
        subst (SizeIs units unit count) e size ∙ ap (λ n. slice_index units (n + 1)) same ∙ x.size ∙ sym (ap entries_of x.is)

    of_sparse : opcode p ≡ 0x2c → count ≡ entries_of insn
    of_sparse e =
        let x : IsSparse here p f insn = as_sparse here p f has insn e is in
        let same = unit_once here p.start f code 2 unit x.unit payload x.payload in
        subst (SizeIs units unit count) e size ∙ ap (λ n. slice_index units (n + 1)) same ∙ x.size ∙ sym (ap entries_of x.is)

    of_table : IsTable (opcode p) → count ≡ entries_of insn
    of_table (inl e) = of_fill e
    of_table (inr (inl e)) = of_packed e
    of_table (inr (inr e)) = of_sparse e

  -- of the instructions that stand there
  pub as_many : (insns : List Insn) → AreInsns here (instructions pieces) insns → (i count : ℕ) → HasEntries units pieces i count → (x : Insn) × (slice_get insns i ≡ Some x) × (count ≡ entries_of x)
  as_many insns are i count h =
      let x = insn_there here (instructions pieces) insns are i h.p h.is.is in
      (x.0, x.1, of_table h.p h.f h.is.fields x.0 x.2 h.unit _ count h.payload h.size (is_table (opcode h.p) h.names))
