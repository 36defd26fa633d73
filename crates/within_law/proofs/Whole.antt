-- A file that is read passes no limit, but that of items.
use Rattle.std.proofs.Common.{◌≡◌, ◌<◌, ◌⊎◌, inl, inr, ◌↔◌, ℕ, List, Result, Ok, Err, refl, arith}
use Rattle.std.specs.Prelude.{slice_index}
use Rattle.std.proofs.lemmas.Bool.{leb-true}
use Rattle.program_model.specs.Cells.{cells_of}
use Rattle.program_model.specs.Limits.{limit_of}
use Rattle.program_model.specs.declared.limits.Counted.{Counted}
use Rattle.program_model.specs.declared.limits.Counted.TheVariants.{RuleBytes, FileBytes, ScriptBytes, Cells, Types, Protos, Fields, Methods, TextUnits, Items}
use Rattle.program_model.specs.declared.limits.LimitFault.{LimitFault}
use Rattle.program_model.specs.declared.program.Program.{Program}
use Rattle.program_model.proofs.Formed.{formed}
use Rattle.dex_defs.specs.Limits.{IsCell, Counts, IsPast}
use Rattle.dex_defs.specs.Limits as limits
use Rattle.dex_read.specs.File.{program_at}
use Rattle.dex_read.specs.declared.fault.DexFault.{DexFault}
use Rattle.refused_code.specs.Faultless.{IsFaultless}
use Rattle.past_law.specs.Within.{IsWithin, IsRead}
use Rattle.past_law.proofs.Within.{reads}
use Rattle.clean_files.proofs.Whole.{no_fault}
use Rattle.read_laws.proofs.Bounds.{AreBytes}
use Rattle.read_laws.proofs.WellFormed.{well_formed_read}
use Rattle.spelled_law.proofs.Whole.{read_is_spelled}
use Rattle.within_law.proofs.Cells.{cells_spelled}
use Rattle.within_law.proofs.Most.{Most, fewer, none, not_past}
use Rattle.within_law.proofs.Tables.{types_kept, protos_kept, fields_kept, methods_kept, units_kept}

-- what is counted of a file of bytes, a rule text or a script, which is none of these, and of code
abbrev Known : List ℕ → Counted → List ℕ → Type 0
Known bytes RuleBytes w = ⊥
Known bytes FileBytes w = ⊥
Known bytes ScriptBytes w = ⊥
Known bytes Cells w = IsCell bytes w
Known bytes kind w = Unit {0}

known : (bytes : List ℕ) (kind : Counted) (w : List ℕ) → Counts bytes kind w → Known bytes kind w
known bytes kind w (limits.ACell way h) = h
known bytes kind w (limits.AnItem way h) = tt
known bytes kind w (limits.AType i size has less) = tt
known bytes kind w (limits.AProto i size has less) = tt
known bytes kind w (limits.AField i size has less) = tt
known bytes kind w (limits.AMethod i size has less) = tt
known bytes kind w (limits.AUnit string entry offset units begin i stands is_offset counted less) = tt

module _ (bytes : List ℕ) (are : AreBytes bytes) (p : Program) (read : program_at bytes ≡ Ok p) where
  cells_kept : Most (Counts bytes Cells) 67108864
  cells_kept = fewer (Counts bytes Cells) (cells_of p) 67108864 (cells_spelled bytes p (read_is_spelled bytes p are read)) (known bytes Cells)
      (leb-true (cells_of p) 67108864 (formed p (well_formed_read bytes p are read)).cells)

  no_bytes : (kind : Counted) → ((w : List ℕ) → Counts bytes kind w → ⊥) → Most (Counts bytes kind) (limit_of kind)
  no_bytes kind never = fewer (Counts bytes kind) 0 (limit_of kind) (none (Counts bytes kind) never) (λ w h. h) (omega arith)

  kept : (kind : Counted) → (kind ≡ Items) ⊎ Most (Counts bytes kind) (limit_of kind)
  kept RuleBytes = inr (no_bytes RuleBytes (known bytes RuleBytes))
  kept FileBytes = inr (no_bytes FileBytes (known bytes FileBytes))
  kept ScriptBytes = inr (no_bytes ScriptBytes (known bytes ScriptBytes))
  kept Cells = inr cells_kept
  kept Types = inr (types_kept bytes p read)
  kept Protos = inr (protos_kept bytes p read)
  kept Fields = inr (fields_kept bytes p read)
  kept Methods = inr (methods_kept bytes p read)
  kept TextUnits = inr (units_kept bytes p read)
  kept Items = inl refl

  only_items : (fault : LimitFault) → IsPast bytes fault → fault.counted ≡ Items
  only_items fault past = elim (kept fault.counted) [
    | inl e ↦ e
    | inr most ↦ absurd (not_past bytes fault most past)
  ]

-- the limit that a file passes which is read is that of items
pub past_items : (bytes : List ℕ) → ((i : ℕ) → slice_index bytes i < 256) → (p : Program) → program_at bytes ≡ Ok p → (fault : LimitFault) → IsPast bytes fault → fault.counted ≡ Items
past_items bytes are p read fault past = only_items bytes are p read fault past

module _ (bytes : List ℕ) (are : AreBytes bytes) (items : (fault : LimitFault) → fault.counted ≡ Items → IsPast bytes fault → ⊥) where
  all_within : (p : Program) → program_at bytes ≡ Ok p → IsWithin bytes
  all_within p read fault past = items fault (past_items bytes are p read fault past) past

  by_result : (read : Result Program DexFault) → program_at bytes ≡ read → IsRead read → IsFaultless bytes × IsWithin bytes
  by_result (Ok p) h is = (no_fault bytes are p h, all_within p h)
  by_result (Err e) h is = absurd is

  both : IsRead (program_at bytes) ↔ (IsFaultless bytes × IsWithin bytes)
  both = (λ h. by_result (program_at bytes) refl h, λ h. reads bytes are h.0 h.1)

-- which files are read, of those that do not pass the limit of items
pub exactly : (bytes : List ℕ) → ((i : ℕ) → slice_index bytes i < 256) → ((fault : LimitFault) → fault.counted ≡ Items → IsPast bytes fault → ⊥) → IsRead (program_at bytes) ↔ (IsFaultless bytes × IsWithin bytes)
exactly bytes are items = both bytes are items
