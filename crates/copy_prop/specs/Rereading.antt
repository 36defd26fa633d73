-- Instructions that read originals in place of copies.
use Rattle.std.specs.Prelude.{◌≡◌, ℕ, ◌+◌, ◌<◌, ◌≤◌, Bool, true, false, ◌&&◌, nat_eq, nat_le, if◌then◌else◌, List, [], ◌∷◌, ◌⊎◌, length, take, Option, Some, None, slice_get, slice_index_or, All}
use Rattle.insn_set.specs.Spelling.{is_encodable}
use Rattle.insn_set.specs.Widths.{is_wide_slot}
use Rattle.insn_set.specs.declared.form.Insn.{Insn}
use Rattle.program_model.specs.declared.body.Body.{Body}
use Rattle.insn_regs.specs.Remade.{remade}
use Rattle.copy_prop.specs.Stale.{units}
use Rattle.copy_prop.specs.Searches.{IsAmong}
use Rattle.copy_prop.specs.declared.copied.Copied.{Copied}

-- the original of a register by the first copy that has it
abbrev pub substituted : List Copied → ℕ → ℕ
substituted [] r = r
substituted (c ∷ cs) r = if nat_eq r c.to then c.from else if is_wide_slot c.slot && nat_eq r (c.to + 1) then c.from + 1 else substituted cs r

abbrev pub substitutes : List Copied → Insn → Insn
substitutes cs f = remade (substituted cs) (λ r. r) f

-- encodable, and no longer than the old one
abbrev pub fits : Insn → Insn → Bool
fits old f = is_encodable f && nat_le (units f) (units old)

abbrev pub first_of : List Copied → List Copied
first_of cs = take 1 cs

-- with all copies where that fits, else with the first one
abbrev pub reread : List Copied → Insn → Insn
reread cs f = if fits f (substitutes cs f) then substitutes cs f else substitutes (first_of cs) f

-- an instruction that reads originals in place of copies of which its reads are stale
pub record IsReread (w : List (List Bool)) (b : Body) (n : ℕ) (f g : Insn) : Type 0 where
  pub copies : List Copied
  pub stale : All (IsAmong w b n f) copies
  pub form : g ≡ substitutes copies f
  pub fits : (copies ≡ []) ⊎ (fits f g ≡ true)
