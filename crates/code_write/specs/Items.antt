-- The whole code item (Dalvik executable format, "code_item").
use Rattle.std.specs.Prelude.{◌≡◌, ℕ, ◌-◌, ◌/◌, min, max, List, [], ◌∷◌, ◌++◌, length, map, nat_eq, if◌then◌else◌}
use Rattle.insn_set.specs.declared.form.Insn.{Insn}
use Rattle.insn_set.specs.declared.form.Insn.TheVariants.{Invoke}
use Rattle.program_model.specs.declared.body.Body.{Body}
use Rattle.program_model.specs.declared.body.Region.{Region}
use Rattle.program_model.specs.declared.pass.Renumber.{Renumber}
use Rattle.code_write.specs.declared.item.CodeBytes.{CodeBytes}
use Rattle.code_write.specs.Units.{unit_bytes, low, high, pad_to_even}
use Rattle.code_write.specs.Code.{Spots, code_text}
use Rattle.code_write.specs.Payloads.{with_payloads}
use Rattle.code_write.specs.Handlers.{handlers_text}
use Rattle.code_write.specs.Lists.{Stand, lists_text, list_offsets}
use Rattle.code_write.specs.Tries.{tries_text}

-- how many words an instruction passes to a method
abbrev pub words_passed : Insn → ℕ
words_passed (Invoke kind method args) = min (length args) 65535
words_passed insn = 0

-- the most words that an instruction passes
abbrev pub outs_of : List Insn → ℕ
outs_of [] = 0
outs_of (insn ∷ insns) = max (words_passed insn) (outs_of insns)

-- the fields before the units
abbrev pub header_units : Body → ℕ → ℕ → ℕ → List ℕ
header_units body outs size debug = body.registers ∷ body.ins ∷ outs ∷ min (length body.regions) 65535 ∷ low debug ∷ high debug ∷ low size ∷ high size ∷ []

-- where code ends that begins behind the 16 bytes of the header, in units
abbrev pub code_end : ℕ → ℕ
code_end bytes = min ((bytes - 16) / 2) 4294967295

-- a zero unit where there are regions and the bytes end at an odd unit
abbrev pub gap_behind : ℕ → List ℕ → List ℕ
gap_behind regions bytes = if nat_eq regions 0 then bytes else pad_to_even bytes

-- the header and the instructions
abbrev pub front_text : Renumber → Body → Spots → ℕ → List ℕ
front_text numbers body layout debug = unit_bytes (header_units body (outs_of body.insns) layout.size debug) ++ code_text numbers layout 0 0 body.insns

-- the ranges of the regions, each with the offset of its list, and the different lists
abbrev pub ranged_text : List ℕ → ℕ → List Region → List (List ℕ) → List ℕ
ranged_text starts end regions texts = tries_text starts end regions (list_offsets texts) ++ lists_text texts

abbrev pub tail_text : Renumber → Spots → ℕ → List Region → List ℕ
tail_text numbers layout end regions = if nat_eq (length regions) 0 then [] else ranged_text layout.starts end regions (map (handlers_text numbers layout.starts end) regions)

-- the header, the instructions, the payloads, and what stands behind them where there are regions
unfoldable pub code_item : Renumber → Body → Spots → ℕ → List ℕ
code_item numbers body layout debug = gap_behind (length body.regions) (with_payloads layout (front_text numbers body layout debug) 0 body.insns) ++ tail_text numbers layout (code_end (length (front_text numbers body layout debug))) body.regions

-- ranges of the regions, and lists of handlers, in which each region's own stands at its offset
pub record IsTail (numbers : Renumber) (layout : Spots) (end : ℕ) (regions : List Region) (tail : List ℕ) : Type 0 where
  pub offsets : List ℕ
  pub lists : List ℕ
  pub long : length offsets ≡ length regions
  pub is : tail ≡ tries_text layout.starts end regions offsets ++ lists
  pub stand : Stand (map (handlers_text numbers layout.starts end) regions) lists offsets
  pub none : regions ≡ [] → lists ≡ []

-- the same with such a tail
pub record IsItem (numbers : Renumber) (body : Body) (layout : Spots) (debug : ℕ) (code : CodeBytes) : Type 0 where
  pub outs : code.outs ≡ outs_of body.insns
  pub tail : List ℕ
  pub is_tail : IsTail numbers layout (code_end (length (front_text numbers body layout debug))) body.regions tail
  pub bytes : code.bytes.items ≡ gap_behind (length body.regions) (with_payloads layout (front_text numbers body layout debug) 0 body.insns) ++ tail
