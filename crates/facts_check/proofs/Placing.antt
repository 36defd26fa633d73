-- What is asked of a position, put together.
use Rattle.std.proofs.Common.{◌≡◌, ℕ, List, Option, refl}
use Rattle.insn_set.specs.declared.ops.Slot.{Slot}
use Rattle.insn_set.specs.declared.form.Insn.{Insn}
use Rattle.insn_set.specs.declared.form.Insn.TheVariants as insn
use Rattle.program_model.specs.declared.body.Body.{Body}
use Rattle.dom_frame.specs.Registers.{Registers}
use Rattle.facts_check.specs.declared.known.Known.{Known}
use Rattle.facts_check.specs.declared.starts.Start.{Start}
use Rattle.facts_check.specs.Placed.{HoldsTaken, IsPlaced}
use Rattle.facts_check.specs.Tables.{IsHanded, DoesKnown}

-- only a move of a result takes something
pub none_taken : (k : Known) (class : ℕ) (before : Option Insn) (i : Insn) (x : Registers) (next : Option Registers) → ((s : Slot) (to : ℕ) → i ≡ insn.MoveResult s to → ⊥) → HoldsTaken k class before i x next
none_taken k class before (insn.MoveResult s to) x next h = absurd (h s to refl)
none_taken k class before i x next h = tt

pub placed_by : (k : Known) (class method : ℕ) (b : Body) (starts : List Start) (n : ℕ) (before : Option Insn) (i : Insn) (x : Registers) (next : Option Registers) → DoesKnown k class method b starts n i x → IsHanded k class starts n before i x next
    → IsPlaced k class method b starts n before i x next
placed_by k class method b starts n before i x next d h = record {
  needed = d.needed;
  puts = d.puts;
  returns = d.returns;
  calls = d.calls;
  thrown = d.thrown;
  goes = h.goes;
  taken = h.taken;
}
