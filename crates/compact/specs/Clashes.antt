-- Which registers meet, as rows.
use Rattle.std.specs.Prelude.{◌≡◌, ◌↔◌, ℕ, ◌<◌, ◌⊎◌, Bool, true, List, length, Contains}
use Rattle.std.specs.List.{list_any, filter}
use Rattle.insn_set.specs.declared.form.Insn.{Insn}
use Rattle.program_model.specs.declared.body.Body.{Body}
use Rattle.walk_marks.specs.Walks.{row_of, is_on}
use Rattle.body_graph.specs.Walks.{IsRead}
use Rattle.live_regs.specs.declared.table.Live.{Live}
pub use Rattle.register_criteria.specs.Live.{is_hit}
use Rattle.compact.specs.Packed.{Conflict, is_used}
use Rattle.compact.specs.declared.clash.Clash.{Clash}

-- the marks of the registers that a body uses
pub record AreUsed (b : Body) (used : List Bool) : Type 0 where
  pub long : length used ≡ b.registers
  pub are : (r : ℕ) → r < b.registers → is_on used r ≡ is_used b r

-- exactly the numbers that are marked
abbrev pub AreNames : List Bool → List ℕ → Type 0
AreNames used names = (r : ℕ) → Contains names r ↔ (is_on used r ≡ true)

-- those of some registers that are hit at these positions
abbrev pub hits_of : Live → List Insn → List ℕ → List ℕ → List ℕ
hits_of live insns names positions = filter (λ s. list_any (is_hit live insns s) positions) names

-- two registers meet
abbrev pub Meets : Clash → ℕ → ℕ → Type 0
Meets c r q = Contains (row_of c.rows.items r) q ⊎ Contains (row_of c.back.items r) q

-- those that meet are those that conflict; and a test tells what is read
pub record IsClash (b : Body) (c : Clash) : Type 0 where
  pub live : ℕ → ℕ → Bool
  pub is_live : (n r : ℕ) → r < b.registers → (live n r ≡ true) ↔ IsRead b r n
  pub within : (r q : ℕ) → r < b.registers → Meets c r q → q < b.registers
  pub sound : (r q : ℕ) → r < b.registers → Meets c r q → Conflict b r q
  pub all : (r q : ℕ) → r < b.registers → q < b.registers → Conflict b r q → Meets c r q
