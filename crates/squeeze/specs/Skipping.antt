-- What a squeeze takes out of a body: positions that are not reached, nops, and gotos to the next position.
use Rattle.std.specs.Prelude.{◌≡◌, ◌↔◌, ℕ, ◌+◌, ◌<◌, Bool, true, false, not, ◌||◌, if◌then◌else◌, nat_eq, List, length}
use Rattle.insn_set.specs.declared.form.Insn.{Insn}
use Rattle.insn_set.specs.declared.form.Insn.TheVariants as insn
use Rattle.program_model.specs.declared.body.Body.{Body}
use Rattle.body_edit.specs.declared.fate.Fate.{Fate}
use Rattle.body_edit.specs.declared.fate.Fate.TheVariants.{Stays, Goes}
use Rattle.walk_marks.specs.Walks.{is_on}
use Rattle.body_graph.specs.Walks.{IsReached}
use Rattle.thin_pass.specs.Wishing.{AreWished}

-- a nop, or a goto to the next position
abbrev pub passes : ℕ → Insn → Bool
passes n insn.Nop = true
passes n (insn.Goto target) = nat_eq target (n + 1)
passes n i = false

-- what is not reached goes, and so does what passes
abbrev pub wish_for : Bool → ℕ → Insn → Fate
wish_for reached n i = if not reached || passes n i then Goes else Stays

-- what is wished for a body's positions, by marks of those that walks from the entry come to
pub record AreSkips (b : Body) (ws : List Fate) : Type 0 where
  pub marks : List Bool
  pub reached : (n : ℕ) → n < length b.insns → (is_on marks n ≡ true) ↔ IsReached b n
  pub are : AreWished (λ n i. wish_for (is_on marks n) n i) b.insns ws
