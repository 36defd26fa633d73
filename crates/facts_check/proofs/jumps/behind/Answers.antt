use Rattle.std.proofs.Common.{◌≡◌, ℕ, ◌+◌, List, ◌++◌, inl, inr, refl, sym, subst}
use Rattle.std.specs.Prelude.{IfOk, IfSome}
use Rattle.insn_set.specs.declared.form.Insn.{Insn}
use Rattle.dom_frame.specs.Registers.{Registers}
use Rattle.dom_frame.specs.Steps.{unswitched}
use Rattle.closed_facts.specs.Edges.{arm, both_ways, cases_from, edges}
use Rattle.facts_check.specs.Landing.{EachGoes}
use Rattle.facts_check.proofs.jumps.behind.Goals as goal

pub returns-in-Goto : goal.returns-in-Goto
returns-in-Goto c = λ known n.
    subst (λ (i : Insn). IfSome c.behind_goto.result (λ next. EachGoes c.args.starts.now n next (edges c.args.known.now.program.now c.args.known.now.facts.now n i c.args.registers.now))) (sym c.in-Goto.is) (c.behind_goto.ensures n)

pub returns-in-PackedSwitch : goal.returns-in-PackedSwitch
returns-in-PackedSwitch c = λ known n.
    let x = c.args.registers.now in
    let p = c.args.known.now.program.now in
    let t = c.args.known.now.facts.now in
    let same : (i : Insn) (targets : List ℕ) → List (ℕ × Registers) = λ i targets. arm (n + 1) (unswitched i x) ++ cases_from 0 i targets x in
    let e : same c.args.insn.now c.in-PackedSwitch.targets ≡ edges p t n c.args.insn.now x = elim c.in-PackedSwitch.is [
      | inl h ↦ subst (λ (i : Insn). same i c.in-PackedSwitch.targets ≡ edges p t n i x) (sym h.2) refl
      | inr h ↦ subst (λ (i : Insn). same i c.in-PackedSwitch.targets ≡ edges p t n i x) (sym h.2) refl
    ] in
    subst (λ (qs : List (ℕ × Registers)). IfOk c.behind_switch.result (λ o. IfSome o (λ next. EachGoes c.args.starts.now n next qs))) e
    (subst (λ (targets : List ℕ). IfOk c.behind_switch.result (λ o. IfSome o (λ next. EachGoes c.args.starts.now n next (same c.args.insn.now targets)))) c.as_slice.ensures (c.behind_switch.ensures n))

pub returns-in-If : goal.returns-in-If
returns-in-If c = λ known n.
    let x = c.args.registers.now in
    let p = c.args.known.now.program.now in
    let t = c.args.known.now.facts.now in
    let e : both_ways n c.args.insn.now c.in-If.target x ≡ edges p t n c.args.insn.now x = elim c.in-If.is [
      | inl h ↦ subst (λ (i : Insn). both_ways n i c.in-If.target x ≡ edges p t n i x) (sym h.3) refl
      | inr h ↦ subst (λ (i : Insn). both_ways n i c.in-If.target x ≡ edges p t n i x) (sym h.2) refl
    ] in
    subst (λ (qs : List (ℕ × Registers)). IfOk c.behind_branch.result (λ o. IfSome o (λ next. EachGoes c.args.starts.now n next qs))) e (c.behind_branch.ensures n)
