-- What facts by number promise of a reached position, and what the same facts by names promise, one by one: the parts of the
-- closed tables of `closed_facts` and of pass_defs that this crate bridges.
use Rattle.std.specs.Prelude.{◌≡◌, ℕ, ◌+◌, true, Some, Contains}
use Rattle.insn_set.specs.declared.form.Insn.TheVariants as insn
use Rattle.insn_set.specs.declared.ops.Slot.{Slot}
use Rattle.program_model.specs.OperandRules.{numbers_fit}
use Rattle.program_model.specs.declared.program.MethodAt.{MethodAt}
use Rattle.program_model.specs.declared.program.Program.{Program}
use Rattle.flow_cfg.specs.Walks.{thrown_to}
use Rattle.dalvik_defs.specs.Face.{bodies_of}
use Rattle.dalvik_defs.specs.Naming.{named}
use Rattle.dalvik_defs.specs.Outer.{Outer}
use Rattle.dalvik_defs.specs.declared.forms.Form.TheVariants as form
use Rattle.dalvik_defs.specs.declared.names.MethodKey.{MethodKey}
use Rattle.dalvik_defs.specs.declared.program.NamedBody.{NamedBody}
use Rattle.domains.specs.Values.{Parts}
use Rattle.dom_frame.specs.Registers.{Registers, value_at}
use Rattle.facts.specs.declared.facts.Facts.{Facts}
use Rattle.closed_facts.specs.Tables as number
use Rattle.closed_facts.specs.Tables.{registers_at, result_at}
use Rattle.closed_facts.specs.Edges as numbered
use Rattle.run_facts.specs.Closed as name
use Rattle.pass_defs.specs.Walks.{caught}
use Rattle.facts_kept.specs.Names.{named_facts, values}

module _ (p : Program) (t : Facts) where
  -- what instructions at reached positions name are entries of the tables
  abbrev pub AllFit : Type 0
  AllFit = (at : MethodAt) (n : ℕ) (here : number.At p t at n) → numbers_fit here.insn p ≡ true

  -- what is returned is among the results
  abbrev pub Returns : Type 0
  Returns = (at : MethodAt) (n from : ℕ) (r : Slot) (here : number.At p t at n) → here.insn ≡ insn.Return r from → number.IsBelow (value_at here.registers from) (result_at t here.method.name)

  abbrev pub NamedReturns : Type 0
  NamedReturns = (k : MethodKey) (n from : ℕ) (r : Slot) (at : name.At (values p) (named p) (named_facts p t) k n) → at.form ≡ form.Return r from
      → (values p).below (at.registers from) ((named_facts p t).results k)

  -- what is thrown comes to the handlers
  abbrev pub Throws : Type 0
  Throws = (at : MethodAt) (n q : ℕ) (here : number.At p t at n) → Contains (thrown_to here.body.regions n here.insn) q → number.Arrives here.registers (registers_at t here.method.name q)

  abbrev pub NamedThrows : Type 0
  NamedThrows = (k : MethodKey) (n q : ℕ) (at : name.At (values p) (named p) (named_facts p t) k n) → Contains (caught at.body at.form n) q
      → name.Arrives (values p) at.registers ((named_facts p t).registers k q)

  -- what goes on comes to the next position or to a target
  abbrev pub GoesOn : Type 0
  GoesOn = (at : MethodAt) (n : ℕ) (q : ℕ × Registers) (here : number.At p t at n) → Contains (numbered.edges p t n here.insn here.registers) q
      → number.Arrives q.1 (registers_at t here.method.name q.0)

  abbrev pub NamedGoesOn : Type 0
  NamedGoesOn = (k : MethodKey) (n : ℕ) (q : ℕ × (ℕ → Parts)) (at : name.At (values p) (named p) (named_facts p t) k n)
      → Contains (name.edges (values p) (named p) (named_facts p t) n at.form at.registers) q
      → name.Arrives (values p) q.1 ((named_facts p t).registers k q.0)

  abbrev pub NamedBegins : Type 0
  NamedBegins = (k : MethodKey) (b : NamedBody) (x : ℕ → Parts) → bodies_of (named p) k ≡ Some b → (named_facts p t).registers k 0 ≡ Some x → name.BeginsAt (values p) (named_facts p t) k b x

  -- what is taken of a result comes behind the form that takes it
  abbrev pub NamedTakes : Outer → Type 0
  NamedTakes o = (k : MethodKey) (n to : ℕ) (r : Slot) (v : Parts) (at : name.At (values p) (named p) (named_facts p t) k n) (taker : name.At (values p) (named p) (named_facts p t) k (n + 1))
      → taker.form ≡ form.MoveResult r to → name.Results (values p) (named p) o (named_facts p t) k at.registers at.form v
      → name.Arrives (values p) (name.put_sized (values p) (name.is_wide_slot (values p) r) to v taker.registers) ((named_facts p t).registers k (n + 2))
