-- A program in which calls are rebound says no more: what is written calls a method of a class of the program.
use Rattle.std.proofs.Common.{◌≡◌, ℕ, Bool, true, false, List, ◌∷◌, Option, Some, None, refl, sym, ap, ◌∙◌, subst}
use Rattle.std.specs.Prelude.{All, slice_get, option_and_then, if◌then◌else◌}
use Rattle.std.specs.Option.{option_map}
use Rattle.std.proofs.lemmas.List.Elements.{All-head, All-tail}
use Rattle.insn_set.specs.declared.form.Insn.TheVariants as insn
use Rattle.insn_set.specs.declared.ops.InvokeKind.{InvokeKind}
use Rattle.insn_set.specs.declared.ops.InvokeKind.TheVariants as call
use Rattle.program_model.specs.Lookups.{class_place}
use Rattle.program_model.specs.ProgramRules.{is_well_formed}
use Rattle.program_model.specs.declared.body.Body.{Body}
use Rattle.program_model.specs.declared.pass.Changed.{Changed}
use Rattle.program_model.specs.declared.pools.MethodName.{MethodName}
use Rattle.program_model.specs.declared.program.Method.{Method}
use Rattle.program_model.specs.declared.program.MethodAt.{MethodAt}
use Rattle.program_model.specs.declared.program.Program.{Program}
use Rattle.class_defs.proofs.WellFormed.{sound}
use Rattle.dalvik_defs.specs.Naming.{method_at, named, named_class, type_at}
use Rattle.dalvik_defs.specs.Outer.{Outer}
use Rattle.dalvik_defs.specs.Under.{class_named, defines}
use Rattle.dalvik_defs.specs.declared.names.MethodKey.{MethodKey}
use Rattle.dalvik_defs.specs.declared.program.NamedClass.{NamedClass}
use Rattle.facts.specs.declared.facts.Facts.{Facts}
use Rattle.hierarchy.specs.declared.build.Hierarchy.{Hierarchy}
use Rattle.name_bridge.specs.Named.{class_at}
use Rattle.name_bridge.proofs.Above.{Defined, defined}
use Rattle.name_bridge.proofs.Classes.{class_by_number}
use Rattle.name_bridge.proofs.Tables.{method_class, method_is}
use Rattle.removal_law.specs.Left.{In, here, there}
use Rattle.removal_law.specs.Reach.{ShutsHold}
use Rattle.rewrite_pass.specs.declared.edit.Edit.{Edit}
use Rattle.program_laws.specs.Said.{Quiet, Calls}
use Rattle.bodies_kept.proofs.RewrittenShut.{IsQuiet, rewritten_keeps}
use Rattle.verify.specs.Typings.{Table}
use Rattle.devirt.specs.Rebound.{IsRebinding, AreRebindings, AreRebindingsIn, IsReboundBy}

module _ (p : Program) (w : is_well_formed p ≡ true) where
  -- the class that an entry names is one of the program
  entry_defined : (m : ℕ) (q : MethodName) (c : ℕ) → slice_get p.methods m ≡ Some q → class_place p q.class ≡ Some c → defines (named p) (method_at p m).class ≡ true
  entry_defined m q c e at =
      let d : Defined p q.class c = defined p q.class c at in
      let is : class_named (named p) (type_at p q.class) ≡ Some (named_class p d.class) =
      class_by_number p (sound p w) q.class (method_class p (sound p w) m q e) ∙ (ap (option_and_then (class_at p)) at ∙ ap (option_map (named_class p)) d.is) in
      ap (λ (k : MethodKey). defines (named p) k.class) (method_is p (sound p w) m q e) ∙ ap (λ (o : Option NamedClass). elim o as (λ o. Bool) [ Some c ↦ true | None ↦ false ]) is

  call_quiet : (kind : InvokeKind) (m : ℕ) (args : List ℕ) → defines (named p) (method_at p m).class ≡ true → IsQuiet p (insn.Invoke kind m args)
  call_quiet call.Virtual m args e = ap (λ b. if b then Quiet else Calls (method_at p m)) e
  call_quiet call.Interface m args e = ap (λ b. if b then Quiet else Calls (method_at p m)) e
  call_quiet call.Direct m args e = refl
  call_quiet call.Super m args e = refl
  call_quiet call.Static m args e = refl

  rebinding_quiet : (facts : Facts) (x : Table) (at : MethodAt) (m : Method) (b : Body) (e : Edit) → IsRebinding p facts x at m b e → IsQuiet p e.insn
  rebinding_quiet facts x at m b e y = subst (IsQuiet p) (sym y.new) (call_quiet y.bound.kind y.bound.method (y.on ∷ y.rest) (entry_defined y.bound.method y.renamed y.at.class y.is.entry y.is.class))

  module _ (h : Hierarchy) (facts : Facts) where
    rebindings_quiet : (at : MethodAt) (m : Method) (b : Body) (es : List Edit) → AreRebindings p h facts at m b es → (e : Edit) → In e es → IsQuiet p e.insn
    rebindings_quiet at m b es r e i = in_table r.table r.each
      where
        of : (x : Table) (es : List Edit) → All (IsRebinding p facts x at m b) es → In e es → IsQuiet p e.insn
        of x _ a (here es) = rebinding_quiet facts x at m b e (All-head (IsRebinding p facts x at m b) e es a)
        of x _ a (there y es j) = of x es (All-tail (IsRebinding p facts x at m b) y es a) j

        in_table : (t : Option Table) → AreRebindingsIn p facts t at m b es → IsQuiet p e.insn
        in_table (Some x) a = of x es a i
        in_table None a = elim (subst (In e) a i) [ ]

    pub rebound_holds : (admitted : List Bool) (c : Changed) (o : Outer) → IsReboundBy p h facts admitted c → ShutsHold (named p) o → ShutsHold (named c.program) o
    rebound_holds admitted c o r = rewritten_keeps (AreRebindings p h facts) admitted p rebindings_quiet c o r
