use Rattle.std.proofs.Common.{◌≡◌, ◌∙◌, ℕ, Some, sym, ap, subst}
use Rattle.std.specs.Prelude.{slice_get}
use Rattle.insn_set.specs.declared.ops.InvokeKind.{InvokeKind}
use Rattle.insn_set.specs.declared.ops.InvokeKind.TheVariants as call
use Rattle.call_graph.specs.declared.named.Named.TheVariants as named
use Rattle.call_graph.proofs.Contained.{only_in}
use Rattle.call_graph.proofs.SuperCalls.{has_of}
use Rattle.call_graph.proofs.Reaching.{super_only}
use Rattle.call_graph.proofs.supers.add_super_named.Goals as goal

called_same : (k : InvokeKind) (a b : ℕ) → named.Call k a ≡ named.Call call.Super b → a ≡ b
called_same k a b e = cc

pub returns-in_ok-add_super-in-Call-Super-default-clause-finds : goal.returns-in_ok-add_super-in-Call-Super-default-clause-finds
returns-in_ok-add_super-in-Call-Super-default-clause-finds c = λ is fits are short callee q i e.
    let same : c.in-Call-Super-default.method ≡ callee = called_same c.in-Call-Super-default.kind c.in-Call-Super-default.method callee (sym c.in-Call-Super-default.is ∙ only_in c.args.named (named.Call call.Super callee) i) in
    has_of c.args.at.now.program.now c.args.caller.0 c.args.caller.1 q c.args.out.now.items c.add_super.new.out.items
    (c.in_ok-add_super-in-Call-Super-default.ensures.finds is fits are short q (subst (λ n. slice_get c.args.at.now.program.now.methods n ≡ Some q) (sym same) e))

pub returns-in_ok-add_super-in-Call-Super-default-clause-only : goal.returns-in_ok-add_super-in-Call-Super-default-clause-only
returns-in_ok-add_super-in-Call-Super-default-clause-only c = λ is formed are short.
    let kind : c.in-Call-Super-default.kind ≡ call.Super = rw c.in-Call-Super-default.is at c.in-Call-Super-default.kind-is in
    super_only c.args.at.now.program.now c.args.caller.0 c.args.caller.1 c.args.named c.in-Call-Super-default.method c.args.out.now.items c.add_super.new.out.items
    (c.in-Call-Super-default.is ∙ ap (λ k. named.Call k c.in-Call-Super-default.method) kind) c.in_ok-add_super-in-Call-Super-default.ensures.none
    (λ q e. c.in_ok-add_super-in-Call-Super-default.ensures.finds is formed are short q e)
