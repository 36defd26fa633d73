use Rattle.std.proofs.Common.{◌≡◌, ℕ, None, refl}
use Rattle.program_model.specs.declared.program.Method.{Method}
use Rattle.facts_check.specs.Tables.{IsOpenEnded}
use Rattle.facts_check.proofs.Loops.{one_item, all_of}
use Rattle.facts_check.proofs.entries.are_bare.Goals as goal

pub loop-method-preserved : goal.loop-method-preserved
loop-method-preserved c = λ known. one_item (λ (i : ℕ) (m : Method). m.body ≡ None → IsOpenEnded c.args.known.now m.name) c.args.methods.now c.loop-method.method-index c.method-item.result c.method-item.is (c.if-not-is_bare.ensures known refl) (c.loop-method.invariant known)

pub returns : goal.returns
returns c = λ known e. all_of (λ (i : ℕ) (m : Method). m.body ≡ None → IsOpenEnded c.args.known.now m.name) c.args.methods.now c.loop-method.method-index c.loop-method-test.false (c.loop-method.invariant known)
