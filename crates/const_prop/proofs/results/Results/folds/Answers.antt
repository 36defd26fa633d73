use Rattle.std.proofs.Common.{ap, ◌∙◌, sym, subst, arith, Some, None}
use Rattle.std.specs.Prelude.{All}
use Rattle.const_prop.specs.Folded.{IsFound}
use Rattle.const_prop.proofs.Found.{found_at, found_in, found_more, append_none}
use Rattle.const_prop.proofs.Invariants.{folds_more, folds_all}
use Rattle.const_prop.proofs.results.Results.folds.Goals as goal
use Rattle.const_prop.proofs.results.Results.folds.Goals.{in-Some+in_ok-push, in_default}

pub loop-place-preserved : goal.loop-place-preserved
loop-place-preserved c =
    let s = c.args.self.now in
    let code = c.args.code.now in
    let b = code.body.now in
    let is = c.as_slice-insn-items.result.now in
    let n = c.loop-place.place in
    let f = c.insn-item.result in
    let xs = c.loop-place.folds.items in
    let ys = c.match-branch-2.folds.items in
    elim c.match-branch-2.branch [
      | in-Some+in_ok-push w ↦
          let there = ap (λ v. v.items) w.folds-is ∙ w.in_ok-push.ensures.items in
          record {
            found = found_more b xs ys w.in-Some.fold c.loop-place.invariant.found
                (found_in b is n c.word.result f w.in-Some.fold c.as_slice-insn-items.ensures c.loop-place-test.true (omega arith) c.word.ensures c.insn-item.is (found_at c.in_ok-fold.field-0 w.in-Some.fold c.word.result f c.in_ok-fold.ensures.found w.in-Some.is))
                there;
            are = folds_more s code is n c.word.result f xs ys (Some w.in-Some.fold) c.as_slice-insn-items.ensures c.loop-place-test.true (omega arith) c.word.ensures c.insn-item.is c.loop-place.invariant.are
                (λ k l. sym w.in-Some.is ∙ c.in_ok-fold.ensures.is k l) there;
          }
      | in_default w ↦
          let there = ap (λ v. v.items) w.folds-is in
          record {
            found = subst (All (IsFound b)) (sym there) c.loop-place.invariant.found;
            are = folds_more s code is n c.word.result f xs ys None c.as_slice-insn-items.ensures c.loop-place-test.true (omega arith) c.word.ensures c.insn-item.is c.loop-place.invariant.are
                (λ k l. sym w.in_default.is ∙ c.in_ok-fold.ensures.is k l) (there ∙ sym (append_none xs));
          }
    ]

pub returns : goal.returns
returns c = record {
  found = c.loop-place.invariant.found;
  are = folds_all c.args.self.now c.args.code.now c.as_slice-insn-items.result.now c.loop-place.place c.loop-place.folds.items c.as_slice-insn-items.ensures c.loop-place-test.false (omega arith) c.loop-place.invariant.are;
}
