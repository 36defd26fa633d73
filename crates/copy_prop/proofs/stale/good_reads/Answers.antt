use Rattle.std.proofs.Common.{◌≡◌, ℕ, Bool, List, length, sym, subst, arith, ◌+◌}
use Rattle.copy_prop.specs.Searches.{AreGood}
use Rattle.copy_prop.proofs.Good.{good_more}
use Rattle.copy_prop.proofs.stale.good_reads.Goals as goal

pub loop-position-preserved : goal.loop-position-preserved
loop-position-preserved c =
    let P : List Bool → Type 0 = λ xs. AreGood c.args.widths.now c.args.body.now c.args.copy.now (c.loop-position.position + 1) xs in
    subst P (sym c.in_ok-push.ensures.items) (good_more c.args.widths.now c.args.body.now c.args.steps.now c.requires.steps c.args.copy.now c.in_ok-spoilt.spoilt.items c.in_ok-spoilt.ensures c.loop-position.position c.insn_at-insn.result.now c.in_ok-is_good.field-0 c.loop-position.good.items c.insn_at-insn.ensures
    (cc (c.in_ok-is_good.ensures, c.is_kept-kept.ensures, c.as_slice.ensures.value, c.as_slice-in-loop-position.ensures.value)) c.loop-position.invariant)

pub returns : goal.returns
returns c =
    let e : c.loop-position.position ≡ length c.args.body.now.insns = omega arith in
    let P : ℕ → Type 0 = λ n. AreGood c.args.widths.now c.args.body.now c.args.copy.now n c.loop-position.good.items in
    subst P e c.loop-position.invariant
