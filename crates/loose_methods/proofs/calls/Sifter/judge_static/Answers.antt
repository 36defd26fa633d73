use Rattle.std.proofs.Common.{◌∙◌, ap, false}
use Rattle.std.specs.Prelude.{◌&&◌, not}
use Rattle.insn_set.specs.declared.ops.InvokeKind.TheVariants as call
use Rattle.loose_methods.specs.Loose.{is_this, names_it}
use Rattle.loose_methods.specs.Sifting.{allows_so}
use Rattle.loose_methods.proofs.Sifts.{bar_sifts, sifts_then, static_allows}
use Rattle.loose_methods.proofs.calls.Sifter.judge_static.Goals as goal

pub returns : goal.returns
returns c = λ o q caller j e s.
    let p = c.args.self.now.judged.program.now in
    let a = bar_sifts p o c.named.result c.args.marks.now c.bar.new.self s c.bar.ensures.are c.bar.ensures.long c.bar.ensures.rest in
    let b = bar_sifts p o c.found_static.result c.bar.new.self c.bar-2.new.self a.sifted c.bar-2.ensures.are c.bar-2.ensures.long c.bar-2.ensures.rest in
    sifts_then p o (λ n. not (is_this n c.named.result)) (λ n. not (is_this n c.found_static.result)) (allows_so p caller call.Static c.args.called q false) c.args.marks.now c.bar.new.self c.bar-2.new.self s a b (λ n m.
    ap (λ x. not (is_this n x) && not (is_this n c.found_static.result)) (c.named.ensures j) ∙ (ap (λ x. not (names_it p n c.args.called) && not (is_this n x)) (c.found_static.ensures j) ∙ static_allows p n caller c.args.called q))
