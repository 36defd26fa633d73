use Rattle.std.proofs.Common.{◌∙◌, ap, sym}
use Rattle.std.specs.Prelude.{◌&&◌, not}
use Rattle.class_defs.specs.Finding.{finds_static}
use Rattle.loose_methods.specs.Loose.{is_this, names_it, number_found}
use Rattle.loose_methods.specs.Sifting.{same_some}
use Rattle.loose_methods.proofs.Sifts.{bar_sifts, direct_barred, direct_kept, sifts_none, sifts_then, super_barred, super_kept}
use Rattle.loose_methods.proofs.calls.Sifter.judge_found.Goals as goal

pub returns-then-keeps_found-clause-direct : goal.returns-then-keeps_found-clause-direct
returns-then-keeps_found-clause-direct c = λ o q j e s found.
    let p = c.args.self.now.judged.program.now in
    let asked = c.args.call.now in
    let keeps = ap (λ x. asked.safe && same_some x (number_found p (finds_static p asked.called))) (sym found) ∙ (sym (c.keeps_found.ensures j) ∙ c.if-keeps_found.true) in
    sifts_none p o _ c.args.marks.now s (λ n m. direct_kept p c.args.self.now.judged.hierarchy.now j.formed j.resolved o n (s.candidates n m) asked.called q e asked.caller asked.safe keeps)

pub returns-then-keeps_found-clause-above : goal.returns-then-keeps_found-clause-above
returns-then-keeps_found-clause-above c = λ o q j e s found.
    let p = c.args.self.now.judged.program.now in
    let asked = c.args.call.now in
    let keeps = ap (λ x. asked.safe && same_some x (number_found p (finds_static p asked.called))) (sym found) ∙ (sym (c.keeps_found.ensures j) ∙ c.if-keeps_found.true) in
    sifts_none p o _ c.args.marks.now s (λ n m. super_kept p c.args.self.now.judged.hierarchy.now j.formed j.resolved o n (s.candidates n m) asked.called q e asked.caller asked.safe keeps)

pub returns-clause-direct : goal.returns-clause-direct
returns-clause-direct c = λ o q j e s found.
    let p = c.args.self.now.judged.program.now in
    let asked = c.args.call.now in
    let bars = ap (λ x. asked.safe && same_some x (number_found p (finds_static p asked.called))) (sym found) ∙ (sym (c.keeps_found.ensures j) ∙ c.if-keeps_found.false) in
    let a = bar_sifts p o c.named.result c.args.marks.now c.bar.new.self s c.bar.ensures.are c.bar.ensures.long c.bar.ensures.rest in
    let b = bar_sifts p o c.args.found c.bar.new.self c.bar-2.new.self a.sifted c.bar-2.ensures.are c.bar-2.ensures.long c.bar-2.ensures.rest in
    sifts_then p o (λ n. not (is_this n c.named.result)) (λ n. not (is_this n c.args.found)) _ c.args.marks.now c.bar.new.self c.bar-2.new.self s a b (λ n m.
    ap (λ x. not (is_this n x) && not (is_this n c.args.found)) (c.named.ensures j) ∙ (ap (λ x. not (names_it p n asked.called) && not (is_this n x)) found
    ∙ direct_barred p c.args.self.now.judged.hierarchy.now j.formed j.resolved o n (s.candidates n m) asked.called q e asked.caller asked.safe bars))

pub returns-clause-above : goal.returns-clause-above
returns-clause-above c = λ o q j e s found.
    let p = c.args.self.now.judged.program.now in
    let asked = c.args.call.now in
    let bars = ap (λ x. asked.safe && same_some x (number_found p (finds_static p asked.called))) (sym found) ∙ (sym (c.keeps_found.ensures j) ∙ c.if-keeps_found.false) in
    let a = bar_sifts p o c.named.result c.args.marks.now c.bar.new.self s c.bar.ensures.are c.bar.ensures.long c.bar.ensures.rest in
    let b = bar_sifts p o c.args.found c.bar.new.self c.bar-2.new.self a.sifted c.bar-2.ensures.are c.bar-2.ensures.long c.bar-2.ensures.rest in
    sifts_then p o (λ n. not (is_this n c.named.result)) (λ n. not (is_this n c.args.found)) _ c.args.marks.now c.bar.new.self c.bar-2.new.self s a b (λ n m.
    ap (λ x. not (is_this n x) && not (is_this n c.args.found)) (c.named.ensures j) ∙ (ap (λ x. not (names_it p n asked.called) && not (is_this n x)) found
    ∙ super_barred p c.args.self.now.judged.hierarchy.now j.formed j.resolved o n (s.candidates n m) asked.called q e asked.caller asked.safe bars))
