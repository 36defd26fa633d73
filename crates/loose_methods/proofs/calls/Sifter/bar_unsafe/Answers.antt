use Rattle.std.proofs.Common.{◌∙◌, ap, sym}
use Rattle.std.specs.Prelude.{◌||◌, not}
use Rattle.loose_methods.specs.Loose.{is_this, names_it}
use Rattle.loose_methods.proofs.Sifts.{bar_sifts, sifts_none, sifts_same}
use Rattle.loose_methods.proofs.calls.Sifter.bar_unsafe.Goals as goal

pub returns-then-safe : goal.returns-then-safe
returns-then-safe c = λ o j s.
    let p = c.args.self.now.judged.program.now in
    sifts_none p o (λ n. c.args.safe || not (names_it p n c.args.called)) c.args.marks.now s (λ n m. ap (λ b. b || not (names_it p n c.args.called)) c.if-safe.true)

pub returns : goal.returns
returns c = λ o j s.
    let p = c.args.self.now.judged.program.now in
    sifts_same p o (λ n. not (is_this n c.named.result)) (λ n. c.args.safe || not (names_it p n c.args.called)) c.args.marks.now c.bar.new.self
    (bar_sifts p o c.named.result c.args.marks.now c.bar.new.self s c.bar.ensures.are c.bar.ensures.long c.bar.ensures.rest)
    (λ n m. ap (λ x. not (is_this n x)) (c.named.ensures j) ∙ sym (ap (λ b. b || not (names_it p n c.args.called)) c.if-safe.false))
