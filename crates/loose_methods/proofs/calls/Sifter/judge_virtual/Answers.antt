use Rattle.loose_methods.proofs.Sifts.{sifts_then, virtual_allows}
use Rattle.loose_methods.proofs.calls.Sifter.judge_virtual.Goals as goal

pub returns : goal.returns
returns c = λ o j e s.
    let p = c.args.self.now.judged.program.now in
    let asked = c.args.call.now in
    let first = c.in_ok-sift_once.ensures o j e s in
    sifts_then p o _ _ _ c.args.marks.now c.sift_once.new.marks c.bar_unsafe.new.marks s first (c.bar_unsafe.ensures o j first.sifted) (λ n m. virtual_allows p asked.caller asked.called c.args.name.now asked.safe n)
