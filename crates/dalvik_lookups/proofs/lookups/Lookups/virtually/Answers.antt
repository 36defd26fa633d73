use Rattle.std.proofs.Common.{◌∙◌, sym, ap}
use Rattle.dalvik_lookups.specs.Walks.{found_of}
use Rattle.dalvik_lookups.proofs.Calls.{class_there}
use Rattle.dalvik_lookups.proofs.lookups.Lookups.virtually.Goals as goal

pub returns-in_ok-found-in-Some-clause-kept : goal.returns-in_ok-found-in-Some-clause-kept
returns-in_ok-found-in-Some-clause-kept c = λ q r m h hq.
    let there = class_there c.args.self.now.program.now _ c.in-Some.class (sym (c.class_at.ensures r h) ∙ c.in-Some.is) in
    c.virtually_at.ensures.kept there.entry q r m there.is hq

pub returns-in_ok-found-in-Some-clause-is : goal.returns-in_ok-found-in-Some-clause-is
returns-in_ok-found-in-Some-clause-is c = λ q r m h hq.
    let e = sym (c.class_at.ensures r h) ∙ c.in-Some.is in
    let there = class_there c.args.self.now.program.now _ c.in-Some.class e in
    c.in_ok-found-in-Some.ensures.is there.entry q r m there.is hq ∙ sym (ap (λ o. found_of c.args.self.now o q) e)

pub returns-in_err-found-in-Some-clause-kept : goal.returns-in_err-found-in-Some-clause-kept
returns-in_err-found-in-Some-clause-kept c = λ q r m h hq.
    let there = class_there c.args.self.now.program.now _ c.in-Some.class (sym (c.class_at.ensures r h) ∙ c.in-Some.is) in
    c.virtually_at.ensures.kept there.entry q r m there.is hq
