use Rattle.std.proofs.Common.{Ok, Err, rules}
use Rattle.std.proofs.lemmas.List.Sorted.{answers_always}
use Rattle.dex_read.specs.declared.class_data.Listed.{Listed}
use Rattle.dex_read.proofs.Search.{searches}
use Rattle.dex_read.proofs.class_data.place_of.Goals as goal

pub returns-in-Ok-clause-place : goal.returns-in-Ok-clause-place
returns-in-Ok-clause-place c =
    searches c.args.entries.now c.args.number (Ok c.in-Ok.place) c.requires (c.in-Ok.ensures.position (λ (e : Listed). e.number) (answers_always _ _ _ (λ f a r g called. search rules))) c.in-Ok.ensures.bound

pub returns-in-Err-clause-place : goal.returns-in-Err-clause-place
returns-in-Err-clause-place c =
    searches c.args.entries.now c.args.number (Err c.in-Err.field-0) c.requires (c.in-Err.ensures.position (λ (e : Listed). e.number) (answers_always _ _ _ (λ f a r g called. search rules))) c.in-Err.ensures.bound
