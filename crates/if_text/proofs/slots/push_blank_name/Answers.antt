use Rattle.std.proofs.Common.{◌≡◌, ◌++◌, subst}
use Rattle.std.specs.Prelude.{OnOk}
use Rattle.if_text.specs.Wildcards.{blanks}
use Rattle.if_text.proofs.slots.push_blank_name.Goals as goal

pub returns : goal.returns
returns c = λ w is. subst (λ n. OnOk c.push_blanks.result (c.push_blanks.new.out.items ≡ c.args.out.now.items ++ blanks n)) (c.name_wilds.ensures w is) c.push_blanks.ensures
