use Rattle.std.proofs.Common.{map, string_bytes}
use Rattle.redex_cli.proofs.WordsLemmas.{words_give, words_refuse}
use Rattle.redex_cli.proofs.top.obey.Goals as goal

pub returns-in-Ok-perform-clause-given : goal.returns-in-Ok-perform-clause-given
returns-in-Ok-perform-clause-given g c =
    words_give (map string_bytes c.args.words.now) _ c.in-Ok.command _ _ _ _ c.in-Ok.ensures.found c.in-Ok.ensures.only c.in-Ok-perform.ensures.given

pub returns-clause-refused : goal.returns-clause-refused
returns-clause-refused g c =
    words_refuse (map string_bytes c.args.words.now) _ c.in-Ok.command _ _ _ _ _ _ _ _ c.in-Ok.ensures.found c.in-Ok.ensures.only c.in-Err-perform.ensures.refused
