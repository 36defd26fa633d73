use Rattle.std.proofs.Common.{List, [], subst}
use Rattle.std.specs.Prelude.{slice_index_or}
use Rattle.domains.specs.Values.{Parts}
use Rattle.facts_check.specs.Tables.{AreAny}
use Rattle.facts_check.proofs.Words.{any_words}
use Rattle.facts_check.proofs.entries.takes_any.Goals as goal

pub returns : goal.returns
returns c = λ known e. any_words (slice_index_or c.args.known.now.facts.now.parameters.items c.args.method []) c.args.known.now.facts.now.any (subst (λ (xs : List Parts). AreAny xs) c.words_of.ensures (c.are_any.ensures e)) known.any
