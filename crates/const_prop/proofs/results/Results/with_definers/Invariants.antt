use Rattle.const_prop.proofs.Finding.{DefinersSo}
use Rattle.const_prop.proofs.results.Results.with_definers.Given as goal

abbrev pub invariant-loop-definer : goal.invariant-loop-definer
invariant-loop-definer l = DefinersSo l.self l.class l.key l.fn.first l.definers l.definer-index l.known
