use Rattle.std.proofs.Common.{◌≡◌, ◌∙◌, sym, ap, subst}
use Rattle.std.specs.Prelude.{IfOk}
use Rattle.rule_text.specs.Glob.{matches_of, behind_of}
use Rattle.rule_match.proofs.GlobLemmas.{behind_matches}
use Rattle.rule_match.proofs.glob.matches.Goals as goal

pub returns : goal.returns
returns c = λ w is. behind_matches c.args.named c.args.pattern.now w c.args.text.now c.in-Some.rest.now c.matches_pieces.result
    (ap (behind_of c.args.named c.args.text.now) (sym c.as_slice.ensures.value) ∙ c.in-Some.ensures.some)
    (subst (λ l. IfOk c.matches_pieces.result (λ b. b ≡ matches_of c.args.named l c.in-Some.rest.now)) c.as_slice-2.ensures.value c.matches_pieces.ensures) is
