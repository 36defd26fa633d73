use Rattle.std.proofs.Common.{◌∙◌, ◌<◌, ◌^◌, ap, subst, sym}
use Rattle.std.specs.Prelude.{IfSome}
use Rattle.std.specs.HashSet.{contains_by}
use Rattle.static_protos.specs.Growing.{same_pair}
use Rattle.static_protos.specs.Tables.{is_taken}
use Rattle.static_protos.proofs.tables.Additions.is_taken.Goals as goal

pub returns-in-Some : goal.returns-in-Some
returns-in-Some c = λ p t g short.
    c.contains.ensures ∙ (ap (λ i. contains_by (same_pair (c.args.name, i)) c.args.self.now.names) (c.word.ensures (subst (λ o. IfSome o (λ i. i < 2 ^ 32)) c.in-Some.is short)) ∙ (g.names c.args.name c.in-Some.proto ∙ sym (ap (is_taken p c.args.name) c.in-Some.is)))
