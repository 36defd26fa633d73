use Rattle.std.proofs.Common.{◌≡◌, ◌<◌, ℕ, Some, length, sym, ap, ◌∙◌}
use Rattle.std.specs.Prelude.{slice_get}
use Rattle.std.specs.List.{list_any}
use Rattle.hierarchy.specs.Naming.{definers_of}
use Rattle.receivers.specs.Receiving.{overrides}
use Rattle.receivers.proofs.Owned.{definers_short}
use Rattle.quiet_code.proofs.calls.Search.is_overridden.Goals as goal

pub returns : goal.returns
returns c = λ f q k l.
    let p = c.args.self.now.program.now in
    let same : c.definers_of.result.now ≡ definers_of p q.name q.proto = c.definers_of.ensures p q.name q.proto f.of k in
    let short : (i x : ℕ) → slice_get c.definers_of.result.now i ≡ Some x → x < length p.classes = λ i x e. definers_short p q.name q.proto i x (ap (λ r. slice_get r i) (sym same) ∙ e) in
    c.is_overridden_by.ensures f q k l short ∙ ap (list_any (overrides p q c.args.class c.args.target)) same
