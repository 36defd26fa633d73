use Rattle.std.proofs.Common.{◌≡◌, ℕ, true, List, refl, subst}
use Rattle.std.specs.Prelude.{Bool}
use Rattle.facts_check.specs.Known.{is_marked}
use Rattle.facts_check.specs.Tables.{IsReached}
use Rattle.facts_check.proofs.entries.entries_hold.Goals as goal

pub returns : goal.returns
returns c = λ known e. record {
  entered = subst (λ (ms : List Bool). (m : ℕ) → is_marked ms m ≡ true → IsReached c.args.known.now c.args.frames.now m) c.deref.ensures.value (c.if-not-are_entered.ensures refl);
  opened = c.if-not-are_opened.ensures known refl;
  bare = c.all_bare.ensures known e;
}
