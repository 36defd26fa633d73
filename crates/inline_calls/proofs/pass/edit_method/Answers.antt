use Rattle.std.proofs.Common.{refl, sym, ◌∙◌}
use Rattle.inline_calls.specs.Plans.{Bare, Barred, Looked}
use Rattle.inline_calls.proofs.Asks.{no_asks, so_asks, on_err}
use Rattle.inline_calls.proofs.pass.edit_method.Goals as goal

pub returns-in-None-clause-looked : goal.returns-in-None-clause-looked
returns-in-None-clause-looked g c = no_asks _ _ _ (Bare c.in-None.is)

pub returns-then-not-is_on-clause-looked : goal.returns-then-not-is_on-clause-looked
returns-then-not-is_on-clause-looked g c = no_asks _ _ _ (Barred (sym c.is_on.ensures ∙ c.if-not-is_on.true))

pub returns-clause-looked : goal.returns-clause-looked
returns-clause-looked g c =
    so_asks _ _ _ _ _ _ (λ rows looked. Looked _ rows _ _ (sym c.is_on.ensures ∙ c.if-not-is_on.false) (record { place = refl; inside = refl; method = refl; code = c.in-Some.is }) looked) c.in_ok-edit.ensures.looked

pub returns-in_err-edit-clause-begun : goal.returns-in_err-edit-clause-begun
returns-in_err-edit-clause-begun g c =
    on_err _ (so_asks _ _ _ _ _ _ (λ rows begun. record {
      caller = _;
      admitted = sym c.is_on.ensures ∙ c.if-not-is_on.false;
      is = record { place = refl; inside = refl; method = refl; code = c.in-Some.is };
      begun = begun;
    }) c.in_err-edit.ensures.begun)
