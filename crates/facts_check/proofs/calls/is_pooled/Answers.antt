use Rattle.std.proofs.Common.{◌≡◌, List, ◌∙◌, sym, ap, subst}
use Rattle.std.specs.Prelude.{slice_index_or}
use Rattle.std.specs.FinMap as finite
use Rattle.dom_frame.specs.Registers.{Registers, value_at}
use Rattle.closed_facts.specs.Tables.{IsBelow}
use Rattle.facts_check.specs.Known.{pool_at}
use Rattle.facts_check.proofs.Words.{first_receiver}
use Rattle.facts_check.proofs.calls.is_pooled.Goals as goal

pub returns-then-args-lt65536 : goal.returns-then-args-lt65536
returns-then-args-lt65536 c =
    let look = c.in-Some-len1-up.ensures.lookup in
    let pool : c.in-Some-len1-up.pool.now ≡ pool_at c.args.known.now c.args.number = look.3.1 finite.empty ∙ ap (λ (xs : List Registers). slice_index_or xs c.args.number finite.empty) c.as_slice.ensures.value in
    λ e. record {
      made = sym c.is_made.ensures ∙ c.if-not-is_made.false;
      words = λ i r s. subst (λ (x : Registers). IsBelow (value_at c.args.registers.now r) (value_at x i)) pool (c.are_pooled.ensures e i r s);
      on = first_receiver c.args.args.now c.in-Some-len1-up.len_at_least;
    }
