use Rattle.std.proofs.Common.{◌≡◌, true, List, Some, ◌∙◌, refl, sym, ap, subst}
use Rattle.std.specs.Prelude.{Bool, slice_get, slice_index_or}
use Rattle.std.specs.FinMap as finite
use Rattle.domains.specs.Values.{Parts, any_value}
use Rattle.dom_frame.specs.Registers.{Registers, value_at}
use Rattle.closed_facts.specs.Tables.{IsBelow, result_at}
use Rattle.facts_check.specs.Known.{is_marked, pool_at, answer_at}
use Rattle.facts_check.proofs.entries.link_holds.Goals as goal

pub returns-then-is_on : goal.returns-then-is_on
returns-then-is_on c =
    let k = c.args.known.now in
    let l = c.args.link.now in
    let look = c.in-Some-Some.ensures.lookup in
    let looks = c.in-Some-Some.ensures'.lookup in
    let pool : c.in-Some-Some.pool.now ≡ pool_at k l.call = look.3.1 finite.empty ∙ ap (λ (xs : List Registers). slice_index_or xs l.call finite.empty) c.as_slice.ensures.value in
    let answer : c.in-Some-Some.answer.now ≡ answer_at k l.call = looks.3.1 any_value ∙ ap (λ (xs : List Parts). slice_index_or xs l.call any_value) c.as_slice-2.ensures.value in
    λ known e. record {
      entered = λ h. subst (λ (ms : List Bool). is_marked ms l.method ≡ true) c.deref-else-not-is_on.ensures.value (sym c.if-is_on.ensures);
      passed = λ h i v s. subst (λ (x : Registers). IsBelow (value_at x i) v) pool (c.words_hold.ensures e i v (subst (λ (ws : List Parts). slice_get ws i ≡ Some v) (sym c.words_of.ensures) s));
      given = subst (λ (v : Parts). IsBelow (result_at k.facts.now l.method) v) answer (c.if-is_answered.ensures refl);
    }
