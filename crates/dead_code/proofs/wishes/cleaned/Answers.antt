use Rattle.std.proofs.Common.{List, Bool, subst}
use Rattle.insn_set.specs.declared.form.Insn.{Insn}
use Rattle.walk_marks.specs.Walks.{is_on}
use Rattle.thin_pass.specs.Wishing.{AreWished}
use Rattle.dead_code.specs.Wishes.{wish_for}
use Rattle.dead_code.proofs.wishes.cleaned.Goals as goal

pub returns : goal.returns
returns c = record {
  dead = c.in_ok-dead.dead.items;
  are_dead = c.in_ok-dead.ensures;
  firsts = c.in_ok-firsts.firsts.items;
  begin = c.in_ok-firsts.ensures.begin;
  are =
      subst (λ (l : List Insn). AreWished (λ n i. wish_for (is_on c.in_ok-dead.dead.items n) (is_on c.in_ok-firsts.firsts.items n)) l c.in_ok-wishes.wishes.items) c.as_slice.ensures
      (subst (λ (l : List Bool). AreWished (λ n i. wish_for (is_on c.in_ok-dead.dead.items n) (is_on l n)) c.as_slice.result.now c.in_ok-wishes.wishes.items) c.deref-2.ensures.value
      (subst (λ (l : List Bool). AreWished (λ n i. wish_for (is_on l n) (is_on c.deref-2.result.now n)) c.as_slice.result.now c.in_ok-wishes.wishes.items) c.deref.ensures.value c.in_ok-wishes.ensures));
}
