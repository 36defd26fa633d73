use Rattle.std.proofs.Common.{refl, ◌∙◌, sym, subst, arith, vec_len}
use Rattle.std.specs.Prelude.{count_by, not, Contains}
use Rattle.dalvik_lookups.specs.Walks.{Grow, left}
use Rattle.dalvik_lookups.specs.Tables.{row_at}
use Rattle.dalvik_lookups.proofs.Interned.{got_short}
use Rattle.dalvik_lookups.proofs.Climbing.{walk_begins, walk_on, walk_ends, from_on, less_left, listed_on}
use Rattle.dalvik_lookups.proofs.graph.Above.walk_up.Goals as goal

grown : (c : goal.In_ok-mark_all) → Grow c.loop-number.marks c.mark_all.new.self (row_at c.args.self.now c.in-Some.number)
grown c = subst (Grow c.loop-number.marks c.mark_all.new.self) c.row.ensures c.mark_all.ensures.grow

grown_so_far : (c : goal.After-from_residual) → Grow c.loop-number.marks c.mark_all.new.self (row_at c.args.self.now c.in-Some.number)
grown_so_far c = subst (Grow c.loop-number.marks c.mark_all.new.self) c.row.ensures c.mark_all.ensures.grow

pub loop-number-init : goal.loop-number-init
loop-number-init c = record { size = refl; met = λ n h. h; from = λ x f. f; walking = λ all. walk_begins c.args.self.now c.args.marks.now all }

pub loop-number-preserved : goal.loop-number-preserved
loop-number-preserved c = record {
  size = (grown c).size ∙ c.loop-number.invariant.size;
  met = λ n h. (grown c).reached n (c.loop-number.invariant.met n h);
  from = λ x f. from_on c.args.self.now c.loop-number.marks c.mark_all.new.self c.loop-number.next c.in-Some.number x (c.loop-number.invariant.from x f) (sym c.in-Some.ensures) (grown c);
  walking = λ all. walk_on c.args.self.now c.loop-number.marks c.mark_all.new.self c.loop-number.next c.in-Some.number (c.loop-number.invariant.walking all) (sym c.in-Some.ensures) (grown c)
      (λ n i. c.in_ok-mark_all.ensures.marked n (subst (λ l. Contains l n) (sym c.row.ensures) i));
}

pub loop-number-smaller : goal.loop-number-smaller
loop-number-smaller c =
    let short = got_short c.loop-number.marks.listed.items c.loop-number.next c.in-Some.number (sym c.in-Some.ensures) in
    less_left (left c.mark_all.new.self) (count_by not c.loop-number.marks.marks.items) (vec_len c.loop-number.marks.listed) c.loop-number.next (omega (arith, short, c.loop-number.marks.listed.ok)) (grown c).less

pub returns-in_err-mark_all-clause-size : goal.returns-in_err-mark_all-clause-size
returns-in_err-mark_all-clause-size c = (grown_so_far c).size ∙ c.loop-number.invariant.size

pub returns-in_err-mark_all-clause-listed : goal.returns-in_err-mark_all-clause-listed
returns-in_err-mark_all-clause-listed c = λ all. listed_on c.loop-number.marks c.mark_all.new.self (row_at c.args.self.now c.in-Some.number) (grown_so_far c) (c.loop-number.invariant.walking all).marked

pub returns : goal.returns
returns c = record {
  size = c.loop-number.invariant.size;
  listed = λ all. (c.loop-number.invariant.walking all).marked;
  walked = λ all inside x lt h from.
      walk_ends c.args.self.now c.loop-number.marks (vec_len c.args.marks.now.marks) c.loop-number.next x inside c.loop-number.invariant.size (sym c.loop-number.marks.marks.ok.0) lt (c.loop-number.invariant.met x h) (c.loop-number.invariant.walking all) (sym c.in_default.ensures) (c.loop-number.invariant.from x from);
}
