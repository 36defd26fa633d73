use Rattle.std.proofs.Common.{◌≡◌, ◌<◌, refl, sym, subst, length, arith}
use Rattle.dalvik_defs.specs.Under.{class_under}
use Rattle.dalvik_defs.specs.Naming.{named}
use Rattle.dalvik_lookups.specs.Views.{names_of, name_at}
use Rattle.dalvik_lookups.specs.Tables.{IsRight}
use Rattle.dalvik_lookups.specs.Walks.{IsKept, IsInside}
use Rattle.dalvik_lookups.proofs.Unders.{base_right, rows_inside, kept_marks, kept_more}
use Rattle.dalvik_lookups.proofs.lookups.Lookups.base_under.Goals as goal

pub returns-in-Some : goal.returns-in-Some
returns-in-Some c = record { kept = λ r k l u. k; answer = λ r k l u. k.under c.args.upper _ c.in-Some.ensures }

answered : (c : goal.After-keep_under) → IsRight c.args.self.now → IsKept c.args.self.now c.args.memo.now → c.args.lower < length (names_of c.args.self.now.types) → c.args.upper < length (names_of c.args.self.now.types)
    → c.in_ok-answer.answer ≡ class_under (named c.args.self.now.program.now) c.args.self.now.framework.now (name_at c.args.self.now.types c.args.lower) (name_at c.args.self.now.types c.args.upper)
answered c r k l u =
    let inside = subst (IsInside c.args.self.now.above) (sym k.size) (rows_inside c.args.self.now r) in
    base_right c.args.self.now r c.args.lower c.args.upper l u c.in_ok-answer.answer (c.in_ok-answer.ensures.so k.clean inside (omega (arith, l, k.size))) (c.in_ok-answer.ensures.all k.clean inside (omega (arith, l, k.size)) (omega (arith, u, k.size)))

pub returns : goal.returns
returns c = record {
  kept = λ r k l u. kept_more c.args.self.now c.args.memo.now _ c.keep_under.new.self c.args.lower c.args.upper c.in_ok-answer.answer k c.climbs.ensures.size (c.climbs.ensures.clean k.clean) refl refl refl refl c.keep_under.ensures (answered c r k l u);
  answer = answered c;
}

pub returns-in_err-answer-clause-kept : goal.returns-in_err-answer-clause-kept
returns-in_err-answer-clause-kept c = λ r k l u. kept_marks c.args.self.now c.args.memo.now _ k c.climbs.ensures.size (c.climbs.ensures.clean k.clean) refl refl refl refl
