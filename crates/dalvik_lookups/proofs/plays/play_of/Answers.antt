use Rattle.std.proofs.Common.{sym, subst}
use Rattle.std.specs.Prelude.{IfOk}
use Rattle.dalvik_lookups.specs.Playing.{IsPlay}
use Rattle.dalvik_lookups.proofs.Playing.{ready}
use Rattle.dalvik_lookups.proofs.plays.play_of.Goals as goal

pub returns-in-Enter-clause-is : goal.returns-in-Enter-clause-is
returns-in-Enter-clause-is c = λ p k. subst (λ m. IfOk c.enter_of.result (IsPlay p c.enter_of.new.names.types c.enter_of.new.names.texts m)) (sym c.in-Enter.is) (c.enter_of.ensures.is p k)

pub returns-in-Make-clause-is : goal.returns-in-Make-clause-is
returns-in-Make-clause-is c = λ p k. subst (λ m. IfOk c.make_of.result (IsPlay p c.make_of.new.names.types c.make_of.new.names.texts m)) (sym c.in-Make.is) (c.make_of.ensures.is p k.well k.named)

pub returns-in-Return-clause-is : goal.returns-in-Return-clause-is
returns-in-Return-clause-is c = λ p k. subst (λ m. IfOk c.return_of.result (IsPlay p c.return_of.new.names.types c.return_of.new.names.texts m)) (sym c.in-Return.is) (c.return_of.ensures.is p (ready p c.args.names.now c.args.declared.now k))

pub returns-in-Throw-clause-is : goal.returns-in-Throw-clause-is
returns-in-Throw-clause-is c = λ p k. subst (λ m. IfOk c.throw_of.result (IsPlay p c.throw_of.new.names.types c.throw_of.new.names.texts m)) (sym c.in-Throw.is) (c.throw_of.ensures.is p (ready p c.args.names.now c.args.declared.now k))

pub returns-in-Get-clause-is : goal.returns-in-Get-clause-is
returns-in-Get-clause-is c = λ p k. subst (λ m. IfOk c.get_of.result (IsPlay p c.get_of.new.names.types c.get_of.new.names.texts m)) (sym c.in-Get.is) (c.get_of.ensures.is p k)

pub returns-in-Put-clause-is : goal.returns-in-Put-clause-is
returns-in-Put-clause-is c = λ p k. subst (λ m. IfOk c.put_of.result (IsPlay p c.put_of.new.names.types c.put_of.new.names.texts m)) (sym c.in-Put.is) (c.put_of.ensures.is p k)

pub returns-in-ArrayGet-clause-is : goal.returns-in-ArrayGet-clause-is
returns-in-ArrayGet-clause-is c = λ p k. subst (λ m. IfOk c.array_get_of.result (IsPlay p c.array_get_of.new.names.types c.array_get_of.new.names.texts m)) (sym c.in-ArrayGet.is) (c.array_get_of.ensures.is p (ready p c.args.names.now c.args.declared.now k))

pub returns-in-ArrayPut-clause-is : goal.returns-in-ArrayPut-clause-is
returns-in-ArrayPut-clause-is c = λ p k. subst (λ m. IfOk c.array_put_of.result (IsPlay p c.array_put_of.new.names.types c.array_put_of.new.names.texts m)) (sym c.in-ArrayPut.is) (c.array_put_of.ensures.is p (ready p c.args.names.now c.args.declared.now k))

pub returns-in-ArrayLength-clause-is : goal.returns-in-ArrayLength-clause-is
returns-in-ArrayLength-clause-is c = λ p k. subst (λ m. IfOk c.array_length_of.result (IsPlay p c.array_length_of.new.names.types c.array_length_of.new.names.texts m)) (sym c.in-ArrayLength.is) (c.array_length_of.ensures.is p (ready p c.args.names.now c.args.declared.now k))
