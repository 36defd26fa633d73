use Rattle.std.proofs.Common.{sym, subst}
use Rattle.std.specs.Prelude.{IfOk}
use Rattle.dalvik_lookups.specs.Playing.{IsGift}
use Rattle.dalvik_lookups.proofs.plays.gift_of.Goals as goal

pub returns-in-New-clause-is : goal.returns-in-New-clause-is
returns-in-New-clause-is c = λ r. subst (λ v. IfOk c.new_of.result (IsGift c.new_of.new.names.types c.new_of.new.names.texts v)) (sym c.in-New.is) (c.new_of.ensures.is r)

pub returns-in-Array-clause-is : goal.returns-in-Array-clause-is
returns-in-Array-clause-is c = λ r. subst (λ v. IfOk c.array_of.result (IsGift c.array_of.new.names.types c.array_of.new.names.texts v)) (sym c.in-Array.is) (c.array_of.ensures.is r)

pub returns-in-Literal-clause-is : goal.returns-in-Literal-clause-is
returns-in-Literal-clause-is c = λ r. subst (λ v. IfOk c.literal_of.result (IsGift c.literal_of.new.names.types c.literal_of.new.names.texts v)) (sym c.in-Literal.is) (c.literal_of.ensures.is r)

pub returns-in-Class-clause-is : goal.returns-in-Class-clause-is
returns-in-Class-clause-is c = λ r. subst (λ v. IfOk c.class_of.result (IsGift c.class_of.new.names.types c.class_of.new.names.texts v)) (sym c.in-Class.is) (c.class_of.ensures.is r)

pub returns-in-Null-clause-is : goal.returns-in-Null-clause-is
returns-in-Null-clause-is c = λ r. record { is = sym c.in-Null.is; stands = tt }

pub returns-in-Word-clause-is : goal.returns-in-Word-clause-is
returns-in-Word-clause-is c = λ r. record { is = sym c.in-Word.is; stands = tt }

pub returns-in-Wide-clause-is : goal.returns-in-Wide-clause-is
returns-in-Wide-clause-is c = λ r. record { is = sym c.in-Wide.is; stands = tt }

pub returns-in-Exposed-clause-is : goal.returns-in-Exposed-clause-is
returns-in-Exposed-clause-is c = λ r. record { is = sym c.in-Exposed.is; stands = tt }
